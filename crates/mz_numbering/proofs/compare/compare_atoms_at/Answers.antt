use Rattle.std.proofs.Common.{arith, subst, ℕ, List}
use Rattle.std.specs.Prelude.{Contains}
use Rattle.mz_numbering.proofs.CompareLemmas.{atom_args_within}
use Rattle.mz_numbering.proofs.compare.compare_atoms_at.Goals as goal

pub compare_places-by_args-requires-clause-below : goal.compare_places-by_args-requires-clause-below
compare_places-by_args-requires-clause-below c = λ k w. omega (arith, c.len.ensures, atom_args_within c.args.g.now c.requires c.args.p k _ c.in-Some.ensures (subst (λ (z : List ℕ). Contains z k) c.as_slice-ps.ensures w))
