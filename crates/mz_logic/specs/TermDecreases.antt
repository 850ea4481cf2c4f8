-- The arguments of a term are smaller than the term.
use Rattle.std.specs.Prelude.{◌≤◌, max}
use Rattle.std.proofs.Common.{arith}
use Rattle.mz_logic.specs.declared.term.TermNode.{TermNode}
use Rattle.mz_logic.specs.declared.term.TermNode.TheVariants.{Bound, Const, App}
use Rattle.mz_logic.specs.declared.term.Term.TheDeep.{deep-TermNode}
use Rattle.mz_logic.specs.TermStorage.{size_of}
use Rattle.mz_logic.specs.TermView.{term_of}

pub decreases : (n : TermNode) → max (deep-TermNode n) 0 ≤ size_of (term_of n)
decreases (Bound n) = omega arith
decreases (Const n) = omega arith
decreases (App s ts) = omega arith
