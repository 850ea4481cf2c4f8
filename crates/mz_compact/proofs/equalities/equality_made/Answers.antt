use Rattle.std.proofs.Common.{ap, subst}
use Rattle.std.specs.Prelude.{Ok, Err}
use Rattle.mz_core.specs.StatementView.{statement_of}
use Rattle.mz_names.specs.declared.refusal.Refusal.TheVariants.{TooLarge}
use Rattle.mz_formulas.specs.declared.sentence.Sentence.{Sentence}
use Rattle.mz_justified.specs.declared.proof_fault.ProofRefusal.TheVariants.{Resolve}
use Rattle.mz_walk.specs.Compact.{EqualityMade}
use Rattle.mz_compact.proofs.EqualityLemmas.{told_equality, told_too_large}
use Rattle.mz_compact.proofs.equalities.equality_made.Goals as goal

pub returns-in-Some : goal.returns-in-Some
returns-in-Some c = subst (λ (x : Sentence). EqualityMade c.args.first c.args.n x c.args.us.now (Ok c.in-Some.said)) c.s.view_is (told_equality _ _ _ _ _ _ _ _ (ap statement_of c.in-Eq.is) c.in_ok-said-in-Eq.ensures c.in-Some.is)

pub returns-in-None : goal.returns-in-None
returns-in-None c = subst (λ (x : Sentence). EqualityMade c.args.first c.args.n x c.args.us.now (Err (Resolve (TooLarge c.args.first)))) c.s.view_is (told_too_large _ _ _ _ _ _ _ (ap statement_of c.in-Eq.is) c.in_ok-said-in-Eq.ensures c.in-None.is)
