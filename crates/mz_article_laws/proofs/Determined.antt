-- What is read and what reasonings make is determined.
use Rattle.std.proofs.Common.{ℕ, Bool, List}
use Rattle.mz_base.specs.declared.place.Place.{Place}
use Rattle.mz_core.specs.declared.outcome.Left.{Left}
use Rattle.mz_context.specs.declared.context.Context.{Context}
use Rattle.mz_environment.specs.declared.environment.Environment.{Environment}
use Rattle.mz_formulas.specs.declared.sentence.Sentence.{Sentence}
use Rattle.mz_resolve.specs.Calls.{SentenceRead}
use Rattle.mz_obligations.specs.declared.obligation.Extent.{Extent}
use Rattle.mz_tree.specs.Trees.{FormulaData}
use Rattle.mz_tree_proof.specs.Reasoning.{JustData, StatementData}
use Rattle.mz_tree_part.specs.declared.reserve.SegmentTree.{SegmentTree}
use Rattle.mz_reserve.specs.Reserve.{Reserves}
use Rattle.mz_walk.specs.Walked.{State}
use Rattle.mz_walk.specs.Walk.{Justifies, States}
use Rattle.mz_justified_laws.specs.Determined.{AtMostOne, IsDetermined}
use Rattle.mz_parts_laws.proofs.OneExpression.{one_sentence_read}
use Rattle.mz_reserve_laws.proofs.OneReservation.{one_reservation}
use Rattle.mz_walk_value_laws.proofs.OneWalk.{one_justified_law, one_statement_law}

-- a reservation and a sentence are read to one thing at most, behind which one thing is left unless it is refused; and what a
-- justification and a statement make is one thing at most
pub record AreDetermined : Type 0 where
  pub reservation : (e : Environment) (c : Context) (left : Left) (ss : List SegmentTree) → IsDetermined (Reserves e c left ss)
  pub sentence : (e : Environment) (c : Context) (least : ℕ) (left : Left) (f : FormulaData) → IsDetermined (SentenceRead e c least left f)
  pub justified : (e : Environment) (at : Extent) (c : Context) (first : Place) (linked : Bool) (behind : Place) (j : JustData) (x : Sentence) (l : Left) → AtMostOne (Justifies e at c first linked behind j x l)
  pub stated : (e : Environment) (at : Extent) (s : State) (first : Place) (t : StatementData) → AtMostOne (States e at s first t)

pub determined : AreDetermined
determined = record { reservation = one_reservation; sentence = one_sentence_read; justified = one_justified_law; stated = one_statement_law }
