-- Conditions come to one thing at most.
use Rattle.std.proofs.Common.{◌≡◌, ℕ, false, List, [], ◌∷◌, refl, sym, ap, ◌∙◌, subst}
use Rattle.mz_core.specs.declared.item.Item.{Item}
use Rattle.mz_core.specs.declared.outcome.Left.{Left}
use Rattle.mz_items.specs.declared.condition.Condition.{Condition}
use Rattle.mz_context.specs.declared.context.Context.{Context}
use Rattle.mz_environment.specs.declared.environment.Environment.{Environment}
use Rattle.mz_formulas.specs.declared.sentence.Sentence.{Sentence}
use Rattle.mz_loci.specs.Loci.{statement_at_loci}
use Rattle.mz_obligations.specs.declared.obligation.Extent.{Extent}
use Rattle.mz_owed.specs.Owed.{named, number_of, covered, written, joint_thesis}
use Rattle.mz_conditions.specs.Conditions as rule
use Rattle.mz_conditions.specs.Conditions.{Asked, plain_sentence, behind_judged, TakesCondition}
use Rattle.mz_taken.specs.Taken.{Taken, Refused}
use Rattle.mz_taken.specs.OneByOne.{OneLaw}
use Rattle.mz_taken.specs.declared.item_fault.ItemRefusal.TheVariants.{ConditionStray}
use Rattle.mz_taken.proofs.OneByOneProofs.{one_all}
use Rattle.mz_tree_item.specs.declared.definition.ConditionTree.{ConditionTree}
use Rattle.mz_walk.specs.Walked.{Walked}
use Rattle.mz_walk.specs.Walk.{Justifies}
pub use Rattle.mz_walk_value_laws.proofs.OneWalk.{one_justified_law}
use Rattle.mz_condition_laws.specs.Laws.{OneConditionsLaw}

-- what the word's justification leads to
abbrev JudgesCondition : Environment → Extent → Context → ℕ → ℕ → Item → Asked → ConditionTree → List Condition → Walked Left → Type 0
JudgesCondition e at c least count x a t cs o = Justifies e at c t.place false t.semicolon t.just (plain_sentence (statement_at_loci least count (joint_thesis x cs))) a.left o

-- what comes of a word, by what it covers
record ByJudging (e : Environment) (at : Extent) (c : Context) (least count : ℕ) (x : Item) (a : Asked) (t : ConditionTree) (cs : List Condition) (w : Taken Asked) : Type 0 where
  outcome : Walked Left
  judges : JudgesCondition e at c least count x a t cs outcome
  is : behind_judged (written a.owed t.word) outcome ≡ w

abbrev TakesAs : Environment → Extent → Context → ℕ → ℕ → Item → Asked → ConditionTree → List Condition → Taken Asked → Type 0
TakesAs e at c least count x a t [] w = w ≡ Refused (ConditionStray t.place (number_of (named t.word)))
TakesAs e at c least count x a t (d ∷ ds) w = ByJudging e at c least count x a t (d ∷ ds) w

takes_as : (e : Environment) (at : Extent) (c : Context) (least count : ℕ) (x : Item) (a : Asked) (t : ConditionTree) (w : Taken Asked) → TakesCondition e at c least count x a t w → TakesAs e at c least count x a t (covered a.owed t.word) w
takes_as e at c least count x a t w (rule.stray none) = subst (λ cs. TakesAs e at c least count x a t cs w) (sym none) refl
takes_as e at c least count x a t w (rule.judged d ds o some j) = subst (λ cs. TakesAs e at c least count x a t cs w) (sym some) (record { outcome = o; judges = j; is = refl })

one_as : (e : Environment) (at : Extent) (c : Context) (least count : ℕ) (x : Item) (a : Asked) (t : ConditionTree) (cs : List Condition) (v w : Taken Asked) → TakesAs e at c least count x a t cs v → TakesAs e at c least count x a t cs w → v ≡ w
one_as e at c least count x a t [] v w h k = h ∙ sym k
one_as e at c least count x a t (d ∷ ds) v w h k =
    let p : Sentence = plain_sentence (statement_at_loci least count (joint_thesis x (d ∷ ds))) in
    sym h.is ∙ (ap (behind_judged (written a.owed t.word)) (one_justified_law e at c t.place false t.semicolon t.just p a.left h.outcome k.outcome h.judges k.judges) ∙ k.is)

one_condition : (e : Environment) (at : Extent) (c : Context) (least count : ℕ) (x : Item) → OneLaw (TakesCondition e at c least count x)
one_condition e at c least count x a t v w h k =
    one_as e at c least count x a t (covered a.owed t.word) v w (takes_as e at c least count x a t v h) (takes_as e at c least count x a t w k)

pub one_conditions_law : OneConditionsLaw
one_conditions_law e at c least count x a ws v w h k = one_all (TakesCondition e at c least count x) (one_condition e at c least count x) h k
