-- The correctness conditions behind a heading, one after another.
use Rattle.std.specs.Prelude.{◌≡◌, ℕ, false, List, [], ◌∷◌}
use Rattle.mz_core.specs.Statement.{Statement}
use Rattle.mz_core.specs.declared.item.Item.{Item}
use Rattle.mz_core.specs.declared.outcome.Left.{Left}
use Rattle.mz_items.specs.declared.condition.Condition.{Condition}
use Rattle.mz_context.specs.declared.context.Context.{Context}
use Rattle.mz_environment.specs.declared.environment.Environment.{Environment}
use Rattle.mz_formulas.specs.declared.sentence.Sentence.{Sentence}
use Rattle.mz_obligations.specs.declared.obligation.Extent.{Extent}
use Rattle.mz_walk.specs.Walked as walked
use Rattle.mz_walk.specs.Walked.{Walked}
use Rattle.mz_walk.specs.Walk.{Justifies}
use Rattle.mz_taken.specs.Taken.{Taken, Made, Refused}
use Rattle.mz_taken.specs.OneByOne.{OneByOne}
use Rattle.mz_taken.specs.declared.item_fault.ItemRefusal.TheVariants.{Proof, ConditionStray}
use Rattle.mz_tree_item.specs.declared.definition.ConditionTree.{ConditionTree}
use Rattle.mz_loci.specs.Loci.{statement_at_loci}
use Rattle.mz_owed.specs.Owed.{named, number_of, covered, written, joint_thesis}
use Rattle.mz_owed.specs.declared.owed.Owed.{Owed}

-- what is still to be written, and what the article has left
pub record Asked : Type 0 where
  pub owed : Owed
  pub left : Left

abbrev pub asked : Owed → Left → Asked
asked o l = record { owed = o; left = l }

-- a statement without free variables, as a sentence
abbrev pub plain_sentence : Statement → Sentence
plain_sentence s = record { variables = []; inner = s; closed = s }

-- behind a justification
abbrev pub behind_judged : Owed → Walked Left → Taken Asked
behind_judged o (walked.Made os l) = Made os (asked o l)
behind_judged o (walked.Refused r) = Refused (Proof r)

-- A condition behind the heading of an item that has so many loci, which are the constants from `least` on in the context: a word that
-- covers nothing is stray; else what it covers is justified, by what stood above the heading.
pub data TakesCondition (e : Environment) (at : Extent) (c : Context) (least count : ℕ) (x : Item) (a : Asked) (t : ConditionTree) : Taken Asked → Type 0 where
  stray : covered a.owed t.word ≡ [] → TakesCondition e at c least count x a t (Refused (ConditionStray t.place (number_of (named t.word))))
  judged : (d : Condition) (ds : List Condition) (o : Walked Left) → covered a.owed t.word ≡ d ∷ ds →
      Justifies e at c t.place false t.semicolon t.just (plain_sentence (statement_at_loci least count (joint_thesis x (d ∷ ds)))) a.left o →
      TakesCondition e at c least count x a t (behind_judged (written a.owed t.word) o)

abbrev pub TakesConditions : Environment → Extent → Context → ℕ → ℕ → Item → Asked → List ConditionTree → Taken Asked → Type 0
TakesConditions e at c least count x = OneByOne (TakesCondition e at c least count x)
