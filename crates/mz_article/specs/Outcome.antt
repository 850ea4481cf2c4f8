-- The outcome of an article.
use Rattle.std.specs.Prelude.{ℕ, List, [], ◌∷◌, flat_map, length, Result, Ok, Err}
use Rattle.mz_base.specs.NamedText.{NamedText}
use Rattle.mz_base.specs.declared.name.Name.{Name}
use Rattle.mz_base.specs.declared.head.Directive.{Directive}
use Rattle.mz_core.specs.declared.outcome.Export.{Export}
use Rattle.mz_core.specs.declared.fault.Fault.{Fault}
use Rattle.mz_core.specs.declared.item.Item.{Item}
use Rattle.mz_core.specs.declared.outcome.Outcome.{Outcome}
use Rattle.mz_core.specs.declared.outcome.Outcome.TheVariants.{Accepted, Rejected}
use Rattle.mz_items.specs.Exports.{notations_of}
use Rattle.mz_corpus.specs.Directives.{dependencies_of}
use Rattle.mz_obligations.specs.declared.obligation.Obligation.{Obligation}
use Rattle.mz_taken.specs.declared.item_fault.ItemRefusal.{ItemRefusal}
use Rattle.mz_taken.specs.Taken.{Made, Refused}
use Rattle.mz_tree_item.specs.declared.article.ArticlePartTree.{ArticlePartTree}
use Rattle.mz_front.specs.Front.{IsFront}
use Rattle.mz_front.specs.declared.front.Front.{Front}
use Rattle.mz_judged.specs.Judged.{AreJudged}
use Rattle.mz_article.specs.Told.{item_told}
use Rattle.mz_standing.specs.Standing.{standing_at_start}
use Rattle.mz_article_items.specs.Items.{AreItems}
use Rattle.mz_standing.specs.declared.standing.Standing.{Standing}

-- what an article with these directives and items gives to others
abbrev pub export_of : Name → List Directive → List Item → Export
export_of name ds items = record { name = name; dependencies = dependencies_of ds; items = items; notations = flat_map notations_of items }

-- accepted where there is no fault
abbrev pub outcome_by : Export → List Fault → Outcome
outcome_by e [] = Accepted e
outcome_by e (f ∷ fs) = Rejected (f ∷ fs)

-- rejected with this one fault
abbrev pub rejected : Fault → Outcome
rejected f = Rejected (f ∷ [])

-- The outcome where all items were read, to here and with these obligations: all faults of justifications in the order of the text;
-- or, where there is none, accepted with the export of exactly the items that were read.
pub data IsDecided (name : Name) (ds : List Directive) (s : Standing) (os : List Obligation) : Outcome → Type 0 where
  decided : (fs : List Fault) → AreJudged s.clauses os fs → IsDecided name ds s os (outcome_by (export_of name ds s.items) fs)

-- The outcome from where the items start: they are read with all their reasonings, in the order of the text, and the first refusal is
-- the one fault; else all obligations are judged.
pub data IsOutcomeFrom (name : Name) (ds : List Directive) (parts : List ArticlePartTree) (s : Standing) : Outcome → Type 0 where
  stopped : (r : ItemRefusal) → AreItems s parts (Refused r) → IsOutcomeFrom name ds parts s (rejected (item_told r))
  judged : (t : Standing) (os : List Obligation) (o : Outcome) → AreItems s parts (Made os t) → IsDecided name ds t os o → IsOutcomeFrom name ds parts s o

-- The outcome: the fault in front of the items, or what comes of them.
pub data IsOutcome (name : Name) (vocabularies : List NamedText) (exports : List Export) (bytes : List ℕ) : Outcome → Type 0 where
  refused : (f : Fault) → IsFront vocabularies exports bytes (Err f) → IsOutcome name vocabularies exports bytes (rejected f)
  read : (x : Front) (o : Outcome) → IsFront vocabularies exports bytes (Ok x) →
      IsOutcomeFrom name x.head x.tree.parts (standing_at_start name (length bytes) x.environment) o → IsOutcome name vocabularies exports bytes o
