-- Expressions that are part of no other: what they are read to, and what the article has left then.
use Rattle.std.specs.Prelude.{◌≡◌, ◌<◌, ◌≤◌, ℕ, Option, Some, Result, Ok, Err}
use Rattle.mz_base.specs.declared.place.Place.{Place}
use Rattle.mz_logic.specs.Term.{Term}
use Rattle.mz_ground.specs.Instance.{term_nodes}
use Rattle.mz_core.specs.Statement.{Statement}
use Rattle.mz_core.specs.declared.outcome.Left.{Left}
use Rattle.mz_core.specs.declared.soft_type.SoftType.{SoftType}
use Rattle.mz_context.specs.declared.context.Context.{Context}
use Rattle.mz_environment.specs.declared.environment.Environment.{Environment}
use Rattle.mz_names.specs.declared.refusal.Refusal.{Refusal}
use Rattle.mz_names.specs.declared.refusal.Refusal.TheVariants.{TooLarge}
use Rattle.mz_sizes.specs.Sizes.{type_nodes, statement_nodes}
use Rattle.mz_tree.specs.Trees.{TermData, TypeData, FormulaData}
use Rattle.mz_tree.specs.Places.{first_place}
use Rattle.mz_tree.specs.Spell.{spell_term, spell_type, spell_formula}
use Rattle.mz_formulas.specs.Atoms.{ReadsTerm}
use Rattle.mz_formulas.specs.Atoms.{ReadsType}
use Rattle.mz_formulas.specs.Formulas.{ReadsFormula}
use Rattle.mz_formulas.specs.Sentences.{ReadsSentence}
use Rattle.mz_formulas.specs.declared.sentence.Sentence.{Sentence}
use Rattle.mz_resolve.specs.Spending.{spent}

-- what is read, whose first token stands at the place: it is refused; or it has more nodes than the article has left; or
-- its nodes are spent. After a refusal anything may be left.
pub data Counted {X : Type 0} (reads : Result X Refusal → Type 0) (nodes : X → ℕ) (place : Option Place) (left : Left) : Result X Refusal → Left → Type 0 where
  not_read : (r : Refusal) (after : Left) → reads (Err r) → Counted reads nodes place left (Err r) after
  beyond : (x : X) (first : Place) (after : Left) → reads (Ok x) → place ≡ Some first → left.nodes < nodes x → Counted reads nodes place left (Err (TooLarge first)) after
  counted : (x : X) → reads (Ok x) → nodes x ≤ left.nodes → Counted reads nodes place left (Ok x) (spent left (nodes x))

-- a term, a type and a formula. Constants below `least` may not be used
abbrev pub TermRead : Environment → Context → ℕ → Left → TermData → Result Term Refusal → Left → Type 0
TermRead e c least left t = Counted (ReadsTerm e c least t) term_nodes (first_place (spell_term t)) left

abbrev pub TypeRead : Environment → Context → ℕ → Left → TypeData → Result SoftType Refusal → Left → Type 0
TypeRead e c least left t = Counted (ReadsType e c least t) type_nodes (first_place (spell_type t)) left

abbrev pub FormulaRead : Environment → Context → ℕ → Left → FormulaData → Result Statement Refusal → Left → Type 0
FormulaRead e c least left f = Counted (ReadsFormula e least c f) statement_nodes (first_place (spell_formula f)) left

-- a sentence, which counts as closed
abbrev pub sentence_nodes : Sentence → ℕ
sentence_nodes s = statement_nodes s.closed

abbrev pub SentenceRead : Environment → Context → ℕ → Left → FormulaData → Result Sentence Refusal → Left → Type 0
SentenceRead e c least left f = Counted (ReadsSentence e least c f) sentence_nodes (first_place (spell_formula f)) left
