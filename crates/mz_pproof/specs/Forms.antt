-- The forms of justifications, statements, steps and reasonings.
use Rattle.std.specs.Prelude.{◌≡◌, ℕ, Bool, true, false, ◌||◌, ◌&&◌, List, [], ◌∷◌, length, Option, Some, None, Result}
use Rattle.std.specs.declared.alloc.Global.{Global}
use Rattle.std.proofs.Common.{Box}
use Rattle.mz_base.specs.declared.place.Place.{Place}
use Rattle.mz_base.specs.declared.token.MarkedToken.{MarkedToken}
use Rattle.mz_forms.specs.declared.refusal.Refusal.{Refusal}
use Rattle.mz_forms.specs.Form.{Form, then, nested}
use Rattle.mz_forms.specs.Reading.{Gives, Builds}
use Rattle.mz_forms.specs.Repeat.{many, spell_all, levels_all, each_all, AreAll}
use Rattle.mz_tree.specs.Trees.{FormulaData}
use Rattle.mz_tree_proof.specs.declared.references.LabelTree.{LabelTree}
use Rattle.mz_tree_proof.specs.declared.propositions.PropositionTree.{PropositionTree}
use Rattle.mz_tree_proof.specs.declared.equality_step.EqualityStepTree.{EqualityStepTree}
use Rattle.mz_tree_proof.specs.declared.introduction.IntroductionTree.TheVariants as introductions
use Rattle.mz_tree_proof.specs.Reasoning.{JustData, CompactData, StatementData, StepData, SupposeData, StepList, StatedCompact, CompactStatement, NowStatement, IntroductionStatement, HerebyStep, CasesStep, steps_of, supposes_of}
use Rattle.mz_tree_proof.specs.SpellReasoning as spell
use Rattle.mz_tree_proof.specs.LevelsReasoning as levels
use Rattle.mz_tree_proof.specs.EachLevelReasoning as each
use Rattle.mz_tree_proof.specs.RulesReasoning as rules
use Rattle.mz_pterm.specs.declared.sign.Sign.{Sign}
use Rattle.mz_pformula.specs.Forms.{formula_form}
use Rattle.mz_pjustification.specs.declared.keyword.Keyword.{Keyword}
use Rattle.mz_pjustification.specs.declared.keyword.Keyword.TheVariants as keywords
use Rattle.mz_pjustification.specs.Keyword.{keyword_of}
use Rattle.mz_pjustification.specs.Words.{keyword, tokens_of}
use Rattle.mz_pjustification.specs.Forms.{goes_on_simple}
use Rattle.mz_pstep.specs.Forms.{goes_on_equality, equality_step_form, consider_form, consider_from, reconsider_form, reconsider_from, split_form, split_from}
use Rattle.mz_pproof.specs.Classes.{is_proof_key, is_link_key, is_suppose_key, begins_step}

-- A reasoning: a step goes on it, and on a split into cases a further case.
abbrev pub reasoning_form : Form MarkedToken
reasoning_form = record { Tree = StepList; spell = spell.spell_step_list; levels = levels.levels_step_list; each = each.each_step_list; IsTree = rules.AreSteps; goes = λ _ t. begins_step t || is_suppose_key (keyword_of t) }

-- a reasoning between this word and `end`
abbrev pub block_form : Keyword → Form MarkedToken
block_form k = then (nested (keyword k)) (λ _. then (nested reasoning_form) (λ _. keyword keywords.End))

abbrev pub Block : Type 0
Block = Place × (StepList × Place)

abbrev pub block_of : (Place × List StepData × Place) → Block
block_of p = (p.0, (steps_of p.1, p.2))

-- A justification: what goes on it begins one, or goes on a simple one.
abbrev pub goes_on_just : Sign → Keyword → Bool
goes_on_just s k = goes_on_simple s k || is_proof_key k

abbrev pub just_form : Form MarkedToken
just_form = record { Tree = JustData; spell = spell.spell_just; levels = levels.levels_just; each = each.each_just; IsTree = rules.IsJust; goes = λ _ t. tokens_of goes_on_just t }

-- Further sides of an iterative equality, which may stand only behind a plain equation with a simple justification.
abbrev pub goes_on_continued : Sign → Keyword → Bool
goes_on_continued s k = goes_on_equality s k || is_link_key k

abbrev pub equality_steps_form : Form MarkedToken
equality_steps_form = many equality_step_form (tokens_of goes_on_continued)

abbrev pub MayStand : {X : Type 0} → Bool → List X → Type 0
MayStand may [] = Unit {0}
MayStand may (x ∷ xs) = may ≡ true

abbrev pub continued_form : Bool → Form MarkedToken
continued_form may = record {
  Tree = List EqualityStepTree;
  spell = spell_all equality_step_form;
  levels = levels_all equality_step_form;
  each = each_all equality_step_form;
  IsTree = λ cs. AreAll equality_step_form cs × MayStand may cs;
  goes = λ _ t. tokens_of goes_on_continued t;
}

abbrev pub may_continue : FormulaData → JustData → Bool
may_continue f j = rules.is_plain_equation f && rules.is_simple j

-- What stands behind the formula of a compact statement.
abbrev pub stated_form : FormulaData → Form MarkedToken
stated_form f = then just_form (λ j. then (continued_form (may_continue f j)) (λ _. keyword keywords.Semicolon))

abbrev pub Stated : Type 0
Stated = JustData × (List EqualityStepTree × Place)

abbrev pub compact_with : PropositionTree → Stated → CompactData
compact_with a k = StatedCompact a k.0 k.1.0 k.1.1

abbrev pub compact_form : Form MarkedToken
compact_form = record { Tree = CompactData; spell = spell.spell_compact; levels = levels.levels_compact; each = each.each_compact; IsTree = rules.IsCompact; goes = λ _ _. false }

-- `now` with a reasoning
abbrev pub now_form : Form MarkedToken
now_form = then (block_form keywords.Now) (λ _. keyword keywords.Semicolon)

abbrev pub now_from : Option LabelTree → (Block × Place) → StatementData
now_from o k = NowStatement o k.0.0 k.0.1.0 k.0.1.1 k.1

-- What may stand behind a `then`, or without one.
pub data Linked : Type 0 where
  compact_linked : CompactData → Linked
  consider_linked : consider_form.Tree → Linked
  reconsider_linked : reconsider_form.Tree → Linked

abbrev pub spell_linked : Linked → List MarkedToken
spell_linked (compact_linked c) = spell.spell_compact c
spell_linked (consider_linked k) = consider_form.spell k
spell_linked (reconsider_linked k) = reconsider_form.spell k

abbrev pub levels_linked : Linked → List ℕ
levels_linked (compact_linked c) = levels.levels_compact c
levels_linked (consider_linked k) = consider_form.levels k
levels_linked (reconsider_linked k) = reconsider_form.levels k

pub each_linked : (x : Linked) → length (levels_linked x) ≡ length (spell_linked x)
each_linked (compact_linked c) = each.each_compact c
each_linked (consider_linked k) = consider_form.each k
each_linked (reconsider_linked k) = reconsider_form.each k

abbrev pub IsLinked : Linked → Type 0
IsLinked (compact_linked c) = rules.IsCompact c
IsLinked (consider_linked k) = consider_form.IsTree k
IsLinked (reconsider_linked k) = reconsider_form.IsTree k

abbrev pub linked_form : Form MarkedToken
linked_form = record { Tree = Linked; spell = spell_linked; levels = levels_linked; each = each_linked; IsTree = IsLinked; goes = λ _ _. false }

abbrev pub linked_from : Option Place → Linked → StatementData
linked_from o (compact_linked c) = CompactStatement o c
linked_from o (consider_linked k) = IntroductionStatement (introductions.Consider (consider_from o k))
linked_from o (reconsider_linked k) = IntroductionStatement (introductions.Reconsider (reconsider_from o k))

-- What may stand behind a label: `now`, or a formula and what goes with it.
abbrev pub behind_formula : Form MarkedToken
behind_formula = then (formula_form false) stated_form

pub data Labelled : Type 0 where
  now_labelled : now_form.Tree → Labelled
  formula_labelled : behind_formula.Tree → Labelled

abbrev pub spell_labelled : Labelled → List MarkedToken
spell_labelled (now_labelled k) = now_form.spell k
spell_labelled (formula_labelled k) = behind_formula.spell k

abbrev pub levels_labelled : Labelled → List ℕ
levels_labelled (now_labelled k) = now_form.levels k
levels_labelled (formula_labelled k) = behind_formula.levels k

pub each_labelled : (x : Labelled) → length (levels_labelled x) ≡ length (spell_labelled x)
each_labelled (now_labelled k) = now_form.each k
each_labelled (formula_labelled k) = behind_formula.each k

abbrev pub IsLabelled : Labelled → Type 0
IsLabelled (now_labelled k) = now_form.IsTree k
IsLabelled (formula_labelled k) = behind_formula.IsTree k

abbrev pub labelled_form : Form MarkedToken
labelled_form = record { Tree = Labelled; spell = spell_labelled; levels = levels_labelled; each = each_labelled; IsTree = IsLabelled; goes = λ _ _. false }

abbrev pub labelled_from : LabelTree → Labelled → StatementData
labelled_from l (now_labelled k) = now_from (Some l) k
labelled_from l (formula_labelled k) = CompactStatement None (compact_with (record { label = Some l; formula = k.0 }) k.1)

abbrev pub statement_form : Form MarkedToken
statement_form = record { Tree = StatementData; spell = spell.spell_statement; levels = levels.levels_statement; each = each.each_statement; IsTree = rules.IsStatement; goes = λ _ _. false }

-- A step that is no split into cases.
abbrev pub IsPlainStep : StepData → Type 0
IsPlainStep (CasesStep a b c) = ⊥
IsPlainStep s = rules.IsStep s

abbrev pub step_form : Form MarkedToken
step_form = record { Tree = StepData; spell = spell.spell_step; levels = levels.levels_step; each = each.each_step; IsTree = IsPlainStep; goes = λ _ _. false }

-- `hereby` with a reasoning
abbrev pub hereby_form : Form MarkedToken
hereby_form = then (block_form keywords.Hereby) (λ _. keyword keywords.Semicolon)

abbrev pub hereby_from : (Block × Place) → StepData
hereby_from k = HerebyStep k.0.0 k.0.1.0 k.0.1.1 k.1

abbrev pub suppose_form : Form MarkedToken
suppose_form = record { Tree = SupposeData; spell = spell.spell_suppose; levels = levels.levels_suppose; each = each.each_suppose; IsTree = rules.IsSuppose; goes = λ _ _. false }

abbrev pub supposes_form : Form MarkedToken
supposes_form = many suppose_form (tokens_of (λ s k. is_suppose_key k))

-- A split into cases, behind a `then`, if there is one.
abbrev pub cases_form : Form MarkedToken
cases_form = then split_form (λ _. then suppose_form (λ _. supposes_form))

abbrev pub cases_from : Option Place → cases_form.Tree → StepData
cases_from o k = CasesStep (split_from o k.0) k.1.0 (supposes_of k.1.1)

-- What is read.
abbrev pub same_just : JustData → JustData
same_just x = x

abbrev pub same_continued : List EqualityStepTree → List EqualityStepTree
same_continued x = x

abbrev pub same_statement : StatementData → StatementData
same_statement x = x

abbrev pub same_step : StepData → StepData
same_step x = x

abbrev pub same_suppose : SupposeData → SupposeData
same_suppose x = x

abbrev pub same_supposes : List SupposeData → List SupposeData
same_supposes x = x

abbrev pub compact_in : Box CompactData Global → CompactData
compact_in b = b.value

abbrev pub ReadsStated : PropositionTree → ℕ → List MarkedToken → Result (Box CompactData Global) Refusal → List MarkedToken → Type 0
ReadsStated a room before result after = Gives (stated_form a.formula) room (λ x. Builds (stated_form a.formula) room (compact_with a) (compact_in x) before after) before result after

abbrev pub ReadsNow : Option LabelTree → ℕ → List MarkedToken → Result StatementData Refusal → List MarkedToken → Type 0
ReadsNow o room before result after = Gives now_form room (λ x. Builds now_form room (now_from o) x before after) before result after

abbrev pub ReadsLinked : Option Place → ℕ → List MarkedToken → Result StatementData Refusal → List MarkedToken → Type 0
ReadsLinked o room before result after = Gives linked_form room (λ x. Builds linked_form room (linked_from o) x before after) before result after

abbrev pub ReadsLabelled : LabelTree → ℕ → List MarkedToken → Result StatementData Refusal → List MarkedToken → Type 0
ReadsLabelled l room before result after = Gives labelled_form room (λ x. Builds labelled_form room (labelled_from l) x before after) before result after

abbrev pub ReadsHereby : ℕ → List MarkedToken → Result StepData Refusal → List MarkedToken → Type 0
ReadsHereby room before result after = Gives hereby_form room (λ x. Builds hereby_form room hereby_from x before after) before result after

abbrev pub ReadsCases : Option Place → ℕ → List MarkedToken → Result StepData Refusal → List MarkedToken → Type 0
ReadsCases o room before result after = Gives cases_form room (λ x. Builds cases_form room (cases_from o) x before after) before result after
