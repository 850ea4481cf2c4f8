-- The forms of headings of definitions.
use Rattle.std.specs.Prelude.{◌≡◌, Bool, true, false, ◌||◌, is_some}
use Rattle.mz_base.specs.declared.token.MarkedToken.{MarkedToken}
use Rattle.mz_forms.specs.Form.{Form}
use Rattle.mz_tree_heading.specs.declared.heading.FunctorHeadingTree.{FunctorHeadingTree}
use Rattle.mz_tree_heading.specs.declared.heading.PredicateHeadingTree.{PredicateHeadingTree}
use Rattle.mz_tree_heading.specs.declared.heading.AttributeHeadingTree.{AttributeHeadingTree}
use Rattle.mz_tree_heading.specs.declared.heading.HeadingTree.{HeadingTree}
use Rattle.mz_tree_heading.specs.declared.heading.HeadingTree.TheVariants as heading_tree
use Rattle.mz_tree_heading.specs.Spell as spell
use Rattle.mz_tree_heading.specs.Levels as levels
use Rattle.mz_tree_heading.specs.EachLevel as each
use Rattle.mz_tree_heading.specs.Rules as rules

-- Headings that say of what they define what a form has.
abbrev pub functor_heading_form : Form MarkedToken → Form MarkedToken
functor_heading_form M = record { Tree = FunctorHeadingTree M.Tree; spell = spell.spell_functor_heading M.spell; levels = levels.levels_functor_heading M.levels; each = each.each_functor_heading M.levels M.spell M.each; IsTree = rules.IsFunctorHeading M.IsTree; goes = λ _ _. false }

abbrev pub predicate_heading_form : Form MarkedToken → Form MarkedToken
predicate_heading_form M = record { Tree = PredicateHeadingTree M.Tree; spell = spell.spell_predicate_heading M.spell; levels = levels.levels_predicate_heading M.levels; each = each.each_predicate_heading M.levels M.spell M.each; IsTree = rules.IsPredicateHeading M.IsTree; goes = λ _ _. false }

abbrev pub attribute_heading_form : Form MarkedToken → Form MarkedToken
attribute_heading_form M = record { Tree = AttributeHeadingTree M.Tree; spell = spell.spell_attribute_heading M.spell; levels = levels.levels_attribute_heading M.levels; each = each.each_attribute_heading M.levels M.spell M.each; IsTree = rules.IsAttributeHeading M.IsTree; goes = λ _ _. false }

-- A redefinition of an attribute has a meaning, one of a mode a type or a meaning. One of a functor or a predicate may have
-- neither, where a property follows.
abbrev pub states : HeadingTree → Bool
states (heading_tree.RedefinedAttribute p a) = is_some a.meaning
states (heading_tree.RedefinedMode p a) = is_some a.result || is_some a.meaning
states _ = true

abbrev pub IsRedefined : HeadingTree → Type 0
IsRedefined (heading_tree.RedefinedFunctor p a) = rules.IsHeading (heading_tree.RedefinedFunctor p a)
IsRedefined (heading_tree.RedefinedPredicate p a) = rules.IsHeading (heading_tree.RedefinedPredicate p a)
IsRedefined (heading_tree.RedefinedAttribute p a) = rules.IsHeading (heading_tree.RedefinedAttribute p a) × (states (heading_tree.RedefinedAttribute p a) ≡ true)
IsRedefined (heading_tree.RedefinedMode p a) = rules.IsHeading (heading_tree.RedefinedMode p a) × (states (heading_tree.RedefinedMode p a) ≡ true)
IsRedefined _ = ⊥

abbrev pub redefined_form : Form MarkedToken
redefined_form = record { Tree = HeadingTree; spell = spell.spell_heading; levels = levels.levels_heading; each = each.each_heading; IsTree = IsRedefined; goes = λ _ _. false }

abbrev pub heading_form : Form MarkedToken
heading_form = record { Tree = HeadingTree; spell = spell.spell_heading; levels = levels.levels_heading; each = each.each_heading; IsTree = λ h. rules.IsHeading h × (states h ≡ true); goes = λ _ _. false }
