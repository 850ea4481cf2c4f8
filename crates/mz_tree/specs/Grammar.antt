-- The forms of expressions: which marked tokens spell which tree, given whether it stands in a field's type. Any token may go
-- on after a whole tree here; a parser states fewer.
use Rattle.std.specs.Prelude.{Bool, true}
use Rattle.mz_forms.specs.Form.{Form}
use Rattle.mz_base.specs.declared.token.MarkedToken.{MarkedToken}
use Rattle.mz_tree.specs.Trees.{TermData, TermsData, TypeData, AdjectivesData, DeclarationsData, FormulaData}
use Rattle.mz_tree.specs.Spell.{spell_term, spell_terms, spell_type, spell_adjectives, spell_declarations, spell_formula}
use Rattle.mz_tree.specs.Levels.{levels_term, levels_terms, levels_type, levels_adjectives, levels_declarations, levels_formula, each_term, each_terms, each_type, each_adjectives, each_declarations, each_formula}
use Rattle.mz_tree.specs.Rules.{IsTerm, AreTerms, IsType, AreSomeAdjectives, AreDeclarations, IsFormula}

abbrev pub term : Bool → Form MarkedToken
term field = record { Tree = TermData; spell = spell_term; levels = levels_term; each = each_term; IsTree = IsTerm field; goes = λ _ _. true }

abbrev pub terms : Bool → Form MarkedToken
terms field = record { Tree = TermsData; spell = spell_terms; levels = levels_terms; each = each_terms; IsTree = AreTerms field; goes = λ _ _. true }

abbrev pub type_form : Bool → Form MarkedToken
type_form field = record { Tree = TypeData; spell = spell_type; levels = levels_type; each = each_type; IsTree = IsType field; goes = λ _ _. true }

abbrev pub adjectives : Bool → Form MarkedToken
adjectives field = record { Tree = AdjectivesData; spell = spell_adjectives; levels = levels_adjectives; each = each_adjectives; IsTree = AreSomeAdjectives field; goes = λ _ _. true }

abbrev pub declarations : Bool → Form MarkedToken
declarations field = record { Tree = DeclarationsData; spell = spell_declarations; levels = levels_declarations; each = each_declarations; IsTree = AreDeclarations field; goes = λ _ _. true }

abbrev pub formula : Bool → Form MarkedToken
formula field = record { Tree = FormulaData; spell = spell_formula; levels = levels_formula; each = each_formula; IsTree = IsFormula field; goes = λ _ _. true }
