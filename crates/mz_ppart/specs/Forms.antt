-- The forms of parts of items that hold neither a proof nor a definiens.
use Rattle.std.specs.Prelude.{◌≡◌, ℕ, Bool, true, false, List, Result}
use Rattle.mz_base.specs.declared.place.Place.{Place}
use Rattle.mz_base.specs.declared.token.MarkedToken.{MarkedToken}
use Rattle.mz_forms.specs.declared.refusal.Refusal.{Refusal}
use Rattle.mz_forms.specs.Form.{Form, Found, then}
use Rattle.mz_forms.specs.Reading.{Gives}
use Rattle.mz_tree_heading.specs.declared.patterns.IdentifierTree.{IdentifierTree}
use Rattle.mz_tree_heading.specs.declared.patterns.PatternTree.{PatternTree}
use Rattle.mz_tree_heading.specs.Spell.{spell_identifier}
use Rattle.mz_tree_heading.specs.Levels.{levels_identifier}
use Rattle.mz_tree_heading.specs.EachLevel.{each_identifier}
use Rattle.mz_tree_part.specs.declared.directive.DirectiveTree.{DirectiveTree}
use Rattle.mz_tree_part.specs.declared.reserve.SegmentTree.{SegmentTree}
use Rattle.mz_tree_part.specs.declared.reserve.ReserveTree.{ReserveTree}
use Rattle.mz_tree_part.specs.declared.parameter.ParameterTree.{ParameterTree}
use Rattle.mz_tree_part.specs.declared.parameter.ParameterTree.TheVariants as parameter_tree
use Rattle.mz_tree_part.specs.declared.notation.BlockLetTree.{BlockLetTree}
use Rattle.mz_tree_part.specs.declared.notation.NotationPartTree.{NotationPartTree}
use Rattle.mz_tree_part.specs.declared.notation.NotationPartTree.TheVariants as notation_part_tree
use Rattle.mz_tree_part.specs.declared.notation.NotationTree.{NotationTree}
use Rattle.mz_tree_part.specs.Keywords.{directive_word, notation_word}
use Rattle.mz_tree_part.specs.Spell as spell
use Rattle.mz_tree_part.specs.Levels as levels
use Rattle.mz_tree_part.specs.EachLevel as each
use Rattle.mz_tree_part.specs.Rules as rules
use Rattle.mz_pterm.specs.declared.sign.Sign.{Sign}
use Rattle.mz_pterm.specs.declared.sign.Sign.TheVariants as signs
use Rattle.mz_pterm.specs.Sign.{sign_of}
use Rattle.mz_pterm.specs.Words.{word}
use Rattle.mz_ptype.specs.Forms.{goes_type, goes_on_declared}
use Rattle.mz_pstep.specs.Forms.{divided}
use Rattle.mz_pstep.specs.Forms as steps
use Rattle.mz_ppattern.specs.Optional.{listed}
use Rattle.mz_ppattern.specs.Classes.{goes_on_names}
use Rattle.mz_pjustification.specs.Words.{keyword}
use Rattle.mz_pjustification.specs.declared.keyword.Keyword.TheVariants as keywords
use Rattle.mz_ppattern.specs.Forms.{never_ends, pattern_form}
use Rattle.mz_ppart.specs.WordLists.{chosen_form}
use Rattle.mz_ppart.specs.Classes.{begins_notation_part}

-- Directives: a word of the language so far, and names of articles with commas of either mark between them.
abbrev pub directive_word_form : Form MarkedToken
directive_word_form = chosen_form directive_word rules.is_directive_yet

abbrev pub article_name_form : Form MarkedToken
article_name_form = record { Tree = IdentifierTree; spell = spell_identifier; levels = levels_identifier; each = each_identifier; IsTree = rules.IsNamed; goes = λ _ _. false }

abbrev pub article_names_form : Form MarkedToken
article_names_form = divided article_name_form never_ends goes_on_names

abbrev pub directive_form : Form MarkedToken
directive_form = record { Tree = DirectiveTree; spell = spell.spell_directive; levels = levels.levels_directive; each = each.each_directive; IsTree = rules.IsDirective; goes = λ _ _. false }

-- Reservations.
abbrev pub segment_form : Form MarkedToken
segment_form = record { Tree = SegmentTree; spell = spell.spell_segment; levels = levels.levels_segment; each = each.each_segment; IsTree = rules.IsSegment; goes = λ x t. goes_type x.ty (sign_of t) }

abbrev pub segments_form : Form MarkedToken
segments_form = divided segment_form rules.segment_ends_in_terms goes_on_declared

abbrev pub reserve_form : Form MarkedToken
reserve_form = record { Tree = ReserveTree; spell = spell.spell_reserve; levels = levels.levels_reserve; each = each.each_reserve; IsTree = rules.IsReserve; goes = λ _ _. false }

-- Parameters of schemes.
abbrev pub closing_form : Sign → Form MarkedToken
closing_form = steps.closing_form

abbrev pub goes_parameter : ParameterTree → Sign → Bool
goes_parameter (parameter_tree.Functor a p ts q r t) s = goes_type t s
goes_parameter (parameter_tree.Predicate a p ts q) s = false

abbrev pub parameter_form : Form MarkedToken
parameter_form = record { Tree = ParameterTree; spell = spell.spell_parameter; levels = levels.levels_parameter; each = each.each_parameter; IsTree = rules.IsParameter; goes = λ x t. goes_parameter x (sign_of t) }

abbrev pub parameters_form : Form MarkedToken
parameters_form = divided parameter_form rules.parameter_ends_in_terms goes_on_declared

-- Loci of blocks, and notations.
abbrev pub block_let_form : Form MarkedToken
block_let_form = record { Tree = BlockLetTree; spell = spell.spell_block_let; levels = levels.levels_block_let; each = each.each_block_let; IsTree = rules.IsLoci; goes = λ _ _. false }

abbrev pub notation_word_form : Form MarkedToken
notation_word_form = chosen_form notation_word (λ _. true)

-- `for`, the other pattern of a notation and the semicolon
abbrev pub other_pattern_form : Form MarkedToken
other_pattern_form = then (word signs.For) (λ _. then pattern_form (λ _. keyword keywords.Semicolon))

abbrev pub other_from : (Place × PatternTree × Place) → Place × (PatternTree × Place)
other_from p = (p.0, (p.1, p.2))

abbrev pub IsSynonym : NotationPartTree → Type 0
IsSynonym (notation_part_tree.Let a) = ⊥
IsSynonym (notation_part_tree.Notation p w a q b r) = Unit {0}

abbrev pub synonym_form : Form MarkedToken
synonym_form = record { Tree = NotationPartTree; spell = spell.spell_notation_part; levels = levels.levels_notation_part; each = each.each_notation_part; IsTree = IsSynonym; goes = λ _ _. false }

abbrev pub notation_part_form : Form MarkedToken
notation_part_form = record { Tree = NotationPartTree; spell = spell.spell_notation_part; levels = levels.levels_notation_part; each = each.each_notation_part; IsTree = rules.IsNotationPart; goes = λ _ _. false }

abbrev pub notation_parts_form : Form MarkedToken
notation_parts_form = listed notation_part_form begins_notation_part

abbrev pub notation_form : Form MarkedToken
notation_form = record { Tree = NotationTree; spell = spell.spell_notation; levels = levels.levels_notation; each = each.each_notation; IsTree = rules.IsNotation; goes = λ _ _. false }

-- A segment, or a parameter, was read, and whether a list of terms stands last in it.
abbrev pub ReadsSegment : ℕ → List MarkedToken → Result (SegmentTree × Bool) Refusal → List MarkedToken → Type 0
ReadsSegment room before result after = Gives segment_form room (λ p. Found segment_form room before p.0 after × (p.1 ≡ rules.segment_ends_in_terms p.0)) before result after

abbrev pub ReadsParameter : ℕ → List MarkedToken → Result (ParameterTree × Bool) Refusal → List MarkedToken → Type 0
ReadsParameter room before result after = Gives parameter_form room (λ p. Found parameter_form room before p.0 after × (p.1 ≡ rules.parameter_ends_in_terms p.0)) before result after
