-- The forms of propositions, hypotheses and conditions.
use Rattle.std.specs.Prelude.{Bool, true, false, ◌||◌, ◌&&◌, List, [], ◌∷◌}
use Rattle.mz_base.specs.declared.token.MarkedToken.{MarkedToken}
use Rattle.mz_forms.specs.Form.{Form}
use Rattle.mz_forms.specs.Repeat.{many}
use Rattle.mz_tree_proof.specs.declared.references.LabelTree.{LabelTree}
use Rattle.mz_tree_proof.specs.declared.propositions.PropositionTree.{PropositionTree}
use Rattle.mz_tree_proof.specs.declared.propositions.AndPropositionTree.{AndPropositionTree}
use Rattle.mz_tree_proof.specs.declared.propositions.PropositionsTree.{PropositionsTree}
use Rattle.mz_tree_proof.specs.declared.propositions.HypothesesTree.{HypothesesTree}
use Rattle.mz_tree_proof.specs.declared.propositions.SuchTree.{SuchTree}
use Rattle.mz_tree_proof.specs.Spell.{spell_label, spell_proposition, spell_and_proposition, spell_propositions, spell_hypotheses, spell_such}
use Rattle.mz_tree_proof.specs.Levels.{levels_label, levels_proposition, levels_and_proposition, levels_propositions, levels_hypotheses, levels_such}
use Rattle.mz_tree_proof.specs.EachLevel.{each_label, each_proposition, each_and_proposition, each_propositions, each_hypotheses, each_such}
use Rattle.mz_tree_proof.specs.Rules.{IsProposition, IsAndProposition, ArePropositions, AreHypotheses, IsSuch}
use Rattle.mz_pterm.specs.declared.sign.Sign.{Sign}
use Rattle.mz_pterm.specs.Sign.{sign_of}
use Rattle.mz_patom.specs.Classes.{goes_open, is_identifier}
use Rattle.mz_pformula.specs.Forms.{any_operator}
use Rattle.mz_pjustification.specs.declared.keyword.Keyword.{Keyword}
use Rattle.mz_pjustification.specs.declared.keyword.Keyword.TheVariants as keywords
use Rattle.mz_pjustification.specs.Keyword.{keyword_of}
use Rattle.mz_pjustification.specs.Words.{tokens_of}
use Rattle.mz_pjustification.specs.Forms.{is_colon}

-- a label comes next: an identifier, and a colon behind it
abbrev pub label_next : List MarkedToken → Bool
label_next [] = false
label_next (t ∷ []) = false
label_next (t ∷ (n ∷ rest)) = is_identifier (sign_of t) && is_colon (keyword_of n)

abbrev pub label_form : Form MarkedToken
label_form = record { Tree = LabelTree; spell = spell_label; levels = levels_label; each = each_label; IsTree = λ _. Unit {0}; goes = λ _ _. false }

-- what goes on a formula, and a colon, which goes on an identifier
abbrev pub goes_on_proposition : Sign → Keyword → Bool
goes_on_proposition s k = goes_open any_operator s || is_colon k

abbrev pub proposition_form : Form MarkedToken
proposition_form = record { Tree = PropositionTree; spell = spell_proposition; levels = levels_proposition; each = each_proposition; IsTree = IsProposition; goes = λ _ t. tokens_of goes_on_proposition t }

abbrev pub is_and_key : Keyword → Bool
is_and_key keywords.And = true
is_and_key _ = false

abbrev pub begins_further : Sign → Keyword → Bool
begins_further s k = is_and_key k

abbrev pub goes_on_propositions : Sign → Keyword → Bool
goes_on_propositions s k = goes_on_proposition s k || is_and_key k

-- a further proposition, behind `and`
abbrev pub further_form : Form MarkedToken
further_form = record { Tree = AndPropositionTree; spell = spell_and_proposition; levels = levels_and_proposition; each = each_and_proposition; IsTree = IsAndProposition; goes = λ _ t. tokens_of goes_on_proposition t }

abbrev pub more_propositions : Form MarkedToken
more_propositions = many further_form (tokens_of goes_on_propositions)

abbrev pub propositions_form : Form MarkedToken
propositions_form = record { Tree = PropositionsTree; spell = spell_propositions; levels = levels_propositions; each = each_propositions; IsTree = ArePropositions; goes = λ _ t. tokens_of goes_on_propositions t }

abbrev pub hypotheses_form : Form MarkedToken
hypotheses_form = record { Tree = HypothesesTree; spell = spell_hypotheses; levels = levels_hypotheses; each = each_hypotheses; IsTree = AreHypotheses; goes = λ _ t. tokens_of goes_on_propositions t }

abbrev pub such_form : Form MarkedToken
such_form = record { Tree = SuchTree; spell = spell_such; levels = levels_such; each = each_such; IsTree = IsSuch; goes = λ _ t. tokens_of goes_on_propositions t }

-- What is read.
abbrev pub same_label : LabelTree → LabelTree
same_label x = x

abbrev pub same_proposition : PropositionTree → PropositionTree
same_proposition x = x

abbrev pub same_more : List AndPropositionTree → List AndPropositionTree
same_more x = x

abbrev pub same_propositions : PropositionsTree → PropositionsTree
same_propositions x = x

abbrev pub same_hypotheses : HypothesesTree → HypothesesTree
same_hypotheses x = x

abbrev pub same_such : SuchTree → SuchTree
same_such x = x
