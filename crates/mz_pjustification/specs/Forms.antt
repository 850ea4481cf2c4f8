-- The forms of references and of justifications without a proof.
use Rattle.std.specs.Prelude.{◌≡◌, ℕ, suc, Bool, true, false, ◌||◌, List, [], ◌∷◌, ◌++◌, length, Option, Some, None, Result, refl}
use Rattle.std.specs.List.{flat_map}
use Rattle.std.proofs.Common.{ap}
use Rattle.mz_base.specs.declared.place.Place.{Place}
use Rattle.mz_base.specs.declared.token.MarkedToken.{MarkedToken}
use Rattle.mz_base.specs.Name.{is_name}
use Rattle.mz_forms.specs.declared.refusal.Refusal.{Refusal}
use Rattle.mz_forms.specs.Form.{Form, Found, Leads, each_append, then}
use Rattle.mz_forms.specs.Reading.{Gives}
use Rattle.mz_forms.specs.Repeat.{maybe}
use Rattle.mz_tree.specs.declared.word.Word.{Word}
use Rattle.mz_tree.specs.declared.word.Comma.{Comma}
use Rattle.mz_tree.specs.declared.chain.Next.{Next}
use Rattle.mz_tree.specs.declared.lists.Separated.{Separated}
use Rattle.mz_tree.specs.Levels.{each_flat}
use Rattle.mz_tree.specs.Lists.{spell_next, spell_separated, levels_next, levels_separated, each_next, each_separated, IsNext, AreSeparated}
use Rattle.mz_tree.specs.Rules.{Every}
use Rattle.mz_tree_proof.specs.declared.references.NumberTree.{NumberTree}
use Rattle.mz_tree_proof.specs.declared.references.ReferenceTree.{ReferenceTree}
use Rattle.mz_tree_proof.specs.declared.references.ReferenceTree.TheVariants as reference_tree
use Rattle.mz_tree_proof.specs.declared.references.SchemeReferenceTree.{SchemeReferenceTree}
use Rattle.mz_tree_proof.specs.declared.references.SchemeReferenceTree.TheVariants as scheme_reference_tree
use Rattle.mz_tree_proof.specs.declared.references.PremisesTree.{PremisesTree}
use Rattle.mz_tree_proof.specs.declared.references.SimpleTree.{SimpleTree}
use Rattle.mz_tree_proof.specs.Spell.{spell_number, spell_reference, spell_scheme_reference, spell_premises, spell_simple}
use Rattle.mz_tree_proof.specs.Levels.{levels_number, levels_reference, levels_scheme_reference, levels_premises, levels_simple}
use Rattle.mz_tree_proof.specs.EachLevel.{each_number, each_reference, each_scheme_reference, each_premises, each_simple}
use Rattle.mz_tree_proof.specs.Rules.{IsReference, IsSchemeReference, ArePremises, IsSimple}
use Rattle.mz_pterm.specs.declared.sign.Sign.{Sign}
use Rattle.mz_pterm.specs.declared.sign.Sign.TheVariants as signs
use Rattle.mz_pterm.specs.Classes.{is_open}
use Rattle.mz_pterm.specs.Words.{name}
use Rattle.mz_ptype.specs.Forms.{is_comma}
use Rattle.mz_pjustification.specs.declared.keyword.Keyword.{Keyword}
use Rattle.mz_pjustification.specs.declared.keyword.Keyword.TheVariants as keywords
use Rattle.mz_pjustification.specs.Words.{key, keyword, numeral_form, tokens_of}

abbrev pub is_colon : Keyword → Bool
is_colon keywords.Colon = true
is_colon _ = false

-- The number of a theorem or of a definition.
abbrev pub number_form : Form MarkedToken
number_form = record { Tree = NumberTree; spell = spell_number; levels = levels_number; each = each_number; IsTree = λ _. Unit {0}; goes = λ _ _. false }

abbrev pub begins_number : Sign → Keyword → Bool
begins_number s keywords.Def = true
begins_number s keywords.Numeral = true
begins_number s _ = false

-- What stands behind a word that may be a name: nothing, or behind a name a colon and a tree of the form.
abbrev pub spell_part : (K : Form MarkedToken) → Option (Place × K.Tree) → List MarkedToken
spell_part K None = []
spell_part K (Some x) = key keywords.Colon x.0 ∷ K.spell x.1

abbrev pub levels_part : (K : Form MarkedToken) → Option (Place × K.Tree) → List ℕ
levels_part K None = []
levels_part K (Some x) = 0 ∷ K.levels x.1

pub each_part : (K : Form MarkedToken) (x : Option (Place × K.Tree)) → length (levels_part K x) ≡ length (spell_part K x)
each_part K None = refl
each_part K (Some x) = ap suc (K.each x.1)

abbrev pub IsPart : (K : Form MarkedToken) → Word → Option (Place × K.Tree) → Type 0
IsPart K w None = Unit {0}
IsPart K w (Some x) = (is_name w.spelling ≡ true) × K.IsTree x.1

abbrev pub goes_part : (K : Form MarkedToken) → Option (Place × K.Tree) → MarkedToken → Bool
goes_part K None t = tokens_of (λ s k. is_colon k) t
goes_part K (Some x) t = K.goes x.1 t

abbrev pub part_form : Form MarkedToken → Word → Form MarkedToken
part_form K w = record { Tree = Option (Place × K.Tree); spell = spell_part K; levels = levels_part K; each = each_part K; IsTree = IsPart K w; goes = goes_part K }

-- What a reference begins with: a label, or a name with a colon and a number.
abbrev pub head_form : Form MarkedToken
head_form = then (name signs.Identifier) (part_form number_form)

-- What goes on references: further numbers of the last one, and further references.
abbrev pub Tail : Type 0
Tail = List (Next Comma NumberTree) × List (Next Comma ReferenceTree)

abbrev pub spell_tail : Tail → List MarkedToken
spell_tail k = flat_map (spell_next spell_number) k.0 ++ flat_map (spell_next spell_reference) k.1

abbrev pub levels_tail : Tail → List ℕ
levels_tail k = flat_map (levels_next levels_number) k.0 ++ flat_map (levels_next levels_reference) k.1

pub each_tail : (k : Tail) → length (levels_tail k) ≡ length (spell_tail k)
each_tail k = each_append (flat_map (levels_next levels_number) k.0) (flat_map (levels_next levels_reference) k.1) (flat_map (spell_next spell_number) k.0) (flat_map (spell_next spell_reference) k.1)
    (each_flat (levels_next levels_number) (spell_next spell_number) (each_next levels_number spell_number each_number) k.0)
    (each_flat (levels_next levels_reference) (spell_next spell_reference) (each_next levels_reference spell_reference each_reference) k.1)

-- only behind a number may further numbers stand
abbrev pub MayNumber : Bool → List (Next Comma NumberTree) → Type 0
MayNumber numbered [] = Unit {0}
MayNumber numbered (n ∷ ns) = numbered ≡ true

abbrev pub IsTail : Bool → Tail → Type 0
IsTail numbered k = MayNumber numbered k.0 × Every (IsNext IsReference) k.1

-- a comma, or behind a name a colon
abbrev pub goes_on_references : Sign → Keyword → Bool
goes_on_references s k = is_comma s || is_colon k

abbrev pub tail_form : Bool → Form MarkedToken
tail_form numbered = record { Tree = Tail; spell = spell_tail; levels = levels_tail; each = each_tail; IsTree = IsTail numbered; goes = λ _ t. tokens_of goes_on_references t }

abbrev pub references_form : Form MarkedToken
references_form = record { Tree = Separated ReferenceTree; spell = spell_separated spell_reference; levels = levels_separated levels_reference; each = each_separated levels_reference spell_reference each_reference; IsTree = AreSeparated IsReference; goes = λ _ t. tokens_of goes_on_references t }

-- the references of these parts
abbrev pub reference_from : Word → Option (Place × NumberTree) → List (Next Comma NumberTree) → ReferenceTree
reference_from w None ns = reference_tree.Label w
reference_from w (Some x) ns = reference_tree.Numbered w x.0 (record { first = x.1; more = ns })

abbrev pub references_from : Word → Option (Place × NumberTree) → Tail → Separated ReferenceTree
references_from w x k = record { first = reference_from w x k.0; more = k.1 }

abbrev pub is_numbered : {X : Type 0} → Option X → Bool
is_numbered None = false
is_numbered (Some x) = true

-- further references behind a comma
abbrev pub behind : {X : Type 0} → List (Next Comma X) → Comma → Separated X → List (Next Comma X)
behind xs c s = xs ++ record { sign = c; tree = s.first } ∷ s.more

-- A reference to a scheme.
abbrev pub scheme_number : Form MarkedToken
scheme_number = then (keyword keywords.Sch) (λ _. numeral_form)

abbrev pub scheme_form : Form MarkedToken
scheme_form = record { Tree = SchemeReferenceTree; spell = spell_scheme_reference; levels = levels_scheme_reference; each = each_scheme_reference; IsTree = IsSchemeReference; goes = λ _ t. tokens_of (λ s k. is_colon k) t }

abbrev pub scheme_from : Word → Option (Place × (Place × Word)) → SchemeReferenceTree
scheme_from w None = scheme_reference_tree.Label w
scheme_from w (Some x) = scheme_reference_tree.Numbered w x.0 x.1.0 x.1.1

-- References in parentheses.
abbrev pub premises_form : Form MarkedToken
premises_form = record { Tree = PremisesTree; spell = spell_premises; levels = levels_premises; each = each_premises; IsTree = ArePremises; goes = λ _ _. false }

abbrev pub opens_premises : Sign → Keyword → Bool
opens_premises s k = is_open s

abbrev pub maybe_premises : Form MarkedToken
maybe_premises = maybe premises_form (tokens_of opens_premises)

-- A justification without a proof: what goes on it begins one, or goes on its references.
abbrev pub begins_simple : Keyword → Bool
begins_simple keywords.By = true
begins_simple keywords.From = true
begins_simple _ = false

abbrev pub goes_on_simple : Sign → Keyword → Bool
goes_on_simple s k = (is_comma s || is_open s) || (is_colon k || begins_simple k)

abbrev pub simple_form : Form MarkedToken
simple_form = record { Tree = SimpleTree; spell = spell_simple; levels = levels_simple; each = each_simple; IsTree = IsSimple; goes = λ _ t. tokens_of goes_on_simple t }

-- What is read.
abbrev pub same_number : NumberTree → NumberTree
same_number x = x

abbrev pub same_head : (Word × Option (Place × NumberTree)) → Word × Option (Place × NumberTree)
same_head x = x

abbrev pub same_references : Separated ReferenceTree → Separated ReferenceTree
same_references x = x

abbrev pub same_scheme : SchemeReferenceTree → SchemeReferenceTree
same_scheme x = x

abbrev pub same_premises : PremisesTree → PremisesTree
same_premises x = x

abbrev pub same_maybe_premises : Option PremisesTree → Option PremisesTree
same_maybe_premises x = x

abbrev pub same_simple : SimpleTree → SimpleTree
same_simple x = x

-- These numbers were read behind a number, and behind them nothing, or a comma behind which references follow.
abbrev pub NumbersRead : ℕ → List (Next Comma NumberTree) → Option Comma → List MarkedToken → List MarkedToken → Type 0
NumbersRead room ns None before after = Found (tail_form true) room before (ns, []) after
NumbersRead room ns (Some c) before after = Leads (tail_form true) references_form room (λ s. (ns, behind [] c s)) before after

abbrev pub ReadsNumbers : ℕ → NumberTree → List MarkedToken → Result (Separated NumberTree × Option Comma) Refusal → List MarkedToken → Type 0
ReadsNumbers room first before result after = Gives (tail_form true) room (λ p. (p.0.first ≡ first) × NumbersRead room p.0.more p.1 before after) before result after

-- This reference and these behind it were read, and behind them nothing, or a comma behind which more follow.
abbrev pub ReferencesRead : ℕ → ReferenceTree → List (Next Comma ReferenceTree) → Option Comma → List MarkedToken → List MarkedToken → Type 0
ReferencesRead room first more None before after = Found references_form room before (record { first = first; more = more }) after
ReferencesRead room first more (Some c) before after = Leads references_form references_form room (λ s. record { first = first; more = behind more c s }) before after

abbrev pub ReadsReference : ℕ → List MarkedToken → Result (ReferenceTree × Option Comma) Refusal → List MarkedToken → Type 0
ReadsReference room before result after = Gives references_form room (λ p. ReferencesRead room p.0 [] p.1 before after) before result after
