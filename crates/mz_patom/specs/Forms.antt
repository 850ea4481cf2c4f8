-- The forms of formulas that have no formula in them, and what a reading of one promises.
use Rattle.std.specs.Prelude.{◌≡◌, ℕ, suc, Bool, true, false, List, [], ◌∷◌, ◌++◌, length, refl, codes, Result, Ok, Err, Option, Some, None, Box}
use Rattle.std.specs.declared.alloc.Global.{Global}
use Rattle.std.proofs.Common.{ap}
use Rattle.mz_base.specs.declared.place.Place.{Place}
use Rattle.mz_base.specs.declared.token.MarkedToken.{MarkedToken}
use Rattle.mz_forms.specs.declared.refusal.Refusal.{Refusal}
use Rattle.mz_forms.specs.declared.refusal.Refusal.TheVariants.{Memory, Refused}
use Rattle.mz_forms.specs.Form.{Form, then, nested}
use Rattle.mz_forms.specs.Reading.{Gives, Builds}
use Rattle.mz_forms.specs.Repeat.{maybe, spell_all, levels_all, AreAll, spell_maybe, levels_maybe, each_maybe, IsMaybe, goes_maybe}
use Rattle.mz_tree.specs.declared.word.Word.{Word}
use Rattle.mz_tree.specs.declared.chain.Chain.{Chain}
use Rattle.mz_tree.specs.declared.nodes.TermNode.{TermNode}
use Rattle.mz_tree.specs.declared.nodes.UnitNode.{UnitNode}
use Rattle.mz_tree.specs.Spelled.{reserved}
use Rattle.mz_tree.specs.Trees.{TermData, TermsData, PieceList, AdjectiveData, UnitData, RunTerm, OperandPiece, GroupBase, ListTerms, ContradictionUnit, PrivateUnit, PrivateWithUnit, PredicateUnit, PredicateRightUnit, PredicateLeftUnit, PredicateBothUnit, IsTypeUnit, IsAdjectivesUnit, no_prefixs, no_next_terms, more_next_terms, adjectives_of}
use Rattle.mz_tree.specs.Spell.{spell_terms, spell_unit}
use Rattle.mz_tree.specs.Levels.{levels_terms, levels_unit, each_terms, each_unit}
use Rattle.mz_tree.specs.Rules.{AreTerms, IsUnit, last_of, start, takes_unit}
use Rattle.mz_tree.specs.Views.{term_of, terms_of, unit_of}
use Rattle.mz_pterm.specs.declared.sign.Sign.{Sign}
use Rattle.mz_pterm.specs.declared.sign.Sign.TheVariants as signs
use Rattle.mz_pterm.specs.Sign.{sign_of}
use Rattle.mz_pterm.specs.Words.{named, word, name}
use Rattle.mz_pterm.specs.Forms.{rest_of_term, more_terms, next_terms, terms_form}
use Rattle.mz_ptype.specs.Classes.{begins_radix}
use Rattle.mz_ptype.specs.Forms.{adjective_form, adjective_list_form, radix_form, type_of_parts}
use Rattle.mz_patom.specs.declared.atoms.Opening as rust_opening
use Rattle.mz_patom.specs.declared.atoms.Opening.TheVariants as openings
use Rattle.mz_patom.specs.Classes.{begins_term, goes_on_atom, goes_open}

-- A unit, or terms behind which no predicate stands.
pub data Opening : Type 0 where
  unit_opening : UnitData → Opening
  terms_opening : TermsData → Opening

abbrev pub spell_opening : Opening → List MarkedToken
spell_opening (unit_opening u) = spell_unit u
spell_opening (terms_opening ts) = spell_terms ts

abbrev pub levels_opening : Opening → List ℕ
levels_opening (unit_opening u) = levels_unit u
levels_opening (terms_opening ts) = levels_terms ts

pub each_opening : (o : Opening) → length (levels_opening o) ≡ length (spell_opening o)
each_opening (unit_opening u) = each_unit u
each_opening (terms_opening ts) = each_terms ts

abbrev pub IsOpening : Bool → Opening → Type 0
IsOpening field (unit_opening u) = IsUnit field u
IsOpening field (terms_opening ts) = AreTerms field ts

abbrev pub goes_unit : UnitData → Sign → Bool
goes_unit u s = goes_open (λ o. takes_unit o u) s

abbrev pub goes_opening : Opening → Sign → Bool
goes_opening (unit_opening u) s = goes_unit u s
goes_opening (terms_opening ts) s = goes_on_atom s

abbrev pub opening_form : Bool → Form MarkedToken
opening_form field = record { Tree = Opening; spell = spell_opening; levels = levels_opening; each = each_opening; IsTree = IsOpening field; goes = λ o t. goes_opening o (sign_of t) }

abbrev pub unit_form : Bool → Form MarkedToken
unit_form field = record { Tree = UnitData; spell = spell_unit; levels = levels_unit; each = each_unit; IsTree = IsUnit field; goes = λ u t. goes_unit u (sign_of t) }

-- terms or nothing
abbrev pub maybe_terms_form : Bool → Form MarkedToken
maybe_terms_form field = maybe (terms_form field) (λ t. begins_term (sign_of t))

-- A symbol of a mode or a structure with its arguments.
abbrev pub Radix : Type 0
Radix = (Bool × Word) × Option (Place × TermsData)

abbrev pub IsFilled : List AdjectiveData → Type 0
IsFilled [] = ⊥
IsFilled (a ∷ ads) = Unit {0}

-- without a mode or a structure there has to be an adjective
abbrev pub IsPredicated : Bool → List AdjectiveData → Option Radix → Type 0
IsPredicated field ads None = IsFilled ads
IsPredicated field ads (Some k) = (radix_form field).IsTree k

abbrev pub predicated : Bool → List AdjectiveData → Form MarkedToken
predicated field ads = record {
  Tree = Option Radix;
  spell = spell_maybe (radix_form field);
  levels = levels_maybe (radix_form field);
  each = each_maybe (radix_form field);
  IsTree = IsPredicated field ads;
  goes = goes_maybe (radix_form field) (λ t. begins_radix (sign_of t));
}

-- what stands behind `is`: a type, or adjectives
abbrev pub is_form : Bool → Form MarkedToken
is_form field = then (adjective_list_form field) (predicated field)

abbrev pub is_adjectives : TermData → Place → List AdjectiveData → UnitData
is_adjectives t p [] = ContradictionUnit p
is_adjectives t p (a ∷ ads) = IsAdjectivesUnit t p a (adjectives_of ads)

abbrev pub is_unit : TermData → Place → List AdjectiveData → Option Radix → UnitData
is_unit t p ads None = is_adjectives t p ads
is_unit t p ads (Some k) = IsTypeUnit t p (type_of_parts ads k)

-- what stands behind terms
pub data Tail : Type 0 where
  no_tail : Tail
  relates : Word → Option TermsData → Tail
  is_tail : Place → List AdjectiveData → Option Radix → Tail

abbrev pub is_single : TermsData → Bool
is_single (ListTerms t no_next_terms) = true
is_single (ListTerms t (more_next_terms u us)) = false

abbrev pub first_term : TermsData → TermData
first_term (ListTerms t ts) = t

abbrev pub spell_tail : Bool → Tail → List MarkedToken
spell_tail field no_tail = []
spell_tail field (relates w o) = named signs.Predicate w ∷ spell_maybe (terms_form field) o
spell_tail field (is_tail p ads o) = reserved p (codes "is") ∷ (spell_all (adjective_form field) ads ++ spell_maybe (radix_form field) o)

abbrev pub levels_tail : Bool → Tail → List ℕ
levels_tail field no_tail = []
levels_tail field (relates w o) = 0 ∷ levels_maybe (terms_form field) o
levels_tail field (is_tail p ads o) = 0 ∷ (levels_all (adjective_form field) ads ++ levels_maybe (radix_form field) o)

pub each_tail : (field : Bool) (k : Tail) → length (levels_tail field k) ≡ length (spell_tail field k)
each_tail field no_tail = refl
each_tail field (relates w o) = ap suc (each_maybe (terms_form field) o)
each_tail field (is_tail p ads o) = ap suc ((is_form field).each (ads, o))

-- `is` stands behind a single term
abbrev pub IsTail : Bool → TermsData → Tail → Type 0
IsTail field ts no_tail = Unit {0}
IsTail field ts (relates w o) = IsMaybe (terms_form field) o
IsTail field ts (is_tail p ads o) = (is_single ts ≡ true) × AreAll (adjective_form field) ads × IsPredicated field ads o

abbrev pub tail : Bool → TermsData → Form MarkedToken
tail field ts = record { Tree = Tail; spell = spell_tail field; levels = levels_tail field; each = each_tail field; IsTree = IsTail field ts; goes = λ _ t. goes_on_atom (sign_of t) }

abbrev pub related : TermsData → Word → Option TermsData → UnitData
related ts w None = PredicateLeftUnit ts w
related ts w (Some us) = PredicateBothUnit ts w us

-- terms with what stands behind them
abbrev pub join : TermsData → Tail → Opening
join ts no_tail = terms_opening ts
join ts (relates w o) = unit_opening (related ts w o)
join ts (is_tail p ads o) = unit_opening (is_unit (first_term ts) p ads o)

abbrev pub atom_form : Bool → Form MarkedToken
atom_form field = then (terms_form field) (tail field)

abbrev pub make_atom : (TermsData × Tail) → Opening
make_atom k = join k.0 k.1

-- terms that begin with a group
abbrev pub with_group : Place → TermsData → Place → PieceList → List (Place × TermData) → TermsData
with_group p ts q ps us = ListTerms (RunTerm (OperandPiece no_prefixs (GroupBase p ts q)) ps) (next_terms us)

abbrev pub behind_term : Bool → Place → TermsData → Place → PieceList → Form MarkedToken
behind_term field p ts q ps = then (more_terms field) (λ us. tail field (with_group p ts q ps us))

abbrev pub group_tail : Bool → Place → TermsData → Place → Form MarkedToken
group_tail field p ts q = then (rest_of_term field (last_of start (GroupBase p ts q))) (behind_term field p ts q)

abbrev pub make_group_tail : Place → TermsData → Place → (PieceList × (List (Place × TermData) × Tail)) → Opening
make_group_tail p ts q k = join (with_group p ts q k.0 k.1.0) k.1.1

-- a predicate symbol with nothing before it
abbrev pub predicate_form : Bool → Form MarkedToken
predicate_form field = then (name signs.Predicate) (λ _. maybe_terms_form field)

abbrev pub predicate_from : Word → Option TermsData → UnitData
predicate_from w None = PredicateUnit w
predicate_from w (Some ts) = PredicateRightUnit w ts

abbrev pub make_predicate : (Word × Option TermsData) → UnitData
make_predicate k = predicate_from k.0 k.1

-- a private predicate
abbrev pub closed_terms : Bool → Form MarkedToken
closed_terms field = then (nested (maybe_terms_form field)) (λ _. word signs.CloseSquare)

abbrev pub square_terms : Bool → Form MarkedToken
square_terms field = then (nested (word signs.OpenSquare)) (λ _. closed_terms field)

abbrev pub private_form : Bool → Form MarkedToken
private_form field = then (name signs.Identifier) (λ _. square_terms field)

abbrev pub private_from : Word → Place → Option TermsData → Place → UnitData
private_from w p None q = PrivateUnit w p q
private_from w p (Some ts) q = PrivateWithUnit w p ts q

abbrev pub make_private : (Word × (Place × (Option TermsData × Place))) → UnitData
make_private k = private_from k.0 k.1.0 k.1.1.0 k.1.1.1

-- What is read.
abbrev pub terms_seen : Option (Chain Place TermNode) → Option TermsData
terms_seen None = None
terms_seen (Some c) = Some (terms_of c)

abbrev pub unit_in : Box UnitNode Global → UnitData
unit_in b = unit_of b.value

abbrev pub opening_of : rust_opening.Opening → Opening
opening_of (openings.Unit b) = unit_opening (unit_in b)
opening_of (openings.Terms c) = terms_opening (terms_of c)

-- what is handed in stands in the box
abbrev pub BoxesUnit : UnitNode → Result (Box UnitNode Global) Refusal → Type 0
BoxesUnit x (Ok b) = b.value ≡ x
BoxesUnit x (Err e) = e ≡ Memory

abbrev pub IsOnlyTerm : TermsData → Result TermNode (Chain Place TermNode) → Type 0
IsOnlyTerm ts (Ok t) = ts ≡ ListTerms (term_of t) no_next_terms
IsOnlyTerm ts (Err c) = (terms_of c ≡ ts) × (is_single ts ≡ false)

abbrev pub GivesAdjectives : TermData → Place → List AdjectiveData → Result (Box UnitNode Global) Refusal → Type 0
GivesAdjectives t p ads (Ok b) = IsFilled ads × (unit_in b ≡ is_adjectives t p ads)
GivesAdjectives t p ads (Err Refused) = ads ≡ []
GivesAdjectives t p ads (Err e) = e ≡ Memory

abbrev pub ReadsIs : Bool → ℕ → TermData → Place → List MarkedToken → Result (Box UnitNode Global) Refusal → List MarkedToken → Type 0
ReadsIs field room t p before result after = Gives (is_form field) room (λ x. Builds (is_form field) room (λ k. is_unit t p k.0 k.1) (unit_in x) before after) before result after

abbrev pub ReadsRelated : Bool → ℕ → TermsData → Word → List MarkedToken → Result (Box UnitNode Global) Refusal → List MarkedToken → Type 0
ReadsRelated field room ts w before result after = Gives (maybe_terms_form field) room (λ x. Builds (maybe_terms_form field) room (related ts w) (unit_in x) before after) before result after

abbrev pub ReadsTail : Bool → ℕ → TermsData → List MarkedToken → Result rust_opening.Opening Refusal → List MarkedToken → Type 0
ReadsTail field room ts before result after = Gives (tail field ts) room (λ x. Builds (tail field ts) room (join ts) (opening_of x) before after) before result after

abbrev pub ReadsAtom : Bool → ℕ → List MarkedToken → Result rust_opening.Opening Refusal → List MarkedToken → Type 0
ReadsAtom field room before result after = Gives (atom_form field) room (λ x. Builds (atom_form field) room make_atom (opening_of x) before after) before result after

abbrev pub ReadsBehindGroup : Bool → ℕ → Place → TermsData → Place → List MarkedToken → Result rust_opening.Opening Refusal → List MarkedToken → Type 0
ReadsBehindGroup field room p ts q before result after = Gives (group_tail field p ts q) room (λ x. Builds (group_tail field p ts q) room (make_group_tail p ts q) (opening_of x) before after) before result after

abbrev pub ReadsPredicate : Bool → ℕ → List MarkedToken → Result (Box UnitNode Global) Refusal → List MarkedToken → Type 0
ReadsPredicate field room before result after = Gives (predicate_form field) room (λ x. Builds (predicate_form field) room make_predicate (unit_in x) before after) before result after

abbrev pub ReadsPrivate : Bool → ℕ → List MarkedToken → Result (Box UnitNode Global) Refusal → List MarkedToken → Type 0
ReadsPrivate field room before result after = Gives (private_form field) room (λ x. Builds (private_form field) room make_private (unit_in x) before after) before result after
