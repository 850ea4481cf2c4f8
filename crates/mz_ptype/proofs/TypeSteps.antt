-- The readings of types.
use Rattle.std.specs.Prelude.{codes}
use Rattle.std.specs.declared.alloc.Global.{Global}
use Rattle.std.proofs.Common.{◌≡◌, ℕ, ◌+◌, ◌<◌, ◌≤◌, Bool, true, false, ◌||◌, ◌&&◌, List, [], ◌∷◌, ◌++◌, map, refl, sym, ap, subst, ◌∙◌, Option, Some, None, Result, Ok, Err, Box}
use Rattle.mz_base.specs.declared.place.Place.{Place}
use Rattle.mz_base.specs.declared.token.MarkedToken.{MarkedToken}
use Rattle.mz_forms.specs.declared.refusal.Refusal.{Refusal}
use Rattle.mz_forms.specs.Form.{Form, Agrees, Found, Fails, Leads, is_empty, then, nested, one_of}
use Rattle.mz_forms.specs.Reading.{Refuses, Gives, Builds, Reads}
use Rattle.mz_forms.specs.Repeat.{many, maybe, spell_all, AreAll, spell_maybe, IsMaybe}
use Rattle.mz_forms.proofs.Compose.{Apart, head_of}
use Rattle.mz_forms.proofs.Choose.{Reshapes, fails_here}
use Rattle.mz_forms.proofs.Leads.{leads_as, leads_behind, leads_on, beside, passes, first_refuses, gives_through}
use Rattle.mz_forms.proofs.Lists.{either}
use Rattle.mz_forms.proofs.Maybe.{Starts}
use Rattle.mz_forms.proofs.Words.{word_found, word_in_any, behind_word, first_word_refuses}
use Rattle.mz_tree.specs.declared.word.Word.{Word}
use Rattle.mz_tree.specs.declared.nodes.TypeNode.{TypeNode}
use Rattle.mz_tree.specs.Spelled.{reserved}
use Rattle.mz_tree.specs.Trees.{TermsData, AdjectiveData, AdjectiveList, TypeData, ModeType, ModeOfType, StructureType, StructureOverType, adjectives_of}
use Rattle.mz_tree.specs.Spell.{spell_terms, spell_adjective, spell_adjective_list, spell_type}
use Rattle.mz_tree.specs.Levels.{levels_terms, levels_adjective_list, levels_type}
use Rattle.mz_tree.specs.Rules.{AreTerms, AreAdjectives, IsType}
use Rattle.mz_tree.specs.Views.{type_of}
use Rattle.mz_pterm.specs.declared.sign.Sign.{Sign}
use Rattle.mz_pterm.specs.declared.sign.Sign.TheVariants as signs
use Rattle.mz_pterm.specs.Classes.{is_of, goes_on_terms}
use Rattle.mz_pterm.specs.Sign.{sign_of}
use Rattle.mz_pterm.specs.Words.{is_fixed, is_named, fixed, named, word_of, word, name, TakesPlace}
use Rattle.mz_pterm.specs.Forms.{terms_form}
use Rattle.mz_pterm.proofs.Signs.{told_fixed, told_named, sign_of-fixed, sign_of-named, same_fixed, same_named}
use Rattle.mz_pterm.proofs.Bases.{word_at, terms_at}
use Rattle.mz_pterm.proofs.Steps.{told_rest}
use Rattle.mz_ptype.specs.Classes.{begins_adjective, begins_radix, is_over, is_preposition}
use Rattle.mz_ptype.specs.Forms.{adjective_form, adjective_list_form, radix_sign, preposition, behind_preposition, maybe_arguments, radix_symbol, radix_form, parts_of_type, type_from, type_of_parts, goes_type, whole_type, type_in, same_symbol, BoxesType, ReadsRadix}
use Rattle.mz_ptype.proofs.Optional.{never, true_not_false, token_in, off_and, starts_behind, behind_taken, behind_refused, behind_lacks}
use Rattle.mz_ptype.proofs.AdjectiveSteps.{nowhere, adjective_class, list_spells, list_levels, list_into, only_listed}

-- Prepositions.
pub preposition_fixed : (structured : Bool) → is_fixed (preposition structured) ≡ true
preposition_fixed true = refl
preposition_fixed false = refl

preposition_same : (structured : Bool) (a b : Place) → fixed (preposition structured) a ≡ fixed (preposition structured) b → a ≡ b
preposition_same structured = same_fixed (preposition structured) (preposition_fixed structured)

preposition_own : (structured : Bool) (p : Place) → is_preposition structured (sign_of (fixed (preposition structured) p)) ≡ true
preposition_own true p = ap is_over (sign_of-fixed signs.Over p refl)
preposition_own false p = ap is_of (sign_of-fixed signs.Of p refl)

of_only : (s : Sign) → is_of s ≡ true → s ≡ signs.Of
of_only signs.Of e = refl
of_only _ e = cc

over_only : (s : Sign) → is_over s ≡ true → s ≡ signs.Over
over_only signs.Over e = refl
over_only _ e = cc

preposition_told : (structured : Bool) (t : MarkedToken) → is_preposition structured (sign_of t) ≡ true → (x : Place) × (fixed (preposition structured) x ≡ t)
preposition_told true t h = (t.token.place, sym (told_fixed signs.Over t refl (over_only (sign_of t) h)))
preposition_told false t h = (t.token.place, sym (told_fixed signs.Of t refl (of_only (sign_of t) h)))

pub starts_preposition : (field structured : Bool) → Starts (behind_preposition field structured) (λ t. is_preposition structured (sign_of t))
starts_preposition field structured = starts_behind Place (fixed (preposition structured)) (preposition_same structured) (is_preposition structured) (preposition_own structured) (preposition_told structured) (terms_form field) (terms_at nowhere) ((tt, tt), tt)

pub arguments_refused : (field structured : Bool) (room : ℕ) (p : Place) (b d after : List MarkedToken) (e : Refusal) → b ≡ fixed (preposition structured) p ∷ d → Refuses (terms_form field) room d e after → Refuses (maybe_arguments field structured) room b e after
arguments_refused field structured room p b d after e f h = behind_refused Place (fixed (preposition structured)) (preposition_same structured) (is_preposition structured) (preposition_own structured) (preposition_told structured) (terms_form field) (terms_at nowhere) ((tt, tt), tt) room p b d after e f h

pub arguments_found : (field structured : Bool) (room : ℕ) (p : Place) (ts : TermsData) (b d after : List MarkedToken) → b ≡ fixed (preposition structured) p ∷ d → Found (terms_form field) room d ts after → Found (maybe_arguments field structured) room b (Some (p, ts)) after
arguments_found field structured room p ts b d after f h = (behind_taken Place (fixed (preposition structured)) (preposition_same structured) (is_preposition structured) (preposition_own structured) (preposition_told structured) (terms_form field) (terms_at nowhere) ((tt, tt), tt) room p b d f).finds ts after h

pub arguments_lack : (field structured : Bool) (room : ℕ) (b after : List MarkedToken) → TakesPlace (preposition structured) b None after → Found (maybe_arguments field structured) room b None after
arguments_lack field structured room b after h = behind_lacks Place (fixed (preposition structured)) (preposition_same structured) (is_preposition structured) (preposition_own structured) (preposition_told structured) (terms_form field) (terms_at nowhere) ((tt, tt), tt) room b after h.0 h.1

-- Symbols of modes and structures.
abbrev pub symbol_token : (Bool × Word) → MarkedToken
symbol_token r = named (radix_sign r.0) r.1

radix_named : (structured : Bool) → is_named (radix_sign structured) ≡ true
radix_named true = refl
radix_named false = refl

pub symbol_sign : (r : Bool × Word) → sign_of (symbol_token r) ≡ radix_sign r.0
symbol_sign r = sign_of-named (radix_sign r.0) r.1 (radix_named r.0)

same_kind : (a b : Bool) → radix_sign a ≡ radix_sign b → a ≡ b
same_kind true true e = refl
same_kind false false e = refl
same_kind true false e = cc
same_kind false true e = cc

pub symbol_told : (r q : Bool × Word) → symbol_token r ≡ symbol_token q → r ≡ q
symbol_told r q e = go q.0 q.1 (same_kind r.0 q.0 (sym (symbol_sign r) ∙ (ap sign_of e ∙ symbol_sign q))) e
  where
    go : (b : Bool) (w : Word) → r.0 ≡ b → symbol_token r ≡ symbol_token (b, w) → r ≡ (b, w)
    go b w f = let G : Bool → Type 0 = λ z. symbol_token r ≡ symbol_token (z, w) → r ≡ (z, w) in
        subst G f (λ g. ap (λ z. (r.0, z)) (same_named (radix_sign r.0) (radix_named r.0) r.1 w g))

pub symbol_found : (structured : Bool) (room : ℕ) (t : MarkedToken) (w : Word) (b rest : List MarkedToken) → sign_of t ≡ radix_sign structured → w ≡ word_of t → b ≡ t ∷ rest → Found radix_symbol room b (structured, w) rest
symbol_found structured room t w b rest h same e =
    let W : Word → Type 0 = λ z. t ≡ named (radix_sign structured) z in
    word_found (Bool × Word) symbol_token symbol_told room (structured, w) b rest (told_rest b rest t _ e (subst W (sym same) (told_named (radix_sign structured) t (radix_named structured) h)))

pub symbol_at_end : (room : ℕ) (b : List MarkedToken) → b ≡ [] → Fails radix_symbol room b b
symbol_at_end room b e = fails_here radix_symbol room (false, word_at nowhere) b tt (λ x is agrees. none x (subst (λ (z : List MarkedToken). Agrees z (symbol_token x ∷ [])) e agrees))
  where
    none : (x : Bool × Word) → Agrees [] (symbol_token x ∷ []) → ⊥
    none x h = h

not_radix : (structured : Bool) (s : Sign) → (s ≡ signs.Mode → ⊥) → (s ≡ signs.Structure → ⊥) → s ≡ radix_sign structured → ⊥
not_radix true s m g e = g e
not_radix false s m g e = m e

pub symbol_refused : (room : ℕ) (t : MarkedToken) (b rest : List MarkedToken) → (sign_of t ≡ signs.Mode → ⊥) → (sign_of t ≡ signs.Structure → ⊥) → b ≡ t ∷ rest → Fails radix_symbol room b b
symbol_refused room t b rest m g e = fails_here radix_symbol room (false, word_at nowhere) b tt
    (λ x is agrees. not_radix x.0 (sign_of t) m g (ap sign_of (sym (subst (λ (z : List MarkedToken). Agrees z (symbol_token x ∷ [])) e agrees)) ∙ symbol_sign x))

-- A type behind its adjectives.
pub behind_symbol : (field : Bool) (room : ℕ) (b c : List MarkedToken) (r : Bool × Word) → Found radix_symbol 0 b r c → Leads (radix_form field) (maybe_arguments field r.0) room (beside radix_symbol (λ r. maybe_arguments field r.0) r) b c
behind_symbol field room b c r h = behind_word (Bool × Word) symbol_token (λ r. maybe_arguments field r.0) room b c r h

pub radix_unbegun : (field : Bool) (room : ℕ) (b after : List MarkedToken) (e : Refusal) → Refuses radix_symbol 0 b e after → Refuses (radix_form field) room b e after
radix_unbegun field room b after e h = first_word_refuses (Bool × Word) symbol_token (λ r. maybe_arguments field r.0) (λ r. (None, tt)) room b after e h

pub radix_refused : (field : Bool) (room : ℕ) (b c after : List MarkedToken) (r : Bool × Word) (e : Refusal) → Found radix_symbol 0 b r c → Refuses (maybe_arguments field r.0) room c e after → Refuses (radix_form field) room b e after
radix_refused field room b c after r e f h = passes (radix_form field) (maybe_arguments field r.0) room _ b c after e (behind_symbol field room b c r f) h

pub boxed_radix : (field : Bool) (room : ℕ) (ads : List AdjectiveData) (x : TypeNode) (b c after : List MarkedToken) (r : Bool × Word) (o : Option (Place × TermsData)) (z : Result (Box TypeNode Global) Refusal) →
    Found radix_symbol 0 b r c → Found (maybe_arguments field r.0) room c o after → type_of x ≡ type_from (adjectives_of ads) r.0 r.1 o → BoxesType x z → ReadsRadix field room ads b z after
boxed_radix field room ads x b c after r o (Ok y) f h e boxed = ((r, o), (behind_symbol field room b c r f).finds o after h, ap type_of boxed ∙ e)
boxed_radix field room ads x b c after r o (Err y) f h e boxed = let R : Refusal → Type 0 = λ z. Refuses (radix_form field) room b z after in subst R (sym boxed) tt

-- A type is adjectives, a symbol, and arguments or nothing.
parts_into : (field structured : Bool) (ads : List AdjectiveData) (w : Word) (o : Option (Place × TermsData)) → AreAll (adjective_form field) ads → IsMaybe (behind_preposition field structured) o → IsType field (type_from (adjectives_of ads) structured w o)
parts_into field false ads w None h g = list_into field ads h
parts_into field true ads w None h g = list_into field ads h
parts_into field false ads w (Some a) h g = (list_into field ads h, g.1)
parts_into field true ads w (Some a) h g = (list_into field ads h, g.1)

parts_spell : (field structured : Bool) (ads : List AdjectiveData) (w : Word) (o : Option (Place × TermsData)) → spell_type (type_from (adjectives_of ads) structured w o) ≡ spell_all (adjective_form field) ads ++ (named (radix_sign structured) w ∷ spell_maybe (behind_preposition field structured) o)
parts_spell field false ads w None = ap (λ z. z ++ (named signs.Mode w ∷ [])) (list_spells field ads)
parts_spell field true ads w None = ap (λ z. z ++ (named signs.Structure w ∷ [])) (list_spells field ads)
parts_spell field false ads w (Some a) = ap (λ z. z ++ (named signs.Mode w ∷ (reserved a.0 (codes "of") ∷ spell_terms a.1))) (list_spells field ads)
parts_spell field true ads w (Some a) = ap (λ z. z ++ (named signs.Structure w ∷ (reserved a.0 (codes "over") ∷ spell_terms a.1))) (list_spells field ads)

parts_levels : (field structured : Bool) (ads : List AdjectiveData) (w : Word) (o : Option (Place × TermsData)) → levels_type (type_from (adjectives_of ads) structured w o) ≡ (parts_of_type field).levels (ads, ((structured, w), o))
parts_levels field false ads w None = ap (λ z. z ++ (0 ∷ [])) (list_levels field ads)
parts_levels field true ads w None = ap (λ z. z ++ (0 ∷ [])) (list_levels field ads)
parts_levels field false ads w (Some a) = ap (λ z. z ++ (0 ∷ (0 ∷ levels_terms a.1))) (list_levels field ads)
parts_levels field true ads w (Some a) = ap (λ z. z ++ (0 ∷ (0 ∷ levels_terms a.1))) (list_levels field ads)

pub only_parts : (field : Bool) (x : TypeData) → IsType field x → (k : (parts_of_type field).Tree) × (parts_of_type field).IsTree k × (x ≡ type_of_parts k.0 k.1)
only_parts field (ModeType a w) is = let k = only_listed field a is in ((k.0, ((false, w), None)), (k.1, (tt, tt)), ap (λ z. ModeType z w) k.2)
only_parts field (ModeOfType a w p ts) is = let k = only_listed field a is.0 in ((k.0, ((false, w), Some (p, ts))), (k.1, (tt, (tt, is.1))), ap (λ z. ModeOfType z w p ts) k.2)
only_parts field (StructureType a w) is = let k = only_listed field a is in ((k.0, ((true, w), None)), (k.1, (tt, tt)), ap (λ z. StructureType z w) k.2)
only_parts field (StructureOverType a w p ts) is = let k = only_listed field a is.0 in ((k.0, ((true, w), Some (p, ts))), (k.1, (tt, (tt, is.1))), ap (λ z. StructureOverType z w p ts) k.2)

or_false : (c d : Bool) → (c || (d && false)) ≡ true → c ≡ true
or_false c d g = either c false d (λ h. absurd (never h)) g

or_never : (c : Bool) → (c || false) ≡ true → c ≡ true
or_never true g = refl
or_never false g = g

radix_goes : (field structured : Bool) (ads : List AdjectiveData) (w : Word) (o : Option (Place × TermsData)) (s : MarkedToken) → (radix_form field).goes ((structured, w), o) s ≡ true → goes_type (type_from (adjectives_of ads) structured w o) (sign_of s) ≡ true
radix_goes field false ads w None s g = or_never (is_of (sign_of s)) g
radix_goes field true ads w None s g = or_never (is_over (sign_of s)) g
radix_goes field false ads w (Some a) s g = or_false (goes_on_terms (sign_of s)) (is_empty (spell_terms a.1)) (or_never ((behind_preposition field false).goes a s) g)
radix_goes field true ads w (Some a) s g = or_false (goes_on_terms (sign_of s)) (is_empty (spell_terms a.1)) (or_never ((behind_preposition field true).goes a s) g)

pub parts_goes : (field : Bool) (k : (parts_of_type field).Tree) (s : MarkedToken) → (parts_of_type field).goes k s ≡ true → goes_type (type_of_parts k.0 k.1) (sign_of s) ≡ true
parts_goes field k s g = radix_goes field k.1.0.0 k.0 k.1.0.1 k.1.1 s (or_never ((radix_form field).goes k.1 s) g)

pub parts_spelled : (field : Bool) (k : (parts_of_type field).Tree) → (parts_of_type field).IsTree k → spell_type (type_of_parts k.0 k.1) ≡ (parts_of_type field).spell k
parts_spelled field k is = parts_spell field k.1.0.0 k.0 k.1.0.1 k.1.1

abbrev pub make_type : (List AdjectiveData × ((Bool × Word) × Option (Place × TermsData))) → TypeData
make_type k = type_of_parts k.0 k.1

pub as_type : (field : Bool) (b : List MarkedToken) → Reshapes (whole_type field) (parts_of_type field) make_type b
as_type field b = record {
  into = λ k is. parts_into field k.1.0.0 k.0 k.1.0.1 k.1.1 is.0 is.1.1;
  spells = λ k is. parts_spelled field k is;
  only = λ x is agrees. only_parts field x is;
  goes = λ k s is g. parts_goes field k s g;
  level = λ k is. parts_levels field k.1.0.0 k.0 k.1.0.1 k.1.1;
}

radix_begins : (structured : Bool) → begins_adjective (radix_sign structured) ≡ false
radix_begins true = refl
radix_begins false = refl

pub adjectives_apart : (field : Bool) → Apart (adjective_list_form field) (λ _. radix_form field)
adjectives_apart field ads k s x isa isk e g = true_not_false (begins_adjective (sign_of s)) (ap begins_adjective (sym (ap sign_of (head_of _ _ _ _ e)) ∙ symbol_sign k.0) ∙ radix_begins k.0.0) g

some_radix : (field : Bool) → (k : (radix_form field).Tree) × (radix_form field).IsTree k
some_radix field = (((false, word_at nowhere), None), (tt, tt))

pub list_refused : (field : Bool) (room : ℕ) (b after : List MarkedToken) (e : Refusal) → Refuses (adjective_list_form field) room b e after → Refuses (whole_type field) room b e after
list_refused field room b after e h = passes (whole_type field) (parts_of_type field) room make_type b b after e (leads_as (whole_type field) (parts_of_type field) make_type room b (as_type field b))
    (first_refuses (adjective_list_form field) (λ _. radix_form field) (adjectives_apart field) room b after e (λ a is. some_radix field) h)

pub behind_list : (field : Bool) (room : ℕ) (b c : List MarkedToken) (ads : List AdjectiveData) → Found (adjective_list_form field) room b ads c → Leads (whole_type field) (radix_form field) room (type_of_parts ads) b c
behind_list field room b c ads h = leads_on (whole_type field) (parts_of_type field) (radix_form field) room make_type (beside (adjective_list_form field) (λ _. radix_form field) ads) b b c
    (leads_as (whole_type field) (parts_of_type field) make_type room b (as_type field b)) (leads_behind (adjective_list_form field) (λ _. radix_form field) (adjectives_apart field) room b c ads h)

pub type_from_list : (field : Bool) (room : ℕ) (b c after : List MarkedToken) (ads : List AdjectiveData) (z : Result (Box TypeNode Global) Refusal) → Found (adjective_list_form field) room b ads c → ReadsRadix field room ads c z after → Reads (whole_type field) room type_in b z after
type_from_list field room b c after ads z h given =
    let leads = behind_list field room b c ads h in
    gives_through (whole_type field) (radix_form field) room (λ x. Found (whole_type field) room b (type_in x) after) (λ x. Builds (radix_form field) room (type_of_parts ads) (type_in x) c after) (type_of_parts ads) b c after z
    (λ x k. let F : TypeData → Type 0 = λ z. Found (whole_type field) room b z after in subst F (sym k.2) (leads.finds k.0 after k.1))
    leads given
