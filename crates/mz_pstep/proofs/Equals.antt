-- The tokens `=` and `set`.
use Rattle.std.specs.Prelude.{codes, if◌then◌else◌}
use Rattle.std.specs.Str.{bytes_eq}
use Rattle.std.proofs.Common.{◌≡◌, ℕ, true, false, ◌&&◌, List, [], ◌∷◌, refl, sym, ap, subst, ◌∙◌, Some, None}
use Rattle.std.proofs.lemmas.Slice.Eq.{bytes_eq-Decides}
use Rattle.mz_base.specs.declared.place.Place.{Place}
use Rattle.mz_base.specs.declared.symbol_kind.SymbolKind.TheVariants as symbols
use Rattle.mz_base.specs.declared.token.TokenKind.TheVariants as kinds
use Rattle.mz_base.specs.declared.token.Mark.TheVariants as marks
use Rattle.mz_base.specs.declared.token.MarkedToken.{MarkedToken}
use Rattle.mz_forms.specs.Form.{Agrees, Found, Fails}
use Rattle.mz_forms.proofs.Choose.{fails_here}
use Rattle.mz_forms.proofs.Words.{word_found}
use Rattle.mz_tree.specs.declared.word.Word.{Word}
use Rattle.mz_tree.specs.Spelled.{marked, symbol, equals_sign}
use Rattle.mz_pterm.specs.declared.sign.Sign.{Sign}
use Rattle.mz_pterm.specs.declared.sign.Sign.TheVariants as signs
use Rattle.mz_pterm.specs.Sign.{sign_of}
use Rattle.mz_pterm.specs.Words.{word_of}
use Rattle.mz_pterm.proofs.Signs.{told_named, sign_of-named}
use Rattle.mz_pterm.proofs.Steps.{told_rest}
use Rattle.mz_ptype.proofs.Optional.{true_not_false}
use Rattle.mz_pjustification.proofs.Taken.{nowhere, nothing_left}
use Rattle.mz_pproposition.proofs.PropositionSteps.{both_true}
use Rattle.mz_pstep.specs.Words.{is_predicate, is_equals, equals_form, set_word, set_form, TakesEquals}

pub predicate_is : (s : Sign) → is_predicate s ≡ true → s ≡ signs.Predicate
predicate_is signs.Predicate e = refl
predicate_is _ e = cc

abbrev equals_word : Place → Word
equals_word p = record { place = p; spelling = codes "=" }

pub equals_signed : (p : Place) → sign_of (equals_sign p) ≡ signs.Predicate
equals_signed p = sign_of-named signs.Predicate (equals_word p) refl

pub equals_own : (p : Place) → is_equals (equals_sign p) ≡ true
equals_own p = ap (λ s. is_predicate s && bytes_eq (codes "=") (codes "=")) (equals_signed p)

pub equals_same : (p q : Place) → equals_sign p ≡ equals_sign q → p ≡ q
equals_same p q e = ap (λ t. t.token.place) e

pub sign_of-equals_predicate : (t : MarkedToken) → is_equals t ≡ true → sign_of t ≡ signs.Predicate
sign_of-equals_predicate t h = predicate_is (sign_of t) (both_true (is_predicate (sign_of t)) (bytes_eq t.token.spelling (codes "=")) h).0

pub equals_told : (t : MarkedToken) → is_equals t ≡ true → t ≡ equals_sign t.token.place
equals_told t h =
    let k = both_true (is_predicate (sign_of t)) (bytes_eq t.token.spelling (codes "=")) h in
    let e : t.token.spelling ≡ codes "=" = (bytes_eq-Decides t.token.spelling (codes "=")).0 k.1 in
    told_named signs.Predicate t refl (predicate_is (sign_of t) k.0) ∙ ap (λ z. marked (kinds.Symbol symbols.Predicate) t.token.place z 0 marks.NotComma) e

pub equals_taken : (t : MarkedToken) (b rest : List MarkedToken) → is_equals t ≡ true → b ≡ t ∷ rest → TakesEquals b (Some t.token.place) rest
equals_taken t b rest h e = told_rest b rest t _ e (equals_told t h)

equals_differs : (t : MarkedToken) (b rest : List MarkedToken) → is_equals t ≡ false → b ≡ t ∷ rest → (p : Place) → Agrees b (equals_sign p ∷ []) → ⊥
equals_differs t b rest h e p agrees =
    let A : List MarkedToken → Type 0 = λ z. Agrees z (equals_sign p ∷ []) in
    let g : equals_sign p ≡ t = subst A e agrees in
    true_not_false (is_equals t) h (sym (ap is_equals g) ∙ equals_own p)

pub equals_not_taken : (t : MarkedToken) (b rest : List MarkedToken) → is_equals t ≡ false → b ≡ t ∷ rest → TakesEquals b None b
equals_not_taken t b rest h e = (refl, equals_differs t b rest h e)

pub equals_at_end : (b : List MarkedToken) → b ≡ [] → TakesEquals b None b
equals_at_end b e = (refl, λ p agrees. nothing_left (equals_sign p) b e agrees)

pub equals_found : (room : ℕ) (p : Place) (b rest : List MarkedToken) → TakesEquals b (Some p) rest → Found equals_form room b p rest
equals_found room p b rest e = word_found Place equals_sign equals_same room p b rest e

pub equals_missing : (room : ℕ) (b after : List MarkedToken) → TakesEquals b None after → Fails equals_form room b after
equals_missing room b after h = let F : List MarkedToken → Type 0 = λ z. Fails equals_form room b z in subst F h.0 (fails_here equals_form room nowhere b tt (λ x is agrees. h.1 x agrees))

-- `set`
abbrev word_set : Place → Word
word_set p = record { place = p; spelling = codes "set" }

set_signed : (p : Place) → sign_of (set_word p) ≡ signs.Mode
set_signed p = sign_of-named signs.Mode (word_set p) refl

pub set_same : (p q : Place) → set_word p ≡ set_word q → p ≡ q
set_same p q e = ap (λ t. t.token.place) e

set_told : (t : MarkedToken) → sign_of t ≡ signs.Mode → bytes_eq t.token.spelling (codes "set") ≡ true → t ≡ set_word t.token.place
set_told t h g =
    let e : t.token.spelling ≡ codes "set" = (bytes_eq-Decides t.token.spelling (codes "set")).0 g in
    told_named signs.Mode t refl h ∙ (ap (λ c. if c then marked kinds.Reserved t.token.place t.token.spelling 0 marks.NotComma else symbol symbols.Mode (word_of t)) g ∙ ap (λ z. marked kinds.Reserved t.token.place z 0 marks.NotComma) e)

pub set_found : (room : ℕ) (t : MarkedToken) (b rest : List MarkedToken) → sign_of t ≡ signs.Mode → bytes_eq t.token.spelling (codes "set") ≡ true → b ≡ t ∷ rest → Found set_form room b t.token.place rest
set_found room t b rest h g e = word_found Place set_word set_same room t.token.place b rest (told_rest b rest t _ e (set_told t h g))

set_is : (t : MarkedToken) (b rest : List MarkedToken) → b ≡ t ∷ rest → (p : Place) → Agrees b (set_word p ∷ []) → set_word p ≡ t
set_is t b rest e p agrees = let A : List MarkedToken → Type 0 = λ z. Agrees z (set_word p ∷ []) in subst A e agrees

pub set_other : (room : ℕ) (t : MarkedToken) (b rest : List MarkedToken) → (sign_of t ≡ signs.Mode → ⊥) → b ≡ t ∷ rest → Fails set_form room b b
set_other room t b rest h e = fails_here set_form room nowhere b tt (λ x is agrees. h (sym (ap sign_of (set_is t b rest e x agrees)) ∙ set_signed x))

pub set_misspelled : (room : ℕ) (t : MarkedToken) (b rest : List MarkedToken) → bytes_eq t.token.spelling (codes "set") ≡ false → b ≡ t ∷ rest → Fails set_form room b b
set_misspelled room t b rest h e = fails_here set_form room nowhere b tt (λ x is agrees. true_not_false (bytes_eq t.token.spelling (codes "set")) h (sym (ap (λ z. bytes_eq z.token.spelling (codes "set")) (set_is t b rest e x agrees))))

pub set_left_out : (room : ℕ) (b : List MarkedToken) → b ≡ [] → Fails set_form room b b
set_left_out room b e = fails_here set_form room nowhere b tt (λ x is agrees. nothing_left (set_word x) b e agrees)
