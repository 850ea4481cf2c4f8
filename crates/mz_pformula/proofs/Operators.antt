-- Operators that come next, and what takes them.
use Rattle.std.proofs.Common.{◌≡◌, Bool, true, false, List, [], ◌∷◌, refl, sym, ap, subst, ◌∙◌, None}
use Rattle.mz_base.specs.declared.place.Place.{Place}
use Rattle.mz_base.specs.declared.token.MarkedToken.{MarkedToken}
use Rattle.mz_forms.specs.Form.{Agrees}
use Rattle.mz_tree.specs.Trees.{DisjunctionData, PlainFormula}
use Rattle.mz_tree.specs.Rules.{Operator, conjoins, disjoins, concludes}
use Rattle.mz_pterm.specs.declared.sign.Sign.{Sign}
use Rattle.mz_pterm.specs.declared.sign.Sign.TheVariants as signs
use Rattle.mz_pterm.specs.Sign.{sign_of}
use Rattle.mz_pterm.specs.Words.{is_fixed, fixed, TakesPlace}
use Rattle.mz_pterm.proofs.Signs.{told_fixed, sign_of-fixed}
use Rattle.mz_patom.specs.Classes.{goes_open}
use Rattle.mz_pformula.specs.Classes.{is_and, is_or, takes_sign, NotTaken}
use Rattle.mz_pformula.specs.Forms.{disjunction_takes, formula_takes}

pub is_false : (b : Bool) → (b ≡ true → ⊥) → b ≡ false
is_false true h = absurd (h refl)
is_false false h = refl

pub both_ways : (b : Bool) → b ≡ false → b ≡ true → ⊥
both_ways true e f = cc
both_ways false e f = cc

-- what goes on less goes on more
pub goes_weaker : (f g : Operator → Bool) → ((o : Operator) → f o ≡ true → g o ≡ true) → (s : Sign) → goes_open f s ≡ true → goes_open g s ≡ true
goes_weaker f g h signs.And e = h conjoins e
goes_weaker f g h signs.Or e = h disjoins e
goes_weaker f g h signs.Implies e = h concludes e
goes_weaker f g h signs.Iff e = h concludes e
goes_weaker f g h _ e = e

pub and_goes : (f : Operator → Bool) → f conjoins ≡ true → (s : Sign) → is_and s ≡ true → goes_open f s ≡ true
and_goes f h signs.And e = h
and_goes f h _ e = cc

pub or_goes : (f : Operator → Bool) → f disjoins ≡ true → (s : Sign) → is_or s ≡ true → goes_open f s ≡ true
or_goes f h signs.Or e = h
or_goes f h _ e = cc

-- An operator comes next, so what stands before doesn't take it.
taken_at : (f : Operator → Bool) (o : Operator) (s : Sign) → is_fixed s ≡ true → takes_sign f s ≡ f o → (p : Place) (b after : List MarkedToken) → b ≡ fixed s p ∷ after → NotTaken f b → f o ≡ false
taken_at f o s fix same p b after e h =
    let N : List MarkedToken → Type 0 = λ z. NotTaken f z in
    sym same ∙ (sym (ap (takes_sign f) (sign_of-fixed s p fix)) ∙ subst N e h)

pub not_conjoined : (f : Operator → Bool) (p : Place) (b after : List MarkedToken) → b ≡ fixed signs.And p ∷ after → NotTaken f b → f conjoins ≡ false
not_conjoined f p b after e h = taken_at f conjoins signs.And refl refl p b after e h

pub not_disjoined : (f : Operator → Bool) (p : Place) (b after : List MarkedToken) → b ≡ fixed signs.Or p ∷ after → NotTaken f b → f disjoins ≡ false
not_disjoined f p b after e h = taken_at f disjoins signs.Or refl refl p b after e h

pub not_implied : (f : Operator → Bool) (p : Place) (b after : List MarkedToken) → b ≡ fixed signs.Implies p ∷ after → NotTaken f b → f concludes ≡ false
not_implied f p b after e h = taken_at f concludes signs.Implies refl refl p b after e h

pub not_equivalent : (f : Operator → Bool) (p : Place) (b after : List MarkedToken) → b ≡ fixed signs.Iff p ∷ after → NotTaken f b → f concludes ≡ false
not_equivalent f p b after e h = taken_at f concludes signs.Iff refl refl p b after e h

-- The next token isn't such a sign, and nothing else is taken by more.
lacks_sign : (s : Sign) → is_fixed s ≡ true → (t : MarkedToken) (rest : List MarkedToken) → ((p : Place) → Agrees (t ∷ rest) (fixed s p ∷ []) → ⊥) → sign_of t ≡ s → ⊥
lacks_sign s fix t rest h e = h t.token.place (sym (told_fixed s t fix e))

pub ended : (s : Sign) → is_fixed s ≡ true → (f g : Operator → Bool) → ((x : Sign) → (x ≡ s → ⊥) → takes_sign g x ≡ true → takes_sign f x ≡ true) → (b after : List MarkedToken) → NotTaken f b → TakesPlace s b None after → NotTaken g after
ended s fix f g weak b after h none = let N : List MarkedToken → Type 0 = λ z. NotTaken g z in subst N none.0 (go b h none.1)
  where
    go : (z : List MarkedToken) → NotTaken f z → ((p : Place) → Agrees z (fixed s p ∷ []) → ⊥) → NotTaken g z
    go [] q n = refl
    go (t ∷ rest) q n = is_false (takes_sign g (sign_of t)) (λ e. both_ways (takes_sign f (sign_of t)) q (weak (sign_of t) (lacks_sign s fix t rest n) e))

-- the same behind tokens that take less
pub quieter : (f g : Operator → Bool) → ((o : Operator) → g o ≡ f o) → (b : List MarkedToken) → NotTaken f b → NotTaken g b
quieter f g same [] h = refl
quieter f g same (t ∷ rest) h = at (sign_of t) ∙ h
  where
    at : (s : Sign) → takes_sign g s ≡ takes_sign f s
    at signs.And = same conjoins
    at signs.Or = same disjoins
    at signs.Implies = same concludes
    at signs.Iff = same concludes
    at _ = refl

-- neither `implies` nor `iff` comes next
pub plain_ended : (d : DisjunctionData) (b c after : List MarkedToken) → NotTaken (disjunction_takes d) b → TakesPlace signs.Implies b None c → TakesPlace signs.Iff c None after → NotTaken (formula_takes (PlainFormula d)) after
plain_ended d b c after h m n =
    let N : List MarkedToken → Type 0 = λ z. NotTaken (formula_takes (PlainFormula d)) z in
    let A : List MarkedToken → Type 0 = λ z. (p : Place) → Agrees z (fixed signs.Iff p ∷ []) → ⊥ in
    subst N (m.0 ∙ n.0) (go b h m.1 (subst A (sym m.0) n.1))
  where
    at : (s : Sign) → (s ≡ signs.Implies → ⊥) → (s ≡ signs.Iff → ⊥) → takes_sign (disjunction_takes d) s ≡ false → takes_sign (formula_takes (PlainFormula d)) s ≡ false
    at signs.And i j e = e
    at signs.Or i j e = e
    at signs.Implies i j e = absurd (i refl)
    at signs.Iff i j e = absurd (j refl)
    at _ i j e = refl

    go : (z : List MarkedToken) → NotTaken (disjunction_takes d) z → ((p : Place) → Agrees z (fixed signs.Implies p ∷ []) → ⊥) → ((p : Place) → Agrees z (fixed signs.Iff p ∷ []) → ⊥) → NotTaken (formula_takes (PlainFormula d)) z
    go [] q i j = refl
    go (t ∷ rest) q i j = at (sign_of t) (lacks_sign signs.Implies refl t rest i) (lacks_sign signs.Iff refl t rest j) q

-- what takes nothing
pub takes_none : (f : Operator → Bool) → ((o : Operator) → f o ≡ false) → (b : List MarkedToken) → NotTaken f b
takes_none f h [] = refl
takes_none f h (t ∷ rest) = at (sign_of t)
  where
    at : (s : Sign) → takes_sign f s ≡ false
    at signs.And = h conjoins
    at signs.Or = h disjoins
    at signs.Implies = h concludes
    at signs.Iff = h concludes
    at _ = refl

-- what a unit begins with that isn't terms, and the parenthesis
abbrev pub opens_other : Sign → Bool
opens_other signs.Not = true
opens_other signs.For = true
opens_other signs.Ex = true
opens_other signs.Contradiction = true
opens_other signs.Thesis = true
opens_other signs.Open = true
opens_other signs.Predicate = true
opens_other _ = false

pub no_other : (s : Sign) → (s ≡ signs.Not → ⊥) → (s ≡ signs.For → ⊥) → (s ≡ signs.Ex → ⊥) → (s ≡ signs.Contradiction → ⊥) → (s ≡ signs.Thesis → ⊥) → (s ≡ signs.Open → ⊥) → (s ≡ signs.Predicate → ⊥) → opens_other s ≡ false
no_other signs.Not a b c d e f g = absurd (a refl)
no_other signs.For a b c d e f g = absurd (b refl)
no_other signs.Ex a b c d e f g = absurd (c refl)
no_other signs.Contradiction a b c d e f g = absurd (d refl)
no_other signs.Thesis a b c d e f g = absurd (e refl)
no_other signs.Open a b c d e f g = absurd (f refl)
no_other signs.Predicate a b c d e f g = absurd (g refl)
no_other _ a b c d e f g = refl
