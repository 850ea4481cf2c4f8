-- What the code of the order tells.
use Rattle.std.proofs.Common.{◌≡◌, ◌∙◌, ◌<◌, ◌+◌, ◌-◌, ℕ, zero, suc, Bool, true, false, List, [], ◌∷◌, ◌++◌, length, refl, sym as inverse, ap, subst, arith, Option, Some, None}
use Rattle.std.specs.Prelude.{◌&&◌, not, if◌then◌else◌}
use Rattle.mz_core.specs.declared.soft_type.SoftType.{SoftType}
use Rattle.mz_context.specs.Gather.{occurs_in_type}
use Rattle.mz_fields.specs.Order.{is_taken, is_free_of, is_ready, first_ready, order_from, with_next, field_order}

-- fields, from the last one on: what is told of those before is told of all
pub told_ready_turn : (y left less : ℕ) (taken : List ℕ) (ty : SoftType) (b all : Bool) → 0 < left → less ≡ left - 1 → b ≡ is_free_of y taken ty less → b ≡ true → is_ready y left taken ty ≡ all → is_ready y less taken ty ≡ all
told_ready_turn y zero less taken ty b all lt el eb et h = absurd (omega (arith, lt))
told_ready_turn y (suc n) less taken ty b all lt el eb et h =
    let is : less ≡ n = omega (arith, el) in
    let one : is_free_of y taken ty n ≡ true = ap (is_free_of y taken ty) (inverse is) ∙ (inverse eb ∙ et) in
    ap (λ k. is_ready y k taken ty) is ∙ (inverse (ap (λ (x : Bool). x && is_ready y n taken ty) one) ∙ h)

pub told_not_ready : (y left less : ℕ) (taken : List ℕ) (ty : SoftType) (b all : Bool) → 0 < left → less ≡ left - 1 → b ≡ is_free_of y taken ty less → b ≡ false → is_ready y left taken ty ≡ all → false ≡ all
told_not_ready y zero less taken ty b all lt el eb et h = absurd (omega (arith, lt))
told_not_ready y (suc n) less taken ty b all lt el eb et h =
    let is : less ≡ n = omega (arith, el) in
    let one : is_free_of y taken ty n ≡ false = ap (is_free_of y taken ty) (inverse is) ∙ (inverse eb ∙ et) in
    inverse (ap (λ (x : Bool). x && is_ready y n taken ty) one) ∙ h

pub told_ready : (y left : ℕ) (taken : List ℕ) (ty : SoftType) (all : Bool) → left ≡ 0 → is_ready y left taken ty ≡ all → not (occurs_in_type y ty) ≡ all
told_ready y left taken ty all el h = inverse (ap (λ k. is_ready y k taken ty) el) ∙ h

pub ruleset ready_rules = (told_ready_turn, told_not_ready, told_ready)

-- types from a place on
empty_first : (y count : ℕ) (taken : List ℕ) (place : ℕ) (rest : List SoftType) → length rest ≡ 0 → first_ready y count taken place rest ≡ None
empty_first y count taken place [] e = refl
empty_first y count taken place (ty ∷ tys) e = let no : ⊥ = cc in absurd no

pub told_none_ready : (y count : ℕ) (taken : List ℕ) (place : ℕ) (rest : List SoftType) (all : Option ℕ) → length rest ≡ 0 → first_ready y count taken place rest ≡ all → None ≡ all
told_none_ready y count taken place rest all e h = inverse (empty_first y count taken place rest e) ∙ h

pub told_first : (y count : ℕ) (taken : List ℕ) (place : ℕ) (rest others : List SoftType) (ty : SoftType) (b : Bool) (all : Option ℕ) → rest ≡ ty ∷ others → b ≡ (not (is_taken taken place) && is_ready y count taken ty) → b ≡ true → first_ready y count taken place rest ≡ all → Some place ≡ all
told_first y count taken place rest others ty b all er eb et h =
    inverse (ap (first_ready y count taken place) er ∙ ap (λ (x : Bool). if x then Some place else first_ready y count taken (suc place) others) (inverse eb ∙ et)) ∙ h

pub told_not_first : (y count : ℕ) (taken : List ℕ) (place next : ℕ) (rest others : List SoftType) (ty : SoftType) (b : Bool) (all : Option ℕ) → rest ≡ ty ∷ others → b ≡ (not (is_taken taken place) && is_ready y count taken ty) → b ≡ false → next ≡ place + 1 → first_ready y count taken place rest ≡ all → first_ready y count taken next others ≡ all
told_not_first y count taken place next rest others ty b all er eb ef en h =
    let is : next ≡ suc place = omega (arith, en) in
    ap (λ k. first_ready y count taken k others) is ∙ (inverse (ap (first_ready y count taken place) er ∙ ap (λ (x : Bool). if x then Some place else first_ready y count taken (suc place) others) (inverse eb ∙ ef)) ∙ h)

pub ruleset first_rules = (told_none_ready, told_first, told_not_first)

-- one more, again and again
pub told_order_turn : (y left less count place : ℕ) (tys : List SoftType) (taken more goal : List ℕ) (o : Option ℕ) → 0 < left → less ≡ left - 1 → count ≡ length tys → o ≡ first_ready y count taken 0 tys → o ≡ Some place → more ≡ taken ++ place ∷ [] → order_from left y tys taken ≡ goal → order_from less y tys more ≡ goal
told_order_turn y zero less count place tys taken more goal o lt el ec eo es em h = absurd (omega (arith, lt))
told_order_turn y (suc n) less count place tys taken more goal o lt el ec eo es em h =
    let is : less ≡ n = omega (arith, el) in
    let found : first_ready y (length tys) taken 0 tys ≡ Some place = ap (λ c. first_ready y c taken 0 tys) (inverse ec) ∙ (inverse eo ∙ es) in
    ap (λ k. order_from k y tys more) is ∙ (ap (order_from n y tys) em ∙ (inverse (ap (with_next (order_from n y tys) taken) found) ∙ h))

pub told_order_stop : (y left count : ℕ) (tys : List SoftType) (taken goal : List ℕ) (o : Option ℕ) → 0 < left → count ≡ length tys → o ≡ first_ready y count taken 0 tys → o ≡ None → order_from left y tys taken ≡ goal → taken ≡ goal
told_order_stop y zero count tys taken goal o lt ec eo es h = absurd (omega (arith, lt))
told_order_stop y (suc n) count tys taken goal o lt ec eo es h =
    let found : first_ready y (length tys) taken 0 tys ≡ None = ap (λ c. first_ready y c taken 0 tys) (inverse ec) ∙ (inverse eo ∙ es) in
    inverse (ap (with_next (order_from n y tys) taken) found) ∙ h

pub told_order_end : (y left : ℕ) (tys : List SoftType) (taken goal : List ℕ) → left ≡ 0 → order_from left y tys taken ≡ goal → taken ≡ goal
told_order_end y left tys taken goal el h = inverse (ap (λ k. order_from k y tys taken) el) ∙ h

pub ruleset order_rules = (told_order_turn, told_order_stop, told_order_end)
