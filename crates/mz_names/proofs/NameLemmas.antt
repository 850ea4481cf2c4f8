-- The latest constant with a name.
use Rattle.std.proofs.Common.{◌≡◌, ◌≤◌, ◌<◌, ◌-◌, ℕ, zero, suc, Bool, true, false, List, [], ◌∷◌, refl, sym, ap, ◌∙◌, arith, length, Option, Some, None, get_or, if◌then◌else◌, slice_get}
use Rattle.mz_context.specs.Context.{in_force, numbered}
use Rattle.mz_context.specs.declared.constants.Constant.{Constant}
use Rattle.mz_context.specs.declared.context.Context.{Context}
use Rattle.mz_logic.specs.Term.{Term}
use Rattle.mz_names.specs.Names.{has_name, latest_up_to, number_of, argument}

numbered-at : (ks : List (Option Constant)) (m : ℕ) (o : Option Constant) → m < length ks → o ≡ get_or ks m o → numbered ks (suc m) ≡ o
numbered-at [] m o lt e = absurd (omega (arith, lt))
numbered-at (k ∷ ks) zero o lt e = sym e
numbered-at (k ∷ ks) (suc m) o lt e = numbered-at ks m o (omega (arith, lt)) e

pub told_found : (name : List ℕ) (ks : List (Option Constant)) (n m : ℕ) (o : Option Constant) (b : Bool) → m ≡ n - 1 → 0 < n → n ≤ length ks → o ≡ get_or ks m o → b ≡ has_name name o → b ≡ true → latest_up_to name ks n ≡ number_of name ks → Some n ≡ number_of name ks
told_found name ks zero m o b em lt le e eb bt h = absurd (omega (arith, lt))
told_found name ks (suc n) m o b em lt le e eb bt h =
    let same : m ≡ n = omega (arith, em) in
    let there : numbered ks (suc n) ≡ o = numbered-at ks n o (omega (arith, le)) (e ∙ ap (λ i. get_or ks i o) same) in
    sym (ap (λ c. if c then Some (suc n) else latest_up_to name ks n) (ap (has_name name) there ∙ sym eb ∙ bt)) ∙ h

pub latest_up_to-told_other : (name : List ℕ) (ks : List (Option Constant)) (n m : ℕ) (o : Option Constant) (b : Bool) → m ≡ n - 1 → 0 < n → n ≤ length ks → o ≡ get_or ks m o → b ≡ has_name name o → b ≡ false → latest_up_to name ks n ≡ number_of name ks → latest_up_to name ks m ≡ number_of name ks
latest_up_to-told_other name ks zero m o b em lt le e eb bt h = absurd (omega (arith, lt))
latest_up_to-told_other name ks (suc n) m o b em lt le e eb bt h =
    let same : m ≡ n = omega (arith, em) in
    let there : numbered ks (suc n) ≡ o = numbered-at ks n o (omega (arith, le)) (e ∙ ap (λ i. get_or ks i o) same) in
    ap (latest_up_to name ks) same ∙ sym (ap (λ c. if c then Some (suc n) else latest_up_to name ks n) (ap (has_name name) there ∙ sym eb ∙ bt)) ∙ h

pub told_none : (name : List ℕ) (ks : List (Option Constant)) (n : ℕ) → n ≡ 0 → latest_up_to name ks n ≡ number_of name ks → None ≡ number_of name ks
told_none name ks n e h = sym (ap (latest_up_to name ks) e) ∙ h

pub ruleset number_rules = (told_found, latest_up_to-told_other, told_none)

-- the arguments from 1 on
pub told_argument : (c : Context) (k m : ℕ) → (k ≡ 0 → ⊥) → m ≡ k - 1 → slice_get c.arguments m ≡ argument c k
told_argument c zero m h e = absurd (h refl)
told_argument c (suc k) m h e = ap (slice_get c.arguments) (omega (arith, e))

pub ruleset argument_rules = (told_argument)
