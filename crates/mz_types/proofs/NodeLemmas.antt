-- Counting nodes up to a limit.
use Rattle.std.proofs.Common.{◌≡◌, ◌≤◌, ◌<◌, ◌+◌, ◌-◌, ℕ, zero, suc, List, [], ◌∷◌, refl, sym, ap, ◌∙◌, subst, Bool, true, false, arith, length, Option, Some, None, drop, get_or}
use Rattle.std.specs.Prelude.{nat_le, if◌then◌else◌, IsTrue, ◌↔◌}
use Rattle.std.proofs.Math.Seq.{drop-cons}
use Rattle.std.proofs.lemmas.List.{drop_all}
use Rattle.std.proofs.lemmas.Bool.{leb-true, leb-false}
use Rattle.mz_logic.specs.declared.sym.Sym.{Sym}
use Rattle.mz_logic.specs.Term.{Term, Terms, Bound, Const, App, terms_of}
use Rattle.mz_core.specs.declared.radix.Radix.{Radix}
use Rattle.mz_ground.specs.Instance.{term_nodes, args_nodes}
use Rattle.mz_fits.proofs.OneMatch.{some-inj, none_some}
use Rattle.mz_types.specs.Chain.{left_of, most_nodes, radix_nodes}

left_of-enough : (n left : ℕ) → n ≤ left → left_of n left ≡ Some (left - n)
left_of-enough n left le = tested (nat_le n left) refl
  where
    tested : (b : Bool) → nat_le n left ≡ b → left_of n left ≡ Some (left - n)
    tested true e = ap (λ (c : Bool). if c then Some (left - n) else None) e
    tested false e = let lt : left < n = leb-false n left e in absurd (omega (arith, le, lt))

left_of-more : (n left : ℕ) → left < n → left_of n left ≡ None
left_of-more n left lt = tested (nat_le n left) refl
  where
    tested : (b : Bool) → nat_le n left ≡ b → left_of n left ≡ None
    tested true e = let le : n ≤ left = leb-true n left e in absurd (omega (arith, le, lt))
    tested false e = ap (λ (c : Bool). if c then Some (left - n) else None) e

-- the two cases
compared : {A : Type 0} (n left : ℕ) → (n ≤ left → A) → (left < n → A) → A
compared {A} n left f g = tested (nat_le n left) refl
  where
    tested : (b : Bool) → nat_le n left ≡ b → A
    tested true e = f (leb-true n left e)
    tested false e = g (leb-false n left e)

positive : (t : Term) → 0 < term_nodes t
positive (Bound i) = omega arith
positive (Const n) = omega arith
positive (App s ts) = omega arith

pub told_nothing : (t : Term) (left : ℕ) → left ≡ 0 → None ≡ left_of (term_nodes t) left
told_nothing t left e = let p : 0 < term_nodes t = positive t in sym (left_of-more (term_nodes t) left (omega (arith, e, p)))

pub told_leaf : (left : ℕ) → 0 < left → Some (left - 1) ≡ left_of 1 left
told_leaf left lt = sym (left_of-enough 1 left (omega (arith, lt)))

left_of-step : (n left : ℕ) → 0 < left → left_of n (left - 1) ≡ left_of (suc n) left
left_of-step n left lt =
    compared n (left - 1)
    (λ le. let d : left - 1 - n ≡ left - suc n = omega (arith, le, lt) in left_of-enough n (left - 1) le ∙ ap Some d ∙ sym (left_of-enough (suc n) left (omega (arith, le, lt))))
    (λ gt. left_of-more n (left - 1) gt ∙ sym (left_of-more (suc n) left (omega (arith, gt, lt))))

pub told_application : (s : Sym) (ts : Terms) (left : ℕ) (o : Option ℕ) → 0 < left → o ≡ left_of (args_nodes ts) (left - 1) → o ≡ left_of (term_nodes (App s ts)) left
told_application s ts left o lt h = h ∙ left_of-step (args_nodes ts) left lt

pub ruleset node_rules = (told_nothing, told_leaf, told_application)

left_of-sum_some : (m n left less : ℕ) → left_of m left ≡ Some less → left_of (m + n) left ≡ left_of n less
left_of-sum_some m n left less h =
    compared m left
    (λ le. let d : left - m ≡ less = some-inj (left - m) less (sym (left_of-enough m left le) ∙ h) in
    compared n less
    (λ k. let x : left - (m + n) ≡ less - n = omega (arith, d) in left_of-enough (m + n) left (omega (arith, d, k, le)) ∙ ap Some x ∙ sym (left_of-enough n less k))
    (λ k. left_of-more (m + n) left (omega (arith, d, k, le)) ∙ sym (left_of-more n less k)))
    (λ gt. absurd (none_some less (sym (left_of-more m left gt) ∙ h)))

left_of-sum_none : (m n left : ℕ) → left_of m left ≡ None → left_of (m + n) left ≡ None
left_of-sum_none m n left h =
    compared m left
    (λ le. absurd (none_some (left - m) (sym h ∙ left_of-enough m left le)))
    (λ gt. left_of-more (m + n) left (omega (arith, gt)))

drop-next_left : (ts : List Term) (i : ℕ) (t : Term) → i < length ts → t ≡ get_or ts i t → drop i ts ≡ t ∷ drop (i + 1) ts
drop-next_left ts i t lt at =
    let e : suc i ≡ (i + 1) = omega arith in
    drop-cons ts i t lt ∙ (λ j. sym at j ∷ drop (e j) ts)

pub left_of-told_turn : (ts : List Term) (i : ℕ) (t : Term) (start now less : ℕ) (o : Option ℕ) → i < length ts → t ≡ get_or ts i t → left_of (args_nodes (terms_of ts)) start ≡ left_of (args_nodes (terms_of (drop i ts))) now → o ≡ left_of (term_nodes t) now → o ≡ Some less → left_of (args_nodes (terms_of ts)) start ≡ left_of (args_nodes (terms_of (drop (i + 1) ts))) less
left_of-told_turn ts i t start now less o lt at so h e =
    so ∙ ap (λ us. left_of (args_nodes (terms_of us)) now) (drop-next_left ts i t lt at) ∙ left_of-sum_some (term_nodes t) (args_nodes (terms_of (drop (i + 1) ts))) now less (sym h ∙ e)

pub told_stop : (ts : List Term) (i : ℕ) (t : Term) (start now : ℕ) (o : Option ℕ) → i < length ts → t ≡ get_or ts i t → left_of (args_nodes (terms_of ts)) start ≡ left_of (args_nodes (terms_of (drop i ts))) now → o ≡ left_of (term_nodes t) now → o ≡ None → None ≡ left_of (args_nodes (terms_of ts)) start
told_stop ts i t start now o lt at so h e =
    sym (so ∙ ap (λ us. left_of (args_nodes (terms_of us)) now) (drop-next_left ts i t lt at) ∙ left_of-sum_none (term_nodes t) (args_nodes (terms_of (drop (i + 1) ts))) now (sym h ∙ e))

pub told_end : (ts : List Term) (i start now : ℕ) → length ts ≤ i → left_of (args_nodes (terms_of ts)) start ≡ left_of (args_nodes (terms_of (drop i ts))) now → Some now ≡ left_of (args_nodes (terms_of ts)) start
told_end ts i start now le so =
    let z : now - 0 ≡ now = omega arith in
    sym (so ∙ ap (λ us. left_of (args_nodes (terms_of us)) now) (drop_all i ts le) ∙ left_of-enough 0 now (omega arith) ∙ ap Some z)

pub ruleset list_rules = (left_of-told_turn, told_stop, told_end)

pub told_small : (r : Radix) (o : Option ℕ) (n : ℕ) → o ≡ left_of (args_nodes (terms_of r.args)) 65535 → o ≡ Some n → IsTrue false ↔ (most_nodes < radix_nodes r)
told_small r o n h e =
    compared (args_nodes (terms_of r.args)) 65535
    (λ le. (λ x. absurd (cc), λ lt. absurd (omega (arith, le, lt))))
    (λ gt. absurd (none_some n (sym (left_of-more (args_nodes (terms_of r.args)) 65535 gt) ∙ sym h ∙ e)))

pub told_large : (r : Radix) (o : Option ℕ) → o ≡ left_of (args_nodes (terms_of r.args)) 65535 → o ≡ None → IsTrue true ↔ (most_nodes < radix_nodes r)
told_large r o h e =
    compared (args_nodes (terms_of r.args)) 65535
    (λ le. absurd (none_some (65535 - args_nodes (terms_of r.args)) (sym e ∙ h ∙ left_of-enough (args_nodes (terms_of r.args)) 65535 le)))
    (λ gt. (λ x. omega (arith, gt), λ lt. refl))

pub ruleset large_rules = (told_small, told_large)
