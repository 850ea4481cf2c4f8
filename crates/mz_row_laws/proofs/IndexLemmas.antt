-- Triggers that have all loci.
use Rattle.std.proofs.Common.{◌≡◌, ◌<◌, inl, inr, ℕ, zero, suc, ◌+◌, List, [], ◌∷◌, ◌++◌, map, reverse, refl, ap, ◌∙◌, subst, arith, Bool, true, false}
use Rattle.std.specs.Prelude.{◌||◌, nat_eq}
use Rattle.std.specs.List.{list_any}
use Rattle.std.proofs.lemmas.Bool.{cases_lt, and_parts, and_from, or_left, or_right, eq-eqb, eqb-true, false≢true}
use mathlib.Core.List.{reverse-cons}
use Rattle.mz_logic.specs.declared.sym.Sym.{Sym}
use Rattle.mz_logic.specs.Term as term
use Rattle.mz_logic.specs.Term.{Bound, Const, App, Terms, none, more, terms_of}
use Rattle.mz_logic.specs.Substitution.{shift, shift_args}
use Rattle.mz_logic.proofs.ShiftLaws.{shift-Bound}
use Rattle.mz_ground.specs.declared.trigger.Trigger.{Trigger}
use Rattle.mz_ground.specs.declared.trigger.Trigger.TheVariants.{Term, Atom}
use Rattle.mz_ground.specs.Variables.{has_index, args_have_index, trigger_has, has_all_below}
use Rattle.mz_ground.proofs.VariableLemmas.{args_have_index-terms_of}
use Rattle.mz_items.specs.Loci.{inward, variables}

-- tests of some element
or_map : (a b c d : Bool) → (a ≡ true → c ≡ true) → (b ≡ true → d ≡ true) → (a || b) ≡ true → (c || d) ≡ true
or_map true b c d f g h = or_left c d (f refl)
or_map false b c d f g h = or_right c d (g h)

any_left : {X : Type 0} (p : X → Bool) (xs ys : List X) → list_any p xs ≡ true → list_any p (xs ++ ys) ≡ true
any_left p [] ys h = absurd (false≢true h)
any_left p (x ∷ xs) ys h = or_map (p x) (list_any p xs) (p x) (list_any p (xs ++ ys)) (λ e. e) (any_left p xs ys) h

any_right : {X : Type 0} (p : X → Bool) (xs ys : List X) → list_any p ys ≡ true → list_any p (xs ++ ys) ≡ true
any_right p [] ys h = h
any_right p (x ∷ xs) ys h = or_right (p x) (list_any p (xs ++ ys)) (any_right p xs ys h)

any_last : {X : Type 0} (p : X → Bool) (xs : List X) (x : X) (b : Bool) → p x ≡ b → (b || list_any p xs) ≡ true → (list_any p xs ≡ true → list_any p (reverse xs) ≡ true) → list_any p (reverse xs ++ x ∷ []) ≡ true
any_last p xs x true e h back = any_right p (reverse xs) (x ∷ []) (or_left (p x) false e)
any_last p xs x false e h back = any_left p (reverse xs) (x ∷ []) (back h)

any_reverse : {X : Type 0} (p : X → Bool) (xs : List X) → list_any p xs ≡ true → list_any p (reverse xs) ≡ true
any_reverse p [] h = h
any_reverse p (x ∷ xs) h = ap (list_any p) (reverse-cons x xs) ∙ any_last p xs x (p x) refl h (any_reverse p xs)

-- triggers
has_all : (n : ℕ) (r : Trigger) → ((k : ℕ) → k < n → trigger_has k r ≡ true) → has_all_below n r ≡ true
has_all zero r h = refl
has_all (suc n) r h = and_from _ _ (h n (omega arith)) (has_all n r (λ k lt. h k (omega arith)))

has_each : (n k : ℕ) (r : Trigger) → k < n → has_all_below n r ≡ true → trigger_has k r ≡ true
has_each zero k r lt h = absurd (omega arith)
has_each (suc n) k r lt h =
    let both : (trigger_has n r ≡ true) × (has_all_below n r ≡ true) = and_parts (trigger_has n r) (has_all_below n r) h in
    elim (cases_lt k n) [
      | inl l ↦ has_each n k r l both.1
      | inr l ↦ let e : n ≡ k = omega arith in subst (λ (j : ℕ). trigger_has j r ≡ true) e both.0
    ]

-- the loci
inward_has : (k count : ℕ) → k < count → list_any (has_index k) (inward 0 count) ≡ true
inward_has k zero lt = absurd (omega arith)
inward_has k (suc count) lt = elim (cases_lt k count) [
  | inl l ↦ any_left (has_index k) (inward 0 count) (Bound (0 + count) ∷ []) (inward_has k count l)
  | inr l ↦ let e : 0 + count ≡ k = omega arith in any_right (has_index k) (inward 0 count) (Bound (0 + count) ∷ []) (or_left (nat_eq (0 + count) k) false (eq-eqb (0 + count) k e))
]

variables_have : (k n : ℕ) → k < n → list_any (has_index k) (variables 0 n) ≡ true
variables_have k n lt = any_reverse (has_index k) (inward 0 n) (inward_has k n lt)

pub term_full : (n : ℕ) (s : Sym) → has_all_below n (Term (App s (terms_of (variables 0 n)))) ≡ true
term_full n s = has_all n (Term (App s (terms_of (variables 0 n)))) (λ k lt. args_have_index-terms_of k (variables 0 n) ∙ variables_have k n lt)

pub atom_full : (n : ℕ) (s : Sym) → has_all_below n (Atom s (variables 0 n)) ≡ true
atom_full n s = has_all n (Atom s (variables 0 n)) (λ k lt. variables_have k n lt)

-- under one more variable
mutual
  shifted_has : (k : ℕ) (t : term.Term) → has_index k t ≡ true → has_index (k + 1) (shift 0 1 t) ≡ true
  shifted_has k (Bound index) h =
      let e : index ≡ k = eqb-true index k h in
      let f : index + 1 ≡ k + 1 = omega (arith, e) in
      ap (has_index (k + 1)) (shift-Bound 1 index) ∙ eq-eqb (index + 1) (k + 1) f
  shifted_has k (Const number) h = h
  shifted_has k (App s ts) h = shifted_args k ts h

  shifted_args : (k : ℕ) (ts : Terms) → args_have_index k ts ≡ true → args_have_index (k + 1) (shift_args 0 1 ts) ≡ true
  shifted_args k none h = h
  shifted_args k (more t ts) h = or_map (has_index k t) (args_have_index k ts) (has_index (k + 1) (shift 0 1 t)) (args_have_index (k + 1) (shift_args 0 1 ts)) (shifted_has k t) (shifted_args k ts) h

shifted_list : (k : ℕ) (ts : List term.Term) → list_any (has_index k) ts ≡ true → list_any (has_index (k + 1)) (map (shift 0 1) ts) ≡ true
shifted_list k [] h = h
shifted_list k (t ∷ ts) h = or_map (has_index k t) (list_any (has_index k) ts) (has_index (k + 1) (shift 0 1 t)) (list_any (has_index (k + 1)) (map (shift 0 1) ts)) (shifted_has k t) (shifted_list k ts) h

subject_has : (n k : ℕ) (s : Sym) (ts : List term.Term) → k < n + 1 → has_all_below n (Atom s ts) ≡ true → list_any (has_index k) (map (shift 0 1) ts ++ Bound 0 ∷ []) ≡ true
subject_has n zero s ts lt h = any_right (has_index 0) (map (shift 0 1) ts) (Bound 0 ∷ []) refl
subject_has n (suc k) s ts lt h =
    let less : k < n = omega arith in
    let e : k + 1 ≡ suc k = omega arith in
    subst (λ (j : ℕ). list_any (has_index j) (map (shift 0 1) ts ++ Bound 0 ∷ []) ≡ true) e
    (any_left (has_index (k + 1)) (map (shift 0 1) ts) (Bound 0 ∷ []) (shifted_list k ts (has_each n k (Atom s ts) less h)))

pub subject_full : (n : ℕ) (s : Sym) (ts : List term.Term) → has_all_below n (Atom s ts) ≡ true → has_all_below (n + 1) (Atom s (map (shift 0 1) ts ++ Bound 0 ∷ [])) ≡ true
subject_full n s ts h = has_all (n + 1) (Atom s (map (shift 0 1) ts ++ Bound 0 ∷ [])) (λ k lt. subject_has n k s ts lt h)
