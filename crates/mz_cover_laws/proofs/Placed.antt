-- Terms in place of constants.
use Rattle.std.proofs.Common.{◌≡◌, ◌≤◌, ◌<◌, ◌+◌, ℕ, zero, suc, Bool, true, false, List, [], ◌∷◌, ◌++◌, map, length, reverse, append-nil, refl, sym, ap, ◌∙◌, arith, add-one}
use Rattle.std.specs.Prelude.{◌&&◌, nat_eq, if◌then◌else◌}
use Rattle.std.specs.List.{list_all}
use Rattle.std.proofs.lemmas.Bool.{false≢true, ltb-true, eq-eqb, ne_eqb, and_parts}
use Rattle.mz_logic.specs.Term.{Term, Terms, Bound, Const, App, none, more}
use Rattle.mz_logic.specs.ConstantTerm.{term_with, args_with}
use Rattle.mz_logic.specs.Substitution.{substitute, substitute_args, value_at}
use Rattle.mz_logic.specs.Abstraction.{term_over, args_over}
use Rattle.mz_logic.proofs.ShiftLaws.{shift-Bound}
use Rattle.mz_logic.proofs.ValueLaws.{substitute-value_at, substitute-no_values}
use Rattle.mz_core.specs.Closed.{term_under, args_under}
use Rattle.mz_core.specs.InForce.{term_in_force, args_in_force}
use Rattle.mz_chain_laws.proofs.Fired.{append-one_value_more}
use Rattle.mz_choice.specs.Cover.{over_constants}

-- lists
pub map_same : {X : Type 0} (f : X → X) (p : X → Bool) (xs : List X) → ((x : X) → p x ≡ true → f x ≡ x) → list_all p xs ≡ true → map f xs ≡ xs
map_same f p [] same h = refl
map_same f p (x ∷ xs) same h =
    let both : (p x ≡ true) × (list_all p xs ≡ true) = and_parts (p x) (list_all p xs) h in
    λ i. same x both.0 i ∷ map_same f p xs same both.1 i

pub map_as : {X : Type 0} (f h k : X → X) (p : X → Bool) (xs : List X) → ((x : X) → p x ≡ true → f (h x) ≡ k x) → list_all p xs ≡ true → map f (map h xs) ≡ map k xs
map_as f h k p [] same a = refl
map_as f h k p (x ∷ xs) same a =
    let both : (p x ≡ true) × (list_all p xs ≡ true) = and_parts (p x) (list_all p xs) a in
    λ i. same x both.0 i ∷ map_as f h k p xs same both.1 i

pub map_any : {X : Type 0} (f g : X → X) (xs : List X) → ((x : X) → f x ≡ g x) → map f xs ≡ map g xs
map_any f g [] same = refl
map_any f g (x ∷ xs) same = λ i. same x i ∷ map_any f g xs same i

pub map_two : {X : Type 0} (f h k l : X → X) (p : X → Bool) (xs : List X) → ((x : X) → p x ≡ true → f (h x) ≡ k (l x)) → list_all p xs ≡ true → map f (map h xs) ≡ map k (map l xs)
map_two f h k l p [] same a = refl
map_two f h k l p (x ∷ xs) same a =
    let both : (p x ≡ true) × (list_all p xs ≡ true) = and_parts (p x) (list_all p xs) a in
    λ i. same x both.0 i ∷ map_two f h k l p xs same both.1 i

pub all_true : {X : Type 0} (xs : List X) → list_all (λ x. true) xs ≡ true
all_true [] = refl
all_true (x ∷ xs) = all_true xs

chosen_last : {X : Type 0} (b : Bool) (x y : X) → b ≡ false → (if b then x else y) ≡ y
chosen_last true x y h = absurd (false≢true (sym h))
chosen_last false x y h = refl

chosen_first : {X : Type 0} (b : Bool) (x y : X) → b ≡ true → (if b then x else y) ≡ x
chosen_first true x y h = refl
chosen_first false x y h = absurd (false≢true h)

-- a term for another constant, and for the constant
pub with-other : (c m : ℕ) (t : Term) → c < m → term_with c t (Const m) ≡ Const m
with-other c m t lt = chosen_last (nat_eq m c) t (Const m) (ne_eqb m c (λ e. omega arith))

pub with-itself : (c : ℕ) (t : Term) → term_with c t (Const c) ≡ t
with-itself c t = chosen_first (nat_eq c c) t (Const c) (eq-eqb c c refl)

-- a constant that isn't in force
mutual
  pub with-in_force : (n c : ℕ) (t u : Term) → n ≤ c → term_in_force n u ≡ true → term_with c t u ≡ u
  with-in_force n c t (Bound index) le h = refl
  with-in_force n c t (Const m) le h =
      let lt : m < n = ltb-true m n h in
      chosen_last (nat_eq m c) t (Const m) (ne_eqb m c (λ e. omega arith))
  with-in_force n c t (App s us) le h = ap (App s) (args_with-in_force n c t us le h)

  args_with-in_force : (n c : ℕ) (t : Term) (us : Terms) → n ≤ c → args_in_force n us ≡ true → args_with c t us ≡ us
  args_with-in_force n c t none le h = refl
  args_with-in_force n c t (more u us) le h =
      let both : (term_in_force n u ≡ true) × (args_in_force n us ≡ true) = and_parts (term_in_force n u) (args_in_force n us) h in
      λ i. more (with-in_force n c t u le both.0 i) (args_with-in_force n c t us le both.1 i)

pub all_with-in_force : (n c : ℕ) (t : Term) (us : List Term) → n ≤ c → list_all (term_in_force n) us ≡ true → map (term_with c t) us ≡ us
all_with-in_force n c t us le h = map_same (term_with c t) (term_in_force n) us (λ u k. with-in_force n c t u le k) h

-- a term under values, whose only constants stand in these
value_with : (c : ℕ) (t : Term) (bs : List Term) (i : ℕ) → i < length bs → term_with c t (value_at bs i) ≡ value_at (map (term_with c t) bs) i
value_with c t [] i lt = absurd (omega arith)
value_with c t (b ∷ bs) zero lt = refl
value_with c t (b ∷ bs) (suc i) lt = value_with c t bs i (omega arith)

mutual
  pub with-values : (c : ℕ) (t : Term) (bs : List Term) (u : Term) → term_under (length bs) u ≡ true → term_with c t (substitute 0 (value_at bs) u) ≡ substitute 0 (value_at (map (term_with c t) bs)) u
  with-values c t bs (Bound i) h =
      ap (term_with c t) (substitute-value_at bs i) ∙ value_with c t bs i (ltb-true i (length bs) h) ∙ sym (substitute-value_at (map (term_with c t) bs) i)
  with-values c t bs (Const m) h = absurd (false≢true h)
  with-values c t bs (App s us) h = ap (App s) (args_with-values c t bs us h)

  args_with-values : (c : ℕ) (t : Term) (bs : List Term) (us : Terms) → args_under (length bs) us ≡ true → args_with c t (substitute_args 0 (value_at bs) us) ≡ substitute_args 0 (value_at (map (term_with c t) bs)) us
  args_with-values c t bs none h = refl
  args_with-values c t bs (more u us) h =
      let both : (term_under (length bs) u ≡ true) × (args_under (length bs) us ≡ true) = and_parts (term_under (length bs) u) (args_under (length bs) us) h in
      λ i. more (with-values c t bs u both.0 i) (args_with-values c t bs us both.1 i)

-- the constant made an index, which has the term for its value
value_kept : (n c : ℕ) (t : Term) (bs : List Term) (i : ℕ) → n ≤ c → list_all (term_in_force n) bs ≡ true → term_with c t (value_at bs i) ≡ value_at bs i
value_kept n c t [] i le h = refl
value_kept n c t (b ∷ bs) zero le h = with-in_force n c t b le (and_parts (term_in_force n b) (list_all (term_in_force n) bs) h).0
value_kept n c t (b ∷ bs) (suc i) le h = value_kept n c t bs i le (and_parts (term_in_force n b) (list_all (term_in_force n) bs) h).1

index_at : (t : Term) (bs : List Term) (m : ℕ) (b : Bool) → substitute 0 (value_at (t ∷ bs)) (if b then Bound 0 else Const m) ≡ (if b then t else Const m)
index_at t bs m true = substitute-value_at (t ∷ bs) 0
index_at t bs m false = refl

mutual
  over-with : (n c : ℕ) (t : Term) (bs : List Term) (u : Term) → n ≤ c → list_all (term_in_force n) bs ≡ true → substitute 0 (value_at (t ∷ bs)) (term_over c 0 u) ≡ term_with c t (substitute 0 (value_at bs) u)
  over-with n c t bs (Bound i) le h =
      ap (substitute 0 (value_at (t ∷ bs))) (shift-Bound 1 i) ∙ substitute-value_at (t ∷ bs) (i + 1) ∙ ap (value_at (t ∷ bs)) (add-one i) ∙
      sym (value_kept n c t bs i le h) ∙ sym (ap (term_with c t) (substitute-value_at bs i))
  over-with n c t bs (Const m) le h = index_at t bs m (nat_eq m c)
  over-with n c t bs (App s us) le h = ap (App s) (args_over-with n c t bs us le h)

  args_over-with : (n c : ℕ) (t : Term) (bs : List Term) (us : Terms) → n ≤ c → list_all (term_in_force n) bs ≡ true → substitute_args 0 (value_at (t ∷ bs)) (args_over c 0 us) ≡ args_with c t (substitute_args 0 (value_at bs) us)
  args_over-with n c t bs none le h = refl
  args_over-with n c t bs (more u us) le h = λ i. more (over-with n c t bs u le h i) (args_over-with n c t bs us le h i)

-- terms for the constants from n on, one after another
abbrev pub placed : ℕ → List Term → Term → Term
placed n [] u = u
placed n (t ∷ ts) u = placed (suc n) ts (term_with n t u)

pub map-placed_none : (n : ℕ) (us : List Term) → map (placed n []) us ≡ us
map-placed_none n us = map_same (placed n []) (λ x. true) us (λ u h. refl) (all_true us)

pub map-placed_more : (n : ℕ) (t : Term) (ts us : List Term) → map (placed (suc n) ts) (map (term_with n t) us) ≡ map (placed n (t ∷ ts)) us
map-placed_more n t ts us = map_as (placed (suc n) ts) (term_with n t) (placed n (t ∷ ts)) (λ x. true) us (λ u h. refl) (all_true us)

over_values : (k n : ℕ) (ts bs us : List Term) → k ≤ n → list_all (term_in_force k) ts ≡ true → list_all (term_in_force k) bs ≡ true →
    map (substitute 0 (value_at (reverse ts ++ bs))) (over_constants n (length ts) us) ≡ map (placed n ts) (map (substitute 0 (value_at bs)) us)
over_values k n [] bs us le ht hb = sym (map-placed_none n (map (substitute 0 (value_at bs)) us))
over_values k n (t ∷ ts) bs us le ht hb =
    let both : (term_in_force k t ≡ true) × (list_all (term_in_force k) ts ≡ true) = and_parts (term_in_force k t) (list_all (term_in_force k) ts) ht in
    let more_values : list_all (term_in_force k) (t ∷ bs) ≡ true = ap (λ b. b && list_all (term_in_force k) bs) both.0 ∙ hb in
    ap (λ vs. map (substitute 0 (value_at vs)) (over_constants (suc n) (length ts) (map (term_over n 0) us))) (append-one_value_more t ts bs) ∙
    over_values k (suc n) ts (t ∷ bs) (map (term_over n 0) us) (omega arith) both.1 more_values ∙
    ap (map (placed (suc n) ts)) (map_two (substitute 0 (value_at (t ∷ bs))) (term_over n 0) (term_with n t) (substitute 0 (value_at bs)) (λ x. true) us (λ u h. over-with k n t bs u le hb) (all_true us)) ∙
    map-placed_more n t ts (map (substitute 0 (value_at bs)) us)

-- the constants from n on made loci, at values for these: the values in place of the constants
pub placed_values : (k n : ℕ) (ts us : List Term) → k ≤ n → list_all (term_in_force k) ts ≡ true → map (substitute 0 (value_at (reverse ts))) (over_constants n (length ts) us) ≡ map (placed n ts) us
placed_values k n ts us le h =
    ap (λ vs. map (substitute 0 (value_at vs)) (over_constants n (length ts) us)) (sym (append-nil (reverse ts))) ∙ over_values k n ts [] us le h refl ∙
    ap (map (placed n ts)) (map_same (substitute 0 (value_at [])) (λ x. true) us (λ u t. substitute-no_values 0 u) (all_true us))
