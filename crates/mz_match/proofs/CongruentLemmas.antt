-- Matching of congruent formulas finds exactly the assignments at which they are congruent.
use Rattle.std.proofs.Common.{◌≡◌, ◌<◌, ◌≤◌, ◌+◌, ◌⊎◌, inl, inr, ℕ, suc, List, [], ◌∷◌, length, refl, arith, ap, sym, Bool, true, false, subst}
use Rattle.std.specs.Prelude.{None, Some, not, ◌&&◌, ◌||◌, nat_eq, nat_lt, nat_le, if◌then◌else◌}
use Rattle.std.proofs.lemmas.Bool.Decides.{eqb_tells, leb_tells}
use Rattle.mz_logic.specs.Sym.{same_sym}
use Rattle.mz_logic.specs.Indices.{args_below}
use Rattle.mz_logic.specs.Term as term
use Rattle.mz_logic.specs.Term.{Term, Terms, Bound, Const, App, terms_of}
use Rattle.mz_logic.specs.Formula as form
use Rattle.mz_logic.specs.Formula.{Formula}
use Rattle.mz_match.specs.declared.table.Table.{Table}
use Rattle.mz_match.specs.Table.{rows_of}
use Rattle.mz_match.specs.RowsCongruent.{IsIndex, AreCongruent, AllCongruent, AreCongruentFormulas}
use Rattle.mz_match.specs.Slots.{Assignment}
use Rattle.mz_match.specs.Matches.{match_class, is_index, keep_index, match_index, congruent_term, congruent_args, when, same_sign, congruent_formula}
use Rattle.mz_match.specs.Fitting.{Fits, Covered}
use Rattle.mz_match.proofs.MatchLemmas.{if_found, if_finds, flat_found, flat_finds, class_found, constant_finds, functor_finds}

pub and_cases : (b c : Bool) → (b && c) ≡ true → (b ≡ true) × (c ≡ true)
and_cases true c h = (refl, h)
and_cases false c h = cc

pub and_true : (b c : Bool) → b ≡ true → c ≡ true → (b && c) ≡ true
and_true b c h k = rw (h, k) refl

or_cases : (b c : Bool) → (b || c) ≡ true → (b ≡ true) ⊎ (c ≡ true)
or_cases true c h = inl refl
or_cases false c h = inr h

or_left : (b c : Bool) → b ≡ true → (b || c) ≡ true
or_left b c h = rw h refl

or_right : (b c : Bool) → c ≡ true → (b || c) ≡ true
or_right true c h = refl
or_right false c h = h

is_lt : (n d : ℕ) → nat_lt n d ≡ true → n < d
is_lt n d h = elim (leb_tells (suc n) d) [ inl a ↦ omega (arith, a.1) | inr b ↦ let z = b.0 in cc ]

lt_is : (n d : ℕ) → n < d → nat_lt n d ≡ true
lt_is n d h = elim (leb_tells (suc n) d) [ inl a ↦ a.0 | inr b ↦ absurd (omega (arith, b.1)) ]

is_le : (n d : ℕ) → nat_le n d ≡ true → n ≤ d
is_le n d h = elim (leb_tells n d) [ inl a ↦ omega (arith, a.1) | inr b ↦ let z = b.0 in cc ]

le_is : (n d : ℕ) → n ≤ d → nat_le n d ≡ true
le_is n d h = elim (leb_tells n d) [ inl a ↦ a.0 | inr b ↦ absurd (omega (arith, b.1)) ]

is_eq : (n d : ℕ) → nat_eq n d ≡ true → n ≡ d
is_eq n d h = elim (eqb_tells n d) [ inl a ↦ a.1 | inr b ↦ let z = b.0 in cc ]

eq_is : (n d : ℕ) → n ≡ d → nat_eq n d ≡ true
eq_is n d h = elim (eqb_tells n d) [ inl a ↦ a.0 | inr b ↦ absurd (b.1 h) ]

index_is : (depth i j n : ℕ) → is_index depth i j n ≡ true → ((i < depth) × (i ≡ j)) ⊎ ((depth + n ≤ i) × (i ≡ j + n))
index_is depth i j n h =
    elim (or_cases (nat_lt i depth && nat_eq i j) (nat_le (depth + n) i && nat_eq i (j + n)) h) [
      | inl p ↦ let x = and_cases (nat_lt i depth) (nat_eq i j) p in inl (is_lt i depth x.0, is_eq i j x.1)
      | inr p ↦ let x = and_cases (nat_le (depth + n) i) (nat_eq i (j + n)) p in inr (is_le (depth + n) i x.0, is_eq i (j + n) x.1)
    ]

is_index_at : (depth i j n : ℕ) → ((i < depth) × (i ≡ j)) ⊎ ((depth + n ≤ i) × (i ≡ j + n)) → is_index depth i j n ≡ true
is_index_at depth i j n h =
    elim h [
      | inl p ↦ or_left (nat_lt i depth && nat_eq i j) (nat_le (depth + n) i && nat_eq i (j + n)) (and_true (nat_lt i depth) (nat_eq i j) (lt_is i depth p.0) (eq_is i j p.1))
      | inr p ↦ or_right (nat_lt i depth && nat_eq i j) (nat_le (depth + n) i && nat_eq i (j + n)) (and_true (nat_le (depth + n) i) (nat_eq i (j + n)) (le_is (depth + n) i p.0) (eq_is i (j + n) p.1))
    ]

-- as many slots as variables
pub fit_length : (e : Assignment) (a : List ℕ) → Fits e a → length e ≡ length a
fit_length [] [] f = refl
fit_length [] (v ∷ a) f = absurd f
fit_length (None ∷ e) [] f = absurd f
fit_length (Some w ∷ e) [] f = absurd f
fit_length (None ∷ e) (v ∷ a) f = ap suc (fit_length e a f)
fit_length (Some w ∷ e) (v ∷ a) f = ap suc (fit_length e a f.1)

keep_found : (depth i j : ℕ) (e : Assignment) (a : List ℕ) → Covered (keep_index depth i j e) a → Fits e a × IsIndex depth a (Bound i) j
keep_found depth i j e a h =
    let x = if_found (λ d. Fits d a) (is_index depth i j (length e)) (e ∷ []) h in
    elim x.1 [ inl f ↦ (f, index_is depth i j (length a) (subst (λ (n : ℕ). is_index depth i j n ≡ true) (fit_length e a f) x.0)) | inr b ↦ absurd b ]

keep_finds : (depth i j : ℕ) (e : Assignment) (a : List ℕ) → Fits e a → IsIndex depth a (Bound i) j → Covered (keep_index depth i j e) a
keep_finds depth i j e a f h =
    if_finds (λ d. Fits d a) (is_index depth i j (length e)) (e ∷ []) (subst (λ (n : ℕ). is_index depth i j n ≡ true) (sym (fit_length e a f)) (is_index_at depth i j (length a) h)) (inl f)

index_found : (depth : ℕ) (t : Term) (j : ℕ) (a : List ℕ) (es : List Assignment) → Covered (match_index depth t j es) a → Covered es a × IsIndex depth a t j
index_found depth (Bound i) j a es h =
    let x = flat_found (keep_index depth i j) (IsIndex depth a (Bound i) j) (λ e. Fits e a) a es (λ e c. let y = keep_found depth i j e a c in (y.1, y.0)) h in
    (x.1, x.0)
index_found depth (Const n) j a es h = absurd h
index_found depth (App s ts) j a es h = absurd h

index_finds : (depth : ℕ) (t : Term) (j : ℕ) (a : List ℕ) (es : List Assignment) → Covered es a → IsIndex depth a t j → Covered (match_index depth t j es) a
index_finds depth (Bound i) j a es f h = flat_finds (keep_index depth i j) (λ e. Fits e a) a es (λ e c. keep_finds depth i j e a c h) f
index_finds depth (Const n) j a es f h = absurd h
index_finds depth (App s ts) j a es f h = absurd h

either_found : (b : Bool) (xs ys : List Assignment) (a : List ℕ) → Covered (if b then xs else ys) a → ((b ≡ true) × Covered xs a) ⊎ ((b ≡ false) × Covered ys a)
either_found true xs ys a h = inl (refl, h)
either_found false xs ys a h = inr (refl, h)

left_finds : (b : Bool) (xs ys : List Assignment) (a : List ℕ) → b ≡ true → Covered xs a → Covered (if b then xs else ys) a
left_finds b xs ys a e h = rw e h

right_finds : (b : Bool) (xs ys : List Assignment) (a : List ℕ) → b ≡ false → Covered ys a → Covered (if b then xs else ys) a
right_finds b xs ys a e h = rw e h

mutual
  unfolding AreCongruent AllCongruent

  pub congruent_term_found : (table : Table) (depth : ℕ) (a : List ℕ) (t u : Term) (es : List Assignment) → Covered (congruent_term table depth t u es) a → Covered es a × AreCongruent (rows_of table) depth a t u
  congruent_term_found table depth a t (Bound j) es h = index_found depth t j a es h
  congruent_term_found table depth a t (Const n) es h = class_found table depth a t (Const n) es h
  congruent_term_found table depth a (Bound i) (App s us) es h =
      let x = if_found (λ e. Fits e a) (args_below 0 us) (match_class table depth (Bound i) (App s us) es) h in
      let y = class_found table depth a (Bound i) (App s us) es x.1 in
      (y.0, (x.0, y.1))
  congruent_term_found table depth a (Const n) (App s us) es h =
      let x = if_found (λ e. Fits e a) (args_below 0 us) (match_class table depth (Const n) (App s us) es) h in
      let y = class_found table depth a (Const n) (App s us) es x.1 in
      (y.0, (x.0, y.1))
  congruent_term_found table depth a (App r ts) (App s us) es h =
      elim (either_found (args_below 0 us) (match_class table depth (App r ts) (App s us) es) (if same_sym r s then congruent_args table depth ts us es else []) a h) [
        | inl x ↦ let y = class_found table depth a (App r ts) (App s us) es x.1 in (y.0, inl (x.0, y.1))
        | inr x ↦
            let z = if_found (λ e. Fits e a) (same_sym r s) (congruent_args table depth ts us es) x.1 in
            let y = congruent_args_found table depth a ts us es z.1 in
            (y.0, inr (x.0, z.0, y.1))
      ]

  pub congruent_args_found : (table : Table) (depth : ℕ) (a : List ℕ) (ts us : Terms) (es : List Assignment) → Covered (congruent_args table depth ts us es) a → Covered es a × AllCongruent (rows_of table) depth a ts us
  congruent_args_found table depth a term.none term.none es h = (h, tt)
  congruent_args_found table depth a term.none (term.more u us) es h = absurd h
  congruent_args_found table depth a (term.more t ts) term.none es h = absurd h
  congruent_args_found table depth a (term.more t ts) (term.more u us) es h =
      let x = congruent_args_found table depth a ts us (congruent_term table depth t u es) h in
      let y = congruent_term_found table depth a t u es x.0 in
      (y.0, (y.1, x.1))

mutual
  unfolding AreCongruent AllCongruent

  pub congruent_term_finds : (table : Table) (depth : ℕ) (a : List ℕ) (t u : Term) (es : List Assignment) → Covered es a → AreCongruent (rows_of table) depth a t u → Covered (congruent_term table depth t u es) a
  congruent_term_finds table depth a t (Bound j) es f h = index_finds depth t j a es f h
  congruent_term_finds table depth a t (Const n) es f h = constant_finds table depth a t n es h.0 f h.1.0 h.1.1
  congruent_term_finds table depth a (Bound i) (App s us) es f h =
      if_finds (λ e. Fits e a) (args_below 0 us) (match_class table depth (Bound i) (App s us) es) h.0 (functor_finds table depth a (Bound i) s us es h.1.0 f h.1.1.0 h.1.1.1)
  congruent_term_finds table depth a (Const n) (App s us) es f h =
      if_finds (λ e. Fits e a) (args_below 0 us) (match_class table depth (Const n) (App s us) es) h.0 (functor_finds table depth a (Const n) s us es h.1.0 f h.1.1.0 h.1.1.1)
  congruent_term_finds table depth a (App r ts) (App s us) es f h =
      elim h [
        | inl x ↦ left_finds (args_below 0 us) (match_class table depth (App r ts) (App s us) es) (if same_sym r s then congruent_args table depth ts us es else []) a x.0 (functor_finds table depth a (App r ts) s us es x.1.0 f x.1.1.0 x.1.1.1)
        | inr x ↦ right_finds (args_below 0 us) (match_class table depth (App r ts) (App s us) es) (if same_sym r s then congruent_args table depth ts us es else []) a x.0 (if_finds (λ e. Fits e a) (same_sym r s) (congruent_args table depth ts us es) x.1 (congruent_args_finds table depth a ts us es f x.2))
      ]

  pub congruent_args_finds : (table : Table) (depth : ℕ) (a : List ℕ) (ts us : Terms) (es : List Assignment) → Covered es a → AllCongruent (rows_of table) depth a ts us → Covered (congruent_args table depth ts us es) a
  congruent_args_finds table depth a term.none term.none es f h = f
  congruent_args_finds table depth a term.none (term.more u us) es f h = absurd h
  congruent_args_finds table depth a (term.more t ts) term.none es f h = absurd h
  congruent_args_finds table depth a (term.more t ts) (term.more u us) es f h = congruent_args_finds table depth a ts us (congruent_term table depth t u es) (congruent_term_finds table depth a t u es f h.0) h.1

when_found : (b : Bool) (es : List Assignment) (a : List ℕ) → Covered (when b es) a → (b ≡ true) × Covered es a
when_found true es a h = (refl, h)
when_found false es a h = absurd h

when_finds : (b : Bool) (es : List Assignment) (a : List ℕ) → b ≡ true → Covered es a → Covered (when b es) a
when_finds b es a e h = rw e h

same_sign_is : (p q : Bool) → same_sign p q ≡ true → p ≡ q
same_sign_is true true h = refl
same_sign_is true false h = cc
same_sign_is false true h = cc
same_sign_is false false h = refl

is_same_sign : (p q : Bool) → p ≡ q → same_sign p q ≡ true
is_same_sign true true h = refl
is_same_sign true false h = cc
is_same_sign false true h = cc
is_same_sign false false h = refl

pub congruent_found : (table : Table) (depth : ℕ) (a : List ℕ) (p : Bool) (f : Formula) (q : Bool) (g : Formula) (es : List Assignment) → Covered (congruent_formula table depth p f q g es) a → Covered es a × AreCongruentFormulas (rows_of table) depth a p f q g
unfolding AreCongruentFormulas
congruent_found table depth a p (form.Not f) q g es c = congruent_found table depth a (not p) f q g es c
congruent_found table depth a p form.Truth q (form.Not g) es c = congruent_found table depth a p form.Truth (not q) g es c
congruent_found table depth a p form.Truth q form.Truth es c = let x = when_found (same_sign p q) es a c in (x.1, same_sign_is p q x.0)
congruent_found table depth a p form.Truth q (form.Eq v w) es c = absurd c
congruent_found table depth a p form.Truth q (form.Atom s us) es c = absurd c
congruent_found table depth a p form.Truth q (form.And g k) es c = absurd c
congruent_found table depth a p form.Truth q (form.All g) es c = absurd c
congruent_found table depth a p (form.Eq t u) q (form.Not g) es c = congruent_found table depth a p (form.Eq t u) (not q) g es c
congruent_found table depth a p (form.Eq t u) q form.Truth es c = absurd c
congruent_found table depth a p (form.Eq t u) q (form.Eq v w) es c =
    let ds : List Assignment = congruent_term table depth t v es in
    let x = when_found (same_sign p q) (congruent_term table depth u w ds) a c in
    let y = congruent_term_found table depth a u w ds x.1 in
    let z = congruent_term_found table depth a t v es y.0 in
    (z.0, (same_sign_is p q x.0, z.1, y.1))
congruent_found table depth a p (form.Eq t u) q (form.Atom s us) es c = absurd c
congruent_found table depth a p (form.Eq t u) q (form.And g k) es c = absurd c
congruent_found table depth a p (form.Eq t u) q (form.All g) es c = absurd c
congruent_found table depth a p (form.Atom r ts) q (form.Not g) es c = congruent_found table depth a p (form.Atom r ts) (not q) g es c
congruent_found table depth a p (form.Atom r ts) q form.Truth es c = absurd c
congruent_found table depth a p (form.Atom r ts) q (form.Eq v w) es c = absurd c
congruent_found table depth a p (form.Atom r ts) q (form.Atom s us) es c =
    let x = when_found (same_sign p q && same_sym r s) (congruent_args table depth (terms_of ts) (terms_of us) es) a c in
    let b = and_cases (same_sign p q) (same_sym r s) x.0 in
    let y = congruent_args_found table depth a (terms_of ts) (terms_of us) es x.1 in
    (y.0, (same_sign_is p q b.0, b.1, y.1))
congruent_found table depth a p (form.Atom r ts) q (form.And g k) es c = absurd c
congruent_found table depth a p (form.Atom r ts) q (form.All g) es c = absurd c
congruent_found table depth a p (form.And f h) q (form.Not g) es c = congruent_found table depth a p (form.And f h) (not q) g es c
congruent_found table depth a p (form.And f h) q form.Truth es c = absurd c
congruent_found table depth a p (form.And f h) q (form.Eq v w) es c = absurd c
congruent_found table depth a p (form.And f h) q (form.Atom s us) es c = absurd c
congruent_found table depth a p (form.And f h) q (form.And g k) es c =
    let ds : List Assignment = congruent_formula table depth true f true g es in
    let x = when_found (same_sign p q) (congruent_formula table depth true h true k ds) a c in
    let y = congruent_found table depth a true h true k ds x.1 in
    let z = congruent_found table depth a true f true g es y.0 in
    (z.0, (same_sign_is p q x.0, z.1, y.1))
congruent_found table depth a p (form.And f h) q (form.All g) es c = absurd c
congruent_found table depth a p (form.All f) q (form.Not g) es c = congruent_found table depth a p (form.All f) (not q) g es c
congruent_found table depth a p (form.All f) q form.Truth es c = absurd c
congruent_found table depth a p (form.All f) q (form.Eq v w) es c = absurd c
congruent_found table depth a p (form.All f) q (form.Atom s us) es c = absurd c
congruent_found table depth a p (form.All f) q (form.And g k) es c = absurd c
congruent_found table depth a p (form.All f) q (form.All g) es c =
    let x = when_found (same_sign p q) (congruent_formula table (depth + 1) true f true g es) a c in
    let y = congruent_found table (depth + 1) a true f true g es x.1 in
    (y.0, (same_sign_is p q x.0, y.1))

pub congruent_finds : (table : Table) (depth : ℕ) (a : List ℕ) (p : Bool) (f : Formula) (q : Bool) (g : Formula) (es : List Assignment) → Covered es a → AreCongruentFormulas (rows_of table) depth a p f q g → Covered (congruent_formula table depth p f q g es) a
unfolding AreCongruentFormulas
congruent_finds table depth a p (form.Not f) q g es m c = congruent_finds table depth a (not p) f q g es m c
congruent_finds table depth a p form.Truth q (form.Not g) es m c = congruent_finds table depth a p form.Truth (not q) g es m c
congruent_finds table depth a p form.Truth q form.Truth es m c = when_finds (same_sign p q) es a (is_same_sign p q c) m
congruent_finds table depth a p form.Truth q (form.Eq v w) es m c = absurd c
congruent_finds table depth a p form.Truth q (form.Atom s us) es m c = absurd c
congruent_finds table depth a p form.Truth q (form.And g k) es m c = absurd c
congruent_finds table depth a p form.Truth q (form.All g) es m c = absurd c
congruent_finds table depth a p (form.Eq t u) q (form.Not g) es m c = congruent_finds table depth a p (form.Eq t u) (not q) g es m c
congruent_finds table depth a p (form.Eq t u) q form.Truth es m c = absurd c
congruent_finds table depth a p (form.Eq t u) q (form.Eq v w) es m c =
    when_finds (same_sign p q) (congruent_term table depth u w (congruent_term table depth t v es)) a (is_same_sign p q c.0)
    (congruent_term_finds table depth a u w (congruent_term table depth t v es) (congruent_term_finds table depth a t v es m c.1) c.2)
congruent_finds table depth a p (form.Eq t u) q (form.Atom s us) es m c = absurd c
congruent_finds table depth a p (form.Eq t u) q (form.And g k) es m c = absurd c
congruent_finds table depth a p (form.Eq t u) q (form.All g) es m c = absurd c
congruent_finds table depth a p (form.Atom r ts) q (form.Not g) es m c = congruent_finds table depth a p (form.Atom r ts) (not q) g es m c
congruent_finds table depth a p (form.Atom r ts) q form.Truth es m c = absurd c
congruent_finds table depth a p (form.Atom r ts) q (form.Eq v w) es m c = absurd c
congruent_finds table depth a p (form.Atom r ts) q (form.Atom s us) es m c =
    when_finds (same_sign p q && same_sym r s) (congruent_args table depth (terms_of ts) (terms_of us) es) a (and_true (same_sign p q) (same_sym r s) (is_same_sign p q c.0) c.1)
    (congruent_args_finds table depth a (terms_of ts) (terms_of us) es m c.2)
congruent_finds table depth a p (form.Atom r ts) q (form.And g k) es m c = absurd c
congruent_finds table depth a p (form.Atom r ts) q (form.All g) es m c = absurd c
congruent_finds table depth a p (form.And f h) q (form.Not g) es m c = congruent_finds table depth a p (form.And f h) (not q) g es m c
congruent_finds table depth a p (form.And f h) q form.Truth es m c = absurd c
congruent_finds table depth a p (form.And f h) q (form.Eq v w) es m c = absurd c
congruent_finds table depth a p (form.And f h) q (form.Atom s us) es m c = absurd c
congruent_finds table depth a p (form.And f h) q (form.And g k) es m c =
    when_finds (same_sign p q) (congruent_formula table depth true h true k (congruent_formula table depth true f true g es)) a (is_same_sign p q c.0)
    (congruent_finds table depth a true h true k (congruent_formula table depth true f true g es) (congruent_finds table depth a true f true g es m c.1) c.2)
congruent_finds table depth a p (form.And f h) q (form.All g) es m c = absurd c
congruent_finds table depth a p (form.All f) q (form.Not g) es m c = congruent_finds table depth a p (form.All f) (not q) g es m c
congruent_finds table depth a p (form.All f) q form.Truth es m c = absurd c
congruent_finds table depth a p (form.All f) q (form.Eq v w) es m c = absurd c
congruent_finds table depth a p (form.All f) q (form.Atom s us) es m c = absurd c
congruent_finds table depth a p (form.All f) q (form.And g k) es m c = absurd c
congruent_finds table depth a p (form.All f) q (form.All g) es m c =
    when_finds (same_sign p q) (congruent_formula table (depth + 1) true f true g es) a (is_same_sign p q c.0)
    (congruent_finds table (depth + 1) a true f true g es m c.1)
