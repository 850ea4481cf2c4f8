-- Whether classes refute a formula hangs only on those of its free variables.
use Rattle.std.proofs.Common.{◌≡◌, ◌≤◌, ◌+◌, ◌-◌, inl, inr, ℕ, zero, suc, List, [], ◌∷◌, length, refl, arith, ap, sym, ◌∙◌, Bool, true, false, subst}
use Rattle.std.specs.Prelude.{slice_get, not, nat_lt, ◌&&◌, ◌||◌}
use Rattle.std.proofs.lemmas.Bool.Decides.{leb_tells}
use Rattle.mz_logic.specs.Term as term
use Rattle.mz_logic.specs.Term.{Term, Terms, Bound, Const, App, terms_of}
use Rattle.mz_logic.specs.Indices.{is_below, args_below}
use Rattle.mz_logic.specs.Formula as form
use Rattle.mz_logic.specs.Formula.{Formula}
use Rattle.mz_match.specs.declared.row.Head.{Head}
use Rattle.mz_match.specs.declared.row.Head.TheVariants.{Functor, Holds, Fails, Disequal}
use Rattle.mz_match.specs.declared.row.Row.{Row}
use Rattle.mz_match.specs.Rows.{has_value, Val, Vals, RowOn, OneValue}
use Rattle.mz_match.specs.RowsCongruent.{IsIndex, AreCongruent, AllCongruent, AreCongruentFormulas}
use Rattle.mz_match.specs.RowsRefuted.{RowsRefute}
use Rattle.mz_search.specs.Kept.{flag_at, index_kept, term_kept, terms_kept, formula_kept}
use Rattle.mz_match.proofs.SomeLemmas.{some_map}
use Rattle.mz_match.proofs.CongruentLemmas.{and_cases}

-- the indices that are kept under `kept` binders have the same classes in both lists, `depth` binders having none
abbrev pub SameKept : List Bool → ℕ → ℕ → List ℕ → List ℕ → Type 0
SameKept flags kept depth a b = (i : ℕ) → index_kept flags kept i ≡ true → depth ≤ i → slice_get a (i - depth) ≡ slice_get b (i - depth)

or_left : (a b : Bool) → a ≡ true → (a || b) ≡ true
or_left true b h = refl
or_left false b h = cc

or_right : (a b : Bool) → b ≡ true → (a || b) ≡ true
or_right true b h = refl
or_right false b h = h

pub or_other : (a b : Bool) → a ≡ false → (a || b) ≡ true → b ≡ true
or_other true b h k = cc
or_other false b h k = k

index_deeper : (flags : List Bool) (kept i : ℕ) → index_kept flags (kept + 1) (suc i) ≡ true → index_kept flags kept i ≡ true
index_deeper flags kept i h =
    elim (leb_tells (suc i) kept) [
      | inl t ↦ or_left (nat_lt i kept) (flag_at flags (i - kept)) t.0
      | inr f ↦
          elim (leb_tells (suc (suc i)) (kept + 1)) [
            | inl t ↦ absurd (omega (arith, t.1, f.1))
            | inr g ↦
                let q : suc i - (kept + 1) ≡ i - kept = omega arith in
                or_right (nat_lt i kept) (flag_at flags (i - kept))
                (subst (λ (n : ℕ). flag_at flags n ≡ true) q (or_other (nat_lt (suc i) (kept + 1)) (flag_at flags (suc i - (kept + 1))) g.0 h))
          ]
    ]

deeper : (flags : List Bool) (kept depth : ℕ) (a b : List ℕ) → SameKept flags kept depth a b → SameKept flags (kept + 1) (depth + 1) a b
deeper flags kept depth a b h zero k le = absurd (omega arith)
deeper flags kept depth a b h (suc i) k le =
    let q : i - depth ≡ suc i - (depth + 1) = omega arith in
    subst (λ (n : ℕ). slice_get a n ≡ slice_get b n) q (h i (index_deeper flags kept i k) (omega arith))

minus_none : (i : ℕ) → i - 0 ≡ i
minus_none i = omega arith

one_more : (flags : List Bool) (kept v : ℕ) (a b : List ℕ) → SameKept flags kept 0 a b → SameKept flags (kept + 1) 0 (v ∷ a) (v ∷ b)
one_more flags kept v a b h zero k le = refl
one_more flags kept v a b h (suc i) k le =
    let p : slice_get a i ≡ slice_get b i = subst (λ (n : ℕ). slice_get a n ≡ slice_get b n) (minus_none i) (h i (index_deeper flags kept i k) (omega arith)) in
    subst (λ (n : ℕ). slice_get (v ∷ a) n ≡ slice_get (v ∷ b) n) (sym (minus_none (suc i))) p

mutual
  unfolding Val Vals

  val_agrees : (rows : Head → List Row) (flags : List Bool) (kept depth : ℕ) (a b : List ℕ) → SameKept flags kept depth a b → (t : Term) (v : ℕ) → term_kept flags kept t ≡ true → Val rows depth a t v → Val rows depth b t v
  val_agrees rows flags kept depth a b s (Bound i) v k h = (h.0, sym (s i k h.0) ∙ h.1)
  val_agrees rows flags kept depth a b s (Const n) v k h = h
  val_agrees rows flags kept depth a b s (App f ts) v k h =
      some_map (λ r. (has_value v r ≡ true) × Vals rows depth a ts r.args.items) (λ r. (has_value v r ≡ true) × Vals rows depth b ts r.args.items) (rows (Functor f))
      (λ r c. (c.0, vals_agree rows flags kept depth a b s ts r.args.items k c.1)) h

  vals_agree : (rows : Head → List Row) (flags : List Bool) (kept depth : ℕ) (a b : List ℕ) → SameKept flags kept depth a b → (ts : Terms) (vs : List ℕ) → terms_kept flags kept ts ≡ true → Vals rows depth a ts vs → Vals rows depth b ts vs
  vals_agree rows flags kept depth a b s term.none vs k h = h
  vals_agree rows flags kept depth a b s (term.more t ts) [] k h = absurd h
  vals_agree rows flags kept depth a b s (term.more t ts) (v ∷ vs) k h =
      let c = and_cases (term_kept flags kept t) (terms_kept flags kept ts) k in
      (val_agrees rows flags kept depth a b s t v c.0 h.0, vals_agree rows flags kept depth a b s ts vs c.1 h.1)

row_agrees : (rows : Head → List Row) (flags : List Bool) (kept : ℕ) (a b : List ℕ) → SameKept flags kept 0 a b → (h : Head) (ts : Terms) → terms_kept flags kept ts ≡ true → RowOn rows a h ts → RowOn rows b h ts
unfolding RowOn
row_agrees rows flags kept a b s h ts k r =
    some_map (λ r. Vals rows 0 a ts r.args.items) (λ r. Vals rows 0 b ts r.args.items) (rows h) (λ r c. vals_agree rows flags kept 0 a b s ts r.args.items k c) r

both_agree : (rows : Head → List Row) (flags : List Bool) (kept : ℕ) (a b : List ℕ) → SameKept flags kept 0 a b → (t u : Term) → term_kept flags kept t ≡ true → term_kept flags kept u ≡ true → (v : ℕ) → Val rows 0 a t v × Val rows 0 a u v → Val rows 0 b t v × Val rows 0 b u v
both_agree rows flags kept a b s t u k l v h = (val_agrees rows flags kept 0 a b s t v k h.0, val_agrees rows flags kept 0 a b s u v l h.1)

one_agrees : (rows : Head → List Row) (values : List ℕ) (flags : List Bool) (kept : ℕ) (a b : List ℕ) → SameKept flags kept 0 a b → (t u : Term) → term_kept flags kept t ≡ true → term_kept flags kept u ≡ true → OneValue rows values a t u → OneValue rows values b t u
unfolding OneValue
one_agrees rows values flags kept a b s t (Const n) k l h = (h.0, both_agree rows flags kept a b s t (Const n) k l h.0 h.1)
one_agrees rows values flags kept a b s t (App f us) k l h = (h.0, both_agree rows flags kept a b s t (App f us) k l h.0 h.1)
one_agrees rows values flags kept a b s (Bound i) (Bound j) k l h =
    some_map (λ v. Val rows 0 a (Bound i) v × Val rows 0 a (Bound j) v) (λ v. Val rows 0 b (Bound i) v × Val rows 0 b (Bound j) v) values (λ v c. both_agree rows flags kept a b s (Bound i) (Bound j) k l v c) h
one_agrees rows values flags kept a b s (Const n) (Bound j) k l h = (h.0, both_agree rows flags kept a b s (Const n) (Bound j) k l h.0 h.1)
one_agrees rows values flags kept a b s (App f ts) (Bound j) k l h = (h.0, both_agree rows flags kept a b s (App f ts) (Bound j) k l h.0 h.1)

-- a term without indices
true_false : {b : Bool} → b ≡ true → b ≡ false → ⊥
true_false h k = cc

and_both : (p q : Bool) → p ≡ true → q ≡ true → (p && q) ≡ true
and_both true true h k = refl
and_both true false h k = k
and_both false q h k = h

mutual
  closed_kept : (flags : List Bool) (kept : ℕ) (t : Term) → is_below 0 t ≡ true → term_kept flags kept t ≡ true
  closed_kept flags kept (Bound i) h = elim (leb_tells (suc i) 0) [ inl t ↦ absurd (omega (arith, t.1)) | inr f ↦ absurd (true_false h f.0) ]
  closed_kept flags kept (Const n) h = refl
  closed_kept flags kept (App f ts) h = all_closed_kept flags kept ts h

  all_closed_kept : (flags : List Bool) (kept : ℕ) (ts : Terms) → args_below 0 ts ≡ true → terms_kept flags kept ts ≡ true
  all_closed_kept flags kept term.none h = refl
  all_closed_kept flags kept (term.more t ts) h =
      let c = and_cases (is_below 0 t) (args_below 0 ts) h in
      and_both (term_kept flags kept t) (terms_kept flags kept ts) (closed_kept flags kept t c.0) (all_closed_kept flags kept ts c.1)

-- congruent
index_agrees : (depth : ℕ) (a b : List ℕ) → length a ≡ length b → (t : Term) (j : ℕ) → IsIndex depth a t j → IsIndex depth b t j
index_agrees depth a b e (Bound i) j h = elim h [ inl x ↦ inl x | inr x ↦ inr (omega (arith, e, x.0), omega (arith, e, x.1)) ]
index_agrees depth a b e (Const n) j h = h
index_agrees depth a b e (App s ts) j h = h

pair_agrees : (rows : Head → List Row) (flags : List Bool) (kept depth : ℕ) (a b : List ℕ) → SameKept flags kept depth a b → (t u : Term) → term_kept flags kept t ≡ true → term_kept flags kept u ≡ true → (v : ℕ) × (Val rows depth a t v × Val rows depth a u v) → (v : ℕ) × (Val rows depth b t v × Val rows depth b u v)
pair_agrees rows flags kept depth a b s t u k l h = (h.0, (val_agrees rows flags kept depth a b s t h.0 k h.1.0, val_agrees rows flags kept depth a b s u h.0 l h.1.1))

mutual
  unfolding AreCongruent AllCongruent

  congruent_term_agrees : (rows : Head → List Row) (flags : List Bool) (kept depth : ℕ) (a b : List ℕ) → SameKept flags kept depth a b → length a ≡ length b → (t u : Term) → term_kept flags kept t ≡ true → AreCongruent rows depth a t u → AreCongruent rows depth b t u
  congruent_term_agrees rows flags kept depth a b s e t (Bound j) k h = index_agrees depth a b e t j h
  congruent_term_agrees rows flags kept depth a b s e t (Const n) k h = pair_agrees rows flags kept depth a b s t (Const n) k refl h
  congruent_term_agrees rows flags kept depth a b s e (Bound i) (App f us) k h = (h.0, pair_agrees rows flags kept depth a b s (Bound i) (App f us) k (all_closed_kept flags kept us h.0) h.1)
  congruent_term_agrees rows flags kept depth a b s e (Const n) (App f us) k h = (h.0, pair_agrees rows flags kept depth a b s (Const n) (App f us) k (all_closed_kept flags kept us h.0) h.1)
  congruent_term_agrees rows flags kept depth a b s e (App r ts) (App f us) k h =
      elim h [
        | inl x ↦ inl (x.0, pair_agrees rows flags kept depth a b s (App r ts) (App f us) k (all_closed_kept flags kept us x.0) x.1)
        | inr x ↦ inr (x.0, x.1, all_congruent_agree rows flags kept depth a b s e ts us k x.2)
      ]

  all_congruent_agree : (rows : Head → List Row) (flags : List Bool) (kept depth : ℕ) (a b : List ℕ) → SameKept flags kept depth a b → length a ≡ length b → (ts us : Terms) → terms_kept flags kept ts ≡ true → AllCongruent rows depth a ts us → AllCongruent rows depth b ts us
  all_congruent_agree rows flags kept depth a b s e term.none term.none k h = h
  all_congruent_agree rows flags kept depth a b s e term.none (term.more u us) k h = absurd h
  all_congruent_agree rows flags kept depth a b s e (term.more t ts) term.none k h = absurd h
  all_congruent_agree rows flags kept depth a b s e (term.more t ts) (term.more u us) k h =
      let c = and_cases (term_kept flags kept t) (terms_kept flags kept ts) k in
      (congruent_term_agrees rows flags kept depth a b s e t u c.0 h.0, all_congruent_agree rows flags kept depth a b s e ts us c.1 h.1)

congruent_agrees : (rows : Head → List Row) (flags : List Bool) (kept depth : ℕ) (a b : List ℕ) → SameKept flags kept depth a b → length a ≡ length b → (p : Bool) (f : Formula) (q : Bool) (g : Formula) → formula_kept flags kept f ≡ true → AreCongruentFormulas rows depth a p f q g → AreCongruentFormulas rows depth b p f q g
unfolding AreCongruentFormulas
congruent_agrees rows flags kept depth a b s e p (form.Not f) q g k h = congruent_agrees rows flags kept depth a b s e (not p) f q g k h
congruent_agrees rows flags kept depth a b s e p form.Truth q (form.Not i) k h = congruent_agrees rows flags kept depth a b s e p form.Truth (not q) i k h
congruent_agrees rows flags kept depth a b s e p form.Truth q form.Truth k h = h
congruent_agrees rows flags kept depth a b s e p form.Truth q (form.Eq v w) k h = absurd h
congruent_agrees rows flags kept depth a b s e p form.Truth q (form.Atom c us) k h = absurd h
congruent_agrees rows flags kept depth a b s e p form.Truth q (form.And i j) k h = absurd h
congruent_agrees rows flags kept depth a b s e p form.Truth q (form.All i) k h = absurd h
congruent_agrees rows flags kept depth a b s e p (form.Eq t u) q (form.Not i) k h = congruent_agrees rows flags kept depth a b s e p (form.Eq t u) (not q) i k h
congruent_agrees rows flags kept depth a b s e p (form.Eq t u) q form.Truth k h = absurd h
congruent_agrees rows flags kept depth a b s e p (form.Eq t u) q (form.Eq v w) k h =
    let c = and_cases (term_kept flags kept t) (term_kept flags kept u) k in
    (h.0, congruent_term_agrees rows flags kept depth a b s e t v c.0 h.1, congruent_term_agrees rows flags kept depth a b s e u w c.1 h.2)
congruent_agrees rows flags kept depth a b s e p (form.Eq t u) q (form.Atom c us) k h = absurd h
congruent_agrees rows flags kept depth a b s e p (form.Eq t u) q (form.And i j) k h = absurd h
congruent_agrees rows flags kept depth a b s e p (form.Eq t u) q (form.All i) k h = absurd h
congruent_agrees rows flags kept depth a b s e p (form.Atom r ts) q (form.Not i) k h = congruent_agrees rows flags kept depth a b s e p (form.Atom r ts) (not q) i k h
congruent_agrees rows flags kept depth a b s e p (form.Atom r ts) q form.Truth k h = absurd h
congruent_agrees rows flags kept depth a b s e p (form.Atom r ts) q (form.Eq v w) k h = absurd h
congruent_agrees rows flags kept depth a b s e p (form.Atom r ts) q (form.Atom c us) k h = (h.0, h.1, all_congruent_agree rows flags kept depth a b s e (terms_of ts) (terms_of us) k h.2)
congruent_agrees rows flags kept depth a b s e p (form.Atom r ts) q (form.And i j) k h = absurd h
congruent_agrees rows flags kept depth a b s e p (form.Atom r ts) q (form.All i) k h = absurd h
congruent_agrees rows flags kept depth a b s e p (form.And f g) q (form.Not i) k h = congruent_agrees rows flags kept depth a b s e p (form.And f g) (not q) i k h
congruent_agrees rows flags kept depth a b s e p (form.And f g) q form.Truth k h = absurd h
congruent_agrees rows flags kept depth a b s e p (form.And f g) q (form.Eq v w) k h = absurd h
congruent_agrees rows flags kept depth a b s e p (form.And f g) q (form.Atom c us) k h = absurd h
congruent_agrees rows flags kept depth a b s e p (form.And f g) q (form.And i j) k h =
    let c = and_cases (formula_kept flags kept f) (formula_kept flags kept g) k in
    (h.0, congruent_agrees rows flags kept depth a b s e true f true i c.0 h.1, congruent_agrees rows flags kept depth a b s e true g true j c.1 h.2)
congruent_agrees rows flags kept depth a b s e p (form.And f g) q (form.All i) k h = absurd h
congruent_agrees rows flags kept depth a b s e p (form.All f) q (form.Not i) k h = congruent_agrees rows flags kept depth a b s e p (form.All f) (not q) i k h
congruent_agrees rows flags kept depth a b s e p (form.All f) q form.Truth k h = absurd h
congruent_agrees rows flags kept depth a b s e p (form.All f) q (form.Eq v w) k h = absurd h
congruent_agrees rows flags kept depth a b s e p (form.All f) q (form.Atom c us) k h = absurd h
congruent_agrees rows flags kept depth a b s e p (form.All f) q (form.And i j) k h = absurd h
congruent_agrees rows flags kept depth a b s e p (form.All f) q (form.All i) k h = (h.0, congruent_agrees rows flags (kept + 1) (depth + 1) a b (deeper flags kept depth a b s) e true f true i k h.1)

-- formulas
pub refute_agrees : (rows : Head → List Row) (values : List ℕ) (us : List Formula) (flags : List Bool) (kept : ℕ) (a b : List ℕ) → SameKept flags kept 0 a b → length a ≡ length b → (p : Bool) (f : Formula) → formula_kept flags kept f ≡ true → RowsRefute rows values us p a f → RowsRefute rows values us p b f
unfolding RowsRefute
refute_agrees rows values us flags kept a b s e true form.Truth k h = h
refute_agrees rows values us flags kept a b s e false form.Truth k h = h
refute_agrees rows values us flags kept a b s e true (form.Eq t u) k h =
    let c = and_cases (term_kept flags kept t) (term_kept flags kept u) k in
    elim h [
      | inl x ↦ inl (row_agrees rows flags kept a b s Disequal (term.more t (term.more u term.none)) (and_both (term_kept flags kept t) (term_kept flags kept u && true) c.0 (and_both (term_kept flags kept u) true c.1 refl)) x)
      | inr x ↦ inr (row_agrees rows flags kept a b s Disequal (term.more u (term.more t term.none)) (and_both (term_kept flags kept u) (term_kept flags kept t && true) c.1 (and_both (term_kept flags kept t) true c.0 refl)) x)
    ]
refute_agrees rows values us flags kept a b s e false (form.Eq t u) k h = let c = and_cases (term_kept flags kept t) (term_kept flags kept u) k in one_agrees rows values flags kept a b s t u c.0 c.1 h
refute_agrees rows values us flags kept a b s e true (form.Atom p ts) k h = row_agrees rows flags kept a b s (Fails p) (terms_of ts) k h
refute_agrees rows values us flags kept a b s e false (form.Atom p ts) k h = row_agrees rows flags kept a b s (Holds p) (terms_of ts) k h
refute_agrees rows values us flags kept a b s e true (form.Not f) k h = refute_agrees rows values us flags kept a b s e false f k h
refute_agrees rows values us flags kept a b s e false (form.Not f) k h = refute_agrees rows values us flags kept a b s e true f k h
refute_agrees rows values us flags kept a b s e true (form.And f g) k h =
    let c = and_cases (formula_kept flags kept f) (formula_kept flags kept g) k in
    elim h [
      | inl x ↦ inl (refute_agrees rows values us flags kept a b s e true f c.0 x)
      | inr x ↦ inr (refute_agrees rows values us flags kept a b s e true g c.1 x)
    ]
refute_agrees rows values us flags kept a b s e false (form.And f g) k h =
    let c = and_cases (formula_kept flags kept f) (formula_kept flags kept g) k in
    (refute_agrees rows values us flags kept a b s e false f c.0 h.0, refute_agrees rows values us flags kept a b s e false g c.1 h.1)
refute_agrees rows values us flags kept a b s e true (form.All f) k h =
    (h.0, refute_agrees rows values us flags (kept + 1) (h.0 ∷ a) (h.0 ∷ b) (one_more flags kept h.0 a b s) (ap suc e) true f k h.1)
refute_agrees rows values us flags kept a b s e false (form.All f) k h =
    some_map (λ u. AreCongruentFormulas rows 0 a true (form.All f) true u) (λ u. AreCongruentFormulas rows 0 b true (form.All f) true u) us (λ u c. congruent_agrees rows flags kept 0 a b s e true (form.All f) true u k c) h
