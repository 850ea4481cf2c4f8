-- Terms that are congruent by the facts are congruent by rows.
use Rattle.std.proofs.Common.{◌≡◌, ◌⊎◌, inl, inr, ℕ, suc, List, [], ◌∷◌, length, map, refl, arith, ap, sym, ◌∙◌, subst, Bool, true, false, get_or}
use Rattle.std.specs.Prelude.{◌-◌, ◌+◌, not}
use Rattle.std.proofs.lemmas.Bool.Decides.{leb_tells}
use Rattle.mz_logic.specs.declared.sym.Sym.{Sym}
use Rattle.mz_logic.specs.Term as term
use Rattle.mz_logic.specs.Term.{Term, Terms, Bound, Const, App, list_of, terms_of}
use Rattle.mz_logic.specs.TermStorage.{list_of-terms_of, terms_of-list_of, terms_of-inj}
use Rattle.mz_logic.specs.Indices.{closed, args_below}
use Rattle.mz_logic.specs.Formula as form
use Rattle.mz_logic.specs.Formula.{Formula}
use Rattle.mz_logic.specs.declared.disjunct.Disjunct.{Disjunct}
use Rattle.mz_ground.specs.declared.clause.Clause.{Clause}
use Rattle.mz_ground.specs.GroundExpression.{Has, TermExpression, whole, in_atom, in_left, in_right, in_negation, in_first, in_second, in_body}
use Rattle.mz_ground.specs.Layers.{IsGroundTerm}
use Rattle.mz_refute.specs.Valued.{IsValued}
use Rattle.mz_refute.specs.EqualModuloFacts.{plain, EqualModuloFacts, as_written, in_value, one_index, one_symbol, AllEqualModuloFacts, no_terms, and_terms, FormulasEqualModuloFacts, truths, equations, atoms, negations, conjunctions, universals}
use Rattle.mz_match.specs.declared.row.Head.{Head}
use Rattle.mz_match.specs.declared.row.Row.{Row}
use Rattle.mz_match.specs.Rows.{Val}
use Rattle.mz_match.specs.RowsCongruent.{IsIndex, AreCongruent, AllCongruent, AreCongruentFormulas}
use Rattle.mz_refute.specs.Tabled.{IsTabled}
use Rattle.mz_refute.proofs.GroundLaws.{AllGround, ground_closed, all_closed}
use Rattle.mz_refute.proofs.ValueLaws.{value_self, value_closed, congruent_closed, congruent_value, IsFilled, AreFilled, filled_args, filled_first, filled_rest}
use Rattle.mz_refute.proofs.AtTerms.{at_term, at_args, at_formula, at_list, at_inner, at_outer, at_free, at_closed}
use Rattle.mz_refute.proofs.TableUp.{val_up, map_length, ground_at}
use Rattle.mz_refute.proofs.Signs.{signed_plain, signed_not, signed_parts}
use Rattle.mz_match.proofs.SymbolLaws.{sym-same}

bound_inj : (i j : ℕ) → Bound i ≡ Bound j → i ≡ j
bound_inj i j e = cc

no_closed_index : (j : ℕ) → closed (Bound j) ≡ true → ⊥
no_closed_index j h = elim (leb_tells (suc j) 0) [ inl a ↦ omega (arith, a.1) | inr b ↦ let z = b.0 in cc ]

true_false : (b : Bool) → b ≡ true → b ≡ false → ⊥
true_false b h k = cc

bool_cases : (b : Bool) → (b ≡ true) ⊎ (b ≡ false)
bool_cases true = inl refl
bool_cases false = inr refl

-- the index of an congruent term
index_up : (d : Disjunct) (cs : List Clause) (class : Term → ℕ) (depth : ℕ) (ts : List Term) → AllGround d cs ts → (t : Term) (j : ℕ) → at_term depth ts t ≡ Bound j → IsIndex depth (map class ts) t j
index_up d cs class depth ts all (Bound i) j e =
    elim (leb_tells (suc i) depth) [
      | inl k ↦ let x : Bound i ≡ Bound j = sym (at_inner depth ts i (omega (arith, k.1))) ∙ e in inl (omega (arith, k.1), bound_inj i j x)
      | inr k ↦ elim (leb_tells (depth + length ts) i) [
        | inl l ↦
            let x : Bound (i - length ts) ≡ Bound j = sym (at_free depth ts i (omega (arith, l.1))) ∙ e in
            let y : i - length ts ≡ j = bound_inj (i - length ts) j x in
            let m : length (map class ts) ≡ length ts = map_length class ts in
            inr (omega (arith, l.1, m), omega (arith, l.1, m, y))
        | inr l ↦
            let x : get_or ts (i - depth) (Bound (i - length ts)) ≡ Bound j = sym (at_outer depth ts i (all_closed d cs ts all) (omega (arith, k.1))) ∙ e in
            let g : closed (get_or ts (i - depth) (Bound (i - length ts))) ≡ true = ground_closed d cs (get_or ts (i - depth) (Bound (i - length ts))) (ground_at d cs ts (i - depth) (Bound (i - length ts)) all (omega (arith, k.1, l.1))) in
            absurd (no_closed_index j (subst (λ (z : Term). closed z ≡ true) x g))
      ]
    ]
index_up d cs class depth ts all (Const n) j e = cc
index_up d cs class depth ts all (App s us) j e = cc

all_congruent_length : (d : Disjunct) (cs : List Clause) (ts us : List Term) → AllEqualModuloFacts d cs ts us → length ts ≡ length us
all_congruent_length d cs ts us no_terms = refl
all_congruent_length d cs ts us (and_terms t u vs ws a b) = ap suc (all_congruent_length d cs vs ws b)

-- what is congruent to an index is that index
congruent_index : (d : Disjunct) (cs : List Clause) (t u : Term) (j : ℕ) → EqualModuloFacts d cs t u → u ≡ Bound j → t ≡ Bound j
congruent_index d cs t u j (as_written x k) e = e
congruent_index d cs t u j (in_value x y v a b) e = absurd (no_closed_index j (subst (λ (z : Term). closed z ≡ true) e (value_closed d cs y v b)))
congruent_index d cs t u j (one_index i) e = e
congruent_index d cs t u j (one_symbol s ts us a) e = cc

-- the arguments of an congruent term, where it has an index
pub record CongruentArgs (d : Disjunct) (cs : List Clause) (t : Term) (s : Sym) (us : List Term) : Type 0 where
  pub ts : List Term
  pub is : t ≡ App s (terms_of ts)
  pub congruent : AllEqualModuloFacts d cs ts us

app_args : (r s : Sym) (xs ys : List Term) → App r (terms_of xs) ≡ App s (terms_of ys) → xs ≡ ys
app_args r s xs ys e = let z : terms_of xs ≡ terms_of ys = cc in terms_of-inj xs ys z

app_sym : (r s : Sym) (x y : Terms) → App r x ≡ App s y → r ≡ s
app_sym r s x y e = cc

open_args : (d : Disjunct) (cs : List Clause) (t u : Term) (s : Sym) (us : List Term) → EqualModuloFacts d cs t u → u ≡ App s (terms_of us) → closed u ≡ false → CongruentArgs d cs t s us
open_args d cs t u s us (as_written x k) e c = absurd (true_false (closed x) k c)
open_args d cs t u s us (in_value x y v a b) e c = absurd (true_false (closed y) (value_closed d cs y v b) c)
open_args d cs t u s us (one_index i) e c = cc
open_args d cs t u s us (one_symbol r ts vs a) e c =
    record { ts = ts; is = ap (λ k. App k (terms_of ts)) (app_sym r s (terms_of vs) (terms_of us) e); congruent = subst (λ (ws : List Term). AllEqualModuloFacts d cs ts ws) (app_args r s vs us e) a }

-- both have the class of the closed one
closed_up : (d : Disjunct) (cs : List Clause) (class : Term → ℕ) (rows : Head → List Row) (values : List ℕ) → IsTabled d cs class rows values → (depth : ℕ) (ts : List Term) → AllGround d cs ts → (t u : Term) → IsFilled d cs u → closed u ≡ true → EqualModuloFacts d cs (at_term depth ts t) u → (v : ℕ) × (Val rows depth (map class ts) t v × Val rows depth (map class ts) u v)
closed_up d cs class rows values i depth ts all t u h c k =
    let x : Val rows depth (map class ts) t (class u) = val_up d cs class rows values i depth ts all t u (congruent_value d cs (at_term depth ts t) u k h c) in
    let y : Val rows depth (map class ts) u (class u) = val_up d cs class rows values i depth ts all u u (subst (λ (z : Term). IsValued d cs z u) (sym (at_closed depth ts u c)) (value_self d cs u (h u whole c))) in
    (class u, (x, y))

same_list : (us : Terms) (s : Sym) → App s us ≡ App s (terms_of (list_of us))
same_list us s = ap (λ x. App s x) (sym (terms_of-list_of us))

open_index : (d : Disjunct) (cs : List Clause) (depth : ℕ) (ts : List Term) → AllGround d cs ts → (m : ℕ) (u : Term) (s : Sym) (us : List Term) → EqualModuloFacts d cs (at_term depth ts (Bound m)) u → u ≡ App s (terms_of us) → closed u ≡ false → ⊥
open_index d cs depth ts all m u s us k e c =
    let x = open_args d cs (at_term depth ts (Bound m)) u s us k e c in
    elim (leb_tells (suc m) depth) [
      | inl l ↦ let z : Bound m ≡ App s (terms_of x.ts) = sym (at_inner depth ts m (omega (arith, l.1))) ∙ x.is in cc
      | inr l ↦ elim (leb_tells (depth + length ts) m) [
        | inl n ↦ let z : Bound (m - length ts) ≡ App s (terms_of x.ts) = sym (at_free depth ts m (omega (arith, n.1))) ∙ x.is in cc
        | inr n ↦
            let y : at_term depth ts (Bound m) ≡ get_or ts (m - depth) (Bound (m - length ts)) = at_outer depth ts m (all_closed d cs ts all) (omega (arith, l.1)) in
            let g : closed (get_or ts (m - depth) (Bound (m - length ts))) ≡ true = ground_closed d cs (get_or ts (m - depth) (Bound (m - length ts))) (ground_at d cs ts (m - depth) (Bound (m - length ts)) all (omega (arith, l.1, n.1))) in
            true_false (closed u) (sym (congruent_closed d cs (at_term depth ts (Bound m)) u k) ∙ ap closed y ∙ g) c
      ]
    ]

mutual
  unfolding AreCongruent AllCongruent

  pub term_up : (d : Disjunct) (cs : List Clause) (class : Term → ℕ) (rows : Head → List Row) (values : List ℕ) → IsTabled d cs class rows values → (depth : ℕ) (ts : List Term) → AllGround d cs ts → (t u : Term) → IsFilled d cs u → EqualModuloFacts d cs (at_term depth ts t) u → AreCongruent rows depth (map class ts) t u
  term_up d cs class rows values i depth ts all t (Bound j) h k = index_up d cs class depth ts all t j (congruent_index d cs (at_term depth ts t) (Bound j) j k refl)
  term_up d cs class rows values i depth ts all t (Const n) h k = closed_up d cs class rows values i depth ts all t (Const n) h refl k
  term_up d cs class rows values i depth ts all (Bound m) (App s us) h k =
      elim (bool_cases (args_below 0 us)) [
        | inl c ↦ (c, closed_up d cs class rows values i depth ts all (Bound m) (App s us) h c k)
        | inr c ↦ absurd (open_index d cs depth ts all m (App s us) s (list_of us) k (same_list us s) c)
      ]
  term_up d cs class rows values i depth ts all (Const n) (App s us) h k =
      elim (bool_cases (args_below 0 us)) [
        | inl c ↦ (c, closed_up d cs class rows values i depth ts all (Const n) (App s us) h c k)
        | inr c ↦ let x = open_args d cs (Const n) (App s us) s (list_of us) k (same_list us s) c in let z = x.is in cc
      ]
  term_up d cs class rows values i depth ts all (App r vs) (App s us) h k =
      elim (bool_cases (args_below 0 us)) [
        | inl c ↦ inl (c, closed_up d cs class rows values i depth ts all (App r vs) (App s us) h c k)
        | inr c ↦
            let x = open_args d cs (App r (at_args depth ts vs)) (App s us) s (list_of us) k (same_list us s) c in
            let q : r ≡ s = app_sym r s (at_args depth ts vs) (terms_of x.ts) x.is in
            let z : x.ts ≡ map (at_term depth ts) (list_of vs) = sym (app_args r s (map (at_term depth ts) (list_of vs)) x.ts (ap (λ y. App r y) (sym (at_list depth ts vs)) ∙ x.is)) in
            let f : AreFilled d cs (list_of us) = filled_args d cs s (list_of us) (subst (λ (y : Term). IsFilled d cs y) (same_list us s) h) in
            inr (c, sym-same r s q, terms_up d cs class rows values i depth ts all vs us f (subst (λ (xs : List Term). AllEqualModuloFacts d cs xs (list_of us)) z x.congruent))
      ]

  pub terms_up : (d : Disjunct) (cs : List Clause) (class : Term → ℕ) (rows : Head → List Row) (values : List ℕ) → IsTabled d cs class rows values → (depth : ℕ) (ts : List Term) → AllGround d cs ts → (vs us : Terms) → AreFilled d cs (list_of us) → AllEqualModuloFacts d cs (map (at_term depth ts) (list_of vs)) (list_of us) → AllCongruent rows depth (map class ts) vs us
  terms_up d cs class rows values i depth ts all term.none term.none h k = tt
  terms_up d cs class rows values i depth ts all term.none (term.more u us) h k = let z = all_congruent_length d cs [] (u ∷ list_of us) k in absurd (omega (arith, z))
  terms_up d cs class rows values i depth ts all (term.more v vs) term.none h k = let z = all_congruent_length d cs (at_term depth ts v ∷ map (at_term depth ts) (list_of vs)) [] k in absurd (omega (arith, z))
  terms_up d cs class rows values i depth ts all (term.more v vs) (term.more u us) h (and_terms x y xs ys b e) =
      (term_up d cs class rows values i depth ts all v u (filled_first d cs u (list_of us) h) b, terms_up d cs class rows values i depth ts all vs us (filled_rest d cs u (list_of us) h) e)

list_up : (d : Disjunct) (cs : List Clause) (class : Term → ℕ) (rows : Head → List Row) (values : List ℕ) → IsTabled d cs class rows values → (depth : ℕ) (ts : List Term) → AllGround d cs ts → (vs us : List Term) → AreFilled d cs us → AllEqualModuloFacts d cs (map (at_term depth ts) vs) us → AllCongruent rows depth (map class ts) (terms_of vs) (terms_of us)
list_up d cs class rows values i depth ts all vs us h k =
    terms_up d cs class rows values i depth ts all (terms_of vs) (terms_of us) (subst (λ (xs : List Term). AreFilled d cs xs) (sym (list_of-terms_of us)) h)
    (subst (λ (xs : List Term). AllEqualModuloFacts d cs (map (at_term depth ts) xs) (list_of (terms_of us))) (sym (list_of-terms_of vs)) (subst (λ (ys : List Term). AllEqualModuloFacts d cs (map (at_term depth ts) vs) ys) (sym (list_of-terms_of us)) k))

-- each term without an index in the formula is ground
abbrev pub FormulaFilled : Disjunct → List Clause → Formula → Type 0
FormulaFilled d cs g = (v : Term) → Has g (TermExpression v) → closed v ≡ true → IsGroundTerm d cs v

congruent_eq : (d : Disjunct) (cs : List Clause) (x y z w : Term) → FormulasEqualModuloFacts d cs (form.Eq x y) (form.Eq z w) → EqualModuloFacts d cs x z × EqualModuloFacts d cs y w
congruent_eq d cs x y z w (equations a b c e h k) = (h, k)

congruent_atom : (d : Disjunct) (cs : List Clause) (r s : Sym) (xs ys : List Term) → FormulasEqualModuloFacts d cs (form.Atom r xs) (form.Atom s ys) → (r ≡ s) × AllEqualModuloFacts d cs xs ys
congruent_atom d cs r s xs ys (atoms q vs us h) = (refl, h)

congruent_and : (d : Disjunct) (cs : List Clause) (x y z w : Formula) → FormulasEqualModuloFacts d cs (form.And x y) (form.And z w) → FormulasEqualModuloFacts d cs x z × FormulasEqualModuloFacts d cs y w
congruent_and d cs x y z w (conjunctions a b c e h k) = (h, k)

congruent_all : (d : Disjunct) (cs : List Clause) (x y : Formula) → FormulasEqualModuloFacts d cs (form.All x) (form.All y) → FormulasEqualModuloFacts d cs x y
congruent_all d cs x y (universals a b h) = h

-- which form it is
abbrev head_number : Formula → ℕ
head_number form.Truth = 0
head_number (form.Eq t u) = 1
head_number (form.Atom s ts) = 2
head_number (form.Not f) = 3
head_number (form.And f g) = 4
head_number (form.All f) = 5

one_head : (d : Disjunct) (cs : List Clause) (x y : Formula) → FormulasEqualModuloFacts d cs x y → head_number x ≡ head_number y
one_head d cs x y truths = refl
one_head d cs x y (equations t u v w a b) = refl
one_head d cs x y (atoms s ts us a) = refl
one_head d cs x y (negations f g a) = refl
one_head d cs x y (conjunctions f g h k a b) = refl
one_head d cs x y (universals f g a) = refl

pub formula_up : (d : Disjunct) (cs : List Clause) (class : Term → ℕ) (rows : Head → List Row) (values : List ℕ) → IsTabled d cs class rows values → (depth : ℕ) (ts : List Term) → AllGround d cs ts → (p : Bool) (f : Formula) (q : Bool) (g : Formula) → FormulaFilled d cs g → FormulasEqualModuloFacts d cs (signed_plain p (at_formula depth ts f)) (signed_plain q g) → AreCongruentFormulas rows depth (map class ts) p f q g
unfolding AreCongruentFormulas
formula_up d cs class rows values i depth ts all p (form.Not f) q g b e =
    formula_up d cs class rows values i depth ts all (not p) f q g b (subst (λ (x : Formula). FormulasEqualModuloFacts d cs x (signed_plain q g)) (signed_not p (at_formula depth ts f)) e)
formula_up d cs class rows values i depth ts all p form.Truth q (form.Not g) b e =
    formula_up d cs class rows values i depth ts all p form.Truth (not q) g (λ v m. b v (in_negation g (TermExpression v) m)) (subst (λ (x : Formula). FormulasEqualModuloFacts d cs (signed_plain p (at_formula depth ts form.Truth)) x) (signed_not q g) e)
formula_up d cs class rows values i depth ts all p form.Truth q form.Truth b e =
    let x = signed_parts d cs p q form.Truth form.Truth tt tt e in x.0
formula_up d cs class rows values i depth ts all p form.Truth q (form.Eq v w) b e =
    let x = signed_parts d cs p q form.Truth (form.Eq v w) tt tt e in let z = one_head d cs form.Truth (form.Eq v w) x.1 in absurd (omega (arith, z))
formula_up d cs class rows values i depth ts all p form.Truth q (form.Atom s us) b e =
    let x = signed_parts d cs p q form.Truth (form.Atom s us) tt tt e in let z = one_head d cs form.Truth (form.Atom s us) x.1 in absurd (omega (arith, z))
formula_up d cs class rows values i depth ts all p form.Truth q (form.And g k) b e =
    let x = signed_parts d cs p q form.Truth (form.And (plain g) (plain k)) tt tt e in let z = one_head d cs form.Truth (form.And (plain g) (plain k)) x.1 in absurd (omega (arith, z))
formula_up d cs class rows values i depth ts all p form.Truth q (form.All g) b e =
    let x = signed_parts d cs p q form.Truth (form.All (plain g)) tt tt e in let z = one_head d cs form.Truth (form.All (plain g)) x.1 in absurd (omega (arith, z))
formula_up d cs class rows values i depth ts all p (form.Eq t u) q (form.Not g) b e =
    formula_up d cs class rows values i depth ts all p (form.Eq t u) (not q) g (λ v m. b v (in_negation g (TermExpression v) m)) (subst (λ (x : Formula). FormulasEqualModuloFacts d cs (signed_plain p (at_formula depth ts (form.Eq t u))) x) (signed_not q g) e)
formula_up d cs class rows values i depth ts all p (form.Eq t u) q form.Truth b e =
    let x = signed_parts d cs p q (form.Eq (at_term depth ts t) (at_term depth ts u)) form.Truth tt tt e in let z = one_head d cs (form.Eq (at_term depth ts t) (at_term depth ts u)) form.Truth x.1 in absurd (omega (arith, z))
formula_up d cs class rows values i depth ts all p (form.Eq t u) q (form.Eq v w) b e =
    let x = signed_parts d cs p q (form.Eq (at_term depth ts t) (at_term depth ts u)) (form.Eq v w) tt tt e in
    let y = congruent_eq d cs (at_term depth ts t) (at_term depth ts u) v w x.1 in
    (x.0, term_up d cs class rows values i depth ts all t v (λ z m. b z (in_left v w z m)) y.0, term_up d cs class rows values i depth ts all u w (λ z m. b z (in_right v w z m)) y.1)
formula_up d cs class rows values i depth ts all p (form.Eq t u) q (form.Atom s us) b e =
    let x = signed_parts d cs p q (form.Eq (at_term depth ts t) (at_term depth ts u)) (form.Atom s us) tt tt e in let z = one_head d cs (form.Eq (at_term depth ts t) (at_term depth ts u)) (form.Atom s us) x.1 in absurd (omega (arith, z))
formula_up d cs class rows values i depth ts all p (form.Eq t u) q (form.And g k) b e =
    let x = signed_parts d cs p q (form.Eq (at_term depth ts t) (at_term depth ts u)) (form.And (plain g) (plain k)) tt tt e in let z = one_head d cs (form.Eq (at_term depth ts t) (at_term depth ts u)) (form.And (plain g) (plain k)) x.1 in absurd (omega (arith, z))
formula_up d cs class rows values i depth ts all p (form.Eq t u) q (form.All g) b e =
    let x = signed_parts d cs p q (form.Eq (at_term depth ts t) (at_term depth ts u)) (form.All (plain g)) tt tt e in let z = one_head d cs (form.Eq (at_term depth ts t) (at_term depth ts u)) (form.All (plain g)) x.1 in absurd (omega (arith, z))
formula_up d cs class rows values i depth ts all p (form.Atom r vs) q (form.Not g) b e =
    formula_up d cs class rows values i depth ts all p (form.Atom r vs) (not q) g (λ v m. b v (in_negation g (TermExpression v) m)) (subst (λ (x : Formula). FormulasEqualModuloFacts d cs (signed_plain p (at_formula depth ts (form.Atom r vs))) x) (signed_not q g) e)
formula_up d cs class rows values i depth ts all p (form.Atom r vs) q form.Truth b e =
    let x = signed_parts d cs p q (form.Atom r (map (at_term depth ts) vs)) form.Truth tt tt e in let z = one_head d cs (form.Atom r (map (at_term depth ts) vs)) form.Truth x.1 in absurd (omega (arith, z))
formula_up d cs class rows values i depth ts all p (form.Atom r vs) q (form.Eq v w) b e =
    let x = signed_parts d cs p q (form.Atom r (map (at_term depth ts) vs)) (form.Eq v w) tt tt e in let z = one_head d cs (form.Atom r (map (at_term depth ts) vs)) (form.Eq v w) x.1 in absurd (omega (arith, z))
formula_up d cs class rows values i depth ts all p (form.Atom r vs) q (form.Atom s us) b e =
    let x = signed_parts d cs p q (form.Atom r (map (at_term depth ts) vs)) (form.Atom s us) tt tt e in
    let y = congruent_atom d cs r s (map (at_term depth ts) vs) us x.1 in
    (x.0, sym-same r s y.0, list_up d cs class rows values i depth ts all vs us (λ o m z k. b z (in_atom s us o z m k)) y.1)
formula_up d cs class rows values i depth ts all p (form.Atom r vs) q (form.And g k) b e =
    let x = signed_parts d cs p q (form.Atom r (map (at_term depth ts) vs)) (form.And (plain g) (plain k)) tt tt e in let z = one_head d cs (form.Atom r (map (at_term depth ts) vs)) (form.And (plain g) (plain k)) x.1 in absurd (omega (arith, z))
formula_up d cs class rows values i depth ts all p (form.Atom r vs) q (form.All g) b e =
    let x = signed_parts d cs p q (form.Atom r (map (at_term depth ts) vs)) (form.All (plain g)) tt tt e in let z = one_head d cs (form.Atom r (map (at_term depth ts) vs)) (form.All (plain g)) x.1 in absurd (omega (arith, z))
formula_up d cs class rows values i depth ts all p (form.And f m) q (form.Not g) b e =
    formula_up d cs class rows values i depth ts all p (form.And f m) (not q) g (λ v m. b v (in_negation g (TermExpression v) m)) (subst (λ (x : Formula). FormulasEqualModuloFacts d cs (signed_plain p (at_formula depth ts (form.And f m))) x) (signed_not q g) e)
formula_up d cs class rows values i depth ts all p (form.And f m) q form.Truth b e =
    let x = signed_parts d cs p q (form.And (plain (at_formula depth ts f)) (plain (at_formula depth ts m))) form.Truth tt tt e in let z = one_head d cs (form.And (plain (at_formula depth ts f)) (plain (at_formula depth ts m))) form.Truth x.1 in absurd (omega (arith, z))
formula_up d cs class rows values i depth ts all p (form.And f m) q (form.Eq v w) b e =
    let x = signed_parts d cs p q (form.And (plain (at_formula depth ts f)) (plain (at_formula depth ts m))) (form.Eq v w) tt tt e in let z = one_head d cs (form.And (plain (at_formula depth ts f)) (plain (at_formula depth ts m))) (form.Eq v w) x.1 in absurd (omega (arith, z))
formula_up d cs class rows values i depth ts all p (form.And f m) q (form.Atom s us) b e =
    let x = signed_parts d cs p q (form.And (plain (at_formula depth ts f)) (plain (at_formula depth ts m))) (form.Atom s us) tt tt e in let z = one_head d cs (form.And (plain (at_formula depth ts f)) (plain (at_formula depth ts m))) (form.Atom s us) x.1 in absurd (omega (arith, z))
formula_up d cs class rows values i depth ts all p (form.And f m) q (form.And g k) b e =
    let x = signed_parts d cs p q (form.And (plain (at_formula depth ts f)) (plain (at_formula depth ts m))) (form.And (plain g) (plain k)) tt tt e in
    let y = congruent_and d cs (plain (at_formula depth ts f)) (plain (at_formula depth ts m)) (plain g) (plain k) x.1 in
    (x.0, formula_up d cs class rows values i depth ts all true f true g (λ v m. b v (in_first g k (TermExpression v) m)) y.0, formula_up d cs class rows values i depth ts all true m true k (λ v m. b v (in_second g k (TermExpression v) m)) y.1)
formula_up d cs class rows values i depth ts all p (form.And f m) q (form.All g) b e =
    let x = signed_parts d cs p q (form.And (plain (at_formula depth ts f)) (plain (at_formula depth ts m))) (form.All (plain g)) tt tt e in let z = one_head d cs (form.And (plain (at_formula depth ts f)) (plain (at_formula depth ts m))) (form.All (plain g)) x.1 in absurd (omega (arith, z))
formula_up d cs class rows values i depth ts all p (form.All f) q (form.Not g) b e =
    formula_up d cs class rows values i depth ts all p (form.All f) (not q) g (λ v m. b v (in_negation g (TermExpression v) m)) (subst (λ (x : Formula). FormulasEqualModuloFacts d cs (signed_plain p (at_formula depth ts (form.All f))) x) (signed_not q g) e)
formula_up d cs class rows values i depth ts all p (form.All f) q form.Truth b e =
    let x = signed_parts d cs p q (form.All (plain (at_formula (depth + 1) ts f))) form.Truth tt tt e in let z = one_head d cs (form.All (plain (at_formula (depth + 1) ts f))) form.Truth x.1 in absurd (omega (arith, z))
formula_up d cs class rows values i depth ts all p (form.All f) q (form.Eq v w) b e =
    let x = signed_parts d cs p q (form.All (plain (at_formula (depth + 1) ts f))) (form.Eq v w) tt tt e in let z = one_head d cs (form.All (plain (at_formula (depth + 1) ts f))) (form.Eq v w) x.1 in absurd (omega (arith, z))
formula_up d cs class rows values i depth ts all p (form.All f) q (form.Atom s us) b e =
    let x = signed_parts d cs p q (form.All (plain (at_formula (depth + 1) ts f))) (form.Atom s us) tt tt e in let z = one_head d cs (form.All (plain (at_formula (depth + 1) ts f))) (form.Atom s us) x.1 in absurd (omega (arith, z))
formula_up d cs class rows values i depth ts all p (form.All f) q (form.And g k) b e =
    let x = signed_parts d cs p q (form.All (plain (at_formula (depth + 1) ts f))) (form.And (plain g) (plain k)) tt tt e in let z = one_head d cs (form.All (plain (at_formula (depth + 1) ts f))) (form.And (plain g) (plain k)) x.1 in absurd (omega (arith, z))
formula_up d cs class rows values i depth ts all p (form.All f) q (form.All g) b e =
    let x = signed_parts d cs p q (form.All (plain (at_formula (depth + 1) ts f))) (form.All (plain g)) tt tt e in
    (x.0, formula_up d cs class rows values i (depth + 1) ts all true f true g (λ v m. b v (in_body g (TermExpression v) m)) (congruent_all d cs (plain (at_formula (depth + 1) ts f)) (plain g) x.1))
