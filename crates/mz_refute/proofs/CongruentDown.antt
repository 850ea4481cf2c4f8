-- Terms that are congruent by rows are congruent by the facts.
use Rattle.std.proofs.Common.{◌≡◌, inl, inr, ℕ, List, length, map, refl, arith, ap, sym, ◌∙◌, subst, Bool, true}
use Rattle.std.specs.Prelude.{◌+◌, not}
use Rattle.mz_logic.specs.declared.sym.Sym.{Sym}
use Rattle.mz_logic.specs.Term as term
use Rattle.mz_logic.specs.Term.{Term, Terms, Bound, Const, App, list_of, terms_of}
use Rattle.mz_logic.specs.TermStorage.{list_of-terms_of, terms_of-list_of}
use Rattle.mz_logic.specs.Indices.{closed}
use Rattle.mz_logic.specs.Formula as form
use Rattle.mz_logic.specs.Formula.{Formula}
use Rattle.mz_logic.specs.declared.disjunct.Disjunct.{Disjunct}
use Rattle.mz_ground.specs.declared.clause.Clause.{Clause}
use Rattle.mz_refute.specs.Valued.{IsValued}
use Rattle.mz_refute.specs.EqualModuloFacts.{plain, EqualModuloFacts, in_value, one_index, one_symbol, AllEqualModuloFacts, no_terms, and_terms, FormulasEqualModuloFacts, truths, equations, atoms, conjunctions, universals}
use Rattle.mz_match.specs.declared.row.Head.{Head}
use Rattle.mz_match.specs.declared.row.Row.{Row}
use Rattle.mz_match.specs.RowsCongruent.{IsIndex, AreCongruent, AllCongruent, AreCongruentFormulas}
use Rattle.mz_refute.specs.Tabled.{IsTabled}
use Rattle.mz_refute.proofs.AtTerms.{at_term, at_args, at_formula, at_list, at_inner, at_free, at_closed}
use Rattle.mz_refute.proofs.TableDown.{AllStand, stand_length, OneTermFor, one_down, constant_class, functor_class}
use Rattle.mz_refute.proofs.Signs.{signed_plain, signed_not, are_congruent_signed}
use Rattle.mz_match.proofs.SymbolLaws.{same_sym-true}

index_down : (d : Disjunct) (cs : List Clause) (class : Term → ℕ) (depth : ℕ) (a : List ℕ) (ts : List Term) → AllStand d cs class a ts → (t : Term) (j : ℕ) → IsIndex depth a t j → EqualModuloFacts d cs (at_term depth ts t) (Bound j)
index_down d cs class depth a ts all (Bound i) j h =
    elim h [
      | inl p ↦ subst (λ (x : Term). EqualModuloFacts d cs x (Bound j)) (sym (at_inner depth ts i p.0 ∙ ap (λ n. Bound n) p.1)) (one_index j)
      | inr p ↦
          let l : length a ≡ length ts = stand_length d cs class a ts all in
          subst (λ (x : Term). EqualModuloFacts d cs x (Bound j)) (sym (at_free depth ts i (omega (arith, p.0, l)) ∙ ap (λ n. Bound n) (omega (arith, p.1, l)))) (one_index j)
    ]
index_down d cs class depth a ts all (Const n) j h = absurd h
index_down d cs class depth a ts all (App s us) j h = absurd h

value_down : (d : Disjunct) (cs : List Clause) (class : Term → ℕ) (rows : Head → List Row) (values : List ℕ) → IsTabled d cs class rows values → (depth : ℕ) (a : List ℕ) (ts : List Term) → AllStand d cs class a ts → (t u : Term) → closed u ≡ true → OneTermFor d cs (at_term depth ts t) (at_term depth ts u) → EqualModuloFacts d cs (at_term depth ts t) u
value_down d cs class rows values i depth a ts all t u c h =
    in_value (at_term depth ts t) u h.value h.first (subst (λ (x : Term). IsValued d cs x h.value) (at_closed depth ts u c) h.second)

congruent_terms_of : (d : Disjunct) (cs : List Clause) (s : Sym) (xs ys : List Term) (x y : Terms) → x ≡ terms_of xs → y ≡ terms_of ys → AllEqualModuloFacts d cs xs ys → EqualModuloFacts d cs (App s x) (App s y)
congruent_terms_of d cs s xs ys x y e k a =
    subst (λ (z : Terms). EqualModuloFacts d cs (App s z) (App s y)) (sym e) (subst (λ (z : Terms). EqualModuloFacts d cs (App s (terms_of xs)) (App s z)) (sym k) (one_symbol s xs ys a))

mutual
  unfolding AreCongruent AllCongruent

  pub term_down : (d : Disjunct) (cs : List Clause) (class : Term → ℕ) (rows : Head → List Row) (values : List ℕ) → IsTabled d cs class rows values → (depth : ℕ) (a : List ℕ) (ts : List Term) → AllStand d cs class a ts → (t u : Term) → AreCongruent rows depth a t u → EqualModuloFacts d cs (at_term depth ts t) u
  term_down d cs class rows values i depth a ts all t (Bound j) h = index_down d cs class depth a ts all t j h
  term_down d cs class rows values i depth a ts all t (Const n) h =
      value_down d cs class rows values i depth a ts all t (Const n) refl (one_down d cs class rows values i depth a ts all t (Const n) h.0 (constant_class d cs class rows values i depth a n h.0 h.1.1) h.1.0 h.1.1)
  term_down d cs class rows values i depth a ts all (Bound m) (App s us) h =
      value_down d cs class rows values i depth a ts all (Bound m) (App s us) h.0 (one_down d cs class rows values i depth a ts all (Bound m) (App s us) h.1.0 (functor_class d cs class rows values i depth a s us h.1.0 h.1.1.1) h.1.1.0 h.1.1.1)
  term_down d cs class rows values i depth a ts all (Const n) (App s us) h =
      value_down d cs class rows values i depth a ts all (Const n) (App s us) h.0 (one_down d cs class rows values i depth a ts all (Const n) (App s us) h.1.0 (functor_class d cs class rows values i depth a s us h.1.0 h.1.1.1) h.1.1.0 h.1.1.1)
  term_down d cs class rows values i depth a ts all (App r vs) (App s us) h =
      elim h [
        | inl x ↦ value_down d cs class rows values i depth a ts all (App r vs) (App s us) x.0 (one_down d cs class rows values i depth a ts all (App r vs) (App s us) x.1.0 (functor_class d cs class rows values i depth a s us x.1.0 x.1.1.1) x.1.1.0 x.1.1.1)
        | inr x ↦
            let q : r ≡ s = same_sym-true r s x.1 in
            let y : AllEqualModuloFacts d cs (map (at_term depth ts) (list_of vs)) (list_of us) = terms_down d cs class rows values i depth a ts all vs us x.2 in
            subst (λ (k : Sym). EqualModuloFacts d cs (App k (at_args depth ts vs)) (App s us)) (sym q)
            (congruent_terms_of d cs s (map (at_term depth ts) (list_of vs)) (list_of us) (at_args depth ts vs) us (at_list depth ts vs) (sym (terms_of-list_of us)) y)
      ]

  pub terms_down : (d : Disjunct) (cs : List Clause) (class : Term → ℕ) (rows : Head → List Row) (values : List ℕ) → IsTabled d cs class rows values → (depth : ℕ) (a : List ℕ) (ts : List Term) → AllStand d cs class a ts → (vs us : Terms) → AllCongruent rows depth a vs us → AllEqualModuloFacts d cs (map (at_term depth ts) (list_of vs)) (list_of us)
  terms_down d cs class rows values i depth a ts all term.none term.none h = no_terms
  terms_down d cs class rows values i depth a ts all term.none (term.more u us) h = absurd h
  terms_down d cs class rows values i depth a ts all (term.more v vs) term.none h = absurd h
  terms_down d cs class rows values i depth a ts all (term.more v vs) (term.more u us) h =
      and_terms (at_term depth ts v) u (map (at_term depth ts) (list_of vs)) (list_of us) (term_down d cs class rows values i depth a ts all v u h.0) (terms_down d cs class rows values i depth a ts all vs us h.1)

list_down : (d : Disjunct) (cs : List Clause) (class : Term → ℕ) (rows : Head → List Row) (values : List ℕ) → IsTabled d cs class rows values → (depth : ℕ) (a : List ℕ) (ts : List Term) → AllStand d cs class a ts → (vs us : List Term) → AllCongruent rows depth a (terms_of vs) (terms_of us) → AllEqualModuloFacts d cs (map (at_term depth ts) vs) us
list_down d cs class rows values i depth a ts all vs us h =
    subst (λ (xs : List Term). AllEqualModuloFacts d cs (map (at_term depth ts) xs) us) (list_of-terms_of vs)
    (subst (λ (ys : List Term). AllEqualModuloFacts d cs (map (at_term depth ts) (list_of (terms_of vs))) ys) (list_of-terms_of us) (terms_down d cs class rows values i depth a ts all (terms_of vs) (terms_of us) h))

pub formula_down : (d : Disjunct) (cs : List Clause) (class : Term → ℕ) (rows : Head → List Row) (values : List ℕ) → IsTabled d cs class rows values → (depth : ℕ) (a : List ℕ) (ts : List Term) → AllStand d cs class a ts → (p : Bool) (f : Formula) (q : Bool) (g : Formula) → AreCongruentFormulas rows depth a p f q g → FormulasEqualModuloFacts d cs (signed_plain p (at_formula depth ts f)) (signed_plain q g)
unfolding AreCongruentFormulas
formula_down d cs class rows values i depth a ts all p (form.Not f) q g h =
    subst (λ (x : Formula). FormulasEqualModuloFacts d cs x (signed_plain q g)) (sym (signed_not p (at_formula depth ts f))) (formula_down d cs class rows values i depth a ts all (not p) f q g h)
formula_down d cs class rows values i depth a ts all p form.Truth q (form.Not g) h =
    subst (λ (x : Formula). FormulasEqualModuloFacts d cs (signed_plain p (at_formula depth ts form.Truth)) x) (sym (signed_not q g)) (formula_down d cs class rows values i depth a ts all p form.Truth (not q) g h)
formula_down d cs class rows values i depth a ts all p form.Truth q form.Truth h =
    are_congruent_signed d cs p q form.Truth form.Truth tt tt h truths
formula_down d cs class rows values i depth a ts all p form.Truth q (form.Eq v w) h = absurd h
formula_down d cs class rows values i depth a ts all p form.Truth q (form.Atom s us) h = absurd h
formula_down d cs class rows values i depth a ts all p form.Truth q (form.And g k) h = absurd h
formula_down d cs class rows values i depth a ts all p form.Truth q (form.All g) h = absurd h
formula_down d cs class rows values i depth a ts all p (form.Eq t u) q (form.Not g) h =
    subst (λ (x : Formula). FormulasEqualModuloFacts d cs (signed_plain p (at_formula depth ts (form.Eq t u))) x) (sym (signed_not q g)) (formula_down d cs class rows values i depth a ts all p (form.Eq t u) (not q) g h)
formula_down d cs class rows values i depth a ts all p (form.Eq t u) q form.Truth h = absurd h
formula_down d cs class rows values i depth a ts all p (form.Eq t u) q (form.Eq v w) h =
    are_congruent_signed d cs p q (form.Eq (at_term depth ts t) (at_term depth ts u)) (form.Eq v w) tt tt h.0 (equations (at_term depth ts t) (at_term depth ts u) v w (term_down d cs class rows values i depth a ts all t v h.1) (term_down d cs class rows values i depth a ts all u w h.2))
formula_down d cs class rows values i depth a ts all p (form.Eq t u) q (form.Atom s us) h = absurd h
formula_down d cs class rows values i depth a ts all p (form.Eq t u) q (form.And g k) h = absurd h
formula_down d cs class rows values i depth a ts all p (form.Eq t u) q (form.All g) h = absurd h
formula_down d cs class rows values i depth a ts all p (form.Atom r vs) q (form.Not g) h =
    subst (λ (x : Formula). FormulasEqualModuloFacts d cs (signed_plain p (at_formula depth ts (form.Atom r vs))) x) (sym (signed_not q g)) (formula_down d cs class rows values i depth a ts all p (form.Atom r vs) (not q) g h)
formula_down d cs class rows values i depth a ts all p (form.Atom r vs) q form.Truth h = absurd h
formula_down d cs class rows values i depth a ts all p (form.Atom r vs) q (form.Eq v w) h = absurd h
formula_down d cs class rows values i depth a ts all p (form.Atom r vs) q (form.Atom s us) h =
    are_congruent_signed d cs p q (form.Atom r (map (at_term depth ts) vs)) (form.Atom s us) tt tt h.0 (subst (λ (k : Sym). FormulasEqualModuloFacts d cs (form.Atom k (map (at_term depth ts) vs)) (form.Atom s us)) (sym (same_sym-true r s h.1)) (atoms s (map (at_term depth ts) vs) us (list_down d cs class rows values i depth a ts all vs us h.2)))
formula_down d cs class rows values i depth a ts all p (form.Atom r vs) q (form.And g k) h = absurd h
formula_down d cs class rows values i depth a ts all p (form.Atom r vs) q (form.All g) h = absurd h
formula_down d cs class rows values i depth a ts all p (form.And f m) q (form.Not g) h =
    subst (λ (x : Formula). FormulasEqualModuloFacts d cs (signed_plain p (at_formula depth ts (form.And f m))) x) (sym (signed_not q g)) (formula_down d cs class rows values i depth a ts all p (form.And f m) (not q) g h)
formula_down d cs class rows values i depth a ts all p (form.And f m) q form.Truth h = absurd h
formula_down d cs class rows values i depth a ts all p (form.And f m) q (form.Eq v w) h = absurd h
formula_down d cs class rows values i depth a ts all p (form.And f m) q (form.Atom s us) h = absurd h
formula_down d cs class rows values i depth a ts all p (form.And f m) q (form.And g k) h =
    are_congruent_signed d cs p q (form.And (plain (at_formula depth ts f)) (plain (at_formula depth ts m))) (form.And (plain g) (plain k)) tt tt h.0 (conjunctions (plain (at_formula depth ts f)) (plain (at_formula depth ts m)) (plain g) (plain k) (formula_down d cs class rows values i depth a ts all true f true g h.1) (formula_down d cs class rows values i depth a ts all true m true k h.2))
formula_down d cs class rows values i depth a ts all p (form.And f m) q (form.All g) h = absurd h
formula_down d cs class rows values i depth a ts all p (form.All f) q (form.Not g) h =
    subst (λ (x : Formula). FormulasEqualModuloFacts d cs (signed_plain p (at_formula depth ts (form.All f))) x) (sym (signed_not q g)) (formula_down d cs class rows values i depth a ts all p (form.All f) (not q) g h)
formula_down d cs class rows values i depth a ts all p (form.All f) q form.Truth h = absurd h
formula_down d cs class rows values i depth a ts all p (form.All f) q (form.Eq v w) h = absurd h
formula_down d cs class rows values i depth a ts all p (form.All f) q (form.Atom s us) h = absurd h
formula_down d cs class rows values i depth a ts all p (form.All f) q (form.And g k) h = absurd h
formula_down d cs class rows values i depth a ts all p (form.All f) q (form.All g) h =
    are_congruent_signed d cs p q (form.All (plain (at_formula (depth + 1) ts f))) (form.All (plain g)) tt tt h.0 (universals (plain (at_formula (depth + 1) ts f)) (plain g) (formula_down d cs class rows values i (depth + 1) a ts all true f true g h.1))
