-- What rows refute, the facts refute.
use Rattle.std.proofs.Common.{◌≡◌, inl, inr, ℕ, zero, suc, List, [], ◌∷◌, length, map, refl, ap, sym, ◌∙◌, subst, true, false, get_or, eqb-true}
use Rattle.std.specs.Prelude.{◌-◌, Contains, slice_get, Some}
use Rattle.std.specs.List.{list_all}
use Rattle.mz_logic.specs.declared.sym.Sym.{Sym}
use Rattle.mz_logic.specs.Term as term
use Rattle.mz_logic.specs.Term.{Term, Terms, Bound, Const, App, list_of, terms_of}
use Rattle.mz_logic.specs.TermStorage.{list_of-terms_of}
use Rattle.mz_logic.specs.Indices.{closed}
use Rattle.mz_logic.specs.declared.literal.Literal.TheVariants.{Eq}
use Rattle.mz_logic.specs.declared.disjunct.Disjunct.{Disjunct}
use Rattle.mz_ground.specs.declared.clause.Clause.{Clause}
use Rattle.mz_ground.specs.Layers.{IsGroundTerm}
use Rattle.mz_ground.specs.Facts.{Fact, reflexive}
use Rattle.mz_refute.specs.Valued.{IsValued, AreValued, by_arguments, no_values, and_values}
use Rattle.mz_match.specs.declared.row.Head.{Head}
use Rattle.mz_match.specs.declared.row.Head.TheVariants.{Constant, Functor, Disequal}
use Rattle.mz_match.specs.declared.row.Row.{Row}
use Rattle.mz_match.specs.Rows.{SomeOf, IsNone, has_value, Val, Vals, RowOn, OneValue}
use Rattle.mz_refute.specs.Tabled.{IsTabled, StandsFor}
use Rattle.mz_refute.proofs.GroundLaws.{AllGround, member_head, member_tail, ground_closed, parts_ground, fact_ground}
use Rattle.mz_refute.proofs.ValueLaws.{value_self, value_moves}
use Rattle.mz_refute.proofs.AtTerms.{at_term, at_list, at_outer}

-- a member with what is said of some member
pub some_in : {X : Type 0} (P : X → Type 0) (xs : List X) → SomeOf P xs → (x : X) × (Contains xs x × P x)
some_in P [] h = absurd h
some_in P (x ∷ xs) h = elim h [ inl a ↦ (x, (member_head x xs, a)) | inr b ↦ let y = some_in P xs b in (y.0, (member_tail y.0 x xs y.1.0, y.1.1)) ]

-- terms that stand for classes
abbrev pub AllStand : Disjunct → List Clause → (Term → ℕ) → List ℕ → List Term → Type 0
AllStand d cs class [] [] = Unit {0}
AllStand d cs class [] (t ∷ ts) = ⊥
AllStand d cs class (v ∷ a) [] = ⊥
AllStand d cs class (v ∷ a) (t ∷ ts) = StandsFor d cs class v t × AllStand d cs class a ts

pub stand_length : (d : Disjunct) (cs : List Clause) (class : Term → ℕ) (a : List ℕ) (ts : List Term) → AllStand d cs class a ts → length a ≡ length ts
stand_length d cs class [] [] h = refl
stand_length d cs class [] (t ∷ ts) h = absurd h
stand_length d cs class (v ∷ a) [] h = absurd h
stand_length d cs class (v ∷ a) (t ∷ ts) h = ap suc (stand_length d cs class a ts h.1)

pub stand_closed : (d : Disjunct) (cs : List Clause) (class : Term → ℕ) (a : List ℕ) (ts : List Term) → AllStand d cs class a ts → list_all closed ts ≡ true
stand_closed d cs class [] [] h = refl
stand_closed d cs class [] (t ∷ ts) h = absurd h
stand_closed d cs class (v ∷ a) [] h = absurd h
stand_closed d cs class (v ∷ a) (t ∷ ts) h = rw (ground_closed d cs t h.0.0, stand_closed d cs class a ts h.1) refl

-- the number is that of a class
pub record IsClass (d : Disjunct) (cs : List Clause) (class : Term → ℕ) (v : ℕ) : Type 0 where
  pub term : Term
  pub ground : IsGroundTerm d cs term
  pub is : class term ≡ v

-- the term has a value of the class v
pub record HasClass (d : Disjunct) (cs : List Clause) (class : Term → ℕ) (t : Term) (v : ℕ) : Type 0 where
  pub value : Term
  pub ground : IsGroundTerm d cs value
  pub is : class value ≡ v
  pub valued : IsValued d cs t value

stand_at : (d : Disjunct) (cs : List Clause) (class : Term → ℕ) (a : List ℕ) (ts : List Term) → AllStand d cs class a ts → (i v : ℕ) (u : Term) → slice_get a i ≡ Some v → IsClass d cs class v → IsGroundTerm d cs (get_or ts i u) × (class (get_or ts i u) ≡ v)
stand_at d cs class [] [] h i v u e c = cc
stand_at d cs class [] (t ∷ ts) h i v u e c = absurd h
stand_at d cs class (x ∷ a) [] h i v u e c = absurd h
stand_at d cs class (x ∷ a) (t ∷ ts) h zero v u e c =
    let q : x ≡ v = cc in
    (h.0.0, h.0.1 c.term c.ground (c.is ∙ sym q) ∙ q)
stand_at d cs class (x ∷ a) (t ∷ ts) h (suc i) v u e c = stand_at d cs class a ts h.1 i v u e c

mutual
  unfolding Val Vals

  pub val_down : (d : Disjunct) (cs : List Clause) (class : Term → ℕ) (rows : Head → List Row) (values : List ℕ) → IsTabled d cs class rows values → (depth : ℕ) (a : List ℕ) (ts : List Term) → AllStand d cs class a ts → (t : Term) (v : ℕ) → IsClass d cs class v → Val rows depth a t v → HasClass d cs class (at_term depth ts t) v
  val_down d cs class rows values h depth a ts all (Bound i) v c k =
      let u : Term = Bound (i - length ts) in
      let p = stand_at d cs class a ts all (i - depth) v u k.1 c in
      let e : at_term depth ts (Bound i) ≡ get_or ts (i - depth) u = at_outer depth ts i (stand_closed d cs class a ts all) k.0 in
      record { value = get_or ts (i - depth) u; ground = p.0; is = p.1; valued = subst (λ (x : Term). IsValued d cs x (get_or ts (i - depth) u)) (sym e) (value_self d cs (get_or ts (i - depth) u) p.0) }
  val_down d cs class rows values h depth a ts all (Const n) v c k =
      let x = some_in (λ r. (has_value v r ≡ true) × IsNone r.args.items) (rows (Constant n)) k in
      let m = h.means (Constant n) x.0 x.1.0 in
      record { value = Const n; ground = m.1; is = m.2 ∙ eqb-true x.0.value v x.1.1.0; valued = value_self d cs (Const n) m.1 }
  val_down d cs class rows values h depth a ts all (App s us) v c k =
      let x = some_in (λ r. (has_value v r ≡ true) × Vals rows depth a us r.args.items) (rows (Functor s)) k in
      let m = h.means (Functor s) x.0 x.1.0 in
      let ws : List Term = m.0 in
      let vs : AreValued d cs (map (at_term depth ts) (list_of us)) ws = vals_down d cs class rows values h depth a ts all us ws (parts_ground d cs s ws m.1) (subst (λ (ns : List ℕ). Vals rows depth a us ns) m.2 x.1.1.1) in
      let w : Term = App s (terms_of ws) in
      let y : IsValued d cs (App s (terms_of (map (at_term depth ts) (list_of us)))) w = by_arguments s (map (at_term depth ts) (list_of us)) ws w vs m.1 (reflexive w m.1) in
      record { value = w; ground = m.1; is = m.3 ∙ eqb-true x.0.value v x.1.1.0; valued = subst (λ (xs : Terms). IsValued d cs (App s xs) w) (sym (at_list depth ts us)) y }

  pub vals_down : (d : Disjunct) (cs : List Clause) (class : Term → ℕ) (rows : Head → List Row) (values : List ℕ) → IsTabled d cs class rows values → (depth : ℕ) (a : List ℕ) (ts : List Term) → AllStand d cs class a ts → (us : Terms) (ws : List Term) → AllGround d cs ws → Vals rows depth a us (map class ws) → AreValued d cs (map (at_term depth ts) (list_of us)) ws
  vals_down d cs class rows values h depth a ts all term.none [] g k = no_values
  vals_down d cs class rows values h depth a ts all term.none (w ∷ ws) g k = absurd k
  vals_down d cs class rows values h depth a ts all (term.more u us) [] g k = absurd k
  vals_down d cs class rows values h depth a ts all (term.more u us) (w ∷ ws) g k =
      let m = val_down d cs class rows values h depth a ts all u (class w) (record { term = w; ground = g.0; is = refl }) k.0 in
      and_values (at_term depth ts u) w (map (at_term depth ts) (list_of us)) ws (value_moves d cs (at_term depth ts u) m.value w m.valued (h.one m.value w m.ground g.0 m.is)) (vals_down d cs class rows values h depth a ts all us ws g.1 k.1)

pub args_down : (d : Disjunct) (cs : List Clause) (class : Term → ℕ) (rows : Head → List Row) (values : List ℕ) → IsTabled d cs class rows values → (a : List ℕ) (ts : List Term) → AllStand d cs class a ts → (us ws : List Term) (ns : List ℕ) → AllGround d cs ws → ns ≡ map class ws → Vals rows 0 a (terms_of us) ns → AreValued d cs (map (at_term 0 ts) us) ws
args_down d cs class rows values h a ts all us ws ns g e k =
    subst (λ (xs : List Term). AreValued d cs (map (at_term 0 ts) xs) ws) (list_of-terms_of us)
    (vals_down d cs class rows values h 0 a ts all (terms_of us) ws g (subst (λ (vs : List ℕ). Vals rows 0 a (terms_of us) vs) e k))

-- a term that is no variable has a class of a ground term
pub constant_class : (d : Disjunct) (cs : List Clause) (class : Term → ℕ) (rows : Head → List Row) (values : List ℕ) → IsTabled d cs class rows values → (depth : ℕ) (a : List ℕ) (n v : ℕ) → Val rows depth a (Const n) v → IsClass d cs class v
unfolding Val
constant_class d cs class rows values h depth a n v k =
    let x = some_in (λ r. (has_value v r ≡ true) × IsNone r.args.items) (rows (Constant n)) k in
    let m = h.means (Constant n) x.0 x.1.0 in
    record { term = Const n; ground = m.1; is = m.2 ∙ eqb-true x.0.value v x.1.1.0 }

pub functor_class : (d : Disjunct) (cs : List Clause) (class : Term → ℕ) (rows : Head → List Row) (values : List ℕ) → IsTabled d cs class rows values → (depth : ℕ) (a : List ℕ) (s : Sym) (us : Terms) (v : ℕ) → Val rows depth a (App s us) v → IsClass d cs class v
unfolding Val
functor_class d cs class rows values h depth a s us v k =
    let x = some_in (λ r. (has_value v r ≡ true) × Vals rows depth a us r.args.items) (rows (Functor s)) k in
    let m = h.means (Functor s) x.0 x.1.0 in
    record { term = App s (terms_of m.0); ground = m.1; is = m.3 ∙ eqb-true x.0.value v x.1.1.0 }

-- two terms of one class have one value
pub record OneTermFor (d : Disjunct) (cs : List Clause) (t u : Term) : Type 0 where
  pub value : Term
  pub first : IsValued d cs t value
  pub second : IsValued d cs u value

pub one_down : (d : Disjunct) (cs : List Clause) (class : Term → ℕ) (rows : Head → List Row) (values : List ℕ) → IsTabled d cs class rows values → (depth : ℕ) (a : List ℕ) (ts : List Term) → AllStand d cs class a ts → (t u : Term) (v : ℕ) → IsClass d cs class v → Val rows depth a t v → Val rows depth a u v → OneTermFor d cs (at_term depth ts t) (at_term depth ts u)
one_down d cs class rows values h depth a ts all t u v c k l =
    let x = val_down d cs class rows values h depth a ts all t v c k in
    let y = val_down d cs class rows values h depth a ts all u v c l in
    record { value = x.value; first = x.valued; second = value_moves d cs (at_term depth ts u) y.value x.value y.valued (h.one y.value x.value y.ground x.ground (y.is ∙ sym x.is)) }

pub equal_down : (d : Disjunct) (cs : List Clause) (class : Term → ℕ) (rows : Head → List Row) (values : List ℕ) → IsTabled d cs class rows values → (a : List ℕ) (ts : List Term) → AllStand d cs class a ts → (t u : Term) → OneValue rows values a t u → OneTermFor d cs (at_term 0 ts t) (at_term 0 ts u)
unfolding OneValue
equal_down d cs class rows values h a ts all t (Const n) k = one_down d cs class rows values h 0 a ts all t (Const n) k.0 (constant_class d cs class rows values h 0 a n k.0 k.1.1) k.1.0 k.1.1
equal_down d cs class rows values h a ts all t (App s us) k = one_down d cs class rows values h 0 a ts all t (App s us) k.0 (functor_class d cs class rows values h 0 a s us k.0 k.1.1) k.1.0 k.1.1
equal_down d cs class rows values h a ts all (Bound i) (Bound j) k =
    let x = some_in (λ v. Val rows 0 a (Bound i) v × Val rows 0 a (Bound j) v) values k in
    let t = h.term x.0 x.1.0 in
    one_down d cs class rows values h 0 a ts all (Bound i) (Bound j) x.0 (record { term = t.0; ground = t.1; is = t.2 }) x.1.1.0 x.1.1.1
equal_down d cs class rows values h a ts all (Const n) (Bound j) k = one_down d cs class rows values h 0 a ts all (Const n) (Bound j) k.0 (constant_class d cs class rows values h 0 a n k.0 k.1.0) k.1.0 k.1.1
equal_down d cs class rows values h a ts all (App s us) (Bound j) k = one_down d cs class rows values h 0 a ts all (App s us) (Bound j) k.0 (functor_class d cs class rows values h 0 a s us k.0 k.1.0) k.1.0 k.1.1

-- the sides of a row of a disequation
pub record SidesDown (d : Disjunct) (cs : List Clause) (t u : Term) : Type 0 where
  pub v : Term
  pub w : Term
  pub left : IsValued d cs t v
  pub right : IsValued d cs u w
  pub fact : Fact d cs (Eq false v w)

two_values : (d : Disjunct) (cs : List Clause) (t u v w : Term) (ts : List Term) → AreValued d cs (at_term 0 ts t ∷ at_term 0 ts u ∷ []) (v ∷ w ∷ []) → IsValued d cs (at_term 0 ts t) v × IsValued d cs (at_term 0 ts u) w
two_values d cs t u v w ts (and_values x y xs ys a (and_values x2 y2 xs2 ys2 b no_values)) = (a, b)

pub sides_down : (d : Disjunct) (cs : List Clause) (class : Term → ℕ) (rows : Head → List Row) (values : List ℕ) → IsTabled d cs class rows values → (a : List ℕ) (ts : List Term) → AllStand d cs class a ts → (t u : Term) → RowOn rows a Disequal (term.more t (term.more u term.none)) → SidesDown d cs (at_term 0 ts t) (at_term 0 ts u)
unfolding RowOn
sides_down d cs class rows values h a ts all t u k =
    let x = some_in (λ r. Vals rows 0 a (term.more t (term.more u term.none)) r.args.items) (rows Disequal) k in
    let m = h.means Disequal x.0 x.1.0 in
    let g = fact_ground d cs (Eq false m.0 m.1) m.2 in
    let vs : AreValued d cs (at_term 0 ts t ∷ at_term 0 ts u ∷ []) (m.0 ∷ m.1 ∷ []) = args_down d cs class rows values h a ts all (t ∷ u ∷ []) (m.0 ∷ m.1 ∷ []) x.0.args.items (g.0, (g.1, tt)) m.3 x.1.1 in
    let y = two_values d cs t u m.0 m.1 ts vs in
    record { v = m.0; w = m.1; left = y.0; right = y.1; fact = m.2 }
