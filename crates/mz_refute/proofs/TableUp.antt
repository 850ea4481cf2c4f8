-- What has a value by the facts has its class by rows.
use Rattle.std.proofs.Common.{◌≡◌, ◌<◌, ◌⊎◌, inl, inr, ℕ, zero, suc, List, [], ◌∷◌, length, map, refl, arith, ap, sym, ◌∙◌, subst, true, false, get_or, eq-eqb}
use Rattle.std.specs.Prelude.{◌-◌, ◌+◌, slice_get, Some}
use Rattle.std.proofs.lemmas.Bool.Decides.{leb_tells}
use Rattle.mz_logic.specs.Term as term
use Rattle.mz_logic.specs.Term.{Term, Terms, Bound, Const, App, list_of, terms_of}
use Rattle.mz_logic.specs.TermStorage.{list_of-terms_of, terms_of-inj}
use Rattle.mz_logic.specs.Indices.{closed}
use Rattle.mz_logic.specs.declared.literal.Literal.TheVariants.{Eq}
use Rattle.mz_logic.specs.declared.disjunct.Disjunct.{Disjunct}
use Rattle.mz_ground.specs.declared.clause.Clause.{Clause}
use Rattle.mz_ground.specs.Layers.{IsGroundTerm}
use Rattle.mz_ground.specs.Facts.{Fact}
use Rattle.mz_refute.specs.Valued.{IsValued, AreValued, as_ground, by_arguments, no_values, and_values}
use Rattle.mz_match.specs.declared.row.Head.{Head}
use Rattle.mz_match.specs.declared.row.Head.TheVariants.{Constant, Functor, Disequal}
use Rattle.mz_match.specs.declared.row.Row.{Row}
use Rattle.mz_match.specs.Rows.{IsNone, has_value, Val, Vals, RowOn, OneValue}
use Rattle.mz_refute.specs.Tabled.{IsTabled}
use Rattle.mz_match.proofs.SomeLemmas.{some_map}
use Rattle.mz_refute.proofs.GroundLaws.{AllGround, all_closed}
use Rattle.mz_refute.proofs.ValueLaws.{value_parts, ground_value, value_closed, value_ground}
use Rattle.mz_refute.proofs.AtTerms.{at_term, at_args, at_list, at_inner, at_outer, at_free}

pub map_length : (class : Term → ℕ) (ts : List Term) → length (map class ts) ≡ length ts
map_length class [] = refl
map_length class (t ∷ ts) = ap suc (map_length class ts)

pub ground_at : (d : Disjunct) (cs : List Clause) (ts : List Term) (i : ℕ) (u : Term) → AllGround d cs ts → i < length ts → IsGroundTerm d cs (get_or ts i u)
ground_at d cs [] i u all h = absurd (omega arith)
ground_at d cs (t ∷ ts) zero u all h = all.0
ground_at d cs (t ∷ ts) (suc i) u all h = ground_at d cs ts i u all.1 (omega arith)

class_at : (class : Term → ℕ) (ts : List Term) (i : ℕ) (u : Term) → i < length ts → slice_get (map class ts) i ≡ Some (class (get_or ts i u))
class_at class [] i u h = absurd (omega arith)
class_at class (t ∷ ts) zero u h = refl
class_at class (t ∷ ts) (suc i) u h = class_at class ts i u (omega arith)

no_closed_index : (j : ℕ) → closed (Bound j) ≡ true → ⊥
no_closed_index j h = elim (leb_tells (suc j) 0) [ inl a ↦ omega (arith, a.1) | inr b ↦ let z = b.0 in cc ]

index_value : (d : Disjunct) (cs : List Clause) (x w : Term) (j : ℕ) → IsValued d cs x w → x ≡ Bound j → ⊥
index_value d cs x w j v e = no_closed_index j (subst (λ (z : Term). closed z ≡ true) e (value_closed d cs x w v))

constant_ground : (d : Disjunct) (cs : List Clause) (x w : Term) (n : ℕ) → IsValued d cs x w → x ≡ Const n → IsGroundTerm d cs (Const n) × Fact d cs (Eq true (Const n) w)
constant_ground d cs x w n (as_ground t y g f) e = (subst (λ (z : Term). IsGroundTerm d cs z) e g, subst (λ (z : Term). Fact d cs (Eq true z y)) e f)
constant_ground d cs x w n (by_arguments s ts us y a g f) e = cc

none_of : (vs : List ℕ) → vs ≡ [] → IsNone vs
none_of [] e = tt
none_of (v ∷ vs) e = cc

constant_up : (d : Disjunct) (cs : List Clause) (class : Term → ℕ) (rows : Head → List Row) (values : List ℕ) → IsTabled d cs class rows values → (depth : ℕ) (a : List ℕ) (x : Term) (n : ℕ) (w : Term) → IsValued d cs x w → x ≡ Const n → Val rows depth a (Const n) (class w)
unfolding Val
constant_up d cs class rows values h depth a x n w v e =
    let p = constant_ground d cs x w n v e in
    let q : class (Const n) ≡ class w = h.same (Const n) w p.1 in
    some_map (λ r. (r.args.items ≡ []) × (r.value ≡ class (Const n))) (λ r. (has_value (class w) r ≡ true) × IsNone r.args.items) (rows (Constant n))
    (λ r k. (eq-eqb r.value (class w) (k.1 ∙ q), none_of r.args.items k.0)) (h.constants n p.0)

mutual
  unfolding Val Vals

  pub val_up : (d : Disjunct) (cs : List Clause) (class : Term → ℕ) (rows : Head → List Row) (values : List ℕ) → IsTabled d cs class rows values → (depth : ℕ) (ts : List Term) → AllGround d cs ts → (t w : Term) → IsValued d cs (at_term depth ts t) w → Val rows depth (map class ts) t (class w)
  val_up d cs class rows values h depth ts all (Bound i) w v =
      elim (leb_tells (suc i) depth) [
        | inl k ↦ absurd (index_value d cs (at_term depth ts (Bound i)) w i v (at_inner depth ts i (omega (arith, k.1))))
        | inr k ↦ elim (leb_tells (depth + length ts) i) [
          | inl l ↦ absurd (index_value d cs (at_term depth ts (Bound i)) w (i - length ts) v (at_free depth ts i (omega (arith, l.1))))
          | inr l ↦
              let u : Term = Bound (i - length ts) in
              let lt : i - depth < length ts = omega (arith, k.1, l.1) in
              let x : IsValued d cs (get_or ts (i - depth) u) w = subst (λ (z : Term). IsValued d cs z w) (at_outer depth ts i (all_closed d cs ts all) (omega (arith, k.1))) v in
              let f : Fact d cs (Eq true (get_or ts (i - depth) u) w) = ground_value d cs (get_or ts (i - depth) u) w (ground_at d cs ts (i - depth) u all lt) x in
              (omega (arith, k.1), class_at class ts (i - depth) u lt ∙ ap (λ n. Some n) (h.same (get_or ts (i - depth) u) w f))
        ]
      ]
  val_up d cs class rows values h depth ts all (Const n) w v = constant_up d cs class rows values h depth (map class ts) (Const n) n w v refl
  val_up d cs class rows values h depth ts all (App s us) w v =
      let p = value_parts d cs (App s (at_args depth ts us)) w v s (map (at_term depth ts) (list_of us)) (ap (λ x. App s x) (at_list depth ts us)) in
      let z : p.ts ≡ map (at_term depth ts) (list_of us) = sym (terms_of-inj (map (at_term depth ts) (list_of us)) p.ts p.args) in
      let vs : AreValued d cs (map (at_term depth ts) (list_of us)) p.us = subst (λ (xs : List Term). AreValued d cs xs p.us) z p.values in
      let q : Vals rows depth (map class ts) us (map class p.us) = vals_up d cs class rows values h depth ts all us p.us vs in
      let e : class (App s (terms_of p.us)) ≡ class w = h.same (App s (terms_of p.us)) w p.fact in
      some_map (λ r. (r.args.items ≡ map class p.us) × (r.value ≡ class (App s (terms_of p.us)))) (λ r. (has_value (class w) r ≡ true) × Vals rows depth (map class ts) us r.args.items) (rows (Functor s))
      (λ r k. (eq-eqb r.value (class w) (k.1 ∙ e), subst (λ (ns : List ℕ). Vals rows depth (map class ts) us ns) (sym k.0) q)) (h.functors s p.us p.ground)

  pub vals_up : (d : Disjunct) (cs : List Clause) (class : Term → ℕ) (rows : Head → List Row) (values : List ℕ) → IsTabled d cs class rows values → (depth : ℕ) (ts : List Term) → AllGround d cs ts → (us : Terms) (ws : List Term) → AreValued d cs (map (at_term depth ts) (list_of us)) ws → Vals rows depth (map class ts) us (map class ws)
  vals_up d cs class rows values h depth ts all term.none ws no_values = tt
  vals_up d cs class rows values h depth ts all (term.more u us) ws (and_values x w xs ys v r) = (val_up d cs class rows values h depth ts all u w v, vals_up d cs class rows values h depth ts all us ys r)

pub list_up : (d : Disjunct) (cs : List Clause) (class : Term → ℕ) (rows : Head → List Row) (values : List ℕ) → IsTabled d cs class rows values → (ts : List Term) → AllGround d cs ts → (us ws : List Term) (ns : List ℕ) → AreValued d cs (map (at_term 0 ts) us) ws → ns ≡ map class ws → Vals rows 0 (map class ts) (terms_of us) ns
list_up d cs class rows values h ts all us ws ns v e =
    subst (λ (xs : List ℕ). Vals rows 0 (map class ts) (terms_of us) xs) (sym e)
    (vals_up d cs class rows values h 0 ts all (terms_of us) ws (subst (λ (xs : List Term). AreValued d cs (map (at_term 0 ts) xs) ws) (sym (list_of-terms_of us)) v))

pub equal_up : (d : Disjunct) (cs : List Clause) (class : Term → ℕ) (rows : Head → List Row) (values : List ℕ) → IsTabled d cs class rows values → (ts : List Term) → AllGround d cs ts → (t u w : Term) → IsValued d cs (at_term 0 ts t) w → IsValued d cs (at_term 0 ts u) w → OneValue rows values (map class ts) t u
unfolding OneValue
equal_up d cs class rows values h ts all t (Const n) w a b = (class w, (val_up d cs class rows values h 0 ts all t w a, val_up d cs class rows values h 0 ts all (Const n) w b))
equal_up d cs class rows values h ts all t (App s us) w a b = (class w, (val_up d cs class rows values h 0 ts all t w a, val_up d cs class rows values h 0 ts all (App s us) w b))
equal_up d cs class rows values h ts all (Bound i) (Bound j) w a b =
    some_map (λ v. v ≡ class w) (λ v. Val rows 0 (map class ts) (Bound i) v × Val rows 0 (map class ts) (Bound j) v) values
    (λ v e. (subst (λ (n : ℕ). Val rows 0 (map class ts) (Bound i) n) (sym e) (val_up d cs class rows values h 0 ts all (Bound i) w a), subst (λ (n : ℕ). Val rows 0 (map class ts) (Bound j) n) (sym e) (val_up d cs class rows values h 0 ts all (Bound j) w b)))
    (h.value w (value_ground d cs (at_term 0 ts (Bound i)) w a))
equal_up d cs class rows values h ts all (Const n) (Bound j) w a b = (class w, (val_up d cs class rows values h 0 ts all (Const n) w a, val_up d cs class rows values h 0 ts all (Bound j) w b))
equal_up d cs class rows values h ts all (App s us) (Bound j) w a b = (class w, (val_up d cs class rows values h 0 ts all (App s us) w a, val_up d cs class rows values h 0 ts all (Bound j) w b))

pub sides_up : (d : Disjunct) (cs : List Clause) (class : Term → ℕ) (rows : Head → List Row) (values : List ℕ) → IsTabled d cs class rows values → (ts : List Term) → AllGround d cs ts → (t u v w : Term) → IsValued d cs (at_term 0 ts t) v → IsValued d cs (at_term 0 ts u) w → Fact d cs (Eq false v w) → RowOn rows (map class ts) Disequal (term.more t (term.more u term.none)) ⊎ RowOn rows (map class ts) Disequal (term.more u (term.more t term.none))
unfolding RowOn
sides_up d cs class rows values h ts all t u v w a b f =
    elim (h.differ v w f) [
      | inl k ↦ inl (some_map (λ r. r.args.items ≡ class v ∷ class w ∷ []) (λ r. Vals rows 0 (map class ts) (term.more t (term.more u term.none)) r.args.items) (rows Disequal)
          (λ r e. list_up d cs class rows values h ts all (t ∷ u ∷ []) (v ∷ w ∷ []) r.args.items (and_values (at_term 0 ts t) v (at_term 0 ts u ∷ []) (w ∷ []) a (and_values (at_term 0 ts u) w [] [] b no_values)) e) k)
      | inr k ↦ inr (some_map (λ r. r.args.items ≡ class w ∷ class v ∷ []) (λ r. Vals rows 0 (map class ts) (term.more u (term.more t term.none)) r.args.items) (rows Disequal)
          (λ r e. list_up d cs class rows values h ts all (u ∷ t ∷ []) (w ∷ v ∷ []) r.args.items (and_values (at_term 0 ts u) w (at_term 0 ts t ∷ []) (v ∷ []) b (and_values (at_term 0 ts t) v [] [] a no_values)) e) k)
    ]
