-- What is known of the class of a term is right of it.
use Rattle.std.proofs.Common.{◌≡◌, ◌≤◌, ◌-◌, inl, inr, ℕ, zero, suc, List, [], ◌∷◌, ◌++◌, refl, arith, ap, sym, ◌∙◌, Bool, true, subst, append-nil, append_assoc}
use Rattle.std.specs.Prelude.{slice_get, Option, None, Some, if◌then◌else◌}
use Rattle.std.proofs.lemmas.Bool.Decides.{leb_tells}
use Rattle.mz_logic.specs.Term as term
use Rattle.mz_logic.specs.Term.{Term, Terms, Bound, Const, App}
use Rattle.mz_match.specs.Evaluate.{evaluate, evaluate_at, slot_value, variable_value, by_class}
use Rattle.mz_match.specs.Fitting.{Fits}
use Rattle.mz_match.specs.Rows.{SomeOf, IsNone, has_value, Val, Vals}
use Rattle.mz_match.specs.Slots.{Assignment, slot_at}
use Rattle.mz_match.specs.Table.{rows_of, value_of}
use Rattle.mz_match.specs.declared.row.Head.{Head}
use Rattle.mz_match.specs.declared.row.Head.TheVariants.{Constant, Functor}
use Rattle.mz_match.specs.declared.row.Row.{Row}
use Rattle.mz_match.specs.declared.table.Table.{Table}
use Rattle.mz_match.specs.declared.value.Value.{Value}
use Rattle.mz_match.specs.declared.value.Value.TheVariants.{Unknown, Nothing, Class}
use Rattle.mz_match.proofs.SomeLemmas.{some_map, some_none}
use Rattle.mz_match.proofs.ValueLemmas.{IsRow, ValueIs, value_map, table_value}

-- a variable
slice_get-slot_class : (e : Assignment) (a : List ℕ) (i v : ℕ) → Fits e a → slot_at e i ≡ Some v → slice_get a i ≡ Some v
slice_get-slot_class [] a i v f h = cc
slice_get-slot_class (None ∷ e) [] i v f h = absurd f
slice_get-slot_class (Some u ∷ e) [] i v f h = absurd f
slice_get-slot_class (None ∷ e) (w ∷ a) zero v f h = cc
slice_get-slot_class (Some u ∷ e) (w ∷ a) zero v f h = let q : u ≡ v = cc in ap (λ y. Some y) (sym f.0 ∙ q)
slice_get-slot_class (None ∷ e) (w ∷ a) (suc i) v f h = slice_get-slot_class e a i v f h
slice_get-slot_class (Some u ∷ e) (w ∷ a) (suc i) v f h = slice_get-slot_class e a i v f.1 h

one_class : (x : Option ℕ) (v w : ℕ) → x ≡ Some w → x ≡ Some v → v ≡ w
one_class x v w h k = let q : Some v ≡ Some w = sym k ∙ h in cc

slot_known : (e : Assignment) (a : List ℕ) (i : ℕ) → Fits e a → (x : Option ℕ) → slot_at e i ≡ x → ValueIs (λ v. slice_get a i ≡ Some v) (slot_value x)
slot_known e a i f None h = tt
slot_known e a i f (Some w) h = let q = slice_get-slot_class e a i w f h in (q, λ v p. one_class (slice_get a i) v w q p)

variable_known : (depth i : ℕ) (e : Assignment) (a : List ℕ) → Fits e a → ValueIs (λ v. (depth ≤ i) × (slice_get a (i - depth) ≡ Some v)) (variable_value depth i e)
variable_known depth i e a f =
    elim (leb_tells (suc i) depth) [
      | inl k ↦ subst (λ (b : Bool). ValueIs (λ v. (depth ≤ i) × (slice_get a (i - depth) ≡ Some v)) (if b then Nothing else slot_value (slot_at e (i - depth)))) (sym k.0) (λ v p. omega (arith, k.1, p.0))
      | inr k ↦
          let le : depth ≤ i = omega (arith, k.1) in
          subst (λ (b : Bool). ValueIs (λ v. (depth ≤ i) × (slice_get a (i - depth) ≡ Some v)) (if b then Nothing else slot_value (slot_at e (i - depth)))) (sym k.0)
          (value_map (λ v. slice_get a (i - depth) ≡ Some v) (λ v. (depth ≤ i) × (slice_get a (i - depth) ≡ Some v)) (slot_value (slot_at e (i - depth))) (λ v p. (le, p)) (λ v p. p.1) (slot_known e a (i - depth) f (slot_at e (i - depth)) refl))
    ]

-- a row whose first arguments are these and whose others are classes of the terms
pub record HasRest (table : Table) (depth : ℕ) (a vs : List ℕ) (ts : Terms) (r : Row) : Type 0 where
  pub rest : List ℕ
  pub args : r.args.items ≡ vs ++ rest
  pub classes : Vals (rows_of table) depth a ts rest

abbrev pub AtRest : Table → ℕ → List ℕ → List ℕ → Terms → ℕ → Row → Type 0
AtRest table depth a vs ts v r = (has_value v r ≡ true) × HasRest table depth a vs ts r

-- of the arguments the first
record HasFirst (table : Table) (depth : ℕ) (a : List ℕ) (t : Term) (ts : Terms) (us : List ℕ) : Type 0 where
  first : ℕ
  rest : List ℕ
  all : us ≡ first ∷ rest
  class : Val (rows_of table) depth a t first
  classes : Vals (rows_of table) depth a ts rest

has_first : (table : Table) (depth : ℕ) (a : List ℕ) (t : Term) (ts : Terms) (us : List ℕ) → Vals (rows_of table) depth a (term.more t ts) us → HasFirst table depth a t ts us
unfolding Vals
has_first table depth a t ts [] h = absurd h
has_first table depth a t ts (u ∷ us) h = record { first = u; rest = us; all = refl; class = h.0; classes = h.1 }

rest_more : (table : Table) (depth : ℕ) (a vs : List ℕ) (t : Term) (ts : Terms) (w : ℕ) (r : Row) → Val (rows_of table) depth a t w → HasRest table depth a (vs ++ w ∷ []) ts r → HasRest table depth a vs (term.more t ts) r
unfolding Vals
rest_more table depth a vs t ts w r x h = record { rest = w ∷ h.rest; args = h.args ∙ append_assoc vs (w ∷ []) h.rest; classes = (x, h.classes) }

rest_fewer : (table : Table) (depth : ℕ) (a vs : List ℕ) (t : Term) (ts : Terms) (w : ℕ) (r : Row) → ((u : ℕ) → Val (rows_of table) depth a t u → u ≡ w) → HasRest table depth a vs (term.more t ts) r → HasRest table depth a (vs ++ w ∷ []) ts r
rest_fewer table depth a vs t ts w r x h =
    let f = has_first table depth a t ts h.rest h.classes in
    let q : f.first ≡ w = x f.first f.class in
    record { rest = f.rest; args = h.args ∙ ap (λ ys. vs ++ ys) (f.all ∙ ap (λ y. y ∷ f.rest) q) ∙ sym (append_assoc vs (w ∷ []) f.rest); classes = f.classes }

class_step : (table : Table) (depth : ℕ) (a vs : List ℕ) (t : Term) (ts : Terms) (rs : List Row) (k : Value) (next : ℕ → Value) → ValueIs (λ v. Val (rows_of table) depth a t v) k → ((w : ℕ) → ValueIs (λ v. SomeOf (AtRest table depth a (vs ++ w ∷ []) ts v) rs) (next w)) → ValueIs (λ v. SomeOf (AtRest table depth a vs (term.more t ts) v) rs) (by_class k next)
class_step table depth a vs t ts rs Unknown next x f = tt
class_step table depth a vs t ts rs Nothing next x f =
    λ v p. some_none rs (some_map (AtRest table depth a vs (term.more t ts) v) (λ r. ⊥) rs (λ r c. let y = has_first table depth a t ts c.1.rest c.1.classes in x y.first y.class) p)
class_step table depth a vs t ts rs (Class w) next x f =
    value_map (λ v. SomeOf (AtRest table depth a (vs ++ w ∷ []) ts v) rs) (λ v. SomeOf (AtRest table depth a vs (term.more t ts) v) rs) (next w)
    (λ v p. some_map (AtRest table depth a (vs ++ w ∷ []) ts v) (AtRest table depth a vs (term.more t ts) v) rs (λ r c. (c.0, rest_more table depth a vs t ts w r x.0 c.1)) p)
    (λ v p. some_map (AtRest table depth a vs (term.more t ts) v) (AtRest table depth a (vs ++ w ∷ []) ts v) rs (λ r c. (c.0, rest_fewer table depth a vs t ts w r x.1 c.1)) p)
    (f w)

none_is : (us : List ℕ) → IsNone us → us ≡ []
none_is [] h = refl
none_is (u ∷ us) h = absurd h

is_none : (us : List ℕ) → us ≡ [] → IsNone us
is_none us e = subst (λ (xs : List ℕ). IsNone xs) (sym e) tt

rest_none : (table : Table) (depth : ℕ) (a vs : List ℕ) (r : Row) → HasRest table depth a vs term.none r → r.args.items ≡ vs
unfolding Vals
rest_none table depth a vs r h = h.args ∙ ap (λ ys. vs ++ ys) (none_is h.rest h.classes) ∙ append-nil vs

none_rest : (table : Table) (depth : ℕ) (a vs : List ℕ) (r : Row) → r.args.items ≡ vs → HasRest table depth a vs term.none r
unfolding Vals
none_rest table depth a vs r e = record { rest = []; args = e ∙ sym (append-nil vs); classes = tt }

pub rest_all : (table : Table) (depth : ℕ) (a : List ℕ) (ts : Terms) (r : Row) → HasRest table depth a [] ts r → Vals (rows_of table) depth a ts r.args.items
rest_all table depth a ts r h = subst (λ (us : List ℕ). Vals (rows_of table) depth a ts us) (sym h.args) h.classes

pub all_rest : (table : Table) (depth : ℕ) (a : List ℕ) (ts : Terms) (r : Row) → Vals (rows_of table) depth a ts r.args.items → HasRest table depth a [] ts r
all_rest table depth a ts r h = record { rest = r.args.items; args = refl; classes = h }

mutual
  unfolding Val

  pub evaluated : (table : Table) (depth : ℕ) (e : Assignment) (a : List ℕ) → Fits e a → (t : Term) → ValueIs (λ v. Val (rows_of table) depth a t v) (evaluate table depth e t)
  evaluated table depth e a f (Bound i) = variable_known depth i e a f
  evaluated table depth e a f (Const n) =
      value_map (λ v. SomeOf (IsRow [] v) (rows_of table (Constant n))) (λ v. SomeOf (λ r. (has_value v r ≡ true) × IsNone r.args.items) (rows_of table (Constant n))) (value_of table (Constant n) [])
      (λ v p. some_map (IsRow [] v) (λ r. (has_value v r ≡ true) × IsNone r.args.items) (rows_of table (Constant n)) (λ r c. (c.0, is_none r.args.items c.1)) p)
      (λ v p. some_map (λ r. (has_value v r ≡ true) × IsNone r.args.items) (IsRow [] v) (rows_of table (Constant n)) (λ r c. (c.0, none_is r.args.items c.1)) p)
      (table_value table (Constant n) [])
  evaluated table depth e a f (App s ts) =
      value_map (λ v. SomeOf (AtRest table depth a [] ts v) (rows_of table (Functor s))) (λ v. SomeOf (λ r. (has_value v r ≡ true) × Vals (rows_of table) depth a ts r.args.items) (rows_of table (Functor s))) (evaluate_at table depth e (Functor s) [] ts)
      (λ v p. some_map (AtRest table depth a [] ts v) (λ r. (has_value v r ≡ true) × Vals (rows_of table) depth a ts r.args.items) (rows_of table (Functor s)) (λ r c. (c.0, rest_all table depth a ts r c.1)) p)
      (λ v p. some_map (λ r. (has_value v r ≡ true) × Vals (rows_of table) depth a ts r.args.items) (AtRest table depth a [] ts v) (rows_of table (Functor s)) (λ r c. (c.0, all_rest table depth a ts r c.1)) p)
      (evaluated_at table depth e a f (Functor s) [] ts)

  pub evaluated_at : (table : Table) (depth : ℕ) (e : Assignment) (a : List ℕ) → Fits e a → (h : Head) (vs : List ℕ) (ts : Terms) → ValueIs (λ v. SomeOf (AtRest table depth a vs ts v) (rows_of table h)) (evaluate_at table depth e h vs ts)
  evaluated_at table depth e a f h vs term.none =
      value_map (λ v. SomeOf (IsRow vs v) (rows_of table h)) (λ v. SomeOf (AtRest table depth a vs term.none v) (rows_of table h)) (value_of table h vs)
      (λ v p. some_map (IsRow vs v) (AtRest table depth a vs term.none v) (rows_of table h) (λ r c. (c.0, none_rest table depth a vs r c.1)) p)
      (λ v p. some_map (AtRest table depth a vs term.none v) (IsRow vs v) (rows_of table h) (λ r c. (c.0, rest_none table depth a vs r c.1)) p)
      (table_value table h vs)
  evaluated_at table depth e a f h vs (term.more t ts) =
      class_step table depth a vs t ts (rows_of table h) (evaluate table depth e t) (λ w. evaluate_at table depth e h (vs ++ w ∷ []) ts) (evaluated table depth e a f t) (λ w. evaluated_at table depth e a f h (vs ++ w ∷ []) ts)
