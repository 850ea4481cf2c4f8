-- What is known of the values of rows.
use Rattle.std.proofs.Common.{◌≡◌, ◌+◌, ◌⊎◌, inl, inr, ℕ, List, [], ◌∷◌, ◌++◌, refl, ap, sym, ◌∙◌, subst, Bool, true, false, eqb-true, eq-eqb, append-nil}
use Rattle.std.specs.Prelude.{◌&&◌, nat_eq, None, Some, Option, if◌then◌else◌}
use Rattle.std.specs.Map.{lookup, KeepsOthers}
use Rattle.std.specs.HashMap.{HashMap, UpdatesBy}
use Rattle.mz_match.specs.Rows.{SomeOf, has_value}
use Rattle.mz_match.specs.Table.{rows_in, value_in, rows_at, rows_of, value_of, IsAdded}
use Rattle.mz_match.specs.Values.{is_list, value_at, values_of, is_right, with_value, is_class, AreKnown, or_nothing}
use Rattle.mz_match.specs.declared.row.Head.{Head}
use Rattle.mz_match.specs.declared.row.Row.{Row}
use Rattle.mz_match.specs.declared.rows.Rows.{Rows}
use Rattle.mz_match.specs.declared.table.Table.{Table}
use Rattle.mz_match.specs.declared.value.Value.{Value}
use Rattle.mz_match.specs.declared.value.Value.TheVariants.{Unknown, Nothing, Class}
use Rattle.mz_match.specs.declared.values.Values.{Values}
use Rattle.mz_match.proofs.ByClassLemmas.{by_class_none}
use Rattle.mz_match.proofs.SomeLemmas.{some_map}

true_false : (b : Bool) → b ≡ true → b ≡ false → ⊥
true_false b h k = cc

both_left : (a b : Bool) → (a && b) ≡ true → a ≡ true
both_left true b h = refl
both_left false b h = h

both_right : (a b : Bool) → (a && b) ≡ true → b ≡ true
both_right true b h = h
both_right false b h = cc

pub is_list_true : (s t : List ℕ) → is_list s t ≡ true → s ≡ t
is_list_true [] [] h = refl
is_list_true [] (y ∷ ys) h = cc
is_list_true (x ∷ xs) [] h = cc
is_list_true (x ∷ xs) (y ∷ ys) h = λ i. eqb-true x y (both_left (nat_eq x y) (is_list xs ys) h) i ∷ is_list_true xs ys (both_right (nat_eq x y) (is_list xs ys) h) i

pub is_list_same : (s : List ℕ) → is_list s s ≡ true
is_list_same [] = refl
is_list_same (x ∷ xs) = let e : nat_eq x x ≡ true = eq-eqb x x refl in rw e (is_list_same xs)

bool_cases : (b : Bool) → (b ≡ true) ⊎ (b ≡ false)
bool_cases true = inl refl
bool_cases false = inr refl

is_list_turned : (s t : List ℕ) → is_list s t ≡ false → is_list t s ≡ false
is_list_turned s t n =
    elim (bool_cases (is_list t s)) [
      | inl a ↦ absurd (true_false (is_list s t) (subst (λ (x : List ℕ). is_list s x ≡ true) (sym (is_list_true t s a)) (is_list_same s)) n)
      | inr a ↦ a
    ]

-- what an insertion leaves, at each list
pub lookup-inserted : {K X S : Type 0} (items : K → List ℕ) (m n : HashMap K X S) (key : K) (v : X) → UpdatesBy (λ a b. is_list (items a) (items b)) (λ k. is_list (items key) (items k)) m n (Some v) → (s : List ℕ) → lookup (λ k. is_list s (items k)) n.entries ≡ (if is_list s (items key) then Some v else lookup (λ k. is_list s (items k)) m.entries)
unfolding KeepsOthers
lookup-inserted {K} {X} {S} items m n key v u s =
    let here : (b : Bool) → is_list s (items key) ≡ b → lookup (λ k. is_list s (items k)) n.entries ≡ (if b then Some v else lookup (λ k. is_list s (items k)) m.entries)
    = elim [
      | true ↦ λ e. subst (λ (z : List ℕ). lookup (λ k. is_list z (items k)) n.entries ≡ Some v) (sym (is_list_true s (items key) e)) u.1
      | false ↦ λ e. u.3 (λ k. is_list s (items k)) (λ x y h. ap (λ (z : List ℕ). is_list z (items y)) (is_list_true s (items x) h)) (λ k h. ap (is_list s) (sym (is_list_true (items key) (items k) h)) ∙ e)
    ] in
    here (is_list s (items key)) refl

pub or_nothing-inserted_value : (x y : Option Value) (b : Bool) (v : Value) → x ≡ (if b then Some v else y) → or_nothing x ≡ (if b then v else or_nothing y)
or_nothing-inserted_value x y true v e = ap or_nothing e
or_nothing-inserted_value x y false v e = ap or_nothing e

-- one row more
cons-put_append : (b : Bool) (v : ℕ) (x y all : List ℕ) → all ≡ x ++ y → (if b then v ∷ all else all) ≡ (if b then v ∷ x else x) ++ y
cons-put_append true v x y all e = ap (λ zs. v ∷ zs) e
cons-put_append false v x y all e = e

values_of-append : (rs ks : List Row) (args : List ℕ) → values_of (rs ++ ks) args ≡ values_of rs args ++ values_of ks args
values_of-append [] ks args = refl
values_of-append (r ∷ rs) ks args = cons-put_append (is_list r.args.items args) r.value (values_of rs args) (values_of ks args) (values_of (rs ++ ks) args) (values_of-append rs ks args)

right_with : (k : Value) (vs : List ℕ) (v : ℕ) → is_right k vs ≡ true → is_right (with_value k v) (vs ++ v ∷ []) ≡ true
right_with Unknown vs v h = refl
right_with Nothing [] v h = eq-eqb v v refl
right_with Nothing (u ∷ vs) v h = cc
right_with (Class w) vs v h = refl

known_at : (rs : List Row) (m n : Values) (r : Row) (s : List ℕ) (b : Bool) → is_list s r.args.items ≡ b → AreKnown rs m → value_at n s ≡ (if b then with_value (value_at m r.args.items) r.value else value_at m s) → is_right (value_at n s) (values_of (rs ++ r ∷ []) s) ≡ true
known_at rs m n r s true e k v =
    let q : s ≡ r.args.items = is_list_true s r.args.items e in
    let one : values_of (r ∷ []) r.args.items ≡ r.value ∷ [] = ap (λ (b : Bool). if b then r.value ∷ [] else []) (is_list_same r.args.items) in
    let all : values_of (rs ++ r ∷ []) s ≡ values_of rs r.args.items ++ r.value ∷ [] = ap (values_of (rs ++ r ∷ [])) q ∙ values_of-append rs (r ∷ []) r.args.items ∙ ap (λ ys. values_of rs r.args.items ++ ys) one in
    (λ i. is_right (v i) (all i)) ∙ right_with (value_at m r.args.items) (values_of rs r.args.items) r.value (k r.args.items)
known_at rs m n r s false e k v =
    let none : values_of (r ∷ []) s ≡ [] = ap (λ (b : Bool). if b then r.value ∷ [] else []) (is_list_turned s r.args.items e) in
    let all : values_of (rs ++ r ∷ []) s ≡ values_of rs s = values_of-append rs (r ∷ []) s ∙ ap (λ ys. values_of rs s ++ ys) none ∙ append-nil (values_of rs s) in
    (λ i. is_right (v i) (all i)) ∙ k s

pub known_more : (rs ks : List Row) (m n : Values) (r : Row) (args : List ℕ) (known next : Value) → AreKnown rs m → known ≡ value_at m r.args.items → next ≡ with_value known r.value → args ≡ r.args.items → ((s : List ℕ) → value_at n s ≡ (if is_list s args then next else value_at m s)) → ks ≡ rs ++ r ∷ [] → AreKnown ks n
known_more rs ks m n r args known next k q o a v e =
    subst (λ (xs : List Row). AreKnown xs n) (sym e)
    (λ s. known_at rs m n r s (is_list s r.args.items) refl k (v s ∙ (λ i. if is_list s (a i) then (o ∙ ap (λ x. with_value x r.value) q) i else value_at m s)))

-- no rows
pub known_none : (rs : List Row) (m : Values) → rs ≡ [] → ((s : List ℕ) → value_at m s ≡ Nothing) → AreKnown rs m
known_none rs m e f args = λ i. is_right (f args i) (values_of (e i) args)

pub ruleset new_rules = (known_none, by_class_none)

-- the rows with some arguments
put_some : (P : ℕ → Type 0) (b : Bool) (v : ℕ) (vs : List ℕ) → SomeOf P vs → SomeOf P (if b then v ∷ vs else vs)
put_some P true v vs h = inr h
put_some P false v vs h = h

put_first : (P : ℕ → Type 0) (b : Bool) (v : ℕ) (vs : List ℕ) → b ≡ true → P v → SomeOf P (if b then v ∷ vs else vs)
put_first P true v vs e h = inl h
put_first P false v vs e h = cc

put_cases : (P : ℕ → Type 0) (b : Bool) (v : ℕ) (vs : List ℕ) → SomeOf P (if b then v ∷ vs else vs) → ((b ≡ true) × P v) ⊎ SomeOf P vs
put_cases P true v vs h = elim h [ inl a ↦ inl (refl, a) | inr b ↦ inr b ]
put_cases P false v vs h = inr h

-- a row with these arguments and this value
abbrev pub IsRow : List ℕ → ℕ → Row → Type 0
IsRow args v r = (has_value v r ≡ true) × (r.args.items ≡ args)

values_found : (rs : List Row) (args : List ℕ) (v : ℕ) → SomeOf (IsRow args v) rs → SomeOf (λ w. w ≡ v) (values_of rs args)
values_found [] args v h = absurd h
values_found (r ∷ rs) args v h =
    elim h [
      | inl a ↦ put_first (λ w. w ≡ v) (is_list r.args.items args) r.value (values_of rs args) (subst (λ (s : List ℕ). is_list r.args.items s ≡ true) a.1 (is_list_same r.args.items)) (eqb-true r.value v a.0)
      | inr b ↦ put_some (λ w. w ≡ v) (is_list r.args.items args) r.value (values_of rs args) (values_found rs args v b)
    ]

values_find : (rs : List Row) (args : List ℕ) (v : ℕ) → SomeOf (λ w. w ≡ v) (values_of rs args) → SomeOf (IsRow args v) rs
values_find [] args v h = absurd h
values_find (r ∷ rs) args v h =
    elim (put_cases (λ w. w ≡ v) (is_list r.args.items args) r.value (values_of rs args) h) [
      | inl a ↦ inl (eq-eqb r.value v a.1, is_list_true r.args.items args a.0)
      | inr b ↦ inr (values_find rs args v b)
    ]

is_nothing : (vs : List ℕ) → is_right Nothing vs ≡ true → vs ≡ []
is_nothing [] h = refl
is_nothing (v ∷ vs) h = cc

is_one : (w : ℕ) (vs : List ℕ) → is_right (Class w) vs ≡ true → vs ≡ w ∷ []
is_one w [] h = cc
is_one w (v ∷ []) h = ap (λ x. x ∷ []) (eqb-true v w h)
is_one w (v ∷ (u ∷ vs)) h = cc

-- what is known of the numbers of which a fact holds
abbrev pub ValueIs : (ℕ → Type 0) → Value → Type 0
ValueIs P Unknown = Unit {0}
ValueIs P Nothing = (v : ℕ) → P v → ⊥
ValueIs P (Class w) = P w × ((v : ℕ) → P v → v ≡ w)

pub value_map : (P Q : ℕ → Type 0) (k : Value) → ((v : ℕ) → P v → Q v) → ((v : ℕ) → Q v → P v) → ValueIs P k → ValueIs Q k
value_map P Q Unknown f g h = tt
value_map P Q Nothing f g h = λ v q. h v (g v q)
value_map P Q (Class w) f g h = (f w h.0, λ v q. h.1 v (g v q))

rows_value : (rs : List Row) (args : List ℕ) (k : Value) → is_right k (values_of rs args) ≡ true → ValueIs (λ v. SomeOf (IsRow args v) rs) k
rows_value rs args Unknown h = tt
rows_value rs args Nothing h = λ v p. subst (λ (vs : List ℕ). SomeOf (λ w. w ≡ v) vs) (is_nothing (values_of rs args) h) (values_found rs args v p)
rows_value rs args (Class w) h =
    let e : values_of rs args ≡ w ∷ [] = is_one w (values_of rs args) h in (
      values_find rs args w (subst (λ (vs : List ℕ). SomeOf (λ u. u ≡ w) vs) (sym e) (inl refl)),
      λ v p. elim (subst (λ (vs : List ℕ). SomeOf (λ u. u ≡ v) vs) e (values_found rs args v p)) [ inl a ↦ sym a | inr b ↦ absurd b ],
    )

in_value : (o : Option Rows) (args : List ℕ) → ValueIs (λ v. SomeOf (IsRow args v) (rows_in o)) (value_in o args)
in_value None args = λ v p. p
in_value (Some rows) args = rows_value rows.items.items args (value_at rows.values args) (rows.known args)

pub table_value : (table : Table) (h : Head) (args : List ℕ) → ValueIs (λ v. SomeOf (IsRow args v) (rows_of table h)) (value_of table h args)
table_value table h args = in_value (rows_at table h) args

-- a row that stands there
class_is : (k : Value) (v : ℕ) → is_class k v ≡ true → k ≡ Class v
class_is Unknown v h = cc
class_is Nothing v h = cc
class_is (Class w) v h = ap (λ x. Class x) (eqb-true w v h)

pub told_counted : (r : Row) (old new : Rows) (known : Value) → known ≡ value_in (Some old) r.args.items → is_class known r.value ≡ true → new.items.items ≡ old.items.items → new.count ≡ old.count + 1 → IsAdded r (Some old) (Some new)
told_counted r old new known q t e c =
    let k : value_at old.values r.args.items ≡ Class r.value = sym q ∙ class_is known r.value t in
    let p : ValueIs (λ v. SomeOf (IsRow r.args.items v) old.items.items) (Class r.value) = subst (λ (x : Value). ValueIs (λ v. SomeOf (IsRow r.args.items v) old.items.items) x) k (in_value (Some old) r.args.items) in
    record {
      count = c;
      rows = inr (e, some_map (IsRow r.args.items r.value) (λ x. (x.args.items ≡ r.args.items) × (x.value ≡ r.value)) old.items.items (λ x a. (a.1, eqb-true x.value r.value a.0)) p.0);
    }

pub told_extended : (r : Row) (old new : Rows) → new.items.items ≡ old.items.items ++ r ∷ [] → new.count ≡ old.count + 1 → IsAdded r (Some old) (Some new)
told_extended r old new e c = record { count = c; rows = inl e }

pub ruleset add_rules = (told_extended)
