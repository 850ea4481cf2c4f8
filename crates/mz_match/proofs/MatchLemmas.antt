-- Matching finds exactly the assignments that match.
use Rattle.std.proofs.Common.{◌≡◌, ◌≤◌, ◌-◌, inl, inr, ℕ, zero, suc, List, [], ◌∷◌, refl, arith, ap, sym, ◌∙◌, Bool, true, false, subst, eq-eqb, eqb-true}
use Rattle.std.specs.Prelude.{slice_get, None, Some, nat_eq, nat_lt, flat_map, if◌then◌else◌}
use Rattle.std.proofs.lemmas.Bool.Decides.{leb_tells}
use Rattle.mz_logic.specs.declared.sym.Sym.{Sym}
use Rattle.mz_logic.specs.Term as term
use Rattle.mz_logic.specs.Term.{Term, Terms, Bound, Const, App, terms_of}
use Rattle.mz_match.specs.declared.row.Head.{Head}
use Rattle.mz_match.specs.declared.table.Table.{Table}
use Rattle.mz_match.specs.Table.{rows_of}
use Rattle.mz_match.specs.declared.row.Head.TheVariants.{Constant, Functor}
use Rattle.mz_match.specs.declared.row.Row.{Row}
use Rattle.mz_match.specs.Rows.{SomeOf, IsNone, has_value, Val, Vals, RowOn, OneValue}
use Rattle.mz_match.specs.Slots.{Assignment}
use Rattle.mz_match.specs.Matches.{bind, match_none, by_value, by_rows, at_value, match_term, match_args, match_rows, match_class, match_equal}
use Rattle.mz_match.specs.Fitting.{Fits, Covered}
use Rattle.mz_match.specs.Evaluate.{evaluate_at}
use Rattle.mz_match.specs.declared.value.Value.{Value}
use Rattle.mz_match.specs.declared.value.Value.TheVariants.{Unknown, Nothing, Class}
use Rattle.mz_match.proofs.EvaluateLemmas.{HasRest, AtRest, rest_all, all_rest, evaluated, evaluated_at}
use Rattle.mz_match.proofs.ValueLemmas.{ValueIs}
use Rattle.mz_match.proofs.SomeLemmas.{some_map, into_flat, out_of_flat, into_map, out_of_map, pull, some_none, value_out, value_in}

pub if_found : (P : Assignment → Type 0) (b : Bool) (es : List Assignment) → SomeOf P (if b then es else []) → (b ≡ true) × SomeOf P es
if_found P true es h = (refl, h)
if_found P false es h = absurd h

pub if_finds : (P : Assignment → Type 0) (b : Bool) (es : List Assignment) → b ≡ true → SomeOf P es → SomeOf P (if b then es else [])
if_finds P b es e h = rw e h

-- over the members of a list
pub flat_found : {X : Type 0} (m : X → List Assignment) (C : Type 0) (R : X → Type 0) (a : List ℕ) (xs : List X) → ((x : X) → Covered (m x) a → C × R x) → Covered (flat_map m xs) a → C × SomeOf R xs
flat_found m C R a xs f h = pull C R xs (some_map (λ x. Covered (m x) a) (λ x. C × R x) xs f (out_of_flat (λ e. Fits e a) m xs h))

pub flat_finds : {X : Type 0} (m : X → List Assignment) (R : X → Type 0) (a : List ℕ) (xs : List X) → ((x : X) → R x → Covered (m x) a) → SomeOf R xs → Covered (flat_map m xs) a
flat_finds m R a xs f h = into_flat (λ e. Fits e a) m xs (some_map R (λ x. Covered (m x) a) xs f h)

-- over the rows that pass a test
rows_found : (p : Row → Bool) (m : Row → List Assignment) (C : Type 0) (R : Row → Type 0) (a : List ℕ) (rs : List Row) → ((r : Row) → Covered (m r) a → C × R r) → Covered (flat_map (λ r. if p r then m r else []) rs) a → C × SomeOf (λ r. (p r ≡ true) × R r) rs
rows_found p m C R a rs f h =
    flat_found (λ r. if p r then m r else []) C (λ r. (p r ≡ true) × R r) a rs
    (λ r c. let k = if_found (λ e. Fits e a) (p r) (m r) c in let q = f r k.1 in (q.0, (k.0, q.1))) h

rows_finds : (p : Row → Bool) (m : Row → List Assignment) (R : Row → Type 0) (a : List ℕ) (rs : List Row) → ((r : Row) → R r → Covered (m r) a) → SomeOf (λ r. (p r ≡ true) × R r) rs → Covered (flat_map (λ r. if p r then m r else []) rs) a
rows_finds p m R a rs f h =
    flat_finds (λ r. if p r then m r else []) (λ r. (p r ≡ true) × R r) a rs (λ r c. if_finds (λ e. Fits e a) (p r) (m r) c.0 (f r c.1)) h

-- a variable
slice_get-slot_first : (w v : ℕ) (e : Assignment) (a : List ℕ) → Fits (Some w ∷ e) a → w ≡ v → slice_get a 0 ≡ Some v
slice_get-slot_first w v e [] f q = absurd f
slice_get-slot_first w v e (x ∷ a) f q = ap (λ y. Some y) (sym f.0 ∙ q)

some_pull : (w x : ℕ) (a : List ℕ) (ds : List Assignment) → SomeOf (λ d. (w ≡ x) × Fits d a) ds → (w ≡ x) × Covered ds a
some_pull w x a ds h = pull (w ≡ x) (λ d. Fits d a) ds h

bind_found : (i v : ℕ) (e : Assignment) (a : List ℕ) → Covered (bind i v e) a → Fits e a × (slice_get a i ≡ Some v)
bind_found i v [] a h = absurd h
bind_found zero v (None ∷ e) [] h = elim h [ inl f ↦ absurd f | inr b ↦ absurd b ]
bind_found zero v (None ∷ e) (x ∷ a) h = elim h [ inl f ↦ (f.1, ap (λ y. Some y) (sym f.0)) | inr b ↦ absurd b ]
bind_found zero v (Some w ∷ e) a h =
    let r = if_found (λ d. Fits d a) (nat_eq w v) ((Some w ∷ e) ∷ []) h in
    elim r.1 [ inl f ↦ (f, slice_get-slot_first w v e a f (eqb-true w v r.0)) | inr b ↦ absurd b ]
bind_found (suc i) v (None ∷ e) [] h = absurd (some_none (bind i v e) (out_of_map (λ d. Fits d []) (λ d. None ∷ d) (bind i v e) h))
bind_found (suc i) v (Some w ∷ e) [] h = absurd (some_none (bind i v e) (out_of_map (λ d. Fits d []) (λ d. Some w ∷ d) (bind i v e) h))
bind_found (suc i) v (None ∷ e) (x ∷ a) h = bind_found i v e a (out_of_map (λ d. Fits d (x ∷ a)) (λ d. None ∷ d) (bind i v e) h)
bind_found (suc i) v (Some w ∷ e) (x ∷ a) h =
    let p = some_pull w x a (bind i v e) (out_of_map (λ d. Fits d (x ∷ a)) (λ d. Some w ∷ d) (bind i v e) h) in
    let r = bind_found i v e a p.1 in
    ((p.0, r.0), r.1)

bind_finds : (i v : ℕ) (e : Assignment) (a : List ℕ) → Fits e a → slice_get a i ≡ Some v → Covered (bind i v e) a
bind_finds i v [] [] f h = cc
bind_finds i v [] (x ∷ a) f h = absurd f
bind_finds i v (None ∷ e) [] f h = absurd f
bind_finds i v (Some w ∷ e) [] f h = absurd f
bind_finds zero v (None ∷ e) (x ∷ a) f h = let q : v ≡ x = cc in inl (q, f)
bind_finds zero v (Some w ∷ e) (x ∷ a) f h =
    let p : w ≡ x = f.0 in
    let q : w ≡ v = cc in
    if_finds (λ d. Fits d (x ∷ a)) (nat_eq w v) ((Some w ∷ e) ∷ []) (eq-eqb w v q) (inl f)
bind_finds (suc i) v (None ∷ e) (x ∷ a) f h = into_map (λ d. Fits d (x ∷ a)) (λ d. None ∷ d) (bind i v e) (bind_finds i v e a f h)
bind_finds (suc i) v (Some w ∷ e) (x ∷ a) f h =
    into_map (λ d. Fits d (x ∷ a)) (λ d. Some w ∷ d) (bind i v e)
    (some_map (λ d. Fits d a) (λ d. (w ≡ x) × Fits d a) (bind i v e) (λ d c. (f.0, c)) (bind_finds i v e a f.1 h))

-- a variable, over a list
bound_found : (i v : ℕ) (a : List ℕ) (es : List Assignment) → Covered (flat_map (bind i v) es) a → Covered es a × (slice_get a i ≡ Some v)
bound_found i v a es h =
    let r = flat_found (bind i v) (slice_get a i ≡ Some v) (λ e. Fits e a) a es (λ e c. let q = bind_found i v e a c in (q.1, q.0)) h in
    (r.1, r.0)

bound_finds : (i v : ℕ) (a : List ℕ) (es : List Assignment) → Covered es a → slice_get a i ≡ Some v → Covered (flat_map (bind i v) es) a
bound_finds i v a es f h = flat_finds (bind i v) (λ e. Fits e a) a es (λ e c. bind_finds i v e a c h) f

none_found : (vs a : List ℕ) (es : List Assignment) → Covered (match_none vs es) a → Covered es a × IsNone vs
none_found [] a es h = (h, tt)
none_found (v ∷ vs) a es h = absurd h

none_finds : (vs a : List ℕ) (es : List Assignment) → Covered es a → IsNone vs → Covered (match_none vs es) a
none_finds [] a es f h = f
none_finds (v ∷ vs) a es f h = absurd h

-- an index
index_found : (depth i v : ℕ) (a : List ℕ) (es : List Assignment) → Covered (if nat_lt i depth then [] else flat_map (bind (i - depth) v) es) a → Covered es a × ((depth ≤ i) × (slice_get a (i - depth) ≡ Some v))
index_found depth i v a es h =
    elim (leb_tells (suc i) depth) [
      | inl k ↦ absurd (subst (λ (b : Bool). Covered (if b then [] else flat_map (bind (i - depth) v) es) a) k.0 h)
      | inr k ↦
          let r = bound_found (i - depth) v a es (subst (λ (b : Bool). Covered (if b then [] else flat_map (bind (i - depth) v) es) a) k.0 h) in
          (r.0, (omega (arith, k.1), r.1))
    ]

index_finds : (depth i v : ℕ) (a : List ℕ) (es : List Assignment) → Covered es a → depth ≤ i → slice_get a (i - depth) ≡ Some v → Covered (if nat_lt i depth then [] else flat_map (bind (i - depth) v) es) a
index_finds depth i v a es f le h =
    elim (leb_tells (suc i) depth) [
      | inl k ↦ absurd (omega (arith, k.1))
      | inr k ↦ subst (λ (b : Bool). Covered (if b then [] else flat_map (bind (i - depth) v) es) a) (sym k.0) (bound_finds (i - depth) v a es f h)
    ]

-- by what is known of the class of a term
by_value_found : (P : ℕ → Type 0) (k : Value) (v : ℕ) (e : Assignment) (a : List ℕ) (ds : List Assignment) → (Fits e a → ValueIs P k) → (Covered ds a → Fits e a × P v) → Covered (by_value k v e ds) a → Fits e a × P v
by_value_found P Unknown v e a ds x g h = g h
by_value_found P Nothing v e a ds x g h = absurd h
by_value_found P (Class w) v e a ds x g h =
    let r = if_found (λ d. Fits d a) (nat_eq w v) (e ∷ []) h in
    elim r.1 [ inl f ↦ (f, subst P (eqb-true w v r.0) (x f).0) | inr n ↦ absurd n ]

by_value_finds : (P : ℕ → Type 0) (k : Value) (v : ℕ) (e : Assignment) (a : List ℕ) (ds : List Assignment) → Fits e a → ValueIs P k → P v → Covered ds a → Covered (by_value k v e ds) a
by_value_finds P Unknown v e a ds f x p c = c
by_value_finds P Nothing v e a ds f x p c = absurd (x v p)
by_value_finds P (Class w) v e a ds f x p c = if_finds (λ d. Fits d a) (nat_eq w v) (e ∷ []) (eq-eqb w v (sym (x.1 v p))) (inl f)

by_rows_found : (P : ℕ → Type 0) (R : Type 0) (k : Value) (e : Assignment) (a : List ℕ) (ds : List Assignment) → (Fits e a → ValueIs P k) → ((v : ℕ) → P v → R) → (Covered ds a → Fits e a × R) → Covered (by_rows k e ds) a → Fits e a × R
by_rows_found P R Unknown e a ds x f g h = g h
by_rows_found P R Nothing e a ds x f g h = absurd h
by_rows_found P R (Class w) e a ds x f g h = elim h [ inl q ↦ (q, f w (x q).0) | inr n ↦ absurd n ]

by_rows_finds : (P : ℕ → Type 0) (k : Value) (v : ℕ) (e : Assignment) (a : List ℕ) (ds : List Assignment) → Fits e a → ValueIs P k → P v → Covered ds a → Covered (by_rows k e ds) a
by_rows_finds P Unknown v e a ds f x p c = c
by_rows_finds P Nothing v e a ds f x p c = absurd (x v p)
by_rows_finds P (Class w) v e a ds f x p c = inl f

one_fits : (e : Assignment) (a : List ℕ) → Covered (e ∷ []) a → Fits e a
one_fits e a h = elim h [ inl f ↦ f | inr n ↦ absurd n ]

-- over the assignments of a list, each apart
each_found : (m : Assignment → List Assignment) (R : Type 0) (a : List ℕ) (es : List Assignment) → ((e : Assignment) → Covered (m e) a → Fits e a × R) → Covered (flat_map m es) a → Covered es a × R
each_found m R a es f h = let r = flat_found m R (λ e. Fits e a) a es (λ e c. let q = f e c in (q.1, q.0)) h in (r.1, r.0)

each_finds : (m : Assignment → List Assignment) (a : List ℕ) (es : List Assignment) → ((e : Assignment) → Fits e a → Covered (m e) a) → Covered es a → Covered (flat_map m es) a
each_finds m a es f h = flat_finds m (λ e. Fits e a) a es f h

mutual
  unfolding Val Vals

  pub term_found : (table : Table) (depth : ℕ) (a : List ℕ) (t : Term) (v : ℕ) (es : List Assignment) → Covered (match_term table depth t v es) a → Covered es a × Val (rows_of table) depth a t v
  term_found table depth a (Bound i) v es h = index_found depth i v a es h
  term_found table depth a (Const n) v es h = rows_found (has_value v) (λ r. match_none r.args.items es) (Covered es a) (λ r. IsNone r.args.items) a (rows_of table (Constant n)) (λ r c. none_found r.args.items a es c) h
  term_found table depth a (App s ts) v es h =
      let m : Assignment → Row → List Assignment = λ e r. match_args table depth ts r.args.items (e ∷ []) in
      each_found (λ e. by_value (evaluate_at table depth e (Functor s) [] ts) v e (flat_map (λ r. if has_value v r then m e r else []) (rows_of table (Functor s)))) (Val (rows_of table) depth a (App s ts) v) a es
      (λ e c. by_value_found (λ w. Val (rows_of table) depth a (App s ts) w) (evaluate_at table depth e (Functor s) [] ts) v e a (flat_map (λ r. if has_value v r then m e r else []) (rows_of table (Functor s))) (λ f. evaluated table depth e a f (App s ts))
      (λ d. let q = rows_found (has_value v) (m e) (Covered (e ∷ []) a) (λ r. Vals (rows_of table) depth a ts r.args.items) a (rows_of table (Functor s)) (λ r x. args_found table depth a ts r.args.items (e ∷ []) x) d in (one_fits e a q.0, q.1)) c) h

  pub args_found : (table : Table) (depth : ℕ) (a : List ℕ) (ts : Terms) (vs : List ℕ) (es : List Assignment) → Covered (match_args table depth ts vs es) a → Covered es a × Vals (rows_of table) depth a ts vs
  args_found table depth a term.none vs es h = none_found vs a es h
  args_found table depth a (term.more t ts) [] es h = absurd h
  args_found table depth a (term.more t ts) (v ∷ vs) es h =
      let r = args_found table depth a ts vs (match_term table depth t v es) h in
      let q = term_found table depth a t v es r.0 in
      (q.0, (q.1, r.1))

mutual
  unfolding Val Vals

  pub term_finds : (table : Table) (depth : ℕ) (a : List ℕ) (t : Term) (v : ℕ) (es : List Assignment) → Covered es a → Val (rows_of table) depth a t v → Covered (match_term table depth t v es) a
  term_finds table depth a (Bound i) v es f h = index_finds depth i v a es f h.0 h.1
  term_finds table depth a (Const n) v es f h = rows_finds (has_value v) (λ r. match_none r.args.items es) (λ r. IsNone r.args.items) a (rows_of table (Constant n)) (λ r c. none_finds r.args.items a es f c) h
  term_finds table depth a (App s ts) v es f h =
      let m : Assignment → Row → List Assignment = λ e r. match_args table depth ts r.args.items (e ∷ []) in
      each_finds (λ e. by_value (evaluate_at table depth e (Functor s) [] ts) v e (flat_map (λ r. if has_value v r then m e r else []) (rows_of table (Functor s)))) a es
      (λ e q. by_value_finds (λ w. Val (rows_of table) depth a (App s ts) w) (evaluate_at table depth e (Functor s) [] ts) v e a (flat_map (λ r. if has_value v r then m e r else []) (rows_of table (Functor s))) q (evaluated table depth e a q (App s ts)) h
      (rows_finds (has_value v) (m e) (λ r. Vals (rows_of table) depth a ts r.args.items) a (rows_of table (Functor s)) (λ r c. args_finds table depth a ts r.args.items (e ∷ []) (inl q) c) h)) f

  pub args_finds : (table : Table) (depth : ℕ) (a : List ℕ) (ts : Terms) (vs : List ℕ) (es : List Assignment) → Covered es a → Vals (rows_of table) depth a ts vs → Covered (match_args table depth ts vs es) a
  args_finds table depth a term.none vs es f h = none_finds vs a es f h
  args_finds table depth a (term.more t ts) [] es f h = absurd h
  args_finds table depth a (term.more t ts) (v ∷ vs) es f h = args_finds table depth a ts vs (match_term table depth t v es) (term_finds table depth a t v es f h.0) h.1

-- a row with a head, by what is known of the classes of the arguments
rest_row : (table : Table) (a : List ℕ) (h : Head) (ts : Terms) (v : ℕ) → SomeOf (AtRest table 0 a [] ts v) (rows_of table h) → RowOn (rows_of table) a h ts
unfolding RowOn
rest_row table a h ts v p = some_map (AtRest table 0 a [] ts v) (λ r. Vals (rows_of table) 0 a ts r.args.items) (rows_of table h) (λ r c. rest_all table 0 a ts r c.1) p

row_rest : (table : Table) (a : List ℕ) (h : Head) (ts : Terms) → RowOn (rows_of table) a h ts → (v : ℕ) × SomeOf (AtRest table 0 a [] ts v) (rows_of table h)
unfolding RowOn
row_rest table a h ts p =
    let x = value_out (λ v. Unit {0}) (HasRest table 0 a [] ts) (rows_of table h)
    (some_map (λ r. Vals (rows_of table) 0 a ts r.args.items) (λ r. Unit {0} × HasRest table 0 a [] ts r) (rows_of table h) (λ r c. (tt, all_rest table 0 a ts r c)) p) in
    (x.0, x.1.1)

pub row_found : (table : Table) (a : List ℕ) (h : Head) (ts : Terms) (es : List Assignment) → Covered (match_rows table h ts es) a → Covered es a × RowOn (rows_of table) a h ts
unfolding RowOn
row_found table a h ts es c =
    let m : Assignment → Row → List Assignment = λ e r. match_args table 0 ts r.args.items (e ∷ []) in
    each_found (λ e. by_rows (evaluate_at table 0 e h [] ts) e (flat_map (m e) (rows_of table h))) (RowOn (rows_of table) a h ts) a es
    (λ e k. by_rows_found (λ v. SomeOf (AtRest table 0 a [] ts v) (rows_of table h)) (RowOn (rows_of table) a h ts) (evaluate_at table 0 e h [] ts) e a (flat_map (m e) (rows_of table h)) (λ f. evaluated_at table 0 e a f h [] ts) (rest_row table a h ts)
    (λ d. let q = flat_found (m e) (Covered (e ∷ []) a) (λ r. Vals (rows_of table) 0 a ts r.args.items) a (rows_of table h) (λ r x. args_found table 0 a ts r.args.items (e ∷ []) x) d in (one_fits e a q.0, q.1)) k) c

pub row_finds : (table : Table) (a : List ℕ) (h : Head) (ts : Terms) (es : List Assignment) → Covered es a → RowOn (rows_of table) a h ts → Covered (match_rows table h ts es) a
unfolding RowOn
row_finds table a h ts es f c =
    let m : Assignment → Row → List Assignment = λ e r. match_args table 0 ts r.args.items (e ∷ []) in
    let p = row_rest table a h ts c in
    each_finds (λ e. by_rows (evaluate_at table 0 e h [] ts) e (flat_map (m e) (rows_of table h))) a es
    (λ e q. by_rows_finds (λ v. SomeOf (AtRest table 0 a [] ts v) (rows_of table h)) (evaluate_at table 0 e h [] ts) p.0 e a (flat_map (m e) (rows_of table h)) q (evaluated_at table 0 e a q h [] ts) p.1
    (flat_finds (m e) (λ r. Vals (rows_of table) 0 a ts r.args.items) a (rows_of table h) (λ r k. args_finds table 0 a ts r.args.items (e ∷ []) (inl q) k) c)) f

-- the class of a term that is no variable
class_rows_found : (table : Table) (depth : ℕ) (a : List ℕ) (t : Term) (m : Row → List Assignment) (R : Row → Type 0) (es : List Assignment) (rs : List Row) → ((r : Row) → Covered (m r) a → Covered es a × R r) → Covered (flat_map (λ r. match_term table depth t r.value (m r)) rs) a → Covered es a × ((v : ℕ) × (Val (rows_of table) depth a t v × SomeOf (λ r. (has_value v r ≡ true) × R r) rs))
class_rows_found table depth a t m R es rs f h =
    let x = flat_found (λ r. match_term table depth t r.value (m r)) (Covered es a) (λ r. Val (rows_of table) depth a t r.value × R r) a rs
    (λ r c. let p = term_found table depth a t r.value (m r) c in let q = f r p.0 in (q.0, (p.1, q.1))) h in
    (x.0, value_out (λ v. Val (rows_of table) depth a t v) R rs x.1)

class_rows_finds : (table : Table) (depth : ℕ) (a : List ℕ) (t : Term) (m : Row → List Assignment) (R : Row → Type 0) (rs : List Row) (v : ℕ) → ((r : Row) → R r → Covered (m r) a) → Val (rows_of table) depth a t v → SomeOf (λ r. (has_value v r ≡ true) × R r) rs → Covered (flat_map (λ r. match_term table depth t r.value (m r)) rs) a
class_rows_finds table depth a t m R rs v f k h =
    flat_finds (λ r. match_term table depth t r.value (m r)) (λ r. Val (rows_of table) depth a t r.value × R r) a rs
    (λ r c. term_finds table depth a t r.value (m r) (f r c.1) c.0) (value_in (λ v. Val (rows_of table) depth a t v) R rs v k h)

-- at the class that is known
at_value_found : (table : Table) (depth : ℕ) (t u : Term) (k : Value) (e : Assignment) (a : List ℕ) (ds : List Assignment) → (Fits e a → ValueIs (λ v. Val (rows_of table) depth a u v) k) → (Covered ds a → Fits e a × ((v : ℕ) × (Val (rows_of table) depth a t v × Val (rows_of table) depth a u v))) → Covered (at_value table depth t k e ds) a → Fits e a × ((v : ℕ) × (Val (rows_of table) depth a t v × Val (rows_of table) depth a u v))
at_value_found table depth t u Unknown e a ds x g h = g h
at_value_found table depth t u Nothing e a ds x g h = absurd h
at_value_found table depth t u (Class w) e a ds x g h =
    let r = term_found table depth a t w (e ∷ []) h in
    let f = one_fits e a r.0 in
    (f, (w, (r.1, (x f).0)))

at_value_finds : (table : Table) (depth : ℕ) (t u : Term) (k : Value) (e : Assignment) (a : List ℕ) (ds : List Assignment) (v : ℕ) → Fits e a → ValueIs (λ v. Val (rows_of table) depth a u v) k → Val (rows_of table) depth a t v → Val (rows_of table) depth a u v → Covered ds a → Covered (at_value table depth t k e ds) a
at_value_finds table depth t u Unknown e a ds v f x p q c = c
at_value_finds table depth t u Nothing e a ds v f x p q c = absurd (x v q)
at_value_finds table depth t u (Class w) e a ds v f x p q c = term_finds table depth a t w (e ∷ []) (inl f) (subst (λ (y : ℕ). Val (rows_of table) depth a t y) (x.1 v q) p)

pub class_found : (table : Table) (depth : ℕ) (a : List ℕ) (t u : Term) (es : List Assignment) → Covered (match_class table depth t u es) a → Covered es a × ((v : ℕ) × (Val (rows_of table) depth a t v × Val (rows_of table) depth a u v))
unfolding Val
class_found table depth a t (Bound j) es h = absurd h
class_found table depth a t (Const n) es h = class_rows_found table depth a t (λ r. match_none r.args.items es) (λ r. IsNone r.args.items) es (rows_of table (Constant n)) (λ r c. none_found r.args.items a es c) h
class_found table depth a t (App s us) es h =
    let m : Assignment → Row → List Assignment = λ e r. match_args table depth us r.args.items (e ∷ []) in
    each_found (λ e. at_value table depth t (evaluate_at table depth e (Functor s) [] us) e (flat_map (λ r. match_term table depth t r.value (m e r)) (rows_of table (Functor s)))) ((v : ℕ) × (Val (rows_of table) depth a t v × Val (rows_of table) depth a (App s us) v)) a es
    (λ e c. at_value_found table depth t (App s us) (evaluate_at table depth e (Functor s) [] us) e a (flat_map (λ r. match_term table depth t r.value (m e r)) (rows_of table (Functor s))) (λ f. evaluated table depth e a f (App s us))
    (λ d. let q = class_rows_found table depth a t (m e) (λ r. Vals (rows_of table) depth a us r.args.items) (e ∷ []) (rows_of table (Functor s)) (λ r x. args_found table depth a us r.args.items (e ∷ []) x) d in (one_fits e a q.0, q.1)) c) h

pub constant_finds : (table : Table) (depth : ℕ) (a : List ℕ) (t : Term) (n : ℕ) (es : List Assignment) (v : ℕ) → Covered es a → Val (rows_of table) depth a t v → Val (rows_of table) depth a (Const n) v → Covered (match_class table depth t (Const n) es) a
unfolding Val
constant_finds table depth a t n es v f k h = class_rows_finds table depth a t (λ r. match_none r.args.items es) (λ r. IsNone r.args.items) (rows_of table (Constant n)) v (λ r c. none_finds r.args.items a es f c) k h

pub functor_finds : (table : Table) (depth : ℕ) (a : List ℕ) (t : Term) (s : Sym) (us : Terms) (es : List Assignment) (v : ℕ) → Covered es a → Val (rows_of table) depth a t v → Val (rows_of table) depth a (App s us) v → Covered (match_class table depth t (App s us) es) a
unfolding Val
functor_finds table depth a t s us es v f k h =
    let m : Assignment → Row → List Assignment = λ e r. match_args table depth us r.args.items (e ∷ []) in
    each_finds (λ e. at_value table depth t (evaluate_at table depth e (Functor s) [] us) e (flat_map (λ r. match_term table depth t r.value (m e r)) (rows_of table (Functor s)))) a es
    (λ e q. at_value_finds table depth t (App s us) (evaluate_at table depth e (Functor s) [] us) e a (flat_map (λ r. match_term table depth t r.value (m e r)) (rows_of table (Functor s))) v q (evaluated table depth e a q (App s us)) k h
    (class_rows_finds table depth a t (m e) (λ r. Vals (rows_of table) depth a us r.args.items) (rows_of table (Functor s)) v (λ r c. args_finds table depth a us r.args.items (e ∷ []) (inl q) c) k h)) f

pub equal_found : (table : Table) (values a : List ℕ) (t u : Term) (es : List Assignment) → Covered (match_equal table values t u es) a → Covered es a × OneValue (rows_of table) values a t u
unfolding OneValue
equal_found table values a t (Const n) es h = class_found table 0 a t (Const n) es h
equal_found table values a t (App s us) es h = class_found table 0 a t (App s us) es h
equal_found table values a (Bound i) (Bound j) es h =
    flat_found (λ v. match_term table 0 (Bound j) v (match_term table 0 (Bound i) v es)) (Covered es a) (λ v. Val (rows_of table) 0 a (Bound i) v × Val (rows_of table) 0 a (Bound j) v) a values
    (λ v c. let r = term_found table 0 a (Bound j) v (match_term table 0 (Bound i) v es) c in let q = term_found table 0 a (Bound i) v es r.0 in (q.0, (q.1, r.1))) h
equal_found table values a (Const n) (Bound j) es h = let x = class_found table 0 a (Bound j) (Const n) es h in (x.0, (x.1.0, (x.1.1.1, x.1.1.0)))
equal_found table values a (App s ts) (Bound j) es h = let x = class_found table 0 a (Bound j) (App s ts) es h in (x.0, (x.1.0, (x.1.1.1, x.1.1.0)))

pub equal_finds : (table : Table) (values a : List ℕ) (t u : Term) (es : List Assignment) → Covered es a → OneValue (rows_of table) values a t u → Covered (match_equal table values t u es) a
unfolding OneValue
equal_finds table values a t (Const n) es f h = constant_finds table 0 a t n es h.0 f h.1.0 h.1.1
equal_finds table values a t (App s us) es f h = functor_finds table 0 a t s us es h.0 f h.1.0 h.1.1
equal_finds table values a (Bound i) (Bound j) es f h =
    flat_finds (λ v. match_term table 0 (Bound j) v (match_term table 0 (Bound i) v es)) (λ v. Val (rows_of table) 0 a (Bound i) v × Val (rows_of table) 0 a (Bound j) v) a values
    (λ v c. term_finds table 0 a (Bound j) v (match_term table 0 (Bound i) v es) (term_finds table 0 a (Bound i) v es f c.0) c.1) h
equal_finds table values a (Const n) (Bound j) es f h = constant_finds table 0 a (Bound j) n es h.0 f h.1.1 h.1.0
equal_finds table values a (App s ts) (Bound j) es f h = functor_finds table 0 a (Bound j) s ts es h.0 f h.1.1 h.1.0
