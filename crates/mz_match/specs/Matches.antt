-- Matching: from assignments of classes to some of the variables those that extend them and match.
use Rattle.std.specs.Prelude.{ℕ, zero, suc, ◌+◌, ◌-◌, Bool, true, false, not, ◌&&◌, ◌||◌, Option, None, Some, List, [], ◌∷◌, map, length, nat_eq, nat_lt, nat_le, flat_map, if◌then◌else◌}
use Rattle.mz_logic.specs.Sym.{same_sym}
use Rattle.mz_logic.specs.Term.{Term, Terms, Bound, Const, App, none, more, terms_of}
use Rattle.mz_logic.specs.Indices.{args_below}
use Rattle.mz_logic.specs.Formula.{Formula, Truth, Eq, Atom, Not, And, All}
use Rattle.mz_match.specs.declared.row.Head.{Head}
use Rattle.mz_match.specs.declared.row.Head.TheVariants.{Constant, Functor}
use Rattle.mz_match.specs.declared.table.Table.{Table}
use Rattle.mz_match.specs.declared.value.Value.{Value}
use Rattle.mz_match.specs.declared.value.Value.TheVariants.{Unknown, Nothing, Class}
use Rattle.mz_match.specs.Evaluate.{evaluate_at}
use Rattle.mz_match.specs.Rows.{has_value}
use Rattle.mz_match.specs.Slots.{Assignment}
use Rattle.mz_match.specs.Table.{rows_of}

abbrev pub bind_slot : Option ℕ → ℕ → Assignment → List Assignment
bind_slot None v e = (Some v ∷ e) ∷ []
bind_slot (Some w) v e = if nat_eq w v then (Some w ∷ e) ∷ [] else []

-- the variable i has the class v
abbrev pub bind : ℕ → ℕ → Assignment → List Assignment
bind i v [] = []
bind zero v (x ∷ e) = bind_slot x v e
bind (suc i) v (x ∷ e) = map (λ d. x ∷ d) (bind i v e)

abbrev pub match_none : List ℕ → List Assignment → List Assignment
match_none [] es = es
match_none (v ∷ vs) es = []

-- those that are matched, or by what is known of the term's class
abbrev pub by_value : Value → ℕ → Assignment → List Assignment → List Assignment
by_value Unknown v e ds = ds
by_value Nothing v e ds = []
by_value (Class w) v e ds = if nat_eq w v then e ∷ [] else []

-- the term has the class v; one whose variables have classes is looked up
abbrev mutual
  pub match_term : Table → ℕ → Term → ℕ → List Assignment → List Assignment
  match_term table depth (Bound i) v es = if nat_lt i depth then [] else flat_map (bind (i - depth) v) es
  match_term table depth (Const n) v es = flat_map (λ r. if has_value v r then match_none r.args.items es else []) (rows_of table (Constant n))
  match_term table depth (App s ts) v es = flat_map (λ e. by_value (evaluate_at table depth e (Functor s) [] ts) v e (flat_map (λ r. if has_value v r then match_args table depth ts r.args.items (e ∷ []) else []) (rows_of table (Functor s)))) es

  pub match_args : Table → ℕ → Terms → List ℕ → List Assignment → List Assignment
  match_args table depth none vs es = match_none vs es
  match_args table depth (more t ts) [] es = []
  match_args table depth (more t ts) (v ∷ vs) es = match_args table depth ts vs (match_term table depth t v es)

-- those that are matched, or by whether rows have the terms' classes
abbrev pub by_rows : Value → Assignment → List Assignment → List Assignment
by_rows Unknown e ds = ds
by_rows Nothing e ds = []
by_rows (Class w) e ds = e ∷ []

-- a row with this head has the classes of the terms
abbrev pub match_rows : Table → Head → Terms → List Assignment → List Assignment
match_rows table h ts es = flat_map (λ e. by_rows (evaluate_at table 0 e h [] ts) e (flat_map (λ r. match_args table 0 ts r.args.items (e ∷ [])) (rows_of table h))) es

-- those that are matched, or at which the term has the known class
abbrev pub at_value : Table → ℕ → Term → Value → Assignment → List Assignment → List Assignment
at_value table depth t Unknown e ds = ds
at_value table depth t Nothing e ds = []
at_value table depth t (Class w) e ds = match_term table depth t w (e ∷ [])

-- the first term has the class of the second, which is no variable
abbrev pub match_class : Table → ℕ → Term → Term → List Assignment → List Assignment
match_class table depth t (Bound j) es = []
match_class table depth t (Const n) es = flat_map (λ r. match_term table depth t r.value (match_none r.args.items es)) (rows_of table (Constant n))
match_class table depth t (App s us) es = flat_map (λ e. at_value table depth t (evaluate_at table depth e (Functor s) [] us) e (flat_map (λ r. match_term table depth t r.value (match_args table depth us r.args.items (e ∷ []))) (rows_of table (Functor s)))) es

-- both terms have one class
abbrev pub match_equal : Table → List ℕ → Term → Term → List Assignment → List Assignment
match_equal table values t (Const n) es = match_class table 0 t (Const n) es
match_equal table values t (App s us) es = match_class table 0 t (App s us) es
match_equal table values (Bound i) (Bound j) es = flat_map (λ v. match_term table 0 (Bound j) v (match_term table 0 (Bound i) v es)) values
match_equal table values (Const n) (Bound j) es = match_class table 0 (Bound j) (Const n) es
match_equal table values (App s ts) (Bound j) es = match_class table 0 (Bound j) (App s ts) es

-- the index i under `depth` binders and n outer ones is the index j under `depth` binders
abbrev pub is_index : ℕ → ℕ → ℕ → ℕ → Bool
is_index depth i j n = (nat_lt i depth && nat_eq i j) || (nat_le (depth + n) i && nat_eq i (j + n))

abbrev pub keep_index : ℕ → ℕ → ℕ → Assignment → List Assignment
keep_index depth i j e = if is_index depth i j (length e) then e ∷ [] else []

abbrev pub match_index : ℕ → Term → ℕ → List Assignment → List Assignment
match_index depth (Bound i) j es = flat_map (keep_index depth i j) es
match_index depth (Const n) j es = []
match_index depth (App s ts) j es = []

-- the terms are congruent
abbrev mutual
  pub congruent_term : Table → ℕ → Term → Term → List Assignment → List Assignment
  congruent_term table depth t (Bound j) es = match_index depth t j es
  congruent_term table depth t (Const n) es = match_class table depth t (Const n) es
  congruent_term table depth (Bound i) (App s us) es = if args_below 0 us then match_class table depth (Bound i) (App s us) es else []
  congruent_term table depth (Const n) (App s us) es = if args_below 0 us then match_class table depth (Const n) (App s us) es else []
  congruent_term table depth (App r ts) (App s us) es = if args_below 0 us then match_class table depth (App r ts) (App s us) es else (if same_sym r s then congruent_args table depth ts us es else [])

  pub congruent_args : Table → ℕ → Terms → Terms → List Assignment → List Assignment
  congruent_args table depth none none es = es
  congruent_args table depth none (more u us) es = []
  congruent_args table depth (more t ts) none es = []
  congruent_args table depth (more t ts) (more u us) es = congruent_args table depth ts us (congruent_term table depth t u es)

abbrev pub when : Bool → List Assignment → List Assignment
when b es = if b then es else []

abbrev pub same_sign : Bool → Bool → Bool
same_sign true q = q
same_sign false q = not q

-- the formulas are congruent up to double negation
abbrev pub congruent_formula : Table → ℕ → Bool → Formula → Bool → Formula → List Assignment → List Assignment
congruent_formula table depth p (Not f) q g es = congruent_formula table depth (not p) f q g es
congruent_formula table depth p Truth q (Not g) es = congruent_formula table depth p Truth (not q) g es
congruent_formula table depth p Truth q Truth es = when (same_sign p q) es
congruent_formula table depth p Truth q g es = []
congruent_formula table depth p (Eq t u) q (Not g) es = congruent_formula table depth p (Eq t u) (not q) g es
congruent_formula table depth p (Eq t u) q (Eq v w) es = when (same_sign p q) (congruent_term table depth u w (congruent_term table depth t v es))
congruent_formula table depth p (Eq t u) q g es = []
congruent_formula table depth p (Atom r ts) q (Not g) es = congruent_formula table depth p (Atom r ts) (not q) g es
congruent_formula table depth p (Atom r ts) q (Atom s us) es = when (same_sign p q && same_sym r s) (congruent_args table depth (terms_of ts) (terms_of us) es)
congruent_formula table depth p (Atom r ts) q g es = []
congruent_formula table depth p (And f h) q (Not g) es = congruent_formula table depth p (And f h) (not q) g es
congruent_formula table depth p (And f h) q (And g k) es = when (same_sign p q) (congruent_formula table depth true h true k (congruent_formula table depth true f true g es))
congruent_formula table depth p (And f h) q g es = []
congruent_formula table depth p (All f) q (Not g) es = congruent_formula table depth p (All f) (not q) g es
congruent_formula table depth p (All f) q (All g) es = when (same_sign p q) (congruent_formula table (depth + 1) true f true g es)
congruent_formula table depth p (All f) q g es = []
