-- Rows of a table, and the values that terms have by them. `a` lists the classes of the variables,
-- innermost first, and `depth` counts the binders around the term that have no class.
use Rattle.std.specs.Prelude.{◌≡◌, ℕ, ◌≤◌, ◌-◌, ◌⊎◌, Bool, true, List, [], ◌∷◌, slice_get, Some, nat_eq}
use Rattle.mz_logic.specs.Term.{Term, Terms, Bound, Const, App, none, more}
use Rattle.mz_match.specs.declared.row.Head.{Head}
use Rattle.mz_match.specs.declared.row.Head.TheVariants.{Constant, Functor}
use Rattle.mz_match.specs.declared.row.Row.{Row}

-- one of the members
abbrev pub SomeOf : {X : Type 0} → (X → Type 0) → List X → Type 0
SomeOf P [] = ⊥
SomeOf P (x ∷ xs) = P x ⊎ SomeOf P xs

abbrev pub IsNone : List ℕ → Type 0
IsNone [] = Unit {0}
IsNone (v ∷ vs) = ⊥

abbrev pub has_value : ℕ → Row → Bool
has_value v r = nat_eq r.value v

-- the term has the class v
unfoldable mutual
  pub Val : (Head → List Row) → ℕ → List ℕ → Term → ℕ → Type 0
  Val rows depth a (Bound i) v = (depth ≤ i) × (slice_get a (i - depth) ≡ Some v)
  Val rows depth a (Const n) v = SomeOf (λ r. (has_value v r ≡ true) × IsNone r.args.items) (rows (Constant n))
  Val rows depth a (App s ts) v = SomeOf (λ r. (has_value v r ≡ true) × Vals rows depth a ts r.args.items) (rows (Functor s))

  pub Vals : (Head → List Row) → ℕ → List ℕ → Terms → List ℕ → Type 0
  Vals rows depth a none vs = IsNone vs
  Vals rows depth a (more t ts) [] = ⊥
  Vals rows depth a (more t ts) (v ∷ vs) = Val rows depth a t v × Vals rows depth a ts vs

-- a row with this head has the classes of the terms
unfoldable pub RowOn : (Head → List Row) → List ℕ → Head → Terms → Type 0
RowOn rows a h ts = SomeOf (λ r. Vals rows 0 a ts r.args.items) (rows h)

-- two terms have one class; of two variables one of the `values`
unfoldable pub OneValue : (Head → List Row) → List ℕ → List ℕ → Term → Term → Type 0
OneValue rows values a t (Const n) = (v : ℕ) × (Val rows 0 a t v × Val rows 0 a (Const n) v)
OneValue rows values a t (App s us) = (v : ℕ) × (Val rows 0 a t v × Val rows 0 a (App s us) v)
OneValue rows values a (Bound i) (Bound j) = SomeOf (λ v. Val rows 0 a (Bound i) v × Val rows 0 a (Bound j) v) values
OneValue rows values a (Const n) (Bound j) = (v : ℕ) × (Val rows 0 a (Const n) v × Val rows 0 a (Bound j) v)
OneValue rows values a (App s ts) (Bound j) = (v : ℕ) × (Val rows 0 a (App s ts) v × Val rows 0 a (Bound j) v)
