-- Formulas that are equal up to double negation and the classes of terms. The first is under binders
-- whose variables have the classes `a`, the second under none, and both under `depth` further ones.
use Rattle.std.specs.Prelude.{◌≡◌, ℕ, ◌≤◌, ◌<◌, ◌+◌, ◌⊎◌, Bool, true, false, not, List, length}
use Rattle.mz_logic.specs.Sym.{same_sym}
use Rattle.mz_logic.specs.Term.{Term, Terms, Bound, Const, App, none, more, terms_of}
use Rattle.mz_logic.specs.Indices.{args_below}
use Rattle.mz_logic.specs.Formula.{Formula, Truth, Eq, Atom, Not, And, All}
use Rattle.mz_match.specs.declared.row.Head.{Head}
use Rattle.mz_match.specs.declared.row.Row.{Row}
use Rattle.mz_match.specs.Rows.{Val}

-- the index i is the index j: that of one of the `depth` binders, or free
abbrev pub IsIndex : ℕ → List ℕ → Term → ℕ → Type 0
IsIndex depth a (Bound i) j = ((i < depth) × (i ≡ j)) ⊎ ((depth + length a ≤ i) × (i ≡ j + length a))
IsIndex depth a (Const n) j = ⊥
IsIndex depth a (App s ts) j = ⊥

-- a closed term has the class of the other, and an open one has its symbol and congruent arguments
unfoldable mutual
  pub AreCongruent : (Head → List Row) → ℕ → List ℕ → Term → Term → Type 0
  AreCongruent rows depth a t (Bound j) = IsIndex depth a t j
  AreCongruent rows depth a t (Const n) = (v : ℕ) × (Val rows depth a t v × Val rows depth a (Const n) v)
  AreCongruent rows depth a (Bound i) (App s us) = (args_below 0 us ≡ true) × ((v : ℕ) × (Val rows depth a (Bound i) v × Val rows depth a (App s us) v))
  AreCongruent rows depth a (Const n) (App s us) = (args_below 0 us ≡ true) × ((v : ℕ) × (Val rows depth a (Const n) v × Val rows depth a (App s us) v))
  AreCongruent rows depth a (App r ts) (App s us) = ((args_below 0 us ≡ true) × ((v : ℕ) × (Val rows depth a (App r ts) v × Val rows depth a (App s us) v))) ⊎ ((args_below 0 us ≡ false) × (same_sym r s ≡ true) × AllCongruent rows depth a ts us)

  pub AllCongruent : (Head → List Row) → ℕ → List ℕ → Terms → Terms → Type 0
  AllCongruent rows depth a none none = Unit {0}
  AllCongruent rows depth a none (more u us) = ⊥
  AllCongruent rows depth a (more t ts) none = ⊥
  AllCongruent rows depth a (more t ts) (more u us) = AreCongruent rows depth a t u × AllCongruent rows depth a ts us

-- the first formula, negated where p is false, and the second, negated where q is
unfoldable pub AreCongruentFormulas : (Head → List Row) → ℕ → List ℕ → Bool → Formula → Bool → Formula → Type 0
AreCongruentFormulas rows depth a p (Not f) q g = AreCongruentFormulas rows depth a (not p) f q g
AreCongruentFormulas rows depth a p Truth q (Not g) = AreCongruentFormulas rows depth a p Truth (not q) g
AreCongruentFormulas rows depth a p Truth q Truth = p ≡ q
AreCongruentFormulas rows depth a p Truth q g = ⊥
AreCongruentFormulas rows depth a p (Eq t u) q (Not g) = AreCongruentFormulas rows depth a p (Eq t u) (not q) g
AreCongruentFormulas rows depth a p (Eq t u) q (Eq v w) = (p ≡ q) × AreCongruent rows depth a t v × AreCongruent rows depth a u w
AreCongruentFormulas rows depth a p (Eq t u) q g = ⊥
AreCongruentFormulas rows depth a p (Atom r ts) q (Not g) = AreCongruentFormulas rows depth a p (Atom r ts) (not q) g
AreCongruentFormulas rows depth a p (Atom r ts) q (Atom s us) = (p ≡ q) × (same_sym r s ≡ true) × AllCongruent rows depth a (terms_of ts) (terms_of us)
AreCongruentFormulas rows depth a p (Atom r ts) q g = ⊥
AreCongruentFormulas rows depth a p (And f h) q (Not g) = AreCongruentFormulas rows depth a p (And f h) (not q) g
AreCongruentFormulas rows depth a p (And f h) q (And g k) = (p ≡ q) × AreCongruentFormulas rows depth a true f true g × AreCongruentFormulas rows depth a true h true k
AreCongruentFormulas rows depth a p (And f h) q g = ⊥
AreCongruentFormulas rows depth a p (All f) q (Not g) = AreCongruentFormulas rows depth a p (All f) (not q) g
AreCongruentFormulas rows depth a p (All f) q (All g) = (p ≡ q) × AreCongruentFormulas rows (depth + 1) a true f true g
AreCongruentFormulas rows depth a p (All f) q g = ⊥
