-- When classes for the variables refute a formula.
use Rattle.std.specs.Prelude.{ℕ, ◌⊎◌, Bool, true, false, List, ◌∷◌}
use Rattle.mz_logic.specs.Term.{none, more, terms_of}
use Rattle.mz_logic.specs.Formula.{Formula, Truth, Eq, Atom, Not, And, All}
use Rattle.mz_match.specs.declared.row.Head.{Head}
use Rattle.mz_match.specs.declared.row.Head.TheVariants.{Holds, Fails, Disequal}
use Rattle.mz_match.specs.declared.row.Row.{Row}
use Rattle.mz_match.specs.Rows.{SomeOf, RowOn, OneValue}
use Rattle.mz_match.specs.RowsCongruent.{AreCongruentFormulas}

-- with true the formula is refuted, with false its negation is; `us` are the listed universals
unfoldable pub RowsRefute : (Head → List Row) → List ℕ → List Formula → Bool → List ℕ → Formula → Type 0
RowsRefute rows values us true a Truth = ⊥
RowsRefute rows values us false a Truth = Unit {0}
RowsRefute rows values us true a (Eq t u) = RowOn rows a Disequal (more t (more u none)) ⊎ RowOn rows a Disequal (more u (more t none))
RowsRefute rows values us false a (Eq t u) = OneValue rows values a t u
RowsRefute rows values us true a (Atom s ts) = RowOn rows a (Fails s) (terms_of ts)
RowsRefute rows values us false a (Atom s ts) = RowOn rows a (Holds s) (terms_of ts)
RowsRefute rows values us true a (Not f) = RowsRefute rows values us false a f
RowsRefute rows values us false a (Not f) = RowsRefute rows values us true a f
RowsRefute rows values us true a (And f g) = RowsRefute rows values us true a f ⊎ RowsRefute rows values us true a g
RowsRefute rows values us false a (And f g) = RowsRefute rows values us false a f × RowsRefute rows values us false a g
RowsRefute rows values us true a (All b) = (v : ℕ) × RowsRefute rows values us true (v ∷ a) b
RowsRefute rows values us false a (All b) = SomeOf (λ u. AreCongruentFormulas rows 0 a true (All b) true u) us
