-- The work of a refutation, counted over rows, and what is answered.
use Rattle.std.specs.Prelude.{◌≡◌, ◌≤◌, ◌<◌, ℕ, ◌+◌, ◌*◌, Bool, true, false, not, List, [], length}
use Rattle.mz_logic.specs.Formula.{Formula, Truth, Eq, Atom, Not, And, All}
use Rattle.mz_refute.specs.declared.answer.Answer.{Answer}
use Rattle.mz_refute.specs.declared.answer.Answer.TheVariants.{Yes, No, Over}
use Rattle.mz_match.specs.declared.row.Head.{Head}
use Rattle.mz_match.specs.declared.row.Head.TheVariants.{Holds, Fails, Disequal}
use Rattle.mz_match.specs.Table.{rows_of, count_of}
use Rattle.mz_match.specs.declared.table.Table.{Table}
use Rattle.mz_match.specs.RowsRefuted.{RowsRefute}
use Rattle.mz_logic.specs.Capped.{capped}
use Rattle.mz_refute.specs.Work.{most_work}

-- by how many facts there are with each head, and how many ground terms: with true the work of the formula, with false
-- that of its negation
abbrev pub counted_work : (Head → ℕ) → ℕ → List Formula → Bool → Formula → ℕ
counted_work count terms us s Truth = 1
counted_work count terms us true (Eq t u) = capped (count Disequal)
counted_work count terms us false (Eq t u) = capped terms
counted_work count terms us true (Atom p ts) = capped (count (Fails p))
counted_work count terms us false (Atom p ts) = capped (count (Holds p))
counted_work count terms us s (Not f) = counted_work count terms us (not s) f
counted_work count terms us true (And f g) = capped (counted_work count terms us true f + counted_work count terms us true g)
counted_work count terms us false (And f g) = capped (counted_work count terms us false f * counted_work count terms us false g)
counted_work count terms us true (All b) = counted_work count terms us true b
counted_work count terms us false (All b) = capped (length us)

-- what is answered for a universal: its work where that passes the limit, and else whether it is refuted
abbrev pub IsAnswerOf : ℕ → Type 0 → Answer → Type 0
IsAnswerOf work refuted Yes = (work ≤ most_work) × refuted
IsAnswerOf work refuted No = (work ≤ most_work) × (refuted → ⊥)
IsAnswerOf work refuted (Over w) = (w ≡ work) × (most_work < w)

unfoldable pub RowsAnswer : Table → ℕ → List ℕ → List Formula → Formula → Answer → Type 0
RowsAnswer table terms values us f r = IsAnswerOf (counted_work (count_of table) terms us true f) (RowsRefute (rows_of table) values us true [] f) r
