-- The work that is counted over rows is the work.
use Rattle.std.proofs.Common.{ℕ, List, Bool, true, false}
use Rattle.mz_logic.specs.Formula as form
use Rattle.mz_logic.specs.Formula.{Formula}
use Rattle.mz_logic.specs.declared.disjunct.Disjunct.{Disjunct}
use Rattle.mz_ground.specs.declared.clause.Clause.{Clause}
use Rattle.mz_match.specs.declared.row.Head.{Head}
use Rattle.mz_match.specs.declared.row.Head.TheVariants.{Holds, Fails, Disequal}
use Rattle.mz_refute.specs.RowsWork.{counted_work}
use Rattle.mz_refute.specs.Tabled.{IsCounted}
use Rattle.mz_refute.specs.Work.{IsWork, of_truth, of_atom, of_equation, of_disequation, of_negation, of_conjunction, of_negated_conjunction, of_universal, of_negated_universal}

pub work_by_rows : (d : Disjunct) (cs : List Clause) (count : Head → ℕ) (terms : ℕ) → IsCounted d cs count terms → (s : Bool) (f : Formula) → IsWork d cs s f (counted_work count terms d.universals s f)
work_by_rows d cs count terms h s form.Truth = of_truth s
work_by_rows d cs count terms h true (form.Eq t u) = of_equation t u (count Disequal) h.differ
work_by_rows d cs count terms h false (form.Eq t u) = of_disequation t u terms h.terms
work_by_rows d cs count terms h true (form.Atom p ts) = of_atom true p ts (count (Fails p)) (h.fails p)
work_by_rows d cs count terms h false (form.Atom p ts) = of_atom false p ts (count (Holds p)) (h.holds p)
work_by_rows d cs count terms h true (form.Not f) = of_negation true f (counted_work count terms d.universals false f) (work_by_rows d cs count terms h false f)
work_by_rows d cs count terms h false (form.Not f) = of_negation false f (counted_work count terms d.universals true f) (work_by_rows d cs count terms h true f)
work_by_rows d cs count terms h true (form.And f g) = of_conjunction f g (counted_work count terms d.universals true f) (counted_work count terms d.universals true g) (work_by_rows d cs count terms h true f) (work_by_rows d cs count terms h true g)
work_by_rows d cs count terms h false (form.And f g) = of_negated_conjunction f g (counted_work count terms d.universals false f) (counted_work count terms d.universals false g) (work_by_rows d cs count terms h false f) (work_by_rows d cs count terms h false g)
work_by_rows d cs count terms h true (form.All b) = of_universal b (counted_work count terms d.universals true b) (work_by_rows d cs count terms h true b)
work_by_rows d cs count terms h false (form.All b) = of_negated_universal b
