-- An answer by rows is an answer by the facts.
use Rattle.std.proofs.Common.{ℕ, List, true, subst, sym}
use Rattle.mz_logic.specs.Term.{Term}
use Rattle.mz_logic.specs.Formula.{Formula}
use Rattle.mz_logic.specs.declared.disjunct.Disjunct.{Disjunct}
use Rattle.mz_ground.specs.declared.clause.Clause.{Clause}
use Rattle.mz_refute.specs.declared.answer.Answer.{Answer}
use Rattle.mz_refute.specs.declared.answer.Answer.TheVariants.{Yes, No, Over}
use Rattle.mz_match.specs.Table.{rows_of, count_of}
use Rattle.mz_match.specs.declared.table.Table.{Table}
use Rattle.mz_refute.specs.Answered.{IsAnswer}
use Rattle.mz_refute.specs.RowsWork.{counted_work, RowsAnswer}
use Rattle.mz_refute.specs.Tabled.{IsTabled, IsCounted}
use Rattle.mz_refute.specs.Work.{IsWork}
use Rattle.mz_refute.proofs.RefutedDown.{refuted_by_rows}
use Rattle.mz_refute.proofs.RefutedUp.{rows_by_refuted}
use Rattle.mz_refute.proofs.WorkLaws.{work_by_rows}

pub answer_by_rows : (d : Disjunct) (cs : List Clause) (class : Term → ℕ) (table : Table) (terms : ℕ) (values : List ℕ) → IsTabled d cs class (rows_of table) values → IsCounted d cs (count_of table) terms → (u : Formula) (r : Answer) → RowsAnswer table terms values d.universals u r → IsAnswer d cs u r
unfolding RowsAnswer IsAnswer
answer_by_rows d cs class table terms values h c u Yes k = record { work = counted_work (count_of table) terms d.universals true u; is_work = work_by_rows d cs (count_of table) terms c true u; within = k.0; refuted = refuted_by_rows d cs class (rows_of table) values h u k.1 }
answer_by_rows d cs class table terms values h c u No k = (record { work = counted_work (count_of table) terms d.universals true u; is_work = work_by_rows d cs (count_of table) terms c true u; within = k.0 }, λ r. k.1 (rows_by_refuted d cs class (rows_of table) values h u r))
answer_by_rows d cs class table terms values h c u (Over w) k = (subst (λ (n : ℕ). IsWork d cs true u n) (sym k.0) (work_by_rows d cs (count_of table) terms c true u), k.1)
