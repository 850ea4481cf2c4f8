-- Matching of literals finds exactly the assignments that refute them.
use Rattle.std.proofs.Common.{inl, inr, ℕ, List, Bool, true, false}
use Rattle.mz_logic.specs.Term as term
use Rattle.mz_logic.specs.Term.{terms_of}
use Rattle.mz_logic.specs.Formula as form
use Rattle.mz_logic.specs.Formula.{Formula}
use Rattle.mz_match.specs.declared.table.Table.{Table}
use Rattle.mz_match.specs.Table.{rows_of}
use Rattle.mz_match.specs.declared.row.Head.TheVariants.{Holds, Fails, Disequal}
use Rattle.mz_match.specs.RowsCongruent.{AreCongruentFormulas}
use Rattle.mz_match.specs.RowsRefuted.{RowsRefute}
use Rattle.mz_match.specs.Slots.{Assignment}
use Rattle.mz_match.specs.Matches.{match_rows, congruent_formula}
use Rattle.mz_match.specs.Literals.{match_literal, IsLiteral}
use Rattle.mz_match.specs.Fitting.{Fits, Covered}
use Rattle.mz_match.proofs.SomeLemmas.{some_left, some_right, some_cases}
use Rattle.mz_match.proofs.MatchLemmas.{row_found, row_finds, equal_found, equal_finds, flat_found, flat_finds}
use Rattle.mz_match.proofs.CongruentLemmas.{congruent_found, congruent_finds}

-- a literal
pub literal_found : (table : Table) (values : List ℕ) (us : List Formula) (s : Bool) (f : Formula) (a : List ℕ) (es : List Assignment) → IsLiteral s f → Covered (match_literal table values us s f es) a → Covered es a × RowsRefute (rows_of table) values us s a f
unfolding RowsRefute
literal_found table values us true form.Truth a es l h = absurd h
literal_found table values us false form.Truth a es l h = (h, tt)
literal_found table values us true (form.Eq t u) a es l h =
    elim (some_cases (λ e. Fits e a) (match_rows table Disequal (term.more t (term.more u term.none)) es) (match_rows table Disequal (term.more u (term.more t term.none)) es) h) [
      | inl c ↦ let x = row_found table a Disequal (term.more t (term.more u term.none)) es c in (x.0, inl x.1)
      | inr c ↦ let x = row_found table a Disequal (term.more u (term.more t term.none)) es c in (x.0, inr x.1)
    ]
literal_found table values us false (form.Eq t u) a es l h = equal_found table values a t u es h
literal_found table values us true (form.Atom p ts) a es l h = row_found table a (Fails p) (terms_of ts) es h
literal_found table values us false (form.Atom p ts) a es l h = row_found table a (Holds p) (terms_of ts) es h
literal_found table values us s (form.Not f) a es l h = absurd l
literal_found table values us s (form.And f g) a es l h = absurd l
literal_found table values us true (form.All b) a es l h = absurd l
literal_found table values us false (form.All b) a es l h =
    flat_found (λ u. congruent_formula table 0 true (form.All b) true u es) (Covered es a) (λ u. AreCongruentFormulas (rows_of table) 0 a true (form.All b) true u) a us (λ u c. congruent_found table 0 a true (form.All b) true u es c) h

pub literal_finds : (table : Table) (values : List ℕ) (us : List Formula) (s : Bool) (f : Formula) (a : List ℕ) (es : List Assignment) → IsLiteral s f → Covered es a → RowsRefute (rows_of table) values us s a f → Covered (match_literal table values us s f es) a
unfolding RowsRefute
literal_finds table values us true form.Truth a es l c h = absurd h
literal_finds table values us false form.Truth a es l c h = c
literal_finds table values us true (form.Eq t u) a es l c h =
    elim h [
      | inl k ↦ some_left (λ e. Fits e a) (match_rows table Disequal (term.more t (term.more u term.none)) es) (match_rows table Disequal (term.more u (term.more t term.none)) es) (row_finds table a Disequal (term.more t (term.more u term.none)) es c k)
      | inr k ↦ some_right (λ e. Fits e a) (match_rows table Disequal (term.more t (term.more u term.none)) es) (match_rows table Disequal (term.more u (term.more t term.none)) es) (row_finds table a Disequal (term.more u (term.more t term.none)) es c k)
    ]
literal_finds table values us false (form.Eq t u) a es l c h = equal_finds table values a t u es c h
literal_finds table values us true (form.Atom p ts) a es l c h = row_finds table a (Fails p) (terms_of ts) es c h
literal_finds table values us false (form.Atom p ts) a es l c h = row_finds table a (Holds p) (terms_of ts) es c h
literal_finds table values us s (form.Not f) a es l c h = absurd l
literal_finds table values us s (form.And f g) a es l c h = absurd l
literal_finds table values us true (form.All b) a es l c h = absurd l
literal_finds table values us false (form.All b) a es l c h =
    flat_finds (λ u. congruent_formula table 0 true (form.All b) true u es) (λ u. AreCongruentFormulas (rows_of table) 0 a true (form.All b) true u) a us (λ u k. congruent_finds table 0 a true (form.All b) true u es c k) h
