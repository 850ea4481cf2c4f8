-- What the problem of a statement is worth: where its conclusion derives from its premises, the statement derives from
-- what the premises derive from.
use Rattle.std.specs.Prelude.{◌≡◌, ℕ, true, List, ◌++◌, Contains, Option, map}
use Rattle.std.specs.List.{list_all}
use Rattle.mz_logic.specs.Formula.{Formula}
use Rattle.mz_logic.specs.Derives.{Derives}
use Rattle.mz_logic.specs.declared.literal.Literal.{Literal}
use Rattle.mz_core.specs.Statement.{Statement}
use Rattle.mz_core.specs.TypeStatements.{literal_statement}
use Rattle.mz_core.specs.Erasure.{erase}
use Rattle.mz_core.specs.InForce.{statement_in_force}
use Rattle.mz_core.specs.Below.{statement_below}
use Rattle.mz_context.specs.Context.{numbers}
use Rattle.mz_context.specs.Gather.{known}
use Rattle.mz_context.specs.declared.constants.Constant.{Constant}
use Rattle.mz_ground.specs.declared.clause.Clause.{Clause}
use Rattle.mz_environment.specs.declared.unfoldings.Unfolding.{Unfolding}
use Rattle.mz_nf.specs.declared.problem.Problem.{Problem}
use Rattle.mz_fits.specs.Laws.{AreGranted}
use Rattle.mz_problem.specs.Asked.{Asks}
use Rattle.mz_thesis_laws.specs.RowLaws.{AreInForce}
use Rattle.mz_thesis_laws.specs.StepLaws.{AreUnfoldings}

-- what is known of constants has no free index
abbrev pub KnownIsClosed : List (Option Constant) → Type 0
KnownIsClosed ks = (n : ℕ) (l : Literal) → Contains (known ks n) l → statement_below 0 (literal_statement l) ≡ true

abbrev pub ProblemLaw : Type 0
ProblemLaw =
    (axioms premises : List Formula) (cs : List Clause) (ks : List (Option Constant)) (us : List Unfolding) → AreGranted axioms premises cs ks → AreUnfoldings axioms us →
    AreInForce (numbers ks) premises → KnownIsClosed ks →
    (given : List Statement) → list_all (statement_below 0) given ≡ true → ((f : Formula) → Contains (map erase given) f → Derives axioms premises f) →
    (s : Statement) → statement_in_force (numbers ks) s ≡ true → statement_below 0 s ≡ true →
    (p : Problem) → Asks cs ks us given s p → Derives axioms p.premises p.conclusion → Derives axioms premises (erase s)

-- so it is where the conclusion derives from the premises and from further formulas that derive, as clauses do
abbrev pub JoinedProblemLaw : Type 0
JoinedProblemLaw =
    (axioms premises : List Formula) (cs : List Clause) (ks : List (Option Constant)) (us : List Unfolding) → AreGranted axioms premises cs ks → AreUnfoldings axioms us →
    AreInForce (numbers ks) premises → KnownIsClosed ks →
    (given : List Statement) → list_all (statement_below 0) given ≡ true → ((f : Formula) → Contains (map erase given) f → Derives axioms premises f) →
    (s : Statement) → statement_in_force (numbers ks) s ≡ true → statement_below 0 s ≡ true →
    (p : Problem) → Asks cs ks us given s p → (more : List Formula) → ((f : Formula) → Contains more f → Derives axioms premises f) →
    Derives axioms (p.premises ++ more) p.conclusion → Derives axioms premises (erase s)
