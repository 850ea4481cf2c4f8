-- The problem of a statement that is to be justified.
use Rattle.std.specs.Prelude.{◌≡◌, ℕ, Bool, List, [], ◌∷◌, ◌++◌, map, flat_map, Option}
use Rattle.std.specs.List.{list_any}
use Rattle.mz_logic.specs.Formula.{Formula}
use Rattle.mz_logic.specs.Literal.{literal_formula}
use Rattle.mz_logic.specs.Constants.{occurs_in_formula}
use Rattle.mz_logic.specs.declared.literal.Literal.{Literal}
use Rattle.mz_core.specs.Statement.{Statement}
use Rattle.mz_core.specs.StatementForms.{opposite}
use Rattle.mz_core.specs.TypeStatements.{literal_statement}
use Rattle.mz_core.specs.Parts.{parts}
use Rattle.mz_core.specs.Erasure.{erase}
use Rattle.mz_core.specs.declared.soft_type.SoftType.{SoftType}
use Rattle.mz_context.specs.Context.{numbers}
use Rattle.mz_context.specs.Gather.{below, reached, known_of_all}
use Rattle.mz_context.specs.declared.constants.Constant.{Constant}
use Rattle.mz_ground.specs.declared.clause.Clause.{Clause}
use Rattle.mz_environment.specs.declared.unfoldings.Unfolding.{Unfolding}
use Rattle.mz_nf.specs.declared.problem.Problem.{Problem}
use Rattle.mz_problem.specs.Opened.{Opens, with_all_fresh, guards_from}
use Rattle.mz_problem.specs.Definientia.{AllAdd}

-- the constant occurs in one of the formulas
abbrev pub occurs_in_some : List Formula → ℕ → Bool
occurs_in_some fs c = list_any (occurs_in_formula c) fs

-- the guards and defining equations of the constants that occur, and of those that occur in that, round by round
abbrev pub known_in : List (Option Constant) → List Formula → List Literal
known_in ks fs = known_of_all ks (reached ks (below (occurs_in_some fs) (numbers ks)))

-- the formulas of the statement before and the cited ones, and of the statement itself
abbrev pub formulas_of : List Statement → Statement → List Formula
formulas_of given s = map erase given ++ erase s ∷ []

-- the parts that may add a definiens: of what is given, of what is known, of the fresh constants' guards, and of the
-- negated conclusion
abbrev pub parts_of : List Statement → List Literal → List Literal → Statement → List Statement
parts_of given known fresh t = ((flat_map parts given ++ map literal_statement known) ++ map literal_statement fresh) ++ parts (opposite t)

abbrev pub problem_of : List Statement → List Literal → List Statement → List Literal → Statement → Problem
problem_of given known added fresh t = record {
  premises = ((map erase given ++ map literal_formula known) ++ map erase added) ++ map literal_formula fresh;
  conclusion = erase t;
}

-- the problem, where these literals are known, the fresh constants are in force with these guards, and the statement is open
pub data AskedAt (cs : List Clause) (ks : List (Option Constant)) (us : List Unfolding) (given : List Statement) (known fresh : List Literal) (t : Statement) : Problem → Type 0 where
  with_added : (added : List Statement) → AllAdd cs ks us (parts_of given known fresh t) added → AskedAt cs ks us given known fresh t (problem_of given known added fresh t)

-- the problem of justifying s by the statements that are given, the one just before and then the cited ones
pub data Asks (cs : List Clause) (ks : List (Option Constant)) (us : List Unfolding) (given : List Statement) (s : Statement) (p : Problem) : Type 0 where
  asks : (tys : List SoftType) (t : Statement) → Opens ks s tys t →
      AskedAt cs (with_all_fresh ks tys) us given (known_in ks (formulas_of given s)) (guards_from (numbers ks) tys) t p → Asks cs ks us given s p
