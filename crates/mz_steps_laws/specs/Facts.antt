-- What a context says, and what it takes for steps in it to be sound.
use Rattle.std.specs.Prelude.{◌≡◌, ℕ, suc, List, [], ◌∷◌, ◌++◌, map, Option, Some, None, Contains}
use Rattle.mz_logic.specs.Formula.{Formula}
use Rattle.mz_logic.specs.Literal.{literal_formula}
use Rattle.mz_logic.specs.Derives.{Derives}
use Rattle.mz_logic.specs.declared.literal.Literal.{Literal}
use Rattle.mz_core.specs.Statement.{Statement}
use Rattle.mz_core.specs.Erasure.{erase}
use Rattle.mz_core.specs.declared.scheme.SchemeLetter.{SchemeLetter}
use Rattle.mz_items.specs.SchemeRows.{letter_types}
use Rattle.mz_context.specs.Context.{next}
use Rattle.mz_context.specs.Gather.{known_of}
use Rattle.mz_context.specs.declared.constants.Constant.{Constant}
use Rattle.mz_context.specs.declared.context.Context.{Context}
use Rattle.mz_context.specs.declared.letters.NamedLetter.{NamedLetter}
use Rattle.mz_ground.specs.ClauseFormula.{clause_formula}
use Rattle.mz_ground.specs.declared.clause.Clause.{Clause}
use Rattle.mz_environment.specs.declared.unfoldings.Unfolding.{Unfolding}
use Rattle.mz_thesis_laws.specs.RowLaws.{AreInForce}
use Rattle.mz_thesis_laws.specs.StepLaws.{AreUnfoldings}
use Rattle.mz_steps.specs.Changes.{statement_of}

-- the guards and defining equations of the constants, the first of which has the number n
abbrev pub known_from : ℕ → List (Option Constant) → List Literal
known_from n [] = []
known_from n (o ∷ os) = known_of n o ++ known_from (suc n) os

-- the statement just before, where there is one
abbrev pub just_before : Option Statement → List Statement
just_before None = []
just_before (Some s) = s ∷ []

abbrev pub letter_of : NamedLetter → SchemeLetter
letter_of l = l.letter

-- the labelled statements, the statement just before, and the types of the functor letters in force
abbrev pub statements_in : Context → List Statement
statements_in c = (map statement_of c.labelled ++ just_before c.previous) ++ letter_types (map letter_of c.letters)

-- all that a context says
abbrev pub facts : Context → List Formula
facts c = map literal_formula (known_from 1 c.constants) ++ map erase (statements_in c)

-- what it takes for steps to be sound in a context, where some formulas are held besides: the clauses derive, what the
-- unfoldings say derives from the axioms, and all is said of constants in force
pub record Rests (axioms held : List Formula) (cs : List Clause) (us : List Unfolding) (c : Context) : Type 0 where
  pub clauses : (k : Clause) → Contains cs k → Derives axioms (facts c ++ held) (clause_formula k)
  pub unfoldings : AreUnfoldings axioms us
  pub in_force : AreInForce (next c) (facts c ++ held)
