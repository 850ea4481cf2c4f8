-- What fits derives.
use Rattle.std.specs.Prelude.{◌≡◌, ℕ, true, List, map, reverse, Option, Some, Contains}
use Rattle.std.specs.List.{list_all}
use Rattle.mz_logic.specs.Term.{Term}
use Rattle.mz_logic.specs.Formula.{Formula, Eq}
use Rattle.mz_logic.specs.Literal.{literal_formula}
use Rattle.mz_logic.specs.Indices.{closed}
use Rattle.mz_logic.specs.Substitution.{substitute, value_at}
use Rattle.mz_logic.specs.Equality.{AreEqual}
use Rattle.mz_logic.specs.Derives.{Derives}
use Rattle.mz_logic.specs.declared.literal.Literal.{Literal}
use Rattle.mz_core.specs.Guard.{guard}
use Rattle.mz_core.specs.declared.soft_type.SoftType.{SoftType}
use Rattle.mz_context.specs.declared.constants.Constant.{Constant}
use Rattle.mz_context.specs.Gather.{known}
use Rattle.mz_ground.specs.ClauseFormula.{clause_formula}
use Rattle.mz_ground.specs.declared.clause.Clause.{Clause}
use Rattle.mz_fits.specs.Fits.{LiteralFits, TypeFits, AreEqualBy}
use Rattle.mz_fits.specs.Matching.{Fixed, unfixed, AllMatched, values_of, Accepted}

-- the clauses, and the guards and defining equations of the constants, derive from the premises
pub record AreGranted (axioms premises : List Formula) (cs : List Clause) (ks : List (Option Constant)) : Type 0 where
  pub clauses : (c : Clause) → Contains cs c → Derives axioms premises (clause_formula c)
  pub known : (n : ℕ) (l : Literal) → Contains (known ks n) l → Derives axioms premises (literal_formula l)

-- a literal that fits derives
abbrev pub LiteralLaw : Type 0
LiteralLaw =
    (axioms premises : List Formula) (cs : List Clause) (ks : List (Option Constant)) → AreGranted axioms premises cs ks →
    (l : Literal) → LiteralFits cs ks l → Derives axioms premises (literal_formula l)

-- each formula of a guard that fits derives
abbrev pub FitsLaw : Type 0
FitsLaw =
    (axioms premises : List Formula) (cs : List Clause) (ks : List (Option Constant)) → AreGranted axioms premises cs ks →
    (t : Term) (ty : SoftType) → TypeFits cs ks t ty → (f : Formula) → Contains (guard ty t) f → Derives axioms premises f

-- terms that are the same or equal by the facts derive equal, where the first one derives equal to itself
abbrev pub EqualLaw : Type 0
EqualLaw =
    (axioms premises : List Formula) (cs : List Clause) (ks : List (Option Constant)) → AreGranted axioms premises cs ks →
    (t u : Term) → Derives axioms premises (Eq t t) → AreEqualBy cs ks t u → Derives axioms premises (Eq t u)

-- what is fixed behind a match is determined
abbrev pub OneMatchLaw : Type 0
OneMatchLaw =
    (cs : List Clause) (ks : List (Option Constant)) (scope : ℕ) (fs : Fixed) (us ts : List Term) (o p : Option Fixed) →
    AllMatched cs ks scope fs us ts o → AllMatched cs ks scope fs us ts p → o ≡ p

-- so are the values that are accepted
abbrev pub OneAcceptedLaw : Type 0
OneAcceptedLaw =
    (cs : List Clause) (ks : List (Option Constant)) (loci : List SoftType) (fs : Fixed) (o p : Option (List Term)) →
    Accepted cs ks loci fs o → Accepted cs ks loci fs p → o ≡ p

-- where formal terms over loci match closed terms, they derive equal to these, with what the loci are fixed to, and this
-- is closed
abbrev pub MatchLaw : Type 0
MatchLaw =
    (axioms premises : List Formula) (cs : List Clause) (ks : List (Option Constant)) → AreGranted axioms premises cs ks →
    (scope : ℕ) (fs : Fixed) (us ts values : List Term) → list_all closed ts ≡ true →
    AllMatched cs ks scope (unfixed scope) us ts (Some fs) → values_of fs ≡ Some values →
    AreEqual axioms premises (map (substitute 0 (value_at (reverse values))) us) ts × (list_all closed values ≡ true)
