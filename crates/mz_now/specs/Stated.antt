-- What a `now` states by its steps.
use Rattle.std.specs.Prelude.{ℕ, Bool, true, false, ◌||◌, if◌then◌else◌, List, [], ◌∷◌, map}
use Rattle.std.specs.List.{list_any}
use Rattle.mz_logic.specs.Term.{Term}
use Rattle.mz_logic.specs.Constants.{occurs}
use Rattle.mz_core.specs.Statement.{Statement, Truth, Eq, Atom, Not, And, For}
use Rattle.mz_core.specs.StatementForms.{implication}
use Rattle.mz_core.specs.Abstraction.{statement_over}
use Rattle.mz_core.specs.TypeSubstitution.{statement_at}
use Rattle.mz_core.specs.Parts.{conjunction}
use Rattle.mz_core.specs.declared.adjective.Adjective.{Adjective}
use Rattle.mz_core.specs.declared.soft_type.SoftType.{SoftType}
use Rattle.mz_now.specs.declared.now_part.NowPart.{NowPart}
use Rattle.mz_now.specs.declared.now_part.NowPart.TheVariants.{Quantifier, Antecedent, Conjunct, Defined, Hidden}

-- the constant c occurs
abbrev pub adjective_has : ℕ → Adjective → Bool
adjective_has c a = list_any (occurs c) a.args

abbrev pub type_has : ℕ → SoftType → Bool
type_has c ty = list_any (adjective_has c) ty.adjectives || list_any (occurs c) ty.radix.args

abbrev pub statement_has : ℕ → Statement → Bool
statement_has c Truth = false
statement_has c (Eq t u) = occurs c t || occurs c u
statement_has c (Atom s ts) = list_any (occurs c) ts
statement_has c (Not s) = statement_has c s
statement_has c (And s t) = statement_has c s || statement_has c t
statement_has c (For ty s) = type_has c ty || statement_has c s

-- the part hides a constant that passes the test
abbrev pub hides : (ℕ → Bool) → NowPart → Bool
hides p (Quantifier c ty) = false
hides p (Antecedent s) = false
hides p (Conjunct s) = false
hides p (Defined c t) = false
hides p (Hidden c) = p c

abbrev pub in_term : Term → ℕ → Bool
in_term t c = occurs c t

abbrev pub in_type : SoftType → ℕ → Bool
in_type ty c = type_has c ty

abbrev pub in_statement : Statement → ℕ → Bool
in_statement s c = statement_has c s

-- one of the parts hides a constant of the term, of the type, of the statement
abbrev pub term_has_hidden : List NowPart → Term → Bool
term_has_hidden ps t = list_any (hides (in_term t)) ps

abbrev pub type_has_hidden : List NowPart → SoftType → Bool
type_has_hidden ps ty = list_any (hides (in_type ty)) ps

abbrev pub has_hidden : List NowPart → Statement → Bool
has_hidden ps s = list_any (hides (in_statement s)) ps

-- a constant that is equal to a term: where the term has a hidden constant it is hidden, too; else the term is put for it
abbrev pub defined : List NowPart → ℕ → Term → NowPart
defined ps c t = if term_has_hidden ps t then Hidden c else Defined c t

-- the further part would bring a hidden constant into what is stated
abbrev pub brings_hidden : List NowPart → NowPart → Bool
brings_hidden ps (Quantifier c ty) = type_has_hidden ps ty
brings_hidden ps (Antecedent s) = has_hidden ps s
brings_hidden ps (Conjunct s) = has_hidden ps s
brings_hidden ps (Defined c t) = false
brings_hidden ps (Hidden c) = false

-- the statement with its term for the constant that the part defines
abbrev pub with_term : NowPart → Statement → Statement
with_term (Quantifier c ty) s = s
with_term (Antecedent t) s = s
with_term (Conjunct t) s = s
with_term (Defined c t) s = statement_at (statement_over c 0 s) t
with_term (Hidden c) s = s

-- the conjuncts that a part states in front of others: a quantifier and an antecedent stand over all of these, and a
-- constant that is defined is replaced in them
abbrev pub conjuncts_with : NowPart → List Statement → List Statement
conjuncts_with (Quantifier c ty) ss = For ty (statement_over c 0 (conjunction ss)) ∷ []
conjuncts_with (Antecedent s) ss = implication s (conjunction ss) ∷ []
conjuncts_with (Conjunct s) ss = s ∷ ss
conjuncts_with (Defined c t) ss = map (with_term (Defined c t)) ss
conjuncts_with (Hidden c) ss = ss

-- the conjuncts that the parts state
abbrev pub conjuncts_of : List NowPart → List Statement
conjuncts_of [] = []
conjuncts_of (p ∷ ps) = conjuncts_with p (conjuncts_of ps)

-- what they state; truth where there is nothing
abbrev pub stated_by : List NowPart → Statement
stated_by ps = conjunction (conjuncts_of ps)
