-- What the rows of an item or a letter say, its clauses say.
use Rattle.std.specs.Prelude.{◌≡◌, ℕ, ◌+◌, false, List, [], ◌++◌, length, Contains}
use Rattle.mz_logic.specs.Term.{Term, App, terms_of}
use Rattle.mz_logic.specs.declared.literal.Literal.{Literal}
use Rattle.mz_core.specs.Hidden.{is_of_any_object}
use Rattle.mz_core.specs.Guard.{guard_literals}
use Rattle.mz_core.specs.declared.soft_type.SoftType.{SoftType}
use Rattle.mz_core.specs.declared.scheme.SchemeLetter.{SchemeLetter}
use Rattle.mz_core.specs.declared.item.Item.{Item}
use Rattle.mz_ground.specs.declared.clause.Clause.{Clause}
use Rattle.mz_clauses.specs.Guards.{loci_guards, guard_at_object}
use Rattle.mz_clauses.specs.Groups.{groups_clauses}
use Rattle.mz_clauses.specs.DefinitionClauses.{functor_type_groups, mode_parent_groups}
use Rattle.mz_clauses.specs.Clauses.{typing_clauses, letter_clauses}
use Rattle.mz_environment.specs.declared.rows.Row.{Row}
use Rattle.mz_environment.specs.Rows.{functor_rows, mode_rows, letter_rows}

-- the application of a row
abbrev pub row_term : Row → Term
row_term r = App r.sym (terms_of r.args)

-- the mode of a row, as a type
abbrev pub row_mode : Row → SoftType
row_mode r = record { adjectives = []; radix = record { sym = r.sym; args = r.args } }

-- where the guards of the loci hold, the application is of the row's type
abbrev pub functor_row_clauses : Row → List Clause
functor_row_clauses r = groups_clauses (functor_type_groups r.loci (row_term r) r.ty)

-- where the guards of the loci hold, what is of the mode is of the row's type
abbrev pub mode_row_clauses : Row → List Clause
mode_row_clauses r = groups_clauses (mode_parent_groups r.loci (row_mode r) r.ty)

-- the clauses of a functor's row are typing clauses of the item that has the row
abbrev pub FunctorRowLaw : Type 0
FunctorRowLaw =
    (item : Item) (r : Row) → Contains (functor_rows item) r →
    (c : Clause) → Contains (functor_row_clauses r) c → Contains (typing_clauses item) c

-- so are those of a mode's row
abbrev pub ModeRowLaw : Type 0
ModeRowLaw =
    (item : Item) (r : Row) → Contains (mode_rows item) r →
    (c : Clause) → Contains (mode_row_clauses r) c → Contains (typing_clauses item) c

-- those of a letter's row are clauses of the letter
abbrev pub LetterRowLaw : Type 0
LetterRowLaw =
    (l : SchemeLetter) (r : Row) → Contains (letter_rows l) r →
    (c : Clause) → Contains (functor_row_clauses r) c → Contains (letter_clauses l) c

-- one of the clauses has these premises and this conclusion, over so many variables
abbrev pub HasClause : List Clause → ℕ → List Literal → Literal → Type 0
HasClause cs n ps k = (c : Clause) × Contains cs c × (c.variables ≡ n) × (c.premises ≡ ps) × (c.conclusion ≡ k)

-- the guards of the loci and the literals of the type at the application
abbrev pub HasTypeClauses : List Clause → Row → Type 0
HasTypeClauses cs r =
    (k : Literal) → Contains (guard_literals r.ty (row_term r)) k → HasClause cs (length r.loci) (loci_guards 0 r.loci) k

-- the guards of the loci and of the mode at a further variable, and the literals of the type at it
abbrev pub HasParentClauses : List Clause → Row → Type 0
HasParentClauses cs r =
    (k : Literal) → Contains (guard_at_object r.ty) k →
    HasClause cs (length r.loci + 1) (loci_guards 1 r.loci ++ guard_at_object (row_mode r)) k

-- each literal of a functor's row is the conclusion of a typing clause
abbrev pub FunctorClauseLaw : Type 0
FunctorClauseLaw = (item : Item) (r : Row) → Contains (functor_rows item) r → HasTypeClauses (typing_clauses item) r

-- so is each of a mode's row, but for a row of `object` or `set`
abbrev pub ModeClauseLaw : Type 0
ModeClauseLaw =
    (item : Item) (r : Row) → Contains (mode_rows item) r → is_of_any_object r.sym ≡ false →
    HasParentClauses (typing_clauses item) r

-- each of a letter's row is the conclusion of a clause of the letter
abbrev pub LetterClauseLaw : Type 0
LetterClauseLaw = (l : SchemeLetter) (r : Row) → Contains (letter_rows l) r → HasTypeClauses (letter_clauses l) r
