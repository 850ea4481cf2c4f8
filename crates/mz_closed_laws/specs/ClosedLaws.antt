-- What items without constants and loose indices give has none.
use Rattle.std.specs.Prelude.{◌≡◌, ℕ, true, false, List, map}
use Rattle.std.specs.List.{list_all, list_any}
use Rattle.mz_logic.specs.Constants.{occurs_in_formula}
use Rattle.mz_logic.specs.Indices.{formula_closed}
use Rattle.mz_core.specs.Closed.{formula_under}
use Rattle.mz_core.specs.declared.item.Item.{Item}
use Rattle.mz_core.specs.declared.outcome.Export.{Export}
use Rattle.mz_core.specs.declared.scheme.SchemeLetter.{SchemeLetter}
use Rattle.mz_ground.specs.declared.clause.Clause.{Clause}
use Rattle.mz_ground.specs.ClauseFormula.{clause_formula}
use Rattle.mz_items.specs.Closed.{item_closed, letter_closed}
use Rattle.mz_clauses.specs.Clauses.{typing_clauses, further_clauses, equality_clauses, item_clauses, clauses_of, letter_clauses}
use Rattle.mz_environment.specs.Rows.{functor_rows, mode_rows, letter_rows}
use Rattle.mz_environment.specs.Unfoldings.{unfoldings_of}
use Rattle.mz_closed_laws.specs.ClosedClauses.{clause_closed, row_closed, unfolding_closed}

-- the clauses of an item
abbrev pub TypingLaw : Type 0
TypingLaw = (item : Item) → item_closed item ≡ true → list_all clause_closed (typing_clauses item) ≡ true

abbrev pub FurtherLaw : Type 0
FurtherLaw = (item : Item) → item_closed item ≡ true → list_all clause_closed (further_clauses item) ≡ true

abbrev pub EqualityLaw : Type 0
EqualityLaw = (item : Item) → item_closed item ≡ true → list_all clause_closed (equality_clauses item) ≡ true

abbrev pub ItemLaw : Type 0
ItemLaw = (item : Item) → item_closed item ≡ true → list_all clause_closed (item_clauses item) ≡ true

-- those of an export
abbrev pub ExportLaw : Type 0
ExportLaw = (e : Export) → list_all item_closed e.items ≡ true → list_all clause_closed (clauses_of e) ≡ true

-- those of a scheme's letter
abbrev pub LetterLaw : Type 0
LetterLaw = (l : SchemeLetter) → letter_closed l ≡ true → list_all clause_closed (letter_clauses l) ≡ true

-- the rows of an item
abbrev pub FunctorRowLaw : Type 0
FunctorRowLaw = (item : Item) → item_closed item ≡ true → list_all row_closed (functor_rows item) ≡ true

abbrev pub ModeRowLaw : Type 0
ModeRowLaw = (item : Item) → item_closed item ≡ true → list_all row_closed (mode_rows item) ≡ true

-- those of a scheme's letter
abbrev pub LetterRowLaw : Type 0
LetterRowLaw = (l : SchemeLetter) → letter_closed l ≡ true → list_all row_closed (letter_rows l) ≡ true

-- the unfoldings of an item
abbrev pub UnfoldingLaw : Type 0
UnfoldingLaw = (item : Item) → item_closed item ≡ true → list_all unfolding_closed (unfoldings_of item) ≡ true

-- clauses as formulas: no constant and no free index
abbrev pub FormulaLaw : Type 0
FormulaLaw =
    (cs : List Clause) → list_all clause_closed cs ≡ true → list_all (formula_under 0) (map clause_formula cs) ≡ true

abbrev pub ConstantLaw : Type 0
ConstantLaw =
    (cs : List Clause) → list_all clause_closed cs ≡ true →
    (c : ℕ) → list_any (occurs_in_formula c) (map clause_formula cs) ≡ false

abbrev pub IndexLaw : Type 0
IndexLaw =
    (cs : List Clause) → list_all clause_closed cs ≡ true → list_all formula_closed (map clause_formula cs) ≡ true
