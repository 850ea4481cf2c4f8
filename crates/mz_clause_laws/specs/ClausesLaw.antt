-- The clauses of items, letters and exports derive from what these say.
use Rattle.std.specs.Prelude.{◌≡◌, true, List, [], ◌∷◌, map}
use Rattle.std.specs.List.{list_all}
use Rattle.mz_logic.specs.Formula.{Formula}
use Rattle.mz_core.specs.Erasure.{erase}
use Rattle.mz_core.specs.declared.outcome.Export.{Export}
use Rattle.mz_core.specs.declared.item.Item.{Item}
use Rattle.mz_core.specs.declared.scheme.SchemeLetter.{SchemeLetter}
use Rattle.mz_ground.specs.ClauseFormula.{clause_formula}
use Rattle.mz_items.specs.Closed.{item_closed}
use Rattle.mz_items.specs.Exports.{item_statements, statements_of}
use Rattle.mz_items.specs.SchemeRows.{letter_types}
use Rattle.mz_clauses.specs.Clauses.{item_clauses, clauses_of, letter_clauses}
use Rattle.mz_clause_laws.specs.RowLaws.{AllFollow}

-- each clause of an item that has no constant and no loose index derives where what the item grants, and what it
-- owes without premises, derives
abbrev pub ItemLaw : Type 0
ItemLaw =
    (item : Item) (ax g : List Formula) → item_closed item ≡ true → AllFollow ax g (item_statements item) →
    AllFollow ax g (map clause_formula (item_clauses item))

-- the clause of a functor letter derives where the letter's type does, as under the premises of a scheme
abbrev pub LetterLaw : Type 0
LetterLaw =
    (l : SchemeLetter) (ax g : List Formula) → AllFollow ax g (map erase (letter_types (l ∷ []))) →
    AllFollow ax g (map clause_formula (letter_clauses l))

-- each clause of an export whose items have no constant and no loose index derives from what these grant and
-- owe without premises
abbrev pub ClausesLaw : Type 0
ClausesLaw =
    (e : Export) → list_all item_closed e.items ≡ true →
    AllFollow (statements_of e) [] (map clause_formula (clauses_of e))
