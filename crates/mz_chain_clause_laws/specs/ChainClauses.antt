-- Clauses say what the rows and structures of an environment do by which chains go.
use Rattle.std.specs.Prelude.{◌≡◌, true, false, List, Ok, All, Contains}
use Rattle.mz_base.specs.declared.head.Directive.{Directive}
use Rattle.mz_core.specs.Hidden.{is_of_any_object}
use Rattle.mz_core.specs.declared.structure.Structure.{Structure}
use Rattle.mz_core.specs.declared.outcome.Export.{Export}
use Rattle.mz_items.specs.Closed.{letter_closed}
use Rattle.mz_axioms.specs.Library.{HasClosedItems}
use Rattle.mz_context.specs.declared.context.Context.{Context}
use Rattle.mz_context.specs.declared.letters.NamedLetter.{NamedLetter}
use Rattle.mz_environment.specs.declared.rows.Row.{Row}
use Rattle.mz_environment.specs.declared.environment.Environment.{Environment}
use Rattle.mz_types.specs.Known.{typing}
use Rattle.mz_chain_laws.specs.ChainLaw.{HasChainClauses}
use Rattle.mz_env.specs.LetIn.{LetIn}
use Rattle.mz_env_laws.specs.Entries.{IsOfExports, AreOfItems}

-- no letter in force has a constant or a loose index
abbrev pub HasClosedLetters : Context → Type 0
HasClosedLetters c = (l : NamedLetter) → Contains c.letters l → letter_closed l.letter ≡ true

-- no row of a mode and no structure is `object` or `set`
abbrev pub HasPlainRows : Environment → Type 0
HasPlainRows e =
    ((r : Row) → Contains e.modes r → is_of_any_object r.sym ≡ false) × ((s : Structure) → Contains e.structures s → is_of_any_object s.sym ≡ false)

-- so it is where each entry is of an item that has no constant and no loose index
abbrev pub PlainRowsLaw : Type 0
PlainRowsLaw = (exports : List Export) (e : Environment) → AreOfItems (IsOfExports exports) e → All HasClosedItems exports → HasPlainRows e

-- and there clauses say what the rows and structures do, those of the letters in force among them
abbrev pub ChainClausesLaw : Type 0
ChainClausesLaw =
    (exports : List Export) (e : Environment) → AreOfItems (IsOfExports exports) e → All HasClosedItems exports →
    (c : Context) → HasClosedLetters c → HasChainClauses (typing e c) e c

-- so it is of what is let in
abbrev pub LetInChainClausesLaw : Type 0
LetInChainClausesLaw =
    (head : List Directive) (exports : List Export) (e : Environment) → LetIn head exports (Ok e) → All HasClosedItems exports →
    (c : Context) → HasClosedLetters c → HasChainClauses (typing e c) e c
