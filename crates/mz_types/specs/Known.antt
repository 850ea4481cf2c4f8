-- The clauses by which it is judged what fits in a context of an environment.
use Rattle.std.specs.Prelude.{List, ◌++◌, flat_map}
use Rattle.mz_context.specs.declared.context.Context.{Context}
use Rattle.mz_context.specs.declared.letters.NamedLetter.{NamedLetter}
use Rattle.mz_ground.specs.declared.clause.Clause.{Clause}
use Rattle.mz_clauses.specs.Clauses.{letter_clauses}
use Rattle.mz_environment.specs.declared.environment.Environment.{Environment}

-- the type clauses of a letter, and those of the letters in force
abbrev pub clauses_of_letter : NamedLetter → List Clause
clauses_of_letter l = letter_clauses l.letter

abbrev pub letters_clauses : List NamedLetter → List Clause
letters_clauses ls = flat_map clauses_of_letter ls

-- the typing clauses that are let in, and those of the letters
abbrev pub typing : Environment → Context → List Clause
typing e c = e.typing ++ letters_clauses c.letters
