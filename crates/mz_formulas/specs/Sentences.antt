-- What sentences are read to.
use Rattle.std.specs.Prelude.{◌≡◌, ℕ, List, Some, Result, Ok, Err}
use Rattle.mz_base.specs.declared.place.Place.{Place}
use Rattle.mz_core.specs.Statement.{Statement}
use Rattle.mz_context.specs.Context.{next}
use Rattle.mz_context.specs.declared.context.Context.{Context}
use Rattle.mz_environment.specs.declared.environment.Environment.{Environment}
use Rattle.mz_names.specs.Closing.{with_variables}
use Rattle.mz_names.specs.declared.refusal.Refusal.{Refusal}
use Rattle.mz_names.specs.declared.variable.Variable.{Variable}
use Rattle.mz_free.specs.Free.{free_variables}
use Rattle.mz_tree.specs.Trees.{FormulaData}
use Rattle.mz_tree.specs.Places.{first_place}
use Rattle.mz_tree.specs.Spell.{spell_formula}
use Rattle.mz_joined.specs.Bound.{for_all_within}
use Rattle.mz_formulas.specs.Formulas.{ReadsFormula}
use Rattle.mz_formulas.specs.declared.sentence.Sentence.{Sentence}

-- the statement with its free reserved variables, or the refusal
abbrev pub sentence_of : List Variable → Statement → Result Statement Refusal → Result Sentence Refusal
sentence_of vs s (Err r) = Err r
sentence_of vs s (Ok t) = Ok (record { variables = vs; inner = s; closed = t })

-- a sentence: its formula, in which the free reserved variables are constants, closed over them in the order of their first
-- occurrence
pub data ReadsSentence (e : Environment) (least : ℕ) (c : Context) (f : FormulaData) : Result Sentence Refusal → Type 0 where
  formula_refused : (r : Refusal) → ReadsFormula e least (with_variables c (free_variables least c f)) f (Err r) → ReadsSentence e least c f (Err r)
  formula_read : (s : Statement) (first : Place) → ReadsFormula e least (with_variables c (free_variables least c f)) f (Ok s) → first_place (spell_formula f) ≡ Some first →
      ReadsSentence e least c f (sentence_of (free_variables least c f) s (for_all_within first (next c) (free_variables least c f) s))
