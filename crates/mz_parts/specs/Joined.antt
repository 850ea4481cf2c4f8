-- What propositions make together, within the limits on nodes and depth. `first` is the place of the step's first token.
use Rattle.std.specs.Prelude.{List, [], ◌∷◌, map, Option, Some, None, Result, Ok, Err}
use Rattle.mz_base.specs.declared.place.Place.{Place}
use Rattle.mz_core.specs.Statement.{Statement}
use Rattle.mz_core.specs.Parts.{conjunction}
use Rattle.mz_context.specs.declared.labelled.LabelledStatement.{LabelledStatement}
use Rattle.mz_names.specs.declared.refusal.Refusal.{Refusal}
use Rattle.mz_sizes.specs.Sizes.{statement_keeps}
use Rattle.mz_applied.specs.Within.{within}
use Rattle.mz_thesis.specs.Cases.{disjunction_to}
use Rattle.mz_steps.specs.Changes.{statement_of}

-- their conjunction, grouped to the left
abbrev pub joined_within : Place → List LabelledStatement → Result Statement Refusal
joined_within first ps = within statement_keeps first (conjunction (map statement_of ps))

-- the disjunction of a statement and further ones, grouped to the left
abbrev pub disjoined_within : Place → Statement → List Statement → Result Statement Refusal
disjoined_within first s ss = within statement_keeps first (disjunction_to s ss)
