-- Compound statements within the limits on nodes and depth. `first` is the place of the first token. What is joined last may
-- have been refused, and then all is.
use Rattle.std.specs.Prelude.{Result, Ok, Err, Option, Some, None}
use Rattle.mz_base.specs.declared.place.Place.{Place}
use Rattle.mz_core.specs.Statement.{Statement, And}
use Rattle.mz_core.specs.StatementForms.{opposite, disjunction, implication, equivalence}
use Rattle.mz_names.specs.declared.refusal.Refusal.{Refusal}
use Rattle.mz_names.specs.declared.refusal.Refusal.TheVariants.{UnknownVariable}
use Rattle.mz_sizes.specs.Sizes.{statement_keeps}
use Rattle.mz_applied.specs.Within.{within}

-- not s
abbrev pub denied : Place → Result Statement Refusal → Result Statement Refusal
denied first (Err r) = Err r
denied first (Ok s) = within statement_keeps first (opposite s)

-- s & t
abbrev pub conjoined : Place → Statement → Result Statement Refusal → Result Statement Refusal
conjoined first s (Err r) = Err r
conjoined first s (Ok t) = within statement_keeps first (And s t)

-- s or t
abbrev pub disjoined : Place → Statement → Result Statement Refusal → Result Statement Refusal
disjoined first s (Err r) = Err r
disjoined first s (Ok t) = within statement_keeps first (disjunction s t)

-- s implies t
abbrev pub implied : Place → Statement → Result Statement Refusal → Result Statement Refusal
implied first s (Err r) = Err r
implied first s (Ok t) = within statement_keeps first (implication s t)

-- s iff t
abbrev pub equated : Place → Statement → Result Statement Refusal → Result Statement Refusal
equated first s (Err r) = Err r
equated first s (Ok t) = within statement_keeps first (equivalence s t)

-- s implies t under a quantifier, `st s holds t`, which is tested with its quantifier
abbrev pub under : Statement → Result Statement Refusal → Result Statement Refusal
under s (Err r) = Err r
under s (Ok t) = Ok (implication s t)

-- what `thesis` is read to
abbrev pub thesis_at : Place → Option Statement → Result Statement Refusal
thesis_at first None = Err (UnknownVariable first)
thesis_at first (Some s) = within statement_keeps first s
