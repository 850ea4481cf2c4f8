-- Statements that a step makes, within the limits on nodes and depth.
use Rattle.std.specs.Prelude.{if◌then◌else◌, List, [], ◌∷◌, Option, Some, None}
use Rattle.mz_core.specs.Statement.{Statement}
use Rattle.mz_sizes.specs.Sizes.{statement_keeps}

-- a statement in front of others, where all keep the limits
abbrev pub kept_first : Statement → Option (List Statement) → Option (List Statement)
kept_first s None = None
kept_first s (Some ss) = if statement_keeps s then Some (s ∷ ss) else None

-- the statements; none where one of them is beyond the limits
abbrev pub all_kept : List Statement → Option (List Statement)
all_kept [] = Some []
all_kept (s ∷ ss) = kept_first s (all_kept ss)
