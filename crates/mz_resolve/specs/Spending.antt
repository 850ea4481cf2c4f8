-- What an article has left of its nodes.
use Rattle.std.specs.Prelude.{◌-◌, ℕ}
use Rattle.mz_core.specs.declared.outcome.Left.{Left}

-- so many nodes fewer
abbrev pub spent : Left → ℕ → Left
spent left n = record { nodes = left.nodes - n; obligations = left.obligations; made = left.made }
