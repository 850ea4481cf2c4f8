-- How much is left to do.
use Rattle.std.specs.Prelude.{◌+◌, ◌*◌, ℕ, List}
use Rattle.std.specs.List.{sum_by}
use Rattle.mz_turns.specs.Row.{Row, claim_weight, wait_weight}

-- a row that waits counts once, a claimed one twice, since its claim is still to be taken away
abbrev pub work_left : List Row → ℕ
work_left rows = sum_by wait_weight rows + 2 * sum_by claim_weight rows
