-- Numbers of conditions.
use Rattle.std.specs.Prelude.{ℕ}
use Rattle.mz_items.specs.declared.condition.Condition.{Condition}
use Rattle.mz_items.specs.declared.condition.Condition.TheVariants.{Existence, Uniqueness, Coherence, Compatibility, Consistency, Reducibility}

-- 6 is the number of `correctness`, and 7 of a property
abbrev pub condition_number : Condition → ℕ
condition_number Existence = 1
condition_number Uniqueness = 2
condition_number Coherence = 3
condition_number Compatibility = 4
condition_number Consistency = 5
condition_number Reducibility = 8
