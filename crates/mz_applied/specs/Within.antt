-- What is read, unless it is beyond the limits on nodes and depth: then the refusal at its first token.
use Rattle.std.specs.Prelude.{Bool, if◌then◌else◌, Result, Ok, Err}
use Rattle.mz_base.specs.declared.place.Place.{Place}
use Rattle.mz_names.specs.declared.refusal.Refusal.{Refusal}
use Rattle.mz_names.specs.declared.refusal.Refusal.TheVariants.{TooLarge}

-- it, where the test says that it keeps the limits
abbrev pub within : {X : Type 0} → (X → Bool) → Place → X → Result X Refusal
within keeps first x = if keeps x then Ok x else Err (TooLarge first)
