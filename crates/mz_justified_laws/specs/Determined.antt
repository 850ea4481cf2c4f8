-- Relations that have one value at most.
use Rattle.std.specs.Prelude.{◌≡◌, Result, Ok, Err}
use Rattle.mz_core.specs.declared.outcome.Left.{Left}

-- one thing at most is related
abbrev pub AtMostOne : {O : Type 0} → (O → Type 0) → Type 0
AtMostOne {O} related = (o p : O) → related o → related p → o ≡ p

-- behind what isn't refused the same is left
abbrev pub SameLeft : {X Y : Type 0} → Result X Y → Left → Left → Type 0
SameLeft (Ok x) a b = a ≡ b
SameLeft (Err r) a b = Unit {0}

-- what is made and, unless it is refused, what is left behind it is determined
abbrev pub IsDetermined : {X Y : Type 0} → (Result X Y → Left → Type 0) → Type 0
IsDetermined {X} {Y} makes = (o p : Result X Y) (a b : Left) → makes o a → makes p b → (o ≡ p) × SameLeft o a b
