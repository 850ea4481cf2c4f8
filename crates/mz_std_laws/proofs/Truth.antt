-- Truth values.
use Rattle.std.proofs.Common.{◌≡◌, Bool, true, false}

-- no truth value is false and true
pub not_both : (b : Bool) → b ≡ false → b ≡ true → ⊥
not_both true e h = cc
not_both false e h = cc
