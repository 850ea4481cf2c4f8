-- Values by spelling.
use Rattle.std.specs.Prelude.{ℕ, List, Option}
use Rattle.std.specs.HashMap.{get_by}
use Rattle.std.specs.Str.{bytes_eq}
use Rattle.mz_voc.specs.declared.spelled.Spelled.{Spelled}

-- the value of a spelling, if it has one
abbrev pub value_of : {V : Type 0} → Spelled V → List ℕ → Option V
value_of spelled spelling = get_by (λ key. bytes_eq spelling key.items) spelled.values
