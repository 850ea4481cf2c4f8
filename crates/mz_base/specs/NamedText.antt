-- What contracts see of a named text.
use Rattle.std.specs.Prelude.{List, ℕ, Option}
use Rattle.mz_base.specs.declared.name.Name.{Name}

-- a name and its bytes, where there are any
pub record NamedText : Type 0 where
  pub name : Name
  pub text : Option (List ℕ)
