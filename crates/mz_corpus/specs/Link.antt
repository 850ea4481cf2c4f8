-- What contracts see of a link.
use Rattle.std.specs.Prelude.{List}
use Rattle.mz_base.specs.declared.name.Name.{Name}

-- an article's name and its direct dependencies, without built-in names
pub record Link : Type 0 where
  pub name : Name
  pub direct : List Name
