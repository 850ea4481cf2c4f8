-- What is read of a command line so far.
use Rattle.std.specs.Prelude.{ℕ, Bool, List, Option}
use Rattle.mz_words.specs.Expected.{Expected}

-- what may come next, the options that were met, and the numbers of the articles' names, each once
pub record Reading : Type 0 where
  pub expected : Expected
  pub workers : Option ℕ
  pub list : Bool
  pub generate : Option ℕ
  pub names : List ℕ
