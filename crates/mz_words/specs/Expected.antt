-- What the next word of a command line may be.

-- an option, a name or `--`; the number of workers; the number of made articles; behind `--`, a name
pub data Expected : Type 0 where
  AnyWord : Expected
  Workers : Expected
  Generated : Expected
  NamesAlone : Expected
