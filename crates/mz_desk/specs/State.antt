-- A desk as contracts see it.
use Rattle.std.specs.Prelude.{List}
use Rattle.mz_corpus.specs.Corpus.{Corpus}
use Rattle.mz_turns.specs.Row.{Row}
use Rattle.mz_turns.specs.declared.turn.Turn.{Turn}

-- the corpus, its rows, and the turns that made them
pub record State : Type 0 where
  pub corpus : Corpus
  pub rows : List Row
  pub turns : List Turn
