use Rattle.std.proofs.Common.{◌≡◌, Some, take}
use Rattle.std.specs.Prelude.{map}
use Rattle.mz_words.specs.Given.{named}
use Rattle.mz_words.proofs.given.named.Given as goal

abbrev pub invariant-loop-word : goal.invariant-loop-word
invariant-loop-word l = named (take l.word-index (map (λ w. w.now) l.words)) ≡ Some (map (λ n. n.number) l.names)
