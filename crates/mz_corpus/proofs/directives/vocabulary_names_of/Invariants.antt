use Rattle.std.proofs.Common.{◌≡◌, [], take}
use Rattle.std.specs.Prelude.{fold}
use Rattle.mz_corpus.specs.Directives.{with_vocabularies}
use Rattle.mz_corpus.proofs.directives.vocabulary_names_of.Given as goal

abbrev pub invariant-loop-directive : goal.invariant-loop-directive
invariant-loop-directive l = l.set ≡ fold with_vocabularies [] (take l.directive-index l.directives)
