use Rattle.std.proofs.Common.{◌≡◌, [], take}
use Rattle.std.specs.Prelude.{fold}
use Rattle.mz_corpus.specs.Directives.{with_dependencies}
use Rattle.mz_corpus.proofs.directives.dependencies_of.Given as goal

abbrev pub invariant-loop-directive : goal.invariant-loop-directive
invariant-loop-directive l = l.set ≡ fold with_dependencies [] (take l.directive-index l.directives)
