use Rattle.std.proofs.Common.{◌≡◌, take}
use Rattle.std.specs.Prelude.{fold}
use Rattle.mz_corpus.specs.Names.{with_name}
use Rattle.mz_corpus.proofs.link.add_names.Given as goal

abbrev pub invariant-loop-name : goal.invariant-loop-name
invariant-loop-name l = l.set ≡ fold with_name l.initial.set (take l.name-index l.name-items)
