use Rattle.std.proofs.Common.{◌++◌, List, []}
use Rattle.mz_base.specs.declared.name.Name.{Name}
use Rattle.mz_corpus.specs.Corpus.{names_of}
use Rattle.mz_corpus.specs.Order.{Takes}
use Rattle.mz_corpus.specs.Taking.{AreSeen, AreReady}
use Rattle.mz_corpus.proofs.OrderLemmas.{left_count}
use Rattle.mz_corpus.proofs.taking.taken_names.Given as goal

abbrev pub invariant-loop-name : goal.invariant-loop-name
invariant-loop-name l = record {
  so_far : (ns : List Name) → Takes l.articles l.taking.taken ns → Takes l.articles [] (l.taking.taken ++ ns);
  ready : AreReady l.articles l.taking.taken l.taking.ready;
  seen : AreSeen l.articles l.taking.taken l.taking.seen;
}

abbrev pub decreases-loop-name : goal.decreases-loop-name
decreases-loop-name l = left_count (names_of l.initial.articles) l.taking.taken
