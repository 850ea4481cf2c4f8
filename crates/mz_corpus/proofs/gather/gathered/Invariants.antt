use Rattle.std.proofs.Common.{◌≡◌, ◌≤◌, ◌-◌, List, Some, Ok, length}
use Rattle.mz_io.specs.declared.file.File.{File}
use Rattle.mz_corpus.specs.Orderly.{IsOrderly}
use Rattle.mz_corpus.specs.Failed.{Gave, ComesTo}
use Rattle.mz_corpus.specs.Gather.{Gathered, GatherResult, Goes, begun}
use Rattle.mz_corpus.specs.Rise.{Raises, IsPaid}
use Rattle.mz_corpus.proofs.gather.gathered.Given as goal

abbrev pub invariant-loop-name : goal.invariant-loop-name
invariant-loop-name g l = record {
  orderly : IsOrderly l.gathering;
  few : length l.gathering.queue ≤ 512;
  unchanged : g.S.Shelf.contents l.shelf ≡ g.S.Shelf.contents l.initial.shelf;
  never_fall : g.S.Shelf.faults l.initial.shelf ≤ g.S.Shelf.faults l.shelf;
  amount : Raises {X = Unit {0}} (g.S.Shelf.amount l.initial.shelf) (g.S.Shelf.amount l.shelf) (Ok tt);
  paid : IsPaid (length l.fn.names) (g.S.Shelf.amount l.initial.shelf) (g.S.Shelf.amount l.shelf) 0 l.gathering;
  gave : Gave (g.S.Shelf.amount l.initial.shelf) (g.S.Shelf.amount l.shelf) 0 l.gathering.bytes;
  comes : (files : List File) → g.S.Shelf.contents l.initial.shelf ≡ Some files → (k : Gathered) → ComesTo files l.gathering k → ComesTo files l.initial.gathering k;
  told : (files : List File) → g.S.Shelf.contents l.initial.shelf ≡ Some files → (r : GatherResult) → Goes files l.gathering r → Goes files l.initial.gathering r;
}

abbrev pub decreases-loop-name : goal.decreases-loop-name
decreases-loop-name g l = 512 - length l.gathering.sources
