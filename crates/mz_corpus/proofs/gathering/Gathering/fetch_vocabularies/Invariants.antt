use Rattle.std.proofs.Common.{◌≡◌, ◌≤◌, ◌+◌, ◌-◌, ℕ, List, Some, Ok, length, take}
use Rattle.mz_io.specs.declared.file.File.{File}
use Rattle.mz_corpus.specs.Fit.{AreApart}
use Rattle.mz_corpus.specs.Gather.{with_vocabularies}
use Rattle.mz_corpus.specs.Failed.{Gave}
use Rattle.mz_corpus.specs.Rise.{Raises, IsPaid}
use Rattle.mz_corpus.proofs.gathering.Gathering.fetch_vocabularies.Given as goal

abbrev pub invariant-loop-name : goal.invariant-loop-name
invariant-loop-name g l = record {
  sources : l.self.sources ≡ l.initial.self.sources;
  queue : l.self.queue ≡ l.initial.self.queue;
  apart : AreApart l.initial.self.vocabularies → AreApart l.self.vocabularies;
  unchanged : g.S.Shelf.contents l.shelf ≡ g.S.Shelf.contents l.initial.shelf;
  never_fall : g.S.Shelf.faults l.initial.shelf ≤ g.S.Shelf.faults l.shelf;
  amount : Raises {X = Unit {0}} (g.S.Shelf.amount l.initial.shelf) (g.S.Shelf.amount l.shelf) (Ok tt);
  gave : Gave (g.S.Shelf.amount l.initial.shelf) (g.S.Shelf.amount l.shelf) l.initial.self.bytes l.self.bytes;
  paid : (handed start spare : ℕ) → IsPaid handed start (g.S.Shelf.amount l.initial.shelf) (spare + length l.name-items) l.initial.self → IsPaid handed start (g.S.Shelf.amount l.shelf) (spare + (length l.name-items - l.name-index)) l.self;
  told : (files : List File) → g.S.Shelf.contents l.initial.shelf ≡ Some files → with_vocabularies files l.initial.self (take l.name-index l.name-items) ≡ Ok l.self;
}
