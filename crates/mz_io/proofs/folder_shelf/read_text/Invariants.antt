use Rattle.std.proofs.Common.{◌≤◌, ◌-◌, length}
use Rattle.std.specs.Io.KnownBytes.{Consumes}
use Rattle.mz_io.proofs.folder_shelf.read_text.Given as goal

abbrev pub invariant-loop-text : goal.invariant-loop-text
invariant-loop-text g l = record {
  within : length l.text ≤ 1048576;
  read : Consumes (g.F.Read.remaining l.initial.file) (g.F.Read.remaining l.file) l.text;
}

abbrev pub decreases-loop-text : goal.decreases-loop-text
decreases-loop-text g l = 1048576 - length l.text
