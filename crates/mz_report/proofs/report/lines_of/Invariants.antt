use Rattle.std.proofs.Common.{◌≡◌, take}
use Rattle.std.specs.List.{flat_map}
use Rattle.mz_report.specs.Report.{named_text}
use Rattle.mz_report.proofs.report.lines_of.Given as goal

abbrev pub invariant-loop-name : goal.invariant-loop-name
invariant-loop-name l = l.text ≡ flat_map (named_text l.verdicts) (take l.name-index l.names)
