use Rattle.std.proofs.Common.{◌≡◌, take}
use Rattle.std.specs.Prelude.{map}
use Rattle.mz_report.specs.Report.{verdict_of}
use Rattle.mz_report.proofs.report.verdicts_of.Given as goal

abbrev pub invariant-loop-name : goal.invariant-loop-name
invariant-loop-name l = l.all.items ≡ map (verdict_of l.verdicts) (take l.name-index l.names)
