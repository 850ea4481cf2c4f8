use Rattle.std.proofs.Common.{◌≡◌, ◌++◌, take}
use Rattle.std.specs.List.{flat_map}
use Rattle.mz_report.specs.Report.{fault_text}
use Rattle.mz_report.proofs.report.push_faults.Given as goal

abbrev pub invariant-loop-fault : goal.invariant-loop-fault
invariant-loop-fault l = l.text ≡ l.initial.text ++ flat_map fault_text (take l.fault-index l.fault-items)
