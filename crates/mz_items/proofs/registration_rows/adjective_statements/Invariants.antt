use Rattle.std.proofs.Common.{◌≡◌, map, take}
use Rattle.mz_items.specs.RegistrationRows.{adjective_statement}
use Rattle.mz_items.proofs.registration_rows.adjective_statements.Given as goal

abbrev pub invariant-loop-x : goal.invariant-loop-x
invariant-loop-x l = l.out.items ≡ map (adjective_statement l.t) (take l.x-index l.x-items)
