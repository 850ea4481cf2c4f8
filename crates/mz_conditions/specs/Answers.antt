-- The answer of a walk as that of an item.
use Rattle.std.specs.Prelude.{Result, Ok, Err}
use Rattle.mz_justified.specs.declared.proof_fault.ProofFault.{ProofFault}
use Rattle.mz_taken.specs.Answers.{of_reasoning}
use Rattle.mz_taken.specs.declared.item_fault.ItemFault.{ItemFault}

abbrev pub of_walk : {X : Type 0} → Result X ProofFault → Result X ItemFault
of_walk (Ok x) = Ok x
of_walk (Err f) = Err (of_reasoning f)
