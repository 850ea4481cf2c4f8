-- The answers of the calls.
use Rattle.std.specs.Prelude.{Result, Ok, Err}
use Rattle.mz_justified.specs.declared.proof_fault.ProofFault.{ProofFault}
use Rattle.mz_taken.specs.Answers.{of_reasoning}
use Rattle.mz_taken.specs.declared.item_fault.ItemFault.{ItemFault}

-- the answer of a reasoning as that of an item
abbrev pub as_of_item : {X : Type 0} → Result X ProofFault → Result X ItemFault
as_of_item (Ok x) = Ok x
as_of_item (Err f) = Err (of_reasoning f)
