-- Answers of shelves.
use Rattle.std.proofs.Common.{◌≢◌, ℕ, List, Option, Some, None, Err, refl}
use Rattle.mz_io.specs.declared.fetch_fault.FetchFault.{FetchFault}
use Rattle.mz_io.specs.declared.fetch_fault.FetchFault.TheVariants.{Failed, TooLong, Memory}
use Rattle.mz_io.specs.Shelf.{IsRead}

-- a fault of reading says nothing of the bytes
pub IsRead-Err : (known : Option (List ℕ)) (fault : FetchFault) → fault ≢ TooLong → IsRead known (Err fault)
IsRead-Err None fault other = tt
IsRead-Err (Some bytes) Failed other = tt
IsRead-Err (Some bytes) TooLong other = absurd (other refl)
IsRead-Err (Some bytes) Memory other = tt
