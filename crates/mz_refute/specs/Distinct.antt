-- Numbers that are taken once.
use Rattle.std.specs.Prelude.{◌≡◌, ℕ, true, List, nat_eq}
use Rattle.std.specs.HashSet.{HashSet, contains}
use Rattle.mz_match.specs.Rows.{SomeOf}
use Rattle.mz_refute.specs.Entries.{HaveSameMembers}

-- the second list has the numbers of the first, and all that were noted
unfoldable pub AreNoted : {S : Type 0} → List ℕ → List ℕ → HashSet ℕ S → Type 0
AreNoted ns out seen = HaveSameMembers out ns × ((v : ℕ) → contains nat_eq seen v ≡ true → SomeOf (λ w. w ≡ v) out)
