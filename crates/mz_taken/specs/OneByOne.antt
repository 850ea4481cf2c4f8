-- Members of a list, taken one by one.
use Rattle.std.specs.Prelude.{◌≡◌, List, [], ◌∷◌}
use Rattle.mz_obligations.specs.declared.obligation.Obligation.{Obligation}
use Rattle.mz_taken.specs.declared.item_fault.ItemRefusal.{ItemRefusal}
use Rattle.mz_taken.specs.Taken.{Taken, Made, Refused, behind}

-- each is taken where the one before it has led to; the first that is refused ends it
pub data OneByOne {S X : Type 0} (one : S → X → Taken S → Type 0) : S → List X → Taken S → Type 0 where
  none_left : (s : S) → OneByOne one s [] (Made [] s)
  one_refused : (s : S) (x : X) (xs : List X) (r : ItemRefusal) → one s x (Refused r) → OneByOne one s (x ∷ xs) (Refused r)
  one_taken : (s t : S) (x : X) (xs : List X) (os : List Obligation) (o : Taken S) → one s x (Made os t) → OneByOne one t xs o → OneByOne one s (x ∷ xs) (behind os o)

-- one outcome at most comes of each
abbrev pub OneLaw : {S X : Type 0} → (S → X → Taken S → Type 0) → Type 0
OneLaw {S} {X} takes = (s : S) (x : X) (v w : Taken S) → takes s x v → takes s x w → v ≡ w
