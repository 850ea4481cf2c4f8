-- Lists that are taken one by one, where the others behind the first are seen as a slice.
use Rattle.std.proofs.Common.{◌≡◌, List, ◌∷◌, map, subst}
use Rattle.std.specs.Prelude.{Result, Ok}
use Rattle.mz_justified.specs.Answers.{OnMade}
use Rattle.mz_justified.specs.declared.proof_fault.ProofFault.{ProofFault}
use Rattle.mz_justified.specs.declared.proof_fault.ProofRefusal.{ProofRefusal}
use Rattle.mz_walk.specs.Walked.{OneByOne}
use Rattle.mz_walk.specs.Answers.{reached}
use Rattle.mz_performing.proofs.TakingLemmas.{first_taken}

pub first_taken_each : {S X W Y Z : Type 0} (one : S → X → Result S ProofRefusal → Type 0) (f : W → X) (s u v : S) (x : X) (slice items : List W) (y : Result Y ProofFault) (z : Y) (q : Result Z ProofFault) →
    OnMade y (λ o. one s x (reached o u)) → y ≡ Ok z → slice ≡ items → OnMade q (λ o. OneByOne one u (map f slice) (reached o v)) → OnMade q (λ o. OneByOne one s (x ∷ map f items) (reached o v))
first_taken_each one f s u v x slice items y z q h ey es k =
    first_taken one s u v x (map f items) y z q h ey (subst (λ ws. OnMade q (λ o. OneByOne one u (map f ws) (reached o v))) es k)
