-- What the code of `take` tells of all examples, where these are seen through a view.
use Rattle.std.proofs.Common.{◌≡◌, List, map, subst}
use Rattle.std.specs.Prelude.{Result, Ok, Err}
use Rattle.mz_base.specs.declared.place.Place.{Place}
use Rattle.mz_environment.specs.declared.environment.Environment.{Environment}
use Rattle.mz_tree.specs.declared.chain.Next.{Next}
use Rattle.mz_tree.specs.declared.lists.Separated.{Separated}
use Rattle.mz_tree.specs.declared.word.Comma.{Comma}
use Rattle.mz_cited.specs.Cited.{members, tree_of}
use Rattle.mz_tree_proof.specs.declared.skeleton.TakenTree.{TakenTree}
use Rattle.mz_justified.specs.Answers.{OnMade}
use Rattle.mz_justified.specs.declared.proof_fault.ProofFault.{ProofFault}
use Rattle.mz_walk.specs.Walked.{State, OneByOne}
use Rattle.mz_walk.specs.Skeleton.{TakesOne}
use Rattle.mz_walk.specs.Answers.{reached}
use Rattle.mz_performing.proofs.TakingLemmas.{first_refused}
use Rattle.mz_skeleton.proofs.SliceLemmas.{first_taken_each}

pub told_first_refused : {Y : Type 0} (Z : Type 0) (e : Environment) (first : Place) (s u v : State) (xs ys : Separated TakenTree) (y : Result Y ProofFault) (f : ProofFault) → xs ≡ ys →
    OnMade y (λ o. TakesOne e first s xs.first (reached o u)) → y ≡ Err f → OnMade {X = Z} (Err f) (λ o. OneByOne (TakesOne e first) s (members ys) (reached o v))
told_first_refused Z e first s u v xs ys y f ex h ey =
    subst (λ w. OnMade {X = Z} (Err f) (λ o. OneByOne (TakesOne e first) s (members w) (reached o v))) ex (first_refused Z (TakesOne e first) s u v xs.first (map tree_of xs.more) y f h ey)

pub told_first_taken : {Y Z : Type 0} (e : Environment) (first : Place) (s u v : State) (xs ys : Separated TakenTree) (slice : List (Next Comma TakenTree)) (y : Result Y ProofFault) (z : Y) (q : Result Z ProofFault) → xs ≡ ys →
    OnMade y (λ o. TakesOne e first s xs.first (reached o u)) → y ≡ Ok z → slice ≡ xs.more → OnMade q (λ o. OneByOne (TakesOne e first) u (map tree_of slice) (reached o v)) → OnMade q (λ o. OneByOne (TakesOne e first) s (members ys) (reached o v))
told_first_taken e first s u v xs ys slice y z q ex h ey es k =
    subst (λ w. OnMade q (λ o. OneByOne (TakesOne e first) s (members w) (reached o v))) ex (first_taken_each (TakesOne e first) tree_of s u v xs.first slice xs.more y z q h ey es k)

pub ruleset all_rules = (told_first_refused, told_first_taken)
