-- What comes of a part of an article.
use Rattle.std.specs.Prelude.{List, ◌++◌}
use Rattle.mz_obligations.specs.declared.obligation.Obligation.{Obligation}
use Rattle.mz_walk.specs.Walked as walked
use Rattle.mz_walk.specs.Walked.{Walked}
use Rattle.mz_taken.specs.declared.item_fault.ItemRefusal.{ItemRefusal}
use Rattle.mz_taken.specs.declared.item_fault.ItemRefusal.TheVariants.{Proof}

-- the obligations that it makes, in the order of the text, and what stands behind it; or its first refusal
pub data Taken (X : Type 0) : Type 0 where
  Made : List Obligation → X → Taken X
  Refused : ItemRefusal → Taken X

-- what comes of a reasoning, as what comes of a part of an article
abbrev pub taken : {X : Type 0} → Walked X → Taken X
taken (walked.Made os x) = Made os x
taken (walked.Refused r) = Refused (Proof r)

-- what comes behind a part that made obligations
abbrev pub behind : {X : Type 0} → List Obligation → Taken X → Taken X
behind os (Made ps x) = Made (os ++ ps) x
behind os (Refused r) = Refused r
