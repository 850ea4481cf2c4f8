-- Where a walk over the steps of a reasoning stands, and what comes of a part of it.
use Rattle.std.specs.Prelude.{List, [], ◌∷◌, ◌++◌, Result, Ok, Err}
use Rattle.mz_core.specs.declared.outcome.Left.{Left}
use Rattle.mz_context.specs.declared.context.Context.{Context}
use Rattle.mz_steps.specs.declared.block.Block.{Block}
use Rattle.mz_obligations.specs.declared.obligation.Obligation.{Obligation}
use Rattle.mz_justified.specs.declared.proof_fault.ProofRefusal.{ProofRefusal}

-- the context and the block at a place of a reasoning, and what the article has left there
pub record State : Type 0 where
  pub context : Context
  pub block : Block
  pub left : Left

abbrev pub state : Context → Block → Left → State
state c b l = record { context = c; block = b; left = l }

-- the state with this left
abbrev pub with_left : State → Left → State
with_left s l = record { context = s.context; block = s.block; left = l }

-- members of a list are taken one by one, each where the one before it has led to; the first that is refused ends it
pub data OneByOne {S X : Type 0} (one : S → X → Result S ProofRefusal → Type 0) : S → List X → Result S ProofRefusal → Type 0 where
  none_left : (s : S) → OneByOne one s [] (Ok s)
  one_refused : (s : S) (x : X) (xs : List X) (r : ProofRefusal) → one s x (Err r) → OneByOne one s (x ∷ xs) (Err r)
  one_taken : (s t : S) (x : X) (xs : List X) (o : Result S ProofRefusal) → one s x (Ok t) → OneByOne one t xs o → OneByOne one s (x ∷ xs) o

-- what comes of a part of a walk: the obligations that it makes, in the order of the text, and what stands behind it; or its
-- first refusal
pub data Walked (X : Type 0) : Type 0 where
  Made : List Obligation → X → Walked X
  Refused : ProofRefusal → Walked X

-- what makes no obligation
abbrev pub without_obligations : {X : Type 0} → Result X ProofRefusal → Walked X
without_obligations (Ok x) = Made [] x
without_obligations (Err r) = Refused r

-- what comes behind a part that made obligations
abbrev pub behind : {X : Type 0} → List Obligation → Walked X → Walked X
behind os (Made ps x) = Made (os ++ ps) x
behind os (Refused r) = Refused r

-- the state that a step leads to, behind its justification
abbrev pub led_to : State → Walked Left → Walked State
led_to s (Made os l) = Made os (with_left s l)
led_to s (Refused r) = Refused r

-- one obligation and what is left behind it, or the refusal
abbrev pub one_made : Result Obligation ProofRefusal → Left → Walked Left
one_made (Ok o) l = Made (o ∷ []) l
one_made (Err r) l = Refused r
