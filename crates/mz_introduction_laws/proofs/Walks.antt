-- Parts of a walk one after another.
use Rattle.std.proofs.Common.{◌≡◌, List, sym, ◌∙◌}
use Rattle.mz_names.specs.declared.refusal.Refusal.{Refusal}
use Rattle.mz_obligations.specs.declared.obligation.Obligation.{Obligation}
use Rattle.mz_justified.specs.declared.proof_fault.ProofRefusal.{ProofRefusal}
use Rattle.mz_justified.specs.declared.proof_fault.ProofRefusal.TheVariants.{Resolve}
use Rattle.mz_justified_laws.specs.Determined.{AtMostOne}
use Rattle.mz_walk.specs.Walked.{Walked, Made, Refused}

-- refusals
abbrev pub refused : {X : Type 0} → ProofRefusal → Walked X
refused r = Refused r

abbrev pub unread : {X : Type 0} → Refusal → Walked X
unread r = Refused (Resolve r)

-- behind a part that made obligations, or was refused
abbrev pub NextMade : {X Y : Type 0} → (List Obligation → X → Walked Y → Type 0) → Walked X → Walked Y → Type 0
NextMade next (Refused r) o = o ≡ Refused r
NextMade next (Made os x) o = next os x o

pub one_next_made : {X Y : Type 0} (next : List Obligation → X → Walked Y → Type 0) → ((os : List Obligation) (x : X) → AtMostOne (next os x)) → (q : Walked X) → AtMostOne (NextMade next q)
one_next_made next one (Refused r) o p h k = h ∙ sym k
one_next_made next one (Made os x) o p h k = one os x o p h k
