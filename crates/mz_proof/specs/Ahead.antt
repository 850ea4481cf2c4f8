-- What the cases of a split suppose, read ahead.
use Rattle.std.specs.Prelude.{◌≡◌, ◌++◌, ◌∷◌, [], List, Bool, true, false, if◌then◌else◌, Option, Some, None, Result, Ok, Err}
use Rattle.mz_base.specs.declared.place.Place.{Place}
use Rattle.mz_core.specs.Statement.{Statement}
use Rattle.mz_core.specs.declared.outcome.Left.{Left}
use Rattle.mz_context.specs.declared.context.Context.{Context}
use Rattle.mz_environment.specs.declared.environment.Environment.{Environment}
use Rattle.mz_tree_proof.specs.Reasoning.{SupposeData, SupposeList, more_supposes}
use Rattle.mz_tree_proof.specs.declared.references.SimpleTree.{SimpleTree}
use Rattle.mz_names.specs.declared.refusal.Refusal.{Refusal}
use Rattle.mz_names.specs.declared.refusal.Refusal.TheVariants.{TooLarge}
use Rattle.mz_justified.specs.Kept.{justification_keeps}
use Rattle.mz_justified.specs.declared.proof_fault.ProofRefusal.{ProofRefusal}
use Rattle.mz_justified.specs.declared.proof_fault.ProofRefusal.TheVariants.{Resolve}
use Rattle.mz_walk.specs.Walk.{supposed_first, SuppositionsRead}

-- what a case supposes was read, and put behind the others: whatever is read of the cases behind it, with it there stands this in
-- front
pub record IsRead (e : Environment) (c : Context) (t : SupposeData) (l m : Left) (old new : List Statement) : Type 0 where
  pub supposition : Statement
  pub is_behind : new ≡ old ++ supposition ∷ []
  pub goes_on : (us : SupposeList) (o : Option (List Statement)) → SuppositionsRead e c us m o → SuppositionsRead e c (more_supposes t us) l (supposed_first supposition o)

-- or it couldn't be read, whatever the cases behind it are
abbrev pub ReadsCase : Environment → Context → SupposeData → Left → Left → List Statement → List Statement → Bool → Type 0
ReadsCase e c t l m old new true = IsRead e c t l m old new
ReadsCase e c t l m old new false = (us : SupposeList) → SuppositionsRead e c (more_supposes t us) l None

-- what all cases suppose was read, and put behind the others; or it couldn't be read
pub record AreRead (e : Environment) (c : Context) (us : SupposeList) (l : Left) (old new : List Statement) : Type 0 where
  pub suppositions : List Statement
  pub are_behind : new ≡ old ++ suppositions
  pub are_read : SuppositionsRead e c us l (Some suppositions)

abbrev pub ReadsCases : Environment → Context → SupposeList → Left → List Statement → List Statement → Bool → Type 0
ReadsCases e c us l old new true = AreRead e c us l old new
ReadsCases e c us l old new false = SuppositionsRead e c us l None

-- the refusal of an answer
abbrev pub told_ahead : {X : Type 0} → Result X ProofRefusal → Option ProofRefusal
told_ahead (Ok x) = None
told_ahead (Err r) = Some r

-- the refusal, where there is one, of the disjunction that the cases suppose: that of making it, or that an instance of a scheme that the
-- justification makes for it is too large
abbrev pub foreseen_of : Environment → Place → Context → Bool → SimpleTree → Result Statement Refusal → Option ProofRefusal
foreseen_of e first c linked t (Ok y) = if justification_keeps e c linked t y then None else Some (Resolve (TooLarge first))
foreseen_of e first c linked t (Err r) = Some (Resolve r)
