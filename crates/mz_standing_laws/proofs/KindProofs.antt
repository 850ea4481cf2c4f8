-- The laws of members taken one by one.
use Rattle.std.proofs.Common.{List}
use Rattle.std.proofs.lemmas.List.Elements.{Contains-append_left, Contains-append_right}
use Rattle.mz_ground.specs.Table.{Extends}
use Rattle.mz_ground.proofs.ListLemmas.{extends_itself, extends_further}
use Rattle.mz_obligations.specs.declared.obligation.Obligation.{Obligation}
use Rattle.mz_standing.specs.declared.standing.Standing.{Standing}
use Rattle.mz_taken.specs.Taken.{Taken, Made, Refused, behind}
use Rattle.mz_taken.specs.OneByOne.{OneByOne, none_left, one_refused, one_taken}
use Rattle.mz_standing_laws.specs.Soundly.{Setting, StandsSoundly}
use Rattle.mz_standing_laws.specs.Kinds.{HasGrown, GrowsLaw, KeepsSoundly, KeepsLaw, GrowsAllLaw, KeepsAllLaw}

-- the clauses only grow

pub behind_grows : (s t : Standing) (os : List Obligation) (w : Taken Standing) → Extends s.clauses t.clauses → HasGrown t w → HasGrown s (behind os w)
behind_grows s t os (Made ps u) first later = extends_further s.clauses t.clauses u.clauses first later
behind_grows s t os (Refused r) first later = tt

all_grow : {X : Type 0} (one : Standing → X → Taken Standing → Type 0) → GrowsLaw one → {s : Standing} {xs : List X} {w : Taken Standing} → OneByOne one s xs w → HasGrown s w
all_grow one law (none_left s) = extends_itself s.clauses
all_grow one law (one_refused s x xs r h) = tt
all_grow one law (one_taken s t x xs os w h k) = behind_grows s t os w (law s x (Made os t) h) (all_grow one law k)

pub grows_all_law : {X : Type 0} (one : Standing → X → Taken Standing → Type 0) → GrowsAllLaw one
grows_all_law one law s xs w h = all_grow one law h

-- it stays sound

pub behind_keeps : (g : Setting) (s t : Standing) (os : List Obligation) (w : Taken Standing) → KeepsSoundly g s (Made os t) → (StandsSoundly g t → KeepsSoundly g t w) → HasGrown t w → KeepsSoundly g s (behind os w)
behind_keeps g s t os (Made ps u) (grown, sound) then further = (
  extends_further s.clauses t.clauses u.clauses grown further,
  λ final grows decided.
      let there : StandsSoundly g t = sound final (extends_further t.clauses u.clauses final further grows) (λ o is. decided o (Contains-append_left os ps o is)) in
      (then there).1 final grows (λ o is. decided o (Contains-append_right os ps o is)),
)
behind_keeps g s t os (Refused r) h then further = tt

all_keep : {X : Type 0} (one : Standing → X → Taken Standing → Type 0) → GrowsLaw one → KeepsLaw one → (g : Setting) {s : Standing} {xs : List X} {w : Taken Standing} → StandsSoundly g s → OneByOne one s xs w → KeepsSoundly g s w
all_keep one grows law g sound (none_left s) = (extends_itself s.clauses, λ final more decided. sound)
all_keep one grows law g sound (one_refused s x xs r h) = tt
all_keep one grows law g sound (one_taken s t x xs os w h k) = behind_keeps g s t os w (law g s x (Made os t) sound h) (λ there. all_keep one grows law g there k) (all_grow one grows k)

pub keeps_all_law : {X : Type 0} (one : Standing → X → Taken Standing → Type 0) → KeepsAllLaw one
keeps_all_law one grows law g s xs w sound h = all_keep one grows law g sound h
