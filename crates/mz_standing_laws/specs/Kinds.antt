-- What holds of all that a kind of an article's parts makes: its relation leads from where the reading stands, by a tree, to obligations
-- and where it stands behind, or to a refusal.
use Rattle.std.specs.Prelude.{List}
use Rattle.mz_ground.specs.Table.{Extends}
use Rattle.mz_ground.specs.declared.clause.Clause.{Clause}
use Rattle.mz_standing.specs.declared.standing.Standing.{Standing}
use Rattle.mz_taken.specs.Taken.{Taken, Made, Refused}
use Rattle.mz_taken.specs.OneByOne.{OneByOne}
use Rattle.mz_standing_laws.specs.Soundly.{Setting, AreDecided, StandsSoundly}

-- the clauses only grow
abbrev pub HasGrown : Standing → Taken Standing → Type 0
HasGrown s (Made os t) = Extends s.clauses t.clauses
HasGrown s (Refused r) = Unit {0}

-- so it is with a kind, whether it stands soundly or not
abbrev pub GrowsLaw : {X : Type 0} → (Standing → X → Taken Standing → Type 0) → Type 0
GrowsLaw {X} takes = (s : Standing) (x : X) (w : Taken Standing) → takes s x w → HasGrown s w

-- the clauses only grow, and where the obligations are decided by clauses that begin with those behind, it stands soundly there
abbrev pub KeepsSoundly : Setting → Standing → Taken Standing → Type 0
KeepsSoundly g s (Made os t) = Extends s.clauses t.clauses × ((final : List Clause) → Extends t.clauses final → AreDecided final os → StandsSoundly g t)
KeepsSoundly g s (Refused r) = Unit {0}

-- so it is with a kind, where it stood soundly
abbrev pub KeepsLaw : {X : Type 0} → (Standing → X → Taken Standing → Type 0) → Type 0
KeepsLaw {X} takes = (g : Setting) (s : Standing) (x : X) (w : Taken Standing) → StandsSoundly g s → takes s x w → KeepsSoundly g s w

-- both hold of lists whose members are taken one by one, where they hold of the members
abbrev pub GrowsAllLaw : {X : Type 0} → (Standing → X → Taken Standing → Type 0) → Type 0
GrowsAllLaw {X} one = GrowsLaw one → GrowsLaw {X = List X} (OneByOne one)

abbrev pub KeepsAllLaw : {X : Type 0} → (Standing → X → Taken Standing → Type 0) → Type 0
KeepsAllLaw {X} one = GrowsLaw one → KeepsLaw one → KeepsLaw {X = List X} (OneByOne one)
