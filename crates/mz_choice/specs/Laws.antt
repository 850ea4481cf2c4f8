-- Laws of the choice.
use Rattle.std.specs.Prelude.{◌≡◌, ℕ, List, Option}
use Rattle.mz_logic.specs.Term.{Term}
use Rattle.mz_core.specs.declared.radix.Radix.{Radix}
use Rattle.mz_core.specs.declared.notation.Notation.{Notation}
use Rattle.mz_core.specs.declared.notation.Meaning.{Meaning}
use Rattle.mz_context.specs.declared.constants.Constant.{Constant}
use Rattle.mz_context.specs.declared.context.Context.{Context}
use Rattle.mz_ground.specs.declared.clause.Clause.{Clause}
use Rattle.mz_environment.specs.declared.environment.Environment.{Environment}
use Rattle.mz_fits.specs.Matching.{Fixed}
use Rattle.mz_choice.specs.declared.choice.Applied.{Applied}
use Rattle.mz_choice.specs.declared.choice.Wanted.{Wanted}
use Rattle.mz_choice.specs.declared.resolve.Resolution.{Resolution}
use Rattle.mz_choice.specs.Choice.{FirstMember, Reads, Chosen}
use Rattle.mz_choice.specs.Resolution.{Resolves}

-- what the first member that matches fixes is determined
abbrev pub OneMemberLaw : Type 0
OneMemberLaw =
    (cs : List Clause) (ks : List (Option Constant)) (scope : ℕ) (formal : Radix) (fs : Fixed) (members : List Radix) (o p : Option Fixed) →
    FirstMember cs ks scope formal fs members o → FirstMember cs ks scope formal fs members p → o ≡ p

-- so is what arguments read to by a notation
abbrev pub OneReadingLaw : Type 0
OneReadingLaw =
    (cs : List Clause) (e : Environment) (c : Context) (x : Notation) (args : List Term) (o p : Option Meaning) →
    Reads cs e c x args o → Reads cs e c x args p → o ≡ p

-- what an applied symbol reads to by the latest candidate that passes
abbrev pub OneChosenLaw : Type 0
OneChosenLaw =
    (cs : List Clause) (e : Environment) (c : Context) (w : Wanted) (a : Applied) (o p : Option Meaning) →
    Chosen cs e c w a o → Chosen cs e c w a p → o ≡ p

-- and what it reads to, or why it reads to nothing
abbrev pub OneResolutionLaw : Type 0
OneResolutionLaw =
    (cs : List Clause) (e : Environment) (c : Context) (w : Wanted) (a : Applied) (o p : Resolution) →
    Resolves cs e c w a o → Resolves cs e c w a p → o ≡ p
