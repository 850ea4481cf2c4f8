-- Laws of chains and of the choice among notations: from known constants come known constants alone, and no loose index.
use Rattle.std.specs.Prelude.{◌≡◌, ℕ, Bool, true, List, ◌++◌}
use Rattle.std.specs.List.{list_all}
use Rattle.mz_logic.specs.Term.{Term}
use Rattle.mz_core.specs.declared.radix.Radix.{Radix}
use Rattle.mz_core.specs.declared.notation.Meaning.{Meaning}
use Rattle.mz_context.specs.declared.context.Context.{Context}
use Rattle.mz_ground.specs.declared.clause.Clause.{Clause}
use Rattle.mz_environment.specs.declared.environment.Environment.{Environment}
use Rattle.mz_closed_laws.specs.ClosedEnvironment.{IsClosedEnvironment}
use Rattle.mz_types.specs.Chain.{IsChain}
use Rattle.mz_choice.specs.Choice.{Suits}
use Rattle.mz_choice.specs.Resolution.{Resolves}
use Rattle.mz_choice.specs.declared.choice.Applied.{Applied}
use Rattle.mz_choice.specs.declared.choice.Wanted.{Wanted}
use Rattle.mz_choice.specs.declared.resolve.Resolution.TheVariants.{ReadsTo}
use Rattle.mz_choice_laws.specs.Known.{term_known, radix_known, meaning_known, HasKnownTypes}

-- the radices of a term's chain
abbrev pub KnownChainLaw : Type 0
KnownChainLaw =
    (known : ℕ → Bool) (cs : List Clause) (e : Environment) (c : Context) → IsClosedEnvironment e → HasKnownTypes known c →
    (t : Term) (rs : List Radix) → term_known known 0 t ≡ true → IsChain cs e c t rs → list_all (radix_known known 0) rs ≡ true

-- what a symbol applied to arguments reads to
abbrev pub KnownMeaningLaw : Type 0
KnownMeaningLaw =
    (known : ℕ → Bool) (cs : List Clause) (e : Environment) (c : Context) → IsClosedEnvironment e → HasKnownTypes known c →
    (w : Wanted) (a : Applied) (m : Meaning) → list_all (term_known known 0) (a.left ++ a.right) ≡ true →
    Resolves cs e c w a (ReadsTo m) → meaning_known known 0 m ≡ true

-- and that is what was wanted
abbrev pub SuitedLaw : Type 0
SuitedLaw = (cs : List Clause) (e : Environment) (c : Context) (w : Wanted) (a : Applied) (m : Meaning) → Resolves cs e c w a (ReadsTo m) → Suits w m
