-- What the obligations of reasonings are worth.
use Rattle.std.specs.Prelude.{◌≡◌, List, ◌++◌, None}
use Rattle.mz_logic.specs.Formula.{Formula}
use Rattle.mz_logic.specs.Derives.{Derives}
use Rattle.mz_core.specs.Statement.{Statement}
use Rattle.mz_core.specs.Erasure.{erase}
use Rattle.mz_context.specs.Context.{next}
use Rattle.mz_context.specs.declared.context.Context.{Context}
use Rattle.mz_environment.specs.declared.environment.Environment.{Environment}
use Rattle.mz_closed_laws.specs.ClosedEnvironment.{IsClosedEnvironment}
use Rattle.mz_term_laws.specs.Whole.{IsWhole}
use Rattle.mz_names.specs.Closing.{for_all}
use Rattle.mz_formulas.specs.declared.sentence.Sentence.{Sentence}
use Rattle.mz_obligations.specs.declared.obligation.Obligation.{Obligation}
use Rattle.mz_steps_laws.specs.Facts.{facts}
use Rattle.mz_block_laws.specs.Orders.{Stands, AllStand}
use Rattle.mz_block_laws.specs.Met.{AreMet}
use Rattle.mz_walk_laws.specs.Grounds.{Basis, IsGrounded, IsProper}

-- by a closed environment, in a whole context: where the obligations are met, this holds of the axioms and of what is held
abbrev pub Where : Environment → Context → List Obligation → (Basis → List Formula → Type 0) → Type 0
Where e c os holds =
    (b : Basis) → b.env ≡ e → IsClosedEnvironment e → (held : List Formula) → IsGrounded b held → IsProper (IsWhole 0) b held c → AreMet b.axioms b.clauses os → holds b held

-- the statement derives from what the context says and what is held
abbrev pub IsWorth : Environment → Context → List Obligation → Statement → Type 0
IsWorth e c os s = Where e c os (λ b held. Derives b.axioms (facts c ++ held) (erase s))

-- a thesis of constants in force derives where the obligations of its proof are met
abbrev pub IsProved : Environment → Context → Statement → List Obligation → Type 0
IsProved e c thesis os = Stands (next c) thesis → IsWorth e c os thesis

-- so does a sentence
abbrev pub IsJustified : Environment → Context → Sentence → List Obligation → Type 0
IsJustified e c x os = AllStand (next c) x.variables x.inner → x.closed ≡ for_all (next c) x.variables x.inner → IsWorth e c os x.closed

-- one may reason on behind a statement of an article's own level, and no statement of the constants before it derives behind it
-- that didn't derive before it
abbrev pub IsStated : Environment → Context → Context → List Obligation → Type 0
IsStated e c d os =
    c.thesis ≡ None → Where e c os
    (λ b held. IsProper (IsWhole 0) b held d × (d.thesis ≡ None) × ((s : Statement) → Stands (next c) s → Derives b.axioms (facts d ++ held) (erase s) → Derives b.axioms (facts c ++ held) (erase s)))
