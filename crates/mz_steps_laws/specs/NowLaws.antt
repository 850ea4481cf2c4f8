-- Laws of steps in a `now`: whoever derives what the steps behind a step state has derived what it states with them.
use Rattle.std.specs.Prelude.{◌≡◌, ℕ, suc, true, List, ◌++◌, map}
use Rattle.std.specs.List.{list_all}
use Rattle.mz_logic.specs.Formula.{Formula}
use Rattle.mz_logic.specs.Derives.{Derives}
use Rattle.mz_core.specs.Statement.{Statement}
use Rattle.mz_core.specs.Erasure.{erase}
use Rattle.mz_core.specs.InForce.{statement_in_force}
use Rattle.mz_context.specs.Context.{next}
use Rattle.mz_context.specs.declared.context.Context.{Context}
use Rattle.mz_now.specs.Stated.{defined, conjuncts_of, stated_by}
use Rattle.mz_now.specs.declared.now_part.NowPart.{NowPart}
use Rattle.mz_now.specs.declared.now_part.NowPart.TheVariants.{Quantifier, Antecedent, Conjunct, Defined, Hidden}
use Rattle.mz_thesis_laws.specs.RowLaws.{AreInForce}
use Rattle.mz_steps.specs.Rows.{with_constants, owed, parts_said}
use Rattle.mz_steps.specs.declared.read_step.ReadStep.{ReadStep}
use Rattle.mz_steps.specs.declared.read_step.ReadStep.TheVariants.{Let, Assume, Given, Thus, Take, Consider, Reconsider, Set, State}
use Rattle.mz_steps_laws.specs.Facts.{facts}
use Rattle.mz_steps_laws.specs.StepLaws.{IsReadIn, gained, OwedDerives}

-- what the parts state is of constants in force
abbrev pub StatesInForce : ℕ → List NowPart → Type 0
StatesInForce n ps = list_all (statement_in_force n) (conjuncts_of ps) ≡ true

-- how many numbers what is stated behind a part may have, where the part's constant is the next one
abbrev pub numbers_behind : ℕ → NowPart → ℕ
numbers_behind n (Quantifier c ty) = suc n
numbers_behind n (Antecedent s) = n
numbers_behind n (Conjunct s) = n
numbers_behind n (Defined c t) = suc n
numbers_behind n (Hidden c) = n

-- which constants what is stated behind the step may have: that of `let`, that of `set` and `reconsider` where it isn't
-- hidden, and none of those of `given` and `consider`
abbrev pub MayStateBehind : List NowPart → Context → ReadStep → List NowPart → Type 0
MayStateBehind before c (Let v) ps = StatesInForce (suc (next c)) ps
MayStateBehind before c (Assume s) ps = StatesInForce (next c) ps
MayStateBehind before c (Given vs s) ps = StatesInForce (next c) ps
MayStateBehind before c (Thus s) ps = StatesInForce (next c) ps
MayStateBehind before c (Take t) ps = StatesInForce (next c) ps
MayStateBehind before c (Consider vs s) ps = StatesInForce (next c) ps
MayStateBehind before c (Reconsider d) ps = StatesInForce (numbers_behind (next c) (defined before (next c) d.term)) ps
MayStateBehind before c (Set d) ps = StatesInForce (numbers_behind (next c) (defined before (next c) d.term)) ps
MayStateBehind before c (State s) ps = StatesInForce (next c) ps

-- a step of a `now` is sound: where what it owes derives, and what is stated behind it derives from the context with its
-- constants and from what it gains, what is stated with it derives
abbrev pub StepInNowLaw : Type 0
StepInNowLaw =
    (axioms held : List Formula) (c : Context) → AreInForce (next c) (facts c ++ held) →
    (s : ReadStep) → IsReadIn axioms (facts c ++ held) c s → OwedDerives axioms (facts c ++ held) (owed c s) →
    (before behind : List NowPart) → MayStateBehind before c s behind →
    Derives axioms (facts (with_constants c s) ++ (map erase (gained s) ++ held)) (erase (stated_by behind)) →
    Derives axioms (facts c ++ held) (erase (stated_by (parts_said before c s ++ behind)))
