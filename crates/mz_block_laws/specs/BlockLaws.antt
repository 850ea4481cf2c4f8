-- Laws of steps one after another, and of whole blocks.
use Rattle.std.specs.Prelude.{◌≡◌, ◌+◌, ℕ, List, [], ◌∷◌, ◌++◌, length, map, Some, Contains}
use Rattle.mz_logic.specs.Term.{Term}
use Rattle.mz_logic.specs.Formula.{Formula}
use Rattle.mz_logic.specs.Derives.{Derives}
use Rattle.mz_core.specs.Statement.{Statement, Truth, Eq}
use Rattle.mz_core.specs.Parts.{conjunction}
use Rattle.mz_core.specs.Erasure.{erase}
use Rattle.mz_context.specs.Context.{next}
use Rattle.mz_context.specs.declared.context.Context.{Context}
use Rattle.mz_context.specs.declared.labelled.LabelledStatement.{LabelledStatement}
use Rattle.mz_ground.specs.declared.clause.Clause.{Clause}
use Rattle.mz_environment.specs.declared.unfoldings.Unfolding.{Unfolding}
use Rattle.mz_names.specs.Closing.{with_variables, for_all}
use Rattle.mz_names.specs.declared.variable.Variable.{Variable}
use Rattle.mz_now.specs.Stated.{stated_by}
use Rattle.mz_now.specs.declared.now_part.NowPart.{NowPart}
use Rattle.mz_thesis.specs.Cases.{disjunction_to}
use Rattle.mz_thesis_laws.specs.RowLaws.{AreInForce}
use Rattle.mz_steps.specs.Rows.{with_constants, owed}
use Rattle.mz_steps.specs.Effects.{Acts}
use Rattle.mz_steps.specs.Changes.{block_after, statement_of, with_stated, context_after, at_start_of_proof, at_start_of_now}
use Rattle.mz_steps.specs.Equalities.{neighbours, ends_equal}
use Rattle.mz_steps.specs.declared.block.Block.{Block}
use Rattle.mz_steps.specs.declared.block.Block.TheVariants.{Proof, Now}
use Rattle.mz_steps.specs.declared.block.Effect.{Effect}
use Rattle.mz_steps.specs.declared.read_step.ReadStep.{ReadStep}
use Rattle.mz_steps_laws.specs.Facts.{facts}
use Rattle.mz_steps_laws.specs.StepLaws.{gained, OwedDerives}
use Rattle.mz_block_laws.specs.Orders.{Stands, TermStands, AllStand, AreTyped, StepStands, HasItsType, AreFounded, IsInOrder}
use Rattle.mz_block_laws.specs.Passing.{Passes}

-- what is known behind a step: with its constants, and with what it gained
abbrev pub known_behind : List Formula → Context → ReadStep → List Formula
known_behind held c s = facts (with_constants c s) ++ (map erase (gained s) ++ held)

-- each proposition derives, and each formula
abbrev pub AreStated : List Formula → List Formula → List LabelledStatement → Type 0
AreStated axioms premises ps = (p : LabelledStatement) → Contains ps p → Derives axioms premises (erase (statement_of p))

abbrev pub AllDerive : List Formula → List Formula → List Formula → Type 0
AllDerive axioms premises fs = (f : Formula) → Contains fs f → Derives axioms premises f

-- one passes soundly over a step whose obligation is met, where the propositions that it states derive from what is known behind
-- it, and so do the formulas that are held from then on
abbrev pub StepPassesLaw : Type 0
StepPassesLaw =
    (axioms held : List Formula) (cs : List Clause) (us : List Unfolding) → AreFounded axioms held cs us → (b : Block) (c : Context) → IsInOrder held c →
    (s : ReadStep) → StepStands (next c) s → HasItsType axioms (facts c ++ held) s → (e : Effect) → Acts cs us b c s (Some e) →
    OwedDerives axioms (facts c ++ held) (owed c s) → (ps : List LabelledStatement) → AreStated axioms (known_behind held c s) ps →
    (kept : List Formula) → AllDerive axioms (known_behind held c s) kept →
    Passes axioms held c b kept (context_after c s e ps) (block_after b e)

-- behind it the context is in order, where the propositions stand
abbrev pub StepOrderLaw : Type 0
StepOrderLaw =
    (held : List Formula) (c : Context) → IsInOrder held c → (s : ReadStep) → StepStands (next c) s → (e : Effect) → (ps : List LabelledStatement) →
    ((p : LabelledStatement) → Contains ps p → Stands (next (with_constants c s)) (statement_of p)) → IsInOrder held (context_after c s e ps)

-- over no steps, and over steps one after another
abbrev pub NoStepLaw : Type 0
NoStepLaw = (axioms held : List Formula) (c : Context) (b : Block) → Passes axioms held c b held c b

abbrev pub MoreStepsLaw : Type 0
MoreStepsLaw =
    (axioms held : List Formula) (c : Context) (kept : List Formula) (d : Context) (last : List Formula) (e : Context) (x y z : Block) →
    Passes axioms held c x kept d y → Passes axioms kept d y last e z → Passes axioms held c x last e z

-- and to where propositions are stated that derive
abbrev pub StatedPassesLaw : Type 0
StatedPassesLaw =
    (axioms held : List Formula) (c : Context) (kept : List Formula) (d : Context) (b x : Block) → Passes axioms held c b kept d x →
    (ps : List LabelledStatement) → AreStated axioms (facts d ++ kept) ps → (last : List Formula) → AllDerive axioms (facts d ++ kept) last → Passes axioms held c b last (with_stated d ps) x

-- what derives from what the context says may be held besides
abbrev pub HeldPassesLaw : Type 0
HeldPassesLaw =
    (axioms held : List Formula) (c : Context) (kept : List Formula) (d : Context) (b x : Block) (more : List Formula) → AllDerive axioms (facts c ++ held) more →
    Passes axioms more c b kept d x → Passes axioms held c b kept d x

-- a proof behind which truth is left proves its thesis
abbrev pub ProofLaw : Type 0
ProofLaw =
    (axioms held : List Formula) (c d : Context) (thesis : Statement) → Stands (next c) thesis →
    Passes axioms held (at_start_of_proof c thesis) Proof held d Proof → d.thesis ≡ Some Truth → Derives axioms (facts c ++ held) (erase thesis)

-- what a `now` states derives, and stands
abbrev pub NowLaw : Type 0
NowLaw =
    (axioms held : List Formula) (c d : Context) (ps : List NowPart) → Passes axioms held (at_start_of_now c) (Now []) held d (Now ps) →
    Derives axioms (facts c ++ held) (erase (stated_by ps)) × Stands (next c) (stated_by ps)

-- a case: what derives from what it supposes
abbrev pub CaseLaw : Type 0
CaseLaw =
    (axioms held : List Formula) (c : Context) (thesis : Statement) (ps : List LabelledStatement) →
    Derives axioms (facts (with_stated c ps) ++ held) (erase thesis) → Derives axioms (erase (conjunction (map statement_of ps)) ∷ facts c ++ held) (erase thesis)

-- a sentence derives where its formula does at the constants of its free reserved variables
abbrev pub SentenceLaw : Type 0
SentenceLaw =
    (axioms held : List Formula) (c : Context) → IsInOrder held c → (vs : List Variable) (s : Statement) → AllStand (next c) vs s →
    Derives axioms (facts (with_variables c vs) ++ held) (erase s) → Derives axioms (facts c ++ held) (erase (for_all (next c) vs s))

-- and stands
abbrev pub SentenceStandsLaw : Type 0
SentenceStandsLaw = (n : ℕ) (vs : List Variable) (s : Statement) → AllStand n vs s → Stands n (for_all n vs s)

-- t0 = t1 = .. = tn, each for all objects: the first term is equal to the last
abbrev pub EqualitiesLaw : Type 0
EqualitiesLaw =
    (axioms premises : List Formula) (n : ℕ) (vs : List Variable) → AreInForce n premises → AreTyped n vs →
    (t u : Term) (us : List Term) → ((a : Term) → Contains (t ∷ u ∷ us) a → TermStands (length vs + n) a) →
    Derives axioms premises (erase (for_all n vs (Eq t u))) → ((s : Statement) → Contains (neighbours u us) s → Derives axioms premises (erase (for_all n vs s))) →
    Derives axioms premises (erase (for_all n vs (ends_equal t (u ∷ us))))

-- the disjunction of statements that stand stands
abbrev pub DisjunctionStandsLaw : Type 0
DisjunctionStandsLaw = (n : ℕ) (s : Statement) (ts : List Statement) → Stands n s → ((u : Statement) → Contains ts u → Stands n u) → Stands n (disjunction_to s ts)
