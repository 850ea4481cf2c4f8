-- A step that is performed leads soundly on.
use Rattle.std.proofs.Common.{◌≡◌, ◌≤◌, ◌<◌, ℕ, List, [], ◌∷◌, ◌++◌, map, refl, sym, ◌∙◌, subst, arith, Option, Some, None, Result, Ok}
use Rattle.std.proofs.lemmas.List.Elements.{Contains-append_right}
use Rattle.mz_base.specs.declared.place.Place.{Place}
use Rattle.mz_logic.specs.Formula.{Formula}
use Rattle.mz_logic.proofs.Each.{Each, cut_each, each_itself, each_append, each_left, each_right}
use Rattle.mz_core.specs.Statement.{Statement}
use Rattle.mz_core.specs.Erasure.{erase}
use Rattle.mz_context.specs.Context.{next}
use Rattle.mz_context.specs.Changes.{with_constant}
use Rattle.mz_context.specs.declared.context.Context.{Context}
use Rattle.mz_context.specs.declared.labelled.LabelledStatement.{LabelledStatement}
use Rattle.mz_ground.specs.ClauseFormula.{clause_formula}
use Rattle.mz_environment.specs.declared.environment.Environment.{Environment}
use Rattle.mz_types.specs.Known.{letters_clauses, typing}
use Rattle.mz_names.specs.Closing.{constant_of, with_variables}
use Rattle.mz_names.specs.declared.variable.Variable.{Variable}
use Rattle.mz_now.specs.declared.now_part.NowPart.{NowPart}
use Rattle.mz_thesis_laws.specs.RowLaws.{AreInForce}
use Rattle.mz_steps.specs.Rows.{thesis_step, with_constants, constant_for, owed, parts_said}
use Rattle.mz_steps.specs.Effects.{Acts, may_be_said}
use Rattle.mz_steps.specs.Changes.{with_thesis}
use Rattle.mz_steps.specs.declared.block.Block.{Block}
use Rattle.mz_steps.specs.declared.block.Block.TheVariants.{Proof, Now}
use Rattle.mz_steps.specs.declared.block.Effect.{Effect}
use Rattle.mz_steps.specs.declared.block.Effect.TheVariants as effect
use Rattle.mz_steps.specs.declared.read_step.ReadStep.{ReadStep}
use Rattle.mz_steps.specs.declared.read_step.ReadStep.TheVariants as read
use Rattle.mz_obligations.specs.declared.obligation.Obligation.{Obligation}
use Rattle.mz_steps_laws.specs.Facts.{facts, Rests}
use Rattle.mz_steps_laws.specs.StepLaws.{gained, OwedDerives, thesis_left}
use Rattle.mz_steps_laws.proofs.FactLemmas.{next_with}
use Rattle.mz_steps_laws.proofs.StandsProofs.{thesis_stands_law}
use Rattle.mz_block_laws.specs.Orders.{Stands, AllStand, StepStands, HasItsType, AreFounded, IsInOrder}
use Rattle.mz_block_laws.specs.Passing.{Passes}
use Rattle.mz_block_laws.specs.Met.{AreHeld, AreMet}
use Rattle.mz_block_laws.specs.BlockLaws.{known_behind, AreStated, AllDerive}
use Rattle.mz_block_laws.proofs.OrderLemmas.{rests_in, read_in, facts_in_force, force_more}
use Rattle.mz_block_laws.proofs.OrderProofs.{step_order_law}
use Rattle.mz_block_laws.proofs.PassProofs.{no_step_law, more_steps_law, held_passes_law, passes_otherwise}
use Rattle.mz_block_laws.proofs.StepProofs.{same_next, no_step_of, when_said, constants_later, step_passes_law}
use Rattle.mz_walk.specs.Walked.{State, state, with_left, OneByOne}
use Rattle.mz_walk.specs.Walked as walked
use Rattle.mz_walk.specs.Performing as performing
use Rattle.mz_walk.specs.Performing.{state_after, Performs, PerformsAlone}
use Rattle.mz_justified.specs.declared.proof_fault.ProofRefusal.{ProofRefusal}
use Rattle.mz_walk_laws.specs.Grounds.{Basis, IsGrounded, ReadsWell, IsProper}
use Rattle.mz_walk_laws.proofs.Outcomes.{WhereOk, ok_mapped, ok_both}
use Rattle.mz_walk_laws.proofs.ReadingLemmas.{AllStanding}

-- what is held may be held with more
pub more_grounded : (b : Basis) (held more : List Formula) → Each b.axioms more held → IsGrounded b held → IsGrounded b more
more_grounded b held more each g = record {
  typing_clauses = λ k is. cut_each b.axioms more held (clause_formula k) each (g.typing_clauses k is);
  clauses = λ k is. cut_each b.axioms more held (clause_formula k) each (g.clauses k is);
  steps = g.steps;
  expansions = g.expansions;
  theorems = λ s is. (cut_each b.axioms more held (erase s.statement) each (g.theorems s is).0, (g.theorems s is).1, (g.theorems s is).2);
  schemes = g.schemes;
  chains = g.chains;
}

-- the typing clauses of the context
typing_held : (b : Basis) (held : List Formula) → IsGrounded b held → (c : Context) → c.letters ≡ b.letters → AreHeld b.axioms held (typing b.env c)
typing_held b held g c e = subst (λ ls. AreHeld b.axioms held (b.env.typing ++ letters_clauses ls)) (sym e) g.typing_clauses

pub letters_held : (b : Basis) (held : List Formula) → IsGrounded b held → (c : Context) → c.letters ≡ b.letters → AreHeld b.axioms held (letters_clauses c.letters)
letters_held b held g c e k is = typing_held b held g c e k (Contains-append_right b.env.typing (letters_clauses c.letters) k is)

pub founded_steps : (b : Basis) (held : List Formula) → IsGrounded b held → (c : Context) → c.letters ≡ b.letters → AreFounded b.axioms held (typing b.env c) b.env.steps
founded_steps b held g c e = record { clauses = typing_held b held g c e; unfoldings = g.steps }

pub founded_expansions : (b : Basis) (held : List Formula) → IsGrounded b held → (c : Context) → c.letters ≡ b.letters → AreFounded b.axioms held (typing b.env c) b.env.expansions
founded_expansions b held g c e = record { clauses = typing_held b held g c e; unfoldings = g.expansions }

-- the letters stay
pub variables_letters : (c : Context) (vs : List Variable) → (with_variables c vs).letters ≡ c.letters
variables_letters c [] = refl
variables_letters c (v ∷ vs) = variables_letters (with_constant c (constant_of v)) vs

pub constants_letters : (c : Context) (r : ReadStep) → (with_constants c r).letters ≡ c.letters
constants_letters c (read.Let v) = refl
constants_letters c (read.Assume s) = refl
constants_letters c (read.Given vs s) = variables_letters c vs
constants_letters c (read.Thus s) = refl
constants_letters c (read.Take t) = refl
constants_letters c (read.Consider vs s) = variables_letters c vs
constants_letters c (read.Reconsider d) = refl
constants_letters c (read.Set d) = refl
constants_letters c (read.State s) = refl

pub thesis_letters : (c : Context) (a : Effect) → (with_thesis c a).letters ≡ c.letters
thesis_letters c effect.Unchanged = refl
thesis_letters c (effect.Leaves s) = refl
thesis_letters c (effect.Says ps) = refl

-- the context stays whole
stand_typed : (W : Context → Type 0) (e : Environment) → ReadsWell e W → (c : Context) → W c → (vs : List Variable) (s : Statement) → AllStand (next c) vs s → W (with_variables c vs)
stand_typed W e reads c whole [] s w = whole
stand_typed W e reads c whole (v ∷ vs) s w =
    let d : Context = with_constant c (constant_of v) in
    stand_typed W e reads d (reads.with_one c whole (constant_of v) w.0 tt) vs s (subst (λ n. AllStand n vs s) (sym (next_with c (constant_of v))) w.1)

whole_constants : (W : Context → Type 0) (e : Environment) → ReadsWell e W → (c : Context) → W c → (r : ReadStep) → StepStands (next c) r → W (with_constants c r)
whole_constants W e reads c whole (read.Let v) w = reads.with_one c whole (constant_of v) w tt
whole_constants W e reads c whole (read.Assume s) w = whole
whole_constants W e reads c whole (read.Given vs s) w = stand_typed W e reads c whole vs s w
whole_constants W e reads c whole (read.Thus s) w = whole
whole_constants W e reads c whole (read.Take t) w = whole
whole_constants W e reads c whole (read.Consider vs s) w = stand_typed W e reads c whole vs s w
whole_constants W e reads c whole (read.Reconsider d) w = reads.with_one c whole (constant_for d) w.0 w.1
whole_constants W e reads c whole (read.Set d) w = reads.with_one c whole (constant_for d) w.0 w.1
whole_constants W e reads c whole (read.State s) w = whole

-- what is left of a thesis stands
abbrev EffectStands : ℕ → Effect → Type 0
EffectStands n effect.Unchanged = Unit {0}
EffectStands n (effect.Leaves s) = Stands n s
EffectStands n (effect.Says ps) = Unit {0}

whole_thesis : (W : Context → Type 0) (e : Environment) → ReadsWell e W → (c : Context) → W c → (a : Effect) → EffectStands (next c) a → W (with_thesis c a)
whole_thesis W e reads c whole effect.Unchanged w = whole
whole_thesis W e reads c whole (effect.Leaves s) w = reads.posed c whole s w
whole_thesis W e reads c whole (effect.Says ps) w = whole

unchanged_stands : (n : ℕ) (a : Effect) → a ≡ effect.Unchanged → EffectStands n a
unchanged_stands n a e = subst (EffectStands n) (sym e) tt

said_stands : (n : ℕ) (a : Effect) (ps : List NowPart) → a ≡ effect.Says ps → EffectStands n a
said_stands n a ps e = subst (EffectStands n) (sym e) tt

left_effect : (n : ℕ) (th : Statement) (a : Effect) → Stands n (thesis_left th a) → EffectStands n a
left_effect n th effect.Unchanged w = tt
left_effect n th (effect.Leaves s) w = w
left_effect n th (effect.Says ps) w = tt

proof_effect : (W : Context → Type 0) (b : Basis) → ReadsWell b.env W → (held : List Formula) → IsGrounded b held → (c : Context) → IsProper W b held c → (r : ReadStep) → StepStands (next c) r → HasItsType b.axioms (facts c ++ held) r → (a : Effect) → Acts (typing b.env c) b.env.steps Proof c r (Some a) → (o : Option Statement) → c.thesis ≡ o → EffectStands (next (with_constants c r)) a
proof_effect W b reads held g c p r w t a acts None is =
    unchanged_stands (next (with_constants c r)) a (no_step_of (typing b.env c) b.env.steps c (thesis_step c r) a is acts).1
proof_effect W b reads held g c p r w t a acts (Some th) is =
    let stands : Stands (next c) th = reads.thesis c p.is_whole th is in
    let rests : Rests b.axioms held (typing b.env c) b.env.steps c = rests_in b.axioms held (typing b.env c) b.env.steps (founded_steps b held g c p.letters) c p.order in
    left_effect (next (with_constants c r)) th a
    (thesis_stands_law b.axioms held (typing b.env c) b.env.steps c rests th is stands.0 stands.1 r (read_in b.axioms (facts c ++ held) c r w t) a acts)

effect_stands : (W : Context → Type 0) (b : Basis) → ReadsWell b.env W → (held : List Formula) → IsGrounded b held → (x : Block) (c : Context) → IsProper W b held c → (r : ReadStep) → StepStands (next c) r → HasItsType b.axioms (facts c ++ held) r → (a : Effect) → Acts (typing b.env c) b.env.steps x c r (Some a) → EffectStands (next (with_constants c r)) a
effect_stands W b reads held g Proof c p r w t a acts = proof_effect W b reads held g c p r w t a acts c.thesis refl
effect_stands W b reads held g (Now ps) c p r w t a acts = said_stands (next (with_constants c r)) a (parts_said ps c r) (when_said (may_be_said ps c r) (parts_said ps c r) a acts).1

-- other formulas held
pub held_order : (held kept : List Formula) (c : Context) → IsInOrder held c → AreInForce (next c) kept → IsInOrder kept c
held_order held kept c order h = record { said = order.said; held_in_force = h }

pub held_proper : (W : Context → Type 0) (b : Basis) (held kept : List Formula) (c : Context) → IsProper W b held c → AreInForce (next c) kept → IsProper W b kept c
held_proper W b held kept c p h = record { is_whole = p.is_whole; order = held_order held kept c p.order h; letters = p.letters }

-- behind a step one may reason on
pub performs_proper : (W : Context → Type 0) (b : Basis) → ReadsWell b.env W → (held : List Formula) → IsGrounded b held → (first : Place) (s : State) → IsProper W b held s.context → (r : ReadStep) → StepStands (next s.context) r → HasItsType b.axioms (facts s.context ++ held) r → (ps : List LabelledStatement) → AllStanding (next (with_constants s.context r)) ps → (kept : List Formula) → AreInForce (next s.context) kept → (o : Result State ProofRefusal) → Performs b.env first s r ps o → WhereOk o (λ t. IsProper W b kept t.context)
performs_proper W b reads held g first s p r w t ps all kept force o (performing.unfit h) = tt
performs_proper W b reads held g first s p r w t ps all kept force o (performing.beyond a h k) = tt
performs_proper W b reads held g first s p r w t ps all kept force o (performing.performed a h k) =
    let c : Context = s.context in
    let d : Context = with_constants c r in
    let still : AllStanding (next (with_thesis d a)) ps = subst (λ n. AllStanding n ps) (sym (same_next d a)) all in
    record {
      is_whole = reads.with_some (with_thesis d a) (whole_thesis W b.env reads d (whole_constants W b.env reads c p.is_whole r w) a (effect_stands W b reads held g s.block c p r w t a h)) ps still;
      order = step_order_law kept c (held_order held kept c p.order force) r w a ps all;
      letters = thesis_letters d a ∙ constants_letters c r ∙ p.letters;
    }

-- and one has passed soundly over it, where what it owes derives
pub performs_passes : (W : Context → Type 0) (b : Basis) (held : List Formula) → IsGrounded b held → (first : Place) (s : State) → IsProper W b held s.context → (r : ReadStep) → StepStands (next s.context) r → HasItsType b.axioms (facts s.context ++ held) r → OwedDerives b.axioms (facts s.context ++ held) (owed s.context r) → (ps : List LabelledStatement) → AreStated b.axioms (known_behind held s.context r) ps → (kept : List Formula) → AllDerive b.axioms (known_behind held s.context r) kept → (o : Result State ProofRefusal) → Performs b.env first s r ps o → WhereOk o (λ t. Passes b.axioms held s.context s.block kept t.context t.block)
performs_passes W b held g first s p r w t owes ps stated kept all o (performing.unfit h) = tt
performs_passes W b held g first s p r w t owes ps stated kept all o (performing.beyond a h k) = tt
performs_passes W b held g first s p r w t owes ps stated kept all o (performing.performed a h k) =
    step_passes_law b.axioms held (typing b.env s.context) b.env.steps (founded_steps b held g s.context p.letters) s.block s.context p.order r w t a h owes ps stated kept all

-- from one state to another
pub record Reaches (W : Context → Type 0) (b : Basis) (held : List Formula) (s : State) (kept : List Formula) (t : State) : Type 0 where
  pub proper : IsProper W b kept t.context
  pub passes : Passes b.axioms held s.context s.block kept t.context t.block

pub reaches_itself : (W : Context → Type 0) (b : Basis) (held : List Formula) (s : State) → IsProper W b held s.context → Reaches W b held s held s
reaches_itself W b held s p = record { proper = p; passes = no_step_law b.axioms held s.context s.block }

pub reaches_further : (W : Context → Type 0) (b : Basis) (held : List Formula) (s : State) (kept : List Formula) (t : State) (last : List Formula) (u : State) → Reaches W b held s kept t → Reaches W b kept t last u → Reaches W b held s last u
reaches_further W b held s kept t last u p q = record {
  proper = q.proper;
  passes = more_steps_law b.axioms held s.context kept t.context last u.context s.block t.block u.block p.passes q.passes;
}

pub performs_reaches : (W : Context → Type 0) (b : Basis) → ReadsWell b.env W → (held : List Formula) → IsGrounded b held → (first : Place) (s : State) → IsProper W b held s.context → (r : ReadStep) → StepStands (next s.context) r → HasItsType b.axioms (facts s.context ++ held) r → OwedDerives b.axioms (facts s.context ++ held) (owed s.context r) → (ps : List LabelledStatement) → AllStanding (next (with_constants s.context r)) ps → AreStated b.axioms (known_behind held s.context r) ps → (kept : List Formula) → AreInForce (next s.context) kept → AllDerive b.axioms (known_behind held s.context r) kept → (o : Result State ProofRefusal) → Performs b.env first s r ps o → WhereOk o (Reaches W b held s kept)
performs_reaches W b reads held g first s p r w t owes ps all stated kept force derive o h =
    ok_both (λ u. IsProper W b kept u.context) (λ u. Passes b.axioms held s.context s.block kept u.context u.block) (Reaches W b held s kept) o
    (λ u x y. record { proper = x; passes = y })
    (performs_proper W b reads held g first s p r w t ps all kept force o h)
    (performs_passes W b held g first s p r w t owes ps stated kept derive o h)

-- what was held is known behind a step
pub held_behind : (ax held : List Formula) (c : Context) (r : ReadStep) → AllDerive ax (known_behind held c r) held
held_behind ax held c r = each_right ax (known_behind held c r) (map erase (gained r)) held (each_right ax (known_behind held c r) (facts (with_constants c r)) (map erase (gained r) ++ held) (each_itself ax (known_behind held c r)))

pub gained_behind : (ax held : List Formula) (c : Context) (r : ReadStep) → AllDerive ax (known_behind held c r) (map erase (gained r))
gained_behind ax held c r = each_left ax (known_behind held c r) (map erase (gained r)) held (each_right ax (known_behind held c r) (facts (with_constants c r)) (map erase (gained r) ++ held) (each_itself ax (known_behind held c r)))

pub nothing_stated : (ax g : List Formula) → AreStated ax g []
nothing_stated ax g p is = let lt : is.0 < 0 = is.1 in absurd (omega arith)

pub nothing_standing : (n : ℕ) → AllStanding n []
nothing_standing n p is = let lt : is.0 < 0 = is.1 in absurd (omega arith)

-- a step that states nothing
pub alone_reaches : (W : Context → Type 0) (b : Basis) → ReadsWell b.env W → (held : List Formula) → IsGrounded b held → (first : Place) (s : State) → IsProper W b held s.context → (r : ReadStep) → StepStands (next s.context) r → HasItsType b.axioms (facts s.context ++ held) r → OwedDerives b.axioms (facts s.context ++ held) (owed s.context r) → (o : Result State ProofRefusal) → PerformsAlone b.env first s r o → WhereOk o (Reaches W b held s held)
alone_reaches W b reads held g first s p r w t owes o h =
    performs_reaches W b reads held g first s p r w t owes [] (nothing_standing (next (with_constants s.context r))) (nothing_stated b.axioms (known_behind held s.context r)) held p.order.held_in_force (held_behind b.axioms held s.context r) o h

-- steps that are ready to be performed one after another: what they say stands from some number on, and the type of `set` is
-- one that its term has by what is held
pub record IsReady (ax held : List Formula) (n : ℕ) (r : ReadStep) : Type 0 where
  pub stands : (m : ℕ) → n ≤ m → StepStands m r
  pub typed : (g : List Formula) → Each ax g held → HasItsType ax g r

abbrev pub AllReady : List Formula → List Formula → ℕ → List ReadStep → Type 0
AllReady ax held n [] = Unit {0}
AllReady ax held n (r ∷ rs) = IsReady ax held n r × AllReady ax held n rs

-- what they owe derives from what is held
abbrev pub AllOwed : List Formula → List Formula → List ReadStep → Type 0
AllOwed ax held [] = Unit {0}
AllOwed ax held (r ∷ rs) = ((c : Context) (g : List Formula) → Each ax g held → OwedDerives ax g (owed c r)) × AllOwed ax held rs

-- the number of the next constant only grows
pub performs_later : (e : Environment) (first : Place) (s : State) (r : ReadStep) (ps : List LabelledStatement) (o : Result State ProofRefusal) → Performs e first s r ps o → WhereOk o (λ t. next s.context ≤ next t.context)
performs_later e first s r ps o (performing.unfit h) = tt
performs_later e first s r ps o (performing.beyond a h k) = tt
performs_later e first s r ps o (performing.performed a h k) =
    let le : next s.context ≤ next (with_constants s.context r) = constants_later s.context r in
    let same : next (with_thesis (with_constants s.context r) a) ≡ next (with_constants s.context r) = same_next (with_constants s.context r) a in
    omega (arith, le, same)

from_held : (ax held : List Formula) (c : Context) → Each ax (facts c ++ held) held
from_held ax held c = each_right ax (facts c ++ held) (facts c) held (each_itself ax (facts c ++ held))

pub each_reaches : (W : Context → Type 0) (b : Basis) → ReadsWell b.env W → (held : List Formula) → IsGrounded b held → (first : Place) (n : ℕ) (s : State) → n ≤ next s.context → IsProper W b held s.context → (rs : List ReadStep) → AllReady b.axioms held n rs → AllOwed b.axioms held rs → (o : Result State ProofRefusal) → OneByOne (PerformsAlone b.env first) s rs o → WhereOk o (Reaches W b held s held)
each_reaches W b reads held g first n s le p rs ready owes o (walked.none_left x) = reaches_itself W b held x p
each_reaches W b reads held g first n s le p rs ready owes o (walked.one_refused x r qs f h) = tt
each_reaches W b reads held g first n s le p rs ready owes o (walked.one_taken x t r qs q h more) =
    let from : Each b.axioms (facts x.context ++ held) held = from_held b.axioms held x.context in
    let one : Reaches W b held x held t = alone_reaches W b reads held g first x p r (ready.0.stands (next x.context) le) (ready.0.typed (facts x.context ++ held) from) (owes.0 x.context (facts x.context ++ held) from) (Ok t) h in
    let up : next x.context ≤ next t.context = performs_later b.env first x r [] (Ok t) h in
    let rest : WhereOk q (Reaches W b held t held) = each_reaches W b reads held g first n t (omega (arith, le, up)) one.proper qs ready.1 owes.1 q more in
    ok_mapped (Reaches W b held t held) (Reaches W b held x held) q (λ u y. reaches_further W b held x held t held u one y) rest

each_later : (e : Environment) (first : Place) (s : State) (rs : List ReadStep) (o : Result State ProofRefusal) → OneByOne (PerformsAlone e first) s rs o → WhereOk o (λ t. next s.context ≤ next t.context)
each_later e first s rs o (walked.none_left x) = omega arith
each_later e first s rs o (walked.one_refused x r qs f h) = tt
each_later e first s rs o (walked.one_taken x t r qs q h more) =
    let up : next x.context ≤ next t.context = performs_later e first x r [] (Ok t) h in
    ok_mapped (λ u. next t.context ≤ next u.context) (λ u. next x.context ≤ next u.context) q (λ u le. omega (arith, up, le)) (each_later e first t qs q more)

-- the formulas that the context itself says need not be held
less_proper : (W : Context → Type 0) (b : Basis) (held : List Formula) (s : State) → IsProper W b held s.context → (u : State) → next s.context ≤ next u.context → IsProper W b (facts s.context ++ held) u.context → IsProper W b held u.context
less_proper W b held s p u le y =
    held_proper W b (facts s.context ++ held) held u.context y (force_more (next s.context) (next u.context) held le p.order.held_in_force)

without_facts : (W : Context → Type 0) (b : Basis) (held : List Formula) (s : State) → IsProper W b held s.context → (u : State) → next s.context ≤ next u.context → Reaches W b (facts s.context ++ held) s (facts s.context ++ held) u → Reaches W b held s held u
without_facts W b held s p u le y =
    let more : List Formula = facts s.context ++ held in
    let g : List Formula = facts u.context ++ more in
    let itself : Each b.axioms g g = each_itself b.axioms g in
    let fewer : Each b.axioms g (facts u.context ++ held) =
    each_append b.axioms g (facts u.context) held (each_left b.axioms g (facts u.context) more itself) (each_right b.axioms g (facts s.context) held (each_right b.axioms g (facts u.context) more itself)) in
    record {
      proper = less_proper W b held s p u le y.proper;
      passes = held_passes_law b.axioms held s.context held u.context s.block u.block more (each_itself b.axioms more)
          (passes_otherwise b.axioms more s.context more u.context held u.context s.block u.block refl refl fewer y.passes);
    }

-- the same where what derives from the context may be asked
more_held : (W : Context → Type 0) (b : Basis) (held : List Formula) (s : State) → IsProper W b held s.context → IsProper W b (facts s.context ++ held) s.context
more_held W b held s p = held_proper W b held (facts s.context ++ held) s.context p (facts_in_force held s.context p.order)

pub known_each_reaches : (W : Context → Type 0) (b : Basis) → ReadsWell b.env W → (held : List Formula) → IsGrounded b held → (first : Place) (s : State) → IsProper W b held s.context → (rs : List ReadStep) → AllReady b.axioms (facts s.context ++ held) (next s.context) rs → AllOwed b.axioms (facts s.context ++ held) rs → (o : Result State ProofRefusal) → OneByOne (PerformsAlone b.env first) s rs o → WhereOk o (Reaches W b held s held)
known_each_reaches W b reads held g first s p rs ready owes o h =
    let more : List Formula = facts s.context ++ held in
    ok_both (λ u. next s.context ≤ next u.context) (Reaches W b more s more) (Reaches W b held s held) o (λ u le y. without_facts W b held s p u le y)
    (each_later b.env first s rs o h)
    (each_reaches W b reads more (more_grounded b held more (from_held b.axioms held s.context) g) first (next s.context) s (omega arith) (more_held W b held s p) rs ready owes o h)

-- what comes of a part of a walk: where one may reason before it, and its obligations are met, one has passed soundly over it
abbrev pub Walks : (W : Context → Type 0) (b : Basis) → List Formula → State → List Obligation → State → Type 0
Walks W b held s os t = IsProper W b held s.context → AreMet b.axioms b.clauses os → Reaches W b held s held t
