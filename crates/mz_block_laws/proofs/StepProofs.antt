-- One passes soundly over a step.
use Rattle.std.proofs.Common.{◌≡◌, ◌≤◌, ◌+◌, suc, length, arith, true, false, List, [], ◌∷◌, ◌++◌, map, refl, sym, ◌∙◌, subst, Bool, if◌then◌else◌, Option, Some, None}
use Rattle.mz_logic.specs.Formula.{Formula}
use Rattle.mz_logic.specs.Derives.{Derives}
use Rattle.mz_logic.proofs.Each.{Each, cut_each, each_itself, each_append, each_left}
use Rattle.mz_core.specs.Statement.{Statement}
use Rattle.mz_core.specs.Erasure.{erase}
use Rattle.mz_context.specs.Context.{next}
use Rattle.mz_context.specs.declared.constants.Constant.{Constant}
use Rattle.mz_context.specs.declared.context.Context.{Context}
use Rattle.mz_context.specs.declared.labelled.LabelledStatement.{LabelledStatement}
use Rattle.mz_context.specs.Changes.{with_constant}
use Rattle.mz_ground.specs.declared.clause.Clause.{Clause}
use Rattle.mz_environment.specs.declared.unfoldings.Unfolding.{Unfolding}
use Rattle.mz_names.specs.Closing.{constant_of, with_variables}
use Rattle.mz_names.specs.declared.variable.Variable.{Variable}
use Rattle.mz_now.specs.Stated.{stated_by}
use Rattle.mz_now.specs.declared.now_part.NowPart.{NowPart}
use Rattle.mz_thesis.specs.declared.step.Step.{Step}
use Rattle.mz_thesis_laws.proofs.UnfoldProofs.{some-inj, none_some}
use Rattle.mz_steps.specs.Rows.{thesis_step, with_constants, constant_for, owed, parts_said}
use Rattle.mz_steps.specs.Effects.{Led, ActsBy, may_be_said}
use Rattle.mz_steps.specs.Changes.{block_after, with_thesis, context_after}
use Rattle.mz_steps.specs.declared.block.Block.TheVariants.{Proof, Now}
use Rattle.mz_steps.specs.declared.block.Effect.{Effect}
use Rattle.mz_steps.specs.declared.block.Effect.TheVariants as effect
use Rattle.mz_steps.specs.declared.read_step.ReadStep.{ReadStep}
use Rattle.mz_steps.specs.declared.read_step.ReadStep.TheVariants.{Let, Assume, Given, Thus, Take, Consider, Reconsider, Set, State}
use Rattle.mz_steps_laws.specs.Facts.{facts, Rests}
use Rattle.mz_steps_laws.specs.StepLaws.{IsReadIn, gained, OwedDerives, thesis_left}
use Rattle.mz_steps_laws.specs.NowLaws.{StatesInForce}
use Rattle.mz_steps_laws.proofs.FactLemmas.{next_with}
use Rattle.mz_steps_laws.proofs.StandsProofs.{thesis_stands_law}
use Rattle.mz_steps_laws.proofs.StatedProofs.{stated_law}
use Rattle.mz_steps_laws.proofs.ProofSteps.{step_in_proof_law}
use Rattle.mz_steps_laws.proofs.NowProofs.{step_in_now_law}
use Rattle.mz_steps_laws.proofs.HiddenProofs.{step_said_law}
use Rattle.mz_block_laws.specs.Orders.{Stands, StepStands, HasItsType, AreFounded, IsInOrder}
use Rattle.mz_block_laws.specs.Passing.{Leaves, Keeps, Proceeds, Says, Passes}
use Rattle.mz_block_laws.specs.BlockLaws.{known_behind, AreStated, AllDerive, StepPassesLaw}
use Rattle.mz_block_laws.proofs.OrderLemmas.{facts_in_force, rests_in, read_in, next_with_variables}
use Rattle.mz_block_laws.proofs.NowProofs.{may_state_behind, states_in_force, states_closed}

-- the thesis is no part of what a context says
pub same_facts : (c : Context) (e : Effect) → facts (with_thesis c e) ≡ facts c
same_facts c effect.Unchanged = refl
same_facts c (effect.Leaves s) = refl
same_facts c (effect.Says ps) = refl

pub same_next : (c : Context) (e : Effect) → next (with_thesis c e) ≡ next c
same_next c effect.Unchanged = refl
same_next c (effect.Leaves s) = refl
same_next c (effect.Says ps) = refl

-- what derives behind a step derives from what is known with its constants and what it gained
behind_step : (ax held : List Formula) (c : Context) (s : ReadStep) (e : Effect) (ps : List LabelledStatement) → AreStated ax (known_behind held c s) ps → (kept : List Formula) → AllDerive ax (known_behind held c s) kept → (f : Formula) → Derives ax (facts (context_after c s e ps) ++ kept) f → Derives ax (known_behind held c s) f
behind_step ax held c s e ps stated kept all f d =
    let k : Context = with_constants c s in
    let more : List Formula = map erase (gained s) ++ held in
    let g : List Formula = facts k ++ more in
    let itself : Each ax g g = each_itself ax g in
    let from_facts : Each ax g (facts (with_thesis k e)) = subst (Each ax g) (sym (same_facts k e)) (each_left ax g (facts k) more itself) in
    cut_each ax g (facts (context_after c s e ps) ++ kept) f (each_append ax g (facts (context_after c s e ps)) kept (stated_law ax g (with_thesis k e) ps from_facts stated) all) d

-- in a proof
thesis_behind : (c : Context) (s : ReadStep) (e : Effect) (ps : List LabelledStatement) (th : Statement) (step_constants : (with_constants c s).thesis ≡ c.thesis) → c.thesis ≡ Some th → (context_after c s e ps).thesis ≡ Some (thesis_left th e)
thesis_behind c s effect.Unchanged ps th same is = same ∙ is
thesis_behind c s (effect.Leaves t) ps th same is = refl
thesis_behind c s (effect.Says qs) ps th same is = same ∙ is

variables_thesis : (c : Context) (vs : List Variable) → (with_variables c vs).thesis ≡ c.thesis
variables_thesis c [] = refl
variables_thesis c (v ∷ vs) = variables_thesis (with_constant c (constant_of v)) vs

constants_thesis : (c : Context) (s : ReadStep) → (with_constants c s).thesis ≡ c.thesis
constants_thesis c (Let v) = refl
constants_thesis c (Assume s) = refl
constants_thesis c (Given vs s) = variables_thesis c vs
constants_thesis c (Thus s) = refl
constants_thesis c (Take t) = refl
constants_thesis c (Consider vs s) = variables_thesis c vs
constants_thesis c (Reconsider d) = refl
constants_thesis c (Set d) = refl
constants_thesis c (State s) = refl

leaves_thesis : (ax held : List Formula) (cs : List Clause) (us : List Unfolding) → AreFounded ax held cs us → (c : Context) → IsInOrder held c → (s : ReadStep) → StepStands (next c) s → HasItsType ax (facts c ++ held) s → (e : Effect) → ActsBy cs us c (thesis_step c s) (Some e) → OwedDerives ax (facts c ++ held) (owed c s) → (ps : List LabelledStatement) → AreStated ax (known_behind held c s) ps → (kept : List Formula) → AllDerive ax (known_behind held c s) kept → (th : Statement) → c.thesis ≡ Some th → Stands (next c) th → Leaves ax held c kept (context_after c s e ps) th
leaves_thesis ax held cs us founded c order s w t e acts owes ps stated kept all th is stands =
    let rests : Rests ax held cs us c = rests_in ax held cs us founded c order in
    let read : IsReadIn ax (facts c ++ held) c s = read_in ax (facts c ++ held) c s w t in
    record {
      left = thesis_left th e;
      is_left = thesis_behind c s e ps th (constants_thesis c s) is;
      stands = subst (λ n. Stands n (thesis_left th e)) (sym (same_next (with_constants c s) e)) (thesis_stands_law ax held cs us c rests th is stands.0 stands.1 s read e acts);
      sound = λ d. step_in_proof_law ax held cs us c rests th is stands.0 stands.1 s read e acts owes (behind_step ax held c s e ps stated kept all (erase (thesis_left th e)) d);
    }

-- where there is no thesis a step leaves none
pub no_step_of : (cs : List Clause) (us : List Unfolding) (c : Context) (step : Option Step) (e : Effect) → c.thesis ≡ None → ActsBy cs us c step (Some e) → (step ≡ None) × (e ≡ effect.Unchanged)
no_step_of cs us c None e is acts = (refl, some-inj e effect.Unchanged acts)
no_step_of cs us c (Some step) e is acts = absurd (none_some e (sym (subst (λ o. Led cs us c o step (Some e)) is acts)))

-- the same context with another thesis
abbrev posed : Context → Statement → Context
posed c th = record c { thesis = Some th }

rests_posed : (ax held : List Formula) (cs : List Clause) (us : List Unfolding) (c : Context) (th : Statement) → Rests ax held cs us c → Rests ax held cs us (posed c th)
rests_posed ax held cs us c th r = record { clauses = r.clauses; unfoldings = r.unfoldings; in_force = r.in_force }

-- a step that is none of the thesis, in that context
same_owed : (c : Context) (th : Statement) (s : ReadStep) → owed (posed c th) s ≡ owed c s
same_owed c th (Let v) = refl
same_owed c th (Assume s) = refl
same_owed c th (Given vs s) = refl
same_owed c th (Thus s) = refl
same_owed c th (Take t) = refl
same_owed c th (Consider vs s) = refl
same_owed c th (Reconsider d) = refl
same_owed c th (Set d) = refl
same_owed c th (State s) = refl

posed_variables : (c : Context) (th : Statement) (vs : List Variable) → facts (with_variables (posed c th) vs) ≡ facts (with_variables c vs)
posed_variables c th [] = refl
posed_variables c th (v ∷ vs) = posed_variables (with_constant c (constant_of v)) th vs

same_constants : (c : Context) (th : Statement) (s : ReadStep) → facts (with_constants (posed c th) s) ≡ facts (with_constants c s)
same_constants c th (Let v) = refl
same_constants c th (Assume s) = refl
same_constants c th (Given vs s) = posed_variables c th vs
same_constants c th (Thus s) = refl
same_constants c th (Take t) = refl
same_constants c th (Consider vs s) = posed_variables c th vs
same_constants c th (Reconsider d) = refl
same_constants c th (Set d) = refl
same_constants c th (State s) = refl

same_step : (c : Context) (th : Statement) (s : ReadStep) → thesis_step (posed c th) s ≡ thesis_step c s
same_step c th (Let v) = refl
same_step c th (Assume s) = refl
same_step c th (Given vs s) = refl
same_step c th (Thus s) = refl
same_step c th (Take t) = refl
same_step c th (Consider vs s) = refl
same_step c th (Reconsider d) = refl
same_step c th (Set d) = refl
same_step c th (State s) = refl

posed_acts : (cs : List Clause) (us : List Unfolding) (c : Context) (th : Statement) (step : Option Step) (s : ReadStep) → thesis_step c s ≡ step → step ≡ None → ActsBy cs us (posed c th) (thesis_step (posed c th) s) (Some effect.Unchanged)
posed_acts cs us c th step s is none = subst (λ o. ActsBy cs us (posed c th) o (Some effect.Unchanged)) (sym (same_step c th s ∙ is ∙ none)) refl

variables_later : (c : Context) (vs : List Variable) → next c ≤ next (with_variables c vs)
variables_later c vs = let e : next (with_variables c vs) ≡ length vs + next c = next_with_variables c vs in omega (arith, e)

constant_later : (c : Context) (k : Constant) → next c ≤ next (with_constant c k)
constant_later c k = let e : next (with_constant c k) ≡ suc (next c) = next_with c k in omega (arith, e)

pub constants_later : (c : Context) (s : ReadStep) → next c ≤ next (with_constants c s)
constants_later c (Let v) = constant_later c (constant_of v)
constants_later c (Assume s) = omega arith
constants_later c (Given vs s) = variables_later c vs
constants_later c (Thus s) = omega arith
constants_later c (Take t) = omega arith
constants_later c (Consider vs s) = variables_later c vs
constants_later c (Reconsider d) = constant_later c (constant_for d)
constants_later c (Set d) = constant_later c (constant_for d)
constants_later c (State s) = omega arith

keeps_all : (ax held : List Formula) (cs : List Clause) (us : List Unfolding) → AreFounded ax held cs us → (c : Context) → IsInOrder held c → (s : ReadStep) → StepStands (next c) s → HasItsType ax (facts c ++ held) s → (e : Effect) → ActsBy cs us c (thesis_step c s) (Some e) → OwedDerives ax (facts c ++ held) (owed c s) → (ps : List LabelledStatement) → AreStated ax (known_behind held c s) ps → (kept : List Formula) → AllDerive ax (known_behind held c s) kept → c.thesis ≡ None → Keeps ax held c kept (context_after c s e ps)
keeps_all ax held cs us founded c order s w t e acts owes ps stated kept all none =
    let is : (thesis_step c s ≡ None) × (e ≡ effect.Unchanged) = no_step_of cs us c (thesis_step c s) e none acts in
    let rests : Rests ax held cs us c = rests_in ax held cs us founded c order in
    let read : (th : Statement) → IsReadIn ax (facts c ++ held) (posed c th) s = λ th. read_in ax (facts c ++ held) (posed c th) s w t in
    let le : next c ≤ next (with_constants c s) = constants_later c s in
    let e_next : next (with_thesis (with_constants c s) e) ≡ next (with_constants c s) = same_next (with_constants c s) e in
    record {
      no_thesis = subst (λ x. (context_after c s x ps).thesis ≡ None) (sym is.1) (constants_thesis c s ∙ none);
      later = omega (arith, le, e_next);
      sound = λ th stands d. step_in_proof_law ax held cs us (posed c th) (rests_posed ax held cs us c th rests) th refl stands.0 stands.1 s (read th) effect.Unchanged
          (posed_acts cs us c th (thesis_step c s) s refl is.0) (subst (OwedDerives ax (facts c ++ held)) (sym (same_owed c th s)) owes)
          (subst (λ fs. Derives ax (fs ++ (map erase (gained s) ++ held)) (erase th)) (sym (same_constants c th s)) (behind_step ax held c s e ps stated kept all (erase th) d));
    }

in_proof : (ax held : List Formula) (cs : List Clause) (us : List Unfolding) → AreFounded ax held cs us → (c : Context) → IsInOrder held c → (s : ReadStep) → StepStands (next c) s → HasItsType ax (facts c ++ held) s → (e : Effect) → ActsBy cs us c (thesis_step c s) (Some e) → OwedDerives ax (facts c ++ held) (owed c s) → (ps : List LabelledStatement) → AreStated ax (known_behind held c s) ps → (kept : List Formula) → AllDerive ax (known_behind held c s) kept → Proceeds ax held c kept (context_after c s e ps)
in_proof ax held cs us founded c order s w t e acts owes ps stated kept all = record {
  of_thesis = λ th is stands. leaves_thesis ax held cs us founded c order s w t e acts owes ps stated kept all th is stands;
  of_none = λ none. keeps_all ax held cs us founded c order s w t e acts owes ps stated kept all none;
}

-- in a `now`
pub when_said : (b : Bool) (qs : List NowPart) (e : Effect) → Some e ≡ (if b then Some (effect.Says qs) else None) → (b ≡ true) × (e ≡ effect.Says qs)
when_said true qs e is = (refl, some-inj e (effect.Says qs) is)
when_said false qs e is = absurd (none_some e (sym is))

in_now : (ax held : List Formula) (cs : List Clause) (us : List Unfolding) → AreFounded ax held cs us → (c : Context) → IsInOrder held c → (ps : List NowPart) (s : ReadStep) → StepStands (next c) s → HasItsType ax (facts c ++ held) s → (e : Effect) → may_be_said ps c s ≡ true → OwedDerives ax (facts c ++ held) (owed c s) → (qs : List LabelledStatement) → AreStated ax (known_behind held c s) qs → (kept : List Formula) → AllDerive ax (known_behind held c s) kept → Says ax held c kept (context_after c s e qs) ps (parts_said ps c s)
in_now ax held cs us founded c order ps s w t e may owes qs stated kept all =
    let read : IsReadIn ax (facts c ++ held) c s = read_in ax (facts c ++ held) c s w t in
    let down : (behind : List NowPart) → StatesInForce (next (context_after c s e qs)) behind → StatesInForce (next (with_constants c s)) behind =
    λ behind h. subst (λ n. StatesInForce n behind) (same_next (with_constants c s) e) h in
    record {
      may_be_said = step_said_law ps c s may;
      in_force = λ behind said h. states_in_force ps c s w behind (may_state_behind ps c s behind said (down behind h));
      is_closed = λ behind h. states_closed ps c s w behind h;
      sound = λ behind said h d.
          step_in_now_law ax held c (facts_in_force held c order) s read owes ps behind (may_state_behind ps c s behind said (down behind h)) (behind_step ax held c s e qs stated kept all (erase (stated_by behind)) d);
    }

pub step_passes_law : StepPassesLaw
step_passes_law ax held cs us founded Proof c order s w t e acts owes ps stated kept all = in_proof ax held cs us founded c order s w t e acts owes ps stated kept all
step_passes_law ax held cs us founded (Now ps) c order s w t e acts owes qs stated kept all =
    let said : (may_be_said ps c s ≡ true) × (e ≡ effect.Says (parts_said ps c s)) = when_said (may_be_said ps c s) (parts_said ps c s) e acts in
    subst (λ x. Passes ax held c (Now ps) kept (context_after c s x qs) (block_after (Now ps) x)) (sym said.1)
    (parts_said ps c s, refl, in_now ax held cs us founded c order ps s w t (effect.Says (parts_said ps c s)) said.0 owes qs stated kept all)
