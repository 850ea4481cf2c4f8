use Rattle.std.proofs.Common.{◌<◌, ◌+◌, length, sym, ap, ◌∙◌, refl, rules}
use Rattle.std.specs.Prelude.{Ok}
use Rattle.mz_performing.specs.declared.begun.Begun.{Begun}
use Rattle.mz_tree_proof.specs.Reasoning.{step_size, suppose_size, step_sizes, suppose_sizes}
use Rattle.mz_tree_proof.specs.Views.{just_view, statement_view, step_view}
use Rattle.mz_proof.proofs.SizeLemmas.{step_smaller, first_smaller}
use Rattle.mz_proof.proofs.JustifyLemmas as justifying
use Rattle.mz_proof.proofs.SayLemmas as saying
use Rattle.mz_proof.proofs.StepLemmas as stepping
use Rattle.mz_proof.proofs.SplitLemmas as splitting
use Rattle.mz_proof.proofs.walk.+walk.Goals as goal

-- justifications
pub justify-returns-in-Simple-clause-justifies : goal.justify-returns-in-Simple-clause-justifies
justify-returns-in-Simple-clause-justifies t c = justifying.told_simply _ _ _ _ _ _ _ _ _ _ _ _ _ _ (sym c.tree.view_is ∙ ap just_view c.in-Simple.is) c.justify_simply.ensures

pub justify-returns-in-Ok-clause-justifies : goal.justify-returns-in-Ok-clause-justifies
justify-returns-in-Ok-clause-justifies t c = justifying.told_by_proof _ _ _ _ _ _ _ _ _ _ _ _ _ _ _ _ _ _ (sym c.tree.view_is ∙ ap just_view c.in-Proof.is) c.in_ok-aside-in-Proof.ensures.context c.prove.ensures.proves c.in-Ok.is

pub justify-returns-in-Ok-clause-same : goal.justify-returns-in-Ok-clause-same
justify-returns-in-Ok-clause-same t c = justifying.told_back _ _ _ _ c.args.x.now _ _ _ c.in_ok-aside-in-Proof.ensures.context (c.into_inner.ensures ∙ c.in_ok-outside-in-Proof.ensures.ok ∙ c.in_ok-aside-in-Proof.ensures.outside) c.prove.ensures.grows c.in-Ok.is c.leave.ensures

pub justify-returns-in-Err-clause-justifies : goal.justify-returns-in-Err-clause-justifies
justify-returns-in-Err-clause-justifies t c = justifying.told_not_proved _ _ _ _ _ _ _ _ _ _ _ _ _ _ _ _ _ _ _ _ _ _ (sym c.tree.view_is ∙ ap just_view c.in-Proof.is) c.in_ok-aside-in-Proof.ensures.context c.prove.ensures.proves c.in-Err.is

-- proofs
pub prove-returns-in-Err-clause-proves : goal.prove-returns-in-Err-clause-proves
prove-returns-in-Err-clause-proves t c = justifying.told_stopped _ _ _ _ _ _ _ _ _ _ _ _ _ _ _ _ _ _ refl c.go_all.ensures c.in-Err.is

pub prove-returns-then-is_proved-clause-proves : goal.prove-returns-then-is_proved-clause-proves
prove-returns-then-is_proved-clause-proves t c = justifying.told_proved _ _ _ _ _ _ _ _ _ _ _ _ _ _ _ refl c.go_all.ensures c.in-Ok.is c.is_proved.ensures c.if-is_proved.true

pub prove-returns-then-is_proved-clause-grows : goal.prove-returns-then-is_proved-clause-grows
prove-returns-then-is_proved-clause-grows t c = justifying.told_grown _ _ _ _ _ _ _ _ _ _ _ _ _ c.go_all.ensures c.in-Ok.is

pub prove-returns-clause-proves : goal.prove-returns-clause-proves
prove-returns-clause-proves t c = justifying.told_left _ _ _ _ _ _ _ _ _ _ _ _ _ _ _ refl c.go_all.ensures c.in-Ok.is c.is_proved.ensures c.if-is_proved.false

-- compact statements
pub say-returns-in-Err : goal.say-returns-in-Err
say-returns-in-Err t c = saying.told_unbegun _ _ _ _ _ _ _ _ _ _ _ _ _ _ _ _ _ _ _ _ _ c.stated_parts.ensures (c.as_slice-ks.ensures.value ∙ c.sides.view_is) c.begin.ensures.begins c.in-Err.is

pub say-returns-in-Err-justify : goal.say-returns-in-Err-justify
say-returns-in-Err-justify t c = saying.told_unjustified _ _ _ _ _ _ _ _ _ _ _ _ _ _ _ _ _ _ _ _ _ _ _ _ _ _ _ _ _ _ c.stated_parts.ensures (c.as_slice-ks.ensures.value ∙ c.sides.view_is) c.begin.ensures.begins c.in-Ok.is c.begin.ensures.same c.place_behind-behind.ensures refl (ap (λ (b : Begun). b.compact.sentence) (c.deref.ensures ∙ c.in_ok-x.ensures.ok)) c.justify.ensures.justifies c.in-Err-justify.is

pub say-justify_sides-requires : goal.say-justify_sides-requires
say-justify_sides-requires t c = ap length (c.further_of-ss.ensures ∙ ap (λ (b : Begun). b.compact.said.further) (c.deref-2.ensures ∙ c.in_ok-x.ensures.ok)) ∙ saying.length-told_as_many _ _ _ _ _ _ _ _ _ _ _ _ _ _ c.begin.ensures.begins c.in-Ok.is

pub say-returns-in-Err-justify_sides : goal.say-returns-in-Err-justify_sides
say-returns-in-Err-justify_sides t c = saying.told_side_unjustified _ _ _ _ _ _ _ _ _ _ _ _ _ _ _ _ _ _ _ _ _ _ _ _ _ _ _ _ _ _ _ _ _ _ _ _ c.stated_parts.ensures (c.as_slice-ks.ensures.value ∙ c.sides.view_is) c.begin.ensures.begins c.in-Ok.is c.begin.ensures.same c.place_behind-behind.ensures refl (ap (λ (b : Begun). b.compact.sentence) (c.deref.ensures ∙ c.in_ok-x.ensures.ok)) c.justify.ensures.justifies c.in-Ok-justify.is c.justify.ensures.same (c.further_of-ss.ensures ∙ ap (λ (b : Begun). b.compact.said.further) (c.deref-2.ensures ∙ c.in_ok-x.ensures.ok)) c.justify_sides.ensures c.in-Err-justify_sides.is

pub say-returns : goal.say-returns
say-returns t c = saying.told_said _ _ _ _ _ _ _ _ _ _ _ _ _ _ _ _ _ _ _ _ _ _ _ _ _ _ _ _ _ _ _ _ _ _ _ c.stated_parts.ensures (c.as_slice-ks.ensures.value ∙ c.sides.view_is) c.begin.ensures.begins c.in-Ok.is c.begin.ensures.same c.place_behind-behind.ensures refl (ap (λ (b : Begun). b.compact.sentence) (c.deref.ensures ∙ c.in_ok-x.ensures.ok)) c.justify.ensures.justifies c.in-Ok-justify.is c.justify.ensures.same (c.further_of-ss.ensures ∙ ap (λ (b : Begun). b.compact.said.further) (c.deref-2.ensures ∙ c.in_ok-x.ensures.ok)) c.justify_sides.ensures c.in-Ok-justify_sides.is (c.into_inner.ensures ∙ c.in_ok-x.ensures.ok) c.in_ok-finish.ensures.context c.in_ok-finish.ensures.block

-- `now`
pub say_now-returns-in-Err : goal.say_now-returns-in-Err
say_now-returns-in-Err t c = saying.told_now_stopped _ _ _ _ _ _ _ _ _ _ _ _ _ _ _ _ _ _ _ _ _ _ _ c.in_ok-aside.ensures.context c.new-parts.ensures refl c.go_all.ensures c.in-Err.is

pub say_now-returns : goal.say_now-returns
say_now-returns t c = saying.told_now _ _ _ _ _ _ _ _ _ _ _ _ _ _ _ _ _ _ _ _ _ _ _ _ c.in_ok-aside.ensures.context (c.into_inner.ensures ∙ c.in_ok-outside.ensures.ok ∙ c.in_ok-aside.ensures.outside) c.new-parts.ensures refl c.go_all.ensures c.in-Ok.is c.leave.ensures c.state_now.ensures

-- statements
pub state-returns-in-Compact : goal.state-returns-in-Compact
state-returns-in-Compact t c = stepping.told_says _ _ _ _ _ _ _ _ _ _ _ _ _ (sym c.tree.view_is ∙ ap statement_view c.in-Compact.is) c.deref.ensures c.is_some.ensures c.say.ensures

pub state-returns-in-Now : goal.state-returns-in-Now
state-returns-in-Now t c = stepping.told_says_now _ _ _ _ _ _ _ _ _ _ _ _ _ _ (sym c.tree.view_is ∙ ap statement_view c.in-Now.is) c.say_now.ensures

pub state-returns-in-Introduction : goal.state-returns-in-Introduction
state-returns-in-Introduction t c = stepping.told_introduces _ _ _ _ _ _ _ _ _ _ (sym c.tree.view_is ∙ ap statement_view c.in-Introduction.is) c.introduce.ensures

-- steps
pub go-returns-in-Statement : goal.go-returns-in-Statement
go-returns-in-Statement t c = stepping.told_states _ _ _ _ _ _ _ _ _ _ _ (sym c.tree.view_is ∙ ap step_view c.in-Statement.is) c.deref.ensures c.state.ensures

pub go-returns-in-Thus : goal.go-returns-in-Thus
go-returns-in-Thus t c = stepping.told_thus _ _ _ _ _ _ _ _ _ _ _ _ (sym c.tree.view_is ∙ ap step_view c.in-Thus.is) c.deref-in-Thus.ensures c.say.ensures

pub go-returns-in-Hence : goal.go-returns-in-Hence
go-returns-in-Hence t c = stepping.told_hence _ _ _ _ _ _ _ _ _ _ _ _ (sym c.tree.view_is ∙ ap step_view c.in-Hence.is) c.deref-in-Hence.ensures c.say-in-Hence.ensures

pub go-returns-in-Hereby : goal.go-returns-in-Hereby
go-returns-in-Hereby t c = stepping.told_hereby _ _ _ _ _ _ _ _ _ _ _ _ _ _ (sym c.tree.view_is ∙ ap step_view c.in-Hereby.is) refl c.say_now.ensures

pub go-returns-in-Skeleton : goal.go-returns-in-Skeleton
go-returns-in-Skeleton t c = stepping.told_steps_on _ _ _ _ _ _ _ _ _ (sym c.tree.view_is ∙ ap step_view c.in-Skeleton.is) c.step_on.ensures

pub go-returns-then-is_now : goal.go-returns-then-is_now
go-returns-then-is_now t c = stepping.told_split_in_now _ _ _ _ _ _ _ _ _ (sym c.tree.view_is ∙ ap step_view c.in-Cases.is) c.is_now.ensures c.if-is_now.true

pub go-returns-else-is_now : goal.go-returns-else-is_now
go-returns-else-is_now t c = stepping.told_splits _ _ _ _ _ _ _ _ _ _ _ _ _ _ (sym c.tree.view_is ∙ ap step_view c.in-Cases.is) c.is_now.ensures c.if-is_now.false c.deref-in-Cases.ensures c.split.ensures

-- splits into cases
pub split-returns-in-Err : goal.split-returns-in-Err
split-returns-in-Err t c = splitting.told_foreseen _ _ _ _ _ _ _ _ _ _ _ _ _ _ _ c.is_some-linked.ensures c.foresee.ensures.foresees c.in-Err.is

pub split-returns-in-Err-ground : goal.split-returns-in-Err-ground
split-returns-in-Err-ground t c = splitting.told_not_grounded _ _ _ _ _ _ _ _ _ _ _ _ _ _ _ _ _ _ _ _ c.is_some-linked.ensures refl c.foresee.ensures.foresees c.in-Ok.is c.foresee.ensures.same c.ground.ensures c.in-Err-ground.is

pub split-returns-in-Err-suppose_all : goal.split-returns-in-Err-suppose_all
split-returns-in-Err-suppose_all t c = splitting.told_stopped _ _ _ _ _ _ _ _ _ _ _ _ _ _ _ _ _ _ _ _ _ _ _ _ _ _ _ c.is_some-linked.ensures refl c.foresee.ensures.foresees c.in-Ok.is c.foresee.ensures.same c.ground.ensures c.in-Ok-ground.is c.suppose_all.ensures.supposes c.in-Err-suppose_all.is

pub split-returns : goal.split-returns
split-returns t c = splitting.told_split _ _ _ _ _ _ _ _ _ _ _ _ _ _ _ _ _ _ _ _ _ _ _ _ _ _ _ _ _ _ _ c.is_some-linked.ensures refl c.foresee.ensures.foresees c.in-Ok.is c.foresee.ensures.same c.ground.ensures c.in-Ok-ground.is c.new-asked.ensures c.new-supposed.ensures c.suppose_all.ensures.supposes c.in-Ok-suppose_all.is c.suppose_all.ensures.same refl refl refl c.end_split.ensures

-- cases
pub suppose_all-returns-in-Err-clause-supposes : goal.suppose_all-returns-in-Err-clause-supposes
suppose_all-returns-in-Err-clause-supposes t c = splitting.told_first_refused _ _ _ _ _ _ _ _ _ _ _ _ _ _ _ _ _ c.suppose.ensures.supposes c.in-Err.is

pub suppose_all-loop-t-init : goal.suppose_all-loop-t-init
suppose_all-loop-t-init t c = splitting.told_casing _ _ _ _ _ _ _ _ _ _ _ _ _ _ _ (c.deref-t-items.ensures.value ∙ c.more.view_is) c.suppose.ensures.supposes c.in-Ok.is c.suppose.ensures.same

pub suppose_all-loop-t-preserved : goal.suppose_all-loop-t-preserved
suppose_all-loop-t-preserved t c = splitting.told_turn _ _ _ _ _ _ _ _ _ _ _ _ _ _ _ _ _ _ _ _ c.loop-t-test.true c.t-item.is c.suppose-in-loop-t.ensures.supposes c.in-Ok-suppose.is c.suppose-in-loop-t.ensures.same c.loop-t.invariant

pub suppose_all-returns-in-Err-suppose-clause-supposes : goal.suppose_all-returns-in-Err-suppose-clause-supposes
suppose_all-returns-in-Err-suppose-clause-supposes t c = splitting.told_stop _ _ _ _ _ _ _ _ _ _ _ _ _ _ _ _ _ _ _ _ _ _ _ c.loop-t-test.true c.t-item.is c.suppose-in-loop-t.ensures.supposes c.in-Err-suppose.is c.loop-t.invariant

pub suppose_all-returns-clause-supposes : goal.suppose_all-returns-clause-supposes
suppose_all-returns-clause-supposes t c = splitting.told_end _ _ _ _ _ _ _ _ _ _ _ _ _ c.loop-t-test.false c.loop-t.invariant

pub suppose_all-returns-clause-same : goal.suppose_all-returns-clause-same
suppose_all-returns-clause-same t c = splitting.told_end_back _ _ _ _ _ _ _ _ _ _ _ _ c.loop-t.invariant

pub suppose_all-suppose-requires : goal.suppose_all-suppose-requires
suppose_all-suppose-requires t c =
    let smaller : suppose_size c.args.case.now < suppose_size c.args.case.now + suppose_sizes c.args.more.now = first_smaller _ _ in
    search rules

-- one case
pub suppose-returns-in-Err-clause-supposes : goal.suppose-returns-in-Err-clause-supposes
suppose-returns-in-Err-clause-supposes t c = splitting.told_unsupposed _ _ _ _ _ _ _ _ _ _ _ _ _ _ _ _ _ _ _ _ _ _ c.case_parts.ensures c.begin_case.ensures c.in-Err.is

pub suppose-returns-in-Err-prove-clause-supposes : goal.suppose-returns-in-Err-prove-clause-supposes
suppose-returns-in-Err-prove-clause-supposes t c = splitting.told_unproved _ _ _ _ _ _ _ _ _ _ _ _ _ _ _ _ _ _ _ _ _ _ _ _ _ _ _ c.case_parts.ensures c.begin_case.ensures c.in-Ok.is c.prove.ensures.proves c.in-Err-prove.is

pub suppose-returns-in-Ok-prove-clause-supposes : goal.suppose-returns-in-Ok-prove-clause-supposes
suppose-returns-in-Ok-prove-clause-supposes t c = splitting.told_case _ _ _ _ _ _ _ _ _ _ _ _ _ _ _ _ _ _ _ _ _ _ c.case_parts.ensures c.begin_case.ensures c.in-Ok.is c.prove.ensures.proves c.in-Ok-prove.is

pub suppose-returns-in-Ok-prove-clause-same : goal.suppose-returns-in-Ok-prove-clause-same
suppose-returns-in-Ok-prove-clause-same t c = splitting.told_case_back _ _ _ _ _ _ _ _ _ _ _ _ _ _ _ c.begin_case.ensures (c.in-Ok.is ∙ ap Ok (sym (c.into_inner.ensures ∙ c.in_ok-aside.ensures.ok))) c.prove.ensures.grows c.in-Ok-prove.is c.leave.ensures

-- steps one after another
pub go_all-loop-step-init : goal.go_all-loop-step-init
go_all-loop-step-init t c = stepping.told_begun _ _ _ _ _ _ (c.deref-step-items.ensures.value ∙ c.steps.view_is)

pub go_all-loop-step-preserved : goal.go_all-loop-step-preserved
go_all-loop-step-preserved t c = stepping.told_turn _ _ _ _ _ _ _ _ _ _ _ _ _ _ _ c.loop-step-test.true c.step-item.is c.first_place-first.ensures c.go.ensures c.in-Ok.is c.loop-step.invariant

pub go_all-returns-in-Err : goal.go_all-returns-in-Err
go_all-returns-in-Err t c = stepping.told_stop _ _ _ _ _ _ _ _ _ _ _ _ _ _ _ _ _ _ c.loop-step-test.true c.step-item.is c.first_place-first.ensures c.go.ensures c.in-Err.is c.loop-step.invariant

pub go_all-returns : goal.go_all-returns
go_all-returns t c = stepping.told_end _ _ _ _ _ _ _ _ _ c.loop-step-test.false c.loop-step.invariant

pub go_all-go-requires : goal.go_all-go-requires
go_all-go-requires t c =
    let smaller : step_size c.step-item.result < step_sizes c.args.steps.now = step_smaller _ _ _ _ (c.deref-step-items.ensures.value ∙ c.steps.view_is) c.loop-step-test.true c.step-item.is in
    search rules
