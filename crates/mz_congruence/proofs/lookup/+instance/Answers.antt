use Rattle.std.proofs.Common.{arith, ap, sym, ◌∙◌, length, Some}
use Rattle.mz_logic.specs.TermView.{term_of}
use Rattle.mz_congruence.proofs.InstanceAtLemmas.{each_more, each_false, told_app}
use Rattle.mz_congruence.proofs.lookup.+instance.Goals as goal

pub are_instances_at-returns-then-not-is_instance_at : goal.are_instances_at-returns-then-not-is_instance_at
are_instances_at-returns-then-not-is_instance_at t c =
    each_false _ _ _ _ _ _ _ c.us.view_is (omega arith) (omega (arith, ap length c.us.view_is)) c.index.ensures (sym c.is_instance_at.ensures ∙ c.if-not-is_instance_at.true)

pub are_instances_at-loop-i-preserved : goal.are_instances_at-loop-i-preserved
are_instances_at-loop-i-preserved t c =
    each_more _ _ _ _ _ _ _ c.us.view_is (omega arith) (omega (arith, ap length c.us.view_is)) c.index.ensures (sym c.is_instance_at.ensures ∙ c.if-not-is_instance_at.false) c.loop-i.invariant

pub is_instance_at-returns-then-is : goal.is_instance_at-returns-then-is
is_instance_at-returns-then-is t c =
    told_app _ _ _ _ _ _ _ _ _ _ (sym c.t.view_is ∙ ap term_of c.in-App.is) (c.in-Some-entry_at.ensures ∙ ap Some c.in-App-entry.is) (sym c.is.ensures.same ∙ c.if-is.true) c.as_slice.ensures c.are_instances_at.ensures
