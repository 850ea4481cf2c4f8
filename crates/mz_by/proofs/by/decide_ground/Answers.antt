use Rattle.mz_ground.specs.FactSet.{DecidesContradiction}
use Rattle.mz_by.proofs.LimitLemmas.{gives_clash, gives_refuted, gives_work, gives_open, not_true}
use Rattle.mz_by.proofs.by.decide_ground.Goals as goal

pub returns-then-contradictory : goal.returns-then-contradictory
unfolding DecidesContradiction
returns-then-contradictory c = gives_clash _ _ c.args.g.now c.requires ((c.contradictory.ensures c.args.d.now c.args.clauses.now c.in_ok-facts.ensures.facts).0 c.if-contradictory.true)

pub returns-in-Refuted : goal.returns-in-Refuted
returns-in-Refuted c = gives_refuted _ _ c.args.g.now _ c.requires c.in-Refuted.is (c.in_ok-examine.ensures c.args.clauses.now c.in_ok-facts.ensures.facts)

pub returns-in-Over : goal.returns-in-Over
unfolding DecidesContradiction
returns-in-Over c = gives_work _ _ c.args.g.now _ _ _ c.requires (λ k. not_true _ c.if-contradictory.false ((c.contradictory.ensures c.args.d.now c.args.clauses.now c.in_ok-facts.ensures.facts).1 k)) c.in-Over.is (c.in_ok-examine.ensures c.args.clauses.now c.in_ok-facts.ensures.facts)

pub returns : goal.returns
unfolding DecidesContradiction
returns c = gives_open _ _ c.args.g.now _ _ c.requires (λ k. not_true _ c.if-contradictory.false ((c.contradictory.ensures c.args.d.now c.args.clauses.now c.in_ok-facts.ensures.facts).1 k)) c.in-Open.is (c.in_ok-examine.ensures c.args.clauses.now c.in_ok-facts.ensures.facts)
