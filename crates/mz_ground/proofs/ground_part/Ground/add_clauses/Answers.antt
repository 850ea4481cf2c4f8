use Rattle.std.proofs.Common.{refl}
use Rattle.mz_ground.proofs.InstanceLemmas.{clauses_more, clauses_all}
use Rattle.mz_ground.proofs.ground_part.Ground.add_clauses.Goals as goal

pub loop-c-preserved : goal.loop-c-preserved
loop-c-preserved c = clauses_more _ _ _ _ _ _ c.args.places.now c.requires.numbered c.requires.end c.loop-c-test.true c.c-item.is c.loop-c.invariant c.in_ok-add_clause.ensures

pub returns : goal.returns
returns c = clauses_all _ _ _ _ _ _ refl c.loop-c-test.false c.loop-c.invariant
