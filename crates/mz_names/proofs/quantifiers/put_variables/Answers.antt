use Rattle.mz_names.proofs.ClosingLemmas.{told_put}
use Rattle.mz_names.proofs.quantifiers.put_variables.Goals as goal

pub loop-v-preserved : goal.loop-v-preserved
loop-v-preserved c =
    told_put c.args.ctx.now c.loop-v.ctx c.put_variable.new.ctx c.args.vs.now c.loop-v.v-index c.v-item.result c.loop-v-test.true c.v-item.is c.loop-v.invariant c.in_ok-put_variable.ensures
