use Rattle.mz_types.proofs.StructureLemmas.{told_this}
use Rattle.mz_types.proofs.structure_types.+first_gives.Goals as goal

pub returns-in-Some-2 : goal.returns-in-Some-2
returns-in-Some-2 t c =
    told_this c.args.clauses.now c.args.constants.now c.args.all.now c.args.s c.args.t.now c.args.members.now c.in-Some.others.now c.in-Some.r.now c.in-Some-2.x c.in_ok-member_gives-in-Some.field-0
    c.in-Some.ensures.cases.0 c.in_ok-member_gives-in-Some.ensures c.in-Some-2.is
