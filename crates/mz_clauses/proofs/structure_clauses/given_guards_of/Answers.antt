use Rattle.std.proofs.Common.{◌≤◌, length, arith}
use Rattle.std.proofs.lemmas.Grind.{common_steps}
use Rattle.mz_clauses.specs.StructureClauses.{given_guards}
use Rattle.mz_clauses.proofs.StructureLemmas.{told_no_more}
use Rattle.mz_clauses.proofs.structure_clauses.given_guards_of.Goals as goal

pub returns-then-i-len : goal.returns-then-i-len
returns-then-i-len c =
    let past : length c.args.zs.now ≤ c.loop-i.i = grind (arith, common_steps) in
    told_no_more c.args.values.now c.args.fs.now c.args.zs.now c.loop-i.i c.loop-i.out (given_guards c.args.values.now c.args.fs.now c.args.zs.now) past c.loop-i.invariant
