use Rattle.std.proofs.Common.{◌≤◌, ◌++◌, length, arith}
use Rattle.std.proofs.lemmas.Grind.{common_steps}
use Rattle.mz_clauses.specs.StructureClauses.{selection_equations}
use Rattle.mz_clauses.proofs.StructureLemmas.{told_no_more_selections}
use Rattle.mz_clauses.proofs.structure_clauses.push_selection_equations.Goals as goal

pub returns-then-i-len : goal.returns-then-i-len
returns-then-i-len c =
    let past : length c.args.zs.now ≤ c.loop-i.i = grind (arith, common_steps) in
    told_no_more_selections c.args.a.now c.args.fs.now c.args.zs.now c.loop-i.i c.loop-i.out (c.args.out.now ++ selection_equations c.args.a.now c.args.fs.now c.args.zs.now) past c.loop-i.invariant
