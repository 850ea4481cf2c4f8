use Rattle.std.proofs.Common.{◌∙◌, ap, subst, arith}
use Rattle.std.specs.List.{sum_by}
use Rattle.mz_turns.specs.Row.{Waiting, Blocked, claim_weight, wait_weight}
use Rattle.mz_turns.specs.Machine.{Blocks, IsBlockedBy, NoneIsBlocked, block, end}
use Rattle.mz_rows.proofs.ReadyLemmas.{none_blocked, sum-weight_put}
use Rattle.mz_rows.proofs.table.Table.settle_blocked.Goals as goal

pub loop-row-smaller : goal.loop-row-smaller
loop-row-smaller c =
    let p = c.in-Some.ensures in
    let w = sum-weight_put wait_weight c.loop-row.self.rows c.in-Some.row (Blocked c.in-Some.name) Waiting p.1 p.2.waits in
    let e = ap (sum_by wait_weight) c.block.ensures.rows in
    omega (arith, w, e)

pub loop-row-preserved : goal.loop-row-preserved
loop-row-preserved c =
    let i = c.loop-row.invariant in
    let p = c.in-Some.ensures in
    let can = subst (λ z. IsBlockedBy z.articles c.loop-row.self.rows c.in-Some.row c.in-Some.name) i.corpus p.2 in
    let w = sum-weight_put claim_weight c.loop-row.self.rows c.in-Some.row (Blocked c.in-Some.name) Waiting p.1 p.2.waits in
    record {
      corpus = c.block.ensures.corpus ∙ i.corpus;
      claims = omega (arith, w, ap (sum_by claim_weight) c.block.ensures.rows, i.claims);
      follows = λ after b. i.follows after (block c.in-Some.row c.in-Some.name c.loop-row.self.rows after can (subst (λ rows. Blocks c.args.self.now.corpus.articles rows after) c.block.ensures.rows b));
    }

pub returns-clause-rows : goal.returns-clause-rows
returns-clause-rows c =
    let i = c.loop-row.invariant in
    let none = subst (λ z. NoneIsBlocked z.articles c.loop-row.self.rows) i.corpus (none_blocked c.loop-row.self.corpus.articles c.loop-row.self.rows c.in_default.ensures) in
    i.follows c.loop-row.self.rows (end c.loop-row.self.rows none)
