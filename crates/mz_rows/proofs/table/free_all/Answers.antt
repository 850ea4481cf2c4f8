use Rattle.std.proofs.Common.{◌∙◌, ap, sym, arith, ◌<◌, length}
use Rattle.mz_rows.proofs.StandingLemmas.{freed_next_claimed, freed_next_other, freed_length}
use Rattle.mz_rows.proofs.table.free_all.Goals.{then-is_claimed_at, else-is_claimed_at}
use Rattle.mz_rows.proofs.table.free_all.Goals as goal

pub loop-i-preserved : goal.loop-i-preserved
loop-i-preserved c =
    let first = c.args.standings.now.items in
    let before = c.loop-i.standings.items in
    let i = c.loop-i.i in
    let whole = ap length c.loop-i.invariant ∙ freed_length first i in
    let within : i < length first = omega (arith, c.loop-i-test.true, whole, c.len-i-end.ensures) in
    elim c.if-is_claimed_at.branch [
      | then-is_claimed_at w ↦ ap (λ v. v.items) w.standings-is ∙ freed_next_claimed first before w.put.new.standings.items i within c.loop-i.invariant (sym c.is_claimed_at.ensures ∙ w.if-is_claimed_at.true) w.put.ensures
      | else-is_claimed_at w ↦ ap (λ v. v.items) w.standings-is ∙ freed_next_other first before i within c.loop-i.invariant (sym c.is_claimed_at.ensures ∙ w.if-is_claimed_at.false)
    ]
