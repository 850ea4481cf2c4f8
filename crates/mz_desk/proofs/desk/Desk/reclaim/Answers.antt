use Rattle.std.proofs.Common.{◌∙◌, ap, sym, subst, arith}
use Rattle.std.specs.List.{sum_by}
use Rattle.mz_turns.specs.Row.{claim_weight}
use Rattle.mz_turns.specs.Machine.{Replays}
use Rattle.mz_desk.proofs.DeskLemmas.{reclaimed_turn, some_claim, freed_count}
use Rattle.mz_desk.proofs.desk.Desk.reclaim.Goals as goal

pub invariant_of-self : goal.invariant_of-self
invariant_of-self g c =
    let t = c.self.inside.table in
    let r = c.in-Some.field-0 in
    let claimed = c.in-Some.ensures.1 in
    let l = c.in-Some.ensures.0 in
    let one = some_claim t.rows r l claimed in
    let n = ap (sum_by claim_weight) c.free_all.ensures.rows ∙ freed_count t.rows in (
      subst (λ z. Replays g.C.Semantics.is_outcome z.articles c.push_reserved.new.self.items c.free_all.new.self.rows) (sym c.free_all.ensures.corpus)
          (reclaimed_turn g.C.Semantics.is_outcome t.corpus.articles c.self.inside.turns.items c.push_reserved.new.self.items t.rows c.free_all.new.self.rows r c.self.invariant.0 claimed c.push_reserved.ensures.items c.free_all.ensures.rows),
      omega (arith, one, n, c.self.invariant.1, c.push_reserved.ensures.len, c.push_reserved.ensures.capacity),
    )
