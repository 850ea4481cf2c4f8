use Rattle.std.proofs.Common.{sym, subst, List, take, map}
use Rattle.mz_match.specs.Slots.{Assignment}
use Rattle.mz_search.specs.States.{AreTaken, state_of}
use Rattle.mz_search.proofs.BranchLemmas.{told_taken}
use Rattle.mz_search.proofs.StateLemmas.{take_next}
use Rattle.mz_search.proofs.branches.taken_over.Goals as goal

pub loop-l-preserved : goal.loop-l-preserved
loop-l-preserved c =
    subst (λ (ls : List Assignment). AreTaken c.args.scope.now c.args.e.now ls (map state_of c.push_taken.new.out.items)) (sym (take_next c.deref-l-items.result.now c.loop-l.l-index c.l-item.result c.loop-l-test.true c.l-item.is))
    (told_taken c.args.scope.now c.args.e.now c.l-item.result (take c.loop-l.l-index c.deref-l-items.result.now) (map state_of c.loop-l.out.items) (map state_of c.push_taken.new.out.items) c.loop-l.invariant c.in_ok-push_taken.ensures)
