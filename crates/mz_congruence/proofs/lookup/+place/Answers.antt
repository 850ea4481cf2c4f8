use Rattle.std.proofs.Common.{arith, refl, ap, subst, List, length, Some, None}
use Rattle.std.proofs.lemmas.Option.{slice_get_read}
use Rattle.mz_logic.specs.Term.{Term}
use Rattle.mz_congruence.specs.Lookup.{FindsHash}
use Rattle.mz_congruence.proofs.LookupLemmas.{hash_start, hash_more, hash_none, hash_end}
use Rattle.mz_congruence.proofs.lookup.+place.Goals as goal

pub args_hash-loop-i-init : goal.args_hash-loop-i-init
args_hash-loop-i-init t c = hash_start _ _ _

pub args_hash-loop-i-preserved : goal.args_hash-loop-i-preserved
args_hash-loop-i-preserved t c = hash_more _ _ _ _ _ _ _ _ _ c.loop-i.invariant (slice_get_read c.us.inside.items.items _ c.loop-i.i c.index.result.now refl (omega (arith, ap length c.us.view_is)) c.index.ensures) c.in-Some.ensures c.hash_with-hash.ensures

pub args_hash-returns-in-None : goal.args_hash-returns-in-None
args_hash-returns-in-None t c =
    subst (λ (us : List Term). FindsHash c.args.g.now c.args.args.now us c.args.start None) c.us.view_is
    (hash_none _ _ _ _ _ _ (slice_get_read c.us.inside.items.items _ c.loop-i.i c.index.result.now refl (omega (arith, ap length c.us.view_is)) c.index.ensures) c.in-None.ensures)

pub args_hash-returns : goal.args_hash-returns
args_hash-returns t c =
    subst (λ (us : List Term). FindsHash c.args.g.now c.args.args.now us c.args.start (Some c.loop-i.hash)) c.us.view_is
    (hash_end _ _ _ _ _ _ (omega (arith, ap length c.us.view_is)) c.loop-i.invariant)
