use Rattle.mz_scheme.proofs.StateLemmas.{told_ended}
use Rattle.mz_scheme.proofs.stating.end_with.Goals as goal

pub returns : goal.returns
returns c =
    told_ended _ c.args.s.now c.put_item.new.s c.args.aside c.args.tree.now c.args.x _ _ _ _ _ _ _ _ c.end-letters.ensures.letters c.end-letters.ensures.context c.in_ok-item.ensures c.in_ok-label.ensures c.in_ok-number.ensures c.deref.ensures c.in_ok-end_scheme.ensures c.into_inner.ensures
    c.put_item.ensures
