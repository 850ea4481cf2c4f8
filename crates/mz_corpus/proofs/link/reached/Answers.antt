use Rattle.std.proofs.Common.{◌≡◌, [], ◌<◌, ◌≤◌, get_or, subst}
use Rattle.mz_corpus.proofs.ReachLemmas.{HasReached-start, HasReached-turn, HasReached-less, HasReached-end}
use Rattle.mz_corpus.proofs.link.reached.Goals as goal

pub loop-at-init : goal.loop-at-init
loop-at-init c = HasReached-start _ _ _ _ c.new-set.ensures c.in_ok-add_names.ensures

pub loop-at-preserved : goal.loop-at-preserved
loop-at-preserved c =
    HasReached-turn _ _ _ _ _ _ c.requires.all_known (subst (λ n. c.loop-at.at < n) c.len.ensures c.loop-at-test.true)
    (subst (λ ns. c.index-as_slice-at.result ≡ get_or ns c.loop-at.at c.index-as_slice-at.result) c.as_slice.ensures c.index-as_slice-at.is) c.in_ok-add_links.ensures c.loop-at.invariant

pub loop-at-smaller : goal.loop-at-smaller
loop-at-smaller c = HasReached-less _ [] _ _ _ c.index-as_slice-at.result c.requires.all_known (subst (λ n. c.loop-at.at < n) c.len.ensures c.loop-at-test.true) c.in_ok-add_links.ensures

pub returns : goal.returns
returns c = HasReached-end _ _ _ _ (subst (λ n. n ≤ c.loop-at.at) c.len.ensures c.loop-at-test.false) c.loop-at.invariant
