use Rattle.mz_env.proofs.ShareLemmas.{told_article}
use Rattle.mz_env.proofs.shares.add_exports.Goals as goal

pub loop-i-preserved : goal.loop-i-preserved
loop-i-preserved c =
    told_article c.args.articles.now c.args.kind c.args.es.now c.loop-i.i c.get.result.now c.loop-i.out c.add_export.new.out _ c.get.ensures c.in_ok-add_export.ensures c.loop-i.invariant
