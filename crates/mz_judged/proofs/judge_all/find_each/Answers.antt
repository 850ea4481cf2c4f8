use Rattle.std.proofs.Common.{ap, ◌∙◌}
use Rattle.std.specs.Prelude.{IfOk}
use Rattle.rayon.specs.Lists.{min_len_base}
use Rattle.rayon.proofs.ListFacts.{IfOk-then}
use Rattle.rayon.proofs.ToStd.{slice-AllZip}
use Rattle.mz_judged.specs.Judged.{IsJudged}
use Rattle.mz_judged.proofs.judge_all.find_each.Goals as goal

pub returns : goal.returns
returns g c =
    let slice = ap (λ it. it.slice.now) (ap min_len_base c.map.ensures.base ∙ c.with_min_len.ensures.base) ∙ c.par_iter.ensures in
    IfOk-then c.collect.result _ _ c.collect.ensures (λ v h.
    let chain = h.1 in
    let each = rw c.map.ensures.f at chain.2 in
    rw h.2 (slice-AllZip chain.0 c.args.obligations.now (chain.1 ∙ slice) (λ o f. IfOk f (IsJudged c.args.clauses.now o)) h.0 each))
