use Rattle.mz_refute.proofs.IndexLaws.{index_answer}
use Rattle.mz_refute.proofs.fact_index.FactIndex.refuted.Goals as goal

pub returns : goal.returns
returns c = λ cs h. index_answer c.args.d.now cs c.args.self.now h _ c.as_slice.ensures.value c.args.universal.now c.in_ok-r.r c.in_ok-r.ensures
