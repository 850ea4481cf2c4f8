use Rattle.std.proofs.Common.{refl}
use Rattle.mz_words.specs.Words.{asked_by}
use Rattle.mz_corpus.specs.Corpus.{Corpus}
use Rattle.mz_run.proofs.RunLemmas.{ended_written, ended_usage, ended_read, ended_large, ended_complete, gathered_within, refused_written, refused_usage, refused_read, refused_write, refused_limit, refused_amount, refused_answer, refused_complete}
use Rattle.mz_run.proofs.run.run_order.Goals as goal

pub returns-in-Ok-clause-written : goal.returns-in-Ok-clause-written
returns-in-Ok-clause-written g c = ended_written _ _ _ c.in-Ok.corpus _ _ _ c.in-Ok.ensures.told c.run_on.ensures.ended

pub returns-in-Ok-clause-usage : goal.returns-in-Ok-clause-usage
returns-in-Ok-clause-usage g c = λ e. ended_usage _ (asked_by c.args.order.now) _ _ _ _ c.run_on.ensures.ended e

pub returns-in-Ok-clause-read_fault : goal.returns-in-Ok-clause-read_fault
returns-in-Ok-clause-read_fault g c = λ e. absurd (ended_read _ (asked_by c.args.order.now) _ _ _ _ c.run_on.ensures.ended e)

pub returns-in-Ok-clause-too_large : goal.returns-in-Ok-clause-too_large
returns-in-Ok-clause-too_large g c = λ k e. absurd (ended_large _ (asked_by c.args.order.now) _ _ _ _ c.run_on.ensures.ended e)

pub returns-in-Ok-clause-limit : goal.returns-in-Ok-clause-limit
returns-in-Ok-clause-limit g c = λ passes. absurd (gathered_within _ _ c.in-Ok.corpus c.in-Ok.ensures.told passes)

pub returns-in-Ok-clause-amount : goal.returns-in-Ok-clause-amount
returns-in-Ok-clause-amount g c = λ k e. absurd (ended_large _ (asked_by c.args.order.now) _ _ _ _ c.run_on.ensures.ended e)

pub returns-in-Ok-clause-made : goal.returns-in-Ok-clause-made
returns-in-Ok-clause-made g c = λ k. ((c.in-Ok.ensures.made k).0, λ e. ended_read _ (asked_by c.args.order.now) _ _ _ _ c.run_on.ensures.ended e)

pub returns-in-Ok-clause-complete : goal.returns-in-Ok-clause-complete
returns-in-Ok-clause-complete g c =
    λ k short fetched wrote. ended_complete _ (asked_by c.args.order.now) _ _ _ _ c.run_on.ensures.ended (λ e. wrote (c.run_on.ensures.write_fault e))

pub returns-in-Err-clause-written : goal.returns-in-Err-clause-written
returns-in-Err-clause-written g c = refused_written _ _ _ _ _ c.in-Err.fault c.refusal_of.result c.refusal_of.ensures refl

pub returns-in-Err-clause-usage : goal.returns-in-Err-clause-usage
returns-in-Err-clause-usage g c = λ e. refused_usage c.in-Err.fault c.refusal_of.result c.refusal_of.ensures e

pub returns-in-Err-clause-read_fault : goal.returns-in-Err-clause-read_fault
returns-in-Err-clause-read_fault g c = λ e. refused_read Corpus c.in-Err.fault c.refusal_of.result _ c.refusal_of.ensures c.in-Err.ensures.read e

pub returns-in-Err-clause-write_fault : goal.returns-in-Err-clause-write_fault
returns-in-Err-clause-write_fault g c = λ e. absurd (refused_write c.in-Err.fault c.refusal_of.result c.refusal_of.ensures e)

pub returns-in-Err-clause-too_large : goal.returns-in-Err-clause-too_large
returns-in-Err-clause-too_large g c = λ k e. refused_limit _ _ c.in-Err.fault c.refusal_of.result c.refusal_of.ensures (c.in-Err.ensures.told k) e

pub returns-in-Err-clause-limit : goal.returns-in-Err-clause-limit
returns-in-Err-clause-limit g c = λ passes. refused_answer c.in-Err.fault c.refusal_of.result c.refusal_of.ensures

pub returns-in-Err-clause-amount : goal.returns-in-Err-clause-amount
returns-in-Err-clause-amount g c = λ k e. refused_amount Corpus c.in-Err.fault c.refusal_of.result _ c.refusal_of.ensures (c.in-Err.ensures.limits k) e

pub returns-in-Err-clause-made : goal.returns-in-Err-clause-made
returns-in-Err-clause-made g c =
    λ k. ((c.in-Err.ensures.made k).0, λ e. refused_read Corpus c.in-Err.fault c.refusal_of.result ⊥ c.refusal_of.ensures (c.in-Err.ensures.made k).1 e)

pub returns-in-Err-clause-complete : goal.returns-in-Err-clause-complete
returns-in-Err-clause-complete g c =
    λ k short fetched wrote. refused_complete c.in-Err.fault c.refusal_of.result c.refusal_of.ensures
    (λ e. fetched (refused_read Corpus c.in-Err.fault c.refusal_of.result _ c.refusal_of.ensures c.in-Err.ensures.read e))
    (λ e. short (refused_limit _ _ c.in-Err.fault c.refusal_of.result c.refusal_of.ensures (c.in-Err.ensures.told k) e))

pub gather_for-requires : goal.gather_for-requires
gather_for-requires g c = c.requires.bounded.made

pub returns-in-Ok-clause-early : goal.returns-in-Ok-clause-early
returns-in-Ok-clause-early g c = λ k files t e. absurd (ended_read _ (asked_by c.args.order.now) _ _ _ _ c.run_on.ensures.ended e)

pub returns-in-Err-clause-early : goal.returns-in-Err-clause-early
returns-in-Err-clause-early g c = λ k files t e. refused_read Corpus c.in-Err.fault c.refusal_of.result _ c.refusal_of.ensures (c.in-Err.ensures.fails k files t) e
