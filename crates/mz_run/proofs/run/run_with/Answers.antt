use Rattle.std.proofs.Common.{◌≡◌, true, List, length, refl}
use Rattle.std.specs.Prelude.{None, Some, is_some, map, string_bytes}
use Rattle.mz_base.specs.declared.status.Status.TheVariants as status
use Rattle.mz_io.specs.Count.{Rose}
use Rattle.mz_words.specs.Words.{asked_by}
use Rattle.mz_corpus.specs.Rise.{IsLarge}
use Rattle.mz_run.specs.Gathered.{is_known, PassesLimit, FailsFor}
use Rattle.mz_run.specs.Run.{IsRefusalOfLimit, IsCompletion}
use Rattle.mz_run.proofs.RunLemmas.{order_written, some_order, by_order, large_numbers, words_written, words_usage, words_answer, words_read, words_write, words_large, words_limit, words_complete}
use Rattle.mz_run.proofs.run.run_with.Goals as goal

pub run_order-requires-clause-bounded : goal.run_order-requires-clause-bounded
run_order-requires-clause-bounded g c κs within = c.bounds_law.ensures (map string_bytes c.args.words.items) (asked_by c.in-Ok.order) c.in-Ok.ensures

pub returns-in-Ok-clause-written : goal.returns-in-Ok-clause-written
returns-in-Ok-clause-written g c = order_written _ _ _ _ _ _ _ c.in-Ok.ensures c.run_order.ensures.written

pub returns-in-Ok-clause-usage : goal.returns-in-Ok-clause-usage
returns-in-Ok-clause-usage g c = λ e. absurd (c.run_order.ensures.usage e)

pub returns-in-Ok-clause-no_order : goal.returns-in-Ok-clause-no_order
returns-in-Ok-clause-no_order g c = λ e. absurd (some_order _ _ c.in-Ok.ensures e)

pub returns-in-Ok-clause-too_large : goal.returns-in-Ok-clause-too_large
returns-in-Ok-clause-too_large g c =
    λ a e. by_order _ a (asked_by c.in-Ok.order) c.in-Ok.ensures
    (λ x. is_known (g.S.Shelf.contents c.args.shelf.now) x ≡ true → c.run_order.result ≡ status.TooLarge → PassesLimit (g.S.Shelf.contents c.args.shelf.now) x)
    c.run_order.ensures.too_large e

pub returns-in-Ok-clause-limit : goal.returns-in-Ok-clause-limit
returns-in-Ok-clause-limit g c =
    λ a e. by_order _ a (asked_by c.in-Ok.order) c.in-Ok.ensures
    (λ x. PassesLimit (g.S.Shelf.contents c.args.shelf.now) x → IsRefusalOfLimit c.run_order.result)
    c.run_order.ensures.limit e

pub returns-in-Ok-clause-amount : goal.returns-in-Ok-clause-amount
returns-in-Ok-clause-amount g c =
    λ a e. by_order _ a (asked_by c.in-Ok.order) c.in-Ok.ensures
    (λ x. x.generate ≡ None → c.run_order.result ≡ status.TooLarge → IsLarge (length x.names) (g.S.Shelf.amount c.args.shelf.now) (g.S.Shelf.amount c.run_order.new.shelf))
    (λ k t. large_numbers c.in-Ok.order.names _ _ (c.run_order.ensures.amount k t)) e

pub returns-in-Ok-clause-made : goal.returns-in-Ok-clause-made
returns-in-Ok-clause-made g c =
    λ a e. by_order _ a (asked_by c.in-Ok.order) c.in-Ok.ensures
    (λ x. is_some x.generate ≡ true → (c.run_order.new.shelf ≡ c.args.shelf.now) × (c.run_order.result ≡ status.ReadFault → ⊥))
    c.run_order.ensures.made e

pub returns-in-Ok-clause-complete : goal.returns-in-Ok-clause-complete
returns-in-Ok-clause-complete g c =
    λ a e. by_order _ a (asked_by c.in-Ok.order) c.in-Ok.ensures
    (λ x. is_known (g.S.Shelf.contents c.args.shelf.now) x ≡ true → (PassesLimit (g.S.Shelf.contents c.args.shelf.now) x → ⊥) → (Rose (g.S.Shelf.faults c.args.shelf.now) (g.S.Shelf.faults c.run_order.new.shelf) → ⊥) → (Rose (g.W.Sink.faults c.args.out.now) (g.W.Sink.faults c.run_order.new.out) → ⊥) → IsCompletion c.run_order.result)
    c.run_order.ensures.complete e

pub returns-in-Err-clause-written : goal.returns-in-Err-clause-written
returns-in-Err-clause-written g c = words_written _ _ _ _ c.in-Err.fault c.refusal_of_words.result c.refusal_of_words.ensures

pub returns-in-Err-clause-usage : goal.returns-in-Err-clause-usage
returns-in-Err-clause-usage g c = λ e. words_usage _ c.in-Err.fault c.refusal_of_words.result c.in-Err.ensures c.refusal_of_words.ensures e

pub returns-in-Err-clause-no_order : goal.returns-in-Err-clause-no_order
returns-in-Err-clause-no_order g c = λ e. (words_answer c.in-Err.fault c.refusal_of_words.result c.refusal_of_words.ensures, refl)

pub returns-in-Err-clause-read_fault : goal.returns-in-Err-clause-read_fault
returns-in-Err-clause-read_fault g c = λ e. absurd (words_read c.in-Err.fault c.refusal_of_words.result c.refusal_of_words.ensures e)

pub returns-in-Err-clause-write_fault : goal.returns-in-Err-clause-write_fault
returns-in-Err-clause-write_fault g c = λ e. absurd (words_write c.in-Err.fault c.refusal_of_words.result c.refusal_of_words.ensures e)

pub returns-in-Err-clause-too_large : goal.returns-in-Err-clause-too_large
returns-in-Err-clause-too_large g c = λ a h k e. absurd (words_large c.in-Err.fault c.refusal_of_words.result c.refusal_of_words.ensures e)

pub returns-in-Err-clause-limit : goal.returns-in-Err-clause-limit
returns-in-Err-clause-limit g c = λ a e passes. words_limit _ a c.in-Err.fault c.refusal_of_words.result c.in-Err.ensures c.refusal_of_words.ensures e

pub returns-in-Err-clause-amount : goal.returns-in-Err-clause-amount
returns-in-Err-clause-amount g c = λ a h k e. absurd (words_large c.in-Err.fault c.refusal_of_words.result c.refusal_of_words.ensures e)

pub returns-in-Err-clause-made : goal.returns-in-Err-clause-made
returns-in-Err-clause-made g c = λ a h k. (refl, λ e. words_read c.in-Err.fault c.refusal_of_words.result c.refusal_of_words.ensures e)

pub returns-in-Err-clause-complete : goal.returns-in-Err-clause-complete
returns-in-Err-clause-complete g c =
    λ a e known short fetched wrote. words_complete _ a c.in-Err.fault c.refusal_of_words.result c.in-Err.ensures c.refusal_of_words.ensures e

pub returns-in-Ok-clause-early : goal.returns-in-Ok-clause-early
returns-in-Ok-clause-early g c =
    λ a files e. by_order _ a (asked_by c.in-Ok.order) c.in-Ok.ensures
    (λ x. x.generate ≡ None → g.S.Shelf.contents c.args.shelf.now ≡ Some files → c.run_order.result ≡ status.ReadFault → FailsFor files x (g.S.Shelf.amount c.args.shelf.now) (g.S.Shelf.amount c.run_order.new.shelf))
    (λ k t r. (c.in-Ok.order.names, refl, c.run_order.ensures.early k files t r)) e

pub returns-in-Err-clause-early : goal.returns-in-Err-clause-early
returns-in-Err-clause-early g c = λ a files h k t e. absurd (words_read c.in-Err.fault c.refusal_of_words.result c.refusal_of_words.ensures e)
