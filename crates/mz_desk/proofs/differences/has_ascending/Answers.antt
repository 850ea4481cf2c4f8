use Rattle.std.proofs.Common.{rules, ◌∙◌}
use Rattle.std.proofs.lemmas.List.Sorted.{answers_always}
use Rattle.mz_desk.proofs.SearchLemmas.{searched_among}
use Rattle.mz_desk.proofs.differences.has_ascending.Goals as goal

pub returns : goal.returns
returns c = c.is_ok.ensures.value ∙ searched_among c.args.names.now c.args.name.now c.binary_search_by_key.result c.requires c.binary_search_by_key.ensures.bound (c.binary_search_by_key.ensures.position (λ m. m.number) (answers_always _ _ _ (λ f a r g k. search rules)))
