use Rattle.std.proofs.Common.{◌==◌, sym, ap, ◌∙◌}
use Rattle.std.specs.List.{list_any}
use Rattle.mz_words.proofs.NameLemmas.{list_any-map}
use Rattle.mz_words.proofs.given.has_number.Goals as goal

pub returns : goal.returns
returns c = c.has_name_with.ensures ∙ ap (list_any (λ n. n.number == c.args.number)) c.as_slice.ensures ∙ sym (list_any-map (λ m. m == c.args.number) (λ n. n.number) c.args.names.now)
