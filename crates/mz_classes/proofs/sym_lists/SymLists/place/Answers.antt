use Rattle.std.proofs.Common.{ap, sym, ◌∙◌}
use Rattle.mz_congruence.specs.Signature.{place_of}
use Rattle.mz_classes.proofs.SymListLemmas.{list_made}
use Rattle.mz_classes.proofs.sym_lists.SymLists.place.Goals as goal

pub returns-in_ok-insert-in-None : goal.returns-in_ok-insert-in-None
returns-in_ok-insert-in-None c =
    list_made c.args.self.now _ c.args.sym _ _ c.requires (ap (place_of c.args.self.now.places) (sym c.key_of-key.ensures) ∙ sym c.find.ensures ∙ c.in-None.is)
    (c.in_ok-code-in-None.ensures.items ∙ c.key_of-key.ensures) c.len-place.ensures c.in_ok-add-in-None.ensures c.in_ok-insert-in-None.ensures
