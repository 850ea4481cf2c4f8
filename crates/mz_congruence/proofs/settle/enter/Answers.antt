use Rattle.std.proofs.Common.{arith, ap, sym, ◌∙◌}
use Rattle.mz_congruence.specs.Signature.{place_of}
use Rattle.mz_congruence.proofs.ClosingLemmas.{found_within, told_found, told_new}
use Rattle.mz_congruence.proofs.settle.enter.Goals as goal

pub union-requires-clause-right : goal.union-requires-clause-right
union-requires-clause-right c = omega (arith, found_within _ _ _ _ c.requires.entries (sym c.in-Some.ensures), c.requires.state.len)

pub returns-in-Some : goal.returns-in-Some
returns-in-Some c =
    told_found _ _ _ _ _ _ _ _ _ c.requires.within c.requires.state c.requires.entries c.get.ensures c.in_ok-signature.ensures (ap (place_of c.args.table.now) (sym c.as_slice.ensures.value) ∙ sym c.in-Some.ensures) c.union.ensures.len c.union.ensures.descends c.union.ensures.progress c.union.ensures.united

pub returns-in_ok-insert-in-None : goal.returns-in_ok-insert-in-None
returns-in_ok-insert-in-None c =
    told_new _ _ _ _ _ _ _ c.requires.within c.requires.state c.requires.entries c.get.ensures c.in_ok-signature.ensures (ap (place_of c.args.table.now) (sym c.as_slice.ensures.value) ∙ sym c.in-None.ensures) c.in_ok-insert-in-None.ensures
