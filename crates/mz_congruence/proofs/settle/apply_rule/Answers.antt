use Rattle.std.proofs.Common.{arith, ap, sym, ◌∙◌, List}
use Rattle.std.specs.List.{list_all}
use Rattle.mz_congruence.specs.declared.graph.Pair.{Pair}
use Rattle.mz_congruence.specs.Classes.{root}
use Rattle.mz_congruence.specs.Closing.{same}
use Rattle.mz_congruence.proofs.ClosingLemmas.{contains_from, told_applied, told_not_applied}
use Rattle.mz_congruence.proofs.settle.apply_rule.Goals as goal

pub union-requires-clause-left : goal.union-requires-clause-left
union-requires-clause-left c = let p = c.requires.within.conclusion _ (contains_from _ _ _ c.get-rule.ensures) in omega (arith, p.0, c.requires.state.len)

pub union-requires-clause-right : goal.union-requires-clause-right
union-requires-clause-right c = let p = c.requires.within.conclusion _ (contains_from _ _ _ c.get-rule.ensures) in omega (arith, p.1, c.requires.state.len)

pub returns-then-all_same : goal.returns-then-all_same
returns-then-all_same c =
    told_applied _ _ _ _ _ _ c.requires.within c.requires.state c.get-rule.ensures (ap (λ (ps : List Pair). list_all (same (root c.args.c.now)) ps) (sym c.as_slice.ensures) ∙ sym c.all_same.ensures ∙ c.if-all_same.true) c.union.ensures.len c.union.ensures.descends c.union.ensures.progress c.union.ensures.united

pub returns-else-all_same : goal.returns-else-all_same
returns-else-all_same c =
    told_not_applied _ _ _ _ c.requires.state c.get-rule.ensures (ap (λ (ps : List Pair). list_all (same (root c.args.c.now)) ps) (sym c.as_slice.ensures) ∙ sym c.all_same.ensures ∙ c.if-all_same.false)
