use Rattle.std.proofs.Common.{◌≡◌, ◌∙◌, map, sym, subst, List, true, false}
use Rattle.std.specs.List.{AllByRecursion}
use Rattle.mz_search.specs.declared.goal.Goal as code
use Rattle.mz_search.specs.Goals.{goal_of}
use Rattle.mz_search.specs.Kept.{goal_kept}
use Rattle.mz_search.proofs.PartLemmas.{told_apart, told_whole}
use Rattle.mz_search.proofs.parted.parted_by.Goals as goal

pub returns-then-outside : goal.returns-then-outside
returns-then-outside c =
    told_apart (goal_of c.args.goal.now) c.args.e.now c.args.marks.now (map goal_of c.args.rest.items) c.in_ok-parts.parts c.in_ok-parts.ensures (sym c.in_ok-within.ensures ∙ c.if-within.true)
    (subst (λ (gs : List code.Goal). AllByRecursion (λ g. goal_kept c.args.e.now c.args.marks.now false g ≡ true) (map goal_of gs)) c.as_slice.ensures.value (c.in_ok-outside.ensures c.if-outside.true))

pub returns-in_ok-whole : goal.returns-in_ok-whole
returns-in_ok-whole c =
    told_whole (goal_of c.args.goal.now) c.args.e.now c.args.marks.now (map goal_of c.args.rest.items) c.in_ok-parts.parts c.in_ok-whole.whole c.in_ok-parts.ensures c.in_ok-whole.ensures
