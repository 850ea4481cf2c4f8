use Rattle.std.proofs.Common.{◌∙◌, ap, refl, List, ℕ, set, nat_eq, true}
use Rattle.std.specs.Prelude.{slice_index_or, Option, Some}
use Rattle.mz_match.proofs.PlaceLemmas.{told_open, told_bound}
use Rattle.mz_match.proofs.assignment.Assignment.bind.Goals as goal

pub returns-in-None : goal.returns-in-None
returns-in-None c =
    told_open c.args.self.now (set c.self.inside.slots.items c.args.place (Some c.args.class)) c.args.place c.args.class c.index.result.now true c.requires
    (c.index.ensures ∙ ap (λ (xs : List (Option ℕ)). slice_index_or xs c.args.place c.index.result.now) c.self.view_is) c.in-None.is
    (ap (λ (xs : List (Option ℕ)). set xs c.args.place (Some c.args.class)) c.self.view_is) refl

pub returns-in-Some : goal.returns-in-Some
returns-in-Some c =
    told_bound c.args.self.now c.args.self.now c.args.place c.args.class c.in-Some.other c.index.result.now (nat_eq c.in-Some.other c.args.class) c.requires
    (c.index.ensures ∙ ap (λ (xs : List (Option ℕ)). slice_index_or xs c.args.place c.index.result.now) c.self.view_is) c.in-Some.is refl refl
