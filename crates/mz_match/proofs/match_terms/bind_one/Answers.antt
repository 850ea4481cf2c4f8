use Rattle.std.proofs.Common.{arith, length, ap, ◌∙◌, List, ℕ}
use Rattle.std.specs.Prelude.{slice_index_or, Option}
use Rattle.mz_match.proofs.BindLemmas.{told_open, told_same, told_other}
use Rattle.mz_match.proofs.match_terms.bind_one.Goals as goal

pub returns-in_ok-out-in-None : goal.returns-in_ok-out-in-None
returns-in_ok-out-in-None c =
    told_open c.args.i c.args.v c.args.e.now c.in_ok-bound-in-None.bound c.index.result.now c.in_ok-out-in-None.out (omega (arith, c.if-i-len.false, ap length c.e.view_is))
    (c.index.ensures ∙ ap (λ (xs : List (Option ℕ)). slice_index_or xs c.args.i c.index.result.now) c.e.view_is) c.in-None.is c.in_ok-bound-in-None.ensures c.in_ok-out-in-None.ensures

pub returns-in_ok-out-in-Some : goal.returns-in_ok-out-in-Some
returns-in_ok-out-in-Some c =
    told_same c.args.i c.args.v c.in-Some.w c.args.e.now c.in_ok-same-in-Some.same c.index.result.now c.in_ok-out-in-Some.out (omega (arith, c.if-i-len.false, ap length c.e.view_is))
    (c.index.ensures ∙ ap (λ (xs : List (Option ℕ)). slice_index_or xs c.args.i c.index.result.now) c.e.view_is) c.in-Some.is c.if-w-v.true c.in_ok-same-in-Some.ensures c.in_ok-out-in-Some.ensures

pub returns-else-w-v : goal.returns-else-w-v
returns-else-w-v c =
    told_other c.args.i c.args.v c.in-Some.w c.args.e.now c.index.result.now c.new-else-w-v.result (omega (arith, c.if-i-len.false, ap length c.e.view_is))
    (c.index.ensures ∙ ap (λ (xs : List (Option ℕ)). slice_index_or xs c.args.i c.index.result.now) c.e.view_is) c.in-Some.is c.if-w-v.false c.new-else-w-v.ensures
