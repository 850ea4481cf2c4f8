use Rattle.std.proofs.Common.{◌≡◌, [], ◌∷◌, map, subst, ap, ◌∙◌}
use Rattle.mz_cited.specs.Cited.{tree_of}
use Rattle.mz_resolve.specs.Answers.{OnRead}
use Rattle.mz_reserve.specs.Reserve.{Reserves, come_to}
use Rattle.mz_reserve.proofs.ReserveLemmas.{told_first_refused, told_joined}
use Rattle.mz_reserve.proofs.reserve.reserve.Goals as goal

pub returns-in-Ok : goal.returns-in-Ok
returns-in-Ok c =
    let more : c.as_slice.result.now ≡ c.args.segments.now.more = c.as_slice.ensures.value ∙ ap (λ ss. ss.more) c.segments.view_is in
    let first : c.segments.inside.0.0 ≡ c.args.segments.now.first = ap (λ ss. ss.first) c.segments.view_is in
    told_joined _ c.args.ctx.now c.reserve_segment.new.ctx c.reserve_further.new.ctx c.args.left.now c.reserve_segment.new.left c.reserve_further.new.left c.args.segments.now c.reserve_segment.result c.in-Ok.field-0 c.reserve_further.result
    (subst (λ s. OnRead c.reserve_segment.result (λ o. Reserves c.args.env.now c.args.ctx.now c.args.left.now (s ∷ []) (come_to o c.reserve_segment.new.ctx) c.reserve_segment.new.left)) first c.reserve_segment.ensures) c.in-Ok.is
    (subst (λ xs. OnRead c.reserve_further.result (λ o. Reserves c.args.env.now c.reserve_segment.new.ctx c.reserve_segment.new.left (map tree_of xs) (come_to o c.reserve_further.new.ctx) c.reserve_further.new.left)) more c.reserve_further.ensures)

pub returns-in-Err : goal.returns-in-Err
returns-in-Err c =
    let first : c.segments.inside.0.0 ≡ c.args.segments.now.first = ap (λ ss. ss.first) c.segments.view_is in
    told_first_refused _ c.args.ctx.now c.reserve_segment.new.ctx c.args.left.now c.reserve_segment.new.left c.args.segments.now c.reserve_segment.result c.in-Err.fault
    (subst (λ s. OnRead c.reserve_segment.result (λ o. Reserves c.args.env.now c.args.ctx.now c.args.left.now (s ∷ []) (come_to o c.reserve_segment.new.ctx) c.reserve_segment.new.left)) first c.reserve_segment.ensures) c.in-Err.is
