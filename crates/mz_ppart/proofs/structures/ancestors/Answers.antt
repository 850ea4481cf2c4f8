use Rattle.std.proofs.Common.{◌-◌, arith}
use Rattle.std.proofs.lemmas.Result.{err_from_is_err_and}
use Rattle.mz_forms.proofs.Nested.{found_under, refuses_under}
use Rattle.mz_forms.proofs.Words.{word_in_any, word_refuses}
use Rattle.mz_base.specs.declared.place.Place.{Place}
use Rattle.mz_pterm.specs.declared.sign.Sign.TheVariants as signs
use Rattle.mz_pterm.specs.Words.{fixed}
use Rattle.mz_pstep.specs.Forms.{types_form}
use Rattle.mz_ppart.proofs.StructureSequences.{ancestors_refused_1, ancestors_refused_2, ancestors_refused_3, ancestors_found}
use Rattle.mz_ppart.proofs.structures.ancestors.Goals as goal

pub returns-in_err-left : goal.returns-in_err-left
returns-in_err-left c =
    let p = err_from_is_err_and c.from_residual.result c.from_residual.ensures.1 in
    rw (p.1, p.2) (ancestors_refused_1 c.args.room _ _ _ c.in_err-left.ensures.reads)

pub returns-in_err-types : goal.returns-in_err-types
returns-in_err-types c =
    let p = err_from_is_err_and c.from_residual-in_err-types.result c.from_residual-in_err-types.ensures.1 in
    rw (p.1, p.2) (ancestors_refused_2 c.args.room _ _ _ c.in_ok-left.ensures.reads _ _ (refuses_under types_form c.args.room (c.args.room - 1) (omega (arith, c.in_ok-left.ensures.room)) _ _ _ c.in_err-types.ensures))

pub returns-in_err-right : goal.returns-in_err-right
returns-in_err-right c =
    let p = err_from_is_err_and c.from_residual-in_err-right.result c.from_residual-in_err-right.ensures.1 in
    rw (p.1, p.2) (ancestors_refused_3 c.args.room _ _ _ c.in_ok-left.ensures.reads _ _ (found_under types_form c.args.room (c.args.room - 1) (omega (arith, c.in_ok-left.ensures.room)) _ _ _ c.in_ok-types.ensures) _ _ (word_refuses Place (fixed signs.Close) c.args.room _ _ _ c.in_err-right.ensures))

pub returns : goal.returns
returns c = ancestors_found c.args.room _ _ _ c.in_ok-left.ensures.reads _ _ (found_under types_form c.args.room (c.args.room - 1) (omega (arith, c.in_ok-left.ensures.room)) _ _ _ c.in_ok-types.ensures) _ _ (word_in_any Place (fixed signs.Close) c.args.room _ _ _ c.in_ok-right.ensures)
