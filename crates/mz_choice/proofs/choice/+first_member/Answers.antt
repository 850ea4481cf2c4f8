use Rattle.std.proofs.Common.{◌∙◌, ap}
use Rattle.mz_logic.specs.Sym.{same_sym}
use Rattle.mz_choice.proofs.ChoiceLemmas.{told_other_symbol, told_member, told_other_arguments}
use Rattle.mz_choice.proofs.choice.+first_member.Goals as goal

pub returns-then-not-is : goal.returns-then-not-is
returns-then-not-is t c = told_other_symbol _ _ _ _ _ _ _ _ _ _ c.in-Some.ensures.cases.0 (c.is.ensures.same ∙ (λ i. same_sym (c.r.view_is i).sym (c.formal.view_is i).sym)) c.if-not-is.true c.in_ok-o-in-Some.ensures

pub returns-in-Some-2 : goal.returns-in-Some-2
returns-in-Some-2 t c =
    told_member _ _ _ _ _ _ _ _ _ _ _ _ _ _ c.in-Some.ensures.cases.0 (c.is.ensures.same ∙ (λ i. same_sym (c.r.view_is i).sym (c.formal.view_is i).sym)) c.if-not-is.false c.in_ok-trial-in-Some.ensures
    (c.as_slice-formals.ensures.value ∙ ap (λ r. r.args) c.formal.view_is) (c.as_slice-args.ensures.value ∙ ap (λ r. r.args) c.r.view_is) c.in_ok-behind-in-Some.ensures c.in-Some-2.is

pub returns-in_ok-later-in-None-2 : goal.returns-in_ok-later-in-None-2
returns-in_ok-later-in-None-2 t c =
    told_other_arguments _ _ _ _ _ _ _ _ _ _ _ _ _ _ c.in-Some.ensures.cases.0 (c.is.ensures.same ∙ (λ i. same_sym (c.r.view_is i).sym (c.formal.view_is i).sym)) c.if-not-is.false c.in_ok-trial-in-Some.ensures
    (c.as_slice-formals.ensures.value ∙ ap (λ r. r.args) c.formal.view_is) (c.as_slice-args.ensures.value ∙ ap (λ r. r.args) c.r.view_is) c.in_ok-behind-in-Some.ensures c.in-None-2.is c.in_ok-later-in-None-2.ensures
