use Rattle.std.proofs.Common.{◌∙◌}
use Rattle.mz_scheme.proofs.StateLemmas.{told_unread, told_unjustified, told_scheme}
use Rattle.mz_scheme.proofs.stating.StatingStateSchemes.scheme.Goals as goal

pub returns-in-Err : goal.returns-in-Err
returns-in-Err g c = told_unread _ _ _ c.read_heading.new.s _ _ _ _ _ _ c.in_ok-aside.ensures.standing c.read_heading.ensures.takes c.in-Err.is

pub returns-in-Err-justify : goal.returns-in-Err-justify
returns-in-Err-justify g c =
    told_unjustified _ _ _ c.read_heading.new.s _ c.justify.new.s _ _ _ _ _ _ _ _ _ _ c.in_ok-aside.ensures.standing c.read_heading.ensures.takes c.in-Ok.is c.read_heading.ensures.same c.in_ok-label_premises-in-Ok.ensures c.justify.ensures.made c.in-Err-justify.is
    c.of_reasoning.ensures

pub returns-in_ok-end_with-in-Ok-justify : goal.returns-in_ok-end_with-in-Ok-justify
returns-in_ok-end_with-in-Ok-justify g c =
    told_scheme _ _ c.read_heading.new.s _ c.justify.new.s _ _ _ _ _ _ _ _ _ (c.into_inner.ensures ∙ c.in_ok-aside.ensures.aside) c.in_ok-aside.ensures.standing c.read_heading.ensures.takes c.in-Ok.is c.read_heading.ensures.same c.in_ok-label_premises-in-Ok.ensures c.justify.ensures.made c.in-Ok-justify.is
    c.justify.ensures.same c.in_ok-end_with-in-Ok-justify.ensures
