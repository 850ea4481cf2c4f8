use Rattle.std.proofs.Common.{sym, ◌∙◌}
use Rattle.mz_defined.specs.Functors.{pattern_unfit}
use Rattle.mz_heading.proofs.HeadingLemmas.{unread_type, read_type_so}
use Rattle.mz_heading.proofs.modes.take_abbreviation.Goals as goal

pub returns-in-None : goal.returns-in-None
returns-in-None g c = pattern_unfit (sym c.in_ok-mode_visible.ensures ∙ c.in-None.is)

pub returns-in-Err : goal.returns-in-Err
returns-in-Err g c =
    unread_type c.args.least c.args.s.now c.read_type.new.s _ c.args.t.now c.args.ws.now c.args.behind c.in-Some.v c.read_type.result c.in-Err.fault c.of_reading.result _ _
    (sym c.in_ok-mode_visible.ensures ∙ c.in-Some.is) c.read_type.ensures.reads c.in-Err.is c.of_reading.ensures

pub returns-in-Ok : goal.returns-in-Ok
returns-in-Ok g c =
    read_type_so c.args.least c.args.s.now c.read_type.new.s _ c.args.t.now c.args.ws.now c.args.behind c.in-Some.v c.read_type.result c.in-Ok.ty c.put_abbreviation.result _ _
    (sym c.in_ok-mode_visible.ensures ∙ c.in-Some.is) c.read_type.ensures.reads c.in-Ok.is c.read_type.ensures.same c.put_abbreviation.ensures
