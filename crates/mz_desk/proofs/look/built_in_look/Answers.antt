use Rattle.std.proofs.Common.{map}
use Rattle.std.specs.Arc.{arc_value}
use Rattle.mz_base.proofs.NameEqual.{Name-equal}
use Rattle.mz_desk.proofs.LookLemmas.{not_missing}
use Rattle.mz_desk.proofs.look.built_in_look.Goals as goal

pub returns-in-Some : goal.returns-in-Some
returns-in-Some c = (c.in-Some.ensures.0, Name-equal (arc_value c.in-Some.export.now).name c.args.name.now c.in-Some.ensures.1)

pub returns-in-None : goal.returns-in-None
returns-in-None c = absurd (not_missing (map arc_value c.args.library.now) c.args.name.now.number c.requires.sound c.requires.built_in c.in-None.ensures)
