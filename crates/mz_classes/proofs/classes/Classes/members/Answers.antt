use Rattle.std.proofs.Common.{arith, ap, ◌∙◌}
use Rattle.std.specs.Prelude.{slice_index}
use Rattle.mz_classes.proofs.ClassLemmas.{told_members, told_none, told_past, told_other}
use Rattle.mz_classes.proofs.classes.Classes.members.Goals as goal
use Rattle.mz_classes.proofs.classes.Classes.members.Goals.{then-class-len-via-then-class-len, then-class-len-via-else-class-len+then-class_of-class}

pub returns-then-class-len : goal.returns-then-class-len
returns-then-class-len c =
    elim c.then-class-len.branch [
      | then-class-len-via-then-class-len w ↦ told_past _ _ _ _ c.args.self.now.empty (omega (arith, w.if-class-len.true, c.len.ensures))
      | then-class-len-via-else-class-len+then-class_of-class w ↦ told_other _ _ _ _ _ c.args.self.now.empty w.class_of.ensures w.if-class_of-class.true
    ]

pub returns-in-Some : goal.returns-in-Some
returns-in-Some c = told_members _ _ _ _ _ _ _ c.args.self.now.member_lists c.args.self.now.within (omega (arith, c.if-class-len.false, c.len.ensures)) c.class_of.ensures c.if-class_of-class.false (c.class_at.ensures ∙ ap (slice_index c.args.self.now.table.classes.items) c.term_place.ensures.place) c.in-Some.ensures

pub returns-in-None : goal.returns-in-None
returns-in-None c = told_none _ _ _ _ _ _ _ c.args.self.now.member_lists c.args.self.now.within (omega (arith, c.if-class-len.false, c.len.ensures)) c.class_of.ensures c.if-class_of-class.false (c.class_at.ensures ∙ ap (slice_index c.args.self.now.table.classes.items) c.term_place.ensures.place) c.in-None.ensures c.args.self.now.empty
