use Rattle.mz_grouping.specs.Open.{head}
use Rattle.mz_grouping.proofs.GroupingLemmas.{told_beats, told_stands, told_taken, told_opened}
use Rattle.mz_grouping.proofs.grouping.put_part.Goals as goal

pub close_beaten-requires-clause-beats : goal.close_beaten-requires-clause-beats
close_beaten-requires-clause-beats c =
    told_beats c.args.parts.now c.args.k c.args.waiting.now c.args.steps.now.items (head c.args.k c.in-Symbol.rank c.in-Symbol.after) c.requires.ready

pub returns-in_ok-push-in-Operand : goal.returns-in_ok-push-in-Operand
returns-in_ok-push-in-Operand c =
    told_taken c.args.parts.now c.args.k c.args.waiting.now c.args.steps.now.items c.push.new.self.items c.args.part
    c.requires.within c.requires.part c.in-Operand.is c.in_ok-push-in-Operand.ensures.items c.requires.ready

pub returns-in_ok-push-in-Symbol : goal.returns-in_ok-push-in-Symbol
returns-in_ok-push-in-Symbol c =
    told_opened c.args.parts.now c.args.k c.args.waiting.now c.close_beaten.new.waiting c.push-in-Symbol.new.self c.args.steps.now.items c.close_beaten.new.steps.items c.args.part c.in-Symbol.rank c.in-Symbol.after c.stands_before-left.result
    c.requires.within c.requires.part c.in-Symbol.is c.requires.ready
    c.in_ok-close_beaten-in-Symbol.ensures.stands c.in_ok-close_beaten-in-Symbol.ensures.beats c.in_ok-close_beaten-in-Symbol.ensures.top c.stands_before-left.ensures c.in_ok-push-in-Symbol.ensures

pub close_beaten-requires-clause-stands : goal.close_beaten-requires-clause-stands
close_beaten-requires-clause-stands c = told_stands c.args.parts.now c.args.k c.args.waiting.now c.args.steps.now.items c.requires.ready
