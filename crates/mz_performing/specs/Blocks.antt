-- Contexts behind blocks.
use Rattle.std.specs.Prelude.{take}
use Rattle.mz_context.specs.declared.context.Context.{Context}
use Rattle.mz_steps.specs.declared.block.Outside.{Outside}

-- the lists as long as they were before a block, and what was put aside back
abbrev pub restored : Context → Outside → Context
restored c o = record c { constants = take o.mark.constants c.constants; reserved = take o.mark.reserved c.reserved; labelled = take o.mark.labelled c.labelled; functors = take o.mark.functors c.functors; predicates = take o.mark.predicates c.predicates; letters = take o.mark.letters c.letters; previous = o.previous; thesis = o.thesis }
