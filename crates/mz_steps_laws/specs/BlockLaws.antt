-- Laws of blocks: behind a block the context is as it was.
use Rattle.std.specs.Prelude.{◌≡◌, List}
use Rattle.mz_context.specs.Changes.{trimmed}
use Rattle.mz_context.specs.Grown.{Grew}
use Rattle.mz_context.specs.declared.context.Context.{Context}
use Rattle.mz_context.specs.declared.labelled.LabelledStatement.{LabelledStatement}
use Rattle.mz_steps.specs.Changes.{context_after, outside_of, at_start_of_proof, at_start_of_now, behind_block}
use Rattle.mz_steps.specs.declared.block.Effect.{Effect}
use Rattle.mz_steps.specs.declared.read_step.ReadStep.{ReadStep}
use Rattle.mz_core.specs.Statement.{Statement}

-- a step only adds to the lists
abbrev pub StepGrowsLaw : Type 0
StepGrowsLaw = (c : Context) (s : ReadStep) (e : Effect) (ps : List LabelledStatement) → Grew c (context_after c s e ps)

-- so do several, one after another
abbrev pub MoreGrewLaw : Type 0
MoreGrewLaw = (c d e : Context) → Grew c d → Grew d e → Grew c e

-- and a block begins with nothing more
abbrev pub ProofGrewLaw : Type 0
ProofGrewLaw = (c : Context) (thesis : Statement) → Grew c (at_start_of_proof c thesis)

abbrev pub NowGrewLaw : Type 0
NowGrewLaw = (c : Context) → Grew c (at_start_of_now c)

-- behind a block the context is as it was before it, where its last constant was in force
abbrev pub BlockLaw : Type 0
BlockLaw = (c d : Context) → trimmed c.constants ≡ c.constants → Grew c d → behind_block d (outside_of c) ≡ c
