-- How blocks and contexts change by steps.
use Rattle.std.specs.Prelude.{List, [], ◌∷◌, ◌++◌, map, flat_map, Option, Some, None}
use Rattle.mz_core.specs.Statement.{Statement}
use Rattle.mz_core.specs.Parts.{conjunction}
use Rattle.mz_context.specs.Changes.{labelled, mark_of, cut_back}
use Rattle.mz_context.specs.declared.context.Context.{Context}
use Rattle.mz_context.specs.declared.labelled.LabelledStatement.{LabelledStatement}
use Rattle.mz_context.specs.declared.context.Mark.{Mark}
use Rattle.mz_steps.specs.Rows.{with_constants}
use Rattle.mz_now.specs.declared.now_part.NowPart.{NowPart}
use Rattle.mz_steps.specs.declared.read_step.ReadStep.{ReadStep}
use Rattle.mz_steps.specs.declared.block.Block.{Block}
use Rattle.mz_steps.specs.declared.block.Block.TheVariants.{Proof, Now}
use Rattle.mz_steps.specs.declared.block.Effect.{Effect}
use Rattle.mz_steps.specs.declared.block.Effect.TheVariants.{Unchanged, Leaves, Says}
use Rattle.mz_steps.specs.declared.block.Outside.{Outside}

-- the block behind a step that does this in it
abbrev pub block_after : Block → Effect → Block
block_after Proof e = Proof
block_after (Now ps) Unchanged = Now ps
block_after (Now ps) (Leaves s) = Now ps
block_after (Now ps) (Says qs) = Now (ps ++ qs)

-- the context with the thesis that is left
abbrev pub with_thesis : Context → Effect → Context
with_thesis c Unchanged = c
with_thesis c (Leaves s) = record c { thesis = Some s }
with_thesis c (Says ps) = c

abbrev pub statement_of : LabelledStatement → Statement
statement_of p = p.statement

-- the statement that propositions make for a step behind them; without any there is none
abbrev pub joined_by : List LabelledStatement → Option Statement
joined_by [] = None
joined_by (p ∷ ps) = Some (conjunction (map statement_of (p ∷ ps)))

abbrev pub label_of : LabelledStatement → List LabelledStatement
label_of p = labelled p.label p.statement

-- the context in which the propositions were stated last: each under its label, where it has one, and together the
-- statement just before
abbrev pub with_stated : Context → List LabelledStatement → Context
with_stated c ps = record c { labelled = c.labelled ++ flat_map label_of ps; previous = joined_by ps }

-- the context behind a step that does this and states the propositions
abbrev pub context_after : Context → ReadStep → Effect → List LabelledStatement → Context
context_after c s e ps = with_stated (with_thesis (with_constants c s) e) ps

-- what a block puts aside while it lasts
abbrev pub outside_of : Context → Outside
outside_of c = record { mark = mark_of c; previous = c.previous; thesis = c.thesis }

-- the context at the start of a proof of the thesis: there is no statement just before
abbrev pub at_start_of_proof : Context → Statement → Context
at_start_of_proof c thesis = record c { previous = None; thesis = Some thesis }

-- the context at the start of a `now`, in which `thesis` is read as around it
abbrev pub at_start_of_now : Context → Context
at_start_of_now c = record c { previous = None }

-- the context behind a block: what was put into force within is out of force, and what was aside is back
abbrev pub behind_block : Context → Outside → Context
behind_block c o = record (cut_back c o.mark) { previous = o.previous; thesis = o.thesis }
