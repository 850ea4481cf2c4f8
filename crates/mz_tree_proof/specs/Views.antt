-- What nodes are seen as.
use Rattle.mz_tree_proof.specs.Reasoning.{JustData, CompactData, StatementData, StepData, SupposeData, SimpleJust, ProofJust, StatedCompact, CompactStatement, NowStatement, IntroductionStatement, StatementStep, ThusStep, HenceStep, HerebyStep, SkeletonStep, CasesStep, CaseSuppose, steps_of, supposes_of}
use Rattle.mz_tree_proof.specs.declared.reasoning.JustNode.{JustNode}
use Rattle.mz_tree_proof.specs.declared.reasoning.JustNode.TheVariants as just
use Rattle.mz_tree_proof.specs.declared.reasoning.CompactNode.{CompactNode}
use Rattle.mz_tree_proof.specs.declared.reasoning.CompactNode.TheVariants as compact
use Rattle.mz_tree_proof.specs.declared.reasoning.StatementNode.{StatementNode}
use Rattle.mz_tree_proof.specs.declared.reasoning.StatementNode.TheVariants as statement
use Rattle.mz_tree_proof.specs.declared.reasoning.StepNode.{StepNode}
use Rattle.mz_tree_proof.specs.declared.reasoning.StepNode.TheVariants as step
use Rattle.mz_tree_proof.specs.declared.reasoning.SupposeNode.{SupposeNode}
use Rattle.mz_tree_proof.specs.declared.reasoning.SupposeNode.TheVariants as suppose

abbrev pub just_view : JustNode → JustData
just_view (just.Simple a) = SimpleJust a
just_view (just.Proof a b c) = ProofJust a (steps_of b) c

abbrev pub compact_view : CompactNode → CompactData
compact_view (compact.Stated a b c d) = StatedCompact a b.value c d

abbrev pub statement_view : StatementNode → StatementData
statement_view (statement.Compact a b) = CompactStatement a b.value
statement_view (statement.Now a b c d e) = NowStatement a b (steps_of c) d e
statement_view (statement.Introduction a) = IntroductionStatement a

abbrev pub step_view : StepNode → StepData
step_view (step.Statement a) = StatementStep a.value
step_view (step.Thus a b) = ThusStep a b.value
step_view (step.Hence a b) = HenceStep a b.value
step_view (step.Hereby a b c d) = HerebyStep a (steps_of b) c d
step_view (step.Skeleton a) = SkeletonStep a
step_view (step.Cases a b c) = CasesStep a b.value (supposes_of c)

abbrev pub suppose_view : SupposeNode → SupposeData
suppose_view (suppose.Case a b c d e f) = CaseSuppose a b c (steps_of d) e f
