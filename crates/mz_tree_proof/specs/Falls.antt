-- The parts of a node are smaller than the node.
use Rattle.std.specs.Prelude.{◌≤◌, max}
use Rattle.std.proofs.Common.{arith}
use Rattle.mz_tree_proof.specs.Reasoning.{just_size, compact_size, statement_size, step_size, suppose_size}
use Rattle.mz_tree_proof.specs.Views.{just_view, compact_view, statement_view, step_view, suppose_view}
use Rattle.mz_tree_proof.specs.declared.reasoning.JustNode.{JustNode}
use Rattle.mz_tree_proof.specs.declared.reasoning.JustNode.TheVariants as just
use Rattle.mz_tree_proof.specs.declared.reasoning.CompactTree.TheDeep.{deep-JustNode}
use Rattle.mz_tree_proof.specs.declared.reasoning.CompactNode.{CompactNode}
use Rattle.mz_tree_proof.specs.declared.reasoning.CompactNode.TheVariants as compact
use Rattle.mz_tree_proof.specs.declared.reasoning.CompactTree.TheDeep.{deep-CompactNode}
use Rattle.mz_tree_proof.specs.declared.reasoning.StatementNode.{StatementNode}
use Rattle.mz_tree_proof.specs.declared.reasoning.StatementNode.TheVariants as statement
use Rattle.mz_tree_proof.specs.declared.reasoning.CompactTree.TheDeep.{deep-StatementNode}
use Rattle.mz_tree_proof.specs.declared.reasoning.StepNode.{StepNode}
use Rattle.mz_tree_proof.specs.declared.reasoning.StepNode.TheVariants as step
use Rattle.mz_tree_proof.specs.declared.reasoning.CompactTree.TheDeep.{deep-StepNode}
use Rattle.mz_tree_proof.specs.declared.reasoning.SupposeNode.{SupposeNode}
use Rattle.mz_tree_proof.specs.declared.reasoning.SupposeNode.TheVariants as suppose
use Rattle.mz_tree_proof.specs.declared.reasoning.CompactTree.TheDeep.{deep-SupposeNode}

pub just_falls : (n : JustNode) → max (deep-JustNode n) 0 ≤ just_size (just_view n)
just_falls (just.Simple a) = omega arith
just_falls (just.Proof a b c) = omega arith

pub compact_falls : (n : CompactNode) → max (deep-CompactNode n) 0 ≤ compact_size (compact_view n)
compact_falls (compact.Stated a b c d) = omega arith

pub statement_falls : (n : StatementNode) → max (deep-StatementNode n) 0 ≤ statement_size (statement_view n)
statement_falls (statement.Compact a b) = omega arith
statement_falls (statement.Now a b c d e) = omega arith
statement_falls (statement.Introduction a) = omega arith

pub step_falls : (n : StepNode) → max (deep-StepNode n) 0 ≤ step_size (step_view n)
step_falls (step.Statement a) = omega arith
step_falls (step.Thus a b) = omega arith
step_falls (step.Hence a b) = omega arith
step_falls (step.Hereby a b c d) = omega arith
step_falls (step.Skeleton a) = omega arith
step_falls (step.Cases a b c) = omega arith

pub suppose_falls : (n : SupposeNode) → max (deep-SupposeNode n) 0 ≤ suppose_size (suppose_view n)
suppose_falls (suppose.Case a b c d e f) = omega arith
