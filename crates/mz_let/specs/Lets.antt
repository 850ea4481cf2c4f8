-- What comes of a `let` of a block.
use Rattle.std.specs.Prelude.{ℕ, List, [], Ok, Err}
use Rattle.mz_core.specs.declared.outcome.Left.{Left}
use Rattle.mz_justified.specs.declared.proof_fault.ProofRefusal.TheVariants.{Resolve}
use Rattle.mz_names.specs.Closing.{with_variables}
use Rattle.mz_names.specs.declared.refusal.Refusal.{Refusal}
use Rattle.mz_names.specs.declared.variable.Variable.{Variable}
use Rattle.mz_parts.specs.Declarations.{DeclarationsRead}
use Rattle.mz_standing.specs.Standing.{with_left, with_context}
use Rattle.mz_standing.specs.declared.standing.Standing.{Standing}
use Rattle.mz_taken.specs.Taken.{Taken, Made, Refused}
use Rattle.mz_taken.specs.declared.item_fault.ItemRefusal.TheVariants.{Proof}
use Rattle.mz_tree_part.specs.declared.notation.BlockLetTree.{BlockLetTree}

-- where the loci are in force
abbrev pub with_loci : Standing → List Variable → Left → Standing
with_loci s vs left = with_left (with_context s (with_variables s.context vs)) left

-- a `let` of a block in which constants below `least` may not be used: the variables that it declares are in force as loci. It makes no
-- obligation
pub data Lets (least : ℕ) (s : Standing) (t : BlockLetTree) : Taken Standing → Type 0 where
  not_declared : (r : Refusal) (after : Left) → DeclarationsRead s.environment s.context least s.left t.declarations (Err r) after → Lets least s t (Refused (Proof (Resolve r)))
  declared : (vs : List Variable) (after : Left) → DeclarationsRead s.environment s.context least s.left t.declarations (Ok vs) after → Lets least s t (Made [] (with_loci s vs after))
