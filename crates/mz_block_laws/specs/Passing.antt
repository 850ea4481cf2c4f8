-- What it means that one passes soundly from one place of a block to a later one.
use Rattle.std.specs.Prelude.{◌≡◌, ◌≤◌, true, List, ◌++◌, Some, None}
use Rattle.std.specs.List.{list_all}
use Rattle.mz_logic.specs.Formula.{Formula}
use Rattle.mz_logic.specs.Derives.{Derives}
use Rattle.mz_core.specs.Statement.{Statement}
use Rattle.mz_core.specs.Erasure.{erase}
use Rattle.mz_core.specs.Below.{statement_below}
use Rattle.mz_context.specs.Context.{next}
use Rattle.mz_context.specs.declared.context.Context.{Context}
use Rattle.mz_now.specs.Stated.{conjuncts_of, stated_by}
use Rattle.mz_now.specs.declared.now_part.NowPart.{NowPart}
use Rattle.mz_steps.specs.declared.block.Block.{Block}
use Rattle.mz_steps.specs.declared.block.Block.TheVariants.{Proof, Now}
use Rattle.mz_steps_laws.specs.Facts.{facts}
use Rattle.mz_steps_laws.specs.NowLaws.{StatesInForce}
use Rattle.mz_steps_laws.specs.HiddenLaws.{AllSaid}
use Rattle.mz_block_laws.specs.Orders.{Stands}

-- what derives in the later context, where the formulas `kept` are held besides, gives what is to derive in the earlier one,
-- where those of `held` are
abbrev pub Gives : List Formula → List Formula → Context → List Formula → Context → Statement → Statement → Type 0
Gives axioms held c kept d s t = Derives axioms (facts d ++ kept) (erase s) → Derives axioms (facts c ++ held) (erase t)

-- the thesis that is left in the later context, from which the thesis derives
pub record Leaves (axioms held : List Formula) (c : Context) (kept : List Formula) (d : Context) (thesis : Statement) : Type 0 where
  pub left : Statement
  pub is_left : d.thesis ≡ Some left
  pub stands : Stands (next d) left
  pub sound : Gives axioms held c kept d left thesis

-- what the parts state has no loose index
abbrev pub StatesClosed : List NowPart → Type 0
StatesClosed ps = list_all (statement_below 0) (conjuncts_of ps) ≡ true

-- the parts said from the one context up to the other, behind those before: with whatever is said behind them, what they
-- state derives where that does
pub record Says (axioms held : List Formula) (c : Context) (kept : List Formula) (d : Context) (before said : List NowPart) : Type 0 where
  pub may_be_said : AllSaid before said
  pub in_force : (behind : List NowPart) → AllSaid (before ++ said) behind → StatesInForce (next d) behind → StatesInForce (next c) (said ++ behind)
  pub is_closed : (behind : List NowPart) → StatesClosed behind → StatesClosed (said ++ behind)
  pub sound : (behind : List NowPart) → AllSaid (before ++ said) behind → StatesInForce (next d) behind → Gives axioms held c kept d (stated_by behind) (stated_by (said ++ behind))

-- where there is no thesis none comes, and each statement of the earlier context's constants derives in it where it derives in
-- the later one
pub record Keeps (axioms held : List Formula) (c : Context) (kept : List Formula) (d : Context) : Type 0 where
  pub no_thesis : d.thesis ≡ None
  pub later : next c ≤ next d
  pub sound : (s : Statement) → Stands (next c) s → Gives axioms held c kept d s s

-- in a proof something is left of the thesis, where there is one
pub record Proceeds (axioms held : List Formula) (c : Context) (kept : List Formula) (d : Context) : Type 0 where
  pub of_thesis : (thesis : Statement) → c.thesis ≡ Some thesis → Stands (next c) thesis → Leaves axioms held c kept d thesis
  pub of_none : c.thesis ≡ None → Keeps axioms held c kept d

-- in a `now` something is said
abbrev pub Passes : List Formula → List Formula → Context → Block → List Formula → Context → Block → Type 0
Passes axioms held c Proof kept d Proof = Proceeds axioms held c kept d
Passes axioms held c Proof kept d (Now qs) = ⊥
Passes axioms held c (Now ps) kept d Proof = ⊥
Passes axioms held c (Now ps) kept d (Now qs) = (said : List NowPart) × (qs ≡ ps ++ said) × Says axioms held c kept d ps said
