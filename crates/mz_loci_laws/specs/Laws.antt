-- Laws of blocks and their loci.
use Rattle.std.specs.Prelude.{◌≡◌, ℕ, true, List, length, Ok}
use Rattle.mz_core.specs.Closed.{loci_closed, statement_under}
use Rattle.mz_core.specs.Statement.{Statement}
use Rattle.mz_core.specs.declared.item.Item.{Item}
use Rattle.mz_core.specs.declared.outcome.Left.{Left}
use Rattle.mz_context.specs.Context.{next}
use Rattle.mz_let.specs.Lets.{Lets}
use Rattle.mz_loci.specs.Loci.{loci_from, locus_types, statement_over_loci, behind_loci}
use Rattle.mz_obligations.specs.declared.obligation.Obligation.{Obligation}
use Rattle.mz_resolve.specs.Calls.{FormulaRead}
use Rattle.mz_standing.specs.Standing.{with_left, with_context, with_item, behind_heading}
use Rattle.mz_standing.specs.declared.standing.Standing.{Standing}
use Rattle.mz_standing_laws.specs.Owed.{IsOwed}
use Rattle.mz_standing_laws.specs.Soundly.{Setting, axioms_at, StandsSoundly}
use Rattle.mz_taken.specs.Taken.{Made}
use Rattle.mz_tree.specs.Trees.{FormulaData}
use Rattle.mz_tree_part.specs.declared.notation.BlockLetTree.{BlockLetTree}
use Rattle.mz_loci_laws.specs.Block.{StandsInBlock}

-- where an article stands soundly, a block may begin
abbrev pub BlockLaw : Type 0
BlockLaw = (g : Setting) (s : Standing) → StandsSoundly g s → StandsInBlock g (next s.context) s

-- a `let` may declare loci
abbrev pub LetLaw : Type 0
LetLaw = (g : Setting) (least : ℕ) (s u : Standing) (t : BlockLetTree) (os : List Obligation) → StandsInBlock g least s → Lets least s t (Made os u) → StandsInBlock g least u

-- a heading may put an item in force that is owed there
abbrev pub HeadingLaw : Type 0
HeadingLaw =
    (g : Setting) (least : ℕ) (s : Standing) (x : Item) (label : List ℕ) (left : Left) → StandsInBlock g least s → IsOwed (axioms_at g s) x →
    StandsInBlock g least (with_left (with_context (with_item s x) (behind_heading s.context x label)) left)

-- and behind the block the article stands soundly
abbrev pub EndLaw : Type 0
EndLaw = (g : Setting) (least : ℕ) (s : Standing) → StandsInBlock g least s → StandsSoundly g (with_context s (behind_loci s.context least))

-- the types of loci have no constant and no loose index
abbrev pub TypesLaw : Type 0
TypesLaw = (g : Setting) (least : ℕ) (s : Standing) → StandsInBlock g least s → loci_closed (locus_types least (loci_from least s.context.constants)) ≡ true

-- nor has a formula that was read with them, where no constant below `least` may be used, as it stands under them
abbrev pub FormulaLaw : Type 0
FormulaLaw =
    (g : Setting) (least : ℕ) (s : Standing) (f : FormulaData) (d : Statement) (after : Left) → StandsInBlock g least s → FormulaRead s.environment s.context least s.left f (Ok d) after →
    statement_under (length (loci_from least s.context.constants)) (statement_over_loci least (length (loci_from least s.context.constants)) d) ≡ true
