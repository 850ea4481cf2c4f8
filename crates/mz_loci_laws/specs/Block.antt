-- Where a reading stands within a block.
use Rattle.std.specs.Prelude.{◌≡◌, ℕ, List}
use Rattle.mz_context.specs.Context.{next}
use Rattle.mz_context.specs.declared.context.Context.{Context}
use Rattle.mz_names.specs.Closing.{with_variables}
use Rattle.mz_names.specs.declared.variable.Variable.{Variable}
use Rattle.mz_standing.specs.Standing.{with_context}
use Rattle.mz_standing.specs.declared.standing.Standing.{Standing}
use Rattle.mz_standing_laws.specs.Soundly.{Setting, StandsSoundly}
use Rattle.mz_term_laws.specs.ChangeLaws.{AreUsable}

-- Without the block's loci the article stands soundly there; the loci are the constants from `least` on, and the type of each has no
-- constants but loci before it. With them it may not stand soundly: their types may be of nothing.
pub record StandsInBlock (g : Setting) (least : ℕ) (s : Standing) : Type 0 where
  pub outside : Context
  pub loci : List Variable
  pub sound : StandsSoundly g (with_context s outside)
  pub first : next outside ≡ least
  pub here : s.context ≡ with_variables outside loci
  pub usable : AreUsable least outside loci
