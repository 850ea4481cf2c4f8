-- Answers about what fits, kept.
use Rattle.std.specs.Prelude.{Bool, List, [], ◌∷◌, ◌++◌, Option, ◌↔◌, IsTrue, All, Contains}
use Rattle.mz_logic.specs.declared.literal.Literal.{Literal}
use Rattle.mz_context.specs.declared.constants.Constant.{Constant}
use Rattle.mz_ground.specs.declared.clause.Clause.{Clause}
use Rattle.mz_fits.specs.Fits.{LiteralFits}
use Rattle.mz_answers.specs.declared.answer.Answer.{Answer}

abbrev pub answer : Literal → Bool → Answer
answer l b = record { literal = l; fits = b }

-- an answer tells rightly whether its literal fits
abbrev pub IsRight : List Clause → List (Option Constant) → Answer → Type 0
IsRight cs ks a = IsTrue a.fits ↔ LiteralFits cs ks a.literal

-- each answer does
pub record AreRight (cs : List Clause) (ks : List (Option Constant)) (xs : List Answer) : Type 0 where
  pub each : All (IsRight cs ks) xs

-- the answer about the literal is among these
pub record Has (xs : List Answer) (l : Literal) (b : Bool) : Type 0 where
  pub among : Contains xs (answer l b)

-- the answers before, or these and one more
pub data MayHave (before : List Answer) (a : Answer) : List Answer → Type 0 where
  as_before : MayHave before a before
  one_more : MayHave before a (before ++ a ∷ [])
