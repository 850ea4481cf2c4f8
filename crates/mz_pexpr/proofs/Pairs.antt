-- What the loop that gives each token its mark keeps.
use Rattle.std.proofs.Common.{◌≡◌, List, ◌++◌, map}
use Rattle.mz_base.specs.declared.token.Token.{Token}
use Rattle.mz_base.specs.declared.token.Mark.{Mark}
use Rattle.mz_base.specs.declared.token.MarkedToken.{MarkedToken}

-- `left` and `others` are the tokens and the marks that are left
pub record Pairing (tokens : List Token) (marks : List Mark) (all : List MarkedToken) (left : List Token) (others : List Mark) : Type 0 where
  pub tokens_are : map (λ m. m.token) all ++ left ≡ tokens
  pub marks_are : map (λ m. m.mark) all ++ others ≡ marks
