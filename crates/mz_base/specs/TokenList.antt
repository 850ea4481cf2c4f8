-- What contracts see of the tokens of a text.
use Rattle.std.specs.Prelude.{List}
use Rattle.mz_base.specs.declared.place.Place.{Place}
use Rattle.mz_base.specs.declared.token.Token.{Token}

-- the tokens in order, and the place just after the text's last byte
pub record TokenList : Type 0 where
  pub items : List Token
  pub end : Place
