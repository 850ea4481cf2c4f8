-- The tokens `=` and `set`.
use Rattle.std.specs.Prelude.{◌≡◌, Bool, true, false, ◌&&◌, List, [], ◌∷◌, Option, Some, None, codes}
use Rattle.std.specs.Str.{bytes_eq}
use Rattle.mz_base.specs.declared.place.Place.{Place}
use Rattle.mz_base.specs.declared.token.MarkedToken.{MarkedToken}
use Rattle.mz_forms.specs.Form.{Form, Agrees, one_of}
use Rattle.mz_tree.specs.Spelled.{reserved, equals_sign}
use Rattle.mz_pterm.specs.declared.sign.Sign.{Sign}
use Rattle.mz_pterm.specs.declared.sign.Sign.TheVariants as signs
use Rattle.mz_pterm.specs.Sign.{sign_of}
use Rattle.mz_patom.specs.Classes.{is_identifier}

abbrev pub is_predicate : Sign → Bool
is_predicate signs.Predicate = true
is_predicate _ = false

abbrev pub is_equals : MarkedToken → Bool
is_equals t = is_predicate (sign_of t) && bytes_eq t.token.spelling (codes "=")

abbrev pub equals_form : Form MarkedToken
equals_form = one_of Place equals_sign

abbrev pub set_word : Place → MarkedToken
set_word p = reserved p (codes "set")

abbrev pub set_form : Form MarkedToken
set_form = one_of Place set_word

-- The next token was taken where it is `=`, and else nothing was.
abbrev pub TakesEquals : List MarkedToken → Option Place → List MarkedToken → Type 0
TakesEquals before (Some p) after = before ≡ equals_sign p ∷ after
TakesEquals before None after = (before ≡ after) × ((p : Place) → Agrees before (equals_sign p ∷ []) → ⊥)

-- a name for a term comes next: an identifier, and `=` behind it
abbrev pub named_next : List MarkedToken → Bool
named_next [] = false
named_next (t ∷ []) = false
named_next (t ∷ (n ∷ rest)) = is_identifier (sign_of t) && is_equals n
