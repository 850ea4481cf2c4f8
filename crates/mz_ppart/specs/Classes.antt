-- The sets of tokens that parts of items begin with.
use Rattle.std.specs.Prelude.{Bool, true, false, ◌||◌, is_some}
use Rattle.mz_base.specs.Name.{is_name}
use Rattle.mz_base.specs.declared.token.MarkedToken.{MarkedToken}
use Rattle.mz_pterm.specs.Classes.{is_open}
use Rattle.mz_pterm.specs.Sign.{sign_of}
use Rattle.mz_ptype.specs.Classes.{is_over}
use Rattle.mz_patom.specs.Classes.{is_open_square}
use Rattle.mz_pjustification.specs.declared.keyword.Keyword.{Keyword}
use Rattle.mz_pjustification.specs.declared.keyword.Keyword.TheVariants as keywords
use Rattle.mz_pjustification.specs.Keyword.{keyword_of}
use Rattle.mz_tree_part.specs.Keywords.{notation_word}
use Rattle.mz_ppart.specs.WordLists.{notations, first_of}

abbrev pub is_let : Keyword → Bool
is_let keywords.Let = true
is_let _ = false

abbrev pub begins_let : MarkedToken → Bool
begins_let t = is_let (keyword_of t)

abbrev pub begins_notation_part : MarkedToken → Bool
begins_notation_part t = is_some (first_of notation_word notations t) || begins_let t

abbrev pub opens_square : MarkedToken → Bool
opens_square t = is_open_square (sign_of t)

abbrev pub begins_ancestors : MarkedToken → Bool
begins_ancestors t = is_open (sign_of t)

abbrev pub begins_structure_loci : MarkedToken → Bool
begins_structure_loci t = is_over (sign_of t)

-- the token is spelled as a name is
abbrev pub spells_name : MarkedToken → Bool
spells_name t = is_name t.token.spelling
