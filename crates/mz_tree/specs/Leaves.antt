-- How the tokens that trees hold are stored.
use Rattle.std.specs.Prelude.{ℕ, List, [], ◌∷◌, Bool, true, false, Option, Some, None}
use base.Stored.{Gv, gnil, gnum, gcons}
use Rattle.mz_base.specs.declared.place.Place.{Place}
use Rattle.mz_tree.specs.declared.word.Word.{Word}
use Rattle.mz_tree.specs.declared.word.Comma.{Comma}
use Rattle.mz_tree.specs.declared.word.Being.{Being}

abbrev pub no_place : Place
no_place = record { line = 0; column = 0 }

abbrev pub no_word : Word
no_word = record { place = no_place; spelling = [] }

abbrev pub no_comma : Comma
no_comma = record { place = no_place; dividing = false }

abbrev pub no_being : Being
no_being = record { place = no_place; long = false }

abbrev pub numbers_gv : List ℕ → Gv
numbers_gv [] = gnil
numbers_gv (x ∷ xs) = gcons (gnum x) (numbers_gv xs)

abbrev pub place_gv : Place → Gv
place_gv a = gcons (gnum a.line) (gnum a.column)

abbrev pub word_gv : Word → Gv
word_gv a = gcons (place_gv a.place) (numbers_gv a.spelling)

abbrev pub bit : Bool → ℕ
bit true = 1
bit false = 0

abbrev pub comma_gv : Comma → Gv
comma_gv a = gcons (place_gv a.place) (gnum (bit a.dividing))

abbrev pub being_gv : Being → Gv
being_gv a = gcons (place_gv a.place) (gnum (bit a.long))

abbrev pub maybe_gv : Option Place → Gv
maybe_gv None = gcons (gnum 0) gnil
maybe_gv (Some a) = gcons (gnum 1) (place_gv a)
