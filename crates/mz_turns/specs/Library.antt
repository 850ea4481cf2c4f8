-- The library of the accepted rows, and what of it an article is checked from.
use Rattle.std.specs.Prelude.{◌≡◌, ℕ, Bool, List, [], ◌∷◌, ◌++◌, ◌||◌, All, Contains}
use Rattle.std.specs.List.{filter}
use Rattle.mz_base.specs.Name.{is_built_in}
use Rattle.mz_core.specs.declared.outcome.Export.{Export}
use Rattle.mz_axioms.specs.BuiltIn.{built_in_exports}
use Rattle.mz_axioms.specs.Library.{AreInOrder, added}
use Rattle.mz_corpus.specs.Article.{Article}
use Rattle.mz_corpus.specs.Names.{is_among}
use Rattle.mz_turns.specs.Row.{Row, Waiting, Claimed, Accepted, Rejected, Blocked, Cyclic, Missing, row_at}

-- the library has the built-in exports and these, in the order of names, and no others
pub record IsLibrary (es library : List Export) : Type 0 where
  pub in_order : AreInOrder library
  pub has : All (Contains library) (built_in_exports ++ es)
  pub only : All (Contains (built_in_exports ++ es)) library

abbrev pub add_row : Row → List Export → List Export
add_row Waiting l = l
add_row (Claimed w) l = l
add_row (Accepted e) l = added e l
add_row (Rejected fs) l = l
add_row (Blocked n) l = l
add_row Cyclic l = l
add_row Missing l = l

-- the built-in exports and those of the accepted rows, in the order of names
abbrev pub library_of : List Row → List Export
library_of [] = built_in_exports
library_of (x ∷ rows) = add_row x (library_of rows)

-- the export is built in, or that of a dependency of the article, taken transitively
abbrev pub is_used_by : Article → Export → Bool
is_used_by a e = is_built_in e.name.number || is_among a.reach e.name

-- the exports from which the article is checked
abbrev pub environment : List Row → Article → List Export
environment rows a = filter (is_used_by a) (library_of rows)

-- no accepted row has an export of the name
abbrev pub IsFreshIn : List Row → Export → Type 0
IsFreshIn rows e = (q : ℕ) (f : Export) → row_at rows q ≡ Accepted f → e.name.number ≡ f.name.number → ⊥
