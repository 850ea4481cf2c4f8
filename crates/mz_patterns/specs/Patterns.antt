-- The visible loci of patterns, and patterns.
use Rattle.std.specs.Prelude.{◌≡◌, ℕ, Bool, true, false, ◌&&◌, if◌then◌else◌, List, [], ◌∷◌, ◌++◌, Option, Some, None}
use Rattle.mz_logic.specs.declared.kind.Kind.{Kind}
use Rattle.mz_core.specs.declared.pattern.Pattern.{Pattern}
use Rattle.mz_core.specs.declared.soft_type.SoftType.{SoftType}
use Rattle.mz_context.specs.declared.constants.Constant.{Constant}
use Rattle.mz_cited.specs.Cited.{members}
use Rattle.mz_items.specs.Closed.{are_distinct}
use Rattle.mz_loci.specs.Loci.{locus_named, are_fixed}
use Rattle.mz_tree.specs.declared.lists.Separated.{Separated}
use Rattle.mz_tree.specs.declared.word.Word.{Word}
use Rattle.mz_tree_heading.specs.declared.patterns.IdentifierTree.{IdentifierTree}
use Rattle.mz_tree_heading.specs.declared.patterns.LociTree.{LociTree}
use Rattle.mz_tree_heading.specs.declared.patterns.LociTree.TheVariants.{One, Several}
use Rattle.mz_patterns.specs.declared.visible.Visible.{Visible}

-- the identifiers on one side of a symbol
abbrev pub identifiers_in : Option (Separated IdentifierTree) → List IdentifierTree
identifiers_in None = []
identifiers_in (Some ws) = members ws

-- a word as an identifier, and the identifiers beside a symbol
abbrev pub identifier : Word → IdentifierTree
identifier w = record { name = w }

abbrev pub identifiers_of : LociTree → List IdentifierTree
identifiers_of (One w) = identifier w ∷ []
identifiers_of (Several left ws right) = members ws

abbrev pub identifiers_beside : Option LociTree → List IdentifierTree
identifiers_beside None = []
identifiers_beside (Some t) = identifiers_of t

-- places behind those before them, where there are both
abbrev pub behind : List ℕ → Option (List ℕ) → Option (List ℕ)
behind ns None = None
behind ns (Some ms) = Some (ns ++ ms)

abbrev pub place_behind : Option ℕ → Option (List ℕ) → Option (List ℕ)
place_behind None o = None
place_behind (Some n) o = behind (n ∷ []) o

-- the places, from 0, of the loci that the identifiers name, in their order; none where one of them names no locus
abbrev pub loci_named : List (Option Constant) → List IdentifierTree → Option (List ℕ)
loci_named ks [] = Some []
loci_named ks (w ∷ ws) = place_behind (locus_named ks w.name.spelling) (loci_named ks ws)

abbrev pub visible : List ℕ → List ℕ → Visible
visible left right = record { left = left; right = right }

-- both sides, where there are both
abbrev pub right_of : List ℕ → Option (List ℕ) → Option Visible
right_of left None = None
right_of left (Some right) = Some (visible left right)

abbrev pub both_sides : Option (List ℕ) → Option (List ℕ) → Option Visible
both_sides None right = None
both_sides (Some left) right = right_of left right

-- the loci, the constants from `least` on, are those that a form wants: no visible one is written twice, and the visible ones fix the
-- hidden ones
abbrev pub are_wanted : ℕ → List (Option Constant) → List ℕ → Bool
are_wanted least ks places = are_distinct places && are_fixed least places 0 ks

abbrev pub if_wanted : ℕ → List (Option Constant) → Option Visible → Option Visible
if_wanted least ks None = None
if_wanted least ks (Some v) = if are_wanted least ks (v.left ++ v.right) then Some v else None

-- the visible loci of a pattern with these identifiers before and behind its symbol; none where the loci are bad
abbrev pub visible_loci : ℕ → List (Option Constant) → List IdentifierTree → List IdentifierTree → Option Visible
visible_loci least ks left right = if_wanted least ks (both_sides (loci_named ks left) (loci_named ks right))

-- a pattern without a closing bracket
abbrev pub pattern : Kind → List ℕ → List SoftType → Visible → Pattern
pattern kind symbol loci v = record { symbol = symbol; closing = []; kind = kind; loci = loci; left = v.left; right = v.right }

-- the places, if there are any, were put behind others; or there are none
abbrev pub ArePut : Option (List ℕ) → Bool → List ℕ → List ℕ → Type 0
ArePut o true old new = behind old o ≡ Some new
ArePut o false old new = o ≡ None

-- one place, if there is one
abbrev pub alone : Option ℕ → Option (List ℕ)
alone o = place_behind o (Some [])
