-- The patterns of functors and modes.
use Rattle.std.specs.Prelude.{ℕ, List, [], codes, Option, Some, None}
use Rattle.mz_logic.specs.declared.kind.Kind.{Kind}
use Rattle.mz_core.specs.declared.pattern.Pattern.{Pattern}
use Rattle.mz_core.specs.declared.soft_type.SoftType.{SoftType}
use Rattle.mz_cited.specs.Cited.{members}
use Rattle.mz_tree_heading.specs.declared.patterns.FunctorPatternTree.{FunctorPatternTree}
use Rattle.mz_tree_heading.specs.declared.patterns.FunctorPatternTree.TheVariants.{Symbol, Brackets, Braces, Squares}
use Rattle.mz_tree_heading.specs.declared.patterns.IdentifierTree.{IdentifierTree}
use Rattle.mz_tree_heading.specs.declared.patterns.ModeLociTree.{ModeLociTree}
use Rattle.mz_tree_heading.specs.declared.patterns.ModePatternTree.{ModePatternTree}
use Rattle.mz_patterns.specs.Patterns.{identifiers_beside}
use Rattle.mz_patterns.specs.declared.visible.Visible.{Visible}

-- the identifiers before and behind the symbol of a functor; those within brackets stand behind the left one
abbrev pub functor_left : FunctorPatternTree → List IdentifierTree
functor_left (Symbol t) = identifiers_beside t.left
functor_left (Brackets l ws r) = []
functor_left (Braces l ws r) = []
functor_left (Squares l ws r) = []

abbrev pub functor_right : FunctorPatternTree → List IdentifierTree
functor_right (Symbol t) = identifiers_beside t.right
functor_right (Brackets l ws r) = members ws
functor_right (Braces l ws r) = members ws
functor_right (Squares l ws r) = members ws

-- its symbol, of brackets the left one, and the right bracket, which is empty elsewhere
abbrev pub functor_symbol : FunctorPatternTree → List ℕ
functor_symbol (Symbol t) = t.symbol.spelling
functor_symbol (Brackets l ws r) = l.spelling
functor_symbol (Braces l ws r) = codes "{"
functor_symbol (Squares l ws r) = codes "["

abbrev pub functor_closing : FunctorPatternTree → List ℕ
functor_closing (Symbol t) = []
functor_closing (Brackets l ws r) = r.spelling
functor_closing (Braces l ws r) = codes "}"
functor_closing (Squares l ws r) = codes "]"

-- a mode's loci stand behind its symbol
abbrev pub identifiers_behind : Option ModeLociTree → List IdentifierTree
identifiers_behind None = []
identifiers_behind (Some t) = members t.identifiers

abbrev pub mode_right : ModePatternTree → List IdentifierTree
mode_right t = identifiers_behind t.loci

-- a pattern with a closing bracket
abbrev pub closed_pattern : Kind → List ℕ → List ℕ → List SoftType → Visible → Pattern
closed_pattern kind symbol closing loci v = record { symbol = symbol; closing = closing; kind = kind; loci = loci; left = v.left; right = v.right }
