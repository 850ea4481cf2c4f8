-- What may be cited of an item, and its numbers.
use Rattle.std.specs.Prelude.{ℕ, ◌+◌, Bool, true, false, List, [], ◌∷◌, ◌++◌, Option, Some, None}
use Rattle.mz_core.specs.Statement.{Statement}
use Rattle.mz_core.specs.declared.scheme.Scheme.{Scheme}
use Rattle.mz_core.specs.declared.item.Item.{Item}
use Rattle.mz_core.specs.declared.item.Item.TheVariants as item
use Rattle.mz_items.specs.Items.{definitional_theorem}
use Rattle.mz_environment.specs.declared.numbering.Numbering.{Numbering}
use Rattle.mz_environment.specs.declared.cited.CitedStatement.{CitedStatement}
use Rattle.mz_environment.specs.declared.cited.CitedScheme.{CitedScheme}

-- the theorem that an item states
abbrev pub theorem_of : Item → Option Statement
theorem_of (item.Axiom s) = Some s
theorem_of (item.AxiomScheme s) = None
theorem_of (item.Primitive n) = None
theorem_of (item.Theorem s) = Some s
theorem_of (item.Scheme s) = None
theorem_of (item.FunctorMeans d) = None
theorem_of (item.FunctorEquals d) = None
theorem_of (item.Predicate d) = None
theorem_of (item.Attribute d) = None
theorem_of (item.ModeMeans d) = None
theorem_of (item.Abbreviation n) = None
theorem_of (item.Notation n) = None
theorem_of (item.RedefinedFunctor d) = None
theorem_of (item.RedefinedMode d) = None
theorem_of (item.RedefinedPredicate d) = None
theorem_of (item.RedefinedAttribute d) = None
theorem_of (item.Property p) = None
theorem_of (item.Existential r) = None
theorem_of (item.Conditional r) = None
theorem_of (item.Functorial r) = None
theorem_of (item.Reduction r) = None
theorem_of (item.Identification r) = None
theorem_of (item.Structure s) = None
theorem_of (item.SetTerm s) = None
theorem_of (item.Choice c) = None

-- the scheme that an item states
abbrev pub scheme_of : Item → Option Scheme
scheme_of (item.Axiom s) = None
scheme_of (item.AxiomScheme s) = Some s
scheme_of (item.Primitive n) = None
scheme_of (item.Theorem s) = None
scheme_of (item.Scheme s) = Some s
scheme_of (item.FunctorMeans d) = None
scheme_of (item.FunctorEquals d) = None
scheme_of (item.Predicate d) = None
scheme_of (item.Attribute d) = None
scheme_of (item.ModeMeans d) = None
scheme_of (item.Abbreviation n) = None
scheme_of (item.Notation n) = None
scheme_of (item.RedefinedFunctor d) = None
scheme_of (item.RedefinedMode d) = None
scheme_of (item.RedefinedPredicate d) = None
scheme_of (item.RedefinedAttribute d) = None
scheme_of (item.Property p) = None
scheme_of (item.Existential r) = None
scheme_of (item.Conditional r) = None
scheme_of (item.Functorial r) = None
scheme_of (item.Reduction r) = None
scheme_of (item.Identification r) = None
scheme_of (item.Structure s) = None
scheme_of (item.SetTerm s) = None
scheme_of (item.Choice c) = None

abbrev pub is_some : {X : Type 0} → Option X → Bool
is_some None = false
is_some (Some x) = true

-- the next number is one more than what stands above
abbrev pub statement_cited : Bool → ℕ → ℕ → Option Statement → List CitedStatement
statement_cited definition article above None = []
statement_cited definition article above (Some s) =
    record { article = article; is_definition = definition; number = above + 1; statement = s } ∷ []

abbrev pub scheme_cited : ℕ → ℕ → Option Scheme → List CitedScheme
scheme_cited article above None = []
scheme_cited article above (Some s) = record { article = article; number = above + 1; scheme = s } ∷ []

-- the theorem, and the definitional theorem, of an item that stands behind so many
abbrev pub statements_cited : Numbering → Item → List CitedStatement
statements_cited at x =
    statement_cited false at.article at.theorems (theorem_of x) ++ statement_cited true at.article at.definitions (definitional_theorem x)

abbrev pub schemes_cited : Numbering → Item → List CitedScheme
schemes_cited at x = scheme_cited at.article at.schemes (scheme_of x)

-- how many there are with one that may count
abbrev pub counted : ℕ → Bool → ℕ
counted count true = count + 1
counted count false = count

abbrev pub at_start : ℕ → Numbering
at_start article = record { article = article; theorems = 0; definitions = 0; schemes = 0 }

-- theorems, definitional theorems and schemes are numbered apart, in the order of the items
abbrev pub numbered : Numbering → Item → Numbering
numbered at x = record {
  article = at.article;
  theorems = counted at.theorems (is_some (theorem_of x));
  definitions = counted at.definitions (is_some (definitional_theorem x));
  schemes = counted at.schemes (is_some (scheme_of x));
}
