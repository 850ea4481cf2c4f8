-- The types of applications and of radices, as definitions and redefinitions state them.
use Rattle.std.specs.Prelude.{Bool, true, false, ◌&&◌, not, List, [], ◌∷◌, length, Option, Some, None}
use Rattle.mz_logic.specs.declared.sym.Sym.{Sym}
use Rattle.mz_logic.specs.declared.kind.Kind.{Kind}
use Rattle.mz_logic.specs.declared.kind.Kind.TheVariants as kind
use Rattle.mz_logic.specs.Term as term
use Rattle.mz_logic.specs.Term.{Bound, Const, App, list_of}
use Rattle.mz_core.specs.Hidden.{is_of_any_object, set_type}
use Rattle.mz_core.specs.declared.adjective.Adjective.{Adjective}
use Rattle.mz_core.specs.declared.soft_type.SoftType.{SoftType}
use Rattle.mz_core.specs.declared.scheme.SchemeLetter.{SchemeLetter}
use Rattle.mz_core.specs.declared.scheme.SchemeLetter.TheVariants.{OfFunctor, OfPredicate}
use Rattle.mz_core.specs.declared.item.Item.{Item}
use Rattle.mz_core.specs.declared.item.Item.TheVariants.{Axiom, AxiomScheme, Primitive, Theorem, Scheme, FunctorMeans, FunctorEquals, Predicate, Attribute, ModeMeans, Abbreviation, Notation, RedefinedFunctor, RedefinedMode, RedefinedPredicate, RedefinedAttribute, Property, Existential, Conditional, Functorial, Reduction, Identification, Structure, SetTerm, Choice}
use Rattle.mz_ground.specs.Variables.{has_all_below}
use Rattle.mz_ground.specs.declared.trigger.Trigger.TheVariants.{Term, Atom}
use Rattle.mz_items.specs.Loci.{variables}
use Rattle.mz_environment.specs.declared.rows.Row.{Row}

abbrev pub row : List SoftType → Sym → List term.Term → SoftType → Row
row loci s ts ty = record { loci = loci; sym = s; args = ts; ty = ty }

-- the symbol on all loci
abbrev pub row_on : List SoftType → Sym → SoftType → Row
row_on loci s ty = row loci s (variables 0 (length loci)) ty

-- a row of a redefinition, which has all loci
abbrev pub row_where : Bool → Row → List Row
row_where true r = r ∷ []
row_where false r = []

-- the new type of an application that has all loci
abbrev pub redefined_functor_rows : List SoftType → term.Term → Option SoftType → List Row
redefined_functor_rows loci t None = []
redefined_functor_rows loci (Bound index) (Some ty) = []
redefined_functor_rows loci (Const number) (Some ty) = []
redefined_functor_rows loci (App s ts) (Some ty) =
    row_where (has_all_below (length loci) (Term (App s ts))) (row loci s (list_of ts) ty)

-- types whose radix has a literal, without adjectives
abbrev pub is_empty : List Adjective → Bool
is_empty [] = true
is_empty (a ∷ more) = false

abbrev pub is_bare : SoftType → Bool
is_bare ty = is_empty ty.adjectives && not (is_of_any_object ty.radix.sym)

abbrev pub is_mode : Kind → Bool
is_mode kind.Mode = true
is_mode kind.Structure = false
is_mode kind.Attribute = false
is_mode kind.Functor = false
is_mode kind.Selector = false
is_mode kind.Aggregate = false
is_mode kind.Predicate = false
is_mode kind.LetterFunctor = false
is_mode kind.LetterPredicate = false

-- the new type of a mode that has all loci and no adjectives
abbrev pub has_loci : List SoftType → SoftType → Bool
has_loci loci mode = has_all_below (length loci) (Atom mode.radix.sym mode.radix.args)

abbrev pub redefined_mode_rows : List SoftType → SoftType → Option SoftType → List Row
redefined_mode_rows loci mode None = []
redefined_mode_rows loci mode (Some ty) =
    row_where (is_bare mode && is_mode mode.radix.sym.kind && has_loci loci mode) (row loci mode.radix.sym mode.radix.args ty)

-- the types of functors' applications
abbrev pub functor_rows : Item → List Row
functor_rows (Axiom s) = []
functor_rows (AxiomScheme s) = []
functor_rows (Primitive n) = []
functor_rows (Theorem s) = []
functor_rows (Scheme s) = []
functor_rows (FunctorMeans d) = row_on d.pattern.loci d.sym d.ty ∷ []
functor_rows (FunctorEquals d) = row_on d.pattern.loci d.sym d.ty ∷ []
functor_rows (Predicate d) = []
functor_rows (Attribute d) = []
functor_rows (ModeMeans d) = []
functor_rows (Abbreviation n) = []
functor_rows (Notation n) = []
functor_rows (RedefinedFunctor d) = redefined_functor_rows d.pattern.loci d.term d.ty
functor_rows (RedefinedMode d) = []
functor_rows (RedefinedPredicate d) = []
functor_rows (RedefinedAttribute d) = []
functor_rows (Property p) = []
functor_rows (Existential r) = []
functor_rows (Conditional r) = []
functor_rows (Functorial r) = []
functor_rows (Reduction r) = []
functor_rows (Identification r) = []
functor_rows (Structure s) = []
functor_rows (SetTerm s) = row_on s.loci s.sym set_type ∷ []
functor_rows (Choice c) = row_on c.loci c.sym c.ty ∷ []

-- the parents of modes
abbrev pub mode_rows : Item → List Row
mode_rows (Axiom s) = []
mode_rows (AxiomScheme s) = []
mode_rows (Primitive n) = []
mode_rows (Theorem s) = []
mode_rows (Scheme s) = []
mode_rows (FunctorMeans d) = []
mode_rows (FunctorEquals d) = []
mode_rows (Predicate d) = []
mode_rows (Attribute d) = []
mode_rows (ModeMeans d) = row_on d.pattern.loci d.sym d.ty ∷ []
mode_rows (Abbreviation n) = []
mode_rows (Notation n) = []
mode_rows (RedefinedFunctor d) = []
mode_rows (RedefinedMode d) = redefined_mode_rows d.pattern.loci d.mode d.ty
mode_rows (RedefinedPredicate d) = []
mode_rows (RedefinedAttribute d) = []
mode_rows (Property p) = []
mode_rows (Existential r) = []
mode_rows (Conditional r) = []
mode_rows (Functorial r) = []
mode_rows (Reduction r) = []
mode_rows (Identification r) = []
mode_rows (Structure s) = []
mode_rows (SetTerm s) = []
mode_rows (Choice c) = []

-- the type of a functor letter, on its places
abbrev pub letter_rows : SchemeLetter → List Row
letter_rows (OfFunctor s places ty) = row_on places s ty ∷ []
letter_rows (OfPredicate s places) = []
