-- What atoms and equations are unfolded to.
use Rattle.std.specs.Prelude.{Bool, true, false, ◌&&◌, List, [], ◌∷◌, ◌++◌, length, map, Option, Some, None}
use Rattle.mz_logic.specs.Term as term
use Rattle.mz_logic.specs.Term.{Bound, Const, App}
use Rattle.mz_logic.specs.Substitution.{shift}
use Rattle.mz_logic.specs.declared.literal.Literal.{Literal}
use Rattle.mz_logic.specs.declared.literal.Literal.TheVariants as literal
use Rattle.mz_core.specs.Statement.{Statement}
use Rattle.mz_core.specs.StatementForms.{opposite}
use Rattle.mz_core.specs.declared.soft_type.SoftType.{SoftType}
use Rattle.mz_core.specs.declared.formula_definiens.FormulaDefiniens.{FormulaDefiniens}
use Rattle.mz_core.specs.declared.formula_definiens.FormulaDefiniens.TheVariants.{Plain, Cases, CasesOtherwise}
use Rattle.mz_core.specs.declared.redefinition.FunctorMeaning.{FunctorMeaning}
use Rattle.mz_core.specs.declared.redefinition.FunctorMeaning.TheVariants.{Means, Equals}
use Rattle.mz_core.specs.declared.item.Item.{Item}
use Rattle.mz_core.specs.declared.item.Item.TheVariants.{Axiom, AxiomScheme, Primitive, Theorem, Scheme, FunctorMeans, FunctorEquals, Predicate, Attribute, ModeMeans, Abbreviation, Notation, RedefinedFunctor, RedefinedMode, RedefinedPredicate, RedefinedAttribute, Property, Existential, Conditional, Functorial, Reduction, Identification, Structure, SetTerm, Choice}
use Rattle.mz_ground.specs.Variables.{has_all_below}
use Rattle.mz_ground.specs.declared.trigger.Trigger.{Trigger}
use Rattle.mz_ground.specs.declared.trigger.Trigger.TheVariants.{Term, Atom}
use Rattle.mz_items.specs.Loci.{term_on, predicate_on, attribute_on, mode_on}
use Rattle.mz_items.specs.RedefinitionRows.{type_or}
use Rattle.mz_environment.specs.Rows.{is_bare, is_mode, has_loci}
use Rattle.mz_environment.specs.declared.unfoldings.Unfolding.{Unfolding}

abbrev pub unfolding_of : List SoftType → Trigger → Statement → Unfolding
unfolding_of loci r d = record { loci = loci; head = r; definiens = d }

-- an unfolding of what has all loci
abbrev pub unfolding_where : Bool → List SoftType → Trigger → Statement → List Unfolding
unfolding_where true loci r d = unfolding_of loci r d ∷ []
unfolding_where false loci r d = []

-- an atom whose negation has the definiens has the negated definiens
abbrev pub signed_definiens : Bool → Statement → Statement
signed_definiens true d = d
signed_definiens false d = opposite d

-- an atom is unfolded to its definiens; an equation is not
abbrev pub literal_unfoldings : List SoftType → Literal → Statement → List Unfolding
literal_unfoldings loci (literal.Eq positive t u) d = []
literal_unfoldings loci (literal.Atom positive s ts) d =
    unfolding_where (has_all_below (length loci) (Atom s ts)) loci (Atom s ts) (signed_definiens positive d)

-- that of a definiens without cases
abbrev pub literal_definition : List SoftType → Literal → FormulaDefiniens → List Unfolding
literal_definition loci l (Plain d) = literal_unfoldings loci l d
literal_definition loci l (Cases cases) = []
literal_definition loci l (CasesOtherwise cases d) = []

abbrev pub literal_redefinition : List SoftType → Literal → Option FormulaDefiniens → List Unfolding
literal_redefinition loci l None = []
literal_redefinition loci l (Some d) = literal_definition loci l d

-- the atom of a mode at its subject, which is a further locus of the type T
abbrev pub mode_unfoldings : List SoftType → SoftType → SoftType → Statement → List Unfolding
mode_unfoldings loci mode ty d =
    unfolding_where (is_bare mode && is_mode mode.radix.sym.kind && has_loci loci mode) (loci ++ ty ∷ []) (Atom mode.radix.sym (map (shift 0 1) mode.radix.args ++ Bound 0 ∷ [])) d

abbrev pub mode_definition : List SoftType → SoftType → SoftType → FormulaDefiniens → List Unfolding
mode_definition loci mode ty (Plain d) = mode_unfoldings loci mode ty d
mode_definition loci mode ty (Cases cases) = []
mode_definition loci mode ty (CasesOtherwise cases d) = []

abbrev pub mode_redefinition : List SoftType → SoftType → SoftType → Option FormulaDefiniens → List Unfolding
mode_redefinition loci mode ty None = []
mode_redefinition loci mode ty (Some d) = mode_definition loci mode ty d

abbrev pub is_application : term.Term → Bool
is_application (Bound index) = false
is_application (Const number) = false
is_application (App s ts) = true

-- the equation of F and y, which is a further locus of the type T
abbrev pub equation_unfoldings : List SoftType → term.Term → SoftType → Statement → List Unfolding
equation_unfoldings loci t ty d =
    unfolding_where (is_application t && has_all_below (length loci) (Term t)) (loci ++ ty ∷ []) (Term (shift 0 1 t)) d

abbrev pub functor_definition : List SoftType → term.Term → SoftType → FormulaDefiniens → List Unfolding
functor_definition loci t ty (Plain d) = equation_unfoldings loci t ty d
functor_definition loci t ty (Cases cases) = []
functor_definition loci t ty (CasesOtherwise cases d) = []

abbrev pub functor_redefinition : List SoftType → term.Term → SoftType → Option FunctorMeaning → List Unfolding
functor_redefinition loci t ty None = []
functor_redefinition loci t ty (Some (Means d)) = functor_definition loci t ty d
functor_redefinition loci t ty (Some (Equals d)) = []

-- the unfolding of an item, if it has one
abbrev pub unfoldings_of : Item → List Unfolding
unfoldings_of (Axiom s) = []
unfoldings_of (AxiomScheme s) = []
unfoldings_of (Primitive n) = []
unfoldings_of (Theorem s) = []
unfoldings_of (Scheme s) = []
unfoldings_of (FunctorMeans d) = functor_definition d.pattern.loci (term_on d.pattern.loci d.sym) d.ty d.definiens
unfoldings_of (FunctorEquals d) = []
unfoldings_of (Predicate d) = literal_definition d.pattern.loci (predicate_on d.pattern.loci d.sym) d.definiens
unfoldings_of (Attribute d) = literal_definition d.pattern.loci (attribute_on d.pattern.loci d.subject d.sym) d.definiens
unfoldings_of (ModeMeans d) = mode_definition d.pattern.loci (mode_on d.pattern.loci d.sym) d.ty d.definiens
unfoldings_of (Abbreviation n) = []
unfoldings_of (Notation n) = []
unfoldings_of (RedefinedFunctor d) = functor_redefinition d.pattern.loci d.term (type_or d.ty d.old) d.meaning
unfoldings_of (RedefinedMode d) = mode_redefinition d.pattern.loci d.mode (type_or d.ty d.old) d.meaning
unfoldings_of (RedefinedPredicate d) = literal_redefinition d.pattern.loci d.literal d.meaning
unfoldings_of (RedefinedAttribute d) = literal_redefinition d.pattern.loci d.literal d.meaning
unfoldings_of (Property p) = []
unfoldings_of (Existential r) = []
unfoldings_of (Conditional r) = []
unfoldings_of (Functorial r) = []
unfoldings_of (Reduction r) = []
unfoldings_of (Identification r) = []
unfoldings_of (Structure s) = []
unfoldings_of (SetTerm s) = []
unfoldings_of (Choice c) = []
