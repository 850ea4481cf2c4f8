-- What formulas are read to, or the first refusal in the order of the reading.
use Rattle.std.specs.Prelude.{◌≡◌, ℕ, List, [], ◌∷◌, Option, Some, None, Result, Ok, Err}
use Rattle.mz_base.specs.declared.place.Place.{Place}
use Rattle.mz_core.specs.Statement.{Statement, Truth, Not}
use Rattle.mz_context.specs.Context.{next}
use Rattle.mz_context.specs.declared.context.Context.{Context}
use Rattle.mz_environment.specs.declared.environment.Environment.{Environment}
use Rattle.mz_names.specs.Closing.{with_variables}
use Rattle.mz_names.specs.declared.refusal.Refusal.{Refusal}
use Rattle.mz_names.specs.declared.variable.Variable.{Variable}
use Rattle.mz_tree.specs.Trees.{TermData, TermsData, TypeData, AdjectiveData, AdjectiveList, DeclaredData, NextDeclaredList, FormulaData, DisjunctionData, NextConjunctionData, ConjunctionData, NextUnitData, UnitData, QuantifiedData, NextConjunctionList, NextUnitList, PlainFormula, ImpliesFormula, IffFormula, ChainDisjunction, OrNextConjunction, ChainConjunction, AndNextUnit, NotUnit, ContradictionUnit, ThesisUnit, QuantifiedUnit, GroupUnit, PrivateUnit, PrivateWithUnit, PredicateUnit, PredicateRightUnit, PredicateLeftUnit, PredicateBothUnit, IsTypeUnit, IsAdjectivesUnit, ForQuantified, ForSuchQuantified, ForFurtherQuantified, ForSuchFurtherQuantified, ExistsQuantified, no_next_conjunctions, more_next_conjunctions, no_next_units, more_next_units}
use Rattle.mz_tree.specs.Places.{first_place}
use Rattle.mz_tree.specs.Spell.{spell_disjunction, spell_conjunction, spell_unit}
use Rattle.mz_tree.specs.declared.word.Word.{Word}
use Rattle.mz_joined.specs.Joined.{denied, conjoined, disjoined, implied, equated, under, thesis_at}
use Rattle.mz_joined.specs.Bound.{for_all_within, there_are_within}
use Rattle.mz_formulas.specs.Atoms.{ReadsPredicate, ReadsPrivate, ReadsIsType, ReadsIsAdjectives, listed_adjectives}
use Rattle.mz_formulas.specs.Declarations.{ReadsDeclared, listed_declared}

-- chains as lists
abbrev pub listed_units : NextUnitList → List UnitData
listed_units no_next_units = []
listed_units (more_next_units (AndNextUnit p u) us) = u ∷ listed_units us

abbrev pub listed_conjunctions : NextConjunctionList → List ConjunctionData
listed_conjunctions no_next_conjunctions = []
listed_conjunctions (more_next_conjunctions (OrNextConjunction p k) ks) = k ∷ listed_conjunctions ks

-- what a quantifier declares
abbrev pub declared_in : QuantifiedData → List DeclaredData
declared_in (ForQuantified p d ds h f) = d ∷ listed_declared ds
declared_in (ForSuchQuantified p d ds q f h g) = d ∷ listed_declared ds
declared_in (ForFurtherQuantified p d ds q) = d ∷ listed_declared ds
declared_in (ForSuchFurtherQuantified p d ds r f q) = d ∷ listed_declared ds
declared_in (ExistsQuantified p d ds q f) = d ∷ listed_declared ds

-- the variables, which are the constants from n on, bound by the quantifier
abbrev pub quantifier : QuantifiedData → ℕ → List Variable → Statement → Result Statement Refusal
quantifier (ForQuantified p d ds h f) n vs s = for_all_within p n vs s
quantifier (ForSuchQuantified p d ds q f h g) n vs s = for_all_within p n vs s
quantifier (ForFurtherQuantified p d ds q) n vs s = for_all_within p n vs s
quantifier (ForSuchFurtherQuantified p d ds r f q) n vs s = for_all_within p n vs s
quantifier (ExistsQuantified p d ds q f) n vs s = there_are_within p n vs s

abbrev pub bound_by : QuantifiedData → ℕ → List Variable → Result Statement Refusal → Result Statement Refusal
bound_by q n vs (Err r) = Err r
bound_by q n vs (Ok s) = quantifier q n vs s

mutual
  pub data ReadsFormula (e : Environment) (least : ℕ) : Context → FormulaData → Result Statement Refusal → Type 0 where
    plain : (c : Context) (d : DisjunctionData) (o : Result Statement Refusal) → ReadsDisjunction e least c d o → ReadsFormula e least c (PlainFormula d) o
    implies_refused : (c : Context) (d f : DisjunctionData) (p : Place) (r : Refusal) → ReadsDisjunction e least c d (Err r) → ReadsFormula e least c (ImpliesFormula d p f) (Err r)
    implies : (c : Context) (d f : DisjunctionData) (p first : Place) (s : Statement) (o : Result Statement Refusal) →
        ReadsDisjunction e least c d (Ok s) → ReadsDisjunction e least c f o → first_place (spell_disjunction d) ≡ Some first → ReadsFormula e least c (ImpliesFormula d p f) (implied first s o)
    iff_refused : (c : Context) (d f : DisjunctionData) (p : Place) (r : Refusal) → ReadsDisjunction e least c d (Err r) → ReadsFormula e least c (IffFormula d p f) (Err r)
    iff : (c : Context) (d f : DisjunctionData) (p first : Place) (s : Statement) (o : Result Statement Refusal) →
        ReadsDisjunction e least c d (Ok s) → ReadsDisjunction e least c f o → first_place (spell_disjunction d) ≡ Some first → ReadsFormula e least c (IffFormula d p f) (equated first s o)

  -- conjunctions with `or` between them, grouped to the left
  pub data ReadsDisjunction (e : Environment) (least : ℕ) : Context → DisjunctionData → Result Statement Refusal → Type 0 where
    disjunction : (c : Context) (k : ConjunctionData) (ks : NextConjunctionList) (first : Place) (p o : Result Statement Refusal) →
        ReadsConjunction e least c k p → first_place (spell_conjunction k) ≡ Some first → ReadsDisjuncts e least first c (listed_conjunctions ks) p o → ReadsDisjunction e least c (ChainDisjunction k ks) o

  -- further disjuncts, each joined to what was read so far
  pub data ReadsDisjuncts (e : Environment) (least : ℕ) : Place → Context → List ConjunctionData → Result Statement Refusal → Result Statement Refusal → Type 0 where
    disjunct_refused : (first : Place) (c : Context) (ks : List ConjunctionData) (r : Refusal) → ReadsDisjuncts e least first c ks (Err r) (Err r)
    no_disjunct : (first : Place) (c : Context) (s : Statement) → ReadsDisjuncts e least first c [] (Ok s) (Ok s)
    disjunct : (first : Place) (c : Context) (k : ConjunctionData) (ks : List ConjunctionData) (s : Statement) (p o : Result Statement Refusal) →
        ReadsConjunction e least c k p → ReadsDisjuncts e least first c ks (disjoined first s p) o → ReadsDisjuncts e least first c (k ∷ ks) (Ok s) o

  -- units with `&` between them, grouped to the left
  pub data ReadsConjunction (e : Environment) (least : ℕ) : Context → ConjunctionData → Result Statement Refusal → Type 0 where
    conjunction : (c : Context) (u : UnitData) (us : NextUnitList) (first : Place) (p o : Result Statement Refusal) →
        ReadsUnit e least c u p → first_place (spell_unit u) ≡ Some first → ReadsConjuncts e least first c (listed_units us) p o → ReadsConjunction e least c (ChainConjunction u us) o

  -- further conjuncts, each joined to what was read so far
  pub data ReadsConjuncts (e : Environment) (least : ℕ) : Place → Context → List UnitData → Result Statement Refusal → Result Statement Refusal → Type 0 where
    conjunct_refused : (first : Place) (c : Context) (us : List UnitData) (r : Refusal) → ReadsConjuncts e least first c us (Err r) (Err r)
    no_conjunct : (first : Place) (c : Context) (s : Statement) → ReadsConjuncts e least first c [] (Ok s) (Ok s)
    conjunct : (first : Place) (c : Context) (u : UnitData) (us : List UnitData) (s : Statement) (p o : Result Statement Refusal) →
        ReadsUnit e least c u p → ReadsConjuncts e least first c us (conjoined first s p) o → ReadsConjuncts e least first c (u ∷ us) (Ok s) o

  pub data ReadsUnit (e : Environment) (least : ℕ) : Context → UnitData → Result Statement Refusal → Type 0 where
    negated : (c : Context) (p : Place) (u : UnitData) (o : Result Statement Refusal) → ReadsUnit e least c u o → ReadsUnit e least c (NotUnit p u) (denied p o)
    contradiction : (c : Context) (p : Place) → ReadsUnit e least c (ContradictionUnit p) (Ok (Not Truth))
    thesis : (c : Context) (p : Place) → ReadsUnit e least c (ThesisUnit p) (thesis_at p c.thesis)
    quantified : (c : Context) (q : QuantifiedData) (o : Result Statement Refusal) → ReadsQuantified e least c q o → ReadsUnit e least c (QuantifiedUnit q) o
    group : (c : Context) (p q : Place) (f : FormulaData) (o : Result Statement Refusal) → ReadsFormula e least c f o → ReadsUnit e least c (GroupUnit p f q) o
    private : (c : Context) (w : Word) (p q : Place) (o : Result Statement Refusal) → ReadsPrivate e c least w None o → ReadsUnit e least c (PrivateUnit w p q) o
    private_with : (c : Context) (w : Word) (p q : Place) (ts : TermsData) (o : Result Statement Refusal) → ReadsPrivate e c least w (Some ts) o → ReadsUnit e least c (PrivateWithUnit w p ts q) o
    predicate : (c : Context) (w : Word) (o : Result Statement Refusal) → ReadsPredicate e c least None w None o → ReadsUnit e least c (PredicateUnit w) o
    predicate_right : (c : Context) (w : Word) (us : TermsData) (o : Result Statement Refusal) → ReadsPredicate e c least None w (Some us) o → ReadsUnit e least c (PredicateRightUnit w us) o
    predicate_left : (c : Context) (w : Word) (ts : TermsData) (o : Result Statement Refusal) → ReadsPredicate e c least (Some ts) w None o → ReadsUnit e least c (PredicateLeftUnit ts w) o
    predicate_both : (c : Context) (w : Word) (ts us : TermsData) (o : Result Statement Refusal) → ReadsPredicate e c least (Some ts) w (Some us) o → ReadsUnit e least c (PredicateBothUnit ts w us) o
    is_type : (c : Context) (p : Place) (t : TermData) (ty : TypeData) (o : Result Statement Refusal) → ReadsIsType e c least t ty o → ReadsUnit e least c (IsTypeUnit t p ty) o
    is_adjectives : (c : Context) (p : Place) (t : TermData) (a : AdjectiveData) (xs : AdjectiveList) (o : Result Statement Refusal) → ReadsIsAdjectives e c least t a (listed_adjectives xs) o → ReadsUnit e least c (IsAdjectivesUnit t p a xs) o

  -- a quantified formula: its declarations, then the rest, in which the declared variables are constants
  pub data ReadsQuantified (e : Environment) (least : ℕ) : Context → QuantifiedData → Result Statement Refusal → Type 0 where
    declared_refused : (c : Context) (q : QuantifiedData) (r : Refusal) → ReadsDeclared e least c (declared_in q) (Err r) → ReadsQuantified e least c q (Err r)
    declared : (c : Context) (q : QuantifiedData) (vs : List Variable) (o : Result Statement Refusal) →
        ReadsDeclared e least c (declared_in q) (Ok vs) → ReadsBody e least (with_variables c vs) q o → ReadsQuantified e least c q (bound_by q (next c) vs o)

  -- what stands behind its declarations; `st f holds g` is an implication
  pub data ReadsBody (e : Environment) (least : ℕ) : Context → QuantifiedData → Result Statement Refusal → Type 0 where
    holds : (c : Context) (p h : Place) (d : DeclaredData) (ds : NextDeclaredList) (f : FormulaData) (o : Result Statement Refusal) → ReadsFormula e least c f o → ReadsBody e least c (ForQuantified p d ds h f) o
    exists : (c : Context) (p q : Place) (d : DeclaredData) (ds : NextDeclaredList) (f : FormulaData) (o : Result Statement Refusal) → ReadsFormula e least c f o → ReadsBody e least c (ExistsQuantified p d ds q f) o
    further : (c : Context) (p : Place) (d : DeclaredData) (ds : NextDeclaredList) (q : QuantifiedData) (o : Result Statement Refusal) → ReadsQuantified e least c q o → ReadsBody e least c (ForFurtherQuantified p d ds q) o
    such_refused : (c : Context) (p q h : Place) (d : DeclaredData) (ds : NextDeclaredList) (f g : FormulaData) (r : Refusal) → ReadsFormula e least c f (Err r) → ReadsBody e least c (ForSuchQuantified p d ds q f h g) (Err r)
    such : (c : Context) (p q h : Place) (d : DeclaredData) (ds : NextDeclaredList) (f g : FormulaData) (s : Statement) (o : Result Statement Refusal) →
        ReadsFormula e least c f (Ok s) → ReadsFormula e least c g o → ReadsBody e least c (ForSuchQuantified p d ds q f h g) (under s o)
    such_further_refused : (c : Context) (p r : Place) (d : DeclaredData) (ds : NextDeclaredList) (f : FormulaData) (q : QuantifiedData) (x : Refusal) → ReadsFormula e least c f (Err x) → ReadsBody e least c (ForSuchFurtherQuantified p d ds r f q) (Err x)
    such_further : (c : Context) (p r : Place) (d : DeclaredData) (ds : NextDeclaredList) (f : FormulaData) (q : QuantifiedData) (s : Statement) (o : Result Statement Refusal) →
        ReadsFormula e least c f (Ok s) → ReadsQuantified e least c q o → ReadsBody e least c (ForSuchFurtherQuantified p d ds r f q) (under s o)
