-- The identifiers that stand as variables in an expression and that no quantifier in it binds, in the order of the text.
use Rattle.std.specs.Prelude.{ℕ, Bool, not, bytes_eq, List, [], ◌∷◌, ◌++◌}
use Rattle.std.specs.List.{filter, list_any}
use Rattle.mz_tree.specs.Trees.{TermData, PieceData, PrefixData, BeforeData, BaseData, TermsData, NextTermData, AdjectiveData, TypeData, DeclaredData, FormulaData, DisjunctionData, NextConjunctionData, ConjunctionData, NextUnitData, UnitData, QuantifiedData, PieceList, PrefixList, BeforeList, NextTermList, AdjectiveList, NextDeclaredList, NextConjunctionList, NextUnitList, RunTerm, FunctorPiece, OperandPiece, SelectorPrefix, ChoiceOfPrefix, ChoiceOverPrefix, OperandBefore, IdentifierBase, SubjectBase, ArgumentBase, GroupBase, CallBase, CallWithBase, SelectorBase, AggregateBase, BracketsBase, BracesBase, SquaresBase, SetOfBase, ChoiceBase, ChoiceStructureBase, ListTerms, NextNextTerm, PlainAdjective, WithIdentifierAdjective, WithTermsAdjective, ModeType, ModeOfType, StructureType, StructureOverType, PlainDeclared, TypedDeclared, NextNextDeclared, PlainFormula, ImpliesFormula, IffFormula, ChainDisjunction, OrNextConjunction, ChainConjunction, AndNextUnit, NotUnit, ContradictionUnit, ThesisUnit, QuantifiedUnit, GroupUnit, PrivateUnit, PrivateWithUnit, PredicateUnit, PredicateRightUnit, PredicateLeftUnit, PredicateBothUnit, IsTypeUnit, IsAdjectivesUnit, ForQuantified, ForSuchQuantified, ForFurtherQuantified, ForSuchFurtherQuantified, ExistsQuantified, no_pieces, more_pieces, no_prefixs, more_prefixs, no_befores, more_befores, no_next_terms, more_next_terms, no_adjectives, more_adjectives, no_next_declareds, more_next_declareds, no_next_conjunctions, more_next_conjunctions, no_next_units, more_next_units}

-- the name is among the names
abbrev pub is_among : List (List ℕ) → List ℕ → Bool
is_among names name = list_any (bytes_eq name) names

abbrev pub is_not_among : List (List ℕ) → List ℕ → Bool
is_not_among names name = not (is_among names name)

-- the names but for the bound ones
abbrev pub unbound : List (List ℕ) → List (List ℕ) → List (List ℕ)
unbound bound names = filter (is_not_among bound) names

-- the names that declarations declare
abbrev pub declared_name : DeclaredData → List ℕ
declared_name (PlainDeclared x) = x.spelling
declared_name (TypedDeclared x be ty) = x.spelling

abbrev pub next_names : NextDeclaredList → List (List ℕ)
next_names no_next_declareds = []
next_names (more_next_declareds (NextNextDeclared sign d) ds) = declared_name d ∷ next_names ds

abbrev pub bound_behind : List (List ℕ) → List (List ℕ) → DeclaredData → List (List ℕ)
bound_behind bound waiting (PlainDeclared x) = bound
bound_behind bound waiting (TypedDeclared x be ty) = bound ++ waiting ++ x.spelling ∷ []

abbrev pub waiting_behind : List (List ℕ) → DeclaredData → List (List ℕ)
waiting_behind waiting (PlainDeclared x) = waiting ++ x.spelling ∷ []
waiting_behind waiting (TypedDeclared x be ty) = []

abbrev mutual
  pub in_term : TermData → List (List ℕ)
  in_term (RunTerm p ps) = in_piece p ++ in_pieces ps

  pub in_pieces : PieceList → List (List ℕ)
  in_pieces no_pieces = []
  in_pieces (more_pieces p ps) = in_piece p ++ in_pieces ps

  pub in_piece : PieceData → List (List ℕ)
  in_piece (FunctorPiece s n) = []
  in_piece (OperandPiece ps b) = in_prefixes ps ++ in_base b

  pub in_prefixes : PrefixList → List (List ℕ)
  in_prefixes no_prefixs = []
  in_prefixes (more_prefixs p ps) = in_prefix p ++ in_prefixes ps

  pub in_prefix : PrefixData → List (List ℕ)
  in_prefix (SelectorPrefix p s q) = []
  in_prefix (ChoiceOfPrefix p xs s q bs) = in_adjectives xs ++ in_befores bs
  in_prefix (ChoiceOverPrefix p xs s q bs) = in_adjectives xs ++ in_befores bs

  pub in_befores : BeforeList → List (List ℕ)
  in_befores no_befores = []
  in_befores (more_befores b bs) = in_before b ++ in_befores bs

  pub in_before : BeforeData → List (List ℕ)
  in_before (OperandBefore ps b p) = in_prefixes ps ++ in_base b

  pub in_base : BaseData → List (List ℕ)
  in_base (IdentifierBase x) = x.spelling ∷ []
  in_base (SubjectBase p) = []
  in_base (ArgumentBase p k) = []
  in_base (GroupBase left ts right) = in_terms ts
  in_base (CallBase x left right) = []
  in_base (CallWithBase x left ts right) = in_terms ts
  in_base (SelectorBase p s) = []
  in_base (AggregateBase s left ts right) = in_terms ts
  in_base (BracketsBase left ts right) = in_terms ts
  in_base (BracesBase left ts right) = in_terms ts
  in_base (SquaresBase left ts right) = in_terms ts
  -- the variable of a set term is known in its term and its formula, and not in its type
  in_base (SetOfBase left t p x r ty q2 f right) = unbound (x.spelling ∷ []) (in_term t) ++ in_type ty ++ unbound (x.spelling ∷ []) (in_formula f)
  in_base (ChoiceBase p xs s) = in_adjectives xs
  in_base (ChoiceStructureBase p xs s) = in_adjectives xs

  pub in_terms : TermsData → List (List ℕ)
  in_terms (ListTerms t ts) = in_term t ++ in_next_terms ts

  pub in_next_terms : NextTermList → List (List ℕ)
  in_next_terms no_next_terms = []
  in_next_terms (more_next_terms t ts) = in_next_term t ++ in_next_terms ts

  pub in_next_term : NextTermData → List (List ℕ)
  in_next_term (NextNextTerm p t) = in_term t

  pub in_adjectives : AdjectiveList → List (List ℕ)
  in_adjectives no_adjectives = []
  in_adjectives (more_adjectives a xs) = in_adjective a ++ in_adjectives xs

  pub in_adjective : AdjectiveData → List (List ℕ)
  in_adjective (PlainAdjective p s) = []
  in_adjective (WithIdentifierAdjective p x s) = x.spelling ∷ []
  in_adjective (WithTermsAdjective p left ts right s) = in_terms ts

  pub in_type : TypeData → List (List ℕ)
  in_type (ModeType xs s) = in_adjectives xs
  in_type (ModeOfType xs s q ts) = in_adjectives xs ++ in_terms ts
  in_type (StructureType xs s) = in_adjectives xs
  in_type (StructureOverType xs s q ts) = in_adjectives xs ++ in_terms ts

  -- in declarations: a type knows what was declared before the declarations that it is the type of. `bound` are these
  -- names, `waiting` the names declared since, which have the next type
  pub in_next_declared : List (List ℕ) → List (List ℕ) → NextDeclaredList → List (List ℕ)
  in_next_declared bound waiting no_next_declareds = []
  in_next_declared bound waiting (more_next_declareds (NextNextDeclared p d) ds) = in_its_type bound d ++ in_next_declared (bound_behind bound waiting d) (waiting_behind waiting d) ds

  pub in_its_type : List (List ℕ) → DeclaredData → List (List ℕ)
  in_its_type bound (PlainDeclared x) = []
  in_its_type bound (TypedDeclared x p ty) = unbound bound (in_type ty)

  pub in_formula : FormulaData → List (List ℕ)
  in_formula (PlainFormula d) = in_disjunction d
  in_formula (ImpliesFormula d p e) = in_disjunction d ++ in_disjunction e
  in_formula (IffFormula d p e) = in_disjunction d ++ in_disjunction e

  pub in_disjunction : DisjunctionData → List (List ℕ)
  in_disjunction (ChainDisjunction c cs) = in_conjunction c ++ in_next_conjunctions cs

  pub in_next_conjunctions : NextConjunctionList → List (List ℕ)
  in_next_conjunctions no_next_conjunctions = []
  in_next_conjunctions (more_next_conjunctions c cs) = in_next_conjunction c ++ in_next_conjunctions cs

  pub in_next_conjunction : NextConjunctionData → List (List ℕ)
  in_next_conjunction (OrNextConjunction p c) = in_conjunction c

  pub in_conjunction : ConjunctionData → List (List ℕ)
  in_conjunction (ChainConjunction u us) = in_unit u ++ in_next_units us

  pub in_next_units : NextUnitList → List (List ℕ)
  in_next_units no_next_units = []
  in_next_units (more_next_units u us) = in_next_unit u ++ in_next_units us

  pub in_next_unit : NextUnitData → List (List ℕ)
  in_next_unit (AndNextUnit p u) = in_unit u

  pub in_unit : UnitData → List (List ℕ)
  in_unit (NotUnit p u) = in_unit u
  in_unit (ContradictionUnit p) = []
  in_unit (ThesisUnit p) = []
  in_unit (QuantifiedUnit q) = in_quantified q
  in_unit (GroupUnit left f right) = in_formula f
  in_unit (PrivateUnit x left right) = []
  in_unit (PrivateWithUnit x left ts right) = in_terms ts
  in_unit (PredicateUnit s) = []
  in_unit (PredicateRightUnit s ts) = in_terms ts
  in_unit (PredicateLeftUnit ts s) = in_terms ts
  in_unit (PredicateBothUnit ts s us) = in_terms ts ++ in_terms us
  in_unit (IsTypeUnit t r ty) = in_term t ++ in_type ty
  in_unit (IsAdjectivesUnit t r a xs) = in_term t ++ in_adjective a ++ in_adjectives xs

  pub in_quantified : QuantifiedData → List (List ℕ)
  in_quantified (ForQuantified p d ds h f) = in_its_type [] d ++ in_next_declared (bound_behind [] [] d) (waiting_behind [] d) ds ++ unbound (declared_name d ∷ next_names ds) (in_formula f)
  in_quantified (ForSuchQuantified p d ds q f h g) = in_its_type [] d ++ in_next_declared (bound_behind [] [] d) (waiting_behind [] d) ds ++ unbound (declared_name d ∷ next_names ds) (in_formula f ++ in_formula g)
  in_quantified (ForFurtherQuantified p d ds q) = in_its_type [] d ++ in_next_declared (bound_behind [] [] d) (waiting_behind [] d) ds ++ unbound (declared_name d ∷ next_names ds) (in_quantified q)
  in_quantified (ForSuchFurtherQuantified p d ds r f q) = in_its_type [] d ++ in_next_declared (bound_behind [] [] d) (waiting_behind [] d) ds ++ unbound (declared_name d ∷ next_names ds) (in_formula f ++ in_quantified q)
  in_quantified (ExistsQuantified p d ds q f) = in_its_type [] d ++ in_next_declared (bound_behind [] [] d) (waiting_behind [] d) ds ++ unbound (declared_name d ∷ next_names ds) (in_formula f)

-- in declarations, with what was declared before them
abbrev pub in_declared : List (List ℕ) → List (List ℕ) → DeclaredData → NextDeclaredList → List (List ℕ)
in_declared bound waiting d ds = in_its_type bound d ++ in_next_declared (bound_behind bound waiting d) (waiting_behind waiting d) ds
