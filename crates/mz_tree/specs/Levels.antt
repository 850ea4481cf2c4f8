-- How many constructs are open at each token of an expression. A construct is open from its first token on: a bracket up to
-- the token before the one that closes it, a `not` to the end of its unit, a quantifier to the end of its formula, and an
-- operand of a chain but the first to the end of the chain.
use Rattle.std.specs.Prelude.{◌≡◌, ℕ, suc, List, [], ◌∷◌, ◌++◌, map, length, refl, codes, Option, Some, None}
use Rattle.mz_base.specs.declared.place.Place.{Place}
use Rattle.mz_base.specs.declared.symbol_kind.SymbolKind.TheVariants as symbols
use Rattle.std.specs.List.{flat_map}
use Rattle.std.proofs.Common.{ap, ◌∙◌}
use Rattle.std.proofs.lemmas.List.{length-map}
use Rattle.mz_forms.specs.Form.{each_append}
use Rattle.mz_base.specs.declared.token.MarkedToken.{MarkedToken}
use Rattle.mz_tree.specs.Spelled.{reserved, special, identifier, symbol, mode, list_comma, non_of, reserved_if, maybe}
use Rattle.mz_tree.specs.Trees.{DeclarationsData, AdjectivesData, TermData, PieceData, PrefixData, BeforeData, BaseData, TermsData, NextTermData, AdjectiveData, TypeData, DeclaredData, NextDeclaredData, FormulaData, DisjunctionData, ConjunctionData, UnitData, QuantifiedData, PieceList, PrefixList, BeforeList, NextTermList, AdjectiveList, NextDeclaredList, NextConjunctionList, NextUnitList, RunTerm, FunctorPiece, OperandPiece, SelectorPrefix, ChoiceOfPrefix, ChoiceOverPrefix, OperandBefore, IdentifierBase, SubjectBase, ArgumentBase, GroupBase, CallBase, CallWithBase, SelectorBase, AggregateBase, BracketsBase, BracesBase, SquaresBase, SetOfBase, ChoiceBase, ChoiceStructureBase, ListTerms, NextNextTerm, PlainAdjective, WithIdentifierAdjective, WithTermsAdjective, ModeType, ModeOfType, StructureType, StructureOverType, PlainDeclared, TypedDeclared, NextNextDeclared, PlainFormula, ImpliesFormula, IffFormula, ChainDisjunction, OrNextConjunction, ChainConjunction, AndNextUnit, NotUnit, ContradictionUnit, ThesisUnit, QuantifiedUnit, GroupUnit, PrivateUnit, PrivateWithUnit, PredicateUnit, PredicateRightUnit, PredicateLeftUnit, PredicateBothUnit, IsTypeUnit, IsAdjectivesUnit, ForQuantified, ForSuchQuantified, ForFurtherQuantified, ForSuchFurtherQuantified, ExistsQuantified, no_pieces, more_pieces, no_prefixs, more_prefixs, no_befores, more_befores, no_next_terms, more_next_terms, no_adjectives, more_adjectives, no_next_declareds, more_next_declareds, no_next_conjunctions, more_next_conjunctions, no_next_units, more_next_units}
use Rattle.mz_tree.specs.Spell.{spell_declarations, spell_adjectives, spell_term, spell_piece, spell_prefix, spell_before, spell_base, spell_terms, spell_next_term, spell_adjective, spell_type, spell_declared, spell_next_declared, spell_formula, spell_disjunction, spell_conjunction, spell_unit, spell_quantified, spell_piece_list, spell_prefix_list, spell_before_list, spell_next_term_list, spell_adjective_list, spell_next_declared_list, spell_next_conjunction_list, spell_next_unit_list}

abbrev pub non_levels : Option Place → List ℕ
non_levels None = []
non_levels (Some p) = 0 ∷ []

pub non_each : (a : Option Place) → length (non_levels a) ≡ length (non_of a)
non_each None = refl
non_each (Some p) = refl

pub nested_each : (ls : List ℕ) (ss : List MarkedToken) → length ls ≡ length ss → length (map suc ls) ≡ length ss
nested_each ls ss e = length-map ls suc ∙ e

-- the levels of a word that may be left out
abbrev pub levels_if : Option Place → List ℕ
levels_if None = []
levels_if (Some p) = 0 ∷ []

pub each_if : (a : Option Place) (s : List ℕ) → length (levels_if a) ≡ length (reserved_if a s)
each_if None s = refl
each_if (Some p) s = refl

pub each_maybe : {X : Type 0} (l : X → List ℕ) (s : X → List MarkedToken) → ((x : X) → length (l x) ≡ length (s x)) → (o : Option X) → length (maybe l o) ≡ length (maybe s o)
each_maybe l s e None = refl
each_maybe l s e (Some x) = e x

pub each_flat : {X : Type 0} (l : X → List ℕ) (s : X → List MarkedToken) → ((x : X) → length (l x) ≡ length (s x)) → (xs : List X) → length (flat_map l xs) ≡ length (flat_map s xs)
each_flat l s e [] = refl
each_flat l s e (x ∷ xs) = each_append (l x) (flat_map l xs) (s x) (flat_map s xs) (e x) (each_flat l s e xs)

abbrev mutual
  pub levels_term : TermData → List ℕ
  levels_term (RunTerm a b) = levels_piece a ++ (levels_piece_list b)

  pub levels_piece : PieceData → List ℕ
  levels_piece (FunctorPiece a b) = 0 ∷ []
  levels_piece (OperandPiece a b) = levels_prefix_list a ++ (levels_base b)

  pub levels_prefix : PrefixData → List ℕ
  levels_prefix (SelectorPrefix a b c) = 0 ∷ (0 ∷ (0 ∷ []))
  levels_prefix (ChoiceOfPrefix a b c d e) = 0 ∷ (levels_adjective_list b ++ (0 ∷ (0 ∷ (levels_before_list e))))
  levels_prefix (ChoiceOverPrefix a b c d e) = 0 ∷ (levels_adjective_list b ++ (0 ∷ (0 ∷ (levels_before_list e))))

  pub levels_before : BeforeData → List ℕ
  levels_before (OperandBefore a b c) = levels_prefix_list a ++ (levels_base b ++ (0 ∷ []))

  pub levels_base : BaseData → List ℕ
  levels_base (IdentifierBase a) = 0 ∷ []
  levels_base (SubjectBase a) = 0 ∷ []
  levels_base (ArgumentBase a b) = 0 ∷ []
  levels_base (GroupBase a b c) = 1 ∷ (map suc (levels_terms b) ++ (0 ∷ []))
  levels_base (CallBase a b c) = 0 ∷ (1 ∷ (0 ∷ []))
  levels_base (CallWithBase a b c d) = 0 ∷ (1 ∷ (map suc (levels_terms c) ++ (0 ∷ [])))
  levels_base (SelectorBase a b) = 0 ∷ (0 ∷ [])
  levels_base (AggregateBase a b c d) = 0 ∷ (1 ∷ (map suc (levels_terms c) ++ (0 ∷ [])))
  levels_base (BracketsBase a b c) = 1 ∷ (map suc (levels_terms b) ++ (0 ∷ []))
  levels_base (BracesBase a b c) = 1 ∷ (map suc (levels_terms b) ++ (0 ∷ []))
  levels_base (SquaresBase a b c) = 1 ∷ (map suc (levels_terms b) ++ (0 ∷ []))
  levels_base (SetOfBase a b c d e f g h i) = 1 ∷ (map suc (levels_term b ++ (0 ∷ (0 ∷ (0 ∷ (levels_type f ++ (0 ∷ (levels_formula h))))))) ++ (0 ∷ []))
  levels_base (ChoiceBase a b c) = 0 ∷ (levels_adjective_list b ++ (0 ∷ []))
  levels_base (ChoiceStructureBase a b c) = 0 ∷ (levels_adjective_list b ++ (0 ∷ []))

  pub levels_terms : TermsData → List ℕ
  levels_terms (ListTerms a b) = levels_term a ++ (levels_next_term_list b)

  pub levels_next_term : NextTermData → List ℕ
  levels_next_term (NextNextTerm a b) = 0 ∷ (levels_term b)

  pub levels_adjective : AdjectiveData → List ℕ
  levels_adjective (PlainAdjective a b) = non_levels a ++ (0 ∷ [])
  levels_adjective (WithIdentifierAdjective a b c) = non_levels a ++ (0 ∷ (0 ∷ []))
  levels_adjective (WithTermsAdjective a b c d e) = non_levels a ++ (1 ∷ (map suc (levels_terms c) ++ (0 ∷ (0 ∷ []))))

  pub levels_type : TypeData → List ℕ
  levels_type (ModeType a b) = levels_adjective_list a ++ (0 ∷ [])
  levels_type (ModeOfType a b c d) = levels_adjective_list a ++ (0 ∷ (0 ∷ (levels_terms d)))
  levels_type (StructureType a b) = levels_adjective_list a ++ (0 ∷ [])
  levels_type (StructureOverType a b c d) = levels_adjective_list a ++ (0 ∷ (0 ∷ (levels_terms d)))

  pub levels_declared : DeclaredData → List ℕ
  levels_declared (PlainDeclared a) = 0 ∷ []
  levels_declared (TypedDeclared a b c) = 0 ∷ (0 ∷ (levels_type c))

  pub levels_next_declared : NextDeclaredData → List ℕ
  levels_next_declared (NextNextDeclared a b) = 0 ∷ (levels_declared b)

  pub levels_formula : FormulaData → List ℕ
  levels_formula (PlainFormula a) = levels_disjunction a
  levels_formula (ImpliesFormula a b c) = levels_disjunction a ++ (0 ∷ (levels_disjunction c))
  levels_formula (IffFormula a b c) = levels_disjunction a ++ (0 ∷ (levels_disjunction c))

  pub levels_disjunction : DisjunctionData → List ℕ
  levels_disjunction (ChainDisjunction a b) = levels_conjunction a ++ (levels_next_conjunction_list b)

  pub levels_conjunction : ConjunctionData → List ℕ
  levels_conjunction (ChainConjunction a b) = levels_unit a ++ (levels_next_unit_list b)

  pub levels_unit : UnitData → List ℕ
  levels_unit (NotUnit a b) = 1 ∷ (map suc (levels_unit b))
  levels_unit (ContradictionUnit a) = 0 ∷ []
  levels_unit (ThesisUnit a) = 0 ∷ []
  levels_unit (QuantifiedUnit a) = levels_quantified a
  levels_unit (GroupUnit a b c) = 1 ∷ (map suc (levels_formula b) ++ (0 ∷ []))
  levels_unit (PrivateUnit a b c) = 0 ∷ (1 ∷ (0 ∷ []))
  levels_unit (PrivateWithUnit a b c d) = 0 ∷ (1 ∷ (map suc (levels_terms c) ++ (0 ∷ [])))
  levels_unit (PredicateUnit a) = 0 ∷ []
  levels_unit (PredicateRightUnit a b) = 0 ∷ (levels_terms b)
  levels_unit (PredicateLeftUnit a b) = levels_terms a ++ (0 ∷ [])
  levels_unit (PredicateBothUnit a b c) = levels_terms a ++ (0 ∷ (levels_terms c))
  levels_unit (IsTypeUnit a b c) = levels_term a ++ (0 ∷ (levels_type c))
  levels_unit (IsAdjectivesUnit a b c d) = levels_term a ++ (0 ∷ (levels_adjective c ++ (levels_adjective_list d)))

  pub levels_quantified : QuantifiedData → List ℕ
  levels_quantified (ForQuantified a b c d e) = 1 ∷ (map suc (levels_declared b ++ (levels_next_declared_list c ++ (0 ∷ (levels_formula e)))))
  levels_quantified (ForSuchQuantified a b c d e f g) = 1 ∷ (map suc (levels_declared b ++ (levels_next_declared_list c ++ (0 ∷ (levels_formula e ++ (0 ∷ (levels_formula g)))))))
  levels_quantified (ForFurtherQuantified a b c d) = 1 ∷ (map suc (levels_declared b ++ (levels_next_declared_list c ++ (levels_quantified d))))
  levels_quantified (ForSuchFurtherQuantified a b c d e f) = 1 ∷ (map suc (levels_declared b ++ (levels_next_declared_list c ++ (0 ∷ (levels_formula e ++ (levels_quantified f))))))
  levels_quantified (ExistsQuantified a b c d e) = 1 ∷ (map suc (levels_declared b ++ (levels_next_declared_list c ++ (0 ∷ (levels_formula e)))))

  pub levels_piece_list : PieceList → List ℕ
  levels_piece_list no_pieces = []
  levels_piece_list (more_pieces t ts) = levels_piece t ++ levels_piece_list ts

  pub levels_prefix_list : PrefixList → List ℕ
  levels_prefix_list no_prefixs = []
  levels_prefix_list (more_prefixs t ts) = levels_prefix t ++ levels_prefix_list ts

  pub levels_before_list : BeforeList → List ℕ
  levels_before_list no_befores = []
  levels_before_list (more_befores t ts) = levels_before t ++ levels_before_list ts

  pub levels_next_term_list : NextTermList → List ℕ
  levels_next_term_list no_next_terms = []
  levels_next_term_list (more_next_terms t ts) = levels_next_term t ++ levels_next_term_list ts

  pub levels_adjective_list : AdjectiveList → List ℕ
  levels_adjective_list no_adjectives = []
  levels_adjective_list (more_adjectives t ts) = levels_adjective t ++ levels_adjective_list ts

  pub levels_next_declared_list : NextDeclaredList → List ℕ
  levels_next_declared_list no_next_declareds = []
  levels_next_declared_list (more_next_declareds t ts) = levels_next_declared t ++ levels_next_declared_list ts

  -- each operand is nested deeper by one than the one before it
  pub levels_next_conjunction_list : NextConjunctionList → List ℕ
  levels_next_conjunction_list no_next_conjunctions = []
  levels_next_conjunction_list (more_next_conjunctions (OrNextConjunction p x) ts) = 0 ∷ map suc (levels_conjunction x ++ levels_next_conjunction_list ts)

  -- each operand is nested deeper by one than the one before it
  pub levels_next_unit_list : NextUnitList → List ℕ
  levels_next_unit_list no_next_units = []
  levels_next_unit_list (more_next_units (AndNextUnit p x) ts) = 0 ∷ map suc (levels_unit x ++ levels_next_unit_list ts)

-- there is one level for each token
mutual
  pub each_term : (t : TermData) → length (levels_term t) ≡ length (spell_term t)
  each_term (RunTerm a b) = each_append (levels_piece a) (levels_piece_list b) (spell_piece a) (spell_piece_list b) (each_piece a) (each_piece_list b)

  pub each_piece : (t : PieceData) → length (levels_piece t) ≡ length (spell_piece t)
  each_piece (FunctorPiece a b) = refl
  each_piece (OperandPiece a b) = each_append (levels_prefix_list a) (levels_base b) (spell_prefix_list a) (spell_base b) (each_prefix_list a) (each_base b)

  pub each_prefix : (t : PrefixData) → length (levels_prefix t) ≡ length (spell_prefix t)
  each_prefix (SelectorPrefix a b c) = refl
  each_prefix (ChoiceOfPrefix a b c d e) = ap suc (each_append (levels_adjective_list b) (0 ∷ (0 ∷ (levels_before_list e))) (spell_adjective_list b) (mode c ∷ (reserved d (codes "of") ∷ (spell_before_list e))) (each_adjective_list b) (ap suc (ap suc (each_before_list e))))
  each_prefix (ChoiceOverPrefix a b c d e) = ap suc (each_append (levels_adjective_list b) (0 ∷ (0 ∷ (levels_before_list e))) (spell_adjective_list b) (symbol symbols.Structure c ∷ (reserved d (codes "over") ∷ (spell_before_list e))) (each_adjective_list b) (ap suc (ap suc (each_before_list e))))

  pub each_before : (t : BeforeData) → length (levels_before t) ≡ length (spell_before t)
  each_before (OperandBefore a b c) = each_append (levels_prefix_list a) (levels_base b ++ (0 ∷ [])) (spell_prefix_list a) (spell_base b ++ (list_comma c ∷ [])) (each_prefix_list a) (each_append (levels_base b) (0 ∷ []) (spell_base b) (list_comma c ∷ []) (each_base b) (refl))

  pub each_base : (t : BaseData) → length (levels_base t) ≡ length (spell_base t)
  each_base (IdentifierBase a) = refl
  each_base (SubjectBase a) = refl
  each_base (ArgumentBase a b) = refl
  each_base (GroupBase a b c) = ap suc (each_append (map suc (levels_terms b)) (0 ∷ []) (spell_terms b) (special c (codes ")") ∷ []) (nested_each (levels_terms b) (spell_terms b) (each_terms b)) (refl))
  each_base (CallBase a b c) = refl
  each_base (CallWithBase a b c d) = ap suc (ap suc (each_append (map suc (levels_terms c)) (0 ∷ []) (spell_terms c) (special d (codes ")") ∷ []) (nested_each (levels_terms c) (spell_terms c) (each_terms c)) (refl)))
  each_base (SelectorBase a b) = refl
  each_base (AggregateBase a b c d) = ap suc (ap suc (each_append (map suc (levels_terms c)) (0 ∷ []) (spell_terms c) (special d (codes "#)") ∷ []) (nested_each (levels_terms c) (spell_terms c) (each_terms c)) (refl)))
  each_base (BracketsBase a b c) = ap suc (each_append (map suc (levels_terms b)) (0 ∷ []) (spell_terms b) (symbol symbols.RightBracket c ∷ []) (nested_each (levels_terms b) (spell_terms b) (each_terms b)) (refl))
  each_base (BracesBase a b c) = ap suc (each_append (map suc (levels_terms b)) (0 ∷ []) (spell_terms b) (special c (codes "}") ∷ []) (nested_each (levels_terms b) (spell_terms b) (each_terms b)) (refl))
  each_base (SquaresBase a b c) = ap suc (each_append (map suc (levels_terms b)) (0 ∷ []) (spell_terms b) (special c (codes "]") ∷ []) (nested_each (levels_terms b) (spell_terms b) (each_terms b)) (refl))
  each_base (SetOfBase a b c d e f g h i) = ap suc (each_append (map suc (levels_term b ++ (0 ∷ (0 ∷ (0 ∷ (levels_type f ++ (0 ∷ (levels_formula h)))))))) (0 ∷ []) (spell_term b ++ (reserved c (codes "where") ∷ (identifier d ∷ (reserved e (codes "is") ∷ (spell_type f ++ (special g (codes ":") ∷ (spell_formula h))))))) (special i (codes "}") ∷ []) (nested_each (levels_term b ++ (0 ∷ (0 ∷ (0 ∷ (levels_type f ++ (0 ∷ (levels_formula h))))))) (spell_term b ++ (reserved c (codes "where") ∷ (identifier d ∷ (reserved e (codes "is") ∷ (spell_type f ++ (special g (codes ":") ∷ (spell_formula h))))))) (each_append (levels_term b) (0 ∷ (0 ∷ (0 ∷ (levels_type f ++ (0 ∷ (levels_formula h)))))) (spell_term b) (reserved c (codes "where") ∷ (identifier d ∷ (reserved e (codes "is") ∷ (spell_type f ++ (special g (codes ":") ∷ (spell_formula h)))))) (each_term b) (ap suc (ap suc (ap suc (each_append (levels_type f) (0 ∷ (levels_formula h)) (spell_type f) (special g (codes ":") ∷ (spell_formula h)) (each_type f) (ap suc (each_formula h)))))))) (refl))
  each_base (ChoiceBase a b c) = ap suc (each_append (levels_adjective_list b) (0 ∷ []) (spell_adjective_list b) (mode c ∷ []) (each_adjective_list b) (refl))
  each_base (ChoiceStructureBase a b c) = ap suc (each_append (levels_adjective_list b) (0 ∷ []) (spell_adjective_list b) (symbol symbols.Structure c ∷ []) (each_adjective_list b) (refl))

  pub each_terms : (t : TermsData) → length (levels_terms t) ≡ length (spell_terms t)
  each_terms (ListTerms a b) = each_append (levels_term a) (levels_next_term_list b) (spell_term a) (spell_next_term_list b) (each_term a) (each_next_term_list b)

  pub each_next_term : (t : NextTermData) → length (levels_next_term t) ≡ length (spell_next_term t)
  each_next_term (NextNextTerm a b) = ap suc (each_term b)

  pub each_adjective : (t : AdjectiveData) → length (levels_adjective t) ≡ length (spell_adjective t)
  each_adjective (PlainAdjective a b) = each_append (non_levels a) (0 ∷ []) (non_of a) (symbol symbols.Attribute b ∷ []) (non_each a) (refl)
  each_adjective (WithIdentifierAdjective a b c) = each_append (non_levels a) (0 ∷ (0 ∷ [])) (non_of a) (identifier b ∷ (symbol symbols.Attribute c ∷ [])) (non_each a) (refl)
  each_adjective (WithTermsAdjective a b c d e) = each_append (non_levels a) (1 ∷ (map suc (levels_terms c) ++ (0 ∷ (0 ∷ [])))) (non_of a) (special b (codes "(") ∷ ((spell_terms c) ++ (special d (codes ")") ∷ (symbol symbols.Attribute e ∷ [])))) (non_each a) (ap suc (each_append (map suc (levels_terms c)) (0 ∷ (0 ∷ [])) (spell_terms c) (special d (codes ")") ∷ (symbol symbols.Attribute e ∷ [])) (nested_each (levels_terms c) (spell_terms c) (each_terms c)) (refl)))

  pub each_type : (t : TypeData) → length (levels_type t) ≡ length (spell_type t)
  each_type (ModeType a b) = each_append (levels_adjective_list a) (0 ∷ []) (spell_adjective_list a) (mode b ∷ []) (each_adjective_list a) (refl)
  each_type (ModeOfType a b c d) = each_append (levels_adjective_list a) (0 ∷ (0 ∷ (levels_terms d))) (spell_adjective_list a) (mode b ∷ (reserved c (codes "of") ∷ (spell_terms d))) (each_adjective_list a) (ap suc (ap suc (each_terms d)))
  each_type (StructureType a b) = each_append (levels_adjective_list a) (0 ∷ []) (spell_adjective_list a) (symbol symbols.Structure b ∷ []) (each_adjective_list a) (refl)
  each_type (StructureOverType a b c d) = each_append (levels_adjective_list a) (0 ∷ (0 ∷ (levels_terms d))) (spell_adjective_list a) (symbol symbols.Structure b ∷ (reserved c (codes "over") ∷ (spell_terms d))) (each_adjective_list a) (ap suc (ap suc (each_terms d)))

  pub each_declared : (t : DeclaredData) → length (levels_declared t) ≡ length (spell_declared t)
  each_declared (PlainDeclared a) = refl
  each_declared (TypedDeclared a b c) = ap suc (ap suc (each_type c))

  pub each_next_declared : (t : NextDeclaredData) → length (levels_next_declared t) ≡ length (spell_next_declared t)
  each_next_declared (NextNextDeclared a b) = ap suc (each_declared b)

  pub each_formula : (t : FormulaData) → length (levels_formula t) ≡ length (spell_formula t)
  each_formula (PlainFormula a) = each_disjunction a
  each_formula (ImpliesFormula a b c) = each_append (levels_disjunction a) (0 ∷ (levels_disjunction c)) (spell_disjunction a) (reserved b (codes "implies") ∷ (spell_disjunction c)) (each_disjunction a) (ap suc (each_disjunction c))
  each_formula (IffFormula a b c) = each_append (levels_disjunction a) (0 ∷ (levels_disjunction c)) (spell_disjunction a) (reserved b (codes "iff") ∷ (spell_disjunction c)) (each_disjunction a) (ap suc (each_disjunction c))

  pub each_disjunction : (t : DisjunctionData) → length (levels_disjunction t) ≡ length (spell_disjunction t)
  each_disjunction (ChainDisjunction a b) = each_append (levels_conjunction a) (levels_next_conjunction_list b) (spell_conjunction a) (spell_next_conjunction_list b) (each_conjunction a) (each_next_conjunction_list b)

  pub each_conjunction : (t : ConjunctionData) → length (levels_conjunction t) ≡ length (spell_conjunction t)
  each_conjunction (ChainConjunction a b) = each_append (levels_unit a) (levels_next_unit_list b) (spell_unit a) (spell_next_unit_list b) (each_unit a) (each_next_unit_list b)

  pub each_unit : (t : UnitData) → length (levels_unit t) ≡ length (spell_unit t)
  each_unit (NotUnit a b) = ap suc (nested_each (levels_unit b) (spell_unit b) (each_unit b))
  each_unit (ContradictionUnit a) = refl
  each_unit (ThesisUnit a) = refl
  each_unit (QuantifiedUnit a) = each_quantified a
  each_unit (GroupUnit a b c) = ap suc (each_append (map suc (levels_formula b)) (0 ∷ []) (spell_formula b) (special c (codes ")") ∷ []) (nested_each (levels_formula b) (spell_formula b) (each_formula b)) (refl))
  each_unit (PrivateUnit a b c) = refl
  each_unit (PrivateWithUnit a b c d) = ap suc (ap suc (each_append (map suc (levels_terms c)) (0 ∷ []) (spell_terms c) (special d (codes "]") ∷ []) (nested_each (levels_terms c) (spell_terms c) (each_terms c)) (refl)))
  each_unit (PredicateUnit a) = refl
  each_unit (PredicateRightUnit a b) = ap suc (each_terms b)
  each_unit (PredicateLeftUnit a b) = each_append (levels_terms a) (0 ∷ []) (spell_terms a) (symbol symbols.Predicate b ∷ []) (each_terms a) (refl)
  each_unit (PredicateBothUnit a b c) = each_append (levels_terms a) (0 ∷ (levels_terms c)) (spell_terms a) (symbol symbols.Predicate b ∷ (spell_terms c)) (each_terms a) (ap suc (each_terms c))
  each_unit (IsTypeUnit a b c) = each_append (levels_term a) (0 ∷ (levels_type c)) (spell_term a) (reserved b (codes "is") ∷ (spell_type c)) (each_term a) (ap suc (each_type c))
  each_unit (IsAdjectivesUnit a b c d) = each_append (levels_term a) (0 ∷ (levels_adjective c ++ (levels_adjective_list d))) (spell_term a) (reserved b (codes "is") ∷ (spell_adjective c ++ (spell_adjective_list d))) (each_term a) (ap suc (each_append (levels_adjective c) (levels_adjective_list d) (spell_adjective c) (spell_adjective_list d) (each_adjective c) (each_adjective_list d)))

  pub each_quantified : (t : QuantifiedData) → length (levels_quantified t) ≡ length (spell_quantified t)
  each_quantified (ForQuantified a b c d e) = ap suc (nested_each (levels_declared b ++ (levels_next_declared_list c ++ (0 ∷ (levels_formula e)))) (spell_declared b ++ (spell_next_declared_list c ++ (reserved d (codes "holds") ∷ (spell_formula e)))) (each_append (levels_declared b) (levels_next_declared_list c ++ (0 ∷ (levels_formula e))) (spell_declared b) (spell_next_declared_list c ++ (reserved d (codes "holds") ∷ (spell_formula e))) (each_declared b) (each_append (levels_next_declared_list c) (0 ∷ (levels_formula e)) (spell_next_declared_list c) (reserved d (codes "holds") ∷ (spell_formula e)) (each_next_declared_list c) (ap suc (each_formula e)))))
  each_quantified (ForSuchQuantified a b c d e f g) = ap suc (nested_each (levels_declared b ++ (levels_next_declared_list c ++ (0 ∷ (levels_formula e ++ (0 ∷ (levels_formula g)))))) (spell_declared b ++ (spell_next_declared_list c ++ (reserved d (codes "st") ∷ (spell_formula e ++ (reserved f (codes "holds") ∷ (spell_formula g)))))) (each_append (levels_declared b) (levels_next_declared_list c ++ (0 ∷ (levels_formula e ++ (0 ∷ (levels_formula g))))) (spell_declared b) (spell_next_declared_list c ++ (reserved d (codes "st") ∷ (spell_formula e ++ (reserved f (codes "holds") ∷ (spell_formula g))))) (each_declared b) (each_append (levels_next_declared_list c) (0 ∷ (levels_formula e ++ (0 ∷ (levels_formula g)))) (spell_next_declared_list c) (reserved d (codes "st") ∷ (spell_formula e ++ (reserved f (codes "holds") ∷ (spell_formula g)))) (each_next_declared_list c) (ap suc (each_append (levels_formula e) (0 ∷ (levels_formula g)) (spell_formula e) (reserved f (codes "holds") ∷ (spell_formula g)) (each_formula e) (ap suc (each_formula g)))))))
  each_quantified (ForFurtherQuantified a b c d) = ap suc (nested_each (levels_declared b ++ (levels_next_declared_list c ++ (levels_quantified d))) (spell_declared b ++ (spell_next_declared_list c ++ (spell_quantified d))) (each_append (levels_declared b) (levels_next_declared_list c ++ (levels_quantified d)) (spell_declared b) (spell_next_declared_list c ++ (spell_quantified d)) (each_declared b) (each_append (levels_next_declared_list c) (levels_quantified d) (spell_next_declared_list c) (spell_quantified d) (each_next_declared_list c) (each_quantified d))))
  each_quantified (ForSuchFurtherQuantified a b c d e f) = ap suc (nested_each (levels_declared b ++ (levels_next_declared_list c ++ (0 ∷ (levels_formula e ++ (levels_quantified f))))) (spell_declared b ++ (spell_next_declared_list c ++ (reserved d (codes "st") ∷ (spell_formula e ++ (spell_quantified f))))) (each_append (levels_declared b) (levels_next_declared_list c ++ (0 ∷ (levels_formula e ++ (levels_quantified f)))) (spell_declared b) (spell_next_declared_list c ++ (reserved d (codes "st") ∷ (spell_formula e ++ (spell_quantified f)))) (each_declared b) (each_append (levels_next_declared_list c) (0 ∷ (levels_formula e ++ (levels_quantified f))) (spell_next_declared_list c) (reserved d (codes "st") ∷ (spell_formula e ++ (spell_quantified f))) (each_next_declared_list c) (ap suc (each_append (levels_formula e) (levels_quantified f) (spell_formula e) (spell_quantified f) (each_formula e) (each_quantified f))))))
  each_quantified (ExistsQuantified a b c d e) = ap suc (nested_each (levels_declared b ++ (levels_next_declared_list c ++ (0 ∷ (levels_formula e)))) (spell_declared b ++ (spell_next_declared_list c ++ (reserved d (codes "st") ∷ (spell_formula e)))) (each_append (levels_declared b) (levels_next_declared_list c ++ (0 ∷ (levels_formula e))) (spell_declared b) (spell_next_declared_list c ++ (reserved d (codes "st") ∷ (spell_formula e))) (each_declared b) (each_append (levels_next_declared_list c) (0 ∷ (levels_formula e)) (spell_next_declared_list c) (reserved d (codes "st") ∷ (spell_formula e)) (each_next_declared_list c) (ap suc (each_formula e)))))

  pub each_piece_list : (ts : PieceList) → length (levels_piece_list ts) ≡ length (spell_piece_list ts)
  each_piece_list no_pieces = refl
  each_piece_list (more_pieces t ts) = each_append (levels_piece t) (levels_piece_list ts) (spell_piece t) (spell_piece_list ts) (each_piece t) (each_piece_list ts)

  pub each_prefix_list : (ts : PrefixList) → length (levels_prefix_list ts) ≡ length (spell_prefix_list ts)
  each_prefix_list no_prefixs = refl
  each_prefix_list (more_prefixs t ts) = each_append (levels_prefix t) (levels_prefix_list ts) (spell_prefix t) (spell_prefix_list ts) (each_prefix t) (each_prefix_list ts)

  pub each_before_list : (ts : BeforeList) → length (levels_before_list ts) ≡ length (spell_before_list ts)
  each_before_list no_befores = refl
  each_before_list (more_befores t ts) = each_append (levels_before t) (levels_before_list ts) (spell_before t) (spell_before_list ts) (each_before t) (each_before_list ts)

  pub each_next_term_list : (ts : NextTermList) → length (levels_next_term_list ts) ≡ length (spell_next_term_list ts)
  each_next_term_list no_next_terms = refl
  each_next_term_list (more_next_terms t ts) = each_append (levels_next_term t) (levels_next_term_list ts) (spell_next_term t) (spell_next_term_list ts) (each_next_term t) (each_next_term_list ts)

  pub each_adjective_list : (ts : AdjectiveList) → length (levels_adjective_list ts) ≡ length (spell_adjective_list ts)
  each_adjective_list no_adjectives = refl
  each_adjective_list (more_adjectives t ts) = each_append (levels_adjective t) (levels_adjective_list ts) (spell_adjective t) (spell_adjective_list ts) (each_adjective t) (each_adjective_list ts)

  pub each_next_declared_list : (ts : NextDeclaredList) → length (levels_next_declared_list ts) ≡ length (spell_next_declared_list ts)
  each_next_declared_list no_next_declareds = refl
  each_next_declared_list (more_next_declareds t ts) = each_append (levels_next_declared t) (levels_next_declared_list ts) (spell_next_declared t) (spell_next_declared_list ts) (each_next_declared t) (each_next_declared_list ts)

  pub each_next_conjunction_list : (ts : NextConjunctionList) → length (levels_next_conjunction_list ts) ≡ length (spell_next_conjunction_list ts)
  each_next_conjunction_list no_next_conjunctions = refl
  each_next_conjunction_list (more_next_conjunctions (OrNextConjunction p x) ts) = ap suc (nested_each (levels_conjunction x ++ levels_next_conjunction_list ts) (spell_conjunction x ++ spell_next_conjunction_list ts) (each_append (levels_conjunction x) (levels_next_conjunction_list ts) (spell_conjunction x) (spell_next_conjunction_list ts) (each_conjunction x) (each_next_conjunction_list ts)))

  pub each_next_unit_list : (ts : NextUnitList) → length (levels_next_unit_list ts) ≡ length (spell_next_unit_list ts)
  each_next_unit_list no_next_units = refl
  each_next_unit_list (more_next_units (AndNextUnit p x) ts) = ap suc (nested_each (levels_unit x ++ levels_next_unit_list ts) (spell_unit x ++ spell_next_unit_list ts) (each_append (levels_unit x) (levels_next_unit_list ts) (spell_unit x) (spell_next_unit_list ts) (each_unit x) (each_next_unit_list ts)))

abbrev pub levels_declarations : DeclarationsData → List ℕ
levels_declarations a = levels_declared a.first ++ levels_next_declared_list a.more

abbrev pub levels_adjectives : AdjectivesData → List ℕ
levels_adjectives a = levels_adjective a.first ++ levels_adjective_list a.more

pub each_declarations : (a : DeclarationsData) → length (levels_declarations a) ≡ length (spell_declarations a)
each_declarations a = each_append (levels_declared a.first) (levels_next_declared_list a.more) (spell_declared a.first) (spell_next_declared_list a.more) (each_declared a.first) (each_next_declared_list a.more)

pub each_adjectives : (a : AdjectivesData) → length (levels_adjectives a) ≡ length (spell_adjectives a)
each_adjectives a = each_append (levels_adjective a.first) (levels_adjective_list a.more) (spell_adjective a.first) (spell_adjective_list a.more) (each_adjective a.first) (each_adjective_list a.more)
