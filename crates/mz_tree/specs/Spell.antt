-- The spelling of expressions: one case for each alternative of the grammar.
use Rattle.std.specs.Prelude.{List, [], ◌∷◌, ◌++◌, codes}
use Rattle.mz_base.specs.declared.symbol_kind.SymbolKind.TheVariants as symbols
use Rattle.mz_base.specs.declared.token.MarkedToken.{MarkedToken}
use Rattle.mz_tree.specs.Spelled.{reserved, special, identifier, symbol, functor, mode, argument, list_comma, comma_token, being_token, non_of}
use Rattle.mz_tree.specs.Trees.{DeclarationsData, AdjectivesData, TermData, PieceData, PrefixData, BeforeData, BaseData, TermsData, NextTermData, AdjectiveData, TypeData, DeclaredData, NextDeclaredData, FormulaData, DisjunctionData, NextConjunctionData, ConjunctionData, NextUnitData, UnitData, QuantifiedData, PieceList, PrefixList, BeforeList, NextTermList, AdjectiveList, NextDeclaredList, NextConjunctionList, NextUnitList, RunTerm, FunctorPiece, OperandPiece, SelectorPrefix, ChoiceOfPrefix, ChoiceOverPrefix, OperandBefore, IdentifierBase, SubjectBase, ArgumentBase, GroupBase, CallBase, CallWithBase, SelectorBase, AggregateBase, BracketsBase, BracesBase, SquaresBase, SetOfBase, ChoiceBase, ChoiceStructureBase, ListTerms, NextNextTerm, PlainAdjective, WithIdentifierAdjective, WithTermsAdjective, ModeType, ModeOfType, StructureType, StructureOverType, PlainDeclared, TypedDeclared, NextNextDeclared, PlainFormula, ImpliesFormula, IffFormula, ChainDisjunction, OrNextConjunction, ChainConjunction, AndNextUnit, NotUnit, ContradictionUnit, ThesisUnit, QuantifiedUnit, GroupUnit, PrivateUnit, PrivateWithUnit, PredicateUnit, PredicateRightUnit, PredicateLeftUnit, PredicateBothUnit, IsTypeUnit, IsAdjectivesUnit, ForQuantified, ForSuchQuantified, ForFurtherQuantified, ForSuchFurtherQuantified, ExistsQuantified, no_pieces, more_pieces, no_prefixs, more_prefixs, no_befores, more_befores, no_next_terms, more_next_terms, no_adjectives, more_adjectives, no_next_declareds, more_next_declareds, no_next_conjunctions, more_next_conjunctions, no_next_units, more_next_units}

abbrev mutual
  pub spell_term : TermData → List MarkedToken
  spell_term (RunTerm a b) = spell_piece a ++ (spell_piece_list b)

  pub spell_piece : PieceData → List MarkedToken
  spell_piece (FunctorPiece a b) = functor a b ∷ []
  spell_piece (OperandPiece a b) = spell_prefix_list a ++ (spell_base b)

  pub spell_prefix : PrefixData → List MarkedToken
  spell_prefix (SelectorPrefix a b c) = reserved a (codes "the") ∷ (symbol symbols.Selector b ∷ (reserved c (codes "of") ∷ []))
  spell_prefix (ChoiceOfPrefix a b c d e) = reserved a (codes "the") ∷ (spell_adjective_list b ++ (mode c ∷ (reserved d (codes "of") ∷ (spell_before_list e))))
  spell_prefix (ChoiceOverPrefix a b c d e) = reserved a (codes "the") ∷ (spell_adjective_list b ++ (symbol symbols.Structure c ∷ (reserved d (codes "over") ∷ (spell_before_list e))))

  pub spell_before : BeforeData → List MarkedToken
  spell_before (OperandBefore a b c) = spell_prefix_list a ++ (spell_base b ++ (list_comma c ∷ []))

  pub spell_base : BaseData → List MarkedToken
  spell_base (IdentifierBase a) = identifier a ∷ []
  spell_base (SubjectBase a) = reserved a (codes "it") ∷ []
  spell_base (ArgumentBase a b) = argument a b ∷ []
  spell_base (GroupBase a b c) = special a (codes "(") ∷ ((spell_terms b) ++ (special c (codes ")") ∷ []))
  spell_base (CallBase a b c) = identifier a ∷ (special b (codes "(") ∷ (special c (codes ")") ∷ []))
  spell_base (CallWithBase a b c d) = identifier a ∷ (special b (codes "(") ∷ ((spell_terms c) ++ (special d (codes ")") ∷ [])))
  spell_base (SelectorBase a b) = reserved a (codes "the") ∷ (symbol symbols.Selector b ∷ [])
  spell_base (AggregateBase a b c d) = symbol symbols.Structure a ∷ (special b (codes "(#") ∷ ((spell_terms c) ++ (special d (codes "#)") ∷ [])))
  spell_base (BracketsBase a b c) = symbol symbols.LeftBracket a ∷ ((spell_terms b) ++ (symbol symbols.RightBracket c ∷ []))
  spell_base (BracesBase a b c) = special a (codes "{") ∷ ((spell_terms b) ++ (special c (codes "}") ∷ []))
  spell_base (SquaresBase a b c) = special a (codes "[") ∷ ((spell_terms b) ++ (special c (codes "]") ∷ []))
  spell_base (SetOfBase a b c d e f g h i) = special a (codes "{") ∷ ((spell_term b ++ (reserved c (codes "where") ∷ (identifier d ∷ (reserved e (codes "is") ∷ (spell_type f ++ (special g (codes ":") ∷ (spell_formula h))))))) ++ (special i (codes "}") ∷ []))
  spell_base (ChoiceBase a b c) = reserved a (codes "the") ∷ (spell_adjective_list b ++ (mode c ∷ []))
  spell_base (ChoiceStructureBase a b c) = reserved a (codes "the") ∷ (spell_adjective_list b ++ (symbol symbols.Structure c ∷ []))

  pub spell_terms : TermsData → List MarkedToken
  spell_terms (ListTerms a b) = spell_term a ++ (spell_next_term_list b)

  pub spell_next_term : NextTermData → List MarkedToken
  spell_next_term (NextNextTerm a b) = list_comma a ∷ (spell_term b)

  pub spell_adjective : AdjectiveData → List MarkedToken
  spell_adjective (PlainAdjective a b) = non_of a ++ (symbol symbols.Attribute b ∷ [])
  spell_adjective (WithIdentifierAdjective a b c) = non_of a ++ (identifier b ∷ (symbol symbols.Attribute c ∷ []))
  spell_adjective (WithTermsAdjective a b c d e) = non_of a ++ (special b (codes "(") ∷ ((spell_terms c) ++ (special d (codes ")") ∷ (symbol symbols.Attribute e ∷ []))))

  pub spell_type : TypeData → List MarkedToken
  spell_type (ModeType a b) = spell_adjective_list a ++ (mode b ∷ [])
  spell_type (ModeOfType a b c d) = spell_adjective_list a ++ (mode b ∷ (reserved c (codes "of") ∷ (spell_terms d)))
  spell_type (StructureType a b) = spell_adjective_list a ++ (symbol symbols.Structure b ∷ [])
  spell_type (StructureOverType a b c d) = spell_adjective_list a ++ (symbol symbols.Structure b ∷ (reserved c (codes "over") ∷ (spell_terms d)))

  pub spell_declared : DeclaredData → List MarkedToken
  spell_declared (PlainDeclared a) = identifier a ∷ []
  spell_declared (TypedDeclared a b c) = identifier a ∷ (being_token b ∷ (spell_type c))

  pub spell_next_declared : NextDeclaredData → List MarkedToken
  spell_next_declared (NextNextDeclared a b) = comma_token a ∷ (spell_declared b)

  pub spell_formula : FormulaData → List MarkedToken
  spell_formula (PlainFormula a) = spell_disjunction a
  spell_formula (ImpliesFormula a b c) = spell_disjunction a ++ (reserved b (codes "implies") ∷ (spell_disjunction c))
  spell_formula (IffFormula a b c) = spell_disjunction a ++ (reserved b (codes "iff") ∷ (spell_disjunction c))

  pub spell_disjunction : DisjunctionData → List MarkedToken
  spell_disjunction (ChainDisjunction a b) = spell_conjunction a ++ (spell_next_conjunction_list b)

  pub spell_next_conjunction : NextConjunctionData → List MarkedToken
  spell_next_conjunction (OrNextConjunction a b) = reserved a (codes "or") ∷ (spell_conjunction b)

  pub spell_conjunction : ConjunctionData → List MarkedToken
  spell_conjunction (ChainConjunction a b) = spell_unit a ++ (spell_next_unit_list b)

  pub spell_next_unit : NextUnitData → List MarkedToken
  spell_next_unit (AndNextUnit a b) = special a (codes "&") ∷ (spell_unit b)

  pub spell_unit : UnitData → List MarkedToken
  spell_unit (NotUnit a b) = reserved a (codes "not") ∷ (spell_unit b)
  spell_unit (ContradictionUnit a) = reserved a (codes "contradiction") ∷ []
  spell_unit (ThesisUnit a) = reserved a (codes "thesis") ∷ []
  spell_unit (QuantifiedUnit a) = spell_quantified a
  spell_unit (GroupUnit a b c) = special a (codes "(") ∷ ((spell_formula b) ++ (special c (codes ")") ∷ []))
  spell_unit (PrivateUnit a b c) = identifier a ∷ (special b (codes "[") ∷ (special c (codes "]") ∷ []))
  spell_unit (PrivateWithUnit a b c d) = identifier a ∷ (special b (codes "[") ∷ ((spell_terms c) ++ (special d (codes "]") ∷ [])))
  spell_unit (PredicateUnit a) = symbol symbols.Predicate a ∷ []
  spell_unit (PredicateRightUnit a b) = symbol symbols.Predicate a ∷ (spell_terms b)
  spell_unit (PredicateLeftUnit a b) = spell_terms a ++ (symbol symbols.Predicate b ∷ [])
  spell_unit (PredicateBothUnit a b c) = spell_terms a ++ (symbol symbols.Predicate b ∷ (spell_terms c))
  spell_unit (IsTypeUnit a b c) = spell_term a ++ (reserved b (codes "is") ∷ (spell_type c))
  spell_unit (IsAdjectivesUnit a b c d) = spell_term a ++ (reserved b (codes "is") ∷ (spell_adjective c ++ (spell_adjective_list d)))

  pub spell_quantified : QuantifiedData → List MarkedToken
  spell_quantified (ForQuantified a b c d e) = reserved a (codes "for") ∷ (spell_declared b ++ (spell_next_declared_list c ++ (reserved d (codes "holds") ∷ (spell_formula e))))
  spell_quantified (ForSuchQuantified a b c d e f g) = reserved a (codes "for") ∷ (spell_declared b ++ (spell_next_declared_list c ++ (reserved d (codes "st") ∷ (spell_formula e ++ (reserved f (codes "holds") ∷ (spell_formula g))))))
  spell_quantified (ForFurtherQuantified a b c d) = reserved a (codes "for") ∷ (spell_declared b ++ (spell_next_declared_list c ++ (spell_quantified d)))
  spell_quantified (ForSuchFurtherQuantified a b c d e f) = reserved a (codes "for") ∷ (spell_declared b ++ (spell_next_declared_list c ++ (reserved d (codes "st") ∷ (spell_formula e ++ (spell_quantified f)))))
  spell_quantified (ExistsQuantified a b c d e) = reserved a (codes "ex") ∷ (spell_declared b ++ (spell_next_declared_list c ++ (reserved d (codes "st") ∷ (spell_formula e))))

  pub spell_piece_list : PieceList → List MarkedToken
  spell_piece_list no_pieces = []
  spell_piece_list (more_pieces t ts) = spell_piece t ++ spell_piece_list ts

  pub spell_prefix_list : PrefixList → List MarkedToken
  spell_prefix_list no_prefixs = []
  spell_prefix_list (more_prefixs t ts) = spell_prefix t ++ spell_prefix_list ts

  pub spell_before_list : BeforeList → List MarkedToken
  spell_before_list no_befores = []
  spell_before_list (more_befores t ts) = spell_before t ++ spell_before_list ts

  pub spell_next_term_list : NextTermList → List MarkedToken
  spell_next_term_list no_next_terms = []
  spell_next_term_list (more_next_terms t ts) = spell_next_term t ++ spell_next_term_list ts

  pub spell_adjective_list : AdjectiveList → List MarkedToken
  spell_adjective_list no_adjectives = []
  spell_adjective_list (more_adjectives t ts) = spell_adjective t ++ spell_adjective_list ts

  pub spell_next_declared_list : NextDeclaredList → List MarkedToken
  spell_next_declared_list no_next_declareds = []
  spell_next_declared_list (more_next_declareds t ts) = spell_next_declared t ++ spell_next_declared_list ts

  pub spell_next_conjunction_list : NextConjunctionList → List MarkedToken
  spell_next_conjunction_list no_next_conjunctions = []
  spell_next_conjunction_list (more_next_conjunctions t ts) = spell_next_conjunction t ++ spell_next_conjunction_list ts

  pub spell_next_unit_list : NextUnitList → List MarkedToken
  spell_next_unit_list no_next_units = []
  spell_next_unit_list (more_next_units t ts) = spell_next_unit t ++ spell_next_unit_list ts

abbrev pub spell_declarations : DeclarationsData → List MarkedToken
spell_declarations a = spell_declared a.first ++ spell_next_declared_list a.more

abbrev pub spell_adjectives : AdjectivesData → List MarkedToken
spell_adjectives a = spell_adjective a.first ++ spell_adjective_list a.more
