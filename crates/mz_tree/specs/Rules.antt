-- The rules beside the alternatives of the grammar.
use Rattle.std.specs.Prelude.{◌≡◌, ◌≤◌, Bool, true, false, List, [], ◌∷◌, Option, Some, None}
use Rattle.mz_tree.specs.declared.word.Comma.{Comma}
use Rattle.mz_tree.specs.Trees.{DeclarationsData, AdjectivesData, TermData, PieceData, BaseData, TermsData, AdjectiveData, TypeData, DeclaredData, FormulaData, DisjunctionData, ConjunctionData, UnitData, QuantifiedData, PieceList, PrefixList, NextTermList, AdjectiveList, NextDeclaredList, NextConjunctionList, NextUnitList, RunTerm, FunctorPiece, OperandPiece, SelectorPrefix, IdentifierBase, SubjectBase, ArgumentBase, GroupBase, CallBase, CallWithBase, SelectorBase, AggregateBase, BracketsBase, BracesBase, SquaresBase, SetOfBase, ChoiceBase, ChoiceStructureBase, ChoiceOfPrefix, ChoiceOverPrefix, ListTerms, NextNextTerm, PlainAdjective, WithIdentifierAdjective, WithTermsAdjective, ModeType, ModeOfType, StructureType, StructureOverType, PlainDeclared, TypedDeclared, NextNextDeclared, PlainFormula, ImpliesFormula, IffFormula, ChainDisjunction, OrNextConjunction, ChainConjunction, AndNextUnit, NotUnit, ContradictionUnit, ThesisUnit, QuantifiedUnit, GroupUnit, PrivateUnit, PrivateWithUnit, PredicateUnit, PredicateRightUnit, PredicateLeftUnit, PredicateBothUnit, IsTypeUnit, IsAdjectivesUnit, ForQuantified, ForSuchQuantified, ForFurtherQuantified, ForSuchFurtherQuantified, ExistsQuantified, no_pieces, more_pieces, no_prefixs, more_prefixs, no_next_terms, more_next_terms, no_adjectives, more_adjectives, no_next_declareds, more_next_declareds, no_next_conjunctions, more_next_conjunctions, no_next_units, more_next_units}

-- each of the list is such
abbrev pub Every : {X : Type 0} → (X → Type 0) → List X → Type 0
Every Is [] = Unit {0}
Every Is (x ∷ xs) = Is x × Every Is xs

-- it is such, where there is one
abbrev pub IfAny : {X : Type 0} → (X → Type 0) → Option X → Type 0
IfAny Is None = Unit {0}
IfAny Is (Some x) = Is x

-- what stands last in a term
pub data Last : Type 0 where
  start : Last
  functor : Last
  operand : Last
  -- several terms in parentheses, which want a functor symbol beside them
  several : Last

abbrev pub MayEnd : Last → Type 0
MayEnd start = ⊥
MayEnd functor = Unit {0}
MayEnd operand = Unit {0}
MayEnd several = ⊥

-- no two operands are neighbours
abbrev pub MayTake : Last → Type 0
MayTake start = Unit {0}
MayTake functor = Unit {0}
MayTake operand = ⊥
MayTake several = ⊥

abbrev pub is_several : BaseData → Bool
is_several (GroupBase p (ListTerms t (more_next_terms u us)) q) = true
is_several _ = false

-- several terms in parentheses are no operand after `of`
abbrev pub IsOperandAfter : PrefixList → BaseData → Type 0
IsOperandAfter no_prefixs b = Unit {0}
IsOperandAfter (more_prefixs p ps) b = is_several b ≡ false

abbrev pub last_with : Bool → Last
last_with true = several
last_with false = operand

abbrev pub last_of : Last → BaseData → Last
last_of start b = last_with (is_several b)
last_of functor b = operand
last_of operand b = operand
last_of several b = operand

abbrev pub last_behind : Last → PieceData → Last
last_behind l (FunctorPiece a b) = functor
last_behind l (OperandPiece a b) = last_of l b

-- operators that may stand behind a formula
pub data Operator : Type 0 where
  conjoins : Operator
  disjoins : Operator
  -- `implies` or `iff`
  concludes : Operator

-- The formula behind an open `holds` or `st` reaches as far to the right as it can: the operator belongs to it.
abbrev mutual
  pub takes_formula : Operator → FormulaData → Bool
  takes_formula conjoins f = true
  takes_formula disjoins f = true
  takes_formula concludes (PlainFormula d) = true
  takes_formula concludes (ImpliesFormula d p e) = takes_disjunction concludes e
  takes_formula concludes (IffFormula d p e) = takes_disjunction concludes e

  pub takes_disjunction : Operator → DisjunctionData → Bool
  takes_disjunction o (ChainDisjunction c cs) = takes_last_conjunction o (takes_conjunction o c) cs

  -- the last operand of a chain, given what the one before says
  pub takes_last_conjunction : Operator → Bool → NextConjunctionList → Bool
  takes_last_conjunction o b no_next_conjunctions = b
  takes_last_conjunction o b (more_next_conjunctions (OrNextConjunction p d) ds) = takes_last_conjunction o (takes_conjunction o d) ds

  pub takes_conjunction : Operator → ConjunctionData → Bool
  takes_conjunction o (ChainConjunction u us) = takes_last_unit o (takes_unit o u) us

  pub takes_last_unit : Operator → Bool → NextUnitList → Bool
  takes_last_unit o b no_next_units = b
  takes_last_unit o b (more_next_units (AndNextUnit p v) vs) = takes_last_unit o (takes_unit o v) vs

  pub takes_unit : Operator → UnitData → Bool
  takes_unit o (NotUnit p u) = takes_unit o u
  takes_unit o (QuantifiedUnit q) = takes_quantified o q
  takes_unit o (ContradictionUnit a) = false
  takes_unit o (ThesisUnit a) = false
  takes_unit o (GroupUnit a b c) = false
  takes_unit o (PrivateUnit a b c) = false
  takes_unit o (PrivateWithUnit a b c d) = false
  takes_unit o (PredicateUnit a) = false
  takes_unit o (PredicateRightUnit a b) = false
  takes_unit o (PredicateLeftUnit a b) = false
  takes_unit o (PredicateBothUnit a b c) = false
  takes_unit o (IsTypeUnit a b c) = false
  takes_unit o (IsAdjectivesUnit a b c d) = false

  pub takes_quantified : Operator → QuantifiedData → Bool
  takes_quantified o (ForQuantified a b c d f) = takes_formula o f
  takes_quantified o (ForSuchQuantified a b c d e g f) = takes_formula o f
  takes_quantified o (ForFurtherQuantified a b c q) = takes_quantified o q
  takes_quantified o (ForSuchFurtherQuantified a b c d e q) = takes_quantified o q
  takes_quantified o (ExistsQuantified a b c d f) = takes_formula o f

-- a choice stands before the base, so that a list of operands stands last, which a list comma goes on
abbrev pub has_choice : PrefixList → Bool
has_choice no_prefixs = false
has_choice (more_prefixs (SelectorPrefix a b c) ps) = has_choice ps
has_choice (more_prefixs (ChoiceOfPrefix a b c d e) ps) = true
has_choice (more_prefixs (ChoiceOverPrefix a b c d e) ps) = true

abbrev pub piece_ends_in_list : PieceData → Bool
piece_ends_in_list (FunctorPiece a b) = false
piece_ends_in_list (OperandPiece a b) = has_choice a

-- the last piece, given what the one before says
abbrev pub last_piece_ends_in_list : Bool → PieceList → Bool
last_piece_ends_in_list b no_pieces = b
last_piece_ends_in_list b (more_pieces p ps) = last_piece_ends_in_list (piece_ends_in_list p) ps

-- a list of operands stands last in the term, which a list comma goes on
abbrev pub term_ends_in_list : TermData → Bool
term_ends_in_list (RunTerm p ps) = last_piece_ends_in_list (piece_ends_in_list p) ps

-- a list of terms stands last in the type, which a list comma goes on
abbrev pub ends_in_terms : TypeData → Bool
ends_in_terms (ModeType a b) = false
ends_in_terms (ModeOfType a b c d) = true
ends_in_terms (StructureType a b) = false
ends_in_terms (StructureOverType a b c d) = true

-- the comma behind what ends in such a list, or doesn't
abbrev pub DividesAfter : Bool → Comma → Type 0
DividesAfter true c = c.dividing ≡ true
DividesAfter false c = Unit {0}

-- the comma behind a declaration, whose type a list comma would go on
abbrev pub DividesBehind : DeclaredData → Comma → Type 0
DividesBehind (PlainDeclared a) c = Unit {0}
DividesBehind (TypedDeclared a b t) c = DividesAfter (ends_in_terms t) c

-- The trees that obey the rules. The Bool says whether the tree stands in a field's type, where a selector may stand without
-- `of`. Terms and formulas are one cycle: a set term holds a formula.
abbrev mutual
  pub IsTerm : Bool → TermData → Type 0
  IsTerm f (RunTerm p ps) = IsPiece f start p × GoesOn f (last_behind start p) ps

  -- the piece may stand behind what stands last
  pub IsPiece : Bool → Last → PieceData → Type 0
  IsPiece f l (FunctorPiece a b) = Unit {0}
  IsPiece f l (OperandPiece a b) = MayTake l × ArePrefixes f a × IsBase f b × IsOperandAfter a b

  -- the pieces go on a term with what stands last in it
  pub GoesOn : Bool → Last → PieceList → Type 0
  GoesOn f l no_pieces = MayEnd l
  GoesOn f l (more_pieces p ps) = IsPiece f l p × GoesOn f (last_behind l p) ps

  pub ArePrefixes : Bool → PrefixList → Type 0
  ArePrefixes f no_prefixs = Unit {0}
  ArePrefixes f (more_prefixs (SelectorPrefix a b c) ps) = ArePrefixes f ps
  -- choices are not in the language yet
  ArePrefixes f (more_prefixs (ChoiceOfPrefix a b c d e) ps) = ⊥
  ArePrefixes f (more_prefixs (ChoiceOverPrefix a b c d e) ps) = ⊥

  pub IsBase : Bool → BaseData → Type 0
  IsBase f (IdentifierBase a) = Unit {0}
  IsBase f (SubjectBase a) = Unit {0}
  IsBase f (ArgumentBase a n) = (1 ≤ n) × (n ≤ 10)
  IsBase f (GroupBase a b c) = AreTerms f b
  IsBase f (CallBase a b c) = Unit {0}
  IsBase f (CallWithBase a b c d) = AreTerms f c
  IsBase f (SelectorBase a b) = f ≡ true
  IsBase f (AggregateBase a b c d) = AreTerms f c
  IsBase f (BracketsBase a b c) = AreTerms f b
  IsBase f (BracesBase a b c) = AreTerms f b
  IsBase f (SquaresBase a b c) = AreTerms f b
  -- set terms and choices are not in the language yet
  IsBase f (SetOfBase a b c d e g h i j) = ⊥
  IsBase f (ChoiceBase a b c) = ⊥
  IsBase f (ChoiceStructureBase a b c) = ⊥

  pub AreTerms : Bool → TermsData → Type 0
  AreTerms f (ListTerms t ts) = IsTerm f t × AreMoreTerms f ts

  pub AreMoreTerms : Bool → NextTermList → Type 0
  AreMoreTerms f no_next_terms = Unit {0}
  AreMoreTerms f (more_next_terms (NextNextTerm p t) ts) = IsTerm f t × AreMoreTerms f ts

  pub IsAdjective : Bool → AdjectiveData → Type 0
  IsAdjective f (PlainAdjective a b) = Unit {0}
  IsAdjective f (WithIdentifierAdjective a b c) = Unit {0}
  IsAdjective f (WithTermsAdjective a b c d e) = AreTerms f c

  pub AreAdjectives : Bool → AdjectiveList → Type 0
  AreAdjectives f no_adjectives = Unit {0}
  AreAdjectives f (more_adjectives a bs) = IsAdjective f a × AreAdjectives f bs

  pub IsType : Bool → TypeData → Type 0
  IsType f (ModeType a b) = AreAdjectives f a
  IsType f (ModeOfType a b c d) = AreAdjectives f a × AreTerms f d
  IsType f (StructureType a b) = AreAdjectives f a
  IsType f (StructureOverType a b c d) = AreAdjectives f a × AreTerms f d

  pub IsDeclared : Bool → DeclaredData → Type 0
  IsDeclared f (PlainDeclared a) = Unit {0}
  IsDeclared f (TypedDeclared a b t) = IsType f t

  -- the declarations behind one
  pub AreDeclared : Bool → DeclaredData → NextDeclaredList → Type 0
  AreDeclared f d no_next_declareds = Unit {0}
  AreDeclared f d (more_next_declareds (NextNextDeclared c e) es) = DividesBehind d c × IsDeclared f e × AreDeclared f e es

  pub IsFormula : Bool → FormulaData → Type 0
  IsFormula f (PlainFormula d) = IsDisjunction f d
  IsFormula f (ImpliesFormula d p e) = IsDisjunction f d × (takes_disjunction concludes d ≡ false) × IsDisjunction f e
  IsFormula f (IffFormula d p e) = IsDisjunction f d × (takes_disjunction concludes d ≡ false) × IsDisjunction f e

  pub IsDisjunction : Bool → DisjunctionData → Type 0
  IsDisjunction f (ChainDisjunction c cs) = IsConjunction f c × AreDisjoined f (takes_conjunction disjoins c) cs

  -- the operands behind one that may take the `or` before them
  pub AreDisjoined : Bool → Bool → NextConjunctionList → Type 0
  AreDisjoined f b no_next_conjunctions = Unit {0}
  AreDisjoined f b (more_next_conjunctions (OrNextConjunction p d) ds) = (b ≡ false) × IsConjunction f d × AreDisjoined f (takes_conjunction disjoins d) ds

  pub IsConjunction : Bool → ConjunctionData → Type 0
  IsConjunction f (ChainConjunction u us) = IsUnit f u × AreConjoined f (takes_unit conjoins u) us

  -- the operands behind one that may take the `&` before them
  pub AreConjoined : Bool → Bool → NextUnitList → Type 0
  AreConjoined f b no_next_units = Unit {0}
  AreConjoined f b (more_next_units (AndNextUnit p v) vs) = (b ≡ false) × IsUnit f v × AreConjoined f (takes_unit conjoins v) vs

  pub IsUnit : Bool → UnitData → Type 0
  IsUnit f (NotUnit p u) = IsUnit f u
  IsUnit f (ContradictionUnit a) = Unit {0}
  IsUnit f (ThesisUnit a) = Unit {0}
  IsUnit f (QuantifiedUnit q) = IsQuantified f q
  IsUnit f (GroupUnit a b c) = IsFormula f b
  IsUnit f (PrivateUnit a b c) = Unit {0}
  IsUnit f (PrivateWithUnit a b c d) = AreTerms f c
  IsUnit f (PredicateUnit a) = Unit {0}
  IsUnit f (PredicateRightUnit a b) = AreTerms f b
  IsUnit f (PredicateLeftUnit a b) = AreTerms f a
  IsUnit f (PredicateBothUnit a b c) = AreTerms f a × AreTerms f c
  IsUnit f (IsTypeUnit a b c) = IsTerm f a × IsType f c
  IsUnit f (IsAdjectivesUnit a b c d) = IsTerm f a × IsAdjective f c × AreAdjectives f d

  pub IsQuantified : Bool → QuantifiedData → Type 0
  IsQuantified f (ForQuantified a b c d g) = IsDeclared f b × AreDeclared f b c × IsFormula f g
  IsQuantified f (ForSuchQuantified a b c d e h g) = IsDeclared f b × AreDeclared f b c × IsFormula f e × IsFormula f g
  IsQuantified f (ForFurtherQuantified a b c q) = IsDeclared f b × AreDeclared f b c × IsQuantified f q
  IsQuantified f (ForSuchFurtherQuantified a b c d e q) = IsDeclared f b × AreDeclared f b c × IsFormula f e × IsQuantified f q
  IsQuantified f (ExistsQuantified a b c d g) = IsDeclared f b × AreDeclared f b c × IsFormula f g

abbrev pub AreDeclarations : Bool → DeclarationsData → Type 0
AreDeclarations f a = IsDeclared f a.first × AreDeclared f a.first a.more

abbrev pub AreSomeAdjectives : Bool → AdjectivesData → Type 0
AreSomeAdjectives f a = IsAdjective f a.first × AreAdjectives f a.more
