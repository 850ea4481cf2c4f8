-- The trees of expressions, as contracts see them.
use Rattle.std.specs.Prelude.{ℕ, List, [], ◌∷◌, Option}
use Rattle.mz_base.specs.declared.place.Place.{Place}
use Rattle.mz_tree.specs.declared.word.Word.{Word}
use Rattle.mz_tree.specs.declared.word.Comma.{Comma}
use Rattle.mz_tree.specs.declared.word.Being.{Being}

mutual
  -- A term: a run of functor symbols and operands.
  pub data TermData : Type 0 where
    RunTerm : PieceData → PieceList → TermData

  -- A functor symbol or an operand of a term.
  pub data PieceData : Type 0 where
    FunctorPiece : Word → ℕ → PieceData
    OperandPiece : PrefixList → BaseData → PieceData

  -- What stands before the base of an operand: `the U of`, or a choice up to its last operand.
  pub data PrefixData : Type 0 where
    SelectorPrefix : Place → Word → Place → PrefixData
    ChoiceOfPrefix : Place → AdjectiveList → Word → Place → BeforeList → PrefixData
    ChoiceOverPrefix : Place → AdjectiveList → Word → Place → BeforeList → PrefixData

  -- An operand of a choice before its last one, with the place of the comma behind it.
  pub data BeforeData : Type 0 where
    OperandBefore : PrefixList → BaseData → Place → BeforeData

  -- An operand without its prefixes.
  pub data BaseData : Type 0 where
    IdentifierBase : Word → BaseData
    SubjectBase : Place → BaseData
    ArgumentBase : Place → ℕ → BaseData
    GroupBase : Place → TermsData → Place → BaseData
    CallBase : Word → Place → Place → BaseData
    CallWithBase : Word → Place → TermsData → Place → BaseData
    SelectorBase : Place → Word → BaseData
    AggregateBase : Word → Place → TermsData → Place → BaseData
    BracketsBase : Word → TermsData → Word → BaseData
    BracesBase : Place → TermsData → Place → BaseData
    SquaresBase : Place → TermsData → Place → BaseData
    SetOfBase : Place → TermData → Place → Word → Place → TypeData → Place → FormulaData → Place → BaseData
    ChoiceBase : Place → AdjectiveList → Word → BaseData
    ChoiceStructureBase : Place → AdjectiveList → Word → BaseData

  -- Terms with list commas between them.
  pub data TermsData : Type 0 where
    ListTerms : TermData → NextTermList → TermsData

  -- A term with the place of the comma before it.
  pub data NextTermData : Type 0 where
    NextNextTerm : Place → TermData → NextTermData

  -- An adjective.
  pub data AdjectiveData : Type 0 where
    PlainAdjective : Option Place → Word → AdjectiveData
    WithIdentifierAdjective : Option Place → Word → Word → AdjectiveData
    WithTermsAdjective : Option Place → Place → TermsData → Place → Word → AdjectiveData

  -- A type.
  pub data TypeData : Type 0 where
    ModeType : AdjectiveList → Word → TypeData
    ModeOfType : AdjectiveList → Word → Place → TermsData → TypeData
    StructureType : AdjectiveList → Word → TypeData
    StructureOverType : AdjectiveList → Word → Place → TermsData → TypeData

  -- A declared identifier, with a type where one stands behind it.
  pub data DeclaredData : Type 0 where
    PlainDeclared : Word → DeclaredData
    TypedDeclared : Word → Being → TypeData → DeclaredData

  -- A declared identifier with the comma before it.
  pub data NextDeclaredData : Type 0 where
    NextNextDeclared : Comma → DeclaredData → NextDeclaredData

  -- A formula.
  pub data FormulaData : Type 0 where
    PlainFormula : DisjunctionData → FormulaData
    ImpliesFormula : DisjunctionData → Place → DisjunctionData → FormulaData
    IffFormula : DisjunctionData → Place → DisjunctionData → FormulaData

  -- Conjunctions with `or` between them.
  pub data DisjunctionData : Type 0 where
    ChainDisjunction : ConjunctionData → NextConjunctionList → DisjunctionData

  -- A conjunction with the place of the `or` before it.
  pub data NextConjunctionData : Type 0 where
    OrNextConjunction : Place → ConjunctionData → NextConjunctionData

  -- Units with `&` between them.
  pub data ConjunctionData : Type 0 where
    ChainConjunction : UnitData → NextUnitList → ConjunctionData

  -- A unit with the place of the `&` before it.
  pub data NextUnitData : Type 0 where
    AndNextUnit : Place → UnitData → NextUnitData

  -- A formula without chains.
  pub data UnitData : Type 0 where
    NotUnit : Place → UnitData → UnitData
    ContradictionUnit : Place → UnitData
    ThesisUnit : Place → UnitData
    QuantifiedUnit : QuantifiedData → UnitData
    GroupUnit : Place → FormulaData → Place → UnitData
    PrivateUnit : Word → Place → Place → UnitData
    PrivateWithUnit : Word → Place → TermsData → Place → UnitData
    PredicateUnit : Word → UnitData
    PredicateRightUnit : Word → TermsData → UnitData
    PredicateLeftUnit : TermsData → Word → UnitData
    PredicateBothUnit : TermsData → Word → TermsData → UnitData
    IsTypeUnit : TermData → Place → TypeData → UnitData
    IsAdjectivesUnit : TermData → Place → AdjectiveData → AdjectiveList → UnitData

  -- A quantified formula.
  pub data QuantifiedData : Type 0 where
    ForQuantified : Place → DeclaredData → NextDeclaredList → Place → FormulaData → QuantifiedData
    ForSuchQuantified : Place → DeclaredData → NextDeclaredList → Place → FormulaData → Place → FormulaData → QuantifiedData
    ForFurtherQuantified : Place → DeclaredData → NextDeclaredList → QuantifiedData → QuantifiedData
    ForSuchFurtherQuantified : Place → DeclaredData → NextDeclaredList → Place → FormulaData → QuantifiedData → QuantifiedData
    ExistsQuantified : Place → DeclaredData → NextDeclaredList → Place → FormulaData → QuantifiedData

  pub data PieceList : Type 0 where
    no_pieces : PieceList
    more_pieces : PieceData → PieceList → PieceList

  pub data PrefixList : Type 0 where
    no_prefixs : PrefixList
    more_prefixs : PrefixData → PrefixList → PrefixList

  pub data BeforeList : Type 0 where
    no_befores : BeforeList
    more_befores : BeforeData → BeforeList → BeforeList

  pub data NextTermList : Type 0 where
    no_next_terms : NextTermList
    more_next_terms : NextTermData → NextTermList → NextTermList

  pub data AdjectiveList : Type 0 where
    no_adjectives : AdjectiveList
    more_adjectives : AdjectiveData → AdjectiveList → AdjectiveList

  pub data NextDeclaredList : Type 0 where
    no_next_declareds : NextDeclaredList
    more_next_declareds : NextDeclaredData → NextDeclaredList → NextDeclaredList

  pub data NextConjunctionList : Type 0 where
    no_next_conjunctions : NextConjunctionList
    more_next_conjunctions : NextConjunctionData → NextConjunctionList → NextConjunctionList

  pub data NextUnitList : Type 0 where
    no_next_units : NextUnitList
    more_next_units : NextUnitData → NextUnitList → NextUnitList

abbrev pub pieces_of : List PieceData → PieceList
pieces_of [] = no_pieces
pieces_of (t ∷ ts) = more_pieces t (pieces_of ts)

abbrev pub prefixs_of : List PrefixData → PrefixList
prefixs_of [] = no_prefixs
prefixs_of (t ∷ ts) = more_prefixs t (prefixs_of ts)

abbrev pub befores_of : List BeforeData → BeforeList
befores_of [] = no_befores
befores_of (t ∷ ts) = more_befores t (befores_of ts)

abbrev pub next_terms_of : List NextTermData → NextTermList
next_terms_of [] = no_next_terms
next_terms_of (t ∷ ts) = more_next_terms t (next_terms_of ts)

abbrev pub adjectives_of : List AdjectiveData → AdjectiveList
adjectives_of [] = no_adjectives
adjectives_of (t ∷ ts) = more_adjectives t (adjectives_of ts)

abbrev pub next_declareds_of : List NextDeclaredData → NextDeclaredList
next_declareds_of [] = no_next_declareds
next_declareds_of (t ∷ ts) = more_next_declareds t (next_declareds_of ts)

abbrev pub next_conjunctions_of : List NextConjunctionData → NextConjunctionList
next_conjunctions_of [] = no_next_conjunctions
next_conjunctions_of (t ∷ ts) = more_next_conjunctions t (next_conjunctions_of ts)

abbrev pub next_units_of : List NextUnitData → NextUnitList
next_units_of [] = no_next_units
next_units_of (t ∷ ts) = more_next_units t (next_units_of ts)

-- Declarations with commas between them.
pub record DeclarationsData : Type 0 where
  pub first : DeclaredData
  pub more : NextDeclaredList

-- Adjectives, at least one.
pub record AdjectivesData : Type 0 where
  pub first : AdjectiveData
  pub more : AdjectiveList
