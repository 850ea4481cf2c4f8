-- How the trees are stored and read back.
use Rattle.std.specs.Prelude.{◌≡◌, ℕ, List, [], ◌∷◌, refl, Bool, true, false, Option, Some, None, if◌then◌else◌, ◌==◌}
use Rattle.std.proofs.Common.{ap}
use Rattle.std.specs.Coded.{Coded, code_by, coded×}
use base.Stored.{Gv, gnil, gnum, gcons}
use denote.Struct.Codes.{itself}
use Rattle.mz_base.specs.declared.place.Place.{Place}
use Rattle.mz_tree.specs.declared.word.Word.{Word}
use Rattle.mz_tree.specs.declared.word.Comma.{Comma}
use Rattle.mz_tree.specs.declared.word.Being.{Being}
use Rattle.mz_tree.specs.Leaves.{place_gv, no_place, no_word, no_comma, numbers_gv, word_gv, bit, comma_gv, maybe_gv, being_gv}
use Rattle.mz_tree.specs.Trees.{DeclarationsData, AdjectivesData, TermData, PieceData, PrefixData, BeforeData, BaseData, TermsData, NextTermData, AdjectiveData, TypeData, DeclaredData, NextDeclaredData, FormulaData, DisjunctionData, NextConjunctionData, ConjunctionData, NextUnitData, UnitData, QuantifiedData, PieceList, PrefixList, BeforeList, NextTermList, AdjectiveList, NextDeclaredList, NextConjunctionList, NextUnitList, RunTerm, FunctorPiece, OperandPiece, SelectorPrefix, ChoiceOfPrefix, ChoiceOverPrefix, OperandBefore, IdentifierBase, SubjectBase, ArgumentBase, GroupBase, CallBase, CallWithBase, SelectorBase, AggregateBase, BracketsBase, BracesBase, SquaresBase, SetOfBase, ChoiceBase, ChoiceStructureBase, ListTerms, NextNextTerm, PlainAdjective, WithIdentifierAdjective, WithTermsAdjective, ModeType, ModeOfType, StructureType, StructureOverType, PlainDeclared, TypedDeclared, NextNextDeclared, PlainFormula, ImpliesFormula, IffFormula, ChainDisjunction, OrNextConjunction, ChainConjunction, AndNextUnit, NotUnit, ContradictionUnit, ThesisUnit, QuantifiedUnit, GroupUnit, PrivateUnit, PrivateWithUnit, PredicateUnit, PredicateRightUnit, PredicateLeftUnit, PredicateBothUnit, IsTypeUnit, IsAdjectivesUnit, ForQuantified, ForSuchQuantified, ForFurtherQuantified, ForSuchFurtherQuantified, ExistsQuantified, no_pieces, more_pieces, no_prefixs, more_prefixs, no_befores, more_befores, no_next_terms, more_next_terms, no_adjectives, more_adjectives, no_next_declareds, more_next_declareds, no_next_conjunctions, more_next_conjunctions, no_next_units, more_next_units}

-- a tree is stored as a tree of numbers: its variant's number, then its fields
abbrev mutual
  pub term_gv : TermData → Gv
  term_gv (RunTerm a b) = gcons (gnum 0) (gcons (piece_gv a) (gcons (piece_list_gv b) gnil))

  pub piece_gv : PieceData → Gv
  piece_gv (FunctorPiece a b) = gcons (gnum 0) (gcons (word_gv a) (gcons (gnum b) gnil))
  piece_gv (OperandPiece a b) = gcons (gnum 1) (gcons (prefix_list_gv a) (gcons (base_gv b) gnil))

  pub prefix_gv : PrefixData → Gv
  prefix_gv (SelectorPrefix a b c) = gcons (gnum 0) (gcons (place_gv a) (gcons (word_gv b) (gcons (place_gv c) gnil)))
  prefix_gv (ChoiceOfPrefix a b c d e) = gcons (gnum 1) (gcons (place_gv a) (gcons (adjective_list_gv b) (gcons (word_gv c) (gcons (place_gv d) (gcons (before_list_gv e) gnil)))))
  prefix_gv (ChoiceOverPrefix a b c d e) = gcons (gnum 2) (gcons (place_gv a) (gcons (adjective_list_gv b) (gcons (word_gv c) (gcons (place_gv d) (gcons (before_list_gv e) gnil)))))

  pub before_gv : BeforeData → Gv
  before_gv (OperandBefore a b c) = gcons (gnum 0) (gcons (prefix_list_gv a) (gcons (base_gv b) (gcons (place_gv c) gnil)))

  pub base_gv : BaseData → Gv
  base_gv (IdentifierBase a) = gcons (gnum 0) (gcons (word_gv a) gnil)
  base_gv (SubjectBase a) = gcons (gnum 1) (gcons (place_gv a) gnil)
  base_gv (ArgumentBase a b) = gcons (gnum 2) (gcons (place_gv a) (gcons (gnum b) gnil))
  base_gv (GroupBase a b c) = gcons (gnum 3) (gcons (place_gv a) (gcons (terms_gv b) (gcons (place_gv c) gnil)))
  base_gv (CallBase a b c) = gcons (gnum 4) (gcons (word_gv a) (gcons (place_gv b) (gcons (place_gv c) gnil)))
  base_gv (CallWithBase a b c d) = gcons (gnum 5) (gcons (word_gv a) (gcons (place_gv b) (gcons (terms_gv c) (gcons (place_gv d) gnil))))
  base_gv (SelectorBase a b) = gcons (gnum 6) (gcons (place_gv a) (gcons (word_gv b) gnil))
  base_gv (AggregateBase a b c d) = gcons (gnum 7) (gcons (word_gv a) (gcons (place_gv b) (gcons (terms_gv c) (gcons (place_gv d) gnil))))
  base_gv (BracketsBase a b c) = gcons (gnum 8) (gcons (word_gv a) (gcons (terms_gv b) (gcons (word_gv c) gnil)))
  base_gv (BracesBase a b c) = gcons (gnum 9) (gcons (place_gv a) (gcons (terms_gv b) (gcons (place_gv c) gnil)))
  base_gv (SquaresBase a b c) = gcons (gnum 10) (gcons (place_gv a) (gcons (terms_gv b) (gcons (place_gv c) gnil)))
  base_gv (SetOfBase a b c d e f g h i) = gcons (gnum 11) (gcons (place_gv a) (gcons (term_gv b) (gcons (place_gv c) (gcons (word_gv d) (gcons (place_gv e) (gcons (type_gv f) (gcons (place_gv g) (gcons (formula_gv h) (gcons (place_gv i) gnil)))))))))
  base_gv (ChoiceBase a b c) = gcons (gnum 12) (gcons (place_gv a) (gcons (adjective_list_gv b) (gcons (word_gv c) gnil)))
  base_gv (ChoiceStructureBase a b c) = gcons (gnum 13) (gcons (place_gv a) (gcons (adjective_list_gv b) (gcons (word_gv c) gnil)))

  pub terms_gv : TermsData → Gv
  terms_gv (ListTerms a b) = gcons (gnum 0) (gcons (term_gv a) (gcons (next_term_list_gv b) gnil))

  pub next_term_gv : NextTermData → Gv
  next_term_gv (NextNextTerm a b) = gcons (gnum 0) (gcons (place_gv a) (gcons (term_gv b) gnil))

  pub adjective_gv : AdjectiveData → Gv
  adjective_gv (PlainAdjective a b) = gcons (gnum 0) (gcons (maybe_gv a) (gcons (word_gv b) gnil))
  adjective_gv (WithIdentifierAdjective a b c) = gcons (gnum 1) (gcons (maybe_gv a) (gcons (word_gv b) (gcons (word_gv c) gnil)))
  adjective_gv (WithTermsAdjective a b c d e) = gcons (gnum 2) (gcons (maybe_gv a) (gcons (place_gv b) (gcons (terms_gv c) (gcons (place_gv d) (gcons (word_gv e) gnil)))))

  pub type_gv : TypeData → Gv
  type_gv (ModeType a b) = gcons (gnum 0) (gcons (adjective_list_gv a) (gcons (word_gv b) gnil))
  type_gv (ModeOfType a b c d) = gcons (gnum 1) (gcons (adjective_list_gv a) (gcons (word_gv b) (gcons (place_gv c) (gcons (terms_gv d) gnil))))
  type_gv (StructureType a b) = gcons (gnum 2) (gcons (adjective_list_gv a) (gcons (word_gv b) gnil))
  type_gv (StructureOverType a b c d) = gcons (gnum 3) (gcons (adjective_list_gv a) (gcons (word_gv b) (gcons (place_gv c) (gcons (terms_gv d) gnil))))

  pub declared_gv : DeclaredData → Gv
  declared_gv (PlainDeclared a) = gcons (gnum 0) (gcons (word_gv a) gnil)
  declared_gv (TypedDeclared a b c) = gcons (gnum 1) (gcons (word_gv a) (gcons (being_gv b) (gcons (type_gv c) gnil)))

  pub next_declared_gv : NextDeclaredData → Gv
  next_declared_gv (NextNextDeclared a b) = gcons (gnum 0) (gcons (comma_gv a) (gcons (declared_gv b) gnil))

  pub formula_gv : FormulaData → Gv
  formula_gv (PlainFormula a) = gcons (gnum 0) (gcons (disjunction_gv a) gnil)
  formula_gv (ImpliesFormula a b c) = gcons (gnum 1) (gcons (disjunction_gv a) (gcons (place_gv b) (gcons (disjunction_gv c) gnil)))
  formula_gv (IffFormula a b c) = gcons (gnum 2) (gcons (disjunction_gv a) (gcons (place_gv b) (gcons (disjunction_gv c) gnil)))

  pub disjunction_gv : DisjunctionData → Gv
  disjunction_gv (ChainDisjunction a b) = gcons (gnum 0) (gcons (conjunction_gv a) (gcons (next_conjunction_list_gv b) gnil))

  pub next_conjunction_gv : NextConjunctionData → Gv
  next_conjunction_gv (OrNextConjunction a b) = gcons (gnum 0) (gcons (place_gv a) (gcons (conjunction_gv b) gnil))

  pub conjunction_gv : ConjunctionData → Gv
  conjunction_gv (ChainConjunction a b) = gcons (gnum 0) (gcons (unit_gv a) (gcons (next_unit_list_gv b) gnil))

  pub next_unit_gv : NextUnitData → Gv
  next_unit_gv (AndNextUnit a b) = gcons (gnum 0) (gcons (place_gv a) (gcons (unit_gv b) gnil))

  pub unit_gv : UnitData → Gv
  unit_gv (NotUnit a b) = gcons (gnum 0) (gcons (place_gv a) (gcons (unit_gv b) gnil))
  unit_gv (ContradictionUnit a) = gcons (gnum 1) (gcons (place_gv a) gnil)
  unit_gv (ThesisUnit a) = gcons (gnum 2) (gcons (place_gv a) gnil)
  unit_gv (QuantifiedUnit a) = gcons (gnum 3) (gcons (quantified_gv a) gnil)
  unit_gv (GroupUnit a b c) = gcons (gnum 4) (gcons (place_gv a) (gcons (formula_gv b) (gcons (place_gv c) gnil)))
  unit_gv (PrivateUnit a b c) = gcons (gnum 5) (gcons (word_gv a) (gcons (place_gv b) (gcons (place_gv c) gnil)))
  unit_gv (PrivateWithUnit a b c d) = gcons (gnum 6) (gcons (word_gv a) (gcons (place_gv b) (gcons (terms_gv c) (gcons (place_gv d) gnil))))
  unit_gv (PredicateUnit a) = gcons (gnum 7) (gcons (word_gv a) gnil)
  unit_gv (PredicateRightUnit a b) = gcons (gnum 8) (gcons (word_gv a) (gcons (terms_gv b) gnil))
  unit_gv (PredicateLeftUnit a b) = gcons (gnum 9) (gcons (terms_gv a) (gcons (word_gv b) gnil))
  unit_gv (PredicateBothUnit a b c) = gcons (gnum 10) (gcons (terms_gv a) (gcons (word_gv b) (gcons (terms_gv c) gnil)))
  unit_gv (IsTypeUnit a b c) = gcons (gnum 11) (gcons (term_gv a) (gcons (place_gv b) (gcons (type_gv c) gnil)))
  unit_gv (IsAdjectivesUnit a b c d) = gcons (gnum 12) (gcons (term_gv a) (gcons (place_gv b) (gcons (adjective_gv c) (gcons (adjective_list_gv d) gnil))))

  pub quantified_gv : QuantifiedData → Gv
  quantified_gv (ForQuantified a b c d e) = gcons (gnum 0) (gcons (place_gv a) (gcons (declared_gv b) (gcons (next_declared_list_gv c) (gcons (place_gv d) (gcons (formula_gv e) gnil)))))
  quantified_gv (ForSuchQuantified a b c d e f g) = gcons (gnum 1) (gcons (place_gv a) (gcons (declared_gv b) (gcons (next_declared_list_gv c) (gcons (place_gv d) (gcons (formula_gv e) (gcons (place_gv f) (gcons (formula_gv g) gnil)))))))
  quantified_gv (ForFurtherQuantified a b c d) = gcons (gnum 2) (gcons (place_gv a) (gcons (declared_gv b) (gcons (next_declared_list_gv c) (gcons (quantified_gv d) gnil))))
  quantified_gv (ForSuchFurtherQuantified a b c d e f) = gcons (gnum 3) (gcons (place_gv a) (gcons (declared_gv b) (gcons (next_declared_list_gv c) (gcons (place_gv d) (gcons (formula_gv e) (gcons (quantified_gv f) gnil))))))
  quantified_gv (ExistsQuantified a b c d e) = gcons (gnum 4) (gcons (place_gv a) (gcons (declared_gv b) (gcons (next_declared_list_gv c) (gcons (place_gv d) (gcons (formula_gv e) gnil)))))

  pub piece_list_gv : PieceList → Gv
  piece_list_gv no_pieces = gnil
  piece_list_gv (more_pieces t ts) = gcons (piece_gv t) (piece_list_gv ts)

  pub prefix_list_gv : PrefixList → Gv
  prefix_list_gv no_prefixs = gnil
  prefix_list_gv (more_prefixs t ts) = gcons (prefix_gv t) (prefix_list_gv ts)

  pub before_list_gv : BeforeList → Gv
  before_list_gv no_befores = gnil
  before_list_gv (more_befores t ts) = gcons (before_gv t) (before_list_gv ts)

  pub next_term_list_gv : NextTermList → Gv
  next_term_list_gv no_next_terms = gnil
  next_term_list_gv (more_next_terms t ts) = gcons (next_term_gv t) (next_term_list_gv ts)

  pub adjective_list_gv : AdjectiveList → Gv
  adjective_list_gv no_adjectives = gnil
  adjective_list_gv (more_adjectives t ts) = gcons (adjective_gv t) (adjective_list_gv ts)

  pub next_declared_list_gv : NextDeclaredList → Gv
  next_declared_list_gv no_next_declareds = gnil
  next_declared_list_gv (more_next_declareds t ts) = gcons (next_declared_gv t) (next_declared_list_gv ts)

  pub next_conjunction_list_gv : NextConjunctionList → Gv
  next_conjunction_list_gv no_next_conjunctions = gnil
  next_conjunction_list_gv (more_next_conjunctions t ts) = gcons (next_conjunction_gv t) (next_conjunction_list_gv ts)

  pub next_unit_list_gv : NextUnitList → Gv
  next_unit_list_gv no_next_units = gnil
  next_unit_list_gv (more_next_units t ts) = gcons (next_unit_gv t) (next_unit_list_gv ts)

abbrev pub some_piece : PieceData
some_piece = FunctorPiece no_word 0

abbrev pub some_prefix : PrefixData
some_prefix = SelectorPrefix no_place no_word no_place

abbrev pub some_base : BaseData
some_base = IdentifierBase no_word

abbrev pub some_adjective : AdjectiveData
some_adjective = PlainAdjective None no_word

abbrev pub some_type : TypeData
some_type = ModeType no_adjectives no_word

abbrev pub some_declared : DeclaredData
some_declared = PlainDeclared no_word

abbrev pub some_next_declared : NextDeclaredData
some_next_declared = NextNextDeclared no_comma some_declared

abbrev pub some_unit : UnitData
some_unit = ContradictionUnit no_place

abbrev pub some_term : TermData
some_term = RunTerm some_piece no_pieces

abbrev pub some_before : BeforeData
some_before = OperandBefore no_prefixs some_base no_place

abbrev pub some_terms : TermsData
some_terms = ListTerms some_term no_next_terms

abbrev pub some_next_term : NextTermData
some_next_term = NextNextTerm no_place some_term

abbrev pub some_conjunction : ConjunctionData
some_conjunction = ChainConjunction some_unit no_next_units

abbrev pub some_next_unit : NextUnitData
some_next_unit = AndNextUnit no_place some_unit

abbrev pub some_disjunction : DisjunctionData
some_disjunction = ChainDisjunction some_conjunction no_next_conjunctions

abbrev pub some_next_conjunction : NextConjunctionData
some_next_conjunction = OrNextConjunction no_place some_conjunction

abbrev pub some_formula : FormulaData
some_formula = PlainFormula some_disjunction

abbrev pub some_quantified : QuantifiedData
some_quantified = ForQuantified no_place some_declared no_next_declareds no_place some_formula

-- what a stored tree may be read as
pub record Parts : Type 0 where
  pub part_term : TermData
  pub part_piece : PieceData
  pub part_prefix : PrefixData
  pub part_before : BeforeData
  pub part_base : BaseData
  pub part_terms : TermsData
  pub part_next_term : NextTermData
  pub part_adjective : AdjectiveData
  pub part_type : TypeData
  pub part_declared : DeclaredData
  pub part_next_declared : NextDeclaredData
  pub part_formula : FormulaData
  pub part_disjunction : DisjunctionData
  pub part_next_conjunction : NextConjunctionData
  pub part_conjunction : ConjunctionData
  pub part_next_unit : NextUnitData
  pub part_unit : UnitData
  pub part_quantified : QuantifiedData
  pub part_pieces : PieceList
  pub part_prefixs : PrefixList
  pub part_befores : BeforeList
  pub part_next_terms : NextTermList
  pub part_adjectives : AdjectiveList
  pub part_next_declareds : NextDeclaredList
  pub part_next_conjunctions : NextConjunctionList
  pub part_next_units : NextUnitList

abbrev pub no_parts : Parts
no_parts = record {
  part_term = some_term;
  part_piece = some_piece;
  part_prefix = some_prefix;
  part_before = some_before;
  part_base = some_base;
  part_terms = some_terms;
  part_next_term = some_next_term;
  part_adjective = some_adjective;
  part_type = some_type;
  part_declared = some_declared;
  part_next_declared = some_next_declared;
  part_formula = some_formula;
  part_disjunction = some_disjunction;
  part_next_conjunction = some_next_conjunction;
  part_conjunction = some_conjunction;
  part_next_unit = some_next_unit;
  part_unit = some_unit;
  part_quantified = some_quantified;
  part_pieces = no_pieces;
  part_prefixs = no_prefixs;
  part_befores = no_befores;
  part_next_terms = no_next_terms;
  part_adjectives = no_adjectives;
  part_next_declareds = no_next_declareds;
  part_next_conjunctions = no_next_conjunctions;
  part_next_units = no_next_units;
}

-- a stored tree read in every way, and its two parts read so
pub data Read : Type 0 where
  one : (n : ℕ) → Parts → Read
  two : Read → Read → List ℕ → Parts → Read

abbrev pub num_of : Read → ℕ
num_of (one n a) = n
num_of (two l r xs a) = 0

abbrev pub numbers_of : Read → List ℕ
numbers_of (one n a) = []
numbers_of (two l r xs a) = xs

abbrev pub parts_of : Read → Parts
parts_of (one n a) = a
parts_of (two l r xs a) = a

abbrev pub nothing : Read
nothing = one 0 no_parts

abbrev pub left : Read → Read
left (one n a) = nothing
left (two l r xs a) = l

abbrev pub right : Read → Read
right (one n a) = nothing
right (two l r xs a) = r

abbrev pub as_place : Read → Place
as_place r = record { line = num_of (left r); column = num_of (right r) }

abbrev pub as_word : Read → Word
as_word r = record { place = as_place (left r); spelling = numbers_of (right r) }

abbrev pub as_comma : Read → Comma
as_comma r = record { place = as_place (left r); dividing = num_of (right r) == 1 }

abbrev pub as_being : Read → Being
as_being r = record { place = as_place (left r); long = num_of (right r) == 1 }

abbrev pub as_maybe : Read → Option Place
as_maybe r = if num_of (left r) == 1 then Some (as_place (right r)) else None

abbrev pub make_term : ℕ → Read → TermData
make_term k r =
    if k == 0 then (RunTerm (parts_of (left r)).part_piece (parts_of (left (right r))).part_pieces) else (some_term)

abbrev pub make_piece : ℕ → Read → PieceData
make_piece k r =
    if k == 0 then (FunctorPiece (as_word (left r)) (num_of (left (right r)))) else (if k == 1 then (OperandPiece (parts_of (left r)).part_prefixs (parts_of (left (right r))).part_base) else (some_piece))

abbrev pub make_prefix : ℕ → Read → PrefixData
make_prefix k r =
    if k == 0 then (SelectorPrefix (as_place (left r)) (as_word (left (right r))) (as_place (left (right (right r))))) else (if k == 1 then (ChoiceOfPrefix (as_place (left r)) (parts_of (left (right r))).part_adjectives (as_word (left (right (right r)))) (as_place (left (right (right (right r))))) (parts_of (left (right (right (right (right r)))))).part_befores) else (if k == 2 then (ChoiceOverPrefix (as_place (left r)) (parts_of (left (right r))).part_adjectives (as_word (left (right (right r)))) (as_place (left (right (right (right r))))) (parts_of (left (right (right (right (right r)))))).part_befores) else (some_prefix)))

abbrev pub make_before : ℕ → Read → BeforeData
make_before k r =
    if k == 0 then (OperandBefore (parts_of (left r)).part_prefixs (parts_of (left (right r))).part_base (as_place (left (right (right r))))) else (some_before)

abbrev pub make_base : ℕ → Read → BaseData
make_base k r =
    if k == 0 then (IdentifierBase (as_word (left r))) else (if k == 1 then (SubjectBase (as_place (left r))) else (if k == 2 then (ArgumentBase (as_place (left r)) (num_of (left (right r)))) else (if k == 3 then (GroupBase (as_place (left r)) (parts_of (left (right r))).part_terms (as_place (left (right (right r))))) else (if k == 4 then (CallBase (as_word (left r)) (as_place (left (right r))) (as_place (left (right (right r))))) else (if k == 5 then (CallWithBase (as_word (left r)) (as_place (left (right r))) (parts_of (left (right (right r)))).part_terms (as_place (left (right (right (right r)))))) else (if k == 6 then (SelectorBase (as_place (left r)) (as_word (left (right r)))) else (if k == 7 then (AggregateBase (as_word (left r)) (as_place (left (right r))) (parts_of (left (right (right r)))).part_terms (as_place (left (right (right (right r)))))) else (if k == 8 then (BracketsBase (as_word (left r)) (parts_of (left (right r))).part_terms (as_word (left (right (right r))))) else (if k == 9 then (BracesBase (as_place (left r)) (parts_of (left (right r))).part_terms (as_place (left (right (right r))))) else (if k == 10 then (SquaresBase (as_place (left r)) (parts_of (left (right r))).part_terms (as_place (left (right (right r))))) else (if k == 11 then (SetOfBase (as_place (left r)) (parts_of (left (right r))).part_term (as_place (left (right (right r)))) (as_word (left (right (right (right r))))) (as_place (left (right (right (right (right r)))))) (parts_of (left (right (right (right (right (right r))))))).part_type (as_place (left (right (right (right (right (right (right r)))))))) (parts_of (left (right (right (right (right (right (right (right r))))))))).part_formula (as_place (left (right (right (right (right (right (right (right (right r))))))))))) else (if k == 12 then (ChoiceBase (as_place (left r)) (parts_of (left (right r))).part_adjectives (as_word (left (right (right r))))) else (if k == 13 then (ChoiceStructureBase (as_place (left r)) (parts_of (left (right r))).part_adjectives (as_word (left (right (right r))))) else (some_base))))))))))))))

abbrev pub make_terms : ℕ → Read → TermsData
make_terms k r =
    if k == 0 then (ListTerms (parts_of (left r)).part_term (parts_of (left (right r))).part_next_terms) else (some_terms)

abbrev pub make_next_term : ℕ → Read → NextTermData
make_next_term k r =
    if k == 0 then (NextNextTerm (as_place (left r)) (parts_of (left (right r))).part_term) else (some_next_term)

abbrev pub make_adjective : ℕ → Read → AdjectiveData
make_adjective k r =
    if k == 0 then (PlainAdjective (as_maybe (left r)) (as_word (left (right r)))) else (if k == 1 then (WithIdentifierAdjective (as_maybe (left r)) (as_word (left (right r))) (as_word (left (right (right r))))) else (if k == 2 then (WithTermsAdjective (as_maybe (left r)) (as_place (left (right r))) (parts_of (left (right (right r)))).part_terms (as_place (left (right (right (right r))))) (as_word (left (right (right (right (right r))))))) else (some_adjective)))

abbrev pub make_type : ℕ → Read → TypeData
make_type k r =
    if k == 0 then (ModeType (parts_of (left r)).part_adjectives (as_word (left (right r)))) else (if k == 1 then (ModeOfType (parts_of (left r)).part_adjectives (as_word (left (right r))) (as_place (left (right (right r)))) (parts_of (left (right (right (right r))))).part_terms) else (if k == 2 then (StructureType (parts_of (left r)).part_adjectives (as_word (left (right r)))) else (if k == 3 then (StructureOverType (parts_of (left r)).part_adjectives (as_word (left (right r))) (as_place (left (right (right r)))) (parts_of (left (right (right (right r))))).part_terms) else (some_type))))

abbrev pub make_declared : ℕ → Read → DeclaredData
make_declared k r =
    if k == 0 then (PlainDeclared (as_word (left r))) else (if k == 1 then (TypedDeclared (as_word (left r)) (as_being (left (right r))) (parts_of (left (right (right r)))).part_type) else (some_declared))

abbrev pub make_next_declared : ℕ → Read → NextDeclaredData
make_next_declared k r =
    if k == 0 then (NextNextDeclared (as_comma (left r)) (parts_of (left (right r))).part_declared) else (some_next_declared)

abbrev pub make_formula : ℕ → Read → FormulaData
make_formula k r =
    if k == 0 then (PlainFormula (parts_of (left r)).part_disjunction) else (if k == 1 then (ImpliesFormula (parts_of (left r)).part_disjunction (as_place (left (right r))) (parts_of (left (right (right r)))).part_disjunction) else (if k == 2 then (IffFormula (parts_of (left r)).part_disjunction (as_place (left (right r))) (parts_of (left (right (right r)))).part_disjunction) else (some_formula)))

abbrev pub make_disjunction : ℕ → Read → DisjunctionData
make_disjunction k r =
    if k == 0 then (ChainDisjunction (parts_of (left r)).part_conjunction (parts_of (left (right r))).part_next_conjunctions) else (some_disjunction)

abbrev pub make_next_conjunction : ℕ → Read → NextConjunctionData
make_next_conjunction k r =
    if k == 0 then (OrNextConjunction (as_place (left r)) (parts_of (left (right r))).part_conjunction) else (some_next_conjunction)

abbrev pub make_conjunction : ℕ → Read → ConjunctionData
make_conjunction k r =
    if k == 0 then (ChainConjunction (parts_of (left r)).part_unit (parts_of (left (right r))).part_next_units) else (some_conjunction)

abbrev pub make_next_unit : ℕ → Read → NextUnitData
make_next_unit k r =
    if k == 0 then (AndNextUnit (as_place (left r)) (parts_of (left (right r))).part_unit) else (some_next_unit)

abbrev pub make_unit : ℕ → Read → UnitData
make_unit k r =
    if k == 0 then (NotUnit (as_place (left r)) (parts_of (left (right r))).part_unit) else (if k == 1 then (ContradictionUnit (as_place (left r))) else (if k == 2 then (ThesisUnit (as_place (left r))) else (if k == 3 then (QuantifiedUnit (parts_of (left r)).part_quantified) else (if k == 4 then (GroupUnit (as_place (left r)) (parts_of (left (right r))).part_formula (as_place (left (right (right r))))) else (if k == 5 then (PrivateUnit (as_word (left r)) (as_place (left (right r))) (as_place (left (right (right r))))) else (if k == 6 then (PrivateWithUnit (as_word (left r)) (as_place (left (right r))) (parts_of (left (right (right r)))).part_terms (as_place (left (right (right (right r)))))) else (if k == 7 then (PredicateUnit (as_word (left r))) else (if k == 8 then (PredicateRightUnit (as_word (left r)) (parts_of (left (right r))).part_terms) else (if k == 9 then (PredicateLeftUnit (parts_of (left r)).part_terms (as_word (left (right r)))) else (if k == 10 then (PredicateBothUnit (parts_of (left r)).part_terms (as_word (left (right r))) (parts_of (left (right (right r)))).part_terms) else (if k == 11 then (IsTypeUnit (parts_of (left r)).part_term (as_place (left (right r))) (parts_of (left (right (right r)))).part_type) else (if k == 12 then (IsAdjectivesUnit (parts_of (left r)).part_term (as_place (left (right r))) (parts_of (left (right (right r)))).part_adjective (parts_of (left (right (right (right r))))).part_adjectives) else (some_unit)))))))))))))

abbrev pub make_quantified : ℕ → Read → QuantifiedData
make_quantified k r =
    if k == 0 then (ForQuantified (as_place (left r)) (parts_of (left (right r))).part_declared (parts_of (left (right (right r)))).part_next_declareds (as_place (left (right (right (right r))))) (parts_of (left (right (right (right (right r)))))).part_formula) else (if k == 1 then (ForSuchQuantified (as_place (left r)) (parts_of (left (right r))).part_declared (parts_of (left (right (right r)))).part_next_declareds (as_place (left (right (right (right r))))) (parts_of (left (right (right (right (right r)))))).part_formula (as_place (left (right (right (right (right (right r))))))) (parts_of (left (right (right (right (right (right (right r)))))))).part_formula) else (if k == 2 then (ForFurtherQuantified (as_place (left r)) (parts_of (left (right r))).part_declared (parts_of (left (right (right r)))).part_next_declareds (parts_of (left (right (right (right r))))).part_quantified) else (if k == 3 then (ForSuchFurtherQuantified (as_place (left r)) (parts_of (left (right r))).part_declared (parts_of (left (right (right r)))).part_next_declareds (as_place (left (right (right (right r))))) (parts_of (left (right (right (right (right r)))))).part_formula (parts_of (left (right (right (right (right (right r))))))).part_quantified) else (if k == 4 then (ExistsQuantified (as_place (left r)) (parts_of (left (right r))).part_declared (parts_of (left (right (right r)))).part_next_declareds (as_place (left (right (right (right r))))) (parts_of (left (right (right (right (right r)))))).part_formula) else (some_quantified)))))

abbrev pub read : Gv → Read
read gnil = nothing
read (gnum n) = one n no_parts
read (gcons g h) = two (read g) (read h) (num_of (read g) ∷ numbers_of (read h)) (record {
  part_term = make_term (num_of (read g)) (read h);
  part_piece = make_piece (num_of (read g)) (read h);
  part_prefix = make_prefix (num_of (read g)) (read h);
  part_before = make_before (num_of (read g)) (read h);
  part_base = make_base (num_of (read g)) (read h);
  part_terms = make_terms (num_of (read g)) (read h);
  part_next_term = make_next_term (num_of (read g)) (read h);
  part_adjective = make_adjective (num_of (read g)) (read h);
  part_type = make_type (num_of (read g)) (read h);
  part_declared = make_declared (num_of (read g)) (read h);
  part_next_declared = make_next_declared (num_of (read g)) (read h);
  part_formula = make_formula (num_of (read g)) (read h);
  part_disjunction = make_disjunction (num_of (read g)) (read h);
  part_next_conjunction = make_next_conjunction (num_of (read g)) (read h);
  part_conjunction = make_conjunction (num_of (read g)) (read h);
  part_next_unit = make_next_unit (num_of (read g)) (read h);
  part_unit = make_unit (num_of (read g)) (read h);
  part_quantified = make_quantified (num_of (read g)) (read h);
  part_pieces = more_pieces (parts_of (read g)).part_piece (parts_of (read h)).part_pieces;
  part_prefixs = more_prefixs (parts_of (read g)).part_prefix (parts_of (read h)).part_prefixs;
  part_befores = more_befores (parts_of (read g)).part_before (parts_of (read h)).part_befores;
  part_next_terms = more_next_terms (parts_of (read g)).part_next_term (parts_of (read h)).part_next_terms;
  part_adjectives = more_adjectives (parts_of (read g)).part_adjective (parts_of (read h)).part_adjectives;
  part_next_declareds = more_next_declareds (parts_of (read g)).part_next_declared (parts_of (read h)).part_next_declareds;
  part_next_conjunctions = more_next_conjunctions (parts_of (read g)).part_next_conjunction (parts_of (read h)).part_next_conjunctions;
  part_next_units = more_next_units (parts_of (read g)).part_next_unit (parts_of (read h)).part_next_units;
})

abbrev pub term_back : Gv → TermData
term_back g = (parts_of (read g)).part_term

abbrev pub piece_back : Gv → PieceData
piece_back g = (parts_of (read g)).part_piece

abbrev pub prefix_back : Gv → PrefixData
prefix_back g = (parts_of (read g)).part_prefix

abbrev pub before_back : Gv → BeforeData
before_back g = (parts_of (read g)).part_before

abbrev pub base_back : Gv → BaseData
base_back g = (parts_of (read g)).part_base

abbrev pub terms_back : Gv → TermsData
terms_back g = (parts_of (read g)).part_terms

abbrev pub next_term_back : Gv → NextTermData
next_term_back g = (parts_of (read g)).part_next_term

abbrev pub adjective_back : Gv → AdjectiveData
adjective_back g = (parts_of (read g)).part_adjective

abbrev pub type_back : Gv → TypeData
type_back g = (parts_of (read g)).part_type

abbrev pub declared_back : Gv → DeclaredData
declared_back g = (parts_of (read g)).part_declared

abbrev pub next_declared_back : Gv → NextDeclaredData
next_declared_back g = (parts_of (read g)).part_next_declared

abbrev pub formula_back : Gv → FormulaData
formula_back g = (parts_of (read g)).part_formula

abbrev pub disjunction_back : Gv → DisjunctionData
disjunction_back g = (parts_of (read g)).part_disjunction

abbrev pub next_conjunction_back : Gv → NextConjunctionData
next_conjunction_back g = (parts_of (read g)).part_next_conjunction

abbrev pub conjunction_back : Gv → ConjunctionData
conjunction_back g = (parts_of (read g)).part_conjunction

abbrev pub next_unit_back : Gv → NextUnitData
next_unit_back g = (parts_of (read g)).part_next_unit

abbrev pub unit_back : Gv → UnitData
unit_back g = (parts_of (read g)).part_unit

abbrev pub quantified_back : Gv → QuantifiedData
quantified_back g = (parts_of (read g)).part_quantified

abbrev pub piece_list_back : Gv → PieceList
piece_list_back g = (parts_of (read g)).part_pieces

abbrev pub prefix_list_back : Gv → PrefixList
prefix_list_back g = (parts_of (read g)).part_prefixs

abbrev pub before_list_back : Gv → BeforeList
before_list_back g = (parts_of (read g)).part_befores

abbrev pub next_term_list_back : Gv → NextTermList
next_term_list_back g = (parts_of (read g)).part_next_terms

abbrev pub adjective_list_back : Gv → AdjectiveList
adjective_list_back g = (parts_of (read g)).part_adjectives

abbrev pub next_declared_list_back : Gv → NextDeclaredList
next_declared_list_back g = (parts_of (read g)).part_next_declareds

abbrev pub next_conjunction_list_back : Gv → NextConjunctionList
next_conjunction_list_back g = (parts_of (read g)).part_next_conjunctions

abbrev pub next_unit_list_back : Gv → NextUnitList
next_unit_list_back g = (parts_of (read g)).part_next_units

pub numbers_back : (xs : List ℕ) → numbers_of (read (numbers_gv xs)) ≡ xs
numbers_back [] = refl
numbers_back (x ∷ xs) = ap (λ ys. x ∷ ys) (numbers_back xs)

pub word_back : (a : Word) → as_word (read (word_gv a)) ≡ a
word_back a = λ i. record { place = a.place; spelling = numbers_back a.spelling i }

bit_back : (x : Bool) → (bit x == 1) ≡ x
bit_back true = refl
bit_back false = refl

pub comma_back : (a : Comma) → as_comma (read (comma_gv a)) ≡ a
comma_back a = λ i. record { place = a.place; dividing = bit_back a.dividing i }

pub being_back : (a : Being) → as_being (read (being_gv a)) ≡ a
being_back a = λ i. record { place = a.place; long = bit_back a.long i }

pub maybe_back : (a : Option Place) → as_maybe (read (maybe_gv a)) ≡ a
maybe_back None = refl
maybe_back (Some a) = refl

mutual
  pub term_back-term_gv : (t : TermData) → term_back (term_gv t) ≡ t
  term_back-term_gv (RunTerm a b) = λ z. RunTerm (piece_back-piece_gv a z) (piece_list_back-piece_list_gv b z)

  pub piece_back-piece_gv : (t : PieceData) → piece_back (piece_gv t) ≡ t
  piece_back-piece_gv (FunctorPiece a b) = λ z. FunctorPiece (word_back a z) b
  piece_back-piece_gv (OperandPiece a b) = λ z. OperandPiece (prefix_list_back-prefix_list_gv a z) (base_back-base_gv b z)

  pub prefix_back-prefix_gv : (t : PrefixData) → prefix_back (prefix_gv t) ≡ t
  prefix_back-prefix_gv (SelectorPrefix a b c) = λ z. SelectorPrefix a (word_back b z) c
  prefix_back-prefix_gv (ChoiceOfPrefix a b c d e) = λ z. ChoiceOfPrefix a (adjective_list_back-adjective_list_gv b z) (word_back c z) d (before_list_back-before_list_gv e z)
  prefix_back-prefix_gv (ChoiceOverPrefix a b c d e) = λ z. ChoiceOverPrefix a (adjective_list_back-adjective_list_gv b z) (word_back c z) d (before_list_back-before_list_gv e z)

  pub before_back-before_gv : (t : BeforeData) → before_back (before_gv t) ≡ t
  before_back-before_gv (OperandBefore a b c) = λ z. OperandBefore (prefix_list_back-prefix_list_gv a z) (base_back-base_gv b z) c

  pub base_back-base_gv : (t : BaseData) → base_back (base_gv t) ≡ t
  base_back-base_gv (IdentifierBase a) = λ z. IdentifierBase (word_back a z)
  base_back-base_gv (SubjectBase a) = refl
  base_back-base_gv (ArgumentBase a b) = refl
  base_back-base_gv (GroupBase a b c) = λ z. GroupBase a (terms_back-terms_gv b z) c
  base_back-base_gv (CallBase a b c) = λ z. CallBase (word_back a z) b c
  base_back-base_gv (CallWithBase a b c d) = λ z. CallWithBase (word_back a z) b (terms_back-terms_gv c z) d
  base_back-base_gv (SelectorBase a b) = λ z. SelectorBase a (word_back b z)
  base_back-base_gv (AggregateBase a b c d) = λ z. AggregateBase (word_back a z) b (terms_back-terms_gv c z) d
  base_back-base_gv (BracketsBase a b c) = λ z. BracketsBase (word_back a z) (terms_back-terms_gv b z) (word_back c z)
  base_back-base_gv (BracesBase a b c) = λ z. BracesBase a (terms_back-terms_gv b z) c
  base_back-base_gv (SquaresBase a b c) = λ z. SquaresBase a (terms_back-terms_gv b z) c
  base_back-base_gv (SetOfBase a b c d e f g h i) = λ z. SetOfBase a (term_back-term_gv b z) c (word_back d z) e (type_back-type_gv f z) g (formula_back-formula_gv h z) i
  base_back-base_gv (ChoiceBase a b c) = λ z. ChoiceBase a (adjective_list_back-adjective_list_gv b z) (word_back c z)
  base_back-base_gv (ChoiceStructureBase a b c) = λ z. ChoiceStructureBase a (adjective_list_back-adjective_list_gv b z) (word_back c z)

  pub terms_back-terms_gv : (t : TermsData) → terms_back (terms_gv t) ≡ t
  terms_back-terms_gv (ListTerms a b) = λ z. ListTerms (term_back-term_gv a z) (next_term_list_back-next_term_list_gv b z)

  pub next_term_back-next_term_gv : (t : NextTermData) → next_term_back (next_term_gv t) ≡ t
  next_term_back-next_term_gv (NextNextTerm a b) = λ z. NextNextTerm a (term_back-term_gv b z)

  pub adjective_back-adjective_gv : (t : AdjectiveData) → adjective_back (adjective_gv t) ≡ t
  adjective_back-adjective_gv (PlainAdjective a b) = λ z. PlainAdjective (maybe_back a z) (word_back b z)
  adjective_back-adjective_gv (WithIdentifierAdjective a b c) = λ z. WithIdentifierAdjective (maybe_back a z) (word_back b z) (word_back c z)
  adjective_back-adjective_gv (WithTermsAdjective a b c d e) = λ z. WithTermsAdjective (maybe_back a z) b (terms_back-terms_gv c z) d (word_back e z)

  pub type_back-type_gv : (t : TypeData) → type_back (type_gv t) ≡ t
  type_back-type_gv (ModeType a b) = λ z. ModeType (adjective_list_back-adjective_list_gv a z) (word_back b z)
  type_back-type_gv (ModeOfType a b c d) = λ z. ModeOfType (adjective_list_back-adjective_list_gv a z) (word_back b z) c (terms_back-terms_gv d z)
  type_back-type_gv (StructureType a b) = λ z. StructureType (adjective_list_back-adjective_list_gv a z) (word_back b z)
  type_back-type_gv (StructureOverType a b c d) = λ z. StructureOverType (adjective_list_back-adjective_list_gv a z) (word_back b z) c (terms_back-terms_gv d z)

  pub declared_back-declared_gv : (t : DeclaredData) → declared_back (declared_gv t) ≡ t
  declared_back-declared_gv (PlainDeclared a) = λ z. PlainDeclared (word_back a z)
  declared_back-declared_gv (TypedDeclared a b c) = λ z. TypedDeclared (word_back a z) (being_back b z) (type_back-type_gv c z)

  pub next_declared_back-next_declared_gv : (t : NextDeclaredData) → next_declared_back (next_declared_gv t) ≡ t
  next_declared_back-next_declared_gv (NextNextDeclared a b) = λ z. NextNextDeclared (comma_back a z) (declared_back-declared_gv b z)

  pub formula_back-formula_gv : (t : FormulaData) → formula_back (formula_gv t) ≡ t
  formula_back-formula_gv (PlainFormula a) = λ z. PlainFormula (disjunction_back-disjunction_gv a z)
  formula_back-formula_gv (ImpliesFormula a b c) = λ z. ImpliesFormula (disjunction_back-disjunction_gv a z) b (disjunction_back-disjunction_gv c z)
  formula_back-formula_gv (IffFormula a b c) = λ z. IffFormula (disjunction_back-disjunction_gv a z) b (disjunction_back-disjunction_gv c z)

  pub disjunction_back-disjunction_gv : (t : DisjunctionData) → disjunction_back (disjunction_gv t) ≡ t
  disjunction_back-disjunction_gv (ChainDisjunction a b) = λ z. ChainDisjunction (conjunction_back-conjunction_gv a z) (next_conjunction_list_back-next_conjunction_list_gv b z)

  pub next_conjunction_back-next_conjunction_gv : (t : NextConjunctionData) → next_conjunction_back (next_conjunction_gv t) ≡ t
  next_conjunction_back-next_conjunction_gv (OrNextConjunction a b) = λ z. OrNextConjunction a (conjunction_back-conjunction_gv b z)

  pub conjunction_back-conjunction_gv : (t : ConjunctionData) → conjunction_back (conjunction_gv t) ≡ t
  conjunction_back-conjunction_gv (ChainConjunction a b) = λ z. ChainConjunction (unit_back-unit_gv a z) (next_unit_list_back-next_unit_list_gv b z)

  pub next_unit_back-next_unit_gv : (t : NextUnitData) → next_unit_back (next_unit_gv t) ≡ t
  next_unit_back-next_unit_gv (AndNextUnit a b) = λ z. AndNextUnit a (unit_back-unit_gv b z)

  pub unit_back-unit_gv : (t : UnitData) → unit_back (unit_gv t) ≡ t
  unit_back-unit_gv (NotUnit a b) = λ z. NotUnit a (unit_back-unit_gv b z)
  unit_back-unit_gv (ContradictionUnit a) = refl
  unit_back-unit_gv (ThesisUnit a) = refl
  unit_back-unit_gv (QuantifiedUnit a) = λ z. QuantifiedUnit (quantified_back-quantified_gv a z)
  unit_back-unit_gv (GroupUnit a b c) = λ z. GroupUnit a (formula_back-formula_gv b z) c
  unit_back-unit_gv (PrivateUnit a b c) = λ z. PrivateUnit (word_back a z) b c
  unit_back-unit_gv (PrivateWithUnit a b c d) = λ z. PrivateWithUnit (word_back a z) b (terms_back-terms_gv c z) d
  unit_back-unit_gv (PredicateUnit a) = λ z. PredicateUnit (word_back a z)
  unit_back-unit_gv (PredicateRightUnit a b) = λ z. PredicateRightUnit (word_back a z) (terms_back-terms_gv b z)
  unit_back-unit_gv (PredicateLeftUnit a b) = λ z. PredicateLeftUnit (terms_back-terms_gv a z) (word_back b z)
  unit_back-unit_gv (PredicateBothUnit a b c) = λ z. PredicateBothUnit (terms_back-terms_gv a z) (word_back b z) (terms_back-terms_gv c z)
  unit_back-unit_gv (IsTypeUnit a b c) = λ z. IsTypeUnit (term_back-term_gv a z) b (type_back-type_gv c z)
  unit_back-unit_gv (IsAdjectivesUnit a b c d) = λ z. IsAdjectivesUnit (term_back-term_gv a z) b (adjective_back-adjective_gv c z) (adjective_list_back-adjective_list_gv d z)

  pub quantified_back-quantified_gv : (t : QuantifiedData) → quantified_back (quantified_gv t) ≡ t
  quantified_back-quantified_gv (ForQuantified a b c d e) = λ z. ForQuantified a (declared_back-declared_gv b z) (next_declared_list_back-next_declared_list_gv c z) d (formula_back-formula_gv e z)
  quantified_back-quantified_gv (ForSuchQuantified a b c d e f g) = λ z. ForSuchQuantified a (declared_back-declared_gv b z) (next_declared_list_back-next_declared_list_gv c z) d (formula_back-formula_gv e z) f (formula_back-formula_gv g z)
  quantified_back-quantified_gv (ForFurtherQuantified a b c d) = λ z. ForFurtherQuantified a (declared_back-declared_gv b z) (next_declared_list_back-next_declared_list_gv c z) (quantified_back-quantified_gv d z)
  quantified_back-quantified_gv (ForSuchFurtherQuantified a b c d e f) = λ z. ForSuchFurtherQuantified a (declared_back-declared_gv b z) (next_declared_list_back-next_declared_list_gv c z) d (formula_back-formula_gv e z) (quantified_back-quantified_gv f z)
  quantified_back-quantified_gv (ExistsQuantified a b c d e) = λ z. ExistsQuantified a (declared_back-declared_gv b z) (next_declared_list_back-next_declared_list_gv c z) d (formula_back-formula_gv e z)

  pub piece_list_back-piece_list_gv : (ts : PieceList) → piece_list_back (piece_list_gv ts) ≡ ts
  piece_list_back-piece_list_gv no_pieces = refl
  piece_list_back-piece_list_gv (more_pieces t ts) = λ z. more_pieces (piece_back-piece_gv t z) (piece_list_back-piece_list_gv ts z)

  pub prefix_list_back-prefix_list_gv : (ts : PrefixList) → prefix_list_back (prefix_list_gv ts) ≡ ts
  prefix_list_back-prefix_list_gv no_prefixs = refl
  prefix_list_back-prefix_list_gv (more_prefixs t ts) = λ z. more_prefixs (prefix_back-prefix_gv t z) (prefix_list_back-prefix_list_gv ts z)

  pub before_list_back-before_list_gv : (ts : BeforeList) → before_list_back (before_list_gv ts) ≡ ts
  before_list_back-before_list_gv no_befores = refl
  before_list_back-before_list_gv (more_befores t ts) = λ z. more_befores (before_back-before_gv t z) (before_list_back-before_list_gv ts z)

  pub next_term_list_back-next_term_list_gv : (ts : NextTermList) → next_term_list_back (next_term_list_gv ts) ≡ ts
  next_term_list_back-next_term_list_gv no_next_terms = refl
  next_term_list_back-next_term_list_gv (more_next_terms t ts) = λ z. more_next_terms (next_term_back-next_term_gv t z) (next_term_list_back-next_term_list_gv ts z)

  pub adjective_list_back-adjective_list_gv : (ts : AdjectiveList) → adjective_list_back (adjective_list_gv ts) ≡ ts
  adjective_list_back-adjective_list_gv no_adjectives = refl
  adjective_list_back-adjective_list_gv (more_adjectives t ts) = λ z. more_adjectives (adjective_back-adjective_gv t z) (adjective_list_back-adjective_list_gv ts z)

  pub next_declared_list_back-next_declared_list_gv : (ts : NextDeclaredList) → next_declared_list_back (next_declared_list_gv ts) ≡ ts
  next_declared_list_back-next_declared_list_gv no_next_declareds = refl
  next_declared_list_back-next_declared_list_gv (more_next_declareds t ts) = λ z. more_next_declareds (next_declared_back-next_declared_gv t z) (next_declared_list_back-next_declared_list_gv ts z)

  pub next_conjunction_list_back-next_conjunction_list_gv : (ts : NextConjunctionList) → next_conjunction_list_back (next_conjunction_list_gv ts) ≡ ts
  next_conjunction_list_back-next_conjunction_list_gv no_next_conjunctions = refl
  next_conjunction_list_back-next_conjunction_list_gv (more_next_conjunctions t ts) = λ z. more_next_conjunctions (next_conjunction_back-next_conjunction_gv t z) (next_conjunction_list_back-next_conjunction_list_gv ts z)

  pub next_unit_list_back-next_unit_list_gv : (ts : NextUnitList) → next_unit_list_back (next_unit_list_gv ts) ≡ ts
  next_unit_list_back-next_unit_list_gv no_next_units = refl
  next_unit_list_back-next_unit_list_gv (more_next_units t ts) = λ z. more_next_units (next_unit_back-next_unit_gv t z) (next_unit_list_back-next_unit_list_gv ts z)

abbrev pub term_code : Coded TermData
term_code = code_by Gv itself term_gv term_back term_back-term_gv

abbrev pub terms_code : Coded TermsData
terms_code = code_by Gv itself terms_gv terms_back terms_back-terms_gv

abbrev pub adjective_code : Coded AdjectiveData
adjective_code = code_by Gv itself adjective_gv adjective_back adjective_back-adjective_gv

abbrev pub type_code : Coded TypeData
type_code = code_by Gv itself type_gv type_back type_back-type_gv

abbrev pub declared_code : Coded DeclaredData
declared_code = code_by Gv itself declared_gv declared_back declared_back-declared_gv

abbrev pub formula_code : Coded FormulaData
formula_code = code_by Gv itself formula_gv formula_back formula_back-formula_gv

abbrev pub adjective_list_code : Coded AdjectiveList
adjective_list_code = code_by Gv itself adjective_list_gv adjective_list_back adjective_list_back-adjective_list_gv

abbrev pub next_declared_list_code : Coded NextDeclaredList
next_declared_list_code = code_by Gv itself next_declared_list_gv next_declared_list_back next_declared_list_back-next_declared_list_gv

abbrev pub declarations_code : Coded DeclarationsData
declarations_code = code_by (DeclaredData × NextDeclaredList) (coded× declared_code next_declared_list_code) (λ d. (d.first, d.more)) (λ p. record { first = p.0; more = p.1 }) (λ _. refl)

abbrev pub adjectives_code : Coded AdjectivesData
adjectives_code = code_by (AdjectiveData × AdjectiveList) (coded× adjective_code adjective_list_code) (λ a. (a.first, a.more)) (λ p. record { first = p.0; more = p.1 }) (λ _. refl)
