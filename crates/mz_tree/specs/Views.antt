-- The trees of the program as those of the grammar.
use Rattle.std.specs.Prelude.{map, Vec, Box}
use Rattle.std.specs.declared.alloc.Global.{Global}
use Rattle.mz_tree.specs.Trees.{DeclarationsData, AdjectivesData, TermData, PieceData, PrefixData, BeforeData, BaseData, TermsData, NextTermData, AdjectiveData, TypeData, DeclaredData, NextDeclaredData, FormulaData, DisjunctionData, NextConjunctionData, ConjunctionData, NextUnitData, UnitData, QuantifiedData, PrefixList, PlainAdjective, WithIdentifierAdjective, WithTermsAdjective, IdentifierBase, SubjectBase, ArgumentBase, GroupBase, CallBase, CallWithBase, SelectorBase, AggregateBase, BracketsBase, BracesBase, SquaresBase, SetOfBase, ChoiceBase, ChoiceStructureBase, PlainDeclared, TypedDeclared, PlainFormula, ImpliesFormula, IffFormula, FunctorPiece, OperandPiece, SelectorPrefix, ChoiceOfPrefix, ChoiceOverPrefix, ForQuantified, ForSuchQuantified, ForFurtherQuantified, ForSuchFurtherQuantified, ExistsQuantified, ModeType, ModeOfType, StructureType, StructureOverType, NotUnit, ContradictionUnit, ThesisUnit, QuantifiedUnit, GroupUnit, PrivateUnit, PrivateWithUnit, PredicateUnit, PredicateRightUnit, PredicateLeftUnit, PredicateBothUnit, IsTypeUnit, IsAdjectivesUnit, RunTerm, OperandBefore, ListTerms, NextNextTerm, NextNextDeclared, ChainDisjunction, OrNextConjunction, ChainConjunction, AndNextUnit, pieces_of, prefixs_of, befores_of, next_terms_of, adjectives_of, next_declareds_of, next_conjunctions_of, next_units_of}
use Rattle.mz_base.specs.declared.place.Place.{Place}
use Rattle.mz_tree.specs.declared.word.Comma.{Comma}
use Rattle.mz_tree.specs.declared.chain.Next.{Next}
use Rattle.mz_tree.specs.declared.chain.Chain.{Chain}
use Rattle.mz_tree.specs.declared.chain.Before.{Before}
use Rattle.mz_tree.specs.declared.nodes.AdjectiveNode.{AdjectiveNode}
use Rattle.mz_tree.specs.declared.nodes.BaseNode.{BaseNode}
use Rattle.mz_tree.specs.declared.nodes.ConjunctionNode.{ConjunctionNode}
use Rattle.mz_tree.specs.declared.nodes.DeclaredNode.{DeclaredNode}
use Rattle.mz_tree.specs.declared.nodes.FormulaNode.{FormulaNode}
use Rattle.mz_tree.specs.declared.nodes.OperandNode.{OperandNode}
use Rattle.mz_tree.specs.declared.nodes.PieceNode.{PieceNode}
use Rattle.mz_tree.specs.declared.nodes.PrefixNode.{PrefixNode}
use Rattle.mz_tree.specs.declared.nodes.QuantifiedNode.{QuantifiedNode}
use Rattle.mz_tree.specs.declared.nodes.TermNode.{TermNode}
use Rattle.mz_tree.specs.declared.nodes.TypeNode.{TypeNode}
use Rattle.mz_tree.specs.declared.nodes.UnitNode.{UnitNode}
use Rattle.mz_tree.specs.declared.nodes.AdjectiveNode.TheOpen.{AdjectiveNode-F, BaseNode-F, DeclaredNode-F, FormulaNode-F, PieceNode-F, PrefixNode-F, QuantifiedNode-F, TypeNode-F, UnitNode-F, ConjunctionNode-F, OperandNode-F, TermNode-F}
use Rattle.mz_tree.specs.declared.nodes.AdjectiveNode.TheFolds.{fold-AdjectiveNode, fold-BaseNode, fold-DeclaredNode, fold-FormulaNode, fold-PieceNode, fold-PrefixNode, fold-QuantifiedNode, fold-TypeNode, fold-UnitNode, fold-ConjunctionNode, fold-OperandNode, fold-TermNode}

-- an operand, whose two parts stand side by side in the tree that has it
pub record OperandData : Type 0 where
  pub prefixes : PrefixList
  pub base : BaseData

abbrev pub before_view : Before OperandData → BeforeData
before_view b = OperandBefore b.tree.prefixes b.tree.base b.comma

abbrev pub next_term_view : Next Place TermData → NextTermData
next_term_view n = NextNextTerm n.sign n.tree

abbrev pub terms_view : Chain Place TermData → TermsData
terms_view c = ListTerms c.first (next_terms_of (map next_term_view c.more.items))

abbrev pub next_declared_view : Next Comma DeclaredData → NextDeclaredData
next_declared_view n = NextNextDeclared n.sign n.tree

abbrev pub next_unit_view : Next Place (Box UnitData Global) → NextUnitData
next_unit_view n = AndNextUnit n.sign n.tree.value

abbrev pub next_conjunction_view : Next Place ConjunctionData → NextConjunctionData
next_conjunction_view n = OrNextConjunction n.sign n.tree

abbrev pub disjunction_view : Chain Place ConjunctionData → DisjunctionData
disjunction_view c = ChainDisjunction c.first (next_conjunctions_of (map next_conjunction_view c.more.items))

abbrev pub adjective_step : AdjectiveNode-F AdjectiveData BaseData DeclaredData FormulaData PieceData PrefixData QuantifiedData TypeData UnitData ConjunctionData OperandData TermData → AdjectiveData
adjective_step (AdjectiveNode-F.AdjectiveNode::Plain a b) = PlainAdjective a b
adjective_step (AdjectiveNode-F.WithIdentifier a b c) = WithIdentifierAdjective a b c
adjective_step (AdjectiveNode-F.WithTerms a b c d e) = WithTermsAdjective a b (terms_view c) d e

abbrev pub base_step : BaseNode-F AdjectiveData BaseData DeclaredData FormulaData PieceData PrefixData QuantifiedData TypeData UnitData ConjunctionData OperandData TermData → BaseData
base_step (BaseNode-F.Identifier a) = IdentifierBase a
base_step (BaseNode-F.Subject a) = SubjectBase a
base_step (BaseNode-F.Argument a b) = ArgumentBase a b
base_step (BaseNode-F.BaseNode::Group a b c) = GroupBase a (terms_view b) c
base_step (BaseNode-F.Call a b c) = CallBase a b c
base_step (BaseNode-F.CallWith a b c d) = CallWithBase a b (terms_view c) d
base_step (BaseNode-F.BaseNode::Selector a b) = SelectorBase a b
base_step (BaseNode-F.Aggregate a b c d) = AggregateBase a b (terms_view c) d
base_step (BaseNode-F.Brackets a b c) = BracketsBase a (terms_view b) c
base_step (BaseNode-F.Braces a b c) = BracesBase a (terms_view b) c
base_step (BaseNode-F.Squares a b c) = SquaresBase a (terms_view b) c
base_step (BaseNode-F.SetOf a b c d e f g h i) = SetOfBase a b c d e f.value g h.value i
base_step (BaseNode-F.Choice a b c) = ChoiceBase a (adjectives_of b.items) c
base_step (BaseNode-F.ChoiceStructure a b c) = ChoiceStructureBase a (adjectives_of b.items) c

abbrev pub declared_step : DeclaredNode-F AdjectiveData BaseData DeclaredData FormulaData PieceData PrefixData QuantifiedData TypeData UnitData ConjunctionData OperandData TermData → DeclaredData
declared_step (DeclaredNode-F.DeclaredNode::Plain a) = PlainDeclared a
declared_step (DeclaredNode-F.Typed a b c) = TypedDeclared a b c.value

abbrev pub formula_step : FormulaNode-F AdjectiveData BaseData DeclaredData FormulaData PieceData PrefixData QuantifiedData TypeData UnitData ConjunctionData OperandData TermData → FormulaData
formula_step (FormulaNode-F.FormulaNode::Plain a) = PlainFormula (disjunction_view a)
formula_step (FormulaNode-F.Implies a b c) = ImpliesFormula (disjunction_view a) b (disjunction_view c)
formula_step (FormulaNode-F.Iff a b c) = IffFormula (disjunction_view a) b (disjunction_view c)

abbrev pub piece_step : PieceNode-F AdjectiveData BaseData DeclaredData FormulaData PieceData PrefixData QuantifiedData TypeData UnitData ConjunctionData OperandData TermData → PieceData
piece_step (PieceNode-F.Functor a b) = FunctorPiece a b
piece_step (PieceNode-F.Operand a) = OperandPiece a.prefixes a.base

abbrev pub prefix_step : PrefixNode-F AdjectiveData BaseData DeclaredData FormulaData PieceData PrefixData QuantifiedData TypeData UnitData ConjunctionData OperandData TermData → PrefixData
prefix_step (PrefixNode-F.PrefixNode::Selector a b c) = SelectorPrefix a b c
prefix_step (PrefixNode-F.ChoiceOf a b c d e) = ChoiceOfPrefix a (adjectives_of b.items) c d (befores_of (map before_view e.items))
prefix_step (PrefixNode-F.ChoiceOver a b c d e) = ChoiceOverPrefix a (adjectives_of b.items) c d (befores_of (map before_view e.items))

abbrev pub quantified_step : QuantifiedNode-F AdjectiveData BaseData DeclaredData FormulaData PieceData PrefixData QuantifiedData TypeData UnitData ConjunctionData OperandData TermData → QuantifiedData
quantified_step (QuantifiedNode-F.For a b c d) = ForQuantified a b.first (next_declareds_of (map next_declared_view b.more.items)) c d.value
quantified_step (QuantifiedNode-F.ForSuch a b c d e f) = ForSuchQuantified a b.first (next_declareds_of (map next_declared_view b.more.items)) c d.value e f.value
quantified_step (QuantifiedNode-F.ForFurther a b c) = ForFurtherQuantified a b.first (next_declareds_of (map next_declared_view b.more.items)) c.value
quantified_step (QuantifiedNode-F.ForSuchFurther a b c d e) = ForSuchFurtherQuantified a b.first (next_declareds_of (map next_declared_view b.more.items)) c d.value e.value
quantified_step (QuantifiedNode-F.Exists a b c d) = ExistsQuantified a b.first (next_declareds_of (map next_declared_view b.more.items)) c d.value

abbrev pub type_step : TypeNode-F AdjectiveData BaseData DeclaredData FormulaData PieceData PrefixData QuantifiedData TypeData UnitData ConjunctionData OperandData TermData → TypeData
type_step (TypeNode-F.Mode a b) = ModeType (adjectives_of a.items) b
type_step (TypeNode-F.ModeOf a b c d) = ModeOfType (adjectives_of a.items) b c (terms_view d)
type_step (TypeNode-F.Structure a b) = StructureType (adjectives_of a.items) b
type_step (TypeNode-F.StructureOver a b c d) = StructureOverType (adjectives_of a.items) b c (terms_view d)

abbrev pub unit_step : UnitNode-F AdjectiveData BaseData DeclaredData FormulaData PieceData PrefixData QuantifiedData TypeData UnitData ConjunctionData OperandData TermData → UnitData
unit_step (UnitNode-F.Not a b) = NotUnit a b.value
unit_step (UnitNode-F.Contradiction a) = ContradictionUnit a
unit_step (UnitNode-F.Thesis a) = ThesisUnit a
unit_step (UnitNode-F.Quantified a) = QuantifiedUnit a.value
unit_step (UnitNode-F.UnitNode::Group a b c) = GroupUnit a b.value c
unit_step (UnitNode-F.Private a b c) = PrivateUnit a b c
unit_step (UnitNode-F.PrivateWith a b c d) = PrivateWithUnit a b (terms_view c) d
unit_step (UnitNode-F.Predicate a) = PredicateUnit a
unit_step (UnitNode-F.PredicateRight a b) = PredicateRightUnit a (terms_view b)
unit_step (UnitNode-F.PredicateLeft a b) = PredicateLeftUnit (terms_view a) b
unit_step (UnitNode-F.PredicateBoth a b c) = PredicateBothUnit (terms_view a) b (terms_view c)
unit_step (UnitNode-F.IsType a b c) = IsTypeUnit a b c.value
unit_step (UnitNode-F.IsAdjectives a b c d) = IsAdjectivesUnit a b c (adjectives_of d.items)

abbrev pub conjunction_step : ConjunctionNode-F AdjectiveData BaseData DeclaredData FormulaData PieceData PrefixData QuantifiedData TypeData UnitData ConjunctionData OperandData TermData → ConjunctionData
conjunction_step t = ChainConjunction t.first.value (next_units_of (map next_unit_view t.more.items))

abbrev pub operand_step : OperandNode-F AdjectiveData BaseData DeclaredData FormulaData PieceData PrefixData QuantifiedData TypeData UnitData ConjunctionData OperandData TermData → OperandData
operand_step t = record { prefixes = prefixs_of t.prefixes.items; base = t.base.value }

abbrev pub term_step : TermNode-F AdjectiveData BaseData DeclaredData FormulaData PieceData PrefixData QuantifiedData TypeData UnitData ConjunctionData OperandData TermData → TermData
term_step t = RunTerm t.first (pieces_of t.more.items)

unfoldable pub adjective_of : AdjectiveNode → AdjectiveData
adjective_of = fold-AdjectiveNode AdjectiveData BaseData DeclaredData FormulaData PieceData PrefixData QuantifiedData TypeData UnitData ConjunctionData OperandData TermData adjective_step base_step declared_step formula_step piece_step prefix_step quantified_step type_step unit_step conjunction_step operand_step term_step

unfoldable pub base_of : BaseNode → BaseData
base_of = fold-BaseNode AdjectiveData BaseData DeclaredData FormulaData PieceData PrefixData QuantifiedData TypeData UnitData ConjunctionData OperandData TermData adjective_step base_step declared_step formula_step piece_step prefix_step quantified_step type_step unit_step conjunction_step operand_step term_step

unfoldable pub declared_of : DeclaredNode → DeclaredData
declared_of = fold-DeclaredNode AdjectiveData BaseData DeclaredData FormulaData PieceData PrefixData QuantifiedData TypeData UnitData ConjunctionData OperandData TermData adjective_step base_step declared_step formula_step piece_step prefix_step quantified_step type_step unit_step conjunction_step operand_step term_step

unfoldable pub formula_of : FormulaNode → FormulaData
formula_of = fold-FormulaNode AdjectiveData BaseData DeclaredData FormulaData PieceData PrefixData QuantifiedData TypeData UnitData ConjunctionData OperandData TermData adjective_step base_step declared_step formula_step piece_step prefix_step quantified_step type_step unit_step conjunction_step operand_step term_step

unfoldable pub piece_of : PieceNode → PieceData
piece_of = fold-PieceNode AdjectiveData BaseData DeclaredData FormulaData PieceData PrefixData QuantifiedData TypeData UnitData ConjunctionData OperandData TermData adjective_step base_step declared_step formula_step piece_step prefix_step quantified_step type_step unit_step conjunction_step operand_step term_step

unfoldable pub prefix_of : PrefixNode → PrefixData
prefix_of = fold-PrefixNode AdjectiveData BaseData DeclaredData FormulaData PieceData PrefixData QuantifiedData TypeData UnitData ConjunctionData OperandData TermData adjective_step base_step declared_step formula_step piece_step prefix_step quantified_step type_step unit_step conjunction_step operand_step term_step

unfoldable pub quantified_of : QuantifiedNode → QuantifiedData
quantified_of = fold-QuantifiedNode AdjectiveData BaseData DeclaredData FormulaData PieceData PrefixData QuantifiedData TypeData UnitData ConjunctionData OperandData TermData adjective_step base_step declared_step formula_step piece_step prefix_step quantified_step type_step unit_step conjunction_step operand_step term_step

unfoldable pub type_of : TypeNode → TypeData
type_of = fold-TypeNode AdjectiveData BaseData DeclaredData FormulaData PieceData PrefixData QuantifiedData TypeData UnitData ConjunctionData OperandData TermData adjective_step base_step declared_step formula_step piece_step prefix_step quantified_step type_step unit_step conjunction_step operand_step term_step

unfoldable pub unit_of : UnitNode → UnitData
unit_of = fold-UnitNode AdjectiveData BaseData DeclaredData FormulaData PieceData PrefixData QuantifiedData TypeData UnitData ConjunctionData OperandData TermData adjective_step base_step declared_step formula_step piece_step prefix_step quantified_step type_step unit_step conjunction_step operand_step term_step

unfoldable pub conjunction_of : ConjunctionNode → ConjunctionData
conjunction_of = fold-ConjunctionNode AdjectiveData BaseData DeclaredData FormulaData PieceData PrefixData QuantifiedData TypeData UnitData ConjunctionData OperandData TermData adjective_step base_step declared_step formula_step piece_step prefix_step quantified_step type_step unit_step conjunction_step operand_step term_step

unfoldable pub operand_of : OperandNode → OperandData
operand_of = fold-OperandNode AdjectiveData BaseData DeclaredData FormulaData PieceData PrefixData QuantifiedData TypeData UnitData ConjunctionData OperandData TermData adjective_step base_step declared_step formula_step piece_step prefix_step quantified_step type_step unit_step conjunction_step operand_step term_step

unfoldable pub term_of : TermNode → TermData
term_of = fold-TermNode AdjectiveData BaseData DeclaredData FormulaData PieceData PrefixData QuantifiedData TypeData UnitData ConjunctionData OperandData TermData adjective_step base_step declared_step formula_step piece_step prefix_step quantified_step type_step unit_step conjunction_step operand_step term_step

abbrev pub before_of : Before OperandNode → BeforeData
before_of b = OperandBefore (operand_of b.tree).prefixes (operand_of b.tree).base b.comma

abbrev pub next_term_of : Next Place TermNode → NextTermData
next_term_of n = NextNextTerm n.sign (term_of n.tree)

abbrev pub terms_of : Chain Place TermNode → TermsData
terms_of c = ListTerms (term_of c.first) (next_terms_of (map next_term_of c.more.items))

abbrev pub next_declared_of : Next Comma DeclaredNode → NextDeclaredData
next_declared_of n = NextNextDeclared n.sign (declared_of n.tree)

abbrev pub next_unit_of : Next Place (Box UnitNode Global) → NextUnitData
next_unit_of n = AndNextUnit n.sign (unit_of n.tree.value)

abbrev pub next_conjunction_of : Next Place ConjunctionNode → NextConjunctionData
next_conjunction_of n = OrNextConjunction n.sign (conjunction_of n.tree)

abbrev pub disjunction_of : Chain Place ConjunctionNode → DisjunctionData
disjunction_of c = ChainDisjunction (conjunction_of c.first) (next_conjunctions_of (map next_conjunction_of c.more.items))

abbrev pub declarations_of : Chain Comma DeclaredNode → DeclarationsData
declarations_of c = record { first = declared_of c.first; more = next_declareds_of (map next_declared_of c.more.items) }

abbrev pub adjectives_seen : AdjectiveNode → Vec AdjectiveNode Global → AdjectivesData
adjectives_seen first more = record { first = adjective_of first; more = adjectives_of (map adjective_of more.items) }
