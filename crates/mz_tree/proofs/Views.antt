-- The views of the trees, variant by variant.
use Rattle.std.proofs.Common.{◌≡◌, ℕ, zero, suc, List, [], ◌∷◌, map, take, length, ◌≤◌, Option, Vec, Box, refl, sym, ap, ◌∙◌, arith}
use Rattle.std.specs.declared.alloc.Global.{Global}
use Rattle.mz_tree.specs.Trees.{TermData, ConjunctionData, PlainAdjective, WithIdentifierAdjective, WithTermsAdjective, IdentifierBase, SubjectBase, ArgumentBase, GroupBase, CallBase, CallWithBase, SelectorBase, AggregateBase, BracketsBase, BracesBase, SquaresBase, SetOfBase, ChoiceBase, ChoiceStructureBase, PlainDeclared, TypedDeclared, PlainFormula, ImpliesFormula, IffFormula, FunctorPiece, OperandPiece, SelectorPrefix, ChoiceOfPrefix, ChoiceOverPrefix, ForQuantified, ForSuchQuantified, ForFurtherQuantified, ForSuchFurtherQuantified, ExistsQuantified, ModeType, ModeOfType, StructureType, StructureOverType, NotUnit, ContradictionUnit, ThesisUnit, QuantifiedUnit, GroupUnit, PrivateUnit, PrivateWithUnit, PredicateUnit, PredicateRightUnit, PredicateLeftUnit, PredicateBothUnit, IsTypeUnit, IsAdjectivesUnit, RunTerm, ListTerms, ChainDisjunction, ChainConjunction, pieces_of, prefixs_of, befores_of, next_terms_of, adjectives_of, next_declareds_of, next_conjunctions_of, next_units_of}
use Rattle.mz_tree.specs.Views.{OperandData, before_view, next_term_view, next_declared_view, next_unit_view, next_conjunction_view, adjective_of, base_of, declared_of, formula_of, piece_of, prefix_of, quantified_of, type_of, unit_of, conjunction_of, operand_of, term_of, before_of, next_term_of, terms_of, next_declared_of, next_unit_of, next_conjunction_of, disjunction_of}
use Rattle.mz_base.specs.declared.place.Place.{Place}
use Rattle.mz_tree.specs.declared.word.Word.{Word}
use Rattle.mz_tree.specs.declared.word.Comma.{Comma}
use Rattle.mz_tree.specs.declared.word.Being.{Being}
use Rattle.mz_tree.specs.declared.chain.Next.{Next}
use Rattle.mz_tree.specs.declared.chain.Chain.{Chain}
use Rattle.mz_tree.specs.declared.chain.Before.{Before}
use Rattle.mz_tree.specs.declared.nodes.AdjectiveNode.{AdjectiveNode}
use Rattle.mz_tree.specs.declared.nodes.ConjunctionNode.{ConjunctionNode}
use Rattle.mz_tree.specs.declared.nodes.DeclaredNode.{DeclaredNode}
use Rattle.mz_tree.specs.declared.nodes.FormulaNode.{FormulaNode}
use Rattle.mz_tree.specs.declared.nodes.OperandNode.{OperandNode}
use Rattle.mz_tree.specs.declared.nodes.QuantifiedNode.{QuantifiedNode}
use Rattle.mz_tree.specs.declared.nodes.TermNode.{TermNode}
use Rattle.mz_tree.specs.declared.nodes.TypeNode.{TypeNode}
use Rattle.mz_tree.specs.declared.nodes.UnitNode.{UnitNode}
use Rattle.mz_tree.specs.declared.nodes.AdjectiveNode.TheOpen.{AdjectiveNode-F, BaseNode-F, DeclaredNode-F, FormulaNode-F, PieceNode-F, PrefixNode-F, QuantifiedNode-F, TypeNode-F, UnitNode-F}
use Rattle.mz_tree.specs.declared.nodes.AdjectiveNode.TheFolds.{fold-roll-AdjectiveNode, fold-roll-BaseNode, fold-roll-DeclaredNode, fold-roll-FormulaNode, fold-roll-PieceNode, fold-roll-PrefixNode, fold-roll-QuantifiedNode, fold-roll-TypeNode, fold-roll-UnitNode, fold_out-ConjunctionNode, fold_out-OperandNode, fold_out-TermNode}
use Rattle.mz_tree.specs.declared.nodes.AdjectiveNode.TheVariants as adjectives
use Rattle.mz_tree.specs.declared.nodes.BaseNode.TheVariants as bases
use Rattle.mz_tree.specs.declared.nodes.DeclaredNode.TheVariants as declareds
use Rattle.mz_tree.specs.declared.nodes.FormulaNode.TheVariants as formulas
use Rattle.mz_tree.specs.declared.nodes.PieceNode.TheVariants as pieces
use Rattle.mz_tree.specs.declared.nodes.PrefixNode.TheVariants as prefixs
use Rattle.mz_tree.specs.declared.nodes.QuantifiedNode.TheVariants as quantifieds
use Rattle.mz_tree.specs.declared.nodes.TypeNode.TheVariants as types
use Rattle.mz_tree.specs.declared.nodes.UnitNode.TheVariants as units

-- a map after another, where it is known at each
map_by : {X Y Z : Type 0} (f : Y → Z) (g : X → Y) (h : X → Z) (xs : List X) → ((x : X) → f (g x) ≡ h x) → map f (map g xs) ≡ map h xs
map_by f g h [] e = refl
map_by f g h (x ∷ xs) e = ap (λ z. z ∷ map f (map g xs)) (e x) ∙ ap (λ ys. h x ∷ ys) (map_by f g h xs e)

pub ap2 : {X Y Z : Type 0} (f : X → Y → Z) {a b : X} {c d : Y} → a ≡ b → c ≡ d → f a c ≡ f b d
ap2 f {a} {b} {c} {d} e g = ap (λ x. f x c) e ∙ ap (λ y. f b y) g

-- a loop that has come to the end has taken all
pub taken : {X : Type 0} (xs ys : List X) (i : ℕ) → xs ≡ ys → length xs ≤ i → take i xs ≡ ys
taken [] ys zero e h = e
taken [] ys (suc i) e h = e
taken (x ∷ xs) ys zero e h = absurd (omega (arith, h))
taken (x ∷ xs) ys (suc i) e h = ap (λ zs. x ∷ zs) (taken xs xs i refl (omega (arith, h))) ∙ e

terms_seen : (g : Next Place TermNode → Next Place TermData) (c : Chain Place TermNode) → ((n : Next Place TermNode) → next_term_view (g n) ≡ next_term_of n) → ListTerms (term_of c.first) (next_terms_of (map next_term_view (map g c.more.items))) ≡ terms_of c
terms_seen g c e = ap (λ ts. ListTerms (term_of c.first) (next_terms_of ts)) (map_by next_term_view g next_term_of c.more.items e)

disjunction_seen : (g : Next Place ConjunctionNode → Next Place ConjunctionData) (c : Chain Place ConjunctionNode) → ((n : Next Place ConjunctionNode) → next_conjunction_view (g n) ≡ next_conjunction_of n) → ChainDisjunction (conjunction_of c.first) (next_conjunctions_of (map next_conjunction_view (map g c.more.items))) ≡ disjunction_of c
disjunction_seen g c e = ap (λ ts. ChainDisjunction (conjunction_of c.first) (next_conjunctions_of ts)) (map_by next_conjunction_view g next_conjunction_of c.more.items e)

pub adjective_of-plain : (a : Option Place) (b : Word) → adjective_of (adjectives.Plain a b) ≡ PlainAdjective a b
unfolding adjective_of base_of declared_of formula_of piece_of prefix_of quantified_of type_of unit_of conjunction_of operand_of term_of
adjective_of-plain a b = ap adjective_of (sym (adjectives.rolls-Plain a b)) ∙ fold-roll-AdjectiveNode _ _ _ _ _ _ _ _ _ _ _ _ _ _ _ _ _ _ _ _ _ _ _ _ (AdjectiveNode-F.AdjectiveNode::Plain a b)

pub adjective_of-with_identifier : (a : Option Place) (b : Word) (c : Word) → adjective_of (adjectives.WithIdentifier a b c) ≡ WithIdentifierAdjective a b c
unfolding adjective_of base_of declared_of formula_of piece_of prefix_of quantified_of type_of unit_of conjunction_of operand_of term_of
adjective_of-with_identifier a b c = ap adjective_of (sym (adjectives.rolls-WithIdentifier a b c)) ∙ fold-roll-AdjectiveNode _ _ _ _ _ _ _ _ _ _ _ _ _ _ _ _ _ _ _ _ _ _ _ _ (AdjectiveNode-F.WithIdentifier a b c)

pub adjective_of-with_terms : (a : Option Place) (b : Place) (c : Chain Place TermNode) (d : Place) (e : Word) → adjective_of (adjectives.WithTerms a b c d e) ≡ WithTermsAdjective a b (terms_of c) d e
unfolding adjective_of base_of declared_of formula_of piece_of prefix_of quantified_of type_of unit_of conjunction_of operand_of term_of
adjective_of-with_terms a b c d e = ap adjective_of (sym (adjectives.rolls-WithTerms a b c d e)) ∙ fold-roll-AdjectiveNode _ _ _ _ _ _ _ _ _ _ _ _ _ _ _ _ _ _ _ _ _ _ _ _ (AdjectiveNode-F.WithTerms a b c d e)
    ∙ ap (λ x. WithTermsAdjective a b x d e) (terms_seen _ c (λ n. refl))

pub ruleset adjective_rules = (adjective_of-plain, adjective_of-with_identifier, adjective_of-with_terms)

pub base_of-identifier : (a : Word) → base_of (bases.Identifier a) ≡ IdentifierBase a
unfolding adjective_of base_of declared_of formula_of piece_of prefix_of quantified_of type_of unit_of conjunction_of operand_of term_of
base_of-identifier a = ap base_of (sym (bases.rolls-Identifier a)) ∙ fold-roll-BaseNode _ _ _ _ _ _ _ _ _ _ _ _ _ _ _ _ _ _ _ _ _ _ _ _ (BaseNode-F.Identifier a)

pub base_of-subject : (a : Place) → base_of (bases.Subject a) ≡ SubjectBase a
unfolding adjective_of base_of declared_of formula_of piece_of prefix_of quantified_of type_of unit_of conjunction_of operand_of term_of
base_of-subject a = ap base_of (sym (bases.rolls-Subject a)) ∙ fold-roll-BaseNode _ _ _ _ _ _ _ _ _ _ _ _ _ _ _ _ _ _ _ _ _ _ _ _ (BaseNode-F.Subject a)

pub base_of-argument : (a : Place) (b : ℕ) → base_of (bases.Argument a b) ≡ ArgumentBase a b
unfolding adjective_of base_of declared_of formula_of piece_of prefix_of quantified_of type_of unit_of conjunction_of operand_of term_of
base_of-argument a b = ap base_of (sym (bases.rolls-Argument a b)) ∙ fold-roll-BaseNode _ _ _ _ _ _ _ _ _ _ _ _ _ _ _ _ _ _ _ _ _ _ _ _ (BaseNode-F.Argument a b)

pub base_of-group : (a : Place) (b : Chain Place TermNode) (c : Place) → base_of (bases.Group a b c) ≡ GroupBase a (terms_of b) c
unfolding adjective_of base_of declared_of formula_of piece_of prefix_of quantified_of type_of unit_of conjunction_of operand_of term_of
base_of-group a b c = ap base_of (sym (bases.rolls-Group a b c)) ∙ fold-roll-BaseNode _ _ _ _ _ _ _ _ _ _ _ _ _ _ _ _ _ _ _ _ _ _ _ _ (BaseNode-F.BaseNode::Group a b c)
    ∙ ap (λ x. GroupBase a x c) (terms_seen _ b (λ n. refl))

pub base_of-call : (a : Word) (b : Place) (c : Place) → base_of (bases.Call a b c) ≡ CallBase a b c
unfolding adjective_of base_of declared_of formula_of piece_of prefix_of quantified_of type_of unit_of conjunction_of operand_of term_of
base_of-call a b c = ap base_of (sym (bases.rolls-Call a b c)) ∙ fold-roll-BaseNode _ _ _ _ _ _ _ _ _ _ _ _ _ _ _ _ _ _ _ _ _ _ _ _ (BaseNode-F.Call a b c)

pub base_of-call_with : (a : Word) (b : Place) (c : Chain Place TermNode) (d : Place) → base_of (bases.CallWith a b c d) ≡ CallWithBase a b (terms_of c) d
unfolding adjective_of base_of declared_of formula_of piece_of prefix_of quantified_of type_of unit_of conjunction_of operand_of term_of
base_of-call_with a b c d = ap base_of (sym (bases.rolls-CallWith a b c d)) ∙ fold-roll-BaseNode _ _ _ _ _ _ _ _ _ _ _ _ _ _ _ _ _ _ _ _ _ _ _ _ (BaseNode-F.CallWith a b c d)
    ∙ ap (λ x. CallWithBase a b x d) (terms_seen _ c (λ n. refl))

pub base_of-selector : (a : Place) (b : Word) → base_of (bases.Selector a b) ≡ SelectorBase a b
unfolding adjective_of base_of declared_of formula_of piece_of prefix_of quantified_of type_of unit_of conjunction_of operand_of term_of
base_of-selector a b = ap base_of (sym (bases.rolls-Selector a b)) ∙ fold-roll-BaseNode _ _ _ _ _ _ _ _ _ _ _ _ _ _ _ _ _ _ _ _ _ _ _ _ (BaseNode-F.BaseNode::Selector a b)

pub base_of-aggregate : (a : Word) (b : Place) (c : Chain Place TermNode) (d : Place) → base_of (bases.Aggregate a b c d) ≡ AggregateBase a b (terms_of c) d
unfolding adjective_of base_of declared_of formula_of piece_of prefix_of quantified_of type_of unit_of conjunction_of operand_of term_of
base_of-aggregate a b c d = ap base_of (sym (bases.rolls-Aggregate a b c d)) ∙ fold-roll-BaseNode _ _ _ _ _ _ _ _ _ _ _ _ _ _ _ _ _ _ _ _ _ _ _ _ (BaseNode-F.Aggregate a b c d)
    ∙ ap (λ x. AggregateBase a b x d) (terms_seen _ c (λ n. refl))

pub base_of-brackets : (a : Word) (b : Chain Place TermNode) (c : Word) → base_of (bases.Brackets a b c) ≡ BracketsBase a (terms_of b) c
unfolding adjective_of base_of declared_of formula_of piece_of prefix_of quantified_of type_of unit_of conjunction_of operand_of term_of
base_of-brackets a b c = ap base_of (sym (bases.rolls-Brackets a b c)) ∙ fold-roll-BaseNode _ _ _ _ _ _ _ _ _ _ _ _ _ _ _ _ _ _ _ _ _ _ _ _ (BaseNode-F.Brackets a b c)
    ∙ ap (λ x. BracketsBase a x c) (terms_seen _ b (λ n. refl))

pub base_of-braces : (a : Place) (b : Chain Place TermNode) (c : Place) → base_of (bases.Braces a b c) ≡ BracesBase a (terms_of b) c
unfolding adjective_of base_of declared_of formula_of piece_of prefix_of quantified_of type_of unit_of conjunction_of operand_of term_of
base_of-braces a b c = ap base_of (sym (bases.rolls-Braces a b c)) ∙ fold-roll-BaseNode _ _ _ _ _ _ _ _ _ _ _ _ _ _ _ _ _ _ _ _ _ _ _ _ (BaseNode-F.Braces a b c)
    ∙ ap (λ x. BracesBase a x c) (terms_seen _ b (λ n. refl))

pub base_of-squares : (a : Place) (b : Chain Place TermNode) (c : Place) → base_of (bases.Squares a b c) ≡ SquaresBase a (terms_of b) c
unfolding adjective_of base_of declared_of formula_of piece_of prefix_of quantified_of type_of unit_of conjunction_of operand_of term_of
base_of-squares a b c = ap base_of (sym (bases.rolls-Squares a b c)) ∙ fold-roll-BaseNode _ _ _ _ _ _ _ _ _ _ _ _ _ _ _ _ _ _ _ _ _ _ _ _ (BaseNode-F.Squares a b c)
    ∙ ap (λ x. SquaresBase a x c) (terms_seen _ b (λ n. refl))

pub base_of-set_of : (a : Place) (b : TermNode) (c : Place) (d : Word) (e : Place) (f : Box TypeNode Global) (g : Place) (h : Box FormulaNode Global) (i : Place) → base_of (bases.SetOf a b c d e f g h i) ≡ SetOfBase a (term_of b) c d e (type_of f.value) g (formula_of h.value) i
unfolding adjective_of base_of declared_of formula_of piece_of prefix_of quantified_of type_of unit_of conjunction_of operand_of term_of
base_of-set_of a b c d e f g h i = ap base_of (sym (bases.rolls-SetOf a b c d e f g h i)) ∙ fold-roll-BaseNode _ _ _ _ _ _ _ _ _ _ _ _ _ _ _ _ _ _ _ _ _ _ _ _ (BaseNode-F.SetOf a b c d e f g h i)

pub base_of-choice : (a : Place) (b : Vec AdjectiveNode Global) (c : Word) → base_of (bases.Choice a b c) ≡ ChoiceBase a (adjectives_of (map adjective_of b.items)) c
unfolding adjective_of base_of declared_of formula_of piece_of prefix_of quantified_of type_of unit_of conjunction_of operand_of term_of
base_of-choice a b c = ap base_of (sym (bases.rolls-Choice a b c)) ∙ fold-roll-BaseNode _ _ _ _ _ _ _ _ _ _ _ _ _ _ _ _ _ _ _ _ _ _ _ _ (BaseNode-F.Choice a b c)

pub base_of-choice_structure : (a : Place) (b : Vec AdjectiveNode Global) (c : Word) → base_of (bases.ChoiceStructure a b c) ≡ ChoiceStructureBase a (adjectives_of (map adjective_of b.items)) c
unfolding adjective_of base_of declared_of formula_of piece_of prefix_of quantified_of type_of unit_of conjunction_of operand_of term_of
base_of-choice_structure a b c = ap base_of (sym (bases.rolls-ChoiceStructure a b c)) ∙ fold-roll-BaseNode _ _ _ _ _ _ _ _ _ _ _ _ _ _ _ _ _ _ _ _ _ _ _ _ (BaseNode-F.ChoiceStructure a b c)

pub ruleset base_rules = (base_of-identifier, base_of-subject, base_of-argument, base_of-group, base_of-call, base_of-call_with, base_of-selector, base_of-aggregate, base_of-brackets, base_of-braces, base_of-squares, base_of-set_of, base_of-choice, base_of-choice_structure)

pub declared_of-plain : (a : Word) → declared_of (declareds.Plain a) ≡ PlainDeclared a
unfolding adjective_of base_of declared_of formula_of piece_of prefix_of quantified_of type_of unit_of conjunction_of operand_of term_of
declared_of-plain a = ap declared_of (sym (declareds.rolls-Plain a)) ∙ fold-roll-DeclaredNode _ _ _ _ _ _ _ _ _ _ _ _ _ _ _ _ _ _ _ _ _ _ _ _ (DeclaredNode-F.DeclaredNode::Plain a)

pub declared_of-typed : (a : Word) (b : Being) (c : Box TypeNode Global) → declared_of (declareds.Typed a b c) ≡ TypedDeclared a b (type_of c.value)
unfolding adjective_of base_of declared_of formula_of piece_of prefix_of quantified_of type_of unit_of conjunction_of operand_of term_of
declared_of-typed a b c = ap declared_of (sym (declareds.rolls-Typed a b c)) ∙ fold-roll-DeclaredNode _ _ _ _ _ _ _ _ _ _ _ _ _ _ _ _ _ _ _ _ _ _ _ _ (DeclaredNode-F.Typed a b c)

pub ruleset declared_rules = (declared_of-plain, declared_of-typed)

pub formula_of-plain : (a : Chain Place ConjunctionNode) → formula_of (formulas.Plain a) ≡ PlainFormula (disjunction_of a)
unfolding adjective_of base_of declared_of formula_of piece_of prefix_of quantified_of type_of unit_of conjunction_of operand_of term_of
formula_of-plain a = ap formula_of (sym (formulas.rolls-Plain a)) ∙ fold-roll-FormulaNode _ _ _ _ _ _ _ _ _ _ _ _ _ _ _ _ _ _ _ _ _ _ _ _ (FormulaNode-F.FormulaNode::Plain a)
    ∙ ap (λ x. PlainFormula x) (disjunction_seen _ a (λ n. refl))

pub formula_of-implies : (a : Chain Place ConjunctionNode) (b : Place) (c : Chain Place ConjunctionNode) → formula_of (formulas.Implies a b c) ≡ ImpliesFormula (disjunction_of a) b (disjunction_of c)
unfolding adjective_of base_of declared_of formula_of piece_of prefix_of quantified_of type_of unit_of conjunction_of operand_of term_of
formula_of-implies a b c = ap formula_of (sym (formulas.rolls-Implies a b c)) ∙ fold-roll-FormulaNode _ _ _ _ _ _ _ _ _ _ _ _ _ _ _ _ _ _ _ _ _ _ _ _ (FormulaNode-F.Implies a b c)
    ∙ ap2 (λ x y. ImpliesFormula x b y) (disjunction_seen _ a (λ n. refl)) (disjunction_seen _ c (λ n. refl))

pub formula_of-iff : (a : Chain Place ConjunctionNode) (b : Place) (c : Chain Place ConjunctionNode) → formula_of (formulas.Iff a b c) ≡ IffFormula (disjunction_of a) b (disjunction_of c)
unfolding adjective_of base_of declared_of formula_of piece_of prefix_of quantified_of type_of unit_of conjunction_of operand_of term_of
formula_of-iff a b c = ap formula_of (sym (formulas.rolls-Iff a b c)) ∙ fold-roll-FormulaNode _ _ _ _ _ _ _ _ _ _ _ _ _ _ _ _ _ _ _ _ _ _ _ _ (FormulaNode-F.Iff a b c)
    ∙ ap2 (λ x y. IffFormula x b y) (disjunction_seen _ a (λ n. refl)) (disjunction_seen _ c (λ n. refl))

pub ruleset formula_rules = (formula_of-plain, formula_of-implies, formula_of-iff)

pub piece_of-functor : (a : Word) (b : ℕ) → piece_of (pieces.Functor a b) ≡ FunctorPiece a b
unfolding adjective_of base_of declared_of formula_of piece_of prefix_of quantified_of type_of unit_of conjunction_of operand_of term_of
piece_of-functor a b = ap piece_of (sym (pieces.rolls-Functor a b)) ∙ fold-roll-PieceNode _ _ _ _ _ _ _ _ _ _ _ _ _ _ _ _ _ _ _ _ _ _ _ _ (PieceNode-F.Functor a b)

pub piece_of-operand : (a : OperandNode) → piece_of (pieces.Operand a) ≡ OperandPiece (operand_of a).prefixes (operand_of a).base
unfolding adjective_of base_of declared_of formula_of piece_of prefix_of quantified_of type_of unit_of conjunction_of operand_of term_of
piece_of-operand a = ap piece_of (sym (pieces.rolls-Operand a)) ∙ fold-roll-PieceNode _ _ _ _ _ _ _ _ _ _ _ _ _ _ _ _ _ _ _ _ _ _ _ _ (PieceNode-F.Operand a)

pub ruleset piece_rules = (piece_of-functor, piece_of-operand)

pub prefix_of-selector : (a : Place) (b : Word) (c : Place) → prefix_of (prefixs.Selector a b c) ≡ SelectorPrefix a b c
unfolding adjective_of base_of declared_of formula_of piece_of prefix_of quantified_of type_of unit_of conjunction_of operand_of term_of
prefix_of-selector a b c = ap prefix_of (sym (prefixs.rolls-Selector a b c)) ∙ fold-roll-PrefixNode _ _ _ _ _ _ _ _ _ _ _ _ _ _ _ _ _ _ _ _ _ _ _ _ (PrefixNode-F.PrefixNode::Selector a b c)

pub prefix_of-choice_of : (a : Place) (b : Vec AdjectiveNode Global) (c : Word) (d : Place) (e : Vec (Before OperandNode) Global) → prefix_of (prefixs.ChoiceOf a b c d e) ≡ ChoiceOfPrefix a (adjectives_of (map adjective_of b.items)) c d (befores_of (map before_of e.items))
unfolding adjective_of base_of declared_of formula_of piece_of prefix_of quantified_of type_of unit_of conjunction_of operand_of term_of
prefix_of-choice_of a b c d e = ap prefix_of (sym (prefixs.rolls-ChoiceOf a b c d e)) ∙ fold-roll-PrefixNode _ _ _ _ _ _ _ _ _ _ _ _ _ _ _ _ _ _ _ _ _ _ _ _ (PrefixNode-F.ChoiceOf a b c d e)
    ∙ ap (λ x. ChoiceOfPrefix a (adjectives_of (map adjective_of b.items)) c d (befores_of x)) (map_by before_view _ before_of e.items (λ n. refl))

pub prefix_of-choice_over : (a : Place) (b : Vec AdjectiveNode Global) (c : Word) (d : Place) (e : Vec (Before OperandNode) Global) → prefix_of (prefixs.ChoiceOver a b c d e) ≡ ChoiceOverPrefix a (adjectives_of (map adjective_of b.items)) c d (befores_of (map before_of e.items))
unfolding adjective_of base_of declared_of formula_of piece_of prefix_of quantified_of type_of unit_of conjunction_of operand_of term_of
prefix_of-choice_over a b c d e = ap prefix_of (sym (prefixs.rolls-ChoiceOver a b c d e)) ∙ fold-roll-PrefixNode _ _ _ _ _ _ _ _ _ _ _ _ _ _ _ _ _ _ _ _ _ _ _ _ (PrefixNode-F.ChoiceOver a b c d e)
    ∙ ap (λ x. ChoiceOverPrefix a (adjectives_of (map adjective_of b.items)) c d (befores_of x)) (map_by before_view _ before_of e.items (λ n. refl))

pub ruleset prefix_rules = (prefix_of-selector, prefix_of-choice_of, prefix_of-choice_over)

pub quantified_of-for : (a : Place) (b : Chain Comma DeclaredNode) (c : Place) (d : Box FormulaNode Global) → quantified_of (quantifieds.For a b c d) ≡ ForQuantified a (declared_of b.first) (next_declareds_of (map next_declared_of b.more.items)) c (formula_of d.value)
unfolding adjective_of base_of declared_of formula_of piece_of prefix_of quantified_of type_of unit_of conjunction_of operand_of term_of
quantified_of-for a b c d = ap quantified_of (sym (quantifieds.rolls-For a b c d)) ∙ fold-roll-QuantifiedNode _ _ _ _ _ _ _ _ _ _ _ _ _ _ _ _ _ _ _ _ _ _ _ _ (QuantifiedNode-F.For a b c d)
    ∙ ap (λ x. ForQuantified a (declared_of b.first) (next_declareds_of x) c (formula_of d.value)) (map_by next_declared_view _ next_declared_of b.more.items (λ n. refl))

pub quantified_of-for_such : (a : Place) (b : Chain Comma DeclaredNode) (c : Place) (d : Box FormulaNode Global) (e : Place) (f : Box FormulaNode Global) → quantified_of (quantifieds.ForSuch a b c d e f) ≡ ForSuchQuantified a (declared_of b.first) (next_declareds_of (map next_declared_of b.more.items)) c (formula_of d.value) e (formula_of f.value)
unfolding adjective_of base_of declared_of formula_of piece_of prefix_of quantified_of type_of unit_of conjunction_of operand_of term_of
quantified_of-for_such a b c d e f = ap quantified_of (sym (quantifieds.rolls-ForSuch a b c d e f)) ∙ fold-roll-QuantifiedNode _ _ _ _ _ _ _ _ _ _ _ _ _ _ _ _ _ _ _ _ _ _ _ _ (QuantifiedNode-F.ForSuch a b c d e f)
    ∙ ap (λ x. ForSuchQuantified a (declared_of b.first) (next_declareds_of x) c (formula_of d.value) e (formula_of f.value)) (map_by next_declared_view _ next_declared_of b.more.items (λ n. refl))

pub quantified_of-for_further : (a : Place) (b : Chain Comma DeclaredNode) (c : Box QuantifiedNode Global) → quantified_of (quantifieds.ForFurther a b c) ≡ ForFurtherQuantified a (declared_of b.first) (next_declareds_of (map next_declared_of b.more.items)) (quantified_of c.value)
unfolding adjective_of base_of declared_of formula_of piece_of prefix_of quantified_of type_of unit_of conjunction_of operand_of term_of
quantified_of-for_further a b c = ap quantified_of (sym (quantifieds.rolls-ForFurther a b c)) ∙ fold-roll-QuantifiedNode _ _ _ _ _ _ _ _ _ _ _ _ _ _ _ _ _ _ _ _ _ _ _ _ (QuantifiedNode-F.ForFurther a b c)
    ∙ ap (λ x. ForFurtherQuantified a (declared_of b.first) (next_declareds_of x) (quantified_of c.value)) (map_by next_declared_view _ next_declared_of b.more.items (λ n. refl))

pub quantified_of-for_such_further : (a : Place) (b : Chain Comma DeclaredNode) (c : Place) (d : Box FormulaNode Global) (e : Box QuantifiedNode Global) → quantified_of (quantifieds.ForSuchFurther a b c d e) ≡ ForSuchFurtherQuantified a (declared_of b.first) (next_declareds_of (map next_declared_of b.more.items)) c (formula_of d.value) (quantified_of e.value)
unfolding adjective_of base_of declared_of formula_of piece_of prefix_of quantified_of type_of unit_of conjunction_of operand_of term_of
quantified_of-for_such_further a b c d e = ap quantified_of (sym (quantifieds.rolls-ForSuchFurther a b c d e)) ∙ fold-roll-QuantifiedNode _ _ _ _ _ _ _ _ _ _ _ _ _ _ _ _ _ _ _ _ _ _ _ _ (QuantifiedNode-F.ForSuchFurther a b c d e)
    ∙ ap (λ x. ForSuchFurtherQuantified a (declared_of b.first) (next_declareds_of x) c (formula_of d.value) (quantified_of e.value)) (map_by next_declared_view _ next_declared_of b.more.items (λ n. refl))

pub quantified_of-exists : (a : Place) (b : Chain Comma DeclaredNode) (c : Place) (d : Box FormulaNode Global) → quantified_of (quantifieds.Exists a b c d) ≡ ExistsQuantified a (declared_of b.first) (next_declareds_of (map next_declared_of b.more.items)) c (formula_of d.value)
unfolding adjective_of base_of declared_of formula_of piece_of prefix_of quantified_of type_of unit_of conjunction_of operand_of term_of
quantified_of-exists a b c d = ap quantified_of (sym (quantifieds.rolls-Exists a b c d)) ∙ fold-roll-QuantifiedNode _ _ _ _ _ _ _ _ _ _ _ _ _ _ _ _ _ _ _ _ _ _ _ _ (QuantifiedNode-F.Exists a b c d)
    ∙ ap (λ x. ExistsQuantified a (declared_of b.first) (next_declareds_of x) c (formula_of d.value)) (map_by next_declared_view _ next_declared_of b.more.items (λ n. refl))

pub ruleset quantified_rules = (quantified_of-for, quantified_of-for_such, quantified_of-for_further, quantified_of-for_such_further, quantified_of-exists)

pub type_of-mode : (a : Vec AdjectiveNode Global) (b : Word) → type_of (types.Mode a b) ≡ ModeType (adjectives_of (map adjective_of a.items)) b
unfolding adjective_of base_of declared_of formula_of piece_of prefix_of quantified_of type_of unit_of conjunction_of operand_of term_of
type_of-mode a b = ap type_of (sym (types.rolls-Mode a b)) ∙ fold-roll-TypeNode _ _ _ _ _ _ _ _ _ _ _ _ _ _ _ _ _ _ _ _ _ _ _ _ (TypeNode-F.Mode a b)

pub type_of-mode_of : (a : Vec AdjectiveNode Global) (b : Word) (c : Place) (d : Chain Place TermNode) → type_of (types.ModeOf a b c d) ≡ ModeOfType (adjectives_of (map adjective_of a.items)) b c (terms_of d)
unfolding adjective_of base_of declared_of formula_of piece_of prefix_of quantified_of type_of unit_of conjunction_of operand_of term_of
type_of-mode_of a b c d = ap type_of (sym (types.rolls-ModeOf a b c d)) ∙ fold-roll-TypeNode _ _ _ _ _ _ _ _ _ _ _ _ _ _ _ _ _ _ _ _ _ _ _ _ (TypeNode-F.ModeOf a b c d)
    ∙ ap (λ x. ModeOfType (adjectives_of (map adjective_of a.items)) b c x) (terms_seen _ d (λ n. refl))

pub type_of-structure : (a : Vec AdjectiveNode Global) (b : Word) → type_of (types.Structure a b) ≡ StructureType (adjectives_of (map adjective_of a.items)) b
unfolding adjective_of base_of declared_of formula_of piece_of prefix_of quantified_of type_of unit_of conjunction_of operand_of term_of
type_of-structure a b = ap type_of (sym (types.rolls-Structure a b)) ∙ fold-roll-TypeNode _ _ _ _ _ _ _ _ _ _ _ _ _ _ _ _ _ _ _ _ _ _ _ _ (TypeNode-F.Structure a b)

pub type_of-structure_over : (a : Vec AdjectiveNode Global) (b : Word) (c : Place) (d : Chain Place TermNode) → type_of (types.StructureOver a b c d) ≡ StructureOverType (adjectives_of (map adjective_of a.items)) b c (terms_of d)
unfolding adjective_of base_of declared_of formula_of piece_of prefix_of quantified_of type_of unit_of conjunction_of operand_of term_of
type_of-structure_over a b c d = ap type_of (sym (types.rolls-StructureOver a b c d)) ∙ fold-roll-TypeNode _ _ _ _ _ _ _ _ _ _ _ _ _ _ _ _ _ _ _ _ _ _ _ _ (TypeNode-F.StructureOver a b c d)
    ∙ ap (λ x. StructureOverType (adjectives_of (map adjective_of a.items)) b c x) (terms_seen _ d (λ n. refl))

pub ruleset type_rules = (type_of-mode, type_of-mode_of, type_of-structure, type_of-structure_over)

pub unit_of-not : (a : Place) (b : Box UnitNode Global) → unit_of (units.Not a b) ≡ NotUnit a (unit_of b.value)
unfolding adjective_of base_of declared_of formula_of piece_of prefix_of quantified_of type_of unit_of conjunction_of operand_of term_of
unit_of-not a b = ap unit_of (sym (units.rolls-Not a b)) ∙ fold-roll-UnitNode _ _ _ _ _ _ _ _ _ _ _ _ _ _ _ _ _ _ _ _ _ _ _ _ (UnitNode-F.Not a b)

pub unit_of-contradiction : (a : Place) → unit_of (units.Contradiction a) ≡ ContradictionUnit a
unfolding adjective_of base_of declared_of formula_of piece_of prefix_of quantified_of type_of unit_of conjunction_of operand_of term_of
unit_of-contradiction a = ap unit_of (sym (units.rolls-Contradiction a)) ∙ fold-roll-UnitNode _ _ _ _ _ _ _ _ _ _ _ _ _ _ _ _ _ _ _ _ _ _ _ _ (UnitNode-F.Contradiction a)

pub unit_of-thesis : (a : Place) → unit_of (units.Thesis a) ≡ ThesisUnit a
unfolding adjective_of base_of declared_of formula_of piece_of prefix_of quantified_of type_of unit_of conjunction_of operand_of term_of
unit_of-thesis a = ap unit_of (sym (units.rolls-Thesis a)) ∙ fold-roll-UnitNode _ _ _ _ _ _ _ _ _ _ _ _ _ _ _ _ _ _ _ _ _ _ _ _ (UnitNode-F.Thesis a)

pub unit_of-quantified : (a : Box QuantifiedNode Global) → unit_of (units.Quantified a) ≡ QuantifiedUnit (quantified_of a.value)
unfolding adjective_of base_of declared_of formula_of piece_of prefix_of quantified_of type_of unit_of conjunction_of operand_of term_of
unit_of-quantified a = ap unit_of (sym (units.rolls-Quantified a)) ∙ fold-roll-UnitNode _ _ _ _ _ _ _ _ _ _ _ _ _ _ _ _ _ _ _ _ _ _ _ _ (UnitNode-F.Quantified a)

pub unit_of-group : (a : Place) (b : Box FormulaNode Global) (c : Place) → unit_of (units.Group a b c) ≡ GroupUnit a (formula_of b.value) c
unfolding adjective_of base_of declared_of formula_of piece_of prefix_of quantified_of type_of unit_of conjunction_of operand_of term_of
unit_of-group a b c = ap unit_of (sym (units.rolls-Group a b c)) ∙ fold-roll-UnitNode _ _ _ _ _ _ _ _ _ _ _ _ _ _ _ _ _ _ _ _ _ _ _ _ (UnitNode-F.UnitNode::Group a b c)

pub unit_of-private : (a : Word) (b : Place) (c : Place) → unit_of (units.Private a b c) ≡ PrivateUnit a b c
unfolding adjective_of base_of declared_of formula_of piece_of prefix_of quantified_of type_of unit_of conjunction_of operand_of term_of
unit_of-private a b c = ap unit_of (sym (units.rolls-Private a b c)) ∙ fold-roll-UnitNode _ _ _ _ _ _ _ _ _ _ _ _ _ _ _ _ _ _ _ _ _ _ _ _ (UnitNode-F.Private a b c)

pub unit_of-private_with : (a : Word) (b : Place) (c : Chain Place TermNode) (d : Place) → unit_of (units.PrivateWith a b c d) ≡ PrivateWithUnit a b (terms_of c) d
unfolding adjective_of base_of declared_of formula_of piece_of prefix_of quantified_of type_of unit_of conjunction_of operand_of term_of
unit_of-private_with a b c d = ap unit_of (sym (units.rolls-PrivateWith a b c d)) ∙ fold-roll-UnitNode _ _ _ _ _ _ _ _ _ _ _ _ _ _ _ _ _ _ _ _ _ _ _ _ (UnitNode-F.PrivateWith a b c d)
    ∙ ap (λ x. PrivateWithUnit a b x d) (terms_seen _ c (λ n. refl))

pub unit_of-predicate : (a : Word) → unit_of (units.Predicate a) ≡ PredicateUnit a
unfolding adjective_of base_of declared_of formula_of piece_of prefix_of quantified_of type_of unit_of conjunction_of operand_of term_of
unit_of-predicate a = ap unit_of (sym (units.rolls-Predicate a)) ∙ fold-roll-UnitNode _ _ _ _ _ _ _ _ _ _ _ _ _ _ _ _ _ _ _ _ _ _ _ _ (UnitNode-F.Predicate a)

pub unit_of-predicate_right : (a : Word) (b : Chain Place TermNode) → unit_of (units.PredicateRight a b) ≡ PredicateRightUnit a (terms_of b)
unfolding adjective_of base_of declared_of formula_of piece_of prefix_of quantified_of type_of unit_of conjunction_of operand_of term_of
unit_of-predicate_right a b = ap unit_of (sym (units.rolls-PredicateRight a b)) ∙ fold-roll-UnitNode _ _ _ _ _ _ _ _ _ _ _ _ _ _ _ _ _ _ _ _ _ _ _ _ (UnitNode-F.PredicateRight a b)
    ∙ ap (λ x. PredicateRightUnit a x) (terms_seen _ b (λ n. refl))

pub unit_of-predicate_left : (a : Chain Place TermNode) (b : Word) → unit_of (units.PredicateLeft a b) ≡ PredicateLeftUnit (terms_of a) b
unfolding adjective_of base_of declared_of formula_of piece_of prefix_of quantified_of type_of unit_of conjunction_of operand_of term_of
unit_of-predicate_left a b = ap unit_of (sym (units.rolls-PredicateLeft a b)) ∙ fold-roll-UnitNode _ _ _ _ _ _ _ _ _ _ _ _ _ _ _ _ _ _ _ _ _ _ _ _ (UnitNode-F.PredicateLeft a b)
    ∙ ap (λ x. PredicateLeftUnit x b) (terms_seen _ a (λ n. refl))

pub unit_of-predicate_both : (a : Chain Place TermNode) (b : Word) (c : Chain Place TermNode) → unit_of (units.PredicateBoth a b c) ≡ PredicateBothUnit (terms_of a) b (terms_of c)
unfolding adjective_of base_of declared_of formula_of piece_of prefix_of quantified_of type_of unit_of conjunction_of operand_of term_of
unit_of-predicate_both a b c = ap unit_of (sym (units.rolls-PredicateBoth a b c)) ∙ fold-roll-UnitNode _ _ _ _ _ _ _ _ _ _ _ _ _ _ _ _ _ _ _ _ _ _ _ _ (UnitNode-F.PredicateBoth a b c)
    ∙ ap2 (λ x y. PredicateBothUnit x b y) (terms_seen _ a (λ n. refl)) (terms_seen _ c (λ n. refl))

pub unit_of-is_type : (a : TermNode) (b : Place) (c : Box TypeNode Global) → unit_of (units.IsType a b c) ≡ IsTypeUnit (term_of a) b (type_of c.value)
unfolding adjective_of base_of declared_of formula_of piece_of prefix_of quantified_of type_of unit_of conjunction_of operand_of term_of
unit_of-is_type a b c = ap unit_of (sym (units.rolls-IsType a b c)) ∙ fold-roll-UnitNode _ _ _ _ _ _ _ _ _ _ _ _ _ _ _ _ _ _ _ _ _ _ _ _ (UnitNode-F.IsType a b c)

pub unit_of-is_adjectives : (a : TermNode) (b : Place) (c : AdjectiveNode) (d : Vec AdjectiveNode Global) → unit_of (units.IsAdjectives a b c d) ≡ IsAdjectivesUnit (term_of a) b (adjective_of c) (adjectives_of (map adjective_of d.items))
unfolding adjective_of base_of declared_of formula_of piece_of prefix_of quantified_of type_of unit_of conjunction_of operand_of term_of
unit_of-is_adjectives a b c d = ap unit_of (sym (units.rolls-IsAdjectives a b c d)) ∙ fold-roll-UnitNode _ _ _ _ _ _ _ _ _ _ _ _ _ _ _ _ _ _ _ _ _ _ _ _ (UnitNode-F.IsAdjectives a b c d)

pub ruleset unit_rules = (unit_of-not, unit_of-contradiction, unit_of-thesis, unit_of-quantified, unit_of-group, unit_of-private, unit_of-private_with, unit_of-predicate, unit_of-predicate_right, unit_of-predicate_left, unit_of-predicate_both, unit_of-is_type, unit_of-is_adjectives)

pub term_of-is : (t : TermNode) → term_of t ≡ RunTerm (piece_of t.first) (pieces_of (map piece_of t.more.items))
unfolding adjective_of base_of declared_of formula_of piece_of prefix_of quantified_of type_of unit_of conjunction_of operand_of term_of
term_of-is t = fold_out-TermNode _ _ _ _ _ _ _ _ _ _ _ _ _ _ _ _ _ _ _ _ _ _ _ _ t

pub term_same : (t u : TermNode) → piece_of t.first ≡ piece_of u.first → map piece_of t.more.items ≡ map piece_of u.more.items → term_of t ≡ term_of u
term_same t u e f = term_of-is t ∙ (ap2 (λ p ps. RunTerm p (pieces_of ps)) e f ∙ sym (term_of-is u))

pub operand_of-is : (t : OperandNode) → operand_of t ≡ record { prefixes = prefixs_of (map prefix_of t.prefixes.items); base = base_of t.base.value }
unfolding adjective_of base_of declared_of formula_of piece_of prefix_of quantified_of type_of unit_of conjunction_of operand_of term_of
operand_of-is t = fold_out-OperandNode _ _ _ _ _ _ _ _ _ _ _ _ _ _ _ _ _ _ _ _ _ _ _ _ t

pub operand_same : (t u : OperandNode) → map prefix_of t.prefixes.items ≡ map prefix_of u.prefixes.items → base_of t.base.value ≡ base_of u.base.value → operand_of t ≡ operand_of u
operand_same t u e f = operand_of-is t ∙ (ap2 {Z = OperandData} (λ ps b. record { prefixes = prefixs_of ps; base = b }) e f ∙ sym (operand_of-is u))

pub conjunction_of-is : (t : ConjunctionNode) → conjunction_of t ≡ ChainConjunction (unit_of t.first.value) (next_units_of (map next_unit_of t.more.items))
unfolding adjective_of base_of declared_of formula_of piece_of prefix_of quantified_of type_of unit_of conjunction_of operand_of term_of
conjunction_of-is t = fold_out-ConjunctionNode _ _ _ _ _ _ _ _ _ _ _ _ _ _ _ _ _ _ _ _ _ _ _ _ t ∙ ap (λ us. ChainConjunction (unit_of t.first.value) (next_units_of us)) (map_by next_unit_view _ next_unit_of t.more.items (λ n. refl))

pub conjunction_same : (t u : ConjunctionNode) → unit_of t.first.value ≡ unit_of u.first.value → map next_unit_of t.more.items ≡ map next_unit_of u.more.items → conjunction_of t ≡ conjunction_of u
conjunction_same t u e f = conjunction_of-is t ∙ (ap2 (λ v us. ChainConjunction v (next_units_of us)) e f ∙ sym (conjunction_of-is u))
