-- Two parts of items that spell the same tokens are equal.
use Rattle.std.specs.Prelude.{codes}
use Rattle.std.proofs.Common.{◌≡◌, ℕ, zero, suc, true, false, List, [], ◌∷◌, arith, refl, sym, ap, ◌∙◌, Option, Some, None}
use Rattle.mz_base.specs.declared.place.Place.{Place}
use Rattle.mz_base.specs.declared.token.MarkedToken.{MarkedToken}
use Rattle.mz_forms.specs.Form.{nested, nothing, then}
use Rattle.mz_forms.proofs.Compose.{head_of}
use Rattle.mz_forms.proofs.Leads.{apart_closed}
use Rattle.mz_forms.proofs.One.{One, OneAt, at_as, at_by, at_token, one_as, one_class, one_from, one_nested, one_nothing, one_then, one_zero}
use Rattle.mz_tree.specs.Rules.{IfAny, ends_in_terms}
use Rattle.mz_tree.specs.Trees.{TypeData}
use Rattle.mz_tree.specs.declared.lists.Separated.{Separated}
use Rattle.mz_tree.specs.declared.word.Word.{Word}
use Rattle.mz_tree_heading.specs.Rules.{field_ends_in_terms}
use Rattle.mz_tree_part.specs.Rules.{parameter_ends_in_terms, segment_ends_in_terms}
use Rattle.mz_tree_part.specs.Spell.{spell_notation_part}
use Rattle.mz_tree_part.specs.declared.notation.NotationPartTree.{NotationPartTree}
use Rattle.mz_tree_part.specs.declared.notation.NotationPartTree.TheVariants as notation_parts
use Rattle.mz_tree_proof.specs.Rules.{AreTypes}
use Rattle.mz_pterm.specs.Classes.{closes}
use Rattle.mz_pterm.specs.Words.{fixed, is_fixed, is_named, name, named, word}
use Rattle.mz_pterm.specs.declared.sign.Sign.{Sign}
use Rattle.mz_pterm.specs.declared.sign.Sign.TheVariants as signs
use Rattle.mz_pterm.proofs.Signs.{same_fixed, same_named}
use Rattle.mz_ptype.specs.Forms.{declarations_form, goes_on_declared, whole_type}
use Rattle.mz_ptype.proofs.Unique.{declarations_one, type_one}
use Rattle.mz_pjustification.specs.Words.{keyword}
use Rattle.mz_pjustification.specs.declared.keyword.Keyword.TheVariants as keywords
use Rattle.mz_pproposition.proofs.Unique.{keys}
use Rattle.mz_pstep.specs.Forms.{spell_closing, types_form}
use Rattle.mz_pstep.proofs.Closings as closings
use Rattle.mz_pstep.proofs.DividedLists.{list_one}
use Rattle.mz_pstep.proofs.ListSteps.{linked_types}
use Rattle.mz_ppattern.specs.Forms.{identifiers_form, pattern_form, selectors_form}
use Rattle.mz_ppattern.specs.Words.{arrow_form, arrow_token, word_form, word_token}
use Rattle.mz_ppattern.proofs.NameSteps.{identifiers_one, selectors_one}
use Rattle.mz_ppattern.proofs.OptionalSteps.{one_optional}
use Rattle.mz_ppattern.proofs.Unique.{pattern_one}
use Rattle.mz_ppattern.proofs.WordSteps.{arrow_same, word_same}
use Rattle.mz_ppart.specs.Classes.{begins_ancestors, begins_let, begins_notation_part, begins_structure_loci, opens_square}
use Rattle.mz_ppart.specs.Forms.{article_names_form, block_let_form, closing_form, directive_form, directive_word_form, notation_form, notation_part_form, notation_parts_form, notation_word_form, parameter_form, parameters_form, reserve_form, segment_form, segments_form, synonym_form}
use Rattle.mz_ppart.specs.StructureForms.{ancestors_form, field_form, fields_form, optional_ancestors, optional_structure_loci, structure_form, structure_loci_form}
use Rattle.mz_ppart.proofs.DirectiveSteps.{article_names_one, directive_word_one, notation_word_one}
use Rattle.mz_ppart.proofs.FieldSteps.{linked_fields}
use Rattle.mz_ppart.proofs.ListedSteps.{listed_one}
use Rattle.mz_ppart.proofs.NotationSteps.{as_let, as_synonym, let_own, not_let, put_let, put_synonym, repeats_parts}
use Rattle.mz_ppart.proofs.PartSequences as sequences
use Rattle.mz_ppart.proofs.ReserveSteps.{Kind, as_functor, as_parameter, as_predicate, functor_kind, functor_kind_2, kind_apart, kind_form, linked_parameters, linked_segments, make_parameter, of_functor, of_predicate, only_parameter, parts_of_parameter, predicate_kind, put_functor, put_predicate, round_out, spell_kind, square_in}
use Rattle.mz_ppart.proofs.StructureSequences as structures
use Rattle.mz_ppart.proofs.StructureSequences.{starts_ancestors, starts_structure_loci}

words : (n : ℕ) (s : Sign) → is_fixed s ≡ true → One n (word s)
words n s h = one_class n Place (fixed s) (same_fixed s h)

names : (n : ℕ) (s : Sign) → is_named s ≡ true → One n (name s)
names n s h = one_class n Word (named s) (same_named s h)

word_one : (n : ℕ) (w : List ℕ) → One n (word_form w)
word_one n w = one_class n Place (word_token w) (word_same w)

arrow_one : (n : ℕ) → One n arrow_form
arrow_one n = one_class n Place arrow_token arrow_same

-- Directives, and `reserve`.
pub directive_one : (n : ℕ) → One n directive_form
directive_one n = one_as n directive_form sequences.directive_1 sequences.make_directive sequences.only_directive (λ s is. (sequences.as_directive []).spells s is) (λ s t is g. (sequences.as_directive []).goes s t is g)
    (one_then n n directive_word_form (λ _. sequences.directive_2) sequences.directive_apart_1 (directive_word_one n) (λ a. one_then n n article_names_form (λ _. sequences.directive_3) sequences.directive_apart_2 (article_names_one n) (λ a. keys n keywords.Semicolon refl) (λ a l isa h. omega (arith, h))) (λ a l isa h. omega (arith, h)))

pub segment_one : (n : ℕ) → One n segment_form
segment_one n = one_as n segment_form sequences.segment_1 sequences.make_segment sequences.only_segment (λ s is. (sequences.as_segment []).spells s is) (λ s t is g. (sequences.as_segment []).goes s t is g)
    (one_then n n identifiers_form (λ _. sequences.segment_2) sequences.segment_apart_1 (identifiers_one n) (λ a. one_then n n (word signs.For) (λ _. sequences.segment_3) sequences.segment_apart_2 (words n signs.For refl) (λ a. type_one false n) (λ a l isa h. omega (arith, h))) (λ a l isa h. omega (arith, h)))

segments_one : (n : ℕ) → One n segments_form
segments_one n = list_one segment_form segment_ends_in_terms goes_on_declared linked_segments segment_one n

pub reserve_one : (n : ℕ) → One n reserve_form
reserve_one n = one_as n reserve_form sequences.reserve_1 sequences.make_reserve sequences.only_reserve (λ s is. (sequences.as_reserve []).spells s is) (λ s t is g. (sequences.as_reserve []).goes s t is g)
    (one_then n n (word_form (codes "reserve")) (λ _. sequences.reserve_2) sequences.reserve_apart_1 (word_one n (codes "reserve")) (λ a. one_then n n segments_form (λ _. sequences.reserve_3) sequences.reserve_apart_2 (segments_one n) (λ a. keys n keywords.Semicolon refl) (λ a l isa h. omega (arith, h))) (λ a l isa h. omega (arith, h)))

-- Notations.
pub block_let_one : (n : ℕ) → One n block_let_form
block_let_one n = one_as n block_let_form sequences.block_let_1 sequences.make_block_let sequences.only_block_let (λ s is. (sequences.as_block_let []).spells s is) (λ s t is g. (sequences.as_block_let []).goes s t is g)
    (one_then n n (keyword keywords.Let) (λ _. sequences.block_let_2) sequences.block_let_apart_1 (keys n keywords.Let refl) (λ a. one_then n n (declarations_form false) (λ _. sequences.block_let_3) sequences.block_let_apart_2 (declarations_one false n) (λ a. keys n keywords.Semicolon refl) (λ a l isa h. omega (arith, h))) (λ a l isa h. omega (arith, h)))

pub synonym_one : (n : ℕ) → One n synonym_form
synonym_one n = one_as n synonym_form sequences.synonym_1 sequences.make_synonym sequences.only_synonym (λ s is. (sequences.as_synonym []).spells s is) (λ s t is g. (sequences.as_synonym []).goes s t is g)
    (one_then n n notation_word_form (λ _. sequences.synonym_2) sequences.synonym_apart_1 (notation_word_one n) (λ a. one_then n n pattern_form (λ _. sequences.synonym_3) sequences.synonym_apart_2 (pattern_one n) (λ a. one_then n n (word signs.For) (λ _. sequences.synonym_4) sequences.synonym_apart_3 (words n signs.For refl) (λ a. one_then n n pattern_form (λ _. sequences.synonym_5) sequences.synonym_apart_4 (pattern_one n) (λ a. keys n keywords.Semicolon refl) (λ a l isa h. omega (arith, h))) (λ a l isa h. omega (arith, h))) (λ a l isa h. omega (arith, h))) (λ a l isa h. omega (arith, h)))

part_at : (n : ℕ) (x : NotationPartTree) (tok : MarkedToken) (m : List MarkedToken) → spell_notation_part x ≡ tok ∷ m → OneAt n notation_part_form tok
part_at n (notation_parts.Let a) tok m e = at_as n notation_part_form block_let_form put_let tok (as_let (tok ∷ []) (ap begins_let (sym (head_of _ _ _ _ e)) ∙ let_own a.let_)) (block_let_one n)
part_at n (notation_parts.Notation p w a q c r) tok m e = at_as n notation_part_form synonym_form put_synonym tok (as_synonym (tok ∷ []) (ap begins_let (sym (head_of _ _ _ _ e)) ∙ not_let w p)) (synonym_one n)

notation_part_one : (n : ℕ) → One n notation_part_form
notation_part_one n = one_from n notation_part_form (λ a b isa isb ea eb. absurd (repeats_parts.filled a isa ea)) (λ a b tok m isa isb ea eb. absurd (repeats_parts.filled a isa ea)) (λ a tok m isa e. part_at n a tok m e)

notation_parts_one : (n : ℕ) → One n notation_parts_form
notation_parts_one n = listed_one notation_part_form begins_notation_part begins_notation_part repeats_parts notation_part_one n

pub notation_one : (n : ℕ) → One n notation_form
notation_one n = one_as n notation_form sequences.notation_1 sequences.make_notation sequences.only_notation (λ s is. (sequences.as_notation []).spells s is) (λ s t is g. (sequences.as_notation []).goes s t is g)
    (one_then n n (word_form (codes "notation")) (λ _. sequences.notation_2) sequences.notation_apart_1 (word_one n (codes "notation")) (λ a. one_then n n notation_parts_form (λ _. sequences.notation_3) sequences.notation_apart_2 (notation_parts_one n) (λ a. one_then n n (keyword keywords.End) (λ _. sequences.notation_4) sequences.notation_apart_3 (keys n keywords.End refl) (λ a. keys n keywords.Semicolon refl) (λ a l isa h. omega (arith, h))) (λ a l isa h. omega (arith, h))) (λ a l isa h. omega (arith, h)))

-- Structures.
types_one : (n : ℕ) → One n types_form
types_one n = list_one (whole_type false) ends_in_terms goes_on_declared linked_types (type_one false) n

-- Types or nothing, and the bracket that closes.
closing_at : (c : Sign) → closes c ≡ true → (n : ℕ) (o : Option (Separated TypeData)) (q : Place) (tok : MarkedToken) (m : List MarkedToken) → IfAny AreTypes o → spell_closing c (o, q) ≡ tok ∷ m → OneAt (suc n) (closing_form c) tok
closing_at c closed n None q tok m is e = at_token (suc n) (closing_form c) (fixed c q) tok (head_of _ _ _ _ e) (at_by n (closing_form c) (fixed c q) nothing (λ _. (None, q)) 0 (closings.by_close c closed q) (one_nothing n))
closing_at c closed n (Some s) q tok m is e = at_as (suc n) (closing_form c) (closings.some_closing c closed) (closings.make_closing c closed) tok
    (closings.as_types c closed (tok ∷ []) (λ p g. closings.types_not_closed c closed s p q m is (e ∙ ap (λ z. z ∷ m) (sym g))))
    (one_then (suc n) (suc n) (nested types_form) (λ _. word c) (closings.types_apart c closed) (one_nested (suc n) types_form (types_one (suc n))) (λ a. words (suc n) c (closings.closes_fixed c closed)) (λ a l isa h. omega (arith, h)))

closing_one : (c : Sign) → closes c ≡ true → (n : ℕ) → One n (closing_form c)
closing_one c closed zero = one_zero (closing_form c)
closing_one c closed (suc n) = one_from (suc n) (closing_form c) (λ a b isa isb ea eb. absurd (closings.closing_filled c closed a ea)) (λ a b tok m isa isb ea eb. absurd (closings.closing_filled c closed a ea)) (λ a tok m isa e. closing_at c closed n a.0 a.1 tok m isa e)

-- Parameters of schemes.
predicate_one : (n : ℕ) → One n predicate_kind
predicate_one n = one_then n n (nested (word signs.OpenSquare)) (λ _. closing_form signs.CloseSquare) (apart_closed (nested (word signs.OpenSquare)) (λ _. closing_form signs.CloseSquare) (λ a t. refl)) (words n signs.OpenSquare refl) (λ a. closing_one signs.CloseSquare refl n) (λ a l isa h. omega (arith, h))

functor_one : (n : ℕ) → One n functor_kind
functor_one n = one_then n n (nested (word signs.Open)) (λ _. functor_kind_2) (apart_closed (nested (word signs.Open)) (λ _. functor_kind_2) (λ a t. refl)) (words n signs.Open refl)
    (λ a. one_then n n (closing_form signs.Close) (λ _. then arrow_form (λ _. whole_type false)) (apart_closed (closing_form signs.Close) (λ _. then arrow_form (λ _. whole_type false)) (λ a t. refl)) (closing_one signs.Close refl n)
    (λ a. one_then n n arrow_form (λ _. whole_type false) (apart_closed arrow_form (λ _. whole_type false) (λ a t. refl)) (arrow_one n) (λ a. type_one false n) (λ a l isa h. omega (arith, h))) (λ a l isa h. omega (arith, h))) (λ a l isa h. omega (arith, h))

kind_at : (n : ℕ) (x : Kind) (tok : MarkedToken) (m : List MarkedToken) → spell_kind x ≡ tok ∷ m → OneAt n kind_form tok
kind_at n (of_predicate p k) tok m e = at_as n kind_form predicate_kind put_predicate tok (as_predicate (tok ∷ []) (ap opens_square (sym (head_of _ _ _ _ e)) ∙ square_in p)) (predicate_one n)
kind_at n (of_functor p k) tok m e = at_as n kind_form functor_kind put_functor tok (as_functor (tok ∷ []) (ap opens_square (sym (head_of _ _ _ _ e)) ∙ round_out p)) (functor_one n)

kind_filled : (x : Kind) → spell_kind x ≡ [] → ⊥
kind_filled (of_predicate p k) e = cc
kind_filled (of_functor p k) e = cc

kind_one : (n : ℕ) → One n kind_form
kind_one n = one_from n kind_form (λ a b isa isb ea eb. absurd (kind_filled a ea)) (λ a b tok m isa isb ea eb. absurd (kind_filled a ea)) (λ a tok m isa e. kind_at n a tok m e)

pub parameter_one : (n : ℕ) → One n parameter_form
parameter_one n = one_as n parameter_form parts_of_parameter make_parameter only_parameter (λ s is. (as_parameter []).spells s is) (λ s t is g. (as_parameter []).goes s t is g)
    (one_then n n identifiers_form (λ _. kind_form) kind_apart (identifiers_one n) (λ a. kind_one n) (λ a l isa h. omega (arith, h)))

pub parameters_one : (n : ℕ) → One n parameters_form
parameters_one n = list_one parameter_form parameter_ends_in_terms goes_on_declared linked_parameters parameter_one n

pub field_one : (n : ℕ) → One n field_form
field_one n = one_as n field_form structures.field_1 structures.make_field structures.only_field (λ s is. (structures.as_field []).spells s is) (λ s t is g. (structures.as_field []).goes s t is g)
    (one_then n n selectors_form (λ _. structures.field_2) structures.field_apart_1 (selectors_one n) (λ a. one_then n n arrow_form (λ _. structures.field_3) structures.field_apart_2 (arrow_one n) (λ a. type_one true n) (λ a l isa h. omega (arith, h))) (λ a l isa h. omega (arith, h)))

fields_one : (n : ℕ) → One n fields_form
fields_one n = list_one field_form field_ends_in_terms goes_on_declared linked_fields field_one n

pub ancestors_one : (n : ℕ) → One n ancestors_form
ancestors_one n = one_as n ancestors_form structures.ancestors_1 structures.make_ancestors structures.only_ancestors (λ s is. (structures.as_ancestors []).spells s is) (λ s t is g. (structures.as_ancestors []).goes s t is g)
    (one_then n n (nested (word signs.Open)) (λ _. structures.ancestors_2) structures.ancestors_apart_1 (words n signs.Open refl) (λ a. one_then n n (nested types_form) (λ _. structures.ancestors_3) structures.ancestors_apart_2 (types_one n) (λ a. words n signs.Close refl) (λ a l isa h. omega (arith, h))) (λ a l isa h. omega (arith, h)))

optional_ancestors_one : (n : ℕ) → One n optional_ancestors
optional_ancestors_one n = one_optional ancestors_form begins_ancestors starts_ancestors n (ancestors_one n)

pub structure_loci_one : (n : ℕ) → One n structure_loci_form
structure_loci_one n = one_as n structure_loci_form structures.structure_loci_1 structures.make_structure_loci structures.only_structure_loci (λ s is. (structures.as_structure_loci []).spells s is) (λ s t is g. (structures.as_structure_loci []).goes s t is g)
    (one_then n n (word signs.Over) (λ _. structures.structure_loci_2) structures.structure_loci_apart_1 (words n signs.Over refl) (λ a. identifiers_one n) (λ a l isa h. omega (arith, h)))

optional_structure_loci_one : (n : ℕ) → One n optional_structure_loci
optional_structure_loci_one n = one_optional structure_loci_form begins_structure_loci starts_structure_loci n (structure_loci_one n)

pub structure_one : (n : ℕ) → One n structure_form
structure_one n = one_as n structure_form structures.structure_1 structures.make_structure structures.only_structure (λ s is. (structures.as_structure []).spells s is) (λ s t is g. (structures.as_structure []).goes s t is g)
    (one_then n n (word_form (codes "struct")) (λ _. structures.structure_2) structures.structure_apart_1 (word_one n (codes "struct")) (λ a. one_then n n optional_ancestors (λ _. structures.structure_3) structures.structure_apart_2 (optional_ancestors_one n) (λ a. one_then n n (name signs.Structure) (λ _. structures.structure_4) structures.structure_apart_3 (names n signs.Structure refl) (λ a. one_then n n optional_structure_loci (λ _. structures.structure_5) structures.structure_apart_4 (optional_structure_loci_one n) (λ a. one_then n n (nested (word signs.OpenAggregate)) (λ _. structures.structure_6) structures.structure_apart_5 (words n signs.OpenAggregate refl) (λ a. one_then n n (nested fields_form) (λ _. structures.structure_7) structures.structure_apart_6 (fields_one n) (λ a. one_then n n (word signs.CloseAggregate) (λ _. structures.structure_8) structures.structure_apart_7 (words n signs.CloseAggregate refl) (λ a. keys n keywords.Semicolon refl) (λ a l isa h. omega (arith, h))) (λ a l isa h. omega (arith, h))) (λ a l isa h. omega (arith, h))) (λ a l isa h. omega (arith, h))) (λ a l isa h. omega (arith, h))) (λ a l isa h. omega (arith, h))) (λ a l isa h. omega (arith, h)))
