-- The spelling of lists.
use Rattle.std.proofs.Common.{◌≡◌, List, [], ◌∷◌, ◌++◌, refl, ap, append_assoc}
use Rattle.std.specs.List.{flat_map}
use Rattle.mz_tree.specs.Trees.{PieceData, PrefixData, BeforeData, NextTermData, AdjectiveData, NextDeclaredData, NextConjunctionData, NextUnitData, pieces_of, prefixs_of, befores_of, next_terms_of, adjectives_of, next_declareds_of, next_conjunctions_of, next_units_of}
use Rattle.mz_tree.proofs.Views.{term_of-is, operand_of-is, conjunction_of-is}
use Rattle.mz_tree.specs.Spell.{spell_piece, spell_prefix, spell_before, spell_next_term, spell_adjective, spell_next_declared, spell_next_conjunction, spell_next_unit, spell_piece_list, spell_prefix_list, spell_before_list, spell_next_term_list, spell_adjective_list, spell_next_declared_list, spell_next_conjunction_list, spell_next_unit_list}

pub spell_piece_list-pieces_of : (ts : List PieceData) → spell_piece_list (pieces_of ts) ≡ flat_map spell_piece ts
spell_piece_list-pieces_of [] = refl
spell_piece_list-pieces_of (t ∷ ts) = ap (λ z. spell_piece t ++ z) (spell_piece_list-pieces_of ts)

pub spell_prefix_list-prefixs_of : (ts : List PrefixData) → spell_prefix_list (prefixs_of ts) ≡ flat_map spell_prefix ts
spell_prefix_list-prefixs_of [] = refl
spell_prefix_list-prefixs_of (t ∷ ts) = ap (λ z. spell_prefix t ++ z) (spell_prefix_list-prefixs_of ts)

pub spell_before_list-befores_of : (ts : List BeforeData) → spell_before_list (befores_of ts) ≡ flat_map spell_before ts
spell_before_list-befores_of [] = refl
spell_before_list-befores_of (t ∷ ts) = ap (λ z. spell_before t ++ z) (spell_before_list-befores_of ts)

pub spell_next_term_list-next_terms_of : (ts : List NextTermData) → spell_next_term_list (next_terms_of ts) ≡ flat_map spell_next_term ts
spell_next_term_list-next_terms_of [] = refl
spell_next_term_list-next_terms_of (t ∷ ts) = ap (λ z. spell_next_term t ++ z) (spell_next_term_list-next_terms_of ts)

pub spell_adjective_list-adjectives_of : (ts : List AdjectiveData) → spell_adjective_list (adjectives_of ts) ≡ flat_map spell_adjective ts
spell_adjective_list-adjectives_of [] = refl
spell_adjective_list-adjectives_of (t ∷ ts) = ap (λ z. spell_adjective t ++ z) (spell_adjective_list-adjectives_of ts)

pub spell_next_declared_list-next_declareds_of : (ts : List NextDeclaredData) → spell_next_declared_list (next_declareds_of ts) ≡ flat_map spell_next_declared ts
spell_next_declared_list-next_declareds_of [] = refl
spell_next_declared_list-next_declareds_of (t ∷ ts) = ap (λ z. spell_next_declared t ++ z) (spell_next_declared_list-next_declareds_of ts)

pub spell_next_conjunction_list-next_conjunctions_of : (ts : List NextConjunctionData) → spell_next_conjunction_list (next_conjunctions_of ts) ≡ flat_map spell_next_conjunction ts
spell_next_conjunction_list-next_conjunctions_of [] = refl
spell_next_conjunction_list-next_conjunctions_of (t ∷ ts) = ap (λ z. spell_next_conjunction t ++ z) (spell_next_conjunction_list-next_conjunctions_of ts)

pub spell_next_unit_list-next_units_of : (ts : List NextUnitData) → spell_next_unit_list (next_units_of ts) ≡ flat_map spell_next_unit ts
spell_next_unit_list-next_units_of [] = refl
spell_next_unit_list-next_units_of (t ∷ ts) = ap (λ z. spell_next_unit t ++ z) (spell_next_unit_list-next_units_of ts)

pub ruleset spell_rules = (append_assoc, term_of-is, operand_of-is, conjunction_of-is, spell_piece_list-pieces_of, spell_prefix_list-prefixs_of, spell_before_list-befores_of, spell_next_term_list-next_terms_of, spell_adjective_list-adjectives_of, spell_next_declared_list-next_declareds_of, spell_next_conjunction_list-next_conjunctions_of, spell_next_unit_list-next_units_of)
