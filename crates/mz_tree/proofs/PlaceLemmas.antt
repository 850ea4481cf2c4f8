-- The first places of spellings.
use Rattle.std.proofs.Common.{◌≡◌, ℕ, List, [], ◌∷◌, ◌++◌, Bool, true, false, Option, Some, None, refl, codes, map, ap, ◌∙◌}
use Rattle.std.specs.Prelude.{if◌then◌else◌}
use Rattle.std.specs.Str.{bytes_eq}
use Rattle.mz_base.specs.declared.place.Place.{Place}
use Rattle.mz_base.specs.declared.symbol_kind.SymbolKind.TheVariants as symbols
use Rattle.mz_base.specs.declared.token.TokenKind.TheVariants.{Reserved}
use Rattle.mz_base.specs.declared.token.MarkedToken.{MarkedToken}
use Rattle.mz_base.specs.declared.token.Mark.TheVariants as marks
use Rattle.mz_tree.specs.declared.word.Word.{Word}
use Rattle.mz_tree.specs.Spelled.{marked, symbol, mode, non_of, reserved_if}
use Rattle.mz_tree.specs.Trees.{prefixs_of}
use Rattle.mz_tree.specs.Spell.{spell_prefix_list, spell_base}
use Rattle.mz_tree.specs.Views.{prefix_of, base_of, operand_of}
use Rattle.mz_tree.specs.declared.nodes.OperandNode.{OperandNode}
use Rattle.mz_tree.specs.Places.{first_place, place_or}
use Rattle.mz_tree.proofs.Views.{term_of-is, operand_of-is, conjunction_of-is}

pub first_place-append : (xs ys : List MarkedToken) → first_place (xs ++ ys) ≡ place_or (first_place xs) (first_place ys)
first_place-append [] ys = refl
first_place-append (x ∷ xs) ys = refl

pub first_place-non_of : (a : Option Place) → first_place (non_of a) ≡ a
first_place-non_of None = refl
first_place-non_of (Some p) = refl

pub first_place-reserved_if : (a : Option Place) (s : List ℕ) → first_place (reserved_if a s) ≡ a
first_place-reserved_if None s = refl
first_place-reserved_if (Some p) s = refl

mode_place : (b : Bool) (w : Word) → (if b then marked Reserved w.place w.spelling 0 marks.NotComma else symbol symbols.Mode w).token.place ≡ w.place
mode_place true w = refl
mode_place false w = refl

pub place-mode : (w : Word) → (mode w).token.place ≡ w.place
place-mode w = mode_place (bytes_eq w.spelling (codes "set")) w

pub place-operand : (t : OperandNode) (p q : Place) → first_place (spell_base (base_of t.base.value)) ≡ Some q →
    place_or (first_place (spell_prefix_list (prefixs_of (map prefix_of t.prefixes.items)))) (Some q) ≡ Some p → first_place (spell_prefix_list (operand_of t).prefixes ++ spell_base (operand_of t).base) ≡ Some p
place-operand t p q e f =
    let ps = spell_prefix_list (prefixs_of (map prefix_of t.prefixes.items)) in
    rw (operand_of-is t) (first_place-append ps (spell_base (base_of t.base.value)) ∙ (ap (place_or (first_place ps)) e ∙ f))

pub ruleset place_rules = (first_place-append, first_place-non_of, first_place-reserved_if, place-mode, term_of-is, operand_of-is, conjunction_of-is)
