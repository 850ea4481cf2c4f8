-- The exports of the built-in articles.
use Rattle.std.specs.Prelude.{ℕ, Bool, true, false, List, [], ◌∷◌, codes, map}
use Rattle.mz_logic.specs.declared.kind.Kind.TheVariants.{Mode, Predicate}
use Rattle.mz_logic.specs.Term.{Bound}
use Rattle.mz_logic.specs.declared.literal.Literal.{Literal}
use Rattle.mz_logic.specs.declared.literal.Literal.TheVariants.{Atom, Eq}
use Rattle.mz_core.specs.Hidden.{in_predicate}
use Rattle.mz_core.specs.Hidden.{object_type, set_type}
use Rattle.mz_core.specs.declared.soft_type.SoftType.{SoftType}
use Rattle.mz_core.specs.declared.pattern.Pattern.{Pattern}
use Rattle.mz_core.specs.declared.notation.Meaning.{Meaning}
use Rattle.mz_core.specs.declared.notation.Meaning.TheVariants.{OfLiteral, OfType}
use Rattle.mz_core.specs.declared.notation.Notation.{Notation}
use Rattle.mz_core.specs.declared.item.Item.{Item}
use Rattle.mz_core.specs.declared.item.Item.TheVariants.{Axiom, AxiomScheme, Primitive}
use Rattle.mz_core.specs.declared.outcome.Export.{Export}
use Rattle.mz_axioms.specs.Names.{hidden_name, tarski_0_name, tarski_a_name}
use Rattle.mz_axioms.specs.Axioms.{objects_are_sets, extensionality, pairs, unions, regularity, replacement, universes}

-- a mode without loci
abbrev pub mode_notation : List ℕ → SoftType → Notation
mode_notation symbol ty =
    record {
      pattern = record { symbol = symbol; closing = []; kind = Mode; loci = []; left = []; right = [] };
      meaning = OfType ty;
    }

-- a predicate of two objects, one on each side
abbrev pub predicate_notation : List ℕ → Literal → Notation
predicate_notation symbol literal =
    record {
      pattern = record { symbol = symbol; closing = []; kind = Predicate; loci = object_type ∷ object_type ∷ []; left = 0 ∷ []; right = 1 ∷ [] };
      meaning = OfLiteral literal;
    }

-- `object`, `set`, `x = y`, `x <> y`, `x in y`
abbrev pub hidden_notations : List Notation
hidden_notations =
    mode_notation (codes "object") object_type ∷ mode_notation (codes "set") set_type ∷ predicate_notation (codes "=") (Eq true (Bound 1) (Bound 0)) ∷ predicate_notation (codes "<>") (Eq false (Bound 1) (Bound 0)) ∷ predicate_notation (codes "in") (Atom true in_predicate (Bound 1 ∷ Bound 0 ∷ [])) ∷ []

abbrev pub hidden : Export
hidden = record { name = hidden_name; dependencies = []; items = map Primitive hidden_notations; notations = hidden_notations }

abbrev pub tarski_0_items : List Item
tarski_0_items =
    Axiom objects_are_sets ∷ Axiom extensionality ∷ Axiom pairs ∷ Axiom unions ∷ Axiom regularity ∷ AxiomScheme replacement ∷ []

abbrev pub tarski_0 : Export
tarski_0 = record { name = tarski_0_name; dependencies = []; items = tarski_0_items; notations = [] }

abbrev pub tarski_a : Export
tarski_a = record { name = tarski_a_name; dependencies = []; items = Axiom universes ∷ []; notations = [] }

-- the exports of HIDDEN, TARSKI_0 and TARSKI_A
abbrev pub built_in_exports : List Export
built_in_exports = hidden ∷ tarski_0 ∷ tarski_a ∷ []
