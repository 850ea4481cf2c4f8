-- Derivations: trees, each node of which has a rule, a sequent and the derivations above it.
use Rattle.std.specs.Prelude.{List, [], ◌∷◌}
use Rattle.mz_logic.specs.declared.rule.Rule.{Rule}
use Rattle.mz_logic.specs.declared.sequent.Sequent.{Sequent}

mutual
  pub data Derivation : Type 0 where
    Node : Rule → Sequent → Derivations → Derivation

  pub data Derivations : Type 0 where
    none : Derivations
    more : Derivation → Derivations → Derivations

-- the sequent at the root
abbrev pub root : Derivation → Sequent
root (Node r s ds) = s

abbrev pub roots : Derivations → List Sequent
roots none = []
roots (more d ds) = root d ∷ roots ds
