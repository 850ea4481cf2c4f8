-- Derivations above a node as a list.
use Rattle.std.proofs.Common.{◌<◌, ◌∷◌, [], suc, List, length, arith, refl}
use Rattle.std.specs.Prelude.{All}
use Rattle.std.proofs.lemmas.List.Elements.{All-nil, All-cons}
use Rattle.mz_logic.specs.Formula.{Formula}
use Rattle.mz_logic.specs.declared.sequent.Sequent.{Sequent}
use Rattle.mz_logic.specs.declared.rule.Rule.{Rule}
use Rattle.mz_logic.specs.Derivation.{Derivation, root, roots}
use Rattle.mz_logic.specs.DerivationStorage.{derivations_of}
use Rattle.mz_logic.specs.Derives.{IsValid, AreValid, FollowsBy, Derives}
use Rattle.mz_deriv.proofs.NodeLemmas.{many_parents}

pub All-from_AreValid : (axioms : List Formula) (ds : List Derivation) → AreValid axioms (derivations_of ds) → All (IsValid axioms) ds
unfolding IsValid AreValid
All-from_AreValid axioms [] h = All-nil (IsValid axioms)
All-from_AreValid axioms (d ∷ ds) h = All-cons (IsValid axioms) d ds h.0 (All-from_AreValid axioms ds h.1)

pub AreValid-from_All : (axioms : List Formula) (ds : List Derivation) → All (IsValid axioms) ds → AreValid axioms (derivations_of ds)
unfolding IsValid AreValid
AreValid-from_All axioms [] h = tt
AreValid-from_All axioms (d ∷ ds) h = (h 0 d (omega arith), AreValid-from_All axioms ds (λ k e lt. h (suc k) e (omega arith)))

pub many_roots : (axioms : List Formula) (r : Rule) (s : Sequent) (ds : List Derivation) → 2 < length ds → FollowsBy axioms r s (roots (derivations_of ds)) → ⊥
many_roots axioms r s [] lt h = absurd (omega arith)
many_roots axioms r s (d ∷ []) lt h = absurd (omega arith)
many_roots axioms r s (d ∷ e ∷ []) lt h = absurd (omega arith)
many_roots axioms r s (d ∷ e ∷ f ∷ ds) lt h = many_parents axioms r s (root d ∷ root e ∷ root f ∷ roots (derivations_of ds)) (omega arith) h

-- a valid derivation derives its root
pub Derives-root : (axioms : List Formula) (d : Derivation) → IsValid axioms d → Derives axioms (root d).premises (root d).conclusion
Derives-root axioms d h = (d, refl, h)

pub ruleset check_rules = (All-from_AreValid, AreValid-from_All)

pub ruleset parents_rules = (many_roots)

pub ruleset sound_rules = (Derives-root)
