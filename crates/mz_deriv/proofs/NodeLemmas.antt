-- No rule has three parents.
use Rattle.std.proofs.Common.{◌<◌, ◌∷◌, [], List, length, arith}
use Rattle.mz_logic.specs.Formula.{Formula}
use Rattle.mz_logic.specs.declared.sequent.Sequent.{Sequent}
use Rattle.mz_logic.specs.declared.rule.Rule.{Rule}
use Rattle.mz_logic.specs.declared.rule.Rule.TheVariants.{Hypothesis, Weaken, Truth, AndIn, AndLeft, AndRight, NotIn, NotOut, Classical, AllIn, AllOut, Reflexive, Replace, Cut, Axiom, Instance}
use Rattle.mz_logic.specs.Derives.{FollowsBy}

three_parents : (axioms : List Formula) (r : Rule) (s p q t : Sequent) (ps : List Sequent) → FollowsBy axioms r s (p ∷ q ∷ t ∷ ps) → ⊥
three_parents axioms Hypothesis s p q t ps h = h
three_parents axioms Weaken s p q t ps h = h
three_parents axioms Truth s p q t ps h = h
three_parents axioms AndIn s p q t ps h = h
three_parents axioms AndLeft s p q t ps h = h
three_parents axioms AndRight s p q t ps h = h
three_parents axioms NotIn s p q t ps h = h
three_parents axioms NotOut s p q t ps h = h
three_parents axioms Classical s p q t ps h = h
three_parents axioms (AllIn c) s p q t ps h = h
three_parents axioms (AllOut u) s p q t ps h = h
three_parents axioms Reflexive s p q t ps h = h
three_parents axioms Replace s p q t ps h = h
three_parents axioms Cut s p q t ps h = h
three_parents axioms (Axiom i) s p q t ps h = h
three_parents axioms (Instance ls) s p q t ps h = h

pub many_parents : (axioms : List Formula) (r : Rule) (s : Sequent) (ps : List Sequent) → 2 < length ps → FollowsBy axioms r s ps → ⊥
many_parents axioms r s [] lt h = absurd (omega arith)
many_parents axioms r s (p ∷ []) lt h = absurd (omega arith)
many_parents axioms r s (p ∷ q ∷ []) lt h = absurd (omega arith)
many_parents axioms r s (p ∷ q ∷ t ∷ ps) lt h = three_parents axioms r s p q t ps h

pub ruleset parent_rules = (many_parents)
