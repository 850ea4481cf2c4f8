-- Axioms that derive each other axiom.
use Rattle.std.proofs.Common.{◌≡◌, ◌<◌, ◌≤◌, ◌-◌, ℕ, List, [], ◌∷◌, length, refl, subst, get_or}
use Rattle.std.specs.Prelude.{Some, slice_get}
use Rattle.std.proofs.lemmas.Option.{slice_get_within, get_or_from_slice_get}
use Rattle.mz_logic.specs.Formula.{Formula}
use Rattle.mz_logic.specs.Formulas.{IsMember}
use Rattle.mz_logic.specs.declared.sequent.Sequent.{Sequent}
use Rattle.mz_logic.specs.declared.rule.Rule.{Rule}
use Rattle.mz_logic.specs.declared.rule.Rule.TheVariants.{Hypothesis, Weaken, Truth, AndIn, AndLeft, AndRight, NotIn, NotOut, Classical, AllIn, AllOut, Reflexive, Replace, Cut, Axiom, Instance}
use Rattle.mz_logic.specs.Derivation.{Derivation, Derivations, Node, none, more, root, roots}
use Rattle.mz_logic.specs.Derives.{IsValid, AreValid, FollowsBy, Derives}
use Rattle.mz_logic.proofs.Connectives.{anywhere}

-- a right derivation with that sequent at its root
abbrev Reaches : List Formula → Sequent → Type 0
Reaches ax s = (d : Derivation) × (root d ≡ s) × IsValid ax d

abbrev ReachesAll : List Formula → List Sequent → Type 0
ReachesAll ax ss = (ds : Derivations) × (roots ds ≡ ss) × AreValid ax ds

on_top : (ax : List Formula) (r : Rule) (s : Sequent) (ps : List Sequent) → FollowsBy ax r s ps → ReachesAll ax ps → Reaches ax s
unfolding IsValid AreValid
on_top ax r s ps h up = (Node r s up.0, refl, (rw up.1 h, up.2))

axiom_reached : (ax others : List Formula) → ((f : Formula) → IsMember ax f → Derives others [] f) → (i : ℕ) (s : Sequent) → 1 ≤ i → slice_get ax (i - 1) ≡ Some s.conclusion → Reaches others s
unfolding IsMember
axiom_reached ax others each i s one_on h =
    let lt : i - 1 < length ax = slice_get_within ax (i - 1) s.conclusion h in
    let member : get_or ax (i - 1) s.conclusion ≡ s.conclusion = get_or_from_slice_get ax (i - 1) s.conclusion s.conclusion h in
    anywhere others s.premises s.conclusion (each s.conclusion (i - 1, lt, member))

-- a node over derivations from the other axioms
node_reached : (ax others : List Formula) → ((f : Formula) → IsMember ax f → Derives others [] f) → (r : Rule) (s : Sequent) (ps : List Sequent) → FollowsBy ax r s ps → ReachesAll others ps → Reaches others s
node_reached ax others each (Axiom i) s [] h up = axiom_reached ax others each i s h.0 h.1
node_reached ax others each (Axiom i) s (p ∷ ps) h up = absurd h
node_reached ax others each Hypothesis s ps h up = on_top others Hypothesis s ps h up
node_reached ax others each Weaken s ps h up = on_top others Weaken s ps h up
node_reached ax others each Truth s ps h up = on_top others Truth s ps h up
node_reached ax others each AndIn s ps h up = on_top others AndIn s ps h up
node_reached ax others each AndLeft s ps h up = on_top others AndLeft s ps h up
node_reached ax others each AndRight s ps h up = on_top others AndRight s ps h up
node_reached ax others each NotIn s ps h up = on_top others NotIn s ps h up
node_reached ax others each NotOut s ps h up = on_top others NotOut s ps h up
node_reached ax others each Classical s ps h up = on_top others Classical s ps h up
node_reached ax others each (AllIn c) s ps h up = on_top others (AllIn c) s ps h up
node_reached ax others each (AllOut t) s ps h up = on_top others (AllOut t) s ps h up
node_reached ax others each Reflexive s ps h up = on_top others Reflexive s ps h up
node_reached ax others each Replace s ps h up = on_top others Replace s ps h up
node_reached ax others each Cut s ps h up = on_top others Cut s ps h up
node_reached ax others each (Instance ls) s ps h up = on_top others (Instance ls) s ps h up

mutual
  unfolding IsValid AreValid

  root_reached : (ax others : List Formula) → ((f : Formula) → IsMember ax f → Derives others [] f) → (d : Derivation) → IsValid ax d → Reaches others (root d)
  root_reached ax others each (Node r s ds) h = node_reached ax others each r s (roots ds) h.0 (roots_reached ax others each ds h.1)

  roots_reached : (ax others : List Formula) → ((f : Formula) → IsMember ax f → Derives others [] f) → (ds : Derivations) → AreValid ax ds → ReachesAll others (roots ds)
  roots_reached ax others each none h = (none, refl, tt)
  roots_reached ax others each (more d ds) h =
      let one : Reaches others (root d) = root_reached ax others each d h.0 in
      let rest : ReachesAll others (roots ds) = roots_reached ax others each ds h.1 in
      (more one.0 rest.0, λ i. one.1 i ∷ rest.1 i, (one.2, rest.2))

pub from_other_axioms : (ax others g : List Formula) (f : Formula) → ((k : Formula) → IsMember ax k → Derives others [] k) → Derives ax g f → Derives others g f
from_other_axioms ax others g f each d = subst (Reaches others) d.1 (root_reached ax others each d.0 d.2)
