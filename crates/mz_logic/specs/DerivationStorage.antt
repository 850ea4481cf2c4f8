-- How a derivation is stored: its parents as a list, its size, and its code as a tree of numbers.
use Rattle.std.specs.Prelude.{◌≡◌, ℕ, suc, ◌+◌, ◌≤◌, List, [], ◌∷◌, refl}
use Rattle.std.proofs.Common.{arith, ap, sym, subst}
use Rattle.std.specs.Coded.{Coded}
use base.Stored.{Gv, gnil, gnum, gcons}
use denote.Param.Weighed.{most}
use Rattle.mz_logic.specs.contracts.rule.Rule.{the_row as rule_row}
use Rattle.mz_logic.specs.contracts.sequent.Sequent.{the_row as sequent_row}
use Rattle.mz_logic.specs.Derivation.{Derivation, Derivations, Node, none, more}

-- the derivations as a list
abbrev pub list_of : Derivations → List Derivation
list_of none = []
list_of (more d ds) = d ∷ list_of ds

-- the list as derivations
abbrev pub derivations_of : List Derivation → Derivations
derivations_of [] = none
derivations_of (d ∷ ds) = more d (derivations_of ds)

pub list_of-derivations_of : (ds : List Derivation) → list_of (derivations_of ds) ≡ ds
list_of-derivations_of [] = refl
list_of-derivations_of (d ∷ ds) = ap (λ es. d ∷ es) (list_of-derivations_of ds)

-- how many nodes and list cells a derivation has
abbrev mutual
  pub size_of : Derivation → ℕ
  size_of (Node r s ds) = suc (parent_sizes ds)

  pub parent_sizes : Derivations → ℕ
  parent_sizes none = 1
  parent_sizes (more d ds) = size_of d + suc (parent_sizes ds)

abbrev pub sizes_of : List Derivation → ℕ
sizes_of ds = parent_sizes (derivations_of ds)

pub most_le-sizes_of : (ds : List Derivation) → most (λ d. size_of d + 1) ds ≤ sizes_of ds
most_le-sizes_of [] = omega arith
most_le-sizes_of (d ∷ ds) = omega (arith, most_le-sizes_of ds)

-- a derivation is stored as a tree of numbers
abbrev mutual
  pub derivation_gv : Derivation → Gv
  derivation_gv (Node r s ds) = gcons (rule_row.coded.code r) (gcons (sequent_row.coded.code s) (derivations_gv ds))

  pub derivations_gv : Derivations → Gv
  derivations_gv none = gnil
  derivations_gv (more d ds) = gcons (derivation_gv d) (derivations_gv ds)

abbrev left : Gv → Gv
left gnil = gnil
left (gnum n) = gnil
left (gcons a b) = a

abbrev right : Gv → Gv
right gnil = gnil
right (gnum n) = gnil
right (gcons a b) = b

abbrev IsPair : Gv → Type 0
IsPair gnil = ⊥
IsPair (gnum n) = ⊥
IsPair (gcons a b) = Unit {0}

mutual
  pub derivation_gv-inj : (d e : Derivation) → derivation_gv d ≡ derivation_gv e → d ≡ e
  derivation_gv-inj (Node r s ds) (Node q t es) p = λ i. Node (rule_row.coded.inj r q (ap left p) i) (sequent_row.coded.inj s t (ap left (ap right p)) i) (derivations_gv-inj ds es (ap right (ap right p)) i)

  pub derivations_gv-inj : (ds es : Derivations) → derivations_gv ds ≡ derivations_gv es → ds ≡ es
  derivations_gv-inj none none p = refl
  derivations_gv-inj none (more e es) p = absurd (subst IsPair (sym p) tt)
  derivations_gv-inj (more d ds) none p = absurd (subst IsPair p tt)
  derivations_gv-inj (more d ds) (more e es) p = λ i. more (derivation_gv-inj d e (ap left p) i) (derivations_gv-inj ds es (ap right p) i)

abbrev pub derivation_code : Coded Derivation
derivation_code = record { code = derivation_gv; inj = derivation_gv-inj }
