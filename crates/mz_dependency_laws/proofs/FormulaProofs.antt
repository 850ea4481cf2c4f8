-- Sequents as formulas, and that what exports say derives from these.
use Rattle.std.proofs.Common.{◌≡◌, ◌⊎◌, inl, inr, List, [], ◌∷◌, map, flat_map, sym, subst}
use Rattle.std.specs.Prelude.{Contains}
use Rattle.std.proofs.lemmas.List.Elements.{Contains-append_left, Contains-append_right, Contains-append_cases}
use Rattle.mz_logic.specs.Formula.{Formula}
use Rattle.mz_logic.specs.Derives.{Derives}
use Rattle.mz_logic.specs.DerivesFrom.{DerivesFrom, Adjoined}
use Rattle.mz_logic.specs.declared.sequent.Sequent.{Sequent}
use Rattle.mz_logic.proofs.Rules.{hypothesis}
use Rattle.mz_logic.proofs.Each.{axiom_derives, implies_out}
use Rattle.mz_logic.proofs.SetLaws.{larger, deduction}
use Rattle.mz_core.specs.declared.item.Item.{Item}
use Rattle.mz_core.specs.declared.outcome.Export.{Export}
use Rattle.mz_items.specs.Items.{owes, grants}
use Rattle.mz_items.specs.Exports.{without_premises, conclusion_alone, item_statements}
use Rattle.mz_ground.proofs.ListLemmas.{contains_none, contains_first, contains_later, contains_cases, contains_one, map_contains}
use Rattle.mz_env_laws.proofs.DerivedProofs.{in_flat, all_axioms}
use Rattle.mz_dependency_laws.specs.Formulas.{premises_imply, sequent_formula, item_formulas, formulas_of, FormulasLaw}

-- where it comes from
pub from_flat : {X Y : Type 0} (f : X → List Y) (xs : List X) (y : Y) → Contains (flat_map f xs) y → (x : X) × Contains xs x × Contains (f x) y
from_flat f [] y is = absurd (contains_none y is)
from_flat f (x ∷ xs) y is = elim (Contains-append_cases (f x) (flat_map f xs) y is) [
  | inl front ↦ (x, contains_first x xs, front)
  | inr back ↦ let later = from_flat f xs y back in (later.0, contains_later x later.0 xs later.1, later.2)
]

-- premises put in front of a formula, and taken off it

-- P, or one of the formulas
abbrev pub OrOneOf : (Formula → Type 0) → List Formula → Formula → Type 0
OrOneOf P ps k = P k ⊎ Contains ps k

none_besides : (P : Formula → Type 0) (k : Formula) → OrOneOf P [] k → P k
none_besides P k (inl has) = has
none_besides P k (inr none) = absurd (contains_none k none)

first_adjoined : (P : Formula → Type 0) (p : Formula) (ps : List Formula) (k : Formula) → OrOneOf P (p ∷ ps) k → OrOneOf (Adjoined P p) ps k
first_adjoined P p ps k (inl has) = inl (inl has)
first_adjoined P p ps k (inr one) = elim (contains_cases p k ps one) [ inl same ↦ inl (inr (sym same)) | inr later ↦ inr later ]

pub premises_in_front : (A P : Formula → Type 0) (ps : List Formula) (f : Formula) → DerivesFrom A (OrOneOf P ps) f → DerivesFrom A P (premises_imply ps f)
premises_in_front A P [] f d = larger A A (OrOneOf P []) P f (λ k h. h) (none_besides P) d
premises_in_front A P (p ∷ ps) f d =
    deduction A P p (premises_imply ps f)
    (premises_in_front A (Adjoined P p) ps f (larger A A (OrOneOf P (p ∷ ps)) (OrOneOf (Adjoined P p) ps) f (λ k h. h) (first_adjoined P p ps) d))

premises_off : (ax g ps : List Formula) (f : Formula) → ((k : Formula) → Contains ps k → Contains g k) → Derives ax g (premises_imply ps f) → Derives ax g f
premises_off ax g [] f within d = d
premises_off ax g (p ∷ ps) f within d =
    premises_off ax g ps f (λ k is. within k (contains_later p k ps is))
    (implies_out ax g p (premises_imply ps f) d (hypothesis ax g p (within p (contains_first p ps))))

-- what an item says is among what it grants and owes
alone : (ps : List Formula) (c f : Formula) → Contains (without_premises ps c) f → premises_imply ps c ≡ f
alone [] c f is = contains_one c f is
alone (p ∷ ps) c f is = absurd (contains_none f is)

said_among : (x : Item) (f : Formula) → Contains (item_statements x) f → Contains (item_formulas x) f
said_among x f is = elim (Contains-append_cases (grants x) (flat_map conclusion_alone (owes x)) f is) [
  | inl front ↦ Contains-append_left (grants x) (map sequent_formula (owes x)) f front
  | inr back ↦
      let from : (q : Sequent) × Contains (owes x) q × Contains (conclusion_alone q) f = from_flat conclusion_alone (owes x) f back in
      Contains-append_right (grants x) (map sequent_formula (owes x)) f
      (subst (Contains (map sequent_formula (owes x))) (alone from.0.premises from.0.conclusion f from.2) (map_contains sequent_formula (owes x) from.0 from.1))
]

in_formulas : (exports : List Export) (d : Export) (x : Item) (f : Formula) → Contains exports d → Contains d.items x → Contains (item_formulas x) f → Contains (flat_map formulas_of exports) f
in_formulas exports d x f is member says = in_flat formulas_of exports d f is (in_flat item_formulas d.items x f member says)

pub formulas_law : FormulasLaw
formulas_law exports = (
  λ premises d is x member. all_axioms (flat_map formulas_of exports) premises (item_statements x) (λ f says. in_formulas exports d x f is member (said_among x f says)),
  λ d is x member q owed.
      premises_off (flat_map formulas_of exports) q.premises q.premises q.conclusion (λ k has. has)
      (axiom_derives (flat_map formulas_of exports) q.premises (sequent_formula q)
      (in_formulas exports d x (sequent_formula q) is member (Contains-append_right (grants x) (map sequent_formula (owes x)) (sequent_formula q) (map_contains sequent_formula (owes x) q owed)))),
)
