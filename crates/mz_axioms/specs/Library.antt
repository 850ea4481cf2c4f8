-- What it means that a library is sound.
use Rattle.std.specs.Prelude.{◌≡◌, ◌<◌, ◌≤◌, ℕ, suc, Bool, true, false, nat_lt, if◌then◌else◌, List, [], ◌∷◌, map, take, flat_map, Some, slice_get, All, AllPairs, Contains}
use Rattle.std.specs.List.{list_all, list_any}
use Rattle.mz_base.specs.Name.{is_built_in}
use Rattle.mz_base.specs.declared.name.Name.{Name}
use Rattle.mz_logic.specs.Formula.{Formula}
use Rattle.mz_logic.specs.DerivesFrom.{DerivesFrom}
use Rattle.mz_logic.specs.declared.sequent.Sequent.{Sequent}
use Rattle.mz_core.specs.declared.item.Item.{Item}
use Rattle.mz_core.specs.declared.outcome.Export.{Export}
use Rattle.mz_items.specs.Items.{owes, grants}
use Rattle.mz_items.specs.Exports.{HasNotationsOfItems, is_primitive}
use Rattle.mz_items.specs.Closed.{item_closed}
use Rattle.mz_axioms.specs.AxiomList.{axioms}
use Rattle.mz_axioms.specs.BuiltIn.{built_in_exports}

-- the name of e is before that of f, in the order of names
abbrev pub IsNamedBefore : Export → Export → Type 0
IsNamedBefore e f = e.name.number < f.name.number

-- the exports are in the order of names, and have each name once
abbrev pub AreInOrder : List Export → Type 0
AreInOrder es = AllPairs IsNamedBefore es

-- the library has an export of the name
abbrev pub HasName : List Export → Name → Type 0
HasName library name = (e : Export) × Contains library e × (e.name ≡ name)

-- the article a depends on b, directly or by others
pub data DependsOn : List Export → Name → Name → Type 0 where
  directly : {library : List Export} {a b : Name} (e : Export) → Contains library e → e.name ≡ a → Contains e.dependencies b → DependsOn library a b
  by_others : {library : List Export} {a b c : Name} → DependsOn library a b → DependsOn library b c → DependsOn library a c

-- what the items grant
abbrev pub granted : List Item → List Formula
granted items = flat_map grants items

-- what the item k of the export e, counted from 0, may rest on: the axioms, the grants of the articles on
-- which its article depends, and the grants of its article's items before it
pub data IsBefore : List Export → Export → ℕ → Formula → Type 0 where
  of_axioms : {library : List Export} {e : Export} {k : ℕ} {f : Formula} → Contains axioms f → IsBefore library e k f
  of_dependency : {library : List Export} {e : Export} {k : ℕ} {f : Formula} (d : Export) → Contains library d → DependsOn library e.name d.name → Contains (granted d.items) f → IsBefore library e k f
  of_earlier : {library : List Export} {e : Export} {k : ℕ} {f : Formula} → Contains (granted (take k e.items)) f → IsBefore library e k f

-- the sequent is derivable from formulas on which the item k of the export e may rest
abbrev pub IsDerivable : List Export → Export → ℕ → Sequent → Type 0
IsDerivable library e k s = DerivesFrom (IsBefore library e k) (Contains s.premises) s.conclusion

-- so is each sequent that an item of e owes
abbrev pub OwesDerivable : List Export → Export → Type 0
OwesDerivable library e =
    (k : ℕ) (item : Item) → slice_get e.items k ≡ Some item → All (IsDerivable library e k) (owes item)

-- an export that is not built in has no axiom and no primitive notation
abbrev pub HasPrimitivesOnlyIfBuiltIn : Export → Type 0
HasPrimitivesOnlyIfBuiltIn e = is_built_in e.name.number ≡ false → list_any is_primitive e.items ≡ false

-- no item has a constant or a loose index
abbrev pub HasClosedItems : Export → Type 0
HasClosedItems e = list_all item_closed e.items ≡ true

-- a library is sound
pub record Sound (library : List Export) : Type 0 where
  pub in_order : AreInOrder library
  pub built_in : All (Contains library) built_in_exports
  pub primitive : All HasPrimitivesOnlyIfBuiltIn library
  pub with_notations : All HasNotationsOfItems library
  pub closed : All HasClosedItems library
  pub known : (e : Export) → Contains library e → All (HasName library) e.dependencies
  pub acyclic : (a : Name) → DependsOn library a a → ⊥
  pub derivable : (e : Export) → Contains library e → OwesDerivable library e

-- exports of a library, in the order of names
abbrev pub AreExportsOf : List Export → List Export → Type 0
AreExportsOf library es = AreInOrder es × All (Contains library) es

-- the library with one more export, at its place in the order of names
abbrev pub added : Export → List Export → List Export
added e [] = e ∷ []
added e (f ∷ fs) = if nat_lt f.name.number e.name.number then f ∷ added e fs else e ∷ f ∷ fs

abbrev pub next_place : Bool → ℕ → ℕ
next_place true k = suc k
next_place false k = 0

-- how many exports at the front have names before this one
abbrev pub place_in : Name → List Export → ℕ
place_in n [] = 0
place_in n (f ∷ fs) = next_place (nat_lt f.name.number n.number) (place_in n fs)

-- an export that a sound library may take up
pub record MayBeAdded (library : List Export) (e : Export) : Type 0 where
  pub fresh : HasName library e.name → ⊥
  pub primitive : HasPrimitivesOnlyIfBuiltIn e
  pub with_notations : HasNotationsOfItems e
  pub closed : HasClosedItems e
  pub known : All (HasName library) e.dependencies
  pub derivable : OwesDerivable (added e library) e

-- a library stays sound where such an export is added
abbrev pub AddedLaw : Type 0
AddedLaw = (library : List Export) (e : Export) → Sound library → MayBeAdded library e → Sound (added e library)

-- what an item may rest on, a later item of its export may rest on too
abbrev pub LaterLaw : Type 0
LaterLaw =
    (library : List Export) (e : Export) (j k : ℕ) (f : Formula) → j ≤ k → IsBefore library e j f → IsBefore library e k f

-- what an item of a dependency may rest on, each item of the dependent may rest on too
abbrev pub DependencyLaw : Type 0
DependencyLaw =
    (library : List Export) (d e : Export) (j k : ℕ) (f : Formula) → Contains library d → DependsOn library e.name d.name → IsBefore library d j f → IsBefore library e k f

-- the built-in exports alone are a sound library
abbrev pub BuiltInLaw : Type 0
BuiltInLaw = Sound built_in_exports
