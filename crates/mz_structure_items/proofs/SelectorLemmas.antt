-- What the code of inherited selectors tells.
use Rattle.std.proofs.Common.{◌≡◌, ◌∙◌, List, [], ◌++◌, refl, ap}
use Rattle.std.specs.List.{filter}
use Rattle.mz_logic.specs.declared.sym.Sym.{Sym}
use Rattle.mz_core.specs.declared.structure.Structure.{Structure}
use Rattle.mz_environment.specs.Keys.{structure_has}
use Rattle.mz_types.specs.Structures.{is_structure, structure_of}
use Rattle.mz_types.proofs.FindLemmas as found
use Rattle.mz_structure_items.specs.Selectors.{selectors_if_any}
use Rattle.mz_structure_items.specs.declared.selectors.NamedSelector.{NamedSelector}

pub told_own : (s : Sym) (own all : List Structure) (xs ys : List NamedSelector) → own ≡ filter (structure_has s) all → xs ≡ ys ++ selectors_if_any (structure_of own s) → ys ≡ [] → xs ≡ selectors_if_any (structure_of all s)
told_own s own all xs ys eo e ey =
    (e ∙ ap (λ zs. zs ++ selectors_if_any (structure_of own s)) ey) ∙ ap selectors_if_any (found.told_own (is_structure s) own all (structure_of own s) eo refl)
