-- What an item may rest on.
use Rattle.std.proofs.Common.{◌≡◌, ◌≤◌, ◌+◌, ◌-◌, ℕ, List, ◌++◌, refl, sym, ap, ◌∙◌, arith, subst}
use Rattle.std.specs.Prelude.{take, drop, flat_map, Contains}
use Rattle.std.proofs.lemmas.Grind.{flat_map-append}
use Rattle.std.proofs.Math.Seq.{take-add}
use Rattle.std.proofs.lemmas.List.{take-append-drop}
use Rattle.std.proofs.lemmas.List.Elements.{Contains-append_left}
use Rattle.mz_logic.specs.Formula.{Formula}
use Rattle.mz_core.specs.declared.item.Item.{Item}
use Rattle.mz_items.specs.Items.{grants}
use Rattle.mz_axioms.specs.Library.{DependsOn, by_others, granted, IsBefore, of_axioms, of_dependency, of_earlier, LaterLaw, DependencyLaw}

granted_more : (xs ys : List Item) (f : Formula) → Contains (granted xs) f → Contains (granted (xs ++ ys)) f
granted_more xs ys f h = subst (λ fs. Contains fs f) (sym (flat_map-append grants xs ys)) (Contains-append_left (granted xs) (granted ys) f h)

granted_later : (items : List Item) (j k : ℕ) (f : Formula) → j ≤ k → Contains (granted (take j items)) f → Contains (granted (take k items)) f
granted_later items j k f le h =
    let whole : k ≡ j + (k - j) = omega (arith, le) in
    subst (λ xs. Contains (granted xs) f) (sym (ap (λ n. take n items) whole ∙ take-add j (k - j) items)) (granted_more (take j items) (take (k - j) (drop j items)) f h)

granted_all : (items : List Item) (j : ℕ) (f : Formula) → Contains (granted (take j items)) f → Contains (granted items) f
granted_all items j f h =
    subst (λ xs. Contains (granted xs) f) (take-append-drop j items) (granted_more (take j items) (drop j items) f h)

pub before_later : LaterLaw
before_later library e j k f le (of_axioms h) = of_axioms h
before_later library e j k f le (of_dependency d within depends h) = of_dependency d within depends h
before_later library e j k f le (of_earlier h) = of_earlier (granted_later e.items j k f le h)

pub before_dependency : DependencyLaw
before_dependency library d e j k f within depends (of_axioms h) = of_axioms h
before_dependency library d e j k f within depends (of_dependency c at other h) = of_dependency c at (by_others depends other) h
before_dependency library d e j k f within depends (of_earlier h) = of_dependency d within depends (granted_all d.items j f h)
