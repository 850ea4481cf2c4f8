-- The built-in articles.
use Rattle.std.proofs.Common.{◌≡◌, ℕ, ◌<◌, List, [], ◌∷◌, length, codes, refl, sym, ap, ◌∙◌, arith, lit<, subst}
use Rattle.std.specs.Prelude.{true, false, Some, slice_get, All, AllPairs, Contains, map}
use Rattle.std.proofs.lemmas.List.Elements.{All-nil, All-cons, All-contains, All-contains_itself}
use Rattle.std.proofs.lemmas.List.Kept.{AllPairs-cons}
use Rattle.std.proofs.lemmas.Option.{slice_get_within, get_or_from_slice_get}
use Rattle.mz_base.specs.Name.{number_of, text_of, is_built_in}
use Rattle.mz_base.specs.declared.name.Name.{Name}
use Rattle.mz_base.proofs.NameEqual.{Name-equal}
use Rattle.mz_core.specs.declared.outcome.Export.{Export}
use Rattle.mz_core.specs.declared.item.Item.{Item}
use Rattle.mz_core.specs.declared.item.Item.TheVariants.{Primitive}
use Rattle.mz_core.specs.declared.notation.Notation.{Notation}
use Rattle.mz_items.specs.Items.{owes}
use Rattle.mz_items.specs.Exports.{HasNotationsOfItems}
use Rattle.mz_axioms.specs.Names.{hidden_name, tarski_0_name, tarski_a_name}
use Rattle.mz_axioms.specs.Axioms.{objects_are_sets, extensionality, pairs, unions, regularity, at_most_one, image, replacement, is_part, is_pair, is_singleton, pair_in, covers_first, covers_second, one_to_one, equinumerous, has_parts, has_sets_of_parts, has_small_parts, universes}
use Rattle.mz_axioms.specs.BuiltIn.{hidden_notations, hidden, tarski_0_items, tarski_0, tarski_a, built_in_exports}
use Rattle.mz_axioms.specs.Library.{IsNamedBefore, AreInOrder, HasName, DependsOn, directly, by_others, IsDerivable, OwesDerivable, HasPrimitivesOnlyIfBuiltIn, HasClosedItems, Sound}

-- a name is the one that its text spells
pub name-hidden : (n : Name) → text_of n.number ≡ codes "HIDDEN" → n ≡ hidden_name
name-hidden n h = Name-equal n hidden_name (sym n.spelled ∙ ap number_of h)

pub name-tarski_0 : (n : Name) → text_of n.number ≡ codes "TARSKI_0" → n ≡ tarski_0_name
name-tarski_0 n h = Name-equal n tarski_0_name (sym n.spelled ∙ ap number_of h)

pub name-tarski_a : (n : Name) → text_of n.number ≡ codes "TARSKI_A" → n ≡ tarski_a_name
name-tarski_a n h = Name-equal n tarski_a_name (sym n.spelled ∙ ap number_of h)

pub ruleset name_rules = (name-hidden, name-tarski_0, name-tarski_a)

-- what holds of the three
all_three : (P : Export → Type 0) → P hidden → P tarski_0 → P tarski_a → All P built_in_exports
all_three P h t a = All-cons P hidden (tarski_0 ∷ tarski_a ∷ []) h (All-cons P tarski_0 (tarski_a ∷ []) t (All-cons P tarski_a [] a (All-nil P)))

hidden_before_tarski_0 : IsNamedBefore hidden tarski_0
unfolding number_of
hidden_before_tarski_0 = lit< tt

hidden_before_tarski_a : IsNamedBefore hidden tarski_a
unfolding number_of
hidden_before_tarski_a = lit< tt

tarski_0_before_tarski_a : IsNamedBefore tarski_0 tarski_a
unfolding number_of
tarski_0_before_tarski_a = lit< tt

no_pairs : (R : Export → Export → Type 0) → AllPairs R []
no_pairs R i j d lt within = let no : ⊥ = omega arith in absurd no

pub built_in_order : AreInOrder built_in_exports
built_in_order =
    AllPairs-cons IsNamedBefore hidden (tarski_0 ∷ tarski_a ∷ [])
    (All-cons (IsNamedBefore hidden) tarski_0 (tarski_a ∷ []) hidden_before_tarski_0
    (All-cons (IsNamedBefore hidden) tarski_a [] hidden_before_tarski_a (All-nil (IsNamedBefore hidden))))
    (AllPairs-cons IsNamedBefore tarski_0 (tarski_a ∷ [])
    (All-cons (IsNamedBefore tarski_0) tarski_a [] tarski_0_before_tarski_a (All-nil (IsNamedBefore tarski_0)))
    (AllPairs-cons IsNamedBefore tarski_a [] (All-nil (IsNamedBefore tarski_a)) (no_pairs IsNamedBefore)))

hidden_built_in : is_built_in hidden.name.number ≡ true
unfolding number_of
hidden_built_in = cc

tarski_0_built_in : is_built_in tarski_0.name.number ≡ true
unfolding number_of
tarski_0_built_in = cc

tarski_a_built_in : is_built_in tarski_a.name.number ≡ true
unfolding number_of
tarski_a_built_in = cc

-- the names of the built-in exports are built in
pub built_in_named : (e : Export) → Contains built_in_exports e → is_built_in e.name.number ≡ true
built_in_named e within =
    All-contains (λ x. is_built_in x.name.number ≡ true) built_in_exports e
    (all_three (λ x. is_built_in x.name.number ≡ true) hidden_built_in tarski_0_built_in tarski_a_built_in) within

hidden_primitives : HasPrimitivesOnlyIfBuiltIn hidden
unfolding number_of
hidden_primitives h = cc

tarski_0_primitives : HasPrimitivesOnlyIfBuiltIn tarski_0
unfolding number_of
tarski_0_primitives h = cc

tarski_a_primitives : HasPrimitivesOnlyIfBuiltIn tarski_a
unfolding number_of
tarski_a_primitives h = cc

-- no built-in article depends on another
no_dependencies : (e : Export) → Contains built_in_exports e → e.dependencies ≡ []
no_dependencies e within = All-contains (λ d. d.dependencies ≡ []) built_in_exports e (all_three (λ d. d.dependencies ≡ []) refl refl refl) within

in_none : (b : Name) → Contains [] b → ⊥
in_none b h = let lt : h.0 < 0 = h.1 in omega arith

depends_on_none : (a b : Name) → DependsOn built_in_exports a b → ⊥
depends_on_none a b (directly e within named dependency) =
    in_none b (subst (λ ds. Contains ds b) (no_dependencies e within) dependency)
depends_on_none a b (by_others p q) = depends_on_none _ _ p

known : (e : Export) → Contains built_in_exports e → All (HasName built_in_exports) e.dependencies
known e within = rw (no_dependencies e within) (All-nil (HasName built_in_exports))

abbrev OwesNothing : Item → Type 0
OwesNothing item = owes item ≡ []

abbrev AllOweNothing : List Item → Type 0
AllOweNothing [] = Unit {0}
AllOweNothing (x ∷ xs) = OwesNothing x × AllOweNothing xs

all_owe_nothing : (xs : List Item) → AllOweNothing xs → All OwesNothing xs
all_owe_nothing [] h = All-nil OwesNothing
all_owe_nothing (x ∷ xs) h = All-cons OwesNothing x xs h.0 (all_owe_nothing xs h.1)

abbrev HasNothingOwed : Export → Type 0
HasNothingOwed e = All OwesNothing e.items

nothing_owed : All HasNothingOwed built_in_exports
unfolding owes
nothing_owed =
    all_three HasNothingOwed
    (all_owe_nothing hidden.items (refl, (refl, (refl, (refl, (refl, tt))))))
    (all_owe_nothing tarski_0.items (refl, (refl, (refl, (refl, (refl, (refl, tt)))))))
    (all_owe_nothing tarski_a.items (refl, tt))

derivable : (e : Export) → Contains built_in_exports e → OwesDerivable built_in_exports e
derivable e within k item at =
    let member : Contains e.items item = (k, slice_get_within e.items k item at, get_or_from_slice_get e.items k item item at) in
    let none : owes item ≡ [] = All-contains OwesNothing e.items item (All-contains HasNothingOwed built_in_exports e nothing_owed within) member in
    rw none (All-nil (IsDerivable built_in_exports e k))

tarski_0_closed : HasClosedItems tarski_0
unfolding objects_are_sets extensionality pairs unions regularity replacement at_most_one image
tarski_0_closed = refl

tarski_a_closed : HasClosedItems tarski_a
unfolding universes is_part is_pair is_singleton pair_in covers_first covers_second one_to_one equinumerous has_parts has_sets_of_parts has_small_parts
tarski_a_closed = refl

pub built_in_sound : Sound built_in_exports
built_in_sound =
    record {
      in_order = built_in_order;
      built_in = All-contains_itself built_in_exports;
      primitive = all_three HasPrimitivesOnlyIfBuiltIn hidden_primitives tarski_0_primitives tarski_a_primitives;
      with_notations = all_three HasNotationsOfItems refl refl refl;
      closed = all_three HasClosedItems refl tarski_0_closed tarski_a_closed;
      known = known;
      acyclic = λ a h. depends_on_none a a h;
      derivable = derivable;
    }
