-- Proofs that what is let in has no constant and no loose index.
use Rattle.std.proofs.Common.{◌≡◌, ◌⊎◌, inl, inr, List, [], ◌∷◌, refl, subst, true}
use Rattle.std.specs.Prelude.{if◌then◌else◌, Contains}
use Rattle.std.specs.List.{list_all}
use Rattle.std.proofs.lemmas.Bool.{and_parts}
use Rattle.std.proofs.lemmas.List.Elements.{All-contains}
use Rattle.mz_base.specs.declared.name.Name.{Name}
use Rattle.mz_base.specs.declared.head.DirectiveKind.{DirectiveKind}
use Rattle.mz_base.specs.declared.head.DirectiveKind.TheVariants.{Vocabularies, Notations, Constructors, Registrations, Definitions, Theorems, Schemes, Requirements, Equalities, Expansions}
use Rattle.mz_core.specs.declared.item.Item.{Item}
use Rattle.mz_items.specs.Closed.{item_closed}
use Rattle.mz_axioms.specs.Library.{HasClosedItems}
use Rattle.mz_environment.specs.Environment.{no_environment, of_item}
use Rattle.mz_environment.specs.declared.numbering.Numbering.{Numbering}
use Rattle.mz_closed_laws.specs.ClosedEnvironment.{IsClosedEnvironment}
use Rattle.mz_closed_laws.proofs.EnvironmentProofs.{given_law, nothing_law, joined_law}
use Rattle.mz_env.specs.Symbols.{registration_in}
use Rattle.mz_env.specs.Shares.{is_registration, share, constructors_share, registrations_share}
use Rattle.mz_env_laws.specs.LetInLaws.{ClosedLaw}
use Rattle.mz_env_laws.proofs.Along.{Spreads, if_holds, in_none, first_or_later, stands_member, let_in_holds}

-- without constants and loose indices
closed_none : IsClosedEnvironment no_environment
closed_none = nothing_law

part_closed : (articles : List Name) (kind : DirectiveKind) (at : Numbering) (x : Item) → item_closed x ≡ true → IsClosedEnvironment (share articles kind at x)
part_closed articles Vocabularies at x h = closed_none
part_closed articles Notations at x h =
    let w : IsClosedEnvironment (of_item at x) = given_law at x h in
    record { functors = refl; modes = refl; structures = refl; notations = w.notations; typing = refl; further = refl; equalities = refl; steps = refl; expansions = refl; registrations = refl; theorems = refl; schemes = refl }
part_closed articles Constructors at x h =
    let w : IsClosedEnvironment (of_item at x) = given_law at x h in
    if_holds IsClosedEnvironment (is_registration x) no_environment (constructors_share x) closed_none
    (record { functors = w.functors; modes = w.modes; structures = w.structures; notations = refl; typing = w.typing; further = w.further; equalities = refl; steps = refl; expansions = refl; registrations = refl; theorems = refl; schemes = refl })
part_closed articles Registrations at x h =
    let w : IsClosedEnvironment (of_item at x) = given_law at x h in
    if_holds IsClosedEnvironment (is_registration x) (if registration_in articles x then registrations_share x else no_environment) no_environment
    (if_holds IsClosedEnvironment (registration_in articles x) (registrations_share x) no_environment
    (record { functors = refl; modes = refl; structures = refl; notations = refl; typing = w.typing; further = w.further; equalities = refl; steps = refl; expansions = refl; registrations = w.registrations; theorems = refl; schemes = refl })
    closed_none)
    closed_none
part_closed articles Definitions at x h =
    let w : IsClosedEnvironment (of_item at x) = given_law at x h in
    record { functors = refl; modes = refl; structures = refl; notations = refl; typing = refl; further = refl; equalities = w.equalities; steps = w.steps; expansions = w.expansions; registrations = refl; theorems = refl; schemes = refl }
part_closed articles Theorems at x h =
    let w : IsClosedEnvironment (of_item at x) = given_law at x h in
    record { functors = refl; modes = refl; structures = refl; notations = refl; typing = refl; further = refl; equalities = refl; steps = refl; expansions = refl; registrations = refl; theorems = w.theorems; schemes = refl }
part_closed articles Schemes at x h =
    let w : IsClosedEnvironment (of_item at x) = given_law at x h in
    record { functors = refl; modes = refl; structures = refl; notations = refl; typing = refl; further = refl; equalities = refl; steps = refl; expansions = refl; registrations = refl; theorems = refl; schemes = w.schemes }
part_closed articles Requirements at x h = closed_none
part_closed articles Equalities at x h =
    let w : IsClosedEnvironment (of_item at x) = given_law at x h in
    record { functors = refl; modes = refl; structures = refl; notations = refl; typing = refl; further = refl; equalities = w.equalities; steps = refl; expansions = refl; registrations = refl; theorems = refl; schemes = refl }
part_closed articles Expansions at x h =
    let w : IsClosedEnvironment (of_item at x) = given_law at x h in
    record { functors = refl; modes = refl; structures = refl; notations = refl; typing = refl; further = refl; equalities = refl; steps = refl; expansions = w.expansions; registrations = refl; theorems = refl; schemes = refl }

closed_spreads : Spreads IsClosedEnvironment (λ at x. item_closed x ≡ true)
closed_spreads = record { nothing = closed_none; both = joined_law; whole = given_law; part = part_closed }

-- of a list that has a property, each entry has it
pub member_holds : (xs : List Item) (y : Item) → list_all item_closed xs ≡ true → Contains xs y → item_closed y ≡ true
member_holds [] y h is = absurd (in_none y is)
member_holds (x ∷ xs) y h is =
    let both : (item_closed x ≡ true) × (list_all item_closed xs ≡ true) = and_parts (item_closed x) (list_all item_closed xs) h in
    elim (first_or_later x y xs is) [ inl same ↦ subst (λ z. item_closed z ≡ true) same both.0 | inr later ↦ member_holds xs y both.1 later ]

pub closed_law : ClosedLaw
closed_law head exports e all v =
    let_in_holds IsClosedEnvironment (λ at x. item_closed x ≡ true) closed_spreads head exports e
    (λ d is at x stands. member_holds d.items x (All-contains HasClosedItems exports d all is) (stands_member stands)) v
