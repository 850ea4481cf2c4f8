-- What an article proves that rests on the built-in articles alone derives from the axioms.
use Rattle.std.proofs.Common.{◌≡◌, inl, inr, Bool, true, false, List, [], ◌∷◌, ◌++◌, append-nil, refl, sym, ap, ◌∙◌, subst}
use Rattle.std.specs.Prelude.{Contains, take}
use Rattle.std.proofs.lemmas.List.Elements.{Contains-append_left, Contains-append_right, Contains-append_cases}
use Rattle.mz_base.specs.Name.{is_built_in}
use Rattle.mz_base.specs.declared.name.Name.{Name}
use Rattle.mz_logic.specs.Formula.{Formula}
use Rattle.mz_core.specs.Erasure.{erase}
use Rattle.mz_core.specs.declared.item.Item.{Item}
use Rattle.mz_core.specs.declared.outcome.Export.{Export}
use Rattle.mz_ground.proofs.ListLemmas.{contains_none, contains_one, contains_cases, contains_first, contains_later}
use Rattle.mz_items.specs.Items.{owes, grants}
use Rattle.mz_items.specs.SchemeRows.{axiom_scheme_grant}
use Rattle.mz_axioms.specs.Axioms.{objects_are_sets, extensionality, pairs, unions, regularity, replacement, universes}
use Rattle.mz_axioms.specs.AxiomList.{axioms}
use Rattle.mz_axioms.specs.BuiltIn.{hidden, tarski_0, tarski_a, built_in_exports}
use Rattle.mz_axioms.specs.Library.{HasName, AreExportsOf, granted}
use Rattle.mz_axioms.proofs.BuiltInLemmas.{built_in_order, built_in_named, built_in_sound}
use Rattle.mz_dependency_laws.specs.Formulas.{formulas_of}
use Rattle.mz_dependency_laws.proofs.LibraryRests.{used_exports}
use Rattle.mz_standing_laws.specs.Owed.{IsOwed, AreOwed}
use Rattle.mz_standing_laws.specs.Soundly.{axioms_of}
use Rattle.mz_standing_laws.proofs.OwedProofs.{owed_more, owed_there}
use Rattle.mz_accepted_laws.specs.Alone.{AxiomsLaw, TheoremsLaw, AloneLaw}
use Rattle.mz_accepted_laws.proofs.AcceptedProofs.{Rested, accepted_rests, accepted_law}

-- what the built-in articles say are the axioms

nothing_said : (f : Formula) → Contains (formulas_of hidden) f → ⊥
unfolding owes grants
nothing_said f is = contains_none f is

abbrev of_tarski_0 : List Formula
of_tarski_0 =
    erase objects_are_sets ∷ erase extensionality ∷ erase pairs ∷ erase unions ∷ erase regularity ∷ erase (axiom_scheme_grant replacement) ∷ []

abbrev of_tarski_a : List Formula
of_tarski_a = erase universes ∷ []

tarski_0_says : formulas_of tarski_0 ≡ of_tarski_0
unfolding owes grants
tarski_0_says = refl

tarski_a_says : formulas_of tarski_a ≡ of_tarski_a
unfolding owes grants
tarski_a_says = refl

append-axioms_are : of_tarski_0 ++ of_tarski_a ≡ axioms
unfolding axioms
append-axioms_are = refl

said_by : (d c : Export) (f : Formula) → d ≡ c → Contains (formulas_of c) f → Contains (formulas_of d) f
said_by d c f same said = subst (λ (x : Export). Contains (formulas_of x) f) (sym same) said

is_axiom : (f : Formula) → Contains (of_tarski_0 ++ of_tarski_a) f → Contains axioms f
is_axiom f is = subst (λ fs. Contains fs f) append-axioms_are is

built_in_says : (d : Export) (f : Formula) → Contains built_in_exports d → Contains (formulas_of d) f → Contains axioms f
built_in_says d f is said = elim (contains_cases hidden d (tarski_0 ∷ tarski_a ∷ []) is) [
  | inl first ↦ absurd (nothing_said f (said_by hidden d f first said))
  | inr later ↦ elim (contains_cases tarski_0 d (tarski_a ∷ []) later) [
    | inl second ↦ is_axiom f (Contains-append_left of_tarski_0 of_tarski_a f (subst (λ fs. Contains fs f) tarski_0_says (said_by tarski_0 d f second said)))
    | inr last ↦ is_axiom f (Contains-append_right of_tarski_0 of_tarski_a f (subst (λ fs. Contains fs f) tarski_a_says (said_by tarski_a d f (contains_one tarski_a d last) said)))
  ]
]

all_say : (ds : List Export) → ((d : Export) → Contains ds d → Contains built_in_exports d) → (f : Formula) → Contains (axioms_of ds) f → Contains axioms f
all_say [] built_in f is = absurd (contains_none f is)
all_say (d ∷ ds) built_in f is = elim (Contains-append_cases (formulas_of d) (axioms_of ds) f is) [
  | inl front ↦ built_in_says d f (built_in d (contains_first d ds)) front
  | inr back ↦ all_say ds (λ c within. built_in c (contains_later d c ds within)) f back
]

-- so what is owed from them is owed from the axioms
owed_from_axioms : (ds : List Export) → ((d : Export) → Contains ds d → Contains built_in_exports d) → (items : List Item) → AreOwed (axioms_of ds) items → AreOwed axioms items
owed_from_axioms ds built_in items met k x at =
    let own : List Formula = granted (take k items) in
    owed_more (axioms_of ds ++ own) (axioms ++ own) x
    (λ f is. elim (Contains-append_cases (axioms_of ds) own f is) [
      | inl said ↦ Contains-append_left axioms own f (all_say ds built_in f said)
      | inr earlier ↦ Contains-append_right axioms own f earlier
    ])
    (met k x at)

of_themselves : AreExportsOf built_in_exports built_in_exports
of_themselves = (built_in_order, built_in_sound.built_in)

pub axioms_law : AxiomsLaw
axioms_law name vs bytes e accepted =
    let r : Rested built_in_exports e = accepted_rests name vs built_in_exports bytes e built_in_exports built_in_sound of_themselves accepted in
    owed_from_axioms r.setting.used
    (λ d is. (used_exports built_in_exports built_in_exports e r.head built_in_sound of_themselves r.depends d (r.set_so.are_used d is)).0)
    e.items r.met

pub theorems_law : TheoremsLaw
theorems_law name vs bytes e accepted none x is =
    subst (λ ax. IsOwed ax x) (ap (λ fs. axioms ++ fs) none ∙ append-nil axioms) (owed_there axioms e.items (axioms_law name vs bytes e accepted) x is)

true_or_false : (b : Bool) → b ≡ true → b ≡ false → ⊥
true_or_false b h k = cc

not_named : (name : Name) → is_built_in name.number ≡ false → HasName built_in_exports name → ⊥
not_named name other (e, has, same) = true_or_false (is_built_in name.number) (subst (λ (n : Name). is_built_in n.number ≡ true) same (built_in_named e has)) other

pub alone_law : AloneLaw
alone_law name vs bytes e other accepted =
    accepted_law name vs built_in_exports bytes e built_in_exports built_in_sound (not_named name other) of_themselves accepted
