-- The faults of a name.
use Rattle.std.proofs.Common.{◌≡◌, ℕ, suc, ◌+◌, ◌<◌, ◌≤◌, List, [], ◌∷◌, length, get_or, drop, refl, sym, ap, ◌∙◌, drop-cons, add-one, Bool, true, false, arith}
use Rattle.std.specs.Prelude.{if◌then◌else◌, nat_eq, codes, Option, Some, None}
use Rattle.std.specs.List.{list_all}
use Rattle.std.proofs.lemmas.List.{drop_all}
use Rattle.mz_base.specs.Name.{text_of}
use Rattle.mz_base.specs.declared.name.Name.{Name}
use Rattle.mz_base.specs.declared.place.Place.{Place}
use Rattle.mz_core.specs.declared.item.Item.{Item}
use Rattle.mz_core.specs.declared.outcome.Export.{Export}
use Rattle.mz_items.specs.Exports.{notations_of}
use Rattle.mz_axioms.specs.Names.{hidden_name}
use Rattle.mz_axioms.proofs.BuiltInLemmas.{name-hidden}
use Rattle.mz_env.specs.declared.env_fault.EnvFault.{EnvFault}
use Rattle.mz_env.specs.declared.env_fault.EnvFault.TheVariants.{NotExported, UnknownRequirement}
use Rattle.mz_env.specs.Symbols.{notation_in}
use Rattle.mz_env.specs.LetIn.{first_missing, missing_at, exported, constructors_known, requirement_known}

if-chosen_first : {X : Type 0} (b : Bool) (x y : X) → b ≡ true → (if b then x else y) ≡ x
if-chosen_first true x y h = refl
if-chosen_first false x y h = cc

if-chosen_last : {X : Type 0} (b : Bool) (x y : X) → b ≡ false → (if b then x else y) ≡ y
if-chosen_last true x y h = cc
if-chosen_last false x y h = refl

-- the loop over items
first_missing-turn : (articles : List Name) (xs : List Item) (i above : ℕ) (x : Item) → i < length xs → x ≡ get_or xs i x → first_missing articles above (drop i xs) ≡ (if list_all (notation_in articles) (notations_of x) then first_missing articles (suc above) (drop (i + 1) xs) else Some (suc above))
first_missing-turn articles xs i above x lt at =
    let cut : drop i xs ≡ x ∷ drop (i + 1) xs = rw (add-one, drop-cons xs i x) (ap (λ y. y ∷ drop (suc i) xs) (sym at)) in
    ap (first_missing articles above) cut

sum-more : (n : ℕ) → n + 1 ≡ suc n
sum-more n = omega arith

pub told_missing : (articles : List Name) (xs : List Item) (i above number : ℕ) (x : Item) (b : Bool) (o : Option ℕ) → i < length xs → x ≡ get_or xs i x → b ≡ list_all (notation_in articles) (notations_of x) → b ≡ false → number ≡ above + 1 → first_missing articles above (drop i xs) ≡ o → Some number ≡ o
told_missing articles xs i above number x b o lt at is fails count goes =
    ap Some (count ∙ sum-more above) ∙
    (sym (if-chosen_last (list_all (notation_in articles) (notations_of x)) (first_missing articles (suc above) (drop (i + 1) xs)) (Some (suc above)) (sym is ∙ fails)) ∙
    (sym (first_missing-turn articles xs i above x lt at) ∙ goes))

pub first_missing-told_known : (articles : List Name) (xs : List Item) (i above number : ℕ) (x : Item) (b : Bool) (o : Option ℕ) → i < length xs → x ≡ get_or xs i x → b ≡ list_all (notation_in articles) (notations_of x) → b ≡ true → number ≡ above + 1 → first_missing articles above (drop i xs) ≡ o → first_missing articles number (drop (i + 1) xs) ≡ o
first_missing-told_known articles xs i above number x b o lt at is holds count goes =
    ap (λ n. first_missing articles n (drop (i + 1) xs)) (count ∙ sum-more above) ∙
    (sym (if-chosen_first (list_all (notation_in articles) (notations_of x)) (first_missing articles (suc above) (drop (i + 1) xs)) (Some (suc above)) (sym is ∙ holds)) ∙
    (sym (first_missing-turn articles xs i above x lt at) ∙ goes))

pub told_none_missing : (articles : List Name) (xs : List Item) (i above : ℕ) (o : Option ℕ) → length xs ≤ i → first_missing articles above (drop i xs) ≡ o → None ≡ o
told_none_missing articles xs i above o past goes = sym (ap (first_missing articles above) (drop_all i xs past)) ∙ goes

pub ruleset missing_rules = (told_missing, first_missing-told_known, told_none_missing)

-- an export of the name
pub told_not_exported : (place : Place) (o : Option Export) → o ≡ None → Some (NotExported place) ≡ exported place o
told_not_exported place o none = ap (exported place) (sym none)

pub told_exported : (place : Place) (o : Option Export) (e : Export) → o ≡ Some e → None ≡ exported place o
told_exported place o e some = ap (exported place) (sym some)

pub ruleset exported_rules = (told_not_exported, told_exported)

pub told_no_notations : (articles : List Name) (place : Place) (o : Option Export) → o ≡ None → Some (NotExported place) ≡ constructors_known articles place o
told_no_notations articles place o none = ap (constructors_known articles place) (sym none)

pub told_notations : (articles : List Name) (place : Place) (o : Option Export) (e : Export) (n : Option ℕ) (f : Option EnvFault) → o ≡ Some e → n ≡ first_missing articles 0 e.items → f ≡ missing_at place n → f ≡ constructors_known articles place o
told_notations articles place o e n f some is fault = fault ∙ (ap (missing_at place) is ∙ ap (constructors_known articles place) (sym some))

pub ruleset known_rules = (told_no_notations, told_notations)

-- HIDDEN
hidden_number : (h : Name) → text_of h.number ≡ codes "HIDDEN" → h.number ≡ hidden_name.number
hidden_number h is = ap (λ (k : Name). k.number) (name-hidden h is)

pub told_hidden : (place : Place) (n h : Name) → text_of h.number ≡ codes "HIDDEN" → nat_eq n.number h.number ≡ true → None ≡ requirement_known place n
told_hidden place n h is same =
    sym (if-chosen_first (nat_eq n.number hidden_name.number) None (Some (UnknownRequirement place)) (ap (nat_eq n.number) (sym (hidden_number h is)) ∙ same))

pub told_unknown : (place : Place) (n h : Name) → text_of h.number ≡ codes "HIDDEN" → nat_eq n.number h.number ≡ false → Some (UnknownRequirement place) ≡ requirement_known place n
told_unknown place n h is other =
    sym (if-chosen_last (nat_eq n.number hidden_name.number) None (Some (UnknownRequirement place)) (ap (nat_eq n.number) (sym (hidden_number h is)) ∙ other))

pub ruleset requirement_rules = (told_hidden, told_unknown)
