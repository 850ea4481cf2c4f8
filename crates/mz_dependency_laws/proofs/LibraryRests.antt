-- What the items of used exports say derives from what an article may rest on that is added to the library.
use Rattle.std.proofs.Common.{◌≡◌, ◌<◌, ◌⊎◌, inl, inr, ℕ, Bool, true, false, ◌||◌, List, [], ◌∷◌, ◌++◌, map, flat_map, fold, refl, sym, ap, subst, ◌∙◌, arith, Some}
use Rattle.std.specs.Prelude.{Contains, take, if◌then◌else◌}
use Rattle.std.specs.List.{list_any}
use Rattle.std.proofs.lemmas.Bool.{eqb-true}
use Rattle.std.proofs.lemmas.List.Elements.{Contains-append_left, Contains-append_right, Contains-append_cases, All-contains, All-contains_itself}
use Rattle.mz_base.specs.declared.name.Name.{Name}
use Rattle.mz_base.specs.declared.head.Directive.{Directive}
use Rattle.mz_base.specs.declared.head.DirectiveKind.{DirectiveKind}
use Rattle.mz_base.specs.declared.head.DirectiveKind.TheVariants.{Vocabularies, Notations, Constructors, Registrations, Definitions, Theorems, Schemes, Requirements, Equalities, Expansions}
use Rattle.mz_base.specs.declared.head.PlacedName.{PlacedName}
use Rattle.mz_base.proofs.NameEqual.{Name-equal}
use Rattle.mz_logic.specs.Formula.{Formula}
use Rattle.mz_logic.specs.DerivesFrom.{DerivesFrom, IsNone}
use Rattle.mz_logic.specs.declared.sequent.Sequent.{Sequent}
use Rattle.mz_logic.proofs.SetLaws.{axiom_in_set, larger, from_list, other_axioms}
use Rattle.mz_core.specs.declared.item.Item.{Item}
use Rattle.mz_core.specs.declared.outcome.Export.{Export}
use Rattle.mz_items.specs.Items.{owes, grants}
use Rattle.mz_axioms.specs.BuiltIn.{hidden, tarski_0, tarski_a, built_in_exports}
use Rattle.mz_axioms.specs.Names.{hidden_name}
use Rattle.mz_axioms.specs.Library.{AreInOrder, DependsOn, directly, by_others, granted, IsBefore, of_dependency, of_earlier, IsDerivable, Sound, AreExportsOf, added}
use Rattle.mz_axioms.proofs.AddedLemmas.{here, there, first_or_later, has_new, has_old, pairs_first, pairs_later, before_added}
use Rattle.mz_axioms.proofs.BeforeLemmas.{before_dependency}
use Rattle.mz_env.specs.declared.directed.Directed.{Directed}
use Rattle.mz_env.specs.LetIn.{directed, directive_names, directed_names}
use Rattle.mz_env.specs.Visits.{export_named}
use Rattle.mz_env_laws.specs.Used as uses
use Rattle.mz_env_laws.specs.Used.{names_articles}
use Rattle.mz_ground.proofs.ListLemmas.{contains_none, contains_map, get_contained}
use Rattle.mz_corpus.specs.Names.{is_name_of, with_name}
use Rattle.mz_corpus.specs.Directives.{names_dependencies, names_of, with_dependencies}
use Rattle.mz_dependency_laws.specs.Formulas.{sequent_formula, item_formulas, formulas_of}
use Rattle.mz_dependency_laws.specs.Dependencies.{IsUsedBy, UsedByLaw, RestsLaw}
use Rattle.mz_dependency_laws.proofs.FormulaProofs.{from_flat, OrOneOf, premises_in_front}
use Rattle.mz_dependency_laws.proofs.KnownDependencies.{found}

-- exports of one name

not_before_itself : (n : ℕ) → n < n → ⊥
not_before_itself n h = omega (arith, h)

first_is_it : (e x : Export) (es : List Export) → AreInOrder (e ∷ es) → Contains es x → e.name ≡ x.name → ⊥
first_is_it e x es order is same =
    let before = All-contains (λ (y : Export). e.name.number < y.name.number) es x (pairs_first e es order) is in
    not_before_itself x.name.number (subst (λ n. n < x.name.number) (ap (λ (m : Name). m.number) same) before)

pub one_of_name : (es : List Export) (x y : Export) → AreInOrder es → Contains es x → Contains es y → x.name ≡ y.name → x ≡ y
one_of_name [] x y order is also same = absurd (contains_none x is)
one_of_name (e ∷ es) x y order is also same = elim (first_or_later e x es is) [
  | inl at ↦ elim (first_or_later e y es also) [
    | inl by ↦ at ∙ sym by
    | inr later ↦ absurd (first_is_it e y es order later (ap (λ (z : Export). z.name) (sym at) ∙ same))
  ]
  | inr later ↦ elim (first_or_later e y es also) [
    | inl by ↦ absurd (first_is_it e x es order later (ap (λ (z : Export). z.name) (sym by) ∙ sym same))
    | inr last ↦ one_of_name es x y (pairs_later e es order) later last same
  ]
]

-- each name of a directive that names articles is a dependency

kept_one : (ns : List Name) (n m : Name) (b : Bool) → Contains ns m → Contains (if b then ns else ns ++ n ∷ []) m
kept_one ns n m true is = is
kept_one ns n m false is = Contains-append_left ns (n ∷ []) m is

kept_all : (ns ms : List Name) (m : Name) → Contains ns m → Contains (fold with_name ns ms) m
kept_all ns [] m is = is
kept_all ns (n ∷ ms) m is = kept_all (with_name ns n) ms m (kept_one ns n m (list_any (is_name_of n) ns) is)

kept_if : (ns : List Name) (d : Directive) (b : Bool) (m : Name) → Contains ns m → Contains (if b then fold with_name ns (names_of d) else ns) m
kept_if ns d true m is = kept_all ns (names_of d) m is
kept_if ns d false m is = is

kept : (ns : List Name) (ds : List Directive) (m : Name) → Contains ns m → Contains (fold with_dependencies ns ds) m
kept ns [] m is = is
kept ns (d ∷ ds) m is = kept (with_dependencies ns d) ds m (kept_if ns d (names_dependencies d.kind) m is)

or_cases : (a b : Bool) → (a || b) ≡ true → (a ≡ true) ⊎ (b ≡ true)
or_cases true b e = inl refl
or_cases false b e = inr e

some_name : (ns : List Name) (n : Name) → list_any (is_name_of n) ns ≡ true → Contains ns n
some_name [] n h = let no : ⊥ = cc in absurd no
some_name (m ∷ ns) n h = elim (or_cases (is_name_of n m) (list_any (is_name_of n) ns) h) [
  | inl is ↦ subst (Contains (m ∷ ns)) (sym (Name-equal n m (eqb-true n.number m.number is))) (here m ns)
  | inr later ↦ there m n ns (some_name ns n later)
]

with_it : (ns : List Name) (n : Name) (b : Bool) → list_any (is_name_of n) ns ≡ b → Contains (if b then ns else ns ++ n ∷ []) n
with_it ns n true is = some_name ns n is
with_it ns n false is = Contains-append_right ns (n ∷ []) n (here n [])

among_names : (ns ms : List Name) (m : Name) → Contains ms m → Contains (fold with_name ns ms) m
among_names ns [] m is = absurd (contains_none m is)
among_names ns (n ∷ ms) m is = elim (first_or_later n m ms is) [
  | inl same ↦ subst (Contains (fold with_name (with_name ns n) ms)) (sym same) (kept_all (with_name ns n) ms n (with_it ns n (list_any (is_name_of n) ns) refl))
  | inr later ↦ among_names (with_name ns n) ms m later
]

among_if : (ns : List Name) (d : Directive) (b : Bool) (m : Name) → b ≡ true → Contains (names_of d) m → Contains (if b then fold with_name ns (names_of d) else ns) m
among_if ns d true m e is = among_names ns (names_of d) m is
among_if ns d false m e is = let no : ⊥ = cc in absurd no

among_dependencies : (ns : List Name) (ds : List Directive) (d : Directive) (m : Name) → Contains ds d → names_dependencies d.kind ≡ true → Contains (names_of d) m → Contains (fold with_dependencies ns ds) m
among_dependencies ns [] d m is names at = absurd (contains_none d is)
among_dependencies ns (c ∷ ds) d m is names at = elim (first_or_later c d ds is) [
  | inl same ↦
      kept (with_dependencies ns c) ds m
      (among_if ns c (names_dependencies c.kind) m (ap (λ (x : Directive). names_dependencies x.kind) (sym same) ∙ names) (subst (λ (x : Directive). Contains (names_of x) m) same at))
  | inr later ↦ among_dependencies (with_dependencies ns c) ds d m later names at
]

same_kinds : (k : DirectiveKind) → names_articles k ≡ true → names_dependencies k ≡ true
same_kinds Vocabularies e = let no : ⊥ = cc in absurd no
same_kinds Notations e = refl
same_kinds Constructors e = refl
same_kinds Registrations e = refl
same_kinds Definitions e = refl
same_kinds Theorems e = refl
same_kinds Schemes e = refl
same_kinds Requirements e = let no : ⊥ = cc in absurd no
same_kinds Equalities e = refl
same_kinds Expansions e = refl

-- the directive of a name
in_names : (d : Directive) (ns : List PlacedName) (x : Directed) → Contains (map (directed d.kind) ns) x → (x.kind ≡ d.kind) × Contains (map (λ (y : PlacedName). y.name) ns) x.name
in_names d [] x is = absurd (contains_none x is)
in_names d (n ∷ ns) x is = elim (first_or_later (directed d.kind n) x (map (directed d.kind) ns) is) [
  | inl same ↦ (ap (λ (y : Directed). y.kind) same, subst (Contains (map (λ (y : PlacedName). y.name) (n ∷ ns))) (sym (ap (λ (y : Directed). y.name) same)) (here n.name (map (λ (y : PlacedName). y.name) ns)))
  | inr later ↦ let rest = in_names d ns x later in (rest.0, there n.name x.name (map (λ (y : PlacedName). y.name) ns) rest.1)
]

in_directives : (ds : List Directive) (x : Directed) → Contains (directed_names ds) x → (d : Directive) × Contains ds d × (x.kind ≡ d.kind) × Contains (names_of d) x.name
in_directives [] x is = absurd (contains_none x is)
in_directives (d ∷ ds) x is = elim (Contains-append_cases (directive_names d) (directed_names ds) x is) [
  | inl front ↦ let at = in_names d d.names x front in (d, here d ds, at.0, at.1)
  | inr back ↦ let rest = in_directives ds x back in (rest.0, there d rest.0 ds rest.1, rest.2, rest.3)
]

-- a used export is HIDDEN's, or the article that is added depends on it

hidden_is_first : Contains built_in_exports hidden
hidden_is_first = here hidden (tarski_0 ∷ tarski_a ∷ [])

named_in : (library exports : List Export) (n : Name) (d : Export) → AreExportsOf library exports → export_named exports n.number ≡ Some d → Contains library d × (d.name ≡ n)
named_in library exports n d of_library at = let has = found exports n.number d at in (All-contains (Contains library) exports d of_library.1 has.0, Name-equal d.name n has.1)

pub used_exports : UsedByLaw
used_exports library exports e ds sound of_library depends d (uses.hidden _ at) =
    let has = named_in library exports hidden_name d of_library at in
    (has.0, inl (one_of_name library d hidden sound.in_order has.0 (All-contains (Contains library) built_in_exports hidden sound.built_in hidden_is_first) has.1))
used_exports library exports e ds sound of_library depends d (uses.named x _ is names at) =
    let has = named_in library exports x.name d of_library at in
    let by = in_directives ds x is in
    let among = among_dependencies [] ds by.0 x.name by.1 (same_kinds by.0.kind (ap names_articles (sym by.2) ∙ names)) by.3 in
    (has.0, inr (subst (DependsOn (added e library) e.name) (sym has.1) (directly e (has_new e library) refl (subst (λ ns. Contains ns x.name) (sym depends) among))))
used_exports library exports e ds sound of_library depends d (uses.dependency c _ n used within at) =
    let has = named_in library exports n d of_library at in
    let from = used_exports library exports e ds sound of_library depends c used in
    elim from.1 [
      | inl is ↦ absurd (contains_none n (subst (λ (x : Export). Contains x.dependencies n) is within))
      | inr on ↦ (has.0, inr (by_others on (subst (DependsOn (added e library) c.name) (sym has.1) (directly c (has_old e c library from.0) refl within))))
    ]

-- what it says derives

abbrev Rests : List Export → Export → ℕ → Formula → Type 0
Rests library e k f = DerivesFrom (IsBefore (added e library) e k) IsNone f

in_granted : (items : List Item) (x : Item) (f : Formula) → Contains items x → Contains (grants x) f → Contains (granted items) f
in_granted [] x f is has = absurd (contains_none x is)
in_granted (y ∷ ys) x f is has = elim (first_or_later y x ys is) [
  | inl same ↦ Contains-append_left (grants y) (granted ys) f (subst (λ z. Contains (grants z) f) same has)
  | inr later ↦ Contains-append_right (grants y) (granted ys) f (in_granted ys x f later has)
]

-- so does a sequent that one of its items owes, as a formula
owed_rests : (library : List Export) (e d : Export) (j k : ℕ) (q : Sequent) → Contains library d → DependsOn (added e library) e.name d.name → IsDerivable library d j q → Rests library e k (sequent_formula q)
owed_rests library e d j k q within depends h =
    premises_in_front (IsBefore (added e library) e k) IsNone q.premises q.conclusion
    (larger (IsBefore library d j) (IsBefore (added e library) e k) (Contains q.premises) (OrOneOf IsNone q.premises) q.conclusion
    (λ g before. before_dependency (added e library) d e j k g (has_old e d library within) depends (before_added e d library j g before)) (λ g is. inr is) h)

item_rests : (library : List Export) (e d : Export) (k : ℕ) (x : Item) (f : Formula) → Sound library → Contains library d → DependsOn (added e library) e.name d.name → Contains d.items x → Contains (item_formulas x) f → Rests library e k f
item_rests library e d k x f sound within depends member is = elim (Contains-append_cases (grants x) (map sequent_formula (owes x)) f is) [
  | inl front ↦ axiom_in_set (IsBefore (added e library) e k) IsNone f (of_dependency d (has_old e d library within) depends (in_granted d.items x f member front))
  | inr back ↦
      let from : (q : Sequent) × Contains (owes x) q × (sequent_formula q ≡ f) = contains_map sequent_formula (owes x) f back in
      subst (Rests library e k) from.2
      (owed_rests library e d member.0 k from.0 within depends
      (All-contains (IsDerivable library d member.0) (owes x) from.0 (sound.derivable d within member.0 x (get_contained d.items x member)) from.1))
]

nothing_said : (f : Formula) → Contains (formulas_of hidden) f → ⊥
unfolding owes grants
nothing_said f is = contains_none f is

export_rests : (library : List Export) (e d : Export) (k : ℕ) (f : Formula) → Sound library → IsUsedBy library e d → Contains (formulas_of d) f → Rests library e k f
export_rests library e d k f sound used is = elim used.1 [
  | inl same ↦ absurd (nothing_said f (subst (λ x. Contains (formulas_of x) f) same is))
  | inr depends ↦ let x = from_flat item_formulas d.items f is in item_rests library e d k x.0 f sound used.0 depends x.1 x.2
]

all_rest : (library : List Export) (e : Export) (k : ℕ) (ds : List Export) (f : Formula) → Sound library → ((d : Export) → Contains ds d → IsUsedBy library e d) → Contains (flat_map formulas_of ds) f → Rests library e k f
all_rest library e k ds f sound used is = let d = from_flat formulas_of ds f is in export_rests library e d.0 k f sound (used d.0 d.1) d.2

-- what derives from what used exports say and from the grants of the items before it, an item may owe
pub rests_on_used : RestsLaw
rests_on_used library e k ds q sound used derived =
    let own : List Formula = granted (take k e.items) in
    let axioms : List Formula = flat_map formulas_of ds ++ own in
    other_axioms (Contains axioms) (IsBefore (added e library) e k) (Contains q.premises) q.conclusion
    (λ f is. elim (Contains-append_cases (flat_map formulas_of ds) own f is) [
      | inl said ↦ all_rest library e k ds f sound used said
      | inr earlier ↦ axiom_in_set (IsBefore (added e library) e k) IsNone f (of_earlier earlier)
    ])
    (from_list (Contains axioms) axioms q.premises q.conclusion (All-contains_itself axioms) derived)
