-- The articles on which an article depends are known where its environment part was let in.
use Rattle.std.proofs.Common.{◌≡◌, ◌⊎◌, inl, inr, ℕ, Bool, true, false, List, [], ◌∷◌, ◌++◌, map, flat_map, fold, refl, sym, ap, subst, ◌∙◌, Option, Some, None}
use Rattle.std.specs.Prelude.{All, Contains, Result, Ok, Err, if◌then◌else◌, nat_eq}
use Rattle.std.specs.List.{list_any}
use Rattle.std.proofs.lemmas.Bool.{eqb-true}
use Rattle.std.proofs.lemmas.List.Elements.{Contains-append_left, Contains-append_right, All-nil, All-push, All-contains}
use Rattle.mz_base.specs.declared.name.Name.{Name}
use Rattle.mz_base.specs.declared.place.Place.{Place}
use Rattle.mz_base.specs.declared.head.DirectiveKind.{DirectiveKind}
use Rattle.mz_base.specs.declared.head.DirectiveKind.TheVariants.{Vocabularies, Notations, Constructors, Registrations, Definitions, Theorems, Schemes, Requirements, Equalities, Expansions}
use Rattle.mz_base.specs.declared.head.PlacedName.{PlacedName}
use Rattle.mz_base.specs.declared.head.Directive.{Directive}
use Rattle.mz_base.proofs.NameEqual.{Name-equal}
use Rattle.mz_core.specs.declared.outcome.Export.{Export}
use Rattle.mz_environment.specs.declared.environment.Environment.{Environment}
use Rattle.mz_axioms.specs.Library.{HasName, AreExportsOf}
use Rattle.mz_env.specs.declared.directed.Directed.{Directed}
use Rattle.mz_env.specs.declared.env_fault.EnvFault.{EnvFault}
use Rattle.mz_env.specs.Visits.{export_named}
use Rattle.mz_env.specs.Shares.{whole_of}
use Rattle.mz_env.specs.LetIn as rule
use Rattle.mz_env.specs.LetIn.{directed, directive_names, directed_names, exported, constructors_known, fault_of, behind, Gives, LetIn}
use Rattle.mz_axioms.specs.Names.{hidden_name}
use Rattle.mz_env_laws.proofs.Along.{in_none, the_first, a_later, first_or_later}
use Rattle.mz_corpus.specs.Names.{is_name_of, with_name}
use Rattle.mz_corpus.specs.Directives.{names_dependencies, names_of, with_dependencies, dependencies_of}
use Rattle.mz_ground.proofs.ListLemmas.{map_contains}
use Rattle.mz_dependency_laws.specs.Dependencies.{KnownLaw}

-- no name has a fault where something was let in

abbrev IsOkay : Result Environment EnvFault → Type 0
IsOkay (Ok e) = Unit {0}
IsOkay (Err f) = ⊥

okay_rest : (e : Environment) (o : Result Environment EnvFault) → IsOkay (behind e o) → IsOkay o
okay_rest e (Ok f) h = tt
okay_rest e (Err f) h = absurd h

no_faults : {exports : List Export} {articles begun : List Name} {ds : List Directed} {o : Result Environment EnvFault} → Gives exports articles begun ds o → IsOkay o → (d : Directed) → Contains ds d → fault_of exports articles d.kind d.name d.place ≡ None
no_faults rule.nothing okay d is = absurd (in_none d is)
no_faults (rule.refused c ds f h) okay d is = absurd okay
no_faults {exports = exports} {articles = articles} (rule.let_in {rest = rest} c ds es none reaches g) okay d is =
    elim (first_or_later c d ds is) [
      | inl same ↦ subst (λ (x : Directed). fault_of exports articles x.kind x.name x.place ≡ None) same none
      | inr later ↦ no_faults g (okay_rest _ rest okay) d later
    ]

okay_told : (e f : Environment) (o : Result Environment EnvFault) → Ok e ≡ behind f o → IsOkay o
okay_told e f (Ok g) h = tt
okay_told e f (Err x) h = let no : ⊥ = cc in absurd no

-- a name without a fault, of a directive that names dependencies, is that of an export

abbrev IsNamed : List Export → Name → Type 0
IsNamed exports n = (e : Export) × (export_named exports n.number ≡ Some e)

is_exported : (exports : List Export) (n : Name) (p : Place) (o : Option Export) → export_named exports n.number ≡ o → exported p o ≡ None → IsNamed exports n
is_exported exports n p (Some e) at h = (e, at)
is_exported exports n p None at h = let no : ⊥ = cc in absurd no

has_constructors : (exports : List Export) (articles : List Name) (n : Name) (p : Place) (o : Option Export) → export_named exports n.number ≡ o → constructors_known articles p o ≡ None → IsNamed exports n
has_constructors exports articles n p (Some e) at h = (e, at)
has_constructors exports articles n p None at h = let no : ⊥ = cc in absurd no

named_by : (exports : List Export) (articles : List Name) (k : DirectiveKind) (n : Name) (p : Place) → names_dependencies k ≡ true → fault_of exports articles k n p ≡ None → IsNamed exports n
named_by exports articles Vocabularies n p d h = let no : ⊥ = cc in absurd no
named_by exports articles Notations n p d h = has_constructors exports articles n p (export_named exports n.number) refl h
named_by exports articles Constructors n p d h = is_exported exports n p (export_named exports n.number) refl h
named_by exports articles Registrations n p d h = is_exported exports n p (export_named exports n.number) refl h
named_by exports articles Definitions n p d h = is_exported exports n p (export_named exports n.number) refl h
named_by exports articles Theorems n p d h = is_exported exports n p (export_named exports n.number) refl h
named_by exports articles Schemes n p d h = is_exported exports n p (export_named exports n.number) refl h
named_by exports articles Requirements n p d h = let no : ⊥ = cc in absurd no
named_by exports articles Equalities n p d h = is_exported exports n p (export_named exports n.number) refl h
named_by exports articles Expansions n p d h = is_exported exports n p (export_named exports n.number) refl h

-- the export of a name is one of the exports, and has it

same_number : (m n : ℕ) → nat_eq m n ≡ true → m ≡ n
same_number m n e = eqb-true m n e

found_so : (e x : Export) (es : List Export) (n : ℕ) (b : Bool) → nat_eq e.name.number n ≡ b → (if b then Some e else export_named es n) ≡ Some x → (export_named es n ≡ Some x → Contains es x × (x.name.number ≡ n)) → Contains (e ∷ es) x × (x.name.number ≡ n)
found_so e x es n true is at later = let same : e ≡ x = cc in (subst (Contains (e ∷ es)) same (the_first e es), ap (λ (y : Export). y.name.number) (sym same) ∙ same_number e.name.number n is)
found_so e x es n false is at later = let found = later at in (a_later e x es found.0, found.1)

pub found : (es : List Export) (n : ℕ) (x : Export) → export_named es n ≡ Some x → Contains es x × (x.name.number ≡ n)
found [] n x at = let no : ⊥ = cc in absurd no
found (e ∷ es) n x at = found_so e x es n (nat_eq e.name.number n) refl at (found es n x)

known_name : (library exports : List Export) (n : Name) → AreExportsOf library exports → IsNamed exports n → HasName library n
known_name library exports n of_library (e, at) =
    let has = found exports n.number e at in
    (e, All-contains (Contains library) exports e of_library.1 has.0, Name-equal e.name n has.1)

-- each dependency is a name of such a directive

-- what holds of the names of these directives holds of the dependencies
with_one : (P : Name → Type 0) (ns : List Name) (n : Name) (b : Bool) → All P ns → P n → All P (if b then ns else ns ++ n ∷ [])
with_one P ns n true h k = h
with_one P ns n false h k = All-push P ns n h k

with_all : (P : Name → Type 0) (ns ms : List Name) → All P ns → ((m : Name) → Contains ms m → P m) → All P (fold with_name ns ms)
with_all P ns [] h k = h
with_all P ns (m ∷ ms) h k = with_all P (with_name ns m) ms (with_one P ns m (list_any (is_name_of m) ns) h (k m (the_first m ms))) (λ n is. k n (a_later m n ms is))

with_directive : (P : Name → Type 0) (ns : List Name) (d : Directive) (b : Bool) → names_dependencies d.kind ≡ b → All P ns → (names_dependencies d.kind ≡ true → (m : Name) → Contains (names_of d) m → P m) → All P (if b then fold with_name ns (names_of d) else ns)
with_directive P ns d true is h k = with_all P ns (names_of d) h (k is)
with_directive P ns d false is h k = h

with_directives : (P : Name → Type 0) (ns : List Name) (ds : List Directive) → All P ns → ((d : Directive) → Contains ds d → names_dependencies d.kind ≡ true → (m : Name) → Contains (names_of d) m → P m) → All P (fold with_dependencies ns ds)
with_directives P ns [] h k = h
with_directives P ns (d ∷ ds) h k = with_directives P (with_dependencies ns d) ds (with_directive P ns d (names_dependencies d.kind) refl h (k d (the_first d ds))) (λ c is. k c (a_later d c ds is))

-- a name of a directive, with the directive's kind
in_directive : (d : Directive) (ns : List PlacedName) (m : Name) → Contains (map (λ (x : PlacedName). x.name) ns) m → (x : PlacedName) × Contains ns x × (x.name ≡ m)
in_directive d [] m is = absurd (in_none m is)
in_directive d (x ∷ xs) m is =
    elim (first_or_later x.name m (map (λ (y : PlacedName). y.name) xs) is) [
      | inl same ↦ (x, the_first x xs, same)
      | inr later ↦ let found = in_directive d xs m later in (found.0, a_later x found.0 xs found.1, found.2)
    ]

in_all : (ds : List Directive) (d : Directive) (x : Directed) → Contains ds d → Contains (directive_names d) x → Contains (directed_names ds) x
in_all [] d x is at = absurd (in_none d is)
in_all (c ∷ ds) d x is at =
    elim (first_or_later c d ds is) [
      | inl same ↦ Contains-append_left (directive_names c) (directed_names ds) x (subst (λ e. Contains (directive_names e) x) (sym same) at)
      | inr later ↦ Contains-append_right (directive_names c) (directed_names ds) x (in_all ds d x later at)
    ]

pub known_dependencies : KnownLaw
known_dependencies library exports ds e of_library lets =
    let okay = okay_told e (whole_of (export_named exports hidden_name.number)) lets.told lets.with_hidden in
    with_directives (HasName library) [] ds (All-nil (HasName library))
    (λ d is depends m among.
    let x = in_directive d d.names m among in
    let placed = directed d.kind x.0 in
    let none = no_faults lets.gives okay placed (in_all ds d placed is (map_contains (directed d.kind) d.names x.0 x.1)) in
    subst (HasName library) x.2 (known_name library exports x.0.name of_library (named_by exports lets.articles d.kind x.0.name x.0.place depends none)))
