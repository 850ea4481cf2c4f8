-- What holds of nothing, of what items give, and of two environments joined, holds of what is let in.
use Rattle.std.proofs.Common.{◌≡◌, ◌<◌, ◌⊎◌, inl, inr, ℕ, zero, suc, List, [], ◌∷◌, refl, sym, ap, subst, arith, Bool, true, false}
use Rattle.std.specs.Prelude.{Contains, Option, Some, None, Result, Ok, Err, nat_eq, if◌then◌else◌}
use Rattle.std.proofs.lemmas.List.Elements.{Contains-append_cases}
use Rattle.mz_base.specs.declared.name.Name.{Name}
use Rattle.mz_base.specs.declared.head.Directive.{Directive}
use Rattle.mz_base.specs.declared.head.DirectiveKind.{DirectiveKind}
use Rattle.mz_base.specs.declared.head.DirectiveKind.TheVariants.{Vocabularies, Notations, Constructors, Registrations, Definitions, Theorems, Schemes, Requirements, Equalities, Expansions}
use Rattle.mz_core.specs.declared.item.Item.{Item}
use Rattle.mz_core.specs.declared.outcome.Export.{Export}
use Rattle.mz_axioms.specs.Names.{hidden_name}
use Rattle.mz_environment.specs.Cited.{at_start, numbered}
use Rattle.mz_environment.specs.Environment.{no_environment, joined, of_item}
use Rattle.mz_environment.specs.declared.numbering.Numbering.{Numbering}
use Rattle.mz_environment.specs.declared.environment.Environment.{Environment}
use Rattle.mz_env.specs.declared.directed.Directed.{Directed}
use Rattle.mz_env.specs.declared.env_fault.EnvFault.{EnvFault}
use Rattle.mz_env.specs.Shares.{share, shares, shares_of, wholes, whole_of}
use Rattle.mz_env.specs.Visits.{export_named, Visits, no_more, again, absent, let_in}
use Rattle.mz_env.specs.LetIn as rule
use Rattle.mz_env.specs.LetIn.{alone, behind, Reaches, Gives, LetIn}
use Rattle.mz_env_laws.specs.Entries.{StandsAmong, first_item, later_item, StandsIn}

-- members
pub the_first : {X : Type 0} (x : X) (xs : List X) → Contains (x ∷ xs) x
the_first x xs = (0, omega arith, refl)

pub a_later : {X : Type 0} (x y : X) (xs : List X) → Contains xs y → Contains (x ∷ xs) y
a_later x y xs is = (suc is.0, omega (arith, is.1), is.2)

pub in_none : {X : Type 0} (x : X) → Contains [] x → ⊥
in_none x is = let lt : is.0 < 0 = is.1 in omega arith

pub first_or_later : {X : Type 0} (x y : X) (xs : List X) → Contains (x ∷ xs) y → (x ≡ y) ⊎ Contains xs y
first_or_later x y xs (zero, lt, e) = inl e
first_or_later x y xs (suc i, lt, e) = inr (i, omega arith, e)

-- a choice of two environments
pub if_holds : (P : Environment → Type 0) (b : Bool) (e f : Environment) → P e → P f → P (if b then e else f)
if_holds P true e f p q = p
if_holds P false e f p q = q

-- the export of a name is one of the exports
abbrev export_or : Export → Option Export → Export
export_or d None = d
export_or d (Some e) = e

found : (b : Bool) (e d : Export) (es : List Export) (o : Option Export) → (o ≡ Some d → Contains es d) → (if b then Some e else o) ≡ Some d → Contains (e ∷ es) d
found true e d es o later is = subst (Contains (e ∷ es)) (ap (export_or e) is) (the_first e es)
found false e d es o later is = a_later e d es (later is)

none_some : {X : Type 0} (x : X) → None ≡ Some x → ⊥
none_some x is = cc

export_member : (exports : List Export) (n : ℕ) (d : Export) → export_named exports n ≡ Some d → Contains exports d
export_member [] n d is = absurd (none_some d is)
export_member (e ∷ es) n d is = found (nat_eq e.name.number n) e d es (export_named es n) (export_member es n d) is

-- what is visited is exported
visit_member : {exports : List Export} {begun ns later : List Name} {es : List Export} → Visits exports begun ns later es → (e : Export) → Contains es e → Contains exports e
visit_member no_more e is = absurd (in_none e is)
visit_member (again n ns among v) e is = visit_member v e is
visit_member (absent n ns among at v) e is = visit_member v e is
visit_member {exports = exports} (let_in {before = before} {after = after} n ns d among at inner v) e is =
    elim (Contains-append_cases before (d ∷ after) e is) [
      | inl front ↦ visit_member inner e front
      | inr back ↦ elim (first_or_later d e after back) [ inl same ↦ subst (Contains exports) same (export_member exports n.number d at) | inr last ↦ visit_member v e last ]
    ]

alone_member : (exports : List Export) (n : ℕ) (o : Option Export) (e : Export) → export_named exports n ≡ o → Contains (alone o) e → Contains exports e
alone_member exports n None e at is = absurd (in_none e is)
alone_member exports n (Some d) e at is = elim (first_or_later d e [] is) [ inl same ↦ subst (Contains exports) same (export_member exports n d at) | inr last ↦ absurd (in_none e last) ]

of_alone : (exports : List Export) (n : ℕ) (es : List Export) (e : Export) → es ≡ alone (export_named exports n) → Contains es e → Contains exports e
of_alone exports n es e all is = alone_member exports n (export_named exports n) e refl (subst (λ fs. Contains fs e) all is)

of_none : (exports es : List Export) (e : Export) → es ≡ [] → Contains es e → Contains exports e
of_none exports es e all is = absurd (in_none e (subst (λ fs. Contains fs e) all is))

reach_member : (exports : List Export) (begun later : List Name) (kind : DirectiveKind) (n : Name) (es : List Export) → Reaches exports begun kind n later es → (e : Export) → Contains es e → Contains exports e
reach_member exports begun later Vocabularies n es r e is = of_none exports es e r.1 is
reach_member exports begun later Notations n es r e is = of_alone exports n.number es e r.1 is
reach_member exports begun later Constructors n es r e is = visit_member r e is
reach_member exports begun later Registrations n es r e is = of_alone exports n.number es e r.1 is
reach_member exports begun later Definitions n es r e is = of_alone exports n.number es e r.1 is
reach_member exports begun later Theorems n es r e is = of_alone exports n.number es e r.1 is
reach_member exports begun later Schemes n es r e is = of_alone exports n.number es e r.1 is
reach_member exports begun later Requirements n es r e is = of_none exports es e r.1 is
reach_member exports begun later Equalities n es r e is = of_alone exports n.number es e r.1 is
reach_member exports begun later Expansions n es r e is = of_alone exports n.number es e r.1 is

-- what stands among items is one of them
pub stands_member : {at there : Numbering} {xs : List Item} {x : Item} → StandsAmong at xs there x → Contains xs x
stands_member (first_item {x = x} {xs = more}) = the_first x more
stands_member (later_item {x = y} {y = x} {xs = more} s) = a_later y x more (stands_member s)

-- a property that spreads from what items give to environments
pub record Spreads (P : Environment → Type 0) (Q : Numbering → Item → Type 0) : Type 0 where
  pub nothing : P no_environment
  pub both : (e f : Environment) → P e → P f → P (joined e f)
  pub whole : (at : Numbering) (x : Item) → Q at x → P (of_item at x)
  pub part : (articles : List Name) (kind : DirectiveKind) (at : Numbering) (x : Item) → Q at x → P (share articles kind at x)

abbrev Each : Numbering → List Item → (Numbering → Item → Type 0) → Type 0
Each at xs Q = (there : Numbering) (x : Item) → StandsAmong at xs there x → Q there x

abbrev pub EachItem : List Export → (Numbering → Item → Type 0) → Type 0
EachItem exports Q = (e : Export) → Contains exports e → (at : Numbering) (x : Item) → StandsIn e at x → Q at x

shares_hold : (P : Environment → Type 0) (Q : Numbering → Item → Type 0) → Spreads P Q → (articles : List Name) (kind : DirectiveKind) (at : Numbering) (xs : List Item) → Each at xs Q → P (shares articles kind at xs)
shares_hold P Q s articles kind at [] each = s.nothing
shares_hold P Q s articles kind at (x ∷ xs) each =
    s.both (share articles kind at x) (shares articles kind (numbered at x) xs) (s.part articles kind at x (each at x first_item))
    (shares_hold P Q s articles kind (numbered at x) xs (λ there y is. each there y (later_item is)))

pub wholes_hold : (P : Environment → Type 0) (Q : Numbering → Item → Type 0) → Spreads P Q → (at : Numbering) (xs : List Item) → Each at xs Q → P (wholes at xs)
wholes_hold P Q s at [] each = s.nothing
wholes_hold P Q s at (x ∷ xs) each =
    s.both (of_item at x) (wholes (numbered at x) xs) (s.whole at x (each at x first_item))
    (wholes_hold P Q s (numbered at x) xs (λ there y is. each there y (later_item is)))

pub exports_hold : (P : Environment → Type 0) (Q : Numbering → Item → Type 0) → Spreads P Q → (articles : List Name) (kind : DirectiveKind) (es : List Export) → EachItem es Q → P (shares_of articles kind es)
exports_hold P Q s articles kind [] each = s.nothing
exports_hold P Q s articles kind (e ∷ es) each =
    s.both (shares articles kind (at_start e.name.number) e.items) (shares_of articles kind es)
    (shares_hold P Q s articles kind (at_start e.name.number) e.items (each e (the_first e es)))
    (exports_hold P Q s articles kind es (λ d is. each d (a_later e d es is)))

whole_holds : (P : Environment → Type 0) (Q : Numbering → Item → Type 0) → Spreads P Q → (exports : List Export) → EachItem exports Q → (n : ℕ) (o : Option Export) → export_named exports n ≡ o → P (whole_of o)
whole_holds P Q s exports each n None at = s.nothing
whole_holds P Q s exports each n (Some e) at = wholes_hold P Q s (at_start e.name.number) e.items (each e (export_member exports n e at))

abbrev environment_or : Environment → Result Environment EnvFault → Environment
environment_or d (Ok e) = e
environment_or d (Err f) = d

not_ok : (f : EnvFault) (e : Environment) → Err f ≡ Ok e → ⊥
not_ok f e is = cc

behind_holds : (P : Environment → Type 0) (Q : Numbering → Item → Type 0) → Spreads P Q → (front : Environment) (o : Result Environment EnvFault) (e : Environment) → P front → ((k : Environment) → o ≡ Ok k → P k) → behind front o ≡ Ok e → P e
behind_holds P Q s front (Ok k) e p each is = subst P (ap (environment_or front) is) (s.both front k p (each k refl))
behind_holds P Q s front (Err f) e p each is = absurd (not_ok f e is)

gives_hold : (P : Environment → Type 0) (Q : Numbering → Item → Type 0) → Spreads P Q → (exports : List Export) → EachItem exports Q → {articles begun : List Name} {ds : List Directed} {o : Result Environment EnvFault} → Gives exports articles begun ds o → (e : Environment) → o ≡ Ok e → P e
gives_hold P Q s exports each rule.nothing e is = subst P (ap (environment_or no_environment) is) s.nothing
gives_hold P Q s exports each (rule.refused d ds f at) e is = absurd (not_ok f e is)
gives_hold P Q s exports each {articles = articles} {begun = begun} (rule.let_in {later = later} {rest = rest} d ds es at reaches g) e is =
    behind_holds P Q s (shares_of articles d.kind es) rest e
    (exports_hold P Q s articles d.kind es (λ k member. each k (reach_member exports begun later d.kind d.name es reaches k member)))
    (gives_hold P Q s exports each g) is

pub let_in_holds : (P : Environment → Type 0) (Q : Numbering → Item → Type 0) → Spreads P Q → (head : List Directive) (exports : List Export) (e : Environment) → EachItem exports Q → LetIn head exports (Ok e) → P e
let_in_holds P Q s head exports e each v =
    behind_holds P Q s (whole_of (export_named exports hidden_name.number)) v.told e (whole_holds P Q s exports each hidden_name.number (export_named exports hidden_name.number) refl)
    (gives_hold P Q s exports each v.gives) (sym v.with_hidden)
