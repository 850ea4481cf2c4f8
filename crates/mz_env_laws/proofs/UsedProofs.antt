-- Proofs of which exports an environment part uses.
use Rattle.std.proofs.Common.{◌≡◌, ◌⊎◌, inl, inr, ℕ, List, [], ◌∷◌, ◌++◌, refl, sym, ap, subst, ◌∙◌, true, false}
use Rattle.std.specs.Prelude.{Contains, Option, Some, None, Result, Ok, Err}
use Rattle.std.proofs.lemmas.List.Elements.{Contains-append_left, Contains-append_right, Contains-append_cases}
use Rattle.mz_base.specs.declared.name.Name.{Name}
use Rattle.mz_base.specs.declared.head.Directive.{Directive}
use Rattle.mz_base.specs.declared.head.DirectiveKind.{DirectiveKind}
use Rattle.mz_base.specs.declared.head.DirectiveKind.TheVariants.{Vocabularies, Notations, Constructors, Registrations, Definitions, Theorems, Schemes, Requirements, Equalities, Expansions}
use Rattle.mz_core.specs.declared.item.Item.{Item}
use Rattle.mz_core.specs.declared.outcome.Export.{Export}
use Rattle.mz_axioms.specs.Names.{hidden_name}
use Rattle.mz_environment.specs.Cited.{at_start}
use Rattle.mz_environment.specs.Environment.{no_environment, joined}
use Rattle.mz_environment.specs.declared.numbering.Numbering.{Numbering}
use Rattle.mz_environment.specs.declared.environment.Environment.{Environment}
use Rattle.mz_env.specs.declared.directed.Directed.{Directed}
use Rattle.mz_env.specs.declared.env_fault.EnvFault.{EnvFault}
use Rattle.mz_env.specs.Shares.{shares_of, wholes, whole_of}
use Rattle.mz_env.specs.Visits.{export_named, Visits, no_more, again, absent, let_in}
use Rattle.mz_env.specs.LetIn as rule
use Rattle.mz_env.specs.LetIn.{alone, behind, directed_names, Reaches, Gives, LetIn}
use Rattle.mz_env_laws.specs.Entries.{StandsIn, IsOfExports, AreOfItems}
use Rattle.mz_env_laws.specs.Used.{names_articles, Uses, hidden, named, dependency, UsedFor, UsedLaw}
use Rattle.mz_env_laws.proofs.Along.{in_none, the_first, a_later, first_or_later, Spreads, exports_hold, wholes_hold}
use Rattle.mz_env_laws.proofs.EntryProofs.{entries_none, entries_both, entries_given, entries_part, wider_entries}

-- what is visited is used, where the exports of the names are

abbrev NamesUsed : List Directive → List Export → List Name → Type 0
NamesUsed head exports ns = (n : Name) → Contains ns n → (d : Export) → export_named exports n.number ≡ Some d → Uses head exports d

visit_used : {head : List Directive} {exports : List Export} {begun ns later : List Name} {es : List Export} → Visits exports begun ns later es → NamesUsed head exports ns → (d : Export) → Contains es d → Uses head exports d
visit_used no_more each d is = absurd (in_none d is)
visit_used (again n ns among v) each d is = visit_used v (λ m at. each m (a_later n m ns at)) d is
visit_used (absent n ns among at v) each d is = visit_used v (λ m is. each m (a_later n m ns is)) d is
visit_used {head} {exports} (let_in {before = before} {after = after} n ns c among at inner v) each d is =
    let used : Uses head exports c = each n (the_first n ns) c at in
    elim (Contains-append_cases before (c ∷ after) d is) [
      | inl front ↦ visit_used inner (λ m within x found. dependency c x m used within found) d front
      | inr back ↦ elim (first_or_later c d after back) [ inl same ↦ subst (Uses head exports) same used | inr last ↦ visit_used v (λ m within. each m (a_later n m ns within)) d last ]
    ]

-- what a name reaches is used

none_used : {head : List Directive} {exports : List Export} (es : List Export) → es ≡ [] → (d : Export) → Contains es d → Uses head exports d
none_used es none d is = absurd (in_none d (subst (λ fs. Contains fs d) none is))

one_used : {head : List Directive} {exports : List Export} (x : Directed) (o : Option Export) → Contains (directed_names head) x → names_articles x.kind ≡ true → export_named exports x.name.number ≡ o → (d : Export) → Contains (alone o) d → Uses head exports d
one_used x None is names at d among = absurd (in_none d among)
one_used {head} {exports} x (Some c) is names at d among = elim (first_or_later c d [] among) [ inl same ↦ subst (Uses head exports) same (named x c is names at) | inr last ↦ absurd (in_none d last) ]

alone_used : {head : List Directive} {exports : List Export} (x : Directed) (es : List Export) → Contains (directed_names head) x → names_articles x.kind ≡ true → es ≡ alone (export_named exports x.name.number) → (d : Export) → Contains es d → Uses head exports d
alone_used {head} {exports} x es is names all d among = one_used x (export_named exports x.name.number) is names refl d (subst (λ fs. Contains fs d) all among)

visited_used : {head : List Directive} {exports : List Export} (x : Directed) → Contains (directed_names head) x → names_articles x.kind ≡ true → NamesUsed head exports (x.name ∷ [])
visited_used {head} {exports} x is names n among d at =
    elim (first_or_later x.name n [] among) [ inl same ↦ named x d is names (ap (λ (m : Name). export_named exports m.number) same ∙ at) | inr last ↦ absurd (in_none n last) ]

reach_used : {head : List Directive} {exports : List Export} (x : Directed) (k : DirectiveKind) → Contains (directed_names head) x → x.kind ≡ k → (begun later : List Name) (es : List Export) → Reaches exports begun k x.name later es → (d : Export) → Contains es d → Uses head exports d
reach_used x Vocabularies is kind begun later es r = none_used es r.1
reach_used x Notations is kind begun later es r = alone_used x es is (ap names_articles kind) r.1
reach_used x Constructors is kind begun later es r = visit_used r (visited_used x is (ap names_articles kind))
reach_used x Registrations is kind begun later es r = alone_used x es is (ap names_articles kind) r.1
reach_used x Definitions is kind begun later es r = alone_used x es is (ap names_articles kind) r.1
reach_used x Theorems is kind begun later es r = alone_used x es is (ap names_articles kind) r.1
reach_used x Schemes is kind begun later es r = alone_used x es is (ap names_articles kind) r.1
reach_used x Requirements is kind begun later es r = none_used es r.1
reach_used x Equalities is kind begun later es r = alone_used x es is (ap names_articles kind) r.1
reach_used x Expansions is kind begun later es r = alone_used x es is (ap names_articles kind) r.1

-- exports used for nothing, for two environments, and for what exports share

used_nothing : (head : List Directive) (exports : List Export) → UsedFor head exports no_environment
used_nothing head exports = record { used = []; are_used = λ d is. absurd (in_none d is); entries = entries_none (IsOfExports []) }

front_of : (es fs : List Export) (at : Numbering) (x : Item) → IsOfExports es at x → IsOfExports (es ++ fs) at x
front_of es fs at x from = (from.0, Contains-append_left es fs from.0 from.1, from.2)

back_of : (es fs : List Export) (at : Numbering) (x : Item) → IsOfExports fs at x → IsOfExports (es ++ fs) at x
back_of es fs at x from = (from.0, Contains-append_right es fs from.0 from.1, from.2)

used_both : (head : List Directive) (exports : List Export) (e f : Environment) → UsedFor head exports e → UsedFor head exports f → UsedFor head exports (joined e f)
used_both head exports e f p q = record {
  used = p.used ++ q.used;
  are_used = λ d is. elim (Contains-append_cases p.used q.used d is) [ inl front ↦ p.are_used d front | inr back ↦ q.are_used d back ];
  entries =
      entries_both (IsOfExports (p.used ++ q.used)) e f
      (wider_entries (IsOfExports p.used) (IsOfExports (p.used ++ q.used)) (front_of p.used q.used) e p.entries)
      (wider_entries (IsOfExports q.used) (IsOfExports (p.used ++ q.used)) (back_of p.used q.used) f q.entries);
}

spreads : (es : List Export) → Spreads (AreOfItems (IsOfExports es)) (IsOfExports es)
spreads es = record { nothing = entries_none (IsOfExports es); both = entries_both (IsOfExports es); whole = entries_given (IsOfExports es); part = entries_part (IsOfExports es) }

used_shares : (head : List Directive) (exports : List Export) (articles : List Name) (kind : DirectiveKind) (es : List Export) → ((d : Export) → Contains es d → Uses head exports d) → UsedFor head exports (shares_of articles kind es)
used_shares head exports articles kind es each = record {
  used = es;
  are_used = each;
  entries = exports_hold (AreOfItems (IsOfExports es)) (IsOfExports es) (spreads es) articles kind es (λ d is at x stands. (d, is, stands));
}

used_whole : (head : List Directive) (exports : List Export) (o : Option Export) → export_named exports hidden_name.number ≡ o → UsedFor head exports (whole_of o)
used_whole head exports None at = used_nothing head exports
used_whole head exports (Some d) at = record {
  used = d ∷ [];
  are_used = λ c is. elim (first_or_later d c [] is) [ inl same ↦ subst (Uses head exports) same (hidden d at) | inr last ↦ absurd (in_none c last) ];
  entries = wholes_hold (AreOfItems (IsOfExports (d ∷ []))) (IsOfExports (d ∷ [])) (spreads (d ∷ [])) (at_start d.name.number) d.items (λ there x stands. (d, the_first d [], stands));
}

-- for all that is let in

abbrev environment_or : Environment → Result Environment EnvFault → Environment
environment_or d (Ok e) = e
environment_or d (Err f) = d

not_ok : (f : EnvFault) (e : Environment) → Err f ≡ Ok e → ⊥
not_ok f e is = cc

used_behind : (head : List Directive) (exports : List Export) (front : Environment) (o : Result Environment EnvFault) (e : Environment) → UsedFor head exports front → ((k : Environment) → o ≡ Ok k → UsedFor head exports k) → behind front o ≡ Ok e → UsedFor head exports e
used_behind head exports front (Ok k) e p each is = subst (UsedFor head exports) (ap (environment_or front) is) (used_both head exports front k p (each k refl))
used_behind head exports front (Err f) e p each is = absurd (not_ok f e is)

used_given : {head : List Directive} {exports : List Export} {articles begun : List Name} {ds : List Directed} {o : Result Environment EnvFault} → ((x : Directed) → Contains ds x → Contains (directed_names head) x) → Gives exports articles begun ds o → (e : Environment) → o ≡ Ok e → UsedFor head exports e
used_given {head} {exports} among rule.nothing e is = subst (UsedFor head exports) (ap (environment_or no_environment) is) (used_nothing head exports)
used_given among (rule.refused d ds f at) e is = absurd (not_ok f e is)
used_given {head} {exports} among (rule.let_in {articles = articles} {begun = begun} {later = later} {rest = rest} x ds es at reaches g) e is =
    used_behind head exports (shares_of articles x.kind es) rest e
    (used_shares head exports articles x.kind es (reach_used x x.kind (among x (the_first x ds)) refl begun later es reaches))
    (used_given (λ y within. among y (a_later x y ds within)) g) is

pub used_law : UsedLaw
used_law head exports e v =
    used_behind head exports (whole_of (export_named exports hidden_name.number)) v.told e (used_whole head exports (export_named exports hidden_name.number) refl)
    (used_given (λ x within. within) v.gives) (sym v.with_hidden)
