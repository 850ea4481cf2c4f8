-- What an environment part lets in.
use Rattle.std.specs.Prelude.{◌≡◌, ℕ, ◌+◌, suc, Bool, true, false, nat_eq, if◌then◌else◌, List, [], ◌∷◌, map, flat_map, Option, Some, None, Result, Ok, Err}
use Rattle.std.specs.List.{list_all}
use Rattle.mz_base.specs.declared.name.Name.{Name}
use Rattle.mz_base.specs.declared.place.Place.{Place}
use Rattle.mz_base.specs.declared.head.DirectiveKind.{DirectiveKind}
use Rattle.mz_base.specs.declared.head.DirectiveKind.TheVariants.{Vocabularies, Notations, Constructors, Registrations, Definitions, Theorems, Schemes, Requirements, Equalities, Expansions}
use Rattle.mz_base.specs.declared.head.PlacedName.{PlacedName}
use Rattle.mz_base.specs.declared.head.Directive.{Directive}
use Rattle.mz_core.specs.declared.outcome.Export.{Export}
use Rattle.mz_core.specs.declared.item.Item.{Item}
use Rattle.mz_items.specs.Exports.{notations_of}
use Rattle.mz_axioms.specs.Names.{hidden_name}
use Rattle.mz_environment.specs.Environment.{no_environment, joined}
use Rattle.mz_environment.specs.declared.environment.Environment.{Environment}
use Rattle.mz_env.specs.declared.directed.Directed.{Directed}
use Rattle.mz_env.specs.declared.env_fault.EnvFault.{EnvFault}
use Rattle.mz_env.specs.declared.env_fault.EnvFault.TheVariants.{MissingConstructor, UnknownRequirement, NotExported, Memory}
use Rattle.mz_env.specs.Symbols.{notation_in}
use Rattle.mz_env.specs.Shares.{shares_of, whole_of}
use Rattle.mz_env.specs.Visits.{export_named, Visits}

-- the names of directives, each with its directive's kind
abbrev pub directed : DirectiveKind → PlacedName → Directed
directed kind x = record { kind = kind; name = x.name; place = x.place }

abbrev pub directive_names : Directive → List Directed
directive_names d = map (directed d.kind) d.names

abbrev pub directed_names : List Directive → List Directed
directed_names ds = flat_map directive_names ds

-- those of the directives `constructors`
abbrev pub constructor_name : DirectiveKind → Name → List Name
constructor_name Vocabularies n = []
constructor_name Notations n = []
constructor_name Constructors n = n ∷ []
constructor_name Registrations n = []
constructor_name Definitions n = []
constructor_name Theorems n = []
constructor_name Schemes n = []
constructor_name Requirements n = []
constructor_name Equalities n = []
constructor_name Expansions n = []

abbrev pub constructor_name_of : Directed → List Name
constructor_name_of d = constructor_name d.kind d.name

abbrev pub constructor_names : List Directed → List Name
constructor_names ds = flat_map constructor_name_of ds

-- the number, from 1, of the first item a notation of which names a constructor that isn't let in; so many items stand
-- before these
abbrev pub first_missing : List Name → ℕ → List Item → Option ℕ
first_missing articles above [] = None
first_missing articles above (x ∷ xs) =
    if list_all (notation_in articles) (notations_of x) then first_missing articles (suc above) xs else Some (suc above)

abbrev pub missing_at : Place → Option ℕ → Option EnvFault
missing_at place None = None
missing_at place (Some n) = Some (MissingConstructor place n)

-- the faults of a name in a directive
abbrev pub exported : Place → Option Export → Option EnvFault
exported place None = Some (NotExported place)
exported place (Some e) = None

abbrev pub constructors_known : List Name → Place → Option Export → Option EnvFault
constructors_known articles place None = Some (NotExported place)
constructors_known articles place (Some e) = missing_at place (first_missing articles 0 e.items)

abbrev pub requirement_known : Place → Name → Option EnvFault
requirement_known place n = if nat_eq n.number hidden_name.number then None else Some (UnknownRequirement place)

-- `vocabularies` has none; HIDDEN alone is a requirement
abbrev pub fault_of : List Export → List Name → DirectiveKind → Name → Place → Option EnvFault
fault_of exports articles Vocabularies n place = None
fault_of exports articles Notations n place = constructors_known articles place (export_named exports n.number)
fault_of exports articles Constructors n place = exported place (export_named exports n.number)
fault_of exports articles Registrations n place = exported place (export_named exports n.number)
fault_of exports articles Definitions n place = exported place (export_named exports n.number)
fault_of exports articles Theorems n place = exported place (export_named exports n.number)
fault_of exports articles Schemes n place = exported place (export_named exports n.number)
fault_of exports articles Requirements n place = requirement_known place n
fault_of exports articles Equalities n place = exported place (export_named exports n.number)
fault_of exports articles Expansions n place = exported place (export_named exports n.number)

abbrev pub alone : Option Export → List Export
alone None = []
alone (Some e) = e ∷ []

-- the exports of which a name in a directive of the kind lets something in: with `constructors` the article and all on
-- which it depends, those that weren't let in yet; else the article alone
abbrev pub Reaches : List Export → List Name → DirectiveKind → Name → List Name → List Export → Type 0
Reaches exports begun Vocabularies n later es = (later ≡ begun) × (es ≡ [])
Reaches exports begun Notations n later es = (later ≡ begun) × (es ≡ alone (export_named exports n.number))
Reaches exports begun Constructors n later es = Visits exports begun (n ∷ []) later es
Reaches exports begun Registrations n later es = (later ≡ begun) × (es ≡ alone (export_named exports n.number))
Reaches exports begun Definitions n later es = (later ≡ begun) × (es ≡ alone (export_named exports n.number))
Reaches exports begun Theorems n later es = (later ≡ begun) × (es ≡ alone (export_named exports n.number))
Reaches exports begun Schemes n later es = (later ≡ begun) × (es ≡ alone (export_named exports n.number))
Reaches exports begun Requirements n later es = (later ≡ begun) × (es ≡ [])
Reaches exports begun Equalities n later es = (later ≡ begun) × (es ≡ alone (export_named exports n.number))
Reaches exports begun Expansions n later es = (later ≡ begun) × (es ≡ alone (export_named exports n.number))

-- an outcome with what was let in before it
abbrev pub behind : Environment → Result Environment EnvFault → Result Environment EnvFault
behind e (Ok f) = Ok (joined e f)
behind e (Err f) = Err f

-- What the names let in, in their order, or the first fault. The constructors of `articles` are let in by some directive,
-- those of `begun` by directives before these.
pub data Gives : List Export → List Name → List Name → List Directed → Result Environment EnvFault → Type 0 where
  nothing : {exports : List Export} {articles begun : List Name} → Gives exports articles begun [] (Ok no_environment)
  refused : {exports : List Export} {articles begun : List Name} (d : Directed) (ds : List Directed) (f : EnvFault) → fault_of exports articles d.kind d.name d.place ≡ Some f → Gives exports articles begun (d ∷ ds) (Err f)
  let_in : {exports : List Export} {articles begun later : List Name} {rest : Result Environment EnvFault} (d : Directed) (ds : List Directed) (es : List Export) → fault_of exports articles d.kind d.name d.place ≡ None → Reaches exports begun d.kind d.name later es → Gives exports articles later ds rest → Gives exports articles begun (d ∷ ds) (behind (shares_of articles d.kind es) rest)

-- What is let in: HIDDEN's items whole, and behind them what the directives let in. A notation and a registration may name
-- constructors that a later directive lets in.
pub record LetIn (head : List Directive) (exports : List Export) (outcome : Result Environment EnvFault) : Type 0 where
  pub articles : List Name
  pub visited : List Export
  pub told : Result Environment EnvFault
  pub visits : Visits exports (hidden_name ∷ []) (constructor_names (directed_names head)) articles visited
  pub gives : Gives exports articles (hidden_name ∷ []) (directed_names head) told
  pub with_hidden : outcome ≡ behind (whole_of (export_named exports hidden_name.number)) told

-- what is answered; want of memory says nothing
abbrev pub Answers : List Directive → List Export → Result Environment EnvFault → Type 0
Answers head exports (Ok e) = LetIn head exports (Ok e)
Answers head exports (Err (MissingConstructor place item)) = LetIn head exports (Err (MissingConstructor place item))
Answers head exports (Err (UnknownRequirement place)) = LetIn head exports (Err (UnknownRequirement place))
Answers head exports (Err (NotExported place)) = LetIn head exports (Err (NotExported place))
Answers head exports (Err (Memory m)) = Unit {0}

-- an environment part lets in one thing at most
abbrev pub OneOutcomeLaw : Type 0
OneOutcomeLaw =
    (head : List Directive) (exports : List Export) (o p : Result Environment EnvFault) →
    LetIn head exports o → LetIn head exports p → o ≡ p
