-- Which exports an environment part uses.
use Rattle.std.specs.Prelude.{◌≡◌, Bool, true, false, List, Option, Some, Result, Ok, Contains}
use Rattle.mz_base.specs.declared.name.Name.{Name}
use Rattle.mz_base.specs.declared.head.Directive.{Directive}
use Rattle.mz_base.specs.declared.head.DirectiveKind.{DirectiveKind}
use Rattle.mz_base.specs.declared.head.DirectiveKind.TheVariants.{Vocabularies, Notations, Constructors, Registrations, Definitions, Theorems, Schemes, Requirements, Equalities, Expansions}
use Rattle.mz_core.specs.declared.outcome.Export.{Export}
use Rattle.mz_axioms.specs.Names.{hidden_name}
use Rattle.mz_environment.specs.declared.environment.Environment.{Environment}
use Rattle.mz_env.specs.declared.directed.Directed.{Directed}
use Rattle.mz_env.specs.LetIn.{directed_names, LetIn}
use Rattle.mz_env.specs.Visits.{export_named}
use Rattle.mz_env_laws.specs.Entries.{IsOfExports, AreOfItems}

-- a directive of the kind names articles on which the text depends
abbrev pub names_articles : DirectiveKind → Bool
names_articles Vocabularies = false
names_articles Notations = true
names_articles Constructors = true
names_articles Registrations = true
names_articles Definitions = true
names_articles Theorems = true
names_articles Schemes = true
names_articles Requirements = false
names_articles Equalities = true
names_articles Expansions = true

-- HIDDEN's export; those that directives name; and those on which one of these depends
pub data Uses (head : List Directive) (exports : List Export) : Export → Type 0 where
  hidden : (d : Export) → export_named exports hidden_name.number ≡ Some d → Uses head exports d
  named : (x : Directed) (d : Export) → Contains (directed_names head) x → names_articles x.kind ≡ true → export_named exports x.name.number ≡ Some d → Uses head exports d
  dependency : (c d : Export) (n : Name) → Uses head exports c → Contains c.dependencies n → export_named exports n.number ≡ Some d → Uses head exports d

-- exports that are used, of whose items each entry is
pub record UsedFor (head : List Directive) (exports : List Export) (e : Environment) : Type 0 where
  pub used : List Export
  pub are_used : (d : Export) → Contains used d → Uses head exports d
  pub entries : AreOfItems (IsOfExports used) e

-- each entry of what is let in is of an item of an export that is used
abbrev pub UsedLaw : Type 0
UsedLaw = (head : List Directive) (exports : List Export) (e : Environment) → LetIn head exports (Ok e) → UsedFor head exports e
