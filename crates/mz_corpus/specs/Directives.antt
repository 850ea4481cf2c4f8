-- What an environment part names.
use Rattle.std.specs.Prelude.{Bool, true, false, if◌then◌else◌, List, [], map, fold}
use Rattle.mz_base.specs.declared.name.Name.{Name}
use Rattle.mz_base.specs.declared.head.DirectiveKind.{DirectiveKind}
use Rattle.mz_base.specs.declared.head.DirectiveKind.TheVariants.{Vocabularies, Notations, Constructors, Registrations, Definitions, Theorems, Schemes, Requirements, Equalities, Expansions}
use Rattle.mz_base.specs.declared.head.Directive.{Directive}
use Rattle.mz_corpus.specs.Names.{with_name, with_fetched_name}

-- whether a directive of the kind names vocabularies
abbrev pub names_vocabularies : DirectiveKind → Bool
names_vocabularies Vocabularies = true
names_vocabularies Notations = false
names_vocabularies Constructors = false
names_vocabularies Registrations = false
names_vocabularies Definitions = false
names_vocabularies Theorems = false
names_vocabularies Schemes = false
names_vocabularies Requirements = false
names_vocabularies Equalities = false
names_vocabularies Expansions = false

-- whether a directive of the kind names articles on which the text depends
abbrev pub names_dependencies : DirectiveKind → Bool
names_dependencies Vocabularies = false
names_dependencies Notations = true
names_dependencies Constructors = true
names_dependencies Registrations = true
names_dependencies Definitions = true
names_dependencies Theorems = true
names_dependencies Schemes = true
names_dependencies Requirements = false
names_dependencies Equalities = true
names_dependencies Expansions = true

-- the names of a directive
abbrev pub names_of : Directive → List Name
names_of d = map (λ placed. placed.name) d.names

abbrev pub with_dependencies : List Name → Directive → List Name
with_dependencies ns d = if names_dependencies d.kind then fold with_name ns (names_of d) else ns

-- the names of all directives but `vocabularies` and `requirements`, in the order of the text, each once
abbrev pub dependencies_of : List Directive → List Name
dependencies_of ds = fold with_dependencies [] ds

abbrev pub with_vocabularies : List Name → Directive → List Name
with_vocabularies ns d = if names_vocabularies d.kind then fold with_fetched_name ns (names_of d) else ns

-- the names of the directives `vocabularies`, but for built-in names, in the order of the text, each once
abbrev pub vocabulary_names_of : List Directive → List Name
vocabulary_names_of ds = fold with_vocabularies [] ds
