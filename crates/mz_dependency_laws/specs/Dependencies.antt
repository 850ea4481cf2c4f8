-- What an article may rest on whose environment part was let in.
use Rattle.std.specs.Prelude.{◌≡◌, ◌⊎◌, ℕ, List, ◌++◌, take, flat_map, All, Contains, Ok}
use Rattle.mz_base.specs.declared.head.Directive.{Directive}
use Rattle.mz_logic.specs.Derives.{Derives}
use Rattle.mz_logic.specs.declared.sequent.Sequent.{Sequent}
use Rattle.mz_core.specs.declared.outcome.Export.{Export}
use Rattle.mz_axioms.specs.BuiltIn.{hidden}
use Rattle.mz_axioms.specs.Library.{HasName, DependsOn, granted, IsDerivable, Sound, AreExportsOf, added}
use Rattle.mz_environment.specs.declared.environment.Environment.{Environment}
use Rattle.mz_env.specs.LetIn.{LetIn}
use Rattle.mz_env_laws.specs.Used.{Uses}
use Rattle.mz_corpus.specs.Directives.{dependencies_of}
use Rattle.mz_dependency_laws.specs.Formulas.{formulas_of}

-- each article on which it depends has an export
abbrev pub KnownLaw : Type 0
KnownLaw =
    (library exports : List Export) (ds : List Directive) (e : Environment) → AreExportsOf library exports → LetIn ds exports (Ok e) → All (HasName library) (dependencies_of ds)

-- the export is HIDDEN's, or that of an article on which the one that is added depends
abbrev pub IsUsedBy : List Export → Export → Export → Type 0
IsUsedBy library e d = Contains library d × ((d ≡ hidden) ⊎ DependsOn (added e library) e.name d.name)

-- so is each export that the environment part uses
abbrev pub UsedByLaw : Type 0
UsedByLaw =
    (library exports : List Export) (e : Export) (ds : List Directive) → Sound library → AreExportsOf library exports → e.dependencies ≡ dependencies_of ds → (d : Export) → Uses ds exports d → IsUsedBy library e d

-- what derives from what such exports say and from the grants of the article's items before item k, item k may owe
abbrev pub RestsLaw : Type 0
RestsLaw =
    (library : List Export) (e : Export) (k : ℕ) (ds : List Export) (q : Sequent) → Sound library → ((d : Export) → Contains ds d → IsUsedBy library e d) →
    Derives (flat_map formulas_of ds ++ granted (take k e.items)) q.premises q.conclusion → IsDerivable (added e library) e k q
