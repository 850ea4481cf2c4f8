-- An article each of whose items is owed keeps a sound library sound.
use Rattle.std.specs.Prelude.{◌≡◌, List, Ok, Contains}
use Rattle.mz_base.specs.declared.name.Name.{Name}
use Rattle.mz_base.specs.declared.head.Directive.{Directive}
use Rattle.mz_core.specs.declared.outcome.Export.{Export}
use Rattle.mz_items.specs.Exports.{HasNotationsOfItems}
use Rattle.mz_axioms.specs.Library.{HasName, Sound, AreExportsOf, added}
use Rattle.mz_environment.specs.declared.environment.Environment.{Environment}
use Rattle.mz_env.specs.LetIn.{LetIn}
use Rattle.mz_env_laws.specs.Entries.{IsOfExports, AreOfItems}
use Rattle.mz_env_laws.specs.Used.{Uses}
use Rattle.mz_corpus.specs.Directives.{dependencies_of}
use Rattle.mz_standing.specs.Standing.{clauses_in}
use Rattle.mz_standing_laws.specs.Owed.{AreOwed}
use Rattle.mz_standing_laws.specs.Soundly.{axioms_of, Setting}

-- a setting of an article with the name, by exports that its environment part uses and by what is let in of them
pub record IsSettingOf (name : Name) (head : List Directive) (exports : List Export) (e : Environment) (g : Setting) : Type 0 where
  pub named : g.name ≡ name
  pub are_used : (d : Export) → Contains g.used d → Uses head exports d
  pub entries : AreOfItems (IsOfExports g.used) e
  pub clauses_are : g.clauses ≡ clauses_in e

-- where the exports are of a sound library there is one
abbrev pub UsedLaw : Type 0
UsedLaw =
    (name : Name) (head : List Directive) (library exports : List Export) (e : Environment) → Sound library → AreExportsOf library exports → LetIn head exports (Ok e) →
    (g : Setting) × IsSettingOf name head exports e g

-- an article whose environment part is let in from exports of a sound library, which has no export of its name, and all of whose
-- items are owed from what it uses and what the items before grant, keeps the library sound where its export is added
abbrev pub AddedLaw : Type 0
AddedLaw =
    (head : List Directive) (library exports : List Export) (e : Environment) (d : Export) (g : Setting) → Sound library → AreExportsOf library exports → LetIn head exports (Ok e) →
    IsSettingOf d.name head exports e g → (HasName library d.name → ⊥) → d.dependencies ≡ dependencies_of head → HasNotationsOfItems d →
    AreOwed (axioms_of g.used) d.items → Sound (added d library)
