-- Articles that rest on the built-in articles alone.
use Rattle.std.specs.Prelude.{◌≡◌, ℕ, false, List, [], Contains}
use Rattle.mz_base.specs.Name.{is_built_in}
use Rattle.mz_base.specs.NamedText.{NamedText}
use Rattle.mz_base.specs.declared.name.Name.{Name}
use Rattle.mz_core.specs.declared.item.Item.{Item}
use Rattle.mz_core.specs.declared.outcome.Export.{Export}
use Rattle.mz_core.specs.declared.outcome.Outcome.TheVariants.{Accepted}
use Rattle.mz_axioms.specs.AxiomList.{axioms}
use Rattle.mz_axioms.specs.BuiltIn.{built_in_exports}
use Rattle.mz_axioms.specs.Library.{Sound, added, granted}
use Rattle.mz_article.specs.Outcome.{IsOutcome}
use Rattle.mz_standing_laws.specs.Owed.{IsOwed, AreOwed}

-- each item of such an article is owed from the seven axioms and what the items before it grant
abbrev pub AxiomsLaw : Type 0
AxiomsLaw =
    (name : Name) (vocabularies : List NamedText) (bytes : List ℕ) (e : Export) → IsOutcome name vocabularies built_in_exports bytes (Accepted e) → AreOwed axioms e.items

-- from the seven axioms alone, where its items grant nothing, as theorems do
abbrev pub TheoremsLaw : Type 0
TheoremsLaw =
    (name : Name) (vocabularies : List NamedText) (bytes : List ℕ) (e : Export) → IsOutcome name vocabularies built_in_exports bytes (Accepted e) → granted e.items ≡ [] →
    (x : Item) → Contains e.items x → IsOwed axioms x

-- with its export the built-in ones are a sound library, where it isn't built in itself
abbrev pub AloneLaw : Type 0
AloneLaw =
    (name : Name) (vocabularies : List NamedText) (bytes : List ℕ) (e : Export) → is_built_in name.number ≡ false → IsOutcome name vocabularies built_in_exports bytes (Accepted e) →
    Sound (added e built_in_exports)
