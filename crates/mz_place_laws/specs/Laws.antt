-- Where faults and tokens stand.
use Rattle.std.specs.Prelude.{ℕ, List, Result, Ok, Err, map}
use Rattle.mz_base.specs.NamedText.{NamedText}
use Rattle.mz_base.specs.declared.place.Place.{Place}
use Rattle.mz_base.specs.declared.token.MarkedToken.{MarkedToken}
use Rattle.mz_core.specs.declared.outcome.Export.{Export}
use Rattle.mz_core.specs.declared.fault.Fault.{Fault}
use Rattle.mz_tree_item.specs.Spell.{spell_article}
use Rattle.mz_front.specs.Front.{IsFront}
use Rattle.mz_front.specs.declared.front.Front.{Front}
use Rattle.mz_place_laws.specs.Places.{IsPlaceIn, IsPlaceOf}

-- a fault in front of the items stands in the text, or just after its last byte
abbrev pub PlaceLaw : Type 0
PlaceLaw = (vocabularies : List NamedText) (exports : List Export) (bytes : List ℕ) (f : Fault) → IsFront vocabularies exports bytes (Err f) → IsPlaceIn bytes f.place

-- each token of the tree that is found stands in the text, or just after its last byte
abbrev pub TreePlaceLaw : Type 0
TreePlaceLaw =
    (vocabularies : List NamedText) (exports : List Export) (bytes : List ℕ) (x : Front) → IsFront vocabularies exports bytes (Ok x) →
    (p : Place) → IsPlaceOf (map (λ (m : MarkedToken). m.token) (spell_article x.tree)) p → IsPlaceIn bytes p
