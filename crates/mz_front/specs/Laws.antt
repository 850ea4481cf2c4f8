-- One value at most.
use Rattle.std.specs.Prelude.{◌≡◌, ℕ, List, Result}
use Rattle.mz_base.specs.NamedText.{NamedText}
use Rattle.mz_core.specs.declared.outcome.Export.{Export}
use Rattle.mz_core.specs.declared.fault.Fault.{Fault}
use Rattle.mz_front.specs.Front.{IsFront}
use Rattle.mz_front.specs.declared.front.Front.{Front}

-- a text is one thing at most before its items are read
abbrev pub OneFrontLaw : Type 0
OneFrontLaw =
    (vocabularies : List NamedText) (exports : List Export) (bytes : List ℕ) (o p : Result Front Fault) → IsFront vocabularies exports bytes o → IsFront vocabularies exports bytes p → o ≡ p
