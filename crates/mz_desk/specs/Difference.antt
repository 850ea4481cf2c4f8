-- Where two lists of vocabularies, or of exports, differ first in the order of names.
use Rattle.std.specs.Prelude.{◌≡◌, ◌<◌, ℕ, true, ◌==◌, if◌then◌else◌, List, [], ◌∷◌, Option, Some, None, is_some}
use Rattle.mz_base.specs.NamedText.{NamedText}
use Rattle.mz_core.specs.declared.outcome.Export.{Export}

-- the value of the first element with the number, none where there is none
abbrev pub value_at : {X V : Type 0} → (X → ℕ) → (X → Option V) → List X → ℕ → Option V
value_at key value [] n = None
value_at key value (x ∷ xs) n = if key x == n then value x else value_at key value xs n

abbrev pub number_of_text : NamedText → ℕ
number_of_text v = v.name.number

abbrev pub text_of : NamedText → Option (List ℕ)
text_of v = v.text

-- the bytes of the vocabulary with the name, none where it is absent
abbrev pub text_named : List NamedText → ℕ → Option (List ℕ)
text_named vs n = value_at number_of_text text_of vs n

abbrev pub number_of_export : Export → ℕ
number_of_export e = e.name.number

abbrev pub itself : Export → Option Export
itself e = Some e

-- the export with the name, none where there is none
abbrev pub export_named : List Export → ℕ → Option Export
export_named es n = value_at number_of_export itself es n

-- the values at the number differ, and those at each smaller one are the same
pub record IsFirstDifference {X : Type 0} (f g : ℕ → Option X) (n : ℕ) : Type 0 where
  pub differs : f n ≡ g n → ⊥
  pub before : (m : ℕ) → m < n → f m ≡ g m

-- each number is above n
abbrev pub AreAbove : {X : Type 0} → (X → ℕ) → ℕ → List X → Type 0
AreAbove key n [] = Unit {0}
AreAbove key n (x ∷ xs) = (n < key x) × AreAbove key n xs

-- each number is below the later ones
abbrev pub AreRising : {X : Type 0} → (X → ℕ) → List X → Type 0
AreRising key [] = Unit {0}
AreRising key (x ∷ xs) = AreAbove key (key x) xs × AreRising key xs

-- each element has a value
abbrev pub HaveValues : {X V : Type 0} → (X → Option V) → List X → Type 0
HaveValues value [] = Unit {0}
HaveValues value (x ∷ xs) = (is_some (value x) ≡ true) × HaveValues value xs

-- vocabularies in the order of names, each with its bytes
abbrev pub AreTexts : List NamedText → Type 0
AreTexts vs = AreRising number_of_text vs × HaveValues text_of vs
