-- What a parse of marked tokens from a place on promises.
use Rattle.std.specs.Prelude.{◌≡◌, ℕ, ◌<◌, List, ◌∷◌, [], length, drop, Result, Ok, Err}
use Rattle.mz_base.specs.declared.place.Place.{Place}
use Rattle.mz_base.specs.declared.token.MarkedToken.{MarkedToken}
use Rattle.mz_forms.specs.declared.refusal.Refusal.{Refusal}
use Rattle.mz_forms.specs.declared.refusal.Refusal.TheVariants as refusals
use Rattle.mz_forms.specs.Form.{Form}
use Rattle.mz_forms.specs.Parse.{TheTree, NoTree, TooDeepAt}
use Rattle.mz_pterm.specs.declared.parse.ParseFault.{ParseFault}
use Rattle.mz_pterm.specs.declared.parse.ParseFault.TheVariants.{Memory, Unexpected, TooDeep, EndsEarly}

-- A refusal is told with the place of the first token that is left, or of the text's end.
abbrev pub fault_of : List MarkedToken → Place → Refusal → ParseFault
fault_of rest end refusals.Memory = Memory
fault_of [] end refusals.TooDeep = EndsEarly end
fault_of (t ∷ rest) end refusals.TooDeep = TooDeep t.token.place
fault_of [] end refusals.Refused = EndsEarly end
fault_of (t ∷ rest) end refusals.Refused = Unexpected t.token.place

-- the token with this number, from 0, stands here
abbrev pub StandsAt : List MarkedToken → ℕ → Place → Type 0
StandsAt tokens k place = (t : MarkedToken) × (more : List MarkedToken) × (drop k tokens ≡ t ∷ more) × (t.token.place ≡ place)

-- Constructs nest at most 128 deep. The tree, and the number of the token behind it; or the place of the first token with
-- which no tree begins, of the first one that is nested too deep, or of the text's end.
abbrev pub Parses : (F : Form MarkedToken) {X : Type 0} → (X → F.Tree) → List MarkedToken → Place → ℕ → Result (X × ℕ) ParseFault → Type 0
Parses F view tokens end from (Ok p) = TheTree F 128 tokens from (view p.0) p.1
Parses F view tokens end from (Err (Unexpected place)) = (k : ℕ) × (k < length tokens) × NoTree F 128 tokens from k × StandsAt tokens k place
Parses F view tokens end from (Err (TooDeep place)) = (k : ℕ) × TooDeepAt F 128 tokens from k × StandsAt tokens k place
Parses F view tokens end from (Err (EndsEarly place)) = NoTree F 128 tokens from (length tokens) × (place ≡ end)
Parses F view tokens end from (Err Memory) = Unit {0}
