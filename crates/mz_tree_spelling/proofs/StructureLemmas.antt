-- The tokens of a structure, part by part.
use Rattle.std.proofs.Common.{◌≡◌, List, ◌++◌, append_assoc}

append-grouped : {X : Type 0} (o a b c d e f g h : List X) → o ++ a ++ b ++ c ++ d ++ e ++ f ++ g ++ h ≡ o ++ (a ++ b ++ (c ++ d) ++ (e ++ f) ++ (g ++ h))
append-grouped o a b c d e f g h = simp append_assoc

pub append-eight_parts : {X : Type 0} (o₀ o₁ o₂ o₃ o₄ o₅ o₆ o₇ a b c d e f g h : List X) → o₁ ≡ o₀ ++ a → o₂ ≡ o₁ ++ b → o₃ ≡ o₂ ++ c → o₄ ≡ o₃ ++ d → o₅ ≡ o₄ ++ e → o₆ ≡ o₅ ++ f → o₇ ≡ o₆ ++ g → o₇ ++ h ≡ o₀ ++ (a ++ b ++ (c ++ d) ++ (e ++ f) ++ (g ++ h))
append-eight_parts o₀ o₁ o₂ o₃ o₄ o₅ o₆ o₇ a b c d e f g h e₁ e₂ e₃ e₄ e₅ e₆ e₇ = rw (e₇, e₆, e₅, e₄, e₃, e₂, e₁) (append-grouped o₀ a b c d e f g h)
