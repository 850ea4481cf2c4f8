-- Values of one type or another.
use Rattle.std.proofs.Common.{◌≡◌, ◌⊎◌, inl, inr, ⊎_elim, sym, ◌∙◌}

-- what follows from each follows from one of them
pub either : {A B C : Type 0} → A ⊎ B → (A → C) → (B → C) → C
either h f g = ⊎_elim f g h

-- a value is x where something holds, and else y: there is one such value
pub either_once : {X : Type 0} {F : Type 0} {x y o p : X} → (F × (o ≡ x)) ⊎ ((F → ⊥) × (o ≡ y)) → (F × (p ≡ x)) ⊎ ((F → ⊥) × (p ≡ y)) → o ≡ p
either_once h k =
    either h (λ a. either k (λ b. a.1 ∙ sym b.1) (λ b. absurd (b.0 a.0))) (λ a. either k (λ b. absurd (a.0 b.0)) (λ b. a.1 ∙ sym b.1))
