-- What is spent of what an article has left.
use Rattle.std.proofs.Common.{◌≡◌, ◌<◌, ◌≤◌, ◌-◌, ◌+◌, ℕ, refl, sym, ap, ◌∙◌, subst, arith, Option, Some, None, Bool, true, false}
use Rattle.std.specs.Prelude.{min, MatchBool}
use Rattle.mz_core.specs.declared.outcome.Left.{Left}
use Rattle.mz_ground.specs.Nodes.{IsSpent}
use Rattle.mz_resolve.specs.Spending.{spent}

pub told_spent : (left : Left) (most less taken after : ℕ) → most ≡ min left.nodes 4294967295 → less ≤ most → taken ≡ most - less → after ≡ left.nodes - taken →
    (n : ℕ) → IsSpent (min left.nodes 4294967295) n (Some less) → (n ≤ left.nodes) × (record { nodes = after; obligations = left.obligations; made = left.made } ≡ spent left n)
told_spent left most less taken after em le et ea n s =
    let is : taken ≡ n = omega (arith, em, et, s.spent) in
    (omega (arith, em, et, s.spent), ap (λ k. record { nodes = k; obligations = left.obligations; made = left.made }) (ea ∙ ap (λ k. left.nodes - k) is))

pub told_beyond : (left : Left) → left.nodes ≤ 4294967295 → (n : ℕ) → IsSpent (min left.nodes 4294967295) n None → left.nodes < n
told_beyond left le n s = omega (arith, le, s.spent)

pub ruleset spend_rules = (told_spent, told_beyond)
