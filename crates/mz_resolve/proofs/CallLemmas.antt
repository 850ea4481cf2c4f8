-- What the calls tell.
use Rattle.std.proofs.Common.{◌≡◌, ◌<◌, ◌≤◌, ℕ, refl, sym, ap, ◌∙◌, subst, Option, Some, Bool, true, false}
use Rattle.std.specs.Prelude.{Result, Ok, Err, min, MatchBool}
use Rattle.mz_base.specs.declared.place.Place.{Place}
use Rattle.mz_core.specs.declared.outcome.Left.{Left}
use Rattle.mz_ground.specs.Nodes.{IsSpent}
use Rattle.mz_names.specs.declared.refusal.Refusal.{Refusal}
use Rattle.mz_names.specs.declared.refusal.Refusal.TheVariants.{TooLarge}
use Rattle.mz_resolve.specs.Calls as ca
use Rattle.mz_resolve.specs.Calls.{Counted}
use Rattle.mz_resolve.specs.Spending.{spent}

pub told_refused : {X : Type 0} (reads : Result X Refusal → Type 0) (nodes : X → ℕ) (place : Option Place) (left after : Left) (o : Result X Refusal) (r : Refusal) → reads o → o ≡ Err r → Counted reads nodes place left (Err r) after
told_refused reads nodes place left after o r h e = ca.not_read r after (subst reads e h)

pub told_counted : {X : Type 0} (reads : Result X Refusal → Type 0) (nodes : X → ℕ) (place : Option Place) (left after : Left) (o : Result X Refusal) (x : X) (most : ℕ) (rest : Option ℕ) (b : Bool) → reads o → o ≡ Ok x → most ≡ min left.nodes 4294967295 → IsSpent most (nodes x) rest →
    ((n : ℕ) → IsSpent (min left.nodes 4294967295) n rest → MatchBool b ((n ≤ left.nodes) × (after ≡ spent left n)) (left.nodes < n)) → b ≡ true → Counted reads nodes place left (Ok x) after
told_counted reads nodes place left after o x most rest b h e em s k eb =
    let m : (nodes x ≤ left.nodes) × (after ≡ spent left (nodes x)) = subst (λ c. MatchBool c ((nodes x ≤ left.nodes) × (after ≡ spent left (nodes x))) (left.nodes < nodes x)) eb (k (nodes x) (subst (λ n. IsSpent n (nodes x) rest) em s)) in
    subst (λ l. Counted reads nodes place left (Ok x) l) (sym m.1) (ca.counted x (subst reads e h) m.0)

pub told_beyond : {X : Type 0} (reads : Result X Refusal → Type 0) (nodes : X → ℕ) (place : Option Place) (left after : Left) (o : Result X Refusal) (x : X) (first : Place) (most : ℕ) (rest : Option ℕ) (b : Bool) → reads o → o ≡ Ok x → place ≡ Some first → most ≡ min left.nodes 4294967295 → IsSpent most (nodes x) rest →
    ((n : ℕ) → IsSpent (min left.nodes 4294967295) n rest → MatchBool b ((n ≤ left.nodes) × (after ≡ spent left n)) (left.nodes < n)) → b ≡ false → Counted reads nodes place left (Err (TooLarge first)) after
told_beyond reads nodes place left after o x first most rest b h e ep em s k eb =
    ca.beyond x first after (subst reads e h) ep (subst (λ c. MatchBool c ((nodes x ≤ left.nodes) × (after ≡ spent left (nodes x))) (left.nodes < nodes x)) eb (k (nodes x) (subst (λ n. IsSpent n (nodes x) rest) em s)))

pub ruleset call_rules = (told_refused, told_counted, told_beyond)
