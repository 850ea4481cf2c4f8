-- What the code of obligations tells.
use Rattle.std.proofs.Common.{◌≡◌, ◌-◌, ℕ, zero, suc, refl, sym, ap, ◌∙◌, arith, Option, Some, None}
use Rattle.mz_core.specs.declared.outcome.Left.{Left}
use Rattle.mz_obligations.specs.Obligations.{spent, obligation_spent}

spent_one : (l : Left) (n m : ℕ) → (n ≡ 0 → ⊥) → m ≡ n - 1 → spent l n ≡ Some (record l { obligations = m })
spent_one l zero m h e = absurd (h refl)
spent_one l (suc n) m h e = let same : n ≡ m = omega (arith, e) in ap (λ k. Some (record l { obligations = k })) same

pub told_spent : (old new : Left) → (old.obligations ≡ 0 → ⊥) → new ≡ record old { obligations = old.obligations - 1 } → obligation_spent old ≡ Some new
told_spent old new h e = spent_one old old.obligations (old.obligations - 1) h refl ∙ ap Some (sym e)

pub obligation_spent-told_none : (l : Left) → l.obligations ≡ 0 → obligation_spent l ≡ None
obligation_spent-told_none l e = ap (spent l) e

pub ruleset spent_rules = (told_spent, obligation_spent-told_none)
