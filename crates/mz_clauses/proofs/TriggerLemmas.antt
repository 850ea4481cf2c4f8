-- A turn of the loop over literals.
use Rattle.std.proofs.Common.{◌≡◌, ℕ, suc, ◌+◌, ◌<◌, ◌≤◌, List, [], ◌∷◌, length, get_or, drop, refl, sym, ap, ◌∙◌, drop-cons, add-one}
use Rattle.std.proofs.lemmas.List.{drop_all}
use Rattle.std.specs.Prelude.{Option, Some, None}
use Rattle.std.specs.Option.{option_or}
use Rattle.mz_logic.specs.declared.literal.Literal.{Literal}
use Rattle.mz_ground.specs.declared.trigger.Trigger.{Trigger}
use Rattle.mz_clauses.specs.Groups.{full_trigger, first_trigger}

trigger_of : (n k : ℕ) (ls : List Literal) (l : Literal) → k < length ls → l ≡ get_or ls k l → first_trigger n (drop k ls) ≡ option_or (full_trigger n l) (first_trigger n (drop (k + 1) ls))
trigger_of n k ls l lt at =
    let split : drop k ls ≡ l ∷ drop (k + 1) ls = rw (add-one, drop-cons ls k l) (ap (λ y. y ∷ drop (suc k) ls) (sym at)) in
    ap (first_trigger n) split

pub told_found : (n k : ℕ) (ls : List Literal) (l : Literal) (r : Trigger) → k < length ls → l ≡ get_or ls k l → Some r ≡ full_trigger n l → first_trigger n (drop k ls) ≡ first_trigger n ls → Some r ≡ first_trigger n ls
told_found n k ls l r lt at found goes =
    ap (λ o. option_or o (first_trigger n (drop (k + 1) ls))) found ∙ (sym (trigger_of n k ls l lt at) ∙ goes)

pub first_trigger-told_missed : (n k : ℕ) (ls : List Literal) (l : Literal) → k < length ls → l ≡ get_or ls k l → None ≡ full_trigger n l → first_trigger n (drop k ls) ≡ first_trigger n ls → first_trigger n (drop (k + 1) ls) ≡ first_trigger n ls
first_trigger-told_missed n k ls l lt at missed goes =
    ap (λ o. option_or o (first_trigger n (drop (k + 1) ls))) missed ∙ (sym (trigger_of n k ls l lt at) ∙ goes)

pub told_none : (n k : ℕ) (ls : List Literal) → length ls ≤ k → first_trigger n (drop k ls) ≡ first_trigger n ls → None ≡ first_trigger n ls
told_none n k ls past goes = ap (first_trigger n) (sym (drop_all k ls past)) ∙ goes

pub ruleset trigger_rules = (told_found, first_trigger-told_missed, told_none)
