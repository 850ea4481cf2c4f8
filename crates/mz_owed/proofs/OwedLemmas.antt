-- What the code of owed conditions tells.
use Rattle.std.proofs.Common.{◌≡◌, ◌∙◌, Bool, true, false, List, [], ◌∷◌, ◌++◌, append_assoc, refl, sym, ap, Option, Some, None}
use Rattle.std.specs.Prelude.{not, if◌then◌else◌}
use Rattle.std.specs.List.{filter}
use Rattle.mz_items.specs.declared.condition.Condition.{Condition}
use Rattle.mz_owed.specs.Owed.{all_or_none, first_of}

-- one member of a list, kept or not
filter-kept : (p : Condition → Bool) (c : Condition) (cs : List Condition) → p c ≡ true → filter p (c ∷ cs) ≡ c ∷ filter p cs
filter-kept p c cs h = ap (λ (b : Bool). if b then c ∷ filter p cs else filter p cs) h

filter-left : (p : Condition → Bool) (c : Condition) (cs : List Condition) → p c ≡ false → filter p (c ∷ cs) ≡ filter p cs
filter-left p c cs h = ap (λ (b : Bool). if b then c ∷ filter p cs else filter p cs) h

pub append-told_kept : (p : Condition → Bool) (out more all : List Condition) (c : Condition) (cs : List Condition) → p c ≡ true → more ≡ out ++ c ∷ [] → all ≡ more ++ filter p cs → all ≡ out ++ filter p (c ∷ cs)
append-told_kept p out more all c cs h em ea = ea ∙ (ap (λ xs. xs ++ filter p cs) em ∙ (append_assoc out (c ∷ []) (filter p cs) ∙ ap (λ xs. out ++ xs) (sym (filter-kept p c cs h))))

pub append-told_left : (p : Condition → Bool) (out all : List Condition) (c : Condition) (cs : List Condition) → p c ≡ false → all ≡ out ++ filter p cs → all ≡ out ++ filter p (c ∷ cs)
append-told_left p out all c cs h ea = ea ∙ ap (λ xs. out ++ xs) (sym (filter-left p c cs h))

pub ruleset filter_rules = (append-told_kept, append-told_left)

-- the first that is missing
pub told_corrected : (b : Bool) (cs : List Condition) → b ≡ true → None ≡ first_of (all_or_none b cs)
told_corrected b cs h = sym (ap (λ (x : Bool). first_of (all_or_none x cs)) h)

pub told_none_missing : (b : Bool) (cs : List Condition) → b ≡ false → cs ≡ [] → None ≡ first_of (all_or_none b cs)
told_none_missing b cs h e = sym (ap (λ (x : Bool). first_of (all_or_none x cs)) h ∙ ap first_of e)

pub told_missing : (b : Bool) (cs ds : List Condition) (c : Condition) → b ≡ false → cs ≡ c ∷ ds → Some c ≡ first_of (all_or_none b cs)
told_missing b cs ds c h e = sym (ap (λ (x : Bool). first_of (all_or_none x cs)) h ∙ ap first_of e)

pub ruleset missing_rules = (told_corrected, told_none_missing, told_missing)
