-- The first entry that passes a test, in lists of shared entries.
use Rattle.std.proofs.Common.{◌≡◌, List, [], ◌∷◌, map, length, sym, ap, ◌∙◌, Bool, true, false, Option, Some, None}
use Rattle.std.specs.Prelude.{if◌then◌else◌, find}
use Rattle.std.proofs.lemmas.List.{nil_from_length}

-- what is found among those that are left is what is found among all
pub told_none : {A X : Type 0} (value : A → X) (p : X → Bool) (all rest : List A) → length rest ≡ 0 → find p (map value rest) ≡ find p (map value all) → None ≡ find p (map value all)
told_none value p all rest e w = ap (λ qs. find p (map value qs)) (sym (nil_from_length rest e)) ∙ w

find-first_of : {A X : Type 0} (value : A → X) (p : X → Bool) (rest others : List A) (q : A) (x : X) (b c : Bool) → rest ≡ q ∷ others → x ≡ value q → b ≡ p x → b ≡ c → find p (map value rest) ≡ (if c then Some (value q) else find p (map value others))
find-first_of value p rest others q x b c er ex eb h =
    ap (λ qs. find p (map value qs)) er ∙ ap (λ d. if d then Some (value q) else find p (map value others)) (ap p (sym ex) ∙ (sym eb ∙ h))

pub told_here : {A X : Type 0} (value : A → X) (p : X → Bool) (all rest others : List A) (q : A) (x : X) (b : Bool) → rest ≡ q ∷ others → x ≡ value q → b ≡ p x → b ≡ true → find p (map value rest) ≡ find p (map value all) → Some x ≡ find p (map value all)
told_here value p all rest others q x b er ex eb h w = ap Some ex ∙ (sym (find-first_of value p rest others q x b true er ex eb h) ∙ w)

pub find-told_later : {A X : Type 0} (value : A → X) (p : X → Bool) (all rest others : List A) (q : A) (x : X) (b : Bool) → rest ≡ q ∷ others → x ≡ value q → b ≡ p x → b ≡ false → find p (map value rest) ≡ find p (map value all) → find p (map value others) ≡ find p (map value all)
find-told_later value p all rest others q x b er ex eb h w = sym (find-first_of value p rest others q x b false er ex eb h) ∙ w

pub ruleset first_rules = (told_none, told_here, find-told_later)
