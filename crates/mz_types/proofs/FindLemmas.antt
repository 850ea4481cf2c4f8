-- The first entry that passes a test, in lists of shared entries, and the last one of a list.
use Rattle.std.proofs.Common.{◌≡◌, ◌+◌, List, [], ◌∷◌, ◌++◌, map, length, refl, sym, ap, ◌∙◌, subst, Bool, true, false, Option, Some, None}
use Rattle.std.specs.Prelude.{if◌then◌else◌, find, MatchOption, option_to_list}
use Rattle.std.specs.List.{filter}
use Rattle.mz_fits.proofs.FitLemmas.{empty}

-- those that pass are looked at alone
find-among_own : {X : Type 0} (p : X → Bool) (x : X) (xs : List X) (b : Bool) → p x ≡ b → find p (filter p xs) ≡ find p xs → find p (if b then x ∷ filter p xs else filter p xs) ≡ (if b then Some x else find p xs)
find-among_own p x xs true e h = ap (λ c. if c then Some x else find p (filter p xs)) e
find-among_own p x xs false e h = h

find_own : {X : Type 0} (p : X → Bool) (xs : List X) → find p (filter p xs) ≡ find p xs
find_own p [] = refl
find_own p (x ∷ xs) = find-among_own p x xs (p x) refl (find_own p xs)

pub told_own : {X : Type 0} (p : X → Bool) (own all : List X) (o : Option X) → own ≡ filter p all → o ≡ find p own → o ≡ find p all
told_own p own all o h e = e ∙ (ap (find p) h ∙ find_own p all)

-- what is found among those that are left is what is found among all
pub told_none : {A X : Type 0} (value : A → X) (p : X → Bool) (all rest : List A) → length rest ≡ 0 → find p (map value rest) ≡ find p (map value all) → None ≡ find p (map value all)
told_none value p all rest e w = ap (λ qs. find p (map value qs)) (sym (empty rest e)) ∙ w

find-first_of : {A X : Type 0} (value : A → X) (p : X → Bool) (rest others : List A) (q : A) (x : X) (b c : Bool) → rest ≡ q ∷ others → x ≡ value q → b ≡ p x → b ≡ c → find p (map value rest) ≡ (if c then Some (value q) else find p (map value others))
find-first_of value p rest others q x b c er ex eb h =
    ap (λ qs. find p (map value qs)) er ∙ ap (λ d. if d then Some (value q) else find p (map value others)) (ap p (sym ex) ∙ (sym eb ∙ h))

pub told_here : {A X : Type 0} (value : A → X) (p : X → Bool) (all rest others : List A) (q : A) (x : X) (b : Bool) → rest ≡ q ∷ others → x ≡ value q → b ≡ p x → b ≡ true → find p (map value rest) ≡ find p (map value all) → Some x ≡ find p (map value all)
told_here value p all rest others q x b er ex eb h w = ap Some ex ∙ (sym (find-first_of value p rest others q x b true er ex eb h) ∙ w)

pub find-told_later : {A X : Type 0} (value : A → X) (p : X → Bool) (all rest others : List A) (q : A) (x : X) (b : Bool) → rest ≡ q ∷ others → x ≡ value q → b ≡ p x → b ≡ false → find p (map value rest) ≡ find p (map value all) → find p (map value others) ≡ find p (map value all)
find-told_later value p all rest others q x b er ex eb h w = sym (find-first_of value p rest others q x b false er ex eb h) ∙ w

pub ruleset first_rules = (told_none, told_here, find-told_later)

pub told_popped : {X : Type 0} (old new : List X) (o : Option X) → old ≡ new ++ option_to_list o → MatchOption o ((length old ≡ 0) × (length new ≡ 0)) (λ _. length new + 1 ≡ length old) → MatchOption o (old ≡ []) (λ r. old ≡ new ++ r ∷ [])
told_popped old new None h k = empty old k.0
told_popped old new (Some r) h k = h
