-- Outcomes that are the same are so part by part.
use Rattle.std.proofs.Common.{◌≡◌, List, Option, Some}
use Rattle.std.specs.Prelude.{Result, Ok, Err}
use Rattle.mz_base.specs.declared.place.Place.{Place}
use Rattle.mz_obligations.specs.declared.obligation.Obligation.{Obligation}
use Rattle.mz_taken.specs.declared.item_fault.ItemRefusal.{ItemRefusal}
use Rattle.mz_taken.specs.Taken.{Taken, Made, Refused}

-- of what is answered
abbrev pub good : {X F : Type 0} → X → Result X F
good x = Ok x

abbrev pub bad : {X F : Type 0} → F → Result X F
bad f = Err f

pub good_same : {X F : Type 0} (x y : X) → good {X = X} {F = F} x ≡ good y → x ≡ y
good_same x y e = cc

pub bad_same : {X F : Type 0} (f g : F) → bad {X = X} {F = F} f ≡ bad g → f ≡ g
bad_same f g e = cc

pub good_or_bad : {X F : Type 0} (x : X) (f : F) → good x ≡ bad f → ⊥
good_or_bad x f e = cc

pub bad_or_good : {X F : Type 0} (f : F) (x : X) → bad f ≡ good x → ⊥
bad_or_good f x e = cc

-- of what is made
abbrev pub made : {X : Type 0} → List Obligation → X → Taken X
made os x = Made os x

abbrev pub refused : {X : Type 0} → ItemRefusal → Taken X
refused r = Refused r

pub made_or_refused : {X : Type 0} (os : List Obligation) (x : X) (r : ItemRefusal) → made os x ≡ refused r → ⊥
made_or_refused os x r e = cc

pub same_refusal : {X : Type 0} (r q : ItemRefusal) → refused {X = X} r ≡ refused q → r ≡ q
same_refusal r q e = cc

pub same_obligations : {X : Type 0} (os ps : List Obligation) (x y : X) → made os x ≡ made ps y → os ≡ ps
same_obligations os ps x y e = cc

pub same_made : {X : Type 0} (os ps : List Obligation) (x y : X) → made os x ≡ made ps y → x ≡ y
same_made os ps x y e = cc

-- of what is there
pub some_same : (p q : Place) (o : Option Place) → o ≡ Some p → o ≡ Some q → p ≡ q
some_same p q o h k = cc
