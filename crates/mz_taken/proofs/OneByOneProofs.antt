-- Members of a list, taken one by one: what a loop over them tells, and that one outcome at most comes of them.
use Rattle.std.proofs.Common.{◌≡◌, List, [], ◌∷◌, ◌++◌, append-nil, append_assoc, length, refl, sym, ap, subst, ◌∙◌}
use Rattle.std.specs.Prelude.{Result, Ok, Err}
use Rattle.mz_obligations.specs.declared.obligation.Obligation.{Obligation}
use Rattle.mz_taken.specs.declared.item_fault.ItemRefusal.{ItemRefusal}
use Rattle.mz_taken.specs.declared.item_fault.ItemFault.{ItemFault}
use Rattle.mz_taken.specs.declared.item_fault.ItemFault.TheVariants as fault
use Rattle.mz_taken.specs.Taken.{Taken, Made, Refused, behind}
use Rattle.mz_taken.specs.Answers.{OnTaken, IsBrought, Brings}
use Rattle.mz_taken.specs.OneByOne.{OneByOne, none_left, one_refused, one_taken, OneLaw}

-- loops

pub behind_nothing : {S : Type 0} (o : Taken S) → behind [] o ≡ o
behind_nothing (Made os t) = refl
behind_nothing (Refused r) = refl

pub behind_more : {S : Type 0} (ps qs : List Obligation) (o : Taken S) → behind ps (behind qs o) ≡ behind (ps ++ qs) o
behind_more ps qs (Made os t) = ap (λ rs. Made rs t) (sym (append_assoc ps qs os))
behind_more ps qs (Refused r) = refl

handed_on : {X Y : Type 0} (P : Result X ItemRefusal → Type 0) (Q : Result Y ItemRefusal → Type 0) (f : ItemFault) → ((r : ItemRefusal) → P (Err r) → Q (Err r)) → OnTaken {X = X} (Err f) P → OnTaken {X = Y} (Err f) Q
handed_on P Q (fault.Refused r) k h = k r h
handed_on P Q fault.Memory k h = tt

pub on_err : {X Y : Type 0} (P : Result X ItemRefusal → Type 0) (Q : Result Y ItemRefusal → Type 0) (x : Result X ItemFault) (f : ItemFault) → x ≡ Err f → OnTaken x P → ((r : ItemRefusal) → P (Err r) → Q (Err r)) → OnTaken {X = Y} (Err f) Q
on_err P Q x f e h k = handed_on P Q f k (subst (λ y. OnTaken y P) e h)

pub on_ok : {X : Type 0} (P : Result X ItemRefusal → Type 0) (x : Result X ItemFault) (y : X) → x ≡ Ok y → OnTaken x P → P (Ok y)
on_ok P x y e h = subst (λ z. OnTaken z P) e h

-- what the rest gives, all give, behind what was made so far
abbrev pub Reading : {S X : Type 0} → (S → X → Taken S → Type 0) → S → List Obligation → List X → S → List Obligation → List X → Type 0
Reading {S} one s os rest s0 os0 all = (ps : List Obligation) × (os ≡ os0 ++ ps) × ((o : Taken S) → OneByOne one s rest o → OneByOne one s0 all (behind ps o))

pub told_begun : {S X : Type 0} (one : S → X → Taken S → Type 0) (s : S) (os : List Obligation) (all : List X) → Reading one s os all s os all
told_begun one s os all = ([], sym (append-nil os), λ o h. subst (OneByOne one s all) (sym (behind_nothing o)) h)

empty : {X : Type 0} (ps : List X) → length ps ≡ 0 → ps ≡ []
empty [] e = refl
empty (p ∷ ps) e = let no : ⊥ = cc in absurd no

pub told_end : {S X : Type 0} (one : S → X → Taken S → Type 0) (s s0 : S) (os os0 : List Obligation) (rest all : List X) → length rest ≡ 0 → Reading one s os rest s0 os0 all → IsBrought (λ ps. OneByOne one s0 all (Made ps s)) os0 os
told_end one s s0 os os0 rest all none (ps, is, on) =
    record {
      made = ps;
      is_made = subst (λ qs. OneByOne one s0 all (Made qs s)) (append-nil ps) (on (Made [] s) (subst (λ xs. OneByOne one s xs (Made [] s)) (sym (empty rest none)) (none_left s)));
      are_last = is;
    }

pub told_stop : {S X Y : Type 0} (Z : Type 0) (one : S → X → Taken S → Type 0) (s u v s0 : S) (os os2 os0 qs : List Obligation) (x : X) (rest others all : List X) (z : Result Y ItemFault) (f : ItemFault) → rest ≡ x ∷ others →
    OnTaken z (Brings (one s x) u os os2) → z ≡ Err f → Reading one s os rest s0 os0 all → OnTaken {X = Z} (Err f) (Brings (OneByOne one s0 all) v os0 qs)
told_stop Z one s u v s0 os os2 os0 qs x rest others all z f is h e (ps, at, on) =
    on_err (Brings (one s x) u os os2) (Brings (OneByOne one s0 all) v os0 qs) z f e h
    (λ r k. on (Refused r) (subst (λ xs. OneByOne one s xs (Refused r)) (sym is) (one_refused s x others r k)))

pub told_turn : {S X Y : Type 0} (one : S → X → Taken S → Type 0) (s u s0 : S) (os os2 os0 : List Obligation) (x : X) (rest others all : List X) (z : Result Y ItemFault) (v : Y) → rest ≡ x ∷ others →
    OnTaken z (Brings (one s x) u os os2) → z ≡ Ok v → Reading one s os rest s0 os0 all → Reading one u os2 others s0 os0 all
told_turn one s u s0 os os2 os0 x rest others all z v is h e (ps, at, on) =
    let b = on_ok (Brings (one s x) u os os2) z v e h in (
      ps ++ b.made,
      b.are_last ∙ ap (λ xs. xs ++ b.made) at ∙ append_assoc os0 ps b.made,
      λ o k. subst (OneByOne one s0 all) (behind_more ps b.made o) (on (behind b.made o) (subst (λ xs. OneByOne one s xs (behind b.made o)) (sym is) (one_taken s u x others b.made o b.is_made k))),
    )

-- one outcome at most

data Then {S X : Type 0} (one : S → X → Taken S → Type 0) (s : S) (x : X) (xs : List X) (w : Taken S) : Type 0 where
  stops : (r : ItemRefusal) → one s x (Refused r) → w ≡ Refused r → Then one s x xs w
  goes_on : (t : S) (os : List Obligation) (o : Taken S) → one s x (Made os t) → OneByOne one t xs o → w ≡ behind os o → Then one s x xs w

then_of : {S X : Type 0} {one : S → X → Taken S → Type 0} {s : S} {x : X} {xs : List X} {w : Taken S} → OneByOne one s (x ∷ xs) w → Then one s x xs w
then_of (one_refused s x xs r h) = stops r h refl
then_of (one_taken s t x xs os o h k) = goes_on t os o h k refl

of_nothing : {S X : Type 0} {one : S → X → Taken S → Type 0} {s : S} {w : Taken S} → OneByOne one s [] w → w ≡ Made [] s
of_nothing (none_left s) = refl

abbrev AreSame : {S : Type 0} → Taken S → Taken S → Type 0
AreSame a b = a ≡ b

made_or_refused : {S : Type 0} (os : List Obligation) (t : S) (r : ItemRefusal) → AreSame (Made os t) (Refused r) → ⊥
made_or_refused os t r e = cc

same_made : {S : Type 0} (os ps : List Obligation) (t u : S) → AreSame (Made os t) (Made ps u) → (os ≡ ps) × (t ≡ u)
same_made os ps t u e = (cc, cc)

refused_first : {S X : Type 0} (one : S → X → Taken S → Type 0) → OneLaw one → (s : S) (x : X) (xs : List X) (r : ItemRefusal) (w : Taken S) → one s x (Refused r) → Then one s x xs w → AreSame (Refused r) w
refused_first one law s x xs r w h (stops q k e) = law s x (Refused r) (Refused q) h k ∙ sym e
refused_first one law s x xs r w h (goes_on t os o k l e) = absurd (made_or_refused os t r (law s x (Made os t) (Refused r) k h))

taken_first : {S X : Type 0} (one : S → X → Taken S → Type 0) → OneLaw one → (s t : S) (x : X) (xs : List X) (os : List Obligation) (o w : Taken S) → one s x (Made os t) → ((p : Taken S) → OneByOne one t xs p → o ≡ p) → Then one s x xs w → behind os o ≡ w
taken_first one law s t x xs os o w h later (stops r k e) = absurd (made_or_refused os t r (law s x (Made os t) (Refused r) h k))
taken_first one law s t x xs os o w h later (goes_on u ps p k l e) =
    let same = same_made os ps t u (law s x (Made os t) (Made ps u) h k) in
    ap (behind os) (later p (subst (λ v. OneByOne one v xs p) (sym same.1) l)) ∙ ap (λ qs. behind qs p) same.0 ∙ sym e

pub one_all : {S X : Type 0} (one : S → X → Taken S → Type 0) → OneLaw one → {s : S} {xs : List X} {v w : Taken S} → OneByOne one s xs v → OneByOne one s xs w → v ≡ w
one_all one law (none_left s) k = sym (of_nothing k)
one_all one law {w = w} (one_refused s x xs r h) k = refused_first one law s x xs r w h (then_of k)
one_all one law {w = w} (one_taken s t x xs os o h l) k = taken_first one law s t x xs os o w h (λ p j. one_all one law l j) (then_of k)
