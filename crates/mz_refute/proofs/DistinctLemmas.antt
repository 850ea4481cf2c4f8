-- Numbers that are taken once.
use Rattle.std.proofs.Common.{◌≡◌, ◌≤◌, inl, inr, ℕ, List, [], ◌∷◌, ◌++◌, length, take, refl, ap, sym, ◌∙◌, subst, Bool, true, false, eqb-true}
use Rattle.std.specs.Prelude.{not, nat_eq, if◌then◌else◌}
use Rattle.std.proofs.lemmas.List.{take_all}
use Rattle.std.specs.List.{list_any}
use Rattle.std.specs.HashSet.{HashSet, contains}
use Rattle.mz_match.specs.Rows.{SomeOf}
use Rattle.mz_refute.specs.Distinct.{AreNoted}
use Rattle.mz_refute.specs.Entries.{HaveSameMembers}
use Rattle.mz_match.proofs.SomeLemmas.{some_left, some_right}
use Rattle.mz_refute.proofs.RowLists.{members-append, members-repeated}

either_noted : (P : Type 0) (b c : Bool) → (if b then true else c) ≡ true → (b ≡ true → P) → (c ≡ true → P) → P
either_noted P true c e f g = f refl
either_noted P false c e f g = g e

pub told_first : {S : Type 0} (n : ℕ) (out outer : List ℕ) (old new : HashSet ℕ S) → ((v : ℕ) → contains nat_eq new v ≡ (if nat_eq n v then true else contains nat_eq old v)) → outer ≡ out ++ n ∷ [] → (ns : List ℕ) → AreNoted ns out old → AreNoted (ns ++ n ∷ []) outer new
unfolding AreNoted
told_first {S} n out outer old new f e ns k =
    subst (λ (xs : List ℕ). HaveSameMembers xs (ns ++ n ∷ []) × ((v : ℕ) → contains nat_eq new v ≡ true → SomeOf (λ w. w ≡ v) xs)) (sym e) (
      members-append out ns (n ∷ []) k.0,
      λ v c. either_noted (SomeOf (λ w. w ≡ v) (out ++ n ∷ [])) (nat_eq n v) (contains nat_eq old v) (sym (f v) ∙ c) (λ q. some_right (λ w. w ≡ v) out (n ∷ []) (inl (eqb-true n v q))) (λ q. some_left (λ w. w ≡ v) out (n ∷ []) (k.1 v q)),
    )

is_noted : (b c : Bool) → b ≡ not c → b ≡ false → c ≡ true
is_noted b true e f = refl
is_noted b false e f = let z : false ≡ true = sym f ∙ e in cc

pub told_again : {S : Type 0} (n : ℕ) (first : Bool) (out outer : List ℕ) (old new : HashSet ℕ S) → first ≡ not (contains nat_eq old n) → ((v : ℕ) → contains nat_eq new v ≡ (if nat_eq n v then true else contains nat_eq old v)) → first ≡ false → outer ≡ out → (ns : List ℕ) → AreNoted ns out old → AreNoted (ns ++ n ∷ []) outer new
unfolding AreNoted
told_again {S} n first out outer old new a f z e ns k =
    let there : SomeOf (λ w. w ≡ n) out = k.1 n (is_noted first (contains nat_eq old n) a z) in
    subst (λ (xs : List ℕ). HaveSameMembers xs (ns ++ n ∷ []) × ((v : ℕ) → contains nat_eq new v ≡ true → SomeOf (λ w. w ≡ v) xs)) (sym e) (
      members-repeated out ns n k.0 there,
      λ v c. either_noted (SomeOf (λ w. w ≡ v) out) (nat_eq n v) (contains nat_eq old v) (sym (f v) ∙ c) (λ q. subst (λ (x : ℕ). SomeOf (λ w. w ≡ x) out) (eqb-true n v q) there) (λ q. k.1 v q),
    )

pub ruleset put_rules = (told_first, told_again)

-- before the first
pub noted_none : {S : Type 0} (out : List ℕ) (seen : HashSet ℕ S) → out ≡ [] → seen.keys ≡ [] → AreNoted [] out seen
unfolding AreNoted
noted_none {S} out seen e k =
    subst (λ (xs : List ℕ). HaveSameMembers xs [] × ((v : ℕ) → contains nat_eq seen v ≡ true → SomeOf (λ w. w ≡ v) xs)) (sym e)
    (λ p. (λ h. h, λ h. h), λ v c. let z : false ≡ true = sym (ap (list_any (nat_eq v)) k) ∙ c in cc)

pub noted_all : {S : Type 0} (ns out : List ℕ) (seen : HashSet ℕ S) (i : ℕ) → length ns ≤ i → AreNoted (take i ns) out seen → HaveSameMembers out ns
unfolding AreNoted
noted_all {S} ns out seen i le k = subst (λ (xs : List ℕ). HaveSameMembers out xs) (take_all i ns le) k.0
