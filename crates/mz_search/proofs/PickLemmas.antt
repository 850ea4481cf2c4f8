-- Goals that are moved from one list to another.
use Rattle.std.proofs.Common.{◌≡◌, List, [], ◌∷◌, ◌++◌, refl, sym, ap, arith, length, subst, append_assoc, append-nil, ◌∙◌}
use Rattle.std.specs.Prelude.{IsPermutation}
use Rattle.std.proofs.lemmas.List.Sorted.{IsPermutation-refl, IsPermutation-sym, IsPermutation-trans, IsPermutation-cons, IsPermutation-to_front, IsPermutation-middle, IsPermutation-append_left, IsPermutation-append_right, IsPermutation-append_comm}

to_end : {X : Type 0} (x : X) (xs ys : List X) → IsPermutation (x ∷ (xs ++ ys)) (xs ++ (ys ++ x ∷ []))
to_end x xs ys = subst (λ zs. IsPermutation (x ∷ (xs ++ ys)) zs) (append_assoc xs ys (x ∷ [])) (IsPermutation-sym ((xs ++ ys) ++ x ∷ []) (x ∷ (xs ++ ys)) (IsPermutation-to_front (xs ++ ys) x))

out_of_middle : {X : Type 0} (x : X) (xs ys : List X) → IsPermutation ((xs ++ x ∷ []) ++ ys) (x ∷ (xs ++ ys))
out_of_middle x xs ys = subst (λ zs. IsPermutation zs (x ∷ (xs ++ ys))) (sym (append_assoc xs (x ∷ []) ys)) (IsPermutation-middle xs x ys)

-- one of the goals left is compared with the best
pub compared : {X : Type 0} (all left less rest more : List X) (best g first second : X) → IsPermutation all (best ∷ left ++ rest) → left ≡ less ++ g ∷ [] → IsPermutation (best ∷ g ∷ []) (first ∷ second ∷ []) → more ≡ rest ++ second ∷ [] → IsPermutation all (first ∷ less ++ more)
compared all left less rest more best g first second h e o q =
    subst (λ ms. IsPermutation all (first ∷ (less ++ ms))) (sym q)
    (IsPermutation-trans all (best ∷ (left ++ rest)) (first ∷ (less ++ (rest ++ second ∷ []))) h
    (subst (λ ls. IsPermutation (best ∷ (ls ++ rest)) (first ∷ (less ++ (rest ++ second ∷ [])))) (sym e)
    (IsPermutation-trans (best ∷ ((less ++ g ∷ []) ++ rest)) (best ∷ g ∷ (less ++ rest)) (first ∷ (less ++ (rest ++ second ∷ [])))
    (IsPermutation-cons best ((less ++ g ∷ []) ++ rest) (g ∷ (less ++ rest)) (out_of_middle g less rest))
    (IsPermutation-trans (best ∷ g ∷ (less ++ rest)) (first ∷ second ∷ (less ++ rest)) (first ∷ (less ++ (rest ++ second ∷ [])))
    (IsPermutation-append_left (less ++ rest) (best ∷ g ∷ []) (first ∷ second ∷ []) o)
    (IsPermutation-cons first (second ∷ (less ++ rest)) (less ++ (rest ++ second ∷ [])) (to_end second less rest))))))

pub all_compared : {X : Type 0} (all left rest more : List X) (best : X) → IsPermutation all (best ∷ left ++ rest) → more ≡ rest ++ left → IsPermutation all (best ∷ more)
all_compared all left rest more best h q =
    subst (λ ms. IsPermutation all (best ∷ ms)) (sym q)
    (IsPermutation-trans all (best ∷ (left ++ rest)) (best ∷ (rest ++ left)) h (IsPermutation-cons best (left ++ rest) (rest ++ left) (IsPermutation-append_comm left rest)))

none_left : {X : Type 0} (xs : List X) → length xs ≡ 0 → xs ≡ []
none_left [] e = refl
none_left (x ∷ xs) e = absurd (omega (arith, e))

pub none_compared : {X : Type 0} (all left rest : List X) (best : X) → IsPermutation all (best ∷ left ++ rest) → length left ≡ 0 → IsPermutation all (best ∷ rest)
none_compared all left rest best h e = subst (λ ls. IsPermutation all (best ∷ (ls ++ rest))) (none_left left e) h

pub pair_same : {X : Type 0} (x y : X) → IsPermutation (x ∷ y ∷ []) (x ∷ y ∷ [])
pair_same x y = IsPermutation-refl (x ∷ y ∷ [])

pub pair_turned : {X : Type 0} (x y : X) → IsPermutation (x ∷ y ∷ []) (y ∷ x ∷ [])
pair_turned x y = IsPermutation-append_comm (x ∷ []) (y ∷ [])

pub start_compared : {X : Type 0} (best : X) (left rest : List X) → rest ≡ [] → IsPermutation (best ∷ left) (best ∷ left ++ rest)
start_compared best left rest e = subst (λ ls. IsPermutation (best ∷ left) (best ∷ ls)) (sym (append-nil left) ∙ ap (λ r. left ++ r) (sym e)) (IsPermutation-refl (best ∷ left))

-- one of the goals left is put near or far
pub put_near : {X : Type 0} (all near less far : List X) (g : X) → IsPermutation all (near ++ ((less ++ g ∷ []) ++ far)) → IsPermutation all ((near ++ g ∷ []) ++ (less ++ far))
put_near all near less far g h =
    subst (λ zs. IsPermutation all zs) (sym (append_assoc near (g ∷ []) (less ++ far)))
    (IsPermutation-trans all (near ++ ((less ++ g ∷ []) ++ far)) (near ++ (g ∷ (less ++ far))) h (IsPermutation-append_right near ((less ++ g ∷ []) ++ far) (g ∷ (less ++ far)) (out_of_middle g less far)))

pub put_far : {X : Type 0} (all near less far : List X) (g : X) → IsPermutation all (near ++ ((less ++ g ∷ []) ++ far)) → IsPermutation all (near ++ (less ++ (far ++ g ∷ [])))
put_far all near less far g h =
    IsPermutation-trans all (near ++ ((less ++ g ∷ []) ++ far)) (near ++ (less ++ (far ++ g ∷ []))) h
    (IsPermutation-append_right near ((less ++ g ∷ []) ++ far) (less ++ (far ++ g ∷ []))
    (IsPermutation-trans ((less ++ g ∷ []) ++ far) (g ∷ (less ++ far)) (less ++ (far ++ g ∷ [])) (out_of_middle g less far) (to_end g less far)))
