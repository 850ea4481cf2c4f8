-- Sizes of lists, beside each other.
use Rattle.std.proofs.Common.{◌≡◌, ◌<◌, ◌+◌, add-one, ℕ, zero, suc, List, [], ◌∷◌, ◌++◌, append_assoc, length, map, take, get_or, refl, sym, ap, ◌∙◌, arith}
use Rattle.std.proofs.lemmas.List.{append-nil}
use Rattle.mz_instance_sizes.specs.Sizes.{nothing, beside, all_beside}
use Rattle.mz_instance_sizes.specs.declared.size.Size.{Size}
use Rattle.mz_instance_sizes.proofs.SizeLemmas.{beside-assoc, beside-nothing}

beside_more : (xs : List Size) (x : Size) → all_beside (xs ++ x ∷ []) ≡ beside (all_beside xs) x
beside_more [] x = beside-nothing x
beside_more (y ∷ ys) x = ap (beside y) (beside_more ys x) ∙ sym (beside-assoc y (all_beside ys) x)

empty : {X : Type 0} (xs : List X) → length xs ≡ 0 → xs ≡ []
empty [] e = refl
empty (x ∷ xs) e = absurd (omega (arith, e))

-- those that are done, beside each other
abbrev pub Done : List Size → Size → List Size → Type 0
Done all out rest = (done : List Size) × (all ≡ done ++ rest) × (out ≡ all_beside done)

pub told_begun : (all : List Size) (out : Size) → out ≡ nothing → Done all out all
told_begun all out e = ([], refl, e)

pub told_more_beside : (all rest others : List Size) (x out longer : Size) → rest ≡ x ∷ others → longer ≡ beside out x → Done all out rest → Done all longer others
told_more_beside all rest others x out longer er el d =
    (d.0 ++ x ∷ [], d.1 ∙ (ap (λ xs. d.0 ++ xs) er ∙ sym (append_assoc d.0 (x ∷ []) others)), el ∙ (ap (λ z. beside z x) d.2 ∙ sym (beside_more d.0 x)))

pub told_all_beside : (all rest : List Size) (out : Size) → length rest ≡ 0 → Done all out rest → out ≡ all_beside all
told_all_beside all rest out e d = d.2 ∙ ap all_beside (sym (d.1 ∙ (ap (λ xs. d.0 ++ xs) (empty rest e) ∙ append-nil d.0)))

pub ruleset beside_rules = (told_begun, told_more_beside, told_all_beside)

-- one more of a list
more_of : (X : Type 0) (g : X → Size) (xs : List X) (i : ℕ) (x : X) → i < length xs → x ≡ get_or xs i x → all_beside (map g (take (suc i) xs)) ≡ beside (all_beside (map g (take i xs))) (g x)
more_of X g [] i x lt e = absurd (omega (arith, lt))
more_of X g (y ∷ ys) zero x lt e = ap (λ z. beside (g z) nothing) (sym e) ∙ beside-nothing (g x)
more_of X g (y ∷ ys) (suc i) x lt e =
    ap (beside (g y)) (more_of X g ys i x (omega (arith, lt)) e) ∙ sym (beside-assoc (g y) (all_beside (map g (take i ys))) (g x))

pub told_more_of : (X : Type 0) (g : X → Size) (xs : List X) (i : ℕ) (x : X) (out y longer : Size) → i < length xs → x ≡ get_or xs i x → out ≡ all_beside (map g (take i xs)) → y ≡ g x → longer ≡ beside out y → longer ≡ all_beside (map g (take (i + 1) xs))
told_more_of X g xs i x out y longer lt e eo ey el =
    el ∙ (λ k. beside (eo k) (ey k)) ∙ sym (more_of X g xs i x lt e) ∙ ap (λ n. all_beside (map g (take n xs))) (sym (add-one i))

pub ruleset more_rules = (told_more_of)
