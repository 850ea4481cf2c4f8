-- A same_adjectives-turn of the comparison of adjectives.
use Rattle.std.proofs.Common.{◌≡◌, ℕ, arith, suc, ◌+◌, ◌<◌, ◌≤◌, List, [], ◌∷◌, length, get_or, drop, refl, sym, ap, ◌∙◌, drop-cons, add-one, Bool, true, false}
use Rattle.std.specs.Prelude.{◌&&◌}
use Rattle.std.proofs.lemmas.List.{drop_all, length-drop}
use Rattle.mz_core.specs.declared.adjective.Adjective.{Adjective}
use Rattle.mz_clauses.specs.SameTypes.{same_adjective, same_adjectives}

drop-split : (xs : List Adjective) (i : ℕ) (x : Adjective) → i < length xs → x ≡ get_or xs i x → drop i xs ≡ x ∷ drop (i + 1) xs
drop-split xs i x lt at = rw (add-one, drop-cons xs i x) (ap (λ y. y ∷ drop (suc i) xs) (sym at))

same_adjectives-turn : (xs ys : List Adjective) (i : ℕ) (x y : Adjective) → i < length xs → i < length ys → x ≡ get_or xs i x → y ≡ get_or ys i y → same_adjectives (drop i xs) (drop i ys) ≡ (same_adjective x y && same_adjectives (drop (i + 1) xs) (drop (i + 1) ys))
same_adjectives-turn xs ys i x y ltx lty atx aty =
    let ex : drop i xs ≡ x ∷ drop (i + 1) xs = drop-split xs i x ltx atx in
    let ey : drop i ys ≡ y ∷ drop (i + 1) ys = drop-split ys i y lty aty in
    λ j. same_adjectives (ex j) (ey j)

pub told_same : (xs ys : List Adjective) (i : ℕ) (x y : Adjective) → i < length xs → i < length ys → x ≡ get_or xs i x → y ≡ get_or ys i y → same_adjective x y ≡ true → same_adjectives (drop i xs) (drop i ys) ≡ same_adjectives xs ys → same_adjectives (drop (i + 1) xs) (drop (i + 1) ys) ≡ same_adjectives xs ys
told_same xs ys i x y ltx lty atx aty h goes =
    ap (λ b. b && same_adjectives (drop (i + 1) xs) (drop (i + 1) ys)) (sym h) ∙ (sym (same_adjectives-turn xs ys i x y ltx lty atx aty) ∙ goes)

pub told_other : (xs ys : List Adjective) (i : ℕ) (x y : Adjective) → i < length xs → i < length ys → x ≡ get_or xs i x → y ≡ get_or ys i y → same_adjective x y ≡ false → same_adjectives (drop i xs) (drop i ys) ≡ same_adjectives xs ys → false ≡ same_adjectives xs ys
told_other xs ys i x y ltx lty atx aty h goes =
    ap (λ b. b && same_adjectives (drop (i + 1) xs) (drop (i + 1) ys)) (sym h) ∙ (sym (same_adjectives-turn xs ys i x y ltx lty atx aty) ∙ goes)

longer : (zs : List Adjective) → 0 < length zs → same_adjectives zs [] ≡ false
longer [] h = absurd (omega arith)
longer (z ∷ zs) h = refl

shorter : (zs : List Adjective) → 0 < length zs → same_adjectives [] zs ≡ false
shorter [] h = absurd (omega arith)
shorter (z ∷ zs) h = refl

pub told_short : (xs ys : List Adjective) (i : ℕ) → i < length xs → length ys ≤ i → same_adjectives (drop i xs) (drop i ys) ≡ same_adjectives xs ys → false ≡ same_adjectives xs ys
told_short xs ys i lt past goes =
    let left : 0 < length (drop i xs) = simp length-drop (omega arith) in
    sym (longer (drop i xs) left) ∙ (ap (same_adjectives (drop i xs)) (sym (drop_all i ys past)) ∙ goes)

pub told_long : (xs ys : List Adjective) (i : ℕ) → length xs ≤ i → i < length ys → same_adjectives (drop i xs) (drop i ys) ≡ same_adjectives xs ys → false ≡ same_adjectives xs ys
told_long xs ys i past lt goes =
    let left : 0 < length (drop i ys) = simp length-drop (omega arith) in
    sym (shorter (drop i ys) left) ∙ (ap (λ zs. same_adjectives zs (drop i ys)) (sym (drop_all i xs past)) ∙ goes)

pub told_all : (xs ys : List Adjective) (i : ℕ) → length xs ≤ i → length ys ≤ i → same_adjectives (drop i xs) (drop i ys) ≡ same_adjectives xs ys → true ≡ same_adjectives xs ys
told_all xs ys i pastx pasty goes =
    let ex : drop i xs ≡ [] = drop_all i xs pastx in
    let ey : drop i ys ≡ [] = drop_all i ys pasty in
    sym (λ j. same_adjectives (ex j) (ey j)) ∙ goes

pub ruleset adjective_rules = (told_same, told_other, told_short, told_long, told_all)
