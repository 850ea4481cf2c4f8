-- Names once, and their types.
use Rattle.std.proofs.Common.{◌≡◌, ℕ, true, false, List, [], ◌∷◌, ◌++◌, refl, sym, ap, ◌∙◌, append_assoc, if◌then◌else◌, ◌<◌, ◌+◌, length, get_or, take}
use Rattle.std.proofs.lemmas.List.{take_more, append-nil}
use Rattle.mz_context.specs.declared.context.Context.{Context}
use Rattle.mz_names.specs.Names.{reserved_type}
use Rattle.mz_names.specs.declared.variable.Variable.{Variable}
use Rattle.mz_free.specs.Occurring.{is_among}
use Rattle.mz_free.specs.Free.{once_behind, once_more, if_typed, as_reserved}

pub once_behind-append : (there ns ms : List (List ℕ)) → once_behind there (ns ++ ms) ≡ once_behind (once_behind there ns) ms
once_behind-append there [] ms = refl
once_behind-append there (n ∷ ns) ms = elim (is_among there n) as (λ b. (if b then once_behind there (ns ++ ms) else once_behind (there ++ n ∷ []) (ns ++ ms)) ≡ once_behind (if b then once_behind there ns else once_behind (there ++ n ∷ []) ns) ms) [
  | true ↦ once_behind-append there ns ms
  | false ↦ once_behind-append (there ++ n ∷ []) ns ms
]

pub as_reserved-append : (least : ℕ) (c : Context) (ns ms : List (List ℕ)) → as_reserved least c (ns ++ ms) ≡ as_reserved least c ns ++ as_reserved least c ms
as_reserved-append least c [] ms = refl
as_reserved-append least c (n ∷ ns) ms = ap (λ z. if_typed n (reserved_type least c n) ++ z) (as_reserved-append least c ns ms) ∙ sym (append_assoc (if_typed n (reserved_type least c n)) (as_reserved least c ns) (as_reserved least c ms))

take-more : (xs : List (List ℕ)) (i : ℕ) (x : List ℕ) → i < length xs → x ≡ get_or xs i x → take (i + 1) xs ≡ take i xs ++ x ∷ []
take-more xs i x lt at = take_more xs i x lt ∙ ap (λ z. take i xs ++ z ∷ []) (sym at)

pub told_one_more : (out out' xs : List (List ℕ)) (i : ℕ) (x : List ℕ) → i < length xs → x ≡ get_or xs i x → out ≡ once_behind [] (take i xs) → out' ≡ once_more out x → out' ≡ once_behind [] (take (i + 1) xs)
told_one_more out out' xs i x lt at eo e = e ∙ ap (λ z. once_more z x) eo ∙ sym (ap (λ z. once_behind [] z) (take-more xs i x lt at) ∙ once_behind-append [] (take i xs) (x ∷ []))

pub told_one_typed : (least : ℕ) (c : Context) (out out' : List Variable) (xs : List (List ℕ)) (i : ℕ) (x : List ℕ) → i < length xs → x ≡ get_or xs i x → out ≡ as_reserved least c (take i xs) → out' ≡ out ++ if_typed x (reserved_type least c x) → out' ≡ as_reserved least c (take (i + 1) xs)
told_one_typed least c out out' xs i x lt at eo e =
    let one : as_reserved least c (x ∷ []) ≡ if_typed x (reserved_type least c x) = append-nil (if_typed x (reserved_type least c x)) in
    e ∙ ap (λ z. z ++ if_typed x (reserved_type least c x)) eo ∙ sym (ap (λ z. as_reserved least c z) (take-more xs i x lt at) ∙ as_reserved-append least c (take i xs) (x ∷ []) ∙ ap (λ z. as_reserved least c (take i xs) ++ z) one)
