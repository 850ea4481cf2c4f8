-- Several writes in turn.
use Rattle.std.proofs.Common.{◌≡◌, ℕ, ◌+◌, ◌-◌, List, ◌++◌, Option, Some, None, length, take, drop, refl, ap, sym, ◌∙◌, append_assoc, arith}
use Rattle.std.proofs.Math.Seq.{take-add}
use Rattle.std.proofs.lemmas.List.{take_all, length-drop}
use Rattle.mz_io.specs.Sink.{with_bytes}

pub with_bytes-append : (old : Option (List ℕ)) (first second : List ℕ) → with_bytes (with_bytes old first) second ≡ with_bytes old (first ++ second)
with_bytes-append None first second = refl
with_bytes-append (Some bytes) first second = ap (λ bs. Some bs) (append_assoc bytes first second)

-- n bytes of all that is left, after i bytes
pub with_bytes-more : (old mid new : Option (List ℕ)) (bytes : List ℕ) (i n : ℕ) → mid ≡ with_bytes old (take i bytes) → new ≡ with_bytes mid (take n (take (length bytes - i) (drop i bytes))) → new ≡ with_bytes old (take (i + n) bytes)
with_bytes-more old mid new bytes i n h k =
    let rest : take (length bytes - i) (drop i bytes) ≡ drop i bytes =
    take_all (length bytes - i) (drop i bytes) (omega (arith, length-drop i bytes))
    in
    k
    ∙ ap (λ q. with_bytes mid (take n q)) rest
    ∙ ap (λ m. with_bytes m (take n (drop i bytes))) h
    ∙ with_bytes-append old (take i bytes) (take n (drop i bytes))
    ∙ ap (λ bs. with_bytes old bs) (sym (take-add i n bytes))
