-- Two texts written one behind the other.
use Rattle.std.proofs.Common.{◌≡◌, ℕ, ◌+◌, ◌<◌, ◌≤◌, List, ◌++◌, length, take, refl, ap, sym, subst, ◌∙◌, arith, length-append}
use Rattle.std.specs.Prelude.{Option, Result, Ok, Err, OnErr}
use Rattle.std.proofs.Math.Seq.{take-append-add}
use Rattle.std.proofs.lemmas.List.{take-append-le}
use Rattle.mz_io.specs.Sink.{with_bytes, TookPart}
use Rattle.mz_io.proofs.SinkLemmas.{with_bytes-append}

pub both_taken : (old mid new : Option (List ℕ)) (first second : List ℕ) → mid ≡ with_bytes old first → new ≡ with_bytes mid second → new ≡ with_bytes old (first ++ second)
both_taken old mid new first second h k = k ∙ (ap (λ m. with_bytes m second) h ∙ with_bytes-append old first second)

pub first_part : (old new : Option (List ℕ)) (first second : List ℕ) → TookPart old new first → TookPart old new (first ++ second)
first_part old new first second (n, lt, took) =
    (n, omega (arith, length-append first second), took ∙ ap (λ bs. with_bytes old bs) (sym (take-append-le n first second (omega arith))))

pub second_part : (old mid new : Option (List ℕ)) (first second : List ℕ) → mid ≡ with_bytes old first → TookPart mid new second → TookPart old new (first ++ second)
second_part old mid new first second h (n, lt, took) =
    (length first + n, omega (arith, length-append first second), both_taken old mid new first (take n second) h took ∙ ap (λ bs. with_bytes old bs) (sym (take-append-add first second n)))

-- the same of a second write's answer

pub second_on_err : {X E : Type 0} (r : Result X E) (old mid new : Option (List ℕ)) (first second : List ℕ) → mid ≡ with_bytes old first → OnErr r (TookPart mid new second) → OnErr r (TookPart old new (first ++ second))
second_on_err (Ok x) old mid new first second h k = tt
second_on_err (Err e) old mid new first second h k = second_part old mid new first second h k

-- the same where the texts are given by others
pub part_on_err : {X E : Type 0} (r : Result X E) (old mid new : Option (List ℕ)) (first second p q : List ℕ) → p ≡ first → q ≡ second → mid ≡ with_bytes old p → OnErr r (TookPart mid new q) → OnErr r (TookPart old new (first ++ second))
part_on_err r old mid new first second p q a b h k =
    second_on_err r old mid new first second (h ∙ ap (λ bs. with_bytes old bs) a) (subst (λ bs. OnErr r (TookPart mid new bs)) b k)
