-- What the code of answers tells.
use Rattle.std.proofs.Common.{◌≡◌, ℕ, zero, suc, List, [], ◌∷◌, ◌++◌, subst, sym, Bool, arith, Some}
use Rattle.std.specs.Prelude.{◌↔◌, IsTrue, All, Contains, Option, slice_get}
use Rattle.std.proofs.lemmas.List.Elements.{All-append, All-nil}
use Rattle.std.proofs.lemmas.Option.{slice_get_within, get_or_from_slice_get}
use Rattle.mz_logic.specs.declared.literal.Literal.{Literal}
use Rattle.mz_context.specs.declared.constants.Constant.{Constant}
use Rattle.mz_ground.specs.declared.clause.Clause.{Clause}
use Rattle.mz_fits.specs.Fits.{LiteralFits}
use Rattle.mz_fits.proofs.FitLemmas.{told_all_fit, told_one_unfit, told_one_fits, told_none_asked}
use Rattle.mz_answers.specs.Answers.{answer, IsRight, AreRight, Has, MayHave, as_before, one_more}
use Rattle.mz_answers.specs.declared.answer.Answer.{Answer}

pub none_right : (xs : List Answer) → xs ≡ [] → (cs : List Clause) (ks : List (Option Constant)) → AreRight cs ks xs
none_right xs e cs ks = subst (AreRight cs ks) (sym e) (record { each = All-nil (IsRight cs ks) })

-- an answer that is found
pub told_found : (xs : List Answer) (a : Answer) (l : Literal) (k : ℕ) → slice_get xs k ≡ Some a → a.literal ≡ l → Has xs l a.fits
told_found xs a l k e same =
    let w : Contains xs a = (k, slice_get_within xs k a e, get_or_from_slice_get xs k a a e) in
    record { among = subst (λ m. Contains xs (answer m a.fits)) same w }

pub ruleset found_rules = (told_found)

pub told_more : (old new : List Answer) (a : Answer) (l : Literal) (b : Bool) → new ≡ old ++ a ∷ [] → a.literal ≡ l → a.fits ≡ b → MayHave old (answer l b) new
told_more old new a l b e p q =
    let w : MayHave old (answer a.literal a.fits) new = subst (λ xs. MayHave old a xs) (sym e) one_more in
    subst (λ m. MayHave old (answer m b) new) p (subst (λ c. MayHave old (answer a.literal c) new) q w)

pub told_as_before : (old new : List Answer) (a : Answer) → new ≡ old → MayHave old a new
told_as_before old new a e = subst (λ xs. MayHave old a xs) (sym e) as_before

pub ruleset kept_rules = (told_more, told_as_before)

-- an answer among those that are right
right_at : (cs : List Clause) (ks : List (Option Constant)) (xs : List Answer) (l : Literal) (b : Bool) → All (IsRight cs ks) xs → Contains xs (answer l b) → IsTrue b ↔ LiteralFits cs ks l
right_at cs ks xs l b w (k, lt, e) = subst (IsRight cs ks) e (w k (answer l b) lt)

pub told_before : (cs : List Clause) (ks : List (Option Constant)) (xs : List Answer) (l : Literal) (b : Bool) → AreRight cs ks xs → Has xs l b → IsTrue b ↔ LiteralFits cs ks l
told_before cs ks xs l b w h = right_at cs ks xs l b w.each h.among

one_right : (cs : List Clause) (ks : List (Option Constant)) (l : Literal) (b : Bool) → IsTrue b ↔ LiteralFits cs ks l → All (IsRight cs ks) (answer l b ∷ [])
one_right cs ks l b i zero d lt = i
one_right cs ks l b i (suc k) d lt = absurd (omega (arith, lt))

pub told_right : (cs : List Clause) (ks : List (Option Constant)) (old new : List Answer) (l : Literal) (b : Bool) → AreRight cs ks old → IsTrue b ↔ LiteralFits cs ks l → MayHave old (answer l b) new → AreRight cs ks new
told_right cs ks old new l b w i as_before = w
told_right cs ks old new l b w i one_more = record { each = All-append (IsRight cs ks) old (answer l b ∷ []) w.each (one_right cs ks l b i) }

pub ruleset right_rules = (told_before, told_right)

pub ruleset each_rules = (told_all_fit, told_one_unfit, told_one_fits, told_none_asked)
