-- The first line of a text.
use Rattle.std.proofs.Common.{◌≡◌, ℕ, suc, ◌+◌, ◌-◌, ◌<◌, ◌≤◌, Bool, true, false, not, cond, nat_lt, List, [], ◌∷◌, length, take, drop, Some, None, refl, ◌∙◌, arith, one-add, length-drop}
use Rattle.std.specs.Prelude.{position}
use Rattle.std.specs.List.{position_or_len}
use Rattle.std.proofs.lemmas.List.{take_all, drop_all}
use borrow.Author.Tests.{ltb-false}
use Rattle.mz_voc.specs.Lines.{is_line_end, put_in_front, lines_of}

put_in_front-longer : (b m : ℕ) (bs : List ℕ) → lines_of bs ≡ take m bs ∷ lines_of (drop (m + 1) bs) → put_in_front b (lines_of bs) ≡ take (1 + m) (b ∷ bs) ∷ lines_of (drop (1 + m + 1) (b ∷ bs))
put_in_front-longer b m bs h =
    let e : 1 + m + 1 ≡ suc (m + 1) = omega arith in
    rw (h, e, one-add) refl

-- the first line ends at the first line end, or at the end of the text
lines_of-cons : (b : ℕ) (bs : List ℕ) → lines_of (b ∷ bs) ≡ take (position_or_len is_line_end (b ∷ bs)) (b ∷ bs) ∷ lines_of (drop (position_or_len is_line_end (b ∷ bs) + 1) (b ∷ bs))
unfolding lines_of
lines_of-cons b [] =
    elim (is_line_end b) as (λ t. cond t ([] ∷ []) ((b ∷ []) ∷ []) ≡ take (cond (not t) (1 + 0) 0) (b ∷ []) ∷ lines_of (drop (cond (not t) (1 + 0) 0 + 1) (b ∷ []))) [ true ↦ refl | false ↦ refl ]
lines_of-cons b (c ∷ cs) =
    let m : ℕ = position_or_len is_line_end (c ∷ cs) in
    elim (is_line_end b) as (λ t. cond t ([] ∷ lines_of (c ∷ cs)) (put_in_front b (lines_of (c ∷ cs))) ≡ take (cond (not t) (1 + m) 0) (b ∷ c ∷ cs) ∷ lines_of (drop (cond (not t) (1 + m) 0 + 1) (b ∷ c ∷ cs)))
    [ true ↦ refl | false ↦ put_in_front-longer b m (c ∷ cs) (lines_of-cons c cs) ]

lines_of-first : (bs : List ℕ) → 0 < length bs → lines_of bs ≡ take (position_or_len is_line_end bs) bs ∷ lines_of (drop (position_or_len is_line_end bs + 1) bs)
lines_of-first [] h = absurd (omega arith)
lines_of-first (b ∷ bs) h = lines_of-cons b bs

chosen : (t : Bool) (n i : ℕ) → Some i ≡ cond t (Some n) None → i ≡ n
chosen true n i h = cc
chosen false n i h = cc

not_chosen : (t : Bool) (n : ℕ) → None ≡ cond t (Some n) None → t ≡ false
not_chosen true n h = cc
not_chosen false n h = refl

pub first_line_ended : (bs : List ℕ) (at : ℕ) → 0 < length bs → Some at ≡ position is_line_end bs → lines_of bs ≡ take at bs ∷ lines_of (take (length bs - (at + 1)) (drop (at + 1) bs))
first_line_ended bs at h e =
    let p : at ≡ position_or_len is_line_end bs = chosen (nat_lt (position_or_len is_line_end bs) (length bs)) _ at e in
    let all : take (length bs - (at + 1)) (drop (at + 1) bs) ≡ drop (at + 1) bs = take_all _ _ (simp length-drop (omega arith)) in
    rw (all, p) (lines_of-first bs h)

pub last_line : (bs : List ℕ) → 0 < length bs → None ≡ position is_line_end bs → lines_of bs ≡ bs ∷ lines_of []
last_line bs h e =
    let n : ℕ = position_or_len is_line_end bs in
    let past : nat_lt n (length bs) ≡ false = not_chosen (nat_lt n (length bs)) n e in
    let le : length bs ≤ n = ltb-false n (length bs) past in
    let all : take n bs ≡ bs = take_all n bs le in
    let none : drop (n + 1) bs ≡ [] = drop_all (n + 1) bs (omega arith) in
    let first : lines_of bs ≡ take n bs ∷ lines_of (drop (n + 1) bs) = lines_of-first bs h in
    first ∙ (λ i. all i ∷ lines_of (none i))
