-- The steps of a run are determined.
use Rattle.std.proofs.Common.{◌≡◌, ◌+◌, ℕ, suc, Bool, List, [], ◌∷◌, ◌++◌, length, refl, sym, ap, ◌∙◌, subst, arith, Option, Some, None}
use Rattle.std.specs.Prelude.{nat_lt}
use Rattle.mz_grouping.specs.Grouping as gr
use Rattle.mz_grouping.specs.Grouping.{Head, head_of, Grouped}
use Rattle.mz_grouping.specs.declared.grouping.Part.{Part}
use Rattle.mz_grouping.specs.declared.grouping.Part.TheVariants.{Operand, Symbol}
use Rattle.mz_grouping.specs.declared.grouping.Step.{Step}
use Rattle.mz_grouping.specs.declared.grouping.Step.TheVariants.{Take, Apply}

record Same (before others behind rest : List Part) : Type 0 where
  front : before ≡ others
  back : behind ≡ rest

same_length : (before others behind rest : List Part) (x y : Part) → before ++ x ∷ behind ≡ others ++ y ∷ rest → length before ≡ length others → Same before others behind rest
same_length [] [] behind rest x y h e = record { front = refl; back = cc }
same_length [] (o ∷ os) behind rest x y h e = absurd (omega (arith, e))
same_length (b ∷ bs) [] behind rest x y h e = absurd (omega (arith, e))
same_length (b ∷ bs) (o ∷ os) behind rest x y h e =
    let one : bs ++ x ∷ behind ≡ os ++ y ∷ rest = cc in
    let two : b ≡ o = cc in
    let s : Same bs os behind rest = same_length bs os behind rest x y one (omega (arith, e)) in
    record { front = ap (λ z. z ∷ bs) two ∙ ap (λ zs. o ∷ zs) s.front; back = s.back }

not_empty : (before behind : List Part) (x : Part) → before ++ x ∷ behind ≡ [] → ⊥
not_empty [] behind x h = cc
not_empty (b ∷ bs) behind x h = cc

not_operand : (before behind : List Part) (rank : ℕ) (after : Bool) → before ++ Symbol rank after ∷ behind ≡ Operand ∷ [] → ⊥
not_operand [] behind rank after h = cc
not_operand (b ∷ bs) behind rank after h =
    let one : bs ++ Symbol rank after ∷ behind ≡ [] = cc in
    not_empty bs behind (Symbol rank after) one

-- a run with its head, and its steps
record Split (from : ℕ) (run : List Part) (steps : List Step) : Type 0 where
  before : List Part
  behind : List Part
  rank : ℕ
  after : Bool
  ls : List Step
  rs : List Step
  is : run ≡ before ++ Symbol rank after ∷ behind
  head : head_of from run ≡ Some (record { place = from + length before; rank = rank; after = after })
  left : Grouped from before ls
  right : Grouped (from + suc (length before)) behind rs
  all : steps ≡ ls ++ rs ++ Apply (from + length before) (nat_lt 0 (length before)) (nat_lt 0 (length behind)) ∷ []

data GroupedAs (from : ℕ) (run : List Part) (steps : List Step) : Type 0 where
  as_nothing : run ≡ [] → steps ≡ [] → GroupedAs from run steps
  as_operand : run ≡ Operand ∷ [] → steps ≡ Take from ∷ [] → GroupedAs from run steps
  as_split : Split from run steps → GroupedAs from run steps

grouped_as : (from : ℕ) (run : List Part) (steps : List Step) → Grouped from run steps → GroupedAs from run steps
grouped_as from run steps (gr.nothing f) = as_nothing refl refl
grouped_as from run steps (gr.operand f) = as_operand refl refl
grouped_as from run steps (gr.headed f before behind rank after ls rs h g k) =
    as_split (record { before = before; behind = behind; rank = rank; after = after; ls = ls; rs = rs; is = refl; head = h; left = g; right = k; all = refl })

place_of : Option Head → ℕ
place_of None = 0
place_of (Some h) = h.place

same_place : (o : Option Head) (x y : Head) → o ≡ Some x → o ≡ Some y → x.place ≡ y.place
unfolding place_of
same_place o x y h k = sym (ap place_of h) ∙ ap place_of k

only_nothing : (from : ℕ) (steps : List Step) → GroupedAs from [] steps → [] ≡ steps
only_nothing from steps (as_nothing h k) = sym k
only_nothing from steps (as_operand h k) = cc
only_nothing from steps (as_split s) = absurd (not_empty s.before s.behind (Symbol s.rank s.after) (sym s.is))

cons-only_operand : (from : ℕ) (steps : List Step) → GroupedAs from (Operand ∷ []) steps → Take from ∷ [] ≡ steps
cons-only_operand from steps (as_nothing h k) = cc
cons-only_operand from steps (as_operand h k) = sym k
cons-only_operand from steps (as_split s) = absurd (not_operand s.before s.behind s.rank s.after (sym s.is))

append-joined : (from : ℕ) (before others behind rest : List Part) (ls ms rs ns : List Step) → before ≡ others → behind ≡ rest → ls ≡ ms → rs ≡ ns →
    ls ++ rs ++ Apply (from + length before) (nat_lt 0 (length before)) (nat_lt 0 (length behind)) ∷ [] ≡ ms ++ ns ++ Apply (from + length others) (nat_lt 0 (length others)) (nat_lt 0 (length rest)) ∷ []
append-joined from before others behind rest ls ms rs ns e f g h =
    ap (λ xs. xs ++ rs ++ Apply (from + length before) (nat_lt 0 (length before)) (nat_lt 0 (length behind)) ∷ []) g
    ∙ (ap (λ xs. ms ++ xs ++ Apply (from + length before) (nat_lt 0 (length before)) (nat_lt 0 (length behind)) ∷ []) h
    ∙ (ap (λ xs. ms ++ ns ++ Apply (from + length xs) (nat_lt 0 (length xs)) (nat_lt 0 (length behind)) ∷ []) e
    ∙ ap (λ xs. ms ++ ns ++ Apply (from + length others) (nat_lt 0 (length others)) (nat_lt 0 (length xs)) ∷ []) f))

append-split_once : (from : ℕ) (before behind : List Part) (rank : ℕ) (after : Bool) (ls rs more : List Step) → head_of from (before ++ Symbol rank after ∷ behind) ≡ Some (record { place = from + length before; rank = rank; after = after }) →
    ((ms : List Step) → Grouped from before ms → ls ≡ ms) → ((ns : List Step) → Grouped (from + suc (length before)) behind ns → rs ≡ ns) → GroupedAs from (before ++ Symbol rank after ∷ behind) more →
    ls ++ rs ++ Apply (from + length before) (nat_lt 0 (length before)) (nat_lt 0 (length behind)) ∷ [] ≡ more
append-split_once from before behind rank after ls rs more h f g (as_nothing e t) = absurd (not_empty before behind (Symbol rank after) e)
append-split_once from before behind rank after ls rs more h f g (as_operand e t) = absurd (not_operand before behind rank after e)
append-split_once from before behind rank after ls rs more h f g (as_split s) =
    let at : from + length before ≡ from + length s.before = same_place _ _ _ h s.head in
    let same : Same before s.before behind s.behind = same_length before s.before behind s.behind (Symbol rank after) (Symbol s.rank s.after) s.is (omega (arith, at)) in
    let front : ls ≡ s.ls = f s.ls (subst (λ xs. Grouped from xs s.ls) (sym same.front) s.left) in
    let back : rs ≡ s.rs = g s.rs (subst (λ xs. Grouped (from + suc (length xs)) behind s.rs) (sym same.front) (subst (λ xs. Grouped (from + suc (length s.before)) xs s.rs) (sym same.back) s.right)) in
    append-joined from before s.before behind s.behind ls s.ls rs s.rs same.front same.back front back ∙ sym s.all

pub one_grouping : (from : ℕ) (run : List Part) (steps more : List Step) → Grouped from run steps → Grouped from run more → steps ≡ more
one_grouping from run steps more (gr.nothing f) k = only_nothing from more (grouped_as from [] more k)
one_grouping from run steps more (gr.operand f) k = cons-only_operand from more (grouped_as from (Operand ∷ []) more k)
one_grouping from run steps more (gr.headed f before behind rank after ls rs h g r) k =
    append-split_once from before behind rank after ls rs more h (λ ms q. one_grouping from before ls ms g q) (λ ns q. one_grouping (from + suc (length before)) behind rs ns r q) (grouped_as from (before ++ Symbol rank after ∷ behind) more k)
