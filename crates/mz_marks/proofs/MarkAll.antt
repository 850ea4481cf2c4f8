-- All marks that are computed are those of the definition.
use Rattle.std.proofs.Common.{◌≡◌, ℕ, zero, suc, ◌<◌, Bool, true, false, ◌&&◌, ◌⊎◌, inl, inr, List, [], ◌∷◌, ◌++◌, take, drop, length, get_or, refl, sym, ap, subst, ◌∙◌, append_assoc, arith}
use Rattle.std.specs.List.{list_all}
use Rattle.mz_marks.specs.declared.token_class.TokenClass.{TokenClass}
use Rattle.mz_marks.specs.declared.token_class.TokenClass.TheVariants.{Identifier, Comma, Open, Close, Bracket, Being, Arrow, For, Reserve, Semicolon, Structure, Aggregate, Term, Other}
use Rattle.mz_base.specs.declared.token.Mark.TheVariants as mark
use Rattle.mz_marks.specs.Suffix.{begins, segment, reserve_segment}
use Rattle.mz_marks.specs.Marks.{is_no_semicolon, InReserve, Divides, IsMark, AreMarks}
use Rattle.mz_marks.specs.PendingMark.{comma_with, pending_mark_with, settled, reserving_after, marks_from}
use Rattle.mz_marks.proofs.MarkLemmas.{segment_sound, reserve_segment_sound, segment_complete, begins_is, Either}

-- the flag says whether the tokens before stand in a `reserve`
pub record Tells (before : List TokenClass) (reserving : Bool) : Type 0 where
  pub yes : reserving ≡ true → InReserve before
  pub no : reserving ≡ false → InReserve before → ⊥

pub divides_or_not : (before s : List TokenClass) (reserving b c d : Bool) → Tells before reserving → b ≡ begins s → c ≡ segment s → d ≡ reserve_segment s → IsMark before (Comma ∷ s) (settled reserving (comma_with b c d))
divides_or_not before s reserving false c d t eb ec ed = inl (sym (begins_is s) ∙ sym eb)
divides_or_not before s reserving true true d t eb ec ed = inr (segment_sound before s (sym ec))
divides_or_not before s true true false true t eb ec ed = inr (reserve_segment_sound before s (t.yes refl) (sym ed))
divides_or_not before s false true false true t eb ec ed = not_dividing
  where
    refuted : Either before (segment s) (reserve_segment s) → ⊥
    refuted (inl e) = cc
    refuted (inr h) = t.no refl h.0

    not_dividing : Divides before s → ⊥
    not_dividing (inl e) = let f : true ≡ false = eb ∙ (begins_is s ∙ e) in cc
    not_dividing (inr h) = refuted (segment_complete before s h)
divides_or_not before s reserving true false false t eb ec ed = not_dividing
  where
    refuted : Either before (segment s) (reserve_segment s) → ⊥
    refuted (inl e) = cc
    refuted (inr h) = let f : reserve_segment s ≡ true = h.1 in cc

    not_dividing : Divides before s → ⊥
    not_dividing (inl e) = let f : true ≡ false = eb ∙ (begins_is s ∙ e) in cc
    not_dividing (inr h) = refuted (segment_complete before s h)

pub here : (before s : List TokenClass) (r : TokenClass) (reserving : Bool) → Tells before reserving → IsMark before (r ∷ s) (settled reserving (pending_mark_with r (begins s) (segment s) (reserve_segment s)))
here before s Comma reserving t = divides_or_not before s reserving (begins s) (segment s) (reserve_segment s) t refl refl refl
here before s Identifier reserving t = tt
here before s Open reserving t = tt
here before s Close reserving t = tt
here before s Bracket reserving t = tt
here before s Being reserving t = tt
here before s Arrow reserving t = tt
here before s For reserving t = tt
here before s Reserve reserving t = tt
here before s Semicolon reserving t = tt
here before s Structure reserving t = tt
here before s Aggregate reserving t = tt
here before s Term reserving t = tt
here before s Other reserving t = tt

-- the flag behind one more token
and_left : (p q : Bool) → (p && q) ≡ true → p ≡ true
and_left true q e = refl
and_left false q e = cc

and_right : (p q : Bool) → (p && q) ≡ true → q ≡ true
and_right true q e = e
and_right false q e = cc

and_both : (p q : Bool) → p ≡ true → q ≡ true → (p && q) ≡ true
and_both true q e f = f
and_both false q e f = cc

all_last : (b : List TokenClass) (r : TokenClass) → list_all is_no_semicolon (b ++ r ∷ []) ≡ true → (list_all is_no_semicolon b ≡ true) × (is_no_semicolon r ≡ true)
all_last [] r e = (refl, and_left (is_no_semicolon r) true e)
all_last (q ∷ b) r e =
    let h = all_last b r (and_right (is_no_semicolon q) (list_all is_no_semicolon (b ++ r ∷ [])) e) in
    (and_both (is_no_semicolon q) (list_all is_no_semicolon b) (and_left (is_no_semicolon q) (list_all is_no_semicolon (b ++ r ∷ [])) e) h.0, h.1)

all_more : (b : List TokenClass) (r : TokenClass) → list_all is_no_semicolon b ≡ true → is_no_semicolon r ≡ true → list_all is_no_semicolon (b ++ r ∷ []) ≡ true
all_more [] r e f = and_both (is_no_semicolon r) true f refl
all_more (q ∷ b) r e f =
    and_both (is_no_semicolon q) (list_all is_no_semicolon (b ++ r ∷ [])) (and_left (is_no_semicolon q) (list_all is_no_semicolon b) e) (all_more b r (and_right (is_no_semicolon q) (list_all is_no_semicolon b) e) f)

not_nil : (a b : List TokenClass) (r : TokenClass) → [] ≡ a ++ r ∷ b → ⊥
not_nil [] b r e = cc
not_nil (q ∷ a) b r e = cc

tail_is : (p q : TokenClass) (s t : List TokenClass) → p ∷ s ≡ q ∷ t → s ≡ t
tail_is p q s t e = cc

head_is : (p q : TokenClass) (s t : List TokenClass) → p ∷ s ≡ q ∷ t → p ≡ q
head_is p q s t e = cc

-- where a token stands in a list with this last one
last_in : (before a b : List TokenClass) (r t : TokenClass) → before ++ r ∷ [] ≡ a ++ t ∷ b → ((b ≡ []) × (r ≡ t)) ⊎ ((c : List TokenClass) × (b ≡ c ++ r ∷ []) × (before ≡ a ++ t ∷ c))
last_in [] [] b r t e = inl (sym (tail_is r t [] b e), head_is r t [] b e)
last_in [] (p ∷ a) b r t e = absurd (not_nil a b t (tail_is r p [] (a ++ t ∷ b) e))
last_in (q ∷ before) [] b r t e = inr (before, sym (tail_is q t (before ++ r ∷ []) b e), ap (λ z. z ∷ before) (head_is q t (before ++ r ∷ []) b e))
last_in (q ∷ before) (p ∷ a) b r t e = go (last_in before a b r t (tail_is q p (before ++ r ∷ []) (a ++ t ∷ b) e))
  where
    same : q ≡ p
    same = head_is q p (before ++ r ∷ []) (a ++ t ∷ b) e

    go : ((b ≡ []) × (r ≡ t)) ⊎ ((c : List TokenClass) × (b ≡ c ++ r ∷ []) × (before ≡ a ++ t ∷ c)) → ((b ≡ []) × (r ≡ t)) ⊎ ((c : List TokenClass) × (b ≡ c ++ r ∷ []) × (q ∷ before ≡ p ∷ (a ++ t ∷ c)))
    go (inl h) = inl h
    go (inr h) = inr (h.0, h.1, ap (λ z. z ∷ before) same ∙ ap (λ z. p ∷ z) h.2)

tells_same : (before : List TokenClass) (r : TokenClass) (reserving : Bool) → (r ≡ Reserve → ⊥) → is_no_semicolon r ≡ true → Tells before reserving → Tells (before ++ r ∷ []) reserving
tells_same before r reserving differ plain t = record {
  yes = λ e. let h = t.yes e in (h.0, h.1 ++ r ∷ [], ap (λ z. z ++ r ∷ []) h.2 ∙ append_assoc h.0 (Reserve ∷ h.1) (r ∷ []), all_more h.1 r h.3 plain);
  no = λ e h. go e h (last_in before h.0 h.1 r Reserve h.2);
}
  where
    go : reserving ≡ false → (h : InReserve (before ++ r ∷ [])) → ((h.1 ≡ []) × (r ≡ Reserve)) ⊎ ((c : List TokenClass) × (h.1 ≡ c ++ r ∷ []) × (before ≡ h.0 ++ Reserve ∷ c)) → ⊥
    go e h (inl k) = differ k.1
    go e h (inr k) = t.no e (h.0, k.0, k.2, (all_last k.0 r (ap (list_all is_no_semicolon) (sym k.1) ∙ h.3)).0)

pub tells_more : (before : List TokenClass) (r : TokenClass) (reserving : Bool) → Tells before reserving → Tells (before ++ r ∷ []) (reserving_after reserving r)
tells_more before Reserve reserving t = record { yes = λ e. (before, [], refl, refl); no = λ e h. cc }
tells_more before Semicolon reserving t = record { yes = λ e. cc; no = λ e h. go h (last_in before h.0 h.1 Semicolon Reserve h.2) }
  where
    go : (h : InReserve (before ++ Semicolon ∷ [])) → ((h.1 ≡ []) × (Semicolon ≡ Reserve)) ⊎ ((c : List TokenClass) × (h.1 ≡ c ++ Semicolon ∷ []) × (before ≡ h.0 ++ Reserve ∷ c)) → ⊥
    go h (inl k) = let e : Semicolon ≡ Reserve = k.1 in cc
    go h (inr k) = let e : false ≡ true = (all_last k.0 Semicolon (ap (list_all is_no_semicolon) (sym k.1) ∙ h.3)).1 in cc
tells_more before Identifier reserving t = tells_same before Identifier reserving (λ e. cc) refl t
tells_more before Comma reserving t = tells_same before Comma reserving (λ e. cc) refl t
tells_more before Open reserving t = tells_same before Open reserving (λ e. cc) refl t
tells_more before Close reserving t = tells_same before Close reserving (λ e. cc) refl t
tells_more before Bracket reserving t = tells_same before Bracket reserving (λ e. cc) refl t
tells_more before Being reserving t = tells_same before Being reserving (λ e. cc) refl t
tells_more before Arrow reserving t = tells_same before Arrow reserving (λ e. cc) refl t
tells_more before For reserving t = tells_same before For reserving (λ e. cc) refl t
tells_more before Structure reserving t = tells_same before Structure reserving (λ e. cc) refl t
tells_more before Aggregate reserving t = tells_same before Aggregate reserving (λ e. cc) refl t
tells_more before Term reserving t = tells_same before Term reserving (λ e. cc) refl t
tells_more before Other reserving t = tells_same before Other reserving (λ e. cc) refl t

pub nothing_before : Tells [] false
nothing_before = record { yes = λ e. cc; no = λ e h. not_nil h.0 h.1 Reserve h.2 }

marks_count : (reserving : Bool) (s : List TokenClass) → length (marks_from reserving s) ≡ length s
marks_count reserving [] = refl
marks_count reserving (r ∷ s) = ap suc (marks_count (reserving_after reserving r) s)

append-nil : (a : List TokenClass) → a ++ [] ≡ a
append-nil [] = refl
append-nil (q ∷ a) = ap (λ z. q ∷ z) (append-nil a)

each_mark : (before s : List TokenClass) (reserving : Bool) → Tells before reserving → (i : ℕ) → i < length s → IsMark (before ++ take i s) (drop i s) (get_or (marks_from reserving s) i mark.NotComma)
each_mark before [] reserving t i l = absurd (omega (arith, l))
each_mark before (r ∷ s) reserving t zero l =
    let M : List TokenClass → Type 0 = λ z. IsMark z (r ∷ s) (settled reserving (pending_mark_with r (begins s) (segment s) (reserve_segment s))) in
    subst M (sym (append-nil before)) (here before s r reserving t)
each_mark before (r ∷ s) reserving t (suc i) l =
    let M : List TokenClass → Type 0 = λ z. IsMark z (drop i s) (get_or (marks_from (reserving_after reserving r) s) i mark.NotComma) in
    subst M (append_assoc before (r ∷ []) (take i s)) (each_mark (before ++ r ∷ []) s (reserving_after reserving r) (tells_more before r reserving t) i (omega (arith, l)))

pub marks_right : (s : List TokenClass) → AreMarks s (marks_from false s)
marks_right s = record { count = marks_count false s; each = each_mark [] s false nothing_before }
