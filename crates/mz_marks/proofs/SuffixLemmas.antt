-- What the program keeps while it goes over the tokens.
use Rattle.std.proofs.Common.{◌≡◌, Bool, false, List, [], ◌∷◌, ◌++◌, reverse, refl, sym, ap, ◌∙◌, append_assoc}
use Rattle.std.proofs.lemmas.List.{reverse-append}
use Rattle.mz_marks.specs.declared.token_class.TokenClass.{TokenClass}
use Rattle.mz_base.specs.declared.token.Mark.{Mark}
use Rattle.mz_marks.specs.declared.pending_mark.PendingMark.{PendingMark}
use Rattle.mz_marks.specs.declared.suffix.Suffix as rust
use Rattle.mz_marks.specs.Suffix.{begins, segment, reserve_segment, first, begins_with, segment_with, tail_with, reserve_tail_with, arrows_with, matched_with}
use Rattle.mz_marks.specs.IsSuffix.{IsSuffix, Meets}
use Rattle.mz_marks.specs.PendingMark.{pending_mark_with, pending_marks, settled, reserving_after, marks_from}

pub suffix_more : (r : TokenClass) (s : List TokenClass) (old new : rust.Suffix) → IsSuffix s old → Meets r old new → IsSuffix (r ∷ s) new
suffix_more r s old new h m = record {
  first_is = m.first_is;
  begins_is = m.begins_is ∙ ap (begins_with r) h.first_is;
  segment_is = m.segment_is ∙ ap (segment_with r) h.tail_is;
  tail_is = m.tail_is ∙ (ap (λ b. tail_with r b (matched_with r old.arrows.items)) h.segment_is ∙ ap (λ xs. tail_with r (segment s) (matched_with r xs)) h.arrows_are);
  reserve_segment_is = m.reserve_segment_is ∙ ap (segment_with r) h.reserve_tail_is;
  reserve_tail_is = m.reserve_tail_is ∙ ap (reserve_tail_with r) h.reserve_segment_is;
  arrows_are = m.arrows_are ∙ (ap (λ f. arrows_with r f old.arrows.items) h.first_is ∙ ap (arrows_with r (first s)) h.arrows_are);
}

-- from the last token to the first
pub record Back (classes rest : List TokenClass) (suffix : rust.Suffix) (out : List PendingMark) : Type 0 where
  pub behind : List TokenClass
  pub split : classes ≡ rest ++ behind
  pub known : IsSuffix behind suffix
  pub made : out ≡ reverse (pending_marks behind)

pub back_more : (classes rest before : List TokenClass) (r : TokenClass) (old new : rust.Suffix) (out out' : List PendingMark) → Back classes rest old out → rest ≡ before ++ r ∷ [] →
    out' ≡ out ++ pending_mark_with r old.begins old.segment old.reserve_segment ∷ [] → Meets r old new → Back classes before new out'
back_more classes rest before r old new out out' h e f m = record {
  behind = r ∷ h.behind;
  split = h.split ∙ (ap (λ z. z ++ h.behind) e ∙ append_assoc before (r ∷ []) h.behind);
  known = suffix_more r h.behind old new h.known m;
  made = f ∙ (ap (λ z. z ++ pending_mark_with r old.begins old.segment old.reserve_segment ∷ []) h.made
      ∙ (ap (λ b. reverse (pending_marks h.behind) ++ pending_mark_with r b old.segment old.reserve_segment ∷ []) h.known.begins_is
      ∙ (ap (λ b. reverse (pending_marks h.behind) ++ pending_mark_with r (begins h.behind) b old.reserve_segment ∷ []) h.known.segment_is
      ∙ (ap (λ b. reverse (pending_marks h.behind) ++ pending_mark_with r (begins h.behind) (segment h.behind) b ∷ []) h.known.reserve_segment_is
      ∙ sym (reverse-append (pending_mark_with r (begins h.behind) (segment h.behind) (reserve_segment h.behind) ∷ []) (pending_marks h.behind))))));
}

pub back_end : (classes rest : List TokenClass) (suffix : rust.Suffix) (out : List PendingMark) → Back classes rest suffix out → rest ≡ [] → out ≡ reverse (pending_marks classes)
back_end classes rest suffix out h e = h.made ∙ ap (λ z. reverse (pending_marks z)) (sym (h.split ∙ ap (λ z. z ++ h.behind) e))

-- from the first token to the last
pub record On (classes rest : List TokenClass) (reserving : Bool) (outs : List PendingMark) (marks : List Mark) : Type 0 where
  pub left : outs ≡ reverse (pending_marks rest)
  pub all : marks_from false classes ≡ marks ++ marks_from reserving rest

same_last : {X : Type 0} (xs ys : List X) (x y : X) → xs ++ x ∷ [] ≡ ys ++ y ∷ [] → (xs ≡ ys) × (x ≡ y)
same_last [] [] x y e = (refl, cc)
same_last [] (z ∷ ys) x y e = absurd (not_nil ys y (cc))
  where
    not_nil : {X : Type 0} (ys : List X) (y : X) → [] ≡ ys ++ y ∷ [] → ⊥
    not_nil [] y f = cc
    not_nil (z ∷ ys) y f = cc
same_last (w ∷ xs) [] x y e = absurd (not_nil xs x (cc))
  where
    not_nil : {X : Type 0} (ys : List X) (y : X) → ys ++ y ∷ [] ≡ [] → ⊥
    not_nil [] y f = cc
    not_nil (z ∷ ys) y f = cc
same_last (w ∷ xs) (z ∷ ys) x y e = let h = same_last xs ys x y (cc) in (go h.0, h.1)
  where
    go : xs ≡ ys → w ∷ xs ≡ z ∷ ys
    go f = let g : w ≡ z = cc in cc

reverse_more : (r : TokenClass) (s : List TokenClass) → reverse (pending_marks (r ∷ s)) ≡ reverse (pending_marks s) ++ pending_mark_with r (begins s) (segment s) (reserve_segment s) ∷ []
reverse_more r s = reverse-append (pending_mark_with r (begins s) (segment s) (reserve_segment s) ∷ []) (pending_marks s)

pub on_more : (classes rest after : List TokenClass) (r : TokenClass) (reserving : Bool) (outs outs' : List PendingMark) (o : PendingMark) (marks marks' : List Mark) → On classes rest reserving outs marks → rest ≡ r ∷ after → outs ≡ outs' ++ o ∷ [] →
    marks' ≡ marks ++ settled reserving o ∷ [] → On classes after (reserving_after reserving r) outs' marks'
on_more classes rest after r reserving outs outs' o marks marks' h e f g =
    let k = same_last outs' (reverse (pending_marks after)) o (pending_mark_with r (begins after) (segment after) (reserve_segment after)) (sym f ∙ (h.left ∙ (ap (λ z. reverse (pending_marks z)) e ∙ reverse_more r after))) in
    record {
      left = k.0;
      all = h.all ∙ (ap (λ z. marks ++ marks_from reserving z) e
          ∙ (ap (λ z. marks ++ settled reserving z ∷ marks_from (reserving_after reserving r) after) (sym k.1)
          ∙ (sym (append_assoc marks (settled reserving o ∷ []) (marks_from (reserving_after reserving r) after)) ∙ ap (λ z. z ++ marks_from (reserving_after reserving r) after) (sym g))));
    }

pub marks_from-on_end : (classes rest : List TokenClass) (reserving : Bool) (outs : List PendingMark) (marks : List Mark) → On classes rest reserving outs marks → rest ≡ [] → marks_from false classes ≡ marks
marks_from-on_end classes rest reserving outs marks h e = h.all ∙ (ap (λ z. marks ++ marks_from reserving z) e ∙ nil marks)
  where
    nil : (ms : List Mark) → ms ++ [] ≡ ms
    nil [] = refl
    nil (m ∷ ms) = ap (λ z. m ∷ z) (nil ms)

pub never_empty : (classes rest after : List TokenClass) (r : TokenClass) (reserving : Bool) (outs : List PendingMark) (marks : List Mark) → On classes rest reserving outs marks → rest ≡ r ∷ after → outs ≡ [] → ⊥
never_empty classes rest after r reserving outs marks h e f =
    not_nil (reverse (pending_marks after)) (pending_mark_with r (begins after) (segment after) (reserve_segment after)) (sym f ∙ (h.left ∙ (ap (λ z. reverse (pending_marks z)) e ∙ reverse_more r after)))
  where
    not_nil : (xs : List PendingMark) (x : PendingMark) → [] ≡ xs ++ x ∷ [] → ⊥
    not_nil [] x k = cc
    not_nil (y ∷ xs) x k = cc
