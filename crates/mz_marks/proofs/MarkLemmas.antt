-- The marks that are computed are those of the definition.
use Rattle.std.proofs.Common.{◌≡◌, ℕ, zero, suc, ◌+◌, ◌≤◌, Bool, true, false, ◌⊎◌, inl, inr, List, [], ◌∷◌, ◌++◌, length, refl, sym, ap, subst, ◌∙◌, append_assoc, arith, length-append, Option}
use Rattle.mz_marks.specs.declared.token_class.TokenClass.{TokenClass}
use Rattle.mz_marks.specs.declared.token_class.TokenClass.TheVariants.{Identifier, Comma, Open, Close, Bracket, Being, Arrow, For, Reserve, Semicolon, Structure, Aggregate, Term, Other}
use Rattle.mz_marks.specs.Suffix.{first, is_arrow, begins, segment, tail, reserve_segment, reserve_tail, front, top, arrows, arrows_with}
use Rattle.mz_marks.specs.Marks.{may_begin_term, is_parenthesis, Balanced, nothing, other, group, Idents, one, more, InReserve, EndsIdents, NewSegment}

-- lists with a last member
pub front_last : (xs : List Bool) (x : Bool) → front (xs ++ x ∷ []) ≡ xs
front_last [] x = refl
front_last (y ∷ []) x = refl
front_last (y ∷ (z ∷ zs)) x = ap (λ q. y ∷ q) (front_last (z ∷ zs) x)

pub top_last : (xs : List Bool) (x : Bool) → top (xs ++ x ∷ []) ≡ x
top_last [] x = refl
top_last (y ∷ []) x = refl
top_last (y ∷ (z ∷ zs)) x = top_last (z ∷ zs) x

last_of : (x : Bool) (xs : List Bool) → (ys : List Bool) × (y : Bool) × (x ∷ xs ≡ ys ++ y ∷ [])
last_of x [] = ([], x, refl)
last_of x (z ∷ xs) = let h = last_of z xs in (x ∷ h.0, h.1, ap (λ q. x ∷ q) h.2)

pub top_true : (zs : List Bool) → top zs ≡ true → (xs : List Bool) × (zs ≡ xs ++ true ∷ [])
top_true [] e = cc
top_true (x ∷ xs) e =
    let h = last_of x xs in
    let f : true ≡ h.1 = sym e ∙ (ap top h.2 ∙ top_last h.0 h.1) in
    (h.0, h.2 ∙ ap (λ q. h.0 ++ q ∷ []) (sym f))

pub front_more : (zs xs : List Bool) (x : Bool) → front zs ≡ xs ++ x ∷ [] → (y : Bool) × (zs ≡ (xs ++ x ∷ []) ++ y ∷ [])
front_more [] xs x e = absurd (not_nil xs x e)
  where
    not_nil : (xs : List Bool) (x : Bool) → [] ≡ xs ++ x ∷ [] → ⊥
    not_nil [] x f = cc
    not_nil (y ∷ xs) x f = cc
front_more (z ∷ zs) xs x e =
    let h = last_of z zs in
    let f : h.0 ≡ xs ++ x ∷ [] = sym (ap front h.2 ∙ front_last h.0 h.1) ∙ e in
    (h.1, h.2 ∙ ap (λ q. q ++ h.1 ∷ []) f)

pub same_last : (xs ys : List Bool) (x y : Bool) → xs ++ x ∷ [] ≡ ys ++ y ∷ [] → (xs ≡ ys) × (x ≡ y)
same_last xs ys x y e = (sym (front_last xs x) ∙ (ap front e ∙ front_last ys y), sym (top_last xs x) ∙ (ap top e ∙ top_last ys y))

-- a token that is no parenthesis
plain_arrows : (r : TokenClass) (f : Option TokenClass) (xs : List Bool) → is_parenthesis r ≡ false → arrows_with r f xs ≡ xs
plain_arrows Open f xs e = cc
plain_arrows Close f xs e = cc
plain_arrows _ f xs e = refl

-- parentheses with their partners leave nothing
pub arrows-balanced : (a s : List TokenClass) → Balanced a → arrows (a ++ s) ≡ arrows s
arrows-balanced _ s nothing = refl
arrows-balanced _ s (other r a e h) = plain_arrows r (first (a ++ s)) (arrows (a ++ s)) e ∙ arrows-balanced a s h
arrows-balanced _ s (group a b h k) =
    ap (λ q. front (arrows q)) (append_assoc a (Close ∷ b) s)
    ∙ (ap front (arrows-balanced a (Close ∷ (b ++ s)) h)
    ∙ (front_last (arrows (b ++ s)) (is_arrow (first (b ++ s))) ∙ arrows-balanced b s k))

-- the nearest `)` without its `(` in what follows
pub record Nearest (s : List TokenClass) (xs : List Bool) (x : Bool) : Type 0 where
  pub inside : List TokenClass
  pub behind : List TokenClass
  pub balanced : Balanced inside
  pub split : s ≡ inside ++ Close ∷ behind
  pub arrow : x ≡ is_arrow (first behind)
  pub others : xs ≡ arrows behind

nearest_other : (r : TokenClass) (s : List TokenClass) (xs : List Bool) (x : Bool) → is_parenthesis r ≡ false → Nearest s xs x → Nearest (r ∷ s) xs x
nearest_other r s xs x e h = record {
  inside = r ∷ h.inside;
  behind = h.behind;
  balanced = other r h.inside e h.balanced;
  split = ap (λ q. r ∷ q) h.split;
  arrow = h.arrow;
  others = h.others;
}

pub nearest : (n : ℕ) (s : List TokenClass) (xs : List Bool) (x : Bool) → length s ≤ n → arrows s ≡ xs ++ x ∷ [] → Nearest s xs x
nearest n [] xs x fit e = absurd (not_nil xs x e)
  where
    not_nil : (xs : List Bool) (x : Bool) → [] ≡ xs ++ x ∷ [] → ⊥
    not_nil [] x f = cc
    not_nil (y ∷ xs) x f = cc
nearest zero (r ∷ s) xs x fit e = absurd (omega (arith, fit))
nearest (suc n) (Close ∷ s) xs x fit e =
    let h = same_last (arrows s) xs (is_arrow (first s)) x e in
    record { inside = []; behind = s; balanced = nothing; split = refl; arrow = sym h.1; others = sym h.0 }
nearest (suc n) (Open ∷ s) xs x fit e =
    let g = front_more (arrows s) xs x e in
    let h = nearest n s (xs ++ x ∷ []) g.0 (omega (arith, fit)) g.1 in
    let l : length s ≡ length h.inside + length (Close ∷ h.behind) = ap length h.split ∙ length-append h.inside (Close ∷ h.behind) in
    let k = nearest n h.behind xs x (omega (arith, fit, l)) (sym h.others) in
    record {
      inside = Open ∷ (h.inside ++ Close ∷ k.inside);
      behind = k.behind;
      balanced = group h.inside k.inside h.balanced k.balanced;
      split = ap (λ q. Open ∷ q) (h.split ∙ (ap (λ q. h.inside ++ Close ∷ q) k.split ∙ sym (append_assoc h.inside (Close ∷ k.inside) (Close ∷ k.behind))));
      arrow = k.arrow;
      others = k.others;
    }
nearest (suc n) (Identifier ∷ s) xs x fit e = nearest_other Identifier s xs x refl (nearest n s xs x (omega (arith, fit)) e)
nearest (suc n) (Comma ∷ s) xs x fit e = nearest_other Comma s xs x refl (nearest n s xs x (omega (arith, fit)) e)
nearest (suc n) (Bracket ∷ s) xs x fit e = nearest_other Bracket s xs x refl (nearest n s xs x (omega (arith, fit)) e)
nearest (suc n) (Being ∷ s) xs x fit e = nearest_other Being s xs x refl (nearest n s xs x (omega (arith, fit)) e)
nearest (suc n) (Arrow ∷ s) xs x fit e = nearest_other Arrow s xs x refl (nearest n s xs x (omega (arith, fit)) e)
nearest (suc n) (For ∷ s) xs x fit e = nearest_other For s xs x refl (nearest n s xs x (omega (arith, fit)) e)
nearest (suc n) (Reserve ∷ s) xs x fit e = nearest_other Reserve s xs x refl (nearest n s xs x (omega (arith, fit)) e)
nearest (suc n) (Semicolon ∷ s) xs x fit e = nearest_other Semicolon s xs x refl (nearest n s xs x (omega (arith, fit)) e)
nearest (suc n) (Structure ∷ s) xs x fit e = nearest_other Structure s xs x refl (nearest n s xs x (omega (arith, fit)) e)
nearest (suc n) (Aggregate ∷ s) xs x fit e = nearest_other Aggregate s xs x refl (nearest n s xs x (omega (arith, fit)) e)
nearest (suc n) (Term ∷ s) xs x fit e = nearest_other Term s xs x refl (nearest n s xs x (omega (arith, fit)) e)
nearest (suc n) (Other ∷ s) xs x fit e = nearest_other Other s xs x refl (nearest n s xs x (omega (arith, fit)) e)

is_arrow_first : (s : List TokenClass) → true ≡ is_arrow (first s) → (m : List TokenClass) × (s ≡ Arrow ∷ m)
is_arrow_first [] e = cc
is_arrow_first (Arrow ∷ m) e = (m, refl)
is_arrow_first (Identifier ∷ m) e = cc
is_arrow_first (Comma ∷ m) e = cc
is_arrow_first (Open ∷ m) e = cc
is_arrow_first (Close ∷ m) e = cc
is_arrow_first (Bracket ∷ m) e = cc
is_arrow_first (Being ∷ m) e = cc
is_arrow_first (For ∷ m) e = cc
is_arrow_first (Reserve ∷ m) e = cc
is_arrow_first (Semicolon ∷ m) e = cc
is_arrow_first (Structure ∷ m) e = cc
is_arrow_first (Aggregate ∷ m) e = cc
is_arrow_first (Term ∷ m) e = cc
is_arrow_first (Other ∷ m) e = cc

-- a `(` whose `)` has `->` behind it
pub matched_sound : (before s : List TokenClass) → top (arrows s) ≡ true → EndsIdents before (Open ∷ s)
matched_sound before s e =
    let g = top_true (arrows s) e in
    let h = nearest (length s) s g.0 true (omega arith) g.1 in
    let k = is_arrow_first h.behind h.arrow in
    (h.inside, k.0, h.balanced, h.split ∙ ap (λ q. h.inside ++ Close ∷ q) k.1)

pub matched_complete : (a m s : List TokenClass) → Balanced a → s ≡ a ++ Close ∷ (Arrow ∷ m) → top (arrows s) ≡ true
matched_complete a m s h e = ap (λ q. top (arrows q)) e ∙ (ap top (arrows-balanced a (Close ∷ (Arrow ∷ m)) h) ∙ top_last (arrows m) true)

-- what follows an identifier: the end of a segment's identifiers, or a comma and further ones
abbrev pub GoesOn : List TokenClass → List TokenClass → Type 0
GoesOn before s = EndsIdents before s ⊎ ((m : List TokenClass) × (s ≡ Comma ∷ m) × NewSegment before m)

from_identifier : (before s : List TokenClass) → GoesOn before s → NewSegment before (Identifier ∷ s)
from_identifier before s (inl h) = (Identifier ∷ [], s, one, refl, h)
from_identifier before s (inr h) = (Identifier ∷ (Comma ∷ h.2.0), h.2.1, more h.2.0 h.2.2, ap (λ q. Identifier ∷ q) (h.1 ∙ ap (λ q. Comma ∷ q) h.2.3), h.2.4)

mutual
  pub segment_sound : (before s : List TokenClass) → segment s ≡ true → NewSegment before s
  segment_sound before [] e = cc
  segment_sound before (Identifier ∷ s) e = from_identifier before s (tail_sound before s e)
  segment_sound before (Comma ∷ s) e = cc
  segment_sound before (Open ∷ s) e = cc
  segment_sound before (Close ∷ s) e = cc
  segment_sound before (Bracket ∷ s) e = cc
  segment_sound before (Being ∷ s) e = cc
  segment_sound before (Arrow ∷ s) e = cc
  segment_sound before (For ∷ s) e = cc
  segment_sound before (Reserve ∷ s) e = cc
  segment_sound before (Semicolon ∷ s) e = cc
  segment_sound before (Structure ∷ s) e = cc
  segment_sound before (Aggregate ∷ s) e = cc
  segment_sound before (Term ∷ s) e = cc
  segment_sound before (Other ∷ s) e = cc

  pub tail_sound : (before s : List TokenClass) → tail s ≡ true → GoesOn before s
  tail_sound before [] e = cc
  tail_sound before (Comma ∷ s) e = inr (s, refl, segment_sound before s e)
  tail_sound before (Open ∷ s) e = inl (matched_sound before s e)
  tail_sound before (Bracket ∷ s) e = inl tt
  tail_sound before (Being ∷ s) e = inl tt
  tail_sound before (Identifier ∷ s) e = cc
  tail_sound before (Close ∷ s) e = cc
  tail_sound before (Arrow ∷ s) e = cc
  tail_sound before (For ∷ s) e = cc
  tail_sound before (Reserve ∷ s) e = cc
  tail_sound before (Semicolon ∷ s) e = cc
  tail_sound before (Structure ∷ s) e = cc
  tail_sound before (Aggregate ∷ s) e = cc
  tail_sound before (Term ∷ s) e = cc
  tail_sound before (Other ∷ s) e = cc

mutual
  pub reserve_segment_sound : (before s : List TokenClass) → InReserve before → reserve_segment s ≡ true → NewSegment before s
  reserve_segment_sound before [] h e = cc
  reserve_segment_sound before (Identifier ∷ s) h e = from_identifier before s (reserve_tail_sound before s h e)
  reserve_segment_sound before (Comma ∷ s) h e = cc
  reserve_segment_sound before (Open ∷ s) h e = cc
  reserve_segment_sound before (Close ∷ s) h e = cc
  reserve_segment_sound before (Bracket ∷ s) h e = cc
  reserve_segment_sound before (Being ∷ s) h e = cc
  reserve_segment_sound before (Arrow ∷ s) h e = cc
  reserve_segment_sound before (For ∷ s) h e = cc
  reserve_segment_sound before (Reserve ∷ s) h e = cc
  reserve_segment_sound before (Semicolon ∷ s) h e = cc
  reserve_segment_sound before (Structure ∷ s) h e = cc
  reserve_segment_sound before (Aggregate ∷ s) h e = cc
  reserve_segment_sound before (Term ∷ s) h e = cc
  reserve_segment_sound before (Other ∷ s) h e = cc

  pub reserve_tail_sound : (before s : List TokenClass) → InReserve before → reserve_tail s ≡ true → GoesOn before s
  reserve_tail_sound before [] h e = cc
  reserve_tail_sound before (Comma ∷ s) h e = inr (s, refl, reserve_segment_sound before s h e)
  reserve_tail_sound before (For ∷ s) h e = inl h
  reserve_tail_sound before (Open ∷ s) h e = cc
  reserve_tail_sound before (Bracket ∷ s) h e = cc
  reserve_tail_sound before (Being ∷ s) h e = cc
  reserve_tail_sound before (Identifier ∷ s) h e = cc
  reserve_tail_sound before (Close ∷ s) h e = cc
  reserve_tail_sound before (Arrow ∷ s) h e = cc
  reserve_tail_sound before (Reserve ∷ s) h e = cc
  reserve_tail_sound before (Semicolon ∷ s) h e = cc
  reserve_tail_sound before (Structure ∷ s) h e = cc
  reserve_tail_sound before (Aggregate ∷ s) h e = cc
  reserve_tail_sound before (Term ∷ s) h e = cc
  reserve_tail_sound before (Other ∷ s) h e = cc

-- which of the two it is
abbrev pub Either : List TokenClass → Bool → Bool → Type 0
Either before b c = (b ≡ true) ⊎ (InReserve before × (c ≡ true))

ends_complete : (before s : List TokenClass) → EndsIdents before s → Either before (tail s) (reserve_tail s)
ends_complete before [] h = absurd h
ends_complete before (Being ∷ s) h = inl refl
ends_complete before (Bracket ∷ s) h = inl refl
ends_complete before (For ∷ s) h = inr (h, refl)
ends_complete before (Open ∷ s) h = inl (matched_complete h.0 h.1 s h.2 h.3)
ends_complete before (Identifier ∷ s) h = absurd h
ends_complete before (Comma ∷ s) h = absurd h
ends_complete before (Close ∷ s) h = absurd h
ends_complete before (Arrow ∷ s) h = absurd h
ends_complete before (Reserve ∷ s) h = absurd h
ends_complete before (Semicolon ∷ s) h = absurd h
ends_complete before (Structure ∷ s) h = absurd h
ends_complete before (Aggregate ∷ s) h = absurd h
ends_complete before (Term ∷ s) h = absurd h
ends_complete before (Other ∷ s) h = absurd h

idents_complete : (before idents after : List TokenClass) → Idents idents → EndsIdents before after → Either before (segment (idents ++ after)) (reserve_segment (idents ++ after))
idents_complete before _ after one h = ends_complete before after h
idents_complete before _ after (more s k) h = idents_complete before s after k h

pub segment_complete : (before s : List TokenClass) → NewSegment before s → Either before (segment s) (reserve_segment s)
segment_complete before s h =
    let E : List TokenClass → Type 0 = λ q. Either before (segment q) (reserve_segment q) in
    subst E (sym h.3) (idents_complete before h.0 h.1 h.2 h.4)

-- whether a term can begin
pub begins_is : (s : List TokenClass) → begins s ≡ may_begin_term s
begins_is [] = refl
begins_is (Structure ∷ []) = refl
begins_is (Structure ∷ (Aggregate ∷ s)) = refl
begins_is (Structure ∷ (Identifier ∷ s)) = refl
begins_is (Structure ∷ (Comma ∷ s)) = refl
begins_is (Structure ∷ (Open ∷ s)) = refl
begins_is (Structure ∷ (Close ∷ s)) = refl
begins_is (Structure ∷ (Bracket ∷ s)) = refl
begins_is (Structure ∷ (Being ∷ s)) = refl
begins_is (Structure ∷ (Arrow ∷ s)) = refl
begins_is (Structure ∷ (For ∷ s)) = refl
begins_is (Structure ∷ (Reserve ∷ s)) = refl
begins_is (Structure ∷ (Semicolon ∷ s)) = refl
begins_is (Structure ∷ (Structure ∷ s)) = refl
begins_is (Structure ∷ (Term ∷ s)) = refl
begins_is (Structure ∷ (Other ∷ s)) = refl
begins_is (Identifier ∷ s) = refl
begins_is (Comma ∷ s) = refl
begins_is (Open ∷ s) = refl
begins_is (Close ∷ s) = refl
begins_is (Bracket ∷ s) = refl
begins_is (Being ∷ s) = refl
begins_is (Arrow ∷ s) = refl
begins_is (For ∷ s) = refl
begins_is (Reserve ∷ s) = refl
begins_is (Semicolon ∷ s) = refl
begins_is (Aggregate ∷ s) = refl
begins_is (Term ∷ s) = refl
begins_is (Other ∷ s) = refl
