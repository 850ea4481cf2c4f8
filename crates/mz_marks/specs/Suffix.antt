-- What is known of the tokens from one place on, by recursion over them.
use Rattle.std.specs.Prelude.{Bool, true, false, List, [], ◌∷◌, ◌++◌, Option, Some, None}
use Rattle.mz_marks.specs.declared.token_class.TokenClass.{TokenClass}
use Rattle.mz_marks.specs.declared.token_class.TokenClass.TheVariants.{Identifier, Comma, Open, Close, Bracket, Being, Arrow, For, Structure, Aggregate, Term}

abbrev pub first : List TokenClass → Option TokenClass
first [] = None
first (r ∷ s) = Some r

abbrev pub is_arrow : Option TokenClass → Bool
is_arrow (Some Arrow) = true
is_arrow _ = false

abbrev pub is_aggregate_or_none : Option TokenClass → Bool
is_aggregate_or_none None = true
is_aggregate_or_none (Some Aggregate) = true
is_aggregate_or_none _ = false

abbrev pub begins_with : TokenClass → Option TokenClass → Bool
begins_with Identifier f = true
begins_with Open f = true
begins_with Bracket f = true
begins_with Term f = true
begins_with Structure f = is_aggregate_or_none f
begins_with _ f = false

abbrev pub segment_with : TokenClass → Bool → Bool
segment_with Identifier tail = tail
segment_with _ tail = false

abbrev pub tail_with : TokenClass → Bool → Bool → Bool
tail_with Comma segment matched = segment
tail_with Being segment matched = true
tail_with Bracket segment matched = true
tail_with Open segment matched = matched
tail_with _ segment matched = false

abbrev pub reserve_tail_with : TokenClass → Bool → Bool
reserve_tail_with Comma segment = segment
reserve_tail_with For segment = true
reserve_tail_with _ segment = false

-- all but the last
abbrev pub front : List Bool → List Bool
front [] = []
front (x ∷ []) = []
front (x ∷ (y ∷ ys)) = x ∷ front (y ∷ ys)

-- the last
abbrev pub top : List Bool → Bool
top [] = false
top (x ∷ []) = x
top (x ∷ (y ∷ ys)) = top (y ∷ ys)

abbrev pub arrows_with : TokenClass → Option TokenClass → List Bool → List Bool
arrows_with Close f xs = xs ++ is_arrow f ∷ []
arrows_with Open f xs = front xs
arrows_with _ f xs = xs

abbrev pub matched_with : TokenClass → List Bool → Bool
matched_with Open xs = top xs
matched_with _ xs = false

-- of each `)` without its `(`, the nearest one last: whether `->` stands behind it
abbrev pub arrows : List TokenClass → List Bool
arrows [] = []
arrows (r ∷ s) = arrows_with r (first s) (arrows s)

abbrev pub begins : List TokenClass → Bool
begins [] = true
begins (r ∷ s) = begins_with r (first s)

abbrev mutual
  pub segment : List TokenClass → Bool
  segment [] = false
  segment (r ∷ s) = segment_with r (tail s)

  pub tail : List TokenClass → Bool
  tail [] = false
  tail (r ∷ s) = tail_with r (segment s) (matched_with r (arrows s))

abbrev mutual
  pub reserve_segment : List TokenClass → Bool
  reserve_segment [] = false
  reserve_segment (r ∷ s) = segment_with r (reserve_tail s)

  pub reserve_tail : List TokenClass → Bool
  reserve_tail [] = false
  reserve_tail (r ∷ s) = reserve_tail_with r (reserve_segment s)
