-- What the program knows of the tokens from one place on.
use Rattle.std.specs.Prelude.{◌≡◌, List, Some}
use Rattle.mz_marks.specs.declared.token_class.TokenClass.{TokenClass}
use Rattle.mz_marks.specs.declared.suffix.Suffix as rust
use Rattle.mz_marks.specs.Suffix.{first, begins, segment, tail, reserve_segment, reserve_tail, arrows, begins_with, segment_with, tail_with, reserve_tail_with, arrows_with, matched_with}

pub record IsSuffix (s : List TokenClass) (a : rust.Suffix) : Type 0 where
  pub first_is : a.first ≡ first s
  pub begins_is : a.begins ≡ begins s
  pub segment_is : a.segment ≡ segment s
  pub tail_is : a.tail ≡ tail s
  pub reserve_segment_is : a.reserve_segment ≡ reserve_segment s
  pub reserve_tail_is : a.reserve_tail ≡ reserve_tail s
  pub arrows_are : a.arrows.items ≡ arrows s

-- one token more
pub record Meets (r : TokenClass) (old new : rust.Suffix) : Type 0 where
  pub first_is : new.first ≡ Some r
  pub begins_is : new.begins ≡ begins_with r old.first
  pub segment_is : new.segment ≡ segment_with r old.tail
  pub tail_is : new.tail ≡ tail_with r old.segment (matched_with r old.arrows.items)
  pub reserve_segment_is : new.reserve_segment ≡ segment_with r old.reserve_tail
  pub reserve_tail_is : new.reserve_tail ≡ reserve_tail_with r old.reserve_segment
  pub arrows_are : new.arrows.items ≡ arrows_with r old.first old.arrows.items
