-- The marks of commas, computed.
use Rattle.std.specs.Prelude.{Bool, true, false, List, [], ◌∷◌}
use Rattle.mz_marks.specs.declared.token_class.TokenClass.{TokenClass}
use Rattle.mz_marks.specs.declared.token_class.TokenClass.TheVariants.{Comma, Reserve, Semicolon}
use Rattle.mz_base.specs.declared.token.Mark.{Mark}
use Rattle.mz_base.specs.declared.token.Mark.TheVariants as mark
use Rattle.mz_marks.specs.declared.pending_mark.PendingMark.{PendingMark}
use Rattle.mz_marks.specs.declared.pending_mark.PendingMark.TheVariants as pending
use Rattle.mz_marks.specs.Suffix.{begins, segment, reserve_segment}

abbrev pub comma_with : Bool → Bool → Bool → PendingMark
comma_with false segment reserve_segment = pending.Dividing
comma_with true true reserve_segment = pending.Dividing
comma_with true false true = pending.DividingInReserve
comma_with true false false = pending.List

abbrev pub pending_mark_with : TokenClass → Bool → Bool → Bool → PendingMark
pending_mark_with Comma begins segment reserve_segment = comma_with begins segment reserve_segment
pending_mark_with _ begins segment reserve_segment = pending.NotComma

abbrev pub pending_marks : List TokenClass → List PendingMark
pending_marks [] = []
pending_marks (r ∷ s) = pending_mark_with r (begins s) (segment s) (reserve_segment s) ∷ pending_marks s

abbrev pub mark_with : Bool → Mark
mark_with true = mark.Dividing
mark_with false = mark.List

abbrev pub settled : Bool → PendingMark → Mark
settled reserving pending.NotComma = mark.NotComma
settled reserving pending.List = mark.List
settled reserving pending.Dividing = mark.Dividing
settled reserving pending.DividingInReserve = mark_with reserving

abbrev pub reserving_after : Bool → TokenClass → Bool
reserving_after reserving Reserve = true
reserving_after reserving Semicolon = false
reserving_after reserving _ = reserving

-- the marks of the tokens from one place on
abbrev pub marks_from : Bool → List TokenClass → List Mark
marks_from reserving [] = []
marks_from reserving (r ∷ s) = settled reserving (pending_mark_with r (begins s) (segment s) (reserve_segment s)) ∷ marks_from (reserving_after reserving r) s
