use Rattle.std.proofs.Common.{◌≡◌, length, map}
use Rattle.std.specs.Arc.{arc_value}
use Rattle.std.specs.Prelude.{◌↔◌}
use Rattle.mz_choice.specs.Cover.{HasCover}
use Rattle.mz_choice.proofs.cover.has_cover.Given as goal

abbrev pub invariant-loop-r : goal.invariant-loop-r
invariant-loop-r l = (l.ctx ≡ l.initial.ctx) × (HasCover l.clauses l.env l.initial.ctx l.ty (map arc_value l.rest) ↔ HasCover l.clauses l.env l.initial.ctx l.ty (map arc_value l.rs))

abbrev pub decreases-loop-r : goal.decreases-loop-r
decreases-loop-r l = length l.rest
