use Rattle.std.proofs.Common.{◌≡◌, map, take}
use Rattle.mz_turns.specs.Dependencies.{direct_rows}
use Rattle.mz_rows.proofs.links.Links.new.Given as goal

abbrev pub invariant-loop-a : goal.invariant-loop-a
invariant-loop-a l = l.items.items ≡ map (direct_rows l.articles) (take l.a-index l.articles)
