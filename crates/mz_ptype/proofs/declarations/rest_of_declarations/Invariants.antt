use Rattle.std.proofs.Common.{◌≡◌, length, map}
use Rattle.mz_tree.specs.Views.{declared_of}
use Rattle.mz_ptype.specs.Forms.{declared_ends_in_terms}
use Rattle.mz_ptype.proofs.DeclarationSteps.{Declared, with_comma}
use Rattle.mz_ptype.proofs.declarations.rest_of_declarations.Given as goal

abbrev pub invariant-more : goal.invariant-more
invariant-more l = Declared l.fn.field l.fn.room (declared_ends_in_terms (declared_of l.fn.first)) l.behind_terms (map with_comma l.more.items) l.fn.reader.rest.now l.reader.rest.now × (l.first ≡ l.fn.first)

abbrev pub decreases-more : goal.decreases-more
decreases-more l = length l.reader.rest.now
