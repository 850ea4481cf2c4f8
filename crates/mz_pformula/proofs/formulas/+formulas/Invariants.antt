use Rattle.std.proofs.Common.{◌≡◌, ◌+◌, ◌*◌, length, map}
use Rattle.mz_tree.specs.Views.{conjunction_of}
use Rattle.mz_patom.specs.Forms.{unit_in}
use Rattle.mz_pformula.proofs.Conjunctions.{Units, with_and}
use Rattle.mz_pformula.proofs.Disjunctions.{Conjoined, with_or}
use Rattle.mz_pformula.proofs.formulas.+formulas.Given as goal

abbrev pub decreases-negation : goal.decreases-negation
decreases-negation l = 32 * l.room + 0

abbrev pub decreases-quantified : goal.decreases-quantified
decreases-quantified l = 32 * l.room + 1

abbrev pub decreases-parenthesis : goal.decreases-parenthesis
decreases-parenthesis l = 32 * l.room + 1

abbrev pub decreases-quantified_unit : goal.decreases-quantified_unit
decreases-quantified_unit l = 32 * l.room + 2

abbrev pub decreases-opening : goal.decreases-opening
decreases-opening l = 32 * l.room + 3

abbrev pub decreases-unit : goal.decreases-unit
decreases-unit l = 32 * l.room + 4

abbrev pub decreases-rest_of_conjunction : goal.decreases-rest_of_conjunction
decreases-rest_of_conjunction l = 32 * l.room + 5

abbrev pub decreases-rest_of_disjunction : goal.decreases-rest_of_disjunction
decreases-rest_of_disjunction l = 32 * l.room + 5

abbrev pub decreases-conjunction : goal.decreases-conjunction
decreases-conjunction l = 32 * l.room + 6

abbrev pub decreases-disjunction : goal.decreases-disjunction
decreases-disjunction l = 32 * l.room + 7

abbrev pub decreases-rest_of_formula : goal.decreases-rest_of_formula
decreases-rest_of_formula l = 32 * l.room + 8

abbrev pub decreases-formula : goal.decreases-formula
decreases-formula l = 32 * l.room + 9

abbrev pub decreases-in_parentheses : goal.decreases-in_parentheses
decreases-in_parentheses l = 32 * l.room + 9

abbrev pub decreases-exists : goal.decreases-exists
decreases-exists l = 32 * l.room + 10

abbrev pub decreases-read_scope : goal.decreases-read_scope
decreases-read_scope l = 32 * l.room + 10

abbrev pub decreases-universal : goal.decreases-universal
decreases-universal l = 32 * l.room + 11

abbrev pub invariant-rest_of_conjunction-more : goal.invariant-rest_of_conjunction-more
invariant-rest_of_conjunction-more l = Units l.fn.field l.fn.room l.left (unit_in l.fn.first) (map with_and l.more.items) l.fn.reader.rest.now l.reader.rest.now × (l.first ≡ l.fn.first)

abbrev pub decreases-rest_of_conjunction-more : goal.decreases-rest_of_conjunction-more
decreases-rest_of_conjunction-more l = length l.reader.rest.now

abbrev pub invariant-rest_of_disjunction-more : goal.invariant-rest_of_disjunction-more
invariant-rest_of_disjunction-more l = Conjoined l.fn.field l.fn.room l.left (conjunction_of l.fn.first) (map with_or l.more.items) l.fn.reader.rest.now l.reader.rest.now × (l.first ≡ l.fn.first)

abbrev pub decreases-rest_of_disjunction-more : goal.decreases-rest_of_disjunction-more
decreases-rest_of_disjunction-more l = length l.reader.rest.now
