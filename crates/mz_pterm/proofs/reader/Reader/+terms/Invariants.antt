use Rattle.std.proofs.Common.{◌≡◌, ◌+◌, ◌*◌, length, map}
use Rattle.mz_tree.specs.Views.{piece_of, prefix_of}
use Rattle.mz_pterm.specs.Forms.{last_seen}
use Rattle.mz_pterm.proofs.Loops.{Several, with_sign, Pieces, Prefixed}
use Rattle.mz_pterm.proofs.reader.Reader.+terms.Given as goal

abbrev pub decreases-bracketed : goal.decreases-bracketed
decreases-bracketed l = 16 * l.room

abbrev pub decreases-single : goal.decreases-single
decreases-single l = 16 * l.room

abbrev pub decreases-brackets : goal.decreases-brackets
decreases-brackets l = 16 * l.room

abbrev pub decreases-call : goal.decreases-call
decreases-call l = 16 * l.room

abbrev pub decreases-group : goal.decreases-group
decreases-group l = 16 * l.room + 1

abbrev pub decreases-aggregate : goal.decreases-aggregate
decreases-aggregate l = 16 * l.room + 1

abbrev pub decreases-base : goal.decreases-base
decreases-base l = 16 * l.room + 2

abbrev pub decreases-operand : goal.decreases-operand
decreases-operand l = 16 * l.room + 3

abbrev pub decreases-piece : goal.decreases-piece
decreases-piece l = 16 * l.room + 4

abbrev pub decreases-rest_of_term : goal.decreases-rest_of_term
decreases-rest_of_term l = 16 * l.room + 5

abbrev pub decreases-term : goal.decreases-term
decreases-term l = 16 * l.room + 6

abbrev pub decreases-rest_of_terms : goal.decreases-rest_of_terms
decreases-rest_of_terms l = 16 * l.room + 7

abbrev pub decreases-terms : goal.decreases-terms
decreases-terms l = 16 * l.room + 8

abbrev pub invariant-rest_of_terms-more : goal.invariant-rest_of_terms-more
invariant-rest_of_terms-more l = Several l.fn.field l.fn.room (map with_sign l.more.items) l.fn.self.rest.now l.self.rest.now × (l.first ≡ l.fn.first)

abbrev pub decreases-rest_of_terms-more : goal.decreases-rest_of_terms-more
decreases-rest_of_terms-more l = length l.self.rest.now

abbrev pub invariant-rest_of_term-pieces : goal.invariant-rest_of_term-pieces
invariant-rest_of_term-pieces l = Pieces l.fn.field l.fn.room (last_seen l.fn.last) (last_seen l.last) (map piece_of l.more.items) l.fn.self.rest.now l.self.rest.now × (l.first ≡ l.fn.first)

abbrev pub decreases-rest_of_term-pieces : goal.decreases-rest_of_term-pieces
decreases-rest_of_term-pieces l = length l.self.rest.now

abbrev pub invariant-operand-prefixes : goal.invariant-operand-prefixes
invariant-operand-prefixes l = Prefixed l.fn.field l.behind l.fn.room (map prefix_of l.prefixes.items) l.fn.self.rest.now l.self.rest.now

abbrev pub decreases-operand-prefixes : goal.decreases-operand-prefixes
decreases-operand-prefixes l = length l.self.rest.now
