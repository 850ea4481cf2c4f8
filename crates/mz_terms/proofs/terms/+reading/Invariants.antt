use Rattle.std.proofs.Common.{◌∷◌, length, map}
use Rattle.mz_tree.specs.Views.{piece_of}
use Rattle.mz_terms.proofs.TermLemmas.{Gives, GivesTerms}
use Rattle.mz_terms.proofs.terms.+reading.Given as goal

abbrev pub invariant-read_run-loop-step : goal.invariant-read_run-loop-step
invariant-read_run-loop-step l = Gives l.env l.ctx l.least l.first (piece_of l.node.first ∷ map piece_of l.node.more.items) l.rest l.values l.steps

abbrev pub decreases-read_run-loop-step : goal.decreases-read_run-loop-step
decreases-read_run-loop-step l = length l.rest

abbrev pub invariant-read_terms-loop-next : goal.invariant-read_terms-loop-next
invariant-read_terms-loop-next l = GivesTerms l.env l.ctx l.least l.next-items l.next-index l.out l.node
