-- What a node of a term is seen as.
use Rattle.mz_logic.specs.Term as term
use Rattle.mz_logic.specs.Term.{Term, terms_of}
use Rattle.mz_logic.specs.declared.term.TermNode.{TermNode}
use Rattle.mz_logic.specs.declared.term.TermNode.TheVariants.{Bound, Const, App}

abbrev pub term_of : TermNode → Term
term_of (Bound n) = term.Bound n
term_of (Const n) = term.Const n
term_of (App s ts) = term.App s (terms_of ts)
