use Rattle.std.proofs.Common.{take}
use Rattle.mz_lex.proofs.HeadLemmas.{HeadSoFar}
use Rattle.mz_lex.proofs.head.read_head.Given as goal

abbrev pub invariant-loop-token : goal.invariant-loop-token
invariant-loop-token l = HeadSoFar (take l.token-index l.tokens) l.state l.items.items l.kind l.place l.names.items
