use Rattle.std.proofs.Common.{◌≡◌, map, take}
use Rattle.mz_marks.specs.TokenClass.{class_of}
use Rattle.mz_marks.proofs.token_class.classes.Given as goal

abbrev pub invariant-loop-token : goal.invariant-loop-token
invariant-loop-token l = l.classes.items ≡ map class_of (take l.token-index l.tokens)
