use Rattle.std.proofs.Common.{◌≡◌, ◌++◌, take}
use Rattle.std.specs.Prelude.{map}
use Rattle.mz_lex.specs.BuiltIn.{lexeme}
use Rattle.mz_lex.proofs.built_in.add_words.Given as goal

abbrev pub invariant-loop-word : goal.invariant-loop-word
invariant-loop-word l = l.lexemes.items ≡ l.initial.lexemes.items ++ map (λ w. lexeme l.kind w.now) (take l.word-index l.words)
