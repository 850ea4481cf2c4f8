use Rattle.std.proofs.Common.{◌≡◌, ◌++◌, take}
use Rattle.std.specs.Prelude.{map}
use Rattle.mz_base.specs.declared.token.TokenKind.TheVariants.{Symbol}
use Rattle.mz_lex.specs.BuiltIn.{lexeme}
use Rattle.mz_lex.proofs.built_in.add_symbols.Given as goal

abbrev pub invariant-loop-spelling : goal.invariant-loop-spelling
invariant-loop-spelling l = l.lexemes.items ≡ l.initial.lexemes.items ++ map (λ s. lexeme (Symbol s.1) s.0.now) (take l.spelling-index l.symbols)
