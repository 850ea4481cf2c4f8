use Rattle.std.proofs.Common.{ℕ, List, Bor}
use Rattle.mz_words.proofs.NameLemmas.{name_read, name_refused, names_read}
use Rattle.mz_words.proofs.given.named.Goals as goal

pub returns-in-Err : goal.returns-in-Err
returns-in-Err c = name_refused (λ (w : Bor (List ℕ)). w.now) _ _ _ _ _ _ c.loop-word-test.true c.as_bytes.ensures.value c.loop-word.invariant c.in-Err.ensures

pub loop-word-preserved : goal.loop-word-preserved
loop-word-preserved c = name_read (λ (w : Bor (List ℕ)). w.now) _ _ _ _ _ _ c.loop-word-test.true c.as_bytes.ensures.value c.loop-word.invariant c.in-Ok.ensures

pub returns : goal.returns
returns c = names_read (λ (w : Bor (List ℕ)). w.now) _ _ _ c.loop-word-test.false c.loop-word.invariant
