use Rattle.std.proofs.Common.{rules, sym, ◌∙◌, ◌≡◌, ◌∷◌}
use Rattle.mz_pterm.proofs.Steps.{told_rest}
use Rattle.mz_pjustification.specs.Keyword.{keyword_of}
use Rattle.mz_pjustification.proofs.Keywords.{told_key}
use Rattle.mz_pjustification.proofs.Taken.{key_not_taken}
use Rattle.mz_pjustification.proofs.words.takes_key.Goals as goal

pub returns-then-is : goal.returns-then-is
returns-then-is c =
    let e : c.args.reader.now.rest.now ≡ c.in-Some.next.now ∷ c.in-Some.rest.now = search rules in
    let told : c.of.result ≡ c.args.word = search rules in
    let same : keyword_of c.in-Some.next.now ≡ c.args.word = sym c.of.ensures ∙ told in
    told_rest _ _ _ _ e (told_key _ _ c.requires same)

pub returns-else-is : goal.returns-else-is
returns-else-is c =
    let e : c.args.reader.now.rest.now ≡ c.in-Some.next.now ∷ c.in-Some.rest.now = search rules in
    let other : c.of.result ≡ c.args.word → ⊥ = search rules in
    let differ : keyword_of c.in-Some.next.now ≡ c.args.word → ⊥ = λ z. other (c.of.ensures ∙ z) in
    key_not_taken _ c.in-Some.next.now _ c.in-Some.rest.now c.requires differ e
