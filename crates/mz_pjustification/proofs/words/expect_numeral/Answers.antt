use Rattle.std.proofs.Common.{rules, sym, ◌∙◌, ◌≡◌, ◌∷◌}
use Rattle.mz_pterm.proofs.Steps.{is_nil}
use Rattle.mz_pjustification.specs.declared.keyword.Keyword.TheVariants as keywords
use Rattle.mz_pjustification.specs.Keyword.{keyword_of}
use Rattle.mz_pjustification.proofs.Taken.{numeral_left_out, numeral_refused, numeral_found}
use Rattle.mz_pjustification.proofs.words.expect_numeral.Goals as goal

pub returns-in_default : goal.returns-in_default
returns-in_default c = numeral_left_out 0 _ (is_nil _ (search rules))

pub returns-then-not-is : goal.returns-then-not-is
returns-then-not-is c =
    let e : c.args.reader.now.rest.now ≡ c.in-Some.next.now ∷ c.in-Some.rest.now = search rules in
    let other : c.of.result ≡ keywords.Numeral → ⊥ = search rules in
    let differ : keyword_of c.in-Some.next.now ≡ keywords.Numeral → ⊥ = λ z. other (c.of.ensures ∙ z) in
    numeral_refused 0 c.in-Some.next.now _ c.in-Some.rest.now differ e

pub returns : goal.returns
returns c =
    let e : c.args.reader.now.rest.now ≡ c.in-Some.next.now ∷ c.in-Some.rest.now = search rules in
    let told : c.of.result ≡ keywords.Numeral = search rules in
    let same : keyword_of c.in-Some.next.now ≡ keywords.Numeral = sym c.of.ensures ∙ told in
    rw c.in_ok-number.ensures (numeral_found 0 _ _ _ same e)
