use Rattle.std.proofs.Common.{rules, sym, ◌∙◌, ◌≡◌, ◌<◌, ◌∷◌}
use Rattle.mz_pterm.proofs.Steps.{is_nil}
use Rattle.mz_pjustification.specs.Keyword.{keyword_of}
use Rattle.mz_pjustification.proofs.Taken.{key_left_out, key_refused, key_too_deep, key_found_under}
use Rattle.mz_pjustification.proofs.words.opens_key.Goals as goal

pub returns-in_default-clause-reads : goal.returns-in_default-clause-reads
returns-in_default-clause-reads c = key_left_out _ _ _ (is_nil _ (search rules))

pub returns-then-not-is-clause-reads : goal.returns-then-not-is-clause-reads
returns-then-not-is-clause-reads c =
    let e : c.args.reader.now.rest.now ≡ c.in-Some.next.now ∷ c.in-Some.rest.now = search rules in
    let other : c.of.result ≡ c.args.word → ⊥ = search rules in
    let differ : keyword_of c.in-Some.next.now ≡ c.args.word → ⊥ = λ z. other (c.of.ensures ∙ z) in
    key_refused _ _ c.in-Some.next.now _ c.in-Some.rest.now c.requires differ e

pub returns-then-room-eq0-clause-reads : goal.returns-then-room-eq0-clause-reads
returns-then-room-eq0-clause-reads c =
    let e : c.args.reader.now.rest.now ≡ c.in-Some.next.now ∷ c.in-Some.rest.now = search rules in
    let told : c.of.result ≡ c.args.word = search rules in
    let same : keyword_of c.in-Some.next.now ≡ c.args.word = sym c.of.ensures ∙ told in
    rw c.if-room-eq0.true (key_too_deep _ _ _ _ c.requires same e)

pub returns-clause-reads : goal.returns-clause-reads
returns-clause-reads c =
    let e : c.args.reader.now.rest.now ≡ c.in-Some.next.now ∷ c.in-Some.rest.now = search rules in
    let told : c.of.result ≡ c.args.word = search rules in
    let same : keyword_of c.in-Some.next.now ≡ c.args.word = sym c.of.ensures ∙ told in
    let more : 0 < c.args.room = search rules in
    key_found_under _ _ _ _ _ c.requires same more e
