use Rattle.std.proofs.Common.{rules, sym, ◌∙◌, ◌≡◌, ◌<◌, ◌∷◌}
use Rattle.mz_pterm.specs.Sign.{sign_of}
use Rattle.mz_pterm.proofs.Steps.{is_nil, named_left_out_under, named_refused_under, named_too_deep, named_found_under}
use Rattle.mz_pterm.proofs.reader.Reader.opens_name.Goals as goal

pub returns-in_default-clause-reads : goal.returns-in_default-clause-reads
returns-in_default-clause-reads c = named_left_out_under _ _ _ (is_nil _ (search rules))

pub returns-then-not-is-clause-reads : goal.returns-then-not-is-clause-reads
returns-then-not-is-clause-reads c =
    let e : c.args.self.now.rest.now ≡ c.in-Some.next.now ∷ c.in-Some.rest.now = search rules in
    let other : c.of.result ≡ c.args.sign → ⊥ = search rules in
    let differ : sign_of c.in-Some.next.now ≡ c.args.sign → ⊥ = λ z. other (c.of.ensures ∙ z) in
    named_refused_under _ _ c.in-Some.next.now _ c.in-Some.rest.now c.requires differ e

pub returns-then-room-eq0-clause-reads : goal.returns-then-room-eq0-clause-reads
returns-then-room-eq0-clause-reads c =
    let e : c.args.self.now.rest.now ≡ c.in-Some.next.now ∷ c.in-Some.rest.now = search rules in
    let told : c.of.result ≡ c.args.sign = search rules in
    let same : sign_of c.in-Some.next.now ≡ c.args.sign = sym c.of.ensures ∙ told in
    rw c.if-room-eq0.true (named_too_deep _ _ _ _ c.requires same e)

pub returns-clause-reads : goal.returns-clause-reads
returns-clause-reads c =
    let e : c.args.self.now.rest.now ≡ c.in-Some.next.now ∷ c.in-Some.rest.now = search rules in
    let told : c.of.result ≡ c.args.sign = search rules in
    let same : sign_of c.in-Some.next.now ≡ c.args.sign = sym c.of.ensures ∙ told in
    let more : 0 < c.args.room = search rules in
    rw c.in_ok-word.ensures (named_found_under _ _ _ _ _ c.requires same more e)
