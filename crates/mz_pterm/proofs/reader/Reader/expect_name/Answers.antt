use Rattle.std.proofs.Common.{rules, sym, ◌∙◌, ◌≡◌, ◌∷◌}
use Rattle.mz_pterm.specs.Sign.{sign_of}
use Rattle.mz_pterm.proofs.Steps.{is_nil, named_left_out, named_refused, named_found}
use Rattle.mz_pterm.proofs.reader.Reader.expect_name.Goals as goal

pub returns-in_default : goal.returns-in_default
returns-in_default c = named_left_out _ 0 _ (is_nil _ (search rules))

pub returns-then-not-is : goal.returns-then-not-is
returns-then-not-is c =
    let e : c.args.self.now.rest.now ≡ c.in-Some.next.now ∷ c.in-Some.rest.now = search rules in
    let other : c.of.result ≡ c.args.sign → ⊥ = search rules in
    let differ : sign_of c.in-Some.next.now ≡ c.args.sign → ⊥ = λ z. other (c.of.ensures ∙ z) in
    named_refused _ 0 c.in-Some.next.now _ c.in-Some.rest.now c.requires differ e

pub returns : goal.returns
returns c =
    let e : c.args.self.now.rest.now ≡ c.in-Some.next.now ∷ c.in-Some.rest.now = search rules in
    let told : c.of.result ≡ c.args.sign = search rules in
    let same : sign_of c.in-Some.next.now ≡ c.args.sign = sym c.of.ensures ∙ told in
    rw c.in_ok-word.ensures (named_found _ 0 _ _ _ c.requires same e)
