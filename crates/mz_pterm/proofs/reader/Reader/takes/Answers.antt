use Rattle.std.proofs.Common.{rules, sym, ◌∙◌, ◌≡◌, ◌∷◌}
use Rattle.mz_pterm.specs.Sign.{sign_of}
use Rattle.mz_pterm.proofs.Signs.{told_fixed}
use Rattle.mz_pterm.proofs.Steps.{told_rest, fixed_not_taken}
use Rattle.mz_pterm.proofs.reader.Reader.takes.Goals as goal

pub returns-then-is : goal.returns-then-is
returns-then-is c =
    let e : c.args.self.now.rest.now ≡ c.in-Some.next.now ∷ c.in-Some.rest.now = search rules in
    let told : c.of.result ≡ c.args.sign = search rules in
    let same : sign_of c.in-Some.next.now ≡ c.args.sign = sym c.of.ensures ∙ told in
    told_rest _ _ _ _ e (told_fixed _ _ c.requires same)

pub returns-else-is : goal.returns-else-is
returns-else-is c =
    let e : c.args.self.now.rest.now ≡ c.in-Some.next.now ∷ c.in-Some.rest.now = search rules in
    let other : c.of.result ≡ c.args.sign → ⊥ = search rules in
    let differ : sign_of c.in-Some.next.now ≡ c.args.sign → ⊥ = λ z. other (c.of.ensures ∙ z) in
    fixed_not_taken _ c.in-Some.next.now _ c.in-Some.rest.now c.requires differ e
