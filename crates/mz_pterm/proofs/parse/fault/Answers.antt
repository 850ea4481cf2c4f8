use Rattle.std.proofs.Common.{rules, ◌≡◌, ◌∷◌, [], refl}
use Rattle.mz_pterm.proofs.Steps.{is_nil}
use Rattle.mz_pterm.proofs.parse.fault.Goals as goal

pub returns-in-Some : goal.returns-in-Some
returns-in-Some c =
    let e : c.args.rest.now ≡ c.in-Some.next.now ∷ c.in-Some.field-0-1.now = search rules in
    rw (c.in-TooDeep.is, e) refl

pub returns-in-None : goal.returns-in-None
returns-in-None c =
    let e : c.args.rest.now ≡ [] = is_nil _ (search rules) in
    rw (c.in-TooDeep.is, e) refl

pub returns-in-Some-split_first : goal.returns-in-Some-split_first
returns-in-Some-split_first c =
    let e : c.args.rest.now ≡ c.in-Some-split_first.next.now ∷ c.in-Some-split_first.field-0-1.now = search rules in
    rw (c.in-Refused.is, e) refl

pub returns-in-None-split_first : goal.returns-in-None-split_first
returns-in-None-split_first c =
    let e : c.args.rest.now ≡ [] = is_nil _ (search rules) in
    rw (c.in-Refused.is, e) refl
