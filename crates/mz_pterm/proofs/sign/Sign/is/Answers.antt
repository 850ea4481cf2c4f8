use Rattle.std.proofs.Common.{rules, ◌≡◌, ap}
use Rattle.mz_pterm.specs.Sign.{kind_of, argument_of}
use Rattle.mz_pterm.proofs.Signs.{same_sign}
use Rattle.mz_pterm.proofs.sign.Sign.is.Goals as goal

pub returns : goal.returns
returns c =
    let kinds : kind_of c.args.self ≡ kind_of c.args.other = search rules in
    (λ h. same_sign _ _ kinds (search rules), λ e. let f : argument_of c.args.self ≡ argument_of c.args.other = ap argument_of e in search rules)
