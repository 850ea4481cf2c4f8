use Rattle.std.proofs.Common.{rules, ◌≡◌}
use Rattle.mz_pjustification.specs.Keyword.{number_of}
use Rattle.mz_pjustification.proofs.Keywords.{same_keyword}
use Rattle.mz_pjustification.proofs.keyword.Keyword.is.Goals as goal

pub returns : goal.returns
returns c =
    let numbers : number_of c.args.self ≡ number_of c.args.other = search rules in
    (λ h. same_keyword _ _ numbers, λ e. search rules)
