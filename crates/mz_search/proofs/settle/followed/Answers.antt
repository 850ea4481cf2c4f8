use Rattle.mz_search.proofs.SettleLemmas.{if_ok, single_of, followed_next}
use Rattle.mz_search.specs.declared.branch.Branch.{Branch}
use Rattle.mz_search.proofs.settle.followed.Goals as goal

pub returns-in-Some : goal.returns-in-Some
returns-in-Some c =
    if_ok _ _ c.with_others.result
    (λ (b : Branch) h k s x.
    followed_next k s c.args.choice c.in-Some.branch b x (single_of c.args.choice.branches.items c.pop.new.self.items c.in-Some.branch c.in-Some.ensures.items c.requires) h.0 h.1)
    c.with_others.ensures
