use Rattle.std.proofs.Common.{◌∙◌, subst}
use Rattle.mz_corpus.specs.Corpus.{IsCorpus}
use Rattle.mz_desk.specs.Desk.{Answers}
use Rattle.mz_workers.proofs.FinishLemmas.{checked_left, freed_left}
use Rattle.mz_workers.proofs.run_all.advance.Goals as goal

pub returns-in_ok-check_one-in-Take-clause-less : goal.returns-in_ok-check_one-in-Take-clause-less
returns-in_ok-check_one-in-Take-clause-less g c = λ more.
    let old = c.args.desk.now in
    let mid = c.claim.new.self in
    let new = c.check_one.new.desk in
    let whole = c.law.ensures.whole in
    let takes = subst (λ x. Answers old 0 mid x) c.in-Take.is c.in_ok-job.ensures.ok in
    let corpus = subst IsCorpus (c.deref.ensures ∙ c.corpus.ensures) c.law-2.ensures in
    let stands = c.answers_law.ensures.taken old mid 0 c.in-Take.job corpus whole takes in
    checked_left old mid new 0 c.in-Take.job whole takes (c.in_ok-check_one-in-Take.ensures.published stands)

pub returns-in-NotYet-clause-less : goal.returns-in-NotYet-clause-less
returns-in-NotYet-clause-less g c = λ more.
    let old = c.args.desk.now in
    let mid = c.claim.new.self in
    let said = subst (λ x. Answers old 0 mid x) c.in-NotYet.is c.in_ok-job.ensures.ok in
    freed_left old mid c.reclaim.new.self c.in-NotYet.claimed c.law.ensures.whole said.0 said.2 c.reclaim.ensures
