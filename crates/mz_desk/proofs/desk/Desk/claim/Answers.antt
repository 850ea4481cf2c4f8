use Rattle.mz_desk.proofs.desk.Desk.claim.Goals as goal

pub returns-in-None-clause-ok : goal.returns-in-None-clause-ok
returns-in-None-clause-ok g c = c.rest.ensures.answers c.args.worker
