use Rattle.mz_performing.proofs.SkeletonLemmas.{told_taken, told_not_taken, told_named, told_not_named}
use Rattle.mz_skeleton.proofs.examples.take_one.Goals as goal

pub returns-in-Ok : goal.returns-in-Ok
returns-in-Ok c = told_taken _ _ _ _ _ _ _ _ _ _ _ _ _ c.in-Plain.is c.term.ensures c.in-Ok.is c.perform_alone.ensures

pub returns-in-Err : goal.returns-in-Err
returns-in-Err c = told_not_taken _ _ _ _ _ _ _ _ _ _ _ _ _ c.in-Plain.is c.term.ensures c.in-Err.is c.resolved.ensures

pub returns-in_ok-steps-in-Ok-read_named : goal.returns-in_ok-steps-in-Ok-read_named
returns-in_ok-steps-in-Ok-read_named c = told_named _ _ _ _ _ _ _ _ _ _ _ _ _ _ c.in-Named.is c.read_named.ensures c.in-Ok-read_named.is c.in_ok-steps-in-Ok-read_named.ensures c.perform_all.ensures

pub returns-in-Err-read_named : goal.returns-in-Err-read_named
returns-in-Err-read_named c = told_not_named _ _ _ _ _ _ _ _ _ _ _ _ _ c.in-Named.is c.read_named.ensures c.in-Err-read_named.is c.resolved-in-Err-read_named.ensures
