use Rattle.mz_from.proofs.VerdictLemmas.{told_unfit_by_conclusion, told_other_premise, told_unfit}
use Rattle.mz_from.proofs.verdict.judge.Goals as goal

pub returns-then-not-branch-2 : goal.returns-then-not-branch-2
returns-then-not-branch-2 c =
    told_unfit_by_conclusion c.args.clauses.now c.args.constants.now c.args.scheme.now c.args.cited.now c.args.s.now c.args.first.now c.args.letters.now c.in_ok-is_instance.field-0 c.in_ok-fixed_fit.field-0
    c.requires.count c.requires.first c.requires.letters c.in_ok-is_instance.ensures c.if-not-branch.false c.in_ok-fixed_fit.ensures c.if-not-branch-2.true

pub returns-in-Some : goal.returns-in-Some
returns-in-Some c =
    told_other_premise c.args.clauses.now c.args.constants.now c.args.scheme.now c.args.cited.now c.args.s.now c.args.first.now c.args.letters.now c.in_ok-is_instance.field-0 c.in_ok-fixed_fit.field-0 c.in_ok-number.field-0 c.in-Some.number
    c.requires.count c.requires.first c.requires.letters c.in_ok-is_instance.ensures c.if-not-branch.false c.in_ok-fixed_fit.ensures c.if-not-branch-2.false c.in_ok-number.ensures c.in-Some.is

pub returns-else-branch : goal.returns-else-branch
returns-else-branch c =
    told_unfit c.args.clauses.now c.args.constants.now c.args.scheme.now c.args.cited.now c.args.s.now c.args.first.now c.args.letters.now c.in_ok-is_instance.field-0 c.in_ok-fixed_fit.field-0 c.in_ok-letters_fit-in-None.field-0 c.in_ok-number.field-0
    c.requires.count c.requires.first c.requires.letters c.in_ok-is_instance.ensures c.if-not-branch.false c.in_ok-fixed_fit.ensures c.if-not-branch-2.false c.in_ok-number.ensures c.in-None.is c.in_ok-letters_fit-in-None.ensures c.if-branch.false
