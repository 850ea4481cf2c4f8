use Rattle.std.proofs.Common.{arith, length, sym, ap, ◌∙◌}
use Rattle.mz_match.proofs.ArgsLemmas.{none_congruent}
use Rattle.mz_match.proofs.congruent.+congruent.Goals as goal

pub congruent_args-returns-then-i-len : goal.congruent_args-returns-then-i-len
congruent_args-returns-then-i-len t c = c.new.ensures ∙ sym (none_congruent c.args.table.now c.args.depth c.args.ts.now c.args.us.now c.args.es.now (λ e. omega (arith, ap length c.ts.view_is, ap length c.us.view_is)))

pub congruent_args-returns-then-len : goal.congruent_args-returns-then-len
congruent_args-returns-then-len t c = c.new-then-len.ensures ∙ sym (none_congruent c.args.table.now c.args.depth c.args.ts.now c.args.us.now c.args.es.now (λ e. omega (arith, ap length c.ts.view_is, ap length c.us.view_is)))
