use Rattle.std.proofs.Common.{◌∙◌, sym, ap}
use Rattle.mz_match.specs.Values.{value_at}
use Rattle.mz_match.proofs.ValueLemmas.{told_counted}
use Rattle.mz_match.proofs.rows.Rows.with.Goals as goal

pub returns-in_ok-out : goal.returns-in_ok-out
returns-in_ok-out c =
    told_counted c.args.row c.args.self c.in_ok-out.out c.value-known.result (c.value-known.ensures ∙ ap (value_at c.args.self.values) c.as_slice.ensures.value)
    (sym c.is_class.ensures ∙ c.if-is_class.true) c.in_ok-out.ensures.0 c.in_ok-out.ensures.1
