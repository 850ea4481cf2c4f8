use Rattle.std.proofs.Common.{Some, subst}
use Rattle.std.specs.Str.{bytes_eq}
use Rattle.std.specs.HashMap.{UpdatesBy}
use Rattle.mz_voc.proofs.SpelledLemmas.{value_after}
use Rattle.mz_voc.proofs.spelled.Spelled.insert.Goals as goal

pub returns : goal.returns
returns g c = λ other.
    value_after (λ k. k.items) c.args.self.now.values c.insert.new.self c.args.spelling.now (Some c.args.value) (subst (λ bs. UpdatesBy (λ x y. bytes_eq x.items y.items) (λ k. bytes_eq bs k.items) c.args.self.now.values c.insert.new.self (Some c.args.value)) c.in_ok-key.ensures.items c.in_ok-insert.ensures.updates) other
