use Rattle.std.proofs.Common.{ℕ, Vec}
use Rattle.std.specs.declared.alloc.Global.{Global}
use Rattle.mz_match.specs.Values.{is_list}
use Rattle.mz_match.proofs.ValueLemmas.{lookup-inserted, or_nothing-inserted_value}
use Rattle.mz_match.proofs.values.Values.insert.Goals as goal

pub returns : goal.returns
returns c = λ s. or_nothing-inserted_value _ _ (is_list s c.args.args.items) c.args.known (lookup-inserted (λ (k : Vec ℕ Global). k.items) c.args.self.now.map c.insert.new.self c.args.args c.args.known c.in_ok-insert.ensures.updates s)
