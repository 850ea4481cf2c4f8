use Rattle.std.proofs.Common.{ℕ, Vec}
use Rattle.std.specs.declared.alloc.Global.{Global}
use Rattle.mz_congruence.proofs.SignatureLemmas.{lookup-inserted}
use Rattle.mz_congruence.proofs.signatures.Signatures.insert.Goals as goal

pub returns : goal.returns
returns c = lookup-inserted (λ (k : Vec ℕ Global). k.items) c.args.self.now.places c.insert.new.self c.args.signature c.args.place c.in_ok-insert.ensures.updates
