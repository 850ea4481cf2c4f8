use Rattle.std.proofs.Common.{map}
use Rattle.mz_private.specs.Private.{place_of}
use Rattle.mz_private.proofs.InsideLemmas.{told_before}
use Rattle.mz_private.proofs.inside.enter.Goals as goal

pub returns-clause-before : goal.returns-clause-before
returns-clause-before c = told_before c.args.ctx.now c.put_places.new.ctx (map place_of c.as_slice-2.result.now) c.replace-before.result c.in_ok-put_places.ensures c.replace-before.ensures.value
