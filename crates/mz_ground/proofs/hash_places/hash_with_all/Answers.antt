use Rattle.std.proofs.Common.{arith, take, get_or}
use Rattle.std.proofs.lemmas.List.{take_more}
use Rattle.mz_ground.proofs.HashLemmas.{hash_with_all-push}
use Rattle.mz_ground.proofs.hash_places.hash_with_all.Goals as goal

pub loop-number-preserved : goal.loop-number-preserved
loop-number-preserved c =
    let more = take_more c.args.numbers.now c.loop-number.number-index 0 (omega arith) in
    let mix = hash_with_all-push c.args.hash (take c.loop-number.number-index c.args.numbers.now) (get_or c.args.numbers.now c.loop-number.number-index 0) in
    cc (more, mix)
