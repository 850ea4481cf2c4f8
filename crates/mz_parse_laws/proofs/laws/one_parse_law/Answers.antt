use Rattle.mz_parse_laws.proofs.OneParse.{one_parse}
use Rattle.mz_parse_laws.proofs.laws.one_parse_law.Goals as goal

pub returns : goal.returns
returns c = one_parse
