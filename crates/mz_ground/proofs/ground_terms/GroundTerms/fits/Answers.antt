use Rattle.std.proofs.Common.{map, refl}
use Rattle.std.proofs.lemmas.Bool.{false≢true}
use Rattle.mz_ground.specs.Ground.{term_at}
use Rattle.mz_ground.specs.Table.{entry_terms}
use Rattle.mz_ground.proofs.NodeLemmas.{instance_fits, instance_past}
use Rattle.mz_ground.proofs.ground_terms.GroundTerms.fits.Goals as goal

pub returns-in-Some-after_literal : goal.returns-in-Some-after_literal
returns-in-Some-after_literal c = (λ q. instance_fits c.args.c.now (map (term_at (entry_terms c.args.self.now)) c.args.args.now) c.in-Some.left c.in-Some-after_literal.field-0 c.in-Some.ensures c.in-Some-after_literal.ensures, λ le. refl)

pub returns-in-None-after_literal : goal.returns-in-None-after_literal
returns-in-None-after_literal c = (λ q. absurd (false≢true q), λ le. absurd (instance_past c.args.c.now (map (term_at (entry_terms c.args.self.now)) c.args.args.now) c.in-Some.left c.in-Some.ensures c.in-None-after_literal.ensures le))
