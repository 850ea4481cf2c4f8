use Rattle.std.proofs.Common.{sym, subst}
use Rattle.mz_gen.specs.Made.{AreMadeFiles}
use Rattle.mz_gen.proofs.MadeLemmas.{AreMadeFiles-push}
use Rattle.mz_gen.proofs.made.made_files.Goals as goal

pub loop-i-preserved : goal.loop-i-preserved
loop-i-preserved c =
    subst (AreMadeFiles _) (sym c.in_ok-push.ensures.ok) (AreMadeFiles-push _ _ _ c.loop-i.invariant c.in_ok-made_file.ensures)
