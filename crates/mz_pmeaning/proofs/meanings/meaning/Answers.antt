use Rattle.std.proofs.Common.{rules, ◌≡◌, true, false}
use Rattle.mz_ppattern.specs.Optional.{next_has}
use Rattle.mz_pmeaning.specs.Classes.{begins_means}
use Rattle.mz_pmeaning.proofs.MeaningSteps.{gives_equals, gives_means}
use Rattle.mz_pmeaning.proofs.meanings.meaning.Goals as goal

pub returns-then-means_comes : goal.returns-then-means_comes
returns-then-means_comes c =
    let on : next_has begins_means c.args.reader.now.rest.now ≡ true = search rules in
    gives_means c.args.room _ _ _ on c.means.ensures

pub returns : goal.returns
returns c =
    let off : next_has begins_means c.args.reader.now.rest.now ≡ false = search rules in
    gives_equals c.args.room _ _ _ off c.equals.ensures
