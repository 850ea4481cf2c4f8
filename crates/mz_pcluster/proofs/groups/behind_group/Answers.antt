use Rattle.std.proofs.Common.{rules, ◌≡◌, true, false}
use Rattle.mz_pterm.specs.Forms.{bracketed_of}
use Rattle.mz_ppattern.specs.Optional.{next_has}
use Rattle.mz_pcluster.specs.Classes.{begins_attribute}
use Rattle.mz_pcluster.proofs.GroupSteps.{gives_attributed, gives_continued}
use Rattle.mz_pcluster.proofs.groups.behind_group.Goals as goal

pub returns-then-attribute_comes : goal.returns-then-attribute_comes
returns-then-attribute_comes c =
    let at : next_has begins_attribute c.args.reader.now.rest.now ≡ true = search rules in
    gives_attributed (bracketed_of c.args.inside) c.args.room _ _ _ at c.attributed.ensures

pub returns : goal.returns
returns c =
    let off : next_has begins_attribute c.args.reader.now.rest.now ≡ false = search rules in
    gives_continued (bracketed_of c.args.inside) c.args.room _ _ _ off c.continued.ensures
