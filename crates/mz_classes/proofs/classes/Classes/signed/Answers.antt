use Rattle.mz_classes.specs.ClassView.{class_view}
use Rattle.mz_classes.proofs.ClassLemmas.{told_signed, told_unsigned}
use Rattle.mz_classes.proofs.classes.Classes.signed.Goals as goal

pub returns-in-Some : goal.returns-in-Some
returns-in-Some c = told_signed (class_view c.args.self.now) c.args.self.now.numbering.atoms.items c.args.sym c.args.positive c.lists_of.result.now _ c.lists_of.ensures c.in-Some.ensures

pub returns-in-None : goal.returns-in-None
returns-in-None c = told_unsigned (class_view c.args.self.now) c.args.self.now.numbering.atoms.items c.args.sym c.args.positive c.lists_of.result.now _ c.lists_of.ensures c.in-None.ensures c.args.self.now.empty
