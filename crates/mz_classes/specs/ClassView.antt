-- What numbered classes hold.
use Rattle.mz_ground.specs.FactSet.{FactView}
use Rattle.mz_congruence.specs.FactTable.{table_view}
use Rattle.mz_classes.specs.declared.classes.Classes.{Classes}

abbrev pub class_view : Classes → FactView
class_view f = table_view f.table
