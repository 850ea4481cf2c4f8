-- What facts hold.
use Rattle.mz_ground.specs.FactSet.{FactView}
use Rattle.mz_congruence.specs.FactTable.{table_view}
use Rattle.mz_facts.specs.declared.facts.Facts.{Facts}

abbrev pub facts_view : Facts → FactView
facts_view f = table_view f.table
