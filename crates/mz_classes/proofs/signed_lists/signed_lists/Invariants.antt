use Rattle.std.proofs.Common.{◌≡◌}
use Rattle.mz_logic.specs.declared.sym.Sym.{Sym}
use Rattle.mz_congruence.specs.FactTable.{table_view}
use Rattle.mz_classes.specs.Numbers.{numbers_where}
use Rattle.mz_classes.specs.SymLists.{sym_list, HasPlaces}
use Rattle.mz_classes.specs.Indexed.{has_sign}
use Rattle.mz_classes.proofs.signed_lists.signed_lists.Given as goal

abbrev pub invariant-loop-k : goal.invariant-loop-k
invariant-loop-k l = HasPlaces l.lists × ((s : Sym) → sym_list l.lists s ≡ numbers_where (has_sign (table_view l.f) l.places s l.positive) l.k)
