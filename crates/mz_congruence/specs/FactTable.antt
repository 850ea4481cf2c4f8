-- What a table of facts holds.
use Rattle.std.specs.Prelude.{ℕ, Bool, true, false, List, slice_index, slice_get, Option, Some, None}
use Rattle.mz_ground.specs.FactSet.{FactView}
use Rattle.mz_congruence.specs.declared.fact_table.FactTable.{FactTable}

abbrev pub is_set : Option Bool → Bool
is_set None = false
is_set (Some b) = b

-- whether a list has true at a place
abbrev pub flag_at : List Bool → ℕ → Bool
flag_at bs k = is_set (slice_get bs k)

-- the flags for a sign
abbrev pub signed_at : FactTable → Bool → ℕ → Bool
signed_at f true k = flag_at f.positive.items k
signed_at f false k = flag_at f.negative.items k

abbrev pub table_view : FactTable → FactView
table_view f = record { part = f.ground; class = λ k. slice_index f.classes.items k; signed = signed_at f; disequal = λ k. flag_at f.disequal.items k }
