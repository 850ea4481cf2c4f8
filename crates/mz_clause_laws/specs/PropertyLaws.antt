-- The clauses of properties derive from these.
use Rattle.std.specs.Prelude.{◌≡◌, true, List, length}
use Rattle.mz_core.specs.declared.soft_type.SoftType.{SoftType}
use Rattle.mz_core.specs.declared.property.PropertyForm.{PropertyForm}
use Rattle.mz_items.specs.Closed.{property_form_under}
use Rattle.mz_items.specs.PropertyRows.{property_statement}
use Rattle.mz_clauses.specs.PropertyClauses.{property_groups}
use Rattle.mz_clause_laws.specs.RowLaws.{Follow}

-- a property without constants and loose indices
abbrev pub PropertyLaw : Type 0
PropertyLaw =
    (loci : List SoftType) (form : PropertyForm) → property_form_under (length loci) form ≡ true →
    Follow (property_groups loci form) loci (property_statement loci form)
