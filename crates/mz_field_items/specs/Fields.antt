-- The fields of a structure, as its item has them. As they are read the loci are the constants from `least` on, the structure's object is
-- the one behind them, and no field has a value.
use Rattle.std.specs.Prelude.{ℕ, ◌+◌, List, length, map}
use Rattle.mz_logic.specs.declared.sym.Sym.{Sym}
use Rattle.mz_core.specs.declared.soft_type.SoftType.{SoftType}
use Rattle.mz_core.specs.declared.structure.Field.{Field}
use Rattle.mz_loci.specs.Loci.{type_over_loci}
use Rattle.mz_fields.specs.Values.{type_with_values}
use Rattle.mz_field_items.specs.declared.fields.ReadField.{ReadField}

-- under so many loci, under the object, and under the fields' values
abbrev pub inner_count : ℕ → List Sym → ℕ
inner_count count selectors = count + 1 + length selectors

-- in its type the values, the constants behind the object, stand for the selectors of the object; and all of these are indices
abbrev pub field_type : ℕ → ℕ → List Sym → SoftType → SoftType
field_type least count selectors ty = type_over_loci least (inner_count count selectors) (type_with_values (least + count) (least + count + 1) selectors ty)

abbrev pub selector_of : ReadField → Sym
selector_of f = f.selector

abbrev pub selectors_of : List ReadField → List Sym
selectors_of fs = map selector_of fs

abbrev pub field_of : ℕ → ℕ → List Sym → ReadField → Field
field_of least count selectors f = record { selector = f.selector; ty = field_type least count selectors f.ty }

abbrev pub fields_of : ℕ → ℕ → List ReadField → List Field
fields_of least count fs = map (field_of least count (selectors_of fs)) fs
