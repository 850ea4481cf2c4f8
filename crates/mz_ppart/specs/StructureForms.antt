-- The forms of structures.
use Rattle.std.specs.Prelude.{◌≡◌, ℕ, Bool, false, List, Result}
use Rattle.mz_base.specs.declared.token.MarkedToken.{MarkedToken}
use Rattle.mz_forms.specs.declared.refusal.Refusal.{Refusal}
use Rattle.mz_forms.specs.Form.{Form, Found}
use Rattle.mz_forms.specs.Reading.{Gives}
use Rattle.mz_tree_heading.specs.declared.structure.FieldTree.{FieldTree}
use Rattle.mz_tree_heading.specs.declared.structure.AncestorsTree.{AncestorsTree}
use Rattle.mz_tree_heading.specs.declared.structure.StructureLociTree.{StructureLociTree}
use Rattle.mz_tree_heading.specs.declared.structure.StructureTree.{StructureTree}
use Rattle.mz_tree_heading.specs.Spell as spell
use Rattle.mz_tree_heading.specs.Levels as levels
use Rattle.mz_tree_heading.specs.EachLevel as each
use Rattle.mz_tree_heading.specs.Rules as rules
use Rattle.mz_pterm.specs.Sign.{sign_of}
use Rattle.mz_ptype.specs.Forms.{goes_type, goes_on_declared}
use Rattle.mz_pstep.specs.Forms.{divided}
use Rattle.mz_ppattern.specs.Optional.{optional}
use Rattle.mz_ppattern.specs.Classes.{goes_on_names}
use Rattle.mz_ppart.specs.Classes.{begins_ancestors, begins_structure_loci}

-- In a field's type a selector may stand without `of`.
abbrev pub field_form : Form MarkedToken
field_form = record { Tree = FieldTree; spell = spell.spell_field; levels = levels.levels_field; each = each.each_field; IsTree = rules.IsField; goes = λ x t. goes_type x.ty (sign_of t) }

abbrev pub fields_form : Form MarkedToken
fields_form = divided field_form rules.field_ends_in_terms goes_on_declared

abbrev pub ancestors_form : Form MarkedToken
ancestors_form = record { Tree = AncestorsTree; spell = spell.spell_ancestors; levels = levels.levels_ancestors; each = each.each_ancestors; IsTree = rules.AreAncestors; goes = λ _ _. false }

abbrev pub optional_ancestors : Form MarkedToken
optional_ancestors = optional ancestors_form begins_ancestors

abbrev pub structure_loci_form : Form MarkedToken
structure_loci_form = record { Tree = StructureLociTree; spell = spell.spell_structure_loci; levels = levels.levels_structure_loci; each = each.each_structure_loci; IsTree = λ _. Unit {0}; goes = λ _ t. goes_on_names (sign_of t) }

abbrev pub optional_structure_loci : Form MarkedToken
optional_structure_loci = optional structure_loci_form begins_structure_loci

abbrev pub structure_form : Form MarkedToken
structure_form = record { Tree = StructureTree; spell = spell.spell_structure; levels = levels.levels_structure; each = each.each_structure; IsTree = rules.IsStructure; goes = λ _ _. false }

-- A field was read, and whether a list of terms stands last in it.
abbrev pub ReadsField : ℕ → List MarkedToken → Result (FieldTree × Bool) Refusal → List MarkedToken → Type 0
ReadsField room before result after = Gives field_form room (λ p. Found field_form room before p.0 after × (p.1 ≡ rules.field_ends_in_terms p.0)) before result after
