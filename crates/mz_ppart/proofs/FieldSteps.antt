-- The readings of fields with commas between them.
use Rattle.std.proofs.Common.{true, false}
use Rattle.mz_forms.proofs.Chain.{Linked}
use Rattle.mz_tree.specs.Trees.{TypedDeclared}
use Rattle.mz_tree_heading.specs.Rules.{field_ends_in_terms}
use Rattle.mz_pterm.specs.Sign.{sign_of}
use Rattle.mz_pterm.proofs.Bases.{word_at}
use Rattle.mz_ptype.specs.Forms.{goes_on_declared}
use Rattle.mz_ptype.proofs.DeclarationSteps.{comma_told, declared_on, linked_declared}
use Rattle.mz_pjustification.proofs.Taken.{nowhere}
use Rattle.mz_pstep.specs.Forms.{links}
use Rattle.mz_ppart.specs.StructureForms.{field_form}

-- Commas stand between fields as they do between declarations with these types.
pub linked_fields : Linked (links field_form field_ends_in_terms goes_on_declared)
linked_fields = record {
  told = λ a b e. comma_told a b e;
  weaker = λ x t is g. declared_on (TypedDeclared (word_at nowhere) (record { place = nowhere; long = false }) x.ty) (sign_of t) g;
  on = λ c. (linked_declared true).on c;
  apart = λ x c is may g. (linked_declared true).apart (TypedDeclared (word_at nowhere) (record { place = nowhere; long = false }) x.ty) c is may g;
}
