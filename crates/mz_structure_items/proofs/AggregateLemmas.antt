-- What the code of aggregates tells.
use Rattle.std.proofs.Common.{◌≡◌, ◌∙◌, ℕ, List, [], ◌∷◌, ◌++◌, append-nil, sym, ap, Option, Some, None}
use Rattle.std.specs.Prelude.{slice_get}
use Rattle.mz_logic.specs.declared.sym.Sym.{Sym}
use Rattle.mz_core.specs.Hidden.{object_type}
use Rattle.mz_core.specs.declared.soft_type.SoftType.{SoftType}
use Rattle.mz_field_items.specs.declared.fields.ReadField.{ReadField}
use Rattle.mz_structure_items.specs.Aggregates.{selector_if_any, selector_at, field_locus}

-- the selector of the field at a place
pub told_no_selector : (fs : List ReadField) (k : ℕ) (ss : List Sym) → slice_get fs k ≡ None → ss ≡ ss ++ selector_at fs k
told_no_selector fs k ss e = sym (ap (λ o. ss ++ selector_if_any o) e ∙ append-nil ss)

pub told_selector : (fs : List ReadField) (k : ℕ) (f : ReadField) (ss ts : List Sym) → slice_get fs k ≡ Some f → ts ≡ ss ++ f.selector ∷ [] → ts ≡ ss ++ selector_at fs k
told_selector fs k f ss ts e et = et ∙ sym (ap (λ o. ss ++ selector_if_any o) e)

pub ruleset selector_rules = (told_no_selector, told_selector)

-- its type as a locus
pub told_no_locus : (least count before : ℕ) (ordered : List Sym) (fs : List ReadField) (k : ℕ) (ty : SoftType) → slice_get fs k ≡ None → ty ≡ object_type → ty ≡ field_locus least count ordered before (slice_get fs k)
told_no_locus least count before ordered fs k ty e et = et ∙ sym (ap (field_locus least count ordered before) e)

pub told_locus : (least count before : ℕ) (ordered : List Sym) (fs : List ReadField) (k : ℕ) (f : ReadField) (ty : SoftType) → slice_get fs k ≡ Some f → ty ≡ field_locus least count ordered before (Some f) → ty ≡ field_locus least count ordered before (slice_get fs k)
told_locus least count before ordered fs k f ty e et = et ∙ sym (ap (field_locus least count ordered before) e)

pub ruleset locus_rules = (told_no_locus, told_locus)
