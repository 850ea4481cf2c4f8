-- What the code of fields tells.
use Rattle.std.proofs.Common.{◌≡◌, ◌∙◌, ℕ, List, [], ◌∷◌, map, refl, sym, ap, subst, Option, None, Some}
use Rattle.std.specs.Prelude.{Result, Ok, Err}
use Rattle.mz_base.specs.declared.place.Place.{Place}
use Rattle.mz_core.specs.declared.outcome.Left.{Left}
use Rattle.mz_core.specs.declared.soft_type.SoftType.{SoftType}
use Rattle.mz_cited.specs.Cited.{members}
use Rattle.mz_context.specs.declared.context.Context.{Context}
use Rattle.mz_environment.specs.declared.environment.Environment.{Environment}
use Rattle.mz_environment.specs.declared.numbering.Numbering.{Numbering}
use Rattle.mz_names.specs.declared.refusal.Refusal.{Refusal}
use Rattle.mz_resolve.specs.Answers.{OnRead}
use Rattle.mz_resolve.specs.Calls.{TypeRead}
use Rattle.mz_resolve.specs.declared.resolve_fault.ResolveFault.{ResolveFault}
use Rattle.mz_resolve.specs.declared.resolve_fault.ResolveFault.TheVariants as reading_fault
use Rattle.mz_tree_heading.specs.declared.structure.FieldTree.{FieldTree}
use Rattle.mz_field_items.specs.declared.fields.ReadField.{ReadField}
use Rattle.mz_structure.specs.Fields as rule
use Rattle.mz_structure.specs.Fields.{reading, name_of, first_repeated, with_group, environment_with, ReadsGroup}
use Rattle.mz_structure.specs.declared.ancestry.Outline.{Outline}
use Rattle.mz_taken.specs.Answers.{of_reading, OnTaken, Leads}
use Rattle.mz_taken.specs.Taken.{Made, Refused}
use Rattle.mz_taken.specs.declared.item_fault.ItemFault.{ItemFault}
use Rattle.mz_taken.specs.declared.item_fault.ItemRefusal.{ItemRefusal}
use Rattle.mz_taken.specs.declared.item_fault.ItemRefusal.TheVariants.{SelectorRepeated}

pub told_repeated : (e : Environment) (n : Numbering) (d : Context) (o : Outline) (fs : List ReadField) (left : Left) (t : FieldTree) (q : Option Place) (p : Place) →
    q ≡ first_repeated (map name_of fs) (members t.selectors) → q ≡ Some p → ReadsGroup e n d o (reading fs left) t (Refused (SelectorRepeated p))
told_repeated e n d o fs left t q p eq ep = rule.repeated p (sym eq ∙ ep)

not_read_on : {X : Type 0} (P : Result SoftType Refusal → Type 0) (Q : Result X ItemRefusal → Type 0) (f : ResolveFault) → ((r : Refusal) → P (Err r) → OnTaken {X = X} (Err (of_reading (reading_fault.Refused r))) Q) → OnRead {X = SoftType} (Err f) P → OnTaken {X = X} (Err (of_reading f)) Q
not_read_on P Q (reading_fault.Refused r) g h = g r h
not_read_on P Q reading_fault.Memory g h = tt

pub told_type_not_read : (X : Type 0) (e : Environment) (n : Numbering) (d : Context) (o : Outline) (fs gs : List ReadField) (left after : Left) (t : FieldTree) (q : Option Place) (p : Result SoftType ResolveFault) (f : ResolveFault) (g : ItemFault) →
    q ≡ first_repeated (map name_of fs) (members t.selectors) → q ≡ None → OnRead p (λ u. TypeRead (environment_with e n o fs) d o.least left t.ty u after) → p ≡ Err f → g ≡ of_reading f →
    OnTaken {X = X} (Err g) (Leads (ReadsGroup e n d o (reading fs left) t) (reading gs after))
told_type_not_read X e n d o fs gs left after t q p f g eq en h ep eg =
    let P : Result SoftType Refusal → Type 0 = λ u. TypeRead (environment_with e n o fs) d o.least left t.ty u after in
    subst (λ (y : ItemFault). OnTaken {X = X} (Err y) (Leads (ReadsGroup e n d o (reading fs left) t) (reading gs after))) (sym eg)
    (not_read_on P (Leads (ReadsGroup e n d o (reading fs left) t) (reading gs after)) f (λ r k. rule.not_read r after (sym eq ∙ en) k) (subst (λ z. OnRead z P) ep h))

pub told_group : (e : Environment) (n : Numbering) (d d2 : Context) (o : Outline) (fs gs : List ReadField) (left after : Left) (t : FieldTree) (q : Option Place) (p : Result SoftType ResolveFault) (ty : SoftType) →
    q ≡ first_repeated (map name_of fs) (members t.selectors) → q ≡ None → OnRead p (λ u. TypeRead (environment_with e n o fs) d o.least left t.ty u after) → p ≡ Ok ty →
    d2 ≡ d → gs ≡ with_group d2 o.ancestry.inherited ty fs (members t.selectors) → ReadsGroup e n d o (reading fs left) t (Made [] (reading gs after))
told_group e n d d2 o fs gs left after t q p ty eq en h ep ed es =
    let P : Result SoftType Refusal → Type 0 = λ u. TypeRead (environment_with e n o fs) d o.least left t.ty u after in
    subst (λ (hs : List ReadField). ReadsGroup e n d o (reading fs left) t (Made [] (reading hs after))) (sym (es ∙ ap (λ (c : Context). with_group c o.ancestry.inherited ty fs (members t.selectors)) ed)) (rule.group_read ty after (sym eq ∙ en) (subst (λ z. OnRead z P) ep h))
