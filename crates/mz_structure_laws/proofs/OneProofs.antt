-- A structure comes to one thing at most.
use Rattle.std.proofs.Common.{◌≡◌, ℕ, Bool, true, false, List, [], ◌∷◌, ◌++◌, map, refl, sym, ap, ◌∙◌, subst, Option, None, Some}
use Rattle.std.specs.Prelude.{Result, Ok, Err}
use Rattle.mz_base.specs.declared.place.Place.{Place}
use Rattle.mz_core.specs.declared.outcome.Left.{Left}
use Rattle.mz_core.specs.declared.soft_type.SoftType.{SoftType}
use Rattle.mz_cited.specs.Cited.{members}
use Rattle.mz_context.specs.declared.context.Context.{Context}
use Rattle.mz_environment.specs.declared.environment.Environment.{Environment}
use Rattle.mz_environment.specs.declared.numbering.Numbering.{Numbering}
use Rattle.mz_justified.specs.declared.proof_fault.ProofRefusal.TheVariants.{Resolve}
use Rattle.mz_names.specs.declared.refusal.Refusal.{Refusal}
use Rattle.mz_obligations.specs.declared.obligation.Obligation.{Obligation}
use Rattle.mz_parts_laws.proofs.OneExpression.{one_type_read}
use Rattle.mz_patterns.specs.declared.visible.Visible.{Visible}
use Rattle.mz_standing.specs.declared.standing.Standing.{Standing}
use Rattle.mz_taken.specs.OneByOne.{OneByOne, OneLaw}
use Rattle.mz_taken.specs.Taken.{Taken, Made, Refused}
use Rattle.mz_taken.specs.declared.item_fault.ItemRefusal.{ItemRefusal}
use Rattle.mz_taken.specs.declared.item_fault.ItemRefusal.TheVariants.{Proof, SelectorRepeated, AncestorUnfit}
use Rattle.mz_taken.proofs.OneByOneProofs.{one_all}
use Rattle.mz_tree.specs.Places.{first_place}
use Rattle.mz_tree.specs.Spell.{spell_type}
use Rattle.mz_tree.specs.Trees.{TypeData}
use Rattle.mz_tree_heading.specs.declared.structure.FieldTree.{FieldTree}
use Rattle.mz_tree_heading.specs.declared.structure.StructureTree.{StructureTree}
use Rattle.mz_tree_item.specs.declared.definition.ConditionOrPropertyTree.{ConditionOrPropertyTree}
use Rattle.mz_field_items.specs.declared.fields.ReadField.{ReadField}
use Rattle.mz_structure_items.specs.Selectors.{selectors_of_type, are_fields}
use Rattle.mz_structure.specs.Fields as field
use Rattle.mz_structure.specs.Fields.{Reading, reading, no_ancestry, with_ancestor, ReadsAncestor, name_of, first_repeated, with_group, environment_with, ReadsGroup}
use Rattle.mz_structure.specs.Structures as rule
use Rattle.mz_structure.specs.Structures.{ancestor_trees, field_names, structure_loci, has_few, outline, context_of_fields, structure_item, structure_taken, TakesFields, TakesAncestors, Structures}
use Rattle.mz_structure.specs.declared.ancestry.Ancestry.{Ancestry}
use Rattle.mz_structure.specs.declared.ancestry.Outline.{Outline}
use Rattle.mz_structure_laws.specs.Headings.{TakesStructure}

-- outcomes
abbrev read_to : SoftType → Result SoftType Refusal
read_to x = Ok x

abbrev refused_as : Refusal → Result SoftType Refusal
refused_as r = Err r

good : (x y : SoftType) → read_to x ≡ read_to y → x ≡ y
good x y e = cc

bad : (r q : Refusal) → refused_as r ≡ refused_as q → r ≡ q
bad r q e = cc

apart : (x : SoftType) (r : Refusal) → read_to x ≡ refused_as r → ⊥
apart x r e = cc

true_false : (b : Bool) → b ≡ true → b ≡ false → ⊥
true_false b t f = cc

same_some : {X : Type 0} (o : Option X) (x y : X) → o ≡ Some x → o ≡ Some y → x ≡ y
same_some o x y h k = cc

none_some : {X : Type 0} (o : Option X) (x : X) → o ≡ None → o ≡ Some x → ⊥
none_some o x h k = cc

abbrev AreSame : {S : Type 0} → Taken S → Taken S → Type 0
AreSame a b = a ≡ b

refused_same : {S : Type 0} (r q : ItemRefusal) → AreSame {S = S} (Refused r) (Refused q) → r ≡ q
refused_same r q e = cc

refused_made : {S : Type 0} (r : ItemRefusal) (os : List Obligation) (t : S) → AreSame (Refused r) (Made os t) → ⊥
refused_made r os t e = cc

made_same : {S : Type 0} (os ps : List Obligation) (t u : S) → AreSame (Made os t) (Made ps u) → t ≡ u
made_same os ps t u e = cc

-- an ancestor
ancestor_made : (e : Environment) (a : Ancestry) (x y : SoftType) (l m : Left) → x ≡ y → l ≡ m →
    Made [] (reading (with_ancestor a x (selectors_of_type e.structures x)) l) ≡ Made [] (reading (with_ancestor a y (selectors_of_type e.structures y)) m)
ancestor_made e a x y l m ex el =
    ap (λ z. Made [] (reading (with_ancestor a z (selectors_of_type e.structures z)) l)) ex ∙ ap (λ k. Made [] (reading (with_ancestor a y (selectors_of_type e.structures y)) k)) el

abbrev are_fields_of : Environment → List (List ℕ) → Ancestry → SoftType → Bool
are_fields_of e names a ty = are_fields names (a.inherited ++ selectors_of_type e.structures ty) (selectors_of_type e.structures ty)

one_ancestor : (e : Environment) (c : Context) (least : ℕ) (names : List (List ℕ)) → OneLaw (ReadsAncestor e c least names)
one_ancestor e c least names a t v w (field.not_read r x h) (field.not_read q y k) =
    ap (λ z. Refused (Proof (Resolve z))) (bad r q (one_type_read e c least a.left t (Err r) (Err q) x y h k).0)
one_ancestor e c least names a t v w (field.not_read r x h) (field.unfit uy y g k p q) = absurd (apart uy r (sym (one_type_read e c least a.left t (Err r) (Ok uy) x y h k).0))
one_ancestor e c least names a t v w (field.not_read r x h) (field.fit uy y k q) = absurd (apart uy r (sym (one_type_read e c least a.left t (Err r) (Ok uy) x y h k).0))
one_ancestor e c least names a t v w (field.unfit ty x f h i j) (field.not_read q y k) = absurd (apart ty q (one_type_read e c least a.left t (Ok ty) (Err q) x y h k).0)
one_ancestor e c least names a t v w (field.unfit ty x f h i j) (field.unfit uy y g k p q) = ap (λ z. Refused (AncestorUnfit z)) (same_some (first_place (spell_type t)) f g i p)
one_ancestor e c least names a t v w (field.unfit ty x f h i j) (field.fit uy y k q) =
    let same : ty ≡ uy = good ty uy (one_type_read e c least a.left t (Ok ty) (Ok uy) x y h k).0 in
    absurd (true_false (are_fields_of e names a.got uy) q (subst (λ z. are_fields_of e names a.got z ≡ false) same j))
one_ancestor e c least names a t v w (field.fit ty x h j) (field.not_read q y k) = absurd (apart ty q (one_type_read e c least a.left t (Ok ty) (Err q) x y h k).0)
one_ancestor e c least names a t v w (field.fit ty x h j) (field.unfit uy y g k p q) =
    let same : ty ≡ uy = good ty uy (one_type_read e c least a.left t (Ok ty) (Ok uy) x y h k).0 in
    absurd (true_false (are_fields_of e names a.got uy) (subst (λ z. are_fields_of e names a.got z ≡ true) same j) q)
one_ancestor e c least names a t v w (field.fit ty x h j) (field.fit uy y k q) =
    let both = one_type_read e c least a.left t (Ok ty) (Ok uy) x y h k in
    ancestor_made e a.got ty uy x y (good ty uy both.0) both.1

-- a group of fields
group_made : (d : Context) (o : Outline) (fs : List ReadField) (t : FieldTree) (x y : SoftType) (l m : Left) → x ≡ y → l ≡ m →
    Made [] (reading (with_group d o.ancestry.inherited x fs (members t.selectors)) l) ≡ Made [] (reading (with_group d o.ancestry.inherited y fs (members t.selectors)) m)
group_made d o fs t x y l m ex el =
    ap (λ z. Made [] (reading (with_group d o.ancestry.inherited z fs (members t.selectors)) l)) ex ∙ ap (λ k. Made [] (reading (with_group d o.ancestry.inherited y fs (members t.selectors)) k)) el

one_group : (e : Environment) (n : Numbering) (d : Context) (o : Outline) → OneLaw (ReadsGroup e n d o)
one_group e n d o r t v w (field.repeated p h) (field.repeated q k) = ap (λ z. Refused (SelectorRepeated z)) (same_some (first_repeated (map name_of r.got) (members t.selectors)) p q h k)
one_group e n d o r t v w (field.repeated p h) (field.not_read q y i k) = absurd (none_some (first_repeated (map name_of r.got) (members t.selectors)) p i h)
one_group e n d o r t v w (field.repeated p h) (field.group_read uy y i k) = absurd (none_some (first_repeated (map name_of r.got) (members t.selectors)) p i h)
one_group e n d o r t v w (field.not_read q x i h) (field.repeated p k) = absurd (none_some (first_repeated (map name_of r.got) (members t.selectors)) p i k)
one_group e n d o r t v w (field.not_read q x i h) (field.not_read s y j k) =
    ap (λ z. Refused (Proof (Resolve z))) (bad q s (one_type_read (environment_with e n o r.got) d o.least r.left t.ty (Err q) (Err s) x y h k).0)
one_group e n d o r t v w (field.not_read q x i h) (field.group_read uy y j k) = absurd (apart uy q (sym (one_type_read (environment_with e n o r.got) d o.least r.left t.ty (Err q) (Ok uy) x y h k).0))
one_group e n d o r t v w (field.group_read ty x i h) (field.repeated p k) = absurd (none_some (first_repeated (map name_of r.got) (members t.selectors)) p i k)
one_group e n d o r t v w (field.group_read ty x i h) (field.not_read s y j k) = absurd (apart ty s (one_type_read (environment_with e n o r.got) d o.least r.left t.ty (Ok ty) (Err s) x y h k).0)
one_group e n d o r t v w (field.group_read ty x i h) (field.group_read uy y j k) =
    let both = one_type_read (environment_with e n o r.got) d o.least r.left t.ty (Ok ty) (Ok uy) x y h k in
    group_made d o r.got t ty uy x y (good ty uy both.0) both.1

-- the structure
abbrev Ancestors : ℕ → Standing → StructureTree → Taken (Reading Ancestry) → Type 0
Ancestors least s t = OneByOne (ReadsAncestor s.environment s.context least (field_names t)) (reading no_ancestry s.left) (ancestor_trees t.ancestors)

abbrev Groups : ℕ → Standing → StructureTree → Reading Ancestry → Taken (Reading (List ReadField)) → Type 0
Groups least s t a = OneByOne (ReadsGroup s.environment s.numbering (context_of_fields least s) (outline least s a.got)) (reading [] a.left) (members t.fields)

one_ancestors : (least : ℕ) (s : Standing) (t : StructureTree) (o p : Taken (Reading Ancestry)) → Ancestors least s t o → Ancestors least s t p → o ≡ p
one_ancestors least s t o p h k = one_all (ReadsAncestor s.environment s.context least (field_names t)) (one_ancestor s.environment s.context least (field_names t)) h k

one_groups : (least : ℕ) (s : Standing) (t : StructureTree) (a : Reading Ancestry) (o p : Taken (Reading (List ReadField))) → Groups least s t a o → Groups least s t a p → o ≡ p
one_groups least s t a o p h k =
    one_all (ReadsGroup s.environment s.numbering (context_of_fields least s) (outline least s a.got)) (one_group s.environment s.numbering (context_of_fields least s) (outline least s a.got)) h k

one_fields : (least : ℕ) (s : Standing) (t : StructureTree) (ws : List ConditionOrPropertyTree) (u : Visible) (a : Reading Ancestry) (v w : Taken Standing) → TakesFields least s t ws u a v → TakesFields least s t ws u a w → v ≡ w
one_fields least s t ws u a v w (rule.field_refused r h) (rule.field_refused q k) = ap Refused (refused_same {S = Reading (List ReadField)} r q (one_groups least s t a (Refused r) (Refused q) h k))
one_fields least s t ws u a v w (rule.field_refused r h) (rule.fields_read ps g k) = absurd (refused_made r ps g (one_groups least s t a (Refused r) (Made ps g) h k))
one_fields least s t ws u a v w (rule.fields_read os f h) (rule.field_refused q k) = absurd (refused_made q os f (one_groups least s t a (Refused q) (Made os f) k h))
one_fields least s t ws u a v w (rule.fields_read os f h) (rule.fields_read ps g k) =
    ap (λ (z : Reading (List ReadField)). structure_taken s t ws (structure_item least s t u a.got z.got) z.left) (made_same os ps f g (one_groups least s t a (Made os f) (Made ps g) h k))

one_read : (least : ℕ) (s : Standing) (t : StructureTree) (ws : List ConditionOrPropertyTree) (u : Visible) (v w : Taken Standing) → TakesAncestors least s t ws u v → TakesAncestors least s t ws u w → v ≡ w
one_read least s t ws u v w (rule.ancestor_refused r h) (rule.ancestor_refused q k) = ap Refused (refused_same {S = Reading Ancestry} r q (one_ancestors least s t (Refused r) (Refused q) h k))
one_read least s t ws u v w (rule.ancestor_refused r h) (rule.ancestors_read ps b p k m) = absurd (refused_made r ps b (one_ancestors least s t (Refused r) (Made ps b) h k))
one_read least s t ws u v w (rule.ancestors_read os a o h l) (rule.ancestor_refused q k) = absurd (refused_made q os a (one_ancestors least s t (Refused q) (Made os a) k h))
one_read least s t ws u v w (rule.ancestors_read os a o h l) (rule.ancestors_read ps b p k m) =
    one_fields least s t ws u b v w (subst (λ z. TakesFields least s t ws u z v) (made_same os ps a b (one_ancestors least s t (Made os a) (Made ps b) h k)) l) m

one_at_most : (least : ℕ) (s : Standing) (t : StructureTree) (ws : List ConditionOrPropertyTree) (v w : Taken Standing) → Structures least s t ws v → Structures least s t ws w → v ≡ w
one_at_most least s t ws v w (rule.bad_loci h) (rule.bad_loci k) = refl
one_at_most least s t ws v w (rule.bad_loci h) (rule.too_many y k m) = absurd (none_some (structure_loci least s t) y h k)
one_at_most least s t ws v w (rule.bad_loci h) (rule.few y p k m n) = absurd (none_some (structure_loci least s t) y h k)
one_at_most least s t ws v w (rule.too_many x h l) (rule.bad_loci k) = absurd (none_some (structure_loci least s t) x k h)
one_at_most least s t ws v w (rule.too_many x h l) (rule.too_many y k m) = refl
one_at_most least s t ws v w (rule.too_many x h l) (rule.few y p k m n) = absurd (true_false (has_few least s t) m l)
one_at_most least s t ws v w (rule.few x o h l i) (rule.bad_loci k) = absurd (none_some (structure_loci least s t) x k h)
one_at_most least s t ws v w (rule.few x o h l i) (rule.too_many y k m) = absurd (true_false (has_few least s t) l m)
one_at_most least s t ws v w (rule.few x o h l i) (rule.few y p k m n) =
    one_read least s t ws y v w (subst (λ z. TakesAncestors least s t ws z v) (same_some (structure_loci least s t) x y h k) i) n

pub one_structure : (least : ℕ) → OneLaw (TakesStructure least)
one_structure least s x v w h k = one_at_most least s x.0 x.1 v w h k
