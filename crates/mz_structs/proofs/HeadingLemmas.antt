-- What the code of structures tells.
use Rattle.std.proofs.Common.{◌≡◌, ◌≤◌, ◌∙◌, ℕ, suc, Bool, true, false, List, [], ◌∷◌, ◌++◌, map, length, take, refl, sym, ap, subst, arith, Option, None, Some}
use Rattle.std.proofs.lemmas.Bool.{leb-true, le-leb}
use Rattle.std.specs.Prelude.{◌&&◌, nat_le, if◌then◌else◌, Result, Ok, Err}
use Rattle.mz_base.specs.declared.place.Place.{Place}
use Rattle.mz_logic.specs.Term.{Term}
use Rattle.mz_core.specs.declared.item.Item.{Item}
use Rattle.mz_core.specs.declared.item.Item.TheVariants as item
use Rattle.mz_core.specs.declared.outcome.Left.{Left}
use Rattle.mz_core.specs.declared.soft_type.SoftType.{SoftType}
use Rattle.mz_cited.specs.Cited.{tree_of, members}
use Rattle.mz_choice.specs.Fresh.{keeping}
use Rattle.mz_context.specs.declared.constants.Constant.{Constant}
use Rattle.mz_context.specs.declared.context.Context.{Context}
use Rattle.mz_environment.specs.declared.environment.Environment.{Environment}
use Rattle.mz_environment.specs.declared.numbering.Numbering.{Numbering}
use Rattle.mz_justified.specs.declared.proof_fault.ProofRefusal.TheVariants.{Resolve}
use Rattle.mz_names.specs.declared.refusal.Refusal.TheVariants.{TooLarge}
use Rattle.mz_obligations.specs.declared.obligation.Obligation.{Obligation}
use Rattle.mz_patterns.specs.declared.visible.Visible.{Visible}
use Rattle.mz_standing.specs.Standing.{with_left}
use Rattle.mz_standing.specs.declared.standing.Standing.{Standing}
use Rattle.mz_taken.specs.Answers.{OnTaken, Leads}
use Rattle.mz_taken.specs.OneByOne.{OneByOne}
use Rattle.mz_taken.specs.Taken.{Taken, Made, Refused}
use Rattle.mz_taken.specs.declared.item_fault.ItemFault.{ItemFault}
use Rattle.mz_taken.specs.declared.item_fault.ItemFault.TheVariants as fault
use Rattle.mz_taken.specs.declared.item_fault.ItemRefusal.{ItemRefusal}
use Rattle.mz_taken.specs.declared.item_fault.ItemRefusal.TheVariants.{Proof, BadLoci}
use Rattle.mz_taken.proofs.OneByOneProofs.{on_err, on_ok}
use Rattle.mz_tree.specs.Trees.{TypeData}
use Rattle.mz_tree_heading.specs.declared.structure.AncestorsTree.{AncestorsTree}
use Rattle.mz_tree_heading.specs.declared.structure.FieldTree.{FieldTree}
use Rattle.mz_tree_heading.specs.declared.structure.StructureTree.{StructureTree}
use Rattle.mz_tree_item.specs.declared.definition.ConditionOrPropertyTree.{ConditionOrPropertyTree}
use Rattle.mz_field_items.specs.declared.fields.ReadField.{ReadField}
use Rattle.mz_structure_items.specs.Items.{structure_symbols, whole_structure}
use Rattle.mz_structure.specs.Fields.{Reading, reading, no_ancestry, type_at_loci, with_subject, ReadsAncestor, ReadsGroup}
use Rattle.mz_structure.specs.Structures as rule
use Rattle.mz_structure.specs.Structures.{ancestor_trees, field_names, own_loci, structure_loci, are_few, has_few, outline, grants_keep, first_stray, in_force, unless_stray, structure_taken, TakesFields, TakesAncestors, Structures}
use Rattle.mz_structure.specs.declared.ancestry.Ancestry.{Ancestry}
use Rattle.mz_structure.specs.declared.ancestry.Outline.{Outline}
use Rattle.mz_structs.specs.Ends.{EndsWith}

-- how many ancestors there are
pub told_no_ancestor : (t : Option AncestorsTree) → t ≡ None → true ≡ are_few (ancestor_trees t)
told_no_ancestor t e = sym (ap (λ o. are_few (ancestor_trees o)) e)

length-map : {X Y : Type 0} (f : X → Y) (xs : List X) → length (map f xs) ≡ length xs
length-map f [] = refl
length-map f (x ∷ xs) = ap suc (length-map f xs)

true_false : (b : Bool) → b ≡ true → b ≡ false → ⊥
true_false b t f = cc

one_more : (n : ℕ) (b c : Bool) → b ≡ nat_le n 511 → c ≡ nat_le (suc n) 512 → b ≡ c
one_more n true true e f = refl
one_more n false false e f = refl
one_more n true false e f = let le : n ≤ 511 = leb-true n 511 (sym e) in absurd (true_false (nat_le (suc n) 512) (le-leb (suc n) 512 (omega (arith, le))) (sym f))
one_more n false true e f = let le : suc n ≤ 512 = leb-true (suc n) 512 (sym f) in absurd (true_false (nat_le n 511) (le-leb n 511 (omega (arith, le))) (sym e))

pub told_ancestors_few : (t : Option AncestorsTree) (u : AncestorsTree) (n : ℕ) (b : Bool) → t ≡ Some u → n ≡ length u.types.more → b ≡ nat_le n 511 → b ≡ are_few (ancestor_trees t)
told_ancestors_few t u n b e en eb =
    one_more n b (nat_le (suc n) 512) eb refl ∙ ap (λ k. nat_le (suc k) 512) (en ∙ sym (length-map tree_of u.types.more)) ∙ sym (ap (λ o. are_few (ancestor_trees o)) e)

pub ruleset few_rules = (told_no_ancestor, told_ancestors_few)

-- the object is out of force
taken_first : (ks : List (Option Constant)) (more : List (Option Constant)) → take (length ks) (ks ++ more) ≡ ks
taken_first [] [] = refl
taken_first [] (k ∷ more) = refl
taken_first (k ∷ ks) more = ap (λ js. k ∷ js) (taken_first ks more)

pub told_back : (c d e x : Context) (ty : SoftType) (n : ℕ) (b : Option Term) → n ≡ length c.constants → b ≡ c.subject → d ≡ with_subject c ty → e ≡ d → x ≡ record (keeping n e) { subject = b } → x ≡ c
told_back c d e x ty n b en eb ed ee ex =
    ex ∙ (ap (λ (y : Context). record (keeping n y) { subject = b }) (ee ∙ ed) ∙
    (ap (λ m. record (keeping m (with_subject c ty)) { subject = b }) en ∙
    (ap (λ ks. record c { constants = ks; subject = b }) (taken_first c.constants (Some (record { name = []; ty = ty; equal = None }) ∷ [])) ∙ ap (λ o. record c { subject = o }) eb)))

abbrev pub GroupsIn : Environment → Numbering → Outline → Reading (List ReadField) → List FieldTree → Context → Taken (Reading (List ReadField)) → Type 0
GroupsIn e n o r ts c = OneByOne (ReadsGroup e n c o) r ts

pub told_object_refused : (X : Type 0) {Y : Type 0} (e : Environment) (n : Numbering) (o : Outline) (r g h : Reading (List ReadField)) (ts : List FieldTree) (c d : Context) (z : Result Y ItemFault) (f : ItemFault) → d ≡ c → OnTaken z (Leads (GroupsIn e n o r ts d) g) → z ≡ Err f →
    OnTaken {X = X} (Err f) (Leads (GroupsIn e n o r ts c) h)
told_object_refused X e n o r g h ts c d z f ed k ez =
    on_err (Leads (GroupsIn e n o r ts d) g) (Leads (GroupsIn e n o r ts c) h) z f ez k (λ q j. subst (λ (b : Context). GroupsIn e n o r ts b (Refused q)) ed j)

pub told_object : {Y : Type 0} (e : Environment) (n : Numbering) (o : Outline) (r g : Reading (List ReadField)) (ts : List FieldTree) (c d : Context) (z : Result Y ItemFault) (w : Y) → d ≡ c → OnTaken z (Leads (GroupsIn e n o r ts d) g) → z ≡ Ok w → GroupsIn e n o r ts c (Made [] g)
told_object e n o r g ts c d z w ed k ez = subst (λ (b : Context). GroupsIn e n o r ts b (Made [] g)) ed (on_ok (Leads (GroupsIn e n o r ts d) g) z w ez k)

-- behind the reading
pub told_beyond : (s : Standing) (t : StructureTree) (ws : List ConditionOrPropertyTree) (x : Item) (left : Left) (b : Bool) → b ≡ grants_keep x → b ≡ false → structure_taken s t ws x left ≡ Refused (Proof (Resolve (TooLarge t.struct_)))
told_beyond s t ws x left b e h = ap (λ c. if c then unless_stray (first_stray ws) (in_force s x left) else Refused (Proof (Resolve (TooLarge t.struct_)))) (sym e ∙ h)

kept_so : (s : Standing) (t : StructureTree) (ws : List ConditionOrPropertyTree) (x : Item) (left : Left) (b : Bool) (o p : Option ItemRefusal) → b ≡ grants_keep x → b ≡ true → o ≡ first_stray ws → o ≡ p → structure_taken s t ws x left ≡ unless_stray p (in_force s x left)
kept_so s t ws x left b o p e h eo ep =
    ap (λ c. if c then unless_stray (first_stray ws) (in_force s x left) else Refused (Proof (Resolve (TooLarge t.struct_)))) (sym e ∙ h) ∙ ap (λ q. unless_stray q (in_force s x left)) (sym eo ∙ ep)

pub told_stray : (s : Standing) (t : StructureTree) (ws : List ConditionOrPropertyTree) (x : Item) (left : Left) (b : Bool) (o : Option ItemRefusal) (r : ItemRefusal) → b ≡ grants_keep x → b ≡ true → o ≡ first_stray ws → o ≡ Some r → structure_taken s t ws x left ≡ Refused r
told_stray s t ws x left b o r e h eo er = kept_so s t ws x left b o (Some r) e h eo er

pub told_in_force : (s u : Standing) (t : StructureTree) (ws : List ConditionOrPropertyTree) (x : Item) (left : Left) (b : Bool) (o : Option ItemRefusal) → b ≡ grants_keep x → b ≡ true → o ≡ first_stray ws → o ≡ None → u ≡ in_force s x left → structure_taken s t ws x left ≡ Made [] u
told_in_force s u t ws x left b o e h eo en eu = kept_so s t ws x left b o None e h eo en ∙ ap (Made []) (sym eu)

pub ruleset taken_rules = (told_beyond, told_stray, told_in_force)

-- the fields
abbrev Groups : ℕ → Standing → StructureTree → Outline → SoftType → List ReadField → Taken (Reading (List ReadField)) → Type 0
Groups least s t o ty fs = OneByOne (ReadsGroup s.environment s.numbering (with_subject s.context ty) o) (reading fs s.left) (members t.fields)

groups_so : (least : ℕ) (s : Standing) (t : StructureTree) (a : Ancestry) (o : Outline) (ty : SoftType) (fs : List ReadField) (p : Taken (Reading (List ReadField))) →
    o ≡ outline least s a → ty ≡ type_at_loci least (length (own_loci least s)) o.symbols.sym → fs ≡ [] → Groups least s t o ty fs p → Groups least s t (outline least s a) (type_at_loci least (length (own_loci least s)) (structure_symbols s.context).sym) [] p
groups_so least s t a o ty fs p eo et ef h =
    let one : ty ≡ type_at_loci least (length (own_loci least s)) (structure_symbols s.context).sym = et ∙ ap (λ (x : Outline). type_at_loci least (length (own_loci least s)) x.symbols.sym) eo in
    subst (λ x. Groups least s t x (type_at_loci least (length (own_loci least s)) (structure_symbols s.context).sym) [] p) eo
    (subst (λ x. Groups least s t o x [] p) one (subst (λ gs. Groups least s t o ty gs p) ef h))

pub told_field_refused : (X : Type 0) {Y : Type 0} (least : ℕ) (s u : Standing) (t : StructureTree) (ws : List ConditionOrPropertyTree) (v : Visible) (a : Ancestry) (o : Outline) (ty : SoftType) (fs : List ReadField) (g : Reading (List ReadField)) (z : Result Y ItemFault) (f : ItemFault) →
    o ≡ outline least s a → ty ≡ type_at_loci least (length (own_loci least s)) o.symbols.sym → fs ≡ [] → OnTaken z (Leads (Groups least s t o ty fs) g) → z ≡ Err f →
    OnTaken {X = X} (Err f) (Leads (TakesFields least s t ws v (reading a s.left)) u)
told_field_refused X least s u t ws v a o ty fs g z f eo et ef h ez =
    on_err (Leads (Groups least s t o ty fs) g) (Leads (TakesFields least s t ws v (reading a s.left)) u) z f ez h
    (λ r k. rule.field_refused r (groups_so least s t a o ty fs (Refused r) eo et ef k))

ended_by : {X : Type 0} (Q : Taken Standing → Type 0) (w : Taken Standing) (u : Standing) (y : Result X ItemFault) → Q w → OnTaken y (EndsWith w u) → OnTaken y (Leads Q u)
ended_by Q w u (Ok v) k h = subst Q h k
ended_by Q w u (Err (fault.Refused r)) k h = subst Q h k
ended_by Q w u (Err fault.Memory) k h = tt

pub told_fields : {X Y : Type 0} (least : ℕ) (s s2 u : Standing) (t : StructureTree) (ws : List ConditionOrPropertyTree) (v : Visible) (a : Ancestry) (o : Outline) (ty : SoftType) (fs gs : List ReadField) (after : Left) (x : Item) (z : Result Y ItemFault) (w : Y) (y : Result X ItemFault) →
    o ≡ outline least s a → ty ≡ type_at_loci least (length (own_loci least s)) o.symbols.sym → fs ≡ [] → OnTaken z (Leads (Groups least s t o ty fs) (reading gs after)) → z ≡ Ok w → s2 ≡ with_left s after →
    x ≡ item.Structure (whole_structure o.least t.symbol.spelling o.loci o.symbols v.right o.ancestry.types gs) → OnTaken y (EndsWith (structure_taken s2 t ws x s2.left) u) →
    OnTaken y (Leads (TakesFields least s t ws v (reading a s.left)) u)
told_fields least s s2 u t ws v a o ty fs gs after x z w y eo et ef h ez es ex k =
    let read : Groups least s t (outline least s a) (type_at_loci least (length (own_loci least s)) (structure_symbols s.context).sym) [] (Made [] (reading gs after)) =
    groups_so least s t a o ty fs (Made [] (reading gs after)) eo et ef (on_ok (Leads (Groups least s t o ty fs) (reading gs after)) z w ez h) in
    let same : x ≡ rule.structure_item least s t v a gs = ex ∙ ap (λ (q : Outline). item.Structure (whole_structure q.least t.symbol.spelling q.loci q.symbols v.right q.ancestry.types gs)) eo in
    let here : OnTaken y (EndsWith (structure_taken s t ws (rule.structure_item least s t v a gs) after) u) =
    subst (λ (q : Item). OnTaken y (EndsWith (structure_taken s t ws q after) u)) same
    (subst (λ (q : Standing). OnTaken y (EndsWith (structure_taken q t ws x q.left) u)) es k) in
    ended_by (TakesFields least s t ws v (reading a s.left)) (structure_taken s t ws (rule.structure_item least s t v a gs) after) u y (rule.fields_read [] (reading gs after) read) here

-- the ancestors
abbrev Ancestors : ℕ → Standing → StructureTree → List (List ℕ) → Ancestry → Taken (Reading Ancestry) → Type 0
Ancestors least s t names a = OneByOne (ReadsAncestor s.environment s.context least names) (reading a s.left) (ancestor_trees t.ancestors)

ancestors_so : (least : ℕ) (s : Standing) (t : StructureTree) (names : List (List ℕ)) (a : Ancestry) (p : Taken (Reading Ancestry)) → names ≡ field_names t → a ≡ no_ancestry → Ancestors least s t names a p → Ancestors least s t (field_names t) no_ancestry p
ancestors_so least s t names a p en ea h = subst (λ x. Ancestors least s t (field_names t) x p) ea (subst (λ ns. Ancestors least s t ns a p) en h)

pub told_ancestor_refused : (X : Type 0) {Y : Type 0} (least : ℕ) (s u : Standing) (t : StructureTree) (ws : List ConditionOrPropertyTree) (v : Visible) (names : List (List ℕ)) (a : Ancestry) (g : Reading Ancestry) (z : Result Y ItemFault) (f : ItemFault) →
    names ≡ field_names t → a ≡ no_ancestry → OnTaken z (Leads (Ancestors least s t names a) g) → z ≡ Err f → OnTaken {X = X} (Err f) (Leads (TakesAncestors least s t ws v) u)
told_ancestor_refused X least s u t ws v names a g z f en ea h ez =
    on_err (Leads (Ancestors least s t names a) g) (Leads (TakesAncestors least s t ws v) u) z f ez h (λ r k. rule.ancestor_refused r (ancestors_so least s t names a (Refused r) en ea k))

fields_so : (least : ℕ) (s : Standing) (left : Left) (t : StructureTree) (ws : List ConditionOrPropertyTree) (v : Visible) (a : Reading Ancestry) (o : Taken Standing) → TakesFields least (with_left s left) t ws v a o → TakesFields least s t ws v a o
fields_so least s left t ws v a o (rule.field_refused r h) = rule.field_refused r h
fields_so least s left t ws v a o (rule.fields_read os f h) = rule.fields_read os f h

ancestors_on : {X : Type 0} (least : ℕ) (s u : Standing) (t : StructureTree) (ws : List ConditionOrPropertyTree) (v : Visible) (b : Ancestry) (after : Left) (y : Result X ItemFault) → Ancestors least s t (field_names t) no_ancestry (Made [] (reading b after)) →
    OnTaken y (Leads (TakesFields least (with_left s after) t ws v (reading b after)) u) → OnTaken y (Leads (TakesAncestors least s t ws v) u)
ancestors_on least s u t ws v b after (Ok x) h k = rule.ancestors_read [] (reading b after) (Made [] u) h (fields_so least s after t ws v (reading b after) (Made [] u) k)
ancestors_on least s u t ws v b after (Err (fault.Refused r)) h k = rule.ancestors_read [] (reading b after) (Refused r) h (fields_so least s after t ws v (reading b after) (Refused r) k)
ancestors_on least s u t ws v b after (Err fault.Memory) h k = tt

pub told_ancestors : {X Y : Type 0} (least : ℕ) (s s2 u : Standing) (t : StructureTree) (ws : List ConditionOrPropertyTree) (v : Visible) (names : List (List ℕ)) (a b : Ancestry) (after : Left) (z : Result Y ItemFault) (w : Y) (y : Result X ItemFault) →
    names ≡ field_names t → a ≡ no_ancestry → OnTaken z (Leads (Ancestors least s t names a) (reading b after)) → z ≡ Ok w → s2 ≡ with_left s after →
    OnTaken y (Leads (TakesFields least s2 t ws v (reading b s2.left)) u) → OnTaken y (Leads (TakesAncestors least s t ws v) u)
told_ancestors least s s2 u t ws v names a b after z w y en ea h ez es k =
    ancestors_on least s u t ws v b after y (ancestors_so least s t names a (Made [] (reading b after)) en ea (on_ok (Leads (Ancestors least s t names a) (reading b after)) z w ez h))
    (subst (λ (q : Standing). OnTaken y (Leads (TakesFields least q t ws v (reading b q.left)) u)) es k)

-- the whole
pub told_bad_loci : (least : ℕ) (s : Standing) (t : StructureTree) (ws : List ConditionOrPropertyTree) (o : Option Visible) → o ≡ structure_loci least s t → o ≡ None → Structures least s t ws (Refused (BadLoci t.struct_))
told_bad_loci least s t ws o e h = rule.bad_loci (sym e ∙ h)

few_so : (least : ℕ) (s : Standing) (t : StructureTree) (names : List (List ℕ)) (b c : Bool) → names ≡ field_names t → b ≡ (are_few (own_loci least s) && (are_few (ancestor_trees t.ancestors) && are_few names)) → b ≡ c → has_few least s t ≡ c
few_so least s t names b c en eb h = sym (eb ∙ ap (λ ns. are_few (own_loci least s) && (are_few (ancestor_trees t.ancestors) && are_few ns)) en) ∙ h

pub told_too_many : (least : ℕ) (s : Standing) (t : StructureTree) (ws : List ConditionOrPropertyTree) (o : Option Visible) (v : Visible) (names : List (List ℕ)) (b : Bool) → o ≡ structure_loci least s t → o ≡ Some v → names ≡ field_names t →
    b ≡ (are_few (own_loci least s) && (are_few (ancestor_trees t.ancestors) && are_few names)) → b ≡ false → Structures least s t ws (Refused (Proof (Resolve (TooLarge t.struct_))))
told_too_many least s t ws o v names b e ev en eb h = rule.too_many v (sym e ∙ ev) (few_so least s t names b false en eb h)

few_on : {X : Type 0} (least : ℕ) (s u : Standing) (t : StructureTree) (ws : List ConditionOrPropertyTree) (v : Visible) (y : Result X ItemFault) → structure_loci least s t ≡ Some v → has_few least s t ≡ true → OnTaken y (Leads (TakesAncestors least s t ws v) u) → OnTaken y (Leads (Structures least s t ws) u)
few_on least s u t ws v (Ok x) e h k = rule.few v (Made [] u) e h k
few_on least s u t ws v (Err (fault.Refused r)) e h k = rule.few v (Refused r) e h k
few_on least s u t ws v (Err fault.Memory) e h k = tt

pub told_structure : {X : Type 0} (least : ℕ) (s u : Standing) (t : StructureTree) (ws : List ConditionOrPropertyTree) (o : Option Visible) (v : Visible) (names : List (List ℕ)) (b : Bool) (y : Result X ItemFault) → o ≡ structure_loci least s t → o ≡ Some v → names ≡ field_names t →
    b ≡ (are_few (own_loci least s) && (are_few (ancestor_trees t.ancestors) && are_few names)) → b ≡ true → OnTaken y (Leads (TakesAncestors least s t ws v) u) → OnTaken y (Leads (Structures least s t ws) u)
told_structure least s u t ws o v names b y e ev en eb h k = few_on least s u t ws v y (sym e ∙ ev) (few_so least s t names b true en eb h) k

pub ruleset structure_rules = (told_bad_loci, told_too_many)
