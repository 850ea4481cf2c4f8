-- By a structure the clauses only grow, and where an article stands soundly in a block it does behind.
use Rattle.std.proofs.Common.{◌≡◌, ◌≤◌, ◌<◌, ◌+◌, ℕ, suc, Bool, true, false, List, [], ◌∷◌, ◌++◌, length, refl, sym, ap, ◌∙◌, subst, arith, Option, None, Some}
use Rattle.std.specs.Prelude.{◌&&◌, not, if◌then◌else◌, Contains}
use Rattle.std.specs.List.{list_all}
use Rattle.std.proofs.lemmas.Bool.{and_parts, and_from}
use Rattle.mz_logic.specs.Derives.{Derives}
use Rattle.mz_logic.specs.Formula.{Formula}
use Rattle.mz_logic.specs.declared.sequent.Sequent.{Sequent}
use Rattle.mz_core.specs.Closed.{loci_closed}
use Rattle.mz_core.specs.Hidden.{is_of_any_object}
use Rattle.mz_core.specs.declared.item.Item.{Item}
use Rattle.mz_core.specs.declared.item.Item.TheVariants as item
use Rattle.mz_core.specs.declared.outcome.Left.{Left}
use Rattle.mz_core.specs.declared.soft_type.SoftType.{SoftType}
use Rattle.mz_core.specs.declared.structure.Structure.{Structure}
use Rattle.mz_ground.specs.Table.{Extends}
use Rattle.mz_ground.specs.declared.clause.Clause.{Clause}
use Rattle.mz_cited.specs.Cited.{members}
use Rattle.mz_choice.specs.Fresh.{fresh}
use Rattle.mz_context.specs.Context.{next}
use Rattle.mz_context.specs.declared.constants.Constant.{Constant}
use Rattle.mz_context.specs.declared.context.Context.{Context}
use Rattle.mz_items.specs.Closed.{is_locus, differs, are_distinct, structure_closed, item_closed}
use Rattle.mz_items.specs.Items.{owes}
use Rattle.mz_loci.specs.Loci.{loci_from, types_behind, locus_types}
use Rattle.mz_loci_laws.specs.Block.{StandsInBlock}
use Rattle.mz_loci_laws.proofs.BlockProofs as blocks
use Rattle.mz_loci_laws.proofs.BlockProofs.{next-variables, count_there, whole_there, closed_there}
use Rattle.mz_obligations.specs.declared.obligation.Obligation.{Obligation}
use Rattle.mz_patterns.specs.declared.visible.Visible.{Visible}
use Rattle.mz_patterns.proofs.VisibleProofs.{AreGood, visible_good}
use Rattle.mz_standing.specs.Standing.{clauses_of}
use Rattle.mz_standing.specs.declared.standing.Standing.{Standing}
use Rattle.mz_standing_laws.specs.Owed.{IsOwed}
use Rattle.mz_standing_laws.specs.Soundly.{Setting, axioms_at}
use Rattle.mz_standing_laws.specs.Kinds.{HasGrown, GrowsLaw}
use Rattle.mz_taken.specs.OneByOne.{OneLaw}
use Rattle.mz_taken.specs.Taken.{Taken, Made, Refused}
use Rattle.mz_taken.specs.declared.item_fault.ItemRefusal.{ItemRefusal}
use Rattle.mz_term_laws.proofs.UsableProofs.{next_further}
use Rattle.mz_tree_heading.specs.declared.structure.StructureTree.{StructureTree}
use Rattle.mz_tree_item.specs.declared.definition.ConditionOrPropertyTree.{ConditionOrPropertyTree}
use Rattle.mz_field_items.specs.declared.fields.ReadField.{ReadField}
use Rattle.mz_structure_items.specs.Items.{structure_symbols, structure_notations, whole_structure}
use Rattle.mz_structure.specs.Fields.{Reading, reading, no_ancestry, type_at_loci}
use Rattle.mz_structure.specs.Structures as rule
use Rattle.mz_structure.specs.Structures.{identifiers_over, ancestor_trees, field_names, own_loci, structure_loci, outline, context_of_fields, structure_item, grants_keep, first_stray, in_force, unless_stray, structure_taken, TakesFields, TakesAncestors, Structures}
use Rattle.mz_structure.specs.declared.ancestry.Ancestry.{Ancestry}
use Rattle.mz_structure.specs.declared.ancestry.Outline.{Outline}
use Rattle.mz_structure_laws.specs.Headings.{TakesStructure, KeepsInBlock, StructureKeepsLaw}
use Rattle.mz_structure_laws.proofs.ClosedProofs.{is_known_type, is_known_field, notations_closed, structure_so}
use Rattle.mz_structure_laws.proofs.FieldProofs.{IsSoundOutline, structure_apart, whole_with_subject, ancestors_known, fields_known}
use Rattle.mz_structure_laws.proofs.OneProofs as ones

-- the clauses only grow
unless_grows : (s : Standing) (x : Item) (left : Left) (o : Option ItemRefusal) → HasGrown s (unless_stray o (in_force s x left))
unless_grows s x left None = (clauses_of x, refl)
unless_grows s x left (Some r) = tt

taken_grows : (s : Standing) (w : Taken Standing) (r : ItemRefusal) (b : Bool) → HasGrown s w → HasGrown s (if b then w else Refused r)
taken_grows s w r true h = h
taken_grows s w r false h = tt

fields_grow : (least : ℕ) (s : Standing) (t : StructureTree) (ws : List ConditionOrPropertyTree) (v : Visible) (a : Reading Ancestry) (w : Taken Standing) → TakesFields least s t ws v a w → HasGrown s w
fields_grow least s t ws v a w (rule.field_refused r h) = tt
fields_grow least s t ws v a w (rule.fields_read os f h) =
    let x : Item = structure_item least s t v a.got f.got in
    taken_grows s (unless_stray (first_stray ws) (in_force s x f.left)) _ (grants_keep x) (unless_grows s x f.left (first_stray ws))

ancestors_grow : (least : ℕ) (s : Standing) (t : StructureTree) (ws : List ConditionOrPropertyTree) (v : Visible) (w : Taken Standing) → TakesAncestors least s t ws v w → HasGrown s w
ancestors_grow least s t ws v w (rule.ancestor_refused r h) = tt
ancestors_grow least s t ws v w (rule.ancestors_read os a o h k) = fields_grow least s t ws v a o k

grown : (least : ℕ) (s : Standing) (t : StructureTree) (ws : List ConditionOrPropertyTree) (w : Taken Standing) → Structures least s t ws w → HasGrown s w
grown least s t ws w (rule.bad_loci h) = tt
grown least s t ws w (rule.too_many v h k) = tt
grown least s t ws w (rule.few v o h k l) = ancestors_grow least s t ws v o l

pub structures_grow : (least : ℕ) → GrowsLaw (TakesStructure least)
structures_grow least s x w h = grown least s x.0 x.1 w h

-- the item is owed
types-length : (least j : ℕ) (ks : List (Option Constant)) → length (types_behind least j ks) ≡ length ks
types-length least j [] = refl
types-length least j (k ∷ ks) = ap suc (types-length least (suc j) ks)

none_there : (ax : List Formula) (qs : List Sequent) → qs ≡ [] → (q : Sequent) → Contains qs q → Derives ax q.premises q.conclusion
none_there ax [] e q is = let lt : is.0 < 0 = is.1 in absurd (omega arith)
none_there ax (p ∷ ps) e q is = let wrong : ⊥ = cc in absurd wrong

owes_nothing : (x : Structure) → owes (item.Structure x) ≡ []
unfolding owes
owes_nothing x = refl

last_there : (g : Setting) (least : ℕ) (s : Standing) (b : StandsInBlock g least s) → next s.context ≡ least + length (locus_types least (own_loci least s))
last_there g least s b =
    let a : next s.context ≡ next b.outside + length b.loci = ap next b.here ∙ next-variables b.outside b.loci in
    let e : next b.outside ≡ least = b.first in
    let n : length (own_loci least s) ≡ length b.loci = count_there g least s b in
    let m : length (locus_types least (own_loci least s)) ≡ length (own_loci least s) = types-length least 0 (own_loci least s) in
    omega (arith, a, e, n, m)

all_right : {X : Type 0} (p : X → Bool) (xs ys : List X) → list_all p (xs ++ ys) ≡ true → list_all p ys ≡ true
all_right p [] ys h = h
all_right p (x ∷ xs) ys h = all_right p xs ys (and_parts (p x) (list_all p (xs ++ ys)) h).1

distinct_right : (xs ys : List ℕ) → are_distinct (xs ++ ys) ≡ true → are_distinct ys ≡ true
distinct_right [] ys h = h
distinct_right (x ∷ xs) ys h = distinct_right xs ys (and_parts (list_all (differs x) (xs ++ ys)) (are_distinct (xs ++ ys)) h).1

item_so : (g : Setting) (least : ℕ) (s : Standing) (t : StructureTree) (v : Visible) (a : Ancestry) (fs : List ReadField) (ax : List Formula) → StandsInBlock g least s → structure_loci least s t ≡ Some v →
    list_all (is_known_type least (least + length (locus_types least (own_loci least s)))) a.types ≡ true → list_all (is_known_field least (least + length (locus_types least (own_loci least s)) + 1)) fs ≡ true → IsOwed ax (structure_item least s t v a fs)
item_so g least s t v a fs ax b e known fields =
    let ks : List (Option Constant) = own_loci least s in
    let loci : List SoftType = locus_types least ks in
    let closed : loci_closed loci ≡ true = blocks.types_law g least s b in
    let good : AreGood (length ks) v = visible_good least ks [] (identifiers_over t.loci) v e in
    let long : length ks ≡ length loci = sym (types-length least 0 ks) in
    let x : Structure = whole_structure least t.symbol.spelling loci (structure_symbols s.context) v.right a.types fs in
    let within : list_all (is_locus (length loci)) v.right ≡ true = all_right (is_locus (length loci)) v.left v.right (subst (λ n. list_all (is_locus n) (v.left ++ v.right) ≡ true) long good.loci) in
    record {
      closed =
          and_from (not (is_of_any_object x.sym)) (structure_closed x) (structure_apart s.context.article (s.context.counts.structures + 1))
          (structure_so least loci (structure_symbols s.context) a.types fs (structure_notations least t.symbol.spelling loci (structure_symbols s.context) v.right fs) closed known fields
          (notations_closed least t.symbol.spelling loci (structure_symbols s.context) v.right fs closed within (distinct_right v.left v.right good.distinct)));
      own = refl;
      owed = none_there ax (owes (item.Structure x)) (owes_nothing x);
    }

-- within the block
unless_keeps : (g : Setting) (least : ℕ) (s : Standing) (x : Item) (left : Left) (o : Option ItemRefusal) → StandsInBlock g least s → IsOwed (axioms_at g s) x → KeepsInBlock g least (unless_stray o (in_force s x left))
unless_keeps g least s x left None b owed = λ final more decided. blocks.heading_law g least s x [] left b owed
unless_keeps g least s x left (Some r) b owed = tt

taken_keeps : (g : Setting) (least : ℕ) (w : Taken Standing) (r : ItemRefusal) (c : Bool) → KeepsInBlock g least w → KeepsInBlock g least (if c then w else Refused r)
taken_keeps g least w r true h = h
taken_keeps g least w r false h = tt

fields_keep : (g : Setting) (least : ℕ) (s : Standing) (t : StructureTree) (ws : List ConditionOrPropertyTree) (v : Visible) (a : Reading Ancestry) (w : Taken Standing) → StandsInBlock g least s → structure_loci least s t ≡ Some v →
    list_all (is_known_type least (least + length (locus_types least (own_loci least s)))) a.got.types ≡ true → TakesFields least s t ws v a w → KeepsInBlock g least w
fields_keep g least s t ws v a w b e known (rule.field_refused r h) = tt
fields_keep g least s t ws v a w b e known (rule.fields_read os f h) =
    let x : Item = structure_item least s t v a.got f.got in
    let o : Outline = outline least s a.got in
    let last : next s.context ≡ least + length (locus_types least (own_loci least s)) = last_there g least s b in
    let count : length (locus_types least (own_loci least s)) ≡ length (own_loci least s) = types-length least 0 (own_loci least s) in
    let there : next s.context ≡ least + length (own_loci least s) = omega (arith, last, count) in
    let further : next (context_of_fields least s) ≡ suc (next s.context) = next_further s.context (fresh (type_at_loci least (length (own_loci least s)) (structure_symbols s.context).sym)) in
    let sound : IsSoundOutline s.environment (context_of_fields least s) o s.context.article (s.context.counts.structures + 1) = record {
      closed = closed_there g least s b;
      whole = whole_with_subject least (length (own_loci least s)) s.context (structure_symbols s.context).sym there (whole_there g least s b);
      last = omega (arith, further, last);
      symbol = refl;
      loci = blocks.types_law g least s b;
      ancestors = known;
    } in
    let fields : list_all (is_known_field least (least + length (locus_types least (own_loci least s)) + 1)) f.got ≡ true =
    fields_known s.environment s.numbering (context_of_fields least s) o s.context.article (s.context.counts.structures + 1) sound (reading [] a.left) (members t.fields) (Made os f) refl h in
    taken_keeps g least (unless_stray (first_stray ws) (in_force s x f.left)) _ (grants_keep x)
    (unless_keeps g least s x f.left (first_stray ws) b (item_so g least s t v a.got f.got (axioms_at g s) b e known fields))

ancestors_keep : (g : Setting) (least : ℕ) (s : Standing) (t : StructureTree) (ws : List ConditionOrPropertyTree) (v : Visible) (w : Taken Standing) → StandsInBlock g least s → structure_loci least s t ≡ Some v → TakesAncestors least s t ws v w → KeepsInBlock g least w
ancestors_keep g least s t ws v w b e (rule.ancestor_refused r h) = tt
ancestors_keep g least s t ws v w b e (rule.ancestors_read os a o h k) =
    let known : list_all (is_known_type least (least + length (locus_types least (own_loci least s)))) a.got.types ≡ true =
    ancestors_known s.environment s.context least (least + length (locus_types least (own_loci least s))) (field_names t) (closed_there g least s b) (whole_there g least s b) (last_there g least s b) (reading no_ancestry s.left) (ancestor_trees t.ancestors) (Made os a) refl h in
    fields_keep g least s t ws v a o b e known k

kept : (g : Setting) (least : ℕ) (s : Standing) (t : StructureTree) (ws : List ConditionOrPropertyTree) (w : Taken Standing) → StandsInBlock g least s → Structures least s t ws w → KeepsInBlock g least w
kept g least s t ws w b (rule.bad_loci h) = tt
kept g least s t ws w b (rule.too_many v h k) = tt
kept g least s t ws w b (rule.few v o h k l) = ancestors_keep g least s t ws v o b h l

pub structures_keep : StructureKeepsLaw
structures_keep g least s h w b k = kept g least s h.0 h.1 w b k

pub one_structure : (least : ℕ) → OneLaw (TakesStructure least)
one_structure = ones.one_structure
