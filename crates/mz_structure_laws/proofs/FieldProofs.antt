-- The ancestors and fields of a structure, as they are read in a block, have no constants but its loci and its object.
use Rattle.std.proofs.Common.{◌≡◌, ◌≤◌, ◌<◌, ◌+◌, ℕ, zero, suc, Bool, true, false, List, [], ◌∷◌, ◌++◌, map, length, refl, sym, ap, ◌∙◌, subst, arith, Option, None, Some}
use Rattle.std.specs.Prelude.{◌&&◌, ◌||◌, nat_le, nat_lt, nat_eq, not, Ok}
use Rattle.std.specs.List.{list_all}
use Rattle.std.proofs.lemmas.Bool.{and_from, le-leb, lt-ltb}
use Rattle.mz_logic.specs.Sym.{same_sym}
use Rattle.mz_logic.specs.Term.{Term, Const}
use Rattle.mz_logic.specs.declared.kind.Kind.TheVariants as kind
use Rattle.mz_logic.specs.declared.sym.Sym.{Sym}
use Rattle.mz_core.specs.Closed.{loci_closed}
use Rattle.mz_core.specs.Hidden.{object_mode, set_mode, is_of_any_object}
use Rattle.mz_core.specs.declared.item.Item.TheVariants as item
use Rattle.mz_core.specs.declared.outcome.Left.{Left}
use Rattle.mz_core.specs.declared.soft_type.SoftType.{SoftType}
use Rattle.mz_core.specs.declared.structure.Structure.{Structure}
use Rattle.mz_core.proofs.AllLemmas.{all-append, all-alone}
use Rattle.mz_cited.specs.Cited.{members}
use Rattle.mz_context.specs.Context.{next}
use Rattle.mz_context.specs.declared.constants.Constant.{Constant}
use Rattle.mz_context.specs.declared.context.Context.{Context}
use Rattle.mz_choice.specs.Fresh.{fresh, with_fresh}
use Rattle.mz_choice_laws.specs.Known.{term_known, type_known}
use Rattle.mz_choice_laws.proofs.KnownValues.{type_known-where}
use Rattle.mz_closed_laws.specs.ClosedEnvironment.{IsClosedEnvironment}
use Rattle.mz_closed_laws.proofs.EnvironmentProofs.{given_law, joined_law}
use Rattle.mz_environment.specs.Environment.{of_item}
use Rattle.mz_environment.specs.declared.environment.Environment.{Environment}
use Rattle.mz_environment.specs.declared.numbering.Numbering.{Numbering}
use Rattle.mz_items.specs.Closed.{structure_closed, item_closed}
use Rattle.mz_loci_laws.proofs.OverProofs.{between}
use Rattle.mz_obligations.specs.declared.obligation.Obligation.{Obligation}
use Rattle.mz_reading_laws.proofs.CallProofs.{type_call_law}
use Rattle.mz_resolve.specs.Calls.{TypeRead}
use Rattle.mz_taken.specs.OneByOne.{OneByOne, none_left, one_refused, one_taken}
use Rattle.mz_taken.specs.Taken.{Taken, Made, Refused, behind}
use Rattle.mz_term_laws.specs.Usable.{is_usable, term_usable, type_usable}
use Rattle.mz_term_laws.specs.Whole.{IsWhole, IsUsableConstant}
use Rattle.mz_term_laws.proofs.ChangeProofs.{constant_law}
use Rattle.mz_term_laws.proofs.UsableProofs.{next_further}
use Rattle.mz_tree.specs.Trees.{TypeData}
use Rattle.mz_tree_heading.specs.declared.structure.FieldTree.{FieldTree}
use Rattle.mz_tree_heading.specs.declared.structure.SelectorTree.{SelectorTree}
use Rattle.mz_field_items.specs.declared.fields.ReadField.{ReadField}
use Rattle.mz_structure_items.specs.Items.{selector_notations, half_structure}
use Rattle.mz_structure_items.specs.Selectors.{selectors_of_type}
use Rattle.mz_structure_items.specs.declared.selectors.NamedSelector.{NamedSelector}
use Rattle.mz_structure.specs.Fields as rule
use Rattle.mz_structure.specs.Fields.{Reading, reading, with_ancestor, ReadsAncestor, field, with_group, loci_in_order, type_at_loci, with_subject, environment_with, ReadsGroup}
use Rattle.mz_structure.specs.declared.ancestry.Ancestry.{Ancestry}
use Rattle.mz_structure.specs.declared.ancestry.Outline.{Outline}
use Rattle.mz_structure_laws.proofs.ClosedProofs.{is_known_type, is_known_field, selectors_closed, structure_so}

-- no structure is `object` or `set`
apart : (a b : Bool) → ((a && false) && b) ≡ false
apart true b = refl
apart false b = refl

pub structure_apart : (article number : ℕ) → not (is_of_any_object (record { article = article; kind = kind.Structure; number = number })) ≡ true
structure_apart article number =
    let s : Sym = record { article = article; kind = kind.Structure; number = number } in
    let a : same_sym s object_mode ≡ false = apart (nat_eq article object_mode.article) (nat_eq number object_mode.number) in
    let b : same_sym s set_mode ≡ false = apart (nat_eq article set_mode.article) (nat_eq number set_mode.number) in
    ap (λ x. not (x || same_sym s set_mode)) a ∙ ap not b

-- in the context of the fields
in_order_known : (least count k : ℕ) (c : Context) → next c ≡ least + count → k ≤ count → list_all (term_known (is_usable least c) 0) (loci_in_order least k) ≡ true
in_order_known least count zero c e le = refl
in_order_known least count (suc k) c e le =
    let within : least + k < next c = omega (arith, e, le) in
    all-append (term_known (is_usable least c) 0) (loci_in_order least k) (Const (least + k) ∷ []) (in_order_known least count k c e (omega (arith, le)))
    (all-alone (term_known (is_usable least c) 0) (Const (least + k)) (and_from (nat_le least (least + k)) (nat_lt (least + k) (next c)) (le-leb least (least + k) (omega arith)) (lt-ltb (least + k) (next c) within)))

type_usable_there : (least count : ℕ) (c : Context) (s : Sym) → next c ≡ least + count → type_usable least c (type_at_loci least count s) ≡ true
type_usable_there least count c s e = let le : count ≤ count = omega arith in and_from true (list_all (term_known (is_usable least c) 0) (loci_in_order least count)) refl (in_order_known least count count c e le)

abbrev a_term : Term → Option Term
a_term t = Some t

no_equal : (t : Term) → None ≡ a_term t → ⊥
no_equal t e = cc

some-inj : (t u : Term) → a_term t ≡ a_term u → t ≡ u
some-inj t u e = cc

pub whole_with_subject : (least count : ℕ) (c : Context) (s : Sym) → next c ≡ least + count → IsWhole least c → IsWhole least (with_subject c (type_at_loci least count s))
whole_with_subject least count c s e w =
    let ty : SoftType = type_at_loci least count s in
    let usable : IsUsableConstant least c (fresh ty) = (type_usable_there least count c s e, λ t h. absurd (no_equal t h)) in
    let v : IsWhole least (with_fresh c ty) = constant_law least c (fresh ty) w usable in
    let n : next (with_fresh c ty) ≡ suc (next c) = next_further c (fresh ty) in
    let here : term_usable least (with_fresh c ty) (Const (next c)) ≡ true =
    and_from (nat_le least (next c)) (nat_lt (next c) (next (with_fresh c ty))) (le-leb least (next c) (omega (arith, e))) (lt-ltb (next c) (next (with_fresh c ty)) (omega (arith, n))) in
    record {
      constants = v.constants;
      reserved = v.reserved;
      labelled = v.labelled;
      previous = v.previous;
      functors = v.functors;
      predicates = v.predicates;
      letters = v.letters;
      thesis = v.thesis;
      it_is = v.it_is;
      arguments = v.arguments;
      subject = λ t h. subst (λ u. term_usable least (with_fresh c ty) u ≡ true) (some-inj (Const (next c)) t h) here;
    }

usable_so : (least hi : ℕ) (c : Context) (ty : SoftType) → next c ≡ hi → type_usable least c ty ≡ true → type_known (between least hi) 0 ty ≡ true
usable_so least hi c ty e h = type_known-where (is_usable least c) (between least hi) (λ n k. subst (λ m. (nat_le least n && nat_lt n m) ≡ true) e k) 0 ty h

-- the ancestors
abbrev AncestorsKnown : ℕ → ℕ → Taken (Reading Ancestry) → Type 0
AncestorsKnown least hi (Made os a) = list_all (is_known_type least hi) a.got.types ≡ true
AncestorsKnown least hi (Refused r) = Unit {0}

one_ancestor_known : (e : Environment) (c : Context) (least hi : ℕ) (names : List (List ℕ)) → IsClosedEnvironment e → IsWhole least c → next c ≡ hi → (a : Reading Ancestry) (t : TypeData) (o : Taken (Reading Ancestry)) →
    list_all (is_known_type least hi) a.got.types ≡ true → ReadsAncestor e c least names a t o → AncestorsKnown least hi o
one_ancestor_known e c least hi names closed whole n a t o h (rule.not_read r after k) = tt
one_ancestor_known e c least hi names closed whole n a t o h (rule.unfit ty after first k p q) = tt
one_ancestor_known e c least hi names closed whole n a t o h (rule.fit ty after k q) =
    let le : least ≤ least = omega arith in
    all-append (is_known_type least hi) a.got.types (ty ∷ []) h
    (all-alone (is_known_type least hi) ty (usable_so least hi c ty n (type_call_law e c least least closed whole le a.left after t ty k)))

behind_known : (least hi : ℕ) (os : List Obligation) (o : Taken (Reading Ancestry)) → AncestorsKnown least hi o → AncestorsKnown least hi (behind os o)
behind_known least hi os (Made ps a) h = h
behind_known least hi os (Refused r) h = tt

pub ancestors_known : (e : Environment) (c : Context) (least hi : ℕ) (names : List (List ℕ)) → IsClosedEnvironment e → IsWhole least c → next c ≡ hi → (a : Reading Ancestry) (ts : List TypeData) (o : Taken (Reading Ancestry)) →
    list_all (is_known_type least hi) a.got.types ≡ true → OneByOne (ReadsAncestor e c least names) a ts o → AncestorsKnown least hi o
ancestors_known e c least hi names closed whole n a ts o h (none_left b) = h
ancestors_known e c least hi names closed whole n a ts o h (one_refused b t us r k) = tt
ancestors_known e c least hi names closed whole n a ts o h (one_taken b d t us os p k l) =
    behind_known least hi os p (ancestors_known e c least hi names closed whole n d us p (one_ancestor_known e c least hi names closed whole n b t (Made os d) h k) l)

-- the fields
group_known : (lo hi : ℕ) (d : Context) (inherited : List NamedSelector) (ty : SoftType) (fs : List ReadField) (ts : List SelectorTree) → list_all (is_known_field lo hi) fs ≡ true → type_known (between lo hi) 0 ty ≡ true →
    list_all (is_known_field lo hi) (with_group d inherited ty fs ts) ≡ true
group_known lo hi d inherited ty fs [] h k = h
group_known lo hi d inherited ty fs (t ∷ ts) h k =
    group_known lo hi d inherited ty (fs ++ field d inherited fs ty t ∷ []) ts (all-append (is_known_field lo hi) fs (field d inherited fs ty t ∷ []) h (all-alone (is_known_field lo hi) (field d inherited fs ty t) k)) k

-- what a further field may use is closed
pub half_closed : (article number : ℕ) (o : Outline) (fs : List ReadField) → o.symbols.sym ≡ record { article = article; kind = kind.Structure; number = number } → loci_closed o.loci ≡ true →
    list_all (is_known_type o.least (o.least + length o.loci)) o.ancestry.types ≡ true → list_all (is_known_field o.least (o.least + length o.loci + 1)) fs ≡ true →
    item_closed (item.Structure (half_structure o.least o.loci o.symbols o.ancestry.types fs)) ≡ true
half_closed article number o fs e h a f =
    let x : Structure = half_structure o.least o.loci o.symbols o.ancestry.types fs in
    and_from (not (is_of_any_object x.sym)) (structure_closed x) (subst (λ s. not (is_of_any_object s) ≡ true) (sym e) (structure_apart article number))
    (structure_so o.least o.loci o.symbols o.ancestry.types fs (selector_notations o.loci o.symbols.sym fs) h a f (selectors_closed o.loci o.symbols.sym fs h))

-- an outline that was read soundly, and the context of its fields
pub record IsSoundOutline (e : Environment) (d : Context) (o : Outline) (article number : ℕ) : Type 0 where
  pub closed : IsClosedEnvironment e
  pub whole : IsWhole o.least d
  pub last : next d ≡ o.least + length o.loci + 1
  pub symbol : o.symbols.sym ≡ record { article = article; kind = kind.Structure; number = number }
  pub loci : loci_closed o.loci ≡ true
  pub ancestors : list_all (is_known_type o.least (o.least + length o.loci)) o.ancestry.types ≡ true

abbrev FieldsKnown : Outline → Taken (Reading (List ReadField)) → Type 0
FieldsKnown o (Made os f) = list_all (is_known_field o.least (o.least + length o.loci + 1)) f.got ≡ true
FieldsKnown o (Refused r) = Unit {0}

one_group_known : (e : Environment) (n : Numbering) (d : Context) (o : Outline) (article number : ℕ) → IsSoundOutline e d o article number → (r : Reading (List ReadField)) (t : FieldTree) (w : Taken (Reading (List ReadField))) →
    list_all (is_known_field o.least (o.least + length o.loci + 1)) r.got ≡ true → ReadsGroup e n d o r t w → FieldsKnown o w
one_group_known e n d o article number i r t w h (rule.repeated p k) = tt
one_group_known e n d o article number i r t w h (rule.not_read q after k l) = tt
one_group_known e n d o article number i r t w h (rule.group_read ty after k l) =
    let closed : IsClosedEnvironment (environment_with e n o r.got) =
    joined_law e (of_item n (item.Structure (half_structure o.least o.loci o.symbols o.ancestry.types r.got))) i.closed (given_law n (item.Structure (half_structure o.least o.loci o.symbols o.ancestry.types r.got)) (half_closed article number o r.got i.symbol i.loci i.ancestors h)) in
    let le : o.least ≤ o.least = omega arith in
    let known : type_known (between o.least (o.least + length o.loci + 1)) 0 ty ≡ true =
    usable_so o.least (o.least + length o.loci + 1) d ty i.last (type_call_law (environment_with e n o r.got) d o.least o.least closed i.whole le r.left after t.ty ty l) in
    group_known o.least (o.least + length o.loci + 1) d o.ancestry.inherited ty r.got (members t.selectors) h known

fields_behind : (o : Outline) (os : List Obligation) (w : Taken (Reading (List ReadField))) → FieldsKnown o w → FieldsKnown o (behind os w)
fields_behind o os (Made ps f) h = h
fields_behind o os (Refused r) h = tt

pub fields_known : (e : Environment) (n : Numbering) (d : Context) (o : Outline) (article number : ℕ) → IsSoundOutline e d o article number → (r : Reading (List ReadField)) (ts : List FieldTree) (w : Taken (Reading (List ReadField))) →
    list_all (is_known_field o.least (o.least + length o.loci + 1)) r.got ≡ true → OneByOne (ReadsGroup e n d o) r ts w → FieldsKnown o w
fields_known e n d o article number i r ts w h (none_left q) = h
fields_known e n d o article number i r ts w h (one_refused q t us x k) = tt
fields_known e n d o article number i r ts w h (one_taken q p t us os v k l) =
    fields_behind o os v (fields_known e n d o article number i p us v (one_group_known e n d o article number i q t (Made os p) h k) l)
