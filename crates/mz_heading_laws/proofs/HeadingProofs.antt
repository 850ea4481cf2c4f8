-- Behind the heading of a definition an article stands soundly but for the loci of the block.
use Rattle.std.proofs.Common.{◌≡◌, ◌+◌, ℕ, suc, true, false, List, [], ◌∷◌, ◌++◌, length, refl, sym, ap, ◌∙◌, subst, Option, Some}
use Rattle.std.specs.Prelude.{◌&&◌, not, Result, Ok}
use Rattle.std.specs.List.{list_all}
use Rattle.std.proofs.lemmas.Bool.{and_from, eq-eqb}
use Rattle.mz_base.specs.declared.place.Place.{Place}
use Rattle.mz_logic.specs.declared.kind.Kind.{Kind}
use Rattle.mz_logic.specs.declared.kind.Kind.TheVariants as kind
use Rattle.mz_core.specs.Closed.{loci_closed, type_under}
use Rattle.mz_core.specs.Hidden.{is_of_any_object}
use Rattle.mz_core.specs.declared.definition.AtomDefinition.{AtomDefinition}
use Rattle.mz_core.specs.declared.definition.AttributeDefinition.{AttributeDefinition}
use Rattle.mz_core.specs.declared.definition.EqualsDefinition.{EqualsDefinition}
use Rattle.mz_core.specs.declared.definition.MeansDefinition.{MeansDefinition}
use Rattle.mz_core.specs.declared.formula_definiens.FormulaDefiniens.{FormulaDefiniens}
use Rattle.mz_core.specs.declared.item.Item.{Item}
use Rattle.mz_core.specs.declared.notation.Meaning.TheVariants.{OfType}
use Rattle.mz_core.specs.declared.outcome.Left.{Left}
use Rattle.mz_core.specs.declared.pattern.Pattern.{Pattern}
use Rattle.mz_core.specs.declared.soft_type.SoftType.{SoftType}
use Rattle.mz_context.specs.declared.constants.Constant.{Constant}
use Rattle.mz_items.specs.Closed.{is_locus, are_distinct, is_single, is_only, right_fits, pattern_closed}
use Rattle.mz_loci.specs.Loci.{loci_from, type_over_loci, types_behind, locus_types}
use Rattle.mz_loci_laws.specs.Block.{StandsInBlock}
use Rattle.mz_loci_laws.proofs.BlockProofs.{types_law}
use Rattle.mz_meanings.specs.declared.read_meaning.ReadMeans.{ReadMeans}
use Rattle.mz_meanings.specs.declared.read_meaning.ReadEquals.{ReadEquals}
use Rattle.mz_names.specs.declared.refusal.Refusal.{Refusal}
use Rattle.mz_patterns.specs.Patterns.{identifier, identifiers_in, identifiers_beside, visible_loci}
use Rattle.mz_patterns.specs.Functors.{functor_left, functor_right, functor_symbol, functor_closing, mode_right, closed_pattern}
use Rattle.mz_patterns.specs.declared.visible.Visible.{Visible}
use Rattle.mz_patterns.proofs.VisibleProofs.{AreGood, visible_good, one_behind}
use Rattle.mz_resolve.specs.Calls.{TypeRead}
use Rattle.mz_standing.specs.Standing.{with_left}
use Rattle.mz_standing.specs.declared.standing.Standing.{Standing}
use Rattle.mz_standing_laws.specs.Soundly.{Setting}
use Rattle.mz_standing_laws.specs.Kinds.{HasGrown}
use Rattle.mz_taken.specs.Taken.{Taken}
use Rattle.mz_tree.specs.Trees.{TermData, FormulaData}
use Rattle.mz_tree_heading.specs.declared.heading.AbbreviationTree.{AbbreviationTree}
use Rattle.mz_tree_heading.specs.declared.heading.AttributeHeadingTree.{AttributeHeadingTree}
use Rattle.mz_tree_heading.specs.declared.heading.FunctorHeadingTree.{FunctorHeadingTree}
use Rattle.mz_tree_heading.specs.declared.heading.ModeHeadingTree.{ModeHeadingTree}
use Rattle.mz_tree_heading.specs.declared.heading.PredicateHeadingTree.{PredicateHeadingTree}
use Rattle.mz_tree_heading.specs.declared.meaning.CasesTree.{CasesTree}
use Rattle.mz_tree_heading.specs.declared.meaning.MeaningTree.{MeaningTree}
use Rattle.mz_tree_heading.specs.declared.patterns.IdentifierTree.{IdentifierTree}
use Rattle.mz_tree_item.specs.declared.definition.ConditionOrPropertyTree.{ConditionOrPropertyTree}
use Rattle.mz_defined.specs.Atoms.{AtomRead, atom_definiens, pattern_in, next_predicate, predicate_of, predicate_loci, predicate_heading, DefinesPredicate, next_attribute, first_place_of, attribute_of, attribute_loci, attribute_heading, DefinesAttribute}
use Rattle.mz_defined.specs.Definientia.{formulas_over, terms_over}
use Rattle.mz_defined.specs.Functors as fu
use Rattle.mz_defined.specs.Functors.{MeansReadAt, EqualsReadAt, next_functor, functor_pattern, means_functor, equals_functor, functor_visible, means_functor_heading, equals_functor_heading, DefinesFunctorBy, DefinesFunctor, next_mode, mode_pattern, means_mode, mode_visible, mode_heading, DefinesMode, abbreviation_of, DefinesAbbreviation}
use Rattle.mz_defined.specs.Headed as hd
use Rattle.mz_defined.specs.Headed.{DefiningHeading, DefinesBy, DefinesByFormulas}
use Rattle.mz_defined.specs.Owing.{loci_count}
use Rattle.mz_heading_laws.specs.Laws.{KeepsInBlock, HeadingGrowsLaw, HeadingKeepsLaw}
use Rattle.mz_heading_laws.proofs.ReadProofs.{AreUnder, AreUnderLoci, means_under, equals_under, atom_under, type_read_under}
use Rattle.mz_heading_laws.proofs.ClosedProofs.{IsClosedOwed, predicate_closed, attribute_closed, functor_means_closed, functor_equals_closed, mode_means_closed, abbreviation_closed}
use Rattle.mz_heading_laws.proofs.OwingProofs.{left_there, written_keeps, written_grows, owing_keeps, owing_grows}

-- the clauses only grow

pub by_grows : {X : Type 0} (least : ℕ) (s : Standing) (h : DefiningHeading X) (reads : Result X Refusal → Left → Type 0) (ws : List ConditionOrPropertyTree) (behind : Place) (w : Taken Standing) → DefinesBy least s h reads ws behind w → HasGrown s w
by_grows least s h reads ws behind w (hd.bad_loci bad) = tt
by_grows least s h reads ws behind w (hd.not_read v r after vis read) = tt
by_grows least s h reads ws behind _ (hd.is_read v x after o vis read takes) = owing_grows least (with_left s after) h.first h.label (h.item v x) ws behind o takes

formulas_grow : {X : Type 0} (least : ℕ) (s : Standing) (h : DefiningHeading X) (reads : CasesTree FormulaData → Result X Refusal → Left → Type 0) (ws : List ConditionOrPropertyTree) (behind : Place) (m : MeaningTree) (w : Taken Standing) → DefinesByFormulas least s h reads ws behind m w → HasGrown s w
formulas_grow least s h reads ws behind _ _ (hd.by_formulas means label f o k) = by_grows least s h (reads f) ws behind o k
formulas_grow least s h reads ws behind _ _ (hd.no_formulas equals label u) = tt

pub predicate_grows : HeadingGrowsLaw DefinesPredicate
predicate_grows least s t ws behind w h = formulas_grow least s (predicate_heading least s.context t) (AtomRead least s) ws behind t.meaning w h

pub attribute_grows : HeadingGrowsLaw DefinesAttribute
attribute_grows least s t ws behind w h = formulas_grow least s (attribute_heading least s.context t) (AtomRead least s) ws behind t.meaning w h

functor_by_grows : (least : ℕ) (s : Standing) (t : FunctorHeadingTree MeaningTree) (ws : List ConditionOrPropertyTree) (behind : Place) (m : MeaningTree) (w : Taken Standing) → DefinesFunctorBy least s t ws behind m w → HasGrown s w
functor_by_grows least s t ws behind _ _ (fu.by_means means label f o k) = by_grows least s (means_functor_heading least s.context t) (MeansReadAt least s t.result f) ws behind o k
functor_by_grows least s t ws behind _ _ (fu.by_equals equals label u o k) = by_grows least s (equals_functor_heading least s.context t) (EqualsReadAt least s t.result u) ws behind o k

pub functor_grows : HeadingGrowsLaw DefinesFunctor
functor_grows least s t ws behind w h = functor_by_grows least s t ws behind t.meaning w h

pub mode_grows : HeadingGrowsLaw DefinesMode
mode_grows least s t ws behind w (fu.hidden_mode is) = tt
mode_grows least s t ws behind _ (fu.other_mode o is h) = formulas_grow least s (mode_heading least s.context t) (MeansReadAt least s t.result) ws behind t.meaning o h

-- patterns under the block's loci

pub length-types : (least before : ℕ) (ks : List (Option Constant)) → length (types_behind least before ks) ≡ length ks
length-types least before [] = refl
length-types least before (k ∷ ks) = ap suc (length-types least (suc before) ks)

pub pattern_so : (g : Setting) (least : ℕ) (s : Standing) (k : Kind) (symbol closing : List ℕ) (left right : List IdentifierTree) (v : Visible) → StandsInBlock g least s → visible_loci least (loci_from least s.context.constants) left right ≡ Some v → right_fits k v.right ≡ true →
    pattern_closed (closed_pattern k symbol closing (locus_types least (loci_from least s.context.constants)) v) ≡ true
pattern_so g least s k symbol closing left right v b e fits =
    let ks : List (Option Constant) = loci_from least s.context.constants in
    let good : AreGood (length ks) v = visible_good least ks left right v e in
    let p : Pattern = closed_pattern k symbol closing (locus_types least ks) v in
    and_from (loci_closed p.loci && list_all (is_locus (length p.loci)) (p.left ++ p.right) && are_distinct (p.left ++ p.right)) (right_fits k v.right)
    (and_from (loci_closed p.loci && list_all (is_locus (length p.loci)) (p.left ++ p.right)) (are_distinct (p.left ++ p.right))
    (and_from (loci_closed p.loci) (list_all (is_locus (length p.loci)) (p.left ++ p.right)) (types_law g least s b)
    (subst (λ n. list_all (is_locus n) (v.left ++ v.right) ≡ true) (sym (length-types least 0 ks)) good.loci)) good.distinct) fits

-- what the headings make, closed

abbrev pub IsClosedItem : ℕ → Standing → Item → Type 0
IsClosedItem least s x = IsClosedOwed (loci_count least s.context) (locus_types least (loci_from least s.context.constants)) x

predicate_so : (g : Setting) (least : ℕ) (s : Standing) (t : PredicateHeadingTree MeaningTree) (f : CasesTree FormulaData) (v : Visible) (x : FormulaDefiniens) (after : Left) → StandsInBlock g least s → predicate_loci least s.context t.pattern ≡ Some v → AtomRead least s f (Ok x) after →
    IsClosedItem least s (predicate_of least s.context t.pattern v x)
predicate_so g least s t f v x after b vis read =
    let d : AtomDefinition = record { pattern = pattern_in least s.context kind.Predicate t.pattern.symbol.spelling v; sym = next_predicate s.context; definiens = atom_definiens least s.context x } in
    predicate_closed (loci_count least s.context) d refl (length-types least 0 (loci_from least s.context.constants))
    (pattern_so g least s kind.Predicate t.pattern.symbol.spelling [] (identifiers_in t.pattern.left) (identifiers_in t.pattern.right) v b vis refl) (atom_under g least s f x after b read)

single : (ns : List ℕ) (n : ℕ) → ns ≡ n ∷ [] → is_single ns ≡ true
single ns n e = ap is_single e

only : (ns : List ℕ) (n : ℕ) → ns ≡ n ∷ [] → is_only (first_place_of ns) ns ≡ true
only ns n e = ap (λ ms. is_only (first_place_of ms) ms) e ∙ eq-eqb n n refl

attribute_so : (g : Setting) (least : ℕ) (s : Standing) (t : AttributeHeadingTree MeaningTree) (f : CasesTree FormulaData) (v : Visible) (x : FormulaDefiniens) (after : Left) → StandsInBlock g least s → attribute_loci least s.context t.pattern ≡ Some v → AtomRead least s f (Ok x) after →
    IsClosedItem least s (attribute_of least s.context t.pattern v x)
attribute_so g least s t f v x after b vis read =
    let alone : (n : ℕ) × (v.right ≡ n ∷ []) = one_behind least (loci_from least s.context.constants) (identifiers_beside t.pattern.loci) (identifier t.pattern.subject) v vis in
    let d : AttributeDefinition = record {
      pattern = pattern_in least s.context kind.Attribute t.pattern.symbol.spelling v;
      subject = first_place_of v.right;
      sym = next_attribute s.context;
      definiens = atom_definiens least s.context x;
    } in
    attribute_closed (loci_count least s.context) d refl (length-types least 0 (loci_from least s.context.constants))
    (pattern_so g least s kind.Attribute t.pattern.symbol.spelling [] (identifiers_beside t.pattern.loci) (identifier t.pattern.subject ∷ []) v b vis (single v.right alone.0 alone.1)) (only v.right alone.0 alone.1) (atom_under g least s f x after b read)

means_functor_so : (g : Setting) (least : ℕ) (s : Standing) (t : FunctorHeadingTree MeaningTree) (f : CasesTree FormulaData) (v : Visible) (x : ReadMeans) (after : Left) → StandsInBlock g least s → functor_visible least s.context t.pattern ≡ Some v → MeansReadAt least s t.result f (Ok x) after →
    IsClosedItem least s (means_functor least s.context t.pattern v x)
means_functor_so g least s t f v x after b vis read =
    let n : ℕ = loci_count least s.context in
    let under : AreUnder n (type_over_loci least n x.ty) (formulas_over least n (n + 1) x.definiens) = means_under g least s t.result f x after b read in
    let d : MeansDefinition = record {
      pattern = functor_pattern least s.context t.pattern v;
      sym = next_functor s.context;
      ty = type_over_loci least n x.ty;
      definiens = formulas_over least n (n + 1) x.definiens;
    } in
    functor_means_closed n d refl (length-types least 0 (loci_from least s.context.constants))
    (pattern_so g least s kind.Functor (functor_symbol t.pattern) (functor_closing t.pattern) (functor_left t.pattern) (functor_right t.pattern) v b vis refl) under.type_is under.definiens_is

equals_functor_so : (g : Setting) (least : ℕ) (s : Standing) (t : FunctorHeadingTree MeaningTree) (u : CasesTree TermData) (v : Visible) (x : ReadEquals) (after : Left) → StandsInBlock g least s → functor_visible least s.context t.pattern ≡ Some v → EqualsReadAt least s t.result u (Ok x) after →
    IsClosedItem least s (equals_functor least s.context t.pattern v x)
equals_functor_so g least s t u v x after b vis read =
    let n : ℕ = loci_count least s.context in
    let under : AreUnderLoci n (type_over_loci least n x.ty) (terms_over least n x.definiens) = equals_under g least s t.result u x after b read in
    let d : EqualsDefinition = record {
      pattern = functor_pattern least s.context t.pattern v;
      sym = next_functor s.context;
      ty = type_over_loci least n x.ty;
      definiens = terms_over least n x.definiens;
    } in
    functor_equals_closed n d refl (length-types least 0 (loci_from least s.context.constants))
    (pattern_so g least s kind.Functor (functor_symbol t.pattern) (functor_closing t.pattern) (functor_left t.pattern) (functor_right t.pattern) v b vis refl) under.type_is under.definiens_is

mode_so : (g : Setting) (least : ℕ) (s : Standing) (t : ModeHeadingTree MeaningTree) (f : CasesTree FormulaData) (v : Visible) (x : ReadMeans) (after : Left) → StandsInBlock g least s → is_of_any_object (next_mode s.context) ≡ false → mode_visible least s.context t.pattern ≡ Some v →
    MeansReadAt least s t.result f (Ok x) after → IsClosedItem least s (means_mode least s.context t.pattern v x)
mode_so g least s t f v x after b other vis read =
    let n : ℕ = loci_count least s.context in
    let under : AreUnder n (type_over_loci least n x.ty) (formulas_over least n (n + 1) x.definiens) = means_under g least s t.result f x after b read in
    let d : MeansDefinition = record {
      pattern = mode_pattern least s.context t.pattern v;
      sym = next_mode s.context;
      ty = type_over_loci least n x.ty;
      definiens = formulas_over least n (n + 1) x.definiens;
    } in
    mode_means_closed n d (ap not other) (length-types least 0 (loci_from least s.context.constants))
    (pattern_so g least s kind.Mode t.pattern.symbol.spelling [] [] (mode_right t.pattern) v b vis refl) under.type_is under.definiens_is

-- it stands soundly but for the loci

abbrev pub MakesClosed : {X : Type 0} → ℕ → Standing → DefiningHeading X → (Result X Refusal → Left → Type 0) → Type 0
MakesClosed {X} least s h reads = (v : Visible) (x : X) (after : Left) → h.visible ≡ Some v → reads (Ok x) after → IsClosedItem least s (h.item v x)

pub by_keeps : {X : Type 0} (g : Setting) (least : ℕ) (s : Standing) (h : DefiningHeading X) (reads : Result X Refusal → Left → Type 0) (ws : List ConditionOrPropertyTree) (behind : Place) (w : Taken Standing) → StandsInBlock g least s → MakesClosed least s h reads → DefinesBy least s h reads ws behind w → KeepsInBlock g least w
by_keeps g least s h reads ws behind w b makes (hd.bad_loci bad) = tt
by_keeps g least s h reads ws behind w b makes (hd.not_read v r after vis read) = tt
by_keeps g least s h reads ws behind _ b makes (hd.is_read v x after o vis read takes) =
    owing_keeps g least (with_left s after) (left_there g least s after b) h.first h.label (h.item v x) ws behind o (makes v x after vis read) takes

formulas_keep : {X : Type 0} (g : Setting) (least : ℕ) (s : Standing) (h : DefiningHeading X) (reads : CasesTree FormulaData → Result X Refusal → Left → Type 0) (ws : List ConditionOrPropertyTree) (behind : Place) (m : MeaningTree) (w : Taken Standing) → StandsInBlock g least s →
    ((f : CasesTree FormulaData) → MakesClosed least s h (reads f)) → DefinesByFormulas least s h reads ws behind m w → KeepsInBlock g least w
formulas_keep g least s h reads ws behind _ _ b makes (hd.by_formulas means label f o k) = by_keeps g least s h (reads f) ws behind o b (makes f) k
formulas_keep g least s h reads ws behind _ _ b makes (hd.no_formulas equals label u) = tt

pub predicate_keeps : HeadingKeepsLaw DefinesPredicate
predicate_keeps g least s t ws behind w b h =
    formulas_keep g least s (predicate_heading least s.context t) (AtomRead least s) ws behind t.meaning w b (λ f v x after vis read. predicate_so g least s t f v x after b vis read) h

pub attribute_keeps : HeadingKeepsLaw DefinesAttribute
attribute_keeps g least s t ws behind w b h =
    formulas_keep g least s (attribute_heading least s.context t) (AtomRead least s) ws behind t.meaning w b (λ f v x after vis read. attribute_so g least s t f v x after b vis read) h

functor_by_keeps : (g : Setting) (least : ℕ) (s : Standing) (t : FunctorHeadingTree MeaningTree) (ws : List ConditionOrPropertyTree) (behind : Place) (m : MeaningTree) (w : Taken Standing) → StandsInBlock g least s → DefinesFunctorBy least s t ws behind m w → KeepsInBlock g least w
functor_by_keeps g least s t ws behind _ _ b (fu.by_means means label f o k) =
    by_keeps g least s (means_functor_heading least s.context t) (MeansReadAt least s t.result f) ws behind o b (λ v x after vis read. means_functor_so g least s t f v x after b vis read) k
functor_by_keeps g least s t ws behind _ _ b (fu.by_equals equals label u o k) =
    by_keeps g least s (equals_functor_heading least s.context t) (EqualsReadAt least s t.result u) ws behind o b (λ v x after vis read. equals_functor_so g least s t u v x after b vis read) k

pub functor_keeps : HeadingKeepsLaw DefinesFunctor
functor_keeps g least s t ws behind w b h = functor_by_keeps g least s t ws behind t.meaning w b h

pub mode_keeps : HeadingKeepsLaw DefinesMode
mode_keeps g least s t ws behind w b (fu.hidden_mode is) = tt
mode_keeps g least s t ws behind _ b (fu.other_mode o is h) =
    formulas_keep g least s (mode_heading least s.context t) (MeansReadAt least s t.result) ws behind t.meaning o b (λ f v x after vis read. mode_so g least s t f v x after b is vis read) h

-- abbreviations

pub abbreviation_grows : HeadingGrowsLaw DefinesAbbreviation
abbreviation_grows least s t ws behind w (fu.pattern_unfit bad) = tt
abbreviation_grows least s t ws behind w (fu.type_refused v r after vis read) = tt
abbreviation_grows least s t ws behind _ (fu.type_read v ty after o vis read takes) = written_grows least (with_left s after) [] (abbreviation_of least s.context t.pattern v ty) ws behind o takes

abbreviation_so : (g : Setting) (least : ℕ) (s : Standing) (t : AbbreviationTree) (v : Visible) (ty : SoftType) (after : Left) → StandsInBlock g least s → mode_visible least s.context t.pattern ≡ Some v → TypeRead s.environment s.context least s.left t.ty (Ok ty) after →
    IsClosedOwed (loci_count least s.context) (locus_types least (loci_from least s.context.constants)) (abbreviation_of least s.context t.pattern v ty)
abbreviation_so g least s t v ty after b vis read =
    let p : Pattern = mode_pattern least s.context t.pattern v in
    let n : ℕ = loci_count least s.context in
    let long : length p.loci ≡ n = length-types least 0 (loci_from least s.context.constants) in
    abbreviation_closed n (record { pattern = p; meaning = OfType (type_over_loci least n ty) }) refl
    (and_from (pattern_closed p && type_under (length p.loci) (type_over_loci least n ty)) true
    (and_from (pattern_closed p) (type_under (length p.loci) (type_over_loci least n ty)) (pattern_so g least s kind.Mode t.pattern.symbol.spelling [] [] (mode_right t.pattern) v b vis refl)
    (subst (λ m. type_under m (type_over_loci least n ty) ≡ true) (sym long) (type_read_under g least s t.ty ty after b read))) refl)

pub abbreviation_keeps : HeadingKeepsLaw DefinesAbbreviation
abbreviation_keeps g least s t ws behind w b (fu.pattern_unfit bad) = tt
abbreviation_keeps g least s t ws behind w b (fu.type_refused v r after vis read) = tt
abbreviation_keeps g least s t ws behind _ b (fu.type_read v ty after o vis read takes) =
    written_keeps g least (with_left s after) (left_there g least s after b) [] (abbreviation_of least s.context t.pattern v ty) ws behind o (abbreviation_so g least s t v ty after b vis read) takes
