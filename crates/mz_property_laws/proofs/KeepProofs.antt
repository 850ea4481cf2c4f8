-- Behind properties an article stands soundly but for the loci of the block.
use Rattle.std.proofs.Common.{◌≡◌, ◌+◌, ℕ, suc, true, false, List, [], ◌∷◌, length, refl, sym, ap, ◌∙◌, subst, arith, Option}
use Rattle.std.specs.Prelude.{Contains}
use Rattle.std.proofs.lemmas.Bool.{and_parts, and_from}
use Rattle.std.proofs.lemmas.List.Elements.{Contains-append_left, Contains-append_right}
use Rattle.mz_logic.specs.Derives.{Derives}
use Rattle.mz_logic.specs.Formula.{Formula}
use Rattle.mz_logic.specs.declared.sequent.Sequent.{Sequent}
use Rattle.mz_core.specs.Closed.{statement_under, loci_under, loci_closed}
use Rattle.mz_core.specs.Erasure.{erase}
use Rattle.mz_core.specs.Statement.{Statement}
use Rattle.mz_core.specs.TypedSequent.{typed_sequent, erased_sequent}
use Rattle.mz_core.specs.declared.item.Item.{Item}
use Rattle.mz_core.specs.declared.item.Item.TheVariants as item
use Rattle.mz_core.specs.declared.outcome.Left.{Left}
use Rattle.mz_core.specs.declared.property.Property.{Property as TheProperty}
use Rattle.mz_core.specs.declared.soft_type.SoftType.{SoftType}
use Rattle.mz_ground.specs.Table.{Extends}
use Rattle.mz_ground.specs.declared.clause.Clause.{Clause}
use Rattle.mz_ground.proofs.ListLemmas.{extends_further, contains_one}
use Rattle.mz_items.specs.Closed.{property_form_under, property_closed, kind_fits, contents_closed}
use Rattle.mz_items.specs.Items.{loci_of, owes}
use Rattle.mz_items.specs.Loci.{over}
use Rattle.mz_items.proofs.ItemLemmas.{property_under}
use Rattle.mz_items.proofs.RowLemmas.{over_under}
use Rattle.mz_closing_laws.specs.Laws as closing
use Rattle.mz_closing_laws.proofs.ClosingProofs.{closing_law}
use Rattle.mz_condition_laws.proofs.ConditionProofs.{loci-length}
use Rattle.mz_condition_laws.proofs.LociLemmas.{usable_from_none, at_loci_stands, at_loci_all_stand, with_loci}
use Rattle.mz_conditions.specs.Conditions.{plain_sentence}
use Rattle.mz_context.specs.Context.{next}
use Rattle.mz_context.specs.declared.constants.Constant.{Constant}
use Rattle.mz_context.specs.declared.context.Context.{Context}
use Rattle.mz_loci.specs.Loci.{loci_from, types_behind, locus_types, statement_at_loci}
use Rattle.mz_loci_laws.specs.Block.{StandsInBlock}
use Rattle.mz_loci_laws.proofs.BlockProofs as blocks
use Rattle.mz_loci_laws.proofs.BlockProofs.{loci_there}
use Rattle.mz_names.specs.Closing.{with_variables, for_all}
use Rattle.mz_names.specs.declared.variable.Variable.{Variable}
use Rattle.mz_obligations.specs.declared.obligation.Obligation.{Obligation}
use Rattle.mz_owed.specs.declared.owed.Owed.{Owed}
use Rattle.mz_properties.specs.Properties as rule
use Rattle.mz_properties.specs.Properties.{stated, in_force, behind_judged, TakesKnown, TakesProperty, TakesFurther}
use Rattle.mz_standing.specs.Standing.{clauses_of, extent_of, with_context}
use Rattle.mz_standing.specs.declared.standing.Standing.{Standing}
use Rattle.mz_standing_laws.specs.Kinds.{HasGrown}
use Rattle.mz_standing_laws.specs.Owed.{IsOwed}
use Rattle.mz_standing_laws.specs.Soundly.{Setting, axioms_at, AreDecided}
use Rattle.mz_standing_laws.proofs.HeadingProofs.{condition_law}
use Rattle.mz_standing_laws.proofs.KindProofs.{grows_all_law}
use Rattle.mz_taken.specs.Taken.{Taken, Made, Refused, behind}
use Rattle.mz_taken.specs.OneByOne.{OneByOne, none_left, one_refused, one_taken}
use Rattle.mz_term_laws.specs.ChangeLaws.{AreUsable}
use Rattle.mz_tree_item.specs.declared.definition.ConditionOrPropertyTree.{ConditionOrPropertyTree}
use Rattle.mz_tree_item.specs.declared.definition.PropertyTree.{PropertyTree}
use Rattle.mz_walk.specs.Walk.{Justifies}
use Rattle.mz_walk.specs.Walked as walked
use Rattle.mz_walk.specs.Walked.{Walked}
use Rattle.mz_property_laws.specs.Laws.{block_count, IsOfBlock, PropertiesGrowLaw, PropertiesKeepLaw}
use Rattle.mz_property_laws.proofs.ClosedProofs.{IsClosedProperty, property_so}

-- a property is owed where what it states derives for all loci

property_owes : (p : TheProperty) → owes (item.Property p) ≡ erased_sequent (typed_sequent [] (over p.loci (stated p))) ∷ []
unfolding owes
property_owes p = refl

property_owed : (ax : List Formula) (p : TheProperty) → property_closed p ≡ true → Derives ax [] (erase (over p.loci (stated p))) → IsOwed ax (item.Property p)
property_owed ax p closed d = record {
  closed = and_from (kind_fits (item.Property p)) (contents_closed (item.Property p)) refl closed;
  own = refl;
  owed = λ q is. subst (λ (r : Sequent). Derives ax r.premises r.conclusion) (contains_one (erased_sequent (typed_sequent [] (over p.loci (stated p)))) q (subst (λ qs. Contains qs q) (property_owes p) is)) d;
}

-- what is justified at the loci of a block derives for all loci

types-length : (least j : ℕ) (ks : List (Option Constant)) → length (types_behind least j ks) ≡ length ks
types-length least j [] = refl
types-length least j (k ∷ ks) = ap suc (types-length least (suc j) ks)

record JudgedThere (s : Standing) (p : TheProperty) (t : PropertyTree) (os : List Obligation) (after : Left) (c : Context) (least count : ℕ) : Type 0 where
  judges : Justifies s.environment (extent_of s) c t.place false t.semicolon t.just (plain_sentence (statement_at_loci least count (stated p))) s.left (walked.Made os after)

abbrev block_types : ℕ → Standing → List SoftType
block_types least s = locus_types least (loci_from least s.context.constants)

property_derives : (g : Setting) (least : ℕ) (s : Standing) (b : StandsInBlock g least s) (p : TheProperty) (t : PropertyTree) (os : List Obligation) (after : Left) (final : List Clause) → IsClosedProperty (block_types least s) p →
    JudgedThere s p t os after s.context least (block_count least s) → Extends s.clauses final → AreDecided final os → Derives (axioms_at g s) [] (erase (over p.loci (stated p)))
property_derives g least s b p t os after final is here grows decided =
    let c : Context = b.outside in
    let vs : List Variable = b.loci in
    let ks : List (Option Constant) = closing.loci_of vs in
    let loci : List SoftType = locus_types (next c) ks in
    let are : loci_from least s.context.constants ≡ ks = loci_there g least s b in
    let long : block_count least s ≡ length vs = ap length are ∙ loci-length vs in
    let two : JudgedThere s p t os after s.context least (length vs) = subst (λ n. JudgedThere s p t os after s.context least n) long here in
    let three : JudgedThere s p t os after (with_variables c vs) least (length vs) = subst (λ (d : Context). JudgedThere s p t os after d least (length vs)) b.here two in
    let four : JudgedThere s p t os after (with_variables c vs) (next c) (length vs) = subst (λ n. JudgedThere s p t os after (with_variables c vs) n (length vs)) (sym b.first) three in
    let same : p.loci ≡ loci = is.has ∙ (ap (locus_types least) are ∙ ap (λ n. locus_types n ks) (sym b.first)) in
    let both : (loci_closed p.loci ≡ true) × (property_form_under (length p.loci) p.form ≡ true) = and_parts (loci_closed p.loci) (property_form_under (length p.loci) p.form) is.closed in
    let length_so : length p.loci ≡ length vs = ap length same ∙ (types-length (next c) 0 ks ∙ loci-length vs) in
    let under : statement_under (length vs) (stated p) ≡ true = subst (λ n. statement_under n (stated p) ≡ true) length_so (property_under p.loci p.form both.0 both.1) in
    let longer : 0 + length loci ≡ length vs = let e : length loci ≡ length vs = types-length (next c) 0 ks ∙ loci-length vs in omega (arith, e) in
    let types_so : loci_under 0 loci ≡ true = subst (λ tys. loci_closed tys ≡ true) same both.0 in
    let over_closed : statement_under 0 (over loci (stated p)) ≡ true = over_under 0 loci (stated p) types_so (subst (λ n. statement_under n (stated p) ≡ true) (sym longer) under) in
    let usable : AreUsable 0 c vs = usable_from_none least c vs b.usable in
    let said : Statement = statement_at_loci (next c) (length vs) (stated p) in
    let for_them : for_all (next c) vs said ≡ over loci (stated p) = closing_law (next c) vs (stated p) under in
    let d : Derives (axioms_at g s) [] (erase (for_all (next c) vs said)) =
    condition_law g (with_context s c) vs (with_variables c vs) (plain_sentence said) s.left after t.place t.semicolon false t.just os final b.sound (at_loci_all_stand c vs (stated p) usable under) (with_loci c vs b.sound.level usable) (at_loci_stands c vs (stated p) under) refl
    (subst (λ u. statement_under 0 u ≡ true) (sym for_them) over_closed) four.judges grows decided in
    subst (λ tys. Derives (axioms_at g s) [] (erase (over tys (stated p)))) (sym same) (subst (λ u. Derives (axioms_at g s) [] (erase u)) for_them d)

-- so it is in force soundly

abbrev KeepsInBlock : Setting → ℕ → Taken Standing → Type 0
KeepsInBlock g least (Made os t) = (final : List Clause) → Extends t.clauses final → AreDecided final os → StandsInBlock g least t
KeepsInBlock g least (Refused r) = Unit {0}

abbrev Judges : ℕ → ℕ → TheProperty → Standing → PropertyTree → Walked Left → Type 0
Judges least count p s t = Justifies s.environment (extent_of s) s.context t.place false t.semicolon t.just (plain_sentence (statement_at_loci least count (stated p))) s.left

judged_keeps : (g : Setting) (least : ℕ) (s : Standing) (p : TheProperty) (t : PropertyTree) (o : Walked Left) → StandsInBlock g least s → IsClosedProperty (block_types least s) p → Judges least (block_count least s) p s t o → KeepsInBlock g least (behind_judged s (item.Property p) o)
judged_keeps g least s p t (walked.Made os left) b is j = λ final grows decided.
    let x : Item = item.Property p in
    let here : Extends s.clauses final = extends_further s.clauses (in_force s x left).clauses final (clauses_of x, refl) grows in
    let there : JudgedThere s p t os left s.context least (block_count least s) = record { judges = j } in
    blocks.heading_law g least s x [] left b (property_owed (axioms_at g s) p is.closed (property_derives g least s b p t os left final is there here decided))
judged_keeps g least s p t (walked.Refused r) b is j = tt

known_keeps : (g : Setting) (least : ℕ) (s : Standing) (p : TheProperty) (t : PropertyTree) (w : Taken Standing) → StandsInBlock g least s → IsClosedProperty (block_types least s) p → TakesKnown least (block_count least s) p s t w → KeepsInBlock g least w
known_keeps g least s p t w b is (rule.too_large e) = tt
known_keeps g least s p t _ b is (rule.judged o e j) = judged_keeps g least s p t o b is j

property_keeps : (g : Setting) (least : ℕ) (s : Standing) (x : Item) (t : PropertyTree) (w : Taken Standing) → StandsInBlock g least s → IsOfBlock least s x → TakesProperty least (block_count least s) x s t w → KeepsInBlock g least w
property_keeps g least s x t w b is (rule.stray e) = tt
property_keeps g least s x t w b is (rule.known p o e h) =
    let closed : IsClosedProperty (loci_of x) p = property_so t.word x p is.closed e in
    known_keeps g least s p t w b (subst (λ tys. IsClosedProperty tys p) is.loci closed) h

further_keeps : (g : Setting) (least : ℕ) (s : Standing) (x : Item) (owed : Owed) (y : ConditionOrPropertyTree) (w : Taken Standing) → StandsInBlock g least s → IsOfBlock least s x → TakesFurther least (block_count least s) x owed s y w → KeepsInBlock g least w
further_keeps g least s x owed _ _ b is (rule.property t o h) = property_keeps g least s x t o b is h
further_keeps g least s x owed _ _ b is (rule.condition t) = tt

-- the clauses only grow

judged_grows : (s : Standing) (x : Item) (o : Walked Left) → HasGrown s (behind_judged s x o)
judged_grows s x (walked.Made os left) = (clauses_of x, refl)
judged_grows s x (walked.Refused r) = tt

known_grows : (least count : ℕ) (p : TheProperty) (s : Standing) (t : PropertyTree) (w : Taken Standing) → TakesKnown least count p s t w → HasGrown s w
known_grows least count p s t w (rule.too_large e) = tt
known_grows least count p s t _ (rule.judged o e j) = judged_grows s (item.Property p) o

property_grows : (least count : ℕ) (x : Item) (s : Standing) (t : PropertyTree) (w : Taken Standing) → TakesProperty least count x s t w → HasGrown s w
property_grows least count x s t w (rule.stray e) = tt
property_grows least count x s t w (rule.known p o e h) = known_grows least count p s t w h

further_grows : (least count : ℕ) (x : Item) (owed : Owed) (s : Standing) (y : ConditionOrPropertyTree) (w : Taken Standing) → TakesFurther least count x owed s y w → HasGrown s w
further_grows least count x owed s _ _ (rule.property t o h) = property_grows least count x s t o h
further_grows least count x owed s _ _ (rule.condition t) = tt

pub properties_grow : PropertiesGrowLaw
properties_grow least count x owed s ws w h = grows_all_law (TakesFurther least count x owed) (further_grows least count x owed) s ws w h

-- the loci stay

abbrev HasSameConstants : Standing → Taken Standing → Type 0
HasSameConstants s (Made os t) = t.context.constants ≡ s.context.constants
HasSameConstants s (Refused r) = Unit {0}

judged_same : (s : Standing) (x : Item) (o : Walked Left) → HasSameConstants s (behind_judged s x o)
judged_same s x (walked.Made os left) = refl
judged_same s x (walked.Refused r) = tt

known_same : (least count : ℕ) (p : TheProperty) (s : Standing) (t : PropertyTree) (w : Taken Standing) → TakesKnown least count p s t w → HasSameConstants s w
known_same least count p s t w (rule.too_large e) = tt
known_same least count p s t _ (rule.judged o e j) = judged_same s (item.Property p) o

property_same : (least count : ℕ) (x : Item) (s : Standing) (t : PropertyTree) (w : Taken Standing) → TakesProperty least count x s t w → HasSameConstants s w
property_same least count x s t w (rule.stray e) = tt
property_same least count x s t w (rule.known p o e h) = known_same least count p s t w h

further_same : (least count : ℕ) (x : Item) (owed : Owed) (s : Standing) (y : ConditionOrPropertyTree) (w : Taken Standing) → TakesFurther least count x owed s y w → HasSameConstants s w
further_same least count x owed s _ _ (rule.property t o h) = property_same least count x s t o h
further_same least count x owed s _ _ (rule.condition t) = tt

-- one after another

behind_keeps : (g : Setting) (least : ℕ) (t : Standing) (os : List Obligation) (w : Taken Standing) → KeepsInBlock g least (Made os t) → (StandsInBlock g least t → KeepsInBlock g least w) → HasGrown t w → KeepsInBlock g least (behind os w)
behind_keeps g least t os (Made ps u) first later further =
    λ final grows decided.
    later (first final (extends_further t.clauses u.clauses final further grows) (λ o is. decided o (Contains-append_left os ps o is))) final grows (λ o is. decided o (Contains-append_right os ps o is))
behind_keeps g least t os (Refused r) first later further = tt

record InBlock (g : Setting) (least count : ℕ) (s : Standing) (x : Item) : Type 0 where
  stands : StandsInBlock g least s
  of_block : IsOfBlock least s x
  many : count ≡ block_count least s

still_there : (g : Setting) (least count : ℕ) (s t : Standing) (x : Item) → InBlock g least count s x → t.context.constants ≡ s.context.constants → StandsInBlock g least t → InBlock g least count t x
still_there g least count s t x i e b = record {
  stands = b;
  of_block = record { closed = i.of_block.closed; loci = i.of_block.loci ∙ ap (λ (ks : List (Option Constant)). locus_types least (loci_from least ks)) (sym e) };
  many = i.many ∙ ap (λ (ks : List (Option Constant)). length (loci_from least ks)) (sym e);
}

one_keeps : (g : Setting) (least count : ℕ) (s : Standing) (x : Item) (owed : Owed) (y : ConditionOrPropertyTree) (w : Taken Standing) → InBlock g least count s x → TakesFurther least count x owed s y w → KeepsInBlock g least w
one_keeps g least count s x owed y w i h = further_keeps g least s x owed y w i.stands i.of_block (subst (λ n. TakesFurther least n x owed s y w) i.many h)

all_keep : (g : Setting) (least count : ℕ) (x : Item) (owed : Owed) {s : Standing} {ws : List ConditionOrPropertyTree} {w : Taken Standing} → InBlock g least count s x → OneByOne (TakesFurther least count x owed) s ws w → KeepsInBlock g least w
all_keep g least count x owed i (none_left s) = λ final grows decided. i.stands
all_keep g least count x owed i (one_refused s y ys r h) = tt
all_keep g least count x owed i (one_taken s t y ys os w h k) =
    behind_keeps g least t os w (one_keeps g least count s x owed y (Made os t) i h) (λ there. all_keep g least count x owed (still_there g least count s t x i (further_same least count x owed s y (Made os t) h) there) k) (properties_grow least count x owed t ys w k)

pub properties_keep : PropertiesKeepLaw
properties_keep g least s u x owed ws os final b is h grows decided =
    let i : InBlock g least (block_count least s) s x = record { stands = b; of_block = is; many = refl } in
    all_keep g least (block_count least s) x owed i h final grows decided
