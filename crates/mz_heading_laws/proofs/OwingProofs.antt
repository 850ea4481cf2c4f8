-- Behind an item whose conditions were taken an article stands soundly but for the loci of the block.
use Rattle.std.proofs.Common.{◌≡◌, ℕ, true, false, List, length, refl, sym, ap, ◌∙◌, subst, Option, Some, None}
use Rattle.std.proofs.lemmas.List.Elements.{Contains-append_left, Contains-append_right}
use Rattle.mz_base.specs.declared.place.Place.{Place}
use Rattle.mz_core.specs.Closed.{loci_closed}
use Rattle.mz_core.specs.declared.item.Item.{Item}
use Rattle.mz_core.specs.declared.outcome.Left.{Left}
use Rattle.mz_core.specs.declared.soft_type.SoftType.{SoftType}
use Rattle.mz_ground.specs.Table.{Extends}
use Rattle.mz_ground.specs.declared.clause.Clause.{Clause}
use Rattle.mz_ground.proofs.ListLemmas.{extends_further}
use Rattle.mz_items.specs.declared.condition.Condition.{Condition as TheCondition}
use Rattle.mz_closing_laws.specs.Laws.{loci_of}
use Rattle.mz_conditions.specs.Conditions.{Asked, asked, TakesConditions}
use Rattle.mz_condition_laws.proofs.ConditionProofs.{loci-length, conditions_law}
use Rattle.mz_condition_laws.proofs.OneConditions.{one_conditions_law}
use Rattle.mz_condition_laws.specs.Laws.{AreClosedTheses}
use Rattle.mz_context.specs.Context.{next}
use Rattle.mz_context.specs.declared.constants.Constant.{Constant}
use Rattle.mz_context.specs.declared.context.Context.{Context}
use Rattle.mz_loci.specs.Loci.{loci_from, locus_types}
use Rattle.mz_loci_laws.specs.Block.{StandsInBlock}
use Rattle.mz_loci_laws.proofs.BlockProofs as blocks
use Rattle.mz_loci_laws.proofs.BlockProofs.{loci_there}
use Rattle.mz_names.specs.Closing.{with_variables}
use Rattle.mz_names.specs.declared.variable.Variable.{Variable}
use Rattle.mz_obligations.specs.declared.obligation.Obligation.{Obligation}
use Rattle.mz_owed.specs.Owed.{at_first, missing}
use Rattle.mz_properties.specs.Properties.{TakesAllFurther}
use Rattle.mz_property_laws.specs.Laws.{block_count}
use Rattle.mz_property_laws.proofs.KeepProofs.{properties_grow, properties_keep}
use Rattle.mz_property_laws.proofs.OneProofs.{one_properties}
use Rattle.mz_standing.specs.Standing.{clauses_of, extent_of, with_left, with_context}
use Rattle.mz_standing.specs.declared.standing.Standing.{Standing}
use Rattle.mz_standing_laws.specs.Owed.{IsOwed}
use Rattle.mz_standing_laws.specs.Soundly.{Setting, axioms_at, AreDecided}
use Rattle.mz_standing_laws.specs.Kinds.{HasGrown}
use Rattle.mz_standing_laws.proofs.ItemProofs.{left_law}
use Rattle.mz_taken.specs.Taken.{Taken, Made, Refused, behind}
use Rattle.mz_taken.specs.declared.item_fault.ItemRefusal.{ItemRefusal}
use Rattle.mz_term_laws.specs.ChangeLaws.{AreUsable}
use Rattle.mz_tree_item.specs.declared.definition.ConditionTree.{ConditionTree}
use Rattle.mz_tree_item.specs.declared.definition.ConditionOrPropertyTree.{ConditionOrPropertyTree}
use Rattle.mz_defined.specs.Owing as rule
use Rattle.mz_defined.specs.Owing.{headed, conditions_in, further_in, unless_missing, loci_count, TakesWritten, TakesOwing}
use Rattle.mz_heading_laws.specs.Laws.{KeepsInBlock}
use Rattle.mz_heading_laws.proofs.ClosedProofs.{AllDerive, IsClosedOwed}

-- with something else left
pub left_there : (g : Setting) (least : ℕ) (s : Standing) (left : Left) → StandsInBlock g least s → StandsInBlock g least (with_left s left)
left_there g least s left b = record { outside = b.outside; loci = b.loci; sound = left_law g (with_context s b.outside) left b.sound; first = b.first; here = b.here; usable = b.usable }

-- where none of its conditions is missing its item is owed

record TakenThere (s : Standing) (least : ℕ) (x : Item) (ts : List ConditionTree) (os : List Obligation) (a : Asked) (c : Context) (count : ℕ) : Type 0 where
  takes : TakesConditions s.environment (extent_of s) c least count x (asked (at_first x) s.left) ts (Made os a)

abbrev block_types : ℕ → Context → List SoftType
block_types least c = locus_types least (loci_from least c.constants)

item_owed : (g : Setting) (least : ℕ) (s : Standing) (b : StandsInBlock g least s) (x : Item) (ts : List ConditionTree) (os : List Obligation) (a : Asked) (final : List Clause) → IsClosedOwed (loci_count least s.context) (block_types least s.context) x →
    TakesConditions s.environment (extent_of s) s.context least (loci_count least s.context) x (asked (at_first x) s.left) ts (Made os a) → missing a.owed ≡ None → Extends s.clauses final → AreDecided final os → IsOwed (axioms_at g s) x
item_owed g least s b x ts os a final is takes none grows decided =
    let c : Context = b.outside in
    let vs : List Variable = b.loci in
    let ks : List (Option Constant) = loci_of vs in
    let are : loci_from least s.context.constants ≡ ks = loci_there g least s b in
    let long : loci_count least s.context ≡ length vs = ap length are ∙ loci-length vs in
    let types : loci_closed (locus_types least ks) ≡ true = subst (λ js. loci_closed (locus_types least js) ≡ true) are (blocks.types_law g least s b) in
    let one : TakenThere s least x ts os a s.context (loci_count least s.context) = record { takes = takes } in
    let two : TakenThere s least x ts os a s.context (length vs) = subst (λ n. TakenThere s least x ts os a s.context n) long one in
    let three : TakenThere s least x ts os a (with_variables c vs) (length vs) = subst (λ (d : Context). TakenThere s least x ts os a d (length vs)) b.here two in
    let four : TakenThere s (next c) x ts os a (with_variables c vs) (length vs) = subst (λ n. TakenThere s n x ts os a (with_variables c vs) (length vs)) (sym b.first) three in
    let theses : AreClosedTheses (length vs) x = subst (λ n. AreClosedTheses n x) long is.theses in
    let types_so : loci_closed (locus_types (next c) ks) ≡ true = subst (λ n. loci_closed (locus_types n ks) ≡ true) (sym b.first) types in
    let usable_so : AreUsable (next c) c vs = subst (λ n. AreUsable n c vs) (sym b.first) b.usable in
    let all : AllDerive (axioms_at g s) (locus_types (next c) ks) x = conditions_law g (with_context s c) vs x s.left ts os a final b.sound usable_so types_so theses four.takes none grows decided in
    let all_so : AllDerive (axioms_at g s) (block_types least s.context) x =
    subst (λ js. AllDerive (axioms_at g s) (locus_types least js) x) (sym are) (subst (λ n. AllDerive (axioms_at g s) (locus_types n ks) x) b.first all) in
    record { closed = is.closed; own = is.own; owed = is.owed (axioms_at g s) all_so }

-- and behind it the article stands soundly

record ConditionsTaken (s : Standing) (least : ℕ) (x : Item) (ts : List ConditionTree) (os : List Obligation) (a : Asked) : Type 0 where
  takes : TakesConditions s.environment (extent_of s) s.context least (loci_count least s.context) x (asked (at_first x) s.left) ts (Made os a)

behind_missing : (g : Setting) (least : ℕ) (s : Standing) (b : StandsInBlock g least s) (label : List ℕ) (x : Item) (ts : List ConditionTree) (ws : List ConditionOrPropertyTree) (place : Place) (os : List Obligation) (a : Asked) (m : Option TheCondition) (o : Taken Standing) → missing a.owed ≡ m →
    IsClosedOwed (loci_count least s.context) (block_types least s.context) x → ConditionsTaken s least x ts os a → TakesAllFurther least (block_count least s) x a.owed (headed s x label a.left) ws o → KeepsInBlock g least (behind os (unless_missing place m o))
behind_missing g least s b label x ts ws place os a None (Made ps u) is closed taken further = λ final more decided.
    let grown : Extends (headed s x label a.left).clauses u.clauses = properties_grow least (block_count least s) x a.owed (headed s x label a.left) ws (Made ps u) further in
    let above : Extends s.clauses final = extends_further s.clauses (headed s x label a.left).clauses final (clauses_of x, refl) (extends_further (headed s x label a.left).clauses u.clauses final grown more) in
    let owed : IsOwed (axioms_at g s) x = item_owed g least s b x ts os a final closed taken.takes is above (λ o there. decided o (Contains-append_left os ps o there)) in
    properties_keep g least (headed s x label a.left) u x a.owed ws ps final (blocks.heading_law g least s x label a.left b owed) (record { closed = closed.closed; loci = closed.has }) further more (λ o there. decided o (Contains-append_right os ps o there))
behind_missing g least s b label x ts ws place os a None (Refused r) is closed taken further = tt
behind_missing g least s b label x ts ws place os a (Some c) (Made ps u) is closed taken further = tt
behind_missing g least s b label x ts ws place os a (Some c) (Refused r) is closed taken further = tt

pub written_keeps : (g : Setting) (least : ℕ) (s : Standing) (b : StandsInBlock g least s) (label : List ℕ) (x : Item) (ws : List ConditionOrPropertyTree) (place : Place) (w : Taken Standing) → IsClosedOwed (loci_count least s.context) (block_types least s.context) x →
    TakesWritten least s label x ws place w → KeepsInBlock g least w
written_keeps g least s b label x ws place _ closed (rule.condition_refused r h) = tt
written_keeps g least s b label x ws place _ closed (rule.conditions_taken os a o h k) = behind_missing g least s b label x (conditions_in ws) (further_in ws) place os a (missing a.owed) o refl closed (record { takes = h }) k

pub owing_keeps : (g : Setting) (least : ℕ) (s : Standing) (b : StandsInBlock g least s) (first : Place) (label : List ℕ) (x : Item) (ws : List ConditionOrPropertyTree) (place : Place) (w : Taken Standing) → IsClosedOwed (loci_count least s.context) (block_types least s.context) x →
    TakesOwing least s first label x ws place w → KeepsInBlock g least w
owing_keeps g least s b first label x ws place w closed (rule.too_large p) = tt
owing_keeps g least s b first label x ws place _ closed (rule.kept o p h) = written_keeps g least s b label x ws place o closed h

-- the clauses only grow

missing_grows : (s t : Standing) (place : Place) (os : List Obligation) (m : Option TheCondition) (o : Taken Standing) → Extends s.clauses t.clauses → HasGrown t o → HasGrown s (behind os (unless_missing place m o))
missing_grows s t place os None (Made ps u) h k = extends_further s.clauses t.clauses u.clauses h k
missing_grows s t place os None (Refused r) h k = tt
missing_grows s t place os (Some c) (Made ps u) h k = tt
missing_grows s t place os (Some c) (Refused r) h k = tt

pub written_grows : (least : ℕ) (s : Standing) (label : List ℕ) (x : Item) (ws : List ConditionOrPropertyTree) (place : Place) (w : Taken Standing) → TakesWritten least s label x ws place w → HasGrown s w
written_grows least s label x ws place _ (rule.condition_refused r h) = tt
written_grows least s label x ws place _ (rule.conditions_taken os a o h k) =
    missing_grows s (headed s x label a.left) place os (missing a.owed) o (clauses_of x, refl) (properties_grow least (block_count least s) x a.owed (headed s x label a.left) (further_in ws) o k)

pub owing_grows : (least : ℕ) (s : Standing) (first : Place) (label : List ℕ) (x : Item) (ws : List ConditionOrPropertyTree) (place : Place) (w : Taken Standing) → TakesOwing least s first label x ws place w → HasGrown s w
owing_grows least s first label x ws place w (rule.too_large p) = tt
owing_grows least s first label x ws place _ (rule.kept o p h) = written_grows least s label x ws place o h

-- one thing at most comes of it

abbrev taken_so : List Obligation → Asked → Taken Asked
taken_so os a = Made os a

refused_made : (r : ItemRefusal) (os : List Obligation) (a : Asked) → Refused r ≡ taken_so os a → ⊥
refused_made r os a e = cc

abbrev refused_so : ItemRefusal → Taken Asked
refused_so r = Refused r

same_refusal : (r q : ItemRefusal) → refused_so r ≡ refused_so q → r ≡ q
same_refusal r q e = cc

abbrev made_in : List Obligation → Taken Asked → List Obligation
made_in os (Made ps a) = ps
made_in os (Refused r) = os

abbrev asked_in : Asked → Taken Asked → Asked
asked_in a (Made ps b) = b
asked_in a (Refused r) = a

same_made : (os ps : List Obligation) (a b : Asked) → taken_so os a ≡ taken_so ps b → (os ≡ ps) × (a ≡ b)
same_made os ps a b e = (ap (made_in os) e, ap (asked_in a) e)

true_false : true ≡ false → ⊥
true_false e = cc

abbrev Further : ℕ → Standing → List ℕ → Item → List ConditionOrPropertyTree → Asked → Taken Standing → Type 0
Further least s label x ws a = TakesAllFurther least (loci_count least s.context) x a.owed (headed s x label a.left) (further_in ws)

both_taken : (least : ℕ) (s : Standing) (label : List ℕ) (x : Item) (ws : List ConditionOrPropertyTree) (place : Place) (os ps : List Obligation) (a b : Asked) (o p : Taken Standing) → (os ≡ ps) × (a ≡ b) → Further least s label x ws a o → Further least s label x ws b p →
    behind os (unless_missing place (missing a.owed) o) ≡ behind ps (unless_missing place (missing b.owed) p)
both_taken least s label x ws place os ps a b o p same h k =
    let k_so : Further least s label x ws a p = subst (λ (c : Asked). Further least s label x ws c p) (sym same.1) k in
    let one : o ≡ p = one_properties least (loci_count least s.context) x a.owed (headed s x label a.left) (further_in ws) o p h k_so in
    ap (λ qs. behind qs (unless_missing place (missing a.owed) o)) same.0 ∙
    (ap (λ (c : Asked). behind ps (unless_missing place (missing c.owed) o)) same.1 ∙ ap (λ q. behind ps (unless_missing place (missing b.owed) q)) one)

pub one_written : (least : ℕ) (s : Standing) (label : List ℕ) (x : Item) (ws : List ConditionOrPropertyTree) (place : Place) {v w : Taken Standing} → TakesWritten least s label x ws place v → TakesWritten least s label x ws place w → v ≡ w
one_written least s label x ws place (rule.condition_refused r h) (rule.condition_refused q k) =
    ap (λ (t : ItemRefusal). Refused t) (same_refusal r q (one_conditions_law s.environment (extent_of s) s.context least (loci_count least s.context) x (asked (at_first x) s.left) (conditions_in ws) (Refused r) (Refused q) h k))
one_written least s label x ws place (rule.condition_refused r h) (rule.conditions_taken ps b p k l) =
    absurd (refused_made r ps b (one_conditions_law s.environment (extent_of s) s.context least (loci_count least s.context) x (asked (at_first x) s.left) (conditions_in ws) (Refused r) (Made ps b) h k))
one_written least s label x ws place (rule.conditions_taken os a o h i) (rule.condition_refused q k) =
    absurd (refused_made q os a (sym (one_conditions_law s.environment (extent_of s) s.context least (loci_count least s.context) x (asked (at_first x) s.left) (conditions_in ws) (Made os a) (Refused q) h k)))
one_written least s label x ws place (rule.conditions_taken os a o h i) (rule.conditions_taken ps b p k l) =
    both_taken least s label x ws place os ps a b o p
    (same_made os ps a b (one_conditions_law s.environment (extent_of s) s.context least (loci_count least s.context) x (asked (at_first x) s.left) (conditions_in ws) (Made os a) (Made ps b) h k)) i l

pub one_owing : (least : ℕ) (s : Standing) (first : Place) (label : List ℕ) (x : Item) (ws : List ConditionOrPropertyTree) (place : Place) {v w : Taken Standing} → TakesOwing least s first label x ws place v → TakesOwing least s first label x ws place w → v ≡ w
one_owing least s first label x ws place (rule.too_large p) (rule.too_large q) = refl
one_owing least s first label x ws place (rule.too_large p) (rule.kept o q h) = absurd (true_false (sym q ∙ p))
one_owing least s first label x ws place (rule.kept o p h) (rule.too_large q) = absurd (true_false (sym p ∙ q))
one_owing least s first label x ws place (rule.kept o p h) (rule.kept n q k) = one_written least s label x ws place h k
