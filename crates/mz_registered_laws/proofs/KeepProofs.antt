-- Behind a block of registrations an article stands soundly.
use Rattle.std.proofs.Common.{◌≡◌, ◌≤◌, ◌+◌, ℕ, true, List, [], length, refl, sym, ap, subst, arith, Option, None, Some}
use Rattle.std.proofs.lemmas.List.Elements.{Contains-append_left, Contains-append_right}
use Rattle.mz_base.specs.declared.place.Place.{Place}
use Rattle.mz_core.specs.Closed.{loci_closed}
use Rattle.mz_core.specs.declared.item.Item.{Item}
use Rattle.mz_core.specs.declared.outcome.Left.{Left}
use Rattle.mz_ground.specs.Table.{Extends}
use Rattle.mz_ground.specs.declared.clause.Clause.{Clause}
use Rattle.mz_ground.proofs.ListLemmas.{extends_further}
use Rattle.mz_items.specs.declared.condition.Condition.{Condition}
use Rattle.mz_context.specs.Context.{next}
use Rattle.mz_context.specs.declared.constants.Constant.{Constant}
use Rattle.mz_context.specs.declared.context.Context.{Context}
use Rattle.mz_names.specs.Closing.{with_variables}
use Rattle.mz_names.specs.declared.variable.Variable.{Variable}
use Rattle.mz_closing_laws.specs.Laws.{loci_of}
use Rattle.mz_let.specs.Lets.{Lets}
use Rattle.mz_loci.specs.Loci.{locus_types}
use Rattle.mz_loci_laws.specs.Block.{StandsInBlock}
use Rattle.mz_loci_laws.proofs.BlockProofs as blocks
use Rattle.mz_loci_laws.proofs.BlockProofs.{next-variables, loci_there, whole_there, closed_there}
use Rattle.mz_clusters.specs.declared.headings.ReadCluster.{ReadCluster}
use Rattle.mz_cluster_items.specs.Items.{cluster_item}
use Rattle.mz_cluster_laws.specs.Laws.{IsUsableCluster}
use Rattle.mz_cluster_laws.proofs.UsableClusters.{cluster_law}
use Rattle.mz_conditions.specs.Conditions.{Asked, asked, TakesConditions}
use Rattle.mz_condition_laws.proofs.ConditionProofs.{loci-length, conditions_law}
use Rattle.mz_obligations.specs.declared.obligation.Obligation.{Obligation}
use Rattle.mz_owed.specs.Owed.{at_first, missing}
use Rattle.mz_registered.specs.Headings as rule
use Rattle.mz_registered.specs.Headings.{block_loci, registered, missing_or_registered, behind_conditions, TakesItem, TakesCluster, Heads}
use Rattle.mz_registered.specs.Blocks as block
use Rattle.mz_registered.specs.Blocks.{PlacedPart, with_places, TakesPart, ended, TakesBlock}
use Rattle.mz_standing.specs.Standing.{clauses_of, extent_of, with_left, with_context}
use Rattle.mz_standing.specs.declared.standing.Standing.{Standing}
use Rattle.mz_standing_laws.specs.Owed.{IsOwed}
use Rattle.mz_standing_laws.specs.Soundly.{Setting, axioms_at, AreDecided}
use Rattle.mz_standing_laws.specs.Kinds.{HasGrown, KeepsSoundly, KeepsLaw}
use Rattle.mz_standing_laws.proofs.ItemProofs.{left_law}
use Rattle.mz_standing_laws.proofs.KindProofs.{grows_all_law}
use Rattle.mz_taken.specs.Taken.{Taken, Made, Refused, behind}
use Rattle.mz_taken.specs.OneByOne.{OneByOne, none_left, one_refused, one_taken}
use Rattle.mz_term_laws.specs.ChangeLaws.{AreUsable}
use Rattle.mz_tree_item.specs.declared.definition.ConditionTree.{ConditionTree}
use Rattle.mz_tree_part.specs.declared.cluster.ClusterTree.{ClusterTree}
use Rattle.mz_tree_part.specs.declared.notation.BlockLetTree.{BlockLetTree}
use Rattle.mz_registered_laws.proofs.GrowProofs.{part_grows}
use Rattle.mz_registered_laws.proofs.OwedProofs.{IsClosedOwed, cluster_closed}

-- what stands in the block, with something else left

left_there : (g : Setting) (least : ℕ) (s : Standing) (left : Left) → StandsInBlock g least s → StandsInBlock g least (with_left s left)
left_there g least s left b = record { outside = b.outside; loci = b.loci; sound = left_law g (with_context s b.outside) left b.sound; first = b.first; here = b.here; usable = b.usable }

-- a cluster's item is owed, where its conditions were taken

record TakenThere (s : Standing) (least : ℕ) (x : ReadCluster) (ws : List ConditionTree) (os : List Obligation) (a : Asked) (c : Context) (count : ℕ) (ks : List (Option Constant)) : Type 0 where
  takes : TakesConditions s.environment (extent_of s) c least count (cluster_item least ks x) (asked (at_first (cluster_item least ks x)) s.left) ws (Made os a)

item_owed : (g : Setting) (least : ℕ) (s : Standing) (b : StandsInBlock g least s) (x : ReadCluster) (ws : List ConditionTree) (os : List Obligation) (a : Asked) (final : List Clause) → IsUsableCluster least s.context x →
    TakesConditions s.environment (extent_of s) s.context least (length (block_loci least s)) (cluster_item least (block_loci least s) x) (asked (at_first (cluster_item least (block_loci least s) x)) s.left) ws (Made os a) →
    missing a.owed ≡ None → Extends s.clauses final → AreDecided final os → IsOwed (axioms_at g s) (cluster_item least (block_loci least s) x)
item_owed g least s b x ws os a final usable takes none grows decided =
    let c : Context = b.outside in
    let vs : List Variable = b.loci in
    let ks : List (Option Constant) = loci_of vs in
    let are : block_loci least s ≡ ks = loci_there g least s b in
    let long : length ks ≡ length vs = loci-length vs in
    let there : next (with_variables c vs) ≡ least + length ks =
    let n : next (with_variables c vs) ≡ next c + length vs = next-variables c vs in
    let f : next c ≡ least = b.first in
    omega (arith, n, f, long) in
    let types : loci_closed (locus_types least ks) ≡ true = subst (λ js. loci_closed (locus_types least js) ≡ true) are (blocks.types_law g least s b) in
    let known : IsClosedOwed (length ks) (locus_types least ks) (cluster_item least ks x) =
    cluster_closed least (with_variables c vs) ks x there types (subst (λ (d : Context). IsUsableCluster least d x) b.here usable) in
    let one : TakenThere s least x ws os a s.context (length (block_loci least s)) (block_loci least s) = record { takes = takes } in
    let two : TakenThere s least x ws os a s.context (length ks) ks = subst (λ js. TakenThere s least x ws os a s.context (length js) js) are one in
    let three : TakenThere s least x ws os a s.context (length vs) ks = subst (λ n. TakenThere s least x ws os a s.context n ks) long two in
    let four : TakenThere s least x ws os a (with_variables c vs) (length vs) ks = subst (λ (d : Context). TakenThere s least x ws os a d (length vs) ks) b.here three in
    let five : TakenThere s (next c) x ws os a (with_variables c vs) (length vs) ks = subst (λ n. TakenThere s n x ws os a (with_variables c vs) (length vs) ks) (sym b.first) four in
    let closed : IsClosedOwed (length vs) (locus_types (next c) ks) (cluster_item (next c) ks x) =
    subst (λ n. IsClosedOwed (length vs) (locus_types n ks) (cluster_item n ks x)) (sym b.first) (subst (λ n. IsClosedOwed n (locus_types least ks) (cluster_item least ks x)) long known) in
    let types_so : loci_closed (locus_types (next c) ks) ≡ true = subst (λ n. loci_closed (locus_types n ks) ≡ true) (sym b.first) types in
    let usable_so : AreUsable (next c) c vs = subst (λ n. AreUsable n c vs) (sym b.first) b.usable in
    let owed : IsOwed (axioms_at g s) (cluster_item (next c) ks x) = record {
      closed = closed.closed;
      own = closed.own;
      owed = closed.owed (axioms_at g s) (conditions_law g (with_context s c) vs (cluster_item (next c) ks x) s.left ws os a final b.sound usable_so types_so closed.theses five.takes none grows decided);
    } in
    subst (λ js. IsOwed (axioms_at g s) (cluster_item least js x)) (sym are) (subst (λ n. IsOwed (axioms_at g s) (cluster_item n ks x)) b.first owed)

-- within the block

abbrev KeepsInBlock : Setting → ℕ → Taken Standing → Type 0
KeepsInBlock g least (Made os t) = (final : List Clause) → Extends t.clauses final → AreDecided final os → StandsInBlock g least t
KeepsInBlock g least (Refused r) = Unit {0}

let_keeps : (g : Setting) (least : ℕ) (s : Standing) (t : BlockLetTree) (o : Taken Standing) → StandsInBlock g least s → Lets least s t o → KeepsInBlock g least o
let_keeps g least s t (Made os u) b h = λ final more decided. blocks.let_law g least s u t os b h
let_keeps g least s t (Refused r) b h = tt

behind_missing : (g : Setting) (least : ℕ) (s : Standing) (b : StandsInBlock g least s) (x : ReadCluster) (ws : List ConditionTree) (place : Place) (os : List Obligation) (a : Asked) (m : Option Condition) → missing a.owed ≡ m → IsUsableCluster least s.context x →
    TakesConditions s.environment (extent_of s) s.context least (length (block_loci least s)) (cluster_item least (block_loci least s) x) (asked (at_first (cluster_item least (block_loci least s) x)) s.left) ws (Made os a) →
    KeepsInBlock g least (missing_or_registered s (cluster_item least (block_loci least s) x) place os a.left m)
behind_missing g least s b x ws place os a None is usable takes = λ final more decided.
    let i : Item = cluster_item least (block_loci least s) x in
    let here : Extends s.clauses final = extends_further s.clauses (registered s i a.left).clauses final (clauses_of i, refl) more in
    blocks.heading_law g least s i [] a.left b (item_owed g least s b x ws os a final usable takes is here decided)
behind_missing g least s b x ws place os a (Some c) is usable takes = tt

behind_taken : (g : Setting) (least : ℕ) (s : Standing) (b : StandsInBlock g least s) (x : ReadCluster) (ws : List ConditionTree) (place : Place) (o : Taken Asked) → IsUsableCluster least s.context x →
    TakesConditions s.environment (extent_of s) s.context least (length (block_loci least s)) (cluster_item least (block_loci least s) x) (asked (at_first (cluster_item least (block_loci least s) x)) s.left) ws o →
    KeepsInBlock g least (behind_conditions s (cluster_item least (block_loci least s) x) place o)
behind_taken g least s b x ws place (Made os a) usable takes = behind_missing g least s b x ws place os a (missing a.owed) refl usable takes
behind_taken g least s b x ws place (Refused r) usable takes = tt

item_keeps : (g : Setting) (least : ℕ) (s : Standing) (b : StandsInBlock g least s) (x : ReadCluster) (ws : List ConditionTree) (place : Place) (w : Taken Standing) → IsUsableCluster least s.context x →
    TakesItem least (length (block_loci least s)) s (cluster_item least (block_loci least s) x) ws place w → KeepsInBlock g least w
item_keeps g least s b x ws place w usable (rule.judged o h) = behind_taken g least s b x ws place o usable h

cluster_keeps_block : (g : Setting) (least : ℕ) (s : Standing) (b : StandsInBlock g least s) (first : Place) (x : ReadCluster) (ws : List ConditionTree) (place : Place) (w : Taken Standing) → IsUsableCluster least s.context x →
    TakesCluster least s first x ws place w → KeepsInBlock g least w
cluster_keeps_block g least s b first x ws place w usable (rule.bad_loci p) = tt
cluster_keeps_block g least s b first x ws place w usable (rule.too_large p q) = tt
cluster_keeps_block g least s b first x ws place w usable (rule.kept o p q h) = item_keeps g least s b x ws place o usable h

first_there : (g : Setting) (least : ℕ) (s : Standing) (b : StandsInBlock g least s) → least ≤ next s.context
first_there g least s b =
    let n : next (with_variables b.outside b.loci) ≡ next b.outside + length b.loci = next-variables b.outside b.loci in
    let f : next b.outside ≡ least = b.first in
    let h : next s.context ≡ next (with_variables b.outside b.loci) = ap next b.here in
    omega (arith, n, f, h)

heading_keeps : (g : Setting) (least : ℕ) (s : Standing) (t : ClusterTree) (ws : List ConditionTree) (place : Place) (w : Taken Standing) → StandsInBlock g least s → Heads least s t ws place w → KeepsInBlock g least w
heading_keeps g least s t ws place w b (rule.not_built after h) = tt
heading_keeps g least s t ws place w b (rule.not_read r after h) = tt
heading_keeps g least s t ws place w b (rule.heading_read x after o h k) =
    let usable : IsUsableCluster least s.context x = cluster_law s.environment s.context least least (closed_there g least s b) (whole_there g least s b) (omega arith) (first_there g least s b) s.left after t x h in
    cluster_keeps_block g least (with_left s after) (left_there g least s after b) _ x ws place o usable k

part_keeps : (g : Setting) (least : ℕ) (s : Standing) (p : PlacedPart) (w : Taken Standing) → StandsInBlock g least s → TakesPart least s p w → KeepsInBlock g least w
part_keeps g least s p w b (block.loci t place o h) = let_keeps g least s t o b h
part_keeps g least s p w b (block.heading t ws place o h) = heading_keeps g least s t ws place o b h

behind_keeps : (g : Setting) (least : ℕ) (t : Standing) (os : List Obligation) (w : Taken Standing) → KeepsInBlock g least (Made os t) → (StandsInBlock g least t → KeepsInBlock g least w) → HasGrown t w → KeepsInBlock g least (behind os w)
behind_keeps g least t os (Made ps u) first then further = λ final more decided.
    then (first final (extends_further t.clauses u.clauses final further more) (λ o is. decided o (Contains-append_left os ps o is))) final more (λ o is. decided o (Contains-append_right os ps o is))
behind_keeps g least t os (Refused r) first then further = tt

parts_keep : (g : Setting) (least : ℕ) (s : Standing) (ps : List PlacedPart) (w : Taken Standing) → StandsInBlock g least s → OneByOne (TakesPart least) s ps w → KeepsInBlock g least w
parts_keep g least s ps w b (none_left u) = λ final more decided. b
parts_keep g least s ps w b (one_refused u p qs r h) = tt
parts_keep g least s ps w b (one_taken u t p qs os o h k) =
    behind_keeps g least t os o (part_keeps g least s p (Made os t) b h) (λ there. parts_keep g least t qs o there k) (grows_all_law (TakesPart least) (part_grows least) t qs o k)

-- the block

ended_keeps : (g : Setting) (s : Standing) (least : ℕ) (o : Taken Standing) → HasGrown s o → KeepsInBlock g least o → KeepsSoundly g s (ended least o)
ended_keeps g s least (Made os u) grown kept = (grown, λ final more decided. blocks.end_law g least u (kept final more decided))
ended_keeps g s least (Refused r) grown kept = tt

pub keeps_registrations : KeepsLaw TakesBlock
keeps_registrations g s t w sound (block.block o h) =
    let least : ℕ = next s.context in
    ended_keeps g s least o (grows_all_law (TakesPart least) (part_grows least) s (with_places t.end t.parts) o h) (parts_keep g least s (with_places t.end t.parts) o (blocks.block_law g s sound) h)
