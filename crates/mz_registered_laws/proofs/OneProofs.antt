-- A block of registrations comes to one thing at most.
use Rattle.std.proofs.Common.{◌≡◌, ℕ, Bool, true, false, List, [], length, refl, sym, ap, ◌∙◌, subst, Option, None, Some}
use Rattle.std.specs.Prelude.{Result, Ok, Err}
use Rattle.mz_base.specs.declared.place.Place.{Place}
use Rattle.mz_core.specs.declared.item.Item.{Item}
use Rattle.mz_core.specs.declared.outcome.Left.{Left}
use Rattle.mz_context.specs.Context.{next}
use Rattle.mz_justified.specs.declared.proof_fault.ProofRefusal.TheVariants.{Resolve}
use Rattle.mz_names.specs.declared.refusal.Refusal.{Refusal}
use Rattle.mz_names.specs.declared.variable.Variable.{Variable}
use Rattle.mz_parts_laws.proofs.OneDeclaration.{one_declarations}
use Rattle.mz_let.specs.Lets as lets
use Rattle.mz_let.specs.Lets.{Lets, with_loci}
use Rattle.mz_clusters.specs.declared.headings.ReadCluster.{ReadCluster}
use Rattle.mz_cluster_items.specs.Items.{all_occur, cluster_item, cluster_keeps}
use Rattle.mz_cluster_laws.proofs.OneCluster as law
use Rattle.mz_conditions.specs.Conditions.{asked}
use Rattle.mz_condition_laws.proofs.OneConditions.{one_conditions_law}
use Rattle.mz_owed.specs.Owed.{at_first}
use Rattle.mz_registered.specs.Headings as rule
use Rattle.mz_registered.specs.Headings.{first_of_cluster, block_loci, behind_conditions, TakesItem, TakesCluster, Heads}
use Rattle.mz_registered.specs.Blocks as block
use Rattle.mz_registered.specs.Blocks.{PlacedPart, TakesPart, ended, TakesBlock}
use Rattle.mz_standing.specs.Standing.{extent_of, with_left}
use Rattle.mz_standing.specs.declared.standing.Standing.{Standing}
use Rattle.mz_taken.specs.Taken.{Taken, Made, Refused}
use Rattle.mz_taken.specs.OneByOne.{OneLaw}
use Rattle.mz_taken.specs.declared.item_fault.ItemRefusal.TheVariants.{Proof}
use Rattle.mz_taken.proofs.OneByOneProofs.{one_all}
use Rattle.mz_tree_item.specs.declared.definition.ConditionTree.{ConditionTree}
use Rattle.mz_tree_item.specs.declared.registration.RegistrationPartTree.TheVariants.{Let, Cluster}
use Rattle.mz_tree_part.specs.declared.cluster.ClusterTree.{ClusterTree}
use Rattle.mz_tree_part.specs.declared.notation.BlockLetTree.{BlockLetTree}

-- outcomes of readings

abbrev read_to : {X : Type 0} → X → Result X Refusal
read_to x = Ok x

abbrev refused_as : {X : Type 0} → Refusal → Result X Refusal
refused_as r = Err r

good : {X : Type 0} (x y : X) → read_to x ≡ read_to y → x ≡ y
good x y e = cc

bad : {X : Type 0} (r q : Refusal) → refused_as {X = X} r ≡ refused_as q → r ≡ q
bad r q e = cc

apart : {X : Type 0} (x : X) (r : Refusal) → read_to x ≡ refused_as r → ⊥
apart x r e = cc

abbrev one_of : ReadCluster → Option ReadCluster
one_of x = Some x

none_some : (x : ReadCluster) → None ≡ one_of x → ⊥
none_some x e = cc

some_same : (x y : ReadCluster) → one_of x ≡ one_of y → x ≡ y
some_same x y e = cc

true_false : (b : Bool) → b ≡ true → b ≡ false → ⊥
true_false b t f = cc

-- a `let`

loci_same : (s : Standing) (vs us : List Variable) (a b : Left) → vs ≡ us → a ≡ b → Made [] (with_loci s vs a) ≡ Made [] (with_loci s us b)
loci_same s vs us a b e f = ap (λ ws. Made [] (with_loci s ws a)) e ∙ ap (λ l. Made [] (with_loci s us l)) f

one_let : (least : ℕ) (s : Standing) (t : BlockLetTree) (v w : Taken Standing) → Lets least s t v → Lets least s t w → v ≡ w
one_let least s t v w (lets.not_declared r a h) (lets.not_declared q b k) =
    ap (λ x. Refused (Proof (Resolve x))) (bad {X = List Variable} r q (one_declarations s.environment s.context least s.left t.declarations (Err r) (Err q) a b h k).0)
one_let least s t v w (lets.not_declared r a h) (lets.declared us b k) = absurd (apart us r (sym (one_declarations s.environment s.context least s.left t.declarations (Err r) (Ok us) a b h k).0))
one_let least s t v w (lets.declared vs a h) (lets.not_declared q b k) = absurd (apart vs q (one_declarations s.environment s.context least s.left t.declarations (Ok vs) (Err q) a b h k).0)
one_let least s t v w (lets.declared vs a h) (lets.declared us b k) =
    let both = one_declarations s.environment s.context least s.left t.declarations (Ok vs) (Ok us) a b h k in
    loci_same s vs us a b (good vs us both.0) both.1

-- an item with its conditions

one_item : (least count : ℕ) (s : Standing) (x : Item) (ws : List ConditionTree) (behind : Place) (v w : Taken Standing) → TakesItem least count s x ws behind v → TakesItem least count s x ws behind w → v ≡ w
one_item least count s x ws behind v w (rule.judged o h) (rule.judged p k) =
    ap (behind_conditions s x behind) (one_conditions_law s.environment (extent_of s) s.context least count x (asked (at_first x) s.left) ws o p h k)

one_cluster : (least : ℕ) (s : Standing) (place : Place) (x : ReadCluster) (ws : List ConditionTree) (behind : Place) (v w : Taken Standing) →
    TakesCluster least s place x ws behind v → TakesCluster least s place x ws behind w → v ≡ w
one_cluster least s place x ws behind v w (rule.bad_loci a) (rule.bad_loci b) = refl
one_cluster least s place x ws behind v w (rule.bad_loci a) (rule.too_large b c) = absurd (true_false (all_occur least (length (block_loci least s)) x) b a)
one_cluster least s place x ws behind v w (rule.bad_loci a) (rule.kept p b c k) = absurd (true_false (all_occur least (length (block_loci least s)) x) b a)
one_cluster least s place x ws behind v w (rule.too_large a d) (rule.bad_loci b) = absurd (true_false (all_occur least (length (block_loci least s)) x) a b)
one_cluster least s place x ws behind v w (rule.too_large a d) (rule.too_large b c) = refl
one_cluster least s place x ws behind v w (rule.too_large a d) (rule.kept p b c k) = absurd (true_false (cluster_keeps least (block_loci least s) x) c d)
one_cluster least s place x ws behind v w (rule.kept o a d h) (rule.bad_loci b) = absurd (true_false (all_occur least (length (block_loci least s)) x) a b)
one_cluster least s place x ws behind v w (rule.kept o a d h) (rule.too_large b c) = absurd (true_false (cluster_keeps least (block_loci least s) x) d c)
one_cluster least s place x ws behind v w (rule.kept o a d h) (rule.kept p b c k) =
    one_item least (length (block_loci least s)) s (cluster_item least (block_loci least s) x) ws behind v w h k

-- a heading

record ByCluster (least : ℕ) (s : Standing) (t : ClusterTree) (ws : List ConditionTree) (behind : Place) (x : ReadCluster) (after : Left) (w : Taken Standing) : Type 0 where
  takes : TakesCluster least (with_left s after) (first_of_cluster t) x ws behind w

one_heading : (least : ℕ) (s : Standing) (t : ClusterTree) (ws : List ConditionTree) (behind : Place) (v w : Taken Standing) → Heads least s t ws behind v → Heads least s t ws behind w → v ≡ w
one_heading least s t ws behind v w (rule.not_built a h) (rule.not_built b k) = refl
one_heading least s t ws behind v w (rule.not_built a h) (rule.not_read q b k) = absurd (apart {X = Option ReadCluster} None q (law.one_cluster s.environment s.context least s.left t (Ok None) (Err q) a b h k).0)
one_heading least s t ws behind v w (rule.not_built a h) (rule.heading_read y b p k m) =
    absurd (none_some y (good None (Some y) (law.one_cluster s.environment s.context least s.left t (Ok None) (Ok (Some y)) a b h k).0))
one_heading least s t ws behind v w (rule.not_read r a h) (rule.not_built b k) = absurd (apart {X = Option ReadCluster} None r (law.one_cluster s.environment s.context least s.left t (Ok None) (Err r) b a k h).0)
one_heading least s t ws behind v w (rule.not_read r a h) (rule.not_read q b k) =
    ap (λ x. Refused (Proof (Resolve x))) (bad {X = Option ReadCluster} r q (law.one_cluster s.environment s.context least s.left t (Err r) (Err q) a b h k).0)
one_heading least s t ws behind v w (rule.not_read r a h) (rule.heading_read y b p k m) = absurd (apart (Some y) r (law.one_cluster s.environment s.context least s.left t (Ok (Some y)) (Err r) b a k h).0)
one_heading least s t ws behind v w (rule.heading_read x a o h l) (rule.not_built b k) =
    absurd (none_some x (good None (Some x) (law.one_cluster s.environment s.context least s.left t (Ok None) (Ok (Some x)) b a k h).0))
one_heading least s t ws behind v w (rule.heading_read x a o h l) (rule.not_read q b k) = absurd (apart (Some x) q (law.one_cluster s.environment s.context least s.left t (Ok (Some x)) (Err q) a b h k).0)
one_heading least s t ws behind v w (rule.heading_read x a o h l) (rule.heading_read y b p k m) =
    let both = law.one_cluster s.environment s.context least s.left t (Ok (Some x)) (Ok (Some y)) a b h k in
    let same : x ≡ y = some_same x y (good (Some x) (Some y) both.0) in
    let there : ByCluster least s t ws behind y b w = record { takes = m } in
    let moved : ByCluster least s t ws behind x a w = subst (λ z. ByCluster least s t ws behind x z w) (sym both.1) (subst (λ z. ByCluster least s t ws behind z b w) (sym same) there) in
    one_cluster least (with_left s a) (first_of_cluster t) x ws behind v w l moved.takes

-- a part, and the block

abbrev PartAs : ℕ → Standing → PlacedPart → Taken Standing → Type 0
PartAs least s (Let t, behind) w = Lets least s t w
PartAs least s (Cluster t ws, behind) w = Heads least s t ws behind w

part_as : (least : ℕ) (s : Standing) (p : PlacedPart) (w : Taken Standing) → TakesPart least s p w → PartAs least s p w
part_as least s p w (block.loci t behind o h) = h
part_as least s p w (block.heading t ws behind o h) = h

one_part_as : (least : ℕ) (s : Standing) (p : PlacedPart) (v w : Taken Standing) → PartAs least s p v → PartAs least s p w → v ≡ w
one_part_as least s (Let t, behind) v w h k = one_let least s t v w h k
one_part_as least s (Cluster t ws, behind) v w h k = one_heading least s t ws behind v w h k

one_part : (least : ℕ) → OneLaw (TakesPart least)
one_part least s p v w h k = one_part_as least s p v w (part_as least s p v h) (part_as least s p w k)

one_block : (s : Standing) (o p : Taken Standing) → o ≡ p → ended (next s.context) o ≡ ended (next s.context) p
one_block s o p e = ap (ended (next s.context)) e

pub one_registrations : OneLaw TakesBlock
one_registrations s t v w (block.block o h) (block.block p k) = one_block s o p (one_all (TakesPart (next s.context)) (one_part (next s.context)) h k)
