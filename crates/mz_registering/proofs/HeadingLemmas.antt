-- What the code of headings tells.
use Rattle.std.proofs.Common.{◌≡◌, ◌∙◌, ℕ, Bool, true, false, List, ◌++◌, length, refl, sym, ap, subst, Option, Some, None}
use Rattle.std.specs.Prelude.{Result, Ok, Err}
use Rattle.mz_base.specs.declared.place.Place.{Place}
use Rattle.mz_core.specs.declared.item.Item.{Item}
use Rattle.mz_core.specs.declared.outcome.Left.{Left}
use Rattle.mz_items.specs.Conditions.{condition_number}
use Rattle.mz_items.specs.declared.condition.Condition.{Condition}
use Rattle.mz_context.specs.declared.constants.Constant.{Constant}
use Rattle.mz_justified.specs.declared.proof_fault.ProofRefusal.TheVariants.{NotBuilt, Resolve}
use Rattle.mz_names.specs.declared.refusal.Refusal.{Refusal}
use Rattle.mz_names.specs.declared.refusal.Refusal.TheVariants.{TooLarge}
use Rattle.mz_obligations.specs.declared.obligation.Obligation.{Obligation}
use Rattle.mz_resolve.specs.Answers.{OnRead}
use Rattle.mz_resolve.specs.declared.resolve_fault.ResolveFault.{ResolveFault}
use Rattle.mz_resolve.specs.declared.resolve_fault.ResolveFault.TheVariants as reading
use Rattle.mz_clusters.specs.Headings.{ClusterRead}
use Rattle.mz_clusters.specs.declared.headings.ReadCluster.{ReadCluster}
use Rattle.mz_cluster_items.specs.Items.{all_occur, cluster_item, cluster_keeps}
use Rattle.mz_owed.specs.Owed.{at_first, missing}
use Rattle.mz_owed.specs.declared.owed.Owed.{Owed}
use Rattle.mz_conditions.specs.Conditions.{asked, TakesConditions}
use Rattle.mz_standing.specs.Standing.{extent_of, with_left}
use Rattle.mz_standing.specs.declared.standing.Standing.{Standing}
use Rattle.mz_taken.specs.Taken.{Taken, Made, Refused}
use Rattle.mz_taken.specs.Answers.{of_reading, OnTaken, Brings}
use Rattle.mz_taken.specs.declared.item_fault.ItemFault.{ItemFault}
use Rattle.mz_taken.specs.declared.item_fault.ItemFault.TheVariants as fault
use Rattle.mz_taken.specs.declared.item_fault.ItemRefusal.{ItemRefusal}
use Rattle.mz_taken.specs.declared.item_fault.ItemRefusal.TheVariants.{Proof, ConditionMissing, BadLoci}
use Rattle.mz_taken.proofs.OneByOneProofs.{on_err, on_ok}
use Rattle.mz_tree_item.specs.declared.definition.ConditionTree.{ConditionTree}
use Rattle.mz_tree_part.specs.declared.cluster.ClusterTree.{ClusterTree}
use Rattle.mz_registered.specs.Headings as he
use Rattle.mz_registered.specs.Headings.{first_of_cluster, block_loci, registered, missing_or_registered, TakesItem, TakesCluster, Heads}
use Rattle.mz_registering.specs.Ends.{EndsWith, HeadsAs}

-- behind the conditions
pub told_missing : (s : Standing) (x : Item) (behind : Place) (os : List Obligation) (l : Left) (w : Owed) (o : Option Condition) (c : Condition) (n : ℕ) → o ≡ missing w → o ≡ Some c → n ≡ condition_number c →
    missing_or_registered s x behind os l (missing w) ≡ Refused (ConditionMissing behind n)
told_missing s x behind os l w o c n eo ec en =
    ap (missing_or_registered s x behind os l) (sym eo ∙ ec) ∙ ap (λ (k : ℕ). Refused (ConditionMissing behind k)) (sym en)

pub told_in_force : (s u : Standing) (x : Item) (behind : Place) (os : List Obligation) (l : Left) (w : Owed) (o : Option Condition) → o ≡ missing w → o ≡ None → u ≡ registered s x l →
    missing_or_registered s x behind os l (missing w) ≡ Made os u
told_in_force s u x behind os l w o eo en eu =
    ap (missing_or_registered s x behind os l) (sym eo ∙ en) ∙ ap (Made os) (sym eu)

pub ruleset missing_rules = (told_missing, told_in_force)

same_missing : (s : Standing) (x : Item) (behind : Place) (os : List Obligation) (l : Left) (o : Option Condition) → missing_or_registered (with_left s l) x behind os l o ≡ missing_or_registered s x behind os l o
same_missing s x behind os l None = refl
same_missing s x behind os l (Some c) = refl

-- the registration with its conditions
pub told_stopped : (X : Type 0) {Y : Type 0} (least count : ℕ) (s u : Standing) (x : Item) (ws : List ConditionTree) (behind : Place) (w o : Owed) (l : Left) (os os2 os3 : List Obligation) (z : Result Y ItemFault) (f : ItemFault) → w ≡ at_first x →
    OnTaken z (Brings (TakesConditions s.environment (extent_of s) s.context least count x (asked w s.left) ws) (asked o l) os os2) → z ≡ Err f →
    OnTaken {X = X} (Err f) (Brings (TakesItem least count s x ws behind) u os os3)
told_stopped X {Y} least count s u x ws behind w o l os os2 os3 z f ew h ez =
    let P : Owed → Result Y ItemRefusal → Type 0 = λ a. Brings (TakesConditions s.environment (extent_of s) s.context least count x (asked a s.left) ws) (asked o l) os os2 in
    let Q : Result X ItemRefusal → Type 0 = Brings (TakesItem least count s x ws behind) u os os3 in
    on_err (P (at_first x)) Q z f ez (subst (λ (a : Owed). OnTaken z (P a)) ew h) (λ r k. he.judged (Refused r) k)

ended_by : {X : Type 0} (Q : Taken Standing → Type 0) (w : List Obligation → Taken Standing) (u : Standing) (os os2 qs : List Obligation) (y : Result X ItemFault) → os2 ≡ os ++ qs → Q (w qs) →
    OnTaken y (EndsWith qs (w qs) u) → OnTaken y (Brings Q u os os2)
ended_by Q w u os os2 qs (Ok v) e k h = record { made = qs; is_made = subst Q h k; are_last = e }
ended_by Q w u os os2 qs (Err (fault.Refused r)) e k h = subst Q h k
ended_by Q w u os os2 qs (Err fault.Memory) e k h = tt

pub told_item : {X Y : Type 0} (least count : ℕ) (s s2 u : Standing) (x : Item) (ws : List ConditionTree) (behind : Place) (w o : Owed) (l : Left) (os os2 : List Obligation) (z : Result Y ItemFault) (v : Y) (y : Result X ItemFault) →
    w ≡ at_first x → OnTaken z (Brings (TakesConditions s.environment (extent_of s) s.context least count x (asked w s.left) ws) (asked o l) os os2) → z ≡ Ok v → s2 ≡ with_left s l →
    ((qs : List Obligation) → OnTaken y (EndsWith qs (missing_or_registered s2 x behind qs s2.left (missing o)) u)) →
    OnTaken y (Brings (TakesItem least count s x ws behind) u os os2)
told_item {X} {Y} least count s s2 u x ws behind w o l os os2 z v y ew h ez es k =
    let P : Owed → Result Y ItemRefusal → Type 0 = λ a. Brings (TakesConditions s.environment (extent_of s) s.context least count x (asked a s.left) ws) (asked o l) os os2 in
    let b : P (at_first x) (Ok v) = on_ok (P (at_first x)) z v ez (subst (λ (a : Owed). OnTaken z (P a)) ew h) in
    let W : List Obligation → Taken Standing = λ qs. missing_or_registered s x behind qs l (missing o) in
    let here : OnTaken y (EndsWith b.made (W b.made) u) =
    subst (λ (t : Taken Standing). OnTaken y (EndsWith b.made t u)) (ap (λ (t : Standing). missing_or_registered t x behind b.made t.left (missing o)) es ∙ same_missing s x behind b.made l (missing o)) (k b.made) in
    ended_by (TakesItem least count s x ws behind) W u os os2 b.made y b.are_last (he.judged (Made b.made (asked o l)) b.is_made) here

-- the same answer, of which more is told
pub brought_on : {X : Type 0} (P Q : Taken Standing → Type 0) (u : Standing) (os os2 : List Obligation) (z : Result X ItemFault) → ((o : Taken Standing) → P o → Q o) → OnTaken z (Brings P u os os2) → OnTaken z (Brings Q u os os2)
brought_on P Q u os os2 (Ok v) g b = record { made = b.made; is_made = g (Made b.made u) b.is_made; are_last = b.are_last }
brought_on P Q u os os2 (Err (fault.Refused r)) g h = g (Refused r) h
brought_on P Q u os os2 (Err fault.Memory) g h = tt

-- a cluster as read
counted : (least : ℕ) (s : Standing) (x : ReadCluster) (ks : List (Option Constant)) (n count : ℕ) (b c : Bool) → ks ≡ block_loci least s → n ≡ length ks → count ≡ n → b ≡ all_occur least count x → b ≡ c → all_occur least (length (block_loci least s)) x ≡ c
counted least s x ks n count b c ek en ec eb h =
    ap (λ k. all_occur least k x) (sym (ec ∙ (en ∙ ap length ek))) ∙ (sym eb ∙ h)

pub told_bad_loci : (least : ℕ) (s : Standing) (place : Place) (x : ReadCluster) (ws : List ConditionTree) (behind : Place) (ks : List (Option Constant)) (n count : ℕ) (b : Bool) →
    ks ≡ block_loci least s → n ≡ length ks → count ≡ n → b ≡ all_occur least count x → b ≡ false → TakesCluster least s place x ws behind (Refused (BadLoci place))
told_bad_loci least s place x ws behind ks n count b ek en ec eb h = he.bad_loci (counted least s x ks n count b false ek en ec eb h)

pub told_too_large : (least : ℕ) (s : Standing) (place : Place) (x : ReadCluster) (ws : List ConditionTree) (behind : Place) (ks : List (Option Constant)) (n count : ℕ) (b k : Bool) →
    ks ≡ block_loci least s → n ≡ length ks → count ≡ n → b ≡ all_occur least count x → b ≡ true → k ≡ cluster_keeps least (block_loci least s) x → k ≡ false →
    TakesCluster least s place x ws behind (Refused (Proof (Resolve (TooLarge place))))
told_too_large least s place x ws behind ks n count b k ek en ec eb h ei hk = he.too_large (counted least s x ks n count b true ek en ec eb h) (sym ei ∙ hk)

pub told_kept : {X : Type 0} (least : ℕ) (s u : Standing) (place : Place) (x : ReadCluster) (ws : List ConditionTree) (behind : Place) (ks : List (Option Constant)) (n count : ℕ) (b k : Bool) (i : Item) (os os2 : List Obligation) (z : Result X ItemFault) →
    ks ≡ block_loci least s → n ≡ length ks → count ≡ n → b ≡ all_occur least count x → b ≡ true → k ≡ cluster_keeps least (block_loci least s) x → k ≡ true → i ≡ cluster_item least (block_loci least s) x →
    OnTaken z (Brings (TakesItem least count s i ws behind) u os os2) → OnTaken z (Brings (TakesCluster least s place x ws behind) u os os2)
told_kept {X} least s u place x ws behind ks n count b k i os os2 z ek en ec eb h ei hk ex j =
    let same : count ≡ length (block_loci least s) = ec ∙ (en ∙ ap length ek) in
    let here : OnTaken z (Brings (TakesItem least (length (block_loci least s)) s (cluster_item least (block_loci least s) x) ws behind) u os os2) =
    subst (λ (y : Item). OnTaken z (Brings (TakesItem least (length (block_loci least s)) s y ws behind) u os os2)) ex
    (subst (λ (m : ℕ). OnTaken z (Brings (TakesItem least m s i ws behind) u os os2)) same j) in
    brought_on (TakesItem least (length (block_loci least s)) s (cluster_item least (block_loci least s) x) ws behind) (TakesCluster least s place x ws behind) u os os2 z
    (λ o t. he.kept o (counted least s x ks n count b true ek en ec eb h) (sym ei ∙ hk) t) here

pub ruleset cluster_rules = (told_bad_loci, told_too_large)

-- a cluster as read, or none
pub told_none : (least : ℕ) (s : Standing) (t : ClusterTree) (ws : List ConditionTree) (behind place : Place) (o : Option ReadCluster) → o ≡ None → place ≡ first_of_cluster t → HeadsAs least s t ws behind o (Refused (Proof (NotBuilt place)))
told_none least s t ws behind place o eo ep =
    subst (λ (q : Option ReadCluster). HeadsAs least s t ws behind q (Refused (Proof (NotBuilt place)))) (sym eo) (ap (λ (q : Place). Refused (Proof (NotBuilt q))) ep)

pub told_some : {X : Type 0} (least : ℕ) (s u : Standing) (t : ClusterTree) (ws : List ConditionTree) (behind place : Place) (o : Option ReadCluster) (x : ReadCluster) (os os2 : List Obligation) (z : Result X ItemFault) → o ≡ Some x → place ≡ first_of_cluster t →
    OnTaken z (Brings (TakesCluster least s place x ws behind) u os os2) → OnTaken z (Brings (HeadsAs least s t ws behind o) u os os2)
told_some least s u t ws behind place o x os os2 z eo ep h =
    subst (λ (q : Option ReadCluster). OnTaken z (Brings (HeadsAs least s t ws behind q) u os os2)) (sym eo)
    (subst (λ (q : Place). OnTaken z (Brings (TakesCluster least s q x ws behind) u os os2)) ep h)

pub ruleset read_rules = (told_none, told_some)

-- a heading
not_read_on : (X : Type 0) (P : Result (Option ReadCluster) Refusal → Type 0) (Q : Taken Standing → Type 0) (u : Standing) (os os2 : List Obligation) (f : ResolveFault) → ((r : Refusal) → P (Err r) → Q (Refused (Proof (Resolve r)))) → OnRead {X = Option ReadCluster} (Err f) P →
    OnTaken {X = X} (Err (of_reading f)) (Brings Q u os os2)
not_read_on X P Q u os os2 (reading.Refused r) g h = g r h
not_read_on X P Q u os os2 reading.Memory g h = tt

pub told_not_read : (X : Type 0) (least : ℕ) (s u : Standing) (t : ClusterTree) (ws : List ConditionTree) (behind : Place) (l : Left) (os os2 : List Obligation) (p : Result (Option ReadCluster) ResolveFault) (f : ResolveFault) (g : ItemFault) →
    OnRead p (λ o. ClusterRead s.environment s.context least s.left t o l) → p ≡ Err f → g ≡ of_reading f → OnTaken {X = X} (Err g) (Brings (Heads least s t ws behind) u os os2)
told_not_read X least s u t ws behind l os os2 p f g h ep eg =
    let P : Result (Option ReadCluster) Refusal → Type 0 = λ o. ClusterRead s.environment s.context least s.left t o l in
    subst (λ (y : ItemFault). OnTaken {X = X} (Err y) (Brings (Heads least s t ws behind) u os os2)) (sym eg)
    (not_read_on X P (Heads least s t ws behind) u os os2 f (λ r k. he.not_read r l k) (subst (λ q. OnRead q P) ep h))

heads_as : (least : ℕ) (s : Standing) (l : Left) (t : ClusterTree) (ws : List ConditionTree) (behind : Place) (o : Option ReadCluster) (w : Taken Standing) → ClusterRead s.environment s.context least s.left t (Ok o) l → HeadsAs least (with_left s l) t ws behind o w → Heads least s t ws behind w
heads_as least s l t ws behind None w h k = subst (Heads least s t ws behind) (sym k) (he.not_built l h)
heads_as least s l t ws behind (Some x) w h k = he.heading_read x l w h k

pub told_read : {X : Type 0} (least : ℕ) (s s2 u : Standing) (t : ClusterTree) (ws : List ConditionTree) (behind : Place) (l : Left) (os os2 : List Obligation) (p : Result (Option ReadCluster) ResolveFault) (o : Option ReadCluster) (z : Result X ItemFault) →
    OnRead p (λ q. ClusterRead s.environment s.context least s.left t q l) → p ≡ Ok o → s2 ≡ with_left s l →
    OnTaken z (Brings (HeadsAs least s2 t ws behind o) u os os2) → OnTaken z (Brings (Heads least s t ws behind) u os os2)
told_read {X} least s s2 u t ws behind l os os2 p o z h ep es k =
    let P : Result (Option ReadCluster) Refusal → Type 0 = λ q. ClusterRead s.environment s.context least s.left t q l in
    let there : P (Ok o) = subst (λ q. OnRead q P) ep h in
    let here : OnTaken z (Brings (HeadsAs least (with_left s l) t ws behind o) u os os2) = subst (λ (v : Standing). OnTaken z (Brings (HeadsAs least v t ws behind o) u os os2)) es k in
    brought_on (HeadsAs least (with_left s l) t ws behind o) (Heads least s t ws behind) u os os2 z (λ w j. heads_as least s l t ws behind o w there j) here
