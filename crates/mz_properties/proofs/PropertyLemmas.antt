-- What the code of properties tells.
use Rattle.std.proofs.Common.{◌≡◌, ◌∙◌, ℕ, Bool, true, false, List, sym, ap, subst, Option, Some, None}
use Rattle.std.specs.Prelude.{Result, Ok, Err, OnOk}
use Rattle.mz_core.specs.declared.item.Item.{Item}
use Rattle.mz_core.specs.declared.item.Item.TheVariants as item
use Rattle.mz_core.specs.declared.outcome.Left.{Left}
use Rattle.mz_core.specs.declared.property.Property.{Property as TheProperty}
use Rattle.mz_conditions.specs.Conditions.{plain_sentence}
use Rattle.mz_context.specs.declared.context.Context.{Context}
use Rattle.mz_formulas.specs.declared.sentence.Sentence.{Sentence}
use Rattle.mz_justified.specs.Answers.{OnMade}
use Rattle.mz_justified.specs.declared.proof_fault.ProofFault.{ProofFault}
use Rattle.mz_justified.specs.declared.proof_fault.ProofFault.TheVariants as reasoning
use Rattle.mz_justified.specs.declared.proof_fault.ProofRefusal.{ProofRefusal}
use Rattle.mz_justified.specs.declared.proof_fault.ProofRefusal.TheVariants.{Resolve}
use Rattle.mz_loci.specs.Loci.{statement_at_loci}
use Rattle.mz_names.specs.declared.refusal.Refusal.TheVariants.{TooLarge}
use Rattle.mz_obligations.specs.declared.obligation.Extent.{Extent}
use Rattle.mz_obligations.specs.declared.obligation.Obligation.{Obligation}
use Rattle.mz_standing.specs.Standing.{extent_of, with_left, with_context}
use Rattle.mz_standing.specs.declared.standing.Standing.{Standing}
use Rattle.mz_taken.specs.Taken.{Taken, Made, Refused}
use Rattle.mz_taken.specs.Answers.{OnTaken, IsBrought, Brings, of_reasoning}
use Rattle.mz_taken.specs.declared.item_fault.ItemFault.{ItemFault}
use Rattle.mz_taken.specs.declared.item_fault.ItemFault.TheVariants as fault
use Rattle.mz_taken.specs.declared.item_fault.ItemRefusal.{ItemRefusal}
use Rattle.mz_taken.specs.declared.item_fault.ItemRefusal.TheVariants.{Proof, ConditionStray}
use Rattle.mz_tree_item.specs.declared.definition.ConditionOrPropertyTree.{ConditionOrPropertyTree}
use Rattle.mz_tree_item.specs.declared.definition.ConditionOrPropertyTree.TheVariants.{Condition, Property}
use Rattle.mz_tree_item.specs.declared.definition.ConditionTree.{ConditionTree}
use Rattle.mz_tree_item.specs.declared.definition.PropertyTree.{PropertyTree}
use Rattle.mz_walk.specs.Answers as walk
use Rattle.mz_walk.specs.Walk.{Justifies}
use Rattle.mz_walk.specs.Walked as walked
use Rattle.mz_walk.specs.Walked.{Walked}
use Rattle.mz_owed.specs.Owed.{covered}
use Rattle.mz_owed.specs.declared.owed.Owed.{Owed}
use Rattle.mz_properties.specs.Forms.{property_of}
use Rattle.mz_properties.specs.Properties as rule
use Rattle.mz_properties.specs.Properties.{stated, property_keeps, in_force, condition_refusal, TakesKnown, TakesProperty, TakesFurther}

-- a refusal that code makes
refused_as : (X : Type 0) {Y : Type 0} (P : Taken Y → Type 0) (y : Y) (os os2 : List Obligation) (k : ItemFault) (r : ItemRefusal) → k ≡ fault.Refused r → P (Refused r) → OnTaken {X = X} (Err k) (Brings P y os os2)
refused_as X P y os os2 k r e h = subst (λ z. OnTaken {X = X} (Err z) (Brings P y os os2)) (sym e) h

-- more is known of each outcome
brought_more : {X Y : Type 0} (P Q : Taken Y → Type 0) (y : Y) (old new : List Obligation) (z : Result X ItemFault) → ((o : Taken Y) → P o → Q o) → OnTaken z (Brings P y old new) → OnTaken z (Brings Q y old new)
brought_more P Q y old new (Ok x) k h = record { made = h.made; is_made = k (Made h.made y) h.is_made; are_last = h.are_last }
brought_more P Q y old new (Err (fault.Refused r)) k h = k (Refused r) h
brought_more P Q y old new (Err fault.Memory) k h = tt

-- a justification

abbrev Judges : Standing → Extent → Context → PropertyTree → Sentence → Walked Left → Type 0
Judges s at c t y = Justifies s.environment at c t.place false t.semicolon t.just y s.left

pub told_justified : {X : Type 0} (s : Standing) (at : Extent) (t : PropertyTree) (y : Sentence) (l : Left) (os os2 : List Obligation) (z : Result X ProofFault) → at ≡ extent_of s →
    OnMade z (walk.Brings (Justifies s.environment at s.context t.place false t.semicolon t.just y s.left) l os os2) →
    OnMade z (walk.Brings (Justifies s.environment (extent_of s) s.context t.place false t.semicolon t.just y s.left) l os os2)
told_justified s at t y l os os2 z e h = subst (λ (d : Extent). OnMade z (walk.Brings (Judges s d s.context t y) l os os2)) e h

pub told_same : (s u : Standing) (c : Context) (l : Left) → c ≡ s.context → u ≡ with_left (with_context s c) l → u ≡ with_left s u.left
told_same s u c l same e = subst (λ (w : Standing). w ≡ with_left s w.left) (sym e) (ap (λ (d : Context). with_left (with_context s d) l) same)

pub ruleset judge_rules = (told_justified, told_same)

made_by : {X : Type 0} (P : Result X ProofRefusal → Type 0) (z : Result X ProofFault) (x : X) → z ≡ Ok x → OnMade z P → P (Ok x)
made_by P z x e h = subst (λ y. OnMade y P) e h

refused_so : {X Y : Type 0} (P : Result X ProofRefusal → Type 0) (Q : Result Y ItemRefusal → Type 0) (f : ProofFault) → OnMade {X = X} (Err f) P → ((r : ProofRefusal) → P (Err r) → Q (Err (Proof r))) → OnTaken {X = Y} (Err (of_reasoning f)) Q
refused_so P Q (reasoning.Refused r) h k = k r h
refused_so P Q reasoning.Memory h k = tt

refused_by : {X Y : Type 0} (P : Result X ProofRefusal → Type 0) (Q : Result Y ItemRefusal → Type 0) (z : Result X ProofFault) (f : ProofFault) → z ≡ Err f → OnMade z P → ((r : ProofRefusal) → P (Err r) → Q (Err (Proof r))) → OnTaken {X = Y} (Err (of_reasoning f)) Q
refused_by P Q z f e h k = refused_so P Q f (subst (λ y. OnMade y P) e h) k

-- a property as it is known

said : (least count : ℕ) (p : TheProperty) (s : Standing) (t : PropertyTree) (y : Sentence) (o : Walked Left) → y ≡ plain_sentence (statement_at_loci least count (stated p)) → Judges s (extent_of s) s.context t y o →
    Judges s (extent_of s) s.context t (plain_sentence (statement_at_loci least count (stated p))) o
said least count p s t y o e h = subst (λ (x : Sentence). Judges s (extent_of s) s.context t x o) e h

pub told_too_large : (X : Type 0) (least count : ℕ) (p : TheProperty) (s u : Standing) (t : PropertyTree) (os os2 : List Obligation) (b : Bool) (k : ItemFault) → b ≡ property_keeps p → b ≡ false → k ≡ fault.Refused (Proof (Resolve (TooLarge t.place))) →
    OnTaken {X = X} (Err k) (Brings (TakesKnown least count p s t) u os os2)
told_too_large X least count p s u t os os2 b k eb ef ek = refused_as X (TakesKnown least count p s t) u os os2 k (Proof (Resolve (TooLarge t.place))) ek (rule.too_large (sym eb ∙ ef))

pub told_unjudged : (X : Type 0) {Z : Type 0} (least count : ℕ) (p : TheProperty) (s s2 u : Standing) (t : PropertyTree) (y : Sentence) (os os2 os3 : List Obligation) (b : Bool) (z : Result Z ProofFault) (f : ProofFault) (k : ItemFault) → b ≡ property_keeps p → b ≡ true →
    y ≡ plain_sentence (statement_at_loci least count (stated p)) → OnMade z (walk.Brings (Judges s (extent_of s) s.context t y) s2.left os os2) → z ≡ Err f → k ≡ of_reasoning f → OnTaken {X = X} (Err k) (Brings (TakesKnown least count p s t) u os os3)
told_unjudged X {Z} least count p s s2 u t y os os2 os3 b z f k eb et ey h ez ek =
    let P : Result Z ProofRefusal → Type 0 = walk.Brings (Judges s (extent_of s) s.context t y) s2.left os os2 in
    let Q : Result X ItemRefusal → Type 0 = Brings (TakesKnown least count p s t) u os os3 in
    subst (λ (g : ItemFault). OnTaken {X = X} (Err g) Q) (sym ek)
    (refused_by P Q z f ez h (λ r j. rule.judged (walked.Refused r) (sym eb ∙ et) (said least count p s t y (walked.Refused r) ey j)))

same_force : (s s2 : Standing) (x : Item) → s2 ≡ with_left s s2.left → in_force s2 x s2.left ≡ in_force s x s2.left
same_force s s2 x e = ap (λ (w : Standing). in_force w x s2.left) e

pub told_judged : {Z : Type 0} (least count : ℕ) (p : TheProperty) (s s2 u : Standing) (t : PropertyTree) (y : Sentence) (os os2 : List Obligation) (b : Bool) (z : Result Z ProofFault) (v : Z) → b ≡ property_keeps p → b ≡ true →
    y ≡ plain_sentence (statement_at_loci least count (stated p)) → OnMade z (walk.Brings (Judges s (extent_of s) s.context t y) s2.left os os2) → z ≡ Ok v → OnOk z (s2 ≡ with_left s s2.left) → u ≡ in_force s2 (item.Property p) s2.left →
    IsBrought (λ qs. TakesKnown least count p s t (Made qs u)) os os2
told_judged {Z} least count p s s2 u t y os os2 b z v eb et ey h ez es eu =
    let P : Result Z ProofRefusal → Type 0 = walk.Brings (Judges s (extent_of s) s.context t y) s2.left os os2 in
    let made : P (Ok v) = made_by P z v ez h in
    let same : s2 ≡ with_left s s2.left = subst (λ q. OnOk q (s2 ≡ with_left s s2.left)) ez es in
    let there : u ≡ in_force s (item.Property p) s2.left = eu ∙ same_force s s2 (item.Property p) same in
    record {
      made = made.made;
      is_made = subst (λ (w : Standing). TakesKnown least count p s t (Made made.made w)) (sym there) (rule.judged (walked.Made made.made s2.left) (sym eb ∙ et) (said least count p s t y (walked.Made made.made s2.left) ey made.is_made));
      are_last = made.are_last;
    }

-- behind an item

pub told_stray : (X : Type 0) (least count : ℕ) (x : Item) (s u : Standing) (t : PropertyTree) (os os2 : List Obligation) (o : Option TheProperty) (k : ItemFault) → o ≡ property_of t.word x → o ≡ None → k ≡ fault.Refused (ConditionStray t.place 7) →
    OnTaken {X = X} (Err k) (Brings (TakesProperty least count x s t) u os os2)
told_stray X least count x s u t os os2 o k eo en ek = refused_as X (TakesProperty least count x s t) u os os2 k (ConditionStray t.place 7) ek (rule.stray (sym eo ∙ en))

pub told_known : {X : Type 0} (least count : ℕ) (x : Item) (s u : Standing) (t : PropertyTree) (os os2 : List Obligation) (o : Option TheProperty) (p q : TheProperty) (z : Result X ItemFault) → o ≡ property_of t.word x → o ≡ Some p → q ≡ p →
    OnTaken z (Brings (TakesKnown least count q s t) u os os2) → OnTaken z (Brings (TakesProperty least count x s t) u os os2)
told_known least count x s u t os os2 o p q z eo es eq h =
    brought_more (TakesKnown least count q s t) (TakesProperty least count x s t) u os os2 z (λ w j. rule.known q w (sym eo ∙ (es ∙ ap (λ (r : TheProperty). Some r) (sym eq))) j) h

-- further ones

pub told_property : {X : Type 0} (least count : ℕ) (x : Item) (owed : Owed) (s u : Standing) (w : ConditionOrPropertyTree) (t : PropertyTree) (os os2 : List Obligation) (z : Result X ItemFault) → w ≡ Property t → OnTaken z (Brings (TakesProperty least count x s t) u os os2) →
    OnTaken z (Brings (TakesFurther least count x owed s w) u os os2)
told_property least count x owed s u w t os os2 z is h =
    brought_more (TakesProperty least count x s t) (TakesFurther least count x owed s w) u os os2 z (λ o k. subst (λ v. TakesFurther least count x owed s v o) (sym is) (rule.property t o k)) h

pub told_condition : (X : Type 0) (least count : ℕ) (x : Item) (owed : Owed) (s u : Standing) (w : ConditionOrPropertyTree) (t : ConditionTree) (os os2 : List Obligation) (k : ItemFault) → w ≡ Condition t → k ≡ fault.Refused (condition_refusal (covered owed t.word) t) →
    OnTaken {X = X} (Err k) (Brings (TakesFurther least count x owed s w) u os os2)
told_condition X least count x owed s u w t os os2 k is ek =
    refused_as X (TakesFurther least count x owed s w) u os os2 k (condition_refusal (covered owed t.word) t) ek
    (subst (λ v. TakesFurther least count x owed s v (Refused (condition_refusal (covered owed t.word) t))) (sym is) (rule.condition t))
