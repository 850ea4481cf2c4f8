-- What the code of items with conditions tells.
use Rattle.std.proofs.Common.{◌≡◌, ◌∙◌, ℕ, Bool, true, false, List, [], ◌∷◌, ◌++◌, length, append_assoc, refl, sym, ap, subst, Option, Some, None}
use Rattle.std.specs.Prelude.{Result, Ok, Err, OnOk}
use Rattle.mz_base.specs.declared.place.Place.{Place}
use Rattle.mz_core.specs.declared.item.Item.{Item}
use Rattle.mz_core.specs.declared.outcome.Left.{Left}
use Rattle.mz_items.specs.declared.condition.Condition.{Condition as TheCondition}
use Rattle.mz_context.specs.declared.context.Context.{Context}
use Rattle.mz_environment.specs.declared.environment.Environment.{Environment}
use Rattle.mz_justified.specs.declared.proof_fault.ProofRefusal.TheVariants.{Resolve}
use Rattle.mz_names.specs.declared.refusal.Refusal.TheVariants.{TooLarge}
use Rattle.mz_obligations.specs.declared.obligation.Extent.{Extent}
use Rattle.mz_obligations.specs.declared.obligation.Obligation.{Obligation}
use Rattle.mz_owed.specs.Owed.{at_first, missing}
use Rattle.mz_owed.specs.declared.owed.Owed.{Owed}
use Rattle.mz_conditions.specs.Conditions.{Asked, asked, TakesCondition, TakesConditions}
use Rattle.mz_properties.specs.Properties.{TakesAllFurther}
use Rattle.mz_standing.specs.Standing.{extent_of, with_left, with_context}
use Rattle.mz_standing.specs.declared.standing.Standing.{Standing}
use Rattle.mz_taken.specs.Taken as taken
use Rattle.mz_taken.specs.Taken.{Taken, Made, Refused}
use Rattle.mz_taken.specs.Answers.{OnTaken, IsBrought, Brings}
use Rattle.mz_taken.specs.OneByOne.{OneByOne}
use Rattle.mz_taken.proofs.OneByOneProofs.{Reading, on_err, on_ok, told_turn, told_stop, told_end}
use Rattle.mz_taken.specs.declared.item_fault.ItemFault.{ItemFault}
use Rattle.mz_taken.specs.declared.item_fault.ItemFault.TheVariants as fault
use Rattle.mz_taken.specs.declared.item_fault.ItemRefusal.{ItemRefusal}
use Rattle.mz_taken.specs.declared.item_fault.ItemRefusal.TheVariants.{Proof}
use Rattle.mz_tree_item.specs.declared.definition.ConditionTree.{ConditionTree}
use Rattle.mz_tree_item.specs.declared.definition.PropertyTree.{PropertyTree}
use Rattle.mz_tree_item.specs.declared.definition.ConditionOrPropertyTree.{ConditionOrPropertyTree}
use Rattle.mz_tree_item.specs.declared.definition.ConditionOrPropertyTree.TheVariants.{Condition, Property}
use Rattle.mz_defined.specs.Owing as ow
use Rattle.mz_defined.specs.Owing.{headed, all_keep, conditions_in, further_in, unless_missing, loci_count, TakesWritten, TakesOwing}
use Rattle.mz_heading.specs.Ends.{missing_answer, EndsItem}
use Rattle.mz_heading.proofs.AnswerLemmas.{refused_as, brought_more}

-- the conditions before the first property, in a context that stays
pub same_there : {Y : Type 0} (z : Result Y ItemFault) (v : Y) (b c d : Context) → OnOk z (d ≡ c) → z ≡ Ok v → c ≡ b → d ≡ b
same_there z v b c d h e before = subst (λ y. OnOk y (d ≡ c)) e h ∙ before

there : {Y : Type 0} (e : Environment) (at : Extent) (c d : Context) (least count : ℕ) (x : Item) (a b : Asked) (os os2 : List Obligation) (t : ConditionTree) (z : Result Y ItemFault) → d ≡ c →
    OnTaken z (Brings (TakesCondition e at d least count x a t) b os os2) → OnTaken z (Brings (TakesCondition e at c least count x a t) b os os2)
there e at c d least count x a b os os2 t z ed h = subst (λ (y : Context). OnTaken z (Brings (TakesCondition e at y least count x a t) b os os2)) ed h

first_condition : (rest others : List ConditionOrPropertyTree) (w : ConditionOrPropertyTree) (t : ConditionTree) → rest ≡ w ∷ others → w ≡ Condition t → conditions_in rest ≡ t ∷ conditions_in others
first_condition rest others w t er ew = ap conditions_in (er ∙ ap (λ v. v ∷ others) ew)

pub told_first_turn : {Y : Type 0} (e : Environment) (at : Extent) (c d : Context) (least count : ℕ) (x : Item) (a b a0 : Asked) (os os2 os0 : List Obligation) (w : ConditionOrPropertyTree) (t : ConditionTree) (rest others all : List ConditionOrPropertyTree) (z : Result Y ItemFault) (v : Y) →
    rest ≡ w ∷ others → w ≡ Condition t → d ≡ c → OnTaken z (Brings (TakesCondition e at d least count x a t) b os os2) → z ≡ Ok v →
    Reading (TakesCondition e at c least count x) a os (conditions_in rest) a0 os0 (conditions_in all) → Reading (TakesCondition e at c least count x) b os2 (conditions_in others) a0 os0 (conditions_in all)
told_first_turn e at c d least count x a b a0 os os2 os0 w t rest others all z v er ew ed h ez so_far =
    told_turn (TakesCondition e at c least count x) a b a0 os os2 os0 t (conditions_in rest) (conditions_in others) (conditions_in all) z v (first_condition rest others w t er ew) (there e at c d least count x a b os os2 t z ed h) ez so_far

pub told_first_stop : {Y : Type 0} (Z : Type 0) (e : Environment) (at : Extent) (c d : Context) (least count : ℕ) (x : Item) (a b a0 p : Asked) (os os2 os0 qs : List Obligation) (w : ConditionOrPropertyTree) (t : ConditionTree) (rest others all : List ConditionOrPropertyTree) (z : Result Y ItemFault) (f : ItemFault) →
    rest ≡ w ∷ others → w ≡ Condition t → d ≡ c → OnTaken z (Brings (TakesCondition e at d least count x a t) b os os2) → z ≡ Err f →
    Reading (TakesCondition e at c least count x) a os (conditions_in rest) a0 os0 (conditions_in all) → OnTaken {X = Z} (Err f) (Brings (OneByOne (TakesCondition e at c least count x) a0 (conditions_in all)) p os0 qs)
told_first_stop Z e at c d least count x a b a0 p os os2 os0 qs w t rest others all z f er ew ed h ez so_far =
    told_stop Z (TakesCondition e at c least count x) a b p a0 os os2 os0 qs t (conditions_in rest) (conditions_in others) (conditions_in all) z f (first_condition rest others w t er ew) (there e at c d least count x a b os os2 t z ed h) ez so_far

pub further_there : (rest others all : List ConditionOrPropertyTree) (w : ConditionOrPropertyTree) (t : ConditionTree) → rest ≡ w ∷ others → w ≡ Condition t → further_in rest ≡ further_in all → further_in others ≡ further_in all
further_there rest others all w t er ew e = sym (ap further_in (er ∙ ap (λ v. v ∷ others) ew)) ∙ e

-- it ends where a property stands, and where nothing does
no_conditions : (rest others : List ConditionOrPropertyTree) (w : ConditionOrPropertyTree) (t : PropertyTree) → rest ≡ w ∷ others → w ≡ Property t → length (conditions_in rest) ≡ 0
no_conditions rest others w t er ew = ap (λ vs. length (conditions_in vs)) (er ∙ ap (λ v. v ∷ others) ew)

pub told_at_property : (e : Environment) (at : Extent) (c : Context) (least count : ℕ) (x : Item) (a a0 : Asked) (os os0 : List Obligation) (w : ConditionOrPropertyTree) (t : PropertyTree) (rest others all : List ConditionOrPropertyTree) → rest ≡ w ∷ others → w ≡ Property t →
    Reading (TakesCondition e at c least count x) a os (conditions_in rest) a0 os0 (conditions_in all) → IsBrought (λ ps. OneByOne (TakesCondition e at c least count x) a0 (conditions_in all) (Made ps a)) os0 os
told_at_property e at c least count x a a0 os os0 w t rest others all er ew so_far =
    told_end (TakesCondition e at c least count x) a a0 os os0 (conditions_in rest) (conditions_in all) (no_conditions rest others w t er ew) so_far

pub further_at_property : (rest others all : List ConditionOrPropertyTree) (w : ConditionOrPropertyTree) (t : PropertyTree) → rest ≡ w ∷ others → w ≡ Property t → further_in rest ≡ further_in all → rest ≡ further_in all
further_at_property rest others all w t er ew e =
    let is : rest ≡ Property t ∷ others = er ∙ ap (λ v. v ∷ others) ew in
    is ∙ (sym (ap further_in is) ∙ e)

empty : (rest : List ConditionOrPropertyTree) → length rest ≡ 0 → rest ≡ []
empty [] e = refl
empty (w ∷ ws) e = let no : ⊥ = cc in absurd no

pub told_at_end : (e : Environment) (at : Extent) (c : Context) (least count : ℕ) (x : Item) (a a0 : Asked) (os os0 : List Obligation) (rest all : List ConditionOrPropertyTree) → length rest ≡ 0 →
    Reading (TakesCondition e at c least count x) a os (conditions_in rest) a0 os0 (conditions_in all) → IsBrought (λ ps. OneByOne (TakesCondition e at c least count x) a0 (conditions_in all) (Made ps a)) os0 os
told_at_end e at c least count x a a0 os os0 rest all none so_far =
    told_end (TakesCondition e at c least count x) a a0 os os0 (conditions_in rest) (conditions_in all) (ap (λ vs. length (conditions_in vs)) (empty rest none)) so_far

pub further_at_end : (rest all : List ConditionOrPropertyTree) → length rest ≡ 0 → further_in rest ≡ further_in all → rest ≡ further_in all
further_at_end rest all none e = empty rest none ∙ (sym (ap further_in (empty rest none)) ∙ e)

-- by what stands
pub told_written : {X : Type 0} (s : Standing) (at : Extent) (least count : ℕ) (x : Item) (a b : Asked) (ts : List ConditionTree) (os os2 : List Obligation) (z : Result X ItemFault) → at ≡ extent_of s →
    OnTaken z (Brings (TakesConditions s.environment at s.context least count x a ts) b os os2) → OnTaken z (Brings (TakesConditions s.environment (extent_of s) s.context least count x a ts) b os os2)
told_written s at least count x a b ts os os2 z e h = subst (λ y. OnTaken z (Brings (TakesConditions s.environment y s.context least count x a ts) b os os2)) e h

pub told_same : (s u : Standing) (c : Context) (l : Left) → c ≡ s.context → u ≡ with_left (with_context s c) l → u ≡ with_left s u.left
told_same s u c l same e = subst (λ w. w ≡ with_left s w.left) (sym e) (ap (λ d. with_left (with_context s d) l) same)

pub ruleset written_rules = (told_written, told_same)

-- behind the conditions

further_so : (least count : ℕ) (s s2 : Standing) (label : List ℕ) (x y : Item) (owed : Owed) (ws : List ConditionOrPropertyTree) (o : Taken Standing) → y ≡ x → s2 ≡ headed s x label s.left → TakesAllFurther least count y owed s2 ws o → TakesAllFurther least count x owed (headed s x label s.left) ws o
further_so least count s s2 label x y owed ws o ey es h = subst (λ (w : Standing). TakesAllFurther least count x owed w ws o) es (subst (λ i. TakesAllFurther least count i owed s2 ws o) ey h)

still_refused : (behind : Place) (m : Option TheCondition) (r : ItemRefusal) → unless_missing behind m (Refused r) ≡ Refused r
still_refused behind None r = refl
still_refused behind (Some c) r = refl

pub told_end_stopped : (X : Type 0) {Y : Type 0} (least count : ℕ) (s s2 u v : Standing) (label : List ℕ) (x y : Item) (owed : Owed) (ws : List ConditionOrPropertyTree) (behind : Place) (os os2 os3 : List Obligation) (z : Result Y ItemFault) (f : ItemFault) → y ≡ x → s2 ≡ headed s x label s.left →
    OnTaken z (Brings (TakesAllFurther least count y owed s2 ws) u os os2) → z ≡ Err f → OnTaken {X = X} (Err f) (Brings (EndsItem least count s label x owed ws behind) v os os3)
told_end_stopped X {Y} least count s s2 u v label x y owed ws behind os os2 os3 z f ey es h ez =
    on_err (Brings (TakesAllFurther least count y owed s2 ws) u os os2) (Brings (EndsItem least count s label x owed ws behind) v os os3) z f ez h
    (λ r k. record { further = Refused r; takes = further_so least count s s2 label x y owed ws (Refused r) ey es k; ends = still_refused behind (missing owed) r })

ended_as : (least count : ℕ) (s u : Standing) (label : List ℕ) (x : Item) (owed : Owed) (ws : List ConditionOrPropertyTree) (behind : Place) (os os2 : List Obligation) (m : Option TheCondition) → missing owed ≡ m →
    IsBrought (λ ps. TakesAllFurther least count x owed (headed s x label s.left) ws (Made ps u)) os os2 → OnTaken (missing_answer behind m) (Brings (EndsItem least count s label x owed ws behind) u os os2)
ended_as least count s u label x owed ws behind os os2 None e h = record { made = h.made; is_made = record { further = Made h.made u; takes = h.is_made; ends = ap (λ c. unless_missing behind c (Made h.made u)) e }; are_last = h.are_last }
ended_as least count s u label x owed ws behind os os2 (Some c) e h = record { further = Made h.made u; takes = h.is_made; ends = ap (λ d. unless_missing behind d (Made h.made u)) e }

pub told_end_item : {Y : Type 0} (least count : ℕ) (s s2 u : Standing) (label : List ℕ) (x y : Item) (owed : Owed) (ws : List ConditionOrPropertyTree) (behind : Place) (os os2 : List Obligation) (z : Result Y ItemFault) (v : Y) (m : Option TheCondition) (k : Result (Unit {0}) ItemFault) → y ≡ x → s2 ≡ headed s x label s.left →
    OnTaken z (Brings (TakesAllFurther least count y owed s2 ws) u os os2) → z ≡ Ok v → m ≡ missing owed → k ≡ missing_answer behind m → OnTaken k (Brings (EndsItem least count s label x owed ws behind) u os os2)
told_end_item {Y} least count s s2 u label x y owed ws behind os os2 z v m k ey es h ez em ek =
    let b = on_ok (Brings (TakesAllFurther least count y owed s2 ws) u os os2) z v ez h in
    subst (λ r. OnTaken r (Brings (EndsItem least count s label x owed ws behind) u os os2)) (sym ek)
    (ended_as least count s u label x owed ws behind os os2 m (sym em) (record { made = b.made; is_made = further_so least count s s2 label x y owed ws (Made b.made u) ey es b.is_made; are_last = b.are_last }))

-- the item
abbrev Conditions : ℕ → ℕ → Standing → Item → Owed → List ConditionOrPropertyTree → Taken Asked → Type 0
Conditions least count s x w ws = TakesConditions s.environment (extent_of s) s.context least count x (asked w s.left) (conditions_in ws)

record Taking (least count : ℕ) (s : Standing) (x : Item) (w : Owed) (ws : List ConditionOrPropertyTree) (o : Taken Asked) : Type 0 where
  takes : Conditions least count s x w ws o

taking_so : (least count : ℕ) (s : Standing) (x : Item) (w : Owed) (ws : List ConditionOrPropertyTree) (o : Taken Asked) → count ≡ loci_count least s.context → w ≡ at_first x → Conditions least count s x w ws o → Conditions least (loci_count least s.context) s x (at_first x) ws o
taking_so least count s x w ws o ec ew h =
    (subst (λ (v : Owed). Taking least (loci_count least s.context) s x v ws o) ew (subst (λ (n : ℕ). Taking least n s x w ws o) ec (record { takes = h }))).takes

pub of_item : {Y : Type 0} (least count : ℕ) (s : Standing) (x i : Item) (w o : Owed) (l : Left) (ws : List ConditionOrPropertyTree) (os os2 : List Obligation) (z : Result Y ItemFault) → i ≡ x → OnTaken z (Brings (Conditions least count s i w ws) (asked o l) os os2) →
    OnTaken z (Brings (Conditions least count s x w ws) (asked o l) os os2)
of_item least count s x i w o l ws os os2 z e h = subst (λ (j : Item). OnTaken z (Brings (Conditions least count s j w ws) (asked o l) os os2)) e h

pub told_stopped : (X : Type 0) {Y : Type 0} (least count : ℕ) (s u : Standing) (label : List ℕ) (x : Item) (ws : List ConditionOrPropertyTree) (behind : Place) (w o : Owed) (l : Left) (os os2 os3 : List Obligation) (z : Result Y ItemFault) (f : ItemFault) →
    count ≡ loci_count least s.context → w ≡ at_first x → OnTaken z (Brings (Conditions least count s x w ws) (asked o l) os os2) → z ≡ Err f →
    OnTaken {X = X} (Err f) (Brings (TakesWritten least s label x ws behind) u os os3)
told_stopped X {Y} least count s u label x ws behind w o l os os2 os3 z f ec ew h ez =
    on_err (Brings (Conditions least count s x w ws) (asked o l) os os2) (Brings (TakesWritten least s label x ws behind) u os os3) z f ez h
    (λ r k. ow.condition_refused r (taking_so least count s x w ws (Refused r) ec ew k))

brought_behind : {X : Type 0} (Q : Taken Standing → Type 0) (made : List Obligation) (u : Standing) (os os1 os2 : List Obligation) (y : Result X ItemFault) → os1 ≡ os ++ made → OnTaken y (Brings (λ o. Q (taken.behind made o)) u os1 os2) → OnTaken y (Brings Q u os os2)
brought_behind Q made u os os1 os2 (Ok x) e h = record { made = made ++ h.made; is_made = h.is_made; are_last = h.are_last ∙ (ap (λ xs. xs ++ h.made) e ∙ append_assoc os made h.made) }
brought_behind Q made u os os1 os2 (Err (fault.Refused r)) e h = h
brought_behind Q made u os os1 os2 (Err fault.Memory) e h = tt

same_headed : (s s2 : Standing) (x : Item) (label : List ℕ) → s2 ≡ with_left s s2.left → headed s2 x label s2.left ≡ headed s x label s2.left
same_headed s s2 x label e = ap (λ (t : Standing). headed t x label s2.left) e

item_so : (least count : ℕ) (s s2 : Standing) (label : List ℕ) (x : Item) (ws vs : List ConditionOrPropertyTree) (place : Place) (o : Owed) (made : List Obligation) (w : Taken Standing) → count ≡ loci_count least s.context → vs ≡ further_in ws → s2 ≡ with_left s s2.left →
    Conditions least (loci_count least s.context) s x (at_first x) ws (Made made (asked o s2.left)) → EndsItem least count s2 label x o vs place w → TakesWritten least s label x ws place (taken.behind made w)
item_so least count s s2 label x ws vs place o made w ec ev es h k =
    let one : TakesAllFurther least count x o (headed s x label s2.left) vs k.further = subst (λ (t : Standing). TakesAllFurther least count x o t vs k.further) (same_headed s s2 x label es) k.takes in
    let two : TakesAllFurther least count x o (headed s x label s2.left) (further_in ws) k.further = subst (λ us. TakesAllFurther least count x o (headed s x label s2.left) us k.further) ev one in
    let three : TakesAllFurther least (loci_count least s.context) x o (headed s x label s2.left) (further_in ws) k.further = subst (λ n. TakesAllFurther least n x o (headed s x label s2.left) (further_in ws) k.further) ec two in
    subst (λ t. TakesWritten least s label x ws place (taken.behind made t)) k.ends (ow.conditions_taken made (asked o s2.left) k.further h three)

pub told_item : {X Y : Type 0} (least count : ℕ) (s s2 u : Standing) (label : List ℕ) (x : Item) (ws vs : List ConditionOrPropertyTree) (place : Place) (w o : Owed) (os os1 os2 : List Obligation) (z : Result Y ItemFault) (v : Y) (y : Result X ItemFault) →
    count ≡ loci_count least s.context → w ≡ at_first x → OnTaken z (Brings (Conditions least count s x w ws) (asked o s2.left) os os1) → z ≡ Ok v → OnOk z (s2 ≡ with_left s s2.left) → vs ≡ further_in ws →
    OnTaken y (Brings (EndsItem least count s2 label x o vs place) u os1 os2) → OnTaken y (Brings (TakesWritten least s label x ws place) u os os2)
told_item {X} {Y} least count s s2 u label x ws vs place w o os os1 os2 z v y ec ew h ez es ev k =
    let made = on_ok (Brings (Conditions least count s x w ws) (asked o s2.left) os os1) z v ez h in
    let same : s2 ≡ with_left s s2.left = subst (λ q. OnOk q (s2 ≡ with_left s s2.left)) ez es in
    let takes : Conditions least (loci_count least s.context) s x (at_first x) ws (Made made.made (asked o s2.left)) = taking_so least count s x w ws (Made made.made (asked o s2.left)) ec ew made.is_made in
    brought_behind (TakesWritten least s label x ws place) made.made u os os1 os2 y made.are_last
    (brought_more (EndsItem least count s2 label x o vs place) (λ t. TakesWritten least s label x ws place (taken.behind made.made t)) u os1 os2 y
    (λ t j. item_so least count s s2 label x ws vs place o made.made t ec ev same takes j) k)

-- within the limits
keeps_there : (count : ℕ) (c : Context) (least : ℕ) (x : Item) (b : Bool) → count ≡ loci_count least c → b ≡ all_keep count x → (v : Bool) → b ≡ v → all_keep (loci_count least c) x ≡ v
keeps_there count c least x b ec eb v ev = ap (λ n. all_keep n x) (sym ec) ∙ (sym eb ∙ ev)

told_too_large : (least count : ℕ) (s : Standing) (first : Place) (label : List ℕ) (x : Item) (ws : List ConditionOrPropertyTree) (behind : Place) (b : Bool) → count ≡ loci_count least s.context → b ≡ all_keep count x → b ≡ false →
    TakesOwing least s first label x ws behind (Refused (Proof (Resolve (TooLarge first))))
told_too_large least count s first label x ws behind b ec eb ef = ow.too_large (keeps_there count s.context least x b ec eb false ef)

pub told_too_large_as : (X : Type 0) (least count : ℕ) (s u : Standing) (first : Place) (label : List ℕ) (x : Item) (ws : List ConditionOrPropertyTree) (behind : Place) (os os2 : List Obligation) (b : Bool) (k : ItemFault) → count ≡ loci_count least s.context → b ≡ all_keep count x → b ≡ false →
    k ≡ fault.Refused (Proof (Resolve (TooLarge first))) → OnTaken {X = X} (Err k) (Brings (TakesOwing least s first label x ws behind) u os os2)
told_too_large_as X least count s u first label x ws behind os os2 b k ec eb ef ek =
    refused_as X (TakesOwing least s first label x ws behind) u os os2 k (Proof (Resolve (TooLarge first))) ek (told_too_large least count s first label x ws behind b ec eb ef)

pub told_kept : {X : Type 0} (least count : ℕ) (s u : Standing) (first : Place) (label : List ℕ) (x : Item) (ws : List ConditionOrPropertyTree) (behind : Place) (os os2 : List Obligation) (b : Bool) (y : Result X ItemFault) → count ≡ loci_count least s.context → b ≡ all_keep count x → b ≡ true →
    OnTaken y (Brings (TakesWritten least s label x ws behind) u os os2) → OnTaken y (Brings (TakesOwing least s first label x ws behind) u os os2)
told_kept least count s u first label x ws behind os os2 b y ec eb et h =
    brought_more (TakesWritten least s label x ws behind) (TakesOwing least s first label x ws behind) u os os2 y (λ o k. ow.kept o (keeps_there count s.context least x b ec eb true et) k) h
