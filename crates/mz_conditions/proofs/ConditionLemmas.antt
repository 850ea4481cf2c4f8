-- What the code of conditions tells.
use Rattle.std.proofs.Common.{◌≡◌, ◌∙◌, ℕ, Bool, true, false, List, [], ◌∷◌, length, refl, sym, ap, subst}
use Rattle.std.specs.Prelude.{nat_eq, Result, Ok, Err, OnOk}
use Rattle.std.proofs.lemmas.Bool.{eqb-true, eqb-false}
use Rattle.mz_core.specs.declared.item.Item.{Item}
use Rattle.mz_core.specs.declared.outcome.Left.{Left}
use Rattle.mz_items.specs.declared.condition.Condition.{Condition}
use Rattle.mz_context.specs.declared.context.Context.{Context}
use Rattle.mz_environment.specs.declared.environment.Environment.{Environment}
use Rattle.mz_formulas.specs.declared.sentence.Sentence.{Sentence}
use Rattle.mz_justified.specs.Answers.{OnMade}
use Rattle.mz_justified.specs.declared.proof_fault.ProofFault.{ProofFault}
use Rattle.mz_justified.specs.declared.proof_fault.ProofFault.TheVariants as reasoning
use Rattle.mz_obligations.specs.declared.obligation.Extent.{Extent}
use Rattle.mz_obligations.specs.declared.obligation.Obligation.{Obligation}
use Rattle.mz_walk.specs.Answers as walk
use Rattle.mz_walk.specs.Walked as walked
use Rattle.mz_walk.specs.Walked.{Walked}
use Rattle.mz_walk.specs.Walk.{Justifies}
use Rattle.mz_taken.specs.Taken.{Taken, Refused}
use Rattle.mz_taken.specs.Answers.{OnTaken, Brings}
use Rattle.mz_taken.specs.OneByOne.{OneByOne}
use Rattle.mz_taken.proofs.OneByOneProofs.{Reading, told_turn, told_stop}
use Rattle.mz_taken.specs.declared.item_fault.ItemFault.{ItemFault}
use Rattle.mz_taken.specs.declared.item_fault.ItemRefusal.TheVariants.{ConditionStray}
use Rattle.mz_tree_item.specs.declared.definition.ConditionTree.{ConditionTree}
use Rattle.mz_loci.specs.Loci.{statement_at_loci}
use Rattle.mz_conditions.specs.Answers.{of_walk}
use Rattle.mz_owed.specs.Owed.{named, number_of, covered, written, joint_thesis}
use Rattle.mz_conditions.specs.Conditions as co
use Rattle.mz_conditions.specs.Conditions.{Asked, asked, plain_sentence, behind_judged, TakesCondition}
use Rattle.mz_owed.specs.declared.owed.Owed.{Owed}

-- a word that covers nothing
empty : (cs : List Condition) → length cs ≡ 0 → cs ≡ []
empty [] e = refl
empty (c ∷ cs) e = let no : ⊥ = cc in absurd no

pub told_stray : (e : Environment) (at : Extent) (c : Context) (least count : ℕ) (x : Item) (o : Owed) (l : Left) (t : ConditionTree) (cs : List Condition) (n : ℕ) (b : Bool) → cs ≡ covered o t.word → b ≡ nat_eq (length cs) 0 → b ≡ true → n ≡ number_of (named t.word) →
    TakesCondition e at c least count x (asked o l) t (Refused (ConditionStray t.place n))
told_stray e at c least count x o l t cs n b ec eb et en =
    subst (λ (k : ℕ). TakesCondition e at c least count x (asked o l) t (Refused (ConditionStray t.place k))) (sym en) (co.stray (sym ec ∙ empty cs (eqb-true (length cs) 0 (sym eb ∙ et))))

-- one that covers something
record Some (cs : List Condition) : Type 0 where
  first : Condition
  others : List Condition
  is : cs ≡ first ∷ others

some_of : (cs : List Condition) → (length cs ≡ 0 → ⊥) → Some cs
some_of [] n = absurd (n refl)
some_of (c ∷ cs) n = record { first = c; others = cs; is = refl }

judged_on : {X : Type 0} (P : Walked Left → Type 0) (Q : Taken Asked → Type 0) (o : Owed) (l : Left) (os os2 : List Obligation) (z : Result X ProofFault) → ((w : Walked Left) → P w → Q (behind_judged o w)) →
    OnMade z (walk.Brings P l os os2) → OnTaken (of_walk z) (Brings Q (asked o l) os os2)
judged_on P Q o l os os2 (Ok v) g b = record { made = b.made; is_made = g (walked.Made b.made l) b.is_made; are_last = b.are_last }
judged_on P Q o l os os2 (Err (reasoning.Refused r)) g h = g (walked.Refused r) h
judged_on P Q o l os os2 (Err reasoning.Memory) g h = tt

pub told_judged : {X : Type 0} (e : Environment) (at : Extent) (c : Context) (least count : ℕ) (x : Item) (o o2 : Owed) (l l2 : Left) (t : ConditionTree) (cs : List Condition) (y : Sentence) (os os2 : List Obligation) (z : Result X ProofFault) (a : Result X ItemFault) (b : Bool) →
    cs ≡ covered o t.word → b ≡ nat_eq (length cs) 0 → b ≡ false → y ≡ plain_sentence (statement_at_loci least count (joint_thesis x cs)) → o2 ≡ written o t.word →
    OnMade z (walk.Brings (Justifies e at c t.place false t.semicolon t.just y l) l2 os os2) → a ≡ of_walk z →
    OnTaken a (Brings (TakesCondition e at c least count x (asked o l) t) (asked o2 l2) os os2)
told_judged {X} e at c least count x o o2 l l2 t cs y os os2 z a b ec eb et ey eo h ea =
    let k : Some cs = some_of cs (eqb-false (length cs) 0 (sym eb ∙ et)) in
    let here : covered o t.word ≡ k.first ∷ k.others = sym ec ∙ k.is in
    let said : y ≡ plain_sentence (statement_at_loci least count (joint_thesis x (k.first ∷ k.others))) = ey ∙ ap (λ (ds : List Condition). plain_sentence (statement_at_loci least count (joint_thesis x ds))) k.is in
    let Q : Taken Asked → Type 0 = TakesCondition e at c least count x (asked o l) t in
    let P : Walked Left → Type 0 = Justifies e at c t.place false t.semicolon t.just y l in
    let all : OnTaken (of_walk z) (Brings Q (asked (written o t.word) l2) os os2) =
    judged_on P Q (written o t.word) l2 os os2 z
    (λ w j. co.judged k.first k.others w here (subst (λ (s : Sentence). Justifies e at c t.place false t.semicolon t.just s l w) said j)) h in
    subst (λ (r : Result X ItemFault). OnTaken r (Brings Q (asked o2 l2) os os2)) (sym ea) (subst (λ (p : Owed). OnTaken (of_walk z) (Brings Q (asked p l2) os os2)) (sym eo) all)

pub ruleset condition_rules = (told_stray, told_judged)

-- one after another, in a context that stays
pub same_there : {Y : Type 0} (z : Result Y ItemFault) (v : Y) (b c d : Context) → OnOk z (d ≡ c) → z ≡ Ok v → c ≡ b → d ≡ b
same_there z v b c d h e before = subst (λ y. OnOk y (d ≡ c)) e h ∙ before

there : {Y : Type 0} (e : Environment) (at : Extent) (c d : Context) (least count : ℕ) (x : Item) (o u : Owed) (l m : Left) (os os2 : List Obligation) (t : ConditionTree) (z : Result Y ItemFault) → d ≡ c →
    OnTaken z (Brings (TakesCondition e at d least count x (asked o l) t) (asked u m) os os2) → OnTaken z (Brings (TakesCondition e at c least count x (asked o l) t) (asked u m) os os2)
there e at c d least count x o u l m os os2 t z ed h = subst (λ (y : Context). OnTaken z (Brings (TakesCondition e at y least count x (asked o l) t) (asked u m) os os2)) ed h

pub told_condition_turn : {Y : Type 0} (e : Environment) (at : Extent) (c d : Context) (least count : ℕ) (x : Item) (o u o0 : Owed) (l m l0 : Left) (os os2 os0 : List Obligation) (t : ConditionTree) (rest others all : List ConditionTree) (z : Result Y ItemFault) (v : Y) →
    rest ≡ t ∷ others → d ≡ c → OnTaken z (Brings (TakesCondition e at d least count x (asked o l) t) (asked u m) os os2) → z ≡ Ok v →
    Reading (TakesCondition e at c least count x) (asked o l) os rest (asked o0 l0) os0 all → Reading (TakesCondition e at c least count x) (asked u m) os2 others (asked o0 l0) os0 all
told_condition_turn e at c d least count x o u o0 l m l0 os os2 os0 t rest others all z v is ed h ez so_far =
    told_turn (TakesCondition e at c least count x) (asked o l) (asked u m) (asked o0 l0) os os2 os0 t rest others all z v is (there e at c d least count x o u l m os os2 t z ed h) ez so_far

pub told_condition_stop : {Y : Type 0} (Z : Type 0) (e : Environment) (at : Extent) (c d : Context) (least count : ℕ) (x : Item) (o u o0 p : Owed) (l m l0 k : Left) (os os2 os0 qs : List Obligation) (t : ConditionTree) (rest others all : List ConditionTree) (z : Result Y ItemFault) (f : ItemFault) →
    rest ≡ t ∷ others → d ≡ c → OnTaken z (Brings (TakesCondition e at d least count x (asked o l) t) (asked u m) os os2) → z ≡ Err f →
    Reading (TakesCondition e at c least count x) (asked o l) os rest (asked o0 l0) os0 all → OnTaken {X = Z} (Err f) (Brings (OneByOne (TakesCondition e at c least count x) (asked o0 l0) all) (asked p k) os0 qs)
told_condition_stop Z e at c d least count x o u o0 p l m l0 k os os2 os0 qs t rest others all z f is ed h ez so_far =
    told_stop Z (TakesCondition e at c least count x) (asked o l) (asked u m) (asked p k) (asked o0 l0) os os2 os0 qs t rest others all z f is (there e at c d least count x o u l m os os2 t z ed h) ez so_far
