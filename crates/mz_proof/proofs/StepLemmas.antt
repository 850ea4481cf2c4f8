-- What the code of steps tells.
use Rattle.std.proofs.Common.{◌≡◌, ◌<◌, ◌≤◌, ◌+◌, ℕ, zero, suc, List, [], ◌∷◌, ◌++◌, length, drop, get_or, add-one, Bool, true, false, refl, sym, ap, ◌∙◌, subst, arith, Option, Some, None}
use Rattle.std.specs.Prelude.{Result, Ok, Err, is_some}
use Rattle.std.proofs.lemmas.List.{append-nil, append_assoc}
use Rattle.mz_free.proofs.OccurringLemmas.{drop-at}
use Rattle.mz_base.specs.declared.place.Place.{Place}
use Rattle.mz_environment.specs.declared.environment.Environment.{Environment}
use Rattle.mz_obligations.specs.declared.obligation.Extent.{Extent}
use Rattle.mz_obligations.specs.declared.obligation.Obligation.{Obligation}
use Rattle.mz_justified.specs.Answers.{OnMade}
use Rattle.mz_justified.specs.declared.proof_fault.ProofFault.{ProofFault}
use Rattle.mz_justified.specs.declared.proof_fault.ProofRefusal.{ProofRefusal}
use Rattle.mz_walk.specs.Walk as wa
use Rattle.mz_walk.specs.Answers.{IsBrought, Brings}
use Rattle.mz_performing.proofs.AnswerLemmas.{on_err, on_ok, on_made}
use Rattle.mz_tree.specs.Places.{first_place}
use Rattle.mz_tree_proof.specs.Reasoning.{CompactData, StatementData, StepData, SupposeData, SupposeList, StepList, steps_of, CompactStatement, NowStatement, IntroductionStatement, StatementStep, ThusStep, HenceStep, HerebyStep, SkeletonStep, CasesStep, more_supposes}
use Rattle.mz_tree_proof.specs.SpellReasoning.{spell_step}
use Rattle.mz_tree_proof.specs.declared.introduction.IntroductionTree.{IntroductionTree}
use Rattle.mz_tree_proof.specs.declared.references.LabelTree.{LabelTree}
use Rattle.mz_tree_proof.specs.declared.skeleton.SkeletonTree.{SkeletonTree}
use Rattle.mz_tree_proof.specs.declared.skeleton.SplitTree.{SplitTree}
use Rattle.mz_parts.specs.Propositions.{label_in}
use Rattle.mz_justified.specs.declared.proof_fault.ProofRefusal.TheVariants.{StepNoFit}
use Rattle.mz_walk.specs.Walked.{State, Walked, Made, Refused, behind}
use Rattle.mz_walk.specs.Performing.{is_now}
use Rattle.mz_walk.specs.Skeleton.{StepsOn}
use Rattle.mz_walk.specs.Introductions.{Introduces}
use Rattle.mz_walk.specs.Walk.{Says, SaysNow, States, Goes, Splits, GoesAll}
use Rattle.mz_walk.specs.Answers.{reached}
use Rattle.mz_compact.proofs.SideLemmas.{behind_more, behind_none}

-- what one relation brings, another does
brings : {X Y : Type 0} (W V : Walked Y → Type 0) (y : Y) (os ps : List Obligation) (q : Result X ProofFault) → ((o : Walked Y) → W o → V o) → OnMade q (Brings W y os ps) → OnMade q (Brings V y os ps)
brings {X} {Y} W V y os ps q f h =
    let P : Result X ProofRefusal → Type 0 = Brings W y os ps in
    let R : Result X ProofRefusal → Type 0 = Brings V y os ps in
    on_made P R q h (λ w k. record { made = k.made; is_made = f (Made k.made y) k.is_made; are_last = k.are_last }) (λ r k. f (Refused r) k)

-- a statement
pub told_says : {X : Type 0} (e : Environment) (at : Extent) (s t : State) (first : Place) (tree : StatementData) (then : Option Place) (u v : CompactData) (k : Bool) (os ps : List Obligation) (q : Result X ProofFault) → tree ≡ CompactStatement then u → v ≡ u → k ≡ is_some then →
    OnMade q (Brings (Says e at s first k false v) t os ps) → OnMade q (Brings (States e at s first tree) t os ps)
told_says e at s t first tree then u v k os ps q et ev ek h =
    subst (λ z. OnMade q (Brings (States e at s first z) t os ps)) (sym et) (brings (Says e at s first (is_some then) false u) (States e at s first (CompactStatement then u)) t os ps q (λ o g. wa.says s first then u o g) (subst (λ z. OnMade q (Brings (Says e at s first z false u) t os ps)) ek (subst (λ z. OnMade q (Brings (Says e at s first k false z) t os ps)) ev h)))

pub told_says_now : {X : Type 0} (e : Environment) (at : Extent) (s t : State) (first p end semicolon : Place) (tree : StatementData) (label : Option LabelTree) (ds : StepList) (os ps : List Obligation) (q : Result X ProofFault) → tree ≡ NowStatement label p ds end semicolon →
    OnMade q (Brings (SaysNow e at s first false (label_in label) ds) t os ps) → OnMade q (Brings (States e at s first tree) t os ps)
told_says_now e at s t first p end semicolon tree label ds os ps q et h =
    subst (λ z. OnMade q (Brings (States e at s first z) t os ps)) (sym et) (brings (SaysNow e at s first false (label_in label) ds) (States e at s first (NowStatement label p ds end semicolon)) t os ps q (λ o g. wa.says_now s first p end semicolon label ds o g) h)

pub told_introduces : {X : Type 0} (e : Environment) (at : Extent) (s t : State) (first : Place) (tree : StatementData) (u : IntroductionTree) (os ps : List Obligation) (q : Result X ProofFault) → tree ≡ IntroductionStatement u →
    OnMade q (Brings (λ o. Introduces e at first s u o) t os ps) → OnMade q (Brings (States e at s first tree) t os ps)
told_introduces e at s t first tree u os ps q et h =
    subst (λ z. OnMade q (Brings (States e at s first z) t os ps)) (sym et) (brings (λ o. Introduces e at first s u o) (States e at s first (IntroductionStatement u)) t os ps q (λ o g. wa.introduces s first u o g) h)

-- a step
step_as : {X : Type 0} (e : Environment) (at : Extent) (s t : State) (first : Place) (tree other : StepData) (os ps : List Obligation) (q : Result X ProofFault) → tree ≡ other → OnMade q (Brings (Goes e at s first other) t os ps) → OnMade q (Brings (Goes e at s first tree) t os ps)
step_as e at s t first tree other os ps q et h = subst (λ z. OnMade q (Brings (Goes e at s first z) t os ps)) (sym et) h

pub told_states : {X : Type 0} (e : Environment) (at : Extent) (s t : State) (first : Place) (tree : StepData) (u v : StatementData) (os ps : List Obligation) (q : Result X ProofFault) → tree ≡ StatementStep u → v ≡ u → OnMade q (Brings (States e at s first v) t os ps) → OnMade q (Brings (Goes e at s first tree) t os ps)
told_states e at s t first tree u v os ps q et ev h = step_as e at s t first tree (StatementStep u) os ps q et (brings (States e at s first u) (Goes e at s first (StatementStep u)) t os ps q (λ o g. wa.states s first u o g) (subst (λ z. OnMade q (Brings (States e at s first z) t os ps)) ev h))

pub told_thus : {X : Type 0} (e : Environment) (at : Extent) (s t : State) (first p : Place) (tree : StepData) (u v : CompactData) (os ps : List Obligation) (q : Result X ProofFault) → tree ≡ ThusStep p u → v ≡ u → OnMade q (Brings (Says e at s first false true v) t os ps) → OnMade q (Brings (Goes e at s first tree) t os ps)
told_thus e at s t first p tree u v os ps q et ev h = step_as e at s t first tree (ThusStep p u) os ps q et (brings (Says e at s first false true u) (Goes e at s first (ThusStep p u)) t os ps q (λ o g. wa.thus s first p u o g) (subst (λ z. OnMade q (Brings (Says e at s first false true z) t os ps)) ev h))

pub told_hence : {X : Type 0} (e : Environment) (at : Extent) (s t : State) (first p : Place) (tree : StepData) (u v : CompactData) (os ps : List Obligation) (q : Result X ProofFault) → tree ≡ HenceStep p u → v ≡ u → OnMade q (Brings (Says e at s first true true v) t os ps) → OnMade q (Brings (Goes e at s first tree) t os ps)
told_hence e at s t first p tree u v os ps q et ev h = step_as e at s t first tree (HenceStep p u) os ps q et (brings (Says e at s first true true u) (Goes e at s first (HenceStep p u)) t os ps q (λ o g. wa.hence s first p u o g) (subst (λ z. OnMade q (Brings (Says e at s first true true z) t os ps)) ev h))

pub told_hereby : {X : Type 0} (e : Environment) (at : Extent) (s t : State) (first p end semicolon : Place) (tree : StepData) (ds : StepList) (label : Option LabelTree) (os ps : List Obligation) (q : Result X ProofFault) → tree ≡ HerebyStep p ds end semicolon → label ≡ None →
    OnMade q (Brings (SaysNow e at s first true (label_in label) ds) t os ps) → OnMade q (Brings (Goes e at s first tree) t os ps)
told_hereby e at s t first p end semicolon tree ds label os ps q et el h =
    step_as e at s t first tree (HerebyStep p ds end semicolon) os ps q et
    (brings (SaysNow e at s first true [] ds) (Goes e at s first (HerebyStep p ds end semicolon)) t os ps q (λ o g. wa.hereby s first p end semicolon ds o g) (subst (λ z. OnMade q (Brings (SaysNow e at s first true (label_in z) ds) t os ps)) el h))

pub told_steps_on : {X : Type 0} (e : Environment) (at : Extent) (s t : State) (first : Place) (tree : StepData) (u : SkeletonTree) (os : List Obligation) (q : Result X ProofFault) → tree ≡ SkeletonStep u → OnMade q (λ o. StepsOn e first s u (reached o t)) → OnMade q (Brings (Goes e at s first tree) t os os)
told_steps_on {X} e at s t first tree u os q et h =
    let P : Result X ProofRefusal → Type 0 = λ o. StepsOn e first s u (reached o t) in
    let R : Result X ProofRefusal → Type 0 = Brings (Goes e at s first (SkeletonStep u)) t os os in
    step_as e at s t first tree (SkeletonStep u) os os q et (on_made P R q h (λ w g. record { made = []; is_made = wa.steps_on s first u (Ok t) g; are_last = sym (append-nil os) }) (λ r g. wa.steps_on s first u (Err r) g))

pub told_split_in_now : (e : Environment) (at : Extent) (s : State) (first : Place) (tree : StepData) (u : SplitTree) (v : SupposeData) (vs : SupposeList) (k : Bool) → tree ≡ CasesStep u v vs → k ≡ is_now s.block → k ≡ true → Goes e at s first tree (Refused (StepNoFit first))
told_split_in_now e at s first tree u v vs k et ek e1 = subst (λ z. Goes e at s first z (Refused (StepNoFit first))) (sym et) (wa.split_in_now s first u v vs (sym ek ∙ e1))

pub told_splits : {X : Type 0} (e : Environment) (at : Extent) (s t : State) (first : Place) (tree : StepData) (u : SplitTree) (v w : SupposeData) (vs : SupposeList) (k : Bool) (os ps : List Obligation) (q : Result X ProofFault) → tree ≡ CasesStep u v vs → k ≡ is_now s.block → k ≡ false → w ≡ v →
    OnMade q (Brings (Splits e at s first u (more_supposes w vs)) t os ps) → OnMade q (Brings (Goes e at s first tree) t os ps)
told_splits e at s t first tree u v w vs k os ps q et ek e0 ew h =
    step_as e at s t first tree (CasesStep u v vs) os ps q et (brings (Splits e at s first u (more_supposes v vs)) (Goes e at s first (CasesStep u v vs)) t os ps q (λ o g. wa.splits s first u v vs o (sym ek ∙ e0) g) (subst (λ z. OnMade q (Brings (Splits e at s first u (more_supposes z vs)) t os ps)) ew h))

-- steps one after another: what the rest makes behind the obligations so far, all make
pub record Going (e : Environment) (at : Extent) (s : State) (rest : List StepData) (os : List Obligation) (from : State) (all : List StepData) (old : List Obligation) : Type 0 where
  pub made : List Obligation
  pub are_last : os ≡ old ++ made
  pub goes_on : (o : Walked State) → GoesAll e at s (steps_of rest) o → GoesAll e at from (steps_of all) (behind made o)

pub drop-gone : {X : Type 0} (xs : List X) (i : ℕ) → length xs ≤ i → drop i xs ≡ []
drop-gone [] zero h = refl
drop-gone [] (suc i) h = refl
drop-gone (x ∷ xs) zero h = absurd (omega (arith, h))
drop-gone (x ∷ xs) (suc i) h = drop-gone xs i (omega (arith, h))

pub told_begun : (e : Environment) (at : Extent) (s : State) (items all : List StepData) (os : List Obligation) → items ≡ all → Going e at s (drop 0 items) os s all os
told_begun e at s items all os ei = record { made = []; are_last = sym (append-nil os); goes_on = λ o h. subst (GoesAll e at s (steps_of all)) (sym (behind_none o)) (subst (λ xs. GoesAll e at s (steps_of xs) o) ei h) }

pub told_turn : {X : Type 0} (e : Environment) (at : Extent) (s t from : State) (items all : List StepData) (i : ℕ) (d : StepData) (first : Place) (os ps old : List Obligation) (y : Result X ProofFault) (z : X) → i < length items → d ≡ get_or items i d → first_place (spell_step d) ≡ Some first →
    OnMade y (Brings (Goes e at s first d) t os ps) → y ≡ Ok z → Going e at s (drop i items) os from all old → Going e at t (drop (i + 1) items) ps from all old
told_turn {X} e at s t from items all i d first os ps old y z lt ed ef h ey g =
    let P : Result X ProofRefusal → Type 0 = Brings (Goes e at s first d) t os ps in
    let b : IsBrought (λ qs. Goes e at s first d (Made qs t)) os ps = on_ok P y z ey h in
    let er : drop i items ≡ d ∷ drop (i + 1) items = drop-at i items d lt ed ∙ ap (λ j. d ∷ drop j items) (sym (add-one i)) in
    record {
      made = g.made ++ b.made;
      are_last = b.are_last ∙ (ap (λ xs. xs ++ b.made) g.are_last ∙ append_assoc old g.made b.made);
      goes_on = λ o k. subst (GoesAll e at from (steps_of all)) (sym (behind_more g.made b.made o))
          (g.goes_on (behind b.made o) (subst (λ xs. GoesAll e at s (steps_of xs) (behind b.made o)) (sym er) (wa.goes_on s t d (steps_of (drop (i + 1) items)) first b.made o ef b.is_made k)));
    }

pub told_stop : {X : Type 0} (Y : Type 0) (e : Environment) (at : Extent) (s t u from : State) (items all : List StepData) (i : ℕ) (d : StepData) (first : Place) (os ps old new : List Obligation) (y : Result X ProofFault) (f : ProofFault) → i < length items → d ≡ get_or items i d → first_place (spell_step d) ≡ Some first →
    OnMade y (Brings (Goes e at s first d) t os ps) → y ≡ Err f → Going e at s (drop i items) os from all old → OnMade {X = Y} (Err f) (Brings (GoesAll e at from (steps_of all)) u old new)
told_stop {X} Y e at s t u from items all i d first os ps old new y f lt ed ef h ey g =
    let P : Result X ProofRefusal → Type 0 = Brings (Goes e at s first d) t os ps in
    let Q : Result Y ProofRefusal → Type 0 = Brings (GoesAll e at from (steps_of all)) u old new in
    let er : drop i items ≡ d ∷ drop (i + 1) items = drop-at i items d lt ed ∙ ap (λ j. d ∷ drop j items) (sym (add-one i)) in
    on_err P Q y f ey h (λ r k. g.goes_on (Refused r) (subst (λ xs. GoesAll e at s (steps_of xs) (Refused r)) (sym er) (wa.stopped s d (steps_of (drop (i + 1) items)) first r ef k)))

pub told_end : (e : Environment) (at : Extent) (s from : State) (items all : List StepData) (i : ℕ) (os old : List Obligation) → length items ≤ i → Going e at s (drop i items) os from all old → IsBrought (λ qs. GoesAll e at from (steps_of all) (Made qs s)) old os
told_end e at s from items all i os old le g =
    record { made = g.made; is_made = subst (λ xs. GoesAll e at from (steps_of all) (Made xs s)) (append-nil g.made) (g.goes_on (Made [] s) (subst (λ xs. GoesAll e at s (steps_of xs) (Made [] s)) (sym (drop-gone items i le)) (wa.no_more s))); are_last = g.are_last }
