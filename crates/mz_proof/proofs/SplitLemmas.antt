-- What the code of splits tells.
use Rattle.std.proofs.Common.{◌≡◌, ◌<◌, ◌≤◌, ◌+◌, ℕ, List, [], ◌∷◌, ◌++◌, length, drop, get_or, add-one, Bool, Some, None, refl, sym, ap, ◌∙◌, subst}
use Rattle.std.specs.Prelude.{Result, Ok, Err, OnOk, is_some}
use Rattle.std.proofs.lemmas.List.{append-nil, append_assoc}
use Rattle.mz_free.proofs.OccurringLemmas.{drop-at}
use Rattle.mz_base.specs.declared.place.Place.{Place}
use Rattle.mz_core.specs.Statement.{Statement}
use Rattle.mz_core.specs.declared.outcome.Left.{Left}
use Rattle.mz_context.specs.declared.context.Context.{Context}
use Rattle.mz_environment.specs.declared.environment.Environment.{Environment}
use Rattle.mz_obligations.specs.declared.obligation.Extent.{Extent}
use Rattle.mz_obligations.specs.declared.obligation.Obligation.{Obligation}
use Rattle.mz_steps.specs.declared.block.Block.{Block}
use Rattle.mz_justified.specs.Answers.{OnMade}
use Rattle.mz_justified.specs.declared.proof_fault.ProofFault.{ProofFault}
use Rattle.mz_justified.specs.declared.proof_fault.ProofRefusal.{ProofRefusal}
use Rattle.mz_walk.specs.Walk as wa
use Rattle.mz_walk.specs.Answers.{IsBrought, Brings}
use Rattle.mz_performing.proofs.AnswerLemmas.{on_err, on_ok, on_made}
use Rattle.mz_steps.specs.Changes.{with_stated}
use Rattle.mz_steps.specs.declared.block.Outside.{Outside}
use Rattle.mz_tree_proof.specs.Reasoning.{SupposeData, SupposeList, StepList, supposes_of, CaseSuppose, more_supposes}
use Rattle.mz_tree_proof.specs.declared.propositions.HypothesesTree.{HypothesesTree}
use Rattle.mz_tree_proof.specs.declared.skeleton.SplitTree.{SplitTree}
use Rattle.mz_given.specs.declared.given.Given.{Given}
use Rattle.mz_justified.specs.Justified.{Grounds}
use Rattle.mz_walk.specs.Walked.{State, state, Walked, Made, Refused, behind}
use Rattle.mz_walk.specs.Walk.{Cases, no_cases, with_case, Foresees, Proves, Splits, Supposes}
use Rattle.mz_performing.specs.Begun as bg
use Rattle.mz_performing.specs.Begun.{IsSupposed, IsUnsupposed, Supposing}
use Rattle.mz_performing.specs.Blocks.{restored}
use Rattle.mz_performing.specs.Splits.{SplitEnds, AreTaken, TakesCases}
use Rattle.mz_proof.specs.Ahead.{told_ahead}
use Rattle.mz_proof.specs.Case.{IsTaken, TakesCase}
use Rattle.mz_context.specs.Grown.{Grew}
use Rattle.mz_proof.proofs.JustifyLemmas.{made_so}
use Rattle.mz_proof.proofs.StepLemmas.{drop-gone}
use Rattle.mz_proof.proofs.GrowLemmas.{grows_more, grows_stated, restored-grown}

-- a case
unsupposed : (e : Environment) (at : Extent) (c : Context) (first q end semicolon : Place) (h : HypothesesTree) (ds : StepList) (l : Left) (r : ProofRefusal) → IsUnsupposed e c first h l r → (us : SupposeList) → Supposes e at c (more_supposes (CaseSuppose first h q ds end semicolon) us) l (Refused r)
unsupposed e at c first q end semicolon h ds l _ (bg.not_read r m k) us = wa.not_supposed c l m first q end semicolon h ds us r k
unsupposed e at c first q end semicolon h ds l _ (bg.too_large ps r m k j) us = wa.supposition_too_large c l m first q end semicolon h ds us ps r k j

pub told_unsupposed : (Y : Type 0) (e : Environment) (at : Extent) (c d : Context) (tree : SupposeData) (first q end semicolon : Place) (h : HypothesesTree) (ds : StepList) (l m n : Left) (sold snew snew' : List Statement) (os ps : List Obligation) (y : Result Outside ProofFault) (f : ProofFault) → tree ≡ CaseSuppose first h q ds end semicolon →
    OnMade y (Supposing e c d first h l m sold snew) → y ≡ Err f → OnMade {X = Y} (Err f) (TakesCase e at c tree l n sold snew' os ps)
told_unsupposed Y e at c d tree first q end semicolon h ds l m n sold snew snew' os ps y f et k ey =
    let Q : Result Y ProofRefusal → Type 0 = TakesCase e at c (CaseSuppose first h q ds end semicolon) l n sold snew' os ps in
    subst (λ z. OnMade {X = Y} (Err f) (TakesCase e at c z l n sold snew' os ps)) (sym et) (on_err (Supposing e c d first h l m sold snew) Q y f ey k (λ r g. unsupposed e at c first q end semicolon h ds l r g))

pub told_unproved : {X : Type 0} (Y : Type 0) (e : Environment) (at : Extent) (c d : Context) (tree : SupposeData) (first q end semicolon : Place) (h : HypothesesTree) (ds : StepList) (l m n n' : Left) (sold snew snew' : List Statement) (os ps qs rs : List Obligation) (y : Result Outside ProofFault) (o : Outside) (w : Result X ProofFault) (f : ProofFault) → tree ≡ CaseSuppose first h q ds end semicolon →
    OnMade y (Supposing e c d first h l m sold snew) → y ≡ Ok o → OnMade w (Brings (Proves e at d ds end m) n os ps) → w ≡ Err f → OnMade {X = Y} (Err f) (TakesCase e at c tree l n' sold snew' qs rs)
told_unproved {X} Y e at c d tree first q end semicolon h ds l m n n' sold snew snew' os ps qs rs y o w f et k ey g ew =
    let s : IsSupposed e c d first h l m sold snew o = on_ok (Supposing e c d first h l m sold snew) y o ey k in
    let P : Result X ProofRefusal → Type 0 = Brings (Proves e at (with_stated c s.propositions) ds end m) n os ps in
    let Q : Result Y ProofRefusal → Type 0 = TakesCase e at c (CaseSuppose first h q ds end semicolon) l n' sold snew' qs rs in
    subst (λ z. OnMade {X = Y} (Err f) (TakesCase e at c z l n' sold snew' qs rs)) (sym et)
    (on_err P Q w f ew (subst (λ z. OnMade w (Brings (Proves e at z ds end m) n os ps)) s.context g) (λ r z us. wa.case_not_proved c l m first q end semicolon h ds us s.propositions s.supposition r s.are_read s.joined z))

pub told_case : {X : Type 0} (e : Environment) (at : Extent) (c d : Context) (tree : SupposeData) (first q end semicolon : Place) (h : HypothesesTree) (ds : StepList) (l m n : Left) (sold snew : List Statement) (os ps : List Obligation) (y : Result Outside ProofFault) (o : Outside) (w : Result X ProofFault) (v : X) → tree ≡ CaseSuppose first h q ds end semicolon →
    OnMade y (Supposing e c d first h l m sold snew) → y ≡ Ok o → OnMade w (Brings (Proves e at d ds end m) n os ps) → w ≡ Ok v → IsTaken e at c tree l n sold snew os ps
told_case {X} e at c d tree first q end semicolon h ds l m n sold snew os ps y o w v et k ey g ew =
    let s : IsSupposed e c d first h l m sold snew o = on_ok (Supposing e c d first h l m sold snew) y o ey k in
    let P : Result X ProofRefusal → Type 0 = Brings (Proves e at (with_stated c s.propositions) ds end m) n os ps in
    let b : IsBrought (λ zs. Proves e at (with_stated c s.propositions) ds end m (Made zs n)) os ps = on_ok P w v ew (subst (λ z. OnMade w (Brings (Proves e at z ds end m) n os ps)) s.context g) in
    subst (λ z. IsTaken e at c z l n sold snew os ps) (sym et)
    (record { made = b.made; supposition = s.supposition; are_last = b.are_last; is_behind = s.is_last; goes_on = λ us z j. wa.one_more c l m n first q end semicolon h ds us s.propositions s.supposition b.made z s.are_read s.joined b.is_made j })

pub told_case_back : {X : Type 0} (e : Environment) (c d f g : Context) (first : Place) (h : HypothesesTree) (l m : Left) (sold snew : List Statement) (y : Result Outside ProofFault) (o : Outside) (w : Result X ProofFault) (v : X) →
    OnMade y (Supposing e c d first h l m sold snew) → y ≡ Ok o → OnOk w (Grew d f) → w ≡ Ok v → g ≡ restored f o → g ≡ c
told_case_back e c d f g first h l m sold snew y o w v k ey j ew eg =
    let s : IsSupposed e c d first h l m sold snew o = on_ok (Supposing e c d first h l m sold snew) y o ey k in
    let into : Grew c d = subst (Grew c) (sym s.context) (grows_stated c s.propositions) in
    eg ∙ (ap (restored f) s.aside ∙ restored-grown c f (grows_more c d f into (made_so w v ew j)))

-- cases one after another
abbrev pub cases_behind : List Obligation → List Statement → Walked Cases → Walked Cases
cases_behind made ss (Made os x) = Made (made ++ os) (record { suppositions = ss ++ x.suppositions; left = x.left })
cases_behind made ss (Refused r) = Refused r

pub record Casing (e : Environment) (at : Extent) (c : Context) (rest : List SupposeData) (l : Left) (ss : List Statement) (os : List Obligation) (all : SupposeList) (from : Left) (sold : List Statement) (old : List Obligation) : Type 0 where
  pub made : List Obligation
  pub suppositions : List Statement
  pub are_last : os ≡ old ++ made
  pub are_behind : ss ≡ sold ++ suppositions
  pub goes_on : (o : Walked Cases) → Supposes e at c (supposes_of rest) l o → Supposes e at c all from (cases_behind made suppositions o)

first_behind : (os : List Obligation) (s : Statement) (o : Walked Cases) → behind os (with_case s o) ≡ cases_behind os (s ∷ []) o
first_behind os s (Made ps x) = refl
first_behind os s (Refused r) = refl

then_behind : (made os : List Obligation) (ss : List Statement) (s : Statement) (o : Walked Cases) → cases_behind made ss (behind os (with_case s o)) ≡ cases_behind (made ++ os) (ss ++ s ∷ []) o
then_behind made os ss s (Made ps x) = ap (λ zs. Made zs (record { suppositions = ss ++ s ∷ x.suppositions; left = x.left })) (sym (append_assoc made os ps)) ∙ ap (λ zs. Made ((made ++ os) ++ ps) (record { suppositions = zs; left = x.left })) (sym (append_assoc ss (s ∷ []) x.suppositions))
then_behind made os ss s (Refused r) = refl

pub told_first_refused : {X : Type 0} (Y : Type 0) (e : Environment) (at : Extent) (c : Context) (t : SupposeData) (more : List SupposeData) (l m n : Left) (sold snew snew' : List Statement) (os ps qs : List Obligation) (y : Result X ProofFault) (f : ProofFault) →
    OnMade y (TakesCase e at c t l m sold snew os ps) → y ≡ Err f → OnMade {X = Y} (Err f) (TakesCases (Supposes e at c (more_supposes t (supposes_of more)) l) n sold snew' os qs)
told_first_refused {X} Y e at c t more l m n sold snew snew' os ps qs y f h ey =
    let P : Result X ProofRefusal → Type 0 = TakesCase e at c t l m sold snew os ps in
    let Q : Result Y ProofRefusal → Type 0 = TakesCases (Supposes e at c (more_supposes t (supposes_of more)) l) n sold snew' os qs in
    on_err P Q y f ey h (λ r k. k (supposes_of more))

abbrev pub CasingAt : Environment → Extent → Context → List SupposeData → Left → List Statement → List Obligation → Context → SupposeList → Left → List Statement → List Obligation → Type 0
CasingAt e at d rest l ss os c all from sold old = Casing e at c rest l ss os all from sold old × (d ≡ c)

pub told_casing : {X : Type 0} (e : Environment) (at : Extent) (c d : Context) (t : SupposeData) (items more : List SupposeData) (l m : Left) (sold snew : List Statement) (os ps : List Obligation) (y : Result X ProofFault) (z : X) → items ≡ more →
    OnMade y (TakesCase e at c t l m sold snew os ps) → y ≡ Ok z → OnOk y (d ≡ c) → CasingAt e at d (drop 0 items) m snew ps c (more_supposes t (supposes_of more)) l sold os
told_casing {X} e at c d t items more l m sold snew os ps y z ei h ey same =
    let P : Result X ProofRefusal → Type 0 = TakesCase e at c t l m sold snew os ps in
    let g : IsTaken e at c t l m sold snew os ps = on_ok P y z ey h in (
      record {
        made = g.made;
        suppositions = g.supposition ∷ [];
        are_last = g.are_last;
        are_behind = g.is_behind;
        goes_on = λ o k. subst (Supposes e at c (more_supposes t (supposes_of more)) l) (first_behind g.made g.supposition o) (g.goes_on (supposes_of more) o (subst (λ xs. Supposes e at c (supposes_of xs) m o) ei k));
      },
      made_so y z ey same,
    )

pub told_turn : {X : Type 0} (e : Environment) (at : Extent) (c d d' : Context) (t : SupposeData) (items : List SupposeData) (i : ℕ) (all : SupposeList) (l m from : Left) (ss snew sold : List Statement) (os ps old : List Obligation) (y : Result X ProofFault) (z : X) → i < length items → t ≡ get_or items i t →
    OnMade y (TakesCase e at d t l m ss snew os ps) → y ≡ Ok z → OnOk y (d' ≡ d) → CasingAt e at d (drop i items) l ss os c all from sold old → CasingAt e at d' (drop (i + 1) items) m snew ps c all from sold old
told_turn {X} e at c d d' t items i all l m from ss snew sold os ps old y z lt et h ey same g =
    let P : Result X ProofRefusal → Type 0 = TakesCase e at c t l m ss snew os ps in
    let taken : IsTaken e at c t l m ss snew os ps = on_ok P y z ey (subst (λ w. OnMade y (TakesCase e at w t l m ss snew os ps)) g.1 h) in
    let er : drop i items ≡ t ∷ drop (i + 1) items = drop-at i items t lt et ∙ ap (λ j. t ∷ drop j items) (sym (add-one i)) in (
      record {
        made = g.0.made ++ taken.made;
        suppositions = g.0.suppositions ++ taken.supposition ∷ [];
        are_last = taken.are_last ∙ (ap (λ xs. xs ++ taken.made) g.0.are_last ∙ append_assoc old g.0.made taken.made);
        are_behind = taken.is_behind ∙ (ap (λ xs. xs ++ taken.supposition ∷ []) g.0.are_behind ∙ append_assoc sold g.0.suppositions (taken.supposition ∷ []));
        goes_on = λ o k. subst (Supposes e at c all from) (then_behind g.0.made taken.made g.0.suppositions taken.supposition o)
            (g.0.goes_on (behind taken.made (with_case taken.supposition o)) (subst (λ xs. Supposes e at c (supposes_of xs) l (behind taken.made (with_case taken.supposition o))) (sym er) (taken.goes_on (supposes_of (drop (i + 1) items)) o k)));
      },
      made_so y z ey same ∙ g.1,
    )

pub told_stop : {X : Type 0} (Y : Type 0) (e : Environment) (at : Extent) (c d : Context) (t : SupposeData) (items : List SupposeData) (i : ℕ) (all : SupposeList) (l m from n : Left) (ss snew sold snew' : List Statement) (os ps old new : List Obligation) (y : Result X ProofFault) (f : ProofFault) → i < length items → t ≡ get_or items i t →
    OnMade y (TakesCase e at d t l m ss snew os ps) → y ≡ Err f → CasingAt e at d (drop i items) l ss os c all from sold old → OnMade {X = Y} (Err f) (TakesCases (Supposes e at c all from) n sold snew' old new)
told_stop {X} Y e at c d t items i all l m from n ss snew sold snew' os ps old new y f lt et h ey g =
    let P : Result X ProofRefusal → Type 0 = TakesCase e at c t l m ss snew os ps in
    let Q : Result Y ProofRefusal → Type 0 = TakesCases (Supposes e at c all from) n sold snew' old new in
    let er : drop i items ≡ t ∷ drop (i + 1) items = drop-at i items t lt et ∙ ap (λ j. t ∷ drop j items) (sym (add-one i)) in
    on_err P Q y f ey (subst (λ w. OnMade y (TakesCase e at w t l m ss snew os ps)) g.1 h) (λ r k. g.0.goes_on (Refused r) (subst (λ xs. Supposes e at c (supposes_of xs) l (Refused r)) (sym er) (k (supposes_of (drop (i + 1) items)))))

pub told_end : (e : Environment) (at : Extent) (c d : Context) (items : List SupposeData) (i : ℕ) (all : SupposeList) (l from : Left) (ss sold : List Statement) (os old : List Obligation) → length items ≤ i → CasingAt e at d (drop i items) l ss os c all from sold old → AreTaken (Supposes e at c all from) l sold ss old os
told_end e at c d items i all l from ss sold os old le g =
    let none : Supposes e at c all from (cases_behind g.0.made g.0.suppositions (Made [] (no_cases l))) = g.0.goes_on (Made [] (no_cases l)) (subst (λ xs. Supposes e at c (supposes_of xs) l (Made [] (no_cases l))) (sym (drop-gone items i le)) (wa.no_case c l)) in
    record {
      made = g.0.made;
      suppositions = g.0.suppositions;
      is_made = subst (λ xs. Supposes e at c all from (Made xs (record { suppositions = g.0.suppositions; left = l }))) (append-nil g.0.made)
          (subst (λ xs. Supposes e at c all from (Made (g.0.made ++ []) (record { suppositions = xs; left = l }))) (append-nil g.0.suppositions) none);
      are_last = g.0.are_last;
      are_behind = g.0.are_behind;
    }

pub told_end_back : (e : Environment) (at : Extent) (c d : Context) (rest : List SupposeData) (all : SupposeList) (l from : Left) (ss sold : List Statement) (os old : List Obligation) → CasingAt e at d rest l ss os c all from sold old → d ≡ c
told_end_back e at c d rest all l from ss sold os old g = g.1

-- a split
-- what is told ahead
foreseen_none : {Z : Type 0} (e : Environment) (first : Place) (c : Context) (l : Left) (linked : Bool) (us : SupposeList) (tree : SplitTree) (w : Result Z ProofFault) (v : Z) → linked ≡ is_some tree.then →
    OnMade w (λ o. Foresees e first c l linked tree.simple us (told_ahead o)) → w ≡ Ok v → Foresees e first c l (is_some tree.then) tree.simple us None
foreseen_none {Z} e first c l linked us tree w v el a ew =
    let P : Result Z ProofRefusal → Type 0 = λ o. Foresees e first c l linked tree.simple us (told_ahead o) in
    subst (λ z. Foresees e first c l z tree.simple us None) el (on_ok P w v ew a)

pub told_foreseen : {X : Type 0} (Y : Type 0) (e : Environment) (at : Extent) (c : Context) (b : Block) (first : Place) (linked : Bool) (tree : SplitTree) (us : SupposeList) (l : Left) (t : State) (os ps : List Obligation) (w : Result X ProofFault) (f : ProofFault) → linked ≡ is_some tree.then →
    OnMade w (λ o. Foresees e first c l linked tree.simple us (told_ahead o)) → w ≡ Err f → OnMade {X = Y} (Err f) (Brings (Splits e at (state c b l) first tree us) t os ps)
told_foreseen {X} Y e at c b first linked tree us l t os ps w f el a ew =
    let P : Result X ProofRefusal → Type 0 = λ o. Foresees e first c l linked tree.simple us (told_ahead o) in
    let Q : Result Y ProofRefusal → Type 0 = Brings (Splits e at (state c b l) first tree us) t os ps in
    on_err P Q w f ew a (λ r k. wa.foreseen (state c b l) first tree us r (subst (λ z. Foresees e first c l z tree.simple us (Some r)) el k))

pub told_not_grounded : {Z : Type 0} (Y : Type 0) (e : Environment) (at : Extent) (c d : Context) (b : Block) (first place : Place) (linked : Bool) (tree : SplitTree) (us : SupposeList) (l m : Left) (t : State) (os ps : List Obligation) (w : Result Z ProofFault) (v : Z) (y : Result Given ProofFault) (f : ProofFault) → linked ≡ is_some tree.then → place ≡ tree.semicolon →
    OnMade w (λ o. Foresees e first c l linked tree.simple us (told_ahead o)) → w ≡ Ok v → OnOk w (d ≡ c) → OnMade y (λ o. Grounds e d first linked place tree.simple l o m) → y ≡ Err f → OnMade {X = Y} (Err f) (Brings (Splits e at (state c b l) first tree us) t os ps)
told_not_grounded {Z} Y e at c d b first place linked tree us l m t os ps w v y f el ep a ew same h' ey =
    let none : Foresees e first c l (is_some tree.then) tree.simple us None = foreseen_none e first c l linked us tree w v el a ew in
    let h : OnMade y (λ o. Grounds e c first linked place tree.simple l o m) = subst (λ z. OnMade y (λ o. Grounds e z first linked place tree.simple l o m)) (made_so w v ew same) h' in
    let P : Result Given ProofRefusal → Type 0 = λ o. Grounds e c first (is_some tree.then) tree.semicolon tree.simple l o m in
    let Q : Result Y ProofRefusal → Type 0 = Brings (Splits e at (state c b l) first tree us) t os ps in
    on_err P Q y f ey (subst (λ z. OnMade y (λ o. Grounds e c first (is_some tree.then) z tree.simple l o m)) ep (subst (λ z. OnMade y (λ o. Grounds e c first z place tree.simple l o m)) el h)) (λ r k. wa.not_grounded (state c b l) first tree us r m none k)

pub told_stopped : {X Z : Type 0} (Y : Type 0) (e : Environment) (at : Extent) (c d : Context) (b : Block) (first place : Place) (linked : Bool) (tree : SplitTree) (us : SupposeList) (l m n : Left) (t : State) (os ps inner inner' : List Obligation) (sold snew : List Statement) (x : Result Z ProofFault) (v : Z) (y : Result Given ProofFault) (given : Given) (w : Result X ProofFault) (f : ProofFault) → linked ≡ is_some tree.then → place ≡ tree.semicolon →
    OnMade x (λ o. Foresees e first c l linked tree.simple us (told_ahead o)) → x ≡ Ok v → OnOk x (d ≡ c) → OnMade y (λ o. Grounds e d first linked place tree.simple l o m) → y ≡ Ok given → OnMade w (TakesCases (Supposes e at d us m) n sold snew inner inner') → w ≡ Err f → OnMade {X = Y} (Err f) (Brings (Splits e at (state c b l) first tree us) t os ps)
told_stopped {X} {Z} Y e at c d b first place linked tree us l m n t os ps inner inner' sold snew x v y given w f el ep a ex same h' ey k' ew =
    let none : Foresees e first c l (is_some tree.then) tree.simple us None = foreseen_none e first c l linked us tree x v el a ex in
    let h : OnMade y (λ o. Grounds e c first linked place tree.simple l o m) = subst (λ z. OnMade y (λ o. Grounds e z first linked place tree.simple l o m)) (made_so x v ex same) h' in
    let k : OnMade w (TakesCases (Supposes e at c us m) n sold snew inner inner') = subst (λ z. OnMade w (TakesCases (Supposes e at z us m) n sold snew inner inner')) (made_so x v ex same) k' in
    let P : Result Given ProofRefusal → Type 0 = λ o. Grounds e c first (is_some tree.then) tree.semicolon tree.simple l o m in
    let grounded : Grounds e c first (is_some tree.then) tree.semicolon tree.simple l (Ok given) m = on_ok P y given ey (subst (λ z. OnMade y (λ o. Grounds e c first (is_some tree.then) z tree.simple l o m)) ep (subst (λ z. OnMade y (λ o. Grounds e c first z place tree.simple l o m)) el h)) in
    let S : Result X ProofRefusal → Type 0 = TakesCases (Supposes e at c us m) n sold snew inner inner' in
    let Q : Result Y ProofRefusal → Type 0 = Brings (Splits e at (state c b l) first tree us) t os ps in
    on_err S Q w f ew k (λ r z. wa.cases_stopped (state c b l) first tree us given m r none grounded z)

pub told_split : {X Y Z : Type 0} (e : Environment) (at : Extent) (c c' d d' : Context) (b : Block) (first place : Place) (linked : Bool) (tree : SplitTree) (us : SupposeList) (l m n : Left) (os ps inner inner' inner'' : List Obligation) (sold snew ss : List Statement) (gs : Given) (x : Result Z ProofFault) (x' : Z) (y : Result Given ProofFault) (given : Given) (w : Result X ProofFault) (v : X) (q : Result Y ProofFault) → linked ≡ is_some tree.then → place ≡ tree.semicolon →
    OnMade x (λ o. Foresees e first c l linked tree.simple us (told_ahead o)) → x ≡ Ok x' → OnOk x (c' ≡ c) → OnMade y (λ o. Grounds e c' first linked place tree.simple l o m) → y ≡ Ok given → inner ≡ [] → sold ≡ [] → OnMade w (TakesCases (Supposes e at c' us m) n sold snew inner inner') → w ≡ Ok v → OnOk w (d ≡ c') → inner'' ≡ inner' → ss ≡ snew → gs ≡ given →
    OnMade q (SplitEnds e at d d' first tree gs ss inner'' os ps) → OnMade q (Brings (Splits e at (state c b l) first tree us) (state d' b n) os ps)
told_split {X} {Y} {Z} e at c c' d d' b first place linked tree us l m n os ps inner inner' inner'' sold snew ss gs x x' y given w v q el ep a ex first_same h' ey ei es k' ew same' ei' es' eg j =
    let none : Foresees e first c l (is_some tree.then) tree.simple us None = foreseen_none e first c l linked us tree x x' el a ex in
    let is_c : c' ≡ c = made_so x x' ex first_same in
    let h : OnMade y (λ o. Grounds e c first linked place tree.simple l o m) = subst (λ z. OnMade y (λ o. Grounds e z first linked place tree.simple l o m)) is_c h' in
    let k : OnMade w (TakesCases (Supposes e at c us m) n sold snew inner inner') = subst (λ z. OnMade w (TakesCases (Supposes e at z us m) n sold snew inner inner')) is_c k' in
    let same : OnOk w (d ≡ c) = subst (λ z. OnOk w (d ≡ z)) is_c same' in
    let P : Result Given ProofRefusal → Type 0 = λ o. Grounds e c first (is_some tree.then) tree.semicolon tree.simple l o m in
    let grounded : Grounds e c first (is_some tree.then) tree.semicolon tree.simple l (Ok given) m = on_ok P y given ey (subst (λ z. OnMade y (λ o. Grounds e c first (is_some tree.then) z tree.simple l o m)) ep (subst (λ z. OnMade y (λ o. Grounds e c first z place tree.simple l o m)) el h)) in
    let S : Result X ProofRefusal → Type 0 = TakesCases (Supposes e at c us m) n sold snew inner inner' in
    let taken : AreTaken (Supposes e at c us m) n sold snew inner inner' = on_ok S w v ew k in
    let all : ss ≡ taken.suppositions = es' ∙ (taken.are_behind ∙ ap (λ xs. xs ++ taken.suppositions) es) in
    let made : inner'' ≡ taken.made = ei' ∙ (taken.are_last ∙ ap (λ xs. xs ++ taken.made) ei) in
    let back : d ≡ c = made_so w v ew same in
    let E : Result Y ProofRefusal → Type 0 = SplitEnds e at c d' first tree given taken.suppositions taken.made os ps in
    let Q : Result Y ProofRefusal → Type 0 = Brings (Splits e at (state c b l) first tree us) (state d' b n) os ps in
    let ends : OnMade q E = subst (λ z. OnMade q (SplitEnds e at c d' first tree given taken.suppositions z os ps)) made (subst (λ z. OnMade q (SplitEnds e at c d' first tree given z inner'' os ps)) all
    (subst (λ z. OnMade q (SplitEnds e at c d' first tree z ss inner'' os ps)) eg (subst (λ z. OnMade q (SplitEnds e at z d' first tree gs ss inner'' os ps)) back j))) in
    on_made E Q q ends
    (λ z g. record {
      made = g.obligation ∷ taken.made;
      is_made = subst (λ u. Splits e at (state c b l) first tree us (Made (g.obligation ∷ taken.made) (state u b n))) (sym g.context)
          (wa.split (state c b l) first tree us given m taken.made (record { suppositions = taken.suppositions; left = n }) g.statement g.obligation none grounded taken.is_made g.joined g.is_owed);
      are_last = g.are_last;
    })
    (λ r g. subst (λ z. Splits e at (state c b l) first tree us (Refused z)) (sym g.2) (wa.cases_too_large (state c b l) first tree us given m taken.made (record { suppositions = taken.suppositions; left = n }) g.0 none grounded taken.is_made g.1))
