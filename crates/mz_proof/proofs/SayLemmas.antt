-- What the code of compact statements and of `now` tells.
use Rattle.std.proofs.Common.{◌≡◌, ℕ, List, [], ◌∷◌, ◌++◌, length, Bool, refl, sym, ap, ◌∙◌, subst}
use Rattle.std.specs.Prelude.{Result, Ok, Err, OnOk}
use Rattle.std.proofs.lemmas.List.{append-nil, append_assoc}
use Rattle.mz_base.specs.declared.place.Place.{Place}
use Rattle.mz_core.specs.Statement.{Statement}
use Rattle.mz_core.specs.declared.outcome.Left.{Left}
use Rattle.mz_context.specs.declared.context.Context.{Context}
use Rattle.mz_environment.specs.declared.environment.Environment.{Environment}
use Rattle.mz_formulas.specs.declared.sentence.Sentence.{Sentence}
use Rattle.mz_obligations.specs.declared.obligation.Extent.{Extent}
use Rattle.mz_obligations.specs.declared.obligation.Obligation.{Obligation}
use Rattle.mz_steps.specs.declared.block.Block.{Block}
use Rattle.mz_justified.specs.Answers.{OnMade}
use Rattle.mz_justified.specs.declared.proof_fault.ProofFault.{ProofFault}
use Rattle.mz_justified.specs.declared.proof_fault.ProofRefusal.{ProofRefusal}
use Rattle.mz_walk.specs.Walk as wa
use Rattle.mz_walk.specs.Answers.{IsBrought, Brings}
use Rattle.mz_performing.proofs.AnswerLemmas.{on_err, on_ok, on_made}
use Rattle.mz_now.specs.declared.now_part.NowPart.{NowPart}
use Rattle.mz_steps.specs.Changes.{block_after, context_after, outside_of, at_start_of_now}
use Rattle.mz_steps.specs.declared.block.Block.TheVariants.{Now}
use Rattle.mz_steps.specs.declared.block.Outside.{Outside}
use Rattle.mz_tree_proof.specs.Reasoning.{JustData, CompactData, StepList, StatedCompact}
use Rattle.mz_tree_proof.specs.declared.equality_step.EqualityStepTree.{EqualityStepTree}
use Rattle.mz_tree_proof.specs.declared.propositions.PropositionTree.{PropositionTree}
use Rattle.mz_walk.specs.Walked.{State, state, Made, Refused, behind, without_obligations}
use Rattle.mz_walk.specs.Performing as pf
use Rattle.mz_walk.specs.Performing.{Performs}
use Rattle.mz_walk.specs.Compact.{stated_under, compact_stated, place_behind, JustifiesSides}
use Rattle.mz_walk.specs.Walk.{step_of, Justifies, Says, SaysNow, GoesAll}
use Rattle.mz_walk.specs.Answers.{reached}
use Rattle.mz_performing.specs.declared.begun.Begun.{Begun}
use Rattle.mz_performing.specs.Begun.{IsBegun, Begins}
use Rattle.mz_performing.specs.Blocks.{restored}
use Rattle.mz_performing.specs.Nows as nw
use Rattle.mz_performing.specs.Nows.{StatesNow}
use Rattle.mz_compact.proofs.SideLemmas.{further-length}
use Rattle.mz_context.specs.Grown.{Grew}
use Rattle.mz_proof.proofs.GrowLemmas.{grows_more, grows_into_now, restored-grown, goes_all_grow}

-- as many equations as sides
pub length-told_as_many : (e : Environment) (c : Context) (b : Block) (first : Place) (linked concluded : Bool) (p : PropositionTree) (j : JustData) (ks : List EqualityStepTree) (semicolon : Place) (l m : Left) (y : Result Begun ProofFault) (x : Begun) → OnMade y (Begins e c b first linked concluded p j ks semicolon l m) → y ≡ Ok x → length x.compact.said.further ≡ length ks
length-told_as_many e c b first linked concluded p j ks semicolon l m y x h ey =
    let g : IsBegun e c b first linked concluded p ks l m x = on_ok (Begins e c b first linked concluded p j ks semicolon l m) y x ey h in
    further-length e c first l m p ks (Ok x.compact) g.is_read x.compact refl

-- what it performs
performs : (e : Environment) (c : Context) (b : Block) (first : Place) (linked concluded : Bool) (p : PropositionTree) (ks : List EqualityStepTree) (l m : Left) (x : Begun) → IsBegun e c b first linked concluded p ks l m x →
    Performs e first (state c b m) (step_of concluded x.compact.said.states) (compact_stated p x.compact ∷ []) (Ok (state (context_after c x.step x.effect x.stated) (block_after b x.effect) m))
performs e c b first linked concluded p ks l m x g =
    subst (λ r. Performs e first (state c b m) r (compact_stated p x.compact ∷ []) (Ok (state (context_after c x.step x.effect x.stated) (block_after b x.effect) m))) g.step
    (subst (λ qs. Performs e first (state c b m) x.step qs (Ok (state (context_after c x.step x.effect x.stated) (block_after b x.effect) m))) g.states (pf.performed x.effect g.acts g.within))

pub told_unbegun : (Y : Type 0) (e : Environment) (at : Extent) (c : Context) (b : Block) (first semicolon : Place) (linked concluded : Bool) (tree : CompactData) (p : PropositionTree) (j : JustData) (ks sides : List EqualityStepTree) (l m : Left) (t : State) (os ps : List Obligation) (y : Result Begun ProofFault) (f : ProofFault) →
    tree ≡ StatedCompact p j sides semicolon → ks ≡ sides → OnMade y (Begins e c b first linked concluded p j ks semicolon l m) → y ≡ Err f → OnMade {X = Y} (Err f) (Brings (Says e at (state c b l) first linked concluded tree) t os ps)
told_unbegun Y e at c b first semicolon linked concluded tree p j ks sides l m t os ps y f et ek h ey =
    let Q : Result Y ProofRefusal → Type 0 = Brings (Says e at (state c b l) first linked concluded (StatedCompact p j ks semicolon)) t os ps in
    subst (λ z. OnMade {X = Y} (Err f) (Brings (Says e at (state c b l) first linked concluded z) t os ps)) (ap (λ w. StatedCompact p j w semicolon) ek ∙ sym et)
    (on_err (Begins e c b first linked concluded p j ks semicolon l m) Q y f ey h (λ r k. k at))

-- a justification where it is asked for
at_its_place : {X : Type 0} (e : Environment) (at : Extent) (c d : Context) (first place behind : Place) (linked : Bool) (i j : JustData) (z s : Sentence) (m n : Left) (os ps : List Obligation) (w : Result X ProofFault) → d ≡ c → place ≡ behind → i ≡ j → z ≡ s →
    OnMade w (Brings (Justifies e at d first linked place i z m) n os ps) → OnMade w (Brings (Justifies e at c first linked behind j s m) n os ps)
at_its_place e at c d first place behind linked i j z s m n os ps w ed ep ei ez g =
    subst (λ v. OnMade w (Brings (Justifies e at c first linked behind j v m) n os ps)) ez
    (subst (λ v. OnMade w (Brings (Justifies e at c first linked behind v z m) n os ps)) ei
    (subst (λ v. OnMade w (Brings (Justifies e at c first linked v i z m) n os ps)) ep
    (subst (λ v. OnMade w (Brings (Justifies e at v first linked place i z m) n os ps)) ed g)))

pub told_unjustified : {X : Type 0} (Y : Type 0) (e : Environment) (at : Extent) (c d : Context) (b : Block) (first semicolon place : Place) (linked concluded : Bool) (tree : CompactData) (p : PropositionTree) (i j : JustData) (z : Sentence) (ks sides : List EqualityStepTree) (l m n : Left) (t : State) (os ps qs rs : List Obligation) (y : Result Begun ProofFault) (x : Begun) (w : Result X ProofFault) (f : ProofFault) →
    tree ≡ StatedCompact p j sides semicolon → ks ≡ sides → OnMade y (Begins e c b first linked concluded p j ks semicolon l m) → y ≡ Ok x → d ≡ c → place ≡ place_behind ks semicolon → i ≡ j → z ≡ x.compact.sentence →
    OnMade w (Brings (Justifies e at d first linked place i z m) n os ps) → w ≡ Err f → OnMade {X = Y} (Err f) (Brings (Says e at (state c b l) first linked concluded tree) t qs rs)
told_unjustified {X} Y e at c d b first semicolon place linked concluded tree p i j z ks sides l m n t os ps qs rs y x w f et ek h ey ed ep ei ez g ew =
    let begun : IsBegun e c b first linked concluded p ks l m x = on_ok (Begins e c b first linked concluded p j ks semicolon l m) y x ey h in
    let P : Result X ProofRefusal → Type 0 = Brings (Justifies e at c first linked (place_behind ks semicolon) j x.compact.sentence m) n os ps in
    let Q : Result Y ProofRefusal → Type 0 = Brings (Says e at (state c b l) first linked concluded (StatedCompact p j ks semicolon)) t qs rs in
    let at_place : OnMade w P = at_its_place e at c d first place (place_behind ks semicolon) linked i j z x.compact.sentence m n os ps w ed ep ei ez g in
    subst (λ z. OnMade {X = Y} (Err f) (Brings (Says e at (state c b l) first linked concluded z) t qs rs)) (ap (λ v. StatedCompact p j v semicolon) ek ∙ sym et)
    (on_err P Q w f ew at_place (λ r k. wa.not_justified (state c b l) _ first semicolon linked concluded p j ks x.compact m r begun.follows begun.is_read (performs e c b first linked concluded p ks l m x begun) begun.instances k))

pub told_side_unjustified : {X Z : Type 0} (Y : Type 0) (e : Environment) (at : Extent) (c d d' : Context) (b : Block) (first semicolon place : Place) (linked concluded : Bool) (tree : CompactData) (p : PropositionTree) (i j : JustData) (z : Sentence) (ks sides : List EqualityStepTree) (l m n n' : Left) (t : State) (os ps qs rs vs : List Obligation) (ss : List Statement) (y : Result Begun ProofFault) (x : Begun) (w : Result X ProofFault) (u : X) (w' : Result Z ProofFault) (f : ProofFault) →
    tree ≡ StatedCompact p j sides semicolon → ks ≡ sides → OnMade y (Begins e c b first linked concluded p j ks semicolon l m) → y ≡ Ok x → d ≡ c → place ≡ place_behind ks semicolon → i ≡ j → z ≡ x.compact.sentence →
    OnMade w (Brings (Justifies e at d first linked place i z m) n os ps) → w ≡ Ok u → OnOk w (d' ≡ d) → ss ≡ x.compact.said.further →
    OnMade w' (Brings (JustifiesSides e at d' first semicolon ks ss n) n' ps qs) → w' ≡ Err f → OnMade {X = Y} (Err f) (Brings (Says e at (state c b l) first linked concluded tree) t rs vs)
told_side_unjustified {X} {Z} Y e at c d d' b first semicolon place linked concluded tree p i j z ks sides l m n n' t os ps qs rs vs ss y x w u w' f et ek h ey ed ep ei ez g ew same es k ew' =
    let begun : IsBegun e c b first linked concluded p ks l m x = on_ok (Begins e c b first linked concluded p j ks semicolon l m) y x ey h in
    let P : Result X ProofRefusal → Type 0 = Brings (Justifies e at c first linked (place_behind ks semicolon) j x.compact.sentence m) n os ps in
    let S : Result Z ProofRefusal → Type 0 = Brings (JustifiesSides e at c first semicolon ks x.compact.said.further n) n' ps qs in
    let Q : Result Y ProofRefusal → Type 0 = Brings (Says e at (state c b l) first linked concluded (StatedCompact p j ks semicolon)) t rs vs in
    let at_place : OnMade w P = at_its_place e at c d first place (place_behind ks semicolon) linked i j z x.compact.sentence m n os ps w ed ep ei ez g in
    let justified : IsBrought (λ zs. Justifies e at c first linked (place_behind ks semicolon) j x.compact.sentence m (Made zs n)) os ps = on_ok P w u ew at_place in
    let back : d' ≡ c = subst (λ z. OnOk z (d' ≡ d)) ew same ∙ ed in
    let sided : OnMade w' S = subst (λ z. OnMade w' (Brings (JustifiesSides e at c first semicolon ks z n) n' ps qs)) es (subst (λ z. OnMade w' (Brings (JustifiesSides e at z first semicolon ks ss n) n' ps qs)) back k) in
    subst (λ z. OnMade {X = Y} (Err f) (Brings (Says e at (state c b l) first linked concluded z) t rs vs)) (ap (λ v. StatedCompact p j v semicolon) ek ∙ sym et)
    (on_err S Q w' f ew' sided (λ r z. wa.justified (state c b l) _ first semicolon linked concluded p j ks x.compact m n justified.made (Refused r) begun.follows begun.is_read (performs e c b first linked concluded p ks l m x begun) begun.instances justified.is_made z))

pub told_said : {X Z : Type 0} (e : Environment) (at : Extent) (c d d' c' : Context) (b b' : Block) (first semicolon place : Place) (linked concluded : Bool) (tree : CompactData) (p : PropositionTree) (i j : JustData) (z : Sentence) (ks sides : List EqualityStepTree) (l m n n' : Left) (os ps qs : List Obligation) (ss : List Statement) (y : Result Begun ProofFault) (x v : Begun) (w : Result X ProofFault) (u : X) (w' : Result Z ProofFault) (u' : Z) →
    tree ≡ StatedCompact p j sides semicolon → ks ≡ sides → OnMade y (Begins e c b first linked concluded p j ks semicolon l m) → y ≡ Ok x → d ≡ c → place ≡ place_behind ks semicolon → i ≡ j → z ≡ x.compact.sentence →
    OnMade w (Brings (Justifies e at d first linked place i z m) n os ps) → w ≡ Ok u → OnOk w (d' ≡ d) → ss ≡ x.compact.said.further →
    OnMade w' (Brings (JustifiesSides e at d' first semicolon ks ss n) n' ps qs) → w' ≡ Ok u' → v ≡ x → c' ≡ context_after d' v.step v.effect v.stated → b' ≡ block_after b v.effect →
    IsBrought (λ zs. Says e at (state c b l) first linked concluded tree (Made zs (state c' b' n'))) os qs
told_said {X} {Z} e at c d d' c' b b' first semicolon place linked concluded tree p i j z ks sides l m n n' os ps qs ss y x v w u w' u' et ek h ey ed ep ei ez g ew same es k ew' ev ec eb =
    let begun : IsBegun e c b first linked concluded p ks l m x = on_ok (Begins e c b first linked concluded p j ks semicolon l m) y x ey h in
    let P : Result X ProofRefusal → Type 0 = Brings (Justifies e at c first linked (place_behind ks semicolon) j x.compact.sentence m) n os ps in
    let S : Result Z ProofRefusal → Type 0 = Brings (JustifiesSides e at c first semicolon ks x.compact.said.further n) n' ps qs in
    let at_place : OnMade w P = at_its_place e at c d first place (place_behind ks semicolon) linked i j z x.compact.sentence m n os ps w ed ep ei ez g in
    let justified : IsBrought (λ zs. Justifies e at c first linked (place_behind ks semicolon) j x.compact.sentence m (Made zs n)) os ps = on_ok P w u ew at_place in
    let back : d' ≡ c = subst (λ z. OnOk z (d' ≡ d)) ew same ∙ ed in
    let sided : OnMade w' S = subst (λ z. OnMade w' (Brings (JustifiesSides e at c first semicolon ks z n) n' ps qs)) es (subst (λ z. OnMade w' (Brings (JustifiesSides e at z first semicolon ks ss n) n' ps qs)) back k) in
    let all : IsBrought (λ zs. JustifiesSides e at c first semicolon ks x.compact.said.further n (Made zs n')) ps qs = on_ok S w' u' ew' sided in
    let after : state c' b' n' ≡ state (context_after c x.step x.effect x.stated) (block_after b x.effect) n' =
    ap (λ z. state z b' n') (ec ∙ (ap (λ z. context_after z v.step v.effect v.stated) back ∙ ap (λ z. context_after c z.step z.effect z.stated) ev)) ∙ ap (λ z. state (context_after c x.step x.effect x.stated) z n') (eb ∙ ap (λ z. block_after b z.effect) ev) in
    let whole : Says e at (state c b l) first linked concluded (StatedCompact p j ks semicolon) (Made (justified.made ++ all.made) (state (context_after c x.step x.effect x.stated) (block_after b x.effect) n')) =
    wa.justified (state c b l) _ first semicolon linked concluded p j ks x.compact m n justified.made (Made all.made n') begun.follows begun.is_read (performs e c b first linked concluded p ks l m x begun) begun.instances justified.is_made all.is_made in
    record {
      made = justified.made ++ all.made;
      is_made = subst (λ z. Says e at (state c b l) first linked concluded z (Made (justified.made ++ all.made) (state c' b' n'))) (ap (λ z. StatedCompact p j z semicolon) ek ∙ sym et)
          (subst (λ z. Says e at (state c b l) first linked concluded (StatedCompact p j ks semicolon) (Made (justified.made ++ all.made) z)) (sym after) whole);
      are_last = all.are_last ∙ (ap (λ zs. zs ++ all.made) justified.are_last ∙ append_assoc os justified.made all.made);
    }

-- `now`
pub told_now_stopped : {X : Type 0} (Y : Type 0) (e : Environment) (at : Extent) (c d f : Context) (b inside inside' : Block) (ns : List NowPart) (first : Place) (concluded : Bool) (label : List ℕ) (ds : StepList) (l m : Left) (t : State) (os ps qs rs : List Obligation) (y : Result X ProofFault) (g : ProofFault) → d ≡ at_start_of_now c → ns ≡ [] → inside ≡ Now ns →
    OnMade y (Brings (GoesAll e at (state d inside l) ds) (state f inside' m) os ps) → y ≡ Err g → OnMade {X = Y} (Err g) (Brings (SaysNow e at (state c b l) first concluded label ds) t qs rs)
told_now_stopped {X} Y e at c d f b inside inside' ns first concluded label ds l m t os ps qs rs y g ed en ei h ey =
    let P : Result X ProofRefusal → Type 0 = Brings (GoesAll e at (state (at_start_of_now c) (Now []) l) ds) (state f inside' m) os ps in
    let Q : Result Y ProofRefusal → Type 0 = Brings (SaysNow e at (state c b l) first concluded label ds) t qs rs in
    let begun : OnMade y P = subst (λ z. OnMade y (Brings (GoesAll e at (state (at_start_of_now c) z l) ds) (state f inside' m) os ps)) (ei ∙ ap Now en) (subst (λ z. OnMade y (Brings (GoesAll e at (state z inside l) ds) (state f inside' m) os ps)) ed h) in
    on_err P Q y g ey begun (λ r k. wa.now_stopped (state c b l) first concluded label ds r k)

now_said : (e : Environment) (at : Extent) (c d : Context) (b b' inside : Block) (first : Place) (concluded : Bool) (label : List ℕ) (ds : StepList) (l m : Left) (os : List Obligation) (t : State) → GoesAll e at (state (at_start_of_now c) (Now []) l) ds (Made os t) → t.left ≡ m → t.block ≡ inside →
    (o : Result State ProofRefusal) → StatesNow e first (state c b m) concluded label inside o → SaysNow e at (state c b l) first concluded label ds (behind os (without_obligations o))
now_said e at c d b b' inside first concluded label ds l m os t h el ei _ (nw.too_large k) = wa.now_too_large (state c b l) t first concluded label ds os h (ap wa.stated_in ei ∙ k)
now_said e at c d b b' inside first concluded label ds l m os t h el ei _ (nw.stated x o k g) =
    wa.now_stated (state c b l) t first concluded label ds os x o h (ap wa.stated_in ei ∙ k) (subst (λ z. Performs e first (state c b z) (step_of concluded x) (stated_under label x ∷ []) o) (sym el) g)

pub told_now : {X Y : Type 0} (e : Environment) (at : Extent) (c d f g c' : Context) (b b' inside inside' : Block) (ns : List NowPart) (first : Place) (concluded : Bool) (label : List ℕ) (ds : StepList) (l m : Left) (os ps : List Obligation) (o : Outside) (y : Result X ProofFault) (z : X) (w : Result Y ProofFault) →
    d ≡ at_start_of_now c → o ≡ outside_of c → ns ≡ [] → inside ≡ Now ns → OnMade y (Brings (GoesAll e at (state d inside l) ds) (state f inside' m) os ps) → y ≡ Ok z → g ≡ restored f o →
    ((n : Left) → OnMade w (λ q. StatesNow e first (state g b n) concluded label inside' (reached q (state c' b' n)))) → OnMade w (Brings (SaysNow e at (state c b l) first concluded label ds) (state c' b' m) os ps)
told_now {X} {Y} e at c d f g c' b b' inside inside' ns first concluded label ds l m os ps o y z w ed eo en ei h ey eg k =
    let P : Result X ProofRefusal → Type 0 = Brings (GoesAll e at (state (at_start_of_now c) (Now []) l) ds) (state f inside' m) os ps in
    let begun : OnMade y P = subst (λ v. OnMade y (Brings (GoesAll e at (state (at_start_of_now c) v l) ds) (state f inside' m) os ps)) (ei ∙ ap Now en) (subst (λ v. OnMade y (Brings (GoesAll e at (state v inside l) ds) (state f inside' m) os ps)) ed h) in
    let went : IsBrought (λ qs. GoesAll e at (state (at_start_of_now c) (Now []) l) ds (Made qs (state f inside' m))) os ps = on_ok P y z ey begun in
    let grown : Grew c f = grows_more c (at_start_of_now c) f (grows_into_now c) (goes_all_grow e at (state (at_start_of_now c) (Now []) l) ds (Made went.made (state f inside' m)) went.is_made) in
    let back : g ≡ c = eg ∙ (ap (restored f) eo ∙ restored-grown c f grown) in
    let F : Result Y ProofRefusal → Type 0 = λ q. StatesNow e first (state c b m) concluded label inside' (reached q (state c' b' m)) in
    let Q : Result Y ProofRefusal → Type 0 = Brings (SaysNow e at (state c b l) first concluded label ds) (state c' b' m) os ps in
    let at_c : OnMade w F = subst (λ v. OnMade w (λ q. StatesNow e first (state v b m) concluded label inside' (reached q (state c' b' m)))) back (k m) in
    on_made F Q w at_c
    (λ v q. record {
      made = went.made;
      is_made = subst (λ zs. SaysNow e at (state c b l) first concluded label ds (Made zs (state c' b' m))) (append-nil went.made) (now_said e at c d b b' inside' first concluded label ds l m went.made (state f inside' m) went.is_made refl refl (Ok (state c' b' m)) q);
      are_last = went.are_last;
    })
    (λ r q. now_said e at c d b b' inside' first concluded label ds l m went.made (state f inside' m) went.is_made refl refl (Err r) q)
