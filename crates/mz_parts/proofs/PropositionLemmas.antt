-- What the code of propositions tells.
use Rattle.std.proofs.Common.{◌≡◌, ℕ, List, [], ◌∷◌, ◌++◌, length, map, refl, sym, ap, ◌∙◌, subst}
use Rattle.std.specs.Prelude.{Result, Ok, Err}
use Rattle.mz_base.specs.declared.place.Place.{Place}
use Rattle.mz_core.specs.declared.outcome.Left.{Left}
use Rattle.mz_context.specs.declared.context.Context.{Context}
use Rattle.mz_context.specs.declared.labelled.LabelledStatement.{LabelledStatement}
use Rattle.mz_environment.specs.declared.environment.Environment.{Environment}
use Rattle.mz_names.specs.declared.refusal.Refusal.{Refusal}
use Rattle.mz_fits.proofs.FitLemmas.{empty}
use Rattle.mz_formulas.specs.declared.sentence.Sentence.{Sentence}
use Rattle.mz_resolve.specs.Answers.{OnRead}
use Rattle.mz_resolve.specs.Calls.{SentenceRead}
use Rattle.mz_resolve.specs.declared.resolve_fault.ResolveFault.{ResolveFault}
use Rattle.mz_tree_proof.specs.declared.propositions.PropositionTree.{PropositionTree}
use Rattle.mz_tree_proof.specs.declared.propositions.AndPropositionTree.{AndPropositionTree}
use Rattle.mz_tree_proof.specs.declared.propositions.PropositionsTree.{PropositionsTree}
use Rattle.mz_tree_proof.specs.declared.propositions.HypothesesTree.{HypothesesTree}
use Rattle.mz_tree_proof.specs.declared.propositions.HypothesesTree.TheVariants.{One, That}
use Rattle.mz_parts.specs.Propositions as pr
use Rattle.mz_parts.specs.Propositions.{stated_by, PropositionsReadBehind, all_read, behind_and, propositions_in, hypotheses_in}
use Rattle.mz_parts.proofs.ReadLemmas.{read_by, refused_by, read_more, ok-inj, err-ok}

-- one proposition
pub told_one : (e : Environment) (c : Context) (least : ℕ) (left after : Left) (p : PropositionTree) (out more : List LabelledStatement) (q : Result Sentence ResolveFault) (s : Sentence) →
    OnRead q (λ o. SentenceRead e c least left p.formula o after) → q ≡ Ok s → more ≡ out ++ stated_by p s ∷ [] → PropositionsReadBehind e c least left (p ∷ []) out (Ok more) after
told_one e c least left after p out more q s h eq em =
    let S : Result Sentence Refusal → Type 0 = λ o. SentenceRead e c least left p.formula o after in
    let P : List LabelledStatement → Type 0 = λ xs. PropositionsReadBehind e c least left (p ∷ []) out (Ok xs) after in
    subst P (sym em) (pr.one_read left after after p [] out s (Ok (out ++ stated_by p s ∷ [])) (read_by S q s h eq) (pr.no_more after (out ++ stated_by p s ∷ [])))

pub told_one_refused : (Y : Type 0) (e : Environment) (c : Context) (least : ℕ) (left after : Left) (p : PropositionTree) (out more : List LabelledStatement) (q : Result Sentence ResolveFault) (f : ResolveFault) →
    OnRead q (λ o. SentenceRead e c least left p.formula o after) → q ≡ Err f → OnRead {X = Y} (Err f) (λ o. PropositionsReadBehind e c least left (p ∷ []) out (all_read o more) after)
told_one_refused Y e c least left after p out more q f h eq =
    let S : Result Sentence Refusal → Type 0 = λ o. SentenceRead e c least left p.formula o after in
    let Q : Result Y Refusal → Type 0 = λ o. PropositionsReadBehind e c least left (p ∷ []) out (all_read o more) after in
    refused_by S Q q f h eq (λ r k. pr.one_refused left after p [] out r k)

pub told_kept : (a b d : Context) → b ≡ a → d ≡ b → d ≡ a
told_kept a b d e f = f ∙ e

pub ruleset one_rules = (told_one, told_one_refused, told_kept)

-- one after another
ended : (e : Environment) (c : Context) (least : ℕ) (left after : Left) (out : List LabelledStatement) (o : Result (List LabelledStatement) Refusal) → PropositionsReadBehind e c least left [] out o after → (o ≡ Ok out) × (after ≡ left)
ended e c least left _ out _ (pr.no_more _ _) = (refl, refl)

one_then : (e : Environment) (c : Context) (least : ℕ) (left between after : Left) (p : PropositionTree) (ps : List PropositionTree) (out more : List LabelledStatement) (o : Result (List LabelledStatement) Refusal) →
    PropositionsReadBehind e c least left (p ∷ []) out (Ok more) between → PropositionsReadBehind e c least between ps more o after → PropositionsReadBehind e c least left (p ∷ ps) out o after
one_then e c least left between after p ps out more o (pr.one_read _ middle _ _ _ _ s _ h k) g =
    let is = ended e c least middle between (out ++ stated_by p s ∷ []) (Ok more) k in
    let same : more ≡ out ++ stated_by p s ∷ [] = ok-inj more (out ++ stated_by p s ∷ []) is.0 in
    pr.one_read left middle after p ps out s o h (subst (λ l. PropositionsReadBehind e c least l ps (out ++ stated_by p s ∷ []) o after) is.1 (subst (λ xs. PropositionsReadBehind e c least between ps xs o after) same g))

one_alone : (e : Environment) (c : Context) (least : ℕ) (left after : Left) (p : PropositionTree) (ps : List PropositionTree) (out : List LabelledStatement) (r : Refusal) →
    PropositionsReadBehind e c least left (p ∷ []) out (Err r) after → PropositionsReadBehind e c least left (p ∷ ps) out (Err r) after
one_alone e c least left after p ps out r (pr.one_refused _ _ _ _ _ _ h) = pr.one_refused left after p ps out r h
one_alone e c least left after p ps out r (pr.one_read _ middle _ _ _ _ s _ h k) =
    let is = ended e c least middle after (out ++ stated_by p s ∷ []) (Err r) k in
    absurd (err-ok r (out ++ stated_by p s ∷ []) is.0)

abbrev pub Gives : Environment → Context → ℕ → Left → List AndPropositionTree → List LabelledStatement → Left → List AndPropositionTree → List LabelledStatement → Type 0
Gives e c least left rest out from all before = (o : Result (List LabelledStatement) Refusal) (after : Left) → PropositionsReadBehind e c least left (map behind_and rest) out o after → PropositionsReadBehind e c least from (map behind_and all) before o after

pub told_each_end : (e : Environment) (c : Context) (least : ℕ) (left from : Left) (rest all : List AndPropositionTree) (out before : List LabelledStatement) → length rest ≡ 0 → Gives e c least left rest out from all before →
    PropositionsReadBehind e c least from (map behind_and all) before (Ok out) left
told_each_end e c least left from rest all out before er g = g (Ok out) left (subst (λ xs. PropositionsReadBehind e c least left (map behind_and xs) out (Ok out) left) (sym (empty rest er)) (pr.no_more left out))

pub told_each_stop : {X : Type 0} (Y : Type 0) (e : Environment) (c d : Context) (least : ℕ) (left from after : Left) (rest others all : List AndPropositionTree) (p : AndPropositionTree) (out more before : List LabelledStatement) (q : Result X ResolveFault) (f : ResolveFault) →
    rest ≡ p ∷ others → OnRead q (λ o. PropositionsReadBehind e d least left (p.proposition ∷ []) out (all_read o more) after) → q ≡ Err f → d ≡ c → Gives e c least left rest out from all before →
    OnRead {X = Y} (Err f) (λ o. PropositionsReadBehind e c least from (map behind_and all) before (all_read o more) after)
told_each_stop {X} Y e c d least left from after rest others all p out more before q f er h eq ed g =
    let P : Result X Refusal → Type 0 = λ o. PropositionsReadBehind e d least left (p.proposition ∷ []) out (all_read o more) after in
    let Q : Result Y Refusal → Type 0 = λ o. PropositionsReadBehind e c least from (map behind_and all) before (all_read o more) after in
    refused_by P Q q f h eq (λ r k. g (Err r) after (subst (λ xs. PropositionsReadBehind e c least left (map behind_and xs) out (Err r) after) (sym er)
    (one_alone e c least left after p.proposition (map behind_and others) out r (subst (λ x. PropositionsReadBehind e x least left (p.proposition ∷ []) out (Err r) after) ed k))))

pub told_each_turn : {X : Type 0} (e : Environment) (c d : Context) (least : ℕ) (left from after : Left) (rest others all : List AndPropositionTree) (p : AndPropositionTree) (out more before : List LabelledStatement) (q : Result X ResolveFault) (x : X) →
    rest ≡ p ∷ others → OnRead q (λ o. PropositionsReadBehind e d least left (p.proposition ∷ []) out (all_read o more) after) → q ≡ Ok x → d ≡ c → Gives e c least left rest out from all before → Gives e c least after others more from all before
told_each_turn {X} e c d least left from after rest others all p out more before q x er h eq ed g o end k =
    let P : Result X Refusal → Type 0 = λ y. PropositionsReadBehind e d least left (p.proposition ∷ []) out (all_read y more) after in
    let one : PropositionsReadBehind e c least left (p.proposition ∷ []) out (Ok more) after = subst (λ y. PropositionsReadBehind e y least left (p.proposition ∷ []) out (Ok more) after) ed (read_by P q x h eq) in
    g o end (subst (λ xs. PropositionsReadBehind e c least left (map behind_and xs) out o end) (sym er) (one_then e c least left after end p.proposition (map behind_and others) out more o one k))

pub ruleset each_rules = (told_each_end, told_each_stop, told_each_turn, told_kept)

-- the first and then the others
pub told_first_refused : {X : Type 0} (Y : Type 0) (e : Environment) (c : Context) (least : ℕ) (left after : Left) (p : PropositionTree) (ps : List PropositionTree) (out more others : List LabelledStatement) (q : Result X ResolveFault) (f : ResolveFault) →
    OnRead q (λ o. PropositionsReadBehind e c least left (p ∷ []) out (all_read o more) after) → q ≡ Err f → OnRead {X = Y} (Err f) (λ o. PropositionsReadBehind e c least left (p ∷ ps) out (all_read o others) after)
told_first_refused {X} Y e c least left after p ps out more others q f h eq =
    let P : Result X Refusal → Type 0 = λ o. PropositionsReadBehind e c least left (p ∷ []) out (all_read o more) after in
    let Q : Result Y Refusal → Type 0 = λ o. PropositionsReadBehind e c least left (p ∷ ps) out (all_read o others) after in
    refused_by P Q q f h eq (λ r k. one_alone e c least left after p ps out r k)

pub told_first_read : {X Y : Type 0} (e : Environment) (c d : Context) (least : ℕ) (left between after : Left) (p : PropositionTree) (ps : List PropositionTree) (out more all : List LabelledStatement) (q : Result X ResolveFault) (x : X) (a : Result Y ResolveFault) →
    OnRead q (λ o. PropositionsReadBehind e c least left (p ∷ []) out (all_read o more) between) → q ≡ Ok x → d ≡ c → OnRead a (λ o. PropositionsReadBehind e d least between ps more (all_read o all) after) →
    OnRead a (λ o. PropositionsReadBehind e c least left (p ∷ ps) out (all_read o all) after)
told_first_read {X} {Y} e c d least left between after p ps out more all q x a h eq ed k =
    let P : Result X Refusal → Type 0 = λ o. PropositionsReadBehind e c least left (p ∷ []) out (all_read o more) between in
    let Q : Result Y Refusal → Type 0 = λ o. PropositionsReadBehind e d least between ps more (all_read o all) after in
    let R : Result Y Refusal → Type 0 = λ o. PropositionsReadBehind e c least left (p ∷ ps) out (all_read o all) after in
    read_more Q R a k (λ o g. one_then e c least left between after p ps out more (all_read o all) (read_by P q x h eq) (subst (λ y. PropositionsReadBehind e y least between ps more (all_read o all) after) ed g))

pub told_first_read_each : {X Y : Type 0} (e : Environment) (c d : Context) (least : ℕ) (left between after : Left) (p : PropositionTree) (slice items : List AndPropositionTree) (out more all : List LabelledStatement) (q : Result X ResolveFault) (x : X) (a : Result Y ResolveFault) →
    OnRead q (λ o. PropositionsReadBehind e c least left (p ∷ []) out (all_read o more) between) → q ≡ Ok x → d ≡ c → slice ≡ items → OnRead a (λ o. PropositionsReadBehind e d least between (map behind_and slice) more (all_read o all) after) →
    OnRead a (λ o. PropositionsReadBehind e c least left (p ∷ map behind_and items) out (all_read o all) after)
told_first_read_each e c d least left between after p slice items out more all q x a h eq ed es k =
    subst (λ zs. OnRead a (λ o. PropositionsReadBehind e c least left (p ∷ map behind_and zs) out (all_read o all) after)) es (told_first_read e c d least left between after p (map behind_and slice) out more all q x a h eq ed k)

-- of the propositions of a tree
pub told_all_read : {X Y : Type 0} (e : Environment) (c d : Context) (least : ℕ) (left between after : Left) (ps qs : PropositionsTree) (slice : List AndPropositionTree) (out more all : List LabelledStatement) (q : Result X ResolveFault) (x : X) (a : Result Y ResolveFault) →
    ps ≡ qs → OnRead q (λ o. PropositionsReadBehind e c least left (ps.first ∷ []) out (all_read o more) between) → q ≡ Ok x → d ≡ c → slice ≡ ps.more → OnRead a (λ o. PropositionsReadBehind e d least between (map behind_and slice) more (all_read o all) after) →
    OnRead a (λ o. PropositionsReadBehind e c least left (propositions_in qs) out (all_read o all) after)
told_all_read e c d least left between after ps qs slice out more all q x a ep h eq ed es k =
    subst (λ z. OnRead a (λ o. PropositionsReadBehind e c least left (propositions_in z) out (all_read o all) after)) ep (told_first_read_each e c d least left between after ps.first slice ps.more out more all q x a h eq ed es k)

pub told_all_refused : {X : Type 0} (Y : Type 0) (e : Environment) (c : Context) (least : ℕ) (left after : Left) (ps qs : PropositionsTree) (out more others : List LabelledStatement) (q : Result X ResolveFault) (f : ResolveFault) →
    ps ≡ qs → OnRead q (λ o. PropositionsReadBehind e c least left (ps.first ∷ []) out (all_read o more) after) → q ≡ Err f → OnRead {X = Y} (Err f) (λ o. PropositionsReadBehind e c least left (propositions_in qs) out (all_read o others) after)
told_all_refused Y e c least left after ps qs out more others q f ep h eq =
    subst (λ z. OnRead {X = Y} (Err f) (λ o. PropositionsReadBehind e c least left (propositions_in z) out (all_read o others) after)) ep (told_first_refused Y e c least left after ps.first (map behind_and ps.more) out more others q f h eq)

pub ruleset all_rules = (told_first_refused, told_first_read, told_kept)

-- the whole
from_none : (e : Environment) (c : Context) (least : ℕ) (left after : Left) (ps : List PropositionTree) (out : List LabelledStatement) (o : Result (List LabelledStatement) Refusal) → out ≡ [] → PropositionsReadBehind e c least left ps out o after → PropositionsReadBehind e c least left ps [] o after
from_none e c least left after ps out o e' h = subst (λ xs. PropositionsReadBehind e c least left ps xs o after) e' h

pub told_whole : {X : Type 0} (e : Environment) (c : Context) (least : ℕ) (left after : Left) (ps : List PropositionTree) (out more : List LabelledStatement) (q : Result X ResolveFault) (x : X) →
    out ≡ [] → OnRead q (λ o. PropositionsReadBehind e c least left ps out (all_read o more) after) → q ≡ Ok x → PropositionsReadBehind e c least left ps [] (Ok more) after
told_whole {X} e c least left after ps out more q x eo h eq =
    let P : Result X Refusal → Type 0 = λ o. PropositionsReadBehind e c least left ps out (all_read o more) after in
    from_none e c least left after ps out (Ok more) eo (read_by P q x h eq)

pub told_whole_refused : {X : Type 0} (e : Environment) (c : Context) (least : ℕ) (left after : Left) (ps : List PropositionTree) (out more : List LabelledStatement) (q : Result X ResolveFault) (f : ResolveFault) →
    out ≡ [] → OnRead q (λ o. PropositionsReadBehind e c least left ps out (all_read o more) after) → q ≡ Err f → OnRead {X = List LabelledStatement} (Err f) (λ o. PropositionsReadBehind e c least left ps [] o after)
told_whole_refused {X} e c least left after ps out more q f eo h eq =
    let P : Result X Refusal → Type 0 = λ o. PropositionsReadBehind e c least left ps out (all_read o more) after in
    let Q : Result (List LabelledStatement) Refusal → Type 0 = λ o. PropositionsReadBehind e c least left ps [] o after in
    refused_by P Q q f h eq (λ r k. from_none e c least left after ps out (Err r) eo k)

pub ruleset whole_rules = (told_whole, told_whole_refused)

-- what is assumed
pub told_alone : {X : Type 0} (e : Environment) (c : Context) (least : ℕ) (left after : Left) (hs : HypothesesTree) (p : PropositionTree) (out more : List LabelledStatement) (q : Result X ResolveFault) (x : X) →
    hs ≡ One p → out ≡ [] → OnRead q (λ o. PropositionsReadBehind e c least left (p ∷ []) out (all_read o more) after) → q ≡ Ok x → PropositionsReadBehind e c least left (hypotheses_in hs) [] (Ok more) after
told_alone e c least left after hs p out more q x eh eo h eq =
    subst (λ ps. PropositionsReadBehind e c least left ps [] (Ok more) after) (sym (ap hypotheses_in eh)) (told_whole e c least left after (p ∷ []) out more q x eo h eq)

pub told_alone_refused : {X : Type 0} (e : Environment) (c : Context) (least : ℕ) (left after : Left) (hs : HypothesesTree) (p : PropositionTree) (out more : List LabelledStatement) (q : Result X ResolveFault) (f : ResolveFault) →
    hs ≡ One p → out ≡ [] → OnRead q (λ o. PropositionsReadBehind e c least left (p ∷ []) out (all_read o more) after) → q ≡ Err f → OnRead {X = List LabelledStatement} (Err f) (λ o. PropositionsReadBehind e c least left (hypotheses_in hs) [] o after)
told_alone_refused e c least left after hs p out more q f eh eo h eq =
    subst (λ ps. OnRead {X = List LabelledStatement} (Err f) (λ o. PropositionsReadBehind e c least left ps [] o after)) (sym (ap hypotheses_in eh)) (told_whole_refused e c least left after (p ∷ []) out more q f eo h eq)

pub told_several : (e : Environment) (c : Context) (least : ℕ) (left after : Left) (hs : HypothesesTree) (that : Place) (ps : PropositionsTree) (q : Result (List LabelledStatement) ResolveFault) →
    hs ≡ That that ps → OnRead q (λ o. PropositionsReadBehind e c least left (propositions_in ps) [] o after) → OnRead q (λ o. PropositionsReadBehind e c least left (hypotheses_in hs) [] o after)
told_several e c least left after hs that ps q eh h = subst (λ xs. OnRead q (λ o. PropositionsReadBehind e c least left xs [] o after)) (sym (ap hypotheses_in eh)) h

pub ruleset hypothesis_rules = (told_alone, told_alone_refused, told_several)
