-- What the code of compact statements tells.
use Rattle.std.proofs.Common.{◌≡◌, ℕ, List, [], ◌∷◌, length, refl, sym, ap, ◌∙◌, subst}
use Rattle.std.specs.Prelude.{Result, Ok, Err}
use Rattle.mz_base.specs.declared.place.Place.{Place}
use Rattle.mz_logic.specs.Term.{Term}
use Rattle.mz_core.specs.declared.outcome.Left.{Left}
use Rattle.mz_context.specs.Context.{next}
use Rattle.mz_context.specs.declared.context.Context.{Context}
use Rattle.mz_environment.specs.declared.environment.Environment.{Environment}
use Rattle.mz_names.specs.declared.refusal.Refusal.{Refusal}
use Rattle.mz_fits.proofs.FitLemmas.{empty}
use Rattle.mz_formulas.specs.declared.sentence.Sentence.{Sentence}
use Rattle.mz_resolve.specs.Answers.{OnRead}
use Rattle.mz_resolve.specs.Calls.{SentenceRead}
use Rattle.mz_resolve.specs.declared.resolve_fault.ResolveFault.{ResolveFault}
use Rattle.mz_tree_proof.specs.declared.equality_step.EqualityStepTree.{EqualityStepTree}
use Rattle.mz_tree_proof.specs.declared.propositions.PropositionTree.{PropositionTree}
use Rattle.mz_parts.specs.Named.{SidesRead}
use Rattle.mz_justified.specs.Answers.{OnMade}
use Rattle.mz_justified.specs.declared.proof_fault.ProofFault.{ProofFault}
use Rattle.mz_justified.specs.declared.proof_fault.ProofRefusal.{ProofRefusal}
use Rattle.mz_walk.specs.declared.compact.Compact.{Compact}
use Rattle.mz_walk.specs.declared.compact.Said.{Said}
use Rattle.mz_walk.specs.Compact as cp
use Rattle.mz_walk.specs.Compact.{saying, compact, SaidBy, EqualityMade, EqualityRead, CompactRead}
use Rattle.mz_walk.specs.Answers.{resolved}
use Rattle.mz_performing.proofs.AnswerLemmas.{on_err, on_ok, on_made, on_unread, on_read}

-- further sides
pub told_unread : (e : Environment) (c : Context) (first : Place) (l m : Left) (x : Sentence) (ks : List EqualityStepTree) (q : Result (List Term) ResolveFault) (f : ResolveFault) (g : ProofFault) →
    OnRead q (λ o. SidesRead e c 0 l x.variables ks o m) → q ≡ Err f → g ≡ resolved f → OnMade (Err g) (λ o. EqualityRead e c first l x ks o m)
told_unread e c first l m x ks q f g h eq eg =
    let P : Result (List Term) Refusal → Type 0 = λ o. SidesRead e c 0 l x.variables ks o m in
    let Q : Result Said ProofRefusal → Type 0 = λ o. EqualityRead e c first l x ks o m in
    on_unread P Q q f g eq eg h (λ r k. cp.sides_not_read r m k)

pub told_unmade : (e : Environment) (c d : Context) (first : Place) (l m : Left) (x : Sentence) (ks : List EqualityStepTree) (q : Result (List Term) ResolveFault) (us : List Term) (n : ℕ) (p : Result Said ProofRefusal) (r : ProofRefusal) →
    OnRead q (λ o. SidesRead e c 0 l x.variables ks o m) → q ≡ Ok us → d ≡ c → n ≡ next d → EqualityMade first n x us p → p ≡ Err r → EqualityRead e c first l x ks (Err r) m
told_unmade e c d first l m x ks q us n p r h eq ed en k ep =
    let P : Result (List Term) Refusal → Type 0 = λ o. SidesRead e c 0 l x.variables ks o m in
    cp.sides_read us m (Err r) (on_read P q us eq h) (subst (λ o. EqualityMade first (next c) x us o) ep (subst (λ i. EqualityMade first i x us p) (en ∙ ap next ed) k))

pub told_made : (e : Environment) (c d : Context) (first : Place) (l m : Left) (x : Sentence) (ks : List EqualityStepTree) (q : Result (List Term) ResolveFault) (us : List Term) (n : ℕ) (p : Result Said ProofRefusal) (s : Said) →
    OnRead q (λ o. SidesRead e c 0 l x.variables ks o m) → q ≡ Ok us → d ≡ c → n ≡ next d → EqualityMade first n x us p → p ≡ Ok s → EqualityRead e c first l x ks (Ok s) m
told_made e c d first l m x ks q us n p s h eq ed en k ep =
    let P : Result (List Term) Refusal → Type 0 = λ o. SidesRead e c 0 l x.variables ks o m in
    cp.sides_read us m (Ok s) (on_read P q us eq h) (subst (λ o. EqualityMade first (next c) x us o) ep (subst (λ i. EqualityMade first i x us p) (en ∙ ap next ed) k))

pub ruleset equality_rules = (told_unread, told_unmade, told_made)

-- with the sentence
pub told_not_said : (e : Environment) (c : Context) (first : Place) (l m : Left) (x : Sentence) (ks : List EqualityStepTree) (q : Result Said ProofFault) (f : ProofFault) →
    OnMade q (λ o. EqualityRead e c first l x ks o m) → q ≡ Err f → OnMade (Err f) (λ o. SaidBy e c first l x ks o m)
told_not_said e c first l m x ks q f h eq =
    let P : Result Said ProofRefusal → Type 0 = λ o. EqualityRead e c first l x ks o m in
    let Q : Result Compact ProofRefusal → Type 0 = λ o. SaidBy e c first l x ks o m in
    on_err P Q q f eq h (λ r k. (Err r, k, refl))

pub told_said : (e : Environment) (c : Context) (first : Place) (l m : Left) (x : Sentence) (ks : List EqualityStepTree) (q : Result Said ProofFault) (s : Said) →
    OnMade q (λ o. EqualityRead e c first l x ks o m) → q ≡ Ok s → SaidBy e c first l x ks (Ok (compact x s)) m
told_said e c first l m x ks q s h eq =
    let P : Result Said ProofRefusal → Type 0 = λ o. EqualityRead e c first l x ks o m in
    (Ok s, on_ok P q s eq h, refl)

pub ruleset iterative_rules = (told_not_said, told_said)

-- all of it
pub told_not_read : (e : Environment) (c : Context) (first : Place) (l m : Left) (p : PropositionTree) (ks : List EqualityStepTree) (q : Result Sentence ResolveFault) (f : ResolveFault) (g : ProofFault) →
    OnRead q (λ o. SentenceRead e c 0 l p.formula o m) → q ≡ Err f → g ≡ resolved f → OnMade (Err g) (λ o. CompactRead e c first l p ks o m)
told_not_read e c first l m p ks q f g h eq eg =
    let P : Result Sentence Refusal → Type 0 = λ o. SentenceRead e c 0 l p.formula o m in
    let Q : Result Compact ProofRefusal → Type 0 = λ o. CompactRead e c first l p ks o m in
    on_unread P Q q f g eq eg h (λ r k. cp.not_read ks r m k)

pub told_plain : (e : Environment) (c : Context) (first : Place) (l m : Left) (p : PropositionTree) (ks : List EqualityStepTree) (q : Result Sentence ResolveFault) (s : Sentence) (x : Compact) → length ks ≡ 0 →
    OnRead q (λ o. SentenceRead e c 0 l p.formula o m) → q ≡ Ok s → x ≡ compact s (saying s.closed []) → CompactRead e c first l p ks (Ok x) m
told_plain e c first l m p ks q s x ek h eq ex =
    let P : Result Sentence Refusal → Type 0 = λ o. SentenceRead e c 0 l p.formula o m in
    subst (λ y. CompactRead e c first l p ks (Ok y) m) (sym ex) (subst (λ y. CompactRead e c first l p y (Ok (compact s (saying s.closed []))) m) (sym (empty ks ek)) (cp.plain s m (on_read P q s eq h)))

pub told_iterative : (e : Environment) (c d : Context) (first : Place) (l m n : Left) (p : PropositionTree) (ks others : List EqualityStepTree) (k : EqualityStepTree) (q : Result Sentence ResolveFault) (s : Sentence) (y : Result Compact ProofFault) → ks ≡ k ∷ others →
    OnRead q (λ o. SentenceRead e c 0 l p.formula o m) → q ≡ Ok s → d ≡ c → OnMade y (λ o. SaidBy e d first m s ks o n) → OnMade y (λ o. CompactRead e c first l p ks o n)
told_iterative e c d first l m n p ks others k q s y ek h eq ed g =
    let P : Result Sentence Refusal → Type 0 = λ o. SentenceRead e c 0 l p.formula o m in
    let S : Result Compact ProofRefusal → Type 0 = λ o. SaidBy e c first m s (k ∷ others) o n in
    let Q : Result Compact ProofRefusal → Type 0 = λ o. CompactRead e c first l p (k ∷ others) o n in
    let is_read : SentenceRead e c 0 l p.formula (Ok s) m = on_read P q s eq h in
    let at_c : OnMade y S = subst (λ xs. OnMade y (λ o. SaidBy e c first m s xs o n)) ek (subst (λ b. OnMade y (λ o. SaidBy e b first m s ks o n)) ed g) in
    subst (λ xs. OnMade y (λ o. CompactRead e c first l p xs o n)) (sym ek) (on_made S Q y at_c (λ x z. cp.iterative k others s (Ok x) m n is_read z) (λ r z. cp.iterative k others s (Err r) m n is_read z))

pub ruleset compact_rules = (told_not_read, told_plain, told_iterative)
