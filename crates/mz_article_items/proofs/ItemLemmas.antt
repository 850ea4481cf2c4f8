-- What the code that reads items tells.
use Rattle.std.proofs.Common.{◌≡◌, ℕ, List, [], ◌∷◌, ◌++◌, append-nil, refl, sym, ap, subst, ◌∙◌, false, Some}
use Rattle.std.specs.Prelude.{Result, Ok, Err, OnOk}
use Rattle.mz_base.specs.declared.place.Place.{Place}
use Rattle.mz_core.specs.declared.item.Item.TheVariants.{Theorem}
use Rattle.mz_core.specs.declared.outcome.Left.{Left}
use Rattle.mz_context.specs.declared.context.Context.{Context}
use Rattle.mz_formulas.specs.declared.sentence.Sentence.{Sentence}
use Rattle.mz_names.specs.declared.refusal.Refusal.{Refusal}
use Rattle.mz_resolve.specs.Answers.{OnRead}
use Rattle.mz_resolve.specs.declared.resolve_fault.ResolveFault.{ResolveFault}
use Rattle.mz_cited.specs.Cited.{members}
use Rattle.mz_steps.specs.declared.block.Block.TheVariants.{Proof}
use Rattle.mz_obligations.specs.declared.obligation.Extent.{Extent}
use Rattle.mz_obligations.specs.declared.obligation.Obligation.{Obligation}
use Rattle.mz_parts.specs.Propositions.{label_in}
use Rattle.mz_justified.specs.Answers.{OnMade}
use Rattle.mz_justified.specs.declared.proof_fault.ProofFault.{ProofFault}
use Rattle.mz_justified.specs.declared.proof_fault.ProofFault.TheVariants as fault
use Rattle.mz_justified.specs.declared.proof_fault.ProofRefusal.{ProofRefusal}
use Rattle.mz_justified.specs.declared.proof_fault.ProofRefusal.TheVariants.{Resolve}
use Rattle.mz_walk.specs.Answers.{resolved, IsBrought, Brings}
use Rattle.mz_walk.specs.Walked.{State, state, Walked, Made, Refused}
use Rattle.mz_walk.specs.Walk.{Justifies, States}
use Rattle.mz_article_items.proofs.AnswerLemmas.{on_err, on_ok, on_unread, on_read}
use Rattle.mz_reserve.specs.Reserve.{Reserves, come_to}
use Rattle.mz_tree.specs.Places.{first_place}
use Rattle.mz_tree_proof.specs.Reasoning.{StatementData}
use Rattle.mz_tree_proof.specs.SpellReasoning.{spell_statement}
use Rattle.mz_tree_part.specs.declared.reserve.ReserveTree.{ReserveTree}
use Rattle.mz_tree_item.specs.declared.schemes.TheoremTree.{TheoremTree}
use Rattle.mz_standing.specs.Standing.{extent_of, with_left, with_context, with_item, behind_item, behind_theorem}
use Rattle.mz_standing.specs.declared.standing.Standing.{Standing}
use Rattle.mz_article_items.specs.Items as rule
use Rattle.mz_article_items.specs.Items.{IsReserved, ReadsTheorem, JustifiesTheorem, IsTheorem, StatesThere, IsStatement}

-- nothing was made
nothing_made : {makes : List Obligation → Type 0} (os : List Obligation) → makes [] → IsBrought makes os os
nothing_made os h = record { made = []; is_made = h; are_last = sym (append-nil os) }

-- context and left are what they came to be
pub told_changed : (s u : Standing) (c : Context) (l : Left) → u ≡ with_left (with_context s c) l → u ≡ with_left (with_context s u.context) u.left
told_changed s u c l e = subst (λ w. w ≡ with_left (with_context s w.context) w.left) (sym e) refl

-- a reservation

abbrev pub ReservedTo : {X : Type 0} → Standing → ReserveTree → Standing → Result X Refusal → Type 0
ReservedTo s t u o = Reserves s.environment s.context s.left (members t.segments) (come_to o u.context) u.left

pub told_unreserved : {X : Type 0} (s s1 u : Standing) (os : List Obligation) (t : ReserveTree) (x : Result X ResolveFault) (f : ResolveFault) (g : ProofFault) → OnRead x (ReservedTo s t s1) → x ≡ Err f → g ≡ resolved f → OnMade {X = Unit {0}} (Err g) (Brings (IsReserved s t) u os os)
told_unreserved s s1 u os t x f g h e eg = on_unread (ReservedTo s t s1) (Brings (IsReserved s t) u os os) x f g e eg h (λ r k. rule.not_read r s1.left k)

reserved_so : (s s1 u : Standing) (t : ReserveTree) → Reserves s.environment s.context s.left (members t.segments) (Ok s1.context) s1.left → s1 ≡ with_left (with_context s s1.context) s1.left → u ≡ with_context s1 (behind_item s1.context) →
    IsReserved s t (Made [] u)
reserved_so s s1 u t h e1 eu = subst (λ z. IsReserved s t (Made [] z)) (sym (eu ∙ ap (λ (z : Standing). with_context z (behind_item s1.context)) e1)) (rule.reserved s1.context s1.left h)

pub told_reserved : {X : Type 0} (s s1 u : Standing) (os : List Obligation) (t : ReserveTree) (x : Result X ResolveFault) (y : X) → OnRead x (ReservedTo s t s1) → x ≡ Ok y → s1 ≡ with_left (with_context s s1.context) s1.left → u ≡ with_context s1 (behind_item s1.context) →
    IsBrought (λ ps. IsReserved s t (Made ps u)) os os
told_reserved s s1 u os t x y h e e1 eu = nothing_made os (reserved_so s s1 u t (on_read (ReservedTo s t s1) x y e h) e1 eu)

pub ruleset reserve_rules = (told_unreserved, told_reserved)

-- a theorem

abbrev TheoremRead : Standing → TheoremTree → Left → Result Sentence Refusal → Type 0
TheoremRead s t l o = ReadsTheorem s t o l

abbrev TheoremJustified : Standing → TheoremTree → Sentence → Walked Left → Type 0
TheoremJustified s t x = JustifiesTheorem s t x s.left

-- the extent is that of the place
pub told_justified : {X : Type 0} (s : Standing) (t : TheoremTree) (x : Sentence) (at : Extent) (l : Left) (os os2 : List Obligation) (z : Result X ProofFault) → at ≡ extent_of s →
    OnMade z (Brings (Justifies s.environment at s.context t.theorem false t.semicolon t.just x s.left) l os os2) → OnMade z (Brings (JustifiesTheorem s t x s.left) l os os2)
told_justified s t x at l os os2 z e h = subst (λ y. OnMade z (Brings (Justifies s.environment y s.context t.theorem false t.semicolon t.just x s.left) l os os2)) e h

pub told_kept : (s u : Standing) (c : Context) (l : Left) → c ≡ s.context → u ≡ with_left (with_context s c) l → u ≡ with_left s u.left
told_kept s u c l same e = subst (λ w. w ≡ with_left s w.left) (sym e) (ap (λ d. with_left (with_context s d) l) same)

pub ruleset justify_rules = (told_justified, told_kept)

pub told_unread : (s s1 u : Standing) (os : List Obligation) (t : TheoremTree) (x : Result Sentence ResolveFault) (f : ResolveFault) (g : ProofFault) →
    OnRead x (TheoremRead s t s1.left) → x ≡ Err f → g ≡ resolved f → OnMade {X = Unit {0}} (Err g) (Brings (IsTheorem s t) u os os)
told_unread s s1 u os t x f g h e eg = on_unread (TheoremRead s t s1.left) (Brings (IsTheorem s t) u os os) x f g e eg h (λ r k. rule.not_read r s1.left k)

-- the same where the sentence was read
justified_from : (s s1 : Standing) (t : TheoremTree) (x : Sentence) (o : Walked Left) → s1 ≡ with_left s s1.left → TheoremJustified s1 t x o → JustifiesTheorem s t x s1.left o
justified_from s s1 t x o e h = subst (λ (z : Standing). JustifiesTheorem z t x s1.left o) e h

pub told_unjustified : {X : Type 0} (s s1 s2 u : Standing) (os os2 ps : List Obligation) (t : TheoremTree) (x : Result Sentence ResolveFault) (y : Sentence) (z : Result X ProofFault) (f : ProofFault) →
    OnRead x (TheoremRead s t s1.left) → x ≡ Ok y → s1 ≡ with_left s s1.left → OnMade z (Brings (TheoremJustified s1 t y) s2.left os os2) → z ≡ Err f →
    OnMade {X = Unit {0}} (Err f) (Brings (IsTheorem s t) u os ps)
told_unjustified s s1 s2 u os os2 ps t x y z f h ex e1 k ez =
    on_err (Brings (TheoremJustified s1 t y) s2.left os os2) (Brings (IsTheorem s t) u os ps) z f ez k
    (λ r j. rule.read y s1.left (Refused r) (on_read (TheoremRead s t s1.left) x y ex h) (justified_from s s1 t y (Refused r) e1 j))

pub told_theorem : {X : Type 0} (s s1 s2 u : Standing) (os os2 : List Obligation) (t : TheoremTree) (x : Result Sentence ResolveFault) (y : Sentence) (z : Result X ProofFault) (v : X) →
    OnRead x (TheoremRead s t s1.left) → x ≡ Ok y → s1 ≡ with_left s s1.left → OnMade z (Brings (TheoremJustified s1 t y) s2.left os os2) → z ≡ Ok v → s2 ≡ with_left s1 s2.left →
    u ≡ with_item (with_context s2 (behind_theorem s2.context (label_in t.proposition.label) y.closed)) (Theorem y.closed) → IsBrought (λ ps. IsTheorem s t (Made ps u)) os os2
told_theorem s s1 s2 u os os2 t x y z v h ex e1 k ez e2 eu =
    let b = on_ok (Brings (TheoremJustified s1 t y) s2.left os os2) z v ez k in
    let stands : Standing → Standing = λ w. with_item (with_context w (behind_theorem w.context (label_in t.proposition.label) y.closed)) (Theorem y.closed) in
    record {
      made = b.made;
      is_made =
          subst (λ w. IsTheorem s t (Made b.made w)) (sym (eu ∙ ap stands (e2 ∙ ap (λ (w : Standing). with_left w s2.left) e1)))
          (rule.read y s1.left (Made b.made s2.left) (on_read (TheoremRead s t s1.left) x y ex h) (justified_from s s1 t y (Made b.made s2.left) e1 b.is_made));
      are_last = b.are_last;
    }

pub ruleset theorem_rules = (told_unread, told_unjustified, told_theorem)

-- a statement

-- an answer of the call
abbrev pub StatementAnswered : {X : Type 0} → Standing → StatementData → Extent → Standing → List Obligation → List Obligation → Result X ProofRefusal → Type 0
StatementAnswered s t at u os os2 o = (first : Place) × (first_place (spell_statement t) ≡ Some first) × Brings (States s.environment at (state s.context Proof s.left) first t) (state u.context Proof u.left) os os2 o

there : {X : Type 0} (s u : Standing) (os os2 : List Obligation) (t : StatementData) (z : Result X ProofFault) → OnMade z (StatementAnswered s t (extent_of s) u os os2) → OnOk z (u ≡ with_left (with_context s u.context) u.left) → OnMade z (Brings (IsStatement s t) u os os2)
there s u os os2 t (Ok v) (first, at, b) e =
    record { made = b.made; is_made = subst (λ w. IsStatement s t (Made b.made w)) (sym e) (rule.stated first (Made b.made (state u.context Proof u.left)) at b.is_made); are_last = b.are_last }
there s u os os2 t (Err (fault.Refused r)) (first, at, h) e = rule.stated first (Refused r) at h
there s u os os2 t (Err fault.Memory) h e = tt

pub told_statement : {X : Type 0} (s u : Standing) (os os2 : List Obligation) (t : StatementData) (at : Extent) (z : Result X ProofFault) → at ≡ extent_of s → OnMade z (StatementAnswered s t at u os os2) → OnOk z (u ≡ with_left (with_context s u.context) u.left) →
    OnMade z (Brings (IsStatement s t) u os os2)
told_statement s u os os2 t at z ea h e = there s u os os2 t z (subst (λ x. OnMade z (StatementAnswered s t x u os os2)) ea h) e

pub ruleset statement_rules = (told_statement)
