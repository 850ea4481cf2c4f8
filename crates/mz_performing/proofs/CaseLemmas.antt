-- What the code of cases tells.
use Rattle.std.proofs.Common.{◌≡◌, ◌<◌, ℕ, zero, suc, List, [], ◌∷◌, ◌++◌, length, refl, sym, ap, ◌∙◌, subst, arith, Option, Some, None}
use Rattle.std.specs.Prelude.{Result, Ok, Err}
use Rattle.std.proofs.lemmas.List.{append_assoc}
use Rattle.mz_base.specs.declared.place.Place.{Place}
use Rattle.mz_core.specs.Statement.{Statement, Truth, Not}
use Rattle.mz_core.specs.declared.outcome.Left.{Left}
use Rattle.mz_context.specs.declared.context.Context.{Context}
use Rattle.mz_context.specs.declared.labelled.LabelledStatement.{LabelledStatement}
use Rattle.mz_environment.specs.declared.environment.Environment.{Environment}
use Rattle.mz_names.specs.declared.refusal.Refusal.{Refusal}
use Rattle.mz_sizes.specs.Sizes.{statement_keeps}
use Rattle.mz_applied.specs.Within.{within}
use Rattle.mz_fits.proofs.FitLemmas.{empty}
use Rattle.mz_resolve.specs.Answers.{OnRead}
use Rattle.mz_resolve.specs.declared.resolve_fault.ResolveFault.{ResolveFault}
use Rattle.mz_steps.specs.Changes.{with_stated, at_start_of_now, outside_of}
use Rattle.mz_steps.specs.declared.block.Outside.{Outside}
use Rattle.mz_tree_proof.specs.declared.propositions.HypothesesTree.{HypothesesTree}
use Rattle.mz_tree_proof.specs.declared.skeleton.SplitTree.{SplitTree}
use Rattle.mz_obligations.specs.declared.obligation.Extent.{Extent}
use Rattle.mz_obligations.specs.declared.obligation.Obligation.{Obligation}
use Rattle.mz_parts.specs.Joined.{joined_within, disjoined_within}
use Rattle.mz_parts.specs.Propositions.{PropositionsRead, hypotheses_in}
use Rattle.mz_justified.specs.Answers.{OnMade}
use Rattle.mz_given.specs.declared.given.Given.{Given}
use Rattle.mz_justified.specs.Justified.{Owes, IsPut, place_of}
use Rattle.mz_justified.specs.declared.proof_fault.ProofFault.{ProofFault}
use Rattle.mz_justified.specs.declared.proof_fault.ProofRefusal.{ProofRefusal}
use Rattle.mz_justified.specs.declared.proof_fault.ProofRefusal.TheVariants.{Resolve}
use Rattle.mz_walk.specs.Walk.{disjunction_of}
use Rattle.mz_walk.specs.Answers.{resolved}
use Rattle.mz_performing.specs.Begun as bg
use Rattle.mz_performing.specs.Begun.{IsSupposed, IsUnsupposed, Supposing}
use Rattle.mz_performing.specs.Splits.{with_truth, IsPutFirst, IsSplit, IsUnsplit}
use Rattle.mz_performing.proofs.AnswerLemmas.{on_unread, on_read}

-- what is stated in a case
pub told_state : (c d f : Context) (ps : List LabelledStatement) → d ≡ at_start_of_now c → f ≡ with_stated d ps → f ≡ with_stated c ps
told_state c d f ps ed ef = ef ∙ ap (λ x. with_stated x ps) ed

pub ruleset state_rules = (told_state)

pub told_unread : (e : Environment) (c d : Context) (first : Place) (h : HypothesesTree) (l m : Left) (old new : List Statement) (x : Result (List LabelledStatement) ResolveFault) (f : ResolveFault) (g : ProofFault) →
    OnRead x (λ o. PropositionsRead e c 0 l (hypotheses_in h) o m) → x ≡ Err f → g ≡ resolved f → OnMade {X = Outside} (Err g) (Supposing e c d first h l m old new)
told_unread e c d first h l m old new x f g k ex eg =
    let P : Result (List LabelledStatement) Refusal → Type 0 = λ o. PropositionsRead e c 0 l (hypotheses_in h) o m in
    on_unread P (Supposing e c d first h l m old new) x f g ex eg k (λ r z. bg.not_read r m z)

pub told_unjoined : (e : Environment) (c : Context) (first : Place) (h : HypothesesTree) (l m : Left) (x : Result (List LabelledStatement) ResolveFault) (ps : List LabelledStatement) (y : Result Statement Refusal) (r : Refusal) →
    OnRead x (λ o. PropositionsRead e c 0 l (hypotheses_in h) o m) → x ≡ Ok ps → y ≡ joined_within first ps → y ≡ Err r → IsUnsupposed e c first h l (Resolve r)
told_unjoined e c first h l m x ps y r k ex ey er =
    let P : Result (List LabelledStatement) Refusal → Type 0 = λ o. PropositionsRead e c 0 l (hypotheses_in h) o m in
    bg.too_large ps r m (on_read P x ps ex k) (sym ey ∙ er)

pub told_supposed : (e : Environment) (c d f : Context) (first : Place) (h : HypothesesTree) (l m : Left) (old new : List Statement) (x : Result (List LabelledStatement) ResolveFault) (ps : List LabelledStatement) (y : Result Statement Refusal) (s : Statement) (o : Outside) →
    OnRead x (λ q. PropositionsRead e c 0 l (hypotheses_in h) q m) → x ≡ Ok ps → d ≡ c → y ≡ joined_within first ps → y ≡ Ok s → new ≡ old ++ s ∷ [] → o ≡ outside_of d → f ≡ with_stated d ps → IsSupposed e c f first h l m old new o
told_supposed e c d f first h l m old new x ps y s o k ex ed ey es en eo ef =
    let P : Result (List LabelledStatement) Refusal → Type 0 = λ q. PropositionsRead e c 0 l (hypotheses_in h) q m in
    record { propositions = ps; supposition = s; are_read = on_read P x ps ex k; joined = sym ey ∙ es; context = ef ∙ ap (λ z. with_stated z ps) ed; aside = eo ∙ ap outside_of ed; is_last = en }

pub ruleset suppose_rules = (told_unread, told_unjoined, told_supposed)

-- the disjunction
pub told_no_case : (first : Place) (ss : List Statement) (t s : Statement) (o : Result Statement Refusal) → length ss ≡ 0 → t ≡ Truth → s ≡ Not t → o ≡ within statement_keeps first s → o ≡ within statement_keeps first (disjunction_of ss)
told_no_case first ss t s o el et es eo = eo ∙ (ap (within statement_keeps first) (es ∙ ap Not et) ∙ ap (λ xs. within statement_keeps first (disjunction_of xs)) (sym (empty ss el)))

pub told_some_case : (first : Place) (ss rest : List Statement) (s : Statement) (o : Result Statement Refusal) → ss ≡ s ∷ rest → o ≡ disjoined_within first s rest → o ≡ within statement_keeps first (disjunction_of ss)
told_some_case first ss rest s o es eo = eo ∙ ap (λ xs. within statement_keeps first (disjunction_of xs)) (sym es)

pub ruleset disjunction_rules = (told_no_case, told_some_case)

-- the obligation in front
pub told_put_first : (e : Environment) (at : Extent) (c : Context) (given : Given) (s : Statement) (p q : Place) (inner old mid new : List Obligation) → p ≡ q → IsPut (Owes e at c given s p) old mid → new ≡ mid ++ inner → IsPutFirst (Owes e at c given s q) inner old new
told_put_first e at c given s p q inner old mid new ep put en =
    record { obligation = put.obligation; is_owed = subst (λ x. Owes e at c given s x put.obligation) ep put.is_owed; are_last = en ∙ (ap (λ xs. xs ++ inner) put.is_last ∙ append_assoc old (put.obligation ∷ []) inner) }

pub ruleset oblige_rules = (told_put_first)

-- all of it
pub told_unsplit : (first : Place) (ss : List Statement) (o : Result Statement Refusal) (r : Refusal) → o ≡ within statement_keeps first (disjunction_of ss) → o ≡ Err r → IsUnsplit first ss (Resolve r)
told_unsplit first ss o r eo er = (r, sym eo ∙ er, refl)

pub told_split : (e : Environment) (at : Extent) (c d : Context) (first : Place) (t : SplitTree) (given : Given) (ss : List Statement) (o : Result Statement Refusal) (s : Statement) (inner old new : List Obligation) → o ≡ within statement_keeps first (disjunction_of ss) → o ≡ Ok s →
    IsPutFirst (Owes e at c given s (place_of t.semicolon t.simple)) inner old new → d ≡ with_truth c → IsSplit e at c d first t given ss inner old new
told_split e at c d first t given ss o s inner old new eo es put ed =
    record { statement = s; obligation = put.obligation; joined = sym eo ∙ es; is_owed = put.is_owed; are_last = put.are_last; context = ed }

pub ruleset split_rules = (told_unsplit, told_split)
