-- Splits into cases, each where its cases lead to one outcome at most.
use Rattle.std.proofs.Common.{◌≡◌, Bool, List, [], ◌∷◌, map, Option, Some, None, refl, sym, ◌∙◌, subst}
use Rattle.std.specs.Prelude.{Result, Ok, Err, is_some}
use Rattle.mz_base.specs.declared.place.Place.{Place}
use Rattle.mz_core.specs.Statement.{Statement}
use Rattle.mz_core.specs.Parts.{conjunction}
use Rattle.mz_core.specs.declared.outcome.Left.{Left}
use Rattle.mz_context.specs.declared.context.Context.{Context}
use Rattle.mz_context.specs.declared.labelled.LabelledStatement.{LabelledStatement}
use Rattle.mz_environment.specs.declared.environment.Environment.{Environment}
use Rattle.mz_names.specs.declared.refusal.Refusal.{Refusal}
use Rattle.mz_names.specs.declared.refusal.Refusal.TheVariants.{TooLarge}
use Rattle.mz_sizes.specs.Sizes.{statement_keeps}
use Rattle.mz_applied.specs.Within.{within}
use Rattle.mz_steps.specs.Changes.{statement_of, with_stated}
use Rattle.mz_tree_proof.specs.Reasoning.{StepList, SupposeList, CaseSuppose, no_supposes, more_supposes}
use Rattle.mz_tree_proof.specs.declared.propositions.HypothesesTree.{HypothesesTree}
use Rattle.mz_tree_proof.specs.declared.references.SimpleTree.{SimpleTree}
use Rattle.mz_tree_proof.specs.declared.skeleton.SplitTree.{SplitTree}
use Rattle.mz_obligations.specs.declared.obligation.Extent.{Extent}
use Rattle.mz_obligations.specs.declared.obligation.Obligation.{Obligation}
use Rattle.mz_parts.specs.Joined.{joined_within}
use Rattle.mz_parts.specs.Propositions.{PropositionsRead, hypotheses_in}
use Rattle.mz_given.specs.declared.given.Given.{Given}
use Rattle.mz_justified.specs.Kept.{justification_keeps}
use Rattle.mz_justified.specs.Justified.{Grounds, Owes, place_of}
use Rattle.mz_justified.specs.declared.proof_fault.ProofRefusal.{ProofRefusal}
use Rattle.mz_justified.specs.declared.proof_fault.ProofRefusal.TheVariants.{StepNoFit, Resolve}
use Rattle.mz_justified_laws.specs.Determined.{AtMostOne}
use Rattle.mz_justified_laws.proofs.Sequence.{one_by, one_value, IfSo, if_so, if_not, one_if, NextOk, one_next_ok, After, one_after, Makes, one_made, AfterRead, one_after_read}
use Rattle.mz_justified_laws.proofs.OneJustification.{one_ground, one_owed}
use Rattle.mz_parts_laws.proofs.OneProposition.{one_propositions}
use Rattle.mz_walk.specs.Walked.{State, Walked, Made, Refused, behind}
use Rattle.mz_walk.specs.Walk as wk
use Rattle.mz_walk.specs.Performing.{is_linked}
use Rattle.mz_walk.specs.Walk.{Cases, no_cases, with_case, disjunction_of, behind_cases, supposed_first, SuppositionsRead, nodes_alone, Foresees, Proves, Splits, Supposes}
use Rattle.mz_introduction_laws.proofs.Walks.{refused, unread, NextMade, one_next_made}
use Rattle.mz_walk_value_laws.proofs.OneBlock.{OneReasoning, one_proof}

abbrev pub OneCases : Environment → Extent → SupposeList → Type 0
OneCases e at us = (c : Context) (l : Left) → AtMostOne (Supposes e at c us l)

-- no case
abbrev none_made : Left → Walked Cases
none_made l = Made [] (no_cases l)

abbrev NoCaseAs : Left → Walked Cases → Type 0
NoCaseAs l o = o ≡ none_made l

no_case_as : (e : Environment) (at : Extent) (c : Context) (l : Left) (o : Walked Cases) → Supposes e at c no_supposes l o → NoCaseAs l o
no_case_as e at c l o (wk.no_case _ _) = refl

pub one_no_case : (e : Environment) (at : Extent) → OneCases e at no_supposes
one_no_case e at c l = one_by (Supposes e at c no_supposes l) (NoCaseAs l) (no_case_as e at c l) (one_value (none_made l))

-- a case in front of others
abbrev behind_case : Statement → List Obligation → Walked Cases → Walked Cases
behind_case x os z = behind os (with_case x z)

abbrev OthersNext : Environment → Extent → Context → SupposeList → Statement → List Obligation → Left → Walked Cases → Type 0
OthersNext e at c us x os n o = Makes (Supposes e at c us n) (behind_case x os) o

abbrev JoinedNext : Environment → Extent → Context → StepList → Place → SupposeList → List LabelledStatement → Left → Statement → Walked Cases → Type 0
JoinedNext e at c ds end us ps m x o = After (Proves e at (with_stated c ps) ds end m) (NextMade (OthersNext e at c us x)) o

abbrev JoinedIs : Environment → Extent → Context → StepList → Place → SupposeList → List LabelledStatement → Left → Result Statement Refusal → Walked Cases → Type 0
JoinedIs e at c ds end us ps m z o = NextOk unread (JoinedNext e at c ds end us ps m) z o

abbrev HypothesesNext : Environment → Extent → Context → Place → StepList → Place → SupposeList → List LabelledStatement → Left → Walked Cases → Type 0
HypothesesNext e at c p ds end us ps m o = JoinedIs e at c ds end us ps m (joined_within p ps) o

abbrev MoreCasesAs : Environment → Extent → Context → Place → HypothesesTree → StepList → Place → SupposeList → Left → Walked Cases → Type 0
MoreCasesAs e at c p h ds end us l o = AfterRead (PropositionsRead e c 0 l (hypotheses_in h)) unread (HypothesesNext e at c p ds end us) o

more_cases_as : (e : Environment) (at : Extent) (c : Context) (p q end semicolon : Place) (h : HypothesesTree) (ds : StepList) (us : SupposeList) (l : Left) (o : Walked Cases) →
    Supposes e at c (more_supposes (CaseSuppose p h q ds end semicolon) us) l o → MoreCasesAs e at c p h ds end us l o
more_cases_as e at c p q end semicolon h ds us l o (wk.not_supposed _ _ m _ _ _ _ _ _ _ r i) = (Err r, m, i, refl)
more_cases_as e at c p q end semicolon h ds us l o (wk.supposition_too_large _ _ m _ _ _ _ _ _ _ ps r i k) =
    (Ok ps, m, i, subst (λ (z : Result Statement Refusal). JoinedIs e at c ds end us ps m z o) (sym k) refl)
more_cases_as e at c p q end semicolon h ds us l o (wk.case_not_proved _ _ m _ _ _ _ _ _ _ ps x r i k g) =
    (Ok ps, m, i, subst (λ (z : Result Statement Refusal). JoinedIs e at c ds end us ps m z o) (sym k) (Refused r, g, refl))
more_cases_as e at c p q end semicolon h ds us l o (wk.one_more _ _ m n _ _ _ _ _ _ _ ps x os y i k g f) =
    (Ok ps, m, i, subst (λ (z : Result Statement Refusal). JoinedIs e at c ds end us ps m z o) (sym k) (Made os n, g, (y, f, refl)))

one_joined_next : (e : Environment) (at : Extent) (c : Context) (ds : StepList) (end : Place) (us : SupposeList) (ps : List LabelledStatement) (m : Left) → OneReasoning e at ds → OneCases e at us → (x : Statement) →
    AtMostOne (JoinedNext e at c ds end us ps m x)
one_joined_next e at c ds end us ps m one others x =
    one_after (Proves e at (with_stated c ps) ds end m) (NextMade (OthersNext e at c us x)) (one_proof e at ds one (with_stated c ps) end m)
    (one_next_made (OthersNext e at c us x) (λ (os : List Obligation) (n : Left). one_made (Supposes e at c us n) (behind_case x os) (others c n)))

pub one_more_cases : (e : Environment) (at : Extent) (p q end semicolon : Place) (h : HypothesesTree) (ds : StepList) (us : SupposeList) → OneReasoning e at ds → OneCases e at us →
    OneCases e at (more_supposes (CaseSuppose p h q ds end semicolon) us)
one_more_cases e at p q end semicolon h ds us one others c l =
    one_by (Supposes e at c (more_supposes (CaseSuppose p h q ds end semicolon) us) l) (MoreCasesAs e at c p h ds end us l) (more_cases_as e at c p q end semicolon h ds us l)
    (one_after_read (PropositionsRead e c 0 l (hypotheses_in h)) unread (HypothesesNext e at c p ds end us) (one_propositions e c 0 l (hypotheses_in h))
    (λ (ps : List LabelledStatement) (m : Left). one_next_ok unread (JoinedNext e at c ds end us ps m) (one_joined_next e at c ds end us ps m one others) (joined_within p ps)))

-- what the cases suppose
abbrev none_told : Refusal → Option (List Statement)
none_told r = None

abbrev all_supposed : Option (List Statement)
all_supposed = Some []

abbrev SupposedNext : Environment → Context → SupposeList → List LabelledStatement → Left → Option (List Statement) → Type 0
SupposedNext e c us ps m o = Makes (SuppositionsRead e c us m) (supposed_first (conjunction (map statement_of ps))) o

abbrev SuppositionsAs : Environment → Context → SupposeList → Left → Option (List Statement) → Type 0
SuppositionsAs e c no_supposes l o = o ≡ all_supposed
SuppositionsAs e c (more_supposes (CaseSuppose p h q ds end semicolon) us) l o = AfterRead (PropositionsRead e c 0 l (hypotheses_in h)) none_told (SupposedNext e c us) o

-- a split
abbrev split_made : State → List Obligation → Cases → Obligation → Walked State
split_made s os x o = Made (o ∷ os) (behind_cases s x.left)

abbrev OwedNext : Environment → Extent → State → SplitTree → Given → List Obligation → Cases → Statement → Walked State → Type 0
OwedNext e at s t given os x y o = Makes (Owes e at s.context given y (place_of t.semicolon t.simple)) (split_made s os x) o

abbrev OwedIs : Environment → Extent → State → SplitTree → Given → List Obligation → Cases → Result Statement Refusal → Walked State → Type 0
OwedIs e at s t given os x z o = NextOk unread (OwedNext e at s t given os x) z o

abbrev CasesNext : Environment → Extent → State → Place → SplitTree → Given → List Obligation → Cases → Walked State → Type 0
CasesNext e at s first t given os x o = OwedIs e at s t given os x (within statement_keeps first (disjunction_of x.suppositions)) o

abbrev GroundedNext : Environment → Extent → State → Place → SplitTree → SupposeList → Given → Left → Walked State → Type 0
GroundedNext e at s first t us given l o = After (Supposes e at s.context us l) (NextMade (CasesNext e at s first t given)) o

abbrev GroundsIt : Environment → State → Place → SplitTree → Result Given ProofRefusal → Left → Type 0
GroundsIt e s first t o a = Grounds e s.context first (is_some t.then) t.semicolon t.simple s.left o a

abbrev JustifiedSplit : Environment → Extent → State → Place → SplitTree → SupposeList → Walked State → Type 0
JustifiedSplit e at s first t us o = AfterRead (GroundsIt e s first t) refused (GroundedNext e at s first t us) o

-- what is told ahead
supposed_as : (e : Environment) (c : Context) (us : SupposeList) (l : Left) (o : Option (List Statement)) → SuppositionsRead e c us l o → SuppositionsAs e c us l o
supposed_as e c us l o (wk.none_supposed _) = refl
supposed_as e c us l o (wk.not_readable _ m p q end semicolon h ds vs r k) = (Err r, m, k, refl)
supposed_as e c us l o (wk.one_supposed _ m p q end semicolon h ds vs ps x k g) = (Ok ps, m, k, (x, g, refl))

pub one_supposed : (e : Environment) (c : Context) (us : SupposeList) (l : Left) → AtMostOne (SuppositionsRead e c us l)
one_supposed e c no_supposes l = one_by (SuppositionsRead e c no_supposes l) (SuppositionsAs e c no_supposes l) (supposed_as e c no_supposes l) (one_value all_supposed)
one_supposed e c (more_supposes (CaseSuppose p h q ds end semicolon) us) l =
    one_by (SuppositionsRead e c (more_supposes (CaseSuppose p h q ds end semicolon) us) l) (SuppositionsAs e c (more_supposes (CaseSuppose p h q ds end semicolon) us) l) (supposed_as e c (more_supposes (CaseSuppose p h q ds end semicolon) us) l)
    (one_after_read (PropositionsRead e c 0 l (hypotheses_in h)) none_told (SupposedNext e c us) (one_propositions e c 0 l (hypotheses_in h))
    (λ (ps : List LabelledStatement) (m : Left). one_made (SuppositionsRead e c us m) (supposed_first (conjunction (map statement_of ps))) (one_supposed e c us m)))

abbrev KeptBehind : Environment → Place → Context → Bool → SimpleTree → Statement → Option ProofRefusal → Type 0
KeptBehind e first c linked t y o = IfSo (justification_keeps e c linked t y) (o ≡ None) (o ≡ Some (Resolve (TooLarge first)))

abbrev KeptAs : Environment → Place → Context → Bool → SimpleTree → Result Statement Refusal → Option ProofRefusal → Type 0
KeptAs e first c linked t (Ok y) o = KeptBehind e first c linked t y o
KeptAs e first c linked t (Err r) o = o ≡ Some (Resolve r)

abbrev ForeseenNext : Environment → Place → Context → Bool → SimpleTree → Option (List Statement) → Option ProofRefusal → Type 0
ForeseenNext e first c linked t None o = o ≡ None
ForeseenNext e first c linked t (Some ss) o = KeptAs e first c linked t (within statement_keeps first (disjunction_of ss)) o

abbrev ForeseesBehind : Environment → Place → Context → Left → Bool → SimpleTree → SupposeList → Option ProofRefusal → Type 0
ForeseesBehind e first c l linked t us o = After (SuppositionsRead e c us (nodes_alone l)) (ForeseenNext e first c linked t) o

abbrev FollowsNothing : Place → Option ProofRefusal → Type 0
FollowsNothing first o = o ≡ Some (StepNoFit first)

abbrev ForeseesAs : Environment → Place → Context → Left → Bool → SimpleTree → SupposeList → Option ProofRefusal → Type 0
ForeseesAs e first c l linked t us o = IfSo (is_linked linked c.previous) (ForeseesBehind e first c l linked t us o) (FollowsNothing first o)

foresees_as : (e : Environment) (first : Place) (c : Context) (l : Left) (linked : Bool) (t : SimpleTree) (us : SupposeList) (o : Option ProofRefusal) → Foresees e first c l linked t us o → ForeseesAs e first c l linked t us o
foresees_as e first c l linked t us o (wk.not_linked h) = if_not (is_linked linked c.previous) (ForeseesBehind e first c l linked t us o) (FollowsNothing first o) h refl
foresees_as e first c l linked t us o (wk.not_foreseen h k) = if_so (is_linked linked c.previous) (ForeseesBehind e first c l linked t us o) (FollowsNothing first o) h (None, k, refl)
foresees_as e first c l linked t us o (wk.beyond ss r h k g) =
    if_so (is_linked linked c.previous) (ForeseesBehind e first c l linked t us o) (FollowsNothing first o) h (Some ss, k, subst (λ (z : Result Statement Refusal). KeptAs e first c linked t z o) (sym g) refl)
foresees_as e first c l linked t us o (wk.instance_beyond ss y h k g n) =
    let large : KeptBehind e first c linked t y o = if_not (justification_keeps e c linked t y) (o ≡ None) (o ≡ Some (Resolve (TooLarge first))) n refl in
    if_so (is_linked linked c.previous) (ForeseesBehind e first c l linked t us o) (FollowsNothing first o) h (Some ss, k, subst (λ (z : Result Statement Refusal). KeptAs e first c linked t z o) (sym g) large)
foresees_as e first c l linked t us o (wk.kept ss y h k g n) =
    let small : KeptBehind e first c linked t y o = if_so (justification_keeps e c linked t y) (o ≡ None) (o ≡ Some (Resolve (TooLarge first))) n refl in
    if_so (is_linked linked c.previous) (ForeseesBehind e first c l linked t us o) (FollowsNothing first o) h (Some ss, k, subst (λ (z : Result Statement Refusal). KeptAs e first c linked t z o) (sym g) small)

abbrev IsNone : Option ProofRefusal → Type 0
IsNone o = o ≡ None

abbrev IsTooLarge : Place → Option ProofRefusal → Type 0
IsTooLarge first o = o ≡ Some (Resolve (TooLarge first))

one_kept : (e : Environment) (first : Place) (c : Context) (linked : Bool) (t : SimpleTree) (z : Result Statement Refusal) → AtMostOne (KeptAs e first c linked t z)
one_kept e first c linked t (Ok y) o p h k = one_if (justification_keeps e c linked t y) IsNone (IsTooLarge first) (one_value None) (one_value (Some (Resolve (TooLarge first)))) o p h k
one_kept e first c linked t (Err r) o p h k = h ∙ sym k

one_foreseen_next : (e : Environment) (first : Place) (c : Context) (linked : Bool) (t : SimpleTree) (z : Option (List Statement)) → AtMostOne (ForeseenNext e first c linked t z)
one_foreseen_next e first c linked t None o p h k = h ∙ sym k
one_foreseen_next e first c linked t (Some ss) o p h k = one_kept e first c linked t (within statement_keeps first (disjunction_of ss)) o p h k

one_follows_nothing : (first : Place) → AtMostOne (FollowsNothing first)
one_follows_nothing first o p h k = h ∙ sym k

pub one_foresight : (e : Environment) (first : Place) (c : Context) (l : Left) (linked : Bool) (t : SimpleTree) (us : SupposeList) → AtMostOne (Foresees e first c l linked t us)
one_foresight e first c l linked t us =
    one_by (Foresees e first c l linked t us) (ForeseesAs e first c l linked t us) (foresees_as e first c l linked t us)
    (one_if (is_linked linked c.previous) (ForeseesBehind e first c l linked t us) (FollowsNothing first)
    (one_after (SuppositionsRead e c us (nodes_alone l)) (ForeseenNext e first c linked t) (one_supposed e c us (nodes_alone l)) (one_foreseen_next e first c linked t))
    (one_follows_nothing first))

abbrev ForeseesIt : Environment → State → Place → SplitTree → SupposeList → Option ProofRefusal → Type 0
ForeseesIt e s first t us o = Foresees e first s.context s.left (is_some t.then) t.simple us o

abbrev SplitNext : Environment → Extent → State → Place → SplitTree → SupposeList → Option ProofRefusal → Walked State → Type 0
SplitNext e at s first t us (Some r) o = o ≡ Refused r
SplitNext e at s first t us None o = JustifiedSplit e at s first t us o

abbrev SplitsAs : Environment → Extent → State → Place → SplitTree → SupposeList → Walked State → Type 0
SplitsAs e at s first t us o = After (ForeseesIt e s first t us) (SplitNext e at s first t us) o

splits_as : (e : Environment) (at : Extent) (s : State) (first : Place) (t : SplitTree) (us : SupposeList) (o : Walked State) → Splits e at s first t us o → SplitsAs e at s first t us o
splits_as e at s first t us o (wk.foreseen _ _ _ _ r a) = (Some r, a, refl)
splits_as e at s first t us o (wk.not_grounded _ _ _ _ r l a h) = (None, a, (Err r, l, h, refl))
splits_as e at s first t us o (wk.cases_stopped _ _ _ _ given l r a h i) = (None, a, (Ok given, l, h, (Refused r, i, refl)))
splits_as e at s first t us o (wk.cases_too_large _ _ _ _ given l os x r a h i k) =
    (None, a, (Ok given, l, h, (Made os x, i, subst (λ (z : Result Statement Refusal). OwedIs e at s t given os x z o) (sym k) refl)))
splits_as e at s first t us o (wk.split _ _ _ _ given l os x y u a h i k g) =
    (None, a, (Ok given, l, h, (Made os x, i, subst (λ (z : Result Statement Refusal). OwedIs e at s t given os x z o) (sym k) (u, g, refl))))

one_cases_next : (e : Environment) (at : Extent) (s : State) (first : Place) (t : SplitTree) (given : Given) (os : List Obligation) (x : Cases) → AtMostOne (CasesNext e at s first t given os x)
one_cases_next e at s first t given os x =
    one_next_ok unread (OwedNext e at s t given os x)
    (λ (y : Statement). one_made (Owes e at s.context given y (place_of t.semicolon t.simple)) (split_made s os x) (one_owed e at s.context given y (place_of t.semicolon t.simple)))
    (within statement_keeps first (disjunction_of x.suppositions))

one_justified_split : (e : Environment) (at : Extent) (t : SplitTree) (us : SupposeList) → OneCases e at us → (s : State) (first : Place) → AtMostOne (JustifiedSplit e at s first t us)
one_justified_split e at t us one s first =
    one_after_read (GroundsIt e s first t) refused (GroundedNext e at s first t us) (one_ground e s.context first (is_some t.then) t.semicolon t.simple s.left)
    (λ (given : Given) (l : Left). one_after (Supposes e at s.context us l) (NextMade (CasesNext e at s first t given)) (one s.context l) (one_next_made (CasesNext e at s first t given) (one_cases_next e at s first t given)))

one_split_next : (e : Environment) (at : Extent) (t : SplitTree) (us : SupposeList) → OneCases e at us → (s : State) (first : Place) (q : Option ProofRefusal) → AtMostOne (SplitNext e at s first t us q)
one_split_next e at t us one s first (Some r) o p h k = h ∙ sym k
one_split_next e at t us one s first None o p h k = one_justified_split e at t us one s first o p h k

pub one_split : (e : Environment) (at : Extent) (t : SplitTree) (us : SupposeList) → OneCases e at us → (s : State) (first : Place) → AtMostOne (Splits e at s first t us)
one_split e at t us one s first =
    one_by (Splits e at s first t us) (SplitsAs e at s first t us) (splits_as e at s first t us)
    (one_after (ForeseesIt e s first t us) (SplitNext e at s first t us) (one_foresight e first s.context s.left (is_some t.then) t.simple us) (one_split_next e at t us one s first))
