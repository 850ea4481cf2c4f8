-- What a justification without a proof gives, and its obligation, is determined.
use Rattle.std.proofs.Common.{◌≡◌, Bool, true, false, List, [], ◌∷◌, Option, Some, None, refl, sym, ap, ◌∙◌, subst}
use Rattle.std.specs.Prelude.{Result, Ok, Err}
use Rattle.mz_base.specs.declared.place.Place.{Place}
use Rattle.mz_core.specs.Statement.{Statement}
use Rattle.mz_core.specs.declared.outcome.Left.{Left}
use Rattle.mz_context.specs.declared.constants.Constant.{Constant}
use Rattle.mz_context.specs.declared.context.Context.{Context}
use Rattle.mz_environment.specs.declared.environment.Environment.{Environment}
use Rattle.mz_environment.specs.declared.unfoldings.Unfolding.{Unfolding}
use Rattle.mz_ground.specs.declared.clause.Clause.{Clause}
use Rattle.mz_types.specs.Known.{typing}
use Rattle.mz_given.specs.Given.{statements_given, behind_some, cited_in, given_in}
use Rattle.mz_given.specs.declared.given.Given.{Given}
use Rattle.mz_given.specs.declared.given.Given.TheVariants.{ByStatements, ByScheme}
use Rattle.mz_from.specs.Verdict.{IsVerdict}
use Rattle.mz_from.proofs.OneVerdict.{one_verdict_law}
use Rattle.mz_steps.specs.Premises.{in_front, given}
use Rattle.mz_obligations.specs.Obligations.{IsDuty, obligation_spent}
use Rattle.mz_obligations.specs.declared.obligation.Duty.{Duty}
use Rattle.mz_obligations.specs.declared.obligation.Duty.TheVariants.{By, From}
use Rattle.mz_obligations.specs.declared.obligation.Extent.{Extent}
use Rattle.mz_obligations.specs.declared.obligation.Obligation.{Obligation}
use Rattle.mz_problem_laws.proofs.OneProblemProofs.{one_problem_law}
use Rattle.mz_tree_proof.specs.declared.references.SimpleTree.{SimpleTree}
use Rattle.mz_names.specs.declared.refusal.Refusal.TheVariants.{TooLarge}
use Rattle.mz_justified.specs.Kept.{justification_keeps}
use Rattle.mz_justified.specs.Justified as ju
use Rattle.mz_justified.specs.Justified.{place_of, Grounds, Owes, Justified}
use Rattle.mz_justified.specs.declared.proof_fault.ProofRefusal.{ProofRefusal}
use Rattle.mz_justified.specs.declared.proof_fault.ProofRefusal.TheVariants.{StepNoFit, UnknownLabel, Resolve, TooManyObligations}
use Rattle.mz_justified_laws.specs.Determined.{SameLeft}
use Rattle.mz_justified_laws.specs.Laws.{OneGroundLaw, OneOwedLaw, OneJustificationLaw}
use Rattle.mz_justified_laws.proofs.Sequence.{IfSo, if_so, if_not, determined_by, determined_if, IsRefused, determined_refused, IsMade, determined_made, ThenRead, determined_then, as_it_is}

-- what is given, or the refusal, as a function of the parts that are looked at one after another
abbrev by_given : Place → Option Given → Result Given ProofRefusal
by_given first None = Err (StepNoFit first)
by_given first (Some g) = Ok g

abbrev by_cited : Context → Place → Bool → Result Given Place → Result Given ProofRefusal
by_cited c first linked (Err p) = Err (UnknownLabel p)
by_cited c first linked (Ok cited) = by_given first (given_in linked c cited)

abbrev by_spent : Environment → Context → Place → Bool → Place → SimpleTree → Option Left → Result Given ProofRefusal
by_spent e c first linked behind t None = Err (TooManyObligations (place_of behind t))
by_spent e c first linked behind t (Some l) = by_cited c first linked (cited_in e c t)

abbrev by_linked : Environment → Context → Place → Bool → Place → SimpleTree → Left → Option (List Statement) → Result Given ProofRefusal
by_linked e c first linked behind t left None = Err (StepNoFit first)
by_linked e c first linked behind t left (Some ss) = by_spent e c first linked behind t (obligation_spent left)

abbrev ground_of : Environment → Context → Place → Bool → Place → SimpleTree → Left → Result Given ProofRefusal
ground_of e c first linked behind t left = by_linked e c first linked behind t left (given linked c [])

-- where it isn't refused, this is left
abbrev IsLeft : Result Given ProofRefusal → Option Left → Left → Type 0
IsLeft (Ok ss) z a = z ≡ Some a
IsLeft (Err r) z a = Unit {0}

-- a step that is given something follows something, whatever it cites
none_some : (ss : List Statement) → None ≡ Some ss → ⊥
none_some ss h = cc

something_in_front : (o : Option Statement) (cited ss : List Statement) → in_front o cited ≡ Some ss → (us : List Statement) × (in_front o [] ≡ Some us)
something_in_front None cited ss h = absurd (none_some ss h)
something_in_front (Some s) cited ss h = (s ∷ [], refl)

nothing_given : (g : Given) → None ≡ Some g → ⊥
nothing_given g h = cc

something_given : (linked : Bool) (c : Context) (cited ss : List Statement) → given linked c cited ≡ Some ss → (us : List Statement) × (given linked c [] ≡ Some us)
something_given false c cited ss h = ([], refl)
something_given true c cited ss h = something_in_front c.previous cited ss h

behind_something : (o : Option (List Statement)) (g h : Given) → behind_some o g ≡ Some h → (us : List Statement) × (o ≡ Some us)
behind_something None g h e = absurd (nothing_given h e)
behind_something (Some ss) g h e = (ss, refl)

out_of_given : (o : Option (List Statement)) (g : Given) → statements_given o ≡ Some g → (us : List Statement) × (o ≡ Some us)
out_of_given None g e = absurd (nothing_given g e)
out_of_given (Some ss) g e = (ss, refl)

follows_something : (linked : Bool) (c : Context) (cited g : Given) → given_in linked c cited ≡ Some g → (us : List Statement) × (given linked c [] ≡ Some us)
follows_something linked c (ByStatements ss) g h =
    let some : (us : List Statement) × (given linked c ss ≡ Some us) = out_of_given (given linked c ss) g h in
    something_given linked c ss some.0 some.1
follows_something linked c (ByScheme x ss) g h = behind_something (given linked c []) (ByScheme x ss) g h

ground_is : (e : Environment) (c : Context) (first : Place) (linked : Bool) (behind : Place) (t : SimpleTree) (left : Left) (o : Result Given ProofRefusal) (a : Left) →
    Grounds e c first linked behind t left o a → (o ≡ ground_of e c first linked behind t left) × IsLeft o (obligation_spent left) a
ground_is e c first linked behind t left o a (ju.follows_nothing _ h) = (sym (ap (by_linked e c first linked behind t left) h), tt)
ground_is e c first linked behind t left o a (ju.too_many ss _ h k) = (sym (ap (by_linked e c first linked behind t left) h ∙ ap (by_spent e c first linked behind t) k), tt)
ground_is e c first linked behind t left o a (ju.cites_nothing ss l _ p h k n) =
    (sym (ap (by_linked e c first linked behind t left) h ∙ (ap (by_spent e c first linked behind t) k ∙ ap (by_cited c first linked) n)), tt)
ground_is e c first linked behind t left o a (ju.grounded cited g _ k n m) =
    let h : (us : List Statement) × (given linked c [] ≡ Some us) = follows_something linked c cited g m in
    (sym (ap (by_linked e c first linked behind t left) h.1 ∙ (ap (by_spent e c first linked behind t) k ∙ (ap (by_cited c first linked) n ∙ ap (by_given first) m))), k)

some-inj : (z : Option Left) (a b : Left) → z ≡ Some a → z ≡ Some b → a ≡ b
some-inj z a b h k = cc

left_is : (o : Result Given ProofRefusal) (z : Option Left) (a b : Left) → IsLeft o z a → IsLeft o z b → SameLeft o a b
left_is (Ok ss) z a b h k = some-inj z a b h k
left_is (Err r) z a b h k = tt

pub one_ground : OneGroundLaw
one_ground e c first linked behind t left o p a b h k =
    let x : (o ≡ ground_of e c first linked behind t left) × IsLeft o (obligation_spent left) a = ground_is e c first linked behind t left o a h in
    let y : (p ≡ ground_of e c first linked behind t left) × IsLeft p (obligation_spent left) b = ground_is e c first linked behind t left p b k in
    let same : o ≡ p = x.0 ∙ sym y.0 in
    (same, left_is o (obligation_spent left) a b x.1 (subst (λ (z : Result Given ProofRefusal). IsLeft z (obligation_spent left) b) (sym same) y.1))

-- an obligation
one_duty : (cs : List Clause) (us : List Unfolding) (ks : List (Option Constant)) (ss : List Statement) (s : Statement) (d f : Duty) → IsDuty cs us ks ss s d → IsDuty cs us ks ss s f → d ≡ f
one_duty cs us ks ss s (By p) (By q) h k = ap By (one_problem_law cs ks us ss s p q h k)
one_duty cs us ks ss s (By p) (From w) h k = absurd k
one_duty cs us ks ss s (From v) d h k = absurd h

same_obligation : (o p : Obligation) → o.place ≡ p.place → o.extent ≡ p.extent → o.letters ≡ p.letters → o.duty ≡ p.duty → o ≡ p
same_obligation o p a b c d = λ i. record { place = a i; extent = b i; letters = c i; duty = d i }

pub one_owed : OneOwedLaw
one_owed e at c (ByStatements ss) s place o p h k =
    same_obligation o p (h.place_is ∙ sym k.place_is) (h.extent_is ∙ sym k.extent_is) (h.letters_are ∙ sym k.letters_are) (one_duty (typing e c) e.expansions c.constants ss s o.duty p.duty h.duty_is k.duty_is)
one_owed e at c (ByScheme x cited) s place o p h k =
    let same : h.verdict ≡ k.verdict = one_verdict_law (typing e c) c.constants x cited s h.verdict k.verdict h.found k.found in
    same_obligation o p (h.place_is ∙ sym k.place_is) (h.extent_is ∙ sym k.extent_is) (h.letters_are ∙ sym k.letters_are) (h.duty_is ∙ (ap From same ∙ sym k.duty_is))

-- what is given, and then the obligation by it
abbrev OwedNext : Environment → Extent → Context → Place → SimpleTree → Statement → Given → Left → Result Obligation ProofRefusal → Left → Type 0
OwedNext e at c behind t s ss l = IsMade (Owes e at c ss s (place_of behind t)) l

abbrev KeptAs : Environment → Extent → Context → Place → Bool → Place → SimpleTree → Statement → Left → Result Obligation ProofRefusal → Left → Type 0
KeptAs e at c first linked behind t s left = ThenRead (Grounds e c first linked behind t left) as_it_is (OwedNext e at c behind t s)

abbrev LargeAs : Place → Result Obligation ProofRefusal → Left → Type 0
LargeAs first = IsRefused (Resolve (TooLarge first))

abbrev JustifiedAs : Environment → Extent → Context → Place → Bool → Place → SimpleTree → Statement → Left → Result Obligation ProofRefusal → Left → Type 0
JustifiedAs e at c first linked behind t s left o a = IfSo (justification_keeps e c linked t s) (KeptAs e at c first linked behind t s left o a) (LargeAs first o a)

justified_as : (e : Environment) (at : Extent) (c : Context) (first : Place) (linked : Bool) (behind : Place) (t : SimpleTree) (s : Statement) (left : Left) (o : Result Obligation ProofRefusal) (a : Left) →
    Justified e at c first linked behind t s left o a → JustifiedAs e at c first linked behind t s left o a
justified_as e at c first linked behind t s left o a (ju.too_large _ n) = if_not (justification_keeps e c linked t s) (KeptAs e at c first linked behind t s left o a) (LargeAs first o a) n refl
justified_as e at c first linked behind t s left o a (ju.not_grounded r _ n h) =
    if_so (justification_keeps e c linked t s) (KeptAs e at c first linked behind t s left o a) (LargeAs first o a) n (Err r, a, h, refl)
justified_as e at c first linked behind t s left o a (ju.owed ss x _ n h k) =
    if_so (justification_keeps e c linked t s) (KeptAs e at c first linked behind t s left o a) (LargeAs first o a) n (Ok ss, a, h, (x, k, refl, refl))

pub one_justification : OneJustificationLaw
one_justification e at c first linked behind t s left =
    determined_by (Justified e at c first linked behind t s left) (JustifiedAs e at c first linked behind t s left) (justified_as e at c first linked behind t s left)
    (determined_if (justification_keeps e c linked t s) (KeptAs e at c first linked behind t s left) (LargeAs first)
    (determined_then (Grounds e c first linked behind t left) as_it_is (OwedNext e at c behind t s) (one_ground e c first linked behind t left)
    (λ (ss : Given) (l : Left). determined_made (Owes e at c ss s (place_of behind t)) l (one_owed e at c ss s (place_of behind t))))
    (determined_refused (Resolve (TooLarge first))))
