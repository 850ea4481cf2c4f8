-- What an atom unfolds to, and the thesis after a step, are determined.
use Rattle.std.proofs.Common.{◌≡◌, ℕ, zero, suc, List, [], ◌∷◌, refl, sym, ap, ◌∙◌, subst, true, false, length, inl, inr, ◌⊎◌, Option, Some, None}
use Rattle.std.specs.Prelude.{reverse}
use Rattle.std.proofs.lemmas.Bool.{false≢true}
use Rattle.mz_std_laws.proofs.Options.{some-inj, none_some}
use Rattle.mz_std_laws.proofs.Sums.{either}
use Rattle.mz_std_laws.proofs.Truth.{not_both}
use Rattle.mz_logic.specs.declared.sym.Sym.{Sym}
use Rattle.mz_logic.specs.Term.{Term}
use Rattle.mz_core.specs.Statement.{Statement, Truth, Eq, Atom, Not, And, For}
use Rattle.mz_context.specs.declared.constants.Constant.{Constant}
use Rattle.mz_ground.specs.declared.clause.Clause.{Clause}
use Rattle.mz_environment.specs.declared.unfoldings.Unfolding.{Unfolding}
use Rattle.mz_fits.specs.Matching.{Fixed, unfixed, AllMatched, Accepted}
use Rattle.mz_fits.proofs.OneMatch.{one_match_law, one_accepted_law}
use Rattle.mz_thesis.specs.declared.sought.Sought.{Sought}
use Rattle.mz_thesis.specs.declared.sought.Sought.TheVariants.{AtomOf, Equation}
use Rattle.mz_thesis.specs.declared.step.Step.{Step}
use Rattle.mz_thesis.specs.Unfolding.{formals, is_sought, definiens_at, Gives, unmatched, unfit, fit, FirstGives, none_left, of_other, not_this, this_one, is_compound, UnfoldsTo, atom, right, left, compound}
use Rattle.mz_thesis.specs.Rows.{Admits, thesis_after}
use Rattle.mz_thesis.specs.Applied.{first_part, with_first_part, Unfolded, unfolded, as_it_is, Applied, fits, unfolds, unfolds_to_nothing, no_unfolding_left}
use Rattle.mz_thesis.specs.Laws.{OneUnfoldingLaw, OneThesisLaw}

-- one unfolding
abbrev GivesAs : List Clause → List (Option Constant) → Unfolding → List Term → Option Fixed → Option Statement → Type 0
GivesAs cs ks u ts None o = o ≡ None
GivesAs cs ks u ts (Some fs) o = (Accepted cs ks u.loci fs None × (o ≡ None)) ⊎ ((values : List Term) × Accepted cs ks u.loci fs (Some values) × (o ≡ Some (definiens_at values u.definiens)))

abbrev MatchOf : List Clause → List (Option Constant) → Unfolding → List Term → Option Fixed → Type 0
MatchOf cs ks u ts m = AllMatched cs ks (length u.loci) (unfixed (length u.loci)) (formals u.head) ts m

gives_as : (cs : List Clause) (ks : List (Option Constant)) (u : Unfolding) (ts : List Term) (o : Option Statement) → Gives cs ks u ts o → (m : Option Fixed) × MatchOf cs ks u ts m × GivesAs cs ks u ts m o
gives_as cs ks u ts o (unmatched h) = (None, h, refl)
gives_as cs ks u ts o (unfit fs h a) = (Some fs, h, inl (a, refl))
gives_as cs ks u ts o (fit fs values h a) = (Some fs, h, inr (values, a, refl))

one_given : (cs : List Clause) (ks : List (Option Constant)) (u : Unfolding) (ts : List Term) (m : Option Fixed) (o p : Option Statement) → GivesAs cs ks u ts m o → GivesAs cs ks u ts m p → o ≡ p
one_given cs ks u ts None o p h k = h ∙ sym k
one_given cs ks u ts (Some fs) o p h k =
    either h
    (λ a. either k (λ b. a.1 ∙ sym b.1) (λ b. absurd (none_some b.0 (one_accepted_law cs ks u.loci fs None (Some b.0) a.0 b.1))))
    (λ a. either k (λ b. absurd (none_some a.0 (one_accepted_law cs ks u.loci fs None (Some a.0) b.0 a.1)))
    (λ b. a.2 ∙ (ap (λ vs. Some (definiens_at vs u.definiens)) (some-inj a.0 b.0 (one_accepted_law cs ks u.loci fs (Some a.0) (Some b.0) a.1 b.1)) ∙ sym b.2)))

one_gives : (cs : List Clause) (ks : List (Option Constant)) (u : Unfolding) (ts : List Term) (o p : Option Statement) → Gives cs ks u ts o → Gives cs ks u ts p → o ≡ p
one_gives cs ks u ts o p h k =
    let a : (m : Option Fixed) × MatchOf cs ks u ts m × GivesAs cs ks u ts m o = gives_as cs ks u ts o h in
    let b : (m : Option Fixed) × MatchOf cs ks u ts m × GivesAs cs ks u ts m p = gives_as cs ks u ts p k in
    let same : a.0 ≡ b.0 = one_match_law cs ks (length u.loci) (unfixed (length u.loci)) (formals u.head) ts a.0 b.0 a.1 b.1 in
    one_given cs ks u ts b.0 o p (subst (λ m. GivesAs cs ks u ts m o) same a.2) b.2

-- the first of several
abbrev FirstAs : List Clause → List (Option Constant) → Sought → List Term → List Unfolding → Option Statement → Type 0
FirstAs cs ks q ts [] o = o ≡ None
FirstAs cs ks q ts (u ∷ us) o =
    ((is_sought q u.head ≡ false) × FirstGives cs ks q ts us o) ⊎
    (((is_sought q u.head ≡ true) × Gives cs ks u ts None × FirstGives cs ks q ts us o) ⊎
    ((is_sought q u.head ≡ true) × ((s : Statement) × Gives cs ks u ts (Some s) × (o ≡ Some s))))

first_as : (cs : List Clause) (ks : List (Option Constant)) (q : Sought) (ts : List Term) (us : List Unfolding) (o : Option Statement) → FirstGives cs ks q ts us o → FirstAs cs ks q ts us o
first_as cs ks q ts us o none_left = refl
first_as cs ks q ts us o (of_other u vs p e h) = inl (e, h)
first_as cs ks q ts us o (not_this u vs p e g h) = inr (inl (e, g, h))
first_as cs ks q ts us o (this_one u vs s e g) = inr (inr (e, (s, g, refl)))

one_first : (cs : List Clause) (ks : List (Option Constant)) (q : Sought) (ts : List Term) (us : List Unfolding) (o : Option Statement) → FirstGives cs ks q ts us o → (p : Option Statement) → FirstGives cs ks q ts us p → o ≡ p
one_first cs ks q ts us o none_left p k = sym (first_as cs ks q ts [] p k)
one_first cs ks q ts us o (of_other u vs r e h) p k =
    either (first_as cs ks q ts (u ∷ vs) p k) (λ a. one_first cs ks q ts vs r h p a.1)
    (λ b. either b (λ a. absurd (not_both (is_sought q u.head) e a.0)) (λ a. absurd (not_both (is_sought q u.head) e a.0)))
one_first cs ks q ts us o (not_this u vs r e g h) p k =
    either (first_as cs ks q ts (u ∷ vs) p k) (λ a. absurd (not_both (is_sought q u.head) a.0 e))
    (λ b. either b (λ a. one_first cs ks q ts vs r h p a.2) (λ a. absurd (none_some a.1.0 (one_gives cs ks u ts None (Some a.1.0) g a.1.1))))
one_first cs ks q ts us o (this_one u vs s e g) p k =
    either (first_as cs ks q ts (u ∷ vs) p k) (λ a. absurd (not_both (is_sought q u.head) a.0 e))
    (λ b. either b (λ a. absurd (none_some s (one_gives cs ks u ts None (Some s) a.1 g))) (λ a. one_gives cs ks u ts (Some s) (Some a.1.0) g a.1.1 ∙ sym a.1.2))

-- an atom or an equation
abbrev UnfoldsAs : List Clause → List (Option Constant) → List Unfolding → Statement → Option Statement → Type 0
UnfoldsAs cs ks us Truth o = o ≡ None
UnfoldsAs cs ks us (Eq t u) o =
    ((d : Statement) × FirstGives cs ks Equation (u ∷ t ∷ []) (reverse us) (Some d) × (o ≡ Some d)) ⊎
    (FirstGives cs ks Equation (u ∷ t ∷ []) (reverse us) None × FirstGives cs ks Equation (t ∷ u ∷ []) (reverse us) o)
UnfoldsAs cs ks us (Atom s ts) o = FirstGives cs ks (AtomOf s) ts (reverse us) o
UnfoldsAs cs ks us (Not s) o = o ≡ None
UnfoldsAs cs ks us (And s t) o = o ≡ None
UnfoldsAs cs ks us (For ty s) o = o ≡ None

nothing_of : (cs : List Clause) (ks : List (Option Constant)) (us : List Unfolding) (s : Statement) → is_compound s ≡ true → UnfoldsAs cs ks us s None
nothing_of cs ks us Truth h = refl
nothing_of cs ks us (Eq t u) h = absurd (false≢true h)
nothing_of cs ks us (Atom s ts) h = absurd (false≢true h)
nothing_of cs ks us (Not s) h = refl
nothing_of cs ks us (And s t) h = refl
nothing_of cs ks us (For ty s) h = refl

unfolds_as : (cs : List Clause) (ks : List (Option Constant)) (us : List Unfolding) (s : Statement) (o : Option Statement) → UnfoldsTo cs ks us s o → UnfoldsAs cs ks us s o
unfolds_as cs ks us s o (atom r ts p h) = h
unfolds_as cs ks us s o (right t u d h) = inl (d, h, refl)
unfolds_as cs ks us s o (left t u p h k) = inr (h, k)
unfolds_as cs ks us s o (compound r h) = nothing_of cs ks us r h

one_as : (cs : List Clause) (ks : List (Option Constant)) (us : List Unfolding) (s : Statement) (o p : Option Statement) → UnfoldsAs cs ks us s o → UnfoldsAs cs ks us s p → o ≡ p
one_as cs ks us Truth o p h k = h ∙ sym k
one_as cs ks us (Eq t u) o p h k =
    either h
    (λ a. either k (λ b. a.2 ∙ (one_first cs ks Equation (u ∷ t ∷ []) (reverse us) (Some a.0) a.1 (Some b.0) b.1 ∙ sym b.2)) (λ b. absurd (none_some a.0 (one_first cs ks Equation (u ∷ t ∷ []) (reverse us) None b.0 (Some a.0) a.1))))
    (λ a. either k (λ b. absurd (none_some b.0 (one_first cs ks Equation (u ∷ t ∷ []) (reverse us) None a.0 (Some b.0) b.1))) (λ b. one_first cs ks Equation (t ∷ u ∷ []) (reverse us) o a.1 p b.1))
one_as cs ks us (Atom s ts) o p h k = one_first cs ks (AtomOf s) ts (reverse us) o h p k
one_as cs ks us (Not s) o p h k = h ∙ sym k
one_as cs ks us (And s t) o p h k = h ∙ sym k
one_as cs ks us (For ty s) o p h k = h ∙ sym k

pub one_unfolding_law : OneUnfoldingLaw
one_unfolding_law cs ks us s o p h k = one_as cs ks us s o p (unfolds_as cs ks us s o h) (unfolds_as cs ks us s p k)

-- a thesis
one_unfolded : (cs : List Clause) (ks : List (Option Constant)) (us : List Unfolding) (thesis : Statement) (o p : Option Statement) → Unfolded cs ks us thesis o → Unfolded cs ks us thesis p → o ≡ p
one_unfolded cs ks us thesis o p (unfolded d h) (unfolded e k) = ap (λ r. Some (with_first_part r thesis)) (some-inj d e (one_unfolding_law cs ks us (first_part thesis) (Some d) (Some e) h k))
one_unfolded cs ks us thesis o p (unfolded d h) (as_it_is k) = absurd (none_some d (one_unfolding_law cs ks us (first_part thesis) None (Some d) k h))
one_unfolded cs ks us thesis o p (as_it_is h) (unfolded e k) = absurd (none_some e (one_unfolding_law cs ks us (first_part thesis) None (Some e) h k))
one_unfolded cs ks us thesis o p (as_it_is h) (as_it_is k) = refl

abbrev AppliedAs : List Clause → List (Option Constant) → List Unfolding → ℕ → Statement → Step → Option Statement → Type 0
AppliedAs cs ks us zero thesis step o = (Admits cs ks thesis step × (o ≡ Some (thesis_after thesis step))) ⊎ ((Admits cs ks thesis step → ⊥) × (o ≡ None))
AppliedAs cs ks us (suc most) thesis step o =
    (Admits cs ks thesis step × (o ≡ Some (thesis_after thesis step))) ⊎
    ((Admits cs ks thesis step → ⊥) × (((next : Statement) × Unfolded cs ks us thesis (Some next) × Applied cs ks us most next step o) ⊎ (Unfolded cs ks us thesis None × (o ≡ None))))

applied_fits : (cs : List Clause) (ks : List (Option Constant)) (us : List Unfolding) (most : ℕ) (thesis : Statement) (step : Step) → Admits cs ks thesis step → AppliedAs cs ks us most thesis step (Some (thesis_after thesis step))
applied_fits cs ks us zero thesis step a = inl (a, refl)
applied_fits cs ks us (suc most) thesis step a = inl (a, refl)

applied_as : (cs : List Clause) (ks : List (Option Constant)) (us : List Unfolding) (most : ℕ) (thesis : Statement) (step : Step) (o : Option Statement) → Applied cs ks us most thesis step o → AppliedAs cs ks us most thesis step o
applied_as cs ks us most thesis step o (fits n th st a) = applied_fits cs ks us n th st a
applied_as cs ks us most thesis step o (unfolds n th next st p x u a) = inr (x, inl (next, u, a))
applied_as cs ks us most thesis step o (unfolds_to_nothing n th st x u) = inr (x, inr (u, refl))
applied_as cs ks us most thesis step o (no_unfolding_left th st x) = inr (x, refl)

one_fits : (cs : List Clause) (ks : List (Option Constant)) (us : List Unfolding) (most : ℕ) (thesis : Statement) (step : Step) (p : Option Statement) → Admits cs ks thesis step → AppliedAs cs ks us most thesis step p → Some (thesis_after thesis step) ≡ p
one_fits cs ks us zero thesis step p a k = either k (λ b. sym b.1) (λ b. absurd (b.0 a))
one_fits cs ks us (suc most) thesis step p a k = either k (λ b. sym b.1) (λ b. absurd (b.0 a))

one_applied : (cs : List Clause) (ks : List (Option Constant)) (us : List Unfolding) (most : ℕ) (thesis : Statement) (step : Step) (o : Option Statement) → Applied cs ks us most thesis step o → (p : Option Statement) → Applied cs ks us most thesis step p → o ≡ p
one_applied cs ks us most thesis step o (fits n th st a) p k = one_fits cs ks us n th st p a (applied_as cs ks us n th st p k)
one_applied cs ks us most thesis step o (unfolds n th next st r x u a) p k =
    either (applied_as cs ks us (suc n) th st p k) (λ b. absurd (x b.0))
    (λ b. either b.1 (λ c. one_applied cs ks us n next st r a p (subst (λ s. Applied cs ks us n s st p) (sym (some-inj next c.0 (one_unfolded cs ks us th (Some next) (Some c.0) u c.1))) c.2)) (λ c. absurd (none_some next (one_unfolded cs ks us th None (Some next) c.0 u))))
one_applied cs ks us most thesis step o (unfolds_to_nothing n th st x u) p k =
    either (applied_as cs ks us (suc n) th st p k) (λ b. absurd (x b.0))
    (λ b. either b.1 (λ c. absurd (none_some c.0 (one_unfolded cs ks us th None (Some c.0) u c.1))) (λ c. sym c.1))
one_applied cs ks us most thesis step o (no_unfolding_left th st x) p k =
    either (applied_as cs ks us zero th st p k) (λ b. absurd (x b.0)) (λ b. sym b.1)

pub one_thesis_law : OneThesisLaw
one_thesis_law cs ks us most thesis step o p h k = one_applied cs ks us most thesis step o h p k
