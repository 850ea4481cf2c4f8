-- One verdict at most.
use Rattle.std.proofs.Common.{◌≡◌, ℕ, suc, List, [], ◌∷◌, refl, ap, Option, Some, None, Bool, true, false}
use Rattle.std.specs.Prelude.{if◌then◌else◌}
use Rattle.mz_logic.specs.declared.letters.Letter.{Letter}
use Rattle.mz_core.specs.Statement.{Statement}
use Rattle.mz_context.specs.declared.constants.Constant.{Constant}
use Rattle.mz_ground.specs.declared.clause.Clause.{Clause}
use Rattle.mz_obligations.specs.declared.obligation.SchemeVerdict.TheVariants.{PremiseNoFit}
use Rattle.mz_core.specs.declared.scheme.SchemeLetter.{SchemeLetter}
use Rattle.mz_from.specs.Letters.{LetterFits, LettersFit, is_fixed, fixed_among}
use Rattle.mz_from.specs.Verdict.{fixed_by_conclusion, fixed_by_all, Differs, none_left, this_one, not_this, other_count, other_conclusion, unfit_by_conclusion, other_premise, unfit, fits}
use Rattle.mz_from.specs.Laws.{OneVerdictLaw}

-- a difference has one place at most
one_difference : (ls : List Letter) (above : ℕ) (ps ss : List Statement) (o p : Option ℕ) → Differs ls above ps ss o → Differs ls above ps ss p → o ≡ p
one_difference ls above [] [] o p (none_left a) (none_left b) = refl
one_difference ls above [] (s ∷ ss) o p d e = elim d [ ]
one_difference ls above (x ∷ ps) [] o p d e = elim d [ ]
one_difference ls above (x ∷ ps) (s ∷ ss) o p (this_one a y t qs ts n) (this_one b z u rs us m) = refl
one_difference ls above (x ∷ ps) (s ∷ ss) o p (this_one a y t qs ts n) (not_this b z u rs us q is d) = absurd (n is)
one_difference ls above (x ∷ ps) (s ∷ ss) o p (not_this a y t qs ts q is d) (this_one b z u rs us n) = absurd (n is)
one_difference ls above (x ∷ ps) (s ∷ ss) o p (not_this a y t qs ts q is d) (not_this b z u rs us r it e) = one_difference ls (suc above) ps ss o p d e

-- where all letters fit, those that are fixed first do
chosen : (cs : List Clause) (ks : List (Option Constant)) (ls : List Letter) (x : SchemeLetter) (xs : List SchemeLetter) (b : Bool) → LetterFits cs ks ls x → LettersFit cs ks ls xs → LettersFit cs ks ls (if b then x ∷ xs else xs)
chosen cs ks ls x xs true f h = (f, h)
chosen cs ks ls x xs false f h = h

fixed_fit : (cs : List Clause) (ks : List (Option Constant)) (fs ls : List Letter) (xs : List SchemeLetter) → LettersFit cs ks ls xs → LettersFit cs ks ls (fixed_among fs xs)
fixed_fit cs ks fs ls [] h = tt
fixed_fit cs ks fs ls (x ∷ xs) h = chosen cs ks ls x (fixed_among fs xs) (is_fixed fs x) h.0 (fixed_fit cs ks fs ls xs h.1)

some_none : (n : ℕ) → Some n ≡ None → ⊥
some_none n e = cc

abbrev number_in : Option ℕ → ℕ
number_in None = 0
number_in (Some n) = n

pub one_verdict_law : OneVerdictLaw
one_verdict_law cs ks scheme cited s v w (other_count n) (other_count m) = refl
one_verdict_law cs ks scheme cited s v w (other_count n) (other_conclusion c a) = absurd (n c)
one_verdict_law cs ks scheme cited s v w (other_count n) (unfit_by_conclusion c a u) = absurd (n c)
one_verdict_law cs ks scheme cited s v w (other_count n) (other_premise k c a f d) = absurd (n c)
one_verdict_law cs ks scheme cited s v w (other_count n) (unfit c a f d u) = absurd (n c)
one_verdict_law cs ks scheme cited s v w (other_count n) (fits c a d f) = absurd (n c)
one_verdict_law cs ks scheme cited s v w (other_conclusion c a) (other_count m) = absurd (m c)
one_verdict_law cs ks scheme cited s v w (other_conclusion c a) (other_conclusion e b) = refl
one_verdict_law cs ks scheme cited s v w (other_conclusion c a) (unfit_by_conclusion e b u) = refl
one_verdict_law cs ks scheme cited s v w (other_conclusion c a) (other_premise k e b f d) = absurd (a b)
one_verdict_law cs ks scheme cited s v w (other_conclusion c a) (unfit e b f d u) = refl
one_verdict_law cs ks scheme cited s v w (other_conclusion c a) (fits e b d f) = absurd (a b)
one_verdict_law cs ks scheme cited s v w (unfit_by_conclusion c a u) (other_count m) = absurd (m c)
one_verdict_law cs ks scheme cited s v w (unfit_by_conclusion c a u) (other_conclusion e b) = refl
one_verdict_law cs ks scheme cited s v w (unfit_by_conclusion c a u) (unfit_by_conclusion e b x) = refl
one_verdict_law cs ks scheme cited s v w (unfit_by_conclusion c a u) (other_premise k e b f d) = absurd (u f)
one_verdict_law cs ks scheme cited s v w (unfit_by_conclusion c a u) (unfit e b f d x) = refl
one_verdict_law cs ks scheme cited s v w (unfit_by_conclusion c a u) (fits e b d f) = absurd (u (fixed_fit cs ks (fixed_by_conclusion scheme s) (fixed_by_all scheme cited s) scheme.letters f))
one_verdict_law cs ks scheme cited s v w (other_premise k c a f d) (other_count m) = absurd (m c)
one_verdict_law cs ks scheme cited s v w (other_premise k c a f d) (other_conclusion e b) = absurd (b a)
one_verdict_law cs ks scheme cited s v w (other_premise k c a f d) (unfit_by_conclusion e b u) = absurd (u f)
one_verdict_law cs ks scheme cited s v w (other_premise k c a f d) (other_premise j e b g x) =
    ap (λ o. PremiseNoFit (number_in o)) (one_difference (fixed_by_all scheme cited s) 0 scheme.premises cited (Some k) (Some j) d x)
one_verdict_law cs ks scheme cited s v w (other_premise k c a f d) (unfit e b g x u) = absurd (some_none k (one_difference (fixed_by_all scheme cited s) 0 scheme.premises cited (Some k) None d x))
one_verdict_law cs ks scheme cited s v w (other_premise k c a f d) (fits e b x g) = absurd (some_none k (one_difference (fixed_by_all scheme cited s) 0 scheme.premises cited (Some k) None d x))
one_verdict_law cs ks scheme cited s v w (unfit c a f d u) (other_count m) = absurd (m c)
one_verdict_law cs ks scheme cited s v w (unfit c a f d u) (other_conclusion e b) = refl
one_verdict_law cs ks scheme cited s v w (unfit c a f d u) (unfit_by_conclusion e b x) = refl
one_verdict_law cs ks scheme cited s v w (unfit c a f d u) (other_premise k e b g x) = absurd (some_none k (one_difference (fixed_by_all scheme cited s) 0 scheme.premises cited (Some k) None x d))
one_verdict_law cs ks scheme cited s v w (unfit c a f d u) (unfit e b g x y) = refl
one_verdict_law cs ks scheme cited s v w (unfit c a f d u) (fits e b x g) = absurd (u g)
one_verdict_law cs ks scheme cited s v w (fits c a d f) (other_count m) = absurd (m c)
one_verdict_law cs ks scheme cited s v w (fits c a d f) (other_conclusion e b) = absurd (b a)
one_verdict_law cs ks scheme cited s v w (fits c a d f) (unfit_by_conclusion e b u) = absurd (u (fixed_fit cs ks (fixed_by_conclusion scheme s) (fixed_by_all scheme cited s) scheme.letters f))
one_verdict_law cs ks scheme cited s v w (fits c a d f) (other_premise k e b g x) = absurd (some_none k (one_difference (fixed_by_all scheme cited s) 0 scheme.premises cited (Some k) None x d))
one_verdict_law cs ks scheme cited s v w (fits c a d f) (unfit e b g x u) = absurd (u f)
one_verdict_law cs ks scheme cited s v w (fits c a d f) (fits e b x g) = refl
