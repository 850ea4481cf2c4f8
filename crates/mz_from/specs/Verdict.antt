-- What is found at a `from`: whether the statement is an instance of the scheme's conclusion, and the cited statements of its premises.
use Rattle.std.specs.Prelude.{◌≡◌, ℕ, suc, List, [], ◌∷◌, Option, Some, None, length}
use Rattle.mz_logic.specs.Instance.{instance}
use Rattle.mz_logic.specs.Same.{IsSame}
use Rattle.mz_logic.specs.declared.letters.Letter.{Letter}
use Rattle.mz_core.specs.Statement.{Statement}
use Rattle.mz_core.specs.Erasure.{erase}
use Rattle.mz_core.specs.declared.scheme.Scheme.{Scheme}
use Rattle.mz_context.specs.declared.constants.Constant.{Constant}
use Rattle.mz_ground.specs.declared.clause.Clause.{Clause}
use Rattle.mz_obligations.specs.declared.obligation.SchemeVerdict.{SchemeVerdict}
use Rattle.mz_obligations.specs.declared.obligation.SchemeVerdict.TheVariants.{Fits, NoFit, PremiseCount, PremiseNoFit}
use Rattle.mz_following.specs.Following.{followed}
use Rattle.mz_from.specs.Letters.{LettersFit, fixed_among}

-- the letters that the conclusion fixes beside the statement, and with them those that the premises fix beside what is cited, in order
abbrev pub fixed_by_conclusion : Scheme → Statement → List Letter
fixed_by_conclusion scheme s = followed (erase scheme.conclusion) (erase s) []

abbrev pub followed_premises : List Statement → List Statement → List Letter → List Letter
followed_premises [] ss ls = ls
followed_premises (p ∷ ps) [] ls = ls
followed_premises (p ∷ ps) (s ∷ ss) ls = followed_premises ps ss (followed (erase p) (erase s) ls)

abbrev pub fixed_by_all : Scheme → List Statement → Statement → List Letter
fixed_by_all scheme cited s = followed_premises scheme.premises cited (fixed_by_conclusion scheme s)

-- the statement is the same as the instance, up to association of `&` and double negation
abbrev pub IsInstance : List Letter → Statement → Statement → Type 0
IsInstance ls p s = IsSame (instance ls (erase p)) (erase s)

-- the number of the first premise that has what is cited for it not as an instance, counted from the one behind `above`; none where each has
pub data Differs (ls : List Letter) : ℕ → List Statement → List Statement → Option ℕ → Type 0 where
  none_left : (above : ℕ) → Differs ls above [] [] None
  this_one : (above : ℕ) (p s : Statement) (ps ss : List Statement) → ¬ IsInstance ls p s → Differs ls above (p ∷ ps) (s ∷ ss) (Some (suc above))
  not_this : (above : ℕ) (p s : Statement) (ps ss : List Statement) (o : Option ℕ) → IsInstance ls p s → Differs ls (suc above) ps ss o → Differs ls above (p ∷ ps) (s ∷ ss) o

-- the refusals in their order: another number of statements is cited; the statement is no instance of the conclusion, or a letter that
-- the conclusion fixes doesn't fit its type; a premise has what is cited for it not as an instance; a functor letter isn't fixed, or
-- doesn't fit
pub data IsVerdict (cs : List Clause) (ks : List (Option Constant)) (scheme : Scheme) (cited : List Statement) (s : Statement) : SchemeVerdict → Type 0 where
  other_count : ¬ (length cited ≡ length scheme.premises) → IsVerdict cs ks scheme cited s (PremiseCount (length scheme.premises))
  other_conclusion : length cited ≡ length scheme.premises → ¬ IsInstance (fixed_by_all scheme cited s) scheme.conclusion s → IsVerdict cs ks scheme cited s NoFit
  unfit_by_conclusion : length cited ≡ length scheme.premises → IsInstance (fixed_by_all scheme cited s) scheme.conclusion s →
      ¬ LettersFit cs ks (fixed_by_all scheme cited s) (fixed_among (fixed_by_conclusion scheme s) scheme.letters) → IsVerdict cs ks scheme cited s NoFit
  other_premise : (number : ℕ) → length cited ≡ length scheme.premises → IsInstance (fixed_by_all scheme cited s) scheme.conclusion s →
      LettersFit cs ks (fixed_by_all scheme cited s) (fixed_among (fixed_by_conclusion scheme s) scheme.letters) →
      Differs (fixed_by_all scheme cited s) 0 scheme.premises cited (Some number) → IsVerdict cs ks scheme cited s (PremiseNoFit number)
  unfit : length cited ≡ length scheme.premises → IsInstance (fixed_by_all scheme cited s) scheme.conclusion s →
      LettersFit cs ks (fixed_by_all scheme cited s) (fixed_among (fixed_by_conclusion scheme s) scheme.letters) →
      Differs (fixed_by_all scheme cited s) 0 scheme.premises cited None → ¬ LettersFit cs ks (fixed_by_all scheme cited s) scheme.letters → IsVerdict cs ks scheme cited s NoFit
  fits : length cited ≡ length scheme.premises → IsInstance (fixed_by_all scheme cited s) scheme.conclusion s →
      Differs (fixed_by_all scheme cited s) 0 scheme.premises cited None → LettersFit cs ks (fixed_by_all scheme cited s) scheme.letters → IsVerdict cs ks scheme cited s Fits
