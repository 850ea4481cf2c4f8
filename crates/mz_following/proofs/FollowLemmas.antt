-- Arguments as lists, and pairs of terms that are followed one after another.
use Rattle.std.proofs.Common.{◌≡◌, ◌≤◌, ℕ, zero, suc, List, [], ◌∷◌, refl, sym, ap, ◌∙◌, arith, length, drop}
use Rattle.mz_logic.specs.Term.{Term, terms_of}
use Rattle.mz_logic.specs.TermStorage.{list_of-terms_of}
use Rattle.mz_logic.specs.declared.letters.Letter.{Letter}
use Rattle.mz_following.specs.Following.{followed_term, followed_args, followed_terms}

pub followed_args-terms_of : (ts us : List Term) (ls : List Letter) → followed_args (terms_of ts) (terms_of us) ls ≡ followed_terms ts us ls
followed_args-terms_of [] us ls = refl
followed_args-terms_of (t ∷ ts) [] ls = refl
followed_args-terms_of (t ∷ ts) (u ∷ us) ls = followed_args-terms_of ts us (followed_term t u ls)

followed_nothing : (ts : List Term) (ls : List Letter) → followed_terms ts [] ls ≡ ls
followed_nothing [] ls = refl
followed_nothing (t ∷ ts) ls = refl

drop-past : (us : List Term) (i : ℕ) → length us ≤ i → drop i us ≡ []
drop-past [] zero le = refl
drop-past [] (suc i) le = refl
drop-past (u ∷ us) zero le = absurd (omega (arith, le))
drop-past (u ∷ us) (suc i) le = drop-past us i (omega (arith, le))

-- nothing is left of the second list
pub told_short : (ts us : List Term) (i n : ℕ) (ls ms : List Letter) → n ≡ length us → n ≤ i → followed_terms (drop i ts) (drop i us) ls ≡ followed_terms ts us ms → ls ≡ followed_terms ts us ms
told_short ts us i n ls ms en le h =
    sym (followed_nothing (drop i ts) ls) ∙ (sym (ap (λ vs. followed_terms (drop i ts) vs ls) (drop-past us i (omega (arith, en, le)))) ∙ h)

pub ruleset follow_rules = (followed_args-terms_of, list_of-terms_of)

pub ruleset short_rules = (told_short)
