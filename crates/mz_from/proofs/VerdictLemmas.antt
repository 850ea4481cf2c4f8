-- What the code of verdicts tells.
use Rattle.std.proofs.Common.{◌≡◌, ◌+◌, ℕ, suc, List, [], ◌∷◌, refl, sym, ap, ◌∙◌, subst, Bool, true, false, length, arith, Option, Some, None}
use Rattle.std.specs.Prelude.{◌↔◌, IsTrue}
use Rattle.mz_std_laws.proofs.Truth.{not_both}
use Rattle.mz_logic.specs.declared.letters.Letter.{Letter}
use Rattle.mz_core.specs.Statement.{Statement}
use Rattle.mz_core.specs.declared.scheme.Scheme.{Scheme}
use Rattle.mz_context.specs.declared.constants.Constant.{Constant}
use Rattle.mz_ground.specs.declared.clause.Clause.{Clause}
use Rattle.mz_obligations.specs.declared.obligation.SchemeVerdict.TheVariants.{Fits, NoFit, PremiseCount, PremiseNoFit}
use Rattle.mz_from.specs.Letters.{LettersFit, fixed_among}
use Rattle.mz_from.specs.Verdict.{fixed_by_conclusion, fixed_by_all, IsInstance, Differs, none_left, this_one, not_this, IsVerdict, other_count, other_conclusion, unfit_by_conclusion, other_premise, unfit, fits}

-- what is false
refuted : {P : Type 0} (b : Bool) → IsTrue b ↔ P → b ≡ false → ¬ P
refuted b i eb p = not_both b eb (i.1 p)

-- premises
pub told_first_differs : (ls : List Letter) (above n : ℕ) (p s : Statement) (ps more premises ss others cited : List Statement) (b : Bool) → ps ≡ p ∷ more → ss ≡ s ∷ others → IsTrue b ↔ IsInstance ls p s → b ≡ false → n ≡ above + 1 → ((o : Option ℕ) → Differs ls above ps ss o → Differs ls 0 premises cited o) → Differs ls 0 premises cited (Some n)
told_first_differs ls above n p s ps more premises ss others cited b ep es i eb en h =
    let same : n ≡ suc above = omega (arith, en) in
    h (Some n) (subst (λ xs. Differs ls above xs ss (Some n)) (sym ep) (subst (λ xs. Differs ls above (p ∷ more) xs (Some n)) (sym es) (subst (λ m. Differs ls above (p ∷ more) (s ∷ others) (Some m)) (sym same) (this_one above p s more others (refuted b i eb)))))

pub told_later_differs : (ls : List Letter) (above n : ℕ) (p s : Statement) (ps more premises ss others cited : List Statement) (b : Bool) → ps ≡ p ∷ more → ss ≡ s ∷ others → IsTrue b ↔ IsInstance ls p s → b ≡ true → n ≡ above + 1 → ((o : Option ℕ) → Differs ls above ps ss o → Differs ls 0 premises cited o) → (o : Option ℕ) → Differs ls n more others o → Differs ls 0 premises cited o
told_later_differs ls above n p s ps more premises ss others cited b ep es i eb en h o d =
    let same : n ≡ suc above = omega (arith, en) in
    h o (subst (λ xs. Differs ls above xs ss o) (sym ep) (subst (λ xs. Differs ls above (p ∷ more) xs o) (sym es) (not_this above p s more others o (i.0 eb) (subst (λ m. Differs ls m more others o) same d))))

empty : {A : Type 0} (xs : List A) → length xs ≡ 0 → xs ≡ []
empty [] h = refl
empty (x ∷ xs) h = absurd (omega (arith, h))

pub told_none_differs : (ls : List Letter) (above : ℕ) (ps premises ss cited : List Statement) → length ps ≡ 0 → length ss ≡ length ps → ((o : Option ℕ) → Differs ls above ps ss o → Differs ls 0 premises cited o) → Differs ls 0 premises cited None
told_none_differs ls above ps premises ss cited ep el h =
    let none : ss ≡ [] = empty ss (el ∙ ep) in
    h None (subst (λ xs. Differs ls above xs ss None) (sym (empty ps ep)) (subst (λ xs. Differs ls above [] xs None) (sym none) (none_left above)))

pub told_too_short : (ls : List Letter) (above : ℕ) (p : Statement) (ps more premises ss cited : List Statement) → ps ≡ p ∷ more → ss ≡ [] → length ss ≡ length ps → Differs ls 0 premises cited None
told_too_short ls above p ps more premises ss cited ep es el =
    let e : 0 ≡ suc (length more) = sym (ap (λ xs. length xs) es) ∙ (el ∙ ap (λ xs. length xs) ep) in
    absurd (omega (arith, e))

pub ruleset differ_rules = (told_first_differs, told_later_differs, told_none_differs, told_too_short)

-- verdicts; `ls` and `fs` are the letters that are fixed by all and by the conclusion
pub told_other_conclusion : (cs : List Clause) (ks : List (Option Constant)) (scheme : Scheme) (cited : List Statement) (s : Statement) (ls : List Letter) (b : Bool) → length cited ≡ length scheme.premises → ls ≡ fixed_by_all scheme cited s → IsTrue b ↔ IsInstance ls scheme.conclusion s → b ≡ false → IsVerdict cs ks scheme cited s NoFit
told_other_conclusion cs ks scheme cited s ls b ec el i eb =
    other_conclusion ec (refuted b (subst (λ x. IsTrue b ↔ IsInstance x scheme.conclusion s) el i) eb)

abbrev Fitting : List Clause → List (Option Constant) → Scheme → List Letter → List Letter → Type 0
Fitting cs ks scheme fs ls = LettersFit cs ks ls (fixed_among fs scheme.letters)

abbrev fitting : (cs : List Clause) (ks : List (Option Constant)) (scheme : Scheme) (cited : List Statement) (s : Statement) (fs ls : List Letter) (b : Bool) → fs ≡ fixed_by_conclusion scheme s → ls ≡ fixed_by_all scheme cited s → IsTrue b ↔ Fitting cs ks scheme fs ls → IsTrue b ↔ Fitting cs ks scheme (fixed_by_conclusion scheme s) (fixed_by_all scheme cited s)
fitting cs ks scheme cited s fs ls b ef el i =
    subst (λ x. IsTrue b ↔ Fitting cs ks scheme x (fixed_by_all scheme cited s)) ef (subst (λ x. IsTrue b ↔ Fitting cs ks scheme fs x) el i)

pub told_unfit_by_conclusion : (cs : List Clause) (ks : List (Option Constant)) (scheme : Scheme) (cited : List Statement) (s : Statement) (fs ls : List Letter) (a b : Bool) → length cited ≡ length scheme.premises → fs ≡ fixed_by_conclusion scheme s → ls ≡ fixed_by_all scheme cited s → IsTrue a ↔ IsInstance ls scheme.conclusion s → a ≡ true → IsTrue b ↔ LettersFit cs ks ls (fixed_among fs scheme.letters) → b ≡ false → IsVerdict cs ks scheme cited s NoFit
told_unfit_by_conclusion cs ks scheme cited s fs ls a b ec ef el i ea j eb =
    unfit_by_conclusion ec (subst (λ x. IsInstance x scheme.conclusion s) el (i.0 ea)) (refuted b (fitting cs ks scheme cited s fs ls b ef el j) eb)

pub told_other_premise : (cs : List Clause) (ks : List (Option Constant)) (scheme : Scheme) (cited : List Statement) (s : Statement) (fs ls : List Letter) (a b : Bool) (o : Option ℕ) (number : ℕ) → length cited ≡ length scheme.premises → fs ≡ fixed_by_conclusion scheme s → ls ≡ fixed_by_all scheme cited s → IsTrue a ↔ IsInstance ls scheme.conclusion s → a ≡ true → IsTrue b ↔ LettersFit cs ks ls (fixed_among fs scheme.letters) → b ≡ true → Differs ls 0 scheme.premises cited o → o ≡ Some number → IsVerdict cs ks scheme cited s (PremiseNoFit number)
told_other_premise cs ks scheme cited s fs ls a b o number ec ef el i ea j eb d eo =
    other_premise number ec (subst (λ x. IsInstance x scheme.conclusion s) el (i.0 ea)) ((fitting cs ks scheme cited s fs ls b ef el j).0 eb)
    (subst (λ x. Differs x 0 scheme.premises cited (Some number)) el (subst (λ x. Differs ls 0 scheme.premises cited x) eo d))

pub told_unfit : (cs : List Clause) (ks : List (Option Constant)) (scheme : Scheme) (cited : List Statement) (s : Statement) (fs ls : List Letter) (a b c : Bool) (o : Option ℕ) → length cited ≡ length scheme.premises → fs ≡ fixed_by_conclusion scheme s → ls ≡ fixed_by_all scheme cited s → IsTrue a ↔ IsInstance ls scheme.conclusion s → a ≡ true → IsTrue b ↔ LettersFit cs ks ls (fixed_among fs scheme.letters) → b ≡ true → Differs ls 0 scheme.premises cited o → o ≡ None → IsTrue c ↔ LettersFit cs ks ls scheme.letters → c ≡ false → IsVerdict cs ks scheme cited s NoFit
told_unfit cs ks scheme cited s fs ls a b c o ec ef el i ea j eb d eo k ek =
    unfit ec (subst (λ x. IsInstance x scheme.conclusion s) el (i.0 ea)) ((fitting cs ks scheme cited s fs ls b ef el j).0 eb)
    (subst (λ x. Differs x 0 scheme.premises cited None) el (subst (λ x. Differs ls 0 scheme.premises cited x) eo d))
    (refuted c (subst (λ x. IsTrue c ↔ LettersFit cs ks x scheme.letters) el k) ek)

pub told_fits : (cs : List Clause) (ks : List (Option Constant)) (scheme : Scheme) (cited : List Statement) (s : Statement) (ls : List Letter) (a c : Bool) (o : Option ℕ) → length cited ≡ length scheme.premises → ls ≡ fixed_by_all scheme cited s → IsTrue a ↔ IsInstance ls scheme.conclusion s → a ≡ true → Differs ls 0 scheme.premises cited o → o ≡ None → IsTrue c ↔ LettersFit cs ks ls scheme.letters → c ≡ true → IsVerdict cs ks scheme cited s Fits
told_fits cs ks scheme cited s ls a c o ec el i ea d eo k ek =
    fits ec (subst (λ x. IsInstance x scheme.conclusion s) el (i.0 ea))
    (subst (λ x. Differs x 0 scheme.premises cited None) el (subst (λ x. Differs ls 0 scheme.premises cited x) eo d))
    ((subst (λ x. IsTrue c ↔ LettersFit cs ks x scheme.letters) el k).0 ek)

pub ruleset verdict_rules = (told_other_conclusion, told_unfit_by_conclusion, told_other_premise, told_unfit, told_fits)

pub told_count : (cs : List Clause) (ks : List (Option Constant)) (scheme : Scheme) (cited : List Statement) (s : Statement) (n m : ℕ) → n ≡ length scheme.premises → m ≡ length cited → ¬ (m ≡ n) → IsVerdict cs ks scheme cited s (PremiseCount n)
told_count cs ks scheme cited s n m en em ne =
    subst (λ x. IsVerdict cs ks scheme cited s (PremiseCount x)) (sym en) (other_count (λ e. ne (em ∙ (e ∙ sym en))))

pub ruleset count_rules = (told_count)

-- what is left of two lists
pub one_less : (p s : Statement) (ps more ss others : List Statement) → ps ≡ p ∷ more → ss ≡ s ∷ others → length ss ≡ length ps → length others ≡ length more
one_less p s ps more ss others ep es e =
    let same : suc (length others) ≡ suc (length more) = sym (ap (λ xs. length xs) es) ∙ (e ∙ ap (λ xs. length xs) ep) in
    omega (arith, same)

pub still_fewer : (above : ℕ) (p : Statement) (ps more all : List Statement) → ps ≡ p ∷ more → above + length ps ≡ length all → above + 1 + length more ≡ length all
still_fewer above p ps more all ep e =
    let same : length ps ≡ suc (length more) = ap (λ xs. length xs) ep in
    omega (arith, same, e)
