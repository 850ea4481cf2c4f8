-- What is known of the universals after each of them.
use Rattle.std.proofs.Common.{◌≡◌, ◌≤◌, ◌<◌, ◌+◌, ℕ, zero, suc, List, [], ◌∷◌, ◌++◌, length, take, get_or, ap, sym, ◌∙◌, subst, arith, true, Option, Some, None, ⊎_elim}
use Rattle.std.specs.Prelude.{Contains, All}
use Rattle.std.specs.Option.{option_or}
use Rattle.std.proofs.Math.Seq.{take-suc}
use Rattle.std.proofs.lemmas.List.{take_all}
use Rattle.std.proofs.lemmas.List.Elements.{Contains-append_cases, All-append, All-cons, All-nil}
use Rattle.mz_logic.specs.Formula.{Formula}
use Rattle.mz_logic.specs.declared.disjunct.Disjunct.{Disjunct}
use Rattle.mz_ground.specs.declared.clause.Clause.{Clause}
use Rattle.mz_refute.specs.Work.{IsWork, most_work}
use Rattle.mz_refute.specs.Closes.{IsRefutedWithin}
use Rattle.mz_refute.specs.Answered.{IsWithinWork}
use Rattle.mz_refute.specs.Answered.{IsAnswer}
use Rattle.mz_refute.specs.declared.answer.Answer.{Answer}
use Rattle.mz_refute.specs.declared.answer.Answer.TheVariants.{Yes, No, Over}
use Rattle.mz_refute.proofs.WorkLemmas.{one_work}
use Rattle.mz_by.specs.Verdict.{HasFirstWork, this, later}
use Rattle.mz_by.specs.Examination.{IsNoneRefuted, IsFirstWork, IsExamination, IsSoFar}
use Rattle.mz_by.specs.declared.examine.Examination.TheVariants as examinations

one_member : (x y : Formula) → Contains (x ∷ []) y → x ≡ y
one_member x y (zero, lt, e) = e
one_member x y (suc k, lt, e) = absurd (omega arith)

-- one more universal
none_refuted-snoc : (d : Disjunct) (cs : List Clause) (us : List Formula) (u : Formula) → IsNoneRefuted d cs us → ¬ IsRefutedWithin d cs u → IsNoneRefuted d cs (us ++ u ∷ [])
none_refuted-snoc d cs us u h n v c r = ⊎_elim (λ i. h v i r) (λ i. n (subst (IsRefutedWithin d cs) (sym (one_member u v i)) r)) (Contains-append_cases us (u ∷ []) v c)

first_work-append : (d : Disjunct) (cs : List Clause) (us vs : List Formula) (n : ℕ) → HasFirstWork d cs us n → HasFirstWork d cs (us ++ vs) n
first_work-append d cs us vs n (this u ws m h lt) = this u (ws ++ vs) m h lt
first_work-append d cs us vs n (later u ws m k h le f) = later u (ws ++ vs) m k h le (first_work-append d cs ws vs k f)

All-tail : (P : Formula → Type 0) (u : Formula) (us : List Formula) → All P (u ∷ us) → All P us
All-tail P u us h k d lt = h (suc k) d (omega arith)

first_work-snoc : (d : Disjunct) (cs : List Clause) (us : List Formula) (u : Formula) (n : ℕ) → All (IsWithinWork d cs) us → IsWork d cs true u n → most_work < n → HasFirstWork d cs (us ++ u ∷ []) n
first_work-snoc d cs [] u n a w lt = this u [] n w lt
first_work-snoc d cs (v ∷ vs) u n a w lt =
    let h : IsWithinWork d cs v = a 0 v (omega arith) in
    later v (vs ++ u ∷ []) h.work n h.is_work h.within (first_work-snoc d cs vs u n (All-tail (IsWithinWork d cs) v vs a) w lt)

first-snoc_no : (d : Disjunct) (cs : List Clause) (us : List Formula) (u : Formula) (first : Option ℕ) → IsFirstWork d cs us first → IsWithinWork d cs u → IsFirstWork d cs (us ++ u ∷ []) first
first-snoc_no d cs us u None h w = All-append (IsWithinWork d cs) us (u ∷ []) h (All-cons (IsWithinWork d cs) u [] w (All-nil (IsWithinWork d cs)))
first-snoc_no d cs us u (Some n) h w = first_work-append d cs us (u ∷ []) n h

first-snoc_over : (d : Disjunct) (cs : List Clause) (us : List Formula) (u : Formula) (first : Option ℕ) (n : ℕ) → IsFirstWork d cs us first → IsWork d cs true u n → most_work < n → IsFirstWork d cs (us ++ u ∷ []) (option_or first (Some n))
first-snoc_over d cs us u None n h w lt = first_work-snoc d cs us u n h w lt
first-snoc_over d cs us u (Some m) n h w lt = first_work-append d cs us (u ∷ []) m h

not_within : (d : Disjunct) (cs : List Clause) (u : Formula) (n : ℕ) → IsWork d cs true u n → most_work < n → ¬ IsRefutedWithin d cs u
not_within d cs u n w lt r =
    let e : n ≡ r.work = one_work d cs true u n r.work w r.is_work in
    let le : r.work ≤ most_work = r.within in
    omega (arith, e, lt, le)

taken : (us : List Formula) (i : ℕ) (u : Formula) → i < length us → u ≡ get_or us i u → (take i us ++ u ∷ []) ≡ take (i + 1) us
taken us i u lt at =
    let e : suc i ≡ (i + 1) = omega arith in
    ap (λ v. take i us ++ v ∷ []) at ∙ sym (take-suc us i u lt) ∙ ap (λ j. take j us) e

pub step_no : (d : Disjunct) (cs : List Clause) (us : List Formula) (i : ℕ) (u : Formula) (first next : Option ℕ) (a : Answer) → i < length us → u ≡ get_or us i u → a ≡ No → next ≡ first → IsAnswer d cs u a → IsSoFar d cs (take i us) first → IsSoFar d cs (take (i + 1) us) next
unfolding IsAnswer
step_no d cs us i u first next a lt at ea en h s =
    let it : IsAnswer d cs u No = subst (IsAnswer d cs u) ea h in
    let out : IsSoFar d cs (take i us ++ u ∷ []) first = (none_refuted-snoc d cs (take i us) u s.0 (λ r. it.1 r.refuted), first-snoc_no d cs (take i us) u first s.1 it.0) in
    subst (λ xs. IsSoFar d cs xs next) (taken us i u lt at) (subst (IsSoFar d cs (take i us ++ u ∷ [])) (sym en) out)

pub step_over : (d : Disjunct) (cs : List Clause) (us : List Formula) (i : ℕ) (u : Formula) (first next result : Option ℕ) (a : Answer) (n : ℕ) → i < length us → u ≡ get_or us i u → a ≡ Over n → result ≡ option_or first (Some n) → next ≡ result → IsAnswer d cs u a → IsSoFar d cs (take i us) first → IsSoFar d cs (take (i + 1) us) next
unfolding IsAnswer
step_over d cs us i u first next result a n lt at ea er en h s =
    let it : IsAnswer d cs u (Over n) = subst (IsAnswer d cs u) ea h in
    let out : IsSoFar d cs (take i us ++ u ∷ []) (option_or first (Some n)) =
    (none_refuted-snoc d cs (take i us) u s.0 (not_within d cs u n it.0 it.1), first-snoc_over d cs (take i us) u first n s.1 it.0 it.1) in
    subst (λ xs. IsSoFar d cs xs next) (taken us i u lt at) (subst (IsSoFar d cs (take i us ++ u ∷ [])) (sym (en ∙ er)) out)

pub found : (d : Disjunct) (cs : List Clause) (us : List Formula) (i : ℕ) (u : Formula) (a : Answer) → i < length us → u ≡ get_or us i u → us ≡ d.universals → a ≡ Yes → IsAnswer d cs u a → IsExamination d cs d.universals examinations.Refuted
unfolding IsAnswer
found d cs us i u a lt at e ea h = (u, subst (λ xs. Contains xs u) e (i, lt, sym at), subst (IsAnswer d cs u) ea h)

whole : (d : Disjunct) (cs : List Clause) (us : List Formula) (i : ℕ) (first : Option ℕ) → length us ≤ i → us ≡ d.universals → IsSoFar d cs (take i us) first → IsSoFar d cs d.universals first
whole d cs us i first le e s = subst (λ xs. IsSoFar d cs xs first) (take_all i us le ∙ e) s

pub ends_over : (d : Disjunct) (cs : List Clause) (us : List Formula) (i : ℕ) (first : Option ℕ) (n : ℕ) → length us ≤ i → us ≡ d.universals → first ≡ Some n → IsSoFar d cs (take i us) first → IsExamination d cs d.universals (examinations.Over n)
ends_over d cs us i first n le e ef s = subst (IsSoFar d cs d.universals) ef (whole d cs us i first le e s)

pub ends_open : (d : Disjunct) (cs : List Clause) (us : List Formula) (i : ℕ) (first : Option ℕ) → length us ≤ i → us ≡ d.universals → first ≡ None → IsSoFar d cs (take i us) first → IsExamination d cs d.universals examinations.Open
ends_open d cs us i first le e ef s = subst (IsSoFar d cs d.universals) ef (whole d cs us i first le e s)
