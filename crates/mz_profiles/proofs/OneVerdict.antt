-- A problem has one verdict at most under a profile.
use Rattle.std.proofs.Common.{◌≡◌, ◌≤◌, ℕ, suc, List, [], ◌∷◌, length, refl, ap, sym, subst, arith, Bool, true, false}
use Rattle.std.specs.Prelude.{nat_lt, All}
use Rattle.std.proofs.lemmas.Bool.{ltb-true, ltb-false}
use Rattle.std.proofs.lemmas.List.Elements.{All-contains}
use Rattle.mz_base.specs.declared.limit.Limit.TheVariants.{Work}
use Rattle.mz_base.specs.declared.profile.Profile.{Profile}
use Rattle.mz_base.specs.declared.profile.Profile.TheVariants.{One, Two}
use Rattle.mz_logic.specs.Formula.{Formula}
use Rattle.mz_logic.specs.declared.disjunct.Disjunct.{Disjunct}
use Rattle.mz_nf.specs.declared.problem.Problem.{Problem}
use Rattle.mz_nf.specs.Problem.{parts_of, has_constant}
use Rattle.mz_nf.proofs.OneListLemmas.{all_splits_once}
use Rattle.mz_ground.specs.declared.clause.Clause.{Clause}
use Rattle.mz_ground.specs.GroundExpression.{TermExpression, IsAtomExpression}
use Rattle.mz_ground.specs.Layers.{InLayer}
use Rattle.mz_ground.specs.Ground.{IsWithinTerms, IsWithinAtoms, PassesTerms, PassesAtoms, HasTooManyTerms, HasTooManyAtoms}
use Rattle.mz_refute.specs.Work.{IsWork}
use Rattle.mz_refute.specs.Answered.{IsWithinWork}
use Rattle.mz_refute.proofs.CountLemmas.{length-le_distinct}
use Rattle.mz_forced.specs.Added.{IsNext}
use Rattle.mz_forced.proofs.NextLemmas.{one_next}
use Rattle.mz_by.specs.declared.by.ByVerdict.{ByVerdict}
use Rattle.mz_by.specs.declared.by.ByVerdict.TheVariants.{Over}
use Rattle.mz_by.specs.Verdict as first
use Rattle.mz_by.specs.Verdict.{KeepsLimits, IsClosedWithin, Decides}
use Rattle.mz_profiles.specs.Numbers.{IsWithin, HasFirst, this, later}
use Rattle.mz_profiles.specs.Verdict.{IsClosedUnder, DecidesNext, DecidesUnder, DecideAll, IsVerdictUnder, at_once, by_added, next_terms, next_atoms, by_number, is_open, by_one, by_terms, by_atoms, by_next, all_closed, decided, passed, too_many, on_disjuncts}
use Rattle.mz_profiles.proofs.OneNumber.{one_number, not_kept, one_first, not_all, works_one}

-- a layer doesn't both keep and pass a limit
not_both_terms : (d : Disjunct) (cs : List Clause) (n : ℕ) → IsWithinTerms d cs n → PassesTerms d cs n → ⊥
not_both_terms d cs n w p =
    let le : length p.0 ≤ length w.0 =
    length-le_distinct p.0 w.0 p.1 (λ t c. (w.1.members t).1 (All-contains (λ u. InLayer d cs n (TermExpression u)) p.0 t p.2 c)) in
    omega (arith, le, w.2, p.3)

not_both_atoms : (d : Disjunct) (cs : List Clause) (n : ℕ) → IsWithinAtoms d cs n → PassesAtoms d cs n → ⊥
not_both_atoms d cs n w p =
    let le : length p.0 ≤ length w.0 =
    length-le_distinct p.0 w.0 p.1 (λ t c. (w.1.members t).1 (All-contains (λ u. IsAtomExpression u × InLayer d cs n u) p.0 t p.2 c)) in
    omega (arith, le, w.2, p.3)

not_terms : (d : Disjunct) (cs : List Clause) (n : ℕ) → KeepsLimits d cs → HasTooManyTerms d cs n → ⊥
not_terms d cs n k h = not_both_terms d cs n (k n h.layer).0 h.passes

not_atoms : (d : Disjunct) (cs : List Clause) (n : ℕ) → KeepsLimits d cs → HasTooManyAtoms d cs n → ⊥
not_atoms d cs n k h = not_both_atoms d cs n (k n h.layer).1 h.passes

-- the first layer that passes a limit passes one of them
not_terms_and_atoms : (d : Disjunct) (cs : List Clause) (m n : ℕ) (a b : Bool) → nat_lt m n ≡ a → nat_lt n m ≡ b → HasTooManyTerms d cs m → HasTooManyAtoms d cs n → ⊥
not_terms_and_atoms d cs m n true b ea eb h k = not_both_terms d cs m (k.before m (ltb-true m n ea)).0 h.passes
not_terms_and_atoms d cs m n false true ea eb h k = not_both_atoms d cs n (h.before n (ltb-true n m eb)).1 k.passes
not_terms_and_atoms d cs m n false false ea eb h k =
    let up : n ≤ m = ltb-false m n ea in
    let down : m ≤ n = ltb-false n m eb in
    let e : n ≡ m = omega (arith, up, down) in
    not_both_terms d cs m (subst (IsWithinTerms d cs) e k.terms) h.passes

not_either : (d : Disjunct) (cs : List Clause) (m n : ℕ) → HasTooManyTerms d cs m → HasTooManyAtoms d cs n → ⊥
not_either d cs m n h k = not_terms_and_atoms d cs m n (nat_lt m n) (nat_lt n m) refl refl h k

-- what is added decides once
one_by_next : (d next : Disjunct) (cs : List Clause) (number : ℕ) (v w : ByVerdict) → DecidesNext d next cs number v → DecidesNext d next cs number w → v ≡ w
one_by_next d next cs number v w (next_terms m h) (next_terms n k) = refl
one_by_next d next cs number v w (next_terms m h) (next_atoms n k) = absurd (not_either next cs m n h k)
one_by_next d next cs number v w (next_terms m h) (by_number n k i j) = absurd (not_terms next cs m k h)
one_by_next d next cs number v w (next_terms m h) (is_open k i j) = absurd (not_terms next cs m k h)
one_by_next d next cs number v w (next_atoms m h) (next_terms n k) = absurd (not_either next cs n m k h)
one_by_next d next cs number v w (next_atoms m h) (next_atoms n k) = refl
one_by_next d next cs number v w (next_atoms m h) (by_number n k i j) = absurd (not_atoms next cs m k h)
one_by_next d next cs number v w (next_atoms m h) (is_open k i j) = absurd (not_atoms next cs m k h)
one_by_next d next cs number v w (by_number n k i j) (next_terms m h) = absurd (not_terms next cs m k h)
one_by_next d next cs number v w (by_number n k i j) (next_atoms m h) = absurd (not_atoms next cs m k h)
one_by_next d next cs number v w (by_number n k i j) (by_number m k2 i2 j2) = ap (λ a. Over Work a) (one_number d next cs n m j j2)
one_by_next d next cs number v w (by_number n k i j) (is_open k2 i2 j2) = absurd (not_kept d next cs n j j2)
one_by_next d next cs number v w (is_open k i j) (next_terms m h) = absurd (not_terms next cs m k h)
one_by_next d next cs number v w (is_open k i j) (next_atoms m h) = absurd (not_atoms next cs m k h)
one_by_next d next cs number v w (is_open k i j) (by_number n k2 i2 j2) = absurd (not_kept d next cs n j2 j)
one_by_next d next cs number v w (is_open k i j) (is_open k2 i2 j2) = refl

-- the first work that passes the limit
work_within : (d : Disjunct) (cs : List Clause) (us : List Formula) → All (IsWithinWork d cs) us → All (IsWithin (IsWork d cs true)) us
work_within d cs us h k u lt = let w = h k u lt in record { number = w.work; has = w.is_work; within = w.within }

first_work : (d : Disjunct) (cs : List Clause) (us : List Formula) (n : ℕ) → first.HasFirstWork d cs us n → HasFirst (IsWork d cs true) us n
first_work d cs us n (first.this u vs a h lt) = this u vs a h lt
first_work d cs us n (first.later u vs a b h le k) = later u vs b (record { number = a; has = h; within = le }) (first_work d cs vs b k)

one_first_work : (d : Disjunct) (cs : List Clause) (us : List Formula) (m n : ℕ) → first.HasFirstWork d cs us m → first.HasFirstWork d cs us n → m ≡ n
one_first_work d cs us m n h k = one_first (IsWork d cs true) (works_one d cs) us m n (first_work d cs us m h) (first_work d cs us n k)

not_all_within : (d : Disjunct) (cs : List Clause) (us : List Formula) (n : ℕ) → first.HasFirstWork d cs us n → All (IsWithinWork d cs) us → ⊥
not_all_within d cs us n h w = not_all (IsWork d cs true) (works_one d cs) us n (first_work d cs us n h) (work_within d cs us w)

-- a disjunct decides once under the first profile
first_decides : (d : Disjunct) (cs : List Clause) (number : ℕ) (v w : ByVerdict) → Decides d cs number v → Decides d cs number w → v ≡ w
first_decides d cs number v w (first.by_terms m h) (first.by_terms n k) = refl
first_decides d cs number v w (first.by_terms m h) (first.by_atoms n k) = absurd (not_either d cs m n h k)
first_decides d cs number v w (first.by_terms m h) (first.by_work n k i j) = absurd (not_terms d cs m k h)
first_decides d cs number v w (first.by_terms m h) (first.is_open k i j) = absurd (not_terms d cs m k h)
first_decides d cs number v w (first.by_atoms m h) (first.by_terms n k) = absurd (not_either d cs n m k h)
first_decides d cs number v w (first.by_atoms m h) (first.by_atoms n k) = refl
first_decides d cs number v w (first.by_atoms m h) (first.by_work n k i j) = absurd (not_atoms d cs m k h)
first_decides d cs number v w (first.by_atoms m h) (first.is_open k i j) = absurd (not_atoms d cs m k h)
first_decides d cs number v w (first.by_work n k i j) (first.by_terms m h) = absurd (not_terms d cs m k h)
first_decides d cs number v w (first.by_work n k i j) (first.by_atoms m h) = absurd (not_atoms d cs m k h)
first_decides d cs number v w (first.by_work n k i j) (first.by_work m k2 i2 j2) = ap (λ a. Over Work a) (one_first_work d cs d.universals n m j j2)
first_decides d cs number v w (first.by_work n k i j) (first.is_open k2 i2 j2) = absurd (not_all_within d cs d.universals n j j2)
first_decides d cs number v w (first.is_open k i j) (first.by_terms m h) = absurd (not_terms d cs m k h)
first_decides d cs number v w (first.is_open k i j) (first.by_atoms m h) = absurd (not_atoms d cs m k h)
first_decides d cs number v w (first.is_open k i j) (first.by_work n k2 i2 j2) = absurd (not_all_within d cs d.universals n j2 j)
first_decides d cs number v w (first.is_open k i j) (first.is_open k2 i2 j2) = refl

-- a disjunct decides once
one_decision : (d : Disjunct) (cs : List Clause) (number : ℕ) (p : Profile) (v w : ByVerdict) → DecidesUnder d cs number p v → DecidesUnder d cs number p w → v ≡ w
one_decision d cs number p v w (by_one a h) (by_one b k) = first_decides d cs number a b h k
one_decision d cs number p v w (by_terms m h) (by_terms n k) = refl
one_decision d cs number p v w (by_terms m h) (by_atoms n k) = absurd (not_either d cs m n h k)
one_decision d cs number p v w (by_terms m h) (by_next x b k i j l) = absurd (not_terms d cs m k h)
one_decision d cs number p v w (by_atoms m h) (by_terms n k) = absurd (not_either d cs n m k h)
one_decision d cs number p v w (by_atoms m h) (by_atoms n k) = refl
one_decision d cs number p v w (by_atoms m h) (by_next x b k i j l) = absurd (not_atoms d cs m k h)
one_decision d cs number p v w (by_next x a k i j l) (by_terms m h) = absurd (not_terms d cs m k h)
one_decision d cs number p v w (by_next x a k i j l) (by_atoms m h) = absurd (not_atoms d cs m k h)
one_decision d cs number p v w (by_next x a k i j l) (by_next y b k2 i2 j2 l2) =
    one_by_next d x cs number a b l (subst (λ (n : Disjunct). DecidesNext d n cs number b) (one_next d cs y x j2 j) l2)

-- a disjunct that is closed doesn't decide
not_decided_first : (d : Disjunct) (cs : List Clause) (number : ℕ) (v : ByVerdict) → IsClosedWithin d cs → Decides d cs number v → ⊥
not_decided_first d cs number v c (first.by_terms n h) = not_terms d cs n c.keeps h
not_decided_first d cs number v c (first.by_atoms n h) = not_atoms d cs n c.keeps h
not_decided_first d cs number v c (first.by_work n k i j) = i c.closed
not_decided_first d cs number v c (first.is_open k i j) = i c.closed

not_decided_next : (d next : Disjunct) (cs : List Clause) (number : ℕ) (v : ByVerdict) → IsClosedWithin next cs → DecidesNext d next cs number v → ⊥
not_decided_next d next cs number v c (next_terms n h) = not_terms next cs n c.keeps h
not_decided_next d next cs number v c (next_atoms n h) = not_atoms next cs n c.keeps h
not_decided_next d next cs number v c (by_number n k i j) = i c.closed
not_decided_next d next cs number v c (is_open k i j) = i c.closed

not_decided : (d : Disjunct) (cs : List Clause) (number : ℕ) (p : Profile) (v : ByVerdict) → IsClosedUnder d cs p → DecidesUnder d cs number p v → ⊥
not_decided d cs number p v (at_once q c) (by_one a h) = not_decided_first d cs number a c h
not_decided d cs number p v (at_once q c) (by_terms n h) = not_terms d cs n c.keeps h
not_decided d cs number p v (at_once q c) (by_atoms n h) = not_atoms d cs n c.keeps h
not_decided d cs number p v (at_once q c) (by_next x a k i j l) = i c.closed
not_decided d cs number p v (by_added x k j c) (by_terms n h) = not_terms d cs n k h
not_decided d cs number p v (by_added x k j c) (by_atoms n h) = not_atoms d cs n k h
not_decided d cs number p v (by_added x k j c) (by_next y a k2 i j2 l) =
    not_decided_next d x cs number a c (subst (λ (n : Disjunct). DecidesNext d n cs number a) (one_next d cs y x j2 j) l)

one_of_all : (p : Profile) (cs : List Clause) (number : ℕ) (ds : List Disjunct) (v w : ByVerdict) → DecideAll p cs number ds v → DecideAll p cs number ds w → v ≡ w
one_of_all p cs number ds v w (all_closed n) (all_closed m) = refl
one_of_all p cs number ds v w (decided n d es a h) (decided n2 d2 es2 b k) = one_decision d cs n p a b h k
one_of_all p cs number ds v w (decided n d es a h) (passed n2 d2 es2 b c k) = absurd (not_decided d cs n p a c h)
one_of_all p cs number ds v w (passed n d es a c k) (decided n2 d2 es2 b h) = absurd (not_decided d cs n p b c h)
one_of_all p cs number ds v w (passed n d es a c k) (passed n2 d2 es2 b c2 k2) = one_of_all p cs (suc n) es a b k k2

pub one_verdict_under : (profile : Profile) (p : Problem) (cs : List Clause) (v w : ByVerdict) → IsVerdictUnder profile p cs v → IsVerdictUnder profile p cs w → v ≡ w
one_verdict_under profile p cs v w (too_many lt) (too_many lt2) = refl
one_verdict_under profile p cs v w (too_many lt) (on_disjuncts ds b le a h) = absurd (omega (arith, lt, le))
one_verdict_under profile p cs v w (on_disjuncts ds b le a h) (too_many lt) = absurd (omega (arith, lt, le))
one_verdict_under profile p cs v w (on_disjuncts ds a le s h) (on_disjuncts es b le2 t k) =
    let e : ds ≡ es = (all_splits_once (has_constant p) (parts_of p) 1 s.0 t.0 ds es s.1 t.1).0 in
    one_of_all profile cs 1 es a b (subst (λ xs. DecideAll profile cs 1 xs a) e h) k
