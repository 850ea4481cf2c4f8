-- A problem has one verdict at most.
use Rattle.std.proofs.Common.{◌≡◌, ◌≤◌, ℕ, suc, List, ◌∷◌, length, refl, ap, subst, arith, Bool, true, false}
use Rattle.std.specs.Prelude.{All, nat_lt}
use Rattle.std.proofs.lemmas.Bool.{ltb-true, ltb-false}
use Rattle.std.proofs.lemmas.List.Elements.{All-contains}
use Rattle.mz_base.specs.declared.limit.Limit.TheVariants.{Work}
use Rattle.mz_logic.specs.Formula.{Formula}
use Rattle.mz_logic.specs.declared.disjunct.Disjunct.{Disjunct}
use Rattle.mz_nf.specs.declared.problem.Problem.{Problem}
use Rattle.mz_nf.specs.Problem.{parts_of, has_constant}
use Rattle.mz_nf.proofs.OneListLemmas.{all_splits_once}
use Rattle.mz_ground.specs.declared.clause.Clause.{Clause}
use Rattle.mz_ground.specs.GroundExpression.{TermExpression, IsAtomExpression}
use Rattle.mz_ground.specs.Layers.{InLayer}
use Rattle.mz_ground.specs.Ground.{IsWithinTerms, IsWithinAtoms, PassesTerms, PassesAtoms, HasTooManyTerms, HasTooManyAtoms}
use Rattle.mz_refute.specs.Work.{most_work}
use Rattle.mz_refute.specs.Answered.{IsWithinWork}
use Rattle.mz_refute.proofs.CountLemmas.{length-le_distinct}
use Rattle.mz_refute.proofs.WorkLemmas.{one_work}
use Rattle.mz_by.specs.declared.by.ByVerdict.{ByVerdict}
use Rattle.mz_by.specs.declared.by.ByVerdict.TheVariants.{Over}
use Rattle.mz_by.specs.Verdict.{KeepsLimits, IsClosedWithin, HasFirstWork, Decides, DecidesAll, IsVerdict, this, later, all_closed, decided, passed, by_terms, by_atoms, by_work, is_open, too_many, on_disjuncts}

-- a layer doesn't both keep and pass a limit
not_both_terms : (d : Disjunct) (cs : List Clause) (n : ℕ) → IsWithinTerms d cs n → PassesTerms d cs n → ⊥
not_both_terms d cs n w p =
    let le : length p.0 ≤ length w.0 =
    length-le_distinct p.0 w.0 p.1 (λ t c. (w.1.members t).1 (All-contains (λ u. InLayer d cs n (TermExpression u)) p.0 t p.2 c)) in
    omega (arith, le, w.2, p.3)

not_both_atoms : (d : Disjunct) (cs : List Clause) (n : ℕ) → IsWithinAtoms d cs n → PassesAtoms d cs n → ⊥
not_both_atoms d cs n w p =
    let le : length p.0 ≤ length w.0 =
    length-le_distinct p.0 w.0 p.1 (λ t c. (w.1.members t).1 (All-contains (λ u. IsAtomExpression u × InLayer d cs n u) p.0 t p.2 c)) in
    omega (arith, le, w.2, p.3)

pub not_terms : (d : Disjunct) (cs : List Clause) (n : ℕ) → KeepsLimits d cs → HasTooManyTerms d cs n → ⊥
not_terms d cs n k h = not_both_terms d cs n (k n h.layer).0 h.passes

pub not_atoms : (d : Disjunct) (cs : List Clause) (n : ℕ) → KeepsLimits d cs → HasTooManyAtoms d cs n → ⊥
not_atoms d cs n k h = not_both_atoms d cs n (k n h.layer).1 h.passes

-- the first layer that passes a limit passes one of them
pub not_terms_and_atoms : (d : Disjunct) (cs : List Clause) (m n : ℕ) (a b : Bool) → nat_lt m n ≡ a → nat_lt n m ≡ b → HasTooManyTerms d cs m → HasTooManyAtoms d cs n → ⊥
not_terms_and_atoms d cs m n true b ea eb h k = not_both_terms d cs m (k.before m (ltb-true m n ea)).0 h.passes
not_terms_and_atoms d cs m n false true ea eb h k = not_both_atoms d cs n (h.before n (ltb-true n m eb)).1 k.passes
not_terms_and_atoms d cs m n false false ea eb h k =
    let up : n ≤ m = ltb-false m n ea in
    let down : m ≤ n = ltb-false n m eb in
    let e : n ≡ m = omega (arith, up, down) in
    not_both_terms d cs m (subst (IsWithinTerms d cs) e k.terms) h.passes

one_first_work : (d : Disjunct) (cs : List Clause) (us : List Formula) (m n : ℕ) → HasFirstWork d cs us m → HasFirstWork d cs us n → m ≡ n
one_first_work d cs us m n (this u vs a h lt) (this u' vs' b i le) = one_work d cs true u a b h i
one_first_work d cs us m n (this u vs a h lt) (later u' vs' b c i le k) =
    let e : a ≡ b = one_work d cs true u a b h i in
    absurd (omega (arith, e, lt, le))
one_first_work d cs us m n (later u vs b c i le k) (this u' vs' a h lt) =
    let e : a ≡ b = one_work d cs true u a b h i in
    absurd (omega (arith, e, lt, le))
one_first_work d cs us m n (later u vs a b h le k) (later u' vs' a' b' h' le' k') = one_first_work d cs vs b b' k k'

All-tail : (P : Formula → Type 0) (u : Formula) (us : List Formula) → All P (u ∷ us) → All P us
All-tail P u us h k d lt = h (suc k) d (omega arith)

not_all_within : (d : Disjunct) (cs : List Clause) (us : List Formula) (n : ℕ) → HasFirstWork d cs us n → All (IsWithinWork d cs) us → ⊥
not_all_within d cs us n (this u vs m h lt) a =
    let w : IsWithinWork d cs u = a 0 u (omega arith) in
    let e : m ≡ w.work = one_work d cs true u m w.work h w.is_work in
    let le : w.work ≤ most_work = w.within in
    omega (arith, e, lt, le)
not_all_within d cs us n (later u vs m k h le f) a = not_all_within d cs vs k f (All-tail (IsWithinWork d cs) u vs a)

one_decision : (d : Disjunct) (cs : List Clause) (number : ℕ) (v w : ByVerdict) → Decides d cs number v → Decides d cs number w → v ≡ w
one_decision d cs number v w (by_terms m h) (by_terms n k) = refl
one_decision d cs number v w (by_terms m h) (by_atoms n k) = absurd (not_terms_and_atoms d cs m n (nat_lt m n) (nat_lt n m) refl refl h k)
one_decision d cs number v w (by_terms m h) (by_work n k i j) = absurd (not_terms d cs m k h)
one_decision d cs number v w (by_terms m h) (is_open k i j) = absurd (not_terms d cs m k h)
one_decision d cs number v w (by_atoms m h) (by_terms n k) = absurd (not_terms_and_atoms d cs n m (nat_lt n m) (nat_lt m n) refl refl k h)
one_decision d cs number v w (by_atoms m h) (by_atoms n k) = refl
one_decision d cs number v w (by_atoms m h) (by_work n k i j) = absurd (not_atoms d cs m k h)
one_decision d cs number v w (by_atoms m h) (is_open k i j) = absurd (not_atoms d cs m k h)
one_decision d cs number v w (by_work n k i j) (by_terms m h) = absurd (not_terms d cs m k h)
one_decision d cs number v w (by_work n k i j) (by_atoms m h) = absurd (not_atoms d cs m k h)
one_decision d cs number v w (by_work n k i j) (by_work m k' i' j') = ap (λ a. Over Work a) (one_first_work d cs d.universals n m j j')
one_decision d cs number v w (by_work n k i j) (is_open k' i' j') = absurd (not_all_within d cs d.universals n j j')
one_decision d cs number v w (is_open k i j) (by_terms m h) = absurd (not_terms d cs m k h)
one_decision d cs number v w (is_open k i j) (by_atoms m h) = absurd (not_atoms d cs m k h)
one_decision d cs number v w (is_open k i j) (by_work n k' i' j') = absurd (not_all_within d cs d.universals n j' j)
one_decision d cs number v w (is_open k i j) (is_open k' i' j') = refl

not_decided : (d : Disjunct) (cs : List Clause) (number : ℕ) (v : ByVerdict) → IsClosedWithin d cs → Decides d cs number v → ⊥
not_decided d cs number v c (by_terms n h) = not_terms d cs n c.keeps h
not_decided d cs number v c (by_atoms n h) = not_atoms d cs n c.keeps h
not_decided d cs number v c (by_work n k i j) = i c.closed
not_decided d cs number v c (is_open k i j) = i c.closed

one_decision_of_all : (cs : List Clause) (number : ℕ) (ds : List Disjunct) (v w : ByVerdict) → DecidesAll cs number ds v → DecidesAll cs number ds w → v ≡ w
one_decision_of_all cs number ds v w (all_closed n) (all_closed m) = refl
one_decision_of_all cs number ds v w (decided n d es a h) (decided n' d' es' b k) = one_decision d cs n a b h k
one_decision_of_all cs number ds v w (decided n d es a h) (passed n' d' es' b c k) = absurd (not_decided d cs n a c h)
one_decision_of_all cs number ds v w (passed n d es a c k) (decided n' d' es' b h) = absurd (not_decided d cs n b c h)
one_decision_of_all cs number ds v w (passed n d es a c k) (passed n' d' es' b c' k') = one_decision_of_all cs (suc n) es a b k k'

pub one_verdict : (p : Problem) (cs : List Clause) (v w : ByVerdict) → IsVerdict p cs v → IsVerdict p cs w → v ≡ w
one_verdict p cs v w (too_many lt) (too_many lt') = refl
one_verdict p cs v w (too_many lt) (on_disjuncts ds b le a h) = absurd (omega (arith, lt, le))
one_verdict p cs v w (on_disjuncts ds b le a h) (too_many lt) = absurd (omega (arith, lt, le))
one_verdict p cs v w (on_disjuncts ds a le s h) (on_disjuncts es b le' t k) =
    let e : ds ≡ es = (all_splits_once (has_constant p) (parts_of p) 1 s.0 t.0 ds es s.1 t.1).0 in
    one_decision_of_all cs 1 es a b (subst (λ xs. DecidesAll cs 1 xs a) e h) k
