-- The first number that passes the limit is one.
use Rattle.std.proofs.Common.{◌≡◌, ◌≤◌, ◌<◌, ℕ, suc, List, ◌∷◌, refl, sym, ◌∙◌, arith, true}
use Rattle.std.specs.Prelude.{All}
use Rattle.mz_logic.specs.Formula.{Formula}
use Rattle.mz_logic.specs.declared.disjunct.Disjunct.{Disjunct}
use Rattle.mz_ground.specs.declared.clause.Clause.{Clause}
use Rattle.mz_refute.specs.Work.{IsWork, most_work}
use Rattle.mz_refute.proofs.WorkLemmas.{one_work}
use Rattle.mz_forced.specs.Force.{IsForce}
use Rattle.mz_forced.proofs.ForceLemmas.{one_force}
use Rattle.mz_profiles.specs.Numbers.{IsWithin, HasFirst, KeepNumbers, HasFirstNumber, this, later, of_works, of_forces, of_next_works}

-- a formula has one number
abbrev pub IsOne : (Formula → ℕ → Type 0) → Type 0
IsOne Has = (u : Formula) (m n : ℕ) → Has u m → Has u n → m ≡ n

pub works_one : (d : Disjunct) (cs : List Clause) → IsOne (IsWork d cs true)
works_one d cs u m n h k = one_work d cs true u m n h k

forces_one : (d : Disjunct) (cs : List Clause) → IsOne (IsForce d cs true)
forces_one d cs u m n h k = one_force d cs true u m n h k

-- a number doesn't both keep and pass the limit
not_both : (Has : Formula → ℕ → Type 0) → IsOne Has → (u : Formula) (n : ℕ) → IsWithin Has u → Has u n → most_work < n → ⊥
not_both Has one u n w h lt =
    let e : w.number ≡ n = one u w.number n w.has h in
    let le : w.number ≤ most_work = w.within in
    omega (arith, e, lt, le)

pub one_first : (Has : Formula → ℕ → Type 0) → IsOne Has → (us : List Formula) (m n : ℕ) → HasFirst Has us m → HasFirst Has us n → m ≡ n
one_first Has one us m n (this u vs a h lt) (this u2 vs2 b k le) = one u a b h k
one_first Has one us m n (this u vs a h lt) (later u2 vs2 b w k) = absurd (not_both Has one u a w h lt)
one_first Has one us m n (later u vs a w k) (this u2 vs2 b h lt) = absurd (not_both Has one u b w h lt)
one_first Has one us m n (later u vs a w h) (later u2 vs2 b w2 k) = one_first Has one vs a b h k

rest_within : (P : Formula → Type 0) (u : Formula) (us : List Formula) → All P (u ∷ us) → All P us
rest_within P u us h k d lt = h (suc k) d (omega arith)

pub not_all : (Has : Formula → ℕ → Type 0) → IsOne Has → (us : List Formula) (n : ℕ) → HasFirst Has us n → All (IsWithin Has) us → ⊥
not_all Has one us n (this u vs a h lt) w = not_both Has one u a (w 0 u (omega arith)) h lt
not_all Has one us n (later u vs a x h) w = not_all Has one vs a h (rest_within (IsWithin Has) u vs w)

pub one_number : (d next : Disjunct) (cs : List Clause) (m n : ℕ) → HasFirstNumber d next cs m → HasFirstNumber d next cs n → m ≡ n
one_number d next cs m n (of_works h) (of_works k) = one_first (IsWork d cs true) (works_one d cs) d.universals m n h k
one_number d next cs m n (of_works h) (of_forces w k) = absurd (not_all (IsWork d cs true) (works_one d cs) d.universals m h w)
one_number d next cs m n (of_works h) (of_next_works w x k) = absurd (not_all (IsWork d cs true) (works_one d cs) d.universals m h w)
one_number d next cs m n (of_forces w h) (of_works k) = absurd (not_all (IsWork d cs true) (works_one d cs) d.universals n k w)
one_number d next cs m n (of_forces w h) (of_forces x k) = one_first (IsForce d cs true) (forces_one d cs) d.universals m n h k
one_number d next cs m n (of_forces w h) (of_next_works x y k) = absurd (not_all (IsForce d cs true) (forces_one d cs) d.universals m h y)
one_number d next cs m n (of_next_works w x h) (of_works k) = absurd (not_all (IsWork d cs true) (works_one d cs) d.universals n k w)
one_number d next cs m n (of_next_works w x h) (of_forces y k) = absurd (not_all (IsForce d cs true) (forces_one d cs) d.universals n k x)
one_number d next cs m n (of_next_works w x h) (of_next_works y z k) = one_first (IsWork next cs true) (works_one next cs) next.universals m n h k

pub not_kept : (d next : Disjunct) (cs : List Clause) (n : ℕ) → HasFirstNumber d next cs n → KeepNumbers d next cs → ⊥
not_kept d next cs n (of_works h) k = not_all (IsWork d cs true) (works_one d cs) d.universals n h k.works
not_kept d next cs n (of_forces w h) k = not_all (IsForce d cs true) (forces_one d cs) d.universals n h k.forces
not_kept d next cs n (of_next_works w x h) k = not_all (IsWork next cs true) (works_one next cs) next.universals n h k.next_works
