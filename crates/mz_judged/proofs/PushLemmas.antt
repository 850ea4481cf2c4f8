-- Lists that are put at the end of others, item by item.
use Rattle.std.proofs.Common.{◌≡◌, ℕ, suc, ◌+◌, ◌<◌, List, [], ◌∷◌, ◌++◌, drop, flat_map, length, get_or, append_assoc, append-nil, arith, sym, ap, ◌∙◌}
use Rattle.std.proofs.Math.Seq.{drop-cons, drop-length}
use Rattle.mz_core.specs.declared.fault.Fault.{Fault}
use Rattle.mz_ground.specs.declared.clause.Clause.{Clause}
use Rattle.mz_judged.specs.Found.{Found, fault_in}

drop-from_here : {X : Type 0} (xs : List X) (i : ℕ) (x : X) → i < length xs → x ≡ get_or xs i x → drop i xs ≡ x ∷ drop (i + 1) xs
drop-from_here xs i x lt e =
    let next : suc i ≡ i + 1 = omega arith in
    drop-cons xs i x lt ∙ (ap (λ y. y ∷ drop (suc i) xs) (sym e) ∙ ap (λ k. x ∷ drop k xs) next)

-- clauses
pub append-told_copy : (cs : List Clause) (i : ℕ) (c v : Clause) (out new whole : List Clause) → i < length cs → c ≡ get_or cs i c → v ≡ c → new ≡ out ++ v ∷ [] → out ++ drop i cs ≡ whole → new ++ drop (i + 1) cs ≡ whole
append-told_copy cs i c v out new whole lt at is en so =
    let rest = drop (i + 1) cs in
    ap (λ ys. ys ++ rest) (en ∙ ap (λ w. out ++ w ∷ []) is) ∙ (append_assoc out (c ∷ []) rest ∙ (ap (λ ys. out ++ ys) (sym (drop-from_here cs i c lt at)) ∙ so))

pub told_copies : (cs : List Clause) (i : ℕ) (out whole : List Clause) → i ≡ length cs → out ++ drop i cs ≡ whole → out ≡ whole
told_copies cs i out whole e so =
    sym (append-nil out) ∙ (ap (λ ys. out ++ ys) (sym (drop-length cs)) ∙ (ap (λ k. out ++ drop k cs) (sym e) ∙ so))

pub ruleset copy_rules = (append-told_copy, told_copies)

-- faults
pub told_fault : (fs : List Found) (i : ℕ) (f : Found) (out new whole : List Fault) → i < length fs → f ≡ get_or fs i f → new ≡ out ++ fault_in f → out ++ flat_map fault_in (drop i fs) ≡ whole → new ++ flat_map fault_in (drop (i + 1) fs) ≡ whole
told_fault fs i f out new whole lt at en so =
    let rest = flat_map fault_in (drop (i + 1) fs) in
    ap (λ ys. ys ++ rest) en ∙ (append_assoc out (fault_in f) rest ∙ (ap (λ gs. out ++ flat_map fault_in gs) (sym (drop-from_here fs i f lt at)) ∙ so))

pub told_faults : (fs : List Found) (i : ℕ) (out whole : List Fault) → i ≡ length fs → out ++ flat_map fault_in (drop i fs) ≡ whole → out ≡ whole
told_faults fs i out whole e so =
    sym (append-nil out) ∙ (ap (λ gs. out ++ flat_map fault_in gs) (sym (drop-length fs)) ∙ (ap (λ k. out ++ flat_map fault_in (drop k fs)) (sym e) ∙ so))

pub ruleset fault_rules = (told_fault, told_faults)
