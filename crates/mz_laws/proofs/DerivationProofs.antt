-- Proofs of the laws of what derives.
use Rattle.std.proofs.Common.{◌≡◌, ℕ, List, [], ◌∷◌, ◌++◌, map, sym, subst, true, false}
use Rattle.std.proofs.lemmas.List.{map-append}
use Rattle.mz_logic.specs.Term.{Term, Const}
use Rattle.mz_logic.specs.Formula as formula
use Rattle.mz_logic.specs.Formula.{Formula}
use Rattle.mz_logic.specs.Indices.{closed}
use Rattle.mz_logic.specs.Constants.{occurs_in_formula}
use Rattle.mz_logic.specs.Substitution.{body_at}
use Rattle.mz_logic.specs.Negation.{negated}
use Rattle.mz_logic.specs.Same.{IsSame, itself, exchanged, not_twice, negation, body}
use Rattle.mz_logic.specs.DerivesFrom.{DerivesFrom, AllDerive, Adjoined}
use Rattle.mz_logic.proofs.SetLaws.{conjunction_in, conjunction_left, conjunction_right, existential_in, existential_out, same_in_set}
use Rattle.mz_core.specs.Statement.{Statement, Truth, Eq, Atom, Not, And, For}
use Rattle.mz_core.specs.Parts.{parts}
use Rattle.mz_core.specs.Erasure.{erase}

-- existentials
negated_same : (b : Formula) → IsSame (negated b) (formula.Not b)
negated_same formula.Truth = itself _
negated_same (formula.Eq t u) = itself _
negated_same (formula.Atom s ts) = itself _
negated_same (formula.Not f) = exchanged (formula.Not (formula.Not f)) f (not_twice f)
negated_same (formula.And f g) = itself _
negated_same (formula.All f) = itself _

existential_same : (b : Formula) → IsSame (formula.Not (formula.All (negated b))) (formula.Not (formula.All (formula.Not b)))
existential_same b = negation _ _ (body _ _ (negated_same b))

pub existential_form_in : (A P : Formula → Type 0) (b : Formula) (t : Term) → closed t ≡ true → DerivesFrom A P (body_at b t) → DerivesFrom A P (formula.Not (formula.All (negated b)))
existential_form_in A P b t ct d =
    same_in_set A P (formula.Not (formula.All (formula.Not b))) (formula.Not (formula.All (negated b))) (exchanged _ _ (existential_same b)) (existential_in A P b t ct d)

pub existential_form_out : (A P : Formula → Type 0) (b g : Formula) (c : ℕ) → ((k : Formula) → P k → occurs_in_formula c k ≡ false) → occurs_in_formula c b ≡ false → occurs_in_formula c g ≡ false → DerivesFrom A P (formula.Not (formula.All (negated b))) → DerivesFrom A (Adjoined P (body_at b (Const c))) g → DerivesFrom A P g
existential_form_out A P b g c apart apart_b apart_g d e =
    existential_out A P b g c apart apart_b apart_g
    (same_in_set A P (formula.Not (formula.All (negated b))) (formula.Not (formula.All (formula.Not b))) (existential_same b) d) e

-- parts
all_derive-append : (A P : Formula → Type 0) (fs gs : List Formula) → AllDerive A P fs → AllDerive A P gs → AllDerive A P (fs ++ gs)
all_derive-append A P [] gs p q = q
all_derive-append A P (f ∷ fs) gs p q = (p.0, all_derive-append A P fs gs p.1 q)

all_derive-front : (A P : Formula → Type 0) (fs gs : List Formula) → AllDerive A P (fs ++ gs) → AllDerive A P fs
all_derive-front A P [] gs p = tt
all_derive-front A P (f ∷ fs) gs p = (p.0, all_derive-front A P fs gs p.1)

all_derive-back : (A P : Formula → Type 0) (fs gs : List Formula) → AllDerive A P (fs ++ gs) → AllDerive A P gs
all_derive-back A P [] gs p = p
all_derive-back A P (f ∷ fs) gs p = all_derive-back A P fs gs p.1

pub parts_derive : (A P : Formula → Type 0) (s : Statement) → DerivesFrom A P (erase s) → AllDerive A P (map erase (parts s))
parts_derive A P Truth d = (d, tt)
parts_derive A P (Eq t u) d = (d, tt)
parts_derive A P (Atom s ts) d = (d, tt)
parts_derive A P (Not s) d = (d, tt)
parts_derive A P (And s t) d =
    subst (AllDerive A P) (sym (map-append erase (parts s) (parts t)))
    (all_derive-append A P (map erase (parts s)) (map erase (parts t))
    (parts_derive A P s (conjunction_left A P (erase s) (erase t) d))
    (parts_derive A P t (conjunction_right A P (erase s) (erase t) d)))
parts_derive A P (For ty s) d = (d, tt)

pub derive_parts : (A P : Formula → Type 0) (s : Statement) → AllDerive A P (map erase (parts s)) → DerivesFrom A P (erase s)
derive_parts A P Truth p = p.0
derive_parts A P (Eq t u) p = p.0
derive_parts A P (Atom s ts) p = p.0
derive_parts A P (Not s) p = p.0
derive_parts A P (And s t) p =
    let both : AllDerive A P (map erase (parts s) ++ map erase (parts t)) = subst (AllDerive A P) (map-append erase (parts s) (parts t)) p in
    conjunction_in A P (erase s) (erase t)
    (derive_parts A P s (all_derive-front A P (map erase (parts s)) (map erase (parts t)) both))
    (derive_parts A P t (all_derive-back A P (map erase (parts s)) (map erase (parts t)) both))
derive_parts A P (For ty s) p = p.0
