-- Formulas with a sign, without double negations.
use Rattle.std.proofs.Common.{◌≡◌, List, refl, sym, subst, Bool, true, false}
use Rattle.std.specs.Prelude.{not}
use Rattle.mz_logic.specs.Negation.{negated}
use Rattle.mz_logic.specs.Formula.{Formula, Truth, Eq, Atom, Not, And, All}
use Rattle.mz_logic.specs.declared.disjunct.Disjunct.{Disjunct}
use Rattle.mz_ground.specs.declared.clause.Clause.{Clause}
use Rattle.mz_refute.specs.EqualModuloFacts.{plain, FormulasEqualModuloFacts, truths, equations, atoms, negations, conjunctions, universals}

abbrev pub signed_as : Bool → Formula → Formula
signed_as true f = f
signed_as false f = negated f

abbrev pub signed_plain : Bool → Formula → Formula
signed_plain p f = signed_as p (plain f)

-- no negation
abbrev pub IsHead : Formula → Type 0
IsHead Truth = Unit {0}
IsHead (Eq t u) = Unit {0}
IsHead (Atom s ts) = Unit {0}
IsHead (Not f) = ⊥
IsHead (And f g) = Unit {0}
IsHead (All f) = Unit {0}

-- no double negation at the top
abbrev IsSingle : Formula → Type 0
IsSingle Truth = Unit {0}
IsSingle (Eq t u) = Unit {0}
IsSingle (Atom s ts) = Unit {0}
IsSingle (Not f) = IsHead f
IsSingle (And f g) = Unit {0}
IsSingle (All f) = Unit {0}

head_single : (f : Formula) → IsHead f → IsSingle f
head_single Truth h = tt
head_single (Eq t u) h = tt
head_single (Atom s ts) h = tt
head_single (Not f) h = absurd h
head_single (And f g) h = tt
head_single (All f) h = tt

negated_single : (f : Formula) → IsSingle f → IsSingle (negated f)
negated_single Truth h = tt
negated_single (Eq t u) h = tt
negated_single (Atom s ts) h = tt
negated_single (Not f) h = head_single f h
negated_single (And f g) h = tt
negated_single (All f) h = tt

plain_single : (f : Formula) → IsSingle (plain f)
plain_single Truth = tt
plain_single (Eq t u) = tt
plain_single (Atom s ts) = tt
plain_single (Not f) = negated_single (plain f) (plain_single f)
plain_single (And f g) = tt
plain_single (All f) = tt

pub negated_head : (f : Formula) → IsHead f → negated f ≡ Not f
negated_head Truth h = refl
negated_head (Eq t u) h = refl
negated_head (Atom s ts) h = refl
negated_head (Not f) h = absurd h
negated_head (And f g) h = refl
negated_head (All f) h = refl

negated_twice : (f : Formula) → IsSingle f → negated (negated f) ≡ f
negated_twice Truth h = refl
negated_twice (Eq t u) h = refl
negated_twice (Atom s ts) h = refl
negated_twice (Not f) h = negated_head f h
negated_twice (And f g) h = refl
negated_twice (All f) h = refl

pub signed_not : (p : Bool) (f : Formula) → signed_plain p (Not f) ≡ signed_plain (not p) f
signed_not true f = refl
signed_not false f = negated_twice (plain f) (plain_single f)

pub are_congruent_signed : (d : Disjunct) (cs : List Clause) (p q : Bool) (x y : Formula) → IsHead x → IsHead y → p ≡ q → FormulasEqualModuloFacts d cs x y → FormulasEqualModuloFacts d cs (signed_as p x) (signed_as q y)
are_congruent_signed d cs true true x y a b e h = h
are_congruent_signed d cs true false x y a b e h = cc
are_congruent_signed d cs false true x y a b e h = cc
are_congruent_signed d cs false false x y a b e h =
    subst (λ (z : Formula). FormulasEqualModuloFacts d cs z (negated y)) (sym (negated_head x a)) (subst (λ (z : Formula). FormulasEqualModuloFacts d cs (Not x) z) (sym (negated_head y b)) (negations x y h))

-- a negation is congruent to negations only
heads_alike : (d : Disjunct) (cs : List Clause) (x y : Formula) → FormulasEqualModuloFacts d cs x y → (IsHead x → IsHead y) × (IsHead y → IsHead x)
heads_alike d cs x y truths = (λ a. a, λ a. a)
heads_alike d cs x y (equations t u v w h k) = (λ a. a, λ a. a)
heads_alike d cs x y (atoms s ts us h) = (λ a. a, λ a. a)
heads_alike d cs x y (negations f g h) = (λ a. a, λ a. a)
heads_alike d cs x y (conjunctions f g h k a c) = (λ a. a, λ a. a)
heads_alike d cs x y (universals f g h) = (λ a. a, λ a. a)

both_not : (d : Disjunct) (cs : List Clause) (x y : Formula) → FormulasEqualModuloFacts d cs (Not x) (Not y) → FormulasEqualModuloFacts d cs x y
both_not d cs x y (negations f g h) = h

pub signed_parts : (d : Disjunct) (cs : List Clause) (p q : Bool) (x y : Formula) → IsHead x → IsHead y → FormulasEqualModuloFacts d cs (signed_as p x) (signed_as q y) → (p ≡ q) × FormulasEqualModuloFacts d cs x y
signed_parts d cs true true x y a b h = (refl, h)
signed_parts d cs true false x y a b h = absurd (subst (λ (z : Formula). IsHead z) (negated_head y b) ((heads_alike d cs x (negated y) h).0 a))
signed_parts d cs false true x y a b h = absurd (subst (λ (z : Formula). IsHead z) (negated_head x a) ((heads_alike d cs (negated x) y h).1 b))
signed_parts d cs false false x y a b h =
    (refl, both_not d cs x y (subst (λ (z : Formula). FormulasEqualModuloFacts d cs (Not x) z) (negated_head y b) (subst (λ (z : Formula). FormulasEqualModuloFacts d cs z (negated y)) (negated_head x a) h)))
