-- Formulas are the same exactly where they have one normal form.
use Rattle.std.proofs.Common.{◌≡◌, refl, sym, ap, ◌∙◌, subst}
use Rattle.mz_logic.specs.Formula.{Formula, Truth, Eq, Atom, Not, And, All}
use Rattle.mz_logic.specs.Negation.{negated}
use Rattle.mz_logic.specs.Same.{IsSame, itself, exchanged, chained, not_twice, regrouped, negation, conjuncts, body, grouped, normal_form}
use Rattle.mz_logic.proofs.SameLemmas.{grouped_assoc, normal_form_twice}

same_grouped : (f h : Formula) → IsSame (And f h) (grouped f h)
same_grouped Truth h = itself (And Truth h)
same_grouped (Eq t u) h = itself (And (Eq t u) h)
same_grouped (Atom s ts) h = itself (And (Atom s ts) h)
same_grouped (Not f) h = itself (And (Not f) h)
same_grouped (And f g) h = chained (And (And f g) h) (And f (And g h)) (And f (grouped g h)) (regrouped f g h) (conjuncts f (And g h) f (grouped g h) (itself f) (same_grouped g h))
same_grouped (All f) h = itself (And (All f) h)

same_negated : (f : Formula) → IsSame (Not f) (negated f)
same_negated Truth = itself (Not Truth)
same_negated (Eq t u) = itself (Not (Eq t u))
same_negated (Atom s ts) = itself (Not (Atom s ts))
same_negated (Not f) = not_twice f
same_negated (And f g) = itself (Not (And f g))
same_negated (All f) = itself (Not (All f))

pub same_normal_form : (f : Formula) → IsSame f (normal_form f)
same_normal_form Truth = itself Truth
same_normal_form (Eq t u) = itself (Eq t u)
same_normal_form (Atom s ts) = itself (Atom s ts)
same_normal_form (Not f) = chained (Not f) (Not (normal_form f)) (negated (normal_form f)) (negation f (normal_form f) (same_normal_form f)) (same_negated (normal_form f))
same_normal_form (And f g) = chained (And f g) (And (normal_form f) (normal_form g)) (grouped (normal_form f) (normal_form g)) (conjuncts f g (normal_form f) (normal_form g) (same_normal_form f) (same_normal_form g)) (same_grouped (normal_form f) (normal_form g))
same_normal_form (All f) = body f (normal_form f) (same_normal_form f)

pub normal_form-IsSame : {f g : Formula} → IsSame f g → normal_form f ≡ normal_form g
normal_form-IsSame (itself f) = refl
normal_form-IsSame (exchanged h k s) = sym (normal_form-IsSame s)
normal_form-IsSame (chained h k l s r) = normal_form-IsSame s ∙ normal_form-IsSame r
normal_form-IsSame (not_twice h) = normal_form_twice h
normal_form-IsSame (regrouped h k l) = grouped_assoc (normal_form h) (normal_form k) (normal_form l)
normal_form-IsSame (negation h k s) = ap negated (normal_form-IsSame s)
normal_form-IsSame (conjuncts h k l m s r) = λ i. grouped (normal_form-IsSame s i) (normal_form-IsSame r i)
normal_form-IsSame (body h k s) = ap All (normal_form-IsSame s)

pub IsSame-normal_form : (f g : Formula) → normal_form f ≡ normal_form g → IsSame f g
IsSame-normal_form f g e = chained f (normal_form g) g (subst (IsSame f) e (same_normal_form f)) (exchanged g (normal_form g) (same_normal_form g))

pub ruleset relation_rules = (normal_form-IsSame, IsSame-normal_form)
