-- Variables put into force one after another.
use Rattle.std.proofs.Common.{◌≡◌, ◌<◌, ◌+◌, ℕ, zero, suc, List, [], ◌∷◌, ◌++◌, refl, sym, ap, ◌∙◌, arith, add-one, length, take, get_or}
use Rattle.mz_context.specs.Changes.{with_constant}
use Rattle.mz_context.specs.declared.context.Context.{Context}
use Rattle.mz_names.specs.Closing.{constant_of, with_variables}
use Rattle.mz_names.specs.declared.variable.Variable.{Variable}

pub with_variables-append : (c : Context) (xs ys : List Variable) → with_variables c (xs ++ ys) ≡ with_variables (with_variables c xs) ys
with_variables-append c [] ys = refl
with_variables-append c (x ∷ xs) ys = with_variables-append (with_constant c (constant_of x)) xs ys

take_more : (vs : List Variable) (i : ℕ) (v : Variable) → i < length vs → v ≡ get_or vs i v → take (suc i) vs ≡ take i vs ++ v ∷ []
take_more [] i v lt e = absurd (omega (arith, lt))
take_more (x ∷ xs) zero v lt e = ap (λ z. z ∷ []) (sym e)
take_more (x ∷ xs) (suc i) v lt e = ap (λ zs. x ∷ zs) (take_more xs i v (omega (arith, lt)) e)

pub told_put : (first before now : Context) (vs : List Variable) (i : ℕ) (v : Variable) → i < length vs → v ≡ get_or vs i v → before ≡ with_variables first (take i vs) → now ≡ with_constant before (constant_of v) → now ≡ with_variables first (take (i + 1) vs)
told_put first before now vs i v lt e h k =
    k ∙ ap (λ c. with_constant c (constant_of v)) h ∙
    sym (with_variables-append first (take i vs) (v ∷ [])) ∙
    ap (with_variables first) (sym (take_more vs i v lt e) ∙ ap (λ n. take n vs) (sym (add-one i)))

pub ruleset put_rules = (told_put)
