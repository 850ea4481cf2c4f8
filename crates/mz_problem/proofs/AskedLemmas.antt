-- What the code of problems tells.
use Rattle.std.proofs.Common.{◌≡◌, ℕ, List, [], ◌++◌, refl, sym, ap, ◌∙◌, subst, Bool, true, false, Option, Result}
use Rattle.std.specs.Prelude.{IfOk}
use Rattle.std.proofs.lemmas.Result.{IfOk-weaker}
use Rattle.mz_logic.specs.declared.literal.Literal.{Literal}
use Rattle.mz_core.specs.Statement.{Statement}
use Rattle.mz_core.specs.declared.soft_type.SoftType.{SoftType}
use Rattle.mz_context.specs.Context.{numbers}
use Rattle.mz_context.specs.declared.constants.Constant.{Constant}
use Rattle.mz_ground.specs.declared.clause.Clause.{Clause}
use Rattle.mz_environment.specs.declared.unfoldings.Unfolding.{Unfolding}
use Rattle.mz_nf.specs.declared.problem.Problem.{Problem}
use Rattle.mz_problem.specs.Opened.{is_universal, Opens, as_it_is, with_all_fresh, guards_from}
use Rattle.mz_problem.specs.Definientia.{AllAdd}
use Rattle.mz_problem.specs.Asked.{known_in, formulas_of, parts_of, problem_of, AskedAt, with_added, Asks, asks}
use Rattle.mz_problem.proofs.OpenedLemmas.{IsOpened}

pub told_opened : (cs : List Clause) (ks all0 all : List (Option Constant)) (us : List Unfolding) (given : List Statement) (known fresh : List Literal) (none0 tys : List SoftType) (n : ℕ) (s t : Statement) (p : Problem) → known ≡ known_in ks (formulas_of given s) → n ≡ numbers ks → all0 ≡ ks → none0 ≡ [] → IsOpened all0 all none0 tys s t → fresh ≡ guards_from n tys → AskedAt cs all us given known fresh t p → Asks cs ks us given s p
told_opened cs ks all0 all us given known fresh none0 tys n s t p ek en ea e0 h ef a =
    let types : tys ≡ h.0 = h.2 ∙ ap (λ xs. xs ++ h.0) e0 in
    let o : Opens ks s h.0 t = subst (λ (xs : List (Option Constant)). Opens xs s h.0 t) ea h.1 in
    let all' : all ≡ with_all_fresh ks h.0 = h.3 ∙ ap (λ xs. with_all_fresh xs h.0) ea in
    let fresh' : fresh ≡ guards_from (numbers ks) h.0 = ef ∙ (λ i. guards_from (en i) (types i)) in
    asks h.0 t o
    (subst (λ (xs : List (Option Constant)). AskedAt cs xs us given (known_in ks (formulas_of given s)) (guards_from (numbers ks) h.0) t p) all'
    (subst (λ (ls : List Literal). AskedAt cs all us given ls (guards_from (numbers ks) h.0) t p) ek (subst (λ (ls : List Literal). AskedAt cs all us given known ls t p) fresh' a)))

pub told_as_it_is : (cs : List Clause) (ks : List (Option Constant)) (us : List Unfolding) (given : List Statement) (known fresh : List Literal) (b : Bool) (s : Statement) (p : Problem) → known ≡ known_in ks (formulas_of given s) → b ≡ is_universal s → b ≡ false → fresh ≡ [] → AskedAt cs ks us given known fresh s p → Asks cs ks us given s p
told_as_it_is cs ks us given known fresh b s p ek eb h ef a =
    asks [] s (as_it_is ks s (sym eb ∙ h))
    (subst (λ (ls : List Literal). AskedAt cs ks us given ls [] s p) ek (subst (λ (ls : List Literal). AskedAt cs ks us given known ls s p) ef a))

-- the same of what a last call returns
pub ok_asked_at : {E : Type 0} (r : Result Problem E) (cs : List Clause) (ks : List (Option Constant)) (us : List Unfolding) (given : List Statement) (known fresh : List Literal) (t : Statement) (ps added : List Statement) → ps ≡ parts_of given known fresh t → AllAdd cs ks us ps added → IfOk r (λ p. p ≡ problem_of given known added fresh t) → IfOk r (AskedAt cs ks us given known fresh t)
ok_asked_at r cs ks us given known fresh t ps added e h ok =
    IfOk-weaker r (λ p. p ≡ problem_of given known added fresh t) (AskedAt cs ks us given known fresh t)
    (λ p same. subst (AskedAt cs ks us given known fresh t) (sym same) (with_added added (subst (λ qs. AllAdd cs ks us qs added) e h))) ok

pub ok_opened : {E : Type 0} (r : Result Problem E) (cs : List Clause) (ks all0 all : List (Option Constant)) (us : List Unfolding) (given : List Statement) (known fresh : List Literal) (none0 tys : List SoftType) (n : ℕ) (s t : Statement) → known ≡ known_in ks (formulas_of given s) → n ≡ numbers ks → all0 ≡ ks → none0 ≡ [] → IsOpened all0 all none0 tys s t → fresh ≡ guards_from n tys → IfOk r (AskedAt cs all us given known fresh t) → IfOk r (Asks cs ks us given s)
ok_opened r cs ks all0 all us given known fresh none0 tys n s t ek en ea e0 h ef ok =
    IfOk-weaker r (AskedAt cs all us given known fresh t) (Asks cs ks us given s) (λ p a. told_opened cs ks all0 all us given known fresh none0 tys n s t p ek en ea e0 h ef a) ok

pub ok_as_it_is : {E : Type 0} (r : Result Problem E) (cs : List Clause) (ks : List (Option Constant)) (us : List Unfolding) (given : List Statement) (known fresh : List Literal) (b : Bool) (s : Statement) → known ≡ known_in ks (formulas_of given s) → b ≡ is_universal s → b ≡ false → fresh ≡ [] → IfOk r (AskedAt cs ks us given known fresh s) → IfOk r (Asks cs ks us given s)
ok_as_it_is r cs ks us given known fresh b s ek eb h ef ok =
    IfOk-weaker r (AskedAt cs ks us given known fresh s) (Asks cs ks us given s) (λ p a. told_as_it_is cs ks us given known fresh b s p ek eb h ef a) ok
