-- What the code of opening tells.
use Rattle.std.proofs.Common.{◌≡◌, ◌<◌, ◌+◌, ℕ, zero, suc, List, [], ◌∷◌, ◌++◌, refl, sym, ap, ◌∙◌, subst, Bool, true, false, arith, append_assoc, Option, Result}
use Rattle.std.proofs.lemmas.List.{append-nil}
use Rattle.std.proofs.lemmas.Result.{IfOk-weaker}
use Rattle.std.specs.Prelude.{IfOk}
use Rattle.mz_logic.specs.Term.{Term, Const}
use Rattle.mz_logic.specs.Substitution.{value_at}
use Rattle.mz_core.specs.Statement.{Statement, Truth, Eq, Atom, Not, And, For}
use Rattle.mz_core.specs.TypeSubstitution.{substitute_statement, statement_at}
use Rattle.mz_core.specs.declared.soft_type.SoftType.{SoftType}
use Rattle.mz_context.specs.Context.{numbers}
use Rattle.mz_context.specs.declared.constants.Constant.{Constant}
use Rattle.mz_thesis.specs.Rows.{with_fresh}
use Rattle.mz_problem.specs.Opened.{is_universal, Opens, as_it_is, at_constant, with_all_fresh}

-- how many leading quantifiers there are
abbrev pub leading : Statement → ℕ
leading Truth = 0
leading (Eq t u) = 0
leading (Atom s ts) = 0
leading (Not s) = 0
leading (And s t) = 0
leading (For ty s) = suc (leading s)

leading_under : (s : Statement) (d : ℕ) (v : ℕ → Term) → leading (substitute_statement d v s) ≡ leading s
leading_under Truth d v = refl
leading_under (Eq t u) d v = refl
leading_under (Atom s ts) d v = refl
leading_under (Not s) d v = refl
leading_under (And s t) d v = refl
leading_under (For ty s) d v = ap suc (leading_under s (d + 1) v)

fewer : (ty : SoftType) (s at : Statement) (t : Term) → at ≡ statement_at s t → leading at < leading (For ty s)
fewer ty s at t e = let p : leading at ≡ leading s = ap leading e ∙ leading_under s 0 (value_at (t ∷ [])) in omega (arith, p)

-- what is opened, with the fresh constants and their types behind the others
abbrev pub IsOpened : List (Option Constant) → List (Option Constant) → List SoftType → List SoftType → Statement → Statement → Type 0
IsOpened ks ls old new s t = (tys : List SoftType) × Opens ks s tys t × (new ≡ old ++ tys) × (ls ≡ with_all_fresh ks tys)

pub told_as_it_is : (ks : List (Option Constant)) (old : List SoftType) (s t : Statement) → t ≡ s → is_universal s ≡ false → IsOpened ks ks old old s t
told_as_it_is ks old s t e h = ([], subst (Opens ks s []) (sym e) (as_it_is ks s h), sym (append-nil old), refl)

pub told_shorter : (whole body inner at : Statement) (ty : SoftType) (t : Term) → whole ≡ For ty inner → body ≡ inner → at ≡ statement_at body t → leading at < leading whole
told_shorter whole body inner at ty t ew eb ea =
    let lt : leading at < leading (For ty body) = fewer ty body at t ea in
    let same : leading whole ≡ leading (For ty body) = ap leading ew ∙ ap (λ s. leading (For ty s)) (sym eb) in
    omega (arith, lt, same)

at_constant_more : (ks ks1 ls : List (Option Constant)) (old old1 new : List SoftType) (ty : SoftType) (s at t : Statement) → at ≡ statement_at s (Const (numbers ks)) → ks1 ≡ with_fresh ks ty → old1 ≡ old ++ ty ∷ [] → IsOpened ks1 ls old1 new at t → IsOpened ks ls old new (For ty s) t
at_constant_more ks ks1 ls old old1 new ty s at t ea ek eo h =
    let o : Opens (with_fresh ks ty) (statement_at s (Const (numbers ks))) h.0 t = subst (λ (x : Statement). Opens (with_fresh ks ty) x h.0 t) ea (subst (λ (xs : List (Option Constant)). Opens xs at h.0 t) ek h.1) in
    (ty ∷ h.0, at_constant ks ty h.0 s t o, h.2 ∙ (ap (λ xs. xs ++ h.0) eo ∙ append_assoc old (ty ∷ []) h.0), h.3 ∙ ap (λ xs. with_all_fresh xs h.0) ek)

pub told_at_constant : {E : Type 0} (r : Result Statement E) (ks ks1 ls : List (Option Constant)) (old old1 new : List SoftType) (ty : SoftType) (whole body inner at : Statement) → whole ≡ For ty inner → body ≡ inner → at ≡ statement_at body (Const (numbers ks)) → ks1 ≡ with_fresh ks ty → old1 ≡ old ++ ty ∷ [] → IfOk r (IsOpened ks1 ls old1 new at) → IfOk r (IsOpened ks ls old new whole)
told_at_constant r ks ks1 ls old old1 new ty whole body inner at ew eb ea ek eo h =
    IfOk-weaker r (IsOpened ks1 ls old1 new at) (IsOpened ks ls old new whole)
    (λ t o. subst (λ x. IsOpened ks ls old new x t) (ap (For ty) eb ∙ sym ew) (at_constant_more ks ks1 ls old old1 new ty body at t ea ek eo o)) h

pub ruleset open_rules = (told_as_it_is)
