-- What the code of `it` tells.
use Rattle.std.proofs.Common.{◌≡◌, ◌∙◌, ℕ, List, [], ◌∷◌, ◌++◌, length, take, refl, ap, Option, Some}
use Rattle.mz_logic.specs.Term.{Term}
use Rattle.mz_core.specs.declared.soft_type.SoftType.{SoftType}
use Rattle.mz_context.specs.declared.constants.Constant.{Constant}
use Rattle.mz_context.specs.declared.context.Context.{Context}
use Rattle.mz_meanings.specs.It.{it_constant, with_it, without_it}

take_back : (ks : List (Option Constant)) (o : Option Constant) → take (length ks) (ks ++ o ∷ []) ≡ ks
take_back [] o = refl
take_back (k ∷ ks) o = ap (λ js. k ∷ js) (take_back ks o)

taken_back : (c : Context) (ty : SoftType) → without_it (with_it c ty) (length c.constants) c.it ≡ c
taken_back c ty = ap (λ ks. record c { constants = ks }) (take_back c.constants (Some (it_constant ty)))

pub told_back : (c d u v : Context) (ty : SoftType) (places : ℕ) (before : Option Term) → places ≡ length c.constants → d ≡ with_it c ty → before ≡ c.it → u ≡ d → v ≡ without_it u places before → v ≡ c
told_back c d u v ty places before ep ed eb eu ev =
    ev ∙ (ap (λ (x : Context). without_it x places before) (eu ∙ ed) ∙ (ap (λ n. without_it (with_it c ty) n before) ep ∙ (ap (λ i. without_it (with_it c ty) (length c.constants) i) eb ∙ taken_back c ty)))
