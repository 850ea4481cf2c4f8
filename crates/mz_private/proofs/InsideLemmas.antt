-- What the code of the context of a body tells.
use Rattle.std.proofs.Common.{◌≡◌, ◌+◌, ℕ, suc, List, [], ◌∷◌, ◌++◌, length, map, refl, sym, ap, ◌∙◌, subst, arith}
use Rattle.std.proofs.lemmas.List.{append-nil, append_assoc}
use Rattle.mz_logic.specs.Term.{Term, Const}
use Rattle.mz_core.specs.declared.soft_type.SoftType.{SoftType}
use Rattle.mz_context.specs.Context.{next}
use Rattle.mz_context.specs.declared.context.Context.{Context}
use Rattle.mz_names.specs.Closing.{constant_of, with_variables}
use Rattle.mz_names.specs.declared.variable.Variable.{Variable}
use Rattle.mz_context.specs.Changes.{with_constant}
use Rattle.mz_fits.proofs.FitLemmas.{empty}
use Rattle.mz_choice.specs.Fresh.{keeping, Grown}
use Rattle.mz_choice.proofs.CoverLemmas.{told_left, grown_itself, grown_more, grown_by}
use Rattle.mz_private.specs.Private.{place_of, constants_of, inside}

-- the constants
pub told_constants_turn : (n more : ℕ) (rest others : List SoftType) (ty : SoftType) (out longer goal : List Term) → rest ≡ ty ∷ others → longer ≡ out ++ Const n ∷ [] → more ≡ n + 1 → out ++ constants_of n rest ≡ goal → longer ++ constants_of more others ≡ goal
told_constants_turn n more rest others ty out longer goal er el em h =
    let one : more ≡ suc n = omega (arith, em) in
    ap (λ xs. xs ++ constants_of more others) el ∙ (ap (λ m. (out ++ Const n ∷ []) ++ constants_of m others) one ∙ (append_assoc out (Const n ∷ []) (constants_of (suc n) others) ∙ (ap (λ tys. out ++ constants_of n tys) (sym er) ∙ h)))

pub told_constants_end : (n : ℕ) (rest : List SoftType) (out goal : List Term) → length rest ≡ 0 → out ++ constants_of n rest ≡ goal → out ≡ goal
told_constants_end n rest out goal e h = sym (append-nil out) ∙ (ap (λ tys. out ++ constants_of n tys) (sym (empty rest e)) ∙ h)

pub ruleset constant_rules = (told_constants_turn, told_constants_end)

-- the context
pub told_inside : (c d f : Context) (n : ℕ) (tys us vs : List SoftType) (ts : List Term) → n ≡ next c → us ≡ tys → vs ≡ tys → ts ≡ constants_of n us → d ≡ with_variables c (map place_of vs) → f ≡ record d { arguments = ts } → f ≡ inside c tys
told_inside c d f n tys us vs ts en eu ev et ed ef =
    ef ∙ (ap (λ (x : Context). record x { arguments = ts }) (ed ∙ ap (λ ys. with_variables c (map place_of ys)) ev) ∙ ap (λ xs. record (with_variables c (map place_of tys)) { arguments = xs }) (et ∙ (ap (λ m. constants_of m us) en ∙ ap (constants_of (next c)) eu)))

variables_arguments : (c : Context) (vs : List Variable) → (with_variables c vs).arguments ≡ c.arguments
variables_arguments c [] = refl
variables_arguments c (v ∷ vs) = variables_arguments (with_constant c (constant_of v)) vs

pub told_before : (c d : Context) (vs : List Variable) (ts : List Term) → d ≡ with_variables c vs → ts ≡ d.arguments → ts ≡ c.arguments
told_before c d vs ts ed et = et ∙ (ap (λ (x : Context). x.arguments) ed ∙ variables_arguments c vs)

pub ruleset enter_rules = (told_inside, told_before)

-- behind it the context is as before
variables_grown : (c : Context) (vs : List Variable) → Grown c (with_variables c vs)
variables_grown c [] = grown_itself c
variables_grown c (v ∷ vs) = grown_more c (with_constant c (constant_of v)) (with_variables (with_constant c (constant_of v)) vs) (grown_by c (with_constant c (constant_of v)) (constant_of v) refl) (variables_grown (with_constant c (constant_of v)) vs)

pub told_outside : (c d f : Context) (tys : List SoftType) (count : ℕ) (ts : List Term) → d ≡ inside c tys → count ≡ length c.constants → ts ≡ c.arguments → f ≡ record (keeping count d) { arguments = ts } → f ≡ c
told_outside c d f tys count ts ed ec et ef =
    let vs : List Variable = map place_of tys in
    let put : Context = with_variables c vs in
    let back : keeping count put ≡ c = told_left c put (keeping count put) count (variables_grown c vs) ec refl in
    ef ∙ (ap (λ (x : Context). record (keeping count x) { arguments = ts }) ed ∙ (ap (λ xs. record (keeping count put) { arguments = xs }) et ∙ ap (λ (x : Context). record x { arguments = c.arguments }) back))
