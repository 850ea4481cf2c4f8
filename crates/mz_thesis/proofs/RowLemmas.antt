-- What the code of rows tells.
use Rattle.std.proofs.Common.{◌≡◌, ℕ, List, [], ◌∷◌, refl, sym, ap, ◌∙◌, subst, Bool, true, false, Option, arith, length}
use Rattle.std.specs.Prelude.{◌↔◌, IsTrue, nat_eq}
use Rattle.std.proofs.lemmas.Bool.{eqb-true}
use Rattle.mz_logic.specs.Term.{Term, Const}
use Rattle.mz_logic.specs.declared.literal.Literal.{Literal}
use Rattle.mz_core.specs.Guard.{guard_literals}
use Rattle.mz_core.specs.declared.soft_type.SoftType.{SoftType}
use Rattle.mz_context.specs.Context.{numbers}
use Rattle.mz_context.specs.declared.constants.Constant.{Constant}
use Rattle.mz_ground.specs.declared.clause.Clause.{Clause}
use Rattle.mz_fits.specs.Fits.{AllFit, none_left, TypeFits}
use Rattle.mz_thesis.specs.Rows.{with_fresh, FitsFresh}

asked : (ks : List (Option Constant)) (ty : SoftType) (t : Term) (ls : List Literal) → t ≡ Const (numbers ks) → ls ≡ guard_literals ty t → ls ≡ guard_literals ty (Const (numbers ks))
asked ks ty t ls et el = el ∙ ap (guard_literals ty) et

none_of : (ls : List Literal) (n : ℕ) → n ≡ length ls → nat_eq n 0 ≡ true → ls ≡ []
none_of [] n e h = refl
none_of (l ∷ ls) n e h = let z : n ≡ 0 = eqb-true n 0 h in absurd (omega (arith, e, z))

pub told_nothing : (cs : List Clause) (ks : List (Option Constant)) (known ty : SoftType) (t : Term) (ls : List Literal) (n : ℕ) → t ≡ Const (numbers ks) → ls ≡ guard_literals ty t → n ≡ length ls → nat_eq n 0 ≡ true → IsTrue true ↔ FitsFresh cs ks known ty
unfolding TypeFits
told_nothing cs ks known ty t ls n et el en h =
    (λ x. subst (AllFit cs (with_fresh ks known)) (sym (none_of ls n en h) ∙ asked ks ty t ls et el) none_left, λ k. refl)

pub told_fresh : (cs : List Clause) (ks more : List (Option Constant)) (known ty : SoftType) (t : Term) (ls ms : List Literal) (b : Bool) → t ≡ Const (numbers ks) → ls ≡ guard_literals ty t → ms ≡ ls → more ≡ with_fresh ks known → IsTrue b ↔ AllFit cs more ms → IsTrue b ↔ FitsFresh cs ks known ty
unfolding TypeFits
told_fresh cs ks more known ty t ls ms b et el em same i =
    subst (λ xs. IsTrue b ↔ AllFit cs (with_fresh ks known) xs) (em ∙ asked ks ty t ls et el) (subst (λ xs. IsTrue b ↔ AllFit cs xs ms) same i)

pub ruleset fresh_rules = (told_nothing, told_fresh)
