-- The row of an application.
use Rattle.std.proofs.Common.{◌≡◌, List, [], ◌∷◌, length, refl, sym, ap, ◌∙◌, true}
use Rattle.std.specs.Prelude.{Some}
use Rattle.mz_logic.specs.declared.sym.Sym.{Sym}
use Rattle.mz_logic.specs.Term as term
use Rattle.mz_logic.specs.Term.{App, list_of, terms_of}
use Rattle.mz_core.specs.declared.soft_type.SoftType.{SoftType}
use Rattle.mz_ground.specs.Variables.{has_all_below}
use Rattle.mz_ground.specs.declared.trigger.Trigger.TheVariants.{Term}
use Rattle.mz_environment.specs.declared.rows.Row.{Row}
use Rattle.mz_environment.specs.Rows.{row, row_where, redefined_functor_rows}

list_back : (ts : List term.Term) → list_of (terms_of ts) ≡ ts
list_back [] = refl
list_back (t ∷ ts) = ap (λ us. t ∷ us) (list_back ts)

pub told_row : (loci : List SoftType) (s : Sym) (ts : List term.Term) (ty : SoftType) (t : term.Term) (rs : List Row) → t ≡ App s (terms_of ts) → has_all_below (length loci) (Term t) ≡ true → rs ≡ row loci s ts ty ∷ [] → rs ≡ redefined_functor_rows loci t (Some ty)
told_row loci s ts ty t rs e h is =
    let all : has_all_below (length loci) (Term (App s (terms_of ts))) ≡ true = ap (λ u. has_all_below (length loci) (Term u)) (sym e) ∙ h in
    is ∙ sym (ap (λ u. redefined_functor_rows loci u (Some ty)) e ∙ (λ i. row_where (all i) (row loci s (list_back ts i) ty)))
