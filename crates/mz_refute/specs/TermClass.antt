-- The class of a ground term by its place.
use Rattle.std.specs.Prelude.{ℕ, Bool, true, false, ◌&&◌, nat_eq, List, [], ◌∷◌, if◌then◌else◌}
use Rattle.mz_logic.specs.Sym.{same_sym}
use Rattle.mz_logic.specs.Term.{Term, Terms, Bound, Const, App, none, more}

-- two terms are one
abbrev mutual
  pub same_term : Term → Term → Bool
  same_term (Bound m) (Bound n) = nat_eq m n
  same_term (Bound m) (Const n) = false
  same_term (Bound m) (App s us) = false
  same_term (Const m) (Bound n) = false
  same_term (Const m) (Const n) = nat_eq m n
  same_term (Const m) (App s us) = false
  same_term (App r ts) (Bound n) = false
  same_term (App r ts) (Const n) = false
  same_term (App r ts) (App s us) = same_sym r s && same_terms ts us

  pub same_terms : Terms → Terms → Bool
  same_terms none none = true
  same_terms none (more u us) = false
  same_terms (more t ts) none = false
  same_terms (more t ts) (more u us) = same_term t u && same_terms ts us

-- the class of a term that stands among the terms
abbrev pub class_in : List Term → List ℕ → Term → ℕ
class_in [] vs t = 0
class_in (u ∷ us) [] t = 0
class_in (u ∷ us) (v ∷ vs) t = if same_term u t then v else class_in us vs t
