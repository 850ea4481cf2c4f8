-- What the code of closed notations tells.
use Rattle.std.proofs.Common.{◌≡◌, ◌∙◌, ℕ, Bool, List, [], ◌∷◌, refl, sym, ap}
use Rattle.std.specs.Prelude.{◌&&◌}
use Rattle.std.specs.List.{list_all}
use Rattle.mz_logic.specs.Term.{Term, terms_of}
use Rattle.mz_core.specs.Closed.{term_under, args_under}

args_all : (n : ℕ) (ts : List Term) → args_under n (terms_of ts) ≡ list_all (term_under n) ts
args_all n [] = refl
args_all n (t ∷ ts) = ap (λ b. term_under n t && b) (args_all n ts)

pub told_args : (n : ℕ) (ts : List Term) (b : Bool) → b ≡ list_all (term_under n) ts → b ≡ args_under n (terms_of ts)
told_args n ts b e = e ∙ sym (args_all n ts)
