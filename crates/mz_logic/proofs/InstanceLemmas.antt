-- Arguments as a list.
use Rattle.std.proofs.Common.{◌≡◌, List, [], ◌∷◌, map, refl, ap}
use Rattle.mz_logic.specs.Term.{Term, terms_of, list_of}
use Rattle.mz_logic.specs.declared.letters.Letter.{Letter}
use Rattle.mz_logic.specs.Instance.{term_instance, args_instance}

pub args_instance-terms_of : (ls : List Letter) (ts : List Term) → list_of (args_instance ls (terms_of ts)) ≡ map (term_instance ls) ts
args_instance-terms_of ls [] = refl
args_instance-terms_of ls (t ∷ ts) = ap (λ us. term_instance ls t ∷ us) (args_instance-terms_of ls ts)

pub ruleset inst_rules = (args_instance-terms_of)
