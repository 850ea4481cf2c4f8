-- Symbols of arguments.
use Rattle.std.proofs.Common.{◌≡◌, List, [], ◌∷◌, refl, ap}
use Rattle.std.specs.Prelude.{◌&&◌}
use Rattle.std.specs.List.{list_all}
use Rattle.mz_base.specs.declared.name.Name.{Name}
use Rattle.mz_logic.specs.Term.{Term, terms_of}
use Rattle.mz_env.specs.Symbols.{term_in, args_in}

pub args_in-terms_of : (articles : List Name) (ts : List Term) → args_in articles (terms_of ts) ≡ list_all (term_in articles) ts
args_in-terms_of articles [] = refl
args_in-terms_of articles (t ∷ ts) = ap (λ b. term_in articles t && b) (args_in-terms_of articles ts)

pub ruleset args_in_rules = (args_in-terms_of)
