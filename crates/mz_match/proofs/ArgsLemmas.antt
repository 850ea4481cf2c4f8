-- Lists of arguments whose lengths differ.
use Rattle.std.proofs.Common.{◌≡◌, ℕ, List, [], ◌∷◌, length, refl, arith, ap}
use Rattle.std.specs.Prelude.{◌&&◌}
use Rattle.std.specs.List.{list_all}
use Rattle.mz_logic.specs.Indices.{is_below, args_below}
use Rattle.mz_logic.specs.Term.{Term, terms_of}
use Rattle.mz_match.specs.declared.table.Table.{Table}
use Rattle.mz_match.specs.Slots.{Assignment}
use Rattle.mz_match.specs.Matches.{match_args, match_term, congruent_args, congruent_term}

pub match_args-no_values : (table : Table) (depth : ℕ) (ts : List Term) (vs : List ℕ) (es : List Assignment) → (length ts ≡ length vs → ⊥) → match_args table depth (terms_of ts) vs es ≡ []
match_args-no_values table depth [] [] es h = absurd (h refl)
match_args-no_values table depth [] (v ∷ vs) es h = refl
match_args-no_values table depth (t ∷ ts) [] es h = refl
match_args-no_values table depth (t ∷ ts) (v ∷ vs) es h = match_args-no_values table depth ts vs (match_term table depth t v es) (λ e. h (omega arith))

pub none_congruent : (table : Table) (depth : ℕ) (ts us : List Term) (es : List Assignment) → (length ts ≡ length us → ⊥) → congruent_args table depth (terms_of ts) (terms_of us) es ≡ []
none_congruent table depth [] [] es h = absurd (h refl)
none_congruent table depth [] (u ∷ us) es h = refl
none_congruent table depth (t ∷ ts) [] es h = refl
none_congruent table depth (t ∷ ts) (u ∷ us) es h = none_congruent table depth ts us (congruent_term table depth t u es) (λ e. h (omega arith))

pub list_below-args : (n : ℕ) (ts : List Term) → list_all (is_below n) ts ≡ args_below n (terms_of ts)
list_below-args n [] = refl
list_below-args n (t ∷ ts) = ap (λ b. is_below n t && b) (list_below-args n ts)

pub ruleset below_rules = (list_below-args)
