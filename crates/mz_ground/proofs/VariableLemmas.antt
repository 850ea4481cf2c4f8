-- Indices of triggers.
use Rattle.std.proofs.Common.{◌≡◌, ◌<◌, ℕ, zero, suc, Bool, true, false, List, [], ◌∷◌, refl, ap, sym, ◌∙◌, arith, inl, inr}
use Rattle.std.specs.Prelude.{◌||◌, ◌&&◌}
use Rattle.std.specs.List.{list_any}
use Rattle.std.proofs.lemmas.Bool.{cases_lt, false≢true}
use Rattle.mz_logic.specs.Term.{Term, terms_of}
use Rattle.mz_ground.specs.declared.trigger.Trigger.{Trigger}
use Rattle.mz_ground.specs.Variables.{has_index, args_have_index, trigger_has, has_all_below}

pub args_have_index-terms_of : (i : ℕ) (ts : List Term) → args_have_index i (terms_of ts) ≡ list_any (has_index i) ts
args_have_index-terms_of i [] = refl
args_have_index-terms_of i (t ∷ ts) = ap (λ b. has_index i t || b) (args_have_index-terms_of i ts)

pub ruleset index_rules = (args_have_index-terms_of)

and_false : (a b : Bool) → (a ≡ true → false ≡ b) → false ≡ (a && b)
and_false true b h = h refl
and_false false b h = refl

and_true : (a b : Bool) → a ≡ true → b ≡ true → true ≡ (a && b)
and_true true b h k = sym k
and_true false b h k = sym h

-- an index that doesn't occur
pub lacks_all : (i n : ℕ) (r : Trigger) → i < n → trigger_has i r ≡ false → false ≡ has_all_below n r
lacks_all i zero r lt e = absurd (omega arith)
lacks_all i (suc n) r lt e =
    and_false _ _ (λ q. elim (cases_lt i n) [ inl l ↦ lacks_all i n r l e | inr l ↦ let k : i ≡ n = omega arith in absurd (false≢true (sym e ∙ ap (λ j. trigger_has j r) k ∙ q)) ])

-- one index more occurs
pub has_more : (n : ℕ) (r : Trigger) → has_all_below n r ≡ true → trigger_has n r ≡ true → has_all_below (suc n) r ≡ true
has_more n r h k = sym (and_true (trigger_has n r) (has_all_below n r) k h)

pub ruleset variable_rules = (lacks_all, has_more)
