-- When some occurrences of a term are replaced, by cases.
use Rattle.std.proofs.Common.{◌≡◌, ◌<◌, ℕ, zero, suc, List, [], ◌∷◌, length, get_or, refl, sym, ap, subst, arith}
use Rattle.mz_logic.specs.Term.{Term, Terms, Bound, Const, App, none, more, terms_of}
use Rattle.mz_logic.specs.Replacement.{TermReplaced, ArgsReplaced, WithinReplaced, replaced, kept, within, end, next}

pub kept_or : (t u a b : Term) → a ≡ b → TermReplaced t u a b
kept_or t u a b e = subst (TermReplaced t u a) e (kept a)

pub replaced_or : (t u a b : Term) → a ≡ t → b ≡ u → TermReplaced t u a b
replaced_or t u a b d e = subst (λ x. TermReplaced t u x b) (sym d) (subst (TermReplaced t u t) (sym e) replaced)

pub within_or : (t u a b : Term) → WithinReplaced t u a b → TermReplaced t u a b
within_or t u (Bound m) b h = absurd h
within_or t u (Const m) b h = absurd h
within_or t u (App s xs) (Bound n) h = absurd h
within_or t u (App s xs) (Const n) h = absurd h
within_or t u (App s xs) (App r ys) h = subst (λ q. TermReplaced t u (App s xs) (App q ys)) h.0 (within s xs ys h.1)

pub within_else : {t u a b : Term} → TermReplaced t u a b → (a ≡ b → ⊥) → (a ≡ t → b ≡ u → ⊥) → WithinReplaced t u a b
within_else replaced other apart = absurd (apart refl refl)
within_else (kept a) other apart = absurd (other refl)
within_else (within s xs ys h) other apart = (refl, h)

abbrev Both : Term → Term → Terms → Terms → Type 0
Both t u none none = Unit {0}
Both t u none (more b ys) = ⊥
Both t u (more a xs) none = ⊥
Both t u (more a xs) (more b ys) = TermReplaced t u a b × ArgsReplaced t u xs ys

both : {t u : Term} {xs ys : Terms} → ArgsReplaced t u xs ys → Both t u xs ys
both end = tt
both (next a b xs ys p q) = (p, q)

pub args_length : (t u : Term) (xs ys : List Term) → ArgsReplaced t u (terms_of xs) (terms_of ys) → length xs ≡ length ys
args_length t u [] [] h = refl
args_length t u [] (y ∷ ys) h = absurd (both h)
args_length t u (x ∷ xs) [] h = absurd (both h)
args_length t u (x ∷ xs) (y ∷ ys) h = ap suc (args_length t u xs ys (both h).1)

pub args_at : (t u : Term) (xs ys : List Term) → ArgsReplaced t u (terms_of xs) (terms_of ys) → (k : ℕ) (a b : Term) → k < length xs → TermReplaced t u (get_or xs k a) (get_or ys k b)
args_at t u [] [] h k a b lt = absurd (omega arith)
args_at t u [] (y ∷ ys) h k a b lt = absurd (both h)
args_at t u (x ∷ xs) [] h k a b lt = absurd (both h)
args_at t u (x ∷ xs) (y ∷ ys) h zero a b lt = (both h).0
args_at t u (x ∷ xs) (y ∷ ys) h (suc k) a b lt = args_at t u xs ys (both h).1 k a b (omega arith)

pub args_from : (t u : Term) (xs ys : List Term) → length xs ≡ length ys → ((k : ℕ) (a b : Term) → k < length xs → TermReplaced t u (get_or xs k a) (get_or ys k b)) → ArgsReplaced t u (terms_of xs) (terms_of ys)
args_from t u [] [] e each = end
args_from t u [] (y ∷ ys) e each = absurd (omega arith)
args_from t u (x ∷ xs) [] e each = absurd (omega arith)
args_from t u (x ∷ xs) (y ∷ ys) e each = next x y (terms_of xs) (terms_of ys) (each 0 x y (omega arith)) (args_from t u xs ys (omega arith) (λ k a b lt. each (suc k) a b (omega arith)))

pub ruleset term_rules = (kept_or, replaced_or, within_or, within_else)

pub ruleset args_rules = (args_length, args_at, args_from)
