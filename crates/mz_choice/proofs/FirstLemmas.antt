-- What the code of the first notation that passes tells.
use Rattle.std.proofs.Common.{◌≡◌, ◌<◌, ◌-◌, ℕ, zero, suc, List, [], ◌∷◌, ◌++◌, refl, sym, ap, ◌∙◌, subst, Bool, true, false, arith, length, map, Option, Some, None, take}
use Rattle.std.specs.Prelude.{reverse, slice_get, bytes_eq, ◌&&◌, if◌then◌else◌}
use Rattle.std.specs.List.{filter}
use Rattle.std.proofs.lemmas.List.{append-nil, reverse-append, take_all, length-map}
use Rattle.std.proofs.lemmas.List.Elements.{filter-append}
use Rattle.mz_logic.specs.Term.{Term}
use Rattle.mz_core.specs.declared.notation.Notation.{Notation}
use Rattle.mz_core.specs.declared.notation.Meaning.{Meaning}
use Rattle.mz_context.specs.declared.context.Context.{Context}
use Rattle.mz_ground.specs.declared.clause.Clause.{Clause}
use Rattle.mz_environment.specs.declared.environment.Environment.{Environment}
use Rattle.mz_environment.specs.Keys.{is_spelled}
use Rattle.mz_fits.proofs.FitLemmas.{not_both}
use Rattle.mz_fits.proofs.OneMatch.{some-inj, none_some}
use Rattle.mz_choice.specs.declared.choice.Applied.{Applied}
use Rattle.mz_choice.specs.declared.choice.Wanted.{Wanted}
use Rattle.mz_choice.specs.Choice as co
use Rattle.mz_choice.specs.Choice.{is_of_symbol, is_candidate, candidates, Passes, FirstPasses, Chosen}

-- the candidates before a place, the reverse-latest first
abbrev pub before : Applied → List Notation → ℕ → List Notation
before a xs n = candidates a (take n xs)

reverse-latest : (p : Notation → Bool) (xs : List Notation) (x : Notation) (b : Bool) → p x ≡ b → reverse (filter p (xs ++ x ∷ [])) ≡ (if b then x ∷ reverse (filter p xs) else reverse (filter p xs))
reverse-latest p xs x true h = ap reverse (filter-append p xs (x ∷ []) ∙ ap (λ (c : Bool). filter p xs ++ (if c then x ∷ [] else [])) h) ∙ reverse-append (filter p xs) (x ∷ [])
reverse-latest p xs x false h = ap reverse (filter-append p xs (x ∷ []) ∙ (ap (λ (c : Bool). filter p xs ++ (if c then x ∷ [] else [])) h ∙ append-nil (filter p xs)))

take_next : (xs : List Notation) (k : ℕ) (x : Notation) → slice_get xs k ≡ Some x → take (suc k) xs ≡ take k xs ++ x ∷ []
take_next [] k x at = absurd (none_some x at)
take_next (y ∷ ys) zero x at = ap (λ z. z ∷ []) (some-inj y x at)
take_next (y ∷ ys) (suc k) x at = ap (λ zs. y ∷ zs) (take_next ys k x at)

one_before : (a : Applied) (xs : List Notation) (n k : ℕ) (x : Notation) (b : Bool) → k ≡ n - 1 → 0 < n → slice_get xs k ≡ Some x → is_candidate a x ≡ b → before a xs n ≡ (if b then x ∷ before a xs k else before a xs k)
one_before a xs n k x b ek lt at h =
    let en : n ≡ suc k = omega (arith, ek, lt) in
    ap (λ m. before a xs m) en ∙ (ap (λ ys. reverse (filter (is_candidate a) ys)) (take_next xs k x at) ∙ reverse-latest (is_candidate a) (take k xs) x b h)

pub told_other : (cs : List Clause) (e : Environment) (c : Context) (w : Wanted) (args : List Term) (a : Applied) (xs : List Notation) (n k : ℕ) (x : Notation) (b : Bool) → k ≡ n - 1 → 0 < n → slice_get xs k ≡ Some x → b ≡ is_candidate a x → b ≡ false → ((o : Option Meaning) → FirstPasses cs e c w args (before a xs n) o → FirstPasses cs e c w args (candidates a xs) o) → (o : Option Meaning) → FirstPasses cs e c w args (before a xs k) o → FirstPasses cs e c w args (candidates a xs) o
told_other cs e c w args a xs n k x b ek lt at same eb so o h =
    so o (subst (λ ys. FirstPasses cs e c w args ys o) (sym (one_before a xs n k x false ek lt at (sym same ∙ eb))) h)

pub told_not : (cs : List Clause) (e : Environment) (c : Context) (w : Wanted) (args : List Term) (a : Applied) (xs : List Notation) (n k : ℕ) (x : Notation) (b : Bool) (t : Option Meaning) → k ≡ n - 1 → 0 < n → slice_get xs k ≡ Some x → b ≡ is_candidate a x → b ≡ true → Passes cs e c w x args t → t ≡ None → ((o : Option Meaning) → FirstPasses cs e c w args (before a xs n) o → FirstPasses cs e c w args (candidates a xs) o) → (o : Option Meaning) → FirstPasses cs e c w args (before a xs k) o → FirstPasses cs e c w args (candidates a xs) o
told_not cs e c w args a xs n k x b t ek lt at same eb p et so o h =
    so o (subst (λ ys. FirstPasses cs e c w args ys o) (sym (one_before a xs n k x true ek lt at (sym same ∙ eb))) (co.not_this x (before a xs k) o (subst (Passes cs e c w x args) et p) h))

pub told_this : (cs : List Clause) (e : Environment) (c : Context) (w : Wanted) (args : List Term) (a : Applied) (xs : List Notation) (n k : ℕ) (x : Notation) (b : Bool) (t : Option Meaning) (m : Meaning) → k ≡ n - 1 → 0 < n → slice_get xs k ≡ Some x → b ≡ is_candidate a x → b ≡ true → Passes cs e c w x args t → t ≡ Some m → ((o : Option Meaning) → FirstPasses cs e c w args (before a xs n) o → FirstPasses cs e c w args (candidates a xs) o) → FirstPasses cs e c w args (candidates a xs) (Some m)
told_this cs e c w args a xs n k x b t m ek lt at same eb p et so =
    so (Some m) (subst (λ ys. FirstPasses cs e c w args ys (Some m)) (sym (one_before a xs n k x true ek lt at (sym same ∙ eb))) (co.this_passes x (before a xs k) m (subst (Passes cs e c w x args) et p)))

pub told_end : (cs : List Clause) (e : Environment) (c : Context) (w : Wanted) (args : List Term) (a : Applied) (xs : List Notation) (n : ℕ) → n ≡ 0 → ((o : Option Meaning) → FirstPasses cs e c w args (before a xs n) o → FirstPasses cs e c w args (candidates a xs) o) → FirstPasses cs e c w args (candidates a xs) None
told_end cs e c w args a xs n en so = so None (subst (λ m. FirstPasses cs e c w args (before a xs m) None) (sym en) co.none_passes)

pub told_whole : {A : Type 0} (cs : List Clause) (e : Environment) (c : Context) (w : Wanted) (args : List Term) (a : Applied) (f : A → Notation) (ys : List A) (n : ℕ) → n ≡ length ys → (o : Option Meaning) → FirstPasses cs e c w args (before a (map f ys) n) o → FirstPasses cs e c w args (candidates a (map f ys)) o
told_whole cs e c w args a f ys n en o h =
    let all : take n (map f ys) ≡ map f ys = take_all n (map f ys) (omega (arith, en, length-map ys f)) in
    subst (λ xs. FirstPasses cs e c w args (candidates a xs) o) all h

pub ruleset first_rules = (told_other, told_not, told_this, told_end, told_whole)

left_of_both : (a b : Bool) → (a && b) ≡ true → a ≡ true
left_of_both true b h = refl
left_of_both false b h = h

-- a notation of the symbol is spelled as it, and so is a candidate
pub spelled_symbol : (a : Applied) (x : Notation) → is_of_symbol a x ≡ true → is_spelled a.symbol x ≡ true
spelled_symbol a x h = left_of_both (is_spelled a.symbol x) _ (left_of_both (is_spelled a.symbol x && bytes_eq x.pattern.closing a.closing) _ h)

pub of_symbol : (a : Applied) (x : Notation) → is_candidate a x ≡ true → is_of_symbol a x ≡ true
of_symbol a x h = left_of_both (is_of_symbol a x) _ h

left_out : (b : Bool) (x : Notation) (ys xs : List Notation) → (b ≡ true → false ≡ true) → ys ≡ xs → ys ≡ (if b then x ∷ xs else xs)
left_out true x ys xs f h = absurd (not_both false refl (f refl))
left_out false x ys xs f h = h

filter-by_test : (p : Notation → Bool) (x : Notation) (ys xs : List Notation) (c : Bool) → (p x ≡ true → c ≡ true) → filter p ys ≡ filter p xs → filter p (if c then x ∷ ys else ys) ≡ (if p x then x ∷ filter p xs else filter p xs)
filter-by_test p x ys xs true f h = ap (λ (zs : List Notation). if p x then x ∷ zs else zs) h
filter-by_test p x ys xs false f h = left_out (p x) x (filter p ys) (filter p xs) f h

-- what passes the narrower test needn't pass the wider one first
filter_twice : (p q : Notation → Bool) (xs : List Notation) → ((x : Notation) → p x ≡ true → q x ≡ true) → filter p (filter q xs) ≡ filter p xs
filter_twice p q [] f = refl
filter_twice p q (x ∷ xs) f = filter-by_test p x (filter q xs) xs (q x) (f x) (filter_twice p q xs f)

pub told_chosen : (cs : List Clause) (e : Environment) (c : Context) (w : Wanted) (a : Applied) (xs : List Notation) (args us : List Term) (o : Option Meaning) → xs ≡ filter (is_spelled a.symbol) e.notations → args ≡ a.left ++ a.right → us ≡ args → FirstPasses cs e c w us (candidates a xs) o → Chosen cs e c w a o
told_chosen cs e c w a xs args us o ex ea eu h =
    let all : candidates a xs ≡ candidates a e.notations = ap (candidates a) ex ∙ ap reverse (filter_twice (is_candidate a) (is_spelled a.symbol) e.notations (λ x k. spelled_symbol a x (of_symbol a x k))) in
    subst (λ (vs : List Term). FirstPasses cs e c w vs (candidates a e.notations) o) (eu ∙ ea) (subst (λ (ys : List Notation). FirstPasses cs e c w us ys o) all h)

pub ruleset chosen_rules = (told_chosen)
