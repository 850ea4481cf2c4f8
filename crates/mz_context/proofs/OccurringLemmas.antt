-- Which constants are among those that are met, and lists that rise.
use Rattle.std.proofs.Common.{◌≡◌, ◌<◌, ◌≤◌, ℕ, zero, suc, Bool, true, false, List, [], ◌∷◌, ◌++◌, refl, sym, ap, ◌∙◌, arith, append-nil, length, Option, Some, None}
use Rattle.std.specs.Prelude.{◌&&◌, ◌||◌, not, if◌then◌else◌, nat_eq, nat_lt, flat_map, slice_index_or}
use Rattle.std.specs.List.{list_any, dedup, Contains, AllPairs}
use Rattle.std.specs.List.Sorted.{IsStrictlyIncreasing, IsSorted, IsPermutation}
use Rattle.std.specs.Ordering.{nat_cmp}
use Rattle.std.proofs.lemmas.Bool.{eqb-true, false≢true, eq-eqb, ne_eqb, ltb-true, ltb-false, lt-ltb, le-ltb}
use Rattle.std.proofs.lemmas.Cmp.{nat_eq_equiv}
use Rattle.std.proofs.lemmas.List.Folds.{list_any-append}
use Rattle.std.proofs.lemmas.List.Kept.{Contains-dedup_nat, Contains-from_dedup, AllPairs-from_increasing}
use Rattle.std.proofs.lemmas.List.Sorted.{list_any-IsPermutation}
use Rattle.std.proofs.lemmas.Map.Keys.{IsStrictlyIncreasing-dedup}
use Rattle.std.proofs.lemmas.Map.Views.{Contains-from_any, list_any-from_Contains}
use Rattle.mz_logic.specs.Term.{Term, Terms, Bound, Const, App, none, more, terms_of}
use Rattle.mz_logic.specs.Constants.{occurs, occurs_in_args, occurs_in_formula}
use Rattle.mz_logic.specs.Formula.{Formula, Truth, Eq, Atom, Not, And, All}
use Rattle.mz_logic.specs.declared.literal.Literal.TheVariants as literal
use Rattle.mz_logic.specs.declared.literal.Literal.{Literal}
use Rattle.mz_core.specs.declared.adjective.Adjective.{Adjective}
use Rattle.mz_core.specs.declared.soft_type.SoftType.{SoftType}
use Rattle.mz_context.specs.declared.constants.Constant.{Constant}
use Rattle.mz_context.specs.Context.{numbered}
use Rattle.mz_context.specs.Gather.{occurs_in_adjective, occurs_in_type, occurs_if_any, has_constant, occurs_in_known, occurs_in_constant, below}
use Rattle.mz_context.specs.Occurring.{is_among, one_below, term_constants, args_constants, formula_constants, literal_constants, adjective_constants, type_constants, equal_constants, known_constants, constants_known, Rises}

-- arguments
pub args_constants-terms_of : (n : ℕ) (ts : List Term) → args_constants n (terms_of ts) ≡ flat_map (term_constants n) ts
args_constants-terms_of n [] = refl
args_constants-terms_of n (t ∷ ts) = ap (λ b. term_constants n t ++ b) (args_constants-terms_of n ts)

pub ruleset argument_rules = (args_constants-terms_of)

-- truth values
and_false : (b : Bool) → (b && false) ≡ false
and_false true = refl
and_false false = refl

and_or : (b x y : Bool) → ((b && x) || (b && y)) ≡ (b && (x || y))
and_or true x y = refl
and_or false x y = refl

or_and : (a b x : Bool) → ((a && x) || (b && x)) ≡ ((a || b) && x)
or_and true true true = refl
or_and true true false = refl
or_and true false true = refl
or_and true false false = refl
or_and false b x = refl

same_truth : (a b : Bool) → (a ≡ true → b ≡ true) → (b ≡ true → a ≡ true) → a ≡ b
same_truth true b f g = sym (f refl)
same_truth false true f g = g refl
same_truth false false f g = refl

lt_or_eq : (c n : ℕ) → (nat_lt c n || nat_eq c n) ≡ nat_lt c (suc n)
lt_or_eq c n = below_or (nat_lt c n) (nat_eq c n) refl refl
  where
    below_or : (a b : Bool) → nat_lt c n ≡ a → nat_eq c n ≡ b → (a || b) ≡ nat_lt c (suc n)
    below_or true b l e = let h : c < n = ltb-true c n l in sym (lt-ltb c (suc n) (omega (arith, h)))
    below_or false true l e = let h : c ≡ n = eqb-true c n e in sym (lt-ltb c (suc n) (omega (arith, h)))
    below_or false false l e =
        let h : n ≤ c = ltb-false c n l in
        sym (le-ltb c (suc n) (omega (arith, h, λ (same : c ≡ n). false≢true (sym e ∙ eq-eqb c n same))))

-- which are among those that are met
one_among : (k c n : ℕ) → is_among (one_below k n) c ≡ (nat_lt c k && nat_eq n c)
one_among k c n = told (nat_lt n k) (nat_eq n c) refl refl
  where
    there : (l : Bool) → nat_lt n k ≡ l → n ≡ c → nat_lt c k ≡ l
    there l lt same = ap (λ m. nat_lt m k) (sym same) ∙ lt

    other : nat_eq n c ≡ false → nat_eq c n ≡ false
    other e = ne_eqb c n (λ same. false≢true (sym e ∙ eq-eqb n c (sym same)))

    told : (l e : Bool) → nat_lt n k ≡ l → nat_eq n c ≡ e → is_among (if l then n ∷ [] else []) c ≡ (nat_lt c k && e)
    told true true lt eq = (λ i. eq-eqb c n (sym (eqb-true n c eq)) i || false) ∙ sym (ap (λ b. b && true) (there true lt (eqb-true n c eq)))
    told false true lt eq = sym (ap (λ b. b && true) (there false lt (eqb-true n c eq)))
    told true false lt eq = (λ i. other eq i || false) ∙ sym (and_false (nat_lt c k))
    told false false lt eq = sym (and_false (nat_lt c k))

mutual
  pub term_among : (k c : ℕ) (t : Term) → is_among (term_constants k t) c ≡ (nat_lt c k && occurs c t)
  term_among k c (Bound index) = sym (and_false (nat_lt c k))
  term_among k c (Const number) = one_among k c number
  term_among k c (App s ts) = args_among k c ts

  args_among : (k c : ℕ) (ts : Terms) → is_among (args_constants k ts) c ≡ (nat_lt c k && occurs_in_args c ts)
  args_among k c none = sym (and_false (nat_lt c k))
  args_among k c (more t ts) =
      list_any-append (nat_eq c) (term_constants k t) (args_constants k ts)
      ∙ (λ i. term_among k c t i || args_among k c ts i) ∙ and_or (nat_lt c k) (occurs c t) (occurs_in_args c ts)

flat_among : {X : Type 0} (f : X → List ℕ) (g : X → Bool) (b : Bool) (c : ℕ) → ((x : X) → is_among (f x) c ≡ (b && g x)) → (xs : List X) → is_among (flat_map f xs) c ≡ (b && list_any g xs)
flat_among f g b c h [] = sym (and_false b)
flat_among f g b c h (x ∷ xs) =
    list_any-append (nat_eq c) (f x) (flat_map f xs) ∙ (λ i. h x i || flat_among f g b c h xs i) ∙ and_or b (g x) (list_any g xs)

both_among : (xs ys : List ℕ) (c : ℕ) (b x y : Bool) → is_among xs c ≡ (b && x) → is_among ys c ≡ (b && y) → is_among (xs ++ ys) c ≡ (b && (x || y))
both_among xs ys c b x y hx hy = list_any-append (nat_eq c) xs ys ∙ (λ i. hx i || hy i) ∙ and_or b x y

terms_among : (k c : ℕ) (ts : List Term) → is_among (flat_map (term_constants k) ts) c ≡ (nat_lt c k && list_any (occurs c) ts)
terms_among k c ts = flat_among (term_constants k) (occurs c) (nat_lt c k) c (term_among k c) ts

pub formula_among : (k c : ℕ) (f : Formula) → is_among (formula_constants k f) c ≡ (nat_lt c k && occurs_in_formula c f)
formula_among k c Truth = sym (and_false (nat_lt c k))
formula_among k c (Eq t u) = both_among (term_constants k t) (term_constants k u) c (nat_lt c k) (occurs c t) (occurs c u) (term_among k c t) (term_among k c u)
formula_among k c (Atom s ts) = terms_among k c ts
formula_among k c (Not f) = formula_among k c f
formula_among k c (And f g) = both_among (formula_constants k f) (formula_constants k g) c (nat_lt c k) (occurs_in_formula c f) (occurs_in_formula c g) (formula_among k c f) (formula_among k c g)
formula_among k c (All f) = formula_among k c f

pub literal_among : (k c : ℕ) (l : Literal) → is_among (literal_constants k l) c ≡ (nat_lt c k && has_constant l c)
literal_among k c (literal.Atom positive s ts) = terms_among k c ts
literal_among k c (literal.Eq positive t u) = both_among (term_constants k t) (term_constants k u) c (nat_lt c k) (occurs c t) (occurs c u) (term_among k c t) (term_among k c u)

type_among : (k c : ℕ) (ty : SoftType) → is_among (type_constants k ty) c ≡ (nat_lt c k && occurs_in_type c ty)
type_among k c ty =
    both_among (flat_map (term_constants k) ty.radix.args) (flat_map (adjective_constants k) ty.adjectives) c (nat_lt c k) (list_any (occurs c) ty.radix.args) (list_any (occurs_in_adjective c) ty.adjectives)
    (terms_among k c ty.radix.args) (flat_among (adjective_constants k) (occurs_in_adjective c) (nat_lt c k) c (λ a. terms_among k c a.args) ty.adjectives)

equal_among : (k c : ℕ) (o : Option Term) → is_among (equal_constants k o) c ≡ (nat_lt c k && occurs_if_any c o)
equal_among k c None = sym (and_false (nat_lt c k))
equal_among k c (Some t) = term_among k c t

known_among : (k c : ℕ) (o : Option Constant) → is_among (known_constants k o) c ≡ (nat_lt c k && occurs_in_known c o)
known_among k c None = sym (and_false (nat_lt c k))
known_among k c (Some x) = both_among (type_constants k x.ty) (equal_constants k x.equal) c (nat_lt c k) (occurs_in_type c x.ty) (occurs_if_any c x.equal) (type_among k c x.ty) (equal_among k c x.equal)

pub last_among : (k : ℕ) (ks : List (Option Constant)) (c : ℕ) (ds : List ℕ) → is_among (flat_map (constants_known k ks) ds) c ≡ (nat_lt c k && list_any (occurs_in_constant ks c) ds)
last_among k ks c ds = flat_among (constants_known k ks) (occurs_in_constant ks c) (nat_lt c k) c (λ d. known_among k c (numbered ks d)) ds

-- lists that rise
not_below : (ns : List ℕ) (low c : ℕ) → Rises low ns → c < low → is_among ns c ≡ false
unfolding Rises
not_below [] low c r lt = refl
not_below (n ∷ ns) low c (le, r) lt = (λ i. ne_eqb c n (λ same. absurd (omega (arith, same, le, lt))) i || not_below ns (suc n) c r (omega (arith, le, lt)) i)

first_among : (n : ℕ) (ns : List ℕ) → is_among (n ∷ ns) n ≡ true
first_among n ns = (λ i. eq-eqb n n refl i || is_among ns n)

behind_first : (n : ℕ) (xs ys : List ℕ) (c : ℕ) → Rises (suc n) xs → Rises (suc n) ys → is_among (n ∷ xs) c ≡ is_among (n ∷ ys) c → is_among xs c ≡ is_among ys c
behind_first n xs ys c rx ry h = told (nat_eq c n) refl
  where
    told : (b : Bool) → nat_eq c n ≡ b → is_among xs c ≡ is_among ys c
    told true e = let same : c ≡ n = eqb-true c n e in not_below xs (suc n) c rx (omega (arith, same)) ∙ sym (not_below ys (suc n) c ry (omega (arith, same)))
    told false e = sym (λ i. e i || is_among xs c) ∙ h ∙ (λ i. e i || is_among ys c)

same_first : (x y : ℕ) (xs ys : List ℕ) → Rises x (x ∷ xs) → Rises y (y ∷ ys) → ((c : ℕ) → is_among (x ∷ xs) c ≡ is_among (y ∷ ys) c) → x ≡ y
same_first x y xs ys rx ry h = told (nat_lt x y) (nat_lt y x) refl refl
  where
    told : (a b : Bool) → nat_lt x y ≡ a → nat_lt y x ≡ b → x ≡ y
    told true b l g = absurd (false≢true (sym (not_below (y ∷ ys) y x ry (ltb-true x y l)) ∙ sym (h x) ∙ first_among x xs))
    told false true l g = absurd (false≢true (sym (not_below (x ∷ xs) x y rx (ltb-true y x g)) ∙ h y ∙ first_among y ys))
    told false false l g = let le : y ≤ x = ltb-false x y l in let ge : x ≤ y = ltb-false y x g in omega (arith, le, ge)

pub rising_same : (xs ys : List ℕ) (low : ℕ) → Rises low xs → Rises low ys → ((c : ℕ) → is_among xs c ≡ is_among ys c) → xs ≡ ys
unfolding Rises
rising_same [] [] low rx ry h = refl
rising_same [] (y ∷ ys) low rx ry h = absurd (false≢true (h y ∙ first_among y ys))
rising_same (x ∷ xs) [] low rx ry h = absurd (false≢true (sym (h x) ∙ first_among x xs))
rising_same (x ∷ xs) (y ∷ ys) low (lx, rx) (ly, ry) h =
    let same : x ≡ y = same_first x y xs ys (omega (arith), rx) (omega (arith), ry) h in
    let here : Rises (suc x) ys = rw same ry in
    let mine : (c : ℕ) → is_among (x ∷ xs) c ≡ is_among (x ∷ ys) c = λ c. h c ∙ sym (ap (λ n. nat_eq c n || is_among ys c) same) in
    let rest : xs ≡ ys = rising_same xs ys (suc x) rx here (λ c. behind_first x xs ys c rx here (mine c)) in
    (λ i. same i ∷ rest i)

-- the numbers below a count that pass a test rise
unfoldable RisesTo : ℕ → ℕ → List ℕ → Type 0
RisesTo low high [] = low ≤ high
RisesTo low high (n ∷ ns) = (low ≤ n) × RisesTo (suc n) high ns

rises : (low high : ℕ) (ns : List ℕ) → RisesTo low high ns → Rises low ns
unfolding Rises RisesTo
rises low high [] r = tt
rises low high (n ∷ ns) (le, r) = (le, rises (suc n) high ns r)

wider : (low high : ℕ) (ns : List ℕ) → RisesTo low high ns → RisesTo low (suc high) ns
unfolding RisesTo
wider low high [] r = omega (arith, r)
wider low high (n ∷ ns) (le, r) = (le, wider (suc n) high ns r)

longer : (low high : ℕ) (ns : List ℕ) → RisesTo low high ns → RisesTo low (suc high) (ns ++ high ∷ [])
unfolding RisesTo
longer low high [] r = (r, omega (arith))
longer low high (n ∷ ns) (le, r) = (le, longer (suc n) high ns r)

with_last : (xs : List ℕ) (n : ℕ) (b : Bool) → RisesTo 0 n xs → RisesTo 0 (suc n) (xs ++ (if b then n ∷ [] else []))
with_last xs n true r = longer 0 n xs r
with_last xs n false r = rw (append-nil xs) (wider 0 n xs r)

below_rises : (p : ℕ → Bool) (n : ℕ) → RisesTo 0 n (below p n)
unfolding RisesTo
below_rises p zero = omega (arith)
below_rises p (suc n) = with_last (below p n) n (p n) (below_rises p n)

below_among : (p : ℕ → Bool) (n c : ℕ) → is_among (below p n) c ≡ (nat_lt c n && p c)
below_among p zero c = sym (λ i. le-ltb c 0 (omega (arith)) i && p c)
below_among p (suc n) c =
    list_any-append (nat_eq c) (below p n) (if p n then n ∷ [] else [])
    ∙ (λ i. below_among p n c i || last (nat_eq c n) (p n) refl refl i) ∙ or_and (nat_lt c n) (nat_eq c n) (p c) ∙ (λ i. lt_or_eq c n i && p c)
  where
    last : (e b : Bool) → nat_eq c n ≡ e → p n ≡ b → is_among (if b then n ∷ [] else []) c ≡ (nat_eq c n && p c)
    last true true e h =
        let same : c ≡ n = eqb-true c n e in
        (λ i. e i || false) ∙ sym ((λ i. e i && p (same i)) ∙ (λ i. true && h i))
    last true false e h =
        let same : c ≡ n = eqb-true c n e in
        sym ((λ i. e i && p (same i)) ∙ (λ i. true && h i))
    last false true e h = (λ i. e i || false) ∙ sym (λ i. e i && p c)
    last false false e h = sym (λ i. e i && p c)

-- a list that rises and has the numbers below the count that pass the test is their list
pub below_from_rising : (p : ℕ → Bool) (n : ℕ) (xs met : List ℕ) → Rises 0 xs → ((c : ℕ) → is_among xs c ≡ is_among met c) → ((c : ℕ) → is_among met c ≡ (nat_lt c n && p c)) → xs ≡ below p n
below_from_rising p n xs met r same told =
    rising_same xs (below p n) 0 r (rises 0 n (below p n) (below_rises p n)) (λ c. same c ∙ told c ∙ sym (below_among p n c))

-- sorted, and each number once
rises-pairs : (xs : List ℕ) (low : ℕ) → AllPairs (λ x y. x < y) xs → ((i d : ℕ) → i < length xs → low ≤ slice_index_or xs i d) → Rises low xs
unfolding Rises
rises-pairs [] low h f = tt
rises-pairs (x ∷ xs) low h f =
    (f 0 x (omega (arith)), rises-pairs xs (suc x) (λ i j d lt l. h (suc i) (suc j) d (omega (arith, lt)) (omega (arith, l))) (λ i d l. omega (arith, h 0 (suc i) d (omega (arith)) (omega (arith, l)))))

pub rises-dedup : (xs : List ℕ) → IsSorted nat_cmp xs → Rises 0 (dedup nat_eq xs)
rises-dedup xs s = rises-pairs (dedup nat_eq xs) 0 (AllPairs-from_increasing (dedup nat_eq xs) (IsStrictlyIncreasing-dedup xs s)) (λ i d l. omega (arith))

pub among-dedup : (xs ys : List ℕ) (c : ℕ) → IsPermutation xs ys → is_among (dedup nat_eq ys) c ≡ is_among xs c
among-dedup xs ys c moved =
    same_truth (is_among (dedup nat_eq ys) c) (is_among ys c)
    (λ h. there ys (Contains-from_dedup nat_eq ys c (Contains-from_any eqb-true c (dedup nat_eq ys) h)))
    (λ h. there (dedup nat_eq ys) (Contains-dedup_nat ys c (Contains-from_any eqb-true c ys h)))
    ∙ sym (list_any-IsPermutation (nat_eq c) xs ys moved)
  where
    there : (zs : List ℕ) → Contains zs c → is_among zs c ≡ true
    there zs h = list_any-from_Contains nat_eq_equiv c zs h
