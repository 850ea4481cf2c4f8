-- There is one list of disjuncts, and its length is the count.
use Rattle.std.proofs.Common.{◌≡◌, ◌<◌, ◌≤◌, ℕ, suc, ◌+◌, ◌*◌, List, [], ◌∷◌, ◌++◌, length, refl, ap, sym, ◌∙◌, subst, arith, Bool, true, false, max}
use Rattle.std.specs.Prelude.{nat_lt, ◌||◌}
use Rattle.std.specs.List.{list_any}
use Rattle.std.proofs.lemmas.Bool.{ltb-true, ltb-false}
use Rattle.std.proofs.lemmas.List.{length-append}
use Rattle.mz_logic.specs.Term.{Const}
use Rattle.mz_logic.specs.Formula.{Formula}
use Rattle.mz_logic.specs.Substitution.{body_at, value_at}
use Rattle.mz_logic.specs.Constants.{occurs_in_formula}
use Rattle.mz_logic.proofs.Fresh.{formula_greatest, all_greatest, occurs_in_formula-above, occurs_in_formulas-above}
use Rattle.mz_logic.specs.declared.disjunct.Disjunct.{Disjunct}
use Rattle.mz_nf.specs.declared.problem.Problem.{Problem}
use Rattle.mz_nf.specs.Problem.{parts_of, has_constant}
use Rattle.mz_nf.specs.Disjunct.{pairs}
use Rattle.mz_nf.specs.Constants.{IsLeastUnused}
use Rattle.mz_nf.specs.Splits as splits
use Rattle.mz_nf.specs.Splits.{Splits, SplitsAll, AreDisjuncts}
use Rattle.mz_logic.specs.Capped.{capped}
use Rattle.mz_nf.specs.Count.{count, count_all, count_of}
use Rattle.mz_nf.proofs.CountLemmas.{count-substitute_formula}
use Rattle.mz_nf.proofs.PairLemmas.{length-pairs}
use Rattle.mz_nf.proofs.TakesLemmas.{IsBounded, not_both, all_splits_exist}

-- the least unused number is one
least_by : (used : ℕ → Bool) (k c d : ℕ) → IsLeastUnused used k c → IsLeastUnused used k d → (a b : Bool) → nat_lt c d ≡ a → nat_lt d c ≡ b → c ≡ d
least_by used k c d h i true b e f =
    let lt : c < d = ltb-true c d e in
    absurd (not_both (used c) (i.least c h.reached lt) h.unused)
least_by used k c d h i false true e f =
    let lt : d < c = ltb-true d c f in
    absurd (not_both (used d) (h.least d i.reached lt) i.unused)
least_by used k c d h i false false e f =
    let p : d ≤ c = ltb-false c d e in
    let q : c ≤ d = ltb-false d c f in
    omega arith

pub least_once : (used : ℕ → Bool) (k c d : ℕ) → IsLeastUnused used k c → IsLeastUnused used k d → c ≡ d
least_once used k c d h i = least_by used k c d h i (nat_lt c d) (nat_lt d c) refl refl

-- the disjuncts of a formula are one list
pub splits_once : (used : ℕ → Bool) (s : Bool) (f : Formula) (k m n : ℕ) (ds es : List Disjunct) → Splits used s f k ds m → Splits used s f k es n → (ds ≡ es) × (m ≡ n)
splits_once used s f k m n ds es (splits.truth a) (splits.truth b) = (refl, refl)
splits_once used s f k m n ds es (splits.truth_negated a) (splits.truth_negated b) = (refl, refl)
splits_once used s f k m n ds es (splits.equation b t u l) (splits.equation c v w o) = (refl, refl)
splits_once used s f k m n ds es (splits.atom b p ts l) (splits.atom c q us o) = (refl, refl)
splits_once used s f k m n ds es (splits.negation g l o xs h) (splits.negation i q r ys j) = splits_once used false g l o r xs ys h j
splits_once used s f k m n ds es (splits.negation_negated g l o xs h) (splits.negation_negated i q r ys j) = splits_once used true g l o r xs ys h j
splits_once used s f k m n ds es (splits.universal b l) (splits.universal c o) = (refl, refl)
splits_once used s f k m n ds es (splits.universal_negated b l c o xs i h) (splits.universal_negated a q d r ys x j) =
    let same : d ≡ c = least_once used l d c x i in
    splits_once used false (body_at b (Const c)) (suc c) o r xs ys h (subst (λ (y : ℕ). Splits used false (body_at b (Const y)) (suc y) ys r) same j)
splits_once used s f k m n ds es (splits.conjunction p q l o r xs ys h i) (splits.conjunction u v w x y zs ws a b) =
    let r1 : (xs ≡ zs) × (o ≡ x) = splits_once used true p l o x xs zs h a in
    let r2 : (ys ≡ ws) × (r ≡ y) = splits_once used true q o r y ys ws i (subst (λ (t : ℕ). Splits used true q t ws y) (sym r1.1) b) in
    ((λ t. pairs (r1.0 t) (r2.0 t)), r2.1)
splits_once used s f k m n ds es (splits.conjunction_negated p q l o r xs ys h i) (splits.conjunction_negated u v w x y zs ws a b) =
    let r1 : (xs ≡ zs) × (o ≡ x) = splits_once used false p l o x xs zs h a in
    let r2 : (ys ≡ ws) × (r ≡ y) = splits_once used false q o r y ys ws i (subst (λ (t : ℕ). Splits used false q t ws y) (sym r1.1) b) in
    ((λ t. r1.0 t ++ r2.0 t), r2.1)

pub all_splits_once : (used : ℕ → Bool) (fs : List Formula) (k m n : ℕ) (ds es : List Disjunct) → SplitsAll used fs k ds m → SplitsAll used fs k es n → (ds ≡ es) × (m ≡ n)
all_splits_once used fs k m n ds es (splits.end a) (splits.end b) = (refl, refl)
all_splits_once used fs k m n ds es (splits.next f gs l o r xs ys h i) (splits.next g hs w x y zs ws a b) =
    let r1 : (xs ≡ zs) × (o ≡ x) = splits_once used true f l o x xs zs h a in
    let r2 : (ys ≡ ws) × (r ≡ y) = all_splits_once used gs o r y ys ws i (subst (λ (t : ℕ). SplitsAll used gs t ws y) (sym r1.1) b) in
    ((λ t. pairs (r1.0 t) (r2.0 t)), r2.1)

-- their number is the count
pub length-splits_count : (used : ℕ → Bool) (s : Bool) (f : Formula) (k m : ℕ) (ds : List Disjunct) → Splits used s f k ds m → length ds ≡ count s f
length-splits_count used s f k m ds (splits.truth l) = refl
length-splits_count used s f k m ds (splits.truth_negated l) = refl
length-splits_count used s f k m ds (splits.equation true t u l) = refl
length-splits_count used s f k m ds (splits.equation false t u l) = refl
length-splits_count used s f k m ds (splits.atom true p ts l) = refl
length-splits_count used s f k m ds (splits.atom false p ts l) = refl
length-splits_count used s f k m ds (splits.negation g l n xs h) = length-splits_count used false g l n xs h
length-splits_count used s f k m ds (splits.negation_negated g l n xs h) = length-splits_count used true g l n xs h
length-splits_count used s f k m ds (splits.conjunction p q l n o xs ys h i) =
    length-pairs xs ys ∙ (λ t. length-splits_count used true p l n xs h t * length-splits_count used true q n o ys i t)
length-splits_count used s f k m ds (splits.conjunction_negated p q l n o xs ys h i) =
    length-append xs ys ∙ (λ t. length-splits_count used false p l n xs h t + length-splits_count used false q n o ys i t)
length-splits_count used s f k m ds (splits.universal b l) = refl
length-splits_count used s f k m ds (splits.universal_negated b l c n xs i h) =
    length-splits_count used false (body_at b (Const c)) (suc c) n xs h ∙ count-substitute_formula false 0 (value_at (Const c ∷ [])) b

pub length-all_splits_count : (used : ℕ → Bool) (fs : List Formula) (k m : ℕ) (ds : List Disjunct) → SplitsAll used fs k ds m → length ds ≡ count_all fs
length-all_splits_count used fs k m ds (splits.end l) = refl
length-all_splits_count used fs k m ds (splits.next f gs l n o xs ys h i) =
    length-pairs xs ys ∙ (λ t. length-splits_count used true f l n xs h t * length-all_splits_count used gs n o ys i t)

-- the laws of a problem
neither : (a b : Bool) → a ≡ false → b ≡ false → (a || b) ≡ false
neither a b p q = rw (p, q) refl

bounded_problem : (p : Problem) → IsBounded (has_constant p) (max (all_greatest p.premises) (formula_greatest p.conclusion) + 1)
bounded_problem p c le =
    neither (list_any (occurs_in_formula c) p.premises) (occurs_in_formula c p.conclusion)
    (occurs_in_formulas-above c p.premises (omega arith)) (occurs_in_formula-above c p.conclusion (omega arith))

pub disjuncts_exist : (p : Problem) → (ds : List Disjunct) × AreDisjuncts p ds
disjuncts_exist p =
    let r : (m : ℕ) × (ds : List Disjunct) × SplitsAll (has_constant p) (parts_of p) 1 ds m = all_splits_exist (has_constant p) (max (all_greatest p.premises) (formula_greatest p.conclusion) + 1) (bounded_problem p) (parts_of p) 1 in
    (r.1, (r.0, r.2))

pub one_list : (p : Problem) → (ds : List Disjunct) × AreDisjuncts p ds × ((es : List Disjunct) → AreDisjuncts p es → es ≡ ds)
one_list p =
    let r : (ds : List Disjunct) × AreDisjuncts p ds = disjuncts_exist p in
    (r.0, r.1, λ es h. (all_splits_once (has_constant p) (parts_of p) 1 h.0 (r.1).0 es r.0 h.1 (r.1).1).0)

pub length-disjuncts : (p : Problem) (ds : List Disjunct) → AreDisjuncts p ds → length ds ≡ count_all (parts_of p)
length-disjuncts p ds h = length-all_splits_count (has_constant p) (parts_of p) 1 h.0 ds h.1

pub count_law : (p : Problem) (ds : List Disjunct) → AreDisjuncts p ds → count_of p ≡ capped (length ds)
count_law p ds h = ap capped (sym (length-disjuncts p ds h))

-- a count that isn't capped is the length
pub length-told_few : (p : Problem) (ds : List Disjunct) (x : ℕ) → AreDisjuncts p ds → x ≡ count_of p → x ≤ 1024 → length ds ≡ count_of p
unfolding capped
length-told_few p ds x h e le =
    let c : count_of p ≡ capped (length ds) = count_law p ds h in
    omega arith

pub told_small : (p : Problem) (ds : List Disjunct) (x : ℕ) → AreDisjuncts p ds → x ≡ count_of p → x ≤ 1024 → length ds ≤ 1024
told_small p ds x h e le =
    let n : length ds ≡ count_of p = length-told_few p ds x h e le in
    omega arith

-- a problem whose count is 0
no_disjuncts : (ds : List Disjunct) → length ds ≡ 0 → ds ≡ []
no_disjuncts [] e = refl
no_disjuncts (d ∷ ds) e = absurd (omega arith)

pub told_none : (p : Problem) (ds : List Disjunct) (x : ℕ) → ds ≡ [] → x ≡ count_of p → x ≡ 0 → AreDisjuncts p ds
unfolding capped
told_none p ds x d e z =
    let r : (es : List Disjunct) × AreDisjuncts p es = disjuncts_exist p in
    let c : count_of p ≡ capped (length r.0) = count_law p r.0 r.1 in
    let n : length r.0 ≡ 0 = omega arith in
    subst (AreDisjuncts p) (no_disjuncts r.0 n ∙ sym d) r.1

pub told_no_length : (p : Problem) (ds : List Disjunct) (x : ℕ) → ds ≡ [] → x ≡ count_of p → x ≡ 0 → length ds ≡ count_of p
told_no_length p ds x d e z = ap length d ∙ sym z ∙ e

pub ruleset disjuncts_rules = (length-told_few, told_small, told_none, told_no_length)
