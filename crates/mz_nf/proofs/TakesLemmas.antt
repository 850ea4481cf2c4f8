-- Each formula has disjuncts, also where only its constants are taken.
use Rattle.std.proofs.Common.{◌≡◌, ◌<◌, ◌≤◌, ℕ, zero, suc, ◌+◌, List, [], ◌∷◌, ◌++◌, map, refl, ap, subst, arith, Bool, true, false}
use Rattle.std.specs.Prelude.{nat_lt}
use Rattle.std.proofs.lemmas.Bool.{ltb-true, ltb-false}
use Rattle.mz_logic.specs.Term.{Term, Const}
use Rattle.mz_logic.specs.Formula.{Formula, Truth, Eq, Atom, Not, And, All}
use Rattle.mz_logic.specs.FormulaStorage.{formula_size}
use Rattle.mz_logic.proofs.Equivalence.{formula_size-substitute_formula}
use Rattle.mz_logic.specs.Substitution.{substitute, substitute_formula, value_at, body_at}
use Rattle.mz_logic.specs.declared.literal.Literal.TheVariants as literal
use Rattle.mz_logic.specs.declared.disjunct.Disjunct.{Disjunct}
use Rattle.mz_nf.specs.Disjunct.{empty, of_literal, of_universal, pairs}
use Rattle.mz_nf.specs.Constants.{IsLeastUnused}
use Rattle.mz_nf.specs.Splits as splits
use Rattle.mz_nf.specs.Splits.{Splits, SplitsAll}
use Rattle.mz_nf.specs.Takes as takes
use Rattle.mz_nf.specs.Takes.{Takes}

-- from n on no number is used
abbrev pub IsBounded : (ℕ → Bool) → ℕ → Type 0
IsBounded used n = (c : ℕ) → n ≤ c → used c ≡ false

-- a least unused number from any number on
least_here : (used : ℕ → Bool) (k : ℕ) → used k ≡ false → (c : ℕ) × IsLeastUnused used k c
least_here used k e = (k, record { reached = omega arith; unused = e; least = λ j le lt. absurd (omega arith) })

least_or_next : (used : ℕ → Bool) (k c : ℕ) → used k ≡ true → IsLeastUnused used (suc k) c → (j : ℕ) (b : Bool) → nat_lt k j ≡ b → k ≤ j → j < c → used j ≡ true
least_or_next used k c e h j true t le lt =
    let above : k < j = ltb-true k j t in
    h.least j (omega arith) lt
least_or_next used k c e h j false t le lt =
    let below : j ≤ k = ltb-false k j t in
    let same : k ≡ j = omega arith in
    subst (λ (x : ℕ). used x ≡ true) same e

least_later : (used : ℕ → Bool) (k c : ℕ) → used k ≡ true → IsLeastUnused used (suc k) c → IsLeastUnused used k c
least_later used k c e h =
    let far : suc k ≤ c = h.reached in
    record { reached = omega arith; unused = h.unused; least = λ j le lt. least_or_next used k c e h j (nat_lt k j) refl le lt }

pub not_both : (b : Bool) → b ≡ true → b ≡ false → ⊥
not_both true p q = cc
not_both false p q = cc

least_from : (used : ℕ → Bool) (n : ℕ) → IsBounded used n → (fuel k : ℕ) → n ≤ k + fuel → (b : Bool) → used k ≡ b → (c : ℕ) × IsLeastUnused used k c
least_from used n h zero k le false e = least_here used k e
least_from used n h zero k le true e = absurd (not_both (used k) e (h k (omega arith)))
least_from used n h (suc fuel) k le false e = least_here used k e
least_from used n h (suc fuel) k le true e =
    let r : (c : ℕ) × IsLeastUnused used (suc k) c = least_from used n h fuel (suc k) (omega arith) (used (suc k)) refl in
    (r.0, least_later used k r.0 e r.1)

pub least_exists : (used : ℕ → Bool) (n : ℕ) → IsBounded used n → (k : ℕ) → (c : ℕ) × IsLeastUnused used k c
least_exists used n h k = least_from used n h n k (omega arith) (used k) refl

-- constants can be taken for each formula
pub takes_exist : (used : ℕ → Bool) (n : ℕ) → IsBounded used n → (s : Bool) (f : Formula) (k : ℕ) → (m : ℕ) × Takes used s f k m
takes_exist used n h s Truth k = (k, takes.truth s k)
takes_exist used n h s (Eq t u) k = (k, takes.equation s t u k)
takes_exist used n h s (Atom p ts) k = (k, takes.atom s p ts k)
takes_exist used n h true (Not f) k =
    let r : (m : ℕ) × Takes used false f k m = takes_exist used n h false f k in
    (r.0, takes.negation f k r.0 r.1)
takes_exist used n h false (Not f) k =
    let r : (m : ℕ) × Takes used true f k m = takes_exist used n h true f k in
    (r.0, takes.negation_negated f k r.0 r.1)
takes_exist used n h s (And f g) k =
    let r : (m : ℕ) × Takes used s f k m = takes_exist used n h s f k in
    let q : (m : ℕ) × Takes used s g r.0 m = takes_exist used n h s g r.0 in
    (q.0, takes.conjunction s f g k r.0 q.0 r.1 q.1)
takes_exist used n h true (All b) k = (k, takes.universal b k)
takes_exist used n h false (All b) k =
    let c : (c : ℕ) × IsLeastUnused used k c = least_exists used n h k in
    let r : (m : ℕ) × Takes used false b (suc c.0) m = takes_exist used n h false b (suc c.0) in
    (r.0, takes.universal_negated b k c.0 r.0 c.1 r.1)

-- a formula takes as many as any instance
takes-substitute_formula : (used : ℕ → Bool) (s : Bool) (f : Formula) (k m : ℕ) → Takes used s f k m → (d : ℕ) (v : ℕ → Term) → Takes used s (substitute_formula d v f) k m
takes-substitute_formula used s f k m (takes.truth b l) d v = takes.truth b l
takes-substitute_formula used s f k m (takes.equation b t u l) d v = takes.equation b (substitute d v t) (substitute d v u) l
takes-substitute_formula used s f k m (takes.atom b p ts l) d v = takes.atom b p (map (substitute d v) ts) l
takes-substitute_formula used s f k m (takes.negation g l n h) d v = takes.negation (substitute_formula d v g) l n (takes-substitute_formula used false g l n h d v)
takes-substitute_formula used s f k m (takes.negation_negated g l n h) d v = takes.negation_negated (substitute_formula d v g) l n (takes-substitute_formula used true g l n h d v)
takes-substitute_formula used s f k m (takes.conjunction b p q l n o h i) d v =
    takes.conjunction b (substitute_formula d v p) (substitute_formula d v q) l n o (takes-substitute_formula used b p l n h d v) (takes-substitute_formula used b q n o i d v)
takes-substitute_formula used s f k m (takes.universal b l) d v = takes.universal (substitute_formula (d + 1) v b) l
takes-substitute_formula used s f k m (takes.universal_negated b l c n i h) d v = takes.universal_negated (substitute_formula (d + 1) v b) l c n i (takes-substitute_formula used false b (suc c) n h (d + 1) v)

-- some disjuncts
abbrev pub HasSplit : (ℕ → Bool) → Bool → Formula → ℕ → ℕ → Type 0
HasSplit used s f k m = (ds : List Disjunct) × Splits used s f k ds m

truth_splits : (used : ℕ → Bool) (s : Bool) (k : ℕ) → HasSplit used s Truth k k
truth_splits used true k = (empty ∷ [], splits.truth k)
truth_splits used false k = ([], splits.truth_negated k)

conjunction_splits : (used : ℕ → Bool) (s : Bool) (f g : Formula) (k m n : ℕ) → HasSplit used s f k m → HasSplit used s g m n → HasSplit used s (And f g) k n
conjunction_splits used true f g k m n p q = (pairs p.0 q.0, splits.conjunction f g k m n p.0 q.0 p.1 q.1)
conjunction_splits used false f g k m n p q = (p.0 ++ q.0, splits.conjunction_negated f g k m n p.0 q.0 p.1 q.1)

some_size : (f : Formula) → 1 ≤ formula_size f
some_size Truth = omega arith
some_size (Eq t u) = omega arith
some_size (Atom s ts) = omega arith
some_size (Not f) = omega arith
some_size (And f g) = omega arith
some_size (All f) = omega arith

-- where the constants up to m are taken, there are disjuncts that take them
takes_split_by : (used : ℕ → Bool) (n : ℕ) (s : Bool) (f : Formula) (k m : ℕ) → formula_size f ≤ n → Takes used s f k m → HasSplit used s f k m
takes_split_by used zero s f k m le h =
    let some : 1 ≤ formula_size f = some_size f in
    absurd (omega arith)
takes_split_by used (suc n) s f k m le (takes.truth b l) = truth_splits used b l
takes_split_by used (suc n) s f k m le (takes.equation b t u l) = (of_literal (literal.Eq b t u) ∷ [], splits.equation b t u l)
takes_split_by used (suc n) s f k m le (takes.atom b p ts l) = (of_literal (literal.Atom b p ts) ∷ [], splits.atom b p ts l)
takes_split_by used (suc n) s f k m le (takes.negation g l o h) =
    let r : HasSplit used false g l o = takes_split_by used n false g l o (omega arith) h in
    (r.0, splits.negation g l o r.0 r.1)
takes_split_by used (suc n) s f k m le (takes.negation_negated g l o h) =
    let r : HasSplit used true g l o = takes_split_by used n true g l o (omega arith) h in
    (r.0, splits.negation_negated g l o r.0 r.1)
takes_split_by used (suc n) s f k m le (takes.conjunction b p q l o r h i) =
    conjunction_splits used b p q l o r (takes_split_by used n b p l o (omega arith) h) (takes_split_by used n b q o r (omega arith) i)
takes_split_by used (suc n) s f k m le (takes.universal b l) = (of_universal (All b) ∷ [], splits.universal b l)
takes_split_by used (suc n) s f k m le (takes.universal_negated b l c o i h) =
    let size : formula_size (body_at b (Const c)) ≡ formula_size b = formula_size-substitute_formula 0 (value_at (Const c ∷ [])) b in
    let r : HasSplit used false (body_at b (Const c)) (suc c) o = takes_split_by used n false (body_at b (Const c)) (suc c) o (omega arith) (takes-substitute_formula used false b (suc c) o h 0 (value_at (Const c ∷ []))) in
    (r.0, splits.universal_negated b l c o r.0 i r.1)

pub takes_split : (used : ℕ → Bool) (s : Bool) (f : Formula) (k m : ℕ) → Takes used s f k m → HasSplit used s f k m
takes_split used s f k m h = takes_split_by used (formula_size f) s f k m (omega arith) h

-- a list of formulas has disjuncts
pub all_splits_exist : (used : ℕ → Bool) (n : ℕ) → IsBounded used n → (fs : List Formula) (k : ℕ) → (m : ℕ) × (ds : List Disjunct) × SplitsAll used fs k ds m
all_splits_exist used n h [] k = (k, empty ∷ [], splits.end k)
all_splits_exist used n h (f ∷ fs) k =
    let t : (m : ℕ) × Takes used true f k m = takes_exist used n h true f k in
    let a : HasSplit used true f k t.0 = takes_split used true f k t.0 t.1 in
    let b : (m : ℕ) × (ds : List Disjunct) × SplitsAll used fs t.0 ds m = all_splits_exist used n h fs t.0 in
    (b.0, pairs a.0 b.1, splits.next f fs k t.0 b.0 a.0 b.1 a.1 b.2)
