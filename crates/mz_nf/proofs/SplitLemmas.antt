-- Each way in which a formula and a list of formulas is split.
use Rattle.std.proofs.Common.{◌≡◌, ◌<◌, ◌≤◌, ◌+◌, ◌*◌, ℕ, suc, List, [], ◌∷◌, ◌++◌, refl, arith, ap, sym, ◌∙◌, Bool, true, false, subst, add-one, take, get_or, length}
use Rattle.std.specs.Prelude.{if◌then◌else◌, not}
use Rattle.std.proofs.Math.Seq.{take-suc}
use Rattle.std.proofs.lemmas.List.{take_all}
use Rattle.mz_logic.specs.declared.sym.Sym.{Sym}
use Rattle.mz_logic.specs.Term.{Term, Const}
use Rattle.mz_logic.specs.Formula.{Formula, Truth, Eq, Atom, Not, And, All}
use Rattle.mz_logic.specs.FormulaStorage.{formula_size}
use Rattle.mz_logic.specs.Substitution.{body_at, value_at}
use Rattle.mz_logic.proofs.Equivalence.{formula_size-substitute_formula}
use Rattle.mz_logic.specs.declared.literal.Literal.TheVariants as literal
use Rattle.mz_logic.specs.declared.disjunct.Disjunct.{Disjunct}
use Rattle.mz_nf.specs.declared.problem.Problem.{Problem}
use Rattle.mz_nf.specs.Problem.{has_constant}
use Rattle.mz_nf.specs.Disjunct.{empty, of_literal, of_universal, pairs}
use Rattle.mz_nf.specs.Constants.{IsLeastUnused}
use Rattle.mz_nf.specs.Splits as splits
use Rattle.mz_nf.specs.Splits.{Splits, SplitsAll, AreDisjuncts}
use Rattle.mz_nf.specs.Takes as takes
use Rattle.mz_nf.specs.Takes.{Takes}
use Rattle.mz_nf.specs.Count.{count}
use Rattle.mz_nf.proofs.PairLemmas.{pairs_assoc, pairs-empty, empty-pairs}
use Rattle.mz_nf.proofs.TakesLemmas.{HasSplit, takes_split}
use Rattle.mz_nf.proofs.OneListLemmas.{length-splits_count}

-- a formula, by its form
pub told_truth : (used : ℕ → Bool) (s : Bool) (f : Formula) (k : ℕ) (ds : List Disjunct) → f ≡ Truth → ds ≡ (if s then empty ∷ [] else []) → Splits used s f k ds k
told_truth used true f k ds e h = rw (e, h) (splits.truth k)
told_truth used false f k ds e h = rw (e, h) (splits.truth_negated k)

pub told_equation : (used : ℕ → Bool) (s : Bool) (f : Formula) (t u : Term) (k : ℕ) (ds : List Disjunct) → f ≡ Eq t u → ds ≡ of_literal (literal.Eq s t u) ∷ [] → Splits used s f k ds k
told_equation used s f t u k ds e h = rw (e, h) (splits.equation s t u k)

pub told_atom : (used : ℕ → Bool) (s : Bool) (f : Formula) (p : Sym) (ts : List Term) (k : ℕ) (ds : List Disjunct) → f ≡ Atom p ts → ds ≡ of_literal (literal.Atom s p ts) ∷ [] → Splits used s f k ds k
told_atom used s f p ts k ds e h = rw (e, h) (splits.atom s p ts k)

pub told_negation : (used : ℕ → Bool) (s : Bool) (f g : Formula) (k m : ℕ) (ds : List Disjunct) → f ≡ Not g → Splits used (not s) g k ds m → Splits used s f k ds m
told_negation used true f g k m ds e h = rw e (splits.negation g k m ds h)
told_negation used false f g k m ds e h = rw e (splits.negation_negated g k m ds h)

pub told_conjunction : (used : ℕ → Bool) (s : Bool) (f g h : Formula) (k m : ℕ) (ds : List Disjunct) → f ≡ And g h → Splits used s (And g h) k ds m → Splits used s f k ds m
told_conjunction used s f g h k m ds e a = rw e a

pub told_universal : (used : ℕ → Bool) (s : Bool) (f b : Formula) (k : ℕ) (ds : List Disjunct) → s ≡ true → f ≡ All b → ds ≡ of_universal f ∷ [] → Splits used s f k ds k
told_universal used s f b k ds z e h = rw (z, h, e) (splits.universal b k)

pub told_universal_negated : (used : ℕ → Bool) (s : Bool) (f b g : Formula) (k c a m : ℕ) (ds : List Disjunct) → s ≡ false → f ≡ All b → IsLeastUnused used k c → a ≡ c + 1 → g ≡ body_at b (Const c) → Splits used false g a ds m → Splits used s f k ds m
told_universal_negated used s f b g k c a m ds z e i ea eg h =
    let q : a ≡ suc c = ea ∙ add-one c in
    let P : Formula → ℕ → Type 0 = λ x n. Splits used false x n ds m in
    rw (z, e) (splits.universal_negated b k c m ds i (subst (λ (x : Formula). P x (suc c)) eg (subst (λ (n : ℕ). P g n) q h)))

-- a conjunction, from its parts
pub told_pair : (used : ℕ → Bool) (s : Bool) (g h : Formula) (k m n : ℕ) (ds es all : List Disjunct) → Splits used s g k ds m → Splits used s h m es n → all ≡ (if s then pairs ds es else ds ++ es) → Splits used s (And g h) k all n
told_pair used true g h k m n ds es all a b p = rw p (splits.conjunction g h k m n ds es a b)
told_pair used false g h k m n ds es all a b p = rw p (splits.conjunction_negated g h k m n ds es a b)

-- a conjunction without disjuncts, of which only the constants are taken
nothing : (ds : List Disjunct) → length ds ≡ 0 → ds ≡ []
nothing [] e = refl
nothing (d ∷ ds) e = absurd (omega arith)

pub told_nothing : (used : ℕ → Bool) (s : Bool) (g h : Formula) (k m n : ℕ) (ds : List Disjunct) → s ≡ true → count true g * count true h ≡ 0 → Takes used true g k m → Takes used true h m n → ds ≡ [] → Splits used s (And g h) k ds n
told_nothing used s g h k m n ds z c a b ed =
    let r : HasSplit used true (And g h) k n = takes_split used true (And g h) k n (takes.conjunction true g h k m n a b) in
    let none : r.0 ≡ [] = nothing r.0 (length-splits_count used true (And g h) k n r.0 r.1 ∙ c) in
    rw (z, ed) (subst (λ (y : List Disjunct). Splits used true (And g h) k y n) none r.1)

pub ruleset pair_rules = (told_pair, told_nothing)

-- the instance is smaller than the universal
pub smaller : (f b g : Formula) (c : Term) → f ≡ All b → g ≡ body_at b c → formula_size g < formula_size f
smaller f b g c e h =
    let q : formula_size g ≡ formula_size b = ap formula_size h ∙ formula_size-substitute_formula 0 (value_at (c ∷ [])) b in
    rw e (omega arith)

pub ruleset split_rules = (told_truth, told_equation, told_atom, told_negation, told_conjunction, told_universal, told_universal_negated, smaller)

-- the constants of a formula, by its form
pub took_truth : (used : ℕ → Bool) (s : Bool) (f : Formula) (k : ℕ) → f ≡ Truth → Takes used s f k k
took_truth used s f k e = rw e (takes.truth s k)

pub took_equation : (used : ℕ → Bool) (s : Bool) (f : Formula) (t u : Term) (k : ℕ) → f ≡ Eq t u → Takes used s f k k
took_equation used s f t u k e = rw e (takes.equation s t u k)

pub took_atom : (used : ℕ → Bool) (s : Bool) (f : Formula) (p : Sym) (ts : List Term) (k : ℕ) → f ≡ Atom p ts → Takes used s f k k
took_atom used s f p ts k e = rw e (takes.atom s p ts k)

pub took_negation : (used : ℕ → Bool) (s : Bool) (f g : Formula) (k m : ℕ) → f ≡ Not g → Takes used (not s) g k m → Takes used s f k m
took_negation used true f g k m e h = rw e (takes.negation g k m h)
took_negation used false f g k m e h = rw e (takes.negation_negated g k m h)

pub took_conjunction : (used : ℕ → Bool) (s : Bool) (f g h : Formula) (k m n : ℕ) → f ≡ And g h → Takes used s g k m → Takes used s h m n → Takes used s f k n
took_conjunction used s f g h k m n e a b = rw e (takes.conjunction s g h k m n a b)

pub took_universal : (used : ℕ → Bool) (s : Bool) (f b : Formula) (k : ℕ) → s ≡ true → f ≡ All b → Takes used s f k k
took_universal used s f b k z e = rw (z, e) (takes.universal b k)

pub took_universal_negated : (used : ℕ → Bool) (s : Bool) (f b : Formula) (k c a m : ℕ) → s ≡ false → f ≡ All b → IsLeastUnused used k c → a ≡ c + 1 → Takes used false b a m → Takes used s f k m
took_universal_negated used s f b k c a m z e i ea h =
    let q : a ≡ suc c = ea ∙ add-one c in
    rw (z, e) (takes.universal_negated b k c m i (subst (λ (n : ℕ). Takes used false b n m) q h))

pub ruleset takes_rules = (took_truth, took_equation, took_atom, took_negation, took_conjunction, took_universal, took_universal_negated)

-- one more formula behind a list
pub splits_more : (used : ℕ → Bool) (fs : List Formula) (f : Formula) (k m n : ℕ) (ds es : List Disjunct) → SplitsAll used fs k ds m → Splits used true f m es n → SplitsAll used (fs ++ f ∷ []) k (pairs ds es) n
splits_more used fs f k m n ds es (splits.end l) h =
    subst (λ (x : List Disjunct). SplitsAll used (f ∷ []) l x n) (pairs-empty es ∙ sym (empty-pairs es)) (splits.next f [] l n n es (empty ∷ []) h (splits.end n))
splits_more used fs f k m n ds es (splits.next g gs l o r xs ys h i) j =
    subst (λ (x : List Disjunct). SplitsAll used (g ∷ (gs ++ f ∷ [])) l x n) (sym (pairs_assoc xs ys es))
    (splits.next g (gs ++ f ∷ []) l o n xs (pairs ys es) h (splits_more used gs f o r n ys es i j))

pub told_none_yet : (used : ℕ → Bool) (k : ℕ) (ds : List Disjunct) → ds ≡ empty ∷ [] → SplitsAll used [] k ds k
told_none_yet used k ds e = rw e (splits.end k)

pub told_one_more : (used : ℕ → Bool) (fs : List Formula) (f : Formula) (i k m n : ℕ) (ds es all : List Disjunct) → SplitsAll used (take i fs) k ds m → Splits used true f m es n → all ≡ pairs ds es → f ≡ get_or fs i f → i < length fs → SplitsAll used (take (i + 1) fs) k all n
told_one_more used fs f i k m n ds es all a b e g lt =
    let more : take (i + 1) fs ≡ take i fs ++ f ∷ [] = ap (λ x. take x fs) (add-one i) ∙ take-suc fs i f lt ∙ ap (λ y. take i fs ++ y ∷ []) (sym g) in
    rw e (subst (λ (gs : List Formula). SplitsAll used gs k (pairs ds es) n) (sym more) (splits_more used (take i fs) f k m n ds es a b))

pub told_all : (used : ℕ → Bool) (fs : List Formula) (i k m : ℕ) (ds : List Disjunct) → SplitsAll used (take i fs) k ds m → length fs ≤ i → SplitsAll used fs k ds m
told_all used fs i k m ds h le = subst (λ (gs : List Formula). SplitsAll used gs k ds m) (take_all i fs le) h

pub ruleset list_rules = (told_none_yet, told_one_more, told_all)

-- the premises and then the negated conclusion
pub told_problem : (p : Problem) (used : ℕ → Bool) (m n : ℕ) (ds es all : List Disjunct) → ((c : ℕ) → used c ≡ has_constant p c) → SplitsAll used p.premises 1 ds m → Splits used false p.conclusion m es n → all ≡ pairs ds es → AreDisjuncts p all
told_problem p used m n ds es all same a b e =
    let whole : SplitsAll used (p.premises ++ Not p.conclusion ∷ []) 1 (pairs ds es) n = splits_more used p.premises (Not p.conclusion) 1 m n ds es a (splits.negation p.conclusion m n es b) in
    let equal : used ≡ has_constant p = λ i c. same c i in
    rw e (n, subst (λ (u : ℕ → Bool). SplitsAll u (p.premises ++ Not p.conclusion ∷ []) 1 (pairs ds es) n) equal whole)

pub ruleset problem_rules = (told_problem)
