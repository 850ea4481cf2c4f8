-- More cases than can be owed to agree within the limits.
use Rattle.std.proofs.Common.{◌≡◌, ◌≤◌, ◌<◌, ◌+◌, ◌-◌, ℕ, zero, suc, Bool, true, false, List, [], ◌∷◌, ◌++◌, map, length, refl, sym, ap, ◌∙◌, subst, arith}
use Rattle.std.specs.List.{list_all}
use Rattle.std.specs.Prelude.{nat_le, ◌&&◌, flat_map}
use Rattle.std.proofs.lemmas.Bool.{leb-true, leb-false, le-leb}
use Rattle.mz_core.specs.Parts.{conjunction_to}
use Rattle.mz_core.specs.Statement.{Statement, And}
use Rattle.mz_core.specs.TypedSequent.{typed_sequent}
use Rattle.mz_core.specs.declared.formula_definiens.FormulaCase.{FormulaCase}
use Rattle.mz_core.specs.declared.item.Item.{Item}
use Rattle.mz_core.specs.declared.item.Item.TheVariants as item
use Rattle.mz_core.specs.declared.soft_type.SoftType.{SoftType}
use Rattle.mz_core.specs.declared.term_definiens.TermCase.{TermCase}
use Rattle.mz_core.specs.declared.typed_sequent.TypedSequent.{TypedSequent}
use Rattle.mz_cluster_items.specs.Items.{sequent_keeps}
use Rattle.mz_defined.specs.Owing.{all_keep}
use Rattle.mz_heading.specs.Cases.{case_count}
use Rattle.mz_items.specs.Cases.{formula_cases, term_cases, agree_in_type, agree_as_formulas, agree_as_terms, agreements_in_type, agreements_as_formulas, agreements_as_terms}
use Rattle.mz_items.specs.DefinitionRows.{consistency}
use Rattle.mz_items.specs.Items.{owed_if_any, owed_condition, owed_conditions, owed_statements, granted_statements}
use Rattle.mz_items.specs.Loci.{over}
use Rattle.mz_items.specs.declared.condition.Condition.{Condition}
use Rattle.mz_items.specs.declared.condition.Condition.TheVariants.{Existence, Uniqueness, Coherence, Compatibility, Consistency, Reducibility}
use Rattle.mz_sizes.specs.Sizes.{statement_nodes, statement_depth, statement_keeps}

-- how many pairs there are of so many
abbrev pairs : ℕ → ℕ
pairs zero = 0
pairs (suc n) = n + pairs n

abbrev beyond : ℕ → ℕ
beyond zero = 33
beyond (suc m) = suc (beyond m)

beyond-is : (m : ℕ) → beyond m ≡ m + 33
beyond-is zero = omega arith
beyond-is (suc m) = omega (arith, beyond-is m)

many_pairs : (m : ℕ) → 528 ≤ pairs (beyond m)
many_pairs zero = omega arith
many_pairs (suc m) = let before : 528 ≤ pairs (beyond m) = many_pairs m in omega (arith, before)

pairs_beyond : (n : ℕ) → 32 < n → 528 ≤ pairs n
pairs_beyond n lt =
    let is : beyond (n - 33) ≡ (n - 33) + 33 = beyond-is (n - 33) in
    let same : beyond (n - 33) ≡ n = omega (arith, is, lt) in
    subst (λ m. 528 ≤ pairs m) same (many_pairs (n - 33))

length-map : {X Y : Type 0} (f : X → Y) (xs : List X) → length (map f xs) ≡ length xs
length-map f [] = refl
length-map f (x ∷ xs) = ap suc (length-map f xs)

length-append : {X : Type 0} (xs ys : List X) → length (xs ++ ys) ≡ length xs + length ys
length-append [] ys = omega arith
length-append (x ∷ xs) ys = let before : length (xs ++ ys) ≡ length xs + length ys = length-append xs ys in omega (arith, before)

both_lengths : {X Y : Type 0} (f : X → Y) (xs : List X) (ys : List Y) (n : ℕ) → length ys ≡ n → length (map f xs ++ ys) ≡ length xs + n
both_lengths f xs ys n e = length-append (map f xs) ys ∙ (ap (λ m. m + length ys) (length-map f xs) ∙ ap (λ m. length xs + m) e)

pairs_in_type : (ty : SoftType) (cs : List FormulaCase) → length (agreements_in_type ty cs) ≡ pairs (length cs)
pairs_in_type ty [] = refl
pairs_in_type ty (c ∷ cs) = both_lengths (agree_in_type ty c) cs (agreements_in_type ty cs) (pairs (length cs)) (pairs_in_type ty cs)

pairs_as_formulas : (cs : List FormulaCase) → length (agreements_as_formulas cs) ≡ pairs (length cs)
pairs_as_formulas [] = refl
pairs_as_formulas (c ∷ cs) = both_lengths (agree_as_formulas c) cs (agreements_as_formulas cs) (pairs (length cs)) (pairs_as_formulas cs)

pairs_as_terms : (cs : List TermCase) → length (agreements_as_terms cs) ≡ pairs (length cs)
pairs_as_terms [] = refl
pairs_as_terms (c ∷ cs) = both_lengths (agree_as_terms c) cs (agreements_as_terms cs) (pairs (length cs)) (pairs_as_terms cs)

-- what is joined of so many is as deep

depth_joined_more : (s : Statement) (ss : List Statement) → statement_depth s + length ss ≤ statement_depth (conjunction_to s ss)
depth_joined_more s [] = omega arith
depth_joined_more s (t ∷ ts) = let later : statement_depth (And s t) + length ts ≤ statement_depth (conjunction_to (And s t) ts) = depth_joined_more (And s t) ts in omega (arith, later)

depth_joined : (s : Statement) (ss : List Statement) → length ss ≤ statement_depth (conjunction_to s ss)
depth_joined s ss = let most : statement_depth s + length ss ≤ statement_depth (conjunction_to s ss) = depth_joined_more s ss in omega (arith, most)

depth_over : (tys : List SoftType) (s : Statement) → statement_depth s ≤ statement_depth (over tys s)
depth_over [] s = omega arith
depth_over (ty ∷ tys) s = let later : statement_depth s ≤ statement_depth (over tys s) = depth_over tys s in omega (arith, later)

above : (n m : ℕ) (b : Bool) → nat_le n m ≡ b → m < n → b ≡ false
above n m true e lt = let le : n ≤ m = leb-true n m e in absurd (omega (arith, le, lt))
above n m false e lt = refl

and_false : (a b : Bool) → b ≡ false → (a && b) ≡ false
and_false true b e = e
and_false false b e = refl

false_and : (a b : Bool) → a ≡ false → (a && b) ≡ false
false_and a b e = ap (λ x. x && b) e

too_deep : (s : Statement) → 512 < statement_depth s → statement_keeps s ≡ false
too_deep s lt = and_false (nat_le (statement_nodes s) 65536) (nat_le (statement_depth s) 512) (above (statement_depth s) 512 (nat_le (statement_depth s) 512) refl lt)

-- so consistency isn't within the limits

consistency_beyond : (loci : List SoftType) (ss : List Statement) → 528 ≤ length ss → list_all sequent_keeps (owed_if_any loci (consistency ss)) ≡ false
consistency_beyond loci [] le = absurd (omega (arith, le))
consistency_beyond loci (s ∷ ss) le =
    let long : 527 ≤ length ss = omega (arith, le) in
    let deep : length ss ≤ statement_depth (conjunction_to s ss) = depth_joined s ss in
    let more : statement_depth (conjunction_to s ss) ≤ statement_depth (over loci (conjunction_to s ss)) = depth_over loci (conjunction_to s ss) in
    false_and (sequent_keeps (typed_sequent [] (over loci (conjunction_to s ss)))) true (too_deep (over loci (conjunction_to s ss)) (omega (arith, long, deep, more)))

behind_false : {X : Type 0} (test : X → Bool) (xs ys : List X) → list_all test ys ≡ false → list_all test (xs ++ ys) ≡ false
behind_false test [] ys e = e
behind_false test (x ∷ xs) ys e = and_false (test x) (list_all test (xs ++ ys)) (behind_false test xs ys e)

true_false : true ≡ false → ⊥
true_false e = cc

either_false : (a b c : Bool) → (a && b) ≡ false → (b ≡ false → c ≡ false) → (a && c) ≡ false
either_false true b c e k = k e
either_false false b c e k = refl

before_false : {X : Type 0} (test : X → Bool) (xs ys : List X) → list_all test xs ≡ false → list_all test (xs ++ ys) ≡ false
before_false test [] ys e = absurd (true_false e)
before_false test (x ∷ xs) ys e = either_false (test x) (list_all test xs) (list_all test (xs ++ ys)) e (λ k. before_false test xs ys k)

conditions_beyond : (loci : List SoftType) (x : Item) → list_all sequent_keeps (owed_condition loci x Consistency) ≡ false → list_all sequent_keeps (owed_conditions loci x) ≡ false
conditions_beyond loci x e =
    let f : Condition → List TypedSequent = owed_condition loci x in
    let last : List TypedSequent = flat_map f (Reducibility ∷ []) in
    let fifth : list_all sequent_keeps (f Consistency ++ last) ≡ false = before_false sequent_keeps (f Consistency) last e in
    let fourth : list_all sequent_keeps (f Compatibility ++ (f Consistency ++ last)) ≡ false = behind_false sequent_keeps (f Compatibility) (f Consistency ++ last) fifth in
    let third : list_all sequent_keeps (f Coherence ++ (f Compatibility ++ (f Consistency ++ last))) ≡ false = behind_false sequent_keeps (f Coherence) (f Compatibility ++ (f Consistency ++ last)) fourth in
    let second : list_all sequent_keeps (f Uniqueness ++ (f Coherence ++ (f Compatibility ++ (f Consistency ++ last)))) ≡ false = behind_false sequent_keeps (f Uniqueness) (f Coherence ++ (f Compatibility ++ (f Consistency ++ last))) third in
    behind_false sequent_keeps (f Existence) (f Uniqueness ++ (f Coherence ++ (f Compatibility ++ (f Consistency ++ last)))) second

many : (n m : ℕ) → n ≡ pairs m → 32 < m → 528 ≤ n
many n m e lt = subst (λ k. 528 ≤ k) (sym e) (pairs_beyond m lt)

owed_beyond : (x : Item) → 32 < case_count x → list_all sequent_keeps (owed_statements x) ≡ false
owed_beyond (item.FunctorMeans d) lt =
    let cs : List FormulaCase = formula_cases d.definiens in
    conditions_beyond d.pattern.loci (item.FunctorMeans d) (consistency_beyond d.pattern.loci (agreements_in_type d.ty cs) (many (length (agreements_in_type d.ty cs)) (length cs) (pairs_in_type d.ty cs) lt))
owed_beyond (item.FunctorEquals d) lt =
    let cs : List TermCase = term_cases d.definiens in
    conditions_beyond d.pattern.loci (item.FunctorEquals d) (consistency_beyond d.pattern.loci (agreements_as_terms cs) (many (length (agreements_as_terms cs)) (length cs) (pairs_as_terms cs) lt))
owed_beyond (item.Predicate d) lt =
    let cs : List FormulaCase = formula_cases d.definiens in
    conditions_beyond d.pattern.loci (item.Predicate d) (consistency_beyond d.pattern.loci (agreements_as_formulas cs) (many (length (agreements_as_formulas cs)) (length cs) (pairs_as_formulas cs) lt))
owed_beyond (item.Attribute d) lt =
    let cs : List FormulaCase = formula_cases d.definiens in
    conditions_beyond d.pattern.loci (item.Attribute d) (consistency_beyond d.pattern.loci (agreements_as_formulas cs) (many (length (agreements_as_formulas cs)) (length cs) (pairs_as_formulas cs) lt))
owed_beyond (item.ModeMeans d) lt =
    let cs : List FormulaCase = formula_cases d.definiens in
    conditions_beyond d.pattern.loci (item.ModeMeans d) (consistency_beyond d.pattern.loci (agreements_in_type d.ty cs) (many (length (agreements_in_type d.ty cs)) (length cs) (pairs_in_type d.ty cs) lt))
owed_beyond (item.Axiom s) lt = absurd (omega (arith, lt))
owed_beyond (item.AxiomScheme s) lt = absurd (omega (arith, lt))
owed_beyond (item.Primitive n) lt = absurd (omega (arith, lt))
owed_beyond (item.Theorem s) lt = absurd (omega (arith, lt))
owed_beyond (item.Scheme s) lt = absurd (omega (arith, lt))
owed_beyond (item.Abbreviation n) lt = absurd (omega (arith, lt))
owed_beyond (item.Notation n) lt = absurd (omega (arith, lt))
owed_beyond (item.RedefinedFunctor d) lt = absurd (omega (arith, lt))
owed_beyond (item.RedefinedMode d) lt = absurd (omega (arith, lt))
owed_beyond (item.RedefinedPredicate d) lt = absurd (omega (arith, lt))
owed_beyond (item.RedefinedAttribute d) lt = absurd (omega (arith, lt))
owed_beyond (item.Property p) lt = absurd (omega (arith, lt))
owed_beyond (item.Existential r) lt = absurd (omega (arith, lt))
owed_beyond (item.Conditional r) lt = absurd (omega (arith, lt))
owed_beyond (item.Functorial r) lt = absurd (omega (arith, lt))
owed_beyond (item.Reduction r) lt = absurd (omega (arith, lt))
owed_beyond (item.Identification r) lt = absurd (omega (arith, lt))
owed_beyond (item.Structure s) lt = absurd (omega (arith, lt))
owed_beyond (item.SetTerm s) lt = absurd (omega (arith, lt))
owed_beyond (item.Choice c) lt = absurd (omega (arith, lt))

not_within : (n : ℕ) (b : Bool) → nat_le n 32 ≡ b → b ≡ false → 32 < n
not_within n true e f = absurd (true_false f)
not_within n false e f = omega (arith, leb-false n 32 e)

pub told_many_cases : (count : ℕ) (x : Item) (b : Bool) → b ≡ nat_le (case_count x) 32 → b ≡ false → false ≡ all_keep count x
told_many_cases count x b eb ef =
    sym (and_false (nat_le count 512) (list_all sequent_keeps (owed_statements x) && list_all statement_keeps (granted_statements x))
    (false_and (list_all sequent_keeps (owed_statements x)) (list_all statement_keeps (granted_statements x)) (owed_beyond x (not_within (case_count x) b (sym eb) ef))))

pub told_not_granted : (count : ℕ) (x : Item) (b : Bool) → b ≡ list_all statement_keeps (granted_statements x) → b ≡ false → false ≡ all_keep count x
told_not_granted count x b eb ef =
    sym (and_false (nat_le count 512) (list_all sequent_keeps (owed_statements x) && list_all statement_keeps (granted_statements x))
    (and_false (list_all sequent_keeps (owed_statements x)) (list_all statement_keeps (granted_statements x)) (sym eb ∙ ef)))

and_true : (a b : Bool) → b ≡ true → (a && b) ≡ a
and_true true b e = e
and_true false b e = refl

pub told_owed : (count : ℕ) (x : Item) (b d : Bool) → count ≤ 512 → b ≡ list_all statement_keeps (granted_statements x) → b ≡ true → d ≡ list_all sequent_keeps (owed_statements x) → d ≡ all_keep count x
told_owed count x b d le eb et ed =
    ed ∙ (sym (and_true (list_all sequent_keeps (owed_statements x)) (list_all statement_keeps (granted_statements x)) (sym eb ∙ et)) ∙
    ap (λ a. a && (list_all sequent_keeps (owed_statements x) && list_all statement_keeps (granted_statements x))) (sym (le-leb count 512 le)))

pub ruleset limit_rules = (told_many_cases, told_not_granted, told_owed)
