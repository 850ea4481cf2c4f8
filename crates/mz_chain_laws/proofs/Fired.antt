-- What clauses grant at closed terms, and the guards of loci there.
use Rattle.std.proofs.Common.{◌≡◌, ◌+◌, ◌≤◌, ℕ, zero, suc, List, [], ◌∷◌, ◌++◌, map, length, length-append, append_assoc, drop, reverse, refl, sym, ap, ◌∙◌, subst, arith, true, false, Option}
use Rattle.std.specs.Prelude.{Contains}
use Rattle.std.specs.List.{list_all}
use Rattle.std.proofs.lemmas.List.{reverse-append, length-reverse}
use Rattle.mz_logic.specs.Term.{Term, Bound}
use Rattle.mz_logic.specs.Formula.{Formula}
use Rattle.mz_logic.specs.Indices.{closed}
use Rattle.mz_logic.specs.Connectives.{quantified}
use Rattle.mz_logic.specs.Literal.{literal_formula}
use Rattle.mz_logic.specs.Substitution.{substitute_formula, value_at}
use Rattle.mz_logic.specs.Derives.{Derives}
use Rattle.mz_logic.specs.declared.literal.Literal.{Literal}
use Rattle.mz_logic.specs.declared.literal.Literal.TheVariants.{Atom, Eq}
use Rattle.mz_logic.proofs.ValueLaws.{substitute-value_at}
use Rattle.mz_logic.proofs.Each.{Along, along_each, along_append, quantified_out}
use Rattle.mz_core.specs.Guard.{guard, guard_literals}
use Rattle.mz_core.specs.Connectives.{guard_inside}
use Rattle.mz_core.specs.TypeShift.{shift_type}
use Rattle.mz_core.specs.declared.soft_type.SoftType.{SoftType}
use Rattle.mz_core.proofs.LawProofs.{guard_of_substitution}
use Rattle.mz_context.specs.declared.constants.Constant.{Constant}
use Rattle.mz_ground.specs.Instance.{literal_at}
use Rattle.mz_ground.specs.ClauseFormula.{implication, clause_formula}
use Rattle.mz_ground.specs.declared.clause.Clause.{Clause}
use Rattle.mz_ground.proofs.ClauseInstance.{substitute_formula-implication, implication_out}
use Rattle.mz_clauses.specs.Guards.{loci_guards}
use Rattle.mz_clause_laws.proofs.Instances.{formulas_at, formulas_at-append, guard_at_values}
use Rattle.mz_clause_laws.proofs.Valuations.{type_past}
use Rattle.mz_row_laws.specs.RowLaws.{HasClause}
use Rattle.mz_fits.specs.Fits.{LociFit, no_loci, and_locus, type_at}
use Rattle.mz_fits.specs.Laws.{AreGranted}
use Rattle.mz_fits.proofs.SoundLemmas.{fits_derives}

-- the clauses derive
abbrev pub AllDerive : List Formula → List Formula → List Clause → Type 0
AllDerive ax g cs = (c : Clause) → Contains cs c → Derives ax g (clause_formula c)

one_at : (ts : List Term) (l : Literal) → substitute_formula 0 (value_at ts) (literal_formula l) ≡ literal_formula (literal_at ts l)
one_at ts (Atom true s us) = refl
one_at ts (Atom false s us) = refl
one_at ts (Eq true a b) = refl
one_at ts (Eq false a b) = refl

literals_at : (ts : List Term) (ls : List Literal) → formulas_at ts ls ≡ map literal_formula (map (literal_at ts) ls)
literals_at ts [] = refl
literals_at ts (l ∷ ls) = λ i. one_at ts l i ∷ literals_at ts ls i

-- the conclusion of a clause at terms where its premises hold
pub fired : (ax g : List Formula) (cs : List Clause) → AllDerive ax g cs → (ts : List Term) → list_all closed ts ≡ true → (n : ℕ) (ps : List Literal) (k : Literal) → length ts ≡ n → HasClause cs n ps k → Along ax g (formulas_at ts ps) → Derives ax g (substitute_formula 0 (value_at ts) (literal_formula k))
fired ax g cs h ts ct n ps k long w a =
    let one : Derives ax g (quantified (length ts) (implication w.0.premises w.0.conclusion)) = subst (λ m. Derives ax g (quantified m (implication w.0.premises w.0.conclusion))) (w.2 ∙ sym long) (h w.0 w.1) in
    let two : Derives ax g (quantified (length ts) (implication ps w.0.conclusion)) = subst (λ (qs : List Literal). Derives ax g (quantified (length ts) (implication qs w.0.conclusion))) w.3 one in
    let three : Derives ax g (quantified (length ts) (implication ps k)) = subst (λ (l : Literal). Derives ax g (quantified (length ts) (implication ps l))) w.4 two in
    let at_terms : Derives ax g (implication (map (literal_at ts) ps) (literal_at ts k)) = subst (Derives ax g) (substitute_formula-implication ts ps k) (quantified_out ax g ts (implication ps k) ct three) in
    subst (Derives ax g) (sym (one_at ts k)) (implication_out ax g (map (literal_at ts) ps) (literal_at ts k) at_terms (subst (Along ax g) (literals_at ts ps) a))

-- each of several conclusions
pub fired_all : (ax g : List Formula) (cs : List Clause) → AllDerive ax g cs → (ts : List Term) → list_all closed ts ≡ true → (n : ℕ) (ps ks : List Literal) → length ts ≡ n → ((k : Literal) → Contains ks k → HasClause cs n ps k) → Along ax g (formulas_at ts ps) → Along ax g (formulas_at ts ks)
fired_all ax g cs h ts ct n ps [] long w a = tt
fired_all ax g cs h ts ct n ps (k ∷ ks) long w a =
    (fired ax g cs h ts ct n ps k long (w k (0, omega arith, refl)) a, fired_all ax g cs h ts ct n ps ks long (λ l c. w l (suc c.0, omega (arith, c.1), c.2)) a)

-- the guard of a type under one further variable, at a term for it
pub guard_at_term : (t : Term) (ts : List Term) (ty : SoftType) → map (substitute_formula 0 (value_at (t ∷ ts))) (guard_inside ty) ≡ guard (type_at ts ty) t
guard_at_term t ts ty = guard_of_substitution 0 (value_at (t ∷ ts)) (shift_type 0 1 ty) (Bound 0) ∙ (λ i. guard (type_past t ts ty i) (substitute-value_at (t ∷ ts) 0 i))

drop-past : (xs ys : List Term) → drop (length xs) (xs ++ ys) ≡ ys
drop-past [] ys = refl
drop-past (x ∷ xs) ys = drop-past xs ys

pub fit_length : (cs : List Clause) (ks : List (Option Constant)) (before : List Term) (tys : List SoftType) (vs : List Term) → LociFit cs ks before tys vs → length vs ≡ length tys
fit_length cs ks before tys vs (no_loci b) = refl
fit_length cs ks before tys vs (and_locus b ty others t us f rest) = ap suc (fit_length cs ks (t ∷ b) others us rest)

-- one value more, the innermost ones being the last
pub append-one_value_more : (t : Term) (us before : List Term) → reverse (t ∷ us) ++ before ≡ reverse us ++ (t ∷ before)
append-one_value_more t us before = ap (λ xs. xs ++ before) (reverse-append (t ∷ []) us) ∙ append_assoc (reverse us) (t ∷ []) before

-- values that fit the loci: their guards hold there, whatever stands for further variables
pub loci_hold : (ax g : List Formula) (cs : List Clause) (ks : List (Option Constant)) → AreGranted ax g cs ks → (by : ℕ) (ws before : List Term) (tys : List SoftType) (vs : List Term) → length ws ≡ by → LociFit cs ks before tys vs → Along ax g (formulas_at (ws ++ (reverse vs ++ before)) (loci_guards by tys))
loci_hold ax g cs ks grants by ws before tys vs long (no_loci b) = tt
loci_hold ax g cs ks grants by ws before tys vs long (and_locus b ty others t us f rest) =
    let first : List Literal = guard_literals (shift_type 0 (length others + 1 + by) ty) (Bound (length others + by)) in
    let a : length (ws ++ reverse us) ≡ length ws + length (reverse us) = length-append ws (reverse us) in
    let d : length (reverse us) ≡ length us = length-reverse us in
    let n : length us ≡ length others = fit_length cs ks (t ∷ b) others us rest in
    let split : ws ++ (reverse us ++ (t ∷ b)) ≡ (ws ++ reverse us) ++ (t ∷ b) = sym (append_assoc ws (reverse us) (t ∷ b)) in
    let count : length ((ws ++ reverse us) ++ (t ∷ b)) ≡ length (ws ++ reverse us) + length (t ∷ b) = length-append (ws ++ reverse us) (t ∷ b) in
    let whole : length (ws ++ (reverse us ++ (t ∷ b))) ≡ length ((ws ++ reverse us) ++ (t ∷ b)) = ap length split in
    let le : length others + by ≤ length (ws ++ (reverse us ++ (t ∷ b))) = omega (arith, a, d, n, count, whole, long) in
    let inner : length others + by ≡ length (ws ++ reverse us) = omega (arith, a, d, n, long) in
    let past : drop (length others + by) (ws ++ (reverse us ++ (t ∷ b))) ≡ t ∷ b = (λ i. drop (inner i) (split i)) ∙ drop-past (ws ++ reverse us) (t ∷ b) in
    let above : length others + by + 1 ≡ length others + 1 + by = omega arith in
    let said : Along ax g (guard (type_at b ty) t) = along_each ax g (guard (type_at b ty) t) (fits_derives ax g cs ks grants t (type_at b ty) f) in
    let inside : Along ax g (map (substitute_formula 0 (value_at (t ∷ b))) (guard_inside ty)) = subst (Along ax g) (sym (guard_at_term t b ty)) said in
    let dropped : Along ax g (map (substitute_formula 0 (value_at (drop (length others + by) (ws ++ (reverse us ++ (t ∷ b)))))) (guard_inside ty)) = subst (λ (us' : List Term). Along ax g (map (substitute_formula 0 (value_at us')) (guard_inside ty))) (sym past) inside in
    let raised : Along ax g (map (substitute_formula 0 (value_at (ws ++ (reverse us ++ (t ∷ b))))) (guard (shift_type 0 (length others + by + 1) ty) (Bound (length others + by)))) = subst (Along ax g) (sym (guard_at_values (length others + by) (ws ++ (reverse us ++ (t ∷ b))) ty le)) dropped in
    let here : Along ax g (formulas_at (ws ++ (reverse us ++ (t ∷ b))) first) = subst (λ m. Along ax g (map (substitute_formula 0 (value_at (ws ++ (reverse us ++ (t ∷ b))))) (guard (shift_type 0 m ty) (Bound (length others + by))))) above raised in
    let both : Along ax g (formulas_at (ws ++ (reverse us ++ (t ∷ b))) (loci_guards by (ty ∷ others))) = subst (Along ax g) (sym (formulas_at-append (ws ++ (reverse us ++ (t ∷ b))) first (loci_guards by others)))
    (along_append ax g (formulas_at (ws ++ (reverse us ++ (t ∷ b))) first) (formulas_at (ws ++ (reverse us ++ (t ∷ b))) (loci_guards by others)) here (loci_hold ax g cs ks grants by ws (t ∷ b) others us long rest)) in
    subst (λ (xs : List Term). Along ax g (formulas_at (ws ++ xs) (loci_guards by (ty ∷ others)))) (sym (append-one_value_more t us b)) both
