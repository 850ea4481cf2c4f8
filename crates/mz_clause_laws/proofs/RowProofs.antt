-- Proofs of the laws of the rows.
use Rattle.std.proofs.Common.{◌≡◌, ℕ, ◌+◌, ◌<◌, List, [], ◌∷◌, ◌++◌, map, length, drop, refl, sym, subst, arith, append_assoc, Bool, true, false}
use Rattle.std.specs.Prelude.{flat_map, Option, Some, None}
use Rattle.std.specs.List.{list_all}
use Rattle.std.proofs.lemmas.List.{append-nil, map-append}
use Rattle.mz_logic.specs.Term.{Term, Bound}
use Rattle.mz_logic.specs.Formula.{Formula}
use Rattle.mz_logic.specs.Indices.{closed}
use Rattle.mz_logic.specs.Connectives.{quantified}
use Rattle.mz_logic.specs.Substitution.{substitute_formula, value_at}
use Rattle.mz_logic.specs.Derives.{Derives}
use Rattle.mz_logic.specs.declared.literal.Literal.{Literal}
use Rattle.mz_logic.specs.declared.literal.Literal.TheVariants as literal
use Rattle.mz_logic.proofs.Each.{Along, along_each, along_left, each_itself}
use Rattle.mz_core.specs.Statement.{Statement, Eq, For}
use Rattle.mz_core.specs.Parts.{conjunction, where_all}
use Rattle.mz_core.specs.Erasure.{erase}
use Rattle.mz_core.specs.Guard.{guard_literals, adjective_literal}
use Rattle.mz_core.specs.TypeShift.{shift_adjective}
use Rattle.mz_core.specs.TypeStatements.{literal_statement, is_of_type, is_of_type_inside}
use Rattle.mz_core.specs.declared.adjective.Adjective.{Adjective}
use Rattle.mz_core.specs.declared.soft_type.SoftType.{SoftType}
use Rattle.mz_core.specs.declared.registration.ConditionalRegistration.{ConditionalRegistration}
use Rattle.mz_ground.specs.ClauseFormula.{implication, clause_formula}
use Rattle.mz_ground.specs.Variables.{has_all_below}
use Rattle.mz_ground.specs.declared.trigger.Trigger.{Trigger}
use Rattle.mz_ground.specs.declared.trigger.Trigger.TheVariants as trigger
use Rattle.mz_items.specs.Loci.{over}
use Rattle.mz_items.specs.RegistrationRows.{adjective_statements, adjectives_inside, functorial, conditional, under_type}
use Rattle.mz_clauses.specs.Guards.{loci_guards, guard_at_object, guard_if_any, adjective_literals, adjectives_at_object}
use Rattle.mz_clauses.specs.Groups.{clause_group, group_if_any, clause_where, clause_if_triggered, groups_clauses, first_trigger}
use Rattle.mz_clauses.specs.RegistrationClauses.{conditional_atoms}
use Rattle.mz_clause_laws.specs.RowLaws.{AllFollow, FunctorTypeLaw, ModeParentLaw, EquationLaw, FunctorialLaw, ConditionalLaw}
use Rattle.mz_clause_laws.proofs.Instances.{formulas_at, along_first, along_second, locus_out}
use Rattle.mz_clause_laws.proofs.Implications.{premises_at, weaker, clause_in}
use Rattle.mz_clause_laws.proofs.Literals.{over_closed, literals_out, literals_in, implication_out, where_literals_out}

-- lists of formulas that follow
pub follow_append : (ax known fs gs : List Formula) → AllFollow ax known fs → AllFollow ax known gs → AllFollow ax known (fs ++ gs)
follow_append ax known [] gs p q = q
follow_append ax known (f ∷ fs) gs p q = (p.0, follow_append ax known fs gs p.1 q)

-- one clause, whether or not its trigger has all variables
where_follows : (ax known : List Formula) (n : ℕ) (r : Trigger) (ps : List Literal) (k : Literal) (b : Bool) (e : has_all_below n r ≡ b) → Derives ax known (quantified n (implication ps k)) → AllFollow ax known (map clause_formula (clause_where n r ps k b e))
where_follows ax known n r ps k true e d = (d, tt)
where_follows ax known n r ps k false e d = tt

-- the conclusions at closed terms derive from the premises there
abbrev Gives : List Formula → List Formula → ℕ → List Literal → List Literal → Type 0
Gives ax known n ps cs = (ts : List Term) → list_all closed ts ≡ true → length ts ≡ n → Along ax (premises_at known ts ps) (formulas_at ts cs)

clauses_follow : (ax known : List Formula) (n : ℕ) (r : Trigger) (ps cs : List Literal) → Gives ax known n ps cs → AllFollow ax known (map clause_formula (flat_map (clause_if_triggered n r ps) cs))
unfolding clause_if_triggered
clauses_follow ax known n r ps [] each = tt
clauses_follow ax known n r ps (k ∷ ks) each =
    subst (AllFollow ax known) (sym (map-append clause_formula (clause_if_triggered n r ps k) (flat_map (clause_if_triggered n r ps) ks)))
    (follow_append ax known (map clause_formula (clause_if_triggered n r ps k)) (map clause_formula (flat_map (clause_if_triggered n r ps) ks))
    (where_follows ax known n r ps k (has_all_below n r) refl (clause_in ax known n ps k (λ ts h count. (each ts h count).0)))
    (clauses_follow ax known n r ps ks (λ ts h count. (each ts h count).1)))

pub group_follows : (ax known : List Formula) (n : ℕ) (r : Trigger) (ps cs : List Literal) → Gives ax known n ps cs → AllFollow ax known (map clause_formula (groups_clauses (clause_group n r ps cs ∷ [])))
group_follows ax known n r ps cs each =
    subst (λ ks. AllFollow ax known (map clause_formula ks)) (sym (append-nil (flat_map (clause_if_triggered n r ps) cs))) (clauses_follow ax known n r ps cs each)

pub group_if_any_follows : (ax known : List Formula) (n : ℕ) (r : Option Trigger) (ps cs : List Literal) → Gives ax known n ps cs → AllFollow ax known (map clause_formula (groups_clauses (group_if_any n r ps cs)))
group_if_any_follows ax known n None ps cs each = tt
group_if_any_follows ax known n (Some r) ps cs each = group_follows ax known n r ps cs each

-- each premise derives from the premises
pub premises : (ax known : List Formula) (ts : List Term) (ps : List Literal) → Along ax (premises_at known ts ps) (formulas_at ts ps)
premises ax known ts ps = along_left ax (premises_at known ts ps) (formulas_at ts ps) known (along_each ax (premises_at known ts ps) (premises_at known ts ps) (each_itself ax (premises_at known ts ps)))

-- what holds for all loci, under premises that begin with the guards of these
pub under_guards : (ax known : List Formula) (by : ℕ) (ts : List Term) (loci : List SoftType) (more : List Literal) (s : Statement) → list_all closed ts ≡ true → length ts ≡ length loci + by → Derives ax known (erase (over loci s)) → Derives ax (premises_at known ts (loci_guards by loci ++ more)) (substitute_formula 0 (value_at (drop by ts)) (erase s))
under_guards ax known by ts loci more s h count d =
    let g : List Formula = premises_at known ts (loci_guards by loci ++ more) in
    over_closed ax g by ts loci s h count (along_first ax g ts (loci_guards by loci) more (premises ax known ts (loci_guards by loci ++ more))) (weaker ax known (formulas_at ts (loci_guards by loci ++ more)) (erase (over loci s)) d)

pub further : (ax known : List Formula) (ts : List Term) (ks ls : List Literal) → Along ax (premises_at known ts (ks ++ ls)) (formulas_at ts ls)
further ax known ts ks ls = along_second ax (premises_at known ts (ks ++ ls)) ts ks ls (premises ax known ts (ks ++ ls))

-- the same where the guards are all premises
under_guards_alone : (ax known : List Formula) (ts : List Term) (loci : List SoftType) (s : Statement) → list_all closed ts ≡ true → length ts ≡ length loci → Derives ax known (erase (over loci s)) → Derives ax (premises_at known ts (loci_guards 0 loci)) (substitute_formula 0 (value_at ts) (erase s))
under_guards_alone ax known ts loci s h count d =
    over_closed ax (premises_at known ts (loci_guards 0 loci)) 0 ts loci s h (omega arith) (premises ax known ts (loci_guards 0 loci)) (weaker ax known (formulas_at ts (loci_guards 0 loci)) (erase (over loci s)) d)

-- rows
pub functor_type_law : FunctorTypeLaw
functor_type_law loci t ty ax known d =
    group_follows ax known (length loci) (trigger.Term t) (loci_guards 0 loci) (guard_literals ty t)
    (λ ts h count. literals_out ax (premises_at known ts (loci_guards 0 loci)) ts (guard_literals ty t) (under_guards_alone ax known ts loci (is_of_type ty t) h count d))

pub equation_law : EquationLaw
equation_law loci t u ax known d =
    group_follows ax known (length loci) (trigger.Term t) (loci_guards 0 loci) (literal.Eq true t u ∷ [])
    (λ ts h count. (under_guards_alone ax known ts loci (Eq t u) h count d, tt))

-- what holds of each object of a type, under premises that have its guard at the innermost variable
pub for_type_out : (ax g : List Formula) (ts : List Term) (ty : SoftType) (s : Statement) → list_all closed ts ≡ true → 0 < length ts → Along ax g (formulas_at ts (guard_at_object ty)) → Derives ax g (substitute_formula 0 (value_at (drop 1 ts)) (erase (For ty s))) → Derives ax g (substitute_formula 0 (value_at ts) (erase s))
for_type_out ax g ts ty s h some guards d = locus_out ax g 0 ts ty (erase s) h some guards d

pub mode_parent_law : ModeParentLaw
mode_parent_law loci mode ty ax known d =
    group_if_any_follows ax known (length loci + 1) _ (loci_guards 1 loci ++ guard_at_object mode) (guard_at_object ty)
    (λ ts h count.
    let g : List Formula = premises_at known ts (loci_guards 1 loci ++ guard_at_object mode) in
    let some : 0 < length ts = omega arith in
    literals_out ax (premises_at known ts (loci_guards 1 loci ++ guard_at_object mode)) ts (guard_at_object ty)
    (for_type_out ax (premises_at known ts (loci_guards 1 loci ++ guard_at_object mode)) ts mode (is_of_type_inside ty) h some (further ax known ts (loci_guards 1 loci) (guard_at_object mode))
    (under_guards ax known 1 ts loci (guard_at_object mode) (For mode (is_of_type_inside ty)) h count d)))

-- statements of adjectives are those of their literals
adjectives_are : (xs : List Adjective) (t : Term) → adjective_statements xs t ≡ map literal_statement (adjective_literals xs t)
adjectives_are [] t = refl
adjectives_are (a ∷ xs) t = λ i. literal_statement (adjective_literal t a) ∷ adjectives_are xs t i

adjectives_out : (ax g : List Formula) (ts : List Term) (xs : List Adjective) (t : Term) → Derives ax g (substitute_formula 0 (value_at ts) (erase (conjunction (adjective_statements xs t)))) → Along ax g (formulas_at ts (adjective_literals xs t))
adjectives_out ax g ts xs t d =
    literals_out ax g ts (adjective_literals xs t) (subst (λ ss. Derives ax g (substitute_formula 0 (value_at ts) (erase (conjunction ss)))) (adjectives_are xs t) d)

under_type_out : (ax g : List Formula) (ts : List Term) (ty : Option SoftType) (t : Term) (s : Statement) → Along ax g (formulas_at ts (guard_if_any ty t)) → Derives ax g (substitute_formula 0 (value_at ts) (erase (under_type ty t s))) → Derives ax g (substitute_formula 0 (value_at ts) (erase s))
under_type_out ax g ts None t s a d = d
under_type_out ax g ts (Some ty) t s a d =
    implication_out ax g (value_at ts) (is_of_type ty t) s (literals_in ax g ts (guard_literals ty t) a) d

pub functorial_law : FunctorialLaw
functorial_law r ax known d =
    group_follows ax known (length r.loci) (trigger.Term r.term) (loci_guards 0 r.loci ++ guard_if_any r.ty r.term) (adjective_literals r.adjectives r.term)
    (λ ts h count.
    let whole : length ts ≡ length r.loci + 0 = omega arith in
    adjectives_out ax (premises_at known ts (loci_guards 0 r.loci ++ guard_if_any r.ty r.term)) ts r.adjectives r.term
    (under_type_out ax (premises_at known ts (loci_guards 0 r.loci ++ guard_if_any r.ty r.term)) ts r.ty r.term (conjunction (adjective_statements r.adjectives r.term))
    (further ax known ts (loci_guards 0 r.loci) (guard_if_any r.ty r.term))
    (under_guards ax known 0 ts r.loci (guard_if_any r.ty r.term) (functorial r) h whole d)))

where_adjectives_out : (ax g : List Formula) (ts : List Term) (xs : List Adjective) (t : Term) (s : Statement) → Along ax g (formulas_at ts (adjective_literals xs t)) → Derives ax g (substitute_formula 0 (value_at ts) (erase (where_all (adjective_statements xs t) s))) → Derives ax g (substitute_formula 0 (value_at ts) (erase s))
where_adjectives_out ax g ts xs t s a d =
    where_literals_out ax g ts (adjective_literals xs t) s a (subst (λ ss. Derives ax g (substitute_formula 0 (value_at ts) (erase (where_all ss s)))) (adjectives_are xs t) d)

conditional_gives : (ax known : List Formula) (r : ConditionalRegistration) (ts : List Term) → Derives ax known (erase (over r.loci (conditional r))) → list_all closed ts ≡ true → length ts ≡ length r.loci + 1 → Along ax (premises_at known ts (loci_guards 1 r.loci ++ (guard_at_object r.ty ++ adjectives_at_object r.from))) (formulas_at ts (adjectives_at_object r.to))
conditional_gives ax known r ts d h count =
    let g : List Formula = premises_at known ts (loci_guards 1 r.loci ++ (guard_at_object r.ty ++ adjectives_at_object r.from)) in
    let some : 0 < length ts = omega arith in
    let behind : Along ax g (formulas_at ts (guard_at_object r.ty ++ adjectives_at_object r.from)) = further ax known ts (loci_guards 1 r.loci) (guard_at_object r.ty ++ adjectives_at_object r.from) in
    let body : Statement = where_all (adjectives_inside r.from) (conjunction (adjectives_inside r.to)) in
    adjectives_out ax g ts (map (shift_adjective 0 1) r.to) (Bound 0)
    (where_adjectives_out ax g ts (map (shift_adjective 0 1) r.from) (Bound 0) (conjunction (adjectives_inside r.to)) (along_second ax g ts (guard_at_object r.ty) (adjectives_at_object r.from) behind)
    (for_type_out ax g ts r.ty body h some (along_first ax g ts (guard_at_object r.ty) (adjectives_at_object r.from) behind)
    (under_guards ax known 1 ts r.loci (guard_at_object r.ty ++ adjectives_at_object r.from) (For r.ty body) h count d)))

pub conditional_law : ConditionalLaw
conditional_law r ax known d =
    let grouped : (loci_guards 1 r.loci ++ guard_at_object r.ty) ++ adjectives_at_object r.from ≡ loci_guards 1 r.loci ++ (guard_at_object r.ty ++ adjectives_at_object r.from) = append_assoc (loci_guards 1 r.loci) (guard_at_object r.ty) (adjectives_at_object r.from) in
    group_if_any_follows ax known (length r.loci + 1) (first_trigger (length r.loci + 1) (conditional_atoms r)) ((loci_guards 1 r.loci ++ guard_at_object r.ty) ++ adjectives_at_object r.from) (adjectives_at_object r.to)
    (λ ts h count. subst (λ ps. Along ax (premises_at known ts ps) (formulas_at ts (adjectives_at_object r.to))) (sym grouped) (conditional_gives ax known r ts d h count))
