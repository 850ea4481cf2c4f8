-- Statements of literals, and what holds for all loci, at closed terms.
use Rattle.std.proofs.Common.{◌≡◌, ℕ, ◌+◌, List, [], ◌∷◌, map, length, drop, refl, sym, ap, ◌∙◌, subst, arith, true, false}
use Rattle.std.specs.List.{list_all}
use Rattle.std.proofs.lemmas.List.{drop_all}
use Rattle.mz_logic.specs.Term.{Term}
use Rattle.mz_logic.specs.Formula.{Formula, Not, And}
use Rattle.mz_logic.specs.Negation.{negated}
use Rattle.mz_logic.specs.Indices.{closed}
use Rattle.mz_logic.specs.Connectives.{joined, joined_to, implies}
use Rattle.mz_logic.specs.Literal.{literal_formula}
use Rattle.mz_logic.specs.Substitution.{substitute_formula, value_at}
use Rattle.mz_logic.specs.Derives.{Derives}
use Rattle.mz_logic.specs.declared.literal.Literal.{Literal}
use Rattle.mz_logic.specs.declared.literal.Literal.TheVariants as literal
use Rattle.mz_logic.proofs.ValueLaws.{substitute_formula-no_values}
use Rattle.mz_logic.proofs.Each.{Along, joined_in, joined_out, implies_out}
use Rattle.mz_core.specs.Statement.{Statement}
use Rattle.mz_core.specs.StatementForms.{implication}
use Rattle.mz_core.specs.Parts.{conjunction, conjunction_to, where_all}
use Rattle.mz_core.specs.Erasure.{erase}
use Rattle.mz_core.specs.TypeStatements.{literal_statement}
use Rattle.mz_core.specs.declared.soft_type.SoftType.{SoftType}
use Rattle.mz_core.proofs.TermMaps.{negated-with}
use Rattle.mz_core.proofs.MapInstances.{substitutes, substitute_formula-with}
use Rattle.mz_core.proofs.LawProofs.{erasure_of_conjunction, erasure_of_negation}
use Rattle.mz_items.specs.Loci.{over}
use Rattle.mz_clauses.specs.Guards.{loci_guards}
use Rattle.mz_clause_laws.proofs.Instances.{formulas_at, over_out}

-- what holds for all loci
pub over_closed : (ax g : List Formula) (by : ℕ) (ts : List Term) (loci : List SoftType) (s : Statement) → list_all closed ts ≡ true → length ts ≡ length loci + by → Along ax g (formulas_at ts (loci_guards by loci)) → Derives ax g (erase (over loci s)) → Derives ax g (substitute_formula 0 (value_at (drop by ts)) (erase s))
over_closed ax g by ts loci s h count guards d =
    let none : drop (length loci + by) ts ≡ [] = drop_all (length loci + by) ts (omega arith) in
    let whole : Formula = erase (over loci s) in
    let start : Derives ax g (substitute_formula 0 (value_at (drop (length loci + by) ts)) whole) =
    subst (λ us. Derives ax g (substitute_formula 0 (value_at us) whole)) (sym none)
    (subst (Derives ax g) (sym (substitute_formula-no_values 0 whole)) d) in
    over_out ax g by ts loci s h (omega arith) guards start

-- literals as statements
literal_erased : (l : Literal) → erase (literal_statement l) ≡ literal_formula l
literal_erased (literal.Atom true s ts) = refl
literal_erased (literal.Atom false s ts) = refl
literal_erased (literal.Eq true t u) = refl
literal_erased (literal.Eq false t u) = refl

literals_erased : (ls : List Literal) → map erase (map literal_statement ls) ≡ map literal_formula ls
literals_erased [] = refl
literals_erased (l ∷ ls) = λ i. literal_erased l i ∷ literals_erased ls i

pub conjunction_erased : (ls : List Literal) → erase (conjunction (map literal_statement ls)) ≡ joined (map literal_formula ls)
conjunction_erased ls = erasure_of_conjunction (map literal_statement ls) ∙ ap joined (literals_erased ls)

joined_to_at : (v : ℕ → Term) (f : Formula) (fs : List Formula) → substitute_formula 0 v (joined_to f fs) ≡ joined_to (substitute_formula 0 v f) (map (substitute_formula 0 v) fs)
joined_to_at v f [] = refl
joined_to_at v f (g ∷ gs) = joined_to_at v (And f g) gs

pub joined_at : (v : ℕ → Term) (fs : List Formula) → substitute_formula 0 v (joined fs) ≡ joined (map (substitute_formula 0 v) fs)
joined_at v [] = refl
joined_at v (f ∷ fs) = joined_to_at v f fs

pub literals_out : (ax g : List Formula) (ts : List Term) (ls : List Literal) → Derives ax g (substitute_formula 0 (value_at ts) (erase (conjunction (map literal_statement ls)))) → Along ax g (formulas_at ts ls)
literals_out ax g ts ls d =
    joined_out ax g (formulas_at ts ls)
    (subst (Derives ax g) (ap (substitute_formula 0 (value_at ts)) (conjunction_erased ls) ∙ joined_at (value_at ts) (map literal_formula ls)) d)

pub literals_in : (ax g : List Formula) (ts : List Term) (ls : List Literal) → Along ax g (formulas_at ts ls) → Derives ax g (substitute_formula 0 (value_at ts) (erase (conjunction (map literal_statement ls))))
literals_in ax g ts ls a =
    subst (Derives ax g) (sym (ap (substitute_formula 0 (value_at ts)) (conjunction_erased ls) ∙ joined_at (value_at ts) (map literal_formula ls))) (joined_in ax g (formulas_at ts ls) a)

-- implications
negated_at : (v : ℕ → Term) (f : Formula) → substitute_formula 0 v (negated f) ≡ negated (substitute_formula 0 v f)
negated_at v f = substitute_formula-with v 0 (negated f) ∙ (negated-with (substitutes v) 0 f ∙ ap negated (sym (substitute_formula-with v 0 f)))

pub implication_at : (v : ℕ → Term) (s t : Statement) → substitute_formula 0 v (erase (implication s t)) ≡ implies (substitute_formula 0 v (erase s)) (substitute_formula 0 v (erase t))
implication_at v s t =
    ap (λ f. Not (And (substitute_formula 0 v (erase s)) (substitute_formula 0 v f))) (erasure_of_negation t) ∙
    ap (λ f. Not (And (substitute_formula 0 v (erase s)) f)) (negated_at v (erase t))

pub implication_out : (ax g : List Formula) (v : ℕ → Term) (s t : Statement) → Derives ax g (substitute_formula 0 v (erase s)) → Derives ax g (substitute_formula 0 v (erase (implication s t))) → Derives ax g (substitute_formula 0 v (erase t))
implication_out ax g v s t e d =
    implies_out ax g (substitute_formula 0 v (erase s)) (substitute_formula 0 v (erase t)) (subst (Derives ax g) (implication_at v s t) d) e

-- a statement under literals
pub where_literals_out : (ax g : List Formula) (ts : List Term) (ls : List Literal) (s : Statement) → Along ax g (formulas_at ts ls) → Derives ax g (substitute_formula 0 (value_at ts) (erase (where_all (map literal_statement ls) s))) → Derives ax g (substitute_formula 0 (value_at ts) (erase s))
where_literals_out ax g ts [] s a d = d
where_literals_out ax g ts (l ∷ ls) s a d =
    implication_out ax g (value_at ts) (conjunction_to (literal_statement l) (map literal_statement ls)) s (literals_in ax g ts (l ∷ ls) a) d
