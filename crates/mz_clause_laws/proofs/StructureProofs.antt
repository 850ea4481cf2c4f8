-- Proofs of the laws of structures.
use Rattle.std.proofs.Common.{◌≡◌, ℕ, zero, suc, ◌+◌, ◌<◌, ◌≤◌, List, [], ◌∷◌, ◌++◌, map, length, drop, sym, arith, true}
use Rattle.std.specs.Prelude.{flat_map}
use Rattle.std.specs.List.{list_all}
use Rattle.mz_base.specs.Name as name
use Rattle.mz_logic.specs.Term as term
use Rattle.mz_logic.specs.Term.{Bound}
use Rattle.mz_logic.specs.Formula.{Formula}
use Rattle.mz_logic.specs.Indices.{closed}
use Rattle.mz_logic.specs.Substitution.{substitute_formula, value_at}
use Rattle.mz_logic.specs.Derives.{Derives}
use Rattle.mz_logic.specs.declared.literal.Literal.{Literal}
use Rattle.mz_logic.specs.declared.literal.Literal.TheVariants as literal
use Rattle.mz_logic.proofs.Rules.{and_in}
use Rattle.mz_logic.proofs.Each.{Along}
use Rattle.mz_core.specs.Statement.{Statement, Eq, And}
use Rattle.mz_core.specs.StatementForms.{implication}
use Rattle.mz_core.specs.Parts.{conjunction}
use Rattle.mz_core.specs.Erasure.{erase}
use Rattle.mz_core.specs.Guard.{guard_literals}
use Rattle.mz_core.specs.Hidden.{object_type}
use Rattle.mz_core.specs.TypeSubstitution.{substitute_type}
use Rattle.mz_core.specs.TypeStatements.{is_of_type_inside}
use Rattle.mz_core.specs.declared.structure.Field.{Field}
use Rattle.mz_core.specs.declared.structure.Structure.{Structure}
use Rattle.mz_ground.specs.declared.trigger.Trigger.TheVariants.{Term, Atom}
use Rattle.mz_items.specs.Loci.{over, variables}
use Rattle.mz_items.specs.StructureRows.{structure_atom, strict_atom, aggregate, selected, selected_values, given_values, field_fits, for_object, for_objects, fit_each, select_each, fitting, aggregate_has, made_of}
use Rattle.mz_clauses.specs.Guards.{loci_guards, guard_at_object}
use Rattle.mz_clauses.specs.StructureClauses.{structure_arguments, structure_literal, strict_literal, field_guard, structure_parts, given_guards, selection_equations}
use Rattle.mz_clause_laws.specs.RowLaws.{PartLaw, AggregateLaw, StrictLaw}
use Rattle.mz_clause_laws.proofs.Instances.{formulas_at, along_first, along_second, locus_out}
use Rattle.mz_clause_laws.proofs.Implications.{premises_at}
use Rattle.mz_clause_laws.proofs.Literals.{implication_out, literals_in}
use Rattle.mz_clause_laws.proofs.Conjunctions.{statements_at, conjunction_in, conjunction_out, along_both, each_out}
use Rattle.mz_clause_laws.proofs.RowProofs.{group_follows, under_guards, for_type_out, further}

-- what holds of each object of the structure, under premises that say that the innermost variable is one
of_object : (ax known : List Formula) (s : Structure) (ts : List term.Term) (more : List Literal) (t : Statement) → list_all closed ts ≡ true → length ts ≡ length s.loci + 1 → Derives ax known (erase (over s.loci (for_object t))) → Derives ax (premises_at known ts (loci_guards 1 s.loci ++ more)) (substitute_formula 0 (value_at ts) (erase t))
unfolding name.number_of
of_object ax known s ts more t h count d =
    let some : 0 < length ts = omega arith in
    for_type_out ax (premises_at known ts (loci_guards 1 s.loci ++ more)) ts object_type t h some tt (under_guards ax known 1 ts s.loci more (for_object t) h count d)

-- (1) and (2)
pub part_law : PartLaw
part_law s ax known d e =
    let y : List Literal = structure_literal 1 s (Bound 0) ∷ [] in
    group_follows ax known (length s.loci + 1) (Atom s.sym (structure_arguments 1 s (Bound 0))) (loci_guards 1 s.loci ++ structure_literal 1 s (Bound 0) ∷ []) (structure_parts s)
    (λ ts h count.
    let g : List Formula = premises_at known ts (loci_guards 1 s.loci ++ structure_literal 1 s (Bound 0) ∷ []) in
    let one : Along ax g (formulas_at ts (structure_literal 1 s (Bound 0) ∷ [])) = further ax known ts (loci_guards 1 s.loci) (structure_literal 1 s (Bound 0) ∷ []) in
    let ancestors : Statement = conjunction (map is_of_type_inside s.ancestors) in
    let fields : Statement = conjunction (map (field_fits (selected_values s)) s.fields) in
    along_both ax g ts (flat_map guard_at_object s.ancestors) (flat_map (field_guard (selected_values s)) s.fields)
    (each_out ax g ts guard_at_object s.ancestors (conjunction_out ax g ts (map is_of_type_inside s.ancestors)
    (implication_out ax g (value_at ts) (structure_atom 1 s (Bound 0)) ancestors one.0 (of_object ax known s ts y (implication (structure_atom 1 s (Bound 0)) ancestors) h count d))))
    (each_out ax g ts (field_guard (selected_values s)) s.fields (conjunction_out ax g ts (map (field_fits (selected_values s)) s.fields)
    (implication_out ax g (value_at ts) (structure_atom 1 s (Bound 0)) fields one.0 (of_object ax known s ts y (implication (structure_atom 1 s (Bound 0)) fields) h count e)))))

-- (3)
objects_out : (ax g : List Formula) (count : ℕ) (ts : List term.Term) (s : Statement) → list_all closed ts ≡ true → count ≤ length ts → Derives ax g (substitute_formula 0 (value_at (drop count ts)) (erase (for_objects count s))) → Derives ax g (substitute_formula 0 (value_at ts) (erase s))
unfolding name.number_of
objects_out ax g zero ts s h le d = d
objects_out ax g (suc count) ts s h le d =
    objects_out ax g count ts s h (omega arith) (locus_out ax g count ts object_type (erase (for_objects count s)) h (omega arith) tt d)

given_in : (ax g : List Formula) (ts values : List term.Term) (fs : List Field) (zs : List term.Term) → Along ax g (formulas_at ts (given_guards values fs zs)) → Along ax g (statements_at ts (fit_each values fs zs))
given_in ax g ts values [] zs a = tt
given_in ax g ts values (f ∷ fs) [] a = tt
given_in ax g ts values (f ∷ fs) (z ∷ zs) a =
    let first : List Literal = guard_literals (substitute_type 0 (value_at values) f.ty) z in
    (literals_in ax g ts first (along_first ax g ts first (given_guards values fs zs) a), given_in ax g ts values fs zs (along_second ax g ts first (given_guards values fs zs) a))

selections_out : (ax g : List Formula) (ts : List term.Term) (a : term.Term) (fs : List Field) (zs : List term.Term) → Along ax g (statements_at ts (select_each a fs zs)) → Along ax g (formulas_at ts (selection_equations a fs zs))
selections_out ax g ts a [] zs d = tt
selections_out ax g ts a (f ∷ fs) [] d = tt
selections_out ax g ts a (f ∷ fs) (z ∷ zs) d = (d.0, selections_out ax g ts a fs zs d.1)

made : (ax known : List Formula) (s : Structure) (count : ℕ) (zs : List term.Term) (a : term.Term) (ts : List term.Term) → list_all closed ts ≡ true → length ts ≡ length s.loci + count → Derives ax known (erase (over s.loci (for_objects count (made_of s count zs a)))) → Along ax (premises_at known ts (loci_guards count s.loci ++ given_guards (given_values s count a) s.fields zs)) (formulas_at ts (structure_literal count s a ∷ strict_literal count s a ∷ selection_equations a s.fields zs))
made ax known s count zs a ts h long d =
    let given : List Literal = given_guards (given_values s count a) s.fields zs in
    let g : List Formula = premises_at known ts (loci_guards count s.loci ++ given_guards (given_values s count a) s.fields zs) in
    let body : Derives ax g (substitute_formula 0 (value_at ts) (erase (made_of s count zs a))) = objects_out ax g count ts (made_of s count zs a) h (omega arith) (under_guards ax known count ts s.loci given (for_objects count (made_of s count zs a)) h long d) in
    let fit : Derives ax g (substitute_formula 0 (value_at ts) (erase (fitting s count zs a))) = conjunction_in ax g ts (fit_each (given_values s count a) s.fields zs) (given_in ax g ts (given_values s count a) s.fields zs (further ax known ts (loci_guards count s.loci) given)) in
    let has : Along ax g (statements_at ts (structure_atom count s a ∷ strict_atom count s a ∷ select_each a s.fields zs)) = conjunction_out ax g ts (structure_atom count s a ∷ strict_atom count s a ∷ select_each a s.fields zs) (implication_out ax g (value_at ts) (fitting s count zs a) (aggregate_has s count zs a) fit body) in
    (has.0, (has.1.0, selections_out ax g ts a s.fields zs has.1.1))

pub aggregate_law : AggregateLaw
aggregate_law s ax known d =
    let count : ℕ = length s.fields in
    let zs : List term.Term = variables 0 (length s.fields) in
    let a : term.Term = aggregate (length s.fields) s (variables 0 (length s.fields)) in
    group_follows ax known (length s.loci + length s.fields) (Term a) (loci_guards (length s.fields) s.loci ++ given_guards (given_values s (length s.fields) a) s.fields zs) (structure_literal (length s.fields) s a ∷ strict_literal (length s.fields) s a ∷ selection_equations a s.fields zs)
    (λ ts h long. made ax known s (length s.fields) zs a ts h long d)

-- (4)
pub strict_law : StrictLaw
strict_law s ax known d =
    let both : List Literal = structure_literal 1 s (Bound 0) ∷ strict_literal 1 s (Bound 0) ∷ [] in
    let equal : Statement = Eq (Bound 0) (aggregate 1 s (map (selected (Bound 0)) s.fields)) in
    group_follows ax known (length s.loci + 1) (Atom s.strict (structure_arguments 1 s (Bound 0))) (loci_guards 1 s.loci ++ both) (literal.Eq true (Bound 0) (aggregate 1 s (map (selected (Bound 0)) s.fields)) ∷ [])
    (λ ts h count.
    let g : List Formula = premises_at known ts (loci_guards 1 s.loci ++ both) in
    let two : Along ax g (formulas_at ts both) = further ax known ts (loci_guards 1 s.loci) both in
    let premise : Derives ax g (substitute_formula 0 (value_at ts) (erase (And (structure_atom 1 s (Bound 0)) (strict_atom 1 s (Bound 0))))) = and_in ax g _ _ two.0 two.1.0 in
    (implication_out ax g (value_at ts) (And (structure_atom 1 s (Bound 0)) (strict_atom 1 s (Bound 0))) equal premise (of_object ax known s ts both (implication (And (structure_atom 1 s (Bound 0)) (strict_atom 1 s (Bound 0))) equal) h count d), tt))
