-- Clauses of structures.
use Rattle.std.proofs.Common.{◌≡◌, ◌≤◌, ℕ, ◌+◌, List, [], ◌∷◌, ◌++◌, map, length, refl, arith, true}
use Rattle.std.specs.Prelude.{flat_map}
use Rattle.std.specs.List.{list_all}
use Rattle.std.proofs.lemmas.Bool.{and_parts, and_from}
use Rattle.mz_logic.specs.Term as term
use Rattle.mz_logic.specs.Term.{Bound}
use Rattle.mz_logic.specs.Substitution.{value_at}
use Rattle.mz_logic.specs.declared.literal.Literal.TheVariants as literal
use Rattle.mz_core.specs.TypeSubstitution.{substitute_type}
use Rattle.mz_core.specs.Guard.{guard_literals}
use Rattle.mz_core.specs.Closed.{term_under, literal_under, type_under, loci_closed}
use Rattle.mz_core.specs.declared.structure.Field.{Field}
use Rattle.mz_core.specs.declared.structure.Structure.{Structure}
use Rattle.mz_core.proofs.AllLemmas.{all-append}
use Rattle.mz_ground.specs.declared.trigger.Trigger.TheVariants.{Term, Atom}
use Rattle.mz_items.specs.Loci.{variables}
use Rattle.mz_items.specs.StructureRows.{aggregate, selected, selected_values, given_values}
use Rattle.mz_items.specs.Closed.{field_under}
use Rattle.mz_items.proofs.RowLemmas.{variables_under}
use Rattle.mz_items.proofs.ItemLemmas.{type_filled_under}
use Rattle.mz_clauses.specs.Guards.{loci_guards, guard_at_object}
use Rattle.mz_clauses.specs.StructureClauses.{structure_arguments, structure_literal, strict_literal, field_guard, structure_parts, part_groups, given_guards, selection_equations, made_groups, aggregate_groups, strict_groups}
use Rattle.mz_closed_laws.proofs.LiteralLemmas.{all-flat, last_under, index_0, guards_under, guard_under, object_guard_under}
use Rattle.mz_closed_laws.proofs.GroupLemmas.{group_closed, one_closed}
use Rattle.mz_closed_laws.proofs.ValueLemmas.{aggregate_under, selected_under, selected_all, selected_values_under, length-selected_values, given_values_under, length-given_values}

arguments_under : (n by : ℕ) (s : Structure) (t : term.Term) → by + length s.loci ≤ n → term_under n t ≡ true → list_all (term_under n) (structure_arguments by s t) ≡ true
arguments_under n by s t le h = last_under n (variables by (length s.loci)) t (variables_under n by (length s.loci) le) h

-- the arguments at the one further variable
object_arguments_under : (s : Structure) → list_all (term_under (length s.loci + 1)) (structure_arguments 1 s (Bound 0)) ≡ true
object_arguments_under s =
    let le : 1 + length s.loci ≤ length s.loci + 1 = omega arith in
    arguments_under (length s.loci + 1) 1 s (Bound 0) le (index_0 (length s.loci))

fields_under : (n m : ℕ) (values : List term.Term) (fs : List Field) → length values ≡ m → list_all (term_under n) values ≡ true → term_under n (Bound 0) ≡ true → list_all (field_under m) fs ≡ true → list_all (literal_under n) (flat_map (field_guard values) fs) ≡ true
fields_under n m values fs e hv hy h =
    all-flat (field_under m) (literal_under n) (field_guard values) fs
    (λ f k. guard_under n (substitute_type 0 (value_at values) f.ty) (selected (Bound 0) f) (type_filled_under n values m f.ty e hv k) (selected_under n (Bound 0) f hy)) h

parts_under : (s : Structure) → list_all (type_under (length s.loci)) s.ancestors ≡ true → list_all (field_under (length s.loci + 1 + length s.fields)) s.fields ≡ true → list_all (literal_under (length s.loci + 1)) (structure_parts s) ≡ true
parts_under s ha hf =
    all-append (literal_under (length s.loci + 1)) (flat_map guard_at_object s.ancestors) (flat_map (field_guard (selected_values s)) s.fields)
    (all-flat (type_under (length s.loci)) (literal_under (length s.loci + 1)) guard_at_object s.ancestors (object_guard_under (length s.loci)) ha)
    (fields_under (length s.loci + 1) (length s.loci + 1 + length s.fields) (selected_values s) s.fields (length-selected_values s) (selected_values_under s) (index_0 (length s.loci)) hf)

pub part_closed : (s : Structure) → loci_closed s.loci ≡ true → list_all (type_under (length s.loci)) s.ancestors ≡ true → list_all (field_under (length s.loci + 1 + length s.fields)) s.fields ≡ true → list_all group_closed (part_groups s) ≡ true
part_closed s c ha hf =
    one_closed (length s.loci + 1) (Atom s.sym (structure_arguments 1 s (Bound 0))) (loci_guards 1 s.loci ++ structure_literal 1 s (Bound 0) ∷ []) (structure_parts s) (object_arguments_under s)
    (all-append (literal_under (length s.loci + 1)) (loci_guards 1 s.loci) (structure_literal 1 s (Bound 0) ∷ []) (guards_under 1 s.loci c) (and_from _ _ (object_arguments_under s) refl))
    (parts_under s ha hf)

given_guards_under : (n m : ℕ) (values : List term.Term) (fs : List Field) (zs : List term.Term) → length values ≡ m → list_all (term_under n) values ≡ true → list_all (field_under m) fs ≡ true → list_all (term_under n) zs ≡ true → list_all (literal_under n) (given_guards values fs zs) ≡ true
given_guards_under n m values [] zs e hv hf hz = refl
given_guards_under n m values (f ∷ fs) [] e hv hf hz = refl
given_guards_under n m values (f ∷ fs) (z ∷ zs) e hv hf hz =
    let both : (type_under m f.ty ≡ true) × (list_all (field_under m) fs ≡ true) = and_parts (type_under m f.ty) (list_all (field_under m) fs) hf in
    let ends : (term_under n z ≡ true) × (list_all (term_under n) zs ≡ true) = and_parts (term_under n z) (list_all (term_under n) zs) hz in
    all-append (literal_under n) (guard_literals (substitute_type 0 (value_at values) f.ty) z) (given_guards values fs zs)
    (guard_under n (substitute_type 0 (value_at values) f.ty) z (type_filled_under n values m f.ty e hv both.0) ends.0)
    (given_guards_under n m values fs zs e hv both.1 ends.1)

selections_under : (n : ℕ) (a : term.Term) (fs : List Field) (zs : List term.Term) → term_under n a ≡ true → list_all (term_under n) zs ≡ true → list_all (literal_under n) (selection_equations a fs zs) ≡ true
selections_under n a [] zs h k = refl
selections_under n a (f ∷ fs) [] h k = refl
selections_under n a (f ∷ fs) (z ∷ zs) h k =
    let ends : (term_under n z ≡ true) × (list_all (term_under n) zs ≡ true) = and_parts (term_under n z) (list_all (term_under n) zs) k in
    and_from _ _ (and_from _ _ (selected_under n a f h) ends.0) (selections_under n a fs zs h ends.1)

made_closed : (s : Structure) (count : ℕ) (zs : List term.Term) (a : term.Term) → count ≡ length s.fields → loci_closed s.loci ≡ true → list_all (field_under (length s.loci + 1 + length s.fields)) s.fields ≡ true → list_all (term_under (length s.loci + count)) zs ≡ true → term_under (length s.loci + count) a ≡ true → list_all group_closed (made_groups s count zs a) ≡ true
made_closed s count zs a e c hf hz ha =
    let long : length (given_values s count a) ≡ length s.loci + 1 + count = length-given_values s count a in
    let same : length (given_values s count a) ≡ length s.loci + 1 + length s.fields = omega (arith, long, e) in
    let le : count + length s.loci ≤ length s.loci + count = omega arith in
    let args : list_all (term_under (length s.loci + count)) (structure_arguments count s a) ≡ true = arguments_under (length s.loci + count) count s a le ha in
    one_closed (length s.loci + count) (Term a) (loci_guards count s.loci ++ given_guards (given_values s count a) s.fields zs) (structure_literal count s a ∷ strict_literal count s a ∷ selection_equations a s.fields zs) ha
    (all-append (literal_under (length s.loci + count)) (loci_guards count s.loci) (given_guards (given_values s count a) s.fields zs) (guards_under count s.loci c)
    (given_guards_under (length s.loci + count) (length s.loci + 1 + length s.fields) (given_values s count a) s.fields zs same (given_values_under s count a ha) hf hz))
    (and_from _ _ args (and_from _ _ args (selections_under (length s.loci + count) a s.fields zs ha hz)))

pub aggregate_closed : (s : Structure) → loci_closed s.loci ≡ true → list_all (field_under (length s.loci + 1 + length s.fields)) s.fields ≡ true → list_all group_closed (aggregate_groups s) ≡ true
aggregate_closed s c hf =
    let low : 0 + length s.fields ≤ length s.loci + length s.fields = omega arith in
    let high : length s.fields + length s.loci ≤ length s.loci + length s.fields = omega arith in
    let zs : list_all (term_under (length s.loci + length s.fields)) (variables 0 (length s.fields)) ≡ true = variables_under (length s.loci + length s.fields) 0 (length s.fields) low in
    made_closed s (length s.fields) (variables 0 (length s.fields)) (aggregate (length s.fields) s (variables 0 (length s.fields))) refl c hf zs
    (aggregate_under (length s.loci + length s.fields) (length s.fields) s (variables 0 (length s.fields)) high zs)

pub strict_closed : (s : Structure) → loci_closed s.loci ≡ true → list_all group_closed (strict_groups s) ≡ true
strict_closed s c =
    let le : 1 + length s.loci ≤ length s.loci + 1 = omega arith in
    one_closed (length s.loci + 1) (Atom s.strict (structure_arguments 1 s (Bound 0))) (loci_guards 1 s.loci ++ structure_literal 1 s (Bound 0) ∷ strict_literal 1 s (Bound 0) ∷ []) (literal.Eq true (Bound 0) (aggregate 1 s (map (selected (Bound 0)) s.fields)) ∷ []) (object_arguments_under s)
    (all-append (literal_under (length s.loci + 1)) (loci_guards 1 s.loci) (structure_literal 1 s (Bound 0) ∷ strict_literal 1 s (Bound 0) ∷ []) (guards_under 1 s.loci c) (and_from _ _ (object_arguments_under s) (and_from _ _ (object_arguments_under s) refl)))
    (and_from _ _ (and_from _ _ (index_0 (length s.loci)) (aggregate_under (length s.loci + 1) 1 s (map (selected (Bound 0)) s.fields) le (selected_all (length s.loci + 1) (Bound 0) s.fields (index_0 (length s.loci))))) refl)
