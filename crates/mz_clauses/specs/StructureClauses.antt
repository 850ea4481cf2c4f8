-- Clauses of structures.
use Rattle.std.specs.Prelude.{ℕ, ◌+◌, true, List, [], ◌∷◌, ◌++◌, length, map, flat_map}
use Rattle.mz_logic.specs.Term as term
use Rattle.mz_logic.specs.Term.{Bound}
use Rattle.mz_logic.specs.Substitution.{value_at}
use Rattle.mz_logic.specs.declared.sym.Sym.{Sym}
use Rattle.mz_logic.specs.declared.literal.Literal.{Literal}
use Rattle.mz_logic.specs.declared.literal.Literal.TheVariants as literal
use Rattle.mz_core.specs.TypeSubstitution.{substitute_type}
use Rattle.mz_core.specs.Guard.{guard_literals}
use Rattle.mz_core.specs.declared.structure.Field.{Field}
use Rattle.mz_core.specs.declared.structure.Structure.{Structure}
use Rattle.mz_ground.specs.declared.trigger.Trigger.TheVariants.{Term, Atom}
use Rattle.mz_items.specs.Loci.{variables}
use Rattle.mz_items.specs.StructureRows.{aggregate, selected, selected_values, given_values}
use Rattle.mz_clauses.specs.declared.clause_groups.ClauseGroup.{ClauseGroup}
use Rattle.mz_clauses.specs.Guards.{loci_guards, guard_at_object}
use Rattle.mz_clauses.specs.Groups.{one_group}

-- the loci under `by` further variables, and then t
abbrev pub structure_arguments : ℕ → Structure → term.Term → List term.Term
structure_arguments by s t = variables by (length s.loci) ++ t ∷ []

-- S(t)
abbrev pub structure_literal : ℕ → Structure → term.Term → Literal
structure_literal by s t = literal.Atom true s.sym (structure_arguments by s t)

-- strict(t)
abbrev pub strict_literal : ℕ → Structure → term.Term → Literal
strict_literal by s t = literal.Atom true s.strict (structure_arguments by s t)

-- Ti(si(y))
abbrev pub field_guard : List term.Term → Field → List Literal
field_guard values f = guard_literals (substitute_type 0 (value_at values) f.ty) (selected (Bound 0) f)

-- (1) and (2): where G and S(y) hold, the guards of the ancestors at y, and Ti(si(y)) for each field
abbrev pub structure_parts : Structure → List Literal
structure_parts s = flat_map guard_at_object s.ancestors ++ flat_map (field_guard (selected_values s)) s.fields

abbrev pub part_groups : Structure → List ClauseGroup
part_groups s =
    one_group (length s.loci + 1) (Atom s.sym (structure_arguments 1 s (Bound 0))) (loci_guards 1 s.loci ++ structure_literal 1 s (Bound 0) ∷ []) (structure_parts s)

-- zi meets Ti, for each field
abbrev pub given_guards : List term.Term → List Field → List term.Term → List Literal
given_guards values [] zs = []
given_guards values (f ∷ fs) [] = []
given_guards values (f ∷ fs) (z ∷ zs) =
    guard_literals (substitute_type 0 (value_at values) f.ty) z ++ given_guards values fs zs

-- si(a) = zi, for each field
abbrev pub selection_equations : term.Term → List Field → List term.Term → List Literal
selection_equations a [] zs = []
selection_equations a (f ∷ fs) [] = []
selection_equations a (f ∷ fs) (z ∷ zs) = literal.Eq true (selected a f) z ∷ selection_equations a fs zs

-- (3): where G holds and each of the further variables z1,..,zn meets its field's type, S(a), strict(a) and
-- si(a) = zi, with a the aggregate of these
abbrev pub made_groups : Structure → ℕ → List term.Term → term.Term → List ClauseGroup
made_groups s count zs a =
    one_group (length s.loci + count) (Term a) (loci_guards count s.loci ++ given_guards (given_values s count a) s.fields zs) (structure_literal count s a ∷ strict_literal count s a ∷ selection_equations a s.fields zs)

abbrev pub aggregate_groups : Structure → List ClauseGroup
aggregate_groups s =
    made_groups s (length s.fields) (variables 0 (length s.fields)) (aggregate (length s.fields) s (variables 0 (length s.fields)))

-- (4): where G, S(y) and strict(y) hold, y is the aggregate of s1(y),..,sn(y)
abbrev pub strict_groups : Structure → List ClauseGroup
strict_groups s =
    one_group (length s.loci + 1) (Atom s.strict (structure_arguments 1 s (Bound 0))) (loci_guards 1 s.loci ++ structure_literal 1 s (Bound 0) ∷ strict_literal 1 s (Bound 0) ∷ []) (literal.Eq true (Bound 0) (aggregate 1 s (map (selected (Bound 0)) s.fields)) ∷ [])
