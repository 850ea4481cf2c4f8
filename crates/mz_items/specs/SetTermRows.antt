-- What set terms, choices and the sethood of a mode owe and grant, under the loci.
use Rattle.std.specs.Prelude.{ℕ, ◌+◌, Option, Some, None}
use Rattle.mz_logic.specs.Term.{Term, Bound}
use Rattle.mz_logic.specs.Substitution.{shift}
use Rattle.mz_core.specs.Statement.{Statement, Truth, Eq, And, For}
use Rattle.mz_core.specs.StatementForms.{equivalence, for_some}
use Rattle.mz_core.specs.TypeShift.{shift_type, shift_statement}
use Rattle.mz_core.specs.TypeStatements.{is_of_type}
use Rattle.mz_core.specs.Hidden.{object_type, set_type, is_in}
use Rattle.mz_core.specs.declared.soft_type.SoftType.{SoftType}
use Rattle.mz_core.specs.declared.set_term.SetTerm.{SetTerm}
use Rattle.mz_core.specs.declared.set_term.Choice.{Choice}
use Rattle.mz_items.specs.declared.condition.Condition.{Condition}
use Rattle.mz_items.specs.declared.condition.Condition.TheVariants.{Existence, Uniqueness, Coherence, Compatibility, Consistency, Reducibility}
use Rattle.mz_items.specs.Loci.{term_on}

-- for z being object holds z in Z iff ex x being T st z = t & P, where Z stands under z, and under
-- `by` variables more than the loci
abbrev pub comprehension : ℕ → Term → SetTerm → Statement
comprehension by set s =
    For object_type
    (equivalence (is_in (Bound 0) set)
    (for_some (shift_type 0 (by + 1) s.ty) (And (Eq (Bound 1) (shift 1 (by + 1) s.term)) (shift_statement 1 (by + 1) s.formula))))

-- ex Z being set st for z being object holds z in Z iff ex x being T st z = t & P
abbrev pub set_term_existence : SetTerm → Statement
set_term_existence s = for_some set_type (comprehension 1 (Bound 1) s)

-- for z being object holds z in F iff ex x being T st z = t & P
abbrev pub set_term_grant : SetTerm → Statement
set_term_grant s = comprehension 0 (shift 0 1 (term_on s.loci s.sym)) s

-- ex y being T st truth
abbrev pub choice_existence : Choice → Statement
choice_existence c = for_some c.ty Truth

-- T(C)
abbrev pub choice_grant : Choice → Statement
choice_grant c = is_of_type c.ty (term_on c.loci c.sym)

-- ex Z being set st for y being M holds y in Z
abbrev pub sethood : SoftType → Statement
sethood mode = for_some set_type (For (shift_type 0 1 mode) (is_in (Bound 0) (Bound 1)))

abbrev pub set_term_thesis : SetTerm → Condition → Option Statement
set_term_thesis s Existence = Some (set_term_existence s)
set_term_thesis s Uniqueness = None
set_term_thesis s Coherence = None
set_term_thesis s Compatibility = None
set_term_thesis s Consistency = None
set_term_thesis s Reducibility = None

abbrev pub choice_thesis : Choice → Condition → Option Statement
choice_thesis c Existence = Some (choice_existence c)
choice_thesis c Uniqueness = None
choice_thesis c Coherence = None
choice_thesis c Compatibility = None
choice_thesis c Consistency = None
choice_thesis c Reducibility = None
