-- What a registration owes, under its loci; it grants nothing.
use Rattle.std.specs.Prelude.{List, map, Option, Some, None}
use Rattle.mz_logic.specs.Term.{Term, Bound}
use Rattle.mz_core.specs.Statement.{Statement, Eq, For}
use Rattle.mz_core.specs.StatementForms.{implication, for_some}
use Rattle.mz_core.specs.TypeShift.{shift_adjective}
use Rattle.mz_core.specs.Guard.{adjective_literal}
use Rattle.mz_core.specs.Parts.{conjunction, where_all}
use Rattle.mz_core.specs.TypeStatements.{literal_statement, is_of_type}
use Rattle.mz_core.specs.declared.soft_type.SoftType.{SoftType}
use Rattle.mz_core.specs.declared.adjective.Adjective.{Adjective}
use Rattle.mz_core.specs.declared.registration.ExistentialRegistration.{ExistentialRegistration}
use Rattle.mz_core.specs.declared.registration.ConditionalRegistration.{ConditionalRegistration}
use Rattle.mz_core.specs.declared.registration.FunctorialRegistration.{FunctorialRegistration}
use Rattle.mz_core.specs.declared.registration.EquationRegistration.{EquationRegistration}
use Rattle.mz_items.specs.declared.condition.Condition.{Condition}
use Rattle.mz_items.specs.declared.condition.Condition.TheVariants.{Existence, Uniqueness, Coherence, Compatibility, Consistency, Reducibility}

-- V(t), negated for `non`
abbrev pub adjective_statement : Term → Adjective → Statement
adjective_statement t a = literal_statement (adjective_literal t a)

-- A(t), for each adjective
abbrev pub adjective_statements : List Adjective → Term → List Statement
adjective_statements xs t = map (adjective_statement t) xs

-- A(y), y being the object of the innermost quantifier
abbrev pub adjectives_inside : List Adjective → List Statement
adjectives_inside xs = adjective_statements (map (shift_adjective 0 1) xs) (Bound 0)

-- ex y being T st A(y)
abbrev pub existential : ExistentialRegistration → Statement
existential r = for_some r.ty (conjunction (adjectives_inside r.adjectives))

-- for y being T st A(y) holds B(y)
abbrev pub conditional : ConditionalRegistration → Statement
conditional r = For r.ty (where_all (adjectives_inside r.from) (conjunction (adjectives_inside r.to)))

-- s, or T(t) implies s
abbrev pub under_type : Option SoftType → Term → Statement → Statement
under_type None t s = s
under_type (Some ty) t s = implication (is_of_type ty t) s

-- B(t), or T(t) implies B(t)
abbrev pub functorial : FunctorialRegistration → Statement
functorial r = under_type r.ty r.term (conjunction (adjective_statements r.adjectives r.term))

-- t = u
abbrev pub equality : EquationRegistration → Statement
equality r = Eq r.left r.right

abbrev pub existential_thesis : ExistentialRegistration → Condition → Option Statement
existential_thesis r Existence = Some (existential r)
existential_thesis r Uniqueness = None
existential_thesis r Coherence = None
existential_thesis r Compatibility = None
existential_thesis r Consistency = None
existential_thesis r Reducibility = None

abbrev pub conditional_thesis : ConditionalRegistration → Condition → Option Statement
conditional_thesis r Existence = None
conditional_thesis r Uniqueness = None
conditional_thesis r Coherence = Some (conditional r)
conditional_thesis r Compatibility = None
conditional_thesis r Consistency = None
conditional_thesis r Reducibility = None

abbrev pub functorial_thesis : FunctorialRegistration → Condition → Option Statement
functorial_thesis r Existence = None
functorial_thesis r Uniqueness = None
functorial_thesis r Coherence = Some (functorial r)
functorial_thesis r Compatibility = None
functorial_thesis r Consistency = None
functorial_thesis r Reducibility = None

abbrev pub reduction_thesis : EquationRegistration → Condition → Option Statement
reduction_thesis r Existence = None
reduction_thesis r Uniqueness = None
reduction_thesis r Coherence = None
reduction_thesis r Compatibility = None
reduction_thesis r Consistency = None
reduction_thesis r Reducibility = Some (equality r)

abbrev pub identification_thesis : EquationRegistration → Condition → Option Statement
identification_thesis r Existence = None
identification_thesis r Uniqueness = None
identification_thesis r Coherence = None
identification_thesis r Compatibility = Some (equality r)
identification_thesis r Consistency = None
identification_thesis r Reducibility = None
