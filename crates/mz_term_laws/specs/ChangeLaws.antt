-- A context stays whole where what is put into it is usable.
use Rattle.std.specs.Prelude.{◌≡◌, ◌≤◌, ℕ, true, List, [], ◌∷◌, ◌++◌, length, Some, None}
use Rattle.mz_logic.specs.Term.{Term}
use Rattle.mz_core.specs.Statement.{Statement}
use Rattle.mz_core.specs.InForce.{term_in_force, type_in_force, statement_in_force}
use Rattle.mz_core.specs.Closed.{term_under, type_under, statement_under}
use Rattle.mz_core.specs.Below.{type_below, statement_below}
use Rattle.mz_core.specs.declared.soft_type.SoftType.{SoftType}
use Rattle.mz_logic.specs.Indices.{closed}
use Rattle.mz_items.specs.Closed.{letter_closed}
use Rattle.mz_context.specs.Context.{next}
use Rattle.mz_context.specs.Changes.{with_constant, with_statement}
use Rattle.mz_context.specs.declared.constants.Constant.{Constant}
use Rattle.mz_context.specs.declared.context.Context.{Context}
use Rattle.mz_context.specs.declared.letters.NamedLetter.{NamedLetter}
use Rattle.mz_context.specs.declared.private.PrivateFunctor.{PrivateFunctor}
use Rattle.mz_context.specs.declared.private.PrivatePredicate.{PrivatePredicate}
use Rattle.mz_context.specs.declared.reserved.ReservedVariable.{ReservedVariable}
use Rattle.mz_names.specs.Closing.{constant_of, with_variables}
use Rattle.mz_names.specs.Scope.{term_from, type_from, statement_from}
use Rattle.mz_names.specs.declared.variable.Variable.{Variable}
use Rattle.mz_choice_laws.specs.Known.{term_known, statement_known}
use Rattle.mz_term_laws.specs.Usable.{is_usable, term_usable, type_usable, statement_usable}
use Rattle.mz_term_laws.specs.Whole.{IsUsableConstant, IsWhole}

-- what is usable has no loose index, its constants are below the next one, and none is below the least one
abbrev pub UsableTermLaw : Type 0
UsableTermLaw = (least : ℕ) (c : Context) (t : Term) → term_usable least c t ≡ true → (closed t ≡ true) × (term_in_force (next c) t ≡ true) × (term_from least t ≡ true)

abbrev pub UsableTypeLaw : Type 0
UsableTypeLaw = (least : ℕ) (c : Context) (ty : SoftType) → type_usable least c ty ≡ true → (type_below 0 ty ≡ true) × (type_in_force (next c) ty ≡ true) × (type_from least ty ≡ true)

abbrev pub UsableStatementLaw : Type 0
UsableStatementLaw = (least : ℕ) (c : Context) (s : Statement) → statement_usable least c s ≡ true → (statement_below 0 s ≡ true) × (statement_in_force (next c) s ≡ true) × (statement_from least s ≡ true)

-- and what is so is usable
abbrev pub UsableBackLaw : Type 0
UsableBackLaw =
    (least : ℕ) (c : Context) →
    ((t : Term) → closed t ≡ true → term_in_force (next c) t ≡ true → term_from least t ≡ true → term_usable least c t ≡ true) ×
    ((ty : SoftType) → type_below 0 ty ≡ true → type_in_force (next c) ty ≡ true → type_from least ty ≡ true → type_usable least c ty ≡ true) ×
    ((s : Statement) → statement_below 0 s ≡ true → statement_in_force (next c) s ≡ true → statement_from least s ≡ true → statement_usable least c s ≡ true)

-- where no constant may be used it has none
abbrev pub NoneUsableLaw : Type 0
NoneUsableLaw =
    (least : ℕ) (c : Context) → next c ≤ least →
    ((t : Term) → term_usable least c t ≡ true → term_under 0 t ≡ true) × ((ty : SoftType) → type_usable least c ty ≡ true → type_under 0 ty ≡ true) × ((s : Statement) → statement_usable least c s ≡ true → statement_under 0 s ≡ true)

-- it is so with fewer constants that may not be used
abbrev pub MoreUsableLaw : Type 0
MoreUsableLaw =
    (from least : ℕ) (c : Context) → from ≤ least →
    ((t : Term) → term_usable least c t ≡ true → term_usable from c t ≡ true) × ((ty : SoftType) → type_usable least c ty ≡ true → type_usable from c ty ≡ true) × ((s : Statement) → statement_usable least c s ≡ true → statement_usable from c s ≡ true)

-- a context is whole where nothing is put into it
pub record IsEmpty (c : Context) : Type 0 where
  pub constants : c.constants ≡ []
  pub reserved : c.reserved ≡ []
  pub labelled : c.labelled ≡ []
  pub previous : c.previous ≡ None
  pub functors : c.functors ≡ []
  pub predicates : c.predicates ≡ []
  pub letters : c.letters ≡ []
  pub thesis : c.thesis ≡ None
  pub it_is : c.it ≡ None
  pub arguments : c.arguments ≡ []
  pub subject : c.subject ≡ None

abbrev pub EmptyLaw : Type 0
EmptyLaw = (least : ℕ) (c : Context) → IsEmpty c → IsWhole least c

-- so is one that is whole, where no constant of it may be used any more
abbrev pub WholeFromLaw : Type 0
WholeFromLaw =
    (least : ℕ) (c : Context) → IsWhole 0 c → next c ≤ least →
    c.thesis ≡ None → c.it ≡ None → c.arguments ≡ [] → c.subject ≡ None → IsWhole least c

-- one constant more
abbrev pub ConstantLaw : Type 0
ConstantLaw = (least : ℕ) (c : Context) (k : Constant) → IsWhole least c → IsUsableConstant least c k → IsWhole least (with_constant c k)

-- the type of each variable is usable behind the variables before it
abbrev pub AreUsable : ℕ → Context → List Variable → Type 0
AreUsable least c [] = Unit {0}
AreUsable least c (v ∷ vs) = (type_usable least c v.ty ≡ true) × AreUsable least (with_constant c (constant_of v)) vs

-- variables
abbrev pub VariablesLaw : Type 0
VariablesLaw = (least : ℕ) (c : Context) (vs : List Variable) → IsWhole least c → AreUsable least c vs → IsWhole least (with_variables c vs)

-- a statement, under its label if it has one
abbrev pub StatementLaw : Type 0
StatementLaw = (least : ℕ) (c : Context) (label : List ℕ) (s : Statement) → IsWhole least c → statement_usable least c s ≡ true → IsWhole least (with_statement c label s)

-- a thesis, and none just before
abbrev pub ThesisLaw : Type 0
ThesisLaw = (least : ℕ) (c : Context) (s : Statement) → IsWhole least c → statement_usable least c s ≡ true → IsWhole least (record c { thesis = Some s })

abbrev pub PreviousLaw : Type 0
PreviousLaw = (least : ℕ) (c : Context) → IsWhole least c → IsWhole least (record c { previous = None })

-- reserved variables, private functors and predicates, and letters
abbrev pub ReservedLaw : Type 0
ReservedLaw = (least : ℕ) (c : Context) (v : ReservedVariable) → IsWhole least c → type_usable least c v.ty ≡ true → IsWhole least (record c { reserved = c.reserved ++ v ∷ [] })

abbrev pub FunctorLaw : Type 0
FunctorLaw =
    (least : ℕ) (c : Context) (f : PrivateFunctor) → IsWhole least c → term_known (is_usable least c) (length f.places) f.body ≡ true →
    IsWhole least (record c { functors = c.functors ++ f ∷ [] })

abbrev pub PredicateLaw : Type 0
PredicateLaw =
    (least : ℕ) (c : Context) (p : PrivatePredicate) → IsWhole least c → statement_known (is_usable least c) (length p.places) p.body ≡ true →
    IsWhole least (record c { predicates = c.predicates ++ p ∷ [] })

abbrev pub LetterLaw : Type 0
LetterLaw = (least : ℕ) (c : Context) (l : NamedLetter) → IsWhole least c → letter_closed l.letter ≡ true → IsWhole least (record c { letters = c.letters ++ l ∷ [] })
