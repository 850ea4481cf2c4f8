-- Shifts, substitution and abstraction as functions of terms by the number of binders above.
use Rattle.std.proofs.Common.{◌≡◌, ◌<◌, ◌≤◌, ◌⊎◌, inl, inr, ℕ, ◌+◌, List, [], ◌∷◌, map, refl, ap, sym, ◌∙◌, arith, Bool, true, false}
use Rattle.std.specs.Prelude.{nat_eq, if◌then◌else◌}
use Rattle.std.proofs.lemmas.Bool.{cases_lt}
use Rattle.mz_logic.specs.Term.{Term, Terms, Bound, Const, App, none, more}
use Rattle.mz_logic.specs.Formula as formula
use Rattle.mz_logic.specs.Formula.{Formula}
use Rattle.mz_logic.specs.Substitution.{shift, shift_args, shift_formula, substitute, substitute_formula}
use Rattle.mz_logic.specs.Abstraction.{term_over, args_over, formula_over}
use Rattle.mz_logic.proofs.ShiftLaws.{shift-inside, shift-outside, shift-Bound}
use Rattle.mz_logic.proofs.SubstitutionLaws.{substitute-inside, substitute-shift}
use Rattle.mz_core.specs.Statement.{Statement, Truth, Eq, Atom, Not, And, For}
use Rattle.mz_core.specs.TypeShift.{shift_type, shift_statement}
use Rattle.mz_core.specs.TypeSubstitution.{substitute_type, substitute_statement}
use Rattle.mz_core.specs.Abstraction.{type_over, statement_over}
use Rattle.mz_core.proofs.TermMaps.{GoesUnder, statement_with, formula_with}

abbrev pub shifts : ℕ → ℕ → Term → Term
shifts by d t = shift d by t

abbrev pub substitutes : (ℕ → Term) → ℕ → Term → Term
substitutes v d t = substitute d v t

abbrev pub abstracts : ℕ → ℕ → Term → Term
abstracts c d t = term_over c d t

-- a shift goes under one more binder
index_raised : (d by index : ℕ) → shift 0 1 (shift d by (Bound index)) ≡ shift (d + 1) by (shift 0 1 (Bound index))
index_raised d by index = elim (cases_lt index d) [
  | inl lt ↦
      let inside : index + 1 < d + 1 = omega arith in
      ap (shift 0 1) (shift-inside d by index lt) ∙ shift-Bound 1 index ∙ sym (ap (shift (d + 1) by) (shift-Bound 1 index) ∙ shift-inside (d + 1) by (index + 1) inside)
  | inr le ↦
      let outside : d + 1 ≤ index + 1 = omega arith in
      let sum : index + by + 1 ≡ index + 1 + by = omega arith in
      ap (shift 0 1) (shift-outside d by index le) ∙ shift-Bound 1 (index + by) ∙ ap Bound sum ∙ sym (ap (shift (d + 1) by) (shift-Bound 1 index) ∙ shift-outside (d + 1) by (index + 1) outside)
]

mutual
  shift_raised : (d by : ℕ) (t : Term) → shift 0 1 (shift d by t) ≡ shift (d + 1) by (shift 0 1 t)
  shift_raised d by (Bound index) = index_raised d by index
  shift_raised d by (Const number) = refl
  shift_raised d by (App s ts) = ap (λ us. App s us) (shift_args_raised d by ts)

  shift_args_raised : (d by : ℕ) (ts : Terms) → shift_args 0 1 (shift_args d by ts) ≡ shift_args (d + 1) by (shift_args 0 1 ts)
  shift_args_raised d by none = refl
  shift_args_raised d by (more t ts) = λ i. more (shift_raised d by t i) (shift_args_raised d by ts i)

zero_below : (d : ℕ) → 0 < d + 1
zero_below d = omega arith

pub shifts_go_under : (by : ℕ) → GoesUnder (shifts by)
shifts_go_under by = record { raised = λ d t. shift_raised d by t; kept = λ d. shift-inside (d + 1) by 0 (zero_below d) }

-- so does a substitution
pub substitutes_go_under : (v : ℕ → Term) → GoesUnder (substitutes v)
substitutes_go_under v = record { raised = λ d t. sym (substitute-shift d 1 v t); kept = λ d. substitute-inside (d + 1) v 0 (zero_below d) }

-- and so does an abstraction
shift-constant_raised : (d number : ℕ) (b : Bool) → shift 0 1 (if b then Bound d else Const number) ≡ (if b then Bound (d + 1) else Const number)
shift-constant_raised d number true = shift-Bound 1 d
shift-constant_raised d number false = refl

mutual
  over_raised : (c d : ℕ) (t : Term) → shift 0 1 (term_over c d t) ≡ term_over c (d + 1) (shift 0 1 t)
  over_raised c d (Bound index) = index_raised d 1 index
  over_raised c d (Const number) = shift-constant_raised d number (nat_eq number c)
  over_raised c d (App s ts) = ap (λ us. App s us) (args_over_raised c d ts)

  args_over_raised : (c d : ℕ) (ts : Terms) → shift_args 0 1 (args_over c d ts) ≡ args_over c (d + 1) (shift_args 0 1 ts)
  args_over_raised c d none = refl
  args_over_raised c d (more t ts) = λ i. more (over_raised c d t i) (args_over_raised c d ts i)

pub abstracts_go_under : (c : ℕ) → GoesUnder (abstracts c)
abstracts_go_under c = record { raised = λ d t. over_raised c d t; kept = λ d. shift-inside (d + 1) 1 0 (zero_below d) }

-- the definitions are these functions on the terms
pub shift_statement-with : (by d : ℕ) (s : Statement) → shift_statement d by s ≡ statement_with (shifts by) d s
shift_statement-with by d Truth = refl
shift_statement-with by d (Eq t u) = refl
shift_statement-with by d (Atom s ts) = refl
shift_statement-with by d (Not s) = ap Not (shift_statement-with by d s)
shift_statement-with by d (And s t) = λ i. And (shift_statement-with by d s i) (shift_statement-with by d t i)
shift_statement-with by d (For ty s) = ap (For (shift_type d by ty)) (shift_statement-with by (d + 1) s)

pub shift_formula-with : (by d : ℕ) (f : Formula) → shift_formula d by f ≡ formula_with (shifts by) d f
shift_formula-with by d formula.Truth = refl
shift_formula-with by d (formula.Eq t u) = refl
shift_formula-with by d (formula.Atom s ts) = refl
shift_formula-with by d (formula.Not f) = ap formula.Not (shift_formula-with by d f)
shift_formula-with by d (formula.And f g) = λ i. formula.And (shift_formula-with by d f i) (shift_formula-with by d g i)
shift_formula-with by d (formula.All f) = ap formula.All (shift_formula-with by (d + 1) f)

pub substitute_statement-with : (v : ℕ → Term) (d : ℕ) (s : Statement) → substitute_statement d v s ≡ statement_with (substitutes v) d s
substitute_statement-with v d Truth = refl
substitute_statement-with v d (Eq t u) = refl
substitute_statement-with v d (Atom s ts) = refl
substitute_statement-with v d (Not s) = ap Not (substitute_statement-with v d s)
substitute_statement-with v d (And s t) = λ i. And (substitute_statement-with v d s i) (substitute_statement-with v d t i)
substitute_statement-with v d (For ty s) = ap (For (substitute_type d v ty)) (substitute_statement-with v (d + 1) s)

pub substitute_formula-with : (v : ℕ → Term) (d : ℕ) (f : Formula) → substitute_formula d v f ≡ formula_with (substitutes v) d f
substitute_formula-with v d formula.Truth = refl
substitute_formula-with v d (formula.Eq t u) = refl
substitute_formula-with v d (formula.Atom s ts) = refl
substitute_formula-with v d (formula.Not f) = ap formula.Not (substitute_formula-with v d f)
substitute_formula-with v d (formula.And f g) = λ i. formula.And (substitute_formula-with v d f i) (substitute_formula-with v d g i)
substitute_formula-with v d (formula.All f) = ap formula.All (substitute_formula-with v (d + 1) f)

pub statement_over-with : (c d : ℕ) (s : Statement) → statement_over c d s ≡ statement_with (abstracts c) d s
statement_over-with c d Truth = refl
statement_over-with c d (Eq t u) = refl
statement_over-with c d (Atom s ts) = refl
statement_over-with c d (Not s) = ap Not (statement_over-with c d s)
statement_over-with c d (And s t) = λ i. And (statement_over-with c d s i) (statement_over-with c d t i)
statement_over-with c d (For ty s) = ap (For (type_over c d ty)) (statement_over-with c (d + 1) s)

pub formula_over-with : (c d : ℕ) (f : Formula) → formula_over c d f ≡ formula_with (abstracts c) d f
formula_over-with c d formula.Truth = refl
formula_over-with c d (formula.Eq t u) = refl
formula_over-with c d (formula.Atom s ts) = refl
formula_over-with c d (formula.Not f) = ap formula.Not (formula_over-with c d f)
formula_over-with c d (formula.And f g) = λ i. formula.And (formula_over-with c d f i) (formula_over-with c d g i)
formula_over-with c d (formula.All f) = ap formula.All (formula_over-with c (d + 1) f)
