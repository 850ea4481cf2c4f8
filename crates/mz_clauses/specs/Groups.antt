-- Clauses that differ in their conclusions alone.
use Rattle.std.specs.Prelude.{◌≡◌, ℕ, Bool, true, false, if◌then◌else◌, List, [], ◌∷◌, ◌++◌, flat_map, refl, Option, Some, None}
use Rattle.std.specs.Option.{option_or}
use Rattle.mz_logic.specs.declared.literal.Literal.{Literal}
use Rattle.mz_logic.specs.declared.literal.Literal.TheVariants as literal
use Rattle.mz_ground.specs.Variables.{has_all_below}
use Rattle.mz_ground.specs.declared.trigger.Trigger.{Trigger}
use Rattle.mz_ground.specs.declared.trigger.Trigger.TheVariants.{Term, Atom}
use Rattle.mz_ground.specs.declared.clause.Clause.{Clause}
use Rattle.mz_clauses.specs.declared.clause_groups.ClauseGroup.{ClauseGroup}

abbrev pub clause_group : ℕ → Trigger → List Literal → List Literal → ClauseGroup
clause_group n r ps cs = record { variables = n; trigger = r; premises = ps; conclusions = cs }

-- one group
abbrev pub one_group : ℕ → Trigger → List Literal → List Literal → List ClauseGroup
one_group n r ps cs = clause_group n r ps cs ∷ []

-- one group, where there is a trigger
abbrev pub group_if_any : ℕ → Option Trigger → List Literal → List Literal → List ClauseGroup
group_if_any n None ps cs = []
group_if_any n (Some r) ps cs = clause_group n r ps cs ∷ []

-- the atom of a literal
abbrev pub literal_trigger : Literal → Option Trigger
literal_trigger (literal.Atom positive s ts) = Some (Atom s ts)
literal_trigger (literal.Eq positive t u) = None

-- the same, where it has all n variables
abbrev pub full_trigger : ℕ → Literal → Option Trigger
full_trigger n (literal.Atom positive s ts) = if has_all_below n (Atom s ts) then Some (Atom s ts) else None
full_trigger n (literal.Eq positive t u) = None

-- the first atom that has all n variables
abbrev pub first_trigger : ℕ → List Literal → Option Trigger
first_trigger n [] = None
first_trigger n (l ∷ ls) = option_or (full_trigger n l) (first_trigger n ls)

-- a clause, where its trigger has each of the n variables
abbrev pub clause_where : (n : ℕ) (r : Trigger) (ps : List Literal) (c : Literal) (b : Bool) → has_all_below n r ≡ b → List Clause
clause_where n r ps c true e = record { variables = n; trigger = r; premises = ps; conclusion = c; triggered = e } ∷ []
clause_where n r ps c false e = []

unfoldable pub clause_if_triggered : ℕ → Trigger → List Literal → Literal → List Clause
clause_if_triggered n r ps c = clause_where n r ps c (has_all_below n r) refl

-- the clauses of a group: one for each conclusion, none where the trigger lacks a variable
abbrev pub group_clauses : ClauseGroup → List Clause
group_clauses g = flat_map (clause_if_triggered g.variables g.trigger g.premises) g.conclusions

abbrev pub groups_clauses : List ClauseGroup → List Clause
groups_clauses gs = flat_map group_clauses gs
