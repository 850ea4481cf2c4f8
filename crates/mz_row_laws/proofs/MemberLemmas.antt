-- Members of lists of rows and of clauses.
use Rattle.std.proofs.Common.{◌≡◌, ◌⊎◌, inl, inr, ℕ, List, [], ◌∷◌, refl, sym, subst, arith, Bool, true, false}
use Rattle.std.specs.Prelude.{Contains, flat_map, if◌then◌else◌, Some, None}
use Rattle.std.proofs.lemmas.Bool.{false≢true}
use Rattle.std.proofs.lemmas.List.Elements.{Contains-push_cases, Contains-append_cases, Contains-append_left, Contains-append_right}
use Rattle.mz_logic.specs.declared.sym.Sym.{Sym}
use Rattle.mz_logic.specs.Term as term
use Rattle.mz_logic.specs.declared.literal.Literal.{Literal}
use Rattle.mz_ground.specs.declared.trigger.Trigger.{Trigger}
use Rattle.mz_ground.specs.declared.trigger.Trigger.TheVariants.{Atom}
use Rattle.mz_ground.specs.Variables.{has_all_below}
use Rattle.mz_ground.specs.declared.clause.Clause.{Clause}
use Rattle.mz_clauses.specs.Groups.{one_group, group_if_any, clause_where, clause_if_triggered, groups_clauses}
use Rattle.mz_environment.specs.declared.rows.Row.{Row}
use Rattle.mz_environment.specs.Rows.{row_where}
use Rattle.mz_row_laws.specs.RowLaws.{HasClause}

-- lists of one element at most
pub in_none : {X : Type 0} (x : X) → Contains [] x → ⊥
in_none x h = let lt = h.1 in omega arith

pub in_one : {X : Type 0} (y x : X) → Contains (y ∷ []) x → y ≡ x
in_one y x h = elim (Contains-push_cases [] y x h) [
  | inl none ↦ absurd (in_none x none)
  | inr e ↦ e
]

pub in_where : (b : Bool) (s r : Row) → Contains (row_where b s) r → (b ≡ true) × (s ≡ r)
in_where true s r h = (refl, in_one s r h)
in_where false s r h = absurd (in_none r h)

in_more : {X : Type 0} (y : X) (ys : List X) (x : X) → Contains (y ∷ ys) x → (y ≡ x) ⊎ Contains ys x
in_more y ys x h = elim (Contains-append_cases (y ∷ []) ys x h) [
  | inl one ↦ inl (in_one y x one)
  | inr rest ↦ inr rest
]

in_flat : {X Y : Type 0} (f : X → List Y) (xs : List X) (x : X) (y : Y) → Contains xs x → Contains (f x) y → Contains (flat_map f xs) y
in_flat f [] x y h k = absurd (in_none x h)
in_flat f (z ∷ zs) x y h k = elim (in_more z zs x h) [
  | inl e ↦ Contains-append_left (f z) (flat_map f zs) y (subst (λ u. Contains (f u) y) (sym e) k)
  | inr rest ↦ Contains-append_right (f z) (flat_map f zs) y (in_flat f zs x y rest k)
]

-- the clauses of a group whose trigger has all variables
where_has : (n : ℕ) (r : Trigger) (ps : List Literal) (k : Literal) (b : Bool) (q : has_all_below n r ≡ b) → b ≡ true → HasClause (clause_where n r ps k b q) n ps k
where_has n r ps k true q e =
    let c : Clause = record { variables = n; trigger = r; premises = ps; conclusion = k; triggered = q } in
    let one : Contains (c ∷ []) c = (0, omega arith, refl) in
    (c, one, refl, refl, refl)
where_has n r ps k false q e = absurd (false≢true e)

pub group_has : (n : ℕ) (r : Trigger) (ps cs : List Literal) (k : Literal) → has_all_below n r ≡ true → Contains cs k → HasClause (groups_clauses (one_group n r ps cs)) n ps k
unfolding clause_if_triggered
group_has n r ps cs k e h =
    let w : HasClause (clause_where n r ps k (has_all_below n r) refl) n ps k = where_has n r ps k (has_all_below n r) refl e in
    (w.0, Contains-append_left (flat_map (clause_if_triggered n r ps) cs) [] w.0 (in_flat (clause_if_triggered n r ps) cs k w.0 h w.1), w.2, w.3, w.4)

pub any_group_has : (b : Bool) (n : ℕ) (s : Sym) (ts : List term.Term) (ps cs : List Literal) (k : Literal) → b ≡ false → has_all_below n (Atom s ts) ≡ true → Contains cs k → HasClause (groups_clauses (group_if_any n (if b then None else Some (Atom s ts)) ps cs)) n ps k
any_group_has true n s ts ps cs k e f h = absurd (false≢true (sym e))
any_group_has false n s ts ps cs k e f h = group_has n (Atom s ts) ps cs k f h
