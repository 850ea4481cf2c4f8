-- Groups of clauses without constants and loose indices.
use Rattle.std.proofs.Common.{◌≡◌, ℕ, List, [], ◌∷◌, refl, Bool, true, false}
use Rattle.std.specs.Prelude.{◌&&◌, if◌then◌else◌, Option, Some, None}
use Rattle.std.specs.Option.{option_or}
use Rattle.std.specs.List.{list_all}
use Rattle.std.proofs.lemmas.Bool.{and_parts, and_from}
use Rattle.mz_logic.specs.Term as term
use Rattle.mz_logic.specs.declared.sym.Sym.{Sym}
use Rattle.mz_logic.specs.declared.literal.Literal.{Literal}
use Rattle.mz_logic.specs.declared.literal.Literal.TheVariants as literal
use Rattle.mz_core.specs.Closed.{term_under, literal_under}
use Rattle.mz_ground.specs.Variables.{has_all_below}
use Rattle.mz_ground.specs.declared.trigger.Trigger.{Trigger}
use Rattle.mz_ground.specs.declared.trigger.Trigger.TheVariants.{Term, Atom}
use Rattle.mz_items.proofs.ItemLemmas.{three}
use Rattle.mz_clauses.specs.declared.clause_groups.ClauseGroup.{ClauseGroup}
use Rattle.mz_clauses.specs.Groups.{one_group, group_if_any, literal_trigger, full_trigger, first_trigger, clause_where, clause_if_triggered, group_clauses, groups_clauses}
use Rattle.mz_closed_laws.specs.ClosedClauses.{trigger_under, clause_closed}
use Rattle.mz_closed_laws.proofs.LiteralLemmas.{all-flat}

abbrev pub group_closed : ClauseGroup → Bool
group_closed g =
    trigger_under g.variables g.trigger && list_all (literal_under g.variables) g.premises && list_all (literal_under g.variables) g.conclusions

-- the clauses of a group
where_closed : (n : ℕ) (r : Trigger) (ps : List Literal) (c : Literal) (b : Bool) (e : has_all_below n r ≡ b) → trigger_under n r ≡ true → list_all (literal_under n) ps ≡ true → literal_under n c ≡ true → list_all clause_closed (clause_where n r ps c b e) ≡ true
where_closed n r ps c true e hr hp hc = and_from _ _ (and_from _ _ (and_from _ _ hr hp) hc) refl
where_closed n r ps c false e hr hp hc = refl

triggered_closed : (n : ℕ) (r : Trigger) (ps : List Literal) (c : Literal) → trigger_under n r ≡ true → list_all (literal_under n) ps ≡ true → literal_under n c ≡ true → list_all clause_closed (clause_if_triggered n r ps c) ≡ true
unfolding clause_if_triggered
triggered_closed n r ps c hr hp hc = where_closed n r ps c (has_all_below n r) refl hr hp hc

clauses_closed : (g : ClauseGroup) → group_closed g ≡ true → list_all clause_closed (group_clauses g) ≡ true
clauses_closed g h =
    let t : (trigger_under g.variables g.trigger ≡ true) × (list_all (literal_under g.variables) g.premises ≡ true) × (list_all (literal_under g.variables) g.conclusions ≡ true) = three (trigger_under g.variables g.trigger) (list_all (literal_under g.variables) g.premises) (list_all (literal_under g.variables) g.conclusions) h in
    all-flat (literal_under g.variables) clause_closed (clause_if_triggered g.variables g.trigger g.premises) g.conclusions (λ c k. triggered_closed g.variables g.trigger g.premises c t.0 t.1 k) t.2

pub groups_closed : (gs : List ClauseGroup) → list_all group_closed gs ≡ true → list_all clause_closed (groups_clauses gs) ≡ true
groups_closed gs h = all-flat group_closed clause_closed group_clauses gs clauses_closed h

-- a trigger, if any, under n binders
abbrev pub AtMost : ℕ → Option Trigger → Type 0
AtMost n None = Unit {0}
AtMost n (Some r) = trigger_under n r ≡ true

pub one_closed : (n : ℕ) (r : Trigger) (ps cs : List Literal) → trigger_under n r ≡ true → list_all (literal_under n) ps ≡ true → list_all (literal_under n) cs ≡ true → list_all group_closed (one_group n r ps cs) ≡ true
one_closed n r ps cs hr hp hc = and_from _ _ (and_from _ _ (and_from _ _ hr hp) hc) refl

pub if_any_closed : (n : ℕ) (r : Option Trigger) (ps cs : List Literal) → AtMost n r → list_all (literal_under n) ps ≡ true → list_all (literal_under n) cs ≡ true → list_all group_closed (group_if_any n r ps cs) ≡ true
if_any_closed n None ps cs hr hp hc = refl
if_any_closed n (Some r) ps cs hr hp hc = one_closed n r ps cs hr hp hc

-- triggers
pub literal_trigger_at : (n : ℕ) (l : Literal) → literal_under n l ≡ true → AtMost n (literal_trigger l)
literal_trigger_at n (literal.Atom positive s ts) h = h
literal_trigger_at n (literal.Eq positive t u) h = tt

pub choice_at : (n : ℕ) (b : Bool) (s : Sym) (ts : List term.Term) → list_all (term_under n) ts ≡ true → AtMost n (if b then None else Some (Atom s ts))
choice_at n true s ts h = tt
choice_at n false s ts h = h

full_choice_at : (n : ℕ) (b : Bool) (s : Sym) (ts : List term.Term) → list_all (term_under n) ts ≡ true → AtMost n (if b then Some (Atom s ts) else None)
full_choice_at n true s ts h = h
full_choice_at n false s ts h = tt

full_at : (n : ℕ) (l : Literal) → literal_under n l ≡ true → AtMost n (full_trigger n l)
full_at n (literal.Atom positive s ts) h = full_choice_at n (has_all_below n (Atom s ts)) s ts h
full_at n (literal.Eq positive t u) h = tt

or_at : (n : ℕ) (r s : Option Trigger) → AtMost n r → AtMost n s → AtMost n (option_or r s)
or_at n None s h k = k
or_at n (Some r) s h k = h

pub first_at : (n : ℕ) (ls : List Literal) → list_all (literal_under n) ls ≡ true → AtMost n (first_trigger n ls)
first_at n [] h = tt
first_at n (l ∷ ls) h =
    let both : (literal_under n l ≡ true) × (list_all (literal_under n) ls ≡ true) = and_parts (literal_under n l) (list_all (literal_under n) ls) h in
    or_at n (full_trigger n l) (first_trigger n ls) (full_at n l both.0) (first_at n ls both.1)
