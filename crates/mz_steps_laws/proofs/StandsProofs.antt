-- What is left of a thesis is in force and has no free index.
use Rattle.std.proofs.Common.{◌≡◌, ◌≤◌, ◌+◌, ℕ, zero, suc, true, false, Bool, List, [], ◌∷◌, ◌++◌, map, drop, length, refl, sym, ap, ◌∙◌, subst, arith, Option, Some, None}
use Rattle.std.specs.List.{list_all}
use Rattle.std.proofs.lemmas.Bool.{and_parts, and_from}
use Rattle.mz_logic.specs.Term.{Term, Const}
use Rattle.mz_logic.specs.Formula.{Formula}
use Rattle.mz_logic.specs.Indices.{is_below, closed}
use Rattle.mz_core.specs.Statement.{Statement, Truth, Eq, Atom, Not, And, For}
use Rattle.mz_core.specs.StatementForms.{opposite}
use Rattle.mz_core.specs.TypeSubstitution.{statement_at}
use Rattle.mz_core.specs.Parts.{parts, conjunction}
use Rattle.mz_core.specs.InForce.{term_in_force, type_in_force, statement_in_force}
use Rattle.mz_core.specs.Below.{type_below, statement_below}
use Rattle.mz_core.specs.declared.soft_type.SoftType.{SoftType}
use Rattle.mz_core.proofs.LawProofs.{more_in_force, body_in_force, body_below, negation_in_force, parts_in_force, conjunction_in_force}
use Rattle.mz_core.proofs.AllLemmas.{opposite_all, conjunction_all, parts_all}
use Rattle.mz_context.specs.Context.{next, numbers}
use Rattle.mz_context.specs.Changes.{with_constant}
use Rattle.mz_context.specs.declared.constants.Constant.{Constant}
use Rattle.mz_context.specs.declared.context.Context.{Context}
use Rattle.mz_ground.specs.declared.clause.Clause.{Clause}
use Rattle.mz_environment.specs.declared.unfoldings.Unfolding.{Unfolding}
use Rattle.mz_names.specs.Closing.{constant_of, with_variables}
use Rattle.mz_names.specs.declared.variable.Variable.{Variable}
use Rattle.mz_thesis.specs.declared.step.Step.{Step}
use Rattle.mz_thesis.specs.declared.step.Step.TheVariants as step
use Rattle.mz_thesis.specs.Rows.{Admits, thesis_after, antecedents, rest_behind}
use Rattle.mz_thesis.specs.Applied.{Unfolded, Applied, fits, unfolds, unfolds_to_nothing, no_unfolding_left, Leads, most_unfoldings}
use Rattle.mz_thesis_laws.specs.StepLaws.{AreUnfoldings}
use Rattle.mz_thesis_laws.proofs.UnfoldProofs.{some-inj, none_some}
use Rattle.mz_thesis_laws.proofs.KeepProofs.{Stands, unfolded_stands}
use Rattle.mz_steps.specs.Rows.{thesis_step, with_constants, constant_for}
use Rattle.mz_steps.specs.Effects.{left_of, Led, ActsBy, Acts}
use Rattle.mz_steps.specs.declared.read_step.ReadStep.{ReadStep}
use Rattle.mz_steps.specs.declared.read_step.ReadStep.TheVariants.{Let, Assume, Given, Thus, Take, Consider, Reconsider, Set, State}
use Rattle.mz_steps.specs.declared.block.Effect.{Effect}
use Rattle.mz_steps.specs.declared.block.Effect.TheVariants.{Unchanged, Leaves, Says}
use Rattle.mz_steps_laws.specs.Facts.{facts, Rests}
use Rattle.mz_steps_laws.specs.StepLaws.{IsReadIn, thesis_left, ThesisStandsLaw}
use Rattle.mz_steps_laws.proofs.FactLemmas.{next_with}
use Rattle.mz_steps_laws.proofs.ThereAreProofs.{new_in_force}

all_behind : (p : Statement → Bool) (n : ℕ) (ss : List Statement) → list_all p ss ≡ true → list_all p (drop n ss) ≡ true
all_behind p zero ss h = h
all_behind p (suc n) [] h = h
all_behind p (suc n) (s ∷ ss) h = all_behind p n ss (and_parts (p s) (list_all p ss) h).1

alone : (p : Statement → Bool) (s : Statement) → p s ≡ true → list_all p (s ∷ []) ≡ true
alone p s h = and_from (p s) true h refl

-- what a thesis assumes
assumed_in_force : (n : ℕ) (s : Statement) → statement_in_force n s ≡ true → list_all (statement_in_force n) (antecedents s) ≡ true
assumed_in_force n Truth h = refl
assumed_in_force n (Eq t u) h = alone (statement_in_force n) (Not (Eq t u)) h
assumed_in_force n (Atom s ts) h = alone (statement_in_force n) (Not (Atom s ts)) h
assumed_in_force n (Not s) h = parts_in_force n s h
assumed_in_force n (And s t) h = alone (statement_in_force n) (Not (And s t)) h
assumed_in_force n (For ty s) h = alone (statement_in_force n) (Not (For ty s)) h

assumed_below : (s : Statement) → statement_below 0 s ≡ true → list_all (statement_below 0) (antecedents s) ≡ true
assumed_below Truth h = refl
assumed_below (Eq t u) h = alone (statement_below 0) (Not (Eq t u)) h
assumed_below (Atom s ts) h = alone (statement_below 0) (Not (Atom s ts)) h
assumed_below (Not s) h = parts_all is_below 0 s h
assumed_below (And s t) h = alone (statement_below 0) (Not (And s t)) h
assumed_below (For ty s) h = alone (statement_below 0) (Not (For ty s)) h

rest_stands : (n : ℕ) (s : Statement) (ts : List Statement) → list_all (statement_in_force n) ts ≡ true → list_all (statement_below 0) ts ≡ true → Stands n (rest_behind s ts)
rest_stands n s ts h k =
    let rest : List Statement = drop (length (parts s)) ts in
    record {
      in_force = conjunction_in_force n rest (all_behind (statement_in_force n) (length (parts s)) ts h);
      below = conjunction_all is_below 0 rest (all_behind (statement_below 0) (length (parts s)) ts k);
    }

opposite_stands : (n : ℕ) (s : Statement) → Stands n s → Stands n (opposite s)
opposite_stands n s w = record { in_force = negation_in_force n s ∙ w.in_force; below = opposite_all is_below 0 s ∙ w.below }

-- the body of a quantifier at a term
body_stands : (n : ℕ) (ty : SoftType) (s : Statement) (t : Term) → closed t ≡ true → term_in_force n t ≡ true → statement_in_force n s ≡ true → statement_below 1 s ≡ true → Stands n (statement_at s t)
body_stands n ty s t ct ht hs bs = record { in_force = body_in_force n s t ht hs; below = body_below 0 s t ct bs }

-- how many numbers there are behind a step
abbrev numbers_behind : ℕ → Step → ℕ
numbers_behind n (step.Let c ty) = suc n
numbers_behind n (step.Assume s) = n
numbers_behind n (step.Thus s) = n
numbers_behind n (step.Take t) = n

abbrev IsInReach : ℕ → Step → Type 0
IsInReach n (step.Let c ty) = c ≡ n
IsInReach n (step.Assume s) = Unit {0}
IsInReach n (step.Thus s) = Unit {0}
IsInReach n (step.Take t) = (closed t ≡ true) × (term_in_force n t ≡ true)

let_stands : (cs : List Clause) (ks : List (Option Constant)) (c : ℕ) (ty : SoftType) (th : Statement) → c ≡ numbers ks → Stands (numbers ks) th → Admits cs ks th (step.Let c ty) → Stands (suc (numbers ks)) (thesis_after th (step.Let c ty))
let_stands cs ks c ty Truth e w a = absurd a
let_stands cs ks c ty (Eq t u) e w a = absurd a
let_stands cs ks c ty (Atom s ts) e w a = absurd a
let_stands cs ks c ty (Not s) e w a = absurd a
let_stands cs ks c ty (And s t) e w a = absurd a
let_stands cs ks c ty (For known s) e w a =
    let n : ℕ = numbers ks in
    let f : (type_in_force n known ≡ true) × (statement_in_force n s ≡ true) = and_parts (type_in_force n known) (statement_in_force n s) w.in_force in
    let b : (type_below 0 known ≡ true) × (statement_below 1 s ≡ true) = and_parts (type_below 0 known) (statement_below 1 s) w.below in
    let new : term_in_force (suc n) (Const c) ≡ true = subst (λ m. term_in_force (suc n) (Const m) ≡ true) (sym e) (new_in_force n) in
    body_stands (suc n) known s (Const c) refl new (more_in_force n (suc n) s (omega arith) f.1) b.1

taken_stands : (cs : List Clause) (ks : List (Option Constant)) (t : Term) (s : Statement) → (closed t ≡ true) × (term_in_force (numbers ks) t ≡ true) → Stands (numbers ks) (Not s) → Admits cs ks (Not s) (step.Take t) → Stands (numbers ks) (thesis_after (Not s) (step.Take t))
taken_stands cs ks t Truth r w a = absurd a
taken_stands cs ks t (Eq u v) r w a = absurd a
taken_stands cs ks t (Atom s ts) r w a = absurd a
taken_stands cs ks t (Not s) r w a = absurd a
taken_stands cs ks t (And s u) r w a = absurd a
taken_stands cs ks t (For ty s) r w a =
    let n : ℕ = numbers ks in
    let f : (type_in_force n ty ≡ true) × (statement_in_force n s ≡ true) = and_parts (type_in_force n ty) (statement_in_force n s) w.in_force in
    let b : (type_below 0 ty ≡ true) × (statement_below 1 s ≡ true) = and_parts (type_below 0 ty) (statement_below 1 s) w.below in
    opposite_stands n (statement_at s t) (body_stands n ty s t r.0 r.1 f.1 b.1)

take_stands : (cs : List Clause) (ks : List (Option Constant)) (t : Term) (th : Statement) → (closed t ≡ true) × (term_in_force (numbers ks) t ≡ true) → Stands (numbers ks) th → Admits cs ks th (step.Take t) → Stands (numbers ks) (thesis_after th (step.Take t))
take_stands cs ks t Truth r w a = absurd a
take_stands cs ks t (Eq u v) r w a = absurd a
take_stands cs ks t (Atom s ts) r w a = absurd a
take_stands cs ks t (Not s) r w a = taken_stands cs ks t s r w a
take_stands cs ks t (And s u) r w a = absurd a
take_stands cs ks t (For ty s) r w a = absurd a

after_stands : (cs : List Clause) (ks : List (Option Constant)) (th : Statement) (st : Step) → IsInReach (numbers ks) st → Stands (numbers ks) th → Admits cs ks th st → Stands (numbers_behind (numbers ks) st) (thesis_after th st)
after_stands cs ks th (step.Let c ty) r w a = let_stands cs ks c ty th r w a
after_stands cs ks th (step.Assume s) r w a =
    opposite_stands (numbers ks) (rest_behind s (antecedents th)) (rest_stands (numbers ks) s (antecedents th) (assumed_in_force (numbers ks) th w.in_force) (assumed_below th w.below))
after_stands cs ks th (step.Thus s) r w a = rest_stands (numbers ks) s (parts th) (parts_in_force (numbers ks) th w.in_force) (parts_all is_below 0 th w.below)
after_stands cs ks th (step.Take t) r w a = take_stands cs ks t th r w a

pub applied_stands : (ax : List Formula) (cs : List Clause) (ks : List (Option Constant)) (us : List Unfolding) → AreUnfoldings ax us → (most : ℕ) (th : Statement) (st : Step) (o : Option Statement) → Applied cs ks us most th st o → IsInReach (numbers ks) st → Stands (numbers ks) th → (after : Statement) → o ≡ Some after → Stands (numbers_behind (numbers ks) st) after
applied_stands ax cs ks us each most th st o (fits n t s a) r w after e = subst (Stands (numbers_behind (numbers ks) s)) (some-inj (thesis_after t s) after e) (after_stands cs ks t s r w a)
applied_stands ax cs ks us each most th st o (unfolds n t u s p x v a) r w after e =
    applied_stands ax cs ks us each n u s p a r (unfolded_stands ax (numbers ks) cs ks us each t (Some u) v w u refl) after e
applied_stands ax cs ks us each most th st o (unfolds_to_nothing n t s x v) r w after e = absurd (none_some after e)
applied_stands ax cs ks us each most th st o (no_unfolding_left t s x) r w after e = absurd (none_some after e)

-- what a step leaves of a thesis
abbrev pub LeavesOf : List Clause → List Unfolding → Context → Statement → Step → Effect → Type 0
LeavesOf cs us c th st e = (after : Statement) × Leads cs c.constants us th st after × (e ≡ Leaves after)

led_out : (cs : List Clause) (us : List Unfolding) (c : Context) (th : Statement) (st : Step) (e : Effect) (after : Option Statement) → Applied cs c.constants us most_unfoldings th st after → Some e ≡ left_of after → LeavesOf cs us c th st e
led_out cs us c th st e None a h = absurd (none_some e (sym h))
led_out cs us c th st e (Some s) a h = (s, a, some-inj e (Leaves s) h)

pub led_leaves : (cs : List Clause) (us : List Unfolding) (c : Context) (th : Statement) (st : Step) (e : Effect) → c.thesis ≡ Some th → Led cs us c c.thesis st (Some e) → LeavesOf cs us c th st e
led_leaves cs us c th st e is h =
    let l : Led cs us c (Some th) st (Some e) = subst (λ o. Led cs us c o st (Some e)) is h in
    led_out cs us c th st e l.0 l.1 l.2

pub leaves_stands : (ax held : List Formula) (cs : List Clause) (us : List Unfolding) (c : Context) → Rests ax held cs us c → (th : Statement) → Stands (next c) th → (st : Step) → IsInReach (next c) st → (e : Effect) → (l : LeavesOf cs us c th st e) → Stands (numbers_behind (next c) st) l.0
leaves_stands ax held cs us c rests th w st r e l = applied_stands ax cs c.constants us rests.unfoldings most_unfoldings th st (Some l.0) l.1 r w l.0 refl

-- the numbers behind a step's constants
variables_more : (c : Context) (vs : List Variable) → next c ≤ next (with_variables c vs)
variables_more c [] = omega arith
variables_more c (v ∷ vs) =
    let e : next (with_constant c (constant_of v)) ≡ suc (next c) = next_with c (constant_of v) in
    let le : next (with_constant c (constant_of v)) ≤ next (with_variables (with_constant c (constant_of v)) vs) = variables_more (with_constant c (constant_of v)) vs in
    omega (arith, e, le)

later : (m n : ℕ) (s : Statement) → m ≤ n → Stands m s → Stands n s
later m n s le w = record { in_force = more_in_force m n s le w.in_force; below = w.below }

one_more : (c : Context) (k : Constant) (s : Statement) → Stands (next c) s → Stands (next (with_constant c k)) s
one_more c k s w = let e : next (with_constant c k) ≡ suc (next c) = next_with c k in later (next c) (next (with_constant c k)) s (omega (arith, e)) w

left_stands : (n : ℕ) (th s : Statement) (e : Effect) → e ≡ Leaves s → Stands n s → Stands n (thesis_left th e)
left_stands n th s e is w = subst (λ x. Stands n (thesis_left th x)) (sym is) w

same_stands : (n : ℕ) (th : Statement) (e : Effect) → Some e ≡ Some Unchanged → Stands n th → Stands n (thesis_left th e)
same_stands n th e is w = subst (λ x. Stands n (thesis_left th x)) (sym (some-inj e Unchanged is)) w

stands : (ax held : List Formula) (cs : List Clause) (us : List Unfolding) (c : Context) → Rests ax held cs us c → (th : Statement) → c.thesis ≡ Some th → Stands (next c) th → (s : ReadStep) → IsReadIn ax (facts c ++ held) c s → (e : Effect) → ActsBy cs us c (thesis_step c s) (Some e) → Stands (next (with_constants c s)) (thesis_left th e)
stands ax held cs us c rests th is w (Let v) read e a =
    let l : LeavesOf cs us c th (step.Let (next c) v.ty) e = led_leaves cs us c th (step.Let (next c) v.ty) e is a in
    let up : Stands (suc (next c)) l.0 = leaves_stands ax held cs us c rests th w (step.Let (next c) v.ty) refl e l in
    left_stands (next (with_constant c (constant_of v))) th l.0 e l.2 (subst (λ m. Stands m l.0) (sym (next_with c (constant_of v))) up)
stands ax held cs us c rests th is w (Assume s) read e a =
    let l : LeavesOf cs us c th (step.Assume s) e = led_leaves cs us c th (step.Assume s) e is a in
    left_stands (next c) th l.0 e l.2 (leaves_stands ax held cs us c rests th w (step.Assume s) tt e l)
stands ax held cs us c rests th is w (Given vs s) read e a =
    let l = led_leaves cs us c th _ e is a in
    left_stands (next (with_variables c vs)) th l.0 e l.2 (later (next c) (next (with_variables c vs)) l.0 (variables_more c vs) (leaves_stands ax held cs us c rests th w _ tt e l))
stands ax held cs us c rests th is w (Thus s) read e a =
    let l : LeavesOf cs us c th (step.Thus s) e = led_leaves cs us c th (step.Thus s) e is a in
    left_stands (next c) th l.0 e l.2 (leaves_stands ax held cs us c rests th w (step.Thus s) tt e l)
stands ax held cs us c rests th is w (Take t) read e a =
    let l : LeavesOf cs us c th (step.Take t) e = led_leaves cs us c th (step.Take t) e is a in
    left_stands (next c) th l.0 e l.2 (leaves_stands ax held cs us c rests th w (step.Take t) read e l)
stands ax held cs us c rests th is w (Consider vs s) read e a = same_stands (next (with_variables c vs)) th e a (later (next c) (next (with_variables c vs)) th (variables_more c vs) w)
stands ax held cs us c rests th is w (Reconsider d) read e a = same_stands (next (with_constant c (constant_for d))) th e a (one_more c (constant_for d) th w)
stands ax held cs us c rests th is w (Set d) read e a = same_stands (next (with_constant c (constant_for d))) th e a (one_more c (constant_for d) th w)
stands ax held cs us c rests th is w (State s) read e a = same_stands (next c) th e a w

pub thesis_stands_law : ThesisStandsLaw
thesis_stands_law ax held cs us c rests th is in_th below s read e a =
    let w : Stands (next (with_constants c s)) (thesis_left th e) = stands ax held cs us c rests th is (record { in_force = in_th; below = below }) s read e a in
    (w.in_force, w.below)
