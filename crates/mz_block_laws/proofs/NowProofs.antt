-- What may stand behind a step of a `now`, and what is stated with it.
use Rattle.std.proofs.Common.{◌≡◌, ◌≤◌, ◌<◌, ◌+◌, ◌-◌, ℕ, zero, suc, Bool, true, false, if◌then◌else◌, List, [], ◌∷◌, ◌++◌, map, length, refl, sym, ap, ◌∙◌, subst, arith}
use Rattle.std.specs.Prelude.{Contains}
use Rattle.std.specs.List.{list_all}
use Rattle.std.proofs.lemmas.Bool.{and_parts, and_from}
use Rattle.std.proofs.lemmas.List.Elements.{Contains-append_right}
use Rattle.mz_logic.specs.Term.{Term}
use Rattle.mz_logic.specs.Indices.{is_below, closed}
use Rattle.mz_core.specs.Statement.{Statement, For}
use Rattle.mz_core.specs.StatementForms.{opposite, implication}
use Rattle.mz_core.specs.Abstraction.{statement_over}
use Rattle.mz_core.specs.TypeSubstitution.{statement_at}
use Rattle.mz_core.specs.Parts.{conjunction}
use Rattle.mz_core.specs.InForce.{term_in_force, type_in_force, statement_in_force}
use Rattle.mz_core.specs.Below.{type_below, statement_below}
use Rattle.mz_core.proofs.AllLemmas.{implication_all, conjunction_all}
use Rattle.mz_core.proofs.LawProofs.{abstraction_below, body_below, negation_in_force, conjunction_in_force}
use Rattle.mz_laws.specs.Lacking.{statement_lacks}
use Rattle.mz_context.specs.Context.{next}
use Rattle.mz_context.specs.declared.context.Context.{Context}
use Rattle.mz_names.specs.Closing.{constant_of, with_variables, there_are}
use Rattle.mz_names.specs.declared.variable.Variable.{Variable}
use Rattle.mz_now.specs.Stated.{term_has_hidden, with_term, conjuncts_with, conjuncts_of}
use Rattle.mz_now.specs.declared.now_part.NowPart.{NowPart}
use Rattle.mz_now.specs.declared.now_part.NowPart.TheVariants.{Antecedent, Defined, Hidden}
use Rattle.mz_steps.specs.Rows.{with_constants, constant_for, hidden_from, parts_said}
use Rattle.mz_steps.specs.declared.read_step.ReadStep.{ReadStep}
use Rattle.mz_steps.specs.declared.read_step.ReadStep.TheVariants.{Let, Assume, Given, Thus, Take, Consider, Reconsider, Set, State}
use Rattle.mz_steps_laws.specs.NowLaws.{StatesInForce, numbers_behind, MayStateBehind}
use Rattle.mz_steps_laws.specs.HiddenLaws.{AllSaid}
use Rattle.mz_steps_laws.proofs.NowProofs.{hidden_state_nothing, replaced_in_force}
use Rattle.mz_steps_laws.proofs.HiddenProofs.{hidden_law, lacking_law}
use Rattle.mz_steps_laws.proofs.FactLemmas.{next_with}
use Rattle.mz_steps_laws.proofs.ThereAreProofs.{over_in_force}
use Rattle.mz_block_laws.specs.Orders.{StepStands}
use Rattle.mz_block_laws.specs.Passing.{StatesClosed}
use Rattle.mz_block_laws.proofs.OrderLemmas.{next_with_variables, there_are_stand}

-- statements that lack the constants from n up to m
all_lacking : (n m : ℕ) (ss : List Statement) → n ≤ m → list_all (statement_in_force m) ss ≡ true → ((k : ℕ) → n ≤ k → k < m → list_all (statement_lacks k) ss ≡ true) → list_all (statement_in_force n) ss ≡ true
all_lacking n m [] le h each = refl
all_lacking n m (s ∷ ss) le h each =
    let p : (statement_in_force m s ≡ true) × (list_all (statement_in_force m) ss ≡ true) = and_parts (statement_in_force m s) (list_all (statement_in_force m) ss) h in
    and_from (statement_in_force n s) (list_all (statement_in_force n) ss)
    (lacking_law n m s le p.0 (λ k a b. (and_parts (statement_lacks k s) (list_all (statement_lacks k) ss) (each k a b)).0))
    (all_lacking n m ss le p.1 (λ k a b. (and_parts (statement_lacks k s) (list_all (statement_lacks k) ss) (each k a b)).1))

-- the constants of variables are hidden
hidden_later : (n : ℕ) (vs : List Variable) (k : ℕ) → Contains (hidden_from (suc n) vs) (Hidden k) → Contains (Hidden n ∷ hidden_from (suc n) vs) (Hidden k)
hidden_later n vs k is = (suc is.0, omega (arith, is.1), is.2)

are_hidden_at : (n : ℕ) (vs : List Variable) (i : ℕ) → i < length vs → Contains (hidden_from n vs) (Hidden (n + i))
are_hidden_at n [] i lt = absurd (omega (arith, lt))
are_hidden_at n (v ∷ vs) zero lt = let e : n ≡ n + zero = omega arith in (0, omega arith, ap Hidden e)
are_hidden_at n (v ∷ vs) (suc i) lt =
    let e : suc n + i ≡ n + suc i = omega arith in
    hidden_later n vs (n + suc i) (subst (λ k. Contains (hidden_from (suc n) vs) (Hidden k)) e (are_hidden_at (suc n) vs i (omega (arith, lt))))

are_hidden : (n : ℕ) (vs : List Variable) (k : ℕ) → n ≤ k → k < length vs + n → Contains (hidden_from n vs) (Hidden k)
are_hidden n vs k le lt =
    let e : n + (k - n) ≡ k = omega (arith, le) in
    subst (λ m. Contains (hidden_from n vs) (Hidden m)) e (are_hidden_at n vs (k - n) (omega (arith, le, lt, e)))

-- what is said behind variables is in force without their constants
behind_variables : (n m : ℕ) (vs : List Variable) (ps qs behind : List NowPart) → m ≡ length vs + n → ((k : ℕ) → Contains (hidden_from n vs) (Hidden k) → Contains (ps ++ qs) (Hidden k)) → AllSaid (ps ++ qs) behind → StatesInForce m behind → StatesInForce n behind
behind_variables n m vs ps qs behind e among said h =
    all_lacking n m (conjuncts_of behind) (omega (arith, e)) h (λ k le lt. hidden_law (ps ++ qs) behind said k (among k (are_hidden n vs k le (omega (arith, e, lt)))))

-- behind a definition
behind_hidden : (n : ℕ) (ps behind : List NowPart) → AllSaid (ps ++ Hidden n ∷ []) behind → StatesInForce (suc n) behind → StatesInForce n behind
behind_hidden n ps behind said h =
    all_lacking n (suc n) (conjuncts_of behind) (omega arith) h
    (λ k le lt. let e : n ≡ k = omega (arith, le, lt) in hidden_law (ps ++ Hidden n ∷ []) behind said k (Contains-append_right ps (Hidden n ∷ []) (Hidden k) (0, omega arith, ap Hidden e)))

behind_part : (n : ℕ) (t : Term) (ps behind : List NowPart) (b : Bool) → AllSaid (ps ++ (if b then Hidden n else Defined n t) ∷ []) behind → StatesInForce (suc n) behind → StatesInForce (numbers_behind n (if b then Hidden n else Defined n t)) behind
behind_part n t ps behind true said h = behind_hidden n ps behind said h
behind_part n t ps behind false said h = h

-- what may be stated behind the step
pub may_state_behind : (ps : List NowPart) (c : Context) (s : ReadStep) (behind : List NowPart) → AllSaid (ps ++ parts_said ps c s) behind → StatesInForce (next (with_constants c s)) behind → MayStateBehind ps c s behind
may_state_behind ps c (Let v) behind said h = subst (λ m. StatesInForce m behind) (next_with c (constant_of v)) h
may_state_behind ps c (Assume s) behind said h = h
may_state_behind ps c (Given vs s) behind said h =
    let some : NowPart = Antecedent (there_are (next c) vs s) in
    behind_variables (next c) (next (with_variables c vs)) vs ps (some ∷ hidden_from (next c) vs) behind (next_with_variables c vs)
    (λ k is. Contains-append_right ps (some ∷ hidden_from (next c) vs) (Hidden k) (suc is.0, omega (arith, is.1), is.2)) said h
may_state_behind ps c (Thus s) behind said h = h
may_state_behind ps c (Take t) behind said h = h
may_state_behind ps c (Consider vs s) behind said h =
    behind_variables (next c) (next (with_variables c vs)) vs ps (hidden_from (next c) vs) behind (next_with_variables c vs)
    (λ k is. Contains-append_right ps (hidden_from (next c) vs) (Hidden k) is) said h
may_state_behind ps c (Reconsider d) behind said h =
    behind_part (next c) d.term ps behind (term_has_hidden ps d.term) said (subst (λ m. StatesInForce m behind) (next_with c (constant_for d)) h)
may_state_behind ps c (Set d) behind said h =
    behind_part (next c) d.term ps behind (term_has_hidden ps d.term) said (subst (λ m. StatesInForce m behind) (next_with c (constant_for d)) h)
may_state_behind ps c (State s) behind said h = h

-- what is stated with the step is in force
alone : (p : Statement → Bool) (s : Statement) → p s ≡ true → list_all p (s ∷ []) ≡ true
alone p s h = and_from (p s) true h refl

implied_in_force : (n : ℕ) (s t : Statement) → statement_in_force n s ≡ true → statement_in_force n t ≡ true → statement_in_force n (implication s t) ≡ true
implied_in_force n s t h k = and_from (statement_in_force n s) (statement_in_force n (opposite t)) h (negation_in_force n t ∙ k)

part_in_force : (n : ℕ) (t : Term) (ss : List Statement) (b : Bool) → term_in_force n t ≡ true → list_all (statement_in_force (numbers_behind n (if b then Hidden n else Defined n t))) ss ≡ true → list_all (statement_in_force n) (conjuncts_with (if b then Hidden n else Defined n t) ss) ≡ true
part_in_force n t ss true ht h = h
part_in_force n t ss false ht h = replaced_in_force n t ss ht h

pub states_in_force : (ps : List NowPart) (c : Context) (s : ReadStep) → StepStands (next c) s → (behind : List NowPart) → MayStateBehind ps c s behind → StatesInForce (next c) (parts_said ps c s ++ behind)
states_in_force ps c (Let v) w behind h =
    let n : ℕ = next c in
    let x : Statement = conjunction (conjuncts_of behind) in
    alone (statement_in_force n) (For v.ty (statement_over n 0 x))
    (and_from (type_in_force n v.ty) (statement_in_force n (statement_over n 0 x)) w.0 (over_in_force n x (conjunction_in_force (suc n) (conjuncts_of behind) h)))
states_in_force ps c (Assume s) w behind h =
    alone (statement_in_force (next c)) (implication s (conjunction (conjuncts_of behind))) (implied_in_force (next c) s (conjunction (conjuncts_of behind)) w.0 (conjunction_in_force (next c) (conjuncts_of behind) h))
states_in_force ps c (Given vs s) w behind h =
    let n : ℕ = next c in
    let some : Statement = there_are n vs s in
    subst (λ ss. list_all (statement_in_force n) (implication some (conjunction ss) ∷ []) ≡ true) (sym (hidden_state_nothing n vs behind))
    (alone (statement_in_force n) (implication some (conjunction (conjuncts_of behind))) (implied_in_force n some (conjunction (conjuncts_of behind)) (there_are_stand n vs s w).0 (conjunction_in_force n (conjuncts_of behind) h)))
states_in_force ps c (Thus s) w behind h = and_from (statement_in_force (next c) s) (list_all (statement_in_force (next c)) (conjuncts_of behind)) w.0 h
states_in_force ps c (Take t) w behind h = h
states_in_force ps c (Consider vs s) w behind h = subst (λ ss. list_all (statement_in_force (next c)) ss ≡ true) (sym (hidden_state_nothing (next c) vs behind)) h
states_in_force ps c (Reconsider d) w behind h = part_in_force (next c) d.term (conjuncts_of behind) (term_has_hidden ps d.term) w.1.1 h
states_in_force ps c (Set d) w behind h = part_in_force (next c) d.term (conjuncts_of behind) (term_has_hidden ps d.term) w.1.1 h
states_in_force ps c (State s) w behind h = h

-- and has no loose index
replaced_closed : (n : ℕ) (t : Term) (ss : List Statement) → closed t ≡ true → list_all (statement_below 0) ss ≡ true → list_all (statement_below 0) (map (with_term (Defined n t)) ss) ≡ true
replaced_closed n t [] ct h = refl
replaced_closed n t (s ∷ ss) ct h =
    let p : (statement_below 0 s ≡ true) × (list_all (statement_below 0) ss ≡ true) = and_parts (statement_below 0 s) (list_all (statement_below 0) ss) h in
    and_from (statement_below 0 (statement_at (statement_over n 0 s) t)) (list_all (statement_below 0) (map (with_term (Defined n t)) ss))
    (body_below 0 (statement_over n 0 s) t ct (abstraction_below 0 n s p.0)) (replaced_closed n t ss ct p.1)

part_closed : (n : ℕ) (t : Term) (ss : List Statement) (b : Bool) → closed t ≡ true → list_all (statement_below 0) ss ≡ true → list_all (statement_below 0) (conjuncts_with (if b then Hidden n else Defined n t) ss) ≡ true
part_closed n t ss true ct h = h
part_closed n t ss false ct h = replaced_closed n t ss ct h

pub states_closed : (ps : List NowPart) (c : Context) (s : ReadStep) → StepStands (next c) s → (behind : List NowPart) → StatesClosed behind → StatesClosed (parts_said ps c s ++ behind)
states_closed ps c (Let v) w behind h =
    let n : ℕ = next c in
    let x : Statement = conjunction (conjuncts_of behind) in
    alone (statement_below 0) (For v.ty (statement_over n 0 x))
    (and_from (type_below 0 v.ty) (statement_below 1 (statement_over n 0 x)) w.1 (abstraction_below 0 n x (conjunction_all is_below 0 (conjuncts_of behind) h)))
states_closed ps c (Assume s) w behind h =
    alone (statement_below 0) (implication s (conjunction (conjuncts_of behind))) (implication_all is_below 0 s (conjunction (conjuncts_of behind)) w.1 (conjunction_all is_below 0 (conjuncts_of behind) h))
states_closed ps c (Given vs s) w behind h =
    let n : ℕ = next c in
    let some : Statement = there_are n vs s in
    subst (λ ss. list_all (statement_below 0) (implication some (conjunction ss) ∷ []) ≡ true) (sym (hidden_state_nothing n vs behind))
    (alone (statement_below 0) (implication some (conjunction (conjuncts_of behind))) (implication_all is_below 0 some (conjunction (conjuncts_of behind)) (there_are_stand n vs s w).1 (conjunction_all is_below 0 (conjuncts_of behind) h)))
states_closed ps c (Thus s) w behind h = and_from (statement_below 0 s) (list_all (statement_below 0) (conjuncts_of behind)) w.1 h
states_closed ps c (Take t) w behind h = h
states_closed ps c (Consider vs s) w behind h = subst (λ ss. list_all (statement_below 0) ss ≡ true) (sym (hidden_state_nothing (next c) vs behind)) h
states_closed ps c (Reconsider d) w behind h = part_closed (next c) d.term (conjuncts_of behind) (term_has_hidden ps d.term) w.1.0 h
states_closed ps c (Set d) w behind h = part_closed (next c) d.term (conjuncts_of behind) (term_has_hidden ps d.term) w.1.0 h
states_closed ps c (State s) w behind h = h
