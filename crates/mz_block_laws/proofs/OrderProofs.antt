-- Contexts stay in order.
use Rattle.std.proofs.Common.{◌≡◌, ◌≤◌, ℕ, suc, Bool, true, List, [], ◌∷◌, ◌++◌, map, refl, sym, ap, ◌∙◌, subst, arith, Option, Some, None}
use Rattle.std.specs.Prelude.{Contains, flat_map}
use Rattle.std.specs.List.{list_all}
use Rattle.std.proofs.lemmas.Bool.{and_parts, and_from}
use Rattle.std.proofs.lemmas.List.{map-append}
use Rattle.mz_logic.specs.Term.{Term, Const}
use Rattle.mz_logic.specs.Formula.{Formula}
use Rattle.mz_logic.specs.Indices.{is_below}
use Rattle.mz_logic.specs.declared.literal.Literal.{Literal}
use Rattle.mz_logic.specs.declared.literal.Literal.TheVariants as literal
use Rattle.mz_core.specs.Statement.{Statement}
use Rattle.mz_core.specs.Parts.{conjunction}
use Rattle.mz_core.specs.TypeStatements.{literal_statement}
use Rattle.mz_core.specs.Guard.{guard_literals}
use Rattle.mz_core.specs.InForce.{term_in_force, statement_in_force}
use Rattle.mz_core.specs.Below.{statement_below}
use Rattle.mz_core.specs.Everywhere.{statement_all}
use Rattle.mz_core.specs.declared.soft_type.SoftType.{SoftType}
use Rattle.mz_core.proofs.AllLemmas.{all-append, all-alone, conjunction_all, guard_literals_all, literal_statements_all}
use Rattle.mz_core.proofs.LawProofs.{in_force_at, all_is, statement_in_force-all, conjunction_in_force}
use Rattle.mz_laws.proofs.StatementProofs.{more_type_in_force, more_term_in_force}
use Rattle.mz_context.specs.Context.{next}
use Rattle.mz_context.specs.Changes.{labelled, with_constant}
use Rattle.mz_context.specs.Gather.{equation_if_any, known_of}
use Rattle.mz_context.specs.declared.constants.Constant.{Constant}
use Rattle.mz_context.specs.declared.context.Context.{Context}
use Rattle.mz_context.specs.declared.labelled.LabelledStatement.{LabelledStatement}
use Rattle.mz_items.specs.SchemeRows.{letter_types}
use Rattle.mz_names.specs.Closing.{constant_of, with_variables}
use Rattle.mz_names.specs.declared.variable.Variable.{Variable}
use Rattle.mz_steps.specs.Rows.{with_constants, constant_for}
use Rattle.mz_steps.specs.Changes.{statement_of, label_of, joined_by, with_thesis, with_stated, at_start_of_proof, at_start_of_now}
use Rattle.mz_steps.specs.declared.block.Effect.{Effect}
use Rattle.mz_steps.specs.declared.block.Effect.TheVariants as effect
use Rattle.mz_steps.specs.declared.read_step.ReadStep.{ReadStep}
use Rattle.mz_steps.specs.declared.read_step.ReadStep.TheVariants.{Let, Assume, Given, Thus, Take, Consider, Reconsider, Set, State}
use Rattle.mz_steps_laws.specs.Facts.{known_from, just_before, letter_of, statements_in}
use Rattle.mz_steps_laws.proofs.FactLemmas.{known_with, next_with}
use Rattle.mz_steps_laws.proofs.ThereAreProofs.{new_in_force}
use Rattle.mz_block_laws.specs.Orders.{Stands, TermStands, TypeStands, AllStand, EqualStands, StepStands, is_standing, said_in, IsInOrder}
use Rattle.mz_block_laws.specs.BlockLaws.{StepOrderLaw}
use Rattle.mz_block_laws.proofs.OrderLemmas.{all_left, all_right, all_weaker, stands_in, stands_out, stands_more, force_more}
use Rattle.mz_block_laws.proofs.StepProofs.{same_next}

-- one more constant: its guard and its equation
both_pass : (n : ℕ) (ss : List Statement) → list_all (statement_in_force n) ss ≡ true → list_all (statement_below 0) ss ≡ true → list_all (is_standing n) ss ≡ true
both_pass n [] h k = refl
both_pass n (s ∷ ss) h k =
    let a : (statement_in_force n s ≡ true) × (list_all (statement_in_force n) ss ≡ true) = and_parts (statement_in_force n s) (list_all (statement_in_force n) ss) h in
    let b : (statement_below 0 s ≡ true) × (list_all (statement_below 0) ss ≡ true) = and_parts (statement_below 0 s) (list_all (statement_below 0) ss) k in
    and_from (is_standing n s) (list_all (is_standing n) ss) (stands_in n s (a.0, b.0)) (both_pass n ss a.1 b.1)

guard_stands : (n : ℕ) (ty : SoftType) (t : Term) → TypeStands n ty → TermStands n t → list_all (is_standing n) (map literal_statement (guard_literals ty t)) ≡ true
guard_stands n ty t w u =
    let ls : List Literal = guard_literals ty t in
    both_pass n (map literal_statement ls)
    (all_is (statement_in_force n) (statement_all (in_force_at n) 0) (map literal_statement ls) (statement_in_force-all n 0) ∙ literal_statements_all (in_force_at n) 0 ls (guard_literals_all (in_force_at n) 0 ty t w.0 u.1))
    (literal_statements_all is_below 0 ls (guard_literals_all is_below 0 ty t w.1 u.0))

new_stands : (n : ℕ) → TermStands (suc n) (Const n)
new_stands n = (refl, new_in_force n)

equation_stands : (n : ℕ) (o : Option Term) → EqualStands (suc n) o → list_all (is_standing (suc n)) (map literal_statement (equation_if_any n o)) ≡ true
equation_stands n None w = refl
equation_stands n (Some t) w =
    all-alone (is_standing (suc n)) (literal_statement (literal.Eq true (Const n) t))
    (stands_in (suc n) (literal_statement (literal.Eq true (Const n) t))
    (and_from (term_in_force (suc n) (Const n)) (term_in_force (suc n) t) (new_in_force n) w.1, and_from (is_below 0 (Const n)) (is_below 0 t) refl w.0))

known_stands : (n : ℕ) (k : Constant) → TypeStands (suc n) k.ty → EqualStands (suc n) k.equal → list_all (is_standing (suc n)) (map literal_statement (known_of n (Some k))) ≡ true
known_stands n k w u =
    let gs : List Literal = guard_literals k.ty (Const n) in
    let es : List Literal = equation_if_any n k.equal in
    subst (λ ss. list_all (is_standing (suc n)) ss ≡ true) (sym (map-append literal_statement gs es))
    (all-append (is_standing (suc n)) (map literal_statement gs) (map literal_statement es) (guard_stands (suc n) k.ty (Const n) w (new_stands n)) (equation_stands n k.equal u))

type_later : (m n : ℕ) (ty : SoftType) → m ≤ n → TypeStands m ty → TypeStands n ty
type_later m n ty le w = (more_type_in_force m n ty le w.0, w.1)

term_later : (m n : ℕ) (t : Term) → m ≤ n → TermStands m t → TermStands n t
term_later m n t le w = (w.0, more_term_in_force m n t le w.1)

equal_later : (m n : ℕ) (o : Option Term) → m ≤ n → EqualStands m o → EqualStands n o
equal_later m n None le w = tt
equal_later m n (Some t) le w = term_later m n t le w

pub constant_in_order : (held : List Formula) (c : Context) → IsInOrder held c → (k : Constant) → TypeStands (next c) k.ty → EqualStands (next c) k.equal → IsInOrder held (with_constant c k)
constant_in_order held c order k w u =
    let n : ℕ = next c in
    let le : n ≤ suc n = omega arith in
    let e : next (with_constant c k) ≡ suc n = next_with c k in
    let p : Statement → Bool = is_standing (suc n) in
    let ls : List Literal = known_from 1 c.constants in
    let ms : List Literal = known_of n (Some k) in
    let more : list_all p (said_in c) ≡ true = all_weaker (is_standing n) p (said_in c) (λ s. stands_more n (suc n) s le) order.said in
    let old : list_all p (map literal_statement ls) ≡ true = all_left p (map literal_statement ls) (statements_in c) more in
    let rest : list_all p (statements_in c) ≡ true = all_right p (map literal_statement ls) (statements_in c) more in
    let new : list_all p (map literal_statement ms) ≡ true = known_stands n k (type_later n (suc n) k.ty le w) (equal_later n (suc n) k.equal le u) in
    let known : list_all p (map literal_statement (known_from 1 (c.constants ++ Some k ∷ []))) ≡ true =
    subst (λ ss. list_all p ss ≡ true) (sym (ap (map literal_statement) (known_with c.constants k) ∙ map-append literal_statement ls ms))
    (all-append p (map literal_statement ls) (map literal_statement ms) old new) in
    record {
      said = subst (λ m. list_all (is_standing m) (said_in (with_constant c k)) ≡ true) (sym e) (all-append p (map literal_statement (known_from 1 (c.constants ++ Some k ∷ []))) (statements_in c) known rest);
      held_in_force = force_more n (next (with_constant c k)) held (omega (arith, e)) order.held_in_force;
    }

pub variables_in_order : (held : List Formula) (c : Context) → IsInOrder held c → (vs : List Variable) (s : Statement) → AllStand (next c) vs s → IsInOrder held (with_variables c vs) × Stands (next (with_variables c vs)) s
variables_in_order held c order [] s w = (order, w)
variables_in_order held c order (v ∷ vs) s w =
    let d : Context = with_constant c (constant_of v) in
    variables_in_order held d (constant_in_order held c order (constant_of v) w.0 tt) vs s (subst (λ n. AllStand n vs s) (sym (next_with c (constant_of v))) w.1)

constants_in_order : (held : List Formula) (c : Context) → IsInOrder held c → (s : ReadStep) → StepStands (next c) s → IsInOrder held (with_constants c s)
constants_in_order held c order (Let v) w = constant_in_order held c order (constant_of v) w tt
constants_in_order held c order (Assume s) w = order
constants_in_order held c order (Given vs s) w = (variables_in_order held c order vs s w).0
constants_in_order held c order (Thus s) w = order
constants_in_order held c order (Take t) w = order
constants_in_order held c order (Consider vs s) w = (variables_in_order held c order vs s w).0
constants_in_order held c order (Reconsider d) w = constant_in_order held c order (constant_for d) w.0 w.1
constants_in_order held c order (Set d) w = constant_in_order held c order (constant_for d) w.0 w.1
constants_in_order held c order (State s) w = order

-- the thesis is no part of what is said
thesis_in_order : (held : List Formula) (c : Context) (e : Effect) → IsInOrder held c → IsInOrder held (with_thesis c e)
thesis_in_order held c effect.Unchanged order = order
thesis_in_order held c (effect.Leaves s) order = record { said = order.said; held_in_force = order.held_in_force }
thesis_in_order held c (effect.Says ps) order = order

-- propositions
one_labelled : (p : Statement → Bool) (label : List ℕ) (s : Statement) → p s ≡ true → list_all p (map statement_of (labelled label s)) ≡ true
one_labelled p [] s h = refl
one_labelled p (b ∷ bs) s h = all-alone p s h

all_labelled : (p : Statement → Bool) (ps : List LabelledStatement) → list_all p (map statement_of ps) ≡ true → list_all p (map statement_of (flat_map label_of ps)) ≡ true
all_labelled p [] h = refl
all_labelled p (q ∷ qs) h =
    let both : (p q.statement ≡ true) × (list_all p (map statement_of qs) ≡ true) = and_parts (p q.statement) (list_all p (map statement_of qs)) h in
    subst (λ ss. list_all p ss ≡ true) (sym (map-append statement_of (label_of q) (flat_map label_of qs)))
    (all-append p (map statement_of (label_of q)) (map statement_of (flat_map label_of qs)) (one_labelled p q.label q.statement both.0) (all_labelled p qs both.1))

pub conjunction_stands : (n : ℕ) (ss : List Statement) → list_all (is_standing n) ss ≡ true → Stands n (conjunction ss)
conjunction_stands n ss h = (
  conjunction_in_force n ss (all_weaker (is_standing n) (statement_in_force n) ss (λ s k. (stands_out n s k).0) h),
  conjunction_all is_below 0 ss (all_weaker (is_standing n) (statement_below 0) ss (λ s k. (stands_out n s k).1) h),
)

joined_stands : (n : ℕ) (ps : List LabelledStatement) → list_all (is_standing n) (map statement_of ps) ≡ true → list_all (is_standing n) (just_before (joined_by ps)) ≡ true
joined_stands n [] h = refl
joined_stands n (p ∷ ps) h = all-alone (is_standing n) (conjunction (map statement_of (p ∷ ps))) (stands_in n (conjunction (map statement_of (p ∷ ps))) (conjunction_stands n (map statement_of (p ∷ ps)) h))

pub all_standing : (n : ℕ) (ps : List LabelledStatement) → ((p : LabelledStatement) → Contains ps p → Stands n (statement_of p)) → list_all (is_standing n) (map statement_of ps) ≡ true
all_standing n [] each = refl
all_standing n (p ∷ ps) each =
    and_from (is_standing n p.statement) (list_all (is_standing n) (map statement_of ps)) (stands_in n p.statement (each p (0, omega arith, refl))) (all_standing n ps (λ q is. each q (suc is.0, omega (arith, is.1), is.2)))

pub stated_in_order : (held : List Formula) (c : Context) → IsInOrder held c → (ps : List LabelledStatement) → ((p : LabelledStatement) → Contains ps p → Stands (next c) (statement_of p)) → IsInOrder held (with_stated c ps)
stated_in_order held c order ps each =
    let p : Statement → Bool = is_standing (next c) in
    let known : List Statement = map literal_statement (known_from 1 c.constants) in
    let labels : List Statement = map statement_of c.labelled in
    let more : List Statement = map statement_of (flat_map label_of ps) in
    let letters : List Statement = letter_types (map letter_of c.letters) in
    let before : List Statement = just_before c.previous in
    let new : list_all p (map statement_of ps) ≡ true = all_standing (next c) ps each in
    let rest : list_all p (statements_in c) ≡ true = all_right p known (statements_in c) order.said in
    let front : list_all p (labels ++ before) ≡ true = all_left p (labels ++ before) letters rest in
    let is : list_all p (map statement_of (c.labelled ++ flat_map label_of ps)) ≡ true =
    subst (λ ss. list_all p ss ≡ true) (sym (map-append statement_of c.labelled (flat_map label_of ps))) (all-append p labels more (all_left p labels before front) (all_labelled p ps new)) in
    record {
      said = all-append p known (statements_in (with_stated c ps)) (all_left p known (statements_in c) order.said)
          (all-append p (map statement_of (c.labelled ++ flat_map label_of ps) ++ just_before (joined_by ps)) letters
          (all-append p (map statement_of (c.labelled ++ flat_map label_of ps)) (just_before (joined_by ps)) is (joined_stands (next c) ps new))
          (all_right p (labels ++ before) letters rest));
      held_in_force = order.held_in_force;
    }

pub step_order_law : StepOrderLaw
step_order_law held c order s w e ps each =
    let d : Context = with_constants c s in
    let inner : IsInOrder held d = constants_in_order held c order s w in
    stated_in_order held (with_thesis d e) (thesis_in_order held d e inner) ps (λ p is. subst (λ n. Stands n (statement_of p)) (sym (same_next d e)) (each p is))

-- the starts of blocks
without_previous : (p : Statement → Bool) (labels before letters : List Statement) → list_all p ((labels ++ before) ++ letters) ≡ true → list_all p ((labels ++ []) ++ letters) ≡ true
without_previous p labels before letters h =
    all-append p (labels ++ []) letters (all-append p labels [] (all_left p labels before (all_left p (labels ++ before) letters h)) refl) (all_right p (labels ++ before) letters h)

start_said : (c : Context) → list_all (is_standing (next c)) (said_in c) ≡ true → list_all (is_standing (next c)) (said_in (record c { previous = None })) ≡ true
start_said c h =
    let p : Statement → Bool = is_standing (next c) in
    let known : List Statement = map literal_statement (known_from 1 c.constants) in
    all-append p known (statements_in (record c { previous = None })) (all_left p known (statements_in c) h)
    (without_previous p (map statement_of c.labelled) (just_before c.previous) (letter_types (map letter_of c.letters)) (all_right p known (statements_in c) h))

pub proof_in_order : (held : List Formula) (c : Context) (thesis : Statement) → IsInOrder held c → IsInOrder held (at_start_of_proof c thesis)
proof_in_order held c thesis order = record { said = start_said c order.said; held_in_force = order.held_in_force }

pub now_in_order : (held : List Formula) (c : Context) → IsInOrder held c → IsInOrder held (at_start_of_now c)
now_in_order held c order = record { said = start_said c order.said; held_in_force = order.held_in_force }
