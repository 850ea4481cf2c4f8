-- Each step of a proof is sound.
use Rattle.std.proofs.Common.{◌≡◌, ◌≤◌, ℕ, suc, true, false, List, [], ◌∷◌, ◌++◌, map, refl, sym, ap, ◌∙◌, subst, arith, Option, Some, None}
use Rattle.std.specs.Prelude.{Contains}
use Rattle.std.specs.List.{list_all}
use Rattle.std.proofs.lemmas.Bool.{and_from}
use Rattle.mz_logic.specs.Term.{Term, Const}
use Rattle.mz_logic.specs.Formula as formula
use Rattle.mz_logic.specs.Formula.{Formula}
use Rattle.mz_logic.specs.Literal.{literal_formula}
use Rattle.mz_logic.specs.Derives.{Derives}
use Rattle.mz_logic.specs.declared.literal.Literal.{Literal}
use Rattle.mz_logic.specs.declared.literal.Literal.TheVariants as literal
use Rattle.mz_logic.proofs.Connectives.{first}
use Rattle.mz_logic.proofs.Each.{Each, cut_each, each_itself, each_under, each_append, each_left, each_right, each_more, each_along}
use Rattle.mz_core.specs.Statement.{Statement}
use Rattle.mz_core.specs.TypeStatements.{literal_statement, is_of_type}
use Rattle.mz_core.specs.Guard.{guard, guard_literals}
use Rattle.mz_core.specs.Erasure.{erase}
use Rattle.mz_core.specs.InForce.{formula_in_force, statement_in_force}
use Rattle.mz_core.specs.declared.soft_type.SoftType.{SoftType}
use Rattle.mz_core.proofs.LawProofs.{erasure_in_force}
use Rattle.mz_context.specs.Context.{next}
use Rattle.mz_context.specs.Changes.{with_constant}
use Rattle.mz_context.specs.declared.context.Context.{Context}
use Rattle.mz_ground.specs.declared.clause.Clause.{Clause}
use Rattle.mz_environment.specs.declared.unfoldings.Unfolding.{Unfolding}
use Rattle.mz_names.specs.Closing.{constant_of, with_variables, there_are}
use Rattle.mz_names.specs.declared.variable.Variable.{Variable}
use Rattle.mz_thesis.specs.Applied.{most_unfoldings}
use Rattle.mz_thesis.specs.declared.step.Step.{Step}
use Rattle.mz_thesis.specs.declared.step.Step.TheVariants as step
use Rattle.mz_thesis_laws.specs.RowLaws.{AreInForce}
use Rattle.mz_thesis_laws.specs.StepLaws.{IsRead, IsLeft}
use Rattle.mz_thesis_laws.proofs.UnfoldProofs.{some-inj}
use Rattle.mz_thesis_laws.proofs.StatementProofs.{conjunction_out}
use Rattle.mz_thesis_laws.proofs.RowProofs.{define_law}
use Rattle.mz_thesis_laws.proofs.StepProofs.{step_law}
use Rattle.mz_thesis_laws.proofs.KeepProofs.{Stands}
use Rattle.mz_steps.specs.Rows.{thesis_step, with_constants, constant_for, owed}
use Rattle.mz_steps.specs.Effects.{ActsBy}
use Rattle.mz_steps.specs.declared.read_step.Definition.{Definition}
use Rattle.mz_steps.specs.declared.read_step.ReadStep.{ReadStep}
use Rattle.mz_steps.specs.declared.read_step.ReadStep.TheVariants.{Let, Assume, Given, Thus, Take, Consider, Reconsider, Set, State}
use Rattle.mz_steps.specs.declared.block.Effect.{Effect}
use Rattle.mz_steps.specs.declared.block.Effect.TheVariants.{Unchanged, Leaves}
use Rattle.mz_steps_laws.specs.Facts.{facts, Rests}
use Rattle.mz_steps_laws.specs.StepLaws.{AreDeclared, guards_of, IsReadIn, gained, OwedDerives, thesis_left, StepInProofLaw}
use Rattle.mz_steps_laws.proofs.FactLemmas.{granted, each_with_constant, each_with_variables, each_of_variable, each_of_definition}
use Rattle.mz_steps_laws.proofs.ThereAreProofs.{there_are_law, there_are_in_force}
use Rattle.mz_steps_laws.proofs.StandsProofs.{LeavesOf, led_leaves, leaves_stands}

-- what a step leaves, in place of what it does
left_is : (ax h : List Formula) (th s : Statement) (e : Effect) → e ≡ Leaves s → Derives ax h (erase (thesis_left th e)) → Derives ax h (erase s)
left_is ax h th s e is d = subst (λ x. Derives ax h (erase (thesis_left th x))) is d

same_is : (ax h : List Formula) (th : Statement) (e : Effect) → Some e ≡ Some Unchanged → Derives ax h (erase (thesis_left th e)) → Derives ax h (erase th)
same_is ax h th e is d = subst (λ x. Derives ax h (erase (thesis_left th x))) (some-inj e Unchanged is) d

-- the step of the thesis
by_step : (ax held : List Formula) (cs : List Clause) (us : List Unfolding) (c : Context) → Rests ax held cs us c → (th : Statement) → Stands (next c) th → (st : Step) → IsRead (next c) st → (e : Effect) → (l : LeavesOf cs us c th st e) → IsLeft ax (facts c ++ held) st l.0 → Derives ax (facts c ++ held) (erase th)
by_step ax held cs us c rests th w st read e l left =
    step_law ax (facts c ++ held) cs c.constants us (granted ax held cs us c rests) rests.unfoldings rests.in_force most_unfoldings th l.0 st w.in_force w.below read l.1 left

-- the guard from the statement that the term has the type
erased_literal : (l : Literal) → erase (literal_statement l) ≡ literal_formula l
erased_literal (literal.Atom true s ts) = refl
erased_literal (literal.Atom false s ts) = refl
erased_literal (literal.Eq true t u) = refl
erased_literal (literal.Eq false t u) = refl

pub erased_literals : (ls : List Literal) → map erase (map literal_statement ls) ≡ map literal_formula ls
erased_literals [] = refl
erased_literals (l ∷ ls) = λ i. erased_literal l i ∷ erased_literals ls i

pub guard_derives : (ax g : List Formula) (ty : SoftType) (t : Term) → Derives ax g (erase (is_of_type ty t)) → Each ax g (guard ty t)
guard_derives ax g ty t d =
    let ls : List Literal = guard_literals ty t in
    subst (Each ax g) (erased_literals ls) (each_along ax g (map erase (map literal_statement ls)) (conjunction_out ax g (map literal_statement ls) d))

-- reconsider and set
defined : (ax held : List Formula) (cs : List Clause) (us : List Unfolding) (c : Context) → Rests ax held cs us c → (th : Statement) → Stands (next c) th → (d : Definition) → IsReadIn ax (facts c ++ held) c (Reconsider d) → Each ax (facts c ++ held) (guard d.ty d.term) → Derives ax (facts (with_constant c (constant_for d)) ++ held) (erase th) → Derives ax (facts c ++ held) (erase th)
defined ax held cs us c rests th w d read each inside =
    let n : ℕ = next c in
    let g : List Formula = facts c ++ held in
    let gs : List Formula = guard d.ty (Const n) in
    let eq : Formula = formula.Eq (Const n) d.term in
    let h : List Formula = eq ∷ gs ++ g in
    let from_gs : Each ax h gs = each_under ax (gs ++ g) gs eq (each_left ax (gs ++ g) gs g (each_itself ax (gs ++ g))) in
    let from_g : Each ax h g = each_under ax (gs ++ g) g eq (each_right ax (gs ++ g) gs g (each_itself ax (gs ++ g))) in
    let from_facts : Each ax h (facts c) = each_left ax h (facts c) held from_g in
    let from_held : Each ax h held = each_right ax h (facts c) held from_g in
    let known : Each ax h (facts (with_constant c (constant_for d))) = each_with_constant ax h c (constant_for d) from_facts (each_of_definition ax h n d from_gs (first ax (gs ++ g) eq)) in
    define_law ax g n n d.ty d.term th rests.in_force (omega arith) read.0 read.1 read.2 w.in_force each
    (cut_each ax h (facts (with_constant c (constant_for d)) ++ held) (erase th) (each_append ax h (facts (with_constant c (constant_for d))) held known from_held) inside)

step_in_proof : (ax held : List Formula) (cs : List Clause) (us : List Unfolding) (c : Context) → Rests ax held cs us c → (th : Statement) → c.thesis ≡ Some th → Stands (next c) th → (s : ReadStep) → IsReadIn ax (facts c ++ held) c s → (e : Effect) → ActsBy cs us c (thesis_step c s) (Some e) → OwedDerives ax (facts c ++ held) (owed c s) → Derives ax (facts (with_constants c s) ++ (map erase (gained s) ++ held)) (erase (thesis_left th e)) → Derives ax (facts c ++ held) (erase th)
step_in_proof ax held cs us c rests th is w (Let v) read e a o d =
    let g : List Formula = facts c ++ held in
    let gs : List Formula = guard v.ty (Const (next c)) in
    let h : List Formula = gs ++ g in
    let from_g : Each ax h g = each_right ax h gs g (each_itself ax h) in
    let l : LeavesOf cs us c th (step.Let (next c) v.ty) e = led_leaves cs us c th (step.Let (next c) v.ty) e is a in
    let known : Each ax h (facts (with_constant c (constant_of v))) = each_with_constant ax h c (constant_of v) (each_left ax h (facts c) held from_g) (each_of_variable ax h (next c) v (each_left ax h gs g (each_itself ax h))) in
    by_step ax held cs us c rests th w (step.Let (next c) v.ty) (omega arith, read) e l
    (left_is ax h th l.0 e l.2 (cut_each ax h (facts (with_constant c (constant_of v)) ++ held) (erase (thesis_left th e)) (each_append ax h (facts (with_constant c (constant_of v))) held known (each_right ax h (facts c) held from_g)) d))
step_in_proof ax held cs us c rests th is w (Assume s) read e a o d =
    let g : List Formula = facts c ++ held in
    let h : List Formula = erase s ∷ g in
    let from_g : Each ax h g = each_under ax g g (erase s) (each_itself ax g) in
    let l : LeavesOf cs us c th (step.Assume s) e = led_leaves cs us c th (step.Assume s) e is a in
    let each : Each ax h (facts c ++ (erase s ∷ held)) = each_append ax h (facts c) (erase s ∷ held) (each_left ax h (facts c) held from_g) (each_more ax h (erase s) held (first ax g (erase s)) (each_right ax h (facts c) held from_g)) in
    by_step ax held cs us c rests th w (step.Assume s) tt e l (left_is ax h th l.0 e l.2 (cut_each ax h (facts c ++ (erase s ∷ held)) (erase (thesis_left th e)) each d))
step_in_proof ax held cs us c rests th is w (Given vs s) read e a o d =
    let n : ℕ = next c in
    let some : Statement = there_are n vs s in
    let g : List Formula = facts c ++ held in
    let k : List Formula = erase some ∷ g in
    let gs : List Formula = guards_of n vs in
    let h : List Formula = erase s ∷ gs ++ k in
    let from_gs : Each ax h gs = each_under ax (gs ++ k) gs (erase s) (each_left ax (gs ++ k) gs k (each_itself ax (gs ++ k))) in
    let from_k : Each ax h k = each_under ax (gs ++ k) k (erase s) (each_right ax (gs ++ k) gs k (each_itself ax (gs ++ k))) in
    let from_g : Each ax h g = λ f m. cut_each ax h k f from_k (each_under ax g g (erase some) (each_itself ax g) f m) in
    let known : Each ax h (facts (with_variables c vs)) = each_with_variables ax h c vs (each_left ax h (facts c) held from_g) from_gs in
    let each : Each ax h (facts (with_variables c vs) ++ (erase s ∷ held)) = each_append ax h (facts (with_variables c vs)) (erase s ∷ held) known (each_more ax h (erase s) held (first ax (gs ++ k) (erase s)) (each_right ax h (facts c) held from_g)) in
    let l : LeavesOf cs us c th (step.Assume some) e = led_leaves cs us c th (step.Assume some) e is a in
    let after : Stands n l.0 = leaves_stands ax held cs us c rests th w (step.Assume some) tt e l in
    let in_k : AreInForce n k = and_from (formula_in_force n (erase some)) (list_all (formula_in_force n) g) (erasure_in_force n some (there_are_in_force n vs s read)) rests.in_force in
    by_step ax held cs us c rests th w (step.Assume some) tt e l
    (there_are_law ax k n vs s l.0 in_k read after.in_force (first ax g (erase some)) (left_is ax h th l.0 e l.2 (cut_each ax h (facts (with_variables c vs) ++ (erase s ∷ held)) (erase (thesis_left th e)) each d)))
step_in_proof ax held cs us c rests th is w (Thus s) read e a o d =
    let g : List Formula = facts c ++ held in
    let h : List Formula = erase s ∷ g in
    let from_g : Each ax h g = each_under ax g g (erase s) (each_itself ax g) in
    let l : LeavesOf cs us c th (step.Thus s) e = led_leaves cs us c th (step.Thus s) e is a in
    let each : Each ax h (facts c ++ (erase s ∷ held)) = each_append ax h (facts c) (erase s ∷ held) (each_left ax h (facts c) held from_g) (each_more ax h (erase s) held (first ax g (erase s)) (each_right ax h (facts c) held from_g)) in
    by_step ax held cs us c rests th w (step.Thus s) tt e l (o, left_is ax h th l.0 e l.2 (cut_each ax h (facts c ++ (erase s ∷ held)) (erase (thesis_left th e)) each d))
step_in_proof ax held cs us c rests th is w (Take t) read e a o d =
    let l : LeavesOf cs us c th (step.Take t) e = led_leaves cs us c th (step.Take t) e is a in
    by_step ax held cs us c rests th w (step.Take t) read.0 e l (left_is ax (facts c ++ held) th l.0 e l.2 d)
step_in_proof ax held cs us c rests th is w (Consider vs s) read e a o d =
    let n : ℕ = next c in
    let g : List Formula = facts c ++ held in
    let gs : List Formula = guards_of n vs in
    let h : List Formula = erase s ∷ gs ++ g in
    let from_gs : Each ax h gs = each_under ax (gs ++ g) gs (erase s) (each_left ax (gs ++ g) gs g (each_itself ax (gs ++ g))) in
    let from_g : Each ax h g = each_under ax (gs ++ g) g (erase s) (each_right ax (gs ++ g) gs g (each_itself ax (gs ++ g))) in
    let known : Each ax h (facts (with_variables c vs)) = each_with_variables ax h c vs (each_left ax h (facts c) held from_g) from_gs in
    let each : Each ax h (facts (with_variables c vs) ++ (erase s ∷ held)) = each_append ax h (facts (with_variables c vs)) (erase s ∷ held) known (each_more ax h (erase s) held (first ax (gs ++ g) (erase s)) (each_right ax h (facts c) held from_g)) in
    there_are_law ax g n vs s th rests.in_force read w.in_force o (same_is ax h th e a (cut_each ax h (facts (with_variables c vs) ++ (erase s ∷ held)) (erase (thesis_left th e)) each d))
step_in_proof ax held cs us c rests th is w (Reconsider d) read e a o inside =
    defined ax held cs us c rests th w d read (guard_derives ax (facts c ++ held) d.ty d.term o) (same_is ax (facts (with_constant c (constant_for d)) ++ held) th e a inside)
step_in_proof ax held cs us c rests th is w (Set d) read e a o inside =
    defined ax held cs us c rests th w d (read.0, read.1, read.2) read.3 (same_is ax (facts (with_constant c (constant_for d)) ++ held) th e a inside)
step_in_proof ax held cs us c rests th is w (State s) read e a o d =
    let g : List Formula = facts c ++ held in
    let from_g : Each ax g g = each_itself ax g in
    let each : Each ax g (facts c ++ (erase s ∷ held)) = each_append ax g (facts c) (erase s ∷ held) (each_left ax g (facts c) held from_g) (each_more ax g (erase s) held o (each_right ax g (facts c) held from_g)) in
    same_is ax g th e a (cut_each ax g (facts c ++ (erase s ∷ held)) (erase (thesis_left th e)) each d)

pub step_in_proof_law : StepInProofLaw
step_in_proof_law ax held cs us c rests th is in_th below s read e a o d =
    step_in_proof ax held cs us c rests th is (record { in_force = in_th; below = below }) s read e a o d
