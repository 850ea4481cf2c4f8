-- Each step of a `now` is sound.
use Rattle.std.proofs.Common.{◌≡◌, ◌≤◌, ◌⊎◌, inl, inr, ℕ, suc, Bool, true, false, if◌then◌else◌, List, [], ◌∷◌, ◌++◌, map, refl, sym, ap, ◌∙◌, subst, arith}
use Rattle.std.specs.List.{list_all}
use Rattle.std.proofs.lemmas.Bool.{and_parts, and_from}
use Rattle.mz_logic.specs.Term.{Term, Const}
use Rattle.mz_logic.specs.Formula as formula
use Rattle.mz_logic.specs.Formula.{Formula}
use Rattle.mz_logic.specs.Indices.{closed}
use Rattle.mz_logic.specs.Connectives.{implies}
use Rattle.mz_logic.specs.Substitution.{body_at}
use Rattle.mz_logic.specs.Derives.{Derives}
use Rattle.mz_logic.proofs.Connectives.{first}
use Rattle.mz_logic.proofs.Congruence.{formula_congruence}
use Rattle.mz_logic.proofs.Each.{Each, Along, cut_each, each_itself, each_under, each_append, each_left, each_right, each_more, implies_in}
use Rattle.mz_core.specs.Statement.{Statement, For}
use Rattle.mz_core.specs.StatementForms.{opposite, implication}
use Rattle.mz_core.specs.Abstraction.{statement_over}
use Rattle.mz_core.specs.TypeSubstitution.{statement_at}
use Rattle.mz_core.specs.Parts.{conjunction}
use Rattle.mz_core.specs.Guard.{guard}
use Rattle.mz_core.specs.Erasure.{erase}
use Rattle.mz_core.specs.InForce.{term_in_force, formula_in_force, type_in_force, statement_in_force}
use Rattle.mz_core.proofs.LawProofs.{erasure_of_body, erasure_of_negation, body_of_abstraction, body_in_force, conjunction_in_force, erasure_in_force}
use Rattle.mz_context.specs.Context.{next}
use Rattle.mz_context.specs.Changes.{with_constant}
use Rattle.mz_context.specs.declared.context.Context.{Context}
use Rattle.mz_names.specs.Closing.{constant_of, with_variables, there_are}
use Rattle.mz_names.specs.declared.variable.Variable.{Variable}
use Rattle.mz_now.specs.Stated.{term_has_hidden, defined, with_term, conjuncts_of, stated_by}
use Rattle.mz_now.specs.declared.now_part.NowPart.{NowPart}
use Rattle.mz_now.specs.declared.now_part.NowPart.TheVariants.{Quantifier, Antecedent, Conjunct, Defined, Hidden}
use Rattle.mz_thesis_laws.specs.RowLaws.{AreInForce}
use Rattle.mz_thesis_laws.proofs.StatementProofs.{conjunction_in, conjunction_out}
use Rattle.mz_thesis_laws.proofs.RowProofs.{generalized, define_law}
use Rattle.mz_steps.specs.Rows.{with_constants, constant_for, owed, hidden_from, parts_said}
use Rattle.mz_steps.specs.declared.read_step.Definition.{Definition}
use Rattle.mz_steps.specs.declared.read_step.ReadStep.{ReadStep}
use Rattle.mz_steps.specs.declared.read_step.ReadStep.TheVariants.{Let, Assume, Given, Thus, Take, Consider, Reconsider, Set, State}
use Rattle.mz_steps_laws.specs.Facts.{facts}
use Rattle.mz_steps_laws.specs.StepLaws.{AreDeclared, guards_of, IsReadIn, gained, OwedDerives}
use Rattle.mz_steps_laws.specs.NowLaws.{StatesInForce, numbers_behind, MayStateBehind, StepInNowLaw}
use Rattle.mz_steps_laws.proofs.FactLemmas.{each_with_constant, each_with_variables, each_of_variable, each_of_definition}
use Rattle.mz_steps_laws.proofs.ThereAreProofs.{over_in_force, there_are_in_force, there_are_law}
use Rattle.mz_steps_laws.proofs.ProofSteps.{guard_derives}

-- a hidden constant states nothing
pub hidden_state_nothing : (n : ℕ) (vs : List Variable) (ps : List NowPart) → conjuncts_of (hidden_from n vs ++ ps) ≡ conjuncts_of ps
hidden_state_nothing n [] ps = refl
hidden_state_nothing n (v ∷ vs) ps = hidden_state_nothing (suc n) vs ps

-- an implication
implication_in : (ax g : List Formula) (s t : Statement) → Derives ax (erase s ∷ g) (erase t) → Derives ax g (erase (implication s t))
implication_in ax g s t d =
    subst (λ f. Derives ax g (formula.Not (formula.And (erase s) f))) (sym (erasure_of_negation t)) (implies_in ax g (erase s) (erase t) d)

-- the constants of `given` and `consider`
behind_variables : (ax held : List Formula) (c : Context) (vs : List Variable) (s x : Statement) (k : List Formula) → Each ax k (facts c ++ held) → AreInForce (next c) k → AreDeclared (next c) vs s → statement_in_force (next c) x ≡ true → Derives ax k (erase (there_are (next c) vs s)) → Derives ax (facts (with_variables c vs) ++ (erase s ∷ held)) (erase x) → Derives ax k (erase x)
behind_variables ax held c vs s x k from in_k w in_x some d =
    let n : ℕ = next c in
    let gs : List Formula = guards_of n vs in
    let h : List Formula = erase s ∷ gs ++ k in
    let from_gs : Each ax h gs = each_under ax (gs ++ k) gs (erase s) (each_left ax (gs ++ k) gs k (each_itself ax (gs ++ k))) in
    let from_k : Each ax h k = each_under ax (gs ++ k) k (erase s) (each_right ax (gs ++ k) gs k (each_itself ax (gs ++ k))) in
    let from_g : Each ax h (facts c ++ held) = λ f m. cut_each ax h k f from_k (from f m) in
    let known : Each ax h (facts (with_variables c vs)) = each_with_variables ax h c vs (each_left ax h (facts c) held from_g) from_gs in
    let each : Each ax h (facts (with_variables c vs) ++ (erase s ∷ held)) = each_append ax h (facts (with_variables c vs)) (erase s ∷ held) known (each_more ax h (erase s) held (first ax (gs ++ k) (erase s)) (each_right ax h (facts c) held from_g)) in
    there_are_law ax k n vs s x in_k w in_x some (cut_each ax h (facts (with_variables c vs) ++ (erase s ∷ held)) (erase x) each d)

-- the term for a constant that is equal to it
at_term : (n : ℕ) (t : Term) (s : Statement) → erase (statement_at (statement_over n 0 s) t) ≡ body_at (erase (statement_over n 0 s)) t
at_term n t s = erasure_of_body (statement_over n 0 s) t

replaced_derives : (ax h : List Formula) (n : ℕ) (t : Term) (s : Statement) → closed t ≡ true → Derives ax h (formula.Eq (Const n) t) → Derives ax h (erase s) → Derives ax h (erase (statement_at (statement_over n 0 s) t))
replaced_derives ax h n t s ct eq d =
    let body : Formula = erase (statement_over n 0 s) in
    let at_constant : Derives ax h (body_at body (Const n)) = subst (Derives ax h) (ap erase (sym (body_of_abstraction n s)) ∙ at_term n (Const n) s) d in
    subst (Derives ax h) (sym (at_term n t s)) (formula_congruence ax h (Const n) t body refl ct eq at_constant)

all_replaced : (ax h : List Formula) (n : ℕ) (t : Term) (ss : List Statement) → closed t ≡ true → Derives ax h (formula.Eq (Const n) t) → Along ax h (map erase ss) → Along ax h (map erase (map (with_term (Defined n t)) ss))
all_replaced ax h n t [] ct eq p = tt
all_replaced ax h n t (s ∷ ss) ct eq p = (replaced_derives ax h n t s ct eq p.0, all_replaced ax h n t ss ct eq p.1)

pub replaced_in_force : (n : ℕ) (t : Term) (ss : List Statement) → term_in_force n t ≡ true → list_all (statement_in_force (suc n)) ss ≡ true → list_all (statement_in_force n) (map (with_term (Defined n t)) ss) ≡ true
replaced_in_force n t [] ht h = refl
replaced_in_force n t (s ∷ ss) ht h =
    let c : (statement_in_force (suc n) s ≡ true) × (list_all (statement_in_force (suc n)) ss ≡ true) = and_parts (statement_in_force (suc n) s) (list_all (statement_in_force (suc n)) ss) h in
    and_from (statement_in_force n (statement_at (statement_over n 0 s) t)) (list_all (statement_in_force n) (map (with_term (Defined n t)) ss))
    (body_in_force n (statement_over n 0 s) t ht (over_in_force n s c.0)) (replaced_in_force n t ss ht c.1)

-- what holds of the constant of a definition holds of its term
behind_constant : (ax held : List Formula) (c : Context) → AreInForce (next c) (facts c ++ held) → (d : Definition) → IsReadIn ax (facts c ++ held) c (Reconsider d) → Each ax (facts c ++ held) (guard d.ty d.term) → (x : Statement) → statement_in_force (next c) x ≡ true → ((h : List Formula) → Derives ax h (formula.Eq (Const (next c)) d.term) → Each ax h (facts (with_constant c (constant_for d)) ++ held) → Derives ax h (erase x)) → Derives ax (facts c ++ held) (erase x)
behind_constant ax held c in_g d read each x in_x inside =
    let n : ℕ = next c in
    let g : List Formula = facts c ++ held in
    let gs : List Formula = guard d.ty (Const n) in
    let eq : Formula = formula.Eq (Const n) d.term in
    let h : List Formula = eq ∷ gs ++ g in
    let from_gs : Each ax h gs = each_under ax (gs ++ g) gs eq (each_left ax (gs ++ g) gs g (each_itself ax (gs ++ g))) in
    let from_g : Each ax h g = each_under ax (gs ++ g) g eq (each_right ax (gs ++ g) gs g (each_itself ax (gs ++ g))) in
    let known : Each ax h (facts (with_constant c (constant_for d))) = each_with_constant ax h c (constant_for d) (each_left ax h (facts c) held from_g) (each_of_definition ax h n d from_gs (first ax (gs ++ g) eq)) in
    define_law ax g n n d.ty d.term x in_g (omega arith) read.0 read.1 read.2 in_x each
    (inside h (first ax (gs ++ g) eq) (each_append ax h (facts (with_constant c (constant_for d))) held known (each_right ax h (facts c) held from_g)))

-- the two parts that a definition may be
defined_as : (n : ℕ) (t : Term) (b : Bool) → ((if b then Hidden n else Defined n t) ≡ Hidden n) ⊎ ((if b then Hidden n else Defined n t) ≡ Defined n t)
defined_as n t true = inl refl
defined_as n t false = inr refl

-- each of them is sound
abbrev AsPart : (ax held : List Formula) (c : Context) → List NowPart → NowPart → Type 0
AsPart ax held c ps p = StatesInForce (numbers_behind (next c) p) ps → Derives ax (facts c ++ held) (erase (stated_by (p ∷ ps)))

hidden_part : (ax held : List Formula) (c : Context) → AreInForce (next c) (facts c ++ held) → (d : Definition) → IsReadIn ax (facts c ++ held) c (Reconsider d) → Each ax (facts c ++ held) (guard d.ty d.term) → (ps : List NowPart) → Derives ax (facts (with_constant c (constant_for d)) ++ held) (erase (stated_by ps)) → AsPart ax held c ps (Hidden (next c))
hidden_part ax held c in_g d read each ps inside in_ps =
    behind_constant ax held c in_g d read each (conjunction (conjuncts_of ps)) (conjunction_in_force (next c) (conjuncts_of ps) in_ps)
    (λ h eq all. cut_each ax h (facts (with_constant c (constant_for d)) ++ held) (erase (conjunction (conjuncts_of ps))) all inside)

defined_part : (ax held : List Formula) (c : Context) → AreInForce (next c) (facts c ++ held) → (d : Definition) → IsReadIn ax (facts c ++ held) c (Reconsider d) → Each ax (facts c ++ held) (guard d.ty d.term) → (ps : List NowPart) → Derives ax (facts (with_constant c (constant_for d)) ++ held) (erase (stated_by ps)) → AsPart ax held c ps (Defined (next c) d.term)
defined_part ax held c in_g d read each ps inside in_ps =
    let n : ℕ = next c in
    let rs : List Statement = map (with_term (Defined n d.term)) (conjuncts_of ps) in
    behind_constant ax held c in_g d read each (conjunction rs) (conjunction_in_force n rs (replaced_in_force n d.term (conjuncts_of ps) read.2 in_ps))
    (λ h eq all. conjunction_in ax h rs (all_replaced ax h n d.term (conjuncts_of ps) read.1 eq (conjunction_out ax h (conjuncts_of ps) (cut_each ax h (facts (with_constant c (constant_for d)) ++ held) (erase (conjunction (conjuncts_of ps))) all inside))))

behind_definition : (ax held : List Formula) (c : Context) → AreInForce (next c) (facts c ++ held) → (d : Definition) → IsReadIn ax (facts c ++ held) c (Reconsider d) → Each ax (facts c ++ held) (guard d.ty d.term) → (before ps : List NowPart) → Derives ax (facts (with_constant c (constant_for d)) ++ held) (erase (stated_by ps)) → AsPart ax held c ps (defined before (next c) d.term)
behind_definition ax held c in_g d read each before ps inside =
    elim (defined_as (next c) d.term (term_has_hidden before d.term)) [
      | inl e ↦ subst (AsPart ax held c ps) (sym e) (hidden_part ax held c in_g d read each ps inside)
      | inr e ↦ subst (AsPart ax held c ps) (sym e) (defined_part ax held c in_g d read each ps inside)
    ]

pub step_in_now_law : StepInNowLaw
step_in_now_law ax held c in_g (Let v) read o before ps in_ps d =
    let n : ℕ = next c in
    let x : Statement = conjunction (conjuncts_of ps) in
    let g : List Formula = facts c ++ held in
    let gs : List Formula = guard v.ty (Const n) in
    let h : List Formula = gs ++ g in
    let from_g : Each ax h g = each_right ax h gs g (each_itself ax h) in
    let known : Each ax h (facts (with_constant c (constant_of v))) = each_with_constant ax h c (constant_of v) (each_left ax h (facts c) held from_g) (each_of_variable ax h n v (each_left ax h gs g (each_itself ax h))) in
    let inside : Derives ax h (erase x) = cut_each ax h (facts (with_constant c (constant_of v)) ++ held) (erase x) (each_append ax h (facts (with_constant c (constant_of v))) held known (each_right ax h (facts c) held from_g)) d in
    generalized ax g n n v.ty (statement_over n 0 x) in_g (omega arith) read (over_in_force n x (conjunction_in_force (suc n) (conjuncts_of ps) in_ps))
    (subst (λ t. Derives ax h (erase t)) (sym (body_of_abstraction n x)) inside)
step_in_now_law ax held c in_g (Assume s) read o before ps in_ps d =
    let x : Statement = conjunction (conjuncts_of ps) in
    let g : List Formula = facts c ++ held in
    let h : List Formula = erase s ∷ g in
    let from_g : Each ax h g = each_under ax g g (erase s) (each_itself ax g) in
    let each : Each ax h (facts c ++ (erase s ∷ held)) = each_append ax h (facts c) (erase s ∷ held) (each_left ax h (facts c) held from_g) (each_more ax h (erase s) held (first ax g (erase s)) (each_right ax h (facts c) held from_g)) in
    implication_in ax g s x (cut_each ax h (facts c ++ (erase s ∷ held)) (erase x) each d)
step_in_now_law ax held c in_g (Given vs s) read o before ps in_ps d =
    let n : ℕ = next c in
    let x : Statement = conjunction (conjuncts_of ps) in
    let some : Statement = there_are n vs s in
    let g : List Formula = facts c ++ held in
    let k : List Formula = erase some ∷ g in
    let in_k : AreInForce n k = and_from (formula_in_force n (erase some)) (list_all (formula_in_force n) g) (erasure_in_force n some (there_are_in_force n vs s read)) in_g in
    let inside : Derives ax k (erase x) = behind_variables ax held c vs s x k (each_under ax g g (erase some) (each_itself ax g)) in_k read (conjunction_in_force n (conjuncts_of ps) in_ps) (first ax g (erase some)) d in
    subst (λ ss. Derives ax g (erase (conjunction (implication some (conjunction ss) ∷ [])))) (sym (hidden_state_nothing n vs ps)) (implication_in ax g some x inside)
step_in_now_law ax held c in_g (Thus s) read o before ps in_ps d =
    let g : List Formula = facts c ++ held in
    let from_g : Each ax g g = each_itself ax g in
    let each : Each ax g (facts c ++ (erase s ∷ held)) = each_append ax g (facts c) (erase s ∷ held) (each_left ax g (facts c) held from_g) (each_more ax g (erase s) held o (each_right ax g (facts c) held from_g)) in
    let stated : Derives ax g (erase (conjunction (conjuncts_of ps))) = cut_each ax g (facts c ++ (erase s ∷ held)) (erase (conjunction (conjuncts_of ps))) each d in
    conjunction_in ax g (s ∷ conjuncts_of ps) (o, conjunction_out ax g (conjuncts_of ps) stated)
step_in_now_law ax held c in_g (Take t) read o before ps in_ps d = d
step_in_now_law ax held c in_g (Consider vs s) read o before ps in_ps d =
    let n : ℕ = next c in
    let g : List Formula = facts c ++ held in
    let x : Statement = conjunction (conjuncts_of ps) in
    subst (λ ss. Derives ax g (erase (conjunction ss))) (sym (hidden_state_nothing n vs ps))
    (behind_variables ax held c vs s x g (each_itself ax g) in_g read (conjunction_in_force n (conjuncts_of ps) in_ps) o d)
step_in_now_law ax held c in_g (Reconsider d) read o before ps in_ps inside = behind_definition ax held c in_g d read (guard_derives ax (facts c ++ held) d.ty d.term o) before ps inside in_ps
step_in_now_law ax held c in_g (Set d) read o before ps in_ps inside = behind_definition ax held c in_g d (read.0, read.1, read.2) read.3 before ps inside in_ps
step_in_now_law ax held c in_g (State s) read o before ps in_ps d =
    let g : List Formula = facts c ++ held in
    let from_g : Each ax g g = each_itself ax g in
    let each : Each ax g (facts c ++ (erase s ∷ held)) = each_append ax g (facts c) (erase s ∷ held) (each_left ax g (facts c) held from_g) (each_more ax g (erase s) held o (each_right ax g (facts c) held from_g)) in
    cut_each ax g (facts c ++ (erase s ∷ held)) (erase (stated_by ps)) each d
