-- Several variables: quantifiers over them, and objects for them.
use Rattle.std.proofs.Common.{◌≡◌, ◌≤◌, ◌+◌, ℕ, zero, suc, true, List, [], ◌∷◌, ◌++◌, refl, sym, ap, ◌∙◌, subst, arith, add-one}
use Rattle.std.specs.Prelude.{Contains}
use Rattle.std.specs.List.{list_all}
use Rattle.std.proofs.lemmas.Bool.{and_parts, and_from, lt-ltb}
use Rattle.mz_logic.specs.Term.{Const}
use Rattle.mz_logic.specs.Formula as formula
use Rattle.mz_logic.specs.Formula.{Formula}
use Rattle.mz_logic.specs.Negation.{falsity}
use Rattle.mz_logic.specs.Derives.{Derives}
use Rattle.mz_logic.proofs.Rules.{not_in, not_out, classical}
use Rattle.mz_logic.proofs.Connectives.{first, under}
use Rattle.mz_logic.proofs.Each.{Each, cut_each, each_itself, each_under, each_append, each_left, each_right, each_more}
use Rattle.mz_core.specs.Statement.{Statement, For}
use Rattle.mz_core.specs.StatementForms.{opposite}
use Rattle.mz_core.specs.Abstraction.{statement_over}
use Rattle.mz_core.specs.TypeSubstitution.{statement_at}
use Rattle.mz_core.specs.Guard.{guard}
use Rattle.mz_core.specs.Erasure.{erase}
use Rattle.mz_core.specs.InForce.{term_in_force, formula_in_force, type_in_force, statement_in_force}
use Rattle.mz_core.proofs.LawProofs.{body_of_abstraction, abstraction_in_force, negation_in_force, guard_in_force, erasure_in_force}
use Rattle.mz_laws.proofs.StatementProofs.{more_type_in_force, more_formula_in_force}
use Rattle.mz_names.specs.Closing.{for_all, there_are}
use Rattle.mz_names.specs.declared.variable.Variable.{Variable}
use Rattle.mz_thesis_laws.specs.RowLaws.{AreInForce}
use Rattle.mz_thesis_laws.proofs.StatementProofs.{opposite_in, opposite_out}
use Rattle.mz_thesis_laws.proofs.RowProofs.{generalized}
use Rattle.mz_steps_laws.specs.StepLaws.{AreDeclared, guards_of, ThereAreLaw}

-- lists in force
pub all_more : (n : ℕ) (fs : List Formula) → AreInForce n fs → AreInForce (suc n) fs
all_more n [] h = refl
all_more n (f ∷ fs) h =
    let c : (formula_in_force n f ≡ true) × (list_all (formula_in_force n) fs ≡ true) = and_parts (formula_in_force n f) (list_all (formula_in_force n) fs) h in
    and_from (formula_in_force (suc n) f) (list_all (formula_in_force (suc n)) fs) (more_formula_in_force n (suc n) f (omega arith) c.0) (all_more n fs c.1)

pub all_both : (n : ℕ) (fs gs : List Formula) → AreInForce n fs → AreInForce n gs → AreInForce n (fs ++ gs)
all_both n [] gs a b = b
all_both n (f ∷ fs) gs a b =
    let c : (formula_in_force n f ≡ true) × (list_all (formula_in_force n) fs ≡ true) = and_parts (formula_in_force n f) (list_all (formula_in_force n) fs) a in
    and_from (formula_in_force n f) (list_all (formula_in_force n) (fs ++ gs)) c.0 (all_both n fs gs c.1 b)

pub new_in_force : (n : ℕ) → term_in_force (suc n) (Const n) ≡ true
new_in_force n = lt-ltb n (suc n) (omega arith)

-- the quantifier over one more variable
pub over_in_force : (n : ℕ) (s : Statement) → statement_in_force (suc n) s ≡ true → statement_in_force n (statement_over n 0 s) ≡ true
over_in_force n s h = abstraction_in_force n s (subst (λ m. statement_in_force m s ≡ true) (sym (add-one n)) h)

pub for_all_in_force : (n : ℕ) (vs : List Variable) (s : Statement) → AreDeclared n vs s → statement_in_force n (for_all n vs s) ≡ true
for_all_in_force n [] s h = h
for_all_in_force n (v ∷ vs) s h =
    and_from (type_in_force n v.ty) (statement_in_force n (statement_over n 0 (for_all (suc n) vs s))) h.0 (over_in_force n (for_all (suc n) vs s) (for_all_in_force (suc n) vs s h.1))

pub denied_declared : (n : ℕ) (vs : List Variable) (s : Statement) → AreDeclared n vs s → AreDeclared n vs (opposite s)
denied_declared n [] s h = negation_in_force n s ∙ h
denied_declared n (v ∷ vs) s h = (h.0, denied_declared (suc n) vs s h.1)

pub there_are_in_force : (n : ℕ) (vs : List Variable) (s : Statement) → AreDeclared n vs s → statement_in_force n (there_are n vs s) ≡ true
there_are_in_force n vs s h = negation_in_force n (for_all n vs (opposite s)) ∙ for_all_in_force n vs (opposite s) (denied_declared n vs s h)

-- where the statement derives at the constants, it does for all objects
pub for_all_in : (ax h : List Formula) (n : ℕ) (vs : List Variable) (s : Statement) → AreInForce n h → AreDeclared n vs s → Derives ax (guards_of n vs ++ h) (erase s) → Derives ax h (erase (for_all n vs s))
for_all_in ax h n [] s in_h w d = d
for_all_in ax h n (v ∷ vs) s in_h w d =
    let gs : List Formula = guard v.ty (Const n) in
    let k : List Formula = gs ++ h in
    let rest : Statement = for_all (suc n) vs s in
    let all : List Formula = guards_of (suc n) vs ++ k in
    let from_k : Each ax all k = each_right ax all (guards_of (suc n) vs) k (each_itself ax all) in
    let from_gs : Each ax all gs = λ f is. cut_each ax all k f from_k (each_left ax k gs h (each_itself ax k) f is) in
    let from_h : Each ax all h = λ f is. cut_each ax all k f from_k (each_right ax k gs h (each_itself ax k) f is) in
    let from_rest : Each ax all (guards_of (suc n) vs) = each_left ax all (guards_of (suc n) vs) k (each_itself ax all) in
    let moved : Derives ax all (erase s) = cut_each ax all ((gs ++ guards_of (suc n) vs) ++ h) (erase s) (each_append ax all (gs ++ guards_of (suc n) vs) h (each_append ax all gs (guards_of (suc n) vs) from_gs from_rest) from_h) d in
    let in_k : AreInForce (suc n) k = all_both (suc n) gs h (guard_in_force (suc n) v.ty (Const n) (more_type_in_force n (suc n) v.ty (omega arith) w.0) (new_in_force n)) (all_more n h in_h) in
    let inner : Derives ax k (erase rest) = for_all_in ax k (suc n) vs s in_k w.1 moved in
    let body : Derives ax k (erase (statement_at (statement_over n 0 rest) (Const n))) = subst (λ t. Derives ax k (erase t)) (sym (body_of_abstraction n rest)) inner in
    generalized ax h n n v.ty (statement_over n 0 rest) in_h (omega arith) w.0 (over_in_force n rest (for_all_in_force (suc n) vs s w.1)) body

pub there_are_law : ThereAreLaw
there_are_law ax g n vs s th in_g w in_th owed d =
    let not_th : Formula = formula.Not (erase th) in
    let h : List Formula = not_th ∷ g in
    let gs : List Formula = guards_of n vs in
    let k : List Formula = gs ++ h in
    let from_h : Each ax k h = each_right ax k gs h (each_itself ax k) in
    let from_g : Each ax k g = λ f is. cut_each ax k h f from_h (each_under ax g g not_th (each_itself ax g) f is) in
    let from_gs : Each ax k gs = each_left ax k gs h (each_itself ax k) in
    let denied : Derives ax k not_th = cut_each ax k h not_th from_h (first ax g not_th) in
    let l : List Formula = erase s ∷ k in
    let each : Each ax l (erase s ∷ gs ++ g) = each_more ax l (erase s) (gs ++ g) (first ax k (erase s)) (each_under ax k (gs ++ g) (erase s) (each_append ax k gs g from_gs from_g)) in
    let proved : Derives ax l (erase th) = cut_each ax l (erase s ∷ gs ++ g) (erase th) each d in
    let fails : Derives ax k (erase (opposite s)) = opposite_in ax k s (not_in ax k (erase s) (not_out ax l (erase th) falsity proved (under ax k (erase s) not_th denied))) in
    let in_h : AreInForce n h = and_from (formula_in_force n not_th) (list_all (formula_in_force n) g) (erasure_in_force n th in_th) in_g in
    let all : Derives ax h (erase (for_all n vs (opposite s))) = for_all_in ax h n vs (opposite s) in_h (denied_declared n vs s w) fails in
    let against : Derives ax g (formula.Not (erase (for_all n vs (opposite s)))) = opposite_out ax g (for_all n vs (opposite s)) owed in
    classical ax g (erase th) (not_out ax h (erase (for_all n vs (opposite s))) falsity all (under ax g not_th (formula.Not (erase (for_all n vs (opposite s)))) against))
