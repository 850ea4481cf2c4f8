-- Iterative equalities, and the disjunction of cases.
use Rattle.std.proofs.Common.{◌+◌, ℕ, suc, List, [], ◌∷◌, ◌++◌, map, length, refl, ◌∙◌, subst, arith}
use Rattle.std.specs.Prelude.{Contains}
use Rattle.std.proofs.lemmas.Bool.{and_from}
use Rattle.mz_logic.specs.Term.{Term, Const}
use Rattle.mz_logic.specs.Formula.{Formula}
use Rattle.mz_logic.specs.Indices.{is_below}
use Rattle.mz_logic.specs.Derives.{Derives}
use Rattle.mz_logic.proofs.Connectives.{chained}
use Rattle.mz_logic.proofs.Each.{Each, Along, cut_each, each_itself, each_left, each_right}
use Rattle.mz_core.specs.Statement.{Statement, Eq}
use Rattle.mz_core.specs.StatementForms.{opposite, disjunction}
use Rattle.mz_core.specs.Abstraction.{statement_over}
use Rattle.mz_core.specs.TypeSubstitution.{statement_at}
use Rattle.mz_core.specs.Guard.{guard}
use Rattle.mz_core.specs.Erasure.{erase}
use Rattle.mz_core.specs.InForce.{term_in_force, statement_in_force}
use Rattle.mz_core.proofs.AllLemmas.{disjunction_all}
use Rattle.mz_core.proofs.LawProofs.{body_of_abstraction, negation_in_force}
use Rattle.mz_names.specs.Closing.{for_all}
use Rattle.mz_names.specs.declared.variable.Variable.{Variable}
use Rattle.mz_thesis_laws.proofs.RowProofs.{specialized}
use Rattle.mz_steps.specs.Equalities.{neighbours, last_of}
use Rattle.mz_steps_laws.specs.StepLaws.{guards_of}
use Rattle.mz_steps_laws.proofs.ThereAreProofs.{for_all_in}
use Rattle.mz_block_laws.specs.Orders.{Stands, TermStands}
use Rattle.mz_block_laws.specs.BlockLaws.{EqualitiesLaw, DisjunctionStandsLaw}
use Rattle.mz_block_laws.proofs.OrderLemmas.{all_declared, typed_stand}

-- an equation of terms that stand
pub equation_stands : (m : ℕ) (t u : Term) → TermStands m t → TermStands m u → Stands m (Eq t u)
equation_stands m t u w v = (and_from (term_in_force m t) (term_in_force m u) w.1 v.1, and_from (is_below 0 t) (is_below 0 u) w.0 v.0)

-- what holds for all objects holds of constants with the guards
for_all_at : (ax h : List Formula) (n : ℕ) (vs : List Variable) (s : Statement) → Each ax h (guards_of n vs) → Derives ax h (erase (for_all n vs s)) → Derives ax h (erase s)
for_all_at ax h n [] s each d = d
for_all_at ax h n (v ∷ vs) s each d =
    let rest : Statement = for_all (suc n) vs s in
    let gs : List Formula = guard v.ty (Const n) in
    let at : Derives ax h (erase (statement_at (statement_over n 0 rest) (Const n))) = specialized ax h v.ty (statement_over n 0 rest) (Const n) refl (each_left ax h gs (guards_of (suc n) vs) each) d in
    for_all_at ax h (suc n) vs s (each_right ax h gs (guards_of (suc n) vs) each) (subst (λ u. Derives ax h (erase u)) (body_of_abstraction n rest) at)

-- equations one after another
chain : (ax h : List Formula) (m : ℕ) (t u : Term) (us : List Term) → TermStands m t → TermStands m u → ((a : Term) → Contains us a → TermStands m a) → Derives ax h (erase (Eq t u)) → Along ax h (map erase (neighbours u us)) → Derives ax h (erase (Eq t (last_of u us)))
chain ax h m t u [] wt wu each d all = d
chain ax h m t u (w ∷ ws) wt wu each d all =
    let ww : TermStands m w = each w (0, omega arith, refl) in
    chain ax h m t w ws wt ww (λ a is. each a (suc is.0, omega (arith, is.1), is.2)) (chained ax h t u w wu.0 ww.0 d all.0) all.1

pub last_stands : (m : ℕ) (u : Term) (us : List Term) → TermStands m u → ((a : Term) → Contains us a → TermStands m a) → TermStands m (last_of u us)
last_stands m u [] wu each = wu
last_stands m u (w ∷ ws) wu each = last_stands m w ws (each w (0, omega arith, refl)) (λ a is. each a (suc is.0, omega (arith, is.1), is.2))

-- each of them at the constants
all_at : (ax h : List Formula) (n : ℕ) (vs : List Variable) (ss : List Statement) → Each ax h (guards_of n vs) → ((s : Statement) → Contains ss s → Derives ax h (erase (for_all n vs s))) → Along ax h (map erase ss)
all_at ax h n vs [] each all = tt
all_at ax h n vs (s ∷ ss) each all =
    (for_all_at ax h n vs s each (all s (0, omega arith, refl)), all_at ax h n vs ss each (λ t is. all t (suc is.0, omega (arith, is.1), is.2)))

pub equalities_law : EqualitiesLaw
equalities_law ax g n vs in_g typed t u us stand d all =
    let m : ℕ = length vs + n in
    let gs : List Formula = guards_of n vs in
    let h : List Formula = gs ++ g in
    let from_gs : Each ax h gs = each_left ax h gs g (each_itself ax h) in
    let from_g : Each ax h g = each_right ax h gs g (each_itself ax h) in
    let wt : TermStands m t = stand t (0, omega arith, refl) in
    let wu : TermStands m u = stand u (1, omega arith, refl) in
    let rest : (a : Term) → Contains us a → TermStands m a = λ a is. stand a (suc (suc is.0), omega (arith, is.1), is.2) in
    let last : TermStands m (last_of u us) = last_stands m u us wu rest in
    let there : Derives ax h (erase (Eq t (last_of u us))) =
    chain ax h m t u us wt wu rest (for_all_at ax h n vs (Eq t u) from_gs (cut_each ax h g (erase (for_all n vs (Eq t u))) from_g d))
    (all_at ax h n vs (neighbours u us) from_gs (λ s is. cut_each ax h g (erase (for_all n vs s)) from_g (all s is))) in
    let stands : Stands m (Eq t (last_of u us)) = equation_stands m t (last_of u us) wt last in
    for_all_in ax g n vs (Eq t (last_of u us)) in_g (all_declared n vs (Eq t (last_of u us)) (typed_stand n vs (Eq t (last_of u us)) typed stands)) there

-- cases
either_stands : (n : ℕ) (s t : Statement) → Stands n s → Stands n t → Stands n (disjunction s t)
either_stands n s t w u =
    (and_from (statement_in_force n (opposite s)) (statement_in_force n (opposite t)) (negation_in_force n s ∙ w.0) (negation_in_force n t ∙ u.0), disjunction_all is_below 0 s t w.1 u.1)

pub disjunction_stands_law : DisjunctionStandsLaw
disjunction_stands_law n s [] w each = w
disjunction_stands_law n s (t ∷ ts) w each =
    disjunction_stands_law n (disjunction s t) ts (either_stands n s t w (each t (0, omega arith, refl))) (λ u is. each u (suc is.0, omega (arith, is.1), is.2))
