-- What several statements together give for all loci, each gives.
use Rattle.std.proofs.Common.{◌<◌, ℕ, suc, List, [], ◌∷◌, append-nil, map, refl, sym, subst, arith}
use Rattle.std.specs.Prelude.{Contains}
use Rattle.mz_logic.specs.Term.{Const}
use Rattle.mz_logic.specs.Formula.{Formula}
use Rattle.mz_logic.specs.Derives.{Derives}
use Rattle.mz_logic.proofs.Each.{Each, Along, each_itself, each_left, each_right, premises_within}
use Rattle.mz_core.specs.Abstraction.{statement_over}
use Rattle.mz_core.specs.Erasure.{erase}
use Rattle.mz_core.specs.Guard.{guard}
use Rattle.mz_core.specs.Parts.{conjunction}
use Rattle.mz_core.specs.Statement.{Statement}
use Rattle.mz_core.specs.TypeSubstitution.{statement_at}
use Rattle.mz_core.proofs.LawProofs.{body_of_abstraction}
use Rattle.mz_names.specs.Closing.{for_all}
use Rattle.mz_names.specs.declared.variable.Variable.{Variable}
use Rattle.mz_thesis_laws.proofs.RowProofs.{specialized}
use Rattle.mz_thesis_laws.proofs.StatementProofs.{conjunction_out}
use Rattle.mz_steps_laws.specs.StepLaws.{guards_of}
use Rattle.mz_steps_laws.proofs.ThereAreProofs.{for_all_in}
use Rattle.mz_block_laws.specs.Orders.{AllStand}
use Rattle.mz_block_laws.proofs.OrderLemmas.{all_declared}

in_none : (f : Formula) → Contains [] f → ⊥
in_none f h = let lt : h.0 < 0 = h.1 in omega arith

-- at the constants, where their guards derive
for_all_out : (ax g : List Formula) (n : ℕ) (vs : List Variable) (s : Statement) → Each ax g (guards_of n vs) → Derives ax g (erase (for_all n vs s)) → Derives ax g (erase s)
for_all_out ax g n [] s each d = d
for_all_out ax g n (v ∷ vs) s each d =
    let rest : Statement = for_all (suc n) vs s in
    let gs : List Formula = guard v.ty (Const n) in
    let one : Derives ax g (erase (statement_at (statement_over n 0 rest) (Const n))) =
    specialized ax g v.ty (statement_over n 0 rest) (Const n) refl (each_left ax g gs (guards_of (suc n) vs) each) d in
    for_all_out ax g (suc n) vs s (each_right ax g gs (guards_of (suc n) vs) each) (subst (λ t. Derives ax g (erase t)) (body_of_abstraction n rest) one)

-- all of them at the constants
pub at_constants : (ax : List Formula) (n : ℕ) (vs : List Variable) (ss : List Statement) → Derives ax [] (erase (for_all n vs (conjunction ss))) → Along ax (guards_of n vs) (map erase ss)
at_constants ax n vs ss d =
    let g : List Formula = guards_of n vs in
    let there : Derives ax g (erase (for_all n vs (conjunction ss))) = premises_within [] g (erase (for_all n vs (conjunction ss))) ax (λ k is. absurd (in_none k is)) d in
    conjunction_out ax g ss (for_all_out ax g n vs (conjunction ss) (each_itself ax g) there)

-- and one for all again
pub for_all_again : (ax : List Formula) (n : ℕ) (vs : List Variable) (s : Statement) → AllStand n vs s → Derives ax (guards_of n vs) (erase s) → Derives ax [] (erase (for_all n vs s))
for_all_again ax n vs s stand d = for_all_in ax [] n vs s refl (all_declared n vs s stand) (subst (λ g. Derives ax g (erase s)) (sym (append-nil (guards_of n vs))) d)
