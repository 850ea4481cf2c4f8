-- Sizes of bodies at arguments.
use Rattle.std.proofs.Common.{◌≡◌, ◌-◌, ℕ, List, [], map, refl, ap, ◌∙◌, Bool, true, false}
use Rattle.std.specs.Prelude.{nat_lt, if◌then◌else◌}
use Rattle.mz_logic.specs.Term.{Term, Terms, Bound, Const, App, none, more}
use Rattle.mz_logic.specs.Substitution.{substitute, argument_at}
use Rattle.mz_core.specs.Statement.{Statement}
use Rattle.mz_core.specs.TypeSubstitution.{substitute_statement}
use Rattle.mz_ground.specs.Instance.{term_nodes, args_nodes}
use Rattle.mz_sizes.specs.Sizes.{term_depth, args_depth, term_keeps, statement_nodes, statement_depth, statement_keeps}
use Rattle.mz_instance_sizes.specs.Sizes.{leaf, above, beside, is_kept, term_size, args_size}
use Rattle.mz_instance_sizes.specs.Within.{size_or, size_at, sizes_at, statement_within}
use Rattle.mz_instance_sizes.specs.declared.size.Size.{Size}
use Rattle.mz_instance_sizes.proofs.SizeLemmas.{above-capped, beside-capped, kept-capped}
use Rattle.mz_instance_sizes.proofs.WithinLemmas.{size-substitute}
use Rattle.mz_instance_sizes.proofs.StatementLemmas.{statement-substitute}

-- without arguments each index is as large as a constant
at_no_place : (depth index : ℕ) (b : Bool) → (if b then leaf else size_or [] (index - depth)) ≡ leaf
at_no_place depth index true = refl
at_no_place depth index false = refl

mutual
  pub size-bare : (depth : ℕ) (t : Term) → size_at [] depth t ≡ term_size t
  size-bare depth (Bound index) = at_no_place depth index (nat_lt index depth)
  size-bare depth (Const number) = refl
  size-bare depth (App s ts) = ap above (sizes-bare depth ts) ∙ above-capped (args_nodes ts) (args_depth ts)

  sizes-bare : (depth : ℕ) (ts : Terms) → sizes_at [] depth ts ≡ args_size ts
  sizes-bare depth none = refl
  sizes-bare depth (more t ts) = (λ i. beside (size-bare depth t i) (sizes-bare depth ts i)) ∙ beside-capped (term_nodes t) (args_nodes ts) (term_depth t) (args_depth ts)

pub ruleset size_rules = (size-bare)

pub told_term_kept_at : (ts : List Term) (body : Term) (xs : List Size) (x : Size) (b : Bool) → xs ≡ map term_size ts → x ≡ size_at xs 0 body → b ≡ is_kept x → b ≡ term_keeps (substitute 0 (argument_at ts) body)
told_term_kept_at ts body xs x b es ex eb =
    let t : Term = substitute 0 (argument_at ts) body in
    eb ∙ ap is_kept (ex ∙ ap (λ ys. size_at ys 0 body) es ∙ size-substitute ts 0 body) ∙ kept-capped (term_nodes t) (term_depth t)

pub told_statement_kept_at : (ts : List Term) (body : Statement) (xs : List Size) (x : Size) (b : Bool) → xs ≡ map term_size ts → x ≡ statement_within xs 0 body → b ≡ is_kept x → b ≡ statement_keeps (substitute_statement 0 (argument_at ts) body)
told_statement_kept_at ts body xs x b es ex eb =
    let s : Statement = substitute_statement 0 (argument_at ts) body in
    eb ∙ ap is_kept (ex ∙ ap (λ ys. statement_within ys 0 body) es ∙ statement-substitute ts 0 body) ∙ kept-capped (statement_nodes s) (statement_depth s)

pub ruleset keep_rules = (told_term_kept_at, told_statement_kept_at)
