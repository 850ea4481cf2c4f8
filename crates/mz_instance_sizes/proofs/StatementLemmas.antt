-- Sizes of types and statements that have terms for their places.
use Rattle.std.proofs.Common.{◌≡◌, ◌+◌, ℕ, suc, List, [], ◌∷◌, map, refl, ap, ◌∙◌}
use Rattle.std.specs.Prelude.{max}
use Rattle.mz_logic.specs.Term.{Term, Terms, terms_of}
use Rattle.mz_logic.specs.Substitution.{substitute, argument_at}
use Rattle.mz_core.specs.Statement.{Statement, Truth, Eq, Atom, Not, And, For}
use Rattle.mz_core.specs.TypeSubstitution.{substitute_adjective, substitute_type, substitute_statement}
use Rattle.mz_core.specs.declared.adjective.Adjective.{Adjective}
use Rattle.mz_core.specs.declared.soft_type.SoftType.{SoftType}
use Rattle.mz_ground.specs.Instance.{term_nodes, args_nodes}
use Rattle.mz_sizes.specs.Sizes.{term_depth, args_depth, adjective_nodes, adjective_depth, adjectives_nodes, adjectives_depth, type_nodes, type_depth, statement_nodes, statement_depth}
use Rattle.mz_instance_sizes.specs.Sizes.{above, beside, all_beside, term_size, args_size, adjective_size, adjectives_size, type_size, statement_size}
use Rattle.mz_instance_sizes.specs.Within.{sizes_at, adjective_within, type_within, statement_within}
use Rattle.mz_instance_sizes.proofs.SizeLemmas.{above-capped, beside-capped}
use Rattle.mz_instance_sizes.proofs.WithinLemmas.{size-substitute, sizes-substitute, substituted}

-- arguments below what has them
below : (ts : List Term) (depth : ℕ) (us : List Term) →
    above (sizes_at (map term_size ts) depth (terms_of us)) ≡ above (args_size (terms_of (map (substitute depth (argument_at ts)) us)))
below ts depth us = ap above (sizes-substitute ts depth (terms_of us) ∙ ap args_size (substituted (argument_at ts) depth us))

adjective-substitute : (ts : List Term) (depth : ℕ) (a : Adjective) → adjective_within (map term_size ts) depth a ≡ adjective_size (substitute_adjective depth (argument_at ts) a)
adjective-substitute ts depth a =
    let vs : Terms = terms_of (map (substitute depth (argument_at ts)) a.args) in
    below ts depth a.args ∙ above-capped (args_nodes vs) (args_depth vs)

adjectives-substitute : (ts : List Term) (depth : ℕ) (xs : List Adjective) →
    all_beside (map (adjective_within (map term_size ts) depth) xs) ≡ adjectives_size (map (substitute_adjective depth (argument_at ts)) xs)
adjectives-substitute ts depth [] = refl
adjectives-substitute ts depth (a ∷ xs) =
    let b : Adjective = substitute_adjective depth (argument_at ts) a in
    let ys : List Adjective = map (substitute_adjective depth (argument_at ts)) xs in
    (λ i. beside (adjective-substitute ts depth a i) (adjectives-substitute ts depth xs i)) ∙ beside-capped (adjective_nodes b) (adjectives_nodes ys) (adjective_depth b) (adjectives_depth ys)

type-substitute : (ts : List Term) (depth : ℕ) (ty : SoftType) → type_within (map term_size ts) depth ty ≡ type_size (substitute_type depth (argument_at ts) ty)
type-substitute ts depth ty =
    let vs : Terms = terms_of (map (substitute depth (argument_at ts)) ty.radix.args) in
    let ys : List Adjective = map (substitute_adjective depth (argument_at ts)) ty.adjectives in
    (λ i. beside ((below ts depth ty.radix.args ∙ above-capped (args_nodes vs) (args_depth vs)) i) (adjectives-substitute ts depth ty.adjectives i))
    ∙ beside-capped (suc (args_nodes vs)) (adjectives_nodes ys) (suc (args_depth vs)) (adjectives_depth ys)

pub statement-substitute : (ts : List Term) (depth : ℕ) (s : Statement) → statement_within (map term_size ts) depth s ≡ statement_size (substitute_statement depth (argument_at ts) s)
statement-substitute ts depth Truth = refl
statement-substitute ts depth (Eq t u) =
    let v : Term = substitute depth (argument_at ts) t in
    let w : Term = substitute depth (argument_at ts) u in
    ap above ((λ i. beside (size-substitute ts depth t i) (size-substitute ts depth u i)) ∙ beside-capped (term_nodes v) (term_nodes w) (term_depth v) (term_depth w))
    ∙ above-capped (term_nodes v + term_nodes w) (max (term_depth v) (term_depth w))
statement-substitute ts depth (Atom s us) =
    let vs : Terms = terms_of (map (substitute depth (argument_at ts)) us) in
    below ts depth us ∙ above-capped (args_nodes vs) (args_depth vs)
statement-substitute ts depth (Not s) =
    let x : Statement = substitute_statement depth (argument_at ts) s in
    ap above (statement-substitute ts depth s) ∙ above-capped (statement_nodes x) (statement_depth x)
statement-substitute ts depth (And s t) =
    let x : Statement = substitute_statement depth (argument_at ts) s in
    let y : Statement = substitute_statement depth (argument_at ts) t in
    ap above ((λ i. beside (statement-substitute ts depth s i) (statement-substitute ts depth t i)) ∙ beside-capped (statement_nodes x) (statement_nodes y) (statement_depth x) (statement_depth y))
    ∙ above-capped (statement_nodes x + statement_nodes y) (max (statement_depth x) (statement_depth y))
statement-substitute ts depth (For ty s) =
    let x : SoftType = substitute_type depth (argument_at ts) ty in
    let y : Statement = substitute_statement (depth + 1) (argument_at ts) s in
    ap above ((λ i. beside (type-substitute ts depth ty i) (statement-substitute ts (depth + 1) s i)) ∙ beside-capped (type_nodes x) (statement_nodes y) (type_depth x) (statement_depth y))
    ∙ above-capped (type_nodes x + statement_nodes y) (max (type_depth x) (statement_depth y))
