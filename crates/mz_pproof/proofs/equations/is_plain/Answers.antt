use Rattle.std.specs.Prelude.{vec_len}
use Rattle.std.proofs.Common.{rules, ◌≡◌, sym, ◌∙◌, arith}
use Rattle.mz_tree.specs.Views.{next_conjunction_of, conjunction_of}
use Rattle.mz_pproof.proofs.PlainEquations.{only_conjunction, more_conjunctions}
use Rattle.mz_pproof.proofs.equations.is_plain.Goals as goal

pub returns-then-not-is_empty : goal.returns-then-not-is_empty
returns-then-not-is_empty c =
    let some : vec_len c.args.disjunction.now.more ≡ 0 → ⊥ = search rules in
    sym (more_conjunctions next_conjunction_of (conjunction_of c.args.disjunction.now.first) c.args.disjunction.now.more.items (λ h. some (omega (arith, h, c.args.disjunction.now.more.ok.0))))

pub returns : goal.returns
returns c =
    let z : vec_len c.args.disjunction.now.more ≡ 0 = search rules in
    c.is_only_equation.ensures ∙ sym (only_conjunction next_conjunction_of (conjunction_of c.args.disjunction.now.first) c.args.disjunction.now.more.items (omega (arith, z, c.args.disjunction.now.more.ok.0)))
