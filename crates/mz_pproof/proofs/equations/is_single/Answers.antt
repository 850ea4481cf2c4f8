use Rattle.std.specs.Prelude.{vec_len}
use Rattle.std.proofs.Common.{rules, ◌≡◌, sym, arith}
use Rattle.mz_tree.specs.Views.{next_term_of, term_of}
use Rattle.mz_pproof.proofs.PlainEquations.{single_if, several_if}
use Rattle.mz_pproof.proofs.equations.is_single.Goals as goal

pub returns-then-not-is_empty : goal.returns-then-not-is_empty
returns-then-not-is_empty c =
    let some : vec_len c.args.terms.now.more ≡ 0 → ⊥ = search rules in
    sym (several_if next_term_of (term_of c.args.terms.now.first) c.args.terms.now.more.items (λ h. some (omega (arith, h, c.args.terms.now.more.ok.0))))

pub returns : goal.returns
returns c =
    let z : vec_len c.args.terms.now.more ≡ 0 = search rules in
    sym (single_if next_term_of (term_of c.args.terms.now.first) c.args.terms.now.more.items (omega (arith, z, c.args.terms.now.more.ok.0)))
