use Rattle.std.specs.Prelude.{vec_len}
use Rattle.std.proofs.Common.{rules, ◌≡◌, sym, ap, ◌∙◌, arith}
use Rattle.mz_tree.specs.Views.{next_unit_of, unit_of}
use Rattle.mz_tree.proofs.Views.{conjunction_of-is}
use Rattle.mz_pproof.specs.Equations.{is_equation, is_only_equation}
use Rattle.mz_pproof.proofs.PlainEquations.{only_unit, more_units}
use Rattle.mz_pproof.proofs.equations.is_only_equation.Goals as goal

pub returns-then-not-is_empty : goal.returns-then-not-is_empty
returns-then-not-is_empty c =
    let some : vec_len c.args.conjunction.now.more ≡ 0 → ⊥ = search rules in
    sym (ap is_only_equation (conjunction_of-is c.args.conjunction.now) ∙ more_units next_unit_of (unit_of c.args.conjunction.now.first.value) c.args.conjunction.now.more.items (λ h. some (omega (arith, h, c.args.conjunction.now.more.ok.0))))

pub returns : goal.returns
returns c =
    let z : vec_len c.args.conjunction.now.more ≡ 0 = search rules in
    let same : c.deref.result.now ≡ c.args.conjunction.now.first.value = search rules in
    c.is_equation.ensures ∙ (ap (λ u. is_equation (unit_of u)) same ∙ sym (ap is_only_equation (conjunction_of-is c.args.conjunction.now) ∙ only_unit next_unit_of (unit_of c.args.conjunction.now.first.value) c.args.conjunction.now.more.items (omega (arith, z, c.args.conjunction.now.more.ok.0))))
