-- A kind is known by its number.
use Rattle.std.proofs.Common.{◌≡◌, sym, ap, ◌∙◌}
use Rattle.mz_logic.specs.Sym.{kind_number}
use Rattle.mz_logic.specs.SymStorage.{kind_at, kind_at-kind_number}
use Rattle.mz_logic.specs.declared.kind.Kind.{Kind}

pub kind_number-inj : (j k : Kind) → kind_number j ≡ kind_number k → j ≡ k
kind_number-inj j k e = sym (kind_at-kind_number j) ∙ ap kind_at e ∙ kind_at-kind_number k

pub ruleset sym_rules = (kind_number-inj)
