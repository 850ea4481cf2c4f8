-- An index at one term, by cases.
use Rattle.std.proofs.Common.{◌≡◌, ◌<◌, ℕ, ◌-◌}
use Rattle.mz_logic.specs.Term.{Term, Bound}
use Rattle.mz_logic.specs.Substitution.{shift, substitute}
use Rattle.mz_logic.specs.BodyTest.{at_one}
use Rattle.mz_logic.proofs.SubstitutionLaws.{substitute-inside}
use Rattle.mz_logic.proofs.ValueLaws.{substitute-one_equal, substitute-one_above}

pub at_one-inside : (depth : ℕ) (t : Term) (index : ℕ) → index < depth → substitute depth (at_one t) (Bound index) ≡ Bound index
at_one-inside depth t index lt = substitute-inside depth (at_one t) index lt

pub at_one-equal : (depth : ℕ) (t : Term) (index : ℕ) → index ≡ depth → substitute depth (at_one t) (Bound index) ≡ shift 0 depth t
unfolding at_one
at_one-equal depth t index e = substitute-one_equal depth t index e

pub at_one-above : (depth : ℕ) (t : Term) (index : ℕ) → depth < index → substitute depth (at_one t) (Bound index) ≡ Bound (index - 1)
unfolding at_one
at_one-above depth t index lt = substitute-one_above depth t index lt

pub ruleset one_rules = (at_one-inside, at_one-equal, at_one-above)
