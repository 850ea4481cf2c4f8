-- Reasonings are larger than the steps and the cases in them.
use Rattle.std.proofs.Common.{◌≡◌, ◌<◌, ◌+◌, ℕ, zero, suc, List, [], ◌∷◌, length, get_or, sym, subst, arith}
use Rattle.mz_tree_proof.specs.Reasoning.{StepData, SupposeData, step_size, suppose_size, step_sizes, suppose_sizes}

step_within : (ts : List StepData) (i : ℕ) (t : StepData) → i < length ts → step_size (get_or ts i t) < step_sizes ts
step_within [] i t h = absurd (omega (arith, h))
step_within (u ∷ ts) zero t h = omega arith
step_within (u ∷ ts) (suc i) t h = omega (arith, step_within ts i t (omega (arith, h)))

pub step_smaller : (ts all : List StepData) (i : ℕ) (t : StepData) → ts ≡ all → i < length ts → t ≡ get_or ts i t → step_size t < step_sizes all
step_smaller ts all i t es lt et = subst (λ us. step_size t < step_sizes us) es (subst (λ u. step_size u < step_sizes ts) (sym et) (step_within ts i t lt))

pub first_smaller : (t : SupposeData) (ts : List SupposeData) → suppose_size t < suppose_size t + suppose_sizes ts
first_smaller t [] = omega arith
first_smaller t (u ∷ ts) = omega arith
