-- Ground terms for all variables at once, and one after the other.
use Rattle.std.specs.Prelude.{◌-◌}
use Rattle.std.proofs.Common.{◌≡◌, ◌<◌, ◌≤◌, ◌+◌, ℕ, List, map, length, refl, arith, ap, true, get_or}
use Rattle.std.specs.List.{list_all}
use Rattle.mz_logic.specs.Term as term
use Rattle.mz_logic.specs.Term.{Term, Terms, Bound, terms_of, list_of}
use Rattle.mz_logic.specs.Formula.{Formula}
use Rattle.mz_logic.specs.Indices.{closed}
use Rattle.mz_logic.specs.Substitution.{substitute, substitute_args, substitute_formula, value_at}
use Rattle.mz_logic.proofs.SubstitutionLaws.{substitute_args-terms_of, substitute-inside, substitute-closed}
use Rattle.mz_logic.proofs.ValueLaws.{substitute-at, substitute-lowered}

-- the terms for the indices from `depth` on
abbrev pub at_term : ℕ → List Term → Term → Term
at_term depth ts u = substitute depth (value_at ts) u

abbrev pub at_args : ℕ → List Term → Terms → Terms
at_args depth ts us = substitute_args depth (value_at ts) us

abbrev pub at_formula : ℕ → List Term → Formula → Formula
at_formula depth ts f = substitute_formula depth (value_at ts) f

-- what has no index stays
pub at_closed : (depth : ℕ) (ts : List Term) (u : Term) → closed u ≡ true → at_term depth ts u ≡ u
at_closed depth ts u h = substitute-closed depth (value_at ts) u h

pub at_list : (depth : ℕ) (ts : List Term) (us : Terms) → at_args depth ts us ≡ terms_of (map (at_term depth ts) (list_of us))
at_list depth ts term.none = refl
at_list depth ts (term.more u us) = ap (λ vs. term.more (at_term depth ts u) vs) (at_list depth ts us)

pub at_map : (depth : ℕ) (ts us : List Term) → at_args depth ts (terms_of us) ≡ terms_of (map (at_term depth ts) us)
at_map depth ts us = substitute_args-terms_of depth (value_at ts) us

-- an index at terms
pub at_inner : (depth : ℕ) (ts : List Term) (n : ℕ) → n < depth → at_term depth ts (Bound n) ≡ Bound n
at_inner depth ts n h = substitute-inside depth (value_at ts) n h

pub at_outer : (depth : ℕ) (ts : List Term) (n : ℕ) → list_all closed ts ≡ true → depth ≤ n → at_term depth ts (Bound n) ≡ get_or ts (n - depth) (Bound (n - length ts))
at_outer depth ts n c h = substitute-at depth ts n c h

pub at_free : (depth : ℕ) (ts : List Term) (n : ℕ) → depth + length ts ≤ n → at_term depth ts (Bound n) ≡ Bound (n - length ts)
at_free depth ts n h = substitute-lowered depth ts n (omega arith) (omega arith)
