-- Whether a term stands at a place of the ground terms, where the terms at other places stand for its indices from 0 on; computed
-- on the entries alone.
use Rattle.std.specs.Prelude.{ℕ, Bool, true, false, ◌&&◌, List, [], ◌∷◌, Option, Some, None, slice_get, nat_eq}
use lib.Pointwise.{pointwise}
use Rattle.mz_logic.specs.declared.sym.Sym.{Sym}
use Rattle.mz_logic.specs.Sym.{same_sym}
use Rattle.mz_logic.specs.Term.{Term, Terms, Bound, Const, App, none, more}
use Rattle.mz_ground.specs.declared.ground_term.GroundTerm.{GroundTerm}
use Rattle.mz_ground.specs.declared.ground_term.GroundTerm.TheVariants as entry
use Rattle.mz_ground.specs.declared.ground_atom.GroundAtom.{GroundAtom}

abbrev pub is_same_place : ℕ → Option ℕ → Bool
is_same_place i None = false
is_same_place i (Some k) = nat_eq k i

abbrev pub is_constant : ℕ → Option GroundTerm → Bool
is_constant m None = false
is_constant m (Some (entry.Const n)) = nat_eq m n
is_constant m (Some (entry.App r ks)) = false

abbrev pub has_symbol : Sym → Option GroundTerm → Bool
has_symbol s None = false
has_symbol s (Some (entry.Const n)) = false
has_symbol s (Some (entry.App r ks)) = same_sym s r

abbrev pub entry_args : Option GroundTerm → List ℕ
entry_args None = []
entry_args (Some (entry.Const n)) = []
entry_args (Some (entry.App r ks)) = ks

abbrev mutual
  pub is_instance_at : List GroundTerm → List ℕ → Term → ℕ → Bool
  is_instance_at es args (Bound n) i = is_same_place i (slice_get args n)
  is_instance_at es args (Const m) i = is_constant m (slice_get es i)
  is_instance_at es args (App s us) i = has_symbol s (slice_get es i) && args_are_instances_at es args us (entry_args (slice_get es i))

  pub args_are_instances_at : List GroundTerm → List ℕ → Terms → List ℕ → Bool
  args_are_instances_at es args none [] = true
  args_are_instances_at es args none (k ∷ ks) = false
  args_are_instances_at es args (more u us) [] = false
  args_are_instances_at es args (more u us) (k ∷ ks) = is_instance_at es args u k && args_are_instances_at es args us ks

-- the terms stand at the places one by one
abbrev pub are_instances_at : List GroundTerm → List ℕ → List Term → List ℕ → Bool
are_instances_at es args us ks = pointwise (is_instance_at es args) us ks

-- the entry is the atom
abbrev pub is_atom_instance : List GroundTerm → List ℕ → Sym → List Term → GroundAtom → Bool
is_atom_instance es args s us a = same_sym a.sym s && are_instances_at es args us a.args
