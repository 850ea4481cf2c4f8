-- Numbers of ground terms and atoms: layer by layer, and within a layer in the order derived from the declarations of terms
-- and symbols.
use Rattle.std.specs.Prelude.{ℕ, zero, suc, List, [], ◌∷◌, map, length, Option, None, Some, slice_get, nat_lt, if◌then◌else◌, IsPermutation}
use Rattle.std.specs.declared.cmp.Ordering.{Ordering}
use Rattle.std.specs.declared.cmp.Ordering.TheVariants.{Less, Equal, Greater}
use Rattle.std.specs.Ordering.{nat_cmp, on, ordering_then, then_cmp, is_lt}
use Rattle.std.specs.List.Sorted.{IsSortedBy}
use Rattle.mz_logic.specs.Order.{sym_cmp, term_cmp, terms_cmp}
use Rattle.mz_logic.specs.Term.{Term}
use Rattle.mz_ground.specs.Ground.{term_at, ground_terms}
use Rattle.mz_ground.specs.declared.ground_part.Ground.{Ground}
use Rattle.mz_ground.specs.declared.ground_atom.GroundAtom.{GroundAtom}
use Rattle.mz_ground.specs.declared.layer_ends.LayerEnd.{LayerEnd}
use Rattle.mz_numbering.specs.declared.numbering.Numbering.{Numbering}

-- how many layers end before the place, where the ends of the layers are given
abbrev pub layer_of : List ℕ → ℕ → ℕ
layer_of [] place = 0
layer_of (end ∷ ends) place = if nat_lt place end then 0 else suc (layer_of ends place)

abbrev pub terms_end : LayerEnd → ℕ
terms_end e = e.terms

abbrev pub atoms_end : LayerEnd → ℕ
atoms_end e = e.atoms

abbrev pub term_layer : Ground → ℕ → ℕ
term_layer g place = layer_of (map terms_end g.ends) place

abbrev pub atom_layer : Ground → ℕ → ℕ
atom_layer g place = layer_of (map atoms_end g.ends) place

abbrev pub term_at_place : Ground → ℕ → Term
term_at_place g place = term_at (ground_terms g) place

-- by the symbol, and then by the arguments
abbrev pub atom_cmp : Ground → GroundAtom → GroundAtom → Ordering
atom_cmp g a b = ordering_then (sym_cmp a.sym b.sym) (terms_cmp (map (term_at_place g) a.args) (map (term_at_place g) b.args))

abbrev pub option_atom_cmp : Ground → Option GroundAtom → Option GroundAtom → Ordering
option_atom_cmp g None None = Equal
option_atom_cmp g None (Some b) = Less
option_atom_cmp g (Some a) None = Greater
option_atom_cmp g (Some a) (Some b) = atom_cmp g a b

-- the order of the places of terms: by the layer, and then by the term; that of atoms likewise
unfoldable pub term_place_cmp : Ground → ℕ → ℕ → Ordering
term_place_cmp g = then_cmp (on (term_layer g) nat_cmp) (on (term_at_place g) term_cmp)

unfoldable pub atom_place_cmp : Ground → ℕ → ℕ → Ordering
atom_place_cmp g = then_cmp (on (atom_layer g) nat_cmp) (on (slice_get g.atoms) (option_atom_cmp g))

-- the numbers from start on, as many as count
abbrev pub numbers_from : ℕ → ℕ → List ℕ
numbers_from start zero = []
numbers_from start (suc count) = start ∷ numbers_from (suc start) count

-- the places below n, each once, in the order
pub record AreOrdered (cmp : ℕ → ℕ → Ordering) (n : ℕ) (places : List ℕ) : Type 0 where
  pub permutation : IsPermutation (numbers_from 0 n) places
  pub ascending : IsSortedBy (λ p q. is_lt (cmp p q)) places

-- the places of the terms and atoms in the order of their numbers
pub record IsNumbering (g : Ground) (n : Numbering) : Type 0 where
  pub terms : AreOrdered (term_place_cmp g) (length g.terms) n.terms.items
  pub atoms : AreOrdered (atom_place_cmp g) (length g.atoms) n.atoms.items
