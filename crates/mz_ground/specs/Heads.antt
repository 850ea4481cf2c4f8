-- Places of ground terms and atoms by the hashes of their heads.
use Rattle.std.specs.Prelude.{◌≡◌, ◌<◌, ◌≤◌, ◌%◌, ℕ, List, [], length, Contains, Option, None, Some, slice_get}
use Rattle.mz_logic.specs.Term as term
use Rattle.mz_logic.specs.Term.{Bound}
use Rattle.mz_ground.specs.Hash.{hash_with, hash_with_symbol}
use Rattle.mz_ground.specs.declared.trigger.Trigger.{Trigger}
use Rattle.mz_ground.specs.declared.trigger.Trigger.TheVariants.{Term, Atom}
use Rattle.mz_ground.specs.declared.ground_part.Ground.{Ground}
use Rattle.mz_ground.specs.declared.ground_term.GroundTerm.{GroundTerm}
use Rattle.mz_ground.specs.declared.ground_term.GroundTerm.TheVariants.{Const, App}
use Rattle.mz_ground.specs.declared.ground_atom.GroundAtom.{GroundAtom}
use Rattle.mz_ground.specs.declared.trigger_places.TriggerPlaces.{TriggerPlaces}

-- the hash of a term's head, and of an atom's symbol
abbrev pub head_hash : GroundTerm → ℕ
head_hash (Const number) = hash_with 0 number
head_hash (App sym args) = hash_with_symbol 1 sym

abbrev pub symbol_hash : GroundAtom → ℕ
symbol_hash a = hash_with_symbol 0 a.sym

abbrev pub list_or_none : Option (List ℕ) → List ℕ
list_or_none None = []
list_or_none (Some ks) = ks

-- the list at a number, and the empty one where there is none
abbrev pub list_at : List (List ℕ) → ℕ → List ℕ
list_at lists n = list_or_none (slice_get lists n)

-- the list of a hash
abbrev pub places_of : List (List ℕ) → ℕ → List ℕ
places_of lists hash = list_at lists (hash % length lists)

-- each place from m on and below n stands in the list of its item's hash, and the lists have no other places
pub record AreByHash {A : Type 0} (hash_of : A → ℕ) (items : List A) (m n : ℕ) (lists : List (List ℕ)) : Type 0 where
  pub some : 0 < length lists
  pub listed : (k : ℕ) (item : A) → m ≤ k → k < n → slice_get items k ≡ Some item → Contains (places_of lists (hash_of item)) k
  pub only : (hash k : ℕ) → Contains (places_of lists hash) k → (m ≤ k) × (k < n)

-- the list has the places from m on and below n
pub record AreFrom (m n : ℕ) (ks : List ℕ) : Type 0 where
  pub listed : (k : ℕ) → m ≤ k → k < n → Contains ks k
  pub only : (k : ℕ) → Contains ks k → (m ≤ k) × (k < n)

-- the places of the terms and atoms that stand behind the one end of layers and before the other
pub record AreTriggerPlaces (g : Ground) (x : TriggerPlaces) : Type 0 where
  pub all : AreFrom x.start.terms x.end.terms x.all
  pub terms : AreByHash head_hash g.terms x.start.terms x.end.terms x.terms
  pub atoms : AreByHash symbol_hash g.atoms x.start.atoms x.end.atoms x.atoms

-- those where the term, with terms in place of its indices, may stand
abbrev pub term_candidates : TriggerPlaces → term.Term → List ℕ
term_candidates x (Bound index) = x.all
term_candidates x (term.Const number) = places_of x.terms (hash_with 0 number)
term_candidates x (term.App s us) = places_of x.terms (hash_with_symbol 1 s)

-- those where the trigger may stand
abbrev pub candidates : TriggerPlaces → Trigger → List ℕ
candidates x (Term t) = term_candidates x t
candidates x (Atom s us) = places_of x.atoms (hash_with_symbol 0 s)
