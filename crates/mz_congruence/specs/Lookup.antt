-- What look-ups in a ground part find, where the terms at places stand for the indices from 0 on.
use Rattle.std.specs.Prelude.{◌≡◌, ◌<◌, ℕ, true, false, List, map, length, Option, None, Some, slice_get, MatchOption}
use Rattle.mz_logic.specs.declared.sym.Sym.{Sym}
use Rattle.mz_logic.specs.Term.{Term}
use Rattle.mz_logic.specs.declared.disjunct.Disjunct.{Disjunct}
use Rattle.mz_ground.specs.Hash.{hash_with_all, term_hash, atom_hash}
use Rattle.mz_logic.specs.Substitution.{substitute, value_at}
use Rattle.mz_ground.specs.Ground.{IsGround}
use Rattle.mz_ground.specs.declared.clause.Clause.{Clause}
use Rattle.mz_ground.specs.declared.ground_part.Ground.{Ground}
use Rattle.mz_ground.specs.declared.ground_term.GroundTerm.{GroundTerm}
use Rattle.mz_ground.specs.declared.ground_atom.GroundAtom.{GroundAtom}
use Rattle.mz_ground.specs.declared.ground_equation.GroundEquation.{GroundEquation}
use Rattle.mz_congruence.specs.Codes.{IsTermPlace, IsAtomPlace, IsEquationPlace}
use Rattle.mz_congruence.specs.Pairing.{AllWithin, terms_at}
use Rattle.mz_congruence.specs.InstanceAt.{is_instance_at, is_atom_instance}

-- the place is that of the term; where there is none, the term isn't ground
abbrev pub IsTermFound : Ground → Term → Option ℕ → Type 0
IsTermFound g t None = (k : ℕ) → IsTermPlace g k t → ⊥
IsTermFound g t (Some k) = IsTermPlace g k t

abbrev pub IsAtomFound : Ground → Sym → List Term → Option ℕ → Type 0
IsAtomFound g s ts None = (k : ℕ) → IsAtomPlace g k s ts → ⊥
IsAtomFound g s ts (Some k) = IsAtomPlace g k s ts

abbrev pub IsEquationFound : Ground → Term → Term → Option ℕ → Type 0
IsEquationFound g t u None = (k : ℕ) (e : GroundEquation) → IsEquationPlace g k e t u → ⊥
IsEquationFound g t u (Some k) = (e : GroundEquation) × IsEquationPlace g k e t u

-- the hash with the places of the terms taken into it; where there is none, one of them isn't ground
abbrev pub IsHashFound : Ground → List Term → ℕ → Option ℕ → Type 0
IsHashFound g ts start None = (ks : List ℕ) → AllWithin g ks → terms_at g ks ≡ ts → ⊥
IsHashFound g ts start (Some hash) = (ks : List ℕ) → AllWithin g ks → terms_at g ks ≡ ts → hash_with_all start ks ≡ hash

-- the same where g is a ground part, of the terms with those at the places for their indices
unfoldable pub FindsTerm : Ground → List ℕ → Term → Option ℕ → Type 0
FindsTerm g args t r = (d : Disjunct) (cs : List Clause) → IsGround d cs g → AllWithin g args → IsTermFound g (substitute 0 (value_at (terms_at g args)) t) r

unfoldable pub FindsHash : Ground → List ℕ → List Term → ℕ → Option ℕ → Type 0
FindsHash g args us start r = (d : Disjunct) (cs : List Clause) → IsGround d cs g → AllWithin g args → IsHashFound g (map (substitute 0 (value_at (terms_at g args))) us) start r

unfoldable pub FindsAtom : Ground → List ℕ → Sym → List Term → Option ℕ → Type 0
FindsAtom g args s us r = (d : Disjunct) (cs : List Clause) → IsGround d cs g → AllWithin g args → IsAtomFound g s (map (substitute 0 (value_at (terms_at g args))) us) r

unfoldable pub FindsEquation : Ground → List ℕ → Term → Term → Option ℕ → Type 0
FindsEquation g args t u r = (d : Disjunct) (cs : List Clause) → IsGround d cs g → AllWithin g args → IsEquationFound g (substitute 0 (value_at (terms_at g args)) t) (substitute 0 (value_at (terms_at g args)) u) r

-- a place where the term stands; where there is none, it stands at no place of an entry with the hash
abbrev pub IsHashedTerm : Ground → List ℕ → Term → ℕ → Option ℕ → Type 0
IsHashedTerm g args t hash r = MatchOption r ((k : ℕ) (item : GroundTerm) → slice_get g.terms k ≡ Some item → term_hash item ≡ hash → is_instance_at g.terms args t k ≡ false) (λ k. (k < length g.terms) × (is_instance_at g.terms args t k ≡ true))

abbrev pub IsHashedAtom : Ground → List ℕ → Sym → List Term → ℕ → Option ℕ → Type 0
IsHashedAtom g args s us hash r = MatchOption r ((k : ℕ) (a : GroundAtom) → slice_get g.atoms k ≡ Some a → atom_hash a ≡ hash → is_atom_instance g.terms args s us a ≡ false) (λ k. (a : GroundAtom) × (slice_get g.atoms k ≡ Some a) × (is_atom_instance g.terms args s us a ≡ true))
