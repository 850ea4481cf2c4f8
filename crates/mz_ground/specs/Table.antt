-- Lists of ground terms by the places of their arguments, and how they grow.
use Rattle.std.specs.Prelude.{◌≡◌, ◌<◌, ◌⊎◌, ℕ, true, false, List, [], ◌∷◌, ◌++◌, length, map, Contains, Option, None, Some, slice_get}
use Rattle.std.specs.List.{list_all}
use Rattle.mz_logic.specs.declared.sym.Sym.{Sym}
use Rattle.mz_logic.specs.Term.{Term}
use Rattle.mz_logic.specs.Indices.{closed}
use Rattle.mz_ground.specs.GroundExpression.{IsWithin}
use Rattle.mz_logic.specs.Substitution.{substitute, value_at}
use Rattle.mz_ground.specs.Ground.{term_at, terms_after, IsDistinct}
use Rattle.mz_ground.specs.declared.ground_term.GroundTerm.{GroundTerm}
use Rattle.mz_ground.specs.declared.ground_term.GroundTerm.TheVariants.{App}

-- ys begins with xs
abbrev pub Extends : {A : Type 0} → List A → List A → Type 0
Extends {A} xs ys = (zs : List A) × (ys ≡ xs ++ zs)

-- the new list has the item at the place: it is the old one, or the item was put at its end, where the old one lacked it
pub record IsPlaced {A : Type 0} (old : List A) (item : A) (new : List A) (place : ℕ) : Type 0 where
  pub found : slice_get new place ≡ Some item
  pub grown : (new ≡ old) ⊎ ((new ≡ old ++ item ∷ []) × ((k : ℕ) → slice_get old k ≡ Some item → ⊥))

-- the terms of the entries
abbrev pub entry_terms : List GroundTerm → List Term
entry_terms es = terms_after [] es

-- an argument of an entry stands before it, and no two entries have one term
pub record IsTable (es : List GroundTerm) : Type 0 where
  pub earlier : (i k : ℕ) (sym : Sym) (args : List ℕ) → slice_get es i ≡ Some (App sym args) → Contains args k → k < i
  pub distinct : IsDistinct (entry_terms es)

-- the places are those of the terms
pub record Reads (es : List GroundTerm) (places : List ℕ) (ts : List Term) : Type 0 where
  pub table : IsTable es
  pub within : (k : ℕ) → Contains places k → k < length es
  pub terms : map (term_at (entry_terms es)) places ≡ ts

-- u stands within one of the terms and has no index
pub record IsPart (ts : List Term) (u : Term) : Type 0 where
  pub outer : Term
  pub among : Contains ts outer
  pub within : IsWithin u outer
  pub is_closed : closed u ≡ true

-- the entries after the closed terms within the terms were put among them
pub record AddedTerms (es : List GroundTerm) (ts : List Term) (fs : List GroundTerm) : Type 0 where
  pub table : IsTable fs
  pub grown : Extends es fs
  pub sound : (u : Term) → Contains (entry_terms fs) u → Contains (entry_terms es) u ⊎ IsPart ts u
  pub complete : (u : Term) → IsPart ts u → Contains (entry_terms fs) u

-- the place is that of the term; there is none where the term has an index
abbrev pub IsFound : List GroundTerm → Term → Option ℕ → Type 0
IsFound es t None = closed t ≡ false
IsFound es t (Some place) = (place < length es) × (term_at (entry_terms es) place ≡ t)

abbrev pub EachFound : List GroundTerm → List Term → List (Option ℕ) → Type 0
EachFound es [] [] = Unit {0}
EachFound es [] (o ∷ os) = ⊥
EachFound es (t ∷ ts) [] = ⊥
EachFound es (t ∷ ts) (o ∷ os) = IsFound es t o × EachFound es ts os

-- the places are those of the terms; there are none where one of them has an index
abbrev pub AreFound : List GroundTerm → List Term → Option (List ℕ) → Type 0
AreFound es ts None = list_all closed ts ≡ false
AreFound es ts (Some places) = ((k : ℕ) → Contains places k → k < length es) × (map (term_at (entry_terms es)) places ≡ ts)

-- the closed terms within the term, with the terms at the places for its indices, are put among the entries
pub record AddsTerm (es : List GroundTerm) (ts : List Term) (t : Term) (place : Option ℕ) (fs : List GroundTerm) : Type 0 where
  pub added : AddedTerms es (substitute 0 (value_at ts) t ∷ []) fs
  pub found : IsFound fs (substitute 0 (value_at ts) t) place

pub record AddsEach (es : List GroundTerm) (ts us : List Term) (places : List (Option ℕ)) (fs : List GroundTerm) : Type 0 where
  pub added : AddedTerms es (map (substitute 0 (value_at ts)) us) fs
  pub found : EachFound fs (map (substitute 0 (value_at ts)) us) places

pub record AddsTerms (es : List GroundTerm) (ts us : List Term) (places : Option (List ℕ)) (fs : List GroundTerm) : Type 0 where
  pub added : AddedTerms es (map (substitute 0 (value_at ts)) us) fs
  pub found : AreFound fs (map (substitute 0 (value_at ts)) us) places
