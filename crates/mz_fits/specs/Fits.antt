-- What fits by typing clauses, where constants are in force.
use Rattle.std.specs.Prelude.{◌≡◌, ◌≤◌, ℕ, true, List, [], ◌∷◌, Option}
use Rattle.mz_logic.specs.Term.{Term}
use Rattle.mz_logic.specs.Formula.{All}
use Rattle.mz_logic.specs.Literal.{literal_formula}
use Rattle.mz_logic.specs.Substitution.{value_at}
use Rattle.mz_logic.specs.declared.literal.Literal.{Literal}
use Rattle.mz_logic.specs.declared.literal.Literal.TheVariants.{Eq}
use Rattle.mz_logic.specs.declared.disjunct.Disjunct.{Disjunct}
use Rattle.mz_core.specs.Guard.{guard_literals}
use Rattle.mz_core.specs.TypeSubstitution.{substitute_type}
use Rattle.mz_core.specs.declared.soft_type.SoftType.{SoftType}
use Rattle.mz_context.specs.declared.constants.Constant.{Constant}
use Rattle.mz_context.specs.Gather.{gathered}
use Rattle.mz_ground.specs.Layers.{further_layers}
use Rattle.mz_ground.specs.Ground.{IsWithinTerms, IsWithinAtoms}
use Rattle.mz_ground.specs.Facts.{Fact}
use Rattle.mz_ground.specs.declared.clause.Clause.{Clause}

-- what is known of the constants that occur in the literal, and one universal, whose body is the literal: so the
-- literal's terms and its atom or equation stand in the ground part, and are no facts by that
abbrev pub question : List (Option Constant) → Literal → Disjunct
question ks l = record { literals = gathered ks l; universals = All (literal_formula l) ∷ [] }

-- each layer of the ground part keeps both limits
abbrev pub KeepsLimits : Disjunct → List Clause → Type 0
KeepsLimits d cs = (n : ℕ) → n ≤ further_layers → IsWithinTerms d cs n × IsWithinAtoms d cs n

-- the literal is a fact of the disjunct, whose ground part keeps the limits
pub record IsFactWithin (d : Disjunct) (cs : List Clause) (l : Literal) : Type 0 where
  pub keeps : KeepsLimits d cs
  pub fact : Fact d cs l

-- the literal is among the facts of what is known
abbrev pub LiteralFits : List Clause → List (Option Constant) → Literal → Type 0
LiteralFits cs ks l = IsFactWithin (question ks l) cs l

-- each of the literals fits
pub data AllFit (cs : List Clause) (ks : List (Option Constant)) : List Literal → Type 0 where
  none_left : AllFit cs ks []
  and_fits : (l : Literal) (ls : List Literal) → LiteralFits cs ks l → AllFit cs ks ls → AllFit cs ks (l ∷ ls)

-- each literal of the type's guard at the term fits
unfoldable pub TypeFits : List Clause → List (Option Constant) → Term → SoftType → Type 0
TypeFits cs ks t ty = AllFit cs ks (guard_literals ty t)

-- the terms are the same, or equal by the facts
pub data AreEqualBy (cs : List Clause) (ks : List (Option Constant)) (t u : Term) : Type 0 where
  the_same : t ≡ u → AreEqualBy cs ks t u
  by_facts : LiteralFits cs ks (Eq true t u) → AreEqualBy cs ks t u

-- a type that stands under others, at values for these, the innermost first
abbrev pub type_at : List Term → SoftType → SoftType
type_at values ty = substitute_type 0 (value_at values) ty

-- the values fit the types of the loci, in the order of the loci; each type stands under the loci before it, whose
-- values are `before`, the innermost first
pub data LociFit (cs : List Clause) (ks : List (Option Constant)) : List Term → List SoftType → List Term → Type 0 where
  no_loci : (before : List Term) → LociFit cs ks before [] []
  and_locus : (before : List Term) (ty : SoftType) (tys : List SoftType) (t : Term) (ts : List Term) →
      TypeFits cs ks t (type_at before ty) → LociFit cs ks (t ∷ before) tys ts → LociFit cs ks before (ty ∷ tys) (t ∷ ts)
