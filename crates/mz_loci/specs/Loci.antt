-- The loci of a block of definitions, notations or registrations, and what stands under them.
use Rattle.std.specs.Prelude.{◌+◌, ◌-◌, ℕ, zero, suc, Bool, true, false, ◌&&◌, ◌||◌, nat_eq, List, [], ◌∷◌, drop, take, Option, Some, None}
use Rattle.std.specs.List.{list_any}
use Rattle.mz_logic.specs.Term.{Term, Const}
use Rattle.mz_logic.specs.Substitution.{value_at}
use Rattle.mz_core.specs.Abstraction.{type_over, statement_over}
use Rattle.mz_core.specs.Hidden.{object_type}
use Rattle.mz_core.specs.Statement.{Statement}
use Rattle.mz_core.specs.TypeSubstitution.{substitute_statement}
use Rattle.mz_core.specs.declared.soft_type.SoftType.{SoftType}
use Rattle.mz_context.specs.Gather.{occurs_in_type}
use Rattle.mz_context.specs.declared.constants.Constant.{Constant}
use Rattle.mz_context.specs.declared.context.Context.{Context}
use Rattle.mz_names.specs.Names.{number_of}

-- the loci of a block at whose word the next constant had the number `least`: the constants that came into force since
abbrev pub loci_from : ℕ → List (Option Constant) → List (Option Constant)
loci_from least ks = drop (least - 1) ks

-- the type of a locus; `object` at a place without one
abbrev pub type_of_locus : Option Constant → SoftType
type_of_locus None = object_type
type_of_locus (Some k) = k.ty

-- a type, and a statement, that was read with so many loci, the constants from `least` on, as it stands under them: each locus is an
-- index there, the last one the innermost
abbrev pub type_over_loci : ℕ → ℕ → SoftType → SoftType
type_over_loci least zero ty = ty
type_over_loci least (suc k) ty = type_over (least + k) 0 (type_over_loci least k ty)

abbrev pub statement_over_loci : ℕ → ℕ → Statement → Statement
statement_over_loci least zero s = s
statement_over_loci least (suc k) s = statement_over (least + k) 0 (statement_over_loci least k s)

-- the types of loci, each under those before it, of which there are `before`
abbrev pub types_behind : ℕ → ℕ → List (Option Constant) → List SoftType
types_behind least before [] = []
types_behind least before (o ∷ os) = type_over_loci least before (type_of_locus o) ∷ types_behind least (suc before) os

abbrev pub locus_types : ℕ → List (Option Constant) → List SoftType
locus_types least ks = types_behind least zero ks

-- so many loci as constants, the last one first, as indices count them
abbrev pub locus_constants : ℕ → ℕ → List Term
locus_constants least zero = []
locus_constants least (suc k) = Const (least + k) ∷ locus_constants least k

-- a statement under so many loci, where these are constants
abbrev pub statement_at_loci : ℕ → ℕ → Statement → Statement
statement_at_loci least count s = substitute_statement 0 (value_at (locus_constants least count)) s

-- the place, from 0, of the latest locus with the name, where there is one
abbrev pub place_before : Option ℕ → Option ℕ
place_before None = None
place_before (Some n) = Some (n - 1)

abbrev pub locus_named : List (Option Constant) → List ℕ → Option ℕ
locus_named ks name = place_before (number_of name ks)

-- the constant c occurs in the type of the locus
abbrev pub occurs_in_locus : ℕ → Option Constant → Bool
occurs_in_locus c None = false
occurs_in_locus c (Some k) = occurs_in_type c k.ty

-- each of these loci, whose places begin with `place`, is one of the visible ones, or occurs in the type of a later one, of which the same
-- holds: so each hidden locus is in the type of a visible one, or of one that a visible one fixes
abbrev pub are_fixed : ℕ → List ℕ → ℕ → List (Option Constant) → Bool
are_fixed least visible place [] = true
are_fixed least visible place (o ∷ os) = (list_any (nat_eq place) visible || list_any (occurs_in_locus (least + place)) os) && are_fixed least visible (suc place) os

-- the context behind a block: its loci are out of force, what was labelled in it stays, and there is no statement just before
abbrev pub behind_loci : Context → ℕ → Context
behind_loci c least = record c { constants = take (least - 1) c.constants; previous = None }
