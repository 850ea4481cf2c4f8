-- What is known of constants, and of those that occur in that.
use Rattle.std.specs.Prelude.{ℕ, zero, suc, Bool, true, false, ◌&&◌, ◌||◌, not, if◌then◌else◌, nat_eq, List, [], ◌∷◌, ◌++◌, flat_map, Option, Some, None}
use Rattle.std.specs.List.{list_any}
use Rattle.mz_logic.specs.Term.{Term, Const}
use Rattle.mz_logic.specs.Constants.{occurs}
use Rattle.mz_logic.specs.declared.literal.Literal.{Literal}
use Rattle.mz_logic.specs.declared.literal.Literal.TheVariants.{Atom, Eq}
use Rattle.mz_core.specs.Guard.{guard_literals}
use Rattle.mz_core.specs.declared.adjective.Adjective.{Adjective}
use Rattle.mz_core.specs.declared.soft_type.SoftType.{SoftType}
use Rattle.mz_context.specs.declared.constants.Constant.{Constant}
use Rattle.mz_context.specs.Context.{numbered, numbers}

-- the constant c occurs
abbrev pub occurs_in_adjective : ℕ → Adjective → Bool
occurs_in_adjective c a = list_any (occurs c) a.args

abbrev pub occurs_in_type : ℕ → SoftType → Bool
occurs_in_type c ty = list_any (occurs c) ty.radix.args || list_any (occurs_in_adjective c) ty.adjectives

abbrev pub occurs_if_any : ℕ → Option Term → Bool
occurs_if_any c None = false
occurs_if_any c (Some t) = occurs c t

abbrev pub has_constant : Literal → ℕ → Bool
has_constant (Atom positive s ts) c = list_any (occurs c) ts
has_constant (Eq positive t u) c = occurs c t || occurs c u

-- it occurs in the type or the equal term
abbrev pub occurs_in_known : ℕ → Option Constant → Bool
occurs_in_known c None = false
occurs_in_known c (Some k) = occurs_in_type c k.ty || occurs_if_any c k.equal

-- c occurs in what is known of d
abbrev pub occurs_in_constant : List (Option Constant) → ℕ → ℕ → Bool
occurs_in_constant ks c d = occurs_in_known c (numbered ks d)

-- the defining equation of the constant n, if it has one
abbrev pub equation_if_any : ℕ → Option Term → List Literal
equation_if_any n None = []
equation_if_any n (Some t) = Eq true (Const n) t ∷ []

-- what is known of the constant n: its guard and its defining equation
abbrev pub known_of : ℕ → Option Constant → List Literal
known_of n None = []
known_of n (Some k) = guard_literals k.ty (Const n) ++ equation_if_any n k.equal

abbrev pub known : List (Option Constant) → ℕ → List Literal
known ks n = known_of n (numbered ks n)

-- the numbers below n that pass the test, in order
abbrev pub below : (ℕ → Bool) → ℕ → List ℕ
below p zero = []
below p (suc n) = below p n ++ (if p n then n ∷ [] else [])

-- the constant is none of those met before, and occurs in what is known of one of the last ones
abbrev pub is_new : List (Option Constant) → List ℕ → List ℕ → ℕ → Bool
is_new ks met last c = not (list_any (nat_eq c) met) && list_any (occurs_in_constant ks c) last

-- the last constants met, and then those of so many further rounds: in each the new ones, in order
abbrev pub rounds : ℕ → List (Option Constant) → List ℕ → List ℕ → List ℕ
rounds zero ks met last = last
rounds (suc n) ks met last = last ++ rounds n ks (met ++ last) (below (is_new ks (met ++ last) last) (numbers ks))

-- these constants, and those that occur in what is known of them, round by round until none is new: there are no more
-- rounds with a new one than numbers
abbrev pub reached : List (Option Constant) → List ℕ → List ℕ
reached ks first = rounds (numbers ks) ks [] first

-- what is known of constants, one after another
abbrev pub known_of_all : List (Option Constant) → List ℕ → List Literal
known_of_all ks ns = flat_map (known ks) ns

-- the constants that occur in the literal
abbrev pub constants_of : List (Option Constant) → Literal → List ℕ
constants_of ks l = below (has_constant l) (numbers ks)

-- what is known of the constants that occur in the literal, and of those that occur in that
abbrev pub gathered : List (Option Constant) → Literal → List Literal
gathered ks l = known_of_all ks (reached ks (constants_of ks l))
