-- The chain of a term: radices that it has.
use Rattle.std.specs.Prelude.{◌≡◌, ◌≤◌, ◌<◌, ◌-◌, nat_le, if◌then◌else◌, ℕ, suc, Bool, true, false, List, [], ◌∷◌, ◌++◌, length, reverse, flat_map, Contains, Option, Some, None}
use Rattle.mz_logic.specs.declared.sym.Sym.{Sym}
use Rattle.mz_logic.specs.declared.kind.Kind.TheVariants as kind
use Rattle.mz_logic.specs.declared.kind.Kind.{Kind}
use Rattle.mz_logic.specs.Term.{Term, Bound, Const, App, terms_of}
use Rattle.mz_core.specs.Hidden.{object_mode, set_mode}
use Rattle.mz_core.specs.declared.radix.Radix.{Radix}
use Rattle.mz_context.specs.declared.constants.Constant.{Constant}
use Rattle.mz_context.specs.declared.context.Context.{Context}
use Rattle.mz_context.specs.declared.letters.NamedLetter.{NamedLetter}
use Rattle.mz_context.specs.Context.{constant_at}
use Rattle.mz_ground.specs.Instance.{args_nodes}
use Rattle.mz_environment.specs.Rows.{is_mode, letter_rows}
use Rattle.mz_environment.specs.declared.rows.Row.{Row}
use Rattle.mz_ground.specs.declared.clause.Clause.{Clause}
use Rattle.mz_environment.specs.declared.environment.Environment.{Environment}
use Rattle.mz_types.specs.RowTypes.{RowsAdd}
use Rattle.mz_types.specs.Structures.{FirstGives, AggregateGives, AncestorsGive}

abbrev pub most_radices : ℕ
most_radices = 256

abbrev pub most_nodes : ℕ
most_nodes = 65536

-- one for the radix, and one for each term in it
abbrev pub radix_nodes : Radix → ℕ
radix_nodes r = suc (args_nodes (terms_of r.args))

-- what is left of so many when n are taken, or none where n are more
abbrev pub left_of : ℕ → ℕ → Option ℕ
left_of n left = if nat_le n left then Some (left - n) else None

-- the radix stands in the chain already, or it has too many nodes, or the chain is full
pub data IsLeftOut (out : List Radix) (r : Radix) : Type 0 where
  there : Contains out r → IsLeftOut out r
  too_large : most_nodes < radix_nodes r → IsLeftOut out r
  full : most_radices ≤ length out → IsLeftOut out r

-- whether the symbols of this kind are structures
abbrev pub is_structure_kind : Kind → Bool
is_structure_kind kind.Mode = false
is_structure_kind kind.Structure = true
is_structure_kind kind.Attribute = false
is_structure_kind kind.Functor = false
is_structure_kind kind.Selector = false
is_structure_kind kind.Aggregate = false
is_structure_kind kind.Predicate = false
is_structure_kind kind.LetterFunctor = false
is_structure_kind kind.LetterPredicate = false

-- the parents of a radix, in the order in which they are taken: of a mode those that its redefinitions, the latest
-- first, and then its definition give; of a structure its ancestors
pub data Parents (cs : List Clause) (e : Environment) (c : Context) (r : Radix) : List Radix → Type 0 where
  of_mode : (xs : List Radix) → is_mode r.sym.kind ≡ true → RowsAdd cs c.constants r.sym r.args e.modes xs → Parents cs e c r (reverse xs)
  of_structure : (xs : List Radix) → is_structure_kind r.sym.kind ≡ true → AncestorsGive cs c.constants e.structures r xs → Parents cs e c r xs
  of_other : is_mode r.sym.kind ≡ false → is_structure_kind r.sym.kind ≡ false → Parents cs e c r []

-- a radix in its turn: its parents, and the chain behind it
pub data Visited (cs : List Clause) (e : Environment) (c : Context) (out : List Radix) (r : Radix) : List Radix → List Radix → Type 0 where
  left_out : IsLeftOut out r → Visited cs e c out r [] out
  taken : (xs : List Radix) → ¬ IsLeftOut out r → Parents cs e c r xs → Visited cs e c out r xs (out ++ r ∷ [])

-- radices in turn, each followed by its parents and what follows these, before the next one
pub data Walks (cs : List Clause) (e : Environment) (c : Context) : List Radix → List Radix → List Radix → Type 0 where
  walked : (out : List Radix) → Walks cs e c [] out out
  visits : (r : Radix) (todo xs out between end : List Radix) → Visited cs e c out r xs between → Walks cs e c (xs ++ todo) between end → Walks cs e c (r ∷ todo) out end

-- how every chain ends
abbrev pub plain : Sym → Radix
plain s = record { sym = s; args = [] }

abbrev pub chain_end : List Radix
chain_end = plain set_mode ∷ plain object_mode ∷ []

-- what a letter states, and what the letters in force do
abbrev pub rows_of_letter : NamedLetter → List Row
rows_of_letter l = letter_rows l.letter

abbrev pub rows_of_letters : List NamedLetter → List Row
rows_of_letters ls = flat_map rows_of_letter ls

abbrev pub radix_if_any : Option Radix → List Radix
radix_if_any None = []
radix_if_any (Some r) = r ∷ []

-- whether no application of a symbol of this kind has a radix of its own
abbrev pub has_no_radix : Kind → Bool
has_no_radix kind.Mode = true
has_no_radix kind.Structure = true
has_no_radix kind.Attribute = true
has_no_radix kind.Functor = false
has_no_radix kind.Selector = false
has_no_radix kind.Aggregate = false
has_no_radix kind.Predicate = true
has_no_radix kind.LetterFunctor = false
has_no_radix kind.LetterPredicate = true

mutual
  -- what the chain of a term begins with
  pub data Begins (cs : List Clause) (e : Environment) (c : Context) : Term → List Radix → Type 0 where
    -- the declared radix of a constant
    constant : (n : ℕ) (k : Constant) → constant_at c n ≡ Some k → Begins cs e c (Const n) (k.ty.radix ∷ [])
    no_constant : (n : ℕ) → constant_at c n ≡ None → Begins cs e c (Const n) []
    index : (i : ℕ) → Begins cs e c (Bound i) []
    -- the result radices of a functor's redefinitions and of its definition, the latest first
    functor : (s : Sym) (ts : List Term) (xs : List Radix) → s.kind ≡ kind.Functor → RowsAdd cs c.constants s ts e.functors xs → Begins cs e c (App s (terms_of ts)) (reverse xs)
    -- the stated radix of a functor letter
    letter : (s : Sym) (ts : List Term) (xs : List Radix) → s.kind ≡ kind.LetterFunctor → RowsAdd cs c.constants s ts (rows_of_letters c.letters) xs → Begins cs e c (App s (terms_of ts)) (reverse xs)
    -- the structure of an aggregate
    aggregate : (s : Sym) (ts : List Term) (o : Option Radix) → s.kind ≡ kind.Aggregate → AggregateGives cs c.constants e.structures s ts o → Begins cs e c (App s (terms_of ts)) (radix_if_any o)
    -- the radix of a selector's field, by the first structure in the argument's chain that has it
    selector : (s : Sym) (t : Term) (members : List Radix) (o : Option Radix) → s.kind ≡ kind.Selector → IsChain cs e c t members → FirstGives cs c.constants e.structures s t members o → Begins cs e c (App s (terms_of (t ∷ []))) (radix_if_any o)
    no_selection : (s : Sym) (ts : List Term) → s.kind ≡ kind.Selector → ¬ (length ts ≡ 1) → Begins cs e c (App s (terms_of ts)) []
    other : (s : Sym) (ts : List Term) → has_no_radix s.kind ≡ true → Begins cs e c (App s (terms_of ts)) []

  -- the chain of a term
  pub data IsChain (cs : List Clause) (e : Environment) (c : Context) : Term → List Radix → Type 0 where
    chain_of : (t : Term) (first out : List Radix) → Begins cs e c t first → Walks cs e c first [] out → IsChain cs e c t (out ++ chain_end)
