-- The entries of a table: what facts over a ground part it is made of.
use Rattle.std.specs.Prelude.{◌≡◌, ◌↔◌, ℕ, Bool, true, false, List, [], ◌∷◌, ◌++◌, map, length, slice_index, if◌then◌else◌}
use Rattle.mz_ground.specs.declared.ground_term.GroundTerm.{GroundTerm}
use Rattle.mz_ground.specs.declared.ground_term.GroundTerm.TheVariants as node
use Rattle.mz_ground.specs.declared.ground_atom.GroundAtom.{GroundAtom}
use Rattle.mz_ground.specs.declared.ground_equation.GroundEquation.{GroundEquation}
use Rattle.mz_match.specs.Heads.{same_head}
use Rattle.mz_match.specs.Rows.{SomeOf}
use Rattle.mz_match.specs.Table.{rows_of, count_of}
use Rattle.mz_match.specs.declared.row.Head.{Head}
use Rattle.mz_match.specs.declared.row.Head.TheVariants.{Constant, Functor, Holds, Fails, Disequal}
use Rattle.mz_match.specs.declared.row.Row.{Row}
use Rattle.mz_match.specs.declared.table.Table.{Table}

pub record Entry : Type 0 where
  pub head : Head
  pub args : List ℕ
  pub value : ℕ

-- the entry of a ground term with a class, by the classes of its arguments
abbrev pub term_entry : List ℕ → ℕ → GroundTerm → Entry
term_entry classes v (node.Const n) = record { head = Constant n; args = []; value = v }
term_entry classes v (node.App s args) = record { head = Functor s; args = map (slice_index classes) args; value = v }

abbrev pub term_entries : List ℕ → List ℕ → List GroundTerm → List Entry
term_entries classes [] ts = []
term_entries classes (v ∷ vs) [] = []
term_entries classes (v ∷ vs) (t ∷ ts) = term_entry classes v t ∷ term_entries classes vs ts

-- the entries of a ground atom with the signs that it has
abbrev pub sign_entry : Bool → Head → List ℕ → List Entry
sign_entry true h args = record { head = h; args = args; value = 0 } ∷ []
sign_entry false h args = []

abbrev pub atom_entries : List ℕ → List Bool → List Bool → List GroundAtom → List Entry
atom_entries classes [] ns os = []
atom_entries classes (p ∷ ps) [] os = []
atom_entries classes (p ∷ ps) (n ∷ ns) [] = []
atom_entries classes (p ∷ ps) (n ∷ ns) (a ∷ os) = (sign_entry p (Holds a.sym) (map (slice_index classes) a.args) ++ sign_entry n (Fails a.sym) (map (slice_index classes) a.args)) ++ atom_entries classes ps ns os

-- the entries of the ground equations that fail
abbrev pub equation_entries : List ℕ → List Bool → List GroundEquation → List Entry
equation_entries classes [] es = []
equation_entries classes (b ∷ bs) [] = []
equation_entries classes (b ∷ bs) (e ∷ es) = sign_entry b Disequal (slice_index classes e.left ∷ slice_index classes e.right ∷ []) ++ equation_entries classes bs es

-- the rows with a head, by the entries
abbrev pub rows_for : Head → List Entry → List (List ℕ × ℕ)
rows_for h [] = []
rows_for h (e ∷ es) = if same_head e.head h then (e.args, e.value) ∷ rows_for h es else rows_for h es

abbrev pub row_pair : Row → List ℕ × ℕ
row_pair r = (r.args.items, r.value)

-- the lists have the same members
abbrev pub HaveSameMembers : {X : Type 0} → List X → List X → Type 0
HaveSameMembers {X} xs ys = (p : X) → SomeOf (λ x. x ≡ p) xs ↔ SomeOf (λ y. y ≡ p) ys

-- the rows with a head are those of the entries, and the count is theirs, equal ones counted each
pub record AreRows (rows : List Row) (count : ℕ) (ps : List (List ℕ × ℕ)) : Type 0 where
  pub members : HaveSameMembers (map row_pair rows) ps
  pub number : count ≡ length ps

-- the table has the rows of the entries
unfoldable pub HasEntries : Table → List Entry → Type 0
HasEntries table es = (h : Head) → AreRows (rows_of table h) (count_of table h) (rows_for h es)

-- the table has further entries
unfoldable pub Grown : Table → Table → List Entry → Type 0
Grown table next es = (ds : List Entry) → HasEntries table ds → HasEntries next (ds ++ es)
