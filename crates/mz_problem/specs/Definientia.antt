-- What is added for the parts of premises and of the negated conclusion.
use Rattle.std.specs.Prelude.{◌≡◌, Bool, true, false, List, [], ◌∷◌, ◌++◌, Option, Some, None}
use Rattle.mz_logic.specs.declared.sym.Sym.{Sym}
use Rattle.mz_logic.specs.Term.{Term}
use Rattle.mz_core.specs.Statement.{Statement, Truth, Eq, Atom, Not, And, For}
use Rattle.mz_core.specs.StatementForms.{opposite}
use Rattle.mz_context.specs.declared.constants.Constant.{Constant}
use Rattle.mz_ground.specs.declared.clause.Clause.{Clause}
use Rattle.mz_environment.specs.declared.unfoldings.Unfolding.{Unfolding}
use Rattle.mz_thesis.specs.Unfolding.{UnfoldsTo}

abbrev pub is_atom : Statement → Bool
is_atom Truth = false
is_atom (Eq t u) = false
is_atom (Atom s ts) = true
is_atom (Not s) = false
is_atom (And s t) = false
is_atom (For ty s) = false

-- an atom or a negated atom
abbrev pub is_signed_atom : Statement → Bool
is_signed_atom Truth = false
is_signed_atom (Eq t u) = false
is_signed_atom (Atom s ts) = true
is_signed_atom (Not s) = is_atom s
is_signed_atom (And s t) = false
is_signed_atom (For ty s) = false

-- a part that is an atom adds its definiens, one that is a negated atom the negated definiens
pub data Adds (cs : List Clause) (ks : List (Option Constant)) (us : List Unfolding) : Statement → List Statement → Type 0 where
  definiens : (s : Sym) (ts : List Term) (d : Statement) → UnfoldsTo cs ks us (Atom s ts) (Some d) → Adds cs ks us (Atom s ts) (d ∷ [])
  negated_definiens : (s : Sym) (ts : List Term) (d : Statement) → UnfoldsTo cs ks us (Atom s ts) (Some d) → Adds cs ks us (Not (Atom s ts)) (opposite d ∷ [])
  nothing : (s : Sym) (ts : List Term) → UnfoldsTo cs ks us (Atom s ts) None → Adds cs ks us (Atom s ts) []
  nothing_negated : (s : Sym) (ts : List Term) → UnfoldsTo cs ks us (Atom s ts) None → Adds cs ks us (Not (Atom s ts)) []
  other : (s : Statement) → is_signed_atom s ≡ false → Adds cs ks us s []

-- parts, in their order
pub data AllAdd (cs : List Clause) (ks : List (Option Constant)) (us : List Unfolding) : List Statement → List Statement → Type 0 where
  no_parts : AllAdd cs ks us [] []
  and_part : (s : Statement) (ss ds es : List Statement) → Adds cs ks us s ds → AllAdd cs ks us ss es → AllAdd cs ks us (s ∷ ss) (ds ++ es)
