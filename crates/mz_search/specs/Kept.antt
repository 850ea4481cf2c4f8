-- Indices that occur in formulas.
use Rattle.std.specs.Prelude.{ℕ, zero, suc, ◌+◌, ◌-◌, Bool, true, false, not, ◌&&◌, ◌||◌, Option, None, Some, List, [], ◌∷◌, map, nat_lt, if◌then◌else◌}
use Rattle.mz_logic.specs.Term.{Term, Terms, Bound, Const, App, none, more, terms_of}
use Rattle.mz_logic.specs.Formula.{Formula, Truth, Eq, Atom, Not, And, All}
use Rattle.mz_match.specs.Slots.{Assignment, slot_at}
use Rattle.mz_search.specs.Goals.{Goal, Refute}

abbrev pub flag_at : List Bool → ℕ → Bool
flag_at [] i = false
flag_at (b ∷ bs) zero = b
flag_at (b ∷ bs) (suc i) = flag_at bs i

-- the index is that of one of the `depth` innermost binders, or has a flag
abbrev pub index_kept : List Bool → ℕ → ℕ → Bool
index_kept flags depth i = nat_lt i depth || flag_at flags (i - depth)

-- each index of the term is kept
abbrev mutual
  pub term_kept : List Bool → ℕ → Term → Bool
  term_kept flags depth (Bound i) = index_kept flags depth i
  term_kept flags depth (Const n) = true
  term_kept flags depth (App s ts) = terms_kept flags depth ts

  pub terms_kept : List Bool → ℕ → Terms → Bool
  terms_kept flags depth none = true
  terms_kept flags depth (more t ts) = term_kept flags depth t && terms_kept flags depth ts

-- each index of the formula that is free under `depth` binders has a flag
abbrev pub formula_kept : List Bool → ℕ → Formula → Bool
formula_kept flags depth Truth = true
formula_kept flags depth (Eq t u) = term_kept flags depth t && term_kept flags depth u
formula_kept flags depth (Atom s ts) = terms_kept flags depth (terms_of ts)
formula_kept flags depth (Not f) = formula_kept flags depth f
formula_kept flags depth (And f g) = formula_kept flags depth f && formula_kept flags depth g
formula_kept flags depth (All b) = formula_kept flags (depth + 1) b

abbrev pub has_class : Option ℕ → Bool
has_class None = false
has_class (Some v) = true

-- the place has a class, or a mark where `inside` is true and none where it is false
abbrev pub place_kept : Assignment → List Bool → Bool → ℕ → Bool
place_kept e marks inside i = has_class (slot_at e i) || (if inside then flag_at marks i else not (flag_at marks i))

-- each variable of the goal has a class, or all have marks, or none has
abbrev pub goal_kept : Assignment → List Bool → Bool → Goal → Bool
goal_kept e marks inside (Refute scope s f) = formula_kept (map (place_kept e marks inside) scope) 0 f
