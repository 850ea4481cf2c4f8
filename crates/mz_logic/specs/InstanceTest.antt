-- Words for the test of instances: a term and its letters' arguments are walked side by side with
-- the term that is tested, and nothing is built.
use Rattle.std.specs.Prelude.{ℕ, suc, ◌+◌, ◌-◌, List, [], ◌∷◌, nat_lt, if◌then◌else◌}
use Rattle.mz_logic.specs.Term.{Term, Terms, Bound, Const, App, none, more, terms_of}
use Rattle.mz_logic.specs.TermStorage.{size_of, sizes_of}
use Rattle.mz_logic.specs.Formula.{Formula, Truth, Eq, Atom, Not, And, All}
use Rattle.mz_logic.specs.Substitution.{shift, argument_at}
use Rattle.mz_logic.specs.Instance.{term_instance}
use Rattle.mz_logic.specs.declared.letters.Letter.{Letter}
use Rattle.mz_logic.specs.declared.letters.Body.{Body}
use Rattle.mz_logic.specs.declared.letters.Body.TheVariants.{OfTerm, OfFormula}

-- the instance of a term, below `by` more binders
unfoldable pub shifted_instance : List Letter → ℕ → Term → Term
shifted_instance ls by t = shift 0 by (term_instance ls t)

-- a term of a body below `inner` binders of it, with arguments that are shifted by `by`
abbrev pub index_at_by : ℕ → ℕ → List Term → ℕ → Term
index_at_by inner by args index =
    if nat_lt index inner then Bound index else shift 0 by (argument_at args (index - inner))

abbrev mutual
  pub term_at_by : ℕ → ℕ → List Term → Term → Term
  term_at_by inner by args (Bound index) = index_at_by inner by args index
  term_at_by inner by args (Const number) = Const number
  term_at_by inner by args (App s ts) = App s (args_at_by inner by args ts)

  pub args_at_by : ℕ → ℕ → List Term → Terms → Terms
  args_at_by inner by args none = none
  args_at_by inner by args (more t ts) = more (term_at_by inner by args t) (args_at_by inner by args ts)

-- how large the terms of a body are, and those of all bodies
abbrev pub terms_size : Formula → ℕ
terms_size Truth = 0
terms_size (Eq t u) = size_of t + size_of u
terms_size (Atom s ts) = sizes_of ts
terms_size (Not f) = terms_size f
terms_size (And f g) = terms_size f + terms_size g
terms_size (All f) = terms_size f

abbrev pub body_size : Body → ℕ
body_size (OfTerm t) = size_of t
body_size (OfFormula f) = terms_size f

unfoldable pub bodies_size : List Letter → ℕ
bodies_size [] = 0
bodies_size (l ∷ ls) = body_size l.body + bodies_size ls

-- the size of a term each node of which counts `each`
abbrev mutual
  pub weight : ℕ → Term → ℕ
  weight each (Bound index) = each
  weight each (Const number) = each
  weight each (App s ts) = each + args_weight each ts

  pub args_weight : ℕ → Terms → ℕ
  args_weight each none = each
  args_weight each (more t ts) = weight each t + args_weight each ts

-- a term's weight where each node counts more than all bodies
unfoldable pub letter_weight : List Letter → Term → ℕ
letter_weight ls t = weight (suc (bodies_size ls)) t

unfoldable pub letter_weights : List Letter → List Term → ℕ
letter_weights ls ts = args_weight (suc (bodies_size ls)) (terms_of ts)
