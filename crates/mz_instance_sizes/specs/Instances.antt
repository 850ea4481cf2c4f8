-- How large the instances by letters are.
use Rattle.std.specs.Prelude.{List, [], ◌∷◌, map, Option, Some, None}
use Rattle.mz_logic.specs.Term.{Term, Terms, Bound, Const, App, none, more, terms_of}
use Rattle.mz_logic.specs.Formula.{Formula, Truth, Eq, Atom, Not, And, All}
use Rattle.mz_logic.specs.Letters.{term_for, formula_for}
use Rattle.mz_logic.specs.declared.letters.Letter.{Letter}
use Rattle.mz_core.specs.declared.adjective.Adjective.{Adjective}
use Rattle.mz_core.specs.declared.soft_type.SoftType.{SoftType}
use Rattle.mz_instance_sizes.specs.Sizes.{leaf, above, beside, all_beside}
use Rattle.mz_instance_sizes.specs.Within.{size_at, size_within}
use Rattle.mz_instance_sizes.specs.declared.size.Size.{Size}

-- an application, by how large its arguments are
abbrev pub applied_size : Option Term → List Size → Size
applied_size None xs = above (all_beside xs)
applied_size (Some body) xs = size_at xs 0 body

abbrev pub stated_size : Option Formula → List Size → Size
stated_size None xs = above (all_beside xs)
stated_size (Some body) xs = size_within xs 0 body

-- the instance of a term
abbrev mutual
  pub instance_size : List Letter → Term → Size
  instance_size ls (Bound index) = leaf
  instance_size ls (Const number) = leaf
  instance_size ls (App s ts) = applied_size (term_for s ls) (instance_sizes ls ts)

  pub instance_sizes : List Letter → Terms → List Size
  instance_sizes ls none = []
  instance_sizes ls (more t ts) = instance_size ls t ∷ instance_sizes ls ts

-- the instance of a formula
abbrev pub instance_within : List Letter → Formula → Size
instance_within ls Truth = leaf
instance_within ls (Eq t u) = above (beside (instance_size ls t) (instance_size ls u))
instance_within ls (Atom s ts) = stated_size (formula_for s ls) (instance_sizes ls (terms_of ts))
instance_within ls (Not f) = above (instance_within ls f)
instance_within ls (And f g) = above (beside (instance_within ls f) (instance_within ls g))
instance_within ls (All f) = above (instance_within ls f)

-- terms below what has them for arguments
abbrev pub terms_instance_size : List Letter → List Term → Size
terms_instance_size ls ts = above (all_beside (instance_sizes ls (terms_of ts)))

-- the instances of an adjective and of a type
abbrev pub adjective_instance_size : List Letter → Adjective → Size
adjective_instance_size ls a = terms_instance_size ls a.args

abbrev pub type_instance_size : List Letter → SoftType → Size
type_instance_size ls ty = beside (terms_instance_size ls ty.radix.args) (all_beside (map (adjective_instance_size ls) ty.adjectives))
