-- Loci.
use Rattle.std.specs.Prelude.{ℕ, zero, suc, ◌+◌, true, List, [], ◌∷◌, ◌++◌, length, reverse, remove, take, drop}
use Rattle.mz_logic.specs.declared.sym.Sym.{Sym}
use Rattle.mz_logic.specs.Term.{Term, Bound, App, terms_of}
use Rattle.mz_logic.specs.declared.literal.Literal.{Literal}
use Rattle.mz_logic.specs.declared.literal.Literal.TheVariants as literal
use Rattle.mz_core.specs.Statement.{Statement, For}
use Rattle.mz_core.specs.declared.soft_type.SoftType.{SoftType}

-- for L holds s
abbrev pub over : List SoftType → Statement → Statement
over [] s = s
over (ty ∷ tys) s = For ty (over tys s)

-- the innermost `count` variables under `depth` more binders, the innermost first
abbrev pub inward : ℕ → ℕ → List Term
inward depth zero = []
inward depth (suc count) = inward depth count ++ Bound (depth + count) ∷ []

-- the same, the outermost first
abbrev pub variables : ℕ → ℕ → List Term
variables depth count = reverse (inward depth count)

-- a symbol's term on the loci
abbrev pub term_on : List SoftType → Sym → Term
term_on loci s = App s (terms_of (variables 0 (length loci)))

-- the terms without the one at the subject's place, and then that one; the terms where there is none
abbrev pub subject_last : ℕ → List Term → List Term
subject_last subject ts = remove ts subject ++ take 1 (drop subject ts)

-- a predicate's atom on the loci
abbrev pub predicate_on : List SoftType → Sym → Literal
predicate_on loci s = literal.Atom true s (variables 0 (length loci))

-- an attribute's atom on the loci without the subject, and then the subject
abbrev pub attribute_on : List SoftType → ℕ → Sym → Literal
attribute_on loci subject s = literal.Atom true s (subject_last subject (variables 0 (length loci)))

-- a mode on the loci, as a type
abbrev pub mode_on : List SoftType → Sym → SoftType
mode_on loci s = record { adjectives = []; radix = record { sym = s; args = variables 0 (length loci) } }
