-- The axioms of Tarski and Grothendieck, as statements. Numbers are indices of variables: 0 is the
-- innermost.
use Rattle.std.specs.Prelude.{ℕ, ◌+◌, List, [], ◌∷◌, codes}
use Rattle.mz_base.specs.Name.{number_of}
use Rattle.mz_logic.specs.declared.sym.Sym.{Sym}
use Rattle.mz_logic.specs.declared.kind.Kind.TheVariants.{LetterFunctor, LetterPredicate}
use Rattle.mz_logic.specs.Term.{Term, Bound, App, none}
use Rattle.mz_core.specs.Hidden.{in_predicate}
use Rattle.mz_core.specs.Statement.{Statement, Truth, Eq, Atom, And, For}
use Rattle.mz_core.specs.StatementForms.{opposite, disjunction, implication, equivalence, for_some}
use Rattle.mz_core.specs.Hidden.{object_type, set_type}
use Rattle.mz_core.specs.declared.scheme.Scheme.{Scheme}
use Rattle.mz_core.specs.declared.scheme.SchemeLetter.TheVariants.{OfFunctor, OfPredicate}

-- t in u
abbrev pub member : Term → Term → Statement
member t u = Atom in_predicate (t ∷ u ∷ [])

-- x in y
abbrev pub belongs : ℕ → ℕ → Statement
belongs x y = member (Bound x) (Bound y)

-- x = y
abbrev pub equal : ℕ → ℕ → Statement
equal x y = Eq (Bound x) (Bound y)

-- for x being object holds s
abbrev pub each_object : Statement → Statement
each_object s = For object_type s

-- for X being set holds s
abbrev pub each_set : Statement → Statement
each_set s = For set_type s

-- ex x being object st s
abbrev pub some_object : Statement → Statement
some_object s = for_some object_type s

-- ex X being set st s
abbrev pub some_set : Statement → Statement
some_set s = for_some set_type s

-- for x being object holds x is set: the type says nothing
unfoldable pub objects_are_sets : Statement
objects_are_sets = each_object Truth

-- for X,Y being set st for x being object holds x in X iff x in Y holds X = Y
unfoldable pub extensionality : Statement
extensionality = each_set (each_set (implication (each_object (equivalence (belongs 0 2) (belongs 0 1))) (equal 1 0)))

-- for x,y being object ex z being set st for a being object holds a in z iff a = x or a = y
unfoldable pub pairs : Statement
pairs =
    each_object
    (each_object
    (some_set (each_object (equivalence (belongs 0 1) (disjunction (equal 0 3) (equal 0 2))))))

-- for X being set ex Z being set st
-- for x being object holds x in Z iff ex Y being set st x in Y & Y in X
unfoldable pub unions : Statement
unions =
    each_set
    (some_set (each_object (equivalence (belongs 0 1) (some_set (And (belongs 1 0) (belongs 0 3))))))

-- for x being object, X being set st x in X
-- ex Y being set st Y in X & not ex z being object st z in X & z in Y
unfoldable pub regularity : Statement
regularity =
    each_object
    (each_set
    (implication (belongs 1 0)
    (some_set (And (belongs 0 1) (opposite (some_object (And (belongs 0 2) (belongs 0 1))))))))

-- A
abbrev pub functor_letter : Sym
functor_letter = record { article = number_of (codes "TARSKI_0"); kind = LetterFunctor; number = 1 }

-- P
abbrev pub predicate_letter : Sym
predicate_letter = record { article = number_of (codes "TARSKI_0"); kind = LetterPredicate; number = 1 }

-- y in A()
abbrev pub belongs_to_letter : ℕ → Statement
belongs_to_letter y = member (Bound y) (App functor_letter none)

-- P[x,y]
abbrev pub related : ℕ → ℕ → Statement
related x y = Atom predicate_letter (Bound x ∷ Bound y ∷ [])

-- for x,y,z being object st P[x,y] & P[x,z] holds y = z
unfoldable pub at_most_one : Statement
at_most_one =
    each_object
    (each_object (each_object (implication (And (related 2 1) (related 2 0)) (equal 1 0))))

-- ex X being set st
-- for x being object holds x in X iff ex y being object st y in A() & P[y,x]
unfoldable pub image : Statement
image =
    some_set
    (each_object (equivalence (belongs 0 1) (some_object (And (belongs_to_letter 0) (related 0 1)))))

-- scheme { A() -> set, P[object,object] } : the image provided at most one value
unfoldable pub replacement : Scheme
replacement =
    record {
      letters = OfFunctor functor_letter [] set_type ∷ OfPredicate predicate_letter (object_type ∷ object_type ∷ []) ∷ [];
      premises = at_most_one ∷ [];
      conclusion = image;
    }

-- for x being object st x in X holds x in Y
unfoldable pub is_part : ℕ → ℕ → Statement
is_part x y = each_object (implication (belongs 0 (x + 1)) (belongs 0 (y + 1)))

-- for b being object holds b in a iff b = x or b = y
unfoldable pub is_pair : ℕ → ℕ → ℕ → Statement
is_pair a x y =
    each_object
    (equivalence (belongs 0 (a + 1)) (disjunction (equal 0 (x + 1)) (equal 0 (y + 1))))

-- for b being object holds b in a iff b = x
unfoldable pub is_singleton : ℕ → ℕ → Statement
is_singleton a x = each_object (equivalence (belongs 0 (a + 1)) (equal 0 (x + 1)))

-- the ordered pair of x and y is in Z: ex p being set st p in Z & for a being object holds
-- a in p iff (for b being object holds b in a iff b = x or b = y)
-- or (for b being object holds b in a iff b = x)
unfoldable pub pair_in : ℕ → ℕ → ℕ → Statement
pair_in x y z =
    some_set
    (And (belongs 0 (z + 1))
    (each_object (equivalence (belongs 0 1) (disjunction (is_pair 0 (x + 2) (y + 2)) (is_singleton 0 (x + 2))))))

-- X and M are equinumerous by Z: X, M and Z have the indices x + 1, m + 1 and 0
-- for x being object st x in X ex y being object st y in M & pr(x,y,Z)
unfoldable pub covers_first : ℕ → ℕ → Statement
covers_first x m =
    each_object (implication (belongs 0 (x + 2)) (some_object (And (belongs 0 (m + 3)) (pair_in 1 0 2))))

-- for y being object st y in M ex x being object st x in X & pr(x,y,Z)
unfoldable pub covers_second : ℕ → ℕ → Statement
covers_second x m =
    each_object (implication (belongs 0 (m + 2)) (some_object (And (belongs 0 (x + 3)) (pair_in 0 1 2))))

-- for x,y,z,u being object st pr(x,y,Z) & pr(z,u,Z) holds x = z iff y = u
unfoldable pub one_to_one : Statement
one_to_one =
    each_object
    (each_object
    (each_object
    (each_object
    (implication (And (pair_in 3 2 4) (pair_in 1 0 4)) (equivalence (equal 3 1) (equal 2 0))))))

-- ex Z being set st these three
unfoldable pub equinumerous : ℕ → ℕ → Statement
equinumerous x m = some_set (And (And (covers_first x m) (covers_second x m)) one_to_one)

-- for X,Y being set st X in M & sub(Y,X) holds Y in M
unfoldable pub has_parts : Statement
has_parts = each_set (each_set (implication (And (belongs 1 2) (is_part 0 1)) (belongs 0 2)))

-- for X being set st X in M ex Z being set st Z in M & for Y being set st sub(Y,X) holds Y in Z
unfoldable pub has_sets_of_parts : Statement
has_sets_of_parts =
    each_set
    (implication (belongs 0 1)
    (some_set (And (belongs 0 2) (each_set (implication (is_part 0 2) (belongs 0 1))))))

-- for X being set st sub(X,M) holds X in M or eq(X,M)
unfoldable pub has_small_parts : Statement
has_small_parts = each_set (implication (is_part 0 1) (disjunction (belongs 0 1) (equinumerous 0 1)))

-- for N being object ex M being set st N in M & these three
unfoldable pub universes : Statement
universes = each_object (some_set (And (And (And (belongs 1 0) has_parts) has_sets_of_parts) has_small_parts))
