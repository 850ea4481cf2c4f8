-- What atoms and equations are unfolded to where constants are in force.
use Rattle.std.specs.Prelude.{◌≡◌, Bool, true, false, List, [], ◌∷◌, length, reverse, Option, Some, None}
use Rattle.mz_logic.specs.declared.sym.Sym.{Sym}
use Rattle.mz_logic.specs.Sym.{same_sym}
use Rattle.mz_logic.specs.Term as term
use Rattle.mz_logic.specs.Term.{Bound}
use Rattle.mz_logic.specs.Substitution.{value_at}
use Rattle.mz_core.specs.Statement as statement
use Rattle.mz_core.specs.Statement.{Statement, Truth, Eq, Not, And, For}
use Rattle.mz_core.specs.TypeSubstitution.{substitute_statement}
use Rattle.mz_context.specs.declared.constants.Constant.{Constant}
use Rattle.mz_ground.specs.declared.clause.Clause.{Clause}
use Rattle.mz_ground.specs.declared.trigger.Trigger.{Trigger}
use Rattle.mz_ground.specs.declared.trigger.Trigger.TheVariants.{Term, Atom}
use Rattle.mz_environment.specs.declared.unfoldings.Unfolding.{Unfolding}
use Rattle.mz_fits.specs.Matching.{Fixed, unfixed, AllMatched, Accepted}
use Rattle.mz_thesis.specs.declared.sought.Sought.{Sought}
use Rattle.mz_thesis.specs.declared.sought.Sought.TheVariants.{AtomOf, Equation}

-- what stands in the places of a head: the arguments of its atom; the term, and the object that it is equal to
abbrev pub formals : Trigger → List term.Term
formals (Term t) = t ∷ Bound 0 ∷ []
formals (Atom s ts) = ts

-- an unfolding with such a head is sought
abbrev pub is_sought : Sought → Trigger → Bool
is_sought (AtomOf s) (Term t) = false
is_sought (AtomOf s) (Atom r ts) = same_sym r s
is_sought Equation (Term t) = true
is_sought Equation (Atom r ts) = false

-- the definiens at values for the loci, in the order of the loci
abbrev pub definiens_at : List term.Term → Statement → Statement
definiens_at values d = substitute_statement 0 (value_at (reverse values)) d

-- what an unfolding gives for terms in the places of its head: its definiens, where they match and the guards of all
-- loci fit
pub data Gives (cs : List Clause) (ks : List (Option Constant)) (u : Unfolding) (ts : List term.Term) : Option Statement → Type 0 where
  unmatched : AllMatched cs ks (length u.loci) (unfixed (length u.loci)) (formals u.head) ts None → Gives cs ks u ts None
  unfit : (fs : Fixed) → AllMatched cs ks (length u.loci) (unfixed (length u.loci)) (formals u.head) ts (Some fs) → Accepted cs ks u.loci fs None → Gives cs ks u ts None
  fit : (fs : Fixed) (values : List term.Term) → AllMatched cs ks (length u.loci) (unfixed (length u.loci)) (formals u.head) ts (Some fs) → Accepted cs ks u.loci fs (Some values) → Gives cs ks u ts (Some (definiens_at values u.definiens))

-- what the first of the unfoldings gives that is sought and gives something
pub data FirstGives (cs : List Clause) (ks : List (Option Constant)) (k : Sought) (ts : List term.Term) : List Unfolding → Option Statement → Type 0 where
  none_left : FirstGives cs ks k ts [] None
  of_other : (u : Unfolding) (us : List Unfolding) (o : Option Statement) → is_sought k u.head ≡ false → FirstGives cs ks k ts us o → FirstGives cs ks k ts (u ∷ us) o
  not_this : (u : Unfolding) (us : List Unfolding) (o : Option Statement) → is_sought k u.head ≡ true → Gives cs ks u ts None → FirstGives cs ks k ts us o → FirstGives cs ks k ts (u ∷ us) o
  this_one : (u : Unfolding) (us : List Unfolding) (s : Statement) → is_sought k u.head ≡ true → Gives cs ks u ts (Some s) → FirstGives cs ks k ts (u ∷ us) (Some s)

-- neither an atom nor an equation
abbrev pub is_compound : Statement → Bool
is_compound Truth = true
is_compound (Eq t u) = false
is_compound (statement.Atom s ts) = false
is_compound (Not s) = true
is_compound (And s t) = true
is_compound (For ty s) = true

-- what an atom or an equation is unfolded to: by the latest unfolding that gives something; an equation by one of its
-- right side, else by one of its left side
pub data UnfoldsTo (cs : List Clause) (ks : List (Option Constant)) (us : List Unfolding) : Statement → Option Statement → Type 0 where
  atom : (s : Sym) (ts : List term.Term) (o : Option Statement) → FirstGives cs ks (AtomOf s) ts (reverse us) o → UnfoldsTo cs ks us (statement.Atom s ts) o
  right : (t u : term.Term) (d : Statement) → FirstGives cs ks Equation (u ∷ t ∷ []) (reverse us) (Some d) → UnfoldsTo cs ks us (Eq t u) (Some d)
  left : (t u : term.Term) (o : Option Statement) → FirstGives cs ks Equation (u ∷ t ∷ []) (reverse us) None → FirstGives cs ks Equation (t ∷ u ∷ []) (reverse us) o → UnfoldsTo cs ks us (Eq t u) o
  compound : (s : Statement) → is_compound s ≡ true → UnfoldsTo cs ks us s None
