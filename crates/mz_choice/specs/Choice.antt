-- The choice among notations.
use Rattle.std.specs.Prelude.{◌≡◌, ℕ, Bool, true, false, ◌&&◌, nat_eq, List, [], ◌∷◌, ◌++◌, length, reverse, Option, Some, None, slice_get, bytes_eq}
use Rattle.std.specs.List.{filter, list_any}
use Rattle.mz_logic.specs.Sym.{same_sym, kind_number}
use Rattle.mz_logic.specs.declared.sym.Sym.{Sym}
use Rattle.mz_logic.specs.declared.kind.Kind.TheVariants as kind
use Rattle.mz_logic.specs.Term.{Term, Const}
use Rattle.mz_logic.specs.Constants.{occurs}
use Rattle.mz_logic.specs.declared.literal.Literal.TheVariants.{Atom}
use Rattle.mz_logic.specs.Substitution.{substitute, value_at}
use Rattle.mz_core.specs.Hidden.{is_of_any_object}
use Rattle.mz_core.specs.TypeSubstitution.{substitute_type, substitute_literal}
use Rattle.mz_core.specs.declared.radix.Radix.{Radix}
use Rattle.mz_core.specs.declared.soft_type.SoftType.{SoftType}
use Rattle.mz_core.specs.declared.notation.Notation.{Notation}
use Rattle.mz_core.specs.declared.notation.Meaning.{Meaning}
use Rattle.mz_core.specs.declared.notation.Meaning.TheVariants.{OfTerm, OfLiteral, OfType}
use Rattle.mz_context.specs.declared.constants.Constant.{Constant}
use Rattle.mz_context.specs.declared.context.Context.{Context}
use Rattle.mz_ground.specs.declared.clause.Clause.{Clause}
use Rattle.mz_environment.specs.declared.environment.Environment.{Environment}
use Rattle.mz_fits.specs.Matching.{Fixed, unfixed, Placed, AllMatched, Accepted}
use Rattle.mz_types.specs.Chain.{IsChain}
use Rattle.mz_choice.specs.declared.choice.Applied.{Applied}
use Rattle.mz_choice.specs.declared.choice.Wanted.{Wanted}
use Rattle.mz_choice.specs.declared.choice.Wanted.TheVariants.{Anything, AdjectiveOf, AdjectiveOfFresh}

-- what is fixed behind the first member of a chain that has the formal radix's symbol and whose arguments match
pub data FirstMember (cs : List Clause) (ks : List (Option Constant)) (scope : ℕ) (formal : Radix) (fs : Fixed) : List Radix → Option Fixed → Type 0 where
  no_member : FirstMember cs ks scope formal fs [] None
  member : (r : Radix) (rs : List Radix) (behind : Fixed) → same_sym r.sym formal.sym ≡ true → AllMatched cs ks scope fs formal.args r.args (Some behind) → FirstMember cs ks scope formal fs (r ∷ rs) (Some behind)
  other_symbol : (r : Radix) (rs : List Radix) (o : Option Fixed) → same_sym r.sym formal.sym ≡ false → FirstMember cs ks scope formal fs rs o → FirstMember cs ks scope formal fs (r ∷ rs) o
  other_arguments : (r : Radix) (rs : List Radix) (o : Option Fixed) → same_sym r.sym formal.sym ≡ true → AllMatched cs ks scope fs formal.args r.args None → FirstMember cs ks scope formal fs rs o → FirstMember cs ks scope formal fs (r ∷ rs) o

-- an argument beside the type of its locus, which stands under `place` loci
pub data Typed (cs : List Clause) (e : Environment) (c : Context) (place : ℕ) (ty : SoftType) (fs : Fixed) (t : Term) : Option Fixed → Type 0 where
  any_object : is_of_any_object ty.radix.sym ≡ true → Typed cs e c place ty fs t (Some fs)
  by_chain : (rs : List Radix) (o : Option Fixed) → is_of_any_object ty.radix.sym ≡ false → IsChain cs e c t rs → FirstMember cs c.constants place ty.radix fs rs o → Typed cs e c place ty fs t o

-- a visible argument for the locus at a place: it is placed there, and then passes by its chain
pub data Takes (cs : List Clause) (e : Environment) (c : Context) (loci : List SoftType) (fs : Fixed) (place : ℕ) (t : Term) : Option Fixed → Type 0 where
  no_locus : slice_get loci place ≡ None → Takes cs e c loci fs place t None
  not_placed : (ty : SoftType) → slice_get loci place ≡ Some ty → Placed cs c.constants fs place t None → Takes cs e c loci fs place t None
  is_placed : (ty : SoftType) (between : Fixed) (o : Option Fixed) → slice_get loci place ≡ Some ty → Placed cs c.constants fs place t (Some between) → Typed cs e c place ty between t o → Takes cs e c loci fs place t o

-- visible arguments for the loci at these places, in order
pub data TakesAll (cs : List Clause) (e : Environment) (c : Context) (loci : List SoftType) : Fixed → List ℕ → List Term → Option Fixed → Type 0 where
  all_taken : (fs : Fixed) → TakesAll cs e c loci fs [] [] (Some fs)
  and_takes : (fs between : Fixed) (p : ℕ) (ps : List ℕ) (t : Term) (ts : List Term) (o : Option Fixed) → Takes cs e c loci fs p t (Some between) → TakesAll cs e c loci between ps ts o → TakesAll cs e c loci fs (p ∷ ps) (t ∷ ts) o
  one_not_taken : (fs : Fixed) (p : ℕ) (ps : List ℕ) (t : Term) (ts : List Term) → Takes cs e c loci fs p t None → TakesAll cs e c loci fs (p ∷ ps) (t ∷ ts) None
  places_end : (fs : Fixed) (t : Term) (ts : List Term) → TakesAll cs e c loci fs [] (t ∷ ts) None
  terms_end : (fs : Fixed) (p : ℕ) (ps : List ℕ) → TakesAll cs e c loci fs (p ∷ ps) [] None

-- what a pattern reads to, with values for its loci in their order
abbrev pub meaning_at : List Term → Meaning → Meaning
meaning_at values (OfTerm t) = OfTerm (substitute 0 (value_at (reverse values)) t)
meaning_at values (OfLiteral l) = OfLiteral (substitute_literal 0 (value_at (reverse values)) l)
meaning_at values (OfType ty) = OfType (substitute_type 0 (value_at (reverse values)) ty)

-- what the arguments read to by a notation; none where it doesn't pass
pub data Reads (cs : List Clause) (e : Environment) (c : Context) (x : Notation) (args : List Term) : Option Meaning → Type 0 where
  not_taken : TakesAll cs e c x.pattern.loci (unfixed (length x.pattern.loci)) (x.pattern.left ++ x.pattern.right) args None → Reads cs e c x args None
  not_accepted : (fs : Fixed) → TakesAll cs e c x.pattern.loci (unfixed (length x.pattern.loci)) (x.pattern.left ++ x.pattern.right) args (Some fs) → Accepted cs c.constants x.pattern.loci fs None → Reads cs e c x args None
  reads : (fs : Fixed) (values : List Term) → TakesAll cs e c x.pattern.loci (unfixed (length x.pattern.loci)) (x.pattern.left ++ x.pattern.right) args (Some fs) → Accepted cs c.constants x.pattern.loci fs (Some values) → Reads cs e c x args (Some (meaning_at values x.meaning))

-- the terms end with this one
pub record EndsWith (ts : List Term) (t : Term) : Type 0 where
  pub before : List Term
  pub is : ts ≡ before ++ t ∷ []

-- they end with the constant, and none of the others has it
pub record EndsWithFresh (ts : List Term) (n : ℕ) : Type 0 where
  pub before : List Term
  pub is : ts ≡ before ++ Const n ∷ []
  pub others : list_any (occurs n) before ≡ false

-- what an application is wanted for: anything; an adjective of a subject; an adjective of a fresh constant, which none of
-- its other arguments may have
pub data Suits : Wanted → Meaning → Type 0 where
  anything : (m : Meaning) → Suits Anything m
  of_subject : (t : Term) (positive : Bool) (s : Sym) (ts : List Term) → s.kind ≡ kind.Attribute → EndsWith ts t → Suits (AdjectiveOf t) (OfLiteral (Atom positive s ts))
  of_fresh : (n : ℕ) (positive : Bool) (s : Sym) (ts : List Term) → s.kind ≡ kind.Attribute → EndsWithFresh ts n → Suits (AdjectiveOfFresh n) (OfLiteral (Atom positive s ts))

-- what the arguments read to by a notation, where that suits
pub data Passes (cs : List Clause) (e : Environment) (c : Context) (w : Wanted) (x : Notation) (args : List Term) : Option Meaning → Type 0 where
  passes : (m : Meaning) → Reads cs e c x args (Some m) → Suits w m → Passes cs e c w x args (Some m)
  not_suited : (m : Meaning) → Reads cs e c x args (Some m) → ¬ Suits w m → Passes cs e c w x args None
  not_read : Reads cs e c x args None → Passes cs e c w x args None

-- the first notation that passes
pub data FirstPasses (cs : List Clause) (e : Environment) (c : Context) (w : Wanted) (args : List Term) : List Notation → Option Meaning → Type 0 where
  none_passes : FirstPasses cs e c w args [] None
  this_passes : (x : Notation) (xs : List Notation) (m : Meaning) → Passes cs e c w x args (Some m) → FirstPasses cs e c w args (x ∷ xs) (Some m)
  not_this : (x : Notation) (xs : List Notation) (o : Option Meaning) → Passes cs e c w x args None → FirstPasses cs e c w args xs o → FirstPasses cs e c w args (x ∷ xs) o

-- the notations of the applied symbol
abbrev pub is_of_symbol : Applied → Notation → Bool
is_of_symbol a x = bytes_eq x.pattern.symbol a.symbol && bytes_eq x.pattern.closing a.closing && nat_eq (kind_number x.pattern.kind) (kind_number a.kind)

-- those with the same numbers of arguments on the left and on the right
abbrev pub is_candidate : Applied → Notation → Bool
is_candidate a x = is_of_symbol a x && (nat_eq (length x.pattern.left) (length a.left) && nat_eq (length x.pattern.right) (length a.right))

-- the candidates among notations, the latest first
abbrev pub candidates : Applied → List Notation → List Notation
candidates a xs = reverse (filter (is_candidate a) xs)

-- what the applied symbol reads to: by the latest candidate that passes
abbrev pub Chosen : List Clause → Environment → Context → Wanted → Applied → Option Meaning → Type 0
Chosen cs e c w a o = FirstPasses cs e c w (a.left ++ a.right) (candidates a e.notations) o
