-- Terms that steps name: those of `set` and `take`, of `reconsider`, and the further sides of an iterative equality.
use Rattle.std.specs.Prelude.{ℕ, List, [], ◌∷◌, ◌++◌, map, Result, Ok, Err}
use Rattle.mz_logic.specs.Term.{Term}
use Rattle.mz_core.specs.declared.outcome.Left.{Left}
use Rattle.mz_core.specs.declared.radix.Radix.{Radix}
use Rattle.mz_core.specs.declared.soft_type.SoftType.{SoftType}
use Rattle.mz_context.specs.declared.context.Context.{Context}
use Rattle.mz_environment.specs.declared.environment.Environment.{Environment}
use Rattle.mz_names.specs.Closing.{with_variables}
use Rattle.mz_names.specs.declared.refusal.Refusal.{Refusal}
use Rattle.mz_names.specs.declared.variable.Variable.{Variable}
use Rattle.mz_tree.specs.Trees.{TermData, TypeData, RunTerm, OperandPiece, IdentifierBase, pieces_of, prefixs_of}
use Rattle.mz_tree.specs.declared.word.Word.{Word}
use Rattle.mz_types.specs.Chain.{IsChain}
use Rattle.mz_types.specs.Known.{typing}
use Rattle.mz_steps.specs.declared.read_step.Definition.{Definition}
use Rattle.mz_resolve.specs.Calls.{TermRead, TypeRead}
use Rattle.mz_tree_proof.specs.declared.equality_step.EqualityStepTree.{EqualityStepTree}
use Rattle.mz_tree_proof.specs.declared.introduction.NamedTermTree.{NamedTermTree}
use Rattle.mz_tree_proof.specs.declared.introduction.RetypedTree.{RetypedTree}
use Rattle.mz_tree_proof.specs.declared.introduction.RetypedTree.TheVariants.{Itself, Named}

-- a name for a term, of a type
abbrev pub definition : Word → SoftType → Term → Definition
definition w ty t = record { name = w.spelling; ty = ty; term = t }

-- the type that has the radix and no adjectives
abbrev pub of_radix : Radix → SoftType
of_radix r = record { adjectives = []; radix = r }

-- a name for the term, of the first radix of the term's chain
pub data Defines (e : Environment) (c : Context) (w : Word) (t : Term) : Definition → Type 0 where
  defines : (r : Radix) (rs : List Radix) → IsChain (typing e c) e c t (r ∷ rs) → Defines e c w t (definition w (of_radix r) t)

-- `x = t` in `set`: the term, and the name for it. After a refusal anything may be left.
pub data NamedRead (e : Environment) (c : Context) (least : ℕ) (left : Left) (n : NamedTermTree) : Result Definition Refusal → Left → Type 0 where
  term_refused : (r : Refusal) (after : Left) → TermRead e c least left n.term (Err r) after → NamedRead e c least left n (Err r) after
  term_read : (t : Term) (d : Definition) (after : Left) → TermRead e c least left n.term (Ok t) after → Defines e c n.name t d → NamedRead e c least left n (Ok d) after

-- terms that are read one after another, all in the same context, behind those that were
pub data TermsReadBehind (e : Environment) (c : Context) (least : ℕ) : Left → List TermData → List Term → Result (List Term) Refusal → Left → Type 0 where
  no_more : (left : Left) (before : List Term) → TermsReadBehind e c least left [] before (Ok before) left
  one_refused : (left after : Left) (t : TermData) (ts : List TermData) (before : List Term) (r : Refusal) →
      TermRead e c least left t (Err r) after → TermsReadBehind e c least left (t ∷ ts) before (Err r) after
  one_read : (left between after : Left) (t : TermData) (ts : List TermData) (before : List Term) (u : Term) (o : Result (List Term) Refusal) →
      TermRead e c least left t (Ok u) between → TermsReadBehind e c least between ts (before ++ u ∷ []) o after → TermsReadBehind e c least left (t ∷ ts) before o after

abbrev pub TermsRead : Environment → Context → ℕ → Left → List TermData → Result (List Term) Refusal → Left → Type 0
TermsRead e c least left ts = TermsReadBehind e c least left ts []

-- an identifier as a term
abbrev pub identifier_term : Word → TermData
identifier_term w = RunTerm (OperandPiece (prefixs_of []) (IdentifierBase w)) (pieces_of [])

-- what is retyped, and its name: `x` alone is `x = x`
abbrev pub retyped_term : RetypedTree → TermData
retyped_term (Itself w) = identifier_term w
retyped_term (Named n) = n.term

abbrev pub retyped_name : RetypedTree → Word
retyped_name (Itself w) = w
retyped_name (Named n) = n.name

-- the names for the terms, all of the type
abbrev pub retyped : SoftType → List RetypedTree → List Term → List Definition
retyped ty [] ts = []
retyped ty (x ∷ xs) [] = []
retyped ty (x ∷ xs) (t ∷ ts) = definition (retyped_name x) ty t ∷ retyped ty xs ts

-- `reconsider`: all terms in their order, then the type, once
pub data RetypedRead (e : Environment) (c : Context) (least : ℕ) (left : Left) (xs : List RetypedTree) (ty : TypeData) : Result (List Definition) Refusal → Left → Type 0 where
  term_refused : (r : Refusal) (after : Left) → TermsRead e c least left (map retyped_term xs) (Err r) after → RetypedRead e c least left xs ty (Err r) after
  type_refused : (ts : List Term) (r : Refusal) (between after : Left) → TermsRead e c least left (map retyped_term xs) (Ok ts) between →
      TypeRead e c least between ty (Err r) after → RetypedRead e c least left xs ty (Err r) after
  both_read : (ts : List Term) (t : SoftType) (between after : Left) → TermsRead e c least left (map retyped_term xs) (Ok ts) between →
      TypeRead e c least between ty (Ok t) after → RetypedRead e c least left xs ty (Ok (retyped t xs ts)) after

-- the further sides of an iterative equality, which are read where the free reserved variables of its first equation are
-- constants
abbrev pub side_of : EqualityStepTree → TermData
side_of l = l.term

abbrev pub SidesRead : Environment → Context → ℕ → Left → List Variable → List EqualityStepTree → Result (List Term) Refusal → Left → Type 0
SidesRead e c least left vs ls = TermsRead e (with_variables c vs) least left (map side_of ls)
