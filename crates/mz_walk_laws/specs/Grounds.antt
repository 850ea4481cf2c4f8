-- What the soundness of reasonings rests on.
use Rattle.std.specs.Prelude.{◌≡◌, List, ◌∷◌, ◌++◌, Some, None, Ok, Contains}
use Rattle.mz_logic.specs.Term.{Term}
use Rattle.mz_logic.specs.Formula.{Formula}
use Rattle.mz_core.specs.Statement.{Statement}
use Rattle.mz_core.specs.declared.outcome.Left.{Left}
use Rattle.mz_core.specs.declared.radix.Radix.{Radix}
use Rattle.mz_core.specs.declared.soft_type.SoftType.{SoftType}
use Rattle.mz_context.specs.Context.{next}
use Rattle.mz_context.specs.Changes.{with_constant}
use Rattle.mz_context.specs.declared.constants.Constant.{Constant}
use Rattle.mz_context.specs.declared.context.Context.{Context}
use Rattle.mz_context.specs.declared.labelled.LabelledStatement.{LabelledStatement}
use Rattle.mz_context.specs.declared.letters.NamedLetter.{NamedLetter}
use Rattle.mz_context.specs.declared.private.PrivateFunctor.{PrivateFunctor}
use Rattle.mz_context.specs.declared.private.PrivatePredicate.{PrivatePredicate}
use Rattle.mz_ground.specs.declared.clause.Clause.{Clause}
use Rattle.mz_environment.specs.declared.environment.Environment.{Environment}
use Rattle.mz_types.specs.Known.{letters_clauses, typing}
use Rattle.mz_types.specs.Chain.{IsChain}
use Rattle.mz_chain_laws.specs.ChainLaw.{HasChainClauses, HasClosedRadices, as_type}
use Rattle.mz_tree.specs.Trees.{TermData, TypeData, FormulaData}
use Rattle.mz_tree.specs.declared.word.Word.{Word}
use Rattle.mz_formulas.specs.Declarations.{reserved_variable}
use Rattle.mz_formulas.specs.declared.sentence.Sentence.{Sentence}
use Rattle.mz_names.specs.declared.variable.Variable.{Variable}
use Rattle.mz_resolve.specs.Calls.{TermRead, TypeRead, SentenceRead}
use Rattle.mz_tree_proof.specs.declared.introduction.DeffuncTree.{DeffuncTree}
use Rattle.mz_tree_proof.specs.declared.introduction.DefpredTree.{DefpredTree}
use Rattle.mz_private.specs.Private.{FunctorRead, PredicateRead, with_functor, with_predicate}
use Rattle.mz_thesis_laws.specs.StepLaws.{AreUnfoldings}
use Rattle.mz_steps.specs.Changes.{statement_of, with_stated}
use Rattle.mz_block_laws.specs.Orders.{TermStands, TypeStands, Stands, AllStand, EqualStands, IsInOrder}
use Rattle.mz_block_laws.specs.Met.{AreHeld, AreTheorems, AreSchemes}

-- axioms; the clauses that `by` uses, in the order of an article; an environment; and the scheme's letters that are in force
pub record Basis : Type 0 where
  pub axioms : List Formula
  pub clauses : List Clause
  pub env : Environment
  pub letters : List NamedLetter

-- the clauses and the theorems derive from what is held, what the unfoldings say from the axioms, and so does each scheme: from its
-- letters' types and its premises its conclusion; and clauses say what the rows do by which chains go
pub record IsGrounded (b : Basis) (held : List Formula) : Type 0 where
  pub typing_clauses : AreHeld b.axioms held (b.env.typing ++ letters_clauses b.letters)
  pub clauses : AreHeld b.axioms held b.clauses
  pub steps : AreUnfoldings b.axioms b.env.steps
  pub expansions : AreUnfoldings b.axioms b.env.expansions
  pub theorems : AreTheorems b.axioms held b.env
  pub schemes : AreSchemes b.axioms b.env
  pub chains : (c : Context) → c.letters ≡ b.letters → HasChainClauses (typing b.env c) b.env c

-- What is asked of the contexts in which expressions are read, for some property of contexts: what is read in one that has it
-- stands, its thesis stands, and it is kept by each change where what is put into the context stands.
pub record ReadsWell (e : Environment) (whole : Context → Type 0) : Type 0 where
  pub term : (c : Context) → whole c → (l m : Left) (t : TermData) (u : Term) → TermRead e c 0 l t (Ok u) m → TermStands (next c) u
  pub type_of : (c : Context) → whole c → (l m : Left) (t : TypeData) (s : SoftType) → TypeRead e c 0 l t (Ok s) m → TypeStands (next c) s
  pub sentence : (c : Context) → whole c → (l m : Left) (f : FormulaData) (x : Sentence) → SentenceRead e c 0 l f (Ok x) m → AllStand (next c) x.variables x.inner
  pub reserved : (c : Context) → whole c → (w : Word) (v : Variable) → reserved_variable 0 c w ≡ Ok v → TypeStands (next c) v.ty
  pub chain : (c : Context) → whole c → (t : Term) → TermStands (next c) t → (r : Radix) (rs : List Radix) → IsChain (typing e c) e c t (r ∷ rs) → TypeStands (next c) (as_type r)
  pub radices : (c : Context) → whole c → HasClosedRadices c
  pub thesis : (c : Context) → whole c → (s : Statement) → c.thesis ≡ Some s → Stands (next c) s
  pub with_one : (c : Context) → whole c → (k : Constant) → TypeStands (next c) k.ty → EqualStands (next c) k.equal → whole (with_constant c k)
  pub with_some : (c : Context) → whole c → (ps : List LabelledStatement) → ((p : LabelledStatement) → Contains ps p → Stands (next c) (statement_of p)) → whole (with_stated c ps)
  pub posed : (c : Context) → whole c → (s : Statement) → Stands (next c) s → whole (record c { thesis = Some s })
  pub with_functor_read : (c : Context) → whole c → (l m : Left) (t : DeffuncTree) (f : PrivateFunctor) → FunctorRead e c 0 l t (Ok f) m → whole (with_functor c f)
  pub with_predicate_read : (c : Context) → whole c → (l m : Left) (t : DefpredTree) (p : PrivatePredicate) → PredicateRead e c 0 l t (Ok p) m → whole (with_predicate c p)
  pub unlinked : (c : Context) → whole c → whole (record c { previous = None })

-- a context in which one may reason
pub record IsProper (whole : Context → Type 0) (b : Basis) (held : List Formula) (c : Context) : Type 0 where
  pub is_whole : whole c
  pub order : IsInOrder held c
  pub letters : c.letters ≡ b.letters
