-- Compact statements as they are read: a proposition, or an iterative equality t0 = t1 .= t2 .. .= tn.
use Rattle.std.specs.Prelude.{◌≡◌, ◌&&◌, ℕ, Bool, true, false, List, [], ◌∷◌, map, Option, Some, None, Result, Ok, Err}
use Rattle.mz_base.specs.declared.place.Place.{Place}
use Rattle.mz_logic.specs.Term.{Term}
use Rattle.mz_core.specs.Statement.{Statement, Truth, Eq, Atom, Not, And, For}
use Rattle.mz_core.specs.declared.outcome.Left.{Left}
use Rattle.mz_context.specs.Context.{next}
use Rattle.mz_context.specs.declared.context.Context.{Context}
use Rattle.mz_context.specs.declared.labelled.LabelledStatement.{LabelledStatement}
use Rattle.mz_environment.specs.declared.environment.Environment.{Environment}
use Rattle.mz_names.specs.Closing.{for_all}
use Rattle.mz_names.specs.declared.refusal.Refusal.{Refusal}
use Rattle.mz_names.specs.declared.refusal.Refusal.TheVariants.{TooLarge}
use Rattle.mz_names.specs.declared.variable.Variable.{Variable}
use Rattle.mz_formulas.specs.declared.sentence.Sentence.{Sentence}
use Rattle.mz_resolve.specs.Calls.{SentenceRead}
use Rattle.mz_steps.specs.Equalities.{neighbours, ends_equal}
use Rattle.mz_tree_proof.specs.declared.equality_step.EqualityStepTree.{EqualityStepTree}
use Rattle.mz_tree_proof.specs.declared.propositions.PropositionTree.{PropositionTree}
use Rattle.mz_obligations.specs.declared.obligation.Extent.{Extent}
use Rattle.mz_obligations.specs.declared.obligation.Obligation.{Obligation}
use Rattle.mz_parts.specs.Named.{SidesRead}
use Rattle.mz_parts.specs.Propositions.{label_in}
use Rattle.mz_justified.specs.Kept.{justification_keeps}
use Rattle.mz_justified.specs.Justified.{Justified}
use Rattle.mz_justified.specs.declared.proof_fault.ProofRefusal.{ProofRefusal}
use Rattle.mz_justified.specs.declared.proof_fault.ProofRefusal.TheVariants.{StepNoFit, Resolve}
use Rattle.mz_walk.specs.declared.compact.Compact.{Compact}
use Rattle.mz_walk.specs.declared.compact.Said.{Said}
use Rattle.mz_walk.specs.Within.{all_kept}
use Rattle.mz_walk.specs.Walked.{Walked, Made, Refused, behind}

-- an equation of the logic
abbrev pub is_equation : Statement → Bool
is_equation Truth = false
is_equation (Eq t u) = true
is_equation (Atom s ts) = false
is_equation (Not s) = false
is_equation (And s t) = false
is_equation (For ty s) = false

-- what is stated, and what further sides have to justify, one equation each
abbrev pub saying : Statement → List Statement → Said
saying s ss = record { states = s; further = ss }

-- a compact statement as read: the sentence that is justified first, and what is said by it
abbrev pub compact : Sentence → Said → Compact
compact x p = record { sentence = x; said = p }

-- what an iterative equality states, that the first side is equal to the last, and the equations of its further sides. The free
-- reserved variables of the first equation, which are the constants from n on, are those of all
abbrev pub equalities : Term → Term → List Term → List Statement
equalities t u us = ends_equal t (u ∷ us) ∷ neighbours u us

abbrev pub equalities_closed : ℕ → List Variable → Term → Term → List Term → List Statement
equalities_closed n vs t u us = map (for_all n vs) (equalities t u us)

-- a sentence with further sides: it has to be an equation, and all that is made of it keeps the limits
pub data EqualityMade (first : Place) (n : ℕ) (x : Sentence) (us : List Term) : Result Said ProofRefusal → Type 0 where
  no_equation : is_equation x.inner ≡ false → EqualityMade first n x us (Err (StepNoFit first))
  too_large : (t u : Term) → x.inner ≡ Eq t u → all_kept (equalities_closed n x.variables t u us) ≡ None → EqualityMade first n x us (Err (Resolve (TooLarge first)))
  equality : (t u : Term) (p : Said) → x.inner ≡ Eq t u → all_kept (equalities_closed n x.variables t u us) ≡ Some (p.states ∷ p.further) → EqualityMade first n x us (Ok p)

-- what is said as a list
abbrev pub listed : Option Said → Option (List Statement)
listed None = None
listed (Some p) = Some (p.states ∷ p.further)

-- the further sides of a sentence, which are all read before anything is made of them
pub data EqualityRead (e : Environment) (c : Context) (first : Place) (left : Left) (x : Sentence) (ks : List EqualityStepTree) : Result Said ProofRefusal → Left → Type 0 where
  sides_not_read : (r : Refusal) (m : Left) → SidesRead e c 0 left x.variables ks (Err r) m → EqualityRead e c first left x ks (Err (Resolve r)) m
  sides_read : (us : List Term) (m : Left) (o : Result Said ProofRefusal) → SidesRead e c 0 left x.variables ks (Ok us) m → EqualityMade first (next c) x us o → EqualityRead e c first left x ks o m

-- the compact statement of the sentence, by which this is said
abbrev pub said_of : Sentence → Result Said ProofRefusal → Result Compact ProofRefusal
said_of x (Ok p) = Ok (compact x p)
said_of x (Err r) = Err r

-- what the sentence and its further sides are read to
abbrev pub SaidBy : Environment → Context → Place → Left → Sentence → List EqualityStepTree → Result Compact ProofRefusal → Left → Type 0
SaidBy e c first left x ks o m = (q : Result Said ProofRefusal) × EqualityRead e c first left x ks q m × (o ≡ said_of x q)

-- the proposition, and the further sides, where there are some. `first` is the place of the step's first token. After a refusal
-- anything may be left
pub data CompactRead (e : Environment) (c : Context) (first : Place) (left : Left) (p : PropositionTree) : List EqualityStepTree → Result Compact ProofRefusal → Left → Type 0 where
  not_read : (ks : List EqualityStepTree) (r : Refusal) (l : Left) → SentenceRead e c 0 left p.formula (Err r) l → CompactRead e c first left p ks (Err (Resolve r)) l
  plain : (x : Sentence) (l : Left) → SentenceRead e c 0 left p.formula (Ok x) l → CompactRead e c first left p [] (Ok (compact x (saying x.closed []))) l
  iterative : (k : EqualityStepTree) (ks : List EqualityStepTree) (x : Sentence) (o : Result Compact ProofRefusal) (l m : Left) →
      SentenceRead e c 0 left p.formula (Ok x) l → SaidBy e c first l x (k ∷ ks) o m → CompactRead e c first left p (k ∷ ks) o m

-- what is stated, under the proposition's label
abbrev pub stated_under : List ℕ → Statement → LabelledStatement
stated_under label s = record { label = label; statement = s }

abbrev pub compact_stated : PropositionTree → Compact → LabelledStatement
compact_stated p x = stated_under (label_in p.label) x.said.states

-- the place of the token behind an equation: the sign before the next side, or the semicolon
abbrev pub place_behind : List EqualityStepTree → Place → Place
place_behind [] semicolon = semicolon
place_behind (k ∷ ks) semicolon = k.sign

-- whether the instances that the justifications of further sides make for their equations keep the limits
abbrev pub sides_keep : Environment → Context → List EqualityStepTree → List Statement → Bool
sides_keep e c [] ss = true
sides_keep e c (k ∷ ks) [] = true
sides_keep e c (k ∷ ks) (s ∷ ss) = justification_keeps e c false k.simple s && sides_keep e c ks ss

-- the equations of further sides, each justified behind its own one
pub data JustifiesSides (e : Environment) (at : Extent) (c : Context) (first semicolon : Place) : List EqualityStepTree → List Statement → Left → Walked Left → Type 0 where
  none_owed : (l : Left) → JustifiesSides e at c first semicolon [] [] l (Made [] l)
  not_justified : (k : EqualityStepTree) (ks : List EqualityStepTree) (s : Statement) (ss : List Statement) (l after : Left) (r : ProofRefusal) →
      Justified e at c first false (place_behind ks semicolon) k.simple s l (Err r) after → JustifiesSides e at c first semicolon (k ∷ ks) (s ∷ ss) l (Refused r)
  one_more : (k : EqualityStepTree) (ks : List EqualityStepTree) (s : Statement) (ss : List Statement) (l after : Left) (x : Obligation) (o : Walked Left) →
      Justified e at c first false (place_behind ks semicolon) k.simple s l (Ok x) after → JustifiesSides e at c first semicolon ks ss after o → JustifiesSides e at c first semicolon (k ∷ ks) (s ∷ ss) l (behind (x ∷ []) o)
