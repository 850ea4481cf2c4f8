-- What can be told of an iterative equality of which a side isn't read: of the equations in front of that side, and of the instances
-- that justifications make for them, whether they keep the limits.
use Rattle.std.specs.Prelude.{◌≡◌, ◌&&◌, Bool, true, false, List, [], ◌∷◌, ◌++◌, map, Option, Some, None, Result, Ok, Err}
use Rattle.mz_logic.specs.Term.{Term}
use Rattle.mz_core.specs.Statement.{Statement, Truth, Eq, Atom, Not, And, For}
use Rattle.mz_core.specs.declared.outcome.Left.{Left}
use Rattle.mz_context.specs.Context.{next}
use Rattle.mz_context.specs.declared.context.Context.{Context}
use Rattle.mz_environment.specs.declared.environment.Environment.{Environment}
use Rattle.mz_names.specs.Closing.{for_all, with_variables}
use Rattle.mz_names.specs.declared.refusal.Refusal.{Refusal}
use Rattle.mz_formulas.specs.declared.sentence.Sentence.{Sentence}
use Rattle.mz_tree.specs.Trees.{TermData}
use Rattle.mz_resolve.specs.Calls.{TermRead, SentenceRead}
use Rattle.mz_steps.specs.Equalities.{neighbours}
use Rattle.mz_tree_proof.specs.Reasoning.{JustData, SimpleJust, ProofJust}
use Rattle.mz_tree_proof.specs.declared.equality_step.EqualityStepTree.{EqualityStepTree}
use Rattle.mz_tree_proof.specs.declared.propositions.PropositionTree.{PropositionTree}
use Rattle.mz_parts.specs.Named.{side_of}
use Rattle.mz_justified.specs.Kept.{justification_keeps}
use Rattle.mz_walk.specs.Within.{all_kept}
use Rattle.mz_walk.specs.Compact.{sides_keep}

-- the terms that are read of these, one after another, up to the first that isn't; they stand behind those before
pub data TermsBegun (e : Environment) (c : Context) : Left → List TermData → List Term → List Term → Type 0 where
  no_more : (left : Left) (before : List Term) → TermsBegun e c left [] before before
  one_not_read : (left after : Left) (t : TermData) (ts : List TermData) (before : List Term) (r : Refusal) → TermRead e c 0 left t (Err r) after → TermsBegun e c left (t ∷ ts) before before
  one_read : (left between : Left) (t : TermData) (ts : List TermData) (before all : List Term) (u : Term) →
      TermRead e c 0 left t (Ok u) between → TermsBegun e c between ts (before ++ u ∷ []) all → TermsBegun e c left (t ∷ ts) before all

-- the equations of these further sides behind the formula; behind one that is no equation there are none
abbrev pub equations_behind : Statement → List Term → List Statement
equations_behind Truth us = []
equations_behind (Eq t u) us = neighbours u us
equations_behind (Atom s ts) us = []
equations_behind (Not s) us = []
equations_behind (And s t) us = []
equations_behind (For ty s) us = []

-- they are closed over the free reserved variables of the first formula, as all equations of the step are
abbrev pub equations_begun : Context → Sentence → List Term → List Statement
equations_begun c x us = map (for_all (next c) x.variables) (equations_behind x.inner us)

-- whether the instances that the first justification makes for the sentence keep the limits; a proof makes none
abbrev pub first_keeps : Environment → Context → Bool → JustData → Statement → Bool
first_keeps e c linked (SimpleJust t) s = justification_keeps e c linked t s
first_keeps e c linked (ProofJust p ds end) s = true

-- and the equations themselves, and those that the justifications of further sides make for them
abbrev pub further_keep : Environment → Context → List EqualityStepTree → Option (List Statement) → Bool
further_keep e c ks None = false
further_keep e c ks (Some ss) = sides_keep e c ks ss

abbrev pub begun_keep : Environment → Context → Bool → JustData → List EqualityStepTree → Sentence → List Term → Bool
begun_keep e c linked j ks x us = first_keeps e c linked j x.closed && further_keep e c ks (all_kept (equations_begun c x us))

-- whether all of them keep the limits, as far as the step is read: its sentence, and its further sides up to the first that isn't read
pub data KeepsAhead (e : Environment) (c : Context) (linked : Bool) (left : Left) (p : PropositionTree) (j : JustData) (ks : List EqualityStepTree) : Bool → Type 0 where
  not_begun : (r : Refusal) (after : Left) → SentenceRead e c 0 left p.formula (Err r) after → KeepsAhead e c linked left p j ks true
  begun : (x : Sentence) (after : Left) (us : List Term) → SentenceRead e c 0 left p.formula (Ok x) after →
      TermsBegun e (with_variables c x.variables) after (map side_of ks) [] us → KeepsAhead e c linked left p j ks (begun_keep e c linked j ks x us)
