-- Propositions: sentences with labels or without. Each is closed over its own free reserved variables.
use Rattle.std.specs.Prelude.{ℕ, List, [], ◌∷◌, ◌++◌, map, Option, Some, None, Result, Ok, Err}
use Rattle.mz_core.specs.declared.outcome.Left.{Left}
use Rattle.mz_context.specs.declared.context.Context.{Context}
use Rattle.mz_context.specs.declared.labelled.LabelledStatement.{LabelledStatement}
use Rattle.mz_environment.specs.declared.environment.Environment.{Environment}
use Rattle.mz_names.specs.declared.refusal.Refusal.{Refusal}
use Rattle.mz_formulas.specs.declared.sentence.Sentence.{Sentence}
use Rattle.mz_resolve.specs.Calls.{SentenceRead}
use Rattle.mz_tree_proof.specs.declared.references.LabelTree.{LabelTree}
use Rattle.mz_tree_proof.specs.declared.propositions.PropositionTree.{PropositionTree}
use Rattle.mz_tree_proof.specs.declared.propositions.AndPropositionTree.{AndPropositionTree}
use Rattle.mz_tree_proof.specs.declared.propositions.PropositionsTree.{PropositionsTree}
use Rattle.mz_tree_proof.specs.declared.propositions.HypothesesTree.{HypothesesTree}
use Rattle.mz_tree_proof.specs.declared.propositions.HypothesesTree.TheVariants.{One, That}

-- the label, which is empty where none is written
abbrev pub label_in : Option LabelTree → List ℕ
label_in None = []
label_in (Some l) = l.name.spelling

-- the closed sentence of a proposition under its label
abbrev pub stated_by : PropositionTree → Sentence → LabelledStatement
stated_by p s = record { label = label_in p.label; statement = s.closed }

-- propositions that are read one after another, all in the same context, behind those that were. After a refusal anything may
-- be left.
pub data PropositionsReadBehind (e : Environment) (c : Context) (least : ℕ) : Left → List PropositionTree → List LabelledStatement → Result (List LabelledStatement) Refusal → Left → Type 0 where
  no_more : (left : Left) (before : List LabelledStatement) → PropositionsReadBehind e c least left [] before (Ok before) left
  one_refused : (left after : Left) (p : PropositionTree) (ps : List PropositionTree) (before : List LabelledStatement) (r : Refusal) →
      SentenceRead e c least left p.formula (Err r) after → PropositionsReadBehind e c least left (p ∷ ps) before (Err r) after
  one_read : (left between after : Left) (p : PropositionTree) (ps : List PropositionTree) (before : List LabelledStatement) (s : Sentence) (o : Result (List LabelledStatement) Refusal) →
      SentenceRead e c least left p.formula (Ok s) between → PropositionsReadBehind e c least between ps (before ++ stated_by p s ∷ []) o after →
      PropositionsReadBehind e c least left (p ∷ ps) before o after

abbrev pub PropositionsRead : Environment → Context → ℕ → Left → List PropositionTree → Result (List LabelledStatement) Refusal → Left → Type 0
PropositionsRead e c least left ps = PropositionsReadBehind e c least left ps []

-- those that were read, or the refusal
abbrev pub all_read : {X Y : Type 0} → Result X Refusal → List Y → Result (List Y) Refusal
all_read (Ok x) ys = Ok ys
all_read (Err r) ys = Err r

-- the propositions with `and` between them, and those of what is assumed
abbrev pub behind_and : AndPropositionTree → PropositionTree
behind_and p = p.proposition

abbrev pub propositions_in : PropositionsTree → List PropositionTree
propositions_in ps = ps.first ∷ map behind_and ps.more

abbrev pub hypotheses_in : HypothesesTree → List PropositionTree
hypotheses_in (One p) = p ∷ []
hypotheses_in (That that ps) = propositions_in ps
