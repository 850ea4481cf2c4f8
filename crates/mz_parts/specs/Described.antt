-- What `given` and `consider` introduce: variables, and propositions about them.
use Rattle.std.specs.Prelude.{◌≡◌, ℕ, List, Result, Ok, Err}
use Rattle.mz_base.specs.declared.place.Place.{Place}
use Rattle.mz_core.specs.Statement.{Statement}
use Rattle.mz_core.specs.declared.outcome.Left.{Left}
use Rattle.mz_context.specs.Context.{next}
use Rattle.mz_context.specs.declared.context.Context.{Context}
use Rattle.mz_context.specs.declared.labelled.LabelledStatement.{LabelledStatement}
use Rattle.mz_environment.specs.declared.environment.Environment.{Environment}
use Rattle.mz_names.specs.Closing.{with_variables}
use Rattle.mz_names.specs.declared.refusal.Refusal.{Refusal}
use Rattle.mz_names.specs.declared.variable.Variable.{Variable}
use Rattle.mz_tree.specs.Trees.{DeclarationsData}
use Rattle.mz_tree_proof.specs.declared.propositions.PropositionsTree.{PropositionsTree}
use Rattle.mz_joined.specs.Bound.{there_are_within}
use Rattle.mz_parts.specs.Declarations.{DeclarationsRead}
use Rattle.mz_parts.specs.Propositions.{PropositionsRead, propositions_in}
use Rattle.mz_parts.specs.Joined.{joined_within}
use Rattle.mz_parts.specs.declared.described.Description.{Description}

-- the variables, the propositions, and their conjunction, in which the variables are the next constants
abbrev pub description : List Variable → List LabelledStatement → Statement → Description
description vs ps s = record { variables = vs; propositions = ps; statement = s }

-- it, where the conjunction is within the limits, and so is that there are such objects; the variables are the constants from n
-- on, and `first` is the place of the step's first token
abbrev pub with_existential : List Variable → List LabelledStatement → Statement → Result Statement Refusal → Result Description Refusal
with_existential vs ps s (Err r) = Err r
with_existential vs ps s (Ok there) = Ok (description vs ps s)

abbrev pub with_joined : Place → ℕ → List Variable → List LabelledStatement → Result Statement Refusal → Result Description Refusal
with_joined first n vs ps (Err r) = Err r
with_joined first n vs ps (Ok s) = with_existential vs ps s (there_are_within first n vs s)

abbrev pub described_by : Place → ℕ → List Variable → List LabelledStatement → Result Description Refusal
described_by first n vs ps = with_joined first n vs ps (joined_within first ps)

-- the declarations are read, then the propositions with the variables in force; then the conjunction, and that there are such
-- objects, must be within the limits. `first` is the place of the step's first token.
pub data DescriptionRead (e : Environment) (c : Context) (least : ℕ) (left : Left) (first : Place) (ds : DeclarationsData) (ps : PropositionsTree) : Result Description Refusal → Left → Type 0 where
  not_declared : (r : Refusal) (after : Left) → DeclarationsRead e c least left ds (Err r) after → DescriptionRead e c least left first ds ps (Err r) after
  not_stated : (vs : List Variable) (r : Refusal) (between after : Left) → DeclarationsRead e c least left ds (Ok vs) between →
      PropositionsRead e (with_variables c vs) least between (propositions_in ps) (Err r) after → DescriptionRead e c least left first ds ps (Err r) after
  too_large : (vs : List Variable) (qs : List LabelledStatement) (r : Refusal) (between after : Left) → DeclarationsRead e c least left ds (Ok vs) between →
      PropositionsRead e (with_variables c vs) least between (propositions_in ps) (Ok qs) after → joined_within first qs ≡ Err r → DescriptionRead e c least left first ds ps (Err r) after
  existential_too_large : (vs : List Variable) (qs : List LabelledStatement) (s : Statement) (r : Refusal) (between after : Left) → DeclarationsRead e c least left ds (Ok vs) between →
      PropositionsRead e (with_variables c vs) least between (propositions_in ps) (Ok qs) after → joined_within first qs ≡ Ok s → there_are_within first (next c) vs s ≡ Err r →
      DescriptionRead e c least left first ds ps (Err r) after
  described : (vs : List Variable) (qs : List LabelledStatement) (s there : Statement) (between after : Left) → DeclarationsRead e c least left ds (Ok vs) between →
      PropositionsRead e (with_variables c vs) least between (propositions_in ps) (Ok qs) after → joined_within first qs ≡ Ok s → there_are_within first (next c) vs s ≡ Ok there →
      DescriptionRead e c least left first ds ps (Ok (description vs qs s)) after
