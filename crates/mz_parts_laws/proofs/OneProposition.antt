-- What propositions, and what `given` and `consider` introduce, are read to, and what the article has left behind them, is
-- determined.
use Rattle.std.proofs.Common.{ℕ, List, [], ◌∷◌, ◌++◌, refl, sym, ap, ◌∙◌}
use Rattle.std.specs.Prelude.{Result, Ok, Err}
use Rattle.mz_base.specs.declared.place.Place.{Place}
use Rattle.mz_core.specs.declared.outcome.Left.{Left}
use Rattle.mz_context.specs.Context.{next}
use Rattle.mz_context.specs.declared.context.Context.{Context}
use Rattle.mz_context.specs.declared.labelled.LabelledStatement.{LabelledStatement}
use Rattle.mz_environment.specs.declared.environment.Environment.{Environment}
use Rattle.mz_names.specs.Closing.{with_variables}
use Rattle.mz_names.specs.declared.refusal.Refusal.{Refusal}
use Rattle.mz_names.specs.declared.variable.Variable.{Variable}
use Rattle.mz_formulas.specs.declared.sentence.Sentence.{Sentence}
use Rattle.mz_tree.specs.Trees.{DeclarationsData}
use Rattle.mz_tree_proof.specs.declared.propositions.PropositionTree.{PropositionTree}
use Rattle.mz_tree_proof.specs.declared.propositions.PropositionsTree.{PropositionsTree}
use Rattle.mz_resolve.specs.Calls.{SentenceRead}
use Rattle.mz_parts.specs.Declarations.{DeclarationsRead}
use Rattle.mz_parts.specs.Propositions as pr
use Rattle.mz_parts.specs.Propositions.{stated_by, PropositionsReadBehind, PropositionsRead, propositions_in}
use Rattle.mz_parts.specs.Described as de
use Rattle.mz_parts.specs.Described.{with_existential, with_joined, described_by, DescriptionRead}
use Rattle.mz_parts.specs.declared.described.Description.{Description}
use Rattle.mz_justified_laws.specs.Determined.{IsDetermined}
use Rattle.mz_justified_laws.proofs.Sequence.{determined_by, IsValue, determined_value, ThenRead, determined_then, as_it_is}
use Rattle.mz_parts_laws.specs.Laws.{OnePropositionsLaw, OneDescriptionLaw}
use Rattle.mz_parts_laws.proofs.OneExpression.{one_sentence_read}
use Rattle.mz_parts_laws.proofs.OneDeclaration.{one_declarations}

-- propositions one after another
abbrev BehindNext : Environment → Context → ℕ → PropositionTree → List PropositionTree → List LabelledStatement → Sentence → Left → Result (List LabelledStatement) Refusal → Left → Type 0
BehindNext e c least x xs before s l = PropositionsReadBehind e c least l xs (before ++ stated_by x s ∷ [])

abbrev BehindAs : Environment → Context → ℕ → Left → List PropositionTree → List LabelledStatement → Result (List LabelledStatement) Refusal → Left → Type 0
BehindAs e c least left [] before o a = IsValue (Ok before) left o a
BehindAs e c least left (x ∷ xs) before o a = ThenRead (SentenceRead e c least left x.formula) as_it_is (BehindNext e c least x xs before) o a

behind_as : (e : Environment) (c : Context) (least : ℕ) (left : Left) (xs : List PropositionTree) (before : List LabelledStatement) (o : Result (List LabelledStatement) Refusal) (a : Left) →
    PropositionsReadBehind e c least left xs before o a → BehindAs e c least left xs before o a
behind_as e c least left xs before o a (pr.no_more _ _) = (refl, refl)
behind_as e c least left xs before o a (pr.one_refused _ _ x rest _ r h) = (Err r, a, h, refl)
behind_as e c least left xs before o a (pr.one_read _ between _ x rest _ s _ h k) = (Ok s, between, h, k)

one_behind : (e : Environment) (c : Context) (least : ℕ) (xs : List PropositionTree) (left : Left) (before : List LabelledStatement) → IsDetermined (PropositionsReadBehind e c least left xs before)
one_behind e c least [] left before =
    determined_by (PropositionsReadBehind e c least left [] before) (BehindAs e c least left [] before) (behind_as e c least left [] before) (determined_value (Ok before) left)
one_behind e c least (x ∷ xs) left before =
    determined_by (PropositionsReadBehind e c least left (x ∷ xs) before) (BehindAs e c least left (x ∷ xs) before) (behind_as e c least left (x ∷ xs) before)
    (determined_then (SentenceRead e c least left x.formula) as_it_is (BehindNext e c least x xs before) (one_sentence_read e c least left x.formula)
    (λ (s : Sentence) (l : Left). one_behind e c least xs l (before ++ stated_by x s ∷ [])))

pub one_propositions : OnePropositionsLaw
one_propositions e c least left ps = one_behind e c least ps left []

-- what `given` and `consider` introduce
abbrev JoinedNext : Context → Place → List Variable → List LabelledStatement → Left → Result Description Refusal → Left → Type 0
JoinedNext c first vs qs l = IsValue (described_by first (next c) vs qs) l

abbrev StatedNext : Environment → Context → ℕ → Place → PropositionsTree → List Variable → Left → Result Description Refusal → Left → Type 0
StatedNext e c least first ps vs l = ThenRead (PropositionsRead e (with_variables c vs) least l (propositions_in ps)) as_it_is (JoinedNext c first vs)

abbrev DescriptionAs : Environment → Context → ℕ → Left → Place → DeclarationsData → PropositionsTree → Result Description Refusal → Left → Type 0
DescriptionAs e c least left first ds ps = ThenRead (DeclarationsRead e c least left ds) as_it_is (StatedNext e c least first ps)

description_as : (e : Environment) (c : Context) (least : ℕ) (left : Left) (first : Place) (ds : DeclarationsData) (ps : PropositionsTree) (o : Result Description Refusal) (a : Left) →
    DescriptionRead e c least left first ds ps o a → DescriptionAs e c least left first ds ps o a
description_as e c least left first ds ps o a (de.not_declared r _ h) = (Err r, a, h, refl)
description_as e c least left first ds ps o a (de.not_stated vs r between _ h k) = (Ok vs, between, h, (Err r, a, k, refl))
description_as e c least left first ds ps o a (de.too_large vs qs r between _ h k j) = (Ok vs, between, h, (Ok qs, a, k, (sym (ap (with_joined first (next c) vs qs) j), refl)))
description_as e c least left first ds ps o a (de.existential_too_large vs qs s r between _ h k j x) =
    (Ok vs, between, h, (Ok qs, a, k, (sym (ap (with_joined first (next c) vs qs) j ∙ ap (with_existential vs qs s) x), refl)))
description_as e c least left first ds ps o a (de.described vs qs s there between _ h k j x) =
    (Ok vs, between, h, (Ok qs, a, k, (sym (ap (with_joined first (next c) vs qs) j ∙ ap (with_existential vs qs s) x), refl)))

pub one_description : OneDescriptionLaw
one_description e c least left first ds ps =
    determined_by (DescriptionRead e c least left first ds ps) (DescriptionAs e c least left first ds ps) (description_as e c least left first ds ps)
    (determined_then (DeclarationsRead e c least left ds) as_it_is (StatedNext e c least first ps) (one_declarations e c least left ds)
    (λ (vs : List Variable) (l : Left). determined_then (PropositionsRead e (with_variables c vs) least l (propositions_in ps)) as_it_is (JoinedNext c first vs) (one_propositions e (with_variables c vs) least l (propositions_in ps))
    (λ (qs : List LabelledStatement) (m : Left). determined_value (described_by first (next c) vs qs) m)))
