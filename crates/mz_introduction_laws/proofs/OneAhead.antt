-- What is told ahead of a side that isn't read is determined.
use Rattle.std.proofs.Common.{◌≡◌, Bool, true, List, [], ◌∷◌, ◌++◌, map, refl}
use Rattle.std.specs.Prelude.{Result, Ok, Err}
use Rattle.mz_logic.specs.Term.{Term}
use Rattle.mz_core.specs.declared.outcome.Left.{Left}
use Rattle.mz_context.specs.declared.context.Context.{Context}
use Rattle.mz_environment.specs.declared.environment.Environment.{Environment}
use Rattle.mz_names.specs.Closing.{with_variables}
use Rattle.mz_names.specs.declared.refusal.Refusal.{Refusal}
use Rattle.mz_formulas.specs.declared.sentence.Sentence.{Sentence}
use Rattle.mz_tree.specs.Trees.{TermData}
use Rattle.mz_resolve.specs.Calls.{TermRead, SentenceRead}
use Rattle.mz_tree_proof.specs.Reasoning.{JustData}
use Rattle.mz_tree_proof.specs.declared.equality_step.EqualityStepTree.{EqualityStepTree}
use Rattle.mz_tree_proof.specs.declared.propositions.PropositionTree.{PropositionTree}
use Rattle.mz_parts.specs.Named.{side_of}
use Rattle.mz_justified_laws.specs.Determined.{AtMostOne}
use Rattle.mz_justified_laws.proofs.Sequence.{one_by, one_value, Makes, one_made, AfterRead, one_after_read}
use Rattle.mz_parts_laws.proofs.OneExpression.{one_term_read, one_sentence_read}
use Rattle.mz_walk.specs.Ahead as ah
use Rattle.mz_walk.specs.Ahead.{TermsBegun, begun_keep, KeepsAhead}
use Rattle.mz_introduction_laws.specs.Laws.{OneAheadLaw}

-- terms up to the first that isn't read
abbrev those_before : List Term → Refusal → List Term
those_before before r = before

abbrev BegunNext : Environment → Context → List TermData → List Term → Term → Left → List Term → Type 0
BegunNext e c ts before u l us = TermsBegun e c l ts (before ++ u ∷ []) us

abbrev BegunAs : Environment → Context → Left → List TermData → List Term → List Term → Type 0
BegunAs e c left [] before us = us ≡ before
BegunAs e c left (t ∷ ts) before us = AfterRead (TermRead e c 0 left t) (those_before before) (BegunNext e c ts before) us

begun_as : (e : Environment) (c : Context) (left : Left) (ts : List TermData) (before us : List Term) → TermsBegun e c left ts before us → BegunAs e c left ts before us
begun_as e c left ts before us (ah.no_more _ _) = refl
begun_as e c left ts before us (ah.one_not_read _ after t rest _ r h) = (Err r, after, h, refl)
begun_as e c left ts before us (ah.one_read _ between t rest _ _ u h k) = (Ok u, between, h, k)

one_begun : (e : Environment) (c : Context) (ts : List TermData) (left : Left) (before : List Term) → AtMostOne (TermsBegun e c left ts before)
one_begun e c [] left before = one_by (TermsBegun e c left [] before) (BegunAs e c left [] before) (begun_as e c left [] before) (one_value before)
one_begun e c (t ∷ ts) left before =
    one_by (TermsBegun e c left (t ∷ ts) before) (BegunAs e c left (t ∷ ts) before) (begun_as e c left (t ∷ ts) before)
    (one_after_read (TermRead e c 0 left t) (those_before before) (BegunNext e c ts before) (one_term_read e c 0 left t) (λ (u : Term) (l : Left). one_begun e c ts l (before ++ u ∷ [])))

-- whether what can be made of them keeps the limits
abbrev none_made : Refusal → Bool
none_made r = true

abbrev KeepsNext : Environment → Context → Bool → JustData → List EqualityStepTree → Sentence → Left → Bool → Type 0
KeepsNext e c linked j ks x l b = Makes (TermsBegun e (with_variables c x.variables) l (map side_of ks) []) (begun_keep e c linked j ks x) b

abbrev KeepsAs : Environment → Context → Bool → Left → PropositionTree → JustData → List EqualityStepTree → Bool → Type 0
KeepsAs e c linked left p j ks b = AfterRead (SentenceRead e c 0 left p.formula) none_made (KeepsNext e c linked j ks) b

keeps_as : (e : Environment) (c : Context) (linked : Bool) (left : Left) (p : PropositionTree) (j : JustData) (ks : List EqualityStepTree) (b : Bool) → KeepsAhead e c linked left p j ks b → KeepsAs e c linked left p j ks b
keeps_as e c linked left p j ks b (ah.not_begun r after h) = (Err r, after, h, refl)
keeps_as e c linked left p j ks b (ah.begun x after us h k) = (Ok x, after, h, (us, k, refl))

pub one_ahead : OneAheadLaw
one_ahead e c linked left p j ks =
    one_by (KeepsAhead e c linked left p j ks) (KeepsAs e c linked left p j ks) (keeps_as e c linked left p j ks)
    (one_after_read (SentenceRead e c 0 left p.formula) none_made (KeepsNext e c linked j ks) (one_sentence_read e c 0 left p.formula)
    (λ (x : Sentence) (l : Left). one_made (TermsBegun e (with_variables c x.variables) l (map side_of ks) []) (begun_keep e c linked j ks x) (one_begun e (with_variables c x.variables) (map side_of ks) l [])))
