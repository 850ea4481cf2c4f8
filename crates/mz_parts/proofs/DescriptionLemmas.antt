-- What the code of `given` and `consider` tells.
use Rattle.std.proofs.Common.{◌≡◌, ℕ, List, refl, sym, ap, ◌∙◌, subst}
use Rattle.std.specs.Prelude.{Result, Ok, Err}
use Rattle.mz_base.specs.declared.place.Place.{Place}
use Rattle.mz_core.specs.Statement.{Statement}
use Rattle.mz_core.specs.declared.outcome.Left.{Left}
use Rattle.mz_context.specs.Context.{next}
use Rattle.mz_context.specs.declared.context.Context.{Context}
use Rattle.mz_context.specs.declared.labelled.LabelledStatement.{LabelledStatement}
use Rattle.mz_environment.specs.declared.environment.Environment.{Environment}
use Rattle.mz_names.specs.Closing.{with_variables}
use Rattle.mz_names.specs.declared.refusal.Refusal.{Refusal}
use Rattle.mz_names.specs.declared.variable.Variable.{Variable}
use Rattle.mz_choice.proofs.CoverLemmas.{told_left, grown_itself, grown_kept, grown_more}
use Rattle.mz_joined.specs.Bound.{there_are_within}
use Rattle.mz_resolve.specs.Answers.{OnRead}
use Rattle.mz_resolve.specs.declared.resolve_fault.ResolveFault.{ResolveFault}
use Rattle.mz_tree.specs.Trees.{DeclarationsData}
use Rattle.mz_tree_proof.specs.declared.propositions.PropositionsTree.{PropositionsTree}
use Rattle.mz_parts.specs.Declarations.{DeclarationsRead}
use Rattle.mz_parts.specs.Propositions.{PropositionsRead, propositions_in}
use Rattle.mz_parts.specs.Joined.{joined_within}
use Rattle.mz_parts.specs.Described as de
use Rattle.mz_parts.specs.Described.{description, with_existential, with_joined, described_by, DescriptionRead}
use Rattle.mz_parts.specs.declared.described.Description.{Description}
use Rattle.mz_parts.proofs.ReadLemmas.{read_by, refused_by}

pub told_not_declared : (e : Environment) (c : Context) (least : ℕ) (left after : Left) (first : Place) (ds : DeclarationsData) (ps : PropositionsTree) (p : Result (List Variable) ResolveFault) (f : ResolveFault) →
    OnRead p (λ o. DeclarationsRead e c least left ds o after) → p ≡ Err f → OnRead {X = Description} (Err f) (λ o. DescriptionRead e c least left first ds ps o after)
told_not_declared e c least left after first ds ps p f h ep =
    let P : Result (List Variable) Refusal → Type 0 = λ o. DeclarationsRead e c least left ds o after in
    let Q : Result Description Refusal → Type 0 = λ o. DescriptionRead e c least left first ds ps o after in
    refused_by P Q p f h ep (λ r k. de.not_declared r after k)

declared : (e : Environment) (c : Context) (least : ℕ) (left between : Left) (ds : DeclarationsData) (p : Result (List Variable) ResolveFault) (vs : List Variable) → OnRead p (λ o. DeclarationsRead e c least left ds o between) → p ≡ Ok vs → DeclarationsRead e c least left ds (Ok vs) between
declared e c least left between ds p vs h ep =
    let P : Result (List Variable) Refusal → Type 0 = λ o. DeclarationsRead e c least left ds o between in
    read_by P p vs h ep

pub told_not_stated : (e : Environment) (c d : Context) (least : ℕ) (left between after : Left) (first : Place) (ds : DeclarationsData) (ps : PropositionsTree) (p : Result (List Variable) ResolveFault) (vs : List Variable) (q : Result (List LabelledStatement) ResolveFault) (f : ResolveFault) →
    OnRead p (λ o. DeclarationsRead e c least left ds o between) → p ≡ Ok vs → d ≡ with_variables c vs → OnRead q (λ o. PropositionsRead e d least between (propositions_in ps) o after) → q ≡ Err f →
    OnRead {X = Description} (Err f) (λ o. DescriptionRead e c least left first ds ps o after)
told_not_stated e c d least left between after first ds ps p vs q f h ep ed k eq =
    let P : Result (List LabelledStatement) Refusal → Type 0 = λ o. PropositionsRead e d least between (propositions_in ps) o after in
    let Q : Result Description Refusal → Type 0 = λ o. DescriptionRead e c least left first ds ps o after in
    refused_by P Q q f k eq (λ r g. de.not_stated vs r between after (declared e c least left between ds p vs h ep) (subst (λ x. PropositionsRead e x least between (propositions_in ps) (Err r) after) ed g))

existing : (e : Environment) (c : Context) (least : ℕ) (left between after : Left) (first : Place) (ds : DeclarationsData) (ps : PropositionsTree) (vs : List Variable) (qs : List LabelledStatement) (s : Statement) (x : Result Statement Refusal) →
    DeclarationsRead e c least left ds (Ok vs) between → PropositionsRead e (with_variables c vs) least between (propositions_in ps) (Ok qs) after → joined_within first qs ≡ Ok s → there_are_within first (next c) vs s ≡ x →
    DescriptionRead e c least left first ds ps (with_existential vs qs s x) after
existing e c least left between after first ds ps vs qs s (Err r) h k j x = de.existential_too_large vs qs s r between after h k j x
existing e c least left between after first ds ps vs qs s (Ok there) h k j x = de.described vs qs s there between after h k j x

joining : (e : Environment) (c : Context) (least : ℕ) (left between after : Left) (first : Place) (ds : DeclarationsData) (ps : PropositionsTree) (vs : List Variable) (qs : List LabelledStatement) (x : Result Statement Refusal) →
    DeclarationsRead e c least left ds (Ok vs) between → PropositionsRead e (with_variables c vs) least between (propositions_in ps) (Ok qs) after → joined_within first qs ≡ x →
    DescriptionRead e c least left first ds ps (with_joined first (next c) vs qs x) after
joining e c least left between after first ds ps vs qs (Err r) h k j = de.too_large vs qs r between after h k j
joining e c least left between after first ds ps vs qs (Ok s) h k j = existing e c least left between after first ds ps vs qs s (there_are_within first (next c) vs s) h k j refl

pub told_described : (e : Environment) (c d : Context) (least n : ℕ) (left between after : Left) (first : Place) (ds : DeclarationsData) (ps : PropositionsTree) (p : Result (List Variable) ResolveFault) (vs : List Variable) (q : Result (List LabelledStatement) ResolveFault) (qs : List LabelledStatement) (x y : Result Description Refusal) →
    n ≡ next c → OnRead p (λ o. DeclarationsRead e c least left ds o between) → p ≡ Ok vs → d ≡ with_variables c vs → OnRead q (λ o. PropositionsRead e d least between (propositions_in ps) o after) → q ≡ Ok qs →
    x ≡ described_by first n vs qs → x ≡ y → DescriptionRead e c least left first ds ps y after
told_described e c d least n left between after first ds ps p vs q qs x y en h ep ed k eq ex ey =
    let P : Result (List LabelledStatement) Refusal → Type 0 = λ o. PropositionsRead e d least between (propositions_in ps) o after in
    let Q : Result Description Refusal → Type 0 = λ o. DescriptionRead e c least left first ds ps o after in
    let stated : PropositionsRead e (with_variables c vs) least between (propositions_in ps) (Ok qs) after = subst (λ z. PropositionsRead e z least between (propositions_in ps) (Ok qs) after) ed (read_by P q qs k eq) in
    subst Q (ap (λ m. described_by first m vs qs) (sym en) ∙ (sym ex ∙ ey)) (joining e c least left between after first ds ps vs qs (joined_within first qs) (declared e c least left between ds p vs h ep) stated refl)

pub ruleset inside_rules = (told_not_declared, told_not_stated, told_described, grown_itself, grown_kept, grown_more)

pub told_read : (e : Environment) (c : Context) (least : ℕ) (left after : Left) (first : Place) (ds : DeclarationsData) (ps : PropositionsTree) (q : Result Description ResolveFault) (d : Description) →
    OnRead q (λ o. DescriptionRead e c least left first ds ps o after) → q ≡ Ok d → DescriptionRead e c least left first ds ps (Ok d) after
told_read e c least left after first ds ps q d h eq =
    let P : Result Description Refusal → Type 0 = λ o. DescriptionRead e c least left first ds ps o after in
    read_by P q d h eq

pub told_refused : (e : Environment) (c : Context) (least : ℕ) (left after : Left) (first : Place) (ds : DeclarationsData) (ps : PropositionsTree) (q : Result Description ResolveFault) (f : ResolveFault) →
    OnRead q (λ o. DescriptionRead e c least left first ds ps o after) → q ≡ Err f → OnRead {X = Description} (Err f) (λ o. DescriptionRead e c least left first ds ps o after)
told_refused e c least left after first ds ps q f h eq = subst (λ x. OnRead x (λ o. DescriptionRead e c least left first ds ps o after)) eq h

pub ruleset outside_rules = (told_read, told_refused, told_left)
