-- What the code of names for terms tells.
use Rattle.std.proofs.Common.{◌≡◌, ℕ, List, [], ◌∷◌, ◌++◌, length, refl, sym, ap, ◌∙◌, subst, arith}
use Rattle.std.specs.Prelude.{Result, Ok, Err}
use Rattle.mz_logic.specs.Term.{Term}
use Rattle.mz_core.specs.declared.outcome.Left.{Left}
use Rattle.mz_core.specs.declared.radix.Radix.{Radix}
use Rattle.mz_core.specs.declared.soft_type.SoftType.{SoftType}
use Rattle.mz_context.specs.declared.context.Context.{Context}
use Rattle.mz_environment.specs.declared.environment.Environment.{Environment}
use Rattle.mz_names.specs.declared.refusal.Refusal.{Refusal}
use Rattle.mz_tree.specs.declared.word.Word.{Word}
use Rattle.mz_types.specs.Chain.{IsChain}
use Rattle.mz_types.specs.Known.{typing}
use Rattle.mz_steps.specs.declared.read_step.Definition.{Definition}
use Rattle.mz_resolve.specs.Answers.{OnRead}
use Rattle.mz_resolve.specs.Calls.{TermRead}
use Rattle.mz_resolve.specs.declared.resolve_fault.ResolveFault.{ResolveFault}
use Rattle.mz_tree_proof.specs.declared.introduction.NamedTermTree.{NamedTermTree}
use Rattle.mz_parts.specs.Named as na
use Rattle.mz_parts.specs.Named.{definition, of_radix, Defines, NamedRead}
use Rattle.mz_parts.proofs.ReadLemmas.{read_by, refused_by}

pub told_defined : (e : Environment) (c : Context) (w : Word) (t : Term) (rs xs : List Radix) (ty : SoftType) (d : Definition) → IsChain (typing e c) e c t rs → xs ≡ rs → (r : Radix) × (others : List Radix) × (xs ≡ r ∷ others) × (ty ≡ of_radix r) → d ≡ definition w ty t → Defines e c w t d
told_defined e c w t rs xs ty d h ex k ed =
    let r : Radix = k.0 in
    let others : List Radix = k.1 in
    subst (λ y. Defines e c w t y) (sym (ed ∙ ap (λ y. definition w y t) k.3)) (na.defines r others (subst (λ ys. IsChain (typing e c) e c t ys) (sym ex ∙ k.2) h))

pub ruleset define_rules = (told_defined)

pub told_named : (e : Environment) (c : Context) (least : ℕ) (left after : Left) (n : NamedTermTree) (p : Result Term ResolveFault) (t : Term) (d : Definition) →
    OnRead p (λ o. TermRead e c least left n.term o after) → p ≡ Ok t → Defines e c n.name t d → NamedRead e c least left n (Ok d) after
told_named e c least left after n p t d h ep k =
    let P : Result Term Refusal → Type 0 = λ o. TermRead e c least left n.term o after in
    na.term_read t d after (read_by P p t h ep) k

pub told_not_named : (e : Environment) (c : Context) (least : ℕ) (left after : Left) (n : NamedTermTree) (p : Result Term ResolveFault) (f : ResolveFault) →
    OnRead p (λ o. TermRead e c least left n.term o after) → p ≡ Err f → OnRead {X = Definition} (Err f) (λ o. NamedRead e c least left n o after)
told_not_named e c least left after n p f h ep =
    let P : Result Term Refusal → Type 0 = λ o. TermRead e c least left n.term o after in
    let Q : Result Definition Refusal → Type 0 = λ o. NamedRead e c least left n o after in
    refused_by P Q p f h ep (λ r k. na.term_refused r after k)

pub ruleset named_rules = (told_named, told_not_named)
