use Rattle.std.proofs.Common.{rules, ◌≡◌, ◌∙◌, ap, refl}
use Rattle.mz_tree.specs.Rules.{ends_in_terms}
use Rattle.mz_tree.specs.Views.{type_of}
use Rattle.mz_tree.proofs.Views.{declared_of-plain, declared_of-typed}
use Rattle.mz_ptype.proofs.declarations.ends_in_terms.Goals as goal

pub returns-in-Plain : goal.returns-in-Plain
returns-in-Plain c = rw (c.in-Plain.is, declared_of-plain) refl

pub returns-in-Typed : goal.returns-in-Typed
returns-in-Typed c =
    let same : c.deref.result.now ≡ c.in-Typed.tree.value = search rules in
    rw (c.in-Typed.is, declared_of-typed) (c.type_ends_in_terms.ensures ∙ ap (λ z. ends_in_terms (type_of z)) same)
