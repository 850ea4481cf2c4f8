use Rattle.std.proofs.Common.{rules, ◌≡◌, ◌∷◌, ◌∙◌, sym, Some}
use Rattle.std.proofs.lemmas.Result.{err_from_is_err_and}
use Rattle.mz_forms.proofs.Leads.{passes}
use Rattle.mz_forms.proofs.Words.{word_refuses}
use Rattle.mz_tree.specs.declared.word.Word.{Word}
use Rattle.mz_pterm.specs.declared.sign.Sign.TheVariants as signs
use Rattle.mz_pterm.specs.Sign.{sign_of}
use Rattle.mz_pterm.specs.Words.{named, name}
use Rattle.mz_ptype.specs.Forms.{maybe_argument}
use Rattle.mz_ptype.proofs.AdjectiveSteps.{argument_lacks, begin_named, begin_parentheses, parentheses}
use Rattle.mz_ptype.proofs.adjectives.maybe_argument.Goals as goal

pub returns-in_err-name-in-Identifier : goal.returns-in_err-name-in-Identifier
returns-in_err-name-in-Identifier c =
    let p = err_from_is_err_and c.from_residual.result c.from_residual.ensures.1 in
    let e : c.args.reader.now.rest.now ≡ c.in-Some.next.now ∷ c.in-Some.field-0-1.now = search rules in
    let h : sign_of c.in-Some.next.now ≡ signs.Identifier = sym c.of.ensures ∙ c.in-Identifier.is in
    rw (p.1, p.2) (passes (maybe_argument c.args.field) (name signs.Identifier) _ _ _ _ _ _ (begin_named _ _ _ _ _ h e) (word_refuses Word (named signs.Identifier) _ _ _ _ c.in_err-name-in-Identifier.ensures))

pub returns-in_err-inside-in-Open : goal.returns-in_err-inside-in-Open
returns-in_err-inside-in-Open c =
    let p = err_from_is_err_and c.from_residual-in_err-inside-in-Open.result c.from_residual-in_err-inside-in-Open.ensures.1 in
    let e : c.args.reader.now.rest.now ≡ c.in-Some.next.now ∷ c.in-Some.field-0-1.now = search rules in
    let h : sign_of c.in-Some.next.now ≡ signs.Open = sym c.of.ensures ∙ c.in-Open.is in
    rw (p.1, p.2) (passes (maybe_argument c.args.field) (parentheses c.args.field) _ _ _ _ _ _ (begin_parentheses _ _ _ _ _ h e) c.in_err-inside-in-Open.ensures)

pub returns-in_ok-inside-in-Open : goal.returns-in_ok-inside-in-Open
returns-in_ok-inside-in-Open c =
    let e : c.args.reader.now.rest.now ≡ c.in-Some.next.now ∷ c.in-Some.field-0-1.now = search rules in
    let h : sign_of c.in-Some.next.now ≡ signs.Open = sym c.of.ensures ∙ c.in-Open.is in
    (begin_parentheses c.args.field c.args.room _ _ _ h e).finds _ _ c.in_ok-inside-in-Open.ensures

pub returns-in_default-of : goal.returns-in_default-of
returns-in_default-of c =
    let e : c.args.reader.now.rest.now ≡ c.in-Some.next.now ∷ c.in-Some.field-0-1.now = search rules in
    let s = c.of.ensures in
    argument_lacks _ _ c.in-Some.next.now _ c.in-Some.field-0-1.now (λ h. c.in_default-of.not-Identifier (s ∙ h)) (λ h. c.in_default-of.not-Open (s ∙ h)) e
