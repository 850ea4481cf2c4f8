use Rattle.std.proofs.Common.{sym, ap, ◌∙◌, ◌≡◌, Some, None}
use Rattle.std.proofs.lemmas.Result.{err_from_is_err_and}
use Rattle.mz_pheading.specs.declared.headings.HeadingWord.TheVariants as heading_words
use Rattle.mz_pheading.specs.Classes.{heading_next}
use Rattle.mz_pheading.proofs.HeadingSteps.{attribute_read, attribute_unread, functor_read, functor_unread, gives_mode, gives_redefinition, no_heading, predicate_read, predicate_unread, structure_read, structure_unread}
use Rattle.mz_pheading.proofs.headings.heading.Goals as goal

pub returns-in_default : goal.returns-in_default
returns-in_default c =
    let h : heading_next c.args.reader.now.rest.now ≡ None = sym c.heading_comes.ensures ∙ c.in_default.is in
    no_heading c.args.room _ h

pub returns-in_err-heading-in-Func : goal.returns-in_err-heading-in-Func
returns-in_err-heading-in-Func c =
    let p = err_from_is_err_and c.from_residual.result c.from_residual.ensures.1 in
    let h : heading_next c.args.reader.now.rest.now ≡ Some heading_words.Func = sym c.heading_comes.ensures ∙ (c.in-Some.is ∙ ap Some c.in-Func.is) in
    rw (p.1, p.2) (functor_unread c.args.room _ _ _ h c.in_err-heading-in-Func.ensures)

pub returns-in_ok-heading-in-Func : goal.returns-in_ok-heading-in-Func
returns-in_ok-heading-in-Func c =
    let h : heading_next c.args.reader.now.rest.now ≡ Some heading_words.Func = sym c.heading_comes.ensures ∙ (c.in-Some.is ∙ ap Some c.in-Func.is) in
    functor_read c.args.room _ _ _ h c.in_ok-heading-in-Func.ensures

pub returns-in_err-heading-in-Pred : goal.returns-in_err-heading-in-Pred
returns-in_err-heading-in-Pred c =
    let p = err_from_is_err_and c.from_residual-in_err-heading-in-Pred.result c.from_residual-in_err-heading-in-Pred.ensures.1 in
    let h : heading_next c.args.reader.now.rest.now ≡ Some heading_words.Pred = sym c.heading_comes.ensures ∙ (c.in-Some.is ∙ ap Some c.in-Pred.is) in
    rw (p.1, p.2) (predicate_unread c.args.room _ _ _ h c.in_err-heading-in-Pred.ensures)

pub returns-in_ok-heading-in-Pred : goal.returns-in_ok-heading-in-Pred
returns-in_ok-heading-in-Pred c =
    let h : heading_next c.args.reader.now.rest.now ≡ Some heading_words.Pred = sym c.heading_comes.ensures ∙ (c.in-Some.is ∙ ap Some c.in-Pred.is) in
    predicate_read c.args.room _ _ _ h c.in_ok-heading-in-Pred.ensures

pub returns-in_err-heading-in-Attr : goal.returns-in_err-heading-in-Attr
returns-in_err-heading-in-Attr c =
    let p = err_from_is_err_and c.from_residual-in_err-heading-in-Attr.result c.from_residual-in_err-heading-in-Attr.ensures.1 in
    let h : heading_next c.args.reader.now.rest.now ≡ Some heading_words.Attr = sym c.heading_comes.ensures ∙ (c.in-Some.is ∙ ap Some c.in-Attr.is) in
    rw (p.1, p.2) (attribute_unread c.args.room _ _ _ h c.in_err-heading-in-Attr.ensures)

pub returns-in_ok-heading-in-Attr : goal.returns-in_ok-heading-in-Attr
returns-in_ok-heading-in-Attr c =
    let h : heading_next c.args.reader.now.rest.now ≡ Some heading_words.Attr = sym c.heading_comes.ensures ∙ (c.in-Some.is ∙ ap Some c.in-Attr.is) in
    attribute_read c.args.room _ _ _ h c.in_ok-heading-in-Attr.ensures

pub returns-in-Mode : goal.returns-in-Mode
returns-in-Mode c =
    let h : heading_next c.args.reader.now.rest.now ≡ Some heading_words.Mode = sym c.heading_comes.ensures ∙ (c.in-Some.is ∙ ap Some c.in-Mode.is) in
    gives_mode c.args.room _ _ _ h c.mode.ensures

pub returns-in_err-heading-in-Struct : goal.returns-in_err-heading-in-Struct
returns-in_err-heading-in-Struct c =
    let p = err_from_is_err_and c.from_residual-in_err-heading-in-Struct.result c.from_residual-in_err-heading-in-Struct.ensures.1 in
    let h : heading_next c.args.reader.now.rest.now ≡ Some heading_words.Struct = sym c.heading_comes.ensures ∙ (c.in-Some.is ∙ ap Some c.in-Struct.is) in
    rw (p.1, p.2) (structure_unread c.args.room _ _ _ h c.in_err-heading-in-Struct.ensures)

pub returns-in_ok-heading-in-Struct : goal.returns-in_ok-heading-in-Struct
returns-in_ok-heading-in-Struct c =
    let h : heading_next c.args.reader.now.rest.now ≡ Some heading_words.Struct = sym c.heading_comes.ensures ∙ (c.in-Some.is ∙ ap Some c.in-Struct.is) in
    structure_read c.args.room _ _ _ h c.in_ok-heading-in-Struct.ensures

pub returns-in-Redefine : goal.returns-in-Redefine
returns-in-Redefine c =
    let h : heading_next c.args.reader.now.rest.now ≡ Some heading_words.Redefine = sym c.heading_comes.ensures ∙ (c.in-Some.is ∙ ap Some c.in-Redefine.is) in
    gives_redefinition c.args.room _ _ _ h c.redefinition.ensures
