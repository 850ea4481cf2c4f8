use Rattle.std.proofs.Common.{sym, ap, ◌∙◌, ◌≡◌, Some, None}
use Rattle.std.proofs.lemmas.Result.{err_from_is_err_and}
use Rattle.std.specs.Prelude.{codes}
use Rattle.mz_forms.proofs.Words.{word_in_any, word_refuses}
use Rattle.mz_base.specs.declared.place.Place.{Place}
use Rattle.mz_ppattern.specs.Words.{word_token}
use Rattle.mz_pheading.specs.declared.headings.HeadingWord.TheVariants as heading_words
use Rattle.mz_pheading.specs.Classes.{heading_next}
use Rattle.mz_pheading.proofs.HeadingSteps.{attribute_again_found, attribute_again_refused, functor_again_found, functor_again_refused, mode_again_found, mode_again_refused, nothing_again, predicate_again_found, predicate_again_refused, redefine_again, redefine_refused, struct_again}
use Rattle.mz_pheading.proofs.headings.redefinition.Goals as goal

pub returns-in_err-redefine : goal.returns-in_err-redefine
returns-in_err-redefine c =
    let p = err_from_is_err_and c.from_residual.result c.from_residual.ensures.1 in
    rw (p.1, p.2) (redefine_refused c.args.room _ _ _ (word_refuses Place (word_token (codes "redefine")) c.args.room _ _ _ c.in_err-redefine.ensures))

pub returns-in_default : goal.returns-in_default
returns-in_default c =
    let h : heading_next c.expect_word.new.reader.rest.now ≡ None = sym c.heading_comes.ensures ∙ c.in_default.is in
    nothing_again c.args.room _ _ _ (word_in_any Place (word_token (codes "redefine")) c.args.room _ _ _ c.in_ok-redefine.ensures) h

pub returns-in_err-heading-in-Func : goal.returns-in_err-heading-in-Func
returns-in_err-heading-in-Func c =
    let p = err_from_is_err_and c.from_residual-in_err-heading-in-Func.result c.from_residual-in_err-heading-in-Func.ensures.1 in
    let h : heading_next c.expect_word.new.reader.rest.now ≡ Some heading_words.Func = sym c.heading_comes.ensures ∙ (c.in-Some.is ∙ ap Some c.in-Func.is) in
    rw (p.1, p.2) (functor_again_refused c.args.room _ _ _ (word_in_any Place (word_token (codes "redefine")) c.args.room _ _ _ c.in_ok-redefine.ensures) _ _ h c.in_err-heading-in-Func.ensures)

pub returns-in_ok-heading-in-Func : goal.returns-in_ok-heading-in-Func
returns-in_ok-heading-in-Func c =
    let h : heading_next c.expect_word.new.reader.rest.now ≡ Some heading_words.Func = sym c.heading_comes.ensures ∙ (c.in-Some.is ∙ ap Some c.in-Func.is) in
    functor_again_found c.args.room _ _ _ (word_in_any Place (word_token (codes "redefine")) c.args.room _ _ _ c.in_ok-redefine.ensures) _ _ h c.in_ok-heading-in-Func.ensures

pub returns-in_err-heading-in-Pred : goal.returns-in_err-heading-in-Pred
returns-in_err-heading-in-Pred c =
    let p = err_from_is_err_and c.from_residual-in_err-heading-in-Pred.result c.from_residual-in_err-heading-in-Pred.ensures.1 in
    let h : heading_next c.expect_word.new.reader.rest.now ≡ Some heading_words.Pred = sym c.heading_comes.ensures ∙ (c.in-Some.is ∙ ap Some c.in-Pred.is) in
    rw (p.1, p.2) (predicate_again_refused c.args.room _ _ _ (word_in_any Place (word_token (codes "redefine")) c.args.room _ _ _ c.in_ok-redefine.ensures) _ _ h c.in_err-heading-in-Pred.ensures)

pub returns-in_ok-heading-in-Pred : goal.returns-in_ok-heading-in-Pred
returns-in_ok-heading-in-Pred c =
    let h : heading_next c.expect_word.new.reader.rest.now ≡ Some heading_words.Pred = sym c.heading_comes.ensures ∙ (c.in-Some.is ∙ ap Some c.in-Pred.is) in
    predicate_again_found c.args.room _ _ _ (word_in_any Place (word_token (codes "redefine")) c.args.room _ _ _ c.in_ok-redefine.ensures) _ _ h c.in_ok-heading-in-Pred.ensures

pub returns-in_err-heading-in-Attr : goal.returns-in_err-heading-in-Attr
returns-in_err-heading-in-Attr c =
    let p = err_from_is_err_and c.from_residual-in_err-heading-in-Attr.result c.from_residual-in_err-heading-in-Attr.ensures.1 in
    let h : heading_next c.expect_word.new.reader.rest.now ≡ Some heading_words.Attr = sym c.heading_comes.ensures ∙ (c.in-Some.is ∙ ap Some c.in-Attr.is) in
    rw (p.1, p.2) (attribute_again_refused c.args.room _ _ _ (word_in_any Place (word_token (codes "redefine")) c.args.room _ _ _ c.in_ok-redefine.ensures) _ _ h c.in_err-heading-in-Attr.ensures)

pub returns-in_ok-heading-in-Attr : goal.returns-in_ok-heading-in-Attr
returns-in_ok-heading-in-Attr c =
    let h : heading_next c.expect_word.new.reader.rest.now ≡ Some heading_words.Attr = sym c.heading_comes.ensures ∙ (c.in-Some.is ∙ ap Some c.in-Attr.is) in
    attribute_again_found c.args.room _ _ _ (word_in_any Place (word_token (codes "redefine")) c.args.room _ _ _ c.in_ok-redefine.ensures) _ _ h c.in_ok-heading-in-Attr.ensures

pub returns-in_err-heading-in-Mode : goal.returns-in_err-heading-in-Mode
returns-in_err-heading-in-Mode c =
    let p = err_from_is_err_and c.from_residual-in_err-heading-in-Mode.result c.from_residual-in_err-heading-in-Mode.ensures.1 in
    let h : heading_next c.expect_word.new.reader.rest.now ≡ Some heading_words.Mode = sym c.heading_comes.ensures ∙ (c.in-Some.is ∙ ap Some c.in-Mode.is) in
    rw (p.1, p.2) (mode_again_refused c.args.room _ _ _ (word_in_any Place (word_token (codes "redefine")) c.args.room _ _ _ c.in_ok-redefine.ensures) _ _ h c.in_err-heading-in-Mode.ensures)

pub returns-in_ok-heading-in-Mode : goal.returns-in_ok-heading-in-Mode
returns-in_ok-heading-in-Mode c =
    let h : heading_next c.expect_word.new.reader.rest.now ≡ Some heading_words.Mode = sym c.heading_comes.ensures ∙ (c.in-Some.is ∙ ap Some c.in-Mode.is) in
    mode_again_found c.args.room _ _ _ (word_in_any Place (word_token (codes "redefine")) c.args.room _ _ _ c.in_ok-redefine.ensures) _ _ h c.in_ok-heading-in-Mode.ensures

pub returns-in-Struct : goal.returns-in-Struct
returns-in-Struct c =
    let h : heading_next c.expect_word.new.reader.rest.now ≡ Some heading_words.Struct = sym c.heading_comes.ensures ∙ (c.in-Some.is ∙ ap Some c.in-Struct.is) in
    struct_again c.args.room _ _ _ (word_in_any Place (word_token (codes "redefine")) c.args.room _ _ _ c.in_ok-redefine.ensures) h

pub returns-in-Redefine : goal.returns-in-Redefine
returns-in-Redefine c =
    let h : heading_next c.expect_word.new.reader.rest.now ≡ Some heading_words.Redefine = sym c.heading_comes.ensures ∙ (c.in-Some.is ∙ ap Some c.in-Redefine.is) in
    redefine_again c.args.room _ _ _ (word_in_any Place (word_token (codes "redefine")) c.args.room _ _ _ c.in_ok-redefine.ensures) h
