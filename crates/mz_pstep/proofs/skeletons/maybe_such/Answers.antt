use Rattle.std.proofs.Common.{rules, sym, ◌∙◌, ◌≡◌, ◌∷◌}
use Rattle.std.proofs.lemmas.Result.{err_from_is_err_and}
use Rattle.mz_pterm.proofs.Steps.{is_nil}
use Rattle.mz_pjustification.specs.declared.keyword.Keyword.TheVariants as keywords
use Rattle.mz_pjustification.specs.Keyword.{keyword_of}
use Rattle.mz_pstep.proofs.Closings.{such_at_end, such_lacks, such_part_refused, such_part_found}
use Rattle.mz_pstep.proofs.skeletons.maybe_such.Goals as goal

pub returns-in_default : goal.returns-in_default
returns-in_default c = such_at_end c.args.room _ (is_nil _ (search rules))

pub returns-then-not-is : goal.returns-then-not-is
returns-then-not-is c =
    let e : c.args.reader.now.rest.now ≡ c.in-Some.next.now ∷ c.in-Some.field-0-1.now = search rules in
    let other : c.of.result ≡ keywords.Such → ⊥ = search rules in
    let differ : keyword_of c.in-Some.next.now ≡ keywords.Such → ⊥ = λ z. other (c.of.ensures ∙ z) in
    such_lacks c.args.room c.in-Some.next.now _ c.in-Some.field-0-1.now differ e

pub returns-in_err-tree : goal.returns-in_err-tree
returns-in_err-tree c =
    let p = err_from_is_err_and c.from_residual.result c.from_residual.ensures.1 in
    let e : c.args.reader.now.rest.now ≡ c.in-Some.next.now ∷ c.in-Some.field-0-1.now = search rules in
    let told : c.of.result ≡ keywords.Such = search rules in
    rw (p.1, p.2) (such_part_refused c.args.room c.in-Some.next.now _ c.in-Some.field-0-1.now _ _ (sym c.of.ensures ∙ told) e c.in_err-tree.ensures)

pub returns : goal.returns
returns c =
    let e : c.args.reader.now.rest.now ≡ c.in-Some.next.now ∷ c.in-Some.field-0-1.now = search rules in
    let told : c.of.result ≡ keywords.Such = search rules in
    such_part_found c.args.room c.in-Some.next.now _ _ c.in-Some.field-0-1.now _ (sym c.of.ensures ∙ told) e c.in_ok-tree.ensures
