use Rattle.std.proofs.Common.{◌≡◌, ◌∙◌, ◌++◌, ap, length}
use Rattle.mz_fits.specs.Matching.{unfixed}
use Rattle.mz_choice.specs.Choice.{meaning_at}
use Rattle.mz_choice.proofs.ChoiceLemmas.{told_reads}
use Rattle.mz_choice.proofs.choice.reads.Goals as goal

pub returns : goal.returns
returns c =
    let el : c.as_slice-loci.result.now ≡ c.args.x.now.pattern.loci = c.as_slice-loci.ensures.value ∙ ap (λ a. a.pattern.loci) c.x.view_is in
    told_reads _ _ _ _ _ _ _ _ _ _ _ _ _ (c.in_ok-none.ensures ∙ ap (λ tys. unfixed (length tys)) el) el (c.as_slice.ensures ∙ (c.in_ok-places.ensures ∙ ap (λ a. a.pattern.left ++ a.pattern.right) c.x.view_is))
    c.in_ok-takes_all.ensures c.in-Some.is c.in_ok-accepted-in-Some.ensures c.in-Some-2.is (c.in_ok-m-in-Some-2.ensures ∙ ap (λ a. meaning_at c.in-Some-2.values a.meaning) c.x.view_is)
