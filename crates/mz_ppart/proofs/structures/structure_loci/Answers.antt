use Rattle.std.proofs.lemmas.Result.{err_from_is_err_and}
use Rattle.mz_forms.proofs.Words.{word_in_any, word_refuses}
use Rattle.mz_base.specs.declared.place.Place.{Place}
use Rattle.mz_pterm.specs.declared.sign.Sign.TheVariants as signs
use Rattle.mz_pterm.specs.Words.{fixed}
use Rattle.mz_ppart.proofs.StructureSequences.{structure_loci_refused_1, structure_loci_refused_2, structure_loci_found}
use Rattle.mz_ppart.proofs.structures.structure_loci.Goals as goal

pub returns-in_err-over : goal.returns-in_err-over
returns-in_err-over c =
    let p = err_from_is_err_and c.from_residual.result c.from_residual.ensures.1 in
    rw (p.1, p.2) (structure_loci_refused_1 c.args.room _ _ _ (word_refuses Place (fixed signs.Over) c.args.room _ _ _ c.in_err-over.ensures))

pub returns-in_err-identifiers : goal.returns-in_err-identifiers
returns-in_err-identifiers c =
    let p = err_from_is_err_and c.from_residual-in_err-identifiers.result c.from_residual-in_err-identifiers.ensures.1 in
    rw (p.1, p.2) (structure_loci_refused_2 c.args.room _ _ _ (word_in_any Place (fixed signs.Over) c.args.room _ _ _ c.in_ok-over.ensures) _ _ (c.in_err-identifiers.ensures c.args.room))

pub returns : goal.returns
returns c = structure_loci_found c.args.room _ _ _ (word_in_any Place (fixed signs.Over) c.args.room _ _ _ c.in_ok-over.ensures) _ _ (c.in_ok-identifiers.ensures c.args.room)
