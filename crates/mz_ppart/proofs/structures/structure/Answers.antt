use Rattle.std.proofs.Common.{◌-◌, arith}
use Rattle.std.proofs.lemmas.Result.{err_from_is_err_and}
use Rattle.mz_forms.proofs.Nested.{found_under, refuses_under}
use Rattle.mz_forms.proofs.Words.{word_in_any, word_refuses}
use Rattle.std.specs.Prelude.{codes}
use Rattle.mz_base.specs.declared.place.Place.{Place}
use Rattle.mz_tree.specs.declared.word.Word.{Word}
use Rattle.mz_pterm.specs.declared.sign.Sign.TheVariants as signs
use Rattle.mz_pterm.specs.Words.{fixed, named}
use Rattle.mz_pjustification.specs.declared.keyword.Keyword.TheVariants as keywords
use Rattle.mz_pjustification.specs.Words.{key}
use Rattle.mz_ppattern.specs.Words.{word_token}
use Rattle.mz_ppart.specs.StructureForms.{fields_form}
use Rattle.mz_ppart.proofs.StructureSequences.{structure_refused_1, structure_refused_2, structure_refused_3, structure_refused_4, structure_refused_5, structure_refused_6, structure_refused_7, structure_refused_8, structure_found}
use Rattle.mz_ppart.proofs.structures.structure.Goals as goal

pub returns-in_err-struct_ : goal.returns-in_err-struct_
returns-in_err-struct_ c =
    let p = err_from_is_err_and c.from_residual.result c.from_residual.ensures.1 in
    rw (p.1, p.2) (structure_refused_1 c.args.room _ _ _ (word_refuses Place (word_token (codes "struct")) c.args.room _ _ _ c.in_err-struct_.ensures))

pub returns-in_err-ancestors : goal.returns-in_err-ancestors
returns-in_err-ancestors c =
    let p = err_from_is_err_and c.from_residual-in_err-ancestors.result c.from_residual-in_err-ancestors.ensures.1 in
    rw (p.1, p.2) (structure_refused_2 c.args.room _ _ _ (word_in_any Place (word_token (codes "struct")) c.args.room _ _ _ c.in_ok-struct_.ensures) _ _ c.in_err-ancestors.ensures)

pub returns-in_err-symbol : goal.returns-in_err-symbol
returns-in_err-symbol c =
    let p = err_from_is_err_and c.from_residual-in_err-symbol.result c.from_residual-in_err-symbol.ensures.1 in
    rw (p.1, p.2) (structure_refused_3 c.args.room _ _ _ (word_in_any Place (word_token (codes "struct")) c.args.room _ _ _ c.in_ok-struct_.ensures) _ _ c.in_ok-ancestors.ensures _ _ (word_refuses Word (named signs.Structure) c.args.room _ _ _ c.in_err-symbol.ensures))

pub returns-in_err-loci : goal.returns-in_err-loci
returns-in_err-loci c =
    let p = err_from_is_err_and c.from_residual-in_err-loci.result c.from_residual-in_err-loci.ensures.1 in
    rw (p.1, p.2) (structure_refused_4 c.args.room _ _ _ (word_in_any Place (word_token (codes "struct")) c.args.room _ _ _ c.in_ok-struct_.ensures) _ _ c.in_ok-ancestors.ensures _ _ (word_in_any Word (named signs.Structure) c.args.room _ _ _ c.in_ok-symbol.ensures) _ _ c.in_err-loci.ensures)

pub returns-in_err-left : goal.returns-in_err-left
returns-in_err-left c =
    let p = err_from_is_err_and c.from_residual-in_err-left.result c.from_residual-in_err-left.ensures.1 in
    rw (p.1, p.2) (structure_refused_5 c.args.room _ _ _ (word_in_any Place (word_token (codes "struct")) c.args.room _ _ _ c.in_ok-struct_.ensures) _ _ c.in_ok-ancestors.ensures _ _ (word_in_any Word (named signs.Structure) c.args.room _ _ _ c.in_ok-symbol.ensures) _ _ c.in_ok-loci.ensures _ _ c.in_err-left.ensures.reads)

pub returns-in_err-fields : goal.returns-in_err-fields
returns-in_err-fields c =
    let p = err_from_is_err_and c.from_residual-in_err-fields.result c.from_residual-in_err-fields.ensures.1 in
    rw (p.1, p.2) (structure_refused_6 c.args.room _ _ _ (word_in_any Place (word_token (codes "struct")) c.args.room _ _ _ c.in_ok-struct_.ensures) _ _ c.in_ok-ancestors.ensures _ _ (word_in_any Word (named signs.Structure) c.args.room _ _ _ c.in_ok-symbol.ensures) _ _ c.in_ok-loci.ensures _ _ c.in_ok-left.ensures.reads _ _ (refuses_under fields_form c.args.room (c.args.room - 1) (omega (arith, c.in_ok-left.ensures.room)) _ _ _ c.in_err-fields.ensures))

pub returns-in_err-right : goal.returns-in_err-right
returns-in_err-right c =
    let p = err_from_is_err_and c.from_residual-in_err-right.result c.from_residual-in_err-right.ensures.1 in
    rw (p.1, p.2) (structure_refused_7 c.args.room _ _ _ (word_in_any Place (word_token (codes "struct")) c.args.room _ _ _ c.in_ok-struct_.ensures) _ _ c.in_ok-ancestors.ensures _ _ (word_in_any Word (named signs.Structure) c.args.room _ _ _ c.in_ok-symbol.ensures) _ _ c.in_ok-loci.ensures _ _ c.in_ok-left.ensures.reads _ _ (found_under fields_form c.args.room (c.args.room - 1) (omega (arith, c.in_ok-left.ensures.room)) _ _ _ c.in_ok-fields.ensures) _ _ (word_refuses Place (fixed signs.CloseAggregate) c.args.room _ _ _ c.in_err-right.ensures))

pub returns-in_err-semicolon : goal.returns-in_err-semicolon
returns-in_err-semicolon c =
    let p = err_from_is_err_and c.from_residual-in_err-semicolon.result c.from_residual-in_err-semicolon.ensures.1 in
    rw (p.1, p.2) (structure_refused_8 c.args.room _ _ _ (word_in_any Place (word_token (codes "struct")) c.args.room _ _ _ c.in_ok-struct_.ensures) _ _ c.in_ok-ancestors.ensures _ _ (word_in_any Word (named signs.Structure) c.args.room _ _ _ c.in_ok-symbol.ensures) _ _ c.in_ok-loci.ensures _ _ c.in_ok-left.ensures.reads _ _ (found_under fields_form c.args.room (c.args.room - 1) (omega (arith, c.in_ok-left.ensures.room)) _ _ _ c.in_ok-fields.ensures) _ _ (word_in_any Place (fixed signs.CloseAggregate) c.args.room _ _ _ c.in_ok-right.ensures) _ _ (word_refuses Place (key keywords.Semicolon) c.args.room _ _ _ c.in_err-semicolon.ensures))

pub returns : goal.returns
returns c = structure_found c.args.room _ _ _ (word_in_any Place (word_token (codes "struct")) c.args.room _ _ _ c.in_ok-struct_.ensures) _ _ c.in_ok-ancestors.ensures _ _ (word_in_any Word (named signs.Structure) c.args.room _ _ _ c.in_ok-symbol.ensures) _ _ c.in_ok-loci.ensures _ _ c.in_ok-left.ensures.reads _ _ (found_under fields_form c.args.room (c.args.room - 1) (omega (arith, c.in_ok-left.ensures.room)) _ _ _ c.in_ok-fields.ensures) _ _ (word_in_any Place (fixed signs.CloseAggregate) c.args.room _ _ _ c.in_ok-right.ensures) _ _ (word_in_any Place (key keywords.Semicolon) c.args.room _ _ _ c.in_ok-semicolon.ensures)
