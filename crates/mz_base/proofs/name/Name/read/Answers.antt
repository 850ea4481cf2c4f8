use Rattle.std.proofs.Common.{◌≡◌, true, sym, ap, ◌∙◌}
use Rattle.mz_base.specs.Name.{is_name, number_of}
use Rattle.mz_base.proofs.NameLemmas.{number-read, text-read, named-read}
use Rattle.mz_base.proofs.name.Name.read.Goals as goal

pub invariant_of-result : goal.invariant_of-result
invariant_of-result c =
    let name : is_name c.args.word.now ≡ true = sym c.is_name.ensures ∙ c.if-not-is_name.false in
    let number = number-read _ _ c.args.word.now c.raised_and_filled.ensures c.from_be_bytes-number.ensures in
    let text = text-read _ _ c.args.word.now name c.raised_and_filled.ensures c.from_be_bytes-number.ensures in
    record { named = named-read _ _ name text; spelled = ap number_of text ∙ sym number }

pub returns-clause-text : goal.returns-clause-text
returns-clause-text c =
    let name : is_name c.args.word.now ≡ true = sym c.is_name.ensures ∙ c.if-not-is_name.false in
    text-read _ _ c.args.word.now name c.raised_and_filled.ensures c.from_be_bytes-number.ensures

pub returns-clause-number : goal.returns-clause-number
returns-clause-number c = number-read _ _ c.args.word.now c.raised_and_filled.ensures c.from_be_bytes-number.ensures
