use Rattle.std.proofs.Common.{◌≡◌, true, false, ap, ◌∙◌}
use Rattle.mz_base.specs.Bytes.{raised}
use Rattle.mz_base.specs.Name.{is_name}
use Rattle.mz_gen.proofs.MadeLemmas.{is_name-made_name, raised-made_name}
use Rattle.mz_gen.proofs.made.made_name.Goals as goal

pub unreachable-requires : goal.unreachable-requires
unreachable-requires c =
    let name : is_name c.made_name_bytes.result ≡ true = ap is_name c.made_name_bytes.ensures ∙ is_name-made_name c.args.i in
    let bad : false ≡ true = c.in-Err.ensures.ok.1 name in
    cc

pub returns : goal.returns
returns c = c.in-Ok.ensures.text ∙ ap raised c.made_name_bytes.ensures ∙ raised-made_name c.args.i
