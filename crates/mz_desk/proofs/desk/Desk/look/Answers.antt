use Rattle.std.proofs.Common.{◌≡◌, ◌∙◌, sym, subst, true, false}
use Rattle.mz_axioms.specs.Library.{Sound}
use Rattle.mz_desk.specs.Look.{TellsExport, IsLook}
use Rattle.mz_desk.proofs.desk.Desk.look.Goals as goal

pub built_in_look-requires-clause-sound : goal.built_in_look-requires-clause-sound
built_in_look-requires-clause-sound g c = subst Sound (sym (c.as_slice.ensures ∙ c.library.ensures)) c.law.ensures.sound

pub returns-then-is_built_in : goal.returns-then-is_built_in
returns-then-is_built_in g c =
    let yes = sym c.is_built_in.ensures ∙ c.if-is_built_in.true in
    record {
      built_in = λ h. subst (λ l. TellsExport l c.args.name.now c.built_in_look.result) (c.as_slice.ensures ∙ c.library.ensures) c.built_in_look.ensures;
      row = λ h. let bad : true ≡ false = sym yes ∙ h in absurd cc;
      unknown = λ h. let bad : true ≡ false = sym yes ∙ h in absurd cc;
    }

pub returns-else-is_built_in : goal.returns-else-is_built_in
returns-else-is_built_in g c =
    let not_so = sym c.is_built_in.ensures ∙ c.if-is_built_in.false in
    subst (λ s. IsLook s c.args.name.now c.look_in.result) c.self.view_is (record {
      built_in = λ yes. let bad : true ≡ false = sym yes ∙ not_so in absurd cc;
      row = λ h. c.look_in.ensures.row;
      unknown = λ h. c.look_in.ensures.unknown;
    })
