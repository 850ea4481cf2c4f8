use Rattle.std.proofs.Common.{rules, ℕ, List, map, sym, ap, ◌∙◌, subst}
use Rattle.std.specs.Prelude.{Contains}
use Rattle.std.proofs.lemmas.Bool.{false≢true}
use Rattle.mz_ground.specs.Ground.{term_at, ground_terms}
use Rattle.mz_ground.proofs.TriggerLemmas.{args_of_atom, trigger_at-atom_is, atom_from_sym, map-atom_from_args}
use Rattle.mz_ground.proofs.ground_part.Ground.is_instance.Goals as goal

pub are_instances_at-requires-clause-within : goal.are_instances_at-requires-clause-within
are_instances_at-requires-clause-within c = λ k w. args_of_atom c.args.self.now c.requires.numbered c.in-Atom-Atom.place c.get-atom.result.now c.get-atom.ensures k (subst (λ (z : List ℕ). Contains z k) c.as_slice.ensures w)

pub returns-else-is : goal.returns-else-is
returns-else-is c = (
  λ q. absurd (false≢true (sym c.if-is.false ∙ q)),
  λ f. c.is.ensures.one.1 (atom_from_sym c.args.self.now (map (term_at (ground_terms c.args.self.now)) c.args.args.now) c.in-Atom-Atom.place c.args.r.now c.args.at c.in-Atom-Atom.s c.in-Atom-Atom.us c.get-atom.result.now (search rules) (search rules) c.get-atom.ensures f),
)

pub returns-then-is : goal.returns-then-is
returns-then-is c =
    let ts = map (term_at (ground_terms c.args.self.now)) c.args.args.now in
    let same = ap (map (term_at (ground_terms c.args.self.now))) c.as_slice.ensures in (
      λ q. trigger_at-atom_is c.args.self.now ts c.in-Atom-Atom.place c.args.r.now c.args.at c.in-Atom-Atom.s c.in-Atom-Atom.us c.get-atom.result.now (search rules) (search rules) c.get-atom.ensures (c.is.ensures.one.0 c.if-is.true) (c.are_instances_at.ensures.0 q ∙ same),
      λ f. c.are_instances_at.ensures.1 (map-atom_from_args c.args.self.now ts c.in-Atom-Atom.place c.args.r.now c.args.at c.in-Atom-Atom.s c.in-Atom-Atom.us c.get-atom.result.now (search rules) (search rules) c.get-atom.ensures f ∙ sym same),
    )
