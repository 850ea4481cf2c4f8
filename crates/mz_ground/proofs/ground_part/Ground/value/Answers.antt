use Rattle.std.proofs.Common.{rules, ℕ, List, subst}
use Rattle.std.specs.Prelude.{Contains}
use Rattle.std.proofs.lemmas.Bool.{false≢true}
use Rattle.mz_ground.proofs.TriggerLemmas.{args_of_atom, told_other_sym}
use Rattle.mz_ground.proofs.ground_part.Ground.value.Goals as goal

pub value_among-requires-clause-within : goal.value_among-requires-clause-within
value_among-requires-clause-within c = λ k w. args_of_atom c.args.self.now c.requires.numbered c.in-Atom-Atom.place c.get-atom.result.now c.get-atom.ensures k (subst (λ (z : List ℕ). Contains z k) c.as_slice.ensures w)

pub returns-else-is : goal.returns-else-is
returns-else-is c =
    told_other_sym c.args.self.now c.args.index c.in-Atom-Atom.place c.args.r.now c.args.at c.in-Atom-Atom.s c.in-Atom-Atom.us c.get-atom.result.now (search rules) (search rules) c.get-atom.ensures (λ e. false≢true (c.if-is.ensures.one.1 e))
