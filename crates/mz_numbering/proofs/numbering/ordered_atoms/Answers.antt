use Rattle.std.proofs.Common.{rules, ap, ◌∙◌, subst, ℕ, List}
use Rattle.std.specs.List.Sorted.{IsPermutation}
use Rattle.mz_numbering.specs.Numbering.{atom_place_cmp, numbers_from}
use Rattle.mz_numbering.proofs.NumberingLemmas.{ascending_from, atom_place_cmp_total}
use Rattle.mz_numbering.proofs.numbering.ordered_atoms.Goals as goal

pub returns : goal.returns
returns c = record {
  permutation = subst (λ (xs : List ℕ). IsPermutation xs c.sort_by.new.self.items) (c.in_ok-places.ensures ∙ ap (numbers_from 0) c.len.ensures) c.in_ok-sort_by.ensures.permutation;
  ascending = ascending_from (atom_place_cmp c.args.g.now) (atom_place_cmp_total c.args.g.now) _ c.in_ok-sort_by.ensures.sorted (λ a r q k. search rules);
}
