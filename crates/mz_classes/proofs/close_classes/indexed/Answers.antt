use Rattle.std.proofs.Common.{subst, ℕ, List, true, false}
use Rattle.mz_congruence.specs.FactTable.{table_view}
use Rattle.mz_classes.specs.Indexed.{AreMemberLists, AreSignedLists}
use Rattle.mz_classes.proofs.close_classes.indexed.Goals as goal

pub invariant_of-result : goal.invariant_of-result
invariant_of-result c = record {
  member_lists = subst (λ (ps : List ℕ). AreMemberLists (table_view c.args.table) ps c.in_ok-members.members) c.as_slice-terms.ensures.value c.in_ok-members.ensures;
  positive_lists = subst (λ (ps : List ℕ). AreSignedLists (table_view c.args.table) ps true c.in_ok-positive.positive) c.as_slice-atoms.ensures.value c.in_ok-positive.ensures;
  negative_lists = subst (λ (ps : List ℕ). AreSignedLists (table_view c.args.table) ps false c.in_ok-negative.negative) c.as_slice-atoms.ensures.value c.in_ok-negative.ensures;
  within = c.requires.terms;
  empty = c.new.ensures;
}
