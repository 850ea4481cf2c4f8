use Rattle.std.proofs.Common.{◌≡◌, ◌<◌, ◌≤◌, ◌++◌, ℕ, List, ap, ◌∙◌, sym, subst, append-nil, length}
use Rattle.mz_listing.specs.Listing.{export_lines}
use Rattle.mz_listing.proofs.LineLemmas.{on_ok, find-found_turn, export_lines-named_found, named_none}
use Rattle.mz_listing.proofs.listing.push_named.Goals as goal

pub returns-then-is_export_of : goal.returns-then-is_export_of
returns-then-is_export_of c =
    on_ok c.push_export.result _ _
    (λ e.
    e ∙ ap (λ (xs : List ℕ). xs ++ export_lines c.get-export.result.now) c.loop-i.invariant.text
    ∙ ap (λ (xs : List ℕ). c.args.text.now ++ xs) (export_lines-named_found c.args.exports.now c.args.name.now c.loop-i.i c.get-export.result.now c.get-export.ensures (subst (λ n. c.loop-i.i < n) c.len-i-end.ensures c.loop-i-test.true) (sym c.is_export_of.ensures ∙ c.if-is_export_of.true) c.loop-i.invariant.absent))
    c.push_export.ensures

pub loop-i-preserved : goal.loop-i-preserved
loop-i-preserved c = record {
  absent = find-found_turn c.args.exports.now c.args.name.now c.loop-i.i c.get-export.result.now c.get-export.ensures (subst (λ n. c.loop-i.i < n) c.len-i-end.ensures c.loop-i-test.true) (sym c.is_export_of.ensures ∙ c.if-is_export_of.false) c.loop-i.invariant.absent;
  text = c.loop-i.invariant.text;
}

pub returns : goal.returns
returns c =
    c.loop-i.invariant.text
    ∙ sym
    (ap (λ (xs : List ℕ). c.args.text.now ++ xs) (named_none c.args.exports.now c.args.name.now c.loop-i.i (subst (λ n. n ≤ c.loop-i.i) c.len-i-end.ensures c.loop-i-test.false) c.loop-i.invariant.absent) ∙ append-nil c.args.text.now)
