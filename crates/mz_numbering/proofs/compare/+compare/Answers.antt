use Rattle.std.proofs.Common.{rules, ◌≡◌, ◌<◌, ℕ, List, map, length, arith, sym, ◌∙◌, subst, get_or}
use Rattle.std.specs.Prelude.{Contains}
use Rattle.std.proofs.lemmas.List.{length-map}
use Rattle.std.proofs.lemmas.List.Elements.{Contains-get_or}
use Rattle.mz_logic.specs.Term.{Term}
use Rattle.mz_logic.proofs.OrderLemmas.{stops, terms_cmp-goes_on, terms_cmp-past_right, terms_cmp-past_left, terms_cmp-past_both}
use Rattle.mz_ground.specs.Ground.{term_at}
use Rattle.mz_ground.specs.Table.{entry_terms}
use Rattle.mz_numbering.proofs.CompareLemmas.{args_before, get_or-map_places}
use Rattle.mz_numbering.proofs.compare.+compare.Goals as goal

pub compare_places-returns-then-i-qs : goal.compare_places-returns-then-i-qs
compare_places-returns-then-i-qs t c =
    let f : ℕ → Term = term_at (entry_terms c.args.terms.now) in
    let m = length-map c.args.ps.now f in
    let n = length-map c.args.qs.now f in
    sym (c.loop-i.invariant ∙ terms_cmp-past_right _ _ c.loop-i.i (omega (arith, m, c.loop-i-test.true)) (omega (arith, n, c.if-i-qs.true)))

pub compare_places-compare_terms_at-requires : goal.compare_places-compare_terms_at-requires
compare_places-compare_terms_at-requires t c =
    let lt : get_or c.args.ps.now c.loop-i.i 0 < c.args.bound = c.requires.below (get_or c.args.ps.now c.loop-i.i 0) (Contains-get_or c.args.ps.now c.loop-i.i 0 c.loop-i-test.true) in
    (search rules, c.requires.table)

pub compare_places-returns-in_default : goal.compare_places-returns-in_default
compare_places-returns-in_default t c =
    let f : ℕ → Term = term_at (entry_terms c.args.terms.now) in
    let m = length-map c.args.ps.now f in
    let n = length-map c.args.qs.now f in
    let a : c.loop-i.i < length c.args.ps.now = c.loop-i-test.true in
    let b : c.loop-i.i < length c.args.qs.now = omega (arith, c.if-i-qs.false) in
    stops _ _ (map f c.args.ps.now) (map f c.args.qs.now) c.loop-i.i (f (get_or c.args.ps.now c.loop-i.i 0)) (f (get_or c.args.qs.now c.loop-i.i 0)) _ c.loop-i.invariant (omega (arith, m, a)) (omega (arith, n, b))
    (get_or-map_places f c.args.ps.now c.loop-i.i (f (get_or c.args.ps.now c.loop-i.i 0)) a) (get_or-map_places f c.args.qs.now c.loop-i.i (f (get_or c.args.qs.now c.loop-i.i 0)) b) c.compare_terms_at.ensures c.in_default.not-Equal

pub compare_places-loop-i-preserved : goal.compare_places-loop-i-preserved
compare_places-loop-i-preserved t c =
    let f : ℕ → Term = term_at (entry_terms c.args.terms.now) in
    let m = length-map c.args.ps.now f in
    let n = length-map c.args.qs.now f in
    let a : c.loop-i.i < length c.args.ps.now = c.loop-i-test.true in
    let b : c.loop-i.i < length c.args.qs.now = omega (arith, c.if-i-qs.false) in
    terms_cmp-goes_on _ _ (map f c.args.ps.now) (map f c.args.qs.now) c.loop-i.i (f (get_or c.args.ps.now c.loop-i.i 0)) (f (get_or c.args.qs.now c.loop-i.i 0)) c.loop-i.invariant (omega (arith, m, a)) (omega (arith, n, b))
    (get_or-map_places f c.args.ps.now c.loop-i.i (f (get_or c.args.ps.now c.loop-i.i 0)) a) (get_or-map_places f c.args.qs.now c.loop-i.i (f (get_or c.args.qs.now c.loop-i.i 0)) b) (sym c.in-Equal.is ∙ c.compare_terms_at.ensures)

pub compare_places-returns-then-ps-qs : goal.compare_places-returns-then-ps-qs
compare_places-returns-then-ps-qs t c =
    let f : ℕ → Term = term_at (entry_terms c.args.terms.now) in
    let m = length-map c.args.ps.now f in
    let n = length-map c.args.qs.now f in
    let same : c.loop-i.i ≡ length c.args.ps.now = omega arith in
    sym (c.loop-i.invariant ∙ terms_cmp-past_left _ _ c.loop-i.i (omega (arith, m, same)) (omega (arith, n, same, c.if-ps-qs.true)))

pub compare_places-returns-else-ps-qs : goal.compare_places-returns-else-ps-qs
compare_places-returns-else-ps-qs t c =
    let f : ℕ → Term = term_at (entry_terms c.args.terms.now) in
    let m = length-map c.args.ps.now f in
    let n = length-map c.args.qs.now f in
    let same : c.loop-i.i ≡ length c.args.ps.now = omega arith in
    sym (c.loop-i.invariant ∙ terms_cmp-past_both _ _ c.loop-i.i (omega (arith, m, same)) (omega (arith, n, same, c.if-ps-qs.false)))

pub compare_terms_at-compare_places-by_args-requires : goal.compare_terms_at-compare_places-by_args-requires
compare_terms_at-compare_places-by_args-requires t c =
    (search rules, (c.requires, λ k w. args_before c.args.terms.now c.requires c.args.p k (subst (λ (z : List ℕ). Contains z k) c.args_at.ensures w)))
