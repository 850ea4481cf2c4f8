use Rattle.std.proofs.Common.{◌≡◌, ◌∙◌, ◌<◌, map, ap, sym, arith, true}
use Rattle.std.specs.Arc.{arc_value}
use Rattle.std.specs.List.{filter}
use Rattle.mz_turns.specs.Library.{is_used_by}
use Rattle.mz_desk.specs.Difference.{number_of_export, itself}
use Rattle.mz_desk.proofs.DifferenceLemmas.{nil_is, only_first, only_second, first_lower, second_lower, first_value, rest_matches, filter-own_first, all_itself, same_itself}
use Rattle.mz_desk.proofs.differences.+exports_differ.Goals as goal

pub returns-in-Some-split_first : goal.returns-in-Some-split_first
returns-in-Some-split_first t c =
    let p = is_used_by c.args.article.now in
    let own = filter p (map arc_value c.args.library.now) in
    let others = map arc_value c.args.others.now in
    only_second number_of_export itself own others (arc_value c.in-Some-split_first.f.now) (map arc_value c.in-Some-split_first.field-0-1.now) c.deref.result.now.name.number
    (ap (λ xs. filter p (map arc_value xs)) (nil_is c.args.library.now c.in-None.ensures.cases)) (ap (map arc_value) c.in-Some-split_first.ensures.cases.0) c.requires.others (all_itself others) (sym (ap (λ x. x.name.number) c.deref.ensures))

pub returns-in-None-split_first-2 : goal.returns-in-None-split_first-2
returns-in-None-split_first-2 t c =
    let p = is_used_by c.args.article.now in
    let own = filter p (map arc_value c.args.library.now) in
    let others = map arc_value c.args.others.now in
    let e = arc_value c.in-Some.e.now in
    let rest = filter p (map arc_value c.in-Some.rest.now) in
    let used : p e ≡ true = ap p (sym c.deref-in-Some.ensures) ∙ (sym c.is_used_by.ensures ∙ c.if-not-is_used_by.false) in
    let taken = filter-own_first p arc_value c.args.library.now c.in-Some.e.now c.in-Some.rest.now c.in-Some.ensures.cases.0 used in
    only_first number_of_export itself own others e rest c.deref-in-None-split_first-2.result.now.name.number
    taken (ap (map arc_value) (nil_is c.args.others.now c.in-None-split_first-2.ensures.cases)) c.requires.own (all_itself own) (sym (ap (λ x. x.name.number) c.deref-in-None-split_first-2.ensures))

pub returns-then-deref : goal.returns-then-deref
returns-then-deref t c =
    let p = is_used_by c.args.article.now in
    let own = filter p (map arc_value c.args.library.now) in
    let others = map arc_value c.args.others.now in
    let e = arc_value c.in-Some.e.now in
    let rest = filter p (map arc_value c.in-Some.rest.now) in
    let used : p e ≡ true = ap p (sym c.deref-in-Some.ensures) ∙ (sym c.is_used_by.ensures ∙ c.if-not-is_used_by.false) in
    let taken = filter-own_first p arc_value c.args.library.now c.in-Some.e.now c.in-Some.rest.now c.in-Some.ensures.cases.0 used in
    let f = arc_value c.in-Some-split_first-2.f.now in
    let more = map arc_value c.in-Some-split_first-2.more.now in
    let taken2 = ap (map arc_value) c.in-Some-split_first-2.ensures.cases.0 in
    let first = ap (λ x. x.name.number) c.deref-in-Some-split_first-2.ensures in
    let other = ap (λ x. x.name.number) c.deref-in-Some-split_first-2-2.ensures in
    let lt : number_of_export e < number_of_export f = omega (arith, c.if-deref.true, first, other) in
    first_lower number_of_export itself own others e f rest more c.deref-then-deref.result.now.name.number taken taken2 c.requires.own c.requires.others (all_itself own) lt (sym (ap (λ x. x.name.number) c.deref-then-deref.ensures))

pub returns-then-deref-2 : goal.returns-then-deref-2
returns-then-deref-2 t c =
    let p = is_used_by c.args.article.now in
    let own = filter p (map arc_value c.args.library.now) in
    let others = map arc_value c.args.others.now in
    let e = arc_value c.in-Some.e.now in
    let rest = filter p (map arc_value c.in-Some.rest.now) in
    let used : p e ≡ true = ap p (sym c.deref-in-Some.ensures) ∙ (sym c.is_used_by.ensures ∙ c.if-not-is_used_by.false) in
    let taken = filter-own_first p arc_value c.args.library.now c.in-Some.e.now c.in-Some.rest.now c.in-Some.ensures.cases.0 used in
    let f = arc_value c.in-Some-split_first-2.f.now in
    let more = map arc_value c.in-Some-split_first-2.more.now in
    let taken2 = ap (map arc_value) c.in-Some-split_first-2.ensures.cases.0 in
    let third = ap (λ x. x.name.number) c.deref-else-deref.ensures in
    let fourth = ap (λ x. x.name.number) c.deref-else-deref-2.ensures in
    let lt : number_of_export f < number_of_export e = omega (arith, c.if-deref-2.true, third, fourth) in
    second_lower number_of_export itself own others e f rest more c.deref-then-deref-2.result.now.name.number taken taken2 c.requires.own c.requires.others (all_itself others) lt (sym (ap (λ x. x.name.number) c.deref-then-deref-2.ensures))

pub returns-then-export_equal : goal.returns-then-export_equal
returns-then-export_equal t c =
    let p = is_used_by c.args.article.now in
    let own = filter p (map arc_value c.args.library.now) in
    let others = map arc_value c.args.others.now in
    let e = arc_value c.in-Some.e.now in
    let rest = filter p (map arc_value c.in-Some.rest.now) in
    let used : p e ≡ true = ap p (sym c.deref-in-Some.ensures) ∙ (sym c.is_used_by.ensures ∙ c.if-not-is_used_by.false) in
    let taken = filter-own_first p arc_value c.args.library.now c.in-Some.e.now c.in-Some.rest.now c.in-Some.ensures.cases.0 used in
    let f = arc_value c.in-Some-split_first-2.f.now in
    let more = map arc_value c.in-Some-split_first-2.more.now in
    let taken2 = ap (map arc_value) c.in-Some-split_first-2.ensures.cases.0 in
    let same = sym c.deref-else-deref-2-2.ensures ∙ (c.export_equal.ensures.0 c.if-export_equal.true ∙ c.deref-else-deref-2-3.ensures) in
    rest_matches number_of_export itself c.exports_differ-then-export_equal.result own others e f rest more taken taken2 c.requires.own c.requires.others same c.exports_differ-then-export_equal.ensures

pub returns-else-export_equal : goal.returns-else-export_equal
returns-else-export_equal t c =
    let p = is_used_by c.args.article.now in
    let own = filter p (map arc_value c.args.library.now) in
    let others = map arc_value c.args.others.now in
    let e = arc_value c.in-Some.e.now in
    let rest = filter p (map arc_value c.in-Some.rest.now) in
    let used : p e ≡ true = ap p (sym c.deref-in-Some.ensures) ∙ (sym c.is_used_by.ensures ∙ c.if-not-is_used_by.false) in
    let taken = filter-own_first p arc_value c.args.library.now c.in-Some.e.now c.in-Some.rest.now c.in-Some.ensures.cases.0 used in
    let f = arc_value c.in-Some-split_first-2.f.now in
    let more = map arc_value c.in-Some-split_first-2.more.now in
    let taken2 = ap (map arc_value) c.in-Some-split_first-2.ensures.cases.0 in
    let first = ap (λ x. x.name.number) c.deref-in-Some-split_first-2.ensures in
    let other = ap (λ x. x.name.number) c.deref-in-Some-split_first-2-2.ensures in
    let third = ap (λ x. x.name.number) c.deref-else-deref.ensures in
    let fourth = ap (λ x. x.name.number) c.deref-else-deref-2.ensures in
    let number : number_of_export e ≡ number_of_export f = omega (arith, c.if-deref.false, c.if-deref-2.false, first, other, third, fourth) in
    first_value number_of_export itself own others e f rest more c.deref-else-export_equal.result.now.name.number taken taken2 c.requires.own c.requires.others number
    (λ same. let yes = c.export_equal.ensures.1 (c.deref-else-deref-2-2.ensures ∙ (same_itself e f same ∙ sym c.deref-else-deref-2-3.ensures)) in absurd cc) (sym (ap (λ x. x.name.number) c.deref-else-export_equal.ensures))
