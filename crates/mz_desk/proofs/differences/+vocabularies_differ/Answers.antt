use Rattle.std.proofs.Common.{◌≡◌, ◌<◌, ap, sym, arith}
use Rattle.mz_desk.specs.Difference.{number_of_text, text_of}
use Rattle.mz_desk.proofs.DifferenceLemmas.{nil_is, only_first, only_second, first_lower, second_lower, first_value, rest_matches, same_text}
use Rattle.mz_desk.proofs.differences.+vocabularies_differ.Goals as goal

pub returns-in-Some-split_first : goal.returns-in-Some-split_first
returns-in-Some-split_first t c =
    only_second number_of_text text_of c.args.own.now c.args.others.now c.in-Some-split_first.w.now c.in-Some-split_first.field-0-1.now c.name.result.number
    (nil_is c.args.own.now c.in-None.ensures.cases) c.in-Some-split_first.ensures.cases.0 c.requires.others.0 c.requires.others.1 (sym (ap (λ n. n.number) c.name.ensures))

pub returns-in-None-split_first-2 : goal.returns-in-None-split_first-2
returns-in-None-split_first-2 t c =
    only_first number_of_text text_of c.args.own.now c.args.others.now c.in-Some.v.now c.in-Some.rest.now c.name-in-None-split_first-2.result.number
    c.in-Some.ensures.cases.0 (nil_is c.args.others.now c.in-None-split_first-2.ensures.cases) c.requires.own.0 c.requires.own.1 (sym (ap (λ n. n.number) c.name-in-None-split_first-2.ensures))

pub returns-then-name : goal.returns-then-name
returns-then-name t c =
    let first = ap (λ n. n.number) c.name-in-Some-split_first-2.ensures in
    let second = ap (λ n. n.number) c.name-in-Some-split_first-2-2.ensures in
    let lt : number_of_text c.in-Some.v.now < number_of_text c.in-Some-split_first-2.w.now = omega (arith, c.if-name.true, first, second) in
    first_lower number_of_text text_of c.args.own.now c.args.others.now c.in-Some.v.now c.in-Some-split_first-2.w.now c.in-Some.rest.now c.in-Some-split_first-2.more.now c.name-then-name.result.number
    c.in-Some.ensures.cases.0 c.in-Some-split_first-2.ensures.cases.0 c.requires.own.0 c.requires.others.0 c.requires.own.1 lt (sym (ap (λ n. n.number) c.name-then-name.ensures))

pub returns-then-name-2 : goal.returns-then-name-2
returns-then-name-2 t c =
    let first = ap (λ n. n.number) c.name-else-name.ensures in
    let second = ap (λ n. n.number) c.name-else-name-2.ensures in
    let lt : number_of_text c.in-Some-split_first-2.w.now < number_of_text c.in-Some.v.now = omega (arith, c.if-name-2.true, first, second) in
    second_lower number_of_text text_of c.args.own.now c.args.others.now c.in-Some.v.now c.in-Some-split_first-2.w.now c.in-Some.rest.now c.in-Some-split_first-2.more.now c.name-then-name-2.result.number
    c.in-Some.ensures.cases.0 c.in-Some-split_first-2.ensures.cases.0 c.requires.own.0 c.requires.others.0 c.requires.others.1 lt (sym (ap (λ n. n.number) c.name-then-name-2.ensures))

pub returns-then-is_same_text : goal.returns-then-is_same_text
returns-then-is_same_text t c =
    let first = ap (λ n. n.number) c.name-in-Some-split_first-2.ensures in
    let second = ap (λ n. n.number) c.name-in-Some-split_first-2-2.ensures in
    let third = ap (λ n. n.number) c.name-else-name.ensures in
    let fourth = ap (λ n. n.number) c.name-else-name-2.ensures in
    let number : number_of_text c.in-Some.v.now ≡ number_of_text c.in-Some-split_first-2.w.now = omega (arith, c.if-name.false, c.if-name-2.false, first, second, third, fourth) in
    let text = c.is_same_text.ensures.0 c.if-is_same_text.true in
    rest_matches number_of_text text_of c.vocabularies_differ.result c.args.own.now c.args.others.now c.in-Some.v.now c.in-Some-split_first-2.w.now c.in-Some.rest.now c.in-Some-split_first-2.more.now
    c.in-Some.ensures.cases.0 c.in-Some-split_first-2.ensures.cases.0 c.requires.own.0 c.requires.others.0 (same_text c.in-Some.v.now c.in-Some-split_first-2.w.now number text) c.vocabularies_differ.ensures

pub returns-else-is_same_text : goal.returns-else-is_same_text
returns-else-is_same_text t c =
    let first = ap (λ n. n.number) c.name-in-Some-split_first-2.ensures in
    let second = ap (λ n. n.number) c.name-in-Some-split_first-2-2.ensures in
    let third = ap (λ n. n.number) c.name-else-name.ensures in
    let fourth = ap (λ n. n.number) c.name-else-name-2.ensures in
    let number : number_of_text c.in-Some.v.now ≡ number_of_text c.in-Some-split_first-2.w.now = omega (arith, c.if-name.false, c.if-name-2.false, first, second, third, fourth) in
    first_value number_of_text text_of c.args.own.now c.args.others.now c.in-Some.v.now c.in-Some-split_first-2.w.now c.in-Some.rest.now c.in-Some-split_first-2.more.now c.name-else-is_same_text.result.number
    c.in-Some.ensures.cases.0 c.in-Some-split_first-2.ensures.cases.0 c.requires.own.0 c.requires.others.0 number (λ same. let yes = c.is_same_text.ensures.1 same in absurd cc) (sym (ap (λ n. n.number) c.name-else-is_same_text.ensures))
