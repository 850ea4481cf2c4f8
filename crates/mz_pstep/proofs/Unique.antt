-- Two parts of reasonings that hold no proof and spell the same tokens are equal.
use Rattle.std.proofs.Common.{◌≡◌, ℕ, zero, suc, true, false, List, [], ◌∷◌, ◌++◌, refl, sym, ap, subst, ◌∙◌, arith, Option, Some, None}
use Rattle.mz_base.specs.declared.place.Place.{Place}
use Rattle.mz_base.specs.declared.token.MarkedToken.{MarkedToken}
use Rattle.mz_forms.specs.Form.{nested, nothing}
use Rattle.mz_forms.proofs.Compose.{head_of, tail_of}
use Rattle.mz_forms.proofs.Leads.{apart_closed}
use Rattle.mz_forms.proofs.One.{One, OneAt, Quiet, one_then, at_by, at_as, at_same, at_token, one_from, one_class, one_nothing, one_nested, one_zero, one_as}
use Rattle.mz_forms.proofs.OneRepeat.{one_maybe}
use Rattle.mz_tree.specs.declared.word.Word.{Word}
use Rattle.mz_tree.specs.declared.lists.Separated.{Separated}
use Rattle.mz_tree.specs.Spelled.{equals_sign}
use Rattle.mz_tree.specs.Trees.{TermData, TypeData}
use Rattle.mz_tree.specs.Spell.{spell_term}
use Rattle.mz_tree.specs.Rules.{IfAny, IsTerm, ends_in_terms}
use Rattle.mz_tree_proof.specs.declared.introduction.NamedTermTree.{NamedTermTree}
use Rattle.mz_tree_proof.specs.declared.skeleton.TakenTree.TheVariants as taken_tree
use Rattle.mz_tree_proof.specs.Spell.{spell_named_term}
use Rattle.mz_tree_proof.specs.Rules.{AreTypes, named_term_ends_in_list, retyped_ends_in_list, taken_ends_in_list}
use Rattle.mz_pterm.specs.declared.sign.Sign.{Sign}
use Rattle.mz_pterm.specs.declared.sign.Sign.TheVariants as signs
use Rattle.mz_pterm.specs.Classes.{closes}
use Rattle.mz_pterm.specs.Sign.{sign_of}
use Rattle.mz_pterm.specs.Words.{is_fixed, fixed, named, word, name}
use Rattle.mz_pterm.specs.Forms.{term_form}
use Rattle.mz_pterm.proofs.Signs.{same_fixed, same_named, sign_of-named}
use Rattle.mz_pterm.proofs.Unique.{terms_one}
use Rattle.mz_ptype.specs.Forms.{whole_type, declarations_form, goes_on_declared}
use Rattle.mz_ptype.proofs.Optional.{true_not_false}
use Rattle.mz_ptype.proofs.Unique.{type_one, declarations_one}
use Rattle.mz_pformula.specs.Forms.{formula_form}
use Rattle.mz_pformula.proofs.UniqueFormulas.{formulas_one}
use Rattle.mz_pjustification.specs.declared.keyword.Keyword.TheVariants as keywords
use Rattle.mz_pjustification.specs.Words.{keyword, tokens_of}
use Rattle.mz_pjustification.specs.Forms.{simple_form}
use Rattle.mz_pjustification.proofs.Unique.{simple_one}
use Rattle.mz_pproposition.specs.Forms.{hypotheses_form, such_form}
use Rattle.mz_pproposition.proofs.Unique.{keys, hypotheses_one, such_one}
use Rattle.mz_pstep.specs.Words.{equals_form, set_word, set_form}
use Rattle.mz_pstep.specs.Forms.{named_term_form, goes_on_named, retyped_form, taken_form, goes_on_list, named_terms_form, retypeds_form, takens_form, types_form, equality_step_form, consider_form, reconsider_form, set_statement_form, deffunc_form, defpred_form, spell_closing, closing_form, begins_such, maybe_such_form, let_form, assume_form, given_form, take_form, split_form}
use Rattle.mz_pstep.proofs.Closings as closings
use Rattle.mz_pstep.proofs.DividedLists.{list_one}
use Rattle.mz_pstep.proofs.Equals.{equals_same, equals_signed, equals_own, set_same}
use Rattle.mz_pstep.proofs.ListSteps.{linked_named, linked_retyped, linked_taken, linked_types}
use Rattle.mz_pstep.proofs.Named as named_terms
use Rattle.mz_pstep.proofs.Sequences as sequences
use Rattle.mz_pstep.proofs.StepSequences as steps

words : (n : ℕ) (c : Sign) → is_fixed c ≡ true → One n (word c)
words n c fix = one_class n Place (fixed c) (same_fixed c fix)

names : (n : ℕ) → One n (name signs.Identifier)
names n = one_class n Word (named signs.Identifier) (same_named signs.Identifier refl)

equals_one : (n : ℕ) → One n equals_form
equals_one n = one_class n Place equals_sign equals_same

set_word_one : (n : ℕ) → One n set_form
set_word_one n = one_class n Place set_word set_same

-- names for terms
pub named_one : (n : ℕ) → One n named_term_form
named_one n = one_as n named_term_form sequences.named_1 sequences.make_named sequences.only_named (λ s is. (sequences.as_named []).spells s is) (λ s t is g. (sequences.as_named []).goes s t is g)
    (one_then n n (name signs.Identifier) (λ _. sequences.named_2) sequences.named_apart_1 (names n) (λ a. one_then n n equals_form (λ _. sequences.named_3) sequences.named_apart_2 (equals_one n) (λ b. (terms_one false n).terms) (λ b l isb h. omega (arith, h))) (λ a l isa h. omega (arith, h)))

retyped_one : (n : ℕ) → One n retyped_form
retyped_one n = one_as n retyped_form named_terms.parts_of_retyped named_terms.make_retyped named_terms.only_retyped (λ s is. (named_terms.as_retyped []).spells s is) (λ s t is g. (named_terms.as_retyped []).goes s t is g)
    (one_then n n (name signs.Identifier) (λ _. named_terms.maybe_equals) (apart_closed (name signs.Identifier) (λ _. named_terms.maybe_equals) (λ a t. refl)) (names n)
    (λ a. one_maybe named_terms.behind_equals _ named_terms.starts_equals n (one_then n n equals_form (λ _. term_form false) (apart_closed equals_form (λ _. term_form false) (λ b t. refl)) (equals_one n) (λ b. (terms_one false n).terms) (λ b l isb h. omega (arith, h)))) (λ a l isa h. omega (arith, h)))

-- a term alone, and one with a name
mixed : (k : NamedTermTree) (x : TermData) (v y : List MarkedToken) → IsTerm false x → spell_named_term k ++ v ≡ spell_term x ++ y → Quiet taken_form (taken_tree.Plain x) y → ⊥
mixed k x v y is e quiet = go (spell_term x) refl
  where
    not_quiet : (z : List MarkedToken) → Quiet taken_form (taken_tree.Plain x) z → equals_sign k.equals ∷ (spell_term k.term ++ v) ≡ z → ⊥
    not_quiet [] q i = cc
    not_quiet (s ∷ z) q i =
        let C : MarkedToken → Type 0 = λ w. goes_on_named (sign_of w) ≡ false in
        true_not_false (goes_on_named (sign_of (equals_sign k.equals))) (subst C (sym (head_of _ _ _ _ i)) q) (named_terms.equals_on (equals_sign k.equals) (equals_own k.equals))

    go : (w : List MarkedToken) → spell_term x ≡ w → ⊥
    go [] h = named_terms.not_empty_term x is h
    go (t ∷ []) h = not_quiet y quiet (tail_of _ _ _ _ (e ∙ ap (λ z. z ++ y) h))
    go (t ∷ (n ∷ w)) h =
        let whole : named signs.Identifier k.name ∷ (equals_sign k.equals ∷ (spell_term k.term ++ v)) ≡ t ∷ (n ∷ (w ++ y)) = e ∙ ap (λ z. z ++ y) h in
        named_terms.no_predicate x t n w is (sym (ap sign_of (head_of _ _ _ _ whole)) ∙ sign_of-named signs.Identifier k.name refl) (sym (ap sign_of (head_of _ _ _ _ (tail_of _ _ _ _ whole))) ∙ equals_signed k.equals) h

taken_one : (n : ℕ) → One n taken_form
taken_one n (taken_tree.Plain a) (taken_tree.Plain b) x y less isa isb e qa qb = at_same n taken_form (term_form false) named_terms.put_plain (λ s is. refl) (λ s t is h. named_terms.term_on t h) (terms_one false n).terms (taken_tree.Plain a) (taken_tree.Plain b) x y less (a, isa, refl) (b, isb, refl) e qa qb
taken_one n (taken_tree.Named a) (taken_tree.Named b) x y less isa isb e qa qb = at_same n taken_form named_term_form named_terms.put_named (λ s is. refl) (λ s t is h. named_terms.term_on t h) (named_one n) (taken_tree.Named a) (taken_tree.Named b) x y less (a, isa, refl) (b, isb, refl) e qa qb
taken_one n (taken_tree.Named a) (taken_tree.Plain b) x y less isa isb e qa qb = absurd (mixed a b x y isb e qb)
taken_one n (taken_tree.Plain a) (taken_tree.Named b) x y less isa isb e qa qb = absurd (mixed b a y x isa (sym e) qa)

named_terms_one : (n : ℕ) → One n named_terms_form
named_terms_one n = list_one named_term_form named_term_ends_in_list goes_on_list linked_named named_one n

retypeds_one : (n : ℕ) → One n retypeds_form
retypeds_one n = list_one retyped_form retyped_ends_in_list goes_on_list linked_retyped retyped_one n

takens_one : (n : ℕ) → One n takens_form
takens_one n = list_one taken_form taken_ends_in_list goes_on_list linked_taken taken_one n

types_one : (n : ℕ) → One n types_form
types_one n = list_one (whole_type false) ends_in_terms goes_on_declared linked_types (type_one false) n

-- types or nothing, up to the bracket, and conditions or nothing
closing_at : (c : Sign) → closes c ≡ true → (n : ℕ) (o : Option (Separated TypeData)) (q : Place) (tok : MarkedToken) (m : List MarkedToken) → IfAny AreTypes o → spell_closing c (o, q) ≡ tok ∷ m → OneAt (suc n) (closing_form c) tok
closing_at c closed n None q tok m is e = at_token (suc n) (closing_form c) (fixed c q) tok (head_of _ _ _ _ e) (at_by n (closing_form c) (fixed c q) nothing (λ _. (None, q)) 0 (closings.by_close c closed q) (one_nothing n))
closing_at c closed n (Some s) q tok m is e = at_as (suc n) (closing_form c) (closings.some_closing c closed) (closings.make_closing c closed) tok
    (closings.as_types c closed (tok ∷ []) (λ p g. closings.types_not_closed c closed s p q m is (e ∙ ap (λ z. z ∷ m) (sym g))))
    (one_then (suc n) (suc n) (nested types_form) (λ _. word c) (closings.types_apart c closed) (one_nested (suc n) types_form (types_one (suc n))) (λ a. words (suc n) c (closings.closes_fixed c closed)) (λ a l isa h. omega (arith, h)))

closing_one : (c : Sign) → closes c ≡ true → (n : ℕ) → One n (closing_form c)
closing_one c closed zero = one_zero (closing_form c)
closing_one c closed (suc n) = one_from (suc n) (closing_form c) (λ a b isa isb ea eb. absurd (closings.closing_filled c closed a ea)) (λ a b tok m isa isb ea eb. absurd (closings.closing_filled c closed a ea)) (λ a tok m isa e. closing_at c closed n a.0 a.1 tok m isa e)

maybe_such_one : (n : ℕ) → One n maybe_such_form
maybe_such_one n = one_maybe such_form (tokens_of begins_such) closings.starts_such n (such_one n)

pub equality_one : (n : ℕ) → One n equality_step_form
equality_one n = one_as n equality_step_form sequences.equality_1 sequences.make_equality sequences.only_equality (λ s is. (sequences.as_equality []).spells s is) (λ s t is g. (sequences.as_equality []).goes s t is g)
    (one_then n n (keyword keywords.Link) (λ _. sequences.equality_2) sequences.equality_apart_1 (keys n keywords.Link refl) (λ a. one_then n n (term_form false) (λ _. sequences.equality_3) sequences.equality_apart_2 ((terms_one false n).terms) (λ a. simple_one n) (λ a l isa h. omega (arith, h))) (λ a l isa h. omega (arith, h)))

pub consider_one : (n : ℕ) → One n consider_form
consider_one n = one_then n n (keyword keywords.Consider) (λ _. sequences.consider_2) sequences.consider_apart_1 (keys n keywords.Consider refl) (λ a. one_then n n (declarations_form false) (λ _. sequences.consider_3) sequences.consider_apart_2 (declarations_one false n) (λ a. one_then n n such_form (λ _. sequences.consider_4) sequences.consider_apart_3 (such_one n) (λ a. one_then n n simple_form (λ _. sequences.consider_5) sequences.consider_apart_4 (simple_one n) (λ a. keys n keywords.Semicolon refl) (λ a l isa h. omega (arith, h))) (λ a l isa h. omega (arith, h))) (λ a l isa h. omega (arith, h))) (λ a l isa h. omega (arith, h))

pub reconsider_one : (n : ℕ) → One n reconsider_form
reconsider_one n = one_then n n (keyword keywords.Reconsider) (λ _. sequences.reconsider_2) sequences.reconsider_apart_1 (keys n keywords.Reconsider refl) (λ a. one_then n n retypeds_form (λ _. sequences.reconsider_3) sequences.reconsider_apart_2 (retypeds_one n) (λ a. one_then n n (keyword keywords.As) (λ _. sequences.reconsider_4) sequences.reconsider_apart_3 (keys n keywords.As refl) (λ a. one_then n n (whole_type false) (λ _. sequences.reconsider_5) sequences.reconsider_apart_4 (type_one false n) (λ a. one_then n n simple_form (λ _. sequences.reconsider_6) sequences.reconsider_apart_5 (simple_one n) (λ a. keys n keywords.Semicolon refl) (λ a l isa h. omega (arith, h))) (λ a l isa h. omega (arith, h))) (λ a l isa h. omega (arith, h))) (λ a l isa h. omega (arith, h))) (λ a l isa h. omega (arith, h))

pub set_one : (n : ℕ) → One n set_statement_form
set_one n = one_as n set_statement_form sequences.set_1 sequences.make_set sequences.only_set (λ s is. (sequences.as_set []).spells s is) (λ s t is g. (sequences.as_set []).goes s t is g)
    (one_then n n set_form (λ _. sequences.set_2) sequences.set_apart_1 (set_word_one n) (λ a. one_then n n named_terms_form (λ _. sequences.set_3) sequences.set_apart_2 (named_terms_one n) (λ a. keys n keywords.Semicolon refl) (λ a l isa h. omega (arith, h))) (λ a l isa h. omega (arith, h)))

pub deffunc_one : (n : ℕ) → One n deffunc_form
deffunc_one n = one_as n deffunc_form sequences.deffunc_1 sequences.make_deffunc sequences.only_deffunc (λ s is. (sequences.as_deffunc []).spells s is) (λ s t is g. (sequences.as_deffunc []).goes s t is g)
    (one_then n n (keyword keywords.Deffunc) (λ _. sequences.deffunc_2) sequences.deffunc_apart_1 (keys n keywords.Deffunc refl) (λ a. one_then n n (name signs.Identifier) (λ _. sequences.deffunc_3) sequences.deffunc_apart_2 (names n) (λ a. one_then n n (nested (word signs.Open)) (λ _. sequences.deffunc_4) sequences.deffunc_apart_3 (words n signs.Open refl) (λ a. one_then n n (closing_form signs.Close) (λ _. sequences.deffunc_5) sequences.deffunc_apart_4 (closing_one signs.Close refl n) (λ a. one_then n n equals_form (λ _. sequences.deffunc_6) sequences.deffunc_apart_5 (equals_one n) (λ a. one_then n n (term_form false) (λ _. sequences.deffunc_7) sequences.deffunc_apart_6 ((terms_one false n).terms) (λ a. keys n keywords.Semicolon refl) (λ a l isa h. omega (arith, h))) (λ a l isa h. omega (arith, h))) (λ a l isa h. omega (arith, h))) (λ a l isa h. omega (arith, h))) (λ a l isa h. omega (arith, h))) (λ a l isa h. omega (arith, h)))

pub defpred_one : (n : ℕ) → One n defpred_form
defpred_one n = one_as n defpred_form sequences.defpred_1 sequences.make_defpred sequences.only_defpred (λ s is. (sequences.as_defpred []).spells s is) (λ s t is g. (sequences.as_defpred []).goes s t is g)
    (one_then n n (keyword keywords.Defpred) (λ _. sequences.defpred_2) sequences.defpred_apart_1 (keys n keywords.Defpred refl) (λ a. one_then n n (name signs.Identifier) (λ _. sequences.defpred_3) sequences.defpred_apart_2 (names n) (λ a. one_then n n (nested (word signs.OpenSquare)) (λ _. sequences.defpred_4) sequences.defpred_apart_3 (words n signs.OpenSquare refl) (λ a. one_then n n (closing_form signs.CloseSquare) (λ _. sequences.defpred_5) sequences.defpred_apart_4 (closing_one signs.CloseSquare refl n) (λ a. one_then n n (keyword keywords.Means) (λ _. sequences.defpred_6) sequences.defpred_apart_5 (keys n keywords.Means refl) (λ a. one_then n n (formula_form false) (λ _. sequences.defpred_7) sequences.defpred_apart_6 ((formulas_one false n).formulas) (λ a. keys n keywords.Semicolon refl) (λ a l isa h. omega (arith, h))) (λ a l isa h. omega (arith, h))) (λ a l isa h. omega (arith, h))) (λ a l isa h. omega (arith, h))) (λ a l isa h. omega (arith, h))) (λ a l isa h. omega (arith, h)))

pub let_one : (n : ℕ) → One n let_form
let_one n = one_as n let_form steps.let_1 steps.make_let steps.only_let (λ s is. (steps.as_let []).spells s is) (λ s t is g. (steps.as_let []).goes s t is g)
    (one_then n n (keyword keywords.Let) (λ _. steps.let_2) steps.let_apart_1 (keys n keywords.Let refl) (λ a. one_then n n (declarations_form false) (λ _. steps.let_3) steps.let_apart_2 (declarations_one false n) (λ a. one_then n n maybe_such_form (λ _. steps.let_4) steps.let_apart_3 (maybe_such_one n) (λ a. keys n keywords.Semicolon refl) (λ a l isa h. omega (arith, h))) (λ a l isa h. omega (arith, h))) (λ a l isa h. omega (arith, h)))

pub assume_one : (n : ℕ) → One n assume_form
assume_one n = one_as n assume_form steps.assume_1 steps.make_assume steps.only_assume (λ s is. (steps.as_assume []).spells s is) (λ s t is g. (steps.as_assume []).goes s t is g)
    (one_then n n (keyword keywords.Assume) (λ _. steps.assume_2) steps.assume_apart_1 (keys n keywords.Assume refl) (λ a. one_then n n hypotheses_form (λ _. steps.assume_3) steps.assume_apart_2 (hypotheses_one n) (λ a. keys n keywords.Semicolon refl) (λ a l isa h. omega (arith, h))) (λ a l isa h. omega (arith, h)))

pub given_one : (n : ℕ) → One n given_form
given_one n = one_as n given_form steps.given_1 steps.make_given steps.only_given (λ s is. (steps.as_given []).spells s is) (λ s t is g. (steps.as_given []).goes s t is g)
    (one_then n n (keyword keywords.Given) (λ _. steps.given_2) steps.given_apart_1 (keys n keywords.Given refl) (λ a. one_then n n (declarations_form false) (λ _. steps.given_3) steps.given_apart_2 (declarations_one false n) (λ a. one_then n n such_form (λ _. steps.given_4) steps.given_apart_3 (such_one n) (λ a. keys n keywords.Semicolon refl) (λ a l isa h. omega (arith, h))) (λ a l isa h. omega (arith, h))) (λ a l isa h. omega (arith, h)))

pub take_one : (n : ℕ) → One n take_form
take_one n = one_as n take_form steps.take_1 steps.make_take steps.only_take (λ s is. (steps.as_take []).spells s is) (λ s t is g. (steps.as_take []).goes s t is g)
    (one_then n n (keyword keywords.Take) (λ _. steps.take_2) steps.take_apart_1 (keys n keywords.Take refl) (λ a. one_then n n takens_form (λ _. steps.take_3) steps.take_apart_2 (takens_one n) (λ a. keys n keywords.Semicolon refl) (λ a l isa h. omega (arith, h))) (λ a l isa h. omega (arith, h)))

pub split_one : (n : ℕ) → One n split_form
split_one n = one_then n n (keyword keywords.Per) (λ _. steps.split_2) steps.split_apart_1 (keys n keywords.Per refl) (λ a. one_then n n (keyword keywords.Cases) (λ _. steps.split_3) steps.split_apart_2 (keys n keywords.Cases refl) (λ a. one_then n n simple_form (λ _. steps.split_4) steps.split_apart_3 (simple_one n) (λ a. keys n keywords.Semicolon refl) (λ a l isa h. omega (arith, h))) (λ a l isa h. omega (arith, h))) (λ a l isa h. omega (arith, h))
