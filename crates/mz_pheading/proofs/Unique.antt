-- Two headings, and two definientia, that spell the same tokens are equal.
use Rattle.std.specs.Prelude.{codes}
use Rattle.std.proofs.Common.{◌≡◌, ℕ, zero, suc, Bool, true, false, List, [], ◌∷◌, ◌++◌, length, arith, refl, sym, ap, subst, ◌∙◌, Option, Some, None, is_some}
use Rattle.mz_base.specs.declared.place.Place.{Place}
use Rattle.mz_base.specs.declared.token.MarkedToken.{MarkedToken}
use Rattle.mz_forms.specs.Form.{Agrees, Form}
use Rattle.mz_forms.specs.Chain.{chain}
use Rattle.mz_forms.specs.Parse.{OneTree}
use Rattle.mz_forms.proofs.Chain.{one_chain}
use Rattle.mz_forms.proofs.Compose.{Cut, longer, shorter, append_nil, compare, head_of, nothing_more}
use Rattle.mz_forms.proofs.One.{One, OneAt, Quiet, at_as, at_by, at_token, one_as, one_class, one_from, one_then, one_tree, one_zero}
use Rattle.mz_forms.proofs.OneRepeat.{one_maybe}
use Rattle.mz_tree.specs.declared.word.Word.{Word}
use Rattle.mz_tree.specs.Trees.{FormulaData}
use Rattle.mz_tree.specs.Spell.{spell_formula}
use Rattle.mz_tree.specs.Rules.{IsFormula}
use Rattle.mz_tree_heading.specs.Rules.{formula_ends_in_terms}
use Rattle.mz_tree_heading.specs.declared.heading.HeadingTree.{HeadingTree}
use Rattle.mz_tree_heading.specs.declared.heading.HeadingTree.TheVariants as heading_tree
use Rattle.mz_tree_heading.specs.declared.meaning.MeaningTree.{MeaningTree}
use Rattle.mz_tree_heading.specs.Spell.{spell_heading}
use Rattle.mz_pterm.specs.declared.sign.Sign.{Sign}
use Rattle.mz_pterm.specs.declared.sign.Sign.TheVariants as signs
use Rattle.mz_pterm.specs.Sign.{sign_of}
use Rattle.mz_pterm.specs.Words.{fixed, is_named, name, named}
use Rattle.mz_pterm.proofs.Signs.{same_named, sign_of-fixed, told_fixed}
use Rattle.mz_ptype.specs.Forms.{whole_type}
use Rattle.mz_ptype.proofs.Unique.{type_one}
use Rattle.mz_patom.specs.Classes.{goes_open}
use Rattle.mz_pformula.specs.Forms.{formula_takes}
use Rattle.mz_pformula.proofs.UniqueFormulas.{formulas_one}
use Rattle.mz_pjustification.specs.declared.keyword.Keyword.TheVariants as keywords
use Rattle.mz_pjustification.specs.Words.{keyword}
use Rattle.mz_pproposition.proofs.Unique.{keys}
use Rattle.mz_ppattern.specs.Forms.{attribute_pattern_form, functor_pattern_form, mode_pattern_form, predicate_pattern_form}
use Rattle.mz_ppattern.specs.Words.{arrow_form, arrow_token, is_arrow, is_word, word_form, word_token}
use Rattle.mz_ppattern.proofs.OptionalSteps.{one_optional}
use Rattle.mz_ppattern.proofs.Unique.{attribute_pattern_one, functor_pattern_one, mode_pattern_one, predicate_pattern_one}
use Rattle.mz_ppattern.proofs.WordSteps.{arrow_same, word_same}
use Rattle.mz_ppart.proofs.Unique.{structure_one}
use Rattle.mz_ppart.specs.StructureForms.{structure_form}
use Rattle.mz_comma_laws.proofs.Formulas.{behind_terms_alone}
use Rattle.mz_pmeaning.specs.Classes.{begins_label, begins_meaning, begins_means, goes_condition}
use Rattle.mz_pmeaning.specs.CaseForms.{case_form, case_links, cases_form, condition_form, formula_body, further_cases, listed_cases, optional_otherwise, otherwise_form, term_body}
use Rattle.mz_pmeaning.specs.MeaningForms.{definition_label_form, equals_form, meaning_form, means_form, optional_label, optional_meaning, optional_means}
use Rattle.mz_pmeaning.proofs.Bodies.{IsBody, IsMeant, formula_is_body, term_is_body}
use Rattle.mz_pmeaning.proofs.CaseSequences.{case_1, case_2, case_3, case_apart_1, case_apart_2, as_case, make_case, only_case, otherwise_1, otherwise_2, otherwise_apart_1, as_otherwise, make_otherwise, only_otherwise}
use Rattle.mz_pmeaning.proofs.CaseSteps.{as_cases, behind_body, behind_if, behind_list, body_apart, condition_apart, if_apart, is_if, linked_cases, listed_apart, make_cases, only_cases, parts_of_cases, starts_if, starts_otherwise}
use Rattle.mz_pmeaning.proofs.MeaningSequences.{as_label, label_1, label_2, label_3, label_apart_1, label_apart_2, make_label, only_label, as_stated_means, stated_means_1, stated_means_2, stated_means_3, stated_means_apart_1, stated_means_apart_2, make_stated_means, only_stated_means, as_stated_equals, stated_equals_1, stated_equals_2, stated_equals_3, stated_equals_apart_1, stated_equals_apart_2, make_stated_equals, only_stated_equals}
use Rattle.mz_pmeaning.proofs.MeaningSteps.{as_equals, as_means, itself, meaning_is_meant, means_is_meant, optional_meaning_is_meant, optional_means_is_meant, starts_label, starts_meaning, starts_means}
use Rattle.mz_pheading.specs.HeadingForms.{attribute_heading_form, functor_heading_form, heading_form, predicate_heading_form, redefined_form}
use Rattle.mz_pheading.specs.ModeForms.{definition_rest, mode_form, mode_meaning, mode_rest_form, optional_result, redefined_mode_form, result_form, spell_mode_rest, stated, IsModeRest, ModeRest, abbreviates, defines}
use Rattle.mz_pheading.proofs.HeadingSequences as sequences
use Rattle.mz_pheading.proofs.HeadingSteps as headings
use Rattle.mz_pheading.proofs.ModeChoices as modes
use Rattle.mz_pheading.proofs.ModeSequences.{as_mode, as_result, ends_rest, make_mode, make_result, mode_1, mode_2, mode_3, mode_apart_1, mode_apart_2, only_mode, only_result, result_1, result_2, result_apart_1}
use Rattle.mz_pheading.proofs.ModeSteps.{definition_unsigned, starts_result, stated_is_meant, type_apart}

heads : (w : List MarkedToken) (t : MarkedToken) (m : List MarkedToken) → w ≡ t ∷ m → Agrees (t ∷ []) w
heads w t m e = let A : List MarkedToken → Type 0 = λ z. Agrees (t ∷ []) z in subst A (sym e) refl

word_one : (n : ℕ) (w : List ℕ) → One n (word_form w)
word_one n w = one_class n Place (word_token w) (word_same w)

arrow_one : (n : ℕ) → One n arrow_form
arrow_one n = one_class n Place arrow_token arrow_same

names : (n : ℕ) (s : Sign) → is_named s ≡ true → One n (name s)
names n s h = one_class n Word (named s) (same_named s h)

-- Conditions: one that a token takes to a longer one isn't followed by it.
no_nil : (t : MarkedToken) (x : List MarkedToken) → t ∷ x ≡ [] → ⊥
no_nil t x e = cc

clash : (b : Bool) → b ≡ true → b ≡ false → ⊥
clash true e f = cc
clash false e f = cc

goes_so : (f : FormulaData) (s : Sign) → goes_open (formula_takes f) s ≡ true → (s ≡ signs.ListComma → goes_condition f s ≡ true) → goes_condition f s ≡ true
goes_so f signs.ListComma g h = h refl
goes_so f _ g h = g

no_longer : (f g : FormulaData) (s : MarkedToken) (w : List MarkedToken) → IsFormula false f → IsFormula false g → spell_formula g ≡ spell_formula f ++ s ∷ w → goes_condition f (sign_of s) ≡ false → ⊥
no_longer f g s w isf isg e off = go (goes_open (formula_takes f) (sign_of s)) refl
  where
    comma : sign_of s ≡ signs.ListComma → goes_condition f (sign_of s) ≡ true
    comma h = ap (goes_condition f) h ∙ behind_terms_alone false f g s.token.place w isf isg (e ∙ ap (λ z. spell_formula f ++ z ∷ w) (told_fixed signs.ListComma s refl h))

    go : (b : Bool) → goes_open (formula_takes f) (sign_of s) ≡ b → ⊥
    go true h = clash (goes_condition f (sign_of s)) (goes_so f (sign_of s) h comma) off
    go false h =
        let same : f ≡ g = (formulas_one false (suc (length (spell_formula f)))).formulas f g (s ∷ w) [] (omega arith) isf isg (sym e ∙ sym (append_nil (spell_formula g))) h tt in
        no_nil s w (nothing_more (spell_formula f) (s ∷ w) (ap spell_formula same ∙ e))

condition_one : (n : ℕ) → One n condition_form
condition_one n a b x y less isa isb e qa qb = go (compare (spell_formula a) x (spell_formula b) y e)
  where
    same : spell_formula a ≡ spell_formula b → a ≡ b
    same f = (formulas_one false n).formulas a b [] [] less isa isb (ap (λ z. z ++ []) f) tt tt

    first_off : (f : FormulaData) (s : MarkedToken) (w z : List MarkedToken) → s ∷ w ≡ z → Quiet condition_form f z → goes_condition f (sign_of s) ≡ false
    first_off f s w z h q = let Q : List MarkedToken → Type 0 = λ v. Quiet condition_form f v in subst Q (sym h) q

    go : Cut (spell_formula a) x (spell_formula b) y → a ≡ b
    go (longer [] p q) = same (p ∙ append_nil (spell_formula b))
    go (longer (s ∷ v) p q) = absurd (no_longer b a s v isb isa p (first_off b s _ y q qb))
    go (shorter s w p q) = absurd (no_longer a b s w isa isb p (first_off a s _ x (sym q) qa))

-- Definientia.
module _ (B : Form MarkedToken) (body : IsBody B) where
  case_one : (n : ℕ) → One n (case_form B)
  case_one n = one_as n (case_form B) (case_1 B body) (make_case B body) (only_case B body) (λ s is. (as_case B body []).spells s is) (λ s t is g. (as_case B body []).goes s t is g)
      (one_then n n B (λ _. case_2 B body) (case_apart_1 B body) (body.one n) (λ a. one_then n n (word_form (codes "if")) (λ _. case_3 B body) (case_apart_2 B body) (word_one n (codes "if")) (λ b. condition_one n) (λ a l isa h. omega (arith, h))) (λ a l isa h. omega (arith, h)))

  further_one : (n : ℕ) (so : Bool) → One n (chain (case_links B) so)
  further_one zero so = one_zero (chain (case_links B) so)
  further_one (suc n) so = one_chain (case_links B) (linked_cases B body) n (case_one n) (further_one n) so

  listed_one : (n : ℕ) → One n (listed_cases B)
  listed_one n = one_then n n condition_form (further_cases B) (condition_apart B body) (condition_one n) (λ f. further_one n (further_state f)) (λ a l isa h. omega (arith, h))
    where
      further_state : FormulaData → Bool
      further_state f = formula_ends_in_terms f

  otherwise_one : (n : ℕ) → One n (otherwise_form B)
  otherwise_one n = one_as n (otherwise_form B) (otherwise_1 B body) (make_otherwise B body) (only_otherwise B body) (λ s is. (as_otherwise B body []).spells s is) (λ s t is g. (as_otherwise B body []).goes s t is g)
      (one_then n n (word_form (codes "otherwise")) (λ _. otherwise_2 B body) (otherwise_apart_1 B body) (word_one n (codes "otherwise")) (λ a. body.one n) (λ a l isa h. omega (arith, h)))

  optional_otherwise_one : (n : ℕ) → One n (optional_otherwise B)
  optional_otherwise_one n = one_optional (otherwise_form B) (is_word (codes "otherwise")) (starts_otherwise B body) n (otherwise_one n)

  behind_if_one : (n : ℕ) → One n (behind_if B body)
  behind_if_one n = one_then n n (word_form (codes "if")) (λ _. behind_list B body) (if_apart B body) (word_one n (codes "if")) (λ p. one_then n n (listed_cases B) (λ _. optional_otherwise B) (listed_apart B body) (listed_one n) (λ k. optional_otherwise_one n) (λ a l isa h. omega (arith, h))) (λ a l isa h. omega (arith, h))

  pub cases_one : (n : ℕ) → One n (cases_form B)
  cases_one n = one_as n (cases_form B) (parts_of_cases B body) (make_cases B body) (only_cases B body) (λ s is. (as_cases B body []).spells s is) (λ s t is g. (as_cases B body []).goes s t is g)
      (one_then n n B (λ _. behind_body B body) (body_apart B body) (body.one n) (λ x. one_maybe (behind_if B body) (is_if B body) (starts_if B body) n (behind_if_one n)) (λ a l isa h. omega (arith, h)))

pub label_one : (n : ℕ) → One n definition_label_form
label_one n = one_as n definition_label_form label_1 make_label only_label (λ s is. (as_label []).spells s is) (λ s t is g. (as_label []).goes s t is g)
    (one_then n n (keyword keywords.Colon) (λ _. label_2) label_apart_1 (keys n keywords.Colon refl) (λ a. (one_then n n (name signs.Identifier) (λ _. label_3) label_apart_2 (names n signs.Identifier refl) (λ a. keys n keywords.Colon refl) (λ a l isa h. omega (arith, h)))) (λ a l isa h. omega (arith, h)))

optional_label_one : (n : ℕ) → One n optional_label
optional_label_one n = one_optional definition_label_form begins_label starts_label n (label_one n)

pub means_one : (n : ℕ) → One n means_form
means_one n = one_as n means_form stated_means_1 make_stated_means only_stated_means (λ s is. (as_stated_means []).spells s is) (λ s t is g. (as_stated_means []).goes s t is g)
    (one_then n n (keyword keywords.Means) (λ _. stated_means_2) stated_means_apart_1 (keys n keywords.Means refl) (λ a. (one_then n n optional_label (λ _. stated_means_3) stated_means_apart_2 (optional_label_one n) (λ a. cases_one formula_body formula_is_body n) (λ a l isa h. omega (arith, h)))) (λ a l isa h. omega (arith, h)))

pub equals_one : (n : ℕ) → One n equals_form
equals_one n = one_as n equals_form stated_equals_1 make_stated_equals only_stated_equals (λ s is. (as_stated_equals []).spells s is) (λ s t is g. (as_stated_equals []).goes s t is g)
    (one_then n n (word_form (codes "equals")) (λ _. stated_equals_2) stated_equals_apart_1 (word_one n (codes "equals")) (λ a. (one_then n n optional_label (λ _. stated_equals_3) stated_equals_apart_2 (optional_label_one n) (λ a. cases_one term_body term_is_body n) (λ a l isa h. omega (arith, h)))) (λ a l isa h. omega (arith, h)))

meaning_at : (n : ℕ) (tok : MarkedToken) → OneAt n meaning_form tok
meaning_at n tok = go (begins_means tok) refl
  where
    go : (b : Bool) → begins_means tok ≡ b → OneAt n meaning_form tok
    go true h = at_as n meaning_form means_form itself tok (as_means (tok ∷ []) h) (means_one n)
    go false h = at_as n meaning_form equals_form itself tok (as_equals (tok ∷ []) h) (equals_one n)

pub meaning_one : (n : ℕ) → One n meaning_form
meaning_one n = one_from n meaning_form (λ a b isa isb ea eb. absurd (starts_meaning.filled a isa ea)) (λ a b tok m isa isb ea eb. absurd (starts_meaning.filled a isa ea)) (λ a tok m isa e. meaning_at n tok)

optional_means_one : (n : ℕ) → One n optional_means
optional_means_one n = one_optional means_form begins_means starts_means n (means_one n)

optional_meaning_one : (n : ℕ) → One n optional_meaning
optional_meaning_one n = one_optional meaning_form begins_meaning starts_meaning n (meaning_one n)

stated_one : (n : ℕ) → One n (stated means_form)
stated_one n = one_as n (stated means_form) means_form Some only (λ s is. refl) (λ s t is g. g) (means_one n)
  where
    only : (o : Option MeaningTree) → (stated means_form).IsTree o → (x : MeaningTree) × means_form.IsTree x × (o ≡ Some x)
    only None is = absurd is
    only (Some x) is = (x, is, refl)

mode_meaning_one : (typed : Bool) (n : ℕ) → One n (mode_meaning typed)
mode_meaning_one true n = optional_means_one n
mode_meaning_one false n = stated_one n

-- Modes.
pub result_one : (n : ℕ) → One n result_form
result_one n = one_as n result_form result_1 make_result only_result (λ s is. (as_result []).spells s is) (λ s t is g. (as_result []).goes s t is g)
    (one_then n n arrow_form (λ _. result_2) result_apart_1 (arrow_one n) (λ a. type_one false n) (λ a l isa h. omega (arith, h)))

optional_result_one : (n : ℕ) → One n optional_result
optional_result_one n = one_optional result_form is_arrow starts_result n (result_one n)

typed_one : (n : ℕ) → One n modes.typed
typed_one n = one_then n n (whole_type false) (λ _. keyword keywords.Semicolon) type_apart (type_one false n) (λ a. keys n keywords.Semicolon refl) (λ a l isa h. omega (arith, h))

definition_one : (n : ℕ) → One n definition_rest
definition_one n = one_then n n optional_result (λ _. modes.means_ended) modes.definition_apart_1 (optional_result_one n) (λ a. one_then n n means_form (λ _. keyword keywords.Semicolon) modes.definition_apart_2 (means_one n) (λ b. keys n keywords.Semicolon refl) (λ a l isa h. omega (arith, h))) (λ a l isa h. omega (arith, h))

rest_at : (n : ℕ) (x : ModeRest) (tok : MarkedToken) (m : List MarkedToken) → IsModeRest x → spell_mode_rest x ≡ tok ∷ m → OneAt (suc n) mode_rest_form tok
rest_at n (abbreviates p y q) tok m is e = at_token (suc n) mode_rest_form (fixed signs.Is p) tok (head_of _ _ _ _ e) (at_by n mode_rest_form (fixed signs.Is p) modes.typed (modes.abbreviated_by p) 0 (modes.by_is p) (typed_one n))
rest_at n (defines o k q) tok m is e = at_as (suc n) mode_rest_form definition_rest modes.defined_by tok (modes.as_definition (tok ∷ []) none) (definition_one (suc n))
  where
    off : signs.Is ≡ signs.Other → ⊥
    off f = cc

    none : (p : Place) → fixed signs.Is p ≡ tok → ⊥
    none p f = off (sym (sign_of-fixed signs.Is p refl) ∙ (ap sign_of f ∙ definition_unsigned (o, (k, q)) tok m is e))

rest_one : (n : ℕ) → One n mode_rest_form
rest_one zero = one_zero mode_rest_form
rest_one (suc n) = one_from (suc n) mode_rest_form (λ a b isa isb ea eb. absurd (ends_rest.filled a isa ea)) (λ a b tok m isa isb ea eb. absurd (ends_rest.filled a isa ea)) (λ a tok m isa e. rest_at n a tok m isa e)

pub mode_one : (n : ℕ) → One n mode_form
mode_one n = one_as n mode_form mode_1 make_mode only_mode (λ s is. (as_mode []).spells s is) (λ s t is g. (as_mode []).goes s t is g)
    (one_then n n (word_form (codes "mode")) (λ _. mode_2) mode_apart_1 (word_one n (codes "mode")) (λ a. (one_then n n mode_pattern_form (λ _. mode_3) mode_apart_2 (mode_pattern_one n) (λ a. rest_one n) (λ a l isa h. omega (arith, h)))) (λ a l isa h. omega (arith, h)))

pub redefined_mode_one : (n : ℕ) → One n redefined_mode_form
redefined_mode_one n = one_as n redefined_mode_form modes.redefined_1 modes.make_redefined modes.only_redefined (λ s is. (modes.as_redefined []).spells s is) (λ s t is g. (modes.as_redefined []).goes s t is g)
    (one_then n n (word_form (codes "mode")) (λ _. modes.redefined_2) modes.redefined_apart_1 (word_one n (codes "mode")) (λ a. one_then n n mode_pattern_form (λ _. modes.redefined_3) modes.redefined_apart_2 (mode_pattern_one n) (λ a. one_then n n optional_result modes.redefined_4 modes.redefined_apart_3 (optional_result_one n)
    (λ r. one_then n n (mode_meaning (is_some r)) (λ _. modes.redefined_5) (modes.redefined_apart_4 r) (mode_meaning_one (is_some r) n) (λ a. keys n keywords.Semicolon refl) (λ a l isa h. omega (arith, h))) (λ a l isa h. omega (arith, h))) (λ a l isa h. omega (arith, h))) (λ a l isa h. omega (arith, h)))

-- Functors, predicates and attributes.
module _ (M : Form MarkedToken) (meant : IsMeant M) (one : (n : ℕ) → One n M) where
  pub functor_one : (n : ℕ) → One n (functor_heading_form M)
  functor_one n = one_as n (functor_heading_form M) (sequences.functor_1 M meant) (sequences.make_functor M meant) (sequences.only_functor M meant) (λ s is. (sequences.as_functor M meant []).spells s is) (λ s t is g. (sequences.as_functor M meant []).goes s t is g)
      (one_then n n (word_form (codes "func")) (λ _. sequences.functor_2 M meant) (sequences.functor_apart_1 M meant) (word_one n (codes "func")) (λ a. (one_then n n functor_pattern_form (λ _. sequences.functor_3 M meant) (sequences.functor_apart_2 M meant) (functor_pattern_one n) (λ a. (one_then n n optional_result (λ _. sequences.functor_4 M meant) (sequences.functor_apart_3 M meant) (optional_result_one n) (λ a. (one_then n n M (λ _. sequences.functor_5 M meant) (sequences.functor_apart_4 M meant) (one n) (λ a. keys n keywords.Semicolon refl) (λ a l isa h. omega (arith, h)))) (λ a l isa h. omega (arith, h)))) (λ a l isa h. omega (arith, h)))) (λ a l isa h. omega (arith, h)))

  pub predicate_one : (n : ℕ) → One n (predicate_heading_form M)
  predicate_one n = one_as n (predicate_heading_form M) (sequences.predicate_1 M meant) (sequences.make_predicate M meant) (sequences.only_predicate M meant) (λ s is. (sequences.as_predicate M meant []).spells s is) (λ s t is g. (sequences.as_predicate M meant []).goes s t is g)
      (one_then n n (word_form (codes "pred")) (λ _. sequences.predicate_2 M meant) (sequences.predicate_apart_1 M meant) (word_one n (codes "pred")) (λ a. (one_then n n predicate_pattern_form (λ _. sequences.predicate_3 M meant) (sequences.predicate_apart_2 M meant) (predicate_pattern_one n) (λ a. (one_then n n M (λ _. sequences.predicate_4 M meant) (sequences.predicate_apart_3 M meant) (one n) (λ a. keys n keywords.Semicolon refl) (λ a l isa h. omega (arith, h)))) (λ a l isa h. omega (arith, h)))) (λ a l isa h. omega (arith, h)))

  pub attribute_one : (n : ℕ) → One n (attribute_heading_form M)
  attribute_one n = one_as n (attribute_heading_form M) (sequences.attribute_1 M meant) (sequences.make_attribute M meant) (sequences.only_attribute M meant) (λ s is. (sequences.as_attribute M meant []).spells s is) (λ s t is g. (sequences.as_attribute M meant []).goes s t is g)
      (one_then n n (word_form (codes "attr")) (λ _. sequences.attribute_2 M meant) (sequences.attribute_apart_1 M meant) (word_one n (codes "attr")) (λ a. (one_then n n attribute_pattern_form (λ _. sequences.attribute_3 M meant) (sequences.attribute_apart_2 M meant) (attribute_pattern_one n) (λ a. (one_then n n M (λ _. sequences.attribute_4 M meant) (sequences.attribute_apart_3 M meant) (one n) (λ a. keys n keywords.Semicolon refl) (λ a l isa h. omega (arith, h)))) (λ a l isa h. omega (arith, h)))) (λ a l isa h. omega (arith, h)))

-- Redefinitions.
again_at : (n : ℕ) (x : headings.Again) (tok : MarkedToken) (m : List MarkedToken) → headings.spell_again x ≡ tok ∷ m → OneAt n headings.again_form tok
again_at n (headings.functor_again a) tok m e = at_as n headings.again_form (functor_heading_form optional_meaning) headings.put_functor_again tok (headings.as_functor_again (tok ∷ []) (headings.heading_next-told_again (headings.functor_again a) (tok ∷ []) (heads (headings.spell_again (headings.functor_again a)) tok m e))) (functor_one optional_meaning optional_meaning_is_meant optional_meaning_one n)
again_at n (headings.predicate_again a) tok m e = at_as n headings.again_form (predicate_heading_form optional_means) headings.put_predicate_again tok (headings.as_predicate_again (tok ∷ []) (headings.heading_next-told_again (headings.predicate_again a) (tok ∷ []) (heads (headings.spell_again (headings.predicate_again a)) tok m e))) (predicate_one optional_means optional_means_is_meant optional_means_one n)
again_at n (headings.attribute_again a) tok m e = at_as n headings.again_form (attribute_heading_form (stated means_form)) headings.put_attribute_again tok (headings.as_attribute_again (tok ∷ []) (headings.heading_next-told_again (headings.attribute_again a) (tok ∷ []) (heads (headings.spell_again (headings.attribute_again a)) tok m e))) (attribute_one (stated means_form) stated_is_meant stated_one n)
again_at n (headings.mode_again a) tok m e = at_as n headings.again_form redefined_mode_form headings.put_mode_again tok (headings.as_mode_again (tok ∷ []) (headings.heading_next-told_again (headings.mode_again a) (tok ∷ []) (heads (headings.spell_again (headings.mode_again a)) tok m e))) (redefined_mode_one n)

again_filled : (x : headings.Again) → headings.spell_again x ≡ [] → ⊥
again_filled (headings.functor_again a) e = cc
again_filled (headings.predicate_again a) e = cc
again_filled (headings.attribute_again a) e = cc
again_filled (headings.mode_again a) e = cc

again_one : (n : ℕ) → One n headings.again_form
again_one n = one_from n headings.again_form (λ a b isa isb ea eb. absurd (again_filled a ea)) (λ a b tok m isa isb ea eb. absurd (again_filled a ea)) (λ a tok m isa e. again_at n a tok m e)

redefinition_one : (n : ℕ) → One n redefined_form
redefinition_one n = one_as n redefined_form headings.redefinition_1 headings.make_redefinition headings.only_redefinition (λ s is. (headings.as_again []).spells s is) (λ s t is g. (headings.as_again []).goes s t is g)
    (one_then n n (word_form (codes "redefine")) (λ _. headings.again_form) headings.redefinition_apart (word_one n (codes "redefine")) (λ a. again_one n) (λ a l isa h. omega (arith, h)))

-- Headings.
heading_at : (n : ℕ) (x : HeadingTree) (tok : MarkedToken) (m : List MarkedToken) → spell_heading x ≡ tok ∷ m → OneAt n heading_form tok
heading_at n (heading_tree.Functor a) tok m e = at_as n heading_form (functor_heading_form meaning_form) headings.put_functor tok (headings.as_functor (tok ∷ []) (headings.heading_next-told (heading_tree.Functor a) (tok ∷ []) (heads (spell_heading (heading_tree.Functor a)) tok m e))) (functor_one meaning_form meaning_is_meant meaning_one n)
heading_at n (heading_tree.Predicate a) tok m e = at_as n heading_form (predicate_heading_form means_form) headings.put_predicate tok (headings.as_predicate (tok ∷ []) (headings.heading_next-told (heading_tree.Predicate a) (tok ∷ []) (heads (spell_heading (heading_tree.Predicate a)) tok m e))) (predicate_one means_form means_is_meant means_one n)
heading_at n (heading_tree.Attribute a) tok m e = at_as n heading_form (attribute_heading_form means_form) headings.put_attribute tok (headings.as_attribute (tok ∷ []) (headings.heading_next-told (heading_tree.Attribute a) (tok ∷ []) (heads (spell_heading (heading_tree.Attribute a)) tok m e))) (attribute_one means_form means_is_meant means_one n)
heading_at n (heading_tree.Mode a) tok m e = at_as n heading_form mode_form headings.put_mode tok (headings.as_mode (tok ∷ []) (headings.heading_next-told (heading_tree.Mode a) (tok ∷ []) (heads (spell_heading (heading_tree.Mode a)) tok m e))) (mode_one n)
heading_at n (heading_tree.Abbreviation a) tok m e = at_as n heading_form mode_form headings.put_mode tok (headings.as_mode (tok ∷ []) (headings.heading_next-told (heading_tree.Abbreviation a) (tok ∷ []) (heads (spell_heading (heading_tree.Abbreviation a)) tok m e))) (mode_one n)
heading_at n (heading_tree.Structure a) tok m e = at_as n heading_form structure_form headings.put_structure tok (headings.as_structure (tok ∷ []) (headings.heading_next-told (heading_tree.Structure a) (tok ∷ []) (heads (spell_heading (heading_tree.Structure a)) tok m e))) (structure_one n)
heading_at n (heading_tree.RedefinedFunctor p a) tok m e = at_as n heading_form redefined_form headings.put_redefinition tok (headings.as_redefinition (tok ∷ []) (headings.heading_next-told (heading_tree.RedefinedFunctor p a) (tok ∷ []) (heads (spell_heading (heading_tree.RedefinedFunctor p a)) tok m e))) (redefinition_one n)
heading_at n (heading_tree.RedefinedPredicate p a) tok m e = at_as n heading_form redefined_form headings.put_redefinition tok (headings.as_redefinition (tok ∷ []) (headings.heading_next-told (heading_tree.RedefinedPredicate p a) (tok ∷ []) (heads (spell_heading (heading_tree.RedefinedPredicate p a)) tok m e))) (redefinition_one n)
heading_at n (heading_tree.RedefinedAttribute p a) tok m e = at_as n heading_form redefined_form headings.put_redefinition tok (headings.as_redefinition (tok ∷ []) (headings.heading_next-told (heading_tree.RedefinedAttribute p a) (tok ∷ []) (heads (spell_heading (heading_tree.RedefinedAttribute p a)) tok m e))) (redefinition_one n)
heading_at n (heading_tree.RedefinedMode p a) tok m e = at_as n heading_form redefined_form headings.put_redefinition tok (headings.as_redefinition (tok ∷ []) (headings.heading_next-told (heading_tree.RedefinedMode p a) (tok ∷ []) (heads (spell_heading (heading_tree.RedefinedMode p a)) tok m e))) (redefinition_one n)

heading_filled : (x : HeadingTree) → spell_heading x ≡ [] → ⊥
heading_filled (heading_tree.Functor a) e = cc
heading_filled (heading_tree.Predicate a) e = cc
heading_filled (heading_tree.Attribute a) e = cc
heading_filled (heading_tree.Mode a) e = cc
heading_filled (heading_tree.Abbreviation a) e = cc
heading_filled (heading_tree.Structure a) e = cc
heading_filled (heading_tree.RedefinedFunctor p a) e = cc
heading_filled (heading_tree.RedefinedPredicate p a) e = cc
heading_filled (heading_tree.RedefinedAttribute p a) e = cc
heading_filled (heading_tree.RedefinedMode p a) e = cc

pub heading_one : (n : ℕ) → One n heading_form
heading_one n = one_from n heading_form (λ a b isa isb ea eb. absurd (heading_filled a ea)) (λ a b tok m isa isb ea eb. absurd (heading_filled a ea)) (λ a tok m isa e. heading_at n a tok m e)

pub one_heading : OneTree heading_form
one_heading = one_tree heading_form heading_one
