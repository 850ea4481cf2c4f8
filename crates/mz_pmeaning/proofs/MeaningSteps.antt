-- The readings of what may be left out of definientia, and of the choice between `means` and `equals`.
use Rattle.std.specs.Prelude.{codes}
use Rattle.std.proofs.Common.{◌≡◌, ℕ, Bool, true, false, ◌||◌, List, [], ◌∷◌, refl, sym, ap, ◌∙◌, Option, Some, None, Result, Ok, Err}
use Rattle.mz_base.specs.declared.place.Place.{Place}
use Rattle.mz_base.specs.declared.token.MarkedToken.{MarkedToken}
use Rattle.mz_forms.specs.declared.refusal.Refusal.{Refusal}
use Rattle.mz_forms.specs.Form.{Agrees}
use Rattle.mz_forms.specs.Reading.{Reads}
use Rattle.mz_forms.proofs.Choose.{Reshapes}
use Rattle.mz_forms.proofs.Compose.{head_of}
use Rattle.mz_forms.proofs.Leads.{leads_as, passes}
use Rattle.mz_forms.proofs.Lists.{Begun}
use Rattle.mz_forms.proofs.Maybe.{Starts}
use Rattle.mz_tree.specs.Spell.{spell_formula, spell_term}
use Rattle.mz_tree_heading.specs.declared.meaning.CasesTree.TheVariants as cases_tree
use Rattle.mz_tree_heading.specs.declared.meaning.MeaningTree.{MeaningTree}
use Rattle.mz_tree_heading.specs.declared.meaning.MeaningTree.TheVariants as meaning_tree
use Rattle.mz_tree_heading.specs.Rules.{IsMeaning, IsMeans}
use Rattle.mz_tree_heading.specs.Spell.{spell_meaning}
use Rattle.mz_pterm.specs.declared.sign.Sign.TheVariants as signs
use Rattle.mz_pterm.specs.Sign.{sign_of}
use Rattle.mz_pterm.specs.Words.{named}
use Rattle.mz_pterm.proofs.Bases.{term_at, word_at}
use Rattle.mz_ptype.proofs.Optional.{never}
use Rattle.mz_pformula.proofs.Quantifiers.{some_formula}
use Rattle.mz_pjustification.specs.declared.keyword.Keyword.{Keyword}
use Rattle.mz_pjustification.specs.declared.keyword.Keyword.TheVariants as keywords
use Rattle.mz_pjustification.specs.Keyword.{keyword_of, reserved_keyword, later_keyword}
use Rattle.mz_pjustification.specs.Forms.{is_colon}
use Rattle.mz_pjustification.specs.Words.{key}
use Rattle.mz_pjustification.proofs.Keywords.{keyword_of-key, sign_of-key, told_key}
use Rattle.mz_pjustification.proofs.Taken.{nowhere}
use Rattle.mz_ppattern.specs.Words.{is_arrow, is_word, word_token}
use Rattle.mz_ppattern.specs.Optional.{next_has, plainly}
use Rattle.mz_ppattern.proofs.LociSteps.{has_not, has_so}
use Rattle.mz_ppattern.proofs.WordSteps.{word_keyed, word_own, word_told}
use Rattle.mz_pmeaning.specs.Classes.{begins_label, begins_meaning, begins_means, is_means}
use Rattle.mz_pmeaning.specs.MeaningForms.{definition_label_form, equals_form, meaning_form, means_form, optional_meaning, optional_means, IsEquals}
use Rattle.mz_pmeaning.proofs.Bodies.{IsMeant, equals_signed, semicolon_off}
use Rattle.mz_pmeaning.proofs.MeaningSequences.{colon_is}
use Rattle.mz_pmeaning.proofs.Steps.{or_left, or_right}

-- Labels.
pub starts_label : Starts definition_label_form begins_label
starts_label = record {
  filled = λ x is e. cc;
  first = λ x t m is e. ap begins_label (sym (head_of _ _ _ _ e)) ∙ ap is_colon (keyword_of-key keywords.Colon x.left refl);
}

abbrev behind_colon : List MarkedToken
behind_colon = named signs.Identifier (word_at nowhere) ∷ (key keywords.Colon nowhere ∷ [])

pub begun_label : (t : MarkedToken) → begins_label t ≡ true → Begun definition_label_form t
begun_label t h = (record { left = t.token.place; name = word_at nowhere; right = nowhere }, behind_colon, tt, ap (λ z. z ∷ behind_colon) (sym (told_key keywords.Colon t refl (colon_is (keyword_of t) h))))

-- `means`.
means_is : (k : Keyword) → is_means k ≡ true → k ≡ keywords.Means
means_is keywords.Means e = refl
means_is _ e = cc

means_own : (p : Place) → begins_means (key keywords.Means p) ≡ true
means_own p = ap is_means (keyword_of-key keywords.Means p refl)

equals_not_means : (p : Place) → begins_means (word_token (codes "equals") p) ≡ false
unfolding reserved_keyword later_keyword
equals_not_means p = ap is_means (word_keyed (codes "equals") p refl)

meaning_filled : (x : MeaningTree) → spell_meaning x ≡ [] → ⊥
meaning_filled (meaning_tree.Means p l a) e = cc
meaning_filled (meaning_tree.Equals p l a) e = cc

means_first : (x : MeaningTree) (t : MarkedToken) (m : List MarkedToken) → IsMeans x → spell_meaning x ≡ t ∷ m → begins_means t ≡ true
means_first (meaning_tree.Means p l a) t m is e = ap begins_means (sym (head_of _ _ _ _ e)) ∙ means_own p
means_first (meaning_tree.Equals p l a) t m is e = absurd is

pub starts_means : Starts means_form begins_means
starts_means = record {
  filled = λ x is e. meaning_filled x e;
  first = λ x t m is e. means_first x t m is e;
}

abbrev some_means : Place → MeaningTree
some_means p = meaning_tree.Means p None (cases_tree.Plain some_formula)

abbrev some_equals : Place → MeaningTree
some_equals p = meaning_tree.Equals p None (cases_tree.Plain (term_at nowhere))

pub begun_means : (t : MarkedToken) → begins_means t ≡ true → Begun means_form t
begun_means t h = (some_means t.token.place, spell_formula some_formula, ((tt, tt), tt), ap (λ z. z ∷ spell_formula some_formula) (sym (told_key keywords.Means t refl (means_is (keyword_of t) h))))

-- `means` or `equals`.
abbrev pub itself : MeaningTree → MeaningTree
itself x = x

pub as_means : (b : List MarkedToken) → next_has begins_means b ≡ true → Reshapes meaning_form means_form itself b
as_means b h = record {
  into = λ x is. into x is;
  spells = λ x is. refl;
  only = λ x is g. (x, only x is g, refl);
  goes = λ x t is g. g;
  level = λ x is. refl;
}
  where
    into : (x : MeaningTree) → IsMeans x → IsMeaning x
    into (meaning_tree.Means p l a) is = is
    into (meaning_tree.Equals p l a) is = absurd is

    only : (x : MeaningTree) → IsMeaning x → Agrees b (spell_meaning x) → IsMeans x
    only (meaning_tree.Means p l a) is g = is
    only (meaning_tree.Equals p l a) is g = absurd (has_not begins_means b (word_token (codes "equals") p) _ h (equals_not_means p) g)

pub as_equals : (b : List MarkedToken) → next_has begins_means b ≡ false → Reshapes meaning_form equals_form itself b
as_equals b h = record {
  into = λ x is. into x is;
  spells = λ x is. refl;
  only = λ x is g. (x, only x is g, refl);
  goes = λ x t is g. g;
  level = λ x is. refl;
}
  where
    into : (x : MeaningTree) → IsEquals x → IsMeaning x
    into (meaning_tree.Means p l a) is = absurd is
    into (meaning_tree.Equals p l a) is = is

    only : (x : MeaningTree) → IsMeaning x → Agrees b (spell_meaning x) → IsEquals x
    only (meaning_tree.Means p l a) is g = absurd (has_so begins_means b (key keywords.Means p) _ h (means_own p) g)
    only (meaning_tree.Equals p l a) is g = is

pub gives_means : (room : ℕ) (b : List MarkedToken) (result : Result MeaningTree Refusal) (after : List MarkedToken) → next_has begins_means b ≡ true → Reads means_form room plainly b result after → Reads meaning_form room plainly b result after
gives_means room b (Ok x) after h f = (leads_as meaning_form means_form itself room b (as_means b h)).finds x after f
gives_means room b (Err e) after h r = passes meaning_form means_form room itself b b after e (leads_as meaning_form means_form itself room b (as_means b h)) r

pub gives_equals : (room : ℕ) (b : List MarkedToken) (result : Result MeaningTree Refusal) (after : List MarkedToken) → next_has begins_means b ≡ false → Reads equals_form room plainly b result after → Reads meaning_form room plainly b result after
gives_equals room b (Ok x) after h f = (leads_as meaning_form equals_form itself room b (as_equals b h)).finds x after f
gives_equals room b (Err e) after h r = passes meaning_form equals_form room itself b b after e (leads_as meaning_form equals_form itself room b (as_equals b h)) r

meaning_first : (x : MeaningTree) (t : MarkedToken) (m : List MarkedToken) → spell_meaning x ≡ t ∷ m → begins_meaning t ≡ true
meaning_first (meaning_tree.Means p l a) t m e = ap begins_meaning (sym (head_of _ _ _ _ e)) ∙ or_right (is_word (codes "equals") (key keywords.Means p)) (begins_means (key keywords.Means p)) (means_own p)
meaning_first (meaning_tree.Equals p l a) t m e = ap begins_meaning (sym (head_of _ _ _ _ e)) ∙ or_left (is_word (codes "equals") (word_token (codes "equals") p)) (begins_means (word_token (codes "equals") p)) (word_own (codes "equals") p)

pub starts_meaning : Starts meaning_form begins_meaning
starts_meaning = record {
  filled = λ x is e. meaning_filled x e;
  first = λ x t m is e. meaning_first x t m e;
}

pub begun_meaning : (t : MarkedToken) → begins_meaning t ≡ true → Begun meaning_form t
begun_meaning t h = go (is_word (codes "equals") t) refl h
  where
    go : (b : Bool) → is_word (codes "equals") t ≡ b → (b || begins_means t) ≡ true → Begun meaning_form t
    go true e g = (some_equals t.token.place, spell_term (term_at nowhere), (tt, tt), ap (λ z. z ∷ spell_term (term_at nowhere)) (sym (word_told (codes "equals") t e)))
    go false e g = (some_means t.token.place, spell_formula some_formula, ((tt, tt), tt), ap (λ z. z ∷ spell_formula some_formula) (sym (told_key keywords.Means t refl (means_is (keyword_of t) g))))

-- What stands before them, and the semicolon behind them.
abbrev Told : MarkedToken → Type 0
Told t = (sign_of t ≡ signs.Other) × (is_arrow t ≡ false)

told_meaning : (x : MeaningTree) (t : MarkedToken) (m : List MarkedToken) → spell_meaning x ≡ t ∷ m → Told t
told_meaning (meaning_tree.Means p l a) t m e = (sym (ap sign_of (head_of _ _ _ _ e)) ∙ sign_of-key keywords.Means p refl, ap is_arrow (sym (head_of _ _ _ _ e)))
told_meaning (meaning_tree.Equals p l a) t m e = (sym (ap sign_of (head_of _ _ _ _ e)) ∙ equals_signed p, ap is_arrow (sym (head_of _ _ _ _ e)))

pub means_is_meant : IsMeant means_form
means_is_meant = record {
  first = λ x t m is e. told_meaning x t m e;
  ends = λ x p is g. never (sym (semicolon_off p) ∙ g);
  some = some_means nowhere;
  some_is = ((tt, tt), tt);
}

pub meaning_is_meant : IsMeant meaning_form
meaning_is_meant = record {
  first = λ x t m is e. told_meaning x t m e;
  ends = λ x p is g. never (sym (semicolon_off p) ∙ g);
  some = some_means nowhere;
  some_is = ((tt, tt), tt);
}

optional_told : (o : Option MeaningTree) (t : MarkedToken) (m : List MarkedToken) → optional_meaning.spell o ≡ t ∷ m → Told t
optional_told None t m e = cc
optional_told (Some x) t m e = told_meaning x t m e

means_ends : (o : Option MeaningTree) (p : Place) → optional_means.goes o (key keywords.Semicolon p) ≡ true → ⊥
means_ends None p g = never (sym (ap is_means (keyword_of-key keywords.Semicolon p refl)) ∙ g)
means_ends (Some x) p g = never (sym (semicolon_off p) ∙ g)

meaning_ends : (o : Option MeaningTree) (p : Place) → optional_meaning.goes o (key keywords.Semicolon p) ≡ true → ⊥
meaning_ends None p g = never (sym (ap (λ k. is_word (codes "equals") (key keywords.Semicolon p) || is_means k) (keyword_of-key keywords.Semicolon p refl)) ∙ g)
meaning_ends (Some x) p g = never (sym (semicolon_off p) ∙ g)

pub optional_means_is_meant : IsMeant optional_means
optional_means_is_meant = record {
  first = λ x t m is e. optional_told x t m e;
  ends = λ x p is g. means_ends x p g;
  some = None;
  some_is = tt;
}

pub optional_meaning_is_meant : IsMeant optional_meaning
optional_meaning_is_meant = record {
  first = λ x t m is e. optional_told x t m e;
  ends = λ x p is g. meaning_ends x p g;
  some = None;
  some_is = tt;
}
