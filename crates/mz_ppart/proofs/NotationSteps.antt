-- The readings of parts of blocks of notations.
use Rattle.std.proofs.Common.{◌≡◌, ℕ, Bool, true, false, ◌||◌, List, [], ◌∷◌, ◌++◌, refl, sym, ap, ◌∙◌, is_some, Option, Some, None, Result, Ok, Err}
use Rattle.std.proofs.lemmas.Bool.{or_left, or_right}
use Rattle.mz_base.specs.declared.place.Place.{Place}
use Rattle.mz_base.specs.declared.token.MarkedToken.{MarkedToken}
use Rattle.mz_forms.specs.declared.refusal.Refusal.{Refusal}
use Rattle.mz_forms.specs.Form.{Agrees, Found}
use Rattle.mz_forms.specs.Reading.{Refuses, Reads}
use Rattle.mz_forms.proofs.Choose.{Reshapes}
use Rattle.mz_forms.proofs.Compose.{head_of}
use Rattle.mz_forms.proofs.Leads.{leads_as, passes}
use Rattle.mz_forms.proofs.Lists.{Begun, Repeats}
use Rattle.mz_tree_heading.specs.declared.patterns.PatternTree.{PatternTree}
use Rattle.mz_tree_heading.specs.declared.patterns.PatternTree.TheVariants as pattern_tree
use Rattle.mz_tree_part.specs.declared.words.NotationWord.{NotationWord}
use Rattle.mz_tree_part.specs.declared.words.NotationWord.TheVariants as notation_words
use Rattle.mz_tree_part.specs.declared.notation.BlockLetTree.{BlockLetTree}
use Rattle.mz_tree_part.specs.declared.notation.NotationPartTree.{NotationPartTree}
use Rattle.mz_tree_part.specs.declared.notation.NotationPartTree.TheVariants as parts
use Rattle.mz_tree_part.specs.Keywords.{notation_word}
use Rattle.mz_tree_part.specs.Rules.{IsNotationPart}
use Rattle.mz_tree_part.specs.Spell.{spell_notation_part}
use Rattle.mz_pterm.specs.Sign.{reserved_sign, formula_sign}
use Rattle.mz_pterm.specs.Words.{fixed}
use Rattle.mz_pterm.specs.declared.sign.Sign.TheVariants as signs
use Rattle.mz_pterm.proofs.Bases.{word_at}
use Rattle.mz_ptype.proofs.Optional.{never}
use Rattle.mz_pformula.proofs.Quantifiers.{some_declarations}
use Rattle.mz_ptype.specs.Forms.{declarations_form}
use Rattle.mz_pjustification.specs.declared.keyword.Keyword.{Keyword}
use Rattle.mz_pjustification.specs.declared.keyword.Keyword.TheVariants as keywords
use Rattle.mz_pjustification.specs.Keyword.{keyword_of, reserved_keyword, later_keyword}
use Rattle.mz_pjustification.specs.Words.{key}
use Rattle.mz_pjustification.proofs.Keywords.{keyword_of-key, told_key}
use Rattle.mz_pjustification.proofs.Taken.{nowhere}
use Rattle.mz_ppattern.specs.Optional.{next_has, plainly}
use Rattle.mz_ppattern.specs.Forms.{pattern_form}
use Rattle.mz_ppattern.proofs.WordSteps.{IsPlain, word_keyed, word_told}
use Rattle.mz_ppattern.proofs.LociSteps.{has_not, has_so}
use Rattle.mz_ppart.specs.WordLists.{first_of, notations, chosen_token}
use Rattle.mz_ppart.specs.Classes.{is_let, begins_let, begins_notation_part}
use Rattle.mz_ppart.specs.Forms.{block_let_form, synonym_form, notation_part_form}
use Rattle.mz_ppart.proofs.DirectiveSteps.{notation_hit, own_notation}

-- The words of notations are no words of proofs.
plain_notation : (w : NotationWord) → IsPlain (notation_word w)
unfolding reserved_sign formula_sign reserved_keyword later_keyword
plain_notation notation_words.Synonym = (refl, refl)
plain_notation notation_words.Antonym = (refl, refl)

pub not_let : (w : NotationWord) (p : Place) → begins_let (chosen_token notation_word (w, p)) ≡ false
not_let w p = ap is_let (word_keyed (notation_word w) p (plain_notation w).1)

pub let_own : (p : Place) → begins_let (key keywords.Let p) ≡ true
let_own p = ap is_let (keyword_of-key keywords.Let p refl)

-- Loci, and a further pattern.
abbrev pub put_let : BlockLetTree → NotationPartTree
put_let a = parts.Let a

abbrev pub put_synonym : NotationPartTree → NotationPartTree
put_synonym x = x

pub as_let : (b : List MarkedToken) → next_has begins_let b ≡ true → Reshapes notation_part_form block_let_form put_let b
as_let b h = record {
  into = λ a is. is;
  spells = λ a is. refl;
  only = λ x is g. only x is g;
  goes = λ a t is g. g;
  level = λ a is. refl;
}
  where
    only : (x : NotationPartTree) → IsNotationPart x → Agrees b (spell_notation_part x) → (a : BlockLetTree) × block_let_form.IsTree a × (x ≡ put_let a)
    only (parts.Let a) is g = (a, is, refl)
    only (parts.Notation p w a q c r) is g = absurd (has_not begins_let b (chosen_token notation_word (w, p)) _ h (not_let w p) g)

pub as_synonym : (b : List MarkedToken) → next_has begins_let b ≡ false → Reshapes notation_part_form synonym_form put_synonym b
as_synonym b h = record {
  into = λ x is. into x is;
  spells = λ x is. refl;
  only = λ x is g. (x, only x is g, refl);
  goes = λ x t is g. g;
  level = λ x is. refl;
}
  where
    into : (x : NotationPartTree) → synonym_form.IsTree x → IsNotationPart x
    into (parts.Let a) is = absurd is
    into (parts.Notation p w a q c r) is = tt

    only : (x : NotationPartTree) → IsNotationPart x → Agrees b (spell_notation_part x) → synonym_form.IsTree x
    only (parts.Let a) is g = absurd (has_so begins_let b (key keywords.Let a.let_) _ h (let_own a.let_) g)
    only (parts.Notation p w a q c r) is g = tt

pub let_refused : (room : ℕ) (b after : List MarkedToken) (e : Refusal) → next_has begins_let b ≡ true → Refuses block_let_form room b e after → Refuses notation_part_form room b e after
let_refused room b after e h r = passes notation_part_form block_let_form room put_let b b after e (leads_as notation_part_form block_let_form put_let room b (as_let b h)) r

pub let_found : (room : ℕ) (a : BlockLetTree) (b after : List MarkedToken) → next_has begins_let b ≡ true → Found block_let_form room b a after → Found notation_part_form room b (put_let a) after
let_found room a b after h f = (leads_as notation_part_form block_let_form put_let room b (as_let b h)).finds a after f

pub synonym_refused : (room : ℕ) (b after : List MarkedToken) (e : Refusal) → next_has begins_let b ≡ false → Refuses synonym_form room b e after → Refuses notation_part_form room b e after
synonym_refused room b after e h r = passes notation_part_form synonym_form room put_synonym b b after e (leads_as notation_part_form synonym_form put_synonym room b (as_synonym b h)) r

pub synonym_found : (room : ℕ) (x : NotationPartTree) (b after : List MarkedToken) → next_has begins_let b ≡ false → Found synonym_form room b x after → Found notation_part_form room b x after
synonym_found room x b after h f = (leads_as notation_part_form synonym_form put_synonym room b (as_synonym b h)).finds x after f

-- A list of parts.
part_filled : (x : NotationPartTree) → spell_notation_part x ≡ [] → ⊥
part_filled (parts.Let a) e = cc
part_filled (parts.Notation p w a q c r) e = cc

let_begins : (t : MarkedToken) → begins_let t ≡ true → begins_notation_part t ≡ true
let_begins t h = or_right (is_some (first_of notation_word notations t)) (begins_let t) h

word_begins : (w : NotationWord) (p : Place) → begins_notation_part (chosen_token notation_word (w, p)) ≡ true
word_begins w p = or_left (is_some (first_of notation_word notations (chosen_token notation_word (w, p)))) (begins_let (chosen_token notation_word (w, p))) (ap is_some (own_notation w p refl))

part_first : (x : NotationPartTree) (t : MarkedToken) (m : List MarkedToken) → spell_notation_part x ≡ t ∷ m → begins_notation_part t ≡ true
part_first (parts.Let a) t m e = ap begins_notation_part (sym (head_of _ _ _ _ e)) ∙ let_begins (key keywords.Let a.let_) (let_own a.let_)
part_first (parts.Notation p w a q c r) t m e = ap begins_notation_part (sym (head_of _ _ _ _ e)) ∙ word_begins w p

pub repeats_parts : Repeats notation_part_form begins_notation_part begins_notation_part
repeats_parts = record {
  filled = λ x is e. part_filled x e;
  first = λ x t m is e. part_first x t m e;
  weaker = λ x t is g. absurd (never g);
  on = λ t h. h;
  apart = λ x t is h g. never g;
}

abbrev some_pattern : PatternTree
some_pattern = pattern_tree.Mode (record { symbol = word_at nowhere; loci = None })

abbrev behind_word : List MarkedToken
behind_word = pattern_form.spell some_pattern ++ fixed signs.For nowhere ∷ pattern_form.spell some_pattern ++ key keywords.Semicolon nowhere ∷ []

abbrev behind_let : List MarkedToken
behind_let = (declarations_form false).spell some_declarations ++ key keywords.Semicolon nowhere ∷ []

let_is : (k : Keyword) → is_let k ≡ true → k ≡ keywords.Let
let_is keywords.Let e = refl
let_is _ e = cc

pub begun_part : (t : MarkedToken) → begins_notation_part t ≡ true → Begun notation_part_form t
begun_part t h = go (first_of notation_word notations t) refl h
  where
    go : (o : Option NotationWord) → first_of notation_word notations t ≡ o → (is_some o || begins_let t) ≡ true → Begun notation_part_form t
    go (Some w) e g = (parts.Notation t.token.place w some_pattern nowhere some_pattern nowhere, behind_word, tt, ap (λ z. z ∷ behind_word) (sym (word_told (notation_word w) t (notation_hit t w e))))
    go None e g = (parts.Let (record { let_ = t.token.place; declarations = some_declarations; semicolon = nowhere }), behind_let, (tt, tt), ap (λ z. z ∷ behind_let) (sym (told_key keywords.Let t refl (let_is (keyword_of t) g))))

pub gives_part : (room : ℕ) (b : List MarkedToken) (result : Result NotationPartTree Refusal) (after : List MarkedToken) → next_has begins_let b ≡ false → Reads synonym_form room plainly b result after → Reads notation_part_form room plainly b result after
gives_part room b (Ok x) after h f = synonym_found room x b after h f
gives_part room b (Err e) after h r = synonym_refused room b after e h r
