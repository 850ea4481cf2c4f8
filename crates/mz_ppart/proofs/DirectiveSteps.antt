-- The readings of the words of directives and of notations, and of names of articles.
use Rattle.std.specs.Prelude.{codes}
use Rattle.std.proofs.Common.{◌≡◌, ℕ, zero, suc, ◌<◌, ◌≤◌, arith, get_or, length, Bool, true, false, inl, inr, List, [], ◌∷◌, ◌++◌, refl, sym, ap, subst, ◌∙◌, Some, None}
use Rattle.mz_base.specs.Name.{is_name}
use Rattle.mz_base.specs.declared.place.Place.{Place}
use Rattle.mz_base.specs.declared.token.MarkedToken.{MarkedToken}
use Rattle.mz_forms.specs.declared.refusal.Refusal.{Refusal}
use Rattle.mz_forms.specs.declared.refusal.Refusal.TheVariants as refusals
use Rattle.mz_forms.specs.Reading.{Refuses}
use Rattle.mz_forms.specs.Form.{Agrees, Found, Fails}
use Rattle.mz_forms.proofs.Chain.{Linked}
use Rattle.mz_forms.proofs.Choose.{fails_here}
use Rattle.mz_forms.proofs.Compose.{head_of, tail_of, append_nil}
use Rattle.mz_forms.proofs.One.{One}
use Rattle.mz_tree.specs.declared.word.Word.{Word}
use Rattle.mz_tree_heading.specs.declared.patterns.IdentifierTree.{IdentifierTree}
use Rattle.mz_tree_part.specs.declared.words.DirectiveWord.{DirectiveWord}
use Rattle.mz_tree_part.specs.declared.words.DirectiveWord.TheVariants as directive_words
use Rattle.mz_tree_part.specs.declared.words.NotationWord.{NotationWord}
use Rattle.mz_tree_part.specs.declared.words.NotationWord.TheVariants as notation_words
use Rattle.mz_tree_part.specs.Keywords.{directive_word, notation_word}
use Rattle.mz_tree_part.specs.Rules.{is_directive_yet}
use Rattle.mz_pterm.specs.declared.sign.Sign.TheVariants as signs
use Rattle.mz_pterm.specs.Words.{named, name}
use Rattle.mz_pterm.proofs.Signs.{same_named}
use Rattle.mz_ptype.proofs.DeclarationSteps.{comma_kind, comma_signed, comma_told}
use Rattle.mz_ptype.proofs.Optional.{never, true_not_false}
use Rattle.mz_pjustification.proofs.Taken.{nowhere, nothing_left}
use Rattle.mz_pstep.specs.Forms.{links}
use Rattle.mz_pstep.proofs.DividedLists.{list_one}
use Rattle.mz_ppattern.specs.Words.{is_word, word_token}
use Rattle.mz_ppattern.specs.Optional.{next_has}
use Rattle.mz_ppattern.specs.Classes.{goes_on_names}
use Rattle.mz_ppattern.specs.Forms.{never_ends}
use Rattle.mz_ppattern.proofs.NameSteps.{make_identifier}
use Rattle.mz_ppart.specs.Classes.{spells_name}
use Rattle.mz_ppart.specs.WordLists.{first_of, directives, notations}
use Rattle.mz_ppart.specs.Forms.{directive_word_form, notation_word_form, article_name_form, article_names_form}
use Rattle.mz_ppart.proofs.ChosenWords.{In, All, first_hit, chosen_found, chosen_refused, chosen_left_out, chosen_one}

-- The words of directives.
all_directives : All is_directive_yet directives
all_directives = (refl, (refl, (refl, (refl, (refl, (refl, (refl, (refl, tt))))))))

in_directives : (w : DirectiveWord) → is_directive_yet w ≡ true → In w directives
in_directives directive_words.Vocabularies h = inl refl
in_directives directive_words.Notations h = inr (inl refl)
in_directives directive_words.Constructors h = inr (inr (inl refl))
in_directives directive_words.Registrations h = inr (inr (inr (inl refl)))
in_directives directive_words.Definitions h = inr (inr (inr (inr (inl refl))))
in_directives directive_words.Equalities h = cc
in_directives directive_words.Expansions h = cc
in_directives directive_words.Theorems h = inr (inr (inr (inr (inr (inl refl)))))
in_directives directive_words.Schemes h = inr (inr (inr (inr (inr (inr (inl refl))))))
in_directives directive_words.Requirements h = inr (inr (inr (inr (inr (inr (inr (inl refl)))))))

own_directive : (w : DirectiveWord) (p : Place) → is_directive_yet w ≡ true → first_of directive_word directives (word_token (directive_word w) p) ≡ Some w
own_directive directive_words.Vocabularies p h = refl
own_directive directive_words.Notations p h = refl
own_directive directive_words.Constructors p h = refl
own_directive directive_words.Registrations p h = refl
own_directive directive_words.Definitions p h = refl
own_directive directive_words.Equalities p h = cc
own_directive directive_words.Expansions p h = cc
own_directive directive_words.Theorems p h = refl
own_directive directive_words.Schemes p h = refl
own_directive directive_words.Requirements p h = refl

pub directive_found : (room : ℕ) (t : MarkedToken) (b rest : List MarkedToken) (w : DirectiveWord) → first_of directive_word directives t ≡ Some w → b ≡ t ∷ rest → Found directive_word_form room b (w, t.token.place) rest
directive_found room t b rest w h e = chosen_found directive_word is_directive_yet directives all_directives in_directives own_directive directive_words.Theorems refl room t b rest w h e

pub directive_refused : (room : ℕ) (t : MarkedToken) (b rest : List MarkedToken) → first_of directive_word directives t ≡ None → b ≡ t ∷ rest → Fails directive_word_form room b b
directive_refused room t b rest h e = chosen_refused directive_word is_directive_yet directives all_directives in_directives own_directive directive_words.Theorems refl room t b rest h e

pub directive_left_out : (room : ℕ) (b : List MarkedToken) → b ≡ [] → Fails directive_word_form room b b
directive_left_out room b e = chosen_left_out directive_word is_directive_yet directives all_directives in_directives own_directive directive_words.Theorems refl room b e

pub directive_word_one : (n : ℕ) → One n directive_word_form
directive_word_one n = chosen_one directive_word is_directive_yet directives all_directives in_directives own_directive directive_words.Theorems refl n

-- The words of notations.
abbrev any_notation : NotationWord → Bool
any_notation w = true

all_notations : All any_notation notations
all_notations = (refl, (refl, tt))

in_notations : (w : NotationWord) → any_notation w ≡ true → In w notations
in_notations notation_words.Synonym h = inl refl
in_notations notation_words.Antonym h = inr (inl refl)

pub own_notation : (w : NotationWord) (p : Place) → any_notation w ≡ true → first_of notation_word notations (word_token (notation_word w) p) ≡ Some w
own_notation notation_words.Synonym p h = refl
own_notation notation_words.Antonym p h = refl

pub notation_hit : (t : MarkedToken) (w : NotationWord) → first_of notation_word notations t ≡ Some w → is_word (notation_word w) t ≡ true
notation_hit t w e = (first_hit notation_word any_notation notations t w all_notations e).0

pub notation_found : (room : ℕ) (t : MarkedToken) (b rest : List MarkedToken) (w : NotationWord) → first_of notation_word notations t ≡ Some w → b ≡ t ∷ rest → Found notation_word_form room b (w, t.token.place) rest
notation_found room t b rest w h e = chosen_found notation_word any_notation notations all_notations in_notations own_notation notation_words.Synonym refl room t b rest w h e

pub notation_refused : (room : ℕ) (t : MarkedToken) (b rest : List MarkedToken) → first_of notation_word notations t ≡ None → b ≡ t ∷ rest → Fails notation_word_form room b b
notation_refused room t b rest h e = chosen_refused notation_word any_notation notations all_notations in_notations own_notation notation_words.Synonym refl room t b rest h e

pub notation_left_out : (room : ℕ) (b : List MarkedToken) → b ≡ [] → Fails notation_word_form room b b
notation_left_out room b e = chosen_left_out notation_word any_notation notations all_notations in_notations own_notation notation_words.Synonym refl room b e

pub notation_word_one : (n : ℕ) → One n notation_word_form
notation_word_one n = chosen_one notation_word any_notation notations all_notations in_notations own_notation notation_words.Synonym refl n

-- Names of articles.
abbrev named_word : Word
named_word = record { place = nowhere; spelling = codes "A" }

-- equal tokens of identifiers are of equal trees
same_article : (a b : IdentifierTree) → named signs.Identifier a.name ≡ named signs.Identifier b.name → a ≡ b
same_article a b e = ap make_identifier (same_named signs.Identifier refl a.name b.name e)

no_level : (room i : ℕ) → get_or (0 ∷ []) i 0 ≤ room
no_level room zero = omega arith
no_level room (suc i) = omega arith

-- an identifier that is a name was read
article_found : (room : ℕ) (t : MarkedToken) (w : Word) (b rest after : List MarkedToken) → b ≡ t ∷ rest → is_name t.token.spelling ≡ true → Found (name signs.Identifier) 0 b w after → Found article_name_form room b (make_identifier w) after
article_found room t w b rest after e h f = record {
  found = record {
    split = f.found.split;
    is = ap is_name (spelled w f.found.split) ∙ h;
    only = λ x m is g agrees. same_article x (make_identifier w) (head_of _ _ _ _ g);
    passed = λ x s m is g. absurd (not_nil s m (tail_of _ _ _ _ g));
  };
  fits = λ i l. no_level room i;
}
  where
    not_nil : (s : MarkedToken) (m : List MarkedToken) → [] ≡ s ∷ m → ⊥
    not_nil s m g = cc

    spelled : (w : Word) → b ≡ named signs.Identifier w ∷ after → w.spelling ≡ t.token.spelling
    spelled w g = ap (λ z. z.token.spelling) (head_of _ _ _ _ (sym g ∙ e))

-- the next token is no name
article_misnamed : (room : ℕ) (t : MarkedToken) (b rest : List MarkedToken) → b ≡ t ∷ rest → is_name t.token.spelling ≡ false → Fails article_name_form room b b
article_misnamed room t b rest e h = fails_here article_name_form room (make_identifier named_word) b refl (λ x is agrees.
    let A : List MarkedToken → Type 0 = λ z. Agrees z (named signs.Identifier x.name ∷ []) in
    let g : named signs.Identifier x.name ≡ t = subst A e agrees in
    true_not_false (is_name t.token.spelling) h (sym (ap (λ z. is_name z.token.spelling) g) ∙ is))

article_left_out : (room : ℕ) (b : List MarkedToken) → b ≡ [] → Fails article_name_form room b b
article_left_out room b e = fails_here article_name_form room (make_identifier named_word) b refl (λ x is agrees. nothing_left (named signs.Identifier x.name) b e agrees)

-- the next token is no identifier
pub article_unnamed : (room : ℕ) (b after : List MarkedToken) (e : Refusal) → Refuses (name signs.Identifier) 0 b e after → Refuses article_name_form room b e after
article_unnamed room b after refusals.Refused h = go h.front refl
  where
    go : (w : List MarkedToken) → h.front ≡ w → Fails article_name_form room b after
    go [] f = let B : List MarkedToken → Type 0 = λ z. Fails article_name_form room b z in
        subst B (h.split ∙ ap (λ z. z ++ after) f) (fails_here article_name_form room (make_identifier named_word) b refl (λ x is agrees. h.none x.name (named signs.Identifier x.name ∷ []) tt (ap (λ z. z ++ named signs.Identifier x.name ∷ []) (sym f)) (subst (λ (z : List MarkedToken). Agrees z (named signs.Identifier x.name ∷ [])) (h.split ∙ ap (λ z. z ++ after) f) agrees)))
    go (s ∷ w) f = absurd (h.none h.some [] tt (whole w f ∙ sym (append_nil h.front)) tt)
      where
        whole : (w : List MarkedToken) → h.front ≡ s ∷ w → named signs.Identifier h.some ∷ [] ≡ h.front
        whole [] g = ap (λ z. z ∷ []) (head_of _ _ _ _ (h.viable ∙ ap (λ z. z ++ h.more) g)) ∙ sym g
        whole (r ∷ w) g = absurd (no (tail_of _ _ _ _ (h.viable ∙ ap (λ z. z ++ h.more) g)))
          where
            no : [] ≡ r ∷ (w ++ h.more) → ⊥
            no i = cc
article_unnamed room b after refusals.TooDeep h = let l : 0 < get_or (0 ∷ []) (length h.front) 0 = h.all h.some h.more h.is h.viable in let m : get_or (0 ∷ []) (length h.front) 0 ≤ 0 = no_level 0 (length h.front) in absurd (omega (arith, l, m))
article_unnamed room b after refusals.Memory h = tt

pub article_missed : (room : ℕ) (b : List MarkedToken) → next_has spells_name b ≡ false → Fails article_name_form room b b
article_missed room [] h = article_left_out room [] refl
article_missed room (t ∷ rest) h = article_misnamed room t (t ∷ rest) rest refl h

pub article_read : (room : ℕ) (w : Word) (b after : List MarkedToken) → next_has spells_name b ≡ true → Found (name signs.Identifier) 0 b w after → Found article_name_form room b (make_identifier w) after
article_read room w [] after h f = cc
article_read room w (t ∷ rest) after h f = article_found room t w (t ∷ rest) rest after refl h f

kind_on : (d : Bool) → goes_on_names (comma_kind d) ≡ true
kind_on true = refl
kind_on false = refl

pub linked_article_names : Linked (links article_name_form never_ends goes_on_names)
linked_article_names = record {
  told = λ a b e. comma_told a b e;
  weaker = λ x t is g. absurd (never g);
  on = λ c. ap goes_on_names (comma_signed c) ∙ kind_on c.dividing;
  apart = λ x c is may g. never g;
}

article_one : (n : ℕ) → One n article_name_form
article_one n a b x y less isa isb e qa qb = same_article a b (head_of _ _ _ _ e)

pub article_names_one : (n : ℕ) → One n article_names_form
article_names_one n = list_one article_name_form never_ends goes_on_names linked_article_names article_one n
