-- The readings of articles.
use Rattle.std.specs.Prelude.{codes}
use Rattle.std.proofs.Common.{◌≡◌, ℕ, Bool, true, false, ◌||◌, ◌&&◌, List, [], ◌∷◌, ◌++◌, refl, sym, ap, subst, ◌∙◌, is_some, Option, Some, None}
use Rattle.std.specs.Str.{bytes_eq}
use Rattle.std.proofs.lemmas.Bool.{or_left, or_right}
use Rattle.mz_base.specs.declared.place.Place.{Place}
use Rattle.mz_base.specs.declared.token.MarkedToken.{MarkedToken}
use Rattle.mz_forms.specs.Form.{Form, Agrees, is_empty, then}
use Rattle.mz_forms.proofs.Choose.{Reshapes}
use Rattle.mz_forms.proofs.Compose.{head_of}
use Rattle.mz_forms.proofs.Leads.{apart_closed}
use Rattle.mz_forms.proofs.Lists.{Begun, Repeats}
use Rattle.mz_tree.specs.declared.word.Word.{Word}
use Rattle.mz_tree.specs.Trees.{TypeData, ModeType, no_adjectives}
use Rattle.mz_tree_part.specs.declared.directive.DirectiveTree.{DirectiveTree}
use Rattle.mz_tree_part.specs.declared.notation.NotationTree.{NotationTree}
use Rattle.mz_tree_part.specs.declared.reserve.ReserveTree.{ReserveTree}
use Rattle.mz_tree_part.specs.declared.words.DirectiveWord.{DirectiveWord}
use Rattle.mz_tree_part.specs.declared.words.DirectiveWord.TheVariants as directive_words
use Rattle.mz_tree_part.specs.Keywords.{directive_word}
use Rattle.mz_tree_part.specs.Rules.{is_directive_yet}
use Rattle.mz_tree_part.specs.Spell.{spell_notation, spell_reserve}
use Rattle.mz_tree_item.specs.declared.article.ArticlePartTree.{ArticlePartTree}
use Rattle.mz_tree_item.specs.declared.article.ArticlePartTree.TheVariants as parts
use Rattle.mz_tree_item.specs.declared.article.ArticleTree.{ArticleTree}
use Rattle.mz_tree_item.specs.declared.article.ItemTree.{ItemTree}
use Rattle.mz_tree_item.specs.declared.article.ItemTree.TheVariants as trees
use Rattle.mz_tree_item.specs.Rules.{IsArticlePart, IsItem}
use Rattle.mz_tree_item.specs.Spell.{spell_article_part, spell_item}
use Rattle.mz_pterm.specs.Sign.{formula_sign, reserved_sign, sign_of}
use Rattle.mz_pterm.specs.declared.sign.Sign.TheVariants as signs
use Rattle.mz_pterm.specs.Words.{named}
use Rattle.mz_pterm.proofs.Bases.{word_at}
use Rattle.mz_ptype.proofs.Optional.{never, true_not_false}
use Rattle.mz_pformula.specs.Classes.{begins_unit}
use Rattle.mz_pjustification.specs.declared.keyword.Keyword.TheVariants as keywords
use Rattle.mz_pjustification.specs.Keyword.{keyword_of, later_keyword, reserved_keyword}
use Rattle.mz_pjustification.specs.Words.{key}
use Rattle.mz_pjustification.proofs.Taken.{nowhere, or_goes}
use Rattle.mz_ppattern.specs.Optional.{next_has}
use Rattle.mz_ppattern.specs.Words.{is_word, word_form, word_token}
use Rattle.mz_ppattern.proofs.LociSteps.{has_not, has_so}
use Rattle.mz_ppattern.proofs.Sets.{apart_off}
use Rattle.mz_ppattern.proofs.WordSteps.{IsPlain, word_keyed, word_own, word_signed, word_told}
use Rattle.mz_ppart.specs.Forms.{directive_form}
use Rattle.mz_ppart.specs.WordLists.{directives, first_of}
use Rattle.mz_ppart.proofs.ChosenWords.{All, first_hit}
use Rattle.mz_pproof.specs.Classes.{begins_statement, is_mode, is_set, is_statement_key}
use Rattle.mz_pproof.proofs.Examples.{begun_statement}
use Rattle.mz_pproof.proofs.Steps.{statement_first}
use Rattle.mz_pcluster.proofs.Joined.{Joined}
use Rattle.mz_pcluster.proofs.PartSteps.{headed}
use Rattle.mz_pblock.proofs.RegistrationSteps.{as_registration, joined_registration_1, make_registration, registration_2}
use Rattle.mz_pblock.proofs.SchemeSteps.{as_scheme, as_scheme_head, as_theorem, joined_scheme, joined_scheme_head_1, joined_theorem_1, make_scheme, make_scheme_head, make_theorem, scheme_head_2, theorem_2}
use Rattle.mz_pblock.specs.Forms.{registration_form, scheme_form, scheme_head_form, scheme_rest_form, theorem_form}
use Rattle.mz_pblock.proofs.WordSteps.{some_of}
use Rattle.mz_pitem.specs.declared.items.ItemWord.{ItemWord}
use Rattle.mz_pitem.specs.declared.items.ItemWord.TheVariants as item_words
use Rattle.mz_pitem.specs.Classes.{begins_article_part, begins_begin, begins_directive, begins_item, item_word, items}
use Rattle.mz_pitem.specs.Forms.{article_form, article_part_form, article_parts_form, definition_form, directives_form, item_form}
use Rattle.mz_pitem.proofs.DefinitionSteps.{as_definition, definition_2, joined_definition_1, make_definition}
use Rattle.mz_pitem.proofs.ItemSteps.{item_filled, item_hit, kind_first}

-- Directives.
all_directives : All is_directive_yet directives
all_directives = (refl, (refl, (refl, (refl, (refl, (refl, (refl, (refl, tt))))))))

begins_own : (w : DirectiveWord) (p : Place) → is_directive_yet w ≡ true → begins_directive (word_token (directive_word w) p) ≡ true
begins_own directive_words.Vocabularies p h = refl
begins_own directive_words.Notations p h = refl
begins_own directive_words.Constructors p h = refl
begins_own directive_words.Registrations p h = refl
begins_own directive_words.Definitions p h = refl
begins_own directive_words.Equalities p h = cc
begins_own directive_words.Expansions p h = cc
begins_own directive_words.Theorems p h = refl
begins_own directive_words.Schemes p h = refl
begins_own directive_words.Requirements p h = refl

pub repeats_directives : Repeats directive_form begins_directive begins_directive
repeats_directives = record {
  filled = λ x is e. filled x e;
  first = λ x t m is e. ap begins_directive (sym (head_of _ _ _ _ e)) ∙ begins_own x.word x.place is.0;
  weaker = λ x t is g. absurd (never g);
  on = λ t h. h;
  apart = λ x t is h g. never g;
}
  where
    filled : (x : DirectiveTree) → directive_form.spell x ≡ [] → ⊥
    filled x e = cc

abbrev named_word : Word
named_word = record { place = nowhere; spelling = codes "A" }

abbrev some_directive : DirectiveWord → Place → DirectiveTree
some_directive w p = record { place = p; word = w; names = record { first = record { name = named_word }; more = [] }; semicolon = nowhere }

abbrev behind_directive : List MarkedToken
behind_directive = named signs.Identifier named_word ∷ key keywords.Semicolon nowhere ∷ []

pub begun_directive : (t : MarkedToken) → begins_directive t ≡ true → Begun directive_form t
begun_directive t h =
    let w = some_of (first_of directive_word directives t) h in
    let k = first_hit directive_word is_directive_yet directives t w.0 all_directives w.1 in
    (some_directive w.0 t.token.place, behind_directive, (k.1, (refl, tt)), ap (λ z. z ∷ behind_directive) (sym (word_told (directive_word w.0) t k.0)))

-- Items.
pub item_first : (x : ItemTree) (t : MarkedToken) (m : List MarkedToken) → IsItem x → spell_item x ≡ t ∷ m → begins_item t ≡ true
item_first (trees.Reserve a) t m is e = or_left _ (begins_statement t) (ap is_some (kind_first (trees.Reserve a) t m is e))
item_first (trees.Theorem a) t m is e = or_left _ (begins_statement t) (ap is_some (kind_first (trees.Theorem a) t m is e))
item_first (trees.Scheme a) t m is e = or_left _ (begins_statement t) (ap is_some (kind_first (trees.Scheme a) t m is e))
item_first (trees.Definition a) t m is e = or_left _ (begins_statement t) (ap is_some (kind_first (trees.Definition a) t m is e))
item_first (trees.Notation a) t m is e = or_left _ (begins_statement t) (ap is_some (kind_first (trees.Notation a) t m is e))
item_first (trees.Registration a) t m is e = or_left _ (begins_statement t) (ap is_some (kind_first (trees.Registration a) t m is e))
item_first (trees.Statement a) t m is e = or_right (is_some (first_of item_word items t)) (begins_statement t) (statement_first a t m is e)

-- trees that begin with a token: a word, what stands in front of others, and what a sequence is built to
word_begun : (w : List ℕ) (t : MarkedToken) → is_word w t ≡ true → Begun (word_form w) t
word_begun w t h = (t.token.place, [], tt, ap (λ z. z ∷ []) (sym (word_told w t h)))

then_begun : (A : Form MarkedToken) (K : A.Tree → Form MarkedToken) (t : MarkedToken) → Joined A K → Begun A t → Begun (then A K) t
then_begun A K t j x = let s = j.some x.0 x.2 in ((x.0, s.0), x.1 ++ (K x.0).spell s.0, (x.2, s.1), ap (λ z. z ++ (K x.0).spell s.0) x.3)

built_begun : (X S : Form MarkedToken) (build : S.Tree → X.Tree) (t : MarkedToken) → Reshapes X S build [] → Begun S t → Begun X t
built_begun X S build t r x = (build x.0, x.1, r.into x.0 x.2, r.spells x.0 x.2 ∙ x.3)

abbrev some_type : TypeData
some_type = ModeType no_adjectives (word_at nowhere)

abbrev some_reserve : Place → ReserveTree
some_reserve p = record { reserve = p; segments = record { first = record { identifiers = record { first = record { name = word_at nowhere }; more = [] }; for_ = nowhere; ty = some_type }; more = [] }; semicolon = nowhere }

abbrev some_notation : Place → NotationTree
some_notation p = record { notation = p; parts = []; end = nowhere; semicolon = nowhere }

abbrev behind_first : List MarkedToken → List MarkedToken
behind_first [] = []
behind_first (t ∷ ts) = ts

scheme_head_begun : (t : MarkedToken) → is_word (codes "scheme") t ≡ true → Begun scheme_head_form t
scheme_head_begun t h = built_begun scheme_head_form (then (word_form (codes "scheme")) (λ _. scheme_head_2)) make_scheme_head t (as_scheme_head []) (then_begun (word_form (codes "scheme")) (λ _. scheme_head_2) t joined_scheme_head_1 (word_begun (codes "scheme") t h))

worded : (t : MarkedToken) (w : ItemWord) → is_word (item_word w) t ≡ true → Begun item_form t
worded t item_words.Reserve h = (trees.Reserve (some_reserve t.token.place), behind_first (spell_reserve (some_reserve nowhere)), (tt, tt), ap (λ z. z ∷ behind_first (spell_reserve (some_reserve nowhere))) (sym (word_told (codes "reserve") t h)))
worded t item_words.Theorem h =
    let x = built_begun theorem_form (then (word_form (codes "theorem")) (λ _. theorem_2)) make_theorem t (as_theorem []) (then_begun (word_form (codes "theorem")) (λ _. theorem_2) t joined_theorem_1 (word_begun (codes "theorem") t h)) in
    (trees.Theorem x.0, x.1, x.2, x.3)
worded t item_words.Scheme h =
    let x = built_begun scheme_form (then scheme_head_form (λ _. scheme_rest_form)) make_scheme t (as_scheme []) (then_begun scheme_head_form (λ _. scheme_rest_form) t joined_scheme (scheme_head_begun t h)) in
    (trees.Scheme x.0, x.1, x.2, x.3)
worded t item_words.Definition h =
    let x = built_begun definition_form (then (word_form (codes "definition")) (λ _. definition_2)) make_definition t (as_definition []) (then_begun (word_form (codes "definition")) (λ _. definition_2) t joined_definition_1 (word_begun (codes "definition") t h)) in
    (trees.Definition x.0, x.1, x.2, x.3)
worded t item_words.Notation h = (trees.Notation (some_notation t.token.place), behind_first (spell_notation (some_notation nowhere)), tt, ap (λ z. z ∷ behind_first (spell_notation (some_notation nowhere))) (sym (word_told (codes "notation") t h)))
worded t item_words.Registration h =
    let x = built_begun registration_form (then (word_form (codes "registration")) (λ _. registration_2)) make_registration t (as_registration []) (then_begun (word_form (codes "registration")) (λ _. registration_2) t joined_registration_1 (word_begun (codes "registration") t h)) in
    (trees.Registration x.0, x.1, x.2, x.3)

pub begun_item : (t : MarkedToken) → begins_item t ≡ true → Begun item_form t
begun_item t h = go (first_of item_word items t) refl h
  where
    go : (o : Option ItemWord) → first_of item_word items t ≡ o → (is_some o || begins_statement t) ≡ true → Begun item_form t
    go (Some w) e g = worded t w (item_hit t w e)
    go None e g = let x = begun_statement t g in (trees.Statement x.0, x.1, x.2, x.3)

-- A part of an article: `begin`, or an item.
plain_begin : IsPlain (codes "begin")
unfolding reserved_sign formula_sign reserved_keyword later_keyword
plain_begin = (refl, refl)

begin_no_statement : (p : Place) → begins_statement (word_token (codes "begin") p) ≡ false
begin_no_statement p = ap (λ z. is_statement_key z || (is_set (word_token (codes "begin") p) || begins_unit (sign_of (word_token (codes "begin") p)))) (word_keyed (codes "begin") p plain_begin.1) ∙ ap (λ z. (is_mode z && bytes_eq (word_token (codes "begin") p).token.spelling (codes "set")) || begins_unit z) (word_signed (codes "begin") p plain_begin.0)

begin_no_item : (p : Place) → begins_item (word_token (codes "begin") p) ≡ false
begin_no_item p = begin_no_statement p

not_so : (b : Bool) → (b ≡ true → ⊥) → b ≡ false
not_so true h = absurd (h refl)
not_so false h = refl

item_no_begin : (t : MarkedToken) → begins_item t ≡ true → begins_begin t ≡ false
item_no_begin t h = not_so (begins_begin t) (λ e. true_not_false (begins_item t) (ap begins_item (word_told (codes "begin") t e) ∙ begin_no_item t.token.place) h)

abbrev pub put_begin : Place → ArticlePartTree
put_begin p = parts.Begin p

abbrev pub put_item : ItemTree → ArticlePartTree
put_item a = parts.Item a

pub as_begin : (b : List MarkedToken) → next_has begins_begin b ≡ true → Reshapes article_part_form (word_form (codes "begin")) put_begin b
as_begin b h = record {
  into = λ p is. is;
  spells = λ p is. refl;
  only = λ x is g. only x is g;
  goes = λ p t is g. absurd (never g);
  level = λ p is. refl;
}
  where
    only : (x : ArticlePartTree) → IsArticlePart x → Agrees b (spell_article_part x) → (p : Place) × (word_form (codes "begin")).IsTree p × (x ≡ put_begin p)
    only (parts.Begin p) is g = (p, tt, refl)
    only (parts.Item a) is g =
        let k = headed b (spell_item a) g (λ e. item_filled a is e) in
        absurd (has_not begins_begin b k.0 k.1 h (item_no_begin k.0 (item_first a k.0 k.1 is k.2)) k.3)

pub as_item : (b : List MarkedToken) → next_has begins_begin b ≡ false → Reshapes article_part_form item_form put_item b
as_item b h = record {
  into = λ a is. is;
  spells = λ a is. refl;
  only = λ x is g. only x is g;
  goes = λ a t is g. absurd (never g);
  level = λ a is. refl;
}
  where
    only : (x : ArticlePartTree) → IsArticlePart x → Agrees b (spell_article_part x) → (a : ItemTree) × IsItem a × (x ≡ put_item a)
    only (parts.Begin p) is g = absurd (has_so begins_begin b (word_token (codes "begin") p) [] h (word_own (codes "begin") p) g)
    only (parts.Item a) is g = (a, is, refl)

part_filled : (x : ArticlePartTree) → IsArticlePart x → spell_article_part x ≡ [] → ⊥
part_filled (parts.Begin p) is e = cc
part_filled (parts.Item a) is e = item_filled a is e

part_first : (x : ArticlePartTree) (t : MarkedToken) (m : List MarkedToken) → IsArticlePart x → spell_article_part x ≡ t ∷ m → begins_article_part t ≡ true
part_first (parts.Begin p) t m is e = or_left (begins_begin t) (begins_item t) (ap begins_begin (sym (head_of _ _ _ _ e)) ∙ word_own (codes "begin") p)
part_first (parts.Item a) t m is e = or_right (begins_begin t) (begins_item t) (item_first a t m is e)

pub repeats_parts : Repeats article_part_form begins_article_part begins_article_part
repeats_parts = record {
  filled = λ x is e. part_filled x is e;
  first = λ x t m is e. part_first x t m is e;
  weaker = λ x t is g. absurd (never g);
  on = λ t h. h;
  apart = λ x t is h g. never g;
}

pub begun_part : (t : MarkedToken) → begins_article_part t ≡ true → Begun article_part_form t
begun_part t h = go (begins_begin t) refl h
  where
    go : (b : Bool) → begins_begin t ≡ b → (b || begins_item t) ≡ true → Begun article_part_form t
    go true e g = (parts.Begin t.token.place, [], tt, ap (λ z. z ∷ []) (sym (word_told (codes "begin") t e)))
    go false e g = let x = begun_item t g in (parts.Item x.0, x.1, x.2, x.3)

-- An article.
abbrev pub article_3 : Form MarkedToken
article_3 = then (word_form (codes "begin")) (λ _. article_parts_form)

abbrev pub article_2 : Form MarkedToken
article_2 = then directives_form (λ _. article_3)

abbrev pub article_1 : Form MarkedToken
article_1 = then (word_form (codes "environ")) (λ _. article_2)

-- the second `begin` of a text is no directive
begin_no_directive : (p : Place) → begins_directive (word_token (codes "begin") p) ≡ false
begin_no_directive p = refl

pub joined_article_1 : Joined (word_form (codes "environ")) (λ _. article_2)
joined_article_1 = record { apart = apart_closed (word_form (codes "environ")) (λ _. article_2) (λ a t. refl); some = λ a is. (([], (nowhere, [])), (tt, (tt, tt))) }

pub joined_article_2 : Joined directives_form (λ _. article_3)
joined_article_2 = record { apart = apart_off directives_form article_3 begins_directive (λ a t is g. g) (λ x t m is e g. true_not_false (begins_directive t) (ap begins_directive (sym (head_of _ _ _ _ e)) ∙ begin_no_directive x.0) g); some = λ a is. ((nowhere, []), (tt, tt)) }

pub joined_article_3 : Joined (word_form (codes "begin")) (λ _. article_parts_form)
joined_article_3 = record { apart = apart_closed (word_form (codes "begin")) (λ _. article_parts_form) (λ a t. refl); some = λ a is. ([], tt) }

abbrev pub make_article : article_1.Tree → ArticleTree
make_article k = record { environ = k.0; directives = k.1.0; begin = k.1.1.0; parts = k.1.1.1 }

pub only_article : (x : ArticleTree) → article_form.IsTree x → (k : article_1.Tree) × article_1.IsTree k × (x ≡ make_article k)
only_article x is = ((x.environ, (x.directives, (x.begin, x.parts))), (tt, (is.0, (tt, is.1))), refl)

pub as_article : (b : List MarkedToken) → Reshapes article_form article_1 make_article b
as_article b = record {
  into = λ k is. (is.1.0, is.1.1.1);
  spells = λ k is. refl;
  only = λ x is g. only_article x is;
  goes = λ k t is g. or_goes (article_2.goes k.1 t) false (is_empty (article_2.spell k.1)) (begins_article_part t) (λ h. or_goes (article_3.goes k.1.1 t) false false (begins_article_part t) (λ i. or_goes (begins_article_part t) false (is_empty (article_parts_form.spell k.1.1.1)) (begins_article_part t) (λ j. j) (λ j. absurd (never j)) i) (λ i. absurd (never i)) h) (λ h. absurd (never h)) g;
  level = λ k is. refl;
}
