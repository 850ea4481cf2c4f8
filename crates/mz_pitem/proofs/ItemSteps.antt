-- The readings of items.
use Rattle.std.specs.Prelude.{codes}
use Rattle.std.proofs.Common.{◌≡◌, ℕ, Bool, true, false, ◌||◌, ◌&&◌, List, [], ◌∷◌, ◌++◌, refl, sym, ap, subst, ◌∙◌, is_some, Option, Some, None, Result, Ok, Err}
use Rattle.std.specs.Str.{bytes_eq}
use Rattle.mz_base.specs.declared.place.Place.{Place}
use Rattle.mz_base.specs.declared.token.MarkedToken.{MarkedToken}
use Rattle.mz_forms.specs.declared.refusal.Refusal.{Refusal}
use Rattle.mz_forms.specs.Form.{Form, Agrees}
use Rattle.mz_forms.specs.Reading.{Reads}
use Rattle.mz_forms.proofs.Choose.{Reshapes}
use Rattle.mz_forms.proofs.Compose.{head_of}
use Rattle.mz_tree_item.specs.declared.article.ItemTree.{ItemTree}
use Rattle.mz_tree_item.specs.declared.article.ItemTree.TheVariants as trees
use Rattle.mz_tree_item.specs.Rules.{IsItem}
use Rattle.mz_tree_item.specs.Spell.{spell_item}
use Rattle.mz_pterm.specs.declared.sign.Sign.{Sign}
use Rattle.mz_pterm.specs.Sign.{formula_sign, reserved_sign, sign_of}
use Rattle.mz_ptype.proofs.Optional.{never, true_not_false}
use Rattle.mz_pformula.specs.Classes.{begins_unit}
use Rattle.mz_pjustification.specs.Keyword.{keyword_of, later_keyword, reserved_keyword}
use Rattle.mz_ppattern.specs.Words.{is_word, word_token}
use Rattle.mz_ppattern.proofs.WordSteps.{IsPlain, word_keyed, word_signed, word_told}
use Rattle.mz_ppart.specs.WordLists.{first_of}
use Rattle.mz_ppart.specs.Forms.{notation_form, reserve_form}
use Rattle.mz_ppart.proofs.ChosenWords.{All, first_hit}
use Rattle.mz_pproof.specs.Classes.{begins_statement, is_mode, is_set, is_statement_key}
use Rattle.mz_pproof.specs.Forms.{statement_form}
use Rattle.mz_pproof.proofs.Statements.{statement_filled}
use Rattle.mz_pproof.proofs.Steps.{statement_first}
use Rattle.mz_pcluster.proofs.Joined.{shaped_found, shaped_refused}
use Rattle.mz_pcluster.proofs.PartSteps.{headed}
use Rattle.mz_pblock.specs.Forms.{registration_form, scheme_form, theorem_form}
use Rattle.mz_pitem.specs.declared.items.ItemWord.{ItemWord}
use Rattle.mz_pitem.specs.declared.items.ItemWord.TheVariants as item_words
use Rattle.mz_pitem.specs.Classes.{item_next, item_word, items}
use Rattle.mz_pitem.specs.Forms.{definition_form, item_form}

-- The word that an item begins with.
abbrev pub item_kind : ItemTree → Option ItemWord
item_kind (trees.Reserve a) = Some item_words.Reserve
item_kind (trees.Theorem a) = Some item_words.Theorem
item_kind (trees.Scheme a) = Some item_words.Scheme
item_kind (trees.Definition a) = Some item_words.Definition
item_kind (trees.Notation a) = Some item_words.Notation
item_kind (trees.Registration a) = Some item_words.Registration
item_kind (trees.Statement a) = None

pub own_item : (w : ItemWord) (p : Place) → first_of item_word items (word_token (item_word w) p) ≡ Some w
own_item item_words.Reserve p = refl
own_item item_words.Theorem p = refl
own_item item_words.Scheme p = refl
own_item item_words.Definition p = refl
own_item item_words.Notation p = refl
own_item item_words.Registration p = refl

abbrev any_item : ItemWord → Bool
any_item w = true

all_items : All any_item items
all_items = (refl, (refl, (refl, (refl, (refl, (refl, tt))))))

pub item_hit : (t : MarkedToken) (w : ItemWord) → first_of item_word items t ≡ Some w → is_word (item_word w) t ≡ true
item_hit t w e = (first_hit item_word any_item items t w all_items e).0

-- no such word begins a statement
plain_item : (w : ItemWord) → IsPlain (item_word w)
unfolding reserved_sign formula_sign reserved_keyword later_keyword
plain_item item_words.Reserve = (refl, refl)
plain_item item_words.Theorem = (refl, refl)
plain_item item_words.Scheme = (refl, refl)
plain_item item_words.Definition = (refl, refl)
plain_item item_words.Notation = (refl, refl)
plain_item item_words.Registration = (refl, refl)

pub no_statement : (t : MarkedToken) (w : ItemWord) → first_of item_word items t ≡ Some w → begins_statement t ≡ false
no_statement t w e =
    let told = word_told (item_word w) t (item_hit t w e) in
    let k = ap keyword_of told ∙ word_keyed (item_word w) t.token.place (plain_item w).1 in
    let s = ap sign_of told ∙ word_signed (item_word w) t.token.place (plain_item w).0 in
    ap (λ z. is_statement_key z || (is_set t || begins_unit (sign_of t))) k ∙ ap (λ z. (is_mode z && bytes_eq t.token.spelling (codes "set")) || begins_unit z) s

none_or : (o : Option ItemWord) → ((w : ItemWord) → o ≡ Some w → ⊥) → o ≡ None
none_or None h = refl
none_or (Some w) h = absurd (h w refl)

pub statement_no_item : (t : MarkedToken) → begins_statement t ≡ true → first_of item_word items t ≡ None
statement_no_item t h = none_or (first_of item_word items t) (λ w e. true_not_false (begins_statement t) (no_statement t w e) h)

pub kind_first : (x : ItemTree) (t : MarkedToken) (m : List MarkedToken) → IsItem x → spell_item x ≡ t ∷ m → first_of item_word items t ≡ item_kind x
kind_first (trees.Reserve a) t m is e = ap (first_of item_word items) (sym (head_of _ _ _ _ e)) ∙ own_item item_words.Reserve a.reserve
kind_first (trees.Theorem a) t m is e = ap (first_of item_word items) (sym (head_of _ _ _ _ e)) ∙ own_item item_words.Theorem a.theorem
kind_first (trees.Scheme a) t m is e = ap (first_of item_word items) (sym (head_of _ _ _ _ e)) ∙ own_item item_words.Scheme a.scheme
kind_first (trees.Definition a) t m is e = ap (first_of item_word items) (sym (head_of _ _ _ _ e)) ∙ own_item item_words.Definition a.definition
kind_first (trees.Notation a) t m is e = ap (first_of item_word items) (sym (head_of _ _ _ _ e)) ∙ own_item item_words.Notation a.notation
kind_first (trees.Registration a) t m is e = ap (first_of item_word items) (sym (head_of _ _ _ _ e)) ∙ own_item item_words.Registration a.registration
kind_first (trees.Statement a) t m is e = statement_no_item t (statement_first a t m is e)

pub item_filled : (x : ItemTree) → IsItem x → spell_item x ≡ [] → ⊥
item_filled (trees.Reserve a) is e = cc
item_filled (trees.Theorem a) is e = cc
item_filled (trees.Scheme a) is e = cc
item_filled (trees.Definition a) is e = cc
item_filled (trees.Notation a) is e = cc
item_filled (trees.Registration a) is e = cc
item_filled (trees.Statement a) is e = statement_filled a is e

kind_agrees : (b : List MarkedToken) (x : ItemTree) → IsItem x → Agrees b (spell_item x) → item_kind x ≡ item_next b
kind_agrees b x is g =
    let k = headed b (spell_item x) g (λ e. item_filled x is e) in
    sym (kind_first x k.0 k.1 is k.2) ∙ next b k.0 k.1 k.3
  where
    next : (b : List MarkedToken) (t : MarkedToken) (m : List MarkedToken) → Agrees b (t ∷ m) → first_of item_word items t ≡ item_next b
    next [] t m g = absurd g
    next (s ∷ b) t m g = ap (first_of item_word items) g

abbrev pub put_reserve : reserve_form.Tree → ItemTree
put_reserve a = trees.Reserve a

pub as_reserve : (b : List MarkedToken) → item_next b ≡ Some item_words.Reserve → Reshapes item_form reserve_form put_reserve b
as_reserve b h = record {
  into = λ a is. is;
  spells = λ a is. refl;
  only = λ x is g. only x is (kind_agrees b x is g ∙ h);
  goes = λ a t is g. absurd (never g);
  level = λ a is. refl;
}
  where
    only : (x : ItemTree) → IsItem x → item_kind x ≡ Some item_words.Reserve → (a : reserve_form.Tree) × reserve_form.IsTree a × (x ≡ put_reserve a)
    only (trees.Reserve a) is e = (a, is, refl)
    only (trees.Theorem a) is e = cc
    only (trees.Scheme a) is e = cc
    only (trees.Definition a) is e = cc
    only (trees.Notation a) is e = cc
    only (trees.Registration a) is e = cc
    only (trees.Statement a) is e = cc

abbrev pub put_theorem : theorem_form.Tree → ItemTree
put_theorem a = trees.Theorem a

pub as_theorem : (b : List MarkedToken) → item_next b ≡ Some item_words.Theorem → Reshapes item_form theorem_form put_theorem b
as_theorem b h = record {
  into = λ a is. is;
  spells = λ a is. refl;
  only = λ x is g. only x is (kind_agrees b x is g ∙ h);
  goes = λ a t is g. absurd (never g);
  level = λ a is. refl;
}
  where
    only : (x : ItemTree) → IsItem x → item_kind x ≡ Some item_words.Theorem → (a : theorem_form.Tree) × theorem_form.IsTree a × (x ≡ put_theorem a)
    only (trees.Reserve a) is e = cc
    only (trees.Theorem a) is e = (a, is, refl)
    only (trees.Scheme a) is e = cc
    only (trees.Definition a) is e = cc
    only (trees.Notation a) is e = cc
    only (trees.Registration a) is e = cc
    only (trees.Statement a) is e = cc

abbrev pub put_scheme : scheme_form.Tree → ItemTree
put_scheme a = trees.Scheme a

pub as_scheme : (b : List MarkedToken) → item_next b ≡ Some item_words.Scheme → Reshapes item_form scheme_form put_scheme b
as_scheme b h = record {
  into = λ a is. is;
  spells = λ a is. refl;
  only = λ x is g. only x is (kind_agrees b x is g ∙ h);
  goes = λ a t is g. absurd (never g);
  level = λ a is. refl;
}
  where
    only : (x : ItemTree) → IsItem x → item_kind x ≡ Some item_words.Scheme → (a : scheme_form.Tree) × scheme_form.IsTree a × (x ≡ put_scheme a)
    only (trees.Reserve a) is e = cc
    only (trees.Theorem a) is e = cc
    only (trees.Scheme a) is e = (a, is, refl)
    only (trees.Definition a) is e = cc
    only (trees.Notation a) is e = cc
    only (trees.Registration a) is e = cc
    only (trees.Statement a) is e = cc

abbrev pub put_definition : definition_form.Tree → ItemTree
put_definition a = trees.Definition a

pub as_definition : (b : List MarkedToken) → item_next b ≡ Some item_words.Definition → Reshapes item_form definition_form put_definition b
as_definition b h = record {
  into = λ a is. is;
  spells = λ a is. refl;
  only = λ x is g. only x is (kind_agrees b x is g ∙ h);
  goes = λ a t is g. absurd (never g);
  level = λ a is. refl;
}
  where
    only : (x : ItemTree) → IsItem x → item_kind x ≡ Some item_words.Definition → (a : definition_form.Tree) × definition_form.IsTree a × (x ≡ put_definition a)
    only (trees.Reserve a) is e = cc
    only (trees.Theorem a) is e = cc
    only (trees.Scheme a) is e = cc
    only (trees.Definition a) is e = (a, is, refl)
    only (trees.Notation a) is e = cc
    only (trees.Registration a) is e = cc
    only (trees.Statement a) is e = cc

abbrev pub put_notation : notation_form.Tree → ItemTree
put_notation a = trees.Notation a

pub as_notation : (b : List MarkedToken) → item_next b ≡ Some item_words.Notation → Reshapes item_form notation_form put_notation b
as_notation b h = record {
  into = λ a is. is;
  spells = λ a is. refl;
  only = λ x is g. only x is (kind_agrees b x is g ∙ h);
  goes = λ a t is g. absurd (never g);
  level = λ a is. refl;
}
  where
    only : (x : ItemTree) → IsItem x → item_kind x ≡ Some item_words.Notation → (a : notation_form.Tree) × notation_form.IsTree a × (x ≡ put_notation a)
    only (trees.Reserve a) is e = cc
    only (trees.Theorem a) is e = cc
    only (trees.Scheme a) is e = cc
    only (trees.Definition a) is e = cc
    only (trees.Notation a) is e = (a, is, refl)
    only (trees.Registration a) is e = cc
    only (trees.Statement a) is e = cc

abbrev pub put_registration : registration_form.Tree → ItemTree
put_registration a = trees.Registration a

pub as_registration : (b : List MarkedToken) → item_next b ≡ Some item_words.Registration → Reshapes item_form registration_form put_registration b
as_registration b h = record {
  into = λ a is. is;
  spells = λ a is. refl;
  only = λ x is g. only x is (kind_agrees b x is g ∙ h);
  goes = λ a t is g. absurd (never g);
  level = λ a is. refl;
}
  where
    only : (x : ItemTree) → IsItem x → item_kind x ≡ Some item_words.Registration → (a : registration_form.Tree) × registration_form.IsTree a × (x ≡ put_registration a)
    only (trees.Reserve a) is e = cc
    only (trees.Theorem a) is e = cc
    only (trees.Scheme a) is e = cc
    only (trees.Definition a) is e = cc
    only (trees.Notation a) is e = cc
    only (trees.Registration a) is e = (a, is, refl)
    only (trees.Statement a) is e = cc

abbrev pub put_statement : statement_form.Tree → ItemTree
put_statement a = trees.Statement a

pub as_statement : (b : List MarkedToken) → item_next b ≡ None → Reshapes item_form statement_form put_statement b
as_statement b h = record {
  into = λ a is. is;
  spells = λ a is. refl;
  only = λ x is g. only x is (kind_agrees b x is g ∙ h);
  goes = λ a t is g. absurd (never g);
  level = λ a is. refl;
}
  where
    only : (x : ItemTree) → IsItem x → item_kind x ≡ None → (a : statement_form.Tree) × statement_form.IsTree a × (x ≡ put_statement a)
    only (trees.Reserve a) is e = cc
    only (trees.Theorem a) is e = cc
    only (trees.Scheme a) is e = cc
    only (trees.Definition a) is e = cc
    only (trees.Notation a) is e = cc
    only (trees.Registration a) is e = cc
    only (trees.Statement a) is e = (a, is, refl)
