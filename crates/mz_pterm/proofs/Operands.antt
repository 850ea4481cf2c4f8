-- Operands, the pieces of a term, and the terms of a list.
use Rattle.std.specs.Prelude.{codes}
use Rattle.std.proofs.Common.{◌≡◌, ℕ, Bool, true, false, ◌||◌, List, [], ◌∷◌, ◌++◌, refl, sym, ap, subst, ◌∙◌, append_assoc}
use Rattle.mz_base.specs.declared.place.Place.{Place}
use Rattle.mz_forms.specs.Form.{Form, Agrees, is_empty, then, nothing}
use Rattle.mz_forms.specs.Chain.{spell_chain, levels_chain, AreLinked}
use Rattle.mz_forms.proofs.Compose.{Apart, head_of, append_nil}
use Rattle.mz_forms.proofs.Choose.{Chooses, Turns, Reshapes}
use Rattle.mz_forms.proofs.Lists.{either}
use Rattle.mz_forms.proofs.Chain.{Linked}
use Rattle.mz_base.specs.declared.token.MarkedToken.{MarkedToken}
use Rattle.mz_tree.specs.declared.word.Word.{Word}
use Rattle.mz_tree.specs.Spelled.{reserved, special, identifier, symbol, list_comma}
use Rattle.mz_tree.specs.Trees.{TermData, TermsData, BaseData, PieceList, PrefixList, NextTermList, RunTerm, FunctorPiece, OperandPiece, SelectorPrefix, ChoiceOfPrefix, ChoiceOverPrefix, IdentifierBase, SubjectBase, ArgumentBase, GroupBase, CallBase, CallWithBase, SelectorBase, AggregateBase, BracketsBase, BracesBase, SquaresBase, SetOfBase, ChoiceBase, ChoiceStructureBase, ListTerms, NextNextTerm, no_pieces, more_pieces, no_prefixs, more_prefixs, no_next_terms, more_next_terms}
use Rattle.mz_tree.specs.Spell.{spell_base, spell_term, spell_terms, spell_prefix_list, spell_piece_list, spell_next_term_list}
use Rattle.mz_tree.specs.Levels.{levels_term, levels_next_term_list, levels_piece_list}
use Rattle.mz_tree.specs.Rules.{Last, start, functor, operand, several, MayTake, last_of, IsBase, ArePrefixes, IsTerm, GoesOn, AreTerms, AreMoreTerms, is_several}
use Rattle.mz_tree.specs.Spelled as tokens
use Rattle.mz_tree.specs.Views.{OperandData}
use Rattle.mz_pterm.specs.declared.sign.Sign.{Sign}
use Rattle.mz_pterm.specs.declared.sign.Sign.TheVariants as signs
use Rattle.mz_pterm.specs.Classes.{begins_operand, is_open, is_of, is_list_comma, goes_on_term, goes_on_terms}
use Rattle.mz_pterm.specs.Sign.{sign_of}
use Rattle.mz_pterm.specs.Words.{fixed, named, word_of, name}
use Rattle.mz_pterm.specs.Forms.{goes_base, spell_operand, IsRest, operand_form, base_form, Selection, alone_selection, of_selection, selection, spell_selection, IsSelection, goes_selection, selected_with, rest_of_term, term_form, term_links, more_terms, next_terms, terms_form, Arguments, no_arguments, some_arguments, arguments, AreArguments, spell_arguments}
use Rattle.mz_pterm.proofs.Signs.{sign_of-fixed, sign_of-functor, same_fixed}
use Rattle.mz_pterm.proofs.Bases.{Opens, selector_opens, opens, opens_operand, base_filled, term_at}

-- Without selectors an operand is its base.
abbrev pub unprefixed : BaseData → OperandData
unprefixed b = record { prefixes = no_prefixs; base = b }

base_into : (field behind : Bool) (b : BaseData) → (base_form field behind).IsTree b → IsRest field behind (unprefixed b)
base_into field true b is = (tt, is.0, is.2)
base_into field false b is = (tt, is.0, tt)

the_first : (b : List MarkedToken) (t : MarkedToken) (w : List MarkedToken) → Agrees b (t ∷ w) → Agrees b (t ∷ [])
the_first [] t w h = h
the_first (s ∷ b) t w h = h

only_base : (field behind : Bool) (b : List MarkedToken) → ((p : Place) → Agrees b (reserved p (codes "the") ∷ []) → ⊥) → (ps : PrefixList) (x : BaseData) → IsRest field behind (record { prefixes = ps; base = x }) → Agrees b (spell_prefix_list ps ++ spell_base x) →
    (k : BaseData) × (base_form field behind).IsTree k × (record { prefixes = ps; base = x } ≡ unprefixed k)
only_base field behind b h (more_prefixs (SelectorPrefix p w q) ps) x is agrees = absurd (h p (the_first b _ _ agrees))
only_base field behind b h (more_prefixs (ChoiceOfPrefix p a w q e) ps) x is agrees = absurd is.0
only_base field behind b h (more_prefixs (ChoiceOverPrefix p a w q e) ps) x is agrees = absurd is.0
only_base field behind b h no_prefixs (SelectorBase p w) is agrees = absurd (h p (the_first b _ _ agrees))
only_base field true b h no_prefixs (IdentifierBase a) is agrees = (IdentifierBase a, (tt, tt, refl), refl)
only_base field true b h no_prefixs (SubjectBase a) is agrees = (SubjectBase a, (tt, tt, refl), refl)
only_base field true b h no_prefixs (ArgumentBase a n) is agrees = (ArgumentBase a n, (is.1, tt, refl), refl)
only_base field true b h no_prefixs (GroupBase p ts q) is agrees = (GroupBase p ts q, (is.1, tt, is.2), refl)
only_base field true b h no_prefixs (CallBase a p q) is agrees = (CallBase a p q, (tt, tt, refl), refl)
only_base field true b h no_prefixs (CallWithBase a p ts q) is agrees = (CallWithBase a p ts q, (is.1, tt, refl), refl)
only_base field true b h no_prefixs (AggregateBase a p ts q) is agrees = (AggregateBase a p ts q, (is.1, tt, refl), refl)
only_base field true b h no_prefixs (BracketsBase a ts v) is agrees = (BracketsBase a ts v, (is.1, tt, refl), refl)
only_base field true b h no_prefixs (BracesBase p ts q) is agrees = (BracesBase p ts q, (is.1, tt, refl), refl)
only_base field true b h no_prefixs (SquaresBase p ts q) is agrees = (SquaresBase p ts q, (is.1, tt, refl), refl)
only_base field false b h no_prefixs (IdentifierBase a) is agrees = (IdentifierBase a, (tt, tt, tt), refl)
only_base field false b h no_prefixs (SubjectBase a) is agrees = (SubjectBase a, (tt, tt, tt), refl)
only_base field false b h no_prefixs (ArgumentBase a n) is agrees = (ArgumentBase a n, (is.1, tt, tt), refl)
only_base field false b h no_prefixs (GroupBase p ts q) is agrees = (GroupBase p ts q, (is.1, tt, tt), refl)
only_base field false b h no_prefixs (CallBase a p q) is agrees = (CallBase a p q, (tt, tt, tt), refl)
only_base field false b h no_prefixs (CallWithBase a p ts q) is agrees = (CallWithBase a p ts q, (is.1, tt, tt), refl)
only_base field false b h no_prefixs (AggregateBase a p ts q) is agrees = (AggregateBase a p ts q, (is.1, tt, tt), refl)
only_base field false b h no_prefixs (BracketsBase a ts v) is agrees = (BracketsBase a ts v, (is.1, tt, tt), refl)
only_base field false b h no_prefixs (BracesBase p ts q) is agrees = (BracesBase p ts q, (is.1, tt, tt), refl)
only_base field false b h no_prefixs (SquaresBase p ts q) is agrees = (SquaresBase p ts q, (is.1, tt, tt), refl)
only_base field true b h no_prefixs (SetOfBase a p c d u g i j k) is agrees = absurd is.1
only_base field true b h no_prefixs (ChoiceBase a p c) is agrees = absurd is.1
only_base field true b h no_prefixs (ChoiceStructureBase a p c) is agrees = absurd is.1
only_base field false b h no_prefixs (SetOfBase a p c d u g i j k) is agrees = absurd is.1
only_base field false b h no_prefixs (ChoiceBase a p c) is agrees = absurd is.1
only_base field false b h no_prefixs (ChoiceStructureBase a p c) is agrees = absurd is.1

pub as_base : (field behind : Bool) (b : List MarkedToken) → ((p : Place) → Agrees b (reserved p (codes "the") ∷ []) → ⊥) → Reshapes (operand_form field behind) (base_form field behind) unprefixed b
as_base field behind b h = record {
  into = λ k is. base_into field behind k is;
  spells = λ k is. refl;
  only = λ x is agrees. only_base field behind b h x.prefixes x.base is agrees;
  goes = λ k t is g. g;
  level = λ k is. refl;
}

-- The first token of an operand.
pub operand_begins : (field : Bool) (ps : PrefixList) (x : BaseData) (v : List MarkedToken) (t : MarkedToken) (w : List MarkedToken) → ArePrefixes field ps → IsBase field x → (spell_prefix_list ps ++ spell_base x) ++ v ≡ t ∷ w → begins_operand (sign_of t) ≡ true
operand_begins field (more_prefixs (SelectorPrefix p u q) ps) x v t w are is e = let G : MarkedToken → Type 0 = λ z. begins_operand (sign_of z) ≡ true in subst G (head_of _ _ _ _ e) (ap begins_operand (sign_of-fixed signs.The p refl))
operand_begins field (more_prefixs (ChoiceOfPrefix p a u q d) ps) x v t w are is e = absurd are
operand_begins field (more_prefixs (ChoiceOverPrefix p a u q d) ps) x v t w are is e = absurd are
operand_begins field no_prefixs x v t w are is e = go (spell_base x) refl
  where
    go : (y : List MarkedToken) → spell_base x ≡ y → begins_operand (sign_of t) ≡ true
    go [] f = absurd (base_filled field x is f)
    go (s ∷ y) f =
        let g : s ∷ (y ++ v) ≡ t ∷ w = ap (λ z. z ++ v) (sym f) ∙ e in
        let G : MarkedToken → Type 0 = λ z. begins_operand (sign_of z) ≡ true in
        subst G (head_of _ _ _ _ g) (opens_operand (sign_of s) x (opens field x s y is f))

pub operand_filled : (field : Bool) (ps : PrefixList) (x : BaseData) (v : List MarkedToken) → ArePrefixes field ps → IsBase field x → (spell_prefix_list ps ++ spell_base x) ++ v ≡ [] → ⊥
operand_filled field (more_prefixs (SelectorPrefix p u q) ps) x v are is e = cc
operand_filled field (more_prefixs (ChoiceOfPrefix p a u q d) ps) x v are is e = absurd are
operand_filled field (more_prefixs (ChoiceOverPrefix p a u q d) ps) x v are is e = absurd are
operand_filled field no_prefixs x v are is e = base_filled field x is (left (spell_base x) v e)
  where
    left : (y z : List MarkedToken) → y ++ z ≡ [] → y ≡ []
    left [] z f = refl
    left (s ∷ y) z f = cc

-- `the`, and what stands behind it
abbrev pub the_rest : Bool → Form MarkedToken
the_rest field = then (name signs.Selector) (λ _. selection field)

abbrev pub make_selected : Place → (Word × Selection) → OperandData
make_selected p k = selected_with p k.0 k.1

selected_into : (field behind : Bool) (p : Place) (w : Word) (k : Selection) → IsSelection field k → IsRest field behind (selected_with p w k)
selected_into field true p w alone_selection is = (tt, is, refl)
selected_into field false p w alone_selection is = (tt, is, tt)
selected_into field true p w (of_selection q o) is = (is.0, is.1, is.2)
selected_into field false p w (of_selection q o) is = (is.0, is.1, is.2)

selected_spells : (p : Place) (w : Word) (k : Selection) → spell_operand (selected_with p w k) ≡ fixed signs.The p ∷ (named signs.Selector w ∷ spell_selection k)
selected_spells p w alone_selection = refl
selected_spells p w (of_selection q o) = refl

selected_levels : (field behind : Bool) (p : Place) (w : Word) (k : Selection) → (operand_form field behind).levels (selected_with p w k) ≡ 0 ∷ (0 ∷ (selection field).levels k)
selected_levels field behind p w alone_selection = refl
selected_levels field behind p w (of_selection q o) = refl

selected_goes : (p : Place) (w : Word) (k : Selection) (s : Sign) → goes_selection k s ≡ true → goes_base (selected_with p w k).base s ≡ true
selected_goes p w alone_selection s g = g
selected_goes p w (of_selection q o) s g = g

only_selected : (field behind : Bool) (p : Place) (ps : PrefixList) (x : BaseData) (more : List MarkedToken) → IsRest field behind (record { prefixes = ps; base = x }) → spell_prefix_list ps ++ spell_base x ≡ fixed signs.The p ∷ more →
    (k : (the_rest field).Tree) × (the_rest field).IsTree k × (record { prefixes = ps; base = x } ≡ make_selected p k)
only_selected field behind p (more_prefixs (SelectorPrefix a w q) ps) x more is e =
    ((w, of_selection q (record { prefixes = ps; base = x })), (tt, (is.0, is.1, last behind is)), ap (λ z. record { prefixes = more_prefixs (SelectorPrefix z w q) ps; base = x }) (same_fixed signs.The refl a p (head_of _ _ _ _ e)))
  where
    last : (behind : Bool) → IsRest field behind (record { prefixes = more_prefixs (SelectorPrefix a w q) ps; base = x }) → is_several x ≡ false
    last true h = h.2
    last false h = h.2
only_selected field behind p (more_prefixs (ChoiceOfPrefix a c w q d) ps) x more is e = absurd is.0
only_selected field behind p (more_prefixs (ChoiceOverPrefix a c w q d) ps) x more is e = absurd is.0
only_selected field behind p no_prefixs x more is e = go x is.1 e (opened (opens field x (fixed signs.The p) more is.1 e))
  where
    opened : Opens (sign_of (fixed signs.The p)) x → Opens signs.The x
    opened h = let S : Sign → Type 0 = λ z. Opens z x in subst S (sign_of-fixed signs.The p refl) h

    go : (x : BaseData) → IsBase field x → spell_base x ≡ fixed signs.The p ∷ more → Opens signs.The x → (k : (the_rest field).Tree) × (the_rest field).IsTree k × (unprefixed x ≡ make_selected p k)
    go x isx f (selector_opens a w) = ((w, alone_selection), (tt, isx), ap (λ z. unprefixed (SelectorBase z w)) (same_fixed signs.The refl a p (head_of _ _ _ _ f)))

pub by_the : (field behind : Bool) (p : Place) → Chooses (operand_form field behind) (fixed signs.The p) (the_rest field) (make_selected p) 0
by_the field behind p = record {
  level = λ k is. selected_levels field behind p k.0 k.1;
  into = λ k is. selected_into field behind p k.0 k.1 is.1;
  spells = λ k is. selected_spells p k.0 k.1;
  only = λ x more is e. only_selected field behind p x.prefixes x.base more is e;
  empty = λ x is e. absurd (operand_filled field x.prefixes x.base [] is.0 is.1 (append_nil _ ∙ e));
  goes = λ k s is g. selected_goes p k.0 k.1 (sign_of s) (either (goes_selection k.1 (sign_of s)) false (is_empty (spell_selection k.1)) (λ h. cc) g);
}

-- the `of` behind a selector
only_of : (field : Bool) (q : Place) (x : Selection) (more : List MarkedToken) → IsSelection field x → spell_selection x ≡ fixed signs.Of q ∷ more → (k : OperandData) × IsRest field true k × (x ≡ of_selection q k)
only_of field q alone_selection more is e = cc
only_of field q (of_selection p o) more is e = (o, is, ap (λ z. of_selection z o) (same_fixed signs.Of refl p q (head_of _ _ _ _ e)))

empty_selection : (x : Selection) (q : Place) → spell_selection x ≡ [] → goes_selection x (sign_of (fixed signs.Of q)) ≡ true
empty_selection alone_selection q e = ap is_of (sign_of-fixed signs.Of q refl)
empty_selection (of_selection p o) q e = cc

pub by_of : (field : Bool) (q : Place) → Chooses (selection field) (fixed signs.Of q) (operand_form field true) (of_selection q) 0
by_of field q = record {
  level = λ k is. refl;
  into = λ k is. is;
  spells = λ k is. refl;
  only = λ x more is e. only_of field q x more is e;
  empty = λ x is e. empty_selection x q e;
  goes = λ k s is g. g;
}

-- A functor symbol in a term.
only_functor : (field : Bool) (l : Last) (w : Word) (n : ℕ) (x : PieceList) (more : List MarkedToken) → GoesOn field l x → spell_piece_list x ≡ tokens.functor w n ∷ more → (k : PieceList) × GoesOn field functor k × (x ≡ more_pieces (FunctorPiece w n) k)
only_functor field l w n no_pieces more is e = cc
only_functor field l w n (more_pieces (FunctorPiece v m) ps) more is e =
    let h : tokens.functor v m ≡ tokens.functor w n = head_of _ _ _ _ e in
    (ps, is.1, ap (λ z. more_pieces (FunctorPiece z m) ps) (ap word_of h) ∙ ap (λ z. more_pieces (FunctorPiece w z) ps) (ap (λ t. t.token.priority) h))
only_functor field l w n (more_pieces (OperandPiece a b) ps) more is e =
    let h : begins_operand (sign_of (tokens.functor w n)) ≡ true = operand_begins field a b (spell_piece_list ps) (tokens.functor w n) more is.0.1 is.0.2 e in
    let g : begins_operand (sign_of (tokens.functor w n)) ≡ false = ap begins_operand (sign_of-functor w n) in
    absurd (no (sym g ∙ h))
  where
    no : false ≡ true → ⊥
    no f = cc

pub by_functor : (field : Bool) (l : Last) (w : Word) (n : ℕ) → Chooses (rest_of_term field l) (tokens.functor w n) (rest_of_term field functor) (more_pieces (FunctorPiece w n)) 0
by_functor field l w n = record {
  level = λ k is. refl;
  into = λ k is. (tt, is);
  spells = λ k is. refl;
  only = λ x more is e. only_functor field l w n x more is e;
  empty = λ x is e. ap goes_on_term (sign_of-functor w n);
  goes = λ k t is g. g;
}

-- An operand in a term.
abbrev pub operand_first : Bool → Last → Form MarkedToken
operand_first field l = then (operand_form field false) (λ o. rest_of_term field (last_of l o.base))

abbrev pub put_operand : (OperandData × PieceList) → PieceList
put_operand k = more_pieces (OperandPiece k.0.prefixes k.0.base) k.1

pub operand_goes_on : (s : Sign) → begins_operand s ≡ true → goes_on_term s ≡ true
operand_goes_on signs.Identifier e = refl
operand_goes_on signs.Structure e = refl
operand_goes_on signs.LeftBracket e = refl
operand_goes_on signs.It e = refl
operand_goes_on signs.The e = refl
operand_goes_on (signs.Argument n) e = refl
operand_goes_on signs.Open e = refl
operand_goes_on signs.OpenBrace e = refl
operand_goes_on signs.OpenSquare e = refl
operand_goes_on _ e = cc

open_only : (s : Sign) → is_open s ≡ true → s ≡ signs.Open
open_only signs.Open e = refl
open_only _ e = cc

of_only : (s : Sign) → is_of s ≡ true → s ≡ signs.Of
of_only signs.Of e = refl
of_only _ e = cc

-- behind what takes no operand no operand begins
no_operand_next : (field : Bool) (l : Last) (x : PieceList) (t : MarkedToken) (w : List MarkedToken) → (begins_operand (sign_of t) ≡ true → MayTake l → ⊥) → (sign_of t ≡ signs.Functor → ⊥) → GoesOn field l x → spell_piece_list x ≡ t ∷ w → ⊥
no_operand_next field l no_pieces t w h g is e = cc
no_operand_next field l (more_pieces (FunctorPiece v m) ps) t w h g is e = g (sym (ap sign_of (head_of _ _ _ _ e)) ∙ sign_of-functor v m)
no_operand_next field l (more_pieces (OperandPiece a b) ps) t w h g is e = h (operand_begins field a b (spell_piece_list ps) t w is.0.1 is.0.2 e) is.0.0

identifier_last : (l : Last) (w : Word) → MayTake (last_of l (IdentifierBase w)) → ⊥
identifier_last start w h = h
identifier_last functor w h = h
identifier_last operand w h = h
identifier_last several w h = h

operand_apart_at : (field : Bool) (l : Last) (b : BaseData) (k : PieceList) (s : MarkedToken) (x : List MarkedToken) → GoesOn field (last_of l b) k → spell_piece_list k ≡ s ∷ x → goes_base b (sign_of s) ≡ true → ⊥
operand_apart_at field l (IdentifierBase w) k s x isk e g = no_operand_next field (last_of l (IdentifierBase w)) k s x (λ h. identifier_last l w) (λ h. clash (sym (open_only (sign_of s) g) ∙ h)) isk e
  where
    clash : signs.Open ≡ signs.Functor → ⊥
    clash h = cc
operand_apart_at field l (SelectorBase p w) k s x isk e g = no_operand_next field (last_of l (SelectorBase p w)) k s x (λ h m. begins_not (sym (ap begins_operand (of_only (sign_of s) g)) ∙ h)) (λ h. clash (sym (of_only (sign_of s) g) ∙ h)) isk e
  where
    clash : signs.Of ≡ signs.Functor → ⊥
    clash h = cc

    begins_not : begins_operand signs.Of ≡ true → ⊥
    begins_not h = cc
operand_apart_at field l (SubjectBase a) k s x isk e g = cc
operand_apart_at field l (ArgumentBase a n) k s x isk e g = cc
operand_apart_at field l (GroupBase a b c) k s x isk e g = cc
operand_apart_at field l (CallBase a b c) k s x isk e g = cc
operand_apart_at field l (CallWithBase a b c d) k s x isk e g = cc
operand_apart_at field l (AggregateBase a b c d) k s x isk e g = cc
operand_apart_at field l (BracketsBase a b c) k s x isk e g = cc
operand_apart_at field l (BracesBase a b c) k s x isk e g = cc
operand_apart_at field l (SquaresBase a b c) k s x isk e g = cc
operand_apart_at field l (SetOfBase a b c d u h i j m) k s x isk e g = cc
operand_apart_at field l (ChoiceBase a b c) k s x isk e g = cc
operand_apart_at field l (ChoiceStructureBase a b c) k s x isk e g = cc

pub operand_apart : (field : Bool) (l : Last) → Apart (operand_form field false) (λ o. rest_of_term field (last_of l o.base))
operand_apart field l o k s x iso isk e g = operand_apart_at field l o.base k s x isk e g

only_operand : (field : Bool) (l : Last) (t : MarkedToken) (x : PieceList) (more : List MarkedToken) → (sign_of t ≡ signs.Functor → ⊥) → GoesOn field l x → spell_piece_list x ≡ t ∷ more → (k : (operand_first field l).Tree) × (operand_first field l).IsTree k × (x ≡ put_operand k)
only_operand field l t no_pieces more h is e = cc
only_operand field l t (more_pieces (FunctorPiece v m) ps) more h is e = absurd (h (sym (ap sign_of (head_of _ _ _ _ e)) ∙ sign_of-functor v m))
only_operand field l t (more_pieces (OperandPiece a b) ps) more h is e = ((record { prefixes = a; base = b }, ps), ((is.0.1, is.0.2, is.0.3), is.1), refl)

goes_base_on : (b : BaseData) (s : Sign) → goes_base b s ≡ true → goes_on_term s ≡ true
goes_base_on (IdentifierBase w) s g = ap goes_on_term (open_only s g)
goes_base_on (SelectorBase p w) s g = ap goes_on_term (of_only s g)
goes_base_on (SubjectBase a) s g = cc
goes_base_on (ArgumentBase a n) s g = cc
goes_base_on (GroupBase a b c) s g = cc
goes_base_on (CallBase a b c) s g = cc
goes_base_on (CallWithBase a b c d) s g = cc
goes_base_on (AggregateBase a b c d) s g = cc
goes_base_on (BracketsBase a b c) s g = cc
goes_base_on (BracesBase a b c) s g = cc
goes_base_on (SquaresBase a b c) s g = cc
goes_base_on (SetOfBase a b c d u h i j k) s g = cc
goes_base_on (ChoiceBase a b c) s g = cc
goes_base_on (ChoiceStructureBase a b c) s g = cc

-- a functor symbol may follow any operand, and end a term
abbrev pub some_functor : PieceList
some_functor = more_pieces (FunctorPiece (record { place = record { line = 0; column = 0 }; spelling = [] }) 0) no_pieces

pub turn_operand : (field : Bool) (l : Last) (t : MarkedToken) → MayTake l → begins_operand (sign_of t) ≡ true → (sign_of t ≡ signs.Functor → ⊥) → (o : OperandData) (w : List MarkedToken) → IsRest field false o → spell_operand o ≡ t ∷ w → Turns (rest_of_term field l) (operand_first field l) put_operand t
turn_operand field l t may begun differ o w is e = record {
  into = λ k are. ((may, are.0.0, are.0.1, are.0.2), are.1);
  spells = λ k are. refl;
  only = λ x more isx f. only_operand field l t x more differ isx f;
  empty = λ x isx f. operand_goes_on (sign_of t) begun;
  filled = λ k are f. operand_filled field k.0.prefixes k.0.base (spell_piece_list k.1) are.0.0 are.0.1 f;
  goes = λ k s are g. either (goes_on_term (sign_of s)) (goes_base k.0.base (sign_of s)) (is_empty (spell_piece_list k.1)) (goes_base_on k.0.base (sign_of s)) g;
  level = λ k is. refl;
  begins = ((o, some_functor), w ++ spell_piece_list some_functor, (is, (tt, tt)), ap (λ z. z ++ spell_piece_list some_functor) e);
}

-- A term is a run that isn't empty.
abbrev pub run_of : PieceList → TermData
run_of no_pieces = term_at (record { line = 0; column = 0 })
run_of (more_pieces p ps) = RunTerm p ps

run_into : (field : Bool) (ps : PieceList) → GoesOn field start ps → IsTerm field (run_of ps)
run_into field no_pieces is = absurd is
run_into field (more_pieces p ps) is = (is.0, is.1)

pub run_spells : (field : Bool) (ps : PieceList) → GoesOn field start ps → spell_term (run_of ps) ≡ spell_piece_list ps
run_spells field no_pieces is = absurd is
run_spells field (more_pieces p ps) is = refl

run_levels : (field : Bool) (ps : PieceList) → GoesOn field start ps → levels_term (run_of ps) ≡ levels_piece_list ps
run_levels field no_pieces is = absurd is
run_levels field (more_pieces p ps) is = refl

pub only_run : (field : Bool) (x : TermData) → IsTerm field x → (k : PieceList) × GoesOn field start k × (x ≡ run_of k)
only_run field (RunTerm p ps) is = (more_pieces p ps, (is.0, is.1), refl)

pub as_run : (field : Bool) (b : List MarkedToken) → Reshapes (term_form field) (rest_of_term field start) run_of b
as_run field b = record {
  into = λ k is. run_into field k is;
  spells = λ k is. run_spells field k is;
  only = λ x is agrees. only_run field x is;
  goes = λ k t is g. g;
  level = λ k is. run_levels field k is;
}

-- Terms are a term, and a chain of list commas.
next_spells : (field : Bool) (ps : List (Place × TermData)) → spell_next_term_list (next_terms ps) ≡ spell_chain (term_links field) ps
next_spells field [] = refl
next_spells field (p ∷ ps) = ap (λ z. list_comma p.0 ∷ (spell_term p.1 ++ z)) (next_spells field ps)

next_levels : (field : Bool) (ps : List (Place × TermData)) → levels_next_term_list (next_terms ps) ≡ levels_chain (term_links field) ps
next_levels field [] = refl
next_levels field (p ∷ ps) = ap (λ z. 0 ∷ (levels_term p.1 ++ z)) (next_levels field ps)

next_into : (field : Bool) (ps : List (Place × TermData)) → AreLinked (term_links field) tt ps → AreMoreTerms field (next_terms ps)
next_into field [] h = tt
next_into field (p ∷ ps) h = (h.1, next_into field ps h.2)

only_next : (field : Bool) (x : NextTermList) → AreMoreTerms field x → (ps : List (Place × TermData)) × AreLinked (term_links field) tt ps × (x ≡ next_terms ps)
only_next field no_next_terms h = ([], tt, refl)
only_next field (more_next_terms (NextNextTerm p t) ts) h = let k = only_next field ts h.1 in ((p, t) ∷ k.0, (tt, h.0, k.1), ap (λ z. more_next_terms (NextNextTerm p t) z) k.2)

abbrev pub some_terms : Bool → Form MarkedToken
some_terms field = then (term_form field) (λ _. more_terms field)

abbrev pub list_of : (TermData × List (Place × TermData)) → TermsData
list_of k = ListTerms k.0 (next_terms k.1)

pub only_list : (field : Bool) (x : TermsData) → AreTerms field x → (k : (some_terms field).Tree) × (some_terms field).IsTree k × (x ≡ list_of k)
only_list field (ListTerms t ts) is = let k = only_next field ts is.1 in ((t, k.0), (is.0, k.1), ap (λ z. ListTerms t z) k.2)

pub or_left : (a b : Bool) → a ≡ true → (a || b) ≡ true
or_left true b e = refl
or_left false b e = cc

pub as_list : (field : Bool) (b : List MarkedToken) → Reshapes (terms_form field) (some_terms field) list_of b
as_list field b = record {
  into = λ k is. (is.0, next_into field k.1 is.1);
  spells = λ k is. ap (λ z. spell_term k.0 ++ z) (next_spells field k.1);
  only = λ x is agrees. only_list field x is;
  goes = λ k t is g. either (goes_on_terms (sign_of t)) (goes_on_term (sign_of t)) (is_empty (spell_chain (term_links field) k.1)) (or_left (goes_on_term (sign_of t)) (is_list_comma (sign_of t))) g;
  level = λ k is. ap (λ z. levels_term k.0 ++ z) (next_levels field k.1);
}

-- list commas are told by their places, go on terms and on no term
pub linked_terms : (field : Bool) → Linked (term_links field)
linked_terms field = record {
  told = λ p q e. ap (λ t. t.token.place) e;
  weaker = λ x t is g. or_left (goes_on_term (sign_of t)) (is_list_comma (sign_of t)) g;
  on = λ p. ap goes_on_terms (sign_of-fixed signs.ListComma p refl);
  apart = λ x p is may g. no_comma (sym (ap goes_on_term (sign_of-fixed signs.ListComma p refl)) ∙ g);
}
  where
    no_comma : goes_on_term signs.ListComma ≡ true → ⊥
    no_comma h = cc

-- the first token of terms
pub term_begins : (field : Bool) (x : TermData) (v : List MarkedToken) (t : MarkedToken) (w : List MarkedToken) → IsTerm field x → spell_term x ++ v ≡ t ∷ w → goes_on_term (sign_of t) ≡ true
term_begins field (RunTerm (FunctorPiece u n) ps) v t w is e = let G : MarkedToken → Type 0 = λ z. goes_on_term (sign_of z) ≡ true in subst G (head_of _ _ _ _ e) (ap goes_on_term (sign_of-functor u n))
term_begins field (RunTerm (OperandPiece a b) ps) v t w is e = operand_goes_on (sign_of t) (operand_begins field a b (spell_piece_list ps ++ v) t w is.0.1 is.0.2 (sym (append_assoc (spell_prefix_list a ++ spell_base b) (spell_piece_list ps) v) ∙ e))

pub terms_begin : (field : Bool) (x : TermsData) (v : List MarkedToken) (t : MarkedToken) (w : List MarkedToken) → AreTerms field x → spell_terms x ++ v ≡ t ∷ w → goes_on_term (sign_of t) ≡ true
terms_begin field (ListTerms x xs) v t w is e = term_begins field x (spell_next_term_list xs ++ v) t w is.0 (sym (append_assoc (spell_term x) (spell_next_term_list xs) v) ∙ e)

pub term_filled : (field : Bool) (x : TermData) (v : List MarkedToken) → IsTerm field x → spell_term x ++ v ≡ [] → ⊥
term_filled field (RunTerm (FunctorPiece u n) ps) v is e = cc
term_filled field (RunTerm (OperandPiece a b) ps) v is e = operand_filled field a b (spell_piece_list ps ++ v) is.0.1 is.0.2 (sym (append_assoc (spell_prefix_list a ++ spell_base b) (spell_piece_list ps) v) ∙ e)

pub terms_filled : (field : Bool) (x : TermsData) (v : List MarkedToken) → AreTerms field x → spell_terms x ++ v ≡ [] → ⊥
terms_filled field (ListTerms x xs) v is e = term_filled field x (spell_next_term_list xs ++ v) is.0 (sym (append_assoc (spell_term x) (spell_next_term_list xs) v) ∙ e)

-- the parenthesis that closes at once
only_close : (field : Bool) (p : Place) (x : Arguments) (more : List MarkedToken) → AreArguments field x → spell_arguments x ≡ fixed signs.Close p ∷ more → (k : Unit {0}) × Unit {0} × (x ≡ no_arguments p)
only_close field p (no_arguments q) more is e = (tt, tt, ap (λ z. no_arguments z) (same_fixed signs.Close refl q p (head_of _ _ _ _ e)))
only_close field p (some_arguments ts q) more is e = absurd (clash (sym (ap goes_on_term (sign_of-fixed signs.Close p refl)) ∙ terms_begin field ts (special q (codes ")") ∷ []) (fixed signs.Close p) more is e))
  where
    clash : goes_on_term signs.Close ≡ true → ⊥
    clash h = cc

pub arguments_filled : (field : Bool) (x : Arguments) → AreArguments field x → spell_arguments x ≡ [] → ⊥
arguments_filled field (no_arguments q) is e = cc
arguments_filled field (some_arguments ts q) is e = terms_filled field ts (special q (codes ")") ∷ []) is e

pub by_close : (field : Bool) (p : Place) → Chooses (arguments field) (fixed signs.Close p) nothing (λ _. no_arguments p) 0
by_close field p = record {
  level = λ k is. refl;
  into = λ k is. tt;
  spells = λ k is. refl;
  only = λ x more is e. only_close field p x more is e;
  empty = λ x is e. absurd (arguments_filled field x is e);
  goes = λ k t is g. cc;
}
