-- The alternatives of a base, told by the sign of the first token.
use Rattle.std.specs.Prelude.{codes}
use Rattle.std.proofs.Common.{◌≡◌, ℕ, ◌≤◌, Bool, true, false, ◌||◌, ◌&&◌, List, [], ◌∷◌, ◌++◌, map, suc, refl, sym, ap, subst, ◌∙◌}
use Rattle.mz_base.specs.declared.place.Place.{Place}
use Rattle.mz_base.specs.declared.symbol_kind.SymbolKind.TheVariants as symbols
use Rattle.mz_forms.specs.Form.{Form, Agrees, is_empty, then, nested, nothing}
use Rattle.mz_forms.proofs.Compose.{Apart, head_of, append_nil}
use Rattle.mz_forms.proofs.Choose.{Chooses, Turns, Reshapes}
use Rattle.mz_base.specs.declared.token.MarkedToken.{MarkedToken}
use Rattle.mz_tree.specs.declared.word.Word.{Word}
use Rattle.mz_tree.specs.Spelled.{special, identifier, symbol, argument}
use Rattle.mz_tree.specs.Trees.{TermData, TermsData, BaseData, RunTerm, FunctorPiece, IdentifierBase, SubjectBase, ArgumentBase, GroupBase, CallBase, CallWithBase, SelectorBase, AggregateBase, BracketsBase, BracesBase, SquaresBase, SetOfBase, ChoiceBase, ChoiceStructureBase, ListTerms, no_pieces, no_next_terms, more_next_terms}
use Rattle.mz_tree.specs.Spell.{spell_base, spell_terms, spell_term}
use Rattle.mz_tree.specs.Levels.{levels_base, levels_term}
use Rattle.mz_tree.specs.Rules.{IsBase, is_several}
use Rattle.mz_pterm.specs.declared.sign.Sign.{Sign}
use Rattle.mz_pterm.specs.declared.sign.Sign.TheVariants as signs
use Rattle.mz_pterm.specs.Classes.{begins_operand, is_open, closes, goes_on_term, goes_on_terms}
use Rattle.mz_pterm.specs.Sign.{sign_of}
use Rattle.mz_pterm.specs.Words.{is_fixed, fixed, is_named, named, word_of, word, name}
use Rattle.mz_pterm.specs.Forms.{goes_base, base_form, IsAlone, terms_form, term_form, to_close, bracket, single, make_group, make_single, aggregate, make_aggregate, brackets, brackets_base, Arguments, no_arguments, some_arguments, arguments, AreArguments, spell_arguments, Call, no_call, call_with, call_form, spell_call, IsCall, goes_call, called}
use Rattle.mz_pterm.proofs.Signs.{told_fixed, told_named, sign_of-fixed, sign_of-named, sign_of-argument, same_fixed, same_named}

pub no_and : (b : Bool) → (b && false) ≡ true → ⊥
no_and true e = cc
no_and false e = cc

-- The sign of a base's first token tells its alternative.
pub data Opens : Sign → BaseData → Type 0 where
  identifier_opens : (w : Word) → Opens signs.Identifier (IdentifierBase w)
  call_opens : (w : Word) (p q : Place) → Opens signs.Identifier (CallBase w p q)
  call_with_opens : (w : Word) (p : Place) (ts : TermsData) (q : Place) → Opens signs.Identifier (CallWithBase w p ts q)
  it_opens : (p : Place) → Opens signs.It (SubjectBase p)
  argument_opens : (p : Place) (n : ℕ) → Opens (signs.Argument n) (ArgumentBase p n)
  group_opens : (p : Place) (ts : TermsData) (q : Place) → Opens signs.Open (GroupBase p ts q)
  selector_opens : (p : Place) (w : Word) → Opens signs.The (SelectorBase p w)
  aggregate_opens : (w : Word) (p : Place) (ts : TermsData) (q : Place) → Opens signs.Structure (AggregateBase w p ts q)
  brackets_opens : (w : Word) (ts : TermsData) (v : Word) → Opens signs.LeftBracket (BracketsBase w ts v)
  braces_opens : (p : Place) (ts : TermsData) (q : Place) → Opens signs.OpenBrace (BracesBase p ts q)
  squares_opens : (p : Place) (ts : TermsData) (q : Place) → Opens signs.OpenSquare (SquaresBase p ts q)

at_sign : (s : Sign) (x : BaseData) (m t : MarkedToken) → m ≡ t → sign_of m ≡ s → Opens s x → Opens (sign_of t) x
at_sign s x m t e f h = let S : Sign → Type 0 = λ z. Opens z x in subst S (sym f ∙ ap sign_of e) h

pub opens : (field : Bool) (x : BaseData) (t : MarkedToken) (w : List MarkedToken) → IsBase field x → spell_base x ≡ t ∷ w → Opens (sign_of t) x
opens field (IdentifierBase a) t w is e = at_sign signs.Identifier _ _ t (head_of _ _ _ _ e) (sign_of-named signs.Identifier a refl) (identifier_opens a)
opens field (SubjectBase a) t w is e = at_sign signs.It _ _ t (head_of _ _ _ _ e) (sign_of-fixed signs.It a refl) (it_opens a)
opens field (ArgumentBase a n) t w is e = at_sign (signs.Argument n) _ _ t (head_of _ _ _ _ e) (sign_of-argument a n is.0 is.1) (argument_opens a n)
opens field (GroupBase a b c) t w is e = at_sign signs.Open _ _ t (head_of _ _ _ _ e) (sign_of-fixed signs.Open a refl) (group_opens a b c)
opens field (CallBase a b c) t w is e = at_sign signs.Identifier _ _ t (head_of _ _ _ _ e) (sign_of-named signs.Identifier a refl) (call_opens a b c)
opens field (CallWithBase a b c d) t w is e = at_sign signs.Identifier _ _ t (head_of _ _ _ _ e) (sign_of-named signs.Identifier a refl) (call_with_opens a b c d)
opens field (SelectorBase a b) t w is e = at_sign signs.The _ _ t (head_of _ _ _ _ e) (sign_of-fixed signs.The a refl) (selector_opens a b)
opens field (AggregateBase a b c d) t w is e = at_sign signs.Structure _ _ t (head_of _ _ _ _ e) (sign_of-named signs.Structure a refl) (aggregate_opens a b c d)
opens field (BracketsBase a b c) t w is e = at_sign signs.LeftBracket _ _ t (head_of _ _ _ _ e) (sign_of-named signs.LeftBracket a refl) (brackets_opens a b c)
opens field (BracesBase a b c) t w is e = at_sign signs.OpenBrace _ _ t (head_of _ _ _ _ e) (sign_of-fixed signs.OpenBrace a refl) (braces_opens a b c)
opens field (SquaresBase a b c) t w is e = at_sign signs.OpenSquare _ _ t (head_of _ _ _ _ e) (sign_of-fixed signs.OpenSquare a refl) (squares_opens a b c)
opens field (SetOfBase a b c d u g h i j) t w is e = absurd is
opens field (ChoiceBase a b c) t w is e = absurd is
opens field (ChoiceStructureBase a b c) t w is e = absurd is

-- with the sign that the token has
pub opens_as : (field : Bool) (s : Sign) (x : BaseData) (t : MarkedToken) (w : List MarkedToken) → sign_of t ≡ s → IsBase field x → spell_base x ≡ t ∷ w → Opens s x
opens_as field s x t w h is e = let S : Sign → Type 0 = λ z. Opens z x in subst S h (opens field x t w is e)

pub base_filled : (field : Bool) (x : BaseData) → IsBase field x → spell_base x ≡ [] → ⊥
base_filled field (IdentifierBase a) is e = cc
base_filled field (SubjectBase a) is e = cc
base_filled field (ArgumentBase a n) is e = cc
base_filled field (GroupBase a b c) is e = cc
base_filled field (CallBase a b c) is e = cc
base_filled field (CallWithBase a b c d) is e = cc
base_filled field (SelectorBase a b) is e = cc
base_filled field (AggregateBase a b c d) is e = cc
base_filled field (BracketsBase a b c) is e = cc
base_filled field (BracesBase a b c) is e = cc
base_filled field (SquaresBase a b c) is e = cc
base_filled field (SetOfBase a b c d u g h i j) is e = absurd is
base_filled field (ChoiceBase a b c) is e = absurd is
base_filled field (ChoiceStructureBase a b c) is e = absurd is

pub opens_operand : (s : Sign) (x : BaseData) → Opens s x → begins_operand s ≡ true
opens_operand s x (identifier_opens w) = refl
opens_operand s x (call_opens w p q) = refl
opens_operand s x (call_with_opens w p ts q) = refl
opens_operand s x (it_opens p) = refl
opens_operand s x (argument_opens p n) = refl
opens_operand s x (group_opens p ts q) = refl
opens_operand s x (selector_opens p w) = refl
opens_operand s x (aggregate_opens w p ts q) = refl
opens_operand s x (brackets_opens w ts v) = refl
opens_operand s x (braces_opens p ts q) = refl
opens_operand s x (squares_opens p ts q) = refl

alone_not : (behind : Bool) (x : BaseData) → is_several x ≡ false → IsAlone behind x
alone_not true x e = e
alone_not false x e = tt

-- A term for the completion of what was read.
abbrev pub word_at : Place → Word
word_at p = record { place = p; spelling = [] }

abbrev pub term_at : Place → TermData
term_at p = RunTerm (FunctorPiece (word_at p) 0) no_pieces

abbrev pub terms_at : Place → TermsData
terms_at p = ListTerms (term_at p) no_next_terms

-- Terms up to a bracket that closes.
pub close_not_on : (c : Sign) → closes c ≡ true → goes_on_terms c ≡ false
close_not_on signs.Close e = refl
close_not_on signs.CloseAggregate e = refl
close_not_on signs.CloseBrace e = refl
close_not_on signs.CloseSquare e = refl
close_not_on _ e = cc

pub close_fixed : (c : Sign) → closes c ≡ true → is_fixed c ≡ true
close_fixed signs.Close e = refl
close_fixed signs.CloseAggregate e = refl
close_fixed signs.CloseBrace e = refl
close_fixed signs.CloseSquare e = refl
close_fixed _ e = cc

-- no token of the class begins behind what it doesn't go on
pub apart_word : (A : Form MarkedToken) (c : Sign) → is_fixed c ≡ true → ((a : A.Tree) (t : MarkedToken) → A.IsTree a → sign_of t ≡ c → A.goes a t ≡ true → ⊥) → Apart A (λ _. word c)
apart_word A c fix h a q s x isa isq e g = h a s isa (sym (ap sign_of (head_of _ _ _ _ e)) ∙ sign_of-fixed c q fix) g

pub apart_name : (A : Form MarkedToken) (c : Sign) → is_named c ≡ true → ((a : A.Tree) (t : MarkedToken) → A.IsTree a → sign_of t ≡ c → A.goes a t ≡ true → ⊥) → Apart A (λ _. name c)
apart_name A c fix h a q s x isa isq e g = h a s isa (sym (ap sign_of (head_of _ _ _ _ e)) ∙ sign_of-named c q fix) g

not_both : (b : Bool) → b ≡ false → b ≡ true → ⊥
not_both true e f = cc
not_both false e f = cc

pub terms_close : (field : Bool) (c : Sign) → closes c ≡ true → Apart (nested (terms_form field)) (λ _. word c)
terms_close field c e = apart_word (nested (terms_form field)) c (close_fixed c e) (λ a t isa h g. not_both (goes_on_terms c) (close_not_on c e) (sym (ap goes_on_terms h) ∙ g))

pub term_close : (field : Bool) → Apart (nested (term_form field)) (λ _. word signs.Close)
term_close field = apart_word (nested (term_form field)) signs.Close refl (λ a t isa h g. not_both (goes_on_term signs.Close) refl (sym (ap goes_on_term h) ∙ g))

pub terms_close_name : (field : Bool) → Apart (nested (terms_form field)) (λ _. name signs.RightBracket)
terms_close_name field = apart_name (nested (terms_form field)) signs.RightBracket refl (λ a t isa h g. not_both (goes_on_terms signs.RightBracket) refl (sym (ap goes_on_terms h) ∙ g))

bracket_closed : (field : Bool) (c : Sign) (ts : TermsData) (q : Place) → (false || (is_empty (spell_terms ts ++ fixed c q ∷ []) && false)) ≡ true → ⊥
bracket_closed field c ts q g = no_and (is_empty (spell_terms ts ++ fixed c q ∷ [])) g

-- `{`
abbrev pub make_braces : (Place × (TermsData × Place)) → BaseData
make_braces k = BracesBase k.0 k.1.0 k.1.1

only_braces : (field : Bool) (x : BaseData) → IsBase field x → Opens signs.OpenBrace x → (k : (bracket field signs.OpenBrace signs.CloseBrace).Tree) × (bracket field signs.OpenBrace signs.CloseBrace).IsTree k × (x ≡ make_braces k)
only_braces field x is (braces_opens p ts q) = ((p, (ts, q)), (tt, (is, tt)), refl)

pub turn_braces : (field behind : Bool) (t : MarkedToken) → sign_of t ≡ signs.OpenBrace → Turns (base_form field behind) (bracket field signs.OpenBrace signs.CloseBrace) make_braces t
turn_braces field behind t h = record {
  into = λ k is. (is.1.0, tt, alone_not behind (make_braces k) refl);
  spells = λ k is. refl;
  only = λ x more is e. only_braces field x is.0 (opens_as field signs.OpenBrace x t more h is.0 e);
  empty = λ x is e. absurd (base_filled field x is.0 e);
  filled = λ k is e. cc;
  goes = λ k s is g. absurd (bracket_closed field signs.CloseBrace k.1.0 k.1.1 g);
  level = λ k is. refl;
  begins = ((t.token.place, (terms_at t.token.place, t.token.place)), spell_terms (terms_at t.token.place) ++ fixed signs.CloseBrace t.token.place ∷ [], (tt, (((tt, tt), tt), tt)), ap (λ z. z ∷ (spell_terms (terms_at t.token.place) ++ fixed signs.CloseBrace t.token.place ∷ [])) (sym (told_fixed signs.OpenBrace t refl h)));
}

-- `[`
abbrev pub make_squares : (Place × (TermsData × Place)) → BaseData
make_squares k = SquaresBase k.0 k.1.0 k.1.1

only_squares : (field : Bool) (x : BaseData) → IsBase field x → Opens signs.OpenSquare x → (k : (bracket field signs.OpenSquare signs.CloseSquare).Tree) × (bracket field signs.OpenSquare signs.CloseSquare).IsTree k × (x ≡ make_squares k)
only_squares field x is (squares_opens p ts q) = ((p, (ts, q)), (tt, (is, tt)), refl)

pub turn_squares : (field behind : Bool) (t : MarkedToken) → sign_of t ≡ signs.OpenSquare → Turns (base_form field behind) (bracket field signs.OpenSquare signs.CloseSquare) make_squares t
turn_squares field behind t h = record {
  into = λ k is. (is.1.0, tt, alone_not behind (make_squares k) refl);
  spells = λ k is. refl;
  only = λ x more is e. only_squares field x is.0 (opens_as field signs.OpenSquare x t more h is.0 e);
  empty = λ x is e. absurd (base_filled field x is.0 e);
  filled = λ k is e. cc;
  goes = λ k s is g. absurd (bracket_closed field signs.CloseSquare k.1.0 k.1.1 g);
  level = λ k is. refl;
  begins = ((t.token.place, (terms_at t.token.place, t.token.place)), spell_terms (terms_at t.token.place) ++ fixed signs.CloseSquare t.token.place ∷ [], (tt, (((tt, tt), tt), tt)), ap (λ z. z ∷ (spell_terms (terms_at t.token.place) ++ fixed signs.CloseSquare t.token.place ∷ [])) (sym (told_fixed signs.OpenSquare t refl h)));
}

-- `(`
only_group : (field : Bool) (x : BaseData) → IsBase field x → Opens signs.Open x → (k : (bracket field signs.Open signs.Close).Tree) × (bracket field signs.Open signs.Close).IsTree k × (x ≡ make_group k)
only_group field x is (group_opens p ts q) = ((p, (ts, q)), (tt, (is, tt)), refl)

pub turn_group : (field : Bool) (t : MarkedToken) → sign_of t ≡ signs.Open → Turns (base_form field false) (bracket field signs.Open signs.Close) make_group t
turn_group field t h = record {
  into = λ k is. (is.1.0, tt, tt);
  spells = λ k is. refl;
  only = λ x more is e. only_group field x is.0 (opens_as field signs.Open x t more h is.0 e);
  empty = λ x is e. absurd (base_filled field x is.0 e);
  filled = λ k is e. cc;
  goes = λ k s is g. absurd (bracket_closed field signs.Close k.1.0 k.1.1 g);
  level = λ k is. refl;
  begins = ((t.token.place, (terms_at t.token.place, t.token.place)), spell_terms (terms_at t.token.place) ++ fixed signs.Close t.token.place ∷ [], (tt, (((tt, tt), tt), tt)), ap (λ z. z ∷ (spell_terms (terms_at t.token.place) ++ fixed signs.Close t.token.place ∷ [])) (sym (told_fixed signs.Open t refl h)));
}

-- `(` behind an `of`
only_single : (field : Bool) (x : BaseData) → IsBase field x → is_several x ≡ false → Opens signs.Open x → (k : (single field).Tree) × (single field).IsTree k × (x ≡ make_single k)
only_single field x is e (group_opens p (ListTerms t no_next_terms) q) = ((p, (t, q)), (tt, (is.0, tt)), refl)
only_single field x is e (group_opens p (ListTerms t (more_next_terms u us)) q) = cc

levels_single : (t : TermData) → 1 ∷ (map suc (levels_term t ++ []) ++ 0 ∷ []) ≡ 1 ∷ (map suc (levels_term t) ++ 0 ∷ [])
levels_single t = ap (λ z. 1 ∷ (map suc z ++ 0 ∷ [])) (append_nil (levels_term t))

spells_single : (p : Place) (t : TermData) (q : Place) → spell_base (make_single (p, (t, q))) ≡ special p (codes "(") ∷ (spell_term t ++ special q (codes ")") ∷ [])
spells_single p t q = ap (λ z. special p (codes "(") ∷ (z ++ special q (codes ")") ∷ [])) (append_nil (spell_term t))

pub turn_single : (field : Bool) (t : MarkedToken) → sign_of t ≡ signs.Open → Turns (base_form field true) (single field) make_single t
turn_single field t h = record {
  into = λ k is. ((is.1.0, tt), tt, refl);
  spells = λ k is. spells_single k.0 k.1.0 k.1.1;
  only = λ x more is e. only_single field x is.0 is.2 (opens_as field signs.Open x t more h is.0 e);
  empty = λ x is e. absurd (base_filled field x is.0 e);
  filled = λ k is e. cc;
  goes = λ k s is g. absurd (no_and (is_empty (spell_term k.1.0 ++ fixed signs.Close k.1.1 ∷ [])) g);
  level = λ k is. levels_single k.1.0;
  begins = ((t.token.place, (term_at t.token.place, t.token.place)), spell_term (term_at t.token.place) ++ fixed signs.Close t.token.place ∷ [], (tt, ((tt, tt), tt)), ap (λ z. z ∷ (spell_term (term_at t.token.place) ++ fixed signs.Close t.token.place ∷ [])) (sym (told_fixed signs.Open t refl h)));
}

-- a left bracket of an environment
only_brackets : (field : Bool) (x : BaseData) → IsBase field x → Opens signs.LeftBracket x → (k : (brackets field).Tree) × (brackets field).IsTree k × (x ≡ brackets_base k)
only_brackets field x is (brackets_opens w ts v) = ((w, (ts, v)), (tt, (is, tt)), refl)

pub turn_brackets : (field behind : Bool) (t : MarkedToken) → sign_of t ≡ signs.LeftBracket → Turns (base_form field behind) (brackets field) brackets_base t
turn_brackets field behind t h = record {
  into = λ k is. (is.1.0, tt, alone_not behind (brackets_base k) refl);
  spells = λ k is. refl;
  only = λ x more is e. only_brackets field x is.0 (opens_as field signs.LeftBracket x t more h is.0 e);
  empty = λ x is e. absurd (base_filled field x is.0 e);
  filled = λ k is e. cc;
  goes = λ k s is g. absurd (no_and (is_empty (spell_terms k.1.0 ++ named signs.RightBracket k.1.1 ∷ [])) g);
  level = λ k is. refl;
  begins = ((word_of t, (terms_at t.token.place, word_of t)), spell_terms (terms_at t.token.place) ++ named signs.RightBracket (word_of t) ∷ [], (tt, (((tt, tt), tt), tt)), ap (λ z. z ∷ (spell_terms (terms_at t.token.place) ++ named signs.RightBracket (word_of t) ∷ [])) (sym (told_named signs.LeftBracket t refl h)));
}

-- a structure's aggregate
only_aggregate : (field : Bool) (w : Word) (x : BaseData) (more : List MarkedToken) → IsBase field x → spell_base x ≡ symbol symbols.Structure w ∷ more → Opens signs.Structure x → (k : (aggregate field).Tree) × (aggregate field).IsTree k × (x ≡ make_aggregate w k)
only_aggregate field w x more is e (aggregate_opens v p ts q) = ((p, (ts, q)), (tt, (is, tt)), ap (λ z. AggregateBase z p ts q) (same_named signs.Structure refl v w (head_of _ _ _ _ e)))

pub by_structure : (field behind : Bool) (w : Word) → Chooses (base_form field behind) (symbol symbols.Structure w) (aggregate field) (make_aggregate w) 0
by_structure field behind w = record {
  level = λ k is. refl;
  into = λ k is. (is.1.0, tt, alone_not behind (make_aggregate w k) refl);
  spells = λ k is. refl;
  only = λ x more is e. only_aggregate field w x more is.0 e (opens_as field signs.Structure x (symbol symbols.Structure w) more (sign_of-named signs.Structure w refl) is.0 e);
  empty = λ x is e. absurd (base_filled field x is.0 e);
  goes = λ k s is g. absurd (bracket_closed field signs.CloseAggregate k.1.0 k.1.1 g);
}

-- `it`
only_it : (p : Place) (x : BaseData) (more : List MarkedToken) → spell_base x ≡ fixed signs.It p ∷ more → Opens signs.It x → (k : Unit {0}) × Unit {0} × (x ≡ SubjectBase p)
only_it p x more e (it_opens q) = (tt, tt, ap (λ z. SubjectBase z) (same_fixed signs.It refl q p (head_of _ _ _ _ e)))

pub by_it : (field behind : Bool) (p : Place) → Chooses (base_form field behind) (fixed signs.It p) nothing (λ _. SubjectBase p) 0
by_it field behind p = record {
  level = λ k is. refl;
  into = λ k is. (tt, tt, alone_not behind (SubjectBase p) refl);
  spells = λ k is. refl;
  only = λ x more is e. only_it p x more e (opens_as field signs.It x (fixed signs.It p) more (sign_of-fixed signs.It p refl) is.0 e);
  empty = λ x is e. absurd (base_filled field x is.0 e);
  goes = λ k s is g. cc;
}

-- `$1` to `$10`
only_argument : (p : Place) (n : ℕ) (x : BaseData) (more : List MarkedToken) → spell_base x ≡ argument p n ∷ more → Opens (signs.Argument n) x → (k : Unit {0}) × Unit {0} × (x ≡ ArgumentBase p n)
only_argument p n x more e (argument_opens q m) = (tt, tt, ap (λ z. ArgumentBase z m) (ap (λ t. t.token.place) (head_of _ _ _ _ e)))

pub by_argument : (field behind : Bool) (p : Place) (n : ℕ) → 1 ≤ n → n ≤ 10 → Chooses (base_form field behind) (argument p n) nothing (λ _. ArgumentBase p n) 0
by_argument field behind p n low high = record {
  level = λ k is. refl;
  into = λ k is. ((low, high), tt, alone_not behind (ArgumentBase p n) refl);
  spells = λ k is. refl;
  only = λ x more is e. only_argument p n x more e (opens_as field (signs.Argument n) x (argument p n) more (sign_of-argument p n low high) is.0 e);
  empty = λ x is e. absurd (base_filled field x is.0 e);
  goes = λ k s is g. cc;
}

-- an identifier, and what stands behind it
only_identifier : (field : Bool) (w : Word) (x : BaseData) (more : List MarkedToken) → IsBase field x → spell_base x ≡ identifier w ∷ more → Opens signs.Identifier x → (k : Call) × IsCall field k × (x ≡ called w k)
only_identifier field w x more is e (identifier_opens v) = (no_call, tt, ap (λ z. IdentifierBase z) (same_named signs.Identifier refl v w (head_of _ _ _ _ e)))
only_identifier field w x more is e (call_opens v p q) = (call_with p (no_arguments q), tt, ap (λ z. CallBase z p q) (same_named signs.Identifier refl v w (head_of _ _ _ _ e)))
only_identifier field w x more is e (call_with_opens v p ts q) = (call_with p (some_arguments ts q), is, ap (λ z. CallWithBase z p ts q) (same_named signs.Identifier refl v w (head_of _ _ _ _ e)))

called_into : (field behind : Bool) (w : Word) (k : Call) → IsCall field k → (base_form field behind).IsTree (called w k)
called_into field behind w no_call is = (tt, tt, alone_not behind (IdentifierBase w) refl)
called_into field behind w (call_with p (no_arguments q)) is = (tt, tt, alone_not behind (CallBase w p q) refl)
called_into field behind w (call_with p (some_arguments ts q)) is = (is, tt, alone_not behind (CallWithBase w p ts q) refl)

called_spells : (w : Word) (k : Call) → spell_base (called w k) ≡ identifier w ∷ spell_call k
called_spells w no_call = refl
called_spells w (call_with p (no_arguments q)) = refl
called_spells w (call_with p (some_arguments ts q)) = refl

called_levels : (field : Bool) (w : Word) (k : Call) → levels_base (called w k) ≡ 0 ∷ (call_form field).levels k
called_levels field w no_call = refl
called_levels field w (call_with p (no_arguments q)) = refl
called_levels field w (call_with p (some_arguments ts q)) = refl

called_goes : (w : Word) (k : Call) (s : Sign) → goes_call k s ≡ true → goes_base (called w k) s ≡ true
called_goes w no_call s g = g
called_goes w (call_with p (no_arguments q)) s g = g
called_goes w (call_with p (some_arguments ts q)) s g = g

pub by_identifier : (field behind : Bool) (w : Word) → Chooses (base_form field behind) (identifier w) (call_form field) (called w) 0
by_identifier field behind w = record {
  level = λ k is. called_levels field w k;
  into = λ k is. called_into field behind w k is;
  spells = λ k is. called_spells w k;
  only = λ x more is e. only_identifier field w x more is.0 e (opens_as field signs.Identifier x (identifier w) more (sign_of-named signs.Identifier w refl) is.0 e);
  empty = λ x is e. absurd (base_filled field x is.0 e);
  goes = λ k s is g. called_goes w k (sign_of s) g;
}

-- the parentheses of an application
abbrev pub parenthesized : Bool → Form MarkedToken
parenthesized field = then (nested (word signs.Open)) (λ _. arguments field)

abbrev pub make_call : (Place × Arguments) → Call
make_call k = call_with k.0 k.1

only_call : (field : Bool) (x : Call) (t : MarkedToken) (more : List MarkedToken) → IsCall field x → spell_call x ≡ t ∷ more → (k : (parenthesized field).Tree) × (parenthesized field).IsTree k × (x ≡ make_call k)
only_call field no_call t more is e = cc
only_call field (call_with p a) t more is e = ((p, a), (tt, is), refl)

call_empty : (x : Call) (t : MarkedToken) → sign_of t ≡ signs.Open → spell_call x ≡ [] → goes_call x (sign_of t) ≡ true
call_empty no_call t h e = ap is_open h
call_empty (call_with p a) t h e = cc

arguments_closed : (a : Arguments) → (false || (is_empty (spell_arguments a) && false)) ≡ true → ⊥
arguments_closed a g = no_and (is_empty (spell_arguments a)) g

pub turn_call : (field : Bool) (t : MarkedToken) → sign_of t ≡ signs.Open → Turns (call_form field) (parenthesized field) make_call t
turn_call field t h = record {
  into = λ k is. is.1;
  spells = λ k is. refl;
  only = λ x more is e. only_call field x t more is e;
  empty = λ x is e. call_empty x t h e;
  filled = λ k is e. cc;
  goes = λ k s is g. absurd (arguments_closed k.1 g);
  level = λ k is. refl;
  begins = ((t.token.place, no_arguments t.token.place), fixed signs.Close t.token.place ∷ [], (tt, tt), ap (λ z. z ∷ (fixed signs.Close t.token.place ∷ [])) (sym (told_fixed signs.Open t refl h)));
}

-- where the parenthesis doesn't close at once
only_some : (field : Bool) (b : List MarkedToken) → ((p : Place) → Agrees b (fixed signs.Close p ∷ []) → ⊥) → (x : Arguments) → AreArguments field x → Agrees b (spell_arguments x) → (k : (to_close field signs.Close).Tree) × (to_close field signs.Close).IsTree k × (x ≡ some_arguments k.0 k.1)
only_some field b h (no_arguments q) is agrees = absurd (h q agrees)
only_some field b h (some_arguments ts q) is agrees = ((ts, q), (is, tt), refl)

abbrev pub make_arguments : (TermsData × Place) → Arguments
make_arguments k = some_arguments k.0 k.1

pub as_arguments : (field : Bool) (b : List MarkedToken) → ((p : Place) → Agrees b (fixed signs.Close p ∷ []) → ⊥) → Reshapes (arguments field) (to_close field signs.Close) make_arguments b
as_arguments field b h = record {
  into = λ k is. is.0;
  spells = λ k is. refl;
  only = λ x is agrees. only_some field b h x is agrees;
  goes = λ k s is g. cc;
  level = λ k is. refl;
}
