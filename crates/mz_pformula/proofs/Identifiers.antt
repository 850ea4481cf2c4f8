-- An identifier begins a private predicate where a `[` stands behind it, and else terms.
use Rattle.std.proofs.Common.{◌≡◌, ℕ, Bool, true, false, ◌||◌, ◌&&◌, List, [], ◌∷◌, ◌++◌, refl, sym, ap, subst, ◌∙◌, append_assoc, get_or, Option, Some, None}
use Rattle.mz_base.specs.declared.place.Place.{Place}
use Rattle.mz_base.specs.declared.token.MarkedToken.{MarkedToken}
use Rattle.mz_forms.specs.Form.{Agrees, Leads, is_empty}
use Rattle.mz_forms.proofs.Compose.{head_of, tail_of}
use Rattle.mz_forms.proofs.Leads.{leads_look, leads_on}
use Rattle.mz_forms.proofs.Look.{Looks}
use Rattle.mz_tree.specs.declared.word.Word.{Word}
use Rattle.mz_tree.specs.Trees.{TermsData, BaseData, PieceList, NextTermList, RunTerm, FunctorPiece, OperandPiece, SelectorPrefix, ChoiceOfPrefix, ChoiceOverPrefix, ListTerms, NextNextTerm, no_pieces, more_pieces, no_prefixs, more_prefixs, no_next_terms, more_next_terms}
use Rattle.mz_tree.specs.Spell.{spell_base, spell_terms, spell_piece_list, spell_next_term_list, spell_unit}
use Rattle.mz_tree.specs.Levels.{levels_base, levels_terms, levels_piece_list, levels_next_term_list, levels_unit}
use Rattle.mz_tree.specs.Rules.{Last, start, operand, last_of, GoesOn, AreTerms, IsBase, IsUnit}
use Rattle.mz_pterm.specs.declared.sign.Sign.{Sign}
use Rattle.mz_pterm.specs.declared.sign.Sign.TheVariants as signs
use Rattle.mz_pterm.specs.Classes.{goes_on_terms}
use Rattle.mz_pterm.specs.Sign.{sign_of}
use Rattle.mz_pterm.specs.Words.{fixed, named, word_of}
use Rattle.mz_pterm.proofs.Signs.{told_fixed, told_named, sign_of-fixed, sign_of-functor}
use Rattle.mz_pterm.proofs.Bases.{Opens, identifier_opens, call_opens, call_with_opens, opens_as, base_filled}
use Rattle.mz_ptype.proofs.Optional.{never, true_not_false}
use Rattle.mz_patom.specs.Classes.{begins_term, goes_on_atom, is_identifier, is_open_square, private_next}
use Rattle.mz_patom.specs.Forms.{Opening, unit_opening, spell_opening, IsOpening, goes_opening, opening_form, maybe_terms_form, Tail, spell_tail, levels_tail, atom_form, make_atom, private_form, private_from, make_private}
use Rattle.mz_patom.proofs.Tails.{tail_first}
use Rattle.mz_pformula.proofs.Begun.{begun, leads_begun}
use Rattle.mz_pformula.proofs.Openings.{Begins, quantified_first, private_first, atom_first, opening_filled, join_is, join_spells, join_levels, join_goes}
use Rattle.mz_pformula.proofs.Second.{Seconds, leads_second}
use Rattle.mz_pformula.proofs.Units.{begins_as, some_atom, atom_on, begin_atom}
use Rattle.mz_pformula.proofs.Operators.{opens_other}

-- No `[` stands behind an identifier that begins terms.
after_name : (b : BaseData) (v : List MarkedToken) (t n : MarkedToken) (more : List MarkedToken) → sign_of n ≡ signs.OpenSquare → Opens signs.Identifier b → spell_base b ++ v ≡ t ∷ (n ∷ more) → (last_of start b ≡ operand) × (v ≡ n ∷ more)
after_name b v t n more h (identifier_opens w) e = (refl, tail_of _ _ _ _ e)
after_name b v t n more h (call_opens w p q) e = absurd (clash (sym (sign_of-fixed signs.Open p refl) ∙ (ap sign_of (head_of _ _ _ _ (tail_of _ _ _ _ e)) ∙ h)))
  where
    clash : signs.Open ≡ signs.OpenSquare → ⊥
    clash f = cc
after_name b v t n more h (call_with_opens w p ts q) e = absurd (clash (sym (sign_of-fixed signs.Open p refl) ∙ (ap sign_of (head_of _ _ _ _ (tail_of _ _ _ _ e)) ∙ h)))
  where
    clash : signs.Open ≡ signs.OpenSquare → ⊥
    clash f = cc

pub base_opens : (field : Bool) (s : Sign) (b : BaseData) (v : List MarkedToken) (t : MarkedToken) (more : List MarkedToken) → IsBase field b → sign_of t ≡ s → spell_base b ++ v ≡ t ∷ more → Opens s b
base_opens field s b v t more is h e = go (spell_base b) refl
  where
    go : (w : List MarkedToken) → spell_base b ≡ w → Opens s b
    go [] f = absurd (base_filled field b is f)
    go (r ∷ w) f = opens_as field s b r w (ap sign_of (head_of _ _ _ _ (sym (ap (λ z. z ++ v) f) ∙ e)) ∙ h) is f

no_piece : (field : Bool) (l : Last) (ps : PieceList) (z : List MarkedToken) (n : MarkedToken) (more : List MarkedToken) → l ≡ operand → GoesOn field l ps → sign_of n ≡ signs.OpenSquare → spell_piece_list ps ++ z ≡ n ∷ more → z ≡ n ∷ more
no_piece field l no_pieces z n more last is h e = e
no_piece field l (more_pieces (FunctorPiece w m) ps) z n more last is h e = absurd (clash (sym (sign_of-functor w m) ∙ (ap sign_of (head_of _ _ _ _ e) ∙ h)))
  where
    clash : signs.Functor ≡ signs.OpenSquare → ⊥
    clash f = cc
no_piece field l (more_pieces (OperandPiece a b) ps) z n more last is h e = absurd (let G : Last → Type 0 = λ z. GoesOn field z (more_pieces (OperandPiece a b) ps) in none (subst G last is))
  where
    none : GoesOn field operand (more_pieces (OperandPiece a b) ps) → ⊥
    none g = g.0.0

no_comma : (us : NextTermList) (z : List MarkedToken) (n : MarkedToken) (more : List MarkedToken) → sign_of n ≡ signs.OpenSquare → spell_next_term_list us ++ z ≡ n ∷ more → z ≡ n ∷ more
no_comma no_next_terms z n more h e = e
no_comma (more_next_terms (NextNextTerm p t) ts) z n more h e = absurd (clash (sym (sign_of-fixed signs.ListComma p refl) ∙ (ap sign_of (head_of _ _ _ _ e) ∙ h)))
  where
    clash : signs.ListComma ≡ signs.OpenSquare → ⊥
    clash f = cc

pub no_square : (field : Bool) (ts : TermsData) (k : Tail) (t n : MarkedToken) (more : List MarkedToken) → AreTerms field ts → sign_of t ≡ signs.Identifier → sign_of n ≡ signs.OpenSquare → spell_terms ts ++ spell_tail field k ≡ t ∷ (n ∷ more) → ⊥
no_square field (ListTerms (RunTerm (FunctorPiece w m) ps) us) k t n more is h g e = clash (sym (sign_of-functor w m) ∙ (ap sign_of (head_of _ _ _ _ e) ∙ h))
  where
    clash : signs.Functor ≡ signs.Identifier → ⊥
    clash f = cc
no_square field (ListTerms (RunTerm (OperandPiece (more_prefixs (SelectorPrefix p w q) vs) b) ps) us) k t n more is h g e = clash (sym (sign_of-fixed signs.The p refl) ∙ (ap sign_of (head_of _ _ _ _ e) ∙ h))
  where
    clash : signs.The ≡ signs.Identifier → ⊥
    clash f = cc
no_square field (ListTerms (RunTerm (OperandPiece (more_prefixs (ChoiceOfPrefix p v w q x) vs) b) ps) us) k t n more is h g e = is.0.0.1
no_square field (ListTerms (RunTerm (OperandPiece (more_prefixs (ChoiceOverPrefix p v w q x) vs) b) ps) us) k t n more is h g e = is.0.0.1
no_square field (ListTerms (RunTerm (OperandPiece no_prefixs b) ps) us) k t n more is h g e =
    let f : spell_base b ++ (spell_piece_list ps ++ (spell_next_term_list us ++ spell_tail field k)) ≡ t ∷ (n ∷ more) =
    sym (append_assoc (spell_base b) (spell_piece_list ps) (spell_next_term_list us ++ spell_tail field k)) ∙ (sym (append_assoc (spell_base b ++ spell_piece_list ps) (spell_next_term_list us) (spell_tail field k)) ∙ e) in
    let a = after_name b _ t n more g (base_opens field signs.Identifier b _ t (n ∷ more) is.0.0.2 h f) f in
    let p = no_piece field (last_of start b) ps _ n more a.0 is.0.1 g a.1 in
    not_on (sym (tail_first field k n more (no_comma us _ n more g p)) ∙ ap goes_on_terms g)
  where
    not_on : false ≡ true → ⊥
    not_on r = cc

-- A private predicate.
abbrev pub put_private : (Word × (Place × (Option TermsData × Place))) → Opening
put_private k = unit_opening (make_private k)

private_is : (field : Bool) (w : Word) (p : Place) (o : Option TermsData) (q : Place) → (maybe_terms_form field).IsTree o → IsUnit field (private_from w p o q)
private_is field w p None q is = tt
private_is field w p (Some ts) q is = is

pub private_back : (field : Bool) (w : Word) (p : Place) (o : Option TermsData) (q : Place) → IsUnit field (private_from w p o q) → (maybe_terms_form field).IsTree o
private_back field w p None q is = tt
private_back field w p (Some ts) q is = is

pub private_spells : (field : Bool) (w : Word) (p : Place) (o : Option TermsData) (q : Place) → spell_unit (private_from w p o q) ≡ named signs.Identifier w ∷ (fixed signs.OpenSquare p ∷ ((maybe_terms_form field).spell o ++ fixed signs.CloseSquare q ∷ []))
private_spells field w p None q = refl
private_spells field w p (Some ts) q = refl

private_levels : (field : Bool) (w : Word) (p : Place) (o : Option TermsData) (q : Place) → levels_unit (private_from w p o q) ≡ (private_form field).levels (w, (p, (o, q)))
private_levels field w p None q = refl
private_levels field w p (Some ts) q = refl

pub private_closed : (field : Bool) (k : (private_form field).Tree) (t : MarkedToken) → (private_form field).goes k t ≡ true → ⊥
private_closed field k t g = off (is_empty ((maybe_terms_form field).spell k.1.1.0 ++ fixed signs.CloseSquare k.1.1.1 ∷ [])) g
  where
    off : (b : Bool) → ((b && false) || false) ≡ true → ⊥
    off true e = cc
    off false e = cc

only_private : (field : Bool) (x : Opening) (t n : MarkedToken) (more : List MarkedToken) → sign_of t ≡ signs.Identifier → sign_of n ≡ signs.OpenSquare → IsOpening field x → spell_opening x ≡ t ∷ (n ∷ more) → Begins field signs.Identifier x → (k : (private_form field).Tree) × (private_form field).IsTree k × (x ≡ put_private k)
only_private field x t n more h m is e (private_first f w p o q) = ((w, (p, (o, q))), (tt, (tt, (private_back field w p o q is, tt))), refl)
only_private field x t n more h m is e (quantified_first f s q g) = cc
only_private field x t n more h m is e (atom_first f s ts k g i j) = absurd (no_square field ts k t n more i h m (sym (join_spells field ts k j) ∙ e))

-- an identifier alone is terms, on which a `[` may go
square_goes : (field : Bool) (x : Opening) (t n : MarkedToken) → sign_of n ≡ signs.OpenSquare → IsOpening field x → spell_opening x ≡ t ∷ [] → Begins field signs.Identifier x → goes_opening x (sign_of n) ≡ true
square_goes field x t n m is e (private_first f w p None q) = cc
square_goes field x t n m is e (private_first f w p (Some ts) q) = cc
square_goes field x t n m is e (quantified_first f s q g) = cc
square_goes field x t n m is e (atom_first f s ts k g i j) = join_goes ts k (sign_of n) (ap goes_on_atom m)

pub seconds_private : (field : Bool) (t n : MarkedToken) → sign_of t ≡ signs.Identifier → sign_of n ≡ signs.OpenSquare → Seconds (opening_form field) (private_form field) put_private t n
seconds_private field t n h m = record {
  into = λ k is. private_is field k.0 k.1.0 k.1.1.0 k.1.1.1 is.1.1.0;
  spells = λ k is. private_spells field k.0 k.1.0 k.1.1.0 k.1.1.1;
  only = λ x more is e. only_private field x t n more h m is e (begins_as field signs.Identifier x t (n ∷ more) h is e);
  short = λ x is e. square_goes field x t n m is e (begins_as field signs.Identifier x t [] h is e);
  empty = λ x is e. absurd (opening_filled field x is e);
  long = λ k is. (named signs.Identifier k.0, fixed signs.OpenSquare k.1.0, (maybe_terms_form field).spell k.1.1.0 ++ fixed signs.CloseSquare k.1.1.1 ∷ [], refl);
  goes = λ k s is g. absurd (private_closed field k s g);
  level = λ k is. private_levels field k.0 k.1.0 k.1.1.0 k.1.1.1;
  first = λ k is. refl;
  begins = (
    (word_of t, (n.token.place, (None, n.token.place))),
    fixed signs.CloseSquare n.token.place ∷ [],
    (tt, (tt, (tt, tt))),
    ap (λ z. z ∷ (fixed signs.OpenSquare n.token.place ∷ (fixed signs.CloseSquare n.token.place ∷ []))) (sym (told_named signs.Identifier t refl h)) ∙ ap (λ z. t ∷ (z ∷ (fixed signs.CloseSquare n.token.place ∷ []))) (sym (told_fixed signs.OpenSquare n refl m)),
  );
}

pub identifier_is : (s : Sign) → is_identifier s ≡ true → s ≡ signs.Identifier
identifier_is signs.Identifier e = refl
identifier_is _ e = cc

square_is : (s : Sign) → is_open_square s ≡ true → s ≡ signs.OpenSquare
square_is signs.OpenSquare e = refl
square_is _ e = cc

both_true : (p q : Bool) → (p && q) ≡ true → (p ≡ true) × (q ≡ true)
both_true true true e = (refl, refl)
both_true true false e = cc
both_true false q e = cc

pub begin_private : (field : Bool) (room : ℕ) (b : List MarkedToken) → private_next b ≡ true → Leads (opening_form field) (private_form field) room put_private b b
begin_private field room [] e = absurd (never e)
begin_private field room (t ∷ []) e = absurd (never e)
begin_private field room (t ∷ (n ∷ rest)) e =
    let k = both_true (is_identifier (sign_of t)) (is_open_square (sign_of n)) e in
    leads_second (opening_form field) (private_form field) put_private t n (seconds_private field t n (identifier_is (sign_of t) k.0) (square_is (sign_of n) k.1)) room (t ∷ (n ∷ rest)) rest refl

-- The first token of terms that begin with an identifier nests nothing.
base_at : (field : Bool) (b : BaseData) (t : MarkedToken) (v : List MarkedToken) → IsBase field b → sign_of t ≡ signs.Identifier → Agrees (t ∷ []) (spell_base b ++ v) → Opens signs.Identifier b
base_at field b t v is h agrees = go (spell_base b) refl
  where
    go : (w : List MarkedToken) → spell_base b ≡ w → Opens signs.Identifier b
    go [] f = absurd (base_filled field b is f)
    go (s ∷ w) f = let A : List MarkedToken → Type 0 = λ z. Agrees (t ∷ []) (z ++ v) in opens_as field signs.Identifier b s w (ap sign_of (subst A f agrees) ∙ h) is f

base_level : (b : BaseData) (ls : List ℕ) → Opens signs.Identifier b → get_or (levels_base b ++ ls) 0 0 ≡ 0
base_level b ls (identifier_opens w) = refl
base_level b ls (call_opens w p q) = refl
base_level b ls (call_with_opens w p ts q) = refl

atom_level : (field : Bool) (t : MarkedToken) (ts : TermsData) (k : Tail) → sign_of t ≡ signs.Identifier → AreTerms field ts → Agrees (t ∷ []) (spell_terms ts ++ spell_tail field k) → get_or (levels_terms ts ++ levels_tail field k) 0 0 ≡ 0
atom_level field t (ListTerms (RunTerm (FunctorPiece w m) ps) us) k h is agrees = refl
atom_level field t (ListTerms (RunTerm (OperandPiece (more_prefixs (SelectorPrefix p w q) vs) b) ps) us) k h is agrees = refl
atom_level field t (ListTerms (RunTerm (OperandPiece (more_prefixs (ChoiceOfPrefix p v w q x) vs) b) ps) us) k h is agrees = absurd is.0.0.1
atom_level field t (ListTerms (RunTerm (OperandPiece (more_prefixs (ChoiceOverPrefix p v w q x) vs) b) ps) us) k h is agrees = absurd is.0.0.1
atom_level field t (ListTerms (RunTerm (OperandPiece no_prefixs b) ps) us) k h is agrees =
    let A : List MarkedToken → Type 0 = λ z. Agrees (t ∷ []) z in
    let L : List ℕ → Type 0 = λ z. get_or z 0 0 ≡ 0 in
    let o = base_at field b t _ is.0.0.2 h (subst A (three (spell_base b) (spell_piece_list ps) (spell_next_term_list us) (spell_tail field k)) agrees) in
    subst L (sym (three (levels_base b) (levels_piece_list ps) (levels_next_term_list us) (levels_tail field k))) (base_level b _ o)
  where
    three : {X : Type 0} (a b c d : List X) → ((a ++ b) ++ c) ++ d ≡ a ++ (b ++ (c ++ d))
    three a b c d = append_assoc (a ++ b) c d ∙ append_assoc a b (c ++ d)

-- Terms behind whose identifier no `[` stands.
square : (p : Place) (rest more v : List MarkedToken) → more ≡ fixed signs.OpenSquare p ∷ v → Agrees rest more → Agrees rest (fixed signs.OpenSquare p ∷ [])
square p [] more v f g = let A : List MarkedToken → Type 0 = λ z. Agrees [] z in subst A f g
square p (s ∷ rest) more v f g = let A : List MarkedToken → Type 0 = λ z. Agrees (s ∷ rest) z in subst A f g

only_unsquared : (field : Bool) (x : Opening) (t : MarkedToken) (rest more : List MarkedToken) → ((p : Place) → Agrees rest (fixed signs.OpenSquare p ∷ []) → ⊥) → IsOpening field x → spell_opening x ≡ t ∷ more → Agrees rest more → Begins field signs.Identifier x →
    (k : (atom_form field).Tree) × (atom_form field).IsTree k × (x ≡ make_atom k)
only_unsquared field x t rest more n is e agrees (atom_first f r ts k g i j) = ((ts, k), (i, j), refl)
only_unsquared field x t rest more n is e agrees (quantified_first f r q g) = cc
only_unsquared field x t rest more n is e agrees (private_first f w p o q) = absurd (n p (square p rest more _ (sym (tail_of _ _ _ _ (sym (private_spells field w p o q) ∙ e))) agrees))

pub looks_atom : (field : Bool) (t : MarkedToken) (rest : List MarkedToken) → sign_of t ≡ signs.Identifier → ((p : Place) → Agrees rest (fixed signs.OpenSquare p ∷ []) → ⊥) → Looks (opening_form field) (begun (atom_form field) t) make_atom t rest
looks_atom field t rest h n = record {
  into = λ k is. join_is field k.0 k.1 is.0.0 is.0.1;
  spells = λ k is. join_spells field k.0 k.1 is.0.1;
  only = λ x more is e agrees. let k = only_unsquared field x t rest more n is e agrees (begins_as field signs.Identifier x t more h is e) in (k.0, (k.1, head k.0 x more k.1 k.2 e), k.2);
  empty = λ x is e. absurd (opening_filled field x is e);
  filled = λ k is e. opening_filled field (make_atom k) (join_is field k.0 k.1 is.0.0 is.0.1) (join_spells field k.0 k.1 is.0.1 ∙ e);
  goes = λ k s is g. atom_on field k s g;
  level = λ k is. join_levels field k.0 k.1 is.0.1;
  first = λ k is. atom_level field t k.0 k.1 h is.0.0 is.1;
  begins = let some = some_atom field t (ap begins_term h) in (some.0, some.1, (some.2, at (sym some.3)), some.3);
}
  where
    at : {w : List MarkedToken} {m : List MarkedToken} → t ∷ m ≡ w → Agrees (t ∷ []) w
    at {m = m} e = let A : List MarkedToken → Type 0 = λ z. Agrees (t ∷ []) z in subst A e refl

    head : (k : (atom_form field).Tree) (x : Opening) (more : List MarkedToken) → (atom_form field).IsTree k → x ≡ make_atom k → spell_opening x ≡ t ∷ more → Agrees (t ∷ []) ((atom_form field).spell k)
    head k x more is f e = at (sym e ∙ (ap spell_opening f ∙ join_spells field k.0 k.1 is.1))

-- no `[` comes next
square_comes : (n : MarkedToken) (p : Place) → fixed signs.OpenSquare p ≡ n → is_open_square (sign_of n) ≡ true
square_comes n p e = ap is_open_square (sym (ap sign_of e) ∙ sign_of-fixed signs.OpenSquare p refl)

unsquared : (t : MarkedToken) (rest : List MarkedToken) → sign_of t ≡ signs.Identifier → private_next (t ∷ rest) ≡ false → (p : Place) → Agrees rest (fixed signs.OpenSquare p ∷ []) → ⊥
unsquared t [] h e p agrees = agrees
unsquared t (n ∷ rest) h e p agrees = true_not_false (is_open_square (sign_of n)) (right (is_identifier (sign_of t)) _ (ap is_identifier h) e) (square_comes n p agrees)
  where
    right : (a b : Bool) → a ≡ true → (a && b) ≡ false → b ≡ false
    right true b f g = g
    right false b f g = cc

pub begin_named_atom : (field : Bool) (room : ℕ) (t : MarkedToken) (b rest : List MarkedToken) → sign_of t ≡ signs.Identifier → b ≡ t ∷ rest → private_next b ≡ false → Leads (opening_form field) (atom_form field) room make_atom b b
begin_named_atom field room t b rest h e n =
    let P : List MarkedToken → Type 0 = λ z. private_next z ≡ false in
    leads_on (opening_form field) (begun (atom_form field) t) (atom_form field) room make_atom (λ k. k) b b b
    (leads_look (opening_form field) (begun (atom_form field) t) make_atom t rest (looks_atom field t rest h (unsquared t rest h (subst P e n))) room b e)
    (leads_begun (atom_form field) t (some_atom field t (ap begins_term h)) rest room b e)

-- terms, where nothing else begins
pub begin_terms : (field : Bool) (room : ℕ) (t : MarkedToken) (b rest : List MarkedToken) → opens_other (sign_of t) ≡ false → private_next b ≡ false → b ≡ t ∷ rest → Leads (opening_form field) (atom_form field) room make_atom b b
begin_terms field room t b rest other off e = go (is_identifier (sign_of t)) refl
  where
    differ : is_identifier (sign_of t) ≡ false → sign_of t ≡ signs.Identifier → ⊥
    differ f h = true_not_false (is_identifier (sign_of t)) f (ap is_identifier h)

    go : (i : Bool) → is_identifier (sign_of t) ≡ i → Leads (opening_form field) (atom_form field) room make_atom b b
    go true f = begin_named_atom field room t b rest (identifier_is (sign_of t) f) e off
    go false f = begin_atom field room t b rest other (differ f) e
