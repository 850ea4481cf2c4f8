-- Two parts of formulas without formulas in them that spell the same tokens are equal.
use Rattle.std.proofs.Common.{◌≡◌, ℕ, suc, ◌<◌, ◌≤◌, Bool, true, false, List, [], ◌∷◌, ◌++◌, length, refl, sym, ap, subst, ◌∙◌, arith, Option, Some, None}
use Rattle.mz_base.specs.declared.place.Place.{Place}
use Rattle.mz_base.specs.declared.token.MarkedToken.{MarkedToken}
use Rattle.mz_forms.specs.Form.{Form, then, nested}
use Rattle.mz_forms.proofs.Compose.{head_of, tail_of}
use Rattle.mz_forms.proofs.Leads.{apart_closed}
use Rattle.mz_forms.proofs.One.{One, OneAt, Quiet, one_then, at_by, at_turn, at_same, at_token, one_from, one_class, one_nested}
use Rattle.mz_forms.proofs.OneRepeat.{one_maybe}
use Rattle.mz_tree.specs.declared.word.Word.{Word}
use Rattle.mz_tree.specs.Trees.{TermsData, AdjectiveData, GroupBase}
use Rattle.mz_tree.specs.Rules.{last_of, start}
use Rattle.mz_pterm.specs.declared.sign.Sign.{Sign}
use Rattle.mz_pterm.specs.declared.sign.Sign.TheVariants as signs
use Rattle.mz_pterm.specs.Sign.{sign_of}
use Rattle.mz_pterm.specs.Words.{is_fixed, fixed, is_named, named, word, name}
use Rattle.mz_pterm.specs.Forms.{rest_of_term, more_terms, terms_form}
use Rattle.mz_pterm.proofs.Signs.{same_fixed, same_named, sign_of-fixed, sign_of-named}
use Rattle.mz_pterm.proofs.Unique.{terms_one}
use Rattle.mz_ptype.specs.Classes.{begins_radix, is_preposition}
use Rattle.mz_ptype.specs.Forms.{adjective_list_form, preposition, behind_preposition, maybe_arguments, radix_sign, radix_symbol, radix_form}
use Rattle.mz_ptype.proofs.TypeSteps as types
use Rattle.mz_ptype.proofs.Unique.{list_one}
use Rattle.mz_patom.specs.Classes.{goes_on_atom}
use Rattle.mz_patom.specs.Forms.{Opening, opening_form, spell_opening, IsOpening, maybe_terms_form, Radix, IsPredicated, predicated, is_form, Tail, no_tail, relates, is_tail, spell_tail, IsTail, tail, join, atom_form, make_atom, with_group, behind_term, group_tail, predicate_form, closed_terms, square_terms, private_form}
use Rattle.mz_patom.proofs.Parts.{term_class, starts_terms, turn_radix, predicated_apart}
use Rattle.mz_patom.proofs.Tails.{by_relates, by_is, make_is, atom_apart, close_apart}
use Rattle.mz_patom.proofs.Groups.{more_apart, term_apart}
use Rattle.mz_pformula.proofs.Openings.{Begins, quantified_first, private_first, atom_first, join_spells, join_goes}
use Rattle.mz_pformula.proofs.Units.{begins_as, atom_on}
use Rattle.mz_pformula.proofs.Identifiers.{no_square, put_private, private_spells, private_back, private_closed}

pub words : (n : ℕ) (c : Sign) → is_fixed c ≡ true → One n (word c)
words n c fix = one_class n Place (fixed c) (same_fixed c fix)

pub names : (n : ℕ) (c : Sign) → is_named c ≡ true → One n (name c)
names n c fix = one_class n Word (named c) (same_named c fix)

pub size : (w : List MarkedToken) → (w ≡ [] → ⊥) → 1 ≤ length w
size [] h = absurd (h refl)
size (t ∷ w) h = omega arith

-- a word, and what stands behind it
pub one_word : (n : ℕ) (c : Sign) → is_fixed c ≡ true → (K : Place → Form MarkedToken) → ((p : Place) → One n (K p)) → One (suc n) (then (word c) K)
one_word n c fix K one = one_then (suc n) n (word c) K (apart_closed (word c) K (λ a t. refl)) (words (suc n) c fix) one (λ a l is h. omega arith)

pub one_opened : (n : ℕ) (c : Sign) → is_fixed c ≡ true → (K : Place → Form MarkedToken) → ((p : Place) → One n (K p)) → One (suc n) (then (nested (word c)) K)
one_opened n c fix K one = one_then (suc n) n (nested (word c)) K (apart_closed (nested (word c)) K (λ a t. refl)) (one_nested (suc n) (word c) (words (suc n) c fix)) one (λ a l is h. omega arith)

module _ (field : Bool) where
  -- what stands behind `is`
  behind_one : (structured : Bool) (n : ℕ) → One n (behind_preposition field structured)
  behind_one structured n = one_then n n (word (preposition structured)) (λ _. terms_form field) (apart_closed (word (preposition structured)) (λ _. terms_form field) (λ a t. refl)) (words n (preposition structured) (types.preposition_fixed structured)) (λ a. (terms_one field n).lists) (λ a l isa h. omega (arith, h))

  radix_one : (n : ℕ) → One n (radix_form field)
  radix_one n = one_then n n radix_symbol (λ r. maybe_arguments field r.0) (apart_closed radix_symbol (λ r. maybe_arguments field r.0) (λ a t. refl)) (one_class n (Bool × Word) types.symbol_token types.symbol_told)
      (λ r. one_maybe (behind_preposition field r.0) (λ t. is_preposition r.0 (sign_of t)) (types.starts_preposition field r.0) n (behind_one r.0 n)) (λ a l isa h. omega (arith, h))

  predicated_one : (n : ℕ) (ads : List AdjectiveData) → One n (predicated field ads)
  predicated_one n ads = one_from n (predicated field ads) (λ a b isa isb ea eb. none a ea ∙ sym (none b eb)) on at
    where
      begins : (k : Radix) (tok : MarkedToken) (m : List MarkedToken) → (radix_form field).spell k ≡ tok ∷ m → begins_radix (sign_of tok) ≡ true
      begins k tok m e = ap begins_radix (sym (ap sign_of (head_of _ _ _ _ e)) ∙ types.symbol_sign k.0) ∙ kind k.0.0
        where
          kind : (structured : Bool) → begins_radix (radix_sign structured) ≡ true
          kind true = refl
          kind false = refl

      none : (o : Option Radix) → (predicated field ads).spell o ≡ [] → o ≡ None
      none None e = refl
      none (Some k) e = cc

      on : (a b : Option Radix) (tok : MarkedToken) (m : List MarkedToken) → IsPredicated field ads a → IsPredicated field ads b → (predicated field ads).spell a ≡ [] → (predicated field ads).spell b ≡ tok ∷ m → (predicated field ads).goes a tok ≡ true
      on (Some k) b tok m isa isb ea eb = cc
      on None None tok m isa isb ea eb = cc
      on None (Some k) tok m isa isb ea eb = begins k tok m eb

      at : (o : Option Radix) (tok : MarkedToken) (m : List MarkedToken) → IsPredicated field ads o → (predicated field ads).spell o ≡ tok ∷ m → OneAt n (predicated field ads) tok
      at None tok m is e = cc
      at (Some k) tok m is e = at_turn n (predicated field ads) (radix_form field) Some tok (turn_radix field ads tok (begins k tok m e)) (radix_one n)

  is_one : (n : ℕ) → One n (is_form field)
  is_one n = one_then n n (adjective_list_form field) (predicated field) (predicated_apart field) (list_one field n) (predicated_one n) (λ a l isa h. omega (arith, h))

  -- what stands behind terms
  maybe_one : (n : ℕ) → One n (maybe_terms_form field)
  maybe_one n = one_maybe (terms_form field) term_class (starts_terms field) n (terms_one field n).lists

  tail_one : (n : ℕ) (ts : TermsData) → One (suc n) (tail field ts)
  tail_one n ts = one_from (suc n) (tail field ts) (λ a b isa isb ea eb. none a ea ∙ sym (none b eb)) (λ a b tok m isa isb ea eb. on b tok m eb) at
    where
      none : (k : Tail) → spell_tail field k ≡ [] → k ≡ no_tail
      none no_tail e = refl
      none (relates w o) e = cc
      none (is_tail p ads o) e = cc

      on : (k : Tail) (tok : MarkedToken) (m : List MarkedToken) → spell_tail field k ≡ tok ∷ m → goes_on_atom (sign_of tok) ≡ true
      on no_tail tok m e = cc
      on (relates w o) tok m e = ap goes_on_atom (sym (ap sign_of (head_of _ _ _ _ e)) ∙ sign_of-named signs.Predicate w refl)
      on (is_tail p ads o) tok m e = ap goes_on_atom (sym (ap sign_of (head_of _ _ _ _ e)) ∙ sign_of-fixed signs.Is p refl)

      at : (k : Tail) (tok : MarkedToken) (m : List MarkedToken) → IsTail field ts k → spell_tail field k ≡ tok ∷ m → OneAt (suc n) (tail field ts) tok
      at no_tail tok m is e = cc
      at (relates w o) tok m is e = at_token (suc n) (tail field ts) (named signs.Predicate w) tok (head_of _ _ _ _ e) (at_by n (tail field ts) (named signs.Predicate w) (maybe_terms_form field) (relates w) 0 (by_relates field ts w) (maybe_one n))
      at (is_tail p ads o) tok m is e = at_token (suc n) (tail field ts) (fixed signs.Is p) tok (head_of _ _ _ _ e) (at_by n (tail field ts) (fixed signs.Is p) (is_form field) (make_is p) 0 (by_is field ts p is.0) (is_one n))

  pub atom_one : (n : ℕ) → One (suc n) (atom_form field)
  atom_one n = one_then (suc n) (suc n) (terms_form field) (tail field) (atom_apart field) (terms_one field (suc n)).lists (tail_one n) (λ a l isa h. omega (arith, h))

  pub group_one : (n : ℕ) (p : Place) (ts : TermsData) (q : Place) → One (suc n) (group_tail field p ts q)
  group_one n p ts q = one_then (suc n) (suc n) (rest_of_term field (last_of start (GroupBase p ts q))) (behind_term field p ts q) (term_apart field p ts q) ((terms_one field (suc n)).runs (last_of start (GroupBase p ts q)))
      (λ ps. one_then (suc n) (suc n) (more_terms field) (λ us. tail field (with_group p ts q ps us)) (more_apart field p ts q ps) ((terms_one field (suc n)).chains tt) (λ us. tail_one n (with_group p ts q ps us)) (λ a l isa h. omega (arith, h))) (λ a l isa h. omega (arith, h))

  pub predicate_one : (n : ℕ) → One n (predicate_form field)
  predicate_one n = one_then n n (name signs.Predicate) (λ _. maybe_terms_form field) (apart_closed (name signs.Predicate) (λ _. maybe_terms_form field) (λ a t. refl)) (names n signs.Predicate refl) (λ a. maybe_one n) (λ a l isa h. omega (arith, h))

  -- a private predicate
  closing_one : (n : ℕ) → One n (closed_terms field)
  closing_one n = one_then n n (nested (maybe_terms_form field)) (λ _. word signs.CloseSquare) (close_apart field) (one_nested n (maybe_terms_form field) (maybe_one n)) (λ a. words n signs.CloseSquare refl) (λ a l isa h. omega (arith, h))

  private_one : (n : ℕ) → One n (private_form field)
  private_one n = one_then n n (name signs.Identifier) (λ _. square_terms field) (apart_closed (name signs.Identifier) (λ _. square_terms field) (λ a t. refl)) (names n signs.Identifier refl)
      (λ w. one_then n n (nested (word signs.OpenSquare)) (λ _. closed_terms field) (apart_closed (nested (word signs.OpenSquare)) (λ _. closed_terms field) (λ a t. refl)) (one_nested n (word signs.OpenSquare) (words n signs.OpenSquare refl)) (λ p. closing_one n) (λ a l isa h. omega (arith, h)))
      (λ a l isa h. omega (arith, h))

  -- A private predicate and terms don't begin the same tokens.
  differ : (u v : Opening) (t : MarkedToken) (x y k : List MarkedToken) (w : Word) (p : Place) (r : List MarkedToken) (ts : TermsData) (l : Tail) → (terms_form field).IsTree ts → IsTail field ts l → v ≡ join ts l → sign_of t ≡ signs.Identifier → spell_opening u ≡ named signs.Identifier w ∷ (fixed signs.OpenSquare p ∷ r) → spell_opening v ≡ t ∷ k →
      spell_opening u ++ x ≡ spell_opening v ++ y → Quiet (opening_form field) v y → ⊥
  differ u v t x y k w p r ts l is isl made h eu ev e quiet = go k ev
    where
      same : (k : List MarkedToken) → spell_opening v ≡ t ∷ k → fixed signs.OpenSquare p ∷ (r ++ x) ≡ k ++ y
      same k f = tail_of _ _ _ _ (ap (λ z. z ++ x) (sym eu) ∙ (e ∙ ap (λ z. z ++ y) f))

      at_end : (y : List MarkedToken) → fixed signs.OpenSquare p ∷ (r ++ x) ≡ y → Quiet (opening_form field) v y → ⊥
      at_end [] f q = cc
      at_end (s ∷ y) f q =
          let G : Opening → Type 0 = λ z. (opening_form field).goes z s ≡ false in
          on (subst G made q)
        where
          on : (opening_form field).goes (join ts l) s ≡ false → ⊥
          on g = clash (sym g ∙ join_goes ts l (sign_of s) (ap goes_on_atom (sym (ap sign_of (head_of _ _ _ _ f)) ∙ sign_of-fixed signs.OpenSquare p refl)))
            where
              clash : false ≡ true → ⊥
              clash z = cc

      go : (k : List MarkedToken) → spell_opening v ≡ t ∷ k → ⊥
      go [] f = at_end y (same [] f) quiet
      go (s ∷ k) f = no_square field ts l t s k is h (sym (ap sign_of (head_of _ _ _ _ (same (s ∷ k) f))) ∙ sign_of-fixed signs.OpenSquare p refl) (sym (join_spells field ts l isl) ∙ (sym (ap spell_opening made) ∙ f))

  pub identifier_at : (n : ℕ) (t : MarkedToken) → sign_of t ≡ signs.Identifier → OneAt (suc n) (opening_form field) t
  identifier_at n t h a b x y m k less isa isb ea eb e qa qb = both a b isa isb ea eb e qa qb less (begins_as field signs.Identifier a t m h isa ea) (begins_as field signs.Identifier b t k h isb eb)
    where
      both : (a b : Opening) → IsOpening field a → IsOpening field b → spell_opening a ≡ t ∷ m → spell_opening b ≡ t ∷ k → spell_opening a ++ x ≡ spell_opening b ++ y → Quiet (opening_form field) a x → Quiet (opening_form field) b y → length (spell_opening a) < suc n → Begins field signs.Identifier a → Begins field signs.Identifier b → a ≡ b
      both a b isa isb ea eb e qa qb less (quantified_first f s q g) v = cc
      both a b isa isb ea eb e qa qb less u (quantified_first f s q g) = cc
      both a b isa isb ea eb e qa qb less (private_first f w p o q) (private_first f' w' p' o' q') = at_same (suc n) (opening_form field) (private_form field) put_private (λ z is. private_spells field z.0 z.1.0 z.1.1.0 z.1.1.1) (λ z s is g. absurd (private_closed field z s g)) (private_one (suc n)) a b x y less
          ((w, (p, (o, q))), (tt, (tt, (private_back field w p o q isa, tt))), refl) ((w', (p', (o', q'))), (tt, (tt, (private_back field w' p' o' q' isb, tt))), refl) e qa qb
      both a b isa isb ea eb e qa qb less (atom_first f s ts l g i j) (atom_first f' s' ts' l' g' i' j') = at_same (suc n) (opening_form field) (atom_form field) make_atom (λ z is. join_spells field z.0 z.1 is.1) (λ z s is g. atom_on field z s g) (atom_one n) a b x y less
          ((ts, l), (i, j), refl) ((ts', l'), (i', j'), refl) e qa qb
      both a b isa isb ea eb e qa qb less (private_first f w p o q) (atom_first f' s' ts l g i j) = absurd (differ a b t x y k w p _ ts l i j refl h (private_spells field w p o q) eb e qb)
      both a b isa isb ea eb e qa qb less (atom_first f s ts l g i j) (private_first f' w p o q) = absurd (differ b a t y x m w p _ ts l i j refl h (private_spells field w p o q) ea (sym e) qa)
