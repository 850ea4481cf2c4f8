-- Two trees that spell the same tokens are equal: repeated and optional parts, and choices by more than the next token.
use Rattle.std.proofs.Common.{◌≡◌, ℕ, zero, suc, ◌+◌, ◌<◌, ◌≤◌, Bool, true, false, List, [], ◌∷◌, ◌++◌, refl, sym, ap, subst, ◌∙◌, append_assoc, length, arith, Option, Some, None}
use Rattle.mz_forms.specs.Form.{Form, Agrees, then}
use Rattle.mz_forms.specs.Repeat.{many, spell_all, AreAll, maybe, spell_maybe, IsMaybe}
use Rattle.mz_forms.proofs.Compose.{head_of, tail_of}
use Rattle.mz_forms.proofs.Choose.{agrees_self}
use Rattle.mz_forms.proofs.Look.{Looks}
use Rattle.mz_forms.proofs.Lists.{Repeats, pair, put, pair_apart, turn_pair}
use Rattle.mz_forms.proofs.Maybe.{Starts, turn_some}
use Rattle.mz_forms.proofs.One.{One, OneAt, Quiet, one_then, at_turn, at_same, at_token, one_from}

module _ {Token : Type 0} where
  filled_size : (w : List Token) → (w ≡ [] → ⊥) → 1 ≤ length w
  filled_size [] h = absurd (h refl)
  filled_size (t ∷ w) h = omega arith

  -- Lists are equal where members are.
  pub one_many : (X : Form Token) (begins goes : Token → Bool) (by : Repeats X begins goes) (n : ℕ) → One (suc n) X → One n (many X goes) → One (suc n) (many X goes)
  one_many X begins goes by n members lists = one_from (suc n) (many X goes) (λ a b isa isb ea eb. none a isa ea ∙ sym (none b isb eb)) (λ a b tok m isa isb ea eb. on b tok m isb eb) at
    where
      none : (xs : List X.Tree) → AreAll X xs → spell_all X xs ≡ [] → xs ≡ []
      none [] is e = refl
      none (x ∷ xs) is e = absurd (by.filled x is.0 (left (X.spell x) (spell_all X xs) e))
        where
          left : (v w : List Token) → v ++ w ≡ [] → v ≡ []
          left [] w f = refl
          left (s ∷ v) w f = cc

      first : (x : X.Tree) (xs : List X.Tree) (tok : Token) (m : List Token) → X.IsTree x → X.spell x ++ spell_all X xs ≡ tok ∷ m → (w : List Token) × (X.spell x ≡ tok ∷ w)
      first x xs tok m is e = go (X.spell x) refl
        where
          go : (w : List Token) → X.spell x ≡ w → (w : List Token) × (X.spell x ≡ tok ∷ w)
          go [] f = absurd (by.filled x is f)
          go (s ∷ w) f = let g : s ∷ (w ++ spell_all X xs) ≡ tok ∷ m = ap (λ z. z ++ spell_all X xs) (sym f) ∙ e in (w, f ∙ ap (λ z. z ∷ w) (head_of _ _ _ _ g))

      on : (xs : List X.Tree) (tok : Token) (m : List Token) → AreAll X xs → spell_all X xs ≡ tok ∷ m → goes tok ≡ true
      on [] tok m is e = cc
      on (x ∷ xs) tok m is e = let f = first x xs tok m is.0 e in by.on tok (by.first x tok f.0 is.0 f.1)

      at : (xs : List X.Tree) (tok : Token) (m : List Token) → AreAll X xs → spell_all X xs ≡ tok ∷ m → OneAt (suc n) (many X goes) tok
      at [] tok m is e = cc
      at (x ∷ xs) tok m is e =
          let f = first x xs tok m is.0 e in
          at_turn (suc n) (many X goes) (pair X begins goes by) (put X begins goes by) tok (turn_pair X begins goes by tok (by.first x tok f.0 is.0 f.1) (x, f.0, is.0, f.1))
          (one_then (suc n) n X (λ _. many X goes) (pair_apart X begins goes by) members (λ _. lists) (λ a l isa h. omega (arith, h, filled_size (X.spell a) (by.filled a isa))))

  -- Optional trees are equal where trees are.
  pub one_maybe : (X : Form Token) (begins : Token → Bool) (by : Starts X begins) (n : ℕ) → One n X → One n (maybe X begins)
  one_maybe X begins by n one = one_from n (maybe X begins) (λ a b isa isb ea eb. none a isa ea ∙ sym (none b isb eb)) (λ a b tok m isa isb ea eb. on a b tok m isa isb ea eb) at
    where
      none : (o : Option X.Tree) → IsMaybe X o → spell_maybe X o ≡ [] → o ≡ None
      none None is e = refl
      none (Some x) is e = absurd (by.filled x is e)

      on : (a b : Option X.Tree) (tok : Token) (m : List Token) → IsMaybe X a → IsMaybe X b → spell_maybe X a ≡ [] → spell_maybe X b ≡ tok ∷ m → (maybe X begins).goes a tok ≡ true
      on (Some x) b tok m isa isb ea eb = absurd (by.filled x isa ea)
      on None None tok m isa isb ea eb = cc
      on None (Some y) tok m isa isb ea eb = by.first y tok m isb eb

      at : (o : Option X.Tree) (tok : Token) (m : List Token) → IsMaybe X o → spell_maybe X o ≡ tok ∷ m → OneAt n (maybe X begins) tok
      at None tok m is e = cc
      at (Some x) tok m is e = at_turn n (maybe X begins) X Some tok (turn_some X begins by tok (by.first x tok m is e) (x, m, is, e)) one

  -- A shape that all tokens behind the first one select.
  pub record Shape (n : ℕ) (X : Form Token) (tok : Token) (rest : List Token) : Type 1 where
    pub S : Form Token
    pub build : S.Tree → X.Tree
    pub looks : Looks X S build tok rest
    pub one : One n S

  agrees_with : (w m k x y : List Token) → w ≡ m ++ x → m ++ x ≡ k ++ y → Agrees w k
  agrees_with w m k x y e f = let A : List Token → Type 0 = λ z. Agrees z k in subst A (sym (e ∙ f)) (agrees_self k y)

  pub at_look : (n : ℕ) (X : Form Token) (tok : Token) → ((rest : List Token) → Shape n X tok rest) → OneAt n X tok
  at_look n X tok shape a b x y m k less isa isb ea eb e qa qb =
      let s = shape (m ++ x) in
      let f : m ++ x ≡ k ++ y = tail_of tok tok _ _ (ap (λ z. z ++ x) (sym ea) ∙ (e ∙ ap (λ z. z ++ y) eb)) in
      at_same n X s.S s.build s.looks.spells s.looks.goes s.one a b x y less (s.looks.only a m isa ea (agrees_self m x)) (s.looks.only b k isb eb (agrees_with (m ++ x) m k x y refl f)) e qa qb
