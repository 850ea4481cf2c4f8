-- Units without formulas in them: behind which of them a list comma begins a longer one.
use Rattle.std.specs.Prelude.{is_some}
use Rattle.std.proofs.Common.{◌≡◌, ℕ, suc, ◌<◌, Bool, true, false, List, [], ◌∷◌, ◌++◌, length, refl, sym, ap, ◌∙◌, arith, Option, Some, None}
use Rattle.std.proofs.lemmas.Bool.{false≢true}
use Rattle.mz_base.specs.declared.place.Place.{Place}
use Rattle.mz_base.specs.declared.token.MarkedToken.{MarkedToken}
use Rattle.mz_forms.specs.Form.{nested}
use Rattle.mz_forms.proofs.Compose.{head_of, tail_of, append_nil}
use Rattle.mz_forms.proofs.Leads.{apart_closed}
use Rattle.mz_forms.proofs.One.{One, one_then, one_nested}
use Rattle.mz_forms.proofs.OneRepeat.{one_maybe}
use Rattle.mz_tree.specs.declared.word.Word.{Word}
use Rattle.mz_tree.specs.Trees.{TermsData, AdjectiveData, GroupBase, PieceList}
use Rattle.mz_tree.specs.Spell.{spell_terms}
use Rattle.mz_tree.specs.Rules.{AreTerms, ends_in_terms, last_of, start}
use Rattle.mz_tree_heading.specs.Rules.{unit_ends_in_terms}
use Rattle.mz_pterm.specs.declared.sign.Sign.TheVariants as signs
use Rattle.mz_pterm.specs.Sign.{sign_of}
use Rattle.mz_pterm.specs.Words.{fixed, named, word, name}
use Rattle.mz_pterm.specs.Forms.{rest_of_term, more_terms, terms_form}
use Rattle.mz_pterm.proofs.Signs.{sign_of-fixed, sign_of-named}
use Rattle.mz_pterm.proofs.Unique.{terms_one}
use Rattle.mz_ptype.specs.Classes.{begins_adjective}
use Rattle.mz_ptype.specs.Forms.{adjective_list_form, preposition, radix_sign, radix_form, type_of_parts}
use Rattle.mz_ptype.proofs.TypeSteps as types
use Rattle.mz_ptype.proofs.Unique.{list_one}
use Rattle.mz_patom.specs.Classes.{begins_term}
use Rattle.mz_patom.specs.Forms.{Opening, unit_opening, terms_opening, spell_opening, IsOpening, opening_form, maybe_terms_form, Radix, predicated, is_form, Tail, no_tail, relates, is_tail, spell_tail, IsTail, tail, join, atom_form, make_atom, with_group, behind_term, group_tail, make_group_tail, predicate_form, predicate_from, closed_terms, square_terms, private_form}
use Rattle.mz_patom.proofs.Parts.{term_class, terms_first, starts_terms, predicated_apart}
use Rattle.mz_patom.proofs.Tails.{by_relates, by_is, make_is, atom_apart, close_apart}
use Rattle.mz_patom.proofs.Groups.{more_apart, term_apart}
use Rattle.mz_pformula.proofs.Openings.{Begins, quantified_first, private_first, atom_first, join_spells}
use Rattle.mz_pformula.proofs.Units.{begins_as, put_predicate}
use Rattle.mz_pformula.proofs.Identifiers.{no_square, put_private, private_spells, private_back, private_closed}
use Rattle.mz_pformula.proofs.Unique.{words, names}
use Rattle.mz_comma_laws.proofs.OnlyBehind.{OnlyBehind, OnlyAt, excluded, one_token, behind_then, behind_same, only_by, only_from, only_token}

-- A list of terms stands last.
abbrev pub opening_ends : Opening → Bool
opening_ends (unit_opening u) = unit_ends_in_terms u
opening_ends (terms_opening ts) = true

abbrev radix_ends : Radix → Bool
radix_ends k = is_some k.1

abbrev predicated_ends : Option Radix → Bool
predicated_ends None = false
predicated_ends (Some k) = radix_ends k

abbrev tail_ends : Tail → Bool
tail_ends no_tail = true
tail_ends (relates w o) = is_some o
tail_ends (is_tail p ads o) = predicated_ends o

pub no_nil : (t : MarkedToken) (x : List MarkedToken) → [] ≡ t ∷ x → ⊥
no_nil t x e = cc

type_ends : (ads : List AdjectiveData) (k : Radix) → radix_ends k ≡ true → ends_in_terms (type_of_parts ads k) ≡ true
type_ends ads ((false, w), None) g = cc
type_ends ads ((true, w), None) g = cc
type_ends ads ((false, w), Some a) g = refl
type_ends ads ((true, w), Some a) g = refl

join_ends : (ts : TermsData) (k : Tail) → tail_ends k ≡ true → opening_ends (join ts k) ≡ true
join_ends ts no_tail g = refl
join_ends ts (relates w None) g = cc
join_ends ts (relates w (Some us)) g = refl
join_ends ts (is_tail p ads None) g = cc
join_ends ts (is_tail p ads (Some k)) g = type_ends ads k g

empty_tail : (field : Bool) (k : Tail) → spell_tail field k ≡ [] → k ≡ no_tail
empty_tail field no_tail e = refl
empty_tail field (relates w o) e = cc
empty_tail field (is_tail p ads o) e = cc

right_nil : (v w : List MarkedToken) → v ++ w ≡ [] → w ≡ []
right_nil [] w f = f
right_nil (s ∷ v) w f = cc

module _ (field : Bool) (tok : MarkedToken) (comma : sign_of tok ≡ signs.ListComma) where
  no_terms : (ts : TermsData) (m : List MarkedToken) → AreTerms field ts → spell_terms ts ≡ tok ∷ m → ⊥
  no_terms ts m is e = false≢true (sym (ap begins_term comma) ∙ terms_first field ts [] tok m is (append_nil (spell_terms ts) ∙ e))

  -- terms or nothing
  maybe_behind : (n : ℕ) → OnlyBehind tok n (maybe_terms_form field) is_some
  maybe_behind n (Some ts) b more less isa isb e = refl
  maybe_behind n None None more less isa isb e = absurd (no_nil tok more e)
  maybe_behind n None (Some us) more less isa isb e = absurd (no_terms us more isb e)

  -- a mode or a structure
  no_preposition : (structured : Bool) (p : Place) → sign_of (fixed (preposition structured) p) ≡ signs.ListComma → ⊥
  no_preposition false p e = clash (sym (sign_of-fixed signs.Of p refl) ∙ e)
    where
      clash : signs.Of ≡ signs.ListComma → ⊥
      clash f = cc
  no_preposition true p e = clash (sym (sign_of-fixed signs.Over p refl) ∙ e)
    where
      clash : signs.Over ≡ signs.ListComma → ⊥
      clash f = cc

  radix_behind : (n : ℕ) → OnlyBehind tok n (radix_form field) radix_ends
  radix_behind n (r, Some x) b more less isa isb e = refl
  radix_behind n (r, None) (q, None) more less isa isb e = absurd (no_nil tok more (tail_of _ _ _ _ e))
  radix_behind n (r, None) (q, Some y) more less isa isb e = absurd (no_preposition q.0 y.0 (ap sign_of (head_of _ _ _ _ (tail_of _ _ _ _ e)) ∙ comma))

  no_radix : (structured : Bool) → radix_sign structured ≡ signs.ListComma → ⊥
  no_radix false e = cc
  no_radix true e = cc

  predicated_behind : (n : ℕ) (ads : List AdjectiveData) → OnlyBehind tok n (predicated field ads) predicated_ends
  predicated_behind n ads None None more less isa isb e = absurd (no_nil tok more e)
  predicated_behind n ads None (Some k) more less isa isb e = absurd (no_radix k.0.0 (sym (types.symbol_sign k.0) ∙ (ap sign_of (head_of _ _ _ _ e) ∙ comma)))
  predicated_behind n ads (Some k) None more less isa isb e = absurd (no_nil _ _ e)
  predicated_behind n ads (Some k) (Some l) more less isa isb e = radix_behind n k l more less isa isb e

  is_behind : (n : ℕ) → OnlyBehind tok n (is_form field) (λ k. predicated_ends k.1)
  is_behind n = behind_then tok n n (adjective_list_form field) (predicated field) (λ k. predicated_ends k.1) (λ ads k. predicated_ends k) (predicated_apart field) (list_one field n)
      (λ a b k more less isa isb isk f e. absurd (false≢true (excluded tok n (adjective_list_form field) (λ _. false) (list_one field n) (λ z isz. ap begins_adjective comma) a b more less isa isb e)))
      (predicated_behind n) (λ a k isa isk g. g) (λ a l isa h. omega (arith, h))

  -- what stands behind terms
  tail_behind : (n : ℕ) (ts : TermsData) → OnlyBehind tok (suc n) (tail field ts) tail_ends
  tail_behind n ts = only_from tok (suc n) (tail field ts) tail_ends (λ a b more isa isb ea eb. ap tail_ends (empty_tail field a ea)) at
    where
      at : (k : Tail) (t : MarkedToken) (m : List MarkedToken) → IsTail field ts k → spell_tail field k ≡ t ∷ m → OnlyAt tok (suc n) (tail field ts) t tail_ends
      at no_tail t m is e = cc
      at (relates w o) t m is e = only_token tok (suc n) (tail field ts) tail_ends (named signs.Predicate w) t (head_of _ _ _ _ e) (only_by tok n (tail field ts) (named signs.Predicate w) (maybe_terms_form field) (relates w) 0 tail_ends is_some (by_relates field ts w) (λ k isk g. g) (maybe_behind n))
      at (is_tail p ads o) t m is e = only_token tok (suc n) (tail field ts) tail_ends (fixed signs.Is p) t (head_of _ _ _ _ e) (only_by tok n (tail field ts) (fixed signs.Is p) (is_form field) (make_is p) 0 tail_ends (λ k. predicated_ends k.1) (by_is field ts p is.0) (λ k isk g. g) (is_behind n))

  pub atom_behind : (n : ℕ) → OnlyBehind tok (suc n) (atom_form field) (λ k. opening_ends (make_atom k))
  atom_behind n = behind_then tok (suc n) (suc n) (terms_form field) (tail field) (λ k. opening_ends (make_atom k)) (λ ts k. tail_ends k) (atom_apart field) (terms_one field (suc n)).lists
      (λ a b k more less isa isb isk f e. ap (λ z. opening_ends (join a z)) (empty_tail field k f))
      (tail_behind n) (λ a k isa isk g. join_ends a k g) (λ a l isa h. omega (arith, h))

  pub group_behind : (n : ℕ) (p : Place) (ts : TermsData) (q : Place) → OnlyBehind tok (suc n) (group_tail field p ts q) (λ k. opening_ends (make_group_tail p ts q k))
  group_behind n p ts q = behind_then tok (suc n) (suc n) (rest_of_term field (last_of start (GroupBase p ts q))) (behind_term field p ts q) (λ k. opening_ends (make_group_tail p ts q k)) (λ ps k. opening_ends (make_group_tail p ts q (ps, k))) (term_apart field p ts q) ((terms_one field (suc n)).runs (last_of start (GroupBase p ts q)))
      (λ a b k more less isa isb isk f e. ap (λ z. opening_ends (join (with_group p ts q a k.0) z)) (empty_tail field k.1 (right_nil ((more_terms field).spell k.0) (spell_tail field k.1) f)))
      behind (λ a k isa isk g. g) (λ a l isa h. omega (arith, h))
    where
      behind : (ps : PieceList) → OnlyBehind tok (suc n) (behind_term field p ts q ps) (λ k. opening_ends (make_group_tail p ts q (ps, k)))
      behind ps = behind_then tok (suc n) (suc n) (more_terms field) (λ us. tail field (with_group p ts q ps us)) (λ k. opening_ends (make_group_tail p ts q (ps, k))) (λ us k. tail_ends k) (more_apart field p ts q ps) ((terms_one field (suc n)).chains tt)
          (λ a b k more less isa isb isk f e. ap (λ z. opening_ends (join (with_group p ts q ps a) z)) (empty_tail field k f))
          (λ us. tail_behind n (with_group p ts q ps us)) (λ a k isa isk g. join_ends (with_group p ts q ps a) k g) (λ a l isa h. omega (arith, h))

  -- a predicate symbol with nothing before it
  pub predicate_behind : (n : ℕ) → OnlyBehind tok n (predicate_form field) (λ k. opening_ends (put_predicate k))
  predicate_behind n = behind_then tok n n (name signs.Predicate) (λ _. maybe_terms_form field) (λ k. opening_ends (put_predicate k)) (λ w o. is_some o) (apart_closed (name signs.Predicate) (λ _. maybe_terms_form field) (λ a t. refl)) (names n signs.Predicate refl)
      (λ a b k more less isa isb isk f e. absurd (false≢true (one_token tok n Word (named signs.Predicate) (λ _. false) a b more less isa isb e)))
      (λ w. maybe_behind n) (λ w o isw iso g. ends w o g) (λ a l isa h. omega (arith, h))
    where
      ends : (w : Word) (o : Option TermsData) → is_some o ≡ true → unit_ends_in_terms (predicate_from w o) ≡ true
      ends w None g = cc
      ends w (Some us) g = refl

  -- a private predicate
  closing_one : (n : ℕ) → One n (closed_terms field)
  closing_one n = one_then n n (nested (maybe_terms_form field)) (λ _. word signs.CloseSquare) (close_apart field) (one_nested n (maybe_terms_form field) (one_maybe (terms_form field) term_class (starts_terms field) n (terms_one field n).lists)) (λ a. words n signs.CloseSquare refl) (λ a l isa h. omega (arith, h))

  private_one : (n : ℕ) → One n (private_form field)
  private_one n = one_then n n (name signs.Identifier) (λ _. square_terms field) (apart_closed (name signs.Identifier) (λ _. square_terms field) (λ a t. refl)) (names n signs.Identifier refl)
      (λ w. one_then n n (nested (word signs.OpenSquare)) (λ _. closed_terms field) (apart_closed (nested (word signs.OpenSquare)) (λ _. closed_terms field) (λ a t. refl)) (one_nested n (word signs.OpenSquare) (words n signs.OpenSquare refl)) (λ p. closing_one n) (λ a l isa h. omega (arith, h)))
      (λ a l isa h. omega (arith, h))

  goes_off : (k : (private_form field).Tree) → (private_form field).goes k tok ≡ false
  goes_off k = off ((private_form field).goes k tok) (λ g. private_closed field k tok g)
    where
      off : (b : Bool) → (b ≡ true → ⊥) → b ≡ false
      off true h = absurd (h refl)
      off false h = refl

  private_behind : (n : ℕ) → OnlyBehind tok n (private_form field) (λ _. false)
  private_behind n = excluded tok n (private_form field) (λ _. false) (private_one n) (λ k isk. goes_off k)

  -- A private predicate and terms don't begin the same tokens.
  no_longer_terms : (w : Word) (p : Place) (o : Option TermsData) (q : Place) (ts : TermsData) (l : Tail) (more : List MarkedToken) → AreTerms field ts → IsTail field ts l → spell_opening (join ts l) ≡ spell_opening (put_private (w, (p, (o, q)))) ++ tok ∷ more → ⊥
  no_longer_terms w p o q ts l more is isl e = no_square field ts l (named signs.Identifier w) (fixed signs.OpenSquare p) _ is (sign_of-named signs.Identifier w refl) (sign_of-fixed signs.OpenSquare p refl) (sym (join_spells field ts l isl) ∙ (e ∙ ap (λ z. z ++ tok ∷ more) (private_spells field w p o q)))

  no_longer_private : (w : Word) (p : Place) (o : Option TermsData) (q : Place) (ts : TermsData) (l : Tail) (t : MarkedToken) (m more : List MarkedToken) → AreTerms field ts → IsTail field ts l → sign_of t ≡ signs.Identifier → spell_opening (join ts l) ≡ t ∷ m → spell_opening (put_private (w, (p, (o, q)))) ≡ spell_opening (join ts l) ++ tok ∷ more → ⊥
  no_longer_private w p o q ts l t m more is isl h f e = go m f
    where
      square : (m : List MarkedToken) → spell_opening (join ts l) ≡ t ∷ m → fixed signs.OpenSquare p ∷ ((maybe_terms_form field).spell o ++ fixed signs.CloseSquare q ∷ []) ≡ m ++ tok ∷ more
      square m f = tail_of _ _ _ _ (sym (private_spells field w p o q) ∙ (e ∙ ap (λ z. z ++ tok ∷ more) f))

      go : (m : List MarkedToken) → spell_opening (join ts l) ≡ t ∷ m → ⊥
      go [] f = clash (sym (sign_of-fixed signs.OpenSquare p refl) ∙ (ap sign_of (head_of _ _ _ _ (square [] f)) ∙ comma))
        where
          clash : signs.OpenSquare ≡ signs.ListComma → ⊥
          clash z = cc
      go (n ∷ m) f = no_square field ts l t n m is h (sym (ap sign_of (head_of _ _ _ _ (square (n ∷ m) f))) ∙ sign_of-fixed signs.OpenSquare p refl) (sym (join_spells field ts l isl) ∙ f)

  pub identifier_behind : (n : ℕ) (t : MarkedToken) → sign_of t ≡ signs.Identifier → OnlyAt tok (suc n) (opening_form field) t opening_ends
  identifier_behind n t h a b more m k less isa isb ea eb e = both a b isa isb ea e less (begins_as field signs.Identifier a t m h isa ea) (begins_as field signs.Identifier b t k h isb eb)
    where
      both : (a b : Opening) → IsOpening field a → IsOpening field b → spell_opening a ≡ t ∷ m → spell_opening b ≡ spell_opening a ++ tok ∷ more → length (spell_opening a) < suc n → Begins field signs.Identifier a → Begins field signs.Identifier b → opening_ends a ≡ true
      both a b isa isb ea e less (quantified_first f s q g) v = cc
      both a b isa isb ea e less u (quantified_first f s q g) = cc
      both a b isa isb ea e less (private_first f w p o q) (private_first f' w' p' o' q') = behind_same tok (suc n) (opening_form field) (private_form field) put_private opening_ends (λ _. false) (λ z is. private_spells field z.0 z.1.0 z.1.1.0 z.1.1.1) (λ z isz g. absurd (false≢true g)) (private_behind (suc n)) a b more less
          ((w, (p, (o, q))), (tt, (tt, (private_back field w p o q isa, tt))), refl) ((w', (p', (o', q'))), (tt, (tt, (private_back field w' p' o' q' isb, tt))), refl) e
      both a b isa isb ea e less (atom_first f s ts l g i j) (atom_first f' s' ts' l' g' i' j') = behind_same tok (suc n) (opening_form field) (atom_form field) make_atom opening_ends (λ z. opening_ends (make_atom z)) (λ z is. join_spells field z.0 z.1 is.1) (λ z isz g. g) (atom_behind n) a b more less
          ((ts, l), (i, j), refl) ((ts', l'), (i', j'), refl) e
      both a b isa isb ea e less (private_first f w p o q) (atom_first f' s' ts l g i j) = absurd (no_longer_terms w p o q ts l more i j e)
      both a b isa isb ea e less (atom_first f s ts l g i j) (private_first f' w p o q) = absurd (no_longer_private w p o q ts l t m more i j h ea e)
