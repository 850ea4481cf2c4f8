-- How words of lists are taken.
use Rattle.std.specs.Prelude.{if◌then◌else◌}
use Rattle.std.proofs.Common.{◌≡◌, ℕ, ◌≤◌, zero, suc, get_or, arith, Bool, true, false, ◌⊎◌, inl, inr, List, [], ◌∷◌, refl, sym, ap, subst, ◌∙◌, Some, None}
use Rattle.mz_base.specs.declared.place.Place.{Place}
use Rattle.mz_base.specs.declared.token.MarkedToken.{MarkedToken}
use Rattle.mz_forms.specs.Form.{Agrees, Found, Fails}
use Rattle.mz_forms.proofs.Choose.{fails_here}
use Rattle.mz_forms.proofs.Compose.{head_of, tail_of}
use Rattle.mz_forms.proofs.One.{One}
use Rattle.mz_pjustification.proofs.Taken.{nowhere, nothing_left}
use Rattle.mz_ppattern.specs.Words.{is_word, word_token}
use Rattle.mz_ppattern.proofs.WordSteps.{word_told, word_own}
use Rattle.mz_ppart.specs.WordLists.{first_of, chosen_token, chosen_form}

abbrev pub In : {W : Type 0} → W → List W → Type 0
In w [] = ⊥
In w (v ∷ vs) = (w ≡ v) ⊎ In w vs

abbrev pub All : {W : Type 0} → (W → Bool) → List W → Type 0
All such [] = Unit {0}
All such (v ∷ vs) = (such v ≡ true) × All such vs

no_level : (room i : ℕ) → get_or (0 ∷ []) i 0 ≤ room
no_level room zero = omega arith
no_level room (suc i) = omega arith

some_word : {W : Type 0} (v w : W) → Some v ≡ Some w → v ≡ w
some_word v w e = cc

not_none : {W : Type 0} (v : W) → Some v ≡ None → ⊥
not_none v e = cc

not_some : {W : Type 0} (v : W) → None ≡ Some v → ⊥
not_some v e = cc

same_pair : {W : Type 0} (a b : W × Place) → a.0 ≡ b.0 → a.1 ≡ b.1 → a ≡ b
same_pair a b g h = ap (λ z. (z, a.1)) g ∙ ap (λ z. (b.0, z)) h

module _ {W : Type 0} (f : W → List ℕ) (such : W → Bool) where
  pub first_hit : (ws : List W) (t : MarkedToken) (w : W) → All such ws → first_of f ws t ≡ Some w → (is_word (f w) t ≡ true) × (such w ≡ true)
  first_hit [] t w all e = absurd (not_some w e)
  first_hit (v ∷ vs) t w all e = go (is_word (f v) t) refl e (λ g. first_hit vs t w all.1 g)
    where
      go : (b : Bool) → is_word (f v) t ≡ b → (if b then Some v else first_of f vs t) ≡ Some w → (first_of f vs t ≡ Some w → (is_word (f w) t ≡ true) × (such w ≡ true)) → (is_word (f w) t ≡ true) × (such w ≡ true)
      go true h g rest =
          let same : v ≡ w = some_word v w g in
          let A : W → Type 0 = λ z. is_word (f z) t ≡ true in
          let B : W → Type 0 = λ z. such z ≡ true in
          (subst A same h, subst B same all.0)
      go false h g rest = rest g

  first_missed : (ws : List W) (t : MarkedToken) (w : W) → In w ws → first_of f ws t ≡ None → is_word (f w) t ≡ true → ⊥
  first_missed [] t w i e h = i
  first_missed (v ∷ vs) t w i e h = go (is_word (f v) t) refl e i (λ j g. first_missed vs t w j g h)
    where
      go : (b : Bool) → is_word (f v) t ≡ b → (if b then Some v else first_of f vs t) ≡ None → (w ≡ v) ⊎ In w vs → (In w vs → first_of f vs t ≡ None → ⊥) → ⊥
      go true k g j rest = not_none v g
      go false k g (inl j) rest = clash (sym h ∙ (ap (λ z. is_word (f z) t) j ∙ k))
        where
          clash : true ≡ false → ⊥
          clash c = cc
      go false k g (inr j) rest = rest j g

  module _ (ws : List W) (all : All such ws) (within : (w : W) → such w ≡ true → In w ws) (own : (w : W) (p : Place) → such w ≡ true → first_of f ws (word_token (f w) p) ≡ Some w) (some : W) (some_such : such some ≡ true) where
    same_chosen : (a b : W × Place) → such a.0 ≡ true → such b.0 ≡ true → chosen_token f a ≡ chosen_token f b → a ≡ b
    same_chosen a b isa isb e = same_pair a b (some_word a.0 b.0 (sym (own a.0 a.1 isa) ∙ (ap (first_of f ws) e ∙ own b.0 b.1 isb))) (ap (λ t. t.token.place) e)

    pub chosen_found : (room : ℕ) (t : MarkedToken) (b rest : List MarkedToken) (w : W) → first_of f ws t ≡ Some w → b ≡ t ∷ rest → Found (chosen_form f such) room b (w, t.token.place) rest
    chosen_found room t b rest w h e =
        let k = first_hit ws t w all h in
        record {
          found = record {
            split = e ∙ ap (λ z. z ∷ rest) (word_told (f w) t k.0);
            is = k.1;
            only = λ y m isy g agrees. same_chosen y (w, t.token.place) isy k.1 (head_of _ _ _ _ g);
            passed = λ y s m isy g. absurd (never s m (tail_of _ _ _ _ g));
          };
          fits = λ i l. no_level room i;
        }
      where
        never : (s : MarkedToken) (m : List MarkedToken) → [] ≡ s ∷ m → ⊥
        never s m g = cc

    pub chosen_refused : (room : ℕ) (t : MarkedToken) (b rest : List MarkedToken) → first_of f ws t ≡ None → b ≡ t ∷ rest → Fails (chosen_form f such) room b b
    chosen_refused room t b rest h e = fails_here (chosen_form f such) room (some, nowhere) b some_such (λ x is agrees.
        let A : List MarkedToken → Type 0 = λ z. Agrees z (chosen_token f x ∷ []) in
        let g : chosen_token f x ≡ t = subst A e agrees in
        first_missed ws t x.0 (within x.0 is) h (sym (ap (is_word (f x.0)) g) ∙ word_own (f x.0) x.1))

    pub chosen_left_out : (room : ℕ) (b : List MarkedToken) → b ≡ [] → Fails (chosen_form f such) room b b
    chosen_left_out room b e = fails_here (chosen_form f such) room (some, nowhere) b some_such (λ x is agrees. nothing_left (chosen_token f x) b e agrees)

    pub chosen_one : (n : ℕ) → One n (chosen_form f such)
    chosen_one n a b x y less isa isb e qa qb = same_chosen a b isa isb (head_of _ _ _ _ e)
