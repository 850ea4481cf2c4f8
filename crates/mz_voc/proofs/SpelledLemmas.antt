-- A value by spelling after a change.
use Rattle.std.proofs.Common.{◌≡◌, ℕ, Bool, true, false, cond, ⊎_elim, List, sym, subst, ◌∙◌}
use Rattle.std.specs.Cmp.Lexicographic.{nat_list_eq_equiv}
use Rattle.std.specs.Str.{bytes_eq}
use Rattle.std.specs.HashMap.{HashMap, get_by, UpdatesBy}
use Rattle.std.specs.Map.{lookup, IsKeyTest, AreApart, KeepsOthers}
use Rattle.std.specs.Prelude.{Option}
use Rattle.std.proofs.lemmas.Bool.{cases_Bool, cond-true, cond-false}
use Rattle.std.proofs.lemmas.Slice.Eq.{bytes_eq-Decides}

apart : (bs cs ks : List ℕ) → bytes_eq bs cs ≡ false → bytes_eq bs ks ≡ true → bytes_eq cs ks ≡ false
apart bs cs ks n y = nat_list_eq_equiv.symm cs ks ∙ sym (nat_list_eq_equiv.congr bs ks cs y) ∙ n

module _ {K V : Type 0} (items : K → List ℕ) where
  others : (test : K → Bool) (old new : List (K × V)) → KeepsOthers (λ x y. bytes_eq (items x) (items y)) test old new → (other : K → Bool) → IsKeyTest (λ x y. bytes_eq (items x) (items y)) other → AreApart test other → lookup other new ≡ lookup other old
  unfolding KeepsOthers
  others test old new h = h

  -- the value at any spelling, after the value of one spelling was set
  pub value_after : {S : Type 0} (m n : HashMap K V S) (spelling : List ℕ) (w : Option V) → UpdatesBy (λ x y. bytes_eq (items x) (items y)) (λ k. bytes_eq spelling (items k)) m n w
      → (other : List ℕ) → get_by (λ k. bytes_eq other (items k)) n ≡ cond (bytes_eq spelling other) w (get_by (λ k. bytes_eq other (items k)) m)
  value_after m n spelling w h other =
      ⊎_elim
      (λ y. subst (λ l. get_by (λ k. bytes_eq l (items k)) n ≡ w) ((bytes_eq-Decides spelling other).0 y) h.1 ∙ sym (cond-true (bytes_eq spelling other) w (get_by (λ k. bytes_eq other (items k)) m) y))
      (λ e. others _ _ _ h.3 _ (λ x y. nat_list_eq_equiv.congr other (items x) (items y)) (λ k. apart spelling other (items k) e) ∙ sym (cond-false (bytes_eq spelling other) w (get_by (λ k. bytes_eq other (items k)) m) e))
      (cases_Bool (bytes_eq spelling other))
