-- Lists of parts one behind another, as trees spell them.
use Rattle.std.specs.List.{flat_map}
use Rattle.std.proofs.Common.{◌≡◌, ℕ, zero, suc, ◌+◌, ◌<◌, arith, length, length-append, Bool, true, false, List, [], ◌∷◌, ◌++◌, refl, sym, ap, subst, append_assoc}
use Rattle.mz_base.specs.declared.token.MarkedToken.{MarkedToken}
use Rattle.mz_forms.specs.declared.refusal.Refusal.{Refusal}
use Rattle.mz_forms.specs.Form.{Form, Found, Leads}
use Rattle.mz_forms.specs.Reading.{Refuses}
use Rattle.mz_forms.specs.Repeat.{many, spell_all, levels_all, AreAll}
use Rattle.mz_forms.proofs.Choose.{Reshapes}
use Rattle.mz_forms.proofs.Leads.{leads_as, leads_on, leads_same, passes}
use Rattle.mz_forms.proofs.Lists.{Begun, Repeats, Stops, go_on, member_refused, no_more}
use Rattle.mz_forms.proofs.One.{One, one_as, one_zero}
use Rattle.mz_forms.proofs.OneRepeat.{one_many}
use Rattle.mz_tree.specs.Rules.{Every}
use Rattle.mz_ptype.proofs.Optional.{true_not_false}
use Rattle.mz_ppattern.specs.Optional.{listed, next_has}

module _ (X : Form MarkedToken) (begins goes : MarkedToken → Bool) (by : Repeats X begins goes) where
  abbrev put : List X.Tree → List X.Tree
  put xs = xs

  into : (xs : List X.Tree) → AreAll X xs → Every X.IsTree xs
  into [] is = tt
  into (x ∷ xs) is = (is.0, into xs is.1)

  from : (xs : List X.Tree) → Every X.IsTree xs → AreAll X xs
  from [] is = tt
  from (x ∷ xs) is = (is.0, from xs is.1)

  spells : (xs : List X.Tree) → flat_map X.spell xs ≡ spell_all X xs
  spells [] = refl
  spells (x ∷ xs) = ap (λ z. X.spell x ++ z) (spells xs)

  leveled : (xs : List X.Tree) → flat_map X.levels xs ≡ levels_all X xs
  leveled [] = refl
  leveled (x ∷ xs) = ap (λ z. X.levels x ++ z) (leveled xs)

  as_listed : (b : List MarkedToken) → Reshapes (listed X goes) (many X goes) put b
  as_listed b = record {
    into = λ xs is. into xs is;
    spells = λ xs is. spells xs;
    only = λ xs is g. (xs, from xs is, refl);
    goes = λ xs t is g. g;
    level = λ xs is. leveled xs;
  }

  begin_listed : (room : ℕ) (b : List MarkedToken) → Leads (listed X goes) (many X goes) room put b b
  begin_listed room b = leads_as (listed X goes) (many X goes) put room b (as_listed b)

  -- from the first of them to those so far
  abbrev pub ListedSoFar : ℕ → List X.Tree → List MarkedToken → List MarkedToken → Type 0
  ListedSoFar room ns b c = Leads (listed X goes) (many X goes) room (λ xs. ns ++ xs) b c

  pub listed_none : (room : ℕ) (ns : List X.Tree) (b : List MarkedToken) → ns ≡ [] → ListedSoFar room ns b b
  listed_none room ns b e = let N : List X.Tree → Type 0 = λ z. ListedSoFar room z b b in subst N (sym e) (begin_listed room b)

  module _ (some : (t : MarkedToken) → begins t ≡ true → Begun X t) where
    further : (room : ℕ) (x : X.Tree) (b d : List MarkedToken) → next_has begins b ≡ true → Found X room b x d → Leads (many X goes) (many X goes) room (λ xs. x ∷ xs) b d
    further room x [] d h found = absurd (no h)
      where
        no : false ≡ true → ⊥
        no e = cc
    further room x (t ∷ b) d h found = go_on X begins goes by room t (t ∷ b) b d x h (some t h) refl found

    pub listed_step : (room : ℕ) (ns ms : List X.Tree) (x : X.Tree) (b c d : List MarkedToken) → ListedSoFar room ns b c → next_has begins c ≡ true → Found X room c x d → ms ≡ ns ++ x ∷ [] → ListedSoFar room ms b d
    listed_step room ns ms x b c d so_far h found e =
        let N : List X.Tree → Type 0 = λ z. ListedSoFar room z b d in
        subst N (sym e) (leads_same (listed X goes) (many X goes) room (λ xs. ns ++ x ∷ xs) (λ xs. (ns ++ x ∷ []) ++ xs) b d (λ xs. sym (append_assoc ns (x ∷ []) xs))
        (leads_on (listed X goes) (many X goes) (many X goes) room (λ xs. ns ++ xs) (λ xs. x ∷ xs) b c d so_far (further room x c d h found)))

    pub listed_refused : (room : ℕ) (ns : List X.Tree) (b c after : List MarkedToken) (e : Refusal) → ListedSoFar room ns b c → next_has begins c ≡ true → Refuses X room c e after → Refuses (listed X goes) room b e after
    listed_refused room ns b c after e so_far h r = passes (listed X goes) (many X goes) room (λ xs. ns ++ xs) b c after e so_far (go c h r)
      where
        go : (c : List MarkedToken) → next_has begins c ≡ true → Refuses X room c e after → Refuses (many X goes) room c e after
        go [] h r = absurd (no h)
          where
            no : false ≡ true → ⊥
            no e = cc
        go (t ∷ c) h r = member_refused X begins goes by room t (t ∷ c) c after e h (some t h) refl r

  stops : (c : List MarkedToken) → next_has begins c ≡ false → Stops X begins goes by c
  stops [] h = tt
  stops (t ∷ c) h = λ g. true_not_false (begins t) h g

  nil : (xs : List X.Tree) → xs ++ [] ≡ xs
  nil [] = refl
  nil (x ∷ xs) = ap (λ z. x ∷ z) (nil xs)

  pub listed_found : (room : ℕ) (ns : List X.Tree) (b c : List MarkedToken) → ListedSoFar room ns b c → next_has begins c ≡ false → Found (listed X goes) room b ns c
  listed_found room ns b c so_far h = let F : List X.Tree → Type 0 = λ z. Found (listed X goes) room b z c in subst F (nil ns) (so_far.finds [] c (no_more X begins goes by room c (stops c h)))

  filled_size : (w : List MarkedToken) → (w ≡ [] → ⊥) → 0 < length w
  filled_size [] h = absurd (h refl)
  filled_size (t ∷ w) h = omega arith

  pub shorter_listed : (room : ℕ) (x : X.Tree) (c d : List MarkedToken) → Found X room c x d → length d < length c
  shorter_listed room x c d h =
      let k : length c ≡ length (X.spell x ++ d) = ap length h.found.split in
      let i : length (X.spell x ++ d) ≡ length (X.spell x) + length d = length-append (X.spell x) d in
      let l : 0 < length (X.spell x) = filled_size (X.spell x) (by.filled x h.found.is) in
      omega (arith, k, i, l)

  many_one : ((n : ℕ) → One n X) → (n : ℕ) → One n (many X goes)
  many_one one zero = one_zero (many X goes)
  many_one one (suc n) = one_many X begins goes by n (one (suc n)) (many_one one n)

  pub listed_one : ((n : ℕ) → One n X) → (n : ℕ) → One n (listed X goes)
  listed_one one n = one_as n (listed X goes) (many X goes) put (λ xs is. (xs, from xs is, refl)) (λ xs is. spells xs) (λ xs t is g. g) (many_one one n)
