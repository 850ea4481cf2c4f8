-- The export of a name in a list, and what is told of a row.
use Rattle.std.proofs.Common.{◌≡◌, ◌⊎◌, inl, inr, ℕ, true, List, [], ◌∷◌, map, ap, sym, ◌∙◌, subst}
use Rattle.std.specs.Prelude.{◌==◌, ◌||◌, Option, Some, None, MatchOption, Contains}
use Rattle.std.proofs.lemmas.List.Elements.{All-contains}
use Rattle.mz_base.specs.Name.{is_built_in}
use Rattle.mz_core.specs.declared.outcome.Export.{Export}
use Rattle.mz_axioms.specs.BuiltIn.{hidden, tarski_0, tarski_a, built_in_exports}
use Rattle.mz_axioms.specs.Library.{Sound}
use Rattle.mz_axioms.proofs.AddedLemmas.{here, there, first_or_later}
use Rattle.mz_turns.proofs.NameLemmas.{in_none, equal_numbers, or_cases}

-- no export of the list has the number, or the export that is answered is one of it and has it
abbrev pub IsNamed : {Y Z : Type 0} → (Y → Export) → (Z → Export) → List Y → ℕ → Option Z → Type 0
IsNamed g v ys n r = MatchOption r ((e : Export) → Contains (map g ys) e → e.name.number ≡ n → ⊥) (λ z. Contains (map g ys) (v z) × ((v z).name.number ≡ n))

not_here : (x e : Export) (es : List Export) (n : ℕ) → (x.name.number ≡ n → ⊥) → (Contains es e → e.name.number ≡ n → ⊥) → (e ≡ x) ⊎ Contains es e → e.name.number ≡ n → ⊥
not_here x e es n other rest (inl p) h = other (ap (λ z. z.name.number) (sym p) ∙ h)
not_here x e es n other rest (inr k) h = rest k h

rest_named : {Y Z : Type 0} (g : Y → Export) (v : Z → Export) (y : Y) (ys : List Y) (n : ℕ) (r : Option Z) → ((g y).name.number ≡ n → ⊥) → IsNamed g v ys n r → IsNamed g v (y ∷ ys) n r
rest_named g v y ys n None other h = λ e has. not_here (g y) e (map g ys) n other (h e) (first_or_later (g y) e (map g ys) has)
rest_named g v y ys n (Some z) other h = (there (g y) (v z) (map g ys) h.0, h.1)

pub none_named : {Y : Type 0} (g : Y → Export) (ys : List Y) (n : ℕ) → ys ≡ [] → (e : Export) → Contains (map g ys) e → e.name.number ≡ n → ⊥
none_named g ys n e = λ x has. absurd (in_none x (subst (λ zs. Contains (map g zs) x) e has))

pub first_named : {Y : Type 0} (g : Y → Export) (ys : List Y) (y : Y) (rest : List Y) → ys ≡ y ∷ rest → Contains (map g ys) (g y)
first_named g ys y rest e = subst (λ zs. Contains (map g zs) (g y)) (sym e) (here (g y) (map g rest))

pub later_named : {Y Z : Type 0} (g : Y → Export) (v : Z → Export) (ys : List Y) (y : Y) (rest : List Y) (n : ℕ) (r : Option Z) → ys ≡ y ∷ rest → ((g y).name.number ≡ n → ⊥) → IsNamed g v rest n r → IsNamed g v ys n r
later_named g v ys y rest n r e other h = subst (λ zs. IsNamed g v zs n r) (sym e) (rest_named g v y rest n r other h)

-- an export of each built-in name
abbrev HasNumber : List Export → ℕ → Type 0
HasNumber es n = (e : Export) × Contains es e × (e.name.number ≡ n)

first_two : (n : ℕ) → (n == hidden.name.number || n == tarski_0.name.number) ≡ true → HasNumber built_in_exports n
first_two n h = two_cases (or_cases (n == hidden.name.number) (n == tarski_0.name.number) h)
  where
    two_cases : ((n == hidden.name.number) ≡ true) ⊎ ((n == tarski_0.name.number) ≡ true) → HasNumber built_in_exports n
    two_cases (inl e) = (hidden, here hidden (tarski_0 ∷ tarski_a ∷ []), sym (equal_numbers n hidden.name.number e))
    two_cases (inr e) = (tarski_0, there hidden tarski_0 (tarski_0 ∷ tarski_a ∷ []) (here tarski_0 (tarski_a ∷ [])), sym (equal_numbers n tarski_0.name.number e))

pub built_in_number : (n : ℕ) → is_built_in n ≡ true → HasNumber built_in_exports n
built_in_number n h = three_cases (or_cases (n == hidden.name.number || n == tarski_0.name.number) (n == tarski_a.name.number) h)
  where
    three_cases : ((n == hidden.name.number || n == tarski_0.name.number) ≡ true) ⊎ ((n == tarski_a.name.number) ≡ true) → HasNumber built_in_exports n
    three_cases (inl e) = first_two n e
    three_cases (inr e) = (tarski_a, there hidden tarski_a (tarski_0 ∷ tarski_a ∷ []) (there tarski_0 tarski_a (tarski_a ∷ []) (here tarski_a [])), sym (equal_numbers n tarski_a.name.number e))

pub not_missing : (library : List Export) (n : ℕ) → Sound library → is_built_in n ≡ true → ((e : Export) → Contains library e → e.name.number ≡ n → ⊥) → ⊥
not_missing library n sound built none =
    let k = built_in_number n built in
    none k.0 (All-contains (Contains library) built_in_exports k.0 sound.built_in k.1) k.2
