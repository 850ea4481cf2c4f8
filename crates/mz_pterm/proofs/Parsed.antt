-- From a reading to the answer of a parse, for any form.
use Rattle.std.proofs.Common.{◌≡◌, ◌≢◌, ℕ, ◌-◌, ◌≤◌, Bool, List, [], ◌∷◌, take, drop, length, refl, sym, subst, ◌∙◌, arith, Ok, Err}
use Rattle.mz_base.specs.declared.place.Place.{Place}
use Rattle.mz_base.specs.declared.token.MarkedToken.{MarkedToken}
use Rattle.mz_forms.specs.declared.refusal.Refusal.{Refusal}
use Rattle.mz_forms.specs.declared.refusal.Refusal.TheVariants as refusals
use Rattle.mz_forms.specs.Form.{Form, Found, Fails, Deeper}
use Rattle.mz_forms.specs.Parse.{NoTree}
use Rattle.mz_forms.specs.Reading.{Refuses}
use Rattle.mz_forms.proofs.Places.{going, the_tree_at, no_tree_at, too_deep_at, is_before_end, fails_left, deeper_left, the_tree_going, no_tree_going, too_deep_going}
use Rattle.mz_pterm.specs.Parses.{Parses, fault_of}

module _ (F : Form MarkedToken) (goes : F.Tree → MarkedToken → Bool) {X : Type 0} (view : X → F.Tree) (tokens : List MarkedToken) (end : Place) (at : ℕ) (inside : at ≤ length tokens) where
  abbrev read : List MarkedToken
  read = take (length tokens - at) (drop at tokens)

  pub parsed : (x : X) (after : List MarkedToken) → Found F 128 read (view x) after → Parses (going F goes) view tokens end at (Ok (x, length tokens - length after))
  parsed x after h = the_tree_going F goes 128 tokens at (view x) _ (the_tree_at F 128 tokens after at (view x) inside h)

  unexpected : (t : MarkedToken) (rest : List MarkedToken) → Fails F 128 read (t ∷ rest) → Parses (going F goes) view tokens end at (Err (fault_of (t ∷ rest) end refusals.Refused))
  unexpected t rest h = (
    length tokens - length (t ∷ rest),
    is_before_end F 128 tokens (t ∷ rest) at inside h some,
    no_tree_going F goes 128 tokens at _ (no_tree_at F 128 tokens (t ∷ rest) at inside h),
    (t, rest, fails_left F 128 tokens (t ∷ rest) at inside h, refl),
  )
    where
      some : length (t ∷ rest) ≢ 0
      some e = omega (arith, e)

  ends_early : Fails F 128 read [] → Parses (going F goes) view tokens end at (Err (fault_of [] end refusals.Refused))
  ends_early h =
      let N : ℕ → Type 0 = λ n. NoTree (going F goes) 128 tokens at n in
      (subst N (omega arith) (no_tree_going F goes 128 tokens at _ (no_tree_at F 128 tokens [] at inside h)), refl)

  too_deep : (after : List MarkedToken) → Deeper F 128 read after → Parses (going F goes) view tokens end at (Err (fault_of after end refusals.TooDeep))
  too_deep after h = go after h.here
    where
      go : (z : List MarkedToken) → z ≡ h.tok ∷ h.rest → Parses (going F goes) view tokens end at (Err (fault_of z end refusals.TooDeep))
      go [] e = cc
      go (t ∷ rest) e = (
        length tokens - length after,
        too_deep_going F goes 128 tokens at _ (too_deep_at F 128 tokens after at inside h),
        (t, rest, deeper_left F 128 tokens after at inside h ∙ (h.here ∙ sym e), refl),
      )

  pub not_parsed : (e : Refusal) (after : List MarkedToken) → Refuses F 128 read e after → Parses (going F goes) view tokens end at (Err (fault_of after end e))
  not_parsed refusals.Memory after h = tt
  not_parsed refusals.TooDeep after h = too_deep after h
  not_parsed refusals.Refused [] h = ends_early h
  not_parsed refusals.Refused (t ∷ rest) h = unexpected t rest h
