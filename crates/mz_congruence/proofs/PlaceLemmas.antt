-- The rules of a clause at the places where its head stands are all of its rules.
use Rattle.std.proofs.Common.{◌≡◌, ◌<◌, ◌≤◌, ◌+◌, ℕ, List, [], ◌∷◌, ◌++◌, length, take, get_or, ap, sym, ◌∙◌, subst, arith, inl, inr}
use Rattle.std.specs.Prelude.{Contains}
use Rattle.std.proofs.lemmas.List.{take_more, take_all}
use Rattle.std.proofs.lemmas.List.Elements.{Contains-append_left, Contains-push, Contains-push_cases, Contains-get_or}
use Rattle.mz_ground.specs.Heads.{AreTriggerPlaces, candidates}
use Rattle.mz_ground.specs.Instances.{place_like, IsBetween, IsEndIn, IsSpan}
use Rattle.mz_ground.specs.Making.{no_layer, whole_end}
use Rattle.mz_ground.specs.declared.clause.Clause.{Clause}
use Rattle.mz_ground.specs.declared.trigger.Trigger.{Trigger}
use Rattle.mz_ground.specs.declared.trigger.Trigger.TheVariants as trigger
use Rattle.mz_ground.specs.declared.ground_part.Ground.{Ground}
use Rattle.mz_ground.specs.declared.layer_ends.LayerEnd.{LayerEnd}
use Rattle.mz_ground.specs.declared.trigger_places.TriggerPlaces.{TriggerPlaces}
use Rattle.mz_ground.proofs.HeadLemmas.{candidates_only, candidates_listed}
use Rattle.mz_ground.proofs.LayerLemmas.{numbered_from_ground}
use Rattle.mz_ground.proofs.ListLemmas.{contains_none}
use Rattle.mz_congruence.specs.declared.graph.Rule.{Rule}
use Rattle.mz_congruence.specs.Pairing.{Adds, AddsRules, AreWholePlaces, Among, Below, IsPlaceRule, places_for}
use Rattle.mz_congruence.proofs.RuleLemmas.{adds_none, adds_iff}

-- one place after another
pub among_none : (g : Ground) (Q : ℕ → Rule → Type 0) (xs : List Rule) → AddsRules g (Among Q []) xs xs
unfolding AddsRules
among_none g Q xs d cs gr = adds_none (Among Q []) xs (λ r p. contains_none p.0 p.1)

among_pushed : (Q : ℕ → Rule → Type 0) (ks : List ℕ) (j : ℕ) (xs ys zs : List Rule) → Adds (Among Q ks) xs ys → Adds (Q j) ys zs → Adds (Among Q (ks ++ j ∷ [])) xs zs
among_pushed Q ks j xs ys zs a b =
    record {
      kept = λ r c. b.kept r (a.kept r c);
      added = λ r p.
          elim (Contains-push_cases ks j p.0 p.1) [
            | inl w ↦ b.kept r (a.added r (p.0, w, p.2))
            | inr e ↦ b.added r (subst (λ (k : ℕ). Q k r) (sym e) p.2)
          ];
      only = λ r c.
          elim (b.only r c) [
            | inl x ↦ elim (a.only r x) [ inl z ↦ inl z | inr q ↦ inr (q.0, Contains-append_left ks (j ∷ []) q.0 q.1, q.2) ]
            | inr q ↦ inr (j, Contains-push ks j, q)
          ];
    }

pub among_more : (g : Ground) (Q : ℕ → Rule → Type 0) (ks : List ℕ) (i j : ℕ) (xs ys zs : List Rule) → i < length ks → j ≡ get_or ks i 0 → AddsRules g (Among Q (take i ks)) xs ys → AddsRules g (Q j) ys zs → AddsRules g (Among Q (take (i + 1) ks)) xs zs
unfolding AddsRules
among_more g Q ks i j xs ys zs lt e a b d cs gr =
    let more : take (i + 1) ks ≡ take i ks ++ j ∷ [] = take_more ks i 0 lt ∙ ap (λ (k : ℕ). take i ks ++ k ∷ []) (sym e) in
    subst (λ (js : List ℕ). Adds (Among Q js) xs zs) (sym more) (among_pushed Q (take i ks) j xs ys zs (a d cs gr) (b d cs gr))

pub among_all : (g : Ground) (Q : ℕ → Rule → Type 0) (ks : List ℕ) (i : ℕ) (xs ys : List Rule) → length ks ≤ i → AddsRules g (Among Q (take i ks)) xs ys → AddsRules g (Among Q ks) xs ys
among_all g Q ks i xs ys le a = subst (λ (js : List ℕ). AddsRules g (Among Q js) xs ys) (take_all i ks le) a

pub among_place : (g : Ground) (c : Clause) (ks : List ℕ) (i : ℕ) → i < length ks → ((k : ℕ) → Contains ks k → k < places_for g c.trigger) → get_or ks i 0 < places_for g c.trigger
among_place g c ks i lt h = h (get_or ks i 0) (Contains-get_or ks i 0 lt)

pub ruleset places_rules = (among_none, among_all, among_place)

-- all places
start_zero : (x : TriggerPlaces) → x.start ≡ no_layer → (x.start.terms ≡ 0) × (x.start.atoms ≡ 0)
start_zero x e = (ap (λ (z : LayerEnd). z.terms) e, ap (λ (z : LayerEnd). z.atoms) e)

between_whole : (g : Ground) (x : TriggerPlaces) → AreWholePlaces g x → (r : Trigger) (k : ℕ) → k < places_for g r → IsBetween x.start x.end (place_like r k)
between_whole g x h (trigger.Term t) k lt = let z = start_zero x h.start in (omega (arith, z.0), omega (arith, lt, ap (λ (e : LayerEnd). e.terms) h.end))
between_whole g x h (trigger.Atom s us) k lt = let z = start_zero x h.start in (omega (arith, z.1), omega (arith, lt, ap (λ (e : LayerEnd). e.atoms) h.end))

whole_between : (g : Ground) (x : TriggerPlaces) → AreWholePlaces g x → (r : Trigger) (k : ℕ) → IsBetween x.start x.end (place_like r k) → k < places_for g r
whole_between g x h (trigger.Term t) k b = omega (arith, b.1, ap (λ (e : LayerEnd). e.terms) h.end)
whole_between g x h (trigger.Atom s us) k b = omega (arith, b.1, ap (λ (e : LayerEnd). e.atoms) h.end)

whole_in : (g : Ground) (x : TriggerPlaces) → AreWholePlaces g x → IsEndIn g x.end
whole_in g x h = record {
  terms = omega (arith, ap (λ (e : LayerEnd). e.terms) h.end);
  atoms = omega (arith, ap (λ (e : LayerEnd). e.atoms) h.end);
  equations = omega (arith, ap (λ (e : LayerEnd). e.equations) h.end);
}

pub told_candidates : (g : Ground) (x : TriggerPlaces) (c : Clause) (ks : List ℕ) (xs ys : List Rule) → AreWholePlaces g x → ks ≡ candidates x c.trigger → AddsRules g (Among (IsPlaceRule g c) ks) xs ys → AddsRules g (Below (IsPlaceRule g c) (places_for g c.trigger)) xs ys
unfolding AddsRules
told_candidates g x c ks xs ys h e a d cs gr =
    adds_iff (Among (IsPlaceRule g c) ks) (Below (IsPlaceRule g c) (places_for g c.trigger)) xs ys
    (λ r q. (q.0, whole_between g x h c.trigger q.0 (candidates_only g x h.places c.trigger q.0 (subst (λ (js : List ℕ). Contains js q.0) e q.1)), q.2))
    (λ r q.
    (q.0, subst (λ (js : List ℕ). Contains js q.0) (sym e) (candidates_listed g x (numbered_from_ground d cs g gr) (whole_in g x h) h.places q.2.0 c.trigger q.0 (between_whole g x h c.trigger q.0 q.1) q.2.2), q.2))
    (a d cs gr)

pub candidate_place : (g : Ground) (x : TriggerPlaces) (c : Clause) (ks : List ℕ) → AreWholePlaces g x → ks ≡ candidates x c.trigger → (k : ℕ) → Contains ks k → k < places_for g c.trigger
candidate_place g x c ks h e k w = whole_between g x h c.trigger k (candidates_only g x h.places c.trigger k (subst (λ (js : List ℕ). Contains js k) e w))

pub some_terms : (g : Ground) (x : TriggerPlaces) → AreWholePlaces g x → 0 < length x.terms
some_terms g x h = h.places.terms.some

pub some_atoms : (g : Ground) (x : TriggerPlaces) → AreWholePlaces g x → 0 < length x.atoms
some_atoms g x h = h.places.atoms.some

pub ruleset clause_rules = (told_candidates, candidate_place, some_terms, some_atoms)

-- the places of a whole ground part
pub whole_span : (g : Ground) (s e : LayerEnd) → s ≡ no_layer → e ≡ whole_end g → IsSpan g s e
whole_span g s e p q = record {
  end = record { terms = omega (arith, ap (λ (z : LayerEnd). z.terms) q); atoms = omega (arith, ap (λ (z : LayerEnd). z.atoms) q); equations = omega (arith, ap (λ (z : LayerEnd). z.equations) q) };
  terms = omega (arith, ap (λ (z : LayerEnd). z.terms) p);
  atoms = omega (arith, ap (λ (z : LayerEnd). z.atoms) p);
}

pub told_whole : (g : Ground) (x : TriggerPlaces) (s e : LayerEnd) → s ≡ no_layer → e ≡ whole_end g → (x.start ≡ s) × (x.end ≡ e) → AreTriggerPlaces g x → AreWholePlaces g x
told_whole g x s e p q r h = record { places = h; start = r.0 ∙ p; end = r.1 ∙ q }

pub ruleset whole_rules = (whole_span, told_whole)
