-- Goals without a common open variable are met apart.
use Rattle.std.proofs.Common.{◌≡◌, ◌-◌, ◌⊎◌, inl, inr, ℕ, zero, suc, List, [], ◌∷◌, ◌++◌, map, length, refl, arith, ap, sym, ◌∙◌, Bool, true, false, subst, append-nil}
use Rattle.std.specs.Prelude.{slice_get, Option, None, Some, not, nat_lt, ◌||◌, if◌then◌else◌, IsPermutation}
use Rattle.std.specs.List.{AllByRecursion}
use Rattle.std.proofs.lemmas.List.Sorted.{IsPermutation-refl, IsPermutation-sym, IsPermutation-cons}
use Rattle.std.proofs.lemmas.Bool.Decides.{leb_tells}
use Rattle.mz_match.specs.Slots.{Assignment, slot_at}
use Rattle.mz_match.specs.Places.{Agrees}
use Rattle.mz_search.specs.Kept.{flag_at, has_class, place_kept, goal_kept}
use Rattle.mz_search.specs.Goals.{Known, Goal, Refute, Meets, goal_of}
use Rattle.mz_search.specs.States.{Solvable, AreParts, AreSplit}
use Rattle.mz_search.specs.declared.parted.Parts.{Parts}
use Rattle.mz_search.proofs.AgreeLemmas.{SameKept, or_other, refute_agrees}
use Rattle.mz_search.specs.declared.goal.Goal as code
use Rattle.std.proofs.lemmas.List.{map-append}
use Rattle.mz_search.proofs.PickLemmas.{put_near, put_far}
use Rattle.mz_search.proofs.StateLemmas.{all_append, solvable_permuted}

length-scope : (a b : ℕ → ℕ) (scope : List ℕ) → length (map a scope) ≡ length (map b scope)
length-scope a b [] = refl
length-scope a b (i ∷ scope) = ap suc (length-scope a b scope)

slice_get-flagged : (p : ℕ → Bool) (a b : ℕ → ℕ) (scope : List ℕ) (j : ℕ) → ((i : ℕ) → p i ≡ true → a i ≡ b i) → flag_at (map p scope) j ≡ true → slice_get (map a scope) j ≡ slice_get (map b scope) j
slice_get-flagged p a b [] j h k = refl
slice_get-flagged p a b (i ∷ scope) zero h k = ap (λ x. Some x) (h i k)
slice_get-flagged p a b (i ∷ scope) (suc j) h k = slice_get-flagged p a b scope j h k

kept_same : (p : ℕ → Bool) (a b : ℕ → ℕ) (scope : List ℕ) → ((i : ℕ) → p i ≡ true → a i ≡ b i) → SameKept (map p scope) 0 0 (map a scope) (map b scope)
kept_same p a b scope h i k le =
    elim (leb_tells (suc i) 0) [
      | inl t ↦ absurd (omega (arith, t.1))
      | inr f ↦ slice_get-flagged p a b scope (i - 0) h (or_other (nat_lt i 0) (flag_at (map p scope) (i - 0)) f.0 k)
    ]

-- classes that agree at the places that are kept
goal_agrees : (k : Known) (e : Assignment) (marks : List Bool) (inside : Bool) (a b : ℕ → ℕ) (g : Goal) → ((i : ℕ) → place_kept e marks inside i ≡ true → a i ≡ b i) → goal_kept e marks inside g ≡ true → Meets k a g → Meets k b g
unfolding Meets
goal_agrees k e marks inside a b (Refute scope s f) h w m =
    refute_agrees k.rows k.values k.universals (map (place_kept e marks inside) scope) 0 (map a scope) (map b scope) (kept_same (place_kept e marks inside) a b scope h) (length-scope a b scope) s f w m

goals_agree : (k : Known) (e : Assignment) (marks : List Bool) (inside : Bool) (a b : ℕ → ℕ) (gs : List Goal) → ((i : ℕ) → place_kept e marks inside i ≡ true → a i ≡ b i) → AllByRecursion (λ g. goal_kept e marks inside g ≡ true) gs → AllByRecursion (Meets k a) gs → AllByRecursion (Meets k b) gs
goals_agree k e marks inside a b [] h w m = tt
goals_agree k e marks inside a b (g ∷ gs) h w m = (goal_agrees k e marks inside a b g h w.0 m.0, goals_agree k e marks inside a b gs h w.1 m.1)

-- the classes of the marked places and those of the others
both_classes : List Bool → (ℕ → ℕ) → (ℕ → ℕ) → ℕ → ℕ
both_classes marks a b i = if flag_at marks i then a i else b i

class_cases : (x : Option ℕ) (m : Bool) → (has_class x || m) ≡ true → ((v : ℕ) × (x ≡ Some v)) ⊎ (m ≡ true)
class_cases None m h = inr h
class_cases (Some v) m h = inl (v, refl)

if_same : (m : Bool) (x y z : ℕ) → x ≡ z → y ≡ z → z ≡ (if m then x else y)
if_same true x y z h k = sym h
if_same false x y z h k = sym k

marked_same : (e : Assignment) (marks : List Bool) (a b : ℕ → ℕ) → Agrees e a → Agrees e b → (i : ℕ) → place_kept e marks true i ≡ true → a i ≡ both_classes marks a b i
unfolding Agrees both_classes
marked_same e marks a b x y i h =
    elim (class_cases (slot_at e i) (flag_at marks i) h) [
      | inl c ↦ x i c.0 c.1 ∙ if_same (flag_at marks i) (a i) (b i) c.0 (x i c.0 c.1) (y i c.0 c.1)
      | inr c ↦ ap (λ m. if m then a i else b i) (sym c)
    ]

not_true : (m : Bool) → not m ≡ true → m ≡ false
not_true true h = sym h
not_true false h = refl

unmarked_same : (e : Assignment) (marks : List Bool) (a b : ℕ → ℕ) → Agrees e a → Agrees e b → (i : ℕ) → place_kept e marks false i ≡ true → b i ≡ both_classes marks a b i
unfolding Agrees both_classes
unmarked_same e marks a b x y i h =
    elim (class_cases (slot_at e i) (not (flag_at marks i)) h) [
      | inl c ↦ y i c.0 c.1 ∙ if_same (flag_at marks i) (a i) (b i) c.0 (x i c.0 c.1) (y i c.0 c.1)
      | inr c ↦ ap (λ m. if m then a i else b i) (sym (not_true (flag_at marks i) c))
    ]

both_agree : (e : Assignment) (marks : List Bool) (a b : ℕ → ℕ) → Agrees e a → Agrees e b → Agrees e (both_classes marks a b)
unfolding Agrees both_classes
both_agree e marks a b x y i v h = sym (if_same (flag_at marks i) (a i) (b i) v (x i v h) (y i v h))

apart : (k : Known) (e : Assignment) (marks : List Bool) (near far : List Goal) → AllByRecursion (λ g. goal_kept e marks true g ≡ true) near → AllByRecursion (λ g. goal_kept e marks false g ≡ true) far → Solvable k near e → Solvable k far e → Solvable k (near ++ far) e
unfolding Solvable
apart k e marks near far n f x y =
    let a : ℕ → ℕ = x.0 in
    let b : ℕ → ℕ = y.0 in
    let c : ℕ → ℕ = both_classes marks a b in (
      c,
      (
        both_agree e marks a b x.1.0 y.1.0,
        all_append (Meets k c) near far
            (goals_agree k e marks true a c near (marked_same e marks a b x.1.0 y.1.0) n x.1.1)
            (goals_agree k e marks false b c far (unmarked_same e marks a b x.1.0 y.1.0) f y.1.1),
      ),
    )

pub told_apart : (g : Goal) (e : Assignment) (marks : List Bool) (gs : List Goal) (p : Parts) → AreSplit e marks gs (map goal_of p.near.items) (map goal_of p.far.items) → goal_kept e marks true g ≡ true → AllByRecursion (λ h. goal_kept e marks false h ≡ true) (map goal_of p.far.items) → AreParts g e gs p
told_apart g e marks gs p s w o = record {
  order = s.order;
  apart = λ k x y. solvable_permuted k ((g ∷ map goal_of p.near.items) ++ map goal_of p.far.items) (g ∷ gs) e (IsPermutation-cons g (map goal_of p.near.items ++ map goal_of p.far.items) gs (IsPermutation-sym gs (map goal_of p.near.items ++ map goal_of p.far.items) s.order)) (apart k e marks (g ∷ map goal_of p.near.items) (map goal_of p.far.items) (w, s.inside) o x y);
}

pub told_together : (g : Goal) (e : Assignment) (marks : List Bool) (gs : List Goal) (p q : Parts) → AreSplit e marks gs (map goal_of p.near.items) (map goal_of p.far.items) → map goal_of q.near.items ≡ map goal_of p.near.items ++ map goal_of p.far.items → map goal_of q.far.items ≡ [] → AreParts g e gs q
told_together g e marks gs p q s n f =
    let o : IsPermutation gs (map goal_of q.near.items) = subst (λ (hs : List Goal). IsPermutation gs hs) (sym n) s.order in
    record {
      order = subst (λ (hs : List Goal). IsPermutation gs hs) (sym (append-nil (map goal_of q.near.items)) ∙ ap (λ hs. map goal_of q.near.items ++ hs) (sym f)) o;
      apart = λ k x y. solvable_permuted k (g ∷ map goal_of q.near.items) (g ∷ gs) e (IsPermutation-cons g (map goal_of q.near.items) gs (IsPermutation-sym gs (map goal_of q.near.items) o)) x;
    }

pub told_whole : (g : Goal) (e : Assignment) (marks : List Bool) (gs : List Goal) (p q : Parts) → AreSplit e marks gs (map goal_of p.near.items) (map goal_of p.far.items) → (q.near.items ≡ p.near.items ++ p.far.items) × (q.far.items ≡ []) → AreParts g e gs q
told_whole g e marks gs p q s h = told_together g e marks gs p q s (ap (map goal_of) h.0 ∙ map-append goal_of p.near.items p.far.items) (ap (map goal_of) h.1)

-- goals are put near or far one after another
pub split_none : (e : Assignment) (marks : List Bool) (gs : List code.Goal) (near far : List code.Goal) → near ≡ [] → far ≡ [] → AreSplit e marks (map goal_of gs) (map goal_of near) (map goal_of (gs ++ far))
split_none e marks gs near far n f =
    let w : map goal_of near ≡ [] = ap (map goal_of) n in
    let x : map goal_of (gs ++ far) ≡ map goal_of gs = ap (λ hs. map goal_of (gs ++ hs)) f ∙ ap (map goal_of) (append-nil gs) in
    record {
      order = subst (λ (hs : List Goal). IsPermutation (map goal_of gs) hs) (sym (ap (λ hs. hs ++ map goal_of (gs ++ far)) w ∙ x)) (IsPermutation-refl (map goal_of gs));
      inside = subst (λ (hs : List Goal). AllByRecursion (λ g. goal_kept e marks true g ≡ true) hs) (sym w) tt;
    }

order_put : (within : Bool) (gs : List Goal) (near far more_near more_far less : List code.Goal) (g : code.Goal) → IsPermutation gs (map goal_of near ++ ((map goal_of less ++ goal_of g ∷ []) ++ map goal_of far)) → more_near ≡ (if within then near ++ g ∷ [] else near) → more_far ≡ (if within then far else far ++ g ∷ []) → IsPermutation gs (map goal_of more_near ++ map goal_of (less ++ more_far))
order_put true gs near far more_near more_far less g h n f =
    subst (λ (hs : List Goal). IsPermutation gs hs)
    (sym (λ i. (ap (map goal_of) n ∙ map-append goal_of near (g ∷ [])) i ++ (ap (λ hs. map goal_of (less ++ hs)) f ∙ map-append goal_of less far) i))
    (put_near gs (map goal_of near) (map goal_of less) (map goal_of far) (goal_of g) h)
order_put false gs near far more_near more_far less g h n f =
    subst (λ (hs : List Goal). IsPermutation gs hs)
    (sym (λ i. ap (map goal_of) n i ++ (ap (λ hs. map goal_of (less ++ hs)) f ∙ map-append goal_of less (far ++ g ∷ []) ∙ ap (λ hs. map goal_of less ++ hs) (map-append goal_of far (g ∷ []))) i))
    (put_far gs (map goal_of near) (map goal_of less) (map goal_of far) (goal_of g) h)

order_more : (within : Bool) (gs : List Goal) (near left far more_near more_far less : List code.Goal) (g : code.Goal) → IsPermutation gs (map goal_of near ++ map goal_of (left ++ far)) → left ≡ less ++ g ∷ [] → more_near ≡ (if within then near ++ g ∷ [] else near) → more_far ≡ (if within then far else far ++ g ∷ []) → IsPermutation gs (map goal_of more_near ++ map goal_of (less ++ more_far))
order_more within gs near left far more_near more_far less g h e n f =
    let parts : map goal_of (left ++ far) ≡ (map goal_of less ++ goal_of g ∷ []) ++ map goal_of far =
    map-append goal_of left far ∙ ap (λ hs. hs ++ map goal_of far) (ap (map goal_of) e ∙ map-append goal_of less (g ∷ [])) in
    let whole : IsPermutation gs (map goal_of near ++ ((map goal_of less ++ goal_of g ∷ []) ++ map goal_of far)) = subst (λ (hs : List Goal). IsPermutation gs (map goal_of near ++ hs)) parts h in
    order_put within gs near far more_near more_far less g whole n f

inside_more : (within : Bool) (e : Assignment) (marks : List Bool) (near more_near : List code.Goal) (g : code.Goal) → within ≡ goal_kept e marks true (goal_of g) → AllByRecursion (λ h. goal_kept e marks true h ≡ true) (map goal_of near) → more_near ≡ (if within then near ++ g ∷ [] else near) → AllByRecursion (λ h. goal_kept e marks true h ≡ true) (map goal_of more_near)
inside_more true e marks near more_near g w h n =
    subst (λ (hs : List Goal). AllByRecursion (λ h. goal_kept e marks true h ≡ true) hs) (sym (ap (map goal_of) n ∙ map-append goal_of near (g ∷ [])))
    (all_append (λ h. goal_kept e marks true h ≡ true) (map goal_of near) (goal_of g ∷ []) h (sym w, tt))
inside_more false e marks near more_near g w h n = subst (λ (hs : List Goal). AllByRecursion (λ h. goal_kept e marks true h ≡ true) hs) (sym (ap (map goal_of) n)) h

pub split_more : (within : Bool) (e : Assignment) (marks : List Bool) (gs : List Goal) (near left far more_near more_far less : List code.Goal) (g : code.Goal) → AreSplit e marks gs (map goal_of near) (map goal_of (left ++ far)) → left ≡ less ++ g ∷ [] → within ≡ goal_kept e marks true (goal_of g) → more_near ≡ (if within then near ++ g ∷ [] else near) → more_far ≡ (if within then far else far ++ g ∷ []) → AreSplit e marks gs (map goal_of more_near) (map goal_of (less ++ more_far))
split_more within e marks gs near left far more_near more_far less g s q w n f = record {
  order = order_more within gs near left far more_near more_far less g s.order q n f;
  inside = inside_more within e marks near more_near g w s.inside n;
}
