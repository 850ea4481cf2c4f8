-- Goals with one branch are followed, and choices are made.
use Rattle.std.proofs.Common.{◌≡◌, ◌<◌, ◌≤◌, ◌+◌, inl, inr, ℕ, zero, suc, List, [], ◌∷◌, ◌++◌, map, length, refl, arith, ap, sym, ◌∙◌, true, false, subst, get_or, take, length-append}
use Rattle.std.specs.Prelude.{IsPermutation, MatchOption, Option, Some, IfOk, Result, Ok, Err}
use Rattle.std.specs.List.{AllByRecursion}
use Rattle.std.proofs.lemmas.List.{map-append}
use Rattle.std.proofs.lemmas.List.Sorted.{IsPermutation-sym, IsPermutation-map, IsPermutation-to_front, IsPermutation-append_comm}
use Rattle.mz_logic.specs.Formula.{Formula}
use Rattle.mz_search.specs.declared.goal.Goal as code
use Rattle.mz_search.specs.declared.branch.Branch.{Branch}
use Rattle.mz_search.specs.declared.parted.Parts.{Parts}
use Rattle.mz_search.specs.declared.settle.Choice.{Choice}
use Rattle.mz_match.specs.Rows.{SomeOf}
use Rattle.mz_match.specs.RowsRefuted.{RowsRefute}
use Rattle.mz_match.specs.Slots.{Assignment, slot_at}
use Rattle.mz_match.specs.Places.{Agrees}
use Rattle.mz_search.specs.Goals.{Known, Goal, Refute, goal_of, Meets, IsBelow, size_of, sizes}
use Rattle.mz_search.specs.States.{State, state_of, Solvable, IsWithin, IsSmaller, AreBranches, AreParts, IsChoice, IsNext}
use Rattle.mz_match.proofs.PlaceLemmas.{some_agree}
use Rattle.mz_search.proofs.BranchLemmas.{size_positive}
use Rattle.mz_search.proofs.StateLemmas.{all_append, all_left, all_right, all_permuted, goals_below_more, sizes_permuted, sizes-append, solvable_permuted}

pub if_ok : {A E : Type 0} (P Q : A → Type 0) (r : Result A E) → ((x : A) → P x → Q x) → IfOk r P → IfOk r Q
if_ok P Q (Ok x) f h = f x h
if_ok P Q (Err e) f h = tt

pub single_of : {X : Type 0} (xs ys : List X) (x : X) → xs ≡ ys ++ x ∷ [] → length xs ≡ 1 → xs ≡ x ∷ []
single_of xs [] x e n = e
single_of xs (y ∷ ys) x e n =
    let long : length xs ≡ length (y ∷ (ys ++ x ∷ [])) = ap length e in
    let more : length (ys ++ x ∷ []) ≡ length ys + 1 = length-append ys (x ∷ []) in
    absurd (omega (arith, long, more, n))

-- the goal that is picked, with its branches
pub told_choice : (k : Known) (gs : List Goal) (e : Assignment) (c : Choice) → IsPermutation gs (goal_of c.goal ∷ map goal_of c.rest.items) → AllByRecursion (IsBelow (length e)) gs → AreBranches k (goal_of c.goal) e (map state_of c.branches.items) → c.assignment ≡ e → IsChoice k (gs, e) c
told_choice k gs e c p w b q =
    let hs : List Goal = goal_of c.goal ∷ map goal_of c.rest.items in
    let same : sizes hs ≡ sizes gs = sizes_permuted gs hs p in
    record {
      there = λ x. solvable_permuted k hs gs e (IsPermutation-sym gs hs p) (subst (λ (d : Assignment). Solvable k hs d) q x);
      back = λ x. subst (λ (d : Assignment). Solvable k hs d) (sym q) (solvable_permuted k gs hs e p x);
      within = subst (λ (d : Assignment). AllByRecursion (IsBelow (length d)) hs) (sym q) (all_permuted (IsBelow (length e)) gs hs p w);
      branches = subst (λ (d : Assignment). AreBranches k (goal_of c.goal) d (map state_of c.branches.items)) (sym q) b;
      size = omega (arith, same);
    }

pub goal_below : (n : ℕ) (gs hs : List code.Goal) (g : code.Goal) → IsPermutation gs (g ∷ hs) → AllByRecursion (IsBelow n) (map goal_of gs) → AllByRecursion (λ i. i < n) g.scope.items
goal_below n gs hs g p w = (all_permuted (IsBelow n) (map goal_of gs) (goal_of g ∷ map goal_of hs) (IsPermutation-map goal_of gs (g ∷ hs) p) w).0

-- the state that stands in the place of another
pub record IsReached (k : Known) (s t : State) : Type 0 where
  pub there : Solvable k t.0 t.1 → Solvable k s.0 s.1
  pub back : Solvable k s.0 s.1 → Solvable k t.0 t.1
  pub within : IsWithin t
  pub size : sizes t.0 ≤ sizes s.0

pub start_reached : (k : Known) (s : State) → IsWithin s → IsReached k s s
start_reached k s w = record { there = λ x. x; back = λ x. x; within = w; size = omega arith }

-- the last goal is taken
map-popped : (gs less : List code.Goal) (g : code.Goal) → gs ≡ less ++ g ∷ [] → map goal_of gs ≡ map goal_of less ++ goal_of g ∷ []
map-popped gs less g e = ap (map goal_of) e ∙ map-append goal_of less (g ∷ [])

pub pop_reached : (k : Known) (s : State) (gs less : List code.Goal) (g : code.Goal) (e : Assignment) → IsReached k s (map goal_of gs, e) → gs ≡ less ++ g ∷ [] → IsReached k s (goal_of g ∷ map goal_of less, e)
pop_reached k s gs less g e r q =
    let p : IsPermutation (map goal_of gs) (goal_of g ∷ map goal_of less) = subst (λ (hs : List Goal). IsPermutation hs (goal_of g ∷ map goal_of less)) (sym (map-popped gs less g q)) (IsPermutation-to_front (map goal_of less) (goal_of g)) in
    let same : sizes (goal_of g ∷ map goal_of less) ≡ sizes (map goal_of gs) = sizes_permuted (map goal_of gs) (goal_of g ∷ map goal_of less) p in
    let le : sizes (map goal_of gs) ≤ sizes s.0 = r.size in
    record {
      there = λ x. r.there (solvable_permuted k (goal_of g ∷ map goal_of less) (map goal_of gs) e (IsPermutation-sym (map goal_of gs) (goal_of g ∷ map goal_of less) p) x);
      back = λ x. solvable_permuted k (map goal_of gs) (goal_of g ∷ map goal_of less) e p (r.back x);
      within = all_permuted (IsBelow (length e)) (map goal_of gs) (goal_of g ∷ map goal_of less) p r.within;
      size = omega (arith, same, le);
    }

pub pop_sizes : (gs less : List code.Goal) (g : code.Goal) → gs ≡ less ++ g ∷ [] → sizes (map goal_of gs) ≡ sizes (goal_of g ∷ map goal_of less)
pop_sizes gs less g q =
    let x : sizes (map goal_of gs) ≡ sizes (map goal_of less ++ goal_of g ∷ []) = ap sizes (map-popped gs less g q) in
    let y : sizes (map goal_of less ++ goal_of g ∷ []) ≡ sizes (map goal_of less) + sizes (goal_of g ∷ []) = sizes-append (map goal_of less) (goal_of g ∷ []) in
    omega (arith, x, y)

pub choice_reached : (k : Known) (s t : State) (c : Choice) → IsReached k s t → IsChoice k t c → IsChoice k s c
choice_reached k s t c r h =
    let le : sizes t.0 ≤ sizes s.0 = r.size in
    let m : size_of (goal_of c.goal) + sizes (map goal_of c.rest.items) ≤ sizes t.0 = h.size in
    record { there = λ x. r.there (h.there x); back = λ x. h.back (r.back x); within = h.within; branches = h.branches; size = omega (arith, le, m) }

pub next_reached : (k : Known) (s t u : State) → IsReached k s t → IsNext k t u → IsReached k s u
next_reached k s t u r n =
    let le : sizes t.0 ≤ sizes s.0 = r.size in
    let lt : sizes u.0 < sizes t.0 = n.smaller in
    record { there = λ x. r.there (n.there x); back = λ x. n.back (r.back x); within = n.within; size = omega (arith, le, lt) }

pub none_left : (k : Known) (s : State) (gs : List code.Goal) (e : Assignment) → IsReached k s (map goal_of gs, e) → length gs ≡ 0 → Solvable k s.0 s.1
unfolding Solvable
none_left k s [] e r q = let x = some_agree e in r.there (x.0, (x.1, tt))
none_left k s (g ∷ gs) e r q = absurd (omega (arith, q))

-- the only branch is followed
pub followed_next : (k : Known) (s : State) (c : Choice) (b next : Branch) → IsChoice k s c → c.branches.items ≡ b ∷ [] → next.goals.items ≡ c.rest.items ++ b.goals.items → next.assignment ≡ b.assignment → IsNext k s (state_of next)
followed_next k s c b next h q g d =
    let rest : List Goal = map goal_of c.rest.items in
    let more : List Goal = map goal_of b.goals.items in
    let gs : map goal_of next.goals.items ≡ rest ++ more = ap (map goal_of) g ∙ map-append goal_of c.rest.items b.goals.items in
    let e : map state_of c.branches.items ≡ (more, b.assignment) ∷ [] = ap (map state_of) q in
    let p : IsPermutation (more ++ rest) (map goal_of next.goals.items) = subst (λ (hs : List Goal). IsPermutation (more ++ rest) hs) (sym gs) (IsPermutation-append_comm more rest) in
    let each : IsSmaller c.assignment (size_of (goal_of c.goal)) (more, b.assignment) = (subst (λ (xs : List State). AllByRecursion (IsSmaller c.assignment (size_of (goal_of c.goal))) xs) e h.branches.each).0 in
    let same : sizes (map goal_of next.goals.items) ≡ sizes (more ++ rest) = sizes_permuted (more ++ rest) (map goal_of next.goals.items) p in
    let sum : sizes (more ++ rest) ≡ sizes more + sizes rest = sizes-append more rest in
    let small : sizes more < size_of (goal_of c.goal) = each.smaller in
    let le : size_of (goal_of c.goal) + sizes rest ≤ sizes s.0 = h.size in
    record {
      there = λ x.
          h.there (h.branches.there rest h.within.1 (subst (λ (xs : List State). SomeOf (λ b. Solvable k (b.0 ++ rest) b.1) xs) (sym e)
          (inl (solvable_permuted k (map goal_of next.goals.items) (more ++ rest) b.assignment (IsPermutation-sym (more ++ rest) (map goal_of next.goals.items) p) (subst (λ (y : Assignment). Solvable k (map goal_of next.goals.items) y) d x)))));
      back = λ x.
          subst (λ (y : Assignment). Solvable k (map goal_of next.goals.items) y) (sym d)
          (elim (subst (λ (xs : List State). SomeOf (λ b. Solvable k (b.0 ++ rest) b.1) xs) e (h.branches.back rest h.within.1 (h.back x))) [
            | inl y ↦ solvable_permuted k (more ++ rest) (map goal_of next.goals.items) b.assignment p y
            | inr n ↦ absurd n
          ]);
      within = subst (λ (y : Assignment). AllByRecursion (IsBelow (length y)) (map goal_of next.goals.items)) (sym d)
          (all_permuted (IsBelow (length b.assignment)) (more ++ rest) (map goal_of next.goals.items) p
          (all_append (IsBelow (length b.assignment)) more rest each.within (goals_below_more (length c.assignment) (length b.assignment) rest each.places h.within.1)));
      smaller = omega (arith, same, sum, small, le);
    }

-- the far goals by themselves
pub far_within : (k : Known) (s : State) (c : Choice) (p : Parts) → IsChoice k s c → AreParts (goal_of c.goal) c.assignment (map goal_of c.rest.items) p → AllByRecursion (IsBelow (length c.assignment)) (map goal_of p.near.items ++ map goal_of p.far.items)
far_within k s c p h a = all_permuted (IsBelow (length c.assignment)) (map goal_of c.rest.items) (map goal_of p.near.items ++ map goal_of p.far.items) a.order h.within.1

goal_positive : (g : Goal) → 0 < size_of g
goal_positive (Refute scope s f) = size_positive f

pub parts_size : (k : Known) (s : State) (c : Choice) (p : Parts) → IsChoice k s c → AreParts (goal_of c.goal) c.assignment (map goal_of c.rest.items) p → size_of (goal_of c.goal) + (sizes (map goal_of p.near.items) + sizes (map goal_of p.far.items)) ≤ sizes s.0
parts_size k s c p h a =
    let near : List Goal = map goal_of p.near.items in
    let far : List Goal = map goal_of p.far.items in
    let same : sizes (near ++ far) ≡ sizes (map goal_of c.rest.items) = sizes_permuted (map goal_of c.rest.items) (near ++ far) a.order in
    let sum : sizes (near ++ far) ≡ sizes near + sizes far = sizes-append near far in
    let le : size_of (goal_of c.goal) + sizes (map goal_of c.rest.items) ≤ sizes s.0 = h.size in
    omega (arith, same, sum, le)

pub far_smaller : (k : Known) (s : State) (c : Choice) (p : Parts) → IsChoice k s c → AreParts (goal_of c.goal) c.assignment (map goal_of c.rest.items) p → sizes (map goal_of p.far.items) < sizes s.0
far_smaller k s c p h a = let m = parts_size k s c p h a in let z : 0 < size_of (goal_of c.goal) = goal_positive (goal_of c.goal) in omega (arith, m, z)

-- the goal and the near goals, and the far goals
pub chosen_parts : (k : Known) (s : State) (c : Choice) (p : Parts) → IsChoice k s c → AreParts (goal_of c.goal) c.assignment (map goal_of c.rest.items) p → Solvable k s.0 s.1 → Solvable k (goal_of c.goal ∷ map goal_of p.near.items) c.assignment × Solvable k (map goal_of p.far.items) c.assignment
unfolding Solvable
chosen_parts k s c p h a x =
    let y = h.back x in
    let near : List Goal = map goal_of p.near.items in
    let far : List Goal = map goal_of p.far.items in
    let m : AllByRecursion (Meets k y.0) (near ++ far) = all_permuted (Meets k y.0) (map goal_of c.rest.items) (near ++ far) a.order y.1.1.1 in
    ((y.0, (y.1.0, (y.1.1.0, all_left (Meets k y.0) near far m))), (y.0, (y.1.0, all_right (Meets k y.0) near far m)))

-- one branch with the near goals
pub all_at : {X Y : Type 0} (P : Y → Type 0) (f : X → Y) (xs : List X) (i : ℕ) (x : X) → i < length xs → x ≡ get_or xs i x → AllByRecursion P (map f xs) → P (f x)
all_at P f [] i x lt e h = absurd (omega arith)
all_at P f (y ∷ xs) zero x lt e h = subst (λ z. P (f z)) (sym e) h.0
all_at P f (y ∷ xs) (suc i) x lt e h = all_at P f xs i x (omega arith) e h.1

pub some_at : {X Y : Type 0} (P : Y → Type 0) (f : X → Y) (xs : List X) (i : ℕ) (x : X) → i < length xs → x ≡ get_or xs i x → P (f x) → SomeOf P (map f xs)
some_at P f [] i x lt e h = absurd (omega arith)
some_at P f (y ∷ xs) zero x lt e h = inl (subst (λ z. P (f z)) e h)
some_at P f (y ∷ xs) (suc i) x lt e h = inr (some_at P f xs i x (omega arith) e h)

none_more : {X Y : Type 0} (P : Y → Type 0) (f : X → Y) (xs : List X) (i : ℕ) (x : X) → i < length xs → x ≡ get_or xs i x → (P (f x) → ⊥) → (SomeOf P (map f (take i xs)) → ⊥) → SomeOf P (map f (take (suc i) xs)) → ⊥
none_more P f [] i x lt e n h k = absurd (omega arith)
none_more P f (y ∷ xs) zero x lt e n h k = elim k [ inl a ↦ n (subst (λ z. P (f z)) (sym e) a) | inr b ↦ b ]
none_more P f (y ∷ xs) (suc i) x lt e n h k = elim k [ inl a ↦ h (inl a) | inr b ↦ none_more P f xs i x (omega arith) e n (λ c. h (inr c)) b ]

pub none_so_far : {X Y : Type 0} (P : Y → Type 0) (f : X → Y) (xs : List X) (i : ℕ) (x : X) → i < length xs → x ≡ get_or xs i x → (P (f x) → ⊥) → (SomeOf P (map f (take i xs)) → ⊥) → SomeOf P (map f (take (i + 1) xs)) → ⊥
none_so_far P f xs i x lt e n h k = let s : i + 1 ≡ suc i = omega arith in none_more P f xs i x lt e n h (subst (λ (j : ℕ). SomeOf P (map f (take j xs))) s k)

pub joined_within : (k : Known) (s : State) (c : Choice) (p : Parts) (b : State) → IsChoice k s c → AreParts (goal_of c.goal) c.assignment (map goal_of c.rest.items) p → IsSmaller c.assignment (size_of (goal_of c.goal)) b → IsWithin (b.0 ++ map goal_of p.near.items, b.1)
joined_within k s c p b h a m =
    all_append (IsBelow (length b.1)) b.0 (map goal_of p.near.items) m.within
    (goals_below_more (length c.assignment) (length b.1) (map goal_of p.near.items) m.places (all_left (IsBelow (length c.assignment)) (map goal_of p.near.items) (map goal_of p.far.items) (far_within k s c p h a)))

pub joined_smaller : (k : Known) (s : State) (c : Choice) (p : Parts) (b : State) → IsChoice k s c → AreParts (goal_of c.goal) c.assignment (map goal_of c.rest.items) p → IsSmaller c.assignment (size_of (goal_of c.goal)) b → sizes (b.0 ++ map goal_of p.near.items) < sizes s.0
joined_smaller k s c p b h a m =
    let x = parts_size k s c p h a in
    let y : sizes (b.0 ++ map goal_of p.near.items) ≡ sizes b.0 + sizes (map goal_of p.near.items) = sizes-append b.0 (map goal_of p.near.items) in
    let z : sizes b.0 < size_of (goal_of c.goal) = m.smaller in
    omega (arith, x, y, z)

pub near_below : (k : Known) (s : State) (c : Choice) (p : Parts) → IsChoice k s c → AreParts (goal_of c.goal) c.assignment (map goal_of c.rest.items) p → AllByRecursion (IsBelow (length c.assignment)) (map goal_of p.near.items)
near_below k s c p h a = all_left (IsBelow (length c.assignment)) (map goal_of p.near.items) (map goal_of p.far.items) (far_within k s c p h a)

pub found_solves : (k : Known) (s : State) (c : Choice) (p : Parts) → IsChoice k s c → AreParts (goal_of c.goal) c.assignment (map goal_of c.rest.items) p → Solvable k (map goal_of p.far.items) c.assignment → SomeOf (λ b. Solvable k (b.0 ++ map goal_of p.near.items) b.1) (map state_of c.branches.items) → Solvable k s.0 s.1
found_solves k s c p h a f x = h.there (a.apart k (h.branches.there (map goal_of p.near.items) (near_below k s c p h a) x) f)

pub none_solves : (k : Known) (s : State) (c : Choice) (p : Parts) → IsChoice k s c → AreParts (goal_of c.goal) c.assignment (map goal_of c.rest.items) p → (SomeOf (λ b. Solvable k (b.0 ++ map goal_of p.near.items) b.1) (map state_of c.branches.items) → ⊥) → Solvable k s.0 s.1 → ⊥
none_solves k s c p h a n x = n (h.branches.back (map goal_of p.near.items) (near_below k s c p h a) (chosen_parts k s c p h a x).0)

-- one branch after another
state_of-joined_full : (p : Parts) (b next : Branch) (near : List code.Goal) → near ≡ p.near.items → state_of next ≡ (map goal_of b.goals.items ++ map goal_of near, b.assignment) → state_of next ≡ (map goal_of b.goals.items ++ map goal_of p.near.items, b.assignment)
state_of-joined_full p b next near q w = w ∙ ap (λ (gs : List code.Goal). (map goal_of b.goals.items ++ map goal_of gs, b.assignment)) q

pub joined_facts : (k : Known) (s : State) (c : Choice) (p : Parts) (b next : Branch) (near : List code.Goal) (items : List Branch) (i : ℕ) → IsChoice k s c → AreParts (goal_of c.goal) c.assignment (map goal_of c.rest.items) p → items ≡ c.branches.items → i < length items → b ≡ get_or items i b → near ≡ p.near.items → state_of next ≡ (map goal_of b.goals.items ++ map goal_of near, b.assignment) → (sizes (map goal_of next.goals.items) < sizes s.0) × IsWithin (state_of next)
joined_facts k s c p b next near items i h a e lt at q w =
    let small : State → Type 0 = IsSmaller c.assignment (size_of (goal_of c.goal)) in
    let m : IsSmaller c.assignment (size_of (goal_of c.goal)) (state_of b) = all_at small state_of items i b lt at (subst (λ (xs : List Branch). AllByRecursion small (map state_of xs)) (sym e) h.branches.each) in
    let full = state_of-joined_full p b next near q w in
    (subst (λ (t : State). sizes t.0 < sizes s.0) (sym full) (joined_smaller k s c p (state_of b) h a m), subst (λ (t : State). IsWithin t) (sym full) (joined_within k s c p (state_of b) h a m))

pub next_solves : (k : Known) (s : State) (c : Choice) (p : Parts) (b next : Branch) (near : List code.Goal) (items : List Branch) (i : ℕ) → IsChoice k s c → AreParts (goal_of c.goal) c.assignment (map goal_of c.rest.items) p → items ≡ c.branches.items → i < length items → b ≡ get_or items i b → near ≡ p.near.items → state_of next ≡ (map goal_of b.goals.items ++ map goal_of near, b.assignment) → Solvable k (map goal_of p.far.items) c.assignment → Solvable k (map goal_of next.goals.items) next.assignment → Solvable k s.0 s.1
next_solves k s c p b next near items i h a e lt at q w f x =
    let full = state_of-joined_full p b next near q w in
    found_solves k s c p h a f
    (subst (λ (xs : List Branch). SomeOf (λ t. Solvable k (t.0 ++ map goal_of p.near.items) t.1) (map state_of xs)) e
    (some_at (λ t. Solvable k (t.0 ++ map goal_of p.near.items) t.1) state_of items i b lt at (subst (λ (t : State). Solvable k t.0 t.1) full x)))

pub next_fails : (k : Known) (p : Parts) (b next : Branch) (near : List code.Goal) (items : List Branch) (i : ℕ) → i < length items → b ≡ get_or items i b → near ≡ p.near.items → state_of next ≡ (map goal_of b.goals.items ++ map goal_of near, b.assignment) → (Solvable k (map goal_of next.goals.items) next.assignment → ⊥) → (SomeOf (λ t. Solvable k (t.0 ++ map goal_of p.near.items) t.1) (map state_of (take i items)) → ⊥) → SomeOf (λ t. Solvable k (t.0 ++ map goal_of p.near.items) t.1) (map state_of (take (i + 1) items)) → ⊥
next_fails k p b next near items i lt at q w n m x =
    let full = state_of-joined_full p b next near q w in
    none_so_far (λ t. Solvable k (t.0 ++ map goal_of p.near.items) t.1) state_of items i b lt at (λ y. n (subst (λ (t : State). Solvable k t.0 t.1) (sym full) y)) m x

take_past : {X : Type 0} (xs : List X) (i : ℕ) → length xs ≤ i → take i xs ≡ xs
take_past [] zero le = refl
take_past [] (suc i) le = refl
take_past (x ∷ xs) zero le = absurd (omega arith)
take_past (x ∷ xs) (suc i) le = ap (λ ys. x ∷ ys) (take_past xs i (omega arith))

pub none_of_all : {X Y : Type 0} (P : Y → Type 0) (f : X → Y) (xs ys : List X) (i : ℕ) → xs ≡ ys → length xs ≤ i → (SomeOf P (map f (take i xs)) → ⊥) → SomeOf P (map f ys) → ⊥
none_of_all P f xs ys i e le n h = n (subst (λ zs. SomeOf P (map f zs)) (sym (take_past xs i le ∙ e)) h)

pub choice_of : (k : Known) (s : State) (P : Type 0) (o : Option Choice) (c : Choice) → o ≡ Some c → MatchOption o P (IsChoice k s) → IsChoice k s c
choice_of k s P o c e h = subst (λ (x : Option Choice). MatchOption x P (IsChoice k s)) e h

pub false_true : false ≡ true → ⊥
false_true e = cc

-- the start of the search
pub start_there : (k : Known) (f : Formula) (gs : List Goal) (e : Assignment) → gs ≡ Refute [] true f ∷ [] → e ≡ [] → Solvable k gs e → RowsRefute k.rows k.values k.universals true [] f
unfolding Solvable Meets
start_there k f gs e q r h = (subst (λ (hs : List Goal). AllByRecursion (Meets k h.0) hs) q h.1.1).0

pub start_back : (k : Known) (f : Formula) (gs : List Goal) (e : Assignment) → gs ≡ Refute [] true f ∷ [] → e ≡ [] → RowsRefute k.rows k.values k.universals true [] f → Solvable k gs e
unfolding Solvable Meets Agrees
start_back k f gs e q r h = (λ i. i, (λ i v x. let y : slot_at [] i ≡ Some v = subst (λ (d : Assignment). slot_at d i ≡ Some v) r x in cc, subst (λ (hs : List Goal). AllByRecursion (Meets k (λ i. i)) hs) (sym q) (h, tt)))
