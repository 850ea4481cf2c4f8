-- What a goal branches into asks for what the goal asks for.
use Rattle.std.proofs.Common.{◌≡◌, ◌<◌, ◌+◌, ◌⊎◌, inl, inr, ℕ, List, [], ◌∷◌, ◌++◌, map, length, refl, arith, ap, sym, ◌∙◌, Bool, true, false, subst, length-append}
use Rattle.std.proofs.lemmas.Bool.Decides.{eqb_tells}
use Rattle.std.specs.Prelude.{None, not, nat_eq, if◌then◌else◌}
use Rattle.std.specs.List.{AllByRecursion}
use Rattle.mz_logic.specs.Formula as form
use Rattle.mz_logic.specs.Formula.{Formula}
use Rattle.mz_logic.specs.FormulaStorage.{formula_size}
use Rattle.mz_match.specs.Rows.{SomeOf}
use Rattle.mz_match.specs.RowsRefuted.{RowsRefute}
use Rattle.mz_match.specs.Slots.{Assignment, slot_at}
use Rattle.mz_match.specs.Fitting.{Fits, Covered}
use Rattle.mz_search.specs.Hopeless.{MayRefute}
use Rattle.mz_match.specs.Places.{Agrees, Extends}
use Rattle.mz_match.specs.Literals.{IsLiteral, match_literal}
use Rattle.mz_match.specs.declared.table.Table.{Table}
use Rattle.mz_search.specs.Goals.{Known, Goal, Refute, Meets, IsBelow, known, size_of, sizes}
use Rattle.mz_search.specs.States.{State, Solvable, AreBranches, IsSmaller, IsPart, IsPushed, AreTaken}
use Rattle.mz_match.proofs.SomeLemmas.{some_map, some_left, some_right, some_cases, pull, witness}
use Rattle.mz_match.proofs.LiteralLemmas.{literal_found, literal_finds}
use Rattle.mz_match.proofs.PlaceLemmas.{places_fit, wider_there, wider_back}
use Rattle.mz_search.proofs.StateLemmas.{all_append, all_left, all_right, below_more}

pub size_positive : (f : Formula) → 0 < formula_size f
size_positive form.Truth = omega arith
size_positive (form.Eq t u) = omega arith
size_positive (form.Atom s ts) = omega arith
size_positive (form.Not f) = omega arith
size_positive (form.And f g) = omega arith
size_positive (form.All f) = omega arith

some_each : {X : Type 0} (P Q R : X → Type 0) (xs : List X) → ((x : X) → P x → Q x → R x) → SomeOf P xs → AllByRecursion Q xs → SomeOf R xs
some_each P Q R [] f h k = h
some_each P Q R (x ∷ xs) f h k = elim h [ inl a ↦ inl (f x a k.0) | inr b ↦ inr (some_each P Q R xs f b k.1) ]

-- for each choice of classes
abbrev pub MeetsAt : Known → (ℕ → ℕ) → State → Type 0
MeetsAt k a b = Agrees b.1 a × AllByRecursion (Meets k a) b.0

points_there : (k : Known) (g : Goal) (e : Assignment) (bs : List State) → ((a : ℕ → ℕ) → SomeOf (MeetsAt k a) bs → Agrees e a × Meets k a g) → (rest : List Goal) → SomeOf (λ b. Solvable k (b.0 ++ rest) b.1) bs → Solvable k (g ∷ rest) e
unfolding Solvable
points_there k g e bs f rest h =
    let x = witness (λ (b : State) (a : ℕ → ℕ). Agrees b.1 a × AllByRecursion (Meets k a) (b.0 ++ rest)) bs h in
    let y = pull (AllByRecursion (Meets k x.0) rest) (MeetsAt k x.0) bs
    (some_map (λ b. Agrees b.1 x.0 × AllByRecursion (Meets k x.0) (b.0 ++ rest)) (λ b. AllByRecursion (Meets k x.0) rest × MeetsAt k x.0 b) bs
    (λ b c. (all_right (Meets k x.0) b.0 rest c.1, (c.0, all_left (Meets k x.0) b.0 rest c.1))) x.1) in
    let z = f x.0 y.1 in
    (x.0, (z.0, (z.1, y.0)))

points_back : (k : Known) (g : Goal) (e : Assignment) (bs : List State) → ((a : ℕ → ℕ) → Agrees e a → Meets k a g → SomeOf (MeetsAt k a) bs) → (rest : List Goal) → Solvable k (g ∷ rest) e → SomeOf (λ b. Solvable k (b.0 ++ rest) b.1) bs
unfolding Solvable
points_back k g e bs f rest h =
    some_map (MeetsAt k h.0) (λ b. Solvable k (b.0 ++ rest) b.1) bs (λ b c. (h.0, (c.0, all_append (Meets k h.0) b.0 rest c.1 h.1.1.1))) (f h.0 h.1.0 h.1.1.0)

by_points : (k : Known) (g : Goal) (e : Assignment) (bs : List State) → ((a : ℕ → ℕ) → SomeOf (MeetsAt k a) bs → Agrees e a × Meets k a g) → ((a : ℕ → ℕ) → Agrees e a → Meets k a g → SomeOf (MeetsAt k a) bs) → AllByRecursion (IsSmaller e (size_of g)) bs → AreBranches k g e bs
by_points k g e bs f h s = record { there = λ rest w x. points_there k g e bs f rest x; back = λ rest w x. points_back k g e bs h rest x; each = s }

one_branch : (k : Known) (g : Goal) (e : Assignment) (gs : List Goal) → ((a : ℕ → ℕ) → AllByRecursion (Meets k a) gs → Meets k a g) → ((a : ℕ → ℕ) → Meets k a g → AllByRecursion (Meets k a) gs) → AllByRecursion (IsBelow (length e)) gs → sizes gs < size_of g → AreBranches k g e ((gs, e) ∷ [])
one_branch k g e gs f h w lt =
    by_points k g e ((gs, e) ∷ [])
    (λ a x. elim x [ inl c ↦ (c.0, f a c.1) | inr n ↦ absurd n ])
    (λ a c m. inl (c, h a m))
    (record { places = omega arith; within = w; smaller = lt }, tt)

not_there : (k : Known) (a : ℕ → ℕ) (scope : List ℕ) (s : Bool) (f : Formula) → Meets k a (Refute scope (not s) f) → Meets k a (Refute scope s (form.Not f))
unfolding Meets RowsRefute
not_there k a scope true f h = h
not_there k a scope false f h = h

not_back : (k : Known) (a : ℕ → ℕ) (scope : List ℕ) (s : Bool) (f : Formula) → Meets k a (Refute scope s (form.Not f)) → Meets k a (Refute scope (not s) f)
unfolding Meets RowsRefute
not_back k a scope true f h = h
not_back k a scope false f h = h

pub told_not : (k : Known) (scope : List ℕ) (s r : Bool) (f : Formula) (e : Assignment) (bs : List State) → AllByRecursion (λ i. i < length e) scope → r ≡ not s → bs ≡ (Refute scope r f ∷ [], e) ∷ [] → AreBranches k (Refute scope s (form.Not f)) e bs
told_not k scope s r f e bs w q h =
    subst (λ (xs : List State). AreBranches k (Refute scope s (form.Not f)) e xs) (sym (h ∙ ap (λ t. (Refute scope t f ∷ [], e) ∷ []) q))
    (one_branch k (Refute scope s (form.Not f)) e (Refute scope (not s) f ∷ []) (λ a m. not_there k a scope s f m.0) (λ a m. (not_back k a scope s f m, tt)) (w, tt) (omega arith))

both_there : (k : Known) (a : ℕ → ℕ) (scope : List ℕ) (f g : Formula) → Meets k a (Refute scope false f) → Meets k a (Refute scope false g) → Meets k a (Refute scope false (form.And f g))
unfolding Meets RowsRefute
both_there k a scope f g h m = (h, m)

both_back : (k : Known) (a : ℕ → ℕ) (scope : List ℕ) (f g : Formula) → Meets k a (Refute scope false (form.And f g)) → Meets k a (Refute scope false f) × Meets k a (Refute scope false g)
unfolding Meets RowsRefute
both_back k a scope f g h = (h.0, h.1)

pub told_both : (k : Known) (scope : List ℕ) (f g : Formula) (e : Assignment) (bs : List State) → AllByRecursion (λ i. i < length e) scope → bs ≡ (Refute scope false f ∷ Refute scope false g ∷ [], e) ∷ [] → AreBranches k (Refute scope false (form.And f g)) e bs
told_both k scope f g e bs w h =
    subst (λ (xs : List State). AreBranches k (Refute scope false (form.And f g)) e xs) (sym h)
    (one_branch k (Refute scope false (form.And f g)) e (Refute scope false f ∷ Refute scope false g ∷ [])
    (λ a m. both_there k a scope f g m.0 m.1.0) (λ a m. let x = both_back k a scope f g m in (x.0, (x.1, tt))) (w, (w, tt)) (omega arith))

-- one more variable
pub at_last : ℕ → ℕ → (ℕ → ℕ) → ℕ → ℕ
at_last n v a i = if nat_eq n i then v else a i

pub at_last-here : (n v : ℕ) (a : ℕ → ℕ) → at_last n v a n ≡ v
unfolding at_last
at_last-here n v a = elim (eqb_tells n n) [ inl t ↦ ap (λ b. if b then v else a n) t.0 | inr t ↦ absurd (t.1 refl) ]

pub at_last-there : (n v : ℕ) (a : ℕ → ℕ) (i : ℕ) → i < n → at_last n v a i ≡ a i
unfolding at_last
at_last-there n v a i lt = elim (eqb_tells n i) [ inl t ↦ let e : n ≡ i = t.1 in absurd (omega arith) | inr t ↦ ap (λ b. if b then v else a i) t.0 ]

pub scope_same : (n : ℕ) (a b : ℕ → ℕ) (scope : List ℕ) → ((i : ℕ) → i < n → b i ≡ a i) → AllByRecursion (λ i. i < n) scope → map b scope ≡ map a scope
scope_same n a b [] f w = refl
scope_same n a b (i ∷ scope) f w = λ j. f i w.0 j ∷ scope_same n a b scope f w.1 j

pub goal_same : (k : Known) (n : ℕ) (a b : ℕ → ℕ) (g : Goal) → ((i : ℕ) → i < n → b i ≡ a i) → IsBelow n g → Meets k a g → Meets k b g
unfolding Meets
goal_same k n a b (Refute scope s f) h w m = subst (λ (c : List ℕ). RowsRefute k.rows k.values k.universals s c f) (sym (scope_same n a b scope h w)) m

pub goals_same : (k : Known) (n : ℕ) (a b : ℕ → ℕ) (gs : List Goal) → ((i : ℕ) → i < n → b i ≡ a i) → AllByRecursion (IsBelow n) gs → AllByRecursion (Meets k a) gs → AllByRecursion (Meets k b) gs
goals_same k n a b [] h w m = tt
goals_same k n a b (g ∷ gs) h w m = (goal_same k n a b g h w.0 m.0, goals_same k n a b gs h w.1 m.1)

body_there : (k : Known) (scope : List ℕ) (f : Formula) (e : Assignment) (rest : List Goal) → Solvable k (Refute (length e ∷ scope) true f ∷ rest) (e ++ None ∷ []) → Solvable k (Refute scope true (form.All f) ∷ rest) e
unfolding Solvable Meets RowsRefute
body_there k scope f e rest h = (h.0, (wider_there e h.0 h.1.0, ((h.0 (length e), h.1.1.0), h.1.1.1)))

body_back : (k : Known) (scope : List ℕ) (f : Formula) (e : Assignment) (rest : List Goal) → AllByRecursion (λ i. i < length e) scope → AllByRecursion (IsBelow (length e)) rest → Solvable k (Refute scope true (form.All f) ∷ rest) e → Solvable k (Refute (length e ∷ scope) true f ∷ rest) (e ++ None ∷ [])
unfolding Solvable Meets RowsRefute
body_back k scope f e rest w u h =
    let n : ℕ = length e in
    let v : ℕ = h.1.1.0.0 in
    let b : ℕ → ℕ = at_last n v h.0 in
    let same : (i : ℕ) → i < n → b i ≡ h.0 i = λ i lt. at_last-there n v h.0 i lt in
    let q : v ∷ map h.0 scope ≡ b n ∷ map b scope = λ j. sym (at_last-here n v h.0) j ∷ sym (scope_same n h.0 b scope same w) j in
    (b, (wider_back e h.0 b h.1.0 same, (subst (λ (c : List ℕ). RowsRefute k.rows k.values k.universals true c f) q h.1.1.0.1, goals_same k n h.0 b rest same u h.1.1.1)))

pub told_body : (k : Known) (scope : List ℕ) (f : Formula) (e : Assignment) (bs : List State) → AllByRecursion (λ i. i < length e) scope → bs ≡ (Refute (length e ∷ scope) true f ∷ [], e ++ None ∷ []) ∷ [] → AreBranches k (Refute scope true (form.All f)) e bs
told_body k scope f e bs w h =
    let long : length (e ++ None ∷ []) ≡ length e + 1 = length-append e (None ∷ []) in
    subst (λ (xs : List State). AreBranches k (Refute scope true (form.All f)) e xs) (sym h)
    (record {
      there = λ rest u x. elim x [ inl c ↦ body_there k scope f e rest c | inr n ↦ absurd n ];
      back = λ rest u x. inl (body_back k scope f e rest w u x);
      each = (record { places = omega (arith, long); within = ((omega (arith, long), below_more (length e) (length (e ++ None ∷ [])) scope (omega (arith, long)) w), tt); smaller = omega arith }, tt);
    })

-- the parts of a conjunction
part_there : (k : Known) (g : Goal) (e : Assignment) (bs : List State) → IsPart k g e bs → (a : ℕ → ℕ) → SomeOf (MeetsAt k a) bs → Agrees e a × Meets k a g
part_there k g e bs p a h =
    elim p [
      | inl q ↦ elim (subst (λ (xs : List State). SomeOf (MeetsAt k a) xs) q h) [ inl c ↦ (c.0, c.1.0) | inr n ↦ absurd n ]
      | inr q ↦ absurd (subst (λ (xs : List State). SomeOf (MeetsAt k a) xs) q.0 h)
    ]

part_back : (k : Known) (g : Goal) (e : Assignment) (bs : List State) → IsPart k g e bs → (a : ℕ → ℕ) → Agrees e a → Meets k a g → SomeOf (MeetsAt k a) bs
part_back k g e bs p a c m =
    elim p [
      | inl q ↦ subst (λ (xs : List State). SomeOf (MeetsAt k a) xs) (sym q) (inl (c, (m, tt)))
      | inr q ↦ absurd (q.1 a c m)
    ]

part_each : (k : Known) (scope : List ℕ) (f : Formula) (n : ℕ) (e : Assignment) (bs : List State) → AllByRecursion (λ i. i < length e) scope → formula_size f < n → IsPart k (Refute scope true f) e bs → AllByRecursion (IsSmaller e n) bs
part_each k scope f n e bs w lt p =
    elim p [
      | inl q ↦ subst (λ (xs : List State). AllByRecursion (IsSmaller e n) xs) (sym q) (record { places = omega arith; within = (w, tt); smaller = omega (arith, lt) }, tt)
      | inr q ↦ subst (λ (xs : List State). AllByRecursion (IsSmaller e n) xs) (sym q.0) tt
    ]

left_met : (k : Known) (a : ℕ → ℕ) (scope : List ℕ) (f g : Formula) → Meets k a (Refute scope true f) → Meets k a (Refute scope true (form.And f g))
unfolding Meets RowsRefute
left_met k a scope f g h = inl h

right_met : (k : Known) (a : ℕ → ℕ) (scope : List ℕ) (f g : Formula) → Meets k a (Refute scope true g) → Meets k a (Refute scope true (form.And f g))
unfolding Meets RowsRefute
right_met k a scope f g h = inr h

either_met : (k : Known) (a : ℕ → ℕ) (scope : List ℕ) (f g : Formula) → Meets k a (Refute scope true (form.And f g)) → Meets k a (Refute scope true f) ⊎ Meets k a (Refute scope true g)
unfolding Meets RowsRefute
either_met k a scope f g h = h

pub told_either : (k : Known) (scope : List ℕ) (f g : Formula) (e : Assignment) (xs ys zs : List State) → AllByRecursion (λ i. i < length e) scope → IsPart k (Refute scope true f) e xs → IsPart k (Refute scope true g) e ys → zs ≡ xs ++ ys → AreBranches k (Refute scope true (form.And f g)) e zs
told_either k scope f g e xs ys zs w p q h =
    subst (λ (bs : List State). AreBranches k (Refute scope true (form.And f g)) e bs) (sym h)
    (by_points k (Refute scope true (form.And f g)) e (xs ++ ys)
    (λ a m. elim (some_cases (MeetsAt k a) xs ys m) [
      | inl c ↦ let r = part_there k (Refute scope true f) e xs p a c in (r.0, left_met k a scope f g r.1)
      | inr c ↦ let r = part_there k (Refute scope true g) e ys q a c in (r.0, right_met k a scope f g r.1)
    ])
    (λ a c m. elim (either_met k a scope f g m) [
      | inl r ↦ some_left (MeetsAt k a) xs ys (part_back k (Refute scope true f) e xs p a c r)
      | inr r ↦ some_right (MeetsAt k a) xs ys (part_back k (Refute scope true g) e ys q a c r)
    ])
    (all_append (IsSmaller e (size_of (Refute scope true (form.And f g)))) xs ys
    (part_each k scope f (size_of (Refute scope true (form.And f g))) e xs w (omega arith) p)
    (part_each k scope g (size_of (Refute scope true (form.And f g))) e ys w (omega arith) q)))

pub told_kept : (k : Known) (g : Goal) (e : Assignment) (bs : List State) → bs ≡ (g ∷ [], e) ∷ [] → IsPart k g e bs
told_kept k g e bs h = inl h

covered_here : (e : Assignment) (a : ℕ → ℕ) (scope : List ℕ) (local : Assignment) (single : List Assignment) → local ≡ map (slot_at e) scope → single ≡ local ∷ [] → Agrees e a → Covered single (map a scope)
covered_here e a scope local single q h c = subst (λ (ds : List Assignment). Covered ds (map a scope)) (sym (h ∙ ap (λ d. d ∷ []) q)) (inl (places_fit e a scope c))

pub told_left_out : (k : Known) (scope : List ℕ) (f : Formula) (e local : Assignment) (single : List Assignment) (b : Bool) (bs : List State) → local ≡ map (slot_at e) scope → single ≡ local ∷ [] → MayRefute k.rows k.values k.universals true f single b → b ≡ false → bs ≡ [] → IsPart k (Refute scope true f) e bs
unfolding MayRefute Meets
told_left_out k scope f e local single b bs q h m n z = inr (z, λ a c r. m n (map a scope) (covered_here e a scope local single q h c) r)

-- a literal
taken_smaller : (e : Assignment) (n : ℕ) (b : State) → 0 < n → (b.0 ≡ []) × (length b.1 ≡ length e) → IsSmaller e n b
taken_smaller e n b lt h =
    let same : length b.1 ≡ length e = h.1 in
    record {
      places = omega (arith, same);
      within = subst (λ (gs : List Goal). AllByRecursion (IsBelow (length b.1)) gs) (sym h.0) tt;
      smaller = subst (λ (gs : List Goal). sizes gs < n) (sym h.0) lt;
    }

all_taken : {X : Type 0} (P Q : X → Type 0) (xs : List X) → ((x : X) → P x → Q x) → AllByRecursion P xs → AllByRecursion Q xs
all_taken P Q [] f h = tt
all_taken P Q (x ∷ xs) f h = (f x h.0, all_taken P Q xs f h.1)

pub told_matched : (table : Table) (values : List ℕ) (us : List Formula) (scope : List ℕ) (s : Bool) (f : Formula) (e local : Assignment) (single found : List Assignment) (bs : List State) → IsLiteral s f → local ≡ map (slot_at e) scope → single ≡ local ∷ [] → found ≡ match_literal table values us s f single → AreTaken scope e found bs → AreBranches (known table values us) (Refute scope s f) e bs
unfolding Meets
told_matched table values us scope s f e local single found bs l q h m t =
    let k : Known = known table values us in
    by_points k (Refute scope s f) e bs
    (λ a x.
    let y = t.there a (some_map (MeetsAt k a) (λ b. Agrees b.1 a) bs (λ b c. c.0) x) in
    let z = literal_found table values us s f (map a scope) single l (subst (λ (ds : List Assignment). Covered ds (map a scope)) m y.1) in
    (y.0, z.1))
    (λ a c r.
    some_each (λ b. Agrees b.1 a) (λ b. (b.0 ≡ []) × (length b.1 ≡ length e)) (MeetsAt k a) bs
    (λ b x y. (x, subst (λ (gs : List Goal). AllByRecursion (Meets k a) gs) (sym y.0) tt))
    (t.back a c (subst (λ (ds : List Assignment). Covered ds (map a scope)) (sym m) (literal_finds table values us s f (map a scope) single l (covered_here e a scope local single q h c) r)))
    t.each)
    (all_taken (λ b. (b.0 ≡ []) × (length b.1 ≡ length e)) (IsSmaller e (formula_size f)) bs (λ b x. taken_smaller e (formula_size f) b (size_positive f) x) t.each)

pub told_none_taken : (scope : List ℕ) (e : Assignment) → AreTaken scope e [] []
told_none_taken scope e = record { there = λ a h. absurd h; back = λ a c h. absurd h; each = tt }

taken_more_there : (scope : List ℕ) (e l d : Assignment) (ls : List Assignment) (bs : List State) (b : Bool) (a : ℕ → ℕ) → AreTaken scope e ls bs → Extends (λ c. Fits l (map c scope)) e d b → SomeOf (λ x. Agrees x.1 a) (if b then bs ++ ([], d) ∷ [] else bs) → Agrees e a × Covered (ls ++ l ∷ []) (map a scope)
taken_more_there scope e l d ls bs true a t x h =
    elim (some_cases (λ (y : State). Agrees y.1 a) bs (([], d) ∷ []) h) [
      | inl c ↦ let r = t.there a c in (r.0, some_left (λ y. Fits y (map a scope)) ls (l ∷ []) r.1)
      | inr c ↦ elim c [ inl y ↦ let r = (x.there refl a).0 y in (r.0, some_right (λ z. Fits z (map a scope)) ls (l ∷ []) (inl r.1)) | inr n ↦ absurd n ]
    ]
taken_more_there scope e l d ls bs false a t x h = let r = t.there a h in (r.0, some_left (λ y. Fits y (map a scope)) ls (l ∷ []) r.1)

taken_more_back : (scope : List ℕ) (e l d : Assignment) (ls : List Assignment) (bs : List State) (b : Bool) (a : ℕ → ℕ) → AreTaken scope e ls bs → Extends (λ c. Fits l (map c scope)) e d b → Agrees e a → Covered (ls ++ l ∷ []) (map a scope) → SomeOf (λ x. Agrees x.1 a) (if b then bs ++ ([], d) ∷ [] else bs)
taken_more_back scope e l d ls bs true a t x c h =
    elim (some_cases (λ y. Fits y (map a scope)) ls (l ∷ []) h) [
      | inl r ↦ some_left (λ (y : State). Agrees y.1 a) bs (([], d) ∷ []) (t.back a c r)
      | inr r ↦ elim r [ inl y ↦ some_right (λ (z : State). Agrees z.1 a) bs (([], d) ∷ []) (inl ((x.there refl a).1 (c, y))) | inr n ↦ absurd n ]
    ]
taken_more_back scope e l d ls bs false a t x c h =
    elim (some_cases (λ y. Fits y (map a scope)) ls (l ∷ []) h) [
      | inl r ↦ t.back a c r
      | inr r ↦ elim r [ inl y ↦ absurd (x.nowhere refl a c y) | inr n ↦ absurd n ]
    ]

taken_more_each : (scope : List ℕ) (e l d : Assignment) (ls : List Assignment) (bs : List State) (b : Bool) → AreTaken scope e ls bs → Extends (λ c. Fits l (map c scope)) e d b → AllByRecursion (λ (x : State). (x.0 ≡ []) × (length x.1 ≡ length e)) (if b then bs ++ ([], d) ∷ [] else bs)
taken_more_each scope e l d ls bs true t x = all_append (λ (y : State). (y.0 ≡ []) × (length y.1 ≡ length e)) bs (([], d) ∷ []) t.each ((refl, x.count), tt)
taken_more_each scope e l d ls bs false t x = t.each

pub told_taken : (scope : List ℕ) (e l : Assignment) (ls : List Assignment) (bs cs : List State) → AreTaken scope e ls bs → IsPushed scope e l bs cs → AreTaken scope e (ls ++ l ∷ []) cs
told_taken scope e l ls bs cs t p =
    subst (λ (xs : List State). AreTaken scope e (ls ++ l ∷ []) xs) (sym p.3)
    (record {
      there = λ a h. taken_more_there scope e l p.0 ls bs p.1 a t p.2 h;
      back = λ a c h. taken_more_back scope e l p.0 ls bs p.1 a t p.2 c h;
      each = taken_more_each scope e l p.0 ls bs p.1 t p.2;
    })

pub told_pushed : (scope : List ℕ) (e l start d : Assignment) (b : Bool) (bs cs : List State) → start ≡ e → Extends (λ a. Fits l (map a scope)) start d b → b ≡ true → cs ≡ bs ++ ([], d) ∷ [] → IsPushed scope e l bs cs
told_pushed scope e l start d b bs cs q x t h = (d, b, subst (λ (y : Assignment). Extends (λ a. Fits l (map a scope)) y d b) q x, h ∙ ap (λ (r : Bool). if r then bs ++ ([], d) ∷ [] else bs) (sym t))

pub told_not_pushed : (scope : List ℕ) (e l start d : Assignment) (b : Bool) (bs cs : List State) → start ≡ e → Extends (λ a. Fits l (map a scope)) start d b → b ≡ false → cs ≡ bs → IsPushed scope e l bs cs
told_not_pushed scope e l start d b bs cs q x t h = (d, b, subst (λ (y : Assignment). Extends (λ a. Fits l (map a scope)) y d b) q x, h ∙ ap (λ (r : Bool). if r then bs ++ ([], d) ∷ [] else bs) (sym t))

pub ruleset branch_rules = (told_not, told_both, told_body, told_either)

pub ruleset part_rules = (told_kept, told_left_out)

pub ruleset matched_rules = (told_matched)

pub ruleset taken_rules = (told_pushed, told_not_pushed)
