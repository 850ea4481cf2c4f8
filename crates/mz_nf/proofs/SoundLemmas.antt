-- Where each disjunct gives falsity, so does what was split.
use Rattle.std.proofs.Common.{get_or, ◌≡◌, ◌≤◌, ◌⊎◌, inl, inr, ℕ, suc, List, [], ◌∷◌, ◌++◌, map, refl, arith, sym, subst, Bool, true, false}
use Rattle.std.specs.Prelude.{All, Contains, ◌||◌, nat_eq}
use Rattle.std.specs.List.{list_any, AllByRecursion}
use Rattle.std.proofs.lemmas.Bool.{ne_eqb}
use Rattle.std.proofs.lemmas.List.{map-append}
use Rattle.std.proofs.lemmas.List.Elements.{Contains-append_left, Contains-append_right, Contains-append_cases, Contains-get_or}
use Rattle.mz_logic.specs.Term.{Const}
use Rattle.mz_logic.specs.Formula as formula
use Rattle.mz_logic.specs.Formula.{Formula}
use Rattle.mz_logic.specs.Formulas.{IsMember}
use Rattle.mz_logic.specs.Substitution.{body_at}
use Rattle.mz_logic.specs.Constants.{occurs_in_formula}
use Rattle.mz_logic.specs.Negation.{falsity}
use Rattle.mz_logic.specs.Literal.{signed, literal_formula}
use Rattle.mz_logic.specs.Derives.{Derives}
use Rattle.mz_logic.specs.declared.disjunct.Disjunct.{Disjunct}
use Rattle.mz_logic.proofs.Rules.{hypothesis, weakening, cut, and_in, and_left, and_right, not_in, not_out, classical, all_in}
use Rattle.mz_logic.proofs.Connectives.{first, under}
use Rattle.mz_logic.proofs.ValueLaws.{occurs_in_formula-body_at}
use Rattle.mz_nf.specs.declared.problem.Problem.{Problem}
use Rattle.mz_nf.specs.Problem.{parts_of, has_constant}
use Rattle.mz_nf.specs.Disjunct.{joined, pairs, formulas_of}
use Rattle.mz_nf.specs.Splits as splits
use Rattle.mz_nf.specs.Splits.{Splits, SplitsAll, AreDisjuncts}
use Rattle.mz_nf.specs.Laws.{HasConstantsOf}

-- tests that no element passes
neither_left : (a b : Bool) → (a || b) ≡ false → a ≡ false
neither_left true b h = h
neither_left false b h = refl

neither_right : (a b : Bool) → (a || b) ≡ false → b ≡ false
neither_right true b h = cc
neither_right false b h = h

neither : (a b : Bool) → a ≡ false → b ≡ false → (a || b) ≡ false
neither a b h k = rw (h, k) refl

none_left : (p : Formula → Bool) (d e : List Formula) → list_any p (d ++ e) ≡ false → list_any p d ≡ false
none_left p [] e h = refl
none_left p (f ∷ d) e h = neither (p f) (list_any p d) (neither_left (p f) (list_any p (d ++ e)) h) (none_left p d e (neither_right (p f) (list_any p (d ++ e)) h))

none_right : (p : Formula → Bool) (d e : List Formula) → list_any p (d ++ e) ≡ false → list_any p e ≡ false
none_right p [] e h = h
none_right p (f ∷ d) e h = none_right p d e (neither_right (p f) (list_any p (d ++ e)) h)

none_in : (p : Formula → Bool) (d e : List Formula) → list_any p d ≡ false → list_any p e ≡ false → list_any p (d ++ e) ≡ false
none_in p [] e h k = k
none_in p (f ∷ d) e h k = neither (p f) (list_any p (d ++ e)) (neither_left (p f) (list_any p d) h) (none_in p d e (neither_right (p f) (list_any p d) h) k)

none_joined : (p : Formula → Bool) (d e : Disjunct) → list_any p (formulas_of d) ≡ false → list_any p (formulas_of e) ≡ false → list_any p (formulas_of (joined d e)) ≡ false
none_joined p d e h k =
    let dl : List Formula = map literal_formula d.literals in
    let el : List Formula = map literal_formula e.literals in
    let parts : list_any p ((dl ++ el) ++ (d.universals ++ e.universals)) ≡ false =
    none_in p (dl ++ el) (d.universals ++ e.universals)
    (none_in p dl el (none_left p dl d.universals h) (none_left p el e.universals k))
    (none_in p d.universals e.universals (none_right p dl d.universals h) (none_right p el e.universals k)) in
    subst (λ (x : List Formula). list_any p (x ++ (d.universals ++ e.universals)) ≡ false) (sym (map-append literal_formula d.literals e.literals)) parts

-- no constant from k on that is still free occurs
abbrev pub IsUntouched : (ℕ → Bool) → ℕ → List Formula → Type 0
IsUntouched used k g = (j : ℕ) → k ≤ j → used j ≡ false → list_any (occurs_in_formula j) g ≡ false

abbrev pub IsAbsent : (ℕ → Bool) → ℕ → Formula → Type 0
IsAbsent used k f = (j : ℕ) → k ≤ j → used j ≡ false → occurs_in_formula j f ≡ false

abbrev AreUntouched : (ℕ → Bool) → ℕ → List Disjunct → Type 0
AreUntouched used k ds = AllByRecursion (λ d. IsUntouched used k (formulas_of d)) ds

-- the numbers rise
rises : (used : ℕ → Bool) (s : Bool) (f : Formula) (k m : ℕ) (ds : List Disjunct) → Splits used s f k ds m → k ≤ m
rises used s f k m ds (splits.truth l) = omega arith
rises used s f k m ds (splits.truth_negated l) = omega arith
rises used s f k m ds (splits.equation b t u l) = omega arith
rises used s f k m ds (splits.atom b p ts l) = omega arith
rises used s f k m ds (splits.negation g l n es h) = rises used false g l n es h
rises used s f k m ds (splits.negation_negated g l n es h) = rises used true g l n es h
rises used s f k m ds (splits.conjunction a b l n o es fs h i) = omega (arith, rises used true a l n es h, rises used true b n o fs i)
rises used s f k m ds (splits.conjunction_negated a b l n o es fs h i) = omega (arith, rises used false a l n es h, rises used false b n o fs i)
rises used s f k m ds (splits.universal b l) = omega arith
rises used s f k m ds (splits.universal_negated b l c n es i h) = omega (arith, i.reached, rises used false (body_at b (Const c)) (suc c) n es h)

body_absent : (used : ℕ → Bool) (b : Formula) (k c : ℕ) → k ≤ c → IsAbsent used k (formula.All b) → IsAbsent used (suc c) (body_at b (Const c))
body_absent used b k c kc h j le u =
    let apart : nat_eq c j ≡ false = ne_eqb c j (λ e. omega arith) in
    occurs_in_formula-body_at j (Const c) b apart (h j (omega arith) u)

-- facts of each disjunct
in_both : (P : Disjunct → Type 0) (ds es : List Disjunct) → AllByRecursion P ds → AllByRecursion P es → AllByRecursion P (ds ++ es)
in_both P [] es h i = i
in_both P (d ∷ ds) es h i = (h.0, in_both P ds es h.1 i)

in_left : (P : Disjunct → Type 0) (ds es : List Disjunct) → AllByRecursion P (ds ++ es) → AllByRecursion P ds
in_left P [] es h = tt
in_left P (d ∷ ds) es h = (h.0, in_left P ds es h.1)

in_right : (P : Disjunct → Type 0) (ds es : List Disjunct) → AllByRecursion P (ds ++ es) → AllByRecursion P es
in_right P [] es h = h
in_right P (d ∷ ds) es h = in_right P ds es h.1

each : (P Q : Disjunct → Type 0) → ((d : Disjunct) → P d → Q d) → (ds : List Disjunct) → AllByRecursion P ds → AllByRecursion Q ds
each P Q f [] h = tt
each P Q f (d ∷ ds) h = (f d h.0, each P Q f ds h.1)

each_of_two : (P Q R : Disjunct → Type 0) → ((d : Disjunct) → P d → Q d → R d) → (ds : List Disjunct) → AllByRecursion P ds → AllByRecursion Q ds → AllByRecursion R ds
each_of_two P Q R f [] h i = tt
each_of_two P Q R f (d ∷ ds) h i = (f d h.0 i.0, each_of_two P Q R f ds h.1 i.1)

out_of_map : (P : Disjunct → Type 0) (d : Disjunct) (es : List Disjunct) → AllByRecursion P (map (joined d) es) → AllByRecursion (λ e. P (joined d e)) es
out_of_map P d [] h = tt
out_of_map P d (e ∷ es) h = (h.0, out_of_map P d es h.1)

into_map : (P : Disjunct → Type 0) (d : Disjunct) (es : List Disjunct) → AllByRecursion (λ e. P (joined d e)) es → AllByRecursion P (map (joined d) es)
into_map P d [] h = tt
into_map P d (e ∷ es) h = (h.0, into_map P d es h.1)

out_of_pairs : (P : Disjunct → Type 0) (ds es : List Disjunct) → AllByRecursion P (pairs ds es) → AllByRecursion (λ d. AllByRecursion (λ e. P (joined d e)) es) ds
out_of_pairs P [] es h = tt
out_of_pairs P (d ∷ ds) es h = (out_of_map P d es (in_left P (map (joined d) es) (pairs ds es) h), out_of_pairs P ds es (in_right P (map (joined d) es) (pairs ds es) h))

behind_one : {X : Type 0} (g : List X) (h f : X) → Contains g f → Contains (h ∷ g) f
behind_one g h f c = (suc c.0, omega (arith, c.1), c.2)

pub each_member : (P : Disjunct → Type 0) (ds : List Disjunct) → ((d : Disjunct) → Contains ds d → P d) → AllByRecursion P ds
each_member P [] h = tt
each_member P (d ∷ ds) h = (h d (0, omega arith, refl), each_member P ds (λ e c. h e (behind_one ds d e c)))

-- the constants of disjuncts
pairs_untouched : (used : ℕ → Bool) (k : ℕ) (ds es : List Disjunct) → AreUntouched used k ds → AreUntouched used k es → AreUntouched used k (pairs ds es)
pairs_untouched used k [] es h i = tt
pairs_untouched used k (d ∷ ds) es h i =
    let P : Disjunct → Type 0 = λ x. IsUntouched used k (formulas_of x) in
    in_both P (map (joined d) es) (pairs ds es)
    (into_map P d es (each P (λ e. P (joined d e)) (λ e u j le x. none_joined (occurs_in_formula j) d e (h.0 j le x) (u j le x)) es i))
    (pairs_untouched used k ds es h.1 i)

literal_untouched : (used : ℕ → Bool) (k : ℕ) (s : Bool) (f : Formula) → IsAbsent used k f → IsUntouched used k (signed s f ∷ [])
literal_untouched used k true f h j le u = neither (occurs_in_formula j f) false (h j le u) refl
literal_untouched used k false f h j le u = neither (occurs_in_formula j f) false (h j le u) refl

later : (used : ℕ → Bool) (k m : ℕ) → k ≤ m → (ds : List Disjunct) → AreUntouched used k ds → AreUntouched used m ds
later used k m le ds h = each (λ d. IsUntouched used k (formulas_of d)) (λ d. IsUntouched used m (formulas_of d)) (λ d u j l x. u j (omega arith) x) ds h

left_absent : (used : ℕ → Bool) (k : ℕ) (p q : Formula) → IsAbsent used k (formula.And p q) → IsAbsent used k p
left_absent used k p q a j le u = neither_left (occurs_in_formula j p) (occurs_in_formula j q) (a j le u)

right_absent : (used : ℕ → Bool) (k m : ℕ) (p q : Formula) → k ≤ m → IsAbsent used k (formula.And p q) → IsAbsent used m q
right_absent used k m p q km a j le u = neither_right (occurs_in_formula j p) (occurs_in_formula j q) (a j (omega arith) u)

-- the disjuncts have no constant that is still to be taken
parts_untouched : (used : ℕ → Bool) (s : Bool) (f : Formula) (k m : ℕ) (ds : List Disjunct) → Splits used s f k ds m → IsAbsent used k f → AreUntouched used m ds
parts_untouched used s f k m ds (splits.truth l) a = (λ j le u. refl, tt)
parts_untouched used s f k m ds (splits.truth_negated l) a = tt
parts_untouched used s f k m ds (splits.equation b t v l) a = (literal_untouched used l b (formula.Eq t v) a, tt)
parts_untouched used s f k m ds (splits.atom b p ts l) a = (literal_untouched used l b (formula.Atom p ts) a, tt)
parts_untouched used s f k m ds (splits.negation g l n es h) a = parts_untouched used false g l n es h a
parts_untouched used s f k m ds (splits.negation_negated g l n es h) a = parts_untouched used true g l n es h a
parts_untouched used s f k m ds (splits.conjunction p q l n o es fs h i) a =
    let lo : l ≤ n = rises used true p l n es h in
    pairs_untouched used o es fs (later used n o (rises used true q n o fs i) es (parts_untouched used true p l n es h (left_absent used l p q a))) (parts_untouched used true q n o fs i (right_absent used l n p q lo a))
parts_untouched used s f k m ds (splits.conjunction_negated p q l n o es fs h i) a =
    let lo : l ≤ n = rises used false p l n es h in
    in_both (λ d. IsUntouched used o (formulas_of d)) es fs (later used n o (rises used false q n o fs i) es (parts_untouched used false p l n es h (left_absent used l p q a))) (parts_untouched used false q n o fs i (right_absent used l n p q lo a))
parts_untouched used s f k m ds (splits.universal b l) a = (literal_untouched used l true (formula.All b) a, tt)
parts_untouched used s f k m ds (splits.universal_negated b l c n es i h) a = parts_untouched used false (body_at b (Const c)) (suc c) n es h (body_absent used b l c i.reached a)

-- premises in another order
all_members : (g h : List Formula) → ((f : Formula) → Contains g f → Contains h f) → All (IsMember h) g
unfolding IsMember
all_members g h sub k d lt = sub (get_or g k d) (Contains-get_or g k d lt)

reordered : (ax g h : List Formula) (f : Formula) → ((k : Formula) → Contains g k → Contains h k) → Derives ax g f → Derives ax h f
reordered ax g h f sub d = weakening ax g h f (all_members g h sub) d

-- a member of a joined disjunct is one of either
of_joined : (d e : Disjunct) (f : Formula) → Contains (formulas_of (joined d e)) f → Contains (formulas_of d) f ⊎ Contains (formulas_of e) f
of_joined d e f c =
    let dl : List Formula = map literal_formula d.literals in
    let el : List Formula = map literal_formula e.literals in
    let moved : Contains ((dl ++ el) ++ (d.universals ++ e.universals)) f = subst (λ (x : List Formula). Contains (x ++ (d.universals ++ e.universals)) f) (map-append literal_formula d.literals e.literals) c in
    elim (Contains-append_cases (dl ++ el) (d.universals ++ e.universals) f moved) [
      | inl a ↦ elim (Contains-append_cases dl el f a) [
        | inl b ↦ inl (Contains-append_left dl d.universals f b)
        | inr b ↦ inr (Contains-append_left el e.universals f b)
      ]
      | inr a ↦ elim (Contains-append_cases d.universals e.universals f a) [
        | inl b ↦ inl (Contains-append_right dl d.universals f b)
        | inr b ↦ inr (Contains-append_right el e.universals f b)
      ]
    ]

-- what a joined disjunct derives, each of the two derives
apart : (d e : Disjunct) (g h : List Formula) → ((k : Formula) → Contains g k → Contains h k) → (f : Formula) → Contains (formulas_of (joined d e) ++ g) f → Contains (formulas_of e ++ (formulas_of d ++ h)) f
apart d e g h sub f c =
    elim (Contains-append_cases (formulas_of (joined d e)) g f c) [
      | inl a ↦ elim (of_joined d e f a) [
        | inl b ↦ Contains-append_right (formulas_of e) (formulas_of d ++ h) f (Contains-append_left (formulas_of d) h f b)
        | inr b ↦ Contains-append_left (formulas_of e) (formulas_of d ++ h) f b
      ]
      | inr a ↦ Contains-append_right (formulas_of e) (formulas_of d ++ h) f (Contains-append_right (formulas_of d) h f (sub f a))
    ]

-- falsity from each disjunct
abbrev pub IsRefuted : List Formula → List Formula → Disjunct → Type 0
IsRefuted ax g d = Derives ax (formulas_of d ++ g) falsity

each_apart : (ax g h : List Formula) (d : Disjunct) (es : List Disjunct) → ((k : Formula) → Contains g k → Contains h k) → AllByRecursion (λ e. IsRefuted ax g (joined d e)) es → AllByRecursion (IsRefuted ax (formulas_of d ++ h)) es
each_apart ax g h d es sub r =
    each (λ e. IsRefuted ax g (joined d e)) (IsRefuted ax (formulas_of d ++ h))
    (λ e x. reordered ax (formulas_of (joined d e) ++ g) (formulas_of e ++ (formulas_of d ++ h)) falsity (apart d e g h sub) x) es r

pub splits_sound : (ax : List Formula) (used : ℕ → Bool) (s : Bool) (f : Formula) (k m : ℕ) (ds : List Disjunct) → Splits used s f k ds m → IsAbsent used k f → (g : List Formula) → IsUntouched used k g → AllByRecursion (IsRefuted ax g) ds → Derives ax (signed s f ∷ g) falsity
splits_sound ax used s f k m ds (splits.truth l) a g u h = under ax g formula.Truth falsity h.0
splits_sound ax used s f k m ds (splits.truth_negated l) a g u h = first ax g falsity
splits_sound ax used s f k m ds (splits.equation b t v l) a g u h = h.0
splits_sound ax used s f k m ds (splits.atom b p ts l) a g u h = h.0
splits_sound ax used s f k m ds (splits.negation q l n es i) a g u h = splits_sound ax used false q l n es i a g u h
splits_sound ax used s f k m ds (splits.negation_negated q l n es i) a g u h =
    let no_q : Derives ax g (formula.Not q) = not_in ax g q (splits_sound ax used true q l n es i a g u h) in
    let nn : Formula = formula.Not (formula.Not q) in
    not_out ax (nn ∷ g) (formula.Not q) falsity (under ax g nn (formula.Not q) no_q) (first ax g nn)
splits_sound ax used s f k m ds (splits.conjunction p q l n o es fs i j) a g u h =
    let pq : Formula = formula.And p q in
    let lo : l ≤ n = rises used true p l n es i in
    let ap : IsAbsent used l p = left_absent used l p q a in
    let aq : IsAbsent used n q = right_absent used l n p q lo a in
    let u0 : IsUntouched used l (pq ∷ g) = λ x le y. neither (occurs_in_formula x pq) (list_any (occurs_in_formula x) g) (a x le y) (u x le y) in
    let parts : AreUntouched used n es = parts_untouched used true p l n es i ap in
    let pairwise : AllByRecursion (λ d. AllByRecursion (λ e. IsRefuted ax g (joined d e)) fs) es = out_of_pairs (IsRefuted ax g) es fs h in
    let within : AllByRecursion (IsRefuted ax (pq ∷ g)) es =
    each_of_two (λ d. IsUntouched used n (formulas_of d)) (λ d. AllByRecursion (λ e. IsRefuted ax g (joined d e)) fs) (IsRefuted ax (pq ∷ g))
    (λ d ud hd.
    let h0 : List Formula = formulas_of d ++ (pq ∷ g) in
    let un : IsUntouched used n h0 = λ x le y. none_in (occurs_in_formula x) (formulas_of d) (pq ∷ g) (ud x le y) (u0 x (omega arith) y) in
    let hs : AllByRecursion (IsRefuted ax h0) fs = each_apart ax g (pq ∷ g) d fs (λ z c. behind_one g pq z c) hd in
    let from_q : Derives ax (q ∷ h0) falsity = splits_sound ax used true q n o fs j aq h0 un hs in
    cut ax h0 q falsity (and_right ax h0 p q (hypothesis ax h0 pq (Contains-append_right (formulas_of d) (pq ∷ g) pq (0, omega arith, refl)))) from_q)
    es parts pairwise in
    let end : Derives ax (p ∷ pq ∷ g) falsity = splits_sound ax used true p l n es i ap (pq ∷ g) u0 within in
    cut ax (pq ∷ g) p falsity (and_left ax (pq ∷ g) p q (first ax g pq)) end
splits_sound ax used s f k m ds (splits.conjunction_negated p q l n o es fs i j) a g u h =
    let pq : Formula = formula.And p q in
    let npq : Formula = formula.Not pq in
    let lo : l ≤ n = rises used false p l n es i in
    let ap : IsAbsent used l p = left_absent used l p q a in
    let aq : IsAbsent used n q = right_absent used l n p q lo a in
    let dp : Derives ax g p = classical ax g p (splits_sound ax used false p l n es i ap g u (in_left (IsRefuted ax g) es fs h)) in
    let dq : Derives ax g q = classical ax g q (splits_sound ax used false q n o fs j aq g (λ x le y. u x (omega arith) y) (in_right (IsRefuted ax g) es fs h)) in
    not_out ax (npq ∷ g) pq falsity (under ax g npq pq (and_in ax g p q dp dq)) (first ax g npq)
splits_sound ax used s f k m ds (splits.universal b l) a g u h = h.0
splits_sound ax used s f k m ds (splits.universal_negated b l c n es i r) a g u h =
    let at : Formula = body_at b (Const c) in
    let nall : Formula = formula.Not (formula.All b) in
    let reached : l ≤ c = i.reached in
    let d : Derives ax g at = classical ax g at (splits_sound ax used false at (suc c) n es r (body_absent used b l c reached a) g (λ x le y. u x (omega arith) y) h) in
    let all : Derives ax g (formula.All b) = all_in ax g b c (u c reached i.unused) (a c reached i.unused) d in
    not_out ax (nall ∷ g) (formula.All b) falsity (under ax g nall (formula.All b) all) (first ax g nall)

past : (rest : List Formula) (d : Disjunct) (g : List Formula) (f : Formula) → Contains (rest ++ (formulas_of d ++ g)) f → Contains (formulas_of d ++ (rest ++ g)) f
past rest d g f c =
    elim (Contains-append_cases rest (formulas_of d ++ g) f c) [
      | inl a ↦ Contains-append_right (formulas_of d) (rest ++ g) f (Contains-append_left rest g f a)
      | inr a ↦ elim (Contains-append_cases (formulas_of d) g f a) [
        | inl b ↦ Contains-append_left (formulas_of d) (rest ++ g) f b
        | inr b ↦ Contains-append_right (formulas_of d) (rest ++ g) f (Contains-append_right rest g f b)
      ]
    ]

-- the same of a list
all_splits_sound : (ax : List Formula) (used : ℕ → Bool) (fs : List Formula) (k m : ℕ) (ds : List Disjunct) → SplitsAll used fs k ds m → IsUntouched used k fs → (g : List Formula) → IsUntouched used k g → AllByRecursion (IsRefuted ax g) ds → Derives ax (fs ++ g) falsity
all_splits_sound ax used fs k m ds (splits.end l) a g u h = h.0
all_splits_sound ax used fs k m ds (splits.next f rest l n o es gs i j) a g u h =
    let lo : l ≤ n = rises used true f l n es i in
    let af : IsAbsent used l f = λ x le y. neither_left (occurs_in_formula x f) (list_any (occurs_in_formula x) rest) (a x le y) in
    let ar : IsUntouched used l rest = λ x le y. neither_right (occurs_in_formula x f) (list_any (occurs_in_formula x) rest) (a x le y) in
    let parts : AreUntouched used n es = parts_untouched used true f l n es i af in
    let pairwise : AllByRecursion (λ d. AllByRecursion (λ e. IsRefuted ax g (joined d e)) gs) es = out_of_pairs (IsRefuted ax g) es gs h in
    let within : AllByRecursion (IsRefuted ax (rest ++ g)) es =
    each_of_two (λ d. IsUntouched used n (formulas_of d)) (λ d. AllByRecursion (λ e. IsRefuted ax g (joined d e)) gs) (IsRefuted ax (rest ++ g))
    (λ d ud hd.
    let h0 : List Formula = formulas_of d ++ g in
    let un : IsUntouched used n h0 = λ x le y. none_in (occurs_in_formula x) (formulas_of d) g (ud x le y) (u x (omega arith) y) in
    let hs : AllByRecursion (IsRefuted ax h0) gs = each_apart ax g g d gs (λ z c. c) hd in
    let from_rest : Derives ax (rest ++ h0) falsity = all_splits_sound ax used rest n o gs j (λ x le y. ar x (omega arith) y) h0 un hs in
    reordered ax (rest ++ h0) (formulas_of d ++ (rest ++ g)) falsity (past rest d g) from_rest)
    es parts pairwise in
    splits_sound ax used true f l n es i af (rest ++ g) (λ x le y. none_in (occurs_in_formula x) rest g (ar x le y) (u x le y)) within

-- the law of a problem
conclusion_first : (p : Problem) (clauses : List Formula) (f : Formula) → Contains (parts_of p ++ clauses) f → Contains (formula.Not p.conclusion ∷ (p.premises ++ clauses)) f
conclusion_first p clauses f c =
    let n : Formula = formula.Not p.conclusion in
    let g : List Formula = p.premises ++ clauses in
    elim (Contains-append_cases (p.premises ++ n ∷ []) clauses f c) [
      | inl a ↦ elim (Contains-append_cases p.premises (n ∷ []) f a) [
        | inl b ↦ behind_one g n f (Contains-append_left p.premises clauses f b)
        | inr b ↦ Contains-append_left (n ∷ []) g f b
      ]
      | inr a ↦ behind_one g n f (Contains-append_right p.premises clauses f a)
    ]

pub splitting : (axioms clauses : List Formula) (p : Problem) (ds : List Disjunct) → AreDisjuncts p ds → HasConstantsOf p clauses → ((d : Disjunct) → Contains ds d → Derives axioms (formulas_of d ++ clauses) falsity) → Derives axioms (p.premises ++ clauses) p.conclusion
splitting ax clauses p ds are known refuted =
    let n : Formula = formula.Not p.conclusion in
    let g : List Formula = p.premises ++ clauses in
    let parts : IsUntouched (has_constant p) 1 (parts_of p) = λ j le u.
    none_in (occurs_in_formula j) p.premises (n ∷ [])
    (neither_left (list_any (occurs_in_formula j) p.premises) (occurs_in_formula j p.conclusion) u)
    (neither (occurs_in_formula j p.conclusion) false (neither_right (list_any (occurs_in_formula j) p.premises) (occurs_in_formula j p.conclusion) u) refl) in
    let end : Derives ax (parts_of p ++ clauses) falsity = all_splits_sound ax (has_constant p) (parts_of p) 1 are.0 ds are.1 parts clauses known (each_member (IsRefuted ax clauses) ds refuted) in
    classical ax g p.conclusion (reordered ax (parts_of p ++ clauses) (n ∷ g) falsity (conclusion_first p clauses) end)
