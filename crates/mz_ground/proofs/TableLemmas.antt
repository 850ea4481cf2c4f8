-- The terms of entries.
use Rattle.std.proofs.Common.{◌≡◌, ◌<◌, ◌≤◌, ◌+◌, ℕ, zero, suc, Bool, true, false, List, [], ◌∷◌, ◌++◌, length, map, get_or, refl, sym, ap, ◌∙◌, subst, arith, ◌⊎◌, inl, inr, Option, Some, None}
use Rattle.std.specs.Prelude.{Contains, slice_get, ◌&&◌}
use Rattle.std.proofs.lemmas.List.{append-nil, append_assoc, length-append}
use Rattle.std.proofs.lemmas.List.Elements.{Contains-append_left, Contains-push, Contains-push_cases}
use Rattle.std.proofs.lemmas.List.Quantifiers.{all_pairs_push}
use Rattle.std.proofs.lemmas.Option.{slice_get_within, same_Some, none-some}
use Rattle.std.proofs.lemmas.Bool.{cases_lt}
use Rattle.mz_logic.specs.declared.sym.Sym.{Sym}
use Rattle.mz_logic.specs.Term as term
use Rattle.mz_logic.specs.Term.{Term, terms_of}
use Rattle.mz_logic.specs.TermStorage.{terms_of-inj}
use Rattle.mz_logic.specs.Indices.{closed, args_below}
use Rattle.mz_ground.specs.GroundExpression.{IsWithin, whole, argument}
use Rattle.mz_ground.specs.Ground.{term_at, term_or_zero, term_of_entry, terms_after, IsDistinct}
use Rattle.mz_ground.specs.Table.{Extends, IsPlaced, entry_terms, IsTable, Reads, IsFound}
use Rattle.mz_ground.specs.declared.ground_term.GroundTerm.{GroundTerm}
use Rattle.mz_ground.specs.declared.ground_term.GroundTerm.TheVariants.{Const, App}
use Rattle.mz_ground.proofs.ListLemmas.{contains_none, contains_first, contains_later, contains_get, get_contained, contains_map, get_push_cases, extends_itself, extends-length}

pub terms_after-append : (b : List Term) (es fs : List GroundTerm) → terms_after b (es ++ fs) ≡ terms_after (terms_after b es) fs
terms_after-append b [] fs = refl
terms_after-append b (e ∷ es) fs = terms_after-append (b ++ term_of_entry b e ∷ []) es fs

-- the terms of entries without those before them
abbrev pub tail_after : List Term → List GroundTerm → List Term
tail_after b [] = []
tail_after b (e ∷ es) = term_of_entry b e ∷ tail_after (b ++ term_of_entry b e ∷ []) es

pub terms_after-tail : (b : List Term) (es : List GroundTerm) → terms_after b es ≡ b ++ tail_after b es
terms_after-tail b [] = sym (append-nil b)
terms_after-tail b (e ∷ es) =
    let v : Term = term_of_entry b e in
    terms_after-tail (b ++ v ∷ []) es ∙ append_assoc b (v ∷ []) (tail_after (b ++ v ∷ []) es)

pub terms_after-length : (b : List Term) (es : List GroundTerm) → length (terms_after b es) ≡ length b + length es
terms_after-length b [] = omega arith
terms_after-length b (e ∷ es) =
    let v : Term = term_of_entry b e in
    omega (arith, terms_after-length (b ++ v ∷ []) es, length-append b (v ∷ []))

pub entry_terms-length : (es : List GroundTerm) → length (entry_terms es) ≡ length es
entry_terms-length es = omega (arith, terms_after-length [] es)

pub entry_terms-append : (es fs : List GroundTerm) → entry_terms (es ++ fs) ≡ entry_terms es ++ tail_after (entry_terms es) fs
entry_terms-append es fs = terms_after-append [] es fs ∙ terms_after-tail (entry_terms es) fs

pub term_at-append : (xs ys : List Term) (k : ℕ) → k < length xs → term_at (xs ++ ys) k ≡ term_at xs k
term_at-append [] ys k lt = absurd (omega arith)
term_at-append (x ∷ xs) ys zero lt = refl
term_at-append (x ∷ xs) ys (suc k) lt = term_at-append xs ys k (omega arith)

term_at-end : (xs : List Term) (x : Term) (ys : List Term) → term_at (xs ++ x ∷ ys) (length xs) ≡ x
term_at-end [] x ys = refl
term_at-end (z ∷ zs) x ys = term_at-end zs x ys

pub get-term_at : (ts : List Term) (k : ℕ) → k < length ts → slice_get ts k ≡ Some (term_at ts k)
get-term_at [] k lt = absurd (omega arith)
get-term_at (t ∷ ts) zero lt = refl
get-term_at (t ∷ ts) (suc k) lt = get-term_at ts k (omega arith)

pub get_or-term_at : (ts : List Term) (k : ℕ) (d : Term) → k < length ts → get_or ts k d ≡ term_at ts k
get_or-term_at [] k d lt = absurd (omega arith)
get_or-term_at (t ∷ ts) zero d lt = refl
get_or-term_at (t ∷ ts) (suc k) d lt = get_or-term_at ts k d (omega arith)

pub term_at-contained : (ts : List Term) (k : ℕ) → k < length ts → Contains ts (term_at ts k)
term_at-contained ts k lt = contains_get ts k (term_at ts k) (get-term_at ts k lt)

pub contained_at : (ts : List Term) (t : Term) (w : Contains ts t) → term_at ts w.0 ≡ t
contained_at ts t w = ap term_or_zero (get_contained ts t w)

pub map_term_at-append : (xs ys : List Term) (ks : List ℕ) → ((k : ℕ) → Contains ks k → k < length xs) → map (term_at (xs ++ ys)) ks ≡ map (term_at xs) ks
map_term_at-append xs ys [] h = refl
map_term_at-append xs ys (k ∷ ks) h =
    let a : term_at (xs ++ ys) k ≡ term_at xs k = term_at-append xs ys k (h k (contains_first k ks)) in
    let b : map (term_at (xs ++ ys)) ks ≡ map (term_at xs) ks = map_term_at-append xs ys ks (λ j w. h j (contains_later k j ks w)) in
    λ i. a i ∷ b i

-- the arguments of the entry are below n
abbrev pub ArgsBelow : ℕ → GroundTerm → Type 0
ArgsBelow n (Const number) = Unit {0}
ArgsBelow n (App sym args) = (k : ℕ) → Contains args k → k < n

pub below_weaker : (m n : ℕ) (e : GroundTerm) → m ≤ n → ArgsBelow m e → ArgsBelow n e
below_weaker m n (Const number) le h = tt
below_weaker m n (App sym args) le h = λ k w. let lt : k < m = h k w in omega arith

pub term_of_entry-append : (b xs : List Term) (e : GroundTerm) → ArgsBelow (length b) e → term_of_entry (b ++ xs) e ≡ term_of_entry b e
term_of_entry-append b xs (Const number) h = refl
term_of_entry-append b xs (App sym args) h = ap (λ us. term.App sym (terms_of us)) (map_term_at-append b xs args h)

reads_after : (b : List Term) (es : List GroundTerm) (k n : ℕ) (e : GroundTerm) → n ≡ length b + k → slice_get es k ≡ Some e → ArgsBelow n e → term_at (terms_after b es) n ≡ term_of_entry (terms_after b es) e
reads_after b [] k n e q g h = absurd (none-some e g)
reads_after b (d ∷ es) zero n e q g h =
    let v : Term = term_of_entry b d in
    let rest : List Term = tail_after (b ++ v ∷ []) es in
    let p : n ≡ length b = omega arith in
    let all : terms_after b (d ∷ es) ≡ b ++ v ∷ rest = terms_after-tail b (d ∷ es) in
    let low : ArgsBelow (length b) e = subst (λ (m : ℕ). ArgsBelow m e) p h in
    let same : v ≡ term_of_entry b e = ap (term_of_entry b) (same_Some d e g) in
    ap (term_at (terms_after b (d ∷ es))) p ∙ ap (λ z. term_at z (length b)) all ∙ term_at-end b v rest ∙ same
    ∙ sym (term_of_entry-append b (v ∷ rest) e low) ∙ ap (λ z. term_of_entry z e) (sym all)
reads_after b (d ∷ es) (suc k) n e q g h =
    let v : Term = term_of_entry b d in
    reads_after (b ++ v ∷ []) es k n e (omega (arith, length-append b (v ∷ []))) g h

pub below_in : (es : List GroundTerm) → IsTable es → (k : ℕ) (e : GroundTerm) → slice_get es k ≡ Some e → ArgsBelow k e
below_in es h k (Const number) g = tt
below_in es h k (App sym args) g = λ j w. h.earlier k j sym args g w

pub term_at-table_read : (es : List GroundTerm) → IsTable es → (k : ℕ) (e : GroundTerm) → slice_get es k ≡ Some e → term_at (entry_terms es) k ≡ term_of_entry (entry_terms es) e
term_at-table_read es h k e g = reads_after [] es k k e (omega arith) g (below_in es h k e g)

-- a term stands at one place
pub term_at-inj : (ts : List Term) → IsDistinct ts → (i j : ℕ) → i < length ts → j < length ts → term_at ts i ≡ term_at ts j → i ≡ j
term_at-inj ts h i j li lj e =
    let p : get_or ts i (term.Const 0) ≡ term_at ts i = get_or-term_at ts i (term.Const 0) li in
    let q : get_or ts j (term.Const 0) ≡ term_at ts j = get_or-term_at ts j (term.Const 0) lj in
    elim (cases_lt i j) [
      | inl l ↦ absurd (h i j (term.Const 0) l lj (p ∙ e ∙ sym q))
      | inr l ↦ elim (cases_lt j i) [
        | inl m ↦ absurd (h j i (term.Const 0) m li (q ∙ sym e ∙ sym p))
        | inr m ↦ omega arith
      ]
    ]

pub map_term_at-inj : (ts : List Term) → IsDistinct ts → (is js : List ℕ) → ((k : ℕ) → Contains is k → k < length ts) → ((k : ℕ) → Contains js k → k < length ts) → map (term_at ts) is ≡ map (term_at ts) js → is ≡ js
map_term_at-inj ts h [] [] p q e = refl
map_term_at-inj ts h [] (j ∷ js) p q e = cc
map_term_at-inj ts h (i ∷ is) [] p q e = cc
map_term_at-inj ts h (i ∷ is) (j ∷ js) p q e =
    let first : term_at ts i ≡ term_at ts j = cc in
    let rest : map (term_at ts) is ≡ map (term_at ts) js = cc in
    let a : i ≡ j = term_at-inj ts h i j (p i (contains_first i is)) (q j (contains_first j js)) first in
    let b : is ≡ js = map_term_at-inj ts h is js (λ k w. p k (contains_later i k is w)) (λ k w. q k (contains_later j k js w)) rest in
    λ t. a t ∷ b t

entry-inj : (ts : List Term) → IsDistinct ts → (e f : GroundTerm) → ArgsBelow (length ts) e → ArgsBelow (length ts) f → term_of_entry ts e ≡ term_of_entry ts f → e ≡ f
entry-inj ts h (Const m) (Const n) p q e = let k : m ≡ n = cc in ap Const k
entry-inj ts h (Const m) (App s b) p q e = cc
entry-inj ts h (App r a) (Const n) p q e = cc
entry-inj ts h (App r a) (App s b) p q e =
    let same : r ≡ s = cc in
    let all : terms_of (map (term_at ts) a) ≡ terms_of (map (term_at ts) b) = cc in
    let args : a ≡ b = map_term_at-inj ts h a b p q (terms_of-inj _ _ all) in
    λ i. App (same i) (args i)

pub entry_at : (es : List GroundTerm) (k : ℕ) → k < length es → (e : GroundTerm) × (slice_get es k ≡ Some e)
entry_at [] k lt = absurd (omega arith)
entry_at (e ∷ es) zero lt = (e, refl)
entry_at (e ∷ es) (suc k) lt = entry_at es k (omega arith)

-- an entry that the table lacks has a term that it lacks
lacks_term : (es : List GroundTerm) → IsTable es → (e : GroundTerm) → ArgsBelow (length es) e → ((k : ℕ) → slice_get es k ≡ Some e → ⊥) → Contains (entry_terms es) (term_of_entry (entry_terms es) e) → ⊥
lacks_term es h e low none w =
    let size : length (entry_terms es) ≡ length es = entry_terms-length es in
    let lt : w.0 < length es = omega (arith, w.1, size) in
    let d = entry_at es w.0 lt in
    let at : term_at (entry_terms es) w.0 ≡ term_of_entry (entry_terms es) d.0 = term_at-table_read es h w.0 d.0 d.1 in
    let same : term_of_entry (entry_terms es) d.0 ≡ term_of_entry (entry_terms es) e = sym at ∙ contained_at (entry_terms es) (term_of_entry (entry_terms es) e) w in
    let one : d.0 ≡ e = entry-inj (entry_terms es) h.distinct d.0 e (below_weaker w.0 (length (entry_terms es)) d.0 (omega (arith, w.1)) (below_in es h w.0 d.0 d.1)) (below_weaker (length es) (length (entry_terms es)) e (omega (arith, size)) low) same in
    none w.0 (d.1 ∙ ap Some one)

-- what placing an entry leaves
pub record PlacedTerm (es : List GroundTerm) (t : Term) (fs : List GroundTerm) (k : ℕ) : Type 0 where
  pub table : IsTable fs
  pub grown : Extends es fs
  pub found : IsFound fs t (Some k)
  pub sound : (u : Term) → Contains (entry_terms fs) u → Contains (entry_terms es) u ⊎ (t ≡ u)
  pub complete : Contains (entry_terms fs) t

contained_from_found : (es : List GroundTerm) (t : Term) (k : ℕ) → IsFound es t (Some k) → Contains (entry_terms es) t
contained_from_found es t k f = subst (λ (u : Term). Contains (entry_terms es) u) f.1 (term_at-contained (entry_terms es) k (omega (arith, f.0, entry_terms-length es)))

placed_old : (es : List GroundTerm) → IsTable es → (e : GroundTerm) (k : ℕ) → slice_get es k ≡ Some e → PlacedTerm es (term_of_entry (entry_terms es) e) es k
placed_old es h e k g =
    let f : IsFound es (term_of_entry (entry_terms es) e) (Some k) = (slice_get_within es k e g, term_at-table_read es h k e g) in
    record { table = h; grown = extends_itself es; found = f; sound = λ u w. inl w; complete = contained_from_found es (term_of_entry (entry_terms es) e) k f }

push_earlier : (es : List GroundTerm) → IsTable es → (e : GroundTerm) → ArgsBelow (length es) e → (i k : ℕ) (sym' : Sym) (args : List ℕ) → slice_get (es ++ e ∷ []) i ≡ Some (App sym' args) → Contains args k → k < i
push_earlier es h e low i k s args g w =
    elim (get_push_cases es e i (App s args) g) [
      | inl a ↦ h.earlier i k s args a w
      | inr b ↦ let here : ArgsBelow (length es) (App s args) = subst (λ (d : GroundTerm). ArgsBelow (length es) d) b.1 low in let lt : k < length es = here k w in omega (arith, b.0)
    ]

placed_new : (es : List GroundTerm) → IsTable es → (e : GroundTerm) → ArgsBelow (length es) e → ((k : ℕ) → slice_get es k ≡ Some e → ⊥) → (k : ℕ) → slice_get (es ++ e ∷ []) k ≡ Some e → PlacedTerm es (term_of_entry (entry_terms es) e) (es ++ e ∷ []) k
placed_new es h e low none k g =
    let d : List Term = entry_terms es in
    let t : Term = term_of_entry d e in
    let all : entry_terms (es ++ e ∷ []) ≡ d ++ t ∷ [] = terms_after-append [] es (e ∷ []) in
    let apart : IsDistinct (d ++ t ∷ []) = all_pairs_push (λ (x y : Term). x ≡ y → ⊥) d t h.distinct (λ j c lt q. lacks_term es h e low none (subst (λ (u : Term). Contains d u) (sym (get_or-term_at d j c lt) ∙ q) (term_at-contained d j lt))) in
    let table : IsTable (es ++ e ∷ []) = record { earlier = push_earlier es h e low; distinct = subst (λ (ts : List Term). IsDistinct ts) (sym all) apart } in
    let lowd : ArgsBelow (length d) e = below_weaker (length es) (length d) e (omega (arith, entry_terms-length es)) low in
    let at : term_at (entry_terms (es ++ e ∷ [])) k ≡ t = term_at-table_read (es ++ e ∷ []) table k e g ∙ ap (λ z. term_of_entry z e) all ∙ term_of_entry-append d (t ∷ []) e lowd in
    record {
      table = table;
      grown = (e ∷ [], refl);
      found = (slice_get_within (es ++ e ∷ []) k e g, at);
      sound = λ u w. Contains-push_cases d t u (subst (λ (ts : List Term). Contains ts u) all w);
      complete = subst (λ (ts : List Term). Contains ts t) (sym all) (Contains-push d t);
    }

pub placed : (es : List GroundTerm) → IsTable es → (e : GroundTerm) → ArgsBelow (length es) e → (fs : List GroundTerm) (k : ℕ) → IsPlaced es e fs k → PlacedTerm es (term_of_entry (entry_terms es) e) fs k
placed es h e low fs k p =
    let P : List GroundTerm → Type 0 = λ z. PlacedTerm es (term_of_entry (entry_terms es) e) z k in
    elim p.grown [
      | inl q ↦ subst P (sym q) (placed_old es h e k (subst (λ (z : List GroundTerm). slice_get z k ≡ Some e) q p.found))
      | inr q ↦ subst P (sym q.0) (placed_new es h e low q.1 k (subst (λ (z : List GroundTerm). slice_get z k ≡ Some e) q.0 p.found))
    ]

-- terms of a table have no index
and_true : (a b : Bool) → a ≡ true → b ≡ true → (a && b) ≡ true
and_true true b h k = k
and_true false b h k = h

term_at_closed : (b : List Term) → ((t : Term) → Contains b t → closed t ≡ true) → (k : ℕ) → closed (term_at b k) ≡ true
term_at_closed [] h k = refl
term_at_closed (t ∷ ts) h zero = h t (contains_first t ts)
term_at_closed (t ∷ ts) h (suc k) = term_at_closed ts (λ u w. h u (contains_later t u ts w)) k

args_closed : (b : List Term) → ((t : Term) → Contains b t → closed t ≡ true) → (ks : List ℕ) → args_below 0 (terms_of (map (term_at b) ks)) ≡ true
args_closed b h [] = refl
args_closed b h (k ∷ ks) = and_true (closed (term_at b k)) (args_below 0 (terms_of (map (term_at b) ks))) (term_at_closed b h k) (args_closed b h ks)

entry_closed : (b : List Term) → ((t : Term) → Contains b t → closed t ≡ true) → (e : GroundTerm) → closed (term_of_entry b e) ≡ true
entry_closed b h (Const number) = refl
entry_closed b h (App sym args) = args_closed b h args

closed_after : (b : List Term) → ((t : Term) → Contains b t → closed t ≡ true) → (es : List GroundTerm) → (t : Term) → Contains (terms_after b es) t → closed t ≡ true
closed_after b h [] t w = h t w
closed_after b h (e ∷ es) t w =
    let v : Term = term_of_entry b e in
    closed_after (b ++ v ∷ []) (λ u c. elim (Contains-push_cases b v u c) [ inl a ↦ h u a | inr q ↦ subst (λ (z : Term). closed z ≡ true) q (entry_closed b h e) ]) es t w

pub entry_terms_closed : (es : List GroundTerm) (t : Term) → Contains (entry_terms es) t → closed t ≡ true
entry_terms_closed es t w = closed_after [] (λ u c. absurd (contains_none u c)) es t w

-- arguments of terms of a table are terms of it
args_in_entry : (es : List GroundTerm) → IsTable es → (s : Sym) (ts : List Term) (t : Term) (k : ℕ) (e : GroundTerm) → k < length es → ArgsBelow k e → term_of_entry (entry_terms es) e ≡ term.App s (terms_of ts) → Contains ts t → Contains (entry_terms es) t
args_in_entry es h s ts t k (Const number) lt low q w = cc
args_in_entry es h s ts t k (App r args) lt low q w =
    let all : terms_of (map (term_at (entry_terms es)) args) ≡ terms_of ts = cc in
    let those : map (term_at (entry_terms es)) args ≡ ts = terms_of-inj _ _ all in
    let m = contains_map (term_at (entry_terms es)) args t (subst (λ (us : List Term). Contains us t) (sym those) w) in
    let here : m.0 < k = low m.0 m.1 in
    subst (λ (u : Term). Contains (entry_terms es) u) m.2 (term_at-contained (entry_terms es) m.0 (omega (arith, entry_terms-length es)))

args_in_table : (es : List GroundTerm) → IsTable es → (s : Sym) (ts : List Term) (t : Term) → Contains (entry_terms es) (term.App s (terms_of ts)) → Contains ts t → Contains (entry_terms es) t
args_in_table es h s ts t c w =
    let lt : c.0 < length es = omega (arith, c.1, entry_terms-length es) in
    let d = entry_at es c.0 lt in
    args_in_entry es h s ts t c.0 d.0 lt (below_in es h c.0 d.0 d.1) (sym (term_at-table_read es h c.0 d.0 d.1) ∙ contained_at (entry_terms es) (term.App s (terms_of ts)) c) w

pub within_table : (es : List GroundTerm) → IsTable es → (u : Term) {t : Term} → IsWithin u t → Contains (entry_terms es) t → Contains (entry_terms es) u
within_table es h u whole c = c
within_table es h u (argument s ts t m w) c = within_table es h u w (args_in_table es h s ts t c m)

-- a table that has grown has what it had
pub contains_grown : (es fs : List GroundTerm) → Extends es fs → (u : Term) → Contains (entry_terms es) u → Contains (entry_terms fs) u
contains_grown es fs p u w =
    let q : entry_terms fs ≡ entry_terms es ++ tail_after (entry_terms es) p.0 = ap entry_terms p.1 ∙ entry_terms-append es p.0 in
    subst (λ (ts : List Term). Contains ts u) (sym q) (Contains-append_left (entry_terms es) (tail_after (entry_terms es) p.0) u w)

pub term_at_grown : (es fs : List GroundTerm) → Extends es fs → (k : ℕ) → k < length es → term_at (entry_terms fs) k ≡ term_at (entry_terms es) k
term_at_grown es fs p k lt =
    let q : entry_terms fs ≡ entry_terms es ++ tail_after (entry_terms es) p.0 = ap entry_terms p.1 ∙ entry_terms-append es p.0 in
    ap (λ z. term_at z k) q ∙ term_at-append (entry_terms es) (tail_after (entry_terms es) p.0) k (omega (arith, entry_terms-length es))

pub found_grown : (es fs : List GroundTerm) → Extends es fs → (t : Term) (o : Option ℕ) → IsFound es t o → IsFound fs t o
found_grown es fs p t None f = f
found_grown es fs p t (Some k) f = (extends-length es fs k p f.0, term_at_grown es fs p k f.0 ∙ f.1)

pub map_grown : (es fs : List GroundTerm) → Extends es fs → (ks : List ℕ) → ((k : ℕ) → Contains ks k → k < length es) → map (term_at (entry_terms fs)) ks ≡ map (term_at (entry_terms es)) ks
map_grown es fs p ks h =
    let q : entry_terms fs ≡ entry_terms es ++ tail_after (entry_terms es) p.0 = ap entry_terms p.1 ∙ entry_terms-append es p.0 in
    ap (λ z. map (term_at z) ks) q ∙ map_term_at-append (entry_terms es) (tail_after (entry_terms es) p.0) ks (λ k w. let lt : k < length es = h k w in omega (arith, entry_terms-length es))

pub reads_grown : (es fs : List GroundTerm) → Extends es fs → IsTable fs → (places : List ℕ) (ts : List Term) → Reads es places ts → Reads fs places ts
reads_grown es fs p h places ts r = record { table = h; within = λ k w. extends-length es fs k p (r.within k w); terms = map_grown es fs p places r.within ∙ r.terms }
