-- Where a term stands by the entries, it is the term at the place.
use Rattle.std.proofs.Common.{◌≡◌, ◌<◌, ◌+◌, ℕ, zero, suc, List, [], ◌∷◌, length, map, take, refl, ap, sym, ◌∙◌, arith, true, false, Bool, get_or, add-one, inl, inr, ◌⊎◌}
use Rattle.std.specs.Prelude.{slice_get, Some, None, Option, ◌&&◌, nat_eq, slice_index_or}
use lib.Pointwise.{pointwise}
use Rattle.std.proofs.lemmas.Bool.{eqb-true, eq-eqb}
use Rattle.std.proofs.lemmas.Option.{slice_get_within, slice_get_read}
use Rattle.std.proofs.lemmas.Bool.Decides.{eqb_tells}
use Rattle.mz_logic.specs.declared.sym.Sym.{Sym}
use Rattle.mz_logic.specs.Sym.{same_sym, kind_number}
use Rattle.mz_logic.specs.Term.{Term, Terms, Bound, Const, App, none, more, terms_of, list_of}
use Rattle.mz_logic.specs.TermStorage.{list_of-terms_of}
use Rattle.mz_logic.specs.declared.disjunct.Disjunct.{Disjunct}
use Rattle.mz_logic.specs.Substitution.{value_at, substitute, substitute_args}
use Rattle.mz_logic.proofs.SubstitutionLaws.{substitute_args-terms_of}
use Rattle.mz_logic.proofs.ValueLaws.{substitute-value_at}
use Rattle.mz_ground.specs.Ground.{term_at, term_of_entry, ground_terms, IsGround}
use Rattle.mz_ground.specs.declared.clause.Clause.{Clause}
use Rattle.mz_ground.specs.declared.ground_part.Ground.{Ground}
use Rattle.mz_ground.specs.declared.ground_term.GroundTerm.{GroundTerm}
use Rattle.mz_ground.specs.declared.ground_term.GroundTerm.TheVariants as entry
use Rattle.mz_congruence.specs.InstanceAt.{is_same_place, is_constant, has_symbol, entry_args, is_instance_at, args_are_instances_at, are_instances_at}
use Rattle.mz_congruence.specs.Pairing.{AllWithin, terms_at}
use Rattle.mz_congruence.proofs.AndLemmas.{both_left, both_right}
use Rattle.mz_congruence.proofs.SignatureLemmas.{sym_equal}
use Rattle.mz_congruence.proofs.ListLemmas.{some_same, none_some, get_map, get_some, get_contains, contains_head, contains_tail}
use Rattle.mz_congruence.proofs.GroundLemmas.{term_entry, term_unique}

pub args_are_instances_at-terms_of : (es : List GroundTerm) (args : List ℕ) (us : List Term) (ks : List ℕ) → args_are_instances_at es args (terms_of us) ks ≡ pointwise (is_instance_at es args) us ks
args_are_instances_at-terms_of es args [] [] = refl
args_are_instances_at-terms_of es args [] (k ∷ ks) = refl
args_are_instances_at-terms_of es args (u ∷ us) [] = refl
args_are_instances_at-terms_of es args (u ∷ us) (k ∷ ks) = ap (λ b. is_instance_at es args u k && b) (args_are_instances_at-terms_of es args us ks)

-- a symbol with arguments, by the entry at the place
pub told_app : (es : List GroundTerm) (args : List ℕ) (t : Term) (i : ℕ) (s r : Sym) (us : List Term) (ks qs : List ℕ) (b : Bool) → t ≡ App s (terms_of us) → slice_get es i ≡ Some (entry.App r ks) → same_sym s r ≡ true → qs ≡ ks → b ≡ are_instances_at es args us qs → b ≡ is_instance_at es args t i
told_app es args t i s r us ks qs b et at h q e = rw (et, at, h, args_are_instances_at-terms_of es args us ks, ← q) e

pub told_other_symbol : (es : List GroundTerm) (args : List ℕ) (t : Term) (i : ℕ) (s r : Sym) (us : List Term) (ks : List ℕ) (b : Bool) → t ≡ App s (terms_of us) → slice_get es i ≡ Some (entry.App r ks) → b ≡ same_sym s r → b ≡ false → b ≡ is_instance_at es args t i
told_other_symbol es args t i s r us ks b et at h e =
    let f : same_sym s r ≡ false = sym h ∙ e in
    rw (et, at, f, e) refl

pub told_constant_entry : (es : List GroundTerm) (args : List ℕ) (t : Term) (i n : ℕ) (s : Sym) (us : List Term) → t ≡ App s (terms_of us) → slice_get es i ≡ Some (entry.Const n) → false ≡ is_instance_at es args t i
told_constant_entry es args t i n s us et at = rw (et, at) refl

pub told_no_entry : (es : List GroundTerm) (args : List ℕ) (t : Term) (i : ℕ) (s : Sym) (us : List Term) → t ≡ App s (terms_of us) → slice_get es i ≡ None → false ≡ is_instance_at es args t i
told_no_entry es args t i s us et at = rw (et, at) refl

pub ruleset instance_at_rules = (told_app, told_other_symbol, told_constant_entry, told_no_entry)

second_false : (a b : Bool) → b ≡ false → (a && b) ≡ false
second_false true b h = h
second_false false b h = refl

-- a list compared pair by pair, as far as a loop has come
pub pointwise_more : (E : Term → ℕ → Bool) (us : List Term) (ks : List ℕ) (i : ℕ) (u : Term) → i < length us → i < length ks → slice_get us i ≡ Some u → E u (get_or ks i 0) ≡ true → pointwise E (take i us) (take i ks) ≡ true → pointwise E (take (suc i) us) (take (suc i) ks) ≡ true
pointwise_more E [] ks i u lu lk at e h = absurd (omega (arith, lu))
pointwise_more E (v ∷ us) [] i u lu lk at e h = absurd (omega (arith, lk))
pointwise_more E (v ∷ us) (k ∷ ks) zero u lu lk at e h =
    let q : E v k ≡ true = ap (λ w. E w k) (some_same at) ∙ e in
    rw q refl
pointwise_more E (v ∷ us) (k ∷ ks) (suc i) u lu lk at e h =
    let a : E v k ≡ true = both_left (E v k) (pointwise E (take i us) (take i ks)) h in
    rw a (pointwise_more E us ks i u (omega (arith, lu)) (omega (arith, lk)) at e (both_right (E v k) (pointwise E (take i us) (take i ks)) h))

pub pointwise_false : (E : Term → ℕ → Bool) (us : List Term) (ks : List ℕ) (i : ℕ) (u : Term) → i < length us → i < length ks → slice_get us i ≡ Some u → E u (get_or ks i 0) ≡ false → pointwise E us ks ≡ false
pointwise_false E [] ks i u lu lk at e = absurd (omega (arith, lu))
pointwise_false E (v ∷ us) [] i u lu lk at e = absurd (omega (arith, lk))
pointwise_false E (v ∷ us) (k ∷ ks) zero u lu lk at e =
    let q : E v k ≡ false = ap (λ w. E w k) (some_same at) ∙ e in
    rw q refl
pointwise_false E (v ∷ us) (k ∷ ks) (suc i) u lu lk at e = second_false (E v k) (pointwise E us ks) (pointwise_false E us ks i u (omega (arith, lu)) (omega (arith, lk)) at e)

pub pointwise_lengths : (E : Term → ℕ → Bool) (us : List Term) (ks : List ℕ) → (length us ≡ length ks → ⊥) → pointwise E us ks ≡ false
pointwise_lengths E [] [] h = absurd (h refl)
pointwise_lengths E [] (k ∷ ks) h = refl
pointwise_lengths E (u ∷ us) [] h = refl
pointwise_lengths E (u ∷ us) (k ∷ ks) h = second_false (E u k) (pointwise E us ks) (pointwise_lengths E us ks (λ q. h (omega (arith, q))))

pub each_more : (es : List GroundTerm) (args : List ℕ) (us vs : List Term) (ks : List ℕ) (i : ℕ) (u : Term) → vs ≡ us → i < length ks → i < length vs → u ≡ slice_index_or vs i u → is_instance_at es args u (get_or ks i 0) ≡ true → are_instances_at es args (take i us) (take i ks) ≡ true → are_instances_at es args (take (i + 1) us) (take (i + 1) ks) ≡ true
each_more es args us vs ks i u v lk lv e h a =
    let at : slice_get vs i ≡ Some u = slice_get_read vs (length vs) i u refl lv e in
    let bt : slice_get us i ≡ Some u = ap (λ (xs : List Term). slice_get xs i) (sym v) ∙ at in
    rw add-one (pointwise_more (is_instance_at es args) us ks i u (slice_get_within us i u bt) lk bt h a)

pub each_false : (es : List GroundTerm) (args : List ℕ) (us vs : List Term) (ks : List ℕ) (i : ℕ) (u : Term) → vs ≡ us → i < length ks → i < length vs → u ≡ slice_index_or vs i u → is_instance_at es args u (get_or ks i 0) ≡ false → false ≡ are_instances_at es args us ks
each_false es args us vs ks i u v lk lv e h =
    let at : slice_get vs i ≡ Some u = slice_get_read vs (length vs) i u refl lv e in
    let bt : slice_get us i ≡ Some u = ap (λ (xs : List Term). slice_get xs i) (sym v) ∙ at in
    sym (pointwise_false (is_instance_at es args) us ks i u (slice_get_within us i u bt) lk bt h)

pub ruleset each_rules = (pointwise_lengths)

-- no element so far passes
pub none_so_far : {X : Type 0} (P : X → Bool) (xs : List X) (k : ℕ) (x : X) (b : Bool) → ((j : ℕ) (y : X) → j < k → slice_get xs j ≡ Some y → P y ≡ false) → slice_get xs k ≡ Some x → b ≡ P x → b ≡ false → (j : ℕ) (y : X) → j < k + 1 → slice_get xs j ≡ Some y → P y ≡ false
none_so_far P xs k x b h at e f j y lt bt =
    elim (eqb_tells j k) [
      | inl q ↦ ap P (some_same (sym bt ∙ ap (slice_get xs) q.1 ∙ at)) ∙ sym e ∙ f
      | inr q ↦ h j y (omega (arith, lt, q.1)) bt
    ]

false_true : false ≡ true → ⊥
false_true e = cc

pub same_sym_true : (r s : Sym) → same_sym r s ≡ true → r ≡ s
same_sym_true r s h =
    let b : (nat_eq r.article s.article && nat_eq (kind_number r.kind) (kind_number s.kind)) ≡ true = both_left (nat_eq r.article s.article && nat_eq (kind_number r.kind) (kind_number s.kind)) (nat_eq r.number s.number) h in
    let n : nat_eq r.number s.number ≡ true = both_right (nat_eq r.article s.article && nat_eq (kind_number r.kind) (kind_number s.kind)) (nat_eq r.number s.number) h in
    let a : nat_eq r.article s.article ≡ true = both_left (nat_eq r.article s.article) (nat_eq (kind_number r.kind) (kind_number s.kind)) b in
    let k : nat_eq (kind_number r.kind) (kind_number s.kind) ≡ true = both_right (nat_eq r.article s.article) (nat_eq (kind_number r.kind) (kind_number s.kind)) b in
    sym_equal r s (eqb-true r.article s.article a) (eqb-true (kind_number r.kind) (kind_number s.kind) k) (eqb-true r.number s.number n)

pub same_sym_refl : (s : Sym) → same_sym s s ≡ true
same_sym_refl s =
    let a : nat_eq s.article s.article ≡ true = eq-eqb s.article s.article refl in
    let k : nat_eq (kind_number s.kind) (kind_number s.kind) ≡ true = eq-eqb (kind_number s.kind) (kind_number s.kind) refl in
    let n : nat_eq s.number s.number ≡ true = eq-eqb s.number s.number refl in
    rw (a, k, n) refl

value_found : (ts : List Term) (n : ℕ) (t : Term) → slice_get ts n ≡ Some t → value_at ts n ≡ t
value_found [] n t e = absurd (none_some e)
value_found (u ∷ ts) zero t e = some_same e
value_found (u ∷ ts) (suc n) t e = value_found ts n t e

pub substitute-index_found : (ts : List Term) (n : ℕ) (t : Term) → slice_get ts n ≡ Some t → substitute 0 (value_at ts) (Bound n) ≡ t
substitute-index_found ts n t e = substitute-value_at ts n ∙ value_found ts n t e

some_none : {t : Term} → Some t ≡ None → ⊥
some_none e = cc

value_past : (ts : List Term) (n : ℕ) → slice_get ts n ≡ None → (m : ℕ) × (value_at ts n ≡ Bound m)
value_past [] n e = (n, refl)
value_past (u ∷ ts) zero e = absurd (some_none e)
value_past (u ∷ ts) (suc n) e = value_past ts n e

index_past : (ts : List Term) (n : ℕ) → slice_get ts n ≡ None → (m : ℕ) × (substitute 0 (value_at ts) (Bound n) ≡ Bound m)
index_past ts n e = let p = value_past ts n e in (p.0, substitute-value_at ts n ∙ p.1)

place_cases : (o : Option ℕ) → (o ≡ None) ⊎ ((k : ℕ) × (o ≡ Some k))
place_cases None = inl refl
place_cases (Some k) = inr (k, refl)

some_no_place : {k : ℕ} → Some k ≡ None → ⊥
some_no_place e = cc

map_none : (f : ℕ → Term) (ks : List ℕ) (n : ℕ) → slice_get ks n ≡ None → slice_get (map f ks) n ≡ None
map_none f [] n e = refl
map_none f (k ∷ ks) zero e = absurd (some_no_place e)
map_none f (k ∷ ks) (suc n) e = map_none f ks n e

substitute-bound_sound : (g : Ground) (args : List ℕ) (n i : ℕ) → is_same_place i (slice_get args n) ≡ true → substitute 0 (value_at (terms_at g args)) (Bound n) ≡ term_at (ground_terms g) i
substitute-bound_sound g args n i h =
    elim (place_cases (slice_get args n)) [
      | inl p ↦ absurd (false_true (ap (is_same_place i) (sym p) ∙ h))
      | inr p ↦
          let e : nat_eq p.0 i ≡ true = ap (is_same_place i) (sym p.1) ∙ h in
          substitute-index_found (terms_at g args) n (term_at (ground_terms g) p.0) (get_map (term_at (ground_terms g)) args n p.0 p.1) ∙ ap (term_at (ground_terms g)) (eqb-true p.0 i e)
    ]

constant_sound : (m : ℕ) (ts : List Term) (x : GroundTerm) → is_constant m (Some x) ≡ true → Const m ≡ term_of_entry ts x
constant_sound m ts (entry.Const n) h = ap Const (eqb-true m n h)
constant_sound m ts (entry.App r ks) h = absurd (false_true h)

app_sound : (s : Sym) (us : Terms) (ts : List Term) (x : GroundTerm) → has_symbol s (Some x) ≡ true → us ≡ terms_of (map (term_at ts) (entry_args (Some x))) → App s us ≡ term_of_entry ts x
app_sound s us ts (entry.Const n) h e = absurd (false_true h)
app_sound s us ts (entry.App r ks) h e = let q : s ≡ r = same_sym_true s r h in λ i. App (q i) (e i)

pub args_within : (d : Disjunct) (cs : List Clause) (g : Ground) → IsGround d cs g → (i : ℕ) (x : GroundTerm) → slice_get g.terms i ≡ Some x → AllWithin g (entry_args (Some x))
args_within d cs g gr i (entry.Const n) at = λ k c. absurd (omega (arith, c.1))
args_within d cs g gr i (entry.App r ks) at = λ k c. omega (arith, gr.earlier i k r ks at c, slice_get_within g.terms i (entry.App r ks) at)

mutual
  pub is_instance_at_sound : (d : Disjunct) (cs : List Clause) (g : Ground) → IsGround d cs g → (args : List ℕ) (t : Term) (i : ℕ) → i < length g.terms → is_instance_at g.terms args t i ≡ true → substitute 0 (value_at (terms_at g args)) t ≡ term_at (ground_terms g) i
  is_instance_at_sound d cs g gr args (Bound n) i lt h = substitute-bound_sound g args n i h
  is_instance_at_sound d cs g gr args (Const m) i lt h =
      let p = get_some g.terms i lt in
      constant_sound m (ground_terms g) p.0 (ap (is_constant m) (sym p.1) ∙ h) ∙ sym (term_entry d cs g gr i p.0 p.1)
  is_instance_at_sound d cs g gr args (App s us) i lt h =
      let p = get_some g.terms i lt in
      let q : (has_symbol s (Some p.0) && args_are_instances_at g.terms args us (entry_args (Some p.0))) ≡ true = ap (λ o. has_symbol s o && args_are_instances_at g.terms args us (entry_args o)) (sym p.1) ∙ h in
      let a : has_symbol s (Some p.0) ≡ true = both_left (has_symbol s (Some p.0)) (args_are_instances_at g.terms args us (entry_args (Some p.0))) q in
      let b : args_are_instances_at g.terms args us (entry_args (Some p.0)) ≡ true = both_right (has_symbol s (Some p.0)) (args_are_instances_at g.terms args us (entry_args (Some p.0))) q in
      app_sound s (substitute_args 0 (value_at (terms_at g args)) us) (ground_terms g) p.0 a (args_are_instances_at_sound d cs g gr args us (entry_args (Some p.0)) (args_within d cs g gr i p.0 p.1) b) ∙ sym (term_entry d cs g gr i p.0 p.1)

  pub args_are_instances_at_sound : (d : Disjunct) (cs : List Clause) (g : Ground) → IsGround d cs g → (args : List ℕ) (us : Terms) (ks : List ℕ) → AllWithin g ks → args_are_instances_at g.terms args us ks ≡ true → substitute_args 0 (value_at (terms_at g args)) us ≡ terms_of (map (term_at (ground_terms g)) ks)
  args_are_instances_at_sound d cs g gr args none [] w h = refl
  args_are_instances_at_sound d cs g gr args none (k ∷ ks) w h = absurd (false_true h)
  args_are_instances_at_sound d cs g gr args (more u us) [] w h = absurd (false_true h)
  args_are_instances_at_sound d cs g gr args (more u us) (k ∷ ks) w h =
      let a : substitute 0 (value_at (terms_at g args)) u ≡ term_at (ground_terms g) k = is_instance_at_sound d cs g gr args u k (w k (contains_head k ks)) (both_left (is_instance_at g.terms args u k) (args_are_instances_at g.terms args us ks) h) in
      let b : substitute_args 0 (value_at (terms_at g args)) us ≡ terms_of (map (term_at (ground_terms g)) ks) = args_are_instances_at_sound d cs g gr args us ks (λ j c. w j (contains_tail k j ks c)) (both_right (is_instance_at g.terms args u k) (args_are_instances_at g.terms args us ks) h) in
      λ i. more (a i) (b i)

bound_const : {m n : ℕ} → Bound m ≡ Const n → ⊥
bound_const e = cc

bound_app : {m : ℕ} {s : Sym} {us : Terms} → Bound m ≡ App s us → ⊥
bound_app e = cc

entry_not_bound : (ts : List Term) (x : GroundTerm) (m : ℕ) → Bound m ≡ term_of_entry ts x → ⊥
entry_not_bound ts (entry.Const n) m e = bound_const e
entry_not_bound ts (entry.App r ks) m e = bound_app e

const_app : {m : ℕ} {s : Sym} {us : Terms} → Const m ≡ App s us → ⊥
const_app e = cc

const_same : {m n : ℕ} → Const m ≡ Const n → m ≡ n
const_same e = cc

app_same : {r s : Sym} {xs ys : Terms} → App r xs ≡ App s ys → (r ≡ s) × (xs ≡ ys)
app_same e = (cc, cc)

pub constant_complete : (m : ℕ) (ts : List Term) (x : GroundTerm) → Const m ≡ term_of_entry ts x → is_constant m (Some x) ≡ true
constant_complete m ts (entry.Const n) e = eq-eqb m n (const_same e)
constant_complete m ts (entry.App r ks) e = absurd (const_app e)

pub app_complete : (s : Sym) (us : Terms) (ts : List Term) (x : GroundTerm) → App s us ≡ term_of_entry ts x → (has_symbol s (Some x) ≡ true) × (us ≡ terms_of (map (term_at ts) (entry_args (Some x))))
app_complete s us ts (entry.Const n) e = absurd (const_app (sym e))
app_complete s us ts (entry.App r ks) e =
    let p = app_same e in
    (ap (same_sym s) (sym p.0) ∙ same_sym_refl s, p.1)

pub bound_complete : (d : Disjunct) (cs : List Clause) (g : Ground) → IsGround d cs g → (args : List ℕ) → AllWithin g args → (n i : ℕ) → i < length g.terms → substitute 0 (value_at (terms_at g args)) (Bound n) ≡ term_at (ground_terms g) i → is_same_place i (slice_get args n) ≡ true
bound_complete d cs g gr args w n i lt e =
    elim (place_cases (slice_get args n)) [
      | inl p ↦
          let q = index_past (terms_at g args) n (map_none (term_at (ground_terms g)) args n p) in
          let x = get_some g.terms i lt in
          absurd (entry_not_bound (ground_terms g) x.0 q.0 (sym q.1 ∙ e ∙ term_entry d cs g gr i x.0 x.1))
      | inr p ↦
          let f : term_at (ground_terms g) p.0 ≡ term_at (ground_terms g) i = sym (substitute-index_found (terms_at g args) n (term_at (ground_terms g) p.0) (get_map (term_at (ground_terms g)) args n p.0 p.1)) ∙ e in
          let k : p.0 ≡ i = term_unique d cs g gr p.0 i (term_at (ground_terms g) i) (w p.0 (get_contains args n p.0 p.1), f) (lt, refl) in
          ap (is_same_place i) p.1 ∙ eq-eqb p.0 i k
    ]

terms_cons : {t u : Term} {ts us : Terms} → more t ts ≡ more u us → (t ≡ u) × (ts ≡ us)
terms_cons e = (cc, cc)

none_more : {u : Term} {us : Terms} → none ≡ more u us → ⊥
none_more e = cc

more_none : {u : Term} {us : Terms} → more u us ≡ none → ⊥
more_none e = cc

mutual
  pub is_instance_at_complete : (d : Disjunct) (cs : List Clause) (g : Ground) → IsGround d cs g → (args : List ℕ) → AllWithin g args → (t : Term) (i : ℕ) → i < length g.terms → substitute 0 (value_at (terms_at g args)) t ≡ term_at (ground_terms g) i → is_instance_at g.terms args t i ≡ true
  is_instance_at_complete d cs g gr args w (Bound n) i lt e = bound_complete d cs g gr args w n i lt e
  is_instance_at_complete d cs g gr args w (Const m) i lt e =
      let p = get_some g.terms i lt in
      ap (is_constant m) p.1 ∙ constant_complete m (ground_terms g) p.0 (e ∙ term_entry d cs g gr i p.0 p.1)
  is_instance_at_complete d cs g gr args w (App s us) i lt e =
      let p = get_some g.terms i lt in
      let q = app_complete s (substitute_args 0 (value_at (terms_at g args)) us) (ground_terms g) p.0 (e ∙ term_entry d cs g gr i p.0 p.1) in
      let b : args_are_instances_at g.terms args us (entry_args (Some p.0)) ≡ true = args_are_instances_at_complete d cs g gr args w us (entry_args (Some p.0)) (args_within d cs g gr i p.0 p.1) q.1 in
      ap (λ o. has_symbol s o && args_are_instances_at g.terms args us (entry_args o)) p.1 ∙ (λ j. q.0 j && b j)

  pub args_are_instances_at_complete : (d : Disjunct) (cs : List Clause) (g : Ground) → IsGround d cs g → (args : List ℕ) → AllWithin g args → (us : Terms) (ks : List ℕ) → AllWithin g ks → substitute_args 0 (value_at (terms_at g args)) us ≡ terms_of (map (term_at (ground_terms g)) ks) → args_are_instances_at g.terms args us ks ≡ true
  args_are_instances_at_complete d cs g gr args w none [] v e = refl
  args_are_instances_at_complete d cs g gr args w none (k ∷ ks) v e = absurd (none_more e)
  args_are_instances_at_complete d cs g gr args w (more u us) [] v e = absurd (more_none e)
  args_are_instances_at_complete d cs g gr args w (more u us) (k ∷ ks) v e =
      let p = terms_cons e in
      let a : is_instance_at g.terms args u k ≡ true = is_instance_at_complete d cs g gr args w u k (v k (contains_head k ks)) p.0 in
      let b : args_are_instances_at g.terms args us ks ≡ true = args_are_instances_at_complete d cs g gr args w us ks (λ j c. v j (contains_tail k j ks c)) p.1 in
      λ j. a j && b j

-- lists of terms
pub map-each_sound : (d : Disjunct) (cs : List Clause) (g : Ground) → IsGround d cs g → (args : List ℕ) (us : List Term) (ks : List ℕ) → AllWithin g ks → are_instances_at g.terms args us ks ≡ true → map (substitute 0 (value_at (terms_at g args))) us ≡ map (term_at (ground_terms g)) ks
map-each_sound d cs g gr args us ks w h =
    let e : terms_of (map (substitute 0 (value_at (terms_at g args))) us) ≡ terms_of (map (term_at (ground_terms g)) ks) = sym (substitute_args-terms_of 0 (value_at (terms_at g args)) us) ∙ args_are_instances_at_sound d cs g gr args (terms_of us) ks w (args_are_instances_at-terms_of g.terms args us ks ∙ h) in
    sym (list_of-terms_of (map (substitute 0 (value_at (terms_at g args))) us)) ∙ ap list_of e ∙ list_of-terms_of (map (term_at (ground_terms g)) ks)

pub each_complete : (d : Disjunct) (cs : List Clause) (g : Ground) → IsGround d cs g → (args : List ℕ) → AllWithin g args → (us : List Term) (ks : List ℕ) → AllWithin g ks → map (substitute 0 (value_at (terms_at g args))) us ≡ map (term_at (ground_terms g)) ks → are_instances_at g.terms args us ks ≡ true
each_complete d cs g gr args w us ks v e =
    sym (args_are_instances_at-terms_of g.terms args us ks) ∙ args_are_instances_at_complete d cs g gr args w (terms_of us) ks v (substitute_args-terms_of 0 (value_at (terms_at g args)) us ∙ ap terms_of e)
