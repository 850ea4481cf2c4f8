-- Laws of the simultaneous substitution: what has no index in its reach is unchanged, the indices themselves
-- are the identity, substitutions compose, and one at a time is all at once.
use Rattle.std.proofs.Common.{◌≡◌, ◌<◌, ◌≤◌, inl, inr, ℕ, ◌+◌, ◌-◌, List, [], ◌∷◌, map, refl, ap, sym, ◌∙◌, arith, true, false}
use Rattle.std.proofs.lemmas.Bool.{ltb-true, lt-ltb, le-ltb, cases_lt, and_parts, and_from, or_parts, or_from}
use Rattle.mz_logic.specs.Term.{Term, Terms, Bound, Const, App, none, more, terms_of}
use Rattle.mz_logic.specs.Formula.{Formula, Truth, Eq, Atom, Not, And, All}
use Rattle.mz_logic.specs.Indices.{is_below, args_below, formula_below, closed, formula_closed}
use Rattle.mz_logic.specs.Constants.{occurs, occurs_in_args, occurs_in_formula}
use Rattle.mz_logic.specs.Substitution.{shift, shift_args, shift_formula, substitute, substitute_args, substitute_formula}
use Rattle.mz_logic.proofs.ListLemmas.{map-same, map-map, map-agree_where, map-same_where, list_all-map_where, list_any-map_none}
use Rattle.mz_logic.proofs.IndexLemmas.{is_below-closed, formula_below-closed}
use Rattle.mz_logic.proofs.ShiftLaws.{shift-inside, shift-outside, shift-Bound, shift-shift, is_below-shift, occurs-shift}

-- arguments as a list
pub substitute_args-terms_of : (depth : ℕ) (v : ℕ → Term) (ts : List Term) → substitute_args depth v (terms_of ts) ≡ terms_of (map (substitute depth v) ts)
substitute_args-terms_of depth v [] = refl
substitute_args-terms_of depth v (t ∷ ts) = ap (λ us. more (substitute depth v t) us) (substitute_args-terms_of depth v ts)

pub ruleset substitute_rules = (substitute_args-terms_of)

-- an index that is bound inside, and one that has a value
pub substitute-inside : (depth : ℕ) (v : ℕ → Term) (index : ℕ) → index < depth → substitute depth v (Bound index) ≡ Bound index
substitute-inside depth v index lt = rw (lt-ltb index depth lt) refl

pub substitute-outside : (depth : ℕ) (v : ℕ → Term) (index : ℕ) → depth ≤ index → substitute depth v (Bound index) ≡ shift 0 depth (v (index - depth))
substitute-outside depth v index le = rw (le-ltb index depth le) refl

-- nothing in reach
mutual
  pub substitute-below : (depth : ℕ) (v : ℕ → Term) (t : Term) → is_below depth t ≡ true → substitute depth v t ≡ t
  substitute-below depth v (Bound index) h = substitute-inside depth v index (ltb-true index depth h)
  substitute-below depth v (Const number) h = refl
  substitute-below depth v (App s ts) h = ap (λ us. App s us) (substitute_args-below depth v ts h)

  pub substitute_args-below : (depth : ℕ) (v : ℕ → Term) (ts : Terms) → args_below depth ts ≡ true → substitute_args depth v ts ≡ ts
  substitute_args-below depth v none h = refl
  substitute_args-below depth v (more t ts) h =
      let p : (is_below depth t ≡ true) × (args_below depth ts ≡ true) = and_parts (is_below depth t) (args_below depth ts) h in
      λ i. more (substitute-below depth v t p.0 i) (substitute_args-below depth v ts p.1 i)

pub substitute_formula-below : (depth : ℕ) (v : ℕ → Term) (f : Formula) → formula_below depth f ≡ true → substitute_formula depth v f ≡ f
substitute_formula-below depth v Truth h = refl
substitute_formula-below depth v (Eq t u) h =
    let p : (is_below depth t ≡ true) × (is_below depth u ≡ true) = and_parts (is_below depth t) (is_below depth u) h in
    λ i. Eq (substitute-below depth v t p.0 i) (substitute-below depth v u p.1 i)
substitute_formula-below depth v (Atom s ts) h = ap (λ us. Atom s us) (map-same_where (is_below depth) (substitute depth v) (λ t. substitute-below depth v t) ts h)
substitute_formula-below depth v (Not f) h = ap Not (substitute_formula-below depth v f h)
substitute_formula-below depth v (And f g) h =
    let p : (formula_below depth f ≡ true) × (formula_below depth g ≡ true) = and_parts (formula_below depth f) (formula_below depth g) h in
    λ i. And (substitute_formula-below depth v f p.0 i) (substitute_formula-below depth v g p.1 i)
substitute_formula-below depth v (All f) h = ap All (substitute_formula-below (depth + 1) v f h)

pub substitute-closed : (depth : ℕ) (v : ℕ → Term) (t : Term) → closed t ≡ true → substitute depth v t ≡ t
substitute-closed depth v t h = substitute-below depth v t (is_below-closed depth t h)

pub substitute_formula-closed : (depth : ℕ) (v : ℕ → Term) (f : Formula) → formula_closed f ≡ true → substitute_formula depth v f ≡ f
substitute_formula-closed depth v f h = substitute_formula-below depth v f (formula_below-closed depth f h)

-- values that agree where there are indices
substitute_index-agree : (depth n : ℕ) (v w : ℕ → Term) (index : ℕ) → ((k : ℕ) → k < n → v k ≡ w k) → index < depth + n → substitute depth v (Bound index) ≡ substitute depth w (Bound index)
substitute_index-agree depth n v w index same lt = elim (cases_lt index depth) [
  | inl inside ↦ substitute-inside depth v index inside ∙ sym (substitute-inside depth w index inside)
  | inr le ↦
      let within : index - depth < n = omega arith in
      substitute-outside depth v index le ∙ ap (shift 0 depth) (same (index - depth) within) ∙ sym (substitute-outside depth w index le)
]

mutual
  pub substitute-agree : (depth n : ℕ) (v w : ℕ → Term) (t : Term) → ((k : ℕ) → k < n → v k ≡ w k) → is_below (depth + n) t ≡ true → substitute depth v t ≡ substitute depth w t
  substitute-agree depth n v w (Bound index) same h = substitute_index-agree depth n v w index same (ltb-true index (depth + n) h)
  substitute-agree depth n v w (Const number) same h = refl
  substitute-agree depth n v w (App s ts) same h = ap (λ us. App s us) (substitute_args-agree depth n v w ts same h)

  pub substitute_args-agree : (depth n : ℕ) (v w : ℕ → Term) (ts : Terms) → ((k : ℕ) → k < n → v k ≡ w k) → args_below (depth + n) ts ≡ true → substitute_args depth v ts ≡ substitute_args depth w ts
  substitute_args-agree depth n v w none same h = refl
  substitute_args-agree depth n v w (more t ts) same h =
      let p : (is_below (depth + n) t ≡ true) × (args_below (depth + n) ts ≡ true) = and_parts (is_below (depth + n) t) (args_below (depth + n) ts) h in
      λ i. more (substitute-agree depth n v w t same p.0 i) (substitute_args-agree depth n v w ts same p.1 i)

pub substitute_formula-agree : (depth n : ℕ) (v w : ℕ → Term) (f : Formula) → ((k : ℕ) → k < n → v k ≡ w k) → formula_below (depth + n) f ≡ true → substitute_formula depth v f ≡ substitute_formula depth w f
substitute_formula-agree depth n v w Truth same h = refl
substitute_formula-agree depth n v w (Eq t u) same h =
    let p : (is_below (depth + n) t ≡ true) × (is_below (depth + n) u ≡ true) = and_parts (is_below (depth + n) t) (is_below (depth + n) u) h in
    λ i. Eq (substitute-agree depth n v w t same p.0 i) (substitute-agree depth n v w u same p.1 i)
substitute_formula-agree depth n v w (Atom s ts) same h = ap (λ us. Atom s us) (map-agree_where (is_below (depth + n)) (substitute depth v) (substitute depth w) (λ t. substitute-agree depth n v w t same) ts h)
substitute_formula-agree depth n v w (Not f) same h = ap Not (substitute_formula-agree depth n v w f same h)
substitute_formula-agree depth n v w (And f g) same h =
    let p : (formula_below (depth + n) f ≡ true) × (formula_below (depth + n) g ≡ true) = and_parts (formula_below (depth + n) f) (formula_below (depth + n) g) h in
    λ i. And (substitute_formula-agree depth n v w f same p.0 i) (substitute_formula-agree depth n v w g same p.1 i)
substitute_formula-agree depth n v w (All f) same h =
    let e : (depth + n) + 1 ≡ (depth + 1) + n = omega arith in
    ap All (substitute_formula-agree (depth + 1) n v w f same (ap (λ m. formula_below m f) (sym e) ∙ h))

-- the identity
substitute_index-Bound : (depth index : ℕ) → substitute depth Bound (Bound index) ≡ Bound index
substitute_index-Bound depth index = elim (cases_lt index depth) [
  | inl lt ↦ substitute-inside depth Bound index lt
  | inr le ↦ substitute-outside depth Bound index le ∙ shift-Bound depth (index - depth) ∙ ap Bound (omega arith)
]

mutual
  pub substitute-Bound : (depth : ℕ) (t : Term) → substitute depth Bound t ≡ t
  substitute-Bound depth (Bound index) = substitute_index-Bound depth index
  substitute-Bound depth (Const number) = refl
  substitute-Bound depth (App s ts) = ap (λ us. App s us) (substitute_args-Bound depth ts)

  pub substitute_args-Bound : (depth : ℕ) (ts : Terms) → substitute_args depth Bound ts ≡ ts
  substitute_args-Bound depth none = refl
  substitute_args-Bound depth (more t ts) = λ i. more (substitute-Bound depth t i) (substitute_args-Bound depth ts i)

pub substitute_formula-Bound : (depth : ℕ) (f : Formula) → substitute_formula depth Bound f ≡ f
substitute_formula-Bound depth Truth = refl
substitute_formula-Bound depth (Eq t u) = λ i. Eq (substitute-Bound depth t i) (substitute-Bound depth u i)
substitute_formula-Bound depth (Atom s ts) = ap (λ us. Atom s us) (map-same (substitute depth Bound) (substitute-Bound depth) ts)
substitute_formula-Bound depth (Not f) = ap Not (substitute_formula-Bound depth f)
substitute_formula-Bound depth (And f g) = λ i. And (substitute_formula-Bound depth f i) (substitute_formula-Bound depth g i)
substitute_formula-Bound depth (All f) = ap All (substitute_formula-Bound (depth + 1) f)

-- a substitution in what is shifted by binders that it lies outside
substitute_index-shift : (depth by : ℕ) (v : ℕ → Term) (index : ℕ) → substitute (depth + by) v (shift 0 by (Bound index)) ≡ shift 0 by (substitute depth v (Bound index))
substitute_index-shift depth by v index = elim (cases_lt index depth) [
  | inl lt ↦
      let low : index + by < depth + by = omega arith in
      ap (substitute (depth + by) v) (shift-Bound by index) ∙ substitute-inside (depth + by) v (index + by) low ∙ sym (shift-Bound by index) ∙ sym (ap (shift 0 by) (substitute-inside depth v index lt))
  | inr le ↦
      let high : depth + by ≤ index + by = omega arith in
      let place : (index + by) - (depth + by) ≡ index - depth = omega arith in
      ap (substitute (depth + by) v) (shift-Bound by index) ∙ substitute-outside (depth + by) v (index + by) high ∙ ap (λ k. shift 0 (depth + by) (v k)) place
      ∙ sym (shift-shift 0 depth by (v (index - depth))) ∙ sym (ap (shift 0 by) (substitute-outside depth v index le))
]

mutual
  pub substitute-shift : (depth by : ℕ) (v : ℕ → Term) (t : Term) → substitute (depth + by) v (shift 0 by t) ≡ shift 0 by (substitute depth v t)
  substitute-shift depth by v (Bound index) = substitute_index-shift depth by v index
  substitute-shift depth by v (Const number) = refl
  substitute-shift depth by v (App s ts) = ap (λ us. App s us) (substitute_args-shift depth by v ts)

  pub substitute_args-shift : (depth by : ℕ) (v : ℕ → Term) (ts : Terms) → substitute_args (depth + by) v (shift_args 0 by ts) ≡ shift_args 0 by (substitute_args depth v ts)
  substitute_args-shift depth by v none = refl
  substitute_args-shift depth by v (more t ts) = λ i. more (substitute-shift depth by v t i) (substitute_args-shift depth by v ts i)

-- a substitution in what is shifted by binders that it takes away: the first values go unused
substitute_index-unused : (depth by : ℕ) (v : ℕ → Term) (index : ℕ) → substitute depth v (shift depth by (Bound index)) ≡ substitute depth (λ k. v (k + by)) (Bound index)
substitute_index-unused depth by v index = elim (cases_lt index depth) [
  | inl lt ↦ ap (substitute depth v) (shift-inside depth by index lt) ∙ substitute-inside depth v index lt ∙ sym (substitute-inside depth (λ k. v (k + by)) index lt)
  | inr le ↦
      let high : depth ≤ index + by = omega arith in
      let place : (index + by) - depth ≡ (index - depth) + by = omega arith in
      ap (substitute depth v) (shift-outside depth by index le) ∙ substitute-outside depth v (index + by) high ∙ ap (λ k. shift 0 depth (v k)) place ∙ sym (substitute-outside depth (λ k. v (k + by)) index le)
]

mutual
  pub substitute-unused : (depth by : ℕ) (v : ℕ → Term) (t : Term) → substitute depth v (shift depth by t) ≡ substitute depth (λ k. v (k + by)) t
  substitute-unused depth by v (Bound index) = substitute_index-unused depth by v index
  substitute-unused depth by v (Const number) = refl
  substitute-unused depth by v (App s ts) = ap (λ us. App s us) (substitute_args-unused depth by v ts)

  pub substitute_args-unused : (depth by : ℕ) (v : ℕ → Term) (ts : Terms) → substitute_args depth v (shift_args depth by ts) ≡ substitute_args depth (λ k. v (k + by)) ts
  substitute_args-unused depth by v none = refl
  substitute_args-unused depth by v (more t ts) = λ i. more (substitute-unused depth by v t i) (substitute_args-unused depth by v ts i)

pub substitute_formula-unused : (depth by : ℕ) (v : ℕ → Term) (f : Formula) → substitute_formula depth v (shift_formula depth by f) ≡ substitute_formula depth (λ k. v (k + by)) f
substitute_formula-unused depth by v Truth = refl
substitute_formula-unused depth by v (Eq t u) = λ i. Eq (substitute-unused depth by v t i) (substitute-unused depth by v u i)
substitute_formula-unused depth by v (Atom s ts) = ap (λ us. Atom s us) (map-map (substitute depth v) (shift depth by) (substitute depth (λ k. v (k + by))) (substitute-unused depth by v) ts)
substitute_formula-unused depth by v (Not f) = ap Not (substitute_formula-unused depth by v f)
substitute_formula-unused depth by v (And f g) = λ i. And (substitute_formula-unused depth by v f i) (substitute_formula-unused depth by v g i)
substitute_formula-unused depth by v (All f) = ap All (substitute_formula-unused (depth + 1) by v f)

-- the composition
substitute_index-substitute : (depth : ℕ) (v w : ℕ → Term) (index : ℕ) → substitute depth w (substitute depth v (Bound index)) ≡ substitute depth (λ k. substitute 0 w (v k)) (Bound index)
substitute_index-substitute depth v w index = elim (cases_lt index depth) [
  | inl lt ↦ ap (substitute depth w) (substitute-inside depth v index lt) ∙ substitute-inside depth w index lt ∙ sym (substitute-inside depth (λ k. substitute 0 w (v k)) index lt)
  | inr le ↦
      let here : depth ≡ 0 + depth = omega arith in
      let value : Term = v (index - depth) in
      ap (substitute depth w) (substitute-outside depth v index le) ∙ ap (λ n. substitute n w (shift 0 depth value)) here ∙ substitute-shift 0 depth w value
      ∙ sym (substitute-outside depth (λ k. substitute 0 w (v k)) index le)
]

mutual
  pub substitute-substitute : (depth : ℕ) (v w : ℕ → Term) (t : Term) → substitute depth w (substitute depth v t) ≡ substitute depth (λ k. substitute 0 w (v k)) t
  substitute-substitute depth v w (Bound index) = substitute_index-substitute depth v w index
  substitute-substitute depth v w (Const number) = refl
  substitute-substitute depth v w (App s ts) = ap (λ us. App s us) (substitute_args-substitute depth v w ts)

  pub substitute_args-substitute : (depth : ℕ) (v w : ℕ → Term) (ts : Terms) → substitute_args depth w (substitute_args depth v ts) ≡ substitute_args depth (λ k. substitute 0 w (v k)) ts
  substitute_args-substitute depth v w none = refl
  substitute_args-substitute depth v w (more t ts) = λ i. more (substitute-substitute depth v w t i) (substitute_args-substitute depth v w ts i)

pub substitute_formula-substitute : (depth : ℕ) (v w : ℕ → Term) (f : Formula) → substitute_formula depth w (substitute_formula depth v f) ≡ substitute_formula depth (λ k. substitute 0 w (v k)) f
substitute_formula-substitute depth v w Truth = refl
substitute_formula-substitute depth v w (Eq t u) = λ i. Eq (substitute-substitute depth v w t i) (substitute-substitute depth v w u i)
substitute_formula-substitute depth v w (Atom s ts) = ap (λ us. Atom s us) (map-map (substitute depth w) (substitute depth v) (substitute depth (λ k. substitute 0 w (v k))) (substitute-substitute depth v w) ts)
substitute_formula-substitute depth v w (Not f) = ap Not (substitute_formula-substitute depth v w f)
substitute_formula-substitute depth v w (And f g) = λ i. And (substitute_formula-substitute depth v w f i) (substitute_formula-substitute depth v w g i)
substitute_formula-substitute depth v w (All f) = ap All (substitute_formula-substitute (depth + 1) v w f)

-- indices of what is substituted in
substitute_index-bound : (depth m n : ℕ) (v : ℕ → Term) (index : ℕ) → ((k : ℕ) → k < n → is_below m (v k) ≡ true) → index < depth + n → is_below (depth + m) (substitute depth v (Bound index)) ≡ true
substitute_index-bound depth m n v index each lt = elim (cases_lt index depth) [
  | inl inside ↦
      let low : index < depth + m = omega arith in
      ap (is_below (depth + m)) (substitute-inside depth v index inside) ∙ lt-ltb index (depth + m) low
  | inr le ↦
      let within : index - depth < n = omega arith in
      let turned : depth + m ≡ m + depth = omega arith in
      ap (is_below (depth + m)) (substitute-outside depth v index le) ∙ ap (λ k. is_below k (shift 0 depth (v (index - depth)))) turned
      ∙ is_below-shift 0 depth m (v (index - depth)) (each (index - depth) within)
]

mutual
  pub is_below-substitute : (depth m n : ℕ) (v : ℕ → Term) (t : Term) → ((k : ℕ) → k < n → is_below m (v k) ≡ true) → is_below (depth + n) t ≡ true → is_below (depth + m) (substitute depth v t) ≡ true
  is_below-substitute depth m n v (Bound index) each h = substitute_index-bound depth m n v index each (ltb-true index (depth + n) h)
  is_below-substitute depth m n v (Const number) each h = refl
  is_below-substitute depth m n v (App s ts) each h = args_below-substitute depth m n v ts each h

  pub args_below-substitute : (depth m n : ℕ) (v : ℕ → Term) (ts : Terms) → ((k : ℕ) → k < n → is_below m (v k) ≡ true) → args_below (depth + n) ts ≡ true → args_below (depth + m) (substitute_args depth v ts) ≡ true
  args_below-substitute depth m n v none each h = refl
  args_below-substitute depth m n v (more t ts) each h =
      let p : (is_below (depth + n) t ≡ true) × (args_below (depth + n) ts ≡ true) = and_parts (is_below (depth + n) t) (args_below (depth + n) ts) h in
      and_from _ _ (is_below-substitute depth m n v t each p.0) (args_below-substitute depth m n v ts each p.1)

pub formula_below-substitute : (depth m n : ℕ) (v : ℕ → Term) (f : Formula) → ((k : ℕ) → k < n → is_below m (v k) ≡ true) → formula_below (depth + n) f ≡ true → formula_below (depth + m) (substitute_formula depth v f) ≡ true
formula_below-substitute depth m n v Truth each h = refl
formula_below-substitute depth m n v (Eq t u) each h =
    let p : (is_below (depth + n) t ≡ true) × (is_below (depth + n) u ≡ true) = and_parts (is_below (depth + n) t) (is_below (depth + n) u) h in
    and_from _ _ (is_below-substitute depth m n v t each p.0) (is_below-substitute depth m n v u each p.1)
formula_below-substitute depth m n v (Atom s ts) each h = list_all-map_where (is_below (depth + n)) (is_below (depth + m)) (substitute depth v) (λ t. is_below-substitute depth m n v t each) ts h
formula_below-substitute depth m n v (Not f) each h = formula_below-substitute depth m n v f each h
formula_below-substitute depth m n v (And f g) each h =
    let p : (formula_below (depth + n) f ≡ true) × (formula_below (depth + n) g ≡ true) = and_parts (formula_below (depth + n) f) (formula_below (depth + n) g) h in
    and_from _ _ (formula_below-substitute depth m n v f each p.0) (formula_below-substitute depth m n v g each p.1)
formula_below-substitute depth m n v (All f) each h =
    let inner : (depth + n) + 1 ≡ (depth + 1) + n = omega arith in
    let outer : (depth + m) + 1 ≡ (depth + 1) + m = omega arith in
    ap (λ k. formula_below k (substitute_formula (depth + 1) v f)) outer ∙ formula_below-substitute (depth + 1) m n v f each (ap (λ k. formula_below k f) (sym inner) ∙ h)

-- constants of what is substituted in
substitute_index-occurs : (c depth : ℕ) (v : ℕ → Term) (index : ℕ) → ((k : ℕ) → occurs c (v k) ≡ false) → occurs c (substitute depth v (Bound index)) ≡ false
substitute_index-occurs c depth v index apart = elim (cases_lt index depth) [
  | inl lt ↦ ap (occurs c) (substitute-inside depth v index lt)
  | inr le ↦ ap (occurs c) (substitute-outside depth v index le) ∙ occurs-shift c 0 depth (v (index - depth)) ∙ apart (index - depth)
]

mutual
  pub occurs-substitute : (c depth : ℕ) (v : ℕ → Term) (t : Term) → ((k : ℕ) → occurs c (v k) ≡ false) → occurs c t ≡ false → occurs c (substitute depth v t) ≡ false
  occurs-substitute c depth v (Bound index) apart h = substitute_index-occurs c depth v index apart
  occurs-substitute c depth v (Const number) apart h = h
  occurs-substitute c depth v (App s ts) apart h = occurs_in_args-substitute c depth v ts apart h

  pub occurs_in_args-substitute : (c depth : ℕ) (v : ℕ → Term) (ts : Terms) → ((k : ℕ) → occurs c (v k) ≡ false) → occurs_in_args c ts ≡ false → occurs_in_args c (substitute_args depth v ts) ≡ false
  occurs_in_args-substitute c depth v none apart h = refl
  occurs_in_args-substitute c depth v (more t ts) apart h =
      let p : (occurs c t ≡ false) × (occurs_in_args c ts ≡ false) = or_parts (occurs c t) (occurs_in_args c ts) h in
      or_from _ _ (occurs-substitute c depth v t apart p.0) (occurs_in_args-substitute c depth v ts apart p.1)

pub occurs_in_formula-substitute : (c depth : ℕ) (v : ℕ → Term) (f : Formula) → ((k : ℕ) → occurs c (v k) ≡ false) → occurs_in_formula c f ≡ false → occurs_in_formula c (substitute_formula depth v f) ≡ false
occurs_in_formula-substitute c depth v Truth apart h = refl
occurs_in_formula-substitute c depth v (Eq t u) apart h =
    let p : (occurs c t ≡ false) × (occurs c u ≡ false) = or_parts (occurs c t) (occurs c u) h in
    or_from _ _ (occurs-substitute c depth v t apart p.0) (occurs-substitute c depth v u apart p.1)
occurs_in_formula-substitute c depth v (Atom s ts) apart h = list_any-map_none (occurs c) (occurs c) (substitute depth v) (λ t. occurs-substitute c depth v t apart) ts h
occurs_in_formula-substitute c depth v (Not f) apart h = occurs_in_formula-substitute c depth v f apart h
occurs_in_formula-substitute c depth v (And f g) apart h =
    let p : (occurs_in_formula c f ≡ false) × (occurs_in_formula c g ≡ false) = or_parts (occurs_in_formula c f) (occurs_in_formula c g) h in
    or_from _ _ (occurs_in_formula-substitute c depth v f apart p.0) (occurs_in_formula-substitute c depth v g apart p.1)
occurs_in_formula-substitute c depth v (All f) apart h = occurs_in_formula-substitute c (depth + 1) v f apart h
