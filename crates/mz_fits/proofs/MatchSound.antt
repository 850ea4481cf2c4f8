-- Formal terms at what their loci are fixed to derive equal to the terms that they match.
use Rattle.std.proofs.Common.{◌≡◌, ◌≤◌, ◌<◌, ◌-◌, ◌+◌, ℕ, zero, suc, true, List, [], ◌∷◌, ◌++◌, refl, sym, ap, ◌∙◌, subst, arith, length, length-append, inl, inr, ◌⊎◌, Option, Some, None, map, reverse, get_or}
use Rattle.std.specs.Prelude.{slice_get, slice_set}
use Rattle.std.specs.List.{list_all}
use Rattle.std.proofs.lemmas.List.{get_or-reverse, length-reverse}
use Rattle.std.proofs.lemmas.Bool.{and_parts, and_from}
use Rattle.mz_std_laws.proofs.Sums.{either}
use Rattle.mz_logic.specs.declared.sym.Sym.{Sym}
use Rattle.mz_logic.specs.Term.{Term, Bound, Const, App, terms_of, list_of}
use Rattle.mz_logic.specs.Formula.{Formula, Eq}
use Rattle.mz_logic.specs.Indices.{closed}
use Rattle.mz_logic.specs.Substitution.{substitute, value_at}
use Rattle.mz_logic.specs.Equality.{AreEqual}
use Rattle.mz_logic.specs.Derives.{Derives}
use Rattle.mz_logic.proofs.Rules.{reflexive}
use Rattle.mz_logic.proofs.IndexLemmas.{args_below-terms_of}
use Rattle.mz_logic.proofs.SubstitutionLaws.{substitute_args-terms_of}
use Rattle.mz_logic.proofs.ValueLaws.{substitute-value_at, value_at-within}
use Rattle.mz_logic.proofs.Congruence.{application_congruence}
use Rattle.mz_context.specs.declared.constants.Constant.{Constant}
use Rattle.mz_ground.specs.declared.clause.Clause.{Clause}
use Rattle.mz_fits.specs.Matching.{Fixed, unfixed, Placed, fixes, equal, unequal, no_place, Matched, locus, no_locus, constant, other_constant, symbol, other_symbol, AllMatched, all_matched, one_more, one_fails, too_few, too_many, values_of, with_value}
use Rattle.mz_fits.specs.Laws.{AreGranted, MatchLaw}
use Rattle.mz_fits.proofs.SoundLemmas.{equal_derives}
use Rattle.mz_fits.proofs.OneMatch.{some-inj, none_some}

-- a locus is fixed to the term
abbrev IsFixed : Fixed → ℕ → Term → Type 0
IsFixed fs p u = slice_get fs p ≡ Some (Some u)

-- what is fixed stays
abbrev Extends : Fixed → Fixed → Type 0
Extends fs gs = (p : ℕ) (u : Term) → IsFixed fs p u → IsFixed gs p u

abbrev AreClosed : Fixed → Type 0
AreClosed fs = (p : ℕ) (u : Term) → IsFixed fs p u → closed u ≡ true

set_length : (fs : Fixed) (p : ℕ) (t : Term) → length (slice_set fs p (Some t)) ≡ length fs
set_length [] p t = refl
set_length (x ∷ xs) zero t = refl
set_length (x ∷ xs) (suc p) t = ap suc (set_length xs p t)

clash : (x : Option Term) (u : Term) → Some x ≡ Some None → Some x ≡ Some (Some u) → ⊥
clash x u h k = none_some u (some-inj None (Some u) (sym h ∙ k))

set_at : (fs : Fixed) (p : ℕ) (t : Term) → slice_get fs p ≡ Some None → IsFixed (slice_set fs p (Some t)) p t
set_at [] p t h = absurd (none_some None h)
set_at (x ∷ xs) zero t h = refl
set_at (x ∷ xs) (suc p) t h = set_at xs p t h

set_keeps : (fs : Fixed) (p q : ℕ) (t u : Term) → slice_get fs p ≡ Some None → IsFixed fs q u → IsFixed (slice_set fs p (Some t)) q u
set_keeps [] p q t u h k = absurd (none_some (Some u) k)
set_keeps (x ∷ xs) zero zero t u h k = absurd (clash x u h k)
set_keeps (x ∷ xs) zero (suc q) t u h k = k
set_keeps (x ∷ xs) (suc p) zero t u h k = k
set_keeps (x ∷ xs) (suc p) (suc q) t u h k = set_keeps xs p q t u h k

set_from : (fs : Fixed) (p q : ℕ) (t u : Term) → slice_get fs p ≡ Some None → IsFixed (slice_set fs p (Some t)) q u → (t ≡ u) ⊎ IsFixed fs q u
set_from [] p q t u h k = absurd (none_some None h)
set_from (x ∷ xs) zero zero t u h k = inl (some-inj t u (some-inj (Some t) (Some u) k))
set_from (x ∷ xs) zero (suc q) t u h k = inr k
set_from (x ∷ xs) (suc p) zero t u h k = inr k
set_from (x ∷ xs) (suc p) (suc q) t u h k = set_from xs p q t u h k

placed_extends : (cs : List Clause) (ks : List (Option Constant)) (fs : Fixed) (p : ℕ) (t : Term) (o : Option Fixed) → Placed cs ks fs p t o → (gs : Fixed) → o ≡ Some gs → Extends fs gs
placed_extends cs ks fs p t o (fixes h) gs e q u k = subst (λ (xs : Fixed). IsFixed xs q u) (some-inj (slice_set fs p (Some t)) gs e) (set_keeps fs p q t u h k)
placed_extends cs ks fs p t o (equal w h i) gs e q u k = subst (λ (xs : Fixed). IsFixed xs q u) (some-inj fs gs e) k
placed_extends cs ks fs p t o (unequal w h i) gs e q u k = absurd (none_some gs e)
placed_extends cs ks fs p t o (no_place h) gs e q u k = absurd (none_some gs e)

placed_closed : (cs : List Clause) (ks : List (Option Constant)) (fs : Fixed) (p : ℕ) (t : Term) (o : Option Fixed) → Placed cs ks fs p t o → closed t ≡ true → AreClosed fs → (gs : Fixed) → o ≡ Some gs → AreClosed gs
placed_closed cs ks fs p t o (fixes h) ct a gs e q u k =
    either (set_from fs p q t u h (subst (λ (xs : Fixed). IsFixed xs q u) (sym (some-inj (slice_set fs p (Some t)) gs e)) k)) (λ s. subst (λ x. closed x ≡ true) s ct) (λ s. a q u s)
placed_closed cs ks fs p t o (equal w h i) ct a gs e q u k = a q u (subst (λ (xs : Fixed). IsFixed xs q u) (sym (some-inj fs gs e)) k)
placed_closed cs ks fs p t o (unequal w h i) ct a gs e q u k = absurd (none_some gs e)
placed_closed cs ks fs p t o (no_place h) ct a gs e q u k = absurd (none_some gs e)

placed_length : (cs : List Clause) (ks : List (Option Constant)) (fs : Fixed) (p : ℕ) (t : Term) (o : Option Fixed) → Placed cs ks fs p t o → (gs : Fixed) → o ≡ Some gs → length gs ≡ length fs
placed_length cs ks fs p t o (fixes h) gs e = ap length (sym (some-inj (slice_set fs p (Some t)) gs e)) ∙ set_length fs p t
placed_length cs ks fs p t o (equal w h i) gs e = ap length (sym (some-inj fs gs e))
placed_length cs ks fs p t o (unequal w h i) gs e = absurd (none_some gs e)
placed_length cs ks fs p t o (no_place h) gs e = absurd (none_some gs e)

closed_parts : (s : Sym) (ts : List Term) → closed (App s (terms_of ts)) ≡ true → list_all closed ts ≡ true
closed_parts s ts h = sym (args_below-terms_of 0 ts) ∙ h

mutual
  matched_extends : (cs : List Clause) (ks : List (Option Constant)) (scope : ℕ) (fs : Fixed) (f t : Term) (o : Option Fixed) → Matched cs ks scope fs f t o → closed t ≡ true → AreClosed fs → (gs : Fixed) → o ≡ Some gs → Extends fs gs × AreClosed gs × (length gs ≡ length fs)
  matched_extends cs ks scope fs f t o (locus hs i u r lt h) ct a gs e = (placed_extends cs ks hs (scope - suc i) u r h gs e, placed_closed cs ks hs (scope - suc i) u r h ct a gs e, placed_length cs ks hs (scope - suc i) u r h gs e)
  matched_extends cs ks scope fs f t o (no_locus hs i u le) ct a gs e = absurd (none_some gs e)
  matched_extends cs ks scope fs f t o (constant hs n) ct a gs e =
      (subst (λ (xs : Fixed). Extends hs xs) (some-inj hs gs e) (λ q u k. k), subst (λ (xs : Fixed). AreClosed xs) (some-inj hs gs e) a, ap length (sym (some-inj hs gs e)))
  matched_extends cs ks scope fs f t o (other_constant hs n u h) ct a gs e = absurd (none_some gs e)
  matched_extends cs ks scope fs f t o (symbol hs s us ts r h) ct a gs e = all_extends cs ks scope hs us ts r h (closed_parts s ts ct) a gs e
  matched_extends cs ks scope fs f t o (other_symbol hs s us u h) ct a gs e = absurd (none_some gs e)

  all_extends : (cs : List Clause) (ks : List (Option Constant)) (scope : ℕ) (fs : Fixed) (us ts : List Term) (o : Option Fixed) → AllMatched cs ks scope fs us ts o → list_all closed ts ≡ true → AreClosed fs → (gs : Fixed) → o ≡ Some gs → Extends fs gs × AreClosed gs × (length gs ≡ length fs)
  all_extends cs ks scope fs us ts o (all_matched hs) ct a gs e =
      (subst (λ (xs : Fixed). Extends hs xs) (some-inj hs gs e) (λ q u k. k), subst (λ (xs : Fixed). AreClosed xs) (some-inj hs gs e) a, ap length (sym (some-inj hs gs e)))
  all_extends cs ks scope fs us ts o (one_more hs between f x fs' xs r h rest) ct a gs e =
      let c : (closed x ≡ true) × (list_all closed xs ≡ true) = and_parts (closed x) (list_all closed xs) ct in
      let one : Extends hs between × AreClosed between × (length between ≡ length hs) = matched_extends cs ks scope hs f x (Some between) h c.0 a between refl in
      let two : Extends between gs × AreClosed gs × (length gs ≡ length between) = all_extends cs ks scope between fs' xs r rest c.1 one.1 gs e in
      (λ q u k. two.0 q u (one.0 q u k), two.1, two.2 ∙ one.2)
  all_extends cs ks scope fs us ts o (one_fails hs f x fs' xs h) ct a gs e = absurd (none_some gs e)
  all_extends cs ks scope fs us ts o (too_few hs x xs) ct a gs e = absurd (none_some gs e)
  all_extends cs ks scope fs us ts o (too_many hs f fs') ct a gs e = absurd (none_some gs e)

-- the values of loci by their indices
abbrev Agrees : ℕ → Fixed → (ℕ → Term) → Type 0
Agrees scope fs v = (i : ℕ) (u : Term) → i < scope → IsFixed fs (scope - suc i) u → substitute 0 v (Bound i) ≡ u

-- what a placed term is fixed to, and that it derives equal
placed_equal : (ax g : List Formula) (cs : List Clause) (ks : List (Option Constant)) → AreGranted ax g cs ks → (fs : Fixed) (p : ℕ) (t : Term) (o : Option Fixed) → Placed cs ks fs p t o → closed t ≡ true → AreClosed fs → (gs : Fixed) → o ≡ Some gs → (u : Term) × IsFixed gs p u × Derives ax g (Eq u t) × (closed u ≡ true)
placed_equal ax g cs ks grants fs p t o (fixes h) ct a gs e = (t, subst (λ (xs : Fixed). IsFixed xs p t) (some-inj (slice_set fs p (Some t)) gs e) (set_at fs p t h), reflexive ax g t ct, ct)
placed_equal ax g cs ks grants fs p t o (equal u h i) ct a gs e =
    (u, subst (λ (xs : Fixed). IsFixed xs p u) (some-inj fs gs e) h, equal_derives ax g cs ks grants u t (reflexive ax g u (a p u h)) i, a p u h)
placed_equal ax g cs ks grants fs p t o (unequal u h i) ct a gs e = absurd (none_some gs e)
placed_equal ax g cs ks grants fs p t o (no_place h) ct a gs e = absurd (none_some gs e)

-- an application whose arguments derive equal
applied : (ax g : List Formula) (v : ℕ → Term) (s : Sym) (us ts : List Term) → list_all closed ts ≡ true → AreEqual ax g (map (substitute 0 v) us) ts → list_all closed (map (substitute 0 v) us) ≡ true → Derives ax g (Eq (substitute 0 v (App s (terms_of us))) (App s (terms_of ts))) × (closed (substitute 0 v (App s (terms_of us))) ≡ true)
applied ax g v s us ts ct e cu =
    let same : App s (terms_of (map (substitute 0 v) us)) ≡ substitute 0 v (App s (terms_of us)) = ap (App s) (sym (substitute_args-terms_of 0 v us)) in
    (subst (λ x. Derives ax g (Eq x (App s (terms_of ts)))) same (application_congruence ax g s (map (substitute 0 v) us) ts cu ct e), subst (λ x. closed x ≡ true) same (args_below-terms_of 0 (map (substitute 0 v) us) ∙ cu))

mutual
  matched_equal : (ax g : List Formula) (cs : List Clause) (ks : List (Option Constant)) → AreGranted ax g cs ks → (scope : ℕ) (end : Fixed) (v : ℕ → Term) → Agrees scope end v → (fs : Fixed) (f t : Term) (o : Option Fixed) → Matched cs ks scope fs f t o → closed t ≡ true → AreClosed fs → (gs : Fixed) → o ≡ Some gs → Extends gs end → Derives ax g (Eq (substitute 0 v f) t) × (closed (substitute 0 v f) ≡ true)
  matched_equal ax g cs ks grants scope end v agrees fs f t o (locus hs i u r lt h) ct a gs e x =
      let q : (w : Term) × IsFixed gs (scope - suc i) w × Derives ax g (Eq w u) × (closed w ≡ true) = placed_equal ax g cs ks grants hs (scope - suc i) u r h ct a gs e in
      let same : substitute 0 v (Bound i) ≡ q.0 = agrees i q.0 lt (x (scope - suc i) q.0 q.1) in
      (subst (λ y. Derives ax g (Eq y u)) (sym same) q.2, subst (λ y. closed y ≡ true) (sym same) q.3)
  matched_equal ax g cs ks grants scope end v agrees fs f t o (no_locus hs i u le) ct a gs e x = absurd (none_some gs e)
  matched_equal ax g cs ks grants scope end v agrees fs f t o (constant hs n) ct a gs e x = (reflexive ax g (Const n) ct, ct)
  matched_equal ax g cs ks grants scope end v agrees fs f t o (other_constant hs n u h) ct a gs e x = absurd (none_some gs e)
  matched_equal ax g cs ks grants scope end v agrees fs f t o (symbol hs s us ts r h) ct a gs e x =
      let c : list_all closed ts ≡ true = closed_parts s ts ct in
      let q : AreEqual ax g (map (substitute 0 v) us) ts × (list_all closed (map (substitute 0 v) us) ≡ true) = all_equal ax g cs ks grants scope end v agrees hs us ts r h c a gs e x in
      applied ax g v s us ts c q.0 q.1
  matched_equal ax g cs ks grants scope end v agrees fs f t o (other_symbol hs s us u h) ct a gs e x = absurd (none_some gs e)

  all_equal : (ax g : List Formula) (cs : List Clause) (ks : List (Option Constant)) → AreGranted ax g cs ks → (scope : ℕ) (end : Fixed) (v : ℕ → Term) → Agrees scope end v → (fs : Fixed) (us ts : List Term) (o : Option Fixed) → AllMatched cs ks scope fs us ts o → list_all closed ts ≡ true → AreClosed fs → (gs : Fixed) → o ≡ Some gs → Extends gs end → AreEqual ax g (map (substitute 0 v) us) ts × (list_all closed (map (substitute 0 v) us) ≡ true)
  all_equal ax g cs ks grants scope end v agrees fs us ts o (all_matched hs) ct a gs e x = (tt, refl)
  all_equal ax g cs ks grants scope end v agrees fs us ts o (one_more hs between f y fs' ys r h rest) ct a gs e x =
      let c : (closed y ≡ true) × (list_all closed ys ≡ true) = and_parts (closed y) (list_all closed ys) ct in
      let first : Extends hs between × AreClosed between × (length between ≡ length hs) = matched_extends cs ks scope hs f y (Some between) h c.0 a between refl in
      let later : Extends between gs × AreClosed gs × (length gs ≡ length between) = all_extends cs ks scope between fs' ys r rest c.1 first.1 gs e in
      let one : Derives ax g (Eq (substitute 0 v f) y) × (closed (substitute 0 v f) ≡ true) = matched_equal ax g cs ks grants scope end v agrees hs f y (Some between) h c.0 a between refl (λ q u k. x q u (later.0 q u k)) in
      let others : AreEqual ax g (map (substitute 0 v) fs') ys × (list_all closed (map (substitute 0 v) fs') ≡ true) = all_equal ax g cs ks grants scope end v agrees between fs' ys r rest c.1 first.1 gs e x in
      ((one.0, others.0), and_from (closed (substitute 0 v f)) (list_all closed (map (substitute 0 v) fs')) one.1 others.1)
  all_equal ax g cs ks grants scope end v agrees fs us ts o (one_fails hs f y fs' ys h) ct a gs e x = absurd (none_some gs e)
  all_equal ax g cs ks grants scope end v agrees fs us ts o (too_few hs y ys) ct a gs e x = absurd (none_some gs e)
  all_equal ax g cs ks grants scope end v agrees fs us ts o (too_many hs f fs') ct a gs e x = absurd (none_some gs e)

-- at first nothing is fixed
not_last : (u : Term) (fs : Fixed) (q : ℕ) → IsFixed (fs ++ None ∷ []) q u → IsFixed fs q u
not_last u [] zero h = absurd (none_some u (some-inj None (Some u) h))
not_last u [] (suc q) h = absurd (none_some (Some u) h)
not_last u (x ∷ xs) zero h = h
not_last u (x ∷ xs) (suc q) h = not_last u xs q h

none_fixed : (n p : ℕ) (u : Term) → IsFixed (unfixed n) p u → ⊥
none_fixed zero p u h = none_some (Some u) h
none_fixed (suc n) p u h = none_fixed n p u (not_last u (unfixed n) p h)

-- the values of all loci
inverted : (t : Term) (o : Option (List Term)) (vs : List Term) → with_value t o ≡ Some vs → (ws : List Term) × (o ≡ Some ws) × (t ∷ ws ≡ vs)
inverted t None vs h = absurd (none_some vs h)
inverted t (Some ws) vs h = (ws, refl, some-inj (t ∷ ws) vs h)

slice_get-there : (fs : Fixed) (t : Term) (us : List Term) → ((p : ℕ) (u : Term) → IsFixed fs p u → slice_get us p ≡ Some u) → (p : ℕ) (u : Term) → IsFixed (Some t ∷ fs) p u → slice_get (t ∷ us) p ≡ Some u
slice_get-there fs t us f zero u k = some-inj (Some t) (Some u) k
slice_get-there fs t us f (suc p) u k = f p u k

values_at : (fs : Fixed) (vs : List Term) → values_of fs ≡ Some vs → (length vs ≡ length fs) × ((p : ℕ) (u : Term) → IsFixed fs p u → slice_get vs p ≡ Some u)
values_at [] vs h = let e : [] ≡ vs = some-inj [] vs h in (ap length (sym e), λ p u k. absurd (none_some (Some u) k))
values_at (None ∷ fs) vs h = absurd (none_some vs h)
values_at (Some t ∷ fs) vs h =
    let i : (ws : List Term) × (values_of fs ≡ Some ws) × (t ∷ ws ≡ vs) = inverted t (values_of fs) vs h in
    let rest : (length i.0 ≡ length fs) × ((p : ℕ) (u : Term) → IsFixed fs p u → slice_get i.0 p ≡ Some u) = values_at fs i.0 i.1 in
    (sym (ap length i.2) ∙ ap suc rest.0, λ p u k. subst (λ (us : List Term). slice_get us p ≡ Some u) i.2 (slice_get-there fs t i.0 rest.1 p u k))

get_or-got : (vs : List Term) (p : ℕ) (u : Term) → slice_get vs p ≡ Some u → get_or vs p u ≡ u
get_or-got [] p u h = absurd (none_some u h)
get_or-got (x ∷ xs) zero u h = some-inj x u h
get_or-got (x ∷ xs) (suc p) u h = get_or-got xs p u h

agrees_at : (scope : ℕ) (fs : Fixed) (vs : List Term) → values_of fs ≡ Some vs → length fs ≡ scope → Agrees scope fs (value_at (reverse vs))
agrees_at scope fs vs h el i u lt k =
    let v : (length vs ≡ length fs) × ((p : ℕ) (w : Term) → IsFixed fs p w → slice_get vs p ≡ Some w) = values_at fs vs h in
    let n : length (reverse vs) ≡ length vs = length-reverse vs in
    let inside : i < length vs = omega (arith, lt, el, v.0) in
    let back : i < length (reverse vs) = omega (arith, inside, n) in
    let place : length vs - 1 - i ≡ scope - suc i = omega (arith, el, v.0) in
    substitute-value_at (reverse vs) i ∙ value_at-within (reverse vs) i u back ∙ get_or-reverse vs i u inside ∙ ap (λ p. get_or vs p u) place ∙ get_or-got vs (scope - suc i) u (v.1 (scope - suc i) u k)

length_unfixed : (n : ℕ) → length (unfixed n) ≡ n
length_unfixed zero = refl
length_unfixed (suc n) =
    let a : length (unfixed n ++ None ∷ []) ≡ length (unfixed n) + 1 = length-append (unfixed n) (None ∷ []) in
    let b : length (unfixed n) ≡ n = length_unfixed n in
    omega (arith, a, b)

-- closed values
values_closed : (fs : Fixed) (vs : List Term) → values_of fs ≡ Some vs → AreClosed fs → list_all closed vs ≡ true
values_closed [] vs h a = subst (λ (us : List Term). list_all closed us ≡ true) (some-inj [] vs h) refl
values_closed (None ∷ fs) vs h a = absurd (none_some vs h)
values_closed (Some t ∷ fs) vs h a =
    let i : (ws : List Term) × (values_of fs ≡ Some ws) × (t ∷ ws ≡ vs) = inverted t (values_of fs) vs h in
    subst (λ (us : List Term). list_all closed us ≡ true) i.2 (and_from (closed t) (list_all closed i.0) (a 0 t refl) (values_closed fs i.0 i.1 (λ p u k. a (suc p) u k)))

pub match_law : MatchLaw
match_law ax g cs ks grants scope fs us ts vs ct h hv =
    let a : AreClosed (unfixed scope) = λ p u k. absurd (none_fixed scope p u k) in
    let x : Extends (unfixed scope) fs × AreClosed fs × (length fs ≡ length (unfixed scope)) = all_extends cs ks scope (unfixed scope) us ts (Some fs) h ct a fs refl in
    let el : length fs ≡ scope = x.2 ∙ length_unfixed scope in
    ((all_equal ax g cs ks grants scope fs (value_at (reverse vs)) (agrees_at scope fs vs hv el) (unfixed scope) us ts (Some fs) h ct a fs refl (λ p u k. k)).0, values_closed fs vs hv x.1)
