-- What holds of the terms that are matched holds of what the loci are fixed to.
use Rattle.std.proofs.Common.{◌≡◌, ◌-◌, ℕ, zero, suc, Bool, true, List, [], ◌∷◌, ◌++◌, refl, sym, subst, inl, inr, ◌⊎◌, Option, Some, None}
use Rattle.std.specs.Prelude.{◌&&◌, slice_get, slice_set}
use Rattle.std.specs.List.{list_all}
use Rattle.std.proofs.lemmas.Bool.{and_parts, and_from}
use Rattle.mz_logic.specs.declared.sym.Sym.{Sym}
use Rattle.mz_logic.specs.Term.{Term, App, terms_of}
use Rattle.mz_context.specs.declared.constants.Constant.{Constant}
use Rattle.mz_ground.specs.declared.clause.Clause.{Clause}
use Rattle.mz_fits.specs.Matching.{Fixed, unfixed, Placed, fixes, equal, unequal, no_place, Matched, locus, no_locus, constant, other_constant, symbol, other_symbol, AllMatched, all_matched, one_more, one_fails, too_few, too_many, values_of, with_value}
use Rattle.mz_fits.proofs.OneMatch.{some-inj, none_some}

-- a property of terms that the arguments of an application have
abbrev pub GoesInside : (Term → Bool) → Type 0
GoesInside p = (s : Sym) (ts : List Term) → p (App s (terms_of ts)) ≡ true → list_all p ts ≡ true

abbrev kept : (Term → Bool) → Option Term → Bool
kept p None = true
kept p (Some t) = p t

abbrev Keeps : (Term → Bool) → Fixed → Type 0
Keeps p fs = list_all (kept p) fs ≡ true

unfixed_keeps : (p : Term → Bool) (n : ℕ) → Keeps p (unfixed n)
unfixed_keeps p zero = refl
unfixed_keeps p (suc n) = appended (unfixed n) (unfixed_keeps p n)
  where
    appended : (fs : Fixed) → Keeps p fs → Keeps p (fs ++ None ∷ [])
    appended [] h = refl
    appended (x ∷ xs) h = and_from (kept p x) _ (and_parts (kept p x) (list_all (kept p) xs) h).0 (appended xs (and_parts (kept p x) (list_all (kept p) xs) h).1)

set_keeps : (p : Term → Bool) (fs : Fixed) (k : ℕ) (t : Term) → p t ≡ true → Keeps p fs → Keeps p (slice_set fs k (Some t))
set_keeps p [] k t ht h = h
set_keeps p (x ∷ xs) zero t ht h = and_from (p t) (list_all (kept p) xs) ht (and_parts (kept p x) (list_all (kept p) xs) h).1
set_keeps p (x ∷ xs) (suc k) t ht h = and_from (kept p x) _ (and_parts (kept p x) (list_all (kept p) xs) h).0 (set_keeps p xs k t ht (and_parts (kept p x) (list_all (kept p) xs) h).1)

placed_keeps : (p : Term → Bool) (cs : List Clause) (ks : List (Option Constant)) (fs : Fixed) (k : ℕ) (t : Term) (o : Option Fixed) → Placed cs ks fs k t o → p t ≡ true → Keeps p fs → (gs : Fixed) → o ≡ Some gs → Keeps p gs
placed_keeps p cs ks fs k t o (fixes h) ht a gs e = subst (Keeps p) (some-inj (slice_set fs k (Some t)) gs e) (set_keeps p fs k t ht a)
placed_keeps p cs ks fs k t o (equal w h i) ht a gs e = subst (Keeps p) (some-inj fs gs e) a
placed_keeps p cs ks fs k t o (unequal w h i) ht a gs e = absurd (none_some gs e)
placed_keeps p cs ks fs k t o (no_place h) ht a gs e = absurd (none_some gs e)

mutual
  matched_keeps : (p : Term → Bool) → GoesInside p → (cs : List Clause) (ks : List (Option Constant)) (scope : ℕ) (fs : Fixed) (f t : Term) (o : Option Fixed) → Matched cs ks scope fs f t o → p t ≡ true → Keeps p fs → (gs : Fixed) → o ≡ Some gs → Keeps p gs
  matched_keeps p inside cs ks scope fs f t o (locus hs i u r lt h) ht a gs e = placed_keeps p cs ks hs (scope - suc i) u r h ht a gs e
  matched_keeps p inside cs ks scope fs f t o (no_locus hs i u le) ht a gs e = absurd (none_some gs e)
  matched_keeps p inside cs ks scope fs f t o (constant hs n) ht a gs e = subst (Keeps p) (some-inj hs gs e) a
  matched_keeps p inside cs ks scope fs f t o (other_constant hs n u h) ht a gs e = absurd (none_some gs e)
  matched_keeps p inside cs ks scope fs f t o (symbol hs s us ts r h) ht a gs e = all_keep p inside cs ks scope hs us ts r h (inside s ts ht) a gs e
  matched_keeps p inside cs ks scope fs f t o (other_symbol hs s us u h) ht a gs e = absurd (none_some gs e)

  pub all_keep : (p : Term → Bool) → GoesInside p → (cs : List Clause) (ks : List (Option Constant)) (scope : ℕ) (fs : Fixed) (us ts : List Term) (o : Option Fixed) → AllMatched cs ks scope fs us ts o → list_all p ts ≡ true → Keeps p fs → (gs : Fixed) → o ≡ Some gs → Keeps p gs
  all_keep p inside cs ks scope fs us ts o (all_matched hs) ht a gs e = subst (Keeps p) (some-inj hs gs e) a
  all_keep p inside cs ks scope fs us ts o (one_more hs between f x fs' xs r h rest) ht a gs e =
      let c : (p x ≡ true) × (list_all p xs ≡ true) = and_parts (p x) (list_all p xs) ht in
      all_keep p inside cs ks scope between fs' xs r rest c.1 (matched_keeps p inside cs ks scope hs f x (Some between) h c.0 a between refl) gs e
  all_keep p inside cs ks scope fs us ts o (one_fails hs f x fs' xs h) ht a gs e = absurd (none_some gs e)
  all_keep p inside cs ks scope fs us ts o (too_few hs x xs) ht a gs e = absurd (none_some gs e)
  all_keep p inside cs ks scope fs us ts o (too_many hs f fs') ht a gs e = absurd (none_some gs e)

-- the values of the loci
inverted : (t : Term) (o : Option (List Term)) (vs : List Term) → with_value t o ≡ Some vs → (ws : List Term) × (o ≡ Some ws) × (t ∷ ws ≡ vs)
inverted t None vs h = absurd (none_some vs h)
inverted t (Some ws) vs h = (ws, refl, some-inj (t ∷ ws) vs h)

values_keep : (p : Term → Bool) (fs : Fixed) (vs : List Term) → values_of fs ≡ Some vs → Keeps p fs → list_all p vs ≡ true
values_keep p [] vs h a = subst (λ xs. list_all p xs ≡ true) (some-inj [] vs h) refl
values_keep p (None ∷ fs) vs h a = absurd (none_some vs h)
values_keep p (Some t ∷ fs) vs h a =
    let i : (ws : List Term) × (values_of fs ≡ Some ws) × (t ∷ ws ≡ vs) = inverted t (values_of fs) vs h in
    let c : (p t ≡ true) × (list_all (kept p) fs ≡ true) = and_parts (p t) (list_all (kept p) fs) a in
    subst (λ xs. list_all p xs ≡ true) i.2 (and_from (p t) (list_all p i.0) c.0 (values_keep p fs i.0 i.1 c.1))

-- where all terms that are matched have the property, so have the values
pub matched_values : (p : Term → Bool) → GoesInside p → (cs : List Clause) (ks : List (Option Constant)) (scope : ℕ) (us ts vs : List Term) (fs : Fixed) → AllMatched cs ks scope (unfixed scope) us ts (Some fs) → values_of fs ≡ Some vs → list_all p ts ≡ true → list_all p vs ≡ true
matched_values p inside cs ks scope us ts vs fs h hv ht = values_keep p fs vs hv (all_keep p inside cs ks scope (unfixed scope) us ts (Some fs) h ht (unfixed_keeps p scope) fs refl)
