-- What matches fix is of known constants where the terms are.
use Rattle.std.proofs.Common.{◌≡◌, ◌-◌, ℕ, zero, suc, List, [], ◌∷◌, refl, sym, ◌∙◌, subst, Bool, true, Option, Some, None}
use Rattle.std.specs.Prelude.{slice_set}
use Rattle.std.specs.List.{list_all}
use Rattle.std.proofs.lemmas.Bool.{and_parts, and_from}
use Rattle.mz_logic.specs.declared.sym.Sym.{Sym}
use Rattle.mz_logic.specs.Term.{Term, App, terms_of}
use Rattle.mz_core.proofs.AllLemmas.{all-append}
use Rattle.mz_context.specs.declared.constants.Constant.{Constant}
use Rattle.mz_ground.specs.declared.clause.Clause.{Clause}
use Rattle.mz_fits.specs.Matching.{Fixed, unfixed, Placed, fixes, equal, unequal, no_place, Matched, locus, no_locus, constant, other_constant, symbol, other_symbol, AllMatched, all_matched, one_more, one_fails, too_few, too_many, values_of, with_value}
use Rattle.mz_fits.proofs.OneMatch.{some-inj, none_some}
use Rattle.mz_choice_laws.specs.Known.{term_known}
use Rattle.mz_choice_laws.proofs.ListParts.{all-set}
use Rattle.mz_choice_laws.proofs.KnownTerms.{args_known-terms_of}

-- what is fixed
abbrev pub fixed_known : (ℕ → Bool) → Option Term → Bool
fixed_known known None = true
fixed_known known (Some t) = term_known known 0 t

abbrev pub AreKnown : (ℕ → Bool) → Fixed → Type 0
AreKnown known fs = list_all (fixed_known known) fs ≡ true

pub unfixed_known : (known : ℕ → Bool) (n : ℕ) → AreKnown known (unfixed n)
unfixed_known known zero = refl
unfixed_known known (suc n) = all-append (fixed_known known) (unfixed n) (None ∷ []) (unfixed_known known n) refl

pub arguments_known : (known : ℕ → Bool) (s : Sym) (ts : List Term) → term_known known 0 (App s (terms_of ts)) ≡ true → list_all (term_known known 0) ts ≡ true
arguments_known known s ts h = sym (args_known-terms_of known 0 ts) ∙ h

pub placed_known : (known : ℕ → Bool) (cs : List Clause) (ks : List (Option Constant)) (fs : Fixed) (p : ℕ) (t : Term) (o : Option Fixed) → Placed cs ks fs p t o → term_known known 0 t ≡ true → AreKnown known fs → (gs : Fixed) → o ≡ Some gs → AreKnown known gs
placed_known known cs ks fs p t o (fixes h) kt a gs e = subst (AreKnown known) (some-inj (slice_set fs p (Some t)) gs e) (all-set (fixed_known known) fs p (Some t) kt a)
placed_known known cs ks fs p t o (equal u h i) kt a gs e = subst (AreKnown known) (some-inj fs gs e) a
placed_known known cs ks fs p t o (unequal u h i) kt a gs e = absurd (none_some gs e)
placed_known known cs ks fs p t o (no_place h) kt a gs e = absurd (none_some gs e)

mutual
  matched_known : (known : ℕ → Bool) (cs : List Clause) (ks : List (Option Constant)) (scope : ℕ) (fs : Fixed) (f t : Term) (o : Option Fixed) → Matched cs ks scope fs f t o → term_known known 0 t ≡ true → AreKnown known fs → (gs : Fixed) → o ≡ Some gs → AreKnown known gs
  matched_known known cs ks scope fs f t o (locus hs i u r lt h) kt a gs e = placed_known known cs ks hs (scope - suc i) u r h kt a gs e
  matched_known known cs ks scope fs f t o (no_locus hs i u le) kt a gs e = absurd (none_some gs e)
  matched_known known cs ks scope fs f t o (constant hs n) kt a gs e = subst (AreKnown known) (some-inj hs gs e) a
  matched_known known cs ks scope fs f t o (other_constant hs n u h) kt a gs e = absurd (none_some gs e)
  matched_known known cs ks scope fs f t o (symbol hs s us ts r h) kt a gs e = all_matched_known known cs ks scope hs us ts r h (arguments_known known s ts kt) a gs e
  matched_known known cs ks scope fs f t o (other_symbol hs s us u h) kt a gs e = absurd (none_some gs e)

  pub all_matched_known : (known : ℕ → Bool) (cs : List Clause) (ks : List (Option Constant)) (scope : ℕ) (fs : Fixed) (us ts : List Term) (o : Option Fixed) → AllMatched cs ks scope fs us ts o → list_all (term_known known 0) ts ≡ true → AreKnown known fs → (gs : Fixed) → o ≡ Some gs → AreKnown known gs
  all_matched_known known cs ks scope fs us ts o (all_matched hs) kt a gs e = subst (AreKnown known) (some-inj hs gs e) a
  all_matched_known known cs ks scope fs us ts o (one_more hs between f x fs' xs r h rest) kt a gs e =
      let both : (term_known known 0 x ≡ true) × (list_all (term_known known 0) xs ≡ true) = and_parts (term_known known 0 x) (list_all (term_known known 0) xs) kt in
      all_matched_known known cs ks scope between fs' xs r rest both.1 (matched_known known cs ks scope hs f x (Some between) h both.0 a between refl) gs e
  all_matched_known known cs ks scope fs us ts o (one_fails hs f x fs' xs h) kt a gs e = absurd (none_some gs e)
  all_matched_known known cs ks scope fs us ts o (too_few hs x xs) kt a gs e = absurd (none_some gs e)
  all_matched_known known cs ks scope fs us ts o (too_many hs f fs') kt a gs e = absurd (none_some gs e)

with_value_known : (known : ℕ → Bool) (t : Term) (o : Option (List Term)) (vs : List Term) → term_known known 0 t ≡ true → ((us : List Term) → o ≡ Some us → list_all (term_known known 0) us ≡ true) → with_value t o ≡ Some vs → list_all (term_known known 0) vs ≡ true
with_value_known known t None vs h f e = absurd (none_some vs e)
with_value_known known t (Some us) vs h f e = subst (λ (ws : List Term). list_all (term_known known 0) ws ≡ true) (some-inj (t ∷ us) vs e) (and_from (term_known known 0 t) (list_all (term_known known 0) us) h (f us refl))

pub values_known : (known : ℕ → Bool) (fs : Fixed) (vs : List Term) → AreKnown known fs → values_of fs ≡ Some vs → list_all (term_known known 0) vs ≡ true
values_known known [] vs a e = subst (λ (ws : List Term). list_all (term_known known 0) ws ≡ true) (some-inj [] vs e) refl
values_known known (None ∷ fs) vs a e = absurd (none_some vs e)
values_known known (Some t ∷ fs) vs a e =
    let both : (term_known known 0 t ≡ true) × AreKnown known fs = and_parts (term_known known 0 t) (list_all (fixed_known known) fs) a in
    with_value_known known t (values_of fs) vs both.0 (λ us h. values_known known fs us both.1 h) e
