-- What is fixed behind a match is determined.
use Rattle.std.proofs.Common.{◌≡◌, ◌≤◌, ◌<◌, ◌-◌, ℕ, suc, Bool, true, false, List, [], ◌∷◌, refl, sym, ap, ◌∙◌, subst, arith, length, inl, inr, ◌⊎◌, Option, Some, None}
use Rattle.std.specs.Prelude.{nat_eq, slice_get, slice_set, ◌&&◌}
use Rattle.std.proofs.lemmas.Bool.{eq-eqb}
pub use Rattle.mz_std_laws.proofs.Options.{some-inj, none_some}
use Rattle.mz_std_laws.proofs.Sums.{either, either_once}
use Rattle.mz_logic.specs.Sym.{same_sym, kind_number}
use Rattle.mz_logic.specs.declared.sym.Sym.{Sym}
use Rattle.mz_logic.specs.Term.{Term, Bound, Const, App, terms_of, list_of}
use Rattle.mz_logic.specs.TermStorage.{list_of-terms_of}
use Rattle.mz_core.specs.declared.soft_type.SoftType.{SoftType}
use Rattle.mz_context.specs.declared.constants.Constant.{Constant}
use Rattle.mz_ground.specs.declared.clause.Clause.{Clause}
use Rattle.mz_fits.specs.Fits.{AreEqualBy, LociFit}
use Rattle.mz_fits.specs.Matching.{Fixed, heads_agree, Placed, fixes, equal, unequal, no_place, Matched, locus, no_locus, constant, other_constant, symbol, other_symbol, AllMatched, all_matched, one_more, one_fails, too_few, too_many, values_of, Accepted, not_fixed, fitting, unfit}
use Rattle.mz_fits.specs.Laws.{OneMatchLaw, OneAcceptedLaw}
use Rattle.mz_fits.proofs.FitLemmas.{not_both}

-- what a term for a locus gives, by what the locus is fixed to
abbrev PlacedAs : List Clause → List (Option Constant) → Fixed → ℕ → Term → Option (Option Term) → Option Fixed → Type 0
PlacedAs cs ks fs place t None o = o ≡ None
PlacedAs cs ks fs place t (Some None) o = o ≡ Some (slice_set fs place (Some t))
PlacedAs cs ks fs place t (Some (Some u)) o = (AreEqualBy cs ks u t × (o ≡ Some fs)) ⊎ ((AreEqualBy cs ks u t → ⊥) × (o ≡ None))

placed_as : (cs : List Clause) (ks : List (Option Constant)) (fs : Fixed) (place : ℕ) (t : Term) (o : Option Fixed) → Placed cs ks fs place t o → PlacedAs cs ks fs place t (slice_get fs place) o
placed_as cs ks fs place t o (fixes h) = subst (λ x. PlacedAs cs ks fs place t x (Some (slice_set fs place (Some t)))) (sym h) refl
placed_as cs ks fs place t o (equal u h e) = subst (λ x. PlacedAs cs ks fs place t x (Some fs)) (sym h) (inl (e, refl))
placed_as cs ks fs place t o (unequal u h e) = subst (λ x. PlacedAs cs ks fs place t x None) (sym h) (inr (e, refl))
placed_as cs ks fs place t o (no_place h) = subst (λ x. PlacedAs cs ks fs place t x None) (sym h) refl

one_as : (cs : List Clause) (ks : List (Option Constant)) (fs : Fixed) (place : ℕ) (t : Term) (x : Option (Option Term)) (o p : Option Fixed) → PlacedAs cs ks fs place t x o → PlacedAs cs ks fs place t x p → o ≡ p
one_as cs ks fs place t None o p h k = h ∙ sym k
one_as cs ks fs place t (Some None) o p h k = h ∙ sym k
one_as cs ks fs place t (Some (Some u)) o p h k = either_once h k

one_place : (cs : List Clause) (ks : List (Option Constant)) (fs : Fixed) (place : ℕ) (t : Term) (o p : Option Fixed) → Placed cs ks fs place t o → Placed cs ks fs place t p → o ≡ p
one_place cs ks fs place t o p h k = one_as cs ks fs place t (slice_get fs place) o p (placed_as cs ks fs place t o h) (placed_as cs ks fs place t p k)

-- what a formal term beside a term gives
abbrev MatchedAs : List Clause → List (Option Constant) → ℕ → Fixed → Term → Term → Option Fixed → Type 0
MatchedAs cs ks scope fs (Bound i) t o = ((i < scope) × Placed cs ks fs (scope - suc i) t o) ⊎ ((scope ≤ i) × (o ≡ None))
MatchedAs cs ks scope fs (Const n) t o = ((Const n ≡ t) × (o ≡ Some fs)) ⊎ ((heads_agree (Const n) t ≡ false) × (o ≡ None))
MatchedAs cs ks scope fs (App s us) t o =
    ((ts : List Term) × (App s (terms_of ts) ≡ t) × AllMatched cs ks scope fs (list_of us) ts o) ⊎ ((heads_agree (App s us) t ≡ false) × (o ≡ None))

matched_as : (cs : List Clause) (ks : List (Option Constant)) (scope : ℕ) (fs : Fixed) (f t : Term) (o : Option Fixed) → Matched cs ks scope fs f t o → MatchedAs cs ks scope fs f t o
matched_as cs ks scope fs f t o (locus gs i u r lt h) = inl (lt, h)
matched_as cs ks scope fs f t o (no_locus gs i u le) = inr (le, refl)
matched_as cs ks scope fs f t o (constant gs n) = inl (refl, refl)
matched_as cs ks scope fs f t o (other_constant gs n u h) = inr (h, refl)
matched_as cs ks scope fs f t o (symbol gs s us ts r h) = inl (ts, refl, subst (λ (xs : List Term). AllMatched cs ks scope gs xs ts r) (sym (list_of-terms_of us)) h)
matched_as cs ks scope fs f t o (other_symbol gs s us u h) = inr (h, refl)

abbrev AllMatchedAs : List Clause → List (Option Constant) → ℕ → Fixed → List Term → List Term → Option Fixed → Type 0
AllMatchedAs cs ks scope fs [] [] o = o ≡ Some fs
AllMatchedAs cs ks scope fs [] (t ∷ ts) o = o ≡ None
AllMatchedAs cs ks scope fs (u ∷ us) [] o = o ≡ None
AllMatchedAs cs ks scope fs (u ∷ us) (t ∷ ts) o =
    ((between : Fixed) × Matched cs ks scope fs u t (Some between) × AllMatched cs ks scope between us ts o) ⊎ (Matched cs ks scope fs u t None × (o ≡ None))

all_as : (cs : List Clause) (ks : List (Option Constant)) (scope : ℕ) (fs : Fixed) (us ts : List Term) (o : Option Fixed) → AllMatched cs ks scope fs us ts o → AllMatchedAs cs ks scope fs us ts o
all_as cs ks scope fs us ts o (all_matched gs) = refl
all_as cs ks scope fs us ts o (one_more gs between f x fs' xs r h k) = inl (between, h, k)
all_as cs ks scope fs us ts o (one_fails gs f x fs' xs h) = inr (h, refl)
all_as cs ks scope fs us ts o (too_few gs x xs) = refl
all_as cs ks scope fs us ts o (too_many gs f fs') = refl

same_self : (s : Sym) → same_sym s s ≡ true
same_self s =
    let a : nat_eq s.article s.article ≡ true = eq-eqb s.article s.article refl in
    let k : nat_eq (kind_number s.kind) (kind_number s.kind) ≡ true = eq-eqb (kind_number s.kind) (kind_number s.kind) refl in
    let n : nat_eq s.number s.number ≡ true = eq-eqb s.number s.number refl in
    (λ i. a i && k i && n i)

args_of : Term → List Term
args_of (Bound i) = []
args_of (Const n) = []
args_of (App s us) = list_of us

app-inj : (s : Sym) (us ts : List Term) → App s (terms_of us) ≡ App s (terms_of ts) → us ≡ ts
unfolding args_of
app-inj s us ts e = sym (list_of-terms_of us) ∙ ap args_of e ∙ list_of-terms_of ts

mutual
  one_match : (cs : List Clause) (ks : List (Option Constant)) (scope : ℕ) (fs : Fixed) (f t : Term) (o : Option Fixed) → Matched cs ks scope fs f t o → (p : Option Fixed) → Matched cs ks scope fs f t p → o ≡ p
  one_match cs ks scope fs f t o (locus gs i u r lt h) p k =
      either (matched_as cs ks scope gs (Bound i) u p k) (λ b. one_place cs ks gs (scope - suc i) u r p h b.1) (λ b. absurd (omega (arith, lt, b.0)))
  one_match cs ks scope fs f t o (no_locus gs i u le) p k =
      either (matched_as cs ks scope gs (Bound i) u p k) (λ b. absurd (omega (arith, le, b.0))) (λ b. sym b.1)
  one_match cs ks scope fs f t o (constant gs n) p k =
      either (matched_as cs ks scope gs (Const n) (Const n) p k) (λ b. sym b.1) (λ b. absurd (not_both (nat_eq n n) b.0 (eq-eqb n n refl)))
  one_match cs ks scope fs f t o (other_constant gs n u h) p k =
      either (matched_as cs ks scope gs (Const n) u p k)
      (λ b. let h' : heads_agree (Const n) (Const n) ≡ false = subst (λ x. heads_agree (Const n) x ≡ false) (sym b.0) h in absurd (not_both (nat_eq n n) h' (eq-eqb n n refl)))
      (λ b. sym b.1)
  one_match cs ks scope fs f t o (symbol gs s us ts r h) p k =
      either (matched_as cs ks scope gs (App s (terms_of us)) (App s (terms_of ts)) p k)
      (λ b. let e : b.0 ≡ ts = app-inj s b.0 ts b.1 in
      let a : AllMatched cs ks scope gs us b.0 p = subst (λ (xs : List Term). AllMatched cs ks scope gs xs b.0 p) (list_of-terms_of us) b.2 in
      one_all cs ks scope gs us ts r h p (subst (λ (xs : List Term). AllMatched cs ks scope gs us xs p) e a))
      (λ b. absurd (not_both (same_sym s s) b.0 (same_self s)))
  one_match cs ks scope fs f t o (other_symbol gs s us u h) p k =
      either (matched_as cs ks scope gs (App s (terms_of us)) u p k)
      (λ b. let h' : heads_agree (App s (terms_of us)) (App s (terms_of b.0)) ≡ false = subst (λ x. heads_agree (App s (terms_of us)) x ≡ false) (sym b.1) h in absurd (not_both (same_sym s s) h' (same_self s)))
      (λ b. sym b.1)

  one_all : (cs : List Clause) (ks : List (Option Constant)) (scope : ℕ) (fs : Fixed) (us ts : List Term) (o : Option Fixed) → AllMatched cs ks scope fs us ts o → (p : Option Fixed) → AllMatched cs ks scope fs us ts p → o ≡ p
  one_all cs ks scope fs us ts o (all_matched gs) p k = sym (all_as cs ks scope gs [] [] p k)
  one_all cs ks scope fs us ts o (one_more gs between f x fs' xs r h rest) p k =
      either (all_as cs ks scope gs (f ∷ fs') (x ∷ xs) p k)
      (λ b. let e : between ≡ b.0 = some-inj between b.0 (one_match cs ks scope gs f x (Some between) h (Some b.0) b.1) in
      one_all cs ks scope between fs' xs r rest p (subst (λ (g : Fixed). AllMatched cs ks scope g fs' xs p) (sym e) b.2))
      (λ b. absurd (none_some between (sym (one_match cs ks scope gs f x (Some between) h None b.0))))
  one_all cs ks scope fs us ts o (one_fails gs f x fs' xs h) p k =
      either (all_as cs ks scope gs (f ∷ fs') (x ∷ xs) p k) (λ b. absurd (none_some b.0 (one_match cs ks scope gs f x None h (Some b.0) b.1))) (λ b. sym b.1)
  one_all cs ks scope fs us ts o (too_few gs x xs) p k = sym (all_as cs ks scope gs [] (x ∷ xs) p k)
  one_all cs ks scope fs us ts o (too_many gs f fs') p k = sym (all_as cs ks scope gs (f ∷ fs') [] p k)

pub one_match_law : OneMatchLaw
one_match_law cs ks scope fs us ts o p h k = one_all cs ks scope fs us ts o h p k

-- the values behind an acceptance
abbrev AcceptedAs : List Clause → List (Option Constant) → List SoftType → Option (List Term) → Option (List Term) → Type 0
AcceptedAs cs ks loci None o = o ≡ None
AcceptedAs cs ks loci (Some ts) o = (LociFit cs ks [] loci ts × (o ≡ Some ts)) ⊎ ((LociFit cs ks [] loci ts → ⊥) × (o ≡ None))

accepted_as : (cs : List Clause) (ks : List (Option Constant)) (loci : List SoftType) (fs : Fixed) (o : Option (List Term)) → Accepted cs ks loci fs o → AcceptedAs cs ks loci (values_of fs) o
accepted_as cs ks loci fs o (not_fixed h) = subst (λ x. AcceptedAs cs ks loci x None) (sym h) refl
accepted_as cs ks loci fs o (fitting ts h f) = subst (λ x. AcceptedAs cs ks loci x (Some ts)) (sym h) (inl (f, refl))
accepted_as cs ks loci fs o (unfit ts h f) = subst (λ x. AcceptedAs cs ks loci x None) (sym h) (inr (f, refl))

one_acceptance : (cs : List Clause) (ks : List (Option Constant)) (loci : List SoftType) (x : Option (List Term)) (o p : Option (List Term)) → AcceptedAs cs ks loci x o → AcceptedAs cs ks loci x p → o ≡ p
one_acceptance cs ks loci None o p h k = h ∙ sym k
one_acceptance cs ks loci (Some ts) o p h k = either_once h k

pub one_accepted_law : OneAcceptedLaw
one_accepted_law cs ks loci fs o p h k = one_acceptance cs ks loci (values_of fs) o p (accepted_as cs ks loci fs o h) (accepted_as cs ks loci fs p k)
