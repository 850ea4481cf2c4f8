-- When two terms are one, and the class of a term in a list.
use Rattle.std.proofs.Common.{◌≡◌, refl, ap, true, eqb-true, eq-eqb}
use Rattle.mz_logic.specs.Sym.{same_sym}
use Rattle.mz_logic.specs.Term.{Term, Terms, Bound, Const, App, none, more}
use Rattle.mz_refute.specs.TermClass.{same_term, same_terms}
use Rattle.mz_match.proofs.CongruentLemmas.{and_cases, and_true}
use Rattle.mz_match.proofs.SymbolLaws.{same_sym-true, sym-same}

mutual
  pub same_term-true : (t u : Term) → same_term t u ≡ true → t ≡ u
  same_term-true (Bound m) (Bound n) h = ap (λ k. Bound k) (eqb-true m n h)
  same_term-true (Bound m) (Const n) h = cc
  same_term-true (Bound m) (App s us) h = cc
  same_term-true (Const m) (Bound n) h = cc
  same_term-true (Const m) (Const n) h = ap (λ k. Const k) (eqb-true m n h)
  same_term-true (Const m) (App s us) h = cc
  same_term-true (App r ts) (Bound n) h = cc
  same_term-true (App r ts) (Const n) h = cc
  same_term-true (App r ts) (App s us) h =
      let x = and_cases (same_sym r s) (same_terms ts us) h in
      λ i. App (same_sym-true r s x.0 i) (same_terms-true ts us x.1 i)

  same_terms-true : (ts us : Terms) → same_terms ts us ≡ true → ts ≡ us
  same_terms-true none none h = refl
  same_terms-true none (more u us) h = cc
  same_terms-true (more t ts) none h = cc
  same_terms-true (more t ts) (more u us) h =
      let x = and_cases (same_term t u) (same_terms ts us) h in
      λ i. more (same_term-true t u x.0 i) (same_terms-true ts us x.1 i)

mutual
  pub same_term-self : (t : Term) → same_term t t ≡ true
  same_term-self (Bound n) = eq-eqb n n refl
  same_term-self (Const n) = eq-eqb n n refl
  same_term-self (App s ts) = and_true (same_sym s s) (same_terms ts ts) (sym-same s s refl) (same_terms-self ts)

  same_terms-self : (ts : Terms) → same_terms ts ts ≡ true
  same_terms-self none = refl
  same_terms-self (more t ts) = and_true (same_term t t) (same_terms ts ts) (same_term-self t) (same_terms-self ts)
