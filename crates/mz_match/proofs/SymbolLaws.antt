-- When two symbols are one.
use Rattle.std.proofs.Common.{◌≡◌, ◌∙◌, refl, ap, sym, true, eqb-true, eq-eqb}
use Rattle.std.specs.Prelude.{◌&&◌, nat_eq}
use Rattle.mz_logic.specs.Sym.{same_sym, kind_number}
use Rattle.mz_logic.specs.declared.sym.Sym.{Sym}
use Rattle.mz_logic.proofs.SymLemmas.{kind_number-inj}
use Rattle.mz_match.proofs.CongruentLemmas.{and_cases, and_true}

pub same_sym-true : (r s : Sym) → same_sym r s ≡ true → r ≡ s
same_sym-true r s h =
    let x = and_cases (nat_eq r.article s.article && nat_eq (kind_number r.kind) (kind_number s.kind)) (nat_eq r.number s.number) h in
    let y = and_cases (nat_eq r.article s.article) (nat_eq (kind_number r.kind) (kind_number s.kind)) x.0 in
    λ i. record { article = eqb-true r.article s.article y.0 i; kind = kind_number-inj r.kind s.kind (eqb-true (kind_number r.kind) (kind_number s.kind) y.1) i; number = eqb-true r.number s.number x.1 i }

same_self : (s : Sym) → same_sym s s ≡ true
same_self s =
    and_true (nat_eq s.article s.article && nat_eq (kind_number s.kind) (kind_number s.kind)) (nat_eq s.number s.number)
    (and_true (nat_eq s.article s.article) (nat_eq (kind_number s.kind) (kind_number s.kind)) (eq-eqb s.article s.article refl) (eq-eqb (kind_number s.kind) (kind_number s.kind) refl)) (eq-eqb s.number s.number refl)

pub sym-same : (r s : Sym) → r ≡ s → same_sym r s ≡ true
sym-same r s e = ap (same_sym r) (sym e) ∙ same_self r
