-- Types that compare as equal are equal.
use Rattle.std.proofs.Common.{◌≡◌, List, [], ◌∷◌, refl, sym, ap, ◌∙◌, Bool, true, false}
use Rattle.std.specs.Prelude.{◌&&◌, nat_eq}
use Rattle.std.specs.declared.cmp.Ordering.{Ordering}
use Rattle.std.specs.declared.cmp.Ordering.TheVariants.{Less, Equal, Greater}
use Rattle.std.proofs.lemmas.Bool.{and_parts, eqb-true}
use Rattle.mz_logic.specs.Sym.{same_sym, kind_number}
use Rattle.mz_logic.specs.Term.{Term, list_of, terms_of}
use Rattle.mz_logic.specs.Order.{terms_cmp}
use Rattle.mz_logic.specs.declared.sym.Sym.{Sym}
use Rattle.mz_logic.proofs.OrderLemmas.{args_cmp-Equal}
use Rattle.mz_logic.proofs.SymLemmas.{kind_number-inj}
use Rattle.mz_core.specs.declared.adjective.Adjective.{Adjective}
use Rattle.mz_core.specs.declared.soft_type.SoftType.{SoftType}
use Rattle.mz_clauses.specs.SameTypes.{is_equal, same_sign, same_adjective, same_adjectives, same_type}

equal_order : (o : Ordering) → is_equal o ≡ true → o ≡ Equal
equal_order Less h = cc
equal_order Equal h = refl
equal_order Greater h = cc

list_back : (ts : List Term) → list_of (terms_of ts) ≡ ts
list_back [] = refl
list_back (t ∷ ts) = ap (λ us. t ∷ us) (list_back ts)

terms_equal : (ts us : List Term) → terms_cmp ts us ≡ Equal → ts ≡ us
unfolding terms_cmp
terms_equal ts us e = sym (list_back ts) ∙ (ap list_of (args_cmp-Equal (terms_of ts) (terms_of us) e) ∙ list_back us)

same_terms : (ts us : List Term) → is_equal (terms_cmp ts us) ≡ true → ts ≡ us
same_terms ts us h = terms_equal ts us (equal_order (terms_cmp ts us) h)

same_sign-true : (p q : Bool) → same_sign p q ≡ true → p ≡ q
same_sign-true true true h = refl
same_sign-true true false h = cc
same_sign-true false true h = cc
same_sign-true false false h = refl

same_sym-true : (r s : Sym) → same_sym r s ≡ true → r ≡ s
same_sym-true r s h =
    let outer : ((nat_eq r.article s.article && nat_eq (kind_number r.kind) (kind_number s.kind)) ≡ true) × (nat_eq r.number s.number ≡ true) = and_parts (nat_eq r.article s.article && nat_eq (kind_number r.kind) (kind_number s.kind)) (nat_eq r.number s.number) h in
    let inner : (nat_eq r.article s.article ≡ true) × (nat_eq (kind_number r.kind) (kind_number s.kind) ≡ true) = and_parts (nat_eq r.article s.article) (nat_eq (kind_number r.kind) (kind_number s.kind)) outer.0 in
    let article : r.article ≡ s.article = eqb-true r.article s.article inner.0 in
    let kind : r.kind ≡ s.kind = kind_number-inj r.kind s.kind (eqb-true (kind_number r.kind) (kind_number s.kind) inner.1) in
    let number : r.number ≡ s.number = eqb-true r.number s.number outer.1 in
    λ i. record { article = article i; kind = kind i; number = number i }

same_adjective-true : (a b : Adjective) → same_adjective a b ≡ true → a ≡ b
same_adjective-true a b h =
    let outer : ((same_sign a.positive b.positive && same_sym a.sym b.sym) ≡ true) × (is_equal (terms_cmp a.args b.args) ≡ true) = and_parts (same_sign a.positive b.positive && same_sym a.sym b.sym) (is_equal (terms_cmp a.args b.args)) h in
    let inner : (same_sign a.positive b.positive ≡ true) × (same_sym a.sym b.sym ≡ true) = and_parts (same_sign a.positive b.positive) (same_sym a.sym b.sym) outer.0 in
    let positive : a.positive ≡ b.positive = same_sign-true a.positive b.positive inner.0 in
    let symbol : a.sym ≡ b.sym = same_sym-true a.sym b.sym inner.1 in
    let args : a.args ≡ b.args = same_terms a.args b.args outer.1 in
    λ i. record { positive = positive i; sym = symbol i; args = args i }

same_adjectives-true : (xs ys : List Adjective) → same_adjectives xs ys ≡ true → xs ≡ ys
same_adjectives-true [] [] h = refl
same_adjectives-true [] (y ∷ ys) h = cc
same_adjectives-true (x ∷ xs) [] h = cc
same_adjectives-true (x ∷ xs) (y ∷ ys) h =
    let both : (same_adjective x y ≡ true) × (same_adjectives xs ys ≡ true) = and_parts (same_adjective x y) (same_adjectives xs ys) h in
    λ i. same_adjective-true x y both.0 i ∷ same_adjectives-true xs ys both.1 i

pub same_type-true : (t u : SoftType) → same_type t u ≡ true → t ≡ u
same_type-true t u h =
    let outer : ((same_sym t.radix.sym u.radix.sym && is_equal (terms_cmp t.radix.args u.radix.args)) ≡ true) × (same_adjectives t.adjectives u.adjectives ≡ true) = and_parts (same_sym t.radix.sym u.radix.sym && is_equal (terms_cmp t.radix.args u.radix.args)) (same_adjectives t.adjectives u.adjectives) h in
    let inner : (same_sym t.radix.sym u.radix.sym ≡ true) × (is_equal (terms_cmp t.radix.args u.radix.args) ≡ true) = and_parts (same_sym t.radix.sym u.radix.sym) (is_equal (terms_cmp t.radix.args u.radix.args)) outer.0 in
    let symbol : t.radix.sym ≡ u.radix.sym = same_sym-true t.radix.sym u.radix.sym inner.0 in
    let args : t.radix.args ≡ u.radix.args = same_terms t.radix.args u.radix.args inner.1 in
    let adjectives : t.adjectives ≡ u.adjectives = same_adjectives-true t.adjectives u.adjectives outer.1 in
    λ i. record { adjectives = adjectives i; radix = record { sym = symbol i; args = args i } }
