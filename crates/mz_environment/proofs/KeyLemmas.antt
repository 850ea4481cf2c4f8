-- The keys of entries.
use Rattle.std.proofs.Common.{◌≡◌, refl, ap, sym, ◌∙◌}
use Rattle.std.specs.Prelude.{ℕ, ◌&&◌, nat_eq, List, Option, Some, None}
use Rattle.std.specs.Ordering.{nat_cmp, ordering_then, is_eq, eq_by_cmp}
use Rattle.std.specs.Str.{bytes_eq}
use Rattle.std.specs.Option.{option_cmp}
use Rattle.std.specs.Cmp.{unsigned_tied}
use Rattle.std.specs.Cmp.Lexicographic.{slice_cmp}
use Rattle.std.specs.declared.cmp.Ordering.{Ordering}
use Rattle.std.specs.declared.cmp.Ordering.TheVariants.{Less, Equal, Greater}
use Rattle.std.proofs.lemmas.Map.Text.{is_eq-slice_cmp}
use Rattle.mz_logic.specs.declared.sym.Sym.{Sym}
use Rattle.mz_environment.specs.Keys.{sym_key, has_key, head_has}
use Rattle.mz_environment.specs.KeyLaws.{sym_cmp}

then_tie : (a b : Ordering) → is_eq (ordering_then a b) ≡ (is_eq a && is_eq b)
then_tie Less b = refl
then_tie Equal b = refl
then_tie Greater b = refl

and-sym_tie : (k q : (ℕ × ℕ) × ℕ) → (nat_eq k.0.0 q.0.0 && nat_eq k.0.1 q.0.1 && nat_eq k.1 q.1) ≡ eq_by_cmp sym_cmp k q
and-sym_tie k q =
    let first : is_eq (ordering_then (nat_cmp k.0.0 q.0.0) (nat_cmp k.0.1 q.0.1)) ≡ (nat_eq k.0.0 q.0.0 && nat_eq k.0.1 q.0.1) =
    then_tie (nat_cmp k.0.0 q.0.0) (nat_cmp k.0.1 q.0.1) ∙ (λ i. unsigned_tied k.0.0 q.0.0 i && unsigned_tied k.0.1 q.0.1 i) in
    sym (then_tie (ordering_then (nat_cmp k.0.0 q.0.0) (nat_cmp k.0.1 q.0.1)) (nat_cmp k.1 q.1) ∙ (λ i. first i && unsigned_tied k.1 q.1 i))

pub told_key : (s : Sym) (k : (ℕ × ℕ) × ℕ) → k ≡ sym_key s → (q : (ℕ × ℕ) × ℕ) → has_key q s ≡ eq_by_cmp sym_cmp k q
told_key s k e q = and-sym_tie (sym_key s) q ∙ ap (λ j. eq_by_cmp sym_cmp j q) (sym e)

pub ruleset key_rules = (told_key)

no_head : (q : Option ((ℕ × ℕ) × ℕ)) → head_has q None ≡ eq_by_cmp (option_cmp sym_cmp) None q
no_head None = refl
no_head (Some k) = refl

pub told_no_head : (o : Option Sym) → o ≡ None → (q : Option ((ℕ × ℕ) × ℕ)) → head_has q o ≡ eq_by_cmp (option_cmp sym_cmp) None q
told_no_head o e q = ap (head_has q) e ∙ no_head q

a_head : (s : Sym) (k : (ℕ × ℕ) × ℕ) → k ≡ sym_key s → (q : Option ((ℕ × ℕ) × ℕ)) → head_has q (Some s) ≡ eq_by_cmp (option_cmp sym_cmp) (Some k) q
a_head s k is None = refl
a_head s k is (Some q) = told_key s k is q

pub told_head : (o : Option Sym) (s : Sym) (k : (ℕ × ℕ) × ℕ) → o ≡ Some s → k ≡ sym_key s → (q : Option ((ℕ × ℕ) × ℕ)) → head_has q o ≡ eq_by_cmp (option_cmp sym_cmp) (Some k) q
told_head o s k e is q = ap (head_has q) e ∙ a_head s k is q

pub ruleset head_rules = (told_no_head, told_head)

pub told_bytes : (bytes k : List ℕ) → k ≡ bytes → (q : List ℕ) → bytes_eq bytes q ≡ is_eq (slice_cmp nat_cmp k q)
told_bytes bytes k e q = ap (λ j. bytes_eq j q) (sym e) ∙ sym (is_eq-slice_cmp k q)

pub ruleset bytes_rules = (told_bytes)

pub nat_eq-told_number : (n k : ℕ) → k ≡ n → (q : ℕ) → nat_eq n q ≡ eq_by_cmp nat_cmp k q
nat_eq-told_number n k e q = sym (unsigned_tied n q) ∙ ap (λ j. eq_by_cmp nat_cmp j q) (sym e)

pub ruleset number_rules = (nat_eq-told_number)
