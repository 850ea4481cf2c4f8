-- A signature tells the head and the classes of the arguments.
use Rattle.std.proofs.Common.{◌≡◌, ℕ, List, [], ◌∷◌, ◌++◌, refl, ap, sym, ◌∙◌, subst, Bool, true, false}
use Rattle.std.specs.Prelude.{nat_eq, Some, if◌then◌else◌}
use Rattle.std.specs.Map.{lookup, KeepsOthers}
use Rattle.std.specs.HashMap.{HashMap, UpdatesBy}
use Rattle.std.proofs.lemmas.Bool.{eqb-true, eq-eqb}
use Rattle.mz_logic.specs.declared.sym.Sym.{Sym}
use Rattle.mz_logic.specs.Sym.{kind_number}
use Rattle.mz_ground.specs.declared.ground_equation.GroundEquation.{GroundEquation}
use Rattle.mz_logic.proofs.SymLemmas.{kind_number-inj}
use Rattle.mz_congruence.specs.declared.graph.Head.{Head}
use Rattle.mz_congruence.specs.declared.graph.Head.TheVariants.{Constant, Function, Positive, Negative, Disequal, Yes}
use Rattle.mz_congruence.specs.Signature.{head_code, sym_code, number_code, equation_code, is_list}
use Rattle.mz_congruence.proofs.AndLemmas.{both_left, both_right}

pub sym_equal : (s t : Sym) → s.article ≡ t.article → kind_number s.kind ≡ kind_number t.kind → s.number ≡ t.number → s ≡ t
sym_equal s t a k n = λ i. record { article = a i; kind = kind_number-inj s.kind t.kind k i; number = n i }

sym_parts : (m : ℕ) (s t : Sym) (rs ss : List ℕ) → sym_code m s ++ rs ≡ sym_code m t ++ ss → (s ≡ t) × (rs ≡ ss)
sym_parts m s t rs ss e =
    let a : s.article ≡ t.article = cc in
    let k : kind_number s.kind ≡ kind_number t.kind = cc in
    let n : s.number ≡ t.number = cc in
    (sym_equal s t a k n, cc)

number_parts : (m : ℕ) (k l : ℕ) (rs ss : List ℕ) → number_code m k ++ rs ≡ number_code m l ++ ss → (k ≡ l) × (rs ≡ ss)
number_parts m k l rs ss e = (cc, cc)

pub equation_equal : (e f : GroundEquation) → e.left ≡ f.left → e.right ≡ f.right → e ≡ f
equation_equal e f l r = λ i. record { left = l i; right = r i }

equation_parts : (m : ℕ) (e f : GroundEquation) (rs ss : List ℕ) → equation_code m e ++ rs ≡ equation_code m f ++ ss → (e ≡ f) × (rs ≡ ss)
equation_parts m e f rs ss q =
    let l : e.left ≡ f.left = cc in
    let r : e.right ≡ f.right = cc in
    (equation_equal e f l r, cc)

pub signature_parts : (h k : Head) (rs ss : List ℕ) → head_code h ++ rs ≡ head_code k ++ ss → (h ≡ k) × (rs ≡ ss)
signature_parts (Constant m) (Constant n) rs ss e = let p = number_parts 0 m n rs ss e in (ap Constant p.0, p.1)
signature_parts (Function s) (Function t) rs ss e = let p = sym_parts 1 s t rs ss e in (ap Function p.0, p.1)
signature_parts (Positive s) (Positive t) rs ss e = let p = sym_parts 2 s t rs ss e in (ap Positive p.0, p.1)
signature_parts (Negative s) (Negative t) rs ss e = let p = sym_parts 3 s t rs ss e in (ap Negative p.0, p.1)
signature_parts (Disequal m) (Disequal n) rs ss e = let p = equation_parts 4 m n rs ss e in (ap Disequal p.0, p.1)
signature_parts Yes Yes rs ss e = (refl, cc)
signature_parts (Constant m) (Function t) rs ss e = cc
signature_parts (Constant m) (Positive t) rs ss e = cc
signature_parts (Constant m) (Negative t) rs ss e = cc
signature_parts (Constant m) (Disequal n) rs ss e = cc
signature_parts (Constant m) Yes rs ss e = cc
signature_parts (Function s) (Constant n) rs ss e = cc
signature_parts (Function s) (Positive t) rs ss e = cc
signature_parts (Function s) (Negative t) rs ss e = cc
signature_parts (Function s) (Disequal n) rs ss e = cc
signature_parts (Function s) Yes rs ss e = cc
signature_parts (Positive s) (Constant n) rs ss e = cc
signature_parts (Positive s) (Function t) rs ss e = cc
signature_parts (Positive s) (Negative t) rs ss e = cc
signature_parts (Positive s) (Disequal n) rs ss e = cc
signature_parts (Positive s) Yes rs ss e = cc
signature_parts (Negative s) (Constant n) rs ss e = cc
signature_parts (Negative s) (Function t) rs ss e = cc
signature_parts (Negative s) (Positive t) rs ss e = cc
signature_parts (Negative s) (Disequal n) rs ss e = cc
signature_parts (Negative s) Yes rs ss e = cc
signature_parts (Disequal m) (Constant n) rs ss e = cc
signature_parts (Disequal m) (Function t) rs ss e = cc
signature_parts (Disequal m) (Positive t) rs ss e = cc
signature_parts (Disequal m) (Negative t) rs ss e = cc
signature_parts (Disequal m) Yes rs ss e = cc
signature_parts Yes (Constant n) rs ss e = cc
signature_parts Yes (Function t) rs ss e = cc
signature_parts Yes (Positive t) rs ss e = cc
signature_parts Yes (Negative t) rs ss e = cc
signature_parts Yes (Disequal n) rs ss e = cc

pub is_list_true : (s t : List ℕ) → is_list s t ≡ true → s ≡ t
is_list_true [] [] h = refl
is_list_true [] (y ∷ ys) h = cc
is_list_true (x ∷ xs) [] h = cc
is_list_true (x ∷ xs) (y ∷ ys) h = λ i. eqb-true x y (both_left (nat_eq x y) (is_list xs ys) h) i ∷ is_list_true xs ys (both_right (nat_eq x y) (is_list xs ys) h) i

pub is_list_same : (s : List ℕ) → is_list s s ≡ true
is_list_same [] = refl
is_list_same (x ∷ xs) = let e : nat_eq x x ≡ true = eq-eqb x x refl in rw e (is_list_same xs)

-- what an insertion into a table leaves, at each list
pub lookup-inserted : {K X S : Type 0} (items : K → List ℕ) (m n : HashMap K X S) (key : K) (v : X) → UpdatesBy (λ a b. is_list (items a) (items b)) (λ k. is_list (items key) (items k)) m n (Some v) → (s : List ℕ) → lookup (λ k. is_list s (items k)) n.entries ≡ (if is_list s (items key) then Some v else lookup (λ k. is_list s (items k)) m.entries)
unfolding KeepsOthers
lookup-inserted {K} {X} {S} items m n key v u s =
    let here : (b : Bool) → is_list s (items key) ≡ b → lookup (λ k. is_list s (items k)) n.entries ≡ (if b then Some v else lookup (λ k. is_list s (items k)) m.entries)
    = elim [
      | true ↦ λ e. subst (λ (z : List ℕ). lookup (λ k. is_list z (items k)) n.entries ≡ Some v) (sym (is_list_true s (items key) e)) u.1
      | false ↦ λ e. u.3 (λ k. is_list s (items k)) (λ x y h. ap (λ (z : List ℕ). is_list z (items y)) (is_list_true s (items x) h)) (λ k h. ap (is_list s) (sym (is_list_true (items key) (items k) h)) ∙ e)
    ] in
    here (is_list s (items key)) refl
