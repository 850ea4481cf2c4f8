-- Texts that are added piece by piece.
use Rattle.std.proofs.Common.{◌≡◌, ℕ, zero, suc, ◌-◌, ◌/◌, ◌%◌, List, [], ◌∷◌, ◌++◌, length, refl, ap, sym, ◌∙◌, append_assoc, append-nil, arith}
use Rattle.std.specs.Prelude.{decimal, nat_eq, if◌then◌else◌}
use Rattle.std.specs.List.{flat_map}
use Rattle.std.proofs.lemmas.Bool.{ne_eqb, eq-eqb}
use Rattle.mz_logic.specs.declared.sym.Sym.{Sym}
use Rattle.mz_logic.specs.Term.{Term, terms_of}
use Rattle.mz_logic.specs.Formula.{Formula, Eq, Not, And, All}
use Rattle.mz_logic.specs.Text.{bytes_of, kind_letter, sym_text, applied_text, term_text, argument_text, args_text, formula_text}
use Rattle.mz_logic.proofs.BoolLemmas.{if-true, if-false}

-- pieces, one after the other
told_two : (o a b p q : List ℕ) → a ≡ o ++ p → b ≡ a ++ q → b ≡ o ++ (p ++ q)
told_two o a b p q ea eb = eb ∙ ap (λ x. x ++ q) ea ∙ append_assoc o p q

told_three : (o a b d p q r : List ℕ) → a ≡ o ++ p → b ≡ a ++ q → d ≡ b ++ r → d ≡ o ++ (p ++ (q ++ r))
told_three o a b d p q r ea eb ed = told_two o b d (p ++ q) r (told_two o a b p q ea eb) ed ∙ ap (λ x. o ++ x) (append_assoc p q r)

told_five : (o a b d e f p q r s t : List ℕ) → a ≡ o ++ p → b ≡ a ++ q → d ≡ b ++ r → e ≡ d ++ s → f ≡ e ++ t → f ≡ o ++ (p ++ (q ++ (r ++ (s ++ t))))
told_five o a b d e f p q r s t ea eb ed ee ef =
    told_three o d e f (p ++ (q ++ r)) s t (told_three o a b d p q r ea eb ed) ee ef
    ∙ ap (λ x. o ++ x) (append_assoc p (q ++ r) (s ++ t) ∙ ap (λ x. p ++ x) (append_assoc q r (s ++ t)))

-- a letter and a number
pub told_number : (o a b ds : List ℕ) (letter n : ℕ) → a ≡ o ++ letter ∷ [] → ds ≡ decimal n → b ≡ a ++ ds → b ≡ o ++ letter ∷ decimal n
told_number o a b ds letter n ea e eb = told_two o a b (letter ∷ []) ds ea eb ∙ ap (λ x. o ++ letter ∷ x) e

-- a symbol
pub told_sym : (o a b d : List ℕ) (s : Sym) (letter : ℕ) → a ≡ o ++ bytes_of 8 s.article → b ≡ a ++ 46 ∷ [] → letter ≡ kind_letter s.kind → d ≡ b ++ letter ∷ decimal s.number → d ≡ o ++ sym_text s
told_sym o a b d s letter ea eb e ed =
    told_three o a b d (bytes_of 8 s.article) (46 ∷ []) (letter ∷ decimal s.number) ea eb ed ∙ ap (λ x. o ++ (bytes_of 8 s.article ++ 46 ∷ x ∷ decimal s.number)) e

-- the bytes of a number
pub bytes_of-step : (count n : ℕ) → (count ≡ 0 → ⊥) → bytes_of count n ≡ bytes_of (count - 1) (n / 256) ++ (if nat_eq (n % 256) 0 then [] else (n % 256) ∷ [])
bytes_of-step zero n h = absurd (h refl)
bytes_of-step (suc count) n h =
    let down : count ≡ suc count - 1 = omega arith in
    ap (λ k. bytes_of k (n / 256) ++ (if nat_eq (n % 256) 0 then [] else (n % 256) ∷ [])) down

pub told_no_bytes : (o : List ℕ) (count n : ℕ) → count ≡ 0 → o ≡ o ++ bytes_of count n
told_no_bytes o count n e = sym (append-nil o) ∙ ap (λ k. o ++ bytes_of k n) (sym e)

pub told_zero_byte : (o a : List ℕ) (count n byte : ℕ) → (count ≡ 0 → ⊥) → a ≡ o ++ bytes_of (count - 1) (n / 256) → byte ≡ n % 256 → byte ≡ 0 → a ≡ o ++ bytes_of count n
told_zero_byte o a count n byte h ea eb z =
    let none : (if nat_eq (n % 256) 0 then [] else (n % 256) ∷ []) ≡ [] = if-true (nat_eq (n % 256) 0) [] ((n % 256) ∷ []) (eq-eqb (n % 256) 0 (sym eb ∙ z)) in
    ea ∙ ap (λ x. o ++ x) (sym (bytes_of-step count n h ∙ ap (λ x. bytes_of (count - 1) (n / 256) ++ x) none ∙ append-nil (bytes_of (count - 1) (n / 256))))

pub told_byte : (o a b : List ℕ) (count n byte : ℕ) → (count ≡ 0 → ⊥) → a ≡ o ++ bytes_of (count - 1) (n / 256) → byte ≡ n % 256 → (byte ≡ 0 → ⊥) → b ≡ a ++ byte ∷ [] → b ≡ o ++ bytes_of count n
told_byte o a b count n byte h ea eb z e =
    let one : (if nat_eq (n % 256) 0 then [] else (n % 256) ∷ []) ≡ (n % 256) ∷ [] = if-false (nat_eq (n % 256) 0) [] ((n % 256) ∷ []) (ne_eqb (n % 256) 0 (λ q. z (eb ∙ q))) in
    told_two o a b (bytes_of (count - 1) (n / 256)) (byte ∷ []) ea e
    ∙ ap (λ x. o ++ (bytes_of (count - 1) (n / 256) ++ x ∷ [])) eb
    ∙ ap (λ x. o ++ x) (sym (bytes_of-step count n h ∙ ap (λ x. bytes_of (count - 1) (n / 256) ++ x) one))

-- arguments as a list
args_text-terms_of : (ts : List Term) → args_text (terms_of ts) ≡ flat_map argument_text ts
args_text-terms_of [] = refl
args_text-terms_of (t ∷ ts) = ap (λ x. argument_text t ++ x) (args_text-terms_of ts)

pub told_argument : (o a b : List ℕ) (t : Term) → a ≡ o ++ 32 ∷ [] → b ≡ a ++ term_text t → b ≡ o ++ argument_text t
told_argument o a b t ea eb = told_two o a b (32 ∷ []) (term_text t) ea eb

-- a head without arguments, and one with some
pub told_alone : (o a head : List ℕ) (ts : List Term) → length ts ≡ 0 → a ≡ o ++ head → a ≡ o ++ applied_text head (args_text (terms_of ts))
told_alone o a head [] e ea = ea
told_alone o a head (t ∷ ts) e ea = absurd (omega arith)

pub told_applied : (o a b d e head : List ℕ) (ts : List Term) → (length ts ≡ 0 → ⊥) → a ≡ o ++ 40 ∷ [] → b ≡ a ++ head → d ≡ b ++ flat_map argument_text ts → e ≡ d ++ 41 ∷ [] → e ≡ o ++ applied_text head (args_text (terms_of ts))
told_applied o a b d e head [] some ea eb ed ee = absurd (some refl)
told_applied o a b d e head (t ∷ ts) some ea eb ed ee =
    let args : List ℕ = argument_text t ++ flat_map argument_text ts in
    told_two o d e (40 ∷ (head ++ args)) (41 ∷ []) (told_three o a b d (40 ∷ []) head args ea eb ed) ee
    ∙ ap (λ x. o ++ applied_text head (argument_text t ++ x)) (sym (args_text-terms_of ts))

-- formulas
pub told_equation : (o a b d e f : List ℕ) (t u : Term) → a ≡ o ++ 40 ∷ 61 ∷ 32 ∷ [] → b ≡ a ++ term_text t → d ≡ b ++ 32 ∷ [] → e ≡ d ++ term_text u → f ≡ e ++ 41 ∷ [] → f ≡ o ++ formula_text (Eq t u)
told_equation o a b d e f t u ea eb ed ee ef =
    told_five o a b d e f (40 ∷ 61 ∷ 32 ∷ []) (term_text t) (32 ∷ []) (term_text u) (41 ∷ []) ea eb ed ee ef
    ∙ ap (λ x. o ++ 40 ∷ 61 ∷ 32 ∷ x) (sym (append_assoc (term_text t) (32 ∷ term_text u) (41 ∷ [])))

pub told_not : (o a b d : List ℕ) (f : Formula) → a ≡ o ++ 40 ∷ 110 ∷ 111 ∷ 116 ∷ 32 ∷ [] → b ≡ a ++ formula_text f → d ≡ b ++ 41 ∷ [] → d ≡ o ++ formula_text (Not f)
told_not o a b d f ea eb ed = told_three o a b d (40 ∷ 110 ∷ 111 ∷ 116 ∷ 32 ∷ []) (formula_text f) (41 ∷ []) ea eb ed

pub told_all : (o a b d : List ℕ) (f : Formula) → a ≡ o ++ 40 ∷ 97 ∷ 108 ∷ 108 ∷ 32 ∷ [] → b ≡ a ++ formula_text f → d ≡ b ++ 41 ∷ [] → d ≡ o ++ formula_text (All f)
told_all o a b d f ea eb ed = told_three o a b d (40 ∷ 97 ∷ 108 ∷ 108 ∷ 32 ∷ []) (formula_text f) (41 ∷ []) ea eb ed

pub told_and : (o a b d e h : List ℕ) (f g : Formula) → a ≡ o ++ 40 ∷ 97 ∷ 110 ∷ 100 ∷ 32 ∷ [] → b ≡ a ++ formula_text f → d ≡ b ++ 32 ∷ [] → e ≡ d ++ formula_text g → h ≡ e ++ 41 ∷ [] → h ≡ o ++ formula_text (And f g)
told_and o a b d e h f g ea eb ed ee eh =
    told_five o a b d e h (40 ∷ 97 ∷ 110 ∷ 100 ∷ 32 ∷ []) (formula_text f) (32 ∷ []) (formula_text g) (41 ∷ []) ea eb ed ee eh
    ∙ ap (λ x. o ++ 40 ∷ 97 ∷ 110 ∷ 100 ∷ 32 ∷ x) (sym (append_assoc (formula_text f) (32 ∷ formula_text g) (41 ∷ [])))

pub ruleset number_rules = (told_number)

pub ruleset sym_rules = (told_sym)

pub ruleset byte_rules = (told_no_bytes, told_zero_byte, told_byte)

pub ruleset argument_rules = (told_argument)

pub ruleset applied_rules = (told_alone, told_applied)

pub ruleset equation_rules = (told_equation)

pub ruleset formula_rules = (told_not, told_all, told_and)
