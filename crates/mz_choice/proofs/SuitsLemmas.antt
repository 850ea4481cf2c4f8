-- What the code that judges what an application is wanted for tells.
use Rattle.std.proofs.Common.{◌≡◌, ℕ, List, [], ◌∷◌, ◌++◌, refl, sym, ap, ◌∙◌, subst, Bool, true, false, length}
use Rattle.std.specs.Prelude.{◌↔◌, IsTrue}
use Rattle.std.specs.List.{list_any}
use Rattle.std.proofs.lemmas.Bool.{false≢true}
use Rattle.mz_logic.specs.declared.sym.Sym.{Sym}
use Rattle.mz_logic.specs.declared.kind.Kind.TheVariants as kind
use Rattle.mz_logic.specs.Term.{Term, Const}
use Rattle.mz_logic.specs.Constants.{occurs}
use Rattle.mz_logic.specs.declared.literal.Literal.{Literal}
use Rattle.mz_logic.specs.declared.literal.Literal.TheVariants.{Atom, Eq}
use Rattle.mz_core.specs.declared.soft_type.SoftType.{SoftType}
use Rattle.mz_core.specs.declared.notation.Meaning.{Meaning}
use Rattle.mz_core.specs.declared.notation.Meaning.TheVariants.{OfTerm, OfLiteral, OfType}
use Rattle.mz_fits.proofs.FitLemmas.{not_both, empty}
use Rattle.mz_choice.specs.declared.choice.Wanted.{Wanted}
use Rattle.mz_choice.specs.declared.choice.Wanted.TheVariants.{Anything, AdjectiveOf, AdjectiveOfFresh}
use Rattle.mz_choice.specs.Choice as co
use Rattle.mz_choice.specs.Choice.{EndsWith, EndsWithFresh, Suits}

never : {A : Type 0} → (A → ⊥) → IsTrue false ↔ A
never f = (λ x. absurd (false≢true x), λ a. absurd (f a))

none_ends : (zs : List Term) (y : Term) → [] ≡ zs ++ y ∷ [] → ⊥
none_ends [] y e = cc
none_ends (z ∷ zs) y e = cc

-- the last one of a list is determined, and so are the others
last_once : (xs ys : List Term) (x y : Term) → xs ++ x ∷ [] ≡ ys ++ y ∷ [] → x ≡ y
last_once [] [] x y e = cc
last_once [] (z ∷ zs) x y e = absurd (none_ends zs y cc)
last_once (z ∷ zs) [] x y e = absurd (none_ends zs x cc)
last_once (a ∷ us) (b ∷ bs) x y e = last_once us bs x y cc

others_once : (xs ys : List Term) (x y : Term) → xs ++ x ∷ [] ≡ ys ++ y ∷ [] → xs ≡ ys
others_once [] [] x y e = refl
others_once [] (z ∷ zs) x y e = absurd (none_ends zs y cc)
others_once (z ∷ zs) [] x y e = absurd (none_ends zs x cc)
others_once (a ∷ us) (b ∷ bs) x y e =
    let h : a ≡ b = cc in
    let k : us ≡ bs = others_once us bs x y cc in
    λ i. h i ∷ k i

pub told_none_ends : (ts : List Term) (t : Term) → length ts ≡ 0 → IsTrue false ↔ EndsWith ts t
told_none_ends ts t em = never (λ w. none_ends w.before t (sym (empty ts em) ∙ w.is))

pub told_ends : (ts before : List Term) (last t : Term) (b : Bool) → ts ≡ before ++ last ∷ [] → IsTrue b ↔ (last ≡ t) → IsTrue b ↔ EndsWith ts t
told_ends ts before last t b e i =
    (λ x. record { before = before; is = e ∙ ap (λ u. before ++ u ∷ []) (i.0 x) }, λ w. i.1 (last_once before w.before last t (sym e ∙ w.is)))

pub ruleset ends_rules = (told_none_ends, told_ends)

pub told_none_fresh : (ts : List Term) (n : ℕ) → length ts ≡ 0 → IsTrue false ↔ EndsWithFresh ts n
told_none_fresh ts n em = never (λ w. none_ends w.before (Const n) (sym (empty ts em) ∙ w.is))

pub told_other_end : (ts before : List Term) (last : Term) (n : ℕ) (b : Bool) → ts ≡ before ++ last ∷ [] → IsTrue b ↔ (last ≡ Const n) → b ≡ false → IsTrue false ↔ EndsWithFresh ts n
told_other_end ts before last n b e i eb = never (λ w. not_both b eb (i.1 (last_once before w.before last (Const n) (sym e ∙ w.is))))

pub told_has : (ts before : List Term) (last : Term) (n : ℕ) (b : Bool) → ts ≡ before ++ last ∷ [] → b ≡ list_any (occurs n) before → b ≡ true → IsTrue false ↔ EndsWithFresh ts n
told_has ts before last n b e same eb =
    never (λ w. not_both b (same ∙ ap (list_any (occurs n)) (others_once before w.before last (Const n) (sym e ∙ w.is)) ∙ w.others) eb)

pub told_fresh_end : (ts before : List Term) (last : Term) (n : ℕ) (a b : Bool) → ts ≡ before ++ last ∷ [] → IsTrue a ↔ (last ≡ Const n) → a ≡ true → b ≡ list_any (occurs n) before → b ≡ false → IsTrue true ↔ EndsWithFresh ts n
told_fresh_end ts before last n a b e i ea same eb =
    (λ x. record { before = before; is = e ∙ ap (λ u. before ++ u ∷ []) (i.0 ea); others = sym same ∙ eb }, λ w. refl)

pub ruleset fresh_ends_rules = (told_none_fresh, told_other_end, told_has, told_fresh_end)

-- what is wanted, by cases
abbrev SubjectAs : Term → Literal → Type 0
SubjectAs t (Atom positive s ts) = (s.kind ≡ kind.Attribute) × EndsWith ts t
SubjectAs t (Eq positive u v) = ⊥

abbrev FreshAs : ℕ → Literal → Type 0
FreshAs n (Atom positive s ts) = (s.kind ≡ kind.Attribute) × EndsWithFresh ts n
FreshAs n (Eq positive u v) = ⊥

abbrev SuitsAs : Wanted → Meaning → Type 0
SuitsAs Anything m = Unit {0}
SuitsAs (AdjectiveOf t) (OfTerm u) = ⊥
SuitsAs (AdjectiveOf t) (OfLiteral l) = SubjectAs t l
SuitsAs (AdjectiveOf t) (OfType ty) = ⊥
SuitsAs (AdjectiveOfFresh n) (OfTerm u) = ⊥
SuitsAs (AdjectiveOfFresh n) (OfLiteral l) = FreshAs n l
SuitsAs (AdjectiveOfFresh n) (OfType ty) = ⊥

suits_as : (w : Wanted) (m : Meaning) → Suits w m → SuitsAs w m
suits_as w m (co.anything n) = tt
suits_as w m (co.of_subject t positive s ts h k) = (h, k)
suits_as w m (co.of_fresh n positive s ts h k) = (h, k)

pub told_no_attribute : (t : Term) (l : Literal) (positive : Bool) (s : Sym) (ts : List Term) (a : Bool) → l ≡ Atom positive s ts → IsTrue a ↔ (s.kind ≡ kind.Attribute) → a ≡ false → IsTrue false ↔ Suits (AdjectiveOf t) (OfLiteral l)
told_no_attribute t l positive s ts a el i ea =
    subst (λ m. IsTrue false ↔ Suits (AdjectiveOf t) (OfLiteral m)) (sym el) (never (λ h. not_both a ea (i.1 ((suits_as (AdjectiveOf t) (OfLiteral (Atom positive s ts)) h).0))))

pub told_attribute : (t : Term) (l : Literal) (positive : Bool) (s : Sym) (ts us : List Term) (a b : Bool) → l ≡ Atom positive s ts → IsTrue a ↔ (s.kind ≡ kind.Attribute) → a ≡ true → us ≡ ts → IsTrue b ↔ EndsWith us t → IsTrue b ↔ Suits (AdjectiveOf t) (OfLiteral l)
told_attribute t l positive s ts us a b el i ea eu j =
    let k : IsTrue b ↔ EndsWith ts t = subst (λ (xs : List Term). IsTrue b ↔ EndsWith xs t) eu j in
    subst (λ m. IsTrue b ↔ Suits (AdjectiveOf t) (OfLiteral m)) (sym el)
    ((λ x. co.of_subject t positive s ts (i.0 ea) (k.0 x), λ h. k.1 ((suits_as (AdjectiveOf t) (OfLiteral (Atom positive s ts)) h).1)))

pub told_equation : (t : Term) (l : Literal) (positive : Bool) (u v : Term) → l ≡ Eq positive u v → IsTrue false ↔ Suits (AdjectiveOf t) (OfLiteral l)
told_equation t l positive u v el = subst (λ m. IsTrue false ↔ Suits (AdjectiveOf t) (OfLiteral m)) (sym el) (never (suits_as (AdjectiveOf t) (OfLiteral (Eq positive u v))))

pub ruleset subject_rules = (told_no_attribute, told_attribute, told_equation)

pub told_no_fresh_attribute : (n : ℕ) (l : Literal) (positive : Bool) (s : Sym) (ts : List Term) (a : Bool) → l ≡ Atom positive s ts → IsTrue a ↔ (s.kind ≡ kind.Attribute) → a ≡ false → IsTrue false ↔ Suits (AdjectiveOfFresh n) (OfLiteral l)
told_no_fresh_attribute n l positive s ts a el i ea =
    subst (λ m. IsTrue false ↔ Suits (AdjectiveOfFresh n) (OfLiteral m)) (sym el) (never (λ h. not_both a ea (i.1 ((suits_as (AdjectiveOfFresh n) (OfLiteral (Atom positive s ts)) h).0))))

pub told_fresh_attribute : (n : ℕ) (l : Literal) (positive : Bool) (s : Sym) (ts us : List Term) (a b : Bool) → l ≡ Atom positive s ts → IsTrue a ↔ (s.kind ≡ kind.Attribute) → a ≡ true → us ≡ ts → IsTrue b ↔ EndsWithFresh us n → IsTrue b ↔ Suits (AdjectiveOfFresh n) (OfLiteral l)
told_fresh_attribute n l positive s ts us a b el i ea eu j =
    let k : IsTrue b ↔ EndsWithFresh ts n = subst (λ (xs : List Term). IsTrue b ↔ EndsWithFresh xs n) eu j in
    subst (λ m. IsTrue b ↔ Suits (AdjectiveOfFresh n) (OfLiteral m)) (sym el)
    ((λ x. co.of_fresh n positive s ts (i.0 ea) (k.0 x), λ h. k.1 ((suits_as (AdjectiveOfFresh n) (OfLiteral (Atom positive s ts)) h).1)))

pub told_fresh_equation : (n : ℕ) (l : Literal) (positive : Bool) (u v : Term) → l ≡ Eq positive u v → IsTrue false ↔ Suits (AdjectiveOfFresh n) (OfLiteral l)
told_fresh_equation n l positive u v el = subst (λ m. IsTrue false ↔ Suits (AdjectiveOfFresh n) (OfLiteral m)) (sym el) (never (suits_as (AdjectiveOfFresh n) (OfLiteral (Eq positive u v))))

pub ruleset fresh_rules = (told_no_fresh_attribute, told_fresh_attribute, told_fresh_equation)

pub told_any_literal : (w : Wanted) (l : Literal) → w ≡ Anything → IsTrue true ↔ Suits w (OfLiteral l)
told_any_literal w l ew = subst (λ v. IsTrue true ↔ Suits v (OfLiteral l)) (sym ew) ((λ x. co.anything (OfLiteral l), λ h. refl))

pub told_of_subject : (w : Wanted) (t : Term) (l : Literal) (b : Bool) → w ≡ AdjectiveOf t → IsTrue b ↔ Suits (AdjectiveOf t) (OfLiteral l) → IsTrue b ↔ Suits w (OfLiteral l)
told_of_subject w t l b ew i = subst (λ v. IsTrue b ↔ Suits v (OfLiteral l)) (sym ew) i

pub told_of_fresh : (w : Wanted) (n : ℕ) (l : Literal) (b : Bool) → w ≡ AdjectiveOfFresh n → IsTrue b ↔ Suits (AdjectiveOfFresh n) (OfLiteral l) → IsTrue b ↔ Suits w (OfLiteral l)
told_of_fresh w n l b ew i = subst (λ v. IsTrue b ↔ Suits v (OfLiteral l)) (sym ew) i

pub ruleset literal_rules = (told_any_literal, told_of_subject, told_of_fresh)

pub told_not_subject : (w : Wanted) (t : Term) → w ≡ AdjectiveOf t → IsTrue false ↔ (w ≡ Anything)
told_not_subject w t ew = never (λ h. cc)

pub told_not_fresh : (w : Wanted) (n : ℕ) → w ≡ AdjectiveOfFresh n → IsTrue false ↔ (w ≡ Anything)
told_not_fresh w n ew = never (λ h. cc)

pub ruleset any_rules = (told_not_subject, told_not_fresh)

any_term : (w : Wanted) (t : Term) → SuitsAs w (OfTerm t) → w ≡ Anything
any_term Anything t h = refl
any_term (AdjectiveOf u) t h = absurd h
any_term (AdjectiveOfFresh n) t h = absurd h

any_type : (w : Wanted) (ty : SoftType) → SuitsAs w (OfType ty) → w ≡ Anything
any_type Anything ty h = refl
any_type (AdjectiveOf u) ty h = absurd h
any_type (AdjectiveOfFresh n) ty h = absurd h

only_anything : (w : Wanted) (m : Meaning) (b : Bool) → (SuitsAs w m → w ≡ Anything) → IsTrue b ↔ (w ≡ Anything) → IsTrue b ↔ Suits w m
only_anything w m b f i = (λ x. subst (λ v. Suits v m) (sym (i.0 x)) (co.anything m), λ h. i.1 (f (suits_as w m h)))

pub told_term : (w : Wanted) (m : Meaning) (t : Term) (b : Bool) → m ≡ OfTerm t → IsTrue b ↔ (w ≡ Anything) → IsTrue b ↔ Suits w m
told_term w m t b em i = subst (λ n. IsTrue b ↔ Suits w n) (sym em) (only_anything w (OfTerm t) b (any_term w t) i)

pub told_type : (w : Wanted) (m : Meaning) (ty : SoftType) (b : Bool) → m ≡ OfType ty → IsTrue b ↔ (w ≡ Anything) → IsTrue b ↔ Suits w m
told_type w m ty b em i = subst (λ n. IsTrue b ↔ Suits w n) (sym em) (only_anything w (OfType ty) b (any_type w ty) i)

pub told_literal : (w : Wanted) (m : Meaning) (l : Literal) (b : Bool) → m ≡ OfLiteral l → IsTrue b ↔ Suits w (OfLiteral l) → IsTrue b ↔ Suits w m
told_literal w m l b em i = subst (λ n. IsTrue b ↔ Suits w n) (sym em) i

pub ruleset suits_rules = (told_term, told_type, told_literal)
