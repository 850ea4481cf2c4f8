-- What the code of the resolution tells.
use Rattle.std.proofs.Common.{◌≡◌, List, [], ◌∷◌, ◌++◌, refl, sym, ap, ◌∙◌, subst, Bool, true, false, length, map, Option, Some, None}
use Rattle.std.specs.Prelude.{reverse, ◌||◌, if◌then◌else◌}
use Rattle.std.specs.List.{filter, list_any}
use Rattle.mz_logic.specs.Term.{Term}
use Rattle.mz_core.specs.declared.notation.Notation.{Notation}
use Rattle.mz_core.specs.declared.notation.Meaning.{Meaning}
use Rattle.mz_context.specs.declared.context.Context.{Context}
use Rattle.mz_ground.specs.declared.clause.Clause.{Clause}
use Rattle.mz_environment.specs.declared.environment.Environment.{Environment}
use Rattle.mz_environment.specs.Keys.{is_spelled}
use Rattle.mz_fits.proofs.FitLemmas.{not_both, empty}
use Rattle.mz_choice.specs.declared.choice.Applied.{Applied}
use Rattle.mz_choice.specs.declared.choice.Wanted.{Wanted}
use Rattle.mz_choice.specs.declared.resolve.Resolution.TheVariants.{ReadsTo, UnknownSymbol, NoNotation, UnfitArgument}
use Rattle.mz_choice.specs.Choice.{is_of_symbol, is_candidate, candidates, FirstPasses, none_passes, Chosen}
use Rattle.mz_choice.specs.Resolution as re
use Rattle.mz_choice.specs.Resolution.{Resolves}
use Rattle.mz_choice.proofs.FirstLemmas.{spelled_symbol, of_symbol}

first_of : (p q r t : Bool) → (q ≡ true → p ≡ true) → (r ≡ true → t ≡ true) → (q || r) ≡ true → (p || t) ≡ true
first_of true q r t f g h = refl
first_of false true r t f g h = absurd (not_both false refl (f refl))
first_of false false r t f g h = g h

-- where there is a candidate, the symbol has a notation
pub has_symbol : (a : Applied) (xs : List Notation) → list_any (is_candidate a) xs ≡ true → list_any (is_of_symbol a) xs ≡ true
has_symbol a [] h = h
has_symbol a (x ∷ xs) h = first_of (is_of_symbol a x) (is_candidate a x) (list_any (is_candidate a) xs) (list_any (is_of_symbol a) xs) (of_symbol a x) (has_symbol a xs) h

cons-no_first : {A : Type 0} (b r : Bool) (x : A) (xs : List A) → (r ≡ false → xs ≡ []) → (b || r) ≡ false → (if b then x ∷ xs else xs) ≡ []
cons-no_first true r x xs f h = absurd (not_both true h refl)
cons-no_first false r x xs f h = f h

-- where there is none, none is left
filter-no_candidates : (p : Notation → Bool) (xs : List Notation) → list_any p xs ≡ false → filter p xs ≡ []
filter-no_candidates p [] h = refl
filter-no_candidates p (x ∷ xs) h = cons-no_first (p x) (list_any p xs) x (filter p xs) (filter-no_candidates p xs) h

none_first : (cs : List Clause) (e : Environment) (c : Context) (w : Wanted) (args : List Term) (o : Option Meaning) → FirstPasses cs e c w args [] o → o ≡ None
none_first cs e c w args o none_passes = refl

none_of_none : (cs : List Clause) (e : Environment) (c : Context) (w : Wanted) (args : List Term) (xs : List Notation) (o : Option Meaning) → xs ≡ [] → FirstPasses cs e c w args xs o → o ≡ None
none_of_none cs e c w args xs o h f = none_first cs e c w args o (subst (λ ys. FirstPasses cs e c w args ys o) h f)

-- what is chosen is a candidate
pub chosen_none : (cs : List Clause) (e : Environment) (c : Context) (w : Wanted) (a : Applied) (o : Option Meaning) → list_any (is_candidate a) e.notations ≡ false → Chosen cs e c w a o → o ≡ None
chosen_none cs e c w a o h k = none_of_none cs e c w (a.left ++ a.right) (candidates a e.notations) o (ap reverse (filter-no_candidates (is_candidate a) e.notations h)) k

none_here : (b r t : Bool) → (b ≡ true → false ≡ true) → r ≡ t → r ≡ (b || t)
none_here true r t f h = absurd (not_both false refl (f refl))
none_here false r t f h = h

any_test : (p : Notation → Bool) (x : Notation) (ys xs : List Notation) (c : Bool) → (p x ≡ true → c ≡ true) → list_any p ys ≡ list_any p xs → list_any p (if c then x ∷ ys else ys) ≡ (p x || list_any p xs)
any_test p x ys xs true f h = ap (λ (r : Bool). p x || r) h
any_test p x ys xs false f h = none_here (p x) (list_any p ys) (list_any p xs) f h

any_filtered : (p q : Notation → Bool) (xs : List Notation) → ((x : Notation) → p x ≡ true → q x ≡ true) → list_any p (filter q xs) ≡ list_any p xs
any_filtered p q [] f = refl
any_filtered p q (x ∷ xs) f = any_test p x (filter q xs) xs (q x) (f x) (any_filtered p q xs f)

some_symbol : (a : Applied) (xs ns : List Notation) → xs ≡ filter (is_spelled a.symbol) ns → list_any (is_of_symbol a) xs ≡ list_any (is_of_symbol a) ns
some_symbol a xs ns h = ap (list_any (is_of_symbol a)) h ∙ any_filtered (is_of_symbol a) (is_spelled a.symbol) ns (spelled_symbol a)

some_candidate : (a : Applied) (xs ns : List Notation) → xs ≡ filter (is_spelled a.symbol) ns → list_any (is_candidate a) xs ≡ list_any (is_candidate a) ns
some_candidate a xs ns h = ap (list_any (is_candidate a)) h ∙ any_filtered (is_candidate a) (is_spelled a.symbol) ns (λ x k. spelled_symbol a x (of_symbol a x k))

-- some of a list: what is left of it gives what the whole does
pub told_none_has : {A : Type 0} (p : Notation → Bool) (f : A → Notation) (ys : List A) (whole : Bool) → length ys ≡ 0 → list_any p (map f ys) ≡ whole → false ≡ whole
told_none_has p f ys whole h so = sym (ap (λ zs. list_any p (map f zs)) (empty ys h)) ∙ so

list_any-one_more : {A : Type 0} (p : Notation → Bool) (f : A → Notation) (ys zs : List A) (y : A) (x : Notation) (b c : Bool) → ys ≡ y ∷ zs → x ≡ f y → b ≡ p x → b ≡ c → list_any p (map f ys) ≡ (c || list_any p (map f zs))
list_any-one_more p f ys zs y x b c ey ex same eb = ap (λ vs. list_any p (map f vs)) ey ∙ ap (λ (d : Bool). d || list_any p (map f zs)) (ap p (sym ex) ∙ (sym same ∙ eb))

pub told_one_has : {A : Type 0} (p : Notation → Bool) (f : A → Notation) (ys zs : List A) (y : A) (x : Notation) (b whole : Bool) → ys ≡ y ∷ zs → x ≡ f y → b ≡ p x → b ≡ true → list_any p (map f ys) ≡ whole → true ≡ whole
told_one_has p f ys zs y x b whole ey ex same eb so = sym (list_any-one_more p f ys zs y x b true ey ex same eb) ∙ so

pub list_any-told_others_have : {A : Type 0} (p : Notation → Bool) (f : A → Notation) (ys zs : List A) (y : A) (x : Notation) (b whole : Bool) → ys ≡ y ∷ zs → x ≡ f y → b ≡ p x → b ≡ false → list_any p (map f ys) ≡ whole → list_any p (map f zs) ≡ whole
list_any-told_others_have p f ys zs y x b whole ey ex same eb so = sym (list_any-one_more p f ys zs y x b false ey ex same eb) ∙ so

pub ruleset has_rules = (told_none_has, told_one_has, list_any-told_others_have)

pub told_reads_to : (cs : List Clause) (e : Environment) (c : Context) (w : Wanted) (a : Applied) (o : Option Meaning) (m : Meaning) → Chosen cs e c w a o → o ≡ Some m → Resolves cs e c w a (ReadsTo m)
told_reads_to cs e c w a o m h eo = re.reads_to m (subst (Chosen cs e c w a) eo h)

pub told_unfit : (cs : List Clause) (e : Environment) (c : Context) (w : Wanted) (a : Applied) (xs : List Notation) (o : Option Meaning) (b : Bool) → xs ≡ filter (is_spelled a.symbol) e.notations → Chosen cs e c w a o → o ≡ None → b ≡ list_any (is_candidate a) xs → b ≡ true → Resolves cs e c w a UnfitArgument
told_unfit cs e c w a xs o b ex h eo same eb = re.unfit_argument (sym (some_candidate a xs e.notations ex) ∙ (sym same ∙ eb)) (subst (Chosen cs e c w a) eo h)

pub told_no_notation : (cs : List Clause) (e : Environment) (c : Context) (w : Wanted) (a : Applied) (xs : List Notation) (p q : Bool) → xs ≡ filter (is_spelled a.symbol) e.notations → p ≡ list_any (is_candidate a) xs → p ≡ false → q ≡ list_any (is_of_symbol a) xs → q ≡ true → Resolves cs e c w a NoNotation
told_no_notation cs e c w a xs p q ex sp ep sq eq = re.no_notation (sym (some_symbol a xs e.notations ex) ∙ (sym sq ∙ eq)) (sym (some_candidate a xs e.notations ex) ∙ (sym sp ∙ ep))

pub told_unknown : (cs : List Clause) (e : Environment) (c : Context) (w : Wanted) (a : Applied) (xs : List Notation) (q : Bool) → xs ≡ filter (is_spelled a.symbol) e.notations → q ≡ list_any (is_of_symbol a) xs → q ≡ false → Resolves cs e c w a UnknownSymbol
told_unknown cs e c w a xs q ex sq eq = re.unknown_symbol (sym (some_symbol a xs e.notations ex) ∙ (sym sq ∙ eq))

pub ruleset resolve_rules = (told_reads_to, told_unfit, told_no_notation, told_unknown)
