-- The type of a functor letter derives, with the letters replaced, where what stands for the letter fits it for fresh arguments.
use Rattle.std.proofs.Common.{◌≡◌, ◌≤◌, ◌<◌, ℕ, zero, suc, ◌+◌, List, [], ◌∷◌, ◌++◌, map, length, reverse, refl, ap, sym, ◌∙◌, subst, arith, Bool, true, false}
use Rattle.std.specs.Prelude.{Option, Some, None, nat_lt, ◌&&◌, Contains}
use Rattle.std.specs.List.{list_all}
use Rattle.std.proofs.lemmas.Bool.{and_parts, and_from, lt-ltb, false≢true}
use Rattle.std.proofs.lemmas.List.{length-append, length-reverse, reverse-reverse}
use Rattle.mz_logic.specs.Term.{Term, Terms, Bound, Const, App, none, more, terms_of}
use Rattle.mz_logic.specs.Formula.{Formula}
use Rattle.mz_logic.specs.Literal.{literal_formula}
use Rattle.mz_logic.specs.declared.literal.Literal.{Literal}
use Rattle.mz_logic.specs.declared.literal.Literal.TheVariants as literal
use Rattle.mz_logic.specs.declared.sym.Sym.{Sym}
use Rattle.mz_logic.specs.declared.letters.Letter.{Letter}
use Rattle.mz_logic.specs.Substitution.{substitute, substitute_formula, value_at, body_at}
use Rattle.mz_logic.specs.Instance.{term_instance, instance}
use Rattle.mz_logic.specs.Derives.{Derives}
use Rattle.mz_logic.proofs.SubstitutionLaws.{substitute_args-terms_of}
use Rattle.mz_logic.proofs.ValueLaws.{substitute_formula-no_values, substitute_formula-one_others}
use Rattle.mz_logic.proofs.Each.{Each, along_each}
use Rattle.mz_core.specs.Statement.{Statement, Atom, Eq, Not, And, For}
use Rattle.mz_core.specs.Closed.{term_under, args_under, type_under, statement_under, loci_closed}
use Rattle.mz_core.specs.Everywhere.{type_all, statement_all}
use Rattle.mz_core.specs.InForce.{term_in_force, args_in_force, formula_in_force, type_in_force, statement_in_force}
use Rattle.mz_core.specs.Guard.{guard, guard_literals}
use Rattle.mz_core.specs.Parts.{conjunction}
use Rattle.mz_core.specs.Erasure.{erase}
use Rattle.mz_core.specs.TypeStatements.{signed, literal_statement, is_of_type}
use Rattle.mz_core.specs.TypeSubstitution.{substitute_type, substitute_statement, statement_at}
use Rattle.mz_core.specs.declared.soft_type.SoftType.{SoftType}
use Rattle.mz_core.proofs.TermMaps.{type_with, literal_with, statement_with, formula_with, guard_literals-with, conjunction-with, erase-with}
use Rattle.mz_core.proofs.MapInstances.{substitutes, substitute_statement-with}
use Rattle.mz_core.proofs.LawProofs.{erasure_of_substitution, erasure_of_body, in_force_at, statement_in_force-all, in_force_changed, term_in_force-substitute, term_in_force-more, guard_in_force}
use Rattle.mz_core.proofs.AllLemmas.{type_all-with, statement_all-at, statement_all-with, is_of_type_all}
use Rattle.mz_core.proofs.UnderTerms.{args_under-list}
use Rattle.mz_items.proofs.RowLemmas.{over_under, loci_variables}
use Rattle.mz_laws.proofs.StatementProofs.{more_formula_in_force, more_type_in_force, type_substitution_in_force, statement_substitution_in_force}
use Rattle.mz_items.specs.Loci.{over, variables, term_on}
use Rattle.mz_context.specs.Context.{numbers}
use Rattle.mz_context.specs.declared.constants.Constant.{Constant}
use Rattle.mz_ground.specs.declared.clause.Clause.{Clause}
use Rattle.mz_fits.specs.Fits.{TypeFits, type_at}
use Rattle.mz_fits.specs.Laws.{AreGranted}
use Rattle.mz_fits.proofs.SoundLemmas.{fits_derives}
use Rattle.mz_thesis.specs.Rows.{with_fresh}
use Rattle.mz_thesis_laws.specs.RowLaws.{AreInForce}
use Rattle.mz_thesis_laws.proofs.RowProofs.{generalized, granted_with_fresh}
use Rattle.mz_thesis_laws.proofs.StatementProofs.{conjunction_in}
use Rattle.mz_steps_laws.proofs.ProofSteps.{erased_literals}
use Rattle.mz_chain_laws.proofs.StructureHolds.{loci_at}
use Rattle.mz_following.specs.TypeInstance.{type_instance, is_letterless}
use Rattle.mz_following.proofs.InstanceMaps.{instances, instances_go_under, instance-substitute}
use Rattle.mz_following.proofs.InForce.{AreFixedInForce, letter_in_force, instance_in_force}
use Rattle.mz_following.proofs.Letterless.{is_plain, plain_instance, plain_of_type, plain_for}
use Rattle.mz_from.specs.Letters.{FitsOver, type_there}

-- a map of terms within 'the term has the type'
signed-with : (g : ℕ → Term → Term) (d : ℕ) (b : Bool) (s : Statement) → statement_with g d (signed b s) ≡ signed b (statement_with g d s)
signed-with g d true s = refl
signed-with g d false s = refl

literal_statement-with : (g : ℕ → Term → Term) (d : ℕ) (l : Literal) → statement_with g d (literal_statement l) ≡ literal_statement (literal_with (g d) l)
literal_statement-with g d (literal.Atom positive s ts) = signed-with g d positive (Atom s ts)
literal_statement-with g d (literal.Eq positive t u) = signed-with g d positive (Eq t u)

literal_statements-with : (g : ℕ → Term → Term) (d : ℕ) (ls : List Literal) → map (statement_with g d) (map literal_statement ls) ≡ map literal_statement (map (literal_with (g d)) ls)
literal_statements-with g d [] = refl
literal_statements-with g d (l ∷ ls) = λ i. literal_statement-with g d l i ∷ literal_statements-with g d ls i

is_of_type-with : (g : ℕ → Term → Term) (d : ℕ) (ty : SoftType) (t : Term) → statement_with g d (is_of_type ty t) ≡ is_of_type (type_with (g d) ty) (g d t)
is_of_type-with g d ty t =
    conjunction-with g d (map literal_statement (guard_literals ty t)) ∙
    ap conjunction (literal_statements-with g d (guard_literals ty t) ∙ ap (map literal_statement) (guard_literals-with (g d) ty t))

-- the statement from a guard that derives
type_derives : (ax g : List Formula) (ty : SoftType) (t : Term) → Each ax g (guard ty t) → Derives ax g (erase (is_of_type ty t))
type_derives ax g ty t each =
    let ls : List Literal = guard_literals ty t in
    conjunction_in ax g (map literal_statement ls) (along_each ax g (map erase (map literal_statement ls)) (subst (Each ax g) (sym (erased_literals ls)) each))

-- lists of formulas in force
all_more : (n : ℕ) (fs : List Formula) → AreInForce n fs → AreInForce (suc n) fs
all_more n [] h = refl
all_more n (f ∷ fs) h =
    let c : (formula_in_force n f ≡ true) × (list_all (formula_in_force n) fs ≡ true) = and_parts (formula_in_force n f) (list_all (formula_in_force n) fs) h in
    and_from (formula_in_force (suc n) f) (list_all (formula_in_force (suc n)) fs) (more_formula_in_force n (suc n) f (omega arith) c.0) (all_more n fs c.1)

all_of_both : (n : ℕ) (fs gs : List Formula) → AreInForce n fs → AreInForce n gs → AreInForce n (fs ++ gs)
all_of_both n [] gs a b = b
all_of_both n (f ∷ fs) gs a b =
    let c : (formula_in_force n f ≡ true) × (list_all (formula_in_force n) fs ≡ true) = and_parts (formula_in_force n f) (list_all (formula_in_force n) fs) a in
    and_from (formula_in_force n f) (list_all (formula_in_force n) (fs ++ gs)) c.0 (all_of_both n fs gs c.1 b)

new_in_force : (n : ℕ) → term_in_force (suc n) (Const n) ≡ true
new_in_force n = lt-ltb n (suc n) (omega arith)

next_number : (ks : List (Option Constant)) (ty : SoftType) → numbers (with_fresh ks ty) ≡ suc (numbers ks)
next_number ks ty = let e : length (with_fresh ks ty) ≡ length ks + 1 = length-append ks _ in omega (arith, e)

-- what has no constant is in force
mutual
  term_free : (n m : ℕ) (t : Term) → term_under m t ≡ true → term_in_force n t ≡ true
  term_free n m (Bound index) h = refl
  term_free n m (Const number) h = absurd (false≢true h)
  term_free n m (App s ts) h = args_free n m ts h

  args_free : (n m : ℕ) (ts : Terms) → args_under m ts ≡ true → args_in_force n ts ≡ true
  args_free n m none h = refl
  args_free n m (more t ts) h =
      let both : (term_under m t ≡ true) × (args_under m ts ≡ true) = and_parts (term_under m t) (args_under m ts) h in
      and_from (term_in_force n t) (args_in_force n ts) (term_free n m t both.0) (args_free n m ts both.1)

-- the instance of what has no constant is in force
statement_free : (n : ℕ) → nat_lt 0 n ≡ true → (ls : List Letter) → AreFixedInForce n ls → (d : ℕ) (s : Statement) → statement_under d s ≡ true → statement_in_force n (statement_with (instances ls) d s) ≡ true
statement_free n some ls fixed d s h =
    statement_in_force-all n (d + 0) (statement_with (instances ls) d s) ∙
    statement_all-with term_under (in_force_at n) (instances ls) 0 0 d s (λ e t k. instance_in_force n some ls fixed t (term_free n (e + 0) t k)) (statement_all-at term_under d (d + 0) s (omega arith) h)

type_free : (n : ℕ) → nat_lt 0 n ≡ true → (ls : List Letter) → AreFixedInForce n ls → (v : ℕ → Term) → ((k : ℕ) → term_in_force n (v k) ≡ true) → (m : ℕ) (ty : SoftType) → type_under m ty ≡ true → type_in_force n (substitute_type 0 v (type_instance ls ty)) ≡ true
type_free n some ls fixed v vs m ty h =
    type_substitution_in_force n 0 v (type_instance ls ty) vs
    (type_all-with term_under (in_force_at n) m 0 (term_instance ls) ty (λ t k. instance_in_force n some ls fixed t (term_free n m t k)) h)

some_number : (ks : List (Option Constant)) → nat_lt 0 (numbers ks) ≡ true
some_number ks = lt-ltb 0 (numbers ks) (omega arith)

-- the term of a letter on its places, at what stands for these
letter_at : (s : Sym) (before : List Term) (count : ℕ) → length before ≡ count → substitute 0 (value_at before) (App s (terms_of (variables 0 count))) ≡ App s (terms_of (reverse before))
letter_at s before count e =
    let back : reverse (reverse before) ≡ before = reverse-reverse before in
    let n : length (reverse before) ≡ count = length-reverse before ∙ e in
    let vars : map (substitute 0 (value_at before)) (variables 0 count) ≡ reverse before =
    sym (ap (λ us. map (substitute 0 (value_at us)) (variables 0 count)) back) ∙ loci_at [] (reverse before) 0 count refl n in
    ap (λ us. App s us) (substitute_args-terms_of 0 (value_at before) (variables 0 count) ∙ ap terms_of vars)

own_first : (ls : List Letter) (n : ℕ) (before : List Term) → ((k : ℕ) → term_instance ls (value_at before k) ≡ value_at before k) → (k : ℕ) → term_instance ls (value_at (Const n ∷ before) k) ≡ value_at (Const n ∷ before) k
own_first ls n before own zero = refl
own_first ls n before own (suc k) = own k

values_first : (n : ℕ) (before : List Term) → ((k : ℕ) → term_in_force n (value_at before k) ≡ true) → (k : ℕ) → term_in_force (suc n) (value_at (Const n ∷ before) k) ≡ true
values_first n before vs zero = new_in_force n
values_first n before vs (suc k) = term_in_force-more n (suc n) (value_at before k) (omega arith) (vs k)

-- the body at a constant, behind the values for what stands above it
at_constant : (before : List Term) (t : Term) (s : Statement) → erase (substitute_statement 0 (value_at (t ∷ before)) s) ≡ erase (statement_at (substitute_statement 1 (value_at before) s) t)
at_constant before t s =
    erasure_of_substitution 0 (value_at (t ∷ before)) s ∙
    (sym (substitute_formula-one_others 0 t before (erase s)) ∙
    (ap (substitute_formula 0 (value_at (t ∷ []))) (sym (erasure_of_substitution 1 (value_at before) s)) ∙ sym (erasure_of_body (substitute_statement 1 (value_at before) s) t)))

-- the letter's type over the places that are left, at the constants for those that are done
type_over : (ax : List Formula) (cs : List Clause) (ls : List Letter) (s : Sym) (ty : SoftType) (count least : ℕ) → ((m : ℕ) → least ≤ m → AreFixedInForce m ls) → (rest : List SoftType) (d : ℕ) (before : List Term) (ks : List (Option Constant)) (g : List Formula) → AreGranted ax g cs ks → AreInForce (numbers ks) g → least ≤ numbers ks → length before + length rest ≡ count → ((k : ℕ) → term_instance ls (value_at before k) ≡ value_at before k) → ((k : ℕ) → term_in_force (numbers ks) (value_at before k) ≡ true) → statement_under d (over rest (is_of_type ty (App s (terms_of (variables 0 count))))) ≡ true → FitsOver cs ls s ty ks before rest → Derives ax g (erase (substitute_statement 0 (value_at before) (statement_with (instances ls) d (over rest (is_of_type ty (App s (terms_of (variables 0 count))))))))
type_over ax cs ls s ty count least fixed [] d before ks g grants in_g le sum own vs under fits =
    let v : ℕ → Term = value_at before in
    let t : Term = App s (terms_of (variables 0 count)) in
    let t' : Term = term_instance ls (App s (terms_of (reverse before))) in
    let same : length before ≡ count = omega (arith, sum) in
    let term : substitute 0 v (term_instance ls t) ≡ t' = instance-substitute ls v own t ∙ ap (term_instance ls) (letter_at s before count same) in
    let each : Each ax g (guard (type_there ls before ty) t') = fits_derives ax g cs ks grants t' (type_there ls before ty) fits in
    let derived : Derives ax g (erase (is_of_type (type_there ls before ty) t')) = type_derives ax g (type_there ls before ty) t' each in
    let there : substitute_statement 0 v (statement_with (instances ls) d (is_of_type ty t)) ≡ is_of_type (type_there ls before ty) t' =
    ap (substitute_statement 0 v) (is_of_type-with (instances ls) d ty t) ∙
    (substitute_statement-with v 0 (is_of_type (type_instance ls ty) (term_instance ls t)) ∙
    (is_of_type-with (substitutes v) 0 (type_instance ls ty) (term_instance ls t) ∙ ap (is_of_type (type_there ls before ty)) term)) in
    subst (λ x. Derives ax g (erase x)) (sym there) derived
type_over ax cs ls s ty count least fixed (p ∷ rest) d before ks g grants in_g le sum own vs under fits =
    let n : ℕ = numbers ks in
    let v : ℕ → Term = value_at before in
    let x : Statement = over rest (is_of_type ty (App s (terms_of (variables 0 count)))) in
    let place : SoftType = type_there ls before p in
    let k : List Formula = guard place (Const n) ++ g in
    let both : (type_under d p ≡ true) × (statement_under (d + 1) x ≡ true) = and_parts (type_under d p) (statement_under (d + 1) x) under in
    let some : nat_lt 0 n ≡ true = some_number ks in
    let fixed_n : AreFixedInForce n ls = fixed n le in
    let up : numbers (with_fresh ks place) ≡ suc n = next_number ks place in
    let in_place : type_in_force n place ≡ true = type_free n some ls fixed_n v vs d p both.0 in
    let in_inner : statement_in_force n (statement_with (instances ls) (d + 1) x) ≡ true = statement_free n some ls fixed_n (d + 1) x both.1 in
    let in_x : statement_in_force n (substitute_statement 1 v (statement_with (instances ls) (d + 1) x)) ≡ true = statement_substitution_in_force n 1 v (statement_with (instances ls) (d + 1) x) vs in_inner in
    let in_k : AreInForce (suc n) k = all_of_both (suc n) (guard place (Const n)) g (guard_in_force (suc n) place (Const n) (more_type_in_force n (suc n) place (omega arith) in_place) (new_in_force n)) (all_more n g in_g) in
    let le' : least ≤ numbers (with_fresh ks place) = omega (arith, le, up) in
    let inner : Derives ax k (erase (substitute_statement 0 (value_at (Const n ∷ before)) (statement_with (instances ls) (d + 1) x))) =
    type_over ax cs ls s ty count least fixed rest (d + 1) (Const n ∷ before) (with_fresh ks place) k (granted_with_fresh ax g cs ks place grants)
    (subst (λ j. AreInForce j k) (sym up) in_k) le' (omega (arith, sum)) (own_first ls n before own)
    (subst (λ j. (i : ℕ) → term_in_force j (value_at (Const n ∷ before) i) ≡ true) (sym up) (values_first n before vs)) both.1 fits in
    generalized ax g n n place (substitute_statement 1 v (statement_with (instances ls) (d + 1) x)) in_g (omega arith) in_place in_x
    (subst (Derives ax k) (at_constant before (Const n) (statement_with (instances ls) (d + 1) x)) inner)

-- the letter's type derives
plain_over : (places : List SoftType) (s : Statement) → list_all is_letterless places ≡ true → is_plain (erase s) ≡ true → is_plain (erase (over places s)) ≡ true
plain_over [] s h k = k
plain_over (p ∷ places) s h k =
    let both : (is_letterless p ≡ true) × (list_all is_letterless places ≡ true) = and_parts (is_letterless p) (list_all is_letterless places) h in
    plain_for p (over places s) both.0 (plain_over places s both.1 k)

pub letter_type : (ax g : List Formula) (cs : List Clause) (ks : List (Option Constant)) → AreGranted ax g cs ks → AreInForce (numbers ks) g → (ls : List Letter) → ((m : ℕ) → numbers ks ≤ m → AreFixedInForce m ls) → (s : Sym) (places : List SoftType) (ty : SoftType) → loci_closed places && type_under (length places) ty ≡ true → list_all is_letterless (ty ∷ places) ≡ true → FitsOver cs ls s ty ks [] places → Derives ax g (instance ls (erase (over places (is_of_type ty (term_on places s)))))
letter_type ax g cs ks grants in_g ls fixed s places ty h k fits =
    let t : Term = term_on places s in
    let x : Statement = over places (is_of_type ty t) in
    let both : (loci_closed places ≡ true) × (type_under (length places) ty ≡ true) = and_parts (loci_closed places) (type_under (length places) ty) h in
    let letterless : (is_letterless ty ≡ true) × (list_all is_letterless places ≡ true) = and_parts (is_letterless ty) (list_all is_letterless places) k in
    let term : term_under (length places) t ≡ true = args_under-list (length places) (variables 0 (length places)) (loci_variables places) in
    let under : statement_under 0 x ≡ true = over_under 0 places (is_of_type ty t) both.0 (is_of_type_all term_under (0 + length places) ty t (subst (λ n. type_under n ty ≡ true) zero_more both.1) (subst (λ n. term_under n t ≡ true) zero_more term)) in
    let sum : 0 + length places ≡ length places = omega arith in
    let derived : Derives ax g (erase (substitute_statement 0 (value_at []) (statement_with (instances ls) 0 x))) =
    type_over ax cs ls s ty (length places) (numbers ks) fixed places 0 [] ks g grants in_g (omega arith) sum (λ i. refl) (λ i. refl) under fits in
    let plain : is_plain (erase x) ≡ true = plain_over places (is_of_type ty t) letterless.1 (plain_of_type ty t letterless.0) in
    let same : erase (substitute_statement 0 (value_at []) (statement_with (instances ls) 0 x)) ≡ instance ls (erase x) =
    erasure_of_substitution 0 (value_at []) (statement_with (instances ls) 0 x) ∙
    (substitute_formula-no_values 0 (erase (statement_with (instances ls) 0 x)) ∙
    (erase-with (instances ls) 0 x (instances_go_under ls) ∙ sym (plain_instance ls 0 (erase x) plain))) in
    subst (Derives ax g) same derived
  where
    zero_more : length places ≡ 0 + length places
    zero_more = omega arith
