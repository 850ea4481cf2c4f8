-- What a justification is given derives, and so does a statement whose obligation is met.
use Rattle.std.proofs.Common.{◌≡◌, ◌<◌, ◌-◌, inl, inr, ℕ, zero, suc, Bool, true, false, if◌then◌else◌, List, [], ◌∷◌, ◌++◌, map, take, length, refl, sym, ap, ◌∙◌, subst, arith, Option, Some, None, Result, Ok, Err}
use Rattle.std.specs.Prelude.{Contains, find, filter, reverse}
use Rattle.std.specs.List.{list_all}
use Rattle.std.proofs.lemmas.Bool.{and_from}
use Rattle.std.proofs.lemmas.List.{length-reverse, get_or-reverse}
use Rattle.std.proofs.lemmas.List.Elements.{Contains-append_left, Contains-append_right, Contains-append_cases}
use Rattle.mz_base.specs.declared.place.Place.{Place}
use Rattle.mz_logic.specs.Formula.{Formula}
use Rattle.mz_logic.specs.Literal.{literal_formula}
use Rattle.mz_logic.specs.Derives.{Derives}
use Rattle.mz_logic.proofs.Each.{Along, cut_each, each_itself, each_right, each_along}
use Rattle.mz_core.specs.Statement.{Statement}
use Rattle.mz_core.specs.TypeStatements.{literal_statement}
use Rattle.mz_core.specs.Erasure.{erase}
use Rattle.mz_core.specs.InForce.{statement_in_force}
use Rattle.mz_core.proofs.LawProofs.{more_in_force}
use Rattle.mz_core.specs.Below.{statement_below}
use Rattle.mz_items.specs.SchemeRows.{letter_types}
use Rattle.mz_context.specs.Context.{next}
use Rattle.mz_context.specs.declared.context.Context.{Context}
use Rattle.mz_context.specs.declared.labelled.LabelledStatement.{LabelledStatement}
use Rattle.mz_ground.specs.ClauseFormula.{clause_formula}
use Rattle.mz_ground.specs.declared.clause.Clause.{Clause}
use Rattle.mz_environment.specs.Keys.{of_article}
use Rattle.mz_environment.specs.declared.cited.CitedStatement.{CitedStatement}
use Rattle.mz_environment.specs.declared.environment.Environment.{Environment}
use Rattle.mz_environment.specs.declared.unfoldings.Unfolding.{Unfolding}
use Rattle.mz_names.specs.Names.{has_label, labelled_as}
use Rattle.mz_tree_proof.specs.declared.references.NumberTree.{NumberTree}
use Rattle.mz_tree_proof.specs.declared.references.NumberTree.TheVariants.{Theorem, Definition}
use Rattle.mz_tree_proof.specs.declared.references.ReferenceTree.{ReferenceTree}
use Rattle.mz_tree_proof.specs.declared.references.ReferenceTree.TheVariants.{Label, Numbered}
use Rattle.mz_cited.specs.Cited.{value_of, article_number, is_numbered, statement_in, statement_numbered, cited_by_number, members, in_front_of, cited_by_numbers, labelled_alone, cited_by, place_of, with_cited, cites}
use Rattle.mz_thesis_laws.proofs.UnfoldProofs.{some-inj, none_some}
use Rattle.mz_problem_laws.proofs.ProblemProofs.{joined_problem_law}
use Rattle.mz_steps.specs.Changes.{statement_of}
use Rattle.mz_steps.specs.Premises.{in_front, given}
use Rattle.mz_steps_laws.specs.Facts.{known_from, just_before, letter_of, statements_in, facts}
use Rattle.mz_steps_laws.proofs.FactLemmas.{granted}
use Rattle.mz_obligations.specs.Obligations.{IsDuty}
use Rattle.mz_obligations.specs.declared.obligation.Duty.{Duty}
use Rattle.mz_obligations.specs.declared.obligation.Duty.TheVariants.{By, From}
use Rattle.mz_block_laws.specs.Orders.{Stands, AreFounded, is_standing, IsInOrder}
use Rattle.mz_obligations.specs.Done.{clauses_for, IsDone}
use Rattle.mz_block_laws.specs.Met.{AreHeld, AreKnown, JustifiedLaw, AreTheorems, GivenLaw}
use Rattle.mz_block_laws.proofs.OrderLemmas.{member_passes, all_right, stands_out, facts_in_force, known_closed, rests_in}

-- members of lists
later : {X : Type 0} (x y : X) (ys : List X) → Contains ys x → Contains (y ∷ ys) x
later x y ys is = (suc is.0, omega (arith, is.1), is.2)

none_in : {X : Type 0} (x : X) → Contains [] x → ⊥
none_in x is = let lt : is.0 < 0 = is.1 in omega arith

found_by : {X : Type 0} (p : X → Bool) (x y : X) (ys : List X) (b : Bool) → (find p ys ≡ Some x → Contains ys x) → (if b then Some y else find p ys) ≡ Some x → Contains (y ∷ ys) x
found_by p x y ys true rest e = (0, omega arith, some-inj y x e)
found_by p x y ys false rest e = later x y ys (rest e)

pub found_member : {X : Type 0} (p : X → Bool) (x : X) (ys : List X) → find p ys ≡ Some x → Contains ys x
found_member p x [] e = absurd (none_some x e)
found_member p x (y ∷ ys) e = found_by p x y ys (p y) (found_member p x ys) e

kept_by : {X : Type 0} (p : X → Bool) (x y : X) (ys : List X) (b : Bool) → (Contains (filter p ys) x → Contains ys x) → Contains (if b then y ∷ filter p ys else filter p ys) x → Contains (y ∷ ys) x
kept_by p x y ys true rest (zero, lt, e) = (0, omega arith, e)
kept_by p x y ys true rest (suc i, lt, e) = later x y ys (rest (i, omega (arith, lt), e))
kept_by p x y ys false rest is = later x y ys (rest is)

pub kept_member : {X : Type 0} (p : X → Bool) (x : X) (ys : List X) → Contains (filter p ys) x → Contains ys x
kept_member p x [] is = absurd (none_in x is)
kept_member p x (y ∷ ys) is = kept_by p x y ys (p y) (kept_member p x ys) is

pub mapped_member : {X Y : Type 0} (f : X → Y) (x : X) (xs : List X) → Contains xs x → Contains (map f xs) (f x)
mapped_member f x [] is = absurd (none_in x is)
mapped_member f x (y ∷ ys) (zero, lt, e) = (0, omega arith, ap f e)
mapped_member f x (y ∷ ys) (suc i, lt, e) = later (f x) (f y) (map f ys) (mapped_member f x ys (i, omega (arith, lt), e))

taken_member : {X : Type 0} (n : ℕ) (x : X) (xs : List X) → Contains (take n xs) x → Contains xs x
taken_member zero x xs is = absurd (none_in x is)
taken_member (suc n) x [] is = absurd (none_in x is)
taken_member (suc n) x (y ∷ ys) (zero, lt, e) = (0, omega arith, e)
taken_member (suc n) x (y ∷ ys) (suc i, lt, e) = later x y ys (taken_member n x ys (i, omega (arith, lt), e))

-- what a context says is known in it
abbrev pub IsKnown : List Formula → List Formula → Context → Statement → Type 0
IsKnown ax held c s = Derives ax (facts c ++ held) (erase s) × (statement_below 0 s ≡ true) × (statement_in_force (next c) s ≡ true)

abbrev AllKnown : List Formula → List Formula → Context → List Statement → Type 0
AllKnown ax held c [] = Unit {0}
AllKnown ax held c (s ∷ ss) = IsKnown ax held c s × AllKnown ax held c ss

stated_known : (ax held : List Formula) (c : Context) → IsInOrder held c → (s : Statement) → Contains (statements_in c) s → IsKnown ax held c s
stated_known ax held c order s is =
    let known : List Formula = map literal_formula (known_from 1 c.constants) in
    let g : List Formula = facts c ++ held in
    let there : Contains g (erase s) = Contains-append_left (facts c) held (erase s) (Contains-append_right known (map erase (statements_in c)) (erase s) (mapped_member erase s (statements_in c) is)) in
    let w : Stands (next c) s = stands_out (next c) s (member_passes (is_standing (next c)) (statements_in c) s (all_right (is_standing (next c)) (map literal_statement (known_from 1 c.constants)) (statements_in c) order.said) is) in
    (each_itself ax g (erase s) there, w.1, w.0)

labelled_known : (ax held : List Formula) (c : Context) → IsInOrder held c → (l : LabelledStatement) → Contains c.labelled l → IsKnown ax held c l.statement
labelled_known ax held c order l is =
    let labels : List Statement = map statement_of c.labelled in
    let before : List Statement = just_before c.previous in
    stated_known ax held c order l.statement
    (Contains-append_left (labels ++ before) (letter_types (map letter_of c.letters)) l.statement (Contains-append_left labels before l.statement (mapped_member statement_of l c.labelled is)))

previous_known : (ax held : List Formula) (c : Context) → IsInOrder held c → (s : Statement) → Contains (just_before c.previous) s → IsKnown ax held c s
previous_known ax held c order s is =
    let labels : List Statement = map statement_of c.labelled in
    let before : List Statement = just_before c.previous in
    stated_known ax held c order s (Contains-append_left (labels ++ before) (letter_types (map letter_of c.letters)) s (Contains-append_right labels before s is))

theorem_known : (ax held : List Formula) (e : Environment) → AreTheorems ax held e → (c : Context) → (s : CitedStatement) → Contains e.theorems s → IsKnown ax held c s.statement
theorem_known ax held e theorems c s is =
    let t : Derives ax held (erase s.statement) × (statement_below 0 s.statement ≡ true) × (statement_in_force 0 s.statement ≡ true) = theorems s is in
    let g : List Formula = facts c ++ held in
    (cut_each ax g held (erase s.statement) (each_right ax g (facts c) held (each_itself ax g)) t.0, t.1, more_in_force 0 (next c) s.statement (omega arith) t.2)

-- what a number cites
cited_in : (ax held : List Formula) (e : Environment) → AreTheorems ax held e → (c : Context) → (o : Option CitedStatement) → ((x : CitedStatement) → o ≡ Some x → Contains e.theorems x) → (s : Statement) → statement_in o ≡ Some s → IsKnown ax held c s
cited_in ax held e theorems c None within s is = absurd (none_some s is)
cited_in ax held e theorems c (Some x) within s is = subst (IsKnown ax held c) (some-inj x.statement s is) (theorem_known ax held e theorems c x (within x refl))

number_known : (ax held : List Formula) (e : Environment) → AreTheorems ax held e → (c : Context) → (article : Option ℕ) (definition : Bool) (number : Option ℕ) (s : Statement) → statement_numbered e article definition number ≡ Some s → IsKnown ax held c s
number_known ax held e theorems c None definition o s is = absurd (none_some s is)
number_known ax held e theorems c (Some a) definition None s is = absurd (none_some s is)
number_known ax held e theorems c (Some a) definition (Some n) s is =
    cited_in ax held e theorems c (find (is_numbered definition n) (filter (of_article a) e.theorems))
    (λ x found. kept_member (of_article a) x e.theorems (found_member (is_numbered definition n) x (filter (of_article a) e.theorems) found)) s is

tree_known : (ax held : List Formula) (e : Environment) → AreTheorems ax held e → (c : Context) → (article : Option ℕ) (n : NumberTree) (s : Statement) → cited_by_number e article n ≡ Some s → IsKnown ax held c s
tree_known ax held e theorems c article (Theorem w) s is = number_known ax held e theorems c article false (value_of w.spelling) s is
tree_known ax held e theorems c article (Definition place w) s is = number_known ax held e theorems c article true (value_of w.spelling) s is

front_known : (ax held : List Formula) (c : Context) (o : Option Statement) (r : Option (List Statement)) → ((s : Statement) → o ≡ Some s → IsKnown ax held c s) → ((ss : List Statement) → r ≡ Some ss → AllKnown ax held c ss) → (ss : List Statement) → in_front_of o r ≡ Some ss → AllKnown ax held c ss
front_known ax held c None r one all ss is = absurd (none_some ss is)
front_known ax held c (Some s) None one all ss is = absurd (none_some ss is)
front_known ax held c (Some s) (Some ts) one all ss is = subst (AllKnown ax held c) (some-inj (s ∷ ts) ss is) (one s refl, all ts refl)

numbers_known : (ax held : List Formula) (e : Environment) → AreTheorems ax held e → (c : Context) → (article : Option ℕ) (ns : List NumberTree) (ss : List Statement) → cited_by_numbers e article ns ≡ Some ss → AllKnown ax held c ss
numbers_known ax held e theorems c article [] ss is = subst (AllKnown ax held c) (some-inj [] ss is) tt
numbers_known ax held e theorems c article (n ∷ ns) ss is =
    front_known ax held c (cited_by_number e article n) (cited_by_numbers e article ns) (λ s one. tree_known ax held e theorems c article n s one) (λ ts all. numbers_known ax held e theorems c article ns ts all) ss is

-- what a reference cites
pub from_reverse : {X : Type 0} (x : X) (xs : List X) → Contains (reverse xs) x → Contains xs x
from_reverse x xs is =
    let within : is.0 < length xs = let e : length (reverse xs) ≡ length xs = length-reverse xs in omega (arith, is.1, e) in
    (length xs - 1 - is.0, omega (arith, within), sym (get_or-reverse xs is.0 x within) ∙ is.2)

alone_known : (ax held : List Formula) (c : Context) → IsInOrder held c → (o : Option LabelledStatement) → ((l : LabelledStatement) → o ≡ Some l → Contains c.labelled l) → (ss : List Statement) → labelled_alone o ≡ Some ss → AllKnown ax held c ss
alone_known ax held c order None within ss is = absurd (none_some ss is)
alone_known ax held c order (Some l) within ss is = subst (AllKnown ax held c) (some-inj (l.statement ∷ []) ss is) (labelled_known ax held c order l (within l refl), tt)

reference_known : (ax held : List Formula) (e : Environment) → AreTheorems ax held e → (c : Context) → IsInOrder held c → (r : ReferenceTree) (ss : List Statement) → cited_by e c r ≡ Some ss → AllKnown ax held c ss
reference_known ax held e theorems c order (Label w) ss is =
    alone_known ax held c order (labelled_as c w.spelling) (λ l found. from_reverse l c.labelled (found_member (has_label w.spelling) l (reverse c.labelled) found)) ss is
reference_known ax held e theorems c order (Numbered article colon ns) ss is = numbers_known ax held e theorems c (article_number article.spelling) (members ns) ss is

both_known : (ax held : List Formula) (c : Context) (ss ts : List Statement) → AllKnown ax held c ss → AllKnown ax held c ts → AllKnown ax held c (ss ++ ts)
both_known ax held c [] ts p q = q
both_known ax held c (s ∷ ss) ts p q = (p.0, both_known ax held c ss ts p.1 q)

same_cited : (ss ts : List Statement) (r : Result (List Statement) Place) → r ≡ Ok ss → r ≡ Ok ts → ss ≡ ts
same_cited ss ts r e f = cc

err_ok : (p : Place) (ss : List Statement) → Err p ≡ Ok ss → ⊥
err_ok p ss e = cc

with_known : (ax held : List Formula) (c : Context) (place : Place) (o : Option (List Statement)) (r : Result (List Statement) Place) → ((ss : List Statement) → o ≡ Some ss → AllKnown ax held c ss) → ((ss : List Statement) → r ≡ Ok ss → AllKnown ax held c ss) → (ss : List Statement) → with_cited place o r ≡ Ok ss → AllKnown ax held c ss
with_known ax held c place None r one all ss is = absurd (err_ok place ss is)
with_known ax held c place (Some ts) (Err p) one all ss is = absurd (err_ok p ss is)
with_known ax held c place (Some ts) (Ok us) one all ss is = subst (AllKnown ax held c) (same_cited (ts ++ us) ss (with_cited place (Some ts) (Ok us)) refl is) (both_known ax held c ts us (one ts refl) (all us refl))

cites_known : (ax held : List Formula) (e : Environment) → AreTheorems ax held e → (c : Context) → IsInOrder held c → (rs : List ReferenceTree) (ss : List Statement) → cites e c rs ≡ Ok ss → AllKnown ax held c ss
cites_known ax held e theorems c order [] ss is = subst (AllKnown ax held c) (same_cited [] ss (cites e c []) refl is) tt
cites_known ax held e theorems c order (r ∷ rs) ss is =
    with_known ax held c (place_of r) (cited_by e c r) (cites e c rs) (λ ts one. reference_known ax held e theorems c order r ts one) (λ ts all. cites_known ax held e theorems c order rs ts all) ss is

-- with the statement just before
front_of : (ax held : List Formula) (c : Context) (o : Option Statement) → ((s : Statement) → Contains (just_before o) s → IsKnown ax held c s) → (cited ss : List Statement) → AllKnown ax held c cited → in_front o cited ≡ Some ss → AllKnown ax held c ss
front_of ax held c None known cited ss all is = absurd (none_some ss is)
front_of ax held c (Some s) known cited ss all is = subst (AllKnown ax held c) (some-inj (s ∷ cited) ss is) (known s (0, omega arith, refl), all)

given_known : (ax held : List Formula) (c : Context) → IsInOrder held c → (linked : Bool) (cited ss : List Statement) → AllKnown ax held c cited → given linked c cited ≡ Some ss → AllKnown ax held c ss
given_known ax held c order false cited ss all is = subst (AllKnown ax held c) (some-inj cited ss is) all
given_known ax held c order true cited ss all is = front_of ax held c c.previous (λ s there. previous_known ax held c order s there) cited ss all is

each_known : (ax held : List Formula) (c : Context) (ss : List Statement) → AllKnown ax held c ss → (s : Statement) → Contains ss s → Derives ax (facts c ++ held) (erase s)
each_known ax held c [] all s is = absurd (none_in s is)
each_known ax held c (t ∷ ts) all s (zero, lt, e) = subst (λ u. Derives ax (facts c ++ held) (erase u)) e all.0.0
each_known ax held c (t ∷ ts) all s (suc i, lt, e) = each_known ax held c ts all.1 s (i, omega (arith, lt), e)

all_closed : (ax held : List Formula) (c : Context) (ss : List Statement) → AllKnown ax held c ss → list_all (statement_below 0) ss ≡ true
all_closed ax held c [] all = refl
all_closed ax held c (t ∷ ts) all = and_from (statement_below 0 t) (list_all (statement_below 0) ts) all.0.1 (all_closed ax held c ts all.1)

all_in_force : (ax held : List Formula) (c : Context) (ss : List Statement) → AllKnown ax held c ss → list_all (statement_in_force (next c)) ss ≡ true
all_in_force ax held c [] all = refl
all_in_force ax held c (t ∷ ts) all = and_from (statement_in_force (next c) t) (list_all (statement_in_force (next c)) ts) all.0.2 (all_in_force ax held c ts all.1)

pub given_law : GivenLaw
given_law ax held e theorems c order linked rs cited ss is g =
    let all : AllKnown ax held c ss = given_known ax held c order linked cited ss (cites_known ax held e theorems c order rs cited is) g in
    (each_known ax held c ss all, all_closed ax held c ss all, all_in_force ax held c ss all)

-- an obligation that is met
along_known : (ax h : List Formula) (ss : List Statement) → ((s : Statement) → Contains ss s → Derives ax h (erase s)) → Along ax h (map erase ss)
along_known ax h [] each = tt
along_known ax h (s ∷ ss) each = (each s (0, omega arith, refl), along_known ax h ss (λ t is. each t (later t s ss is)))

along_held : (ax held : List Formula) (cs : List Clause) → AreHeld ax held cs → Along ax held (map clause_formula cs)
along_held ax held [] each = tt
along_held ax held (k ∷ ks) each = (each k (0, omega arith, refl), along_held ax held ks (λ m is. each m (later m k ks is)))

usable_held : (ax held : List Formula) (clauses letters : List Clause) (n : ℕ) → AreHeld ax held clauses → AreHeld ax held letters → AreHeld ax held (take n clauses ++ letters)
usable_held ax held clauses letters n p q k is =
    elim (Contains-append_cases (take n clauses) letters k is) [ inl a ↦ p k (taken_member n k clauses a) | inr b ↦ q k b ]

duty_done : (ax held : List Formula) (cs : List Clause) (us : List Unfolding) → AreFounded ax held cs us → (c : Context) → IsInOrder held c → (usable : List Clause) → AreHeld ax held usable → (ss : List Statement) → AreKnown ax held c ss → (s : Statement) → Stands (next c) s → (duty : Duty) → IsDuty cs us c.constants ss s duty → IsDone ax usable duty → Derives ax (facts c ++ held) (erase s)
duty_done ax held cs us founded c order usable each ss known s stands (By p) asks done =
    let g : List Formula = facts c ++ held in
    joined_problem_law ax g cs c.constants us (granted ax held cs us c (rests_in ax held cs us founded c order)) founded.unfoldings (facts_in_force held c order) (known_closed held c order)
    ss known.1 (each_along ax g (map erase ss) (along_known ax g ss known.0)) s stands.0 stands.1 p asks (map clause_formula usable)
    (λ f is. cut_each ax g held f (each_right ax g (facts c) held (each_itself ax g)) (each_along ax held (map clause_formula usable) (along_held ax held usable each) f is)) done
duty_done ax held cs us founded c order usable each ss known s stands (From v) asks done = absurd asks

pub justified_law : JustifiedLaw
justified_law ax held cs us founded c order clauses letters p q ss known s stands place extent o is met =
    let same : AreHeld ax held o.letters = subst (AreHeld ax held) (sym is.letters_are) q in
    duty_done ax held cs us founded c order (clauses_for clauses o) (usable_held ax held clauses o.letters o.extent.clauses p same) ss known s stands o.duty is.duty_is met
