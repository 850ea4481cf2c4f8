-- A statement derives where the obligation of its justification is met.
use Rattle.std.proofs.Common.{◌≡◌, ◌<◌, ℕ, zero, suc, Bool, true, false, List, [], ◌∷◌, ◌++◌, refl, sym, ap, ◌∙◌, subst, arith, Option, Some, None}
use Rattle.std.specs.Prelude.{Result, Ok, Err, find}
use Rattle.std.specs.Prelude.{Contains}
use Rattle.std.proofs.lemmas.List.Elements.{Contains-append_left, Contains-append_right}
use Rattle.mz_core.specs.InForce.{statement_in_force}
use Rattle.mz_core.specs.TypedSequent.{erased_sequent}
use Rattle.mz_core.specs.declared.scheme.Scheme.{Scheme}
use Rattle.mz_items.specs.Closed.{scheme_closed}
use Rattle.mz_items.specs.SchemeRows.{scheme_sequent}
use Rattle.mz_environment.specs.Keys.{scheme_of_article}
use Rattle.mz_environment.specs.declared.cited.CitedScheme.{CitedScheme}
use Rattle.mz_environment.specs.declared.environment.Environment.{Environment}
use Rattle.mz_cited.specs.Cited.{article_number, value_of, members, cites}
use Rattle.mz_steps.specs.Premises.{given}
use Rattle.mz_tree_proof.specs.declared.references.ReferenceTree.{ReferenceTree}
use Rattle.mz_tree_proof.specs.declared.references.SchemeReferenceTree.{SchemeReferenceTree}
use Rattle.mz_tree_proof.specs.declared.references.SchemeReferenceTree.TheVariants.{Label as SchemeLabel, Numbered as SchemeNumbered}
use Rattle.mz_tree_proof.specs.declared.references.SimpleTree.TheVariants.{Nothing, By, From}
use Rattle.mz_obligations.specs.Done.{clauses_for, IsDone}
use Rattle.mz_obligations.specs.declared.obligation.SchemeVerdict.TheVariants.{Fits}
use Rattle.mz_steps_laws.specs.Facts.{Rests}
use Rattle.mz_steps_laws.proofs.FactLemmas.{granted}
use Rattle.mz_block_laws.specs.Met.{IsDerivedSequent}
use Rattle.mz_block_laws.proofs.OrderLemmas.{rests_in}
use Rattle.mz_given.specs.Schemes.{is_numbered, scheme_in, scheme_numbered, scheme_labelled, scheme_cited, scheme_place}
use Rattle.mz_given.specs.Given.{premise_references, as_statements, by_scheme, cited_in, statements_given, behind_some, given_in}
use Rattle.mz_given.specs.declared.given.Given.{Given}
use Rattle.mz_given.specs.declared.given.Given.TheVariants.{ByStatements, ByScheme}
use Rattle.mz_from.specs.Verdict.{IsVerdict}
use Rattle.mz_from_laws.proofs.FromProofs.{from_law}
use Rattle.std.specs.List.{list_all, filter}
use Rattle.std.proofs.lemmas.Bool.{and_from}
use Rattle.mz_base.specs.declared.place.Place.{Place}
use Rattle.mz_logic.specs.Formula.{Formula}
use Rattle.mz_logic.specs.Derives.{Derives}
use Rattle.mz_core.specs.Statement.{Statement}
use Rattle.mz_core.specs.Erasure.{erase}
use Rattle.mz_core.specs.declared.outcome.Left.{Left}
use Rattle.mz_context.specs.Context.{next}
use Rattle.mz_context.specs.declared.context.Context.{Context}
use Rattle.mz_ground.specs.declared.clause.Clause.{Clause}
use Rattle.mz_types.specs.Known.{letters_clauses, typing}
use Rattle.mz_tree_proof.specs.declared.references.SimpleTree.{SimpleTree}
use Rattle.mz_tree_proof.specs.declared.equality_step.EqualityStepTree.{EqualityStepTree}
use Rattle.mz_obligations.specs.declared.obligation.Extent.{Extent}
use Rattle.mz_obligations.specs.declared.obligation.Obligation.{Obligation}
use Rattle.mz_steps_laws.specs.Facts.{facts}
use Rattle.mz_justified.specs.Justified as justified
use Rattle.mz_justified.specs.Justified.{Grounds, Owes, Justified}
use Rattle.mz_justified.specs.declared.proof_fault.ProofRefusal.{ProofRefusal}
use Rattle.mz_block_laws.specs.Orders.{Stands}
use Rattle.mz_block_laws.specs.Met.{IsMet, AreMet, AreKnown}
use Rattle.mz_block_laws.proofs.MetProofs.{given_law, justified_law, found_member, kept_member}
use Rattle.mz_walk.specs.Walked.{Walked, behind}
use Rattle.mz_walk.specs.Introductions as introductions
use Rattle.mz_walk.specs.Introductions.{OwesEach, JustifiesEach}
use Rattle.mz_walk.specs.Compact as compact
use Rattle.mz_walk.specs.Compact.{place_behind, JustifiesSides}
use Rattle.mz_walk_laws.specs.Grounds.{Basis, IsGrounded, IsProper}
use Rattle.mz_walk_laws.proofs.Outcomes.{WhereOk, WhereMade, made_behind, made_mapped}
use Rattle.mz_walk_laws.proofs.PerformLemmas.{letters_held, founded_expansions}

-- obligations in two lists
pub met_left : (ax : List Formula) (cl : List Clause) (os ps : List Obligation) → AreMet ax cl (os ++ ps) → AreMet ax cl os
met_left ax cl os ps met o is = met o (Contains-append_left os ps o is)

pub met_right : (ax : List Formula) (cl : List Clause) (os ps : List Obligation) → AreMet ax cl (os ++ ps) → AreMet ax cl ps
met_right ax cl os ps met o is = met o (Contains-append_right os ps o is)

pub met_first : (ax : List Formula) (cl : List Clause) (o : Obligation) (ps : List Obligation) → AreMet ax cl (o ∷ ps) → IsMet ax cl o
met_first ax cl o ps met = met o (0, omega arith, refl)

pub met_rest : (ax : List Formula) (cl : List Clause) (o : Obligation) (ps : List Obligation) → AreMet ax cl (o ∷ ps) → AreMet ax cl ps
met_rest ax cl o ps met x is = met x (suc is.0, omega (arith, is.1), is.2)

-- what is given is known; a scheme that is given derives, and has no constant and no loose index
abbrev pub GivenKnown : Basis → List Formula → Context → Given → Type 0
GivenKnown b held c (ByStatements ss) = AreKnown b.axioms held c ss
GivenKnown b held c (ByScheme x ss) = IsDerivedSequent b.axioms (erased_sequent (scheme_sequent x)) × (scheme_closed x ≡ true) × AreKnown b.axioms held c ss

no_given : (g : Given) → None ≡ Some g → ⊥
no_given g h = cc

same_given : (g h : Given) → Some g ≡ Some h → g ≡ h
same_given g h e = cc

same_cited : (g h : Given) (r : Result Given Place) → r ≡ Ok g → r ≡ Ok h → g ≡ h
same_cited g h r e f = cc

not_cited : (p : Place) (g : Given) → Err p ≡ Ok g → ⊥
not_cited p g e = cc

out_of_statements : (b : Basis) (held : List Formula) (c : Context) (o : Option (List Statement)) → ((ss : List Statement) → o ≡ Some ss → AreKnown b.axioms held c ss) → (g : Given) → statements_given o ≡ Some g → GivenKnown b held c g
out_of_statements b held c None known g e = absurd (no_given g e)
out_of_statements b held c (Some ss) known g e = subst (GivenKnown b held c) (same_given (ByStatements ss) g e) (known ss refl)

statements_known : (W : Context → Type 0) (b : Basis) (held : List Formula) → IsGrounded b held → (c : Context) → IsProper W b held c → (linked : Bool) (rs : List ReferenceTree) (r : Result (List Statement) Place) → r ≡ cites b.env c rs → (cited : Given) → as_statements r ≡ Ok cited → (g : Given) → given_in linked c cited ≡ Some g → GivenKnown b held c g
statements_known W b held g c p linked rs (Err place) same cited e y i = absurd (not_cited place cited e)
statements_known W b held g c p linked rs (Ok ss) same cited e y i =
    let there : statements_given (given linked c ss) ≡ Some y = ap (given_in linked c) (same_cited (ByStatements ss) cited (as_statements (Ok ss)) refl e) ∙ i in
    out_of_statements b held c (given linked c ss) (λ us h. given_law b.axioms held b.env g.theorems c p.order linked rs ss us (sym same) h) y there

-- a scheme that is cited may be cited
no_scheme : (x : Scheme) → None ≡ Some x → ⊥
no_scheme x h = cc

same_scheme : (x y : Scheme) → Some x ≡ Some y → x ≡ y
same_scheme x y e = cc

numbered_scheme : (o : Option CitedScheme) (x : Scheme) → scheme_in o ≡ Some x → (y : CitedScheme) × (o ≡ Some y) × (y.scheme ≡ x)
numbered_scheme None x e = absurd (no_scheme x e)
numbered_scheme (Some y) x e = (y, refl, same_scheme y.scheme x e)

scheme_member : (e : Environment) (article number : Option ℕ) (x : Scheme) → scheme_numbered e article number ≡ Some x → (y : CitedScheme) × Contains e.schemes y × (y.scheme ≡ x)
scheme_member e None number x h = absurd (no_scheme x h)
scheme_member e (Some a) None x h = absurd (no_scheme x h)
scheme_member e (Some a) (Some n) x h =
    let found : (y : CitedScheme) × (find (is_numbered n) (filter (scheme_of_article a) e.schemes) ≡ Some y) × (y.scheme ≡ x) = numbered_scheme (find (is_numbered n) (filter (scheme_of_article a) e.schemes)) x h in
    (found.0, kept_member (scheme_of_article a) found.0 e.schemes (found_member (is_numbered n) found.0 (filter (scheme_of_article a) e.schemes) found.1), found.2)

cited_scheme : (e : Environment) (c : Context) (t : SchemeReferenceTree) (x : Scheme) → scheme_cited e c t ≡ Some x → (y : CitedScheme) × Contains e.schemes y × (y.scheme ≡ x)
cited_scheme e c (SchemeLabel w) x h = scheme_member e (Some c.article) (scheme_labelled c w.spelling) x h
cited_scheme e c (SchemeNumbered article colon sch number) x h = scheme_member e (article_number article.spelling) (value_of number.spelling) x h

behind_scheme : (b : Basis) (held : List Formula) (c : Context) (o : Option (List Statement)) (x : Scheme) (ss : List Statement) → GivenKnown b held c (ByScheme x ss) → (g : Given) → behind_some o (ByScheme x ss) ≡ Some g → GivenKnown b held c g
behind_scheme b held c None x ss known g e = absurd (no_given g e)
behind_scheme b held c (Some us) x ss known g e = subst (GivenKnown b held c) (same_given (ByScheme x ss) g e) known

scheme_known : (W : Context → Type 0) (b : Basis) (held : List Formula) → IsGrounded b held → (c : Context) → IsProper W b held c → (linked : Bool) (t : SchemeReferenceTree) (rs : List ReferenceTree) (place : Place) (o : Option Scheme) → o ≡ scheme_cited b.env c t → (r : Result (List Statement) Place) → r ≡ cites b.env c rs → (cited : Given) → by_scheme place o r ≡ Ok cited → (g : Given) → given_in linked c cited ≡ Some g → GivenKnown b held c g
scheme_known W b held g c p linked t rs place None found r same cited e y i = absurd (not_cited place cited e)
scheme_known W b held g c p linked t rs place (Some x) found (Err q) same cited e y i = absurd (not_cited q cited e)
scheme_known W b held g c p linked t rs place (Some x) found (Ok ss) same cited e y i =
    let member : (z : CitedScheme) × Contains b.env.schemes z × (z.scheme ≡ x) = cited_scheme b.env c t x (sym found) in
    let held_scheme : IsDerivedSequent b.axioms (erased_sequent (scheme_sequent member.0.scheme)) × (scheme_closed member.0.scheme ≡ true) = g.schemes member.0 member.1 in
    let derived : IsDerivedSequent b.axioms (erased_sequent (scheme_sequent x)) = subst (λ z. IsDerivedSequent b.axioms (erased_sequent (scheme_sequent z))) member.2 held_scheme.0 in
    let closed : scheme_closed x ≡ true = subst (λ z. scheme_closed z ≡ true) member.2 held_scheme.1 in
    let known : AreKnown b.axioms held c ss = given_law b.axioms held b.env g.theorems c p.order false rs ss ss (sym same) refl in
    behind_scheme b held c (given linked c []) x ss (derived, closed, known) y (ap (given_in linked c) (same_cited (ByScheme x ss) cited (by_scheme place (Some x) (Ok ss)) refl e) ∙ i)

tree_known : (W : Context → Type 0) (b : Basis) (held : List Formula) → IsGrounded b held → (c : Context) → IsProper W b held c → (linked : Bool) (t : SimpleTree) (cited : Given) → cited_in b.env c t ≡ Ok cited → (g : Given) → given_in linked c cited ≡ Some g → GivenKnown b held c g
tree_known W b held g c p linked Nothing cited e y i = statements_known W b held g c p linked [] (Ok []) refl cited e y i
tree_known W b held g c p linked (By by rs) cited e y i = statements_known W b held g c p linked (members rs) (cites b.env c (members rs)) refl cited e y i
tree_known W b held g c p linked (From from t ps) cited e y i = scheme_known W b held g c p linked t (premise_references ps) (scheme_place t) (scheme_cited b.env c t) refl (cites b.env c (premise_references ps)) refl cited e y i

pub grounds_known : (W : Context → Type 0) (b : Basis) (held : List Formula) → IsGrounded b held → (c : Context) → IsProper W b held c → (first behind : Place) (linked : Bool) (t : SimpleTree) (l : Left) (o : Result Given ProofRefusal) (m : Left) → Grounds b.env c first linked behind t l o m → WhereOk o (GivenKnown b held c)
grounds_known W b held g c p first behind linked t l o m (justified.follows_nothing after h) = tt
grounds_known W b held g c p first behind linked t l o m (justified.too_many ss after h k) = tt
grounds_known W b held g c p first behind linked t l o m (justified.cites_nothing ss between after place h k j) = tt
grounds_known W b held g c p first behind linked t l o m (justified.grounded cited y after h k i) = tree_known W b held g c p linked t cited k y i

-- what is owed derives where it is met
pub owed_derives : (W : Context → Type 0) (b : Basis) (held : List Formula) → IsGrounded b held → (c : Context) → IsProper W b held c → (at : Extent) (given : Given) → GivenKnown b held c given → (s : Statement) → Stands (next c) s → (place : Place) (x : Obligation) → Owes b.env at c given s place x → IsMet b.axioms b.clauses x → Derives b.axioms (facts c ++ held) (erase s)
owed_derives W b held g c p at (ByStatements ss) known s stands place x owes met =
    justified_law b.axioms held (typing b.env c) b.env.expansions (founded_expansions b held g c p.letters) c p.order b.clauses (letters_clauses c.letters) g.clauses (letters_held b held g c p.letters) ss known s stands place at x owes met
owed_derives W b held g c p at (ByScheme y ss) known s stands place x owes met =
    let rests : Rests b.axioms held (typing b.env c) b.env.expansions c = rests_in b.axioms held (typing b.env c) b.env.expansions (founded_expansions b held g c p.letters) c p.order in
    let fits : owes.verdict ≡ Fits = subst (IsDone b.axioms (clauses_for b.clauses x)) owes.duty_is met in
    let found : IsVerdict (typing b.env c) c.constants y ss s Fits = subst (IsVerdict (typing b.env c) c.constants y ss s) fits owes.found in
    let in_force : list_all (statement_in_force (next c)) (s ∷ ss) ≡ true = and_from (statement_in_force (next c) s) (list_all (statement_in_force (next c)) ss) stands.0 known.2.2 in
    from_law b.axioms (facts c ++ held) (typing b.env c) c.constants (granted b.axioms held (typing b.env c) b.env.expansions c rests) rests.in_force y known.1 known.0 ss s in_force known.2.0 found

pub justified_derives : (W : Context → Type 0) (b : Basis) (held : List Formula) → IsGrounded b held → (c : Context) → IsProper W b held c → (at : Extent) (first behind : Place) (linked : Bool) (t : SimpleTree) (s : Statement) → Stands (next c) s → (l : Left) (o : Result Obligation ProofRefusal) (m : Left) → Justified b.env at c first linked behind t s l o m → WhereOk o (λ x. IsMet b.axioms b.clauses x → Derives b.axioms (facts c ++ held) (erase s))
justified_derives W b held g c p at first behind linked t s stands l o m (justified.too_large after n) = tt
justified_derives W b held g c p at first behind linked t s stands l o m (justified.not_grounded r after n h) = tt
justified_derives W b held g c p at first behind linked t s stands l o m (justified.owed ss x after n h k) =
    owed_derives W b held g c p at ss (grounds_known W b held g c p first behind linked t l (Ok ss) after h) s stands (justified.place_of behind t) x k

-- several statements by the same references
abbrev pub AllDerived : List Formula → List Formula → List Statement → Type 0
AllDerived ax g ss = (s : Statement) → Contains ss s → Derives ax g (erase s)

none_derived : (ax g : List Formula) → AllDerived ax g []
none_derived ax g s is = let lt : is.0 < 0 = is.1 in absurd (omega arith)

more_derived : (ax g : List Formula) (t : Statement) (ts : List Statement) → Derives ax g (erase t) → AllDerived ax g ts → AllDerived ax g (t ∷ ts)
more_derived ax g t ts d all s (zero, lt, e) = subst (λ u. Derives ax g (erase u)) e d
more_derived ax g t ts d all s (suc i, lt, e) = all s (i, omega (arith, lt), e)

abbrev pub AllStand : ℕ → List Statement → Type 0
AllStand n [] = Unit {0}
AllStand n (s ∷ ss) = Stands n s × AllStand n ss

owed_each : (W : Context → Type 0) (b : Basis) (held : List Formula) → IsGrounded b held → (c : Context) → IsProper W b held c → (at : Extent) (given : Given) → GivenKnown b held c given → (place : Place) (ss : List Statement) → AllStand (next c) ss → (os : List Obligation) → OwesEach b.env at c given place ss os → AreMet b.axioms b.clauses os → AllDerived b.axioms (facts c ++ held) ss
owed_each W b held g c p at given known place ss stand os introductions.owes_none met = none_derived b.axioms (facts c ++ held)
owed_each W b held g c p at given known place ss stand os (introductions.owes_more s ts o ps h more) met =
    more_derived b.axioms (facts c ++ held) s ts (owed_derives W b held g c p at given known s stand.0 place o h (met_first b.axioms b.clauses o ps met))
    (owed_each W b held g c p at given known place ts stand.1 ps more (met_rest b.axioms b.clauses o ps met))

pub each_justified : (W : Context → Type 0) (b : Basis) (held : List Formula) → IsGrounded b held → (c : Context) → IsProper W b held c → (at : Extent) (first place : Place) (linked : Bool) (t : SimpleTree) (ss : List Statement) → AllStand (next c) ss → (l : Left) (w : Walked Left) → JustifiesEach b.env at c first linked place t ss l w → WhereMade w (λ os m. AreMet b.axioms b.clauses os → AllDerived b.axioms (facts c ++ held) ss)
each_justified W b held g c p at first place linked t ss stand l w (introductions.none_owed x) = λ met. none_derived b.axioms (facts c ++ held)
each_justified W b held g c p at first place linked t ss stand l w (introductions.too_large s ts x y) = tt
each_justified W b held g c p at first place linked t ss stand l w (introductions.too_many s ts x y h) = tt
each_justified W b held g c p at first place linked t ss stand l w (introductions.not_grounded s ts x m after r y h k) = tt
each_justified W b held g c p at first place linked t ss stand l w (introductions.each_owed s ts given x m after os y h k owes) =
    owed_each W b held g c p at given (grounds_known W b held g c p first place linked t m (Ok given) after k) (justified.place_of place t) (s ∷ ts) stand os owes

-- the further equations of an iterative equality
pub sides_justified : (W : Context → Type 0) (b : Basis) (held : List Formula) → IsGrounded b held → (c : Context) → IsProper W b held c → (at : Extent) (first semicolon : Place) (ks : List EqualityStepTree) (ss : List Statement) → AllStand (next c) ss → (l : Left) (w : Walked Left) → JustifiesSides b.env at c first semicolon ks ss l w → WhereMade w (λ os m. AreMet b.axioms b.clauses os → AllDerived b.axioms (facts c ++ held) ss)
sides_justified W b held g c p at first semicolon ks ss stand l w (compact.none_owed x) = λ met. none_derived b.axioms (facts c ++ held)
sides_justified W b held g c p at first semicolon ks ss stand l w (compact.not_justified k js s ts x after r h) = tt
sides_justified W b held g c p at first semicolon ks ss stand l w (compact.one_more k js s ts x after o q h more) =
    let one : IsMet b.axioms b.clauses o → Derives b.axioms (facts c ++ held) (erase s) = justified_derives W b held g c p at first (place_behind js semicolon) false k.simple s stand.0 x (Ok o) after h in
    made_behind (λ os m. AreMet b.axioms b.clauses os → AllDerived b.axioms (facts c ++ held) (s ∷ ts)) (o ∷ []) q
    (made_mapped (λ os m. AreMet b.axioms b.clauses os → AllDerived b.axioms (facts c ++ held) ts) (λ os m. AreMet b.axioms b.clauses (o ∷ os) → AllDerived b.axioms (facts c ++ held) (s ∷ ts)) q
    (λ os m rest met. more_derived b.axioms (facts c ++ held) s ts (one (met_first b.axioms b.clauses o os met)) (rest (met_rest b.axioms b.clauses o os met)))
    (sides_justified W b held g c p at first semicolon js ts stand.1 after q more))
