-- Where an article stands soundly, it does so behind a scheme.
use Rattle.std.proofs.Common.{◌≡◌, ◌+◌, inl, inr, ℕ, true, false, List, [], ◌∷◌, ◌++◌, map, refl, sym, ap, subst}
use Rattle.std.specs.Prelude.{◌&&◌, Contains}
use Rattle.std.specs.List.{list_all}
use Rattle.std.proofs.lemmas.Bool.{and_from}
use Rattle.std.proofs.lemmas.List.Elements.{Contains-append_left, Contains-append_right, Contains-append_cases}
use Rattle.mz_logic.specs.Formula as formula
use Rattle.mz_logic.specs.Formula.{Formula}
use Rattle.mz_logic.specs.Connectives.{implies}
use Rattle.mz_logic.specs.Derives.{Derives}
use Rattle.mz_logic.specs.declared.sequent.Sequent.{Sequent}
use Rattle.mz_logic.proofs.Rules.{hypothesis}
use Rattle.mz_logic.proofs.Each.{implies_in, implies_out, premises_within}
use Rattle.mz_core.specs.Closed.{term_under, statement_under}
use Rattle.mz_core.specs.Erasure.{erase}
use Rattle.mz_core.specs.Statement.{Statement}
use Rattle.mz_core.specs.StatementForms.{implication}
use Rattle.mz_core.specs.TypedSequent.{erased_sequent}
use Rattle.mz_core.specs.declared.item.Item.TheVariants as item
use Rattle.mz_core.specs.declared.outcome.Left.{Left}
use Rattle.mz_core.specs.declared.scheme.Scheme.{Scheme}
use Rattle.mz_core.proofs.AllLemmas.{implication_all}
use Rattle.mz_core.proofs.LawProofs.{erasure_of_negation}
use Rattle.mz_ground.specs.Table.{Extends}
use Rattle.mz_ground.specs.declared.clause.Clause.{Clause}
use Rattle.mz_ground.proofs.ListLemmas.{contains_first, contains_later, contains_cases, contains_one, contains_none, contains_map, extends_further}
use Rattle.mz_items.specs.Closed.{item_closed, letter_closed}
use Rattle.mz_items.specs.Items.{owes}
use Rattle.mz_items.specs.SchemeRows.{scheme_sequent}
use Rattle.mz_context.specs.Context.{next}
use Rattle.mz_context.specs.declared.context.Context.{Context}
use Rattle.mz_context.specs.declared.labelled.LabelledStatement.{LabelledStatement}
use Rattle.mz_context.specs.declared.letters.NamedLetter.{NamedLetter}
use Rattle.mz_choice_laws.proofs.ListParts.{all-from}
use Rattle.mz_names.specs.Closing.{for_all}
use Rattle.mz_steps.specs.Changes.{statement_of}
use Rattle.mz_steps_laws.specs.Facts.{facts}
use Rattle.mz_obligations.specs.declared.obligation.Obligation.{Obligation}
use Rattle.mz_block_laws.specs.Orders.{AllStand}
use Rattle.mz_block_laws.specs.Met.{AreMet}
use Rattle.mz_walk.specs.Walked as walked
use Rattle.mz_walk.specs.Walked.{Walked}
use Rattle.mz_walk.specs.Walk.{Justifies}
use Rattle.mz_walk_laws.specs.Grounds.{ReadsWell, IsGrounded, IsProper}
use Rattle.mz_walk_laws.specs.MadeLaws.{AreMadeAt}
use Rattle.mz_walk_laws.proofs.WalkProofs as walk
use Rattle.mz_walk_laws.proofs.MadeProofs.{justification_made_law}
use Rattle.mz_level_laws.specs.Level.{IsLevel}
use Rattle.mz_level_laws.proofs.LevelProofs as level_proofs
use Rattle.mz_standing.specs.Standing.{extent_of, clauses_of, with_left, with_context, with_item, behind_scheme}
use Rattle.mz_standing.specs.declared.standing.Standing.{Standing}
use Rattle.mz_standing_laws.specs.Owed.{IsOwed}
use Rattle.mz_standing_laws.specs.Soundly.{Setting, axioms_at, AreDecided, StandsSoundly, basis}
use Rattle.mz_standing_laws.specs.Kinds.{HasGrown, KeepsSoundly}
use Rattle.mz_standing_laws.proofs.GroundProofs.{grounded_law, decided_law}
use Rattle.mz_standing_laws.proofs.ItemProofs.{left_law}
use Rattle.mz_standing_laws.proofs.HeadingProofs as headings
use Rattle.mz_taken.specs.Taken.{Taken, Made, Refused}
use Rattle.mz_tree_item.specs.declared.schemes.SchemeTree.{SchemeTree}
use Rattle.mz_scheme_items.specs.StatesScheme as rule
use Rattle.mz_letters.specs.Aside.{without_letters}
use Rattle.mz_scheme_items.specs.StatesScheme.{letter_in, SchemeHeading, scheme_item, scheme_stated, TakesHeading, JustifiesScheme, StatesScheme}
use Rattle.mz_scheme_items.proofs.BesideProofs.{IsBeside, heading_beside}
use Rattle.mz_scheme_laws.proofs.LetterProofs.{clauses_closed, clauses_held}
use Rattle.mz_scheme_laws.proofs.ScopeProofs.{scope_begun, IsReadScheme, heading_law}
use Rattle.mz_scheme_laws.proofs.InsideProofs.{inside, inside_so, letters_said, presumed, inside_fact, presumed_closed, inside_order, premises_level}

-- each statement implies what comes of the others, in the end the last one

abbrev implications : List Statement → Statement → Statement
implications [] t = t
implications (s ∷ ss) t = implication s (implications ss t)

implications_closed : (ss : List Statement) (t : Statement) → ((s : Statement) → Contains ss s → statement_under 0 s ≡ true) → statement_under 0 t ≡ true → statement_under 0 (implications ss t) ≡ true
implications_closed [] t each h = h
implications_closed (s ∷ ss) t each h = implication_all term_under 0 s (implications ss t) (each s (contains_first s ss)) (implications_closed ss t (λ u is. each u (contains_later s u ss is)) h)

erase-implication : (s t : Statement) → erase (implication s t) ≡ implies (erase s) (erase t)
erase-implication s t = ap (λ f. formula.Not (formula.And (erase s) f)) (erasure_of_negation t)

first_behind : (f : Formula) (fs gs : List Formula) (k : Formula) → Contains (f ∷ (fs ++ gs)) k → Contains (fs ++ f ∷ gs) k
first_behind f fs gs k is = elim (contains_cases f k (fs ++ gs) is) [
  | inl same ↦ Contains-append_right fs (f ∷ gs) k (subst (Contains (f ∷ gs)) same (contains_first f gs))
  | inr later ↦ elim (Contains-append_cases fs gs k later) [
    | inl front ↦ Contains-append_left fs (f ∷ gs) k front
    | inr back ↦ Contains-append_right fs (f ∷ gs) k (contains_later f k gs back)
  ]
]

implied_in : (ax g : List Formula) (ss : List Statement) (t : Statement) → Derives ax (map erase ss ++ g) (erase t) → Derives ax g (erase (implications ss t))
implied_in ax g [] t d = d
implied_in ax g (s ∷ ss) t d =
    subst (Derives ax g) (sym (erase-implication s (implications ss t)))
    (implies_in ax g (erase s) (erase (implications ss t)) (implied_in ax (erase s ∷ g) ss t (premises_within (erase s ∷ (map erase ss ++ g)) (map erase ss ++ erase s ∷ g) (erase t) ax (first_behind (erase s) (map erase ss) g) d)))

implied_out : (ax g : List Formula) (ss : List Statement) (t : Statement) → ((f : Formula) → Contains (map erase ss) f → Contains g f) → Derives ax g (erase (implications ss t)) → Derives ax g (erase t)
implied_out ax g [] t among d = d
implied_out ax g (s ∷ ss) t among d =
    implied_out ax g ss t (λ f is. among f (contains_later (erase s) f (map erase ss) is))
    (implies_out ax g (erase s) (erase (implications ss t)) (subst (Derives ax g) (erase-implication s (implications ss t)) d) (hypothesis ax g (erase s) (among (erase s) (contains_first (erase s) (map erase ss)))))

-- the scheme is owed

abbrev scheme_in : SchemeHeading → Scheme
scheme_in h = record { letters = map letter_in h.context.letters; premises = map statement_of h.premises; conclusion = h.conclusion.closed }

closed_letters : (least : ℕ) (h : SchemeHeading) → IsReadScheme least h → (l : NamedLetter) → Contains h.context.letters l → letter_closed l.letter ≡ true
closed_letters least h read = read.in_scope.level.is_whole.letters

closed_presumed : (least : ℕ) (h : SchemeHeading) → IsReadScheme least h → (s : Statement) → Contains (presumed h.context h.premises) s → statement_under 0 s ≡ true
closed_presumed least h read = presumed_closed h.context h.premises (closed_letters least h read) read.premises

scheme_closed : (least : ℕ) (h : SchemeHeading) → IsReadScheme least h → item_closed (scheme_item h) ≡ true
scheme_closed least h read =
    and_from (list_all letter_closed (map letter_in h.context.letters) && list_all (statement_under 0) (map statement_of h.premises)) (statement_under 0 h.conclusion.closed)
    (and_from (list_all letter_closed (map letter_in h.context.letters)) (list_all (statement_under 0) (map statement_of h.premises))
    (all-from letter_closed (map letter_in h.context.letters)
    (λ k is.
    let from = contains_map letter_in h.context.letters k is in
    subst (λ x. letter_closed x ≡ true) from.2 (closed_letters least h read from.0 from.1)))
    (all-from (statement_under 0) (map statement_of h.premises) (λ s is. closed_presumed least h read s (Contains-append_right (letters_said h.context) (map statement_of h.premises) s is))))
    read.conclusion.2

scheme_owed : (ax : List Formula) (least : ℕ) (h : SchemeHeading) → IsReadScheme least h → Derives ax (map erase (presumed h.context h.premises)) (erase h.conclusion.closed) → IsOwed ax (scheme_item h)
unfolding owes
scheme_owed ax least h read derives = record {
  closed = scheme_closed least h read;
  own = refl;
  owed = λ q is. subst (λ (p : Sequent). Derives ax p.premises p.conclusion) (contains_one (erased_sequent (scheme_sequent (scheme_in h))) q is) derives;
}

-- the justification in the context of the proof

justified_inside : (s : Standing) (t : SchemeTree) (h : SchemeHeading) (o : Walked Left) → IsBeside (without_letters s.context) h.context → JustifiesScheme s t h o →
    Justifies s.environment (extent_of s) (inside s.context h.context h.premises) t.scheme false t.semicolon t.just h.conclusion h.left o
justified_inside s t h o beside justifies =
    subst (λ (c : Context). Justifies s.environment (extent_of s) c t.scheme false t.semicolon t.just h.conclusion h.left o) (inside_so s.context h.context h.premises beside) justifies

-- its conclusion derives there
derived_inside : (g : Setting) (s : Standing) (t : SchemeTree) (h : SchemeHeading) (os : List Obligation) (after : Left) (final : List Clause) → StandsSoundly g s → IsReadScheme (next s.context) h → IsBeside (without_letters s.context) h.context →
    JustifiesScheme s t h (walked.Made os after) → Extends s.clauses final → AreDecided final os → Derives (axioms_at g s) (facts (inside s.context h.context h.premises) ++ map erase (letters_said h.context)) (erase h.conclusion.closed)
derived_inside g s t h os after final sound read beside justifies grows decided =
    let c : Context = s.context in
    let d : Context = h.context in
    let ps : List LabelledStatement = h.premises in
    let ax : List Formula = axioms_at g s in
    let held : List Formula = map erase (letters_said d) in
    let reads : ReadsWell s.environment IsLevel = level_proofs.reading_law s.environment sound.closed_so in
    let letters : (l : NamedLetter) → Contains d.letters l → letter_closed l.letter ≡ true = closed_letters (next c) h read in
    let there = justified_inside s t h (walked.Made os after) beside justifies in
    let made : AreMadeAt (extent_of s) d.letters os = justification_made_law s.environment (extent_of s) (inside c d ps) t.scheme t.semicolon false t.just h.conclusion h.left after os there in
    let met : AreMet ax s.clauses os = decided_law g s final d.letters os sound grows (clauses_closed d.letters letters) made decided ax in
    let grounded : IsGrounded (basis ax d.letters s) held = grounded_law g s ax held d.letters sound (λ k has. has) letters (clauses_held ax d.letters) in
    let level : IsLevel (inside c d ps) = subst IsLevel (inside_so c d ps beside) (premises_level s.environment reads d ps read.in_scope.level read.premises) in
    let proper : IsProper IsLevel (basis ax d.letters s) held (inside c d ps) = record { is_whole = level; order = inside_order c d ps sound.order (closed_presumed (next c) h read); letters = refl } in
    let stands = read.conclusion in
    walk.justification_law IsLevel (basis ax d.letters s) reads held grounded (inside c d ps) proper h.conclusion
    (subst (λ n. AllStand n h.conclusion.variables h.conclusion.inner) read.in_scope.first stands.0) (subst (λ n. h.conclusion.closed ≡ for_all n h.conclusion.variables h.conclusion.inner) read.in_scope.first stands.1)
    (extent_of s) t.scheme t.semicolon false t.just h.left after os there met

-- and so its sequent does
derived_scheme : (g : Setting) (s : Standing) (t : SchemeTree) (h : SchemeHeading) (os : List Obligation) (after : Left) (final : List Clause) → StandsSoundly g s → IsReadScheme (next s.context) h → IsBeside (without_letters s.context) h.context →
    JustifiesScheme s t h (walked.Made os after) → Extends s.clauses final → AreDecided final os → Derives (axioms_at g s) (map erase (presumed h.context h.premises)) (erase h.conclusion.closed)
derived_scheme g s t h os after final sound read beside justifies grows decided =
    let c : Context = s.context in
    let d : Context = h.context in
    let ps : List LabelledStatement = h.premises in
    let ax : List Formula = axioms_at g s in
    let all : List Statement = presumed d ps in
    let x : Statement = h.conclusion.closed in
    let derived : Derives ax (map erase all ++ (facts c ++ [])) (erase x) =
    premises_within (facts (inside c d ps) ++ map erase (letters_said d)) (map erase all ++ (facts c ++ [])) (erase x) ax (inside_fact c d ps) (derived_inside g s t h os after final sound read beside justifies grows decided) in
    let alone : Derives ax [] (erase (implications all x)) =
    sound.conservative ax (λ k has. has) (implications all x) (implications_closed all x (closed_presumed (next c) h read) read.conclusion.2) (implied_in ax (facts c ++ []) all x derived) in
    implied_out ax (map erase all) all x (λ f is. is) (premises_within [] (map erase all) (erase (implications all x)) ax (λ k none. absurd (contains_none k none)) alone)

-- behind it

scheme_keeps : (g : Setting) (s : Standing) (t : SchemeTree) (h : SchemeHeading) (o : Walked Left) → StandsSoundly g s → TakesHeading s.environment (without_letters s.context) s.left t (Made [] h) → JustifiesScheme s t h o → KeepsSoundly g s (scheme_stated s t h o)
scheme_keeps g s t h (walked.Made os after) sound takes justifies = (
  (clauses_of (scheme_item h), refl),
  λ final grows decided.
      let read : IsReadScheme (next s.context) h = heading_law s.environment (without_letters s.context) s.left t [] h sound.closed_so (scope_begun s.context sound.level sound.no_thesis) takes in
      let beside : IsBeside (without_letters s.context) h.context = heading_beside s.environment (without_letters s.context) s.left t [] h takes in
      let from_here : Extends s.clauses final = extends_further s.clauses (s.clauses ++ clauses_of (scheme_item h)) final (clauses_of (scheme_item h), refl) grows in
      let owed : IsOwed (axioms_at g s) (scheme_item h) = scheme_owed (axioms_at g s) (next s.context) h read (derived_scheme g s t h os after final sound read beside justifies from_here decided) in
      left_law g (with_context (with_item s (scheme_item h)) (behind_scheme s.context (scheme_item h) t.name.spelling (s.numbering.schemes + 1))) after
      (headings.scheme_law g s (scheme_item h) t.name.spelling (s.numbering.schemes + 1) sound owed),
)
scheme_keeps g s t h (walked.Refused r) sound takes justifies = tt

pub schemes_kept : (g : Setting) {s : Standing} {t : SchemeTree} {w : Taken Standing} → StandsSoundly g s → StatesScheme s t w → KeepsSoundly g s w
schemes_kept g sound (rule.not_read r h) = tt
schemes_kept g {s = s} {t = t} sound (rule.read h o k j) = scheme_keeps g s t h o sound k j

-- the clauses only grow

scheme_grows : (s : Standing) (t : SchemeTree) (h : SchemeHeading) (o : Walked Left) → HasGrown s (scheme_stated s t h o)
scheme_grows s t h (walked.Made os after) = (clauses_of (scheme_item h), refl)
scheme_grows s t h (walked.Refused r) = tt

pub schemes_grown : {s : Standing} {t : SchemeTree} {w : Taken Standing} → StatesScheme s t w → HasGrown s w
schemes_grown (rule.not_read r h) = tt
schemes_grown {s = s} {t = t} (rule.read h o k j) = scheme_grows s t h o
