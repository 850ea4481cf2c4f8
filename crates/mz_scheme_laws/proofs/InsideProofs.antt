-- The context of a scheme's proof: what it says, and that one may reason in it.
use Rattle.std.proofs.Common.{◌≡◌, inl, inr, ℕ, true, List, [], ◌∷◌, ◌++◌, map, append-nil, refl, sym, ap, ◌∙◌, subst}
use Rattle.std.specs.Prelude.{◌⊎◌, Contains, flat_map}
use Rattle.std.specs.List.{list_all}
use Rattle.std.proofs.lemmas.List.Elements.{Contains-append_left, Contains-append_right, Contains-append_cases}
use Rattle.mz_logic.specs.Formula.{Formula}
use Rattle.mz_logic.specs.Literal.{literal_formula}
use Rattle.mz_core.specs.Closed.{statement_under}
use Rattle.mz_core.specs.Erasure.{erase}
use Rattle.mz_core.specs.InForce.{formula_in_force}
use Rattle.mz_core.specs.Statement.{Statement}
use Rattle.mz_core.specs.TypeStatements.{literal_statement}
use Rattle.mz_core.proofs.AllLemmas.{all-map}
use Rattle.mz_core.proofs.LawProofs.{erasure_in_force}
use Rattle.mz_ground.proofs.ListLemmas.{contains_none, contains_one, contains_map, map_contains}
use Rattle.mz_items.specs.Closed.{letter_closed}
use Rattle.mz_items.specs.SchemeRows.{letter_types}
use Rattle.mz_context.specs.Changes.{labelled}
use Rattle.mz_context.specs.Context.{next}
use Rattle.mz_context.specs.declared.context.Context.{Context}
use Rattle.mz_context.specs.declared.labelled.LabelledStatement.{LabelledStatement}
use Rattle.mz_context.specs.declared.letters.NamedLetter.{NamedLetter}
use Rattle.mz_chain_clause_laws.proofs.MemberLemmas.{from_flat}
use Rattle.mz_choice_laws.proofs.ListParts.{all-from, all-one}
use Rattle.mz_environment.specs.declared.environment.Environment.{Environment}
use Rattle.mz_steps.specs.Changes.{statement_of, label_of, with_stated}
use Rattle.mz_steps_laws.specs.Facts.{known_from, just_before, statements_in, facts}
use Rattle.mz_thesis_laws.specs.RowLaws.{AreInForce}
use Rattle.mz_block_laws.specs.Orders.{Stands, is_standing, said_in, IsInOrder}
use Rattle.mz_block_laws.proofs.OrderLemmas.{stands_in}
use Rattle.mz_walk_laws.specs.Grounds.{ReadsWell}
use Rattle.mz_level_laws.specs.Level.{IsLevel}
use Rattle.mz_level_laws.proofs.ClosedLemmas.{closed_law}
use Rattle.mz_letters.specs.Aside.{without_letters}
use Rattle.mz_scheme_items.specs.StatesScheme.{letter_in, with_premises}
use Rattle.mz_scheme_items.proofs.BesideProofs.{with_letters_of, IsBeside}
use Rattle.mz_scheme_laws.proofs.LetterProofs.{types_closed}

-- the first context with the letters of the second one in force, and with the premises
abbrev pub inside : Context → Context → List LabelledStatement → Context
inside c d ps = with_premises (with_letters_of (without_letters c) d) ps

pub inside_so : (c d : Context) (ps : List LabelledStatement) → IsBeside (without_letters c) d → with_premises d ps ≡ inside c d ps
inside_so c d ps beside = ap (λ (x : Context). with_premises x ps) beside

-- the types of the letters, and the premises
abbrev pub letters_said : Context → List Statement
letters_said d = letter_types (map letter_in d.letters)

abbrev pub presumed : Context → List LabelledStatement → List Statement
presumed d ps = letters_said d ++ map statement_of ps

-- what is labelled

in_labelled : (label : List ℕ) (t s : Statement) → Contains (map statement_of (labelled label t)) s → t ≡ s
in_labelled [] t s is = absurd (contains_none s is)
in_labelled (b ∷ bs) t s is = contains_one t s is

premise_labelled : (ps : List LabelledStatement) (s : Statement) → Contains (map statement_of (flat_map label_of ps)) s → Contains (map statement_of ps) s
premise_labelled ps s is =
    let from : (q : LabelledStatement) × Contains (flat_map label_of ps) q × (statement_of q ≡ s) = contains_map statement_of (flat_map label_of ps) s is in
    let premise : (p : LabelledStatement) × Contains ps p × Contains (label_of p) from.0 = from_flat label_of ps from.0 from.1 in
    let same : statement_of premise.0 ≡ s = in_labelled premise.0.label premise.0.statement s (subst (Contains (map statement_of (label_of premise.0))) from.2 (map_contains statement_of (label_of premise.0) from.0 premise.2)) in
    subst (Contains (map statement_of ps)) same (map_contains statement_of ps premise.0 premise.1)

map_behind : {X Y : Type 0} (f : X → Y) (xs ys : List X) (y : Y) → Contains (map f (xs ++ ys)) y → Contains (map f xs) y ⊎ Contains (map f ys) y
map_behind {X} f xs ys y is =
    let from : (x : X) × Contains (xs ++ ys) x × (f x ≡ y) = contains_map f (xs ++ ys) y is in
    elim (Contains-append_cases xs ys from.0 from.1) [
      | inl front ↦ inl (subst (Contains (map f xs)) from.2 (map_contains f xs from.0 front))
      | inr back ↦ inr (subst (Contains (map f ys)) from.2 (map_contains f ys from.0 back))
    ]

-- a statement that the context says is one that the first context says, or is presumed

old_label : (c : Context) (s : Statement) → Contains (map statement_of c.labelled) s → Contains (statements_in c) s
old_label c s is =
    Contains-append_left (map statement_of c.labelled ++ just_before c.previous) (letter_types (map letter_in c.letters)) s (Contains-append_left (map statement_of c.labelled) (just_before c.previous) s is)

old_previous : (c : Context) (s : Statement) → Contains (just_before c.previous) s → Contains (statements_in c) s
old_previous c s is =
    Contains-append_left (map statement_of c.labelled ++ just_before c.previous) (letter_types (map letter_in c.letters)) s (Contains-append_right (map statement_of c.labelled) (just_before c.previous) s is)

inside_statement : (c d : Context) (ps : List LabelledStatement) (s : Statement) → Contains (statements_in (inside c d ps)) s → Contains (statements_in c) s ⊎ Contains (presumed d ps) s
inside_statement c d ps s is =
    let labels : List Statement = map statement_of (c.labelled ++ flat_map label_of ps) in
    elim (Contains-append_cases (labels ++ just_before c.previous) (letters_said d) s is) [
      | inl front ↦ elim (Contains-append_cases labels (just_before c.previous) s front) [
        | inl label ↦ elim (map_behind statement_of c.labelled (flat_map label_of ps) s label) [
          | inl old ↦ inl (old_label c s old)
          | inr new ↦ inr (Contains-append_right (letters_said d) (map statement_of ps) s (premise_labelled ps s new))
        ]
        | inr before ↦ inl (old_previous c s before)
      ]
      | inr letter ↦ inr (Contains-append_left (letters_said d) (map statement_of ps) s letter)
    ]

-- so is each fact

pub inside_fact : (c d : Context) (ps : List LabelledStatement) (f : Formula) → Contains (facts (inside c d ps) ++ map erase (letters_said d)) f → Contains (map erase (presumed d ps) ++ (facts c ++ [])) f
inside_fact c d ps f is =
    let known : List Formula = map literal_formula (known_from 1 c.constants) in
    let new : List Formula = map erase (presumed d ps) in
    let old : Contains (facts c) f → Contains (new ++ (facts c ++ [])) f = λ there. Contains-append_right new (facts c ++ []) f (Contains-append_left (facts c) [] f there) in
    elim (Contains-append_cases (facts (inside c d ps)) (map erase (letters_said d)) f is) [
      | inl fact ↦ elim (Contains-append_cases known (map erase (statements_in (inside c d ps))) f fact) [
        | inl guard ↦ old (Contains-append_left known (map erase (statements_in c)) f guard)
        | inr stated ↦
            let from : (s : Statement) × Contains (statements_in (inside c d ps)) s × (erase s ≡ f) = contains_map erase (statements_in (inside c d ps)) f stated in
            elim (inside_statement c d ps from.0 from.1) [
              | inl there ↦ old (Contains-append_right known (map erase (statements_in c)) f (subst (Contains (map erase (statements_in c))) from.2 (map_contains erase (statements_in c) from.0 there)))
              | inr presumes ↦ Contains-append_left new (facts c ++ []) f (subst (Contains new) from.2 (map_contains erase (presumed d ps) from.0 presumes))
            ]
      ]
      | inr type ↦
          let from : (s : Statement) × Contains (letters_said d) s × (erase s ≡ f) = contains_map erase (letters_said d) f type in
          Contains-append_left new (facts c ++ []) f (subst (Contains new) from.2 (map_contains erase (presumed d ps) from.0 (Contains-append_left (letters_said d) (map statement_of ps) from.0 from.1)))
    ]

-- what is presumed has no constant and no loose index

letters_of_all : (ls : List NamedLetter) → ((l : NamedLetter) → Contains ls l → letter_closed l.letter ≡ true) → list_all letter_closed (map letter_in ls) ≡ true
letters_of_all ls each =
    all-from letter_closed (map letter_in ls)
    (λ k is.
    let from = contains_map letter_in ls k is in
    subst (λ x. letter_closed x ≡ true) from.2 (each from.0 from.1))

pub presumed_closed : (d : Context) (ps : List LabelledStatement) → ((l : NamedLetter) → Contains d.letters l → letter_closed l.letter ≡ true) → ((p : LabelledStatement) → Contains ps p → statement_under 0 p.statement ≡ true) → (s : Statement) → Contains (presumed d ps) s → statement_under 0 s ≡ true
presumed_closed d ps letters premises s is = elim (Contains-append_cases (letters_said d) (map statement_of ps) s is) [
  | inl type ↦ all-one (statement_under 0) (letters_said d) s type (types_closed (map letter_in d.letters) (letters_of_all d.letters letters))
  | inr premise ↦
      let from : (p : LabelledStatement) × Contains ps p × (statement_of p ≡ s) = contains_map statement_of ps s premise in
      subst (λ (x : Statement). statement_under 0 x ≡ true) from.2 (premises from.0 from.1)
]

-- the context is in order

said_inside : (c d : Context) (ps : List LabelledStatement) → IsInOrder [] c → ((s : Statement) → Contains (presumed d ps) s → statement_under 0 s ≡ true) → (s : Statement) → Contains (said_in (inside c d ps)) s → is_standing (next c) s ≡ true
said_inside c d ps order closed s is =
    let known : List Statement = map literal_statement (known_from 1 c.constants) in
    elim (Contains-append_cases known (statements_in (inside c d ps)) s is) [
      | inl front ↦ all-one (is_standing (next c)) (said_in c) s (Contains-append_left known (statements_in c) s front) order.said
      | inr back ↦ elim (inside_statement c d ps s back) [
        | inl old ↦ all-one (is_standing (next c)) (said_in c) s (Contains-append_right known (statements_in c) s old) order.said
        | inr new ↦ stands_in (next c) s (closed_law (next c) s (closed s new))
      ]
    ]

held_in_force : (n : ℕ) (ss : List Statement) → ((s : Statement) → Contains ss s → statement_under 0 s ≡ true) → AreInForce n (map erase ss)
held_in_force n ss closed =
    all-from (formula_in_force n) (map erase ss)
    (λ f is.
    let from : (s : Statement) × Contains ss s × (erase s ≡ f) = contains_map erase ss f is in
    subst (λ k. formula_in_force n k ≡ true) from.2 (erasure_in_force n from.0 (closed_law n from.0 (closed from.0 from.1)).0))

pub inside_order : (c d : Context) (ps : List LabelledStatement) → IsInOrder [] c → ((s : Statement) → Contains (presumed d ps) s → statement_under 0 s ≡ true) → IsInOrder (map erase (letters_said d)) (inside c d ps)
inside_order c d ps order closed = record {
  said = all-from (is_standing (next c)) (said_in (inside c d ps)) (said_inside c d ps order closed);
  held_in_force = held_in_force (next c) (letters_said d) (λ s is. closed s (Contains-append_left (letters_said d) (map statement_of ps) s is));
}

-- and one of the article's own level, but for its letters

pub premises_level : (e : Environment) → ReadsWell e IsLevel → (d : Context) (ps : List LabelledStatement) → IsLevel d → ((p : LabelledStatement) → Contains ps p → statement_under 0 p.statement ≡ true) → IsLevel (with_premises d ps)
premises_level e reads d ps level closed =
    let stated : IsLevel (with_stated d ps) = reads.with_some d level ps (λ p is. closed_law (next d) (statement_of p) (closed p is)) in
    record {
      is_whole = record {
        constants = level.is_whole.constants;
        reserved = level.is_whole.reserved;
        labelled = stated.is_whole.labelled;
        previous = level.is_whole.previous;
        functors = level.is_whole.functors;
        predicates = level.is_whole.predicates;
        letters = level.is_whole.letters;
        thesis = level.is_whole.thesis;
        it_is = level.is_whole.it_is;
        arguments = level.is_whole.arguments;
        subject = level.is_whole.subject;
      };
      no_it = level.no_it;
      no_arguments = level.no_arguments;
      no_subject = level.no_subject;
    }
