-- How the context of an article's own level changes by reservations and theorems.
use Rattle.std.proofs.Common.{◌≡◌, ◌⊎◌, inl, inr, ℕ, true, List, [], ◌∷◌, ◌++◌, map, append-nil, refl, ap, ◌∙◌, subst, Option, None, Ok, Err}
use Rattle.std.specs.Prelude.{Contains, Result}
use Rattle.std.proofs.lemmas.List.Elements.{Contains-append_left, Contains-append_right, Contains-append_cases}
use Rattle.mz_logic.specs.Formula.{Formula}
use Rattle.mz_logic.specs.Literal.{literal_formula}
use Rattle.mz_core.specs.Erasure.{erase}
use Rattle.mz_core.specs.Statement.{Statement}
use Rattle.mz_core.specs.TypeStatements.{literal_statement}
use Rattle.mz_core.specs.declared.outcome.Left.{Left}
use Rattle.mz_ground.proofs.ListLemmas.{contains_none, contains_one, contains_map, map_contains}
use Rattle.mz_context.specs.Changes.{labelled}
use Rattle.mz_context.specs.Context.{next, numbers}
use Rattle.mz_context.specs.declared.context.Context.{Context}
use Rattle.mz_context.specs.declared.labelled.LabelledStatement.{LabelledStatement}
use Rattle.mz_environment.specs.declared.environment.Environment.{Environment}
use Rattle.mz_items.specs.SchemeRows.{letter_types}
use Rattle.mz_names.specs.declared.refusal.Refusal.{Refusal}
use Rattle.mz_cited.specs.Cited.{members}
use Rattle.mz_tree_part.specs.declared.reserve.SegmentTree.{SegmentTree}
use Rattle.mz_reserve.specs.Reserve as rule
use Rattle.mz_reserve.specs.Reserve.{with_reserved, Reserves}
use Rattle.mz_steps.specs.Changes.{statement_of, with_stated}
use Rattle.mz_steps_laws.specs.Facts.{just_before, letter_of, known_from, statements_in, facts}
use Rattle.mz_choice_laws.proofs.ListParts.{all-from, all-one}
use Rattle.mz_block_laws.specs.Orders.{Stands, is_standing, said_in, IsInOrder}
use Rattle.mz_block_laws.proofs.OrderLemmas.{stands_in}
use Rattle.mz_walk_laws.specs.Grounds.{ReadsWell}
use Rattle.mz_walk_laws.proofs.Outcomes.{WhereOk}
use Rattle.mz_level_laws.specs.Level.{IsLevel}
use Rattle.mz_standing.specs.Standing.{behind_item, behind_theorem}
use Rattle.mz_standing_laws.specs.Soundly.{SaysNoMore}

-- one list is part of another
abbrev Within : {X : Type 0} → List X → List X → Type 0
Within {X} xs ys = (x : X) → Contains xs x → Contains ys x

before_within : (p q : Option Statement) → (p ≡ q) ⊎ (p ≡ None) → Within (just_before p) (just_before q)
before_within p q (inl same) s is = subst (λ o. Contains (just_before o) s) same is
before_within p q (inr none) s is = absurd (contains_none s (subst (λ o. Contains (just_before o) s) none is))

three_within : {X : Type 0} (xs ys zs ys2 : List X) → Within ys ys2 → Within ((xs ++ ys) ++ zs) ((xs ++ ys2) ++ zs)
three_within xs ys zs ys2 within x is = elim (Contains-append_cases (xs ++ ys) zs x is) [
  | inl front ↦ elim (Contains-append_cases xs ys x front) [
    | inl first ↦ Contains-append_left (xs ++ ys2) zs x (Contains-append_left xs ys2 x first)
    | inr second ↦ Contains-append_left (xs ++ ys2) zs x (Contains-append_right xs ys2 x (within x second))
  ]
  | inr back ↦ Contains-append_right (xs ++ ys2) zs x back
]

statements_part : (d c : Context) → SaysNoMore d c → Within (statements_in d) (statements_in c)
statements_part d c part s is =
    three_within (map statement_of c.labelled) (just_before d.previous) (letter_types (map letter_of c.letters)) (just_before c.previous) (before_within d.previous c.previous part.previous) s
    (subst (λ ls. Contains ((map statement_of c.labelled ++ just_before d.previous) ++ letter_types (map letter_of ls)) s) part.letters
    (subst (λ (ps : List LabelledStatement). Contains ((map statement_of ps ++ just_before d.previous) ++ letter_types (map letter_of d.letters)) s) part.named is))

map_within : {X Y : Type 0} (f : X → Y) (xs ys : List X) → Within xs ys → Within (map f xs) (map f ys)
map_within {X} f xs ys within y is =
    let from : (x : X) × Contains xs x × (f x ≡ y) = contains_map f xs y is in
    subst (Contains (map f ys)) from.2 (map_contains f ys from.0 (within from.0 from.1))

behind_within : {X : Type 0} (xs ys zs : List X) → Within ys zs → Within (xs ++ ys) (xs ++ zs)
behind_within xs ys zs within x is = elim (Contains-append_cases xs ys x is) [ inl front ↦ Contains-append_left xs zs x front | inr back ↦ Contains-append_right xs zs x (within x back) ]

pub facts_part : (d c : Context) → SaysNoMore d c → Within (facts d) (facts c)
facts_part d c part f is =
    behind_within (map literal_formula (known_from 1 c.constants)) (map erase (statements_in d)) (map erase (statements_in c)) (map_within erase (statements_in d) (statements_in c) (statements_part d c part)) f
    (subst (λ ks. Contains (map literal_formula (known_from 1 ks) ++ map erase (statements_in d)) f) part.constants is)

said_part : (d c : Context) → SaysNoMore d c → Within (said_in d) (said_in c)
said_part d c part s is =
    behind_within (map literal_statement (known_from 1 c.constants)) (statements_in d) (statements_in c) (statements_part d c part) s
    (subst (λ ks. Contains (map literal_statement (known_from 1 ks) ++ statements_in d) s) part.constants is)

pub order_part : (d c : Context) → SaysNoMore d c → IsInOrder [] c → IsInOrder [] d
order_part d c part order = record {
  said = all-from (is_standing (next d)) (said_in d) (λ s is. ap (λ n. is_standing n s) (ap numbers part.constants) ∙ all-one (is_standing (next c)) (said_in c) s (said_part d c part s is) order.said);
  held_in_force = refl;
}

part_of_itself : (c : Context) → SaysNoMore c c
part_of_itself c = record { constants = refl; letters = refl; named = refl; previous = inl refl }

pub behind_item_part : (c : Context) → SaysNoMore (behind_item c) c
behind_item_part c = record { constants = refl; letters = refl; named = refl; previous = inr refl }

previous_further : (d c b : Context) → (d.previous ≡ c.previous) ⊎ (d.previous ≡ None) → (c.previous ≡ b.previous) ⊎ (c.previous ≡ None) → (d.previous ≡ b.previous) ⊎ (d.previous ≡ None)
previous_further d c b (inl same) (inl also) = inl (same ∙ also)
previous_further d c b (inl same) (inr none) = inr (same ∙ none)
previous_further d c b (inr none) q = inr none

pub part_further : (d c b : Context) → SaysNoMore d c → SaysNoMore c b → SaysNoMore d b
part_further d c b p q = record {
  constants = p.constants ∙ q.constants;
  letters = p.letters ∙ q.letters;
  named = p.named ∙ q.named;
  previous = previous_further d c b p.previous q.previous;
}

-- reservations
pub record IsReserved (c d : Context) : Type 0 where
  pub part : SaysNoMore d c
  pub thesis : d.thesis ≡ c.thesis

reserved_on : (c b : Context) (o : Result Context Refusal) → IsReserved c b → WhereOk o (IsReserved b) → WhereOk o (IsReserved c)
reserved_on c b (Ok d) p h = record { part = part_further d b c h.part p.part; thesis = h.thesis ∙ p.thesis }
reserved_on c b (Err r) p h = tt

reserved_from : {e : Environment} {c : Context} {left after : Left} {ss : List SegmentTree} {o : Result Context Refusal} → Reserves e c left ss o after → WhereOk o (IsReserved c)
reserved_from (rule.no_more c left) = record { part = part_of_itself c; thesis = refl }
reserved_from (rule.type_refused c left after s ss r h) = tt
reserved_from (rule.reserved c left between after s ss ty o h k) =
    reserved_on c (with_reserved c ty (members s.identifiers)) o (record { part = record { constants = refl; letters = refl; named = refl; previous = inl refl }; thesis = refl }) (reserved_from k)

pub is_reserved : (e : Environment) (c d : Context) (left after : Left) (ss : List SegmentTree) → Reserves e c left ss (Ok d) after → IsReserved c d
is_reserved e c d left after ss h = reserved_from h

-- a theorem under its label
in_labelled : (label : List ℕ) (t s : Statement) → Contains (map statement_of (labelled label t)) s → t ≡ s
in_labelled [] t s is = absurd (contains_none s is)
in_labelled (b ∷ bs) t s is = contains_one t s is

map_behind : {X Y : Type 0} (f : X → Y) (xs ys : List X) (y : Y) → Contains (map f (xs ++ ys)) y → Contains (map f xs) y ⊎ Contains (map f ys) y
map_behind {X} f xs ys y is =
    let from : (x : X) × Contains (xs ++ ys) x × (f x ≡ y) = contains_map f (xs ++ ys) y is in
    elim (Contains-append_cases xs ys from.0 from.1) [
      | inl front ↦ inl (subst (Contains (map f xs)) from.2 (map_contains f xs from.0 front))
      | inr back ↦ inr (subst (Contains (map f ys)) from.2 (map_contains f ys from.0 back))
    ]

theorem_statement : (c : Context) (label : List ℕ) (t s : Statement) → Contains (statements_in (behind_theorem c label t)) s → Contains (statements_in c) s ⊎ (t ≡ s)
theorem_statement c label t s is =
    let old : List Statement = map statement_of c.labelled in
    let types : List Statement = letter_types (map letter_of c.letters) in
    elim (Contains-append_cases (map statement_of (c.labelled ++ labelled label t) ++ []) types s is) [
      | inl front ↦ elim (map_behind statement_of c.labelled (labelled label t) s (subst (λ xs. Contains xs s) (append-nil (map statement_of (c.labelled ++ labelled label t))) front)) [
        | inl first ↦ inl (Contains-append_left (old ++ just_before c.previous) types s (Contains-append_left old (just_before c.previous) s first))
        | inr new ↦ inr (in_labelled label t s new)
      ]
      | inr back ↦ inl (Contains-append_right (old ++ just_before c.previous) types s back)
    ]

pub theorem_fact : (c : Context) (label : List ℕ) (t : Statement) (f : Formula) → Contains (facts (behind_theorem c label t)) f → Contains (facts c) f ⊎ (erase t ≡ f)
theorem_fact c label t f is =
    let known : List Formula = map literal_formula (known_from 1 c.constants) in
    elim (Contains-append_cases known (map erase (statements_in (behind_theorem c label t))) f is) [
      | inl front ↦ inl (Contains-append_left known (map erase (statements_in c)) f front)
      | inr back ↦
          let from : (s : Statement) × Contains (statements_in (behind_theorem c label t)) s × (erase s ≡ f) = contains_map erase (statements_in (behind_theorem c label t)) f back in
          elim (theorem_statement c label t from.0 from.1) [
            | inl old ↦ inl (Contains-append_right known (map erase (statements_in c)) f (subst (Contains (map erase (statements_in c))) from.2 (map_contains erase (statements_in c) from.0 old)))
            | inr same ↦ inr (ap erase same ∙ from.2)
          ]
    ]

theorem_said : (c : Context) (label : List ℕ) (t : Statement) → IsInOrder [] c → Stands (next c) t → (s : Statement) → Contains (said_in (behind_theorem c label t)) s → is_standing (next c) s ≡ true
theorem_said c label t order stands s is =
    let known : List Statement = map literal_statement (known_from 1 c.constants) in
    elim (Contains-append_cases known (statements_in (behind_theorem c label t)) s is) [
      | inl front ↦ all-one (is_standing (next c)) (said_in c) s (Contains-append_left known (statements_in c) s front) order.said
      | inr back ↦ elim (theorem_statement c label t s back) [
        | inl old ↦ all-one (is_standing (next c)) (said_in c) s (Contains-append_right known (statements_in c) s old) order.said
        | inr same ↦ subst (λ x. is_standing (next c) x ≡ true) same (stands_in (next c) t stands)
      ]
    ]

pub theorem_order : (c : Context) (label : List ℕ) (t : Statement) → IsInOrder [] c → Stands (next c) t → IsInOrder [] (behind_theorem c label t)
theorem_order c label t order stands = record {
  said = all-from (is_standing (next c)) (said_in (behind_theorem c label t)) (theorem_said c label t order stands);
  held_in_force = refl;
}

one_stands : (n : ℕ) (p q : LabelledStatement) → Stands n p.statement → Contains (p ∷ []) q → Stands n q.statement
one_stands n p q stands is = subst (λ (x : LabelledStatement). Stands n x.statement) (contains_one p q is) stands

pub theorem_level : (e : Environment) → ReadsWell e IsLevel → (c : Context) (label : List ℕ) (t : Statement) → IsLevel c → Stands (next c) t → IsLevel (behind_theorem c label t)
theorem_level e reads c label t level stands =
    let p : LabelledStatement = record { label = label; statement = t } in
    subst (λ (ps : List LabelledStatement). IsLevel (record c { labelled = c.labelled ++ ps; previous = None })) (append-nil (labelled label t))
    (reads.unlinked (with_stated c (p ∷ [])) (reads.with_some c level (p ∷ []) (λ q is. one_stands (next c) p q stands is)))
