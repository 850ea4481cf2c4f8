-- What items say that are owed, the clauses that they give, and lists of them with one more.
use Rattle.std.proofs.Common.{◌≡◌, inl, inr, ℕ, true, List, [], ◌∷◌, ◌++◌, map, take, append-nil, sym, ap, ◌∙◌, subst, arith}
use Rattle.std.specs.Prelude.{Contains, flat_map}
use Rattle.std.specs.List.{list_all}
use Rattle.std.proofs.Math.Seq.{take-append_seam}
use Rattle.std.proofs.lemmas.Grind.{flat_map-append}
use Rattle.std.proofs.lemmas.List.{append_assoc, take-append-le}
use Rattle.std.proofs.lemmas.List.Elements.{Contains-append_left, Contains-append_right, Contains-append_cases}
use Rattle.std.proofs.lemmas.Option.{slice_get_within}
use Rattle.mz_logic.specs.Formula.{Formula}
use Rattle.mz_logic.specs.Derives.{Derives}
use Rattle.mz_logic.specs.declared.sequent.Sequent.{Sequent}
use Rattle.mz_logic.proofs.Each.{axiom_derives, derives_more}
use Rattle.mz_core.specs.declared.item.Item.{Item}
use Rattle.mz_core.proofs.AllLemmas.{all-append}
use Rattle.mz_clauses.specs.Clauses.{item_clauses, typing_clauses, further_clauses, equality_clauses}
use Rattle.mz_ground.specs.ClauseFormula.{clause_formula}
use Rattle.mz_ground.specs.declared.clause.Clause.{Clause}
use Rattle.mz_ground.proofs.ListLemmas.{contains_first, contains_later, contains_none, contains_one, contains_get, get_contained, get_push_cases}
use Rattle.mz_ground.proofs.InstanceLemmas.{take_contains}
use Rattle.mz_items.specs.Closed.{item_closed}
use Rattle.mz_items.specs.Items.{owes, grants}
use Rattle.mz_items.specs.Exports.{without_premises, conclusion_alone, item_statements}
use Rattle.mz_axioms.specs.Library.{granted}
use Rattle.mz_clause_laws.specs.RowLaws.{AllFollow}
use Rattle.mz_clause_laws.proofs.ItemProofs as clauses
use Rattle.mz_closed_laws.specs.ClosedClauses.{clause_closed}
use Rattle.mz_closed_laws.specs.ClosedEnvironment.{IsClosedEnvironment}
use Rattle.mz_closed_laws.proofs.EnvironmentProofs.{given_law}
use Rattle.mz_choice_laws.proofs.ListParts.{all-from}
use Rattle.mz_environment.specs.Cited.{at_start}
use Rattle.mz_environment.specs.Environment.{of_item}
use Rattle.mz_env_laws.proofs.DerivedProofs.{one_follows}
use Rattle.mz_chain_clause_laws.proofs.MemberLemmas.{from_flat, to_flat}
use Rattle.mz_standing.specs.Standing.{clauses_of}
use Rattle.mz_standing_laws.specs.Owed.{IsOwed, AreOwed}
use Rattle.mz_standing_laws.specs.Soundly.{AreAmong}

-- lists of formulas

pub among_left : (fs gs : List Formula) → AreAmong fs (fs ++ gs)
among_left fs gs f is = Contains-append_left fs gs f is

pub among_further : (fs gs hs : List Formula) → AreAmong fs gs → AreAmong gs hs → AreAmong fs hs
among_further fs gs hs p q f is = q f (p f is)

each_follows : (ax g fs : List Formula) → ((f : Formula) → Contains fs f → Derives ax g f) → AllFollow ax g fs
each_follows ax g [] each = tt
each_follows ax g (f ∷ fs) each = (each f (contains_first f fs), each_follows ax g fs (λ h is. each h (contains_later f h fs is)))

pub follow_more : (ax bx fs : List Formula) → AreAmong ax bx → AllFollow ax [] fs → AllFollow bx [] fs
follow_more ax bx [] among all = tt
follow_more ax bx (f ∷ fs) among all = (derives_more ax bx [] [] f among (λ k is. is) all.0, follow_more ax bx fs among all.1)

-- some of the items of an article

pub in_taken : {X : Type 0} (n : ℕ) (xs : List X) (x : X) → Contains (take n xs) x → Contains xs x
in_taken n xs x is = let from = take_contains xs n x is in contains_get xs from.0 x from.2

granted_among : (items : List Item) (x : Item) → Contains items x → AreAmong (grants x) (granted items)
granted_among items x is f has = to_flat grants items x f is has

some_granted : (ax : List Formula) (items : List Item) (k : ℕ) → AreAmong (ax ++ granted (take k items)) (ax ++ granted items)
some_granted ax items k f is = elim (Contains-append_cases ax (granted (take k items)) f is) [
  | inl old ↦ Contains-append_left ax (granted items) f old
  | inr new ↦
      let from : (x : Item) × Contains (take k items) x × Contains (grants x) f = from_flat grants (take k items) f new in
      Contains-append_right ax (granted items) f (granted_among items from.0 (in_taken k items from.0 from.1) f from.2)
]

-- an item is owed from more axioms, and from all that is granted where it is owed from a part of it
pub owed_more : (ax bx : List Formula) (x : Item) → AreAmong ax bx → IsOwed ax x → IsOwed bx x
owed_more ax bx x among p = record {
  closed = p.closed;
  own = p.own;
  owed = λ q is. derives_more ax bx q.premises q.premises q.conclusion among (λ k has. has) (p.owed q is);
}

pub owed_there : (ax : List Formula) (items : List Item) → AreOwed ax items → (x : Item) → Contains items x → IsOwed (ax ++ granted items) x
owed_there ax items met x is = owed_more (ax ++ granted (take is.0 items)) (ax ++ granted items) x (some_granted ax items is.0) (met is.0 x (get_contained items x is))

pub items_closed : (ax : List Formula) (items : List Item) → AreOwed ax items → list_all item_closed items ≡ true
items_closed ax items met = all-from item_closed items (λ x is. (owed_there ax items met x is).closed)

-- what an owed item says

alone_derives : (ax ps : List Formula) (c f : Formula) → Contains (without_premises ps c) f → Derives ax ps c → Derives ax [] f
alone_derives ax [] c f is d = subst (Derives ax []) (contains_one c f is) d
alone_derives ax (p ∷ ps) c f is d = absurd (contains_none f is)

owed_alone : (ax : List Formula) (x : Item) → IsOwed ax x → (f : Formula) → Contains (flat_map conclusion_alone (owes x)) f → Derives ax [] f
owed_alone ax x p f is =
    let from : (q : Sequent) × Contains (owes x) q × Contains (conclusion_alone q) f = from_flat conclusion_alone (owes x) f is in
    alone_derives ax from.0.premises from.0.conclusion f from.2 (p.owed from.0 from.1)

pub owed_said : (ax : List Formula) (x : Item) → AreAmong (grants x) ax → IsOwed ax x → AllFollow ax [] (item_statements x)
owed_said ax x among p =
    each_follows ax [] (item_statements x)
    (λ f is. elim (Contains-append_cases (grants x) (flat_map conclusion_alone (owes x)) f is) [
      | inl front ↦ axiom_derives ax [] f (among f front)
      | inr back ↦ owed_alone ax x p f back
    ])

pub granted_at : (ax : List Formula) (items : List Item) (x : Item) → Contains items x → AreAmong (grants x) (ax ++ granted items)
granted_at ax items x is f has = Contains-append_right ax (granted items) f (granted_among items x is f has)

pub said_there : (ax : List Formula) (items : List Item) → AreOwed ax items → (x : Item) → Contains items x → AllFollow (ax ++ granted items) [] (item_statements x)
said_there ax items met x is = owed_said (ax ++ granted items) x (granted_at ax items x is) (owed_there ax items met x is)

-- its clauses

one_clause : (ax : List Formula) (x : Item) (c : Clause) → AllFollow ax [] (map clause_formula (item_clauses x)) → Contains (clauses_of x) c → Derives ax [] (clause_formula c)
unfolding item_clauses
one_clause ax x c all is = one_follows ax [] (clauses_of x) c all is

pub clause_there : (ax : List Formula) (items : List Item) → AreOwed ax items → (c : Clause) → Contains (flat_map clauses_of items) c → Derives (ax ++ granted items) [] (clause_formula c)
clause_there ax items met c is =
    let from : (x : Item) × Contains items x × Contains (clauses_of x) c = from_flat clauses_of items c is in
    one_clause (ax ++ granted items) from.0 c
    (clauses.item_law from.0 (ax ++ granted items) [] (owed_there ax items met from.0 from.1).closed (said_there ax items met from.0 from.1)) from.2

pub clauses_closed : (x : Item) → item_closed x ≡ true → list_all clause_closed (clauses_of x) ≡ true
clauses_closed x closed =
    let given : IsClosedEnvironment (of_item (at_start 0) x) = given_law (at_start 0) x closed in
    all-append clause_closed (typing_clauses x ++ further_clauses x) (equality_clauses x) (all-append clause_closed (typing_clauses x) (further_clauses x) given.typing given.further) given.equalities

-- one item more

pub flat_map-last : {X Y : Type 0} (f : X → List Y) (xs : List X) (x : X) → flat_map f (xs ++ x ∷ []) ≡ flat_map f xs ++ f x
flat_map-last f xs x = flat_map-append f xs (x ∷ []) ∙ ap (λ ys. flat_map f xs ++ ys) (append-nil (f x))

pub met_further : (ax : List Formula) (items : List Item) (x : Item) → AreOwed ax items → IsOwed (ax ++ granted items) x → AreOwed ax (items ++ x ∷ [])
met_further ax items x met owed k y at = elim (get_push_cases items x k y at) [
  | inl old ↦ subst (λ ys. IsOwed (ax ++ granted ys) y) (sym (take-append-le k items (x ∷ []) (omega (arith, slice_get_within items k y old)))) (met k y old)
  | inr last ↦
      subst (λ n. IsOwed (ax ++ granted (take n (items ++ x ∷ []))) y) (sym last.0)
      (subst (λ ys. IsOwed (ax ++ granted ys) y) (sym (take-append_seam items (x ∷ []))) (subst (IsOwed (ax ++ granted items)) last.1 owed))
]

pub granted_further : (ax : List Formula) (items : List Item) (x : Item) → AreAmong (ax ++ granted items) (ax ++ granted (items ++ x ∷ []))
granted_further ax items x f is = elim (Contains-append_cases ax (granted items) f is) [
  | inl old ↦ Contains-append_left ax (granted (items ++ x ∷ [])) f old
  | inr new ↦
      Contains-append_right ax (granted (items ++ x ∷ [])) f
      (subst (λ fs. Contains fs f) (sym (flat_map-last grants items x)) (Contains-append_left (granted items) (grants x) f new))
]

pub clauses_further : (let_in : List Clause) (items : List Item) (x : Item) (cs : List Clause) → cs ≡ let_in ++ flat_map clauses_of items → cs ++ clauses_of x ≡ let_in ++ flat_map clauses_of (items ++ x ∷ [])
clauses_further let_in items x cs are =
    ap (λ ds. ds ++ clauses_of x) are ∙ append_assoc let_in (flat_map clauses_of items) (clauses_of x) ∙ ap (λ ds. let_in ++ ds) (sym (flat_map-last clauses_of items x))
