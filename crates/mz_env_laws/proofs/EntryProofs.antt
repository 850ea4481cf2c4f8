-- Proofs of where the entries of an environment come from.
use Rattle.std.proofs.Common.{◌≡◌, List, [], ◌∷◌, ◌++◌, refl, sym, subst}
use Rattle.std.specs.Prelude.{if◌then◌else◌, Contains}
use Rattle.std.proofs.lemmas.List.Elements.{Contains-append_left, Contains-append_right, Contains-append_cases}
use Rattle.std.proofs.Common.{◌⊎◌, inl, inr}
use Rattle.mz_base.specs.declared.name.Name.{Name}
use Rattle.mz_base.specs.declared.head.DirectiveKind.{DirectiveKind}
use Rattle.mz_base.specs.declared.head.DirectiveKind.TheVariants.{Vocabularies, Notations, Constructors, Registrations, Definitions, Theorems, Schemes, Requirements, Equalities, Expansions}
use Rattle.mz_logic.specs.declared.sym.Sym.{Sym}
use Rattle.mz_core.specs.declared.structure.Structure.{Structure}
use Rattle.mz_core.specs.declared.notation.Notation.{Notation}
use Rattle.mz_core.specs.declared.registration.ExistentialRegistration.{ExistentialRegistration}
use Rattle.mz_core.specs.declared.item.Item.{Item}
use Rattle.mz_core.specs.declared.outcome.Export.{Export}
use Rattle.mz_items.specs.Exports.{notations_of}
use Rattle.mz_ground.specs.declared.clause.Clause.{Clause}
use Rattle.mz_clauses.specs.Clauses.{typing_clauses, further_clauses, equality_clauses}
use Rattle.mz_environment.specs.Rows.{functor_rows, mode_rows}
use Rattle.mz_environment.specs.Unfoldings.{unfoldings_of}
use Rattle.mz_environment.specs.Cited.{at_start, numbered, statements_cited, schemes_cited}
use Rattle.mz_environment.specs.Environment.{no_environment, joined, of_item, structures_of, sethoods_of, existentials_of}
use Rattle.mz_environment.specs.declared.rows.Row.{Row}
use Rattle.mz_environment.specs.declared.unfoldings.Unfolding.{Unfolding}
use Rattle.mz_environment.specs.declared.cited.CitedStatement.{CitedStatement}
use Rattle.mz_environment.specs.declared.cited.CitedScheme.{CitedScheme}
use Rattle.mz_environment.specs.declared.numbering.Numbering.{Numbering}
use Rattle.mz_environment.specs.declared.environment.Environment.{Environment}
use Rattle.mz_env.specs.Symbols.{registration_in}
use Rattle.mz_env.specs.Shares.{is_registration, share, notations_share, constructors_share, registrations_share, definitions_share, expansions_share, equalities_share, theorems_share, schemes_share}
use Rattle.mz_env_laws.specs.Entries.{StandsAmong, first_item, later_item, StandsIn, IsOfExports, HasTypingOf, SomeItem, AreOfItems, EntryLaw, behind_items, with_item, OwnPartLaw, OwnItemLaw}
use Rattle.mz_env_laws.proofs.Along.{Spreads, if_holds, in_none, the_first, a_later, first_or_later, let_in_holds}

-- each entry of the first list is in the second
abbrev pub Among : {X : Type 0} → List X → List X → Type 0
Among {X = X} xs ys = (x : X) → Contains xs x → Contains ys x

none_among : {X : Type 0} (ys : List X) → Among [] ys
none_among ys x is = absurd (in_none x is)

all_among : {X : Type 0} (xs : List X) → Among xs xs
all_among xs x is = is

-- entries of two lists, one behind the other
either : {X : Type 0} (xs ys : List X) (Q : X → Type 0) → ((x : X) → Contains xs x → Q x) → ((x : X) → Contains ys x → Q x) → (x : X) → Contains (xs ++ ys) x → Q x
either xs ys Q p q x is = elim (Contains-append_cases xs ys x is) [ inl front ↦ p x front | inr back ↦ q x back ]

-- rows and structures, with the typing clauses of their items
with_left : (source : Numbering → Item → Type 0) (e f : Environment) (P : Item → Type 0) → SomeItem source (λ at x. P x × HasTypingOf e x) → SomeItem source (λ at x. P x × HasTypingOf (joined e f) x)
with_left source e f P g = (g.0, g.1, g.2, (g.3.0, λ c of_item. Contains-append_left e.typing f.typing c (g.3.1 c of_item)))

with_right : (source : Numbering → Item → Type 0) (e f : Environment) (P : Item → Type 0) → SomeItem source (λ at x. P x × HasTypingOf f x) → SomeItem source (λ at x. P x × HasTypingOf (joined e f) x)
with_right source e f P g = (g.0, g.1, g.2, (g.3.0, λ c of_item. Contains-append_right e.typing f.typing c (g.3.1 c of_item)))

pub entries_none : (source : Numbering → Item → Type 0) → AreOfItems source no_environment
entries_none source = record {
  functors = λ r is. absurd (in_none r is);
  modes = λ r is. absurd (in_none r is);
  structures = λ r is. absurd (in_none r is);
  sethoods = λ r is. absurd (in_none r is);
  notations = λ r is. absurd (in_none r is);
  typing = λ r is. absurd (in_none r is);
  further = λ r is. absurd (in_none r is);
  equalities = λ r is. absurd (in_none r is);
  steps = λ r is. absurd (in_none r is);
  expansions = λ r is. absurd (in_none r is);
  registrations = λ r is. absurd (in_none r is);
  theorems = λ r is. absurd (in_none r is);
  schemes = λ r is. absurd (in_none r is);
}

pub entries_both : (source : Numbering → Item → Type 0) (e f : Environment) → AreOfItems source e → AreOfItems source f → AreOfItems source (joined e f)
entries_both source e f p q = record {
  functors = either e.functors f.functors (λ (r : Row). SomeItem source (λ at x. Contains (functor_rows x) r × HasTypingOf (joined e f) x)) (λ r is. with_left source e f (λ x. Contains (functor_rows x) r) (p.functors r is)) (λ r is. with_right source e f (λ x. Contains (functor_rows x) r) (q.functors r is));
  modes = either e.modes f.modes (λ (r : Row). SomeItem source (λ at x. Contains (mode_rows x) r × HasTypingOf (joined e f) x)) (λ r is. with_left source e f (λ x. Contains (mode_rows x) r) (p.modes r is)) (λ r is. with_right source e f (λ x. Contains (mode_rows x) r) (q.modes r is));
  structures = either e.structures f.structures (λ (s : Structure). SomeItem source (λ at x. Contains (structures_of x) s × HasTypingOf (joined e f) x)) (λ s is. with_left source e f (λ x. Contains (structures_of x) s) (p.structures s is)) (λ s is. with_right source e f (λ x. Contains (structures_of x) s) (q.structures s is));
  sethoods = either e.sethoods f.sethoods (λ (s : Sym). SomeItem source (λ at x. Contains (sethoods_of x) s)) p.sethoods q.sethoods;
  notations = either e.notations f.notations (λ (n : Notation). SomeItem source (λ at x. Contains (notations_of x) n)) p.notations q.notations;
  typing = either e.typing f.typing (λ (c : Clause). SomeItem source (λ at x. Contains (typing_clauses x) c)) p.typing q.typing;
  further = either e.further f.further (λ (c : Clause). SomeItem source (λ at x. Contains (further_clauses x) c)) p.further q.further;
  equalities = either e.equalities f.equalities (λ (c : Clause). SomeItem source (λ at x. Contains (equality_clauses x) c)) p.equalities q.equalities;
  steps = either e.steps f.steps (λ (u : Unfolding). SomeItem source (λ at x. Contains (unfoldings_of x) u)) p.steps q.steps;
  expansions = either e.expansions f.expansions (λ (u : Unfolding). SomeItem source (λ at x. Contains (unfoldings_of x) u)) p.expansions q.expansions;
  registrations = either e.registrations f.registrations (λ (r : ExistentialRegistration). SomeItem source (λ at x. Contains (existentials_of x) r)) p.registrations q.registrations;
  theorems = either e.theorems f.theorems (λ (c : CitedStatement). SomeItem source (λ at x. Contains (statements_cited at x) c)) p.theorems q.theorems;
  schemes = either e.schemes f.schemes (λ (c : CitedScheme). SomeItem source (λ at x. Contains (schemes_cited at x) c)) p.schemes q.schemes;
}

-- what an item gives: its rows and structures, if any, with its typing clauses
item_entries : (source : Numbering → Item → Type 0) (at : Numbering) (x : Item) → source at x → (e : Environment) → HasTypingOf e x → Among e.functors (functor_rows x) → Among e.modes (mode_rows x) → Among e.structures (structures_of x) → Among e.sethoods (sethoods_of x) → Among e.notations (notations_of x) → Among e.typing (typing_clauses x) → Among e.further (further_clauses x) → Among e.equalities (equality_clauses x) → Among e.steps (unfoldings_of x) → Among e.expansions (unfoldings_of x) → Among e.registrations (existentials_of x) → Among e.theorems (statements_cited at x) → Among e.schemes (schemes_cited at x) → AreOfItems source e
item_entries source at x from e typed functors modes structures sethoods notations typing further equalities steps expansions registrations theorems schemes = record {
  functors = λ r is. (at, x, from, (functors r is, typed));
  modes = λ r is. (at, x, from, (modes r is, typed));
  structures = λ s is. (at, x, from, (structures s is, typed));
  sethoods = λ s is. (at, x, from, sethoods s is);
  notations = λ n is. (at, x, from, notations n is);
  typing = λ c is. (at, x, from, typing c is);
  further = λ c is. (at, x, from, further c is);
  equalities = λ c is. (at, x, from, equalities c is);
  steps = λ u is. (at, x, from, steps u is);
  expansions = λ u is. (at, x, from, expansions u is);
  registrations = λ r is. (at, x, from, registrations r is);
  theorems = λ c is. (at, x, from, theorems c is);
  schemes = λ c is. (at, x, from, schemes c is);
}

-- without rows and structures
other_entries : (source : Numbering → Item → Type 0) (at : Numbering) (x : Item) → source at x → (e : Environment) → e.functors ≡ [] → e.modes ≡ [] → e.structures ≡ [] → Among e.sethoods (sethoods_of x) → Among e.notations (notations_of x) → Among e.typing (typing_clauses x) → Among e.further (further_clauses x) → Among e.equalities (equality_clauses x) → Among e.steps (unfoldings_of x) → Among e.expansions (unfoldings_of x) → Among e.registrations (existentials_of x) → Among e.theorems (statements_cited at x) → Among e.schemes (schemes_cited at x) → AreOfItems source e
other_entries source at x from e functors modes structures sethoods notations typing further equalities steps expansions registrations theorems schemes = record {
  functors = λ r is. absurd (in_none r (subst (λ rs. Contains rs r) functors is));
  modes = λ r is. absurd (in_none r (subst (λ rs. Contains rs r) modes is));
  structures = λ s is. absurd (in_none s (subst (λ ss. Contains ss s) structures is));
  sethoods = λ s is. (at, x, from, sethoods s is);
  notations = λ n is. (at, x, from, notations n is);
  typing = λ c is. (at, x, from, typing c is);
  further = λ c is. (at, x, from, further c is);
  equalities = λ c is. (at, x, from, equalities c is);
  steps = λ u is. (at, x, from, steps u is);
  expansions = λ u is. (at, x, from, expansions u is);
  registrations = λ r is. (at, x, from, registrations r is);
  theorems = λ c is. (at, x, from, theorems c is);
  schemes = λ c is. (at, x, from, schemes c is);
}

pub entries_given : (source : Numbering → Item → Type 0) (at : Numbering) (x : Item) → source at x → AreOfItems source (of_item at x)
entries_given source at x from =
    item_entries source at x from (of_item at x) (all_among (typing_clauses x)) (all_among (functor_rows x)) (all_among (mode_rows x)) (all_among (structures_of x)) (all_among (sethoods_of x)) (all_among (notations_of x)) (all_among (typing_clauses x)) (all_among (further_clauses x)) (all_among (equality_clauses x)) (all_among (unfoldings_of x)) (all_among (unfoldings_of x)) (all_among (existentials_of x)) (all_among (statements_cited at x)) (all_among (schemes_cited at x))

pub entries_part : (source : Numbering → Item → Type 0) (articles : List Name) (kind : DirectiveKind) (at : Numbering) (x : Item) → source at x → AreOfItems source (share articles kind at x)
entries_part source articles Vocabularies at x from = entries_none source
entries_part source articles Notations at x from = other_entries source at x from (notations_share x) refl refl refl (none_among (sethoods_of x)) (all_among (notations_of x)) (none_among (typing_clauses x)) (none_among (further_clauses x)) (none_among (equality_clauses x)) (none_among (unfoldings_of x)) (none_among (unfoldings_of x)) (none_among (existentials_of x)) (none_among (statements_cited at x)) (none_among (schemes_cited at x))
entries_part source articles Constructors at x from =
    if_holds (AreOfItems source) (is_registration x) no_environment (constructors_share x) (entries_none source)
    (item_entries source at x from (constructors_share x) (all_among (typing_clauses x)) (all_among (functor_rows x)) (all_among (mode_rows x)) (all_among (structures_of x)) (all_among (sethoods_of x)) (none_among (notations_of x)) (all_among (typing_clauses x)) (all_among (further_clauses x)) (none_among (equality_clauses x)) (none_among (unfoldings_of x)) (none_among (unfoldings_of x)) (none_among (existentials_of x)) (none_among (statements_cited at x)) (none_among (schemes_cited at x)))
entries_part source articles Registrations at x from =
    if_holds (AreOfItems source) (is_registration x) (if registration_in articles x then registrations_share x else no_environment) no_environment
    (if_holds (AreOfItems source) (registration_in articles x) (registrations_share x) no_environment
    (other_entries source at x from (registrations_share x) refl refl refl (none_among (sethoods_of x)) (none_among (notations_of x)) (all_among (typing_clauses x)) (all_among (further_clauses x)) (none_among (equality_clauses x)) (none_among (unfoldings_of x)) (none_among (unfoldings_of x)) (all_among (existentials_of x)) (none_among (statements_cited at x)) (none_among (schemes_cited at x)))
    (entries_none source))
    (entries_none source)
entries_part source articles Definitions at x from = other_entries source at x from (definitions_share x) refl refl refl (none_among (sethoods_of x)) (none_among (notations_of x)) (none_among (typing_clauses x)) (none_among (further_clauses x)) (all_among (equality_clauses x)) (all_among (unfoldings_of x)) (all_among (unfoldings_of x)) (none_among (existentials_of x)) (none_among (statements_cited at x)) (none_among (schemes_cited at x))
entries_part source articles Theorems at x from = other_entries source at x from (theorems_share at x) refl refl refl (none_among (sethoods_of x)) (none_among (notations_of x)) (none_among (typing_clauses x)) (none_among (further_clauses x)) (none_among (equality_clauses x)) (none_among (unfoldings_of x)) (none_among (unfoldings_of x)) (none_among (existentials_of x)) (all_among (statements_cited at x)) (none_among (schemes_cited at x))
entries_part source articles Schemes at x from = other_entries source at x from (schemes_share at x) refl refl refl (none_among (sethoods_of x)) (none_among (notations_of x)) (none_among (typing_clauses x)) (none_among (further_clauses x)) (none_among (equality_clauses x)) (none_among (unfoldings_of x)) (none_among (unfoldings_of x)) (none_among (existentials_of x)) (none_among (statements_cited at x)) (all_among (schemes_cited at x))
entries_part source articles Requirements at x from = entries_none source
entries_part source articles Equalities at x from = other_entries source at x from (equalities_share x) refl refl refl (none_among (sethoods_of x)) (none_among (notations_of x)) (none_among (typing_clauses x)) (none_among (further_clauses x)) (all_among (equality_clauses x)) (none_among (unfoldings_of x)) (none_among (unfoldings_of x)) (none_among (existentials_of x)) (none_among (statements_cited at x)) (none_among (schemes_cited at x))
entries_part source articles Expansions at x from = other_entries source at x from (expansions_share x) refl refl refl (none_among (sethoods_of x)) (none_among (notations_of x)) (none_among (typing_clauses x)) (none_among (further_clauses x)) (none_among (equality_clauses x)) (none_among (unfoldings_of x)) (all_among (unfoldings_of x)) (none_among (existentials_of x)) (none_among (statements_cited at x)) (none_among (schemes_cited at x))

pub entry_law : EntryLaw
entry_law head exports e v =
    let_in_holds (AreOfItems (IsOfExports exports)) (IsOfExports exports)
    (record { nothing = entries_none (IsOfExports exports); both = entries_both (IsOfExports exports); whole = entries_given (IsOfExports exports); part = entries_part (IsOfExports exports) })
    head exports e (λ d is at x stands. (d, is, stands)) v

-- from a kind of items to a wider one
wider_item : (source other : Numbering → Item → Type 0) → ((at : Numbering) (x : Item) → source at x → other at x) → (P : Numbering → Item → Type 0) → SomeItem source P → SomeItem other P
wider_item source other turn P g = (g.0, g.1, turn g.0 g.1 g.2, g.3)

pub wider_entries : (source other : Numbering → Item → Type 0) → ((at : Numbering) (x : Item) → source at x → other at x) → (e : Environment) → AreOfItems source e → AreOfItems other e
wider_entries source other turn e p = record {
  functors = λ r is. wider_item source other turn (λ at x. Contains (functor_rows x) r × HasTypingOf e x) (p.functors r is);
  modes = λ r is. wider_item source other turn (λ at x. Contains (mode_rows x) r × HasTypingOf e x) (p.modes r is);
  structures = λ s is. wider_item source other turn (λ at x. Contains (structures_of x) s × HasTypingOf e x) (p.structures s is);
  sethoods = λ s is. wider_item source other turn (λ at x. Contains (sethoods_of x) s) (p.sethoods s is);
  notations = λ n is. wider_item source other turn (λ at x. Contains (notations_of x) n) (p.notations n is);
  typing = λ c is. wider_item source other turn (λ at x. Contains (typing_clauses x) c) (p.typing c is);
  further = λ c is. wider_item source other turn (λ at x. Contains (further_clauses x) c) (p.further c is);
  equalities = λ c is. wider_item source other turn (λ at x. Contains (equality_clauses x) c) (p.equalities c is);
  steps = λ u is. wider_item source other turn (λ at x. Contains (unfoldings_of x) u) (p.steps u is);
  expansions = λ u is. wider_item source other turn (λ at x. Contains (unfoldings_of x) u) (p.expansions u is);
  registrations = λ r is. wider_item source other turn (λ at x. Contains (existentials_of x) r) (p.registrations r is);
  theorems = λ c is. wider_item source other turn (λ at x. Contains (statements_cited at x) c) (p.theorems c is);
  schemes = λ c is. wider_item source other turn (λ at x. Contains (schemes_cited at x) c) (p.schemes c is);
}

-- an article's own part
pub own_part_law : OwnPartLaw
own_part_law exports own e p =
    wider_entries (IsOfExports exports) (IsOfExports (own ∷ exports)) (λ at x from. (from.0, a_later own from.0 exports from.1, from.2)) e p

-- what stands among items stands there with more behind them, and one more stands behind them all
stands_before : {at there : Numbering} {xs : List Item} {y : Item} (x : Item) → StandsAmong at xs there y → StandsAmong at (xs ++ x ∷ []) there y
stands_before x first_item = first_item
stands_before x (later_item s) = later_item (stands_before x s)

stands_last : (at : Numbering) (xs : List Item) (x : Item) → StandsAmong at (xs ++ x ∷ []) (behind_items at xs) x
stands_last at [] x = first_item
stands_last at (y ∷ ys) x = later_item (stands_last (numbered at y) ys x)

of_own : (exports : List Export) (own : Export) (y : Item) (at : Numbering) (x : Item) → IsOfExports (own ∷ exports) at x → IsOfExports (with_item own y ∷ exports) at x
of_own exports own y at x from = elim (first_or_later own from.0 exports from.1) [
  | inl same ↦ (with_item own y, the_first (with_item own y) exports, stands_before y (subst (λ k. StandsIn k at x) (sym same) from.2))
  | inr other ↦ (from.0, a_later (with_item own y) from.0 exports other, from.2)
]

pub own_item_law : OwnItemLaw
own_item_law exports own x e p =
    let at : Numbering = behind_items (at_start own.name.number) own.items in
    entries_both (IsOfExports (with_item own x ∷ exports)) e (of_item at x)
    (wider_entries (IsOfExports (own ∷ exports)) (IsOfExports (with_item own x ∷ exports)) (of_own exports own x) e p)
    (entries_given (IsOfExports (with_item own x ∷ exports)) at x (with_item own x, the_first (with_item own x) exports, stands_last (at_start own.name.number) own.items x))
