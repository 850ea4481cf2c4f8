-- Proofs that what entries say derives.
use Rattle.std.proofs.Common.{◌≡◌, ◌⊎◌, inl, inr, List, [], ◌∷◌, ◌++◌, map, sym, subst, true}
use Rattle.std.specs.Prelude.{All, Contains, flat_map}
use Rattle.std.proofs.lemmas.List.Elements.{Contains-append_left, Contains-append_right, Contains-append_cases, All-contains}
use Rattle.mz_logic.specs.Formula.{Formula}
use Rattle.mz_logic.specs.Derives.{Derives}
use Rattle.mz_logic.proofs.Each.{axiom_derives}
use Rattle.mz_core.specs.declared.item.Item.{Item}
use Rattle.mz_core.specs.declared.outcome.Export.{Export}
use Rattle.mz_ground.specs.ClauseFormula.{clause_formula}
use Rattle.mz_ground.specs.declared.clause.Clause.{Clause}
use Rattle.mz_items.specs.Closed.{item_closed}
use Rattle.mz_items.specs.Exports.{item_statements, statements_of}
use Rattle.mz_axioms.specs.Library.{HasClosedItems}
use Rattle.mz_clauses.specs.Clauses.{typing_clauses, further_clauses, equality_clauses, item_clauses}
use Rattle.mz_clause_laws.specs.RowLaws.{AllFollow}
use Rattle.mz_clause_laws.proofs.ItemProofs.{item_law}
use Rattle.mz_unfolding_laws.specs.UnfoldingLaw.{Unfolds, AllUnfold}
use Rattle.mz_unfolding_laws.proofs.UnfoldingProofs.{unfolding_law}
use Rattle.mz_environment.specs.Unfoldings.{unfoldings_of}
use Rattle.mz_environment.specs.declared.unfoldings.Unfolding.{Unfolding}
use Rattle.mz_environment.specs.declared.environment.Environment.{Environment}
use Rattle.mz_env_laws.specs.Entries.{IsOfExports, SomeItem, AreOfItems}
use Rattle.mz_env_laws.specs.DerivedLaws.{AreSaid, SaidLaw, ClausesLaw, UnfoldingsLaw}
use Rattle.mz_env_laws.proofs.Along.{in_none, the_first, a_later, first_or_later, stands_member}
use Rattle.mz_env_laws.proofs.ClosedProofs.{member_holds}
use Rattle.mz_env_laws.proofs.ClauseProofs.{of_typing, of_further, of_equalities}

-- of lists of which each entry derives, or unfolds, each one does
pub one_follows : (ax g : List Formula) (cs : List Clause) (c : Clause) → AllFollow ax g (map clause_formula cs) → Contains cs c → Derives ax g (clause_formula c)
one_follows ax g [] c all is = absurd (in_none c is)
one_follows ax g (d ∷ ds) c all is = elim (first_or_later d c ds is) [ inl same ↦ subst (λ k. Derives ax g (clause_formula k)) same all.0 | inr later ↦ one_follows ax g ds c all.1 later ]

one_unfolds : (ax : List Formula) (us : List Unfolding) (u : Unfolding) → AllUnfold ax us → Contains us u → Unfolds ax u
one_unfolds ax [] u all is = absurd (in_none u is)
one_unfolds ax (v ∷ vs) u all is = elim (first_or_later v u vs is) [ inl same ↦ subst (Unfolds ax) same all.0 | inr later ↦ one_unfolds ax vs u all.1 later ]

-- what one of a list gives is among what all of them give
pub in_flat : {X Y : Type 0} (f : X → List Y) (xs : List X) (x : X) (y : Y) → Contains xs x → Contains (f x) y → Contains (flat_map f xs) y
in_flat f [] x y is has = absurd (in_none x is)
in_flat f (z ∷ zs) x y is has = elim (first_or_later z x zs is) [
  | inl same ↦ Contains-append_left (f z) (flat_map f zs) y (subst (λ u. Contains (f u) y) (sym same) has)
  | inr later ↦ Contains-append_right (f z) (flat_map f zs) y (in_flat f zs x y later has)
]

-- what the exports say are axioms
pub all_axioms : (ax g fs : List Formula) → ((f : Formula) → Contains fs f → Contains ax f) → AllFollow ax g fs
all_axioms ax g [] among = tt
all_axioms ax g (f ∷ fs) among = (axiom_derives ax g f (among f (the_first f fs)), all_axioms ax g fs (λ h is. among h (a_later f h fs is)))

pub said_law : SaidLaw
said_law exports premises d is x member =
    all_axioms (flat_map statements_of exports) premises (item_statements x) (λ f says. in_flat statements_of exports d f is (in_flat item_statements d.items x f member says))

-- an entry's item says it
clause_derives : (exports : List Export) → All HasClosedItems exports → (axioms premises : List Formula) → AreSaid axioms premises exports → (c : Clause) (P : Item → Type 0) → ((x : Item) → P x → Contains (item_clauses x) c) → SomeItem (IsOfExports exports) (λ at x. P x) → Derives axioms premises (clause_formula c)
clause_derives exports closed axioms premises each c P turn g =
    let member : Contains g.2.0.items g.1 = stands_member g.2.2 in
    let whole : item_closed g.1 ≡ true = member_holds g.2.0.items g.1 (All-contains HasClosedItems exports g.2.0 closed g.2.1) member in
    one_follows axioms premises (item_clauses g.1) c (item_law g.1 axioms premises whole (each g.2.0 g.2.1 g.1 member)) (turn g.1 g.3)

pub clauses_law : ClausesLaw
clauses_law exports e p closed axioms premises each c is =
    elim (Contains-append_cases (e.typing ++ e.further) e.equalities c is) [
      | inl front ↦ elim (Contains-append_cases e.typing e.further c front) [
        | inl first ↦ clause_derives exports closed axioms premises each c (λ x. Contains (typing_clauses x) c) (λ x has. of_typing x c has) (p.typing c first)
        | inr second ↦ clause_derives exports closed axioms premises each c (λ x. Contains (further_clauses x) c) (λ x has. of_further x c has) (p.further c second)
      ]
      | inr back ↦ clause_derives exports closed axioms premises each c (λ x. Contains (equality_clauses x) c) (λ x has. of_equalities x c has) (p.equalities c back)
    ]

unfolding_derives : (exports : List Export) (axioms : List Formula) → AreSaid axioms [] exports → (u : Unfolding) → SomeItem (IsOfExports exports) (λ at x. Contains (unfoldings_of x) u) → Unfolds axioms u
unfolding_derives exports axioms each u g = one_unfolds axioms (unfoldings_of g.1) u (unfolding_law g.1 axioms (each g.2.0 g.2.1 g.1 (stands_member g.2.2))) g.3

pub unfoldings_law : UnfoldingsLaw
unfoldings_law exports e p axioms each u is = elim (Contains-append_cases e.steps e.expansions u is) [ inl front ↦ unfolding_derives exports axioms each u (p.steps u front) | inr back ↦ unfolding_derives exports axioms each u (p.expansions u back) ]
