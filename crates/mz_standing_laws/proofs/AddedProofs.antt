-- An article each of whose items is owed keeps a sound library sound.
use Rattle.std.proofs.Common.{◌≡◌, true, false, ◌||◌, List, [], ◌∷◌, ◌++◌, refl, sym, ap, ◌∙◌, subst}
use Rattle.std.specs.Prelude.{All, Contains}
use Rattle.std.specs.List.{list_all, list_any}
use Rattle.std.proofs.lemmas.List.Elements.{All-nil, All-cons, All-contains, All-contains_itself, All-weaker}
use Rattle.mz_base.specs.declared.name.Name.{Name}
use Rattle.mz_base.specs.declared.head.Directive.{Directive}
use Rattle.mz_logic.specs.Formula.{Formula}
use Rattle.mz_core.specs.declared.item.Item.{Item}
use Rattle.mz_core.specs.declared.outcome.Export.{Export}
use Rattle.mz_core.proofs.AllLemmas.{all-append}
use Rattle.mz_ground.proofs.ListLemmas.{contains_first, contains_later}
use Rattle.mz_items.specs.Items.{owes}
use Rattle.mz_items.specs.Exports.{is_primitive}
use Rattle.mz_axioms.specs.Library.{HasName, Sound, AreExportsOf, IsDerivable, OwesDerivable, HasClosedItems, added}
use Rattle.mz_axioms.proofs.AddedLemmas.{sound_added}
use Rattle.mz_environment.specs.declared.environment.Environment.{Environment}
use Rattle.mz_closed_laws.specs.ClosedClauses.{clause_closed}
use Rattle.mz_closed_laws.specs.ClosedEnvironment.{IsClosedEnvironment}
use Rattle.mz_env_laws.specs.Used.{UsedFor}
use Rattle.mz_env_laws.proofs.ClosedProofs as let_in
use Rattle.mz_env_laws.proofs.DerivedProofs.{clauses_law}
use Rattle.mz_env_laws.proofs.UsedProofs as used
use Rattle.mz_dependency_laws.specs.Dependencies.{IsUsedBy}
use Rattle.mz_dependency_laws.proofs.FormulaProofs.{formulas_law}
use Rattle.mz_dependency_laws.proofs.KnownDependencies.{known_dependencies}
use Rattle.mz_dependency_laws.proofs.LibraryRests.{used_exports, rests_on_used}
use Rattle.mz_corpus.specs.Directives.{dependencies_of}
use Rattle.mz_standing.specs.Standing.{clauses_in}
use Rattle.mz_standing_laws.specs.Owed.{AreOwed}
use Rattle.mz_standing_laws.specs.Soundly.{axioms_of}
use Rattle.mz_standing_laws.specs.Added.{UsedLaw, AddedLaw}
use Rattle.mz_standing_laws.proofs.OwedProofs.{owed_there, items_closed}

-- clauses that are let in have no constant and no loose index
let_in_closed : (e : Environment) → IsClosedEnvironment e → list_all clause_closed (clauses_in e) ≡ true
let_in_closed e closed = all-append clause_closed (e.typing ++ e.further) e.equalities (all-append clause_closed e.typing e.further closed.typing closed.further) closed.equalities

-- exports of a sound library
all_of : (ds : List Export) → ((d : Export) → Contains ds d → HasClosedItems d) → All HasClosedItems ds
all_of [] each = All-nil HasClosedItems
all_of (d ∷ ds) each = All-cons HasClosedItems d ds (each d (contains_first d ds)) (all_of ds (λ c is. each c (contains_later d c ds is)))

pub closed_exports : (library exports : List Export) → Sound library → AreExportsOf library exports → All HasClosedItems exports
closed_exports library exports sound of_library = all_of exports (λ d is. All-contains HasClosedItems library d sound.closed (All-contains (Contains library) exports d of_library.1 is))

-- those that are used are of the library, as for an article with these dependencies
abbrev with_dependencies : Name → List Directive → Export
with_dependencies name head = record { name = name; dependencies = dependencies_of head; items = []; notations = [] }

pub used_law : UsedLaw
used_law name head library exports e sound of_library lets =
    let shared : UsedFor head exports e = used.used_law head exports e lets in
    let closed_used : All HasClosedItems shared.used =
    all_of shared.used (λ d is. All-contains HasClosedItems library d sound.closed (used_exports library exports (with_dependencies name head) head sound of_library refl d (shared.are_used d is)).0) in
    let ax : List Formula = axioms_of shared.used in (
      record {
        name = name;
        used = shared.used;
        clauses = clauses_in e;
        used_closed = closed_used;
        clauses_closed = let_in_closed e (let_in.closed_law head exports e (closed_exports library exports sound of_library) lets);
        clauses_hold = λ k is. clauses_law shared.used e shared.entries closed_used ax [] ((formulas_law shared.used).0 []) k is;
      },
      record { named = refl; are_used = shared.are_used; entries = shared.entries; clauses_are = refl },
    )

-- none of the built-in articles' own
no_primitive : (items : List Item) → ((x : Item) → Contains items x → is_primitive x ≡ false) → list_any is_primitive items ≡ false
no_primitive [] each = refl
no_primitive (x ∷ xs) each = ap (λ b. b || list_any is_primitive xs) (each x (contains_first x xs)) ∙ no_primitive xs (λ y is. each y (contains_later x y xs is))

owes_so : (library : List Export) (d : Export) (us : List Export) → Sound library → ((u : Export) → Contains us u → IsUsedBy library d u) → AreOwed (axioms_of us) d.items → OwesDerivable (added d library) d
owes_so library d us sound is_used met k x at =
    All-weaker (Contains (owes x)) (IsDerivable (added d library) d k) (λ q is. rests_on_used library d k us q sound is_used ((met k x at).owed q is)) (owes x) (All-contains_itself (owes x))

pub added_law : AddedLaw
added_law head library exports e d g sound of_library lets setting fresh depends with_notations met =
    let ax : List Formula = axioms_of g.used in
    let is_used : (u : Export) → Contains g.used u → IsUsedBy library d u = λ u is. used_exports library exports d head sound of_library depends u (setting.are_used u is) in
    sound_added library d sound
    (record {
      fresh = fresh;
      primitive = λ built. no_primitive d.items (λ x is. (owed_there ax d.items met x is).own);
      with_notations = with_notations;
      closed = items_closed ax d.items met;
      known = subst (All (HasName library)) (sym depends) (known_dependencies library exports head e of_library lets);
      derivable = owes_so library d g.used sound is_used met;
    })
