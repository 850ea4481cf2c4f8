-- Where an article stands soundly, reasonings are grounded, and what is decided is met.
use Rattle.std.proofs.Common.{◌≡◌, inl, inr, true, List, [], ◌∷◌, ◌++◌, take, length, sym, ap, ◌∙◌, subst}
use Rattle.std.specs.Prelude.{All, Contains, flat_map}
use Rattle.std.specs.List.{list_all}
use Rattle.std.proofs.Math.Seq.{take-append_seam}
use Rattle.std.proofs.lemmas.List.Elements.{Contains-append_left, Contains-append_right, Contains-append_cases, All-cons}
use Rattle.mz_logic.specs.Formula.{Formula}
use Rattle.mz_logic.specs.Derives.{Derives}
use Rattle.mz_logic.proofs.Each.{premises_within, derives_more}
use Rattle.mz_core.specs.Erasure.{erase}
use Rattle.mz_core.specs.declared.item.Item.{Item}
use Rattle.mz_core.specs.declared.outcome.Export.{Export}
use Rattle.mz_core.proofs.AllLemmas.{all-append}
use Rattle.mz_ground.specs.ClauseFormula.{clause_formula}
use Rattle.mz_ground.specs.Table.{Extends}
use Rattle.mz_ground.specs.declared.clause.Clause.{Clause}
use Rattle.mz_ground.proofs.ListLemmas.{contains_none, contains_cases, extends_itself}
use Rattle.mz_items.specs.Exports.{item_statements}
use Rattle.mz_axioms.specs.Library.{HasClosedItems, granted}
use Rattle.mz_dependency_laws.proofs.FormulaProofs.{formulas_law}
use Rattle.mz_environment.specs.declared.environment.Environment.{Environment}
use Rattle.mz_closed_laws.specs.ClosedClauses.{clause_closed, unfolding_closed}
use Rattle.mz_closed_laws.specs.ClosedEnvironment.{cited_statement_closed, cited_scheme_closed}
use Rattle.mz_closed_laws.proofs.FormulaProofs.{constant_law}
use Rattle.mz_env_laws.specs.DerivedLaws.{AreSaid, AllOwedDerive}
use Rattle.mz_env_laws.proofs.DerivedProofs.{clauses_law, unfoldings_law}
use Rattle.mz_env_laws.proofs.SchemeProofs.{schemes_law}
use Rattle.mz_env_laws.proofs.StatementProofs.{statements_law}
use Rattle.mz_chain_clause_laws.proofs.ChainClauseProofs.{chain_clauses_law}
use Rattle.mz_choice_laws.proofs.ListParts.{all-flat_map, all-one}
use Rattle.mz_types.specs.Known.{letters_clauses}
use Rattle.mz_obligations.specs.Done.{clauses_for, IsDone}
use Rattle.mz_obligations.specs.declared.obligation.Duty.{Duty}
use Rattle.mz_obligations.specs.declared.obligation.Duty.TheVariants.{By, From}
use Rattle.mz_obligations.specs.declared.obligation.Extent.{Extent}
use Rattle.mz_obligations.specs.declared.obligation.Obligation.{Obligation}
use Rattle.mz_block_laws.specs.Met.{AreHeld}
use Rattle.mz_walk_laws.specs.Grounds.{IsGrounded, IsProper}
use Rattle.mz_level_laws.specs.Level.{IsLevel}
use Rattle.mz_level_laws.proofs.ClosedLemmas.{closed_law}
use Rattle.mz_standing.specs.Standing.{clauses_of, extent_of}
use Rattle.mz_standing.specs.declared.standing.Standing.{Standing}
use Rattle.mz_standing_laws.specs.Soundly.{axioms_of, own_of, Setting, axioms_at, AreAmong, StandsSoundly, basis}
use Rattle.mz_standing_laws.specs.Laws.{DecidedLaw, GroundedLaw}
use Rattle.mz_standing_laws.proofs.OwedProofs.{among_left, among_further, follow_more, owed_more, owed_there, items_closed, said_there, clause_there, clauses_closed}

-- what the used exports and the article's own items say

abbrev all_exports : Setting → Standing → List Export
all_exports g s = own_of g.name s.items ∷ g.used

used_among : (g : Setting) (s : Standing) (ax : List Formula) → AreAmong (axioms_at g s) ax → AreAmong (axioms_of g.used) ax
used_among g s ax among = among_further (axioms_of g.used) (axioms_at g s) ax (among_left (axioms_of g.used) (granted s.items)) among

in_own : (g : Setting) (s : Standing) (d : Export) (x : Item) → own_of g.name s.items ≡ d → Contains d.items x → Contains s.items x
in_own g s d x same member = subst (λ (e : Export). Contains e.items x) (sym same) member

all_said : (g : Setting) (s : Standing) (ax : List Formula) → StandsSoundly g s → AreAmong (axioms_at g s) ax → AreSaid ax [] (all_exports g s)
all_said g s ax sound among d is x member = elim (contains_cases (own_of g.name s.items) d g.used is) [
  | inl same ↦ follow_more (axioms_at g s) ax (item_statements x) among (said_there (axioms_of g.used) s.items sound.met x (in_own g s d x same member))
  | inr later ↦ follow_more (axioms_of g.used) ax (item_statements x) (used_among g s ax among) ((formulas_law g.used).0 [] d later x member)
]

all_owed : (g : Setting) (s : Standing) (ax : List Formula) → StandsSoundly g s → AreAmong (axioms_at g s) ax → AllOwedDerive ax (all_exports g s)
all_owed g s ax sound among d is x member q owes_it = elim (contains_cases (own_of g.name s.items) d g.used is) [
  | inl same ↦ (owed_more (axioms_at g s) ax x among (owed_there (axioms_of g.used) s.items sound.met x (in_own g s d x same member))).owed q owes_it
  | inr later ↦
      derives_more (axioms_of g.used) ax q.premises q.premises q.conclusion (used_among g s ax among) (λ k has. has) ((formulas_law g.used).1 d later x member q owes_it)
]

pub all_closed : (g : Setting) (s : Standing) → StandsSoundly g s → All HasClosedItems (all_exports g s)
all_closed g s sound = All-cons HasClosedItems (own_of g.name s.items) g.used (items_closed (axioms_of g.used) s.items sound.met) g.used_closed

-- the article's clauses

held_there : (g : Setting) (s : Standing) → StandsSoundly g s → AreHeld (axioms_at g s) [] (g.clauses ++ flat_map clauses_of s.items)
held_there g s sound c is = elim (Contains-append_cases g.clauses (flat_map clauses_of s.items) c is) [
  | inl old ↦ derives_more (axioms_of g.used) (axioms_at g s) [] [] (clause_formula c) (among_left (axioms_of g.used) (granted s.items)) (λ k has. has) (g.clauses_hold c old)
  | inr new ↦ clause_there (axioms_of g.used) s.items sound.met c new
]

held_clauses : (g : Setting) (s : Standing) → StandsSoundly g s → AreHeld (axioms_at g s) [] s.clauses
held_clauses g s sound = subst (AreHeld (axioms_at g s) []) (sym sound.clauses_are) (held_there g s sound)

closed_clauses : (g : Setting) (s : Standing) → StandsSoundly g s → list_all clause_closed s.clauses ≡ true
closed_clauses g s sound =
    subst (λ cs. list_all clause_closed cs ≡ true) (sym sound.clauses_are)
    (all-append clause_closed g.clauses (flat_map clauses_of s.items) g.clauses_closed
    (all-flat_map clause_closed clauses_of s.items (λ x is. clauses_closed x (owed_there (axioms_of g.used) s.items sound.met x is).closed)))

-- reasonings are grounded

with_held : (ax held : List Formula) (f : Formula) → Derives ax [] f → Derives ax held f
with_held ax held f d = premises_within [] held f ax (λ k none. absurd (contains_none k none)) d

pub grounded_law : GroundedLaw
grounded_law g s ax held letters sound among closed_letters held_letters =
    let e : Environment = s.environment in
    let exports : List Export = all_exports g s in
    let said : AreSaid ax [] exports = all_said g s ax sound among in
    let closed : All HasClosedItems exports = all_closed g s sound in
    record {
      typing_clauses = λ k is. elim (Contains-append_cases e.typing (letters_clauses letters) k is) [
        | inl front ↦
            with_held ax held (clause_formula k)
            (clauses_law exports e sound.entries closed ax [] said k (Contains-append_left (e.typing ++ e.further) e.equalities k (Contains-append_left e.typing e.further k front)))
        | inr back ↦ held_letters k back
      ];
      clauses = λ k is. derives_more (axioms_at g s) ax [] held (clause_formula k) among (λ f none. absurd (contains_none f none)) (held_clauses g s sound k is);
      steps = λ u is. (unfoldings_law exports e sound.entries ax said u (Contains-append_left e.steps e.expansions u is), all-one unfolding_closed e.steps u is sound.closed_so.steps);
      expansions = λ u is. (unfoldings_law exports e sound.entries ax said u (Contains-append_right e.steps e.expansions u is), all-one unfolding_closed e.expansions u is sound.closed_so.expansions);
      theorems = λ c is. (
        with_held ax held (erase c.statement) (statements_law exports e sound.entries ax [] said c is),
        (closed_law 0 c.statement (all-one cited_statement_closed e.theorems c is sound.closed_so.theorems)).1,
        (closed_law 0 c.statement (all-one cited_statement_closed e.theorems c is sound.closed_so.theorems)).0,
      );
      schemes = λ x is. (schemes_law exports e sound.entries ax said (all_owed g s ax sound among) x is, all-one cited_scheme_closed e.schemes x is sound.closed_so.schemes);
      chains = λ c are. chain_clauses_law exports e sound.entries closed c (λ l is. closed_letters l (subst (λ ls. Contains ls l) are is));
    }

-- without letters
pub grounded : (g : Setting) (s : Standing) (ax : List Formula) → StandsSoundly g s → AreAmong (axioms_at g s) ax → IsGrounded (basis ax [] s) []
grounded g s ax sound among = grounded_law g s ax [] [] sound among (λ l none. absurd (contains_none l none)) (λ k none. absurd (contains_none k none))

pub is_proper : (g : Setting) (s : Standing) (ax : List Formula) → StandsSoundly g s → IsProper IsLevel (basis ax [] s) [] s.context
is_proper g s ax sound = record { is_whole = sound.level; order = sound.order; letters = sound.no_letters }

-- what is decided is met

take_extended : (cs final : List Clause) → Extends cs final → take (length cs) final ≡ cs
take_extended cs final p = ap (take (length cs)) p.1 ∙ take-append_seam cs p.0

clauses_above : (s : Standing) (final : List Clause) (o : Obligation) → Extends s.clauses final → o.extent ≡ extent_of s → clauses_for final o ≡ s.clauses ++ o.letters
clauses_above s final o p at = ap (λ (x : Extent). take x.clauses final ++ o.letters) at ∙ ap (λ cs. cs ++ o.letters) (take_extended s.clauses final p)

done_by : (ax : List Formula) (cs : List Clause) (d : Duty) → IsDone [] cs d → IsDone ax cs d
done_by ax cs (By p) h = derives_more [] ax _ _ p.conclusion (λ k none. absurd (contains_none k none)) (λ k is. is) h
done_by ax cs (From v) h = h

pub decided_law : DecidedLaw
decided_law g s final letters os sound p closed made decided ax o is =
    let at : clauses_for final o ≡ s.clauses ++ o.letters = clauses_above s final o p (made o is).0 in
    let here : clauses_for s.clauses o ≡ s.clauses ++ o.letters = clauses_above s s.clauses o (extends_itself s.clauses) (made o is).0 in
    let all : list_all clause_closed (clauses_for final o) ≡ true =
    subst (λ cs. list_all clause_closed cs ≡ true) (sym (at ∙ ap (λ ls. s.clauses ++ ls) (made o is).1)) (all-append clause_closed s.clauses (letters_clauses letters) (closed_clauses g s sound) closed) in
    done_by ax (clauses_for s.clauses o) o.duty
    (subst (λ cs. IsDone [] cs o.duty) (at ∙ sym here) (decided o is (constant_law (clauses_for final o) all)))
