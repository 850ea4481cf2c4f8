-- An article stands soundly at its start and behind each of its items.
use Rattle.std.proofs.Common.{◌≡◌, inl, inr, ℕ, true, List, [], ◌∷◌, ◌++◌, append-nil, refl, sym, ap, ◌∙◌, subst, None}
use Rattle.std.specs.Prelude.{Contains}
use Rattle.std.proofs.lemmas.List.Elements.{Contains-append_left}
use Rattle.std.proofs.lemmas.Option.{none-some}
use Rattle.mz_logic.specs.Formula.{Formula}
use Rattle.mz_logic.specs.Derives.{Derives}
use Rattle.mz_logic.specs.declared.sequent.Sequent.{Sequent}
use Rattle.mz_logic.proofs.Rules.{hypothesis}
use Rattle.mz_logic.proofs.Each.{cut_each, premises_within, derives_more}
use Rattle.mz_core.specs.Closed.{statement_under}
use Rattle.mz_core.specs.Erasure.{erase}
use Rattle.mz_core.specs.Statement.{Statement}
use Rattle.mz_core.specs.TypedSequent.{typed_sequent, erased_sequent}
use Rattle.mz_core.specs.declared.item.Item.{Item}
use Rattle.mz_core.specs.declared.item.Item.TheVariants.{Theorem}
use Rattle.mz_ground.specs.Table.{Extends}
use Rattle.mz_ground.specs.declared.clause.Clause.{Clause}
use Rattle.mz_ground.proofs.ListLemmas.{contains_none, contains_one}
use Rattle.mz_items.specs.Items.{owes}
use Rattle.mz_context.specs.Context.{next}
use Rattle.mz_context.specs.declared.context.Context.{Context}
use Rattle.mz_environment.specs.Cited.{at_start, numbered}
use Rattle.mz_environment.specs.Environment.{joined, of_item}
use Rattle.mz_environment.specs.declared.numbering.Numbering.{Numbering}
use Rattle.mz_closed_laws.proofs.EnvironmentProofs.{given_law, joined_law}
use Rattle.mz_types.specs.Known.{letters_clauses}
use Rattle.mz_env_laws.specs.Entries.{IsOfExports, AreOfItems, behind_items}
use Rattle.mz_env_laws.proofs.EntryProofs.{own_part_law, own_item_law}
use Rattle.mz_env_laws.proofs.ClosedProofs as let_in
use Rattle.mz_names.specs.Closing.{for_all}
use Rattle.mz_obligations.specs.declared.obligation.Obligation.{Obligation}
use Rattle.mz_steps_laws.specs.Facts.{facts}
use Rattle.mz_block_laws.specs.Orders.{Stands, AllStand}
use Rattle.mz_block_laws.specs.Met.{AreMet}
use Rattle.mz_walk.specs.Walked.{State}
use Rattle.mz_walk_laws.specs.Grounds.{ReadsWell, IsProper}
use Rattle.mz_walk_laws.specs.MadeLaws.{AreMadeAt}
use Rattle.mz_walk_laws.proofs.WalkProofs as walk
use Rattle.mz_walk_laws.proofs.MadeProofs.{justification_made_law, statement_made_law}
use Rattle.mz_level_laws.specs.Level.{IsLevel}
use Rattle.mz_level_laws.proofs.ClosedLemmas.{closed_law}
use Rattle.mz_level_laws.proofs.SentenceProofs as level
use Rattle.mz_level_laws.proofs.LevelProofs as level_proofs
use Rattle.mz_standing.specs.Standing.{extent_of, with_context, with_item, behind_item, behind_theorem}
use Rattle.mz_standing.specs.declared.standing.Standing.{Standing}
use Rattle.mz_standing_laws.specs.Owed.{IsOwed}
use Rattle.mz_standing_laws.specs.Soundly.{axioms_of, own_of, Setting, axioms_at, AreAmong, AreDecided, StandsSoundly, basis}
use Rattle.mz_standing_laws.specs.Laws.{StartLaw, ItemLaw, LabelLaw, ContextLaw, LeftLaw, ReservationLaw, TheoremLaw, StatementLaw}
use Rattle.mz_standing_laws.proofs.OwedProofs.{among_further, met_further, granted_further, clauses_further}
use Rattle.mz_standing_laws.proofs.GroundProofs.{grounded, is_proper, decided_law}
use Rattle.mz_standing_laws.proofs.ContextProofs.{facts_part, order_part, behind_item_part, part_further, IsReserved, is_reserved, theorem_fact, theorem_order, theorem_level}

-- at the start

pub start_law : StartLaw
start_law g head exports e bytes closed lets entries same = record {
  clauses_are = sym same ∙ sym (append-nil g.clauses);
  entries = own_part_law g.used (own_of g.name []) e entries;
  numbered_so = refl;
  closed_so = let_in.closed_law head exports e closed lets;
  met = λ k x at. absurd (none-some x at);
  level = level_proofs.start_law g.name.number;
  order = record { said = refl; held_in_force = refl };
  no_letters = refl;
  no_thesis = refl;
  conservative = λ ax among t closed_t derives. derives;
}

-- behind an item

behind_last : (at : Numbering) (xs : List Item) (x : Item) → behind_items at (xs ++ x ∷ []) ≡ numbered (behind_items at xs) x
behind_last at [] x = refl
behind_last at (y ∷ ys) x = behind_last (numbered at y) ys x

pub item_law : ItemLaw
item_law g s x sound owed = record {
  clauses_are = clauses_further g.clauses s.items x s.clauses sound.clauses_are;
  entries =
      subst (λ n. AreOfItems (IsOfExports (own_of g.name (s.items ++ x ∷ []) ∷ g.used)) (joined s.environment (of_item n x))) (sym sound.numbered_so)
      (own_item_law g.used (own_of g.name s.items) x s.environment sound.entries);
  numbered_so = ap (λ n. numbered n x) sound.numbered_so ∙ sym (behind_last (at_start g.name.number) s.items x);
  closed_so = joined_law s.environment (of_item s.numbering x) sound.closed_so (given_law s.numbering x owed.closed);
  met = met_further (axioms_of g.used) s.items x sound.met owed;
  level = sound.level;
  order = sound.order;
  no_letters = sound.no_letters;
  no_thesis = sound.no_thesis;
  conservative = λ ax among. sound.conservative ax (among_further (axioms_at g s) (axioms_at g (with_item s x)) ax (granted_further (axioms_of g.used) s.items x) among);
}

-- in a context that says no more

pub context_law : ContextLaw
context_law g s d sound part level none = record {
  clauses_are = sound.clauses_are;
  entries = sound.entries;
  numbered_so = sound.numbered_so;
  closed_so = sound.closed_so;
  met = sound.met;
  level = level;
  order = order_part d s.context part sound.order;
  no_letters = part.letters ∙ sound.no_letters;
  no_thesis = none;
  conservative = λ ax among t closed_t derives.
      sound.conservative ax among t closed_t
      (premises_within (facts d ++ []) (facts s.context ++ []) (erase t) ax
      (λ f is. subst (λ fs. Contains fs f) (sym (append-nil (facts s.context))) (facts_part d s.context part f (subst (λ fs. Contains fs f) (append-nil (facts d)) is))) derives);
}

-- with whatever is left

pub left_law : LeftLaw
left_law g s left sound = record {
  clauses_are = sound.clauses_are;
  entries = sound.entries;
  numbered_so = sound.numbered_so;
  closed_so = sound.closed_so;
  met = sound.met;
  level = sound.level;
  order = sound.order;
  no_letters = sound.no_letters;
  no_thesis = sound.no_thesis;
  conservative = sound.conservative;
}

-- where a statement has a label

-- what the context behind it says derives from what the one before it says
derives_before : (ax : List Formula) (c : Context) (label : List ℕ) (t : Statement) → Derives ax [] (erase t) → (f : Formula) → Contains (facts (behind_theorem c label t) ++ []) f → Derives ax (facts c ++ []) f
derives_before ax c label t derives f is =
    let known : Contains (facts (behind_theorem c label t)) f = subst (λ fs. Contains fs f) (append-nil (facts (behind_theorem c label t))) is in
    elim (theorem_fact c label t f known) [
      | inl old ↦ hypothesis ax (facts c ++ []) f (Contains-append_left (facts c) [] f old)
      | inr same ↦ subst (Derives ax (facts c ++ [])) same (premises_within [] (facts c ++ []) (erase t) ax (λ k none. absurd (contains_none k none)) derives)
    ]

pub label_law : LabelLaw
label_law g s label t sound closed derives =
    let c : Context = s.context in
    let stands : Stands (next c) t = closed_law (next c) t closed in
    record {
      clauses_are = sound.clauses_are;
      entries = sound.entries;
      numbered_so = sound.numbered_so;
      closed_so = sound.closed_so;
      met = sound.met;
      level = theorem_level s.environment (level_proofs.reading_law s.environment sound.closed_so) c label t sound.level stands;
      order = theorem_order c label t sound.order stands;
      no_letters = sound.no_letters;
      no_thesis = sound.no_thesis;
      conservative = λ ax among u closed_u behind.
          let there : Derives ax [] (erase t) = derives_more (axioms_at g s) ax [] [] (erase t) among (λ k has. has) derives in
          sound.conservative ax among u closed_u (cut_each ax (facts c ++ []) (facts (behind_theorem c label t) ++ []) (erase u) (derives_before ax c label t there) behind);
    }

-- behind a reservation

pub reservation_law : ReservationLaw
reservation_law g s ss c after sound reserves =
    let reads : ReadsWell s.environment IsLevel = level_proofs.reading_law s.environment sound.closed_so in
    let reserved : IsReserved s.context c = is_reserved s.environment s.context c s.left after ss reserves in
    let level_c : IsLevel c = level_proofs.reservation_law s.environment s.context c s.left after ss sound.closed_so sound.level reserves in
    left_law g (with_context s (behind_item c)) after
    (context_law g s (behind_item c) sound (part_further (behind_item c) c s.context (behind_item_part c) reserved.part) (reads.unlinked c level_c) (reserved.thesis ∙ sound.no_thesis))

-- behind a theorem

theorem_owed : (ax : List Formula) (t : Statement) → statement_under 0 t ≡ true → Derives ax [] (erase t) → IsOwed ax (Theorem t)
unfolding owes
theorem_owed ax t closed derives = record {
  closed = closed;
  own = refl;
  owed = λ q is. subst (λ (p : Sequent). Derives ax p.premises p.conclusion) (contains_one (erased_sequent (typed_sequent [] t)) q is) derives;
}

met_here : (g : Setting) (s : Standing) (final : List Clause) (os : List Obligation) → StandsSoundly g s → Extends s.clauses final → AreDecided final os → AreMadeAt (extent_of s) s.context.letters os → (ax : List Formula) → AreMet ax s.clauses os
met_here g s final os sound grows decided made =
    decided_law g s final [] os sound grows refl (λ o is. ((made o is).0, (made o is).1 ∙ ap letters_clauses sound.no_letters)) decided

pub theorem_law : TheoremLaw
theorem_law g s label f x between after first behind linked j os final sound read justifies grows decided =
    let c : Context = s.context in
    let ax : List Formula = axioms_at g s in
    let reads : ReadsWell s.environment IsLevel = level_proofs.reading_law s.environment sound.closed_so in
    let law : AllStand (next c) x.variables x.inner × (x.closed ≡ for_all (next c) x.variables x.inner) × (statement_under 0 x.closed ≡ true) =
    level.sentence_law s.environment c s.left between f x sound.closed_so sound.level sound.no_thesis read in
    let made : AreMadeAt (extent_of s) c.letters os = justification_made_law s.environment (extent_of s) c first behind linked j x between after os justifies in
    let derived : Derives ax (facts c ++ []) (erase x.closed) =
    walk.justification_law IsLevel (basis ax [] s) reads [] (grounded g s ax sound (λ k has. has)) c (is_proper g s ax sound) x law.0 law.1 (extent_of s) first behind linked j between after os justifies
    (met_here g s final os sound grows decided made ax) in
    let holds : Derives ax [] (erase x.closed) = sound.conservative ax (λ k has. has) x.closed law.2 derived in
    let labelled : StandsSoundly g (with_context s (behind_theorem c label x.closed)) = label_law g s label x.closed sound law.2 holds in
    left_law g (with_item (with_context s (behind_theorem c label x.closed)) (Theorem x.closed)) after
    (item_law g (with_context s (behind_theorem c label x.closed)) (Theorem x.closed) labelled (theorem_owed ax x.closed law.2 holds))

-- behind a statement

abbrev StatementSound : Setting → Standing → State → List Formula → Type 0
StatementSound g s d ax =
    IsProper IsLevel (basis ax [] s) [] d.context × (d.context.thesis ≡ None) ×
    ((u : Statement) → Stands (next s.context) u → Derives ax (facts d.context ++ []) (erase u) → Derives ax (facts s.context ++ []) (erase u))

pub statement_law : StatementLaw
statement_law g s first t os d final sound states grows decided =
    let c : Context = s.context in
    let reads : ReadsWell s.environment IsLevel = level_proofs.reading_law s.environment sound.closed_so in
    let made : AreMadeAt (extent_of s) c.letters os = (statement_made_law s.environment (extent_of s) c first t s.left os d states).0 in
    let law : (ax : List Formula) → AreAmong (axioms_at g s) ax → StatementSound g s d ax =
    λ ax among. walk.statement_law IsLevel (basis ax [] s) reads [] (grounded g s ax sound among) c (is_proper g s ax sound) sound.no_thesis (extent_of s) first t s.left os d states (met_here g s final os sound grows decided made ax) in
    let here : StatementSound g s d (axioms_at g s) = law (axioms_at g s) (λ k has. has) in
    record {
      clauses_are = sound.clauses_are;
      entries = sound.entries;
      numbered_so = sound.numbered_so;
      closed_so = sound.closed_so;
      met = sound.met;
      level = here.0.is_whole;
      order = here.0.order;
      no_letters = here.0.letters;
      no_thesis = here.1;
      conservative = λ ax among u closed_u derives. sound.conservative ax among u closed_u ((law ax among).2 u (closed_law (next c) u closed_u) derives);
    }
