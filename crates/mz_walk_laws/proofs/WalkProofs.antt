-- The walk over the steps of reasonings is sound.
use Rattle.std.proofs.Common.{◌≡◌, ◌<◌, ℕ, zero, suc, Bool, true, false, List, [], ◌∷◌, ◌++◌, map, refl, sym, ap, ◌∙◌, subst, arith, Option, Some, None, Result, Ok}
use Rattle.std.specs.Prelude.{Contains, is_some}
use Rattle.mz_base.specs.declared.place.Place.{Place}
use Rattle.mz_logic.specs.Formula.{Formula}
use Rattle.mz_logic.specs.Derives.{Derives}
use Rattle.mz_logic.proofs.Each.{each_itself, each_right}
use Rattle.mz_core.specs.Statement.{Statement, Truth, Eq, Atom, Not, And, For}
use Rattle.mz_core.specs.Parts.{conjunction}
use Rattle.mz_core.specs.Erasure.{erase}
use Rattle.mz_core.specs.declared.outcome.Left.{Left}
use Rattle.mz_context.specs.Context.{next}
use Rattle.mz_context.specs.declared.context.Context.{Context}
use Rattle.mz_context.specs.declared.labelled.LabelledStatement.{LabelledStatement}
use Rattle.mz_context.specs.declared.letters.NamedLetter.{NamedLetter}
use Rattle.mz_ground.specs.declared.clause.Clause.{Clause}
use Rattle.mz_environment.specs.declared.environment.Environment.{Environment}
use Rattle.mz_names.specs.Closing.{with_variables, for_all}
use Rattle.mz_names.specs.declared.variable.Variable.{Variable}
use Rattle.mz_sizes.specs.Sizes.{statement_keeps}
use Rattle.mz_applied.specs.Within.{within}
use Rattle.mz_thesis_laws.proofs.RowProofs.{cases_law}
use Rattle.mz_thesis_laws.proofs.UnfoldProofs.{none_some}
use Rattle.mz_formulas.specs.declared.sentence.Sentence.{Sentence}
use Rattle.mz_now.specs.Kept.{whole_of, conjuncts_kept, IsStated}
use Rattle.mz_now.specs.Stated.{stated_by}
use Rattle.mz_now.specs.declared.now_part.NowPart.{NowPart}
use Rattle.mz_now.proofs.StatedLemmas.{told_stated}
use Rattle.mz_steps.specs.Changes.{statement_of, with_stated, at_start_of_proof, at_start_of_now}
use Rattle.mz_steps.specs.declared.block.Block.{Block}
use Rattle.mz_steps.specs.declared.block.Block.TheVariants.{Proof, Now}
use Rattle.mz_steps.specs.declared.read_step.ReadStep.TheVariants as read
use Rattle.mz_steps_laws.specs.Facts.{facts}
use Rattle.mz_tree_proof.specs.Reasoning.{JustData, CompactData, StatementData, StepData, StepList, SupposeList, CaseSuppose, no_supposes, more_supposes}
use Rattle.mz_tree_proof.specs.declared.skeleton.SplitTree.{SplitTree}
use Rattle.mz_obligations.specs.declared.obligation.Extent.{Extent}
use Rattle.mz_obligations.specs.declared.obligation.Obligation.{Obligation}
use Rattle.mz_parts.specs.Propositions.{label_in, hypotheses_in}
use Rattle.mz_parts.specs.Joined.{joined_within}
use Rattle.mz_justified.specs.Justified.{place_of, Owes}
use Rattle.mz_justified.specs.declared.proof_fault.ProofRefusal.{ProofRefusal}
use Rattle.mz_block_laws.specs.Orders.{Stands, AllStand, StepStands, IsInOrder}
use Rattle.mz_block_laws.specs.Passing.{Keeps, Passes}
use Rattle.mz_block_laws.specs.BlockLaws.{AreStated}
use Rattle.mz_block_laws.specs.Met.{IsMet, AreMet}
use Rattle.mz_block_laws.proofs.OrderLemmas.{all_typed, sentence_stands_law}
use Rattle.mz_block_laws.proofs.OrderProofs.{variables_in_order, stated_in_order, proof_in_order, now_in_order}
use Rattle.mz_block_laws.proofs.BlockProofs.{at_end, from_start, now_law, case_law, sentence_law}
use Rattle.mz_block_laws.proofs.EqualityProofs.{disjunction_stands_law}
use Rattle.mz_walk.specs.Walked.{State, state, with_left, Walked, Made, Refused, without_obligations, behind, led_to}
use Rattle.mz_walk.specs.Performing.{Performs, is_now}
use Rattle.mz_walk.specs.Compact.{stated_under, place_behind}
use Rattle.mz_walk.specs.declared.compact.Compact.{Compact}
use Rattle.mz_walk.specs.Walk as walk
use Rattle.mz_walk.specs.Walk.{step_of, is_truth, is_proved, stated_in, Cases, no_cases, with_case, disjunction_of, behind_cases, Justifies, Proves, Says, SaysNow, States, Goes, Splits, Supposes, GoesAll}
use Rattle.mz_given.specs.declared.given.Given.{Given}
use Rattle.mz_walk_laws.specs.Grounds.{Basis, IsGrounded, ReadsWell, IsProper}
use Rattle.mz_walk_laws.specs.WalkLaws.{SkeletonLaw, JustificationLaw, StatementLaw}
use Rattle.mz_walk_laws.proofs.Outcomes.{WhereOk, WhereMade, ok_mapped, ok_under, made_mapped, made_without, made_behind, made_led, made_one, within_is}
use Rattle.mz_walk_laws.proofs.ReadingLemmas.{AllStanding, one_more_stands, propositions_stand, whole_with, joined_stands}
use Rattle.mz_walk_laws.proofs.PerformLemmas.{variables_letters, Reaches, reaches_itself, reaches_further, performs_reaches, held_behind, nothing_standing, Walks}
use Rattle.mz_walk_laws.proofs.JustifiedProofs.{GivenKnown, met_left, met_right, met_first, met_rest, grounds_known, owed_derives, justified_derives, AllDerived, sides_justified}
use Rattle.mz_walk_laws.proofs.SkeletonProofs.{with_other_left, steps_on_reach}
use Rattle.mz_walk_laws.proofs.IntroductionProofs.{to_other_left, introduced_walks}
use Rattle.mz_walk_laws.proofs.CompactProofs.{CompactStands, compact_stands}

-- one may reason at the start of a block, and where propositions were stated
proof_start : (W : Context → Type 0) (b : Basis) → ReadsWell b.env W → (held : List Formula) (c : Context) → IsProper W b held c → (th : Statement) → Stands (next c) th → IsProper W b held (at_start_of_proof c th)
proof_start W b reads held c p th w = record {
  is_whole = reads.posed (record c { previous = None }) (reads.unlinked c p.is_whole) th w;
  order = proof_in_order held c th p.order;
  letters = p.letters;
}

now_start : (W : Context → Type 0) (b : Basis) → ReadsWell b.env W → (held : List Formula) (c : Context) → IsProper W b held c → IsProper W b held (at_start_of_now c)
now_start W b reads held c p = record { is_whole = reads.unlinked c p.is_whole; order = now_in_order held c p.order; letters = p.letters }

stated_start : (W : Context → Type 0) (b : Basis) → ReadsWell b.env W → (held : List Formula) (c : Context) → IsProper W b held c → (ps : List LabelledStatement) → AllStanding (next c) ps → IsProper W b held (with_stated c ps)
stated_start W b reads held c p ps all = record { is_whole = reads.with_some c p.is_whole ps all; order = stated_in_order held c p.order ps all; letters = p.letters }

variables_start : (W : Context → Type 0) (b : Basis) → ReadsWell b.env W → (held : List Formula) (c : Context) → IsProper W b held c → (vs : List Variable) (s : Statement) → AllStand (next c) vs s → IsProper W b held (with_variables c vs) × Stands (next (with_variables c vs)) s
variables_start W b reads held c p vs s w =
    let both : IsInOrder held (with_variables c vs) × Stands (next (with_variables c vs)) s = variables_in_order held c p.order vs s w in
    (record { is_whole = whole_with W b.env reads c p.is_whole vs (all_typed (next c) vs s w); order = both.0; letters = variables_letters c vs ∙ p.letters }, both.1)

-- a statement that is stated or concluded
said_stands : (n : ℕ) (concluded : Bool) (x : Statement) → Stands n x → StepStands n (step_of concluded x)
said_stands n true x w = w
said_stands n false x w = w

said_there : (ax held : List Formula) (c : Context) (x : Statement) (label : List ℕ) → AreStated ax (facts c ++ (erase x ∷ held)) (stated_under label x ∷ [])
said_there ax held c x label p (zero, lt, e) =
    let g : List Formula = facts c ++ (erase x ∷ held) in
    subst (λ q. Derives ax g (erase (statement_of q))) e (each_right ax g (facts c) (erase x ∷ held) (each_itself ax g) (erase x) (0, omega arith, refl))
said_there ax held c x label p (suc i, lt, e) = absurd (omega (arith, lt))

said_reaches : (W : Context → Type 0) (b : Basis) → ReadsWell b.env W → (held : List Formula) → IsGrounded b held → (first : Place) (s : State) → IsProper W b held s.context → (concluded : Bool) (x : Statement) (label : List ℕ) → Stands (next s.context) x → Derives b.axioms (facts s.context ++ held) (erase x) → (o : Result State ProofRefusal) → Performs b.env first s (step_of concluded x) (stated_under label x ∷ []) o → WhereOk o (Reaches W b held s held)
said_reaches W b reads held g first s p true x label w d o h =
    performs_reaches W b reads held g first s p (read.Thus x) w tt d (stated_under label x ∷ []) (one_more_stands (next s.context) (stated_under label x) [] w (nothing_standing (next s.context)))
    (said_there b.axioms held s.context x label) held p.order.held_in_force (held_behind b.axioms held s.context (read.Thus x)) o h
said_reaches W b reads held g first s p false x label w d o h =
    performs_reaches W b reads held g first s p (read.State x) w tt d (stated_under label x ∷ []) (one_more_stands (next s.context) (stated_under label x) [] w (nothing_standing (next s.context)))
    (said_there b.axioms held s.context x label) held p.order.held_in_force (held_behind b.axioms held s.context (read.State x)) o h

-- the end of a proof
truth_left : (s : Statement) → is_truth s ≡ true → s ≡ Truth
truth_left Truth e = refl
truth_left (Eq t u) e = absurd cc
truth_left (Atom s ts) e = absurd cc
truth_left (Not s) e = absurd cc
truth_left (And s t) e = absurd cc
truth_left (For ty s) e = absurd cc

proved_is : (o : Option Statement) → is_proved o ≡ true → o ≡ Some Truth
proved_is None e = absurd cc
proved_is (Some s) e = ap Some (truth_left s e)

-- what comes of a proof: its thesis derives, and there is one
pub record IsProof (ax held : List Formula) (c : Context) : Type 0 where
  pub derives : (th : Statement) → c.thesis ≡ Some th → Stands (next c) th → Derives ax (facts c ++ held) (erase th)
  pub has_thesis : c.thesis ≡ None → ⊥

ended : (ax held : List Formula) (c d : Context) (x : Block) → Passes ax held c Proof held d x → d.thesis ≡ Some Truth → IsProof ax held c
ended ax held c d Proof p end = record {
  derives = λ th is w. at_end ax held c d th (p.of_thesis th is w) end;
  has_thesis = λ none. none_some Truth (sym (p.of_none none).no_thesis ∙ end);
}
ended ax held c d (Now ps) p end = absurd p

-- the end of a `now`
stated_is : (ps : List NowPart) (o : Option (List Statement)) → conjuncts_kept ps ≡ o → (x : Statement) → whole_of o ≡ Some x → x ≡ stated_by ps
stated_is ps None e x h = absurd (none_some x h)
stated_is ps (Some ss) e x h = let i : IsStated ps (Some x) = told_stated ps ps 0 ss (Some x) refl refl e (sym h) in i.stated x refl

now_ended : (ax held : List Formula) (c d : Context) (x : Block) → Passes ax held (at_start_of_now c) (Now []) held d x → (s : Statement) → stated_in x ≡ Some s → Derives ax (facts c ++ held) (erase s) × Stands (next c) s
now_ended ax held c d Proof p s is = absurd p
now_ended ax held c d (Now ps) p s is =
    let e : s ≡ stated_by ps = stated_is ps (conjuncts_kept ps) refl s is in
    subst (λ u. Derives ax (facts c ++ held) (erase u) × Stands (next c) u) (sym e) (now_law ax held c d ps p)

-- cases
pub record IsCase (ax held : List Formula) (c : Context) (u : Statement) : Type 0 where
  pub stands : Stands (next c) u
  pub derives : (th : Statement) → c.thesis ≡ Some th → Stands (next c) th → Derives ax (erase u ∷ facts c ++ held) (erase th)
  pub has_thesis : c.thesis ≡ None → ⊥

abbrev pub AreCases : List Formula → List Formula → Context → List Statement → Type 0
AreCases ax held c [] = Unit {0}
AreCases ax held c (u ∷ us) = IsCase ax held c u × AreCases ax held c us

-- there is a case
abbrev pub IsMore : SupposeList → Type 0
IsMore no_supposes = ⊥
IsMore (more_supposes u us) = Unit {0}

abbrev pub IsSome : List Statement → Type 0
IsSome [] = ⊥
IsSome (s ∷ ss) = Unit {0}

pub case_made : (P : List Obligation → Cases → Type 0) (s : Statement) (w : Walked Cases) → WhereMade w (λ os x. P os (record { suppositions = s ∷ x.suppositions; left = x.left })) → WhereMade (with_case s w) P
case_made P s (Made os x) h = h
case_made P s (Refused r) h = tt

each_case : (ax held : List Formula) (c : Context) (us : List Statement) → AreCases ax held c us → (u : Statement) → Contains us u → IsCase ax held c u
each_case ax held c [] all u is = let lt : is.0 < 0 = is.1 in absurd (omega arith)
each_case ax held c (v ∷ vs) all u (zero, lt, e) = subst (IsCase ax held c) e all.0
each_case ax held c (v ∷ vs) all u (suc i, lt, e) = each_case ax held c vs all.1 u (i, omega (arith, lt), e)

disjunction_stands : (ax held : List Formula) (c : Context) (us : List Statement) → AreCases ax held c us → Stands (next c) (disjunction_of us)
disjunction_stands ax held c [] all = (refl, refl)
disjunction_stands ax held c (u ∷ us) all = disjunction_stands_law (next c) u us all.0.stands (λ v is. (each_case ax held c us all.1 v is).stands)

by_cases : (ax held : List Formula) (c : Context) (us : List Statement) → IsSome us → AreCases ax held c us → Derives ax (facts c ++ held) (erase (disjunction_of us)) → (th : Statement) → c.thesis ≡ Some th → Stands (next c) th → Derives ax (facts c ++ held) (erase th)
by_cases ax held c [] some all d th is w = absurd some
by_cases ax held c (u ∷ us) some all d th is w = cases_law ax (facts c ++ held) th u us d (λ v there. (each_case ax held c (u ∷ us) all v there).derives th is w)

first_has : (ax held : List Formula) (c : Context) (us : List Statement) → IsSome us → AreCases ax held c us → c.thesis ≡ None → ⊥
first_has ax held c [] some all none = some
first_has ax held c (u ∷ us) some all none = all.0.has_thesis none

cases_pass : (ax held : List Formula) (c : Context) (us : List Statement) → IsSome us → AreCases ax held c us → Derives ax (facts c ++ held) (erase (disjunction_of us)) → Passes ax held c Proof held (at_start_of_proof c Truth) Proof
cases_pass ax held c us some all d = record {
  of_thesis = λ th is w. record { left = Truth; is_left = refl; stands = (refl, refl); sound = λ x. by_cases ax held c us some all d th is w };
  of_none = λ none. absurd (first_has ax held c us some all none);
}

split_passes : (W : Context → Type 0) (b : Basis) → ReadsWell b.env W → (held : List Formula) (s : State) → IsProper W b held s.context → (x : Block) → s.block ≡ x → is_now x ≡ false → (l : Left) (us : List Statement) → IsSome us → AreCases b.axioms held s.context us → Derives b.axioms (facts s.context ++ held) (erase (disjunction_of us)) → Reaches W b held s held (behind_cases s l)
split_passes W b reads held s p (Now ps) is now l us some all d = absurd cc
split_passes W b reads held s p Proof is now l us some all d = record {
  proper = proof_start W b reads held s.context p Truth (refl, refl);
  passes = subst (λ y. Passes b.axioms held s.context y held (at_start_of_proof s.context Truth) y) (sym is) (cases_pass b.axioms held s.context us some all d);
}

-- a justification of a sentence, and what it is to be
abbrev pub SentenceStands : Context → Sentence → Type 0
SentenceStands c x = AllStand (next c) x.variables x.inner × (x.closed ≡ for_all (next c) x.variables x.inner)

-- by a proof
by_proof : (W : Context → Type 0) (b : Basis) → ReadsWell b.env W → (held : List Formula) (c : Context) → IsProper W b held c → (x : Sentence) → SentenceStands c x → IsProof b.axioms held (at_start_of_proof (with_variables c x.variables) x.inner) → Derives b.axioms (facts c ++ held) (erase x.closed)
by_proof W b reads held c p x w r =
    let k : Context = with_variables c x.variables in
    let v : IsProper W b held k × Stands (next k) x.inner = variables_start W b reads held c p x.variables x.inner w.0 in
    let inner : Derives b.axioms (facts k ++ held) (erase x.inner) = from_start b.axioms held k (erase x.inner) (r.derives x.inner refl v.1) in
    subst (λ s. Derives b.axioms (facts c ++ held) (erase s)) (sym w.1) (sentence_law b.axioms held c p.order x.variables x.inner w.0 inner)

-- what comes of the parts of a walk
abbrev pub HasJustified : (b : Basis) (held : List Formula) → Context → Sentence → List Obligation → Left → Type 0
HasJustified b held c x os m = AreMet b.axioms b.clauses os → Derives b.axioms (facts c ++ held) (erase x.closed)

abbrev pub HasProved : (W : Context → Type 0) (b : Basis) (held : List Formula) → Context → List Obligation → Left → Type 0
HasProved W b held c os m = IsProper W b held c → AreMet b.axioms b.clauses os → IsProof b.axioms held c

abbrev pub HasSupposed : (W : Context → Type 0) (b : Basis) (held : List Formula) → Context → SupposeList → List Obligation → Cases → Type 0
HasSupposed W b held c us os x = IsProper W b held c → AreMet b.axioms b.clauses os → AreCases b.axioms held c x.suppositions × (IsMore us → IsSome x.suppositions)

-- a compact statement
compact_walks : (W : Context → Type 0) (b : Basis) → ReadsWell b.env W → (held : List Formula) → IsGrounded b held → (at : Extent) (s u : State) → IsProper W b held s.context → (first semicolon : Place) (concluded : Bool) (l m : Left) (label : List ℕ) (x : Compact) → CompactStands b.axioms held s.context x → Performs b.env first (with_left s l) (step_of concluded x.said.states) (stated_under label x.said.states ∷ []) (Ok u) → (os : List Obligation) → HasJustified b held s.context x.sentence os m → (o : Walked Left) → WhereMade o (λ ps k. AreMet b.axioms b.clauses ps → AllDerived b.axioms (facts s.context ++ held) x.said.further) → WhereMade (led_to u (behind os o)) (λ ps t. AreMet b.axioms b.clauses ps → Reaches W b held s held t)
compact_walks W b reads held g at s u p first semicolon concluded l m label x w perform os just o sides =
    made_led (λ ps t. AreMet b.axioms b.clauses ps → Reaches W b held s held t) u (behind os o)
    (made_behind (λ ps k. AreMet b.axioms b.clauses ps → Reaches W b held s held (with_left u k)) os o
    (made_mapped (λ ps k. AreMet b.axioms b.clauses ps → AllDerived b.axioms (facts s.context ++ held) x.said.further) (λ ps k. AreMet b.axioms b.clauses (os ++ ps) → Reaches W b held s held (with_left u k)) o
    (λ ps k derived met. to_other_left W b held s u k (with_other_left W b held s l held u
    (said_reaches W b reads held g first (with_left s l) p concluded x.said.states label w.said.states (w.said.sound (just (met_left b.axioms b.clauses os ps met)) (derived (met_right b.axioms b.clauses os ps met))) (Ok u) perform)))
    sides))

-- a `now`
now_walks : (W : Context → Type 0) (b : Basis) → ReadsWell b.env W → (held : List Formula) → IsGrounded b held → (s t : State) → IsProper W b held s.context → (first : Place) (concluded : Bool) (label : List ℕ) (os : List Obligation) (x : Statement) → Walks W b held (state (at_start_of_now s.context) (Now []) s.left) os t → stated_in t.block ≡ Some x → (o : Result State ProofRefusal) → Performs b.env first (with_left s t.left) (step_of concluded x) (stated_under label x ∷ []) o → AreMet b.axioms b.clauses os → WhereOk o (Reaches W b held s held)
now_walks W b reads held g s t p first concluded label os x walks is o perform met =
    let r : Reaches W b held (state (at_start_of_now s.context) (Now []) s.left) held t = walks (now_start W b reads held s.context p) met in
    let w : Derives b.axioms (facts s.context ++ held) (erase x) × Stands (next s.context) x = now_ended b.axioms held s.context t.context t.block r.passes x is in
    ok_mapped (Reaches W b held (with_left s t.left) held) (Reaches W b held s held) o (λ u y. with_other_left W b held s t.left held u y)
    (said_reaches W b reads held g first (with_left s t.left) p concluded x label w.1 w.0 o perform)

-- a case of a split
case_of : (W : Context → Type 0) (b : Basis) → ReadsWell b.env W → (held : List Formula) (c : Context) → IsProper W b held c → (first : Place) (ps : List LabelledStatement) → AllStanding (next c) ps → (x : Statement) → joined_within first ps ≡ Ok x → IsProof b.axioms held (with_stated c ps) → IsCase b.axioms held c x
case_of W b reads held c p first ps all x is r =
    let e : conjunction (map statement_of ps) ≡ x = within_is statement_keeps first (conjunction (map statement_of ps)) x is in
    record {
      stands = joined_stands (next c) first ps x all is;
      derives = λ th has w. subst (λ u. Derives b.axioms (erase u ∷ facts c ++ held) (erase th)) e (case_law b.axioms held c th ps (r.derives th has w));
      has_thesis = r.has_thesis;
    }

-- a split
split_walks : (W : Context → Type 0) (b : Basis) → ReadsWell b.env W → (held : List Formula) → IsGrounded b held → (at : Extent) (first place : Place) (s : State) → IsProper W b held s.context → is_now s.block ≡ false → (given : Given) → GivenKnown b held s.context given → (us : SupposeList) → IsMore us → (os : List Obligation) (x : Cases) → HasSupposed W b held s.context us os x → (y : Statement) → within statement_keeps first (disjunction_of x.suppositions) ≡ Ok y → (o : Obligation) → Owes b.env at s.context given y place o → AreMet b.axioms b.clauses (o ∷ os) → Reaches W b held s held (behind_cases s x.left)
split_walks W b reads held g at first place s p now given known us more os x supposes y is o owes met =
    let c : Context = s.context in
    let cases : AreCases b.axioms held c x.suppositions × (IsMore us → IsSome x.suppositions) = supposes p (met_rest b.axioms b.clauses o os met) in
    let e : disjunction_of x.suppositions ≡ y = within_is statement_keeps first (disjunction_of x.suppositions) y is in
    let stands : Stands (next c) y = subst (Stands (next c)) e (disjunction_stands b.axioms held c x.suppositions cases.0) in
    let d : Derives b.axioms (facts c ++ held) (erase y) = owed_derives W b held g c p at given known y stands place o owes (met_first b.axioms b.clauses o os met) in
    split_passes W b reads held s p s.block refl now x.left x.suppositions (cases.1 more) cases.0 (subst (λ u. Derives b.axioms (facts c ++ held) (erase u)) (sym e) d)

-- statements of the article's own level make no thesis
pub own_level : (ax held : List Formula) (c d : Context) (x : Block) → Passes ax held c Proof held d x → c.thesis ≡ None → (d.thesis ≡ None) × ((s : Statement) → Stands (next c) s → Derives ax (facts d ++ held) (erase s) → Derives ax (facts c ++ held) (erase s))
own_level ax held c d Proof p none = let k : Keeps ax held c held d = p.of_none none in (k.no_thesis, k.sound)
own_level ax held c d (Now ps) p none = absurd p

abbrev basis : List Formula → List Clause → Environment → List NamedLetter → Basis
basis ax cl e ls = record { axioms = ax; clauses = cl; env = e; letters = ls }

mutual
  justifies : (W : Context → Type 0) (ax : List Formula) (cl : List Clause) (ls : List NamedLetter) (env : Environment) → ReadsWell env W → (held : List Formula) → IsGrounded (basis ax cl env ls) held → (at : Extent) (c : Context) → IsProper W (basis ax cl env ls) held c → (first place : Place) (linked : Bool) (j : JustData) (x : Sentence) → SentenceStands c x → Stands (next c) x.closed → (l : Left) (w : Walked Left) → Justifies env at c first linked place j x l w → WhereMade w (HasJustified (basis ax cl env ls) held c x)
  justifies W ax cl ls env reads held g at c p first place linked j x stands closed l w (walk.simply k f h n t y m after o just) =
      made_one (HasJustified (basis ax cl env ls) held k y) o after
      (ok_mapped (λ z. IsMet ax cl z → Derives ax (facts k ++ held) (erase y.closed)) (λ z. HasJustified (basis ax cl env ls) held k y (z ∷ []) after) o (λ z derive met. derive (met_first ax cl z [] met))
      (justified_derives W (basis ax cl env ls) held g k p at f h n t y.closed closed m o after just))
  justifies W ax cl ls env reads held g at c p first place linked j x stands closed l w (walk.by_proof k f h q e n ds y m o proves) =
      let v : IsProper W (basis ax cl env ls) held (with_variables k y.variables) × Stands (next (with_variables k y.variables)) y.inner = variables_start W (basis ax cl env ls) reads held k p y.variables y.inner stands.0 in
      made_mapped (HasProved W (basis ax cl env ls) held (at_start_of_proof (with_variables k y.variables) y.inner)) (HasJustified (basis ax cl env ls) held k y) o
      (λ os z proof met. by_proof W (basis ax cl env ls) reads held k p y stands (proof (proof_start W (basis ax cl env ls) reads held (with_variables k y.variables) v.0 y.inner v.1) met))
      (proves_walk W ax cl ls env reads held g at (at_start_of_proof (with_variables k y.variables) y.inner) ds e m o proves)

  proves_walk : (W : Context → Type 0) (ax : List Formula) (cl : List Clause) (ls : List NamedLetter) (env : Environment) → ReadsWell env W → (held : List Formula) → IsGrounded (basis ax cl env ls) held → (at : Extent) (c : Context) (ds : StepList) (end : Place) (l : Left) (w : Walked Left) → Proves env at c ds end l w → WhereMade w (HasProved W (basis ax cl env ls) held c)
  proves_walk W ax cl ls env reads held g at c ds e l w (walk.proof_stopped k es f m r h) = tt
  proves_walk W ax cl ls env reads held g at c ds e l w (walk.thesis_left k es f m os t h is) = tt
  proves_walk W ax cl ls env reads held g at c ds e l w (walk.proved k es f m os t h is) =
      let goes : Walks W (basis ax cl env ls) held (state k Proof m) os t = all_walk W ax cl ls env reads held g at (state k Proof m) es (Made os t) h in
      λ p met. ended ax held k t.context t.block (goes p met).passes (proved_is t.context.thesis is)

  says_walk : (W : Context → Type 0) (ax : List Formula) (cl : List Clause) (ls : List NamedLetter) (env : Environment) → ReadsWell env W → (held : List Formula) → IsGrounded (basis ax cl env ls) held → (at : Extent) (s : State) → IsProper W (basis ax cl env ls) held s.context → (first : Place) (linked concluded : Bool) (t : CompactData) (w : Walked State) → Says env at s first linked concluded t w → WhereMade w (λ os u. AreMet ax cl os → Reaches W (basis ax cl env ls) held s held u)
  says_walk W ax cl ls env reads held g at s p first linked concluded t w (walk.follows_nothing z f n c y h) = tt
  says_walk W ax cl ls env reads held g at s p first linked concluded t w (walk.not_read z f e n c q j ks r l kept h i a) = tt
  says_walk W ax cl ls env reads held g at s p first linked concluded t w (walk.unfit z f e n c q j ks x l r h i k) = tt
  says_walk W ax cl ls env reads held g at s p first linked concluded t w (walk.instance_too_large z u f e n c q j ks x l h i k a) = tt
  says_walk W ax cl ls env reads held g at s p first linked concluded t w (walk.not_justified z u f e n c q j ks x l r h i k a y) = tt
  says_walk W ax cl ls env reads held g at s p first linked concluded t w (walk.justified z u f e n c q j ks x l m os o h i k a y sides) =
      let stands : CompactStands ax held z.context x = compact_stands W (basis ax cl env ls) reads held z.context p f z.left q ks (Ok x) l i in
      let closed : Stands (next z.context) x.sentence.closed = subst (Stands (next z.context)) (sym stands.is_closed) (sentence_stands_law (next z.context) x.sentence.variables x.sentence.inner stands.sentence) in
      compact_walks W (basis ax cl env ls) reads held g at z u p f e c l m (label_in q.label) x stands k os
      (justifies W ax cl ls env reads held g at z.context p f (place_behind ks e) n j x.sentence (stands.sentence, stands.is_closed) closed l (Made os m) y) o
      (sides_justified W (basis ax cl env ls) held g z.context p at f e ks x.said.further stands.said.further m o sides)

  now_walk : (W : Context → Type 0) (ax : List Formula) (cl : List Clause) (ls : List NamedLetter) (env : Environment) → ReadsWell env W → (held : List Formula) → IsGrounded (basis ax cl env ls) held → (at : Extent) (s : State) → IsProper W (basis ax cl env ls) held s.context → (first : Place) (concluded : Bool) (label : List ℕ) (ds : StepList) (w : Walked State) → SaysNow env at s first concluded label ds w → WhereMade w (λ os u. AreMet ax cl os → Reaches W (basis ax cl env ls) held s held u)
  now_walk W ax cl ls env reads held g at s p first concluded label ds w (walk.now_stopped z f c n es r h) = tt
  now_walk W ax cl ls env reads held g at s p first concluded label ds w (walk.now_too_large z t f c n es os h i) = tt
  now_walk W ax cl ls env reads held g at s p first concluded label ds w (walk.now_stated z t f c n es os x o h i k) =
      let goes : Walks W (basis ax cl env ls) held (state (at_start_of_now z.context) (Now []) z.left) os t = all_walk W ax cl ls env reads held g at (state (at_start_of_now z.context) (Now []) z.left) es (Made os t) h in
      made_behind (λ ps u. AreMet ax cl ps → Reaches W (basis ax cl env ls) held z held u) os (without_obligations o)
      (made_without (λ ps u. AreMet ax cl (os ++ ps) → Reaches W (basis ax cl env ls) held z held u) o
      (ok_under (Reaches W (basis ax cl env ls) held z held) o (λ (met : AreMet ax cl (os ++ [])). now_walks W (basis ax cl env ls) reads held g z t p f c n os x goes i o k (met_left ax cl os [] met))))

  states_walk : (W : Context → Type 0) (ax : List Formula) (cl : List Clause) (ls : List NamedLetter) (env : Environment) → ReadsWell env W → (held : List Formula) → IsGrounded (basis ax cl env ls) held → (at : Extent) (s : State) → IsProper W (basis ax cl env ls) held s.context → (first : Place) (t : StatementData) (w : Walked State) → States env at s first t w → WhereMade w (λ os u. AreMet ax cl os → Reaches W (basis ax cl env ls) held s held u)
  states_walk W ax cl ls env reads held g at s p first t w (walk.says z f n c o h) = says_walk W ax cl ls env reads held g at z p f (is_some n) false c o h
  states_walk W ax cl ls env reads held g at s p first t w (walk.says_now z f q e m label ds o h) = now_walk W ax cl ls env reads held g at z p f false (label_in label) ds o h
  states_walk W ax cl ls env reads held g at s p first t w (walk.introduces z f c o h) = introduced_walks W (basis ax cl env ls) reads held g at f z p c o h

  goes_walk : (W : Context → Type 0) (ax : List Formula) (cl : List Clause) (ls : List NamedLetter) (env : Environment) → ReadsWell env W → (held : List Formula) → IsGrounded (basis ax cl env ls) held → (at : Extent) (s : State) → IsProper W (basis ax cl env ls) held s.context → (first : Place) (d : StepData) (w : Walked State) → Goes env at s first d w → WhereMade w (λ os u. AreMet ax cl os → Reaches W (basis ax cl env ls) held s held u)
  goes_walk W ax cl ls env reads held g at s p first d w (walk.states z f t o h) = states_walk W ax cl ls env reads held g at z p f t o h
  goes_walk W ax cl ls env reads held g at s p first d w (walk.thus z f q t o h) = says_walk W ax cl ls env reads held g at z p f false true t o h
  goes_walk W ax cl ls env reads held g at s p first d w (walk.hence z f q t o h) = says_walk W ax cl ls env reads held g at z p f true true t o h
  goes_walk W ax cl ls env reads held g at s p first d w (walk.hereby z f q e m ds o h) = now_walk W ax cl ls env reads held g at z p f true [] ds o h
  goes_walk W ax cl ls env reads held g at s p first d w (walk.steps_on z f t o h) =
      made_without (λ os u. AreMet ax cl os → Reaches W (basis ax cl env ls) held z held u) o
      (ok_mapped (Reaches W (basis ax cl env ls) held z held) (λ u. AreMet ax cl [] → Reaches W (basis ax cl env ls) held z held u) o (λ u y met. y) (steps_on_reach W (basis ax cl env ls) reads held g f z p t o h))
  goes_walk W ax cl ls env reads held g at s p first d w (walk.split_in_now z f t u us h) = tt
  goes_walk W ax cl ls env reads held g at s p first d w (walk.splits z f t u us o h i) = splits_walk W ax cl ls env reads held g at z p h f t (more_supposes u us) tt o i

  splits_walk : (W : Context → Type 0) (ax : List Formula) (cl : List Clause) (ls : List NamedLetter) (env : Environment) → ReadsWell env W → (held : List Formula) → IsGrounded (basis ax cl env ls) held → (at : Extent) (s : State) → IsProper W (basis ax cl env ls) held s.context → is_now s.block ≡ false → (first : Place) (t : SplitTree) (us : SupposeList) → IsMore us → (w : Walked State) → Splits env at s first t us w → WhereMade w (λ os u. AreMet ax cl os → Reaches W (basis ax cl env ls) held s held u)
  splits_walk W ax cl ls env reads held g at s p now first t us more w (walk.foreseen z f c vs r a) = tt
  splits_walk W ax cl ls env reads held g at s p now first t us more w (walk.not_grounded z f c vs r l a h) = tt
  splits_walk W ax cl ls env reads held g at s p now first t us more w (walk.cases_stopped z f c vs given l r a h i) = tt
  splits_walk W ax cl ls env reads held g at s p now first t us more w (walk.cases_too_large z f c vs given l os x r a h i k) = tt
  splits_walk W ax cl ls env reads held g at s p now first t us more w (walk.split z f c vs given l os x y o a h i k owes) =
      let cases : HasSupposed W (basis ax cl env ls) held z.context vs os x = supposes_walk W ax cl ls env reads held g at z.context vs l (Made os x) i in
      λ met. split_walks W (basis ax cl env ls) reads held g at f (place_of c.semicolon c.simple) z p now given (grounds_known W (basis ax cl env ls) held g z.context p f c.semicolon (is_some c.then) c.simple z.left (Ok given) l h) vs more os x cases y k o owes met

  supposes_walk : (W : Context → Type 0) (ax : List Formula) (cl : List Clause) (ls : List NamedLetter) (env : Environment) → ReadsWell env W → (held : List Formula) → IsGrounded (basis ax cl env ls) held → (at : Extent) (c : Context) (us : SupposeList) (l : Left) (w : Walked Cases) → Supposes env at c us l w → WhereMade w (HasSupposed W (basis ax cl env ls) held c us)
  supposes_walk W ax cl ls env reads held g at c us l w (walk.no_case k m) = λ p met. (tt, λ no. no)
  supposes_walk W ax cl ls env reads held g at c us l w (walk.not_supposed k m n q f e s hs ds vs r h) = tt
  supposes_walk W ax cl ls env reads held g at c us l w (walk.supposition_too_large k m n q f e s hs ds vs ps r h i) = tt
  supposes_walk W ax cl ls env reads held g at c us l w (walk.case_not_proved k m n q f e s hs ds vs ps x r h i y) = tt
  supposes_walk W ax cl ls env reads held g at c us l w (walk.one_more k m n z q f e s hs ds vs ps x os o h i y rest) =
      let proof : HasProved W (basis ax cl env ls) held (with_stated k ps) os z = proves_walk W ax cl ls env reads held g at (with_stated k ps) ds e n (Made os z) y in
      let others : WhereMade o (HasSupposed W (basis ax cl env ls) held k vs) = supposes_walk W ax cl ls env reads held g at k vs z o rest in
      made_behind (HasSupposed W (basis ax cl env ls) held k (more_supposes (CaseSuppose q hs f ds e s) vs)) os (with_case x o)
      (case_made (λ qs v. HasSupposed W (basis ax cl env ls) held k (more_supposes (CaseSuppose q hs f ds e s) vs) (os ++ qs) v) x o
      (made_mapped (HasSupposed W (basis ax cl env ls) held k vs) (λ qs v. HasSupposed W (basis ax cl env ls) held k (more_supposes (CaseSuppose q hs f ds e s) vs) (os ++ qs) (record { suppositions = x ∷ v.suppositions; left = v.left })) o
      (λ qs v more p met.
      let all : AllStanding (next k) ps = propositions_stand W env reads k p.is_whole m (hypotheses_in hs) (Ok ps) n h in
      ((case_of W (basis ax cl env ls) reads held k p q ps all x i (proof (stated_start W (basis ax cl env ls) reads held k p ps all) (met_left ax cl os qs met)), (more p (met_right ax cl os qs met)).0), λ some. tt))
      others))

  all_walk : (W : Context → Type 0) (ax : List Formula) (cl : List Clause) (ls : List NamedLetter) (env : Environment) → ReadsWell env W → (held : List Formula) → IsGrounded (basis ax cl env ls) held → (at : Extent) (s : State) (ds : StepList) (w : Walked State) → GoesAll env at s ds w → WhereMade w (Walks W (basis ax cl env ls) held s)
  all_walk W ax cl ls env reads held g at s ds w (walk.no_more z) = λ p met. reaches_itself W (basis ax cl env ls) held z p
  all_walk W ax cl ls env reads held g at s ds w (walk.stopped z d es f r h i) = tt
  all_walk W ax cl ls env reads held g at s ds w (walk.goes_on z t d es f os o h i rest) =
      let one : Walks W (basis ax cl env ls) held z os t = λ p. goes_walk W ax cl ls env reads held g at z p f d (Made os t) i in
      made_behind (Walks W (basis ax cl env ls) held z) os o
      (made_mapped (Walks W (basis ax cl env ls) held t) (λ ps u. Walks W (basis ax cl env ls) held z (os ++ ps) u) o
      (λ ps u more p met.
      let r : Reaches W (basis ax cl env ls) held z held t = one p (met_left ax cl os ps met) in
      reaches_further W (basis ax cl env ls) held z held t held u r (more r.proper (met_right ax cl os ps met)))
      (all_walk W ax cl ls env reads held g at t es o rest))

pub skeleton_law : (W : Context → Type 0) → SkeletonLaw W
skeleton_law W b reads held g c p th w at ds end l m os proves met =
    let proof : IsProof b.axioms held (at_start_of_proof c th) = proves_walk W b.axioms b.clauses b.letters b.env reads held g at (at_start_of_proof c th) ds end l (Made os m) proves (proof_start W b reads held c p th w) met in
    from_start b.axioms held c (erase th) (proof.derives th refl w)

pub justification_law : (W : Context → Type 0) → JustificationLaw W
justification_law W b reads held g c p x stands closed at first behind linked j l m os h met =
    justifies W b.axioms b.clauses b.letters b.env reads held g at c p first behind linked j x (stands, closed) (subst (Stands (next c)) (sym closed) (sentence_stands_law (next c) x.variables x.inner stands)) l (Made os m) h met

pub statement_law : (W : Context → Type 0) → StatementLaw W
statement_law W b reads held g c p none at first t l os d h met =
    let r : Reaches W b held (state c Proof l) held d = states_walk W b.axioms b.clauses b.letters b.env reads held g at (state c Proof l) p first t (Made os d) h met in
    let own : (d.context.thesis ≡ None) × ((s : Statement) → Stands (next c) s → Derives b.axioms (facts d.context ++ held) (erase s) → Derives b.axioms (facts c ++ held) (erase s)) = own_level b.axioms held c d.context d.block r.passes none in
    (r.proper, own.0, own.1)
