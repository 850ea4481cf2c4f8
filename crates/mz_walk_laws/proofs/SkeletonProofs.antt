-- The steps of the skeleton lead soundly on.
use Rattle.std.proofs.Common.{◌≡◌, ◌≤◌, ℕ, suc, List, [], ◌∷◌, ◌++◌, map, refl, sym, ap, ◌∙◌, subst, arith, Result, Ok, Err}
use Rattle.std.specs.Prelude.{Contains}
use Rattle.std.specs.List.{list_all}
use Rattle.std.proofs.lemmas.Bool.{and_from}
use Rattle.mz_base.specs.declared.place.Place.{Place}
use Rattle.mz_logic.specs.Term.{Term}
use Rattle.mz_logic.specs.Formula.{Formula}
use Rattle.mz_logic.specs.Derives.{Derives}
use Rattle.mz_logic.proofs.Each.{Each, cut_each, each_itself, each_append, each_left, each_right}
use Rattle.mz_core.specs.Statement.{Statement}
use Rattle.mz_core.specs.Guard.{guard}
use Rattle.mz_core.specs.Erasure.{erase}
use Rattle.mz_core.specs.InForce.{formula_in_force}
use Rattle.mz_core.specs.declared.outcome.Left.{Left}
use Rattle.mz_core.proofs.AllLemmas.{all-append}
use Rattle.mz_core.proofs.LawProofs.{erasure_in_force}
use Rattle.mz_laws.proofs.StatementProofs.{more_term_in_force}
use Rattle.mz_context.specs.Context.{next}
use Rattle.mz_context.specs.declared.context.Context.{Context}
use Rattle.mz_context.specs.declared.labelled.LabelledStatement.{LabelledStatement}
use Rattle.mz_environment.specs.declared.environment.Environment.{Environment}
use Rattle.mz_types.specs.Known.{typing}
use Rattle.mz_chain_laws.proofs.ChainHolds.{chain_law}
use Rattle.mz_names.specs.Closing.{constant_of, with_variables}
use Rattle.mz_names.specs.declared.refusal.Refusal.{Refusal}
use Rattle.mz_names.specs.declared.variable.Variable.{Variable}
use Rattle.mz_tree.specs.Trees.{DeclaredData}
use Rattle.mz_tree.specs.declared.word.Word.{Word}
use Rattle.mz_cited.specs.Cited.{members}
use Rattle.mz_tree_proof.specs.declared.introduction.NamedTermTree.{NamedTermTree}
use Rattle.mz_tree_proof.specs.declared.propositions.PropositionTree.{PropositionTree}
use Rattle.mz_tree_proof.specs.declared.skeleton.GivenTree.{GivenTree}
use Rattle.mz_tree_proof.specs.declared.skeleton.LetTree.{LetTree}
use Rattle.mz_tree_proof.specs.declared.skeleton.SkeletonTree.{SkeletonTree}
use Rattle.mz_tree_proof.specs.declared.skeleton.TakenTree.{TakenTree}
use Rattle.mz_thesis_laws.specs.RowLaws.{AreInForce}
use Rattle.mz_thesis_laws.proofs.StatementProofs.{conjunction_out}
use Rattle.mz_steps.specs.Rows.{with_constants}
use Rattle.mz_steps.specs.Changes.{statement_of}
use Rattle.mz_steps.specs.declared.read_step.Definition.{Definition}
use Rattle.mz_steps.specs.declared.read_step.ReadStep.{ReadStep}
use Rattle.mz_steps.specs.declared.read_step.ReadStep.TheVariants as read
use Rattle.mz_steps_laws.specs.Facts.{facts}
use Rattle.mz_steps_laws.proofs.FactLemmas.{granted, next_with}
use Rattle.mz_parts.specs.Declarations.{declared_in}
use Rattle.mz_parts.specs.Propositions.{stated_by, hypotheses_in}
use Rattle.mz_parts.specs.Joined.{joined_within}
use Rattle.mz_parts.specs.Named as named
use Rattle.mz_parts.specs.Named.{Defines, NamedRead}
use Rattle.mz_parts.specs.declared.described.Description.{Description}
use Rattle.mz_justified.specs.declared.proof_fault.ProofRefusal.{ProofRefusal}
use Rattle.mz_block_laws.specs.Orders.{Stands, TermStands, TypeStands, AreTyped, DefinitionStands}
use Rattle.mz_block_laws.specs.BlockLaws.{known_behind, AreStated}
use Rattle.mz_block_laws.proofs.OrderLemmas.{all_left, all_right, rests_in}
use Rattle.mz_block_laws.proofs.OrderProofs.{stated_in_order}
use Rattle.mz_block_laws.proofs.BlockProofs.{case_stated}
use Rattle.mz_block_laws.proofs.MetProofs.{mapped_member}
use Rattle.mz_block_laws.proofs.PassProofs.{stated_passes_law}
use Rattle.mz_block_laws.proofs.StepProofs.{same_next}
use Rattle.mz_walk.specs.Walked.{State, state, with_left, OneByOne}
use Rattle.mz_walk.specs.Walked as walked
use Rattle.mz_walk.specs.Performing as performing
use Rattle.mz_walk.specs.Performing.{Performs, PerformsAlone, stating, stating_if, stating_within}
use Rattle.mz_walk.specs.Skeleton as skeleton
use Rattle.mz_walk.specs.Skeleton.{lets, Letting, letting, letting_then, LetsDeclared, LetsReserved, Lets, Assuming, assuming, assuming_then, AssumesOne, Assumes, conditions_in, LetsSuch, Gives, TakesOne, StepsOn}
use Rattle.mz_walk_laws.specs.Grounds.{Basis, IsGrounded, ReadsWell, IsProper}
use Rattle.mz_walk_laws.proofs.Outcomes.{WhereOk, ok_mapped, ok_both}
use Rattle.mz_walk_laws.proofs.ReadingLemmas.{type_later, statement_later, sentence_stands, AllStanding, standing_and, declared_typed, DescriptionStands, description_stands}
use Rattle.mz_walk_laws.proofs.PerformLemmas.{more_grounded, founded_steps, held_proper, Reaches, reaches_itself, reaches_further, performs_reaches, alone_reaches, held_behind, nothing_stated, nothing_standing, performs_later, AllReady, known_each_reaches}

-- the same context with another amount left
pub with_other_left : (W : Context → Type 0) (b : Basis) (held : List Formula) (s : State) (l : Left) (kept : List Formula) (t : State) → Reaches W b held (with_left s l) kept t → Reaches W b held s kept t
with_other_left W b held s l kept t r = record { proper = r.proper; passes = r.passes }

-- let
let_next : (e : Environment) (first : Place) (s : State) (v : Variable) (o : Result State ProofRefusal) → PerformsAlone e first s (read.Let v) o → WhereOk o (λ t. next t.context ≡ suc (next s.context))
let_next e first s v o (performing.unfit h) = tt
let_next e first s v o (performing.beyond a h k) = tt
let_next e first s v o (performing.performed a h k) = same_next (with_constants s.context (read.Let v)) a ∙ next_with s.context (constant_of v)

let_reaches : (W : Context → Type 0) (b : Basis) → ReadsWell b.env W → (held : List Formula) → IsGrounded b held → (first : Place) (s : State) → IsProper W b held s.context → (v : Variable) → TypeStands (next s.context) v.ty → (o : Result State ProofRefusal) → PerformsAlone b.env first s (read.Let v) o → WhereOk o (Reaches W b held s held)
let_reaches W b reads held g first s p v w o h = alone_reaches W b reads held g first s p (read.Let v) w tt tt o h

pub record LetTaken (n : ℕ) (r : ReadStep) (qs : List ReadStep) : Type 0 where
  pub variable : Variable
  pub others : List Variable
  pub is_let : r ≡ read.Let variable
  pub are_lets : qs ≡ lets others
  pub stands : TypeStands n variable.ty
  pub typed : AreTyped (suc n) others

let_taken : (n : ℕ) (vs : List Variable) → AreTyped n vs → (r : ReadStep) (qs : List ReadStep) → r ∷ qs ≡ lets vs → LetTaken n r qs
let_taken n [] typed r qs e = absurd cc
let_taken n (v ∷ vs) typed r qs e = record { variable = v; others = vs; is_let = cc; are_lets = cc; stands = typed.0; typed = typed.1 }

lets_reach : (W : Context → Type 0) (b : Basis) → ReadsWell b.env W → (held : List Formula) → IsGrounded b held → (first : Place) (s : State) → IsProper W b held s.context → (vs : List Variable) → AreTyped (next s.context) vs → (rs : List ReadStep) → rs ≡ lets vs → (o : Result State ProofRefusal) → OneByOne (PerformsAlone b.env first) s rs o → WhereOk o (Reaches W b held s held)
lets_reach W b reads held g first s p vs typed rs e o (walked.none_left x) = reaches_itself W b held x p
lets_reach W b reads held g first s p vs typed rs e o (walked.one_refused x r qs f h) = tt
lets_reach W b reads held g first s p vs typed rs e o (walked.one_taken x t r qs q h more) =
    let l : LetTaken (next x.context) r qs = let_taken (next x.context) vs typed r qs e in
    let step : PerformsAlone b.env first x (read.Let l.variable) (Ok t) = subst (λ y. PerformsAlone b.env first x y (Ok t)) l.is_let h in
    let one : Reaches W b held x held t = let_reaches W b reads held g first x p l.variable l.stands (Ok t) step in
    let up : next t.context ≡ suc (next x.context) = let_next b.env first x l.variable (Ok t) step in
    let rest : WhereOk q (Reaches W b held t held) = lets_reach W b reads held g first t one.proper l.others (subst (λ n. AreTyped n l.others) (sym up) l.typed) qs l.are_lets q more in
    ok_mapped (Reaches W b held t held) (Reaches W b held x held) q (λ u y. reaches_further W b held x held t held u one y) rest

abbrev LetReaches : (W : Context → Type 0) (b : Basis) → List Formula → State → Letting → Type 0
LetReaches W b held s a = Reaches W b held s held a.state

let_then : (P : State → Type 0) (ws : List Word) (o : Result State ProofRefusal) → WhereOk o P → WhereOk (letting_then ws o) (λ a. P a.state)
let_then P ws (Ok s) h = h
let_then P ws (Err r) h = tt

declared_reaches : (W : Context → Type 0) (b : Basis) → ReadsWell b.env W → (held : List Formula) → IsGrounded b held → (first : Place) (a : Letting) → IsProper W b held a.state.context → (d : DeclaredData) (o : Result Letting ProofRefusal) → LetsDeclared b.env first a d o → WhereOk o (LetReaches W b held a.state)
declared_reaches W b reads held g first a p d o (skeleton.not_read others r l h) = tt
declared_reaches W b reads held g first a p d o (skeleton.declared others vs l q h k) =
    let typed : AreTyped (next a.state.context) vs = declared_typed W b.env reads a.state.context p.is_whole a.waiting a.state.left d (Ok vs) others l h in
    let_then (Reaches W b held a.state held) others q
    (ok_mapped (Reaches W b held (with_left a.state l) held) (Reaches W b held a.state held) q (λ u y. with_other_left W b held a.state l held u y)
    (lets_reach W b reads held g first (with_left a.state l) p vs typed (lets vs) refl q k))

each_declared : (W : Context → Type 0) (b : Basis) → ReadsWell b.env W → (held : List Formula) → IsGrounded b held → (first : Place) (a : Letting) → IsProper W b held a.state.context → (ds : List DeclaredData) (o : Result Letting ProofRefusal) → OneByOne (LetsDeclared b.env first) a ds o → WhereOk o (LetReaches W b held a.state)
each_declared W b reads held g first a p ds o (walked.none_left x) = reaches_itself W b held x.state p
each_declared W b reads held g first a p ds o (walked.one_refused x d es f h) = tt
each_declared W b reads held g first a p ds o (walked.one_taken x t d es q h more) =
    let one : Reaches W b held x.state held t.state = declared_reaches W b reads held g first x p d (Ok t) h in
    ok_mapped (LetReaches W b held t.state) (LetReaches W b held x.state) q (λ u y. reaches_further W b held x.state held t.state held u.state one y) (each_declared W b reads held g first t one.proper es q more)

reserved_reaches : (W : Context → Type 0) (b : Basis) → ReadsWell b.env W → (held : List Formula) → IsGrounded b held → (first : Place) (s : State) → IsProper W b held s.context → (w : Word) (o : Result State ProofRefusal) → LetsReserved b.env first s w o → WhereOk o (Reaches W b held s held)
reserved_reaches W b reads held g first s p w o (skeleton.not_reserved r h) = tt
reserved_reaches W b reads held g first s p w o (skeleton.reserved v q h k) = let_reaches W b reads held g first s p v (reads.reserved s.context p.is_whole w v h) q k

each_reserved : (W : Context → Type 0) (b : Basis) → ReadsWell b.env W → (held : List Formula) → IsGrounded b held → (first : Place) (s : State) → IsProper W b held s.context → (ws : List Word) (o : Result State ProofRefusal) → OneByOne (LetsReserved b.env first) s ws o → WhereOk o (Reaches W b held s held)
each_reserved W b reads held g first s p ws o (walked.none_left x) = reaches_itself W b held x p
each_reserved W b reads held g first s p ws o (walked.one_refused x w us f h) = tt
each_reserved W b reads held g first s p ws o (walked.one_taken x t w us q h more) =
    let one : Reaches W b held x held t = reserved_reaches W b reads held g first x p w (Ok t) h in
    ok_mapped (Reaches W b held t held) (Reaches W b held x held) q (λ u y. reaches_further W b held x held t held u one y) (each_reserved W b reads held g first t one.proper us q more)

all_let : (W : Context → Type 0) (b : Basis) → ReadsWell b.env W → (held : List Formula) → IsGrounded b held → (first : Place) (s : State) → IsProper W b held s.context → (ds : List DeclaredData) (o : Result State ProofRefusal) → Lets b.env first s ds o → WhereOk o (Reaches W b held s held)
all_let W b reads held g first s p ds o (skeleton.not_declared r h) = tt
all_let W b reads held g first s p ds o (skeleton.all_declared t q h k) =
    let one : Reaches W b held s held t.state = each_declared W b reads held g first (letting s []) p ds (Ok t) h in
    ok_mapped (Reaches W b held t.state held) (Reaches W b held s held) q (λ u y. reaches_further W b held s held t.state held u one y) (each_reserved W b reads held g first t.state one.proper t.waiting q k)

-- assume: what the hypotheses so far state is held besides
abbrev assumed : List Formula → Assuming → List Formula
assumed held a = map erase (map statement_of a.stated) ++ held

pub record AssumeReaches (W : Context → Type 0) (b : Basis) (held : List Formula) (s : State) (a : Assuming) : Type 0 where
  pub reaches : Reaches W b held s (assumed held a) a.state
  pub standing : AllStanding (next a.state.context) a.stated

assume_then : (P : Assuming → Type 0) (ps : List LabelledStatement) (o : Result State ProofRefusal) → WhereOk o (λ s. P (assuming s ps)) → WhereOk (assuming_then ps o) P
assume_then P ps (Ok s) h = h
assume_then P ps (Err r) h = tt

-- one more
append-one_more_assumed : (held : List Formula) (ps : List LabelledStatement) (q : LabelledStatement) → map erase (map statement_of (ps ++ q ∷ [])) ++ held ≡ map erase (map statement_of ps) ++ (erase (statement_of q) ∷ held)
append-one_more_assumed held [] q = refl
append-one_more_assumed held (p ∷ ps) q = ap (λ fs. erase (statement_of p) ∷ fs) (append-one_more_assumed held ps q)

standing_later : (m n : ℕ) (ps : List LabelledStatement) → m ≤ n → AllStanding m ps → AllStanding n ps
standing_later m n ps le all p is = statement_later m n (statement_of p) le (all p is)

assume_grounded : (b : Basis) (held : List Formula) (a : Assuming) → IsGrounded b held → IsGrounded b (assumed held a)
assume_grounded b held a g = more_grounded b held (assumed held a) (each_right b.axioms (assumed held a) (map erase (map statement_of a.stated)) held (each_itself b.axioms (assumed held a))) g

-- what is held behind one more hypothesis derives from what is known there
assume_derives : (ax held : List Formula) (c : Context) (ps : List LabelledStatement) (q : LabelledStatement) → Each ax (facts c ++ (erase (statement_of q) ∷ (map erase (map statement_of ps) ++ held))) (map erase (map statement_of (ps ++ q ∷ [])) ++ held)
assume_derives ax held c ps q =
    let ss : List Formula = map erase (map statement_of ps) in
    let g : List Formula = facts c ++ (erase (statement_of q) ∷ (ss ++ held)) in
    let behind : Each ax g (erase (statement_of q) ∷ (ss ++ held)) = each_right ax g (facts c) (erase (statement_of q) ∷ (ss ++ held)) (each_itself ax g) in
    let both : Each ax g (ss ++ held) = each_right ax g (erase (statement_of q) ∷ []) (ss ++ held) behind in
    let last : Each ax g (erase (statement_of q) ∷ held) = each_append ax g (erase (statement_of q) ∷ []) held (each_left ax g (erase (statement_of q) ∷ []) (ss ++ held) behind) (each_right ax g ss held both) in
    subst (Each ax g) (sym (append-one_more_assumed held ps q)) (each_append ax g ss (erase (statement_of q) ∷ held) (each_left ax g ss held both) last)

assume_in_force : (n : ℕ) (held : List Formula) (ps : List LabelledStatement) (q : LabelledStatement) → AreInForce n (map erase (map statement_of ps) ++ held) → Stands n (statement_of q) → AreInForce n (map erase (map statement_of (ps ++ q ∷ [])) ++ held)
assume_in_force n held ps q h w =
    let ss : List Formula = map erase (map statement_of ps) in
    subst (AreInForce n) (sym (append-one_more_assumed held ps q))
    (all-append (formula_in_force n) ss (erase (statement_of q) ∷ held) (all_left (formula_in_force n) ss held h)
    (and_from (formula_in_force n (erase (statement_of q))) (list_all (formula_in_force n) held) (erasure_in_force n (statement_of q) w.0) (all_right (formula_in_force n) ss held h)))

assumed_one : (W : Context → Type 0) (b : Basis) → ReadsWell b.env W → (held : List Formula) → IsGrounded b held → (first : Place) (s : State) (a : Assuming) → AssumeReaches W b held s a → (t : PropositionTree) (o : Result Assuming ProofRefusal) → AssumesOne b.env first a t o → WhereOk o (AssumeReaches W b held s)
assumed_one W b reads held g first s a r t o (skeleton.not_read x l h) = tt
assumed_one W b reads held g first s a r t o (skeleton.assumed p l q h k) =
    let c : Context = a.state.context in
    let now : State = with_left a.state l in
    let more : List Formula = assumed held a in
    let n : LabelledStatement = stated_by t p in
    let w : Stands (next c) p.closed = sentence_stands W b.env reads c r.reaches.proper.is_whole a.state.left l t.formula p h in
    let kept : List Formula = map erase (map statement_of (a.stated ++ n ∷ [])) ++ held in
    let reached : WhereOk q (Reaches W b more now kept) =
    performs_reaches W b reads more (assume_grounded b held a g) first now r.reaches.proper (read.Assume p.closed) w tt tt [] (nothing_standing (next c)) (nothing_stated b.axioms (known_behind more c (read.Assume p.closed)))
    kept (assume_in_force (next c) held a.stated n r.reaches.proper.order.held_in_force w) (assume_derives b.axioms held c a.stated n) q k in
    assume_then (AssumeReaches W b held s) (a.stated ++ n ∷ []) q
    (ok_both (Reaches W b more now kept) (λ u. next c ≤ next u.context) (λ u. AssumeReaches W b held s (assuming u (a.stated ++ n ∷ []))) q
    (λ u y le. record {
      reaches = reaches_further W b held s more a.state kept u r.reaches (with_other_left W b more a.state l kept u y);
      standing = standing_and (next u.context) a.stated n (standing_later (next c) (next u.context) a.stated le r.standing) (statement_later (next c) (next u.context) p.closed le w);
    })
    reached (performs_later b.env first now (read.Assume p.closed) [] q k))

each_assumed : (W : Context → Type 0) (b : Basis) → ReadsWell b.env W → (held : List Formula) → IsGrounded b held → (first : Place) (s : State) (a : Assuming) → AssumeReaches W b held s a → (ts : List PropositionTree) (o : Result Assuming ProofRefusal) → OneByOne (AssumesOne b.env first) a ts o → WhereOk o (AssumeReaches W b held s)
each_assumed W b reads held g first s a r ts o (walked.none_left x) = r
each_assumed W b reads held g first s a r ts o (walked.one_refused x t us f h) = tt
each_assumed W b reads held g first s a r ts o (walked.one_taken x u t us q h more) = each_assumed W b reads held g first s u (assumed_one W b reads held g first s x r t (Ok u) h) us q more

-- then all of them are stated
stating_then : (P : State → Type 0) (s : State) (ps : List LabelledStatement) (o : Result Statement Refusal) → P (stating s ps) → WhereOk (stating_if s ps o) P
stating_then P s ps (Ok t) h = h
stating_then P s ps (Err r) h = tt

stating_reaches : (W : Context → Type 0) (b : Basis) → ReadsWell b.env W → (held : List Formula) (s : State) (a : Assuming) → AssumeReaches W b held s a → Reaches W b held s held (stating a.state a.stated)
stating_reaches W b reads held s a r =
    let d : Context = a.state.context in
    let ss : List Formula = map erase (map statement_of a.stated) in
    let kept : List Formula = ss ++ held in
    let g : List Formula = facts d ++ kept in
    let from_kept : Each b.axioms g kept = each_right b.axioms g (facts d) kept (each_itself b.axioms g) in
    let force : AreInForce (next d) held = all_right (formula_in_force (next d)) ss held r.reaches.proper.order.held_in_force in
    let p : IsProper W b held d = held_proper W b kept held d r.reaches.proper force in
    record {
      proper = record { is_whole = reads.with_some d p.is_whole a.stated r.standing; order = stated_in_order held d p.order a.stated r.standing; letters = p.letters };
      passes = stated_passes_law b.axioms held s.context kept d s.block a.state.block r.reaches.passes a.stated
          (λ q is. each_left b.axioms g ss held from_kept (erase (statement_of q)) (mapped_member erase (statement_of q) (map statement_of a.stated) (mapped_member statement_of q a.stated is)))
          held (each_right b.axioms g ss held from_kept);
    }

assumes_reach : (W : Context → Type 0) (b : Basis) → ReadsWell b.env W → (held : List Formula) → IsGrounded b held → (first : Place) (s : State) → IsProper W b held s.context → (ts : List PropositionTree) (o : Result State ProofRefusal) → Assumes b.env first s ts o → WhereOk o (Reaches W b held s held)
assumes_reach W b reads held g first s p ts o (skeleton.not_assumed r h) = tt
assumes_reach W b reads held g first s p ts o (skeleton.all_assumed t h) =
    let start : AssumeReaches W b held s (assuming s []) = record { reaches = reaches_itself W b held s p; standing = nothing_standing (next s.context) } in
    stating_then (Reaches W b held s held) t.state t.stated (joined_within first t.stated) (stating_reaches W b reads held s t (each_assumed W b reads held g first s (assuming s []) start ts (Ok t) h))

such_reach : (W : Context → Type 0) (b : Basis) → ReadsWell b.env W → (held : List Formula) → IsGrounded b held → (first : Place) (s : State) → IsProper W b held s.context → (t : LetTree) (o : Result State ProofRefusal) → LetsSuch b.env first s t o → WhereOk o (Reaches W b held s held)
such_reach W b reads held g first s p t o (skeleton.not_let r h) = tt
such_reach W b reads held g first s p t o (skeleton.let_such u q h k) =
    let one : Reaches W b held s held u = all_let W b reads held g first s p (declared_in t.declarations) (Ok u) h in
    ok_mapped (Reaches W b held u held) (Reaches W b held s held) q (λ x y. reaches_further W b held s held u held x one y) (assumes_reach W b reads held g first u one.proper (conditions_in t.such) q k)

-- given
pub described_stated : (ax held : List Formula) (c : Context) (d : Description) → DescriptionStands c d → AreStated ax (facts (with_variables c d.variables) ++ (erase d.statement ∷ held)) d.propositions
described_stated ax held c d w =
    let g : List Formula = facts (with_variables c d.variables) ++ (erase d.statement ∷ held) in
    let there : Derives ax g (erase d.statement) = each_right ax g (facts (with_variables c d.variables)) (erase d.statement ∷ held) (each_itself ax g) (erase d.statement) (0, omega arith, refl) in
    case_stated ax g d.propositions (conjunction_out ax g (map statement_of d.propositions) (subst (λ s. Derives ax g (erase s)) w.joined there))

gives_reach : (W : Context → Type 0) (b : Basis) → ReadsWell b.env W → (held : List Formula) → IsGrounded b held → (first : Place) (s : State) → IsProper W b held s.context → (t : GivenTree) (o : Result State ProofRefusal) → Gives b.env first s t o → WhereOk o (Reaches W b held s held)
gives_reach W b reads held g first s p t o (skeleton.not_read r l h) = tt
gives_reach W b reads held g first s p t o (skeleton.given d l q h k) =
    let c : Context = s.context in
    let w : DescriptionStands c d = description_stands W b.env reads c p.is_whole s.left first t.declarations t.such.propositions (Ok d) l h in
    let r : ReadStep = read.Given d.variables d.statement in
    ok_mapped (Reaches W b held (with_left s l) held) (Reaches W b held s held) q (λ u y. with_other_left W b held s l held u y)
    (performs_reaches W b reads held g first (with_left s l) p r w.stands tt tt d.propositions w.propositions (described_stated b.axioms held c d w) held p.order.held_in_force (held_behind b.axioms held c r) q k)

-- take, and names for terms
pub record NameStands (ax held : List Formula) (c : Context) (d : Definition) : Type 0 where
  pub stands : DefinitionStands (next c) d
  pub typed : (f : Formula) → Contains (guard d.ty d.term) f → Derives ax (facts c ++ held) f

pub defined_stands : (W : Context → Type 0) (b : Basis) → ReadsWell b.env W → (held : List Formula) → IsGrounded b held → (c : Context) → IsProper W b held c → (w : Word) (t : Term) → TermStands (next c) t → (d : Definition) → Defines b.env c w t d → NameStands b.axioms held c d
defined_stands W b reads held g c p w t stands d (named.defines r rs h) = record {
  stands = (reads.chain c p.is_whole t stands r rs h, stands);
  typed = λ f is. chain_law b.axioms (facts c ++ held) b.env c (granted b.axioms held (typing b.env c) b.env.steps c (rests_in b.axioms held (typing b.env c) b.env.steps (founded_steps b held g c p.letters) c p.order))
      (g.chains c p.letters) (reads.radices c p.is_whole) t stands.0 (r ∷ rs) h r (0, omega arith, refl) f is;
}

pub named_stands : (W : Context → Type 0) (b : Basis) → ReadsWell b.env W → (held : List Formula) → IsGrounded b held → (c : Context) → IsProper W b held c → (l : Left) (n : NamedTermTree) (o : Result Definition Refusal) (m : Left) → NamedRead b.env c 0 l n o m → WhereOk o (NameStands b.axioms held c)
named_stands W b reads held g c p l n o m (named.term_refused r after h) = tt
named_stands W b reads held g c p l n o m (named.term_read t d after h k) = defined_stands W b reads held g c p n.name t (reads.term c p.is_whole l after n.term t h) d k

term_later : (m n : ℕ) (t : Term) → m ≤ n → TermStands m t → TermStands n t
term_later m n t le w = (w.0, more_term_in_force m n t le w.1)

pub definition_later : (m n : ℕ) (d : Definition) → m ≤ n → DefinitionStands m d → DefinitionStands n d
definition_later m n d le w = (type_later m n d.ty le w.0, term_later m n d.term le w.1)

take_and_set : (ax held : List Formula) (c : Context) (d : Definition) → NameStands ax held c d → AllReady ax (facts c ++ held) (next c) (read.Take d.term ∷ read.Set d ∷ [])
take_and_set ax held c d w = (
  record { stands = λ m le. term_later (next c) m d.term le w.stands.1; typed = λ g from. tt },
  (record { stands = λ m le. definition_later (next c) m d le w.stands; typed = λ g from f is. cut_each ax g (facts c ++ held) f from (w.typed f is) }, tt),
)

taken_reaches : (W : Context → Type 0) (b : Basis) → ReadsWell b.env W → (held : List Formula) → IsGrounded b held → (first : Place) (s : State) → IsProper W b held s.context → (t : TakenTree) (o : Result State ProofRefusal) → TakesOne b.env first s t o → WhereOk o (Reaches W b held s held)
taken_reaches W b reads held g first s p t o (skeleton.not_read u r l h) = tt
taken_reaches W b reads held g first s p t o (skeleton.taken u a l q h k) =
    ok_mapped (Reaches W b held (with_left s l) held) (Reaches W b held s held) q (λ x y. with_other_left W b held s l held x y)
    (alone_reaches W b reads held g first (with_left s l) p (read.Take a) (reads.term s.context p.is_whole s.left l u a h) tt tt q k)
taken_reaches W b reads held g first s p t o (skeleton.not_named n r l h) = tt
taken_reaches W b reads held g first s p t o (skeleton.named n d l q h k) =
    let w : NameStands b.axioms held s.context d = named_stands W b reads held g s.context p s.left n (Ok d) l h in
    ok_mapped (Reaches W b held (with_left s l) held) (Reaches W b held s held) q (λ x y. with_other_left W b held s l held x y)
    (known_each_reaches W b reads held g first (with_left s l) p (read.Take d.term ∷ read.Set d ∷ []) (take_and_set b.axioms held s.context d w) (λ c g from. tt, (λ c g from. tt, tt)) q k)

each_taken : (W : Context → Type 0) (b : Basis) → ReadsWell b.env W → (held : List Formula) → IsGrounded b held → (first : Place) (s : State) → IsProper W b held s.context → (ts : List TakenTree) (o : Result State ProofRefusal) → OneByOne (TakesOne b.env first) s ts o → WhereOk o (Reaches W b held s held)
each_taken W b reads held g first s p ts o (walked.none_left x) = reaches_itself W b held x p
each_taken W b reads held g first s p ts o (walked.one_refused x t us f h) = tt
each_taken W b reads held g first s p ts o (walked.one_taken x u t us q h more) =
    let one : Reaches W b held x held u = taken_reaches W b reads held g first x p t (Ok u) h in
    ok_mapped (Reaches W b held u held) (Reaches W b held x held) q (λ z y. reaches_further W b held x held u held z one y) (each_taken W b reads held g first u one.proper us q more)

-- any of them
pub steps_on_reach : (W : Context → Type 0) (b : Basis) → ReadsWell b.env W → (held : List Formula) → IsGrounded b held → (first : Place) (s : State) → IsProper W b held s.context → (t : SkeletonTree) (o : Result State ProofRefusal) → StepsOn b.env first s t o → WhereOk o (Reaches W b held s held)
steps_on_reach W b reads held g first s p t o (skeleton.lets_such u q h) = such_reach W b reads held g first s p u q h
steps_on_reach W b reads held g first s p t o (skeleton.assumes u q h) = assumes_reach W b reads held g first s p (hypotheses_in u.hypotheses) q h
steps_on_reach W b reads held g first s p t o (skeleton.gives u q h) = gives_reach W b reads held g first s p u q h
steps_on_reach W b reads held g first s p t o (skeleton.take_in_now u h) = tt
steps_on_reach W b reads held g first s p t o (skeleton.takes u q h k) = each_taken W b reads held g first s p (members u.taken) q k
