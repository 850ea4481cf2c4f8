-- Statements that introduce names lead soundly on.
use Rattle.std.proofs.Common.{◌≡◌, ℕ, suc, List, [], ◌∷◌, ◌++◌, map, refl, sym, ◌∙◌, subst, arith, Result, Ok, None}
use Rattle.std.specs.Prelude.{is_some}
use Rattle.mz_base.specs.declared.place.Place.{Place}
use Rattle.mz_logic.specs.Formula.{Formula}
use Rattle.mz_logic.specs.Indices.{is_below}
use Rattle.mz_logic.specs.Derives.{Derives}
use Rattle.mz_logic.proofs.Each.{Each, cut_each, each_itself, each_append, each_left, each_right}
use Rattle.mz_core.specs.Statement.{Statement}
use Rattle.mz_core.specs.TypeStatements.{is_of_type}
use Rattle.mz_core.specs.Erasure.{erase}
use Rattle.mz_core.specs.declared.outcome.Left.{Left}
use Rattle.mz_core.proofs.AllLemmas.{is_of_type_all}
use Rattle.mz_core.proofs.LawProofs.{in_force_at, statement_in_force-all}
use Rattle.mz_context.specs.Context.{next}
use Rattle.mz_context.specs.declared.context.Context.{Context}
use Rattle.mz_names.specs.Closing.{there_are}
use Rattle.mz_cited.specs.Cited.{members}
use Rattle.mz_tree_proof.specs.declared.introduction.ConsiderTree.{ConsiderTree}
use Rattle.mz_tree_proof.specs.declared.introduction.DeffuncTree.{DeffuncTree}
use Rattle.mz_tree_proof.specs.declared.introduction.DefpredTree.{DefpredTree}
use Rattle.mz_tree_proof.specs.declared.introduction.IntroductionTree.{IntroductionTree}
use Rattle.mz_tree_proof.specs.declared.introduction.NamedTermTree.{NamedTermTree}
use Rattle.mz_tree_proof.specs.declared.introduction.ReconsiderTree.{ReconsiderTree}
use Rattle.mz_private.specs.Private.{with_functor, with_predicate}
use Rattle.mz_steps.specs.declared.read_step.Definition.{Definition}
use Rattle.mz_steps.specs.declared.read_step.ReadStep.{ReadStep}
use Rattle.mz_steps.specs.declared.read_step.ReadStep.TheVariants as read
use Rattle.mz_obligations.specs.declared.obligation.Extent.{Extent}
use Rattle.mz_steps_laws.specs.Facts.{facts}
use Rattle.mz_justified.specs.declared.proof_fault.ProofRefusal.{ProofRefusal}
use Rattle.mz_block_laws.specs.Orders.{Stands, DefinitionStands, IsInOrder}
use Rattle.mz_block_laws.specs.Met.{IsMet, AreMet}
use Rattle.mz_block_laws.proofs.OrderLemmas.{there_are_stand}
use Rattle.mz_block_laws.proofs.OrderProofs.{now_in_order}
use Rattle.mz_block_laws.proofs.PassProofs.{no_step_law, passes_otherwise}
use Rattle.mz_block_laws.proofs.BlockProofs.{without_previous, fewer_facts}
use Rattle.mz_walk.specs.Walked.{State, state, with_left, OneByOne, Walked, Made, Refused, without_obligations}
use Rattle.mz_walk.specs.Walked as walked
use Rattle.mz_walk.specs.Introductions as introductions
use Rattle.mz_walk.specs.Introductions.{Considers, type_owed, Retypes, Reconsiders, SetsOne, DefinesFunctor, DefinesPredicate, Introduces}
use Rattle.mz_walk_laws.specs.Grounds.{Basis, IsGrounded, ReadsWell, IsProper}
use Rattle.mz_walk_laws.proofs.Outcomes.{WhereOk, WhereMade, ok_mapped, ok_under, made_mapped, made_without, made_behind}
use Rattle.mz_walk_laws.proofs.ReadingLemmas.{DescriptionStands, description_stands, AllDefined, retyped_read}
use Rattle.mz_walk_laws.proofs.PerformLemmas.{Reaches, reaches_itself, reaches_further, performs_reaches, alone_reaches, held_behind, AllReady, AllOwed, known_each_reaches}
use Rattle.mz_walk_laws.proofs.JustifiedProofs.{met_left, met_first, justified_derives, AllDerived, AllStand, each_justified}
use Rattle.mz_walk_laws.proofs.CompactProofs.{kept_are}
use Rattle.mz_walk_laws.proofs.SkeletonProofs.{with_other_left, described_stated, NameStands, named_stands, definition_later}

-- the same state behind, with another amount left
pub to_other_left : (W : Context → Type 0) (b : Basis) (held : List Formula) (s t : State) (l : Left) → Reaches W b held s held t → Reaches W b held s held (with_left t l)
to_other_left W b held s t l r = record { proper = r.proper; passes = r.passes }

-- consider
considered_walks : (W : Context → Type 0) (b : Basis) → ReadsWell b.env W → (held : List Formula) → IsGrounded b held → (at : Extent) (first : Place) (s : State) → IsProper W b held s.context → (t : ConsiderTree) (o : Walked State) → Considers b.env at first s t o → WhereMade o (λ os u. AreMet b.axioms b.clauses os → Reaches W b held s held u)
considered_walks W b reads held g at first s p t o (introductions.follows_nothing h) = tt
considered_walks W b reads held g at first s p t o (introductions.not_read r l h k) = tt
considered_walks W b reads held g at first s p t o (introductions.not_justified d l m r h k i) = tt
considered_walks W b reads held g at first s p t o (introductions.considered d l m x q h k i j) =
    let c : Context = s.context in
    let w : DescriptionStands c d = description_stands W b.env reads c p.is_whole s.left first t.declarations t.such.propositions (Ok d) l k in
    let r : ReadStep = read.Consider d.variables d.statement in
    let some : Statement = there_are (next c) d.variables d.statement in
    let just : IsMet b.axioms b.clauses x → Derives b.axioms (facts c ++ held) (erase some) =
    justified_derives W b held g c p at first t.semicolon (is_some t.then) t.simple some (there_are_stand (next c) d.variables d.statement w.stands) l (Ok x) m i in
    made_behind (λ os u. AreMet b.axioms b.clauses os → Reaches W b held s held u) (x ∷ []) (without_obligations q)
    (made_without (λ os u. AreMet b.axioms b.clauses (x ∷ os) → Reaches W b held s held u) q
    (ok_under (Reaches W b held s held) q (λ (met : AreMet b.axioms b.clauses (x ∷ [])).
    ok_mapped (Reaches W b held (with_left s m) held) (Reaches W b held s held) q (λ u y. with_other_left W b held s m held u y)
    (performs_reaches W b reads held g first (with_left s m) p r w.stands tt (just (met_first b.axioms b.clauses x [] met)) d.propositions w.propositions (described_stated b.axioms held c d w) held p.order.held_in_force (held_behind b.axioms held c r) q j))))

-- reconsider
type_stands : (n : ℕ) (d : Definition) → DefinitionStands n d → Stands n (type_owed d)
type_stands n d w =
    (statement_in_force-all n 0 (is_of_type d.ty d.term) ∙ is_of_type_all (in_force_at n) 0 d.ty d.term w.0.0 w.1.1, is_of_type_all is_below 0 d.ty d.term w.0.1 w.1.0)

types_stand : (n : ℕ) (ds : List Definition) → AllDefined n ds → AllStand n (map type_owed ds)
types_stand n [] w = tt
types_stand n (d ∷ ds) w = (type_stands n d w.0, types_stand n ds w.1)

retyped_ready : (ax held : List Formula) (n : ℕ) (ds : List Definition) → AllDefined n ds → AllReady ax held n (map read.Reconsider ds)
retyped_ready ax held n [] w = tt
retyped_ready ax held n (d ∷ ds) w = (record { stands = λ m le. definition_later n m d le w.0; typed = λ g from. tt }, retyped_ready ax held n ds w.1)

retyped_owed : (ax held : List Formula) (ds : List Definition) → AllDerived ax held (map type_owed ds) → AllOwed ax held (map read.Reconsider ds)
retyped_owed ax held [] all = tt
retyped_owed ax held (d ∷ ds) all =
    (λ c g from. cut_each ax g held (erase (type_owed d)) from (all (type_owed d) (0, omega arith, refl)), retyped_owed ax held ds (λ s is. all s (suc is.0, omega (arith, is.1), is.2)))

retyped_walks : (W : Context → Type 0) (b : Basis) → ReadsWell b.env W → (held : List Formula) → IsGrounded b held → (at : Extent) (first : Place) (s : State) → IsProper W b held s.context → (t : ReconsiderTree) (ds : List Definition) → AllDefined (next s.context) ds → (o : Walked State) → Retypes b.env at first s t ds o → WhereMade o (λ os u. AreMet b.axioms b.clauses os → Reaches W b held s held u)
retyped_walks W b reads held g at first s p t ds w o (introductions.too_large h) = tt
retyped_walks W b reads held g at first s p t ds w o (introductions.not_justified ss r h k) = tt
retyped_walks W b reads held g at first s p t ds w o (introductions.retyped ss m os q h k i) =
    let c : Context = s.context in
    let e : ss ≡ map type_owed ds = kept_are (map type_owed ds) ss h in
    let stand : AllStand (next c) ss = subst (AllStand (next c)) (sym e) (types_stand (next c) ds w) in
    let just : AreMet b.axioms b.clauses os → AllDerived b.axioms (facts c ++ held) ss = each_justified W b held g c p at first t.semicolon (is_some t.then) t.simple ss stand s.left (Made os m) k in
    let ready : AllReady b.axioms (facts c ++ held) (next c) (map read.Reconsider ds) = retyped_ready b.axioms (facts c ++ held) (next c) ds w in
    made_behind (λ ps u. AreMet b.axioms b.clauses ps → Reaches W b held s held u) os (without_obligations q)
    (made_without (λ ps u. AreMet b.axioms b.clauses (os ++ ps) → Reaches W b held s held u) q
    (ok_under (Reaches W b held s held) q (λ (met : AreMet b.axioms b.clauses (os ++ [])).
    ok_mapped (Reaches W b held (with_left s m) held) (Reaches W b held s held) q (λ u y. with_other_left W b held s m held u y)
    (known_each_reaches W b reads held g first (with_left s m) p (map read.Reconsider ds) ready
    (retyped_owed b.axioms (facts c ++ held) ds (subst (AllDerived b.axioms (facts c ++ held)) e (just (met_left b.axioms b.clauses os [] met)))) q i))))

reconsidered_walks : (W : Context → Type 0) (b : Basis) → ReadsWell b.env W → (held : List Formula) → IsGrounded b held → (at : Extent) (first : Place) (s : State) → IsProper W b held s.context → (t : ReconsiderTree) (o : Walked State) → Reconsiders b.env at first s t o → WhereMade o (λ os u. AreMet b.axioms b.clauses os → Reaches W b held s held u)
reconsidered_walks W b reads held g at first s p t o (introductions.follows_nothing h) = tt
reconsidered_walks W b reads held g at first s p t o (introductions.not_read r l h k) = tt
reconsidered_walks W b reads held g at first s p t o (introductions.reconsidered ds l q h k i) =
    made_mapped (λ os u. AreMet b.axioms b.clauses os → Reaches W b held (with_left s l) held u) (λ os u. AreMet b.axioms b.clauses os → Reaches W b held s held u) q
    (λ os u derive met. with_other_left W b held s l held u (derive met))
    (retyped_walks W b reads held g at first (with_left s l) p t ds (retyped_read W b.env reads s.context p.is_whole s.left (members t.retyped) t.ty (Ok ds) l k) q i)

-- set
set_reaches : (W : Context → Type 0) (b : Basis) → ReadsWell b.env W → (held : List Formula) → IsGrounded b held → (first : Place) (s : State) → IsProper W b held s.context → (n : NamedTermTree) (o : Result State ProofRefusal) → SetsOne b.env first s n o → WhereOk o (Reaches W b held s held)
set_reaches W b reads held g first s p n o (introductions.not_read r l h) = tt
set_reaches W b reads held g first s p n o (introductions.set d l q h k) =
    let w : NameStands b.axioms held s.context d = named_stands W b reads held g s.context p s.left n (Ok d) l h in
    ok_mapped (Reaches W b held (with_left s l) held) (Reaches W b held s held) q (λ x y. with_other_left W b held s l held x y)
    (alone_reaches W b reads held g first (with_left s l) p (read.Set d) w.stands w.typed tt q k)

each_set : (W : Context → Type 0) (b : Basis) → ReadsWell b.env W → (held : List Formula) → IsGrounded b held → (first : Place) (s : State) → IsProper W b held s.context → (ns : List NamedTermTree) (o : Result State ProofRefusal) → OneByOne (SetsOne b.env first) s ns o → WhereOk o (Reaches W b held s held)
each_set W b reads held g first s p ns o (walked.none_left x) = reaches_itself W b held x p
each_set W b reads held g first s p ns o (walked.one_refused x n ms f h) = tt
each_set W b reads held g first s p ns o (walked.one_taken x u n ms q h more) =
    let one : Reaches W b held x held u = set_reaches W b reads held g first x p n (Ok u) h in
    ok_mapped (Reaches W b held u held) (Reaches W b held x held) q (λ z y. reaches_further W b held x held u held z one y) (each_set W b reads held g first u one.proper ms q more)

-- a name that says nothing
named_reaches : (W : Context → Type 0) (b : Basis) (held : List Formula) (s : State) → IsProper W b held s.context → (d : Context) (l : Left) → W d → IsInOrder held d → facts d ≡ facts (without_previous s.context) → d.thesis ≡ s.context.thesis → next d ≡ next s.context → d.letters ≡ s.context.letters → Reaches W b held s held (state d s.block l)
named_reaches W b held s p d l whole order ef et en el =
    let c : Context = s.context in
    let g : List Formula = facts c ++ held in
    let itself : Each b.axioms g g = each_itself b.axioms g in
    let fewer : Each b.axioms g (facts d) = subst (Each b.axioms g) (sym ef) (fewer_facts b.axioms g c (each_left b.axioms g (facts c) held itself)) in
    record {
      proper = record { is_whole = whole; order = order; letters = el ∙ p.letters };
      passes = passes_otherwise b.axioms held c held c held d s.block s.block et en (each_append b.axioms g (facts d) held fewer (each_right b.axioms g (facts c) held itself)) (no_step_law b.axioms held c s.block);
    }

functor_reaches : (W : Context → Type 0) (b : Basis) → ReadsWell b.env W → (held : List Formula) → (s : State) → IsProper W b held s.context → (t : DeffuncTree) (o : Result State ProofRefusal) → DefinesFunctor b.env s t o → WhereOk o (Reaches W b held s held)
functor_reaches W b reads held s p t o (introductions.not_read r l h) = tt
functor_reaches W b reads held s p t o (introductions.defined f l h) =
    let i : IsInOrder held (without_previous s.context) = now_in_order held s.context p.order in
    named_reaches W b held s p (with_functor s.context f) l (reads.with_functor_read s.context p.is_whole s.left l t f h) (record { said = i.said; held_in_force = i.held_in_force }) refl refl refl refl

predicate_reaches : (W : Context → Type 0) (b : Basis) → ReadsWell b.env W → (held : List Formula) → (s : State) → IsProper W b held s.context → (t : DefpredTree) (o : Result State ProofRefusal) → DefinesPredicate b.env s t o → WhereOk o (Reaches W b held s held)
predicate_reaches W b reads held s p t o (introductions.not_read r l h) = tt
predicate_reaches W b reads held s p t o (introductions.defined q l h) =
    let i : IsInOrder held (without_previous s.context) = now_in_order held s.context p.order in
    named_reaches W b held s p (with_predicate s.context q) l (reads.with_predicate_read s.context p.is_whole s.left l t q h) (record { said = i.said; held_in_force = i.held_in_force }) refl refl refl refl

pub introduced_walks : (W : Context → Type 0) (b : Basis) → ReadsWell b.env W → (held : List Formula) → IsGrounded b held → (at : Extent) (first : Place) (s : State) → IsProper W b held s.context → (t : IntroductionTree) (o : Walked State) → Introduces b.env at first s t o → WhereMade o (λ os u. AreMet b.axioms b.clauses os → Reaches W b held s held u)
introduced_walks W b reads held g at first s p t o (introductions.considers u q h) = considered_walks W b reads held g at first s p u q h
introduced_walks W b reads held g at first s p t o (introductions.reconsiders u q h) = reconsidered_walks W b reads held g at first s p u q h
introduced_walks W b reads held g at first s p t o (introductions.sets u q h) =
    made_without (λ os x. AreMet b.axioms b.clauses os → Reaches W b held s held x) q
    (ok_mapped (Reaches W b held s held) (λ x. AreMet b.axioms b.clauses [] → Reaches W b held s held x) q (λ x y met. y) (each_set W b reads held g first s p (members u.named) q h))
introduced_walks W b reads held g at first s p t o (introductions.private_functor u q h) =
    made_without (λ os x. AreMet b.axioms b.clauses os → Reaches W b held s held x) q
    (ok_mapped (Reaches W b held s held) (λ x. AreMet b.axioms b.clauses [] → Reaches W b held s held x) q (λ x y met. y) (functor_reaches W b reads held s p u q h))
introduced_walks W b reads held g at first s p t o (introductions.private_predicate u q h) =
    made_without (λ os x. AreMet b.axioms b.clauses os → Reaches W b held s held x) q
    (ok_mapped (Reaches W b held s held) (λ x. AreMet b.axioms b.clauses [] → Reaches W b held s held x) q (λ x y met. y) (predicate_reaches W b reads held s p u q h))
