-- Whole blocks, and sentences.
use Rattle.std.proofs.Common.{◌≡◌, ◌<◌, zero, suc, true, List, [], ◌∷◌, ◌++◌, map, refl, sym, ◌∙◌, subst, arith, Some, None}
use Rattle.std.specs.Prelude.{Contains}
use Rattle.std.specs.List.{list_all}
use Rattle.std.proofs.lemmas.List.{append-nil}
use Rattle.mz_logic.specs.Formula.{Formula}
use Rattle.mz_logic.specs.Indices.{is_below}
use Rattle.mz_logic.specs.Derives.{Derives}
use Rattle.mz_logic.proofs.Rules.{truth}
use Rattle.mz_logic.proofs.Connectives.{first}
use Rattle.mz_logic.proofs.Each.{Each, Along, cut_each, each_itself, each_under, each_append, each_left, each_right}
use Rattle.mz_core.specs.Statement.{Statement, Truth}
use Rattle.mz_core.specs.Parts.{conjunction}
use Rattle.mz_core.specs.Erasure.{erase}
use Rattle.mz_core.specs.InForce.{statement_in_force}
use Rattle.mz_core.specs.Below.{statement_below}
use Rattle.mz_core.proofs.AllLemmas.{conjunction_all}
use Rattle.mz_core.proofs.LawProofs.{conjunction_in_force}
use Rattle.mz_context.specs.Context.{next}
use Rattle.mz_context.specs.declared.context.Context.{Context}
use Rattle.mz_context.specs.declared.labelled.LabelledStatement.{LabelledStatement}
use Rattle.mz_names.specs.Closing.{with_variables}
use Rattle.mz_now.specs.Stated.{conjuncts_of, stated_by}
use Rattle.mz_now.specs.declared.now_part.NowPart.{NowPart}
use Rattle.mz_thesis_laws.proofs.UnfoldProofs.{some-inj}
use Rattle.mz_thesis_laws.proofs.StatementProofs.{conjunction_out}
use Rattle.mz_steps.specs.Changes.{statement_of, with_stated, at_start_of_proof, at_start_of_now}
use Rattle.mz_steps_laws.specs.Facts.{facts}
use Rattle.mz_steps_laws.specs.StepLaws.{guards_of}
use Rattle.mz_steps_laws.proofs.StatedProofs.{stated_law}
use Rattle.mz_steps_laws.proofs.FactLemmas.{each_with_variables}
use Rattle.mz_steps_laws.proofs.ThereAreProofs.{for_all_in}
use Rattle.mz_block_laws.specs.Passing.{Leaves, Says}
use Rattle.mz_block_laws.specs.BlockLaws.{ProofLaw, NowLaw, CaseLaw, SentenceLaw}
use Rattle.mz_block_laws.proofs.OrderLemmas.{facts_in_force, all_declared}

-- what a context says without the statement just before
abbrev pub without_previous : Context → Context
without_previous c = record c { previous = None }

none_stated : (p : LabelledStatement) → Contains [] p → ⊥
none_stated p is = let lt : is.0 < 0 = is.1 in omega arith

pub fewer_facts : (ax h : List Formula) (c : Context) → Each ax h (facts c) → Each ax h (facts (without_previous c))
fewer_facts ax h c each =
    subst (λ ps. Each ax h (facts (record c { labelled = ps; previous = None }))) (append-nil c.labelled)
    (stated_law ax h c [] each (λ p is. absurd (none_stated p is)))

-- what is left of the thesis behind a whole proof
pub at_end : (ax held : List Formula) (c d : Context) (th : Statement) (l : Leaves ax held c held d th) → d.thesis ≡ Some Truth → Derives ax (facts c ++ held) (erase th)
at_end ax held c d th l end =
    let e : l.left ≡ Truth = some-inj l.left Truth (sym l.is_left ∙ end) in
    l.sound (subst (λ s. Derives ax (facts d ++ held) (erase s)) (sym e) (truth ax (facts d ++ held)))

pub from_start : (ax held : List Formula) (c : Context) (f : Formula) → Derives ax (facts (without_previous c) ++ held) f → Derives ax (facts c ++ held) f
from_start ax held c f d =
    let g : List Formula = facts c ++ held in
    let itself : Each ax g g = each_itself ax g in
    cut_each ax g (facts (without_previous c) ++ held) f (each_append ax g (facts (without_previous c)) held (fewer_facts ax g c (each_left ax g (facts c) held itself)) (each_right ax g (facts c) held itself)) d

pub proof_law : ProofLaw
proof_law ax held c d th stands passes end =
    from_start ax held c (erase th) (at_end ax held (at_start_of_proof c th) d th (passes.of_thesis th refl stands) end)

-- what was said in all
all_said : (ps : List NowPart) (said : List NowPart) → ps ≡ [] ++ said → said ≡ ps
all_said ps said e = sym e

pub now_law : NowLaw
now_law ax held c d ps passes =
    let k : Context = at_start_of_now c in
    let e : passes.0 ≡ ps = all_said ps passes.0 passes.1 in
    let says : Says ax held k held d [] ps = subst (Says ax held k held d []) e passes.2 in
    let whole : ps ++ [] ≡ ps = append-nil ps in
    let in_force : list_all (statement_in_force (next c)) (conjuncts_of ps) ≡ true = subst (λ xs. list_all (statement_in_force (next c)) (conjuncts_of xs) ≡ true) whole (says.in_force [] tt refl) in
    let below : list_all (statement_below 0) (conjuncts_of ps) ≡ true = subst (λ xs. list_all (statement_below 0) (conjuncts_of xs) ≡ true) whole (says.is_closed [] refl) in
    let derives : Derives ax (facts k ++ held) (erase (stated_by ps)) = subst (λ xs. Derives ax (facts k ++ held) (erase (stated_by xs))) whole (says.sound [] tt refl (truth ax (facts d ++ held))) in
    (from_start ax held c (erase (stated_by ps)) derives, (conjunction_in_force (next c) (conjuncts_of ps) in_force, conjunction_all is_below 0 (conjuncts_of ps) below))

-- a case
pub case_stated : (ax g : List Formula) (ps : List LabelledStatement) → Along ax g (map erase (map statement_of ps)) → (p : LabelledStatement) → Contains ps p → Derives ax g (erase (statement_of p))
case_stated ax g [] all p is = absurd (none_stated p is)
case_stated ax g (q ∷ qs) all p (zero, lt, e) = subst (λ x. Derives ax g (erase (statement_of x))) e all.0
case_stated ax g (q ∷ qs) all p (suc i, lt, e) = case_stated ax g qs all.1 p (i, omega (arith, lt), e)

pub case_law : CaseLaw
case_law ax held c th ps d =
    let s : Statement = conjunction (map statement_of ps) in
    let g : List Formula = facts c ++ held in
    let h : List Formula = erase s ∷ g in
    let from_g : Each ax h g = each_under ax g g (erase s) (each_itself ax g) in
    let supposed : (p : LabelledStatement) → Contains ps p → Derives ax h (erase (statement_of p)) = case_stated ax h ps (conjunction_out ax h (map statement_of ps) (first ax g (erase s))) in
    cut_each ax h (facts (with_stated c ps) ++ held) (erase th)
    (each_append ax h (facts (with_stated c ps)) held (stated_law ax h c ps (each_left ax h (facts c) held from_g) supposed) (each_right ax h (facts c) held from_g)) d

-- a sentence
pub sentence_law : SentenceLaw
sentence_law ax held c order vs s w d =
    let g : List Formula = facts c ++ held in
    let gs : List Formula = guards_of (next c) vs in
    let h : List Formula = gs ++ g in
    let from_g : Each ax h g = each_right ax h gs g (each_itself ax h) in
    let known : Each ax h (facts (with_variables c vs)) = each_with_variables ax h c vs (each_left ax h (facts c) held from_g) (each_left ax h gs g (each_itself ax h)) in
    for_all_in ax g (next c) vs s (facts_in_force held c order) (all_declared (next c) vs s w)
    (cut_each ax h (facts (with_variables c vs) ++ held) (erase s) (each_append ax h (facts (with_variables c vs)) held known (each_right ax h (facts c) held from_g)) d)
