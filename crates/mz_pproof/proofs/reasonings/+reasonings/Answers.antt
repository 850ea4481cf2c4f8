use Rattle.std.proofs.Common.{rules, refl, ap, ◌∙◌, ◌≡◌, true, false}
use Rattle.std.proofs.lemmas.Result.{err_from_is_err_and}
use Rattle.mz_forms.proofs.Leads.{passes}
use Rattle.mz_tree_proof.specs.Reasoning.{StatedCompact}
use Rattle.mz_pjustification.specs.declared.keyword.Keyword.TheVariants as keywords
use Rattle.mz_pproposition.specs.Forms.{label_next}
use Rattle.mz_pproof.specs.Classes.{comes, KeyComes, begins_definition, begins_skeleton, begins_conclusion, cases_next, begins_step}
use Rattle.mz_pproof.specs.Forms.{compact_form, statement_form, step_form}
use Rattle.mz_pproof.proofs.Blocks.{block_refused_1, block_refused_2, block_refused_3, block_found, closed_refused_1, closed_refused_2, closed_found, suppose_refused_1, suppose_refused_2, suppose_refused_3, suppose_refused_4, suppose_refused_5, suppose_refused_6, suppose_found}
use Rattle.mz_pproof.proofs.Stated.{proof_refused, proof_found, simple_refused, simple_found, just_refused, continued_refused, stated_unclosed, stated_found, proposition_refused, compact_given}
use Rattle.mz_pproof.proofs.Linked as linked
use Rattle.mz_pproof.proofs.Linked.{consider_refused, consider_given, reconsider_refused, reconsider_given, compact_linked_refused, formula_refused, formula_unstated, formula_given, now_labelled_from, label_refused, then_from, now_here, label_from, from_here, from_here_refused}
use Rattle.mz_pproof.proofs.Unlabelled.{left_from, unlabelled_from}
use Rattle.mz_pproof.proofs.Steps.{take_thus, take_hence, hereby_left, hereby_from_here, begin_statement}
use Rattle.mz_pproof.proofs.Cases.{supposes_none, supposes_step, suppose_refused, supposes_end, shorter_suppose, split_refused, first_suppose_refused, supposes_refused, cases_given}
use Rattle.mz_pproof.proofs.StepLists.{steps_none, steps_step, step_refused, steps_end, shorter_step, cases_refused, cases_found}
use Rattle.mz_pproof.proofs.reasonings.+reasonings.Goals as goal

pub block-returns-in_err-place : goal.block-returns-in_err-place
block-returns-in_err-place t c =
    let p = err_from_is_err_and c.from_residual.result c.from_residual.ensures.1 in
    rw (p.1, p.2) (block_refused_1 c.args.word c.args.room _ _ _ c.in_err-place.ensures.reads)

pub block-returns-in_err-steps : goal.block-returns-in_err-steps
block-returns-in_err-steps t c =
    let p = err_from_is_err_and c.from_residual-in_err-steps.result c.from_residual-in_err-steps.ensures.1 in
    rw (p.1, p.2) (block_refused_2 c.args.word c.args.room c.in_ok-place.ensures.room _ _ _ c.in_ok-place.ensures.reads _ _ c.in_err-steps.ensures)

pub block-returns-in_err-end : goal.block-returns-in_err-end
block-returns-in_err-end t c =
    let p = err_from_is_err_and c.from_residual-in_err-end.result c.from_residual-in_err-end.ensures.1 in
    rw (p.1, p.2) (block_refused_3 c.args.word c.args.room c.in_ok-place.ensures.room _ _ _ c.in_ok-place.ensures.reads _ _ c.in_ok-steps.ensures _ _ c.in_err-end.ensures)

pub block-returns : goal.block-returns
block-returns t c =
    block_found c.args.word c.args.room c.in_ok-place.ensures.room _ _ _ c.in_ok-place.ensures.reads _ _ c.in_ok-steps.ensures _ _ c.in_ok-end.ensures

pub justification-returns-in_err-proof : goal.justification-returns-in_err-proof
justification-returns-in_err-proof t c =
    let p = err_from_is_err_and c.from_residual.result c.from_residual.ensures.1 in
    let on : KeyComes keywords.Proof c.args.reader.now.rest.now = search rules in
    rw (p.1, p.2) (proof_refused c.args.room _ _ _ on c.in_err-proof.ensures)

pub justification-returns-then-key_comes : goal.justification-returns-then-key_comes
justification-returns-then-key_comes t c =
    let on : KeyComes keywords.Proof c.args.reader.now.rest.now = search rules in
    proof_found c.args.room _ _ _ on c.in_ok-proof.ensures

pub justification-returns-in_err-tree : goal.justification-returns-in_err-tree
justification-returns-in_err-tree t c =
    let p = err_from_is_err_and c.from_residual-in_err-tree.result c.from_residual-in_err-tree.ensures.1 in
    let off : KeyComes keywords.Proof c.args.reader.now.rest.now → ⊥ = search rules in
    rw (p.1, p.2) (simple_refused c.args.room _ _ _ off c.in_err-tree.ensures)

pub justification-returns : goal.justification-returns
justification-returns t c =
    let off : KeyComes keywords.Proof c.args.reader.now.rest.now → ⊥ = search rules in
    simple_found c.args.room _ _ _ off c.in_ok-tree.ensures

pub stated-returns-in_err-tree : goal.stated-returns-in_err-tree
stated-returns-in_err-tree t c =
    let p = err_from_is_err_and c.from_residual.result c.from_residual.ensures.1 in
    rw (p.1, p.2) (just_refused c.args.proposition.formula c.args.room _ _ _ c.in_err-tree.ensures)

pub stated-returns-in_err-steps : goal.stated-returns-in_err-steps
stated-returns-in_err-steps t c =
    let p = err_from_is_err_and c.from_residual-in_err-steps.result c.from_residual-in_err-steps.ensures.1 in
    rw (p.1, p.2) (continued_refused c.args.proposition.formula c.args.room _ _ _ c.in_ok-tree.ensures _ _ _ c.may_continue-may.ensures c.in_err-steps.ensures)

pub stated-returns-in_err-semicolon : goal.stated-returns-in_err-semicolon
stated-returns-in_err-semicolon t c =
    let p = err_from_is_err_and c.from_residual-in_err-semicolon.result c.from_residual-in_err-semicolon.ensures.1 in
    rw (p.1, p.2) (stated_unclosed c.args.proposition.formula c.args.room _ _ _ c.in_ok-tree.ensures _ c.may_continue-may.ensures _ _ c.in_ok-steps.ensures _ _ c.in_err-semicolon.ensures)

pub stated-returns : goal.stated-returns
stated-returns t c =
    (_, stated_found c.args.proposition.formula c.args.room _ _ _ c.in_ok-tree.ensures _ c.may_continue-may.ensures _ _ c.in_ok-steps.ensures _ _ c.in_ok-semicolon.ensures, c.in_ok-new.ensures.ok ∙ ap (λ z. StatedCompact c.args.proposition z c.in_ok-steps.steps c.in_ok-semicolon.semicolon) c.in_ok-just.ensures.ok)

pub compact-returns-in_err-tree : goal.compact-returns-in_err-tree
compact-returns-in_err-tree t c =
    let p = err_from_is_err_and c.from_residual.result c.from_residual.ensures.1 in
    rw (p.1, p.2) (proposition_refused c.args.room _ _ _ c.in_err-tree.ensures)

pub compact-returns : goal.compact-returns
compact-returns t c =
    compact_given c.args.room _ _ _ _ _ c.in_ok-tree.ensures c.stated.ensures

pub now_statement-returns-in_err-now : goal.now_statement-returns-in_err-now
now_statement-returns-in_err-now t c =
    let p = err_from_is_err_and c.from_residual.result c.from_residual.ensures.1 in
    rw (p.1, p.2) (closed_refused_1 keywords.Now c.args.room _ _ _ c.in_err-now.ensures)

pub now_statement-returns-in_err-semicolon : goal.now_statement-returns-in_err-semicolon
now_statement-returns-in_err-semicolon t c =
    let p = err_from_is_err_and c.from_residual-in_err-semicolon.result c.from_residual-in_err-semicolon.ensures.1 in
    rw (p.1, p.2) (closed_refused_2 keywords.Now c.args.room _ _ _ _ _ c.in_ok-now.ensures c.in_err-semicolon.ensures)

pub now_statement-returns : goal.now_statement-returns
now_statement-returns t c =
    (_, closed_found keywords.Now c.args.room _ _ _ _ _ c.in_ok-now.ensures c.in_ok-semicolon.ensures, refl)

pub hereby-returns-in_err-word : goal.hereby-returns-in_err-word
hereby-returns-in_err-word t c =
    let p = err_from_is_err_and c.from_residual.result c.from_residual.ensures.1 in
    rw (p.1, p.2) (closed_refused_1 keywords.Hereby c.args.room _ _ _ c.in_err-word.ensures)

pub hereby-returns-in_err-semicolon : goal.hereby-returns-in_err-semicolon
hereby-returns-in_err-semicolon t c =
    let p = err_from_is_err_and c.from_residual-in_err-semicolon.result c.from_residual-in_err-semicolon.ensures.1 in
    rw (p.1, p.2) (closed_refused_2 keywords.Hereby c.args.room _ _ _ _ _ c.in_ok-word.ensures c.in_err-semicolon.ensures)

pub hereby-returns : goal.hereby-returns
hereby-returns t c =
    (_, closed_found keywords.Hereby c.args.room _ _ _ _ _ c.in_ok-word.ensures c.in_ok-semicolon.ensures, refl)

pub linked-returns-in_err-tree : goal.linked-returns-in_err-tree
linked-returns-in_err-tree t c =
    let p = err_from_is_err_and c.from_residual.result c.from_residual.ensures.1 in
    let on : KeyComes keywords.Consider c.args.reader.now.rest.now = search rules in
    rw (p.1, p.2) (consider_refused c.args.room _ _ _ on c.in_err-tree.ensures)

pub linked-returns-then-key_comes : goal.linked-returns-then-key_comes
linked-returns-then-key_comes t c =
    let on : KeyComes keywords.Consider c.args.reader.now.rest.now = search rules in
    consider_given c.args.room _ _ _ _ on c.in_ok-tree.ensures

pub linked-returns-in_err-tree-2 : goal.linked-returns-in_err-tree-2
linked-returns-in_err-tree-2 t c =
    let p = err_from_is_err_and c.from_residual-in_err-tree-2.result c.from_residual-in_err-tree-2.ensures.1 in
    let on : KeyComes keywords.Reconsider c.args.reader.now.rest.now = search rules in
    rw (p.1, p.2) (reconsider_refused c.args.room _ _ _ on c.in_err-tree-2.ensures)

pub linked-returns-then-key_comes-2 : goal.linked-returns-then-key_comes-2
linked-returns-then-key_comes-2 t c =
    let on : KeyComes keywords.Reconsider c.args.reader.now.rest.now = search rules in
    reconsider_given c.args.room _ _ _ _ on c.in_ok-tree-2.ensures

pub linked-returns-in_err-stated : goal.linked-returns-in_err-stated
linked-returns-in_err-stated t c =
    let p = err_from_is_err_and c.from_residual-in_err-stated.result c.from_residual-in_err-stated.ensures.1 in
    let off : KeyComes keywords.Consider c.args.reader.now.rest.now → ⊥ = search rules in
    let off_too : KeyComes keywords.Reconsider c.args.reader.now.rest.now → ⊥ = search rules in
    rw (p.1, p.2) (compact_linked_refused c.args.room _ _ _ off off_too c.in_err-stated.ensures)

pub linked-returns : goal.linked-returns
linked-returns t c =
    let off : KeyComes keywords.Consider c.args.reader.now.rest.now → ⊥ = search rules in
    let off_too : KeyComes keywords.Reconsider c.args.reader.now.rest.now → ⊥ = search rules in
    linked.compact_given c.args.room _ _ _ _ off off_too c.in_ok-stated.ensures

pub labelled-returns-then-key_comes : goal.labelled-returns-then-key_comes
labelled-returns-then-key_comes t c =
    let on : KeyComes keywords.Now c.args.reader.now.rest.now = search rules in
    now_labelled_from c.args.room _ _ _ _ on c.now_statement.ensures

pub labelled-returns-in_err-node : goal.labelled-returns-in_err-node
labelled-returns-in_err-node t c =
    let p = err_from_is_err_and c.from_residual.result c.from_residual.ensures.1 in
    let off : KeyComes keywords.Now c.args.reader.now.rest.now → ⊥ = search rules in
    rw (p.1, p.2) (formula_refused c.args.room _ _ _ off c.in_err-node.ensures)

pub labelled-returns-in_err-tree : goal.labelled-returns-in_err-tree
labelled-returns-in_err-tree t c =
    let p = err_from_is_err_and c.from_residual-in_err-tree.result c.from_residual-in_err-tree.ensures.1 in
    let off : KeyComes keywords.Now c.args.reader.now.rest.now → ⊥ = search rules in
    let refused = rw c.from_node.ensures at c.in_err-tree.ensures in
    rw (p.1, p.2) (formula_unstated c.args.room _ _ _ _ _ off c.in_ok-node.ensures.0 refused)

pub labelled-returns : goal.labelled-returns
labelled-returns t c =
    let off : KeyComes keywords.Now c.args.reader.now.rest.now → ⊥ = search rules in
    let found = rw c.from_node.ensures at c.in_ok-tree.ensures in
    formula_given c.args.room _ _ _ _ _ _ off c.in_ok-node.ensures.0 found

pub statement-returns-in-Some : goal.statement-returns-in-Some
statement-returns-in-Some t c =
    let taken = rw c.in-Some.is at c.takes_key.ensures in
    then_from c.args.room _ _ _ _ _ taken c.linked.ensures

pub statement-returns-then-definition_comes : goal.statement-returns-then-definition_comes
statement-returns-then-definition_comes t c =
    let none = rw c.in_default.is at c.takes_key.ensures in
    from_here c.args.room _ _ _ _ none c.definition.ensures

pub statement-returns-then-key_comes : goal.statement-returns-then-key_comes
statement-returns-then-key_comes t c =
    let none = rw c.in_default.is at c.takes_key.ensures in
    let on : KeyComes keywords.Now c.takes_key.new.reader.rest.now = search rules in
    from_here c.args.room _ _ _ _ none (now_here c.args.room _ _ _ on c.now_statement.ensures)

pub statement-returns-in_err-label : goal.statement-returns-in_err-label
statement-returns-in_err-label t c =
    let p = err_from_is_err_and c.from_residual.result c.from_residual.ensures.1 in
    let none = rw c.in_default.is at c.takes_key.ensures in
    let on : label_next c.takes_key.new.reader.rest.now ≡ true = search rules in
    rw (p.1, p.2) (from_here_refused c.args.room _ _ _ _ none (label_refused c.args.room _ _ _ on (c.in_err-label.ensures _)))

pub statement-returns-then-label_comes : goal.statement-returns-then-label_comes
statement-returns-then-label_comes t c =
    let none = rw c.in_default.is at c.takes_key.ensures in
    let on : label_next c.takes_key.new.reader.rest.now ≡ true = search rules in
    from_here c.args.room _ _ _ _ none (label_from c.args.room _ _ _ _ _ on (c.in_ok-label.ensures _) c.labelled.ensures)

pub statement-returns : goal.statement-returns
statement-returns t c =
    let none = rw c.in_default.is at c.takes_key.ensures in
    let no_definition : comes begins_definition c.takes_key.new.reader.rest.now ≡ false = search rules in
    let no_now : KeyComes keywords.Now c.takes_key.new.reader.rest.now → ⊥ = search rules in
    let off : label_next c.takes_key.new.reader.rest.now ≡ false = search rules in
    from_here c.args.room _ _ _ _ none (unlabelled_from c.args.room _ _ _ (left_from _ _ none no_definition no_now) off c.linked-2.ensures)

pub suppose-returns-in_err-word : goal.suppose-returns-in_err-word
suppose-returns-in_err-word t c =
    let p = err_from_is_err_and c.from_residual.result c.from_residual.ensures.1 in
    rw (p.1, p.2) (suppose_refused_1 c.args.room _ _ _ c.in_err-word.ensures.reads)

pub suppose-returns-in_err-supposed : goal.suppose-returns-in_err-supposed
suppose-returns-in_err-supposed t c =
    let p = err_from_is_err_and c.from_residual-in_err-supposed.result c.from_residual-in_err-supposed.ensures.1 in
    rw (p.1, p.2) (suppose_refused_2 c.args.room c.in_ok-word.ensures.room _ _ _ c.in_ok-word.ensures.reads _ _ c.in_err-supposed.ensures)

pub suppose-returns-in_err-behind : goal.suppose-returns-in_err-behind
suppose-returns-in_err-behind t c =
    let p = err_from_is_err_and c.from_residual-in_err-behind.result c.from_residual-in_err-behind.ensures.1 in
    rw (p.1, p.2) (suppose_refused_3 c.args.room c.in_ok-word.ensures.room _ _ _ c.in_ok-word.ensures.reads _ _ c.in_ok-supposed.ensures _ _ c.in_err-behind.ensures)

pub suppose-returns-in_err-inside : goal.suppose-returns-in_err-inside
suppose-returns-in_err-inside t c =
    let p = err_from_is_err_and c.from_residual-in_err-inside.result c.from_residual-in_err-inside.ensures.1 in
    rw (p.1, p.2) (suppose_refused_4 c.args.room c.in_ok-word.ensures.room _ _ _ c.in_ok-word.ensures.reads _ _ c.in_ok-supposed.ensures _ _ c.in_ok-behind.ensures _ _ c.in_err-inside.ensures)

pub suppose-returns-in_err-end : goal.suppose-returns-in_err-end
suppose-returns-in_err-end t c =
    let p = err_from_is_err_and c.from_residual-in_err-end.result c.from_residual-in_err-end.ensures.1 in
    rw (p.1, p.2) (suppose_refused_5 c.args.room c.in_ok-word.ensures.room _ _ _ c.in_ok-word.ensures.reads _ _ c.in_ok-supposed.ensures _ _ c.in_ok-behind.ensures _ _ c.in_ok-inside.ensures _ _ c.in_err-end.ensures)

pub suppose-returns-in_err-semicolon : goal.suppose-returns-in_err-semicolon
suppose-returns-in_err-semicolon t c =
    let p = err_from_is_err_and c.from_residual-in_err-semicolon.result c.from_residual-in_err-semicolon.ensures.1 in
    rw (p.1, p.2) (suppose_refused_6 c.args.room c.in_ok-word.ensures.room _ _ _ c.in_ok-word.ensures.reads _ _ c.in_ok-supposed.ensures _ _ c.in_ok-behind.ensures _ _ c.in_ok-inside.ensures _ _ c.in_ok-end.ensures _ _ c.in_err-semicolon.ensures)

pub suppose-returns : goal.suppose-returns
suppose-returns t c =
    suppose_found c.args.room c.in_ok-word.ensures.room _ _ _ c.in_ok-word.ensures.reads _ _ c.in_ok-supposed.ensures _ _ c.in_ok-behind.ensures _ _ c.in_ok-inside.ensures _ _ c.in_ok-end.ensures _ _ c.in_ok-semicolon.ensures

pub supposes-list-init : goal.supposes-list-init
supposes-list-init t c =
    supposes_none c.args.room _ _ c.new-items.ensures.items

pub supposes-list-preserved : goal.supposes-list-preserved
supposes-list-preserved t c =
    let on : KeyComes keywords.Suppose c.list.reader.rest.now = search rules in
    supposes_step c.args.room _ _ _ _ _ _ c.list.invariant on c.in_ok-tree.ensures c.in_ok-push.ensures.items

pub supposes-list-smaller : goal.supposes-list-smaller
supposes-list-smaller t c =
    shorter_suppose c.args.room _ _ _ c.in_ok-tree.ensures

pub supposes-returns-in_err-tree : goal.supposes-returns-in_err-tree
supposes-returns-in_err-tree t c =
    let p = err_from_is_err_and c.from_residual.result c.from_residual.ensures.1 in
    let on : KeyComes keywords.Suppose c.list.reader.rest.now = search rules in
    rw (p.1, p.2) (suppose_refused c.args.room _ _ _ _ _ c.list.invariant on c.in_err-tree.ensures)

pub supposes-returns : goal.supposes-returns
supposes-returns t c =
    let off : KeyComes keywords.Suppose c.list.reader.rest.now → ⊥ = search rules in
    supposes_end c.args.room _ _ _ c.list.invariant off

pub cases-returns-in_err-split : goal.cases-returns-in_err-split
cases-returns-in_err-split t c =
    let p = err_from_is_err_and c.from_residual.result c.from_residual.ensures.1 in
    rw (p.1, p.2) (split_refused c.args.room _ _ _ c.in_err-split.ensures)

pub cases-returns-in_err-tree : goal.cases-returns-in_err-tree
cases-returns-in_err-tree t c =
    let p = err_from_is_err_and c.from_residual-in_err-tree.result c.from_residual-in_err-tree.ensures.1 in
    rw (p.1, p.2) (first_suppose_refused c.args.room _ _ _ _ c.in_ok-split.ensures _ _ c.in_err-tree.ensures)

pub cases-returns-in_err-more : goal.cases-returns-in_err-more
cases-returns-in_err-more t c =
    let p = err_from_is_err_and c.from_residual-in_err-more.result c.from_residual-in_err-more.ensures.1 in
    rw (p.1, p.2) (supposes_refused c.args.room _ _ _ _ c.in_ok-split.ensures _ _ c.in_ok-tree.ensures _ _ c.in_err-more.ensures)

pub cases-returns : goal.cases-returns
cases-returns t c =
    rw c.in_ok-first.ensures.ok (cases_given c.args.room _ _ _ _ c.in_ok-split.ensures _ _ c.in_ok-tree.ensures _ _ c.in_ok-more.ensures)

pub conclusion-returns-in_err-tree : goal.conclusion-returns-in_err-tree
conclusion-returns-in_err-tree t c =
    let p = err_from_is_err_and c.from_residual.result c.from_residual.ensures.1 in
    let taken = rw c.in-Some.is at c.takes_key.ensures in
    rw (p.1, p.2) (passes step_form compact_form c.args.room _ _ _ _ _ (take_thus c.args.room _ _ _ taken) c.in_err-tree.ensures)

pub conclusion-returns-in-Some : goal.conclusion-returns-in-Some
conclusion-returns-in-Some t c =
    let taken = rw c.in-Some.is at c.takes_key.ensures in
    (take_thus c.args.room _ _ _ taken).finds _ _ c.in_ok-tree.ensures

pub conclusion-returns-in_err-tree-2 : goal.conclusion-returns-in_err-tree-2
conclusion-returns-in_err-tree-2 t c =
    let p = err_from_is_err_and c.from_residual-in_err-tree-2.result c.from_residual-in_err-tree-2.ensures.1 in
    let none = rw c.in_default.is at c.takes_key.ensures in
    let taken = rw c.in-Some-takes_key.is at c.takes_key-2.ensures in
    rw (p.1, p.2) (passes step_form compact_form c.args.room _ _ _ _ _ (take_hence c.args.room _ _ _ _ none taken) c.in_err-tree-2.ensures)

pub conclusion-returns-in-Some-takes_key : goal.conclusion-returns-in-Some-takes_key
conclusion-returns-in-Some-takes_key t c =
    let none = rw c.in_default.is at c.takes_key.ensures in
    let taken = rw c.in-Some-takes_key.is at c.takes_key-2.ensures in
    (take_hence c.args.room _ _ _ _ none taken).finds _ _ c.in_ok-tree-2.ensures

pub conclusion-returns : goal.conclusion-returns
conclusion-returns t c =
    let none = rw c.in_default.is at c.takes_key.ensures in
    let neither = rw c.in_default-takes_key.is at c.takes_key-2.ensures in
    hereby_from_here c.args.room _ _ _ _ (hereby_left _ _ _ c.requires none neither) c.hereby.ensures

pub step-returns-in_err-tree : goal.step-returns-in_err-tree
step-returns-in_err-tree t c =
    let p = err_from_is_err_and c.from_residual.result c.from_residual.ensures.1 in
    let no_skeleton : comes begins_skeleton c.args.reader.now.rest.now ≡ false = search rules in
    let no_conclusion : comes begins_conclusion c.args.reader.now.rest.now ≡ false = search rules in
    rw (p.1, p.2) (passes step_form statement_form c.args.room _ _ _ _ _ (begin_statement c.args.room _ no_skeleton no_conclusion) c.in_err-tree.ensures)

pub step-returns : goal.step-returns
step-returns t c =
    let no_skeleton : comes begins_skeleton c.args.reader.now.rest.now ≡ false = search rules in
    let no_conclusion : comes begins_conclusion c.args.reader.now.rest.now ≡ false = search rules in
    rw c.in_ok-tree-2.ensures.ok ((begin_statement c.args.room _ no_skeleton no_conclusion).finds _ _ c.in_ok-tree.ensures)

pub reasoning-steps-init : goal.reasoning-steps-init
reasoning-steps-init t c =
    steps_none c.args.room _ _ c.new-items.ensures.items

pub reasoning-steps-preserved : goal.reasoning-steps-preserved
reasoning-steps-preserved t c =
    let on : comes begins_step c.steps.reader.rest.now ≡ true = search rules in
    let off : cases_next c.steps.reader.rest.now ≡ false = search rules in
    steps_step c.args.room _ _ _ _ _ _ c.steps.invariant on off c.in_ok-tree-2.ensures c.in_ok-push-2.ensures.items

pub reasoning-steps-smaller : goal.reasoning-steps-smaller
reasoning-steps-smaller t c =
    shorter_step c.args.room _ _ _ c.in_ok-tree-2.ensures

pub reasoning-returns-in_err-tree-2 : goal.reasoning-returns-in_err-tree-2
reasoning-returns-in_err-tree-2 t c =
    let p = err_from_is_err_and c.from_residual-in_err-tree-2.result c.from_residual-in_err-tree-2.ensures.1 in
    let on : comes begins_step c.steps.reader.rest.now ≡ true = search rules in
    let off : cases_next c.steps.reader.rest.now ≡ false = search rules in
    rw (p.1, p.2) (step_refused c.args.room _ _ _ _ _ c.steps.invariant on off c.in_err-tree-2.ensures)

pub reasoning-returns-in_err-tree : goal.reasoning-returns-in_err-tree
reasoning-returns-in_err-tree t c =
    let p = err_from_is_err_and c.from_residual.result c.from_residual.ensures.1 in
    let on : cases_next c.steps.reader.rest.now ≡ true = search rules in
    rw (p.1, p.2) (cases_refused c.args.room _ _ _ _ _ _ _ c.steps.invariant on c.takes_key-then.ensures c.in_err-tree.ensures)

pub reasoning-returns-then-cases_come : goal.reasoning-returns-then-cases_come
reasoning-returns-then-cases_come t c =
    let on : cases_next c.steps.reader.rest.now ≡ true = search rules in
    cases_found c.args.room _ _ _ _ _ _ _ _ c.steps.invariant on c.takes_key-then.ensures c.in_ok-tree.ensures c.in_ok-push.ensures.items

pub reasoning-returns : goal.reasoning-returns
reasoning-returns t c =
    let off : comes begins_step c.steps.reader.rest.now ≡ false = search rules in
    steps_end c.args.room _ _ _ c.steps.invariant off
