-- Two justifications, statements or reasonings that spell the same tokens are equal.
use Rattle.std.proofs.Common.{◌≡◌, ℕ, zero, suc, ◌≤◌, Bool, true, false, List, [], ◌∷◌, ◌++◌, length, refl, sym, ap, subst, ◌∙◌, arith, ◌||◌, Some, None}
use Rattle.mz_base.specs.declared.place.Place.{Place}
use Rattle.mz_base.specs.declared.token.MarkedToken.{MarkedToken}
use Rattle.mz_forms.specs.Form.{Form, Agrees, nested}
use Rattle.mz_forms.specs.Parse.{OneTree}
use Rattle.mz_forms.proofs.Compose.{head_of}
use Rattle.mz_forms.proofs.Leads.{apart_closed}
use Rattle.mz_forms.proofs.One.{One, OneAt, one_then, at_by, at_as, at_turn, at_same, at_token, one_from, one_zero, one_as, one_nested, one_tree}
use Rattle.mz_forms.proofs.OneRepeat.{one_many, Shape, at_look}
use Rattle.mz_tree.specs.Trees.{FormulaData}
use Rattle.mz_tree_proof.specs.declared.references.SimpleTree.{SimpleTree}
use Rattle.mz_tree_proof.specs.declared.references.SimpleTree.TheVariants as simple_tree
use Rattle.mz_tree_proof.specs.declared.introduction.IntroductionTree.TheVariants as introductions
use Rattle.mz_tree_proof.specs.declared.skeleton.SkeletonTree.TheVariants as skeletons
use Rattle.mz_tree_proof.specs.Reasoning.{JustData, StatementData, StepData, StepList, SimpleJust, ProofJust, IntroductionStatement, StatementStep, ThusStep, HenceStep, SkeletonStep, no_steps, more_steps}
use Rattle.mz_tree_proof.specs.SpellReasoning.{spell_just, spell_statement, spell_step, spell_step_list}
use Rattle.mz_tree_proof.specs.RulesReasoning.{IsJust, AreSteps}
use Rattle.mz_pterm.specs.declared.sign.Sign.TheVariants as signs
use Rattle.mz_pterm.specs.Sign.{sign_of}
use Rattle.mz_ptype.proofs.Optional.{true_not_false}
use Rattle.mz_patom.specs.Classes.{is_identifier}
use Rattle.mz_pformula.proofs.Begun.{begun}
use Rattle.mz_pformula.proofs.Identifiers.{identifier_is}
use Rattle.mz_pformula.specs.Forms.{formula_form}
use Rattle.mz_pformula.proofs.UniqueFormulas.{formulas_one}
use Rattle.mz_pjustification.specs.declared.keyword.Keyword.{Keyword}
use Rattle.mz_pjustification.specs.declared.keyword.Keyword.TheVariants as keywords
use Rattle.mz_pjustification.specs.Keyword.{keyword_of}
use Rattle.mz_pjustification.specs.Words.{is_key, key, keyword, tokens_of}
use Rattle.mz_pjustification.specs.Forms.{simple_form}
use Rattle.mz_pjustification.proofs.Keywords.{told_key, keyword_of-key}
use Rattle.mz_pjustification.proofs.Taken.{key_among, among_at}
use Rattle.mz_pjustification.proofs.Unique.{simple_one}
use Rattle.mz_pproposition.specs.Forms.{label_next, proposition_form, hypotheses_form, label_form}
use Rattle.mz_pproposition.proofs.Unique.{keys, label_one, proposition_one, hypotheses_one}
use Rattle.mz_pstep.specs.Forms.{equality_step_form, consider_form, reconsider_form, set_statement_form, deffunc_form, defpred_form, let_form, assume_form, given_form, take_form, split_form}
use Rattle.mz_pstep.proofs.Unique.{equality_one, consider_one, reconsider_one, set_one, deffunc_one, defpred_one, let_one, assume_one, given_one, take_one, split_one}
use Rattle.mz_pproof.specs.Classes.{is_skeleton_key, is_conclusion_key, is_per_key, is_then_key, is_step_key, begins_step}
use Rattle.mz_pproof.specs.Forms.{block_form, goes_on_just, just_form, equality_steps_form, same_continued, continued_form, may_continue, stated_form, compact_form, now_form, now_from, Linked, compact_linked, consider_linked, reconsider_linked, spell_linked, IsLinked, linked_form, linked_from, behind_formula, Labelled, now_labelled, formula_labelled, spell_labelled, IsLabelled, labelled_form, statement_form, step_form, hereby_form, hereby_from, suppose_form, supposes_form, cases_form, reasoning_form}
use Rattle.mz_pproof.proofs.FirstTokens.{no_keyword, unit_not_other}
use Rattle.mz_pproof.proofs.Blocks as blocks
use Rattle.mz_pproof.proofs.Stated as stated
use Rattle.mz_pproof.proofs.Statements as statements
use Rattle.mz_pproof.proofs.Statements.{Starts, then_starts, consider_starts, reconsider_starts, deffunc_starts, defpred_starts, now_starts, set_starts, label_starts, compact_starts, starts}
use Rattle.mz_pproof.proofs.Linked as linked
use Rattle.mz_pproof.proofs.Unlabelled as unlabelled
use Rattle.mz_pproof.proofs.Steps as steps
use Rattle.mz_pproof.proofs.Steps.{StepStarts, statement_starts, thus_starts, hence_starts, hereby_starts, let_starts, assume_starts, given_starts, take_starts}
use Rattle.mz_pproof.proofs.Cases as cases_of
use Rattle.mz_pproof.proofs.StepLists as reasonings

weaker_at : (n : ℕ) (X : Form MarkedToken) (tok : MarkedToken) → OneAt (suc n) X tok → OneAt n X tok
weaker_at n X tok h a b x y m k less isa isb ea eb e qa qb = h a b x y m k (omega (arith, less)) isa isb ea eb e qa qb

-- Reasonings between a word and `end`, where those inside are one.
module _ (n : ℕ) (inside : One n reasoning_form) where
  block_one : (k : Keyword) → is_key k ≡ true → One (suc n) (block_form k)
  block_one k h = one_then (suc n) n (nested (keyword k)) (λ _. blocks.to_end) (blocks.behind_word k) (one_nested (suc n) (keyword k) (keys (suc n) k h))
      (λ a. one_then n n (nested reasoning_form) (λ _. keyword keywords.End) blocks.before_end (one_nested n reasoning_form inside) (λ b. keys n keywords.End refl) (λ b l isb g. omega (arith, g))) (λ a l isa g. omega (arith, g))

  closed_one : (k : Keyword) → is_key k ≡ true → One (suc n) (blocks.closed_block k)
  closed_one k h = one_then (suc n) (suc n) (block_form k) (λ _. keyword keywords.Semicolon) (blocks.block_apart k) (block_one k h) (λ a. keys (suc n) keywords.Semicolon refl) (λ a l isa g. omega (arith, g))

  suppose_one : One (suc n) suppose_form
  suppose_one = one_as (suc n) suppose_form blocks.suppose_1 blocks.make_suppose blocks.only_suppose (λ s is. (blocks.as_suppose []).spells s is) (λ s t is g. (blocks.as_suppose []).goes s t is g)
      (one_then (suc n) n (nested (keyword keywords.Suppose)) (λ _. blocks.suppose_2) blocks.suppose_apart_1 (one_nested (suc n) (keyword keywords.Suppose) (keys (suc n) keywords.Suppose refl))
      (λ a. one_then n n (nested hypotheses_form) (λ _. blocks.suppose_3) blocks.suppose_apart_2 (one_nested n hypotheses_form (hypotheses_one n))
      (λ a. one_then n n (nested (keyword keywords.Semicolon)) (λ _. blocks.suppose_4) blocks.suppose_apart_3 (one_nested n (keyword keywords.Semicolon) (keys n keywords.Semicolon refl))
      (λ a. one_then n n (nested reasoning_form) (λ _. blocks.suppose_5) blocks.suppose_apart_4 (one_nested n reasoning_form inside)
      (λ a. one_then n n (keyword keywords.End) (λ _. keyword keywords.Semicolon) blocks.suppose_apart_5 (keys n keywords.End refl) (λ a. keys n keywords.Semicolon refl) (λ a l isa g. omega (arith, g))) (λ a l isa g. omega (arith, g))) (λ a l isa g. omega (arith, g))) (λ a l isa g. omega (arith, g))) (λ a l isa g. omega (arith, g)))

  -- justifications
  just_empty : (a b : JustData) → spell_just a ≡ [] → spell_just b ≡ [] → a ≡ b
  just_empty (SimpleJust simple_tree.Nothing) (SimpleJust simple_tree.Nothing) e f = refl
  just_empty (SimpleJust simple_tree.Nothing) (SimpleJust (simple_tree.By p rs)) e f = cc
  just_empty (SimpleJust simple_tree.Nothing) (SimpleJust (simple_tree.From p r o)) e f = cc
  just_empty (SimpleJust simple_tree.Nothing) (ProofJust p s q) e f = cc
  just_empty (SimpleJust (simple_tree.By p rs)) b e f = cc
  just_empty (SimpleJust (simple_tree.From p r o)) b e f = cc
  just_empty (ProofJust p s q) b e f = cc

  first_key : (k : Keyword) (p : Place) (v m : List MarkedToken) (tok : MarkedToken) → is_key k ≡ true → key k p ∷ v ≡ tok ∷ m → keyword_of tok ≡ k
  first_key k p v m tok h e = sym (ap keyword_of (head_of _ _ _ _ e)) ∙ keyword_of-key k p h

  just_on : (b : JustData) (tok : MarkedToken) (m : List MarkedToken) → spell_just b ≡ tok ∷ m → tokens_of goes_on_just tok ≡ true
  just_on (SimpleJust simple_tree.Nothing) tok m e = cc
  just_on (SimpleJust (simple_tree.By p rs)) tok m e = among_at goes_on_just (key keywords.By p) tok _ m e (key_among goes_on_just keywords.By p refl)
  just_on (SimpleJust (simple_tree.From p r o)) tok m e = among_at goes_on_just (key keywords.From p) tok _ m e (key_among goes_on_just keywords.From p refl)
  just_on (ProofJust p s q) tok m e = among_at goes_on_just (key keywords.Proof p) tok _ m e (key_among goes_on_just keywords.Proof p refl)

  simple_off : (a : SimpleTree) (tok : MarkedToken) (m : List MarkedToken) → spell_just (SimpleJust a) ≡ tok ∷ m → keyword_of tok ≡ keywords.Proof → ⊥
  simple_off simple_tree.Nothing tok m e h = cc
  simple_off (simple_tree.By p rs) tok m e h = clash (sym (first_key keywords.By p _ m tok refl e) ∙ h)
    where
      clash : keywords.By ≡ keywords.Proof → ⊥
      clash f = cc
  simple_off (simple_tree.From p r o) tok m e h = clash (sym (first_key keywords.From p _ m tok refl e) ∙ h)
    where
      clash : keywords.From ≡ keywords.Proof → ⊥
      clash f = cc

  just_at : (a : JustData) (tok : MarkedToken) (m : List MarkedToken) → IsJust a → spell_just a ≡ tok ∷ m → OneAt (suc n) just_form tok
  just_at (SimpleJust a) tok m is e = at_as (suc n) just_form simple_form (λ k. SimpleJust k) tok (stated.as_simple (tok ∷ []) (simple_off a tok m e)) (simple_one (suc n))
  just_at (ProofJust p s q) tok m is e = at_token (suc n) just_form (key keywords.Proof p) tok (head_of _ _ _ _ e) (at_turn (suc n) just_form (block_form keywords.Proof) stated.make_proof (key keywords.Proof p) (stated.turn_proof p) (block_one keywords.Proof refl))

  just_within : One (suc n) just_form
  just_within = one_from (suc n) just_form (λ a b isa isb ea eb. just_empty a b ea eb) (λ a b tok m isa isb ea eb. just_on b tok m eb) (λ a tok m isa e. just_at a tok m isa e)

-- What stands behind a proposition.
equalities_one : (n : ℕ) → One n equality_steps_form
equalities_one zero = one_zero equality_steps_form
equalities_one (suc n) = one_many equality_step_form _ _ stated.repeats_equality n (equality_one (suc n)) (equalities_one n)

continued_one : (may : Bool) (n : ℕ) → One n (continued_form may)
continued_one may n = one_as n (continued_form may) equality_steps_form same_continued (λ x is. (x, is.0, refl)) (λ s is. refl) (λ s t is g. g) (equalities_one n)

module _ (n : ℕ) (justs : One n just_form) where
  stated_one : (f : FormulaData) → One n (stated_form f)
  stated_one f = one_then n n just_form (stated.to_semicolon f) (stated.just_apart f) justs
      (λ j. one_then n n (continued_form (may_continue f j)) (λ _. keyword keywords.Semicolon) (stated.continued_apart (may_continue f j)) (continued_one (may_continue f j) n) (λ c. keys n keywords.Semicolon refl) (λ c l isc g. omega (arith, g))) (λ j l isj g. omega (arith, g))

  compact_one : One n compact_form
  compact_one = one_as n compact_form stated.parts_of_compact stated.make_compact stated.only_compact (λ s is. (stated.as_compact []).spells s is) (λ s t is g. (stated.as_compact []).goes s t is g)
      (one_then n n proposition_form stated.behind_proposition stated.proposition_apart (proposition_one n) (λ a. stated_one a.formula) (λ a l isa g. omega (arith, g)))

  behind_formula_one : One n behind_formula
  behind_formula_one = one_then n n (formula_form false) stated_form linked.formula_apart (formulas_one false n).formulas (λ f. stated_one f) (λ f l isf g. omega (arith, g))

  -- what may stand behind a `then`
  linked_at : (a : Linked) (tok : MarkedToken) (m : List MarkedToken) → IsLinked a → spell_linked a ≡ tok ∷ m → OneAt n linked_form tok
  linked_at (compact_linked c) tok m is e =
      let other : keyword_of tok ≡ keywords.Other = no_keyword tok (unit_not_other tok (stated.compact_begins c tok m is e)) in
      at_as n linked_form compact_form (λ k. compact_linked k) tok (linked.as_compact_linked (tok ∷ []) (λ h. not_consider (sym other ∙ h)) (λ h. not_reconsider (sym other ∙ h))) compact_one
    where
      not_consider : keywords.Other ≡ keywords.Consider → ⊥
      not_consider f = cc

      not_reconsider : keywords.Other ≡ keywords.Reconsider → ⊥
      not_reconsider f = cc
  linked_at (consider_linked k) tok m is e = at_as n linked_form consider_form (λ k. consider_linked k) tok (linked.as_consider (tok ∷ []) (sym (ap keyword_of (head_of _ _ _ _ e)) ∙ keyword_of-key keywords.Consider k.0 refl)) (consider_one n)
  linked_at (reconsider_linked k) tok m is e = at_as n linked_form reconsider_form (λ k. reconsider_linked k) tok (linked.as_reconsider (tok ∷ []) (sym (ap keyword_of (head_of _ _ _ _ e)) ∙ keyword_of-key keywords.Reconsider k.0 refl)) (reconsider_one n)

  linked_one : One n linked_form
  linked_one = one_from n linked_form (λ a b isa isb ea eb. absurd (statements.linked_filled a ea)) (λ a b tok m isa isb ea eb. absurd (statements.linked_filled a ea)) (λ a tok m isa e. linked_at a tok m isa e)

  -- what may stand behind a label
  module _ (nows : One n now_form) where
    labelled_at : (a : Labelled) (tok : MarkedToken) (m : List MarkedToken) → IsLabelled a → spell_labelled a ≡ tok ∷ m → OneAt n labelled_form tok
    labelled_at (now_labelled k) tok m is e = at_as n labelled_form now_form (λ k. now_labelled k) tok (linked.as_now_labelled (tok ∷ []) (sym (ap keyword_of (head_of _ _ _ _ e)) ∙ keyword_of-key keywords.Now k.0.0 refl)) nows
    labelled_at (formula_labelled k) tok m is e = at_as n labelled_form behind_formula (λ k. formula_labelled k) tok (linked.as_formula_labelled (tok ∷ []) (λ h. linked.formula_key keywords.Now (tok ∷ []) k.0 _ h (λ f. cc) is.0 (let A : List MarkedToken → Type 0 = λ z. Agrees (tok ∷ []) z in subst A (sym e) refl))) behind_formula_one

    labelled_one : One n labelled_form
    labelled_one = one_from n labelled_form (λ a b isa isb ea eb. absurd (linked.labelled_filled a isa ea)) (λ a b tok m isa isb ea eb. absurd (linked.labelled_filled a isa ea)) (λ a tok m isa e. labelled_at a tok m isa e)

    with_label_one : One n linked.with_label
    with_label_one = one_then n n label_form (λ _. labelled_form) linked.label_apart (label_one n) (λ a. labelled_one) (λ a l isa g. omega (arith, g))

    -- where an identifier comes first
    shape : (tok : MarkedToken) (rest : List MarkedToken) → sign_of tok ≡ signs.Identifier → (i : Bool) → label_next (tok ∷ rest) ≡ i → Shape n statement_form tok rest
    shape tok rest h true e = record { S = linked.with_label; build = linked.make_labelled; looks = linked.looks_label tok rest h e; one = with_label_one }
    shape tok rest h false e = record {
      S = begun linked_form tok;
      build = linked_from None;
      looks = unlabelled.looks_named tok rest (unlabelled.left_named tok rest h) (ap is_identifier h) e;
      one = λ a b x y less isa isb e qa qb. linked_one a b x y less isa.0 isb.0 e qa qb;
    }

    named_at : (tok : MarkedToken) → sign_of tok ≡ signs.Identifier → OneAt n statement_form tok
    named_at tok h = at_look n statement_form tok (λ rest. shape tok rest h (label_next (tok ∷ rest)) refl)

    plain_at : (tok : MarkedToken) → unlabelled.Left (tok ∷ []) → (i : Bool) → is_identifier (sign_of tok) ≡ i → OneAt n statement_form tok
    plain_at tok left true e = named_at tok (identifier_is (sign_of tok) e)
    plain_at tok left false e = at_as n statement_form linked_form (linked_from None) tok (unlabelled.as_unnamed tok [] left e) linked_one

    statement_at : (k : Keyword) (tok : MarkedToken) (a : StatementData) (m : List MarkedToken) → keyword_of tok ≡ k → Starts k tok a → spell_statement a ≡ tok ∷ m → OneAt n statement_form tok
    statement_at k tok a m h (then_starts t p y is) e =
        at_token n statement_form (key keywords.Then p) tok (head_of (key keywords.Then p) tok (spell_linked y) m (sym (statements.linked_spells (Some p) y) ∙ e))
        (weaker_at n statement_form (key keywords.Then p) (at_by n statement_form (key keywords.Then p) linked_form (linked_from (Some p)) 0 (statements.by_then p) linked_one))
    statement_at k tok a m h (consider_starts t y is) e = plain_at tok (unlabelled.left_key keywords.Consider tok h refl) (is_identifier (sign_of tok)) refl
    statement_at k tok a m h (reconsider_starts t y is) e = plain_at tok (unlabelled.left_key keywords.Reconsider tok h refl) (is_identifier (sign_of tok)) refl
    statement_at k tok a m h (deffunc_starts t y is) e = at_as n statement_form deffunc_form (λ k. IntroductionStatement (introductions.Deffunc k)) tok (statements.as_deffunc (tok ∷ []) h) (deffunc_one n)
    statement_at k tok a m h (defpred_starts t y is) e = at_as n statement_form defpred_form (λ k. IntroductionStatement (introductions.Defpred k)) tok (statements.as_defpred (tok ∷ []) h) (defpred_one n)
    statement_at k tok a m h (now_starts t y is) e = at_as n statement_form now_form (now_from None) tok (statements.as_now (tok ∷ []) h) nows
    statement_at k tok a m h (set_starts t y is f) e = at_as n statement_form set_statement_form (λ k. IntroductionStatement (introductions.Set k)) tok (statements.as_set (tok ∷ []) f) (set_one n)
    statement_at k tok a m h (label_starts t l y is f) e = named_at tok f
    statement_at k tok a m h (compact_starts t c is f) e = plain_at tok (unlabelled.left_unit tok [] f) (is_identifier (sign_of tok)) refl

    statement_within : One n statement_form
    statement_within = one_from n statement_form (λ a b isa isb ea eb. absurd (statements.statement_filled a isa ea)) (λ a b tok m isa isb ea eb. absurd (statements.statement_filled a isa ea))
        (λ a tok m isa e. statement_at (keyword_of tok) tok a m refl (starts a tok m isa e) e)

    hereby_one : One n hereby_form → One n compact_form → One n step_form
    hereby_one herebys compacts = one_from n step_form (λ a b isa isb ea eb. absurd (steps.step_filled a isa ea)) (λ a b tok m isa isb ea eb. absurd (steps.step_filled a isa ea))
        (λ a tok m isa e. at (keyword_of tok) tok a m refl (steps.step_starts a tok m isa e) e)
      where
        other : (k : Keyword) (tok : MarkedToken) → keyword_of tok ≡ k → is_step_key k ≡ false → (is_skeleton_key (keyword_of tok) ≡ false) × (is_conclusion_key (keyword_of tok) ≡ false)
        other k tok h off = (first (is_skeleton_key (keyword_of tok)) (is_conclusion_key (keyword_of tok)) (is_per_key (keyword_of tok)) (ap is_step_key h ∙ off), second (is_skeleton_key (keyword_of tok)) (is_conclusion_key (keyword_of tok)) (is_per_key (keyword_of tok)) (ap is_step_key h ∙ off))
          where
            first : (p q r : Bool) → (p || (q || r)) ≡ false → p ≡ false
            first true q r e = cc
            first false q r e = refl

            second : (p q r : Bool) → (p || (q || r)) ≡ false → q ≡ false
            second true q r e = cc
            second false true r e = cc
            second false false r e = refl

        at : (k : Keyword) (tok : MarkedToken) (a : StepData) (m : List MarkedToken) → keyword_of tok ≡ k → StepStarts k a → spell_step a ≡ tok ∷ m → OneAt n step_form tok
        at k tok a m h (statement_starts j s is off) e = let o = other k tok h off in at_as n step_form statement_form (λ s. StatementStep s) tok (steps.as_statement (tok ∷ []) o.0 o.1) statement_within
        at k tok a m h (thus_starts p c is) e = at_token n step_form (key keywords.Thus p) tok (head_of _ _ _ _ e) (weaker_at n step_form (key keywords.Thus p) (at_by n step_form (key keywords.Thus p) compact_form (λ c. ThusStep p c) 0 (steps.by_thus p) compacts))
        at k tok a m h (hence_starts p c is) e = at_token n step_form (key keywords.Hence p) tok (head_of _ _ _ _ e) (weaker_at n step_form (key keywords.Hence p) (at_by n step_form (key keywords.Hence p) compact_form (λ c. HenceStep p c) 0 (steps.by_hence p) compacts))
        at k tok a m h (hereby_starts y is) e = at_as n step_form hereby_form hereby_from tok (steps.as_hereby (tok ∷ []) h) herebys
        at k tok a m h (let_starts y is) e = at_as n step_form let_form (λ k. SkeletonStep (skeletons.Let k)) tok (steps.as_let (tok ∷ []) h) (let_one n)
        at k tok a m h (assume_starts y is) e = at_as n step_form assume_form (λ k. SkeletonStep (skeletons.Assume k)) tok (steps.as_assume (tok ∷ []) h) (assume_one n)
        at k tok a m h (given_starts y is) e = at_as n step_form given_form (λ k. SkeletonStep (skeletons.Given k)) tok (steps.as_given (tok ∷ []) h) (given_one n)
        at k tok a m h (take_starts y is) e = at_as n step_form take_form (λ k. SkeletonStep (skeletons.Take k)) tok (steps.as_take (tok ∷ []) h) (take_one n)

-- Steps, and at last a split.
filled_size : (w : List MarkedToken) → (w ≡ [] → ⊥) → 1 ≤ length w
filled_size [] h = absurd (h refl)
filled_size (t ∷ w) h = omega arith

module _ (n : ℕ) (step_one : One (suc n) step_form) (inside : One n reasoning_form) (cases_one : One (suc n) cases_form) where
  with_step_one : One (suc n) reasonings.with_step
  with_step_one = one_then (suc n) n step_form (λ _. reasoning_form) reasonings.step_apart step_one (λ a. inside) (λ a l isa g. omega (arith, g, filled_size (spell_step a) (steps.step_filled a isa)))

  then_cases_one : One (suc n) reasonings.then_cases
  then_cases_one = one_then (suc n) (suc n) (keyword keywords.Then) (λ _. cases_form) (apart_closed (keyword keywords.Then) (λ _. cases_form) (λ a t. refl)) (keys (suc n) keywords.Then refl) (λ a. cases_one) (λ a l isa g. omega (arith, g))

  -- a split behind `then`, or a statement
  then_at : (tok : MarkedToken) → keyword_of tok ≡ keywords.Then → OneAt (suc n) reasoning_form tok
  then_at tok h a b x y m k less isa isb ea eb e qa qb = go (reasonings.then_kind tok a m h isa ea) (reasonings.then_kind tok b k h isb eb)
    where
      go : reasonings.ThenKind a → reasonings.ThenKind b → a ≡ b
      go (reasonings.splits p i f) (reasonings.splits q j g) = at_same (suc n) reasoning_form reasonings.then_cases reasonings.put_then (λ s is. (reasonings.seconds_cases s.0 _ (keyword_of-key keywords.Per s.1.0.0 refl)).spells s is)
          (λ s t is c. reasonings.put_then_goes s t is c) then_cases_one a b x y less (p, i, f) (q, j, g) e qa qb
      go (reasonings.states p i f c) (reasonings.states q j g d) = at_same (suc n) reasoning_form reasonings.with_step reasonings.put_step (λ s is. refl) (λ s t is c. reasonings.put_goes s t c) with_step_one a b x y less (p, i, f) (q, j, g) e qa qb
      go (reasonings.splits p i f) (reasonings.states q j g d) = absurd (reasonings.mixed p q x y d (sym (ap (λ z. z ++ x) (ap spell_step_list f ∙ reasonings.put_cases_spells (Some p.0) p.1)) ∙ (e ∙ ap (λ z. spell_step_list z ++ y) g)))
      go (reasonings.states p i f c) (reasonings.splits q j g) = absurd (reasonings.mixed q p y x c (sym (ap (λ z. z ++ y) (ap spell_step_list g ∙ reasonings.put_cases_spells (Some q.0) q.1)) ∙ (sym e ∙ ap (λ z. spell_step_list z ++ x) f)))

  steps_at : (k : Keyword) (a : StepList) (tok : MarkedToken) (m : List MarkedToken) → keyword_of tok ≡ k → AreSteps a → spell_step_list a ≡ tok ∷ m → begins_step tok ≡ true → (p : Bool) → is_per_key (keyword_of tok) ≡ p → (t : Bool) → is_then_key (keyword_of tok) ≡ t → OneAt (suc n) reasoning_form tok
  steps_at k a tok m h is e begun true f t g =
      let told : tok ≡ key keywords.Per tok.token.place = told_key keywords.Per tok refl (reasonings.per_is (keyword_of tok) f) in
      at_token (suc n) reasoning_form (key keywords.Per tok.token.place) tok (sym told) (at_turn (suc n) reasoning_form cases_form (reasonings.put_cases None) (key keywords.Per tok.token.place) (reasonings.turn_per tok.token.place) cases_one)
  steps_at k a tok m h is e begun false f true g = then_at tok (reasonings.then_is (keyword_of tok) g)
  steps_at k a tok m h is e begun false f false g = at_turn (suc n) reasoning_form reasonings.with_step reasonings.put_step tok (reasonings.turn_step tok begun f (λ i. true_not_false (is_then_key (keyword_of tok)) g (ap is_then_key i))) with_step_one

  steps_one : One (suc n) reasoning_form
  steps_one = one_from (suc n) reasoning_form (λ a b isa isb ea eb. none a isa ea ∙ sym (none b isb eb)) (λ a b tok m isa isb ea eb. reasonings.step_on a tok (reasonings.first_step b tok m isb eb))
      (λ a tok m isa e. steps_at (keyword_of tok) a tok m refl isa e (reasonings.first_step a tok m isa e) (is_per_key (keyword_of tok)) refl (is_then_key (keyword_of tok)) refl)
    where
      none : (x : StepList) → AreSteps x → spell_step_list x ≡ [] → x ≡ no_steps
      none no_steps is e = refl
      none (more_steps x xs) is e = absurd (reasonings.filled_steps x xs is.0 e)

-- All of them at once: what stands inside a word and `end` is shorter.
record Ones (n : ℕ) : Type 0 where
  justs : One n just_form
  statements_are : One n statement_form
  supposes : One n supposes_form
  reasonings_are : One n reasoning_form

next_ones : (n : ℕ) → Ones n → Ones (suc n)
next_ones n o = record { justs = justs; statements_are = statement_within (suc n) justs nows; supposes = supposes; reasonings_are = steps_one n (hereby_one (suc n) justs nows herebys (compact_one (suc n) justs)) o.reasonings_are cases }
  where
    justs : One (suc n) just_form
    justs = just_within n o.reasonings_are

    nows : One (suc n) now_form
    nows = closed_one n o.reasonings_are keywords.Now refl

    herebys : One (suc n) hereby_form
    herebys = closed_one n o.reasonings_are keywords.Hereby refl

    suppose : One (suc n) suppose_form
    suppose = suppose_one n o.reasonings_are

    supposes : One (suc n) supposes_form
    supposes = one_many suppose_form _ _ cases_of.repeats_suppose n suppose o.supposes

    cases : One (suc n) cases_form
    cases = one_then (suc n) (suc n) split_form (λ _. cases_of.behind_split) cases_of.split_apart (split_one (suc n))
        (λ a. one_then (suc n) (suc n) suppose_form (λ _. supposes_form) cases_of.suppose_apart suppose (λ b. supposes) (λ b l isb g. omega (arith, g))) (λ a l isa g. omega (arith, g))

all_one : (n : ℕ) → Ones n
all_one zero = record { justs = one_zero just_form; statements_are = one_zero statement_form; supposes = one_zero supposes_form; reasonings_are = one_zero reasoning_form }
all_one (suc n) = next_ones n (all_one n)

pub just_one : (n : ℕ) → One n just_form
just_one n = (all_one n).justs

pub statement_one : (n : ℕ) → One n statement_form
statement_one n = (all_one n).statements_are

pub reasoning_one : (n : ℕ) → One n reasoning_form
reasoning_one n = (all_one n).reasonings_are

pub one_justification : OneTree just_form
one_justification = one_tree just_form just_one

pub one_statement : OneTree statement_form
one_statement = one_tree statement_form statement_one

pub one_reasoning : OneTree reasoning_form
one_reasoning = one_tree reasoning_form reasoning_one
