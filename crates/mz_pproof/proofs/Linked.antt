-- The readings of what may stand behind a `then` or behind a label, and the choice by two tokens.
use Rattle.std.proofs.Common.{◌≡◌, ℕ, Bool, true, false, ◌||◌, ◌&&◌, List, [], ◌∷◌, ◌++◌, refl, sym, ap, subst, ◌∙◌, Option, Some, None, Result}
use Rattle.mz_base.specs.declared.place.Place.{Place}
use Rattle.mz_base.specs.declared.token.MarkedToken.{MarkedToken}
use Rattle.mz_forms.specs.declared.refusal.Refusal.{Refusal}
use Rattle.mz_forms.specs.Form.{Form, Agrees, Found, Leads, then, is_empty}
use Rattle.mz_forms.specs.Reading.{Refuses, Reads, Builds}
use Rattle.mz_forms.proofs.Choose.{Reshapes}
use Rattle.mz_forms.proofs.Compose.{Apart, head_of, tail_of}
use Rattle.mz_forms.proofs.Leads.{leads_as, leads_on, leads_behind, beside, apart_closed, passes, first_refuses, gives_through}
use Rattle.mz_forms.proofs.Look.{Looks}
use Rattle.mz_tree.specs.Trees.{FormulaData}
use Rattle.mz_tree.specs.Rules.{IsFormula}
use Rattle.mz_tree.specs.Spell.{spell_formula}
use Rattle.mz_tree_proof.specs.declared.references.LabelTree.{LabelTree}
use Rattle.mz_tree_proof.specs.declared.introduction.ConsiderTree.{ConsiderTree}
use Rattle.mz_tree_proof.specs.declared.introduction.ReconsiderTree.{ReconsiderTree}
use Rattle.mz_tree_proof.specs.declared.introduction.IntroductionTree.TheVariants as introductions
use Rattle.mz_tree_proof.specs.Spell.{spell_label, spell_proposition}
use Rattle.mz_tree_proof.specs.Levels.{levels_label}
use Rattle.mz_tree_proof.specs.Reasoning.{CompactData, StatementData, StatedCompact, CompactStatement, IntroductionStatement}
use Rattle.mz_tree_proof.specs.SpellReasoning.{spell_compact, spell_statement}
use Rattle.mz_tree_proof.specs.LevelsReasoning.{levels_statement}
use Rattle.mz_tree_proof.specs.RulesReasoning.{IsCompact, IsStatement}
use Rattle.mz_pterm.specs.declared.sign.Sign.TheVariants as signs
use Rattle.mz_pterm.specs.Sign.{sign_of}
use Rattle.mz_pterm.specs.Words.{named, word_of}
use Rattle.mz_pterm.proofs.Signs.{told_named}
use Rattle.mz_ptype.proofs.Optional.{never}
use Rattle.mz_ptype.specs.Forms.{whole_type, declarations_form}
use Rattle.mz_patom.specs.Classes.{goes_open, is_identifier}
use Rattle.mz_pformula.specs.Forms.{any_operator, formula_takes, formula_form}
use Rattle.mz_pformula.proofs.Identifiers.{identifier_is}
use Rattle.mz_pformula.proofs.Operators.{goes_weaker}
use Rattle.mz_pformula.proofs.Quantifiers.{some_formula}
use Rattle.mz_pformula.proofs.Second.{Seconds, leads_second}
use Rattle.mz_pjustification.specs.declared.keyword.Keyword.{Keyword}
use Rattle.mz_pjustification.specs.declared.keyword.Keyword.TheVariants as keywords
use Rattle.mz_pjustification.specs.Keyword.{keyword_of}
use Rattle.mz_pjustification.specs.Words.{key, keyword, TakesKey}
use Rattle.mz_pjustification.specs.Forms.{is_colon, simple_form}
use Rattle.mz_pjustification.proofs.Keywords.{told_key, keyword_of-key, sign_of-key}
use Rattle.mz_pproposition.specs.Forms.{label_next, label_form, such_form}
use Rattle.mz_pproposition.proofs.Formulas.{no_other, formula_filled}
use Rattle.mz_pproposition.proofs.PropositionSteps.{both_true}
use Rattle.mz_pstep.specs.Forms.{retypeds_form, consider_form, consider_from, reconsider_form, reconsider_from}
use Rattle.mz_pstep.proofs.Ends.{Ends, ends_then, ends_key}
use Rattle.mz_pstep.proofs.Sequences as sequences
use Rattle.mz_pproof.specs.Classes.{KeyComes}
use Rattle.mz_pproof.specs.Forms.{stated_form, compact_form, compact_with, now_form, now_from, Linked, compact_linked, consider_linked, reconsider_linked, spell_linked, IsLinked, linked_form, linked_from, behind_formula, Labelled, now_labelled, formula_labelled, spell_labelled, levels_labelled, IsLabelled, labelled_form, labelled_from, statement_form, same_statement, ReadsNow, ReadsLinked, ReadsLabelled}
use Rattle.mz_pproof.proofs.FirstTokens.{keyword_of-key_agrees, key_not, unit_not_other, formula_begins, no_keyword}
use Rattle.mz_pproof.proofs.Blocks.{ends_closed_block}
use Rattle.mz_pproof.proofs.Stated.{compact_begins, compact_filled, stated_off, stated_filled, ends_stated, stated_is, as_compact, some_stated}
use Rattle.mz_pproof.proofs.Statements.{Starts, set_starts, label_starts, compact_starts, starts, set_sign, statement_filled, now_spells, now_levels, as_now, begin_then}

-- No formula begins with a word of a statement.
compact_key : (k : Keyword) (b : List MarkedToken) (c : CompactData) → KeyComes k b → (k ≡ keywords.Other → ⊥) → IsCompact c → Agrees b (spell_compact c) → ⊥
compact_key k b c h differ is g = go (spell_compact c) refl
  where
    go : (w : List MarkedToken) → spell_compact c ≡ w → ⊥
    go [] e = compact_filled c e
    go (t ∷ w) e =
        let A : List MarkedToken → Type 0 = λ z. Agrees b z in
        differ (sym (keyword_of-key_agrees k b t w h (subst A e g)) ∙ no_keyword t (unit_not_other t (compact_begins c t w is e)))

-- `consider` and `reconsider`
ends_consider : Ends consider_form
ends_consider = ends_then (keyword keywords.Consider) (λ _. sequences.consider_2) (λ _. ends_then (declarations_form false) (λ _. sequences.consider_3) (λ _. ends_then such_form (λ _. sequences.consider_4) (λ _. ends_then simple_form (λ _. sequences.consider_5) (λ _. ends_key keywords.Semicolon))))

ends_reconsider : Ends reconsider_form
ends_reconsider = ends_then (keyword keywords.Reconsider) (λ _. sequences.reconsider_2) (λ _. ends_then retypeds_form (λ _. sequences.reconsider_3) (λ _. ends_then (keyword keywords.As) (λ _. sequences.reconsider_4) (λ _. ends_then (whole_type false) (λ _. sequences.reconsider_5)
    (λ _. ends_then simple_form (λ _. sequences.reconsider_6) (λ _. ends_key keywords.Semicolon)))))

only_consider : (b : List MarkedToken) → KeyComes keywords.Consider b → (x : Linked) → IsLinked x → Agrees b (spell_linked x) → (k : consider_form.Tree) × consider_form.IsTree k × (x ≡ consider_linked k)
only_consider b h (compact_linked c) is g = absurd (compact_key keywords.Consider b c h (λ e. cc) is g)
only_consider b h (consider_linked k) is g = (k, is, refl)
only_consider b h (reconsider_linked k) is g = absurd (clash (sym (keyword_of-key keywords.Reconsider k.0 refl) ∙ keyword_of-key_agrees keywords.Consider b (key keywords.Reconsider k.0) _ h g))
  where
    clash : keywords.Reconsider ≡ keywords.Consider → ⊥
    clash e = cc

pub as_consider : (b : List MarkedToken) → KeyComes keywords.Consider b → Reshapes linked_form consider_form (λ k. consider_linked k) b
as_consider b h = record {
  into = λ k is. is;
  spells = λ k is. refl;
  only = λ x is g. only_consider b h x is g;
  goes = λ k t is g. absurd (ends_consider.closed k t is g);
  level = λ k is. refl;
}

only_reconsider : (b : List MarkedToken) → KeyComes keywords.Reconsider b → (x : Linked) → IsLinked x → Agrees b (spell_linked x) → (k : reconsider_form.Tree) × reconsider_form.IsTree k × (x ≡ reconsider_linked k)
only_reconsider b h (compact_linked c) is g = absurd (compact_key keywords.Reconsider b c h (λ e. cc) is g)
only_reconsider b h (reconsider_linked k) is g = (k, is, refl)
only_reconsider b h (consider_linked k) is g = absurd (clash (sym (keyword_of-key keywords.Consider k.0 refl) ∙ keyword_of-key_agrees keywords.Reconsider b (key keywords.Consider k.0) _ h g))
  where
    clash : keywords.Consider ≡ keywords.Reconsider → ⊥
    clash e = cc

pub as_reconsider : (b : List MarkedToken) → KeyComes keywords.Reconsider b → Reshapes linked_form reconsider_form (λ k. reconsider_linked k) b
as_reconsider b h = record {
  into = λ k is. is;
  spells = λ k is. refl;
  only = λ x is g. only_reconsider b h x is g;
  goes = λ k t is g. absurd (ends_reconsider.closed k t is g);
  level = λ k is. refl;
}

only_compact_linked : (b : List MarkedToken) → (KeyComes keywords.Consider b → ⊥) → (KeyComes keywords.Reconsider b → ⊥) → (x : Linked) → IsLinked x → Agrees b (spell_linked x) → (k : CompactData) × IsCompact k × (x ≡ compact_linked k)
only_compact_linked b h i (compact_linked c) is g = (c, is, refl)
only_compact_linked b h i (consider_linked k) is g = absurd (key_not keywords.Consider b (key keywords.Consider k.0) _ h (keyword_of-key keywords.Consider k.0 refl) g)
only_compact_linked b h i (reconsider_linked k) is g = absurd (key_not keywords.Reconsider b (key keywords.Reconsider k.0) _ i (keyword_of-key keywords.Reconsider k.0 refl) g)

pub as_compact_linked : (b : List MarkedToken) → (KeyComes keywords.Consider b → ⊥) → (KeyComes keywords.Reconsider b → ⊥) → Reshapes linked_form compact_form (λ k. compact_linked k) b
as_compact_linked b h i = record {
  into = λ k is. is;
  spells = λ k is. refl;
  only = λ x is g. only_compact_linked b h i x is g;
  goes = λ k t is g. g;
  level = λ k is. refl;
}

pub consider_refused : (room : ℕ) (b after : List MarkedToken) (e : Refusal) → KeyComes keywords.Consider b → Refuses consider_form room b e after → Refuses linked_form room b e after
consider_refused room b after e h g = passes linked_form consider_form room (λ k. consider_linked k) b b after e (leads_as linked_form consider_form (λ k. consider_linked k) room b (as_consider b h)) g

pub consider_given : (room : ℕ) (o : Option Place) (x : ConsiderTree) (b after : List MarkedToken) → KeyComes keywords.Consider b → Builds consider_form room (consider_from o) x b after → Builds linked_form room (linked_from o) (IntroductionStatement (introductions.Consider x)) b after
consider_given room o x b after h g = (consider_linked g.0, (leads_as linked_form consider_form (λ k. consider_linked k) room b (as_consider b h)).finds g.0 after g.1, ap (λ z. IntroductionStatement (introductions.Consider z)) g.2)

pub reconsider_refused : (room : ℕ) (b after : List MarkedToken) (e : Refusal) → KeyComes keywords.Reconsider b → Refuses reconsider_form room b e after → Refuses linked_form room b e after
reconsider_refused room b after e h g = passes linked_form reconsider_form room (λ k. reconsider_linked k) b b after e (leads_as linked_form reconsider_form (λ k. reconsider_linked k) room b (as_reconsider b h)) g

pub reconsider_given : (room : ℕ) (o : Option Place) (x : ReconsiderTree) (b after : List MarkedToken) → KeyComes keywords.Reconsider b → Builds reconsider_form room (reconsider_from o) x b after → Builds linked_form room (linked_from o) (IntroductionStatement (introductions.Reconsider x)) b after
reconsider_given room o x b after h g = (reconsider_linked g.0, (leads_as linked_form reconsider_form (λ k. reconsider_linked k) room b (as_reconsider b h)).finds g.0 after g.1, ap (λ z. IntroductionStatement (introductions.Reconsider z)) g.2)

pub compact_linked_refused : (room : ℕ) (b after : List MarkedToken) (e : Refusal) → (KeyComes keywords.Consider b → ⊥) → (KeyComes keywords.Reconsider b → ⊥) → Refuses compact_form room b e after → Refuses linked_form room b e after
compact_linked_refused room b after e h i g = passes linked_form compact_form room (λ k. compact_linked k) b b after e (leads_as linked_form compact_form (λ k. compact_linked k) room b (as_compact_linked b h i)) g

pub compact_given : (room : ℕ) (o : Option Place) (x : CompactData) (b after : List MarkedToken) → (KeyComes keywords.Consider b → ⊥) → (KeyComes keywords.Reconsider b → ⊥) → Found compact_form room b x after → Builds linked_form room (linked_from o) (CompactStatement o x) b after
compact_given room o x b after h i g = (compact_linked x, (leads_as linked_form compact_form (λ k. compact_linked k) room b (as_compact_linked b h i)).finds x after g, refl)

-- Behind a label: `now`, or a formula.
pub formula_key : (k : Keyword) (b : List MarkedToken) (f : FormulaData) (v : List MarkedToken) → KeyComes k b → (k ≡ keywords.Other → ⊥) → IsFormula false f → Agrees b (spell_formula f ++ v) → ⊥
formula_key k b f v h differ is g = go (spell_formula f) refl
  where
    go : (w : List MarkedToken) → spell_formula f ≡ w → ⊥
    go [] e = formula_filled f is e
    go (t ∷ w) e =
        let A : List MarkedToken → Type 0 = λ z. Agrees b (z ++ v) in
        differ (sym (keyword_of-key_agrees k b t (w ++ v) h (subst A e g)) ∙ no_keyword t (unit_not_other t (formula_begins f t w is e)))

only_now_labelled : (b : List MarkedToken) → KeyComes keywords.Now b → (x : Labelled) → IsLabelled x → Agrees b (spell_labelled x) → (k : now_form.Tree) × now_form.IsTree k × (x ≡ now_labelled k)
only_now_labelled b h (now_labelled k) is g = (k, is, refl)
only_now_labelled b h (formula_labelled k) is g = absurd (formula_key keywords.Now b k.0 _ h (λ e. cc) is.0 g)

pub as_now_labelled : (b : List MarkedToken) → KeyComes keywords.Now b → Reshapes labelled_form now_form (λ k. now_labelled k) b
as_now_labelled b h = record {
  into = λ k is. is;
  spells = λ k is. refl;
  only = λ x is g. only_now_labelled b h x is g;
  goes = λ k t is g. absurd ((ends_closed_block keywords.Now).closed k t is g);
  level = λ k is. refl;
}

only_formula_labelled : (b : List MarkedToken) → (KeyComes keywords.Now b → ⊥) → (x : Labelled) → IsLabelled x → Agrees b (spell_labelled x) → (k : behind_formula.Tree) × behind_formula.IsTree k × (x ≡ formula_labelled k)
only_formula_labelled b h (formula_labelled k) is g = (k, is, refl)
only_formula_labelled b h (now_labelled k) is g = absurd (key_not keywords.Now b (key keywords.Now k.0.0) _ h (keyword_of-key keywords.Now k.0.0 refl) g)

ends_formula : Ends behind_formula
ends_formula = ends_then (formula_form false) stated_form ends_stated

pub as_formula_labelled : (b : List MarkedToken) → (KeyComes keywords.Now b → ⊥) → Reshapes labelled_form behind_formula (λ k. formula_labelled k) b
as_formula_labelled b h = record {
  into = λ k is. is;
  spells = λ k is. refl;
  only = λ x is g. only_formula_labelled b h x is g;
  goes = λ k t is g. absurd (ends_formula.closed k t is g);
  level = λ k is. refl;
}

pub formula_apart : Apart (formula_form false) stated_form
formula_apart f k s x isa isk e g = stated_off f (λ s k. goes_open any_operator s) refl refl refl refl refl k.0 k.1.0 k.1.1 s x e (goes_weaker (formula_takes f) any_operator (λ o h. refl) (sign_of s) g)

begin_formula : (room : ℕ) (b : List MarkedToken) → (KeyComes keywords.Now b → ⊥) → Leads labelled_form behind_formula room (λ k. formula_labelled k) b b
begin_formula room b h = leads_as labelled_form behind_formula (λ k. formula_labelled k) room b (as_formula_labelled b h)

pub now_labelled_refused : (room : ℕ) (b after : List MarkedToken) (e : Refusal) → KeyComes keywords.Now b → Refuses now_form room b e after → Refuses labelled_form room b e after
now_labelled_refused room b after e h g = passes labelled_form now_form room (λ k. now_labelled k) b b after e (leads_as labelled_form now_form (λ k. now_labelled k) room b (as_now_labelled b h)) g

pub now_labelled_given : (room : ℕ) (l : LabelTree) (x : StatementData) (b after : List MarkedToken) → KeyComes keywords.Now b → Builds now_form room (now_from (Some l)) x b after → Builds labelled_form room (labelled_from l) x b after
now_labelled_given room l x b after h g = (now_labelled g.0, (leads_as labelled_form now_form (λ k. now_labelled k) room b (as_now_labelled b h)).finds g.0 after g.1, g.2)

pub formula_refused : (room : ℕ) (b after : List MarkedToken) (e : Refusal) → (KeyComes keywords.Now b → ⊥) → Refuses (formula_form false) room b e after → Refuses labelled_form room b e after
formula_refused room b after e h g = passes labelled_form behind_formula room (λ k. formula_labelled k) b b after e (begin_formula room b h) (first_refuses (formula_form false) stated_form formula_apart room b after e (λ a is. (some_stated, (tt, ((tt, tt), tt)))) g)

behind : (room : ℕ) (f : FormulaData) (b c : List MarkedToken) → (KeyComes keywords.Now b → ⊥) → Found (formula_form false) room b f c → Leads labelled_form (stated_form f) room (λ k. formula_labelled (f, k)) b c
behind room f b c h g = leads_on labelled_form behind_formula (stated_form f) room (λ k. formula_labelled k) (beside (formula_form false) stated_form f) b b c (begin_formula room b h) (leads_behind (formula_form false) stated_form formula_apart room b c f g)

pub formula_unstated : (room : ℕ) (f : FormulaData) (b c after : List MarkedToken) (e : Refusal) → (KeyComes keywords.Now b → ⊥) → Found (formula_form false) room b f c → Refuses (stated_form f) room c e after → Refuses labelled_form room b e after
formula_unstated room f b c after e h g i = passes labelled_form (stated_form f) room (λ k. formula_labelled (f, k)) b c after e (behind room f b c h g) i

pub formula_given : (room : ℕ) (l : LabelTree) (f : FormulaData) (x : CompactData) (b c after : List MarkedToken) → (KeyComes keywords.Now b → ⊥) → Found (formula_form false) room b f c → Builds (stated_form f) room (compact_with (record { label = Some l; formula = f })) x c after →
    Builds labelled_form room (labelled_from l) (CompactStatement None x) b after
formula_given room l f x b c after h g i = (formula_labelled (f, i.0), (behind room f b c h g).finds i.0 after i.1, ap (λ z. CompactStatement None z) i.2)

pub labelled_filled : (x : Labelled) → IsLabelled x → spell_labelled x ≡ [] → ⊥
labelled_filled (now_labelled k) is e = cc
labelled_filled (formula_labelled k) is e = stated_filled k.0 k.1 (right_nil (spell_formula k.0) ((stated_form k.0).spell k.1) e)
  where
    right_nil : (v w : List MarkedToken) → v ++ w ≡ [] → w ≡ []
    right_nil [] w f = f
    right_nil (s ∷ v) w f = cc

-- A label, and what stands behind it.
abbrev pub with_label : Form MarkedToken
with_label = then label_form (λ _. labelled_form)

abbrev pub make_labelled : with_label.Tree → StatementData
make_labelled k = labelled_from k.0 k.1

labelled_into : (l : LabelTree) (k : Labelled) → IsLabelled k → IsStatement (labelled_from l k)
labelled_into l (now_labelled k) is = is.0.1.0
labelled_into l (formula_labelled k) is = (as_compact []).into (record { label = Some l; formula = k.0 }, k.1) (is.0, is.1)

labelled_spells : (l : LabelTree) (k : Labelled) → IsLabelled k → spell_statement (labelled_from l k) ≡ spell_label l ++ spell_labelled k
labelled_spells l (now_labelled k) is = ap (λ z. spell_label l ++ z) (now_spells k)
labelled_spells l (formula_labelled k) is = (as_compact []).spells (record { label = Some l; formula = k.0 }, k.1) (is.0, is.1)

labelled_levels : (l : LabelTree) (k : Labelled) → IsLabelled k → levels_statement (labelled_from l k) ≡ levels_label l ++ levels_labelled k
labelled_levels l (now_labelled k) is = ap (λ z. levels_label l ++ z) (now_levels k)
labelled_levels l (formula_labelled k) is = (as_compact []).level (record { label = Some l; formula = k.0 }, k.1) (is.0, is.1)

sign_of-colon_other : (n : MarkedToken) → keyword_of n ≡ keywords.Colon → sign_of n ≡ signs.Other
sign_of-colon_other n h = ap sign_of (told_key keywords.Colon n refl h) ∙ sign_of-key keywords.Colon n.token.place refl

-- no formula has a colon behind an identifier at its front, nor stands one behind it
plain_off : (f : FormulaData) (k : (stated_form f).Tree) (t n : MarkedToken) (m : List MarkedToken) → IsFormula false f → sign_of t ≡ signs.Identifier → keyword_of n ≡ keywords.Colon → spell_formula f ++ (stated_form f).spell k ≡ t ∷ (n ∷ m) → ⊥
plain_off f k t n m is h g e = go (spell_formula f) refl
  where
    go : (w : List MarkedToken) → spell_formula f ≡ w → ⊥
    go [] i = formula_filled f is i
    go (s ∷ []) i =
        let rest : (stated_form f).spell k ≡ n ∷ m = tail_of _ _ _ _ (ap (λ z. z ++ (stated_form f).spell k) (sym i) ∙ e) in
        stated_off f (λ s k. is_colon k) refl refl refl refl refl k.0 k.1.0 k.1.1 n m rest (ap is_colon g)
    go (s ∷ (r ∷ w)) i =
        let whole : s ∷ (r ∷ (w ++ (stated_form f).spell k)) ≡ t ∷ (n ∷ m) = ap (λ z. z ++ (stated_form f).spell k) (sym i) ∙ e in
        no_other f s r w is (ap sign_of (head_of _ _ _ _ whole) ∙ h) (ap sign_of (head_of _ _ _ _ (tail_of _ _ _ _ whole)) ∙ sign_of-colon_other n g) i

set_not_named : signs.Mode ≡ signs.Identifier → ⊥
set_not_named e = cc

only_labelled : (t n : MarkedToken) (m : List MarkedToken) → sign_of t ≡ signs.Identifier → keyword_of n ≡ keywords.Colon → (x : StatementData) → Starts keywords.Other t x → spell_statement x ≡ t ∷ (n ∷ m) → (k : with_label.Tree) × with_label.IsTree k × (x ≡ make_labelled k)
only_labelled t n m h g x (set_starts u a is f) e = absurd (set_not_named (sym (set_sign t f) ∙ h))
only_labelled t n m h g x (label_starts u l k is f) e = ((l, now_labelled k), (tt, is), refl)
only_labelled t n m h g x (compact_starts u (StatedCompact a b c d) is f) e = go a.label a.formula is e
  where
    go : (o : Option LabelTree) (f : FormulaData) → IsCompact (StatedCompact (record { label = o; formula = f }) b c d) → spell_compact (StatedCompact (record { label = o; formula = f }) b c d) ≡ t ∷ (n ∷ m) →
        (k : with_label.Tree) × with_label.IsTree k × (CompactStatement None (StatedCompact (record { label = o; formula = f }) b c d) ≡ make_labelled k)
    go (Some l) f is e = ((l, formula_labelled (f, (b, (c, d)))), (tt, (is.0, stated_is (record { label = Some l; formula = f }) b c d is)), refl)
    go None f is e = absurd (plain_off f (b, (c, d)) t n m is.0 h g (sym ((as_compact []).spells (record { label = None; formula = f }, (b, (c, d))) (is.0, stated_is (record { label = None; formula = f }) b c d is)) ∙ e))

-- no statement is one token
two_tokens : (v w : List MarkedToken) (t : MarkedToken) → (v ≡ [] → ⊥) → (w ≡ [] → ⊥) → v ++ w ≡ t ∷ [] → ⊥
two_tokens [] w t h g e = h refl
two_tokens (s ∷ []) w t h g e = g (tail_of _ _ _ _ e)
two_tokens (s ∷ (r ∷ v)) w t h g e = absurd (none (tail_of _ _ _ _ e))
  where
    none : r ∷ (v ++ w) ≡ [] → ⊥
    none f = cc

proposition_filled : (o : Option LabelTree) (f : FormulaData) → IsFormula false f → spell_proposition (record { label = o; formula = f }) ≡ [] → ⊥
proposition_filled None f is e = formula_filled f is e
proposition_filled (Some l) f is e = cc

not_one : (t : MarkedToken) → sign_of t ≡ signs.Identifier → (x : StatementData) → Starts keywords.Other t x → spell_statement x ≡ t ∷ [] → ⊥
not_one t h x (set_starts u a is f) e = set_not_named (sym (set_sign t f) ∙ h)
not_one t h x (label_starts u l k is f) e = cc
not_one t h x (compact_starts u (StatedCompact a b c d) is f) e =
    two_tokens (spell_proposition a) ((stated_form a.formula).spell (b, (c, d))) t (proposition_filled a.label a.formula is.0) (stated_filled a.formula (b, (c, d)))
    (sym ((as_compact []).spells (a, (b, (c, d))) (is.0, stated_is a b c d is)) ∙ e)

other_at : (t : MarkedToken) (x : StatementData) (m : List MarkedToken) → sign_of t ≡ signs.Identifier → IsStatement x → spell_statement x ≡ t ∷ m → Starts keywords.Other t x
other_at t x m h is e = let S : Keyword → Type 0 = λ z. Starts z t x in subst S (no_keyword t (λ f. named_not_other (sym h ∙ f))) (starts x t m is e)
  where
    named_not_other : signs.Identifier ≡ signs.Other → ⊥
    named_not_other f = cc

pub seconds_label : (t n : MarkedToken) → sign_of t ≡ signs.Identifier → keyword_of n ≡ keywords.Colon → Seconds statement_form with_label make_labelled t n
seconds_label t n h g = record {
  into = λ k is. labelled_into k.0 k.1 is.1;
  spells = λ k is. labelled_spells k.0 k.1 is.1;
  only = λ x m is e. only_labelled t n m h g x (other_at t x (n ∷ m) h is e) e;
  short = λ x is e. absurd (not_one t h x (other_at t x [] h is e) e);
  empty = λ x is e. absurd (statement_filled x is e);
  long = λ k is. (named signs.Identifier k.0.name, key keywords.Colon k.0.colon, spell_labelled k.1, refl);
  goes = λ k s is e. absurd (label_closed k s is.1 e);
  level = λ k is. labelled_levels k.0 k.1 is.1;
  first = λ k is. refl;
  begins = (
    (record { name = word_of t; colon = n.token.place }, formula_labelled (some_formula, some_stated)),
    spell_labelled (formula_labelled (some_formula, some_stated)),
    (tt, (((tt, tt), tt), (tt, ((tt, tt), tt)))),
    ap (λ z. z ∷ (key keywords.Colon n.token.place ∷ spell_labelled (formula_labelled (some_formula, some_stated)))) (sym (told_named signs.Identifier t refl h)) ∙ ap (λ z. t ∷ (z ∷ spell_labelled (formula_labelled (some_formula, some_stated)))) (sym (told_key keywords.Colon n refl g)),
  );
}
  where
    label_closed : (k : with_label.Tree) (s : MarkedToken) → IsLabelled k.1 → with_label.goes k s ≡ true → ⊥
    label_closed k s is e = go (is_empty (spell_labelled k.1)) e
      where
        go : (b : Bool) → (false || (b && false)) ≡ true → ⊥
        go true f = cc
        go false f = cc

colon_is : (k : Keyword) → is_colon k ≡ true → k ≡ keywords.Colon
colon_is keywords.Colon e = refl
colon_is _ e = cc

begin_label : (room : ℕ) (b : List MarkedToken) → label_next b ≡ true → Leads statement_form with_label room make_labelled b b
begin_label room [] e = absurd (never e)
begin_label room (t ∷ []) e = absurd (never e)
begin_label room (t ∷ (n ∷ rest)) e =
    let k = both_true (is_identifier (sign_of t)) (is_colon (keyword_of n)) e in
    leads_second statement_form with_label make_labelled t n (seconds_label t n (identifier_is (sign_of t) k.0) (colon_is (keyword_of n) k.1)) room (t ∷ (n ∷ rest)) rest refl

pub label_apart : Apart label_form (λ _. labelled_form)
label_apart = apart_closed label_form (λ _. labelled_form) (λ a t. refl)

pub label_refused : (room : ℕ) (b after : List MarkedToken) (e : Refusal) → label_next b ≡ true → Refuses label_form room b e after → Refuses statement_form room b e after
label_refused room b after e h g = passes statement_form with_label room make_labelled b b after e (begin_label room b h) (first_refuses label_form (λ _. labelled_form) label_apart room b after e (λ a is. (formula_labelled (some_formula, some_stated), (((tt, tt), tt), (tt, ((tt, tt), tt))))) g)

pub behind_label : (room : ℕ) (l : LabelTree) (b c : List MarkedToken) → label_next b ≡ true → Found label_form room b l c → Leads statement_form labelled_form room (labelled_from l) b c
behind_label room l b c h g = leads_on statement_form with_label labelled_form room make_labelled (beside label_form (λ _. labelled_form) l) b b c (begin_label room b h) (leads_behind label_form (λ _. labelled_form) label_apart room b c l g)

-- where an identifier and a colon come, by all that is left
pub looks_label : (t : MarkedToken) (rest : List MarkedToken) → sign_of t ≡ signs.Identifier → label_next (t ∷ rest) ≡ true → Looks statement_form with_label make_labelled t rest
looks_label t [] h e = absurd (never e)
looks_label t (n ∷ rest) h e =
    let s = seconds_label t n h (colon_is (keyword_of n) (both_true (is_identifier (sign_of t)) (is_colon (keyword_of n)) e).1) in
    record {
      into = s.into;
      spells = s.spells;
      only = λ x m is f agrees. only_here s x m is f agrees;
      empty = s.empty;
      filled = λ k is f. cc;
      goes = s.goes;
      level = s.level;
      first = s.first;
      begins = (s.begins.0, n ∷ s.begins.1, s.begins.2, s.begins.3);
    }
  where
    only_here : Seconds statement_form with_label make_labelled t n → (x : StatementData) (m : List MarkedToken) → IsStatement x → spell_statement x ≡ t ∷ m → Agrees (n ∷ rest) m → (k : with_label.Tree) × with_label.IsTree k × (x ≡ make_labelled k)
    only_here s x [] is f agrees = absurd (not_one t h x (other_at t x [] h is f) f)
    only_here s x (u ∷ m) is f agrees = s.only x m is (f ∙ ap (λ z. t ∷ (z ∷ m)) agrees)

-- as they are given on
pub now_labelled_from : (room : ℕ) (l : LabelTree) (b after : List MarkedToken) (res : Result StatementData Refusal) → KeyComes keywords.Now b → ReadsNow (Some l) room b res after → ReadsLabelled l room b res after
now_labelled_from room l b after res h g = gives_through labelled_form now_form room (λ x. Builds labelled_form room (labelled_from l) x b after) (λ x. Builds now_form room (now_from (Some l)) x b after) (λ k. now_labelled k) b b after res
    (λ x k. now_labelled_given room l x b after h k) (leads_as labelled_form now_form (λ k. now_labelled k) room b (as_now_labelled b h)) g

pub then_from : (room : ℕ) (p : Place) (b c after : List MarkedToken) (res : Result StatementData Refusal) → TakesKey keywords.Then b (Some p) c → ReadsLinked (Some p) room c res after → Reads statement_form room same_statement b res after
then_from room p b c after res h g = gives_through statement_form linked_form room (λ x. Found statement_form room b x after) (λ x. Builds linked_form room (linked_from (Some p)) x c after) (linked_from (Some p)) b c after res
    (λ x k. let F : StatementData → Type 0 = λ z. Found statement_form room b z after in subst F (sym k.2) ((begin_then room p b c h).finds k.0 after k.1)) (begin_then room p b c h) g

pub now_here : (room : ℕ) (b after : List MarkedToken) (res : Result StatementData Refusal) → KeyComes keywords.Now b → ReadsNow None room b res after → Reads statement_form room same_statement b res after
now_here room b after res h g = gives_through statement_form now_form room (λ x. Found statement_form room b x after) (λ x. Builds now_form room (now_from None) x b after) (now_from None) b b after res
    (λ x k. let F : StatementData → Type 0 = λ z. Found statement_form room b z after in subst F (sym k.2) ((leads_as statement_form now_form (now_from None) room b (as_now b h)).finds k.0 after k.1)) (leads_as statement_form now_form (now_from None) room b (as_now b h)) g

pub label_from : (room : ℕ) (l : LabelTree) (b c after : List MarkedToken) (res : Result StatementData Refusal) → label_next b ≡ true → Found label_form room b l c → ReadsLabelled l room c res after → Reads statement_form room same_statement b res after
label_from room l b c after res h f g = gives_through statement_form labelled_form room (λ x. Found statement_form room b x after) (λ x. Builds labelled_form room (labelled_from l) x c after) (labelled_from l) b c after res
    (λ x k. let F : StatementData → Type 0 = λ z. Found statement_form room b z after in subst F (sym k.2) ((behind_label room l b c h f).finds k.0 after k.1)) (behind_label room l b c h f) g

pub from_here : (room : ℕ) (b c after : List MarkedToken) (res : Result StatementData Refusal) → TakesKey keywords.Then b None c → Reads statement_form room same_statement c res after → Reads statement_form room same_statement b res after
from_here room b c after res h g = let R : List MarkedToken → Type 0 = λ z. Reads statement_form room same_statement z res after in subst R (sym h.0) g

pub from_here_refused : (room : ℕ) (b c after : List MarkedToken) (e : Refusal) → TakesKey keywords.Then b None c → Refuses statement_form room c e after → Refuses statement_form room b e after
from_here_refused room b c after e h g = let R : List MarkedToken → Type 0 = λ z. Refuses statement_form room z e after in subst R (sym h.0) g
