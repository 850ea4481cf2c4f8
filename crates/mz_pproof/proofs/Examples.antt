-- Statements and steps that begin with a token that may begin one.
use Rattle.std.specs.Prelude.{codes, if◌then◌else◌}
use Rattle.std.specs.Str.{bytes_eq}
use Rattle.std.proofs.Common.{◌≡◌, Bool, true, false, ◌||◌, ◌&&◌, List, [], ◌∷◌, ◌++◌, refl, sym, ap, ◌∙◌, Some, None}
use Rattle.std.proofs.lemmas.Slice.Eq.{bytes_eq-Decides}
use Rattle.mz_base.specs.declared.symbol_kind.SymbolKind.TheVariants as symbols
use Rattle.mz_base.specs.declared.token.TokenKind.TheVariants as kinds
use Rattle.mz_base.specs.declared.token.Mark.TheVariants as marks
use Rattle.mz_base.specs.declared.token.MarkedToken.{MarkedToken}
use Rattle.mz_forms.proofs.Lists.{Begun}
use Rattle.mz_tree.specs.Spelled.{marked, symbol}
use Rattle.mz_tree.specs.Trees.{ModeType, no_adjectives}
use Rattle.mz_tree_proof.specs.declared.references.SimpleTree.TheVariants as simple_tree
use Rattle.mz_tree_proof.specs.declared.propositions.HypothesesTree.TheVariants as hypotheses_tree
use Rattle.mz_tree_proof.specs.declared.introduction.RetypedTree.TheVariants as retyped_tree
use Rattle.mz_tree_proof.specs.declared.introduction.IntroductionTree.TheVariants as introductions
use Rattle.mz_tree_proof.specs.declared.skeleton.TakenTree.TheVariants as taken_tree
use Rattle.mz_tree_proof.specs.declared.skeleton.SkeletonTree.TheVariants as skeletons
use Rattle.mz_tree_proof.specs.Reasoning.{StatementData, StepData, CompactStatement, NowStatement, IntroductionStatement, StatementStep, ThusStep, HenceStep, HerebyStep, SkeletonStep, no_steps}
use Rattle.mz_tree_proof.specs.SpellReasoning.{spell_statement, spell_step}
use Rattle.mz_tree_proof.specs.RulesReasoning.{IsStatement}
use Rattle.mz_pterm.specs.declared.sign.Sign.TheVariants as signs
use Rattle.mz_pterm.specs.Sign.{sign_of}
use Rattle.mz_pterm.specs.Words.{word_of}
use Rattle.mz_pterm.proofs.Signs.{told_named}
use Rattle.mz_pterm.proofs.Bases.{word_at, term_at}
use Rattle.mz_ptype.proofs.Optional.{never}
use Rattle.mz_pformula.specs.Classes.{begins_unit}
use Rattle.mz_pformula.proofs.Quantifiers.{some_formula, some_declarations}
use Rattle.mz_pjustification.specs.declared.keyword.Keyword.{Keyword}
use Rattle.mz_pjustification.specs.declared.keyword.Keyword.TheVariants as keywords
use Rattle.mz_pjustification.specs.Keyword.{keyword_of}
use Rattle.mz_pjustification.specs.Words.{is_key, key}
use Rattle.mz_pjustification.proofs.Keywords.{told_key}
use Rattle.mz_pjustification.proofs.Taken.{nowhere}
use Rattle.mz_pproposition.proofs.PropositionSteps.{plainly}
use Rattle.mz_pstep.specs.Words.{set_word}
use Rattle.mz_pstep.proofs.Sequences.{some_such}
use Rattle.mz_pproof.specs.Classes.{is_set, is_statement_key, begins_statement, is_per_key, is_step_key, begins_step}
use Rattle.mz_pproof.specs.Forms.{compact_with, consider_linked, reconsider_linked, linked_from, statement_form, IsPlainStep, step_form}
use Rattle.mz_pproof.proofs.FirstTokens.{begun_formula}
use Rattle.mz_pproof.proofs.Stated.{some_stated}
use Rattle.mz_pproof.proofs.Statements.{set_sign}

-- Statements.
begun_by : (k : Keyword) (t : MarkedToken) (x : StatementData) (m : List MarkedToken) → IsStatement x → is_key k ≡ true → keyword_of t ≡ k → spell_statement x ≡ key k t.token.place ∷ m → Begun statement_form t
begun_by k t x m is h e f = (x, m, is, f ∙ ap (λ z. z ∷ m) (sym (told_key k t h e)))

begun_at : (k : Keyword) (t : MarkedToken) → keyword_of t ≡ k → is_statement_key k ≡ true → Begun statement_form t
begun_at keywords.Then t e h = begun_by keywords.Then t (CompactStatement (Some t.token.place) (compact_with (plainly some_formula) some_stated)) _ (((tt, tt), tt), tt, tt, tt) refl e refl
begun_at keywords.Now t e h = begun_by keywords.Now t (NowStatement None t.token.place no_steps nowhere nowhere) _ tt refl e refl
begun_at keywords.Consider t e h = begun_by keywords.Consider t (linked_from None (consider_linked (t.token.place, (some_declarations, (some_such, (simple_tree.Nothing, nowhere)))))) _ ((tt, tt), (((tt, tt), tt), tt), tt) refl e refl
begun_at keywords.Reconsider t e h =
    begun_by keywords.Reconsider t (linked_from None (reconsider_linked (t.token.place, (record { first = retyped_tree.Itself (word_at nowhere); more = [] }, (nowhere, (ModeType no_adjectives (word_at nowhere), (simple_tree.Nothing, nowhere))))))) _ ((tt, tt), tt, tt) refl e refl
begun_at keywords.Deffunc t e h =
    begun_by keywords.Deffunc t (IntroductionStatement (introductions.Deffunc (record { deffunc = t.token.place; name = word_at nowhere; left = nowhere; types = None; right = nowhere; equals = nowhere; term = term_at nowhere; semicolon = nowhere }))) _ (tt, (tt, tt)) refl e refl
begun_at keywords.Defpred t e h =
    begun_by keywords.Defpred t (IntroductionStatement (introductions.Defpred (record { defpred = t.token.place; name = word_at nowhere; left = nowhere; types = None; right = nowhere; means = nowhere; formula = some_formula; semicolon = nowhere }))) _ (tt, ((tt, tt), tt)) refl e refl
begun_at _ t e h = cc

right_of : (p q : Bool) → p ≡ false → (p || q) ≡ true → q ≡ true
right_of true q e h = cc
right_of false q e h = h

both_of : (p q : Bool) → (p && q) ≡ true → q ≡ true
both_of true q e = e
both_of false q e = cc

set_told : (t : MarkedToken) → is_set t ≡ true → t ≡ set_word t.token.place
set_told t h =
    let g = both_of _ (bytes_eq t.token.spelling (codes "set")) h in
    let e : t.token.spelling ≡ codes "set" = (bytes_eq-Decides t.token.spelling (codes "set")).0 g in
    told_named signs.Mode t refl (set_sign t h) ∙ (ap (λ c. if c then marked kinds.Reserved t.token.place t.token.spelling 0 marks.NotComma else symbol symbols.Mode (word_of t)) g ∙ ap (λ z. marked kinds.Reserved t.token.place z 0 marks.NotComma) e)

begun_set : (t : MarkedToken) (x : StatementData) (m : List MarkedToken) → IsStatement x → is_set t ≡ true → spell_statement x ≡ set_word t.token.place ∷ m → Begun statement_form t
begun_set t x m is h e = (x, m, is, e ∙ ap (λ z. z ∷ m) (sym (set_told t h)))

pub begun_statement : (t : MarkedToken) → begins_statement t ≡ true → Begun statement_form t
begun_statement t h = words (is_statement_key (keyword_of t)) refl
  where
    rest : (b : Bool) → is_set t ≡ b → (is_set t || begins_unit (sign_of t)) ≡ true → Begun statement_form t
    rest true e g = begun_set t (IntroductionStatement (introductions.Set (record { set = t.token.place; named = record { first = record { name = word_at nowhere; equals = nowhere; term = term_at nowhere }; more = [] }; semicolon = nowhere }))) _ ((tt, tt), tt) e refl
    rest false e g =
        let k = begun_formula t (right_of (is_set t) (begins_unit (sign_of t)) e g) in
        (CompactStatement None (compact_with (plainly k.0) some_stated), ((k.1 ++ []) ++ []) ++ key keywords.Semicolon nowhere ∷ [], (k.2, tt, tt, tt), ap (λ z. ((z ++ []) ++ []) ++ key keywords.Semicolon nowhere ∷ []) k.3)

    words : (b : Bool) → is_statement_key (keyword_of t) ≡ b → Begun statement_form t
    words true e = begun_at (keyword_of t) t refl e
    words false e = rest (is_set t) refl (right_of (is_statement_key (keyword_of t)) (is_set t || begins_unit (sign_of t)) e h)

-- Steps that are no split.
step_by : (k : Keyword) (t : MarkedToken) (x : StepData) (m : List MarkedToken) → IsPlainStep x → is_key k ≡ true → keyword_of t ≡ k → spell_step x ≡ key k t.token.place ∷ m → Begun step_form t
step_by k t x m is h e f = (x, m, is, f ∙ ap (λ z. z ∷ m) (sym (told_key k t h e)))

step_at : (k : Keyword) (t : MarkedToken) → keyword_of t ≡ k → is_step_key k ≡ true → is_per_key k ≡ false → Begun step_form t
step_at keywords.Let t e h g = step_by keywords.Let t (SkeletonStep (skeletons.Let (record { let_ = t.token.place; declarations = some_declarations; such = None; semicolon = nowhere }))) _ ((tt, tt), tt) refl e refl
step_at keywords.Assume t e h g = step_by keywords.Assume t (SkeletonStep (skeletons.Assume (record { assume = t.token.place; hypotheses = hypotheses_tree.One (plainly some_formula); semicolon = nowhere }))) _ ((tt, tt), tt) refl e refl
step_at keywords.Given t e h g = step_by keywords.Given t (SkeletonStep (skeletons.Given (record { given = t.token.place; declarations = some_declarations; such = some_such; semicolon = nowhere }))) _ ((tt, tt), (((tt, tt), tt), tt)) refl e refl
step_at keywords.Take t e h g = step_by keywords.Take t (SkeletonStep (skeletons.Take (record { take = t.token.place; taken = record { first = taken_tree.Plain (term_at nowhere); more = [] }; semicolon = nowhere }))) _ ((tt, tt), tt) refl e refl
step_at keywords.Thus t e h g = step_by keywords.Thus t (ThusStep t.token.place (compact_with (plainly some_formula) some_stated)) _ (((tt, tt), tt), tt, tt, tt) refl e refl
step_at keywords.Hence t e h g = step_by keywords.Hence t (HenceStep t.token.place (compact_with (plainly some_formula) some_stated)) _ (((tt, tt), tt), tt, tt, tt) refl e refl
step_at keywords.Hereby t e h g = step_by keywords.Hereby t (HerebyStep t.token.place no_steps nowhere nowhere) _ tt refl e refl
step_at keywords.Per t e h g = absurd (never (sym g))
step_at _ t e h g = cc

pub begun_step : (t : MarkedToken) → begins_step t ≡ true → is_per_key (keyword_of t) ≡ false → Begun step_form t
begun_step t h g = words (is_step_key (keyword_of t)) refl
  where
    words : (b : Bool) → is_step_key (keyword_of t) ≡ b → Begun step_form t
    words true e = step_at (keyword_of t) t refl e g
    words false e = let k = begun_statement t (right_of (is_step_key (keyword_of t)) (begins_statement t) e h) in (StatementStep k.0, k.1, k.2, k.3)
