-- The readings of statements that begin with neither a label nor a word of their own.
use Rattle.std.specs.List.{flat_map}
use Rattle.std.proofs.Common.{◌≡◌, ℕ, Bool, true, false, ◌||◌, ◌&&◌, List, [], ◌∷◌, ◌++◌, length, arith, refl, sym, ap, subst, ◌∙◌, get_or, Option, Some, None, Result}
use Rattle.mz_base.specs.declared.place.Place.{Place}
use Rattle.mz_base.specs.declared.token.MarkedToken.{MarkedToken}
use Rattle.mz_forms.specs.declared.refusal.Refusal.{Refusal}
use Rattle.mz_forms.specs.Form.{Agrees, Found, Leads}
use Rattle.mz_forms.specs.Reading.{Refuses, Reads, Builds}
use Rattle.mz_forms.proofs.Choose.{Reshapes}
use Rattle.mz_forms.proofs.Compose.{head_of, tail_of}
use Rattle.mz_forms.proofs.Leads.{leads_as, leads_on, leads_look, passes, gives_through}
use Rattle.mz_forms.proofs.Lists.{Begun}
use Rattle.mz_forms.proofs.Look.{Looks}
use Rattle.mz_tree.specs.Trees.{FormulaData}
use Rattle.mz_tree.specs.Rules.{IsFormula}
use Rattle.mz_tree.specs.Spell.{spell_formula}
use Rattle.mz_tree.specs.Levels.{levels_formula, each_formula}
use Rattle.mz_tree_proof.specs.declared.references.LabelTree.{LabelTree}
use Rattle.mz_tree_proof.specs.declared.equality_step.EqualityStepTree.{EqualityStepTree}
use Rattle.mz_tree_proof.specs.Spell.{spell_equality_step}
use Rattle.mz_tree_proof.specs.Levels.{levels_equality_step}
use Rattle.mz_tree_proof.specs.Reasoning.{JustData, StatementData, StatedCompact}
use Rattle.mz_tree_proof.specs.SpellReasoning.{spell_just, spell_compact, spell_statement}
use Rattle.mz_tree_proof.specs.LevelsReasoning.{levels_just, levels_compact}
use Rattle.mz_tree_proof.specs.RulesReasoning.{IsStatement}
use Rattle.mz_pterm.specs.declared.sign.Sign.TheVariants as signs
use Rattle.mz_pterm.specs.Sign.{sign_of}
use Rattle.mz_ptype.proofs.Optional.{never, true_not_false}
use Rattle.mz_patom.specs.Classes.{is_identifier}
use Rattle.mz_pformula.specs.Classes.{begins_unit}
use Rattle.mz_pformula.proofs.Begun.{begun, leads_begun}
use Rattle.mz_pformula.proofs.Identifiers.{identifier_is}
use Rattle.mz_pjustification.specs.declared.keyword.Keyword.{Keyword}
use Rattle.mz_pjustification.specs.declared.keyword.Keyword.TheVariants as keywords
use Rattle.mz_pjustification.specs.Keyword.{keyword_of}
use Rattle.mz_pjustification.specs.Words.{key, TakesKey}
use Rattle.mz_pjustification.specs.Forms.{is_colon}
use Rattle.mz_pjustification.proofs.Keywords.{told_key, keyword_of-key, sign_of-key}
use Rattle.mz_pjustification.proofs.Taken.{nowhere}
use Rattle.mz_pproposition.specs.Forms.{label_next}
use Rattle.mz_pproposition.proofs.Formulas.{formula_filled, formula_level}
use Rattle.mz_pproposition.proofs.PropositionSteps.{plainly, some_named}
use Rattle.mz_pproof.specs.Classes.{comes, KeyComes, is_set, defines, begins_definition}
use Rattle.mz_pproof.specs.Forms.{compact_with, now_form, now_from, Linked, compact_linked, consider_linked, reconsider_linked, spell_linked, levels_linked, IsLinked, linked_form, linked_from, statement_form, same_statement, ReadsLinked}
use Rattle.mz_pproof.proofs.FirstTokens.{no_keyword, unit_not_other}
use Rattle.mz_pproof.proofs.Stated.{some_stated}
use Rattle.mz_pproof.proofs.Statements.{Starts, then_starts, consider_starts, reconsider_starts, deffunc_starts, defpred_starts, now_starts, set_starts, label_starts, compact_starts, starts, from_token, set_sign, statement_filled, linked_spells, linked_levels, linked_into, linked_filled}

-- What doesn't come next.
pub record Left (b : List MarkedToken) : Type 0 where
  pub no_then : KeyComes keywords.Then b → ⊥
  pub no_definition : comes begins_definition b ≡ false
  pub no_now : KeyComes keywords.Now b → ⊥

left_false : (p q : Bool) → (p || q) ≡ false → p ≡ false
left_false true q e = cc
left_false false q e = refl

right_false : (p q : Bool) → (p || q) ≡ false → q ≡ false
right_false true q e = cc
right_false false q e = e

-- A statement that begins so is one that a `then` might stand before.
linked_here : (k : Keyword) (t : MarkedToken) (x : StatementData) → (k ≡ keywords.Then → ⊥) → defines k ≡ false → is_set t ≡ false → (k ≡ keywords.Now → ⊥) →
    ((l : LabelTree) (y : now_form.Tree) → x ≡ now_from (Some l) y → sign_of t ≡ signs.Identifier → ⊥) → Starts k t x → (y : Linked) × IsLinked y × (x ≡ linked_from None y)
linked_here k t x no_then no_word no_set no_now no_label (then_starts u p y is) = absurd (no_then refl)
linked_here k t x no_then no_word no_set no_now no_label (consider_starts u y is) = (consider_linked y, is, refl)
linked_here k t x no_then no_word no_set no_now no_label (reconsider_starts u y is) = (reconsider_linked y, is, refl)
linked_here k t x no_then no_word no_set no_now no_label (deffunc_starts u a is) = absurd (never (sym no_word))
linked_here k t x no_then no_word no_set no_now no_label (defpred_starts u a is) = absurd (never (sym no_word))
linked_here k t x no_then no_word no_set no_now no_label (now_starts u y is) = absurd (no_now refl)
linked_here k t x no_then no_word no_set no_now no_label (set_starts u a is f) = absurd (true_not_false (is_set t) no_set f)
linked_here k t x no_then no_word no_set no_now no_label (label_starts u l y is f) = absurd (no_label l y refl f)
linked_here k t x no_then no_word no_set no_now no_label (compact_starts u c is f) = (compact_linked c, is, refl)

module _ (t : MarkedToken) (rest : List MarkedToken) (left : Left (t ∷ rest)) where
  linked_of : (x : StatementData) → ((l : LabelTree) (y : now_form.Tree) → x ≡ now_from (Some l) y → sign_of t ≡ signs.Identifier → ⊥) → Starts (keyword_of t) t x → (y : Linked) × IsLinked y × (x ≡ linked_from None y)
  linked_of x no_label s = linked_here (keyword_of t) t x left.no_then (left_false (defines (keyword_of t)) (is_set t) left.no_definition) (right_false (defines (keyword_of t)) (is_set t) left.no_definition) left.no_now no_label s

  -- where the token is no identifier
  only_unnamed : is_identifier (sign_of t) ≡ false → (x : StatementData) → IsStatement x → Agrees (t ∷ rest) (spell_statement x) → (y : Linked) × IsLinked y × (x ≡ linked_from None y)
  only_unnamed h x is g = from_token (t ∷ rest) x ((y : Linked) × IsLinked y × (x ≡ linked_from None y)) is g
      (λ s r m e f begun_so. let same : t ≡ s = head_of _ _ _ _ e in
      let S : MarkedToken → Type 0 = λ z. Starts (keyword_of z) z x in
      linked_of x (λ l y q i. true_not_false (is_identifier (sign_of t)) h (ap is_identifier i)) (subst S (sym same) begun_so))

  pub as_unnamed : is_identifier (sign_of t) ≡ false → Reshapes statement_form linked_form (linked_from None) (t ∷ rest)
  as_unnamed h = record {
    into = λ k is. linked_into None k is;
    spells = λ k is. linked_spells None k;
    only = λ x is g. only_unnamed h x is g;
    goes = λ k s is g. g;
    level = λ k is. linked_levels None k;
  }

  -- where it is one, and no colon stands behind it
  no_colon : is_identifier (sign_of t) ≡ true → label_next (t ∷ rest) ≡ false → (l : LabelTree) (y : now_form.Tree) (m : List MarkedToken) → spell_statement (now_from (Some l) y) ≡ t ∷ m → Agrees rest m → ⊥
  no_colon h off l y m e agrees = go rest off m (tail_of _ _ _ _ e) agrees
    where
      right : (a b : Bool) → a ≡ true → (a && b) ≡ false → b ≡ false
      right true b f g = g
      right false b f g = cc

      go : (r : List MarkedToken) → label_next (t ∷ r) ≡ false → (m : List MarkedToken) {v : List MarkedToken} → key keywords.Colon l.colon ∷ v ≡ m → Agrees r m → ⊥
      go r n [] f g = cc
      go [] n (u ∷ m) f g = g
      go (s ∷ r) n (u ∷ m) f g =
          true_not_false (is_colon (keyword_of s)) (right (is_identifier (sign_of t)) (is_colon (keyword_of s)) h n) (ap (λ z. is_colon (keyword_of z)) (sym g ∙ sym (head_of _ _ _ _ f)) ∙ ap is_colon (keyword_of-key keywords.Colon l.colon refl))

  only_named : is_identifier (sign_of t) ≡ true → label_next (t ∷ rest) ≡ false → (x : StatementData) (m : List MarkedToken) → IsStatement x → spell_statement x ≡ t ∷ m → Agrees rest m → (y : Linked) × (begun linked_form t).IsTree y × (x ≡ linked_from None y)
  only_named h off x m is e agrees =
      let S : StatementData → Type 0 = λ z. spell_statement z ≡ t ∷ m in
      let k = linked_of x (λ l y q i. no_colon h off l y m (subst S q e) agrees) (starts x t m is e) in
      let A : List MarkedToken → Type 0 = λ z. Agrees (t ∷ []) z in
      (k.0, (k.1, subst A (sym (sym (linked_spells None k.0) ∙ (ap spell_statement (sym k.2) ∙ e))) refl), k.2)

-- the identifier nests nothing
get_or-first_of : (v w : List ℕ) → (v ≡ [] → ⊥) → get_or (v ++ w) 0 0 ≡ get_or v 0 0
get_or-first_of [] w h = absurd (h refl)
get_or-first_of (n ∷ v) w h = refl

left_nil : {X : Type 0} (v w : List X) → v ++ w ≡ [] → v ≡ []
left_nil [] w e = refl
left_nil (s ∷ v) w e = cc

no_levels : (f : FormulaData) → IsFormula false f → levels_formula f ≡ [] → ⊥
no_levels f is e = go (spell_formula f) refl
  where
    go : (w : List MarkedToken) → spell_formula f ≡ w → ⊥
    go [] g = formula_filled f is g
    go (s ∷ w) g = let n : length (levels_formula f) ≡ length (s ∷ w) = each_formula f ∙ ap length g in let z : length (levels_formula f) ≡ 0 = ap length e in absurd (omega (arith, n, z))

compact_level : (o : Option LabelTree) (f : FormulaData) (b : JustData) (c : List EqualityStepTree) (d : Place) (t : MarkedToken) → IsFormula false f → sign_of t ≡ signs.Identifier →
    Agrees (t ∷ []) (spell_compact (StatedCompact (record { label = o; formula = f }) b c d)) → get_or (levels_compact (StatedCompact (record { label = o; formula = f }) b c d)) 0 0 ≡ 0
compact_level (Some l) f b c d t is h g = refl
compact_level None f b c d t is h g =
    let v = levels_formula f in
    let some = no_levels f is in
    get_or-first_of ((v ++ levels_just b) ++ flat_map levels_equality_step c) (0 ∷ []) (λ e. some (left_nil v (levels_just b) (left_nil (v ++ levels_just b) (flat_map levels_equality_step c) e))) ∙
    (get_or-first_of (v ++ levels_just b) (flat_map levels_equality_step c) (λ e. some (left_nil v (levels_just b) e)) ∙ (get_or-first_of v (levels_just b) some ∙ formula_level f t is h (go (spell_formula f) refl)))
  where
    go : (w : List MarkedToken) → spell_formula f ≡ w → Agrees (t ∷ []) (spell_formula f)
    go [] e = absurd (formula_filled f is e)
    go (s ∷ w) e =
        let A : List MarkedToken → Type 0 = λ z. Agrees (t ∷ []) z in
        let B : List MarkedToken → Type 0 = λ z. Agrees (t ∷ []) (((z ++ spell_just b) ++ flat_map spell_equality_step c) ++ key keywords.Semicolon d ∷ []) in
        let same : s ≡ t = subst B e g in
        subst A (sym e) same

linked_level : (k : Linked) (t : MarkedToken) → IsLinked k → sign_of t ≡ signs.Identifier → Agrees (t ∷ []) (spell_linked k) → get_or (levels_linked k) 0 0 ≡ 0
linked_level (compact_linked (StatedCompact a b c d)) t is h g = compact_level a.label a.formula b c d t is.0 h g
linked_level (consider_linked k) t is h g = refl
linked_level (reconsider_linked k) t is h g = refl

pub some_linked : (t : MarkedToken) → sign_of t ≡ signs.Identifier → Begun linked_form t
some_linked t h =
    let some = some_named t h in
    (compact_linked (compact_with (plainly some.0) some_stated), ((some.1 ++ []) ++ []) ++ key keywords.Semicolon nowhere ∷ [], (some.2, tt, tt, tt), ap (λ z. ((z ++ []) ++ []) ++ key keywords.Semicolon nowhere ∷ []) some.3)

pub looks_named : (t : MarkedToken) (rest : List MarkedToken) → Left (t ∷ rest) → is_identifier (sign_of t) ≡ true → label_next (t ∷ rest) ≡ false → Looks statement_form (begun linked_form t) (linked_from None) t rest
looks_named t rest left h off = record {
  into = λ k is. linked_into None k is.0;
  spells = λ k is. linked_spells None k;
  only = λ x m is e agrees. only_named t rest left h off x m is e agrees;
  empty = λ x is e. absurd (statement_filled x is e);
  filled = λ k is e. linked_filled k e;
  goes = λ k s is g. g;
  level = λ k is. linked_levels None k;
  first = λ k is. linked_level k t is.0 (identifier_is (sign_of t) h) is.1;
  begins = let some = some_linked t (identifier_is (sign_of t) h) in (some.0, some.1, (some.2, subst (λ (z : List MarkedToken). Agrees (t ∷ []) z) (sym some.3) refl), some.3);
}

none_left : (x : StatementData) → IsStatement x → Agrees [] (spell_statement x) → (y : Linked) × IsLinked y × (x ≡ linked_from None y)
none_left x is g = from_token [] x ((y : Linked) × IsLinked y × (x ≡ linked_from None y)) is g (λ s r m e f begun_so. absurd (nothing s r e))
  where
    nothing : (s : MarkedToken) (r : List MarkedToken) → [] ≡ s ∷ r → ⊥
    nothing s r e = cc

as_nothing : Reshapes statement_form linked_form (linked_from None) []
as_nothing = record {
  into = λ k is. linked_into None k is;
  spells = λ k is. linked_spells None k;
  only = λ x is g. none_left x is g;
  goes = λ k s is g. g;
  level = λ k is. linked_levels None k;
}

begin_unlabelled : (room : ℕ) (b : List MarkedToken) → Left b → label_next b ≡ false → Leads statement_form linked_form room (linked_from None) b b
begin_unlabelled room [] left off = leads_as statement_form linked_form (linked_from None) room [] as_nothing
begin_unlabelled room (t ∷ rest) left off = go (is_identifier (sign_of t)) refl
  where
    go : (i : Bool) → is_identifier (sign_of t) ≡ i → Leads statement_form linked_form room (linked_from None) (t ∷ rest) (t ∷ rest)
    go false h = leads_as statement_form linked_form (linked_from None) room (t ∷ rest) (as_unnamed t rest left h)
    go true h = leads_on statement_form (begun linked_form t) linked_form room (linked_from None) (λ k. k) (t ∷ rest) (t ∷ rest) (t ∷ rest)
        (leads_look statement_form (begun linked_form t) (linked_from None) t rest (looks_named t rest left h off) room (t ∷ rest) refl)
        (leads_begun linked_form t (some_linked t (identifier_is (sign_of t) h)) rest room (t ∷ rest) refl)

pub unlabelled_refused : (room : ℕ) (b after : List MarkedToken) (e : Refusal) → Left b → label_next b ≡ false → Refuses linked_form room b e after → Refuses statement_form room b e after
unlabelled_refused room b after e left off h = passes statement_form linked_form room (linked_from None) b b after e (begin_unlabelled room b left off) h

pub unlabelled_found : (room : ℕ) (k : Linked) (b after : List MarkedToken) → Left b → label_next b ≡ false → Found linked_form room b k after → Found statement_form room b (linked_from None k) after
unlabelled_found room k b after left off h = (begin_unlabelled room b left off).finds k after h

-- where `then` wasn't taken
pub left_from : (b c : List MarkedToken) → TakesKey keywords.Then b None c → comes begins_definition c ≡ false → (KeyComes keywords.Now c → ⊥) → Left c
left_from b c h d n = record {
  no_then = λ k. go c (let N : List MarkedToken → Type 0 = λ z. (p : Place) → Agrees z (key keywords.Then p ∷ []) → ⊥ in subst N h.0 h.1) k;
  no_definition = d;
  no_now = n;
}
  where
    go : (z : List MarkedToken) → ((p : Place) → Agrees z (key keywords.Then p ∷ []) → ⊥) → KeyComes keywords.Then z → ⊥
    go [] g k = k
    go (t ∷ z) g k = g t.token.place (sym (told_key keywords.Then t refl k))

-- where another word of a statement comes, or a formula
left_word : (k : Keyword) → defines k ≡ false → (k ≡ keywords.Then → ⊥) → (k ≡ keywords.Now → ⊥) → (t : MarkedToken) (rest : List MarkedToken) → keyword_of t ≡ k → is_set t ≡ false → Left (t ∷ rest)
left_word k d n m t rest h s = record {
  no_then = λ e. n (sym h ∙ e);
  no_definition = ap (λ z. z || is_set t) (ap defines h ∙ d) ∙ s;
  no_now = λ e. m (sym h ∙ e);
}

not_mode : (t : MarkedToken) → (sign_of t ≡ signs.Mode → ⊥) → is_set t ≡ false
not_mode t h = go (is_set t) refl
  where
    go : (b : Bool) → is_set t ≡ b → b ≡ false
    go true e = absurd (h (set_sign t e))
    go false e = refl

pub left_unit : (t : MarkedToken) (rest : List MarkedToken) → begins_unit (sign_of t) ≡ true → Left (t ∷ rest)
left_unit t rest h = left_word keywords.Other refl (λ e. cc) (λ e. cc) t rest (no_keyword t (unit_not_other t h)) (not_mode t (λ e. never (sym (ap begins_unit e) ∙ h)))

pub left_named : (t : MarkedToken) (rest : List MarkedToken) → sign_of t ≡ signs.Identifier → Left (t ∷ rest)
left_named t rest h = left_unit t rest (ap begins_unit h)

abbrev is_linked_key : Keyword → Bool
is_linked_key keywords.Consider = true
is_linked_key keywords.Reconsider = true
is_linked_key _ = false

pub left_key : (k : Keyword) (t : MarkedToken) → keyword_of t ≡ k → is_linked_key k ≡ true → Left (t ∷ [])
left_key keywords.Consider t h e = left_word keywords.Consider refl (λ e. cc) (λ e. cc) t [] h (not_mode t (λ f. mode_not_other (sym f ∙ (ap sign_of (told_key keywords.Consider t refl h) ∙ sign_of-key keywords.Consider t.token.place refl))))
  where
    mode_not_other : signs.Mode ≡ signs.Other → ⊥
    mode_not_other f = cc
left_key keywords.Reconsider t h e = left_word keywords.Reconsider refl (λ e. cc) (λ e. cc) t [] h (not_mode t (λ f. mode_not_other (sym f ∙ (ap sign_of (told_key keywords.Reconsider t refl h) ∙ sign_of-key keywords.Reconsider t.token.place refl))))
  where
    mode_not_other : signs.Mode ≡ signs.Other → ⊥
    mode_not_other f = cc
left_key _ t h e = cc

pub unlabelled_from : (room : ℕ) (b after : List MarkedToken) (res : Result StatementData Refusal) → Left b → label_next b ≡ false → ReadsLinked None room b res after → Reads statement_form room same_statement b res after
unlabelled_from room b after res left off g = gives_through statement_form linked_form room (λ x. Found statement_form room b x after) (λ x. Builds linked_form room (linked_from None) x b after) (linked_from None) b b after res
    (λ x k. let F : StatementData → Type 0 = λ z. Found statement_form room b z after in subst F (sym k.2) ((begin_unlabelled room b left off).finds k.0 after k.1)) (begin_unlabelled room b left off) g
