-- The readings of statements.
use Rattle.std.specs.Prelude.{codes}
use Rattle.std.specs.Str.{bytes_eq}
use Rattle.std.proofs.Common.{◌≡◌, ℕ, suc, map, arith, Bool, true, false, ◌||◌, ◌&&◌, List, [], ◌∷◌, ◌++◌, refl, sym, ap, subst, ◌∙◌, append_assoc, Option, Some, None}
use Rattle.mz_base.specs.declared.place.Place.{Place}
use Rattle.mz_base.specs.declared.token.MarkedToken.{MarkedToken}
use Rattle.mz_forms.specs.declared.refusal.Refusal.{Refusal}
use Rattle.mz_forms.specs.Form.{Agrees, Found, Leads}
use Rattle.mz_forms.specs.Reading.{Refuses}
use Rattle.mz_forms.proofs.Choose.{Reshapes, Chooses}
use Rattle.mz_forms.proofs.Compose.{head_of}
use Rattle.mz_forms.proofs.Leads.{leads_as, leads_by, passes}
use Rattle.mz_tree.specs.Spelled.{reserved_if}
use Rattle.mz_tree.specs.Spell.{spell_declarations, spell_type}
use Rattle.mz_tree.specs.Levels.{levels_if, levels_declarations, levels_type}
use Rattle.mz_tree.specs.Lists.{spell_separated, levels_separated}
use Rattle.mz_tree_proof.specs.declared.references.LabelTree.{LabelTree}
use Rattle.mz_tree_proof.specs.declared.introduction.SetTree.{SetTree}
use Rattle.mz_tree_proof.specs.declared.introduction.DeffuncTree.{DeffuncTree}
use Rattle.mz_tree_proof.specs.declared.introduction.DefpredTree.{DefpredTree}
use Rattle.mz_tree_proof.specs.declared.introduction.IntroductionTree.TheVariants as introductions
use Rattle.mz_tree_proof.specs.Spell as spell
use Rattle.mz_tree_proof.specs.Levels as levels
use Rattle.mz_tree_proof.specs.Rules.{IsSet, IsDeffunc, IsDefpred}
use Rattle.mz_tree_proof.specs.Reasoning.{CompactData, StatementData, CompactStatement, NowStatement, IntroductionStatement}
use Rattle.mz_tree_proof.specs.SpellReasoning.{spell_statement, spell_step_list}
use Rattle.mz_tree_proof.specs.LevelsReasoning.{levels_statement, levels_step_list}
use Rattle.mz_tree_proof.specs.RulesReasoning.{IsCompact, IsStatement}
use Rattle.mz_pterm.specs.declared.sign.Sign.{Sign}
use Rattle.mz_pterm.specs.declared.sign.Sign.TheVariants as signs
use Rattle.mz_pterm.specs.Sign.{sign_of}
use Rattle.mz_pterm.proofs.Signs.{sign_of-named}
use Rattle.mz_ptype.proofs.Optional.{never}
use Rattle.mz_pformula.specs.Classes.{begins_unit}
use Rattle.mz_pjustification.specs.declared.keyword.Keyword.{Keyword}
use Rattle.mz_pjustification.specs.declared.keyword.Keyword.TheVariants as keywords
use Rattle.mz_pjustification.specs.Keyword.{keyword_of}
use Rattle.mz_pjustification.specs.Words.{is_key, key, TakesKey}
use Rattle.mz_pjustification.proofs.Keywords.{keyword_of-key, same_key}
use Rattle.mz_pstep.specs.Words.{set_word}
use Rattle.mz_pstep.specs.Forms.{consider_form, reconsider_form, set_statement_form, deffunc_form, defpred_form}
use Rattle.mz_pproof.specs.Classes.{comes, KeyComes, is_mode, is_set, defines, begins_definition}
use Rattle.mz_pproof.specs.Forms.{now_form, now_from, Linked, compact_linked, consider_linked, reconsider_linked, spell_linked, levels_linked, IsLinked, linked_form, linked_from, statement_form}
use Rattle.mz_pproof.proofs.FirstTokens.{no_keyword, unit_not_other}
use Rattle.mz_pproof.proofs.Blocks.{ends_closed_block}
use Rattle.mz_pproof.proofs.Stated.{compact_begins, compact_filled}

-- Spelling that groups to the left, from one that groups to the right.
append-three : {X : Type 0} (v w x : List X) → (v ++ w) ++ x ≡ v ++ (w ++ x)
append-three v w x = append_assoc v w x

append-four : {X : Type 0} (v w x y : List X) → ((v ++ w) ++ x) ++ y ≡ v ++ (w ++ (x ++ y))
append-four v w x y = append_assoc (v ++ w) x y ∙ append_assoc v w (x ++ y)

append-five : {X : Type 0} (v w x y z : List X) → (((v ++ w) ++ x) ++ y) ++ z ≡ v ++ (w ++ (x ++ (y ++ z)))
append-five v w x y z = append_assoc ((v ++ w) ++ x) y z ∙ append-four v w x (y ++ z)

-- behind a `then`, or without one
pub linked_spells : (o : Option Place) (k : Linked) → spell_statement (linked_from o k) ≡ reserved_if o (codes "then") ++ spell_linked k
linked_spells o (compact_linked c) = refl
linked_spells o (consider_linked k) = append-five (reserved_if o (codes "then")) (key keywords.Consider k.0 ∷ spell_declarations k.1.0) (spell.spell_such k.1.1.0) (spell.spell_simple k.1.1.1.0) (key keywords.Semicolon k.1.1.1.1 ∷ [])
linked_spells o (reconsider_linked k) =
    append-five (reserved_if o (codes "then")) (key keywords.Reconsider k.0 ∷ spell_separated spell.spell_retyped k.1.0) (key keywords.As k.1.1.0 ∷ spell_type k.1.1.1.0) (spell.spell_simple k.1.1.1.1.0) (key keywords.Semicolon k.1.1.1.1.1 ∷ [])

pub linked_levels : (o : Option Place) (k : Linked) → levels_statement (linked_from o k) ≡ levels_if o ++ levels_linked k
linked_levels o (compact_linked c) = refl
linked_levels o (consider_linked k) = append-five (levels_if o) (0 ∷ levels_declarations k.1.0) (levels.levels_such k.1.1.0) (levels.levels_simple k.1.1.1.0) (0 ∷ [])
linked_levels o (reconsider_linked k) = append-five (levels_if o) (0 ∷ levels_separated levels.levels_retyped k.1.0) (0 ∷ levels_type k.1.1.1.0) (levels.levels_simple k.1.1.1.1.0) (0 ∷ [])

pub linked_into : (o : Option Place) (k : Linked) → IsLinked k → IsStatement (linked_from o k)
linked_into o (compact_linked c) is = is
linked_into o (consider_linked k) is = (is.1.0, is.1.1.0, is.1.1.1.0)
linked_into o (reconsider_linked k) is = (is.1.0, is.1.1.1.0, is.1.1.1.1.0)

pub linked_filled : (k : Linked) → spell_linked k ≡ [] → ⊥
linked_filled (compact_linked c) e = compact_filled c e
linked_filled (consider_linked k) e = cc
linked_filled (reconsider_linked k) e = cc

-- `now` without a label, and with one
pub now_spells : (k : now_form.Tree) → spell_statement (now_from None k) ≡ now_form.spell k
now_spells k = ap (λ z. key keywords.Now k.0.0 ∷ z) (sym (append_assoc (spell_step_list k.0.1.0) (key keywords.End k.0.1.1 ∷ []) (key keywords.Semicolon k.1 ∷ [])))

pub now_levels : (k : now_form.Tree) → levels_statement (now_from None k) ≡ now_form.levels k
now_levels k = ap (λ z. 1 ∷ z) (sym (append_assoc (map suc (levels_step_list k.0.1.0)) (0 ∷ []) (0 ∷ [])))

-- What a statement begins with.
pub data Starts : Keyword → MarkedToken → StatementData → Type 0 where
  then_starts : (t : MarkedToken) (p : Place) (k : Linked) → IsLinked k → Starts keywords.Then t (linked_from (Some p) k)
  consider_starts : (t : MarkedToken) (k : consider_form.Tree) → consider_form.IsTree k → Starts keywords.Consider t (linked_from None (consider_linked k))
  reconsider_starts : (t : MarkedToken) (k : reconsider_form.Tree) → reconsider_form.IsTree k → Starts keywords.Reconsider t (linked_from None (reconsider_linked k))
  deffunc_starts : (t : MarkedToken) (a : DeffuncTree) → IsDeffunc a → Starts keywords.Deffunc t (IntroductionStatement (introductions.Deffunc a))
  defpred_starts : (t : MarkedToken) (a : DefpredTree) → IsDefpred a → Starts keywords.Defpred t (IntroductionStatement (introductions.Defpred a))
  now_starts : (t : MarkedToken) (k : now_form.Tree) → now_form.IsTree k → Starts keywords.Now t (now_from None k)
  set_starts : (t : MarkedToken) (a : SetTree) → IsSet a → is_set t ≡ true → Starts keywords.Other t (IntroductionStatement (introductions.Set a))
  label_starts : (t : MarkedToken) (l : LabelTree) (k : now_form.Tree) → now_form.IsTree k → sign_of t ≡ signs.Identifier → Starts keywords.Other t (now_from (Some l) k)
  compact_starts : (t : MarkedToken) (c : CompactData) → IsCompact c → begins_unit (sign_of t) ≡ true → Starts keywords.Other t (CompactStatement None c)

abbrev At : Keyword → MarkedToken → StatementData → Type 0
At k t x = keyword_of t ≡ k → Starts (keyword_of t) t x

at : (k : Keyword) (t : MarkedToken) (x : StatementData) → keyword_of t ≡ k → Starts k t x → Starts (keyword_of t) t x
at k t x e s = let S : Keyword → Type 0 = λ z. Starts z t x in subst S (sym e) s

keyword_of-keyed : (k : Keyword) (p : Place) (t : MarkedToken) (v m : List MarkedToken) → is_key k ≡ true → key k p ∷ v ≡ t ∷ m → keyword_of t ≡ k
keyword_of-keyed k p t v m h e = sym (ap keyword_of (head_of _ _ _ _ e)) ∙ keyword_of-key k p h

identifier_not_other : signs.Identifier ≡ signs.Other → ⊥
identifier_not_other e = cc

mode_not_other : signs.Mode ≡ signs.Other → ⊥
mode_not_other e = cc

pub set_own : (p : Place) → is_set (set_word p) ≡ true
set_own p = ap (λ s. is_mode s && bytes_eq (codes "set") (codes "set")) (sign_of-named signs.Mode (record { place = p; spelling = codes "set" }) refl)

mode_of : (s : Sign) → is_mode s ≡ true → s ≡ signs.Mode
mode_of signs.Mode e = refl
mode_of _ e = cc

pub set_sign : (t : MarkedToken) → is_set t ≡ true → sign_of t ≡ signs.Mode
set_sign t h = go (is_mode (sign_of t)) refl
  where
    go : (b : Bool) → is_mode (sign_of t) ≡ b → sign_of t ≡ signs.Mode
    go true e = mode_of (sign_of t) e
    go false e = absurd (never (sym (ap (λ z. z && bytes_eq t.token.spelling (codes "set")) e) ∙ h))

consider_at : (o : Option Place) (k : consider_form.Tree) (t : MarkedToken) (m : List MarkedToken) → consider_form.IsTree k → spell_statement (linked_from o (consider_linked k)) ≡ t ∷ m → Starts (keyword_of t) t (linked_from o (consider_linked k))
consider_at (Some p) k t m is e = at keywords.Then t (linked_from (Some p) (consider_linked k)) (keyword_of-keyed keywords.Then p t _ m refl e) (then_starts t p (consider_linked k) is)
consider_at None k t m is e = at keywords.Consider t (linked_from None (consider_linked k)) (keyword_of-keyed keywords.Consider k.0 t _ m refl e) (consider_starts t k is)

reconsider_at : (o : Option Place) (k : reconsider_form.Tree) (t : MarkedToken) (m : List MarkedToken) → reconsider_form.IsTree k → spell_statement (linked_from o (reconsider_linked k)) ≡ t ∷ m → Starts (keyword_of t) t (linked_from o (reconsider_linked k))
reconsider_at (Some p) k t m is e = at keywords.Then t (linked_from (Some p) (reconsider_linked k)) (keyword_of-keyed keywords.Then p t _ m refl e) (then_starts t p (reconsider_linked k) is)
reconsider_at None k t m is e = at keywords.Reconsider t (linked_from None (reconsider_linked k)) (keyword_of-keyed keywords.Reconsider k.0 t _ m refl e) (reconsider_starts t k is)

pub starts : (x : StatementData) (t : MarkedToken) (m : List MarkedToken) → IsStatement x → spell_statement x ≡ t ∷ m → Starts (keyword_of t) t x
starts (CompactStatement (Some p) c) t m is e = at keywords.Then t (CompactStatement (Some p) c) (keyword_of-keyed keywords.Then p t _ m refl e) (then_starts t p (compact_linked c) is)
starts (CompactStatement None c) t m is e = let g = compact_begins c t m is e in at keywords.Other t (CompactStatement None c) (no_keyword t (unit_not_other t g)) (compact_starts t c is g)
starts (NowStatement None a b c d) t m is e = at keywords.Now t (NowStatement None a b c d) (keyword_of-keyed keywords.Now a t _ m refl e) (now_starts t ((a, (b, c)), d) ((tt, (is, tt)), tt))
starts (NowStatement (Some l) a b c d) t m is e =
    let g : sign_of t ≡ signs.Identifier = sym (ap sign_of (head_of _ _ _ _ e)) ∙ sign_of-named signs.Identifier l.name refl in
    at keywords.Other t (NowStatement (Some l) a b c d) (no_keyword t (λ h. identifier_not_other (sym g ∙ h))) (label_starts t l ((a, (b, c)), d) ((tt, (is, tt)), tt) g)
starts (IntroductionStatement (introductions.Consider a)) t m is e = consider_at a.then (a.consider, (a.declarations, (a.such, (a.simple, a.semicolon)))) t m (tt, (is.0, (is.1, (is.2, tt)))) e
starts (IntroductionStatement (introductions.Reconsider a)) t m is e = reconsider_at a.then (a.reconsider, (a.retyped, (a.as_, (a.ty, (a.simple, a.semicolon))))) t m (tt, (is.0, (tt, (is.1, (is.2, tt))))) e
starts (IntroductionStatement (introductions.Deffunc a)) t m is e = at keywords.Deffunc t (IntroductionStatement (introductions.Deffunc a)) (keyword_of-keyed keywords.Deffunc a.deffunc t _ m refl e) (deffunc_starts t a is)
starts (IntroductionStatement (introductions.Defpred a)) t m is e = at keywords.Defpred t (IntroductionStatement (introductions.Defpred a)) (keyword_of-keyed keywords.Defpred a.defpred t _ m refl e) (defpred_starts t a is)
starts (IntroductionStatement (introductions.Set a)) t m is e =
    let g : is_set t ≡ true = sym (ap is_set (head_of _ _ _ _ e)) ∙ set_own a.set in
    at keywords.Other t (IntroductionStatement (introductions.Set a)) (no_keyword t (λ h. mode_not_other (sym (set_sign t g) ∙ h))) (set_starts t a is g)

pub statement_filled : (x : StatementData) → IsStatement x → spell_statement x ≡ [] → ⊥
statement_filled (CompactStatement (Some p) c) is e = cc
statement_filled (CompactStatement None c) is e = compact_filled c e
statement_filled (NowStatement None a b c d) is e = cc
statement_filled (NowStatement (Some l) a b c d) is e = cc
statement_filled (IntroductionStatement (introductions.Consider a)) is e = consider_filled a.then (a.consider, (a.declarations, (a.such, (a.simple, a.semicolon)))) e
  where
    consider_filled : (o : Option Place) (k : consider_form.Tree) → spell_statement (linked_from o (consider_linked k)) ≡ [] → ⊥
    consider_filled (Some p) k f = cc
    consider_filled None k f = cc
statement_filled (IntroductionStatement (introductions.Reconsider a)) is e = reconsider_filled a.then (a.reconsider, (a.retyped, (a.as_, (a.ty, (a.simple, a.semicolon))))) e
  where
    reconsider_filled : (o : Option Place) (k : reconsider_form.Tree) → spell_statement (linked_from o (reconsider_linked k)) ≡ [] → ⊥
    reconsider_filled (Some p) k f = cc
    reconsider_filled None k f = cc
statement_filled (IntroductionStatement (introductions.Deffunc a)) is e = cc
statement_filled (IntroductionStatement (introductions.Defpred a)) is e = cc
statement_filled (IntroductionStatement (introductions.Set a)) is e = cc

-- from the next token
pub from_token : (b : List MarkedToken) (x : StatementData) (P : Type 0) → IsStatement x → Agrees b (spell_statement x) → ((t : MarkedToken) (rest m : List MarkedToken) → b ≡ t ∷ rest → spell_statement x ≡ t ∷ m → Starts (keyword_of t) t x → P) → P
from_token b x P is g continue = go b (spell_statement x) refl g continue
  where
    go : (b w : List MarkedToken) → spell_statement x ≡ w → Agrees b w → ((t : MarkedToken) (rest m : List MarkedToken) → b ≡ t ∷ rest → spell_statement x ≡ t ∷ m → Starts (keyword_of t) t x → P) → P
    go b [] e g next = absurd (statement_filled x is e)
    go [] (s ∷ w) e g next = absurd g
    go (t ∷ b) (s ∷ w) e g next = let f : spell_statement x ≡ t ∷ w = e ∙ ap (λ z. z ∷ w) g in next t b w refl f (starts x t w is f)

pub statement_at : (k : Keyword) (b : List MarkedToken) (x : StatementData) → KeyComes k b → IsStatement x → Agrees b (spell_statement x) → (t : MarkedToken) × Starts k t x
statement_at k b x h is g = from_token b x ((t : MarkedToken) × Starts k t x) is g (λ t rest m e f s. (t, let S : Keyword → Type 0 = λ z. Starts z t x in subst S (let K : List MarkedToken → Type 0 = λ z. KeyComes k z in subst K e h) s))

-- `then`
only_then : (p : Place) (x : StatementData) (m : List MarkedToken) → IsStatement x → spell_statement x ≡ key keywords.Then p ∷ m → (k : Linked) × IsLinked k × (x ≡ linked_from (Some p) k)
only_then p x m is e = go x (let S : Keyword → Type 0 = λ z. Starts z (key keywords.Then p) x in subst S (keyword_of-key keywords.Then p refl) (starts x (key keywords.Then p) m is e)) e
  where
    go : (x : StatementData) → Starts keywords.Then (key keywords.Then p) x → spell_statement x ≡ key keywords.Then p ∷ m → (k : Linked) × IsLinked k × (x ≡ linked_from (Some p) k)
    go x (then_starts t q k h) f =
        let same : q ≡ p = same_key keywords.Then refl q p (head_of (key keywords.Then q) (key keywords.Then p) (spell_linked k) m (sym (linked_spells (Some q) k) ∙ f)) in
        (k, h, ap (λ z. linked_from (Some z) k) same)

pub by_then : (p : Place) → Chooses statement_form (key keywords.Then p) linked_form (linked_from (Some p)) 0
by_then p = record {
  level = λ k is. linked_levels (Some p) k;
  into = λ k is. linked_into (Some p) k is;
  spells = λ k is. linked_spells (Some p) k;
  only = λ x m is e. only_then p x m is e;
  empty = λ x is e. absurd (statement_filled x is e);
  goes = λ k t is g. g;
}

pub begin_then : (room : ℕ) (p : Place) (b c : List MarkedToken) → TakesKey keywords.Then b (Some p) c → Leads statement_form linked_form room (linked_from (Some p)) b c
begin_then room p b c e = leads_by statement_form (key keywords.Then p) linked_form (linked_from (Some p)) 0 (by_then p) room (omega arith) b c e

pub then_refused : (room : ℕ) (p : Place) (b c after : List MarkedToken) (r : Refusal) → TakesKey keywords.Then b (Some p) c → Refuses linked_form room c r after → Refuses statement_form room b r after
then_refused room p b c after r e h = passes statement_form linked_form room (linked_from (Some p)) b c after r (begin_then room p b c e) h

pub then_found : (room : ℕ) (p : Place) (k : Linked) (b c after : List MarkedToken) → TakesKey keywords.Then b (Some p) c → Found linked_form room c k after → Found statement_form room b (linked_from (Some p) k) after
then_found room p k b c after e h = (begin_then room p b c e).finds k after h

-- Each other alternative by the next token.
only_deffunc : (b : List MarkedToken) (x : StatementData) → KeyComes keywords.Deffunc b → IsStatement x → Agrees b (spell_statement x) → (k : DeffuncTree) × IsDeffunc k × (x ≡ IntroductionStatement (introductions.Deffunc k))
only_deffunc b x h is g = let s = statement_at keywords.Deffunc b x h is g in go s.0 x s.1
  where
    go : (t : MarkedToken) (x : StatementData) → Starts keywords.Deffunc t x → (k : DeffuncTree) × IsDeffunc k × (x ≡ IntroductionStatement (introductions.Deffunc k))
    go t x (deffunc_starts u a i) = (a, i, refl)

pub as_deffunc : (b : List MarkedToken) → KeyComes keywords.Deffunc b → Reshapes statement_form deffunc_form (λ k. IntroductionStatement (introductions.Deffunc k)) b
as_deffunc b h = record {
  into = λ k is. is;
  spells = λ k is. refl;
  only = λ x is g. only_deffunc b x h is g;
  goes = λ k t is g. g;
  level = λ k is. refl;
}

only_defpred : (b : List MarkedToken) (x : StatementData) → KeyComes keywords.Defpred b → IsStatement x → Agrees b (spell_statement x) → (k : DefpredTree) × IsDefpred k × (x ≡ IntroductionStatement (introductions.Defpred k))
only_defpred b x h is g = let s = statement_at keywords.Defpred b x h is g in go s.0 x s.1
  where
    go : (t : MarkedToken) (x : StatementData) → Starts keywords.Defpred t x → (k : DefpredTree) × IsDefpred k × (x ≡ IntroductionStatement (introductions.Defpred k))
    go t x (defpred_starts u a i) = (a, i, refl)

pub as_defpred : (b : List MarkedToken) → KeyComes keywords.Defpred b → Reshapes statement_form defpred_form (λ k. IntroductionStatement (introductions.Defpred k)) b
as_defpred b h = record {
  into = λ k is. is;
  spells = λ k is. refl;
  only = λ x is g. only_defpred b x h is g;
  goes = λ k t is g. g;
  level = λ k is. refl;
}

only_now : (b : List MarkedToken) (x : StatementData) → KeyComes keywords.Now b → IsStatement x → Agrees b (spell_statement x) → (k : now_form.Tree) × now_form.IsTree k × (x ≡ now_from None k)
only_now b x h is g = let s = statement_at keywords.Now b x h is g in go s.0 x s.1
  where
    go : (t : MarkedToken) (x : StatementData) → Starts keywords.Now t x → (k : now_form.Tree) × now_form.IsTree k × (x ≡ now_from None k)
    go t x (now_starts u k i) = (k, i, refl)

pub as_now : (b : List MarkedToken) → KeyComes keywords.Now b → Reshapes statement_form now_form (now_from None) b
as_now b h = record {
  into = λ k is. is.0.1.0;
  spells = λ k is. now_spells k;
  only = λ x is g. only_now b x h is g;
  goes = λ k t is g. absurd ((ends_closed_block keywords.Now).closed k t is g);
  level = λ k is. now_levels k;
}

set_not_named : signs.Mode ≡ signs.Identifier → ⊥
set_not_named e = cc

only_set : (b : List MarkedToken) (x : StatementData) → comes is_set b ≡ true → IsStatement x → Agrees b (spell_statement x) → (k : SetTree) × IsSet k × (x ≡ IntroductionStatement (introductions.Set k))
only_set b x h is g = from_token b x ((k : SetTree) × IsSet k × (x ≡ IntroductionStatement (introductions.Set k))) is g
    (λ t rest m e f s. let own : is_set t ≡ true = let C : List MarkedToken → Type 0 = λ z. comes is_set z ≡ true in subst C e h in
    let S : Keyword → Type 0 = λ z. Starts z t x in
    go t x own (subst S (no_keyword t (λ i. mode_not_other (sym (set_sign t own) ∙ i))) s))
  where
    go : (t : MarkedToken) (x : StatementData) → is_set t ≡ true → Starts keywords.Other t x → (k : SetTree) × IsSet k × (x ≡ IntroductionStatement (introductions.Set k))
    go t x own (set_starts u a i f) = (a, i, refl)
    go t x own (label_starts u l k i f) = absurd (set_not_named (sym (set_sign t own) ∙ f))
    go t x own (compact_starts u c i f) = absurd (never (sym (ap begins_unit (set_sign t own)) ∙ f))

pub as_set : (b : List MarkedToken) → comes is_set b ≡ true → Reshapes statement_form set_statement_form (λ k. IntroductionStatement (introductions.Set k)) b
as_set b h = record {
  into = λ k is. is;
  spells = λ k is. refl;
  only = λ x is g. only_set b x h is g;
  goes = λ k t is g. g;
  level = λ k is. refl;
}

-- where one of the append-three words comes
pub set_left : (b : List MarkedToken) → comes begins_definition b ≡ true → (KeyComes keywords.Deffunc b → ⊥) → (KeyComes keywords.Defpred b → ⊥) → comes is_set b ≡ true
set_left [] h f p = absurd (never h)
set_left (t ∷ b) h f p = go (keyword_of t) refl
  where
    go : (k : Keyword) → keyword_of t ≡ k → is_set t ≡ true
    go k e = rest (defines k) refl
      where
        rest : (d : Bool) → defines k ≡ d → is_set t ≡ true
        rest true g = absurd (which k g e)
          where
            which : (k : Keyword) → defines k ≡ true → keyword_of t ≡ k → ⊥
            which keywords.Deffunc i j = f j
            which keywords.Defpred i j = p j
            which _ i j = cc
        rest false g = sym (ap (λ z. z || is_set t) (ap defines e ∙ g)) ∙ h

pub begin_deffunc : (room : ℕ) (b : List MarkedToken) → KeyComes keywords.Deffunc b → Leads statement_form deffunc_form room (λ k. IntroductionStatement (introductions.Deffunc k)) b b
begin_deffunc room b h = leads_as statement_form deffunc_form (λ k. IntroductionStatement (introductions.Deffunc k)) room b (as_deffunc b h)

pub begin_defpred : (room : ℕ) (b : List MarkedToken) → KeyComes keywords.Defpred b → Leads statement_form defpred_form room (λ k. IntroductionStatement (introductions.Defpred k)) b b
begin_defpred room b h = leads_as statement_form defpred_form (λ k. IntroductionStatement (introductions.Defpred k)) room b (as_defpred b h)

pub begin_set : (room : ℕ) (b : List MarkedToken) → comes is_set b ≡ true → Leads statement_form set_statement_form room (λ k. IntroductionStatement (introductions.Set k)) b b
begin_set room b h = leads_as statement_form set_statement_form (λ k. IntroductionStatement (introductions.Set k)) room b (as_set b h)
