-- The readings of splits into cases.
use Rattle.std.specs.Prelude.{codes}
use Rattle.std.proofs.Common.{◌≡◌, ℕ, ◌+◌, ◌<◌, arith, length, length-append, Bool, true, List, [], ◌∷◌, ◌++◌, refl, sym, ap, subst, ◌∙◌, append_assoc, Option}
use Rattle.mz_base.specs.declared.place.Place.{Place}
use Rattle.mz_base.specs.declared.token.MarkedToken.{MarkedToken}
use Rattle.mz_forms.specs.declared.refusal.Refusal.{Refusal}
use Rattle.mz_forms.specs.Form.{Form, Found, Leads, then}
use Rattle.mz_forms.specs.Reading.{Refuses, Builds}
use Rattle.mz_forms.specs.Repeat.{spell_all, levels_all, AreAll}
use Rattle.mz_forms.proofs.Compose.{Apart}
use Rattle.mz_forms.proofs.Leads.{leads_on, leads_behind, beside, passes, first_refuses, apart_closed}
use Rattle.mz_forms.proofs.Lists.{Begun, Repeats, Listing, listing_none, listing_step, listing_end, go_on, member_refused, no_more}
use Rattle.mz_tree.specs.Spelled.{reserved_if}
use Rattle.mz_tree.specs.Levels.{levels_if}
use Rattle.mz_tree_proof.specs.declared.references.SimpleTree.TheVariants as simple_tree
use Rattle.mz_tree_proof.specs.declared.skeleton.SplitTree.{SplitTree}
use Rattle.mz_tree_proof.specs.Spell.{spell_simple, spell_hypotheses}
use Rattle.mz_tree_proof.specs.Levels.{levels_simple}
use Rattle.mz_tree_proof.specs.Reasoning.{SupposeData, SupposeList, CaseSuppose, CasesStep, no_supposes, more_supposes, supposes_of, suppose_list}
use Rattle.mz_tree_proof.specs.SpellReasoning.{spell_step, spell_suppose, spell_suppose_list}
use Rattle.mz_tree_proof.specs.LevelsReasoning.{levels_step, levels_suppose, levels_suppose_list}
use Rattle.mz_tree_proof.specs.RulesReasoning.{IsStep, AreSupposes}
use Rattle.mz_pterm.specs.declared.sign.Sign.{Sign}
use Rattle.mz_ptype.proofs.Optional.{never}
use Rattle.mz_pjustification.specs.declared.keyword.Keyword.{Keyword}
use Rattle.mz_pjustification.specs.declared.keyword.Keyword.TheVariants as keywords
use Rattle.mz_pjustification.specs.Keyword.{keyword_of}
use Rattle.mz_pjustification.specs.Words.{key, keyword, tokens_of}
use Rattle.mz_pjustification.specs.Forms.{simple_form}
use Rattle.mz_pjustification.proofs.Keywords.{told_key}
use Rattle.mz_pjustification.proofs.Taken.{nowhere, key_among, among_at}
use Rattle.mz_pstep.specs.Forms.{split_form, split_from}
use Rattle.mz_pstep.proofs.Ends.{Ends, ends_then, ends_key}
use Rattle.mz_pstep.proofs.StepSequences as sequences
use Rattle.mz_pproof.specs.Classes.{is_suppose_key, KeyComes}
use Rattle.mz_pproof.specs.Forms.{suppose_form, supposes_form, cases_form, cases_from}
use Rattle.mz_pproof.proofs.FirstTokens.{key_told}
use Rattle.mz_pproof.proofs.Blocks.{some_hypotheses, some_suppose, some_suppose_is}

-- Any number of cases.
abbrev begins_suppose : Sign → Keyword → Bool
begins_suppose s k = is_suppose_key k

suppose_is : (k : Keyword) → is_suppose_key k ≡ true → k ≡ keywords.Suppose
suppose_is keywords.Suppose e = refl
suppose_is _ e = cc

pub suppose_filled : (x : SupposeData) → spell_suppose x ≡ [] → ⊥
suppose_filled (CaseSuppose a b c d e f) g = cc

suppose_first : (x : SupposeData) (t : MarkedToken) (m : List MarkedToken) → spell_suppose x ≡ t ∷ m → tokens_of begins_suppose t ≡ true
suppose_first (CaseSuppose a b c d e f) t m g = among_at begins_suppose (key keywords.Suppose a) t _ m g (key_among begins_suppose keywords.Suppose a refl)

pub repeats_suppose : Repeats suppose_form (tokens_of begins_suppose) (tokens_of begins_suppose)
repeats_suppose = record {
  filled = λ x is e. suppose_filled x e;
  first = λ x t m is e. suppose_first x t m e;
  weaker = λ x t is g. absurd (never g);
  on = λ t g. g;
  apart = λ x t is h g. never g;
}

abbrev behind_word_suppose : List MarkedToken
behind_word_suppose = (spell_hypotheses some_hypotheses ++ key keywords.Semicolon nowhere ∷ []) ++ (key keywords.End nowhere ∷ (key keywords.Semicolon nowhere ∷ []))

begun_suppose : (t : MarkedToken) → keyword_of t ≡ keywords.Suppose → Begun suppose_form t
begun_suppose t h = (some_suppose t.token.place, behind_word_suppose, some_suppose_is t.token.place, ap (λ z. z ∷ behind_word_suppose) (sym (told_key keywords.Suppose t refl h)))

abbrev pub SupposesSoFar : ℕ → List SupposeData → List MarkedToken → List MarkedToken → Type 0
SupposesSoFar room xs b c = Listing suppose_form (tokens_of begins_suppose) (tokens_of begins_suppose) repeats_suppose room [] xs b c

pub supposes_none : (room : ℕ) (xs : List SupposeData) (b : List MarkedToken) → xs ≡ [] → SupposesSoFar room xs b b
supposes_none room xs b e = let F : List SupposeData → Type 0 = λ z. SupposesSoFar room z b b in subst F (sym e) (listing_none suppose_form (tokens_of begins_suppose) (tokens_of begins_suppose) repeats_suppose room [] b)

pub supposes_step : (room : ℕ) (v w : List SupposeData) (x : SupposeData) (b c d : List MarkedToken) → SupposesSoFar room v b c → KeyComes keywords.Suppose c → Found suppose_form room c x d → w ≡ v ++ x ∷ [] → SupposesSoFar room w b d
supposes_step room v w x b c d so_far h found grown =
    let k = key_told keywords.Suppose c refl h in
    listing_step suppose_form (tokens_of begins_suppose) (tokens_of begins_suppose) repeats_suppose room [] v w x b c d so_far grown
    (go_on suppose_form (tokens_of begins_suppose) (tokens_of begins_suppose) repeats_suppose room k.0 c k.1 d x (ap is_suppose_key k.3) (begun_suppose k.0 k.3) k.2 found)

pub suppose_refused : (room : ℕ) (v : List SupposeData) (b c after : List MarkedToken) (r : Refusal) → SupposesSoFar room v b c → KeyComes keywords.Suppose c → Refuses suppose_form room c r after → Refuses supposes_form room b r after
suppose_refused room v b c after r so_far h refused =
    let k = key_told keywords.Suppose c refl h in
    passes supposes_form supposes_form room (λ xs. so_far.taken ++ xs) b c after r so_far.leads
    (member_refused suppose_form (tokens_of begins_suppose) (tokens_of begins_suppose) repeats_suppose room k.0 c k.1 after r (ap is_suppose_key k.3) (begun_suppose k.0 k.3) k.2 refused)

abbrev stops : List MarkedToken → Type 0
stops [] = Unit {0}
stops (t ∷ rest) = tokens_of begins_suppose t ≡ true → ⊥

pub supposes_end : (room : ℕ) (v : List SupposeData) (b c : List MarkedToken) → SupposesSoFar room v b c → (KeyComes keywords.Suppose c → ⊥) → Found supposes_form room b v c
supposes_end room v b c so_far none =
    let V : List SupposeData → Type 0 = λ z. Found supposes_form room b z c in
    let k = listing_end suppose_form (tokens_of begins_suppose) (tokens_of begins_suppose) repeats_suppose room [] v b c c so_far
    (no_more suppose_form (tokens_of begins_suppose) (tokens_of begins_suppose) repeats_suppose room c (go c none)) in
    subst V (sym k.2) k.1
  where
    go : (z : List MarkedToken) → (KeyComes keywords.Suppose z → ⊥) → stops z
    go [] h = tt
    go (t ∷ z) h = λ g. h (suppose_is (keyword_of t) g)

pub shorter_suppose : (room : ℕ) (x : SupposeData) (c d : List MarkedToken) → Found suppose_form room c x d → length d < length c
shorter_suppose room x c d h = go (spell_suppose x) refl
  where
    go : (w : List MarkedToken) → spell_suppose x ≡ w → length d < length c
    go [] e = absurd (suppose_filled x e)
    go (t ∷ w) e =
        let f : length c ≡ length (spell_suppose x ++ d) = ap length h.found.split in
        let g : length (spell_suppose x ++ d) ≡ length (spell_suppose x) + length d = length-append (spell_suppose x) d in
        let i : length (spell_suppose x) ≡ length (t ∷ w) = ap length e in
        omega (arith, f, g, i)

-- A split with its cases.
abbrev pub behind_split : Form MarkedToken
behind_split = then suppose_form (λ _. supposes_form)

pub ends_split : Ends split_form
ends_split = ends_then (keyword keywords.Per) (λ _. sequences.split_2) (λ _. ends_then (keyword keywords.Cases) (λ _. sequences.split_3) (λ _. ends_then simple_form (λ _. sequences.split_4) (λ _. ends_key keywords.Semicolon)))

pub split_apart : Apart split_form (λ _. behind_split)
split_apart a k s x isa isk e g = ends_split.closed a s isa g

pub suppose_apart : Apart suppose_form (λ _. supposes_form)
suppose_apart = apart_closed suppose_form (λ _. supposes_form) (λ a t. refl)

pub split_refused : (room : ℕ) (b after : List MarkedToken) (e : Refusal) → Refuses split_form room b e after → Refuses cases_form room b e after
split_refused room b after e h = first_refuses split_form (λ _. behind_split) split_apart room b after e (λ a is. ((some_suppose nowhere, []), (some_suppose_is nowhere, tt))) h

module _ (room : ℕ) (o : Option Place) (x1 : SplitTree) (b c : List MarkedToken) (h : Builds split_form room (split_from o) x1 b c) where
  cases_at_1 : Leads cases_form behind_split room (beside split_form (λ _. behind_split) h.0) b c
  cases_at_1 = leads_behind split_form (λ _. behind_split) split_apart room b c h.0 h.1

  pub first_suppose_refused : (after : List MarkedToken) (e : Refusal) → Refuses suppose_form room c e after → Refuses cases_form room b e after
  first_suppose_refused after e g = passes cases_form behind_split room (beside split_form (λ _. behind_split) h.0) b c after e cases_at_1 (first_refuses suppose_form (λ _. supposes_form) suppose_apart room c after e (λ a is. ([], tt)) g)

  module _ (x2 : SupposeData) (d : List MarkedToken) (g : Found suppose_form room c x2 d) where
    cases_at_2 : Leads cases_form supposes_form room (λ k. (h.0, (x2, k))) b d
    cases_at_2 = leads_on cases_form behind_split supposes_form room (beside split_form (λ _. behind_split) h.0) (beside suppose_form (λ _. supposes_form) x2) b c d cases_at_1 (leads_behind suppose_form (λ _. supposes_form) suppose_apart room c d x2 g)

    pub supposes_refused : (after : List MarkedToken) (e : Refusal) → Refuses supposes_form room d e after → Refuses cases_form room b e after
    supposes_refused after e k = passes cases_form supposes_form room (λ k. (h.0, (x2, k))) b d after e cases_at_2 k

    pub cases_given : (x3 : List SupposeData) (after : List MarkedToken) → Found supposes_form room d x3 after → Builds cases_form room (cases_from o) (CasesStep x1 x2 (supposes_of x3)) b after
    cases_given x3 after k = ((h.0, (x2, x3)), cases_at_2.finds x3 after k, ap (λ z. CasesStep z x2 (supposes_of x3)) h.2)

-- Trees of splits, with the `then` before them.
supposes_spelled : (xs : List SupposeData) → spell_suppose_list (supposes_of xs) ≡ spell_all suppose_form xs
supposes_spelled [] = refl
supposes_spelled (x ∷ xs) = ap (λ z. spell_suppose x ++ z) (supposes_spelled xs)

supposes_levels : (xs : List SupposeData) → levels_suppose_list (supposes_of xs) ≡ levels_all suppose_form xs
supposes_levels [] = refl
supposes_levels (x ∷ xs) = ap (λ z. levels_suppose x ++ z) (supposes_levels xs)

supposes_into : (xs : List SupposeData) → AreAll suppose_form xs → AreSupposes (supposes_of xs)
supposes_into [] h = tt
supposes_into (x ∷ xs) h = (h.0, supposes_into xs h.1)

supposes_from : (xs : SupposeList) → AreSupposes xs → AreAll suppose_form (suppose_list xs)
supposes_from no_supposes h = tt
supposes_from (more_supposes x xs) h = (h.0, supposes_from xs h.1)

supposes_same : (xs : SupposeList) → supposes_of (suppose_list xs) ≡ xs
supposes_same no_supposes = refl
supposes_same (more_supposes x xs) = ap (λ z. more_supposes x z) (supposes_same xs)

append-joined : {X : Type 0} (r p q v w x : List X) → w ≡ x → (((r ++ p) ++ q) ++ v) ++ w ≡ r ++ ((p ++ q) ++ (v ++ x))
append-joined r p q v w x e =
    ap (λ z. (z ++ v) ++ w) (append_assoc r p q) ∙ (append_assoc (r ++ (p ++ q)) v w ∙ (append_assoc r (p ++ q) (v ++ w) ∙ ap (λ z. r ++ ((p ++ q) ++ (v ++ z))) e))

pub cases_spells : (o : Option Place) (k : cases_form.Tree) → spell_step (cases_from o k) ≡ reserved_if o (codes "then") ++ cases_form.spell k
cases_spells o k = append-joined (reserved_if o (codes "then")) (key keywords.Per k.0.0 ∷ (key keywords.Cases k.0.1.0 ∷ spell_simple k.0.1.1.0)) (key keywords.Semicolon k.0.1.1.1 ∷ []) (spell_suppose k.1.0) (spell_suppose_list (supposes_of k.1.1)) (spell_all suppose_form k.1.1) (supposes_spelled k.1.1)

pub cases_levels : (o : Option Place) (k : cases_form.Tree) → levels_step (cases_from o k) ≡ levels_if o ++ cases_form.levels k
cases_levels o k = append-joined (levels_if o) (0 ∷ (0 ∷ levels_simple k.0.1.1.0)) (0 ∷ []) (levels_suppose k.1.0) (levels_suppose_list (supposes_of k.1.1)) (levels_all suppose_form k.1.1) (supposes_levels k.1.1)

pub cases_into : (o : Option Place) (k : cases_form.Tree) → cases_form.IsTree k → IsStep (cases_from o k)
cases_into o k is = (is.0.1.1.0, is.1.0, supposes_into k.1.1 is.1.1)

-- each split is one of these
pub record Split (a : SplitTree) (b : SupposeData) (c : SupposeList) : Type 0 where
  pub tree : cases_form.Tree
  pub is : cases_form.IsTree tree
  pub same : CasesStep a b c ≡ cases_from a.then tree

pub split_of : (a : SplitTree) (b : SupposeData) (c : SupposeList) → IsStep (CasesStep a b c) → Split a b c
split_of a b c is = record {
  tree = ((a.per, (a.cases, (a.simple, a.semicolon))), (b, suppose_list c));
  is = ((tt, (tt, (is.0, tt))), (is.1, supposes_from c is.2));
  same = ap (λ z. CasesStep a b z) (sym (supposes_same c));
}

abbrev pub some_cases : Place → cases_form.Tree
some_cases p = ((p, (nowhere, (simple_tree.Nothing, nowhere))), (some_suppose nowhere, []))

pub some_cases_are : (p : Place) → cases_form.IsTree (some_cases p)
some_cases_are p = ((tt, (tt, (tt, tt))), (some_suppose_is nowhere, tt))
