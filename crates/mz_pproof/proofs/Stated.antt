-- The readings of justifications, and of what stands behind a proposition.
use Rattle.std.specs.List.{flat_map}
use Rattle.std.proofs.Common.{◌≡◌, ℕ, ◌+◌, ◌<◌, arith, length, length-append, Bool, true, false, List, [], ◌∷◌, ◌++◌, refl, sym, ap, subst, ◌∙◌, append_assoc, ◌≤◌, Option, Some, None, Result, Box}
use Rattle.std.proofs.lemmas.Bool.{or_left, or_right}
use Rattle.std.specs.declared.alloc.Global.{Global}
use Rattle.mz_base.specs.declared.place.Place.{Place}
use Rattle.mz_base.specs.declared.token.MarkedToken.{MarkedToken}
use Rattle.mz_forms.specs.declared.refusal.Refusal.{Refusal}
use Rattle.mz_forms.specs.Form.{Form, Agrees, Found, Leads, then}
use Rattle.mz_forms.specs.Reading.{Refuses, Reads, Builds}
use Rattle.mz_forms.specs.Repeat.{spell_all, levels_all, AreAll}
use Rattle.mz_forms.proofs.Choose.{Reshapes, Turns, finds_empty}
use Rattle.mz_forms.proofs.Compose.{Apart, head_of}
use Rattle.mz_forms.proofs.Leads.{leads_as, leads_turn, leads_behind, leads_on, beside, passes, first_refuses, gives_through}
use Rattle.mz_forms.proofs.Lists.{Begun, Repeats, Listing, listing_none, listing_step, listing_end, go_on, member_refused, no_more}
use Rattle.mz_forms.proofs.Words.{word_in_any, word_refuses}
use Rattle.mz_tree.specs.Trees.{FormulaData}
use Rattle.mz_tree.specs.Spell.{spell_term}
use Rattle.mz_tree.specs.Rules.{IsFormula, Every}
use Rattle.mz_tree_proof.specs.declared.references.LabelTree.{LabelTree}
use Rattle.mz_tree_proof.specs.declared.references.SimpleTree.{SimpleTree}
use Rattle.mz_tree_proof.specs.declared.references.SimpleTree.TheVariants as simple_tree
use Rattle.mz_tree_proof.specs.declared.propositions.PropositionTree.{PropositionTree}
use Rattle.mz_tree_proof.specs.declared.equality_step.EqualityStepTree.{EqualityStepTree}
use Rattle.mz_tree_proof.specs.Spell.{spell_proposition, spell_equality_step}
use Rattle.mz_tree_proof.specs.Levels.{levels_proposition, levels_equality_step}
use Rattle.mz_tree_proof.specs.Rules.{IsEqualityStep}
use Rattle.mz_tree_proof.specs.Reasoning.{JustData, CompactData, SimpleJust, ProofJust, StatedCompact, no_steps}
use Rattle.mz_tree_proof.specs.SpellReasoning.{spell_just, spell_compact}
use Rattle.mz_tree_proof.specs.LevelsReasoning.{levels_just}
use Rattle.mz_tree_proof.specs.RulesReasoning.{is_plain_equation, is_simple, IsJust, IsCompact, MayContinue}
use Rattle.mz_pterm.specs.declared.sign.Sign.{Sign}
use Rattle.mz_pterm.specs.declared.sign.Sign.TheVariants as signs
use Rattle.mz_pterm.specs.Sign.{sign_of}
use Rattle.mz_pterm.proofs.Bases.{term_at}
use Rattle.mz_ptype.proofs.Optional.{never}
use Rattle.mz_pformula.specs.Classes.{begins_unit}
use Rattle.mz_pjustification.specs.declared.keyword.Keyword.{Keyword}
use Rattle.mz_pjustification.specs.declared.keyword.Keyword.TheVariants as keywords
use Rattle.mz_pjustification.specs.Keyword.{keyword_of}
use Rattle.mz_pjustification.specs.Words.{is_key, key, keyword, tokens_of}
use Rattle.mz_pjustification.specs.Forms.{goes_on_simple, simple_form}
use Rattle.mz_pjustification.proofs.Keywords.{told_key, keyword_of-key}
use Rattle.mz_pjustification.proofs.Taken.{nowhere, key_among, among_at}
use Rattle.mz_pproposition.specs.Forms.{goes_on_proposition, proposition_form}
use Rattle.mz_pproposition.proofs.PropositionSteps.{both_true}
use Rattle.mz_pproposition.proofs.Formulas.{formula_filled}
use Rattle.mz_pstep.specs.Forms.{equality_step_form, goes_on_equality}
use Rattle.mz_pstep.proofs.Ends.{Ends, ends_then, ends_key, before_key, key_off}
use Rattle.mz_pproof.specs.Classes.{is_proof_key, is_link_key, KeyComes}
use Rattle.mz_pproof.specs.Forms.{block_form, goes_on_just, just_form, goes_on_continued, equality_steps_form, MayStand, continued_form, may_continue, stated_form, Stated, compact_with, compact_form, same_continued, compact_in, ReadsStated}
use Rattle.mz_pproof.proofs.FirstTokens.{key_told, key_not, proposition_begins}
use Rattle.mz_pproof.proofs.Blocks.{ends_block}

-- `proof`
abbrev pub make_proof : (block_form keywords.Proof).Tree → JustData
make_proof k = ProofJust k.0 k.1.0 k.1.1

clash_at : (a b : Keyword) (p q : Place) (v w : List MarkedToken) → is_key a ≡ true → is_key b ≡ true → key a p ∷ v ≡ key b q ∷ w → a ≡ b
clash_at a b p q v w f g e = sym (keyword_of-key a p f) ∙ (ap keyword_of (head_of _ _ _ _ e) ∙ keyword_of-key b q g)

only_proof : (p : Place) (x : JustData) (m : List MarkedToken) → IsJust x → spell_just x ≡ key keywords.Proof p ∷ m → (k : (block_form keywords.Proof).Tree) × (block_form keywords.Proof).IsTree k × (x ≡ make_proof k)
only_proof p (SimpleJust simple_tree.Nothing) m is e = cc
only_proof p (SimpleJust (simple_tree.By q s)) m is e = absurd (clash (clash_at keywords.By keywords.Proof q p _ m refl refl e))
  where
    clash : keywords.By ≡ keywords.Proof → ⊥
    clash g = cc
only_proof p (SimpleJust (simple_tree.From q s o)) m is e = absurd (clash (clash_at keywords.From keywords.Proof q p _ m refl refl e))
  where
    clash : keywords.From ≡ keywords.Proof → ⊥
    clash g = cc
only_proof p (ProofJust a b c) m is e = ((a, (b, c)), (tt, (is, tt)), refl)

pub turn_proof : (p : Place) → Turns just_form (block_form keywords.Proof) make_proof (key keywords.Proof p)
turn_proof p = record {
  into = λ k is. is.1.0;
  spells = λ k is. refl;
  only = λ x m is e. only_proof p x m is e;
  empty = λ x is e. key_among goes_on_just keywords.Proof p refl;
  filled = λ k is e. cc;
  goes = λ k t is g. absurd ((ends_block keywords.Proof).closed k t is g);
  level = λ k is. refl;
  begins = ((p, (no_steps, nowhere)), key keywords.End nowhere ∷ [], (tt, (tt, tt)), refl);
}

begin_proof : (room : ℕ) (b : List MarkedToken) → KeyComes keywords.Proof b → Leads just_form (block_form keywords.Proof) room make_proof b b
begin_proof room b h =
    let k = key_told keywords.Proof b refl h in
    leads_turn just_form (block_form keywords.Proof) make_proof (key keywords.Proof k.0.token.place) (turn_proof k.0.token.place) room b k.1 (k.2 ∙ ap (λ z. z ∷ k.1) (told_key keywords.Proof k.0 refl k.3))

pub proof_refused : (room : ℕ) (b after : List MarkedToken) (e : Refusal) → KeyComes keywords.Proof b → Refuses (block_form keywords.Proof) room b e after → Refuses just_form room b e after
proof_refused room b after e h g = passes just_form (block_form keywords.Proof) room make_proof b b after e (begin_proof room b h) g

pub proof_found : (room : ℕ) (k : (block_form keywords.Proof).Tree) (b after : List MarkedToken) → KeyComes keywords.Proof b → Found (block_form keywords.Proof) room b k after → Found just_form room b (make_proof k) after
proof_found room k b after h g = (begin_proof room b h).finds k after g

-- A justification without one.
only_simple : (b : List MarkedToken) → (KeyComes keywords.Proof b → ⊥) → (x : JustData) → IsJust x → Agrees b (spell_just x) → (k : SimpleTree) × simple_form.IsTree k × (x ≡ SimpleJust k)
only_simple b h (SimpleJust a) is g = (a, is, refl)
only_simple b h (ProofJust p s q) is g = absurd (key_not keywords.Proof b (key keywords.Proof p) _ h (keyword_of-key keywords.Proof p refl) g)

pub as_simple : (b : List MarkedToken) → (KeyComes keywords.Proof b → ⊥) → Reshapes just_form simple_form (λ k. SimpleJust k) b
as_simple b h = record {
  into = λ k is. is;
  spells = λ k is. refl;
  only = λ x is g. only_simple b h x is g;
  goes = λ k t is g. or_left (tokens_of goes_on_simple t) (is_proof_key (keyword_of t)) g;
  level = λ k is. refl;
}

pub simple_refused : (room : ℕ) (b after : List MarkedToken) (e : Refusal) → (KeyComes keywords.Proof b → ⊥) → Refuses simple_form room b e after → Refuses just_form room b e after
simple_refused room b after e h g = passes just_form simple_form room (λ k. SimpleJust k) b b after e (leads_as just_form simple_form (λ k. SimpleJust k) room b (as_simple b h)) g

pub simple_found : (room : ℕ) (k : SimpleTree) (b after : List MarkedToken) → (KeyComes keywords.Proof b → ⊥) → Found simple_form room b k after → Found just_form room b (SimpleJust k) after
simple_found room k b after h g = (leads_as just_form simple_form (λ k. SimpleJust k) room b (as_simple b h)).finds k after g

-- Further sides of an iterative equality.
abbrev begins_link : Sign → Keyword → Bool
begins_link s k = is_link_key k

link_is : (k : Keyword) → is_link_key k ≡ true → k ≡ keywords.Link
link_is keywords.Link e = refl
link_is _ e = cc

link_off : (t : MarkedToken) → tokens_of begins_link t ≡ true → tokens_of goes_on_equality t ≡ true → ⊥
link_off t h g =
    let C : MarkedToken → Type 0 = λ z. tokens_of goes_on_equality z ≡ true in
    never (sym (key_among goes_on_equality keywords.Link t.token.place refl) ∙ subst C (told_key keywords.Link t refl (link_is (keyword_of t) h)) g)

pub repeats_equality : Repeats equality_step_form (tokens_of begins_link) (tokens_of goes_on_continued)
repeats_equality = record {
  filled = λ x is e. cc;
  first = λ x t m is e. among_at begins_link (key keywords.Link x.sign) t _ m e (key_among begins_link keywords.Link x.sign refl);
  weaker = λ x t is g. or_left (tokens_of goes_on_equality t) (is_link_key (keyword_of t)) g;
  on = λ t g. or_right (tokens_of goes_on_equality t) (is_link_key (keyword_of t)) g;
  apart = λ x t is h g. link_off t h g;
}

begun_equality : (t : MarkedToken) → keyword_of t ≡ keywords.Link → Begun equality_step_form t
begun_equality t h = (record { sign = t.token.place; term = term_at nowhere; simple = simple_tree.Nothing }, spell_term (term_at nowhere) ++ [], ((tt, tt), tt), ap (λ z. z ∷ (spell_term (term_at nowhere) ++ [])) (sym (told_key keywords.Link t refl h)))

abbrev pub EqualitiesSoFar : ℕ → List EqualityStepTree → List MarkedToken → List MarkedToken → Type 0
EqualitiesSoFar room xs b c = Listing equality_step_form (tokens_of begins_link) (tokens_of goes_on_continued) repeats_equality room [] xs b c

pub equalities_none : (room : ℕ) (xs : List EqualityStepTree) (b : List MarkedToken) → xs ≡ [] → EqualitiesSoFar room xs b b
equalities_none room xs b e = let F : List EqualityStepTree → Type 0 = λ z. EqualitiesSoFar room z b b in subst F (sym e) (listing_none equality_step_form (tokens_of begins_link) (tokens_of goes_on_continued) repeats_equality room [] b)

pub equalities_step : (room : ℕ) (v w : List EqualityStepTree) (x : EqualityStepTree) (b c d : List MarkedToken) → EqualitiesSoFar room v b c → KeyComes keywords.Link c → Found equality_step_form room c x d → w ≡ v ++ x ∷ [] → EqualitiesSoFar room w b d
equalities_step room v w x b c d so_far h found grown =
    let k = key_told keywords.Link c refl h in
    listing_step equality_step_form (tokens_of begins_link) (tokens_of goes_on_continued) repeats_equality room [] v w x b c d so_far grown
    (go_on equality_step_form (tokens_of begins_link) (tokens_of goes_on_continued) repeats_equality room k.0 c k.1 d x (ap is_link_key k.3) (begun_equality k.0 k.3) k.2 found)

pub equality_refused : (room : ℕ) (v : List EqualityStepTree) (b c after : List MarkedToken) (r : Refusal) → EqualitiesSoFar room v b c → KeyComes keywords.Link c → Refuses equality_step_form room c r after → Refuses equality_steps_form room b r after
equality_refused room v b c after r so_far h refused =
    let k = key_told keywords.Link c refl h in
    passes equality_steps_form equality_steps_form room (λ xs. so_far.taken ++ xs) b c after r so_far.leads
    (member_refused equality_step_form (tokens_of begins_link) (tokens_of goes_on_continued) repeats_equality room k.0 c k.1 after r (ap is_link_key k.3) (begun_equality k.0 k.3) k.2 refused)

abbrev stops : List MarkedToken → Type 0
stops [] = Unit {0}
stops (t ∷ rest) = tokens_of begins_link t ≡ true → ⊥

pub equalities_end : (room : ℕ) (v : List EqualityStepTree) (b c : List MarkedToken) → EqualitiesSoFar room v b c → (KeyComes keywords.Link c → ⊥) → Found equality_steps_form room b v c
equalities_end room v b c so_far none =
    let V : List EqualityStepTree → Type 0 = λ z. Found equality_steps_form room b z c in
    let k = listing_end equality_step_form (tokens_of begins_link) (tokens_of goes_on_continued) repeats_equality room [] v b c c so_far
    (no_more equality_step_form (tokens_of begins_link) (tokens_of goes_on_continued) repeats_equality room c (go c none)) in
    subst V (sym k.2) k.1
  where
    go : (z : List MarkedToken) → (KeyComes keywords.Link z → ⊥) → stops z
    go [] h = tt
    go (t ∷ z) h = λ g. h (link_is (keyword_of t) g)

pub shorter_equality : (room : ℕ) (x : EqualityStepTree) (c d : List MarkedToken) → Found equality_step_form room c x d → length d < length c
shorter_equality room x c d h =
    let g : length c ≡ length (spell_equality_step x ++ d) = ap length h.found.split in
    let i : length (spell_equality_step x ++ d) ≡ length (spell_equality_step x) + length d = length-append (spell_equality_step x) d in
    let j : 1 ≤ length (spell_equality_step x) = omega arith in
    omega (arith, g, i, j)

-- They may stand, or not.
pub as_equalities : (b : List MarkedToken) → Reshapes (continued_form true) equality_steps_form same_continued b
as_equalities b = record {
  into = λ k is. (is, stands k);
  spells = λ k is. refl;
  only = λ x is g. (x, is.0, refl);
  goes = λ k t is g. g;
  level = λ k is. refl;
}
  where
    stands : (cs : List EqualityStepTree) → MayStand true cs
    stands [] = tt
    stands (c ∷ cs) = refl

pub may_found : (may : Bool) (room : ℕ) (x : List EqualityStepTree) (b after : List MarkedToken) → may ≡ true → Found equality_steps_form room b x after → Found (continued_form may) room b x after
may_found may room x b after e h = let F : Bool → Type 0 = λ z. Found (continued_form z) room b x after in subst F (sym e) ((leads_as (continued_form true) equality_steps_form same_continued room b (as_equalities b)).finds x after h)

pub may_given : (may : Bool) (room : ℕ) (b after : List MarkedToken) (res : Result (List EqualityStepTree) Refusal) → may ≡ true → Reads equality_steps_form room same_continued b res after → Reads (continued_form may) room same_continued b res after
may_given may room b after res e h =
    let F : Bool → Type 0 = λ z. Reads (continued_form z) room same_continued b res after in
    subst F (sym e) (gives_through (continued_form true) equality_steps_form room (λ x. Found (continued_form true) room b x after) (λ x. Found equality_steps_form room b x after) same_continued b b after res
    (λ x k. (leads_as (continued_form true) equality_steps_form same_continued room b (as_equalities b)).finds x after k) (leads_as (continued_form true) equality_steps_form same_continued room b (as_equalities b)) h)

pub nothing_continued : (may : Bool) (room : ℕ) (xs : List EqualityStepTree) (b : List MarkedToken) → may ≡ false → xs ≡ [] → Found (continued_form may) room b xs b
nothing_continued may room xs b e f =
    let F : Bool → Type 0 = λ z. Found (continued_form z) room b xs b in
    let X : List EqualityStepTree → Type 0 = λ z. Found (continued_form false) room b z b in
    subst F (sym e) (subst X (sym f) (record { found = finds_empty (continued_form false) [] b (tt, tt) refl (λ x is g. none x is.1); fits = λ i l. absurd (omega (arith, l)) }))
  where
    none : (x : List EqualityStepTree) → MayStand false x → x ≡ []
    none [] h = refl
    none (y ∷ ys) h = absurd (never h)

-- What stands behind a formula.
abbrev pub to_semicolon : FormulaData → JustData → Form MarkedToken
to_semicolon f j = then (continued_form (may_continue f j)) (λ _. keyword keywords.Semicolon)

at_key : (c : Sign → Keyword → Bool) (k : Keyword) (p : Place) (w x : List MarkedToken) (s : MarkedToken) → is_key k ≡ true → c signs.Other k ≡ false → key k p ∷ w ≡ s ∷ x → tokens_of c s ≡ true → ⊥
at_key c k p w x s is h e g = let C : MarkedToken → Type 0 = λ z. tokens_of c z ≡ true in key_off c k p is h (subst C (sym (head_of _ _ _ _ e)) g)

-- a set that has none of the tokens that may come next
continued_off : (c : Sign → Keyword → Bool) → c signs.Other keywords.Link ≡ false → c signs.Other keywords.Semicolon ≡ false → (cs : List EqualityStepTree) (q : Place) (s : MarkedToken) (x : List MarkedToken) → spell_all equality_step_form cs ++ key keywords.Semicolon q ∷ [] ≡ s ∷ x → tokens_of c s ≡ true → ⊥
continued_off c link end [] q s x e g = at_key c keywords.Semicolon q [] x s refl end e g
continued_off c link end (y ∷ ys) q s x e g = at_key c keywords.Link y.sign _ x s refl link e g

pub stated_off : (f : FormulaData) (c : Sign → Keyword → Bool) → c signs.Other keywords.By ≡ false → c signs.Other keywords.From ≡ false → c signs.Other keywords.Proof ≡ false → c signs.Other keywords.Link ≡ false → c signs.Other keywords.Semicolon ≡ false →
    (j : JustData) (cs : List EqualityStepTree) (q : Place) (s : MarkedToken) (x : List MarkedToken) → (stated_form f).spell (j, (cs, q)) ≡ s ∷ x → tokens_of c s ≡ true → ⊥
stated_off f c by from_ proof link end (SimpleJust simple_tree.Nothing) cs q s x e g = continued_off c link end cs q s x e g
stated_off f c by from_ proof link end (SimpleJust (simple_tree.By p rs)) cs q s x e g = at_key c keywords.By p _ x s refl by e g
stated_off f c by from_ proof link end (SimpleJust (simple_tree.From p r o)) cs q s x e g = at_key c keywords.From p _ x s refl from_ e g
stated_off f c by from_ proof link end (ProofJust p b r) cs q s x e g = at_key c keywords.Proof p _ x s refl proof e g

last_token : (v : List MarkedToken) (t : MarkedToken) → v ++ t ∷ [] ≡ [] → ⊥
last_token [] t e = cc
last_token (s ∷ v) t e = cc

right_nil : (v w : List MarkedToken) → v ++ w ≡ [] → w ≡ []
right_nil [] w e = e
right_nil (s ∷ v) w e = cc

pub stated_filled : (f : FormulaData) (k : Stated) → (stated_form f).spell k ≡ [] → ⊥
stated_filled f k e = last_token (spell_all equality_step_form k.1.0) (key keywords.Semicolon k.1.1) (right_nil (spell_just k.0) _ e)

pub just_apart : (f : FormulaData) → Apart just_form (to_semicolon f)
just_apart f a k s x isa isk e g = continued_off goes_on_just refl refl k.0 k.1 s x e g

pub continued_apart : (may : Bool) → Apart (continued_form may) (λ _. keyword keywords.Semicolon)
continued_apart may = before_key (continued_form may) keywords.Semicolon (λ a p g. key_off goes_on_continued keywords.Semicolon p refl refl g)

pub ends_stated : (f : FormulaData) → Ends (stated_form f)
ends_stated f = ends_then just_form (to_semicolon f) (λ j. ends_then (continued_form (may_continue f j)) (λ _. keyword keywords.Semicolon) (λ _. ends_key keywords.Semicolon))

pub just_refused : (f : FormulaData) (room : ℕ) (b after : List MarkedToken) (e : Refusal) → Refuses just_form room b e after → Refuses (stated_form f) room b e after
just_refused f room b after e h = first_refuses just_form (to_semicolon f) (just_apart f) room b after e (λ a is. (([], nowhere), ((tt, tt), tt))) h

module _ (f : FormulaData) (room : ℕ) (b : List MarkedToken) (j : JustData) (c : List MarkedToken) (h : Found just_form room b j c) where
  stated_at_1 : Leads (stated_form f) (to_semicolon f j) room (beside just_form (to_semicolon f) j) b c
  stated_at_1 = leads_behind just_form (to_semicolon f) (just_apart f) room b c j h

  pub continued_refused : (may : Bool) (after : List MarkedToken) (e : Refusal) → may ≡ may_continue f j → Refuses (continued_form may) room c e after → Refuses (stated_form f) room b e after
  continued_refused may after e same g =
      let R : Bool → Type 0 = λ z. Refuses (continued_form z) room c e after in
      passes (stated_form f) (to_semicolon f j) room (beside just_form (to_semicolon f) j) b c after e stated_at_1
      (first_refuses (continued_form (may_continue f j)) (λ _. keyword keywords.Semicolon) (continued_apart (may_continue f j)) room c after e (λ a is. (nowhere, tt)) (subst R same g))

  module _ (may : Bool) (same : may ≡ may_continue f j) (cs : List EqualityStepTree) (d : List MarkedToken) (g : Found (continued_form may) room c cs d) where
    stated_at_2 : Leads (stated_form f) (keyword keywords.Semicolon) room (λ q. (j, (cs, q))) b d
    stated_at_2 =
        let F : Bool → Type 0 = λ z. Found (continued_form z) room c cs d in
        leads_on (stated_form f) (to_semicolon f j) (keyword keywords.Semicolon) room (beside just_form (to_semicolon f) j) (beside (continued_form (may_continue f j)) (λ _. keyword keywords.Semicolon) cs) b c d stated_at_1
        (leads_behind (continued_form (may_continue f j)) (λ _. keyword keywords.Semicolon) (continued_apart (may_continue f j)) room c d cs (subst F same g))

    pub stated_unclosed : (after : List MarkedToken) (e : Refusal) → Refuses (keyword keywords.Semicolon) 0 d e after → Refuses (stated_form f) room b e after
    stated_unclosed after e k = passes (stated_form f) (keyword keywords.Semicolon) room (λ q. (j, (cs, q))) b d after e stated_at_2 (word_refuses Place (key keywords.Semicolon) room d after e k)

    pub stated_found : (q : Place) (after : List MarkedToken) → Found (keyword keywords.Semicolon) 0 d q after → Found (stated_form f) room b (j, (cs, q)) after
    stated_found q after k = stated_at_2.finds q after (word_in_any Place (key keywords.Semicolon) room d after q k)

-- A proposition with what stands behind it.
abbrev pub behind_proposition : PropositionTree → Form MarkedToken
behind_proposition a = stated_form a.formula

abbrev pub parts_of_compact : Form MarkedToken
parts_of_compact = then proposition_form behind_proposition

abbrev pub make_compact : parts_of_compact.Tree → CompactData
make_compact k = compact_with k.0 k.1

all_spelled : (xs : List EqualityStepTree) → flat_map spell_equality_step xs ≡ spell_all equality_step_form xs
all_spelled [] = refl
all_spelled (x ∷ xs) = ap (λ z. spell_equality_step x ++ z) (all_spelled xs)

all_levels : (xs : List EqualityStepTree) → flat_map levels_equality_step xs ≡ levels_all equality_step_form xs
all_levels [] = refl
all_levels (x ∷ xs) = ap (λ z. levels_equality_step x ++ z) (all_levels xs)

all_into : (xs : List EqualityStepTree) → AreAll equality_step_form xs → Every IsEqualityStep xs
all_into [] h = tt
all_into (x ∷ xs) h = (h.0, all_into xs h.1)

all_from : (xs : List EqualityStepTree) → Every IsEqualityStep xs → AreAll equality_step_form xs
all_from [] h = tt
all_from (x ∷ xs) h = (h.0, all_from xs h.1)

may_into : (a : PropositionTree) (j : JustData) (cs : List EqualityStepTree) → MayStand (may_continue a.formula j) cs → MayContinue a j cs
may_into a j [] h = tt
may_into a j (c ∷ cs) h = both_true (is_plain_equation a.formula) (is_simple j) h

may_from : (a : PropositionTree) (j : JustData) (cs : List EqualityStepTree) → MayContinue a j cs → MayStand (may_continue a.formula j) cs
may_from a j [] h = tt
may_from a j (c ∷ cs) h = rw (h.0, h.1) refl

append-four : {X : Type 0} (v w x y z : List X) → x ≡ y → ((v ++ w) ++ x) ++ z ≡ v ++ (w ++ (y ++ z))
append-four v w x y z e = append_assoc (v ++ w) x z ∙ (append_assoc v w (x ++ z) ∙ ap (λ q. v ++ (w ++ (q ++ z))) e)

pub stated_is : (a : PropositionTree) (b : JustData) (c : List EqualityStepTree) (d : Place) → IsCompact (StatedCompact a b c d) → (stated_form a.formula).IsTree (b, (c, d))
stated_is a b c d is = (is.1, ((all_from c is.2, may_from a b c is.3), tt))

pub only_compact : (x : CompactData) → IsCompact x → (k : parts_of_compact.Tree) × parts_of_compact.IsTree k × (x ≡ make_compact k)
only_compact (StatedCompact a b c d) is = ((a, (b, (c, d))), (is.0, stated_is a b c d is), refl)

pub ends_compact : Ends parts_of_compact
ends_compact = ends_then proposition_form behind_proposition (λ a. ends_stated a.formula)

pub as_compact : (b : List MarkedToken) → Reshapes compact_form parts_of_compact make_compact b
as_compact b = record {
  into = λ k is. (is.0, is.1.0, all_into k.1.1.0 is.1.1.0.0, may_into k.0 k.1.0 k.1.1.0 is.1.1.0.1);
  spells = λ k is. append-four (spell_proposition k.0) (spell_just k.1.0) (flat_map spell_equality_step k.1.1.0) (spell_all equality_step_form k.1.1.0) (key keywords.Semicolon k.1.1.1 ∷ []) (all_spelled k.1.1.0);
  only = λ x is g. only_compact x is;
  goes = λ k t is g. absurd (ends_compact.closed k t is g);
  level = λ k is. append-four (levels_proposition k.0) (levels_just k.1.0) (flat_map levels_equality_step k.1.1.0) (levels_all equality_step_form k.1.1.0) (0 ∷ []) (all_levels k.1.1.0);
}

begin_compact : (room : ℕ) (b : List MarkedToken) → Leads compact_form parts_of_compact room make_compact b b
begin_compact room b = leads_as compact_form parts_of_compact make_compact room b (as_compact b)

pub proposition_apart : Apart proposition_form behind_proposition
proposition_apart a k s x isa isk e g = stated_off a.formula goes_on_proposition refl refl refl refl refl k.0 k.1.0 k.1.1 s x e g

abbrev pub some_stated : Stated
some_stated = (SimpleJust simple_tree.Nothing, ([], nowhere))

pub proposition_refused : (room : ℕ) (b after : List MarkedToken) (e : Refusal) → Refuses proposition_form room b e after → Refuses compact_form room b e after
proposition_refused room b after e h = passes compact_form parts_of_compact room make_compact b b after e (begin_compact room b) (first_refuses proposition_form behind_proposition proposition_apart room b after e (λ a is. (some_stated, (tt, ((tt, tt), tt)))) h)

pub behind_stated : (room : ℕ) (a : PropositionTree) (b c : List MarkedToken) → Found proposition_form room b a c → Leads compact_form (stated_form a.formula) room (compact_with a) b c
behind_stated room a b c h = leads_on compact_form parts_of_compact (stated_form a.formula) room make_compact (beside proposition_form behind_proposition a) b b c (begin_compact room b) (leads_behind proposition_form behind_proposition proposition_apart room b c a h)

-- The first token of a compact statement.
not_empty_proposition : (l : Option LabelTree) (f : FormulaData) → IsFormula false f → spell_proposition (record { label = l; formula = f }) ≡ [] → ⊥
not_empty_proposition None f is e = formula_filled f is e
not_empty_proposition (Some l) f is e = cc

pub compact_begins : (x : CompactData) (t : MarkedToken) (m : List MarkedToken) → IsCompact x → spell_compact x ≡ t ∷ m → begins_unit (sign_of t) ≡ true
compact_begins (StatedCompact a b c d) t m is e = go (spell_proposition a) refl
  where
    whole : spell_proposition a ++ (stated_form a.formula).spell (b, (c, d)) ≡ t ∷ m
    whole = sym (append-four (spell_proposition a) (spell_just b) (flat_map spell_equality_step c) (spell_all equality_step_form c) (key keywords.Semicolon d ∷ []) (all_spelled c)) ∙ e

    go : (w : List MarkedToken) → spell_proposition a ≡ w → begins_unit (sign_of t) ≡ true
    go [] g = absurd (not_empty_proposition a.label a.formula is.0 g)
    go (s ∷ w) g =
        let first : s ≡ t = head_of s t (w ++ (stated_form a.formula).spell (b, (c, d))) m (ap (λ z. z ++ (stated_form a.formula).spell (b, (c, d))) (sym g) ∙ whole) in
        proposition_begins a.label a.formula t w is.0 (g ∙ ap (λ z. z ∷ w) first)

pub compact_filled : (x : CompactData) → spell_compact x ≡ [] → ⊥
compact_filled (StatedCompact a b c d) e = last_token ((spell_proposition a ++ spell_just b) ++ flat_map spell_equality_step c) (key keywords.Semicolon d) e

-- as it is given on
pub compact_given : (room : ℕ) (a : PropositionTree) (b c after : List MarkedToken) (res : Result (Box CompactData Global) Refusal) → Found proposition_form room b a c → ReadsStated a room c res after → Reads compact_form room compact_in b res after
compact_given room a b c after res h g = gives_through compact_form (stated_form a.formula) room (λ x. Found compact_form room b (compact_in x) after) (λ x. Builds (stated_form a.formula) room (compact_with a) (compact_in x) c after) (compact_with a) b c after res
    (λ x k. let F : CompactData → Type 0 = λ z. Found compact_form room b z after in subst F (sym k.2) ((behind_stated room a b c h).finds k.0 after k.1)) (behind_stated room a b c h) g
