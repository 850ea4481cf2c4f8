-- The readings of propositions.
use Rattle.std.specs.List.{flat_map}
use Rattle.std.proofs.Common.{◌≡◌, ℕ, ◌+◌, ◌<◌, arith, length, length-append, Bool, true, false, ◌&&◌, List, [], ◌∷◌, ◌++◌, refl, sym, ap, subst, ◌∙◌, Option, Some, None}
use Rattle.std.proofs.lemmas.Bool.{or_left, or_right}
use Rattle.mz_base.specs.declared.place.Place.{Place}
use Rattle.mz_base.specs.declared.token.MarkedToken.{MarkedToken}
use Rattle.mz_forms.specs.declared.refusal.Refusal.{Refusal}
use Rattle.mz_forms.specs.Form.{Form, Agrees, Found, Leads, is_empty, then}
use Rattle.mz_forms.specs.Reading.{Refuses}
use Rattle.mz_forms.specs.Repeat.{spell_all, levels_all, AreAll}
use Rattle.mz_forms.proofs.Choose.{Chooses, Reshapes}
use Rattle.mz_forms.proofs.Compose.{Apart, head_of, tail_of}
use Rattle.mz_forms.proofs.Leads.{leads_by, leads_as, leads_look, leads_behind, leads_on, beside, apart_closed, passes, first_refuses}
use Rattle.mz_forms.proofs.Lists.{Begun, Repeats, Listing, listing_none, listing_step, listing_end, go_on, member_refused, no_more}
use Rattle.mz_forms.proofs.Look.{Looks}
use Rattle.mz_forms.proofs.Words.{behind_word, first_word_refuses, word_in_any, word_refuses}
use Rattle.mz_tree.specs.declared.word.Word.{Word}
use Rattle.mz_tree.specs.Trees.{FormulaData, PlainFormula, ChainDisjunction, ChainConjunction, PrivateUnit, no_next_units, no_next_conjunctions}
use Rattle.mz_tree.specs.Spell.{spell_formula}
use Rattle.mz_tree.specs.Rules.{IsFormula, Every}
use Rattle.mz_tree_proof.specs.declared.references.LabelTree.{LabelTree}
use Rattle.mz_tree_proof.specs.declared.propositions.PropositionTree.{PropositionTree}
use Rattle.mz_tree_proof.specs.declared.propositions.AndPropositionTree.{AndPropositionTree}
use Rattle.mz_tree_proof.specs.declared.propositions.PropositionsTree.{PropositionsTree}
use Rattle.mz_tree_proof.specs.declared.propositions.HypothesesTree.{HypothesesTree}
use Rattle.mz_tree_proof.specs.declared.propositions.HypothesesTree.TheVariants as hypotheses_tree
use Rattle.mz_tree_proof.specs.declared.propositions.SuchTree.{SuchTree}
use Rattle.mz_tree_proof.specs.Spell.{spell_label, spell_proposition, spell_and_proposition, spell_propositions, spell_hypotheses}
use Rattle.mz_tree_proof.specs.Levels.{levels_proposition, levels_and_proposition}
use Rattle.mz_tree_proof.specs.Rules.{IsProposition, IsAndProposition, ArePropositions, AreHypotheses}
use Rattle.mz_pterm.specs.declared.sign.Sign.TheVariants as signs
use Rattle.mz_pterm.specs.Sign.{sign_of}
use Rattle.mz_pterm.specs.Words.{fixed, named, name, word_of}
use Rattle.mz_pterm.proofs.Signs.{told_named, sign_of-named}
use Rattle.mz_ptype.proofs.Optional.{never, true_not_false}
use Rattle.mz_patom.specs.Classes.{goes_open, is_identifier}
use Rattle.mz_pformula.specs.Forms.{any_operator, formula_takes, formula_form}
use Rattle.mz_pformula.proofs.Begun.{begun, leads_begun}
use Rattle.mz_pformula.proofs.Identifiers.{identifier_is}
use Rattle.mz_pformula.proofs.Operators.{goes_weaker}
use Rattle.mz_pformula.proofs.Quantifiers.{some_formula}
use Rattle.mz_pformula.proofs.Second.{Seconds, leads_second}
use Rattle.mz_pjustification.specs.declared.keyword.Keyword.{Keyword}
use Rattle.mz_pjustification.specs.declared.keyword.Keyword.TheVariants as keywords
use Rattle.mz_pjustification.specs.Keyword.{keyword_of}
use Rattle.mz_pjustification.specs.Words.{key, keyword, tokens_of, TakesKey}
use Rattle.mz_pjustification.specs.Forms.{is_colon}
use Rattle.mz_pjustification.proofs.Keywords.{told_key, keyword_of-key, sign_of-key, same_key}
use Rattle.mz_pjustification.proofs.Taken.{nowhere, key_among, or_goes, among_at, first_only, key_found}
use Rattle.mz_pproposition.specs.Forms.{label_next, label_form, goes_on_proposition, proposition_form, is_and_key, begins_further, goes_on_propositions, further_form, more_propositions, propositions_form, hypotheses_form, such_form}
use Rattle.mz_pproposition.proofs.Formulas.{no_other, formula_filled, formula_first, formula_level}

-- Labels.
abbrev pub parts_of_label : Form MarkedToken
parts_of_label = then (name signs.Identifier) (λ _. keyword keywords.Colon)

abbrev pub make_label : parts_of_label.Tree → LabelTree
make_label k = record { name = k.0; colon = k.1 }

pub as_label : (b : List MarkedToken) → Reshapes label_form parts_of_label make_label b
as_label b = record {
  into = λ k is. tt;
  spells = λ k is. refl;
  only = λ x is g. ((x.name, x.colon), (tt, tt), refl);
  goes = λ k t is g. g;
  level = λ k is. refl;
}

begin_label : (room : ℕ) (b : List MarkedToken) → Leads label_form parts_of_label room make_label b b
begin_label room b = leads_as label_form parts_of_label make_label room b (as_label b)

pub label_refused : (room : ℕ) (b after : List MarkedToken) (e : Refusal) → Refuses (name signs.Identifier) 0 b e after → Refuses label_form room b e after
label_refused room b after e h = passes label_form parts_of_label room make_label b b after e (begin_label room b) (first_word_refuses Word (named signs.Identifier) (λ _. keyword keywords.Colon) (λ w. (nowhere, tt)) room b after e h)

behind_label_name : (room : ℕ) (w : Word) (b c : List MarkedToken) → Found (name signs.Identifier) 0 b w c → Leads label_form (keyword keywords.Colon) room (λ p. make_label (w, p)) b c
behind_label_name room w b c h = leads_on label_form parts_of_label (keyword keywords.Colon) room make_label (beside (name signs.Identifier) (λ _. keyword keywords.Colon) w) b b c (begin_label room b) (behind_word Word (named signs.Identifier) (λ _. keyword keywords.Colon) room b c w h)

pub label_colon_refused : (room : ℕ) (w : Word) (b c after : List MarkedToken) (e : Refusal) → Found (name signs.Identifier) 0 b w c → Refuses (keyword keywords.Colon) 0 c e after → Refuses label_form room b e after
label_colon_refused room w b c after e h g = passes label_form (keyword keywords.Colon) room (λ p. make_label (w, p)) b c after e (behind_label_name room w b c h) (word_refuses Place (key keywords.Colon) room c after e g)

pub label_found : (room : ℕ) (w : Word) (p : Place) (b c after : List MarkedToken) → Found (name signs.Identifier) 0 b w c → Found (keyword keywords.Colon) 0 c p after → Found label_form room b (record { name = w; colon = p }) after
label_found room w p b c after h g = (behind_label_name room w b c h).finds p after (word_in_any Place (key keywords.Colon) room c after p g)

-- A proposition with a label.
abbrev pub labelled : Form MarkedToken
labelled = then label_form (λ _. formula_form false)

abbrev pub make_labelled : labelled.Tree → PropositionTree
make_labelled k = record { label = Some k.0; formula = k.1 }

abbrev pub plainly : FormulaData → PropositionTree
plainly f = record { label = None; formula = f }

pub formula_on : (f : FormulaData) (t : MarkedToken) → goes_open (formula_takes f) (sign_of t) ≡ true → tokens_of goes_on_proposition t ≡ true
formula_on f t g = or_left (goes_open any_operator (sign_of t)) (is_colon (keyword_of t)) (goes_weaker (formula_takes f) any_operator (λ o h. refl) (sign_of t) g)

colon_on : (t : MarkedToken) → is_colon (keyword_of t) ≡ true → tokens_of goes_on_proposition t ≡ true
colon_on t g = or_right (goes_open any_operator (sign_of t)) (is_colon (keyword_of t)) g

proposition_filled : (l : Option LabelTree) (f : FormulaData) → IsFormula false f → spell_proposition (record { label = l; formula = f }) ≡ [] → ⊥
proposition_filled None f is e = formula_filled f is e
proposition_filled (Some l) f is e = cc

colon_is : (k : Keyword) → is_colon k ≡ true → k ≡ keywords.Colon
colon_is keywords.Colon e = refl
colon_is _ e = cc

other_of : (n : MarkedToken) → keyword_of n ≡ keywords.Colon → sign_of n ≡ signs.Other
other_of n h = ap sign_of (told_key keywords.Colon n refl h) ∙ sign_of-key keywords.Colon n.token.place refl

only_labelled : (t n : MarkedToken) → sign_of t ≡ signs.Identifier → keyword_of n ≡ keywords.Colon → (l : Option LabelTree) (f : FormulaData) (m : List MarkedToken) → IsFormula false f → spell_proposition (record { label = l; formula = f }) ≡ t ∷ (n ∷ m) →
    (k : labelled.Tree) × labelled.IsTree k × (record { label = l; formula = f } ≡ make_labelled k)
only_labelled t n h g (Some l) f m is e = ((l, f), (tt, is), refl)
only_labelled t n h g None f m is e = absurd (no_other f t n m is h (other_of n g) e)

pub labelled_goes : (k : labelled.Tree) (s : MarkedToken) → labelled.goes k s ≡ true → tokens_of goes_on_proposition s ≡ true
labelled_goes k s e = or_goes (goes_open (formula_takes k.1) (sign_of s)) false (is_empty (spell_formula k.1)) (tokens_of goes_on_proposition s) (formula_on k.1 s) (λ i. absurd (never i)) e

pub seconds_label : (t n : MarkedToken) → sign_of t ≡ signs.Identifier → keyword_of n ≡ keywords.Colon → Seconds proposition_form labelled make_labelled t n
seconds_label t n h g = record {
  into = λ k is. is.1;
  spells = λ k is. refl;
  only = λ x m is e. only_labelled t n h g x.label x.formula m is e;
  short = λ x is e. colon_on n (ap is_colon g);
  empty = λ x is e. absurd (proposition_filled x.label x.formula is e);
  long = λ k is. (named signs.Identifier k.0.name, key keywords.Colon k.0.colon, spell_formula k.1, refl);
  goes = λ k s is e. labelled_goes k s e;
  level = λ k is. refl;
  first = λ k is. refl;
  begins = (
    (record { name = word_of t; colon = n.token.place }, some_formula),
    spell_formula some_formula,
    (tt, ((tt, tt), tt)),
    ap (λ z. z ∷ (key keywords.Colon n.token.place ∷ spell_formula some_formula)) (sym (told_named signs.Identifier t refl h)) ∙ ap (λ z. t ∷ (z ∷ spell_formula some_formula)) (sym (told_key keywords.Colon n refl g)),
  );
}

pub both_true : (p q : Bool) → (p && q) ≡ true → (p ≡ true) × (q ≡ true)
both_true true true e = (refl, refl)
both_true true false e = cc
both_true false q e = cc

begin_labelled : (room : ℕ) (b : List MarkedToken) → label_next b ≡ true → Leads proposition_form labelled room make_labelled b b
begin_labelled room [] e = absurd (never e)
begin_labelled room (t ∷ []) e = absurd (never e)
begin_labelled room (t ∷ (n ∷ rest)) e =
    let k = both_true (is_identifier (sign_of t)) (is_colon (keyword_of n)) e in
    leads_second proposition_form labelled make_labelled t n (seconds_label t n (identifier_is (sign_of t) k.0) (colon_is (keyword_of n) k.1)) room (t ∷ (n ∷ rest)) rest refl

pub labelled_unread : (room : ℕ) (b after : List MarkedToken) (e : Refusal) → label_next b ≡ true → Refuses label_form room b e after → Refuses proposition_form room b e after
labelled_unread room b after e n h = passes proposition_form labelled room make_labelled b b after e (begin_labelled room b n)
    (first_refuses label_form (λ _. formula_form false) (apart_closed label_form (λ _. formula_form false) (λ a t. refl)) room b after e (λ a is. (some_formula, ((tt, tt), tt))) h)

behind_label : (room : ℕ) (l : LabelTree) (b c : List MarkedToken) → label_next b ≡ true → Found label_form room b l c → Leads proposition_form (formula_form false) room (λ f. make_labelled (l, f)) b c
behind_label room l b c n h = leads_on proposition_form labelled (formula_form false) room make_labelled (beside label_form (λ _. formula_form false) l) b b c (begin_labelled room b n)
    (leads_behind label_form (λ _. formula_form false) (apart_closed label_form (λ _. formula_form false) (λ a t. refl)) room b c l h)

pub labelled_refused : (room : ℕ) (l : LabelTree) (b c after : List MarkedToken) (e : Refusal) → label_next b ≡ true → Found label_form room b l c → Refuses (formula_form false) room c e after → Refuses proposition_form room b e after
labelled_refused room l b c after e n h g = passes proposition_form (formula_form false) room (λ f. make_labelled (l, f)) b c after e (behind_label room l b c n h) g

pub labelled_found : (room : ℕ) (l : LabelTree) (f : FormulaData) (b c after : List MarkedToken) → label_next b ≡ true → Found label_form room b l c → Found (formula_form false) room c f after → Found proposition_form room b (record { label = Some l; formula = f }) after
labelled_found room l f b c after n h g = (behind_label room l b c n h).finds f after g

-- A proposition without one.
unlabelled : (x : List MarkedToken) → (l : Option LabelTree) (f : FormulaData) → IsFormula false f → ((l : LabelTree) → Agrees x (spell_label l ++ spell_formula f) → ⊥) → Agrees x (spell_proposition (record { label = l; formula = f })) →
    (k : FormulaData) × IsFormula false k × (record { label = l; formula = f } ≡ plainly k)
unlabelled x None f is h g = (f, is, refl)
unlabelled x (Some l) f is h g = absurd (h l g)

pub as_plain : (b : List MarkedToken) → ((l : LabelTree) (f : FormulaData) → Agrees b (spell_label l ++ spell_formula f) → ⊥) → Reshapes proposition_form (formula_form false) plainly b
as_plain b h = record {
  into = λ k is. is;
  spells = λ k is. refl;
  only = λ x is g. unlabelled b x.label x.formula is (λ l. h l x.formula) g;
  goes = λ k t is g. formula_on k t g;
  level = λ k is. refl;
}

-- where no colon stands behind the identifier
no_label : (t : MarkedToken) (rest m : List MarkedToken) → label_next (t ∷ rest) ≡ false → is_identifier (sign_of t) ≡ true → (l : LabelTree) (f : FormulaData) → spell_label l ++ spell_formula f ≡ t ∷ m → Agrees rest m → ⊥
no_label t rest m off h l f e agrees = go rest off (subst (λ (z : List MarkedToken). Agrees rest z) (sym (tail_of _ _ _ _ e)) agrees)
  where
    right : (a b : Bool) → a ≡ true → (a && b) ≡ false → b ≡ false
    right true b f g = g
    right false b f g = cc

    go : (r : List MarkedToken) → label_next (t ∷ r) ≡ false → Agrees r (key keywords.Colon l.colon ∷ spell_formula f) → ⊥
    go [] n g = g
    go (s ∷ r) n g = true_not_false (is_colon (keyword_of s)) (right (is_identifier (sign_of t)) (is_colon (keyword_of s)) h n) (ap (λ z. is_colon (keyword_of z)) (sym g) ∙ ap is_colon (keyword_of-key keywords.Colon l.colon refl))

only_plain : (t : MarkedToken) (rest : List MarkedToken) → label_next (t ∷ rest) ≡ false → is_identifier (sign_of t) ≡ true → (l : Option LabelTree) (f : FormulaData) (m : List MarkedToken) → IsFormula false f → spell_proposition (record { label = l; formula = f }) ≡ t ∷ m → Agrees rest m →
    (k : FormulaData) × (begun (formula_form false) t).IsTree k × (record { label = l; formula = f } ≡ plainly k)
only_plain t rest off h None f m is e agrees = (f, (is, subst (λ (z : List MarkedToken). Agrees (t ∷ []) z) (sym e) refl), refl)
only_plain t rest off h (Some l) f m is e agrees = absurd (no_label t rest m off h l f e agrees)

abbrev named_formula : Word → FormulaData
named_formula w = PlainFormula (ChainDisjunction (ChainConjunction (PrivateUnit w nowhere nowhere) no_next_units) no_next_conjunctions)

pub some_named : (t : MarkedToken) → sign_of t ≡ signs.Identifier → Begun (formula_form false) t
some_named t h = (named_formula (word_of t), fixed signs.OpenSquare nowhere ∷ (fixed signs.CloseSquare nowhere ∷ []), ((tt, tt), tt), ap (λ z. z ∷ (fixed signs.OpenSquare nowhere ∷ (fixed signs.CloseSquare nowhere ∷ []))) (sym (told_named signs.Identifier t refl h)))

pub looks_plain : (t : MarkedToken) (rest : List MarkedToken) → label_next (t ∷ rest) ≡ false → is_identifier (sign_of t) ≡ true → Looks proposition_form (begun (formula_form false) t) plainly t rest
looks_plain t rest off h = record {
  into = λ k is. is.0;
  spells = λ k is. refl;
  only = λ x m is e agrees. only_plain t rest off h x.label x.formula m is e agrees;
  empty = λ x is e. absurd (proposition_filled x.label x.formula is e);
  filled = λ k is e. formula_filled k is.0 e;
  goes = λ k s is g. formula_on k s g;
  level = λ k is. refl;
  first = λ k is. formula_level k t is.0 (identifier_is (sign_of t) h) is.1;
  begins = let some = some_named t (identifier_is (sign_of t) h) in (some.0, some.1, (some.2, subst (λ (z : List MarkedToken). Agrees (t ∷ []) z) (sym some.3) refl), some.3);
}

pub begin_plain : (room : ℕ) (b : List MarkedToken) → label_next b ≡ false → Leads proposition_form (formula_form false) room plainly b b
begin_plain room [] off = leads_as proposition_form (formula_form false) plainly room [] (as_plain [] (λ l f g. g))
begin_plain room (t ∷ rest) off = go (is_identifier (sign_of t)) refl
  where
    go : (i : Bool) → is_identifier (sign_of t) ≡ i → Leads proposition_form (formula_form false) room plainly (t ∷ rest) (t ∷ rest)
    go false h = leads_as proposition_form (formula_form false) plainly room (t ∷ rest) (as_plain (t ∷ rest) (λ l f g. true_not_false (is_identifier (sign_of t)) h (ap (λ z. is_identifier (sign_of z)) (sym g) ∙ ap is_identifier (sign_of-named signs.Identifier l.name refl))))
    go true h = leads_on proposition_form (begun (formula_form false) t) (formula_form false) room plainly (λ k. k) (t ∷ rest) (t ∷ rest) (t ∷ rest)
        (leads_look proposition_form (begun (formula_form false) t) plainly t rest (looks_plain t rest off h) room (t ∷ rest) refl)
        (leads_begun (formula_form false) t (some_named t (identifier_is (sign_of t) h)) rest room (t ∷ rest) refl)

pub plain_refused : (room : ℕ) (b after : List MarkedToken) (e : Refusal) → label_next b ≡ false → Refuses (formula_form false) room b e after → Refuses proposition_form room b e after
plain_refused room b after e n h = passes proposition_form (formula_form false) room plainly b b after e (begin_plain room b n) h

pub plain_found : (room : ℕ) (f : FormulaData) (b after : List MarkedToken) → label_next b ≡ false → Found (formula_form false) room b f after → Found proposition_form room b (record { label = None; formula = f }) after
plain_found room f b after n h = (begin_plain room b n).finds f after h

-- Further propositions.
abbrev pub parts_of_further : Form MarkedToken
parts_of_further = then (keyword keywords.And) (λ _. proposition_form)

abbrev pub make_further : parts_of_further.Tree → AndPropositionTree
make_further k = record { and = k.0; proposition = k.1 }

pub goes_further : (k : parts_of_further.Tree) (t : MarkedToken) → parts_of_further.goes k t ≡ true → tokens_of goes_on_proposition t ≡ true
goes_further k t g = or_goes (tokens_of goes_on_proposition t) false (is_empty (spell_proposition k.1)) (tokens_of goes_on_proposition t) (λ h. h) (λ h. absurd (never h)) g

pub as_further : (b : List MarkedToken) → Reshapes further_form parts_of_further make_further b
as_further b = record {
  into = λ k is. is.1;
  spells = λ k is. refl;
  only = λ x is g. ((x.and, x.proposition), (tt, is), refl);
  goes = λ k t is g. goes_further k t g;
  level = λ k is. refl;
}

and_is : (k : Keyword) → is_and_key k ≡ true → k ≡ keywords.And
and_is keywords.And e = refl
and_is _ e = cc

and_off : (t : MarkedToken) → tokens_of begins_further t ≡ true → tokens_of goes_on_proposition t ≡ true → ⊥
and_off t h g =
    let C : MarkedToken → Type 0 = λ z. tokens_of goes_on_proposition z ≡ true in
    never (sym (key_among goes_on_proposition keywords.And t.token.place refl) ∙ subst C (told_key keywords.And t refl (and_is (keyword_of t) h)) g)

pub repeats_further : Repeats further_form (tokens_of begins_further) (tokens_of goes_on_propositions)
repeats_further = record {
  filled = λ x is e. cc;
  first = λ x t m is e. among_at begins_further (key keywords.And x.and) t _ m e (key_among begins_further keywords.And x.and refl);
  weaker = λ x t is g. or_left (tokens_of goes_on_proposition t) (is_and_key (keyword_of t)) g;
  on = λ t g. or_right (tokens_of goes_on_proposition t) (is_and_key (keyword_of t)) g;
  apart = λ x t is h g. and_off t h g;
}

further_taken : (room : ℕ) (p : Place) (b c : List MarkedToken) → b ≡ key keywords.And p ∷ c → Leads further_form proposition_form room (λ x. make_further (p, x)) b c
further_taken room p b c e = leads_on further_form parts_of_further proposition_form room make_further (beside (keyword keywords.And) (λ _. proposition_form) p) b b c
    (leads_as further_form parts_of_further make_further room b (as_further b)) (behind_word Place (key keywords.And) (λ _. proposition_form) room b c p (key_found keywords.And 0 p b c refl e))

begun_further : (p : Place) → Begun further_form (key keywords.And p)
begun_further p = (make_further (p, plainly some_formula), spell_formula some_formula, ((tt, tt), tt), refl)

abbrev stops : List MarkedToken → Type 0
stops [] = Unit {0}
stops (t ∷ rest) = tokens_of begins_further t ≡ true → ⊥

abbrev pub FurtherSoFar : ℕ → List AndPropositionTree → List MarkedToken → List MarkedToken → Type 0
FurtherSoFar room xs b c = Listing further_form (tokens_of begins_further) (tokens_of goes_on_propositions) repeats_further room [] xs b c

pub further_none : (room : ℕ) (xs : List AndPropositionTree) (b : List MarkedToken) → xs ≡ [] → FurtherSoFar room xs b b
further_none room xs b e = let F : List AndPropositionTree → Type 0 = λ z. FurtherSoFar room z b b in subst F (sym e) (listing_none further_form (tokens_of begins_further) (tokens_of goes_on_propositions) repeats_further room [] b)

pub further_step : (room : ℕ) (v w : List AndPropositionTree) (p : Place) (x : PropositionTree) (b c d e : List MarkedToken) → FurtherSoFar room v b c → TakesKey keywords.And c (Some p) d → Found proposition_form room d x e → w ≡ v ++ record { and = p; proposition = x } ∷ [] → FurtherSoFar room w b e
further_step room v w p x b c d e so_far taken found grown = listing_step further_form (tokens_of begins_further) (tokens_of goes_on_propositions) repeats_further room [] v w (make_further (p, x)) b c e so_far grown
    (go_on further_form (tokens_of begins_further) (tokens_of goes_on_propositions) repeats_further room (key keywords.And p) c d e (make_further (p, x)) (key_among begins_further keywords.And p refl) (begun_further p) taken ((further_taken room p c d taken).finds x e found))

pub further_refused : (room : ℕ) (v : List AndPropositionTree) (p : Place) (b c d after : List MarkedToken) (r : Refusal) → FurtherSoFar room v b c → TakesKey keywords.And c (Some p) d → Refuses proposition_form room d r after → Refuses more_propositions room b r after
further_refused room v p b c d after r so_far taken refused = passes more_propositions more_propositions room (λ xs. so_far.taken ++ xs) b c after r so_far.leads
    (member_refused further_form (tokens_of begins_further) (tokens_of goes_on_propositions) repeats_further room (key keywords.And p) c d after r (key_among begins_further keywords.And p refl) (begun_further p) taken
    (passes further_form proposition_form room (λ x. make_further (p, x)) c d after r (further_taken room p c d taken) refused))

pub further_end : (room : ℕ) (v : List AndPropositionTree) (b c after : List MarkedToken) → FurtherSoFar room v b c → TakesKey keywords.And c None after → Found more_propositions room b v after
further_end room v b c after so_far none =
    let F : List MarkedToken → Type 0 = λ z. Found more_propositions room c [] z in
    let V : List AndPropositionTree → Type 0 = λ z. Found more_propositions room b z after in
    let k = listing_end further_form (tokens_of begins_further) (tokens_of goes_on_propositions) repeats_further room [] v b c after so_far
    (subst F none.0 (no_more further_form (tokens_of begins_further) (tokens_of goes_on_propositions) repeats_further room c (go c none.1))) in
    subst V (sym k.2) k.1
  where
    go : (z : List MarkedToken) → ((p : Place) → Agrees z (key keywords.And p ∷ []) → ⊥) → stops z
    go [] h = tt
    go (t ∷ z) h = λ g. h t.token.place (sym (told_key keywords.And t refl (and_is (keyword_of t) g)))

pub shorter_further : (room : ℕ) (p : Place) (x : PropositionTree) (c d e : List MarkedToken) → TakesKey keywords.And c (Some p) d → Found proposition_form room d x e → length e < length c
shorter_further room p x c d e taken h =
    let f : length c ≡ length (key keywords.And p ∷ d) = ap length taken in
    let g : length d ≡ length (spell_proposition x ++ e) = ap length h.found.split in
    let i : length (spell_proposition x ++ e) ≡ length (spell_proposition x) + length e = length-append (spell_proposition x) e in
    omega (arith, f, g, i)

-- Propositions are one, and any number of others.
abbrev pub some_propositions : Form MarkedToken
some_propositions = then proposition_form (λ _. more_propositions)

abbrev pub make_propositions : some_propositions.Tree → PropositionsTree
make_propositions k = record { first = k.0; more = k.1 }

all_spelled : (xs : List AndPropositionTree) → flat_map spell_and_proposition xs ≡ spell_all further_form xs
all_spelled [] = refl
all_spelled (x ∷ xs) = ap (λ z. spell_and_proposition x ++ z) (all_spelled xs)

all_levels : (xs : List AndPropositionTree) → flat_map levels_and_proposition xs ≡ levels_all further_form xs
all_levels [] = refl
all_levels (x ∷ xs) = ap (λ z. levels_and_proposition x ++ z) (all_levels xs)

all_into : (xs : List AndPropositionTree) → AreAll further_form xs → Every IsAndProposition xs
all_into [] h = tt
all_into (x ∷ xs) h = (h.0, all_into xs h.1)

all_from : (xs : List AndPropositionTree) → Every IsAndProposition xs → AreAll further_form xs
all_from [] h = tt
all_from (x ∷ xs) h = (h.0, all_from xs h.1)

pub more_apart : Apart proposition_form (λ _. more_propositions)
more_apart a [] s x isa isk e g = cc
more_apart a (k ∷ ks) s x isa isk e g =
    let C : MarkedToken → Type 0 = λ z. tokens_of goes_on_proposition z ≡ true in
    never (sym (key_among goes_on_proposition keywords.And k.and refl) ∙ subst C (sym (head_of _ _ _ _ e)) g)

pub only_propositions : (x : PropositionsTree) → ArePropositions x → (k : some_propositions.Tree) × some_propositions.IsTree k × (x ≡ make_propositions k)
only_propositions x is = ((x.first, x.more), (is.0, all_from x.more is.1), refl)

pub propositions_goes : (k : some_propositions.Tree) (t : MarkedToken) → some_propositions.goes k t ≡ true → tokens_of goes_on_propositions t ≡ true
propositions_goes k t g = or_goes (tokens_of goes_on_propositions t) (tokens_of goes_on_proposition t) (is_empty (spell_all further_form k.1)) (tokens_of goes_on_propositions t) (λ h. h) (λ h. or_left (tokens_of goes_on_proposition t) (is_and_key (keyword_of t)) h) g

pub as_propositions : (b : List MarkedToken) → Reshapes propositions_form some_propositions make_propositions b
as_propositions b = record {
  into = λ k is. (is.0, all_into k.1 is.1);
  spells = λ k is. ap (λ z. spell_proposition k.0 ++ z) (all_spelled k.1);
  only = λ x is g. only_propositions x is;
  goes = λ k t is g. propositions_goes k t g;
  level = λ k is. ap (λ z. levels_proposition k.0 ++ z) (all_levels k.1);
}

begin_propositions : (room : ℕ) (b : List MarkedToken) → Leads propositions_form some_propositions room make_propositions b b
begin_propositions room b = leads_as propositions_form some_propositions make_propositions room b (as_propositions b)

pub first_refused : (room : ℕ) (b after : List MarkedToken) (e : Refusal) → Refuses proposition_form room b e after → Refuses propositions_form room b e after
first_refused room b after e h = passes propositions_form some_propositions room make_propositions b b after e (begin_propositions room b) (first_refuses proposition_form (λ _. more_propositions) more_apart room b after e (λ a is. ([], tt)) h)

behind_first : (room : ℕ) (x : PropositionTree) (b c : List MarkedToken) → Found proposition_form room b x c → Leads propositions_form more_propositions room (λ xs. make_propositions (x, xs)) b c
behind_first room x b c h = leads_on propositions_form some_propositions more_propositions room make_propositions (beside proposition_form (λ _. more_propositions) x) b b c (begin_propositions room b) (leads_behind proposition_form (λ _. more_propositions) more_apart room b c x h)

pub more_refused : (room : ℕ) (x : PropositionTree) (b c after : List MarkedToken) (e : Refusal) → Found proposition_form room b x c → Refuses more_propositions room c e after → Refuses propositions_form room b e after
more_refused room x b c after e h g = passes propositions_form more_propositions room (λ xs. make_propositions (x, xs)) b c after e (behind_first room x b c h) g

pub propositions_found : (room : ℕ) (x : PropositionTree) (xs : List AndPropositionTree) (b c after : List MarkedToken) → Found proposition_form room b x c → Found more_propositions room c xs after → Found propositions_form room b (record { first = x; more = xs }) after
propositions_found room x xs b c after h g = (behind_first room x b c h).finds xs after g

-- What a proposition begins with is a token of an expression.
pub proposition_first : (l : Option LabelTree) (f : FormulaData) (t : MarkedToken) (m : List MarkedToken) → IsFormula false f → spell_proposition (record { label = l; formula = f }) ≡ t ∷ m → sign_of t ≡ signs.Other → ⊥
proposition_first None f t m is e h = formula_first f t m is h e
proposition_first (Some l) f t m is e h = clash (sym (sign_of-named signs.Identifier l.name refl) ∙ (ap sign_of (head_of _ _ _ _ e) ∙ h))
  where
    clash : signs.Identifier ≡ signs.Other → ⊥
    clash g = cc

-- Hypotheses.
pub hypotheses_filled : (x : HypothesesTree) → AreHypotheses x → spell_hypotheses x ≡ [] → ⊥
hypotheses_filled (hypotheses_tree.One p) is e = proposition_filled p.label p.formula is e
hypotheses_filled (hypotheses_tree.That q ps) is e = cc

only_that : (p : Place) (x : HypothesesTree) (m : List MarkedToken) → AreHypotheses x → spell_hypotheses x ≡ key keywords.That p ∷ m → (k : PropositionsTree) × ArePropositions k × (x ≡ hypotheses_tree.That p k)
only_that p (hypotheses_tree.One x) m is e = absurd (proposition_first x.label x.formula (key keywords.That p) m is e (sign_of-key keywords.That p refl))
only_that p (hypotheses_tree.That q ps) m is e = (ps, is, ap (λ z. hypotheses_tree.That z ps) (same_key keywords.That refl q p (head_of _ _ _ _ e)))

pub by_that : (p : Place) → Chooses hypotheses_form (key keywords.That p) propositions_form (λ k. hypotheses_tree.That p k) 0
by_that p = record {
  level = λ k is. refl;
  into = λ k is. is;
  spells = λ k is. refl;
  only = λ x m is e. only_that p x m is e;
  empty = λ x is e. absurd (hypotheses_filled x is e);
  goes = λ k t is g. g;
}

begin_that : (room : ℕ) (p : Place) (b c : List MarkedToken) → b ≡ key keywords.That p ∷ c → Leads hypotheses_form propositions_form room (λ k. hypotheses_tree.That p k) b c
begin_that room p b c e = leads_by hypotheses_form (key keywords.That p) propositions_form (λ k. hypotheses_tree.That p k) 0 (by_that p) room (omega arith) b c e

pub that_refused : (room : ℕ) (p : Place) (b c after : List MarkedToken) (r : Refusal) → TakesKey keywords.That b (Some p) c → Refuses propositions_form room c r after → Refuses hypotheses_form room b r after
that_refused room p b c after r e h = passes hypotheses_form propositions_form room (λ k. hypotheses_tree.That p k) b c after r (begin_that room p b c e) h

pub that_found : (room : ℕ) (p : Place) (k : PropositionsTree) (b c after : List MarkedToken) → TakesKey keywords.That b (Some p) c → Found propositions_form room c k after → Found hypotheses_form room b (hypotheses_tree.That p k) after
that_found room p k b c after e h = (begin_that room p b c e).finds k after h

only_one : (b : List MarkedToken) → ((p : Place) → Agrees b (key keywords.That p ∷ []) → ⊥) → (x : HypothesesTree) → AreHypotheses x → Agrees b (spell_hypotheses x) → (k : PropositionTree) × IsProposition k × (x ≡ hypotheses_tree.One k)
only_one b h (hypotheses_tree.One p) is g = (p, is, refl)
only_one b h (hypotheses_tree.That q ps) is g = absurd (h q (first_only b (key keywords.That q) (spell_propositions ps) g))

pub as_one : (b : List MarkedToken) → ((p : Place) → Agrees b (key keywords.That p ∷ []) → ⊥) → Reshapes hypotheses_form proposition_form (λ k. hypotheses_tree.One k) b
as_one b h = record {
  into = λ k is. is;
  spells = λ k is. refl;
  only = λ x is g. only_one b h x is g;
  goes = λ k t is g. or_left (tokens_of goes_on_proposition t) (is_and_key (keyword_of t)) g;
  level = λ k is. refl;
}

begin_one : (room : ℕ) (b : List MarkedToken) → ((p : Place) → Agrees b (key keywords.That p ∷ []) → ⊥) → Leads hypotheses_form proposition_form room (λ k. hypotheses_tree.One k) b b
begin_one room b h = leads_as hypotheses_form proposition_form (λ k. hypotheses_tree.One k) room b (as_one b h)

pub one_refused : (room : ℕ) (b c after : List MarkedToken) (r : Refusal) → TakesKey keywords.That b None c → Refuses proposition_form room c r after → Refuses hypotheses_form room b r after
one_refused room b c after r n h = let R : List MarkedToken → Type 0 = λ z. Refuses proposition_form room z r after in passes hypotheses_form proposition_form room (λ k. hypotheses_tree.One k) b b after r (begin_one room b n.1) (subst R (sym n.0) h)

pub one_found : (room : ℕ) (k : PropositionTree) (b c after : List MarkedToken) → TakesKey keywords.That b None c → Found proposition_form room c k after → Found hypotheses_form room b (hypotheses_tree.One k) after
one_found room k b c after n h = let F : List MarkedToken → Type 0 = λ z. Found proposition_form room z k after in (begin_one room b n.1).finds k after (subst F (sym n.0) h)

-- Conditions.
abbrev pub behind_such : Form MarkedToken
behind_such = then (keyword keywords.That) (λ _. propositions_form)

abbrev pub parts_of_such : Form MarkedToken
parts_of_such = then (keyword keywords.Such) (λ _. behind_such)

abbrev pub make_such : parts_of_such.Tree → SuchTree
make_such k = record { such = k.0; that = k.1.0; propositions = k.1.1 }

pub such_goes : (k : parts_of_such.Tree) (t : MarkedToken) → parts_of_such.goes k t ≡ true → tokens_of goes_on_propositions t ≡ true
such_goes k t g = or_goes (behind_such.goes k.1 t) false (is_empty (behind_such.spell k.1)) (tokens_of goes_on_propositions t) (λ h. or_goes (tokens_of goes_on_propositions t) false (is_empty (spell_propositions k.1.1)) (tokens_of goes_on_propositions t) (λ i. i) (λ i. absurd (never i)) h) (λ h. absurd (never h)) g

pub as_such : (b : List MarkedToken) → Reshapes such_form parts_of_such make_such b
as_such b = record {
  into = λ k is. is.1.1;
  spells = λ k is. refl;
  only = λ x is g. ((x.such, (x.that, x.propositions)), (tt, (tt, is)), refl);
  goes = λ k t is g. such_goes k t g;
  level = λ k is. refl;
}

begin_such : (room : ℕ) (b : List MarkedToken) → Leads such_form parts_of_such room make_such b b
begin_such room b = leads_as such_form parts_of_such make_such room b (as_such b)

abbrev pub some_condition : PropositionsTree
some_condition = record { first = plainly some_formula; more = [] }

pub such_refused : (room : ℕ) (b after : List MarkedToken) (e : Refusal) → Refuses (keyword keywords.Such) 0 b e after → Refuses such_form room b e after
such_refused room b after e h = passes such_form parts_of_such room make_such b b after e (begin_such room b) (first_word_refuses Place (key keywords.Such) (λ _. behind_such) (λ p. ((nowhere, some_condition), (tt, (((tt, tt), tt), tt)))) room b after e h)

module _ (room : ℕ) (p : Place) (b c : List MarkedToken) (h : Found (keyword keywords.Such) 0 b p c) where
  behind_word_such : Leads such_form behind_such room (λ k. make_such (p, k)) b c
  behind_word_such = leads_on such_form parts_of_such behind_such room make_such (beside (keyword keywords.Such) (λ _. behind_such) p) b b c (begin_such room b) (behind_word Place (key keywords.Such) (λ _. behind_such) room b c p h)

  pub such_that_refused : (after : List MarkedToken) (e : Refusal) → Refuses (keyword keywords.That) 0 c e after → Refuses such_form room b e after
  such_that_refused after e g = passes such_form behind_such room (λ k. make_such (p, k)) b c after e behind_word_such (first_word_refuses Place (key keywords.That) (λ _. propositions_form) (λ q. (some_condition, (((tt, tt), tt), tt))) room c after e g)

  module _ (q : Place) (d : List MarkedToken) (f : Found (keyword keywords.That) 0 c q d) where
    behind_that : Leads such_form propositions_form room (λ k. make_such (p, (q, k))) b d
    behind_that = leads_on such_form behind_such propositions_form room (λ k. make_such (p, k)) (beside (keyword keywords.That) (λ _. propositions_form) q) b c d behind_word_such (behind_word Place (key keywords.That) (λ _. propositions_form) room c d q f)

    pub condition_refused : (after : List MarkedToken) (e : Refusal) → Refuses propositions_form room d e after → Refuses such_form room b e after
    condition_refused after e g = passes such_form propositions_form room (λ k. make_such (p, (q, k))) b d after e behind_that g

    pub such_found : (k : PropositionsTree) (after : List MarkedToken) → Found propositions_form room d k after → Found such_form room b (record { such = p; that = q; propositions = k }) after
    such_found k after g = behind_that.finds k after g
