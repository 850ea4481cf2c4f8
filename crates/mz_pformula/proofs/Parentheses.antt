-- A parenthesis, which opens a formula or terms.
use Rattle.std.specs.declared.alloc.Global.{Global}
use Rattle.std.proofs.Common.{◌≡◌, ℕ, ◌-◌, ◌<◌, Bool, true, false, ◌||◌, ◌&&◌, List, [], ◌∷◌, ◌++◌, map, suc, refl, sym, ap, subst, ◌∙◌, append_assoc, arith, Result, Box}
use Rattle.mz_base.specs.declared.place.Place.{Place}
use Rattle.mz_base.specs.declared.token.MarkedToken.{MarkedToken}
use Rattle.mz_forms.specs.declared.refusal.Refusal.{Refusal}
use Rattle.mz_forms.specs.Form.{Found, Leads, is_empty, nested}
use Rattle.mz_forms.specs.Reading.{Refuses, Builds}
use Rattle.mz_forms.specs.Chain.{spell_chain, levels_chain}
use Rattle.mz_forms.proofs.Compose.{Apart, head_of}
use Rattle.mz_forms.proofs.Choose.{Turns}
use Rattle.mz_forms.proofs.Leads.{leads_turn, leads_behind, leads_on, beside, passes, first_refuses, gives_through}
use Rattle.mz_forms.proofs.Lists.{either}
use Rattle.mz_forms.proofs.Nested.{found_under, refuses_under}
use Rattle.mz_forms.proofs.Words.{found_nothing, behind_word, first_word_refuses}
use Rattle.mz_tree.specs.declared.nodes.UnitNode.{UnitNode}
use Rattle.mz_tree.specs.Trees.{TermData, TermsData, BaseData, PieceList, FormulaData, RunTerm, FunctorPiece, OperandPiece, SelectorPrefix, ChoiceOfPrefix, ChoiceOverPrefix, GroupBase, GroupUnit, no_pieces, more_pieces, no_prefixs, more_prefixs}
use Rattle.mz_tree.specs.Spell.{spell_terms, spell_base, spell_piece_list, spell_formula}
use Rattle.mz_tree.specs.Levels.{levels_terms, levels_piece_list}
use Rattle.mz_tree.specs.Rules.{last_with, is_several, AreTerms}
use Rattle.mz_tree.specs.Views.{unit_of}
use Rattle.mz_pterm.specs.declared.sign.Sign.TheVariants as signs
use Rattle.mz_pterm.specs.Classes.{goes_on_term, goes_on_terms, is_list_comma}
use Rattle.mz_pterm.specs.Sign.{sign_of}
use Rattle.mz_pterm.specs.Words.{fixed, word}
use Rattle.mz_pterm.specs.Forms.{rest_of_term, term_links}
use Rattle.mz_pterm.proofs.Signs.{told_fixed, sign_of-fixed, sign_of-functor}
use Rattle.mz_pterm.proofs.Bases.{Opens, group_opens, word_at}
use Rattle.mz_pterm.proofs.Operands.{some_terms, list_of, only_list, or_left, as_list}
use Rattle.mz_pterm.proofs.Steps.{behind_opening, opening_refuses}
use Rattle.mz_ptype.proofs.Optional.{never}
use Rattle.mz_ptype.proofs.AdjectiveSteps.{nowhere}
use Rattle.mz_patom.specs.declared.atoms.Opening as rust_opening
use Rattle.mz_patom.specs.declared.atoms.Opening.TheVariants as openings
use Rattle.mz_patom.specs.Classes.{goes_on_atom, goes_open}
use Rattle.mz_patom.specs.Forms.{Opening, unit_opening, spell_opening, levels_opening, IsOpening, goes_opening, opening_form, Tail, no_tail, spell_tail, levels_tail, IsTail, join, with_group, group_tail, make_group_tail, opening_of, ReadsBehindGroup}
use Rattle.mz_patom.proofs.Tails.{terms_on}
use Rattle.mz_pformula.specs.Classes.{NotTaken}
use Rattle.mz_pformula.specs.Forms.{any_operator}
use Rattle.mz_pformula.specs.Inside.{Inside, formula_inside, terms_inside, inside_form, behind_inside, closed_inside, opened_inside, parenthesis_form, parenthesis_with, opening_takes, ReadsOpening, ReadsParenthesis}
use Rattle.mz_pformula.proofs.Openings.{Begins, quantified_first, group_first, atom_first, opening_filled, join_is, join_spells, join_levels, join_goes}
use Rattle.mz_pformula.proofs.Operators.{takes_none}
use Rattle.mz_pformula.proofs.Units.{begins_as, join_quiet}
use Rattle.mz_pformula.proofs.Identifiers.{base_opens}
use Rattle.mz_pformula.proofs.Quantifiers.{some_formula}

-- Terms that begin with a parenthesis begin with a group of terms.
group_from : (field : Bool) (k : Tail) (b : BaseData) (ps : PieceList) (ms : List (Place × TermData)) → Opens signs.Open b → (some_terms field).IsTree (RunTerm (OperandPiece no_prefixs b) ps, ms) → IsTail field (list_of (RunTerm (OperandPiece no_prefixs b) ps, ms)) k →
    (x : (parenthesis_form field).Tree) × (parenthesis_form field).IsTree x × (join (list_of (RunTerm (OperandPiece no_prefixs b) ps, ms)) k ≡ parenthesis_with field x)
group_from field k b ps ms (group_opens p us q) is isk = ((p, (terms_inside us, (q, (ps, (ms, k))))), (tt, (is.0.0.2, (tt, (is.0.1, (is.1, isk))))), refl)

group_of_list : (field : Bool) (k : Tail) (t : MarkedToken) (m : List MarkedToken) → sign_of t ≡ signs.Open → (y : (some_terms field).Tree) → (some_terms field).IsTree y → IsTail field (list_of y) k → spell_terms (list_of y) ++ spell_tail field k ≡ t ∷ m →
    (x : (parenthesis_form field).Tree) × (parenthesis_form field).IsTree x × (join (list_of y) k ≡ parenthesis_with field x)
group_of_list field k t m h (RunTerm (FunctorPiece w n) ps, ms) is isk e = absurd (clash (sym (sign_of-functor w n) ∙ (ap sign_of (head_of _ _ _ _ e) ∙ h)))
  where
    clash : signs.Functor ≡ signs.Open → ⊥
    clash f = cc
group_of_list field k t m h (RunTerm (OperandPiece (more_prefixs (SelectorPrefix p w q) vs) b) ps, ms) is isk e = absurd (clash (sym (sign_of-fixed signs.The p refl) ∙ (ap sign_of (head_of _ _ _ _ e) ∙ h)))
  where
    clash : signs.The ≡ signs.Open → ⊥
    clash f = cc
group_of_list field k t m h (RunTerm (OperandPiece (more_prefixs (ChoiceOfPrefix p v w q x) vs) b) ps, ms) is isk e = absurd is.0.0.1
group_of_list field k t m h (RunTerm (OperandPiece (more_prefixs (ChoiceOverPrefix p v w q x) vs) b) ps, ms) is isk e = absurd is.0.0.1
group_of_list field k t m h (RunTerm (OperandPiece no_prefixs b) ps, ms) is isk e = group_from field k b ps ms (base_opens field signs.Open b _ t m is.0.0.2 h (sym (three (spell_base b) (spell_piece_list ps) _ (spell_tail field k)) ∙ e)) is isk
  where
    three : {X : Type 0} (a b c d : List X) → ((a ++ b) ++ c) ++ d ≡ a ++ (b ++ (c ++ d))
    three a b c d = append_assoc (a ++ b) c d ∙ append_assoc a b (c ++ d)

pub only_group : (field : Bool) (ts : TermsData) (k : Tail) (t : MarkedToken) (m : List MarkedToken) → sign_of t ≡ signs.Open → AreTerms field ts → IsTail field ts k → spell_terms ts ++ spell_tail field k ≡ t ∷ m →
    (x : (parenthesis_form field).Tree) × (parenthesis_form field).IsTree x × (join ts k ≡ parenthesis_with field x)
only_group field ts k t m h is isk e =
    let y = only_list field ts is in
    let P : TermsData → Type 0 = λ z. IsTail field z k → spell_terms z ++ spell_tail field k ≡ t ∷ m → (x : (parenthesis_form field).Tree) × (parenthesis_form field).IsTree x × (join z k ≡ parenthesis_with field x) in
    subst P (sym y.2) (group_of_list field k t m h y.0 y.1) isk e

-- A formula or terms in parentheses as a unit or terms.
abbrev group_term : Place → TermsData → Place → PieceList → TermData
group_term p us q ps = RunTerm (OperandPiece no_prefixs (GroupBase p us q)) ps

pub parenthesis_is : (field : Bool) (x : (parenthesis_form field).Tree) → (parenthesis_form field).IsTree x → IsOpening field (parenthesis_with field x)
parenthesis_is field (p, (formula_inside f, (q, k))) is = is.1.0
parenthesis_is field (p, (terms_inside us, (q, (ps, (ms, k))))) is =
    join_is field (with_group p us q ps ms) k ((as_list field []).into (group_term p us q ps, ms) (((tt, tt, is.1.0, tt), is.1.1.1.0), is.1.1.1.1.0)) is.1.1.1.1.1

append-regroup : {X : Type 0} (a : List X) (c : X) (b d e : List X) → (((a ++ c ∷ []) ++ b) ++ d) ++ e ≡ a ++ c ∷ (b ++ (d ++ e))
append-regroup a c b d e = append_assoc ((a ++ c ∷ []) ++ b) d e ∙ (append_assoc (a ++ c ∷ []) b (d ++ e) ∙ append_assoc a (c ∷ []) (b ++ (d ++ e)))

pub parenthesis_spells : (field : Bool) (x : (parenthesis_form field).Tree) → (parenthesis_form field).IsTree x → spell_opening (parenthesis_with field x) ≡ (parenthesis_form field).spell x
parenthesis_spells field (p, (formula_inside f, (q, k))) is = refl
parenthesis_spells field (p, (terms_inside us, (q, (ps, (ms, k))))) is =
    let t = group_term p us q ps in
    let into : (some_terms field).IsTree (group_term p us q ps, ms) = (((tt, tt, is.1.0, tt), is.1.1.1.0), is.1.1.1.1.0) in
    join_spells field (with_group p us q ps ms) k is.1.1.1.1.1 ∙
    (ap (λ z. z ++ spell_tail field k) ((as_list field []).spells (t, ms) into) ∙
    ap (λ z. fixed signs.Open p ∷ z) (append-regroup (spell_terms us) (fixed signs.Close q) (spell_piece_list ps) (spell_chain (term_links field) ms) (spell_tail field k)))

parenthesis_levels : (field : Bool) (x : (parenthesis_form field).Tree) → (parenthesis_form field).IsTree x → levels_opening (parenthesis_with field x) ≡ (parenthesis_form field).levels x
parenthesis_levels field (p, (formula_inside f, (q, k))) is = refl
parenthesis_levels field (p, (terms_inside us, (q, (ps, (ms, k))))) is =
    let t = group_term p us q ps in
    let into : (some_terms field).IsTree (group_term p us q ps, ms) = (((tt, tt, is.1.0, tt), is.1.1.1.0), is.1.1.1.1.0) in
    join_levels field (with_group p us q ps ms) k is.1.1.1.1.1 ∙
    (ap (λ z. z ++ levels_tail field k) ((as_list field []).level (t, ms) into) ∙
    ap (λ z. 1 ∷ z) (append-regroup (map suc (levels_terms us)) 0 (levels_piece_list ps) (levels_chain (term_links field) ms) (levels_tail field k)))

pub parenthesis_goes : (field : Bool) (x : (parenthesis_form field).Tree) (t : MarkedToken) → (parenthesis_form field).goes x t ≡ true → goes_opening (parenthesis_with field x) (sign_of t) ≡ true
parenthesis_goes field (p, (formula_inside f, (q, k))) t g = absurd (never (either false false _ (λ h. h) g))
parenthesis_goes field (p, (terms_inside us, (q, (ps, (ms, k))))) t g =
    let s = sign_of t in
    let A = goes_on_atom s in
    let tail = either ((group_tail field p us q).goes (ps, (ms, k)) t) false _ (λ h. absurd (never h)) (either _ false false (λ h. absurd (never h)) (either _ false _ (λ h. absurd (never h)) g)) in
    join_goes (with_group p us q ps ms) k s (either A (goes_on_terms s) (is_empty (spell_tail field k)) (terms_on s)
    (either (A || (is_empty (spell_tail field k) && goes_on_terms s)) (goes_on_term s) (is_empty (spell_chain (term_links field) ms ++ spell_tail field k)) (λ h. or_left A (is_empty (spell_tail field k) && goes_on_terms s) (terms_on s (or_left (goes_on_term s) (is_list_comma s) h))) tail))

only_parenthesis : (field : Bool) (x : Opening) (t : MarkedToken) (m : List MarkedToken) → sign_of t ≡ signs.Open → IsOpening field x → spell_opening x ≡ t ∷ m → Begins field signs.Open x → (k : (parenthesis_form field).Tree) × (parenthesis_form field).IsTree k × (x ≡ parenthesis_with field k)
only_parenthesis field x t m h is e (group_first f p g q) = ((p, (formula_inside g, (q, tt))), (tt, (is, (tt, tt))), refl)
only_parenthesis field x t m h is e (quantified_first f s q g) = cc
only_parenthesis field x t m h is e (atom_first f s ts k g i j) = only_group field ts k t m h i j (sym (join_spells field ts k j) ∙ e)

parenthesis_filled : (field : Bool) (k : (parenthesis_form field).Tree) → (parenthesis_form field).spell k ≡ [] → ⊥
parenthesis_filled field k e = cc

pub turn_parenthesis : (field : Bool) (t : MarkedToken) → sign_of t ≡ signs.Open → Turns (opening_form field) (parenthesis_form field) (parenthesis_with field) t
turn_parenthesis field t h = record {
  into = parenthesis_is field;
  spells = parenthesis_spells field;
  only = λ x m is e. only_parenthesis field x t m h is e (begins_as field signs.Open x t m h is e);
  empty = λ x is e. absurd (opening_filled field x is e);
  filled = λ k is e. parenthesis_filled field k e;
  goes = λ k s is g. parenthesis_goes field k s g;
  level = parenthesis_levels field;
  begins = (
    (t.token.place, (formula_inside some_formula, (t.token.place, tt))),
    spell_formula some_formula ++ fixed signs.Close t.token.place ∷ [],
    (tt, (((tt, tt), tt), (tt, tt))),
    ap (λ z. z ∷ (spell_formula some_formula ++ fixed signs.Close t.token.place ∷ [])) (sym (told_fixed signs.Open t refl h)),
  );
}

-- Nothing that goes on a formula or terms closes.
pub close_apart : (field : Bool) (p : Place) → Apart (nested (inside_form field)) (closed_inside field p)
close_apart field p i k s x isa isk e g = never (sym (ap (goes_open any_operator) (sym (ap sign_of (head_of _ _ _ _ e)) ∙ sign_of-fixed signs.Close k.0 refl)) ∙ g)

some_inner : (field : Bool) (p : Place) (i : Inside) (q : Place) → (k : (behind_inside field p i q).Tree) × (behind_inside field p i q).IsTree k
some_inner field p (formula_inside f) q = (tt, tt)
some_inner field p (terms_inside us) q = let r = some_rest (is_several (GroupBase p us q)) in ((r.0, ([], no_tail)), (r.1, (tt, tt)))
  where
    some_rest : (b : Bool) → (k : PieceList) × (rest_of_term field (last_with b)).IsTree k
    some_rest true = (more_pieces (FunctorPiece (word_at nowhere) 0) no_pieces, (tt, tt))
    some_rest false = (no_pieces, tt)

some_closed : (field : Bool) (p : Place) (i : Inside) → (k : (closed_inside field p i).Tree) × (closed_inside field p i).IsTree k
some_closed field p i = let r = some_inner field p i nowhere in ((nowhere, r.0), (tt, r.1))

some_opened : (field : Bool) (p : Place) → (k : (opened_inside field p).Tree) × (opened_inside field p).IsTree k
some_opened field p = ((formula_inside some_formula, (nowhere, tt)), (((tt, tt), tt), (tt, tt)))

-- The exits of the reading of a parenthesis.
pub begin_parenthesis : (field : Bool) (room : ℕ) (t : MarkedToken) (b rest : List MarkedToken) → sign_of t ≡ signs.Open → b ≡ t ∷ rest → Leads (opening_form field) (parenthesis_form field) room (parenthesis_with field) b b
begin_parenthesis field room t b rest h e = leads_turn (opening_form field) (parenthesis_form field) (parenthesis_with field) t (turn_parenthesis field t h) room b rest e

pub open_refuses : (field : Bool) (room : ℕ) (b after : List MarkedToken) (e : Refusal) → Refuses (nested (word signs.Open)) room b e after → Refuses (parenthesis_form field) room b e after
open_refuses field room b after e h = opening_refuses signs.Open (opened_inside field) (some_opened field) room b after e h

module _ (field : Bool) (room : ℕ) (more : 0 < room) (p : Place) (b c : List MarkedToken) (opened : Found (nested (word signs.Open)) room b p c) where
  behind_open : Leads (parenthesis_form field) (opened_inside field p) room (beside (nested (word signs.Open)) (opened_inside field) p) b c
  behind_open = behind_opening signs.Open (opened_inside field) room b c p opened

  pub inside_refuses : (after : List MarkedToken) (e : Refusal) → Refuses (inside_form field) (room - 1) c e after → Refuses (parenthesis_form field) room b e after
  inside_refuses after e h = passes (parenthesis_form field) (opened_inside field p) room (beside (nested (word signs.Open)) (opened_inside field) p) b c after e behind_open
      (first_refuses (nested (inside_form field)) (closed_inside field p) (close_apart field p) room c after e (λ i is. some_closed field p i)
      (refuses_under (inside_form field) room (room - 1) (omega (arith, more)) c after e h))

  module _ (i : Inside) (d : List MarkedToken) (read : Found (inside_form field) (room - 1) c i d) where
    behind_read : Leads (parenthesis_form field) (closed_inside field p i) room (λ k. (p, (i, k))) b d
    behind_read = leads_on (parenthesis_form field) (opened_inside field p) (closed_inside field p i) room (beside (nested (word signs.Open)) (opened_inside field) p) (beside (nested (inside_form field)) (closed_inside field p) i) b c d behind_open
        (leads_behind (nested (inside_form field)) (closed_inside field p) (close_apart field p) room c d i (found_under (inside_form field) room (room - 1) (omega (arith, more)) c d i read))

    pub close_refuses : (after : List MarkedToken) (e : Refusal) → Refuses (word signs.Close) 0 d e after → Refuses (parenthesis_form field) room b e after
    close_refuses after e h = passes (parenthesis_form field) (closed_inside field p i) room (λ k. (p, (i, k))) b d after e behind_read
        (first_word_refuses Place (fixed signs.Close) (behind_inside field p i) (some_inner field p i) room d after e h)

    module _ (q : Place) (f : List MarkedToken) (closed : Found (word signs.Close) 0 d q f) where
      behind_closed : Leads (parenthesis_form field) (behind_inside field p i q) room (λ k. (p, (i, (q, k)))) b f
      behind_closed = leads_on (parenthesis_form field) (closed_inside field p i) (behind_inside field p i q) room (λ k. (p, (i, k))) (beside (word signs.Close) (behind_inside field p i) q) b d f behind_read
          (behind_word Place (fixed signs.Close) (behind_inside field p i) room d f q closed)

-- a formula in parentheses
module _ (field : Bool) (room : ℕ) (more : 0 < room) (p : Place) (b c : List MarkedToken) (opened : Found (nested (word signs.Open)) room b p c) where
  pub formula_closed : (f : FormulaData) (d : List MarkedToken) → Found (inside_form field) (room - 1) c (formula_inside f) d → (q : Place) (after : List MarkedToken) → Found (word signs.Close) 0 d q after → (x : UnitNode) (u : Box UnitNode Global) → unit_of x ≡ GroupUnit p f q → u.value ≡ x →
      Builds (parenthesis_form field) room (parenthesis_with field) (opening_of (openings.Unit u)) b after
  formula_closed f d read q after closed x u e g = (
    (p, (formula_inside f, (q, tt))),
    (behind_closed field room more p b c opened (formula_inside f) d read q after closed).finds tt after (found_nothing room after),
    ap (λ z. unit_opening z) (ap unit_of g ∙ e),
  )

  -- terms in parentheses, with what goes on with them
  pub terms_closed : (us : TermsData) (d : List MarkedToken) → Found (inside_form field) (room - 1) c (terms_inside us) d → (q : Place) (f : List MarkedToken) → Found (word signs.Close) 0 d q f → (after : List MarkedToken) (r : Result rust_opening.Opening Refusal) → ReadsBehindGroup field room p us q f r after → ReadsParenthesis field room b r after
  terms_closed us d read q f closed after r given =
      let leads = behind_closed field room more p b c opened (terms_inside us) d read q f closed in
      gives_through (parenthesis_form field) (group_tail field p us q) room (λ x. Builds (parenthesis_form field) room (parenthesis_with field) (opening_of x) b after) (λ x. Builds (group_tail field p us q) room (make_group_tail p us q) (opening_of x) f after)
      (λ k. (p, (terms_inside us, (q, k)))) b f after r
      (λ x k. ((p, (terms_inside us, (q, k.0))), leads.finds k.0 after k.1, k.2))
      leads given

-- what a parenthesis is takes no operator
parenthesis_quiet : (field : Bool) (x : (parenthesis_form field).Tree) (after : List MarkedToken) → NotTaken (opening_takes (parenthesis_with field x)) after
parenthesis_quiet field (p, (formula_inside f, (q, k))) after = takes_none (opening_takes (unit_opening (GroupUnit p f q))) (λ o. refl) after
parenthesis_quiet field (p, (terms_inside us, (q, (ps, (ms, k))))) after = join_quiet (with_group p us q ps ms) k after

pub parenthesis_given : (field : Bool) (room : ℕ) (t : MarkedToken) (b rest after : List MarkedToken) (r : Result rust_opening.Opening Refusal) → sign_of t ≡ signs.Open → b ≡ t ∷ rest → ReadsParenthesis field room b r after → ReadsOpening field room b r after
parenthesis_given field room t b rest after r h e given =
    let leads = begin_parenthesis field room t b rest h e in
    gives_through (opening_form field) (parenthesis_form field) room (λ x. Found (opening_form field) room b (opening_of x) after × NotTaken (opening_takes (opening_of x)) after) (λ x. Builds (parenthesis_form field) room (parenthesis_with field) (opening_of x) b after) (parenthesis_with field) b b after r
    (λ x k. let F : Opening → Type 0 = λ z. Found (opening_form field) room b z after × NotTaken (opening_takes z) after in subst F (sym k.2) (leads.finds k.0 after k.1, parenthesis_quiet field k.0 after))
    leads given
