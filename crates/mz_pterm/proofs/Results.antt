-- Where the functions that read brackets, applications and selectors return.
use Rattle.std.proofs.Common.{◌≡◌, ℕ, ◌-◌, ◌<◌, Bool, true, List, ◌∷◌, sym, ap, subst, arith, None, Some, length}
use Rattle.mz_base.specs.declared.place.Place.{Place}
use Rattle.mz_base.specs.declared.token.MarkedToken.{MarkedToken}
use Rattle.mz_forms.specs.declared.refusal.Refusal.{Refusal}
use Rattle.mz_forms.specs.Form.{Form, Found, Fails, Leads, then, nested}
use Rattle.mz_forms.specs.Reading.{Refuses}
use Rattle.mz_forms.proofs.Leads.{leads_on, beside, passes}
use Rattle.mz_forms.proofs.Nested.{found_under, refuses_under}
use Rattle.mz_forms.proofs.Words.{word_in_any, word_refuses}
use Rattle.mz_tree.specs.declared.word.Word.{Word}
use Rattle.mz_tree.specs.Trees.{TermData, TermsData}
use Rattle.mz_pterm.specs.declared.sign.Sign.{Sign}
use Rattle.mz_pterm.specs.declared.sign.Sign.TheVariants as signs
use Rattle.mz_pterm.specs.declared.terms.Selected.TheVariants as selecteds
use Rattle.mz_pterm.specs.Classes.{closes}
use Rattle.mz_pterm.specs.Sign.{sign_of}
use Rattle.mz_pterm.specs.Words.{fixed, named, word, name, TakesPlace}
use Rattle.mz_pterm.specs.Forms.{operand_form, term_form, terms_form, to_close, bracket, single, brackets, arguments, no_arguments, some_arguments, call_form, call_with, selection, alone_selection, of_selection, selected_with, IsSelected}
use Rattle.mz_pterm.proofs.Bases.{term_at, parenthesized, make_call, make_arguments}
use Rattle.mz_pterm.proofs.Operands.{the_rest, make_selected}
use Rattle.mz_pterm.proofs.Steps.{behind_opening, opening_refuses, behind_terms, terms_refuse, some_to_close, behind_term, term_refuses, to_name, behind_left, behind_named_terms, named_terms_refuse, begin_call, some_arguments_at, closed_found, begin_arguments, take_the, behind_selector, selector_refuses, take_of, alone_found, of_refused}

-- Terms and the bracket that closes.
module _ (field : Bool) (c : Sign) (closed : closes c ≡ true) (room : ℕ) (more : 0 < room) where
  pub close_terms_refused : (d after : List MarkedToken) (e : Refusal) → Refuses (terms_form field) (room - 1) d e after → Refuses (to_close field c) room d e after
  close_terms_refused d after e h = terms_refuse field c closed room d after e (refuses_under (terms_form field) room (room - 1) (omega (arith, more)) d after e h)

  pub close_refused : (d g after : List MarkedToken) (ts : TermsData) (e : Refusal) → Found (terms_form field) (room - 1) d ts g → Refuses (word c) 0 g e after → Refuses (to_close field c) room d e after
  close_refused d g after ts e f h = passes (to_close field c) (word c) room _ d g after e (behind_terms field c closed room d g ts (found_under (terms_form field) room (room - 1) (omega (arith, more)) d g ts f)) (word_refuses Place (fixed c) room g after e h)

  pub close_found : (d g after : List MarkedToken) (ts : TermsData) (q : Place) → Found (terms_form field) (room - 1) d ts g → Found (word c) 0 g q after → Found (to_close field c) room d (ts, q) after
  close_found d g after ts q f h = (behind_terms field c closed room d g ts (found_under (terms_form field) room (room - 1) (omega (arith, more)) d g ts f)).finds q after (word_in_any Place (fixed c) room g after q h)

  -- behind a bracket that opens
  pub bracket_refused : (s : Sign) (p : Place) (b d after : List MarkedToken) (e : Refusal) → Found (nested (word s)) room b p d → Refuses (to_close field c) room d e after → Refuses (bracket field s c) room b e after
  bracket_refused s p b d after e f h = passes (bracket field s c) (to_close field c) room _ b d after e (behind_opening s (λ _. to_close field c) room b d p f) h

  pub bracket_found : (s : Sign) (p : Place) (b d after : List MarkedToken) (k : (to_close field c).Tree) → Found (nested (word s)) room b p d → Found (to_close field c) room d k after → Found (bracket field s c) room b (p, k) after
  bracket_found s p b d after k f h = (behind_opening s (λ _. to_close field c) room b d p f).finds k after h

pub bracket_unopened : (field : Bool) (s c : Sign) (room : ℕ) (b after : List MarkedToken) (e : Refusal) → Refuses (nested (word s)) room b e after → Refuses (bracket field s c) room b e after
bracket_unopened field s c room b after e h = opening_refuses s (λ _. to_close field c) (some_to_close field c) room b after e h

-- One term in parentheses.
abbrev to_close_one : Bool → Form MarkedToken
to_close_one field = then (nested (term_form field)) (λ _. word signs.Close)

pub single_unopened : (field : Bool) (room : ℕ) (b after : List MarkedToken) (e : Refusal) → Refuses (nested (word signs.Open)) room b e after → Refuses (single field) room b e after
single_unopened field room b after e h = opening_refuses signs.Open (λ _. to_close_one field) (λ p. ((term_at p, p), ((tt, tt), tt))) room b after e h

module _ (field : Bool) (room : ℕ) (more : 0 < room) (p : Place) (b d : List MarkedToken) (opened : Found (nested (word signs.Open)) room b p d) where
  pub single_term_refused : (after : List MarkedToken) (e : Refusal) → Refuses (term_form field) (room - 1) d e after → Refuses (single field) room b e after
  single_term_refused after e h = passes (single field) (to_close_one field) room _ b d after e (behind_opening signs.Open (λ _. to_close_one field) room b d p opened)
      (term_refuses field room d after e (refuses_under (term_form field) room (room - 1) (omega (arith, more)) d after e h))

  pub single_refused : (t : TermData) (g after : List MarkedToken) (e : Refusal) → Found (term_form field) (room - 1) d t g → Refuses (word signs.Close) 0 g e after → Refuses (single field) room b e after
  single_refused t g after e f h = passes (single field) (to_close_one field) room _ b d after e (behind_opening signs.Open (λ _. to_close_one field) room b d p opened)
      (passes (to_close_one field) (word signs.Close) room _ d g after e (behind_term field room d g t (found_under (term_form field) room (room - 1) (omega (arith, more)) d g t f)) (word_refuses Place (fixed signs.Close) room g after e h))

  pub single_found : (t : TermData) (q : Place) (g after : List MarkedToken) → Found (term_form field) (room - 1) d t g → Found (word signs.Close) 0 g q after → Found (single field) room b (p, (t, q)) after
  single_found t q g after f h = (behind_opening signs.Open (λ _. to_close_one field) room b d p opened).finds (t, q) after
      ((behind_term field room d g t (found_under (term_form field) room (room - 1) (omega (arith, more)) d g t f)).finds q after (word_in_any Place (fixed signs.Close) room g after q h))

-- Brackets of an environment.
module _ (field : Bool) (room : ℕ) (more : 0 < room) (w : Word) (b d : List MarkedToken) (opened : Found (nested (name signs.LeftBracket)) room b w d) where
  pub brackets_terms_refused : (after : List MarkedToken) (e : Refusal) → Refuses (terms_form field) (room - 1) d e after → Refuses (brackets field) room b e after
  brackets_terms_refused after e h = passes (brackets field) (to_name field) room _ b d after e (behind_left field room b d w opened)
      (named_terms_refuse field room d after e (refuses_under (terms_form field) room (room - 1) (omega (arith, more)) d after e h))

  pub brackets_refused : (ts : TermsData) (g after : List MarkedToken) (e : Refusal) → Found (terms_form field) (room - 1) d ts g → Refuses (name signs.RightBracket) 0 g e after → Refuses (brackets field) room b e after
  brackets_refused ts g after e f h = passes (brackets field) (to_name field) room _ b d after e (behind_left field room b d w opened)
      (passes (to_name field) (name signs.RightBracket) room _ d g after e (behind_named_terms field room d g ts (found_under (terms_form field) room (room - 1) (omega (arith, more)) d g ts f)) (word_refuses Word (named signs.RightBracket) room g after e h))

  pub brackets_found : (ts : TermsData) (v : Word) (g after : List MarkedToken) → Found (terms_form field) (room - 1) d ts g → Found (name signs.RightBracket) 0 g v after → Found (brackets field) room b (w, (ts, v)) after
  brackets_found ts v g after f h = (behind_left field room b d w opened).finds (ts, v) after
      ((behind_named_terms field room d g ts (found_under (terms_form field) room (room - 1) (omega (arith, more)) d g ts f)).finds v after (word_in_any Word (named signs.RightBracket) room g after v h))

-- An application.
module _ (field : Bool) (room : ℕ) (t : MarkedToken) (b rest : List MarkedToken) (h : sign_of t ≡ signs.Open) (is : b ≡ t ∷ rest) where
  pub call_unopened : (after : List MarkedToken) (e : Refusal) → Refuses (nested (word signs.Open)) room b e after → Refuses (call_form field) room b e after
  call_unopened after e g = passes (call_form field) (parenthesized field) room make_call b b after e (begin_call field room t b rest h is) (opening_refuses signs.Open (λ _. arguments field) (some_arguments_at field) room b after e g)

  module _ (p : Place) (d : List MarkedToken) (opened : Found (nested (word signs.Open)) room b p d) where
    abbrev pub behind_parenthesis : Leads (call_form field) (arguments field) room (call_with p) b d
    behind_parenthesis = leads_on (call_form field) (parenthesized field) (arguments field) room make_call (beside (nested (word signs.Open)) (λ _. arguments field) p) b b d (begin_call field room t b rest h is) (behind_opening signs.Open (λ _. arguments field) room b d p opened)

    pub call_closed : (q : Place) (after : List MarkedToken) → d ≡ fixed signs.Close q ∷ after → Found (call_form field) room b (call_with p (no_arguments q)) after
    call_closed q after e = behind_parenthesis.finds (no_arguments q) after (closed_found field room q d after e)

    pub call_refused : (g after : List MarkedToken) (e : Refusal) → TakesPlace signs.Close d None g → Refuses (to_close field signs.Close) room g e after → Refuses (call_form field) room b e after
    call_refused g after e n r =
        let R : List MarkedToken → Type 0 = λ z. Refuses (to_close field signs.Close) room z e after in
        passes (call_form field) (arguments field) room (call_with p) b d after e behind_parenthesis
        (passes (arguments field) (to_close field signs.Close) room make_arguments d d after e (begin_arguments field room d n.1) (subst R (sym n.0) r))

    pub call_found : (g after : List MarkedToken) (ts : TermsData) (q : Place) → TakesPlace signs.Close d None g → Found (to_close field signs.Close) room g (ts, q) after → Found (call_form field) room b (call_with p (some_arguments ts q)) after
    call_found g after ts q n f =
        let F : List MarkedToken → Type 0 = λ z. Found (to_close field signs.Close) room z (ts, q) after in
        behind_parenthesis.finds (some_arguments ts q) after ((begin_arguments field room d n.1).finds (ts, q) after (subst F (sym n.0) f))

-- A selector.
module _ (field behind : Bool) (room : ℕ) (p : Place) (b c : List MarkedToken) (is : b ≡ fixed signs.The p ∷ c) where
  pub the_refused : (after : List MarkedToken) (e : Refusal) → Refuses (name signs.Selector) 0 c e after → Refuses (operand_form field behind) room b e after
  the_refused after e h = passes (operand_form field behind) (the_rest field) room (make_selected p) b c after e (take_the field behind room p b c is) (selector_refuses field room c after e (word_refuses Word (named signs.Selector) room c after e h))

  module _ (w : Word) (d : List MarkedToken) (found : Found (name signs.Selector) 0 c w d) where
    behind_the : Leads (operand_form field behind) (selection field) room (selected_with p w) b d
    behind_the = leads_on (operand_form field behind) (the_rest field) (selection field) room (make_selected p) (beside (name signs.Selector) (λ _. selection field) w) b c d (take_the field behind room p b c is) (behind_selector field room c d w (word_in_any Word (named signs.Selector) room c d w found))

    shorter_by : (q : Place) (e : List MarkedToken) → d ≡ fixed signs.Of q ∷ e → length e < length b
    shorter_by q e f =
        let g : length b ≡ length (fixed signs.The p ∷ c) = ap length is in
        let h : length c ≡ length (named signs.Selector w ∷ d) = ap length found.found.split in
        let i : length d ≡ length (fixed signs.Of q ∷ e) = ap length f in
        omega (arith, g, h, i)

    pub the_of : (q : Place) (after : List MarkedToken) → d ≡ fixed signs.Of q ∷ after → IsSelected field behind room b after (Some (selecteds.Of p w q))
    the_of q after e = (leads_on (operand_form field behind) (selection field) (operand_form field true) room (selected_with p w) (of_selection q) b d after behind_the (take_of field room q d after e), shorter_by q after e)

    pub the_alone : (after : List MarkedToken) → field ≡ true → TakesPlace signs.Of d None after → IsSelected field behind room b after (Some (selecteds.Alone p w))
    the_alone after f h = behind_the.finds alone_selection after (alone_found field room d after f h)

    pub the_not_alone : (after : List MarkedToken) → (field ≡ true → ⊥) → TakesPlace signs.Of d None after → Fails (operand_form field behind) room b after
    the_not_alone after f h = behind_the.fails after (of_refused field room d after f h)
