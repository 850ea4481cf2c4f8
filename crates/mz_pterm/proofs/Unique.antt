-- Two lists of terms that spell the same tokens are equal.
use Rattle.std.specs.Prelude.{codes}
use Rattle.std.proofs.Common.{◌≡◌, ℕ, zero, suc, ◌≤◌, true, false, Bool, List, [], ◌∷◌, ◌++◌, refl, sym, ap, subst, ◌∙◌, length, arith}
use Rattle.mz_base.specs.declared.place.Place.{Place}
use Rattle.mz_base.specs.declared.token.MarkedToken.{MarkedToken}
use Rattle.mz_forms.specs.Form.{Agrees, then, nested, nothing}
use Rattle.mz_forms.specs.Parse.{OneTree}
use Rattle.mz_forms.proofs.Compose.{head_of, append_nil}
use Rattle.mz_forms.proofs.Chain.{one_chain, pair_apart}
use Rattle.mz_forms.proofs.Leads.{apart_closed}
use Rattle.mz_forms.proofs.One.{One, OneAt, one_then, at_by, at_turn, at_as, at_token, one_from, one_nothing, one_class, one_zero, one_as, one_nested, one_tree}
use Rattle.mz_tree.specs.declared.word.Word.{Word}
use Rattle.mz_tree.specs.Spelled.{reserved}
use Rattle.mz_tree.specs.Trees.{BaseData, PieceList, PrefixList, FunctorPiece, OperandPiece, SubjectBase, ArgumentBase, no_pieces, more_pieces}
use Rattle.mz_tree.specs.Spell.{spell_base, spell_term, spell_piece_list, spell_prefix_list}
use Rattle.mz_tree.specs.Rules.{Last, start, IsTerm, AreTerms, IsBase, GoesOn, last_of}
use Rattle.mz_tree.specs.Rules as rules_of
use Rattle.mz_pterm.specs.declared.sign.Sign.{Sign}
use Rattle.mz_pterm.specs.declared.sign.Sign.TheVariants as signs
use Rattle.mz_pterm.specs.Classes.{begins_operand, closes, goes_on_term}
use Rattle.mz_pterm.specs.Sign.{sign_of}
use Rattle.mz_pterm.specs.Words.{is_fixed, fixed, is_named, named, word_of, word, name}
use Rattle.mz_pterm.specs.Forms.{spell_operand, operand_form, base_form, Selection, alone_selection, of_selection, selection, spell_selection, IsSelection, goes_selection, rest_of_term, term_form, term_links, more_terms, terms_form, to_close, bracket, single, make_group, make_single, aggregate, make_aggregate, brackets, brackets_base, no_arguments, arguments, Call, no_call, call_with, call_form, spell_call, IsCall, goes_call, called}
use Rattle.mz_pterm.proofs.Signs.{told_fixed, told_named, told_number, sign_of-fixed, sign_of-functor, same_fixed, same_named}
use Rattle.mz_pterm.proofs.Bases.{Opens, identifier_opens, call_opens, call_with_opens, it_opens, argument_opens, group_opens, selector_opens, aggregate_opens, brackets_opens, braces_opens, squares_opens, opens, base_filled, terms_close, term_close, terms_close_name, make_braces, turn_braces, make_squares, turn_squares, turn_group, turn_single, turn_brackets, by_structure, by_it, by_argument, by_identifier, parenthesized, make_call, turn_call, make_arguments, as_arguments}
use Rattle.mz_pterm.proofs.Operands.{unprefixed, as_base, operand_begins, operand_filled, operand_goes_on, the_rest, make_selected, by_the, by_of, by_functor, operand_first, put_operand, operand_apart, turn_operand, run_of, some_terms, list_of, as_list, linked_terms, by_close, arguments_filled, term_filled, only_run, only_list, run_spells}
use Rattle.mz_pterm.proofs.Steps.{to_name}

pub record TermsOne (field : Bool) (n : ℕ) : Type 0 where
  pub bases : (behind : Bool) → One n (base_form field behind)
  pub operands : (behind : Bool) → One n (operand_form field behind)
  pub selections : One n (selection field)
  pub runs : (l : Last) → One n (rest_of_term field l)
  pub terms : One n (term_form field)
  pub chains : (st : Unit {0}) → One n (more_terms field)
  pub lists : One n (terms_form field)
  pub inners : One n (arguments field)
  pub calls : One n (call_form field)

size : (w : List MarkedToken) → (w ≡ [] → ⊥) → 1 ≤ length w
size [] h = absurd (h refl)
size (t ∷ w) h = omega arith

module _ (field : Bool) (n : ℕ) (o : TermsOne field n) where
  words : (m : ℕ) (c : Sign) → is_fixed c ≡ true → One m (word c)
  words m c fix = one_class m Place (fixed c) (same_fixed c fix)

  names : (m : ℕ) (c : Sign) → is_named c ≡ true → One m (name c)
  names m c fix = one_class m Word (named c) (same_named c fix)

  closing : (c : Sign) (closed : closes c ≡ true) → is_fixed c ≡ true → One n (to_close field c)
  closing c closed fix = one_then n n (nested (terms_form field)) (λ _. word c) (terms_close field c closed) (one_nested n (terms_form field) o.lists) (λ a. words n c fix) (λ a l isa h. omega arith)

  bracketed : (s c : Sign) → is_fixed s ≡ true → closes c ≡ true → is_fixed c ≡ true → One (suc n) (bracket field s c)
  bracketed s c fix closed fixc = one_then (suc n) n (nested (word s)) (λ _. to_close field c) (apart_closed (nested (word s)) (λ _. to_close field c) (λ a t. refl)) (one_nested (suc n) (word s) (words (suc n) s fix)) (λ a. closing c closed fixc) (λ a l isa h. omega arith)

  aggregates : One n (aggregate field)
  aggregates = one_then n n (nested (word signs.OpenAggregate)) (λ _. to_close field signs.CloseAggregate) (apart_closed (nested (word signs.OpenAggregate)) (λ _. to_close field signs.CloseAggregate) (λ a t. refl)) (one_nested n (word signs.OpenAggregate) (words n signs.OpenAggregate refl)) (λ a. closing signs.CloseAggregate refl refl) (λ a l isa h. omega arith)

  singles : One (suc n) (single field)
  singles = one_then (suc n) n (nested (word signs.Open)) (λ _. then (nested (term_form field)) (λ _. word signs.Close)) (apart_closed (nested (word signs.Open)) (λ _. then (nested (term_form field)) (λ _. word signs.Close)) (λ a t. refl)) (one_nested (suc n) (word signs.Open) (words (suc n) signs.Open refl))
      (λ a. one_then n n (nested (term_form field)) (λ _. word signs.Close) (term_close field) (one_nested n (term_form field) o.terms) (λ b. words n signs.Close refl) (λ b l isb h. omega arith)) (λ a l isa h. omega arith)

  bracket_pairs : One (suc n) (brackets field)
  bracket_pairs = one_then (suc n) n (nested (name signs.LeftBracket)) (λ _. to_name field) (apart_closed (nested (name signs.LeftBracket)) (λ _. to_name field) (λ a t. refl)) (one_nested (suc n) (name signs.LeftBracket) (names (suc n) signs.LeftBracket refl))
      (λ a. one_then n n (nested (terms_form field)) (λ _. name signs.RightBracket) (terms_close_name field) (one_nested n (terms_form field) o.lists) (λ b. names n signs.RightBracket refl) (λ b l isb h. omega arith)) (λ a l isa h. omega arith)

  -- bases
  base_at : (behind : Bool) (tok : MarkedToken) (x : BaseData) (s : Sign) → sign_of tok ≡ s → Opens s x → (base_form field behind).IsTree x → OneAt (suc n) (base_form field behind) tok
  base_at behind tok x s h (identifier_opens w) is = at_token (suc n) (base_form field behind) _ tok (sym (told_named signs.Identifier tok refl h)) (at_by n (base_form field behind) _ (call_form field) (called (word_of tok)) 0 (by_identifier field behind (word_of tok)) o.calls)
  base_at behind tok x s h (call_opens w p q) is = at_token (suc n) (base_form field behind) _ tok (sym (told_named signs.Identifier tok refl h)) (at_by n (base_form field behind) _ (call_form field) (called (word_of tok)) 0 (by_identifier field behind (word_of tok)) o.calls)
  base_at behind tok x s h (call_with_opens w p ts q) is = at_token (suc n) (base_form field behind) _ tok (sym (told_named signs.Identifier tok refl h)) (at_by n (base_form field behind) _ (call_form field) (called (word_of tok)) 0 (by_identifier field behind (word_of tok)) o.calls)
  base_at behind tok x s h (it_opens p) is = at_token (suc n) (base_form field behind) _ tok (sym (told_fixed signs.It tok refl h)) (at_by n (base_form field behind) _ nothing (λ _. SubjectBase tok.token.place) 0 (by_it field behind tok.token.place) (one_nothing n))
  base_at behind tok x s h (argument_opens p k) is = let g = told_number tok k h in at_token (suc n) (base_form field behind) _ tok (sym g.0) (at_by n (base_form field behind) _ nothing (λ _. ArgumentBase tok.token.place k) 0 (by_argument field behind tok.token.place k g.1 g.2) (one_nothing n))
  base_at true tok x s h (group_opens p ts q) is = at_turn (suc n) (base_form field true) (single field) make_single tok (turn_single field tok h) singles
  base_at false tok x s h (group_opens p ts q) is = at_turn (suc n) (base_form field false) (bracket field signs.Open signs.Close) make_group tok (turn_group field tok h) (bracketed signs.Open signs.Close refl refl refl)
  base_at behind tok x s h (selector_opens p w) is = absurd is.1
  base_at behind tok x s h (aggregate_opens w p ts q) is = at_token (suc n) (base_form field behind) _ tok (sym (told_named signs.Structure tok refl h)) (at_by n (base_form field behind) _ (aggregate field) (make_aggregate (word_of tok)) 0 (by_structure field behind (word_of tok)) aggregates)
  base_at behind tok x s h (brackets_opens w ts v) is = at_turn (suc n) (base_form field behind) (brackets field) brackets_base tok (turn_brackets field behind tok h) bracket_pairs
  base_at behind tok x s h (braces_opens p ts q) is = at_turn (suc n) (base_form field behind) (bracket field signs.OpenBrace signs.CloseBrace) make_braces tok (turn_braces field behind tok h) (bracketed signs.OpenBrace signs.CloseBrace refl refl refl)
  base_at behind tok x s h (squares_opens p ts q) is = at_turn (suc n) (base_form field behind) (bracket field signs.OpenSquare signs.CloseSquare) make_squares tok (turn_squares field behind tok h) (bracketed signs.OpenSquare signs.CloseSquare refl refl refl)

  bases_next : (behind : Bool) → One (suc n) (base_form field behind)
  bases_next behind = one_from (suc n) (base_form field behind) (λ a b isa isb ea eb. absurd (base_filled field a isa.0 ea)) (λ a b tok m isa isb ea eb. absurd (base_filled field a isa.0 ea))
      (λ a tok m isa e. base_at behind tok a (sign_of tok) refl (opens field a tok m isa.0 e) isa)

  -- operands
  not_the : (tok : MarkedToken) → (sign_of tok ≡ signs.The → ⊥) → (p : Place) → Agrees (tok ∷ []) (reserved p (codes "the") ∷ []) → ⊥
  not_the tok h p e = h (sym (ap sign_of e) ∙ sign_of-fixed signs.The p refl)

  the_rests : One n (the_rest field)
  the_rests = one_then n n (name signs.Selector) (λ _. selection field) (apart_closed (name signs.Selector) (λ _. selection field) (λ a t. refl)) (names n signs.Selector refl) (λ a. o.selections) (λ a l isa h. omega arith)

  operand_at : (behind : Bool) (tok : MarkedToken) (s : Sign) → sign_of tok ≡ s → OneAt (suc n) (operand_form field behind) tok
  operand_at behind tok signs.The h = at_token (suc n) (operand_form field behind) (fixed signs.The tok.token.place) tok (sym (told_fixed signs.The tok refl h)) (at_by n (operand_form field behind) (fixed signs.The tok.token.place) (the_rest field) (make_selected tok.token.place) 0 (by_the field behind tok.token.place) the_rests)
  operand_at behind tok _ h = at_as (suc n) (operand_form field behind) (base_form field behind) unprefixed tok (as_base field behind (tok ∷ []) (not_the tok (λ e. cc))) (bases_next behind)

  operands_next : (behind : Bool) → One (suc n) (operand_form field behind)
  operands_next behind = one_from (suc n) (operand_form field behind) (λ a b isa isb ea eb. absurd (operand_filled field a.prefixes a.base [] isa.0 isa.1 (append_nil _ ∙ ea))) (λ a b tok m isa isb ea eb. absurd (operand_filled field a.prefixes a.base [] isa.0 isa.1 (append_nil _ ∙ ea)))
      (λ a tok m isa e. operand_at behind tok (sign_of tok) refl)

  -- what stands behind a selector
  selection_at : (a : Selection) (tok : MarkedToken) (m : List MarkedToken) → IsSelection field a → spell_selection a ≡ tok ∷ m → OneAt (suc n) (selection field) tok
  selection_at alone_selection tok m isa e = cc
  selection_at (of_selection q x) tok m isa e = at_token (suc n) (selection field) (fixed signs.Of q) tok (head_of _ _ _ _ e) (at_by n (selection field) (fixed signs.Of q) (operand_form field true) (of_selection q) 0 (by_of field q) (o.operands true))

  empty_selections : (a b : Selection) → spell_selection a ≡ [] → spell_selection b ≡ [] → a ≡ b
  empty_selections alone_selection alone_selection e f = refl
  empty_selections alone_selection (of_selection q x) e f = cc
  empty_selections (of_selection q x) b e f = cc

  selection_goes : (a b : Selection) (tok : MarkedToken) (m : List MarkedToken) → spell_selection a ≡ [] → spell_selection b ≡ tok ∷ m → goes_selection a (sign_of tok) ≡ true
  selection_goes alone_selection alone_selection tok m e f = cc
  selection_goes alone_selection (of_selection q x) tok m e f = let G : MarkedToken → Type 0 = λ z. goes_selection alone_selection (sign_of z) ≡ true in subst G (head_of _ _ _ _ f) (ap (goes_selection alone_selection) (sign_of-fixed signs.Of q refl))
  selection_goes (of_selection q x) b tok m e f = cc

  selections_next : One (suc n) (selection field)
  selections_next = one_from (suc n) (selection field) (λ a b isa isb ea eb. empty_selections a b ea eb) (λ a b tok m isa isb ea eb. selection_goes a b tok m ea eb) selection_at

  -- runs
  first_at : (l : Last) → One (suc n) (operand_first field l)
  first_at l = one_then (suc n) n (operand_form field false) (λ x. rest_of_term field (last_of l x.base)) (operand_apart field l) (operands_next false) (λ a. o.runs (last_of l a.base))
      (λ a k isa h. omega (arith, h, size (spell_operand a) (λ e. operand_filled field a.prefixes a.base [] isa.0 isa.1 (append_nil _ ∙ e))))

  not_functor : (s : Sign) → begins_operand s ≡ true → s ≡ signs.Functor → ⊥
  not_functor signs.Functor g e = cc
  not_functor _ g e = cc

  turned : (l : Last) (a : PrefixList) (c : BaseData) (ps : PieceList) (tok : MarkedToken) (m : List MarkedToken) → GoesOn field l (more_pieces (OperandPiece a c) ps) → (spell_prefix_list a ++ spell_base c) ++ spell_piece_list ps ≡ tok ∷ m → OneAt (suc n) (rest_of_term field l) tok
  turned l a c ps tok m isa e = go (spell_prefix_list a ++ spell_base c) refl
    where
      begun : begins_operand (sign_of tok) ≡ true
      begun = operand_begins field a c (spell_piece_list ps) tok m isa.0.1 isa.0.2 e

      go : (w : List MarkedToken) → spell_prefix_list a ++ spell_base c ≡ w → OneAt (suc n) (rest_of_term field l) tok
      go [] f = absurd (operand_filled field a c [] isa.0.1 isa.0.2 (append_nil _ ∙ f))
      go (t ∷ w) f =
          let same : t ≡ tok = head_of _ _ _ _ (ap (λ z. z ++ spell_piece_list ps) (sym f) ∙ e) in
          at_turn (suc n) (rest_of_term field l) (operand_first field l) put_operand tok
          (turn_operand field l tok isa.0.0 begun (not_functor (sign_of tok) begun) (record { prefixes = a; base = c }) w (isa.0.1, isa.0.2, isa.0.3) (f ∙ ap (λ z. z ∷ w) same)) (first_at l)

  run_at : (l : Last) (a : PieceList) (tok : MarkedToken) (m : List MarkedToken) → GoesOn field l a → spell_piece_list a ≡ tok ∷ m → OneAt (suc n) (rest_of_term field l) tok
  run_at l no_pieces tok m isa e = cc
  run_at l (more_pieces (FunctorPiece w k) ps) tok m isa e = at_token (suc n) (rest_of_term field l) _ tok (head_of _ _ _ _ e) (at_by n (rest_of_term field l) _ (rest_of_term field rules_of.functor) (more_pieces (FunctorPiece w k)) 0 (by_functor field l w k) (o.runs rules_of.functor))
  run_at l (more_pieces (OperandPiece a c) ps) tok m isa e = turned l a c ps tok m isa e

  no_run : (l : Last) (a : PieceList) → GoesOn field l a → spell_piece_list a ≡ [] → a ≡ no_pieces
  no_run l no_pieces isa e = refl
  no_run l (more_pieces (FunctorPiece w k) ps) isa e = cc
  no_run l (more_pieces (OperandPiece a c) ps) isa e = absurd (operand_filled field a c (spell_piece_list ps) isa.0.1 isa.0.2 e)

  run_begins : (l : Last) (a : PieceList) (tok : MarkedToken) (m : List MarkedToken) → GoesOn field l a → spell_piece_list a ≡ tok ∷ m → goes_on_term (sign_of tok) ≡ true
  run_begins l no_pieces tok m isa e = cc
  run_begins l (more_pieces (FunctorPiece w k) ps) tok m isa e = let G : MarkedToken → Type 0 = λ z. goes_on_term (sign_of z) ≡ true in subst G (head_of _ _ _ _ e) (ap goes_on_term (sign_of-functor w k))
  run_begins l (more_pieces (OperandPiece a c) ps) tok m isa e = operand_goes_on (sign_of tok) (operand_begins field a c (spell_piece_list ps) tok m isa.0.1 isa.0.2 e)

  runs_next : (l : Last) → One (suc n) (rest_of_term field l)
  runs_next l = one_from (suc n) (rest_of_term field l) (λ a b isa isb ea eb. no_run l a isa ea ∙ sym (no_run l b isb eb)) (λ a b tok m isa isb ea eb. run_begins l b tok m isb eb) (run_at l)

  terms_next : One (suc n) (term_form field)
  terms_next = one_as (suc n) (term_form field) (rest_of_term field start) run_of (only_run field) (run_spells field) (λ s t h g. g) (runs_next start)

  chains_next : (st : Unit {0}) → One (suc n) (more_terms field)
  chains_next st = one_chain (term_links field) (linked_terms field) n o.terms o.chains st

  lists_next : One (suc n) (terms_form field)
  lists_next = one_as (suc n) (terms_form field) (some_terms field) list_of (only_list field) (λ s h. (as_list field []).spells s h) (λ s t h g. (as_list field []).goes s t h g)
      (one_then (suc n) n (term_form field) (λ _. more_terms field) (pair_apart (term_links field) (linked_terms field)) terms_next (λ a. o.chains tt) (λ a l isa h. omega (arith, h, size (spell_term a) (λ e. term_filled field a [] isa (append_nil _ ∙ e)))))

  -- arguments
  not_close : (tok : MarkedToken) → (sign_of tok ≡ signs.Close → ⊥) → (p : Place) → Agrees (tok ∷ []) (fixed signs.Close p ∷ []) → ⊥
  not_close tok h p e = h (sym (ap sign_of e) ∙ sign_of-fixed signs.Close p refl)

  to_closes : One (suc n) (to_close field signs.Close)
  to_closes = one_then (suc n) (suc n) (nested (terms_form field)) (λ _. word signs.Close) (terms_close field signs.Close refl) (one_nested (suc n) (terms_form field) lists_next) (λ b. words (suc n) signs.Close refl) (λ b l isb h. omega arith)

  arguments_at : (tok : MarkedToken) (s : Sign) → sign_of tok ≡ s → OneAt (suc n) (arguments field) tok
  arguments_at tok signs.Close h = at_token (suc n) (arguments field) (fixed signs.Close tok.token.place) tok (sym (told_fixed signs.Close tok refl h)) (at_by n (arguments field) (fixed signs.Close tok.token.place) nothing (λ _. no_arguments tok.token.place) 0 (by_close field tok.token.place) (one_nothing n))
  arguments_at tok _ h = at_as (suc n) (arguments field) (to_close field signs.Close) make_arguments tok (as_arguments field (tok ∷ []) (not_close tok (λ e. cc))) to_closes

  inners_next : One (suc n) (arguments field)
  inners_next = one_from (suc n) (arguments field) (λ a b isa isb ea eb. absurd (arguments_filled field a isa ea)) (λ a b tok m isa isb ea eb. absurd (arguments_filled field a isa ea)) (λ a tok m isa e. arguments_at tok (sign_of tok) refl)

  -- applications
  parenthesizeds : One (suc n) (parenthesized field)
  parenthesizeds = one_then (suc n) n (nested (word signs.Open)) (λ _. arguments field) (apart_closed (nested (word signs.Open)) (λ _. arguments field) (λ a t. refl)) (one_nested (suc n) (word signs.Open) (words (suc n) signs.Open refl)) (λ a. o.inners) (λ a l isa h. omega arith)

  call_at : (a : Call) (tok : MarkedToken) (m : List MarkedToken) → IsCall field a → spell_call a ≡ tok ∷ m → OneAt (suc n) (call_form field) tok
  call_at no_call tok m isa e = cc
  call_at (call_with p x) tok m isa e = at_turn (suc n) (call_form field) (parenthesized field) make_call tok (turn_call field tok (sym (ap sign_of (head_of _ _ _ _ e)) ∙ sign_of-fixed signs.Open p refl)) parenthesizeds

  empty_calls : (a b : Call) → spell_call a ≡ [] → spell_call b ≡ [] → a ≡ b
  empty_calls no_call no_call e f = refl
  empty_calls no_call (call_with p x) e f = cc
  empty_calls (call_with p x) b e f = cc

  call_goes : (a b : Call) (tok : MarkedToken) (m : List MarkedToken) → spell_call a ≡ [] → spell_call b ≡ tok ∷ m → goes_call a (sign_of tok) ≡ true
  call_goes no_call no_call tok m e f = cc
  call_goes no_call (call_with p x) tok m e f = let G : MarkedToken → Type 0 = λ z. goes_call no_call (sign_of z) ≡ true in subst G (head_of _ _ _ _ f) (ap (goes_call no_call) (sign_of-fixed signs.Open p refl))
  call_goes (call_with p x) b tok m e f = cc

  calls_next : One (suc n) (call_form field)
  calls_next = one_from (suc n) (call_form field) (λ a b isa isb ea eb. empty_calls a b ea eb) (λ a b tok m isa isb ea eb. call_goes a b tok m ea eb) call_at

pub terms_one : (field : Bool) (n : ℕ) → TermsOne field n
terms_one field zero = record {
  bases = λ behind. one_zero (base_form field behind);
  operands = λ behind. one_zero (operand_form field behind);
  selections = one_zero (selection field);
  runs = λ l. one_zero (rest_of_term field l);
  terms = one_zero (term_form field);
  chains = λ st. one_zero (more_terms field);
  lists = one_zero (terms_form field);
  inners = one_zero (arguments field);
  calls = one_zero (call_form field);
}
terms_one field (suc n) = let o = terms_one field n in record {
  bases = bases_next field n o;
  operands = operands_next field n o;
  selections = selections_next field n o;
  runs = runs_next field n o;
  terms = terms_next field n o;
  chains = chains_next field n o;
  lists = lists_next field n o;
  inners = inners_next field n o;
  calls = calls_next field n o;
}

pub one_terms : (field : Bool) → OneTree (terms_form field)
one_terms field = one_tree (terms_form field) (λ n. (terms_one field n).lists)

pub one_term : (field : Bool) → OneTree (term_form field)
one_term field = one_tree (term_form field) (λ n. (terms_one field n).terms)
