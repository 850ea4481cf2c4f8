-- The steps of the readings of terms.
use Rattle.std.proofs.Common.{◌≡◌, ℕ, ◌+◌, ◌<◌, Bool, true, false, List, [], ◌∷◌, ◌++◌, refl, sym, ap, subst, ◌∙◌, length, length-append, arith, None, ◌-◌}
use Rattle.mz_base.specs.declared.place.Place.{Place}
use Rattle.mz_forms.specs.declared.refusal.Refusal.{Refusal}
use Rattle.mz_forms.specs.Form.{Form, Agrees, Found, Finds, Fails, Deeper, Leads, then, nested, nothing}
use Rattle.mz_forms.specs.Reading.{Refuses}
use Rattle.mz_forms.proofs.Compose.{head_of, append_nil}
use Rattle.mz_forms.proofs.Choose.{finds_empty, fails_here}
use Rattle.mz_forms.proofs.Descend.{begins_too_deep}
use Rattle.mz_forms.proofs.Leads.{leads_by, leads_turn, leads_as, leads_behind, beside, first_refuses, apart_closed}
use Rattle.mz_forms.proofs.Nested.{found_under}
use Rattle.mz_forms.proofs.Words.{word_found, found_nothing}
use Rattle.mz_base.specs.declared.token.MarkedToken.{MarkedToken}
use Rattle.mz_tree.specs.declared.word.Word.{Word}
use Rattle.mz_tree.specs.Spelled.{argument}
use Rattle.mz_tree.specs.Trees.{TermData, TermsData, BaseData, PieceList, PrefixList, FunctorPiece, OperandPiece, IdentifierBase, SubjectBase, ArgumentBase, no_pieces, more_pieces}
use Rattle.mz_tree.specs.Spell.{spell_base, spell_terms, spell_piece_list, spell_prefix_list}
use Rattle.mz_tree.specs.Rules.{Last, start, MayTake, MayEnd, last_of, GoesOn, IsBase}
use Rattle.mz_tree.specs.Rules as rules_of
use Rattle.mz_tree.specs.Views.{OperandData}
use Rattle.mz_pterm.specs.declared.sign.Sign.{Sign}
use Rattle.mz_pterm.specs.declared.sign.Sign.TheVariants as signs
use Rattle.mz_pterm.specs.Classes.{begins_operand, closes}
use Rattle.mz_pterm.specs.Sign.{sign_of}
use Rattle.mz_pterm.specs.Words.{is_fixed, fixed, is_named, named, word_of, word, name, TakesPlace}
use Rattle.mz_pterm.specs.Forms.{spell_operand, IsRest, operand_form, base_form, Selection, alone_selection, of_selection, selection, spell_selection, IsSelection, selected_with, rest_of_term, term_form, terms_form, to_close, bracket, single, make_group, make_single, aggregate, make_aggregate, brackets, brackets_base, no_arguments, arguments, Call, no_call, call_with, call_form, spell_call, IsCall, called}
use Rattle.mz_pterm.proofs.Signs.{told_fixed, told_named, told_functor, told_number, sign_of-fixed, sign_of-named, sign_of-functor, same_fixed, same_named}
use Rattle.mz_pterm.proofs.Bases.{Opens, identifier_opens, call_opens, call_with_opens, it_opens, argument_opens, group_opens, selector_opens, aggregate_opens, brackets_opens, braces_opens, squares_opens, opens, base_filled, terms_at, word_at, terms_close, term_close, terms_close_name, make_braces, turn_braces, make_squares, turn_squares, turn_group, turn_single, turn_brackets, by_structure, by_it, by_argument, by_identifier, parenthesized, make_call, turn_call, make_arguments, as_arguments}
use Rattle.mz_pterm.proofs.Operands.{unprefixed, as_base, operand_begins, operand_filled, the_rest, make_selected, by_the, by_of, by_functor, operand_first, put_operand, operand_apart, some_functor, turn_operand, run_of, as_run, some_terms, list_of, as_list, by_close}

-- what is left begins with this token
pub told_rest : (b rest : List MarkedToken) (t m : MarkedToken) → b ≡ t ∷ rest → t ≡ m → b ≡ m ∷ rest
told_rest b rest t m e f = e ∙ ap (λ z. z ∷ rest) f

pub is_nil : (b : List MarkedToken) → length b ≡ 0 → b ≡ []
is_nil [] e = refl
is_nil (s ∷ b) e = absurd (omega (arith, e))

-- Words.
pub fixed_found : (s : Sign) (room : ℕ) (p : Place) (b rest : List MarkedToken) → is_fixed s ≡ true → b ≡ fixed s p ∷ rest → Found (word s) room b p rest
fixed_found s room p b rest fix e = word_found Place (fixed s) (same_fixed s fix) room p b rest e

pub fixed_missing : (s : Sign) (room : ℕ) (b after : List MarkedToken) → TakesPlace s b None after → Fails (word s) room b after
fixed_missing s room b after h = let F : List MarkedToken → Type 0 = λ z. Fails (word s) room b z in subst F h.0 (fails_here (word s) room (record { line = 0; column = 0 }) b tt (λ x is agrees. h.1 x agrees))

pub named_found : (s : Sign) (room : ℕ) (t : MarkedToken) (b rest : List MarkedToken) → is_named s ≡ true → sign_of t ≡ s → b ≡ t ∷ rest → Found (name s) room b (word_of t) rest
named_found s room t b rest fix h e = word_found Word (named s) (same_named s fix) room (word_of t) b rest (told_rest b rest t _ e (told_named s t fix h))

differs_fixed : (s : Sign) (t : MarkedToken) (b rest : List MarkedToken) → is_fixed s ≡ true → (sign_of t ≡ s → ⊥) → b ≡ t ∷ rest → (p : Place) → Agrees b (fixed s p ∷ []) → ⊥
differs_fixed s t b rest fix differ e p agrees = let A : List MarkedToken → Type 0 = λ z. Agrees z (fixed s p ∷ []) in let g : fixed s p ≡ t = subst A e agrees in differ (sym (ap sign_of g) ∙ sign_of-fixed s p fix)

nothing_left : (s : MarkedToken) (b : List MarkedToken) → b ≡ [] → Agrees b (s ∷ []) → ⊥
nothing_left s b e agrees = let A : List MarkedToken → Type 0 = λ z. Agrees z (s ∷ []) in subst A e agrees

pub fixed_not_taken : (s : Sign) (t : MarkedToken) (b rest : List MarkedToken) → is_fixed s ≡ true → (sign_of t ≡ s → ⊥) → b ≡ t ∷ rest → TakesPlace s b None b
fixed_not_taken s t b rest fix differ e = (refl, differs_fixed s t b rest fix differ e)

pub fixed_at_end : (s : Sign) (b : List MarkedToken) → b ≡ [] → TakesPlace s b None b
fixed_at_end s b e = (refl, λ p agrees. nothing_left (fixed s p) b e agrees)

pub fixed_refused : (s : Sign) (room : ℕ) (t : MarkedToken) (b rest : List MarkedToken) → is_fixed s ≡ true → (sign_of t ≡ s → ⊥) → b ≡ t ∷ rest → Fails (nested (word s)) room b b
fixed_refused s room t b rest fix differ e = fails_here (nested (word s)) room (record { line = 0; column = 0 }) b tt (λ x is agrees. differs_fixed s t b rest fix differ e x agrees)

pub fixed_left_out : (s : Sign) (room : ℕ) (b : List MarkedToken) → b ≡ [] → Fails (nested (word s)) room b b
fixed_left_out s room b e = fails_here (nested (word s)) room (record { line = 0; column = 0 }) b tt (λ x is agrees. nothing_left (fixed s x) b e agrees)

differs_named : (s : Sign) (t : MarkedToken) (b rest : List MarkedToken) → is_named s ≡ true → (sign_of t ≡ s → ⊥) → b ≡ t ∷ rest → (w : Word) → Agrees b (named s w ∷ []) → ⊥
differs_named s t b rest fix differ e w agrees = let A : List MarkedToken → Type 0 = λ z. Agrees z (named s w ∷ []) in let g : named s w ≡ t = subst A e agrees in differ (sym (ap sign_of g) ∙ sign_of-named s w fix)

pub named_refused : (s : Sign) (room : ℕ) (t : MarkedToken) (b rest : List MarkedToken) → is_named s ≡ true → (sign_of t ≡ s → ⊥) → b ≡ t ∷ rest → Fails (name s) room b b
named_refused s room t b rest fix differ e = fails_here (name s) room (word_at (record { line = 0; column = 0 })) b tt (λ x is agrees. differs_named s t b rest fix differ e x agrees)

pub named_left_out : (s : Sign) (room : ℕ) (b : List MarkedToken) → b ≡ [] → Fails (name s) room b b
named_left_out s room b e = fails_here (name s) room (word_at (record { line = 0; column = 0 })) b tt (λ x is agrees. nothing_left (named s x) b e agrees)

pub named_refused_under : (s : Sign) (room : ℕ) (t : MarkedToken) (b rest : List MarkedToken) → is_named s ≡ true → (sign_of t ≡ s → ⊥) → b ≡ t ∷ rest → Fails (nested (name s)) room b b
named_refused_under s room t b rest fix differ e = fails_here (nested (name s)) room (word_at (record { line = 0; column = 0 })) b tt (λ x is agrees. differs_named s t b rest fix differ e x agrees)

pub named_left_out_under : (s : Sign) (room : ℕ) (b : List MarkedToken) → b ≡ [] → Fails (nested (name s)) room b b
named_left_out_under s room b e = fails_here (nested (name s)) room (word_at (record { line = 0; column = 0 })) b tt (λ x is agrees. nothing_left (named s x) b e agrees)

never : (s : MarkedToken) → s ∷ [] ≡ [] → ⊥
never s e = cc

pub fixed_too_deep : (s : Sign) (t : MarkedToken) (b rest : List MarkedToken) → is_fixed s ≡ true → sign_of t ≡ s → b ≡ t ∷ rest → Deeper (nested (word s)) 0 b b
fixed_too_deep s t b rest fix h e = begins_too_deep (word s) t t.token.place [] tt (ap (λ z. z ∷ []) (sym (told_fixed s t fix h))) (λ x is f. absurd (never (fixed s x) f)) b rest e

pub named_too_deep : (s : Sign) (t : MarkedToken) (b rest : List MarkedToken) → is_named s ≡ true → sign_of t ≡ s → b ≡ t ∷ rest → Deeper (nested (name s)) 0 b b
named_too_deep s t b rest fix h e = begins_too_deep (name s) t (word_of t) [] tt (ap (λ z. z ∷ []) (sym (told_named s t fix h))) (λ x is f. absurd (never (named s x) f)) b rest e

-- one level down
pub fixed_found_under : (s : Sign) (room : ℕ) (t : MarkedToken) (b rest : List MarkedToken) → is_fixed s ≡ true → sign_of t ≡ s → 0 < room → b ≡ t ∷ rest → Found (nested (word s)) room b t.token.place rest
fixed_found_under s room t b rest fix h more e = found_under (word s) room (room - 1) (omega (arith, more)) b rest t.token.place (fixed_found s (room - 1) t.token.place b rest fix (told_rest b rest t _ e (told_fixed s t fix h)))

pub named_found_under : (s : Sign) (room : ℕ) (t : MarkedToken) (b rest : List MarkedToken) → is_named s ≡ true → sign_of t ≡ s → 0 < room → b ≡ t ∷ rest → Found (nested (name s)) room b (word_of t) rest
named_found_under s room t b rest fix h more e = found_under (name s) room (room - 1) (omega (arith, more)) b rest (word_of t) (named_found s (room - 1) t b rest fix h e)

-- Brackets.
pub behind_opening : (s : Sign) (K : Place → Form MarkedToken) (room : ℕ) (b c : List MarkedToken) (p : Place) → Found (nested (word s)) room b p c → Leads (then (nested (word s)) K) (K p) room (beside (nested (word s)) K p) b c
behind_opening s K room b c p h = leads_behind (nested (word s)) K (apart_closed (nested (word s)) K (λ a t. refl)) room b c p h

pub opening_refuses : (s : Sign) (K : Place → Form MarkedToken) → ((p : Place) → (k : (K p).Tree) × (K p).IsTree k) → (room : ℕ) (b after : List MarkedToken) (e : Refusal) → Refuses (nested (word s)) room b e after → Refuses (then (nested (word s)) K) room b e after
opening_refuses s K some room b after e h = first_refuses (nested (word s)) K (apart_closed (nested (word s)) K (λ a t. refl)) room b after e (λ a is. some a) h

pub behind_terms : (field : Bool) (c : Sign) → closes c ≡ true → (room : ℕ) (b d : List MarkedToken) (ts : TermsData) → Found (nested (terms_form field)) room b ts d → Leads (to_close field c) (word c) room (beside (nested (terms_form field)) (λ _. word c) ts) b d
behind_terms field c closed room b d ts h = leads_behind (nested (terms_form field)) (λ _. word c) (terms_close field c closed) room b d ts h

pub terms_refuse : (field : Bool) (c : Sign) → closes c ≡ true → (room : ℕ) (b after : List MarkedToken) (e : Refusal) → Refuses (nested (terms_form field)) room b e after → Refuses (to_close field c) room b e after
terms_refuse field c closed room b after e h = first_refuses (nested (terms_form field)) (λ _. word c) (terms_close field c closed) room b after e (λ a is. (record { line = 0; column = 0 }, tt)) h

pub some_to_close : (field : Bool) (c : Sign) (p : Place) → (k : (to_close field c).Tree) × (to_close field c).IsTree k
some_to_close field c p = ((terms_at p, p), (((tt, tt), tt), tt))

pub behind_term : (field : Bool) (room : ℕ) (b d : List MarkedToken) (t : TermData) → Found (nested (term_form field)) room b t d → Leads (then (nested (term_form field)) (λ _. word signs.Close)) (word signs.Close) room (beside (nested (term_form field)) (λ _. word signs.Close) t) b d
behind_term field room b d t h = leads_behind (nested (term_form field)) (λ _. word signs.Close) (term_close field) room b d t h

pub term_refuses : (field : Bool) (room : ℕ) (b after : List MarkedToken) (e : Refusal) → Refuses (nested (term_form field)) room b e after → Refuses (then (nested (term_form field)) (λ _. word signs.Close)) room b e after
term_refuses field room b after e h = first_refuses (nested (term_form field)) (λ _. word signs.Close) (term_close field) room b after e (λ a is. (record { line = 0; column = 0 }, tt)) h

abbrev pub to_name : Bool → Form MarkedToken
to_name field = then (nested (terms_form field)) (λ _. name signs.RightBracket)

pub behind_left : (field : Bool) (room : ℕ) (b c : List MarkedToken) (w : Word) → Found (nested (name signs.LeftBracket)) room b w c → Leads (brackets field) (to_name field) room (beside (nested (name signs.LeftBracket)) (λ _. to_name field) w) b c
behind_left field room b c w h = leads_behind (nested (name signs.LeftBracket)) (λ _. to_name field) (apart_closed (nested (name signs.LeftBracket)) (λ _. to_name field) (λ a t. refl)) room b c w h

pub left_refuses : (field : Bool) (room : ℕ) (b after : List MarkedToken) (e : Refusal) → Refuses (nested (name signs.LeftBracket)) room b e after → Refuses (brackets field) room b e after
left_refuses field room b after e h = first_refuses (nested (name signs.LeftBracket)) (λ _. to_name field) (apart_closed (nested (name signs.LeftBracket)) (λ _. to_name field) (λ a t. refl)) room b after e (λ a is. ((terms_at a.place, a), (((tt, tt), tt), tt))) h

pub behind_named_terms : (field : Bool) (room : ℕ) (b d : List MarkedToken) (ts : TermsData) → Found (nested (terms_form field)) room b ts d → Leads (to_name field) (name signs.RightBracket) room (beside (nested (terms_form field)) (λ _. name signs.RightBracket) ts) b d
behind_named_terms field room b d ts h = leads_behind (nested (terms_form field)) (λ _. name signs.RightBracket) (terms_close_name field) room b d ts h

pub named_terms_refuse : (field : Bool) (room : ℕ) (b after : List MarkedToken) (e : Refusal) → Refuses (nested (terms_form field)) room b e after → Refuses (to_name field) room b e after
named_terms_refuse field room b after e h = first_refuses (nested (terms_form field)) (λ _. name signs.RightBracket) (terms_close_name field) room b after e (λ a is. (word_at (record { line = 0; column = 0 }), tt)) h

-- Bases.
pub take_identifier : (field behind : Bool) (room : ℕ) (t : MarkedToken) (b rest : List MarkedToken) → sign_of t ≡ signs.Identifier → b ≡ t ∷ rest → Leads (base_form field behind) (call_form field) room (called (word_of t)) b rest
take_identifier field behind room t b rest h e = leads_by (base_form field behind) _ (call_form field) (called (word_of t)) 0 (by_identifier field behind (word_of t)) room (omega arith) b rest (told_rest b rest t _ e (told_named signs.Identifier t refl h))

pub take_structure : (field behind : Bool) (room : ℕ) (t : MarkedToken) (b rest : List MarkedToken) → sign_of t ≡ signs.Structure → b ≡ t ∷ rest → Leads (base_form field behind) (aggregate field) room (make_aggregate (word_of t)) b rest
take_structure field behind room t b rest h e = leads_by (base_form field behind) _ (aggregate field) (make_aggregate (word_of t)) 0 (by_structure field behind (word_of t)) room (omega arith) b rest (told_rest b rest t _ e (told_named signs.Structure t refl h))

pub it_found : (field behind : Bool) (room : ℕ) (t : MarkedToken) (b rest : List MarkedToken) → sign_of t ≡ signs.It → b ≡ t ∷ rest → Found (base_form field behind) room b (SubjectBase t.token.place) rest
it_found field behind room t b rest h e =
    (leads_by (base_form field behind) _ nothing (λ _. SubjectBase t.token.place) 0 (by_it field behind t.token.place) room (omega arith) b rest (told_rest b rest t _ e (told_fixed signs.It t refl h))).finds tt rest (found_nothing room rest)

pub argument_found : (field behind : Bool) (room n : ℕ) (t : MarkedToken) (b rest : List MarkedToken) → sign_of t ≡ signs.Argument n → b ≡ t ∷ rest → Found (base_form field behind) room b (ArgumentBase t.token.place n) rest
argument_found field behind room n t b rest h e =
    let k = told_number t n h in
    (leads_by (base_form field behind) _ nothing (λ _. ArgumentBase t.token.place n) 0 (by_argument field behind t.token.place n k.1 k.2) room (omega arith) b rest (told_rest b rest t _ e k.0)).finds tt rest (found_nothing room rest)

pub begin_group : (field : Bool) (room : ℕ) (t : MarkedToken) (b rest : List MarkedToken) → sign_of t ≡ signs.Open → b ≡ t ∷ rest → Leads (base_form field false) (bracket field signs.Open signs.Close) room make_group b b
begin_group field room t b rest h e = leads_turn (base_form field false) (bracket field signs.Open signs.Close) make_group t (turn_group field t h) room b rest e

pub begin_single : (field : Bool) (room : ℕ) (t : MarkedToken) (b rest : List MarkedToken) → sign_of t ≡ signs.Open → b ≡ t ∷ rest → Leads (base_form field true) (single field) room make_single b b
begin_single field room t b rest h e = leads_turn (base_form field true) (single field) make_single t (turn_single field t h) room b rest e

pub begin_braces : (field behind : Bool) (room : ℕ) (t : MarkedToken) (b rest : List MarkedToken) → sign_of t ≡ signs.OpenBrace → b ≡ t ∷ rest → Leads (base_form field behind) (bracket field signs.OpenBrace signs.CloseBrace) room make_braces b b
begin_braces field behind room t b rest h e = leads_turn (base_form field behind) (bracket field signs.OpenBrace signs.CloseBrace) make_braces t (turn_braces field behind t h) room b rest e

pub begin_squares : (field behind : Bool) (room : ℕ) (t : MarkedToken) (b rest : List MarkedToken) → sign_of t ≡ signs.OpenSquare → b ≡ t ∷ rest → Leads (base_form field behind) (bracket field signs.OpenSquare signs.CloseSquare) room make_squares b b
begin_squares field behind room t b rest h e = leads_turn (base_form field behind) (bracket field signs.OpenSquare signs.CloseSquare) make_squares t (turn_squares field behind t h) room b rest e

pub begin_brackets : (field behind : Bool) (room : ℕ) (t : MarkedToken) (b rest : List MarkedToken) → sign_of t ≡ signs.LeftBracket → b ≡ t ∷ rest → Leads (base_form field behind) (brackets field) room brackets_base b b
begin_brackets field behind room t b rest h e = leads_turn (base_form field behind) (brackets field) brackets_base t (turn_brackets field behind t h) room b rest e

-- no base begins with what is left
unbegun : (field behind : Bool) (s : Sign) (x : BaseData) → Opens s x → (base_form field behind).IsTree x → (s ≡ signs.Identifier → ⊥) → (s ≡ signs.It → ⊥) → ((n : ℕ) → s ≡ signs.Argument n → ⊥) → (s ≡ signs.Open → ⊥) → (s ≡ signs.Structure → ⊥) → (s ≡ signs.LeftBracket → ⊥) → (s ≡ signs.OpenBrace → ⊥) → (s ≡ signs.OpenSquare → ⊥) → ⊥
unbegun field behind s x (identifier_opens w) is i t a o g k b q = i refl
unbegun field behind s x (call_opens w p r) is i t a o g k b q = i refl
unbegun field behind s x (call_with_opens w p ts r) is i t a o g k b q = i refl
unbegun field behind s x (it_opens p) is i t a o g k b q = t refl
unbegun field behind s x (argument_opens p n) is i t a o g k b q = a n refl
unbegun field behind s x (group_opens p ts r) is i t a o g k b q = o refl
unbegun field behind s x (selector_opens p w) is i t a o g k b q = is.1
unbegun field behind s x (aggregate_opens w p ts r) is i t a o g k b q = g refl
unbegun field behind s x (brackets_opens w ts v) is i t a o g k b q = k refl
unbegun field behind s x (braces_opens p ts r) is i t a o g k b q = b refl
unbegun field behind s x (squares_opens p ts r) is i t a o g k b q = q refl

abbrev pub some_base : BaseData
some_base = IdentifierBase (word_at (record { line = 0; column = 0 }))

some_base_is : (field behind : Bool) → (base_form field behind).IsTree some_base
some_base_is field true = (tt, tt, refl)
some_base_is field false = (tt, tt, tt)

pub base_refused : (field behind : Bool) (room : ℕ) (t : MarkedToken) (b rest : List MarkedToken) → (sign_of t ≡ signs.Identifier → ⊥) → (sign_of t ≡ signs.It → ⊥) → ((n : ℕ) → sign_of t ≡ signs.Argument n → ⊥) → (sign_of t ≡ signs.Open → ⊥) → (sign_of t ≡ signs.Structure → ⊥) → (sign_of t ≡ signs.LeftBracket → ⊥) → (sign_of t ≡ signs.OpenBrace → ⊥) → (sign_of t ≡ signs.OpenSquare → ⊥) → b ≡ t ∷ rest → Fails (base_form field behind) room b b
base_refused field behind room t b rest i h a o g k c q e = fails_here (base_form field behind) room some_base b (some_base_is field behind) (λ x is agrees. go x is (spell_base x) refl (subst (λ (z : List MarkedToken). Agrees z (spell_base x)) e agrees))
  where
    go : (x : BaseData) → (base_form field behind).IsTree x → (w : List MarkedToken) → spell_base x ≡ w → Agrees (t ∷ rest) w → ⊥
    go x is [] f agrees = base_filled field x is.0 f
    go x is (s ∷ w) f agrees =
        let S : MarkedToken → Type 0 = λ z. Opens (sign_of z) x in
        unbegun field behind (sign_of t) x (subst S agrees (opens field x s w is.0 f)) is i h a o g k c q

pub base_left_out : (field behind : Bool) (room : ℕ) (b : List MarkedToken) → b ≡ [] → Fails (base_form field behind) room b b
base_left_out field behind room b e = fails_here (base_form field behind) room some_base b (some_base_is field behind) (λ x is agrees. go x is (spell_base x) refl (subst (λ (z : List MarkedToken). Agrees z (spell_base x)) e agrees))
  where
    go : (x : BaseData) → (base_form field behind).IsTree x → (w : List MarkedToken) → spell_base x ≡ w → Agrees [] w → ⊥
    go x is [] f agrees = base_filled field x is.0 f
    go x is (s ∷ w) f agrees = agrees

-- An identifier and what stands behind it.
pub begin_call : (field : Bool) (room : ℕ) (t : MarkedToken) (b rest : List MarkedToken) → sign_of t ≡ signs.Open → b ≡ t ∷ rest → Leads (call_form field) (parenthesized field) room make_call b b
begin_call field room t b rest h e = leads_turn (call_form field) (parenthesized field) make_call t (turn_call field t h) room b rest e

no_call_in : (field : Bool) (b : List MarkedToken) → ((p : Place) → Agrees b (fixed signs.Open p ∷ []) → ⊥) → (x : Call) → IsCall field x → Agrees b (spell_call x) → x ≡ no_call
no_call_in field b h no_call is agrees = refl
no_call_in field b h (call_with p a) is agrees = absurd (h p (first b (fixed signs.Open p) _ agrees))
  where
    first : (b : List MarkedToken) (t : MarkedToken) (w : List MarkedToken) → Agrees b (t ∷ w) → Agrees b (t ∷ [])
    first [] t w g = g
    first (s ∷ b) t w g = g

pub no_call_found : (field : Bool) (room : ℕ) (b : List MarkedToken) → ((p : Place) → Agrees b (fixed signs.Open p ∷ []) → ⊥) → Found (call_form field) room b no_call b
no_call_found field room b h = record { found = finds_empty (call_form field) no_call b tt refl (no_call_in field b h); fits = λ i l. absurd (omega (arith, l)) }

pub identifier_alone : (field : Bool) (room : ℕ) (t : MarkedToken) (b rest : List MarkedToken) → (sign_of t ≡ signs.Open → ⊥) → b ≡ t ∷ rest → Found (call_form field) room b no_call b
identifier_alone field room t b rest differ e = no_call_found field room b (differs_fixed signs.Open t b rest refl differ e)

pub identifier_at_end : (field : Bool) (room : ℕ) (b : List MarkedToken) → b ≡ [] → Found (call_form field) room b no_call b
identifier_at_end field room b e = no_call_found field room b (λ p agrees. nothing_left (fixed signs.Open p) b e agrees)

pub some_arguments_at : (field : Bool) (p : Place) → (k : (arguments field).Tree) × (arguments field).IsTree k
some_arguments_at field p = (no_arguments p, tt)

pub closed_found : (field : Bool) (room : ℕ) (p : Place) (b rest : List MarkedToken) → b ≡ fixed signs.Close p ∷ rest → Found (arguments field) room b (no_arguments p) rest
closed_found field room p b rest e = (leads_by (arguments field) _ nothing (λ _. no_arguments p) 0 (by_close field p) room (omega arith) b rest e).finds tt rest (found_nothing room rest)

pub begin_arguments : (field : Bool) (room : ℕ) (b : List MarkedToken) → ((p : Place) → Agrees b (fixed signs.Close p ∷ []) → ⊥) → Leads (arguments field) (to_close field signs.Close) room make_arguments b b
begin_arguments field room b h = leads_as (arguments field) (to_close field signs.Close) make_arguments room b (as_arguments field b h)

-- Selectors.
pub take_the : (field behind : Bool) (room : ℕ) (p : Place) (b rest : List MarkedToken) → b ≡ fixed signs.The p ∷ rest → Leads (operand_form field behind) (the_rest field) room (make_selected p) b rest
take_the field behind room p b rest e = leads_by (operand_form field behind) (fixed signs.The p) (the_rest field) (make_selected p) 0 (by_the field behind p) room (omega arith) b rest e

pub behind_selector : (field : Bool) (room : ℕ) (b c : List MarkedToken) (w : Word) → Found (name signs.Selector) room b w c → Leads (the_rest field) (selection field) room (beside (name signs.Selector) (λ _. selection field) w) b c
behind_selector field room b c w h = leads_behind (name signs.Selector) (λ _. selection field) (apart_closed (name signs.Selector) (λ _. selection field) (λ a t. refl)) room b c w h

pub selector_refuses : (field : Bool) (room : ℕ) (b after : List MarkedToken) (e : Refusal) → Refuses (name signs.Selector) room b e after → Refuses (the_rest field) room b e after
selector_refuses field room b after e h = first_refuses (name signs.Selector) (λ _. selection field) (apart_closed (name signs.Selector) (λ _. selection field) (λ a t. refl)) room b after e (λ a is. (of_selection a.place (unprefixed (IdentifierBase a)), (tt, tt, refl))) h

pub take_of : (field : Bool) (room : ℕ) (q : Place) (b rest : List MarkedToken) → b ≡ fixed signs.Of q ∷ rest → Leads (selection field) (operand_form field true) room (of_selection q) b rest
take_of field room q b rest e = leads_by (selection field) (fixed signs.Of q) (operand_form field true) (of_selection q) 0 (by_of field q) room (omega arith) b rest e

first_only : (b : List MarkedToken) (t : MarkedToken) (w : List MarkedToken) → Agrees b (t ∷ w) → Agrees b (t ∷ [])
first_only [] t w g = g
first_only (s ∷ b) t w g = g

-- where no `of` comes next, a selector stands alone, or it doesn't
pub alone_found : (field : Bool) (room : ℕ) (b after : List MarkedToken) → field ≡ true → TakesPlace signs.Of b None after → Found (selection field) room b alone_selection after
alone_found field room b after f h =
    let F : List MarkedToken → Type 0 = λ z. Finds (selection field) b alone_selection z in
    record { found = subst F h.0 (finds_empty (selection field) alone_selection b f refl only); fits = λ i l. absurd (omega (arith, l)) }
  where
    only : (x : Selection) → IsSelection field x → Agrees b (spell_selection x) → x ≡ alone_selection
    only alone_selection is agrees = refl
    only (of_selection q o) is agrees = absurd (h.1 q (first_only b _ _ agrees))

pub of_refused : (field : Bool) (room : ℕ) (b after : List MarkedToken) → (field ≡ true → ⊥) → TakesPlace signs.Of b None after → Fails (selection field) room b after
of_refused field room b after f h =
    let F : List MarkedToken → Type 0 = λ z. Fails (selection field) room b z in
    subst F h.0 (fails_here (selection field) room (of_selection (record { line = 0; column = 0 }) (unprefixed some_base)) b (tt, tt, refl) only)
  where
    only : (x : Selection) → IsSelection field x → Agrees b (spell_selection x) → ⊥
    only alone_selection is agrees = f is
    only (of_selection q o) is agrees = h.1 q (first_only b _ _ agrees)

pub begin_base : (field behind : Bool) (room : ℕ) (b : List MarkedToken) → ((p : Place) → Agrees b (fixed signs.The p ∷ []) → ⊥) → Leads (operand_form field behind) (base_form field behind) room unprefixed b b
begin_base field behind room b h = leads_as (operand_form field behind) (base_form field behind) unprefixed room b (as_base field behind b h)

-- Pieces.
pub take_functor : (field : Bool) (l : Last) (room : ℕ) (t : MarkedToken) (b rest : List MarkedToken) → sign_of t ≡ signs.Functor → b ≡ t ∷ rest → Leads (rest_of_term field l) (rest_of_term field rules_of.functor) room (more_pieces (FunctorPiece (word_of t) t.token.priority)) b rest
take_functor field l room t b rest h e = leads_by (rest_of_term field l) _ (rest_of_term field rules_of.functor) (more_pieces (FunctorPiece (word_of t) t.token.priority)) 0 (by_functor field l (word_of t) t.token.priority) room (omega arith) b rest (told_rest b rest t _ e (told_functor t h))

pub behind_operand : (field : Bool) (l : Last) (room : ℕ) (b c : List MarkedToken) (o : OperandData) → Found (operand_form field false) room b o c → Leads (operand_first field l) (rest_of_term field (last_of l o.base)) room (beside (operand_form field false) (λ o. rest_of_term field (last_of l o.base)) o) b c
behind_operand field l room b c o h = leads_behind (operand_form field false) (λ o. rest_of_term field (last_of l o.base)) (operand_apart field l) room b c o h

pub operand_refuses : (field : Bool) (l : Last) (room : ℕ) (b after : List MarkedToken) (e : Refusal) → Refuses (operand_form field false) room b e after → Refuses (operand_first field l) room b e after
operand_refuses field l room b after e h = first_refuses (operand_form field false) (λ o. rest_of_term field (last_of l o.base)) (operand_apart field l) room b after e (λ a is. (some_functor, (tt, tt))) h

-- an operand that begins with such a token
abbrev pub OperandAt : Bool → MarkedToken → Type 0
OperandAt field t = (o : OperandData) × (w : List MarkedToken) × IsRest field false o × (spell_operand o ≡ t ∷ w)

begun_by : (field : Bool) (o : OperandData) (w : List MarkedToken) (m t : MarkedToken) → IsRest field false o → spell_operand o ≡ m ∷ w → t ≡ m → OperandAt field t
begun_by field o w m t is e f = (o, w, is, e ∙ ap (λ z. z ∷ w) (sym f))

begun_named : (field : Bool) (s : Sign) (b : BaseData) (w : List MarkedToken) (t : MarkedToken) → IsRest field false (unprefixed b) → is_named s ≡ true → sign_of t ≡ s → spell_base b ≡ named s (word_of t) ∷ w → OperandAt field t
begun_named field s b w t is fix h e = begun_by field (unprefixed b) w (named s (word_of t)) t is e (told_named s t fix h)

begun_fixed : (field : Bool) (s : Sign) (b : BaseData) (w : List MarkedToken) (t : MarkedToken) → IsRest field false (unprefixed b) → is_fixed s ≡ true → sign_of t ≡ s → spell_base b ≡ fixed s t.token.place ∷ w → OperandAt field t
begun_fixed field s b w t is fix h e = begun_by field (unprefixed b) w (fixed s t.token.place) t is e (told_fixed s t fix h)

-- terms and the bracket that closes
abbrev closed_by : Place → MarkedToken → List MarkedToken
closed_by p c = spell_terms (terms_at p) ++ c ∷ []

begins_at : (s : Sign) (field : Bool) (t : MarkedToken) → sign_of t ≡ s → begins_operand s ≡ true → OperandAt field t
begins_at signs.Identifier field t h g = begun_named field signs.Identifier (IdentifierBase (word_of t)) [] t (tt, tt, tt) refl h refl
begins_at signs.Structure field t h g = begun_named field signs.Structure (make_aggregate (word_of t) (t.token.place, (terms_at t.token.place, t.token.place))) (fixed signs.OpenAggregate t.token.place ∷ closed_by t.token.place (fixed signs.CloseAggregate t.token.place)) t (tt, ((tt, tt), tt), tt) refl h refl
begins_at signs.LeftBracket field t h g = begun_named field signs.LeftBracket (brackets_base (word_of t, (terms_at t.token.place, word_of t))) (closed_by t.token.place (named signs.RightBracket (word_of t))) t (tt, ((tt, tt), tt), tt) refl h refl
begins_at signs.It field t h g = begun_fixed field signs.It (SubjectBase t.token.place) [] t (tt, tt, tt) refl h refl
begins_at signs.The field t h g = begun_by field (selected_with t.token.place (word_of t) (of_selection t.token.place (unprefixed (IdentifierBase (word_of t))))) (named signs.Selector (word_of t) ∷ (fixed signs.Of t.token.place ∷ (named signs.Identifier (word_of t) ∷ []))) (fixed signs.The t.token.place) t (tt, tt, refl) refl (told_fixed signs.The t refl h)
begins_at (signs.Argument n) field t h g = let k = told_number t n h in begun_by field (unprefixed (ArgumentBase t.token.place n)) [] (argument t.token.place n) t (tt, (k.1, k.2), tt) refl k.0
begins_at signs.Open field t h g = begun_fixed field signs.Open (make_group (t.token.place, (terms_at t.token.place, t.token.place))) (closed_by t.token.place (fixed signs.Close t.token.place)) t (tt, ((tt, tt), tt), tt) refl h refl
begins_at signs.OpenBrace field t h g = begun_fixed field signs.OpenBrace (make_braces (t.token.place, (terms_at t.token.place, t.token.place))) (closed_by t.token.place (fixed signs.CloseBrace t.token.place)) t (tt, ((tt, tt), tt), tt) refl h refl
begins_at signs.OpenSquare field t h g = begun_fixed field signs.OpenSquare (make_squares (t.token.place, (terms_at t.token.place, t.token.place))) (closed_by t.token.place (fixed signs.CloseSquare t.token.place)) t (tt, ((tt, tt), tt), tt) refl h refl
begins_at _ field t h g = cc

pub not_begun : (b : Bool) → b ≡ false → b ≡ true → ⊥
not_begun true e f = cc
not_begun false e f = cc

no_functor : (s : Sign) → begins_operand s ≡ true → s ≡ signs.Functor → ⊥
no_functor signs.Functor g e = cc
no_functor _ g e = cc

pub begin_operand : (field : Bool) (l : Last) (room : ℕ) (t : MarkedToken) (b rest : List MarkedToken) → begins_operand (sign_of t) ≡ true → MayTake l → b ≡ t ∷ rest → Leads (rest_of_term field l) (operand_first field l) room put_operand b b
begin_operand field l room t b rest begun may e =
    let k = begins_at (sign_of t) field t refl begun in
    leads_turn (rest_of_term field l) (operand_first field l) put_operand t (turn_operand field l t may begun (no_functor (sign_of t) begun) k.0 k.1 k.2 k.3) room b rest e

-- where no piece may come next
pub no_piece : (field : Bool) (l : Last) (t : MarkedToken) (b rest : List MarkedToken) → (sign_of t ≡ signs.Functor → ⊥) → (begins_operand (sign_of t) ≡ true → MayTake l → ⊥) → b ≡ t ∷ rest → (x : PieceList) → GoesOn field l x → Agrees b (spell_piece_list x) → x ≡ no_pieces
no_piece field l t b rest differ may e x is agrees = go x is (spell_piece_list x) refl (subst (λ (z : List MarkedToken). Agrees z (spell_piece_list x)) e agrees)
  where
    operand_no : (a : PrefixList) (c : BaseData) (ps : PieceList) (s : MarkedToken) (w : List MarkedToken) → GoesOn field l (more_pieces (OperandPiece a c) ps) → (spell_prefix_list a ++ spell_base c) ++ spell_piece_list ps ≡ s ∷ w → s ≡ t → ⊥
    operand_no a c ps s w are f g = let B : MarkedToken → Type 0 = λ z. begins_operand (sign_of z) ≡ true in may (subst B g (operand_begins field a c (spell_piece_list ps) s w are.0.1 are.0.2 f)) are.0.0

    go : (x : PieceList) → GoesOn field l x → (w : List MarkedToken) → spell_piece_list x ≡ w → Agrees (t ∷ rest) w → x ≡ no_pieces
    go no_pieces are w f h = refl
    go (more_pieces (FunctorPiece v m) ps) are [] f h = cc
    go (more_pieces (FunctorPiece v m) ps) are (s ∷ w) f h = absurd (differ (ap sign_of (sym h) ∙ (sym (ap sign_of (head_of _ _ _ _ f)) ∙ sign_of-functor v m)))
    go (more_pieces (OperandPiece a c) ps) are [] f h = absurd (operand_filled field a c (spell_piece_list ps) are.0.1 are.0.2 f)
    go (more_pieces (OperandPiece a c) ps) are (s ∷ w) f h = absurd (operand_no a c ps s w are f h)

pub no_piece_left : (field : Bool) (l : Last) (b : List MarkedToken) → b ≡ [] → (x : PieceList) → GoesOn field l x → Agrees b (spell_piece_list x) → x ≡ no_pieces
no_piece_left field l b e x is agrees = go x is (spell_piece_list x) refl (subst (λ (z : List MarkedToken). Agrees z (spell_piece_list x)) e agrees)
  where
    go : (x : PieceList) → GoesOn field l x → (w : List MarkedToken) → spell_piece_list x ≡ w → Agrees [] w → x ≡ no_pieces
    go no_pieces are w f h = refl
    go (more_pieces (FunctorPiece v m) ps) are [] f h = cc
    go (more_pieces (FunctorPiece v m) ps) are (s ∷ w) f h = absurd h
    go (more_pieces (OperandPiece a c) ps) are [] f h = absurd (operand_filled field a c (spell_piece_list ps) are.0.1 are.0.2 f)
    go (more_pieces (OperandPiece a c) ps) are (s ∷ w) f h = absurd h

pub shorter : (field : Bool) (o : OperandData) (b after : List MarkedToken) → IsRest field false o → b ≡ spell_operand o ++ after → length after < length b
shorter field o b after is e = go (spell_operand o) refl
  where
    go : (w : List MarkedToken) → spell_operand o ≡ w → length after < length b
    go [] f = absurd (operand_filled field o.prefixes o.base [] is.0 is.1 (append_nil _ ∙ f))
    go (s ∷ w) f = let g : length b ≡ length ((s ∷ w) ++ after) = ap length (e ∙ ap (λ z. z ++ after) f) in let h : length ((s ∷ w) ++ after) ≡ length (s ∷ w) + length after = length-append (s ∷ w) after in omega (arith, g, h)

-- Terms.
pub begin_term : (field : Bool) (room : ℕ) (b : List MarkedToken) → Leads (term_form field) (rest_of_term field start) room run_of b b
begin_term field room b = leads_as (term_form field) (rest_of_term field start) run_of room b (as_run field b)

pub begin_terms : (field : Bool) (room : ℕ) (b : List MarkedToken) → Leads (terms_form field) (some_terms field) room list_of b b
begin_terms field room b = leads_as (terms_form field) (some_terms field) list_of room b (as_list field b)
