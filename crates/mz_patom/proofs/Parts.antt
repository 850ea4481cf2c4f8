-- Terms that may be left out, and what stands behind `is`.
use Rattle.std.specs.Prelude.{codes, slice_index_or}
use Rattle.std.specs.List.{remove}
use Rattle.std.specs.declared.alloc.Global.{Global}
use Rattle.std.proofs.Common.{◌≡◌, ℕ, ◌+◌, ◌<◌, Bool, true, false, ◌||◌, ◌&&◌, List, [], ◌∷◌, ◌++◌, map, refl, sym, ap, subst, ◌∙◌, arith, append_assoc, Option, Some, None, Result, Ok, Err, Box, Vec}
use Rattle.mz_base.specs.declared.place.Place.{Place}
use Rattle.mz_base.specs.declared.token.MarkedToken.{MarkedToken}
use Rattle.mz_forms.specs.declared.refusal.Refusal.{Refusal}
use Rattle.mz_forms.specs.declared.refusal.Refusal.TheVariants as refusals
use Rattle.mz_forms.specs.Form.{Form, Agrees, Found, Fails, Leads, is_empty, then, nested}
use Rattle.mz_forms.specs.Reading.{Refuses, Gives, Builds}
use Rattle.mz_forms.specs.Repeat.{maybe, spell_all, AreAll, spell_maybe, goes_maybe}
use Rattle.mz_forms.proofs.Compose.{Apart, head_of, append_nil}
use Rattle.mz_forms.proofs.Choose.{Turns, finds_empty, fails_here}
use Rattle.mz_forms.proofs.Leads.{leads_turn, leads_behind, leads_on, beside, passes, first_refuses, gives_through}
use Rattle.mz_forms.proofs.Lists.{Begun}
use Rattle.mz_forms.proofs.Maybe.{Starts, Lacks, begin_some, found_none}
use Rattle.mz_tree.specs.declared.word.Word.{Word}
use Rattle.mz_tree.specs.declared.nodes.AdjectiveNode.{AdjectiveNode}
use Rattle.mz_tree.specs.declared.nodes.TermNode.{TermNode}
use Rattle.mz_tree.specs.declared.nodes.UnitNode.{UnitNode}
use Rattle.mz_tree.specs.Spelled.{functor, argument, reserved}
use Rattle.mz_tree.specs.Trees.{TermData, TermsData, BaseData, PieceList, PrefixList, AdjectiveData, UnitData, TypeData, RunTerm, FunctorPiece, OperandPiece, IdentifierBase, SubjectBase, ArgumentBase, ListTerms, IsTypeUnit, IsAdjectivesUnit, no_pieces, no_prefixs, no_next_terms, adjectives_of}
use Rattle.mz_tree.specs.Spell.{spell_base, spell_term, spell_terms, spell_piece_list, spell_prefix_list, spell_next_term_list}
use Rattle.mz_tree.specs.Rules.{IsTerm, AreTerms, MayEnd, start, last_of}
use Rattle.mz_tree.specs.Views.{OperandData, adjective_of, term_of, unit_of}
use Rattle.mz_pterm.specs.declared.sign.Sign.{Sign}
use Rattle.mz_pterm.specs.declared.sign.Sign.TheVariants as signs
use Rattle.mz_pterm.specs.Classes.{begins_operand}
use Rattle.mz_pterm.specs.Sign.{sign_of}
use Rattle.mz_pterm.specs.Words.{is_fixed, fixed, is_named, named, word_of, word, name}
use Rattle.mz_pterm.specs.Forms.{spell_operand, IsRest, terms_form, make_group, make_aggregate, brackets_base, selected_with, of_selection}
use Rattle.mz_pterm.proofs.Signs.{told_fixed, told_named, told_functor, told_number, sign_of-fixed, sign_of-named, sign_of-functor}
use Rattle.mz_pterm.proofs.Bases.{word_at, terms_at, make_braces, make_squares}
use Rattle.mz_pterm.proofs.Operands.{unprefixed, operand_begins, terms_filled}
use Rattle.mz_ptype.specs.Classes.{begins_adjective, begins_radix, next_is}
use Rattle.mz_ptype.specs.Forms.{adjective_form, adjective_list_form, radix_sign, radix_form, type_of_parts, type_in, ReadsRadix}
use Rattle.mz_ptype.proofs.Optional.{never, true_not_false}
use Rattle.mz_ptype.proofs.AdjectiveSteps.{nowhere, comes}
use Rattle.mz_ptype.proofs.TypeSteps.{symbol_token, symbol_sign}
use Rattle.mz_patom.specs.Classes.{begins_term}
use Rattle.mz_patom.specs.Forms.{maybe_terms_form, Radix, IsFilled, IsPredicated, predicated, is_form, is_adjectives, is_unit, unit_in, BoxesUnit, GivesAdjectives, ReadsIs}

abbrev pub term_class : MarkedToken → Bool
term_class t = begins_term (sign_of t)

operand_term : (s : Sign) → begins_operand s ≡ true → begins_term s ≡ true
operand_term signs.Identifier e = refl
operand_term signs.Structure e = refl
operand_term signs.LeftBracket e = refl
operand_term signs.It e = refl
operand_term signs.The e = refl
operand_term (signs.Argument n) e = refl
operand_term signs.Open e = refl
operand_term signs.OpenBrace e = refl
operand_term signs.OpenSquare e = refl
operand_term _ e = cc

-- the first token of terms
pub term_first : (field : Bool) (x : TermData) (v : List MarkedToken) (t : MarkedToken) (w : List MarkedToken) → IsTerm field x → spell_term x ++ v ≡ t ∷ w → begins_term (sign_of t) ≡ true
term_first field (RunTerm (FunctorPiece u n) ps) v t w is e = let G : MarkedToken → Type 0 = λ z. begins_term (sign_of z) ≡ true in subst G (head_of _ _ _ _ e) (ap begins_term (sign_of-functor u n))
term_first field (RunTerm (OperandPiece a b) ps) v t w is e = operand_term (sign_of t) (operand_begins field a b (spell_piece_list ps ++ v) t w is.0.1 is.0.2 (sym (append_assoc (spell_prefix_list a ++ spell_base b) (spell_piece_list ps) v) ∙ e))

pub terms_first : (field : Bool) (x : TermsData) (v : List MarkedToken) (t : MarkedToken) (w : List MarkedToken) → AreTerms field x → spell_terms x ++ v ≡ t ∷ w → begins_term (sign_of t) ≡ true
terms_first field (ListTerms x xs) v t w is e = term_first field x (spell_next_term_list xs ++ v) t w is.0 (sym (append_assoc (spell_term x) (spell_next_term_list xs) v) ∙ e)

pub starts_terms : (field : Bool) → Starts (terms_form field) term_class
starts_terms field = record {
  filled = λ x is e. terms_filled field x [] is (append_nil _ ∙ e);
  first = λ x t m is e. terms_first field x [] t m is (append_nil _ ∙ e);
}

-- terms that begin with such a token
begun_terms_by : (field : Bool) (o : OperandData) (w : List MarkedToken) (m t : MarkedToken) → IsRest field false o → MayEnd (last_of start o.base) → spell_operand o ≡ m ∷ w → t ≡ m → Begun (terms_form field) t
begun_terms_by field o w m t is end e f = (
  ListTerms (RunTerm (OperandPiece o.prefixes o.base) no_pieces) no_next_terms,
  (w ++ []) ++ [],
  (((tt, is.0, is.1, is.2), end), tt),
  ap (λ z. (z ++ []) ++ []) (e ∙ ap (λ z. z ∷ w) (sym f)),
)

begun_by_name : (field : Bool) (s : Sign) (b : BaseData) (w : List MarkedToken) (t : MarkedToken) → IsRest field false (unprefixed b) → MayEnd (last_of start b) → is_named s ≡ true → sign_of t ≡ s → spell_base b ≡ named s (word_of t) ∷ w → Begun (terms_form field) t
begun_by_name field s b w t is end fix h e = begun_terms_by field (unprefixed b) w (named s (word_of t)) t is end e (told_named s t fix h)

begun_by_word : (field : Bool) (s : Sign) (b : BaseData) (w : List MarkedToken) (t : MarkedToken) → IsRest field false (unprefixed b) → MayEnd (last_of start b) → is_fixed s ≡ true → sign_of t ≡ s → spell_base b ≡ fixed s t.token.place ∷ w → Begun (terms_form field) t
begun_by_word field s b w t is end fix h e = begun_terms_by field (unprefixed b) w (fixed s t.token.place) t is end e (told_fixed s t fix h)

abbrev closed_by : Place → MarkedToken → List MarkedToken
closed_by p c = spell_terms (terms_at p) ++ c ∷ []

begun_at : (s : Sign) (field : Bool) (t : MarkedToken) → sign_of t ≡ s → begins_term s ≡ true → Begun (terms_form field) t
begun_at signs.Functor field t h g = (ListTerms (RunTerm (FunctorPiece (word_of t) t.token.priority) no_pieces) no_next_terms, [], ((tt, tt), tt), ap (λ z. z ∷ []) (sym (told_functor t h)))
begun_at signs.Identifier field t h g = begun_by_name field signs.Identifier (IdentifierBase (word_of t)) [] t (tt, tt, tt) tt refl h refl
begun_at signs.Structure field t h g = begun_by_name field signs.Structure (make_aggregate (word_of t) (t.token.place, (terms_at t.token.place, t.token.place))) (fixed signs.OpenAggregate t.token.place ∷ closed_by t.token.place (fixed signs.CloseAggregate t.token.place)) t (tt, ((tt, tt), tt), tt) tt refl h refl
begun_at signs.LeftBracket field t h g = begun_by_name field signs.LeftBracket (brackets_base (word_of t, (terms_at t.token.place, word_of t))) (closed_by t.token.place (named signs.RightBracket (word_of t))) t (tt, ((tt, tt), tt), tt) tt refl h refl
begun_at signs.It field t h g = begun_by_word field signs.It (SubjectBase t.token.place) [] t (tt, tt, tt) tt refl h refl
begun_at signs.The field t h g = begun_terms_by field (selected_with t.token.place (word_of t) (of_selection t.token.place (unprefixed (IdentifierBase (word_of t))))) (named signs.Selector (word_of t) ∷ (fixed signs.Of t.token.place ∷ (named signs.Identifier (word_of t) ∷ []))) (fixed signs.The t.token.place) t (tt, tt, refl) tt refl (told_fixed signs.The t refl h)
begun_at (signs.Argument n) field t h g = let k = told_number t n h in begun_terms_by field (unprefixed (ArgumentBase t.token.place n)) [] (argument t.token.place n) t (tt, (k.1, k.2), tt) tt refl k.0
begun_at signs.Open field t h g = begun_by_word field signs.Open (make_group (t.token.place, (terms_at t.token.place, t.token.place))) (closed_by t.token.place (fixed signs.Close t.token.place)) t (tt, ((tt, tt), tt), tt) tt refl h refl
begun_at signs.OpenBrace field t h g = begun_by_word field signs.OpenBrace (make_braces (t.token.place, (terms_at t.token.place, t.token.place))) (closed_by t.token.place (fixed signs.CloseBrace t.token.place)) t (tt, ((tt, tt), tt), tt) tt refl h refl
begun_at signs.OpenSquare field t h g = begun_by_word field signs.OpenSquare (make_squares (t.token.place, (terms_at t.token.place, t.token.place))) (closed_by t.token.place (fixed signs.CloseSquare t.token.place)) t (tt, ((tt, tt), tt), tt) tt refl h refl
begun_at _ field t h g = cc

pub begun_terms : (field : Bool) (t : MarkedToken) → begins_term (sign_of t) ≡ true → Begun (terms_form field) t
begun_terms field t g = begun_at (sign_of t) field t refl g

-- terms where they begin, and else nothing
pub begin_terms : (field : Bool) (room : ℕ) (b : List MarkedToken) → next_is begins_term b ≡ true → Leads (maybe_terms_form field) (terms_form field) room Some b b
begin_terms field room b e = let k = comes begins_term b e in begin_some (terms_form field) term_class (starts_terms field) room k.0 b k.1 k.3 (begun_terms field k.0 k.3) k.2

pub no_terms : (field : Bool) (room : ℕ) (b : List MarkedToken) → next_is begins_term b ≡ false → Found (maybe_terms_form field) room b None b
no_terms field room b e = found_none (terms_form field) term_class (starts_terms field) room b (lacks b e)
  where
    lacks : (b : List MarkedToken) → next_is begins_term b ≡ false → Lacks (terms_form field) term_class (starts_terms field) b
    lacks [] e = tt
    lacks (t ∷ rest) e = true_not_false (begins_term (sign_of t)) e

-- A mode or a structure behind adjectives, or nothing.
radix_first : (field : Bool) (k : Radix) (t : MarkedToken) (m : List MarkedToken) → (radix_form field).spell k ≡ t ∷ m → begins_radix (sign_of t) ≡ true
radix_first field k t m e = let C : MarkedToken → Type 0 = λ z. begins_radix (sign_of z) ≡ true in subst C (head_of _ _ _ _ e) (ap begins_radix (symbol_sign k.0) ∙ kind k.0.0)
  where
    kind : (structured : Bool) → begins_radix (radix_sign structured) ≡ true
    kind true = refl
    kind false = refl

only_radix : (field : Bool) (ads : List AdjectiveData) (x : Option Radix) (t : MarkedToken) (m : List MarkedToken) → IsPredicated field ads x → spell_maybe (radix_form field) x ≡ t ∷ m → (k : Radix) × (radix_form field).IsTree k × (x ≡ Some k)
only_radix field ads None t m is e = cc
only_radix field ads (Some k) t m is e = (k, is, refl)

radix_goes : (field : Bool) (x : Option Radix) (t : MarkedToken) → begins_radix (sign_of t) ≡ true → spell_maybe (radix_form field) x ≡ [] → goes_maybe (radix_form field) (λ z. begins_radix (sign_of z)) x t ≡ true
radix_goes field None t g e = g
radix_goes field (Some k) t g e = cc

begun_radix : (field : Bool) (s : Sign) (t : MarkedToken) → sign_of t ≡ s → begins_radix s ≡ true → Begun (radix_form field) t
begun_radix field signs.Mode t h g = (((false, word_of t), None), [], (tt, tt), ap (λ z. z ∷ []) (sym (told_named signs.Mode t refl h)))
begun_radix field signs.Structure t h g = (((true, word_of t), None), [], (tt, tt), ap (λ z. z ∷ []) (sym (told_named signs.Structure t refl h)))
begun_radix field _ t h g = cc

pub turn_radix : (field : Bool) (ads : List AdjectiveData) (t : MarkedToken) → begins_radix (sign_of t) ≡ true → Turns (predicated field ads) (radix_form field) Some t
turn_radix field ads t g = record {
  into = λ k is. is;
  spells = λ k is. refl;
  only = λ x m is e. only_radix field ads x t m is e;
  empty = λ x is e. radix_goes field x t g e;
  filled = λ k is e. cc;
  goes = λ k s is h. h;
  level = λ k is. refl;
  begins = begun_radix field (sign_of t) t refl g;
}

pub begin_radix : (field : Bool) (ads : List AdjectiveData) (room : ℕ) (b : List MarkedToken) → next_is begins_radix b ≡ true → Leads (predicated field ads) (radix_form field) room Some b b
begin_radix field ads room b e = let k = comes begins_radix b e in leads_turn (predicated field ads) (radix_form field) Some k.0 (turn_radix field ads k.0 k.3) room b k.1 k.2

no_radix_in : (field : Bool) (b : List MarkedToken) → next_is begins_radix b ≡ false → (k : Radix) → Agrees b ((radix_form field).spell k) → ⊥
no_radix_in field [] e k agrees = agrees
no_radix_in field (t ∷ b) e k agrees = true_not_false (begins_radix (sign_of t)) e (let C : MarkedToken → Type 0 = λ z. begins_radix (sign_of z) ≡ true in subst C agrees (radix_first field k _ _ refl))

pub adjectives_alone : (field : Bool) (ads : List AdjectiveData) (room : ℕ) (b : List MarkedToken) → IsFilled ads → next_is begins_radix b ≡ false → Found (predicated field ads) room b None b
adjectives_alone field ads room b some e = record { found = finds_empty (predicated field ads) None b some refl only; fits = λ i l. absurd (omega (arith, l)) }
  where
    only : (x : Option Radix) → IsPredicated field ads x → Agrees b (spell_maybe (radix_form field) x) → x ≡ None
    only None is agrees = refl
    only (Some k) is agrees = absurd (no_radix_in field b e k agrees)

pub nothing_predicated : (field : Bool) (ads : List AdjectiveData) (room : ℕ) (b : List MarkedToken) → ads ≡ [] → next_is begins_radix b ≡ false → Fails (predicated field ads) room b b
nothing_predicated field ads room b none e = fails_here (predicated field ads) room (Some ((false, word_at nowhere), None)) b (tt, tt) only
  where
    only : (x : Option Radix) → IsPredicated field ads x → Agrees b (spell_maybe (radix_form field) x) → ⊥
    only None is agrees = let F : List AdjectiveData → Type 0 = IsFilled in subst F none is
    only (Some k) is agrees = no_radix_in field b e k agrees

-- What stands behind `is`.
radix_begins : (s : Sign) → begins_radix s ≡ true → begins_adjective s ≡ false
radix_begins signs.Mode e = refl
radix_begins signs.Structure e = refl
radix_begins _ e = cc

pub predicated_apart : (field : Bool) → Apart (adjective_list_form field) (predicated field)
predicated_apart field ads None s x isa isk e g = cc
predicated_apart field ads (Some k) s x isa isk e g = true_not_false (begins_adjective (sign_of s)) (radix_begins (sign_of s) (radix_first field k s x e)) g

some_predicated : (field : Bool) (ads : List AdjectiveData) → (k : (predicated field ads).Tree) × (predicated field ads).IsTree k
some_predicated field ads = (Some ((false, word_at nowhere), None), (tt, tt))

pub list_refuses : (field : Bool) (room : ℕ) (b after : List MarkedToken) (e : Refusal) → Refuses (adjective_list_form field) room b e after → Refuses (is_form field) room b e after
list_refuses field room b after e h = first_refuses (adjective_list_form field) (predicated field) (predicated_apart field) room b after e (λ ads is. some_predicated field ads) h

pub behind_adjectives : (field : Bool) (room : ℕ) (b c : List MarkedToken) (ads : List AdjectiveData) → Found (adjective_list_form field) room b ads c → Leads (is_form field) (predicated field ads) room (beside (adjective_list_form field) (predicated field) ads) b c
behind_adjectives field room b c ads h = leads_behind (adjective_list_form field) (predicated field) (predicated_apart field) room b c ads h

-- adjectives with nothing behind them
pub is_of_adjectives : (field : Bool) (room : ℕ) (t : TermData) (p : Place) (b c : List MarkedToken) (ads : List AdjectiveData) (r : Result (Box UnitNode Global) Refusal) → Found (adjective_list_form field) room b ads c → next_is begins_radix c ≡ false → GivesAdjectives t p ads r → ReadsIs field room t p b r c
is_of_adjectives field room t p b c ads (Ok x) h e g = ((ads, None), (behind_adjectives field room b c ads h).finds None c (adjectives_alone field ads room c g.0 e), g.1)
is_of_adjectives field room t p b c ads (Err refusals.Refused) h e g = (behind_adjectives field room b c ads h).fails c (nothing_predicated field ads room c g e)
is_of_adjectives field room t p b c ads (Err refusals.Memory) h e g = tt
is_of_adjectives field room t p b c ads (Err refusals.TooDeep) h e g = absurd (clash g)
  where
    clash : refusals.TooDeep ≡ refusals.Memory → ⊥
    clash f = cc

pub type_refuses : (field : Bool) (room : ℕ) (b c after : List MarkedToken) (ads : List AdjectiveData) (e : Refusal) → Found (adjective_list_form field) room b ads c → next_is begins_radix c ≡ true → Refuses (radix_form field) room c e after → Refuses (is_form field) room b e after
type_refuses field room b c after ads e h n r = passes (is_form field) (predicated field ads) room _ b c after e (behind_adjectives field room b c ads h) (passes (predicated field ads) (radix_form field) room Some c c after e (begin_radix field ads room c n) r)

pub is_of_type : (field : Bool) (room : ℕ) (t : TermData) (p : Place) (b c after : List MarkedToken) (ads : List AdjectiveData) (y : TypeData) (x : UnitNode) (r : Result (Box UnitNode Global) Refusal) → Found (adjective_list_form field) room b ads c → next_is begins_radix c ≡ true →
    Builds (radix_form field) room (type_of_parts ads) y c after → unit_of x ≡ IsTypeUnit t p y → BoxesUnit x r → ReadsIs field room t p b r after
is_of_type field room t p b c after ads y x (Ok z) h n k e g =
    ((ads, Some k.0), (behind_adjectives field room b c ads h).finds (Some k.0) after ((begin_radix field ads room c n).finds k.0 after k.1), ap unit_of g ∙ (e ∙ ap (λ z. IsTypeUnit t p z) k.2))
is_of_type field room t p b c after ads y x (Err e) h n k f g = let R : Refusal → Type 0 = λ z. Refuses (is_form field) room b z after in subst R (sym g) tt

-- adjectives, of which the first is taken
pub adjectives_seen : (t : TermNode) (p : Place) (v : List AdjectiveNode) (a : AdjectiveNode) (more : Vec AdjectiveNode Global) (x : UnitNode) → v ≡ a ∷ more.items → unit_of x ≡ IsAdjectivesUnit (term_of t) p (adjective_of a) (adjectives_of (map adjective_of more.items)) → (r : Result (Box UnitNode Global) Refusal) → BoxesUnit x r → GivesAdjectives (term_of t) p (map adjective_of v) r
adjectives_seen t p v a more x e f (Ok z) g =
    let G : List AdjectiveNode → Type 0 = λ y. IsFilled (map adjective_of y) × (unit_in z ≡ is_adjectives (term_of t) p (map adjective_of y)) in
    subst G (sym e) (tt, ap unit_of g ∙ f)
adjectives_seen t p v a more x e f (Err refusals.Memory) g = refl
adjectives_seen t p v a more x e f (Err refusals.TooDeep) g = g
adjectives_seen t p v a more x e f (Err refusals.Refused) g = cc

pub head_removed : {X : Type 0} (v : List X) (a : X) (w : List X) → (v ≡ [] → ⊥) → a ≡ slice_index_or v 0 a → w ≡ remove v 0 → v ≡ a ∷ w
head_removed [] a w h e f = absurd (h refl)
head_removed (x ∷ xs) a w h e f = ap (λ z. z ∷ xs) (sym e) ∙ ap (λ z. a ∷ z) (sym f)
