-- Formulas that begin with an identifier: what stands behind it, and that it nests nothing.
use Rattle.std.proofs.Common.{◌≡◌, ℕ, Bool, false, List, [], ◌∷◌, ◌++◌, refl, sym, ap, subst, ◌∙◌, append_assoc, get_or, Some, None}
use Rattle.mz_base.specs.declared.token.MarkedToken.{MarkedToken}
use Rattle.mz_forms.specs.Form.{Agrees}
use Rattle.mz_forms.proofs.Compose.{head_of, tail_of}
use Rattle.mz_tree.specs.Trees.{FormulaData, DisjunctionData, ConjunctionData, UnitData, NextUnitList, NextConjunctionList, TermsData, BaseData, PieceList, NextTermList, PlainFormula, ImpliesFormula, IffFormula, ChainDisjunction, ChainConjunction, OrNextConjunction, AndNextUnit, no_next_units, more_next_units, no_next_conjunctions, more_next_conjunctions, RunTerm, FunctorPiece, OperandPiece, SelectorPrefix, ChoiceOfPrefix, ChoiceOverPrefix, ListTerms, NextNextTerm, no_pieces, more_pieces, no_prefixs, more_prefixs, no_next_terms, more_next_terms}
use Rattle.mz_tree.specs.Spell.{spell_base, spell_terms, spell_piece_list, spell_next_term_list, spell_unit, spell_conjunction, spell_disjunction, spell_formula, spell_next_unit_list, spell_next_conjunction_list}
use Rattle.mz_tree.specs.Levels.{levels_base, levels_terms, levels_piece_list, levels_next_term_list, levels_unit, levels_conjunction, levels_disjunction, levels_formula, levels_next_unit_list, levels_next_conjunction_list}
use Rattle.mz_tree.specs.Rules.{Last, start, operand, last_of, GoesOn, AreTerms, IsBase, IsUnit, IsConjunction, IsDisjunction, IsFormula}
use Rattle.mz_pterm.specs.declared.sign.Sign.{Sign}
use Rattle.mz_pterm.specs.declared.sign.Sign.TheVariants as signs
use Rattle.mz_pterm.specs.Sign.{sign_of}
use Rattle.mz_pterm.specs.Words.{fixed}
use Rattle.mz_pterm.proofs.Signs.{sign_of-fixed, sign_of-named, sign_of-functor}
use Rattle.mz_pterm.proofs.Bases.{Opens, identifier_opens, call_opens, call_with_opens, opens_as, base_filled}
use Rattle.mz_patom.specs.Forms.{Opening, unit_opening, spell_opening, levels_opening, IsOpening, Tail, no_tail, relates, is_tail, spell_tail, levels_tail}
use Rattle.mz_pformula.proofs.Openings.{Begins, quantified_first, private_first, atom_first, opening_filled, join_spells, join_levels}
use Rattle.mz_pformula.proofs.Units.{begins_as}

-- No token that no expression has stands behind an identifier that begins terms.
after_name : (b : BaseData) (v : List MarkedToken) (t n : MarkedToken) (more : List MarkedToken) → sign_of n ≡ signs.Other → Opens signs.Identifier b → spell_base b ++ v ≡ t ∷ (n ∷ more) → (last_of start b ≡ operand) × (v ≡ n ∷ more)
after_name b v t n more h (identifier_opens w) e = (refl, tail_of _ _ _ _ e)
after_name b v t n more h (call_opens w p q) e = absurd (clash (sym (sign_of-fixed signs.Open p refl) ∙ (ap sign_of (head_of _ _ _ _ (tail_of _ _ _ _ e)) ∙ h)))
  where
    clash : signs.Open ≡ signs.Other → ⊥
    clash f = cc
after_name b v t n more h (call_with_opens w p ts q) e = absurd (clash (sym (sign_of-fixed signs.Open p refl) ∙ (ap sign_of (head_of _ _ _ _ (tail_of _ _ _ _ e)) ∙ h)))
  where
    clash : signs.Open ≡ signs.Other → ⊥
    clash f = cc

base_opens : (field : Bool) (s : Sign) (b : BaseData) (v : List MarkedToken) (t : MarkedToken) (more : List MarkedToken) → IsBase field b → sign_of t ≡ s → spell_base b ++ v ≡ t ∷ more → Opens s b
base_opens field s b v t more is h e = go (spell_base b) refl
  where
    go : (w : List MarkedToken) → spell_base b ≡ w → Opens s b
    go [] f = absurd (base_filled field b is f)
    go (r ∷ w) f = opens_as field s b r w (ap sign_of (head_of _ _ _ _ (sym (ap (λ z. z ++ v) f) ∙ e)) ∙ h) is f

no_piece : (field : Bool) (l : Last) (ps : PieceList) (z : List MarkedToken) (n : MarkedToken) (more : List MarkedToken) → l ≡ operand → GoesOn field l ps → sign_of n ≡ signs.Other → spell_piece_list ps ++ z ≡ n ∷ more → z ≡ n ∷ more
no_piece field l no_pieces z n more last is h e = e
no_piece field l (more_pieces (FunctorPiece w m) ps) z n more last is h e = absurd (clash (sym (sign_of-functor w m) ∙ (ap sign_of (head_of _ _ _ _ e) ∙ h)))
  where
    clash : signs.Functor ≡ signs.Other → ⊥
    clash f = cc
no_piece field l (more_pieces (OperandPiece a b) ps) z n more last is h e = absurd (let G : Last → Type 0 = λ z. GoesOn field z (more_pieces (OperandPiece a b) ps) in none (subst G last is))
  where
    none : GoesOn field operand (more_pieces (OperandPiece a b) ps) → ⊥
    none g = g.0.0

no_comma : (us : NextTermList) (z : List MarkedToken) (n : MarkedToken) (more : List MarkedToken) → sign_of n ≡ signs.Other → spell_next_term_list us ++ z ≡ n ∷ more → z ≡ n ∷ more
no_comma no_next_terms z n more h e = e
no_comma (more_next_terms (NextNextTerm p t) ts) z n more h e = absurd (clash (sym (sign_of-fixed signs.ListComma p refl) ∙ (ap sign_of (head_of _ _ _ _ e) ∙ h)))
  where
    clash : signs.ListComma ≡ signs.Other → ⊥
    clash f = cc

no_other_tail : (field : Bool) (k : Tail) (n : MarkedToken) (more : List MarkedToken) → sign_of n ≡ signs.Other → spell_tail field k ≡ n ∷ more → ⊥
no_other_tail field no_tail n more h e = cc
no_other_tail field (relates w o) n more h e = clash (sym (sign_of-named signs.Predicate w refl) ∙ (ap sign_of (head_of _ _ _ _ e) ∙ h))
  where
    clash : signs.Predicate ≡ signs.Other → ⊥
    clash f = cc
no_other_tail field (is_tail p ads o) n more h e = clash (sym (sign_of-fixed signs.Is p refl) ∙ (ap sign_of (head_of _ _ _ _ e) ∙ h))
  where
    clash : signs.Is ≡ signs.Other → ⊥
    clash f = cc

no_other_terms : (field : Bool) (ts : TermsData) (k : Tail) (t n : MarkedToken) (more : List MarkedToken) → AreTerms field ts → sign_of t ≡ signs.Identifier → sign_of n ≡ signs.Other → spell_terms ts ++ spell_tail field k ≡ t ∷ (n ∷ more) → ⊥
no_other_terms field (ListTerms (RunTerm (FunctorPiece w m) ps) us) k t n more is h g e = clash (sym (sign_of-functor w m) ∙ (ap sign_of (head_of _ _ _ _ e) ∙ h))
  where
    clash : signs.Functor ≡ signs.Identifier → ⊥
    clash f = cc
no_other_terms field (ListTerms (RunTerm (OperandPiece (more_prefixs (SelectorPrefix p w q) vs) b) ps) us) k t n more is h g e = clash (sym (sign_of-fixed signs.The p refl) ∙ (ap sign_of (head_of _ _ _ _ e) ∙ h))
  where
    clash : signs.The ≡ signs.Identifier → ⊥
    clash f = cc
no_other_terms field (ListTerms (RunTerm (OperandPiece (more_prefixs (ChoiceOfPrefix p v w q x) vs) b) ps) us) k t n more is h g e = is.0.0.1
no_other_terms field (ListTerms (RunTerm (OperandPiece (more_prefixs (ChoiceOverPrefix p v w q x) vs) b) ps) us) k t n more is h g e = is.0.0.1
no_other_terms field (ListTerms (RunTerm (OperandPiece no_prefixs b) ps) us) k t n more is h g e =
    let f : spell_base b ++ (spell_piece_list ps ++ (spell_next_term_list us ++ spell_tail field k)) ≡ t ∷ (n ∷ more) =
    sym (append_assoc (spell_base b) (spell_piece_list ps) (spell_next_term_list us ++ spell_tail field k)) ∙ (sym (append_assoc (spell_base b ++ spell_piece_list ps) (spell_next_term_list us) (spell_tail field k)) ∙ e) in
    let a = after_name b _ t n more g (base_opens field signs.Identifier b _ t (n ∷ more) is.0.0.2 h f) f in
    let p = no_piece field (last_of start b) ps _ n more a.0 is.0.1 g a.1 in
    no_other_tail field k n more g (no_comma us _ n more g p)

-- The first token of terms that begin with an identifier nests nothing.
base_at : (field : Bool) (b : BaseData) (t : MarkedToken) (v : List MarkedToken) → IsBase field b → sign_of t ≡ signs.Identifier → Agrees (t ∷ []) (spell_base b ++ v) → Opens signs.Identifier b
base_at field b t v is h agrees = go (spell_base b) refl
  where
    go : (w : List MarkedToken) → spell_base b ≡ w → Opens signs.Identifier b
    go [] f = absurd (base_filled field b is f)
    go (s ∷ w) f = let A : List MarkedToken → Type 0 = λ z. Agrees (t ∷ []) (z ++ v) in opens_as field signs.Identifier b s w (ap sign_of (subst A f agrees) ∙ h) is f

base_level : (b : BaseData) (ls : List ℕ) → Opens signs.Identifier b → get_or (levels_base b ++ ls) 0 0 ≡ 0
base_level b ls (identifier_opens w) = refl
base_level b ls (call_opens w p q) = refl
base_level b ls (call_with_opens w p ts q) = refl

terms_level : (field : Bool) (t : MarkedToken) (ts : TermsData) (k : List MarkedToken) (ls : List ℕ) → sign_of t ≡ signs.Identifier → AreTerms field ts → Agrees (t ∷ []) (spell_terms ts ++ k) → get_or (levels_terms ts ++ ls) 0 0 ≡ 0
terms_level field t (ListTerms (RunTerm (FunctorPiece w m) ps) us) k ls h is agrees = refl
terms_level field t (ListTerms (RunTerm (OperandPiece (more_prefixs (SelectorPrefix p w q) vs) b) ps) us) k ls h is agrees = refl
terms_level field t (ListTerms (RunTerm (OperandPiece (more_prefixs (ChoiceOfPrefix p v w q x) vs) b) ps) us) k ls h is agrees = absurd is.0.0.1
terms_level field t (ListTerms (RunTerm (OperandPiece (more_prefixs (ChoiceOverPrefix p v w q x) vs) b) ps) us) k ls h is agrees = absurd is.0.0.1
terms_level field t (ListTerms (RunTerm (OperandPiece no_prefixs b) ps) us) k ls h is agrees =
    let A : List MarkedToken → Type 0 = λ z. Agrees (t ∷ []) z in
    let L : List ℕ → Type 0 = λ z. get_or z 0 0 ≡ 0 in
    let o = base_at field b t _ is.0.0.2 h (subst A (three (spell_base b) (spell_piece_list ps) (spell_next_term_list us) (k)) agrees) in
    subst L (sym (three (levels_base b) (levels_piece_list ps) (levels_next_term_list us) (ls))) (base_level b _ o)
  where
    three : {X : Type 0} (a b c d : List X) → ((a ++ b) ++ c) ++ d ≡ a ++ (b ++ (c ++ d))
    three a b c d = append_assoc (a ++ b) c d ∙ append_assoc a b (c ++ d)

-- What is a unit's second token, or its first level.
opening_second : (x : Opening) (t n : MarkedToken) (more : List MarkedToken) → sign_of t ≡ signs.Identifier → sign_of n ≡ signs.Other → IsOpening false x → spell_opening x ≡ t ∷ (n ∷ more) → Begins false signs.Identifier x → ⊥
opening_second x t n more h m is e (private_first f w p None q) = clash (sym (sign_of-fixed signs.OpenSquare p refl) ∙ (ap sign_of (head_of _ _ _ _ (tail_of _ _ _ _ e)) ∙ m))
  where
    clash : signs.OpenSquare ≡ signs.Other → ⊥
    clash f = cc
opening_second x t n more h m is e (private_first f w p (Some ts) q) = clash (sym (sign_of-fixed signs.OpenSquare p refl) ∙ (ap sign_of (head_of _ _ _ _ (tail_of _ _ _ _ e)) ∙ m))
  where
    clash : signs.OpenSquare ≡ signs.Other → ⊥
    clash f = cc
opening_second x t n more h m is e (quantified_first f s q g) = cc
opening_second x t n more h m is e (atom_first f s ts k g i j) = no_other_terms false ts k t n more i h m (sym (join_spells false ts k j) ∙ e)

opening_level : (x : Opening) (t : MarkedToken) (m : List MarkedToken) (ls : List ℕ) → sign_of t ≡ signs.Identifier → spell_opening x ≡ t ∷ m → Begins false signs.Identifier x → get_or (levels_opening x ++ ls) 0 0 ≡ 0
opening_level x t m ls h e (private_first f w p None q) = refl
opening_level x t m ls h e (private_first f w p (Some ts) q) = refl
opening_level x t m ls h e (quantified_first f s q g) = cc
opening_level x t m ls h e (atom_first f s ts k g i j) =
    let A : List MarkedToken → Type 0 = λ z. Agrees (t ∷ []) z in
    let begun : t ∷ m ≡ spell_terms ts ++ spell_tail false k = sym e ∙ join_spells false ts k j in
    let L : List ℕ → Type 0 = λ z. get_or z 0 0 ≡ 0 in
    subst L (sym (ap (λ z. z ++ ls) (join_levels false ts k j) ∙ append_assoc (levels_terms ts) (levels_tail false k) ls)) (terms_level false t ts (spell_tail false k) (levels_tail false k ++ ls) h i (subst A begun refl))

-- A formula is a unit and what goes on it, an operator first.
abbrev NotOther : List MarkedToken → Type 0
NotOther [] = Unit {0}
NotOther (t ∷ ts) = sign_of t ≡ signs.Other → ⊥

operator_first : (s : Sign) (t : MarkedToken) → sign_of t ≡ s → (s ≡ signs.Other → ⊥) → sign_of t ≡ signs.Other → ⊥
operator_first s t e h g = h (sym e ∙ g)

either_first : (v w : List MarkedToken) → NotOther v → NotOther w → NotOther (v ++ w)
either_first [] w h g = g
either_first (t ∷ v) w h g = h

and_not : signs.And ≡ signs.Other → ⊥
and_not e = cc

or_not : signs.Or ≡ signs.Other → ⊥
or_not e = cc

implies_not : signs.Implies ≡ signs.Other → ⊥
implies_not e = cc

iff_not : signs.Iff ≡ signs.Other → ⊥
iff_not e = cc

units_first : (us : NextUnitList) → NotOther (spell_next_unit_list us)
units_first no_next_units = tt
units_first (more_next_units (AndNextUnit p u) us) = operator_first signs.And (fixed signs.And p) (sign_of-fixed signs.And p refl) and_not

conjunctions_first : (cs : NextConjunctionList) → NotOther (spell_next_conjunction_list cs)
conjunctions_first no_next_conjunctions = tt
conjunctions_first (more_next_conjunctions (OrNextConjunction p c) cs) = operator_first signs.Or (fixed signs.Or p) (sign_of-fixed signs.Or p refl) or_not

record Parts (spelled : List MarkedToken) (levels : List ℕ) : Type 0 where
  unit : UnitData
  rest : List MarkedToken
  more : List ℕ
  is : IsUnit false unit
  spells : spelled ≡ spell_unit unit ++ rest
  nests : levels ≡ levels_unit unit ++ more
  other : NotOther rest

extended : (s w : List MarkedToken) (l m : List ℕ) → Parts s l → NotOther w → Parts (s ++ w) (l ++ m)
extended s w l m k h = record {
  unit = k.unit;
  rest = k.rest ++ w;
  more = k.more ++ m;
  is = k.is;
  spells = ap (λ z. z ++ w) k.spells ∙ append_assoc (spell_unit k.unit) k.rest w;
  nests = ap (λ z. z ++ m) k.nests ∙ append_assoc (levels_unit k.unit) k.more m;
  other = either_first k.rest w k.other h;
}

conjunction_parts : (c : ConjunctionData) → IsConjunction false c → Parts (spell_conjunction c) (levels_conjunction c)
conjunction_parts (ChainConjunction u us) is = record { unit = u; rest = spell_next_unit_list us; more = levels_next_unit_list us; is = is.0; spells = refl; nests = refl; other = units_first us }

disjunction_parts : (d : DisjunctionData) → IsDisjunction false d → Parts (spell_disjunction d) (levels_disjunction d)
disjunction_parts (ChainDisjunction c cs) is = extended (spell_conjunction c) (spell_next_conjunction_list cs) (levels_conjunction c) (levels_next_conjunction_list cs) (conjunction_parts c is.0) (conjunctions_first cs)

formula_parts : (f : FormulaData) → IsFormula false f → Parts (spell_formula f) (levels_formula f)
formula_parts (PlainFormula d) is = disjunction_parts d is
formula_parts (ImpliesFormula d p e) is = extended (spell_disjunction d) (fixed signs.Implies p ∷ spell_disjunction e) (levels_disjunction d) (0 ∷ levels_disjunction e) (disjunction_parts d is.0) (operator_first signs.Implies (fixed signs.Implies p) (sign_of-fixed signs.Implies p refl) implies_not)
formula_parts (IffFormula d p e) is = extended (spell_disjunction d) (fixed signs.Iff p ∷ spell_disjunction e) (levels_disjunction d) (0 ∷ levels_disjunction e) (disjunction_parts d is.0) (operator_first signs.Iff (fixed signs.Iff p) (sign_of-fixed signs.Iff p refl) iff_not)

unit_filled : (u : UnitData) → IsUnit false u → spell_unit u ≡ [] → ⊥
unit_filled u is e = opening_filled false (unit_opening u) is e

-- no token that no expression has stands behind the identifier
pub no_other : (f : FormulaData) (t n : MarkedToken) (more : List MarkedToken) → IsFormula false f → sign_of t ≡ signs.Identifier → sign_of n ≡ signs.Other → spell_formula f ≡ t ∷ (n ∷ more) → ⊥
no_other f t n more is h m e = go (spell_unit k.unit) refl
  where
    k : Parts (spell_formula f) (levels_formula f)
    k = formula_parts f is

    at_rest : (w : List MarkedToken) → NotOther w → w ≡ n ∷ more → ⊥
    at_rest [] g i = cc
    at_rest (s ∷ w) g i = g (ap sign_of (head_of _ _ _ _ i) ∙ m)

    go : (w : List MarkedToken) → spell_unit k.unit ≡ w → ⊥
    go [] g = unit_filled k.unit k.is g
    go (s ∷ []) g = at_rest k.rest k.other (tail_of _ _ _ _ (ap (λ z. z ++ k.rest) (sym g) ∙ (sym k.spells ∙ e)))
    go (s ∷ (r ∷ w)) g =
        let whole : s ∷ (r ∷ (w ++ k.rest)) ≡ t ∷ (n ∷ more) = ap (λ z. z ++ k.rest) (sym g) ∙ (sym k.spells ∙ e) in
        let first : s ≡ t = head_of _ _ _ _ whole in
        let second : r ≡ n = head_of _ _ _ _ (tail_of _ _ _ _ whole) in
        let begun : spell_unit k.unit ≡ t ∷ (n ∷ w) = g ∙ (ap (λ z. z ∷ (r ∷ w)) first ∙ ap (λ z. t ∷ (z ∷ w)) second) in
        opening_second (unit_opening k.unit) t n w h m k.is begun (begins_as false signs.Identifier (unit_opening k.unit) t (n ∷ w) h k.is begun)

pub formula_filled : (f : FormulaData) → IsFormula false f → spell_formula f ≡ [] → ⊥
formula_filled f is e = unit_filled k.unit k.is (left (spell_unit k.unit) k.rest (sym k.spells ∙ e))
  where
    k : Parts (spell_formula f) (levels_formula f)
    k = formula_parts f is

    left : (v w : List MarkedToken) → v ++ w ≡ [] → v ≡ []
    left [] w g = refl
    left (s ∷ v) w g = cc

-- the identifier nests nothing
pub formula_level : (f : FormulaData) (t : MarkedToken) → IsFormula false f → sign_of t ≡ signs.Identifier → Agrees (t ∷ []) (spell_formula f) → get_or (levels_formula f) 0 0 ≡ 0
formula_level f t is h agrees = go (spell_unit k.unit) refl
  where
    k : Parts (spell_formula f) (levels_formula f)
    k = formula_parts f is

    go : (w : List MarkedToken) → spell_unit k.unit ≡ w → get_or (levels_formula f) 0 0 ≡ 0
    go [] g = absurd (unit_filled k.unit k.is g)
    go (s ∷ w) g =
        let A : List MarkedToken → Type 0 = λ z. Agrees (t ∷ []) z in
        let same : s ≡ t = subst A (k.spells ∙ ap (λ z. z ++ k.rest) g) agrees in
        let begun : spell_unit k.unit ≡ t ∷ w = g ∙ ap (λ z. z ∷ w) same in
        let L : List ℕ → Type 0 = λ z. get_or z 0 0 ≡ 0 in
        subst L (sym k.nests) (opening_level (unit_opening k.unit) t w k.more h begun (begins_as false signs.Identifier (unit_opening k.unit) t w h k.is begun))

-- what a formula begins with is a token of an expression
none_first : (x : Opening) → Begins false signs.Other x → ⊥
none_first x (quantified_first f s q g) = cc
none_first x (atom_first f s ts k g i j) = cc

pub formula_first : (f : FormulaData) (t : MarkedToken) (m : List MarkedToken) → IsFormula false f → sign_of t ≡ signs.Other → spell_formula f ≡ t ∷ m → ⊥
formula_first f t m is h e = go (spell_unit k.unit) refl
  where
    k : Parts (spell_formula f) (levels_formula f)
    k = formula_parts f is

    go : (w : List MarkedToken) → spell_unit k.unit ≡ w → ⊥
    go [] g = unit_filled k.unit k.is g
    go (s ∷ w) g =
        let whole : s ∷ (w ++ k.rest) ≡ t ∷ m = ap (λ z. z ++ k.rest) (sym g) ∙ (sym k.spells ∙ e) in
        let begun : spell_unit k.unit ≡ t ∷ w = g ∙ ap (λ z. z ∷ w) (head_of s t (w ++ k.rest) m whole) in
        none_first (unit_opening k.unit) (begins_as false signs.Other (unit_opening k.unit) t w h k.is begun)
