-- The readings of names for terms, of what is retyped and of what is taken.
use Rattle.std.proofs.Common.{◌≡◌, ℕ, Bool, true, false, ◌&&◌, List, [], ◌∷◌, ◌++◌, refl, sym, ap, subst, ◌∙◌, get_or, Option, Some, None}
use Rattle.std.proofs.lemmas.Bool.{or_left, or_right}
use Rattle.mz_base.specs.declared.place.Place.{Place}
use Rattle.mz_base.specs.declared.token.MarkedToken.{MarkedToken}
use Rattle.mz_forms.specs.declared.refusal.Refusal.{Refusal}
use Rattle.mz_forms.specs.Form.{Form, Agrees, Found, Leads, is_empty, then}
use Rattle.mz_forms.specs.Reading.{Refuses}
use Rattle.mz_forms.specs.Repeat.{maybe, IsMaybe, spell_maybe}
use Rattle.mz_forms.proofs.Choose.{Reshapes}
use Rattle.mz_forms.proofs.Compose.{head_of, tail_of}
use Rattle.mz_forms.proofs.Leads.{leads_as, leads_look, leads_on, beside, passes}
use Rattle.mz_forms.proofs.Lists.{Begun}
use Rattle.mz_forms.proofs.Look.{Looks}
use Rattle.mz_forms.proofs.Maybe.{Starts, Lacks, begin_some, found_none}
use Rattle.mz_forms.proofs.Words.{behind_word, first_word_refuses, word_found}
use Rattle.mz_tree.specs.declared.word.Word.{Word}
use Rattle.mz_tree.specs.Spelled.{equals_sign}
use Rattle.mz_tree.specs.Trees.{TermData, BaseData, PieceList, RunTerm, FunctorPiece, OperandPiece, SelectorPrefix, ChoiceOfPrefix, ChoiceOverPrefix, IdentifierBase, no_pieces, more_pieces, no_prefixs, more_prefixs}
use Rattle.mz_tree.specs.Spell.{spell_base, spell_piece_list, spell_term}
use Rattle.mz_tree.specs.Levels.{levels_base, levels_piece_list, levels_term}
use Rattle.mz_tree.specs.Rules.{Last, start, operand, last_of, GoesOn, IsBase, IsTerm}
use Rattle.mz_tree_proof.specs.declared.introduction.NamedTermTree.{NamedTermTree}
use Rattle.mz_tree_proof.specs.declared.introduction.RetypedTree.{RetypedTree}
use Rattle.mz_tree_proof.specs.declared.introduction.RetypedTree.TheVariants as retyped_tree
use Rattle.mz_tree_proof.specs.declared.skeleton.TakenTree.{TakenTree}
use Rattle.mz_tree_proof.specs.declared.skeleton.TakenTree.TheVariants as taken_tree
use Rattle.mz_tree_proof.specs.Spell.{spell_named_term, spell_retyped, spell_taken}
use Rattle.mz_tree_proof.specs.Levels.{levels_retyped}
use Rattle.mz_tree_proof.specs.Rules.{IsNamedTerm, IsRetyped, IsTaken}
use Rattle.mz_pterm.specs.declared.sign.Sign.{Sign}
use Rattle.mz_pterm.specs.declared.sign.Sign.TheVariants as signs
use Rattle.mz_pterm.specs.Classes.{goes_on_term}
use Rattle.mz_pterm.specs.Sign.{sign_of}
use Rattle.mz_pterm.specs.Words.{named, name, word_of}
use Rattle.mz_pterm.specs.Forms.{term_form}
use Rattle.mz_pterm.proofs.Bases.{Opens, identifier_opens, call_opens, call_with_opens, opens_as, base_filled, term_at}
use Rattle.mz_pterm.proofs.Signs.{told_named, sign_of-fixed, sign_of-named, sign_of-functor}
use Rattle.mz_ptype.proofs.Optional.{never, true_not_false}
use Rattle.mz_patom.specs.Classes.{is_identifier}
use Rattle.mz_pformula.proofs.Begun.{begun, leads_begun}
use Rattle.mz_pformula.proofs.Identifiers.{identifier_is}
use Rattle.mz_pformula.proofs.Second.{Seconds, leads_second}
use Rattle.mz_pjustification.proofs.Taken.{nowhere, or_goes}
use Rattle.mz_pproposition.proofs.PropositionSteps.{both_true}
use Rattle.mz_pstep.specs.Words.{is_predicate, is_equals, equals_form, named_next, TakesEquals}
use Rattle.mz_pstep.specs.Forms.{named_term_form, goes_on_named, retyped_form, taken_form}
use Rattle.mz_pstep.proofs.Equals.{equals_own, equals_same, sign_of-equals_predicate, equals_told}

-- No predicate symbol stands behind an identifier that begins a term.
after_name : (b : BaseData) (v : List MarkedToken) (t n : MarkedToken) (more : List MarkedToken) → sign_of n ≡ signs.Predicate → Opens signs.Identifier b → spell_base b ++ v ≡ t ∷ (n ∷ more) → (last_of start b ≡ operand) × (v ≡ n ∷ more)
after_name b v t n more h (identifier_opens w) e = (refl, tail_of _ _ _ _ e)
after_name b v t n more h (call_opens w p q) e = absurd (clash (sym (sign_of-fixed signs.Open p refl) ∙ (ap sign_of (head_of _ _ _ _ (tail_of _ _ _ _ e)) ∙ h)))
  where
    clash : signs.Open ≡ signs.Predicate → ⊥
    clash f = cc
after_name b v t n more h (call_with_opens w p ts q) e = absurd (clash (sym (sign_of-fixed signs.Open p refl) ∙ (ap sign_of (head_of _ _ _ _ (tail_of _ _ _ _ e)) ∙ h)))
  where
    clash : signs.Open ≡ signs.Predicate → ⊥
    clash f = cc

base_opens : (field : Bool) (s : Sign) (b : BaseData) (v : List MarkedToken) (t : MarkedToken) (more : List MarkedToken) → IsBase field b → sign_of t ≡ s → spell_base b ++ v ≡ t ∷ more → Opens s b
base_opens field s b v t more is h e = go (spell_base b) refl
  where
    go : (w : List MarkedToken) → spell_base b ≡ w → Opens s b
    go [] f = absurd (base_filled field b is f)
    go (r ∷ w) f = opens_as field s b r w (ap sign_of (head_of _ _ _ _ (sym (ap (λ z. z ++ v) f) ∙ e)) ∙ h) is f

no_piece : (field : Bool) (l : Last) (ps : PieceList) (z : List MarkedToken) (n : MarkedToken) (more : List MarkedToken) → l ≡ operand → GoesOn field l ps → sign_of n ≡ signs.Predicate → spell_piece_list ps ++ z ≡ n ∷ more → z ≡ n ∷ more
no_piece field l no_pieces z n more last is h e = e
no_piece field l (more_pieces (FunctorPiece w m) ps) z n more last is h e = absurd (clash (sym (sign_of-functor w m) ∙ (ap sign_of (head_of _ _ _ _ e) ∙ h)))
  where
    clash : signs.Functor ≡ signs.Predicate → ⊥
    clash f = cc
no_piece field l (more_pieces (OperandPiece a b) ps) z n more last is h e = absurd (let G : Last → Type 0 = λ z. GoesOn field z (more_pieces (OperandPiece a b) ps) in none (subst G last is))
  where
    none : GoesOn field operand (more_pieces (OperandPiece a b) ps) → ⊥
    none g = g.0.0

-- The first token of terms that begin with an identifier nests nothing.
base_at : (field : Bool) (b : BaseData) (t : MarkedToken) (v : List MarkedToken) → IsBase field b → sign_of t ≡ signs.Identifier → Agrees (t ∷ []) (spell_base b ++ v) → Opens signs.Identifier b
base_at field b t v is h agrees = go (spell_base b) refl
  where
    go : (w : List MarkedToken) → spell_base b ≡ w → Opens signs.Identifier b
    go [] f = absurd (base_filled field b is f)
    go (s ∷ w) f = let A : List MarkedToken → Type 0 = λ z. Agrees (t ∷ []) (z ++ v) in opens_as field signs.Identifier b s w (ap sign_of (subst A f agrees) ∙ h) is f

base_level : (b : BaseData) (ls : List ℕ) → Opens signs.Identifier b → get_or (levels_base b ++ ls) 0 0 ≡ 0
base_level b ls (identifier_opens w) = refl
base_level b ls (call_opens w p q) = refl
base_level b ls (call_with_opens w p ts q) = refl

-- a predicate symbol is no term's second token
pub no_predicate : (x : TermData) (t n : MarkedToken) (more : List MarkedToken) → IsTerm false x → sign_of t ≡ signs.Identifier → sign_of n ≡ signs.Predicate → spell_term x ≡ t ∷ (n ∷ more) → ⊥
no_predicate (RunTerm (FunctorPiece w m) ps) t n more is h g e = clash (sym (sign_of-functor w m) ∙ (ap sign_of (head_of _ _ _ _ e) ∙ h))
  where
    clash : signs.Functor ≡ signs.Identifier → ⊥
    clash f = cc
no_predicate (RunTerm (OperandPiece (more_prefixs (SelectorPrefix p w q) vs) b) ps) t n more is h g e = clash (sym (sign_of-fixed signs.The p refl) ∙ (ap sign_of (head_of _ _ _ _ e) ∙ h))
  where
    clash : signs.The ≡ signs.Identifier → ⊥
    clash f = cc
no_predicate (RunTerm (OperandPiece (more_prefixs (ChoiceOfPrefix p v w q x) vs) b) ps) t n more is h g e = is.0.1
no_predicate (RunTerm (OperandPiece (more_prefixs (ChoiceOverPrefix p v w q x) vs) b) ps) t n more is h g e = is.0.1
no_predicate (RunTerm (OperandPiece no_prefixs b) ps) t n more is h g e =
    let a = after_name b _ t n more g (base_opens false signs.Identifier b _ t (n ∷ more) is.0.2 h e) e in
    let f : spell_piece_list ps ++ [] ≡ n ∷ more = append_empty (spell_piece_list ps) ∙ a.1 in
    none (no_piece false (last_of start b) ps [] n more a.0 is.1 g f)
  where
    append_empty : (w : List MarkedToken) → w ++ [] ≡ w
    append_empty [] = refl
    append_empty (s ∷ w) = ap (λ z. s ∷ z) (append_empty w)

    none : [] ≡ n ∷ more → ⊥
    none i = cc

-- an identifier that begins a term nests nothing
pub term_level : (x : TermData) (t : MarkedToken) → IsTerm false x → sign_of t ≡ signs.Identifier → Agrees (t ∷ []) (spell_term x) → get_or (levels_term x) 0 0 ≡ 0
term_level (RunTerm (FunctorPiece w m) ps) t is h agrees = refl
term_level (RunTerm (OperandPiece (more_prefixs (SelectorPrefix p w q) vs) b) ps) t is h agrees = refl
term_level (RunTerm (OperandPiece (more_prefixs (ChoiceOfPrefix p v w q x) vs) b) ps) t is h agrees = absurd is.0.1
term_level (RunTerm (OperandPiece (more_prefixs (ChoiceOverPrefix p v w q x) vs) b) ps) t is h agrees = absurd is.0.1
term_level (RunTerm (OperandPiece no_prefixs b) ps) t is h agrees = base_level b (levels_piece_list ps) (base_at false b t (spell_piece_list ps) is.0.2 h agrees)

pub not_empty_term : (x : TermData) → IsTerm false x → spell_term x ≡ [] → ⊥
not_empty_term (RunTerm (FunctorPiece w m) ps) is e = cc
not_empty_term (RunTerm (OperandPiece (more_prefixs (SelectorPrefix p w q) vs) b) ps) is e = cc
not_empty_term (RunTerm (OperandPiece (more_prefixs (ChoiceOfPrefix p v w q x) vs) b) ps) is e = is.0.1
not_empty_term (RunTerm (OperandPiece (more_prefixs (ChoiceOverPrefix p v w q x) vs) b) ps) is e = is.0.1
not_empty_term (RunTerm (OperandPiece no_prefixs b) ps) is e = base_filled false b is.0.2 (left (spell_base b) (spell_piece_list ps) e)
  where
    left : (v w : List MarkedToken) → v ++ w ≡ [] → v ≡ []
    left [] w f = refl
    left (s ∷ v) w f = cc

-- What gets another type.
abbrev pub behind_equals : Form MarkedToken
behind_equals = then equals_form (λ _. term_form false)

abbrev pub maybe_equals : Form MarkedToken
maybe_equals = maybe behind_equals is_equals

abbrev pub parts_of_retyped : Form MarkedToken
parts_of_retyped = then (name signs.Identifier) (λ _. maybe_equals)

abbrev pub retyped_from : Word → Option (Place × TermData) → RetypedTree
retyped_from w None = retyped_tree.Itself w
retyped_from w (Some k) = retyped_tree.Named (record { name = w; equals = k.0; term = k.1 })

abbrev pub make_retyped : parts_of_retyped.Tree → RetypedTree
make_retyped k = retyped_from k.0 k.1

retyped_into : (w : Word) (o : Option (Place × TermData)) → IsMaybe behind_equals o → IsRetyped (retyped_from w o)
retyped_into w None is = tt
retyped_into w (Some k) is = is.1

retyped_spells : (w : Word) (o : Option (Place × TermData)) → spell_retyped (retyped_from w o) ≡ named signs.Identifier w ∷ spell_maybe behind_equals o
retyped_spells w None = refl
retyped_spells w (Some k) = refl

retyped_levels : (w : Word) (o : Option (Place × TermData)) → levels_retyped (retyped_from w o) ≡ parts_of_retyped.levels (w, o)
retyped_levels w None = refl
retyped_levels w (Some k) = refl

pub term_on : (t : MarkedToken) → goes_on_term (sign_of t) ≡ true → goes_on_named (sign_of t) ≡ true
term_on t g = or_left (goes_on_term (sign_of t)) (is_predicate (sign_of t)) g

pub equals_on : (t : MarkedToken) → is_equals t ≡ true → goes_on_named (sign_of t) ≡ true
equals_on t g = or_right (goes_on_term (sign_of t)) (is_predicate (sign_of t)) (ap is_predicate (sign_of-equals_predicate t g))

pub retyped_goes : (w : Word) (o : Option (Place × TermData)) (t : MarkedToken) → parts_of_retyped.goes (w, o) t ≡ true → goes_on_named (sign_of t) ≡ true
retyped_goes w None t g = or_goes (is_equals t) false true (goes_on_named (sign_of t)) (equals_on t) (λ h. absurd (never h)) g
retyped_goes w (Some k) t g = or_goes (behind_equals.goes k t) false (is_empty (behind_equals.spell k)) (goes_on_named (sign_of t))
    (λ h. or_goes (goes_on_term (sign_of t)) false (is_empty (spell_term k.1)) (goes_on_named (sign_of t)) (term_on t) (λ i. absurd (never i)) h) (λ h. absurd (never h)) g

pub only_retyped : (x : RetypedTree) → IsRetyped x → (k : parts_of_retyped.Tree) × parts_of_retyped.IsTree k × (x ≡ make_retyped k)
only_retyped (retyped_tree.Itself w) is = ((w, None), (tt, tt), refl)
only_retyped (retyped_tree.Named n) is = ((n.name, Some (n.equals, n.term)), (tt, (tt, is)), refl)

pub as_retyped : (b : List MarkedToken) → Reshapes retyped_form parts_of_retyped make_retyped b
as_retyped b = record {
  into = λ k is. retyped_into k.0 k.1 is.1;
  spells = λ k is. retyped_spells k.0 k.1;
  only = λ x is g. only_retyped x is;
  goes = λ k t is g. retyped_goes k.0 k.1 t g;
  level = λ k is. retyped_levels k.0 k.1;
}

begin_retyped : (room : ℕ) (b : List MarkedToken) → Leads retyped_form parts_of_retyped room make_retyped b b
begin_retyped room b = leads_as retyped_form parts_of_retyped make_retyped room b (as_retyped b)

pub starts_equals : Starts behind_equals is_equals
starts_equals = record {
  filled = λ x is e. cc;
  first = λ x t m is e. ap is_equals (sym (head_of _ _ _ _ e)) ∙ equals_own x.0;
}

pub retyped_refused : (room : ℕ) (b after : List MarkedToken) (e : Refusal) → Refuses (name signs.Identifier) 0 b e after → Refuses retyped_form room b e after
retyped_refused room b after e h = passes retyped_form parts_of_retyped room make_retyped b b after e (begin_retyped room b) (first_word_refuses Word (named signs.Identifier) (λ _. maybe_equals) (λ w. (None, tt)) room b after e h)

module _ (room : ℕ) (w : Word) (b c : List MarkedToken) (h : Found (name signs.Identifier) 0 b w c) where
  behind_retyped : Leads retyped_form maybe_equals room (retyped_from w) b c
  behind_retyped = leads_on retyped_form parts_of_retyped maybe_equals room make_retyped (beside (name signs.Identifier) (λ _. maybe_equals) w) b b c (begin_retyped room b) (behind_word Word (named signs.Identifier) (λ _. maybe_equals) room b c w h)

  pub itself_found : (after : List MarkedToken) → TakesEquals c None after → Found retyped_form room b (retyped_tree.Itself w) after
  itself_found after n = let F : List MarkedToken → Type 0 = λ z. Found maybe_equals room c None z in behind_retyped.finds None after (subst F n.0 (found_none behind_equals is_equals starts_equals room c (go c n.1)))
    where
      go : (z : List MarkedToken) → ((p : Place) → Agrees z (equals_sign p ∷ []) → ⊥) → Lacks behind_equals is_equals starts_equals z
      go [] i = tt
      go (t ∷ z) i = λ g. i t.token.place (sym (equals_told t g))

  module _ (p : Place) (d : List MarkedToken) (taken : TakesEquals c (Some p) d) where
    behind_sign : Leads retyped_form (term_form false) room (λ x. retyped_from w (Some (p, x))) b d
    behind_sign = leads_on retyped_form maybe_equals (term_form false) room (retyped_from w) (λ x. Some (p, x)) b c d behind_retyped
        (leads_on maybe_equals behind_equals (term_form false) room Some (beside equals_form (λ _. term_form false) p) c c d
        (begin_some behind_equals is_equals starts_equals room (equals_sign p) c d (equals_own p) ((p, term_at nowhere), _, (tt, (tt, tt)), refl) taken)
        (behind_word Place equals_sign (λ _. term_form false) room c d p (word_found Place equals_sign equals_same 0 p c d taken)))

    pub retyped_term_refused : (after : List MarkedToken) (e : Refusal) → Refuses (term_form false) room d e after → Refuses retyped_form room b e after
    retyped_term_refused after e g = passes retyped_form (term_form false) room (λ x. retyped_from w (Some (p, x))) b d after e behind_sign g

    pub retyped_found : (x : TermData) (after : List MarkedToken) → Found (term_form false) room d x after → Found retyped_form room b (retyped_tree.Named (record { name = w; equals = p; term = x })) after
    retyped_found x after g = behind_sign.finds x after g

-- What is taken.
taken_filled : (x : TakenTree) → IsTaken x → spell_taken x ≡ [] → ⊥
taken_filled (taken_tree.Plain x) is e = not_empty_term x is e
taken_filled (taken_tree.Named n) is e = cc

abbrev pub put_named : NamedTermTree → TakenTree
put_named n = taken_tree.Named n

abbrev pub put_plain : TermData → TakenTree
put_plain x = taken_tree.Plain x

only_named_taken : (t n : MarkedToken) → sign_of t ≡ signs.Identifier → sign_of n ≡ signs.Predicate → (x : TakenTree) (m : List MarkedToken) → IsTaken x → spell_taken x ≡ t ∷ (n ∷ m) → (k : NamedTermTree) × IsNamedTerm k × (x ≡ put_named k)
only_named_taken t n h g (taken_tree.Named k) m is e = (k, is, refl)
only_named_taken t n h g (taken_tree.Plain x) m is e = absurd (no_predicate x t n m is h g e)

pub seconds_named : (t n : MarkedToken) → sign_of t ≡ signs.Identifier → is_equals n ≡ true → Seconds taken_form named_term_form put_named t n
seconds_named t n h g = record {
  into = λ k is. is;
  spells = λ k is. refl;
  only = λ x m is e. only_named_taken t n h (sign_of-equals_predicate n g) x m is e;
  short = λ x is e. equals_on n g;
  empty = λ x is e. absurd (taken_filled x is e);
  long = λ k is. (named signs.Identifier k.name, equals_sign k.equals, spell_term k.term, refl);
  goes = λ k s is i. term_on s i;
  level = λ k is. refl;
  first = λ k is. refl;
  begins = (
    record { name = word_of t; equals = n.token.place; term = term_at nowhere },
    spell_term (term_at nowhere),
    (tt, tt),
    ap (λ z. z ∷ (equals_sign n.token.place ∷ spell_term (term_at nowhere))) (sym (told_named signs.Identifier t refl h)) ∙ ap (λ z. t ∷ (z ∷ spell_term (term_at nowhere))) (sym (equals_told n g)),
  );
}

pub begin_named_taken : (room : ℕ) (b : List MarkedToken) → named_next b ≡ true → Leads taken_form named_term_form room put_named b b
begin_named_taken room [] e = absurd (never e)
begin_named_taken room (t ∷ []) e = absurd (never e)
begin_named_taken room (t ∷ (n ∷ rest)) e =
    let k = both_true (is_identifier (sign_of t)) (is_equals n) e in
    leads_second taken_form named_term_form put_named t n (seconds_named t n (identifier_is (sign_of t) k.0) k.1) room (t ∷ (n ∷ rest)) rest refl

pub named_taken_refused : (room : ℕ) (b after : List MarkedToken) (e : Refusal) → named_next b ≡ true → Refuses named_term_form room b e after → Refuses taken_form room b e after
named_taken_refused room b after e n h = passes taken_form named_term_form room put_named b b after e (begin_named_taken room b n) h

pub named_taken_found : (room : ℕ) (k : NamedTermTree) (b after : List MarkedToken) → named_next b ≡ true → Found named_term_form room b k after → Found taken_form room b (taken_tree.Named k) after
named_taken_found room k b after n h = (begin_named_taken room b n).finds k after h

-- without a name
unnamed : (b : List MarkedToken) → ((k : NamedTermTree) → Agrees b (spell_named_term k) → ⊥) → (x : TakenTree) → IsTaken x → Agrees b (spell_taken x) → (k : TermData) × IsTerm false k × (x ≡ put_plain k)
unnamed b h (taken_tree.Plain x) is g = (x, is, refl)
unnamed b h (taken_tree.Named k) is g = absurd (h k g)

as_unnamed : (b : List MarkedToken) → ((k : NamedTermTree) → Agrees b (spell_named_term k) → ⊥) → Reshapes taken_form (term_form false) put_plain b
as_unnamed b h = record {
  into = λ k is. is;
  spells = λ k is. refl;
  only = λ x is g. unnamed b h x is g;
  goes = λ k t is g. term_on t g;
  level = λ k is. refl;
}

no_name : (t : MarkedToken) (rest m : List MarkedToken) → named_next (t ∷ rest) ≡ false → is_identifier (sign_of t) ≡ true → (k : NamedTermTree) → spell_named_term k ≡ t ∷ m → Agrees rest m → ⊥
no_name t rest m off h k e agrees = go rest off (subst (λ (z : List MarkedToken). Agrees rest z) (sym (tail_of _ _ _ _ e)) agrees)
  where
    right : (a b : Bool) → a ≡ true → (a && b) ≡ false → b ≡ false
    right true b f g = g
    right false b f g = cc

    go : (r : List MarkedToken) → named_next (t ∷ r) ≡ false → Agrees r (equals_sign k.equals ∷ spell_term k.term) → ⊥
    go [] n g = g
    go (s ∷ r) n g = true_not_false (is_equals s) (right (is_identifier (sign_of t)) (is_equals s) h n) (ap is_equals (sym g) ∙ equals_own k.equals)

only_unnamed : (t : MarkedToken) (rest : List MarkedToken) → named_next (t ∷ rest) ≡ false → is_identifier (sign_of t) ≡ true → (x : TakenTree) (m : List MarkedToken) → IsTaken x → spell_taken x ≡ t ∷ m → Agrees rest m → (k : TermData) × (begun (term_form false) t).IsTree k × (x ≡ put_plain k)
only_unnamed t rest off h (taken_tree.Plain x) m is e agrees = (x, (is, subst (λ (z : List MarkedToken). Agrees (t ∷ []) z) (sym e) refl), refl)
only_unnamed t rest off h (taken_tree.Named k) m is e agrees = absurd (no_name t rest m off h k e agrees)

some_named_term : (t : MarkedToken) → sign_of t ≡ signs.Identifier → Begun (term_form false) t
some_named_term t h = (RunTerm (OperandPiece no_prefixs (IdentifierBase (word_of t))) no_pieces, [], ((tt, tt, tt, tt), tt), ap (λ z. z ∷ []) (sym (told_named signs.Identifier t refl h)))

looks_unnamed : (t : MarkedToken) (rest : List MarkedToken) → named_next (t ∷ rest) ≡ false → is_identifier (sign_of t) ≡ true → Looks taken_form (begun (term_form false) t) put_plain t rest
looks_unnamed t rest off h = record {
  into = λ k is. is.0;
  spells = λ k is. refl;
  only = λ x m is e agrees. only_unnamed t rest off h x m is e agrees;
  empty = λ x is e. absurd (taken_filled x is e);
  filled = λ k is e. not_empty_term k is.0 e;
  goes = λ k s is g. term_on s g;
  level = λ k is. refl;
  first = λ k is. term_level k t is.0 (identifier_is (sign_of t) h) is.1;
  begins = let some = some_named_term t (identifier_is (sign_of t) h) in (some.0, some.1, (some.2, subst (λ (z : List MarkedToken). Agrees (t ∷ []) z) (sym some.3) refl), some.3);
}

pub begin_unnamed : (room : ℕ) (b : List MarkedToken) → named_next b ≡ false → Leads taken_form (term_form false) room put_plain b b
begin_unnamed room [] off = leads_as taken_form (term_form false) put_plain room [] (as_unnamed [] (λ k g. g))
begin_unnamed room (t ∷ rest) off = go (is_identifier (sign_of t)) refl
  where
    go : (i : Bool) → is_identifier (sign_of t) ≡ i → Leads taken_form (term_form false) room put_plain (t ∷ rest) (t ∷ rest)
    go false h = leads_as taken_form (term_form false) put_plain room (t ∷ rest) (as_unnamed (t ∷ rest) (λ k g. true_not_false (is_identifier (sign_of t)) h (ap (λ z. is_identifier (sign_of z)) (sym g) ∙ ap is_identifier (sign_of-named signs.Identifier k.name refl))))
    go true h = leads_on taken_form (begun (term_form false) t) (term_form false) room put_plain (λ k. k) (t ∷ rest) (t ∷ rest) (t ∷ rest)
        (leads_look taken_form (begun (term_form false) t) put_plain t rest (looks_unnamed t rest off h) room (t ∷ rest) refl)
        (leads_begun (term_form false) t (some_named_term t (identifier_is (sign_of t) h)) rest room (t ∷ rest) refl)

pub plain_taken_refused : (room : ℕ) (b after : List MarkedToken) (e : Refusal) → named_next b ≡ false → Refuses (term_form false) room b e after → Refuses taken_form room b e after
plain_taken_refused room b after e n h = passes taken_form (term_form false) room put_plain b b after e (begin_unnamed room b n) h

pub plain_taken_found : (room : ℕ) (x : TermData) (b after : List MarkedToken) → named_next b ≡ false → Found (term_form false) room b x after → Found taken_form room b (taken_tree.Plain x) after
plain_taken_found room x b after n h = (begin_unnamed room b n).finds x after h
