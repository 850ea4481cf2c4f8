-- What stands behind terms.
use Rattle.std.specs.Prelude.{codes}
use Rattle.std.specs.declared.alloc.Global.{Global}
use Rattle.std.proofs.Common.{◌≡◌, ℕ, ◌+◌, ◌<◌, Bool, true, false, ◌||◌, ◌&&◌, ◌-◌, zero, suc, length, get_or, List, [], ◌∷◌, ◌++◌, map, refl, sym, ap, subst, ◌∙◌, arith, Option, Some, None, Result, Ok, Err, Box}
use Rattle.mz_base.specs.declared.place.Place.{Place}
use Rattle.mz_base.specs.declared.token.MarkedToken.{MarkedToken}
use Rattle.mz_forms.specs.declared.refusal.Refusal.{Refusal}
use Rattle.mz_forms.specs.declared.refusal.Refusal.TheVariants as refusals
use Rattle.mz_forms.specs.Form.{Form, Agrees, Found, Fails, Deeper, Leads, is_empty, then, nested}
use Rattle.mz_forms.specs.Reading.{Refuses, Gives, Builds}
use Rattle.mz_forms.specs.Repeat.{spell_all, spell_maybe, AreAll, IsMaybe}
use Rattle.mz_forms.proofs.Compose.{Apart, head_of, append_nil}
use Rattle.mz_forms.proofs.Choose.{Chooses, finds_empty}
use Rattle.mz_forms.proofs.Leads.{leads_by, leads_behind, leads_on, beside, passes, first_refuses, gives_through, apart_closed}
use Rattle.mz_forms.proofs.Lists.{either}
use Rattle.mz_forms.proofs.Nested.{found_under, refuses_under}
use Rattle.mz_forms.proofs.Words.{word_in_any, word_refuses, behind_word, first_word_refuses}
use Rattle.mz_tree.specs.declared.word.Word.{Word}
use Rattle.mz_tree.specs.declared.chain.Next.{Next}
use Rattle.mz_tree.specs.declared.nodes.TermNode.{TermNode}
use Rattle.mz_tree.specs.declared.nodes.UnitNode.{UnitNode}
use Rattle.mz_tree.specs.Spelled.{reserved}
use Rattle.mz_tree.specs.Trees.{TermData, TermsData, AdjectiveData, UnitData, ListTerms, no_next_terms, more_next_terms, next_terms_of}
use Rattle.mz_tree.specs.Views.{next_term_of, term_of, terms_of, unit_of}
use Rattle.mz_pterm.specs.declared.sign.Sign.{Sign}
use Rattle.mz_pterm.specs.declared.sign.Sign.TheVariants as signs
use Rattle.mz_pterm.specs.Classes.{is_of, goes_on_term, goes_on_terms}
use Rattle.mz_pterm.specs.Sign.{sign_of}
use Rattle.mz_pterm.specs.Words.{fixed, named, word_of, word, name}
use Rattle.mz_pterm.specs.Forms.{terms_form}
use Rattle.mz_pterm.proofs.Signs.{told_fixed, told_named, sign_of-fixed, sign_of-named, same_fixed, same_named}
use Rattle.mz_pterm.proofs.Bases.{word_at, terms_at}
use Rattle.mz_pterm.proofs.Steps.{told_rest, behind_opening, opening_refuses}
use Rattle.mz_ptype.specs.Classes.{begins_adjective, begins_radix, is_over}
use Rattle.mz_ptype.specs.Forms.{adjective_form, adjective_list_form, radix_form, goes_type}
use Rattle.mz_ptype.proofs.Optional.{never}
use Rattle.mz_ptype.proofs.AdjectiveSteps.{nowhere}
use Rattle.mz_ptype.proofs.TypeSteps.{parts_goes}
use Rattle.mz_patom.specs.declared.atoms.Opening as rust_opening
use Rattle.mz_patom.specs.declared.atoms.Opening.TheVariants as openings
use Rattle.mz_patom.specs.Classes.{begins_term, goes_on_atom}
use Rattle.mz_patom.specs.Forms.{Opening, unit_opening, terms_opening, maybe_terms_form, Radix, IsPredicated, predicated, is_form, is_unit, Tail, no_tail, relates, is_tail, is_single, first_term, spell_tail, IsTail, tail, related, join, atom_form, make_atom, predicate_form, predicate_from, make_predicate, closed_terms, square_terms, private_form, private_from, make_private, terms_seen, unit_in, opening_of, BoxesUnit, IsOnlyTerm, ReadsIs, ReadsRelated, ReadsTail, ReadsAtom, ReadsPredicate, ReadsPrivate}

-- What goes on the parts goes on a formula without formulas in it.
pub term_on : (s : Sign) → begins_term s ≡ true → goes_on_atom s ≡ true
term_on signs.Functor e = refl
term_on signs.Identifier e = refl
term_on signs.Structure e = refl
term_on signs.LeftBracket e = refl
term_on signs.It e = refl
term_on signs.The e = refl
term_on (signs.Argument n) e = refl
term_on signs.Open e = refl
term_on signs.OpenBrace e = refl
term_on signs.OpenSquare e = refl
term_on _ e = cc

pub terms_on : (s : Sign) → goes_on_terms s ≡ true → goes_on_atom s ≡ true
terms_on signs.Functor e = refl
terms_on signs.Identifier e = refl
terms_on signs.Structure e = refl
terms_on signs.LeftBracket e = refl
terms_on signs.It e = refl
terms_on signs.The e = refl
terms_on signs.Of e = refl
terms_on (signs.Argument n) e = refl
terms_on signs.Open e = refl
terms_on signs.OpenBrace e = refl
terms_on signs.OpenSquare e = refl
terms_on signs.ListComma e = refl
terms_on _ e = cc

radix_on : (s : Sign) → begins_radix s ≡ true → goes_on_atom s ≡ true
radix_on signs.Mode e = refl
radix_on signs.Structure e = refl
radix_on _ e = cc

adjective_on : (s : Sign) → begins_adjective s ≡ true → goes_on_atom s ≡ true
adjective_on signs.Non e = refl
adjective_on signs.Identifier e = refl
adjective_on signs.Open e = refl
adjective_on signs.Attribute e = refl
adjective_on _ e = cc

of_on : (s : Sign) → is_of s ≡ true → goes_on_atom s ≡ true
of_on signs.Of e = refl
of_on _ e = cc

over_on : (s : Sign) → is_over s ≡ true → goes_on_atom s ≡ true
over_on signs.Over e = refl
over_on _ e = cc

pub maybe_terms_on : (field : Bool) (o : Option TermsData) (t : MarkedToken) → (maybe_terms_form field).goes o t ≡ true → goes_on_atom (sign_of t) ≡ true
maybe_terms_on field None t g = term_on (sign_of t) g
maybe_terms_on field (Some ts) t g = terms_on (sign_of t) g

maybe_arguments_on : (field structured : Bool) (w : Word) (o : Option (Place × TermsData)) (t : MarkedToken) → (radix_form field).goes ((structured, w), o) t ≡ true → goes_on_atom (sign_of t) ≡ true
maybe_arguments_on field false w None t g = of_on (sign_of t) (either (is_of (sign_of t)) false true (λ h. absurd (never h)) g)
maybe_arguments_on field true w None t g = over_on (sign_of t) (either (is_over (sign_of t)) false true (λ h. absurd (never h)) g)
maybe_arguments_on field structured w (Some a) t g = terms_on (sign_of t) (either (goes_on_terms (sign_of t)) false _ (λ h. absurd (never h)) (either _ false false (λ h. absurd (never h)) g))

pub predicated_on : (field : Bool) (ads : List AdjectiveData) (o : Option Radix) (t : MarkedToken) → (predicated field ads).goes o t ≡ true → goes_on_atom (sign_of t) ≡ true
predicated_on field ads None t g = radix_on (sign_of t) g
predicated_on field ads (Some k) t g = maybe_arguments_on field k.0.0 k.0.1 k.1 t g

is_on : (field : Bool) (k : (is_form field).Tree) (t : MarkedToken) → (is_form field).goes k t ≡ true → goes_on_atom (sign_of t) ≡ true
is_on field k t g = either (goes_on_atom (sign_of t)) (begins_adjective (sign_of t)) (is_empty (spell_maybe (radix_form field) k.1)) (adjective_on (sign_of t)) (weaken ((predicated field k.0).goes k.1 t) (goes_on_atom (sign_of t)) _ (predicated_on field k.0 k.1 t) g)
  where
    weaken : (p q r : Bool) → (p ≡ true → q ≡ true) → (p || r) ≡ true → (q || r) ≡ true
    weaken true q r h g = rw (h refl) refl
    weaken false true r h g = refl
    weaken false false r h g = g

-- A predicate symbol behind terms.
only_relates : (field : Bool) (ts : TermsData) (w : Word) (x : Tail) (more : List MarkedToken) → IsTail field ts x → spell_tail field x ≡ named signs.Predicate w ∷ more → (k : Option TermsData) × IsMaybe (terms_form field) k × (x ≡ relates w k)
only_relates field ts w no_tail more is e = cc
only_relates field ts w (relates v o) more is e = (o, is, ap (λ z. relates z o) (same_named signs.Predicate refl v w (head_of _ _ _ _ e)))
only_relates field ts w (is_tail p ads o) more is e = absurd (clash (sym (sign_of-fixed signs.Is p refl) ∙ (ap sign_of (head_of _ _ _ _ e) ∙ sign_of-named signs.Predicate w refl)))
  where
    clash : signs.Is ≡ signs.Predicate → ⊥
    clash f = cc

pub by_relates : (field : Bool) (ts : TermsData) (w : Word) → Chooses (tail field ts) (named signs.Predicate w) (maybe_terms_form field) (relates w) 0
by_relates field ts w = record {
  level = λ k is. refl;
  into = λ k is. is;
  spells = λ k is. refl;
  only = λ x more is e. only_relates field ts w x more is e;
  empty = λ x is e. ap goes_on_atom (sign_of-named signs.Predicate w refl);
  goes = λ k t is g. maybe_terms_on field k t g;
}

-- `is` behind a single term
only_is : (field : Bool) (ts : TermsData) (p : Place) (x : Tail) (more : List MarkedToken) → IsTail field ts x → spell_tail field x ≡ fixed signs.Is p ∷ more → (k : (is_form field).Tree) × (is_form field).IsTree k × (x ≡ is_tail p k.0 k.1)
only_is field ts p no_tail more is e = cc
only_is field ts p (relates v o) more is e = absurd (clash (sym (sign_of-named signs.Predicate v refl) ∙ (ap sign_of (head_of _ _ _ _ e) ∙ sign_of-fixed signs.Is p refl)))
  where
    clash : signs.Predicate ≡ signs.Is → ⊥
    clash f = cc
only_is field ts p (is_tail q ads o) more is e = ((ads, o), (is.1, is.2), ap (λ z. is_tail z ads o) (same_fixed signs.Is refl q p (head_of _ _ _ _ e)))

abbrev pub make_is : Place → (List AdjectiveData × Option Radix) → Tail
make_is p k = is_tail p k.0 k.1

pub by_is : (field : Bool) (ts : TermsData) (p : Place) → is_single ts ≡ true → Chooses (tail field ts) (fixed signs.Is p) (is_form field) (make_is p) 0
by_is field ts p one = record {
  level = λ k is. refl;
  into = λ k is. (one, is.0, is.1);
  spells = λ k is. refl;
  only = λ x more is e. only_is field ts p x more is e;
  empty = λ x is e. ap goes_on_atom (sign_of-fixed signs.Is p refl);
  goes = λ k t is g. is_on field k t g;
}

-- nothing stands behind the terms
pub tail_lacks : (field : Bool) (ts : TermsData) (room : ℕ) (t : MarkedToken) (b rest : List MarkedToken) → (sign_of t ≡ signs.Predicate → ⊥) → (sign_of t ≡ signs.Is → is_single ts ≡ true → ⊥) → b ≡ t ∷ rest → Found (tail field ts) room b no_tail b
tail_lacks field ts room t b rest n m e = record { found = finds_empty (tail field ts) no_tail b tt refl only; fits = λ i l. absurd (omega (arith, l)) }
  where
    head : (s : MarkedToken) (v : List MarkedToken) → Agrees b (s ∷ v) → s ≡ t
    head s v agrees = let A : List MarkedToken → Type 0 = λ z. Agrees z (s ∷ v) in subst A e agrees

    only : (x : Tail) → IsTail field ts x → Agrees b (spell_tail field x) → x ≡ no_tail
    only no_tail is agrees = refl
    only (relates v o) is agrees = absurd (n (sym (ap sign_of (head _ _ agrees)) ∙ sign_of-named signs.Predicate v refl))
    only (is_tail q ads o) is agrees = absurd (m (sym (ap sign_of (head _ _ agrees)) ∙ sign_of-fixed signs.Is q refl) is.0)

pub tail_at_end : (field : Bool) (ts : TermsData) (room : ℕ) (b : List MarkedToken) → b ≡ [] → Found (tail field ts) room b no_tail b
tail_at_end field ts room b e = record { found = finds_empty (tail field ts) no_tail b tt refl only; fits = λ i l. absurd (omega (arith, l)) }
  where
    none : (s : MarkedToken) (v : List MarkedToken) → Agrees b (s ∷ v) → ⊥
    none s v agrees = let A : List MarkedToken → Type 0 = λ z. Agrees z (s ∷ v) in subst A e agrees

    only : (x : Tail) → IsTail field ts x → Agrees b (spell_tail field x) → x ≡ no_tail
    only no_tail is agrees = refl
    only (relates v o) is agrees = absurd (none _ _ agrees)
    only (is_tail q ads o) is agrees = absurd (none _ _ agrees)

pub take_relates : (field : Bool) (ts : TermsData) (room : ℕ) (w : Word) (b rest : List MarkedToken) → b ≡ named signs.Predicate w ∷ rest → Leads (tail field ts) (maybe_terms_form field) room (relates w) b rest
take_relates field ts room w b rest e = leads_by (tail field ts) (named signs.Predicate w) (maybe_terms_form field) (relates w) 0 (by_relates field ts w) room (omega arith) b rest e

pub take_is : (field : Bool) (ts : TermsData) (room : ℕ) (t : MarkedToken) (b rest : List MarkedToken) → is_single ts ≡ true → sign_of t ≡ signs.Is → b ≡ t ∷ rest → Leads (tail field ts) (is_form field) room (make_is t.token.place) b rest
take_is field ts room t b rest one h e = leads_by (tail field ts) (fixed signs.Is t.token.place) (is_form field) (make_is t.token.place) 0 (by_is field ts t.token.place one) room (omega arith) b rest (told_rest b rest t _ e (told_fixed signs.Is t refl h))

-- units, boxed
pub boxed_unit : (F : Form MarkedToken) (room : ℕ) (make : F.Tree → UnitData) (k : F.Tree) (x : UnitNode) (b after : List MarkedToken) (r : Result (Box UnitNode Global) Refusal) → Found F room b k after → unit_of x ≡ make k → BoxesUnit x r → Gives F room (λ z. Builds F room make (unit_in z) b after) b r after
boxed_unit F room make k x b after (Ok z) h e g = (k, h, ap unit_of g ∙ e)
boxed_unit F room make k x b after (Err e) h f g = let R : Refusal → Type 0 = λ z. Refuses F room b z after in subst R (sym g) tt

-- the tail of a predicate symbol, and of `is`
pub relates_found : (field : Bool) (room : ℕ) (ts : TermsData) (w : Word) (b c after : List MarkedToken) (z : Box UnitNode Global) → Found (name signs.Predicate) 0 b w c → Builds (maybe_terms_form field) room (related ts w) (unit_in z) c after → Builds (tail field ts) room (join ts) (opening_of (openings.Unit z)) b after
relates_found field room ts w b c after z h k = (relates w k.0, (take_relates field ts room w b c h.found.split).finds k.0 after k.1, ap (λ y. unit_opening y) k.2)

pub relates_refused : (field : Bool) (room : ℕ) (ts : TermsData) (w : Word) (b c after : List MarkedToken) (e : Refusal) → Found (name signs.Predicate) 0 b w c → Refuses (maybe_terms_form field) room c e after → Refuses (tail field ts) room b e after
relates_refused field room ts w b c after e h r = passes (tail field ts) (maybe_terms_form field) room (relates w) b c after e (take_relates field ts room w b c h.found.split) r

single_is : (ts : TermsData) (t : TermData) → ts ≡ ListTerms t no_next_terms → is_single ts ≡ true
single_is ts t e = ap is_single e

pub is_found : (field : Bool) (room : ℕ) (ts : TermsData) (t : TermData) (m : MarkedToken) (b rest after : List MarkedToken) (z : Box UnitNode Global) → ts ≡ ListTerms t no_next_terms → sign_of m ≡ signs.Is → b ≡ m ∷ rest →
    Builds (is_form field) room (λ k. is_unit t m.token.place k.0 k.1) (unit_in z) rest after → Builds (tail field ts) room (join ts) (opening_of (openings.Unit z)) b after
is_found field room ts t m b rest after z one h e k = (
  make_is m.token.place k.0,
  (take_is field ts room m b rest (single_is ts t one) h e).finds k.0 after k.1,
  ap (λ y. unit_opening y) (k.2 ∙ ap (λ y. is_unit (first_term y) m.token.place k.0.0 k.0.1) (sym one)),
)

pub is_refused : (field : Bool) (room : ℕ) (ts : TermsData) (t : TermData) (m : MarkedToken) (b rest after : List MarkedToken) (e : Refusal) → ts ≡ ListTerms t no_next_terms → sign_of m ≡ signs.Is → b ≡ m ∷ rest → Refuses (is_form field) room rest e after → Refuses (tail field ts) room b e after
is_refused field room ts t m b rest after e one h f r = passes (tail field ts) (is_form field) room (make_is m.token.place) b rest after e (take_is field ts room m b rest (single_is ts t one) h f) r

pub no_tail_found : (field : Bool) (room : ℕ) (ts : TermsData) (o : Opening) (b : List MarkedToken) → o ≡ terms_opening ts → Found (tail field ts) room b no_tail b → Builds (tail field ts) room (join ts) o b b
no_tail_found field room ts o b e h = (no_tail, h, e)

-- the symbol is there, so only memory may lack
pub symbol_unread : (field : Bool) (room : ℕ) (ts : TermsData) (t : MarkedToken) (b rest after : List MarkedToken) (e : Refusal) → sign_of t ≡ signs.Predicate → b ≡ t ∷ rest → Refuses (name signs.Predicate) 0 b e after → Refuses (tail field ts) room b e after
symbol_unread field room ts t b rest after refusals.Memory h e r = tt
symbol_unread field room ts t b rest after refusals.Refused h e r = absurd (not_there r)
  where
    not_there : Fails (name signs.Predicate) 0 b after → ⊥
    not_there f = go f.front refl
      where
        there : b ≡ named signs.Predicate (word_of t) ∷ rest
        there = told_rest b rest t _ e (told_named signs.Predicate t refl h)

        go : (v : List MarkedToken) → f.front ≡ v → ⊥
        go [] g =
            let A : List MarkedToken → Type 0 = λ z. Agrees z (named signs.Predicate (word_of t) ∷ []) in
            f.none (word_of t) (named signs.Predicate (word_of t) ∷ []) tt (ap (λ z. z ++ named signs.Predicate (word_of t) ∷ []) (sym g)) (subst A (sym there ∙ (f.split ∙ ap (λ z. z ++ after) g)) refl)
        go (s ∷ v) g =
            let w : named signs.Predicate f.some ∷ [] ≡ s ∷ (v ++ f.more) = f.viable ∙ ap (λ z. z ++ f.more) g in
            f.none f.some [] tt (alone (named signs.Predicate f.some) s v f.more w ∙ (sym g ∙ sym (append_nil f.front))) tt
          where
            alone : (x s : MarkedToken) (v m : List MarkedToken) → x ∷ [] ≡ s ∷ (v ++ m) → x ∷ [] ≡ s ∷ v
            alone x s [] m k = ap (λ z. z ∷ []) (head_of _ _ _ _ k)
            alone x s (r ∷ v) m k = cc
symbol_unread field room ts t b rest after refusals.TooDeep h e r = absurd (shallow r)
  where
    shallow : Deeper (name signs.Predicate) 0 b after → ⊥
    shallow d = let l : 0 < get_or (0 ∷ []) (length d.front) 0 = d.all d.some d.more d.is d.viable in none (length d.front) l
      where
        none : (n : ℕ) → 0 < get_or (0 ∷ []) n 0 → ⊥
        none zero l = omega (arith, l)
        none (suc n) l = omega (arith, l)

-- several terms, behind which no `is` goes
pub several_found : (field : Bool) (room : ℕ) (ts : TermsData) (c : TermsData) (t : MarkedToken) (b rest : List MarkedToken) → c ≡ ts → is_single ts ≡ false → sign_of t ≡ signs.Is → b ≡ t ∷ rest → Builds (tail field ts) room (join ts) (terms_opening c) b b
several_found field room ts c t b rest same many h e = no_tail_found field room ts (terms_opening c) b (ap (λ z. terms_opening z) same) (tail_lacks field ts room t b rest (λ g. clash (sym g ∙ h)) (λ g one. never (sym many ∙ one)) e)
  where
    clash : signs.Predicate ≡ signs.Is → ⊥
    clash g = cc

-- Terms with what stands behind them.
pub tail_first : (field : Bool) (k : Tail) (s : MarkedToken) (x : List MarkedToken) → spell_tail field k ≡ s ∷ x → goes_on_terms (sign_of s) ≡ false
tail_first field no_tail s x e = cc
tail_first field (relates w o) s x e = let C : MarkedToken → Type 0 = λ z. goes_on_terms (sign_of z) ≡ false in subst C (head_of _ _ _ _ e) (ap goes_on_terms (sign_of-named signs.Predicate w refl))
tail_first field (is_tail p ads o) s x e = let C : MarkedToken → Type 0 = λ z. goes_on_terms (sign_of z) ≡ false in subst C (head_of _ _ _ _ e) (ap goes_on_terms (sign_of-fixed signs.Is p refl))

differ : (b : Bool) → b ≡ false → b ≡ true → ⊥
differ true e f = cc
differ false e f = cc

pub tail_apart : (A : Form MarkedToken) (of : A.Tree → TermsData) (field : Bool) → ((a : A.Tree) (t : MarkedToken) → A.goes a t ≡ true → goes_on_terms (sign_of t) ≡ true) → Apart A (λ a. tail field (of a))
tail_apart A of field weak a k s x isa isk e g = differ (goes_on_terms (sign_of s)) (tail_first field k s x e) (weak a s g)

pub atom_apart : (field : Bool) → Apart (terms_form field) (tail field)
atom_apart field = tail_apart (terms_form field) (λ a. a) field (λ a t g. g)

pub atom_refuses : (field : Bool) (room : ℕ) (b after : List MarkedToken) (e : Refusal) → Refuses (terms_form field) room b e after → Refuses (atom_form field) room b e after
atom_refuses field room b after e h = first_refuses (terms_form field) (tail field) (atom_apart field) room b after e (λ a is. (no_tail, tt)) h

pub behind_terms : (field : Bool) (room : ℕ) (b c : List MarkedToken) (ts : TermsData) → Found (terms_form field) room b ts c → Leads (atom_form field) (tail field ts) room (beside (terms_form field) (tail field) ts) b c
behind_terms field room b c ts h = leads_behind (terms_form field) (tail field) (atom_apart field) room b c ts h

pub atom_from : (field : Bool) (room : ℕ) (ts : TermsData) (b c after : List MarkedToken) (r : Result rust_opening.Opening Refusal) → Found (terms_form field) room b ts c → ReadsTail field room ts c r after → ReadsAtom field room b r after
atom_from field room ts b c after r h given =
    let leads = behind_terms field room b c ts h in
    gives_through (atom_form field) (tail field ts) room (λ x. Builds (atom_form field) room make_atom (opening_of x) b after) (λ x. Builds (tail field ts) room (join ts) (opening_of x) c after) (beside (terms_form field) (tail field) ts) b c after r
    (λ x k. ((ts, k.0), leads.finds k.0 after k.1, k.2))
    leads given

-- A single term, or several.
pub only_seen : (first : TermNode) (v : List (Next Place TermNode)) → v ≡ [] → ListTerms (term_of first) (next_terms_of (map next_term_of v)) ≡ ListTerms (term_of first) no_next_terms
only_seen first v e = ap (λ z. ListTerms (term_of first) (next_terms_of (map next_term_of z))) e

pub several_seen : (first : TermNode) (v : List (Next Place TermNode)) → (v ≡ [] → ⊥) → is_single (ListTerms (term_of first) (next_terms_of (map next_term_of v))) ≡ false
several_seen first [] h = absurd (h refl)
several_seen first (n ∷ ns) h = refl

-- A predicate symbol with nothing before it.
pub symbol_refuses : (field : Bool) (room : ℕ) (b after : List MarkedToken) (e : Refusal) → Refuses (name signs.Predicate) 0 b e after → Refuses (predicate_form field) room b e after
symbol_refuses field room b after e h = first_word_refuses Word (named signs.Predicate) (λ _. maybe_terms_form field) (λ w. (None, tt)) room b after e h

pub behind_symbol : (field : Bool) (room : ℕ) (b c : List MarkedToken) (w : Word) → Found (name signs.Predicate) 0 b w c → Leads (predicate_form field) (maybe_terms_form field) room (beside (name signs.Predicate) (λ _. maybe_terms_form field) w) b c
behind_symbol field room b c w h = behind_word Word (named signs.Predicate) (λ _. maybe_terms_form field) room b c w h

-- A private predicate.
module _ (field : Bool) where
  abbrev close_of : Option TermsData → Form MarkedToken
  close_of o = word signs.CloseSquare

  no_close : (s : Sign) → s ≡ signs.CloseSquare → goes_on_atom s ≡ true → ⊥
  no_close s e g = never (sym (ap goes_on_atom e) ∙ g)

  pub close_apart : Apart (nested (maybe_terms_form field)) (λ _. word signs.CloseSquare)
  close_apart o q s x isa isk e g = no_close (sign_of s) (sym (ap sign_of (head_of _ _ _ _ e)) ∙ sign_of-fixed signs.CloseSquare q refl) (maybe_terms_on field o s g)

  some_closed : (k : (closed_terms field).Tree) × (closed_terms field).IsTree k
  some_closed = ((None, nowhere), (tt, tt))

  pub name_refuses : (room : ℕ) (b after : List MarkedToken) (e : Refusal) → Refuses (name signs.Identifier) 0 b e after → Refuses (private_form field) room b e after
  name_refuses room b after e h = first_word_refuses Word (named signs.Identifier) (λ _. square_terms field) (λ w. ((nowhere, (None, nowhere)), (tt, (tt, tt)))) room b after e h

  module _ (room : ℕ) (w : Word) (b c : List MarkedToken) (named_so : Found (name signs.Identifier) 0 b w c) where
    behind_name : Leads (private_form field) (square_terms field) room (beside (name signs.Identifier) (λ _. square_terms field) w) b c
    behind_name = behind_word Word (named signs.Identifier) (λ _. square_terms field) room b c w named_so

    pub open_refuses : (after : List MarkedToken) (e : Refusal) → Refuses (nested (word signs.OpenSquare)) room c e after → Refuses (private_form field) room b e after
    open_refuses after e h = passes (private_form field) (square_terms field) room _ b c after e behind_name (opening_refuses signs.OpenSquare (λ _. closed_terms field) (λ p. some_closed) room c after e h)

    module _ (more : 0 < room) (p : Place) (d : List MarkedToken) (opened : Found (nested (word signs.OpenSquare)) room c p d) where
      behind_square : Leads (private_form field) (closed_terms field) room (λ k. (w, (p, k))) b d
      behind_square = leads_on (private_form field) (square_terms field) (closed_terms field) room (beside (name signs.Identifier) (λ _. square_terms field) w) (beside (nested (word signs.OpenSquare)) (λ _. closed_terms field) p) b c d behind_name (behind_opening signs.OpenSquare (λ _. closed_terms field) room c d p opened)

      pub terms_refuse : (after : List MarkedToken) (e : Refusal) → Refuses (maybe_terms_form field) (room - 1) d e after → Refuses (private_form field) room b e after
      terms_refuse after e h = passes (private_form field) (closed_terms field) room _ b d after e behind_square
          (first_refuses (nested (maybe_terms_form field)) (λ _. word signs.CloseSquare) close_apart room d after e (λ a is. (nowhere, tt)) (refuses_under (maybe_terms_form field) room (room - 1) (omega (arith, more)) d after e h))

      module _ (o : Option TermsData) (g : List MarkedToken) (found : Found (maybe_terms_form field) (room - 1) d o g) where
        behind_inside : Leads (private_form field) (word signs.CloseSquare) room (λ q. (w, (p, (o, q)))) b g
        behind_inside = leads_on (private_form field) (closed_terms field) (word signs.CloseSquare) room (λ k. (w, (p, k))) (beside (nested (maybe_terms_form field)) (λ _. word signs.CloseSquare) o) b d g behind_square
            (leads_behind (nested (maybe_terms_form field)) (λ _. word signs.CloseSquare) close_apart room d g o (found_under (maybe_terms_form field) room (room - 1) (omega (arith, more)) d g o found))

        pub close_refuses : (after : List MarkedToken) (e : Refusal) → Refuses (word signs.CloseSquare) 0 g e after → Refuses (private_form field) room b e after
        close_refuses after e h = passes (private_form field) (word signs.CloseSquare) room _ b g after e behind_inside (word_refuses Place (fixed signs.CloseSquare) room g after e h)

        pub private_found : (q : Place) (after : List MarkedToken) → Found (word signs.CloseSquare) 0 g q after → Found (private_form field) room b (w, (p, (o, q))) after
        private_found q after h = behind_inside.finds q after (word_in_any Place (fixed signs.CloseSquare) room g after q h)
