-- The readings of quantified formulas.
use Rattle.std.specs.declared.alloc.Global.{Global}
use Rattle.std.proofs.Common.{◌≡◌, ℕ, Bool, true, false, ◌||◌, ◌&&◌, List, [], ◌∷◌, ◌++◌, refl, sym, ap, subst, ◌∙◌, arith, None, Result, Ok, Err, Box}
use Rattle.mz_base.specs.declared.place.Place.{Place}
use Rattle.mz_base.specs.declared.token.MarkedToken.{MarkedToken}
use Rattle.mz_forms.specs.declared.refusal.Refusal.{Refusal}
use Rattle.mz_forms.specs.Form.{Agrees, Found, Leads, is_empty}
use Rattle.mz_forms.specs.Reading.{Refuses}
use Rattle.mz_forms.proofs.Compose.{Apart, head_of}
use Rattle.mz_forms.proofs.Choose.{Chooses, Reshapes}
use Rattle.mz_forms.proofs.Leads.{leads_by, leads_as, leads_behind, leads_on, beside, passes, first_refuses}
use Rattle.mz_forms.proofs.Lists.{either}
use Rattle.mz_forms.proofs.Words.{behind_word, first_word_refuses}
use Rattle.mz_tree.specs.declared.nodes.QuantifiedNode.{QuantifiedNode}
use Rattle.mz_tree.specs.Views.{quantified_of}
use Rattle.mz_tree.specs.Trees.{DeclarationsData, FormulaData, QuantifiedData, PlainFormula, ChainDisjunction, ChainConjunction, ThesisUnit, PlainDeclared, no_next_declareds, no_next_units, no_next_conjunctions}
use Rattle.mz_tree.specs.Spell.{spell_formula}
use Rattle.mz_tree.specs.Rules.{Operator, IsFormula, IsQuantified}
use Rattle.mz_pterm.specs.declared.sign.Sign.{Sign}
use Rattle.mz_pterm.specs.declared.sign.Sign.TheVariants as signs
use Rattle.mz_pterm.specs.Sign.{sign_of}
use Rattle.mz_pterm.specs.Words.{fixed, word, TakesPlace}
use Rattle.mz_pterm.proofs.Signs.{sign_of-fixed, same_fixed}
use Rattle.mz_pterm.proofs.Bases.{word_at}
use Rattle.mz_ptype.proofs.Optional.{never}
use Rattle.mz_ptype.proofs.AdjectiveSteps.{nowhere}
use Rattle.mz_patom.specs.Classes.{goes_open}
use Rattle.mz_pformula.specs.Classes.{begins_quantified, NotTaken}
use Rattle.mz_pformula.specs.Forms.{any_operator, formula_takes, formula_form}
use Rattle.mz_pformula.specs.Quantified.{Scope, holds_scope, further_scope, spell_scope, IsScope, scope_takes, scope_form, Universal, plain_universal, such_universal, spell_universal, IsUniversal, universal_form, condition, quantified_form, universal_scope, such_scope, universal_from, such_formula, exists_from, make_exists, quantified_takes, BoxesQuantified, ReadsUniversal, ReadsExists}
use Rattle.mz_pformula.proofs.Operators.{goes_weaker, both_ways, quieter}
use Rattle.mz_pformula.proofs.Openings.{quantified_sign, quantified_filled}

abbrev pub some_formula : FormulaData
some_formula = PlainFormula (ChainDisjunction (ChainConjunction (ThesisUnit nowhere) no_next_units) no_next_conjunctions)

abbrev pub some_declarations : DeclarationsData
some_declarations = record { first = PlainDeclared (word_at nowhere); more = no_next_declareds }

-- the sign of the first token of a scope
pub scope_sign : (x : Scope) (t : MarkedToken) (m : List MarkedToken) → spell_scope x ≡ t ∷ m → goes_open any_operator (sign_of t) ≡ false
scope_sign (holds_scope p f) t m e = let C : MarkedToken → Type 0 = λ z. goes_open any_operator (sign_of z) ≡ false in subst C (head_of _ _ _ _ e) (ap (goes_open any_operator) (sign_of-fixed signs.Holds p refl))
scope_sign (further_scope q) t m e = off (sign_of t) (quantified_sign q t m e)
  where
    off : (s : Sign) → begins_quantified s ≡ true → goes_open any_operator s ≡ false
    off signs.For g = refl
    off signs.Ex g = refl
    off _ g = cc

pub scope_filled : (x : Scope) → spell_scope x ≡ [] → ⊥
scope_filled (holds_scope p f) e = cc
scope_filled (further_scope q) e = quantified_filled q e

off_goes : (s : Sign) → goes_open any_operator s ≡ false → (f : Operator → Bool) → goes_open f s ≡ true → ⊥
off_goes s e f g = both_ways (goes_open any_operator s) e (goes_weaker f any_operator (λ o h. refl) s g)

pub condition_apart : (field : Bool) → Apart (formula_form field) (λ _. scope_form field)
condition_apart field f k s x isa isk e g = off_goes (sign_of s) (scope_sign k s x e) (formula_takes f) g

-- `holds`
only_holds : (field : Bool) (p : Place) (x : Scope) (more : List MarkedToken) → IsScope field x → spell_scope x ≡ fixed signs.Holds p ∷ more → (k : FormulaData) × IsFormula field k × (x ≡ holds_scope p k)
only_holds field p (holds_scope q f) more is e = (f, is, ap (λ z. holds_scope z f) (same_fixed signs.Holds refl q p (head_of _ _ _ _ e)))
only_holds field p (further_scope q) more is e = absurd (clash (sym (ap begins_quantified (sign_of-fixed signs.Holds p refl)) ∙ quantified_sign q (fixed signs.Holds p) more e))
  where
    clash : false ≡ true → ⊥
    clash g = cc

pub by_holds : (field : Bool) (p : Place) → Chooses (scope_form field) (fixed signs.Holds p) (formula_form field) (holds_scope p) 0
by_holds field p = record {
  level = λ k is. refl;
  into = λ k is. is;
  spells = λ k is. refl;
  only = λ x more is e. only_holds field p x more is e;
  empty = λ x is e. absurd (scope_filled x e);
  goes = λ k t is g. g;
}

pub take_holds : (field : Bool) (room : ℕ) (p : Place) (b rest : List MarkedToken) → b ≡ fixed signs.Holds p ∷ rest → Leads (scope_form field) (formula_form field) room (holds_scope p) b rest
take_holds field room p b rest e = leads_by (scope_form field) (fixed signs.Holds p) (formula_form field) (holds_scope p) 0 (by_holds field p) room (omega arith) b rest e

-- where no `holds` comes next, a further quantifier
only_further : (field : Bool) (b : List MarkedToken) → ((p : Place) → Agrees b (fixed signs.Holds p ∷ []) → ⊥) → (x : Scope) → IsScope field x → Agrees b (spell_scope x) → (k : QuantifiedData) × IsQuantified field k × (x ≡ further_scope k)
only_further field b none (holds_scope p f) is agrees = absurd (none p (first b (fixed signs.Holds p) (spell_formula f) agrees))
  where
    first : (b : List MarkedToken) (t : MarkedToken) (w : List MarkedToken) → Agrees b (t ∷ w) → Agrees b (t ∷ [])
    first [] t w g = g
    first (s ∷ b) t w g = g
only_further field b none (further_scope q) is agrees = (q, is, refl)

pub as_further : (field : Bool) (b : List MarkedToken) → ((p : Place) → Agrees b (fixed signs.Holds p ∷ []) → ⊥) → Reshapes (scope_form field) (quantified_form field) further_scope b
as_further field b none = record {
  into = λ k is. is;
  spells = λ k is. refl;
  only = λ x is agrees. only_further field b none x is agrees;
  goes = λ k t is g. g;
  level = λ k is. refl;
}

-- `st` and its condition
only_such : (field : Bool) (p : Place) (x : Universal) (more : List MarkedToken) → IsUniversal field x → spell_universal x ≡ fixed signs.St p ∷ more → (k : (condition field).Tree) × (condition field).IsTree k × (x ≡ such_universal p k.0 k.1)
only_such field p (plain_universal s) more is e = absurd (no_scope s more e)
  where
    clash : (s : Sign) → begins_quantified s ≡ true → s ≡ signs.St → ⊥
    clash signs.For g h = cc
    clash signs.Ex g h = cc
    clash _ g h = cc

    no_scope : (s : Scope) (more : List MarkedToken) → spell_scope s ≡ fixed signs.St p ∷ more → ⊥
    no_scope (holds_scope q f) more e = differ (sym (sign_of-fixed signs.Holds q refl) ∙ (ap sign_of (head_of _ _ _ _ e) ∙ sign_of-fixed signs.St p refl))
      where
        differ : signs.Holds ≡ signs.St → ⊥
        differ h = cc
    no_scope (further_scope q) more e = clash (sign_of (fixed signs.St p)) (quantified_sign q (fixed signs.St p) more e) (sign_of-fixed signs.St p refl)
only_such field p (such_universal q f s) more is e = ((f, s), is, ap (λ z. such_universal z f s) (same_fixed signs.St refl q p (head_of _ _ _ _ e)))

pub universal_filled : (x : Universal) → spell_universal x ≡ [] → ⊥
universal_filled (plain_universal s) e = scope_filled s e
universal_filled (such_universal p f s) e = cc

condition_goes : (field : Bool) (k : (condition field).Tree) (t : MarkedToken) → (condition field).goes k t ≡ true → goes_open (scope_takes k.1) (sign_of t) ≡ true
condition_goes field k t g = go (spell_scope k.1) refl g
  where
    go : (w : List MarkedToken) → spell_scope k.1 ≡ w → (goes_open (scope_takes k.1) (sign_of t) || (is_empty w && goes_open (formula_takes k.0) (sign_of t))) ≡ true → goes_open (scope_takes k.1) (sign_of t) ≡ true
    go [] e h = absurd (scope_filled k.1 e)
    go (s ∷ w) e h = either (goes_open (scope_takes k.1) (sign_of t)) false false (λ f. absurd (never f)) h

pub by_such : (field : Bool) (p : Place) → Chooses (universal_form field) (fixed signs.St p) (condition field) (λ k. such_universal p k.0 k.1) 0
by_such field p = record {
  level = λ k is. refl;
  into = λ k is. is;
  spells = λ k is. refl;
  only = λ x more is e. only_such field p x more is e;
  empty = λ x is e. absurd (universal_filled x e);
  goes = λ k t is g. condition_goes field k t g;
}

take_such : (field : Bool) (room : ℕ) (p : Place) (b rest : List MarkedToken) → b ≡ fixed signs.St p ∷ rest → Leads (universal_form field) (condition field) room (λ k. such_universal p k.0 k.1) b rest
take_such field room p b rest e = leads_by (universal_form field) (fixed signs.St p) (condition field) (λ k. such_universal p k.0 k.1) 0 (by_such field p) room (omega arith) b rest e

pub condition_refuses : (field : Bool) (room : ℕ) (p : Place) (b rest after : List MarkedToken) (e : Refusal) → b ≡ fixed signs.St p ∷ rest → Refuses (formula_form field) room rest e after → Refuses (universal_form field) room b e after
condition_refuses field room p b rest after e is h = passes (universal_form field) (condition field) room (λ k. such_universal p k.0 k.1) b rest after e (take_such field room p b rest is)
    (first_refuses (formula_form field) (λ _. scope_form field) (condition_apart field) room rest after e (λ f is. (holds_scope nowhere some_formula, ((tt, tt), tt))) h)

behind_condition : (field : Bool) (room : ℕ) (p : Place) (f : FormulaData) (b rest c : List MarkedToken) → b ≡ fixed signs.St p ∷ rest → Found (formula_form field) room rest f c → Leads (universal_form field) (scope_form field) room (such_universal p f) b c
behind_condition field room p f b rest c is h = leads_on (universal_form field) (condition field) (scope_form field) room (λ k. such_universal p k.0 k.1) (beside (formula_form field) (λ _. scope_form field) f) b rest c (take_such field room p b rest is)
    (leads_behind (formula_form field) (λ _. scope_form field) (condition_apart field) room rest c f h)

pub such_scope_refuses : (field : Bool) (room : ℕ) (p : Place) (f : FormulaData) (b rest c after : List MarkedToken) (e : Refusal) → b ≡ fixed signs.St p ∷ rest → Found (formula_form field) room rest f c → Refuses (scope_form field) room c e after → Refuses (universal_form field) room b e after
such_scope_refuses field room p f b rest c after e is h r = passes (universal_form field) (scope_form field) room (such_universal p f) b c after e (behind_condition field room p f b rest c is h) r

-- where no `st` comes next, the scope alone
only_plain : (field : Bool) (b : List MarkedToken) → ((p : Place) → Agrees b (fixed signs.St p ∷ []) → ⊥) → (x : Universal) → IsUniversal field x → Agrees b (spell_universal x) → (k : Scope) × IsScope field k × (x ≡ plain_universal k)
only_plain field b none (such_universal p f s) is agrees = absurd (none p (first b (fixed signs.St p) (spell_formula f ++ spell_scope s) agrees))
  where
    first : (b : List MarkedToken) (t : MarkedToken) (w : List MarkedToken) → Agrees b (t ∷ w) → Agrees b (t ∷ [])
    first [] t w g = g
    first (s ∷ b) t w g = g
only_plain field b none (plain_universal s) is agrees = (s, is, refl)

pub as_plain : (field : Bool) (b : List MarkedToken) → ((p : Place) → Agrees b (fixed signs.St p ∷ []) → ⊥) → Reshapes (universal_form field) (scope_form field) plain_universal b
as_plain field b none = record {
  into = λ k is. is;
  spells = λ k is. refl;
  only = λ x is agrees. only_plain field b none x is agrees;
  goes = λ k t is g. g;
  level = λ k is. refl;
}

begin_plain : (field : Bool) (room : ℕ) (b c : List MarkedToken) → TakesPlace signs.St b None c → Leads (universal_form field) (scope_form field) room plain_universal b c
begin_plain field room b c h =
    let L : List MarkedToken → Type 0 = λ z. Leads (universal_form field) (scope_form field) room plain_universal b z in
    subst L h.0 (leads_as (universal_form field) (scope_form field) plain_universal room b (as_plain field b h.1))

pub plain_scope_refuses : (field : Bool) (room : ℕ) (b c after : List MarkedToken) (e : Refusal) → TakesPlace signs.St b None c → Refuses (scope_form field) room c e after → Refuses (universal_form field) room b e after
plain_scope_refuses field room b c after e h r = passes (universal_form field) (scope_form field) room plain_universal b c after e (begin_plain field room b c h) r

-- The scope that is read.
pub holds_refuses : (field : Bool) (room : ℕ) (p : Place) (b rest after : List MarkedToken) (e : Refusal) → b ≡ fixed signs.Holds p ∷ rest → Refuses (formula_form field) room rest e after → Refuses (scope_form field) room b e after
holds_refuses field room p b rest after e is h = passes (scope_form field) (formula_form field) room (holds_scope p) b rest after e (take_holds field room p b rest is) h

pub holds_found : (field : Bool) (room : ℕ) (p : Place) (f : FormulaData) (b rest after : List MarkedToken) → b ≡ fixed signs.Holds p ∷ rest → Found (formula_form field) room rest f after → NotTaken (formula_takes f) after → Found (scope_form field) room b (holds_scope p f) after × NotTaken (scope_takes (holds_scope p f)) after
holds_found field room p f b rest after is h quiet = ((take_holds field room p b rest is).finds f after h, quieter (formula_takes f) (scope_takes (holds_scope p f)) (λ o. refl) after quiet)

begin_further : (field : Bool) (room : ℕ) (b c : List MarkedToken) → TakesPlace signs.Holds b None c → Leads (scope_form field) (quantified_form field) room further_scope b c
begin_further field room b c h =
    let L : List MarkedToken → Type 0 = λ z. Leads (scope_form field) (quantified_form field) room further_scope b z in
    subst L h.0 (leads_as (scope_form field) (quantified_form field) further_scope room b (as_further field b h.1))

pub further_refuses : (field : Bool) (room : ℕ) (b c after : List MarkedToken) (e : Refusal) → TakesPlace signs.Holds b None c → Refuses (quantified_form field) room c e after → Refuses (scope_form field) room b e after
further_refuses field room b c after e h r = passes (scope_form field) (quantified_form field) room further_scope b c after e (begin_further field room b c h) r

pub further_found : (field : Bool) (room : ℕ) (q : QuantifiedData) (b c after : List MarkedToken) → TakesPlace signs.Holds b None c → Found (quantified_form field) room c q after → NotTaken (quantified_takes q) after → Found (scope_form field) room b (further_scope q) after × NotTaken (scope_takes (further_scope q)) after
further_found field room q b c after h f quiet = ((begin_further field room b c h).finds q after f, quieter (quantified_takes q) (scope_takes (further_scope q)) (λ o. refl) after quiet)

-- A universal formula takes what its scope takes.
scope_same : (p : Place) (d : DeclarationsData) (s : Scope) (o : Operator) → quantified_takes (universal_scope p d s) o ≡ scope_takes s o
scope_same p d (holds_scope q f) o = refl
scope_same p d (further_scope q) o = refl

such_same : (p : Place) (d : DeclarationsData) (r : Place) (f : FormulaData) (s : Scope) (o : Operator) → quantified_takes (such_scope p d r f s) o ≡ scope_takes s o
such_same p d r f (holds_scope q g) o = refl
such_same p d r f (further_scope q) o = refl

-- a quantified formula in its box
boxed_universal : (field : Bool) (room : ℕ) (p : Place) (d : DeclarationsData) (k : Universal) (x : QuantifiedNode) (b after : List MarkedToken) (r : Result (Box QuantifiedNode Global) Refusal) → Found (universal_form field) room b k after → quantified_of x ≡ universal_from p d k → NotTaken (quantified_takes (universal_from p d k)) after → BoxesQuantified x r →
    ReadsUniversal field room p d b r after
boxed_universal field room p d k x b after (Ok z) h e quiet g =
    let same : quantified_of z.value ≡ universal_from p d k = ap quantified_of g ∙ e in
    let N : QuantifiedData → Type 0 = λ y. NotTaken (quantified_takes y) after in
    ((k, h, same), subst N (sym same) quiet)
boxed_universal field room p d k x b after (Err e) h f quiet g = let R : Refusal → Type 0 = λ z. Refuses (universal_form field) room b z after in subst R (sym g) tt

pub such_found : (field : Bool) (room : ℕ) (p : Place) (d : DeclarationsData) (q : Place) (f : FormulaData) (s : Scope) (x : QuantifiedNode) (b rest c after : List MarkedToken) (r : Result (Box QuantifiedNode Global) Refusal) → b ≡ fixed signs.St q ∷ rest → Found (formula_form field) room rest f c →
    Found (scope_form field) room c s after × NotTaken (scope_takes s) after → quantified_of x ≡ such_scope p d q f s → BoxesQuantified x r → ReadsUniversal field room p d b r after
such_found field room p d q f s x b rest c after r is h k e g =
    boxed_universal field room p d (such_universal q f s) x b after r ((behind_condition field room q f b rest c is h).finds s after k.0) e (quieter (scope_takes s) (quantified_takes (such_scope p d q f s)) (such_same p d q f s) after k.1) g

pub plain_found : (field : Bool) (room : ℕ) (p : Place) (d : DeclarationsData) (s : Scope) (x : QuantifiedNode) (b c after : List MarkedToken) (r : Result (Box QuantifiedNode Global) Refusal) → TakesPlace signs.St b None c →
    Found (scope_form field) room c s after × NotTaken (scope_takes s) after → quantified_of x ≡ universal_scope p d s → BoxesQuantified x r → ReadsUniversal field room p d b r after
plain_found field room p d s x b c after r h k e g =
    boxed_universal field room p d (plain_universal s) x b after r ((begin_plain field room b c h).finds s after k.0) e (quieter (scope_takes s) (quantified_takes (universal_scope p d s)) (scope_same p d s) after k.1) g

-- `ex` and its formula
pub st_refuses : (field : Bool) (room : ℕ) (b after : List MarkedToken) (e : Refusal) → Refuses (word signs.St) 0 b e after → Refuses (such_formula field) room b e after
st_refuses field room b after e h = first_word_refuses Place (fixed signs.St) (λ _. formula_form field) (λ p. (some_formula, ((tt, tt), tt))) room b after e h

behind_st : (field : Bool) (room : ℕ) (p : Place) (b c : List MarkedToken) → Found (word signs.St) 0 b p c → Leads (such_formula field) (formula_form field) room (beside (word signs.St) (λ _. formula_form field) p) b c
behind_st field room p b c h = behind_word Place (fixed signs.St) (λ _. formula_form field) room b c p h

pub body_refuses : (field : Bool) (room : ℕ) (p : Place) (b c after : List MarkedToken) (e : Refusal) → Found (word signs.St) 0 b p c → Refuses (formula_form field) room c e after → Refuses (such_formula field) room b e after
body_refuses field room p b c after e h r = passes (such_formula field) (formula_form field) room (beside (word signs.St) (λ _. formula_form field) p) b c after e (behind_st field room p b c h) r

boxed_exists : (field : Bool) (room : ℕ) (p : Place) (d : DeclarationsData) (k : Place × FormulaData) (x : QuantifiedNode) (b after : List MarkedToken) (r : Result (Box QuantifiedNode Global) Refusal) → Found (such_formula field) room b k after → quantified_of x ≡ make_exists p d k → NotTaken (quantified_takes (make_exists p d k)) after → BoxesQuantified x r →
    ReadsExists field room p d b r after
boxed_exists field room p d k x b after (Ok z) h e quiet g =
    let same : quantified_of z.value ≡ make_exists p d k = ap quantified_of g ∙ e in
    let N : QuantifiedData → Type 0 = λ y. NotTaken (quantified_takes y) after in
    ((k, h, same), subst N (sym same) quiet)
boxed_exists field room p d k x b after (Err e) h f quiet g = let R : Refusal → Type 0 = λ z. Refuses (such_formula field) room b z after in subst R (sym g) tt

pub exists_found : (field : Bool) (room : ℕ) (p : Place) (d : DeclarationsData) (q : Place) (f : FormulaData) (x : QuantifiedNode) (b c after : List MarkedToken) (r : Result (Box QuantifiedNode Global) Refusal) → Found (word signs.St) 0 b q c → Found (formula_form field) room c f after → NotTaken (formula_takes f) after → quantified_of x ≡ exists_from p d q f → BoxesQuantified x r →
    ReadsExists field room p d b r after
exists_found field room p d q f x b c after r h k quiet e g =
    boxed_exists field room p d (q, f) x b after r ((behind_st field room q b c h).finds f after k) e (quieter (formula_takes f) (quantified_takes (exists_from p d q f)) (λ o. refl) after quiet) g
