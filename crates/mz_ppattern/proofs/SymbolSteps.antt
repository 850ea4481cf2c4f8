-- The readings of functor symbols, and of identifiers in brackets.
use Rattle.std.proofs.Common.{◌≡◌, ℕ, true, List, [], ◌∷◌, refl, sym, ap, subst, ◌∙◌, arith}
use Rattle.mz_base.specs.declared.place.Place.{Place}
use Rattle.mz_base.specs.declared.token.MarkedToken.{MarkedToken}
use Rattle.mz_forms.specs.declared.refusal.Refusal.{Refusal}
use Rattle.mz_forms.specs.Form.{Form, Agrees, Found, Fails, Leads, then, nested}
use Rattle.mz_forms.specs.Reading.{Refuses}
use Rattle.mz_forms.proofs.Choose.{fails_here}
use Rattle.mz_forms.proofs.Compose.{Apart}
use Rattle.mz_forms.proofs.Leads.{leads_behind, leads_on, beside, apart_closed, passes, first_refuses}
use Rattle.mz_forms.proofs.One.{One, one_then, one_class}
use Rattle.mz_forms.proofs.Words.{word_found, word_in_any, word_refuses}
use Rattle.mz_tree.specs.declared.word.Word.{Word}
use Rattle.mz_tree.specs.declared.lists.Separated.{Separated}
use Rattle.mz_tree_heading.specs.declared.patterns.IdentifierTree.{IdentifierTree}
use Rattle.mz_pterm.specs.declared.sign.Sign.{Sign}
use Rattle.mz_pterm.specs.declared.sign.Sign.TheVariants as signs
use Rattle.mz_pterm.specs.Classes.{closes}
use Rattle.mz_pterm.specs.Sign.{sign_of}
use Rattle.mz_pterm.specs.Words.{is_fixed, fixed, named, name, word, word_of}
use Rattle.mz_pterm.proofs.Bases.{word_at, close_fixed, apart_word, apart_name}
use Rattle.mz_pterm.proofs.Signs.{told_functor, sign_of-functor, same_fixed, same_named}
use Rattle.mz_pterm.proofs.Steps.{told_rest}
use Rattle.mz_ptype.proofs.Optional.{never}
use Rattle.mz_pjustification.proofs.Taken.{nowhere, nothing_left}
use Rattle.mz_ppattern.specs.Classes.{goes_on_names}
use Rattle.mz_ppattern.specs.Forms.{identifiers_form, functor_token, functor_form, bracketed_form, enclosed_form}
use Rattle.mz_ppattern.proofs.NameSteps.{make_identifier, identifiers_one}

-- Functor symbols.
pub same_functor : (a b : Word × ℕ) → functor_token a ≡ functor_token b → a ≡ b
same_functor a b e = ap (λ t. (word_of t, t.token.priority)) e

pub functor_found : (t : MarkedToken) (b rest : List MarkedToken) → sign_of t ≡ signs.Functor → b ≡ t ∷ rest → Found functor_form 0 b (word_of t, t.token.priority) rest
functor_found t b rest h e = word_found (Word × ℕ) functor_token same_functor 0 (word_of t, t.token.priority) b rest (told_rest b rest t _ e (told_functor t h))

pub functor_refused : (t : MarkedToken) (b rest : List MarkedToken) → (sign_of t ≡ signs.Functor → ⊥) → b ≡ t ∷ rest → Fails functor_form 0 b b
functor_refused t b rest differ e = fails_here functor_form 0 (word_at nowhere, 0) b tt (λ x is agrees. differ (sym (ap sign_of (same x agrees)) ∙ sign_of-functor x.0 x.1))
  where
    same : (x : Word × ℕ) → Agrees b (functor_token x ∷ []) → functor_token x ≡ t
    same x agrees = let A : List MarkedToken → Type 0 = λ z. Agrees z (functor_token x ∷ []) in subst A e agrees

pub functor_left_out : (b : List MarkedToken) → b ≡ [] → Fails functor_form 0 b b
functor_left_out b e = fails_here functor_form 0 (word_at nowhere, 0) b tt (λ x is agrees. nothing_left (functor_token x) b e agrees)

pub functor_one : (n : ℕ) → One n functor_form
functor_one n = one_class n (Word × ℕ) functor_token same_functor

-- Brackets that close go on no name.
abbrev pub some_names : Separated IdentifierTree
some_names = record { first = make_identifier (word_at nowhere); more = [] }

abbrev pub some_names_are : (nested identifiers_form).IsTree some_names
some_names_are = (tt, tt)

close_off : (c : Sign) → closes c ≡ true → goes_on_names c ≡ true → ⊥
close_off signs.Close h g = never g
close_off signs.CloseAggregate h g = never g
close_off signs.CloseBrace h g = never g
close_off signs.CloseSquare h g = never g
close_off _ h g = never h

module _ (o c : Sign) (opens : is_fixed o ≡ true) (closing : closes c ≡ true) where
  abbrev behind_open : Form MarkedToken
  behind_open = then (nested identifiers_form) (λ _. word c)

  names_apart : Apart (nested identifiers_form) (λ _. word c)
  names_apart = apart_word (nested identifiers_form) c (close_fixed c closing) (λ a t is h g. close_off c closing (ap goes_on_names (sym h) ∙ g))

  open_apart : Apart (nested (word o)) (λ _. behind_open)
  open_apart = apart_closed (nested (word o)) (λ _. behind_open) (λ a t. refl)

  pub bracketed_refused_1 : (room : ℕ) (b after : List MarkedToken) (e : Refusal) → Refuses (nested (word o)) room b e after → Refuses (bracketed_form o c) room b e after
  bracketed_refused_1 room b after e h = first_refuses (nested (word o)) (λ _. behind_open) open_apart room b after e (λ a is. ((some_names, nowhere), (some_names_are, tt))) h

  module _ (room : ℕ) (b : List MarkedToken) (x1 : Place) (c1 : List MarkedToken) (h1 : Found (nested (word o)) room b x1 c1) where
    bracketed_at_1 : Leads (bracketed_form o c) behind_open room (λ k. (x1, k)) b c1
    bracketed_at_1 = leads_behind (nested (word o)) (λ _. behind_open) open_apart room b c1 x1 h1

    pub bracketed_refused_2 : (after : List MarkedToken) (e : Refusal) → Refuses (nested identifiers_form) room c1 e after → Refuses (bracketed_form o c) room b e after
    bracketed_refused_2 after e h = passes (bracketed_form o c) behind_open room (λ k. (x1, k)) b c1 after e bracketed_at_1 (first_refuses (nested identifiers_form) (λ _. word c) names_apart room c1 after e (λ a is. (nowhere, tt)) h)

    module _ (x2 : Separated IdentifierTree) (c2 : List MarkedToken) (h2 : Found (nested identifiers_form) room c1 x2 c2) where
      bracketed_at_2 : Leads (bracketed_form o c) (word c) room (λ k. (x1, (x2, k))) b c2
      bracketed_at_2 = leads_on (bracketed_form o c) behind_open (word c) room (λ k. (x1, k)) (beside (nested identifiers_form) (λ _. word c) x2) b c1 c2 bracketed_at_1 (leads_behind (nested identifiers_form) (λ _. word c) names_apart room c1 c2 x2 h2)

      pub bracketed_refused_3 : (after : List MarkedToken) (e : Refusal) → Refuses (word c) 0 c2 e after → Refuses (bracketed_form o c) room b e after
      bracketed_refused_3 after e h = passes (bracketed_form o c) (word c) room (λ k. (x1, (x2, k))) b c2 after e bracketed_at_2 (word_refuses Place (fixed c) room c2 after e h)

      pub bracketed_found : (x3 : Place) (after : List MarkedToken) → Found (word c) 0 c2 x3 after → Found (bracketed_form o c) room b (x1, (x2, x3)) after
      bracketed_found x3 after h = bracketed_at_2.finds x3 after (word_in_any Place (fixed c) room c2 after x3 h)

  pub bracketed_one : (n : ℕ) → One n (bracketed_form o c)
  bracketed_one n = one_then n n (nested (word o)) (λ _. behind_open) open_apart (one_class n Place (fixed o) (same_fixed o opens))
      (λ a. one_then n n (nested identifiers_form) (λ _. word c) names_apart (identifiers_one n) (λ d. one_class n Place (fixed c) (same_fixed c (close_fixed c closing))) (λ d l isd h. omega (arith, h))) (λ a l isa h. omega (arith, h))

-- Brackets of an environment.
abbrev behind_left : Form MarkedToken
behind_left = then (nested identifiers_form) (λ _. name signs.RightBracket)

right_apart : Apart (nested identifiers_form) (λ _. name signs.RightBracket)
right_apart = apart_name (nested identifiers_form) signs.RightBracket refl (λ a t is h g. never (ap goes_on_names (sym h) ∙ g))

left_apart : Apart (nested (name signs.LeftBracket)) (λ _. behind_left)
left_apart = apart_closed (nested (name signs.LeftBracket)) (λ _. behind_left) (λ a t. refl)

pub enclosed_refused_1 : (room : ℕ) (b after : List MarkedToken) (e : Refusal) → Refuses (nested (name signs.LeftBracket)) room b e after → Refuses enclosed_form room b e after
enclosed_refused_1 room b after e h = first_refuses (nested (name signs.LeftBracket)) (λ _. behind_left) left_apart room b after e (λ a is. ((some_names, word_at nowhere), (some_names_are, tt))) h

module _ (room : ℕ) (b : List MarkedToken) (x1 : Word) (c1 : List MarkedToken) (h1 : Found (nested (name signs.LeftBracket)) room b x1 c1) where
  enclosed_at_1 : Leads enclosed_form behind_left room (λ k. (x1, k)) b c1
  enclosed_at_1 = leads_behind (nested (name signs.LeftBracket)) (λ _. behind_left) left_apart room b c1 x1 h1

  pub enclosed_refused_2 : (after : List MarkedToken) (e : Refusal) → Refuses (nested identifiers_form) room c1 e after → Refuses enclosed_form room b e after
  enclosed_refused_2 after e h = passes enclosed_form behind_left room (λ k. (x1, k)) b c1 after e enclosed_at_1 (first_refuses (nested identifiers_form) (λ _. name signs.RightBracket) right_apart room c1 after e (λ a is. (word_at nowhere, tt)) h)

  module _ (x2 : Separated IdentifierTree) (c2 : List MarkedToken) (h2 : Found (nested identifiers_form) room c1 x2 c2) where
    enclosed_at_2 : Leads enclosed_form (name signs.RightBracket) room (λ k. (x1, (x2, k))) b c2
    enclosed_at_2 = leads_on enclosed_form behind_left (name signs.RightBracket) room (λ k. (x1, k)) (beside (nested identifiers_form) (λ _. name signs.RightBracket) x2) b c1 c2 enclosed_at_1 (leads_behind (nested identifiers_form) (λ _. name signs.RightBracket) right_apart room c1 c2 x2 h2)

    pub enclosed_refused_3 : (after : List MarkedToken) (e : Refusal) → Refuses (name signs.RightBracket) 0 c2 e after → Refuses enclosed_form room b e after
    enclosed_refused_3 after e h = passes enclosed_form (name signs.RightBracket) room (λ k. (x1, (x2, k))) b c2 after e enclosed_at_2 (word_refuses Word (named signs.RightBracket) room c2 after e h)

    pub enclosed_found : (x3 : Word) (after : List MarkedToken) → Found (name signs.RightBracket) 0 c2 x3 after → Found enclosed_form room b (x1, (x2, x3)) after
    enclosed_found x3 after h = enclosed_at_2.finds x3 after (word_in_any Word (named signs.RightBracket) room c2 after x3 h)

pub enclosed_one : (n : ℕ) → One n enclosed_form
enclosed_one n = one_then n n (nested (name signs.LeftBracket)) (λ _. behind_left) left_apart (one_class n Word (named signs.LeftBracket) (same_named signs.LeftBracket refl))
    (λ a. one_then n n (nested identifiers_form) (λ _. name signs.RightBracket) right_apart (identifiers_one n) (λ d. one_class n Word (named signs.RightBracket) (same_named signs.RightBracket refl)) (λ d l isd h. omega (arith, h))) (λ a l isa h. omega (arith, h))
