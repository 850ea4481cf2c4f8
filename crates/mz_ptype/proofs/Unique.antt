-- Two adjectives, types or declarations that spell the same tokens are equal.
use Rattle.std.proofs.Common.{◌≡◌, ℕ, zero, suc, ◌+◌, ◌<◌, Bool, true, false, List, [], ◌∷◌, refl, sym, ap, ◌∙◌, arith}
use Rattle.mz_base.specs.declared.place.Place.{Place}
use Rattle.mz_base.specs.declared.token.MarkedToken.{MarkedToken}
use Rattle.mz_forms.specs.Form.{Form, then, nested}
use Rattle.mz_forms.specs.Parse.{OneTree}
use Rattle.mz_forms.proofs.Chain.{one_chain, pair_apart}
use Rattle.mz_forms.proofs.Compose.{head_of}
use Rattle.mz_forms.proofs.Leads.{apart_closed}
use Rattle.mz_forms.proofs.One.{One, OneAt, one_then, at_turn, one_from, one_class, one_zero, one_as, one_nested, one_tree}
use Rattle.mz_forms.proofs.OneRepeat.{one_many, one_maybe}
use Rattle.mz_tree.specs.declared.word.Word.{Word}
use Rattle.mz_tree.specs.declared.word.Being.{Being}
use Rattle.mz_pterm.specs.declared.sign.Sign.{Sign}
use Rattle.mz_pterm.specs.declared.sign.Sign.TheVariants as signs
use Rattle.mz_pterm.specs.Sign.{sign_of}
use Rattle.mz_pterm.specs.Words.{is_fixed, fixed, is_named, named, word, name}
use Rattle.mz_pterm.specs.Forms.{terms_form, to_close}
use Rattle.mz_pterm.proofs.Signs.{same_fixed, same_named, sign_of-fixed, sign_of-named}
use Rattle.mz_pterm.proofs.Bases.{terms_close}
use Rattle.mz_pterm.proofs.Unique.{terms_one}
use Rattle.mz_tree.specs.Spelled.{being_token}
use Rattle.mz_ptype.specs.Classes.{is_non, begins_argument, is_preposition, is_being}
use Rattle.mz_ptype.specs.Forms.{non_form, Argument, identifier_argument, terms_argument, spell_argument, argument_form, maybe_argument, argued, parts_of_adjective, adjective_of_parts, adjective_form, adjective_list_form, adjectives_form, list_of_adjectives, preposition, behind_preposition, maybe_arguments, radix_symbol, radix_form, parts_of_type, whole_type, being, behind_being, maybe_type, parts_of_declared, declared_of_parts, declared_form, declared_ends_in_terms, declared_links, more_declared, declarations_form}
use Rattle.mz_ptype.proofs.AdjectiveSteps as adjectives
use Rattle.mz_ptype.proofs.TypeSteps as types
use Rattle.mz_ptype.proofs.DeclarationSteps as declarations

words : (n : ℕ) (c : Sign) → is_fixed c ≡ true → One n (word c)
words n c fix = one_class n Place (fixed c) (same_fixed c fix)

names : (n : ℕ) (c : Sign) → is_named c ≡ true → One n (name c)
names n c fix = one_class n Word (named c) (same_named c fix)

module _ (field : Bool) where
  -- adjectives
  closing : (n : ℕ) → One n (to_close field signs.Close)
  closing n = one_then n n (nested (terms_form field)) (λ _. word signs.Close) (terms_close field signs.Close refl) (one_nested n (terms_form field) (terms_one field n).lists) (λ a. words n signs.Close refl) (λ a l isa h. omega (arith, h))

  parentheses : (n : ℕ) → One n (adjectives.parentheses field)
  parentheses n = one_then n n (nested (word signs.Open)) (λ _. to_close field signs.Close) (apart_closed (nested (word signs.Open)) (λ _. to_close field signs.Close) (λ a t. refl)) (one_nested n (word signs.Open) (words n signs.Open refl)) (λ a. closing n) (λ a l isa h. omega (arith, h))

  argument_at : (n : ℕ) (a : Argument) (tok : MarkedToken) (m : List MarkedToken) → spell_argument a ≡ tok ∷ m → OneAt n (argument_form field) tok
  argument_at n (identifier_argument w) tok m e = at_turn n (argument_form field) (name signs.Identifier) identifier_argument tok (adjectives.turn_named field tok (sym (ap sign_of (head_of _ _ _ _ e)) ∙ sign_of-named signs.Identifier w refl)) (names n signs.Identifier refl)
  argument_at n (terms_argument p ts q) tok m e = at_turn n (argument_form field) (adjectives.parentheses field) adjectives.make_argument tok (adjectives.turn_terms field tok (sym (ap sign_of (head_of _ _ _ _ e)) ∙ sign_of-fixed signs.Open p refl)) (parentheses n)

  filled : (a : Argument) → spell_argument a ≡ [] → ⊥
  filled (identifier_argument w) e = cc
  filled (terms_argument p ts q) e = cc

  arguments : (n : ℕ) → One n (argument_form field)
  arguments n = one_from n (argument_form field) (λ a b isa isb ea eb. absurd (filled a ea)) (λ a b tok m isa isb ea eb. absurd (filled a ea)) (λ a tok m isa e. argument_at n a tok m e)

  argueds : (n : ℕ) → One n (argued field)
  argueds n = one_then n n (maybe_argument field) (λ _. name signs.Attribute) (adjectives.argument_apart field) (one_maybe (argument_form field) (λ t. begins_argument (sign_of t)) (adjectives.starts_argument field) n (arguments n)) (λ a. names n signs.Attribute refl) (λ a l isa h. omega (arith, h))

  adjective_parts : (n : ℕ) → One n (parts_of_adjective field)
  adjective_parts n = one_then n n non_form (λ _. argued field) (adjectives.non_apart field) (one_maybe (word signs.Non) (λ t. is_non (sign_of t)) adjectives.starts_non n (words n signs.Non refl)) (λ a. argueds n) (λ a l isa h. omega (arith, h))

  pub adjective_one : (n : ℕ) → One n (adjective_form field)
  adjective_one n = one_as n (adjective_form field) (parts_of_adjective field) adjective_of_parts (adjectives.only_parts field) (λ s is. (adjectives.as_parts field []).spells s is) (λ s t is g. (adjectives.as_parts field []).goes s t is g) (adjective_parts n)

  pub list_one : (n : ℕ) → One n (adjective_list_form field)
  list_one zero = one_zero (adjective_list_form field)
  list_one (suc n) = one_many (adjective_form field) adjectives.adjective_class adjectives.adjective_class (adjectives.repeats field) n (adjective_one (suc n)) (list_one n)

  pub adjectives_one : (n : ℕ) → One n (adjectives_form field)
  adjectives_one n = one_as n (adjectives_form field) (adjectives.some_adjectives field) list_of_adjectives (adjectives.only_some field) (λ s is. (adjectives.as_some field []).spells s is) (λ s t is g. (adjectives.as_some field []).goes s t is g)
      (one_then n n (adjective_form field) (λ _. adjective_list_form field) (adjectives.adjectives_apart field) (adjective_one n) (λ a. list_one n) (λ a l isa h. omega (arith, h)))

  -- types
  behind_one : (structured : Bool) (n : ℕ) → One n (behind_preposition field structured)
  behind_one structured n = one_then n n (word (preposition structured)) (λ _. terms_form field) (apart_closed (word (preposition structured)) (λ _. terms_form field) (λ a t. refl)) (words n (preposition structured) (types.preposition_fixed structured)) (λ a. (terms_one field n).lists) (λ a l isa h. omega (arith, h))

  radix_one : (n : ℕ) → One n (radix_form field)
  radix_one n = one_then n n radix_symbol (λ r. maybe_arguments field r.0) (apart_closed radix_symbol (λ r. maybe_arguments field r.0) (λ a t. refl)) (one_class n (Bool × Word) types.symbol_token types.symbol_told)
      (λ r. one_maybe (behind_preposition field r.0) (λ t. is_preposition r.0 (sign_of t)) (types.starts_preposition field r.0) n (behind_one r.0 n)) (λ a l isa h. omega (arith, h))

  pub type_one : (n : ℕ) → One n (whole_type field)
  type_one n = one_as n (whole_type field) (parts_of_type field) types.make_type (types.only_parts field) (λ s is. types.parts_spelled field s is) (λ s t is g. types.parts_goes field s t g)
      (one_then n n (adjective_list_form field) (λ _. radix_form field) (types.adjectives_apart field) (list_one n) (λ a. radix_one n) (λ a l isa h. omega (arith, h)))

  -- declarations
  typed_one : (n : ℕ) → One n (behind_being field)
  typed_one n = one_then n n being (λ _. whole_type field) (apart_closed being (λ _. whole_type field) (λ a t. refl)) (one_class n Being being_token declarations.being_same) (λ a. type_one n) (λ a l isa h. omega (arith, h))

  pub declared_one : (n : ℕ) → One n (declared_form field)
  declared_one n = one_as n (declared_form field) (parts_of_declared field) declared_of_parts (declarations.only_parts field) (λ s is. (declarations.as_declared field []).spells s is) (λ s t is g. (declarations.as_declared field []).goes s t is g)
      (one_then n n (name signs.Identifier) (λ _. maybe_type field) (declarations.name_apart field) (names n signs.Identifier refl) (λ a. one_maybe (behind_being field) (λ t. is_being (sign_of t)) (declarations.starts_being field) n (typed_one n)) (λ a l isa h. omega (arith, h)))

  chain_one : (n : ℕ) (st : Bool) → One n (more_declared field st)
  chain_one zero st = one_zero (more_declared field st)
  chain_one (suc n) st = one_chain (declared_links field) (declarations.linked_declared field) n (declared_one n) (chain_one n) st

  pub declarations_one : (n : ℕ) → One n (declarations_form field)
  declarations_one n = one_as n (declarations_form field) (declarations.some_declared field) declarations.make_declarations (declarations.only_declarations field) (λ s is. (declarations.as_declarations field []).spells s is) (λ s t is g. (declarations.as_declarations field []).goes s t is g)
      (one_then n n (declared_form field) (declarations.behind_declared field) (pair_apart (declared_links field) (declarations.linked_declared field)) (declared_one n) (λ a. chain_one n (declared_ends_in_terms a)) (λ a l isa h. omega (arith, h)))

pub one_type : (field : Bool) → OneTree (whole_type field)
one_type field = one_tree (whole_type field) (type_one field)

pub one_adjectives : (field : Bool) → OneTree (adjectives_form field)
one_adjectives field = one_tree (adjectives_form field) (adjectives_one field)

pub one_declarations : (field : Bool) → OneTree (declarations_form field)
one_declarations field = one_tree (declarations_form field) (declarations_one field)
