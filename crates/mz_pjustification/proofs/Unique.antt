-- Two justifications without a proof that spell the same tokens are equal.
use Rattle.std.proofs.Common.{◌≡◌, ℕ, zero, suc, Bool, true, false, List, [], ◌∷◌, ◌++◌, refl, sym, ap, ◌∙◌, arith, Option, Some, None}
use Rattle.mz_base.specs.declared.place.Place.{Place}
use Rattle.mz_base.specs.declared.token.MarkedToken.{MarkedToken}
use Rattle.mz_forms.specs.Form.{Form, Agrees, nested}
use Rattle.mz_forms.specs.Parse.{OneTree}
use Rattle.mz_forms.proofs.Compose.{head_of}
use Rattle.mz_forms.proofs.Leads.{apart_closed}
use Rattle.mz_forms.proofs.One.{One, OneAt, one_then, at_by, at_as, at_token, one_from, one_class, one_zero, one_as, one_nested, one_tree}
use Rattle.mz_forms.proofs.OneRepeat.{one_maybe}
use Rattle.mz_tree.specs.declared.word.Word.{Word}
use Rattle.mz_tree.specs.declared.word.Comma.{Comma}
use Rattle.mz_tree.specs.declared.chain.Next.{Next}
use Rattle.mz_tree.specs.Spelled.{numeral, comma_token}
use Rattle.mz_tree_proof.specs.declared.references.NumberTree.{NumberTree}
use Rattle.mz_tree_proof.specs.declared.references.NumberTree.TheVariants as number_tree
use Rattle.mz_tree_proof.specs.declared.references.ReferenceTree.{ReferenceTree}
use Rattle.mz_tree_proof.specs.declared.references.SimpleTree.{SimpleTree}
use Rattle.mz_tree_proof.specs.declared.references.SimpleTree.TheVariants as simple_tree
use Rattle.mz_tree_proof.specs.Spell.{spell_number, spell_simple}
use Rattle.mz_pterm.specs.declared.sign.Sign.{Sign}
use Rattle.mz_pterm.specs.declared.sign.Sign.TheVariants as signs
use Rattle.mz_pterm.specs.Words.{is_fixed, fixed, named, word, name}
use Rattle.mz_pterm.proofs.Signs.{same_fixed, same_named}
use Rattle.mz_pjustification.specs.declared.keyword.Keyword.{Keyword}
use Rattle.mz_pjustification.specs.declared.keyword.Keyword.TheVariants as keywords
use Rattle.mz_pjustification.specs.Keyword.{keyword_of}
use Rattle.mz_pjustification.specs.Words.{is_key, key, keyword, numeral_form, tokens_of}
use Rattle.mz_pjustification.specs.Forms.{is_colon, number_form, begins_number, spell_part, part_form, head_form, Tail, spell_tail, goes_on_references, tail_form, references_form, is_numbered, scheme_number, scheme_form, premises_form, opens_premises, maybe_premises, goes_on_simple, simple_form}
use Rattle.mz_pjustification.proofs.Keywords.{keyword_of-key, keyword_of-numeral, same_key, same_numeral}
use Rattle.mz_pjustification.proofs.Taken.{key_among, tokens_of-identifier_among}
use Rattle.mz_pjustification.proofs.ReferenceSteps as references
use Rattle.mz_pjustification.proofs.SimpleSteps as simple

words : (n : ℕ) (c : Sign) → is_fixed c ≡ true → One n (word c)
words n c fix = one_class n Place (fixed c) (same_fixed c fix)

names : (n : ℕ) → One n (name signs.Identifier)
names n = one_class n Word (named signs.Identifier) (same_named signs.Identifier refl)

keys : (n : ℕ) (k : Keyword) → is_key k ≡ true → One n (keyword k)
keys n k h = one_class n Place (key k) (same_key k h)

numerals : (n : ℕ) → One n numeral_form
numerals n = one_class n Word numeral same_numeral

-- numbers
no_definition : (w : Word) (tok : MarkedToken) → numeral w ≡ tok → (p : Place) → Agrees (tok ∷ []) (key keywords.Def p ∷ []) → ⊥
no_definition w tok e p g = clash (sym (keyword_of-key keywords.Def p refl) ∙ (ap keyword_of (g ∙ sym e) ∙ keyword_of-numeral w))
  where
    clash : keywords.Def ≡ keywords.Numeral → ⊥
    clash f = cc

number_at : (n : ℕ) (x : NumberTree) (tok : MarkedToken) (m : List MarkedToken) → spell_number x ≡ tok ∷ m → OneAt (suc n) number_form tok
number_at n (number_tree.Theorem w) tok m e = at_as (suc n) number_form numeral_form (λ k. number_tree.Theorem k) tok (references.as_theorem (tok ∷ []) (no_definition w tok (head_of _ _ _ _ e))) (numerals (suc n))
number_at n (number_tree.Definition p w) tok m e = at_token (suc n) number_form (key keywords.Def p) tok (head_of _ _ _ _ e) (at_by n number_form (key keywords.Def p) numeral_form (λ k. number_tree.Definition p k) 0 (references.by_definition p) (numerals n))

pub number_one : (n : ℕ) → One n number_form
number_one zero = one_zero number_form
number_one (suc n) = one_from (suc n) number_form (λ a b isa isb ea eb. absurd (references.number_filled a ea)) (λ a b tok m isa isb ea eb. absurd (references.number_filled a ea)) (λ a tok m isa e. number_at n a tok m e)

-- what stands behind a word that may be a name
module _ (K : Form MarkedToken) (one : (n : ℕ) → One n K) (w : Word) where
  part_empty : (a : Option (Place × K.Tree)) → spell_part K a ≡ [] → a ≡ None
  part_empty None e = refl
  part_empty (Some x) e = cc

  part_goes : (a b : Option (Place × K.Tree)) (tok : MarkedToken) (m : List MarkedToken) → spell_part K a ≡ [] → spell_part K b ≡ tok ∷ m → (part_form K w).goes a tok ≡ true
  part_goes (Some x) b tok m ea eb = cc
  part_goes None None tok m ea eb = cc
  part_goes None (Some y) tok m ea eb = sym (ap (λ t. tokens_of (λ s k. is_colon k) t) (head_of _ _ _ _ eb)) ∙ key_among (λ s k. is_colon k) keywords.Colon y.0 refl

  part_at : (n : ℕ) (a : Option (Place × K.Tree)) (tok : MarkedToken) (m : List MarkedToken) → (part_form K w).IsTree a → spell_part K a ≡ tok ∷ m → OneAt (suc n) (part_form K w) tok
  part_at n None tok m is e = cc
  part_at n (Some x) tok m is e = at_token (suc n) (part_form K w) (key keywords.Colon x.0) tok (head_of _ _ _ _ e) (at_by n (part_form K w) (key keywords.Colon x.0) K (λ k. Some (x.0, k)) 0 (references.by_colon K w x.0 is.0) (one n))

  pub part_one : (n : ℕ) → One n (part_form K w)
  part_one zero = one_zero (part_form K w)
  part_one (suc n) = one_from (suc n) (part_form K w) (λ a b isa isb ea eb. part_empty a ea ∙ sym (part_empty b eb)) (λ a b tok m isa isb ea eb. part_goes a b tok m ea eb) (λ a tok m isa e. part_at n a tok m isa e)

head_one : (n : ℕ) → One n head_form
head_one n = one_then n n (name signs.Identifier) (part_form number_form) (apart_closed (name signs.Identifier) (part_form number_form) (λ a t. refl)) (names n) (λ w. part_one number_form number_one w n) (λ a l isa h. omega (arith, h))

-- references
references_with : (n : ℕ) → ((numbered : Bool) → One n (tail_form numbered)) → One n references_form
references_with n tails = one_as n references_form references.some_references references.make_references (λ x is. references.only_parts x.first x.more is.0 is.1) (λ s is. (references.as_references []).spells s is) (λ s t is g. (references.as_references []).goes s t is g)
    (one_then n n head_form references.behind_head references.head_apart (head_one n) (λ h. tails (is_numbered h.1)) (λ a l isa h. omega (arith, h)))

behind_filled : (x : references.Behind) → references.spell_behind x ≡ [] → ⊥
behind_filled (references.number_behind n k) e = references.number_filled n (left (spell_number n) (spell_tail k) e)
  where
    left : (v w : List MarkedToken) → v ++ w ≡ [] → v ≡ []
    left [] w f = refl
    left (s ∷ v) w f = cc
behind_filled (references.references_behind s) e = references.references_filled s e

behind_at : (n : ℕ) → ((numbered : Bool) → One n (tail_form numbered)) → (x : references.Behind) (tok : MarkedToken) (m : List MarkedToken) → references.spell_behind x ≡ tok ∷ m → OneAt n references.behind_form tok
behind_at n tails (references.number_behind a k) tok m e =
    let f = references.number_first a in
    let same : f.0 ≡ tok = head_of f.0 tok (f.1 ++ spell_tail k) m (ap (λ z. z ++ spell_tail k) (sym f.2) ∙ e) in
    at_as n references.behind_form references.number_and_tail references.make_number tok (references.as_number (tok ∷ []) (ap (λ t. tokens_of begins_number t) (sym same) ∙ f.3))
    (one_then n n number_form (λ _. tail_form true) references.number_apart (number_one n) (λ a. tails true) (λ a l isa h. omega (arith, h)))
behind_at n tails (references.references_behind s) tok m e =
    let f = references.references_first s in
    let same : named signs.Identifier f.0 ≡ tok = head_of (named signs.Identifier f.0) tok f.1 m (sym f.2 ∙ e) in
    at_as n references.behind_form references_form references.references_behind tok (references.as_further (tok ∷ []) (ap (λ t. tokens_of begins_number t) (sym same) ∙ tokens_of-identifier_among begins_number f.0)) (references_with n tails)

behind_one : (n : ℕ) → ((numbered : Bool) → One n (tail_form numbered)) → One n references.behind_form
behind_one n tails = one_from n references.behind_form (λ a b isa isb ea eb. absurd (behind_filled a ea)) (λ a b tok m isa isb ea eb. absurd (behind_filled a ea)) (λ a tok m isa e. behind_at n tails a tok m e)

tail_empty : (ns : List (Next Comma NumberTree)) (rs : List (Next Comma ReferenceTree)) → spell_tail (ns, rs) ≡ [] → references.SameTail (ns, rs) ([], [])
tail_empty [] [] e = refl
tail_empty [] (r ∷ rs) e = cc
tail_empty (n ∷ ns) rs e = cc

tail_goes : (x : Tail) (tok : MarkedToken) (m : List MarkedToken) → spell_tail x ≡ tok ∷ m → tokens_of goes_on_references tok ≡ true
tail_goes x tok m e = let c = references.tail_first x.0 x.1 tok m e in ap (λ t. tokens_of goes_on_references t) (sym c.1) ∙ references.comma_goes c.0

tail_at : (n : ℕ) → ((numbered : Bool) → One n (tail_form numbered)) → (numbered : Bool) (x : Tail) (tok : MarkedToken) (m : List MarkedToken) → spell_tail x ≡ tok ∷ m → OneAt (suc n) (tail_form numbered) tok
tail_at n tails true x tok m e =
    let c = references.tail_first x.0 x.1 tok m e in
    at_token (suc n) (tail_form true) (comma_token c.0) tok c.1 (at_by n (tail_form true) (comma_token c.0) references.behind_form (references.with_comma c.0) 0 (references.by_comma c.0) (behind_one n tails))
tail_at n tails false x tok m e =
    let c = references.tail_first x.0 x.1 tok m e in
    at_token (suc n) (tail_form false) (comma_token c.0) tok c.1 (at_by n (tail_form false) (comma_token c.0) references_form (references.to_references c.0) 0 (references.by_label_comma c.0) (references_with n tails))

tail_one : (n : ℕ) (numbered : Bool) → One n (tail_form numbered)
tail_one zero numbered = one_zero (tail_form numbered)
tail_one (suc n) numbered = one_from (suc n) (tail_form numbered) (λ a b isa isb ea eb. tail_empty a.0 a.1 ea ∙ sym (tail_empty b.0 b.1 eb)) (λ a b tok m isa isb ea eb. tail_goes b tok m eb) (λ a tok m isa e. tail_at n (tail_one n) numbered a tok m e)

pub references_one : (n : ℕ) → One n references_form
references_one n = references_with n (tail_one n)

-- references to schemes, and their premises
scheme_number_one : (n : ℕ) → One n scheme_number
scheme_number_one n = one_then n n (keyword keywords.Sch) (λ _. numeral_form) (apart_closed (keyword keywords.Sch) (λ _. numeral_form) (λ a t. refl)) (keys n keywords.Sch refl) (λ a. numerals n) (λ a l isa h. omega (arith, h))

scheme_one : (n : ℕ) → One n scheme_form
scheme_one n = one_as n scheme_form references.scheme_parts references.make_scheme references.only_scheme (λ s is. (references.as_scheme []).spells s is) (λ s t is g. (references.as_scheme []).goes s t is g)
    (one_then n n (name signs.Identifier) (part_form scheme_number) (apart_closed (name signs.Identifier) (part_form scheme_number) (λ a t. refl)) (names n) (λ w. part_one scheme_number scheme_number_one w n) (λ a l isa h. omega (arith, h)))

premises_one : (n : ℕ) → One n premises_form
premises_one n = one_as n premises_form simple.parts_of_premises simple.make_premises simple.only_premises (λ s is. refl) (λ s t is g. simple.goes_premises s t g)
    (one_then n n (nested (word signs.Open)) (λ _. simple.to_right) (apart_closed (nested (word signs.Open)) (λ _. simple.to_right) (λ a t. refl)) (one_nested n (word signs.Open) (words n signs.Open refl))
    (λ a. one_then n n (nested references_form) (λ _. word signs.Close) simple.references_close (one_nested n references_form (references_one n)) (λ b. words n signs.Close refl) (λ b l isb h. omega (arith, h))) (λ a l isa h. omega (arith, h)))

from_one : (n : ℕ) → One n simple.behind_from
from_one n = one_then n n scheme_form (λ _. maybe_premises) simple.scheme_apart (scheme_one n) (λ a. one_maybe premises_form (tokens_of opens_premises) simple.starts_premises n (premises_one n)) (λ a l isa h. omega (arith, h))

-- justifications
simple_empty : (x : SimpleTree) → spell_simple x ≡ [] → x ≡ simple_tree.Nothing
simple_empty simple_tree.Nothing e = refl
simple_empty (simple_tree.By p s) e = cc
simple_empty (simple_tree.From p s o) e = cc

simple_goes : (x : SimpleTree) (tok : MarkedToken) (m : List MarkedToken) → spell_simple x ≡ tok ∷ m → tokens_of goes_on_simple tok ≡ true
simple_goes simple_tree.Nothing tok m e = cc
simple_goes (simple_tree.By p s) tok m e = sym (ap (λ t. tokens_of goes_on_simple t) (head_of _ _ _ _ e)) ∙ key_among goes_on_simple keywords.By p refl
simple_goes (simple_tree.From p s o) tok m e = sym (ap (λ t. tokens_of goes_on_simple t) (head_of _ _ _ _ e)) ∙ key_among goes_on_simple keywords.From p refl

simple_at : (n : ℕ) (x : SimpleTree) (tok : MarkedToken) (m : List MarkedToken) → spell_simple x ≡ tok ∷ m → OneAt (suc n) simple_form tok
simple_at n simple_tree.Nothing tok m e = cc
simple_at n (simple_tree.By p s) tok m e = at_token (suc n) simple_form (key keywords.By p) tok (head_of _ _ _ _ e) (at_by n simple_form (key keywords.By p) references_form (λ k. simple_tree.By p k) 0 (simple.by_by p) (references_one n))
simple_at n (simple_tree.From p s o) tok m e = at_token (suc n) simple_form (key keywords.From p) tok (head_of _ _ _ _ e) (at_by n simple_form (key keywords.From p) simple.behind_from (simple.make_from p) 0 (simple.by_from p) (from_one n))

pub simple_one : (n : ℕ) → One n simple_form
simple_one zero = one_zero simple_form
simple_one (suc n) = one_from (suc n) simple_form (λ a b isa isb ea eb. simple_empty a ea ∙ sym (simple_empty b eb)) (λ a b tok m isa isb ea eb. simple_goes b tok m eb) (λ a tok m isa e. simple_at n a tok m e)

pub one_simple : OneTree simple_form
one_simple = one_tree simple_form simple_one
