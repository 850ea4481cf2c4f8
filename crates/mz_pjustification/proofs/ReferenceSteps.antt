-- The readings of references.
use Rattle.std.specs.List.{flat_map}
use Rattle.std.proofs.Common.{◌≡◌, ℕ, ◌+◌, ◌<◌, ◌≤◌, arith, length, length-append, append_assoc, Bool, true, false, List, [], ◌∷◌, ◌++◌, refl, sym, ap, subst, ◌∙◌, Option, Some, None}
use Rattle.std.proofs.lemmas.Bool.{or_right}
use Rattle.mz_base.specs.declared.place.Place.{Place}
use Rattle.mz_base.specs.declared.token.MarkedToken.{MarkedToken}
use Rattle.mz_base.specs.Name.{is_name}
use Rattle.mz_forms.specs.declared.refusal.Refusal.{Refusal}
use Rattle.mz_forms.specs.Form.{Form, Agrees, Found, Leads, is_empty, each_append, then}
use Rattle.mz_forms.specs.Reading.{Refuses}
use Rattle.mz_forms.proofs.Choose.{Chooses, Reshapes, finds_empty}
use Rattle.mz_forms.proofs.Compose.{Apart, head_of}
use Rattle.mz_forms.proofs.Leads.{leads_by, leads_as, leads_behind, leads_on, leads_here, leads_same, beside, apart_closed, passes, first_refuses}
use Rattle.mz_forms.proofs.Lists.{either}
use Rattle.mz_forms.proofs.Words.{behind_word, first_word_refuses, word_in_any, word_refuses}
use Rattle.mz_tree.specs.declared.word.Word.{Word}
use Rattle.mz_tree.specs.declared.word.Comma.{Comma}
use Rattle.mz_tree.specs.declared.chain.Next.{Next}
use Rattle.mz_tree.specs.declared.lists.Separated.{Separated}
use Rattle.mz_tree.specs.Spelled.{numeral, comma_token}
use Rattle.mz_tree.specs.Lists.{spell_next, spell_separated, levels_next, levels_separated, each_separated, IsNext, AreSeparated}
use Rattle.mz_tree.specs.Rules.{Every}
use Rattle.mz_tree_proof.specs.declared.references.NumberTree.{NumberTree}
use Rattle.mz_tree_proof.specs.declared.references.NumberTree.TheVariants as number_tree
use Rattle.mz_tree_proof.specs.declared.references.ReferenceTree.{ReferenceTree}
use Rattle.mz_tree_proof.specs.declared.references.ReferenceTree.TheVariants as reference_tree
use Rattle.mz_tree_proof.specs.declared.references.SchemeReferenceTree.{SchemeReferenceTree}
use Rattle.mz_tree_proof.specs.declared.references.SchemeReferenceTree.TheVariants as scheme_reference_tree
use Rattle.mz_tree_proof.specs.Spell.{spell_number, spell_reference, spell_scheme_reference}
use Rattle.mz_tree_proof.specs.Levels.{levels_number, levels_reference, levels_scheme_reference}
use Rattle.mz_tree_proof.specs.EachLevel.{each_number, each_reference}
use Rattle.mz_tree_proof.specs.Rules.{IsReference, IsSchemeReference}
use Rattle.mz_pterm.specs.declared.sign.Sign.{Sign}
use Rattle.mz_pterm.specs.declared.sign.Sign.TheVariants as signs
use Rattle.mz_pterm.specs.Words.{named, name}
use Rattle.mz_pterm.proofs.Bases.{word_at}
use Rattle.mz_ptype.specs.Forms.{is_comma, TakesComma}
use Rattle.mz_ptype.proofs.DeclarationSteps.{comma_kind, comma_told}
use Rattle.mz_ptype.proofs.Optional.{never, true_not_false}
use Rattle.mz_pjustification.specs.declared.keyword.Keyword.{Keyword}
use Rattle.mz_pjustification.specs.declared.keyword.Keyword.TheVariants as keywords
use Rattle.mz_pjustification.specs.Keyword.{keyword_of}
use Rattle.mz_pjustification.specs.Words.{key, keyword, numeral_form, tokens_of, next_among, TakesKey}
use Rattle.mz_pjustification.specs.Forms.{is_colon, number_form, begins_number, spell_part, part_form, head_form, Tail, spell_tail, levels_tail, each_tail, MayNumber, IsTail, goes_on_references, tail_form, references_form, reference_from, references_from, is_numbered, behind, scheme_number, scheme_form, scheme_from, NumbersRead, ReferencesRead}
use Rattle.mz_pjustification.proofs.Keywords.{keyword_of-key, keyword_of-numeral, same_key}
use Rattle.mz_pjustification.proofs.Taken.{nowhere, key_among, numeral_among, tokens_of-identifier_among, comma_among, first_only}

-- Sets of tokens.
pub begun_next : (c : Sign → Keyword → Bool) (b : List MarkedToken) (s : MarkedToken) (w : List MarkedToken) → Agrees b (s ∷ w) → next_among c b ≡ true → tokens_of c s ≡ true
begun_next c [] s w g h = absurd g
begun_next c (t ∷ b) s w g h = let C : MarkedToken → Type 0 = λ z. tokens_of c z ≡ true in subst C (sym g) h

pub unbegun_next : (c : Sign → Keyword → Bool) (b : List MarkedToken) (s : MarkedToken) (w : List MarkedToken) → Agrees b (s ∷ w) → next_among c b ≡ false → tokens_of c s ≡ true → ⊥
unbegun_next c [] s w g h e = absurd g
unbegun_next c (t ∷ b) s w g h e = let C : MarkedToken → Type 0 = λ z. tokens_of c z ≡ true in true_not_false (tokens_of c t) h (subst C g e)

agrees_with : (b v w : List MarkedToken) → v ≡ w → Agrees b v → Agrees b w
agrees_with b v w e g = let A : List MarkedToken → Type 0 = λ z. Agrees b z in subst A e g

-- Numbers.
pub number_filled : (x : NumberTree) → spell_number x ≡ [] → ⊥
number_filled (number_tree.Theorem w) e = cc
number_filled (number_tree.Definition p w) e = cc

pub number_first : (x : NumberTree) → (t : MarkedToken) × (m : List MarkedToken) × (spell_number x ≡ t ∷ m) × (tokens_of begins_number t ≡ true)
number_first (number_tree.Theorem w) = (numeral w, [], refl, numeral_among begins_number w)
number_first (number_tree.Definition p w) = (key keywords.Def p, numeral w ∷ [], refl, key_among begins_number keywords.Def p refl)

only_definition : (p : Place) (x : NumberTree) (m : List MarkedToken) → spell_number x ≡ key keywords.Def p ∷ m → (k : Word) × Unit {0} × (x ≡ number_tree.Definition p k)
only_definition p (number_tree.Theorem w) m e = absurd (clash (sym (keyword_of-numeral w) ∙ (ap keyword_of (head_of _ _ _ _ e) ∙ keyword_of-key keywords.Def p refl)))
  where
    clash : keywords.Numeral ≡ keywords.Def → ⊥
    clash g = cc
only_definition p (number_tree.Definition q w) m e = (w, tt, ap (λ z. number_tree.Definition z w) (same_key keywords.Def refl q p (head_of _ _ _ _ e)))

pub by_definition : (p : Place) → Chooses number_form (key keywords.Def p) numeral_form (λ n. number_tree.Definition p n) 0
by_definition p = record {
  level = λ k is. refl;
  into = λ k is. tt;
  spells = λ k is. refl;
  only = λ x m is e. only_definition p x m e;
  empty = λ x is e. absurd (number_filled x e);
  goes = λ k t is g. g;
}

only_theorem : (b : List MarkedToken) → ((p : Place) → Agrees b (key keywords.Def p ∷ []) → ⊥) → (x : NumberTree) → Agrees b (spell_number x) → (k : Word) × Unit {0} × (x ≡ number_tree.Theorem k)
only_theorem b h (number_tree.Theorem w) g = (w, tt, refl)
only_theorem b h (number_tree.Definition p w) g = absurd (h p (first_only b (key keywords.Def p) (numeral w ∷ []) g))

pub as_theorem : (b : List MarkedToken) → ((p : Place) → Agrees b (key keywords.Def p ∷ []) → ⊥) → Reshapes number_form numeral_form (λ n. number_tree.Theorem n) b
as_theorem b h = record {
  into = λ k is. tt;
  spells = λ k is. refl;
  only = λ x is g. only_theorem b h x g;
  goes = λ k t is g. g;
  level = λ k is. refl;
}

pub definition_refused : (room : ℕ) (p : Place) (b d after : List MarkedToken) (e : Refusal) → b ≡ key keywords.Def p ∷ d → Refuses numeral_form 0 d e after → Refuses number_form room b e after
definition_refused room p b d after e f h = passes number_form numeral_form room (λ n. number_tree.Definition p n) b d after e
    (leads_by number_form (key keywords.Def p) numeral_form (λ n. number_tree.Definition p n) 0 (by_definition p) room (omega arith) b d f) (word_refuses Word numeral room d after e h)

pub definition_found : (room : ℕ) (p : Place) (w : Word) (b d after : List MarkedToken) → b ≡ key keywords.Def p ∷ d → Found numeral_form 0 d w after → Found number_form room b (number_tree.Definition p w) after
definition_found room p w b d after f h =
    (leads_by number_form (key keywords.Def p) numeral_form (λ n. number_tree.Definition p n) 0 (by_definition p) room (omega arith) b d f).finds w after (word_in_any Word numeral room d after w h)

begin_theorem : (room : ℕ) (b : List MarkedToken) → ((p : Place) → Agrees b (key keywords.Def p ∷ []) → ⊥) → Leads number_form numeral_form room (λ n. number_tree.Theorem n) b b
begin_theorem room b h = leads_as number_form numeral_form (λ n. number_tree.Theorem n) room b (as_theorem b h)

pub theorem_refused : (room : ℕ) (b d after : List MarkedToken) (e : Refusal) → TakesKey keywords.Def b None d → Refuses numeral_form 0 d e after → Refuses number_form room b e after
theorem_refused room b d after e n h =
    let R : List MarkedToken → Type 0 = λ z. Refuses numeral_form room z e after in
    passes number_form numeral_form room (λ n. number_tree.Theorem n) b b after e (begin_theorem room b n.1) (subst R (sym n.0) (word_refuses Word numeral room d after e h))

pub theorem_found : (room : ℕ) (w : Word) (b d after : List MarkedToken) → TakesKey keywords.Def b None d → Found numeral_form 0 d w after → Found number_form room b (number_tree.Theorem w) after
theorem_found room w b d after n h =
    let F : List MarkedToken → Type 0 = λ z. Found numeral_form room z w after in
    (begin_theorem room b n.1).finds w after (subst F (sym n.0) (word_in_any Word numeral room d after w h))

-- What stands behind a word that may be a name.
module _ (K : Form MarkedToken) (w : Word) where
  only_colon : (p : Place) (x : Option (Place × K.Tree)) (m : List MarkedToken) → (part_form K w).IsTree x → spell_part K x ≡ key keywords.Colon p ∷ m → (k : K.Tree) × K.IsTree k × (x ≡ Some (p, k))
  only_colon p None m is e = cc
  only_colon p (Some x) m is e = (x.1, is.1, ap (λ z. Some (z, x.1)) (same_key keywords.Colon refl x.0 p (head_of _ _ _ _ e)))

  colon_goes : (p : Place) (x : Option (Place × K.Tree)) → spell_part K x ≡ [] → (part_form K w).goes x (key keywords.Colon p) ≡ true
  colon_goes p None e = key_among (λ s k. is_colon k) keywords.Colon p refl
  colon_goes p (Some x) e = cc

  pub by_colon : (p : Place) → is_name w.spelling ≡ true → Chooses (part_form K w) (key keywords.Colon p) K (λ k. Some (p, k)) 0
  by_colon p on = record {
    level = λ k is. refl;
    into = λ k is. (on, is);
    spells = λ k is. refl;
    only = λ x m is e. only_colon p x m is e;
    empty = λ x is e. colon_goes p x e;
    goes = λ k t is g. g;
  }

  pub colon_taken : (room : ℕ) (p : Place) (b d : List MarkedToken) → is_name w.spelling ≡ true → b ≡ key keywords.Colon p ∷ d → Leads (part_form K w) K room (λ k. Some (p, k)) b d
  colon_taken room p b d on e = leads_by (part_form K w) (key keywords.Colon p) K (λ k. Some (p, k)) 0 (by_colon p on) room (omega arith) b d e

  nothing_behind : (b : List MarkedToken) → ((x : Place × K.Tree) → (part_form K w).IsTree (Some x) → Agrees b (spell_part K (Some x)) → ⊥) → (x : Option (Place × K.Tree)) → (part_form K w).IsTree x → Agrees b (spell_part K x) → x ≡ None
  nothing_behind b h None is g = refl
  nothing_behind b h (Some x) is g = absurd (h x is g)

  part_lacks : (room : ℕ) (b : List MarkedToken) → ((x : Place × K.Tree) → (part_form K w).IsTree (Some x) → Agrees b (spell_part K (Some x)) → ⊥) → Found (part_form K w) room b None b
  part_lacks room b h = record { found = finds_empty (part_form K w) None b tt refl (λ x is g. nothing_behind b h x is g); fits = λ i l. absurd (omega (arith, l)) }

  pub no_colon : (room : ℕ) (b after : List MarkedToken) → TakesKey keywords.Colon b None after → Found (part_form K w) room b None after
  no_colon room b after h =
      let F : List MarkedToken → Type 0 = λ z. Found (part_form K w) room b None z in
      subst F h.0 (part_lacks room b (λ x is g. h.1 x.0 (first_only b (key keywords.Colon x.0) (K.spell x.1) g)))

  pub no_name : (room : ℕ) (b : List MarkedToken) → is_name w.spelling ≡ false → Found (part_form K w) room b None b
  no_name room b off = part_lacks room b (λ x is g. true_not_false (is_name w.spelling) off is.0)

-- What a reference begins with.
pub head_refused : (room : ℕ) (b after : List MarkedToken) (e : Refusal) → Refuses (name signs.Identifier) 0 b e after → Refuses head_form room b e after
head_refused room b after e h = first_word_refuses Word (named signs.Identifier) (part_form number_form) (λ w. (None, tt)) room b after e h

pub head_found : (room : ℕ) (w : Word) (o : Option (Place × NumberTree)) (b c after : List MarkedToken) → Found (name signs.Identifier) 0 b w c → Found (part_form number_form w) room c o after → Found head_form room b (w, o) after
head_found room w o b c after h f = (behind_word Word (named signs.Identifier) (part_form number_form) room b c w h).finds o after f

pub head_no_name : (room : ℕ) (w : Word) (b c : List MarkedToken) → Found (name signs.Identifier) 0 b w c → is_name w.spelling ≡ false → Found head_form room b (w, None) c
head_no_name room w b c h off = head_found room w None b c c h (no_name number_form w room c off)

pub head_no_colon : (room : ℕ) (w : Word) (b c after : List MarkedToken) → Found (name signs.Identifier) 0 b w c → TakesKey keywords.Colon c None after → Found head_form room b (w, None) after
head_no_colon room w b c after h none = head_found room w None b c after h (no_colon number_form w room c after none)

pub head_number_refused : (room : ℕ) (w : Word) (p : Place) (b c d after : List MarkedToken) (e : Refusal) → Found (name signs.Identifier) 0 b w c → is_name w.spelling ≡ true → c ≡ key keywords.Colon p ∷ d → Refuses number_form room d e after → Refuses head_form room b e after
head_number_refused room w p b c d after e h on f g = passes head_form (part_form number_form w) room _ b c after e (behind_word Word (named signs.Identifier) (part_form number_form) room b c w h)
    (passes (part_form number_form w) number_form room (λ k. Some (p, k)) c d after e (colon_taken number_form w room p c d on f) g)

pub head_numbered : (room : ℕ) (w : Word) (p : Place) (n : NumberTree) (b c d after : List MarkedToken) → Found (name signs.Identifier) 0 b w c → is_name w.spelling ≡ true → c ≡ key keywords.Colon p ∷ d → Found number_form room d n after → Found head_form room b (w, Some (p, n)) after
head_numbered room w p n b c d after h on f g = head_found room w (Some (p, n)) b c after h ((colon_taken number_form w room p c d on f).finds n after g)

-- What stands behind a comma behind a number: a further number, or references.
pub data Behind : Type 0 where
  number_behind : NumberTree → Tail → Behind
  references_behind : Separated ReferenceTree → Behind

abbrev pub spell_behind : Behind → List MarkedToken
spell_behind (number_behind n k) = spell_number n ++ spell_tail k
spell_behind (references_behind s) = spell_separated spell_reference s

abbrev pub levels_behind : Behind → List ℕ
levels_behind (number_behind n k) = levels_number n ++ levels_tail k
levels_behind (references_behind s) = levels_separated levels_reference s

pub each_behind : (x : Behind) → length (levels_behind x) ≡ length (spell_behind x)
each_behind (number_behind n k) = each_append (levels_number n) (levels_tail k) (spell_number n) (spell_tail k) (each_number n) (each_tail k)
each_behind (references_behind s) = each_separated levels_reference spell_reference each_reference s

abbrev pub IsBehind : Behind → Type 0
IsBehind (number_behind n k) = IsTail true k
IsBehind (references_behind s) = AreSeparated IsReference s

abbrev pub behind_form : Form MarkedToken
behind_form = record { Tree = Behind; spell = spell_behind; levels = levels_behind; each = each_behind; IsTree = IsBehind; goes = λ _ t. tokens_of goes_on_references t }

abbrev pub next : {X : Type 0} → Comma → X → Next Comma X
next c x = record { sign = c; tree = x }

abbrev pub to_references : Comma → Separated ReferenceTree → Tail
to_references c s = ([], next c s.first ∷ s.more)

abbrev pub with_comma : Comma → Behind → Tail
with_comma c (number_behind n k) = (next c n ∷ k.0, k.1)
with_comma c (references_behind s) = to_references c s

comma_on : (d : Bool) → goes_on_references (comma_kind d) keywords.Other ≡ true
comma_on true = refl
comma_on false = refl

pub comma_goes : (c : Comma) → tokens_of goes_on_references (comma_token c) ≡ true
comma_goes c = comma_among goes_on_references c ∙ comma_on c.dividing

with_spells : (c : Comma) (x : Behind) → spell_tail (with_comma c x) ≡ comma_token c ∷ spell_behind x
with_spells c (number_behind n k) = ap (λ z. comma_token c ∷ z) (append_assoc (spell_number n) (flat_map (spell_next spell_number) k.0) (flat_map (spell_next spell_reference) k.1))
with_spells c (references_behind s) = refl

with_levels : (c : Comma) (x : Behind) → levels_tail (with_comma c x) ≡ 0 ∷ levels_behind x
with_levels c (number_behind n k) = ap (λ z. 0 ∷ z) (append_assoc (levels_number n) (flat_map (levels_next levels_number) k.0) (flat_map (levels_next levels_reference) k.1))
with_levels c (references_behind s) = refl

with_into : (c : Comma) (x : Behind) → IsBehind x → IsTail true (with_comma c x)
with_into c (number_behind n k) is = (refl, is.1)
with_into c (references_behind s) is = (tt, (is.0, is.1))

may_number : (ns : List (Next Comma NumberTree)) → MayNumber true ns
may_number [] = tt
may_number (n ∷ ns) = refl

only_behind : (c : Comma) (ns : List (Next Comma NumberTree)) (rs : List (Next Comma ReferenceTree)) (m : List MarkedToken) → IsTail true (ns, rs) → spell_tail (ns, rs) ≡ comma_token c ∷ m → (k : Behind) × IsBehind k × ((ns, rs) ≡ with_comma c k)
only_behind c [] [] m is e = cc
only_behind c [] (r ∷ rs) m is e = (references_behind (record { first = r.tree; more = rs }), (is.1.0, is.1.1), ap (λ z. ([], next z r.tree ∷ rs)) (comma_told r.sign c (head_of _ _ _ _ e)))
only_behind c (n ∷ ns) rs m is e = (number_behind n.tree (ns, rs), (may_number ns, is.1), ap (λ z. (next z n.tree ∷ ns, rs)) (comma_told n.sign c (head_of _ _ _ _ e)))

pub by_comma : (c : Comma) → Chooses (tail_form true) (comma_token c) behind_form (with_comma c) 0
by_comma c = record {
  level = λ k is. with_levels c k;
  into = λ k is. with_into c k is;
  spells = λ k is. with_spells c k;
  only = λ x m is e. only_behind c x.0 x.1 m is e;
  empty = λ x is e. comma_goes c;
  goes = λ k t is g. g;
}

-- behind a label only references follow
only_references : (c : Comma) (ns : List (Next Comma NumberTree)) (rs : List (Next Comma ReferenceTree)) (m : List MarkedToken) → IsTail false (ns, rs) → spell_tail (ns, rs) ≡ comma_token c ∷ m → (k : Separated ReferenceTree) × AreSeparated IsReference k × ((ns, rs) ≡ to_references c k)
only_references c [] [] m is e = cc
only_references c [] (r ∷ rs) m is e = (record { first = r.tree; more = rs }, (is.1.0, is.1.1), ap (λ z. ([], next z r.tree ∷ rs)) (comma_told r.sign c (head_of _ _ _ _ e)))
only_references c (n ∷ ns) rs m is e = absurd (never is.0)

pub by_label_comma : (c : Comma) → Chooses (tail_form false) (comma_token c) references_form (to_references c) 0
by_label_comma c = record {
  level = λ k is. refl;
  into = λ k is. (tt, (is.0, is.1));
  spells = λ k is. refl;
  only = λ x m is e. only_references c x.0 x.1 m is e;
  empty = λ x is e. comma_goes c;
  goes = λ k t is g. g;
}

-- Which of both follows is told by the next token.
abbrev pub number_and_tail : Form MarkedToken
number_and_tail = then number_form (λ _. tail_form true)

abbrev pub make_number : number_and_tail.Tree → Behind
make_number k = number_behind k.0 k.1

pub number_apart : Apart number_form (λ _. tail_form true)
number_apart = apart_closed number_form (λ _. tail_form true) (λ a t. refl)

reference_first : (r : ReferenceTree) → (w : Word) × (m : List MarkedToken) × (spell_reference r ≡ named signs.Identifier w ∷ m)
reference_first (reference_tree.Label w) = (w, [], refl)
reference_first (reference_tree.Numbered w p ns) = (w, key keywords.Colon p ∷ spell_separated spell_number ns, refl)

pub references_first : (s : Separated ReferenceTree) → (w : Word) × (m : List MarkedToken) × (spell_separated spell_reference s ≡ named signs.Identifier w ∷ m)
references_first s = let k = reference_first s.first in (k.0, k.1 ++ flat_map (spell_next spell_reference) s.more, ap (λ z. z ++ flat_map (spell_next spell_reference) s.more) k.2)

pub references_filled : (s : Separated ReferenceTree) → spell_separated spell_reference s ≡ [] → ⊥
references_filled s e = none (sym (references_first s).2 ∙ e)
  where
    none : named signs.Identifier (references_first s).0 ∷ (references_first s).1 ≡ [] → ⊥
    none f = cc

identifier_off : (w : Word) → tokens_of begins_number (named signs.Identifier w) ≡ true → ⊥
identifier_off w g = never (sym (tokens_of-identifier_among begins_number w) ∙ g)

only_number : (b : List MarkedToken) → next_among begins_number b ≡ true → (x : Behind) → IsBehind x → Agrees b (spell_behind x) → (k : number_and_tail.Tree) × number_and_tail.IsTree k × (x ≡ make_number k)
only_number b h (number_behind n k) is g = ((n, k), (tt, is), refl)
only_number b h (references_behind s) is g =
    let f = references_first s in
    absurd (identifier_off f.0 (begun_next begins_number b (named signs.Identifier f.0) f.1 (agrees_with b _ _ f.2 g) h))

goes_number : (n : NumberTree) (k : Tail) (t : MarkedToken) → number_and_tail.goes (n, k) t ≡ true → tokens_of goes_on_references t ≡ true
goes_number n k t g = either (tokens_of goes_on_references t) false (is_empty (spell_tail k)) (λ h. absurd (never h)) g

pub as_number : (b : List MarkedToken) → next_among begins_number b ≡ true → Reshapes behind_form number_and_tail make_number b
as_number b h = record {
  into = λ k is. is.1;
  spells = λ k is. refl;
  only = λ x is g. only_number b h x is g;
  goes = λ k t is g. goes_number k.0 k.1 t g;
  level = λ k is. refl;
}

only_further : (b : List MarkedToken) → next_among begins_number b ≡ false → (x : Behind) → IsBehind x → Agrees b (spell_behind x) → (k : Separated ReferenceTree) × AreSeparated IsReference k × (x ≡ references_behind k)
only_further b h (number_behind n k) is g =
    let f = number_first n in
    absurd (unbegun_next begins_number b f.0 (f.1 ++ spell_tail k) (agrees_with b (spell_number n ++ spell_tail k) (f.0 ∷ (f.1 ++ spell_tail k)) (ap (λ z. z ++ spell_tail k) f.2) g) h f.3)
only_further b h (references_behind s) is g = (s, is, refl)

pub as_further : (b : List MarkedToken) → next_among begins_number b ≡ false → Reshapes behind_form references_form references_behind b
as_further b h = record {
  into = λ k is. is;
  spells = λ k is. refl;
  only = λ x is g. only_further b h x is g;
  goes = λ k t is g. g;
  level = λ k is. refl;
}

-- The loop over numbers: from what was read to what is left of them.
abbrev pub NumbersSoFar : ℕ → List (Next Comma NumberTree) → List MarkedToken → List MarkedToken → Type 0
NumbersSoFar room ns b c = Leads (tail_form true) (tail_form true) room (λ k. (ns ++ k.0, k.1)) b c

pub numbers_none : (room : ℕ) (ns : List (Next Comma NumberTree)) (b : List MarkedToken) → ns ≡ [] → NumbersSoFar room ns b b
numbers_none room ns b e =
    let N : List (Next Comma NumberTree) → Type 0 = λ z. NumbersSoFar room z b b in
    subst N (sym e) (leads_same (tail_form true) (tail_form true) room (λ k. k) (λ k. ([] ++ k.0, k.1)) b b (λ k. refl) (leads_here (tail_form true) room b))

begin_behind : (room : ℕ) (c : Comma) (d e : List MarkedToken) → TakesComma false d (Some c) e → Leads (tail_form true) behind_form room (with_comma c) d e
begin_behind room c d e taken = leads_by (tail_form true) (comma_token c) behind_form (with_comma c) 0 (by_comma c) room (omega arith) d e taken.0

begin_number : (room : ℕ) (e : List MarkedToken) → next_among begins_number e ≡ true → Leads behind_form number_and_tail room make_number e e
begin_number room e h = leads_as behind_form number_and_tail make_number room e (as_number e h)

more_number : (room : ℕ) (c : Comma) (n : NumberTree) (d e g : List MarkedToken) → TakesComma false d (Some c) e → next_among begins_number e ≡ true → Found number_form room e n g → Leads (tail_form true) (tail_form true) room (λ k. (next c n ∷ k.0, k.1)) d g
more_number room c n d e g taken h found = leads_on (tail_form true) behind_form (tail_form true) room (with_comma c) (number_behind n) d e g (begin_behind room c d e taken)
    (leads_on behind_form number_and_tail (tail_form true) room make_number (beside number_form (λ _. tail_form true) n) e e g (begin_number room e h) (leads_behind number_form (λ _. tail_form true) number_apart room e g n found))

pub numbers_step : (room : ℕ) (ns ms : List (Next Comma NumberTree)) (c : Comma) (n : NumberTree) (b d e g : List MarkedToken) → NumbersSoFar room ns b d → TakesComma false d (Some c) e → next_among begins_number e ≡ true → Found number_form room e n g → ms ≡ ns ++ next c n ∷ [] → NumbersSoFar room ms b g
numbers_step room ns ms c n b d e g so_far taken h found grown =
    let N : List (Next Comma NumberTree) → Type 0 = λ z. NumbersSoFar room z b g in
    subst N (sym grown) (leads_same (tail_form true) (tail_form true) room (λ k. (ns ++ next c n ∷ k.0, k.1)) (λ k. ((ns ++ next c n ∷ []) ++ k.0, k.1)) b g
    (λ k. ap (λ z. (z, k.1)) (sym (append_assoc ns (next c n ∷ []) k.0)))
    (leads_on (tail_form true) (tail_form true) (tail_form true) room (λ k. (ns ++ k.0, k.1)) (λ k. (next c n ∷ k.0, k.1)) b d g so_far (more_number room c n d e g taken h found)))

pub numbers_refused : (room : ℕ) (ns : List (Next Comma NumberTree)) (c : Comma) (b d e after : List MarkedToken) (r : Refusal) → NumbersSoFar room ns b d → TakesComma false d (Some c) e → next_among begins_number e ≡ true → Refuses number_form room e r after → Refuses (tail_form true) room b r after
numbers_refused room ns c b d e after r so_far taken h refused = passes (tail_form true) (tail_form true) room (λ k. (ns ++ k.0, k.1)) b d after r so_far
    (passes (tail_form true) behind_form room (with_comma c) d e after r (begin_behind room c d e taken)
    (passes behind_form number_and_tail room make_number e e after r (begin_number room e h)
    (first_refuses number_form (λ _. tail_form true) number_apart room e after r (λ a is. (([], []), (tt, tt))) refused)))

append-nil : {X : Type 0} (xs : List X) → xs ++ [] ≡ xs
append-nil [] = refl
append-nil (x ∷ xs) = ap (λ z. x ∷ z) (append-nil xs)

pub numbers_to_references : (room : ℕ) (ns : List (Next Comma NumberTree)) (c : Comma) (b d e : List MarkedToken) → NumbersSoFar room ns b d → TakesComma false d (Some c) e → next_among begins_number e ≡ false → NumbersRead room ns (Some c) b e
numbers_to_references room ns c b d e so_far taken h =
    leads_same (tail_form true) references_form room (λ s. (ns ++ [], next c s.first ∷ s.more)) (λ s. (ns, next c s.first ∷ s.more)) b e (λ s. ap (λ z. (z, next c s.first ∷ s.more)) (append-nil ns))
    (leads_on (tail_form true) (tail_form true) references_form room (λ k. (ns ++ k.0, k.1)) (to_references c) b d e so_far
    (leads_on (tail_form true) behind_form references_form room (with_comma c) references_behind d e e (begin_behind room c d e taken) (leads_as behind_form references_form references_behind room e (as_further e h))))

abbrev pub SameTail : Tail → Tail → Type 0
SameTail a b = a ≡ b

-- nothing goes on where no comma comes
tail_ends : (numbered : Bool) (room : ℕ) (b after : List MarkedToken) → TakesComma false b None after → Found (tail_form numbered) room b ([], []) after
tail_ends numbered room b after h =
    let F : List MarkedToken → Type 0 = λ z. Found (tail_form numbered) room b ([], []) z in
    subst F h.0 (record { found = finds_empty (tail_form numbered) ([], []) b (tt, tt) refl (λ x is g. only x.0 x.1 g); fits = λ i l. absurd (omega (arith, l)) })
  where
    only : (ns : List (Next Comma NumberTree)) (rs : List (Next Comma ReferenceTree)) → Agrees b (spell_tail (ns, rs)) → SameTail (ns, rs) ([], [])
    only [] [] g = refl
    only [] (r ∷ rs) g = absurd (h.1 r.sign tt (first_only b (comma_token r.sign) (spell_reference r.tree ++ flat_map (spell_next spell_reference) rs) g))
    only (n ∷ ns) rs g = absurd (h.1 n.sign tt (first_only b (comma_token n.sign) ((spell_number n.tree ++ flat_map (spell_next spell_number) ns) ++ flat_map (spell_next spell_reference) rs) g))

pub numbers_end : (room : ℕ) (ns : List (Next Comma NumberTree)) (b d after : List MarkedToken) → NumbersSoFar room ns b d → TakesComma false d None after → NumbersRead room ns None b after
numbers_end room ns b d after so_far h =
    let F : List (Next Comma NumberTree) → Type 0 = λ z. Found (tail_form true) room b (z, []) after in
    subst F (append-nil ns) (so_far.finds ([], []) after (tail_ends true room d after h))

pub shorter_number : (c : Comma) (n : NumberTree) (d e g : List MarkedToken) → TakesComma false d (Some c) e → Found number_form 0 e n g → length g < length d
shorter_number c n d e g taken h =
    let f : length d ≡ length (comma_token c ∷ e) = ap length taken.0 in
    let k : length e ≡ length (spell_number n ++ g) = ap length h.found.split in
    let i : length (spell_number n ++ g) ≡ length (spell_number n) + length g = length-append (spell_number n) g in
    omega (arith, f, k, i)

-- References are what one begins with, and what goes on it.
abbrev pub behind_head : head_form.Tree → Form MarkedToken
behind_head h = tail_form (is_numbered h.1)

abbrev pub some_references : Form MarkedToken
some_references = then head_form behind_head

abbrev pub make_references : some_references.Tree → Separated ReferenceTree
make_references k = references_from k.0.0 k.0.1 k.1

colon_on : (s : Sign) (k : Keyword) → is_colon k ≡ true → goes_on_references s k ≡ true
colon_on s k e = or_right (is_comma s) (is_colon k) e

no_colon_comma : (c : Comma) → tokens_of (λ s k. is_colon k) (comma_token c) ≡ true → ⊥
no_colon_comma c g = never (sym (comma_among (λ s k. is_colon k) c) ∙ g)

pub tail_first : (ns : List (Next Comma NumberTree)) (rs : List (Next Comma ReferenceTree)) (s : MarkedToken) (x : List MarkedToken) → spell_tail (ns, rs) ≡ s ∷ x → (c : Comma) × (comma_token c ≡ s)
tail_first [] [] s x e = cc
tail_first [] (r ∷ rs) s x e = (r.sign, head_of _ _ _ _ e)
tail_first (n ∷ ns) rs s x e = (n.sign, head_of _ _ _ _ e)

head_goes : (w : Word) (o : Option (Place × NumberTree)) (t : MarkedToken) → head_form.goes (w, o) t ≡ true → tokens_of (λ s k. is_colon k) t ≡ true
head_goes w None t g = either (tokens_of (λ s k. is_colon k) t) false true (λ h. absurd (never h)) g
head_goes w (Some x) t g = absurd (never g)

pub head_apart : Apart head_form behind_head
head_apart h k s x isa isk e g =
    let c = tail_first k.0 k.1 s x e in
    let C : MarkedToken → Type 0 = λ z. tokens_of (λ s k. is_colon k) z ≡ true in
    no_colon_comma c.0 (subst C (sym c.1) (head_goes h.0 h.1 s g))

references_into : (w : Word) (o : Option (Place × NumberTree)) (ns : List (Next Comma NumberTree)) → (part_form number_form w).IsTree o → IsReference (reference_from w o ns)
references_into w None ns is = tt
references_into w (Some x) ns is = is.0

references_spell : (w : Word) (o : Option (Place × NumberTree)) (ns : List (Next Comma NumberTree)) (rs : List (Next Comma ReferenceTree)) → MayNumber (is_numbered o) ns → spell_separated spell_reference (references_from w o (ns, rs)) ≡ some_references.spell ((w, o), (ns, rs))
references_spell w None [] rs is = refl
references_spell w None (n ∷ ns) rs is = absurd (never is)
references_spell w (Some x) ns rs is = ap (λ z. named signs.Identifier w ∷ key keywords.Colon x.0 ∷ z) (append_assoc (spell_number x.1) (flat_map (spell_next spell_number) ns) (flat_map (spell_next spell_reference) rs))

references_levels : (w : Word) (o : Option (Place × NumberTree)) (ns : List (Next Comma NumberTree)) (rs : List (Next Comma ReferenceTree)) → MayNumber (is_numbered o) ns → levels_separated levels_reference (references_from w o (ns, rs)) ≡ some_references.levels ((w, o), (ns, rs))
references_levels w None [] rs is = refl
references_levels w None (n ∷ ns) rs is = absurd (never is)
references_levels w (Some x) ns rs is = ap (λ z. 0 ∷ 0 ∷ z) (append_assoc (levels_number x.1) (flat_map (levels_next levels_number) ns) (flat_map (levels_next levels_reference) rs))

references_goes : (w : Word) (o : Option (Place × NumberTree)) (k : Tail) (t : MarkedToken) → some_references.goes ((w, o), k) t ≡ true → tokens_of goes_on_references t ≡ true
references_goes w o k t g = either (tokens_of goes_on_references t) (head_form.goes (w, o) t) (is_empty (spell_tail k)) (λ h. colon_on _ _ (head_goes w o t h)) g

pub only_parts : (r : ReferenceTree) (rs : List (Next Comma ReferenceTree)) → IsReference r → Every (IsNext IsReference) rs → (k : some_references.Tree) × some_references.IsTree k × (record { first = r; more = rs } ≡ make_references k)
only_parts (reference_tree.Label w) rs is are = (((w, None), ([], rs)), ((tt, tt), (tt, are)), refl)
only_parts (reference_tree.Numbered w p ns) rs is are = (((w, Some (p, ns.first)), (ns.more, rs)), ((tt, (is, tt)), (may_number ns.more, are)), refl)

pub as_references : (b : List MarkedToken) → Reshapes references_form some_references make_references b
as_references b = record {
  into = λ k is. (references_into k.0.0 k.0.1 k.1.0 is.0.1, is.1.1);
  spells = λ k is. references_spell k.0.0 k.0.1 k.1.0 k.1.1 is.1.0;
  only = λ x is g. only_parts x.first x.more is.0 is.1;
  goes = λ k t is g. references_goes k.0.0 k.0.1 k.1 t g;
  level = λ k is. references_levels k.0.0 k.0.1 k.1.0 k.1.1 is.1.0;
}

begin_references : (room : ℕ) (b : List MarkedToken) → Leads references_form some_references room make_references b b
begin_references room b = leads_as references_form some_references make_references room b (as_references b)

pub unbegun : (room : ℕ) (b after : List MarkedToken) (e : Refusal) → Refuses head_form room b e after → Refuses references_form room b e after
unbegun room b after e h = passes references_form some_references room make_references b b after e (begin_references room b)
    (first_refuses head_form behind_head head_apart room b after e (λ a is. (([], []), (tt, tt))) h)

behind_begun : (room : ℕ) (w : Word) (o : Option (Place × NumberTree)) (b c : List MarkedToken) → Found head_form room b (w, o) c → Leads references_form (tail_form (is_numbered o)) room (references_from w o) b c
behind_begun room w o b c h = leads_on references_form some_references (tail_form (is_numbered o)) room make_references (beside head_form behind_head (w, o)) b b c (begin_references room b) (leads_behind head_form behind_head head_apart room b c (w, o) h)

pub label_read : (room : ℕ) (w : Word) (o : Option Comma) (b c after : List MarkedToken) → Found head_form room b (w, None) c → TakesComma false c o after → ReferencesRead room (reference_tree.Label w) [] o b after
label_read room w None b c after h taken = (behind_begun room w None b c h).finds ([], []) after (tail_ends false room c after taken)
label_read room w (Some s) b c after h taken = leads_on references_form (tail_form false) references_form room (references_from w None) (to_references s) b c after (behind_begun room w None b c h)
    (leads_by (tail_form false) (comma_token s) references_form (to_references s) 0 (by_label_comma s) room (omega arith) c after taken.0)

pub numbered_refused : (room : ℕ) (w : Word) (p : Place) (n : NumberTree) (b c after : List MarkedToken) (e : Refusal) → Found head_form room b (w, Some (p, n)) c → Refuses (tail_form true) room c e after → Refuses references_form room b e after
numbered_refused room w p n b c after e h refused = passes references_form (tail_form true) room (references_from w (Some (p, n))) b c after e (behind_begun room w (Some (p, n)) b c h) refused

pub numbered_read : (room : ℕ) (w : Word) (p : Place) (n : NumberTree) (ns : Separated NumberTree) (o : Option Comma) (b c after : List MarkedToken) → Found head_form room b (w, Some (p, n)) c → ns.first ≡ n → NumbersRead room ns.more o c after → ReferencesRead room (reference_tree.Numbered w p ns) [] o b after
numbered_read room w p n ns o b c after h same read =
    let R : NumberTree → Type 0 = λ z. ReferencesRead room (reference_tree.Numbered w p (record { first = z; more = ns.more })) [] o b after in
    subst R (sym same) (go o read)
  where
    go : (o : Option Comma) → NumbersRead room ns.more o c after → ReferencesRead room (reference_tree.Numbered w p (record { first = n; more = ns.more })) [] o b after
    go None f = (behind_begun room w (Some (p, n)) b c h).finds (ns.more, []) after f
    go (Some s) f = leads_on references_form (tail_form true) references_form room (references_from w (Some (p, n))) (λ t. (ns.more, behind [] s t)) b c after (behind_begun room w (Some (p, n)) b c h) f

-- what is left is less behind what a reference begins with
pub shorter_head : (x : head_form.Tree) (b c : List MarkedToken) → Found head_form 0 b x c → length c < length b
shorter_head x b c h =
    let f : length b ≡ length ((named signs.Identifier x.0 ∷ spell_part number_form x.1) ++ c) = ap length h.found.split in
    let i : length ((named signs.Identifier x.0 ∷ spell_part number_form x.1) ++ c) ≡ length (named signs.Identifier x.0 ∷ spell_part number_form x.1) + length c = length-append (named signs.Identifier x.0 ∷ spell_part number_form x.1) c in
    omega (arith, f, i)

-- The loop over references.
pub references_step : (room : ℕ) (first r : ReferenceTree) (more now : List (Next Comma ReferenceTree)) (s : Comma) (o : Option Comma) (b c after : List MarkedToken) → ReferencesRead room first more (Some s) b c → ReferencesRead room r [] o c after → now ≡ more ++ next s r ∷ [] → ReferencesRead room first now o b after
references_step room first r more now s o b c after so_far read grown =
    let R : List (Next Comma ReferenceTree) → Type 0 = λ z. ReferencesRead room first z o b after in
    subst R (sym grown) (go o read)
  where
    go : (o : Option Comma) → ReferencesRead room r [] o c after → ReferencesRead room first (more ++ next s r ∷ []) o b after
    go None f = so_far.finds (record { first = r; more = [] }) after f
    go (Some t) f = leads_same references_form references_form room (λ z. record { first = first; more = more ++ next s r ∷ (next t z.first ∷ z.more) }) (λ z. record { first = first; more = behind (more ++ next s r ∷ []) t z }) b after
        (λ z. ap (λ y. record { first = first; more = y }) (sym (append_assoc more (next s r ∷ []) (next t z.first ∷ z.more))))
        (leads_on references_form references_form references_form room (λ z. record { first = first; more = behind more s z }) (λ z. record { first = r; more = behind [] t z }) b c after so_far f)

pub references_refused : (room : ℕ) (first : ReferenceTree) (more : List (Next Comma ReferenceTree)) (s : Comma) (b c after : List MarkedToken) (e : Refusal) → ReferencesRead room first more (Some s) b c → Refuses references_form room c e after → Refuses references_form room b e after
references_refused room first more s b c after e so_far h = passes references_form references_form room (λ z. record { first = first; more = behind more s z }) b c after e so_far h

-- References to schemes.
abbrev pub scheme_parts : Form MarkedToken
scheme_parts = then (name signs.Identifier) (part_form scheme_number)

abbrev pub make_scheme : scheme_parts.Tree → SchemeReferenceTree
make_scheme k = scheme_from k.0 k.1

scheme_into : (w : Word) (o : Option (Place × (Place × Word))) → (part_form scheme_number w).IsTree o → IsSchemeReference (scheme_from w o)
scheme_into w None is = tt
scheme_into w (Some x) is = is.0

scheme_spell : (w : Word) (o : Option (Place × (Place × Word))) → spell_scheme_reference (scheme_from w o) ≡ scheme_parts.spell (w, o)
scheme_spell w None = refl
scheme_spell w (Some x) = refl

scheme_levels : (w : Word) (o : Option (Place × (Place × Word))) → levels_scheme_reference (scheme_from w o) ≡ scheme_parts.levels (w, o)
scheme_levels w None = refl
scheme_levels w (Some x) = refl

scheme_goes : (w : Word) (o : Option (Place × (Place × Word))) (t : MarkedToken) → scheme_parts.goes (w, o) t ≡ true → tokens_of (λ s k. is_colon k) t ≡ true
scheme_goes w None t g = either (tokens_of (λ s k. is_colon k) t) false true (λ h. absurd (never h)) g
scheme_goes w (Some x) t g = absurd (never g)

pub only_scheme : (x : SchemeReferenceTree) → IsSchemeReference x → (k : scheme_parts.Tree) × scheme_parts.IsTree k × (x ≡ make_scheme k)
only_scheme (scheme_reference_tree.Label w) is = ((w, None), (tt, tt), refl)
only_scheme (scheme_reference_tree.Numbered w p q n) is = ((w, Some (p, (q, n))), (tt, (is, (tt, tt))), refl)

pub as_scheme : (b : List MarkedToken) → Reshapes scheme_form scheme_parts make_scheme b
as_scheme b = record {
  into = λ k is. scheme_into k.0 k.1 is.1;
  spells = λ k is. scheme_spell k.0 k.1;
  only = λ x is g. only_scheme x is;
  goes = λ k t is g. scheme_goes k.0 k.1 t g;
  level = λ k is. scheme_levels k.0 k.1;
}

begin_scheme : (room : ℕ) (b : List MarkedToken) → Leads scheme_form scheme_parts room make_scheme b b
begin_scheme room b = leads_as scheme_form scheme_parts make_scheme room b (as_scheme b)

pub scheme_refused : (room : ℕ) (b after : List MarkedToken) (e : Refusal) → Refuses (name signs.Identifier) 0 b e after → Refuses scheme_form room b e after
scheme_refused room b after e h = passes scheme_form scheme_parts room make_scheme b b after e (begin_scheme room b) (first_word_refuses Word (named signs.Identifier) (part_form scheme_number) (λ w. (None, tt)) room b after e h)

module _ (room : ℕ) (w : Word) (b c : List MarkedToken) (h : Found (name signs.Identifier) 0 b w c) where
  behind_article : Leads scheme_form (part_form scheme_number w) room (scheme_from w) b c
  behind_article = leads_on scheme_form scheme_parts (part_form scheme_number w) room make_scheme (beside (name signs.Identifier) (part_form scheme_number) w) b b c (begin_scheme room b) (behind_word Word (named signs.Identifier) (part_form scheme_number) room b c w h)

  scheme_label : (after : List MarkedToken) → Found (part_form scheme_number w) room c None after → Found scheme_form room b (scheme_reference_tree.Label w) after
  scheme_label after f = behind_article.finds None after f

  module _ (p : Place) (d : List MarkedToken) (on : is_name w.spelling ≡ true) (e : c ≡ key keywords.Colon p ∷ d) where
    behind_scheme_colon : Leads scheme_form scheme_number room (λ k. scheme_from w (Some (p, k))) b d
    behind_scheme_colon = leads_on scheme_form (part_form scheme_number w) scheme_number room (scheme_from w) (λ k. Some (p, k)) b c d behind_article (colon_taken scheme_number w room p c d on e)

    pub sch_refused : (after : List MarkedToken) (r : Refusal) → Refuses (keyword keywords.Sch) 0 d r after → Refuses scheme_form room b r after
    sch_refused after r g = passes scheme_form scheme_number room (λ k. scheme_from w (Some (p, k))) b d after r behind_scheme_colon (first_word_refuses Place (key keywords.Sch) (λ _. numeral_form) (λ q. (word_at nowhere, tt)) room d after r g)

    module _ (q : Place) (i : List MarkedToken) (f : Found (keyword keywords.Sch) 0 d q i) where
      pub scheme_number_refused : (after : List MarkedToken) (r : Refusal) → Refuses numeral_form 0 i r after → Refuses scheme_form room b r after
      scheme_number_refused after r g = passes scheme_form scheme_number room (λ k. scheme_from w (Some (p, k))) b d after r behind_scheme_colon
          (passes scheme_number numeral_form room _ d i after r (behind_word Place (key keywords.Sch) (λ _. numeral_form) room d i q f) (word_refuses Word numeral room i after r g))

      pub scheme_numbered : (n : Word) (after : List MarkedToken) → Found numeral_form 0 i n after → Found scheme_form room b (scheme_reference_tree.Numbered w p q n) after
      scheme_numbered n after g = behind_scheme_colon.finds (q, n) after ((behind_word Place (key keywords.Sch) (λ _. numeral_form) room d i q f).finds n after (word_in_any Word numeral room i after n g))

pub scheme_no_name : (room : ℕ) (w : Word) (b c : List MarkedToken) → Found (name signs.Identifier) 0 b w c → is_name w.spelling ≡ false → Found scheme_form room b (scheme_reference_tree.Label w) c
scheme_no_name room w b c h off = scheme_label room w b c h c (no_name scheme_number w room c off)

pub scheme_no_colon : (room : ℕ) (w : Word) (b c after : List MarkedToken) → Found (name signs.Identifier) 0 b w c → TakesKey keywords.Colon c None after → Found scheme_form room b (scheme_reference_tree.Label w) after
scheme_no_colon room w b c after h none = scheme_label room w b c h after (no_colon scheme_number w room c after none)

-- no more is left behind a comma than before it
pub comma_within : (o : Option Comma) (c after : List MarkedToken) → TakesComma false c o after → length after ≤ length c
comma_within None c after h = let e : length c ≡ length after = ap length h.0 in omega (arith, e)
comma_within (Some s) c after h = let e : length c ≡ length (comma_token s ∷ after) = ap length h.0 in omega (arith, e)

pub shorter_label : (x : head_form.Tree) (o : Option Comma) (b c after : List MarkedToken) → Found head_form 0 b x c → TakesComma false c o after → length after < length b
shorter_label x o b c after h taken =
    let f : length c < length b = shorter_head x b c h in
    let g : length after ≤ length c = comma_within o c after taken in
    omega (arith, f, g)

pub shorter_numbers : (x : head_form.Tree) (b c after : List MarkedToken) → Found head_form 0 b x c → length after ≤ length c → length after < length b
shorter_numbers x b c after h g = let f : length c < length b = shorter_head x b c h in omega (arith, f, g)

pub within_number : (c : Comma) (n : NumberTree) (b d e g : List MarkedToken) → length d ≤ length b → TakesComma false d (Some c) e → Found number_form 0 e n g → length g ≤ length b
within_number c n b d e g h taken found = let f : length g < length d = shorter_number c n d e g taken found in omega (arith, f, h)

pub within_comma : (o : Option Comma) (b d e : List MarkedToken) → length d ≤ length b → TakesComma false d o e → length e ≤ length b
within_comma o b d e h taken = let f : length e ≤ length d = comma_within o d e taken in omega (arith, f, h)
