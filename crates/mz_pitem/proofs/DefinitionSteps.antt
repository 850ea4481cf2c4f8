-- The readings of blocks of definitions.
use Rattle.std.specs.Prelude.{codes}
use Rattle.std.proofs.Common.{◌≡◌, ℕ, Bool, true, false, ◌||◌, ◌&&◌, List, [], ◌∷◌, ◌++◌, refl, sym, ap, subst, ◌∙◌, is_none, is_some, Option, Some, None, Result, Ok, Err}
use Rattle.std.proofs.lemmas.Bool.{or_left, or_right}
use Rattle.mz_base.specs.declared.place.Place.{Place}
use Rattle.mz_base.specs.declared.token.MarkedToken.{MarkedToken}
use Rattle.mz_forms.specs.declared.refusal.Refusal.{Refusal}
use Rattle.mz_forms.specs.Form.{Form, Agrees, Found, is_empty, then}
use Rattle.mz_forms.specs.Reading.{Builds, Reads, Refuses}
use Rattle.mz_forms.proofs.Choose.{Reshapes}
use Rattle.mz_forms.proofs.Compose.{Apart, head_of}
use Rattle.mz_forms.proofs.Leads.{apart_closed}
use Rattle.mz_forms.proofs.Lists.{Begun, Repeats}
use Rattle.mz_tree_heading.specs.declared.heading.HeadingTree.{HeadingTree}
use Rattle.mz_tree_heading.specs.declared.heading.HeadingTree.TheVariants as trees
use Rattle.mz_tree_heading.specs.Rules.{IsHeading}
use Rattle.mz_tree_item.specs.declared.definition.ConditionOrPropertyTree.{ConditionOrPropertyTree}
use Rattle.mz_tree_item.specs.declared.definition.DefinitionPartTree.{DefinitionPartTree}
use Rattle.mz_tree_item.specs.declared.definition.DefinitionPartTree.TheVariants as parts
use Rattle.mz_tree_item.specs.declared.definition.DefinitionTree.{DefinitionTree}
use Rattle.mz_tree_item.specs.Rules.{has_property, may_redefine, IsDefinitionPart}
use Rattle.mz_tree_item.specs.Spell.{spell_definition_part}
use Rattle.mz_tree_part.specs.declared.notation.BlockLetTree.{BlockLetTree}
use Rattle.mz_pterm.specs.Sign.{formula_sign, reserved_sign}
use Rattle.mz_ptype.specs.Forms.{declarations_form}
use Rattle.mz_ptype.proofs.Optional.{never, true_not_false}
use Rattle.mz_pformula.proofs.Quantifiers.{some_declarations}
use Rattle.mz_pjustification.specs.declared.keyword.Keyword.{Keyword}
use Rattle.mz_pjustification.specs.declared.keyword.Keyword.TheVariants as keywords
use Rattle.mz_pjustification.specs.Keyword.{keyword_of, later_keyword, reserved_keyword}
use Rattle.mz_pjustification.specs.Words.{key, keyword}
use Rattle.mz_pjustification.proofs.Keywords.{keyword_of-key, told_key}
use Rattle.mz_pjustification.proofs.Taken.{nowhere, or_goes}
use Rattle.mz_pstep.proofs.Ends.{Ends, before_key_then, ends_class, ends_then}
use Rattle.mz_ppattern.specs.Optional.{next_has, plainly}
use Rattle.mz_ppattern.specs.Words.{word_form, word_token}
use Rattle.mz_ppattern.proofs.LociSteps.{has_not, has_so}
use Rattle.mz_ppattern.proofs.WordSteps.{IsPlain, word_keyed, word_told}
use Rattle.mz_ppart.specs.WordLists.{first_of}
use Rattle.mz_ppart.specs.Classes.{begins_let, is_let}
use Rattle.mz_ppart.specs.Forms.{block_let_form}
use Rattle.mz_ppart.proofs.NotationSteps.{let_own}
use Rattle.mz_pcluster.proofs.Joined.{Joined, both_found, second_refused, shaped_found, shaped_refused}
use Rattle.mz_pcluster.proofs.PartSteps.{headed}
use Rattle.mz_pheading.specs.declared.headings.HeadingWord.{HeadingWord}
use Rattle.mz_pheading.specs.declared.headings.HeadingWord.TheVariants as heading_words
use Rattle.mz_pheading.specs.Classes.{heading_word, headings}
use Rattle.mz_pheading.specs.HeadingForms.{heading_form, states}
use Rattle.mz_pblock.specs.Classes.{begins_either}
use Rattle.mz_pblock.specs.Forms.{owed_form, Pays}
use Rattle.mz_pblock.proofs.ConditionSteps.{some_owed}
use Rattle.mz_pblock.proofs.WordSteps.{some_of}
use Rattle.mz_pitem.specs.Classes.{begins_definition_part, is_due}
use Rattle.mz_pitem.specs.Forms.{definition_form, definition_part_form, definition_parts_form, goes_on_definition_parts, headed_form, paired, ReadsBehindHeading}
use Rattle.mz_pitem.proofs.HeadingHeads.{begins_heading, begun_heading, heading_filled, heading_first, heading_hit}

-- A heading with its conditions and properties.
abbrev pub headed_1 : Form MarkedToken
headed_1 = then heading_form (λ h. owed_form (is_due h))

abbrev pub make_headed : headed_1.Tree → DefinitionPartTree
make_headed k = parts.Heading k.0 k.1

pub joined_headed : Joined heading_form (λ h. owed_form (is_due h))
joined_headed = record { apart = apart_closed heading_form (λ h. owed_form (is_due h)) (λ a t. refl); some = λ a is. some_owed (is_due a) }

-- something is stated, or a property is among what follows
both_into : {X Y : Type 0} (o : Option X) (m : Option Y) (cs : List ConditionOrPropertyTree) → Pays (is_none o && is_none m) cs → (is_some o || is_some m || has_property cs) ≡ true
both_into None None cs h = h
both_into None (Some y) cs h = refl
both_into (Some x) None cs h = refl
both_into (Some x) (Some y) cs h = refl

both_from : {X Y : Type 0} (o : Option X) (m : Option Y) (cs : List ConditionOrPropertyTree) → (is_some o || is_some m || has_property cs) ≡ true → Pays (is_none o && is_none m) cs
both_from None None cs h = h
both_from None (Some y) cs h = tt
both_from (Some x) None cs h = tt
both_from (Some x) (Some y) cs h = tt

one_into : {Y : Type 0} (m : Option Y) (cs : List ConditionOrPropertyTree) → Pays (is_none m) cs → (is_some m || has_property cs) ≡ true
one_into None cs h = h
one_into (Some y) cs h = refl

one_from : {Y : Type 0} (m : Option Y) (cs : List ConditionOrPropertyTree) → (is_some m || has_property cs) ≡ true → Pays (is_none m) cs
one_from None cs h = h
one_from (Some y) cs h = tt

may_into : (h : HeadingTree) (cs : List ConditionOrPropertyTree) → states h ≡ true → Pays (is_due h) cs → may_redefine h cs ≡ true
may_into (trees.Functor a) cs s p = refl
may_into (trees.Predicate a) cs s p = refl
may_into (trees.Attribute a) cs s p = refl
may_into (trees.Mode a) cs s p = refl
may_into (trees.Abbreviation a) cs s p = refl
may_into (trees.Structure a) cs s p = refl
may_into (trees.RedefinedFunctor q a) cs s p = both_into a.result a.meaning cs p
may_into (trees.RedefinedPredicate q a) cs s p = one_into a.meaning cs p
may_into (trees.RedefinedAttribute q a) cs s p = s
may_into (trees.RedefinedMode q a) cs s p = s

may_from : (h : HeadingTree) (cs : List ConditionOrPropertyTree) → may_redefine h cs ≡ true → (states h ≡ true) × Pays (is_due h) cs
may_from (trees.Functor a) cs m = (refl, tt)
may_from (trees.Predicate a) cs m = (refl, tt)
may_from (trees.Attribute a) cs m = (refl, tt)
may_from (trees.Mode a) cs m = (refl, tt)
may_from (trees.Abbreviation a) cs m = (refl, tt)
may_from (trees.Structure a) cs m = (refl, tt)
may_from (trees.RedefinedFunctor q a) cs m = (refl, both_from a.result a.meaning cs m)
may_from (trees.RedefinedPredicate q a) cs m = (refl, one_from a.meaning cs m)
may_from (trees.RedefinedAttribute q a) cs m = (m, tt)
may_from (trees.RedefinedMode q a) cs m = (m, tt)

pub only_headed : (x : DefinitionPartTree) → headed_form.IsTree x → (k : headed_1.Tree) × headed_1.IsTree k × (x ≡ make_headed k)
only_headed (parts.Let a) is = absurd is
only_headed (parts.Heading a cs) is = let m = may_from a cs is.2 in ((a, cs), ((is.0, m.0), (is.1, m.1)), refl)

pub as_headed : (b : List MarkedToken) → Reshapes headed_form headed_1 make_headed b
as_headed b = record {
  into = λ k is. (is.0.0, is.1.0, may_into k.0 k.1 is.0.1 is.1.1);
  spells = λ k is. refl;
  only = λ x is g. only_headed x is;
  goes = λ k t is g. or_goes (begins_either t) (heading_form.goes k.0 t) (is_empty ((owed_form (is_due k.0)).spell k.1)) (begins_either t) (λ h. h) (λ h. absurd (never h)) g;
  level = λ k is. refl;
}

abbrev is_read : {X : Type 0} → Result X Refusal → Bool
is_read (Ok x) = true
is_read (Err e) = false

abbrev read_or : {X : Type 0} → X → Result X Refusal → X
read_or d (Ok x) = x
read_or d (Err e) = d

abbrev refusal_or : {X : Type 0} → Refusal → Result X Refusal → Refusal
refusal_or d (Ok x) = d
refusal_or d (Err e) = e

pub behind_refused : (room : ℕ) (h : HeadingTree) (due : Bool) (r : Result (List ConditionOrPropertyTree) Refusal) (b after : List MarkedToken) (e : Refusal) → due ≡ is_due h → Reads (owed_form due) room plainly b r after → Err e ≡ paired h r → Refuses (owed_form (is_due h)) room b e after
behind_refused room h due (Ok cs) b after e d f k = absurd (never (ap is_read k))
behind_refused room h due (Err x) b after e d f k =
    let R : Bool → Type 0 = λ z. Refuses (owed_form z) room b x after in
    let E : Refusal → Type 0 = λ z. Refuses (owed_form (is_due h)) room b z after in
    let same : e ≡ x = ap (refusal_or e) k in
    subst E (sym same) (subst R d f)

pub behind_found : (room : ℕ) (h : HeadingTree) (due : Bool) (r : Result (List ConditionOrPropertyTree) Refusal) (b after : List MarkedToken) (g : HeadingTree) (cs : List ConditionOrPropertyTree) → due ≡ is_due h → Reads (owed_form due) room plainly b r after → Ok (g, cs) ≡ paired h r → Builds (owed_form (is_due h)) room (λ xs. parts.Heading h xs) (parts.Heading g cs) b after
behind_found room h due (Ok xs) b after g cs d f k =
    let F : Bool → Type 0 = λ z. Found (owed_form z) room b xs after in
    let P : Type 0 = HeadingTree × List ConditionOrPropertyTree in
    let some : P = (g, cs) in
    let made : Result P Refusal → DefinitionPartTree = λ z. parts.Heading (read_or some z).0 (read_or some z).1 in
    (xs, subst F d f, ap made k)
behind_found room h due (Err x) b after g cs d f k = absurd (never (sym (ap is_read k)))

pub gives_headed : (room : ℕ) (b c : List MarkedToken) (h : HeadingTree) (r : Result DefinitionPartTree Refusal) (after : List MarkedToken) → Found heading_form room b h c → ReadsBehindHeading room h c r after → Reads headed_form room plainly b r after
gives_headed room b c h (Ok x) after f k =
    let F : DefinitionPartTree → Type 0 = λ z. Found headed_form room b z after in
    subst F (sym k.2) (shaped_found headed_form headed_1 make_headed room b (as_headed b) (h, k.0) after (both_found heading_form (λ h. owed_form (is_due h)) joined_headed room b h c f k.0 after k.1))
gives_headed room b c h (Err e) after f k = shaped_refused headed_form headed_1 make_headed room b (as_headed b) after e (second_refused heading_form (λ h. owed_form (is_due h)) joined_headed room b h c f after e k)

-- Loci, or a heading.
abbrev pub put_let : BlockLetTree → DefinitionPartTree
put_let a = parts.Let a

abbrev pub put_headed : DefinitionPartTree → DefinitionPartTree
put_headed x = x

-- no word of a heading is `let`
plain_heading : (w : HeadingWord) → IsPlain (heading_word w)
unfolding reserved_sign formula_sign reserved_keyword later_keyword
plain_heading heading_words.Func = (refl, refl)
plain_heading heading_words.Pred = (refl, refl)
plain_heading heading_words.Attr = (refl, refl)
plain_heading heading_words.Mode = (refl, refl)
plain_heading heading_words.Struct = (refl, refl)
plain_heading heading_words.Redefine = (refl, refl)

heading_no_let : (t : MarkedToken) → begins_heading t ≡ true → begins_let t ≡ false
heading_no_let t h =
    let w = some_of (first_of heading_word headings t) h in
    ap begins_let (word_told (heading_word w.0) t (heading_hit t w.0 w.1)) ∙ ap is_let (word_keyed (heading_word w.0) t.token.place (plain_heading w.0).1)

pub heading_part : (a : HeadingTree) (cs : List ConditionOrPropertyTree) (t : MarkedToken) (m : List MarkedToken) → spell_definition_part (parts.Heading a cs) ≡ t ∷ m → begins_heading t ≡ true
heading_part a cs t m e = heading_first a _ t m e

pub as_let : (b : List MarkedToken) → next_has begins_let b ≡ true → Reshapes definition_part_form block_let_form put_let b
as_let b h = record {
  into = λ a is. is;
  spells = λ a is. refl;
  only = λ x is g. only x is g;
  goes = λ a t is g. absurd (never g);
  level = λ a is. refl;
}
  where
    only : (x : DefinitionPartTree) → IsDefinitionPart x → Agrees b (spell_definition_part x) → (a : BlockLetTree) × block_let_form.IsTree a × (x ≡ put_let a)
    only (parts.Let a) is g = (a, is, refl)
    only (parts.Heading a cs) is g =
        let k = headed b (spell_definition_part (parts.Heading a cs)) g (λ e. heading_filled a _ e) in
        absurd (has_not begins_let b k.0 k.1 h (heading_no_let k.0 (heading_part a cs k.0 k.1 k.2)) k.3)

pub as_heading_part : (b : List MarkedToken) → next_has begins_let b ≡ false → Reshapes definition_part_form headed_form put_headed b
as_heading_part b h = record {
  into = λ x is. into x is;
  spells = λ x is. refl;
  only = λ x is g. (x, only x is g, refl);
  goes = λ x t is g. g;
  level = λ x is. refl;
}
  where
    into : (x : DefinitionPartTree) → headed_form.IsTree x → IsDefinitionPart x
    into (parts.Let a) is = absurd is
    into (parts.Heading a cs) is = is

    only : (x : DefinitionPartTree) → IsDefinitionPart x → Agrees b (spell_definition_part x) → headed_form.IsTree x
    only (parts.Let a) is g = absurd (has_so begins_let b (key keywords.Let a.let_) _ h (let_own a.let_) g)
    only (parts.Heading a cs) is g = is

pub gives_part : (room : ℕ) (b : List MarkedToken) (r : Result DefinitionPartTree Refusal) (after : List MarkedToken) → next_has begins_let b ≡ false → Reads headed_form room plainly b r after → Reads definition_part_form room plainly b r after
gives_part room b (Ok x) after h f = shaped_found definition_part_form headed_form put_headed room b (as_heading_part b h) x after f
gives_part room b (Err e) after h f = shaped_refused definition_part_form headed_form put_headed room b (as_heading_part b h) after e f

-- A list of parts.
pub part_filled : (x : DefinitionPartTree) → spell_definition_part x ≡ [] → ⊥
part_filled (parts.Let a) e = cc
part_filled (parts.Heading a cs) e = heading_filled a _ e

part_first : (x : DefinitionPartTree) (t : MarkedToken) (m : List MarkedToken) → spell_definition_part x ≡ t ∷ m → begins_definition_part t ≡ true
part_first (parts.Let a) t m e = ap begins_definition_part (sym (head_of _ _ _ _ e)) ∙ or_right (begins_heading (key keywords.Let a.let_)) (begins_let (key keywords.Let a.let_)) (let_own a.let_)
part_first (parts.Heading a cs) t m e = or_left (begins_heading t) (begins_let t) (heading_part a cs t m e)

-- no condition or property begins a part
heading_no_condition : (w : HeadingWord) (p : Place) → begins_either (word_token (heading_word w) p) ≡ false
heading_no_condition heading_words.Func p = refl
heading_no_condition heading_words.Pred p = refl
heading_no_condition heading_words.Attr p = refl
heading_no_condition heading_words.Mode p = refl
heading_no_condition heading_words.Struct p = refl
heading_no_condition heading_words.Redefine p = refl

let_no_condition : (p : Place) → begins_either (key keywords.Let p) ≡ false
let_no_condition p = refl

let_is : (k : Keyword) → is_let k ≡ true → k ≡ keywords.Let
let_is keywords.Let e = refl
let_is _ e = cc

parts_apart : (t : MarkedToken) → begins_definition_part t ≡ true → begins_either t ≡ true → ⊥
parts_apart t h g = go (first_of heading_word headings t) refl h
  where
    go : (o : Option HeadingWord) → first_of heading_word headings t ≡ o → (is_some o || begins_let t) ≡ true → ⊥
    go (Some w) e i = true_not_false (begins_either t) (ap begins_either (word_told (heading_word w) t (heading_hit t w e)) ∙ heading_no_condition w t.token.place) g
    go None e i = true_not_false (begins_either t) (ap begins_either (told_key keywords.Let t refl (let_is (keyword_of t) i)) ∙ let_no_condition t.token.place) g

pub repeats_parts : Repeats definition_part_form begins_definition_part goes_on_definition_parts
repeats_parts = record {
  filled = λ x is e. part_filled x e;
  first = λ x t m is e. part_first x t m e;
  weaker = λ x t is g. or_left (begins_either t) (begins_definition_part t) g;
  on = λ t h. or_right (begins_either t) (begins_definition_part t) h;
  apart = λ x t is h g. parts_apart t h g;
}

abbrev behind_let : List MarkedToken
behind_let = (declarations_form false).spell some_declarations ++ key keywords.Semicolon nowhere ∷ []

pub begun_part : (t : MarkedToken) → begins_definition_part t ≡ true → Begun definition_part_form t
begun_part t h = go (first_of heading_word headings t) refl h
  where
    go : (o : Option HeadingWord) → first_of heading_word headings t ≡ o → (is_some o || begins_let t) ≡ true → Begun definition_part_form t
    go (Some w) e g =
        let x = begun_heading t w e in
        let cs = some_owed (is_due x.0) in
        (parts.Heading x.0 cs.0, x.1 ++ (owed_form (is_due x.0)).spell cs.0, (x.2.0, cs.1.0, may_into x.0 cs.0 x.2.1 cs.1.1), ap (λ z. z ++ (owed_form (is_due x.0)).spell cs.0) x.3)
    go None e g = (parts.Let (record { let_ = t.token.place; declarations = some_declarations; semicolon = nowhere }), behind_let, (tt, tt), ap (λ z. z ∷ behind_let) (sym (told_key keywords.Let t refl (let_is (keyword_of t) g))))

-- A block.
abbrev pub definition_4 : Form MarkedToken
definition_4 = keyword keywords.Semicolon

abbrev pub definition_3 : Form MarkedToken
definition_3 = then (keyword keywords.End) (λ _. definition_4)

abbrev pub definition_2 : Form MarkedToken
definition_2 = then definition_parts_form (λ _. definition_3)

abbrev pub definition_1 : Form MarkedToken
definition_1 = then (word_form (codes "definition")) (λ _. definition_2)

end_off : (p : Place) → goes_on_definition_parts (key keywords.End p) ≡ true → ⊥
end_off p g = never (sym (ap (λ k. false || (false || is_let k)) (keyword_of-key keywords.End p refl)) ∙ g)

pub joined_definition_1 : Joined (word_form (codes "definition")) (λ _. definition_2)
joined_definition_1 = record { apart = apart_closed (word_form (codes "definition")) (λ _. definition_2) (λ a t. refl); some = λ a is. (([], (nowhere, nowhere)), (tt, (tt, tt))) }

pub joined_definition_2 : Joined definition_parts_form (λ _. definition_3)
joined_definition_2 = record { apart = before_key_then definition_parts_form keywords.End (λ _. definition_4) (λ a p g. end_off p g); some = λ a is. ((nowhere, nowhere), (tt, tt)) }

pub joined_definition_3 : Joined (keyword keywords.End) (λ _. definition_4)
joined_definition_3 = record { apart = apart_closed (keyword keywords.End) (λ _. definition_4) (λ a t. refl); some = λ a is. (nowhere, tt) }

abbrev pub make_definition : definition_1.Tree → DefinitionTree
make_definition k = record { definition = k.0; parts = k.1.0; end = k.1.1.0; semicolon = k.1.1.1 }

pub only_definition : (x : DefinitionTree) → definition_form.IsTree x → (k : definition_1.Tree) × definition_1.IsTree k × (x ≡ make_definition k)
only_definition x is = ((x.definition, (x.parts, (x.end, x.semicolon))), (tt, (is, (tt, tt))), refl)

ends_definition : Ends definition_1
ends_definition = ends_then (word_form (codes "definition")) (λ _. definition_2) (λ _. ends_then definition_parts_form (λ _. definition_3) (λ _. ends_then (keyword keywords.End) (λ _. definition_4) (λ _. ends_class Place (key keywords.Semicolon))))

pub as_definition : (b : List MarkedToken) → Reshapes definition_form definition_1 make_definition b
as_definition b = record {
  into = λ k is. is.1.0;
  spells = λ k is. refl;
  only = λ x is g. only_definition x is;
  goes = λ k t is g. absurd (ends_definition.closed k t is g);
  level = λ k is. refl;
}
