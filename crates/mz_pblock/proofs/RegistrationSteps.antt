-- The readings of blocks of registrations.
use Rattle.std.specs.Prelude.{codes}
use Rattle.std.proofs.Common.{◌≡◌, ℕ, Bool, true, false, ◌||◌, ◌&&◌, List, [], ◌∷◌, ◌++◌, refl, sym, ap, subst, ◌∙◌, append_assoc, Option, Some, None, Result, Ok, Err}
use Rattle.std.proofs.lemmas.Bool.{or_left, or_right}
use Rattle.mz_base.specs.declared.place.Place.{Place}
use Rattle.mz_base.specs.declared.token.MarkedToken.{MarkedToken}
use Rattle.mz_forms.specs.declared.refusal.Refusal.{Refusal}
use Rattle.mz_forms.specs.Form.{Form, Agrees, is_empty, then}
use Rattle.mz_forms.specs.Reading.{Reads}
use Rattle.mz_forms.proofs.Choose.{Reshapes}
use Rattle.mz_forms.proofs.Compose.{Apart, head_of}
use Rattle.mz_forms.proofs.Leads.{apart_closed}
use Rattle.mz_forms.proofs.Lists.{Begun, Repeats}
use Rattle.mz_tree_item.specs.declared.definition.ConditionTree.{ConditionTree}
use Rattle.mz_tree_item.specs.declared.registration.RegistrationPartTree.{RegistrationPartTree}
use Rattle.mz_tree_item.specs.declared.registration.RegistrationPartTree.TheVariants as parts
use Rattle.mz_tree_item.specs.declared.registration.RegistrationTree.{RegistrationTree}
use Rattle.mz_tree_item.specs.Rules.{IsRegistrationPart}
use Rattle.mz_tree_item.specs.Spell.{spell_registration_part}
use Rattle.mz_tree_part.specs.declared.cluster.ClusterTree.{ClusterTree}
use Rattle.mz_tree_part.specs.declared.cluster.ClusterTree.TheVariants as clusters
use Rattle.mz_tree_part.specs.declared.notation.BlockLetTree.{BlockLetTree}
use Rattle.mz_tree_part.specs.declared.words.ConditionWord.{ConditionWord}
use Rattle.mz_tree_part.specs.declared.words.ConditionWord.TheVariants as condition_words
use Rattle.mz_tree_part.specs.Keywords.{condition_word}
use Rattle.mz_tree_part.specs.Rules.{IsCluster, is_condition_yet}
use Rattle.mz_tree_part.specs.Spell.{spell_cluster}
use Rattle.mz_pterm.specs.Sign.{formula_sign, reserved_sign}
use Rattle.mz_ptype.specs.Forms.{declarations_form}
use Rattle.mz_ptype.proofs.Optional.{never, true_not_false}
use Rattle.mz_pformula.proofs.Quantifiers.{some_declarations}
use Rattle.mz_pjustification.specs.declared.keyword.Keyword.{Keyword}
use Rattle.mz_pjustification.specs.declared.keyword.Keyword.TheVariants as keywords
use Rattle.mz_pjustification.specs.Keyword.{keyword_of, later_keyword, reserved_keyword}
use Rattle.mz_pjustification.specs.Words.{key, keyword}
use Rattle.mz_pjustification.proofs.Keywords.{keyword_of-key, told_key}
use Rattle.mz_pjustification.proofs.Taken.{nowhere, or_goes}
use Rattle.mz_pstep.proofs.Ends.{Ends, before_key_then, ends_class, ends_then}
use Rattle.mz_ppattern.specs.Optional.{next_has, plainly}
use Rattle.mz_ppattern.specs.Words.{is_word, word_form, word_token}
use Rattle.mz_ppattern.proofs.LociSteps.{has_not, has_so}
use Rattle.mz_ppattern.proofs.WordSteps.{IsPlain, word_keyed, word_own, word_told}
use Rattle.mz_ppart.specs.Classes.{begins_let, is_let}
use Rattle.mz_ppart.specs.Forms.{block_let_form}
use Rattle.mz_ppart.specs.WordLists.{first_of}
use Rattle.mz_ppart.proofs.NotationSteps.{let_own}
use Rattle.mz_pcluster.specs.Forms.{cluster_form}
use Rattle.mz_pcluster.proofs.ClusterSteps.{begun_cluster}
use Rattle.mz_pcluster.proofs.Joined.{Joined, shaped_found, shaped_refused}
use Rattle.mz_pblock.specs.Classes.{begins_condition, begins_registration_part, conditions}
use Rattle.mz_pblock.specs.Forms.{conditions_form, goes_on_registration_parts, registered_form, registration_form, registration_part_form, registration_parts_form, IsRegistered}
use Rattle.mz_pblock.proofs.WordSteps.{condition_hit, some_of}

-- A cluster with its conditions.
abbrev pub registered_1 : Form MarkedToken
registered_1 = then cluster_form (λ _. conditions_form)

abbrev pub make_registered : registered_1.Tree → RegistrationPartTree
make_registered k = parts.Cluster k.0 k.1

pub joined_registered : Joined cluster_form (λ _. conditions_form)
joined_registered = record { apart = apart_closed cluster_form (λ _. conditions_form) (λ a t. refl); some = λ a is. ([], tt) }

pub only_registered : (x : RegistrationPartTree) → registered_form.IsTree x → (k : registered_1.Tree) × registered_1.IsTree k × (x ≡ make_registered k)
only_registered (parts.Let a) is = absurd is
only_registered (parts.Cluster a cs) is = ((a, cs), is, refl)

pub as_registered : (b : List MarkedToken) → Reshapes registered_form registered_1 make_registered b
as_registered b = record {
  into = λ k is. is;
  spells = λ k is. refl;
  only = λ x is g. only_registered x is;
  goes = λ k t is g. or_goes (conditions_form.goes k.1 t) (cluster_form.goes k.0 t) (is_empty (conditions_form.spell k.1)) (begins_condition t) (λ h. h) (λ h. absurd (never h)) g;
  level = λ k is. refl;
}

-- Loci, or a cluster.
plain_cluster : IsPlain (codes "cluster")
unfolding reserved_sign formula_sign reserved_keyword later_keyword
plain_cluster = (refl, refl)

plain_condition : (w : ConditionWord) → IsPlain (condition_word w)
unfolding reserved_sign formula_sign reserved_keyword later_keyword
plain_condition condition_words.Existence = (refl, refl)
plain_condition condition_words.Uniqueness = (refl, refl)
plain_condition condition_words.Coherence = (refl, refl)
plain_condition condition_words.Compatibility = (refl, refl)
plain_condition condition_words.Consistency = (refl, refl)
plain_condition condition_words.Correctness = (refl, refl)
plain_condition condition_words.Reducibility = (refl, refl)

pub cluster_not_let : (p : Place) → begins_let (word_token (codes "cluster") p) ≡ false
cluster_not_let p = ap is_let (word_keyed (codes "cluster") p plain_cluster.1)

-- a cluster begins with its word
pub cluster_head : (x : ClusterTree) → IsCluster x → (p : Place) × (m : List MarkedToken) × (spell_cluster x ≡ word_token (codes "cluster") p ∷ m)
cluster_head (clusters.Existential a) is = (a.cluster, _, refl)
cluster_head (clusters.Conditional a) is = (a.cluster, _, refl)
cluster_head (clusters.Functorial a) is = (a.cluster, _, refl)
cluster_head (clusters.Reduce a) is = absurd is
cluster_head (clusters.Identify a) is = absurd is

abbrev pub put_let : BlockLetTree → RegistrationPartTree
put_let a = parts.Let a

abbrev pub put_registered : RegistrationPartTree → RegistrationPartTree
put_registered x = x

pub as_let : (b : List MarkedToken) → next_has begins_let b ≡ true → Reshapes registration_part_form block_let_form put_let b
as_let b h = record {
  into = λ a is. is;
  spells = λ a is. refl;
  only = λ x is g. only x is g;
  goes = λ a t is g. absurd (never g);
  level = λ a is. refl;
}
  where
    only : (x : RegistrationPartTree) → IsRegistrationPart x → Agrees b (spell_registration_part x) → (a : BlockLetTree) × block_let_form.IsTree a × (x ≡ put_let a)
    only (parts.Let a) is g = (a, is, refl)
    only (parts.Cluster a cs) is g =
        let k = cluster_head a is.0 in
        let A : List MarkedToken → Type 0 = λ z. Agrees b (z ++ conditions_form.spell cs) in
        absurd (has_not begins_let b (word_token (codes "cluster") k.0) _ h (cluster_not_let k.0) (subst A k.2 g))

pub as_cluster_part : (b : List MarkedToken) → next_has begins_let b ≡ false → Reshapes registration_part_form registered_form put_registered b
as_cluster_part b h = record {
  into = λ x is. into x is;
  spells = λ x is. refl;
  only = λ x is g. (x, only x is g, refl);
  goes = λ x t is g. g;
  level = λ x is. refl;
}
  where
    into : (x : RegistrationPartTree) → registered_form.IsTree x → IsRegistrationPart x
    into (parts.Let a) is = absurd is
    into (parts.Cluster a cs) is = is

    only : (x : RegistrationPartTree) → IsRegistrationPart x → Agrees b (spell_registration_part x) → registered_form.IsTree x
    only (parts.Let a) is g = absurd (has_so begins_let b (key keywords.Let a.let_) _ h (let_own a.let_) g)
    only (parts.Cluster a cs) is g = is

pub gives_part : (room : ℕ) (b : List MarkedToken) (r : Result RegistrationPartTree Refusal) (after : List MarkedToken) → next_has begins_let b ≡ false → Reads registered_form room plainly b r after → Reads registration_part_form room plainly b r after
gives_part room b (Ok x) after h f = shaped_found registration_part_form registered_form put_registered room b (as_cluster_part b h) x after f
gives_part room b (Err e) after h f = shaped_refused registration_part_form registered_form put_registered room b (as_cluster_part b h) after e f

-- A list of parts.
pub part_filled : (x : RegistrationPartTree) → IsRegistrationPart x → spell_registration_part x ≡ [] → ⊥
part_filled (parts.Let a) is e = cc
part_filled (parts.Cluster a cs) is e =
    let k = cluster_head a is.0 in
    let E : List MarkedToken → Type 0 = λ z. z ++ conditions_form.spell cs ≡ [] in
    filled _ _ (subst E k.2 e)
  where
    filled : (t : MarkedToken) (w : List MarkedToken) → t ∷ w ≡ [] → ⊥
    filled t w f = cc

let_begins : (t : MarkedToken) → begins_let t ≡ true → begins_registration_part t ≡ true
let_begins t h = or_right (is_word (codes "cluster") t) (begins_let t) h

cluster_begins : (p : Place) → begins_registration_part (word_token (codes "cluster") p) ≡ true
cluster_begins p = or_left (is_word (codes "cluster") (word_token (codes "cluster") p)) (begins_let (word_token (codes "cluster") p)) (word_own (codes "cluster") p)

part_first : (x : RegistrationPartTree) (t : MarkedToken) (m : List MarkedToken) → IsRegistrationPart x → spell_registration_part x ≡ t ∷ m → begins_registration_part t ≡ true
part_first (parts.Let a) t m is e = ap begins_registration_part (sym (head_of _ _ _ _ e)) ∙ let_begins (key keywords.Let a.let_) (let_own a.let_)
part_first (parts.Cluster a cs) t m is e =
    let k = cluster_head a is.0 in
    let E : List MarkedToken → Type 0 = λ z. z ++ conditions_form.spell cs ≡ t ∷ m in
    ap begins_registration_part (sym (head_of _ _ _ _ (subst E k.2 e))) ∙ cluster_begins k.0

-- no condition begins a part
condition_no_cluster : (w : ConditionWord) (p : Place) → is_word (codes "cluster") (word_token (condition_word w) p) ≡ false
condition_no_cluster condition_words.Existence p = refl
condition_no_cluster condition_words.Uniqueness p = refl
condition_no_cluster condition_words.Coherence p = refl
condition_no_cluster condition_words.Compatibility p = refl
condition_no_cluster condition_words.Consistency p = refl
condition_no_cluster condition_words.Correctness p = refl
condition_no_cluster condition_words.Reducibility p = refl

condition_no_part : (w : ConditionWord) (p : Place) → begins_registration_part (word_token (condition_word w) p) ≡ false
condition_no_part w p = both (is_word (codes "cluster") (word_token (condition_word w) p)) (begins_let (word_token (condition_word w) p)) (condition_no_cluster w p) (ap is_let (word_keyed (condition_word w) p (plain_condition w).1))
  where
    both : (p q : Bool) → p ≡ false → q ≡ false → (p || q) ≡ false
    both p q e f = rw (e, f) refl

parts_apart : (t : MarkedToken) → begins_registration_part t ≡ true → begins_condition t ≡ true → ⊥
parts_apart t h g =
    let w = some_of (first_of condition_word conditions t) g in
    let k = condition_hit t w.0 w.1 in
    let B : MarkedToken → Type 0 = λ z. begins_registration_part z ≡ true in
    true_not_false (begins_registration_part (word_token (condition_word w.0) t.token.place)) (condition_no_part w.0 t.token.place) (subst B (word_told (condition_word w.0) t k.0) h)

pub repeats_parts : Repeats registration_part_form begins_registration_part goes_on_registration_parts
repeats_parts = record {
  filled = λ x is e. part_filled x is e;
  first = λ x t m is e. part_first x t m is e;
  weaker = λ x t is g. or_left (begins_condition t) (begins_registration_part t) g;
  on = λ t h. or_right (begins_condition t) (begins_registration_part t) h;
  apart = λ x t is h g. parts_apart t h g;
}

abbrev behind_let : List MarkedToken
behind_let = (declarations_form false).spell some_declarations ++ key keywords.Semicolon nowhere ∷ []

let_is : (k : Keyword) → is_let k ≡ true → k ≡ keywords.Let
let_is keywords.Let e = refl
let_is _ e = cc

pub begun_part : (t : MarkedToken) → begins_registration_part t ≡ true → Begun registration_part_form t
begun_part t h = go (is_word (codes "cluster") t) refl h
  where
    go : (i : Bool) → is_word (codes "cluster") t ≡ i → (i || begins_let t) ≡ true → Begun registration_part_form t
    go true e g =
        let x = begun_cluster t e in
        (parts.Cluster x.0 [], x.1 ++ [], (x.2, tt), ap (λ z. z ++ []) x.3)
    go false e g = (parts.Let (record { let_ = t.token.place; declarations = some_declarations; semicolon = nowhere }), behind_let, (tt, tt), ap (λ z. z ∷ behind_let) (sym (told_key keywords.Let t refl (let_is (keyword_of t) g))))

-- A block.
abbrev pub registration_4 : Form MarkedToken
registration_4 = keyword keywords.Semicolon

abbrev pub registration_3 : Form MarkedToken
registration_3 = then (keyword keywords.End) (λ _. registration_4)

abbrev pub registration_2 : Form MarkedToken
registration_2 = then registration_parts_form (λ _. registration_3)

abbrev pub registration_1 : Form MarkedToken
registration_1 = then (word_form (codes "registration")) (λ _. registration_2)

end_off : (p : Place) → goes_on_registration_parts (key keywords.End p) ≡ true → ⊥
end_off p g = never (sym (ap (λ k. false || (false || is_let k)) (keyword_of-key keywords.End p refl)) ∙ g)

pub joined_registration_1 : Joined (word_form (codes "registration")) (λ _. registration_2)
joined_registration_1 = record { apart = apart_closed (word_form (codes "registration")) (λ _. registration_2) (λ a t. refl); some = λ a is. (([], (nowhere, nowhere)), (tt, (tt, tt))) }

pub joined_registration_2 : Joined registration_parts_form (λ _. registration_3)
joined_registration_2 = record { apart = before_key_then registration_parts_form keywords.End (λ _. registration_4) (λ a p g. end_off p g); some = λ a is. ((nowhere, nowhere), (tt, tt)) }

pub joined_registration_3 : Joined (keyword keywords.End) (λ _. registration_4)
joined_registration_3 = record { apart = apart_closed (keyword keywords.End) (λ _. registration_4) (λ a t. refl); some = λ a is. (nowhere, tt) }

abbrev pub make_registration : registration_1.Tree → RegistrationTree
make_registration k = record { registration = k.0; parts = k.1.0; end = k.1.1.0; semicolon = k.1.1.1 }

pub only_registration : (x : RegistrationTree) → registration_form.IsTree x → (k : registration_1.Tree) × registration_1.IsTree k × (x ≡ make_registration k)
only_registration x is = ((x.registration, (x.parts, (x.end, x.semicolon))), (tt, (is, (tt, tt))), refl)

ends_registration : Ends registration_1
ends_registration = ends_then (word_form (codes "registration")) (λ _. registration_2) (λ _. ends_then registration_parts_form (λ _. registration_3) (λ _. ends_then (keyword keywords.End) (λ _. registration_4) (λ _. ends_class Place (key keywords.Semicolon))))

pub as_registration : (b : List MarkedToken) → Reshapes registration_form registration_1 make_registration b
as_registration b = record {
  into = λ k is. is.1.0;
  spells = λ k is. refl;
  only = λ x is g. only_registration x is;
  goes = λ k t is g. absurd (ends_registration.closed k t is g);
  level = λ k is. refl;
}

-- What the first token tells of a cluster with its conditions.
pub cluster_token : (a : ClusterTree) (cs : List ConditionTree) (t : MarkedToken) (m : List MarkedToken) → IsCluster a → spell_registration_part (parts.Cluster a cs) ≡ t ∷ m → begins_let t ≡ false
cluster_token a cs t m is e =
    let k = cluster_head a is in
    let E : List MarkedToken → Type 0 = λ z. z ++ conditions_form.spell cs ≡ t ∷ m in
    ap begins_let (sym (head_of _ _ _ _ (subst E k.2 e))) ∙ cluster_not_let k.0
