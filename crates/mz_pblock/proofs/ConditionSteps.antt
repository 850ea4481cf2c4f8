-- The readings of conditions and properties.
use Rattle.std.specs.Prelude.{if◌then◌else◌}
use Rattle.std.specs.List.{flat_map}
use Rattle.std.proofs.Common.{◌≡◌, ℕ, ◌+◌, ◌<◌, arith, length, length-append, Bool, true, false, ◌||◌, ◌&&◌, List, [], ◌∷◌, ◌++◌, refl, sym, ap, subst, ◌∙◌, append_assoc, is_some, Option, Some, None}
use Rattle.std.proofs.lemmas.Bool.{or_left, or_right}
use Rattle.mz_base.specs.declared.place.Place.{Place}
use Rattle.mz_base.specs.declared.token.MarkedToken.{MarkedToken}
use Rattle.mz_forms.specs.declared.refusal.Refusal.{Refusal}
use Rattle.mz_forms.specs.Form.{Form, Agrees, Fails, Found, Leads, is_empty, then}
use Rattle.mz_forms.specs.Reading.{Refuses}
use Rattle.mz_forms.proofs.Choose.{Reshapes, Turns, fails_here, finds_empty}
use Rattle.mz_forms.proofs.Compose.{Apart, head_of}
use Rattle.mz_forms.proofs.Leads.{apart_closed, leads_here, leads_on, leads_same, leads_turn, passes}
use Rattle.mz_forms.proofs.Lists.{Begun, Repeats}
use Rattle.mz_tree.specs.Rules.{Every}
use Rattle.mz_tree_item.specs.declared.definition.ConditionTree.{ConditionTree}
use Rattle.mz_tree_item.specs.declared.definition.PropertyTree.{PropertyTree}
use Rattle.mz_tree_item.specs.declared.definition.ConditionOrPropertyTree.{ConditionOrPropertyTree}
use Rattle.mz_tree_item.specs.declared.definition.ConditionOrPropertyTree.TheVariants as either_tree
use Rattle.mz_tree_item.specs.Rules.{has_property, IsConditionOrProperty}
use Rattle.mz_tree_item.specs.Spell.{spell_condition_or_property}
use Rattle.mz_tree_part.specs.declared.words.ConditionWord.{ConditionWord}
use Rattle.mz_tree_part.specs.declared.words.PropertyWord.{PropertyWord}
use Rattle.mz_tree_part.specs.declared.words.PropertyWord.TheVariants as property_words
use Rattle.mz_tree_part.specs.Keywords.{condition_word, property_word}
use Rattle.mz_tree_part.specs.Rules.{is_condition_yet, is_property_yet}
use Rattle.mz_tree_proof.specs.Reasoning.{JustData, SimpleJust}
use Rattle.mz_tree_proof.specs.declared.references.SimpleTree.TheVariants as simple_tree
use Rattle.mz_ptype.proofs.Optional.{never, true_not_false}
use Rattle.mz_pjustification.specs.declared.keyword.Keyword.TheVariants as keywords
use Rattle.mz_pjustification.specs.Words.{key, keyword}
use Rattle.mz_pjustification.proofs.Taken.{nowhere, or_goes}
use Rattle.mz_pstep.proofs.Ends.{Ends, before_key, ends_class, ends_then, key_off}
use Rattle.mz_ppattern.specs.Optional.{next_has}
use Rattle.mz_ppattern.specs.Words.{word_token}
use Rattle.mz_ppattern.proofs.LociSteps.{has_not, has_so}
use Rattle.mz_ppattern.proofs.WordSteps.{word_told}
use Rattle.mz_ppart.specs.WordLists.{first_of}
use Rattle.mz_pproof.specs.Forms.{goes_on_just, just_form}
use Rattle.mz_pcluster.proofs.Joined.{Joined, first_refused, leads_second}
use Rattle.mz_pblock.specs.Classes.{begins_condition, begins_either, begins_property, conditions, properties}
use Rattle.mz_pblock.specs.Forms.{condition_form, condition_word_form, either_form, is_property, owed_form, property_form, property_word_form, Pays}
use Rattle.mz_pblock.proofs.WordSteps.{begins_own_condition, begins_own_property, condition_hit, condition_no_property, property_hit, some_of}

abbrev pub some_just : JustData
some_just = SimpleJust simple_tree.Nothing

-- A justification, and the semicolon behind it.
abbrev pub just_1 : Form MarkedToken
just_1 = (then) just_form (λ _. keyword keywords.Semicolon)

pub joined_just : Joined just_form (λ _. keyword keywords.Semicolon)
joined_just = record { apart = before_key just_form keywords.Semicolon (λ a p g. key_off goes_on_just keywords.Semicolon p refl refl g); some = λ a is. (nowhere, tt) }

pub ends_just : Ends just_1
ends_just = ends_then just_form (λ _. keyword keywords.Semicolon) (λ _. ends_class Place (key keywords.Semicolon))

-- A condition.
abbrev pub condition_1 : Form MarkedToken
condition_1 = (then) condition_word_form (λ _. just_1)

abbrev pub make_condition : condition_1.Tree → ConditionTree
make_condition k = record { place = k.0.1; word = k.0.0; just = k.1.0; semicolon = k.1.1 }

pub joined_condition : Joined condition_word_form (λ _. just_1)
joined_condition = record { apart = apart_closed condition_word_form (λ _. just_1) (λ a t. refl); some = λ a is. ((some_just, nowhere), (tt, tt)) }

pub only_condition : (x : ConditionTree) → condition_form.IsTree x → (k : condition_1.Tree) × condition_1.IsTree k × (x ≡ make_condition k)
only_condition x is = (((x.word, x.place), (x.just, x.semicolon)), (is.0, (is.1, tt)), refl)

ends_condition : Ends condition_1
ends_condition = ends_then condition_word_form (λ _. just_1) (λ _. ends_just)

pub as_condition : (b : List MarkedToken) → Reshapes condition_form condition_1 make_condition b
as_condition b = record {
  into = λ k is. (is.0, is.1.0);
  spells = λ k is. refl;
  only = λ x is g. only_condition x is;
  goes = λ k t is g. absurd (ends_condition.closed k t is g);
  level = λ k is. refl;
}

condition_filled : (x : ConditionTree) → condition_form.spell x ≡ [] → ⊥
condition_filled x e = cc

condition_first : (x : ConditionTree) (t : MarkedToken) (m : List MarkedToken) → condition_form.IsTree x → condition_form.spell x ≡ t ∷ m → begins_condition t ≡ true
condition_first x t m is e = ap begins_condition (sym (head_of _ _ _ _ e)) ∙ begins_own_condition x.word x.place is.0

pub repeats_conditions : Repeats condition_form begins_condition begins_condition
repeats_conditions = record {
  filled = λ x is e. condition_filled x e;
  first = λ x t m is e. condition_first x t m is e;
  weaker = λ x t is g. absurd (never g);
  on = λ t h. h;
  apart = λ x t is h g. never g;
}

abbrev behind_just : List MarkedToken
behind_just = just_1.spell (some_just, nowhere)

pub begun_condition : (t : MarkedToken) → begins_condition t ≡ true → Begun condition_form t
begun_condition t h =
    let w = some_of (first_of condition_word conditions t) h in
    let k = condition_hit t w.0 w.1 in
    (record { place = t.token.place; word = w.0; just = some_just; semicolon = nowhere }, behind_just, (k.1, tt), ap (λ z. z ∷ behind_just) (sym (word_told (condition_word w.0) t k.0)))

-- A property.
abbrev pub property_1 : Form MarkedToken
property_1 = (then) property_word_form (λ _. just_1)

abbrev pub make_property : property_1.Tree → PropertyTree
make_property k = record { place = k.0.1; word = k.0.0; just = k.1.0; semicolon = k.1.1 }

pub joined_property : Joined property_word_form (λ _. just_1)
joined_property = record { apart = apart_closed property_word_form (λ _. just_1) (λ a t. refl); some = λ a is. ((some_just, nowhere), (tt, tt)) }

pub only_property : (x : PropertyTree) → property_form.IsTree x → (k : property_1.Tree) × property_1.IsTree k × (x ≡ make_property k)
only_property x is = (((x.word, x.place), (x.just, x.semicolon)), (is.0, (is.1, tt)), refl)

ends_property : Ends property_1
ends_property = ends_then property_word_form (λ _. just_1) (λ _. ends_just)

pub as_property : (b : List MarkedToken) → Reshapes property_form property_1 make_property b
as_property b = record {
  into = λ k is. (is.0, is.1.0);
  spells = λ k is. refl;
  only = λ x is g. only_property x is;
  goes = λ k t is g. absurd (ends_property.closed k t is g);
  level = λ k is. refl;
}

-- Either of them.
abbrev pub put_condition : ConditionTree → ConditionOrPropertyTree
put_condition a = either_tree.Condition a

abbrev pub put_property : PropertyTree → ConditionOrPropertyTree
put_property a = either_tree.Property a

pub as_either_property : (b : List MarkedToken) → next_has begins_property b ≡ true → Reshapes either_form property_form put_property b
as_either_property b h = record {
  into = λ a is. is;
  spells = λ a is. refl;
  only = λ x is g. only x is g;
  goes = λ a t is g. g;
  level = λ a is. refl;
}
  where
    only : (x : ConditionOrPropertyTree) → IsConditionOrProperty x → Agrees b (spell_condition_or_property x) → (a : PropertyTree) × property_form.IsTree a × (x ≡ put_property a)
    only (either_tree.Property a) is g = (a, is, refl)
    only (either_tree.Condition a) is g = absurd (has_not begins_property b (word_token (condition_word a.word) a.place) _ h (condition_no_property a.word a.place is.0) g)

pub as_either_condition : (b : List MarkedToken) → next_has begins_property b ≡ false → Reshapes either_form condition_form put_condition b
as_either_condition b h = record {
  into = λ a is. is;
  spells = λ a is. refl;
  only = λ x is g. only x is g;
  goes = λ a t is g. g;
  level = λ a is. refl;
}
  where
    only : (x : ConditionOrPropertyTree) → IsConditionOrProperty x → Agrees b (spell_condition_or_property x) → (a : ConditionTree) × condition_form.IsTree a × (x ≡ put_condition a)
    only (either_tree.Condition a) is g = (a, is, refl)
    only (either_tree.Property a) is g = absurd (has_so begins_property b (word_token (property_word a.word) a.place) _ h (begins_own_property a.word a.place is.0) g)

pub either_filled : (x : ConditionOrPropertyTree) → spell_condition_or_property x ≡ [] → ⊥
either_filled (either_tree.Condition a) e = cc
either_filled (either_tree.Property a) e = cc

pub either_first : (x : ConditionOrPropertyTree) (v : List MarkedToken) (t : MarkedToken) (m : List MarkedToken) → IsConditionOrProperty x → spell_condition_or_property x ++ v ≡ t ∷ m → begins_either t ≡ true
either_first (either_tree.Condition a) v t m is e = ap begins_either (sym (head_of _ _ _ _ e)) ∙ or_right (begins_property (word_token (condition_word a.word) a.place)) (begins_condition (word_token (condition_word a.word) a.place)) (begins_own_condition a.word a.place is.0)
either_first (either_tree.Property a) v t m is e = ap begins_either (sym (head_of _ _ _ _ e)) ∙ or_left (begins_property (word_token (property_word a.word) a.place)) (begins_condition (word_token (property_word a.word) a.place)) (begins_own_property a.word a.place is.0)

abbrev some_property : ConditionOrPropertyTree
some_property = either_tree.Property (record { place = nowhere; word = property_words.Reflexivity; just = some_just; semicolon = nowhere })

begun_either : (t : MarkedToken) → begins_either t ≡ true → Begun either_form t
begun_either t h = go (first_of property_word properties t) refl h
  where
    go : (o : Option PropertyWord) → first_of property_word properties t ≡ o → (is_some o || begins_condition t) ≡ true → Begun either_form t
    go (Some w) e g =
        let k = property_hit t w e in
        (either_tree.Property (record { place = t.token.place; word = w; just = some_just; semicolon = nowhere }), behind_just, (k.1, tt), ap (λ z. z ∷ behind_just) (sym (word_told (property_word w) t k.0)))
    go None e g = let c = begun_condition t g in (either_tree.Condition c.0, c.1, c.2, c.3)

-- Any number of them, with a property among them where one is due.
abbrev pub after : Bool → ConditionOrPropertyTree → Bool
after due x = (if is_property x then false else due)

abbrev pub further : Bool → Form MarkedToken
further due = (then) either_form (λ x. owed_form (after due x))

abbrev pub put_first : (due : Bool) → (further due).Tree → List ConditionOrPropertyTree
put_first due k = k.0 ∷ k.1

pays_into : (due : Bool) (x : ConditionOrPropertyTree) (xs : List ConditionOrPropertyTree) → Pays (after due x) xs → Pays due (x ∷ xs)
pays_into false x xs h = tt
pays_into true (either_tree.Condition a) xs h = h
pays_into true (either_tree.Property a) xs h = refl

pays_from : (due : Bool) (x : ConditionOrPropertyTree) (xs : List ConditionOrPropertyTree) → Pays due (x ∷ xs) → Pays (after due x) xs
pays_from false (either_tree.Condition a) xs h = tt
pays_from false (either_tree.Property a) xs h = tt
pays_from true (either_tree.Condition a) xs h = h
pays_from true (either_tree.Property a) xs h = tt

pays_property : (due : Bool) → Pays due (some_property ∷ [])
pays_property true = refl
pays_property false = tt

pub filled_first : (x : ConditionOrPropertyTree) (w : List MarkedToken) → spell_condition_or_property x ++ w ≡ [] → ⊥
filled_first (either_tree.Condition a) w e = cc
filled_first (either_tree.Property a) w e = cc

only_further : (due : Bool) (xs : List ConditionOrPropertyTree) (t : MarkedToken) (m : List MarkedToken) → (owed_form due).IsTree xs → (owed_form due).spell xs ≡ t ∷ m → (k : (further due).Tree) × (further due).IsTree k × (xs ≡ put_first due k)
only_further due [] t m is e = cc
only_further due (x ∷ xs) t m is e = ((x, xs), (is.0.0, (is.0.1, pays_from due x xs is.1)), refl)

pub turn_further : (due : Bool) (t : MarkedToken) → begins_either t ≡ true → Turns (owed_form due) (further due) (put_first due) t
turn_further due t h = record {
  into = λ k is. ((is.0, is.1.0), pays_into due k.0 k.1 is.1.1);
  spells = λ k is. refl;
  only = λ xs m is e. only_further due xs t m is e;
  empty = λ xs is e. h;
  filled = λ k is e. filled_first k.0 _ e;
  goes = λ k s is g. or_goes (begins_either s) (either_form.goes k.0 s) (is_empty ((owed_form (after due k.0)).spell k.1)) (begins_either s) (λ i. i) (λ i. absurd (never i)) g;
  level = λ k is. refl;
  begins = let x = begun_either t h in ((x.0, some_property ∷ []), x.1 ++ (owed_form true).spell (some_property ∷ []), (x.2, (((refl, tt), tt), pays_property (after due x.0))), ap (λ z. z ++ (owed_form true).spell (some_property ∷ [])) x.3);
}

pub further_apart : (due : Bool) → Apart either_form (λ x. owed_form (after due x))
further_apart due a k s m isa isk e g = never g

pub some_owed : (due : Bool) → (xs : List ConditionOrPropertyTree) × (owed_form due).IsTree xs
some_owed due = (some_property ∷ [], ((((refl, tt), tt)), pays_property due))

pub joined_further : (due : Bool) → Joined either_form (λ x. owed_form (after due x))
joined_further due = record { apart = further_apart due; some = λ x is. some_owed (after due x) }

-- from the first of them, of which a property was due, to those so far, behind which it still is or not
abbrev pub OwedSoFar : ℕ → Bool → Bool → List ConditionOrPropertyTree → List MarkedToken → List MarkedToken → Type 0
OwedSoFar room due still xs b c = Leads (owed_form due) (owed_form still) room (λ ys. xs ++ ys) b c

pub owed_none : (room : ℕ) (due still : Bool) (xs : List ConditionOrPropertyTree) (b : List MarkedToken) → xs ≡ [] → still ≡ due → OwedSoFar room due still xs b b
owed_none room due still xs b e same =
    let N : List ConditionOrPropertyTree → Type 0 = λ z. OwedSoFar room due still z b b in
    let D : Bool → Type 0 = λ z. OwedSoFar room due z [] b b in
    subst N (sym e) (subst D (sym same) (leads_here (owed_form due) room b))

comes_either : (c : List MarkedToken) → next_has begins_either c ≡ true → (t : MarkedToken) × (rest : List MarkedToken) × (c ≡ t ∷ rest) × (begins_either t ≡ true)
comes_either [] h = absurd (never h)
comes_either (t ∷ rest) h = (t, rest, refl, h)

module _ (room : ℕ) (still : Bool) (c : List MarkedToken) (on : next_has begins_either c ≡ true) where
  begin_further : Leads (owed_form still) (further still) room (put_first still) c c
  begin_further = let k = comes_either c on in leads_turn (owed_form still) (further still) (put_first still) k.0 (turn_further still k.0 k.3) room c k.1 k.2

  module _ (due : Bool) (xs : List ConditionOrPropertyTree) (b : List MarkedToken) (so_far : OwedSoFar room due still xs b c) where
    pub owed_refused : (back : List MarkedToken) (e : Refusal) → Refuses either_form room c e back → Refuses (owed_form due) room b e back
    owed_refused back e h = passes (owed_form due) (owed_form still) room (λ ys. xs ++ ys) b c back e so_far
        (passes (owed_form still) (further still) room (put_first still) c c back e begin_further (first_refused either_form (λ x. owed_form (after still x)) (joined_further still) room c back e h))

    pub owed_step : (now : Bool) (x : ConditionOrPropertyTree) (ys : List ConditionOrPropertyTree) (d : List MarkedToken) → Found either_form room c x d → ys ≡ xs ++ x ∷ [] → now ≡ after still x → OwedSoFar room due now ys b d
    owed_step now x ys d found e same =
        let N : List ConditionOrPropertyTree → Type 0 = λ z. OwedSoFar room due now z b d in
        let D : Bool → Type 0 = λ z. Leads (owed_form due) (owed_form z) room (λ zs. (xs ++ x ∷ []) ++ zs) b d in
        subst N (sym e) (subst D (sym same) (leads_same (owed_form due) (owed_form (after still x)) room (λ zs. xs ++ x ∷ zs) (λ zs. (xs ++ x ∷ []) ++ zs) b d (λ zs. sym (append_assoc xs (x ∷ []) zs))
        (leads_on (owed_form due) (owed_form still) (owed_form (after still x)) room (λ ys. xs ++ ys) (λ zs. x ∷ zs) b c d so_far
        (leads_on (owed_form still) (further still) (owed_form (after still x)) room (put_first still) (λ zs. (x, zs)) c c d begin_further
        (leads_second either_form (λ x. owed_form (after still x)) (joined_further still) room c x d found)))))

append-nil : (xs : List ConditionOrPropertyTree) → xs ++ [] ≡ xs
append-nil [] = refl
append-nil (x ∷ xs) = ap (λ z. x ∷ z) (append-nil xs)

-- where none comes next
none_left : (due : Bool) (c : List MarkedToken) → next_has begins_either c ≡ false → (x : ConditionOrPropertyTree) (xs : List ConditionOrPropertyTree) → (owed_form due).IsTree (x ∷ xs) → Agrees c ((owed_form due).spell (x ∷ xs)) → ⊥
none_left due c off x xs is g = go c off ((owed_form due).spell (x ∷ xs)) refl g
  where
    go : (c : List MarkedToken) → next_has begins_either c ≡ false → (w : List MarkedToken) → (owed_form due).spell (x ∷ xs) ≡ w → Agrees c w → ⊥
    go c h [] e f = filled_first x _ e
    go [] h (t ∷ w) e f = f
    go (s ∷ c) h (t ∷ w) e f = let B : MarkedToken → Type 0 = λ z. begins_either z ≡ true in true_not_false (begins_either s) h (subst B f (either_first x _ t w is.0.0 e))

pub owed_found : (room : ℕ) (due still : Bool) (xs : List ConditionOrPropertyTree) (b c : List MarkedToken) → OwedSoFar room due still xs b c → next_has begins_either c ≡ false → still ≡ false → Found (owed_form due) room b xs c
owed_found room due still xs b c so_far off paid =
    let F : List ConditionOrPropertyTree → Type 0 = λ z. Found (owed_form due) room b z c in
    let L : Bool → Type 0 = λ z. OwedSoFar room due z xs b c in
    subst F (append-nil xs) ((subst L paid so_far).finds [] c (record { found = finds_empty (owed_form false) [] c (tt, tt) refl only; fits = λ i l. absurd (omega (arith, l)) }))
  where
    only : (ys : List ConditionOrPropertyTree) → (owed_form false).IsTree ys → Agrees c ((owed_form false).spell ys) → ys ≡ []
    only [] is g = refl
    only (y ∷ ys) is g = absurd (none_left false c off y ys is g)

pub owed_unpaid : (room : ℕ) (due still : Bool) (xs : List ConditionOrPropertyTree) (b c : List MarkedToken) → OwedSoFar room due still xs b c → next_has begins_either c ≡ false → still ≡ true → Fails (owed_form due) room b c
owed_unpaid room due still xs b c so_far off unpaid =
    let L : Bool → Type 0 = λ z. OwedSoFar room due z xs b c in
    (subst L unpaid so_far).fails c (fails_here (owed_form true) room (some_owed true).0 c (some_owed true).1 only)
  where
    only : (ys : List ConditionOrPropertyTree) → (owed_form true).IsTree ys → Agrees c ((owed_form true).spell ys) → ⊥
    only [] is g = never is.1
    only (y ∷ ys) is g = none_left true c off y ys is g

filled_size : (w : List MarkedToken) → (w ≡ [] → ⊥) → 0 < length w
filled_size [] h = absurd (h refl)
filled_size (t ∷ w) h = omega arith

pub shorter_either : (room : ℕ) (x : ConditionOrPropertyTree) (c d : List MarkedToken) → Found either_form room c x d → length d < length c
shorter_either room x c d h =
    let k : length c ≡ length (spell_condition_or_property x ++ d) = ap length h.found.split in
    let i : length (spell_condition_or_property x ++ d) ≡ length (spell_condition_or_property x) + length d = length-append (spell_condition_or_property x) d in
    let l : 0 < length (spell_condition_or_property x) = filled_size (spell_condition_or_property x) (λ e. either_filled x e) in
    omega (arith, k, i, l)

-- What the first token tells of it.
pub property_token : (a : PropertyTree) (t : MarkedToken) (v m : List MarkedToken) → is_property_yet a.word ≡ true → word_token (property_word a.word) a.place ∷ v ≡ t ∷ m → begins_property t ≡ true
property_token a t v m is e = ap begins_property (sym (head_of _ _ _ _ e)) ∙ begins_own_property a.word a.place is

pub condition_token : (a : ConditionTree) (t : MarkedToken) (v m : List MarkedToken) → is_condition_yet a.word ≡ true → word_token (condition_word a.word) a.place ∷ v ≡ t ∷ m → begins_property t ≡ false
condition_token a t v m is e = ap begins_property (sym (head_of _ _ _ _ e)) ∙ condition_no_property a.word a.place is
