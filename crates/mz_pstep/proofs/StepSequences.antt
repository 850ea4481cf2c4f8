-- The readings of steps that are parts one behind another.
use Rattle.std.proofs.Common.{◌≡◌, ℕ, Bool, true, false, ◌||◌, List, [], ◌∷◌, refl, ap, append_assoc, Option, Some, None}
use Rattle.std.proofs.lemmas.Bool.{or_left, or_right}
use Rattle.mz_base.specs.declared.place.Place.{Place}
use Rattle.mz_base.specs.declared.token.MarkedToken.{MarkedToken}
use Rattle.mz_forms.specs.declared.refusal.Refusal.{Refusal}
use Rattle.mz_forms.specs.Form.{Form, Found, Leads, then}
use Rattle.mz_forms.specs.Reading.{Refuses}
use Rattle.mz_forms.specs.Repeat.{IsMaybe}
use Rattle.mz_forms.proofs.Choose.{Reshapes}
use Rattle.mz_forms.proofs.Compose.{Apart}
use Rattle.mz_forms.proofs.Leads.{leads_as, leads_behind, leads_here, leads_on, beside, apart_closed, passes, first_refuses}
use Rattle.mz_tree.specs.declared.lists.Separated.{Separated}
use Rattle.mz_tree.specs.Trees.{DeclarationsData}
use Rattle.mz_tree.specs.Spell.{spell_declarations}
use Rattle.mz_tree.specs.Levels.{levels_declarations}
use Rattle.mz_tree.specs.Rules.{IfAny}
use Rattle.mz_tree_proof.specs.declared.propositions.SuchTree.{SuchTree}
use Rattle.mz_tree_proof.specs.declared.propositions.HypothesesTree.{HypothesesTree}
use Rattle.mz_tree_proof.specs.declared.propositions.HypothesesTree.TheVariants as hypotheses_tree
use Rattle.mz_tree_proof.specs.declared.references.SimpleTree.{SimpleTree}
use Rattle.mz_tree_proof.specs.declared.references.SimpleTree.TheVariants as simple_tree
use Rattle.mz_tree_proof.specs.declared.skeleton.TakenTree.{TakenTree}
use Rattle.mz_tree_proof.specs.declared.skeleton.TakenTree.TheVariants as taken_tree
use Rattle.mz_tree_proof.specs.declared.skeleton.LetTree.{LetTree}
use Rattle.mz_tree_proof.specs.declared.skeleton.AssumeTree.{AssumeTree}
use Rattle.mz_tree_proof.specs.declared.skeleton.GivenTree.{GivenTree}
use Rattle.mz_tree_proof.specs.declared.skeleton.TakeTree.{TakeTree}
use Rattle.mz_tree_proof.specs.Spell.{spell_such, spell_let, spell_given}
use Rattle.mz_tree_proof.specs.Levels.{levels_such, levels_let, levels_given}
use Rattle.mz_tree_proof.specs.Rules.{IsSuch}
use Rattle.mz_pterm.specs.declared.sign.Sign.{Sign}
use Rattle.mz_pterm.proofs.Bases.{term_at}
use Rattle.mz_ptype.specs.Forms.{declarations_form, goes_on_declared}
use Rattle.mz_pformula.proofs.Quantifiers.{some_formula, some_declarations}
use Rattle.mz_pjustification.specs.declared.keyword.Keyword.{Keyword}
use Rattle.mz_pjustification.specs.declared.keyword.Keyword.TheVariants as keywords
use Rattle.mz_pjustification.specs.Words.{key, keyword, tokens_of}
use Rattle.mz_pjustification.specs.Forms.{goes_on_simple, simple_form}
use Rattle.mz_pjustification.proofs.Taken.{nowhere}
use Rattle.mz_pproposition.specs.Forms.{goes_on_propositions, hypotheses_form, such_form}
use Rattle.mz_pproposition.proofs.PropositionSteps.{plainly}
use Rattle.mz_pstep.specs.Forms.{goes_on_list, takens_form, begins_such, maybe_such_form, let_form, assume_form, given_form, take_form, split_form}
use Rattle.mz_pstep.proofs.Ends.{Ends, ends_class, ends_then, before_key, key_off, before_such, such_or_nothing}
use Rattle.mz_pstep.proofs.Sequences.{some_such, some_such_is}

-- Examples.
abbrev some_takens : Separated TakenTree
some_takens = record { first = taken_tree.Plain (term_at nowhere); more = [] }

abbrev some_hypotheses : HypothesesTree
some_hypotheses = hypotheses_tree.One (plainly some_formula)

-- What goes on the parts.
abbrev such_or_semicolon : Sign → Keyword → Bool
such_or_semicolon s k = goes_on_propositions s k || begins_such s k

maybe_such_on : (o : Option SuchTree) (t : MarkedToken) → maybe_such_form.goes o t ≡ true → tokens_of such_or_semicolon t ≡ true
maybe_such_on None t g = or_right (tokens_of goes_on_propositions t) (tokens_of begins_such t) g
maybe_such_on (Some x) t g = or_left (tokens_of goes_on_propositions t) (tokens_of begins_such t) g

to_maybe : (o : Option SuchTree) → IfAny IsSuch o → IsMaybe such_form o
to_maybe None h = tt
to_maybe (Some x) h = h

from_maybe : (o : Option SuchTree) → IsMaybe such_form o → IfAny IsSuch o
from_maybe None h = tt
from_maybe (Some x) h = h

-- let_step
abbrev pub let_4 : Form MarkedToken
let_4 = keyword keywords.Semicolon

abbrev pub let_3 : Form MarkedToken
let_3 = then maybe_such_form (λ _. let_4)

abbrev pub let_2 : Form MarkedToken
let_2 = then (declarations_form false) (λ _. let_3)

abbrev pub let_1 : Form MarkedToken
let_1 = then (keyword keywords.Let) (λ _. let_2)

pub let_apart_1 : Apart (keyword keywords.Let) (λ _. let_2)
let_apart_1 = apart_closed (keyword keywords.Let) (λ _. let_2) (λ a t. refl)

pub let_apart_2 : Apart (declarations_form false) (λ _. let_3)
let_apart_2 = such_or_nothing (declarations_form false) (λ s k. goes_on_declared s) refl refl (λ a t g. g)

pub let_apart_3 : Apart maybe_such_form (λ _. let_4)
let_apart_3 = before_key maybe_such_form keywords.Semicolon (λ a p g. key_off such_or_semicolon keywords.Semicolon p refl refl (maybe_such_on a (key keywords.Semicolon p) g))

abbrev pub make_let : let_1.Tree → LetTree
make_let k = record { let_ = k.0; declarations = k.1.0; such = k.1.1.0; semicolon = k.1.1.1 }

pub only_let : (x : LetTree) → let_form.IsTree x → (k : let_1.Tree) × let_1.IsTree k × (x ≡ make_let k)
only_let x is = ((x.let_, (x.declarations, (x.such, x.semicolon))), (tt, (is.0, (to_maybe x.such is.1, tt))), refl)

ends_let : Ends let_1
ends_let = ends_then (keyword keywords.Let) (λ _. let_2) (λ _. ends_then (declarations_form false) (λ _. let_3) (λ _. ends_then maybe_such_form (λ _. let_4) (λ _. ends_class Place (key keywords.Semicolon))))

let_spells : (p : Place) (d : DeclarationsData) (o : Option SuchTree) (q : Place) → spell_let (make_let (p, (d, (o, q)))) ≡ let_1.spell (p, (d, (o, q)))
let_spells p d None q = ap (λ z. key keywords.Let p ∷ z) (append_assoc (spell_declarations d) [] (key keywords.Semicolon q ∷ []))
let_spells p d (Some x) q = ap (λ z. key keywords.Let p ∷ z) (append_assoc (spell_declarations d) (spell_such x) (key keywords.Semicolon q ∷ []))

let_levels : (p : Place) (d : DeclarationsData) (o : Option SuchTree) (q : Place) → levels_let (make_let (p, (d, (o, q)))) ≡ let_1.levels (p, (d, (o, q)))
let_levels p d None q = ap (λ z. 0 ∷ z) (append_assoc (levels_declarations d) [] (0 ∷ []))
let_levels p d (Some x) q = ap (λ z. 0 ∷ z) (append_assoc (levels_declarations d) (levels_such x) (0 ∷ []))

pub as_let : (b : List MarkedToken) → Reshapes let_form let_1 make_let b
as_let b = record {
  into = λ k is. (is.1.0, from_maybe k.1.1.0 is.1.1.0);
  spells = λ k is. let_spells k.0 k.1.0 k.1.1.0 k.1.1.1;
  only = λ x is g. only_let x is;
  goes = λ k t is g. absurd (ends_let.closed k t is g);
  level = λ k is. let_levels k.0 k.1.0 k.1.1.0 k.1.1.1;
}

begin_let : (room : ℕ) (b : List MarkedToken) → Leads let_form let_1 room make_let b b
begin_let room b = leads_as let_form let_1 make_let room b (as_let b)

pub let_refused_1 : (room : ℕ) (b after : List MarkedToken) (e : Refusal) → Refuses (keyword keywords.Let) room b e after → Refuses let_form room b e after
let_refused_1 room b after e h = passes let_form let_1 room make_let b b after e (begin_let room b) (first_refuses (keyword keywords.Let) (λ _. let_2) let_apart_1 room b after e (λ a is. ((some_declarations, (None, nowhere)), ((tt, tt), (tt, tt)))) h)

module _ (room : ℕ) (b : List MarkedToken) where
  module _ (x1 : Place) (c1 : List MarkedToken) (h1 : Found (keyword keywords.Let) room b x1 c1) where
    let_at_1 : Leads let_form let_2 room (λ k. make_let (x1, k)) b c1
    let_at_1 = leads_on let_form let_1 let_2 room make_let (beside (keyword keywords.Let) (λ _. let_2) x1) b b c1 (begin_let room b) (leads_behind (keyword keywords.Let) (λ _. let_2) let_apart_1 room b c1 x1 h1)

    pub let_refused_2 : (after : List MarkedToken) (e : Refusal) → Refuses (declarations_form false) room c1 e after → Refuses let_form room b e after
    let_refused_2 after e h = passes let_form let_2 room (λ k. make_let (x1, k)) b c1 after e let_at_1 (first_refuses (declarations_form false) (λ _. let_3) let_apart_2 room c1 after e (λ a is. ((None, nowhere), (tt, tt))) h)

    module _ (x2 : DeclarationsData) (c2 : List MarkedToken) (h2 : Found (declarations_form false) room c1 x2 c2) where
      let_at_2 : Leads let_form let_3 room (λ k. make_let (x1, (x2, k))) b c2
      let_at_2 = leads_on let_form let_2 let_3 room (λ k. make_let (x1, k)) (beside (declarations_form false) (λ _. let_3) x2) b c1 c2 let_at_1 (leads_behind (declarations_form false) (λ _. let_3) let_apart_2 room c1 c2 x2 h2)

      pub let_refused_3 : (after : List MarkedToken) (e : Refusal) → Refuses maybe_such_form room c2 e after → Refuses let_form room b e after
      let_refused_3 after e h = passes let_form let_3 room (λ k. make_let (x1, (x2, k))) b c2 after e let_at_2 (first_refuses maybe_such_form (λ _. let_4) let_apart_3 room c2 after e (λ a is. (nowhere, tt)) h)

      module _ (x3 : (Option SuchTree)) (c3 : List MarkedToken) (h3 : Found maybe_such_form room c2 x3 c3) where
        let_at_3 : Leads let_form let_4 room (λ k. make_let (x1, (x2, (x3, k)))) b c3
        let_at_3 = leads_on let_form let_3 let_4 room (λ k. make_let (x1, (x2, k))) (beside maybe_such_form (λ _. let_4) x3) b c2 c3 let_at_2 (leads_behind maybe_such_form (λ _. let_4) let_apart_3 room c2 c3 x3 h3)

        pub let_refused_4 : (after : List MarkedToken) (e : Refusal) → Refuses (keyword keywords.Semicolon) room c3 e after → Refuses let_form room b e after
        let_refused_4 after e h = passes let_form let_4 room (λ k. make_let (x1, (x2, (x3, k)))) b c3 after e let_at_3 h

        pub let_found : (x4 : Place) (after : List MarkedToken) → Found (keyword keywords.Semicolon) room c3 x4 after → Found let_form room b (make_let (x1, (x2, (x3, x4)))) after
        let_found x4 after h = let_at_3.finds x4 after h

-- assume
abbrev pub assume_3 : Form MarkedToken
assume_3 = keyword keywords.Semicolon

abbrev pub assume_2 : Form MarkedToken
assume_2 = then hypotheses_form (λ _. assume_3)

abbrev pub assume_1 : Form MarkedToken
assume_1 = then (keyword keywords.Assume) (λ _. assume_2)

pub assume_apart_1 : Apart (keyword keywords.Assume) (λ _. assume_2)
assume_apart_1 = apart_closed (keyword keywords.Assume) (λ _. assume_2) (λ a t. refl)

pub assume_apart_2 : Apart hypotheses_form (λ _. assume_3)
assume_apart_2 = before_key hypotheses_form keywords.Semicolon (λ a p g. key_off goes_on_propositions keywords.Semicolon p refl refl (g))

abbrev pub make_assume : assume_1.Tree → AssumeTree
make_assume k = record { assume = k.0; hypotheses = k.1.0; semicolon = k.1.1 }

pub only_assume : (x : AssumeTree) → assume_form.IsTree x → (k : assume_1.Tree) × assume_1.IsTree k × (x ≡ make_assume k)
only_assume x is = ((x.assume, (x.hypotheses, x.semicolon)), (tt, (is, tt)), refl)

ends_assume : Ends assume_1
ends_assume = ends_then (keyword keywords.Assume) (λ _. assume_2) (λ _. ends_then hypotheses_form (λ _. assume_3) (λ _. ends_class Place (key keywords.Semicolon)))

pub as_assume : (b : List MarkedToken) → Reshapes assume_form assume_1 make_assume b
as_assume b = record {
  into = λ k is. is.1.0;
  spells = λ k is. refl;
  only = λ x is g. only_assume x is;
  goes = λ k t is g. absurd (ends_assume.closed k t is g);
  level = λ k is. refl;
}

begin_assume : (room : ℕ) (b : List MarkedToken) → Leads assume_form assume_1 room make_assume b b
begin_assume room b = leads_as assume_form assume_1 make_assume room b (as_assume b)

pub assume_refused_1 : (room : ℕ) (b after : List MarkedToken) (e : Refusal) → Refuses (keyword keywords.Assume) room b e after → Refuses assume_form room b e after
assume_refused_1 room b after e h = passes assume_form assume_1 room make_assume b b after e (begin_assume room b) (first_refuses (keyword keywords.Assume) (λ _. assume_2) assume_apart_1 room b after e (λ a is. ((some_hypotheses, nowhere), (((tt, tt), tt), tt))) h)

module _ (room : ℕ) (b : List MarkedToken) where
  module _ (x1 : Place) (c1 : List MarkedToken) (h1 : Found (keyword keywords.Assume) room b x1 c1) where
    assume_at_1 : Leads assume_form assume_2 room (λ k. make_assume (x1, k)) b c1
    assume_at_1 = leads_on assume_form assume_1 assume_2 room make_assume (beside (keyword keywords.Assume) (λ _. assume_2) x1) b b c1 (begin_assume room b) (leads_behind (keyword keywords.Assume) (λ _. assume_2) assume_apart_1 room b c1 x1 h1)

    pub assume_refused_2 : (after : List MarkedToken) (e : Refusal) → Refuses hypotheses_form room c1 e after → Refuses assume_form room b e after
    assume_refused_2 after e h = passes assume_form assume_2 room (λ k. make_assume (x1, k)) b c1 after e assume_at_1 (first_refuses hypotheses_form (λ _. assume_3) assume_apart_2 room c1 after e (λ a is. (nowhere, tt)) h)

    module _ (x2 : HypothesesTree) (c2 : List MarkedToken) (h2 : Found hypotheses_form room c1 x2 c2) where
      assume_at_2 : Leads assume_form assume_3 room (λ k. make_assume (x1, (x2, k))) b c2
      assume_at_2 = leads_on assume_form assume_2 assume_3 room (λ k. make_assume (x1, k)) (beside hypotheses_form (λ _. assume_3) x2) b c1 c2 assume_at_1 (leads_behind hypotheses_form (λ _. assume_3) assume_apart_2 room c1 c2 x2 h2)

      pub assume_refused_3 : (after : List MarkedToken) (e : Refusal) → Refuses (keyword keywords.Semicolon) room c2 e after → Refuses assume_form room b e after
      assume_refused_3 after e h = passes assume_form assume_3 room (λ k. make_assume (x1, (x2, k))) b c2 after e assume_at_2 h

      pub assume_found : (x3 : Place) (after : List MarkedToken) → Found (keyword keywords.Semicolon) room c2 x3 after → Found assume_form room b (make_assume (x1, (x2, x3))) after
      assume_found x3 after h = assume_at_2.finds x3 after h

-- given
abbrev pub given_4 : Form MarkedToken
given_4 = keyword keywords.Semicolon

abbrev pub given_3 : Form MarkedToken
given_3 = then such_form (λ _. given_4)

abbrev pub given_2 : Form MarkedToken
given_2 = then (declarations_form false) (λ _. given_3)

abbrev pub given_1 : Form MarkedToken
given_1 = then (keyword keywords.Given) (λ _. given_2)

pub given_apart_1 : Apart (keyword keywords.Given) (λ _. given_2)
given_apart_1 = apart_closed (keyword keywords.Given) (λ _. given_2) (λ a t. refl)

pub given_apart_2 : Apart (declarations_form false) (λ _. given_3)
given_apart_2 = before_such (declarations_form false) (λ s k. goes_on_declared s) refl (λ a t g. g) (λ _. given_4)

pub given_apart_3 : Apart such_form (λ _. given_4)
given_apart_3 = before_key such_form keywords.Semicolon (λ a p g. key_off goes_on_propositions keywords.Semicolon p refl refl (g))

abbrev pub make_given : given_1.Tree → GivenTree
make_given k = record { given = k.0; declarations = k.1.0; such = k.1.1.0; semicolon = k.1.1.1 }

pub only_given : (x : GivenTree) → given_form.IsTree x → (k : given_1.Tree) × given_1.IsTree k × (x ≡ make_given k)
only_given x is = ((x.given, (x.declarations, (x.such, x.semicolon))), (tt, (is.0, (is.1, tt))), refl)

ends_given : Ends given_1
ends_given = ends_then (keyword keywords.Given) (λ _. given_2) (λ _. ends_then (declarations_form false) (λ _. given_3) (λ _. ends_then such_form (λ _. given_4) (λ _. ends_class Place (key keywords.Semicolon))))

given_spells : (k : given_1.Tree) → spell_given (make_given k) ≡ given_1.spell k
given_spells k = ap (λ z. key keywords.Given k.0 ∷ z) (append_assoc (spell_declarations k.1.0) (spell_such k.1.1.0) (key keywords.Semicolon k.1.1.1 ∷ []))

given_levels : (k : given_1.Tree) → levels_given (make_given k) ≡ given_1.levels k
given_levels k = ap (λ z. 0 ∷ z) (append_assoc (levels_declarations k.1.0) (levels_such k.1.1.0) (0 ∷ []))

pub as_given : (b : List MarkedToken) → Reshapes given_form given_1 make_given b
as_given b = record {
  into = λ k is. (is.1.0, is.1.1.0);
  spells = λ k is. given_spells k;
  only = λ x is g. only_given x is;
  goes = λ k t is g. absurd (ends_given.closed k t is g);
  level = λ k is. given_levels k;
}

begin_given : (room : ℕ) (b : List MarkedToken) → Leads given_form given_1 room make_given b b
begin_given room b = leads_as given_form given_1 make_given room b (as_given b)

pub given_refused_1 : (room : ℕ) (b after : List MarkedToken) (e : Refusal) → Refuses (keyword keywords.Given) room b e after → Refuses given_form room b e after
given_refused_1 room b after e h = passes given_form given_1 room make_given b b after e (begin_given room b) (first_refuses (keyword keywords.Given) (λ _. given_2) given_apart_1 room b after e (λ a is. ((some_declarations, (some_such, nowhere)), ((tt, tt), (some_such_is, tt)))) h)

module _ (room : ℕ) (b : List MarkedToken) where
  module _ (x1 : Place) (c1 : List MarkedToken) (h1 : Found (keyword keywords.Given) room b x1 c1) where
    given_at_1 : Leads given_form given_2 room (λ k. make_given (x1, k)) b c1
    given_at_1 = leads_on given_form given_1 given_2 room make_given (beside (keyword keywords.Given) (λ _. given_2) x1) b b c1 (begin_given room b) (leads_behind (keyword keywords.Given) (λ _. given_2) given_apart_1 room b c1 x1 h1)

    pub given_refused_2 : (after : List MarkedToken) (e : Refusal) → Refuses (declarations_form false) room c1 e after → Refuses given_form room b e after
    given_refused_2 after e h = passes given_form given_2 room (λ k. make_given (x1, k)) b c1 after e given_at_1 (first_refuses (declarations_form false) (λ _. given_3) given_apart_2 room c1 after e (λ a is. ((some_such, nowhere), (some_such_is, tt))) h)

    module _ (x2 : DeclarationsData) (c2 : List MarkedToken) (h2 : Found (declarations_form false) room c1 x2 c2) where
      given_at_2 : Leads given_form given_3 room (λ k. make_given (x1, (x2, k))) b c2
      given_at_2 = leads_on given_form given_2 given_3 room (λ k. make_given (x1, k)) (beside (declarations_form false) (λ _. given_3) x2) b c1 c2 given_at_1 (leads_behind (declarations_form false) (λ _. given_3) given_apart_2 room c1 c2 x2 h2)

      pub given_refused_3 : (after : List MarkedToken) (e : Refusal) → Refuses such_form room c2 e after → Refuses given_form room b e after
      given_refused_3 after e h = passes given_form given_3 room (λ k. make_given (x1, (x2, k))) b c2 after e given_at_2 (first_refuses such_form (λ _. given_4) given_apart_3 room c2 after e (λ a is. (nowhere, tt)) h)

      module _ (x3 : SuchTree) (c3 : List MarkedToken) (h3 : Found such_form room c2 x3 c3) where
        given_at_3 : Leads given_form given_4 room (λ k. make_given (x1, (x2, (x3, k)))) b c3
        given_at_3 = leads_on given_form given_3 given_4 room (λ k. make_given (x1, (x2, k))) (beside such_form (λ _. given_4) x3) b c2 c3 given_at_2 (leads_behind such_form (λ _. given_4) given_apart_3 room c2 c3 x3 h3)

        pub given_refused_4 : (after : List MarkedToken) (e : Refusal) → Refuses (keyword keywords.Semicolon) room c3 e after → Refuses given_form room b e after
        given_refused_4 after e h = passes given_form given_4 room (λ k. make_given (x1, (x2, (x3, k)))) b c3 after e given_at_3 h

        pub given_found : (x4 : Place) (after : List MarkedToken) → Found (keyword keywords.Semicolon) room c3 x4 after → Found given_form room b (make_given (x1, (x2, (x3, x4)))) after
        given_found x4 after h = given_at_3.finds x4 after h

-- take
abbrev pub take_3 : Form MarkedToken
take_3 = keyword keywords.Semicolon

abbrev pub take_2 : Form MarkedToken
take_2 = then takens_form (λ _. take_3)

abbrev pub take_1 : Form MarkedToken
take_1 = then (keyword keywords.Take) (λ _. take_2)

pub take_apart_1 : Apart (keyword keywords.Take) (λ _. take_2)
take_apart_1 = apart_closed (keyword keywords.Take) (λ _. take_2) (λ a t. refl)

pub take_apart_2 : Apart takens_form (λ _. take_3)
take_apart_2 = before_key takens_form keywords.Semicolon (λ a p g. key_off (λ s k. goes_on_list s) keywords.Semicolon p refl refl (g))

abbrev pub make_take : take_1.Tree → TakeTree
make_take k = record { take = k.0; taken = k.1.0; semicolon = k.1.1 }

pub only_take : (x : TakeTree) → take_form.IsTree x → (k : take_1.Tree) × take_1.IsTree k × (x ≡ make_take k)
only_take x is = ((x.take, (x.taken, x.semicolon)), (tt, (is, tt)), refl)

ends_take : Ends take_1
ends_take = ends_then (keyword keywords.Take) (λ _. take_2) (λ _. ends_then takens_form (λ _. take_3) (λ _. ends_class Place (key keywords.Semicolon)))

pub as_take : (b : List MarkedToken) → Reshapes take_form take_1 make_take b
as_take b = record {
  into = λ k is. is.1.0;
  spells = λ k is. refl;
  only = λ x is g. only_take x is;
  goes = λ k t is g. absurd (ends_take.closed k t is g);
  level = λ k is. refl;
}

begin_take : (room : ℕ) (b : List MarkedToken) → Leads take_form take_1 room make_take b b
begin_take room b = leads_as take_form take_1 make_take room b (as_take b)

pub take_refused_1 : (room : ℕ) (b after : List MarkedToken) (e : Refusal) → Refuses (keyword keywords.Take) room b e after → Refuses take_form room b e after
take_refused_1 room b after e h = passes take_form take_1 room make_take b b after e (begin_take room b) (first_refuses (keyword keywords.Take) (λ _. take_2) take_apart_1 room b after e (λ a is. ((some_takens, nowhere), (((tt, tt), tt), tt))) h)

module _ (room : ℕ) (b : List MarkedToken) where
  module _ (x1 : Place) (c1 : List MarkedToken) (h1 : Found (keyword keywords.Take) room b x1 c1) where
    take_at_1 : Leads take_form take_2 room (λ k. make_take (x1, k)) b c1
    take_at_1 = leads_on take_form take_1 take_2 room make_take (beside (keyword keywords.Take) (λ _. take_2) x1) b b c1 (begin_take room b) (leads_behind (keyword keywords.Take) (λ _. take_2) take_apart_1 room b c1 x1 h1)

    pub take_refused_2 : (after : List MarkedToken) (e : Refusal) → Refuses takens_form room c1 e after → Refuses take_form room b e after
    take_refused_2 after e h = passes take_form take_2 room (λ k. make_take (x1, k)) b c1 after e take_at_1 (first_refuses takens_form (λ _. take_3) take_apart_2 room c1 after e (λ a is. (nowhere, tt)) h)

    module _ (x2 : (Separated TakenTree)) (c2 : List MarkedToken) (h2 : Found takens_form room c1 x2 c2) where
      take_at_2 : Leads take_form take_3 room (λ k. make_take (x1, (x2, k))) b c2
      take_at_2 = leads_on take_form take_2 take_3 room (λ k. make_take (x1, k)) (beside takens_form (λ _. take_3) x2) b c1 c2 take_at_1 (leads_behind takens_form (λ _. take_3) take_apart_2 room c1 c2 x2 h2)

      pub take_refused_3 : (after : List MarkedToken) (e : Refusal) → Refuses (keyword keywords.Semicolon) room c2 e after → Refuses take_form room b e after
      take_refused_3 after e h = passes take_form take_3 room (λ k. make_take (x1, (x2, k))) b c2 after e take_at_2 h

      pub take_found : (x3 : Place) (after : List MarkedToken) → Found (keyword keywords.Semicolon) room c2 x3 after → Found take_form room b (make_take (x1, (x2, x3))) after
      take_found x3 after h = take_at_2.finds x3 after h

-- split
abbrev pub split_4 : Form MarkedToken
split_4 = keyword keywords.Semicolon

abbrev pub split_3 : Form MarkedToken
split_3 = then simple_form (λ _. split_4)

abbrev pub split_2 : Form MarkedToken
split_2 = then (keyword keywords.Cases) (λ _. split_3)

abbrev pub split_1 : Form MarkedToken
split_1 = then (keyword keywords.Per) (λ _. split_2)

pub split_apart_1 : Apart (keyword keywords.Per) (λ _. split_2)
split_apart_1 = apart_closed (keyword keywords.Per) (λ _. split_2) (λ a t. refl)

pub split_apart_2 : Apart (keyword keywords.Cases) (λ _. split_3)
split_apart_2 = apart_closed (keyword keywords.Cases) (λ _. split_3) (λ a t. refl)

pub split_apart_3 : Apart simple_form (λ _. split_4)
split_apart_3 = before_key simple_form keywords.Semicolon (λ a p g. key_off goes_on_simple keywords.Semicolon p refl refl (g))

abbrev pub make_split : split_1.Tree → split_1.Tree
make_split k = k

begin_split : (room : ℕ) (b : List MarkedToken) → Leads split_form split_1 room make_split b b
begin_split room b = leads_here split_1 room b

pub split_refused_1 : (room : ℕ) (b after : List MarkedToken) (e : Refusal) → Refuses (keyword keywords.Per) room b e after → Refuses split_form room b e after
split_refused_1 room b after e h = passes split_form split_1 room make_split b b after e (begin_split room b) (first_refuses (keyword keywords.Per) (λ _. split_2) split_apart_1 room b after e (λ a is. ((nowhere, (simple_tree.Nothing, nowhere)), (tt, (tt, tt)))) h)

module _ (room : ℕ) (b : List MarkedToken) where
  module _ (x1 : Place) (c1 : List MarkedToken) (h1 : Found (keyword keywords.Per) room b x1 c1) where
    split_at_1 : Leads split_form split_2 room (λ k. make_split (x1, k)) b c1
    split_at_1 = leads_on split_form split_1 split_2 room make_split (beside (keyword keywords.Per) (λ _. split_2) x1) b b c1 (begin_split room b) (leads_behind (keyword keywords.Per) (λ _. split_2) split_apart_1 room b c1 x1 h1)

    pub split_refused_2 : (after : List MarkedToken) (e : Refusal) → Refuses (keyword keywords.Cases) room c1 e after → Refuses split_form room b e after
    split_refused_2 after e h = passes split_form split_2 room (λ k. make_split (x1, k)) b c1 after e split_at_1 (first_refuses (keyword keywords.Cases) (λ _. split_3) split_apart_2 room c1 after e (λ a is. ((simple_tree.Nothing, nowhere), (tt, tt))) h)

    module _ (x2 : Place) (c2 : List MarkedToken) (h2 : Found (keyword keywords.Cases) room c1 x2 c2) where
      split_at_2 : Leads split_form split_3 room (λ k. make_split (x1, (x2, k))) b c2
      split_at_2 = leads_on split_form split_2 split_3 room (λ k. make_split (x1, k)) (beside (keyword keywords.Cases) (λ _. split_3) x2) b c1 c2 split_at_1 (leads_behind (keyword keywords.Cases) (λ _. split_3) split_apart_2 room c1 c2 x2 h2)

      pub split_refused_3 : (after : List MarkedToken) (e : Refusal) → Refuses simple_form room c2 e after → Refuses split_form room b e after
      split_refused_3 after e h = passes split_form split_3 room (λ k. make_split (x1, (x2, k))) b c2 after e split_at_2 (first_refuses simple_form (λ _. split_4) split_apart_3 room c2 after e (λ a is. (nowhere, tt)) h)

      module _ (x3 : SimpleTree) (c3 : List MarkedToken) (h3 : Found simple_form room c2 x3 c3) where
        split_at_3 : Leads split_form split_4 room (λ k. make_split (x1, (x2, (x3, k)))) b c3
        split_at_3 = leads_on split_form split_3 split_4 room (λ k. make_split (x1, (x2, k))) (beside simple_form (λ _. split_4) x3) b c2 c3 split_at_2 (leads_behind simple_form (λ _. split_4) split_apart_3 room c2 c3 x3 h3)

        pub split_refused_4 : (after : List MarkedToken) (e : Refusal) → Refuses (keyword keywords.Semicolon) room c3 e after → Refuses split_form room b e after
        split_refused_4 after e h = passes split_form split_4 room (λ k. make_split (x1, (x2, (x3, k)))) b c3 after e split_at_3 h

        pub split_found : (x4 : Place) (after : List MarkedToken) → Found (keyword keywords.Semicolon) room c3 x4 after → Found split_form room b (make_split (x1, (x2, (x3, x4)))) after
        split_found x4 after h = split_at_3.finds x4 after h
