-- The readings of headings of functors, predicates and attributes.
use Rattle.std.specs.Prelude.{codes}
use Rattle.std.proofs.Common.{◌≡◌, ℕ, List, [], ◌∷◌, refl, ap, append_assoc, None}
use Rattle.mz_base.specs.declared.token.MarkedToken.{MarkedToken}
use Rattle.mz_forms.specs.declared.refusal.Refusal.{Refusal}
use Rattle.mz_forms.specs.Form.{Form, Found, Leads, then}
use Rattle.mz_forms.specs.Reading.{Refuses}
use Rattle.mz_forms.proofs.Choose.{Reshapes}
use Rattle.mz_forms.proofs.Compose.{Apart}
use Rattle.mz_forms.proofs.Leads.{leads_as, apart_closed, passes}
use Rattle.mz_tree_heading.specs.declared.patterns.FunctorPatternTree.{FunctorPatternTree}
use Rattle.mz_tree_heading.specs.declared.patterns.FunctorPatternTree.TheVariants as functor_pattern_tree
use Rattle.mz_tree_heading.specs.declared.patterns.PredicatePatternTree.{PredicatePatternTree}
use Rattle.mz_tree_heading.specs.declared.patterns.AttributePatternTree.{AttributePatternTree}
use Rattle.mz_pterm.proofs.Bases.{word_at}
use Rattle.mz_pjustification.specs.declared.keyword.Keyword.TheVariants as keywords
use Rattle.mz_pjustification.specs.Words.{key, keyword}
use Rattle.mz_pjustification.proofs.Taken.{nowhere}
use Rattle.mz_pstep.proofs.Ends.{Ends, ends_key, ends_then}
use Rattle.mz_ppattern.specs.Words.{word_form, word_token}
use Rattle.mz_ppattern.specs.Classes.{goes_on_pattern}
use Rattle.mz_ppattern.specs.Forms.{functor_pattern_form, predicate_pattern_form, attribute_pattern_form}
use Rattle.mz_pheading.specs.HeadingForms.{attribute_heading_form, functor_heading_form, predicate_heading_form}
use Rattle.mz_pheading.specs.ModeForms.{optional_result}
use Rattle.mz_pmeaning.proofs.Bodies.{IsMeant}
use Rattle.mz_pheading.proofs.ModeSteps.{meant_apart, meant_unsigned, result_apart, result_unsigned}
use Rattle.mz_pmeaning.proofs.Steps.{next, stopped, apart_unsigned, append-grouped}

-- Examples.
abbrev pub some_functor_pattern : FunctorPatternTree
some_functor_pattern = functor_pattern_tree.Symbol (record { left = None; symbol = word_at nowhere; priority = 0; right = None })

abbrev pub some_predicate_pattern : PredicatePatternTree
some_predicate_pattern = record { left = None; symbol = word_at nowhere; right = None }

abbrev pub some_attribute_pattern : AttributePatternTree
some_attribute_pattern = record { subject = word_at nowhere; is = nowhere; loci = None; symbol = word_at nowhere }

module _ (M : Form MarkedToken) (meant : IsMeant M) where
  -- functor
  abbrev pub functor_5 : Form MarkedToken
  functor_5 = (keyword keywords.Semicolon)

  abbrev pub functor_4 : Form MarkedToken
  functor_4 = then M (λ _. functor_5)

  abbrev pub functor_3 : Form MarkedToken
  functor_3 = then optional_result (λ _. functor_4)

  abbrev pub functor_2 : Form MarkedToken
  functor_2 = then functor_pattern_form (λ _. functor_3)

  abbrev pub functor_1 : Form MarkedToken
  functor_1 = then (word_form (codes "func")) (λ _. functor_2)

  pub functor_apart_1 : Apart (word_form (codes "func")) (λ _. functor_2)
  functor_apart_1 = apart_closed (word_form (codes "func")) (λ _. functor_2) (λ a t. refl)

  pub functor_apart_2 : Apart functor_pattern_form (λ _. functor_3)
  functor_apart_2 = apart_unsigned functor_pattern_form functor_3 goes_on_pattern (λ a t is g. g) refl (result_unsigned M meant)

  pub functor_apart_3 : Apart optional_result (λ _. functor_4)
  functor_apart_3 = result_apart M meant

  pub functor_apart_4 : Apart M (λ _. functor_5)
  functor_apart_4 = meant_apart M meant

  abbrev pub make_functor : functor_1.Tree → (functor_heading_form M).Tree
  make_functor k = record { func = k.0; pattern = k.1.0; result = k.1.1.0; meaning = k.1.1.1.0; semicolon = k.1.1.1.1 }

  pub only_functor : (x : (functor_heading_form M).Tree) → (functor_heading_form M).IsTree x → (k : functor_1.Tree) × functor_1.IsTree k × (x ≡ make_functor k)
  only_functor x is = ((x.func, (x.pattern, (x.result, (x.meaning, x.semicolon)))), (tt, (tt, (is.0, (is.1, tt)))), refl)

  ends_functor : Ends functor_1
  ends_functor = ends_then (word_form (codes "func")) (λ _. functor_2) (λ _. (ends_then functor_pattern_form (λ _. functor_3) (λ _. (ends_then optional_result (λ _. functor_4) (λ _. (ends_then M (λ _. functor_5) (λ _. (ends_key keywords.Semicolon))))))))

  pub as_functor : (b : List MarkedToken) → Reshapes (functor_heading_form M) functor_1 make_functor b
  as_functor b = record {
    into = λ k is. (is.1.1.0, is.1.1.1.0);
    spells = λ k is. ap (λ z. word_token (codes "func") k.0 ∷ z) (append-grouped (functor_pattern_form.spell k.1.0) (optional_result.spell k.1.1.0) (M.spell k.1.1.1.0) (key keywords.Semicolon k.1.1.1.1 ∷ []));
    only = λ x is g. only_functor x is;
    goes = λ k t is g. absurd (ends_functor.closed k t is g);
    level = λ k is. ap (λ z. 0 ∷ z) (append-grouped (functor_pattern_form.levels k.1.0) (optional_result.levels k.1.1.0) (M.levels k.1.1.1.0) (0 ∷ []));
  }

  begin_functor : (room : ℕ) (b : List MarkedToken) → Leads (functor_heading_form M) functor_1 room make_functor b b
  begin_functor room b = leads_as (functor_heading_form M) functor_1 make_functor room b (as_functor b)

  pub functor_refused_1 : (room : ℕ) (b after : List MarkedToken) (e : Refusal) → Refuses (word_form (codes "func")) room b e after → Refuses (functor_heading_form M) room b e after
  functor_refused_1 room b after e h = stopped (functor_heading_form M) (word_form (codes "func")) (λ _. functor_2) functor_apart_1 room b b make_functor (begin_functor room b) after e (λ a is. ((some_functor_pattern, (None, (meant.some, nowhere))), (tt, (tt, (meant.some_is, tt))))) h

  module _ (room : ℕ) (b : List MarkedToken) where
    module _ (x1 : (word_form (codes "func")).Tree) (c1 : List MarkedToken) (h1 : Found (word_form (codes "func")) room b x1 c1) where
      functor_at_1 : Leads (functor_heading_form M) functor_2 room (λ k. make_functor (x1, k)) b c1
      functor_at_1 = next (functor_heading_form M) (word_form (codes "func")) (λ _. functor_2) functor_apart_1 room b b make_functor (begin_functor room b) x1 c1 h1

      pub functor_refused_2 : (after : List MarkedToken) (e : Refusal) → Refuses functor_pattern_form room c1 e after → Refuses (functor_heading_form M) room b e after
      functor_refused_2 after e h = stopped (functor_heading_form M) functor_pattern_form (λ _. functor_3) functor_apart_2 room b c1 (λ k. make_functor (x1, k)) functor_at_1 after e (λ a is. ((None, (meant.some, nowhere)), (tt, (meant.some_is, tt)))) h

      module _ (x2 : functor_pattern_form.Tree) (c2 : List MarkedToken) (h2 : Found functor_pattern_form room c1 x2 c2) where
        functor_at_2 : Leads (functor_heading_form M) functor_3 room (λ k. make_functor (x1, (x2, k))) b c2
        functor_at_2 = next (functor_heading_form M) functor_pattern_form (λ _. functor_3) functor_apart_2 room b c1 (λ k. make_functor (x1, k)) functor_at_1 x2 c2 h2

        pub functor_refused_3 : (after : List MarkedToken) (e : Refusal) → Refuses optional_result room c2 e after → Refuses (functor_heading_form M) room b e after
        functor_refused_3 after e h = stopped (functor_heading_form M) optional_result (λ _. functor_4) functor_apart_3 room b c2 (λ k. make_functor (x1, (x2, k))) functor_at_2 after e (λ a is. ((meant.some, nowhere), (meant.some_is, tt))) h

        module _ (x3 : optional_result.Tree) (c3 : List MarkedToken) (h3 : Found optional_result room c2 x3 c3) where
          functor_at_3 : Leads (functor_heading_form M) functor_4 room (λ k. make_functor (x1, (x2, (x3, k)))) b c3
          functor_at_3 = next (functor_heading_form M) optional_result (λ _. functor_4) functor_apart_3 room b c2 (λ k. make_functor (x1, (x2, k))) functor_at_2 x3 c3 h3

          pub functor_refused_4 : (after : List MarkedToken) (e : Refusal) → Refuses M room c3 e after → Refuses (functor_heading_form M) room b e after
          functor_refused_4 after e h = stopped (functor_heading_form M) M (λ _. functor_5) functor_apart_4 room b c3 (λ k. make_functor (x1, (x2, (x3, k)))) functor_at_3 after e (λ a is. (nowhere, tt)) h

          module _ (x4 : M.Tree) (c4 : List MarkedToken) (h4 : Found M room c3 x4 c4) where
            functor_at_4 : Leads (functor_heading_form M) functor_5 room (λ k. make_functor (x1, (x2, (x3, (x4, k))))) b c4
            functor_at_4 = next (functor_heading_form M) M (λ _. functor_5) functor_apart_4 room b c3 (λ k. make_functor (x1, (x2, (x3, k)))) functor_at_3 x4 c4 h4

            pub functor_refused_5 : (after : List MarkedToken) (e : Refusal) → Refuses (keyword keywords.Semicolon) room c4 e after → Refuses (functor_heading_form M) room b e after
            functor_refused_5 after e h = passes (functor_heading_form M) functor_5 room (λ k. make_functor (x1, (x2, (x3, (x4, k))))) b c4 after e functor_at_4 h

            pub functor_found : (x5 : (keyword keywords.Semicolon).Tree) (after : List MarkedToken) → Found (keyword keywords.Semicolon) room c4 x5 after → Found (functor_heading_form M) room b (make_functor (x1, (x2, (x3, (x4, x5))))) after
            functor_found x5 after h = functor_at_4.finds x5 after h

  -- predicate
  abbrev pub predicate_4 : Form MarkedToken
  predicate_4 = (keyword keywords.Semicolon)

  abbrev pub predicate_3 : Form MarkedToken
  predicate_3 = then M (λ _. predicate_4)

  abbrev pub predicate_2 : Form MarkedToken
  predicate_2 = then predicate_pattern_form (λ _. predicate_3)

  abbrev pub predicate_1 : Form MarkedToken
  predicate_1 = then (word_form (codes "pred")) (λ _. predicate_2)

  pub predicate_apart_1 : Apart (word_form (codes "pred")) (λ _. predicate_2)
  predicate_apart_1 = apart_closed (word_form (codes "pred")) (λ _. predicate_2) (λ a t. refl)

  pub predicate_apart_2 : Apart predicate_pattern_form (λ _. predicate_3)
  predicate_apart_2 = apart_unsigned predicate_pattern_form predicate_3 goes_on_pattern (λ a t is g. g) refl (meant_unsigned M meant)

  pub predicate_apart_3 : Apart M (λ _. predicate_4)
  predicate_apart_3 = meant_apart M meant

  abbrev pub make_predicate : predicate_1.Tree → (predicate_heading_form M).Tree
  make_predicate k = record { pred = k.0; pattern = k.1.0; meaning = k.1.1.0; semicolon = k.1.1.1 }

  pub only_predicate : (x : (predicate_heading_form M).Tree) → (predicate_heading_form M).IsTree x → (k : predicate_1.Tree) × predicate_1.IsTree k × (x ≡ make_predicate k)
  only_predicate x is = ((x.pred, (x.pattern, (x.meaning, x.semicolon))), (tt, (tt, (is, tt))), refl)

  ends_predicate : Ends predicate_1
  ends_predicate = ends_then (word_form (codes "pred")) (λ _. predicate_2) (λ _. (ends_then predicate_pattern_form (λ _. predicate_3) (λ _. (ends_then M (λ _. predicate_4) (λ _. (ends_key keywords.Semicolon))))))

  pub as_predicate : (b : List MarkedToken) → Reshapes (predicate_heading_form M) predicate_1 make_predicate b
  as_predicate b = record {
    into = λ k is. is.1.1.0;
    spells = λ k is. ap (λ z. word_token (codes "pred") k.0 ∷ z) (append_assoc (predicate_pattern_form.spell k.1.0) (M.spell k.1.1.0) (key keywords.Semicolon k.1.1.1 ∷ []));
    only = λ x is g. only_predicate x is;
    goes = λ k t is g. absurd (ends_predicate.closed k t is g);
    level = λ k is. ap (λ z. 0 ∷ z) (append_assoc (predicate_pattern_form.levels k.1.0) (M.levels k.1.1.0) (0 ∷ []));
  }

  begin_predicate : (room : ℕ) (b : List MarkedToken) → Leads (predicate_heading_form M) predicate_1 room make_predicate b b
  begin_predicate room b = leads_as (predicate_heading_form M) predicate_1 make_predicate room b (as_predicate b)

  pub predicate_refused_1 : (room : ℕ) (b after : List MarkedToken) (e : Refusal) → Refuses (word_form (codes "pred")) room b e after → Refuses (predicate_heading_form M) room b e after
  predicate_refused_1 room b after e h = stopped (predicate_heading_form M) (word_form (codes "pred")) (λ _. predicate_2) predicate_apart_1 room b b make_predicate (begin_predicate room b) after e (λ a is. ((some_predicate_pattern, (meant.some, nowhere)), (tt, (meant.some_is, tt)))) h

  module _ (room : ℕ) (b : List MarkedToken) where
    module _ (x1 : (word_form (codes "pred")).Tree) (c1 : List MarkedToken) (h1 : Found (word_form (codes "pred")) room b x1 c1) where
      predicate_at_1 : Leads (predicate_heading_form M) predicate_2 room (λ k. make_predicate (x1, k)) b c1
      predicate_at_1 = next (predicate_heading_form M) (word_form (codes "pred")) (λ _. predicate_2) predicate_apart_1 room b b make_predicate (begin_predicate room b) x1 c1 h1

      pub predicate_refused_2 : (after : List MarkedToken) (e : Refusal) → Refuses predicate_pattern_form room c1 e after → Refuses (predicate_heading_form M) room b e after
      predicate_refused_2 after e h = stopped (predicate_heading_form M) predicate_pattern_form (λ _. predicate_3) predicate_apart_2 room b c1 (λ k. make_predicate (x1, k)) predicate_at_1 after e (λ a is. ((meant.some, nowhere), (meant.some_is, tt))) h

      module _ (x2 : predicate_pattern_form.Tree) (c2 : List MarkedToken) (h2 : Found predicate_pattern_form room c1 x2 c2) where
        predicate_at_2 : Leads (predicate_heading_form M) predicate_3 room (λ k. make_predicate (x1, (x2, k))) b c2
        predicate_at_2 = next (predicate_heading_form M) predicate_pattern_form (λ _. predicate_3) predicate_apart_2 room b c1 (λ k. make_predicate (x1, k)) predicate_at_1 x2 c2 h2

        pub predicate_refused_3 : (after : List MarkedToken) (e : Refusal) → Refuses M room c2 e after → Refuses (predicate_heading_form M) room b e after
        predicate_refused_3 after e h = stopped (predicate_heading_form M) M (λ _. predicate_4) predicate_apart_3 room b c2 (λ k. make_predicate (x1, (x2, k))) predicate_at_2 after e (λ a is. (nowhere, tt)) h

        module _ (x3 : M.Tree) (c3 : List MarkedToken) (h3 : Found M room c2 x3 c3) where
          predicate_at_3 : Leads (predicate_heading_form M) predicate_4 room (λ k. make_predicate (x1, (x2, (x3, k)))) b c3
          predicate_at_3 = next (predicate_heading_form M) M (λ _. predicate_4) predicate_apart_3 room b c2 (λ k. make_predicate (x1, (x2, k))) predicate_at_2 x3 c3 h3

          pub predicate_refused_4 : (after : List MarkedToken) (e : Refusal) → Refuses (keyword keywords.Semicolon) room c3 e after → Refuses (predicate_heading_form M) room b e after
          predicate_refused_4 after e h = passes (predicate_heading_form M) predicate_4 room (λ k. make_predicate (x1, (x2, (x3, k)))) b c3 after e predicate_at_3 h

          pub predicate_found : (x4 : (keyword keywords.Semicolon).Tree) (after : List MarkedToken) → Found (keyword keywords.Semicolon) room c3 x4 after → Found (predicate_heading_form M) room b (make_predicate (x1, (x2, (x3, x4)))) after
          predicate_found x4 after h = predicate_at_3.finds x4 after h

  -- attribute
  abbrev pub attribute_4 : Form MarkedToken
  attribute_4 = (keyword keywords.Semicolon)

  abbrev pub attribute_3 : Form MarkedToken
  attribute_3 = then M (λ _. attribute_4)

  abbrev pub attribute_2 : Form MarkedToken
  attribute_2 = then attribute_pattern_form (λ _. attribute_3)

  abbrev pub attribute_1 : Form MarkedToken
  attribute_1 = then (word_form (codes "attr")) (λ _. attribute_2)

  pub attribute_apart_1 : Apart (word_form (codes "attr")) (λ _. attribute_2)
  attribute_apart_1 = apart_closed (word_form (codes "attr")) (λ _. attribute_2) (λ a t. refl)

  pub attribute_apart_2 : Apart attribute_pattern_form (λ _. attribute_3)
  attribute_apart_2 = apart_unsigned attribute_pattern_form attribute_3 goes_on_pattern (λ a t is g. g) refl (meant_unsigned M meant)

  pub attribute_apart_3 : Apart M (λ _. attribute_4)
  attribute_apart_3 = meant_apart M meant

  abbrev pub make_attribute : attribute_1.Tree → (attribute_heading_form M).Tree
  make_attribute k = record { attr = k.0; pattern = k.1.0; meaning = k.1.1.0; semicolon = k.1.1.1 }

  pub only_attribute : (x : (attribute_heading_form M).Tree) → (attribute_heading_form M).IsTree x → (k : attribute_1.Tree) × attribute_1.IsTree k × (x ≡ make_attribute k)
  only_attribute x is = ((x.attr, (x.pattern, (x.meaning, x.semicolon))), (tt, (tt, (is, tt))), refl)

  ends_attribute : Ends attribute_1
  ends_attribute = ends_then (word_form (codes "attr")) (λ _. attribute_2) (λ _. (ends_then attribute_pattern_form (λ _. attribute_3) (λ _. (ends_then M (λ _. attribute_4) (λ _. (ends_key keywords.Semicolon))))))

  pub as_attribute : (b : List MarkedToken) → Reshapes (attribute_heading_form M) attribute_1 make_attribute b
  as_attribute b = record {
    into = λ k is. is.1.1.0;
    spells = λ k is. ap (λ z. word_token (codes "attr") k.0 ∷ z) (append_assoc (attribute_pattern_form.spell k.1.0) (M.spell k.1.1.0) (key keywords.Semicolon k.1.1.1 ∷ []));
    only = λ x is g. only_attribute x is;
    goes = λ k t is g. absurd (ends_attribute.closed k t is g);
    level = λ k is. ap (λ z. 0 ∷ z) (append_assoc (attribute_pattern_form.levels k.1.0) (M.levels k.1.1.0) (0 ∷ []));
  }

  begin_attribute : (room : ℕ) (b : List MarkedToken) → Leads (attribute_heading_form M) attribute_1 room make_attribute b b
  begin_attribute room b = leads_as (attribute_heading_form M) attribute_1 make_attribute room b (as_attribute b)

  pub attribute_refused_1 : (room : ℕ) (b after : List MarkedToken) (e : Refusal) → Refuses (word_form (codes "attr")) room b e after → Refuses (attribute_heading_form M) room b e after
  attribute_refused_1 room b after e h = stopped (attribute_heading_form M) (word_form (codes "attr")) (λ _. attribute_2) attribute_apart_1 room b b make_attribute (begin_attribute room b) after e (λ a is. ((some_attribute_pattern, (meant.some, nowhere)), (tt, (meant.some_is, tt)))) h

  module _ (room : ℕ) (b : List MarkedToken) where
    module _ (x1 : (word_form (codes "attr")).Tree) (c1 : List MarkedToken) (h1 : Found (word_form (codes "attr")) room b x1 c1) where
      attribute_at_1 : Leads (attribute_heading_form M) attribute_2 room (λ k. make_attribute (x1, k)) b c1
      attribute_at_1 = next (attribute_heading_form M) (word_form (codes "attr")) (λ _. attribute_2) attribute_apart_1 room b b make_attribute (begin_attribute room b) x1 c1 h1

      pub attribute_refused_2 : (after : List MarkedToken) (e : Refusal) → Refuses attribute_pattern_form room c1 e after → Refuses (attribute_heading_form M) room b e after
      attribute_refused_2 after e h = stopped (attribute_heading_form M) attribute_pattern_form (λ _. attribute_3) attribute_apart_2 room b c1 (λ k. make_attribute (x1, k)) attribute_at_1 after e (λ a is. ((meant.some, nowhere), (meant.some_is, tt))) h

      module _ (x2 : attribute_pattern_form.Tree) (c2 : List MarkedToken) (h2 : Found attribute_pattern_form room c1 x2 c2) where
        attribute_at_2 : Leads (attribute_heading_form M) attribute_3 room (λ k. make_attribute (x1, (x2, k))) b c2
        attribute_at_2 = next (attribute_heading_form M) attribute_pattern_form (λ _. attribute_3) attribute_apart_2 room b c1 (λ k. make_attribute (x1, k)) attribute_at_1 x2 c2 h2

        pub attribute_refused_3 : (after : List MarkedToken) (e : Refusal) → Refuses M room c2 e after → Refuses (attribute_heading_form M) room b e after
        attribute_refused_3 after e h = stopped (attribute_heading_form M) M (λ _. attribute_4) attribute_apart_3 room b c2 (λ k. make_attribute (x1, (x2, k))) attribute_at_2 after e (λ a is. (nowhere, tt)) h

        module _ (x3 : M.Tree) (c3 : List MarkedToken) (h3 : Found M room c2 x3 c3) where
          attribute_at_3 : Leads (attribute_heading_form M) attribute_4 room (λ k. make_attribute (x1, (x2, (x3, k)))) b c3
          attribute_at_3 = next (attribute_heading_form M) M (λ _. attribute_4) attribute_apart_3 room b c2 (λ k. make_attribute (x1, (x2, k))) attribute_at_2 x3 c3 h3

          pub attribute_refused_4 : (after : List MarkedToken) (e : Refusal) → Refuses (keyword keywords.Semicolon) room c3 e after → Refuses (attribute_heading_form M) room b e after
          attribute_refused_4 after e h = passes (attribute_heading_form M) attribute_4 room (λ k. make_attribute (x1, (x2, (x3, k)))) b c3 after e attribute_at_3 h

          pub attribute_found : (x4 : (keyword keywords.Semicolon).Tree) (after : List MarkedToken) → Found (keyword keywords.Semicolon) room c3 x4 after → Found (attribute_heading_form M) room b (make_attribute (x1, (x2, (x3, x4)))) after
          attribute_found x4 after h = attribute_at_3.finds x4 after h
