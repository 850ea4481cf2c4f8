-- The readings of reasonings between a word and `end`, and of cases.
use Rattle.std.proofs.Common.{◌≡◌, ℕ, suc, ◌-◌, ◌<◌, arith, true, List, [], ◌∷◌, ◌++◌, map, refl, sym, ap, subst, ◌∙◌, append_assoc}
use Rattle.std.proofs.lemmas.List.{map-append}
use Rattle.mz_base.specs.declared.place.Place.{Place}
use Rattle.mz_base.specs.declared.token.MarkedToken.{MarkedToken}
use Rattle.mz_forms.specs.declared.refusal.Refusal.{Refusal}
use Rattle.mz_forms.specs.Form.{Form, Found, Leads, then, nested}
use Rattle.mz_forms.specs.Reading.{Refuses}
use Rattle.mz_forms.proofs.Choose.{Reshapes}
use Rattle.mz_forms.proofs.Compose.{Apart, head_of}
use Rattle.mz_forms.proofs.Leads.{leads_as, leads_behind, leads_on, beside, apart_closed, passes, first_refuses}
use Rattle.mz_forms.proofs.Nested.{found_under, refuses_under}
use Rattle.mz_forms.proofs.Words.{word_in_any, word_refuses}
use Rattle.mz_tree_proof.specs.declared.propositions.HypothesesTree.{HypothesesTree}
use Rattle.mz_tree_proof.specs.declared.propositions.HypothesesTree.TheVariants as hypotheses_tree
use Rattle.mz_tree_proof.specs.Spell.{spell_hypotheses}
use Rattle.mz_tree_proof.specs.Levels.{levels_hypotheses}
use Rattle.mz_tree_proof.specs.Reasoning.{StepList, SupposeData, CaseSuppose, no_steps}
use Rattle.mz_tree_proof.specs.SpellReasoning.{spell_suppose, spell_step_list}
use Rattle.mz_tree_proof.specs.LevelsReasoning.{levels_suppose, levels_step_list}
use Rattle.mz_pformula.proofs.Quantifiers.{some_formula}
use Rattle.mz_pjustification.specs.declared.keyword.Keyword.{Keyword}
use Rattle.mz_pjustification.specs.declared.keyword.Keyword.TheVariants as keywords
use Rattle.mz_pjustification.specs.Words.{key, keyword, tokens_of}
use Rattle.mz_pjustification.proofs.Taken.{nowhere}
use Rattle.mz_pproposition.specs.Forms.{goes_on_propositions, hypotheses_form}
use Rattle.mz_pproposition.proofs.PropositionSteps.{plainly}
use Rattle.mz_pstep.proofs.Ends.{Ends, ends_then, ends_key, before_key, before_key_then, key_off}
use Rattle.mz_pproof.specs.Forms.{reasoning_form, block_form, suppose_form}
use Rattle.mz_pproof.proofs.FirstTokens.{end_on_none}

-- Behind a reasoning stands `end`, which goes on none.
abbrev pub to_end : Form MarkedToken
to_end = then (nested reasoning_form) (λ _. keyword keywords.End)

pub before_end : Apart (nested reasoning_form) (λ _. keyword keywords.End)
before_end = before_key (nested reasoning_form) keywords.End (λ a p g. end_on_none p g)

pub before_end_then : (K : Place → Form MarkedToken) → Apart (nested reasoning_form) (λ _. then (keyword keywords.End) K)
before_end_then K = before_key_then (nested reasoning_form) keywords.End K (λ a p g. end_on_none p g)

pub behind_word : (k : Keyword) → Apart (nested (keyword k)) (λ _. to_end)
behind_word k = apart_closed (nested (keyword k)) (λ _. to_end) (λ a t. refl)

pub ends_block : (k : Keyword) → Ends (block_form k)
ends_block k = ends_then (nested (keyword k)) (λ _. to_end) (λ _. ends_then (nested reasoning_form) (λ _. keyword keywords.End) (λ _. ends_key keywords.End))

pub block_refused_1 : (k : Keyword) (room : ℕ) (b after : List MarkedToken) (e : Refusal) → Refuses (nested (keyword k)) room b e after → Refuses (block_form k) room b e after
block_refused_1 k room b after e h = first_refuses (nested (keyword k)) (λ _. to_end) (behind_word k) room b after e (λ a is. ((no_steps, nowhere), (tt, tt))) h

module _ (k : Keyword) (room : ℕ) (more : 0 < room) (b : List MarkedToken) (x1 : Place) (c1 : List MarkedToken) (h1 : Found (nested (keyword k)) room b x1 c1) where
  block_at_1 : Leads (block_form k) to_end room (beside (nested (keyword k)) (λ _. to_end) x1) b c1
  block_at_1 = leads_behind (nested (keyword k)) (λ _. to_end) (behind_word k) room b c1 x1 h1

  pub block_refused_2 : (after : List MarkedToken) (e : Refusal) → Refuses reasoning_form (room - 1) c1 e after → Refuses (block_form k) room b e after
  block_refused_2 after e h = passes (block_form k) to_end room (beside (nested (keyword k)) (λ _. to_end) x1) b c1 after e block_at_1
      (first_refuses (nested reasoning_form) (λ _. keyword keywords.End) before_end room c1 after e (λ a is. (nowhere, tt)) (refuses_under reasoning_form room (room - 1) (omega (arith, more)) c1 after e h))

  module _ (x2 : StepList) (c2 : List MarkedToken) (h2 : Found reasoning_form (room - 1) c1 x2 c2) where
    block_at_2 : Leads (block_form k) (keyword keywords.End) room (λ q. (x1, (x2, q))) b c2
    block_at_2 = leads_on (block_form k) to_end (keyword keywords.End) room (beside (nested (keyword k)) (λ _. to_end) x1) (beside (nested reasoning_form) (λ _. keyword keywords.End) x2) b c1 c2 block_at_1
        (leads_behind (nested reasoning_form) (λ _. keyword keywords.End) before_end room c1 c2 x2 (found_under reasoning_form room (room - 1) (omega (arith, more)) c1 c2 x2 h2))

    pub block_refused_3 : (after : List MarkedToken) (e : Refusal) → Refuses (keyword keywords.End) 0 c2 e after → Refuses (block_form k) room b e after
    block_refused_3 after e h = passes (block_form k) (keyword keywords.End) room (λ q. (x1, (x2, q))) b c2 after e block_at_2 (word_refuses Place (key keywords.End) room c2 after e h)

    pub block_found : (x3 : Place) (after : List MarkedToken) → Found (keyword keywords.End) 0 c2 x3 after → Found (block_form k) room b (x1, (x2, x3)) after
    block_found x3 after h = block_at_2.finds x3 after (word_in_any Place (key keywords.End) room c2 after x3 h)

-- A reasoning between a word and `end`, and the semicolon.
abbrev pub closed_block : Keyword → Form MarkedToken
closed_block k = then (block_form k) (λ _. keyword keywords.Semicolon)

pub block_apart : (k : Keyword) → Apart (block_form k) (λ _. keyword keywords.Semicolon)
block_apart k a q s x isa isk e g = (ends_block k).closed a s isa g

pub ends_closed_block : (k : Keyword) → Ends (closed_block k)
ends_closed_block k = ends_then (block_form k) (λ _. keyword keywords.Semicolon) (λ _. ends_key keywords.Semicolon)

pub closed_refused_1 : (k : Keyword) (room : ℕ) (b after : List MarkedToken) (e : Refusal) → Refuses (block_form k) room b e after → Refuses (closed_block k) room b e after
closed_refused_1 k room b after e h = first_refuses (block_form k) (λ _. keyword keywords.Semicolon) (block_apart k) room b after e (λ a is. (nowhere, tt)) h

pub closed_refused_2 : (k : Keyword) (room : ℕ) (b c after : List MarkedToken) (x : (block_form k).Tree) (e : Refusal) → Found (block_form k) room b x c → Refuses (keyword keywords.Semicolon) 0 c e after → Refuses (closed_block k) room b e after
closed_refused_2 k room b c after x e h g = passes (closed_block k) (keyword keywords.Semicolon) room (beside (block_form k) (λ _. keyword keywords.Semicolon) x) b c after e
    (leads_behind (block_form k) (λ _. keyword keywords.Semicolon) (block_apart k) room b c x h) (word_refuses Place (key keywords.Semicolon) room c after e g)

pub closed_found : (k : Keyword) (room : ℕ) (b c after : List MarkedToken) (x : (block_form k).Tree) (p : Place) → Found (block_form k) room b x c → Found (keyword keywords.Semicolon) 0 c p after → Found (closed_block k) room b (x, p) after
closed_found k room b c after x p h g = (leads_behind (block_form k) (λ _. keyword keywords.Semicolon) (block_apart k) room b c x h).finds p after (word_in_any Place (key keywords.Semicolon) room c after p g)

-- A case: `suppose`, its hypotheses, a reasoning.
abbrev pub suppose_5 : Form MarkedToken
suppose_5 = then (keyword keywords.End) (λ _. keyword keywords.Semicolon)

abbrev pub suppose_4 : Form MarkedToken
suppose_4 = then (nested reasoning_form) (λ _. suppose_5)

abbrev pub suppose_3 : Form MarkedToken
suppose_3 = then (nested (keyword keywords.Semicolon)) (λ _. suppose_4)

abbrev pub suppose_2 : Form MarkedToken
suppose_2 = then (nested hypotheses_form) (λ _. suppose_3)

abbrev pub suppose_1 : Form MarkedToken
suppose_1 = then (nested (keyword keywords.Suppose)) (λ _. suppose_2)

pub suppose_apart_1 : Apart (nested (keyword keywords.Suppose)) (λ _. suppose_2)
suppose_apart_1 = apart_closed (nested (keyword keywords.Suppose)) (λ _. suppose_2) (λ a t. refl)

pub suppose_apart_2 : Apart (nested hypotheses_form) (λ _. suppose_3)
suppose_apart_2 a k s x isa isk e g = let G : MarkedToken → Type 0 = λ z. tokens_of goes_on_propositions z ≡ true in key_off goes_on_propositions keywords.Semicolon k.0 refl refl (subst G (sym (head_of _ _ _ _ e)) g)

pub suppose_apart_3 : Apart (nested (keyword keywords.Semicolon)) (λ _. suppose_4)
suppose_apart_3 = apart_closed (nested (keyword keywords.Semicolon)) (λ _. suppose_4) (λ a t. refl)

pub suppose_apart_4 : Apart (nested reasoning_form) (λ _. suppose_5)
suppose_apart_4 = before_end_then (λ _. keyword keywords.Semicolon)

pub suppose_apart_5 : Apart (keyword keywords.End) (λ _. keyword keywords.Semicolon)
suppose_apart_5 = apart_closed (keyword keywords.End) (λ _. keyword keywords.Semicolon) (λ a t. refl)

abbrev pub make_suppose : suppose_1.Tree → SupposeData
make_suppose k = CaseSuppose k.0 k.1.0 k.1.1.0 k.1.1.1.0 k.1.1.1.1.0 k.1.1.1.1.1

pub only_suppose : (x : SupposeData) → suppose_form.IsTree x → (k : suppose_1.Tree) × suppose_1.IsTree k × (x ≡ make_suppose k)
only_suppose (CaseSuppose a b c d e f) is = ((a, (b, (c, (d, (e, f))))), (tt, (is.0, (tt, (is.1, (tt, tt))))), refl)

ends_suppose : Ends suppose_1
ends_suppose = ends_then (nested (keyword keywords.Suppose)) (λ _. suppose_2) (λ _. ends_then (nested hypotheses_form) (λ _. suppose_3) (λ _. ends_then (nested (keyword keywords.Semicolon)) (λ _. suppose_4)
    (λ _. ends_then (nested reasoning_form) (λ _. suppose_5) (λ _. ends_then (keyword keywords.End) (λ _. keyword keywords.Semicolon) (λ _. ends_key keywords.Semicolon)))))

suppose_spells : (k : suppose_1.Tree) → spell_suppose (make_suppose k) ≡ suppose_1.spell k
suppose_spells k = ap (λ z. key keywords.Suppose k.0 ∷ z) (append_assoc (spell_hypotheses k.1.0) (key keywords.Semicolon k.1.1.0 ∷ spell_step_list k.1.1.1.0) (key keywords.End k.1.1.1.1.0 ∷ (key keywords.Semicolon k.1.1.1.1.1 ∷ [])))

suppose_levels : (k : suppose_1.Tree) → levels_suppose (make_suppose k) ≡ suppose_1.levels k
suppose_levels k = ap (λ z. 1 ∷ z)
    (ap (λ z. z ++ 0 ∷ (0 ∷ [])) (map-append suc (levels_hypotheses k.1.0) (0 ∷ levels_step_list k.1.1.1.0)) ∙ append_assoc (map suc (levels_hypotheses k.1.0)) (1 ∷ map suc (levels_step_list k.1.1.1.0)) (0 ∷ (0 ∷ [])))

pub as_suppose : (b : List MarkedToken) → Reshapes suppose_form suppose_1 make_suppose b
as_suppose b = record {
  into = λ k is. (is.1.0, is.1.1.1.0);
  spells = λ k is. suppose_spells k;
  only = λ x is g. only_suppose x is;
  goes = λ k t is g. absurd (ends_suppose.closed k t is g);
  level = λ k is. suppose_levels k;
}

begin_suppose : (room : ℕ) (b : List MarkedToken) → Leads suppose_form suppose_1 room make_suppose b b
begin_suppose room b = leads_as suppose_form suppose_1 make_suppose room b (as_suppose b)

abbrev pub some_hypotheses : HypothesesTree
some_hypotheses = hypotheses_tree.One (plainly some_formula)

abbrev some_hypotheses_are : hypotheses_form.IsTree some_hypotheses
some_hypotheses_are = ((tt, tt), tt)

abbrev pub some_suppose : Place → SupposeData
some_suppose p = CaseSuppose p some_hypotheses nowhere no_steps nowhere nowhere

abbrev pub some_suppose_is : (p : Place) → suppose_form.IsTree (some_suppose p)
some_suppose_is p = (((tt, tt), tt), tt)

pub suppose_refused_1 : (room : ℕ) (b after : List MarkedToken) (e : Refusal) → Refuses (nested (keyword keywords.Suppose)) room b e after → Refuses suppose_form room b e after
suppose_refused_1 room b after e h = passes suppose_form suppose_1 room make_suppose b b after e (begin_suppose room b)
    (first_refuses (nested (keyword keywords.Suppose)) (λ _. suppose_2) suppose_apart_1 room b after e (λ a is. ((some_hypotheses, (nowhere, (no_steps, (nowhere, nowhere)))), (some_hypotheses_are, (tt, (tt, (tt, tt)))))) h)

module _ (room : ℕ) (more : 0 < room) (b : List MarkedToken) (x1 : Place) (c1 : List MarkedToken) (h1 : Found (nested (keyword keywords.Suppose)) room b x1 c1) where
  suppose_at_1 : Leads suppose_form suppose_2 room (λ k. make_suppose (x1, k)) b c1
  suppose_at_1 = leads_on suppose_form suppose_1 suppose_2 room make_suppose (beside (nested (keyword keywords.Suppose)) (λ _. suppose_2) x1) b b c1 (begin_suppose room b) (leads_behind (nested (keyword keywords.Suppose)) (λ _. suppose_2) suppose_apart_1 room b c1 x1 h1)

  pub suppose_refused_2 : (after : List MarkedToken) (e : Refusal) → Refuses hypotheses_form (room - 1) c1 e after → Refuses suppose_form room b e after
  suppose_refused_2 after e h = passes suppose_form suppose_2 room (λ k. make_suppose (x1, k)) b c1 after e suppose_at_1
      (first_refuses (nested hypotheses_form) (λ _. suppose_3) suppose_apart_2 room c1 after e (λ a is. ((nowhere, (no_steps, (nowhere, nowhere))), (tt, (tt, (tt, tt))))) (refuses_under hypotheses_form room (room - 1) (omega (arith, more)) c1 after e h))

  module _ (x2 : HypothesesTree) (c2 : List MarkedToken) (h2 : Found hypotheses_form (room - 1) c1 x2 c2) where
    suppose_at_2 : Leads suppose_form suppose_3 room (λ k. make_suppose (x1, (x2, k))) b c2
    suppose_at_2 = leads_on suppose_form suppose_2 suppose_3 room (λ k. make_suppose (x1, k)) (beside (nested hypotheses_form) (λ _. suppose_3) x2) b c1 c2 suppose_at_1
        (leads_behind (nested hypotheses_form) (λ _. suppose_3) suppose_apart_2 room c1 c2 x2 (found_under hypotheses_form room (room - 1) (omega (arith, more)) c1 c2 x2 h2))

    pub suppose_refused_3 : (after : List MarkedToken) (e : Refusal) → Refuses (keyword keywords.Semicolon) 0 c2 e after → Refuses suppose_form room b e after
    suppose_refused_3 after e h = passes suppose_form suppose_3 room (λ k. make_suppose (x1, (x2, k))) b c2 after e suppose_at_2
        (first_refuses (nested (keyword keywords.Semicolon)) (λ _. suppose_4) suppose_apart_3 room c2 after e (λ a is. ((no_steps, (nowhere, nowhere)), (tt, (tt, tt))))
        (refuses_under (keyword keywords.Semicolon) room (room - 1) (omega (arith, more)) c2 after e (word_refuses Place (key keywords.Semicolon) (room - 1) c2 after e h)))

    module _ (x3 : Place) (c3 : List MarkedToken) (h3 : Found (keyword keywords.Semicolon) 0 c2 x3 c3) where
      suppose_at_3 : Leads suppose_form suppose_4 room (λ k. make_suppose (x1, (x2, (x3, k)))) b c3
      suppose_at_3 = leads_on suppose_form suppose_3 suppose_4 room (λ k. make_suppose (x1, (x2, k))) (beside (nested (keyword keywords.Semicolon)) (λ _. suppose_4) x3) b c2 c3 suppose_at_2
          (leads_behind (nested (keyword keywords.Semicolon)) (λ _. suppose_4) suppose_apart_3 room c2 c3 x3 (found_under (keyword keywords.Semicolon) room (room - 1) (omega (arith, more)) c2 c3 x3 (word_in_any Place (key keywords.Semicolon) (room - 1) c2 c3 x3 h3)))

      pub suppose_refused_4 : (after : List MarkedToken) (e : Refusal) → Refuses reasoning_form (room - 1) c3 e after → Refuses suppose_form room b e after
      suppose_refused_4 after e h = passes suppose_form suppose_4 room (λ k. make_suppose (x1, (x2, (x3, k)))) b c3 after e suppose_at_3
          (first_refuses (nested reasoning_form) (λ _. suppose_5) suppose_apart_4 room c3 after e (λ a is. ((nowhere, nowhere), (tt, tt))) (refuses_under reasoning_form room (room - 1) (omega (arith, more)) c3 after e h))

      module _ (x4 : StepList) (c4 : List MarkedToken) (h4 : Found reasoning_form (room - 1) c3 x4 c4) where
        suppose_at_4 : Leads suppose_form suppose_5 room (λ k. make_suppose (x1, (x2, (x3, (x4, k))))) b c4
        suppose_at_4 = leads_on suppose_form suppose_4 suppose_5 room (λ k. make_suppose (x1, (x2, (x3, k)))) (beside (nested reasoning_form) (λ _. suppose_5) x4) b c3 c4 suppose_at_3
            (leads_behind (nested reasoning_form) (λ _. suppose_5) suppose_apart_4 room c3 c4 x4 (found_under reasoning_form room (room - 1) (omega (arith, more)) c3 c4 x4 h4))

        pub suppose_refused_5 : (after : List MarkedToken) (e : Refusal) → Refuses (keyword keywords.End) 0 c4 e after → Refuses suppose_form room b e after
        suppose_refused_5 after e h = passes suppose_form suppose_5 room (λ k. make_suppose (x1, (x2, (x3, (x4, k))))) b c4 after e suppose_at_4
            (first_refuses (keyword keywords.End) (λ _. keyword keywords.Semicolon) suppose_apart_5 room c4 after e (λ a is. (nowhere, tt)) (word_refuses Place (key keywords.End) room c4 after e h))

        module _ (x5 : Place) (c5 : List MarkedToken) (h5 : Found (keyword keywords.End) 0 c4 x5 c5) where
          suppose_at_5 : Leads suppose_form (keyword keywords.Semicolon) room (λ k. make_suppose (x1, (x2, (x3, (x4, (x5, k)))))) b c5
          suppose_at_5 = leads_on suppose_form suppose_5 (keyword keywords.Semicolon) room (λ k. make_suppose (x1, (x2, (x3, (x4, k))))) (beside (keyword keywords.End) (λ _. keyword keywords.Semicolon) x5) b c4 c5 suppose_at_4
              (leads_behind (keyword keywords.End) (λ _. keyword keywords.Semicolon) suppose_apart_5 room c4 c5 x5 (word_in_any Place (key keywords.End) room c4 c5 x5 h5))

          pub suppose_refused_6 : (after : List MarkedToken) (e : Refusal) → Refuses (keyword keywords.Semicolon) 0 c5 e after → Refuses suppose_form room b e after
          suppose_refused_6 after e h = passes suppose_form (keyword keywords.Semicolon) room (λ k. make_suppose (x1, (x2, (x3, (x4, (x5, k)))))) b c5 after e suppose_at_5 (word_refuses Place (key keywords.Semicolon) room c5 after e h)

          pub suppose_found : (x6 : Place) (after : List MarkedToken) → Found (keyword keywords.Semicolon) 0 c5 x6 after → Found suppose_form room b (make_suppose (x1, (x2, (x3, (x4, (x5, x6)))))) after
          suppose_found x6 after h = suppose_at_5.finds x6 after (word_in_any Place (key keywords.Semicolon) room c5 after x6 h)
