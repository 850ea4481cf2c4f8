-- What goes on with a group of terms.
use Rattle.std.specs.declared.alloc.Global.{Global}
use Rattle.std.proofs.Common.{◌≡◌, ℕ, Bool, true, false, ◌||◌, List, [], ◌∷◌, ◌++◌, map, refl, sym, ap, subst, ◌∙◌, Result, Ok, Err, Box, Vec}
use Rattle.mz_base.specs.declared.place.Place.{Place}
use Rattle.mz_base.specs.declared.token.MarkedToken.{MarkedToken}
use Rattle.mz_forms.specs.declared.refusal.Refusal.{Refusal}
use Rattle.mz_forms.specs.Form.{Form, Found, Leads, then}
use Rattle.mz_forms.specs.Reading.{Refuses, Gives, Builds}
use Rattle.mz_forms.specs.Chain.{spell_chain}
use Rattle.mz_forms.proofs.Compose.{Apart, head_of}
use Rattle.mz_forms.proofs.Leads.{leads_behind, leads_on, beside, passes, first_refuses, gives_through}
use Rattle.mz_tree.specs.declared.chain.Chain.{Chain}
use Rattle.mz_tree.specs.declared.nodes.BaseNode.{BaseNode}
use Rattle.mz_tree.specs.declared.nodes.BaseNode.TheVariants as bases
use Rattle.mz_tree.specs.declared.nodes.OperandNode.{OperandNode}
use Rattle.mz_tree.specs.declared.nodes.PieceNode.{PieceNode}
use Rattle.mz_tree.specs.declared.nodes.PieceNode.TheVariants as pieces
use Rattle.mz_tree.specs.declared.nodes.PrefixNode.{PrefixNode}
use Rattle.mz_tree.specs.declared.nodes.TermNode.{TermNode}
use Rattle.mz_tree.specs.Trees.{TermData, TermsData, PieceData, PieceList, BaseData, RunTerm, OperandPiece, GroupBase, ListTerms, no_prefixs, prefixs_of}
use Rattle.mz_tree.specs.Rules.{Last, start, last_of}
use Rattle.mz_tree.specs.Views.{OperandData, base_of, operand_of, piece_of, prefix_of, term_of, terms_of}
use Rattle.mz_tree.proofs.Views.{base_of-group, operand_of-is, piece_of-operand}
use Rattle.mz_pterm.specs.declared.sign.Sign.TheVariants as signs
use Rattle.mz_pterm.specs.declared.terms.Last as rust_last
use Rattle.mz_pterm.specs.Classes.{goes_on_term, goes_on_terms, is_list_comma}
use Rattle.mz_pterm.specs.Sign.{sign_of}
use Rattle.mz_pterm.specs.Words.{fixed}
use Rattle.mz_pterm.specs.Forms.{rest_of_term, term_links, more_terms, next_terms, last_seen, ReadsRestOfTerm, ReadsRestOfTerms}
use Rattle.mz_pterm.proofs.Signs.{sign_of-fixed}
use Rattle.mz_pterm.proofs.Operands.{or_left}
use Rattle.mz_ptype.proofs.Optional.{never}
use Rattle.mz_patom.specs.declared.atoms.Opening as rust_opening
use Rattle.mz_patom.specs.Forms.{Tail, no_tail, spell_tail, tail, with_group, behind_term, group_tail, make_group_tail, join, opening_of, ReadsTail, ReadsBehindGroup}
use Rattle.mz_patom.proofs.Tails.{tail_first, tail_apart}

-- the operand of a group
pub group_operand : (o : OperandNode) (p : Place) (c : Chain Place TermNode) (q : Place) → o.base.value ≡ bases.Group p c q → o.prefixes.items ≡ [] → operand_of o ≡ record { prefixes = no_prefixs; base = GroupBase p (terms_of c) q }
group_operand o p c q e f = operand_of-is o ∙ (ap (λ z. record { prefixes = prefixs_of (map prefix_of z); base = base_of o.base.value }) f ∙ ap (λ z. record { prefixes = no_prefixs; base = z }) (ap base_of e ∙ base_of-group p c q))

module _ (field : Bool) (p : Place) (ts : TermsData) (q : Place) where
  abbrev behind : Last
  behind = last_of start (GroupBase p ts q)

  differ : (b : Bool) → b ≡ false → b ≡ true → ⊥
  differ true e f = cc
  differ false e f = cc

  abbrev terms_of_group : PieceList → List (Place × TermData) → TermsData
  terms_of_group ps us = with_group p ts q ps us

  pub more_apart : (ps : PieceList) → Apart (more_terms field) (λ us. tail field (with_group p ts q ps us))
  more_apart ps = tail_apart (more_terms field) (terms_of_group ps) field (λ a t g. g)

  -- a list comma, or what stands behind terms
  next_first : (us : List (Place × TermData)) (k : Tail) (s : MarkedToken) (x : List MarkedToken) → spell_chain (term_links field) us ++ spell_tail field k ≡ s ∷ x → goes_on_term (sign_of s) ≡ false
  next_first [] k s x e = not_on (goes_on_term (sign_of s)) (is_list_comma (sign_of s)) (tail_first field k s x e)
    where
      not_on : (a b : Bool) → (a || b) ≡ false → a ≡ false
      not_on true b f = cc
      not_on false b f = refl
  next_first (u ∷ us) k s x e = let C : MarkedToken → Type 0 = λ z. goes_on_term (sign_of z) ≡ false in subst C (head_of _ _ _ _ e) (ap goes_on_term (sign_of-fixed signs.ListComma u.0 refl))

  pub term_apart : Apart (rest_of_term field behind) (behind_term field p ts q)
  term_apart ps k s x isa isk e g = differ (goes_on_term (sign_of s)) (next_first k.0 k.1 s x e) g

  some_behind : (ps : PieceList) → (k : (behind_term field p ts q ps).Tree) × (behind_term field p ts q ps).IsTree k
  some_behind ps = (([], no_tail), (tt, tt))

  module _ (room : ℕ) (b : List MarkedToken) where
    pub term_refuses : (l : Last) (after : List MarkedToken) (e : Refusal) → l ≡ behind → Refuses (rest_of_term field l) room b e after → Refuses (group_tail field p ts q) room b e after
    term_refuses l after e same h =
        let R : Last → Type 0 = λ z. Refuses (rest_of_term field z) room b e after in
        first_refuses (rest_of_term field behind) (behind_term field p ts q) term_apart room b after e (λ a is. some_behind a) (subst R same h)

    module _ (l : Last) (same : l ≡ behind) (piece : PieceData) (is_group : piece ≡ OperandPiece no_prefixs (GroupBase p ts q)) (term : TermData) (c : List MarkedToken) (read : Builds (rest_of_term field l) room (RunTerm piece) term b c) where
      found_term : Found (rest_of_term field behind) room b read.0 c
      found_term = let F : Last → Type 0 = λ z. Found (rest_of_term field z) room b read.0 c in subst F same read.1

      leads_term : Leads (group_tail field p ts q) (behind_term field p ts q read.0) room (beside (rest_of_term field behind) (behind_term field p ts q) read.0) b c
      leads_term = leads_behind (rest_of_term field behind) (behind_term field p ts q) term_apart room b c read.0 found_term

      same_term : term ≡ RunTerm (OperandPiece no_prefixs (GroupBase p ts q)) read.0
      same_term = read.2 ∙ ap (λ z. RunTerm z read.0) is_group

      pub terms_refuse : (after : List MarkedToken) (e : Refusal) → Refuses (more_terms field) room c e after → Refuses (group_tail field p ts q) room b e after
      terms_refuse after e h = passes (group_tail field p ts q) (behind_term field p ts q read.0) room _ b c after e leads_term
          (first_refuses (more_terms field) (λ us. tail field (with_group p ts q read.0 us)) (more_apart read.0) room c after e (λ us is. (no_tail, tt)) h)

      module _ (terms : TermsData) (d : List MarkedToken) (more : Builds (more_terms field) room (λ us. ListTerms term (next_terms us)) terms c d) where
        same_terms : terms ≡ with_group p ts q read.0 more.0
        same_terms = more.2 ∙ ap (λ z. ListTerms z (next_terms more.0)) same_term

        leads_terms : Leads (group_tail field p ts q) (tail field (with_group p ts q read.0 more.0)) room (λ k. (read.0, (more.0, k))) b d
        leads_terms = leads_on (group_tail field p ts q) (behind_term field p ts q read.0) (tail field (with_group p ts q read.0 more.0)) room (beside (rest_of_term field behind) (behind_term field p ts q) read.0)
            (beside (more_terms field) (λ us. tail field (with_group p ts q read.0 us)) more.0) b c d leads_term (leads_behind (more_terms field) (λ us. tail field (with_group p ts q read.0 us)) (more_apart read.0) room c d more.0 more.1)

        pub group_from : (after : List MarkedToken) (r : Result rust_opening.Opening Refusal) → ReadsTail field room terms d r after → ReadsBehindGroup field room p ts q b r after
        group_from after r given =
            let us = with_group p ts q read.0 more.0 in
            let T : TermsData → Type 0 = λ z. ReadsTail field room z d r after in
            gives_through (group_tail field p ts q) (tail field us) room (λ x. Builds (group_tail field p ts q) room (make_group_tail p ts q) (opening_of x) b after) (λ x. Builds (tail field us) room (join us) (opening_of x) d after) (λ k. (read.0, (more.0, k))) b d after r
            (λ x k. ((read.0, (more.0, k.0)), leads_terms.finds k.0 after k.1, k.2))
            leads_terms (subst T same_terms given)
