-- The trees of a form that begin with the next token.
use Rattle.std.proofs.Common.{◌≡◌, ℕ, List, [], ◌∷◌, ◌++◌, refl, sym, ap, subst, ◌∙◌}
use Rattle.mz_forms.specs.Form.{Form, Agrees, Fails, Deeper, Leads}
use Rattle.mz_forms.proofs.Compose.{head_of}
use Rattle.mz_forms.proofs.Lists.{Begun}

module _ {Token : Type 0} where
  abbrev pub begun : Form Token → Token → Form Token
  begun S tok = record { Tree = S.Tree; spell = S.spell; levels = S.levels; each = S.each; IsTree = λ s. S.IsTree s × Agrees (tok ∷ []) (S.spell s); goes = S.goes }

  module _ (S : Form Token) (tok : Token) (some : Begun S tok) (rest : List Token) where
    head_agrees : (front w after : List Token) → tok ∷ rest ≡ front ++ after → (front ≡ [] → ⊥) → (more : List Token) → w ≡ front ++ more → Agrees (tok ∷ []) w
    head_agrees [] w after e h more f = absurd (h refl)
    head_agrees (r ∷ front) w after e h more f = let A : List Token → Type 0 = λ z. Agrees (tok ∷ []) z in subst A (sym f) (sym (head_of _ _ _ _ e))

    whole_agrees : (w after : List Token) → tok ∷ rest ≡ w ++ after → Agrees (tok ∷ []) w
    whole_agrees [] after e = tt
    whole_agrees (r ∷ w) after e = sym (head_of _ _ _ _ e)

    fails_begun : (room : ℕ) (after : List Token) → Fails S room (tok ∷ rest) after → Fails (begun S tok) room (tok ∷ rest) after
    fails_begun room after h = record {
      front = h.front;
      split = h.split;
      some = h.some;
      more = h.more;
      is = (h.is, head_agrees h.front (S.spell h.some) after h.split filled h.more h.viable);
      viable = h.viable;
      fits = h.fits;
      none = λ x m is e agrees. h.none x m is.0 e agrees;
      passed = λ x t m is e. h.passed x t m is.0 e;
    }
      where
        filled : h.front ≡ [] → ⊥
        filled e =
            let here : tok ∷ rest ≡ after = h.split ∙ ap (λ z. z ++ after) e in
            let A : List Token → Type 0 = λ z. Agrees z (tok ∷ some.1) in
            h.none some.0 (tok ∷ some.1) some.2 (some.3 ∙ ap (λ z. z ++ tok ∷ some.1) (sym e)) (subst A here refl)

    deeper_begun : (room : ℕ) (after : List Token) → Deeper S room (tok ∷ rest) after → Deeper (begun S tok) room (tok ∷ rest) after
    deeper_begun room after h = record {
      front = h.front;
      tok = h.tok;
      rest = h.rest;
      split = h.split;
      here = h.here;
      some = h.some;
      more = h.more;
      is = (h.is, at h.front h.split h.viable);
      viable = h.viable;
      fits = h.fits;
      all = λ x m is e. h.all x m is.0 e;
      passed = λ x t m is e. h.passed x t m is.0 e;
    }
      where
        at : (front : List Token) → tok ∷ rest ≡ front ++ h.tok ∷ h.rest → S.spell h.some ≡ front ++ h.tok ∷ h.more → Agrees (tok ∷ []) (S.spell h.some)
        at [] e f = let A : List Token → Type 0 = λ z. Agrees (tok ∷ []) z in subst A (sym f) (sym (head_of _ _ _ _ e))
        at (r ∷ front) e f = let A : List Token → Type 0 = λ z. Agrees (tok ∷ []) z in subst A (sym f) (sym (head_of _ _ _ _ e))

    pub leads_begun : (room : ℕ) (b : List Token) → b ≡ tok ∷ rest → Leads (begun S tok) S room (λ s. s) b b
    leads_begun room b e =
        let L : List Token → Type 0 = λ z. Leads (begun S tok) S room (λ s. s) z z in
        subst L (sym e) (record {
          finds = λ s after h. record {
            found = record {
              split = h.found.split;
              is = (h.found.is, whole_agrees (S.spell s) after h.found.split);
              only = λ x m is f agrees. h.found.only x m is.0 f agrees;
              passed = λ x t m is f. h.found.passed x t m is.0 f;
            };
            fits = h.fits;
          };
          fails = fails_begun room;
          deeper = deeper_begun room;
        })
