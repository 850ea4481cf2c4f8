-- The choice of a shape by the next two tokens, where the first alone may be a whole tree.
use Rattle.std.proofs.Common.{◌≡◌, true, List, [], ◌∷◌, ◌++◌, refl, sym, ap, subst, ◌∙◌, append_assoc, ℕ, ◌<◌, arith, length, get_or}
use Rattle.mz_forms.specs.Form.{Form, Agrees, Finds, Fails, Fits, Deeper, Leads, level}
use Rattle.mz_forms.proofs.Compose.{head_of, tail_of}
use Rattle.mz_forms.proofs.Choose.{same_fits}

module _ {Token : Type 0} where
  -- Each tree of X that begins with both tokens is one of S, and the second may go on the first alone.
  pub record Seconds (X S : Form Token) (build : S.Tree → X.Tree) (tok next : Token) : Type 0 where
    pub into : (s : S.Tree) → S.IsTree s → X.IsTree (build s)
    pub spells : (s : S.Tree) → S.IsTree s → X.spell (build s) ≡ S.spell s
    pub only : (x : X.Tree) (more : List Token) → X.IsTree x → X.spell x ≡ tok ∷ (next ∷ more) → (s : S.Tree) × S.IsTree s × (x ≡ build s)
    pub short : (x : X.Tree) → X.IsTree x → X.spell x ≡ tok ∷ [] → X.goes x next ≡ true
    pub empty : (x : X.Tree) → X.IsTree x → X.spell x ≡ [] → X.goes x tok ≡ true
    pub long : (s : S.Tree) → S.IsTree s → (a b : Token) × (m : List Token) × (S.spell s ≡ a ∷ (b ∷ m))
    pub goes : (s : S.Tree) (t : Token) → S.IsTree s → S.goes s t ≡ true → X.goes (build s) t ≡ true
    pub level : (s : S.Tree) → S.IsTree s → X.levels (build s) ≡ S.levels s
    pub first : (s : S.Tree) → S.IsTree s → get_or (S.levels s) 0 0 ≡ 0
    pub begins : (s : S.Tree) × (more : List Token) × S.IsTree s × (S.spell s ≡ tok ∷ (next ∷ more))

  module _ (X S : Form Token) (build : S.Tree → X.Tree) (tok next : Token) (by : Seconds X S build tok next) where
    shape_of : (x : X.Tree) (s : S.Tree) (w : List Token) → S.IsTree s → x ≡ build s → X.spell x ≡ w → S.spell s ≡ w
    shape_of x s w is e f = sym (by.spells s is) ∙ (ap X.spell (sym e) ∙ f)

    at_both : (w y v : List Token) (a b : Token) → w ≡ a ∷ (b ∷ v) → w ≡ tok ∷ (next ∷ y) → (a ≡ tok) × (b ≡ next)
    at_both w y v a b e f = let g : a ∷ (b ∷ v) ≡ tok ∷ (next ∷ y) = sym e ∙ f in (head_of _ _ _ _ g, head_of _ _ _ _ (tail_of _ _ _ _ g))

    begun_both : (w m : List Token) (a b : Token) → w ≡ a ∷ (b ∷ m) → a ≡ tok → b ≡ next → w ≡ tok ∷ (next ∷ m)
    begun_both w m a b e f g = e ∙ (ap (λ z. z ∷ (b ∷ m)) f ∙ ap (λ z. tok ∷ (z ∷ m)) g)

    never : (t : Token) (z : List Token) → [] ≡ t ∷ z → ⊥
    never t z e = cc

    passed_in : (front y : List Token) → front ≡ tok ∷ (next ∷ y) → ((s : S.Tree) (t : Token) (z : List Token) → S.IsTree s → front ≡ S.spell s ++ t ∷ z → S.goes s t ≡ true) →
        (x : X.Tree) (t : Token) (z : List Token) → X.IsTree x → front ≡ X.spell x ++ t ∷ z → X.goes x t ≡ true
    passed_in front y begun passed x t z isx e = go (X.spell x) refl
      where
        go : (w : List Token) → X.spell x ≡ w → X.goes x t ≡ true
        go [] f =
            let G : Token → Type 0 = λ r. X.goes x r ≡ true in
            subst G (head_of _ _ _ _ (sym begun ∙ (e ∙ ap (λ r. r ++ t ∷ z) f))) (by.empty x isx f)
        go (r ∷ []) f =
            let g : tok ∷ (next ∷ y) ≡ r ∷ (t ∷ z) = sym begun ∙ (e ∙ ap (λ q. q ++ t ∷ z) f) in
            let G : Token → Type 0 = λ q. X.goes x q ≡ true in
            subst G (head_of _ _ _ _ (tail_of _ _ _ _ g)) (by.short x isx (f ∙ ap (λ q. q ∷ []) (sym (head_of _ _ _ _ g))))
        go (r ∷ (q ∷ w)) f =
            let g : tok ∷ (next ∷ y) ≡ r ∷ (q ∷ (w ++ t ∷ z)) = sym begun ∙ (e ∙ ap (λ v. v ++ t ∷ z) f) in
            let h : X.spell x ≡ tok ∷ (next ∷ w) = begun_both (X.spell x) w r q f (sym (head_of _ _ _ _ g)) (sym (head_of _ _ _ _ (tail_of _ _ _ _ g))) in
            let got = by.only x w isx h in
            let G : X.Tree → Type 0 = λ v. X.goes v t ≡ true in
            subst G (sym got.2) (by.goes got.0 t got.1 (passed got.0 t z got.1 (e ∙ ap (λ v. v ++ t ∷ z) (sym (shape_of x got.0 (X.spell x) got.1 got.2 refl)))))

    finds_second : (rest : List Token) (s : S.Tree) (after : List Token) → Finds S (tok ∷ (next ∷ rest)) s after → Finds X (tok ∷ (next ∷ rest)) (build s) after
    finds_second rest s after found =
        let long = by.long s found.is in
        let whole : tok ∷ (next ∷ rest) ≡ long.0 ∷ (long.1 ∷ (long.2 ++ after)) = found.split ∙ ap (λ q. q ++ after) long.3 in
        let begun : S.spell s ≡ tok ∷ (next ∷ long.2) = begun_both (S.spell s) long.2 long.0 long.1 long.3 (sym (head_of _ _ _ _ whole)) (sym (head_of _ _ _ _ (tail_of _ _ _ _ whole))) in
        record {
          split = found.split ∙ ap (λ q. q ++ after) (sym (by.spells s found.is));
          is = by.into s found.is;
          only = λ x m isx e agrees.
              let g : X.spell x ≡ S.spell s ++ m = e ∙ ap (λ q. q ++ m) (by.spells s found.is) in
              let got = by.only x (long.2 ++ m) isx (g ∙ ap (λ q. q ++ m) begun) in
              got.2 ∙ ap build (found.only got.0 m got.1 (shape_of x got.0 _ got.1 got.2 g) agrees);
          passed = λ x t z isx e. passed_in (S.spell s) long.2 begun found.passed x t z isx (sym (by.spells s found.is) ∙ e);
        }

    fails_second : (room : ℕ) (rest after : List Token) → Fails S room (tok ∷ (next ∷ rest)) after → Fails X room (tok ∷ (next ∷ rest)) after
    fails_second room rest after fails = go fails.front refl
      where
        go : (w : List Token) → fails.front ≡ w → Fails X room (tok ∷ (next ∷ rest)) after
        go [] f =
            let here : tok ∷ (next ∷ rest) ≡ after = fails.split ∙ ap (λ q. q ++ after) f in
            let A : List Token → Type 0 = λ q. Agrees q (tok ∷ (next ∷ by.begins.1)) in
            absurd (fails.none by.begins.0 (tok ∷ (next ∷ by.begins.1)) by.begins.2 (by.begins.3 ∙ ap (λ q. q ++ tok ∷ (next ∷ by.begins.1)) (sym f)) (subst A here refl))
        go (r ∷ []) f =
            let whole : tok ∷ (next ∷ rest) ≡ r ∷ after = fails.split ∙ ap (λ q. q ++ after) f in
            let A : List Token → Type 0 = λ q. Agrees q (next ∷ by.begins.1) in
            absurd (fails.none by.begins.0 (next ∷ by.begins.1) by.begins.2 (by.begins.3 ∙ ap (λ q. q ++ next ∷ by.begins.1) (sym (f ∙ ap (λ q. q ∷ []) (sym (head_of _ _ _ _ whole))))) (subst A (tail_of _ _ _ _ whole) refl))
        go (r ∷ (q ∷ y)) f =
            let whole : tok ∷ (next ∷ rest) ≡ r ∷ (q ∷ (y ++ after)) = fails.split ∙ ap (λ v. v ++ after) f in
            let begun : fails.front ≡ tok ∷ (next ∷ y) = begun_both fails.front y r q f (sym (head_of _ _ _ _ whole)) (sym (head_of _ _ _ _ (tail_of _ _ _ _ whole))) in
            record {
              front = fails.front;
              split = fails.split;
              some = build fails.some;
              more = fails.more;
              is = by.into fails.some fails.is;
              viable = by.spells fails.some fails.is ∙ fails.viable;
              fits = same_fits X S build by.level fails.some fails.is room (length fails.front) fails.fits;
              none = λ x m isx e agrees.
                  let got = by.only x (y ++ m) isx (e ∙ ap (λ v. v ++ m) begun) in
                  fails.none got.0 m got.1 (shape_of x got.0 _ got.1 got.2 e) agrees;
              passed = passed_in fails.front y begun fails.passed;
            }

    deeper_second : (room : ℕ) (rest after : List Token) → Deeper S room (tok ∷ (next ∷ rest)) after → Deeper X room (tok ∷ (next ∷ rest)) after
    deeper_second room rest after d = go d.front refl
      where
        made : (y : List Token) → d.front ++ d.tok ∷ [] ≡ tok ∷ (next ∷ y) → Deeper X room (tok ∷ (next ∷ rest)) after
        made y begun = record {
          front = d.front;
          tok = d.tok;
          rest = d.rest;
          split = d.split;
          here = d.here;
          some = build d.some;
          more = d.more;
          is = by.into d.some d.is;
          viable = by.spells d.some d.is ∙ d.viable;
          fits = same_fits X S build by.level d.some d.is room (length d.front) d.fits;
          all = λ x m isx e.
              let h : X.spell x ≡ tok ∷ (next ∷ (y ++ m)) = e ∙ (sym (append_assoc d.front (d.tok ∷ []) m) ∙ ap (λ v. v ++ m) begun) in
              let got = by.only x (y ++ m) isx h in
              let l : room < level S got.0 (length d.front) = d.all got.0 m got.1 (shape_of x got.0 _ got.1 got.2 e) in
              let g : level X x (length d.front) ≡ level S got.0 (length d.front) = ap (λ z. get_or z (length d.front) 0) (ap X.levels got.2 ∙ by.level got.0 got.1) in
              omega (arith, l, g);
          passed = passed_in (d.front ++ d.tok ∷ []) y begun d.passed;
        }

        go : (w : List Token) → d.front ≡ w → Deeper X room (tok ∷ (next ∷ rest)) after
        go [] f =
            let l : room < level S d.some (length d.front) = d.all d.some d.more d.is d.viable in
            let N : List Token → Type 0 = λ z. room < level S d.some (length z) in
            let k : room < level S d.some 0 = subst N f l in
            let n : level S d.some 0 ≡ 0 = by.first d.some d.is in
            absurd (omega (arith, k, n))
        go (r ∷ []) f =
            let whole : tok ∷ (next ∷ rest) ≡ r ∷ (d.tok ∷ d.rest) = d.split ∙ ap (λ v. v ++ d.tok ∷ d.rest) f in
            made [] (ap (λ v. v ++ d.tok ∷ []) f ∙ (ap (λ z. z ∷ (d.tok ∷ [])) (sym (head_of _ _ _ _ whole)) ∙ ap (λ z. tok ∷ (z ∷ [])) (sym (head_of _ _ _ _ (tail_of _ _ _ _ whole)))))
        go (r ∷ (q ∷ y)) f =
            let whole : tok ∷ (next ∷ rest) ≡ r ∷ (q ∷ (y ++ d.tok ∷ d.rest)) = d.split ∙ ap (λ v. v ++ d.tok ∷ d.rest) f in
            made (y ++ d.tok ∷ []) (ap (λ v. v ++ d.tok ∷ []) f ∙ (ap (λ z. z ∷ (q ∷ (y ++ d.tok ∷ []))) (sym (head_of _ _ _ _ whole)) ∙ ap (λ z. tok ∷ (z ∷ (y ++ d.tok ∷ []))) (sym (head_of _ _ _ _ (tail_of _ _ _ _ whole)))))

    pub leads_second : (room : ℕ) (b rest : List Token) → b ≡ tok ∷ (next ∷ rest) → Leads X S room build b b
    leads_second room b rest e =
        let L : List Token → Type 0 = λ z. Leads X S room build z z in
        subst L (sym e) (record {
          finds = λ s after f. record { found = finds_second rest s after f.found; fits = fitting s f.found.is f.fits };
          fails = fails_second room rest;
          deeper = deeper_second room rest;
        })
      where
        fitting : (s : S.Tree) → S.IsTree s → Fits S room s (length (S.spell s)) → Fits X room (build s) (length (X.spell (build s)))
        fitting s is h = let N : ℕ → Type 0 = λ n. Fits X room (build s) n in subst N (ap length (sym (by.spells s is))) (same_fits X S build by.level s is room (length (S.spell s)) h)
