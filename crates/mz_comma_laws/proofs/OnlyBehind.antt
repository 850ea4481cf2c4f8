-- Behind which trees a token begins longer ones: the steps.
use Rattle.std.proofs.Common.{◌≡◌, ℕ, suc, ◌+◌, ◌<◌, Bool, true, false, List, [], ◌∷◌, ◌++◌, refl, sym, ap, subst, ◌∙◌, append_assoc, length, length-append, arith}
use Rattle.mz_forms.specs.Form.{Form, Agrees, then, one_of}
use Rattle.mz_forms.proofs.Compose.{Apart, Cut, longer, shorter, compare, head_of, tail_of, cancel, append_nil, nothing_more}
use Rattle.mz_forms.proofs.Choose.{Reshapes, Chooses, Turns}
use Rattle.mz_forms.proofs.One.{One, Quiet}

not_true : (p : Bool) → (p ≡ true → ⊥) → p ≡ false
not_true true h = absurd (h refl)
not_true false h = refl

module _ {Token : Type 0} where
  no_nil : (t : Token) (x : List Token) → t ∷ x ≡ [] → ⊥
  no_nil t x e = cc

  agrees_head : (s : Token) (rest w m : List Token) → w ≡ s ∷ m → Agrees (s ∷ rest) w
  agrees_head s rest w m e = let A : List Token → Type 0 = λ z. Agrees (s ∷ rest) z in subst A (sym e) refl

  module _ (tok : Token) where
    -- a tree of fewer than n tokens behind which the token begins a longer one is such
    abbrev pub OnlyBehind : ℕ → (F : Form Token) → (F.Tree → Bool) → Type 0
    OnlyBehind n F such = (a b : F.Tree) (more : List Token) → length (F.spell a) < n → F.IsTree a → F.IsTree b → F.spell b ≡ F.spell a ++ tok ∷ more → such a ≡ true

    -- the same of trees that begin with this token
    abbrev pub OnlyAt : ℕ → (F : Form Token) → Token → (F.Tree → Bool) → Type 0
    OnlyAt n F first such = (a b : F.Tree) (more m k : List Token) → length (F.spell a) < n → F.IsTree a → F.IsTree b → F.spell a ≡ first ∷ m → F.spell b ≡ first ∷ k → F.spell b ≡ F.spell a ++ tok ∷ more → such a ≡ true

    -- no tree, where the token goes on none
    pub excluded : (n : ℕ) (F : Form Token) (such : F.Tree → Bool) → One n F → ((a : F.Tree) → F.IsTree a → F.goes a tok ≡ false) → OnlyBehind n F such
    excluded n F such one off a b more less isa isb e =
        let same : a ≡ b = one a b (tok ∷ more) [] less isa isb (sym e ∙ sym (append_nil (F.spell b))) (off a isa) tt in
        absurd (no_nil tok more (nothing_more (F.spell a) (tok ∷ more) (ap F.spell same ∙ e)))

    pub one_token : (n : ℕ) (X : Type 0) (f : X → Token) (such : X → Bool) → OnlyBehind n (one_of X f) such
    one_token n X f such a b more less isa isb e = absurd (no_nil tok more (sym (tail_of _ _ _ _ e)))

    -- One form behind another. `empty` is for a second part without tokens.
    pub behind_then : (n m : ℕ) (A : Form Token) (K : A.Tree → Form Token) (such : (then A K).Tree → Bool) (rest : (a : A.Tree) → (K a).Tree → Bool) → Apart A K → One n A →
        ((a b : A.Tree) (k : (K a).Tree) (more : List Token) → length (A.spell a) < n → A.IsTree a → A.IsTree b → (K a).IsTree k → (K a).spell k ≡ [] → A.spell b ≡ A.spell a ++ tok ∷ more → such (a, k) ≡ true) →
        ((a : A.Tree) → OnlyBehind m (K a) (rest a)) → ((a : A.Tree) (k : (K a).Tree) → A.IsTree a → (K a).IsTree k → rest a k ≡ true → such (a, k) ≡ true) →
        ((a : A.Tree) (l : ℕ) → A.IsTree a → length (A.spell a) + l < n → l < m) → OnlyBehind n (then A K) such
    behind_then n m A K such rest apart one empty only into fits p q more less isp isq e = go ((K p.0).spell p.1) refl
      where
        sum : length (A.spell p.0) + length ((K p.0).spell p.1) < n
        sum = let l : length (A.spell p.0 ++ (K p.0).spell p.1) ≡ length (A.spell p.0) + length ((K p.0).spell p.1) = length-append (A.spell p.0) ((K p.0).spell p.1) in omega (arith, l, less)

        whole : A.spell p.0 ++ ((K p.0).spell p.1 ++ tok ∷ more) ≡ A.spell q.0 ++ ((K q.0).spell q.1 ++ [])
        whole = sym (append_assoc (A.spell p.0) ((K p.0).spell p.1) (tok ∷ more)) ∙ (sym e ∙ ap (λ z. A.spell q.0 ++ z) (sym (append_nil ((K q.0).spell q.1))))

        off : (a : A.Tree) (k : (K a).Tree) (s : Token) (w : List Token) → A.IsTree a → (K a).IsTree k → (K a).spell k ≡ s ∷ w → A.goes a s ≡ false
        off a k s w isa isk f = not_true (A.goes a s) (λ g. apart a k s w isa isk f g)

        quiet : (a : A.Tree) (k : (K a).Tree) → A.IsTree a → (K a).IsTree k → (v : List Token) → (K a).spell k ≡ v → Quiet A a (v ++ [])
        quiet a k isa isk [] f = tt
        quiet a k isa isk (s ∷ v) f = off a k s v isa isk f

        -- the second parts go on, where the first ones are equal
        behind : p.0 ≡ q.0 → such p ≡ true
        behind same =
            let F : A.Tree → Type 0 = λ z. (k : (K z).Tree) → (K z).IsTree k → A.spell p.0 ++ ((K p.0).spell p.1 ++ tok ∷ more) ≡ A.spell z ++ ((K z).spell k ++ []) → such p ≡ true in
            subst F same (λ k isk f. into p.0 p.1 isp.0 isp.1 (only p.0 p.1 k more (fits p.0 _ isp.0 sum) isp.1 isk (sym (append_nil ((K p.0).spell k)) ∙ sym (cancel (A.spell p.0) _ _ f)))) q.1 isq.1 whole

        cut : (K p.0).spell p.1 ≡ [] → Cut (A.spell q.0) ((K q.0).spell q.1) (A.spell p.0) (tok ∷ more) → such p ≡ true
        cut f (longer [] r s) = behind (one p.0 q.0 [] [] (omega (arith, sum)) isp.0 isq.0 (sym r ∙ sym (append_nil (A.spell q.0))) tt tt)
        cut f (longer (t ∷ v) r s) = empty p.0 q.0 p.1 v (omega (arith, sum)) isp.0 isq.0 isp.1 f (r ∙ ap (λ z. A.spell p.0 ++ z ∷ v) (head_of t tok _ _ s))
        cut f (shorter t x r s) =
            let same : p.0 ≡ q.0 = one p.0 q.0 [] (t ∷ x) (omega (arith, sum)) isp.0 isq.0 (append_nil (A.spell p.0) ∙ r) tt (off q.0 q.1 t _ isq.0 isq.1 s) in
            absurd (no_nil t x (nothing_more (A.spell q.0) (t ∷ x) (ap A.spell (sym same) ∙ r)))

        go : (w : List Token) → (K p.0).spell p.1 ≡ w → such p ≡ true
        go (s ∷ w) f =
            let Q : List Token → Type 0 = λ z. Quiet A p.0 (z ++ tok ∷ more) in
            behind (one p.0 q.0 _ _ (omega (arith, sum)) isp.0 isq.0 whole (subst Q (sym f) (off p.0 p.1 s w isp.0 isp.1 f)) (quiet q.0 q.1 isq.0 isq.1 ((K q.0).spell q.1) refl))
        go [] f = cut f (compare (A.spell q.0) ((K q.0).spell q.1) (A.spell p.0) (tok ∷ more) (e ∙ (append_assoc (A.spell p.0) ((K p.0).spell p.1) (tok ∷ more) ∙ ap (λ z. A.spell p.0 ++ (z ++ tok ∷ more)) f)))

    -- where the second part has tokens
    pub behind_filled : (n m : ℕ) (A : Form Token) (K : A.Tree → Form Token) (such : (then A K).Tree → Bool) (rest : (a : A.Tree) → (K a).Tree → Bool) → Apart A K → One n A →
        ((a : A.Tree) (k : (K a).Tree) → (K a).spell k ≡ [] → ⊥) →
        ((a : A.Tree) → OnlyBehind m (K a) (rest a)) → ((a : A.Tree) (k : (K a).Tree) → A.IsTree a → (K a).IsTree k → rest a k ≡ true → such (a, k) ≡ true) →
        ((a : A.Tree) (l : ℕ) → A.IsTree a → length (A.spell a) + l < n → l < m) → OnlyBehind n (then A K) such
    behind_filled n m A K such rest apart one filled only into fits = behind_then n m A K such rest apart one (λ a b k more less isa isb isk f e. absurd (filled a k f)) only into fits

    -- Trees of X that are those of another form.
    pub behind_same : (n : ℕ) (X S : Form Token) (build : S.Tree → X.Tree) (such : X.Tree → Bool) (rest : S.Tree → Bool) → ((s : S.Tree) → S.IsTree s → X.spell (build s) ≡ S.spell s) → ((s : S.Tree) → S.IsTree s → rest s ≡ true → such (build s) ≡ true) → OnlyBehind n S rest →
        (a b : X.Tree) (more : List Token) → length (X.spell a) < n → (s : S.Tree) × S.IsTree s × (a ≡ build s) → (s : S.Tree) × S.IsTree s × (b ≡ build s) → X.spell b ≡ X.spell a ++ tok ∷ more → such a ≡ true
    behind_same n X S build such rest spells into only a b more less ga gb e =
        let sa : X.spell a ≡ S.spell ga.0 = ap X.spell ga.2 ∙ spells ga.0 ga.1 in
        let sb : X.spell b ≡ S.spell gb.0 = ap X.spell gb.2 ∙ spells gb.0 gb.1 in
        let la : length (X.spell a) ≡ length (S.spell ga.0) = ap length sa in
        ap such ga.2 ∙ into ga.0 ga.1 (only ga.0 gb.0 more (omega (arith, la, less)) ga.1 gb.1 (sym sb ∙ (e ∙ ap (λ z. z ++ tok ∷ more) sa)))

    pub only_by : (n : ℕ) (X : Form Token) (t : Token) (K : Form Token) (build : K.Tree → X.Tree) (here : ℕ) (such : X.Tree → Bool) (rest : K.Tree → Bool) → Chooses X t K build here → ((k : K.Tree) → K.IsTree k → rest k ≡ true → such (build k) ≡ true) → OnlyBehind n K rest → OnlyAt (suc n) X t such
    only_by n X t K build here such rest by into only a b more m k less isa isb ea eb e =
        let ga = by.only a m isa ea in
        let gb = by.only b k isb eb in
        let sa : X.spell a ≡ t ∷ K.spell ga.0 = ap X.spell ga.2 ∙ by.spells ga.0 ga.1 in
        let sb : X.spell b ≡ t ∷ K.spell gb.0 = ap X.spell gb.2 ∙ by.spells gb.0 gb.1 in
        let la : length (X.spell a) ≡ suc (length (K.spell ga.0)) = ap length sa in
        let f : K.spell gb.0 ≡ K.spell ga.0 ++ tok ∷ more = tail_of t t _ _ (sym sb ∙ (e ∙ ap (λ z. z ++ tok ∷ more) sa)) in
        ap such ga.2 ∙ into ga.0 ga.1 (only ga.0 gb.0 more (omega (arith, la, less)) ga.1 gb.1 f)

    pub only_turn : (n : ℕ) (X S : Form Token) (build : S.Tree → X.Tree) (t : Token) (such : X.Tree → Bool) (rest : S.Tree → Bool) → Turns X S build t → ((s : S.Tree) → S.IsTree s → rest s ≡ true → such (build s) ≡ true) → OnlyBehind n S rest → OnlyAt n X t such
    only_turn n X S build t such rest by into only a b more m k less isa isb ea eb e =
        behind_same n X S build such rest by.spells into only a b more less (by.only a m isa ea) (by.only b k isb eb) e

    pub only_as : (n : ℕ) (X S : Form Token) (build : S.Tree → X.Tree) (t : Token) (such : X.Tree → Bool) (rest : S.Tree → Bool) → Reshapes X S build (t ∷ []) → ((s : S.Tree) → S.IsTree s → rest s ≡ true → such (build s) ≡ true) → OnlyBehind n S rest → OnlyAt n X t such
    only_as n X S build t such rest by into only a b more m k less isa isb ea eb e =
        behind_same n X S build such rest by.spells into only a b more less (by.only a isa (agrees_head t [] (X.spell a) m ea)) (by.only b isb (agrees_head t [] (X.spell b) k eb)) e

    pub behind_as : (n : ℕ) (X S : Form Token) (build : S.Tree → X.Tree) (such : X.Tree → Bool) (rest : S.Tree → Bool) → ((x : X.Tree) → X.IsTree x → (s : S.Tree) × S.IsTree s × (x ≡ build s)) → ((s : S.Tree) → S.IsTree s → X.spell (build s) ≡ S.spell s) →
        ((s : S.Tree) → S.IsTree s → rest s ≡ true → such (build s) ≡ true) → OnlyBehind n S rest → OnlyBehind n X such
    behind_as n X S build such rest back spells into only a b more less isa isb e = behind_same n X S build such rest spells into only a b more less (back a isa) (back b isb) e

    -- All trees, from those that each token begins, and the empty ones.
    pub only_from : (n : ℕ) (X : Form Token) (such : X.Tree → Bool) → ((a b : X.Tree) (more : List Token) → X.IsTree a → X.IsTree b → X.spell a ≡ [] → X.spell b ≡ tok ∷ more → such a ≡ true) →
        ((a : X.Tree) (t : Token) (m : List Token) → X.IsTree a → X.spell a ≡ t ∷ m → OnlyAt n X t such) → OnlyBehind n X such
    only_from n X such empties tokens a b more less isa isb e = go (X.spell a) refl
      where
        go : (w : List Token) → X.spell a ≡ w → such a ≡ true
        go [] f = empties a b more isa isb f (e ∙ ap (λ z. z ++ tok ∷ more) f)
        go (t ∷ w) f = tokens a t w isa f a b more w (w ++ tok ∷ more) less isa isb f (e ∙ ap (λ z. z ++ tok ∷ more) f) e

    pub only_token : (n : ℕ) (X : Form Token) (such : X.Tree → Bool) (s t : Token) → s ≡ t → OnlyAt n X s such → OnlyAt n X t such
    only_token n X such s t e h = let O : Token → Type 0 = λ z. OnlyAt n X z such in subst O e h
