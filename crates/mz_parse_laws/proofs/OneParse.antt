-- What parses of the same tokens give is the same.
use Rattle.std.proofs.Common.{◌≡◌, ℕ, zero, suc, ◌+◌, ◌-◌, ◌<◌, ◌≤◌, ◌⊎◌, inl, inr, arith, List, [], ◌∷◌, ◌++◌, drop, length, take, refl, sym, ap, subst, ◌∙◌, append_assoc, Result, Ok, Err}
use Rattle.std.proofs.lemmas.Bool.{cases_lt}
use Rattle.std.proofs.lemmas.List.{length-take-le}
use Rattle.mz_base.specs.TokenList.{TokenList}
use Rattle.mz_base.specs.declared.place.Place.{Place}
use Rattle.mz_base.specs.declared.token.MarkedToken.{MarkedToken}
use Rattle.mz_forms.specs.Form.{Form, level}
use Rattle.mz_forms.specs.Parse.{range, Begins, BeginsWithin, Longest, NoTree, Spells, TheTree, TooDeepAt}
use Rattle.mz_forms.proofs.Compose.{append_nil, head_of}
use Rattle.mz_marks.specs.Marks.{AreMarked}
use Rattle.mz_pterm.specs.Parses.{StandsAt}
use Rattle.mz_pterm.specs.declared.parse.ParseFault.{ParseFault}
use Rattle.mz_pterm.specs.declared.parse.ParseFault.TheVariants as faults
use Rattle.mz_tree_item.specs.Grammar.{article}
use Rattle.mz_tree_item.specs.declared.article.ArticleTree.{ArticleTree}
use Rattle.mz_parse_laws.specs.Article.{IsArticle, OneParse, ParsesArticle}
use Rattle.mz_parse_laws.proofs.Marks.{one_marking}

take_more : {X : Type 0} (xs : List X) (a b : ℕ) → a ≤ b → (w : List X) × (take b xs ≡ take a xs ++ w)
take_more xs zero b h = (take b xs, refl)
take_more xs (suc a) zero h = absurd (omega (arith, h))
take_more [] (suc a) (suc b) h = ([], refl)
take_more (x ∷ xs) (suc a) (suc b) h = let r = take_more xs a b (omega (arith, h)) in (r.0, ap (λ z. x ∷ z) r.1)

module _ (F : Form MarkedToken) (room : ℕ) (tokens : List MarkedToken) where
  abbrev up_to : ℕ → List MarkedToken
  up_to k = range tokens 0 k

  longer : (k m : ℕ) → k ≤ m → (w : List MarkedToken) × (up_to m ≡ up_to k ++ w)
  longer k m h = take_more (drop 0 tokens) (k - 0) (m - 0) (omega (arith, h))

  size : (k : ℕ) → k ≤ length tokens → length (up_to k) ≡ k
  size k h = let l : length (take (k - 0) tokens) ≡ k - 0 = length-take-le (k - 0) tokens (omega (arith, h)) in let e : k - 0 ≡ k = omega arith in l ∙ e

  down : (k m : ℕ) → k ≤ m → Begins F (up_to m) → Begins F (up_to k)
  down k m h b =
      let w = longer k m h in
      (w.0 ++ b.0, (b.1.0, (b.1.1.0, b.1.1.1 ∙ (ap (λ z. z ++ b.0) w.1 ∙ append_assoc (up_to k) w.0 b.0))))

  any_depth : (ts : List MarkedToken) → BeginsWithin F room ts → Begins F ts
  any_depth ts b = (b.0, (b.1, b.2))

  whole : (tree : F.Tree) (ts : List MarkedToken) → Spells F tree ts → Begins F ts
  whole tree ts s = ([], (tree, (s.0, s.1 ∙ sym (append_nil ts))))

  -- no tree whose tokens fit goes over a token that is nested too deep
  deep_not_within : (at m : ℕ) → TooDeepAt F room tokens 0 at → at < m → m ≤ length tokens → BeginsWithin F room (up_to m) → ⊥
  deep_not_within at m d l within b =
      let w = longer (at + 1) m (omega (arith, l)) in
      let s : Spells F b.1 (up_to (at + 1) ++ (w.0 ++ b.0)) = (b.2.0, b.2.1 ∙ (ap (λ z. z ++ b.0) w.1 ∙ append_assoc (up_to (at + 1)) w.0 b.0)) in
      let deep : room < level F b.1 (at - 0) = d.all b.1 (w.0 ++ b.0) s in
      let n : length (up_to m) ≡ m = size m within in
      let fits : level F b.1 (at - 0) ≤ room = b.3 (at - 0) (omega (arith, n, l)) in
      omega (arith, deep, fits)

  ok_unexpected : (tree : F.Tree) (k : ℕ) → TheTree F room tokens 0 tree (length tokens) → k < length tokens → Longest F room tokens 0 k → ⊥
  ok_unexpected tree k t l h = h.no_more l (down (k + 1) (length tokens) (omega (arith, l)) (whole tree (up_to (length tokens)) t.spells))

  ok_deep : (tree : F.Tree) (at : ℕ) → TheTree F room tokens 0 tree (length tokens) → TooDeepAt F room tokens 0 at → ⊥
  ok_deep tree at t d = deep_not_within at (length tokens) d d.within (omega arith) t.longest.begins

  ok_early : (tree : F.Tree) → TheTree F room tokens 0 tree (length tokens) → NoTree F room tokens 0 (length tokens) → ⊥
  ok_early tree t n = n.none (tree, t.spells)

  unexpected_deep : (k at : ℕ) → k < length tokens → Longest F room tokens 0 k → TooDeepAt F room tokens 0 at → ⊥
  unexpected_deep k at l h d = go (cases_lt at k)
    where
      go : (at < k) ⊎ (k ≤ at) → ⊥
      go (inl s) = deep_not_within at k d s h.within h.begins
      go (inr s) = h.no_more l (down (k + 1) (at + 1) (omega (arith, s)) d.begins)

  unexpected_early : (k : ℕ) → k < length tokens → Longest F room tokens 0 k → NoTree F room tokens 0 (length tokens) → ⊥
  unexpected_early k l h n = h.no_more l (down (k + 1) (length tokens) (omega (arith, l)) (any_depth (up_to (length tokens)) n.longest.begins))

  deep_early : (at : ℕ) → TooDeepAt F room tokens 0 at → NoTree F room tokens 0 (length tokens) → ⊥
  deep_early at d n = deep_not_within at (length tokens) d d.within (omega arith) n.longest.begins

  unexpected_below : (k m : ℕ) → k < length tokens → Longest F room tokens 0 k → Longest F room tokens 0 m → k < m → ⊥
  unexpected_below k m l h g s = h.no_more l (down (k + 1) m (omega (arith, s)) (any_depth (up_to m) g.begins))

  deep_below : (at m : ℕ) → TooDeepAt F room tokens 0 at → TooDeepAt F room tokens 0 m → at < m → ⊥
  deep_below at m d g s = let l : m < length tokens = g.within in deep_not_within at m d s (omega (arith, l)) g.before

  same_number : (k m : ℕ) → (k < m → ⊥) → (m < k → ⊥) → k ≡ m
  same_number k m h g = go (cases_lt k m) (cases_lt m k)
    where
      go : (k < m) ⊎ (m ≤ k) → (m < k) ⊎ (k ≤ m) → k ≡ m
      go (inl l) r = absurd (h l)
      go (inr l) (inl r) = absurd (g r)
      go (inr l) (inr r) = omega (arith, l, r)

one_place : (tokens : List MarkedToken) (k m : ℕ) (p q : Place) → k ≡ m → StandsAt tokens k p → StandsAt tokens m q → p ≡ q
one_place tokens k m p q e s t =
    let same : s.0 ∷ s.1 ≡ t.0 ∷ t.1 = sym s.2 ∙ (ap (λ n. drop n tokens) e ∙ t.2) in
    sym s.3 ∙ (ap (λ z. z.token.place) (head_of _ _ _ _ same) ∙ t.3)

module _ (all : List MarkedToken) (end : Place) where
  both : (a b : Result ArticleTree ParseFault) → IsArticle all end a → IsArticle all end b → (a ≡ Err faults.Memory → ⊥) → (b ≡ Err faults.Memory → ⊥) → a ≡ b
  both (Ok t) (Ok u) p q m n = ap (λ z. Ok z) (q.only t p.spells)
  both (Ok t) (Err (faults.Unexpected v)) p q m n = absurd (ok_unexpected article 128 all t q.0 p q.1 q.2)
  both (Ok t) (Err (faults.TooDeep v)) p q m n = absurd (ok_deep article 128 all t q.0 p q.1)
  both (Ok t) (Err (faults.EndsEarly v)) p q m n = absurd (ok_early article 128 all t p q.0)
  both (Ok t) (Err faults.Memory) p q m n = absurd (n refl)
  both (Err faults.Memory) b p q m n = absurd (m refl)
  both (Err (faults.Unexpected u)) (Ok t) p q m n = absurd (ok_unexpected article 128 all t p.0 q p.1 p.2)
  both (Err (faults.Unexpected u)) (Err (faults.Unexpected v)) p q m n =
      let e : p.0 ≡ q.0 = same_number article 128 all p.0 q.0 (unexpected_below article 128 all p.0 q.0 p.1 p.2 q.2) (unexpected_below article 128 all q.0 p.0 q.1 q.2 p.2) in
      ap (λ z. Err (faults.Unexpected z)) (one_place all p.0 q.0 u v e p.3 q.3)
  both (Err (faults.Unexpected u)) (Err (faults.TooDeep v)) p q m n = absurd (unexpected_deep article 128 all p.0 q.0 p.1 p.2 q.1)
  both (Err (faults.Unexpected u)) (Err (faults.EndsEarly v)) p q m n = absurd (unexpected_early article 128 all p.0 p.1 p.2 q.0)
  both (Err (faults.Unexpected u)) (Err faults.Memory) p q m n = absurd (n refl)
  both (Err (faults.TooDeep u)) (Ok t) p q m n = absurd (ok_deep article 128 all t p.0 q p.1)
  both (Err (faults.TooDeep u)) (Err (faults.Unexpected v)) p q m n = absurd (unexpected_deep article 128 all q.0 p.0 q.1 q.2 p.1)
  both (Err (faults.TooDeep u)) (Err (faults.TooDeep v)) p q m n =
      let e : p.0 ≡ q.0 = same_number article 128 all p.0 q.0 (deep_below article 128 all p.0 q.0 p.1 q.1) (deep_below article 128 all q.0 p.0 q.1 p.1) in
      ap (λ z. Err (faults.TooDeep z)) (one_place all p.0 q.0 u v e p.2 q.2)
  both (Err (faults.TooDeep u)) (Err (faults.EndsEarly v)) p q m n = absurd (deep_early article 128 all p.0 p.1 q.0)
  both (Err (faults.TooDeep u)) (Err faults.Memory) p q m n = absurd (n refl)
  both (Err (faults.EndsEarly u)) (Ok t) p q m n = absurd (ok_early article 128 all t q p.0)
  both (Err (faults.EndsEarly u)) (Err (faults.Unexpected v)) p q m n = absurd (unexpected_early article 128 all q.0 q.1 q.2 p.0)
  both (Err (faults.EndsEarly u)) (Err (faults.TooDeep v)) p q m n = absurd (deep_early article 128 all q.0 q.1 p.0)
  both (Err (faults.EndsEarly u)) (Err (faults.EndsEarly v)) p q m n = ap (λ z. Err (faults.EndsEarly z)) (p.1 ∙ sym q.1)
  both (Err (faults.EndsEarly u)) (Err faults.Memory) p q m n = absurd (n refl)

-- with the marks of the whole list
marked : (tokens : TokenList) (a : Result ArticleTree ParseFault) → ParsesArticle tokens a → (a ≡ Err faults.Memory → ⊥) → (all : List MarkedToken) × AreMarked tokens.items all × IsArticle all tokens.end a
marked tokens (Ok t) p m = p
marked tokens (Err (faults.Unexpected u)) p m = p
marked tokens (Err (faults.TooDeep u)) p m = p
marked tokens (Err (faults.EndsEarly u)) p m = p
marked tokens (Err faults.Memory) p m = absurd (m refl)

pub one_parse : OneParse
one_parse tokens a b p q m n =
    let x = marked tokens a p m in
    let y = marked tokens b q n in
    let At : List MarkedToken → Type 0 = λ z. IsArticle z tokens.end a in
    both y.0 tokens.end a b (subst At (one_marking tokens.items x.0 y.0 x.1 y.1) x.2) y.2 m n
