-- Articles that depend on themselves.
use Rattle.std.proofs.Common.{◌≡◌, ℕ, ◌<◌, ◌≤◌, ◌⊎◌, ◌↔◌, Bool, true, false, not, ◌&&◌, ◌||◌, List, [], ◌∷◌, ◌++◌, length, get_or, refl, sym, ap, subst, ◌∙◌, arith, inl, inr, append_assoc, append-nil}
use Rattle.std.specs.Prelude.{Contains, AllPairs, map}
use Rattle.std.specs.List.{list_all}
use Rattle.std.proofs.lemmas.Bool.{false≢true, cases_lt}
use Rattle.std.proofs.lemmas.List.{length-map, get_or-map, get_or_default}
use Rattle.std.proofs.lemmas.List.Elements.{Contains-append_left, Contains-push_cases}
use Rattle.mz_base.specs.declared.name.Name.{Name}
use Rattle.mz_base.specs.Name.{is_built_in}
use Rattle.mz_corpus.specs.Article.{Article, is_cyclic}
use Rattle.mz_corpus.specs.Corpus.{Corpus, IsCorpus, IsArticle, DependsOn, directly, by_another, links_of, link_of, names_of}
use Rattle.mz_corpus.specs.Link.{Link}
use Rattle.mz_corpus.specs.Names.{is_among}
use Rattle.mz_corpus.specs.Order.{is_at_hand, is_ready, IsFirstReady, Takes, end, take as take_first, IsOrder}
use Rattle.mz_corpus.specs.declared.ordering.Ordering.{Ordering}
use Rattle.mz_corpus.proofs.ContainsLemmas.{Contains-head, Contains-tail, Contains-none, Contains-cases}
use Rattle.mz_corpus.proofs.AscendingLemmas.{Contains-among, among-Contains}
use Rattle.mz_corpus.proofs.OrderLemmas.{and_left, unready, Contains-map}

-- an article is among its own dependencies

pub cyclic_depends : (c : Corpus) (a : Article) → IsCorpus c → Contains c.articles a → (is_cyclic a ≡ true) ↔ DependsOn (links_of c.articles) a.direct a.name
cyclic_depends c a h held =
    let k = (h.each a held).reach in
    (λ e. k.depends a.name (Contains-among a.reach a.name e), λ d. among-Contains a.reach a.name (k.all a.name d))

-- what was taken has all of its dependencies among what was taken before

and_right : (a b : Bool) → a && b ≡ true → b ≡ true
and_right true b h = h
and_right false b h = absurd (false≢true h)

each_of : (p : Name → Bool) (ms : List Name) (m : Name) → list_all p ms ≡ true → Contains ms m → p m ≡ true
each_of p [] m h held = absurd (Contains-none m held)
each_of p (x ∷ xs) m h held = elim (Contains-cases x xs m held) [ inl e ↦ subst (λ y. p y ≡ true) e (and_left (p x) (list_all p xs) h) | inr k ↦ each_of p xs m (and_right (p x) (list_all p xs) h) k ]

at_hand_taken : (taken : List Name) (m : Name) → is_at_hand taken m ≡ true → is_built_in m.number ≡ false → Contains taken m
at_hand_taken taken m h free = Contains-among taken m (ap (λ b. b || is_among taken m) (sym free) ∙ h)

-- the articles of these names have all that they depend on among these names, and don't depend on themselves
record IsClosed (c : Corpus) (taken : List Name) : Type 0 where
  direct : (a : Article) → Contains c.articles a → Contains taken a.name → (m : Name) → Contains a.direct m → Contains taken m
  apart : (a : Article) → Contains c.articles a → Contains taken a.name → DependsOn (links_of c.articles) a.direct a.name → ⊥

record IsLinkOf (c : List Article) (l : Link) : Type 0 where
  article : Article
  held : Contains c article
  is : link_of article ≡ l

link_held : (c : List Article) (l : Link) → Contains (links_of c) l → IsLinkOf c l
link_held [] l h = absurd (Contains-none l h)
link_held (a ∷ c) l h =
    elim (Contains-cases (link_of a) (links_of c) l h) [
      | inl e ↦ record { article = a; held = Contains-head a c; is = e }
      | inr k ↦ (let r = link_held c l k in record { article = r.article; held = Contains-tail a c r.article r.held; is = r.is })
    ]

all_taken : (c : Corpus) (taken : List Name) (ms : List Name) → IsClosed c taken → ((m : Name) → Contains ms m → Contains taken m) → (n : Name) → DependsOn (links_of c.articles) ms n → Contains taken n
all_taken c taken ms h within n (directly m held) = within m held
all_taken c taken ms h within n (by_another l m at depends held) =
    let l_taken = all_taken c taken ms h within l.name depends in
    let b = link_held c.articles l at in
    h.direct b.article b.held (subst (λ x. Contains taken x) (sym (ap (λ k. k.name) b.is)) l_taken) m (subst (λ k. Contains k.direct m) (sym b.is) held)

-- articles of one name are one

first_name : (c : List Article) (taken : List Name) (n : Name) → IsFirstReady c taken n → is_among taken n ≡ false
first_name c taken n first = subst (λ m. is_among taken m ≡ false) first.named (unready taken first.article first.ready)

direct_taken : (c : Corpus) (taken : List Name) (a : Article) → IsCorpus c → Contains c.articles a → is_ready taken a ≡ true → (m : Name) → Contains a.direct m → Contains taken m
direct_taken c taken a h held ready m k =
    let named = (h.each a held).direct.named m k in
    let all = and_right (not (is_among taken a.name)) (list_all (is_at_hand taken) a.dependencies) ready in
    at_hand_taken taken m (each_of (is_at_hand taken) a.dependencies m all named.0) named.1

record IsOneOf (c : Corpus) : Type 0 where
  one : (a b : Article) → Contains c.articles a → Contains c.articles b → a.name ≡ b.name → a ≡ b

ready_of : (c : Corpus) (taken : List Name) (n : Name) (a : Article) → IsOneOf c → IsFirstReady c.articles taken n → Contains c.articles a → n ≡ a.name → is_ready taken a ≡ true
ready_of c taken n a one first held e = subst (λ b. is_ready taken b ≡ true) (one.one first.article a first.held held (first.named ∙ e)) first.ready

closed_more : (c : Corpus) (taken : List Name) (n : Name) → IsCorpus c → IsOneOf c → IsClosed c taken → IsFirstReady c.articles taken n → IsClosed c (taken ++ n ∷ [])
closed_more c taken n h one k first = record {
  direct = λ a held at m d. Contains-append_left taken (n ∷ []) m
      (elim (Contains-push_cases taken n a.name at) [
        | inl before ↦ k.direct a held before m d
        | inr e ↦ direct_taken c taken a h held (ready_of c taken n a one first held e) m d
      ]);
  apart = λ a held at d.
      elim (Contains-push_cases taken n a.name at) [
        | inl before ↦ k.apart a held before d
        | inr e ↦
            (let ready = ready_of c taken n a one first held e in
            let taken_before = all_taken c taken a.direct k (λ m x. direct_taken c taken a h held ready m x) a.name d in
            false≢true (sym (unready taken a ready) ∙ among-Contains taken a.name taken_before))
      ];
}

closed_all : (c : Corpus) → IsCorpus c → IsOneOf c → {taken ns : List Name} → Takes c.articles taken ns → IsClosed c taken → IsClosed c (taken ++ ns)
closed_all c h one (end taken none) k = subst (λ ts. IsClosed c ts) (sym (append-nil taken)) k
closed_all c h one (take_first taken ns n first more) k = subst (λ ts. IsClosed c ts) (append_assoc taken (n ∷ []) ns) (closed_all c h one more (closed_more c taken n h one k first))

-- one article of a name

name_at : (c : List Article) (i : ℕ) (a : Article) (d : Name) → i < length c → get_or c i a ≡ a → get_or (names_of c) i d ≡ a.name
name_at c i a d lt e = get_or-map (λ x. x.name) c i a d lt ∙ ap (λ x. x.name) e

two_places : (c : List Article) (i j : ℕ) (a b : Article) → AllPairs (λ m n. m ≡ n → ⊥) (names_of c) → i < j → j < length c → get_or c i a ≡ a → get_or c j b ≡ b → a.name ≡ b.name → ⊥
two_places c i j a b h lt within ea eb e =
    let l = length-map c (λ x. x.name) in
    h i j a.name lt (omega arith) (name_at c i a a.name (omega arith) ea ∙ e ∙ sym (name_at c j b a.name within eb))

one_named : (c : List Article) → AllPairs (λ m n. m ≡ n → ⊥) (names_of c) → (a b : Article) → Contains c a → Contains c b → a.name ≡ b.name → a ≡ b
one_named c h a b ha hb e =
    elim (cases_lt ha.0 hb.0) [
      | inl lt ↦ absurd (two_places c ha.0 hb.0 a b h lt hb.1 ha.2 hb.2 e)
      | inr le ↦ elim (cases_lt hb.0 ha.0) [
        | inl lt ↦ absurd (two_places c hb.0 ha.0 b a h lt ha.1 hb.2 ha.2 (sym e))
        | inr ge ↦
            (let same : ha.0 ≡ hb.0 = omega arith in
            sym ha.2 ∙ ap (λ k. get_or c k a) same ∙ get_or_default c hb.0 a b hb.1 ∙ hb.2)
      ]
    ]

-- a cyclic article is in the rest

nothing_closed : (c : Corpus) → IsClosed c []
nothing_closed c = record { direct = λ a held at. absurd (Contains-none a.name at); apart = λ a held at. absurd (Contains-none a.name at) }

rest_by : (c : Corpus) (a : Article) (o : Ordering) → Contains c.articles a → IsOrder c.articles o → IsClosed c o.order → DependsOn (links_of c.articles) a.direct a.name → (b : Bool) → is_among o.order a.name ≡ b → Contains o.rest a.name
rest_by c a o held order k d true e = absurd (k.apart a held (Contains-among o.order a.name e) d)
rest_by c a o held order k d false e = order.all a.name (Contains-map (λ x. x.name) c.articles a held) e

pub cyclic_rest : (c : Corpus) (a : Article) (o : Ordering) → IsCorpus c → Contains c.articles a → IsOrder c.articles o → is_cyclic a ≡ true → Contains o.rest a.name
cyclic_rest c a o h held order cyclic =
    rest_by c a o held order (closed_all c h (record { one = one_named c.articles h.distinct }) order.takes (nothing_closed c)) ((cyclic_depends c a h held).0 cyclic) (is_among o.order a.name) refl
