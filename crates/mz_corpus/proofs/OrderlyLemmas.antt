-- What a gathering keeps, step by step.
use Rattle.std.proofs.Common.{◌≡◌, ℕ, ◌+◌, ◌-◌, ◌<◌, ◌≤◌, ◌⊎◌, Bool, true, false, not, ◌&&◌, ◌||◌, ◌==◌, cond, List, [], ◌∷◌, ◌++◌, length, get_or, take, Option, Some, None, refl, sym, ap, subst, ◌∙◌, arith, inl, inr, append-nil, append_assoc, length-append}
use Rattle.std.specs.Prelude.{Contains, AllPairs, fold, map, slice_get, unwrap_or}
use Rattle.std.specs.List.{list_any}
use Rattle.std.proofs.lemmas.Bool.{false≢true, eq-eqb}
use Rattle.std.proofs.lemmas.List.{take_all, take_more, map-append, take-append-le, get_or_append_left}
use Rattle.std.proofs.lemmas.List.Quantifiers.{all_pairs_push}
use Rattle.std.proofs.lemmas.List.Elements.{Contains-append_left, Contains-push_cases, Contains-push, Contains-get_or}
use Rattle.std.proofs.lemmas.Option.{slice_get_within, slice_get_cases, unwrap_or-slice_get}
use Rattle.mz_base.specs.declared.name.Name.{Name}
use Rattle.mz_base.specs.Name.{is_built_in}
use Rattle.mz_base.specs.NamedText.{NamedText}
use Rattle.mz_corpus.specs.Fit.{AreApart, IsFit, IsFitSource, source_names}
use Rattle.mz_corpus.specs.Gather.{Gathered, is_fetched, queued, begun, next_name}
use Rattle.mz_corpus.specs.Names.{is_among, with_name, with_fetched_name}
use Rattle.mz_corpus.specs.Orderly.{IsQueued, IsOrderly}
use Rattle.mz_corpus.specs.Source.{Source}
use Rattle.mz_corpus.proofs.ContainsLemmas.{Contains-head, Contains-tail, Contains-none, Contains-cases}
use Rattle.mz_corpus.proofs.AscendingLemmas.{Contains-among, among-Contains}

abbrev pub AreDistinct : List Name → Type 0
AreDistinct ns = AllPairs (λ m n. m ≡ n → ⊥) ns

-- the later queue goes on from the earlier one, with distinct names that aren't built in
record Goes (old new : List Name) : Type 0 where
  more : List Name
  is : new ≡ old ++ more
  distinct : AreDistinct old → AreDistinct new
  fetched : ((n : Name) → Contains old n → is_built_in n.number ≡ false) → (n : Name) → Contains new n → is_built_in n.number ≡ false

same : (ns : List Name) → Goes ns ns
same ns = record { more = []; is = sym (append-nil ns); distinct = λ h. h; fetched = λ h. h }

then : (old mid new : List Name) → Goes old mid → Goes mid new → Goes old new
then old mid new h k = record {
  more = h.more ++ k.more;
  is = k.is ∙ ap (λ ns. ns ++ k.more) h.is ∙ append_assoc old h.more k.more;
  distinct = λ d. k.distinct (h.distinct d);
  fetched = λ f. k.fetched (h.fetched f);
}

push_distinct : (ns : List Name) (n : Name) → is_among ns n ≡ false → AreDistinct ns → AreDistinct (ns ++ n ∷ [])
push_distinct ns n e h =
    all_pairs_push (λ m k. m ≡ k → ⊥) ns n h (λ k d lt is. let has : is_among ns n ≡ true = among-Contains ns n (subst (λ x. Contains ns x) is (Contains-get_or ns k d lt)) in absurd (false≢true (sym e ∙ has)))

name_by : (ns : List Name) (n : Name) (b : Bool) → is_among ns n ≡ b → is_built_in n.number ≡ false → Goes ns (cond b ns (ns ++ n ∷ []))
name_by ns n true e new = same ns
name_by ns n false e new = record {
  more = n ∷ [];
  is = refl;
  distinct = push_distinct ns n e;
  fetched = λ f m h. elim (Contains-push_cases ns n m h) [ inl k ↦ f m k | inr is ↦ subst (λ x. is_built_in x.number ≡ false) is new ];
}

fetched_by : (ns : List Name) (n : Name) (b : Bool) → is_built_in n.number ≡ b → Goes ns (cond b ns (with_name ns n))
fetched_by ns n true e = same ns
fetched_by ns n false e = name_by ns n (is_among ns n) refl e

goes_queued : (names ns : List Name) → Goes ns (queued ns names)
goes_queued [] ns = same ns
goes_queued (n ∷ names) ns = then ns (with_fetched_name ns n) (queued (with_fetched_name ns n) names) (fetched_by ns n (is_built_in n.number) refl) (goes_queued names (with_fetched_name ns n))

keeps : (old new : List Name) (n : Name) → Goes old new → Contains old n → Contains new n
keeps old new n g h = subst (λ ns. Contains ns n) (sym g.is) (Contains-append_left old g.more n h)

-- the names that are queued are in the queue

name_in : (ns : List Name) (n : Name) (b : Bool) → is_among ns n ≡ b → Contains (cond b ns (ns ++ n ∷ [])) n
name_in ns n true e = Contains-among ns n e
name_in ns n false e = Contains-push ns n

pub in_queued : (names ns : List Name) (n : Name) → Contains names n → is_built_in n.number ≡ false → Contains (queued ns names) n
in_queued [] ns n h e = absurd (Contains-none n h)
in_queued (m ∷ names) ns n h e =
    elim (Contains-cases m names n h) [
      | inl is ↦
          (let new : is_built_in m.number ≡ false = subst (λ x. is_built_in x.number ≡ false) (sym is) e in
          let here : Contains (with_fetched_name ns m) m = subst (λ b. Contains (cond b ns (with_name ns m)) m) (sym new) (name_in ns m (is_among ns m) refl) in
          keeps (with_fetched_name ns m) (queued (with_fetched_name ns m) names) n (goes_queued names (with_fetched_name ns m)) (subst (λ x. Contains (with_fetched_name ns m) x) is here))
      | inr k ↦ in_queued names (with_fetched_name ns m) n k e
    ]

-- the start

pub IsOrderly-begun : (names : List Name) → IsOrderly (begun names)
IsOrderly-begun names =
    let g = goes_queued names [] in
    record {
      distinct = g.distinct (λ i j d lt within. omega arith);
      fetched = g.fetched (λ n h. absurd (Contains-none n h));
      within = omega arith;
      names = refl;
      each = λ s h. absurd (Contains-none s h);
      apart = λ v w hv hw e. absurd (Contains-none v hv);
    }

-- names that are queued

take-goes : (old new : List Name) (n : ℕ) → Goes old new → n ≤ length old → take n new ≡ take n old
take-goes old new n g le = ap (take n) g.is ∙ take-append-le n old g.more le

pub IsOrderly-queued : (g : Gathered) (names : List Name) → IsOrderly g → IsOrderly (record g { queue = queued g.queue names })
IsOrderly-queued g names h =
    let goes = goes_queued names g.queue in
    record {
      distinct = goes.distinct h.distinct;
      fetched = goes.fetched h.fetched;
      within = (let l = ap length goes.is ∙ length-append g.queue goes.more in let w = h.within in omega arith);
      names = h.names ∙ sym (take-goes g.queue (queued g.queue names) (length g.sources) goes h.within);
      each = λ s held. let q = h.each s held in record { known = λ n k e. keeps g.queue (queued g.queue names) n goes (q.known n k e); missing = q.missing };
      apart = h.apart;
    }

-- the element at a place

get_or-value_at : (ns : List Name) (i : ℕ) (x : Name) → slice_get ns i ≡ Some x → get_or ns i x ≡ x
get_or-value_at ns i x e = sym (unwrap_or-slice_get ns i x) ∙ ap (λ o. unwrap_or o x) e

slice_get-stands_at : (ns : List Name) (i : ℕ) (x : Name) → i < length ns → get_or ns i x ≡ x → slice_get ns i ≡ Some x
slice_get-stands_at ns i x lt g =
    elim (slice_get_cases ns i).1 [
      | inl t ↦ (let same : t.0 ≡ x = ap (λ o. unwrap_or o x) (sym t.2) ∙ unwrap_or-slice_get ns i x ∙ g in t.2 ∙ ap (λ y. Some y) same)
      | inr t ↦ (let le = t.0 in absurd (let bad : ⊥ = omega arith in bad))
    ]

slice_get-append : (ns ms : List Name) (i : ℕ) (x : Name) → slice_get ns i ≡ Some x → slice_get (ns ++ ms) i ≡ Some x
slice_get-append ns ms i x e =
    let lt = slice_get_within ns i x e in
    slice_get-stands_at (ns ++ ms) i x (let l = length-append ns ms in omega arith) (get_or_append_left ns ms x i lt ∙ get_or-value_at ns i x e)

none_within : (ns : List Name) (i : ℕ) → slice_get ns i ≡ None → length ns ≤ i
none_within ns i e = elim (slice_get_cases ns i).1 [ inl t ↦ absurd (no_some t.0 (sym t.2 ∙ e)) | inr t ↦ t.0 ]
  where
    no_some : (x : Name) → Some x ≡ None → ⊥
    no_some x h = cc

-- the names that stand at the front stay

pub next_name-queued : (g : Gathered) (names : List Name) (n : Name) → next_name g ≡ Some n → next_name (record g { queue = queued g.queue names }) ≡ Some n
next_name-queued g names n h = let goes = goes_queued names g.queue in ap (λ ns. slice_get ns (length g.sources)) goes.is ∙ slice_get-append g.queue goes.more (length g.sources) n h

-- a source

pub IsOrderly-source : (g : Gathered) (s : Source) → IsOrderly g → next_name g ≡ Some s.name → IsQueued g.queue s → IsOrderly (record g { sources = g.sources ++ s ∷ [] })
IsOrderly-source g s h next q =
    let lt = slice_get_within g.queue (length g.sources) s.name next in
    let longer : length (g.sources ++ s ∷ []) ≡ length g.sources + 1 = length-append g.sources (s ∷ []) in
    record {
      distinct = h.distinct;
      fetched = h.fetched;
      within = omega arith;
      names = map-append (λ x. x.name) g.sources (s ∷ []) ∙ ap (λ ns. ns ++ s.name ∷ []) h.names
          ∙ sym (ap (λ i. take i g.queue) longer ∙ take_more g.queue (length g.sources) s.name lt ∙ ap (λ x. take (length g.sources) g.queue ++ x ∷ []) (get_or-value_at g.queue (length g.sources) s.name next));
      each = λ t held. elim (Contains-push_cases g.sources s t held) [ inl k ↦ h.each t k | inr e ↦ subst (λ x. IsQueued g.queue x) e q ];
      apart = h.apart;
    }

-- a vocabulary

fetched_text : (vs : List NamedText) (v : NamedText) → Contains vs v → is_fetched vs v.name ≡ true
fetched_text [] v h = absurd (Contains-none v h)
fetched_text (w ∷ vs) v h =
    elim (Contains-cases w vs v h) [
      | inl e ↦ ap (λ b. b || is_fetched vs v.name) (eq-eqb v.name.number w.name.number (ap (λ x. x.name.number) (sym e)))
      | inr k ↦ ap (λ b. (v.name.number == w.name.number) || b) (fetched_text vs v k) ∙ or_true (v.name.number == w.name.number)
    ]
  where
    or_true : (a : Bool) → a || true ≡ true
    or_true true = refl
    or_true false = refl

unlike : (vs : List NamedText) (v w : NamedText) → is_fetched vs w.name ≡ false → Contains vs v → v.name ≡ w.name → ⊥
unlike vs v w e h is = let yes : is_fetched vs w.name ≡ true = subst (λ n. is_fetched vs n ≡ true) is (fetched_text vs v h) in absurd (false≢true (sym e ∙ yes))

apart_push : (vs : List NamedText) (u : NamedText) → is_fetched vs u.name ≡ false → AreApart vs → AreApart (vs ++ u ∷ [])
apart_push vs u e h v w hv hw is =
    elim (Contains-push_cases vs u v hv) [
      | inl a ↦ elim (Contains-push_cases vs u w hw) [ inl b ↦ h v w a b is | inr b ↦ absurd (unlike vs v u e a (is ∙ ap (λ x. x.name) (sym b))) ]
      | inr a ↦ elim (Contains-push_cases vs u w hw) [ inl b ↦ absurd (unlike vs w u e b (sym is ∙ ap (λ x. x.name) (sym a))) | inr b ↦ sym a ∙ b ]
    ]

pub IsOrderly-vocabulary : (g : Gathered) (u : NamedText) (bytes : ℕ) → IsOrderly g → is_fetched g.vocabularies u.name ≡ false → IsOrderly (record g { vocabularies = g.vocabularies ++ u ∷ []; bytes = bytes })
IsOrderly-vocabulary g u bytes h e = record { distinct = h.distinct; fetched = h.fetched; within = h.within; names = h.names; each = h.each; apart = apart_push g.vocabularies u e h.apart }

-- the end

pub IsFit-gathered : (g : Gathered) → IsOrderly g → length g.queue ≤ 512 → next_name g ≡ None → IsFit g.sources g.vocabularies
IsFit-gathered g h few ended =
    let past : length g.queue ≤ length g.sources = none_within g.queue (length g.sources) ended in
    let all : source_names g.sources ≡ g.queue = h.names ∙ take_all (length g.sources) g.queue past in
    record {
      few = (let w = h.within in omega arith);
      distinct = rw all h.distinct;
      each = λ s held.
          let q = h.each s held in
          record {
            not_built_in = h.fetched s.name (subst (λ ns. Contains ns s.name) all (source_in g.sources s held));
            known = λ n k e. subst (λ ns. Contains ns n) (sym all) (q.known n k e);
            missing = q.missing;
          };
      apart = h.apart;
    }
  where
    source_in : (ss : List Source) (s : Source) → Contains ss s → Contains (source_names ss) s.name
    source_in [] s k = absurd (Contains-none s k)
    source_in (t ∷ ss) s k = elim (Contains-cases t ss s k) [ inl e ↦ subst (λ x. Contains (t.name ∷ source_names ss) x.name) e (Contains-head t.name (source_names ss)) | inr j ↦ Contains-tail t.name (source_names ss) s.name (source_in ss s j) ]

-- an article

IsOrderly-same : (g h : Gathered) → h.queue ≡ g.queue → h.sources ≡ g.sources → AreApart h.vocabularies → IsOrderly g → IsOrderly h
IsOrderly-same g h eq es apart o = record {
  distinct = rw eq o.distinct;
  fetched = λ n k. o.fetched n (subst (λ ns. Contains ns n) eq k);
  within = (let w = o.within in let a = ap length es in let b = ap length eq in omega arith);
  names = ap source_names es ∙ o.names ∙ (λ i. take (length (sym es i)) (sym eq i));
  each = λ s k. let q = o.each s (subst (λ ss. Contains ss s) es k) in record { known = λ n j e. subst (λ ns. Contains ns n) (sym eq) (q.known n j e); missing = q.missing };
  apart = apart;
}

next_name-same : (g h : Gathered) (n : Name) → h.queue ≡ g.queue → h.sources ≡ g.sources → next_name g ≡ Some n → next_name h ≡ Some n
next_name-same g h n eq es e = (λ i. slice_get (eq i) (length (es i))) ∙ e

pub IsOrderly-taken : (g h k : Gathered) (s : Source) → h.queue ≡ g.queue → h.sources ≡ g.sources → (AreApart g.vocabularies → AreApart h.vocabularies)
    → k ≡ record h { queue = queued h.queue s.dependencies; sources = h.sources ++ s ∷ [] } → (s.text ≡ None → (s.dependencies ≡ []) × (s.vocabulary_names ≡ [])) → IsOrderly g → next_name g ≡ Some s.name → IsOrderly k
IsOrderly-taken g h k s eq es apart ek missing o next =
    let oh = IsOrderly-same g h eq es (apart o.apart) o in
    let nh = next_name-same g h s.name eq es next in
    let q : Gathered = record h { queue = queued h.queue s.dependencies } in
    let oq : IsOrderly q = IsOrderly-queued h s.dependencies oh in
    let nq : next_name q ≡ Some s.name = next_name-queued h s.dependencies s.name nh in
    subst IsOrderly (sym ek) (IsOrderly-source q s oq nq (record { known = λ n j e. in_queued s.dependencies h.queue n j e; missing = missing }))

pub apart_pushed : (vs after : List NamedText) (u : NamedText) → is_fetched vs u.name ≡ false → after ≡ vs ++ u ∷ [] → AreApart vs → AreApart after
apart_pushed vs after u e is h = subst AreApart (sym is) (apart_push vs u e h)
