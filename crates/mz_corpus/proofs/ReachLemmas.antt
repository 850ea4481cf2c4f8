-- All dependencies, one after another.
use Rattle.std.proofs.Common.{◌≡◌, ℕ, suc, ◌+◌, ◌-◌, ◌<◌, ◌≤◌, ◌⊎◌, Bool, true, false, not, ◌&&◌, ◌||◌, ◌==◌, cond, List, [], ◌∷◌, ◌++◌, length, get_or, take, refl, sym, ap, subst, ◌∙◌, arith, inl, inr, append_assoc, append-nil, length-append}
use Rattle.std.specs.Prelude.{Contains, fold, map, filter}
use Rattle.std.proofs.lemmas.Bool.{eqb-true, eq-eqb}
use Rattle.std.proofs.lemmas.List.{take_more, take_all, take-append-le}
use Rattle.std.proofs.lemmas.List.Elements.{Contains-append_left, Contains-append_right, Contains-append_cases, Contains-push_cases, Contains-push, Contains-get_or}
use Rattle.mz_base.specs.declared.name.Name.{Name}
use Rattle.mz_base.specs.Name.{is_built_in}
use Rattle.mz_base.proofs.NameEqual.{Name-equal}
use Rattle.mz_corpus.specs.Ascending.{sorted_names}
use Rattle.mz_corpus.specs.Corpus.{DependsOn, directly, by_another, IsReach, IsDirect}
use Rattle.mz_corpus.specs.Link.{Link}
use Rattle.mz_corpus.specs.Names.{is_name_of, is_among, with_name}
use Rattle.mz_corpus.specs.Reach.{direct_of, with_link, AreKnown, IsComplete}
use Rattle.mz_corpus.proofs.ContainsLemmas.{Contains-head, Contains-tail, Contains-none, Contains-cases}
use Rattle.mz_corpus.proofs.AscendingLemmas.{Contains-among, IsAscending-sorted_names, Contains-from_sorted, Contains-to_sorted}
use Rattle.mz_corpus.proofs.OrderLemmas.{with_name-new, left_count, left_count-less, filter_in, in_filter, not_true}

-- one more name

abbrev names_in : List Link → List Name
names_in links = map (λ k. k.name) links

abbrev spare : List Name → List Name → ℕ
spare ms ns = left_count ms ns + length ns

-- the later names go on from the earlier ones, and are no more than fit
record GoesOn (ms old new : List Name) : Type 0 where
  more : List Name
  is : new ≡ old ++ more
  fits : spare ms new ≤ spare ms old

on_same : (ms old : List Name) → GoesOn ms old old
on_same ms old = record { more = []; is = sym (append-nil old); fits = omega arith }

on_two : (ms old mid new : List Name) → GoesOn ms old mid → GoesOn ms mid new → GoesOn ms old new
on_two ms old mid new h k = record {
  more = h.more ++ k.more;
  is = k.is ∙ ap (λ ns. ns ++ k.more) h.is ∙ append_assoc old h.more k.more;
  fits = (let a = h.fits in let b = k.fits in omega arith);
}

name_by : (ms ns : List Name) (n : Name) (b : Bool) → is_among ns n ≡ b → Contains ms n → GoesOn ms ns (cond b ns (ns ++ n ∷ []))
name_by ms ns n true e known = on_same ms ns
name_by ms ns n false e known = record {
  more = n ∷ [];
  is = refl;
  fits = (let less = left_count-less ms ns n known e in let l = length-append ns (n ∷ []) in omega arith);
}

on_name : (ms ns : List Name) (n : Name) → Contains ms n → GoesOn ms ns (with_name ns n)
on_name ms ns n known = name_by ms ns n (is_among ns n) refl known

on_names : (ms names ns : List Name) → ((n : Name) → Contains names n → Contains ms n) → GoesOn ms ns (fold with_name ns names)
on_names ms [] ns known = on_same ms ns
on_names ms (n ∷ names) ns known =
    on_two ms ns (with_name ns n) (fold with_name (with_name ns n) names) (on_name ms ns n (known n (Contains-head n names))) (on_names ms names (with_name ns n) (λ m h. known m (Contains-tail n names m h)))

link_by : (ms : List Name) (ns : List Name) (l : Link) (b : Bool) → ((n : Name) → Contains l.direct n → Contains ms n) → GoesOn ms ns (cond b (fold with_name ns l.direct) ns)
link_by ms ns l true known = on_names ms l.direct ns known
link_by ms ns l false known = on_same ms ns

on_links : (ms : List Name) (name : Name) (links : List Link) (ns : List Name) → ((l : Link) → Contains links l → (n : Name) → Contains l.direct n → Contains ms n) → GoesOn ms ns (fold (with_link name) ns links)
on_links ms name [] ns known = on_same ms ns
on_links ms name (l ∷ links) ns known =
    on_two ms ns (with_link name ns l) (fold (with_link name) (with_link name ns l) links) (link_by ms ns l (is_name_of name l.name) (known l (Contains-head l links)))
    (on_links ms name links (with_link name ns l) (λ k h. known k (Contains-tail l links k h)))

kept : (ms old new : List Name) (n : Name) → GoesOn ms old new → Contains old n → Contains new n
kept ms old new n h k = subst (λ ns. Contains ns n) (sym h.is) (Contains-append_left old h.more n k)

-- what is added

named_by : (ns : List Name) (n m : Name) (b : Bool) → is_among ns n ≡ b → Contains (cond b ns (ns ++ n ∷ [])) m → Contains ns m ⊎ (n ≡ m)
named_by ns n m true e h = inl h
named_by ns n m false e h = Contains-push_cases ns n m h

added_name : (ns : List Name) (n : Name) (b : Bool) → is_among ns n ≡ b → Contains (cond b ns (ns ++ n ∷ [])) n
added_name ns n true e = Contains-among ns n e
added_name ns n false e = Contains-push ns n

from_names : (names ns : List Name) (m : Name) → Contains (fold with_name ns names) m → Contains ns m ⊎ Contains names m
from_names [] ns m h = inl h
from_names (n ∷ names) ns m h =
    elim (from_names names (with_name ns n) m h) [
      | inl k ↦ elim (named_by ns n m (is_among ns n) refl k) [ inl j ↦ inl j | inr e ↦ inr (subst (λ x. Contains (n ∷ names) x) e (Contains-head n names)) ]
      | inr k ↦ inr (Contains-tail n names m k)
    ]

keeps_name : (ns : List Name) (n m : Name) (b : Bool) → is_among ns n ≡ b → Contains ns m → Contains (cond b ns (ns ++ n ∷ [])) m
keeps_name ns n m true e h = h
keeps_name ns n m false e h = Contains-append_left ns (n ∷ []) m h

keeps_names : (names ns : List Name) (m : Name) → Contains ns m → Contains (fold with_name ns names) m
keeps_names [] ns m h = h
keeps_names (n ∷ names) ns m h = keeps_names names (with_name ns n) m (keeps_name ns n m (is_among ns n) refl h)

to_names : (names ns : List Name) (m : Name) → Contains names m → Contains (fold with_name ns names) m
to_names [] ns m h = absurd (Contains-none m h)
to_names (n ∷ names) ns m h =
    elim (Contains-cases n names m h) [
      | inl e ↦ keeps_names names (with_name ns n) m (subst (λ x. Contains (with_name ns n) x) e (added_name ns n (is_among ns n) refl))
      | inr k ↦ to_names names (with_name ns n) m k
    ]

-- a link of the name has it
record Linked (name : Name) (links : List Link) (m : Name) : Type 0 where
  link : Link
  held : Contains links link
  named : link.name ≡ name
  has : Contains link.direct m

linked_by : (name : Name) (l : Link) (ns : List Name) (m : Name) (b : Bool) → is_name_of name l.name ≡ b → Contains (cond b (fold with_name ns l.direct) ns) m → Contains ns m ⊎ ((l.name ≡ name) × Contains l.direct m)
linked_by name l ns m true e h = elim (from_names l.direct ns m h) [ inl k ↦ inl k | inr k ↦ inr (Name-equal l.name name (sym (eqb-true name.number l.name.number e)), k) ]
linked_by name l ns m false e h = inl h

from_links : (name : Name) (links : List Link) (ns : List Name) (m : Name) → Contains (fold (with_link name) ns links) m → Contains ns m ⊎ Linked name links m
from_links name [] ns m h = inl h
from_links name (l ∷ links) ns m h =
    elim (from_links name links (with_link name ns l) m h) [
      | inl k ↦ elim (linked_by name l ns m (is_name_of name l.name) refl k) [ inl j ↦ inl j | inr j ↦ inr (record { link = l; held = Contains-head l links; named = j.0; has = j.1 }) ]
      | inr k ↦ inr (record { link = k.link; held = Contains-tail l links k.link k.held; named = k.named; has = k.has })
    ]

keeps_link : (l : Link) (ns : List Name) (m : Name) (b : Bool) → Contains ns m → Contains (cond b (fold with_name ns l.direct) ns) m
keeps_link l ns m true h = keeps_names l.direct ns m h
keeps_link l ns m false h = h

keeps_links : (name : Name) (links : List Link) (ns : List Name) (m : Name) → Contains ns m → Contains (fold (with_link name) ns links) m
keeps_links name [] ns m h = h
keeps_links name (l ∷ links) ns m h = keeps_links name links (with_link name ns l) m (keeps_link l ns m (is_name_of name l.name) h)

to_link : (name : Name) (l : Link) (ns : List Name) (m : Name) → l.name ≡ name → Contains l.direct m → Contains (with_link name ns l) m
to_link name l ns m e h =
    let same : is_name_of name l.name ≡ true = eq-eqb name.number l.name.number (ap (λ n. n.number) (sym e)) in
    subst (λ b. Contains (cond b (fold with_name ns l.direct) ns) m) (sym same) (to_names l.direct ns m h)

to_links : (name : Name) (links : List Link) (ns : List Name) (l : Link) (m : Name) → Contains links l → l.name ≡ name → Contains l.direct m → Contains (fold (with_link name) ns links) m
to_links name [] ns l m held e h = absurd (Contains-none l held)
to_links name (k ∷ links) ns l m held e h =
    elim (Contains-cases k links l held) [
      | inl same ↦ keeps_links name links (with_link name ns k) m (to_link name k ns m (subst (λ x. x.name ≡ name) (sym same) e) (subst (λ x. Contains x.direct m) (sym same) h))
      | inr later ↦ to_links name links (with_link name ns k) l m later e h
    ]

-- the loop

-- the names are dependencies, the direct ones among them, and with each of the first ones its direct dependencies
pub record HasReached (links : List Link) (direct set : List Name) (at : ℕ) : Type 0 where
  pub within : at ≤ length set
  pub start : (n : Name) → Contains direct n → Contains set n
  pub depends : (n : Name) → Contains set n → DependsOn links direct n
  pub closed : (l : Link) (n : Name) → Contains links l → Contains (take at set) l.name → Contains l.direct n → Contains set n

pub HasReached-start : (links : List Link) (direct none set : List Name) → none ≡ [] → set ≡ fold with_name none direct → HasReached links direct set 0
HasReached-start links direct none set en e =
    let is : set ≡ fold with_name [] direct = e ∙ ap (λ ns. fold with_name ns direct) en in
    record {
      within = omega arith;
      start = λ n h. subst (λ ns. Contains ns n) (sym is) (to_names direct [] n h);
      depends = λ n h. elim (from_names direct [] n (subst (λ ns. Contains ns n) is h)) [ inl k ↦ absurd (Contains-none n k) | inr k ↦ directly n k ];
      closed = λ l n held done h. absurd (Contains-none l.name done);
    }

take-turned : (ms : List Name) (set after : List Name) (at : ℕ) (name : Name) → at < length set → name ≡ get_or set at name → GoesOn ms set after → take (at + 1) after ≡ take at set ++ name ∷ []
take-turned ms set after at name lt is on =
    ap (take (at + 1)) on.is ∙ take-append-le (at + 1) set on.more (omega arith) ∙ take_more set at name lt ∙ ap (λ m. take at set ++ m ∷ []) (sym is)

all_known : (links : List Link) → ((l : Link) → Contains links l → AreKnown links l.direct) → (l : Link) → Contains links l → (n : Name) → Contains l.direct n → Contains (names_in links) n
all_known links known l held n h = known l held n h

pub HasReached-turn : (links : List Link) (direct set after : List Name) (at : ℕ) (name : Name) → ((l : Link) → Contains links l → AreKnown links l.direct) → at < length set → name ≡ get_or set at name
    → after ≡ fold (with_link name) set links → HasReached links direct set at → HasReached links direct after (at + 1)
HasReached-turn links direct set after at name known lt is e h =
    let on : GoesOn (names_in links) set after = subst (λ ns. GoesOn (names_in links) set ns) (sym e) (on_links (names_in links) name links set (all_known links known)) in
    let held : Contains set name = subst (λ n. Contains set n) (sym is) (Contains-get_or set at name lt) in
    record {
      within = (let l = ap length on.is ∙ length-append set on.more in omega arith);
      start = λ n k. kept (names_in links) set after n on (h.start n k);
      depends = λ n k. elim (from_links name links set n (subst (λ ns. Contains ns n) e k)) [
        | inl j ↦ h.depends n j
        | inr j ↦ by_another j.link n j.held (subst (λ m. DependsOn links direct m) (sym j.named) (h.depends name held)) j.has
      ];
      closed = λ l n within done has. elim (Contains-push_cases (take at set) name l.name (subst (λ ns. Contains ns l.name) (take-turned (names_in links) set after at name lt is on) done)) [
        | inl j ↦ kept (names_in links) set after n on (h.closed l n within j has)
        | inr same ↦ subst (λ ns. Contains ns n) (sym e) (to_links name links set l n within (sym same) has)
      ];
    }

pub HasReached-less : (links : List Link) (direct set after : List Name) (at : ℕ) (name : Name) → ((l : Link) → Contains links l → AreKnown links l.direct) → at < length set
    → after ≡ fold (with_link name) set links → left_count (names_in links) after + length after - (at + 1) < left_count (names_in links) set + length set - at
HasReached-less links direct set after at name known lt e =
    let on : GoesOn (names_in links) set after = subst (λ ns. GoesOn (names_in links) set ns) (sym e) (on_links (names_in links) name links set (all_known links known)) in
    let fits = on.fits in omega arith

all_reached : (links : List Link) (direct set : List Name) → ((n : Name) → Contains direct n → Contains set n) → ((l : Link) (n : Name) → Contains links l → Contains set l.name → Contains l.direct n → Contains set n)
    → {n : Name} → DependsOn links direct n → Contains set n
all_reached links direct set start closed (directly n h) = start n h
all_reached links direct set start closed (by_another l n held d h) = closed l n held (all_reached links direct set start closed d) h

pub HasReached-end : (links : List Link) (direct set : List Name) (at : ℕ) → length set ≤ at → HasReached links direct set at → IsComplete links direct set
HasReached-end links direct set at ended h =
    let whole : take at set ≡ set = take_all at set (omega arith) in
    record {
      depends = h.depends;
      all = λ m d. all_reached links direct set h.start (λ l n held has k. h.closed l n held (subst (λ ns. Contains ns l.name) (sym whole) has) k) d;
    }

pub IsReach-made : (links : List Link) (direct set names : List Name) → IsComplete links direct set → names ≡ sorted_names set → IsReach links direct names
IsReach-made links direct set names h e = record {
  ascending = rw e (IsAscending-sorted_names set);
  depends = λ n k. h.depends n (Contains-from_sorted set n (subst (λ ns. Contains ns n) e k));
  all = λ n d. subst (λ ns. Contains ns n) (sym e) (Contains-to_sorted set n (h.all n d));
}

pub IsDirect-direct_of : (ns : List Name) → IsDirect ns (direct_of ns)
IsDirect-direct_of ns =
    let p : Name → Bool = λ n. not (is_built_in n.number) in
    record {
      ascending = IsAscending-sorted_names (filter p ns);
      named = λ n h. let r = filter_in p ns n (Contains-from_sorted (filter p ns) n h) in (r.0, not_true (is_built_in n.number) r.1);
      all = λ n h e. Contains-to_sorted (filter p ns) n (in_filter p ns n h (ap not e));
    }
