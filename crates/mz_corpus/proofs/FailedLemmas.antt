-- Where the fetch of a gathering fails.
use Rattle.std.proofs.Common.{◌≡◌, ℕ, suc, ◌+◌, ◌<◌, ◌≤◌, Bool, true, false, List, [], ◌∷◌, ◌++◌, length, get_or, take, drop, Option, Some, None, Result, Ok, Err, refl, sym, ap, subst, ◌∙◌, arith, min, inl, inr, ◌⊎◌}
use Rattle.std.proofs.lemmas.Bool.{cases_lt}
use Rattle.std.proofs.lemmas.Bool.Decides.{nat_tests}
use Rattle.std.proofs.lemmas.List.{take-append-drop}
use Rattle.std.proofs.Math.Seq.{drop-cons}
use Rattle.mz_base.specs.declared.name.Name.{Name}
use Rattle.mz_base.specs.declared.head.Directive.{Directive}
use Rattle.mz_io.specs.Count.{last_count, counted}
use Rattle.mz_io.specs.File.{lookup}
use Rattle.mz_io.specs.declared.file.File.{File}
use Rattle.mz_io.specs.declared.file_kind.FileKind.TheVariants.{Article}
use Rattle.mz_corpus.specs.Directives.{vocabulary_names_of}
use Rattle.mz_corpus.specs.Gather.{Gathered, HasDirectives, bytes_after, next_name, is_fetched, with_vocabularies, queued, begun}
use Rattle.mz_corpus.specs.Failed.{Gave, ComesToOne, ComesTo, text, vocabulary, FailsEarly}

-- amounts

counted_none : (old : ℕ) → old ≤ last_count → old ≡ counted old 0
counted_none old fit = grind (arith, nat_tests)

counted_on : (old a b : ℕ) → counted (counted old a) b ≡ counted old (a + b)
counted_on old a b = grind (arith, nat_tests)

pub Gave-none : (old new bytes : ℕ) → old ≤ last_count → new ≡ old → Gave old new bytes bytes
Gave-none old new bytes fit e = record { more = 0; added = omega arith; rises = e ∙ counted_none old fit }

pub Gave-text : (old new bytes sum n : ℕ) → sum ≡ bytes + n → new ≡ counted old n → Gave old new bytes sum
Gave-text old new bytes sum n e h = record { more = n; added = e; rises = h }

pub Gave-on : (old mid new a b c : ℕ) → Gave old mid a b → Gave mid new b c → Gave old new a c
Gave-on old mid new a b c h k = record {
  more = h.more + k.more;
  added = (let x = h.added in let y = k.added in omega arith);
  rises = k.rises ∙ ap (λ m. counted m k.more) h.rises ∙ counted_on old h.more k.more;
}

-- vocabularies in turn

split_item : (items : List Name) (i : ℕ) (n : Name) → i < length items → n ≡ get_or items i n → items ≡ take i items ++ n ∷ drop (suc i) items
split_item items i n lt at = sym (take-append-drop i items) ∙ ap (λ z. take i items ++ z) (drop-cons items i n lt ∙ ap (λ z. z ∷ drop (suc i) items) (sym at))

pub ComesToOne-item : (files : List File) (items : List Name) (i : ℕ) (n : Name) (g h : Gathered) → i < length items → n ≡ get_or items i n → with_vocabularies files g (take i items) ≡ Ok h → is_fetched h.vocabularies n ≡ false → length h.vocabularies < 512
    → ComesToOne files g items h
ComesToOne-item files items i n g h lt at fetched unfetched few = record {
  front = take i items;
  name = n;
  back = drop (suc i) items;
  divided = split_item items i n lt at;
  fetched = fetched;
  unfetched = unfetched;
  few = few;
}

pub one_fails : (files : List File) (names items : List Name) (i : ℕ) (n : Name) (g h : Gathered) (old mid new : ℕ) → items ≡ names → i < length items → n ≡ get_or items i n → with_vocabularies files g (take i items) ≡ Ok h → Gave old mid g.bytes h.bytes
    → (new ≡ mid) × (is_fetched h.vocabularies n ≡ false) × (length h.vocabularies < 512) → (x : Gathered) × ComesToOne files g names x × Gave old new g.bytes x.bytes
one_fails files names items i n g h old mid new e lt at fetched gave p =
    (h, subst (λ ns. ComesToOne files g ns h) e (ComesToOne-item files items i n g h lt at fetched p.1 p.2), subst (λ m. Gave old m g.bytes h.bytes) (sym p.0) gave)

-- an article

pub text_fails : (files : List File) (g : Gathered) (n : Name) (old new : ℕ) → old ≤ last_count → next_name g ≡ Some n → new ≡ old → (x : Gathered) × ComesTo files g x × Gave old new g.bytes x.bytes
text_fails files g n old new fit next e = (g, text g n next, Gave-none old new g.bytes fit e)

pub ComesTo-vocabulary : (files : List File) (g h : Gathered) (n : Name) (content : Option (List ℕ)) (b : ℕ) (ds : List Directive) (names : List Name) → next_name g ≡ Some n → content ≡ lookup files Article n → bytes_after n g.bytes (lookup files Article n) ≡ Ok b
    → HasDirectives content ds → names ≡ vocabulary_names_of ds → ComesToOne files (record g { bytes = b }) names h → ComesTo files g h
ComesTo-vocabulary files g h n content b ds names next is_text e has en comes = vocabulary g h n b ds next e (subst (λ t. HasDirectives t ds) is_text has) (subst (λ ns. ComesToOne files (record g { bytes = b }) ns h) en comes)

pub vocabulary_fails : (files : List File) (g : Gathered) (n : Name) (content : Option (List ℕ)) (b : ℕ) (ds : List Directive) (names : List Name) (old mid new : ℕ) → next_name g ≡ Some n → content ≡ lookup files Article n → bytes_after n g.bytes (lookup files Article n) ≡ Ok b
    → HasDirectives content ds → names ≡ vocabulary_names_of ds → Gave old mid g.bytes b → (x : Gathered) × ComesToOne files (record g { bytes = b }) names x × Gave mid new b x.bytes → (x : Gathered) × ComesTo files g x × Gave old new g.bytes x.bytes
vocabulary_fails files g n content b ds names old mid new next is_text e has en gave r =
    (r.0, ComesTo-vocabulary files g r.0 n content b ds names next is_text e has en r.1, Gave-on old mid new g.bytes b r.0.bytes gave r.2)

-- all of it

all : (m b : ℕ) → b ≡ 0 + m → m ≡ b
all m b e = omega (arith, e)

pub fails_early : (files : List File) (names : List Name) (g : Gathered) (old new : ℕ) → (g ≡ begun names) × (length (queued [] names) ≤ 512) → (h : Gathered) → ComesTo files g h → Gave old new 0 h.bytes → FailsEarly files names old new
fails_early files names g old new begins h comes gave = record {
  few = begins.1;
  at = h;
  comes = subst (λ x. ComesTo files x h) begins.0 comes;
  amount = gave.rises ∙ ap (counted old) (all gave.more h.bytes gave.added);
}
