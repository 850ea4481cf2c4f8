-- Gathering, step by step.
use Rattle.std.proofs.Common.{◌≡◌, ℕ, suc, leb, ◌+◌, ◌-◌, ◌<◌, ◌≤◌, Bool, true, false, cond, List, [], ◌∷◌, ◌++◌, length, get_or, take, drop, Option, Some, None, Result, Ok, Err, refl, sym, ap, subst, ◌∙◌, arith}
use Rattle.std.proofs.lemmas.List.{take_more, take-append-drop}
use Rattle.std.proofs.Math.Seq.{drop-cons}
use Rattle.std.proofs.lemmas.Option.{slice_get_within}
use Rattle.mz_base.specs.declared.name.Name.{Name}
use Rattle.mz_base.specs.declared.head.Directive.{Directive}
use Rattle.mz_io.specs.declared.file.File.{File}
use Rattle.mz_io.specs.declared.file_kind.FileKind.TheVariants.{Article, Vocabulary}
use Rattle.mz_io.specs.File.{lookup}
use Rattle.mz_corpus.specs.declared.gather_fault.GatherFault.{GatherFault}
use Rattle.mz_corpus.specs.declared.gather_fault.GatherFault.TheVariants.{Read, TooMuchText, TooManyArticles, TooLong, TooManyVocabularies, Memory}
use Rattle.mz_corpus.specs.Directives.{dependencies_of, vocabulary_names_of}
use Rattle.mz_corpus.specs.Source.{Source}
use Rattle.mz_corpus.specs.Gather.{Gathered, GatherResult, unless_passed, bytes_after, is_fetched, with_vocabulary_text, with_vocabulary, with_vocabularies, with_source, with_directives, HasDirectives, TakesText, TakesArticle, next_name, Goes, whole, passed, goes_on, Gathers, Tells, OnRead, OnAnswer, IsBegun, IsFetched, begun, queued}

-- an answer that is told by one claim is told by a weaker one

pub Tells-weaker : (P Q : GatherResult → Type 0) → ((r : GatherResult) → P r → Q r) → (result : Result (Unit {0}) GatherFault) (g : Gathered) → Tells P result g → Tells Q result g
Tells-weaker P Q w (Ok u) g h = w (Ok g) h
Tells-weaker P Q w (Err Read) g h = tt
Tells-weaker P Q w (Err Memory) g h = tt
Tells-weaker P Q w (Err (TooMuchText bytes)) g h = w (Err (TooMuchText bytes)) h
Tells-weaker P Q w (Err TooManyArticles) g h = w (Err TooManyArticles) h
Tells-weaker P Q w (Err (TooLong name)) g h = w (Err (TooLong name)) h
Tells-weaker P Q w (Err TooManyVocabularies) g h = w (Err TooManyVocabularies) h

pub Tells-passed : (P Q : GatherResult → Type 0) → ((f : GatherFault) → P (Err f) → Q (Err f)) → (f : GatherFault) (g h : Gathered) → Tells P (Err f) g → Tells Q (Err f) h
Tells-passed P Q w Read g h t = tt
Tells-passed P Q w Memory g h t = tt
Tells-passed P Q w (TooMuchText bytes) g h t = w (TooMuchText bytes) t
Tells-passed P Q w TooManyArticles g h t = w TooManyArticles t
Tells-passed P Q w (TooLong name) g h t = w (TooLong name) t
Tells-passed P Q w TooManyVocabularies g h t = w TooManyVocabularies t

-- vocabularies in turn

unless_passed-through : (files : List File) (ns ms : List Name) → ((h : Gathered) → with_vocabularies files h (ns ++ ms) ≡ unless_passed (with_vocabularies files h ns) (λ k. with_vocabularies files k ms))
    → (r : GatherResult) → unless_passed r (λ h. with_vocabularies files h (ns ++ ms)) ≡ unless_passed (unless_passed r (λ h. with_vocabularies files h ns)) (λ k. with_vocabularies files k ms)
unless_passed-through files ns ms ih (Ok h) = ih h
unless_passed-through files ns ms ih (Err f) = refl

with_vocabularies-append : (files : List File) (ns ms : List Name) (g : Gathered) → with_vocabularies files g (ns ++ ms) ≡ unless_passed (with_vocabularies files g ns) (λ h. with_vocabularies files h ms)
with_vocabularies-append files [] ms g = refl
with_vocabularies-append files (n ∷ ns) ms g = unless_passed-through files ns ms (with_vocabularies-append files ns ms) (with_vocabulary files g n)

unless_passed-alone : (r : GatherResult) → unless_passed r (λ h. Ok h) ≡ r
unless_passed-alone (Ok h) = refl
unless_passed-alone (Err f) = refl

pub vocabularies_turn : (files : List File) (items : List Name) (i : ℕ) (n : Name) (g h k : Gathered) → i < length items → n ≡ get_or items i n
    → with_vocabularies files g (take i items) ≡ Ok h → Ok k ≡ with_vocabulary files h n → with_vocabularies files g (take (i + 1) items) ≡ Ok k
vocabularies_turn files items i n g h k lt at so_far next =
    let more : take (i + 1) items ≡ take i items ++ n ∷ [] = take_more items i n lt ∙ ap (λ m. take i items ++ m ∷ []) (sym at) in
    ap (with_vocabularies files g) more
    ∙ with_vocabularies-append files (take i items) (n ∷ []) g
    ∙ ap (λ r. unless_passed r (λ h. with_vocabularies files h (n ∷ []))) so_far
    ∙ unless_passed-alone (with_vocabulary files h n)
    ∙ sym next

pub vocabularies_passed : (files : List File) (items : List Name) (i : ℕ) (n : Name) (g h : Gathered) (f : GatherFault) → i < length items → n ≡ get_or items i n
    → with_vocabularies files g (take i items) ≡ Ok h → Err f ≡ with_vocabulary files h n → Err f ≡ with_vocabularies files g items
vocabularies_passed files items i n g h f lt at so_far next =
    let split : items ≡ take i items ++ n ∷ drop (suc i) items = sym (take-append-drop i items) ∙ ap (λ z. take i items ++ z) (drop-cons items i n lt ∙ ap (λ z. z ∷ drop (suc i) items) (sym at)) in
    sym
    (ap (with_vocabularies files g) split
    ∙ with_vocabularies-append files (take i items) (n ∷ drop (suc i) items) g
    ∙ ap (λ r. unless_passed r (λ h. with_vocabularies files h (n ∷ drop (suc i) items))) so_far
    ∙ ap (λ r. unless_passed r (λ h. with_vocabularies files h (drop (suc i) items))) (sym next))

-- an article

pub takes_passed : (files : List File) (g : Gathered) (n : Name) (f : GatherFault) → bytes_after n g.bytes (lookup files Article n) ≡ Err f → TakesArticle files g n (Err f)
takes_passed files g n f e = subst (λ b. TakesText files g n (lookup files Article n) b (Err f)) (sym e) refl

fetch_by : (files : List File) (g : Gathered) (n : Name) (f : GatherFault) (h : Gathered) → IsFetched (lookup files Article n) n g.bytes (Err f) → Tells (TakesArticle files g n) (Err f) h
fetch_by files g n Read h t = tt
fetch_by files g n Memory h t = tt
fetch_by files g n (TooMuchText bytes) h t = takes_passed files g n (TooMuchText bytes) t
fetch_by files g n TooManyArticles h t = absurd t
fetch_by files g n (TooLong name) h t = takes_passed files g n (TooLong name) t
fetch_by files g n TooManyVocabularies h t = absurd t

pub fetch_passed : (files : List File) (g : Gathered) (n : Name) (f : GatherFault) (h : Gathered) → IsFetched (lookup files Article n) n g.bytes (Err f) → Tells (TakesArticle files g n) (Err f) h
fetch_passed files g n f h t = fetch_by files g n f h t

pub takes_read : (files : List File) (g : Gathered) (n : Name) (text : Option (List ℕ)) (b : ℕ) (ds : List Directive) (r : GatherResult)
    → text ≡ lookup files Article n → bytes_after n g.bytes (lookup files Article n) ≡ Ok b → HasDirectives text ds → r ≡ with_directives files (record g { bytes = b }) n text ds → TakesArticle files g n r
takes_read files g n text b ds r is_text e has is =
    subst (λ x. TakesText files g n (lookup files Article n) x r) (sym e)
    (ds, subst (λ t. HasDirectives t ds) is_text has, subst (λ t. r ≡ with_directives files (record g { bytes = b }) n t ds) is_text is)

-- a vocabulary

vocabulary_unfetched : (files : List File) (g : Gathered) (n : Name) → is_fetched g.vocabularies n ≡ false → with_vocabulary files g n ≡ cond (leb 512 (length g.vocabularies)) (Err TooManyVocabularies) (with_vocabulary_text g n (lookup files Vocabulary n) (bytes_after n g.bytes (lookup files Vocabulary n)))
vocabulary_unfetched files g n e =
    ap (λ b. cond b (Ok g) (cond (leb 512 (length g.vocabularies)) (Err TooManyVocabularies) (with_vocabulary_text g n (lookup files Vocabulary n) (bytes_after n g.bytes (lookup files Vocabulary n))))) e

-- an article whose text was fetched

pub takes_vocabularies : (files : List File) (g : Gathered) (n : Name) (text : Option (List ℕ)) (b : ℕ) (ds : List Directive) (names : List Name) (f : GatherFault)
    → text ≡ lookup files Article n → bytes_after n g.bytes (lookup files Article n) ≡ Ok b → HasDirectives text ds → names ≡ vocabulary_names_of ds
    → Err f ≡ with_vocabularies files (record g { bytes = b }) names → TakesArticle files g n (Err f)
takes_vocabularies files g n text b ds names f is_text e has en is =
    let s : Source = record { name = n; text = text; dependencies = dependencies_of ds; vocabulary_names = vocabulary_names_of ds } in
    let passes : with_vocabularies files (record g { bytes = b }) (vocabulary_names_of ds) ≡ Err f = ap (with_vocabularies files (record g { bytes = b })) (sym en) ∙ sym is in
    takes_read files g n text b ds (Err f) is_text e has (ap (λ r. unless_passed r (λ h. with_source h s)) (sym passes))

pub takes_source : (files : List File) (g h : Gathered) (n : Name) (text : Option (List ℕ)) (b : ℕ) (ds : List Directive) (dependencies names : List Name) (r : GatherResult)
    → text ≡ lookup files Article n → bytes_after n g.bytes (lookup files Article n) ≡ Ok b → HasDirectives text ds → dependencies ≡ dependencies_of ds → names ≡ vocabulary_names_of ds
    → Ok h ≡ with_vocabularies files (record g { bytes = b }) names → r ≡ with_source h (record { name = n; text = text; dependencies = dependencies; vocabulary_names = names }) → TakesArticle files g n r
takes_source files g h n text b ds dependencies names r is_text e has ed en fetched is =
    let s : Source = record { name = n; text = text; dependencies = dependencies_of ds; vocabulary_names = vocabulary_names_of ds } in
    let done : with_vocabularies files (record g { bytes = b }) (vocabulary_names_of ds) ≡ Ok h = ap (with_vocabularies files (record g { bytes = b })) (sym en) ∙ sym fetched in
    takes_read files g n text b ds r is_text e has
    (is ∙ (λ i. with_source h (record { name = n; text = text; dependencies = ed i; vocabulary_names = en i })) ∙ ap (λ x. unless_passed x (λ k. with_source k s)) (sym done))

pub missing_source : (text kept : Option (List ℕ)) (ds es fs : List Directive) (dependencies names : List Name) → kept ≡ text → HasDirectives text ds → es ≡ ds → fs ≡ ds → dependencies ≡ dependencies_of es → names ≡ vocabulary_names_of fs
    → kept ≡ None → (dependencies ≡ []) × (names ≡ [])
missing_source text kept ds es fs dependencies names ek has ee ef ed en none =
    let nothing : ds ≡ [] = subst (λ t. HasDirectives t ds) (sym ek ∙ none) has in
    (ed ∙ ap dependencies_of (ee ∙ nothing), en ∙ ap vocabulary_names_of (ef ∙ nothing))

-- a fault that isn't of reading

abbrev pub IsSame : Result (Unit {0}) GatherFault → Result (Unit {0}) GatherFault → Type 0
IsSame r q = r ≡ q

pub OnRead-other : (f : GatherFault) (P : Type 0) → (IsSame (Err f) (Err Read) → ⊥) → OnRead {X = Unit {0}} (Err f) P
OnRead-other Read P other = absurd (other refl)
OnRead-other Memory P other = tt
OnRead-other (TooMuchText bytes) P other = tt
OnRead-other TooManyArticles P other = tt
OnRead-other (TooLong name) P other = tt
OnRead-other TooManyVocabularies P other = tt

-- all of it

pub gathers_from : (files : List File) (names : List Name) (g : Gathered) (r : GatherResult) → (g ≡ begun names) × (length (queued [] names) ≤ 512) → Goes files g r → Gathers files names r
gathers_from files names g r begins goes = record {
  few = λ le. subst (λ x. Goes files x r) begins.0 goes;
  many = λ lt. absurd (let le = begins.1 in (let bad : ⊥ = omega arith in bad));
}

pub answer_passed : {X : Type 0} (P Q : GatherResult → Type 0) (R : X → Type 0) (f : GatherFault) (h : Gathered) → ((e : GatherFault) → P (Err e) → Q (Err e)) → Tells P (Err f) h → OnAnswer Q R (Err f)
answer_passed P Q R Read h w t = tt
answer_passed P Q R Memory h w t = tt
answer_passed P Q R (TooMuchText bytes) h w t = w (TooMuchText bytes) t
answer_passed P Q R TooManyArticles h w t = w TooManyArticles t
answer_passed P Q R (TooLong name) h w t = w (TooLong name) t
answer_passed P Q R TooManyVocabularies h w t = w TooManyVocabularies t

pub answer_same : {X Y : Type 0} (P : GatherResult → Type 0) (Q : X → Type 0) (R : Y → Type 0) (f : GatherFault) → OnAnswer P Q (Err f) → OnAnswer P R (Err f)
answer_same P Q R Read t = tt
answer_same P Q R Memory t = tt
answer_same P Q R (TooMuchText bytes) t = t
answer_same P Q R TooManyArticles t = t
answer_same P Q R (TooLong name) t = t
answer_same P Q R TooManyVocabularies t = t

too_many : (files : List File) (names : List Name) → 512 < length (queued [] names) → Gathers files names (Err TooManyArticles)
too_many files names lt = record { few = λ le. absurd (let bad : ⊥ = omega arith in bad); many = λ h. refl }

pub begin_refused : {X : Type 0} (files : List File) (names : List Name) (R : X → Type 0) (f : GatherFault) → IsBegun names (Err f) → OnAnswer (Gathers files names) R (Err f)
begin_refused files names R Read t = absurd t
begin_refused files names R Memory t = tt
begin_refused files names R (TooMuchText bytes) t = absurd t
begin_refused files names R TooManyArticles t = too_many files names t
begin_refused files names R (TooLong name) t = absurd t
begin_refused files names R TooManyVocabularies t = absurd t

pub begin_unread : (X : Type 0) (names : List Name) (f : GatherFault) (P : Type 0) → IsBegun names (Err f) → OnRead {X = X} (Err f) P
begin_unread X names Read P t = absurd t
begin_unread X names Memory P t = tt
begin_unread X names (TooMuchText bytes) P t = tt
begin_unread X names TooManyArticles P t = tt
begin_unread X names (TooLong name) P t = tt
begin_unread X names TooManyVocabularies P t = tt

pub read_same : (X Y : Type 0) (f : GatherFault) (P Q : Type 0) → (P → Q) → OnRead {X = X} (Err f) P → OnRead {X = Y} (Err f) Q
read_same X Y Read P Q w t = w t
read_same X Y Memory P Q w t = tt
read_same X Y (TooMuchText bytes) P Q w t = tt
read_same X Y TooManyArticles P Q w t = tt
read_same X Y (TooLong name) P Q w t = tt
read_same X Y TooManyVocabularies P Q w t = tt

pub next_within : (g : Gathered) (n : Name) → next_name g ≡ Some n → length g.sources < length g.queue
next_within g n e = slice_get_within g.queue (length g.sources) n e
