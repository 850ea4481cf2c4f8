-- There is one gathering.
use Rattle.std.proofs.Common.{◌≡◌, ℕ, ◌<◌, ◌≤◌, List, [], ◌∷◌, Option, Some, None, Result, Ok, Err, length, refl, sym, ap, subst, ◌∙◌, arith, inl, inr}
use Rattle.std.proofs.lemmas.Bool.{cases_lt}
use Rattle.mz_base.specs.declared.name.Name.{Name}
use Rattle.mz_io.specs.declared.file.File.{File}
use Rattle.mz_io.specs.declared.file_kind.FileKind.TheVariants.{Article}
use Rattle.mz_io.specs.File.{lookup}
use Rattle.mz_corpus.specs.declared.gather_fault.GatherFault.{GatherFault}
use Rattle.mz_corpus.specs.Gather.{Gathered, GatherResult, TakesText, TakesArticle, with_directives, bytes_after, next_name, Goes, whole, passed, goes_on, Gathers, queued, count_limit}
use Rattle.mz_corpus.proofs.OneHeadLemmas.{one_directives}

takes_once : (files : List File) (g : Gathered) (n : Name) (text : Option (List ℕ)) (b : Result ℕ GatherFault) (r q : GatherResult) → TakesText files g n text b r → TakesText files g n text b q → r ≡ q
takes_once files g n text (Ok bytes) r q h k =
    let same = one_directives text h.0 k.0 h.1 k.1 in
    h.2 ∙ ap (with_directives files (record g { bytes = bytes }) n text) same ∙ sym k.2
takes_once files g n text (Err fault) r q h k = h ∙ sym k

article_once : (files : List File) (g : Gathered) (n m : Name) (r q : GatherResult) → n ≡ m → TakesArticle files g n r → TakesArticle files g m q → r ≡ q
article_once files g n m r q e h k =
    takes_once files g n (lookup files Article n) (bytes_after n g.bytes (lookup files Article n)) r q h (subst (λ x. TakesArticle files g x q) (sym e) k)

-- one step

data Went (files : List File) (g : Gathered) (r : GatherResult) : Type 0 where
  ended : next_name g ≡ None → r ≡ Ok g → Went files g r
  stopped : (n : Name) (fault : GatherFault) → next_name g ≡ Some n → TakesArticle files g n (Err fault) → r ≡ Err fault → Went files g r
  went : (n : Name) (h : Gathered) → next_name g ≡ Some n → TakesArticle files g n (Ok h) → Goes files h r → Went files g r

went_of : {files : List File} {g : Gathered} {r : GatherResult} → Goes files g r → Went files g r
went_of (whole g none) = ended none refl
went_of (passed g n fault next takes) = stopped n fault next takes refl
went_of (goes_on g h n r next takes more) = went n h next takes more

same_some : (n m : Name) (o : Option Name) → o ≡ Some n → o ≡ Some m → n ≡ m
same_some n m o h k = cc

no_next : {X : Type 0} (n : Name) (o : Option Name) → o ≡ None → o ≡ Some n → X
no_next n o h k = cc

same_ok : (g h : Gathered) (r : GatherResult) → r ≡ Ok g → r ≡ Ok h → g ≡ h
same_ok g h r e k = cc

mixed : {X : Type 0} (g : Gathered) (fault : GatherFault) (r : GatherResult) → r ≡ Ok g → r ≡ Err fault → X
mixed g fault r e k = cc

once : {files : List File} {g : Gathered} {r : GatherResult} → Goes files g r → (q : GatherResult) → Goes files g q → r ≡ q
once (whole g none) q k =
    elim (went_of k) [
      | ended e is ↦ sym is
      | stopped m fault next takes is ↦ no_next m (next_name g) none next
      | went m h next takes more ↦ no_next m (next_name g) none next
    ]
once {files = files} (passed g n fault next takes) q k =
    elim (went_of k) [
      | ended e is ↦ no_next n (next_name g) e next
      | stopped m other at stops is ↦ article_once files g n m (Err fault) (Err other) (same_some n m (next_name g) next at) takes stops ∙ sym is
      | went m h at goes more ↦ mixed h fault (Ok h) refl (sym (article_once files g n m (Err fault) (Ok h) (same_some n m (next_name g) next at) takes goes))
    ]
once {files = files} (goes_on g h n r next takes more) q k =
    elim (went_of k) [
      | ended e is ↦ no_next n (next_name g) e next
      | stopped m fault at stops is ↦ mixed h fault (Ok h) refl (article_once files g n m (Ok h) (Err fault) (same_some n m (next_name g) next at) takes stops)
      | went m other at goes later ↦
          once more q (subst (λ x. Goes files x q) (same_ok other h (Ok h) (article_once files g n m (Ok h) (Ok other) (same_some n m (next_name g) next at) takes goes) refl) later)
    ]

pub one_gathering : (files : List File) (names : List Name) (r q : GatherResult) → Gathers files names r → Gathers files names q → r ≡ q
one_gathering files names r q h k =
    elim (cases_lt count_limit (length (queued [] names))) [
      | inl lt ↦ h.many lt ∙ sym (k.many lt)
      | inr le ↦ once (h.few le) q (k.few le)
    ]
