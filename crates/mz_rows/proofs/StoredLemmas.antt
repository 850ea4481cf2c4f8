-- What the changes of a table need.
use Rattle.std.proofs.Common.{◌≡◌, ◌<◌, ◌≤◌, ℕ, zero, suc, List, [], ◌∷◌, map, length, refl, ap, sym, ◌∙◌, subst, arith, Bool, true, false, length-set}
use Rattle.std.specs.Prelude.{Option, Some, None, slice_get, slice_set}
use Rattle.std.proofs.lemmas.Option.{slice_get_within}
use Rattle.std.proofs.lemmas.List.{length-map}
use Rattle.mz_base.specs.declared.name.Name.{Name}
use Rattle.mz_core.specs.declared.outcome.Export.{Export}
use Rattle.mz_core.specs.declared.verdict.Entry.{Entry}
use Rattle.mz_axioms.specs.BuiltIn.{built_in_exports}
use Rattle.mz_axioms.specs.Library.{added}
use Rattle.mz_corpus.specs.Article.{Article, is_cyclic}
use Rattle.mz_turns.specs.Row as row
use Rattle.mz_turns.specs.Row.{Row, is_settled, is_accepted, row_at}
use Rattle.mz_turns.specs.Dependencies.{start_of, start_row, direct_rows}
use Rattle.mz_turns.specs.Library.{library_of, IsFreshIn}
use Rattle.mz_turns.proofs.RowLemmas.{unsettled_unaccepted}
use Rattle.mz_turns.proofs.LibraryLemmas.{library_same, library_put, library_freed, library_start, library_room}
use Rattle.mz_rows.specs.declared.standing.Standing.{Standing}
use Rattle.mz_rows.specs.declared.standing.Standing.TheVariants.{Claimed}
use Rattle.mz_rows.specs.Standing.{row_from, rows_from, start_from, standing_freed}
use Rattle.mz_rows.specs.Entries.{entry_of, entries_of, start_entry}
use Rattle.mz_rows.specs.Stored.{IsStored}
use Rattle.mz_rows.proofs.StandingLemmas.{length-rows_from, rows_from-set, rows_from-set_both, rows_from-freed, entries_of-set, entries_of-same, entries_of-freed, length-entries_of}

pub stored_length : (c : List Article) (links : List (List ℕ)) (ss : List Standing) (es : List Entry) (library : List Export) → IsStored c links ss es library → length (rows_from ss es) ≡ length c
stored_length c links ss es library k = length-rows_from ss es ∙ k.whole

pub length-stored_entries : (c : List Article) (links : List (List ℕ)) (ss : List Standing) (es : List Entry) (library : List Export) → IsStored c links ss es library → length es ≡ length c
length-stored_entries c links ss es library k = ap length k.entries ∙ length-entries_of c (rows_from ss es) (stored_length c links ss es library k)

-- an article at each row
pub some_article : (c : List Article) (r : ℕ) → r < length c → (a : Article) × (slice_get c r ≡ Some a)
some_article [] r h = absurd (omega arith)
some_article (a ∷ c) zero h = (a, refl)
some_article (a ∷ c) (suc r) h = some_article c r (omega (arith, h))

-- a row is put, with its entry
pub rows_put : (ss : List Standing) (es : List Entry) (r : ℕ) (s : Standing) (e : Entry) (x : Row) → r < length es → row_from s e.faults ≡ x → rows_from (slice_set ss r s) (slice_set es r e) ≡ slice_set (rows_from ss es) r x
rows_put ss es r s e x h same = rows_from-set_both ss es r s e h ∙ ap (slice_set (rows_from ss es) r) same

put_at : (c : List Article) (links : List (List ℕ)) (ss : List Standing) (es : List Entry) (library after : List Export) (r : ℕ) (a : Article) (s : Standing) (e : Entry) (x : Row) → IsStored c links ss es library → slice_get c r ≡ Some a → row_from s e.faults ≡ x → e ≡ entry_of a.name x → after ≡ library_of (slice_set (rows_from ss es) r x) → IsStored c links (slice_set ss r s) (slice_set es r e) after × (rows_from (slice_set ss r s) (slice_set es r e) ≡ slice_set (rows_from ss es) r x)
put_at c links ss es library after r a s e x k at same told has =
    let w : r < length es = subst (λ n. r < n) (sym (length-stored_entries c links ss es library k)) (slice_get_within c r a at) in
    let put = rows_put ss es r s e x w same in (
      record {
        linked = k.linked;
        whole = length-set ss r s ∙ k.whole;
        entries = (λ i. slice_set (k.entries i) r (told i)) ∙ (sym (entries_of-set c (rows_from ss es) r a x at) ∙ ap (entries_of c) (sym put));
        accepted = has ∙ ap library_of (sym put);
      },
      put,
    )

abbrev pub IsPut : List Article → List (List ℕ) → List Row → ℕ → Row → List Standing → List Entry → List Export → Type 0
IsPut c links rows r x ss es library = IsStored c links ss es library × (rows_from ss es ≡ slice_set rows r x)

pub stored_put : (c : List Article) (links : List (List ℕ)) (ss ss2 : List Standing) (es es2 : List Entry) (library after : List Export) (r : ℕ) (a : Article) (s : Standing) (e : Entry) (x : Row) → IsStored c links ss es library → slice_get c r ≡ Some a → row_from s e.faults ≡ x → e ≡ entry_of a.name x → ss2 ≡ slice_set ss r s → es2 ≡ slice_set es r e → after ≡ library_of (slice_set (rows_from ss es) r x) → IsPut c links (rows_from ss es) r x ss2 es2 after
stored_put c links ss ss2 es es2 library after r a s e x k at same told first second has =
    subst (λ xs. IsPut c links (rows_from ss es) r x xs es2 after) (sym first)
    (subst (λ xs. IsPut c links (rows_from ss es) r x (slice_set ss r s) xs after) (sym second) (put_at c links ss es library after r a s e x k at same told has))

-- a row is claimed
pub rows_claim : (ss : List Standing) (es : List Entry) (r w : ℕ) → rows_from (slice_set ss r (Claimed w)) es ≡ slice_set (rows_from ss es) r (row.Claimed w)
rows_claim ss es r w = rows_from-set ss es r (Claimed w)

claim_at : (c : List Article) (links : List (List ℕ)) (ss : List Standing) (es : List Entry) (library : List Export) (r w : ℕ) → IsStored c links ss es library → row_at (rows_from ss es) r ≡ row.Waiting → IsPut c links (rows_from ss es) r (row.Claimed w) (slice_set ss r (Claimed w)) es library
claim_at c links ss es library r w k waits =
    let put = rows_claim ss es r w in (
      record {
        linked = k.linked;
        whole = length-set ss r (Claimed w) ∙ k.whole;
        entries = k.entries ∙ (sym (entries_of-same c (rows_from ss es) r (row.Claimed w) (λ n. ap (entry_of n) (sym waits))) ∙ ap (entries_of c) (sym put));
        accepted = k.accepted ∙ (sym (library_same (rows_from ss es) r (row.Claimed w) (ap is_accepted waits) refl) ∙ ap library_of (sym put));
      },
      put,
    )

pub stored_claim : (c : List Article) (links : List (List ℕ)) (ss ss2 : List Standing) (es : List Entry) (library : List Export) (r w : ℕ) → IsStored c links ss es library → row_at (rows_from ss es) r ≡ row.Waiting → ss2 ≡ slice_set ss r (Claimed w) → IsPut c links (rows_from ss es) r (row.Claimed w) ss2 es library
stored_claim c links ss ss2 es library r w k waits e =
    subst (λ xs. IsPut c links (rows_from ss es) r (row.Claimed w) xs es library) (sym e) (claim_at c links ss es library r w k waits)

-- claims are taken away
pub stored_freed : (c : List Article) (links : List (List ℕ)) (ss after : List Standing) (es : List Entry) (library : List Export) → IsStored c links ss es library → after ≡ map standing_freed ss → IsStored c links after es library
stored_freed c links ss after es library k e =
    subst (λ x. IsStored c links x es library) (sym e) (record {
      linked = k.linked;
      whole = length-map ss standing_freed ∙ k.whole;
      entries = k.entries ∙ (sym (entries_of-freed c (rows_from ss es)) ∙ ap (entries_of c) (sym (rows_from-freed ss es)));
      accepted = k.accepted ∙ (sym (library_freed (rows_from ss es)) ∙ ap library_of (sym (rows_from-freed ss es)));
    })

-- the library after a row that isn't accepted, and after one that is
pub library_kept : (c : List Article) (links : List (List ℕ)) (ss : List Standing) (es : List Entry) (library : List Export) (r : ℕ) (x : Row) → IsStored c links ss es library → is_settled (row_at (rows_from ss es) r) ≡ false → is_accepted x ≡ false → library ≡ library_of (slice_set (rows_from ss es) r x)
library_kept c links ss es library r x k waits unaccepted =
    k.accepted ∙ sym (library_same (rows_from ss es) r x (unsettled_unaccepted (row_at (rows_from ss es) r) waits) unaccepted)

pub library_added : (c : List Article) (links : List (List ℕ)) (ss : List Standing) (es : List Entry) (library : List Export) (r : ℕ) (e : Export) → IsStored c links ss es library → r < length c → is_settled (row_at (rows_from ss es) r) ≡ false → IsFreshIn (rows_from ss es) e → added e library ≡ library_of (slice_set (rows_from ss es) r (row.Accepted e))
library_added c links ss es library r e k within waits fresh =
    let w : r < length (rows_from ss es) = subst (λ n. r < n) (sym (stored_length c links ss es library k)) within in
    ap (added e) k.accepted ∙ sym (library_put (rows_from ss es) r e w (unsettled_unaccepted (row_at (rows_from ss es) r) waits) fresh)

-- there is room for one more
pub room : (c : List Article) (links : List (List ℕ)) (ss : List Standing) (es : List Entry) (library : List Export) (r : ℕ) → IsStored c links ss es library → length c ≤ 512 → r < length c → is_settled (row_at (rows_from ss es) r) ≡ false → length library < 515
room c links ss es library r k few within waits =
    let w : r < length (rows_from ss es) = subst (λ n. r < n) (sym (stored_length c links ss es library k)) within in
    let less = library_room (rows_from ss es) r w (unsettled_unaccepted (row_at (rows_from ss es) r) waits) in
    omega (arith, less, ap length k.accepted, stored_length c links ss es library k, few)

-- at the start
start_faults : (o : Option (List ℕ)) (b : Bool) (n : Name) → (entry_of n (start_of o b)).faults ≡ []
start_faults None b n = refl
start_faults (Some t) true n = refl
start_faults (Some t) false n = refl

entries_started : (c : List Article) → entries_of c (map start_row c) ≡ map start_entry c
entries_started [] = refl
entries_started (a ∷ c) = ap (λ xs. start_entry a ∷ xs) (entries_started c)

head_of : (x y : Row) (xs ys : List Row) → x ∷ xs ≡ y ∷ ys → x ≡ y
head_of x y xs ys h = cc

tail_of : (x y : Row) (xs ys : List Row) → x ∷ xs ≡ y ∷ ys → xs ≡ ys
tail_of x y xs ys h = cc

not_nil : (x : Row) (xs : List Row) → [] ≡ x ∷ xs → ⊥
not_nil x xs h = cc

started_at : (c : List Article) (ss : List Standing) → map start_from ss ≡ map start_row c → rows_from ss (map start_entry c) ≡ map start_row c
started_at [] [] h = refl
started_at [] (s ∷ ss) h = absurd (not_nil (start_from s) (map start_from ss) (sym h))
started_at (a ∷ c) [] h = absurd (not_nil (start_row a) (map start_row c) h)
started_at (a ∷ c) (s ∷ ss) h =
    let first : start_from s ≡ start_row a = head_of (start_from s) (start_row a) (map start_from ss) (map start_row c) h in
    let rest = started_at c ss (tail_of (start_from s) (start_row a) (map start_from ss) (map start_row c) h) in
    λ i. (ap (row_from s) (start_faults a.text (is_cyclic a) a.name) ∙ first) i ∷ rest i

pub rows_started : (c : List Article) (ss : List Standing) (es : List Entry) → map start_from ss ≡ map start_row c → es ≡ map start_entry c → rows_from ss es ≡ map start_row c
rows_started c ss es h e = ap (rows_from ss) e ∙ started_at c ss h

pub stored_start : (c : List Article) (links : List (List ℕ)) (ss : List Standing) (es : List Entry) (library : List Export) → links ≡ map (direct_rows c) c → map start_from ss ≡ map start_row c → es ≡ map start_entry c → library ≡ built_in_exports → IsStored c links ss es library
stored_start c links ss es library l h e b =
    let rows = rows_started c ss es h e in
    record {
      linked = l;
      whole = sym (length-map ss start_from) ∙ (ap length h ∙ length-map c start_row);
      entries = e ∙ (sym (entries_started c) ∙ ap (entries_of c) (sym rows));
      accepted = b ∙ (sym (library_start c) ∙ ap library_of (sym rows));
    }
