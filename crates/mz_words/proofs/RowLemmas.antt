-- Rows of matches, sought by their ids.
use Rattle.std.proofs.Common.{◌≡◌, Bool, true, false, cond, List, [], ◌∷◌, ◌++◌, Option, Some, None, is_some, find, refl, ap, ◌∙◌}
use Rattle.std.specs.Str.{bytes_eq}
use Rattle.clap.specs.Walk.{Row, Text, has_row, stronger, with_values, without}
use Rattle.clap.specs.declared.parser.matches.ValueSource.{ValueSource}
use Rattle.clap.specs.declared.parser.matches.ValueSource.TheVariants.{CommandLine}
use Rattle.clap.specs.declared.builder.value_parser.Reading.{Reading}
use Rattle.clap.specs.declared.builder.value_parser.Reading.TheVariants.{AsWritten}
use Rattle.mz_words.proofs.ByteLemmas.{equal_texts, same_text}

-- the first row of an id
abbrev pub found : Text → List Row → Option Row
found id rows = find (λ r. bytes_eq r.id id) rows

abbrev pub new_row : Text → Reading → ValueSource → List Text → Row
new_row id how s values = record { id = id; values = values; count = None; source = Some s; reading = how }

pub found-other : (id other : Text) (how : Reading) (s : ValueSource) (vs : List Text) (rows : List Row) → bytes_eq other id ≡ false
    → found id (with_values other how s vs rows) ≡ found id rows
found-other id other how s vs [] differs = rw differs
found-other id other how s vs (r ∷ rs) differs = go (bytes_eq r.id other) refl (found-other id other how s vs rs differs)
  where
    go : (t : Bool) → bytes_eq r.id other ≡ t → found id (with_values other how s vs rs) ≡ found id rs → found id (with_values other how s vs (r ∷ rs)) ≡ found id (r ∷ rs)
    go true t ih = let here : bytes_eq r.id id ≡ false = ap (λ (x : Text). bytes_eq x id) (equal_texts r.id other t) ∙ differs in rw (t, here)
    go false t ih = rw t (ap (λ (o : Option Row). cond (bytes_eq r.id id) (Some r) o) ih)

pub found-new : (id : Text) (how : Reading) (s : ValueSource) (vs : List Text) (rows : List Row) → found id rows ≡ None
    → found id (with_values id how s vs rows) ≡ Some (new_row id how s vs)
found-new id how s vs [] none = rw (same_text id)
found-new id how s vs (r ∷ rs) none = go (bytes_eq r.id id) refl (found-new id how s vs rs)
  where
    go : (t : Bool) → bytes_eq r.id id ≡ t → (found id rs ≡ None → found id (with_values id how s vs rs) ≡ Some (new_row id how s vs))
        → found id (with_values id how s vs (r ∷ rs)) ≡ Some (new_row id how s vs)
    go true t ih = let bad : Some r ≡ None = rw t at none in cc
    go false t ih = let rest : found id rs ≡ None = rw t at none in rw (t, t) (ih rest)

pub found-more : (id : Text) (how : Reading) (s : ValueSource) (vs : List Text) (x : Row) (rows : List Row) → found id rows ≡ Some x
    → found id (with_values id how s vs rows) ≡ Some (record x { values = x.values ++ vs; source = Some (stronger x.source s) })
found-more id how s vs x [] is = cc
found-more id how s vs x (r ∷ rs) is = go (bytes_eq r.id id) refl (found-more id how s vs x rs)
  where
    go : (t : Bool) → bytes_eq r.id id ≡ t → (found id rs ≡ Some x → found id (with_values id how s vs rs) ≡ Some (record x { values = x.values ++ vs; source = Some (stronger x.source s) }))
        → found id (with_values id how s vs (r ∷ rs)) ≡ Some (record x { values = x.values ++ vs; source = Some (stronger x.source s) })
    go true t ih =
        let same : Some r ≡ Some x = rw t at is in
        let equal : r ≡ x = cc in
        rw (t, t) (ap (λ (y : Row). Some (record y { values = y.values ++ vs; source = Some (stronger y.source s) })) equal)
    go false t ih = let rest : found id rs ≡ Some x = rw t at is in rw (t, t) (ih rest)

without-absent : (id : Text) (rows : List Row) → found id rows ≡ None → without id rows ≡ rows
without-absent id [] none = refl
without-absent id (r ∷ rs) none = go (bytes_eq r.id id) refl (without-absent id rs)
  where
    go : (t : Bool) → bytes_eq r.id id ≡ t → (found id rs ≡ None → without id rs ≡ rs) → without id (r ∷ rs) ≡ r ∷ rs
    go true t ih = let bad : Some r ≡ None = rw t at none in cc
    go false t ih = let rest : found id rs ≡ None = rw t at none in rw t (ap (λ (rows : List Row). r ∷ rows) (ih rest))

pub has_row-found : (id : Text) (rows : List Row) → has_row id rows ≡ is_some (found id rows)
has_row-found id [] = refl
has_row-found id (r ∷ rs) = go (bytes_eq r.id id) refl (has_row-found id rs)
  where
    go : (t : Bool) → bytes_eq r.id id ≡ t → has_row id rs ≡ is_some (found id rs) → has_row id (r ∷ rs) ≡ is_some (found id (r ∷ rs))
    go true t ih = rw t
    go false t ih = rw t ih

-- a first use
abbrev pub first_use : Text → List Text → List Row → List Row
first_use id vs rows = with_values id AsWritten CommandLine vs (without id rows)

pub found-first_use : (id : Text) (vs : List Text) (rows : List Row) → found id rows ≡ None → found id (first_use id vs rows) ≡ Some (new_row id AsWritten CommandLine vs)
found-first_use id vs rows none =
    ap (λ (l : List Row). found id (with_values id AsWritten CommandLine vs l)) (without-absent id rows none) ∙ found-new id AsWritten CommandLine vs rows none

pub found-other_use : (id other : Text) (vs : List Text) (rows : List Row) → found other rows ≡ None → bytes_eq other id ≡ false → found id (first_use other vs rows) ≡ found id rows
found-other_use id other vs rows none differs =
    ap (λ (l : List Row). found id (with_values other AsWritten CommandLine vs l)) (without-absent other rows none) ∙ found-other id other AsWritten CommandLine vs rows differs
