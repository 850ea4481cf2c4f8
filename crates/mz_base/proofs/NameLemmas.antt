-- Names, their texts and their numbers.
use Rattle.std.proofs.Common.{◌≡◌, ℕ, zero, suc, ◌+◌, ◌-◌, ◌<◌, ◌≤◌, Bool, true, false, not, ◌&&◌, ◌==◌, nat_le, IsTrue, List, [], ◌∷◌, ◌++◌, length, filter, take, drop, set, get_or, replicate, codes, refl, sym, ap, ◌∙◌, arith, length-append, append-nil, length-drop, lit<}
use Rattle.std.specs.List.{list_all}
use Rattle.std.specs.Int.{w64, to_be_bytes, from_be_bytes}
use Rattle.std.proofs.lemmas.Nat.{be_bytes_8}
use Rattle.std.proofs.lemmas.Bool.{leb-true}
use Rattle.std.proofs.lemmas.List.{length-replicate, length-map, map-append, take_more, take_more_set, drop-set-lt, drop-drop, drop-replicate}
use Rattle.std.proofs.lemmas.Bool.Decides.{nat_tests}
use Rattle.std.proofs.lemmas.List.Elements.{filter-append}
use Rattle.mz_base.specs.Bytes.{is_lower, is_letter, raised_byte, raised}
use Rattle.mz_base.specs.Name.{is_name_byte, is_name, is_raised_name, filled, number_of, text_of}

pub number_of-HIDDEN : number_of (codes "HIDDEN") ≡ 0x4849_4444_454e_0000
unfolding number_of
number_of-HIDDEN = refl

pub number_of-TARSKI_0 : number_of (codes "TARSKI_0") ≡ 0x5441_5253_4b49_5f30
unfolding number_of
number_of-TARSKI_0 = refl

pub number_of-TARSKI_A : number_of (codes "TARSKI_A") ≡ 0x5441_5253_4b49_5f41
unfolding number_of
number_of-TARSKI_A = refl

pub ruleset built_in_numbers = (number_of-HIDDEN, number_of-TARSKI_0, number_of-TARSKI_A)

pub text_of-HIDDEN : text_of 0x4849_4444_454e_0000 ≡ codes "HIDDEN"
unfolding text_of
text_of-HIDDEN = refl

pub text_of-TARSKI_0 : text_of 0x5441_5253_4b49_5f30 ≡ codes "TARSKI_0"
unfolding text_of
text_of-TARSKI_0 = refl

pub text_of-TARSKI_A : text_of 0x5441_5253_4b49_5f41 ≡ codes "TARSKI_A"
unfolding text_of
text_of-TARSKI_A = refl

-- each byte of a name is above 0 and below 123
pub is_name_byte_range : (b : ℕ) → is_name_byte b ≡ true → (0 < b) × (b < 123)
is_name_byte_range b h = grind (arith, nat_tests)

pub is_letter-raised_byte : (b : ℕ) → is_letter b ≡ true → is_letter (raised_byte b) ≡ true
is_letter-raised_byte b h = grind (arith, nat_tests)

pub is_name_byte-raised_byte : (b : ℕ) → is_name_byte b ≡ true → is_name_byte (raised_byte b) ≡ true
is_name_byte-raised_byte b h = grind (arith, nat_tests)

pub is_lower-raised_byte : (b : ℕ) → not (is_lower (raised_byte b)) ≡ true
is_lower-raised_byte b = grind (arith, nat_tests)

pub is_name_byte-letter : (b : ℕ) → is_letter b ≡ true → is_name_byte b ≡ true
is_name_byte-letter b h = grind (arith, nat_tests)

pub and_left : (a b : Bool) → a && b ≡ true → a ≡ true
and_left true b h = refl
and_left false b h = h

pub and_right : (a b : Bool) → a && b ≡ true → b ≡ true
and_right true b h = h
and_right false b h = cc

and_both : (a b : Bool) → a ≡ true → b ≡ true → a && b ≡ true
and_both a b p q = rw (p, q)

raised_name_bytes : (bs : List ℕ) → list_all is_name_byte bs ≡ true → list_all is_name_byte (raised bs) ≡ true
raised_name_bytes [] h = refl
raised_name_bytes (b ∷ bs) h =
    and_both _ _ (is_name_byte-raised_byte b (and_left _ _ h)) (raised_name_bytes bs (and_right _ _ h))

no_lower-raised : (bs : List ℕ) → list_all (λ b. not (is_lower b)) (raised bs) ≡ true
no_lower-raised [] = refl
no_lower-raised (b ∷ bs) = and_both _ _ (is_lower-raised_byte b) (no_lower-raised bs)

-- a name, raised, is a name without lower-case letters
pub is_raised_name-raised : (bs : List ℕ) → is_name bs ≡ true → is_raised_name (raised bs) ≡ true
is_raised_name-raised [] h = cc
is_raised_name-raised (b ∷ bs) h =
    let letter : is_letter b ≡ true = and_left _ _ (and_left _ _ h) in
    let short : nat_le (length bs) 7 ≡ true = and_right _ _ (and_left _ _ h) in
    let rest : list_all is_name_byte bs ≡ true = and_right _ _ h in
    let short' : nat_le (length (raised bs)) 7 ≡ true = rw (length-map) short in
    and_both _ _
    (and_both _ _ (and_both _ _ (is_letter-raised_byte b letter) short') (raised_name_bytes bs rest))
    (no_lower-raised (b ∷ bs))

-- what is known of a name's bytes
pub name_bytes : (bs : List ℕ) → is_name bs ≡ true → (list_all is_name_byte bs ≡ true) × (length bs ≤ 8)
name_bytes [] h = cc
name_bytes (b ∷ bs) h =
    let front : is_letter b && nat_le (length bs) 7 ≡ true =
    and_left (is_letter b && nat_le (length bs) 7) (list_all is_name_byte bs) h
    in
    let short : length bs ≤ 7 = leb-true (length bs) 7 (and_right (is_letter b) (nat_le (length bs) 7) front) in
    let letter : is_letter b ≡ true = and_left (is_letter b) (nat_le (length bs) 7) front in
    let rest : list_all is_name_byte bs ≡ true =
    and_right (is_letter b && nat_le (length bs) 7) (list_all is_name_byte bs) h
    in
    (and_both _ _ (is_name_byte-letter b letter) rest, omega arith)

filter-nonzero-name_bytes : (bs : List ℕ) → list_all is_name_byte bs ≡ true → filter (λ b. not (b == 0)) bs ≡ bs
filter-nonzero-name_bytes [] h = refl
filter-nonzero-name_bytes (b ∷ bs) h =
    let some : 0 < b = (is_name_byte_range b (and_left _ _ h)).0 in
    let test : not (b == 0) ≡ true = grind (arith, nat_tests) in
    rw test (ap (λ xs. b ∷ xs) (filter-nonzero-name_bytes bs (and_right _ _ h)))

nonzero-replicate : (n : ℕ) → filter (λ b. not (b == 0)) (replicate n 0) ≡ []
nonzero-replicate zero = refl
nonzero-replicate (suc n) = nonzero-replicate n

zeros_below_256 : (n i : ℕ) → get_or (replicate n 0) i 0 < 256
zeros_below_256 zero i = lit< tt
zeros_below_256 (suc n) zero = lit< tt
zeros_below_256 (suc n) (suc i) = zeros_below_256 n i

padded_below_256 : (bs : List ℕ) (n : ℕ) → list_all is_name_byte bs ≡ true → (i : ℕ) → get_or (bs ++ replicate n 0) i 0 < 256
padded_below_256 [] n h i = zeros_below_256 n i
padded_below_256 (b ∷ bs) n h zero = let range = is_name_byte_range b (and_left _ _ h) in omega arith
padded_below_256 (b ∷ bs) n h (suc i) = padded_below_256 bs n (and_right _ _ h) i

pub length-filled : (bs : List ℕ) → length bs ≤ 8 → length (filled bs) ≡ 8
length-filled bs h = omega (arith, length-append bs (replicate (8 - length bs) 0), length-replicate {A = ℕ} (8 - length bs) 0)

text_of-from_be_bytes : (n : ℕ) (bs : List ℕ) → is_name bs ≡ true → n ≡ from_be_bytes w64 (filled bs) → text_of n ≡ bs
unfolding text_of
text_of-from_be_bytes n bs h e =
    let known = name_bytes bs h in
    let bytes : to_be_bytes w64 n ≡ filled bs = be_bytes_8 (filled bs) n (length-filled bs known.1) (padded_below_256 bs (8 - length bs) known.0) e in
    let kept : filter (λ b. not (b == 0)) (filled bs) ≡ bs =
    filter-append (λ b. not (b == 0)) bs (replicate (8 - length bs) 0) ∙ rw (filter-nonzero-name_bytes bs known.0, nonzero-replicate (8 - length bs)) (append-nil bs)
    in
    ap (λ xs. filter (λ b. not (b == 0)) xs) bytes ∙ kept

-- a name is the text of its number
pub text_of-number_of : (bs : List ℕ) → is_name bs ≡ true → text_of (number_of bs) ≡ bs
unfolding number_of
text_of-number_of bs h = text_of-from_be_bytes (from_be_bytes w64 (filled bs)) bs h refl

-- a name without lower-case letters is a name
pub is_name-is_raised_name : (bs : List ℕ) → is_raised_name bs ≡ true → is_name bs ≡ true
is_name-is_raised_name bs h = and_left _ _ h

-- names with equal numbers are equal
pub number_of-inj : (bs cs : List ℕ) → is_name bs ≡ true → is_name cs ≡ true → number_of bs ≡ number_of cs → bs ≡ cs
number_of-inj bs cs h k e = sym (text_of-number_of bs h) ∙ ap text_of e ∙ text_of-number_of cs k

pub number-read : (n : ℕ) (bytes word : List ℕ) → bytes ≡ filled (raised word) → n ≡ from_be_bytes w64 bytes → n ≡ number_of (raised word)
unfolding number_of
number-read n bytes word e h = rw e at h

pub text-read : (n : ℕ) (bytes word : List ℕ) → is_name word ≡ true → bytes ≡ filled (raised word) → n ≡ from_be_bytes w64 bytes → text_of n ≡ raised word
text-read n bytes word name e h =
    text_of-from_be_bytes n (raised word) (is_name-is_raised_name (raised word) (is_raised_name-raised word name)) (rw e at h)

-- one byte more
pub fill_more : (bytes word : List ℕ) (i r : ℕ) → i < length word → length word ≤ 8 → take i bytes ≡ raised (take i word) → drop i bytes ≡ replicate (8 - i) 0 → r ≡ raised_byte (get_or word i 0) → (take (i + 1) (set bytes i r) ≡ raised (take (i + 1) word)) × (drop (i + 1) (set bytes i r) ≡ replicate (8 - (i + 1)) 0)
fill_more bytes word i r lt le done left e =
    let rest : length (drop i bytes) ≡ 8 - i = ap length left ∙ length-replicate (8 - i) 0 in
    let within : i < length bytes = omega (arith, length-drop i bytes) in
    let spelled : raised (take (i + 1) word) ≡ raised (take i word) ++ raised_byte (get_or word i 0) ∷ [] =
    ap raised (take_more word i 0 lt) ∙ map-append raised_byte (take i word) (get_or word i 0 ∷ [])
    in
    let next : i < i + 1 = omega arith in
    let fewer : 8 - i - 1 ≡ 8 - (i + 1) = omega arith in
    let dropped : drop (i + 1) bytes ≡ replicate (8 - i - 1) 0 =
    sym (drop-drop 1 i bytes) ∙ ap (λ xs. drop 1 xs) left ∙ drop-replicate 1 (8 - i) 0
    in (
      take_more_set bytes i r within ∙ rw (done, e) (sym spelled),
      drop-set-lt (i + 1) bytes i r next ∙ dropped ∙ ap (λ k. replicate k 0) fewer,
    )

pub named-read : (n : ℕ) (word : List ℕ) → is_name word ≡ true → text_of n ≡ raised word → IsTrue (is_raised_name (text_of n))
named-read n word name e = rw e (is_raised_name-raised word name)
