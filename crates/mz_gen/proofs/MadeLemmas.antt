-- Names and lists of made articles.
use Rattle.std.proofs.Common.{◌≡◌, ℕ, ◌+◌, ◌/◌, ◌<◌, ◌≤◌, ◌%◌, true, List, [], ◌∷◌, ◌++◌, length, get_or, refl, subst, sym, ◌∙◌, arith, length-append, below_more}
use Rattle.std.proofs.lemmas.Bool.Decides.{nat_tests}
use Rattle.std.proofs.lemmas.List.{get_or_append_left, get_or_push}
use Rattle.mz_base.specs.Bytes.{raised, raised_byte}
use Rattle.mz_base.specs.Name.{is_name, is_name_byte}
use Rattle.mz_io.specs.declared.file.File.{File}
use Rattle.mz_gen.specs.Made.{made_name, AreMadeFiles, IsMadeFile}

is_name_byte-digit : (d : ℕ) → d < 10 → is_name_byte (48 + d) ≡ true
is_name_byte-digit d lt = grind (arith, nat_tests)

raised_byte-digit : (d : ℕ) → d < 10 → raised_byte (48 + d) ≡ 48 + d
raised_byte-digit d lt = grind (arith, nat_tests)

is_name-bytes : (a b c d : ℕ) → is_name_byte a ≡ true → is_name_byte b ≡ true → is_name_byte c ≡ true → is_name_byte d ≡ true → is_name (71 ∷ a ∷ b ∷ c ∷ d ∷ []) ≡ true
is_name-bytes a b c d ha hb hc hd = rw (ha, hb, hc, hd) refl

below_ten : (n : ℕ) → n % 10 < 10
below_ten n = omega arith

name_byte : (n : ℕ) → is_name_byte (48 + n % 10) ≡ true
name_byte n = is_name_byte-digit (n % 10) (below_ten n)

raised_digit : (n : ℕ) → raised_byte (48 + n % 10) ≡ 48 + n % 10
raised_digit n = raised_byte-digit (n % 10) (below_ten n)

pub is_name-made_name : (i : ℕ) → is_name (made_name i) ≡ true
unfolding made_name
is_name-made_name i =
    is_name-bytes (48 + i / 1000 % 10) (48 + i / 100 % 10) (48 + i / 10 % 10) (48 + i % 10) (name_byte (i / 1000)) (name_byte (i / 100)) (name_byte (i / 10)) (name_byte i)

pub raised-made_name : (i : ℕ) → raised (made_name i) ≡ made_name i
unfolding made_name
raised-made_name i = λ j. 71 ∷ raised_digit (i / 1000) j ∷ raised_digit (i / 100) j ∷ raised_digit (i / 10) j ∷ raised_digit i j ∷ []

pub AreMadeFiles-push : (n : ℕ) (files : List File) (file : File) → AreMadeFiles n files → IsMadeFile n file → AreMadeFiles (n + 1) (files ++ file ∷ [])
AreMadeFiles-push n files file made next = record {
  whole = length-append files (file ∷ []) ∙ (let e = made.whole in omega arith);
  each = λ j d lt.
      below_more (λ k. IsMadeFile k (get_or (files ++ file ∷ []) k d)) n
      (λ k below. let within : k < length files = (let e = made.whole in omega arith) in subst (IsMadeFile k) (sym (get_or_append_left files (file ∷ []) d k within)) (made.each k d below))
      (subst (IsMadeFile n) (sym (get_or_push files file d n made.whole)) next) j lt;
}
