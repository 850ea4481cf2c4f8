-- A text has at least as many bytes as its environment part has names.
use Rattle.std.proofs.Common.{◌≡◌, ℕ, suc, ◌+◌, ◌≤◌, ◌<◌, ◌⊎◌, Bool, true, false, ◌&&◌, cond, List, [], ◌∷◌, ◌++◌, Option, Some, None, length, refl, sym, ap, subst, ◌∙◌, arith, inl, inr, length-append}
use Rattle.std.specs.Prelude.{fold, map, nat_lt}
use Rattle.std.specs.List.{list_any, list_all}
use Rattle.std.proofs.lemmas.Bool.{ltb-true}
use Rattle.std.proofs.lemmas.List.{length-map}
use Rattle.mz_base.specs.declared.name.Name.{Name}
use Rattle.mz_base.specs.declared.head.Directive.{Directive}
use Rattle.mz_base.specs.declared.head.DirectiveKind.{DirectiveKind}
use Rattle.mz_base.specs.declared.head.DirectiveKind.TheVariants.{Vocabularies, Notations, Constructors, Registrations, Definitions, Theorems, Schemes, Requirements, Equalities, Expansions}
use Rattle.mz_base.specs.declared.head.PlacedName.{PlacedName}
use Rattle.mz_base.specs.declared.place.Place.{Place}
use Rattle.mz_base.specs.declared.token.Token.{Token}
use Rattle.mz_base.specs.Name.{is_built_in}
use Rattle.mz_base.specs.Words.{is_word_byte}
use Rattle.mz_lex.specs.declared.lexeme.Lexeme.{Lexeme}
use Rattle.mz_lex.specs.Tokens.{IsToken, is_lexeme}
use Rattle.mz_lex.specs.Cut.{End, Mode, Cuts, end, separator, comment, pragma, bad_byte, too_many, token, closing, switching}
use Rattle.mz_lex.specs.declared.head_token.HeadToken.TheVariants as head_tokens
use Rattle.mz_lex.specs.Head.{Pattern, AWord, Matches, more_names, names_between, spell_directives, spell_head, IsHeadOf}
use Rattle.mz_corpus.specs.Names.{is_name_of, with_name, with_fetched_name}
use Rattle.mz_corpus.specs.Directives.{names_vocabularies, names_dependencies, names_of, with_dependencies, with_vocabularies, dependencies_of, vocabulary_names_of}
use Rattle.mz_corpus.specs.Gather.{HasDirectives, queued}
use Rattle.mz_corpus.specs.Rise.{text_length}

-- tokens and bytes

and_first : (a b : Bool) → a && b ≡ true → a ≡ true
and_first true b h = refl
and_first false b h = h

spelled : (ls : List Lexeme) (text w bs : List ℕ) → IsToken ls text w bs → suc (length bs) ≤ length text
spelled ls text w bs h =
    let some : 0 < length w = ltb-true 0 (length w) (and_first (nat_lt 0 (length w)) _ h.spells) in
    let l = length-append w bs in
    let e : length text ≡ length (w ++ bs) = ap length h.split in
    omega arith

tokens_le : {ls : List Lexeme} {m : Mode} {n : ℕ} {p : Place} {text : List ℕ} {ts : List Token} {e : End} → Cuts ls m n p text ts e → length ts ≤ length text
tokens_le end = omega arith
tokens_le (separator b bs ts e is more) = let h = tokens_le more in omega arith
tokens_le (comment text c bs ts e is more) = let h = tokens_le more in let l = length-append c bs in let s : length text ≡ length (c ++ bs) = ap length is.split in omega arith
tokens_le (pragma text is) = omega arith
tokens_le (bad_byte text is) = omega arith
tokens_le (too_many text w bs is) = omega arith
tokens_le {ls = ls} (token text w bs ts e is border more) = let h = tokens_le more in let s = spelled ls text w bs is in omega arith
tokens_le {ls = ls} (closing text w bs is border) = let s = spelled ls text w bs is in omega arith
tokens_le {ls = ls} (switching text w bs ts e is border more) = let h = tokens_le more in let s = spelled ls text w bs is in omega arith

-- patterns and names

length-matched : (ps : List Pattern) (ts : List Token) → Matches ps ts → length ps ≡ length ts
length-matched [] [] h = refl
length-matched [] (t ∷ ts) h = absurd h
length-matched (p ∷ ps) [] h = absurd h
length-matched (p ∷ ps) (t ∷ ts) h = ap suc (length-matched ps ts h.1)

more_le : (ns : List PlacedName) → length ns ≤ length (more_names ns)
more_le [] = omega arith
more_le (n ∷ ns) = let h = more_le ns in omega arith

between_le : (ns : List PlacedName) → length ns ≤ length (names_between ns)
between_le [] = omega arith
between_le (n ∷ ns) = let h = more_le ns in omega arith

abbrev name_count : List Directive → ℕ
name_count [] = 0
name_count (d ∷ ds) = length d.names + name_count ds

directives_le : (ds : List Directive) → name_count ds ≤ length (spell_directives ds)
directives_le [] = omega arith
directives_le (d ∷ ds) =
    let h = directives_le ds in
    let b = between_le d.names in
    let l = length-append (names_between d.names) (AWord head_tokens.Semicolon ∷ spell_directives ds) in
    omega arith

head_le : (ds : List Directive) → name_count ds ≤ length (spell_head ds)
head_le ds = let h = directives_le ds in let l = length-append (spell_directives ds) (AWord head_tokens.Begin ∷ []) in omega arith

-- names, each once

name_by : (ns : List Name) (n : Name) (b : Bool) → length (cond b ns (ns ++ n ∷ [])) ≤ length ns + 1
name_by ns n true = omega arith
name_by ns n false = let l = length-append ns (n ∷ []) in omega arith

with_name-le : (ns : List Name) (n : Name) → length (with_name ns n) ≤ length ns + 1
with_name-le ns n = name_by ns n (list_any (is_name_of n) ns)

fetched_by : (ns : List Name) (n : Name) (b : Bool) → length (cond b ns (with_name ns n)) ≤ length ns + 1
fetched_by ns n true = omega arith
fetched_by ns n false = with_name-le ns n

with_fetched_name-le : (ns : List Name) (n : Name) → length (with_fetched_name ns n) ≤ length ns + 1
with_fetched_name-le ns n = fetched_by ns n (is_built_in n.number)

names_le : (f : List Name → Name → List Name) → ((ns : List Name) (n : Name) → length (f ns n) ≤ length ns + 1) → (ms ns : List Name) → length (fold f ns ms) ≤ length ns + length ms
names_le f one [] ns = omega arith
names_le f one (m ∷ ms) ns = let h = names_le f one ms (f ns m) in let o = one ns m in omega arith

pub queued-le : (queue ns : List Name) → length (queued queue ns) ≤ length queue + length ns
queued-le queue ns = names_le with_fetched_name with_fetched_name-le ns queue

-- names of directives

abbrev counts : Bool → ℕ → ℕ
counts true n = n
counts false n = 0

dependencies_by : (ns : List Name) (d : Directive) (b : Bool) → length (cond b (fold with_name ns (names_of d)) ns) ≤ length ns + counts b (length d.names)
dependencies_by ns d true = let h = names_le with_name with_name-le (names_of d) ns in let l = length-map d.names (λ placed. placed.name) in omega arith
dependencies_by ns d false = omega arith

vocabularies_by : (ns : List Name) (d : Directive) (b : Bool) → length (cond b (fold with_fetched_name ns (names_of d)) ns) ≤ length ns + counts b (length d.names)
vocabularies_by ns d true = let h = names_le with_fetched_name with_fetched_name-le (names_of d) ns in let l = length-map d.names (λ placed. placed.name) in omega arith
vocabularies_by ns d false = omega arith

one_kind : (kind : DirectiveKind) (n : ℕ) → counts (names_vocabularies kind) n + counts (names_dependencies kind) n ≤ n
one_kind Vocabularies n = omega arith
one_kind Notations n = omega arith
one_kind Constructors n = omega arith
one_kind Registrations n = omega arith
one_kind Definitions n = omega arith
one_kind Theorems n = omega arith
one_kind Schemes n = omega arith
one_kind Requirements n = omega arith
one_kind Equalities n = omega arith
one_kind Expansions n = omega arith

both_le : (ds : List Directive) (vs ns : List Name) → length (fold with_vocabularies vs ds) + length (fold with_dependencies ns ds) ≤ length vs + length ns + name_count ds
both_le [] vs ns = omega arith
both_le (d ∷ ds) vs ns =
    let h = both_le ds (with_vocabularies vs d) (with_dependencies ns d) in
    let v = vocabularies_by vs d (names_vocabularies d.kind) in
    let n = dependencies_by ns d (names_dependencies d.kind) in
    let k = one_kind d.kind (length d.names) in
    omega arith

-- an environment part

head_named : (bytes : List ℕ) (ds : List Directive) → IsHeadOf bytes ds → length (vocabulary_names_of ds) + length (dependencies_of ds) ≤ length bytes
head_named bytes ds h =
    let t = tokens_le h.cut in
    let m = length-matched (spell_head ds) h.tokens h.spells.spelled in
    let n = head_le ds in
    let b = both_le ds [] [] in
    omega arith

pub directives_named : (text : Option (List ℕ)) (ds : List Directive) → HasDirectives text ds → length (vocabulary_names_of ds) + length (dependencies_of ds) ≤ text_length text
directives_named None ds h = subst (λ es. length (vocabulary_names_of es) + length (dependencies_of es) ≤ 0) (sym h) (omega arith)
directives_named (Some bytes) ds h =
    elim h [
      | inl is ↦ head_named bytes ds is
      | inr none ↦ subst (λ es. length (vocabulary_names_of es) + length (dependencies_of es) ≤ length bytes) (sym none.2) (omega arith)
    ]
