-- A fault in front of the items stands in the text, and so does each token of the tree.
use Rattle.std.proofs.Common.{◌≡◌, ℕ, zero, suc, ◌≤◌, ◌-◌, inl, inr, Bool, true, false, List, [], ◌∷◌, ◌++◌, length, map, take, drop, append_assoc, take_all, refl, sym, ap, subst, ◌∙◌, arith, if◌then◌else◌, Option, Some, None}
use Rattle.std.specs.Prelude.{Result, Ok, Err, flat_map}
use Rattle.mz_base.specs.NamedText.{NamedText}
use Rattle.mz_base.specs.Place.{after, end_from}
use Rattle.mz_base.specs.TokenList.{TokenList}
use Rattle.mz_base.specs.declared.head.Directive.{Directive}
use Rattle.mz_base.specs.declared.head.DirectiveKind.{DirectiveKind}
use Rattle.mz_base.specs.declared.head.DirectiveKind.TheVariants.{Vocabularies, Notations, Constructors, Registrations, Definitions, Theorems, Schemes, Requirements, Equalities, Expansions}
use Rattle.mz_base.specs.declared.head.PlacedName.{PlacedName}
use Rattle.mz_base.specs.declared.name.Name.{Name}
use Rattle.mz_base.specs.declared.place.Place.{Place}
use Rattle.mz_base.specs.declared.token.MarkedToken.{MarkedToken}
use Rattle.mz_base.specs.declared.token.Token.{Token}
use Rattle.mz_core.specs.declared.outcome.Export.{Export}
use Rattle.mz_core.specs.declared.fault.Fault.{Fault}
use Rattle.mz_env.specs.LetIn.{LetIn, Gives, nothing, refused, let_in, behind, directed, directive_names, directed_names, missing_at, exported, constructors_known, requirement_known, first_missing, fault_of}
use Rattle.mz_env.specs.Visits.{export_named}
use Rattle.mz_env.specs.declared.directed.Directed.{Directed}
use Rattle.mz_env.specs.declared.env_fault.EnvFault.{EnvFault}
use Rattle.mz_env.specs.declared.env_fault.EnvFault.TheVariants as env
use Rattle.mz_environment.specs.declared.environment.Environment.{Environment}
use Rattle.mz_axioms.specs.Names.{hidden_name}
use Rattle.mz_lex.specs.BuiltIn.{built_in_lexemes}
use Rattle.mz_lex.specs.Cut.{End, Whole, AtBadByte, AtPragma, AtTooManyTokens, Mode, Stop, Switch, Cuts, end, separator, comment, pragma, bad_byte, too_many, token, closing, switching, IsCut, IsStopped}
use Rattle.mz_lex.specs.Head.{Pattern, AWord, AName, Matches, more_names, names_between, spell_directives, SpellsHead, IsHeadOf, IsHeadRefused, IsUnexpected, IsLater}
use Rattle.mz_lex.specs.Table.{is_among, is_vocabularies, names_under, vocabulary_names, firsts, named_vocabularies, IsFaultOf, IsTableRefused, IsTableFault}
use Rattle.mz_lex.specs.Tokens.{token_of}
use Rattle.mz_lex.specs.declared.head_fault.HeadFault.{HeadFault}
use Rattle.mz_lex.specs.declared.head_fault.HeadFault.TheVariants as head
use Rattle.mz_lex.specs.declared.head_token.HeadToken.TheVariants as head_tokens
use Rattle.mz_lex.specs.declared.lex_fault.LexFault.{LexFault}
use Rattle.mz_lex.specs.declared.lex_fault.LexFault.TheVariants as lex
use Rattle.mz_lex.specs.declared.lexeme.Lexeme.{Lexeme}
use Rattle.mz_lex.specs.declared.table_fault.TableFault.{TableFault}
use Rattle.mz_lex.specs.declared.table_fault.TableFault.TheVariants as table
use Rattle.mz_parse_laws.specs.Article.{ParsesArticle}
use Rattle.mz_pterm.specs.Parses.{StandsAt}
use Rattle.mz_pterm.specs.declared.parse.ParseFault.{ParseFault}
use Rattle.mz_pterm.specs.declared.parse.ParseFault.TheVariants as parse
use Rattle.mz_tree_item.specs.Spell.{spell_article}
use Rattle.mz_tree_item.specs.declared.article.ArticleTree.{ArticleTree}
use Rattle.mz_voc.specs.declared.voc_fault.VocFault.{VocFault}
use Rattle.mz_voc.specs.declared.voc_fault.VocFault.TheVariants as voc
use Rattle.mz_first.specs.Faults.{head_told, lex_told}
use Rattle.mz_front.specs.Told.{voc_told, table_told, parse_told, env_told}
use Rattle.mz_front.specs.Front.{ReadsHead, CutsTokens, SpellsTree, LetsIn, HasTree, no_lexemes, no_tokens, has_tokens, IsFront, no_head, no_tree, no_environment, front}
use Rattle.mz_place_laws.specs.Places.{IsPlaceIn, IsPlaceOf}
use Rattle.mz_place_laws.specs.Laws.{PlaceLaw, TreePlaceLaw}
use Rattle.mz_front.specs.declared.front.Front.{Front}

-- the place is that of a byte of the text from p on, or just after its last byte
abbrev IsFrom : Place → List ℕ → Place → Type 0
IsFrom p bs q = (k : ℕ) × (k ≤ length bs) × (q ≡ end_from p (take k bs))

here : (p : Place) (bs : List ℕ) → IsFrom p bs p
here p bs = (0, omega arith, refl)

further : (p : Place) (b : ℕ) (bs : List ℕ) (q : Place) → IsFrom (after p b) bs q → IsFrom p (b ∷ bs) q
further p b bs q (k, within, is) = (suc k, omega arith, is)

past_all : (p : Place) (v bs : List ℕ) (q : Place) → IsFrom (end_from p v) bs q → IsFrom p (v ++ bs) q
past_all p [] bs q h = h
past_all p (b ∷ v) bs q h = further p b (v ++ bs) q (past_all (after p b) v bs q h)

past : (p : Place) (text v bs : List ℕ) (q : Place) → text ≡ v ++ bs → IsFrom (end_from p v) bs q → IsFrom p text q
past p text v bs q e h = subst (λ t. IsFrom p t q) (sym e) (past_all p v bs q h)

abbrev place_of : End → Place
place_of (Whole p) = p
place_of (AtBadByte p) = p
place_of (AtPragma p) = p
place_of (AtTooManyTokens p) = p

-- where a cut ends
end_in : {ls : List Lexeme} {m : Mode} {n : ℕ} {p : Place} {bs : List ℕ} {ts : List Token} {e : End} → Cuts ls m n p bs ts e → IsFrom p bs (place_of e)
end_in {p = p} end = here p []
end_in {p = p} (separator b bs ts e h c) = further p b bs (place_of e) (end_in c)
end_in {p = p} {bs = text} (comment _ v bs ts e h c) = past p text v bs (place_of e) h.split (end_in c)
end_in {p = p} (pragma text h) = here p text
end_in {p = p} (bad_byte text h) = here p text
end_in {p = p} (too_many text w bs h) = here p text
end_in {p = p} {bs = text} (token _ w bs ts e h border c) = past p text w bs (place_of e) h.split (end_in c)
end_in {p = p} {bs = text} (closing _ w bs h begins) = past p text w bs (end_from p w) h.split (here (end_from p w) bs)
end_in {p = p} {bs = text} (switching _ w bs ts e h begins c) = past p text w bs (place_of e) h.split (end_in c)

place_of_token : (ls : List Lexeme) (p : Place) (w : List ℕ) → (token_of ls p w).place ≡ p
unfolding token_of
place_of_token ls p w = refl

at_token : (ls : List Lexeme) (p : Place) (text w : List ℕ) (q : Place) → (token_of ls p w).place ≡ q → IsFrom p text q
at_token ls p text w q e = subst (IsFrom p text) (sym (place_of_token ls p w) ∙ e) (here p text)

-- where its tokens stand
tokens_in : {ls : List Lexeme} {m : Mode} {n : ℕ} {p : Place} {bs : List ℕ} {ts : List Token} {e : End} (q : Place) → Cuts ls m n p bs ts e → IsPlaceOf ts q → IsFrom p bs q
tokens_in q end h = absurd h
tokens_in {p = p} q (separator b bs ts e k c) h = further p b bs q (tokens_in q c h)
tokens_in {p = p} {bs = text} q (comment _ v bs ts e k c) h = past p text v bs q k.split (tokens_in q c h)
tokens_in q (pragma text k) h = absurd h
tokens_in q (bad_byte text k) h = absurd h
tokens_in q (too_many text w bs k) h = absurd h
tokens_in {ls} {p = p} q (token text w bs ts e k border c) (inl h) = at_token ls p text w q h
tokens_in {p = p} q (token text w bs ts e k border c) (inr h) = past p text w bs q k.split (tokens_in q c h)
tokens_in {ls} {p = p} q (closing text w bs k begins) (inl h) = at_token ls p text w q h
tokens_in q (closing text w bs k begins) (inr h) = absurd h
tokens_in {ls} {p = p} q (switching text w bs ts e k begins c) (inl h) = at_token ls p text w q h
tokens_in {p = p} q (switching text w bs ts e k begins c) (inr h) = past p text w bs q k.split (tokens_in q c h)

end_in_text : (ls : List Lexeme) (m : Mode) (bytes : List ℕ) (ts : List Token) (e : End) → IsCut ls m bytes ts e → IsPlaceIn bytes (place_of e)
end_in_text ls m bytes ts e c = end_in c

token_in_text : (ls : List Lexeme) (m : Mode) (bytes : List ℕ) (ts : List Token) (e : End) (q : Place) → IsCut ls m bytes ts e → IsPlaceOf ts q → IsPlaceIn bytes q
token_in_text ls m bytes ts e q c h = tokens_in q c h

split_place : (before : List Token) (t : Token) (rest : List Token) → IsPlaceOf (before ++ t ∷ rest) t.place
split_place [] t rest = inl refl
split_place (b ∷ before) t rest = inr (split_place before t rest)

split_in : (ts before : List Token) (t : Token) (rest : List Token) (p : Place) → ts ≡ before ++ t ∷ rest → p ≡ t.place → IsPlaceOf ts p
split_in ts before t rest p e at = subst (λ xs. IsPlaceOf xs p) (sym e) (subst (IsPlaceOf (before ++ t ∷ rest)) (sym at) (split_place before t rest))

-- the environment part

head_in : (bytes : List ℕ) (refusal : HeadFault) (fault : Fault) → IsHeadRefused bytes refusal → head_told refusal ≡ Some fault → IsPlaceIn bytes fault.place
head_in bytes (head.BadByte p) fault h e = let at : p ≡ fault.place = cc in subst (IsPlaceIn bytes) at (end_in_text built_in_lexemes Stop bytes h.0 (AtBadByte p) h.1)
head_in bytes (head.TooManyTokens p) fault h e = let at : p ≡ fault.place = cc in subst (IsPlaceIn bytes) at (end_in_text built_in_lexemes Stop bytes h.0 (AtTooManyTokens p) h.1)
head_in bytes (head.Pragma p) fault h e = let at : p ≡ fault.place = cc in subst (IsPlaceIn bytes) at (end_in_text built_in_lexemes Stop bytes h.0 (AtPragma p) h.1)
head_in bytes (head.Unexpected p) fault h e =
    let at : p ≡ fault.place = cc in
    let u : IsUnexpected h.0 p = h.3 in
    subst (IsPlaceIn bytes) at (token_in_text built_in_lexemes Stop bytes h.0 (Whole h.1) p h.2 (split_in h.0 u.before u.token u.behind p u.split u.at))
head_in bytes (head.EndsEarly p) fault h e = let at : p ≡ fault.place = cc in subst (IsPlaceIn bytes) at (end_in_text built_in_lexemes Stop bytes h.0 (Whole p) h.1)
head_in bytes (head.Profile2 p) fault h e =
    let at : p ≡ fault.place = cc in
    let l : IsLater h.0 p = h.3 in
    subst (IsPlaceIn bytes) at (token_in_text built_in_lexemes Stop bytes h.0 (Whole h.1) p h.2 (split_in h.0 l.before l.token l.behind p l.split l.at))
head_in bytes (head.Memory a) fault h e = let no : ⊥ = cc in absurd no

-- the names of an environment part

abbrev AllNames : (Place → Type 0) → List PlacedName → Type 0
AllNames P [] = Unit {0}
AllNames P (n ∷ ns) = P n.place × AllNames P ns

abbrev AllDirectives : (Place → Type 0) → List Directive → Type 0
AllDirectives P [] = Unit {0}
AllDirectives P (d ∷ ds) = AllNames P d.names × AllDirectives P ds

-- each token of the list stands at a place that is meant
abbrev Covers : (Place → Type 0) → List Token → Type 0
Covers P ts = (p : Place) → IsPlaceOf ts p → P p

covers_rest : (P : Place → Type 0) (t : Token) (ts : List Token) → Covers P (t ∷ ts) → Covers P ts
covers_rest P t ts h = λ p k. h p (inr k)

covers_first : (P : Place → Type 0) (t : Token) (ts : List Token) (p : Place) → p ≡ t.place → Covers P (t ∷ ts) → P p
covers_first P t ts p e h = h p (inl (sym e))

-- names that the tokens begin with, and the rest of these
record Named (P : Place → Type 0) (ns : List PlacedName) (Q : List Pattern) : Type 0 where
  names : AllNames P ns
  rest : List Token
  matches : Matches Q rest
  covers : Covers P rest

more_named : (P : Place → Type 0) (ns : List PlacedName) (Q : List Pattern) (ts : List Token) → Matches (more_names ns ++ Q) ts → Covers P ts → Named P ns Q
more_named P [] Q ts h k = record { names = tt; rest = ts; matches = h; covers = k }
more_named P (n ∷ ns) Q [] h k = absurd h
more_named P (n ∷ ns) Q (c ∷ []) h k = absurd h.1
more_named P (n ∷ ns) Q (c ∷ t ∷ ts) h k =
    let inner : Covers P (t ∷ ts) = covers_rest P c (t ∷ ts) k in
    let more = more_named P ns Q ts h.1.1 (covers_rest P t ts inner) in
    record { names = (covers_first P t ts n.place h.1.0.2 inner, more.names); rest = more.rest; matches = more.matches; covers = more.covers }

between_named : (P : Place → Type 0) (ns : List PlacedName) (Q : List Pattern) (ts : List Token) → Matches (names_between ns ++ Q) ts → Covers P ts → Named P ns Q
between_named P [] Q ts h k = record { names = tt; rest = ts; matches = h; covers = k }
between_named P (n ∷ ns) Q [] h k = absurd h
between_named P (n ∷ ns) Q (t ∷ ts) h k =
    let more = more_named P ns Q ts h.1 (covers_rest P t ts k) in
    record { names = (covers_first P t ts n.place h.0.2 k, more.names); rest = more.rest; matches = more.matches; covers = more.covers }

-- behind a word
record Behind (P : Place → Type 0) (Q : List Pattern) : Type 0 where
  rest : List Token
  matches : Matches Q rest
  covers : Covers P rest

word_past : (P : Place → Type 0) (w : Pattern) (Q : List Pattern) (ts : List Token) → Matches (w ∷ Q) ts → Covers P ts → Behind P Q
word_past P w Q [] h k = absurd h
word_past P w Q (t ∷ ts) h k = record { rest = ts; matches = h.1; covers = covers_rest P t ts k }

directives_named : (P : Place → Type 0) (ds : List Directive) (R : List Pattern) (ts : List Token) → Matches (spell_directives ds ++ R) ts → Covers P ts → AllDirectives P ds
directives_named P [] R ts h k = tt
directives_named P (d ∷ ds) R [] h k = absurd h
directives_named P (d ∷ ds) R (t ∷ ts) h k =
    let Q : List Pattern = spell_directives ds in
    let apart : Matches (names_between d.names ++ AWord head_tokens.Semicolon ∷ (Q ++ R)) ts = subst (λ ps. Matches ps ts) (append_assoc (names_between d.names) (AWord head_tokens.Semicolon ∷ Q) R) h.1 in
    let named = between_named P d.names (AWord head_tokens.Semicolon ∷ (Q ++ R)) ts apart (covers_rest P t ts k) in
    let next = word_past P (AWord head_tokens.Semicolon) (Q ++ R) named.rest named.matches named.covers in
    (named.names, directives_named P ds R next.rest next.matches next.covers)

head_named : (P : Place → Type 0) (ds : List Directive) (ts : List Token) → SpellsHead ds ts → Covers P ts → AllDirectives P ds
head_named P ds [] h k = absurd h.spelled
head_named P ds (t ∷ ts) h k = directives_named P ds (AWord head_tokens.Begin ∷ []) ts h.spelled.1 (covers_rest P t ts k)

names_in : (bytes : List ℕ) (ds : List Directive) → IsHeadOf bytes ds → AllDirectives (IsPlaceIn bytes) ds
names_in bytes ds h = head_named (IsPlaceIn bytes) ds h.tokens h.spells (λ p k. token_in_text built_in_lexemes Stop bytes h.tokens (Whole h.place) p h.cut k)

-- the vocabularies

both_named : (P : Place → Type 0) (ns ms : List PlacedName) → AllNames P ns → AllNames P ms → AllNames P (ns ++ ms)
both_named P [] ms h k = k
both_named P (n ∷ ns) ms h k = (h.0, both_named P ns ms h.1 k)

chosen_named : (P : Place → Type 0) (b : Bool) (ns ms : List PlacedName) → AllNames P ns → AllNames P ms → AllNames P (if b then ns else ms)
chosen_named P true ns ms h k = h
chosen_named P false ns ms h k = k

vocabularies_named : (P : Place → Type 0) (ds : List Directive) → AllDirectives P ds → AllNames P (vocabulary_names ds)
vocabularies_named P [] h = tt
vocabularies_named P (d ∷ ds) h =
    both_named P (names_under d) (vocabulary_names ds) (chosen_named P (is_vocabularies d.kind) d.names [] h.0 tt) (vocabularies_named P ds h.1)

firsts_named : (P : Place → Type 0) (above ns : List PlacedName) → AllNames P ns → AllNames P (firsts above ns)
firsts_named P above [] h = tt
firsts_named P above (n ∷ ns) h =
    both_named P (if is_among above n then [] else n ∷ []) (firsts (above ++ n ∷ []) ns) (chosen_named P (is_among above n) [] (n ∷ []) tt (h.0, tt)) (firsts_named P (above ++ n ∷ []) ns h.1)

among_named : (P : Place → Type 0) (before : List PlacedName) (n : PlacedName) (rest : List PlacedName) → AllNames P (before ++ n ∷ rest) → P n.place
among_named P [] n rest h = h.0
among_named P (b ∷ before) n rest h = among_named P before n rest h.1

name_in : (P : Place → Type 0) (vs : List NamedText) (ns : List PlacedName) (fault : TableFault) → AllNames P ns → (r : IsTableRefused vs ns fault) → P r.name.place
name_in P vs ns fault h r = among_named P r.before r.name r.behind (subst (AllNames P) r.split h)

voc_place : (p : Place) (refusal : VocFault) (f : Fault) → voc_told p refusal ≡ Some f → p ≡ f.place
voc_place p (voc.BadEntry line) f e = cc
voc_place p (voc.BadPriority line) f e = cc
voc_place p (voc.Repeated line) f e = cc
voc_place p (voc.Memory a) f e = let no : ⊥ = cc in absurd no

table_in : (P : Place → Type 0) (vs : List NamedText) (ds : List Directive) (refusal : TableFault) (f : Fault) → AllDirectives P ds → IsTableFault vs ds refusal → table_told refusal ≡ Some f → P f.place
table_in P vs ds (table.Absent p) f h r e =
    let at : p ≡ f.place = cc in
    subst P (sym r.refused.0 ∙ at) (name_in P vs (named_vocabularies ds) (table.Absent p) (firsts_named P [] (vocabulary_names ds) (vocabularies_named P ds h)) r)
table_in P vs ds (table.Bad p g) f h r e =
    subst P (sym r.refused.0 ∙ voc_place p g f e) (name_in P vs (named_vocabularies ds) (table.Bad p g) (firsts_named P [] (vocabulary_names ds) (vocabularies_named P ds h)) r)
table_in P vs ds (table.TwoKinds p) f h r e =
    let at : p ≡ f.place = cc in
    subst P (sym r.refused.0 ∙ at) (name_in P vs (named_vocabularies ds) (table.TwoKinds p) (firsts_named P [] (vocabulary_names ds) (vocabularies_named P ds h)) r)
table_in P vs ds (table.TooManySymbols p) f h r e =
    let at : p ≡ f.place = cc in
    subst P (sym r.refused.0 ∙ at) (name_in P vs (named_vocabularies ds) (table.TooManySymbols p) (firsts_named P [] (vocabulary_names ds) (vocabularies_named P ds h)) r)
table_in P vs ds (table.Memory a) f h r e = let no : ⊥ = cc in absurd no

-- the tokens

lex_in : (bytes : List ℕ) (ls : List Lexeme) (refusal : LexFault) (fault : Fault) → IsStopped built_in_lexemes (Switch ls) bytes refusal → lex_told refusal ≡ Some fault → IsPlaceIn bytes fault.place
lex_in bytes ls (lex.BadByte p) fault h e = let at : p ≡ fault.place = cc in subst (IsPlaceIn bytes) at (end_in_text built_in_lexemes (Switch ls) bytes h.0 (AtBadByte p) h.1)
lex_in bytes ls (lex.TooManyTokens p) fault h e = let at : p ≡ fault.place = cc in subst (IsPlaceIn bytes) at (end_in_text built_in_lexemes (Switch ls) bytes h.0 (AtTooManyTokens p) h.1)
lex_in bytes ls (lex.Pragma p) fault h e = let at : p ≡ fault.place = cc in subst (IsPlaceIn bytes) at (end_in_text built_in_lexemes (Switch ls) bytes h.0 (AtPragma p) h.1)
lex_in bytes ls (lex.Memory a) fault h e = let no : ⊥ = cc in absurd no

-- the grammar

abbrev tokens_of : List MarkedToken → List Token
tokens_of ms = map (λ (m : MarkedToken). m.token) ms

drop_among : (k : ℕ) (ms : List MarkedToken) (t : MarkedToken) (more : List MarkedToken) → drop k ms ≡ t ∷ more → IsPlaceOf (tokens_of ms) t.token.place
drop_among zero ms t more e = subst (λ xs. IsPlaceOf (tokens_of xs) t.token.place) (sym e) (inl refl)
drop_among (suc k) [] t more e = let no : ⊥ = cc in absurd no
drop_among (suc k) (m ∷ ms) t more e = inr (drop_among k ms t more e)

stands_among : (all : List MarkedToken) (k : ℕ) (p : Place) → StandsAt all k p → IsPlaceOf (tokens_of all) p
stands_among all k p (t, more, e, at) = subst (IsPlaceOf (tokens_of all)) at (drop_among k all t more e)

record Marked (bytes : List ℕ) (ts : TokenList) : Type 0 where
  tokens : Covers (IsPlaceIn bytes) ts.items
  end : IsPlaceIn bytes ts.end

marked : (bytes : List ℕ) (ls : List Lexeme) (ts : TokenList) → CutsTokens ls bytes (Ok ts) → Marked bytes ts
marked bytes ls ts c = record {
  tokens = λ p k. token_in_text built_in_lexemes (Switch ls) bytes ts.items (Whole ts.end) p c k;
  end = end_in_text built_in_lexemes (Switch ls) bytes ts.items (Whole ts.end) c;
}

parse_in : (bytes : List ℕ) (ts : TokenList) (refusal : ParseFault) (fault : Fault) → Marked bytes ts → ParsesArticle ts (Err refusal) → parse_told refusal ≡ Some fault → IsPlaceIn bytes fault.place
parse_in bytes ts (parse.Unexpected p) fault m (all, marks, (k, lt, longest, stands)) e =
    let at : p ≡ fault.place = cc in
    subst (IsPlaceIn bytes) at (m.tokens p (subst (λ xs. IsPlaceOf xs p) marks.tokens_are (stands_among all k p stands)))
parse_in bytes ts (parse.TooDeep p) fault m (all, marks, (k, deep, stands)) e =
    let at : p ≡ fault.place = cc in
    subst (IsPlaceIn bytes) at (m.tokens p (subst (λ xs. IsPlaceOf xs p) marks.tokens_are (stands_among all k p stands)))
parse_in bytes ts (parse.EndsEarly p) fault m (all, marks, (none, is)) e =
    let at : p ≡ fault.place = cc in
    subst (IsPlaceIn bytes) (sym is ∙ at) m.end
parse_in bytes ts parse.Memory fault m h e = let no : ⊥ = cc in absurd no

tree_tokens : (bytes : List ℕ) (ts : TokenList) (tree : ArticleTree) → Marked bytes ts → ParsesArticle ts (Ok tree) → Covers (IsPlaceIn bytes) (tokens_of (spell_article tree))
tree_tokens bytes ts tree m (all, marks, is) =
    let less : length all - 0 ≡ length all = omega arith in
    let whole : spell_article tree ≡ all = is.spells.1 ∙ ap (λ (k : ℕ). take k all) less ∙ take_all (length all) all (omega arith) in
    λ p k. m.tokens p (subst (λ xs. IsPlaceOf xs p) (ap tokens_of whole ∙ marks.tokens_are) k)

-- what is told of what was found stands in the text
abbrev ToldIn : {X : Type 0} → List ℕ → Result X Fault → Type 0
ToldIn bytes (Ok x) = Unit {0}
ToldIn bytes (Err f) = IsPlaceIn bytes f.place

spelled_in : (bytes : List ℕ) (ts : TokenList) (o : Result ArticleTree Fault) → Marked bytes ts → SpellsTree ts o → ToldIn bytes o
spelled_in bytes ts (Ok tree) m h = tt
spelled_in bytes ts (Err f) m (refusal, h, e) = parse_in bytes ts refusal f m h e

tree_in : (vs : List NamedText) (bytes : List ℕ) (ds : List Directive) (o : Result ArticleTree Fault) → AllDirectives (IsPlaceIn bytes) ds → HasTree vs bytes ds o → ToldIn bytes o
tree_in vs bytes ds _ named (no_lexemes f (refusal, h, e)) = table_in (IsPlaceIn bytes) vs ds refusal f named h e
tree_in vs bytes ds _ named (no_tokens ls f n (refusal, h, e)) = lex_in bytes ls refusal f h e
tree_in vs bytes ds o named (has_tokens ls ts _ n c s) = spelled_in bytes ts o (marked bytes ls ts c) s

-- what is let in

abbrev EnvIn : (Place → Type 0) → EnvFault → Type 0
EnvIn P (env.MissingConstructor p item) = P p
EnvIn P (env.UnknownRequirement p) = P p
EnvIn P (env.NotExported p) = P p
EnvIn P (env.Memory a) = Unit {0}

abbrev OptIn : (Place → Type 0) → Option EnvFault → Type 0
OptIn P None = Unit {0}
OptIn P (Some f) = EnvIn P f

missing_in : (P : Place → Type 0) (p : Place) (o : Option ℕ) → P p → OptIn P (missing_at p o)
missing_in P p None h = tt
missing_in P p (Some n) h = h

exported_in : (P : Place → Type 0) (p : Place) (o : Option Export) → P p → OptIn P (exported p o)
exported_in P p None h = h
exported_in P p (Some e) h = tt

known_in : (P : Place → Type 0) (articles : List Name) (p : Place) (o : Option Export) → P p → OptIn P (constructors_known articles p o)
known_in P articles p None h = h
known_in P articles p (Some e) h = missing_in P p (first_missing articles 0 e.items) h

required_in : (P : Place → Type 0) (p : Place) (b : Bool) → P p → OptIn P (if b then None else Some (env.UnknownRequirement p))
required_in P p true h = tt
required_in P p false h = h

fault_in : (P : Place → Type 0) (exports : List Export) (articles : List Name) (kind : DirectiveKind) (n : Name) (p : Place) → P p → OptIn P (fault_of exports articles kind n p)
fault_in P exports articles Vocabularies n p h = tt
fault_in P exports articles Notations n p h = known_in P articles p (export_named exports n.number) h
fault_in P exports articles Constructors n p h = exported_in P p (export_named exports n.number) h
fault_in P exports articles Registrations n p h = exported_in P p (export_named exports n.number) h
fault_in P exports articles Definitions n p h = exported_in P p (export_named exports n.number) h
fault_in P exports articles Theorems n p h = exported_in P p (export_named exports n.number) h
fault_in P exports articles Schemes n p h = exported_in P p (export_named exports n.number) h
fault_in P exports articles Requirements n p h = required_in P p _ h
fault_in P exports articles Equalities n p h = exported_in P p (export_named exports n.number) h
fault_in P exports articles Expansions n p h = exported_in P p (export_named exports n.number) h

abbrev AllDirected : (Place → Type 0) → List Directed → Type 0
AllDirected P [] = Unit {0}
AllDirected P (d ∷ ds) = P d.place × AllDirected P ds

both_directed : (P : Place → Type 0) (ds es : List Directed) → AllDirected P ds → AllDirected P es → AllDirected P (ds ++ es)
both_directed P [] es h k = k
both_directed P (d ∷ ds) es h k = (h.0, both_directed P ds es h.1 k)

names_directed : (P : Place → Type 0) (kind : DirectiveKind) (ns : List PlacedName) → AllNames P ns → AllDirected P (map (directed kind) ns)
names_directed P kind [] h = tt
names_directed P kind (n ∷ ns) h = (h.0, names_directed P kind ns h.1)

all_directed : (P : Place → Type 0) (ds : List Directive) → AllDirectives P ds → AllDirected P (directed_names ds)
all_directed P [] h = tt
all_directed P (d ∷ ds) h = both_directed P (directive_names d) (directed_names ds) (names_directed P d.kind d.names h.0) (all_directed P ds h.1)

abbrev OutcomeIn : (Place → Type 0) → Result Environment EnvFault → Type 0
OutcomeIn P (Ok e) = Unit {0}
OutcomeIn P (Err f) = EnvIn P f

behind_in : (P : Place → Type 0) (e : Environment) (o : Result Environment EnvFault) → OutcomeIn P o → OutcomeIn P (behind e o)
behind_in P e (Ok d) h = tt
behind_in P e (Err f) h = h

gives_in : {exports : List Export} {articles begun : List Name} {ds : List Directed} {o : Result Environment EnvFault} (P : Place → Type 0) → AllDirected P ds → Gives exports articles begun ds o → OutcomeIn P o
gives_in P h nothing = tt
gives_in {exports} {articles} P h (refused d ds f is) = subst (OptIn P) is (fault_in P exports articles d.kind d.name d.place h.0)
gives_in P h (let_in d ds es is reaches g) = behind_in P _ _ (gives_in P h.1 g)

env_place : (P : Place → Type 0) (refusal : EnvFault) (f : Fault) → EnvIn P refusal → env_told refusal ≡ Some f → P f.place
env_place P (env.MissingConstructor p item) f h e = let at : p ≡ f.place = cc in subst P at h
env_place P (env.UnknownRequirement p) f h e = let at : p ≡ f.place = cc in subst P at h
env_place P (env.NotExported p) f h e = let at : p ≡ f.place = cc in subst P at h
env_place P (env.Memory a) f h e = let no : ⊥ = cc in absurd no

outcome_in : (P : Place → Type 0) (exports : List Export) (ds : List Directive) (o : Result Environment EnvFault) → AllDirectives P ds → LetIn ds exports o → OutcomeIn P o
outcome_in P exports ds o named h = subst (OutcomeIn P) (sym h.with_hidden) (behind_in P _ h.told (gives_in P (all_directed P ds named) h.gives))

environment_in : (P : Place → Type 0) (exports : List Export) (ds : List Directive) (f : Fault) → AllDirectives P ds → LetsIn exports ds (Err f) → P f.place
environment_in P exports ds f named (refusal, h, e) = env_place P refusal f (outcome_in P exports ds (Err refusal) named h) e

-- the whole

head_read_in : (bytes : List ℕ) (f : Fault) → ReadsHead bytes (Err f) → IsPlaceIn bytes f.place
head_read_in bytes f (refusal, h, e) = head_in bytes refusal f h e

all_in : (vs : List NamedText) (exports : List Export) (bytes : List ℕ) (o : Result Front Fault) → IsFront vs exports bytes o → ToldIn bytes o
all_in vs exports bytes _ (no_head f h) = head_read_in bytes f h
all_in vs exports bytes _ (no_tree ds f h t) = tree_in vs bytes ds (Err f) (names_in bytes ds h) t
all_in vs exports bytes _ (no_environment ds tree f h t l) = environment_in (IsPlaceIn bytes) exports ds f (names_in bytes ds h) l
all_in vs exports bytes _ (front x h t l) = tt

pub faults_in_text : PlaceLaw
faults_in_text vs exports bytes f h = all_in vs exports bytes (Err f) h

abbrev TreeIn : List ℕ → Result ArticleTree Fault → Type 0
TreeIn bytes (Ok tree) = Covers (IsPlaceIn bytes) (tokens_of (spell_article tree))
TreeIn bytes (Err f) = Unit {0}

spelled_tokens : (bytes : List ℕ) (ts : TokenList) (o : Result ArticleTree Fault) → Marked bytes ts → SpellsTree ts o → TreeIn bytes o
spelled_tokens bytes ts (Ok tree) m h = tree_tokens bytes ts tree m h
spelled_tokens bytes ts (Err f) m h = tt

tree_found_in : (vs : List NamedText) (bytes : List ℕ) (ds : List Directive) (o : Result ArticleTree Fault) → HasTree vs bytes ds o → TreeIn bytes o
tree_found_in vs bytes ds _ (no_lexemes f h) = tt
tree_found_in vs bytes ds _ (no_tokens ls f n h) = tt
tree_found_in vs bytes ds o (has_tokens ls ts _ n c s) = spelled_tokens bytes ts o (marked bytes ls ts c) s

abbrev FrontIn : List ℕ → Result Front Fault → Type 0
FrontIn bytes (Ok x) = TreeIn bytes (Ok x.tree)
FrontIn bytes (Err f) = Unit {0}

front_tree_in : (vs : List NamedText) (exports : List Export) (bytes : List ℕ) (o : Result Front Fault) → IsFront vs exports bytes o → FrontIn bytes o
front_tree_in vs exports bytes _ (no_head f h) = tt
front_tree_in vs exports bytes _ (no_tree ds f h t) = tt
front_tree_in vs exports bytes _ (no_environment ds tree f h t l) = tt
front_tree_in vs exports bytes _ (front x h t l) = tree_found_in vs bytes x.head (Ok x.tree) t

pub tree_in_text : TreePlaceLaw
tree_in_text vs exports bytes x h = front_tree_in vs exports bytes (Ok x) h
