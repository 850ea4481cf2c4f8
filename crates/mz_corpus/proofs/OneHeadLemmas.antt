-- A text has one environment part at most.
use Rattle.std.proofs.Common.{◌≡◌, ℕ, ◌<◌, ◌≤◌, ◌⊎◌, List, [], ◌∷◌, ◌++◌, Option, Some, None, length, refl, sym, ap, subst, ◌∙◌, arith, inl, inr, append_assoc, append-nil}
use Rattle.mz_base.specs.declared.head.Directive.{Directive}
use Rattle.mz_base.specs.declared.head.DirectiveKind.{DirectiveKind}
use Rattle.mz_base.specs.declared.head.PlacedName.{PlacedName}
use Rattle.mz_base.specs.declared.place.Place.{Place}
use Rattle.mz_base.specs.declared.token.Token.{Token}
use Rattle.mz_base.proofs.NameEqual.{Name-equal}
use Rattle.mz_lex.specs.declared.head_token.HeadToken.{HeadToken}
use Rattle.mz_lex.specs.declared.head_token.HeadToken.TheVariants as head_tokens
use Rattle.mz_lex.specs.declared.head_fault.HeadFault.{HeadFault}
use Rattle.mz_lex.specs.declared.head_fault.HeadFault.TheVariants as head
use Rattle.mz_lex.specs.HeadToken.{head_token_of}
use Rattle.mz_lex.specs.BuiltIn.{built_in_lexemes}
use Rattle.mz_lex.specs.Cut.{End, Stop, Whole, AtBadByte, AtPragma, AtTooManyTokens, IsCut}
use Rattle.mz_lex.specs.Head.{Pattern, AWord, ADirective, AName, Fits, Matches, more_names, names_between, spell_directives, spell_head, EachNamed, SpellsHead, ExpectsDirective, IsUnexpected, IsLater, BreaksOff, HeadTokens, IsHeadOf}
use Rattle.mz_lex.proofs.OneCutLemmas.{only_cut}
use Rattle.mz_corpus.specs.Gather.{IsUnreadable, HasDirectives}

-- names that the same tokens spell

abbrev Semi : List Pattern → List Pattern
Semi ps = AWord head_tokens.Semicolon ∷ ps

record IsSameList (ns ms : List PlacedName) (P Q : List Pattern) (us : List Token) : Type 0 where
  same : ns ≡ ms
  rest : List Token
  first : Matches P rest
  second : Matches Q (rest ++ us)

same_name : (n m : PlacedName) (t : Token) → Fits (AName n) t → Fits (AName m) t → n ≡ m
same_name n m t h k =
    let name = Name-equal n.name m.name (h.1 ∙ sym k.1) in
    let place : n.place ≡ m.place = h.2 ∙ sym k.2 in
    λ i. record { name = name i; place = place i }

two_words : (a b : HeadToken) (t : Token) → head_token_of t ≡ a → head_token_of t ≡ b → a ≡ b
two_words a b t h k = sym h ∙ k

more_same : (ns ms : List PlacedName) (P Q : List Pattern) (ts us : List Token) → Matches (more_names ns ++ Semi P) ts → Matches (more_names ms ++ Semi Q) (ts ++ us) → IsSameList ns ms P Q us
more_same [] [] P Q [] us h k = absurd h
more_same [] [] P Q (t ∷ ts) us h k = record { same = refl; rest = ts; first = h.1; second = k.1 }
more_same [] (m ∷ ms) P Q [] us h k = absurd h
more_same [] (m ∷ ms) P Q (t ∷ ts) us h k = let bad = two_words head_tokens.Semicolon head_tokens.Comma t h.0 k.0 in cc
more_same (n ∷ ns) [] P Q [] us h k = absurd h
more_same (n ∷ ns) [] P Q (t ∷ ts) us h k = let bad = two_words head_tokens.Comma head_tokens.Semicolon t h.0 k.0 in cc
more_same (n ∷ ns) (m ∷ ms) P Q [] us h k = absurd h
more_same (n ∷ ns) (m ∷ ms) P Q (c ∷ []) us h k = absurd h.1
more_same (n ∷ ns) (m ∷ ms) P Q (c ∷ t ∷ ts) us h k =
    let one = same_name n m t h.1.0 k.1.0 in
    let more = more_same ns ms P Q ts us h.1.1 k.1.1 in
    record { same = λ i. one i ∷ more.same i; rest = more.rest; first = more.first; second = more.second }

between_same : (ns ms : List PlacedName) (P Q : List Pattern) (ts us : List Token) → 0 < length ns → 0 < length ms → Matches (names_between ns ++ Semi P) ts → Matches (names_between ms ++ Semi Q) (ts ++ us) → IsSameList ns ms P Q us
between_same [] ms P Q ts us some other h k = absurd (let bad : ⊥ = omega arith in bad)
between_same (n ∷ ns) [] P Q ts us some other h k = absurd (let bad : ⊥ = omega arith in bad)
between_same (n ∷ ns) (m ∷ ms) P Q [] us some other h k = absurd h
between_same (n ∷ ns) (m ∷ ms) P Q (t ∷ ts) us some other h k =
    let one = same_name n m t h.0 k.0 in
    let more = more_same ns ms P Q ts us h.1 k.1 in
    record { same = λ i. one i ∷ more.same i; rest = more.rest; first = more.first; second = more.second }

-- directives that the same tokens spell

abbrev closed : List Directive → List Pattern
closed ds = spell_directives ds ++ AWord head_tokens.Begin ∷ []

names_first : (d : Directive) (ds : List Directive) (R : List Pattern) (ts : List Token) → Matches ((names_between d.names ++ Semi (spell_directives ds)) ++ R) ts → Matches (names_between d.names ++ Semi (spell_directives ds ++ R)) ts
names_first d ds R ts h = subst (λ ps. Matches ps ts) (append_assoc (names_between d.names) (Semi (spell_directives ds)) R) h

abbrev IsSameEnd : List Directive → List Directive → List Token → Type 0
IsSameEnd ds es us = (ds ≡ es) × (us ≡ [])

nothing_more : (us : List Token) → Matches [] us → us ≡ []
nothing_more [] h = refl
nothing_more (u ∷ us) h = absurd h

last_one : (ts us : List Token) → Matches [] ts → Matches [] (ts ++ us) → us ≡ []
last_one [] us h k = nothing_more us k
last_one (t ∷ ts) us h k = absurd h

closed_same : (ds es : List Directive) (ts us : List Token) → EachNamed ds → EachNamed es → Matches (closed ds) ts → Matches (closed es) (ts ++ us) → IsSameEnd ds es us
closed_same [] [] [] us nd ne h k = absurd h
closed_same [] [] (t ∷ ts) us nd ne h k = (refl, last_one ts us h.1 k.1)
closed_same [] (e ∷ es) [] us nd ne h k = absurd h
closed_same [] (e ∷ es) (t ∷ ts) us nd ne h k = let bad = two_words head_tokens.Begin (head_tokens.Directive e.kind) t h.0 k.0.0 in cc
closed_same (d ∷ ds) [] [] us nd ne h k = absurd h
closed_same (d ∷ ds) [] (t ∷ ts) us nd ne h k = let bad = two_words (head_tokens.Directive d.kind) head_tokens.Begin t h.0.0 k.0 in cc
closed_same (d ∷ ds) (e ∷ es) [] us nd ne h k = absurd h
closed_same (d ∷ ds) (e ∷ es) (t ∷ ts) us nd ne h k =
    let kind : d.kind ≡ e.kind = kind_of (two_words (head_tokens.Directive d.kind) (head_tokens.Directive e.kind) t h.0.0 k.0.0) in
    let place : d.place ≡ e.place = h.0.1 ∙ sym k.0.1 in
    let R : List Pattern = AWord head_tokens.Begin ∷ [] in
    let names = between_same d.names e.names (closed ds) (closed es) ts us nd.0 ne.0 (names_first d ds R ts h.1) (names_first e es R (ts ++ us) k.1) in
    let rest = closed_same ds es names.rest us nd.1 ne.1 names.first names.second in
    ((λ i. record { kind = kind i; place = place i; names = names.same i } ∷ rest.0 i), rest.1)
  where
    kind_of : {a b : DirectiveKind} → head_tokens.Directive a ≡ head_tokens.Directive b → a ≡ b
    kind_of e = cc

head_same : (ds es : List Directive) (ts us : List Token) → SpellsHead ds ts → SpellsHead es (ts ++ us) → IsSameEnd ds es us
head_same ds es [] us h k = absurd h.spelled
head_same ds es (t ∷ ts) us h k = closed_same ds es ts us h.named k.named h.spelled.1 k.spelled.1

-- a token behind some whole directives

abbrev MayFollow : Token → Type 0
MayFollow t = (head_token_of t ≡ head_tokens.Begin) ⊎ ((k : DirectiveKind) × (head_token_of t ≡ head_tokens.Directive k))

follows_first : (ds : List Directive) (t : Token) (rest : List Token) → Matches (closed ds) (t ∷ rest) → MayFollow t
follows_first [] t rest h = inl h.0
follows_first (d ∷ ds) t rest h = inr (d.kind, h.0.0)

follows_none : (ds : List Directive) (xs : List Token) (t : Token) (rest : List Token) → Matches [] xs → Matches (closed ds) (xs ++ t ∷ rest) → MayFollow t
follows_none ds [] t rest h k = follows_first ds t rest k
follows_none ds (x ∷ xs) t rest h k = absurd h

follows : (some ds : List Directive) (xs : List Token) (t : Token) (rest : List Token) → EachNamed some → EachNamed ds → Matches (spell_directives some ++ []) xs → Matches (closed ds) (xs ++ t ∷ rest) → MayFollow t
follows [] ds xs t rest ns nd h k = follows_none ds xs t rest h k
follows (s ∷ some) ds [] t rest ns nd h k = absurd h
follows (s ∷ some) [] (x ∷ xs) t rest ns nd h k = let bad = two_words (head_tokens.Directive s.kind) head_tokens.Begin x h.0.0 k.0 in cc
follows (s ∷ some) (d ∷ ds) (x ∷ xs) t rest ns nd h k =
    let R : List Pattern = AWord head_tokens.Begin ∷ [] in
    let names = between_same s.names d.names (spell_directives some ++ []) (closed ds) xs (t ∷ rest) ns.0 nd.0 (names_first s some [] xs h.1) (names_first d ds R (xs ++ t ∷ rest) k.1) in
    follows some ds names.rest t rest ns.1 nd.1 names.first names.second

expects_follow : (ds : List Directive) (before : List Token) (t : Token) (rest : List Token) → ExpectsDirective before → SpellsHead ds (before ++ t ∷ rest) → MayFollow t
expects_follow ds [] t rest h k = absurd h.spelled
expects_follow ds (b ∷ before) t rest h k =
    follows h.some ds before t rest h.named k.named (subst (λ ps. Matches ps before) (sym (append-nil (spell_directives h.some))) h.spelled.1) k.spelled.1

-- a text with an environment part isn't refused

unexpected_no : (ds : List Directive) (ts : List Token) (p : Place) → SpellsHead ds ts → IsUnexpected ts p → ⊥
unexpected_no ds ts p h u = u.breaks (record { some = ds; more = u.behind; spells = subst (λ xs. SpellsHead ds xs) (u.split ∙ sym (append_assoc u.before (u.token ∷ []) u.behind)) h })

early_no : (ds : List Directive) (ts : List Token) → SpellsHead ds ts → BreaksOff ts → ⊥
early_no ds ts h b = let e = (head_same ds b.some ts (b.next ∷ b.more) h b.spells).1 in cc

later_no : (ds : List Directive) (ts : List Token) (p : Place) → SpellsHead ds ts → IsLater ts p → ⊥
later_no ds ts p h l =
    elim (expects_follow ds l.before l.token l.behind l.expects (subst (λ xs. SpellsHead ds xs) l.split h)) [
      | inl e ↦ (let bad = two_words head_tokens.Begin head_tokens.Later l.token e l.later in cc)
      | inr e ↦ (let bad = two_words (head_tokens.Directive e.0) head_tokens.Later l.token e.1 l.later in cc)
    ]

abbrev Cutting : List ℕ → List Token → End → Type 0
Cutting bytes ts e = IsCut built_in_lexemes Stop bytes ts e

ends_same : (bytes : List ℕ) (ts us : List Token) (e f : End) → Cutting bytes ts e → Cutting bytes us f → (ts ≡ us) × (e ≡ f)
ends_same bytes ts us e f h k = only_cut built_in_lexemes Stop bytes ts us e f h k

readable : (bytes : List ℕ) (ds : List Directive) (fault : HeadFault) → IsHeadOf bytes ds → IsUnreadable bytes fault → ⊥
readable bytes ds (head.BadByte p) h k = let e = (ends_same bytes h.tokens k.0 (Whole h.place) (AtBadByte p) h.cut k.1).1 in cc
readable bytes ds (head.TooManyTokens p) h k = let e = (ends_same bytes h.tokens k.0 (Whole h.place) (AtTooManyTokens p) h.cut k.1).1 in cc
readable bytes ds (head.Pragma p) h k = let e = (ends_same bytes h.tokens k.0 (Whole h.place) (AtPragma p) h.cut k.1).1 in cc
readable bytes ds (head.Unexpected p) h k =
    let e = (ends_same bytes h.tokens k.0 (Whole h.place) (Whole k.1) h.cut k.2).0 in
    unexpected_no ds k.0 p (subst (λ ts. SpellsHead ds ts) e h.spells) k.3
readable bytes ds (head.EndsEarly p) h k =
    let e = (ends_same bytes h.tokens k.0 (Whole h.place) (Whole p) h.cut k.1).0 in
    early_no ds k.0 (subst (λ ts. SpellsHead ds ts) e h.spells) k.2
readable bytes ds (head.Profile2 p) h k =
    let e = (ends_same bytes h.tokens k.0 (Whole h.place) (Whole k.1) h.cut k.2).0 in
    later_no ds k.0 p (subst (λ ts. SpellsHead ds ts) e h.spells) k.3
readable bytes ds (head.Memory a) h k = absurd k

-- one environment part

one_head : (bytes : List ℕ) (ds es : List Directive) → IsHeadOf bytes ds → IsHeadOf bytes es → ds ≡ es
one_head bytes ds es h k =
    let e = (ends_same bytes h.tokens k.tokens (Whole h.place) (Whole k.place) h.cut k.cut).0 in
    (head_same ds es h.tokens [] h.spells (subst (λ ts. SpellsHead es ts) (sym e ∙ sym (append-nil h.tokens)) k.spells)).0

pub one_directives : (text : Option (List ℕ)) (ds es : List Directive) → HasDirectives text ds → HasDirectives text es → ds ≡ es
one_directives None ds es h k = h ∙ sym k
one_directives (Some bytes) ds es (inl h) (inl k) = one_head bytes ds es h k
one_directives (Some bytes) ds es (inl h) (inr k) = absurd (readable bytes ds k.0 h k.1)
one_directives (Some bytes) ds es (inr h) (inl k) = absurd (readable bytes es h.0 k h.1)
one_directives (Some bytes) ds es (inr h) (inr k) = h.2 ∙ sym k.2
