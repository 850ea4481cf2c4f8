-- The environment part of a text is read in one way.
use Rattle.std.proofs.Common.{◌≡◌, ℕ, ◌<◌, ◌⊎◌, List, [], ◌∷◌, ◌++◌, Option, Some, None, length, refl, sym, ap, subst, ◌∙◌, arith, inl, inr, append_assoc, append-nil, codes}
use Rattle.mz_base.specs.Place.{start}
use Rattle.mz_base.specs.declared.rule_code.RuleCode.TheVariants as code
use Rattle.mz_base.specs.declared.head.Directive.{Directive}
use Rattle.mz_base.specs.declared.head.DirectiveKind.{DirectiveKind}
use Rattle.mz_base.specs.declared.head.PlacedName.{PlacedName}
use Rattle.mz_base.specs.declared.place.Place.{Place}
use Rattle.mz_base.specs.declared.token.Token.{Token}
use Rattle.mz_base.specs.declared.token.TokenKind.TheVariants.{Reserved}
use Rattle.mz_base.proofs.NameEqual.{Name-equal}
use Rattle.mz_core.specs.declared.fault.Fault.{Fault}
use Rattle.mz_lex.specs.declared.head_token.HeadToken.{HeadToken}
use Rattle.mz_lex.specs.declared.head_token.HeadToken.TheVariants as head_tokens
use Rattle.mz_lex.specs.declared.head_fault.HeadFault.{HeadFault}
use Rattle.mz_lex.specs.declared.head_fault.HeadFault.TheVariants as head
use Rattle.mz_lex.specs.HeadToken.{head_token_of}
use Rattle.mz_lex.specs.BuiltIn.{built_in_lexemes}
use Rattle.mz_lex.specs.Cut.{End, Stop, Whole, AtBadByte, AtPragma, AtTooManyTokens, IsCut}
use Rattle.mz_lex.specs.Head.{Pattern, AWord, AName, Fits, Matches, more_names, names_between, spell_directives, EachNamed, SpellsHead, BeginsHead, ExpectsDirective, IsUnexpected, IsLater, BreaksOff, IsHeadOf, IsHeadRefused}
use Rattle.mz_lex.proofs.OneCutLemmas.{only_cut}
use Rattle.mz_first.specs.Faults.{plain, head_told}

-- names that the same tokens spell

abbrev Semi : List Pattern → List Pattern
Semi ps = AWord head_tokens.Semicolon ∷ ps

record IsSameList (ns ms : List PlacedName) (P Q : List Pattern) (us : List Token) : Type 0 where
  same : ns ≡ ms
  rest : List Token
  first : Matches P rest
  second : Matches Q (rest ++ us)

same_name : (n m : PlacedName) (t : Token) → Fits (AName n) t → Fits (AName m) t → n ≡ m
same_name n m t h k =
    let name = Name-equal n.name m.name (h.1 ∙ sym k.1) in
    let place : n.place ≡ m.place = h.2 ∙ sym k.2 in
    λ i. record { name = name i; place = place i }

two_words : (a b : HeadToken) (t : Token) → head_token_of t ≡ a → head_token_of t ≡ b → a ≡ b
two_words a b t h k = sym h ∙ k

more_same : (ns ms : List PlacedName) (P Q : List Pattern) (ts us : List Token) → Matches (more_names ns ++ Semi P) ts → Matches (more_names ms ++ Semi Q) (ts ++ us) → IsSameList ns ms P Q us
more_same [] [] P Q [] us h k = absurd h
more_same [] [] P Q (t ∷ ts) us h k = record { same = refl; rest = ts; first = h.1; second = k.1 }
more_same [] (m ∷ ms) P Q [] us h k = absurd h
more_same [] (m ∷ ms) P Q (t ∷ ts) us h k = let bad = two_words head_tokens.Semicolon head_tokens.Comma t h.0 k.0 in cc
more_same (n ∷ ns) [] P Q [] us h k = absurd h
more_same (n ∷ ns) [] P Q (t ∷ ts) us h k = let bad = two_words head_tokens.Comma head_tokens.Semicolon t h.0 k.0 in cc
more_same (n ∷ ns) (m ∷ ms) P Q [] us h k = absurd h
more_same (n ∷ ns) (m ∷ ms) P Q (c ∷ []) us h k = absurd h.1
more_same (n ∷ ns) (m ∷ ms) P Q (c ∷ t ∷ ts) us h k =
    let one = same_name n m t h.1.0 k.1.0 in
    let more = more_same ns ms P Q ts us h.1.1 k.1.1 in
    record { same = λ i. one i ∷ more.same i; rest = more.rest; first = more.first; second = more.second }

between_same : (ns ms : List PlacedName) (P Q : List Pattern) (ts us : List Token) → 0 < length ns → 0 < length ms → Matches (names_between ns ++ Semi P) ts → Matches (names_between ms ++ Semi Q) (ts ++ us) → IsSameList ns ms P Q us
between_same [] ms P Q ts us some other h k = absurd (let bad : ⊥ = omega arith in bad)
between_same (n ∷ ns) [] P Q ts us some other h k = absurd (let bad : ⊥ = omega arith in bad)
between_same (n ∷ ns) (m ∷ ms) P Q [] us some other h k = absurd h
between_same (n ∷ ns) (m ∷ ms) P Q (t ∷ ts) us some other h k =
    let one = same_name n m t h.0 k.0 in
    let more = more_same ns ms P Q ts us h.1 k.1 in
    record { same = λ i. one i ∷ more.same i; rest = more.rest; first = more.first; second = more.second }

-- directives that the same tokens spell

abbrev closed : List Directive → List Pattern
closed ds = spell_directives ds ++ AWord head_tokens.Begin ∷ []

names_first : (d : Directive) (ds : List Directive) (R : List Pattern) (ts : List Token) → Matches ((names_between d.names ++ Semi (spell_directives ds)) ++ R) ts → Matches (names_between d.names ++ Semi (spell_directives ds ++ R)) ts
names_first d ds R ts h = subst (λ ps. Matches ps ts) (append_assoc (names_between d.names) (Semi (spell_directives ds)) R) h

abbrev IsSameEnd : List Directive → List Directive → List Token → Type 0
IsSameEnd ds es us = (ds ≡ es) × (us ≡ [])

nothing_more : (us : List Token) → Matches [] us → us ≡ []
nothing_more [] h = refl
nothing_more (u ∷ us) h = absurd h

last_one : (ts us : List Token) → Matches [] ts → Matches [] (ts ++ us) → us ≡ []
last_one [] us h k = nothing_more us k
last_one (t ∷ ts) us h k = absurd h

closed_same : (ds es : List Directive) (ts us : List Token) → EachNamed ds → EachNamed es → Matches (closed ds) ts → Matches (closed es) (ts ++ us) → IsSameEnd ds es us
closed_same [] [] [] us nd ne h k = absurd h
closed_same [] [] (t ∷ ts) us nd ne h k = (refl, last_one ts us h.1 k.1)
closed_same [] (e ∷ es) [] us nd ne h k = absurd h
closed_same [] (e ∷ es) (t ∷ ts) us nd ne h k = let bad = two_words head_tokens.Begin (head_tokens.Directive e.kind) t h.0 k.0.0 in cc
closed_same (d ∷ ds) [] [] us nd ne h k = absurd h
closed_same (d ∷ ds) [] (t ∷ ts) us nd ne h k = let bad = two_words (head_tokens.Directive d.kind) head_tokens.Begin t h.0.0 k.0 in cc
closed_same (d ∷ ds) (e ∷ es) [] us nd ne h k = absurd h
closed_same (d ∷ ds) (e ∷ es) (t ∷ ts) us nd ne h k =
    let kind : d.kind ≡ e.kind = kind_of (two_words (head_tokens.Directive d.kind) (head_tokens.Directive e.kind) t h.0.0 k.0.0) in
    let place : d.place ≡ e.place = h.0.1 ∙ sym k.0.1 in
    let R : List Pattern = AWord head_tokens.Begin ∷ [] in
    let names = between_same d.names e.names (closed ds) (closed es) ts us nd.0 ne.0 (names_first d ds R ts h.1) (names_first e es R (ts ++ us) k.1) in
    let rest = closed_same ds es names.rest us nd.1 ne.1 names.first names.second in
    ((λ i. record { kind = kind i; place = place i; names = names.same i } ∷ rest.0 i), rest.1)
  where
    kind_of : {a b : DirectiveKind} → head_tokens.Directive a ≡ head_tokens.Directive b → a ≡ b
    kind_of e = cc

head_same : (ds es : List Directive) (ts us : List Token) → SpellsHead ds ts → SpellsHead es (ts ++ us) → IsSameEnd ds es us
head_same ds es [] us h k = absurd h.spelled
head_same ds es (t ∷ ts) us h k = closed_same ds es ts us h.named k.named h.spelled.1 k.spelled.1

-- a token behind some whole directives

abbrev MayFollow : Token → Type 0
MayFollow t = (head_token_of t ≡ head_tokens.Begin) ⊎ ((k : DirectiveKind) × (head_token_of t ≡ head_tokens.Directive k))

follows_first : (ds : List Directive) (t : Token) (rest : List Token) → Matches (closed ds) (t ∷ rest) → MayFollow t
follows_first [] t rest h = inl h.0
follows_first (d ∷ ds) t rest h = inr (d.kind, h.0.0)

follows_none : (ds : List Directive) (xs : List Token) (t : Token) (rest : List Token) → Matches [] xs → Matches (closed ds) (xs ++ t ∷ rest) → MayFollow t
follows_none ds [] t rest h k = follows_first ds t rest k
follows_none ds (x ∷ xs) t rest h k = absurd h

follows : (some ds : List Directive) (xs : List Token) (t : Token) (rest : List Token) → EachNamed some → EachNamed ds → Matches (spell_directives some ++ []) xs → Matches (closed ds) (xs ++ t ∷ rest) → MayFollow t
follows [] ds xs t rest ns nd h k = follows_none ds xs t rest h k
follows (s ∷ some) ds [] t rest ns nd h k = absurd h
follows (s ∷ some) [] (x ∷ xs) t rest ns nd h k = let bad = two_words (head_tokens.Directive s.kind) head_tokens.Begin x h.0.0 k.0 in cc
follows (s ∷ some) (d ∷ ds) (x ∷ xs) t rest ns nd h k =
    let R : List Pattern = AWord head_tokens.Begin ∷ [] in
    let names = between_same s.names d.names (spell_directives some ++ []) (closed ds) xs (t ∷ rest) ns.0 nd.0 (names_first s some [] xs h.1) (names_first d ds R (xs ++ t ∷ rest) k.1) in
    follows some ds names.rest t rest ns.1 nd.1 names.first names.second

expects_follow : (ds : List Directive) (before : List Token) (t : Token) (rest : List Token) → ExpectsDirective before → SpellsHead ds (before ++ t ∷ rest) → MayFollow t
expects_follow ds [] t rest h k = absurd h.spelled
expects_follow ds (b ∷ before) t rest h k =
    follows h.some ds before t rest h.named k.named (subst (λ ps. Matches ps before) (sym (append-nil (spell_directives h.some))) h.spelled.1) k.spelled.1

-- the tokens up to one begin an environment part, and with it they don't

record Breaks (ts before : List Token) (t : Token) (behind : List Token) : Type 0 where
  split : ts ≡ before ++ t ∷ behind
  begins : BeginsHead before
  breaks : BeginsHead (before ++ t ∷ []) → ⊥

shorter : (a b : List Token) → BeginsHead (a ++ b) → BeginsHead a
shorter a b h = record { some = h.some; more = b ++ h.more; spells = subst (λ xs. SpellsHead h.some xs) (append_assoc a b h.more) h.spells }

-- two tokens of one list: the same one, or one of them stands before the other
data Meets (a : List Token) (t : Token) (b : List Token) (u : Token) : Type 0 where
  same : a ≡ b → t ≡ u → Meets a t b u
  first : (r : List Token) → b ≡ (a ++ t ∷ []) ++ r → Meets a t b u
  second : (r : List Token) → a ≡ (b ++ u ∷ []) ++ r → Meets a t b u

meets : (a : List Token) (t : Token) (r b : List Token) (u : Token) (s : List Token) → a ++ t ∷ r ≡ b ++ u ∷ s → Meets a t b u
meets [] t r [] u s e = same refl (cc)
meets [] t r (y ∷ b) u s e = let is : t ≡ y = cc in first b (λ i. sym is i ∷ b)
meets (x ∷ a) t r [] u s e = let is : x ≡ u = cc in second a (λ i. is i ∷ a)
meets (x ∷ a) t r (y ∷ b) u s e =
    let is : x ≡ y = cc in
    let others : a ++ t ∷ r ≡ b ++ u ∷ s = cc in
    further (meets a t r b u s others) is
  where
    further : Meets a t b u → x ≡ y → Meets (x ∷ a) t (y ∷ b) u
    further (same p q) is = same (λ i. is i ∷ p i) q
    further (first m p) is = first m (λ i. sym is i ∷ p i)
    further (second m p) is = second m (λ i. is i ∷ p i)

one_break : (ts a : List Token) (t : Token) (r b : List Token) (u : Token) (s : List Token) → Breaks ts a t r → Breaks ts b u s → (a ≡ b) × (t ≡ u)
one_break ts a t r b u s h k =
    elim (meets a t r b u s (sym h.split ∙ k.split)) [
      | same p q ↦ (p, q)
      | first m p ↦ absurd (h.breaks (shorter (a ++ t ∷ []) m (subst BeginsHead p k.begins)))
      | second m p ↦ absurd (k.breaks (shorter (b ++ u ∷ []) m (subst BeginsHead p h.begins)))
    ]

of_unexpected : (ts : List Token) (p : Place) (u : IsUnexpected ts p) → Breaks ts u.before u.token u.behind
of_unexpected ts p u = record { split = u.split; begins = u.begins; breaks = u.breaks }

begin_token : Token
begin_token = record { kind = Reserved; place = start; spelling = codes "begin"; priority = 0 }

is_begin : head_token_of begin_token ≡ head_tokens.Begin
unfolding head_token_of begin_token
is_begin = refl

Matches-append : (ps : List Pattern) (ts : List Token) (qs : List Pattern) (us : List Token) → Matches ps ts → Matches qs us → Matches (ps ++ qs) (ts ++ us)
Matches-append [] [] qs us a b = b
Matches-append [] (t ∷ ts) qs us a b = absurd a
Matches-append (p ∷ ps) [] qs us a b = absurd a
Matches-append (p ∷ ps) (t ∷ ts) qs us a b = (a.0, Matches-append ps ts qs us a.1 b)

expects_begins : (ts : List Token) → ExpectsDirective ts → BeginsHead ts
expects_begins ts h = record {
  some = h.some;
  more = begin_token ∷ [];
  spells = record { named = h.named; spelled = Matches-append (AWord head_tokens.Environ ∷ spell_directives h.some) ts (AWord head_tokens.Begin ∷ []) (begin_token ∷ []) h.spelled (is_begin, tt) };
}

later_breaks : (before : List Token) (t : Token) → ExpectsDirective before → head_token_of t ≡ head_tokens.Later → BeginsHead (before ++ t ∷ []) → ⊥
later_breaks before t expects later b =
    elim (expects_follow b.some before t b.more expects (subst (λ xs. SpellsHead b.some xs) (append_assoc before (t ∷ []) b.more) b.spells)) [
      | inl e ↦ (let bad = two_words head_tokens.Begin head_tokens.Later t e later in cc)
      | inr e ↦ (let bad = two_words (head_tokens.Directive e.0) head_tokens.Later t e.1 later in cc)
    ]

of_later : (ts : List Token) (p : Place) (l : IsLater ts p) → Breaks ts l.before l.token l.behind
of_later ts p l = record { split = l.split; begins = expects_begins l.before l.expects; breaks = later_breaks l.before l.token l.expects l.later }

-- an environment part isn't refused

unbroken : (ds : List Directive) (ts before : List Token) (t : Token) (behind : List Token) → SpellsHead ds ts → Breaks ts before t behind → ⊥
unbroken ds ts before t behind h b = b.breaks (record { some = ds; more = behind; spells = subst (λ xs. SpellsHead ds xs) (b.split ∙ sym (append_assoc before (t ∷ []) behind)) h })

early_no : (ds : List Directive) (ts : List Token) → SpellsHead ds ts → BreaksOff ts → ⊥
early_no ds ts h b = let e = (head_same ds b.some ts (b.next ∷ b.more) h b.spells).1 in cc

-- what breaks at a token doesn't break off
early_broken : (ts before : List Token) (t : Token) (behind : List Token) → BreaksOff ts → Breaks ts before t behind → ⊥
early_broken ts before t behind o b =
    b.breaks (shorter (before ++ t ∷ []) behind (subst BeginsHead (b.split ∙ sym (append_assoc before (t ∷ []) behind)) (record { some = o.some; more = o.next ∷ o.more; spells = o.spells })))

one_unexpected : (ts : List Token) (p q : Place) → IsUnexpected ts p → IsUnexpected ts q → p ≡ q
one_unexpected ts p q h k =
    let e = one_break ts h.before h.token h.behind k.before k.token k.behind (of_unexpected ts p h) (of_unexpected ts q k) in
    h.at ∙ ap (λ (t : Token). t.place) e.1 ∙ sym k.at

one_later : (ts : List Token) (p q : Place) → IsLater ts p → IsLater ts q → p ≡ q
one_later ts p q h k =
    let e = one_break ts h.before h.token h.behind k.before k.token k.behind (of_later ts p h) (of_later ts q k) in
    h.at ∙ ap (λ (t : Token). t.place) e.1 ∙ sym k.at

not_later : (ts : List Token) (p q : Place) → IsUnexpected ts p → IsLater ts q → ⊥
not_later ts p q h k =
    let e = one_break ts h.before h.token h.behind k.before k.token k.behind (of_unexpected ts p h) (of_later ts q k) in
    h.not_later (subst ExpectsDirective (sym e.0) k.expects) (ap head_token_of e.1 ∙ k.later)

-- a reading of the tokens of an environment part: its directives, or its refusal
data Reading : Type 0 where
  Reads : List Directive → Reading
  Unexpects : Place → Reading
  Breaks_off : Reading
  Later : Place → Reading

abbrev IsReading : List Token → Reading → Type 0
IsReading ts (Reads ds) = SpellsHead ds ts
IsReading ts (Unexpects p) = IsUnexpected ts p
IsReading ts Breaks_off = BreaksOff ts
IsReading ts (Later p) = IsLater ts p

one_reading : (ts : List Token) (r s : Reading) → IsReading ts r → IsReading ts s → r ≡ s
one_reading ts (Reads ds) (Reads es) h k = ap (λ x. Reads x) (head_same ds es ts [] h (subst (λ xs. SpellsHead es xs) (sym (append-nil ts)) k)).0
one_reading ts (Reads ds) (Unexpects q) h k = absurd (unbroken ds ts k.before k.token k.behind h (of_unexpected ts q k))
one_reading ts (Reads ds) Breaks_off h k = absurd (early_no ds ts h k)
one_reading ts (Reads ds) (Later q) h k = absurd (unbroken ds ts k.before k.token k.behind h (of_later ts q k))
one_reading ts (Unexpects p) (Reads es) h k = absurd (unbroken es ts h.before h.token h.behind k (of_unexpected ts p h))
one_reading ts (Unexpects p) (Unexpects q) h k = ap (λ x. Unexpects x) (one_unexpected ts p q h k)
one_reading ts (Unexpects p) Breaks_off h k = absurd (early_broken ts h.before h.token h.behind k (of_unexpected ts p h))
one_reading ts (Unexpects p) (Later q) h k = absurd (not_later ts p q h k)
one_reading ts Breaks_off (Reads es) h k = absurd (early_no es ts k h)
one_reading ts Breaks_off (Unexpects q) h k = absurd (early_broken ts k.before k.token k.behind h (of_unexpected ts q k))
one_reading ts Breaks_off Breaks_off h k = refl
one_reading ts Breaks_off (Later q) h k = absurd (early_broken ts k.before k.token k.behind h (of_later ts q k))
one_reading ts (Later p) (Reads es) h k = absurd (unbroken es ts h.before h.token h.behind k (of_later ts p h))
one_reading ts (Later p) (Unexpects q) h k = absurd (not_later ts q p k h)
one_reading ts (Later p) Breaks_off h k = absurd (early_broken ts h.before h.token h.behind k (of_later ts p h))
one_reading ts (Later p) (Later q) h k = ap (λ x. Later x) (one_later ts p q h k)

-- what is told of a cut and a reading of what it covers
abbrev fault_from : End → Reading → Option Fault
fault_from (AtBadByte p) r = Some (plain p code.BadByte)
fault_from (AtPragma p) r = Some (plain p code.Pragma)
fault_from (AtTooManyTokens p) r = Some (plain p code.TooManyTokens)
fault_from (Whole q) (Reads ds) = None
fault_from (Whole q) (Unexpects p) = Some (plain p code.UnexpectedToken)
fault_from (Whole q) Breaks_off = Some (plain q code.EndsEarly)
fault_from (Whole q) (Later p) = Some (plain p code.DirectiveOfProfile2)

-- the tokens are read where the cut is whole
abbrev IsReadBehind : List Token → End → Reading → Type 0
IsReadBehind ts (Whole q) r = IsReading ts r
IsReadBehind ts (AtBadByte p) r = r ≡ Breaks_off
IsReadBehind ts (AtPragma p) r = r ≡ Breaks_off
IsReadBehind ts (AtTooManyTokens p) r = r ≡ Breaks_off

record Way (bytes : List ℕ) (e : End) (r : Reading) : Type 0 where
  tokens : List Token
  cut : IsCut built_in_lexemes Stop bytes tokens e
  reads : IsReadBehind tokens e r

one_behind : (ts : List Token) (e : End) (r s : Reading) → IsReadBehind ts e r → IsReadBehind ts e s → r ≡ s
one_behind ts (Whole q) r s h k = one_reading ts r s h k
one_behind ts (AtBadByte p) r s h k = h ∙ sym k
one_behind ts (AtPragma p) r s h k = h ∙ sym k
one_behind ts (AtTooManyTokens p) r s h k = h ∙ sym k

one_way : (bytes : List ℕ) (e f : End) (r s : Reading) → Way bytes e r → Way bytes f s → (e ≡ f) × (r ≡ s)
one_way bytes e f r s h k =
    let c = only_cut built_in_lexemes Stop bytes h.tokens k.tokens e f h.cut k.cut in
    let there : IsReadBehind h.tokens e s = subst (λ ts. IsReadBehind ts e s) (sym c.0) (subst (λ x. IsReadBehind k.tokens x s) (sym c.1) k.reads) in
    (c.1, one_behind h.tokens e r s h.reads there)

way_of_head : (bytes : List ℕ) (ds : List Directive) (h : IsHeadOf bytes ds) → Way bytes (Whole h.place) (Reads ds)
way_of_head bytes ds h = record { tokens = h.tokens; cut = h.cut; reads = h.spells }

record IsToldWay (bytes : List ℕ) (fault : Fault) : Type 0 where
  end : End
  reading : Reading
  way : Way bytes end reading
  told : fault_from end reading ≡ Some fault

told_way : (bytes : List ℕ) (refusal : HeadFault) (fault : Fault) → IsHeadRefused bytes refusal → head_told refusal ≡ Some fault → IsToldWay bytes fault
told_way bytes (head.BadByte p) fault h e = record { end = AtBadByte p; reading = Breaks_off; way = record { tokens = h.0; cut = h.1; reads = refl }; told = e }
told_way bytes (head.TooManyTokens p) fault h e = record { end = AtTooManyTokens p; reading = Breaks_off; way = record { tokens = h.0; cut = h.1; reads = refl }; told = e }
told_way bytes (head.Pragma p) fault h e = record { end = AtPragma p; reading = Breaks_off; way = record { tokens = h.0; cut = h.1; reads = refl }; told = e }
told_way bytes (head.Unexpected p) fault h e = record { end = Whole h.1; reading = Unexpects p; way = record { tokens = h.0; cut = h.2; reads = h.3 }; told = e }
told_way bytes (head.EndsEarly p) fault h e = record { end = Whole p; reading = Breaks_off; way = record { tokens = h.0; cut = h.1; reads = h.2 }; told = e }
told_way bytes (head.Profile2 p) fault h e = record { end = Whole h.1; reading = Later p; way = record { tokens = h.0; cut = h.2; reads = h.3 }; told = e }
told_way bytes (head.Memory a) fault h e = absurd (untold e)
  where
    untold : None ≡ Some fault → ⊥
    untold e = cc

-- one environment part
pub one_head : (bytes : List ℕ) (ds es : List Directive) → IsHeadOf bytes ds → IsHeadOf bytes es → ds ≡ es
one_head bytes ds es h k = reads_same (one_way bytes (Whole h.place) (Whole k.place) (Reads ds) (Reads es) (way_of_head bytes ds h) (way_of_head bytes es k)).1
  where
    reads_same : Reads ds ≡ Reads es → ds ≡ es
    reads_same e = cc

-- a text with an environment part isn't refused
pub no_refusal : (bytes : List ℕ) (ds : List Directive) (refusal : HeadFault) (fault : Fault) → IsHeadOf bytes ds → IsHeadRefused bytes refusal → head_told refusal ≡ Some fault → ⊥
no_refusal bytes ds refusal fault h k told =
    let w = told_way bytes refusal fault k told in
    let e = one_way bytes (Whole h.place) w.end (Reads ds) w.reading (way_of_head bytes ds h) w.way in
    none (subst (λ r. fault_from (Whole h.place) r ≡ Some fault) (sym e.1) (subst (λ x. fault_from x w.reading ≡ Some fault) (sym e.0) w.told))
  where
    none : None ≡ Some fault → ⊥
    none e = cc

-- one refusal of it is told
pub one_refusal : (bytes : List ℕ) (a b : HeadFault) (fault other : Fault) → IsHeadRefused bytes a → head_told a ≡ Some fault → IsHeadRefused bytes b → head_told b ≡ Some other → fault ≡ other
one_refusal bytes a b fault other h told k also =
    let v = told_way bytes a fault h told in
    let w = told_way bytes b other k also in
    let e = one_way bytes v.end w.end v.reading w.reading v.way w.way in
    some_same (sym v.told ∙ (λ i. fault_from (e.0 i) (e.1 i)) ∙ w.told)
  where
    some_same : Some fault ≡ Some other → fault ≡ other
    some_same e = cc
