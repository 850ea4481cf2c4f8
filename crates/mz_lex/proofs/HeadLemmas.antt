-- A turn of the loop over the tokens of an environment part.
use Rattle.std.proofs.Common.{◌≡◌, ℕ, suc, ◌+◌, ◌<◌, Bool, true, false, ◌&&◌, ◌||◌, cond, List, [], ◌∷◌, ◌++◌, length, get_or, take, drop, Option, Some, None, refl, sym, ap, subst, ◌∙◌, arith, append_assoc, append-nil, length-append, codes}
use Rattle.std.specs.Prelude.{fold, map}
use Rattle.std.specs.Str.{bytes_eq}
use Rattle.std.proofs.lemmas.List.{take_more, take-append-drop}
use Rattle.std.proofs.lemmas.List.Sums.{fold-append}
use Rattle.std.proofs.Math.Seq.{drop-cons}
use Rattle.mz_base.specs.Bytes.{raised}
use Rattle.mz_base.specs.Name.{is_name, number_of, text_of}
use Rattle.mz_base.specs.Place.{start}
use Rattle.mz_base.specs.declared.name.Name.{Name}
use Rattle.mz_base.specs.declared.place.Place.{Place}
use Rattle.mz_base.specs.declared.token.Token.{Token}
use Rattle.mz_base.specs.declared.token.TokenKind.{TokenKind}
use Rattle.mz_base.specs.declared.token.TokenKind.TheVariants.{Reserved, Special, Symbol, Identifier, Numeral}
use Rattle.mz_base.specs.declared.head.DirectiveKind.{DirectiveKind}
use Rattle.mz_base.specs.declared.head.DirectiveKind.TheVariants.{Vocabularies, Notations, Constructors, Registrations, Definitions, Theorems, Schemes, Requirements}
use Rattle.mz_base.specs.declared.head.Directive.{Directive}
use Rattle.mz_base.specs.declared.head.PlacedName.{PlacedName}
use Rattle.mz_lex.specs.declared.head_token.HeadToken.{HeadToken}
use Rattle.mz_lex.specs.declared.head_token.HeadToken.TheVariants as head_tokens
use Rattle.mz_lex.specs.declared.head.State.{State}
use Rattle.mz_lex.specs.declared.head.State.TheVariants.{AtEnviron, AtDirective, AtName, AtSeparator, AtEnd}
use Rattle.mz_lex.specs.declared.lex_fault.LexFault.{LexFault}
use Rattle.mz_lex.specs.declared.lex_fault.LexFault.TheVariants as lex
use Rattle.mz_lex.specs.declared.head_fault.HeadFault.{HeadFault}
use Rattle.mz_lex.specs.declared.head_fault.HeadFault.TheVariants as heads
use Rattle.mz_lex.specs.declared.head_fault.HeadFault.TheVariants.{Unexpected, Profile2}
use Rattle.mz_lex.specs.BuiltIn.{built_in_lexemes}
use Rattle.mz_lex.specs.Cut.{Stop, IsStopped}
use Rattle.mz_lex.specs.HeadFault.{head_fault_of}
use Rattle.mz_lex.specs.HeadToken.{head_token_with, head_token_of}
use Rattle.mz_lex.specs.State.{next_of, is_at_directive, is_later, fault_at, AreRefused}
use Rattle.mz_lex.specs.Head.{Pattern, AWord, ADirective, AName, Fits, Matches, more_names, names_between, spell_directives, spell_head, EachNamed, SpellsHead, BeginsHead, ExpectsDirective, IsUnexpected, BreaksOff, HeadTokens, IsHeadOf, IsHeadRefused}

-- patterns

Matches-append : (ps : List Pattern) (ts : List Token) (qs : List Pattern) (us : List Token) → Matches ps ts → Matches qs us → Matches (ps ++ qs) (ts ++ us)
Matches-append [] [] qs us a b = b
Matches-append [] (t ∷ ts) qs us a b = absurd a
Matches-append (p ∷ ps) [] qs us a b = absurd a
Matches-append (p ∷ ps) (t ∷ ts) qs us a b = (a.0, Matches-append ps ts qs us a.1 b)

spell_directives-append : (ds es : List Directive) → spell_directives (ds ++ es) ≡ spell_directives ds ++ spell_directives es
spell_directives-append [] es = refl
spell_directives-append (d ∷ ds) es =
    let ih = spell_directives-append ds es in
    ap (λ ps. ADirective d.kind d.place ∷ ps) (rw ih (sym (append_assoc (names_between d.names) (AWord head_tokens.Semicolon ∷ spell_directives ds) (spell_directives es))))

EachNamed-more : (ds : List Directive) (d : Directive) → EachNamed ds → 0 < length d.names → EachNamed (ds ++ d ∷ [])
EachNamed-more [] d a b = (b, tt)
EachNamed-more (e ∷ ds) d a b = (a.0, EachNamed-more ds d a.1 b)

-- names, each with a comma behind it
abbrev names_then : List PlacedName → List Pattern
names_then [] = []
names_then (n ∷ ns) = AName n ∷ AWord head_tokens.Comma ∷ names_then ns

more_names-push : (ns : List PlacedName) (n : PlacedName) → more_names (ns ++ n ∷ []) ≡ AWord head_tokens.Comma ∷ names_between (ns ++ n ∷ [])
more_names-push [] n = refl
more_names-push (m ∷ ns) n = refl

names_between-push : (ns : List PlacedName) (n : PlacedName) → names_between (ns ++ n ∷ []) ≡ names_then ns ++ AName n ∷ []
names_between-push [] n = refl
names_between-push (m ∷ ns) n = ap (λ ps. AName m ∷ ps) (more_names-push ns n ∙ ap (λ ps. AWord head_tokens.Comma ∷ ps) (names_between-push ns n))

names_then-comma : (n : PlacedName) (ns : List PlacedName) → names_then (n ∷ ns) ≡ names_between (n ∷ ns) ++ AWord head_tokens.Comma ∷ []
names_then-comma n [] = refl
names_then-comma n (m ∷ ns) = ap (λ ps. AName n ∷ AWord head_tokens.Comma ∷ ps) (names_then-comma m ns)

some_names_then : (ns : List PlacedName) → 0 < length ns → names_then ns ≡ names_between ns ++ AWord head_tokens.Comma ∷ []
some_names_then [] h = absurd (omega arith)
some_names_then (n ∷ ns) h = names_then-comma n ns

-- what is spelled so far
abbrev spelled_by : State → List Directive → DirectiveKind → Place → List PlacedName → List Pattern
spelled_by AtEnviron ds k p ns = []
spelled_by AtDirective ds k p ns = AWord head_tokens.Environ ∷ spell_directives ds
spelled_by AtName ds k p ns = AWord head_tokens.Environ ∷ (spell_directives ds ++ ADirective k p ∷ names_then ns)
spelled_by AtSeparator ds k p ns = AWord head_tokens.Environ ∷ (spell_directives ds ++ ADirective k p ∷ names_between ns)
spelled_by AtEnd ds k p ns = spell_head ds

-- the signs, one after another

abbrev on : Option State → HeadToken → Option State
on None s = None
on (Some e) s = next_of e s

abbrev run : Option State → List HeadToken → Option State
run o ss = fold on o ss

run-None : (ss : List HeadToken) → run None ss ≡ None
run-None [] = refl
run-None (s ∷ ss) = run-None ss

map-append : (ts us : List Token) → map head_token_of (ts ++ us) ≡ map head_token_of ts ++ map head_token_of us
map-append [] us = refl
map-append (t ∷ ts) us = ap (λ ss. head_token_of t ∷ ss) (map-append ts us)

abbrev head_tokens_of : List Token → List HeadToken
head_tokens_of ts = map head_token_of ts

run-tokens : (o : Option State) (ts us : List Token) → run o (head_tokens_of (ts ++ us)) ≡ run (run o (head_tokens_of ts)) (head_tokens_of us)
run-tokens o ts us = ap (run o) (map-append ts us) ∙ fold-append on o (head_tokens_of ts) (head_tokens_of us)

abbrev pattern_token : Pattern → HeadToken
pattern_token (AWord s) = s
pattern_token (ADirective k p) = head_tokens.Directive k
pattern_token (AName n) = head_tokens.Name

abbrev pattern_tokens : List Pattern → List HeadToken
pattern_tokens ps = map pattern_token ps

fits_token : (p : Pattern) (t : Token) → Fits p t → head_token_of t ≡ pattern_token p
fits_token (AWord s) t h = h
fits_token (ADirective k p) t h = h.0
fits_token (AName n) t h = h.0

Matches-tokens : (ps : List Pattern) (ts : List Token) → Matches ps ts → head_tokens_of ts ≡ pattern_tokens ps
Matches-tokens [] [] h = refl
Matches-tokens [] (t ∷ ts) h = absurd h
Matches-tokens (p ∷ ps) [] h = absurd h
Matches-tokens (p ∷ ps) (t ∷ ts) h = λ i. fits_token p t h.0 i ∷ Matches-tokens ps ts h.1 i

pattern_tokens-append : (ps qs : List Pattern) → pattern_tokens (ps ++ qs) ≡ pattern_tokens ps ++ pattern_tokens qs
pattern_tokens-append [] qs = refl
pattern_tokens-append (p ∷ ps) qs = ap (λ ss. pattern_token p ∷ ss) (pattern_tokens-append ps qs)

run-patterns : (o : Option State) (ps qs : List Pattern) → run o (pattern_tokens (ps ++ qs)) ≡ run (run o (pattern_tokens ps)) (pattern_tokens qs)
run-patterns o ps qs = ap (run o) (pattern_tokens-append ps qs) ∙ fold-append on o (pattern_tokens ps) (pattern_tokens qs)

run-more_names : (ns : List PlacedName) → run (Some AtSeparator) (pattern_tokens (more_names ns)) ≡ Some AtSeparator
run-more_names [] = refl
run-more_names (n ∷ ns) = run-more_names ns

run-names : (ns : List PlacedName) → 0 < length ns → run (Some AtName) (pattern_tokens (names_between ns)) ≡ Some AtSeparator
run-names [] h = absurd (omega arith)
run-names (n ∷ ns) h = run-more_names ns

run-directives : (ds : List Directive) → EachNamed ds → run (Some AtDirective) (pattern_tokens (spell_directives ds)) ≡ Some AtDirective
run-directives [] h = refl
run-directives (d ∷ ds) h =
    run-patterns (Some AtName) (names_between d.names) (AWord head_tokens.Semicolon ∷ spell_directives ds) ∙ ap (λ o. run o (pattern_tokens (AWord head_tokens.Semicolon ∷ spell_directives ds))) (run-names d.names h.0) ∙ run-directives ds h.1

run-head : (ds : List Directive) → EachNamed ds → run (Some AtEnviron) (pattern_tokens (spell_head ds)) ≡ Some AtEnd
run-head ds h = run-patterns (Some AtDirective) (spell_directives ds) (AWord head_tokens.Begin ∷ []) ∙ ap (λ o. run o (head_tokens.Begin ∷ [])) (run-directives ds h)

run-spelled : (ds : List Directive) (ts : List Token) → SpellsHead ds ts → run (Some AtEnviron) (head_tokens_of ts) ≡ Some AtEnd
run-spelled ds ts h = ap (run (Some AtEnviron)) (Matches-tokens (spell_head ds) ts h.spelled) ∙ run-head ds h.named

run-expects : (ts : List Token) → ExpectsDirective ts → run (Some AtEnviron) (head_tokens_of ts) ≡ Some AtDirective
run-expects ts h = ap (run (Some AtEnviron)) (Matches-tokens (AWord head_tokens.Environ ∷ spell_directives h.some) ts h.spelled) ∙ run-directives h.some h.named

-- where the signs end, no environment part goes on
no_head : (ts : List Token) → run (Some AtEnviron) (head_tokens_of ts) ≡ None → BeginsHead ts → ⊥
no_head ts e h =
    let whole = run-spelled h.some (ts ++ h.more) h.spells in
    let split = run-tokens (Some AtEnviron) ts h.more in
    let none : run (run (Some AtEnviron) (head_tokens_of ts)) (head_tokens_of h.more) ≡ None = rw e (run-None (head_tokens_of h.more)) in
    cc

-- what the loop keeps
pub record HeadSoFar (ts : List Token) (e : State) (ds : List Directive) (k : DirectiveKind) (p : Place) (ns : List PlacedName) : Type 0 where
  pub matches : Matches (spelled_by e ds k p ns) ts
  pub runs : run (Some AtEnviron) (head_tokens_of ts) ≡ Some e
  pub named : EachNamed ds
  pub some : e ≡ AtSeparator → 0 < length ns
  pub fresh : e ≡ AtEnviron → ds ≡ []

pub head_none : (ds : List Directive) (k : DirectiveKind) (p : Place) (ns : List PlacedName) → ds ≡ [] → HeadSoFar [] AtEnviron ds k p ns
head_none ds k p ns e = record { matches = tt; runs = refl; named = rw e tt; some = λ h. cc; fresh = λ h. e }

-- the ways on

environ_only : (e next : State) → Some next ≡ next_of e head_tokens.Environ → (e ≡ AtEnviron) × (next ≡ AtDirective)
environ_only AtEnviron next h = (refl, cc)
environ_only AtDirective next h = cc
environ_only AtName next h = cc
environ_only AtSeparator next h = cc
environ_only AtEnd next h = cc

begin_only : (e next : State) → Some next ≡ next_of e head_tokens.Begin → (e ≡ AtDirective) × (next ≡ AtEnd)
begin_only AtEnviron next h = cc
begin_only AtDirective next h = (refl, cc)
begin_only AtName next h = cc
begin_only AtSeparator next h = cc
begin_only AtEnd next h = cc

directive_only : (e next : State) (k : DirectiveKind) → Some next ≡ next_of e (head_tokens.Directive k) → (e ≡ AtDirective) × (next ≡ AtName)
directive_only AtEnviron next k h = cc
directive_only AtDirective next k h = (refl, cc)
directive_only AtName next k h = cc
directive_only AtSeparator next k h = cc
directive_only AtEnd next k h = cc

name_only : (e next : State) → Some next ≡ next_of e head_tokens.Name → (e ≡ AtName) × (next ≡ AtSeparator)
name_only AtEnviron next h = cc
name_only AtDirective next h = cc
name_only AtName next h = (refl, cc)
name_only AtSeparator next h = cc
name_only AtEnd next h = cc

comma_only : (e next : State) → Some next ≡ next_of e head_tokens.Comma → (e ≡ AtSeparator) × (next ≡ AtName)
comma_only AtEnviron next h = cc
comma_only AtDirective next h = cc
comma_only AtName next h = cc
comma_only AtSeparator next h = (refl, cc)
comma_only AtEnd next h = cc

semicolon_only : (e next : State) → Some next ≡ next_of e head_tokens.Semicolon → (e ≡ AtSeparator) × (next ≡ AtDirective)
semicolon_only AtEnviron next h = cc
semicolon_only AtDirective next h = cc
semicolon_only AtName next h = cc
semicolon_only AtSeparator next h = (refl, cc)
semicolon_only AtEnd next h = cc

later_never : (e next : State) → Some next ≡ next_of e head_tokens.Later → ⊥
later_never AtEnviron next h = cc
later_never AtDirective next h = cc
later_never AtName next h = cc
later_never AtSeparator next h = cc
later_never AtEnd next h = cc

other_never : (e next : State) → Some next ≡ next_of e head_tokens.Other → ⊥
other_never AtEnviron next h = cc
other_never AtDirective next h = cc
other_never AtName next h = cc
other_never AtSeparator next h = cc
other_never AtEnd next h = cc

runs_on : (ts : List Token) (t : Token) (e next : State) (s : HeadToken) → run (Some AtEnviron) (head_tokens_of ts) ≡ Some e → s ≡ head_token_of t → Some next ≡ next_of e s → run (Some AtEnviron) (head_tokens_of (ts ++ t ∷ [])) ≡ Some next
runs_on ts t e next s runs es h = run-tokens (Some AtEnviron) ts (t ∷ []) ∙ ap (λ o. on o (head_token_of t)) runs ∙ ap (next_of e) (sym es) ∙ sym h

module _ (ts : List Token) (t : Token) (e next : State) (s : HeadToken) (ds : List Directive) (k : DirectiveKind) (p : Place) (ns : List PlacedName) (so : HeadSoFar ts e ds k p ns) (es : s ≡ head_token_of t) (goes : Some next ≡ next_of e s) where
  runs_now : run (Some AtEnviron) (head_tokens_of (ts ++ t ∷ [])) ≡ Some next
  runs_now = runs_on ts t e next s so.runs es goes

  built : (e' : State) (ds' : List Directive) (k' : DirectiveKind) (p' : Place) (ns' : List PlacedName) → next ≡ e' → Matches (spelled_by e' ds' k' p' ns') (ts ++ t ∷ []) → EachNamed ds' → (e' ≡ AtSeparator → 0 < length ns') → (e' ≡ AtEnviron → ds' ≡ []) → HeadSoFar (ts ++ t ∷ []) next ds' k' p' ns'
  built e' ds' k' p' ns' en m named some fresh = record {
    matches = subst (λ z. Matches (spelled_by z ds' k' p' ns') (ts ++ t ∷ [])) (sym en) m;
    runs = runs_now;
    named = named;
    some = λ h. some (sym en ∙ h);
    fresh = λ h. fresh (sym en ∙ h);
  }

  matched : (e' : State) → e ≡ e' → Matches (spelled_by e' ds k p ns) ts
  matched e' h = subst (λ z. Matches (spelled_by z ds k p ns) ts) h so.matches

  one_more : (S S' : List Pattern) (q : Pattern) → S' ≡ S ++ q ∷ [] → Matches S ts → Fits q t → Matches S' (ts ++ t ∷ [])
  one_more S S' q h m fit = subst (λ z. Matches z (ts ++ t ∷ [])) (sym h) (Matches-append S ts (q ∷ []) (t ∷ []) m (fit, tt))

  pub past_environ : s ≡ head_tokens.Environ → HeadSoFar (ts ++ t ∷ []) next ds k p ns
  past_environ is =
      let o = environ_only e next (subst (λ z. Some next ≡ next_of e z) is goes) in
      built AtDirective ds k p ns o.1 (one_more [] (AWord head_tokens.Environ ∷ spell_directives ds) (AWord head_tokens.Environ) (ap (λ z. AWord head_tokens.Environ ∷ spell_directives z) (so.fresh o.0)) (matched AtEnviron o.0) (sym es ∙ is)) so.named (λ h. cc) (λ h. cc)

  pub past_begin : s ≡ head_tokens.Begin → HeadSoFar (ts ++ t ∷ []) next ds k p ns
  past_begin is =
      let o = begin_only e next (subst (λ z. Some next ≡ next_of e z) is goes) in
      built AtEnd ds k p ns o.1 (one_more (AWord head_tokens.Environ ∷ spell_directives ds) (spell_head ds) (AWord head_tokens.Begin) refl (matched AtDirective o.0) (sym es ∙ is)) so.named (λ h. cc) (λ h. cc)

  pub past_directive : (w : DirectiveKind) (q : Place) (ns' : List PlacedName) → s ≡ head_tokens.Directive w → q ≡ t.place → ns' ≡ [] → HeadSoFar (ts ++ t ∷ []) next ds w q ns'
  past_directive w q ns' is eq en =
      let o = directive_only e next w (subst (λ z. Some next ≡ next_of e z) is goes) in
      built AtName ds w q ns' o.1 (one_more (AWord head_tokens.Environ ∷ spell_directives ds) (AWord head_tokens.Environ ∷ (spell_directives ds ++ ADirective w q ∷ names_then ns')) (ADirective w q) (ap (λ z. AWord head_tokens.Environ ∷ (spell_directives ds ++ ADirective w q ∷ names_then z)) en) (matched AtDirective o.0) (sym es ∙ is, eq)) so.named (λ h. cc) (λ h. cc)

  pub past_name : (n : PlacedName) (ns' : List PlacedName) → s ≡ head_tokens.Name → n.name.number ≡ number_of (raised t.spelling) → n.place ≡ t.place → ns' ≡ ns ++ n ∷ [] → HeadSoFar (ts ++ t ∷ []) next ds k p ns'
  past_name n ns' is number place en =
      let o = name_only e next (subst (λ z. Some next ≡ next_of e z) is goes) in
      let D = spell_directives ds in
      let same : AWord head_tokens.Environ ∷ (D ++ ADirective k p ∷ names_between ns') ≡ (AWord head_tokens.Environ ∷ (D ++ ADirective k p ∷ names_then ns)) ++ AName n ∷ [] =
      ap (λ z. AWord head_tokens.Environ ∷ (D ++ ADirective k p ∷ z)) (ap names_between en ∙ names_between-push ns n) ∙ ap (λ z. AWord head_tokens.Environ ∷ z) (sym (append_assoc D (ADirective k p ∷ names_then ns) (AName n ∷ []))) in
      built AtSeparator ds k p ns' o.1 (one_more (AWord head_tokens.Environ ∷ (D ++ ADirective k p ∷ names_then ns)) (AWord head_tokens.Environ ∷ (D ++ ADirective k p ∷ names_between ns')) (AName n) same (matched AtName o.0) (sym es ∙ is, number, place)) so.named (λ h. omega (arith, ap length en, length-append ns (n ∷ []))) (λ h. cc)

  pub past_comma : s ≡ head_tokens.Comma → HeadSoFar (ts ++ t ∷ []) next ds k p ns
  past_comma is =
      let o = comma_only e next (subst (λ z. Some next ≡ next_of e z) is goes) in
      let D = spell_directives ds in
      let same : AWord head_tokens.Environ ∷ (D ++ ADirective k p ∷ names_then ns) ≡ (AWord head_tokens.Environ ∷ (D ++ ADirective k p ∷ names_between ns)) ++ AWord head_tokens.Comma ∷ [] =
      ap (λ z. AWord head_tokens.Environ ∷ (D ++ ADirective k p ∷ z)) (some_names_then ns (so.some o.0)) ∙ ap (λ z. AWord head_tokens.Environ ∷ z) (sym (append_assoc D (ADirective k p ∷ names_between ns) (AWord head_tokens.Comma ∷ []))) in
      built AtName ds k p ns o.1 (one_more (AWord head_tokens.Environ ∷ (D ++ ADirective k p ∷ names_between ns)) (AWord head_tokens.Environ ∷ (D ++ ADirective k p ∷ names_then ns)) (AWord head_tokens.Comma) same (matched AtSeparator o.0) (sym es ∙ is)) so.named (λ h. cc) (λ h. cc)

  pub past_semicolon : (d : Directive) (ds' : List Directive) (ns' : List PlacedName) → s ≡ head_tokens.Semicolon → d ≡ record { kind = k; place = p; names = ns } → ds' ≡ ds ++ d ∷ [] → HeadSoFar (ts ++ t ∷ []) next ds' k p ns'
  past_semicolon d ds' ns' is ed eds =
      let o = semicolon_only e next (subst (λ z. Some next ≡ next_of e z) is goes) in
      let D = spell_directives ds in
      let d0 : Directive = record { kind = k; place = p; names = ns } in
      let all : ds' ≡ ds ++ d0 ∷ [] = eds ∙ ap (λ z. ds ++ z ∷ []) ed in
      let same : AWord head_tokens.Environ ∷ spell_directives ds' ≡ (AWord head_tokens.Environ ∷ (D ++ ADirective k p ∷ names_between ns)) ++ AWord head_tokens.Semicolon ∷ [] =
      ap (λ z. AWord head_tokens.Environ ∷ spell_directives z) all ∙ ap (λ z. AWord head_tokens.Environ ∷ z) (spell_directives-append ds (d0 ∷ []) ∙ sym (append_assoc D (ADirective k p ∷ names_between ns) (AWord head_tokens.Semicolon ∷ []))) in
      built AtDirective ds' k p ns' o.1 (one_more (AWord head_tokens.Environ ∷ (D ++ ADirective k p ∷ names_between ns)) (AWord head_tokens.Environ ∷ spell_directives ds') (AWord head_tokens.Semicolon) same (matched AtSeparator o.0) (sym es ∙ is)) (subst EachNamed (sym all) (EachNamed-more ds d0 so.named (so.some o.0))) (λ h. cc) (λ h. cc)

  pub past_later : s ≡ head_tokens.Later → ⊥
  past_later is = later_never e next (subst (λ z. Some next ≡ next_of e z) is goes)

  pub past_other : s ≡ head_tokens.Other → ⊥
  past_other is = other_never e next (subst (λ z. Some next ≡ next_of e z) is goes)

-- a turn of the loop
pub turned : (all : List Token) (i : ℕ) (t : Token) (e : State) (ds ds' : List Directive) (k k' : DirectiveKind) (p p' : Place) (ns ns' : List PlacedName) → i < length all → t ≡ get_or all i t → HeadSoFar (take i all ++ t ∷ []) e ds k p ns → ds' ≡ ds → k' ≡ k → p' ≡ p → ns' ≡ ns → HeadSoFar (take (i + 1) all) e ds' k' p' ns'
turned all i t e ds ds' k k' p p' ns ns' lt at so a b c d =
    let more : take (i + 1) all ≡ take i all ++ t ∷ [] = take_more all i t lt ∙ ap (λ z. take i all ++ z ∷ []) (sym at) in
    rw (more, a, b, c, d) so

-- tokens and a name to go on with

abbrev a_token : TokenKind → List ℕ → Token
a_token kind spelling = record { kind = kind; place = start; spelling = spelling; priority = 0 }

abbrev environ_token : Token
environ_token = a_token Reserved (codes "environ")

abbrev begin_token : Token
begin_token = a_token Reserved (codes "begin")

abbrev semicolon_token : Token
semicolon_token = a_token Special (codes ";")

abbrev name_token : Token
name_token = a_token Identifier (codes "A")

head_token_of-environ_token : head_token_of environ_token ≡ head_tokens.Environ
unfolding head_token_of
head_token_of-environ_token = refl

head_token_of-begin_token : head_token_of begin_token ≡ head_tokens.Begin
unfolding head_token_of
head_token_of-begin_token = refl

head_token_of-semicolon_token : head_token_of semicolon_token ≡ head_tokens.Semicolon
unfolding head_token_of
head_token_of-semicolon_token = refl

head_token_of-name_token : head_token_of name_token ≡ head_tokens.Name
unfolding head_token_of
head_token_of-name_token = refl

text_of-A : text_of 0x4100_0000_0000_0000 ≡ codes "A"
unfolding text_of
text_of-A = refl

number_of-A : number_of (codes "A") ≡ 0x4100_0000_0000_0000
unfolding number_of
number_of-A = refl

a_name : Name
a_name = record { number = 0x4100_0000_0000_0000; named = rw text_of-A refl; spelled = rw text_of-A number_of-A }

a_name-number : a_name.number ≡ 0x4100_0000_0000_0000
unfolding a_name
a_name-number = refl

placed : PlacedName
placed = record { name = a_name; place = start }

placed_fits : Fits (AName placed) name_token
unfolding placed
placed_fits = (head_token_of-name_token, a_name-number ∙ sym number_of-A, refl)

completed : (S Q : List Pattern) (ts us : List Token) (ds : List Directive) → spell_head ds ≡ S ++ Q → EachNamed ds → Matches S ts → Matches Q us → SpellsHead ds (ts ++ us)
completed S Q ts us ds e named m n = record { named = named; spelled = subst (λ z. Matches z (ts ++ us)) (sym e) (Matches-append S ts Q us m n) }

-- what is read so far goes on to an environment part
goes_on : (ts : List Token) (e : State) (ds : List Directive) (k : DirectiveKind) (p : Place) (ns : List PlacedName) → Matches (spelled_by e ds k p ns) ts → EachNamed ds → (e ≡ AtSeparator → 0 < length ns) → (e ≡ AtEnd → ⊥) → BreaksOff ts
goes_on ts AtEnviron ds k p ns m named some unended =
    record { some = []; next = environ_token; more = begin_token ∷ []; spells = completed [] (AWord head_tokens.Environ ∷ AWord head_tokens.Begin ∷ []) ts (environ_token ∷ begin_token ∷ []) [] refl tt m (head_token_of-environ_token, (head_token_of-begin_token, tt)) }
goes_on ts AtDirective ds k p ns m named some unended =
    record { some = ds; next = begin_token; more = []; spells = completed (AWord head_tokens.Environ ∷ spell_directives ds) (AWord head_tokens.Begin ∷ []) ts (begin_token ∷ []) ds refl named m (head_token_of-begin_token, tt) }
goes_on ts AtName ds k p ns m named some unended =
    let d : Directive = record { kind = k; place = p; names = ns ++ placed ∷ [] } in
    let D = spell_directives ds in
    let e : spell_head (ds ++ d ∷ []) ≡ (AWord head_tokens.Environ ∷ (D ++ ADirective k p ∷ names_then ns)) ++ (AName placed ∷ AWord head_tokens.Semicolon ∷ AWord head_tokens.Begin ∷ []) =
    simp (spell_directives-append, names_between-push, append_assoc) in
    record { some = ds ++ d ∷ []; next = name_token; more = semicolon_token ∷ begin_token ∷ []; spells = completed (AWord head_tokens.Environ ∷ (D ++ ADirective k p ∷ names_then ns)) (AName placed ∷ AWord head_tokens.Semicolon ∷ AWord head_tokens.Begin ∷ []) ts (name_token ∷ semicolon_token ∷ begin_token ∷ []) (ds ++ d ∷ []) e (EachNamed-more ds d named (omega (arith, length-append ns (placed ∷ [])))) m (placed_fits, (head_token_of-semicolon_token, (head_token_of-begin_token, tt))) }
goes_on ts AtSeparator ds k p ns m named some unended =
    let d : Directive = record { kind = k; place = p; names = ns } in
    let D = spell_directives ds in
    let e : spell_head (ds ++ d ∷ []) ≡ (AWord head_tokens.Environ ∷ (D ++ ADirective k p ∷ names_between ns)) ++ (AWord head_tokens.Semicolon ∷ AWord head_tokens.Begin ∷ []) =
    simp (spell_directives-append, append_assoc) in
    record { some = ds ++ d ∷ []; next = semicolon_token; more = begin_token ∷ []; spells = completed (AWord head_tokens.Environ ∷ (D ++ ADirective k p ∷ names_between ns)) (AWord head_tokens.Semicolon ∷ AWord head_tokens.Begin ∷ []) ts (semicolon_token ∷ begin_token ∷ []) (ds ++ d ∷ []) e (EachNamed-more ds d named (some refl)) m (head_token_of-semicolon_token, (head_token_of-begin_token, tt)) }
goes_on ts AtEnd ds k p ns m named some unended = absurd (unended refl)

pub breaks_off : (ts : List Token) (e : State) (ds : List Directive) (k : DirectiveKind) (p : Place) (ns : List PlacedName) → HeadSoFar ts e ds k p ns → (e ≡ AtEnd → ⊥) → BreaksOff ts
breaks_off ts e ds k p ns so unended = goes_on ts e ds k p ns so.matches so.named so.some unended

begins_so_far : (ts : List Token) (e : State) (ds : List Directive) (k : DirectiveKind) (p : Place) (ns : List PlacedName) → HeadSoFar ts e ds k p ns → BeginsHead ts
begins_so_far ts e ds k p ns so = by_end e refl
  where
    still : (e ≡ AtEnd → ⊥) → BeginsHead ts
    still unended = let b = goes_on ts e ds k p ns so.matches so.named so.some unended in record { some = b.some; more = b.next ∷ b.more; spells = b.spells }

    by_end : (f : State) → e ≡ f → BeginsHead ts
    by_end AtEnviron h = still (λ q. let c : AtEnviron ≡ AtEnd = sym h ∙ q in cc)
    by_end AtDirective h = still (λ q. let c : AtDirective ≡ AtEnd = sym h ∙ q in cc)
    by_end AtName h = still (λ q. let c : AtName ≡ AtEnd = sym h ∙ q in cc)
    by_end AtSeparator h = still (λ q. let c : AtSeparator ≡ AtEnd = sym h ∙ q in cc)
    by_end AtEnd h = record { some = ds; more = []; spells = record { named = so.named; spelled = rw append-nil (subst (λ z. Matches (spelled_by z ds k p ns) ts) h so.matches) } }

-- the refusal of a token

at_directive : (e : State) → is_at_directive e ≡ true → e ≡ AtDirective
at_directive AtEnviron h = cc
at_directive AtDirective h = refl
at_directive AtName h = cc
at_directive AtSeparator h = cc
at_directive AtEnd h = cc

later_token : (s : HeadToken) → is_later s ≡ true → s ≡ head_tokens.Later
later_token head_tokens.Environ h = cc
later_token head_tokens.Begin h = cc
later_token (head_tokens.Directive k) h = cc
later_token head_tokens.Later h = refl
later_token head_tokens.Name h = cc
later_token head_tokens.Comma h = cc
later_token head_tokens.Semicolon h = cc
later_token head_tokens.Other h = cc

pub token_refused : (all ts rest : List Token) (t : Token) (e : State) (s : HeadToken) (ds : List Directive) (k : DirectiveKind) (p end : Place) (ns : List PlacedName) → HeadSoFar ts e ds k p ns → all ≡ ts ++ t ∷ rest → s ≡ head_token_of t → None ≡ next_of e s → AreRefused all end (fault_at e s t.place)
token_refused all ts rest t e s ds k p end ns so split es stops = by_tests (is_at_directive e) (is_later s) refl refl
  where
    broken : run (Some AtEnviron) (head_tokens_of (ts ++ t ∷ [])) ≡ None
    broken = run-tokens (Some AtEnviron) ts (t ∷ []) ∙ ap (λ o. on o (head_token_of t)) so.runs ∙ ap (next_of e) (sym es) ∙ sym stops

    unexpected : ((is_at_directive e && is_later s) ≡ true → ⊥) → IsUnexpected all t.place
    unexpected denied = record {
      before = ts;
      token = t;
      behind = rest;
      split = split;
      begins = begins_so_far ts e ds k p ns so;
      breaks = no_head (ts ++ t ∷ []) broken;
      not_later = λ x l.
          let r = run-expects ts x in
          let u = so.runs in
          let here : e ≡ AtDirective = cc in
          let there : s ≡ head_tokens.Later = es ∙ l in
          denied (rw (here, there) refl);
      at = refl;
    }

    by_tests : (a b : Bool) → is_at_directive e ≡ a → is_later s ≡ b → AreRefused all end (cond (a && b) (Profile2 t.place) (Unexpected t.place))
    by_tests true true ea eb = record { before = ts; token = t; behind = rest; split = split; expects = record { some = ds; named = so.named; spelled = subst (λ z. Matches (spelled_by z ds k p ns) ts) (at_directive e ea) so.matches }; later = sym es ∙ later_token s eb; at = refl }
    by_tests true false ea eb = unexpected (λ h. let n : (is_at_directive e && is_later s) ≡ false = rw (ea, eb) refl in cc)
    by_tests false b ea eb = unexpected (λ h. let n : (is_at_directive e && is_later s) ≡ false = rw ea refl in cc)

-- the tokens split at a place
pub split_at_token : (all : List Token) (i : ℕ) (t : Token) → i < length all → t ≡ get_or all i t → all ≡ take i all ++ t ∷ drop (suc i) all
split_at_token all i t lt at =
    sym (take-append-drop i all) ∙ ap (λ z. take i all ++ z) (drop-cons all i t lt ∙ ap (λ z. z ∷ drop (suc i) all) (sym at))

-- a head_token of a name has a name
never : (b : Bool) (x y : HeadToken) → (x ≡ head_tokens.Name → ⊥) → (y ≡ head_tokens.Name → ⊥) → cond b x y ≡ head_tokens.Name → ⊥
never true x y hx hy h = hx h
never false x y hx hy h = hy h

picked : (b : Bool) → cond b head_tokens.Name head_tokens.Other ≡ head_tokens.Name → b ≡ true
picked true h = refl
picked false h = cc

abbrev tail_10 : List ℕ → HeadToken
tail_10 w = cond (bytes_eq w (codes "equalities") || bytes_eq w (codes "expansions")) head_tokens.Later head_tokens.Other

no_tail_10 : (w : List ℕ) → tail_10 w ≡ head_tokens.Name → ⊥
no_tail_10 w h = never (bytes_eq w (codes "equalities") || bytes_eq w (codes "expansions")) head_tokens.Later head_tokens.Other (λ e. cc) (λ e. cc) h

abbrev tail_9 : List ℕ → HeadToken
tail_9 w = cond (bytes_eq w (codes "requirements")) (head_tokens.Directive Requirements) (tail_10 w)

no_tail_9 : (w : List ℕ) → tail_9 w ≡ head_tokens.Name → ⊥
no_tail_9 w h = never (bytes_eq w (codes "requirements")) (head_tokens.Directive Requirements) (tail_10 w) (λ e. cc) (no_tail_10 w) h

abbrev tail_8 : List ℕ → HeadToken
tail_8 w = cond (bytes_eq w (codes "schemes")) (head_tokens.Directive Schemes) (tail_9 w)

no_tail_8 : (w : List ℕ) → tail_8 w ≡ head_tokens.Name → ⊥
no_tail_8 w h = never (bytes_eq w (codes "schemes")) (head_tokens.Directive Schemes) (tail_9 w) (λ e. cc) (no_tail_9 w) h

abbrev tail_7 : List ℕ → HeadToken
tail_7 w = cond (bytes_eq w (codes "theorems")) (head_tokens.Directive Theorems) (tail_8 w)

no_tail_7 : (w : List ℕ) → tail_7 w ≡ head_tokens.Name → ⊥
no_tail_7 w h = never (bytes_eq w (codes "theorems")) (head_tokens.Directive Theorems) (tail_8 w) (λ e. cc) (no_tail_8 w) h

abbrev tail_6 : List ℕ → HeadToken
tail_6 w = cond (bytes_eq w (codes "definitions")) (head_tokens.Directive Definitions) (tail_7 w)

no_tail_6 : (w : List ℕ) → tail_6 w ≡ head_tokens.Name → ⊥
no_tail_6 w h = never (bytes_eq w (codes "definitions")) (head_tokens.Directive Definitions) (tail_7 w) (λ e. cc) (no_tail_7 w) h

abbrev tail_5 : List ℕ → HeadToken
tail_5 w = cond (bytes_eq w (codes "registrations")) (head_tokens.Directive Registrations) (tail_6 w)

no_tail_5 : (w : List ℕ) → tail_5 w ≡ head_tokens.Name → ⊥
no_tail_5 w h = never (bytes_eq w (codes "registrations")) (head_tokens.Directive Registrations) (tail_6 w) (λ e. cc) (no_tail_6 w) h

abbrev tail_4 : List ℕ → HeadToken
tail_4 w = cond (bytes_eq w (codes "constructors")) (head_tokens.Directive Constructors) (tail_5 w)

no_tail_4 : (w : List ℕ) → tail_4 w ≡ head_tokens.Name → ⊥
no_tail_4 w h = never (bytes_eq w (codes "constructors")) (head_tokens.Directive Constructors) (tail_5 w) (λ e. cc) (no_tail_5 w) h

abbrev tail_3 : List ℕ → HeadToken
tail_3 w = cond (bytes_eq w (codes "notations")) (head_tokens.Directive Notations) (tail_4 w)

no_tail_3 : (w : List ℕ) → tail_3 w ≡ head_tokens.Name → ⊥
no_tail_3 w h = never (bytes_eq w (codes "notations")) (head_tokens.Directive Notations) (tail_4 w) (λ e. cc) (no_tail_4 w) h

abbrev tail_2 : List ℕ → HeadToken
tail_2 w = cond (bytes_eq w (codes "vocabularies")) (head_tokens.Directive Vocabularies) (tail_3 w)

no_tail_2 : (w : List ℕ) → tail_2 w ≡ head_tokens.Name → ⊥
no_tail_2 w h = never (bytes_eq w (codes "vocabularies")) (head_tokens.Directive Vocabularies) (tail_3 w) (λ e. cc) (no_tail_3 w) h

abbrev tail_1 : List ℕ → HeadToken
tail_1 w = cond (bytes_eq w (codes "begin")) head_tokens.Begin (tail_2 w)

no_tail_1 : (w : List ℕ) → tail_1 w ≡ head_tokens.Name → ⊥
no_tail_1 w h = never (bytes_eq w (codes "begin")) head_tokens.Begin (tail_2 w) (λ e. cc) (no_tail_2 w) h

abbrev tail_0 : List ℕ → HeadToken
tail_0 w = cond (bytes_eq w (codes "environ")) head_tokens.Environ (tail_1 w)

no_tail_0 : (w : List ℕ) → tail_0 w ≡ head_tokens.Name → ⊥
no_tail_0 w h = never (bytes_eq w (codes "environ")) head_tokens.Environ (tail_1 w) (λ e. cc) (no_tail_1 w) h

named_with : (k : TokenKind) (w : List ℕ) → head_token_with k w ≡ head_tokens.Name → is_name w ≡ true
named_with Reserved w h = absurd (no_tail_0 w h)
named_with Special w h = absurd (never (bytes_eq w (codes ",")) head_tokens.Comma (cond (bytes_eq w (codes ";")) head_tokens.Semicolon head_tokens.Other) (λ e. cc) (never (bytes_eq w (codes ";")) head_tokens.Semicolon head_tokens.Other (λ e. cc) (λ e. cc)) h)
named_with (Symbol k) w h = cc
named_with Identifier w h = picked (is_name w) h
named_with Numeral w h = cc

pub name_read : (t : Token) → head_token_of t ≡ head_tokens.Name → is_name t.spelling ≡ true
unfolding head_token_of
name_read t h = named_with t.kind t.spelling h

pub stopped_head : (bytes : List ℕ) (f : LexFault) → IsStopped built_in_lexemes Stop bytes f → IsHeadRefused bytes (head_fault_of f)
stopped_head bytes (lex.BadByte p) h = h
stopped_head bytes (lex.TooManyTokens p) h = h
stopped_head bytes (lex.Pragma p) h = h
stopped_head bytes (lex.Memory a) h = tt

pub head_told : (bytes : List ℕ) (ts : List Token) (p : Place) (ds : List Directive) → HeadTokens bytes ts p → SpellsHead ds ts → IsHeadOf bytes ds
head_told bytes ts p ds cut spells = record { tokens = ts; place = p; cut = cut; spells = spells }

pub head_refused : (bytes : List ℕ) (ts : List Token) (p : Place) (f : HeadFault) → HeadTokens bytes ts p → AreRefused ts p f → IsHeadRefused bytes f
head_refused bytes ts p (heads.BadByte q) cut h = absurd h
head_refused bytes ts p (heads.TooManyTokens q) cut h = absurd h
head_refused bytes ts p (heads.Pragma q) cut h = absurd h
head_refused bytes ts p (heads.Unexpected q) cut h = (ts, p, cut, h)
head_refused bytes ts p (heads.EndsEarly q) cut h = (ts, rw h.1 cut, h.0)
head_refused bytes ts p (heads.Profile2 q) cut h = (ts, p, cut, h)
head_refused bytes ts p (heads.Memory a) cut h = tt
