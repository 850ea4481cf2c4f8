-- A text is one thing at most before its items are read.
use Rattle.std.proofs.Common.{◌≡◌, ℕ, List, [], ◌∷◌, refl, sym, ap, subst, ◌∙◌, Option, Some, None}
use Rattle.std.specs.Prelude.{Result, Ok, Err}
use Rattle.mz_base.specs.NamedText.{NamedText}
use Rattle.mz_base.specs.TokenList.{TokenList}
use Rattle.mz_base.specs.declared.head.Directive.{Directive}
use Rattle.mz_base.specs.declared.rule_code.RuleCode.TheVariants as code
use Rattle.mz_base.specs.declared.token.Token.{Token}
use Rattle.mz_core.specs.declared.outcome.Export.{Export}
use Rattle.mz_core.specs.declared.fault.Fault.{Fault}
use Rattle.mz_environment.specs.declared.environment.Environment.{Environment}
use Rattle.mz_env.specs.LetIn.{LetIn}
use Rattle.mz_env.specs.declared.env_fault.EnvFault.{EnvFault}
use Rattle.mz_env.proofs.OneOutcome.{one_outcome_law}
use Rattle.mz_lex.specs.BuiltIn.{built_in_lexemes}
use Rattle.mz_lex.specs.Cut.{End, Whole, AtBadByte, AtPragma, AtTooManyTokens, Switch, IsCut, IsStopped}
use Rattle.mz_lex.specs.declared.lex_fault.LexFault.{LexFault}
use Rattle.mz_lex.specs.declared.lex_fault.LexFault.TheVariants as lex
use Rattle.mz_lex.specs.declared.lexeme.Lexeme.{Lexeme}
use Rattle.mz_lex.proofs.OneCutLemmas.{only_cut}
use Rattle.mz_pterm.specs.declared.parse.ParseFault.{ParseFault}
use Rattle.mz_pterm.specs.declared.parse.ParseFault.TheVariants as parse
use Rattle.mz_parse_laws.specs.Article.{ParsesArticle}
use Rattle.mz_parse_laws.proofs.OneParse.{one_parse}
use Rattle.mz_tree_item.specs.declared.article.ArticleTree.{ArticleTree}
use Rattle.mz_first.specs.Faults.{plain, lex_told}
use Rattle.mz_first.proofs.OneHeadLemmas.{one_head, no_refusal, one_refusal}
use Rattle.mz_front.specs.Told.{parse_told, env_told}
use Rattle.mz_front.specs.Front.{ReadsHead, NamesLexemes, CutsTokens, SpellsTree, LetsIn, HasTree, no_lexemes, no_tokens, has_tokens, IsFront, no_head, no_tree, no_environment, front}
use Rattle.mz_front.specs.Laws.{OneFrontLaw}
use Rattle.mz_front.specs.declared.front.Front.{Front}
use Rattle.mz_front.proofs.TableLemmas.{one_value, one_table}

-- the environment part

one_head_read : (bytes : List ℕ) (o p : Result (List Directive) Fault) → ReadsHead bytes o → ReadsHead bytes p → o ≡ p
one_head_read bytes (Ok ds) (Ok es) h k = ap Ok (one_head bytes ds es h k)
one_head_read bytes (Ok ds) (Err f) h (refusal, k, e) = absurd (no_refusal bytes ds refusal f h k e)
one_head_read bytes (Err f) (Ok ds) (refusal, h, e) k = absurd (no_refusal bytes ds refusal f k h e)
one_head_read bytes (Err f) (Err g) (a, h, e) (b, k, d) = ap Err (one_refusal bytes a b f g h e k d)

-- the tokens

abbrev end_told : List Token → End → Result TokenList Fault
end_told ts (Whole p) = Ok (record { items = ts; end = p })
end_told ts (AtBadByte p) = Err (plain p code.BadByte)
end_told ts (AtPragma p) = Err (plain p code.Pragma)
end_told ts (AtTooManyTokens p) = Err (plain p code.TooManyTokens)

record ByCut (ls : List Lexeme) (bytes : List ℕ) (o : Result TokenList Fault) : Type 0 where
  tokens : List Token
  end : End
  cut : IsCut built_in_lexemes (Switch ls) bytes tokens end
  is : end_told tokens end ≡ o

told_fault : (f g : Fault) → Some f ≡ Some g → f ≡ g
told_fault f g e = one_value (Some f) f g refl e

stopped_so : (ls : List Lexeme) (bytes : List ℕ) (refusal : LexFault) (f : Fault) → IsStopped built_in_lexemes (Switch ls) bytes refusal → lex_told refusal ≡ Some f → ByCut ls bytes (Err f)
stopped_so ls bytes (lex.BadByte p) f h e = record { tokens = h.0; end = AtBadByte p; cut = h.1; is = ap Err (told_fault _ f e) }
stopped_so ls bytes (lex.Pragma p) f h e = record { tokens = h.0; end = AtPragma p; cut = h.1; is = ap Err (told_fault _ f e) }
stopped_so ls bytes (lex.TooManyTokens p) f h e = record { tokens = h.0; end = AtTooManyTokens p; cut = h.1; is = ap Err (told_fault _ f e) }
stopped_so ls bytes (lex.Memory a) f h e = absurd (untold e)
  where
    untold : None ≡ Some f → ⊥
    untold e = cc

by_cut : (ls : List Lexeme) (bytes : List ℕ) (o : Result TokenList Fault) → CutsTokens ls bytes o → ByCut ls bytes o
by_cut ls bytes (Ok ts) h = record { tokens = ts.items; end = Whole ts.end; cut = h; is = refl }
by_cut ls bytes (Err f) (refusal, h, e) = stopped_so ls bytes refusal f h e

one_cut : (ls : List Lexeme) (bytes : List ℕ) (o p : Result TokenList Fault) → CutsTokens ls bytes o → CutsTokens ls bytes p → o ≡ p
one_cut ls bytes o p h k =
    let a = by_cut ls bytes o h in
    let b = by_cut ls bytes p k in
    let c = only_cut built_in_lexemes (Switch ls) bytes a.tokens b.tokens a.end b.end a.cut b.cut in
    sym a.is ∙ (λ i. end_told (c.0 i) (c.1 i)) ∙ b.is

-- the tree

abbrev IsSame : Result ArticleTree ParseFault → Result ArticleTree ParseFault → Type 0
IsSame a b = a ≡ b

not_memory : (refusal : ParseFault) (f : Fault) → parse_told refusal ≡ Some f → IsSame (Err refusal) (Err parse.Memory) → ⊥
not_memory refusal f e m =
    let is : refusal ≡ parse.Memory = cc in
    none (sym (ap parse_told is) ∙ e)
  where
    none : None ≡ Some f → ⊥
    none e = cc

no_memory : (tree : ArticleTree) → IsSame (Ok tree) (Err parse.Memory) → ⊥
no_memory tree e = cc

-- how what is parsed is told
abbrev tree_told : Result ArticleTree ParseFault → Result ArticleTree (Option Fault)
tree_told (Ok tree) = Ok tree
tree_told (Err refusal) = Err (parse_told refusal)

abbrev some_told : Result ArticleTree (Option Fault) → Fault → Result ArticleTree Fault
some_told (Ok tree) f = Ok tree
some_told (Err None) f = Err f
some_told (Err (Some g)) f = Err g

record ByParse (ts : TokenList) (o : Result ArticleTree Fault) : Type 0 where
  parsed : Result ArticleTree ParseFault
  parses : ParsesArticle ts parsed
  memory : IsSame parsed (Err parse.Memory) → ⊥
  is : (f : Fault) → some_told (tree_told parsed) f ≡ o

by_parse : (ts : TokenList) (o : Result ArticleTree Fault) → SpellsTree ts o → ByParse ts o
by_parse ts (Ok tree) h = record { parsed = Ok tree; parses = h; memory = no_memory tree; is = λ f. refl }
by_parse ts (Err f) (refusal, h, e) = record { parsed = Err refusal; parses = h; memory = not_memory refusal f e; is = λ g. ap (λ o. some_told (Err o) g) e }

one_tree : (ts : TokenList) (o p : Result ArticleTree Fault) → SpellsTree ts o → SpellsTree ts p → o ≡ p
one_tree ts o p h k =
    let a = by_parse ts o h in
    let b = by_parse ts p k in
    let f = plain ts.end code.EndsEarly in
    sym (a.is f) ∙ ap (λ x. some_told (tree_told x) f) (one_parse ts a.parsed b.parsed a.parses b.parses a.memory b.memory) ∙ b.is f

-- what is let in

abbrev IsLetIn : Result Environment EnvFault → Result Environment EnvFault → Type 0
IsLetIn a b = a ≡ b

ok_let_in : (d e : Environment) → IsLetIn (Ok d) (Ok e) → d ≡ e
ok_let_in d e p = cc

err_let_in : (f g : EnvFault) → IsLetIn (Err f) (Err g) → f ≡ g
err_let_in f g p = cc

ok_or_err : (e : Environment) (f : EnvFault) → IsLetIn (Ok e) (Err f) → ⊥
ok_or_err e f p = cc

one_let_in : (exports : List Export) (ds : List Directive) (o p : Result Environment Fault) → LetsIn exports ds o → LetsIn exports ds p → o ≡ p
one_let_in exports ds (Ok d) (Ok e) h k = ap Ok (ok_let_in d e (one_outcome_law ds exports (Ok d) (Ok e) h k))
one_let_in exports ds (Ok d) (Err f) h (refusal, k, e) = absurd (ok_or_err d refusal (one_outcome_law ds exports (Ok d) (Err refusal) h k))
one_let_in exports ds (Err f) (Ok d) (refusal, h, e) k = absurd (ok_or_err d refusal (one_outcome_law ds exports (Ok d) (Err refusal) k h))
one_let_in exports ds (Err f) (Err g) (a, h, e) (b, k, d) =
    ap Err (one_value (env_told b) f g (sym (ap env_told (err_let_in a b (one_outcome_law ds exports (Err a) (Err b) h k))) ∙ e) d)

-- the tree of a text with its environment part

abbrev IsNamed : Result (List Lexeme) Fault → Result (List Lexeme) Fault → Type 0
IsNamed a b = a ≡ b

abbrev IsCutSo : Result TokenList Fault → Result TokenList Fault → Type 0
IsCutSo a b = a ≡ b

named_same : (a b : List Lexeme) → IsNamed (Ok a) (Ok b) → a ≡ b
named_same a b e = cc

named_faults : (f g : Fault) → IsNamed (Err f) (Err g) → f ≡ g
named_faults f g e = cc

named_or_not : (a : List Lexeme) (f : Fault) → IsNamed (Ok a) (Err f) → ⊥
named_or_not a f e = cc

cut_same : (a b : TokenList) → IsCutSo (Ok a) (Ok b) → a ≡ b
cut_same a b e = cc

cut_faults : (f g : Fault) → IsCutSo (Err f) (Err g) → f ≡ g
cut_faults f g e = cc

cut_or_not : (a : TokenList) (f : Fault) → IsCutSo (Ok a) (Err f) → ⊥
cut_or_not a f e = cc

one_has_tree : (vs : List NamedText) (bytes : List ℕ) (ds : List Directive) (o p : Result ArticleTree Fault) → HasTree vs bytes ds o → HasTree vs bytes ds p → o ≡ p
one_has_tree vs bytes ds o p (no_lexemes f h) (no_lexemes g k) = ap Err (named_faults f g (one_table vs ds (Err f) (Err g) h k))
one_has_tree vs bytes ds o p (no_lexemes f h) (no_tokens ls g k c) = absurd (named_or_not ls f (one_table vs ds (Ok ls) (Err f) k h))
one_has_tree vs bytes ds o p (no_lexemes f h) (has_tokens ls ts q k c t) = absurd (named_or_not ls f (one_table vs ds (Ok ls) (Err f) k h))
one_has_tree vs bytes ds o p (no_tokens ls f h c) (no_lexemes g k) = absurd (named_or_not ls g (one_table vs ds (Ok ls) (Err g) h k))
one_has_tree vs bytes ds o p (no_tokens ls f h c) (no_tokens ms g k d) =
    ap Err (cut_faults f g (one_cut ms bytes (Err f) (Err g) (subst (λ (x : List Lexeme). CutsTokens x bytes (Err f)) (named_same ls ms (one_table vs ds (Ok ls) (Ok ms) h k)) c) d))
one_has_tree vs bytes ds o p (no_tokens ls f h c) (has_tokens ms us q k d t) =
    absurd (cut_or_not us f (one_cut ms bytes (Ok us) (Err f) d (subst (λ (x : List Lexeme). CutsTokens x bytes (Err f)) (named_same ls ms (one_table vs ds (Ok ls) (Ok ms) h k)) c)))
one_has_tree vs bytes ds o p (has_tokens ls ts _ h c t) (no_lexemes g k) = absurd (named_or_not ls g (one_table vs ds (Ok ls) (Err g) h k))
one_has_tree vs bytes ds o p (has_tokens ls ts _ h c t) (no_tokens ms g k d) =
    absurd (cut_or_not ts g (one_cut ms bytes (Ok ts) (Err g) (subst (λ (x : List Lexeme). CutsTokens x bytes (Ok ts)) (named_same ls ms (one_table vs ds (Ok ls) (Ok ms) h k)) c) d))
one_has_tree vs bytes ds o p (has_tokens ls ts _ h c t) (has_tokens ms us _ k d u) =
    let same = cut_same ts us (one_cut ms bytes (Ok ts) (Ok us) (subst (λ (x : List Lexeme). CutsTokens x bytes (Ok ts)) (named_same ls ms (one_table vs ds (Ok ls) (Ok ms) h k)) c) d) in
    one_tree us o p (subst (λ (x : TokenList). SpellsTree x o) same t) u

-- the whole

abbrev IsHead : Result (List Directive) Fault → Result (List Directive) Fault → Type 0
IsHead a b = a ≡ b

head_same : (a b : List Directive) → IsHead (Ok a) (Ok b) → a ≡ b
head_same a b e = cc

head_faults : (f g : Fault) → IsHead (Err f) (Err g) → f ≡ g
head_faults f g e = cc

head_or_not : (a : List Directive) (f : Fault) → IsHead (Ok a) (Err f) → ⊥
head_or_not a f e = cc

-- what stands behind an environment part
abbrev Behind : Type 0
Behind = Result (ArticleTree × Environment) Fault

data HasBehind (vs : List NamedText) (exports : List Export) (bytes : List ℕ) (ds : List Directive) : Behind → Type 0 where
  without_tree : (f : Fault) → HasTree vs bytes ds (Err f) → HasBehind vs exports bytes ds (Err f)
  without_environment : (tree : ArticleTree) (f : Fault) → HasTree vs bytes ds (Ok tree) → LetsIn exports ds (Err f) → HasBehind vs exports bytes ds (Err f)
  both : (tree : ArticleTree) (e : Environment) → HasTree vs bytes ds (Ok tree) → LetsIn exports ds (Ok e) → HasBehind vs exports bytes ds (Ok (tree, e))

abbrev IsTree : Result ArticleTree Fault → Result ArticleTree Fault → Type 0
IsTree a b = a ≡ b

tree_same : (a b : ArticleTree) → IsTree (Ok a) (Ok b) → a ≡ b
tree_same a b e = cc

tree_faults : (f g : Fault) → IsTree (Err f) (Err g) → f ≡ g
tree_faults f g e = cc

tree_or_not : (a : ArticleTree) (f : Fault) → IsTree (Ok a) (Err f) → ⊥
tree_or_not a f e = cc

abbrev IsIn : Result Environment Fault → Result Environment Fault → Type 0
IsIn a b = a ≡ b

in_same : (a b : Environment) → IsIn (Ok a) (Ok b) → a ≡ b
in_same a b e = cc

in_faults : (f g : Fault) → IsIn (Err f) (Err g) → f ≡ g
in_faults f g e = cc

in_or_not : (a : Environment) (f : Fault) → IsIn (Ok a) (Err f) → ⊥
in_or_not a f e = cc

one_behind : (vs : List NamedText) (exports : List Export) (bytes : List ℕ) (ds : List Directive) (o p : Behind) → HasBehind vs exports bytes ds o → HasBehind vs exports bytes ds p → o ≡ p
one_behind vs exports bytes ds o p (without_tree f h) (without_tree g k) = ap Err (tree_faults f g (one_has_tree vs bytes ds (Err f) (Err g) h k))
one_behind vs exports bytes ds o p (without_tree f h) (without_environment tree g k l) = absurd (tree_or_not tree f (one_has_tree vs bytes ds (Ok tree) (Err f) k h))
one_behind vs exports bytes ds o p (without_tree f h) (both tree e k l) = absurd (tree_or_not tree f (one_has_tree vs bytes ds (Ok tree) (Err f) k h))
one_behind vs exports bytes ds o p (without_environment tree f h l) (without_tree g k) = absurd (tree_or_not tree g (one_has_tree vs bytes ds (Ok tree) (Err g) h k))
one_behind vs exports bytes ds o p (without_environment tree f h l) (without_environment other g k m) = ap Err (in_faults f g (one_let_in exports ds (Err f) (Err g) l m))
one_behind vs exports bytes ds o p (without_environment tree f h l) (both other e k m) = absurd (in_or_not e f (one_let_in exports ds (Ok e) (Err f) m l))
one_behind vs exports bytes ds o p (both tree e h l) (without_tree g k) = absurd (tree_or_not tree g (one_has_tree vs bytes ds (Ok tree) (Err g) h k))
one_behind vs exports bytes ds o p (both tree e h l) (without_environment other g k m) = absurd (in_or_not e g (one_let_in exports ds (Ok e) (Err g) l m))
one_behind vs exports bytes ds o p (both tree e h l) (both other d k m) =
    let t : tree ≡ other = tree_same tree other (one_has_tree vs bytes ds (Ok tree) (Ok other) h k) in
    let s : e ≡ d = in_same e d (one_let_in exports ds (Ok e) (Ok d) l m) in
    λ i. Ok (t i, s i)

-- the whole by its environment part
abbrev whole : Result (List Directive) Fault → Behind → Result Front Fault
whole (Err f) b = Err f
whole (Ok ds) (Err f) = Err f
whole (Ok ds) (Ok (tree, e)) = Ok (record { head = ds; tree = tree; environment = e })

data HasAll (vs : List NamedText) (exports : List Export) (bytes : List ℕ) : Result Front Fault → Type 0 where
  without_head : (f : Fault) → ReadsHead bytes (Err f) → HasAll vs exports bytes (Err f)
  with_head : (ds : List Directive) (b : Behind) → ReadsHead bytes (Ok ds) → HasBehind vs exports bytes ds b → HasAll vs exports bytes (whole (Ok ds) b)

has_all : (vs : List NamedText) (exports : List Export) (bytes : List ℕ) (o : Result Front Fault) → IsFront vs exports bytes o → HasAll vs exports bytes o
has_all vs exports bytes _ (no_head f h) = without_head f h
has_all vs exports bytes _ (no_tree ds f h t) = with_head ds (Err f) h (without_tree f t)
has_all vs exports bytes _ (no_environment ds tree f h t l) = with_head ds (Err f) h (without_environment tree f t l)
has_all vs exports bytes _ (front x h t l) = with_head x.head (Ok (x.tree, x.environment)) h (both x.tree x.environment t l)

one_all : (vs : List NamedText) (exports : List Export) (bytes : List ℕ) (o p : Result Front Fault) → HasAll vs exports bytes o → HasAll vs exports bytes p → o ≡ p
one_all vs exports bytes o p (without_head f h) (without_head g k) = ap Err (head_faults f g (one_head_read bytes (Err f) (Err g) h k))
one_all vs exports bytes o p (without_head f h) (with_head ds b k s) = absurd (head_or_not ds f (one_head_read bytes (Ok ds) (Err f) k h))
one_all vs exports bytes o p (with_head ds b h s) (without_head g k) = absurd (head_or_not ds g (one_head_read bytes (Ok ds) (Err g) h k))
one_all vs exports bytes o p (with_head ds b h s) (with_head es c k t) =
    let heads : ds ≡ es = head_same ds es (one_head_read bytes (Ok ds) (Ok es) h k) in
    let same : b ≡ c = one_behind vs exports bytes es b c (subst (λ (x : List Directive). HasBehind vs exports bytes x b) heads s) t in
    λ i. whole (Ok (heads i)) (same i)

pub one_front : OneFrontLaw
one_front vs exports bytes o p h k = one_all vs exports bytes o p (has_all vs exports bytes o h) (has_all vs exports bytes p k)
