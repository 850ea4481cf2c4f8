-- From what each stage answers to what the text is.
use Rattle.std.proofs.Common.{◌≡◌, ℕ, List, Option, Some, None, refl, sym, subst, ap, ◌∙◌}
use Rattle.std.specs.Prelude.{Result, Ok, Err, IfOk, IfErr}
use Rattle.mz_base.specs.NamedText.{NamedText}
use Rattle.mz_base.specs.TokenList.{TokenList}
use Rattle.mz_base.specs.declared.head.Directive.{Directive}
use Rattle.mz_core.specs.declared.outcome.Export.{Export}
use Rattle.mz_core.specs.declared.fault.Fault.{Fault}
use Rattle.mz_environment.specs.declared.environment.Environment.{Environment}
use Rattle.mz_lex.specs.BuiltIn.{built_in_lexemes}
use Rattle.mz_lex.specs.Cut.{Switch, IsStopped}
use Rattle.mz_lex.specs.Head.{IsHeadRefused}
use Rattle.mz_lex.specs.Table.{IsTableFault}
use Rattle.mz_lex.specs.declared.head_fault.HeadFault.{HeadFault}
use Rattle.mz_lex.specs.declared.lex_fault.LexFault.{LexFault}
use Rattle.mz_lex.specs.declared.lexeme.Lexeme.{Lexeme}
use Rattle.mz_lex.specs.declared.table_fault.TableFault.{TableFault}
use Rattle.mz_pterm.specs.declared.parse.ParseFault.{ParseFault}
use Rattle.mz_parse_laws.specs.Article.{ParsesArticle}
use Rattle.mz_tree_item.specs.declared.article.ArticleTree.{ArticleTree}
use Rattle.mz_env.specs.LetIn.{LetIn, Answers}
use Rattle.mz_env.specs.declared.env_fault.EnvFault.{EnvFault}
use Rattle.mz_env.specs.declared.env_fault.EnvFault.TheVariants as env
use Rattle.mz_first.specs.Faults.{head_told, lex_told}
use Rattle.mz_front.specs.Told.{table_told, parse_told, env_told}
use Rattle.mz_front.specs.Front.{ReadsHead, NamesLexemes, CutsTokens, SpellsTree, LetsIn, HasTree, no_lexemes, no_tokens, has_tokens, IsFront, no_head, no_tree, no_environment, front, OnTold, answered}
use Rattle.mz_front.specs.declared.front.Front.{Front}
use Rattle.mz_front.specs.declared.front_fault.FrontFault.{FrontFault}
use Rattle.mz_front.specs.declared.front_fault.FrontFault.TheVariants.{Refused, Memory}

-- what is told is a fact of the answer
told_so : {X : Type 0} (P : Result X Fault → Type 0) (told : Option Fault) → ((f : Fault) → told ≡ Some f → P (Err f)) → OnTold (Err (answered told)) P
told_so P (Some f) h = h f refl
told_so P None h = tt

answer : {X : Type 0} (P : Result X Fault → Type 0) (told : Option Fault) (e : FrontFault) → e ≡ answered told → ((f : Fault) → told ≡ Some f → P (Err f)) → OnTold (Err e) P
answer P told e is h = subst (λ x. OnTold (Err x) P) (sym is) (told_so P told h)

pub head_answered : (bytes : List ℕ) (refusal : HeadFault) (told : Option Fault) (e : FrontFault) → IsHeadRefused bytes refusal → told ≡ head_told refusal → e ≡ answered told → OnTold (Err e) (ReadsHead bytes)
head_answered bytes refusal told e h is at = answer (ReadsHead bytes) told e at (λ f some. (refusal, h, sym is ∙ some))

pub table_answered : (vs : List NamedText) (ds : List Directive) (refusal : TableFault) (told : Option Fault) (e : FrontFault) → IsTableFault vs ds refusal → told ≡ table_told refusal → e ≡ answered told → OnTold (Err e) (NamesLexemes vs ds)
table_answered vs ds refusal told e h is at = answer (NamesLexemes vs ds) told e at (λ f some. (refusal, h, sym is ∙ some))

pub tokens_answered : (ls : List Lexeme) (bytes : List ℕ) (refusal : LexFault) (told : Option Fault) (e : FrontFault) → IsStopped built_in_lexemes (Switch ls) bytes refusal → told ≡ lex_told refusal → e ≡ answered told → OnTold (Err e) (CutsTokens ls bytes)
tokens_answered ls bytes refusal told e h is at = answer (CutsTokens ls bytes) told e at (λ f some. (refusal, h, sym is ∙ some))

pub tree_answered : (ts : TokenList) (refusal : ParseFault) (told : Option Fault) (e : FrontFault) → ParsesArticle ts (Err refusal) → told ≡ parse_told refusal → e ≡ answered told → OnTold (Err e) (SpellsTree ts)
tree_answered ts refusal told e h is at = answer (SpellsTree ts) told e at (λ f some. (refusal, h, sym is ∙ some))

env_refused : (exports : List Export) (ds : List Directive) (refusal : EnvFault) (f : Fault) → Answers ds exports (Err refusal) → env_told refusal ≡ Some f → LetIn ds exports (Err refusal)
env_refused exports ds (env.MissingConstructor p n) f h e = h
env_refused exports ds (env.UnknownRequirement p) f h e = h
env_refused exports ds (env.NotExported p) f h e = h
env_refused exports ds (env.Memory m) f h e = absurd (untold e)
  where
    untold : None ≡ Some f → ⊥
    untold e = cc

pub environment_answered : (exports : List Export) (ds : List Directive) (refusal : EnvFault) (told : Option Fault) (e : FrontFault) → Answers ds exports (Err refusal) → told ≡ env_told refusal → e ≡ answered told → OnTold (Err e) (LetsIn exports ds)
environment_answered exports ds refusal told e h is at =
    answer (LetsIn exports ds) told e at (λ f some. (refusal, env_refused exports ds refusal f h (sym is ∙ some), sym is ∙ some))

-- a refusal goes on as it is
refused_on : {X Y : Type 0} (P : Result X Fault → Type 0) (Q : Result Y Fault → Type 0) → ((f : Fault) → P (Err f) → Q (Err f)) → (e : FrontFault) → OnTold (Err e) P → OnTold (Err e) Q
refused_on P Q on (Refused f) h = on f h
refused_on P Q on Memory h = tt

pub lexemes_refused : (vs : List NamedText) (bytes : List ℕ) (ds : List Directive) (e : FrontFault) → OnTold {X = List Lexeme} (Err e) (NamesLexemes vs ds) → OnTold {X = ArticleTree} (Err e) (HasTree vs bytes ds)
lexemes_refused vs bytes ds = refused_on (NamesLexemes vs ds) (HasTree vs bytes ds) (λ f h. no_lexemes f h)

pub tokens_refused : (vs : List NamedText) (bytes : List ℕ) (ds : List Directive) (ls : List Lexeme) (e : FrontFault) → NamesLexemes vs ds (Ok ls) → OnTold {X = TokenList} (Err e) (CutsTokens ls bytes) → OnTold {X = ArticleTree} (Err e) (HasTree vs bytes ds)
tokens_refused vs bytes ds ls e n = refused_on (CutsTokens ls bytes) (HasTree vs bytes ds) (λ f h. no_tokens ls f n h) e

pub tree_found : (vs : List NamedText) (bytes : List ℕ) (ds : List Directive) (ls : List Lexeme) (ts : TokenList) (r : Result ArticleTree FrontFault) → NamesLexemes vs ds (Ok ls) → CutsTokens ls bytes (Ok ts) → OnTold r (SpellsTree ts) → OnTold r (HasTree vs bytes ds)
tree_found vs bytes ds ls ts (Ok tree) n c h = has_tokens ls ts (Ok tree) n c h
tree_found vs bytes ds ls ts (Err (Refused f)) n c h = has_tokens ls ts (Err f) n c h
tree_found vs bytes ds ls ts (Err Memory) n c h = tt

pub no_head_found : (vs : List NamedText) (exports : List Export) (bytes : List ℕ) (e : FrontFault) → OnTold {X = List Directive} (Err e) (ReadsHead bytes) → OnTold {X = Front} (Err e) (IsFront vs exports bytes)
no_head_found vs exports bytes = refused_on (ReadsHead bytes) (IsFront vs exports bytes) (λ f h. no_head f h)

pub no_tree_found : (vs : List NamedText) (exports : List Export) (bytes : List ℕ) (ds : List Directive) (e : FrontFault) → ReadsHead bytes (Ok ds) → OnTold {X = ArticleTree} (Err e) (HasTree vs bytes ds) → OnTold {X = Front} (Err e) (IsFront vs exports bytes)
no_tree_found vs exports bytes ds e r = refused_on (HasTree vs bytes ds) (IsFront vs exports bytes) (λ f h. no_tree ds f r h) e

pub no_environment_found : (vs : List NamedText) (exports : List Export) (bytes : List ℕ) (ds : List Directive) (tree : ArticleTree) (e : FrontFault) → ReadsHead bytes (Ok ds) → HasTree vs bytes ds (Ok tree) → OnTold {X = Environment} (Err e) (LetsIn exports ds) → OnTold {X = Front} (Err e) (IsFront vs exports bytes)
no_environment_found vs exports bytes ds tree e r t = refused_on (LetsIn exports ds) (IsFront vs exports bytes) (λ f h. no_environment ds tree f r t h) e

pub front_found : (vs : List NamedText) (exports : List Export) (bytes : List ℕ) (x : Front) → ReadsHead bytes (Ok x.head) → HasTree vs bytes x.head (Ok x.tree) → LetsIn exports x.head (Ok x.environment) → IsFront vs exports bytes (Ok x)
front_found vs exports bytes x r t l = front x r t l

-- the same where the environment part that was read is the one that was looked at

pub no_tree_found_at : (vs : List NamedText) (exports : List Export) (bytes : List ℕ) (ds es : List Directive) (e : FrontFault) → ReadsHead bytes (Ok ds) → OnTold {X = ArticleTree} (Err e) (HasTree vs bytes es) → es ≡ ds → OnTold {X = Front} (Err e) (IsFront vs exports bytes)
no_tree_found_at vs exports bytes ds es e r t same = no_tree_found vs exports bytes ds e r (subst (λ xs. OnTold {X = ArticleTree} (Err e) (HasTree vs bytes xs)) same t)

pub no_environment_found_at : (vs : List NamedText) (exports : List Export) (bytes : List ℕ) (ds es : List Directive) (tree : ArticleTree) (e : FrontFault) → ReadsHead bytes (Ok ds) → HasTree vs bytes ds (Ok tree) → OnTold {X = Environment} (Err e) (LetsIn exports es) → es ≡ ds → OnTold {X = Front} (Err e) (IsFront vs exports bytes)
no_environment_found_at vs exports bytes ds es tree e r t l same = no_environment_found vs exports bytes ds tree e r t (subst (λ xs. OnTold {X = Environment} (Err e) (LetsIn exports xs)) same l)

-- the same from an answer and what it is

so_refused : {X Y : Type 0} (P : Result X Fault → Type 0) (Q : Result Y Fault → Type 0) → ((f : Fault) → P (Err f) → Q (Err f)) → (x : Result X FrontFault) (e : FrontFault) → x ≡ Err e → OnTold x P → OnTold {X = Y} (Err e) Q
so_refused P Q on x e is h = refused_on P Q on e (subst (λ y. OnTold y P) is h)

so_found : {X : Type 0} (P : Result X Fault → Type 0) (x : Result X FrontFault) (y : X) → x ≡ Ok y → OnTold x P → P (Ok y)
so_found P x y is h = subst (λ z. OnTold z P) is h

pub lexemes_refused_so : (vs : List NamedText) (bytes : List ℕ) (ds : List Directive) (x : Result (List Lexeme) FrontFault) (e : FrontFault) → OnTold x (NamesLexemes vs ds) → x ≡ Err e → OnTold {X = ArticleTree} (Err e) (HasTree vs bytes ds)
lexemes_refused_so vs bytes ds x e h is = so_refused (NamesLexemes vs ds) (HasTree vs bytes ds) (λ f k. no_lexemes f k) x e is h

pub tokens_refused_so : (vs : List NamedText) (bytes : List ℕ) (ds : List Directive) (w : Result (List Lexeme) FrontFault) (ls : List Lexeme) (x : Result TokenList FrontFault) (e : FrontFault) → OnTold w (NamesLexemes vs ds) → w ≡ Ok ls → OnTold x (CutsTokens ls bytes) → x ≡ Err e → OnTold {X = ArticleTree} (Err e) (HasTree vs bytes ds)
tokens_refused_so vs bytes ds w ls x e n at h is = so_refused (CutsTokens ls bytes) (HasTree vs bytes ds) (λ f k. no_tokens ls f (so_found (NamesLexemes vs ds) w ls at n) k) x e is h

pub tree_found_so : (vs : List NamedText) (bytes : List ℕ) (ds : List Directive) (w : Result (List Lexeme) FrontFault) (ls : List Lexeme) (x : Result TokenList FrontFault) (ts : TokenList) (r : Result ArticleTree FrontFault) → OnTold w (NamesLexemes vs ds) → w ≡ Ok ls → OnTold x (CutsTokens ls bytes) → x ≡ Ok ts → OnTold r (SpellsTree ts) → OnTold r (HasTree vs bytes ds)
tree_found_so vs bytes ds w ls x ts r n at c is h = tree_found vs bytes ds ls ts r (so_found (NamesLexemes vs ds) w ls at n) (so_found (CutsTokens ls bytes) x ts is c) h

pub no_head_found_so : (vs : List NamedText) (exports : List Export) (bytes : List ℕ) (x : Result (List Directive) FrontFault) (e : FrontFault) → OnTold x (ReadsHead bytes) → x ≡ Err e → OnTold {X = Front} (Err e) (IsFront vs exports bytes)
no_head_found_so vs exports bytes x e h is = so_refused (ReadsHead bytes) (IsFront vs exports bytes) (λ f k. no_head f k) x e is h

pub no_tree_found_so : (vs : List NamedText) (exports : List Export) (bytes : List ℕ) (ds : List Directive) (x : Result ArticleTree FrontFault) (e : FrontFault) → ReadsHead bytes (Ok ds) → OnTold x (HasTree vs bytes ds) → x ≡ Err e → OnTold {X = Front} (Err e) (IsFront vs exports bytes)
no_tree_found_so vs exports bytes ds x e r h is = so_refused (HasTree vs bytes ds) (IsFront vs exports bytes) (λ f k. no_tree ds f r k) x e is h

pub no_environment_found_so : (vs : List NamedText) (exports : List Export) (bytes : List ℕ) (ds : List Directive) (tree : ArticleTree) (x : Result Environment FrontFault) (e : FrontFault) → ReadsHead bytes (Ok ds) → HasTree vs bytes ds (Ok tree) → OnTold x (LetsIn exports ds) → x ≡ Err e → OnTold {X = Front} (Err e) (IsFront vs exports bytes)
no_environment_found_so vs exports bytes ds tree x e r t h is = so_refused (LetsIn exports ds) (IsFront vs exports bytes) (λ f k. no_environment ds tree f r t k) x e is h

pub ruleset tree_rules = (lexemes_refused, tokens_refused, tree_found, lexemes_refused_so, tokens_refused_so, tree_found_so)

pub ruleset environment_rules = (no_environment_found, no_environment_found_so, front_found)

pub ruleset head_rules = (no_tree_found, no_tree_found_so)

pub ruleset front_rules = (no_head_found, no_head_found_so)
