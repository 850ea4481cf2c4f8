-- What a text is before its items are read: its tree and what its environment part lets in, or the one fault.
use Rattle.std.specs.Prelude.{◌≡◌, ℕ, List, Option, Some, None, Result, Ok, Err}
use Rattle.mz_base.specs.NamedText.{NamedText}
use Rattle.mz_base.specs.TokenList.{TokenList}
use Rattle.mz_base.specs.declared.head.Directive.{Directive}
use Rattle.mz_core.specs.declared.outcome.Export.{Export}
use Rattle.mz_core.specs.declared.fault.Fault.{Fault}
use Rattle.mz_lex.specs.BuiltIn.{built_in_lexemes}
use Rattle.mz_lex.specs.Cut.{Switch, Whole, IsCut, IsStopped}
use Rattle.mz_lex.specs.Head.{IsHeadOf, IsHeadRefused}
use Rattle.mz_lex.specs.Table.{IsTableOf, IsTableFault}
use Rattle.mz_lex.specs.declared.head_fault.HeadFault.{HeadFault}
use Rattle.mz_lex.specs.declared.lex_fault.LexFault.{LexFault}
use Rattle.mz_lex.specs.declared.lexeme.Lexeme.{Lexeme}
use Rattle.mz_lex.specs.declared.table_fault.TableFault.{TableFault}
use Rattle.mz_pterm.specs.declared.parse.ParseFault.{ParseFault}
use Rattle.mz_parse_laws.specs.Article.{ParsesArticle}
use Rattle.mz_tree_item.specs.declared.article.ArticleTree.{ArticleTree}
use Rattle.mz_environment.specs.declared.environment.Environment.{Environment}
use Rattle.mz_env.specs.LetIn.{LetIn}
use Rattle.mz_env.specs.declared.env_fault.EnvFault.{EnvFault}
use Rattle.mz_first.specs.Faults.{head_told, lex_told}
use Rattle.mz_front.specs.Told.{table_told, parse_told, env_told}
use Rattle.mz_front.specs.declared.front.Front.{Front}
use Rattle.mz_front.specs.declared.front_fault.FrontFault.{FrontFault}
use Rattle.mz_front.specs.declared.front_fault.FrontFault.TheVariants.{Refused, Memory}

-- the environment part of the text, or its fault
abbrev pub ReadsHead : List ℕ → Result (List Directive) Fault → Type 0
ReadsHead bytes (Ok ds) = IsHeadOf bytes ds
ReadsHead bytes (Err f) = (refusal : HeadFault) × IsHeadRefused bytes refusal × (head_told refusal ≡ Some f)

-- the lexemes that an environment part names, by these vocabularies
abbrev pub NamesLexemes : List NamedText → List Directive → Result (List Lexeme) Fault → Type 0
NamesLexemes vocabularies ds (Ok ls) = IsTableOf vocabularies ds ls
NamesLexemes vocabularies ds (Err f) = (refusal : TableFault) × IsTableFault vocabularies ds refusal × (table_told refusal ≡ Some f)

-- the tokens of the text: the lexemes count behind its first `begin`
abbrev pub CutsTokens : List Lexeme → List ℕ → Result TokenList Fault → Type 0
CutsTokens ls bytes (Ok ts) = IsCut built_in_lexemes (Switch ls) bytes ts.items (Whole ts.end)
CutsTokens ls bytes (Err f) = (refusal : LexFault) × IsStopped built_in_lexemes (Switch ls) bytes refusal × (lex_told refusal ≡ Some f)

-- the article that the tokens spell
abbrev pub SpellsTree : TokenList → Result ArticleTree Fault → Type 0
SpellsTree ts (Ok tree) = ParsesArticle ts (Ok tree)
SpellsTree ts (Err f) = (refusal : ParseFault) × ParsesArticle ts (Err refusal) × (parse_told refusal ≡ Some f)

-- what the environment part lets in of the exports
abbrev pub LetsIn : List Export → List Directive → Result Environment Fault → Type 0
LetsIn exports ds (Ok e) = LetIn ds exports (Ok e)
LetsIn exports ds (Err f) = (refusal : EnvFault) × LetIn ds exports (Err refusal) × (env_told refusal ≡ Some f)

-- The tree of a text with this environment part: the symbols, the tokens and the tree are found one after another, and the
-- first that can't be found is the fault.
pub data HasTree (vocabularies : List NamedText) (bytes : List ℕ) (ds : List Directive) : Result ArticleTree Fault → Type 0 where
  no_lexemes : (f : Fault) → NamesLexemes vocabularies ds (Err f) → HasTree vocabularies bytes ds (Err f)
  no_tokens : (ls : List Lexeme) (f : Fault) → NamesLexemes vocabularies ds (Ok ls) → CutsTokens ls bytes (Err f) → HasTree vocabularies bytes ds (Err f)
  has_tokens : (ls : List Lexeme) (ts : TokenList) (o : Result ArticleTree Fault) → NamesLexemes vocabularies ds (Ok ls) → CutsTokens ls bytes (Ok ts) → SpellsTree ts o → HasTree vocabularies bytes ds o

-- What the text is: the environment part, the tree and the environment are found one after another, and the first that can't
-- be found is the fault.
pub data IsFront (vocabularies : List NamedText) (exports : List Export) (bytes : List ℕ) : Result Front Fault → Type 0 where
  no_head : (f : Fault) → ReadsHead bytes (Err f) → IsFront vocabularies exports bytes (Err f)
  no_tree : (ds : List Directive) (f : Fault) → ReadsHead bytes (Ok ds) → HasTree vocabularies bytes ds (Err f) → IsFront vocabularies exports bytes (Err f)
  no_environment : (ds : List Directive) (tree : ArticleTree) (f : Fault) → ReadsHead bytes (Ok ds) → HasTree vocabularies bytes ds (Ok tree) → LetsIn exports ds (Err f) → IsFront vocabularies exports bytes (Err f)
  front : (x : Front) → ReadsHead bytes (Ok x.head) → HasTree vocabularies bytes x.head (Ok x.tree) → LetsIn exports x.head (Ok x.environment) → IsFront vocabularies exports bytes (Ok x)

-- a fact of what was found or of the fault; none where there was no memory
abbrev pub OnTold : {X : Type 0} → Result X FrontFault → (Result X Fault → Type 0) → Type 0
OnTold (Ok x) P = P (Ok x)
OnTold (Err (Refused f)) P = P (Err f)
OnTold (Err Memory) P = Unit {0}

-- how a refusal is answered: with its fault, or as want of memory
abbrev pub answered : Option Fault → FrontFault
answered (Some f) = Refused f
answered None = Memory
