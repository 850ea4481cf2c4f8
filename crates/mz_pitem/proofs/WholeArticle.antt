-- From a reading to the answer for a whole text.
use Rattle.std.proofs.Common.{◌≡◌, ℕ, ◌+◌, ◌-◌, ◌<◌, ◌≤◌, ◌++◌, true, List, [], ◌∷◌, drop, length, length-append, refl, sym, ap, subst, ◌∙◌, arith, Result, Ok, Err}
use Rattle.mz_base.specs.TokenList.{TokenList}
use Rattle.mz_base.specs.declared.place.Place.{Place}
use Rattle.mz_base.specs.declared.token.MarkedToken.{MarkedToken}
use Rattle.mz_forms.specs.declared.refusal.Refusal.{Refusal}
use Rattle.mz_forms.specs.Form.{Found}
use Rattle.mz_forms.specs.Parse.{TheTree}
use Rattle.mz_forms.specs.Reading.{Refuses}
use Rattle.mz_forms.proofs.Places.{going, left, rest_is_all, the_tree, the_tree_going}
use Rattle.mz_marks.specs.Marks.{AreMarked}
use Rattle.mz_pterm.specs.declared.parse.ParseFault.{ParseFault}
use Rattle.mz_pterm.specs.declared.parse.ParseFault.TheVariants as faults
use Rattle.mz_pterm.specs.Parses.{fault_of, Parses}
use Rattle.mz_pterm.proofs.Parsed.{not_parsed}
use Rattle.mz_tree_item.specs.declared.article.ArticleTree.{ArticleTree}
use Rattle.mz_tree_item.specs.Grammar.{article}
use Rattle.mz_parse_laws.specs.Article.{IsArticle, ParsesArticle}
use Rattle.mz_pitem.specs.Ended.{ended_of}
use Rattle.mz_pitem.specs.Forms.{article_form}

-- a tree that goes up to where tokens are left
tree_up_to : (tokens : List MarkedToken) (tree : ArticleTree) (after : List MarkedToken) → Found article_form 128 tokens tree after → TheTree article 128 tokens 0 tree (length tokens - length after)
tree_up_to tokens tree after f = the_tree_going article_form (λ _ _. true) 128 tokens 0 tree _ (the_tree article_form 128 tokens after 0 tree (omega arith) f)

pub whole_read : (tokens : List MarkedToken) (end : Place) (tree : ArticleTree) (after : List MarkedToken) → Found article_form 128 tokens tree after → after ≡ [] → IsArticle tokens end (Ok tree)
whole_read tokens end tree after f e =
    let T : ℕ → Type 0 = λ n. TheTree article 128 tokens 0 tree n in
    let none : length after ≡ 0 = ap (λ z. length z) e in
    subst T (omega (arith, none)) (tree_up_to tokens tree after f)

pub part_read : (tokens : List MarkedToken) (end : Place) (tree : ArticleTree) (after : List MarkedToken) (t : MarkedToken) (rest : List MarkedToken) → Found article_form 128 tokens tree after → after ≡ t ∷ rest → IsArticle tokens end (Err (faults.Unexpected t.token.place))
part_read tokens end tree after t rest f e = (length tokens - length after, before, (tree_up_to tokens tree after f).longest, (t, rest, left_is ∙ e, refl))
  where
    before : length tokens - length after < length tokens
    before =
        let all : length tokens ≡ length (article_form.spell tree) + length after = ap (λ z. length z) f.found.split ∙ length-append (article_form.spell tree) after in
        let some : 1 ≤ length after = rw e (omega arith) in
        omega (arith, all, some)

    left_is : drop (length tokens - length after) tokens ≡ after
    left_is = left tokens (article_form.spell tree) after 0 (omega arith) f.found.split

pub read_so : (tokens : List MarkedToken) (end : Place) (tree : ArticleTree) (after : List MarkedToken) → Found article_form 128 tokens tree after → IsArticle tokens end (ended_of after tree)
read_so tokens end tree [] f = whole_read tokens end tree [] f refl
read_so tokens end tree (t ∷ rest) f = part_read tokens end tree (t ∷ rest) t rest f refl

abbrev same_article : ArticleTree → ArticleTree
same_article x = x

read_fault : (tokens : List MarkedToken) (end : Place) (e : ParseFault) → Parses (going article_form (λ _ _. true)) same_article tokens end 0 (Err e) → IsArticle tokens end (Err e)
read_fault tokens end (faults.Unexpected p) h = (h.0, h.1, h.2.longest, h.3)
read_fault tokens end (faults.TooDeep p) h = h
read_fault tokens end (faults.EndsEarly p) h = h
read_fault tokens end faults.Memory h = tt

pub not_read : (tokens : List MarkedToken) (end : Place) (e : Refusal) (after : List MarkedToken) → Refuses article_form 128 tokens e after → IsArticle tokens end (Err (fault_of after end e))
not_read tokens end e after h =
    let R : List MarkedToken → Type 0 = λ z. Refuses article_form 128 z e after in
    read_fault tokens end (fault_of after end e) (not_parsed article_form (λ _ _. true) same_article tokens end 0 (omega arith) e after (subst R (sym (rest_is_all 0 tokens)) h))

-- From the tokens with their marks to the tokens of a text.
parses : (tokens : TokenList) (r : Result ArticleTree ParseFault) (all : List MarkedToken) → AreMarked tokens.items all → IsArticle all tokens.end r → ParsesArticle tokens r
parses tokens (Ok tree) all m h = (all, m, h)
parses tokens (Err faults.Memory) all m h = tt
parses tokens (Err (faults.Unexpected p)) all m h = (all, m, h)
parses tokens (Err (faults.TooDeep p)) all m h = (all, m, h)
parses tokens (Err (faults.EndsEarly p)) all m h = (all, m, h)

pub parses_marked : (tokens : TokenList) (r : Result ArticleTree ParseFault) (all handed : List MarkedToken) (end : Place) → AreMarked tokens.items all → handed ≡ all → end ≡ tokens.end → IsArticle handed end r → ParsesArticle tokens r
parses_marked tokens r all handed end m e f h =
    let At : List MarkedToken → Type 0 = λ z. IsArticle z tokens.end r in
    let To : Place → Type 0 = λ z. IsArticle handed z r in
    parses tokens r all m (subst At e (subst To f h))
