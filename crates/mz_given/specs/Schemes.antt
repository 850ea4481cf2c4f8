-- The schemes that `from` cites.
use Rattle.std.specs.Prelude.{ℕ, Bool, nat_eq, bytes_eq, List, reverse, find, Option, Some, None}
use Rattle.std.specs.List.{filter}
use Rattle.mz_base.specs.declared.place.Place.{Place}
use Rattle.mz_core.specs.declared.scheme.Scheme.{Scheme}
use Rattle.mz_context.specs.declared.context.Context.{Context}
use Rattle.mz_context.specs.declared.labelled_schemes.LabelledScheme.{LabelledScheme}
use Rattle.mz_environment.specs.Keys.{scheme_of_article}
use Rattle.mz_environment.specs.declared.cited.CitedScheme.{CitedScheme}
use Rattle.mz_environment.specs.declared.environment.Environment.{Environment}
use Rattle.mz_tree_proof.specs.declared.references.SchemeReferenceTree.{SchemeReferenceTree}
use Rattle.mz_tree_proof.specs.declared.references.SchemeReferenceTree.TheVariants.{Label, Numbered}
use Rattle.mz_cited.specs.Cited.{article_number, value_of}

abbrev pub is_numbered : ℕ → CitedScheme → Bool
is_numbered n s = nat_eq s.number n

abbrev pub scheme_in : Option CitedScheme → Option Scheme
scheme_in None = None
scheme_in (Some s) = Some s.scheme

-- the scheme of the article with the number, where both are known and there is one that may be cited
abbrev pub scheme_numbered : Environment → Option ℕ → Option ℕ → Option Scheme
scheme_numbered e None o = None
scheme_numbered e (Some a) None = None
scheme_numbered e (Some a) (Some n) = scheme_in (find (is_numbered n) (filter (scheme_of_article a) e.schemes))

abbrev pub has_label : List ℕ → LabelledScheme → Bool
has_label label s = bytes_eq s.label label

abbrev pub number_in : Option LabelledScheme → Option ℕ
number_in None = None
number_in (Some s) = Some s.number

-- the number of the article's latest scheme with the label
abbrev pub scheme_labelled : Context → List ℕ → Option ℕ
scheme_labelled c label = number_in (find (has_label label) (reverse c.schemes))

-- the scheme that is cited: the article's own by a label, any by the article's name and its number there
abbrev pub scheme_cited : Environment → Context → SchemeReferenceTree → Option Scheme
scheme_cited e c (Label w) = scheme_numbered e (Some c.article) (scheme_labelled c w.spelling)
scheme_cited e c (Numbered article colon sch number) = scheme_numbered e (article_number article.spelling) (value_of number.spelling)

-- the place of the reference: that of its first token
abbrev pub scheme_place : SchemeReferenceTree → Place
scheme_place (Label w) = w.place
scheme_place (Numbered article colon sch number) = article.place
