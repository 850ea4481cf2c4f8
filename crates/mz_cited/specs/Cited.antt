-- What references cite.
use Rattle.std.specs.Prelude.{ℕ, ◌+◌, ◌-◌, ◌*◌, Bool, true, false, ◌&&◌, nat_eq, nat_le, if◌then◌else◌, List, [], ◌∷◌, ◌++◌, map, filter, find, Option, Some, None, Result, Ok, Err}
use Rattle.mz_base.specs.Bytes.{raised}
use Rattle.mz_base.specs.Name.{is_name, number_of}
use Rattle.mz_base.specs.declared.place.Place.{Place}
use Rattle.mz_core.specs.Statement.{Statement}
use Rattle.mz_context.specs.declared.context.Context.{Context}
use Rattle.mz_context.specs.declared.labelled.LabelledStatement.{LabelledStatement}
use Rattle.mz_environment.specs.Keys.{of_article}
use Rattle.mz_environment.specs.declared.cited.CitedStatement.{CitedStatement}
use Rattle.mz_environment.specs.declared.environment.Environment.{Environment}
use Rattle.mz_names.specs.Names.{labelled_as}
use Rattle.mz_tree.specs.declared.chain.Next.{Next}
use Rattle.mz_tree.specs.declared.lists.Separated.{Separated}
use Rattle.mz_tree.specs.declared.word.Comma.{Comma}
use Rattle.mz_tree_proof.specs.declared.references.NumberTree.{NumberTree}
use Rattle.mz_tree_proof.specs.declared.references.NumberTree.TheVariants.{Theorem, Definition}
use Rattle.mz_tree_proof.specs.declared.references.ReferenceTree.{ReferenceTree}
use Rattle.mz_tree_proof.specs.declared.references.ReferenceTree.TheVariants.{Label, Numbered}

-- the value of decimal digits behind those of n
abbrev pub value_from : ℕ → List ℕ → ℕ
value_from n [] = n
value_from n (b ∷ bs) = value_from (10 * n + (b - 48)) bs

-- the greatest number of 64 bits
abbrev pub most : ℕ
most = 18446744073709551615

abbrev pub if_within : ℕ → Option ℕ
if_within n = if nat_le n most then Some n else None

-- the value of a numeral, where it has at most 64 bits; no item has a greater number
abbrev pub value_of : List ℕ → Option ℕ
value_of bs = if_within (value_from 0 bs)

-- the number of the article's name that the identifier spells, with its letters raised
abbrev pub article_number : List ℕ → Option ℕ
article_number bs = if is_name bs then Some (number_of (raised bs)) else None

-- the statement is the theorem, or the definitional theorem, with the number
abbrev pub is_numbered : Bool → ℕ → CitedStatement → Bool
is_numbered true n s = s.is_definition && nat_eq s.number n
is_numbered false n s = (if s.is_definition then false else true) && nat_eq s.number n

abbrev pub statement_in : Option CitedStatement → Option Statement
statement_in None = None
statement_in (Some s) = Some s.statement

-- the statement of the article with the number, where both are known and there is one that may be cited
abbrev pub statement_numbered : Environment → Option ℕ → Bool → Option ℕ → Option Statement
statement_numbered e None definition o = None
statement_numbered e (Some a) definition None = None
statement_numbered e (Some a) definition (Some n) = statement_in (find (is_numbered definition n) (filter (of_article a) e.theorems))

abbrev pub cited_by_number : Environment → Option ℕ → NumberTree → Option Statement
cited_by_number e a (Theorem w) = statement_numbered e a false (value_of w.spelling)
cited_by_number e a (Definition place w) = statement_numbered e a true (value_of w.spelling)

-- the trees of a list with commas
abbrev pub tree_of : {X : Type 0} → Next Comma X → X
tree_of x = x.tree

abbrev pub members : {X : Type 0} → Separated X → List X
members xs = xs.first ∷ map tree_of xs.more

-- a statement in front of others, where there are both
abbrev pub in_front_of : Option Statement → Option (List Statement) → Option (List Statement)
in_front_of None o = None
in_front_of (Some s) None = None
in_front_of (Some s) (Some ss) = Some (s ∷ ss)

-- what numbers cite, where each of them cites something
abbrev pub cited_by_numbers : Environment → Option ℕ → List NumberTree → Option (List Statement)
cited_by_numbers e a [] = Some []
cited_by_numbers e a (n ∷ ns) = in_front_of (cited_by_number e a n) (cited_by_numbers e a ns)

abbrev pub labelled_alone : Option LabelledStatement → Option (List Statement)
labelled_alone None = None
labelled_alone (Some s) = Some (s.statement ∷ [])

-- what a reference cites: the latest statement with the label, or the theorems and definitional theorems of an article
abbrev pub cited_by : Environment → Context → ReferenceTree → Option (List Statement)
cited_by e c (Label w) = labelled_alone (labelled_as c w.spelling)
cited_by e c (Numbered article colon ns) = cited_by_numbers e (article_number article.spelling) (members ns)

-- the place of a reference: that of its first token
abbrev pub place_of : ReferenceTree → Place
place_of (Label w) = w.place
place_of (Numbered article colon ns) = article.place

-- what one reference cites in front of what the others do; or the place of the first that cites nothing
abbrev pub with_cited : Place → Option (List Statement) → Result (List Statement) Place → Result (List Statement) Place
with_cited place None o = Err place
with_cited place (Some ss) (Err p) = Err p
with_cited place (Some ss) (Ok ts) = Ok (ss ++ ts)

-- what references cite, in their order, a repeated one as often as it stands there
abbrev pub cites : Environment → Context → List ReferenceTree → Result (List Statement) Place
cites e c [] = Ok []
cites e c (r ∷ rs) = with_cited (place_of r) (cited_by e c r) (cites e c rs)
