-- The sets of tokens that parts of clusters begin with.
use Rattle.std.specs.Prelude.{Bool, true, false, List, [], ◌∷◌, if◌then◌else◌}
use Rattle.mz_base.specs.declared.token.MarkedToken.{MarkedToken}
use Rattle.mz_pterm.specs.declared.sign.Sign.{Sign}
use Rattle.mz_pterm.specs.declared.sign.Sign.TheVariants as signs
use Rattle.mz_pterm.specs.Sign.{sign_of}
use Rattle.mz_ppattern.specs.Words.{is_arrow}
use Rattle.mz_pcluster.specs.declared.kinds.ClusterKind.{ClusterKind}
use Rattle.mz_pcluster.specs.declared.kinds.ClusterKind.TheVariants as cluster_kinds

abbrev pub is_for : Sign → Bool
is_for signs.For = true
is_for _ = false

abbrev pub begins_for_type : MarkedToken → Bool
begins_for_type t = is_for (sign_of t)

abbrev pub is_attribute : Sign → Bool
is_attribute signs.Attribute = true
is_attribute _ = false

abbrev pub begins_attribute : MarkedToken → Bool
begins_attribute t = is_attribute (sign_of t)

-- Which cluster begins with an identifier, by the token behind it.
abbrev pub kind_behind : Sign → ClusterKind
kind_behind signs.Attribute = cluster_kinds.Adjectives
kind_behind _ = cluster_kinds.Term

abbrev pub second_kind : List MarkedToken → ClusterKind
second_kind [] = cluster_kinds.Term
second_kind (n ∷ rest) = kind_behind (sign_of n)

abbrev pub first_kind : Sign → List MarkedToken → ClusterKind
first_kind signs.Non rest = cluster_kinds.Adjectives
first_kind signs.Attribute rest = cluster_kinds.Adjectives
first_kind signs.Identifier rest = second_kind rest
first_kind signs.Open rest = cluster_kinds.Group
first_kind _ rest = cluster_kinds.Term

-- Which cluster the next tokens begin, if any.
abbrev pub cluster_kind : List MarkedToken → ClusterKind
cluster_kind [] = cluster_kinds.Term
cluster_kind (t ∷ rest) = (if is_arrow t then cluster_kinds.Arrow else first_kind (sign_of t) rest)
